-- A function's side that grows: what dominated still does, and what was denoted still is.
use Rattle.std.proofs.Common.{◌≡◌, ◌≢◌, ℕ, true, false, [], ◌∷◌, inl, inr, refl, sym, ◌∙◌, ap, subst}
use Rattle.clif_paths.specs.Places.{Place, start, Arm, Edges, Path, end_of, Follows, Visits, Dominates}
use Rattle.clif_paths.specs.State.{Program, Kind, unborn, born, pending, complete, zero_of, Definition, Function, home_of}
use Rattle.clif_paths.specs.Denotation.{Holder, defined, denotes, denotation}
use Rattle.clif_paths.specs.Sound.{Allowed, ArgumentsThere, Holds}
use Rattle.clif_paths.proofs.PathLemmas.{dec_place, dominates_before}
use Rattle.clif_paths.proofs.Executing.{denotes-past, denotes-here}

-- no edge leads to the virtual start
pub record Rooted (edges : Edges) : Type 0 where
  pub rooted : (arm : Arm) → arm.target ≡ start → edges arm ≡ false

pub rooted_allowed : {program : Program} {edges : Edges} → Allowed program edges → Rooted edges
rooted_allowed a = record { rooted = a.rooted }

pub never_at_start : {edges : Edges} → Rooted edges → (arm : Arm) → edges arm ≡ true → arm.target ≢ start
never_at_start r arm e at_start = let f = r.rooted arm at_start in cc

pub never_visits_start : {edges : Edges} → Rooted edges → (path : Path) → Follows edges path → Visits start path → ⊥
never_visits_start r [] f v = v
never_visits_start r (arm ∷ path) f (inl e) = never_at_start r arm f.0 (sym e)
never_visits_start r (arm ∷ path) f (inr v) = never_visits_start r path f.2 v

-- what dominates the end of a path is not the virtual start
pub dominator_written : {edges : Edges} {h : Place} → Rooted edges → (path : Path) → Follows edges path → Dominates edges h (end_of path) → h ≢ start
dominator_written {edges} {h} r path f d e =
    never_visits_start r path f (subst (λ p. Visits p path) e (d.on_every_path path f refl))

-- the virtual start dominates only what no path reaches
pub start_dominates_nothing : {edges : Edges} {h c : Place} → Rooted edges → h ≡ start → Dominates edges h c → (path : Path) → Follows edges path → end_of path ≡ c → ⊥
start_dominates_nothing {edges} {h} r e d path f at_end =
    never_visits_start r path f (subst (λ p. Visits p path) e (d.on_every_path path f at_end))

-- values that are there keep their denotation, at the end of this path
pub record SameAt (edges : Edges) (program : Program) (function function' : Function) (path : Path) : Type 0 where
  pub same :
      (u : ℕ) → Dominates edges (home_of function u) (end_of path) →
      denotes program function' path (function.resolve u) ≡ denotes program function path (function.resolve u)

-- The new definition of each value that was there before has the same home, and gives the same at a visit of it,
-- where one may use that values kept their denotations on the path before.
pub record DefinedAlike (edges : Edges) (program : Program) (function function' : Function) : Type 0 where
  pub same_home :
      (u : ℕ) → home_of function u ≢ start →
      (function'.definition (function.resolve u)).home ≡ home_of function u
  pub same_visit :
      (u : ℕ) (arm : Arm) (path : Path) → Follows edges (arm ∷ path) → home_of function u ≡ arm.target →
      SameAt edges program function function' path →
      defined program function' arm path (λ w. denotes program function' path w) (function.resolve u) (function'.definition (function.resolve u)).kind ≡
      defined program function arm path (λ w. denotes program function path w) (function.resolve u) (function.definition (function.resolve u)).kind

same_at_step :
    {edges : Edges} {program : Program} {function function' : Function} → Rooted edges → DefinedAlike edges program function function' →
    (arm : Arm) (path : Path) → Follows edges (arm ∷ path) → SameAt edges program function function' path →
    (u : ℕ) → Dominates edges (home_of function u) arm.target → Dec (home_of function u ≡ arm.target) →
    denotes program function' (arm ∷ path) (function.resolve u) ≡ denotes program function (arm ∷ path) (function.resolve u)
same_at_step {edges} {program} {function} {function'} r alike arm path f before u d (yes e) =
    let written : home_of function u ≢ start = dominator_written r (arm ∷ path) f d in
    denotes-here program function' arm path (function.resolve u) (alike.same_home u written ∙ e) ∙
    alike.same_visit u arm path f e before ∙
    sym (denotes-here program function arm path (function.resolve u) e)
same_at_step {edges} {program} {function} {function'} r alike arm path f before u d (no ne) =
    let written : home_of function u ≢ start = dominator_written r (arm ∷ path) f d in
    denotes-past program function' arm path (function.resolve u) (λ e. ne (sym (alike.same_home u written) ∙ e)) ∙
    before.same u (dominates_before arm path f ne d) ∙
    sym (denotes-past program function arm path (function.resolve u) ne)

-- so values that are there keep their denotation on every path
pub same_at :
    {edges : Edges} {program : Program} {function function' : Function} → Rooted edges → DefinedAlike edges program function function' →
    (path : Path) → Follows edges path → SameAt edges program function function' path
same_at r alike [] f = record { same = λ u d. absurd (d.on_every_path [] tt refl) }
same_at {edges} {program} {function} {function'} r alike (arm ∷ path) f =
    let before : SameAt edges program function function' path = same_at r alike path f.2 in
    record { same = λ u d. same_at_step r alike arm path f before u d (dec_place (home_of function u) arm.target) }

-- a value whose definition and arguments stay is defined alike
alike_by_kind :
    (edges : Edges) (program : Program) (function function' : Function) →
    ArgumentsThere edges function →
    (u : ℕ) (arm : Arm) (path : Path) → Follows edges (arm ∷ path) → home_of function u ≡ arm.target →
    SameAt edges program function function' path →
    ((x : ℕ) → (function.definition (function.resolve u)).kind ≡ complete x →
    function'.resolve (function'.argument (function.resolve u) arm) ≡ function.resolve (function.argument (function.resolve u) arm)) →
    (kind : Kind) → (function.definition (function.resolve u)).kind ≡ kind →
    defined program function' arm path (λ w. denotes program function' path w) (function.resolve u) kind ≡
    defined program function arm path (λ w. denotes program function path w) (function.resolve u) kind
alike_by_kind edges program function function' there u arm path f e before same unborn k = refl
alike_by_kind edges program function function' there u arm path f e before same (born n) k = refl
alike_by_kind edges program function function' there u arm path f e before same (pending x) k = refl
alike_by_kind edges program function function' there u arm path f e before same (complete x) k =
    let a : ℕ = function.argument (function.resolve u) arm in
    let d : Dominates edges (home_of function a) (end_of path) =
    subst (λ p. Dominates edges (home_of function a) p) f.1 (there.at_source u arm k e f.0) in
    ap (λ w. denotes program function' path w) (same x k) ∙ before.same a d
alike_by_kind edges program function function' there u arm path f e before same (zero_of x) k = refl

pub alike_visit :
    (edges : Edges) (program : Program) (function function' : Function) →
    ArgumentsThere edges function →
    (u : ℕ) (arm : Arm) (path : Path) → Follows edges (arm ∷ path) → home_of function u ≡ arm.target →
    SameAt edges program function function' path →
    function'.definition (function.resolve u) ≡ function.definition (function.resolve u) →
    ((x : ℕ) → (function.definition (function.resolve u)).kind ≡ complete x →
    function'.resolve (function'.argument (function.resolve u) arm) ≡ function.resolve (function.argument (function.resolve u) arm)) →
    defined program function' arm path (λ w. denotes program function' path w) (function.resolve u) (function'.definition (function.resolve u)).kind ≡
    defined program function arm path (λ w. denotes program function path w) (function.resolve u) (function.definition (function.resolve u)).kind
alike_visit edges program function function' there u arm path f e before same_definition same =
    ap
    (λ (d : Definition). defined program function' arm path (λ w. denotes program function' path w) (function.resolve u) d.kind)
    same_definition ∙
    alike_by_kind edges program function function' there u arm path f e before same (function.definition (function.resolve u)).kind refl

-- The new function refines the old one: where a value was there, it is there, and denotes the same.
pub record Refines (edges : Edges) (program : Program) (function function' : Function) : Type 0 where
  pub there : (u : ℕ) (place : Place) → Dominates edges (home_of function u) place → Dominates edges (home_of function' u) place
  pub same :
      (u : ℕ) (path : Path) → Follows edges path → Dominates edges (home_of function u) (end_of path) →
      denotation program function' path u ≡ denotation program function path u

-- what was held is held
pub holds_refined :
    {edges : Edges} {program : Program} {function function' : Function} {u : ℕ} {h : Holder} {place : Place} →
    Refines edges program function function' → Holds edges program function u h place → Holds edges program function' u h place
holds_refined {edges} {program} {function} {function'} {u} {h} {place} r held = record {
  there = r.there u place held.there;
  agrees = λ path f e.
      r.same u path f (subst (λ p. Dominates edges (home_of function u) p) (sym e) held.there) ∙ held.agrees path f e;
}

-- with the same aliases, definitions that are alike refine
moved_home :
    (edges : Edges) (u : ℕ) (function function' : Function) → Rooted edges →
    ((w : ℕ) → function'.resolve w ≡ function.resolve w) →
    (home_of function u ≢ start → (function'.definition (function.resolve u)).home ≡ home_of function u) →
    (place : Place) → Dominates edges (home_of function u) place → Dec (home_of function u ≡ start) → Dominates edges (home_of function' u) place
moved_home edges u function function' r resolve same place d (yes e) = record {
  on_every_path = λ path f at_end. absurd (start_dominates_nothing r e d path f at_end);
}
moved_home edges u function function' r resolve same place d (no ne) =
    subst
    (λ p. Dominates edges p place)
    (sym (ap (λ w. (function'.definition w).home) (resolve u) ∙ same ne))
    d

pub refines_alike :
    {edges : Edges} {program : Program} {function function' : Function} → Rooted edges →
    ((w : ℕ) → function'.resolve w ≡ function.resolve w) →
    DefinedAlike edges program function function' → Refines edges program function function'
refines_alike {edges} {program} {function} {function'} r resolve alike = record {
  there = λ u place d. moved_home edges u function function' r resolve (alike.same_home u) place d (dec_place (home_of function u) start);
  same = λ u path f d.
      ap (λ w. denotes program function' path w) (resolve u) ∙ (same_at r alike path f).same u d;
}
