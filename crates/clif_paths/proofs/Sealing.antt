-- Sealing a place: every unknown that came in there turns out to be what the variable held before.
use Rattle.std.proofs.Common.{◌≡◌, ℕ, Bool, true, false, cond, Option, None, Some, [], ◌∷◌, refl, sym, ◌∙◌, ap}
use Rattle.clif_paths.specs.Places.{Place, Arm, Edges, Path}
use Rattle.clif_paths.specs.State.{Origin, fresh, reads, Program, Kind, unborn, born, pending, complete, zero_of, Function, State}
use Rattle.clif_paths.specs.Denotation.{Instance, absent, zero, given, unknown, Holder, variable, name, after_assignment, at_home, instances, defined, denotes}
use Rattle.clif_paths.specs.Sound.{Allowed, Holds, SoundUnder, Sound}
use Rattle.clif_paths.specs.Steps.{with_sealed, CanSeal}
use Rattle.clif_paths.proofs.PathLemmas.{dec_place}
use Rattle.clif_paths.specs.Laws.{entered}
use Rattle.clif_paths.proofs.Executing.{entered-sealed, entered-unsealed, instances-variable, name-past, name-here, denotes-past, denotes-here}

abbrev with_arms : Program → (Place → Bool) → Edges → Program
with_arms program chosen into = record program {
  is_sealed = λ place. cond (chosen place) true (program.is_sealed place);
  arms = λ arm. cond (chosen arm.target) (into arm) (program.arms arm);
}

-- what an instance turns out to be once the places are sealed
unfoldable known : Program → (Place → Bool) → Instance → Instance
known program chosen absent = absent
known program chosen (zero x) = zero x
known program chosen (given n path) = given n path
known program chosen (unknown x []) = unknown x []
known program chosen (unknown x (arm ∷ path)) =
    cond (chosen arm.target) (instances program path (variable x)) (unknown x (arm ∷ path))

-- at the end of this path all instances are what the ones before the sealing turn out to be
record Known (program program' : Program) (chosen : Place → Bool) (path : Path) : Type 0 where
  pub all : (h : Holder) → instances program' path h ≡ known program' chosen (instances program path h)

sealed-same : (program : Program) (chosen : Place → Bool) (into : Edges) (p : Place) → chosen p ≡ true → (with_arms program chosen into).is_sealed p ≡ true
sealed-same program chosen into p e = rw e refl

sealed-other : (program : Program) (chosen : Place → Bool) (into : Edges) (p : Place) → chosen p ≡ false → (with_arms program chosen into).is_sealed p ≡ program.is_sealed p
sealed-other program chosen into p e = rw e refl

entered_other :
    (program : Program) (chosen : Place → Bool) (into : Edges) (arm : Arm) (path : Path) → Known program (with_arms program chosen into) chosen path →
    (x : ℕ) → chosen arm.target ≡ false → (sealed : Bool) → program.is_sealed arm.target ≡ sealed →
    entered (with_arms program chosen into) arm path x ≡ known (with_arms program chosen into) chosen (entered program arm path x)
unfolding known
entered_other program chosen into arm path before x ne true e =
    entered-sealed (with_arms program chosen into) arm path x (sealed-other program chosen into arm.target ne ∙ e) ∙
    before.all (variable x) ∙
    ap (λ i. known (with_arms program chosen into) chosen i) (sym (entered-sealed program arm path x e))
entered_other program chosen into arm path before x ne false e =
    let kept : known (with_arms program chosen into) chosen (unknown x (arm ∷ path)) ≡ unknown x (arm ∷ path) =
    rw ne refl in
    entered-unsealed (with_arms program chosen into) arm path x (sealed-other program chosen into arm.target ne ∙ e) ∙
    sym kept ∙
    ap (λ i. known (with_arms program chosen into) chosen i) (sym (entered-unsealed program arm path x e))

entered_known :
    (program : Program) (chosen : Place → Bool) (into : Edges) → ((p : Place) → chosen p ≡ true → program.is_sealed p ≡ false) →
    (arm : Arm) (path : Path) → Known program (with_arms program chosen into) chosen path →
    (x : ℕ) (c : Bool) → chosen arm.target ≡ c →
    entered (with_arms program chosen into) arm path x ≡ known (with_arms program chosen into) chosen (entered program arm path x)
unfolding known
entered_known program chosen into unsealed arm path before x true at =
    let found : known (with_arms program chosen into) chosen (unknown x (arm ∷ path)) ≡ instances (with_arms program chosen into) path (variable x) =
    rw at refl in
    entered-sealed (with_arms program chosen into) arm path x (sealed-same program chosen into arm.target at) ∙
    sym found ∙
    ap (λ i. known (with_arms program chosen into) chosen i)
    (sym (entered-unsealed program arm path x (unsealed arm.target at)))
entered_known program chosen into unsealed arm path before x false ne =
    entered_other program chosen into arm path before x ne (program.is_sealed arm.target) refl

variable_known :
    (program : Program) (chosen : Place → Bool) (into : Edges) → ((p : Place) → chosen p ≡ true → program.is_sealed p ≡ false) →
    (arm : Arm) (path : Path) → Known program (with_arms program chosen into) chosen path →
    (x : ℕ) (o : Option ℕ) →
    after_assignment (λ h. instances (with_arms program chosen into) path h) (entered (with_arms program chosen into) arm path x) o ≡
    known (with_arms program chosen into) chosen (after_assignment (λ h. instances program path h) (entered program arm path x) o)
variable_known program chosen into unsealed arm path before x None =
    entered_known program chosen into unsealed arm path before x (chosen arm.target) refl
variable_known program chosen into unsealed arm path before x (Some n) = before.all (name n)

name_by_origin :
    (program : Program) (chosen : Place → Bool) (into : Edges) → ((p : Place) → chosen p ≡ true → program.is_sealed p ≡ false) →
    (arm : Arm) (path : Path) → Known program (with_arms program chosen into) chosen path →
    (n : ℕ) (origin : Origin) →
    at_home (with_arms program chosen into) arm path (λ h. instances (with_arms program chosen into) path h) n origin ≡
    known (with_arms program chosen into) chosen (at_home program arm path (λ h. instances program path h) n origin)
unfolding known
name_by_origin program chosen into unsealed arm path before n fresh = refl
name_by_origin program chosen into unsealed arm path before n (reads x) =
    entered_known program chosen into unsealed arm path before x (chosen arm.target) refl

name_known :
    (program : Program) (chosen : Place → Bool) (into : Edges) → ((p : Place) → chosen p ≡ true → program.is_sealed p ≡ false) →
    (arm : Arm) (path : Path) → Known program (with_arms program chosen into) chosen path →
    (n : ℕ) → Dec ((program.naming n).home ≡ arm.target) →
    instances (with_arms program chosen into) (arm ∷ path) (name n) ≡ known (with_arms program chosen into) chosen (instances program (arm ∷ path) (name n))
name_known program chosen into unsealed arm path before n (yes at) =
    name-here (with_arms program chosen into) arm path n at ∙
    name_by_origin program chosen into unsealed arm path before n (program.naming n).origin ∙
    ap (λ i. known (with_arms program chosen into) chosen i) (sym (name-here program arm path n at))
name_known program chosen into unsealed arm path before n (no ne) =
    name-past (with_arms program chosen into) arm path n ne ∙
    before.all (name n) ∙
    ap (λ i. known (with_arms program chosen into) chosen i) (sym (name-past program arm path n ne))

known_step :
    (program : Program) (chosen : Place → Bool) (into : Edges) → ((p : Place) → chosen p ≡ true → program.is_sealed p ≡ false) →
    (arm : Arm) (path : Path) → Known program (with_arms program chosen into) chosen path →
    (h : Holder) →
    instances (with_arms program chosen into) (arm ∷ path) h ≡ known (with_arms program chosen into) chosen (instances program (arm ∷ path) h)
known_step program chosen into unsealed arm path before (variable x) =
    instances-variable (with_arms program chosen into) arm path x ∙
    variable_known program chosen into unsealed arm path before x (program.assigned arm.target x) ∙
    ap (λ i. known (with_arms program chosen into) chosen i) (sym (instances-variable program arm path x))
known_step program chosen into unsealed arm path before (name n) =
    name_known program chosen into unsealed arm path before n (dec_place (program.naming n).home arm.target)

known_first : (program : Program) (chosen : Place → Bool) (into : Edges) (h : Holder) → instances (with_arms program chosen into) [] h ≡ known (with_arms program chosen into) chosen (instances program [] h)
unfolding instances known
known_first program chosen into (variable x) = refl
known_first program chosen into (name n) = refl

all_known :
    (program : Program) (chosen : Place → Bool) (into : Edges) → ((p : Place) → chosen p ≡ true → program.is_sealed p ≡ false) → (path : Path) → Known program (with_arms program chosen into) chosen path
all_known program chosen into unsealed [] = record { all = λ h. known_first program chosen into h }
all_known program chosen into unsealed (arm ∷ path) =
    let before : Known program (with_arms program chosen into) chosen path = all_known program chosen into unsealed path in
    record { all = λ h. known_step program chosen into unsealed arm path before h }

denotes_by_kind :
    (program : Program) (chosen : Place → Bool) (into : Edges) (function : Function) → ((p : Place) → chosen p ≡ true → program.is_sealed p ≡ false) →
    (arm : Arm) (path : Path) →
    ((w : ℕ) → denotes (with_arms program chosen into) function path w ≡ known (with_arms program chosen into) chosen (denotes program function path w)) →
    (v : ℕ) (kind : Kind) →
    defined (with_arms program chosen into) function arm path (λ w. denotes (with_arms program chosen into) function path w) v kind ≡
    known (with_arms program chosen into) chosen (defined program function arm path (λ w. denotes program function path w) v kind)
unfolding known
denotes_by_kind program chosen into function unsealed arm path before v unborn = refl
denotes_by_kind program chosen into function unsealed arm path before v (born n) = refl
denotes_by_kind program chosen into function unsealed arm path before v (pending x) =
    entered_known program chosen into unsealed arm path (all_known program chosen into unsealed path) x (chosen arm.target) refl
denotes_by_kind program chosen into function unsealed arm path before v (complete x) = before (function.resolve (function.argument v arm))
denotes_by_kind program chosen into function unsealed arm path before v (zero_of x) = refl

denotes_by :
    (program : Program) (chosen : Place → Bool) (into : Edges) (function : Function) → ((p : Place) → chosen p ≡ true → program.is_sealed p ≡ false) →
    (arm : Arm) (path : Path) →
    ((w : ℕ) → denotes (with_arms program chosen into) function path w ≡ known (with_arms program chosen into) chosen (denotes program function path w)) →
    (v : ℕ) → Dec ((function.definition v).home ≡ arm.target) →
    denotes (with_arms program chosen into) function (arm ∷ path) v ≡ known (with_arms program chosen into) chosen (denotes program function (arm ∷ path) v)
denotes_by program chosen into function unsealed arm path before v (yes at) =
    denotes-here (with_arms program chosen into) function arm path v at ∙
    denotes_by_kind program chosen into function unsealed arm path before v (function.definition v).kind ∙
    ap (λ i. known (with_arms program chosen into) chosen i) (sym (denotes-here program function arm path v at))
denotes_by program chosen into function unsealed arm path before v (no ne) =
    denotes-past (with_arms program chosen into) function arm path v ne ∙
    before v ∙
    ap (λ i. known (with_arms program chosen into) chosen i) (sym (denotes-past program function arm path v ne))

denotes_known :
    (program : Program) (chosen : Place → Bool) (into : Edges) (function : Function) → ((p : Place) → chosen p ≡ true → program.is_sealed p ≡ false) →
    (path : Path) (v : ℕ) →
    denotes (with_arms program chosen into) function path v ≡ known (with_arms program chosen into) chosen (denotes program function path v)
unfolding denotes known
denotes_known program chosen into function unsealed [] v = refl
denotes_known program chosen into function unsealed (arm ∷ path) v =
    let before : (w : ℕ) → denotes (with_arms program chosen into) function path w ≡ known (with_arms program chosen into) chosen (denotes program function path w) =
    denotes_known program chosen into function unsealed path in
    denotes_by program chosen into function unsealed arm path before v (dec_place (function.definition v).home arm.target)

holds_known :
    {edges : Edges} (program : Program) (chosen : Place → Bool) (into : Edges) (function : Function) → ((p : Place) → chosen p ≡ true → program.is_sealed p ≡ false) →
    (v : ℕ) (h : Holder) (p : Place) → Holds edges program function v h p → Holds edges (with_arms program chosen into) function v h p
holds_known program chosen into function unsealed v h p held = record {
  there = held.there;
  agrees = λ path f at_end.
      denotes_known program chosen into function unsealed path (function.resolve v) ∙
      ap (λ i. known (with_arms program chosen into) chosen i) (held.agrees path f at_end) ∙
      sym ((all_known program chosen into unsealed path).all h);
}

take_known :
    (program : Program) (chosen : Place → Bool) (into : Edges) (function : Function) → ((p : Place) → chosen p ≡ true → program.is_sealed p ≡ false) →
    (v x : ℕ) (arm : Arm) (path : Path) → denotes program function (arm ∷ path) v ≡ entered program arm path x →
    denotes (with_arms program chosen into) function (arm ∷ path) v ≡ entered (with_arms program chosen into) arm path x
take_known program chosen into function unsealed v x arm path takes =
    denotes_known program chosen into function unsealed (arm ∷ path) v ∙
    ap (λ i. known (with_arms program chosen into) chosen i) takes ∙
    sym (entered_known program chosen into unsealed arm path (all_known program chosen into unsealed path) x (chosen arm.target) refl)

arms-other : (program : Program) (chosen : Place → Bool) (into : Edges) (arm : Arm) → chosen arm.target ≡ false → (with_arms program chosen into).arms arm ≡ program.arms arm
arms-other program chosen into arm ne = rw ne refl

-- a sealed place is none of those that are being sealed
not_chosen :
    (program : Program) (chosen : Place → Bool) → ((p : Place) → chosen p ≡ true → program.is_sealed p ≡ false) →
    (p : Place) → program.is_sealed p ≡ true → (c : Bool) → chosen p ≡ c → chosen p ≡ false
not_chosen program chosen unsealed p sealed true e = let open_place = unsealed p e in absurd cc
not_chosen program chosen unsealed p sealed false e = e

-- edges that are allowed after the sealing were allowed before
allowed_sealed :
    {edges : Edges} (program : Program) (chosen : Place → Bool) (into : Edges) → ((p : Place) → chosen p ≡ true → program.is_sealed p ≡ false) →
    Allowed (with_arms program chosen into) edges → Allowed program edges
allowed_sealed program chosen into unsealed allowed = record {
  known = λ arm e.
      let other : chosen arm.target ≡ false = not_chosen program chosen unsealed arm.target e (chosen arm.target) refl in
      allowed.known arm (sealed-other program chosen into arm.target other ∙ e) ∙ arms-other program chosen into arm other;
  rooted = allowed.rooted;
  given_before = allowed.given_before;
}

seal_known :
    (s : State) (chosen : Place → Bool) (into : Edges) → Sound s → (arm : Arm) → (with_arms s.program chosen into).arms arm ≡ true →
    (c : Bool) → chosen arm.target ≡ c → (with_arms s.program chosen into).is_sealed arm.target ≡ true
seal_known s chosen into sound arm e true at = sealed-same s.program chosen into arm.target at
seal_known s chosen into sound arm e false other =
    sealed-other s.program chosen into arm.target other ∙ sound.known_sealed arm (sym (arms-other s.program chosen into arm other) ∙ e)

-- sealing places keeps soundness
pub seal_keeps : (s : State) (chosen : Place → Bool) (into : Edges) → CanSeal s chosen → Sound s → Sound (with_sealed s chosen into)
seal_keeps s chosen into can sound = record {
  known_sealed = λ arm e. seal_known s chosen into sound arm e (chosen arm.target) refl;
  rooted = λ arm at. arms-other s.program chosen into arm (ap chosen at ∙ can.written) ∙ sound.rooted arm at;
  under = λ edges allowed.
      let before : SoundUnder edges s = sound.under edges (allowed_sealed s.program chosen into can.unsealed allowed) in
      record {
        arguments = before.arguments;
        parameters = record {
          at_visit = λ {x} u arm path k at f.
              take_known s.program chosen into s.function can.unsealed (s.function.resolve u) x arm path (before.parameters.at_visit u arm path k at f);
        };
        records = λ p x v e. holds_known s.program chosen into s.function can.unsealed v (variable x) p (before.records p x v e);
        answers = λ n there. holds_known s.program chosen into s.function can.unsealed (s.answer n) (name n) (s.program.naming n).home (before.answers n there);
      };
}
