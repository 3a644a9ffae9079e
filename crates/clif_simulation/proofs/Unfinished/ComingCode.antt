-- The code so far with edges that may still come: what it gives is what the program's code gives; and where no edge may come, its
-- paths to items are the program's.
use Rattle.std.proofs.Common.{◌≡◌, ℕ, zero, suc, ◌<◌, List, [], ◌∷◌, length, Option, Some, None, Contains, ◌⊎◌, inl, inr, refl, ap, subst, arith}
use Rattle.clif_ssa.specs.Ssa.{SsaState}
use Rattle.clif_meaning.specs.Name.{Name}
use Rattle.clif_meaning.specs.Request.{AnsweredCall}
use Rattle.clif_meaning.specs.Program.{Program, Item}
use Rattle.clif_meaning.specs.Path.{Place, IsPath, Leads}
use Rattle.clif_meaning.specs.WellPlaced.{Code, IsGivenAlong, IsGivenBefore, IsWellPlaced, given_on_entry, item_at, item_names, item_passes, item_targets, program_code, program_flow}
use Rattle.clif_meaning.proofs.StraightLine.{none_of}
use Rattle.clif_simulation.specs.Tables.{program_so_far}
use Rattle.clif_simulation.specs.Reading.{code_so_far}
use Rattle.clif_simulation.specs.Coming.{Coming, MayCome, code_coming, targets_with}
use Rattle.clif_simulation.proofs.Listed.{place_within}

-- no edge may come
abbrev pub nothing_comes : Coming
nothing_comes from = []

-- an item leads to the same blocks
pub leads_with : (coming : List Name) (o : Option Item) (target : Name) → Contains (item_targets o) target → Contains (targets_with coming o) target
leads_with coming None target leads = absurd (none_of [] target refl leads)
leads_with coming (Some item) target leads = leads

-- of two codes that give the same, what one gives along a path the other gives
module _ (c d : Code Name Name) (gives : (p : Place Name) → c.gives p ≡ d.gives p) (parameters : (block : Name) → c.parameters block ≡ d.parameters block) where
  pub entering_alike : (block : Name) (k : ℕ) → given_on_entry c block k ≡ given_on_entry d block k
  entering_alike block zero = parameters block
  entering_alike block (suc k) = refl

  pub along_alike : (x : Name) (path : List (Place Name)) → IsGivenAlong c x path → IsGivenAlong d x path
  along_alike x [] along = along
  along_alike x (p ∷ path) along = by along (along_alike x path)
    where
      by : Contains (c.gives p) x ⊎ Contains (given_on_entry c p.block p.index) x ⊎ IsGivenAlong c x path → (IsGivenAlong c x path → IsGivenAlong d x path)
          → Contains (d.gives p) x ⊎ Contains (given_on_entry d p.block p.index) x ⊎ IsGivenAlong d x path
      by (inl here) later = inl (subst (λ (things : List Name). Contains things x) (gives p) here)
      by (inr (inl entering)) later = inr (inl (subst (λ (things : List Name). Contains things x) (entering_alike p.block p.index) entering))
      by (inr (inr before)) later = inr (inr (later before))

  -- given before a place, where each path to it is one of the other code's
  pub before_alike : (x : Name) (p : Place Name) → ((path : List (Place Name)) → IsPath d.flow (p ∷ path) → IsPath c.flow (p ∷ path)) → IsGivenBefore c x p → IsGivenBefore d x p
  before_alike x p paths before path is = by (before path (paths path is))
    where
      by : Contains (given_on_entry c p.block p.index) x ⊎ IsGivenAlong c x path → Contains (given_on_entry d p.block p.index) x ⊎ IsGivenAlong d x path
      by (inl entering) = inl (subst (λ (things : List Name). Contains things x) (entering_alike p.block p.index) entering)
      by (inr along) = inr (along_alike x path along)

module _ (coming : Coming) (calls : List AnsweredCall) where
  abbrev program : Program
  program = program_so_far calls

  pub entering_here : (block : Name) (k : ℕ) → given_on_entry (code_coming coming calls) block k ≡ given_on_entry (program_code program) block k
  entering_here = entering_alike (code_coming coming calls) (program_code program) (λ p. refl) (λ block. refl)

  pub along_program : (x : Name) (path : List (Place Name)) → IsGivenAlong (code_coming coming calls) x path → IsGivenAlong (program_code program) x path
  along_program = along_alike (code_coming coming calls) (program_code program) (λ p. refl) (λ block. refl)

-- Where no edge may come ----------------------------------------------------------------------------------------------------

module _ (calls : List AnsweredCall) where
  abbrev calls_program : Program
  calls_program = program_so_far calls

  abbrev none : Code Name Name
  none = code_coming nothing_comes calls

  abbrev size : Place Name → ℕ
  size p = length (calls_program.items p.block)

  leads_within : (q : Place Name) (target : Name) (o : Option Item) → item_at calls_program q ≡ o → Contains (targets_with [] o) target
      → (q.index < size q) × Contains (item_targets o) target
  leads_within q target None stands there = absurd (none_of [] target refl there)
  leads_within q target (Some item) stands there = (place_within (calls_program.items q.block) q.index item stands, there)

  -- a path to an item is one of the program's
  program_path : (p : Place Name) (path : List (Place Name)) → p.index < size p → IsPath none.flow (p ∷ path) → IsPath (program_flow calls_program) (p ∷ path)
  program_path p [] within start = (start.0, (start.1.0, omega (arith, start.1.0, within)))
  program_path p (q ∷ path) within walk = by walk.0 (λ inside. program_path q path inside walk.1)
    where
      by : Leads none.flow q p → (q.index < size q → IsPath (program_flow calls_program) (q ∷ path)) → IsPath (program_flow calls_program) (p ∷ q ∷ path)
      by (inl next) before =
          let same : size p ≡ size q = ap (λ (block : Name). length (calls_program.items block)) next.0 in
          (inl (next.0, next.1, within), before (omega (arith, within, same, next.1)))
      by (inr leads) before =
          let there = leads_within q p.block (item_at calls_program q) refl leads.0 in
          (inr (there.1, (leads.1.0, omega (arith, leads.1.0, within))), before there.0)

  -- what is given before an item of the program is given before it in the code so far
  pub given_none : (x : Name) (p : Place Name) → p.index < size p → IsGivenBefore (program_code calls_program) x p → IsGivenBefore none x p
  given_none x p within = before_alike (program_code calls_program) none (λ q. refl) (λ block. refl) x p (λ path is. program_path p path within is)

  named_within : (p : Place Name) (x : Name) (o : Option Item) → item_at calls_program p ≡ o → Contains (item_names o) x → p.index < size p
  named_within p x None stands names = absurd (none_of [] x refl names)
  named_within p x (Some item) stands names = place_within (calls_program.items p.block) p.index item stands

  passed_within : (p : Place Name) (x : Name) (o : Option Item) → item_at calls_program p ≡ o → Contains (item_passes o) x → p.index < size p
  passed_within p x None stands passes = absurd (none_of [] x refl passes)
  passed_within p x (Some item) stands passes = place_within (calls_program.items p.block) p.index item stands

  pub placed_none : IsWellPlaced (program_code calls_program) → IsWellPlaced none
  placed_none placed = record {
    named = λ p x names. given_none x p (named_within p x (item_at calls_program p) refl names) (placed.named p x names);
    passed = λ p x passes. by p x (passed_within p x (item_at calls_program p) refl passes) (placed.passed p x passes);
  }
    where
      by : (p : Place Name) (x : Name) → p.index < size p → Contains ((program_code calls_program).gives p) x ⊎ IsGivenBefore (program_code calls_program) x p
          → Contains (none.gives p) x ⊎ IsGivenBefore none x p
      by p x within (inl gives) = inl gives
      by p x within (inr before) = inr (given_none x p within before)

  -- and the code so far has no other paths
  same_targets : (o : Option Item) (target : Name) → Contains (targets_with [] o) target → Contains (item_targets o) target
  same_targets None target there = there
  same_targets (Some item) target there = there

  path_so_far : (p : Place Name) (path : List (Place Name)) → IsPath none.flow (p ∷ path) → IsPath (code_so_far calls).flow (p ∷ path)
  path_so_far p [] start = start
  path_so_far p (q ∷ path) walk = (by walk.0, path_so_far q path walk.1)
    where
      by : Leads none.flow q p → Leads (code_so_far calls).flow q p
      by (inl next) = inl next
      by (inr leads) = inr (same_targets (item_at calls_program q) p.block leads.0, leads.1)

  pub given_so_far : (x : Name) (p : Place Name) → IsGivenBefore (code_so_far calls) x p → IsGivenBefore none x p
  given_so_far x p = before_alike (code_so_far calls) none (λ q. refl) (λ block. refl) x p (λ path is. path_so_far p path is)

-- where no edge may come
pub may_nothing : (calls : List AnsweredCall) (s : SsaState) → IsWellPlaced (program_code (program_so_far calls)) → MayCome nothing_comes calls s
may_nothing calls s placed = record {
  blocks = λ from target none. absurd (none_of [] target refl none);
  unsealed = λ from target none. absurd (none_of [] target refl none);
  given_before = placed_none calls placed;
}
