-- The script that returns a variable that is never assigned: its premises, and its function.
use Rattle.std.proofs.Common.{◌≡◌, ◌<◌, ℕ, zero, suc, Bool, true, false, List, [], ◌∷◌, refl, sym, ◌∙◌, ap, arith, ◌⊎◌, inl, inr, subst}
use Rattle.std.specs.Prelude.{Contains, slice_get}
use Rattle.std.specs.List.{AllByRecursion}
use Rattle.clif_types.specs.Target.{pointer_type_of}
use Rattle.clif_types.specs.declared.target.PointerWidth.TheVariants.{U64}
use Rattle.clif_meaning.specs.BranchExamples.{block}
use Rattle.clif_meaning.specs.Examples.{ended_with, first_signature}
use Rattle.clif_meaning.specs.FunctionMachine.{ByMaps}
use Rattle.clif_meaning.specs.FunctionView.{FunctionView}
use Rattle.clif_meaning.specs.Headline.{IsWorldOf, MeansTheSame, function_behaviour, function_run, script_behaviour, script_run}
use Rattle.clif_meaning.specs.Machine.{Observation, Returned}
use Rattle.clif_meaning.specs.Name.{Name, answer_of, same_name}
use Rattle.clif_meaning.specs.Path.{Place}
use Rattle.clif_meaning.specs.Premises.{EachItem, Premises}
use Rattle.clif_meaning.specs.Program.{Item, program_of}
use Rattle.clif_meaning.specs.WellPlaced.{IsGivenAlong, IsGivenBefore, IsWellPlaced, item_gives, item_names, item_passes, item_targets, program_code}
use Rattle.clif_meaning.specs.World.{World}
use Rattle.clif_meaning.proofs.EachStep.{IsQuietItem, claims, spares}
use Rattle.clif_meaning.proofs.Endings.{function_stays, script_stays}
use Rattle.clif_meaning.proofs.FirstPremises.{no_slots, shows_all}
use Rattle.clif_meaning.proofs.FirstRow.{first_of_one, one_of}
use Rattle.clif_meaning.proofs.SampleWorld.{sample_world}
use Rattle.clif_meaning.proofs.StraightLine.{given_along, none_of, nothing_contained}
use Rattle.clif_meaning.proofs.WorkedExamples.{other_ends}
use Rattle.clif_unassigned_laws.specs.Examples.{never_function, never_function_with, never_script}

-- the items of its one block
abbrev items : List Item
items = (program_of never_script).items (block 0)

each : (P : Item → Type 0) → AllByRecursion P items → EachItem P (program_of never_script)
each P are other = by (same_name other (block 0)) refl
  where
    by : (c : Bool) → same_name other (block 0) ≡ c → AllByRecursion P ((program_of never_script).items other)
    by true same = rw same are
    by false differ = rw differ tt

-- the items of a block: those, or none
items_of : (other : Name) → ((program_of never_script).items other ≡ items) ⊎ ((program_of never_script).items other ≡ [])
items_of other = by (same_name other (block 0)) refl
  where
    by : (c : Bool) → same_name other (block 0) ≡ c → ((program_of never_script).items other ≡ items) ⊎ ((program_of never_script).items other ≡ [])
    by true same = inl (rw same refl)
    by false differ = inr (rw differ refl)

targets_of : (i : ℕ) → item_targets (slice_get items i) ≡ []
targets_of zero = refl
targets_of (suc zero) = refl
targets_of (suc (suc i)) = refl

passed_by : (i : ℕ) → item_passes (slice_get items i) ≡ []
passed_by zero = refl
passed_by (suc zero) = refl
passed_by (suc (suc i)) = refl

straight : (p : Place Name) → (program_code (program_of never_script)).flow.targets p ≡ []
straight p = by (items_of p.block)
  where
    by : ((program_of never_script).items p.block ≡ items) ⊎ ((program_of never_script).items p.block ≡ [])
        → item_targets (slice_get ((program_of never_script).items p.block) p.index) ≡ []
    by (inl full) = ap (λ (all : List Item). item_targets (slice_get all p.index)) full ∙ targets_of p.index
    by (inr empty) = ap (λ (all : List Item). item_targets (slice_get all p.index)) empty

passes_none : (p : Place Name) → (program_code (program_of never_script)).passes p ≡ []
passes_none p = by (items_of p.block)
  where
    by : ((program_of never_script).items p.block ≡ items) ⊎ ((program_of never_script).items p.block ≡ [])
        → item_passes (slice_get ((program_of never_script).items p.block) p.index) ≡ []
    by (inl full) = ap (λ (all : List Item). item_passes (slice_get all p.index)) full ∙ passed_by p.index
    by (inr empty) = ap (λ (all : List Item). item_passes (slice_get all p.index)) empty

-- what the return names the use gives
givers : (x : Name) (i : ℕ) → Contains (item_names (slice_get items i)) x → (j : ℕ) × (j < i) × Contains (item_gives (slice_get items j)) x
givers x zero names = absurd (nothing_contained x names)
givers x (suc zero) names = (0, omega arith, first_of_one (answer_of 4 0) x (one_of (answer_of 4 0) x names))
givers x (suc (suc i)) names = absurd (nothing_contained x names)

named : (q : Place Name) (x : Name) → Contains ((program_code (program_of never_script)).names q) x → IsGivenBefore (program_code (program_of never_script)) x q
named q x names path walk = inr (by (items_of q.block))
  where
    by : ((program_of never_script).items q.block ≡ items) ⊎ ((program_of never_script).items q.block ≡ [])
        → IsGivenAlong (program_code (program_of never_script)) x path
    by (inl full) =
        let giver = givers x q.index (subst (λ (all : List Item). Contains (item_names (slice_get all q.index)) x) full names) in
        given_along (program_code (program_of never_script)) straight path q giver.0 x walk giver.1
        (subst (λ (all : List Item). Contains (item_gives (slice_get all giver.0)) x) (sym full) giver.2)
    by (inr empty) =
        absurd (nothing_contained x (subst (λ (all : List Item). Contains (item_names (slice_get all q.index)) x) empty names))

well_placed : IsWellPlaced (program_code (program_of never_script))
well_placed = record { named = named; passed = λ q x passes. absurd (none_of _ x (passes_none q) passes) }

quiet : EachItem IsQuietItem (program_of never_script)
quiet = each _ (tt, (tt, tt))

premises_beside : (function : FunctionView) (world : World) → Premises never_script first_signature (pointer_type_of U64) (script_run never_script function world)
premises_beside function world = record {
  targets_filled = each _ (tt, (tt, tt));
  well_typed = record { items = each _ (tt, (record { made_at = refl; operands = refl; edges = tt }, tt)); entry = refl };
  given_before = well_placed;
  tracked_apart = each _ ((λ h. h), (tt, tt));
  spares_spill_slots = spares (script_run never_script function world) quiet;
  claims_true = claims (script_run never_script function world) quiet;
  libc_as_named = each _ (tt, (tt, tt));
}

pub premises : (world : World) → Premises never_script first_signature (pointer_type_of U64) (script_run never_script never_function world)
premises = premises_beside never_function

pub a_world : (world : World) × IsWorldOf first_signature never_function U64 world
a_world = (sample_world, record { arguments = tt; pointers = refl; slots = no_slots sample_world })

script_before : (world : World) (n : ℕ) → n < 2 → script_behaviour never_script never_function world n ≡ function_behaviour never_script never_function world 0
script_before world zero h = refl
script_before world (suc zero) h = refl
script_before world (suc (suc n)) h = absurd (omega (arith, h))

function_before : (world : World) (n : ℕ) → n < 2 → function_behaviour never_script never_function world n ≡ script_behaviour never_script never_function world 0
function_before world zero h = refl
function_before world (suc zero) h = refl
function_before world (suc (suc n)) h = absurd (omega (arith, h))

pub means : MeansTheSame never_script first_signature U64 never_function
means world fits premises = record {
  there = shows_all (script_behaviour never_script never_function world) (function_behaviour never_script never_function world) 2 2
      (script_stays (script_run never_script never_function world)) tt (script_before world) refl;
  back = shows_all (function_behaviour never_script never_function world) (script_behaviour never_script never_function world) 2 2
      (function_stays (function_run never_script never_function world ByMaps)) tt (function_before world) refl;
}

pub seven : MeansTheSame never_script first_signature U64 (never_function_with 7) → ⊥
seven same =
    let zero_is_seven : ended_with (0 ∷ []) sample_world ≡ ended_with (7 ∷ []) sample_world =
    other_ends (script_behaviour never_script (never_function_with 7) sample_world) (function_behaviour never_script (never_function_with 7) sample_world)
    (script_stays (script_run never_script (never_function_with 7) sample_world)) 2 2 tt tt
    (same sample_world (record { arguments = tt; pointers = refl; slots = no_slots sample_world }) (premises_beside (never_function_with 7) sample_world)) in
    let ends : Returned (0 ∷ []) sample_world.memory ≡ Returned (7 ∷ []) sample_world.memory = ap (λ (seen : Observation). seen.ending) zero_is_seven in
    cc
