-- The row `first` meets the premises in every world, and its function means what its script means.
use Rattle.std.proofs.Common.{◌≡◌, ◌<◌, ◌≤◌, ℕ, zero, suc, List, [], ◌∷◌, refl, sym, ◌∙◌, arith, ◌⊎◌, inl, inr, subst}
use Rattle.clif_types.specs.declared.target.PointerWidth.TheVariants.{U64}
use Rattle.clif_types.specs.Target.{pointer_type_of}
use Rattle.clif_meaning.specs.Event.{CallShape, Event}
use Rattle.clif_meaning.specs.World.{World, PlacesSlots}
use Rattle.clif_meaning.specs.Machine.{IsEnd, EndStays}
use Rattle.clif_meaning.specs.SameMeaning.{Behaviour, ShowsAllOf, SameMeaning}
use Rattle.clif_meaning.specs.Program.{program_of}
use Rattle.clif_meaning.specs.Premises.{Premises, EachItem}
use Rattle.clif_meaning.specs.Headline.{script_run, function_run, script_behaviour, function_behaviour, IsWorldOf, MeansTheSame}
use Rattle.clif_meaning.specs.FunctionView.{FunctionView}
use Rattle.clif_meaning.specs.FunctionMachine.{ByMaps}
use Rattle.clif_types.specs.StackSlot.{StackSlotShape}
use Rattle.clif_meaning.specs.Examples.{i32, first_script, first_signature, first_function, first_function_with, empty_function, moved_by_16}
use Rattle.clif_meaning.proofs.FirstRow
use Rattle.clif_meaning.proofs.SampleWorld
use Rattle.clif_meaning.proofs.WorkedExamples
use Rattle.clif_meaning.proofs.Endings
use Rattle.clif_meaning.proofs.EachStep.{IsQuietItem, spares, claims}

-- no item of it touches memory
quiet : EachItem IsQuietItem (program_of first_script)
quiet = FirstRow.first_items _ (tt, (tt, (tt, (tt, (tt, (tt, tt))))))

-- beside any function
premises_beside : (function : FunctionView) (world : World) → Premises first_script first_signature (pointer_type_of U64) (script_run first_script function world)
premises_beside function world = record {
  targets_filled = FirstRow.first_items _ (tt, (tt, (tt, (tt, (tt, (tt, tt))))));
  well_typed = record {
    items = FirstRow.first_items _ (
      tt,
      (
        record { made_at = refl; operands = tt; edges = tt },
        (
          record { made_at = refl; operands = (refl, (refl, tt)); edges = tt },
          (
            refl,
            (
              tt,
              (record { made_at = refl; operands = refl; edges = tt }, tt),
            ),
          ),
        ),
      ),
    );
    entry = refl;
  };
  given_before = FirstRow.script_well_placed;
  tracked_apart = FirstRow.first_items _ ((λ h. h), (tt, (tt, ((λ h. h), ((λ h. h), (tt, tt))))));
  spares_spill_slots = spares (script_run first_script function world) quiet;
  claims_true = claims (script_run first_script function world) quiet;
  libc_as_named = FirstRow.first_items _ (tt, (tt, (tt, (tt, (tt, (tt, tt))))));
}

pub first_premises : (world : World) → Premises first_script first_signature (pointer_type_of U64) (script_run first_script first_function world)
first_premises = premises_beside first_function

-- a run that shows what the other begins with until it ends as the other does
pub shows_all : (left right : Behaviour) (a b : ℕ) → EndStays left → IsEnd (left a).ending
    → ((n : ℕ) → n < a → left n ≡ right 0) → left a ≡ right b → ShowsAllOf left right
shows_all left right a b stays end before same n = by (order n a)
  where
    order : (n a : ℕ) → (n < a) ⊎ (a ≤ n)
    order n a = grind arith

    by : (n < a) ⊎ (a ≤ n) → (m : ℕ) × (left n ≡ right m)
    by (inl early) = (0, before n early)
    by (inr late) = (b, stays a n late end ∙ same)

script_before : (world : World) (n : ℕ) → n < 6 → script_behaviour first_script first_function world n ≡ function_behaviour first_script first_function world 0
script_before world zero h = refl
script_before world (suc zero) h = refl
script_before world (suc (suc zero)) h = refl
script_before world (suc (suc (suc zero))) h = refl
script_before world (suc (suc (suc (suc zero)))) h = refl
script_before world (suc (suc (suc (suc (suc zero))))) h = refl
script_before world (suc (suc (suc (suc (suc (suc n)))))) h = absurd (omega arith)

function_before : (world : World) (n : ℕ) → n < 4 → function_behaviour first_script first_function world n ≡ script_behaviour first_script first_function world 0
function_before world zero h = refl
function_before world (suc zero) h = refl
function_before world (suc (suc zero)) h = refl
function_before world (suc (suc (suc zero))) h = refl
function_before world (suc (suc (suc (suc n)))) h = absurd (omega arith)

pub first_same : MeansTheSame first_script first_signature U64 first_function
first_same world fits premises = record {
  there = shows_all (script_behaviour first_script first_function world) (function_behaviour first_script first_function world) 6 4
      (Endings.script_stays (script_run first_script first_function world)) tt (script_before world) refl;
  back = shows_all (function_behaviour first_script first_function world) (script_behaviour first_script first_function world) 4 6
      (Endings.function_stays (function_run first_script first_function world ByMaps)) tt (function_before world) refl;
}

-- of no slots nothing is asked
pub no_slots : (world : World) → PlacesSlots world []
no_slots world = record {
  aligned = λ s slot h. cc;
  accessible = λ s slot k h below. cc;
  within = λ s slot h. cc;
  apart = λ s t slot other k l h. cc;
}

pub a_world : (world : World) × IsWorldOf first_signature first_function U64 world × ((events : List Event) (call : CallShape) → world.moved events call ≡ moved_by_16)
a_world = (SampleWorld.sample_world, record { arguments = tt; pointers = refl; slots = no_slots SampleWorld.sample_world }, λ events call. refl)

-- what the theorem says of a function in the sample world
in_sample : (function : FunctionView) → function.slots ≡ [] → MeansTheSame first_script first_signature U64 function
    → SameMeaning (script_behaviour first_script function SampleWorld.sample_world) (function_behaviour first_script function SampleWorld.sample_world)
in_sample function no_slot same =
    same SampleWorld.sample_world
    (record { arguments = tt; pointers = refl; slots = subst (λ (slots : List StackSlotShape). PlacesSlots SampleWorld.sample_world slots) (sym no_slot) (no_slots SampleWorld.sample_world) })
    (premises_beside function SampleWorld.sample_world)

pub eight_refused : MeansTheSame first_script first_signature U64 (first_function_with 8) → ⊥
eight_refused same = WorkedExamples.eight_is_not_seven SampleWorld.sample_world (in_sample (first_function_with 8) refl same)

pub empty_refused : MeansTheSame first_script first_signature U64 empty_function → ⊥
empty_refused same = WorkedExamples.stuck_is_not_seven SampleWorld.sample_world (in_sample empty_function refl same)

pub other_signature : (function : FunctionView) (world : World)
    → Premises first_script (record first_signature { params = record { value_type = i32 } ∷ [] }) (pointer_type_of U64) (script_run first_script function world) → ⊥
other_signature function world premises =
    let taken : [] ≡ i32 ∷ [] = premises.well_typed.entry in
    cc
