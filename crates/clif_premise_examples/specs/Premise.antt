-- The premises of the theorem on a script's calls as a table, so that one of them can be said to fail while the others hold. Own.
use Rattle.std.specs.Prelude.{◌≡◌, ◌↔◌, ◌==◌, ℕ, not, List, [], ◌∷◌, filter}
use Rattle.std.specs.List.{AllByRecursion}
use Rattle.clif_types.specs.Signature.{SignatureShape}
use Rattle.clif_types.specs.Target.{pointer_type_of}
use Rattle.clif_types.specs.declared.target.PointerWidth.{PointerWidth}
use Rattle.clif_tables.specs.Callees.{types_of}
use Rattle.clif_meaning.specs.Acceptance.{Accepted}
use Rattle.clif_meaning.specs.Bits.{AreValues}
use Rattle.clif_meaning.specs.FunctionView.{FunctionView}
use Rattle.clif_meaning.specs.Headline.{IsWorldOf, pointer_bits}
use Rattle.clif_meaning.specs.Premises.{CallsLibraryAsNamed, ClaimsAreTrue, EachItem, HasGoodTargets, InEachStep, KeepsTrackedApart, SparesSpillSlots, WellTyped}
use Rattle.clif_meaning.specs.Program.{Program}
use Rattle.clif_meaning.specs.ScriptMachine.{ScriptRun}
use Rattle.clif_meaning.specs.WellPlaced.{IsWellPlaced, program_code}
use Rattle.clif_meaning.specs.World.{World, PlacesSlots}
use Rattle.clif_expansion.specs.CallsHeadline.{CallsPremises, run_of_calls}
use Rattle.clif_expansion.specs.CallsRun.{calls_track}
use Rattle.clif_expansion.specs.CallsVerdict.{verdict_on_calls}
use Rattle.clif_expansion.specs.ScriptCall.{ScriptCall, ledger_of, program_of_calls}

-- what the theorem is about: calls, for a function of this signature with pointers of this width, beside the finished function, in a world
pub record Situation : Type 0 where
  pub calls : List ScriptCall
  pub signature : SignatureShape
  pub width : PointerWidth
  pub function : FunctionView
  pub world : World

-- the premises, by their names: those on the world, and those on the calls
pub data Premise : Type 0 where
  Arguments : Premise
  Pointers : Premise
  Slots : Premise
  TargetsFilled : Premise
  IsTyped : Premise
  GivenBefore : Premise
  TrackedApart : Premise
  SparesSpills : Premise
  ClaimsTrue : Premise
  LibcAsNamed : Premise

abbrev pub premises : List Premise
premises =
    Arguments ∷ Pointers ∷ Slots ∷ TargetsFilled ∷ IsTyped ∷ GivenBefore ∷ TrackedApart ∷ SparesSpills ∷ ClaimsTrue ∷ LibcAsNamed ∷ []

abbrev pub program_in : Situation → Program
program_in s = program_of_calls s.calls

abbrev pub run_in : Situation → ScriptRun
run_in s = run_of_calls s.calls s.function s.world

-- the table: what each premise says
abbrev pub Holds : Situation → Premise → Type 0
Holds s Arguments = AreValues (types_of s.signature.params) s.world.arguments
Holds s Pointers = s.world.pointer_width ≡ pointer_bits s.width
Holds s Slots = PlacesSlots s.world s.function.slots
Holds s TargetsFilled = EachItem (HasGoodTargets (ledger_of s.calls) (program_in s)) (program_in s)
Holds s IsTyped = WellTyped (ledger_of s.calls) (program_in s) s.signature
Holds s GivenBefore = IsWellPlaced (program_code (program_in s))
Holds s TrackedApart = EachItem (KeepsTrackedApart (ledger_of s.calls) (calls_track s.calls)) (program_in s)
Holds s SparesSpills = InEachStep (SparesSpillSlots (run_in s)) (run_in s)
Holds s ClaimsTrue = InEachStep (ClaimsAreTrue (run_in s)) (run_in s)
Holds s LibcAsNamed = EachItem (CallsLibraryAsNamed (pointer_type_of s.width)) (program_in s)

-- They are the premises of `CallsMeanTheSame`, and no others.
abbrev pub ThePremisesAreThese : Type 0
ThePremisesAreThese =
    (s : Situation) → AllByRecursion (Holds s) premises
    ↔ (IsWorldOf s.signature s.function s.width s.world × CallsPremises s.calls s.signature (pointer_type_of s.width) (run_in s))

-- the number of a premise
abbrev pub number_of : Premise → ℕ
number_of Arguments = 0
number_of Pointers = 1
number_of Slots = 2
number_of TargetsFilled = 3
number_of IsTyped = 4
number_of GivenBefore = 5
number_of TrackedApart = 6
number_of SparesSpills = 7
number_of ClaimsTrue = 8
number_of LibcAsNamed = 9

-- the other premises
abbrev pub all_but : Premise → List Premise
all_but premise = filter (λ other. not (number_of other == number_of premise)) premises

-- the calls are accepted, and all premises hold
pub record MeetsAll (s : Situation) : Type 0 where
  pub accepted : verdict_on_calls s.calls ≡ Accepted
  pub holds : AllByRecursion (Holds s) premises

-- the calls are accepted, one premise fails, and all others hold
pub record FailsAlone (premise : Premise) (s : Situation) : Type 0 where
  pub accepted : verdict_on_calls s.calls ≡ Accepted
  pub fails : Holds s premise → ⊥
  pub others : AllByRecursion (Holds s) (all_but premise)
