-- The theorem on the plain calls gives the one on a script's calls.
use Rattle.std.proofs.Common.{◌≡◌, ℕ, Bool, List, refl, sym, ap, subst}
use Rattle.std.specs.Prelude.{drop, length}
use Rattle.clif_tables.specs.Lists.{TableLists}
use Rattle.clif_types.specs.declared.target.PointerWidth.{PointerWidth}
use Rattle.clif_types.specs.declared.target.PointerWidth.TheVariants.{U16, U32, U64}
use Rattle.clif_types.specs.declared.types.«Type».{«Type»}
use Rattle.clif_types.specs.Signature.{SignatureShape}
use Rattle.clif_types.specs.Target.{pointer_type_of}
use Rattle.clif_meaning.proofs.Simulation
use Rattle.clif_meaning.specs.FunctionMachine.{ByMaps, function_machine}
use Rattle.clif_meaning.specs.FunctionView.{FunctionView}
use Rattle.clif_meaning.specs.Headline.{IsWorldOf, MeansTheSame, function_behaviour, in_spill_slot, pointer_bits, script_run}
use Rattle.clif_meaning.specs.Ledger.{empty_ledger}
use Rattle.clif_meaning.specs.Library.{pointer_of}
use Rattle.clif_meaning.specs.Machine.{observed}
use Rattle.clif_meaning.specs.Premises.{CallsLibraryAsNamed, EachItem, Premises}
use Rattle.clif_meaning.specs.Program.{program_of}
use Rattle.clif_meaning.specs.Request.{Script}
use Rattle.clif_meaning.specs.SameMeaning.{SameMeaning}
use Rattle.clif_meaning.specs.ScriptMachine.{script_machine}
use Rattle.clif_meaning.specs.Store.{in_slots_from}
use Rattle.clif_meaning.specs.World.{World}
use Rattle.clif_expansion.specs.CallsHeadline.{CallsPremises, in_spill_slot_beside}
use Rattle.clif_expansion.specs.CallsVerdict.{AreCallsAllowed}
use Rattle.clif_expansion.specs.HeadlineLaws.{CallsMeanWhatPlainCallsMean, JoinedCallsKeepPremises}
use Rattle.clif_expansion.specs.JoinedCalls.{AreJoinedCalls}
use Rattle.clif_expansion.specs.CallsRun.{calls_run}
use Rattle.clif_expansion.specs.Laws.{IsSoundRun}
use Rattle.clif_expansion.specs.PerformedCalls.{ArePerformed}
use Rattle.clif_expansion.specs.Reading.{Reading}
use Rattle.clif_expansion.specs.ScriptCall.{ScriptCall, program_of_calls}
use Rattle.clif_expansion.proofs.JoinedCalls.{joined_calls}
use Rattle.clif_expansion.proofs.JoinedRuns.{joined_mean}
use Rattle.clif_expansion.proofs.calls.Given.{calls_name_values}
use Rattle.clif_expansion.proofs.calls.Premises as carried
use Rattle.clif_expansion.proofs.calls.Types as typing

pub keep_premises : JoinedCallsKeepPremises
keep_premises = record {
  targets_filled = λ reading plain calls are. carried.targets_filled reading plain calls are;
  tracked_apart = λ reading plain calls are. carried.tracked_apart reading plain calls are;
  edges_match = λ reading plain calls are. carried.edges_match reading plain calls are;
  well_typed = λ pointer_width reading plain calls are done. typing.well_typed pointer_width reading plain calls are done;
  libc_as_named = λ pointer_width reading plain calls are done. typing.libc_as_named pointer_width reading plain calls are done;
  placement = λ pointer_width reading plain calls are done signature premises. record {
    targets_filled = carried.targets_filled reading plain calls are premises.targets_filled;
    well_typed = typing.well_typed pointer_width reading plain calls are done signature premises.well_typed;
    given_before = joined_mean.well_placed pointer_width reading plain calls are done premises.given_before;
  };
}

-- pointers of so many bits have this type
pointer_same : (width : PointerWidth) → pointer_of (pointer_bits width) ≡ pointer_type_of width
pointer_same U16 = refl
pointer_same U32 = refl
pointer_same U64 = refl

module _ (reading : Reading) (plain : Script) (calls : List ScriptCall) (are : AreJoinedCalls reading plain calls)
    (signature : SignatureShape) (width : PointerWidth) (function : FunctionView) (done : ArePerformed (pointer_bits width) reading plain calls are)
    (allowed : AreCallsAllowed empty_ledger calls) (means : MeansTheSame plain signature width function) (world : World) (is_world : IsWorldOf signature function width world) where
  -- the calls mean what the function means, where these addresses are hidden from both
  abbrev MeansSo : (ℕ → Bool) → Type 0
  MeansSo hidden =
      CallsPremises calls signature (pointer_type_of width) (calls_run calls hidden world)
      → SameMeaning (observed (script_machine (calls_run calls hidden world)))
      (observed (function_machine (record { function = function; collector = ByMaps; hidden = hidden; world = world })))

  abbrev hidden : ℕ → Bool
  hidden = in_spill_slot plain function world

  beside : MeansSo hidden
  beside premises =
      Simulation.transitive (observed (script_machine (calls_run calls hidden world))) (observed (script_machine (script_run plain function world)))
      (function_behaviour plain function world)
      (joined_mean.same_meaning reading plain calls are function world here sound)
      (means world is_world met)
    where
      here : ArePerformed world.pointer_width reading plain calls are
      here = subst (λ (n : ℕ). ArePerformed n reading plain calls are) (sym is_world.pointers) done

      sound : IsSoundRun (calls_run calls hidden world)
      sound = calls_name_values.sound calls signature hidden world allowed premises.well_typed is_world.arguments premises.claims_true

      as_named : EachItem (CallsLibraryAsNamed (pointer_type_of width)) (program_of plain)
      as_named =
          subst (λ (pointer : «Type»). EachItem (CallsLibraryAsNamed pointer) (program_of plain)) (pointer_same width)
          (typing.libc_as_named (pointer_bits width) reading plain calls are done
          (subst (λ (pointer : «Type»). EachItem (CallsLibraryAsNamed pointer) (program_of_calls calls)) (sym (pointer_same width)) premises.libc_as_named))

      met : Premises plain signature (pointer_type_of width) (script_run plain function world)
      met = record {
        targets_filled = carried.targets_filled reading plain calls are premises.targets_filled;
        well_typed = typing.well_typed (pointer_bits width) reading plain calls are done signature premises.well_typed;
        given_before = joined_mean.well_placed (pointer_bits width) reading plain calls are done premises.given_before;
        tracked_apart = carried.tracked_apart reading plain calls are premises.tracked_apart;
        spares_spill_slots = joined_mean.spares_spill_slots reading plain calls are function world here sound premises.spares_spill_slots;
        claims_true = joined_mean.claims_true reading plain calls are function world here sound;
        libc_as_named = as_named;
      }

  -- the calls created as many slots as the plain ones
  hidden_same : hidden ≡ in_spill_slot_beside calls function world
  hidden_same =
      let behind : TableLists → ℕ → Bool = λ tables address. in_slots_from world (length tables.stack_slots) (drop (length tables.stack_slots) function.slots) address in
      ap behind (joined_calls reading plain calls are).ledgers.states.tables

  pub mean_the_same : MeansSo (in_spill_slot_beside calls function world)
  mean_the_same = subst MeansSo hidden_same beside

pub calls_mean : CallsMeanWhatPlainCallsMean
calls_mean reading plain calls are signature width function done allowed means world is_world =
    mean_the_same reading plain calls are signature width function done allowed means world is_world
