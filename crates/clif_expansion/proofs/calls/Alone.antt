-- Without an emission premises and theorem are those of the script.
use Rattle.std.proofs.Common.{◌≡◌, ℕ, suc, Bool, List, [], ◌∷◌, ◌++◌, map, refl, sym, ◌∙◌, ap, subst}
use Rattle.std.specs.Prelude.{◌↔◌, drop}
use Rattle.std.specs.List.{list_any}
use Rattle.clif_types.specs.declared.target.PointerWidth.{PointerWidth}
use Rattle.clif_types.specs.declared.types.«Type».{«Type»}
use Rattle.clif_types.specs.Signature.{SignatureShape}
use Rattle.clif_types.specs.Target.{pointer_type_of}
use Rattle.clif_meaning.specs.FunctionMachine.{ByMaps, function_machine}
use Rattle.clif_meaning.specs.FunctionView.{FunctionView}
use Rattle.clif_meaning.specs.Headline.{IsWorldOf, MeansTheSame}
use Rattle.clif_meaning.specs.Ledger.{Ledger, is_marked, ledger_after, or_invalid, slot_count, type_of, variable_type}
use Rattle.clif_meaning.specs.Machine.{observed}
use Rattle.clif_meaning.specs.Name.{Name, same_name}
use Rattle.clif_meaning.specs.Premises.{CallsLibraryAsNamed, ClaimsAreTrue, EachItem, HasGoodTargets, InEachStep, ItemEdgesMatch, KeepsTrackedApart, PlacementPremises, Premises, SparesSpillSlots, WellTyped}
use Rattle.clif_meaning.specs.Program.{Program, program_of}
use Rattle.clif_meaning.specs.Request.{Script}
use Rattle.clif_meaning.specs.SameMeaning.{SameMeaning}
use Rattle.clif_meaning.specs.ScriptMachine.{ScriptRun, script_machine}
use Rattle.clif_meaning.specs.Store.{in_slots_from}
use Rattle.clif_meaning.specs.Tracked.{is_tracked, tracked_by, tracked_from}
use Rattle.clif_meaning.specs.WellPlaced.{IsWellPlaced, program_code}
use Rattle.clif_meaning.specs.World.{World}
use Rattle.clif_expansion.specs.CallsHeadline.{CallsMeanTheSame, CallsPlacementPremises, CallsPremises}
use Rattle.clif_expansion.specs.HeadlineLaws.{AskingMeansTheSame}
use Rattle.clif_expansion.specs.CallsRun.{calls_track, tracked_by_calls}
use Rattle.clif_expansion.specs.ScriptCall.{Ask, ScriptCall, ledger_of, program_of_calls}
use Rattle.clif_expansion.proofs.ScriptCalls.{asking_stays}

-- what premises and theorem speak of
record Told : Type 0 where
  ledger : Ledger
  program : Program
  tracked : Name → Bool

abbrev of_script : Script → Told
of_script script = record { ledger = ledger_after script; program = program_of script; tracked = is_tracked script }

abbrev of_calls : List ScriptCall → Told
of_calls calls = record { ledger = ledger_of calls; program = program_of_calls calls; tracked = calls_track calls }

same_names : (marks : Ledger) (place : ℕ) (script : Script) → tracked_by_calls marks place (map Ask script) ≡ tracked_from marks place script
same_names marks place [] = refl
same_names marks place (request ∷ script) = ap (λ (names : List Name). tracked_by marks place request ++ names) (same_names marks (suc place) script)

same_tracked : (script : Script) → calls_track (map Ask script) ≡ is_tracked script
same_tracked script =
    let among : List Name → Name → Bool = λ names name. list_any (same_name name) names in
    ap among (ap (λ (marks : Ledger). tracked_by_calls marks 0 (map Ask script)) (asking_stays.ledger script) ∙ same_names (ledger_after script) 0 script)

same_told : (script : Script) → of_script script ≡ of_calls (map Ask script)
same_told script = sym (λ i. record { ledger = asking_stays.ledger script i; program = asking_stays.program script i; tracked = same_tracked script i })

both_ways : (P : Told → Type 0) (script : Script) → P (of_script script) ↔ P (of_calls (map Ask script))
both_ways P script = (subst P (same_told script), subst P (sym (same_told script)))

-- THE SAME OF BOTH --------------------------------------------------------------------------------------------------------

record PremisesOf (signature : SignatureShape) (pointer : «Type») (run : ScriptRun) (told : Told) : Type 0 where
  targets_filled : EachItem (HasGoodTargets told.ledger told.program) told.program
  well_typed : WellTyped told.ledger told.program signature
  given_before : IsWellPlaced (program_code told.program)
  tracked_apart : EachItem (KeepsTrackedApart told.ledger told.tracked) told.program
  spares_spill_slots : InEachStep (SparesSpillSlots run) run
  claims_true : InEachStep (ClaimsAreTrue run) run
  libc_as_named : EachItem (CallsLibraryAsNamed pointer) told.program

record PlacementOf (signature : SignatureShape) (told : Told) : Type 0 where
  targets_filled : EachItem (HasGoodTargets told.ledger told.program) told.program
  well_typed : WellTyped told.ledger told.program signature
  given_before : IsWellPlaced (program_code told.program)

module _ (signature : SignatureShape) (pointer : «Type») (run : ScriptRun) where
  script_told : (script : Script) → Premises script signature pointer run ↔ PremisesOf signature pointer run (of_script script)
  script_told script = (
    λ p. record { targets_filled = p.targets_filled; well_typed = p.well_typed; given_before = p.given_before; tracked_apart = p.tracked_apart; spares_spill_slots = p.spares_spill_slots; claims_true = p.claims_true; libc_as_named = p.libc_as_named },
    λ p. record { targets_filled = p.targets_filled; well_typed = p.well_typed; given_before = p.given_before; tracked_apart = p.tracked_apart; spares_spill_slots = p.spares_spill_slots; claims_true = p.claims_true; libc_as_named = p.libc_as_named },
  )

  calls_told : (calls : List ScriptCall) → CallsPremises calls signature pointer run ↔ PremisesOf signature pointer run (of_calls calls)
  calls_told calls = (
    λ p. record { targets_filled = p.targets_filled; well_typed = p.well_typed; given_before = p.given_before; tracked_apart = p.tracked_apart; spares_spill_slots = p.spares_spill_slots; claims_true = p.claims_true; libc_as_named = p.libc_as_named },
    λ p. record { targets_filled = p.targets_filled; well_typed = p.well_typed; given_before = p.given_before; tracked_apart = p.tracked_apart; spares_spill_slots = p.spares_spill_slots; claims_true = p.claims_true; libc_as_named = p.libc_as_named },
  )

  premises : (script : Script) → Premises script signature pointer run ↔ CallsPremises (map Ask script) signature pointer run
  premises script =
      let both = both_ways (PremisesOf signature pointer run) script in (
        λ p. (calls_told (map Ask script)).1 (both.0 ((script_told script).0 p)),
        λ p. (script_told script).1 (both.1 ((calls_told (map Ask script)).0 p)),
      )

placement : (script : Script) (signature : SignatureShape) → PlacementPremises script signature ↔ CallsPlacementPremises (map Ask script) signature
placement script signature =
    let both = both_ways (PlacementOf signature) script in (
      λ p. back (both.0 (record { targets_filled = p.targets_filled; well_typed = p.well_typed; given_before = p.given_before })),
      λ p. there (both.1 (record { targets_filled = p.targets_filled; well_typed = p.well_typed; given_before = p.given_before })),
    )
  where
    back : PlacementOf signature (of_calls (map Ask script)) → CallsPlacementPremises (map Ask script) signature
    back p = record { targets_filled = p.targets_filled; well_typed = p.well_typed; given_before = p.given_before }

    there : PlacementOf signature (of_script script) → PlacementPremises script signature
    there p = record { targets_filled = p.targets_filled; well_typed = p.well_typed; given_before = p.given_before }

-- THE THEOREM -------------------------------------------------------------------------------------------------------------

module _ (signature : SignatureShape) (width : PointerWidth) (function : FunctionView) where
  abbrev hidden_in : Told → World → ℕ → Bool
  hidden_in told world address = in_slots_from world (slot_count told.ledger) (drop (slot_count told.ledger) function.slots) address

  abbrev run_in : Told → World → ScriptRun
  run_in told world = record {
    program = told.program;
    variable_type = λ v. or_invalid (variable_type told.ledger v);
    name_type = λ x. or_invalid (type_of told.ledger x);
    is_marked = is_marked told.ledger;
    is_tracked = told.tracked;
    hidden = hidden_in told world;
    world = world;
  }

  abbrev MeansIn : Told → Type 0
  MeansIn told =
      (world : World) → IsWorldOf signature function width world → PremisesOf signature (pointer_type_of width) (run_in told world) told
      → SameMeaning (observed (script_machine (run_in told world)))
      (observed (function_machine (record { function = function; collector = ByMaps; hidden = hidden_in told world; world = world })))

  meaning : (script : Script) → MeansTheSame script signature width function ↔ CallsMeanTheSame (map Ask script) signature width function
  meaning script =
      let both = both_ways MeansIn script in (
        λ means world is p. both.0 (λ other at q. means other at ((script_told signature (pointer_type_of width) (run_in (of_script script) other) script).1 q)) world is
            ((calls_told signature (pointer_type_of width) (run_in (of_calls (map Ask script)) world) (map Ask script)).0 p),
        λ means world is p. both.1 (λ other at q. means other at ((calls_told signature (pointer_type_of width) (run_in (of_calls (map Ask script)) other) (map Ask script)).1 q)) world is
            ((script_told signature (pointer_type_of width) (run_in (of_script script) world) script).0 p),
      )

pub asking_means : AskingMeansTheSame
asking_means = record {
  premises = λ script signature pointer run. premises signature pointer run script;
  placement = placement;
  edges = λ script. both_ways (λ told. EachItem (ItemEdgesMatch told.ledger told.program) told.program) script;
  meaning = λ script signature width function. meaning signature width function script;
}
