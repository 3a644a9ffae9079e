-- Scripts that differ only in when blocks are sealed meet the premises in the same worlds, and functions that mean what they
-- mean have the same meaning.
use Rattle.std.proofs.Common.{◌≡◌, ◌↔◌, ℕ, List, drop, ap, ◌∙◌, subst}
use Rattle.std.specs.Prelude.{option_map, slice_get}
use Rattle.clif_types.specs.Signature.{SignatureShape}
use Rattle.clif_types.specs.StackSlot.{StackSlotShape}
use Rattle.clif_types.specs.Target.{pointer_type_of}
use Rattle.clif_types.specs.declared.target.PointerWidth.{PointerWidth}
use Rattle.clif_types.specs.declared.types.«Type».{«Type»}
use Rattle.clif_meaning.specs.FunctionView.{FunctionView}
use Rattle.clif_meaning.specs.Headline.{IsWorldOf, function_behaviour, script_behaviour, script_run}
use Rattle.clif_meaning.specs.Ledger.{VariableState, ledger_after, or_invalid, slot_count, type_of, variable_type}
use Rattle.clif_meaning.specs.Machine.{observed}
use Rattle.clif_meaning.specs.Name.{Name}
use Rattle.clif_meaning.specs.Premises.{Premises}
use Rattle.clif_meaning.specs.Program.{program_of}
use Rattle.clif_meaning.specs.Request.{Script}
use Rattle.clif_meaning.specs.SameMeaning.{Behaviour, SameMeaning}
use Rattle.clif_meaning.specs.ScriptMachine.{ScriptRun, script_machine}
use Rattle.clif_meaning.specs.Store.{in_slots_from}
use Rattle.clif_meaning.specs.Tracked.{is_tracked}
use Rattle.clif_meaning.specs.World.{PlacesSlots, World}
use Rattle.clif_meaning.proofs.Simulation.{symmetric, transitive}
use Rattle.clif_renaming.specs.Laws.{FunctionsMeanTheSame, PremisesStay}
use Rattle.clif_renaming.specs.Sealing.{name_left, unsealed, without_seals}
use Rattle.clif_renaming.proofs.Filled.{unsealed_filled}
use Rattle.clif_renaming.proofs.Images.{bare_elsewhere}
use Rattle.clif_renaming.proofs.ItemPremises.{exactly_then, libraries_alike, said_of_equals, targets_alike, tracked_alike, turned, typed_alike}
use Rattle.clif_renaming.proofs.LockStep.{show_the_same}
use Rattle.clif_renaming.proofs.Ledgers.{unsealed_tables, unsealed_types}
use Rattle.clif_renaming.proofs.PlacedNames.{placed_alike}
use Rattle.clif_renaming.proofs.Places.{names_apart}
use Rattle.clif_renaming.proofs.Programs.{unsealed_program}
use Rattle.clif_renaming.proofs.Sealing.{same_shown, unsealed_run}
use Rattle.clif_renaming.proofs.StepPremises.{claims_true_alike, slots_spared_alike}
use Rattle.clif_renaming.proofs.TrackedNames.{unsealed_marked, unsealed_tracked}

-- a script, and the script without its calls that seal
pub premises_unsealed : (script : Script) (signature : SignatureShape) (pointer : «Type») (function : FunctionView) (world : World)
    → Premises script signature pointer (script_run script function world)
    ↔ Premises (unsealed script) signature pointer (script_run (unsealed script) function world)
premises_unsealed script signature pointer function world =
    let rename = name_left script in
    let ledger = ledger_after script in
    let ledger' = ledger_after (unsealed script) in
    let program = program_of script in
    let program' = program_of (unsealed script) in
    let apart = names_apart script in
    let renamed = unsealed_program script in
    let elsewhere = bare_elsewhere (name_left script) (without_seals script) in
    let types : (x : Name) → or_invalid (type_of (ledger_after (unsealed script)) (name_left script x)) ≡ or_invalid (type_of (ledger_after script) x) = λ x. ap or_invalid (unsealed_types script x) in
    let declared : (v : ℕ) → variable_type (ledger_after (unsealed script)) v ≡ variable_type (ledger_after script) v = declared_alike in
    let targets = targets_alike rename apart ledger ledger' program program' renamed elsewhere types (unsealed_types script) (unsealed_filled script) declared (unsealed_marked script) in
    let typed = typed_alike rename apart ledger ledger' program program' renamed elsewhere types (unsealed_types script) (unsealed_filled script) declared (unsealed_marked script) signature in
    let tracked = tracked_alike rename apart ledger ledger' program program' renamed elsewhere types (unsealed_types script) (unsealed_filled script) declared (unsealed_marked script)
    (is_tracked script) (is_tracked (unsealed script)) (unsealed_tracked script) in
    let libraries = libraries_alike rename apart ledger ledger' program program' renamed elsewhere types (unsealed_types script) (unsealed_filled script) declared (unsealed_marked script) pointer in
    let placed = placed_alike rename apart program program' renamed elsewhere in
    let run = script_run script function world in
    let run' = script_run (unsealed script) function world in
    let spared = slots_spared_alike rename apart run run' (unsealed_run script function world) in
    let claims = claims_true_alike rename apart run run' (unsealed_run script function world) in (
      λ meets. record {
        targets_filled = targets.0 meets.targets_filled;
        well_typed = typed.0 meets.well_typed;
        given_before = placed.0 meets.given_before;
        tracked_apart = tracked.0 meets.tracked_apart;
        spares_spill_slots = spared.0 meets.spares_spill_slots;
        claims_true = claims.0 meets.claims_true;
        libc_as_named = libraries.0 meets.libc_as_named;
      },
      λ meets. record {
        targets_filled = targets.1 meets.targets_filled;
        well_typed = typed.1 meets.well_typed;
        given_before = placed.1 meets.given_before;
        tracked_apart = tracked.1 meets.tracked_apart;
        spares_spill_slots = spared.1 meets.spares_spill_slots;
        claims_true = claims.1 meets.claims_true;
        libc_as_named = libraries.1 meets.libc_as_named;
      },
    )
  where
    declared_alike : (v : ℕ) → variable_type (ledger_after (unsealed script)) v ≡ variable_type (ledger_after script) v
    declared_alike v = ap (λ (states : List VariableState). option_map (λ (state : VariableState). state.ty) (slice_get states v)) (unsealed_tables script).variables

-- the run of a script depends on the slots of the function alone
pub same_run : (script : Script) (f g : FunctionView) (world : World) → f.slots ≡ g.slots → script_run script f world ≡ script_run script g world
same_run script f g world same =
    ap (λ (slots : List StackSlotShape). with_hidden slots) same
  where
    with_hidden : List StackSlotShape → ScriptRun
    with_hidden slots = record (script_run script f world) {
      hidden = λ address. in_slots_from world (slot_count (ledger_after script)) (drop (slot_count (ledger_after script)) slots) address;
    }

pub premises_stay : PremisesStay
premises_stay left right signature pointer f g world differ slots =
    exactly_then (premises_unsealed left signature pointer f world)
    (exactly_then (said_of_equals (λ (script : Script). Premises script signature pointer (script_run script f world)) (unsealed left) (unsealed right) differ)
    (exactly_then (turned (premises_unsealed right signature pointer f world))
    (said_of_equals (λ (run : ScriptRun). Premises right signature pointer run) (script_run right f world) (script_run right g world) (same_run right f g world slots))))

-- a world of a function is one of each function with the same slots
pub world_of_both : (signature : SignatureShape) (width : PointerWidth) (f g : FunctionView) (world : World) → f.slots ≡ g.slots → IsWorldOf signature f width world → IsWorldOf signature g width world
world_of_both signature width f g world slots is = record {
  arguments = is.arguments;
  pointers = is.pointers;
  slots = subst (λ (list : List StackSlotShape). PlacesSlots world list) slots is.slots;
}

-- two functions that mean what is shown, where both are shown the same, have the same meaning
pub mean_the_same : (shown other : Behaviour) (f g : Behaviour) → SameMeaning shown f → ((n : ℕ) → shown n ≡ other n) → SameMeaning other g → SameMeaning f g
mean_the_same shown other f g first same second =
    transitive f shown g (symmetric shown f first) (transitive shown other g (show_the_same shown other same).same_meaning second)

pub functions_mean_the_same : FunctionsMeanTheSame
functions_mean_the_same left right signature width f g world differ slots left_means right_means is left_meets =
    mean_the_same (script_behaviour left f world) (script_behaviour right g world) (function_behaviour left f world) (function_behaviour right g world)
    (left_means world is left_meets)
    (λ n. (same_shown left right f world differ).each_step n ∙ ap (λ (run : ScriptRun). observed (script_machine run) n) (same_run right f g world slots))
    (right_means world (world_of_both signature width f g world slots is) ((premises_stay left right signature (pointer_type_of width) f g world differ slots).0 left_meets))
