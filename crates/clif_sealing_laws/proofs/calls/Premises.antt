-- Calls that differ only in when blocks are sealed show the same, and meet the premises in the same worlds; and functions that mean
-- what they mean have the same meaning.
use Rattle.std.proofs.Common.{◌≡◌, ◌↔◌, ℕ, List, drop, length, refl, sym, ◌∙◌, ap}
use Rattle.std.specs.Prelude.{map, option_map, slice_get}
use Rattle.clif_types.specs.Signature.{SignatureShape}
use Rattle.clif_types.specs.StackSlot.{StackSlotShape}
use Rattle.clif_types.specs.Target.{pointer_type_of}
use Rattle.clif_types.specs.declared.target.PointerWidth.{PointerWidth}
use Rattle.clif_types.specs.declared.types.«Type».{«Type»}
use Rattle.clif_tables.specs.Lists.{TableLists}
use Rattle.clif_meaning.specs.FunctionView.{FunctionView}
use Rattle.clif_meaning.specs.Headline.{IsWorldOf}
use Rattle.clif_meaning.specs.Ledger.{VariableState, or_invalid, slot_count, type_of, variable_type}
use Rattle.clif_meaning.specs.Machine.{observed}
use Rattle.clif_meaning.specs.Name.{Name}
use Rattle.clif_meaning.specs.SameMeaning.{SameMeaning}
use Rattle.clif_meaning.specs.ScriptMachine.{ScriptRun, script_machine}
use Rattle.clif_meaning.specs.Store.{in_slots_from}
use Rattle.clif_meaning.specs.World.{World}
use Rattle.clif_expansion.specs.CallsHeadline.{CallsMeanTheSame, CallsPremises, behaviour_beside_calls, behaviour_of_calls, run_of_calls}
use Rattle.clif_expansion.specs.CallsRun.{calls_track}
use Rattle.clif_expansion.specs.ScriptCall.{ScriptCall, ledger_of, program_of_calls}
use Rattle.clif_renaming.specs.CallsSealing.{CallsDifferInSealing, counted_as, unsealed_calls}
use Rattle.clif_renaming.specs.Renaming.{IsRenamedRun}
use Rattle.clif_renaming.specs.Sealing.{name_left}
use Rattle.clif_renaming.proofs.ItemPremises.{exactly_then, libraries_alike, said_of_equals, targets_alike, tracked_alike, turned, typed_alike}
use Rattle.clif_renaming.proofs.LockStep.{names_are_free}
use Rattle.clif_renaming.proofs.PlacedNames.{placed_alike}
use Rattle.clif_renaming.proofs.Places.{names_apart}
use Rattle.clif_renaming.proofs.Premises.{mean_the_same, world_of_both}
use Rattle.clif_renaming.proofs.StepPremises.{claims_true_alike, slots_spared_alike}
use Rattle.clif_sealing_laws.proofs.calls.Ledgers.{filled_in_calls, unsealed_ledgers}
use Rattle.clif_sealing_laws.proofs.calls.Programs.{bare_elsewhere_in_calls, unsealed_calls_program}
use Rattle.clif_sealing_laws.proofs.calls.TrackedNames.{marked_in_calls, tracked_in_calls}

-- such calls make the same entries of tables
pub same_tables_of_calls : (left right : List ScriptCall) → CallsDifferInSealing left right → (ledger_of left).tables ≡ (ledger_of right).tables
same_tables_of_calls left right differ =
    sym (unsealed_ledgers left).tables.tables ∙ ap (λ (calls : List ScriptCall). (ledger_of calls).tables) differ ∙ (unsealed_ledgers right).tables.tables

-- CALLS, AND THE CALLS WITHOUT THOSE THAT SEAL ----------------------------------------------------------------------------

unsealed_run : (calls : List ScriptCall) (function : FunctionView) (world : World)
    → IsRenamedRun (name_left (map counted_as calls)) (run_of_calls calls function world) (run_of_calls (unsealed_calls calls) function world)
unsealed_run calls function world =
    let ledgers = unsealed_ledgers calls in
    record {
      program = unsealed_calls_program calls;
      variable_type = λ v. ap (λ (states : List VariableState). or_invalid (option_map (λ (state : VariableState). state.ty) (slice_get states v))) ledgers.tables.variables;
      name_type = λ x. ap or_invalid (ledgers.types x);
      is_marked = marked_in_calls calls;
      is_tracked = tracked_in_calls calls;
      hidden = λ address. ap (λ (tables : TableLists). in_slots_from world (length tables.stack_slots) (drop (length tables.stack_slots) function.slots) address) ledgers.tables.tables;
      world = refl;
    }

premises_unsealed : (calls : List ScriptCall) (signature : SignatureShape) (pointer : «Type») (function : FunctionView) (world : World)
    → CallsPremises calls signature pointer (run_of_calls calls function world)
    ↔ CallsPremises (unsealed_calls calls) signature pointer (run_of_calls (unsealed_calls calls) function world)
premises_unsealed calls signature pointer function world =
    let rename = name_left (map counted_as calls) in
    let ledger = ledger_of calls in
    let ledger' = ledger_of (unsealed_calls calls) in
    let program = program_of_calls calls in
    let program' = program_of_calls (unsealed_calls calls) in
    let apart = names_apart (map counted_as calls) in
    let renamed = unsealed_calls_program calls in
    let elsewhere = bare_elsewhere_in_calls calls in
    let told : (x : Name) → type_of (ledger_of (unsealed_calls calls)) (name_left (map counted_as calls) x) ≡ type_of (ledger_of calls) x = (unsealed_ledgers calls).types in
    let types : (x : Name) → or_invalid (type_of (ledger_of (unsealed_calls calls)) (name_left (map counted_as calls) x)) ≡ or_invalid (type_of (ledger_of calls) x) = λ x. ap or_invalid (told x) in
    let filled = filled_in_calls calls in
    let marks = marked_in_calls calls in
    let targets = targets_alike rename apart ledger ledger' program program' renamed elsewhere types told filled declared marks in
    let typed = typed_alike rename apart ledger ledger' program program' renamed elsewhere types told filled declared marks signature in
    let tracked = tracked_alike rename apart ledger ledger' program program' renamed elsewhere types told filled declared marks
    (calls_track calls) (calls_track (unsealed_calls calls)) (tracked_in_calls calls) in
    let libraries = libraries_alike rename apart ledger ledger' program program' renamed elsewhere types told filled declared marks pointer in
    let placed = placed_alike rename apart program program' renamed elsewhere in
    let run = run_of_calls calls function world in
    let run' = run_of_calls (unsealed_calls calls) function world in
    let spared = slots_spared_alike rename apart run run' (unsealed_run calls function world) in
    let claims = claims_true_alike rename apart run run' (unsealed_run calls function world) in (
      λ meets. record {
        targets_filled = targets.0 meets.targets_filled;
        well_typed = typed.0 meets.well_typed;
        given_before = placed.0 meets.given_before;
        tracked_apart = tracked.0 meets.tracked_apart;
        spares_spill_slots = spared.0 meets.spares_spill_slots;
        claims_true = claims.0 meets.claims_true;
        libc_as_named = libraries.0 meets.libc_as_named;
      },
      λ meets. record {
        targets_filled = targets.1 meets.targets_filled;
        well_typed = typed.1 meets.well_typed;
        given_before = placed.1 meets.given_before;
        tracked_apart = tracked.1 meets.tracked_apart;
        spares_spill_slots = spared.1 meets.spares_spill_slots;
        claims_true = claims.1 meets.claims_true;
        libc_as_named = libraries.1 meets.libc_as_named;
      },
    )
  where
    declared : (v : ℕ) → variable_type (ledger_of (unsealed_calls calls)) v ≡ variable_type (ledger_of calls) v
    declared v = ap (λ (states : List VariableState). option_map (λ (state : VariableState). state.ty) (slice_get states v)) (unsealed_ledgers calls).tables.variables

-- TWO LISTS OF CALLS ------------------------------------------------------------------------------------------------------

same_shown : (left right : List ScriptCall) (function : FunctionView) (world : World) → CallsDifferInSealing left right
    → (n : ℕ) → behaviour_of_calls left function world n ≡ behaviour_of_calls right function world n
same_shown left right function world differ n =
    to_unsealed left ∙ ap (λ (calls : List ScriptCall). behaviour_of_calls calls function world n) differ ∙ sym (to_unsealed right)
  where
    to_unsealed : (calls : List ScriptCall) → behaviour_of_calls calls function world n ≡ behaviour_of_calls (unsealed_calls calls) function world n
    to_unsealed calls =
        (names_are_free (name_left (map counted_as calls)) (run_of_calls calls function world) (run_of_calls (unsealed_calls calls) function world)
        (names_apart (map counted_as calls)) (unsealed_run calls function world)).each_step n

-- the run of calls depends on the slots of the function alone
same_run : (calls : List ScriptCall) (f g : FunctionView) (world : World) → f.slots ≡ g.slots → run_of_calls calls f world ≡ run_of_calls calls g world
same_run calls f g world same = ap (λ (slots : List StackSlotShape). with_hidden slots) same
  where
    with_hidden : List StackSlotShape → ScriptRun
    with_hidden slots = record (run_of_calls calls f world) {
      hidden = λ address. in_slots_from world (slot_count (ledger_of calls)) (drop (slot_count (ledger_of calls)) slots) address;
    }

-- they meet the premises in the same worlds, beside functions with the same slots
pub calls_premises_stay : (left right : List ScriptCall) (signature : SignatureShape) (pointer : «Type») (f g : FunctionView) (world : World)
    → CallsDifferInSealing left right → f.slots ≡ g.slots
    → CallsPremises left signature pointer (run_of_calls left f world) ↔ CallsPremises right signature pointer (run_of_calls right g world)
calls_premises_stay left right signature pointer f g world differ slots =
    exactly_then (premises_unsealed left signature pointer f world)
    (exactly_then (said_of_equals (λ (calls : List ScriptCall). CallsPremises calls signature pointer (run_of_calls calls f world)) (unsealed_calls left) (unsealed_calls right) differ)
    (exactly_then (turned (premises_unsealed right signature pointer f world))
    (said_of_equals (λ (run : ScriptRun). CallsPremises right signature pointer run) (run_of_calls right f world) (run_of_calls right g world) (same_run right f g world slots))))

pub functions_of_calls_mean_the_same : (left right : List ScriptCall) (signature : SignatureShape) (width : PointerWidth) (f g : FunctionView) (world : World)
    → CallsDifferInSealing left right → f.slots ≡ g.slots
    → CallsMeanTheSame left signature width f → CallsMeanTheSame right signature width g
    → IsWorldOf signature f width world → CallsPremises left signature (pointer_type_of width) (run_of_calls left f world)
    → SameMeaning (behaviour_beside_calls left f world) (behaviour_beside_calls right g world)
functions_of_calls_mean_the_same left right signature width f g world differ slots left_means right_means is left_meets =
    mean_the_same (behaviour_of_calls left f world) (behaviour_of_calls right g world) (behaviour_beside_calls left f world) (behaviour_beside_calls right g world)
    (left_means world is left_meets)
    (λ n. same_shown left right f world differ n ∙ ap (λ (run : ScriptRun). observed (script_machine run) n) (same_run right f g world slots))
    (right_means world (world_of_both signature width f g world slots is) ((calls_premises_stay left right signature (pointer_type_of width) f g world differ slots).0 left_meets))
