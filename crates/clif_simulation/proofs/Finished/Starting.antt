-- How both machines start: at the entry, whose parameters that the caller made have the world's arguments, after the zeros at
-- its front, with all other bits zero.
use Rattle.std.proofs.Common.{◌≡◌, ℕ, zero, suc, ◌+◌, ◌-◌, ◌&&◌, Bool, true, List, [], ◌∷◌, length, map, Option, Some, inl, refl, sym, ◌∙◌, ap, subst, arith}
use Rattle.clif_types.specs.declared.types.«Type».{«Type»}
use Rattle.clif_types.specs.declared.target.PointerWidth.{PointerWidth}
use Rattle.clif_types.specs.Signature.{SignatureShape}
use Rattle.clif_ir.specs.Body.{Body}
use Rattle.clif_ir.specs.Consistent.{IsConsistent}
use Rattle.clif_paths.specs.Places.{Follows, start}
use Rattle.clif_paths.specs.State.{Program, Function}
use Rattle.clif_paths.specs.Blocks.{Blocks}
use Rattle.clif_ssa.specs.Ssa.{SsaState}
use Rattle.clif_ssa.specs.Sound.{entry_of, has_entry}
use Rattle.clif_meaning.specs.Bits.{Bits, AreValues}
use Rattle.clif_meaning.specs.Name.{Name}
use Rattle.clif_meaning.specs.Request.{AnsweredCall, script_of}
use Rattle.clif_meaning.specs.Program.{Item}
use Rattle.clif_meaning.specs.Ledger.{ledger_after, or_invalid, type_of}
use Rattle.clif_meaning.specs.World.{World}
use Rattle.clif_meaning.specs.Store.{assigned}
use Rattle.clif_meaning.specs.Machine.{Machine, At, state_after, observed, Observation}
use Rattle.clif_meaning.specs.ScriptMachine as script
use Rattle.clif_meaning.specs.ScriptMachine.{ScriptRun, ScriptState}
use Rattle.clif_meaning.specs.FunctionMachine as function_machine_of
use Rattle.clif_meaning.specs.FunctionMachine.{FunctionRun, FunctionState, same_value}
use Rattle.clif_meaning.specs.FunctionView.{Placed}
use Rattle.clif_meaning.specs.Premises.{EachItem, EntryTakes, HasGoodTargets, WellTyped, parameter_types}
use Rattle.clif_meaning.specs.WellPlaced.{program_code, IsWellPlaced}
use Rattle.clif_meaning.proofs.Stuttering.{Simulates, steps_from}
use Rattle.clif_simulation.specs.Tables.{answered, block_name, program_so_far}
use Rattle.clif_simulation.proofs.Whole.{Whole}
use Rattle.clif_simulation.specs.Laws.{IsFinished}
use Rattle.clif_simulation.proofs.Finished.Agreement.{Agrees, IsBlank, ZerosAreZero, agrees_still, zeros_agree, zeros_still}
use Rattle.clif_simulation.proofs.Finished.IntoBlock
use Rattle.clif_simulation.proofs.Labelling.Labels.{Labels, no_labels}
use Rattle.clif_simulation.proofs.Finished.Entered.{EntersThere, entered_agrees, entered_zeros}
use Rattle.clif_simulation.proofs.Finished.Entry.{begins}
use Rattle.clif_simulation.proofs.Finished.Fronts
use Rattle.clif_simulation.proofs.Finished.Fronts.{HasFront, has_front, placed_inst, quiet}
use Rattle.clif_simulation.proofs.Finished.Matching.{FollowsThroughout}
use Rattle.clif_simulation.proofs.Finished.Placing.{map_length}
use Rattle.clif_simulation.proofs.Finished.Straight.{arms, first_arm}
use Rattle.clif_simulation.proofs.Unfinished.Counted.{as_many_values}
use Rattle.clif_simulation.proofs.Finished.Sources.{Moving}
use Rattle.clif_simulation.proofs.Finished.Stepping

-- What is passed to the entry --------------------------------------------------------------------------------------------

-- the world gives as many arguments as the entry has parameters
pub arguments_count : (calls : List AnsweredCall) (entry : Name) (types : List «Type») (world : World) → (program_so_far calls).entry ≡ Some entry
    → EntryTakes (ledger_after (script_of calls)) (program_so_far calls) types (program_so_far calls).entry → AreValues types world.arguments
    → length world.arguments ≡ length ((program_so_far calls).parameters entry)
arguments_count calls entry types world is_entry takes are =
    let taken : parameter_types (ledger_after (script_of calls)) (program_so_far calls) entry ≡ types =
    subst (λ (o : Option Name). EntryTakes (ledger_after (script_of calls)) (program_so_far calls) types o) is_entry takes in
    as_many_values types world.arguments are ∙ ap (λ (tys : List «Type»). length tys) (sym taken)
    ∙ map_length (λ (name : Name). or_invalid (type_of (ledger_after (script_of calls)) name)) ((program_so_far calls).parameters entry)

no_elements : {X : Type 0} (xs : List X) → length xs ≡ 0 → xs ≡ []
no_elements [] none = refl
no_elements (x ∷ xs) none = absurd (omega (arith, none))

-- none, where it has none
pub no_arguments : (calls : List AnsweredCall) (entry : Name) (types : List «Type») (world : World) → (program_so_far calls).parameters entry ≡ []
    → (program_so_far calls).entry ≡ Some entry
    → EntryTakes (ledger_after (script_of calls)) (program_so_far calls) types (program_so_far calls).entry → AreValues types world.arguments → world.arguments ≡ []
no_arguments calls entry types world bare is_entry takes are =
    no_elements world.arguments (arguments_count calls entry types world is_entry takes are ∙ ap (λ (names : List Name). length names) bare)

pub none_assigned : {Place : Type 0} (same : Place → Place → Bool) (places : List Place) (values : List Bits) (old : Place → Bits) → values ≡ []
    → assigned same places values old ≡ old
none_assigned same [] values old none = refl
none_assigned same (place ∷ places) [] old none = refl
none_assigned same (place ∷ places) (bits ∷ values) old none = cc

-- steps from the start
from_start : {State : Type 0} (machine : Machine State Observation) (j : ℕ) → state_after machine j ≡ steps_from machine j machine.start
from_start machine zero = refl
from_start machine (suc j) = ap machine.next (from_start machine j)

module _ (calls : List AnsweredCall) (f : Body) (ssa : SsaState) (consistent : IsConsistent f) (carries : Whole calls f ssa) (finished : IsFinished calls f ssa)
    (width : PointerWidth) (world : World) (signature : SignatureShape) (placed : IsWellPlaced (program_code (program_so_far calls)))
    (targets : EachItem (HasGoodTargets (ledger_after (script_of calls)) (program_so_far calls)) (program_so_far calls))
    (typed : WellTyped (ledger_after (script_of calls)) (program_so_far calls) signature) (moving : Moving calls carries.own f ssa)
    (entry : Name) (is_entry : (program_so_far calls).entry ≡ Some entry) (as_many : length world.arguments ≡ length ((program_so_far calls).parameters entry))
  where
    abbrev left_run : ScriptRun
    left_run = Stepping.left_run calls f ssa consistent carries finished width world signature placed targets typed moving

    abbrev right_run : FunctionRun
    right_run = Stepping.right_run calls f ssa consistent carries finished width world signature placed targets typed moving

    abbrev left_machine : Machine ScriptState Observation
    left_machine = Stepping.left_machine calls f ssa consistent carries finished width world signature placed targets typed moving

    abbrev right_machine : Machine FunctionState Observation
    right_machine = Stepping.right_machine calls f ssa consistent carries finished width world signature placed targets typed moving

    abbrev Related : ScriptState → FunctionState → Type 0
    Related = Stepping.Related calls f ssa consistent carries finished width world signature placed targets typed moving

    abbrev program : Program
    program = Stepping.program calls f ssa consistent carries finished width world signature placed targets typed moving

    abbrev function : Function
    function = Stepping.function calls f ssa consistent carries finished width world signature placed targets typed moving

    -- both agree about what moves and what doesn't
    abbrev labels : Labels program function
    labels = no_labels program function

    abbrev live : ℕ → Type 0
    live = Stepping.live calls f ssa consistent carries finished width world signature placed targets typed moving

    abbrev tables : Blocks
    tables = carries.tables

    abbrev e : ℕ
    e = (carries.entry.some entry is_entry).0

    found : entry_of f ≡ Some e
    found = (carries.entry.some entry is_entry).1

    named : block_name calls e ≡ Some entry
    named = (carries.entry.some entry is_entry).2

    abbrev items : List Item
    items = (program_so_far calls).items entry

    abbrev has : HasFront f tables e (carries.own.insts e)
    has = has_front f consistent tables e (carries.own.insts e) (carries.describes.instructions e) (carries.own_inserted e)

    -- both machines at the entry
    abbrev left_first : ScriptState
    left_first = script.enter_block left_run (script.blank_state left_run) entry world.arguments

    abbrev right_first : FunctionState
    right_first = function_machine_of.enter_block right_run (function_machine_of.blank_state right_run) e world.arguments

    left_is : left_machine.start ≡ left_first
    left_is = ap (script.start_at left_run) is_entry

    right_is : right_machine.start ≡ right_first
    right_is = ap (function_machine_of.start_at right_run) found

    abbrev of_entry : List Name
    of_entry = (program_so_far calls).parameters entry

    -- all bits are zero at first
    abbrev blank_values : ℕ → ℕ
    blank_values = λ v. 0

    enters : EntersThere live program function (first_arm e) [] of_entry (answered calls) blank_values blank_values
    enters =
        IntoBlock.enters_front calls f ssa consistent carries e (finished.none_waits e) entry named (λ place. true) refl start 0 [] blank_values blank_values
        (λ w defined. refl) (λ w elsewhere. refl) (λ w blank. refl) (λ w blank. refl)

    blank_agrees : Agrees live program function labels [] left_first.variables (λ x. 0) blank_values
    blank_agrees = zeros_agree live program function labels [] left_first.variables (λ x. 0) blank_values (λ x. refl) (λ n. refl) (λ w. refl)

    blank_zeros : ZerosAreZero program function [] left_first.variables (λ x. 0) blank_values
    blank_zeros = record { held = record { of_variable = λ x is. refl; of_name = λ n is. refl }; of_value = λ w blank. refl }

    -- the values at the entry
    abbrev values_there : ℕ → ℕ
    values_there = assigned same_value (map (answered calls) of_entry) world.arguments blank_values

    same_values : (v : ℕ) → right_first.values v ≡ values_there v
    same_values v = IntoBlock.callers_alone calls f ssa consistent carries e entry named world.arguments blank_values v as_many

    agrees_there : Agrees live program function labels (first_arm e ∷ []) left_first.variables left_first.names right_first.values
    agrees_there =
        agrees_still live program function labels (first_arm e ∷ []) left_first.variables left_first.names values_there right_first.values same_values
        (entered_agrees live program function labels (first_arm e) [] of_entry (answered calls) blank_values blank_values enters left_first.variables (λ x. 0) blank_agrees blank_zeros
        world.arguments (inl as_many))

    zeros_there : ZerosAreZero program function (first_arm e ∷ []) left_first.variables left_first.names right_first.values
    zeros_there =
        zeros_still program function (first_arm e ∷ []) left_first.variables left_first.names values_there right_first.values same_values
        (entered_zeros live program function labels (first_arm e) [] of_entry (answered calls) blank_values blank_values enters left_first.variables (λ x. 0) blank_agrees blank_zeros
        world.arguments (inl as_many))

    blank : (w : ℕ) → IsBlank (function.definition w).kind → right_first.values w ≡ 0
    blank = zeros_there.of_value

    -- The zeros come first --------------------------------------------------------------------------------------------------

    abbrev Left : ℕ → FunctionState → Type 0
    Left = Fronts.ZerosLeft right_run f (λ v. refl) tables e has.zeros has.in_turn (map (placed_inst f) (carries.own.insts e)) right_first

    all_left : Left (length has.zeros) right_first
    all_left =
        Fronts.none_done right_run f (λ v. refl) tables e has.zeros has.in_turn (map (placed_inst f) (carries.own.insts e)) right_first has.are_zeros
        (ap (λ (ps : List Placed). At ps) has.in_order)

    same_behind : (q : FunctionState) → Left 0 q → (w : ℕ) → q.values w ≡ right_first.values w
    same_behind = Fronts.same_values right_run f (λ v. refl) tables e has.zeros has.in_turn (map (placed_inst f) (carries.own.insts e)) right_first blank 0

    after : (j : ℕ) → steps_from right_machine j right_first ≡ state_after right_machine j
    after j = sym (ap (steps_from right_machine j) right_is) ∙ sym (from_start right_machine j)

    left_after : (j m : ℕ) → j + m ≡ length has.zeros → Left m (state_after right_machine j)
    left_after j m sum =
        subst (Left m) (after j)
        (Fronts.zeros_left right_run f (λ v. refl) tables e has.zeros has.in_turn (map (placed_inst f) (carries.own.insts e)) right_first j m (length has.zeros) sum all_left)

    left_quiet : observed left_machine 0 ≡ quiet []
    left_quiet = ap left_machine.shown left_is

    follows : Follows (arms tables) (first_arm e ∷ [])
    follows =
        let sealed : tables.sealed e ≡ true =
        carries.describes.sealed e ∙ ap (λ (t : Bool). t && has_entry f.layout) (finished.entry_sealed e found) ∙ begins f.layout e found in
        let joins : tables.joins (first_arm e) ≡ true = carries.describes.entered e found sealed in
        (rw (sealed, joins) refl, refl, tt)

    related_first : (q : FunctionState) → Left 0 q → Related left_machine.start q
    related_first q z =
        subst (λ (p : ScriptState). Related p q) (sym left_is) (inl (record {
          block = e;
          name = entry;
          index = 0;
          rest = items;
          left = carries.own.insts e;
          path = first_arm e ∷ [];
          is_at = record {
            named = named;
            follows = follows;
            ends = refl;
            behind = refl;
            front = [];
            own_is = refl;
            left_is = carries.items e entry named;
            script_at = refl;
            function_at = Fronts.at_rest right_run f (λ v. refl) tables e has.zeros has.in_turn (map (placed_inst f) (carries.own.insts e)) right_first q z;
            same_memory = sym z.memory;
            same_events = sym z.events;
            agrees = agrees_still live program function labels (first_arm e ∷ []) left_first.variables left_first.names right_first.values q.values (same_behind q z) agrees_there;
            zeros = zeros_still program function (first_arm e ∷ []) left_first.variables left_first.names right_first.values q.values (same_behind q z) zeros_there;
          };
        }))

    abbrev measure : ScriptState → ℕ
    measure = Stepping.measure calls f ssa consistent carries finished width world signature placed targets typed moving

    abbrev IsAtZero : FunctionState → Type 0
    IsAtZero = Stepping.IsAtZero calls f ssa consistent carries finished width world signature placed targets typed moving

    abbrev simulation : Simulates left_machine right_machine Related measure
    simulation = record {
      ahead = length has.zeros;
      at_first = λ j within.
          Fronts.shown_quietly right_run f (λ v. refl) tables e has.zeros has.in_turn (map (placed_inst f) (carries.own.insts e)) right_first (length has.zeros - j) (state_after right_machine j)
          (left_after j (length has.zeros - j) (omega (arith, within)))
          ∙ sym left_quiet;
      starts = related_first (state_after right_machine (length has.zeros)) (left_after (length has.zeros) 0 (omega arith));
      shows = Stepping.shows calls f ssa consistent carries finished width world signature placed targets typed moving;
      step = λ p q related. (Stepping.step calls f ssa consistent carries finished width world signature placed targets typed moving p q related).matched;
    }

    pub simulates : Simulates left_machine right_machine Related measure
    simulates = simulation

    -- on the way there are zeros alone
    pub follows_throughout : FollowsThroughout left_machine right_machine Related measure IsAtZero
    follows_throughout = record {
      simulates = simulation;
      first = λ j within. (
        e,
        Fronts.next_zero right_run f (λ v. refl) tables e has.zeros has.in_turn (map (placed_inst f) (carries.own.insts e)) right_first (length has.zeros - suc j) (state_after right_machine j)
            (left_after j (suc (length has.zeros - suc j)) (omega (arith, within))),
      );
      step = Stepping.step calls f ssa consistent carries finished width world signature placed targets typed moving;
    }
