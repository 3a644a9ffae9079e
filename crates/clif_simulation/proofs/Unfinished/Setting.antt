-- How both machines of an unfinished function come to stand side by side at the front of the entry, and go on so.
use Rattle.clif_simulation.proofs.Finished.Fronts
use Rattle.clif_simulation.proofs.Finished.ZeroInsts.{IsZeroValue}
use Rattle.clif_meaning.proofs.Stuttering.{steps_from}
use Rattle.std.proofs.Common.{◌≡◌, ◌≢◌, ℕ, zero, suc, ◌≤◌, if◌then◌else◌, Bool, true, false, List, [], ◌∷◌, ◌++◌, length, map, drop, flat_map, slice_get, Some, Contains, ◌⊎◌, inl, inr, refl, sym, ◌∙◌, ap, subst, arith}
use Rattle.std.proofs.Math.Decide.{ℕ_discrete}
use Rattle.clif_types.specs.declared.target.PointerWidth.{PointerWidth}
use Rattle.clif_ir.specs.Body.{Body, resolved}
use Rattle.clif_ir.specs.Consistent.{IsConsistent}
use Rattle.clif_paths.specs.Places.{start, inside, same_place, Edges, Path}
use Rattle.clif_paths.specs.State.{Program, Function, Kind, unborn, born, pending, complete, zero_of, Definition}
use Rattle.clif_paths.specs.Denotation.{Instance, absent, zero, given, unknown, variable, name, instances, defined, denotes}
use Rattle.clif_paths.specs.Blocks.{front, sealed_at}
use Rattle.clif_paths.proofs.PathLemmas.{dec_place, same_place-equal, same_place-other}
use Rattle.clif_paths.proofs.Executing.{program_steps, entered-unsealed, variable-entered, denotes-here, denotes-past}
use Rattle.clif_records.specs.declared.tables.Pending.{Pending}
use Rattle.clif_ssa.specs.Ssa.{SsaState, record_of, sealed_of}
use Rattle.clif_records.specs.Tables.{is_yes, pending_of}
use Rattle.clif_ssa.specs.Sound.{HomeFits}
use Rattle.clif_meaning.specs.Bits.{Bits}
use Rattle.clif_meaning.specs.Name.{Name}
use Rattle.clif_meaning.specs.Request.{AnsweredCall, script_of}
use Rattle.clif_meaning.specs.Program.{Item, Instruct, Use, Assign}
use Rattle.clif_meaning.specs.Store.{assigned}
use Rattle.clif_meaning.specs.World.{World}
use Rattle.clif_meaning.specs.Machine.{Machine, Control, At, HasReturned, HasTrapped, IsStuck, Observation, state_after}
use Rattle.clif_meaning.specs.ScriptMachine as script
use Rattle.clif_meaning.specs.ScriptMachine.{ScriptRun, ScriptState, script_machine}
use Rattle.clif_meaning.specs.FunctionMachine as function_machine_of
use Rattle.clif_meaning.specs.FunctionMachine.{Collector, FunctionRun, FunctionState, function_machine, same_value}
use Rattle.clif_meaning.specs.FunctionView.{Placed}
use Rattle.clif_meaning.specs.View.{items_of}
use Rattle.clif_meaning.specs.WellPlaced.{program_code, IsWellPlaced}
use Rattle.clif_meaning.proofs.StraightLine.{nothing_contained}
use Rattle.clif_simulation.specs.Tables.{code, answered, block_name, program_so_far}
use Rattle.clif_simulation.specs.Carries.{carried}
use Rattle.clif_simulation.specs.Reading.{starting_at, IsAtEnd, StandAlike, StartAlike, SideBySide}
use Rattle.clif_simulation.proofs.Unbranched.{CarriesUnbranched}
use Rattle.clif_simulation.proofs.Finished.Agreement.{any_value, Agrees, IsBlank, ZerosAreZero, zeros_agree}
use Rattle.clif_simulation.proofs.Finished.Entered.{ComesAlong, EntersThere, entered_agrees, entered_zeros}
use Rattle.clif_simulation.proofs.Finished.Giving.{In, contained_in, in_contained, value_keeps, same_all}
use Rattle.clif_simulation.proofs.Finished.IntoBlock
use Rattle.clif_simulation.proofs.Finished.ItemsAt.{stands_for_itself}
use Rattle.clif_simulation.proofs.Whole.{sealed_none}
use Rattle.clif_simulation.proofs.Finished.Straight.{first_arm, straight, same_block, absent_name, absent_value}
use Rattle.clif_simulation.proofs.Unfinished.Ended.{defined-end, denotes-end, is-end}
use Rattle.clif_simulation.proofs.Labelling.Labels.{IsNothing, Labels, given_is_something, unknown_is_something}
use Rattle.clif_simulation.proofs.Unfinished.Opened.{Opens}
use Rattle.clif_simulation.proofs.Unfinished.Opened
use Rattle.clif_simulation.proofs.Unfinished.Counted.{gives_results, terminator_gives_none}
use Rattle.clif_simulation.proofs.Finished.Matching.{item_here, nothing_behind, rest_behind}
use Rattle.clif_simulation.proofs.Listed.{place_within}
use Rattle.clif_simulation.proofs.Unfinished.Reaching
use Rattle.clif_simulation.proofs.Finished.Fronts.{HasFront, has_front, placed_inst}
use Rattle.clif_simulation.proofs.Finished.Entry
use Rattle.clif_simulation.proofs.Finished.OperandTypes.{OutcomesAlike}
use Rattle.clif_simulation.proofs.Unfinished.AlongCalls.{MovesHere}
use Rattle.clif_simulation.proofs.Unfinished.Alongside

module _ (calls : List AnsweredCall) (f : Body) (ssa : SsaState) (consistent : IsConsistent f) (carries : CarriesUnbranched calls f ssa)
    (entry : Name) (is_entry : (program_so_far calls).entry ≡ Some entry) (placed : IsWellPlaced (program_code (program_so_far calls)))
    (sealed : ℕ → Bool) (joins : Edges) (opens : Opens carries.whole.tables (Entry.e calls f ssa carries entry is_entry) sealed joins)
    (width : PointerWidth) (world : World) (tracked : Name → Bool) (collector : Collector) (alike : OutcomesAlike calls f world)
    (moves : MovesHere calls f ssa consistent carries.whole world tracked collector)
  where
    abbrev pub left_run : ScriptRun
    left_run = Alongside.left_run calls f ssa consistent carries entry is_entry placed sealed joins opens width world tracked collector alike moves

    abbrev pub right_run : FunctionRun
    right_run = Alongside.right_run calls f ssa consistent carries entry is_entry placed sealed joins opens width world tracked collector alike moves

    abbrev pub IsAlongside : ℕ → ScriptState → FunctionState → Type 0
    IsAlongside = Alongside.Alongside calls f ssa consistent carries entry is_entry placed sealed joins opens width world tracked collector alike moves

    abbrev pub items : List Item
    items = Entry.items calls f ssa carries entry is_entry

    abbrev pub e : ℕ
    e = Entry.e calls f ssa carries entry is_entry

    -- On from there ---------------------------------------------------------------------------------------------------

    module _ (p : ScriptState) (q : FunctionState) (ahead : ℕ)
        (starts : IsAlongside 0 p (state_after (starting_at (function_machine right_run) q) ahead))
      where
        abbrev left : Machine ScriptState Observation
        left = starting_at (script_machine left_run) p

        abbrev right : Machine FunctionState Observation
        right = starting_at (function_machine right_run) q

        abbrev IsMet : ℕ → Type 0
        IsMet k = (steps : ℕ) × IsAlongside k (state_after left k) (state_after right steps)

        -- a run that goes on went on before
        went_on : (state : ScriptState) (c : Control Item) → state.control ≡ c → (rest : List Item) → (script.script_step left_run state).control ≡ At rest
            → (before : List Item) × (c ≡ At before)
        went_on state (At before) is rest on = (before, refl)
        went_on state (HasReturned bits) is rest on = absurd (other bits (sym (ap (λ (s : ScriptState). s.control) (ap (script.step_at left_run state) is)) ∙ on) is)
          where
            other : (bits : List Bits) → state.control ≡ At rest → state.control ≡ HasReturned bits → ⊥
            other bits at is = cc
        went_on state (HasTrapped reason) is rest on = absurd (other (sym (ap (λ (s : ScriptState). s.control) (ap (script.step_at left_run state) is)) ∙ on) is)
          where
            other : state.control ≡ At rest → state.control ≡ HasTrapped reason → ⊥
            other at is = cc
        went_on state IsStuck is rest on = absurd (other (sym (ap (λ (s : ScriptState). s.control) (ap (script.step_at left_run state) is)) ∙ on) is)
          where
            other : state.control ≡ At rest → state.control ≡ IsStuck → ⊥
            other at is = cc

        met : (k : ℕ) (rest : List Item) → (state_after left k).control ≡ At rest → IsMet k
        met zero rest on = (ahead, starts)
        met (suc k) rest on =
            let before = went_on (state_after left k) (state_after left k).control refl rest on in
            let now : IsMet k = met k before.0 before.1 in
            by now.0 (Alongside.step calls f ssa consistent carries entry is_entry placed sealed joins opens width world tracked collector alike moves
            k (state_after left k) (state_after right now.0) now.1 rest on)
          where
            by : (steps : ℕ) → IsAlongside (suc k) (state_after left (suc k)) (state_after right steps)
                ⊎ IsAlongside (suc k) (state_after left (suc k)) (state_after right (suc steps)) → IsMet (suc k)
            by steps (inl same) = (steps, same)
            by steps (inr one) = (suc steps, one)

        records_alike : (k : ℕ) (a : ScriptState) (b : FunctionState) → IsAlongside k a b → (ahead : List Item) → drop k items ≡ ahead → IsAtEnd ahead
            → (x v : ℕ) → record_of ssa x e ≡ Some v → a.variables x ≡ b.values (resolved f v)
        records_alike k a b s [] here at_end x v is =
            Alongside.recorded_bits calls f ssa consistent carries entry is_entry placed sealed joins opens width world tracked collector alike moves
            k a b s (omega (arith, s.within, nothing_behind items k here)) x v is
        records_alike k a b s (Instruct place instruction results ∷ rest) here at_end x v is =
            let stands : slice_get items k ≡ Some (Instruct place instruction results) = item_here items k (Instruct place instruction results) rest here in
            let last : length items ≤ suc k = nothing_behind items (suc k) (rest_behind items k (Instruct place instruction results) rest here ∙ at_end.1) in
            Alongside.recorded_before_end calls f ssa consistent carries entry is_entry placed sealed joins opens width world tracked collector alike moves
            k a b s place instruction results stands (omega (arith, last, place_within items k (Instruct place instruction results) stands))
            (gives_results (script_of calls) entry k (Instruct place instruction results) stands ∙ terminator_gives_none place instruction at_end.0) x v is
        records_alike k a b s (Use y used ∷ rest) here at_end x v is = absurd at_end
        records_alike k a b s (Assign y from ∷ rest) here at_end x v is = absurd at_end

        stand_alike : (k : ℕ) (a : ScriptState) (b : FunctionState) → IsAlongside k a b → StandAlike calls f ssa e entry k a b
        stand_alike k a b s = record {
          script_at = s.script_at;
          function_at = s.function_at;
          same_memory = s.same_memory;
          same_events = s.same_events;
          names = λ x given.
              Alongside.given_bits calls f ssa consistent carries entry is_entry placed sealed joins opens width world tracked collector alike moves k a b s x
              (Entry.is_earlier calls f ssa carries entry is_entry k x (Reaching.given_behind calls entry is_entry x k s.within given));
          records = λ at_end x v is. records_alike k a b s (drop k items) refl at_end x v is;
        }

        pub side_by_side : SideBySide calls f ssa e entry left right
        side_by_side k rest on =
            let now : IsMet k = met k rest on in
            (now.0, stand_alike k (state_after left k) (state_after right now.0) now.1)

    -- The zeros come first --------------------------------------------------------------------------------------------

    abbrev has : HasFront f carries.whole.tables e (carries.whole.own.insts e)
    has = has_front f consistent carries.whole.tables e (carries.whole.own.insts e) (carries.whole.describes.instructions e) (carries.whole.own_inserted e)

    abbrev behind_zeros : List Placed
    behind_zeros = flat_map (carried calls) items

    block_items : items_of f e ≡ map (placed_inst f) has.zeros ++ behind_zeros
    block_items = has.in_order ∙ ap (λ (rest : List Placed). map (placed_inst f) has.zeros ++ rest) (carries.items e entry (Entry.named calls f ssa carries entry is_entry))

    -- the value is a zero's, or that of a step of one, and so no path sees it
    abbrev IsZeroThere : ℕ → Type 0
    IsZeroThere = IsZeroValue carries.whole.tables e

    blank_there : (w : ℕ) → IsZeroThere w → IsBlank (carries.whole.tables.function.definition w).kind
    blank_there w (inl put) = subst IsBlank (sym (ap (λ (d : Definition). d.kind) put.1)) tt
    blank_there w (inr inner) = subst IsBlank (sym (ap (λ (d : Definition). d.kind) inner)) tt

    module _ (q : FunctionState) where
      abbrev right_from : Machine FunctionState Observation
      right_from = starting_at (function_machine right_run) q

      -- the zeros are done, and nothing else has changed
      abbrev ZerosDone : FunctionState → Type 0
      ZerosDone = Fronts.ZerosLeft right_run f (λ v. refl) carries.whole.tables e has.zeros has.in_turn behind_zeros q 0

      steps_are : (m : ℕ) → steps_from (function_machine right_run) m q ≡ state_after right_from m
      steps_are zero = refl
      steps_are (suc m) = ap (function_machine right_run).next (steps_are m)

      -- behind the zeros
      past_zeros : q.control ≡ At (items_of f e) → (m : ℕ) × ZerosDone (state_after right_from m)
      past_zeros at = (
        length has.zeros,
        subst ZerosDone (steps_are (length has.zeros))
            (Fronts.zeros_left right_run f (λ v. refl) carries.whole.tables e has.zeros has.in_turn behind_zeros q (length has.zeros) 0 (length has.zeros) (omega arith)
            (Fronts.none_done right_run f (λ v. refl) carries.whole.tables e has.zeros has.in_turn behind_zeros q has.are_zeros
            (at ∙ ap (λ (rest : List Placed). At rest) block_items))),
      )

      at_items : (state : FunctionState) → ZerosDone state → state.control ≡ At behind_zeros
      at_items = Fronts.at_rest right_run f (λ v. refl) carries.whole.tables e has.zeros has.in_turn behind_zeros q

    -- At the front of the entry ---------------------------------------------------------------------------------------

    abbrev program : Program
    program = Alongside.program calls f ssa consistent carries entry is_entry placed sealed joins opens width world tracked collector alike moves

    abbrev function : Function
    function = Alongside.function calls f ssa consistent carries entry is_entry placed sealed joins opens width world tracked collector alike moves

    abbrev labels : Labels program function
    labels = Alongside.labels calls f ssa consistent carries entry is_entry placed sealed joins opens width world tracked collector alike moves

    abbrev parameters : List Name
    parameters = (program_so_far calls).parameters entry

    named : block_name calls e ≡ Some entry
    named = Entry.named calls f ssa carries entry is_entry

    -- as the machines start: the caller's parameters of the entry have the world's arguments, and all other bits are zero
    module _ (as_many : length world.arguments ≡ length parameters) where
      abbrev pub p0 : ScriptState
      p0 = script.enter_block left_run (script.blank_state left_run) entry world.arguments

      abbrev pub q0 : FunctionState
      q0 = function_machine_of.enter_block right_run (function_machine_of.blank_state right_run) e world.arguments

      abbrev values_there : ℕ → ℕ
      values_there = assigned same_value (map (answered calls) parameters) world.arguments (λ v. 0)

      same_values : (w : ℕ) → q0.values w ≡ values_there w
      same_values w = IntoBlock.callers_alone calls f ssa consistent carries.whole e entry named world.arguments (λ v. 0) w as_many

      -- where the entry isn't sealed, they start alike
      pub starts_alike : StartAlike calls f ssa e entry p0 q0
      starts_alike = record {
        script_at = refl;
        function_at = refl;
        same_memory = refl;
        same_events = refl;
        waiting = λ parameter there. sym (same_values parameter.param ∙ value_keeps (answered calls) parameters world.arguments (λ v. 0) parameter.param (no_caller parameter there));
        names = λ x given. by x (given [] (is_entry, (refl, omega arith)));
      }
        where
          pending_no_born : (x n : ℕ) → pending x ≡ born n → ⊥
          pending_no_born x n h = cc

          no_caller : (parameter : Pending) → Contains (pending_of (sealed_of ssa e)) parameter → (n : Name) → In n parameters → parameter.param ≢ answered calls n
          no_caller parameter there n among same =
              pending_no_born parameter.variable (code n)
              (ap (λ (d : Definition). d.kind) (sym (carries.whole.describes.waiting e parameter there).defined ∙ ap carries.whole.tables.function.definition same
              ∙ IntoBlock.parameter_defined calls f ssa consistent carries.whole e entry named n among))

          of_parameter : (x : Name) → In x parameters → p0.names x ≡ q0.values (resolved f (answered calls x))
          of_parameter x among =
              same_all (answered calls) parameters world.arguments (λ n. 0) (λ v. 0) x
              (IntoBlock.parameters_apart calls f ssa consistent carries.whole e entry named) among as_many
              ∙ sym (same_values (answered calls x))
              ∙ ap q0.values (sym (IntoBlock.parameter_live calls f ssa consistent carries.whole e entry named x among))

          by : (x : Name) → Contains parameters x ⊎ ⊥ → p0.names x ≡ q0.values (resolved f (answered calls x))
          by x (inl there) = of_parameter x (contained_in parameters x there)
          by x (inr none) = absurd none

      -- where it is, both agree
      module _ (is_sealed : is_yes (sealed_of ssa e) ≡ true) where
        known : carries.whole.tables.sealed e ≡ true
        known = Opened.seal_is calls f ssa carries entry is_entry true is_sealed

        enters_live : EntersThere (stands_for_itself carries.whole.tables) program carries.whole.tables.function (first_arm e) [] parameters (answered calls) (λ w. 0) (λ w. 0)
        enters_live =
            IntoBlock.enters_front calls f ssa consistent carries.whole e (sealed_none (sealed_of ssa e) is_sealed) entry named
            (λ place. sealed_at carries.whole.tables.count carries.whole.tables.sealed place) known start 0 [] (λ w. 0) (λ w. 0)
            (λ w defined. refl) (λ w elsewhere. refl) (λ w blank. refl) (λ w blank. refl)

        same_denoted : (path : Path) (w : ℕ) → carries.whole.tables.function.resolve w ≡ w → denotes program function path w ≡ denotes program carries.whole.tables.function path w
        same_denoted =
            denotes-end carries.whole.tables.function program
            (Alongside.ends calls f ssa consistent carries entry is_entry placed sealed joins opens width world tracked collector alike moves)

        comes : (w : ℕ) → Dec (carries.whole.tables.function.resolve w ≡ w)
            → ((n : Name) × In n parameters × (w ≡ answered calls n)) ⊎ ComesAlong any_value program function (first_arm e) [] (λ v. 0) (λ v. 0) w
        comes w (yes itself) = by (enters_live.comes w itself)
          where
            same_or_unborn : (u : ℕ) → (w ≡ u) ⊎ ((n : ℕ) → (carries.whole.tables.function.definition w).kind ≢ born n) → (w ≡ u) ⊎ ((n : ℕ) → (function.definition w).kind ≢ born n)
            same_or_unborn u (inl same) = inl same
            same_or_unborn u (inr other) =
                inr (λ n is. other n (sym (ap (λ (d : Definition). d.kind) (defined-end carries.whole.tables.function w itself)) ∙ is))

            by : ((n : Name) × In n parameters × (w ≡ answered calls n))
                ⊎ ComesAlong (stands_for_itself carries.whole.tables) program carries.whole.tables.function (first_arm e) [] (λ v. 0) (λ v. 0) w
                → ((n : Name) × In n parameters × (w ≡ answered calls n)) ⊎ ComesAlong any_value program function (first_arm e) [] (λ v. 0) (λ v. 0) w
            by (inl found) = inl found
            by (inr (inl from)) =
                inr (inl (from.0, tt, same_denoted (first_arm e ∷ []) w itself ∙ from.2 ∙ sym (same_denoted [] from.0 from.1), refl, same_or_unborn from.0 from.4))
            by (inr (inr none)) = inr (inr (none.0, same_denoted (first_arm e ∷ []) w itself ∙ none.1, refl))
        comes w (no alias) =
            inr (inl (w, tt, denotes-past program function (first_arm e) [] w (λ at. alias (is-end carries.whole.tables.function w e 0 at)), refl, inl refl))

        enters : EntersThere any_value program function (first_arm e) [] parameters (answered calls) (λ w. 0) (λ w. 0)
        enters = record {
          known = enters_live.known;
          unassigned = enters_live.unassigned;
          named = enters_live.named;
          defined = λ n there.
              defined-end carries.whole.tables.function (answered calls n)
              (carries.whole.describes.resolves (answered calls n) ∙ IntoBlock.parameter_live calls f ssa consistent carries.whole e entry named n there)
              ∙ enters_live.defined n there;
          only_names = enters_live.only_names;
          comes = λ w is_live. comes w (ℕ_discrete (carries.whole.tables.function.resolve w) w);
          zeros_stay = λ w blank. refl;
        }

        blank_agrees : Agrees any_value program function labels [] (λ x. 0) (λ n. 0) (λ w. 0)
        blank_agrees = zeros_agree any_value program function labels [] (λ x. 0) (λ n. 0) (λ w. 0) (λ x. refl) (λ n. refl) (λ w. refl)

        blank_zeros : ZerosAreZero program function [] (λ x. 0) (λ n. 0) (λ w. 0)
        blank_zeros = record { held = record { of_variable = λ x is. refl; of_name = λ n is. refl }; of_value = λ w blank. refl }

        pub from_start : (ahead : ℕ) × IsAlongside 0 p0 (state_after (starting_at (function_machine right_run) q0) ahead)
        from_start =
            let past = past_zeros q0 refl in
            (past.0, alongside (state_after (starting_at (function_machine right_run) q0) past.0) past.1)
          where
            entered_all : ZerosAreZero program function (first_arm e ∷ []) (λ x. 0) p0.names values_there
            entered_all =
                entered_zeros any_value program function labels (first_arm e) [] parameters (answered calls) (λ w. 0) (λ w. 0) enters (λ x. 0) (λ n. 0) blank_agrees blank_zeros
                world.arguments (inl as_many)

            alongside : (state : FunctionState) → ZerosDone q0 state → IsAlongside 0 p0 state
            alongside state z = record {
              within = omega arith;
              script_at = refl;
              function_at = at_items q0 state z;
              same_memory = sym z.memory;
              same_events = sym z.events;
              names = p0.names;
              values = values_there;
              agrees = entered_agrees any_value program function labels (first_arm e) [] parameters (answered calls) (λ w. 0) (λ w. 0) enters (λ x. 0) (λ n. 0) blank_agrees blank_zeros
                  world.arguments (inl as_many);
              held = entered_all.held;
              names_are = λ x i within home. refl;
              values_are = λ w i within home. by w (is-end carries.whole.tables.function w e i home) (z.values w);
            }
              where
                zero_there : (w : ℕ) → IsBlank (function.definition w).kind → values_there w ≡ 0
                zero_there = entered_all.of_value

                by : (w : ℕ) → carries.whole.tables.function.resolve w ≡ w → (state.values w ≡ q0.values w) ⊎ ((state.values w ≡ 0) × IsZeroThere w) → values_there w ≡ state.values w
                by w itself (inl same) = sym (same_values w) ∙ sym same
                by w itself (inr put) =
                    zero_there w (subst (λ (d : Definition). IsBlank d.kind) (sym (defined-end carries.whole.tables.function w itself)) (blank_there w put.1)) ∙ sym put.0

    -- where the entry isn't sealed: variables have any bits
    module _ (unsealed : is_yes (sealed_of ssa e) ≡ false) (p : ScriptState) (q : FunctionState) (start_alike : StartAlike calls f ssa e entry p q) where
      variable_unknown : (x : ℕ) → instances program (straight e 0) (variable x) ≡ unknown x (straight e 0)
      variable_unknown x =
          variable-entered program (first_arm e) [] x (carries.whole.program.front_assigns_nothing e x)
          ∙ entered-unsealed program (first_arm e) [] x (Opened.seal_is calls f ssa carries entry is_entry false unsealed)

      name_absent : (n : Name) → (carries.whole.tables.naming (code n)).home ≢ front e → instances program (straight e 0) (name (code n)) ≡ absent
      name_absent n elsewhere = absent_name program (code n) (straight e 0) (λ visits. never visits)
        where
          never : ((carries.whole.tables.naming (code n)).home ≡ front e) ⊎ ⊥ → ⊥
          never (inl here) = elsewhere here
          never (inr none) = none

      name_given : (n : Name) → In n parameters → instances program (straight e 0) (name (code n)) ≡ given (code n) (straight e 0)
      name_given n there =
          (program_steps program (first_arm e) []).given_here (code n) (IntoBlock.parameter_named calls f ssa consistent carries.whole e entry named n there)

      value_absent : (w : ℕ) → (function.definition w).home ≢ front e → denotes program function (straight e 0) w ≡ absent
      value_absent w elsewhere = absent_value program function w (straight e 0) (λ visits. never visits)
        where
          never : ((function.definition w).home ≡ front e) ⊎ ⊥ → ⊥
          never (inl here) = elsewhere here
          never (inr none) = none

      -- a value at the front, as the tables define it
      at_front : (w : ℕ) → (function.definition w).home ≡ front e → (carries.whole.tables.function.definition w).home ≡ front e
      at_front w at = sym (ap (λ (d : Definition). d.home) (defined-end carries.whole.tables.function w (is-end carries.whole.tables.function w e 0 at))) ∙ at

      front_kind : (w : ℕ) → (function.definition w).home ≡ front e → (kind : Kind) → (function.definition w).kind ≡ kind → (carries.whole.tables.function.definition w).kind ≡ kind
      front_kind w at kind is = sym (ap (λ (d : Definition). d.kind) (defined-end carries.whole.tables.function w (is-end carries.whole.tables.function w e 0 at))) ∙ is

      denotes_front : (w : ℕ) → (function.definition w).home ≡ front e → (kind : Kind) → (function.definition w).kind ≡ kind
          → denotes program function (straight e 0) w ≡ defined program function (first_arm e) [] (λ u. denotes program function [] u) w kind
      denotes_front w at kind is =
          denotes-here program function (first_arm e) [] w at ∙ ap (λ (k : Kind). defined program function (first_arm e) [] (λ u. denotes program function [] u) w k) is

      nothing_yet : (w : ℕ) → denotes program function [] w ≡ absent
      nothing_yet w = absent_value program function w [] (λ visits. visits)

      -- a parameter at the front waits for its variable, and has its bits
      waits : (state : FunctionState) → ZerosDone q state → (w x : ℕ) → (function.definition w).home ≡ front e → (function.definition w).kind ≡ pending x
          → p.variables x ≡ state.values w
      waits state z w x at is = by (carries.whole.describes.pends w x (sym (carries.whole.describes.resolves w) ∙ is-end carries.whole.tables.function w e 0 at) (front_kind w at (pending x) is)) (z.values w)
        where
          waiting_bits : (b : ℕ) → Contains (pending_of (sealed_of ssa b)) (record { variable = x; param = w }) → p.variables x ≡ q.values w
          waiting_bits b there =
              let home : front b ≡ front e = sym (ap (λ (d : Definition). d.home) (carries.whole.describes.waiting b (record { variable = x; param = w }) there).defined) ∙ at_front w at in
              start_alike.waiting (record { variable = x; param = w })
              (subst (λ (c : ℕ). Contains (pending_of (sealed_of ssa c)) (record { variable = x; param = w })) (same_block home) there)

          no_zero : IsZeroThere w → ⊥
          no_zero put = subst IsBlank (front_kind w at (pending x) is) (blank_there w put)

          by : ((b : ℕ) × Contains (pending_of (sealed_of ssa b)) (record { variable = x; param = w })) ⊎ Contains {X = Pending} [] (record { variable = x; param = w })
              → (state.values w ≡ q.values w) ⊎ ((state.values w ≡ 0) × IsZeroThere w) → p.variables x ≡ state.values w
          by (inl found) (inl same) = waiting_bits found.0 found.1 ∙ sym same
          by (inl found) (inr put) = absurd (no_zero put.1)
          by (inr none) now = absurd (nothing_contained {X = Pending} (record { variable = x; param = w }) none)

      -- The bits of what is at the front; zero for all else, which is absent on both sides.
      front_values : FunctionState → ℕ → ℕ
      front_values state w = if same_place (function.definition w).home (front e) then state.values w else 0

      front_names : Name → ℕ
      front_names n = if same_place (carries.whole.tables.naming (code n)).home (front e) then p.names n else 0

      names_here : (n : Name) → (carries.whole.tables.naming (code n)).home ≡ front e → front_names n ≡ p.names n
      unfolding front_names
      names_here n at = rw (same_place-equal (carries.whole.tables.naming (code n)).home (front e) at) refl

      names_elsewhere : (n : Name) → (carries.whole.tables.naming (code n)).home ≢ front e → front_names n ≡ 0
      unfolding front_names
      names_elsewhere n elsewhere = rw (same_place-other (carries.whole.tables.naming (code n)).home (front e) elsewhere) refl

      values_here : (state : FunctionState) (w : ℕ) → (function.definition w).home ≡ front e → front_values state w ≡ state.values w
      unfolding front_values
      values_here state w at = rw (same_place-equal (function.definition w).home (front e) at) refl

      values_elsewhere : (state : FunctionState) (w : ℕ) → (function.definition w).home ≢ front e → front_values state w ≡ 0
      unfolding front_values
      values_elsewhere state w elsewhere = rw (same_place-other (function.definition w).home (front e) elsewhere) refl

      -- only a parameter that waits denotes what a variable holds here
      of_variable : (state : FunctionState) → ZerosDone q state → (x w : ℕ)
          → instances program (straight e 0) (variable x) ≡ denotes program function (straight e 0) w → p.variables x ≡ front_values state w
      of_variable state z x w same = by (dec_place (function.definition w).home (front e))
        where
          is : unknown x (straight e 0) ≡ denotes program function (straight e 0) w
          is = sym (variable_unknown x) ∙ same

          by_kind : (function.definition w).home ≡ front e → (kind : Kind) → (function.definition w).kind ≡ kind
              → unknown x (straight e 0) ≡ defined program function (first_arm e) [] (λ u. denotes program function [] u) w kind → p.variables x ≡ state.values w
          by_kind at unborn of_kind one = absurd (other one)
            where
              other : unknown x (straight e 0) ≡ absent → ⊥
              other h = cc
          by_kind at (born n) of_kind one = absurd (other one)
            where
              other : unknown x (straight e 0) ≡ given n (straight e 0) → ⊥
              other h = cc
          by_kind at (pending y) of_kind one =
              waits state z w x at (of_kind ∙ ap pending (sym (same_variable (one ∙ entered-unsealed program (first_arm e) [] y (Opened.seal_is calls f ssa carries entry is_entry false unsealed)))))
            where
              same_variable : unknown x (straight e 0) ≡ unknown y (straight e 0) → x ≡ y
              same_variable h = cc
          by_kind at (complete y) of_kind one = absurd (other (one ∙ nothing_yet (function.resolve (function.argument w (first_arm e)))))
            where
              other : unknown x (straight e 0) ≡ absent → ⊥
              other h = cc
          by_kind at (zero_of y) of_kind one = absurd (other one)
            where
              other : unknown x (straight e 0) ≡ zero y → ⊥
              other h = cc

          by : Dec ((function.definition w).home ≡ front e) → p.variables x ≡ front_values state w
          by (yes at) = by_kind at (function.definition w).kind refl (is ∙ denotes_front w at (function.definition w).kind refl) ∙ sym (values_here state w at)
          by (no elsewhere) = absurd (other (is ∙ value_absent w elsewhere))
            where
              other : unknown x (straight e 0) ≡ absent → ⊥
              other h = cc

      fits : (w : ℕ) → (function.definition w).home ≡ front e → (kind : Kind) → (function.definition w).kind ≡ kind → HomeFits carries.whole.tables w kind
      fits w at kind of_kind = subst (λ (k : Kind). HomeFits carries.whole.tables w k) (front_kind w at kind of_kind) (carries.whole.describes.homes w)

      -- a parameter of the caller's has its answer's bits, and no other value at the front denotes it
      of_parameter : (state : FunctionState) → ZerosDone q state → (n : Name) (w : ℕ) → In n parameters → (function.definition w).home ≡ front e
          → given (code n) (straight e 0) ≡ denotes program function (straight e 0) w → p.names n ≡ state.values w
      of_parameter state z n w among at is = by_kind (function.definition w).kind refl (is ∙ denotes_front w at (function.definition w).kind refl)
        where
          answers : w ≡ answered calls n → (m : ℕ) → (function.definition w).kind ≡ born m → (state.values w ≡ q.values w) ⊎ ((state.values w ≡ 0) × IsZeroThere w) → p.names n ≡ state.values w
          answers same m of_kind (inl stays) =
              start_alike.names n (λ path walk. inl (in_contained parameters n among))
              ∙ ap q.values (IntoBlock.parameter_live calls f ssa consistent carries.whole e entry named n among ∙ sym same) ∙ sym stays
          answers same m of_kind (inr put) =
              absurd (subst IsBlank (front_kind w at (born m) of_kind) (blank_there w put.1))

          same_given : (m : ℕ) → ◌≡◌ {A = Instance} (given (code n) (straight e 0)) (given m (straight e 0)) → code n ≡ m
          same_given m h = cc

          by_kind : (kind : Kind) → (function.definition w).kind ≡ kind
              → given (code n) (straight e 0) ≡ defined program function (first_arm e) [] (λ u. denotes program function [] u) w kind → p.names n ≡ state.values w
          by_kind unborn of_kind one = absurd (other one)
            where
              other : given (code n) (straight e 0) ≡ absent → ⊥
              other h = cc
          by_kind (born m) of_kind one =
              let home = fits w at (born m) of_kind in
              answers (sym home.1 ∙ ap carries.whole.tables.answer (sym (same_given m one))
              ∙ (carries.whole.program.parameter e entry named n (in_contained parameters n among)).1) m of_kind (z.values w)
          by_kind (pending y) of_kind one =
              absurd (other (one ∙ entered-unsealed program (first_arm e) [] y (Opened.seal_is calls f ssa carries entry is_entry false unsealed)))
            where
              other : given (code n) (straight e 0) ≡ unknown y (straight e 0) → ⊥
              other h = cc
          by_kind (complete y) of_kind one = absurd (other (one ∙ nothing_yet (function.resolve (function.argument w (first_arm e)))))
            where
              other : given (code n) (straight e 0) ≡ absent → ⊥
              other h = cc
          by_kind (zero_of y) of_kind one = absurd (other one)
            where
              other : given (code n) (straight e 0) ≡ zero y → ⊥
              other h = cc

      -- no value at the front denotes nothing
      none_absent : (w : ℕ) → (function.definition w).home ≡ front e → absent ≡ denotes program function (straight e 0) w → ⊥
      none_absent w at is = by_kind (function.definition w).kind refl (is ∙ denotes_front w at (function.definition w).kind refl)
        where
          by_kind : (kind : Kind) → (function.definition w).kind ≡ kind
              → absent ≡ defined program function (first_arm e) [] (λ u. denotes program function [] u) w kind → ⊥
          by_kind unborn of_kind one = other (sym (fits w at unborn of_kind) ∙ at_front w at)
            where
              other : start ≡ front e → ⊥
              other h = cc
          by_kind (born n) of_kind one = other one
            where
              other : absent ≡ given n (straight e 0) → ⊥
              other h = cc
          by_kind (pending y) of_kind one = other (one ∙ entered-unsealed program (first_arm e) [] y (Opened.seal_is calls f ssa carries entry is_entry false unsealed))
            where
              other : absent ≡ unknown y (straight e 0) → ⊥
              other h = cc
          by_kind (complete y) of_kind one =
              let there : (block : ℕ) × ((carries.whole.tables.function.definition w).home ≡ front block) × (carries.whole.tables.sealed block ≡ true) = fits w at (complete y) of_kind in
              let here : there.0 ≡ e = same_block (sym there.1 ∙ at_front w at) in
              not_both (sym (Opened.seal_is calls f ssa carries entry is_entry false unsealed) ∙ ap carries.whole.tables.sealed (sym here) ∙ there.2)
            where
              not_both : false ≡ true → ⊥
              not_both h = cc
          by_kind (zero_of y) of_kind one = other one
            where
              other : absent ≡ zero y → ⊥
              other h = cc

      of_name : (state : FunctionState) → ZerosDone q state → (n : Name) (w : ℕ)
          → instances program (straight e 0) (name (code n)) ≡ denotes program function (straight e 0) w → front_names n ≡ front_values state w
      of_name state z n w same = by (dec_place (carries.whole.tables.naming (code n)).home (front e)) (dec_place (function.definition w).home (front e))
        where
          there : (carries.whole.tables.naming (code n)).home ≡ front e → In n parameters
          there here = IntoBlock.only_parameters calls f ssa consistent carries.whole e entry named n here

          given_no_absent : given (code n) (straight e 0) ≡ absent → ⊥
          given_no_absent h = cc

          by : Dec ((carries.whole.tables.naming (code n)).home ≡ front e) → Dec ((function.definition w).home ≡ front e) → front_names n ≡ front_values state w
          by (yes here) (yes at) =
              names_here n here ∙ of_parameter state z n w (there here) at (sym (name_given n (there here)) ∙ same) ∙ sym (values_here state w at)
          by (yes here) (no elsewhere) = absurd (given_no_absent (sym (name_given n (there here)) ∙ same ∙ value_absent w elsewhere))
          by (no other) (yes at) = absurd (none_absent w at (sym (name_absent n other) ∙ same))
          by (no other) (no elsewhere) = names_elsewhere n other ∙ sym (values_elsewhere state w elsewhere)

      nothing_held : (n : Name) → IsNothing (instances program (straight e 0) (name (code n))) → Dec ((carries.whole.tables.naming (code n)).home ≡ front e) → front_names n ≡ 0
      nothing_held n is (yes here) =
          absurd (given_is_something (code n) (straight e 0) (instances program (straight e 0) (name (code n)))
          (sym (name_given n (IntoBlock.only_parameters calls f ssa consistent carries.whole e entry named n here))) is)
      nothing_held n is (no other) = names_elsewhere n other

      pub from_any : (ahead : ℕ) × IsAlongside 0 p (state_after (starting_at (function_machine right_run) q) ahead)
      from_any =
          let past = past_zeros q start_alike.function_at in
          (past.0, alongside (state_after (starting_at (function_machine right_run) q) past.0) past.1)
        where
          alongside : (state : FunctionState) → ZerosDone q state → IsAlongside 0 p state
          alongside state z = record {
            within = omega arith;
            script_at = start_alike.script_at;
            function_at = at_items q state z;
            same_memory = start_alike.same_memory ∙ sym z.memory;
            same_events = start_alike.same_events ∙ sym z.events;
            names = front_names;
            values = front_values state;
            agrees = record { of_variable = λ x w is_live fit. of_variable state z x w; of_name = λ n w is_live fit. of_name state z n w };
            held = record {
              of_variable = λ x is. absurd (unknown_is_something x (straight e 0) (instances program (straight e 0) (variable x)) (sym (variable_unknown x)) is);
              of_name = λ n is. nothing_held n is (dec_place (carries.whole.tables.naming (code n)).home (front e));
            };
            names_are = λ x i within home. names_here x (home ∙ ap (inside e) (none_below i within));
            values_are = λ w i within home. values_here state w (home ∙ ap (inside e) (none_below i within));
          }
            where
              none_below : (i : ℕ) → i ≤ 0 → i ≡ 0
              none_below i within = omega arith
