-- Both interrupted runs at a place of an unfinished function, and how they come to a block's first item.
use Rattle.clif_simulation.proofs.Finished.ZeroInsts.{InTurn}
use Rattle.std.proofs.Common.{◌≡◌, ℕ, zero, suc, ◌+◌, ◌≤◌, Bool, List, [], ◌++◌, map, length, drop, flat_map, Option, Some, refl, sym, ◌∙◌, ap, subst, arith}
use Rattle.clif_types.specs.declared.target.PointerWidth.{PointerWidth}
use Rattle.clif_ir.specs.Body.{resolved, Body}
use Rattle.clif_ir.specs.Consistent.{IsConsistent}
use Rattle.clif_paths.specs.Places.{inside, Path, Follows, end_of}
use Rattle.clif_paths.specs.Blocks.{Blocks, front}
use Rattle.clif_ssa.specs.Ssa.{SsaState, sealed_of}
use Rattle.clif_records.specs.Tables.{is_yes, pending_of}
use Rattle.clif_meaning.specs.Name.{Name}
use Rattle.clif_meaning.specs.Request.{AnsweredCall}
use Rattle.clif_meaning.specs.Instruction.{Edge}
use Rattle.clif_meaning.specs.Program.{Item}
use Rattle.clif_meaning.specs.World.{World}
use Rattle.clif_meaning.specs.Machine.{Machine, At, Observation}
use Rattle.clif_meaning.specs.ScriptMachine.{ScriptRun, ScriptState}
use Rattle.clif_meaning.specs.FunctionMachine.{Collector, FunctionRun, FunctionState, function_machine}
use Rattle.clif_meaning.specs.FunctionView.{Placed}
use Rattle.clif_meaning.specs.View.{items_of}
use Rattle.clif_meaning.proofs.Stuttering.{steps_from}
use Rattle.clif_simulation.specs.Tables.{program_so_far, block_name}
use Rattle.clif_simulation.specs.Carries.{carried, own_placed}
use Rattle.clif_simulation.specs.Reading.{behind, script_run_so_far, function_run_so_far}
use Rattle.clif_simulation.specs.Interrupted.{Unknowns, ScriptStanding, FunctionStanding, function_goes, script_enters, function_enters, variables_entering, values_entering, function_edge}
use Rattle.clif_simulation.specs.Coming.{Arrival, Arrivals, Coming, coming_script, coming_function, function_comes}
use Rattle.clif_simulation.proofs.Finished.Agreement.{Agrees, ZerosAreZero, agrees_still, zeros_still}
use Rattle.clif_simulation.proofs.Finished.Fronts
use Rattle.clif_simulation.proofs.Finished.Fronts.{HasFront, has_front, placed_inst}
use Rattle.clif_simulation.proofs.Labelling.Labels.{Labels}
use Rattle.clif_simulation.proofs.Unfinished.OpenEdges
use Rattle.clif_simulation.proofs.Unfinished.OpenFlow
use Rattle.clif_simulation.proofs.Whole.{Whole}

-- The zeros at a block's front are passed without an edge --------------------------------------------------------------

module _ (arrivals : Arrivals) (calls : List AnsweredCall) (s : SsaState) (unknowns : Unknowns) (entry : ℕ) (run : FunctionRun) (f : Body) (resolves : (v : ℕ) → run.function.resolved v ≡ resolved f v) (blocks : Blocks)
    (b : ℕ) (zeros : List ℕ) (in_turn : InTurn f zeros) (rest : List Placed) (c : FunctionStanding)
  where
    abbrev machine : Machine FunctionState Observation
    machine = function_machine run

    abbrev standing : FunctionState → FunctionStanding
    standing state = record { state = state; entries = c.entries }

    abbrev Left : ℕ → FunctionState → Type 0
    Left = Fronts.ZerosLeft run f resolves blocks b zeros in_turn rest c.state

    pub zeros_pass : (j n m : ℕ) → j + n ≡ m → Left m c.state → steps_from (coming_function arrivals calls s unknowns entry run) j c ≡ standing (steps_from machine j c.state)
    zeros_pass zero n m is z = refl
    zeros_pass (suc j) n m is z =
        let left : Left (suc n) (steps_from machine j c.state) = Fronts.zeros_left run f resolves blocks b zeros in_turn rest c.state j (suc n) m (omega (arith, is)) z in
        ap (coming_function arrivals calls s unknowns entry run).next (zeros_pass j (suc n) m (omega (arith, is)) z)
        ∙ ap (λ (o : Option Arrival). function_comes calls run s unknowns (standing (steps_from machine j c.state)) o
        (function_goes s unknowns (standing (steps_from machine j c.state)) (function_edge run (steps_from machine j c.state) (steps_from machine j c.state).control) (machine.next (steps_from machine j c.state))))
        (Fronts.no_arrival run f resolves blocks b zeros in_turn rest c.state n (steps_from machine j c.state) (arrivals c.entries) left)
        ∙ ap (λ (o : Option (Edge ℕ ℕ)). function_goes s unknowns (standing (steps_from machine j c.state)) o (machine.next (steps_from machine j c.state)))
        (Fronts.no_edge run f resolves blocks b zeros in_turn rest c.state n (steps_from machine j c.state) left)

module _ (coming : Coming) (arrivals : Arrivals) (calls : List AnsweredCall) (f : Body) (ssa : SsaState) (consistent : IsConsistent f) (carries : Whole calls f ssa)
    (width : PointerWidth) (world : World) (tracked : Name → Bool) (collector : Collector)
    (labels : Labels (OpenEdges.program calls f ssa consistent carries) (OpenEdges.function calls f ssa consistent carries)) (unknowns : Unknowns) (entry : ℕ) (entry_name : Name)
  where
    abbrev pub left_run : ScriptRun
    left_run = script_run_so_far calls f world tracked

    abbrev pub right_run : FunctionRun
    right_run = function_run_so_far calls f world collector

    abbrev pub left_machine : Machine ScriptStanding Observation
    left_machine = coming_script coming arrivals calls ssa unknowns entry entry_name left_run

    abbrev pub right_machine : Machine FunctionStanding Observation
    right_machine = coming_function arrivals calls ssa unknowns entry right_run

    abbrev pub items : Name → List Item
    items = (program_so_far calls).items

    -- Both stand before these items of a block, which a path leads to, and agree; so many of the caller's instructions are
    -- left.
    pub record IsAt (b : ℕ) (B : Name) (k : ℕ) (rest : List Item) (left : List ℕ) (path : Path) (p : ScriptState) (q : FunctionState) : Type 0 where
      pub named : block_name calls b ≡ Some B
      pub follows : Follows (OpenFlow.edges coming calls f ssa consistent carries) path
      pub ends : end_of path ≡ inside b k
      pub rest_is : drop k (items B) ≡ rest
      pub within : k ≤ length (items B)
      pub front : List ℕ
      pub own_is : carries.own.insts b ≡ front ++ left
      pub left_is : map (own_placed carries.own f) left ≡ flat_map (carried calls) rest
      pub script_at : p.control ≡ At rest
      pub function_at : q.control ≡ At (map (placed_inst f) left)
      pub same_memory : p.memory ≡ q.memory
      pub same_events : p.events ≡ q.events
      pub agrees : Agrees (OpenEdges.live calls f ssa consistent carries) (OpenEdges.program calls f ssa consistent carries) (OpenEdges.function calls f ssa consistent carries)
          labels path p.variables p.names q.values
      pub zeros : ZerosAreZero (OpenEdges.program calls f ssa consistent carries) (OpenEdges.function calls f ssa consistent carries) path p.variables p.names q.values

    pub record Running (a : ScriptStanding) (c : FunctionStanding) : Type 0 where
      pub block : ℕ
      pub name : Name
      pub index : ℕ
      pub rest : List Item
      pub left : List ℕ
      pub path : Path
      pub place : a.place ≡ behind name index
      pub entries : a.entries ≡ c.entries
      pub is_at : IsAt block name index rest left path a.state c.state

    -- the function's run comes to such a state
    abbrev pub Gets : ScriptStanding → FunctionStanding → Type 0
    Gets a c = (m : ℕ) × Running a (steps_from right_machine m c)

    -- To a block's first item ---------------------------------------------------------------------------------------------

    module _ (b : ℕ) (B : Name) (named : block_name calls b ≡ Some B) (path : Path) (follows : Follows (OpenFlow.edges coming calls f ssa consistent carries) path)
        (ends : end_of path ≡ front b) (entries : ℕ) (p : ScriptState) (q : FunctionState) (script_at : p.control ≡ At (items B)) (function_at : q.control ≡ At (items_of f b))
        (same_memory : p.memory ≡ q.memory) (same_events : p.events ≡ q.events)
      where
        abbrev variables : ℕ → ℕ
        variables = variables_entering (is_yes (sealed_of ssa b)) (unknowns entries) p.variables

        abbrev values : ℕ → ℕ
        values = values_entering (pending_of (sealed_of ssa b)) (unknowns entries) q.values

        module _
            (agrees :
            Agrees (OpenEdges.live calls f ssa consistent carries) (OpenEdges.program calls f ssa consistent carries) (OpenEdges.function calls f ssa consistent carries)
            labels path variables p.names values)
            (zeros :
            ZerosAreZero (OpenEdges.program calls f ssa consistent carries) (OpenEdges.function calls f ssa consistent carries) path variables p.names values)
          where
            abbrev a : ScriptStanding
            a = script_enters ssa unknowns b B entries p

            abbrev c : FunctionStanding
            c = function_enters ssa unknowns b entries q

            abbrev has : HasFront f carries.tables b (carries.own.insts b)
            has = has_front f consistent carries.tables b (carries.own.insts b) (carries.describes.instructions b) (carries.own_inserted b)

            abbrev behind_zeros : List Placed
            behind_zeros = map (placed_inst f) (carries.own.insts b)

            abbrev IsLeft : ℕ → FunctionState → Type 0
            IsLeft = Fronts.ZerosLeft right_run f (λ v. refl) carries.tables b has.zeros has.in_turn behind_zeros c.state

            all_left : IsLeft (length has.zeros) c.state
            all_left =
                Fronts.none_done right_run f (λ v. refl) carries.tables b has.zeros has.in_turn behind_zeros c.state has.are_zeros
                (function_at ∙ ap (λ (ps : List Placed). At ps) has.in_order)

            abbrev d : FunctionState
            d = steps_from (function_machine right_run) (length has.zeros) c.state

            done : IsLeft 0 d
            done = Fronts.zeros_left right_run f (λ v. refl) carries.tables b has.zeros has.in_turn behind_zeros c.state (length has.zeros) 0 (length has.zeros) (omega arith) all_left

            done_values : (w : ℕ) → d.values w ≡ values w
            done_values = Fronts.same_values right_run f (λ v. refl) carries.tables b has.zeros has.in_turn behind_zeros c.state zeros.of_value 0 d done

            running : Running a (record { state = d; entries = suc entries })
            running = record {
              block = b;
              name = B;
              index = 0;
              rest = items B;
              left = carries.own.insts b;
              path = path;
              place = refl;
              entries = refl;
              is_at = record {
                named = named;
                follows = follows;
                ends = ends;
                rest_is = refl;
                within = omega arith;
                front = [];
                own_is = refl;
                left_is = carries.items b B named;
                script_at = script_at;
                function_at = Fronts.at_rest right_run f (λ v. refl) carries.tables b has.zeros has.in_turn behind_zeros c.state d done;
                same_memory = same_memory ∙ sym done.memory;
                same_events = same_events ∙ sym done.events;
                agrees = agrees_still (OpenEdges.live calls f ssa consistent carries) (OpenEdges.program calls f ssa consistent carries)
                    (OpenEdges.function calls f ssa consistent carries) labels path variables p.names values d.values done_values agrees;
                zeros = zeros_still (OpenEdges.program calls f ssa consistent carries) (OpenEdges.function calls f ssa consistent carries) path variables p.names values
                    d.values done_values zeros;
              };
            }

            pub arrives : Gets a c
            arrives = (
              length has.zeros,
              subst (Running a)
                  (sym (zeros_pass arrivals calls ssa unknowns entry right_run f (λ v. refl) carries.tables b has.zeros has.in_turn behind_zeros c (length has.zeros) 0 (length has.zeros) (omega arith) all_left))
                  running,
            )
