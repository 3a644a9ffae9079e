-- Along an edge of the function: the arm is known, and each parameter gets the bits of what the arm gives it.
use Rattle.std.proofs.Common.{◌≡◌, ℕ, ◌&&◌, Bool, true, List, length, map, slice_get, Some, Contains, refl, sym, ◌∙◌, ap}
use Rattle.std.specs.Prelude.{IsTrue}
use Rattle.clif_ir.specs.Body.{Body, block_at, resolved}
use Rattle.clif_ir.specs.Consistent.{IsConsistent}
use Rattle.clif_instructions.specs.declared.block_call.BlockCall.{BlockCall}
use Rattle.clif_paths.specs.Places.{Arm, Path}
use Rattle.clif_paths.specs.State.{Program, Function}
use Rattle.clif_paths.specs.Blocks.{front, last_place, state_of}
use Rattle.clif_paths.specs.Laws.{all_sealed}
use Rattle.clif_ssa.specs.Ssa.{SsaState, predecessors_of, sealed_of}
use Rattle.clif_records.specs.Tables.{is_yes}
use Rattle.clif_ssa.specs.Sound.{IsEdgeInto, edges_at, edge_target, has_entry}
use Rattle.clif_meaning.specs.Name.{Name}
use Rattle.clif_meaning.specs.Request.{AnsweredCall, script_of}
use Rattle.clif_meaning.specs.Ledger.{ledger_after, is_filled}
use Rattle.clif_meaning.specs.Instruction.{Edge, Instruction}
use Rattle.clif_meaning.specs.Program.{Instruct}
use Rattle.clif_meaning.specs.Store.{assigned, argument_bits}
use Rattle.clif_meaning.specs.FunctionMachine.{same_value}
use Rattle.clif_meaning.specs.View.{argument_of}
use Rattle.clif_meaning.specs.WellPlaced.{program_code, IsWellPlaced}
use Rattle.clif_simulation.specs.Tables.{answered, program_so_far, block_name}
use Rattle.clif_simulation.proofs.Finished.Agreement.{IsBlank}
use Rattle.clif_simulation.proofs.Whole.{Whole}
use Rattle.clif_simulation.specs.Carries.{own_placed}
use Rattle.clif_simulation.specs.Laws.{IsFinished}
use Rattle.clif_simulation.proofs.Finished.Entered.{EntersThere}
use Rattle.clif_simulation.proofs.Finished.IntoBlock
use Rattle.clif_simulation.proofs.Finished.ItemsAt.{stands_for_itself}
use Rattle.clif_simulation.proofs.Finished.OwnEdges
use Rattle.clif_simulation.proofs.Finished.Placing.{contained, map_at, placed_item}
use Rattle.clif_simulation.proofs.Finished.Straight.{arms}

module _ (calls : List AnsweredCall) (f : Body) (s : SsaState) (consistent : IsConsistent f) (carries : Whole calls f s) (finished : IsFinished calls f s)
    (placed : IsWellPlaced (program_code (program_so_far calls)))
  where
    abbrev pub program : Program
    program = all_sealed (state_of carries.tables).program

    abbrev pub function : Function
    function = carries.tables.function

    abbrev pub live : ℕ → Type 0
    live = stands_for_itself carries.tables

    -- One edge --------------------------------------------------------------------------------------------------------------

    module _ (c : ℕ) (C : Name) (named : block_name calls c ≡ Some C) (j place : ℕ) (instruction : Instruction Name Name) (results : List Name)
        (stands : slice_get ((program_so_far calls).items C) j ≡ Some (Instruct place instruction results))
        (t i : ℕ) (there : slice_get (carries.own.insts c) t ≡ Some i) (is : own_placed carries.own f i ≡ placed_item calls instruction results)
        (k : ℕ) (edge : Edge Name Name) (is_edge : slice_get instruction.edges k ≡ Some edge) (as_many : length edge.arguments ≡ length ((program_so_far calls).parameters edge.target))
        (filled : IsTrue (is_filled (ledger_after (script_of calls)) edge.target))
      where
        abbrev pub b : ℕ
        b = answered calls edge.target

        abbrev pub arm : Arm
        arm = record { source = last_place carries.tables c; target = front b; edge = k }

        pub target_named : block_name calls b ≡ Some edge.target
        target_named = OwnEdges.target_named calls f s consistent carries C j place instruction results stands k edge is_edge

        abbrev pub of_function : OwnEdges.IsEdgeOf calls f s consistent carries i k edge
        of_function = OwnEdges.edge_in_function calls f s consistent carries i instruction results is k edge is_edge

        pub to : edge_target f i k ≡ Some b
        to = map_at (λ (call : BlockCall). call.block) (edges_at f i) k of_function.call of_function.stands ∙ ap (λ (d : ℕ). Some d) of_function.target

        pub leads : Contains (predecessors_of s b) i
        leads = carries.declared c i k b (contained (carries.own.insts c) t i there) to

        abbrev into : IsEdgeInto f s carries.tables b arm
        into = record {
          branch = i;
          leads = leads;
          from = ap (last_place carries.tables) (sym (OwnEdges.stands_in_block calls f s consistent carries c t i there));
          to = to;
        }

        is_sealed : is_yes (sealed_of s b) ≡ true
        is_sealed = finished.filled_sealed b edge.target target_named filled

        pub known : arms carries.tables arm ≡ true
        known =
            let sealed : carries.tables.sealed b ≡ true =
            carries.describes.sealed b ∙ ap (λ (t : Bool). t && has_entry f.layout) is_sealed ∙ (carries.describes.leading b i leads).1 in
            let joins : carries.tables.joins arm ≡ true = carries.describes.led b arm is_sealed refl into in
            rw (sealed, joins) refl

        -- the parameters of the program's block
        abbrev pub callers : List Name
        callers = (program_so_far calls).parameters edge.target

        pub passes_own : length (carries.own.passed i k) ≡ length callers
        passes_own = OwnEdges.passed_count calls f s consistent carries i k edge of_function ∙ as_many

        module _ (path : Path) (given : List ℕ) (old : ℕ → ℕ) (zeros : (w : ℕ) → IsBlank (function.definition w).kind → old w ≡ 0) where
          -- the bits that the caller's parameters get, and the bits of values where the others have theirs
          abbrev pub mine : List ℕ
          mine = map (argument_bits (λ (v : ℕ). old (resolved f v)) given) (map argument_of (carries.own.passed i k))

          abbrev pub new : ℕ → ℕ
          new =
              IntoBlock.new calls f s consistent carries b (finished.none_waits b) edge.target target_named (λ place. true) refl
              (last_place carries.tables c) k into passes_own of_function.call of_function.stands path given old zeros

          -- the bits of values behind the edge
          pub both_parts : (v : ℕ) → assigned same_value (block_at f b).params (map (argument_bits (λ (u : ℕ). old (resolved f u)) given) (map argument_of of_function.call.args)) old v
              ≡ assigned same_value (map (answered calls) callers) mine new v
          both_parts v =
              IntoBlock.both_parts calls f s consistent carries b (finished.none_waits b) edge.target target_named (λ place. true) refl
              (last_place carries.tables c) k into passes_own of_function.call of_function.stands path given old zeros v

          pub enters : EntersThere live program function arm path callers (answered calls) old new
          enters =
              IntoBlock.enters calls f s consistent carries b (finished.none_waits b) edge.target target_named (λ place. true) refl
              (last_place carries.tables c) k into passes_own of_function.call of_function.stands path given old zeros
