-- The edges of a branch that lead elsewhere, as the machine sees them, and as an item of the program has them.
use Rattle.std.proofs.Common.{◌≡◌, ◌≢◌, ℕ, suc, ◌<◌, ◌==◌, ◌⊎◌, inl, inr, Bool, true, false, List, [], ◌∷◌, length, map, refl, sym, ◌∙◌, ap, ap₂, Some}
use Rattle.std.specs.Prelude.{◌-◌, if◌then◌else◌}
use Rattle.std.specs.List.{AllByRecursion}
use Rattle.std.proofs.lemmas.Bool.{cases_eq}
use Rattle.std.proofs.lemmas.List.{length-map}
use Rattle.clif_instructions.specs.declared.block_call.BlockArg.{BlockArg}
use Rattle.clif_instructions.specs.declared.block_call.BlockCall.{BlockCall}
use Rattle.clif_instructions.specs.declared.instructions.InstructionData.{InstructionData}
use Rattle.clif_instructions.specs.declared.instructions.InstructionData.TheVariants.{Jump, Brif, BranchTable, TryCall, TryCallIndirect}
use Rattle.clif_instructions.specs.Edges.{redirected, with_target_changed}
use Rattle.clif_instructions.specs.Instruction.{contexts, destinations, operands, with_targets_changed}
use Rattle.clif_instructions.proofs.Lists.{at_set}
use Rattle.clif_instructions.proofs.Members.{if_true, if_false}
use Rattle.clif_nodes.specs.Nodes.{no_inst}
use Rattle.clif_nodes.specs.declared.nodes.InstNode.{InstNode}
use Rattle.clif_tables.specs.Lists.{TableLists, stack_map_at}
use Rattle.clif_types.specs.declared.types.«Type».{«Type»}
use Rattle.clif_ir.specs.Body.{Body, inst_at}
use Rattle.clif_ir.specs.Changes.{with_branch_target}
use Rattle.clif_ssa.specs.Own.{Own}
use Rattle.clif_ssa.proofs.Moved.{moved_destinations}
use Rattle.clif_meaning.specs.Instruction.{Operation, BrTable, Edge, Instruction}
use Rattle.clif_meaning.specs.Name.{Name, same_name}
use Rattle.clif_meaning.specs.Program.{redirected_edge, redirected_instruction}
use Rattle.clif_meaning.specs.Request.{AnsweredCall}
use Rattle.clif_meaning.specs.FunctionView.{Placed}
use Rattle.clif_meaning.specs.View.{argument_of, controlling_of, edge_of, edges_of, operation_of}
use Rattle.clif_simulation.specs.Carries.{EdgeEarlier, answered_edge, answered_instruction, as_passed, own_placed}
use Rattle.clif_simulation.specs.Tables.{answered, block_name}
use Rattle.clif_simulation.proofs.Extending.{one_answer}
use Rattle.clif_simulation.proofs.NameLists.{same_name-equal, same_name_cases}

-- an edge by numbers that leads to one block leads to another one
abbrev pub redirected_number : (from to : ℕ) → Edge ℕ ℕ → Edge ℕ ℕ
redirected_number from to edge = if edge.target == from then record edge { target = to } else edge

-- an instruction as the machine sees it, of which the edges do
abbrev pub redirected_placed : (from to : ℕ) → Placed → Placed
redirected_placed from to placed =
    record placed { instruction = record placed.instruction { edges = map (redirected_number from to) placed.instruction.edges } }

-- both blocks are one
same_number : (from to : ℕ) → from ≡ to → (edge : Edge ℕ ℕ) → redirected_number from to edge ≡ edge
same_number from to same edge =
    elim (cases_eq edge.target from) [
      | inl is ↦ if_true edge.target from (record edge { target = to }) edge is ∙ ap (λ (target : ℕ). record edge { target = target }) (sym (is ∙ same))
      | inr other ↦ if_false edge.target from (record edge { target = to }) edge other
    ]

same_numbers : (from to : ℕ) → from ≡ to → (edges : List (Edge ℕ ℕ)) → map (redirected_number from to) edges ≡ edges
same_numbers from to same [] = refl
same_numbers from to same (edge ∷ edges) = ap₂ (λ (first : Edge ℕ ℕ) (rest : List (Edge ℕ ℕ)). first ∷ rest) (same_number from to same edge) (same_numbers from to same edges)

pub same_placed : (from to : ℕ) → from ≡ to → (placed : Placed) → redirected_placed from to placed ≡ placed
same_placed from to same placed =
    ap (λ (edges : List (Edge ℕ ℕ)). record placed { instruction = record placed.instruction { edges = edges } }) (same_numbers from to same placed.instruction.edges)

-- THE FUNCTION ----------------------------------------------------------------------------------------------------------

module _ (from to : ℕ) where
  passed_redirected : (passed : ℕ → List BlockArg) (k : ℕ) (edges : List BlockCall)
      → as_passed passed k (map edge_of (with_target_changed from to edges)) ≡ map (redirected_number from to) (as_passed passed k (map edge_of edges))
  passed_redirected passed k [] = refl
  passed_redirected passed k (edge ∷ edges) =
      ap₂ (λ (first : Edge ℕ ℕ) (rest : List (Edge ℕ ℕ)). first ∷ rest) (by (edge.block == from)) (passed_redirected passed (suc k) edges)
    where
      by : (test : Bool) → record (edge_of (if test then record edge { block = to } else edge)) { arguments = map argument_of (passed k) }
          ≡ (if test then record { target = to; arguments = map argument_of (passed k) } else record { target = edge.block; arguments = map argument_of (passed k) })
      by true = refl
      by false = refl

  operation_moved : (tables : TableLists) (shape : InstructionData) → operation_of tables (with_targets_changed from to shape) ≡ operation_of tables shape
  operation_moved tables (Jump destination) = refl
  operation_moved tables (Brif arg blocks) = refl
  operation_moved tables (BranchTable arg table) = ap (λ (n : ℕ). BrTable (n - 1)) (length-map table (redirected from to))
  operation_moved tables (TryCall function args table) = refl
  operation_moved tables (TryCallIndirect args table) = refl
  operation_moved tables _ = refl

  operands_moved : (shape : InstructionData) → operands (with_targets_changed from to shape) ≡ operands shape
  operands_moved (Jump destination) = refl
  operands_moved (Brif arg blocks) = refl
  operands_moved (BranchTable arg table) = refl
  operands_moved (TryCall function args table) = refl
  operands_moved (TryCallIndirect args table) = refl
  operands_moved _ = refl

  contexts_moved : (shape : InstructionData) → contexts (with_targets_changed from to shape) ≡ contexts shape
  contexts_moved (Jump destination) = refl
  contexts_moved (Brif arg blocks) = refl
  contexts_moved (BranchTable arg table) = refl
  contexts_moved (TryCall function args table) = refl
  contexts_moved (TryCallIndirect args table) = refl
  contexts_moved _ = refl

  controlling_moved : (f : Body) (shape : InstructionData) (results : List ℕ) → controlling_of f (with_targets_changed from to shape) results ≡ controlling_of f shape results
  controlling_moved f (Jump destination) results = refl
  controlling_moved f (Brif arg blocks) results = refl
  controlling_moved f (BranchTable arg table) results = refl
  controlling_moved f (TryCall function args table) results = refl
  controlling_moved f (TryCallIndirect args table) results = refl
  controlling_moved f _ results = refl

  -- as the machine sees an instruction of this shape, which passes what the caller passed
  abbrev seen : Own → Body → ℕ → InstNode → Placed
  seen own f i node = record {
    instruction = record {
      operation = operation_of f.tables node.shape;
      controlling = controlling_of f node.shape node.results;
      operands = operands node.shape;
      contexts = contexts node.shape;
      edges = as_passed (own.passed i) 0 (edges_of node.shape);
    };
    results = node.results;
    stack_map = stack_map_at f.tables i;
  }

  seen_moved : (own : Own) (f : Body) (i : ℕ) (node : InstNode) → seen own f i (record node { shape = with_targets_changed from to node.shape }) ≡ redirected_placed from to (seen own f i node)
  seen_moved own f i node =
      parts (operation_moved f.tables node.shape) (controlling_moved f node.shape node.results) (operands_moved node.shape) (contexts_moved node.shape)
      (ap (λ (edges : List BlockCall). as_passed (own.passed i) 0 (map edge_of edges)) (moved_destinations from to node.shape)
      ∙ passed_redirected (own.passed i) 0 (destinations node.shape))
    where
      of_parts : Operation → «Type» → List ℕ → List ℕ → List (Edge ℕ ℕ) → Placed
      of_parts operation controlling values named edges = record {
        instruction = record { operation = operation; controlling = controlling; operands = values; contexts = named; edges = edges };
        results = node.results;
        stack_map = stack_map_at f.tables i;
      }

      parts : {o p : Operation} {c d : «Type»} {xs ys us vs : List ℕ} {es fs : List (Edge ℕ ℕ)} → o ≡ p → c ≡ d → xs ≡ ys → us ≡ vs → es ≡ fs → of_parts o c xs us es ≡ of_parts p d ys vs fs
      parts {o} {p} {c} {d} {xs} {ys} {us} {vs} {es} {fs} a b e w g =
          ap (λ (q : Operation). of_parts q c xs us es) a ∙ ap (λ (t : «Type»). of_parts p t xs us es) b
          ∙ ap (λ (zs : List ℕ). of_parts p d zs us es) e ∙ ap (λ (zs : List ℕ). of_parts p d ys zs es) w
          ∙ ap (λ (gs : List (Edge ℕ ℕ)). of_parts p d ys vs gs) g

  -- the branch itself, and each other instruction
  pub branch_moved : (own : Own) (f : Body) (i : ℕ) → i < length f.insts → own_placed own (with_branch_target f i from to) i ≡ redirected_placed from to (own_placed own f i)
  branch_moved own f i within =
      at_set (λ (node : InstNode). seen own f i node ≡ redirected_placed from to (own_placed own f i)) f.insts i
      (record (inst_at f i) { shape = with_targets_changed from to (inst_at f i).shape }) i no_inst within
      (λ same. seen_moved own f i (inst_at f i)) (λ other. absurd (other refl))

  pub others_stay : (own : Own) (f : Body) (i j : ℕ) → i < length f.insts → j ≢ i → own_placed own (with_branch_target f i from to) j ≡ own_placed own f j
  others_stay own f i j within apart =
      at_set (λ (node : InstNode). seen own f j node ≡ own_placed own f j) f.insts i
      (record (inst_at f i) { shape = with_targets_changed from to (inst_at f i).shape }) j no_inst within
      (λ same. absurd (apart same)) (λ other. refl)

-- THE PROGRAM -----------------------------------------------------------------------------------------------------------

module _ (calls : List AnsweredCall) (from to : Name) (named : block_name calls (answered calls from) ≡ Some from) where
  edge_answered : (edge : Edge Name Name) → EdgeEarlier calls edge
      → answered_edge calls (redirected_edge from to edge) ≡ redirected_number (answered calls from) (answered calls to) (answered_edge calls edge)
  edge_answered edge earlier = by (same_name edge.target from) (same_name_cases edge.target from)
    where
      of_number : Edge ℕ ℕ
      of_number = answered_edge calls edge

      yes : (test : Bool) → test ≡ true → (if test then record edge { target = to } else edge) ≡ record edge { target = to }
      yes true is = refl
      yes false is = cc

      no_way : (test : Bool) → test ≡ false → (if test then record edge { target = to } else edge) ≡ edge
      no_way true is = cc
      no_way false is = refl

      equal : edge.target ≡ from → same_name edge.target from ≡ true
      equal same = same_name-equal edge.target from same

      by : (test : Bool) → (edge.target ≡ from) ⊎ ((edge.target ≢ from) × (same_name edge.target from ≡ false))
          → answered_edge calls (redirected_edge from to edge) ≡ redirected_number (answered calls from) (answered calls to) (answered_edge calls edge)
      by test (inl same) =
          ap (answered_edge calls) (yes (same_name edge.target from) (equal same))
          ∙ sym (if_true (answered calls edge.target) (answered calls from) (record of_number { target = answered calls to }) of_number (ap (answered calls) same))
      by test (inr other) =
          ap (answered_edge calls) (no_way (same_name edge.target from) other.1)
          ∙ sym (if_false (answered calls edge.target) (answered calls from) (record of_number { target = answered calls to }) of_number
          (λ same. other.0 (one_answer edge.target from (block_name calls (answered calls from)) (ap (block_name calls) (sym same) ∙ earlier.leads) named)))

  edges_answered : (edges : List (Edge Name Name)) → AllByRecursion (EdgeEarlier calls) edges
      → map (answered_edge calls) (map (redirected_edge from to) edges) ≡ map (redirected_number (answered calls from) (answered calls to)) (map (answered_edge calls) edges)
  edges_answered [] earlier = refl
  edges_answered (edge ∷ edges) earlier =
      ap₂ (λ (first : Edge ℕ ℕ) (rest : List (Edge ℕ ℕ)). first ∷ rest) (edge_answered edge earlier.0) (edges_answered edges earlier.1)

  -- an instruction of the program whose edges lead elsewhere
  pub instruction_answered : (instruction : Instruction Name Name) → AllByRecursion (EdgeEarlier calls) instruction.edges
      → answered_instruction calls (redirected_instruction from to instruction)
      ≡ record (answered_instruction calls instruction) { edges = map (redirected_number (answered calls from) (answered calls to)) (answered_instruction calls instruction).edges }
  instruction_answered instruction earlier =
      ap (λ (edges : List (Edge ℕ ℕ)). record (answered_instruction calls instruction) { edges = edges }) (edges_answered instruction.edges earlier)
