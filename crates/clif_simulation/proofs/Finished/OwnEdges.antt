-- The caller's instructions of a function that carries a list of calls, and their edges: those of the program's items.
use Rattle.clif_simulation.proofs.Finished.ZeroInsts.{IsZeroInst, zero_insts}
use Rattle.clif_ssa.specs.Zeros.{insts_of_zeros}
use Rattle.std.proofs.Common.{◌≡◌, ℕ, zero, suc, ◌+◌, ◌<◌, List, [], ◌∷◌, length, map, slice_get, Option, Some, None, Contains, ◌⊎◌, inl, inr, refl, sym, ◌∙◌, ap, arith}
use Rattle.std.specs.Prelude.{slice_index}
use Rattle.clif_ir.specs.Body.{Body, inst_at, block_at}
use Rattle.clif_ir.specs.Consistent.{IsConsistent}
use Rattle.clif_instructions.specs.Instruction.{destinations}
use Rattle.clif_instructions.specs.declared.block_call.BlockArg.{BlockArg}
use Rattle.clif_instructions.specs.declared.block_call.BlockCall.{BlockCall}
use Rattle.clif_ssa.specs.LookUp.{branch_block}
use Rattle.clif_ssa.specs.Ssa.{SsaState, predecessors_of}
use Rattle.clif_ssa.specs.Sound.{edges_at, edge_target}
use Rattle.clif_meaning.specs.Name.{Name}
use Rattle.clif_meaning.specs.Request.{AnsweredCall}
use Rattle.clif_meaning.specs.Instruction.{Argument, Edge, Instruction}
use Rattle.clif_meaning.specs.Program.{Item, Instruct, Use, Assign}
use Rattle.clif_meaning.specs.FunctionView.{Placed}
use Rattle.clif_meaning.specs.View.{argument_of, edge_of, edges_of}
use Rattle.clif_simulation.specs.Tables.{answered, program_so_far, block_name}
use Rattle.clif_simulation.proofs.Whole.{Whole}
use Rattle.clif_simulation.specs.Carries.{answered_argument, answered_edge, as_passed, own_placed, EdgeEarlier, EdgesEnd, NamesEarlier}
use Rattle.clif_simulation.proofs.Listed.{all_at, place_within}
use Rattle.clif_simulation.proofs.Finished.Placing.{at_second, in_two, map_at, map_from, map_length, stands_at, placed_item, OfItem, of_item}

-- Lists -----------------------------------------------------------------------------------------------------------------

get_index : (xs : List ℕ) (k x : ℕ) → slice_get xs k ≡ Some x → slice_index xs k ≡ x
get_index [] zero x is = cc
get_index [] (suc k) x is = cc
get_index (y ∷ xs) zero x is = cc
get_index (y ∷ xs) (suc k) x is = get_index xs k x is

none_some : {X : Type 0} (x : X) → None ≡ Some x → ⊥
none_some x h = cc

-- Edges that pass what the caller passed ----------------------------------------------------------------------------------

pub passed_there : (passed : ℕ → List BlockArg) (n : ℕ) (edges : List (Edge ℕ ℕ)) (k : ℕ) (edge : Edge ℕ ℕ) → slice_get edges k ≡ Some edge
    → slice_get (as_passed passed n edges) k ≡ Some (record edge { arguments = map argument_of (passed (n + k)) })
passed_there passed n [] zero edge is = cc
passed_there passed n [] (suc k) edge is = cc
passed_there passed n (e ∷ edges) zero edge is =
    let same : n ≡ n + 0 = omega arith in
    let first : e ≡ edge = cc in
    ap (λ (x : Edge ℕ ℕ). Some (record x { arguments = map argument_of (passed n) })) first
    ∙ ap (λ (m : ℕ). Some (record edge { arguments = map argument_of (passed m) })) same
passed_there passed n (e ∷ edges) (suc k) edge is =
    let same : suc n + k ≡ n + suc k = omega arith in
    passed_there passed (suc n) edges k edge is ∙ ap (λ (m : ℕ). Some (record edge { arguments = map argument_of (passed m) })) same

-- what stands among such edges, and the edge itself
pub record IsPassedFrom (passed : ℕ → List BlockArg) (n : ℕ) (edges : List (Edge ℕ ℕ)) (k : ℕ) (edge : Edge ℕ ℕ) : Type 0 where
  pub from : Edge ℕ ℕ
  pub stands : slice_get edges k ≡ Some from
  pub target : edge.target ≡ from.target
  pub arguments : edge.arguments ≡ map argument_of (passed (n + k))

passed_from : (passed : ℕ → List BlockArg) (n : ℕ) (edges : List (Edge ℕ ℕ)) (k : ℕ) (edge : Edge ℕ ℕ) → slice_get (as_passed passed n edges) k ≡ Some edge
    → IsPassedFrom passed n edges k edge
passed_from passed n edges k edge is = by (slice_get edges k) refl
  where
    empty : (xs : List (Edge ℕ ℕ)) (m j : ℕ) → slice_get xs j ≡ None → slice_get (as_passed passed m xs) j ≡ None
    empty [] m zero none = refl
    empty [] m (suc j) none = refl
    empty (x ∷ xs) m zero none = cc
    empty (x ∷ xs) m (suc j) none = empty xs (suc m) j none

    by : (o : Option (Edge ℕ ℕ)) → slice_get edges k ≡ o → IsPassedFrom passed n edges k edge
    by None none = absurd (none_some edge (sym (empty edges n k none) ∙ is))
    by (Some e) there =
        let one : Some (record e { arguments = map argument_of (passed (n + k)) }) ≡ Some edge = sym (passed_there passed n edges k e there) ∙ is in
        let same : record e { arguments = map argument_of (passed (n + k)) } ≡ edge = cc in
        record {
          from = e;
          stands = there;
          target = ap (λ (x : Edge ℕ ℕ). x.target) (sym same);
          arguments = ap (λ (x : Edge ℕ ℕ). x.arguments) (sym same);
        }

-- the last item -----------------------------------------------------------------------------------------------------------

no_edge : {X : Type 0} (xs : List X) (k : ℕ) (x : X) → xs ≡ [] → slice_get xs k ≡ Some x → ⊥
no_edge [] zero x none is = cc
no_edge [] (suc k) x none is = cc
no_edge (y ∷ xs) k x none is = cc

-- an item with an edge is the last one
pub last_item : (items : List Item) (j place : ℕ) (instruction : Instruction Name Name) (results : List Name) (k : ℕ) (edge : Edge Name Name) → EdgesEnd items
    → slice_get items j ≡ Some (Instruct place instruction results) → slice_get instruction.edges k ≡ Some edge → suc j ≡ length items
last_item [] zero place instruction results k edge ends stands there = cc
last_item [] (suc j) place instruction results k edge ends stands there = cc
last_item (Use variable name ∷ items) zero place instruction results k edge ends stands there = cc
last_item (Assign variable name ∷ items) zero place instruction results k edge ends stands there = cc
last_item (Use variable name ∷ items) (suc j) place instruction results k edge ends stands there =
    ap suc (last_item items j place instruction results k edge ends stands there)
last_item (Assign variable name ∷ items) (suc j) place instruction results k edge ends stands there =
    ap suc (last_item items j place instruction results k edge ends stands there)
last_item (Instruct p i r ∷ items) (suc j) place instruction results k edge ends stands there =
    ap suc (last_item items j place instruction results k edge ends.1 stands there)
last_item (Instruct p i r ∷ items) zero place instruction results k edge ends stands there = by ends.0
  where
    same : i ≡ instruction
    same = cc

    by : (i.edges ≡ []) ⊎ (items ≡ []) → 1 ≡ suc (length items)
    by (inl none) = absurd (no_edge instruction.edges k edge (sym (ap (λ (x : Instruction Name Name). x.edges) same) ∙ none) there)
    by (inr none) = ap (λ (xs : List Item). suc (length xs)) (sym none)

module _ (calls : List AnsweredCall) (f : Body) (s : SsaState) (consistent : IsConsistent f) (carries : Whole calls f s) where
  -- Where own instructions stand ------------------------------------------------------------------------------------------

  -- an own instruction stands in its block
  pub stands_in_block : (c t i : ℕ) → slice_get (carries.own.insts c) t ≡ Some i → branch_block f i ≡ c
  stands_in_block c t i there =
      let has = carries.describes.instructions c in
      let stands : slice_get (block_at f c).insts (length (insts_of_zeros has.zeros) + t) ≡ Some i =
      ap (λ (xs : List ℕ). slice_get xs (length (insts_of_zeros has.zeros) + t)) has.in_order ∙ at_second (insts_of_zeros has.zeros) (carries.own.insts c) (length (insts_of_zeros has.zeros) + t) t refl ∙ there in
      let below : length (insts_of_zeros has.zeros) + t < length (block_at f c).insts = place_within (block_at f c).insts (length (insts_of_zeros has.zeros) + t) i stands in
      ap (branch_block f) (sym (get_index (block_at f c).insts (length (insts_of_zeros has.zeros) + t) i stands)) ∙ (consistent.insts_known c (length (insts_of_zeros has.zeros) + t) below).1

  zero_leads_nowhere : (c i k b : ℕ) → IsZeroInst f carries.tables c i → edge_target f i k ≡ Some b → ⊥
  zero_leads_nowhere c i k b is_zero leads =
      by k (sym (ap (λ (edges : List BlockCall). slice_get (map (λ (edge : BlockCall). edge.block) edges) k) is_zero.no_edges) ∙ leads)
    where
      by : (k : ℕ) → slice_get (map (λ (edge : BlockCall). edge.block) []) k ≡ Some b → ⊥
      by zero h = cc
      by (suc k) h = cc

  -- a declared branch is one of its block's own instructions
  pub is_own : (b i k : ℕ) → Contains (predecessors_of s b) i → edge_target f i k ≡ Some b
      → (t : ℕ) × (slice_get (carries.own.insts (branch_block f i)) t ≡ Some i)
  is_own b i k leads to =
      let c : ℕ = branch_block f i in
      let has = carries.describes.instructions c in
      let there = (consistent.insts_stand i (carries.describes.leading b i leads).0).1 in
      by there.0 (in_two (insts_of_zeros has.zeros) (carries.own.insts c) there.0 i
      (ap (λ (xs : List ℕ). slice_get xs there.0) (sym has.in_order) ∙ stands_at (block_at f c).insts there.0 there.1 ∙ ap (λ (x : ℕ). Some x) there.2))
    where
      by : (m : ℕ) → ((m < length (insts_of_zeros (carries.describes.instructions (branch_block f i)).zeros)) × (slice_get (insts_of_zeros (carries.describes.instructions (branch_block f i)).zeros) m ≡ Some i))
          ⊎ ((t : ℕ) × (m ≡ length (insts_of_zeros (carries.describes.instructions (branch_block f i)).zeros) + t) × (slice_get (carries.own.insts (branch_block f i)) t ≡ Some i))
          → (t : ℕ) × (slice_get (carries.own.insts (branch_block f i)) t ≡ Some i)
      by m (inl zero_there) =
          absurd (zero_leads_nowhere (branch_block f i) i k b
          (all_at (IsZeroInst f carries.tables (branch_block f i)) (insts_of_zeros (carries.describes.instructions (branch_block f i)).zeros) m i
          (zero_insts f carries.tables (branch_block f i) (carries.describes.instructions (branch_block f i)).zeros (carries.describes.instructions (branch_block f i)).are_zeros) zero_there.1) to)
      by m (inr own_there) = (own_there.0, own_there.2)

  -- the item of an own instruction
  pub item_of : (c : ℕ) (C : Name) → block_name calls c ≡ Some C → (t i : ℕ) → slice_get (carries.own.insts c) t ≡ Some i
      → OfItem calls ((program_so_far calls).items C) t (own_placed carries.own f i)
  item_of c C named t i there =
      of_item calls ((program_so_far calls).items C) t (own_placed carries.own f i)
      (ap (λ (ps : List Placed). slice_get ps t) (sym (carries.items c C named)) ∙ map_at (own_placed carries.own f) (carries.own.insts c) t i there)

  -- Edges -----------------------------------------------------------------------------------------------------------------

  -- an edge of the function is this one of the program
  pub record IsEdgeOf (i k : ℕ) (edge : Edge Name Name) : Type 0 where
    pub call : BlockCall
    pub stands : slice_get (edges_at f i) k ≡ Some call
    pub target : call.block ≡ answered calls edge.target
    pub passed : map argument_of (carries.own.passed i k) ≡ map (answered_argument calls) edge.arguments

  -- the caller passed as much along it
  pub passed_count : (i k : ℕ) (edge : Edge Name Name) → IsEdgeOf i k edge → length (carries.own.passed i k) ≡ length edge.arguments
  passed_count i k edge of_function =
      sym (map_length argument_of (carries.own.passed i k)) ∙ ap (λ (xs : List (Argument ℕ)). length xs) of_function.passed
      ∙ map_length (answered_argument calls) edge.arguments

  module _ (i : ℕ) (instruction : Instruction Name Name) (results : List Name) (is : own_placed carries.own f i ≡ placed_item calls instruction results) where
    edges_are : as_passed (carries.own.passed i) 0 (edges_of (inst_at f i).shape) ≡ map (answered_edge calls) instruction.edges
    edges_are = ap (λ (p : Placed). p.instruction.edges) is

    pub edge_in_function : (k : ℕ) (edge : Edge Name Name) → slice_get instruction.edges k ≡ Some edge → IsEdgeOf i k edge
    edge_in_function k edge there =
        let from = passed_from (carries.own.passed i) 0 (edges_of (inst_at f i).shape) k (answered_edge calls edge)
        (ap (λ (es : List (Edge ℕ ℕ)). slice_get es k) edges_are ∙ map_at (answered_edge calls) instruction.edges k edge there) in
        let call = map_from edge_of (destinations (inst_at f i).shape) k from.from from.stands in
        record {
          call = call.0;
          stands = call.1;
          target = ap (λ (e : Edge ℕ ℕ). e.target) call.2 ∙ sym from.target;
          passed = let same : 0 + k ≡ k = omega arith in ap (λ (m : ℕ). map argument_of (carries.own.passed i m)) (sym same) ∙ sym from.arguments;
        }

    pub edge_in_program : (k b : ℕ) → edge_target f i k ≡ Some b → (edge : Edge Name Name) × (slice_get instruction.edges k ≡ Some edge) × (answered calls edge.target ≡ b)
    edge_in_program k b to =
        let call = map_from (λ (edge : BlockCall). edge.block) (destinations (inst_at f i).shape) k b to in
        let there = passed_there (carries.own.passed i) 0 (edges_of (inst_at f i).shape) k (edge_of call.0) (map_at edge_of (destinations (inst_at f i).shape) k call.0 call.1) in
        let edge = map_from (answered_edge calls) instruction.edges k (record (edge_of call.0) { arguments = map argument_of (carries.own.passed i (0 + k)) })
        (ap (λ (es : List (Edge ℕ ℕ)). slice_get es k) (sym edges_are) ∙ there) in
        (edge.0, edge.1, ap (λ (e : Edge ℕ ℕ). e.target) edge.2 ∙ call.2)

    -- where the program has no edge, the function has none
    pub no_edge_in_function : (k : ℕ) → slice_get instruction.edges k ≡ None → slice_get (edges_of (inst_at f i).shape) k ≡ None
    no_edge_in_function k none = by (slice_get (edges_of (inst_at f i).shape) k) refl
      where
        by : (o : Option (Edge ℕ ℕ)) → slice_get (edges_of (inst_at f i).shape) k ≡ o → o ≡ None
        by None is_none = refl
        by (Some e) there =
            let edge = map_from (answered_edge calls) instruction.edges k (record e { arguments = map argument_of (carries.own.passed i (0 + k)) })
            (ap (λ (es : List (Edge ℕ ℕ)). slice_get es k) (sym edges_are) ∙ passed_there (carries.own.passed i) 0 (edges_of (inst_at f i).shape) k e there) in
            absurd (none_some edge.0 (sym none ∙ edge.1))

  -- the target of an edge is the block with the number of its answer
  pub target_named : (C : Name) (j place : ℕ) (instruction : Instruction Name Name) (results : List Name) → slice_get ((program_so_far calls).items C) j ≡ Some (Instruct place instruction results)
      → (k : ℕ) (edge : Edge Name Name) → slice_get instruction.edges k ≡ Some edge → block_name calls (answered calls edge.target) ≡ Some edge.target
  target_named C j place instruction results stands k edge there =
      let item : NamesEarlier calls (Instruct place instruction results) =
      all_at (NamesEarlier calls) ((program_so_far calls).items C) j (Instruct place instruction results) (carries.earlier C) stands in
      (all_at (EdgeEarlier calls) instruction.edges k edge item.2 there).leads
