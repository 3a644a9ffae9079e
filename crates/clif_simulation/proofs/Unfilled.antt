-- A block without a terminator: none of its instructions has an edge, and no branch that leads somewhere stands in it.
use Rattle.clif_ssa.specs.Zeros.{insts_of_zeros}
use Rattle.std.proofs.Common.{◌≡◌, ℕ, List, [], ◌∷◌, ◌++◌, map, refl, sym, ◌∙◌, ap, subst, Some, inl, inr, false}
use Rattle.std.specs.Prelude.{Contains, IsTrue, flat_map, slice_get, slice_index}
use Rattle.std.specs.List.{AllByRecursion}
use Rattle.std.proofs.lemmas.List.Elements.{Contains-append_right}
use Rattle.clif_ir.specs.Body.{Body, inst_at, block_at}
use Rattle.clif_ir.specs.Consistent.{IsConsistent}
use Rattle.clif_instructions.specs.Instruction.{destinations}
use Rattle.clif_instructions.specs.declared.block_call.BlockCall.{BlockCall}
use Rattle.clif_ssa.specs.LookUp.{branch_block}
use Rattle.clif_ssa.specs.Own.{Own}
use Rattle.clif_ssa.specs.Ssa.{SsaState, predecessors_of}
use Rattle.clif_ssa.specs.SoundLaws.{IsOpen}
use Rattle.clif_ssa.proofs.Ordering.{entry_any, contains_first, contains_more}
use Rattle.clif_meaning.specs.Ledger.{ledger_after, is_filled}
use Rattle.clif_meaning.specs.Name.{Name}
use Rattle.clif_meaning.specs.Request.{AnsweredCall, script_of}
use Rattle.clif_meaning.specs.Program.{Item, Instruct, Use, Assign}
use Rattle.clif_meaning.specs.FunctionView.{Placed}
use Rattle.clif_meaning.specs.View.{edge_of}
use Rattle.clif_simulation.specs.Tables.{program_so_far, block_name}
use Rattle.clif_simulation.specs.Carries.{Carries, EdgesEnd, Holds, NothingLeads, answered_edge, as_passed, carried, own_placed}
use Rattle.clif_simulation.proofs.Extending.{one_answer}
use Rattle.clif_simulation.proofs.FreeEntry.{free_nowhere}
use Rattle.clif_simulation.proofs.Listed.{none_mapped}
use Rattle.clif_simulation.proofs.Unbranched.{CarriesUnbranched, unbranched}
use Rattle.clif_simulation.proofs.Values.{false_is}
use Rattle.clif_simulation.proofs.Whole.{are_declared, declared_types, whole}

-- an item without edges
abbrev pub HasNoEdges : Item → Type 0
HasNoEdges (Instruct place instruction results) = instruction.edges ≡ []
HasNoEdges (Use variable name) = Unit {0}
HasNoEdges (Assign variable name) = Unit {0}

abbrev PlacedWithout : Placed → Type 0
PlacedWithout placed = placed.instruction.edges ≡ []

placed_without : (own : Own) (f : Body) (insts : List ℕ) → ((inst : ℕ) → Contains insts inst → destinations (inst_at f inst).shape ≡ [])
    → AllByRecursion PlacedWithout (map (own_placed own f) insts)
placed_without own f [] none = tt
placed_without own f (inst ∷ insts) none = (
  ap (λ (edges : List BlockCall). as_passed (own.passed inst) 0 (map edge_of edges)) (none inst (contains_first inst insts)),
  placed_without own f insts (λ i here. none i (contains_more inst insts i here)),
)

items_of : (calls : List AnsweredCall) (items : List Item) → AllByRecursion PlacedWithout (flat_map (carried calls) items) → AllByRecursion HasNoEdges items
items_of calls [] all = tt
items_of calls (Instruct place instruction results ∷ items) all = (none_mapped (answered_edge calls) instruction.edges all.0, items_of calls items all.1)
items_of calls (Use variable name ∷ items) all = (tt, items_of calls items all)
items_of calls (Assign variable name ∷ items) all = (tt, items_of calls items all)

-- behind items without edges one more may have edges
pub one_more_ends : (items : List Item) (item : Item) → AllByRecursion HasNoEdges items → EdgesEnd (items ++ item ∷ [])
one_more_ends [] (Instruct place instruction results) all = (inr refl, tt)
one_more_ends [] (Use variable name) all = tt
one_more_ends [] (Assign variable name) all = tt
one_more_ends (Instruct place instruction results ∷ items) item all = (inl all.0, one_more_ends items item all.1)
one_more_ends (Use variable name ∷ items) item all = one_more_ends items item all.1
one_more_ends (Assign variable name ∷ items) item all = one_more_ends items item all.1

module _ (calls : List AnsweredCall) (own : Own) (f : Body) (s : SsaState) (holds : Holds calls own f s) where
  -- an instruction of the caller's that leads nowhere has no edges
  own_without : (block inst : ℕ) → Contains (own.insts block) inst → ((target : ℕ) → Contains (predecessors_of s target) inst → ⊥) → destinations (inst_at f inst).shape ≡ []
  own_without block inst here nowhere = by (destinations (inst_at f inst).shape) refl
    where
      by : (edges : List BlockCall) → destinations (inst_at f inst).shape ≡ edges → destinations (inst_at f inst).shape ≡ []
      by [] none = none
      by (edge ∷ edges) some =
          absurd (nowhere edge.block (holds.declared block inst 0 edge.block here (ap (λ (es : List BlockCall). slice_get (map (λ (e : BlockCall). e.block) es) 0) some)))

  items_without : (block : ℕ) (name : Name) → block_name calls block ≡ Some name
      → ((target inst : ℕ) → Contains (predecessors_of s target) inst → Contains (own.insts block) inst → ⊥)
      → AllByRecursion HasNoEdges ((program_so_far calls).items name)
  items_without block name named nowhere =
      items_of calls ((program_so_far calls).items name)
      (subst (AllByRecursion PlacedWithout) (holds.items block name named)
      (placed_without own f (own.insts block) (λ inst here. own_without block inst here (λ target leads. nowhere target inst leads here))))

  module _ (consistent : IsConsistent f) where
    -- an instruction of the caller's stands in its block
    pub own_block : (block inst : ℕ) → Contains (own.insts block) inst → branch_block f inst ≡ block
    own_block block inst here =
        let has = (holds.structured (declared_types calls) (are_declared calls)).zeros block in
        let there : Contains (block_at f block).insts inst =
        subst (λ (is : List ℕ). Contains is inst) (sym has.in_order) (Contains-append_right (insts_of_zeros has.zeros) (own.insts block) inst here) in
        let at : slice_index (block_at f block).insts there.0 ≡ inst = entry_any (block_at f block).insts there.0 0 inst there.1 ∙ there.2 in
        ap (branch_block f) (sym at) ∙ (consistent.insts_known block there.0 there.1).1

    module _ (b : ℕ) (B : Name) (named : block_name calls b ≡ Some B) (unfilled : is_filled (ledger_after (script_of calls)) B ≡ false) where
      not_filled : (name : Name) → B ≡ name → IsTrue (is_filled (ledger_after (script_of calls)) name) → ⊥
      not_filled name same filled =
          false_is (subst (λ (t : _). IsTrue t) unfilled (subst (λ (n : Name). IsTrue (is_filled (ledger_after (script_of calls)) n)) (sym same) filled))

      pub is_open : IsOpen f s b
      is_open target inst leads same =
          let own_is = holds.leads_own target inst leads in
          let here : own_is.0 ≡ b = sym (own_block own_is.0 inst own_is.2) ∙ same in
          not_filled own_is.1 (one_answer B own_is.1 (block_name calls b) named (ap (block_name calls) (sym here) ∙ own_is.3)) own_is.4

      -- its items have no edges
      pub no_edges : AllByRecursion HasNoEdges ((program_so_far calls).items B)
      no_edges = items_without b B named (λ target inst leads here. is_open target inst leads (own_block b inst here))

-- a function without branches that carries calls
abbrev pub plainly : (calls : List AnsweredCall) (f : Body) (s : SsaState) → IsConsistent f → Carries calls f s → NothingLeads s → CarriesUnbranched calls f s
plainly calls f s consistent carries nothing = unbranched calls f s (whole calls f s consistent carries (free_nowhere f s nothing)) nothing
