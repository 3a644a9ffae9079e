-- An instruction is appended, and a branch is declared at its targets.
use Rattle.std.proofs.Common.{◌≡◌, ℕ, zero, suc, ◌+◌, ◌<◌, ◌≤◌, true, false, List, [], ◌∷◌, length, get_or, refl, ◌∙◌, ap, subst, arith}
use Rattle.std.specs.Prelude.{All, Contains}
use Rattle.std.proofs.lemmas.Grind.{common_steps}
use Rattle.clif_types.specs.declared.types.«Type».{«Type»}
use Rattle.clif_instructions.specs.declared.block_call.BlockCall.{BlockCall}
use Rattle.clif_instructions.specs.declared.insert_at.InsertAt.{InsertAt}
use Rattle.clif_instructions.specs.declared.instructions.InstructionData.{InstructionData}
use Rattle.clif_instructions.specs.declared.instructions.InstructionData.TheVariants.{Jump, Brif, BranchTable, TryCall, TryCallIndirect}
use Rattle.clif_ir.specs.Body.{Body, inst_at}
use Rattle.clif_ir.specs.Changes.{with_inst, inst_node}
use Rattle.clif_nodes.specs.declared.nodes.InstNode.{InstNode}
use Rattle.clif_instructions.specs.Instruction.{destinations, is_branch, is_terminator}
use Rattle.clif_instructions.specs.Edges.{targets}
use Rattle.clif_records.specs.Tables.{is_yes}
use Rattle.clif_ssa.specs.Ssa.{SsaState, NamesExist, predecessors_of, sealed_of}
use Rattle.clif_builder.specs.Context.{ContextState}
use Rattle.clif_builder.specs.Builder.{CanLeadIn}

no_test : {X : Type 0} → true ≡ false → X
no_test same = let no_way : ⊥ = cc in absurd no_way

-- what is no branch has no edges, and so has what doesn't end its block
pub none_of_plain : (shape : InstructionData) → is_branch shape ≡ false → destinations shape ≡ []
none_of_plain (Jump destination) plain = no_test plain
none_of_plain (Brif arg blocks) plain = no_test plain
none_of_plain (BranchTable arg table) plain = no_test plain
none_of_plain (TryCall function args table) plain = no_test plain
none_of_plain (TryCallIndirect args table) plain = no_test plain
none_of_plain _ plain = refl

pub none_of_inner : (shape : InstructionData) → is_terminator shape ≡ false → destinations shape ≡ []
none_of_inner (Jump destination) goes_on = no_test goes_on
none_of_inner (Brif arg blocks) goes_on = no_test goes_on
none_of_inner (BranchTable arg table) goes_on = no_test goes_on
none_of_inner (TryCall function args table) goes_on = no_test goes_on
none_of_inner (TryCallIndirect args table) goes_on = no_test goes_on
none_of_inner _ goes_on = refl

-- the targets of edges that may be made aren't sealed
pub lead_unsealed : (f : Body) (c : ContextState) (edges : List BlockCall) → All (CanLeadIn f c) edges → (b : ℕ) → Contains (targets edges) b → is_yes (sealed_of c.ssa b) ≡ false
lead_unsealed f c edges may b (k, inside, at) = by edges may k inside at
  where
    by : (edges : List BlockCall) → All (CanLeadIn f c) edges → (k : ℕ) → k < length (targets edges) → get_or (targets edges) k b ≡ b → is_yes (sealed_of c.ssa b) ≡ false
    by [] may k inside at = absurd (omega (arith, inside))
    by (edge ∷ edges) may zero inside at = subst (λ d. is_yes (sealed_of c.ssa d) ≡ false) at (may 0 edge (omega arith)).1
    by (edge ∷ edges) may (suc k) inside at = by edges (λ j d below. may (suc j) d (omega (arith, below))) k (omega (arith, inside)) at

-- the node of the instruction
pub inserted_node : (f g : Body) (b : ℕ) (at : InsertAt) (shape : InstructionData) (types : List «Type») (loc inst : ℕ) → g ≡ with_inst f b at shape types loc → inst ≡ length f.insts
    → ((inst_at g inst).shape ≡ shape) × (inst < length g.insts)
inserted_node f g b at shape types loc inst is number = (
  ap (λ (h : Body). (inst_at h inst).shape) is ∙ ap (λ (n : InstNode). n.shape) last,
  omega (arith, count, same_count, number),
)
  where
    last : inst_at (with_inst f b at shape types loc) inst ≡ inst_node f b shape types loc
    last = grind (arith, common_steps, number)

    count : length (with_inst f b at shape types loc).insts ≡ length f.insts + 1
    count = grind (arith, common_steps)

    same_count : length g.insts ≡ length (with_inst f b at shape types loc).insts
    same_count = ap (λ (h : Body). length h.insts) is

-- a new instruction leads nowhere so far
pub new_leads_nowhere : (f : Body) (s : SsaState) (inst : ℕ) → NamesExist f s → length f.insts ≤ inst → (b : ℕ) → Contains (predecessors_of s b) inst → ⊥
new_leads_nowhere f s inst named new b here = absurd (omega (arith, named.leading b inst here, new))
