-- A function with one instruction more.
use Rattle.std.proofs.Common.{◌≡◌, ◌≢◌, ℕ, zero, suc, ◌+◌, ◌<◌, ◌≤◌, List, [], ◌∷◌, length, get_or, set, ap, refl, arith, sym, ◌∙◌, subst}
use Rattle.std.specs.Prelude.{slice_index}
use Rattle.std.proofs.Math.ListN.{get_or-append}
use Rattle.std.proofs.lemmas.Grind.{common_steps}
use Rattle.std.proofs.lemmas.List.Sums.{sum_by-cons}
use Rattle.clif_types.specs.declared.types.«Type».{«Type»}
use Rattle.clif_ir.specs.Body.{Body, block_at, inst_at, resolved}
use Rattle.clif_nodes.specs.Nodes.{BlockNode, empty_block, no_inst, result_nodes}
use Rattle.clif_ir.specs.Changes.{with_inst, inst_node}
use Rattle.clif_instructions.specs.Members.{put_at, place_of}
use Rattle.clif_ir.specs.Reading.{param_home}
use Rattle.clif_ir.specs.Consistent.{alias_count}
use Rattle.clif_nodes.specs.declared.nodes.ValueNode.{ValueNode}
use Rattle.clif_nodes.specs.declared.nodes.ValueOrigin.TheVariants.{Result}
use Rattle.clif_instructions.specs.declared.insert_at.InsertAt.{InsertAt}
use Rattle.clif_instructions.specs.declared.instructions.InstructionData.{InstructionData}
use Rattle.clif_instructions.proofs.Lists.{at_set}
use Rattle.clif_ir.proofs.Aliases.{ways_end-append}
use Rattle.clif_paths.specs.Blocks.{Blocks}
use Rattle.clif_ssa.proofs.Bodies.{Firm, no_alias_behind, resolved-append, leads_inside-append, results_no_alias, results_no_home, home-append_none}
use Rattle.clif_ssa.proofs.Describing.{Extends}

results_count : (i k : ℕ) (types : List «Type») → alias_count (result_nodes i k types) ≡ 0
results_count i k [] = refl
results_count i k (ty ∷ types) =
    let node : ValueNode = record { ty = ty; origin = Result i k } in
    let rest : alias_count (result_nodes i (k + 1) types) ≡ 0 = results_count i (k + 1) types in
    let here : alias_count (node ∷ result_nodes i (k + 1) types) ≡ 0 + alias_count (result_nodes i (k + 1) types) = sum_by-cons _ node (result_nodes i (k + 1) types) in
    omega (arith, rest, here)

nodes_count : (i k : ℕ) (types : List «Type») → length (result_nodes i k types) ≡ length types
nodes_count i k [] = refl
nodes_count i k (ty ∷ types) = ap suc (nodes_count i (k + 1) types)

-- an entry of a list in which one was replaced by one with the same parameters
params_set : (xs : List BlockNode) (i : ℕ) (y : BlockNode) (k : ℕ) → y.params ≡ (get_or xs i empty_block).params → (get_or (set xs i y) k empty_block).params ≡ (get_or xs k empty_block).params
params_set [] i y k same = refl
params_set (x ∷ xs) zero y zero same = same
params_set (x ∷ xs) zero y (suc k) same = refl
params_set (x ∷ xs) (suc i) y zero same = refl
params_set (x ∷ xs) (suc i) y (suc k) same = params_set xs i y k same

module _ (f : Body) (b : ℕ) (at : InsertAt) (shape : InstructionData) (types : List «Type») (loc : ℕ) where
  pub inst_resolved : Firm f → (v : ℕ) → resolved (with_inst f b at shape types loc) v ≡ resolved f v
  inst_resolved firm v = resolved-append f.values (result_nodes (length f.insts) 0 types) firm.leads firm.ends (results_no_alias (length f.insts) 0 types) v

  pub inst_param_home : (v : ℕ) → param_home (with_inst f b at shape types loc) v ≡ param_home f v
  inst_param_home v = home-append_none f.values (result_nodes (length f.insts) 0 types) (results_no_home (length f.insts) 0 types) v

  pub inst_blocks : length (with_inst f b at shape types loc).blocks ≡ length f.blocks
  inst_blocks = grind (arith, common_steps)

  pub inst_insts_more : length (with_inst f b at shape types loc).insts ≡ length f.insts + 1
  inst_insts_more = grind (arith, common_steps)

  pub inst_values_more : length f.values ≤ length (with_inst f b at shape types loc).values
  inst_values_more = grind (arith, common_steps)

  pub inst_values_count : length (with_inst f b at shape types loc).values ≡ length f.values + length types
  inst_values_count = grind (arith, common_steps, nodes_count (length f.insts) 0 types)

  pub inst_params : (c : ℕ) → (block_at (with_inst f b at shape types loc) c).params ≡ (block_at f c).params
  inst_params c = params_set f.blocks b (record (block_at f b) { insts = put_at at (length f.insts) (block_at f b).insts }) c refl

  pub inst_firm : Firm f → Firm (with_inst f b at shape types loc)
  inst_firm firm = record {
    leads = leads_inside-append f.values (result_nodes (length f.insts) 0 types) firm.leads (results_no_alias (length f.insts) 0 types);
    ends = ways_end-append f.values (result_nodes (length f.insts) 0 types) firm.leads (results_count (length f.insts) 0 types)
        (no_alias_behind f.values (result_nodes (length f.insts) 0 types) (results_no_alias (length f.insts) 0 types)) firm.ends;
    homes_exist = λ v c is. omega (arith, firm.homes_exist v c (sym (inst_param_home v) ∙ is), inst_blocks);
    stands = λ v c is. subst (λ ps. place_of v ps < length ps) (sym (inst_params c)) (firm.stands v c (sym (inst_param_home v) ∙ is));
    params_exist = λ c k here.
        subst (λ ps. k < length ps → slice_index ps k < length (with_inst f b at shape types loc).values) (sym (inst_params c))
        (λ below. omega (arith, firm.params_exist c k below, inst_values_more)) here;
  }

  pub inst_old : (i : ℕ) → i < length f.insts → inst_at (with_inst f b at shape types loc) i ≡ inst_at f i
  inst_old i inside = get_or-append f.insts (inst_node f b shape types loc ∷ []) no_inst i inside

  pub inst_new : inst_at (with_inst f b at shape types loc) (length f.insts) ≡ inst_node f b shape types loc
  inst_new = grind (arith, common_steps)

  pub inst_insts_here : b < length f.blocks → (block_at (with_inst f b at shape types loc) b).insts ≡ put_at at (length f.insts) (block_at f b).insts
  inst_insts_here there =
      at_set (λ (m : BlockNode). m.insts ≡ put_at at (length f.insts) (block_at f b).insts) f.blocks b (record (block_at f b) { insts = put_at at (length f.insts) (block_at f b).insts }) b empty_block there
      (λ _. refl) (λ other. absurd (other refl))

  pub inst_insts_other : (c : ℕ) → b < length f.blocks → c ≢ b → (block_at (with_inst f b at shape types loc) c).insts ≡ (block_at f c).insts
  inst_insts_other c there apart =
      at_set (λ (m : BlockNode). m.insts ≡ (block_at f c).insts) f.blocks b (record (block_at f b) { insts = put_at at (length f.insts) (block_at f b).insts }) c empty_block there
      (λ same. absurd (apart same)) (λ _. refl)

  pub inst_extends : (blocks blocks' : Blocks) → ((v : ℕ) → v < length f.values → blocks'.function.definition v ≡ blocks.function.definition v)
      → Extends f (with_inst f b at shape types loc) blocks blocks'
  inst_extends blocks blocks' same = record {
    values_more = inst_values_more;
    insts_more = omega (arith, inst_insts_more);
    inst_same = inst_old;
    constants_kept = λ constant bytes here. here;
    definition_same = same;
  }
