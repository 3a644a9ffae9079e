-- What is known of an instruction that calls nothing, or goes nowhere.
use Rattle.std.proofs.Common.{◌≡◌, ℕ, List, [], ◌∷◌, ◌++◌, true, false, length, refl, ap, sym, subst, ◌∙◌, arith}
use Rattle.std.specs.Prelude.{All}
use Rattle.std.proofs.lemmas.List.{append-nil}
use Rattle.std.proofs.lemmas.List.Elements.{All-nil}
use Rattle.clif_types.specs.declared.types.«Type».{«Type»}
use Rattle.clif_types.specs.declared.extfunc.AbiParam.{AbiParam}
use Rattle.clif_instructions.specs.declared.block_call.BlockCall.{BlockCall}
use Rattle.clif_instructions.specs.declared.instructions.InstructionData.{InstructionData}
use Rattle.clif_instructions.specs.declared.instructions.InstructionData.TheVariants.{BranchTable, Brif, Call, CallIndirect, Jump, TryCall, TryCallIndirect}
use Rattle.clif_instructions.specs.Instruction.{contexts, destinations, is_call, result_count, result_type_of, result_types}
use Rattle.clif_tables.specs.Callees.{count_of_results, given_by_call, types_of, types_of_results}
use Rattle.clif_tables.specs.Lists.{TableLists}
use Rattle.clif_tables.proofs.Given.{no_call_gives}
use Rattle.clif_inst_builder.specs.Shapes.{GivesPair, GivesValue, IsStraight}

not_so : {X : Type 0} → true ≡ false → X
not_so {X} same = let no_way : ⊥ = cc in absurd no_way

pub no_contexts : (shape : InstructionData) → is_call shape ≡ false → contexts shape ≡ []
no_contexts (Call function args) no_call = refl
no_contexts (CallIndirect sig args) no_call = refl
no_contexts (TryCall function args table) no_call = not_so no_call
no_contexts (TryCallIndirect args table) no_call = not_so no_call
no_contexts _ no_call = refl

pub straight_edges : (shape : InstructionData) → IsStraight shape → destinations shape ≡ []
straight_edges (Jump destination) straight = not_so straight.no_branch
straight_edges (Brif arg blocks) straight = not_so straight.no_branch
straight_edges (BranchTable arg table) straight = not_so straight.no_branch
straight_edges (TryCall function args table) straight = not_so straight.no_branch
straight_edges (TryCallIndirect args table) straight = not_so straight.no_branch
straight_edges _ straight = refl

pub straight_contexts : (shape : InstructionData) → IsStraight shape → contexts shape ≡ []
straight_contexts (TryCall function args table) straight = not_so straight.no_branch
straight_contexts (TryCallIndirect args table) straight = not_so straight.no_branch
straight_contexts _ straight = refl

pub no_edge_led : (P : BlockCall → Type 0) (shape : InstructionData) → IsStraight shape → All P (destinations shape)
no_edge_led P shape straight = subst (λ edges. All P edges) (sym (straight_edges shape straight)) (All-nil P)

pub no_context_there : (P : ℕ → Type 0) (shape : InstructionData) → IsStraight shape → All P (contexts shape)
no_context_there P shape straight = subst (λ values. All P values) (sym (straight_contexts shape straight)) (All-nil P)

pub ruleset straight_rules = (no_edge_led, no_context_there)

-- its results are those of its row of the typing table
pub plain_types : (t : TableLists) (shape : InstructionData) (ty : «Type») → is_call shape ≡ false → types_of_results t shape ty ≡ result_types shape ty
plain_types t shape ty no_call =
    ap (λ (given : List AbiParam). result_types shape ty ++ types_of given) (no_call_gives t shape no_call) ∙ append-nil (result_types shape ty)

pub plain_count : (t : TableLists) (shape : InstructionData) → is_call shape ≡ false → count_of_results t shape ≡ result_count shape
plain_count t shape no_call =
    let none : length (given_by_call t shape) ≡ 0 = ap (λ (given : List AbiParam). length given) (no_call_gives t shape no_call) in
    omega (arith, none)

pub one_type : (t : TableLists) (shape : InstructionData) (ty : «Type») → GivesValue shape → types_of_results t shape ty ≡ result_type_of shape ty ∷ []
one_type t shape ty gives = plain_types t shape ty gives.no_call ∙ gives.one_result ty

pub two_results : (t : TableLists) (shape : InstructionData) → GivesPair shape → count_of_results t shape ≡ 2
two_results t shape gives = plain_count t shape gives.no_call ∙ gives.two_results
