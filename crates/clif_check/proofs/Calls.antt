-- Calls, shape by shape: what they take, and what their edges may pass.
use Rattle.std.proofs.Common.{◌≡◌, List, [], ◌∷◌, refl, sym, subst, ◌∙◌}
use Rattle.clif_types.specs.declared.extfunc.AbiParam.{AbiParam}
use Rattle.clif_instructions.specs.declared.block_call.BlockCall.{BlockCall}
use Rattle.clif_instructions.specs.declared.instructions.InstructionData.{InstructionData}
use Rattle.clif_instructions.specs.declared.instructions.InstructionData.TheVariants.{Call, CallIndirect, TryCall, TryCallIndirect}
use Rattle.clif_instructions.specs.ExceptionTables.{ExceptionShape}
use Rattle.clif_tables.specs.Callees.{callee_params, signature_at, types_of}
use Rattle.clif_tables.specs.Lists.{TableLists}
use Rattle.clif_ir.specs.Body.{Body}
use Rattle.clif_check.specs.WellTyped.{Matches, TryCallMatches, callee_types}

-- the parameters of what is called have the types that the call takes
pub types_taken : (tables : TableLists) (shape : InstructionData) → types_of (callee_params tables shape) ≡ callee_types tables shape
types_taken tables (Call function args) = refl
types_taken tables (CallIndirect sig args) = refl
types_taken tables (TryCall function args table) = refl
types_taken tables (TryCallIndirect args table) = refl
types_taken tables _ = refl

-- the first edge of a try call, which is the normal one, matches
pub normal_matches : (f : Body) (table : ExceptionShape) (returns : List AbiParam) (edges : List BlockCall) (normal : BlockCall) (items : List BlockCall)
    → returns ≡ (signature_at f.tables table.sig).returns → edges ≡ table.edges → edges ≡ normal ∷ items → TryCallMatches f table
    → Matches f (types_of returns) [] normal
normal_matches f table returns edges normal items given own is holds =
    subst (λ (list : List AbiParam). Matches f (types_of list) [] normal) (sym given)
    (subst (λ (list : List BlockCall). TryCallMatches f (record table { edges = list })) (sym own ∙ is) holds).0
