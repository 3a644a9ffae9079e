use Rattle.std.proofs.Common.{sym, subst, ◌∙◌}
use Rattle.clif_instructions.specs.declared.block_call.BlockArg.{BlockArg}
use Rattle.clif_tables.specs.Callees.{types_of}
use Rattle.clif_check.specs.WellTyped.{HasType}
use Rattle.clif_check.proofs.Pieces.{has_type, type_had}
use Rattle.clif_check.proofs.parts.has_type.Goals as goal

pub returns-in-Value : goal.returns-in-Value
returns-in-Value c = (
  λ yes. subst (λ (argument : BlockArg). HasType c.args.func.now (types_of c.args.results.now) c.args.payload.now argument c.args.ty) (sym c.in-Value.is)
      (has_type c.args.func.now (types_of c.args.results.now) c.args.payload.now c.in-Value.value c.args.ty (sym c.value_type.ensures ∙ c.same_type.ensures.0 yes)),
  λ has. c.same_type.ensures.1 (c.value_type.ensures ∙ type_had c.args.func.now (types_of c.args.results.now) c.args.payload.now c.in-Value.value c.args.ty
      (subst (λ (argument : BlockArg). HasType c.args.func.now (types_of c.args.results.now) c.args.payload.now argument c.args.ty) c.in-Value.is has)),
)
