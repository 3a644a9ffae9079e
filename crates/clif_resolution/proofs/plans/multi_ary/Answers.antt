use Rattle.std.proofs.Common.{refl, subst}
use Rattle.std.specs.Prelude.{◌≡◌, map, Some}
use Rattle.clif_types.specs.declared.types.«Type».TheVariants.{Invalid}
use Rattle.clif_ir.specs.Body.{Body}
use Rattle.clif_instructions.specs.declared.instructions.InstructionData.TheVariants as shape
use Rattle.clif_calls.specs.declared.plan.Plan.TheVariants as plan
use Rattle.clif_resolution.specs.Answers.{value_of}
use Rattle.clif_resolution.proofs.Planning.{planned-found, planned-returns}
use Rattle.clif_resolution.proofs.plans.multi_ary.Goals as goal

pub returns : goal.returns
returns g c =
    let values = c.in_ok-args.args in
    let found = subst (λ (f : Body). map (value_of f c.args.answers.now) c.args.args.now ≡ map Some values) c.func.ensures c.in_ok-args.ensures.values in
    planned-found c.args.builder.now c.args.answers.now (plan.MultiAry c.args.args) (plan.MultiAry c.args.args) c.untyped.result (shape.MultiAry values) Invalid refl c.untyped.ensures refl
    (planned-returns c.args.builder.now c.args.answers.now c.args.args values found)
