use Rattle.std.proofs.Common.{subst}
use Rattle.clif_types.specs.declared.types.«Type».{«Type»}
use Rattle.clif_builder.specs.declared.builder.FunctionBuilder.{FunctionBuilder}
use Rattle.clif_builder.specs.Built.{BuildsValue}
use Rattle.clif_builder.proofs.Named.{same_builder}
use Rattle.clif_builder.proofs.instructions.FunctionBuilderInstBuilderBase.build_like.Goals as goal

pub returns : goal.returns
returns g c = record {
  built =
      subst (λ (ty : «Type»). BuildsValue c.args.self.now c.build_value.new.self c.args.shape ty c.build_value.result) c.value_type-ty.ensures
      (subst (λ (b : FunctionBuilder _). BuildsValue b c.build_value.new.self c.args.shape c.value_type-ty.result c.build_value.result)
      (same_builder c.args.self.now _) c.build_value.ensures.built);
}
