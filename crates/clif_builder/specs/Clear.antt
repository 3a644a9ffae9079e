-- A context that holds nothing, as `new` and `finalize` leave it. Source: the crate's documentation of `FunctionBuilderContext`.
use Rattle.std.specs.Prelude.{◌≡◌, None}
use Rattle.clif_builder.specs.declared.context.FunctionBuilderContext.{FunctionBuilderContext}
use Rattle.clif_builder.specs.Context.{empty_context}

-- nothing of a function, and no callback for alias regions
pub record IsClear {R : Type 0} (c : FunctionBuilderContext R) : Type 0 where
  pub parts : c.parts ≡ empty_context
  pub region : c.region ≡ None
