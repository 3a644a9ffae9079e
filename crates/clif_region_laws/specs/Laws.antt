-- That alias regions mean nothing to the machines, as the contracts of this crate's functions state it. Source: own.
use Rattle.std.specs.Prelude.{◌≡◌, ◌↔◌, ℕ}
use Rattle.clif_types.specs.Signature.{SignatureShape}
use Rattle.clif_types.specs.declared.target.PointerWidth.{PointerWidth}
use Rattle.clif_ir.specs.Body.{Body}
use Rattle.clif_meaning.specs.FunctionMachine.{FunctionRun, function_machine}
use Rattle.clif_meaning.specs.FunctionView.{FunctionView}
use Rattle.clif_meaning.specs.Headline.{MeansTheSame}
use Rattle.clif_meaning.specs.Machine.{observed}
use Rattle.clif_meaning.specs.Request.{Script}
use Rattle.clif_meaning.specs.Typing.{EdgesMatch}
use Rattle.clif_meaning.specs.View.{view_of}
use Rattle.clif_meaning.specs.WellPlaced.{WellPlaced}
use Rattle.clif_region_laws.specs.Regions.{AreAlikeButForRegions, without_regions}

-- What is said of a function as machines see it holds of it without its regions.
pub record RegionsMeanNothing : Type 0 where
  -- a run shows the same after each number of steps, in every world and under either collector
  pub shows : (run : FunctionRun) (n : ℕ)
      → observed (function_machine run) n ≡ observed (function_machine (record run { function = without_regions run.function })) n
  pub means : (script : Script) (signature : SignatureShape) (width : PointerWidth) (function : FunctionView)
      → MeansTheSame script signature width function ↔ MeansTheSame script signature width (without_regions function)
  pub edges : (function : FunctionView) → EdgesMatch function ↔ EdgesMatch (without_regions function)
  pub placed : (function : FunctionView) → WellPlaced function ↔ WellPlaced (without_regions function)

-- So it holds of both of two functions that are alike but for regions, or of neither.
pub record AlikeFunctionsMeanTheSame : Type 0 where
  pub views : (f g : Body) → AreAlikeButForRegions f g → without_regions (view_of f) ≡ without_regions (view_of g)
  pub means : (f g : Body) (script : Script) (signature : SignatureShape) (width : PointerWidth) → AreAlikeButForRegions f g
      → MeansTheSame script signature width (view_of f) → MeansTheSame script signature width (view_of g)
  pub edges : (f g : Body) → AreAlikeButForRegions f g → EdgesMatch (view_of f) → EdgesMatch (view_of g)
  pub placed : (f g : Body) → AreAlikeButForRegions f g → WellPlaced (view_of f) → WellPlaced (view_of g)
