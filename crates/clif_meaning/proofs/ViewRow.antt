-- The function of the row `first`, as the builder leaves it, means what the row's script means.
use Rattle.std.proofs.Common.{◌≡◌, ◌<◌, ℕ, zero, suc, refl, arith}
use Rattle.clif_types.specs.declared.target.PointerWidth.TheVariants.{U64}
use Rattle.clif_ir.specs.Body.{follow}
use Rattle.clif_meaning.specs.World.{World}
use Rattle.clif_meaning.specs.FunctionMachine.{ByMaps}
use Rattle.clif_meaning.specs.FunctionView.{FunctionView}
use Rattle.clif_meaning.specs.Headline.{script_run, function_run, script_behaviour, function_behaviour, MeansTheSame}
use Rattle.clif_meaning.specs.View.{view_of}
use Rattle.clif_meaning.specs.Examples.{first_script, first_signature}
use Rattle.clif_meaning.specs.ViewExamples.{first_body}
use Rattle.clif_meaning.proofs.Endings
use Rattle.clif_meaning.proofs.FirstPremises.{shows_all}

abbrev view : FunctionView
view = view_of first_body

script_before : (world : World) (n : ℕ) → n < 6 → script_behaviour first_script view world n ≡ function_behaviour first_script view world 0
script_before world zero h = refl
script_before world (suc zero) h = refl
script_before world (suc (suc zero)) h = refl
script_before world (suc (suc (suc zero))) h = refl
script_before world (suc (suc (suc (suc zero)))) h = refl
script_before world (suc (suc (suc (suc (suc zero))))) h = refl
script_before world (suc (suc (suc (suc (suc (suc n)))))) h = absurd (omega arith)

function_before : (world : World) (n : ℕ) → n < 4 → function_behaviour first_script view world n ≡ script_behaviour first_script view world 0
function_before world zero h = refl
function_before world (suc zero) h = refl
function_before world (suc (suc zero)) h = refl
function_before world (suc (suc (suc zero))) h = refl
function_before world (suc (suc (suc (suc n)))) h = absurd (omega arith)

pub same : MeansTheSame first_script first_signature U64 view
unfolding follow
same world fits premises = record {
  there = shows_all (script_behaviour first_script view world) (function_behaviour first_script view world) 6 4
      (Endings.script_stays (script_run first_script view world)) tt (script_before world) refl;
  back = shows_all (function_behaviour first_script view world) (script_behaviour first_script view world) 4 6
      (Endings.function_stays (function_run first_script view world ByMaps)) tt (function_before world) refl;
}
