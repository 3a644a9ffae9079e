use Rattle.std.proofs.Common.{arith, ◌≡◌, ◌^◌, ◌<◌, [], ◌∷◌, refl}
use Rattle.clif_meaning.specs.Examples.{first_function, first_script, first_signature, i8, i32}
use Rattle.clif_meaning.specs.Name.{answer_of}
use Rattle.clif_meaning.proofs.FirstPremises
use Rattle.clif_value_laws.specs.FittingExamples.{bytes, row_run}
use Rattle.clif_value_laws.proofs.AcceptedScripts
use Rattle.clif_typed_runs.proofs.FunctionSteps
use Rattle.clif_typed_runs.proofs.ScriptSteps
use Rattle.clif_value_laws.proofs.SumRow
use Rattle.clif_value_laws.proofs.fitting_examples.Goals as goal

pub returns : goal.returns
returns c world = record {
  typed = SumRow.sum_typed world;
  fits = FunctionSteps.runs_fit (bytes world) (SumRow.sum_typed world) 1;
  too_wide = λ fits. let below : 300 < 2 ^ 8 = fits.values 0 in omega (arith, below);
  returned_too_wide = λ fits. let below : 300 < 2 ^ 8 = fits.returned.0 in omega (arith, below);
  returned_twice = λ fits. fits.returned.1;
  wide_argument = λ typed. let below : 300 < 2 ^ 8 = typed.arguments.0 in omega (arith, below);
  wide_result = λ typed. let items = typed.items 0 in let same : i32 ∷ [] ≡ i8 ∷ [] = items.0.gives in cc;
  script_fits = record { variables = λ v. omega arith; names = λ x. omega arith; returned = tt };
  script_too_wide = λ fits. let below : 256 < 2 ^ 8 = fits.variables 0 in omega (arith, below);
  names_too_wide = λ fits. let below : 2 ^ 32 < 2 ^ 32 = fits.names (answer_of 0 0) in omega (arith, below);
  row =
      let empty = record world { arguments = [] } in
      ScriptSteps.runs_fit (row_run world) first_signature
      (AcceptedScripts.runs_typed first_script first_signature first_function empty refl (FirstPremises.first_premises empty).well_typed tt);
}
