-- A finished function that carries calls keeps its runs in order.
use Rattle.std.proofs.Common.{ℕ, Bool}
use Rattle.clif_types.specs.EntitySet.{has}
use Rattle.clif_records.specs.Tracking.{recorded_of}
use Rattle.clif_meaning.specs.FunctionMachine.{OverSet}
use Rattle.clif_meaning.specs.Request.{script_of}
use Rattle.clif_meaning.specs.View.{view_of}
use Rattle.clif_spilling_laws.proofs.Functions.Typed.{working_run_fits}
use Rattle.clif_value_laws.proofs.CarriedFunctions.{aliases_typed, carried_fit, works}
use Rattle.clif_finished_laws.specs.Laws.{CarryingKeepsInOrder, hiding_function}
use Rattle.clif_finished_laws.proofs.Sparing.{carrying_spares}

pub carrying_keeps_in_order : CarryingKeepsInOrder
carrying_keeps_in_order calls f s width consistent carries finished marks =
    let members : ℕ → Bool = λ v. has (recorded_of s.tracking) v in
    record {
      fits = λ hidden world fits premises.
          working_run_fits (hiding_function (script_of calls) (view_of f) world members hidden)
          (aliases_typed calls f s carries finished.none_waits premises.well_typed) (works calls f s carries finished.none_waits premises.well_typed)
          (carried_fit calls f s carries finished.none_waits premises.well_typed (OverSet members) hidden world fits.arguments) members;
      spares = carrying_spares calls f s width consistent carries finished marks;
    }
