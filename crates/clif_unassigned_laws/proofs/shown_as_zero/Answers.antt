use Rattle.std.proofs.Common.{refl}
use Rattle.clif_meaning.specs.Headline.{function_behaviour, script_run}
use Rattle.clif_unassigned_laws.proofs.Shown.{shows_zero}
use Rattle.clif_unassigned_laws.proofs.shown_as_zero.Goals as goal

pub returns : goal.returns
returns c = λ script signature width function means world fits premises.
    shows_zero (script_run script function world) (function_behaviour script function world) (means world fits premises) script refl
