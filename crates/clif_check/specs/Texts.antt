-- What the errors of the check print. Source: own.
use Rattle.std.specs.Prelude.{ℕ, List, ◌++◌, codes}
use Rattle.std.specs.Fmt.{decimal}
use Rattle.clif_check.specs.declared.error.CheckError.{CheckError}
use Rattle.clif_check.specs.declared.error.CheckErrorKind.{CheckErrorKind}
use Rattle.clif_check.specs.declared.error.CheckErrorKind.TheVariants.{Operand, Arguments, Return, Edge}

abbrev pub kind_text : CheckErrorKind → List ℕ
kind_text Operand = codes "an operand's type"
kind_text Arguments = codes "the arguments of a call"
kind_text Return = codes "the returned values"
kind_text Edge = codes "the arguments of an edge"

abbrev pub check_error_text : CheckError → List ℕ
check_error_text error = codes "inst" ++ decimal error.inst ++ codes ": " ++ kind_text error.kind
