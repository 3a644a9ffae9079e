-- What the errors of the builder print. Source: the texts of upstream's panics, for a block that isn't finished, and of
-- its errors, for a variable; the others are own.
use Rattle.std.specs.Prelude.{ℕ, List, ◌++◌, ◌∷◌, codes}
use Rattle.std.specs.Fmt.{decimal}
use Rattle.clif_types.specs.declared.error.BuildError.{BuildError}
use Rattle.clif_types.specs.declared.error.BuildError.TheVariants as build_error
use Rattle.clif_builder.specs.declared.error.DefVariableError.{DefVariableError}
use Rattle.clif_builder.specs.declared.error.DefVariableError.TheVariants.{DefinedBeforeDeclared, TypeMismatch}
use Rattle.clif_builder.specs.declared.error.UseVariableError.{UseVariableError}
use Rattle.clif_builder.specs.declared.error.UseVariableError.TheVariants.{UsedBeforeDeclared}
use Rattle.clif_builder.specs.declared.error.FinalizeError.{FinalizeError}
use Rattle.clif_builder.specs.declared.error.FinalizeError.TheVariants.{Unsealed, Unfilled, TrackedContext, Memory, Full, Failed}

abbrev pub finalize_error_text : FinalizeError → List ℕ
finalize_error_text (Unsealed block) = codes "FunctionBuilder finalized, but block block" ++ decimal block ++ codes " is not sealed"
finalize_error_text (Unfilled block) = codes "FunctionBuilder finalized, but block block" ++ decimal block ++ codes " is not filled"
finalize_error_text (TrackedContext inst) = codes "the context of inst" ++ decimal inst ++ codes " is a tracked value"
finalize_error_text Memory = codes "no memory"
finalize_error_text Full = codes "table full"
finalize_error_text Failed = codes "failed before"

-- why a function isn't finished, if a call failed with this error
abbrev pub failure_of : BuildError → FinalizeError
failure_of build_error.Memory = Memory
failure_of build_error.Full = Full
failure_of build_error.Failed = Failed

abbrev pub use_variable_error_text : UseVariableError → List ℕ
use_variable_error_text (UsedBeforeDeclared variable) = codes "variable " ++ decimal variable ++ codes " was used before it was defined"

-- the second and the third line, which are indented by twenty spaces
abbrev pub supplied_text : List ℕ
supplied_text =
    10 ∷ (codes "                    The `Value` supplied to `def_var` must be of the same type as"
    ++ 10 ∷ codes "                    the variable was declared to be of in `declare_var`.")

abbrev pub def_variable_error_text : DefVariableError → List ℕ
def_variable_error_text (TypeMismatch variable value) =
    codes "the types of variable " ++ (decimal variable ++ (codes " and value " ++ (decimal value ++ (codes " are not the same." ++ supplied_text))))
def_variable_error_text (DefinedBeforeDeclared variable) =
    codes "the value of variable " ++ (decimal variable ++ codes " was declared before it was defined")
