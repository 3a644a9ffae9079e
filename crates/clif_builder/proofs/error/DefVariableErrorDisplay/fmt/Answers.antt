use Rattle.std.proofs.Common.{ℕ, ◌++◌, sym, subst}
use Rattle.std.specs.Prelude.{codes}
use Rattle.std.specs.Fmt.{HasWritten, decimal}
use Rattle.clif_builder.specs.Errors.{def_variable_error_text, supplied_text}
use Rattle.clif_builder.specs.declared.error.DefVariableError.{DefVariableError}
use Rattle.clif_builder.proofs.error.DefVariableErrorDisplay.fmt.Goals as goal

pub returns-in-TypeMismatch-clause-writes : goal.returns-in-TypeMismatch-clause-writes
returns-in-TypeMismatch-clause-writes g c = λ plain ok.
    let told = c.write.ensures.writes plain ok in
    subst (λ (e : DefVariableError). HasWritten g.W.Write.write_str_gives c.args.f.now (def_variable_error_text e) c.write.new.self) (sym c.in-TypeMismatch.is)
    (subst (λ (n : ℕ). HasWritten g.W.Write.write_str_gives c.args.f.now (codes "the types of variable " ++ (decimal n ++ (codes " and value " ++ (decimal c.in-TypeMismatch.value ++ (codes " are not the same." ++ supplied_text))))) c.write.new.self) c.index-variable.ensures.number
    (subst (λ (n : ℕ). HasWritten g.W.Write.write_str_gives c.args.f.now (codes "the types of variable " ++ (decimal c.index-variable.result ++ (codes " and value " ++ (decimal n ++ (codes " are not the same." ++ supplied_text))))) c.write.new.self) c.index-value.ensures.place told))

pub returns-in-DefinedBeforeDeclared-clause-writes : goal.returns-in-DefinedBeforeDeclared-clause-writes
returns-in-DefinedBeforeDeclared-clause-writes g c = λ plain ok.
    let told = c.write-in-DefinedBeforeDeclared.ensures.writes plain ok in
    subst (λ (e : DefVariableError). HasWritten g.W.Write.write_str_gives c.args.f.now (def_variable_error_text e) c.write-in-DefinedBeforeDeclared.new.self) (sym c.in-DefinedBeforeDeclared.is)
    (subst (λ (n : ℕ). HasWritten g.W.Write.write_str_gives c.args.f.now (codes "the value of variable " ++ (decimal n ++ codes " was declared before it was defined")) c.write-in-DefinedBeforeDeclared.new.self) c.index-number.ensures.number told)
