use Rattle.std.proofs.Common.{◌≡◌, ◌<◌, ℕ, List, [], ◌∷◌, Ok, Err, length, get_or, arith, ap, sym, subst, ◌∙◌}
use Rattle.std.proofs.lemmas.Result.{err_from_is_err_and}
use Rattle.clif_builder.specs.declared.builder.FunctionBuilder.{FunctionBuilder}
use Rattle.clif_instructions.specs.Instruction.{result_type_of}
use Rattle.clif_inst_builder.proofs.NoCalls.{one_type}
use Rattle.clif_builder.specs.Built.{BuildsValue}
use Rattle.clif_builder.proofs.Built.{builds_value, builds_value_refused}
use Rattle.clif_builder.proofs.Growing.{current_results}
use Rattle.clif_builder.proofs.Named.{same_builder}
use Rattle.clif_builder.proofs.instructions.FunctionBuilderInstBuilderBase.build_value.Goals as goal

pub bounds-inst_results-0 : goal.bounds-inst_results-0
bounds-inst_results-0 g c =
    let results : c.inst_results.result.now ≡ length c.args.self.now.func.now.values ∷ [] =
    c.inst_results.ensures.exact
    ∙ current_results c.args.self.now c.build.new.self c.args.shape c.args.ctrl_type (result_type_of c.args.shape c.args.ctrl_type) c.in_ok-inst.inst c.requires.current c.in_ok-inst.ensures.built.appends (one_type c.args.self.now.func.now.tables c.args.shape c.args.ctrl_type c.requires.value) in
    let one : length c.inst_results.result.now ≡ 1 = ap (λ (xs : List ℕ). length xs) results in
    omega (arith, one)

pub returns : goal.returns
returns g c =
    let value : ℕ = c.index-inst_results-0.result in
    let results : c.inst_results.result.now ≡ length c.args.self.now.func.now.values ∷ [] =
    c.inst_results.ensures.exact
    ∙ current_results c.args.self.now c.build.new.self c.args.shape c.args.ctrl_type (result_type_of c.args.shape c.args.ctrl_type) c.in_ok-inst.inst c.requires.current c.in_ok-inst.ensures.built.appends (one_type c.args.self.now.func.now.tables c.args.shape c.args.ctrl_type c.requires.value) in
    let is : value ≡ length c.args.self.now.func.now.values =
    c.index-inst_results-0.is ∙ ap (λ (xs : List ℕ). get_or xs 0 value) results in
    let one : length c.inst_results.result.now ≡ 1 = ap (λ (xs : List ℕ). length xs) results in
    let first : get_or c.inst_results.result.now 0 0 ≡ length c.args.self.now.func.now.values = ap (λ (xs : List ℕ). get_or xs 0 0) results in
    let exist : get_or c.inst_results.result.now 0 0 < length c.build.new.self.func.now.values =
    c.inst_results.ensures.exist 0 (omega (arith, one)) in
    let here : value < length c.build.new.self.func.now.values = omega (arith, is, first, exist) in
    record {
      built =
          subst (λ (b : FunctionBuilder _). BuildsValue c.args.self.now b c.args.shape c.args.ctrl_type (Ok value)) (sym (same_builder c.build.new.self _))
          (builds_value c.args.self.now c.build.new.self c.args.shape c.args.ctrl_type c.in_ok-inst.inst value
          c.requires.current c.in_ok-inst.ensures.built c.requires.value.no_branch (one_type c.args.self.now.func.now.tables c.args.shape c.args.ctrl_type c.requires.value) c.requires.value.goes_on is here);
    }

pub returns-in_err-inst : goal.returns-in_err-inst
returns-in_err-inst g c =
    let p = err_from_is_err_and c.from_residual.result c.from_residual.ensures.1 in
    record {
      built =
          subst (λ (b : FunctionBuilder _). BuildsValue c.args.self.now b c.args.shape c.args.ctrl_type c.from_residual.result) (sym (same_builder c.build.new.self _))
          (subst (BuildsValue c.args.self.now c.build.new.self c.args.shape c.args.ctrl_type) (sym (p.1 ∙ ap Err p.2))
          (builds_value_refused c.args.self.now c.build.new.self c.args.shape c.args.ctrl_type c.in_err-inst.field-0.0
          c.requires.value.no_branch (one_type c.args.self.now.func.now.tables c.args.shape c.args.ctrl_type c.requires.value) c.in_err-inst.ensures.built));
    }
