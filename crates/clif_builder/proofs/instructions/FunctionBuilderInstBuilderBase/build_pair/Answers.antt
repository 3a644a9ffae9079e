use Rattle.std.proofs.Common.{◌≡◌, ℕ, List, [], ◌∷◌, Ok, Err, length, ap, sym, subst, ◌∙◌}
use Rattle.std.proofs.lemmas.Result.{err_from_is_err_and}
use Rattle.clif_types.specs.declared.types.«Type».{«Type»}
use Rattle.clif_inst_builder.proofs.NoCalls.{two_results}
use Rattle.clif_ir.specs.Body.{inst_at, value_at}
use Rattle.clif_builder.specs.declared.builder.FunctionBuilder.{FunctionBuilder}
use Rattle.clif_builder.specs.Built.{Builds, BuildsPair}
use Rattle.clif_builder.proofs.Built.{both_below, builds_pair, builds_pair_refused}
use Rattle.clif_builder.proofs.Named.{same_builder}
use Rattle.clif_builder.proofs.instructions.FunctionBuilderInstBuilderBase.build_pair.Goals as goal

pub both_values-requires : goal.both_values-requires
both_values-requires g c =
    let built : Builds c.args.self.now c.build.new.self c.args.shape c.value_type-ty.result (Ok c.in_ok-inst.inst) =
    subst (λ (b : FunctionBuilder _). Builds b c.build.new.self c.args.shape c.value_type-ty.result (Ok c.in_ok-inst.inst)) (same_builder c.args.self.now _) c.in_ok-inst.ensures.built in
    ap (λ (xs : List ℕ). length xs) c.inst_results.ensures.exact
    ∙ built.results ∙ two_results c.args.self.now.func.now.tables c.args.shape c.requires.pair

pub returns-in_err-inst : goal.returns-in_err-inst
returns-in_err-inst g c =
    let p = err_from_is_err_and c.from_residual.result c.from_residual.ensures.1 in
    let built : Builds c.args.self.now c.build.new.self c.args.shape c.value_type-ty.result (Err c.in_err-inst.field-0.0) =
    subst (λ (b : FunctionBuilder _). Builds b c.build.new.self c.args.shape c.value_type-ty.result (Err c.in_err-inst.field-0.0)) (same_builder c.args.self.now _) c.in_err-inst.ensures.built in
    record {
      built =
          subst (λ (ty : «Type»). BuildsPair c.args.self.now c.build.new.self c.args.shape ty c.from_residual.result) c.value_type-ty.ensures
          (subst (BuildsPair c.args.self.now c.build.new.self c.args.shape c.value_type-ty.result) (sym (p.1 ∙ ap Err p.2))
          (builds_pair_refused c.args.self.now c.build.new.self c.args.shape c.value_type-ty.result c.in_err-inst.field-0.0
          c.requires.pair.no_branch (two_results c.args.self.now.func.now.tables c.args.shape c.requires.pair) built));
    }

pub returns : goal.returns
returns g c =
    let built : Builds c.args.self.now c.build.new.self c.args.shape c.value_type-ty.result (Ok c.in_ok-inst.inst) =
    subst (λ (b : FunctionBuilder _). Builds b c.build.new.self c.args.shape c.value_type-ty.result (Ok c.in_ok-inst.inst)) (same_builder c.args.self.now _) c.in_ok-inst.ensures.built in
    let pair : ℕ × ℕ = c.both_values.result in
    let are : (inst_at c.build.new.self.func.now c.in_ok-inst.inst).results ≡ pair.0 ∷ pair.1 ∷ [] = sym c.inst_results.ensures.exact ∙ c.both_values.ensures in
    record {
      built =
          subst (λ (b : FunctionBuilder _). BuildsPair c.args.self.now b c.args.shape (value_at c.args.self.now.func.now c.args.like).ty (Ok pair)) (sym (same_builder c.build.new.self _))
          (subst (λ (ty : «Type»). BuildsPair c.args.self.now c.build.new.self c.args.shape ty (Ok pair)) c.value_type-ty.ensures
          (builds_pair c.args.self.now c.build.new.self c.args.shape c.value_type-ty.result c.in_ok-inst.inst pair
          c.requires.current built c.requires.pair.no_branch c.requires.pair.no_call (two_results c.args.self.now.func.now.tables c.args.shape c.requires.pair) c.requires.pair.goes_on are
          (both_below c.inst_results.result.now pair.0 pair.1 (length c.build.new.self.func.now.values) c.both_values.ensures c.inst_results.ensures.exist)));
    }
