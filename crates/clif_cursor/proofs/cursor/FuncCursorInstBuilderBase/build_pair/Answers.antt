use Rattle.std.proofs.Common.{◌≡◌, ℕ, List, [], ◌∷◌, ◌+◌, Ok, Err, length, ap, sym, subst, ◌∙◌}
use Rattle.std.proofs.lemmas.Result.{err_from_is_err_and}
use Rattle.clif_types.specs.declared.types.«Type».{«Type»}
use Rattle.clif_cursor.specs.Cursor.{BuildsPair}
use Rattle.clif_cursor.proofs.Appended.{both_below, builds_pair, builds_pair_refused, two_results}
use Rattle.clif_cursor.proofs.cursor.FuncCursorInstBuilderBase.build_pair.Goals as goal

pub both_values-requires : goal.both_values-requires
both_values-requires c =
    ap (λ (xs : List ℕ). length xs)
    (c.inst_results.ensures.exact ∙ two_results c.args.self.now c.build.new.self c.args.shape c.value_type-ty.result c.in_ok-inst.inst c.requires.pair c.in_ok-inst.ensures.built)

pub returns-in_err-inst : goal.returns-in_err-inst
returns-in_err-inst c =
    let p = err_from_is_err_and c.from_residual.result c.from_residual.ensures.1 in
    record {
      built =
          subst (λ (ty : «Type»). BuildsPair c.args.self.now c.build.new.self c.args.shape ty c.from_residual.result) c.value_type-ty.ensures
          (subst (BuildsPair c.args.self.now c.build.new.self c.args.shape c.value_type-ty.result) (sym (p.1 ∙ ap Err p.2))
          (builds_pair_refused c.args.self.now c.build.new.self c.args.shape c.value_type-ty.result c.in_err-inst.field-0.0 c.in_err-inst.ensures.built));
    }

pub returns : goal.returns
returns c =
    let pair : ℕ × ℕ = c.both_values.result in
    let results : c.inst_results.result.now ≡ length c.args.self.now.func.now.values ∷ (length c.args.self.now.func.now.values + 1) ∷ [] =
    c.inst_results.ensures.exact ∙ two_results c.args.self.now c.build.new.self c.args.shape c.value_type-ty.result c.in_ok-inst.inst c.requires.pair c.in_ok-inst.ensures.built in
    record {
      built =
          subst (λ (ty : «Type»). BuildsPair c.args.self.now c.build.new.self c.args.shape ty (Ok pair)) c.value_type-ty.ensures
          (builds_pair c.args.self.now c.build.new.self c.args.shape c.value_type-ty.result c.in_ok-inst.inst pair c.requires.pair c.in_ok-inst.ensures.built
          (sym c.both_values.ensures ∙ results)
          (both_below c.inst_results.result.now pair.0 pair.1 (length c.build.new.self.func.now.values) c.both_values.ensures c.inst_results.ensures.exist));
    }
