use Rattle.std.proofs.Common.{◌≡◌, ◌<◌, ℕ, ◌∷◌, [], arith, length, subst, sym}
use Rattle.std.specs.Prelude.{slice_index_or}
use Rattle.clif_builder.specs.declared.builder.FunctionBuilder.{FunctionBuilder}
use Rattle.start_here.proofs.square.Goals as goal

-- the product exists in the builder that returns it
pub return_-requires-clause-values_exist : goal.return_-requires-clause-values_exist
return_-requires-clause-values_exist c = λ k d first.
    let e : k ≡ 0 = omega (arith, first) in
    let made : c.in_ok-product.product < length c.builder-9-1.given.0.func.now.values =
    subst (λ (b : FunctionBuilder _). c.in_ok-product.product < length b.func.now.values) (sym (c.builder-9-1.given.1 (sym c.ins.ensures.same))) c.in_ok-product.ensures.built.exists in
    let here : c.in_ok-product.product < length c.ins-2.result.now.func.now.values =
    subst (λ (b : FunctionBuilder _). c.in_ok-product.product < length b.func.now.values) (sym c.ins-2.ensures.builder) made in
    subst (λ (j : ℕ). slice_index_or {A = ℕ} (c.in_ok-product.product ∷ []) j d < length c.ins-2.result.now.func.now.values) (sym e) here
