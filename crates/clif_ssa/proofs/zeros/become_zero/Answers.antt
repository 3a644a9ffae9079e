use Rattle.std.proofs.Common.{◌∷◌, [], ap, arith, inl, refl, rules, subst}
use Rattle.std.proofs.lemmas.Result.{err_from_is_err_and}
use Rattle.clif_ir.specs.Body.{Body}
use Rattle.clif_ssa.specs.Pools.{MayPool, UseIsFull}
use Rattle.clif_ssa.specs.Constructs.{OnlyConstructs}
use Rattle.clif_ssa.proofs.Constructing.{constructs_none, constructs_same, constructs_then, tells_then}
use Rattle.clif_ssa.proofs.Constructed.{alias_made, alias_told, param_is, zero_param}
use Rattle.clif_ssa.proofs.Counted.{adds_alias, adds_more, adds_same, adds_some, adds_then, adds_zero}
use Rattle.clif_ssa.proofs.Pooling.{pool_same}
use Rattle.clif_ssa.proofs.PuttingSteps.{full_before}
use Rattle.clif_ssa.proofs.zeros.become_zero.Goals as goal

pub returns-in_default-clause-constructs : goal.returns-in_default-clause-constructs
returns-in_default-clause-constructs c = constructs_none c.args.func.now

pub change_param_to_alias-requires-clause-is_param :
    goal.change_param_to_alias-requires-clause-is_param
change_param_to_alias-requires-clause-is_param c =
    param_is c.put_zero.new.func c.args.param c.in-Some.block
    (zero_param c.args.func.now c.put_zero.new.func c.args.param c.in-Some.block c.value_type.result (search rules) c.in_ok-value.ensures.ok)

pub returns-in_err-change_param_to_alias-clause-constructs : goal.returns-in_err-change_param_to_alias-clause-constructs
returns-in_err-change_param_to_alias-clause-constructs c =
    constructs_then c.args.func.now c.put_zero.new.func c.change_param_to_alias.new.self c.put_zero.ensures.constructs
    (constructs_same c.put_zero.new.func c.change_param_to_alias.new.self c.in_err-change_param_to_alias.ensures.err)

-- what the alias makes
made : (c : goal.In_ok-change_param_to_alias) → OnlyConstructs c.put_zero.new.func c.change_param_to_alias.new.self
made c =
    alias_made c.put_zero.new.func c.change_param_to_alias.new.self c.args.param c.in_ok-value.value c.law_consistent.ensures
    (param_is c.put_zero.new.func c.args.param c.in-Some.block
    (zero_param c.args.func.now c.put_zero.new.func c.args.param c.in-Some.block c.value_type.result (search rules) c.in_ok-value.ensures.ok))
    c.in_ok-change_param_to_alias.ensures.ok

pub returns-clause-constructs : goal.returns-clause-constructs
returns-clause-constructs c = constructs_then c.args.func.now c.put_zero.new.func c.change_param_to_alias.new.self c.put_zero.ensures.constructs (made c)

pub returns-clause-tells : goal.returns-clause-tells
returns-clause-tells c =
    tells_then c.args.func.now c.put_zero.new.func c.change_param_to_alias.new.self (c.in-Some.block ∷ []) [] (made c) c.in_ok-value.ensures.tells
    (alias_told c.put_zero.new.func c.change_param_to_alias.new.self c.args.param c.in_ok-value.value c.in_ok-change_param_to_alias.ensures.ok)

-- HOW MUCH IS NEW -------------------------------------------------------------------------------------------------

pub returns-in_default-clause-at_most : goal.returns-in_default-clause-at_most
returns-in_default-clause-at_most c = adds_more 0 2 c.args.func.now c.args.func.now (omega arith) (adds_same c.args.func.now c.args.func.now refl)

pub returns-in_err-value-clause-at_most : goal.returns-in_err-value-clause-at_most
returns-in_err-value-clause-at_most c = adds_some c.args.func.now c.put_zero.new.func c.in-Some.block c.value_type.result c.in_err-value.ensures.err

pub returns-in_err-change_param_to_alias-clause-at_most : goal.returns-in_err-change_param_to_alias-clause-at_most
returns-in_err-change_param_to_alias-clause-at_most c =
    adds_then 2 0 c.args.func.now c.put_zero.new.func c.change_param_to_alias.new.self
    (adds_zero c.args.func.now c.put_zero.new.func c.in-Some.block c.value_type.result c.in_ok-value.ensures.ok)
    (adds_same c.put_zero.new.func c.change_param_to_alias.new.self c.in_err-change_param_to_alias.ensures.err)

pub returns-clause-at_most : goal.returns-clause-at_most
returns-clause-at_most c =
    adds_then 2 0 c.args.func.now c.put_zero.new.func c.change_param_to_alias.new.self
    (adds_zero c.args.func.now c.put_zero.new.func c.in-Some.block c.value_type.result c.in_ok-value.ensures.ok)
    (adds_alias c.put_zero.new.func c.change_param_to_alias.new.self c.args.param c.in_ok-value.value c.in_ok-change_param_to_alias.ensures.ok)

-- WHICH CONSTANTS -------------------------------------------------------------------------------------------------

pub returns-in_default-clause-pools : goal.returns-in_default-clause-pools
returns-in_default-clause-pools c = inl refl

pub returns-in_err-value-clause-pools : goal.returns-in_err-value-clause-pools
returns-in_err-value-clause-pools c =
    subst (λ ty. MayPool ty c.args.func.now.tables c.put_zero.new.func.tables) c.value_type.ensures c.put_zero.ensures.pools

pub returns-in_err-change_param_to_alias-clause-pools : goal.returns-in_err-change_param_to_alias-clause-pools
returns-in_err-change_param_to_alias-clause-pools c =
    pool_same _ _ _ _
    (subst (λ ty. MayPool ty c.args.func.now.tables c.put_zero.new.func.tables) c.value_type.ensures c.put_zero.ensures.pools)
    (ap (λ (g : Body). g.tables) c.in_err-change_param_to_alias.ensures.err)

pub returns-clause-pools : goal.returns-clause-pools
returns-clause-pools c =
    pool_same _ _ _ _
    (subst (λ ty. MayPool ty c.args.func.now.tables c.put_zero.new.func.tables) c.value_type.ensures c.put_zero.ensures.pools)
    (ap (λ (g : Body). g.tables) c.in_ok-change_param_to_alias.ensures.ok)

pub returns-in_err-value-clause-full : goal.returns-in_err-value-clause-full
returns-in_err-value-clause-full c = λ is.
    let p = err_from_is_err_and c.from_residual.result c.from_residual.ensures.1 in
    subst (λ ty. UseIsFull ty c.put_zero.new.func) c.value_type.ensures
    (c.in_err-value.ensures.full (full_before c.from_residual.result c.in_err-value.field-0.0 p.0 is p.1 p.2))
