use Rattle.std.proofs.Common.{◌≡◌, ◌∙◌, ℕ, ap, inl, inr, length, subst, sym}
use Rattle.std.proofs.lemmas.Result.{err_from_is_err_and}
use Rattle.clif_tables.specs.Lists.{TableLists}
use Rattle.clif_types.specs.declared.types.«Type».{«Type»}
use Rattle.std.specs.Prelude.{Result, Ok, Err, OnErr}
use Rattle.clif_ir.specs.Body.{Body}
use Rattle.clif_ir.specs.Changes.{inserted_in}
use Rattle.clif_ssa.specs.Pools.{LacksZero, MayPool}
use Rattle.clif_ssa.specs.Ssa.{HasSomeSteps, with_steps}
use Rattle.clif_ssa.specs.Zeros.{with_pooled, with_zeros, zero_size, zero_steps}
use Rattle.clif_ssa.proofs.Pooled.{pooled_constant}
use Rattle.clif_ssa.proofs.Completing.{inserted_same}
use Rattle.clif_ssa.proofs.Constructing.{constructs_same}
use Rattle.clif_ssa.proofs.Constructed.{inserted_made, some_steps_made, with_zero_made, with_zero_told}
use Rattle.clif_ssa.proofs.PuttingSteps.{full_before}
use Rattle.clif_ssa.proofs.ZeroSteps.{IsLatestZero, latest_zero, put_zero}
use Rattle.clif_ssa.proofs.zeros.put_zero.Goals as goal

pub returns-in_err-ensure_block_inserted-clause-constructs :
    goal.returns-in_err-ensure_block_inserted-clause-constructs
returns-in_err-ensure_block_inserted-clause-constructs c = constructs_same c.args.func.now c.ensure_block_inserted.new.self c.in_err-ensure_block_inserted.ensures.err

-- the zero is put into the function with its block in the layout
put : (g p h : Body) (b : ℕ) (ty : «Type») → p ≡ with_pooled g ty → h ≡ with_steps p b (zero_steps ty) → h ≡ put_zero g b ty
put g p h b ty pooled is = is ∙ ap (λ (k : Body). with_steps k b (zero_steps ty)) pooled

pub put_steps-requires-clause-pooled : goal.put_steps-requires-clause-pooled
put_steps-requires-clause-pooled c =
    pooled_constant c.ensure_block_inserted.new.self c.pool_zeros.new.func c.args.ty c.in_ok-constant.constant c.in_ok-constant.ensures.ok c.in_ok-constant.ensures.number

pub returns-clause-ok : goal.returns-clause-ok
returns-clause-ok c =
    put c.ensure_block_inserted.new.self c.pool_zeros.new.func c.put_steps.new.func c.args.block c.args.ty c.in_ok-constant.ensures.ok c.in_ok-put_steps.ensures.ok
    ∙ ap (λ (g : Body). put_zero g c.args.block c.args.ty) c.in_ok-ensure_block_inserted.ensures.ok

pub returns-clause-constructs : goal.returns-clause-constructs
returns-clause-constructs c =
    with_zero_made c.args.func.now c.ensure_block_inserted.new.self c.put_steps.new.func c.args.block c.args.ty c.in_ok-ensure_block_inserted.ensures.ok
    (put c.ensure_block_inserted.new.self c.pool_zeros.new.func c.put_steps.new.func c.args.block c.args.ty c.in_ok-constant.ensures.ok c.in_ok-put_steps.ensures.ok)

pub returns-clause-tells : goal.returns-clause-tells
returns-clause-tells c =
    with_zero_told c.args.func.now c.ensure_block_inserted.new.self c.put_steps.new.func c.args.block c.args.ty c.in_ok-ensure_block_inserted.ensures.ok
    (put c.ensure_block_inserted.new.self c.pool_zeros.new.func c.put_steps.new.func c.args.block c.args.ty c.in_ok-constant.ensures.ok c.in_ok-put_steps.ensures.ok)

pub returns-in_err-put_steps-clause-constructs : goal.returns-in_err-put_steps-clause-constructs
returns-in_err-put_steps-clause-constructs c =
    some_steps_made c.args.func.now c.ensure_block_inserted.new.self c.pool_zeros.new.func c.put_steps.new.func c.args.block c.args.ty c.in_ok-ensure_block_inserted.ensures.ok
    c.in_ok-constant.ensures.ok c.in_err-put_steps.ensures.err

-- the value that is answered
latest : (c : goal.After-latest_value) → IsLatestZero c.args.func.now c.put_steps.new.func c.args.ty c.latest_value.result
latest c =
    latest_zero c.args.func.now c.ensure_block_inserted.new.self c.put_steps.new.func c.args.block c.latest_value.result c.args.ty
    (ap (λ (g : Body). length g.values) c.in_ok-ensure_block_inserted.ensures.ok ∙ ap length (inserted_same c.args.func.now c.args.block).values)
    (put c.ensure_block_inserted.new.self c.pool_zeros.new.func c.put_steps.new.func c.args.block c.args.ty c.in_ok-constant.ensures.ok c.in_ok-put_steps.ensures.ok) c.latest_value.ensures

pub returns-clause-number : goal.returns-clause-number
returns-clause-number c = (latest c).number

pub returns-clause-exists : goal.returns-clause-exists
returns-clause-exists c = (latest c).exists

pub returns-clause-unaliased : goal.returns-clause-unaliased
returns-clause-unaliased c = (latest c).unaliased

-- what is so is so on an error
on_err : {X E P : Type 0} (r : Result X E) → P → OnErr r P
on_err (Ok x) is = tt
on_err (Err e) is = is

pub returns-in_err-ensure_block_inserted-clause-err : goal.returns-in_err-ensure_block_inserted-clause-err
returns-in_err-ensure_block_inserted-clause-err c = on_err c.from_residual.result (inl c.in_err-ensure_block_inserted.ensures.err)

pub returns-in_err-put_steps-clause-err : goal.returns-in_err-put_steps-clause-err
returns-in_err-put_steps-clause-err c =
    on_err c.from_residual-in_err-put_steps.result
    (inr (inr (subst (λ (g : Body). HasSomeSteps g c.put_steps.new.func c.args.block c.args.ty)
    (c.in_ok-constant.ensures.ok ∙ ap (λ (g : Body). with_pooled g c.args.ty) c.in_ok-ensure_block_inserted.ensures.ok) c.in_err-put_steps.ensures.err)))

pub returns-in_err-constant-clause-err : goal.returns-in_err-constant-clause-err
returns-in_err-constant-clause-err c =
    on_err c.from_residual-in_err-constant.result (inr (inl (c.in_err-constant.ensures.err ∙ c.in_ok-ensure_block_inserted.ensures.ok)))

pub returns-in_err-constant-clause-constructs : goal.returns-in_err-constant-clause-constructs
returns-in_err-constant-clause-constructs c =
    inserted_made c.args.func.now c.pool_zeros.new.func c.args.block (c.in_err-constant.ensures.err ∙ c.in_ok-ensure_block_inserted.ensures.ok)

-- WHICH CONSTANTS -------------------------------------------------------------------------------------------------

pub returns-in_err-ensure_block_inserted-clause-pools : goal.returns-in_err-ensure_block_inserted-clause-pools
returns-in_err-ensure_block_inserted-clause-pools c = inl (ap (λ (g : Body). g.tables) c.in_err-ensure_block_inserted.ensures.err)

pub returns-in_err-constant-clause-pools : goal.returns-in_err-constant-clause-pools
returns-in_err-constant-clause-pools c =
    inl (ap (λ (g : Body). g.tables) (c.in_err-constant.ensures.err ∙ c.in_ok-ensure_block_inserted.ensures.ok) ∙ (inserted_same c.args.func.now c.args.block).tables)

-- the constant is there, whatever steps are
pooled : (f g p : Body) (b : ℕ) (ty : «Type») → g ≡ inserted_in f b → p ≡ with_pooled g ty → MayPool ty f.tables p.tables
pooled f g p b ty inserted is =
    inr (ap (λ (k : Body). k.tables) is
    ∙ ap (λ (t : TableLists). with_zeros t (zero_size ty)) (ap (λ (k : Body). k.tables) inserted ∙ (inserted_same f b).tables))

pub returns-in_err-put_steps-clause-pools : goal.returns-in_err-put_steps-clause-pools
returns-in_err-put_steps-clause-pools c =
    subst (λ (t : TableLists). MayPool c.args.ty c.args.func.now.tables t) (sym (ap (λ (g : Body). g.tables) c.in_err-put_steps.ensures.err.2))
    (pooled c.args.func.now c.ensure_block_inserted.new.self c.pool_zeros.new.func c.args.block c.args.ty c.in_ok-ensure_block_inserted.ensures.ok c.in_ok-constant.ensures.ok)

pub returns-clause-pools : goal.returns-clause-pools
returns-clause-pools c =
    subst (λ (t : TableLists). MayPool c.args.ty c.args.func.now.tables t) (sym (ap (λ (g : Body). g.tables) c.in_ok-put_steps.ensures.ok))
    (pooled c.args.func.now c.ensure_block_inserted.new.self c.pool_zeros.new.func c.args.block c.args.ty c.in_ok-ensure_block_inserted.ensures.ok c.in_ok-constant.ensures.ok)

pub returns-in_err-constant-clause-full : goal.returns-in_err-constant-clause-full
returns-in_err-constant-clause-full c = λ is.
    let p = err_from_is_err_and c.from_residual-in_err-constant.result c.from_residual-in_err-constant.ensures.1 in
    inr (subst (LacksZero c.args.ty) (sym c.in_err-constant.ensures.err)
    (c.in_err-constant.ensures.full (full_before c.from_residual-in_err-constant.result c.in_err-constant.field-0.0 p.0 is p.1 p.2)))

pub returns-in_err-put_steps-clause-full : goal.returns-in_err-put_steps-clause-full
returns-in_err-put_steps-clause-full c = λ is.
    let p = err_from_is_err_and c.from_residual-in_err-put_steps.result c.from_residual-in_err-put_steps.ensures.1 in
    inl (c.in_err-put_steps.ensures.full (full_before c.from_residual-in_err-put_steps.result c.in_err-put_steps.field-0.0 p.0 is p.1 p.2))
