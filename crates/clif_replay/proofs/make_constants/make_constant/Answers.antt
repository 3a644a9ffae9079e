use Rattle.std.proofs.Common.{refl, ap, subst, ◌∙◌, sym, inl, inr, []}
use Rattle.std.specs.Prelude.{Bool, ◌&&◌}
use Rattle.std.proofs.lemmas.Result.{err_from_is_err_and}
use Rattle.clif_ssa.specs.Limits.{IsFull}
use Rattle.clif_meaning.specs.Acceptance.{has_bytes}
use Rattle.clif_builder.specs.Context.{ContextState}
use Rattle.clif_resolution.specs.declared.answers.Answer.TheVariants as answer
use Rattle.clif_replay.proofs.Making.{answered-sound, full-either, made-answer, made-between, made-misuse, made-refused}
use Rattle.clif_replay.proofs.ReadyLaws.{ready-more}
use Rattle.clif_replay.proofs.Conditions.{has-current, pooled-same}
use Rattle.clif_replay.proofs.Constants.{constant-allowed, constant-count, constant-shape, pooled-open, pooled-ready}
use Rattle.clif_replay.proofs.make_constants.make_constant.Goals as goal

pub pool-requires : goal.pool-requires
pool-requires g c =
    has-current c.requires.sound.calls c.args.builder.now c.args.answers.now c.requires.sound.ready (sym c.has_current.ensures ∙ c.if-not-has_current.false)

pub returns-then-not-has_current : goal.returns-then-not-has_current
returns-then-not-has_current g c =
    made-misuse c.args.builder.now c.args.answers.now (λ naming declared calls ready. pooled-same calls c.args.builder.now c.args.answers.now ready c.args.opcode c.args.ty c.args.bytes.now
    ∙ ap (λ (opens : Bool). opens && has_bytes c.args.opcode c.args.ty c.args.bytes.now) (sym c.has_current.ensures ∙ c.if-not-has_current.true))

pub returns-in_err-constant : goal.returns-in_err-constant
returns-in_err-constant g c =
    let done = c.pool.ensures in
    let p = err_from_is_err_and c.from_residual.result c.from_residual.ensures.1 in
    made-refused c.args.builder.now c.pool.new.builder c.args.answers.now c.pool.result c.in_err-constant.field-0.0 p.0 c.from_residual.result c.in_err-constant.was p.1 p.2
    done.sets.call.loans c.requires.sound.sound done.sets.call.failed
    (constant-allowed c.args.builder.now c.args.answers.now c.args.opcode c.args.ty c.args.bytes.now (sym c.has_current.ensures ∙ c.if-not-has_current.false)
    (sym c.has_bytes.ensures ∙ c.if-not-has_bytes.false))
    (λ full. let met = done.full.0 full in inl (met.1, met.2))

pub returns-in_err-inst : goal.returns-in_err-inst
returns-in_err-inst g c =
    let pooled = c.in_ok-constant.ensures in
    let between = c.pool.new.builder in
    let done = c.append.ensures in
    let p = err_from_is_err_and c.from_residual-in_err-inst.result c.from_residual-in_err-inst.ensures.1 in
    let opens = pooled-open c.args.builder.now between pooled.sets.call.position pooled.sets.context (sym c.has_current.ensures ∙ c.if-not-has_current.false) in
    made-between c.args.builder.now between c.append.new.builder c.args.answers.now c.from_residual-in_err-inst.result pooled.sets.call.loans pooled.sets.grows.3
    (λ naming declared calls ready. pooled-ready calls c.args.builder.now between c.args.answers.now (pooled.sets.stands declared calls ready.stands) (pooled.grows.6, pooled.grows.8) ready)
    (λ full. inr (subst IsFull pooled.sets.function full))
    (made-refused between c.append.new.builder c.args.answers.now c.append.result c.in_err-inst.field-0.0 p.0 c.from_residual-in_err-inst.result c.in_err-inst.was p.1 p.2
    done.loans (answered-sound _ c.pool.result _ c.pool.ensures.sets.call.fails c.in_ok-constant.was) done.failed
    (constant-allowed between c.args.answers.now c.args.opcode c.args.ty c.args.bytes.now opens (sym c.has_bytes.ensures ∙ c.if-not-has_bytes.false))
    (λ full. full-either between.func.now (done.full_table (constant-count between.func.now.tables c.args.opcode c.in_ok-constant.constant) full)))

pub returns : goal.returns
returns g c =
    let pooled = c.in_ok-constant.ensures in
    let between = c.pool.new.builder in
    let done = c.in_ok-inst.ensures in
    let new = c.append.new.builder in
    let opens = pooled-open c.args.builder.now between pooled.sets.call.position pooled.sets.context (sym c.has_current.ensures ∙ c.if-not-has_current.false) in
    made-between c.args.builder.now between new c.args.answers.now _ pooled.sets.call.loans pooled.sets.grows.3
    (λ naming declared calls ready. pooled-ready calls c.args.builder.now between c.args.answers.now (pooled.sets.stands declared calls ready.stands) (pooled.grows.6, pooled.grows.8) ready)
    (λ full. inr (subst IsFull pooled.sets.function full))
    (made-answer between new c.args.answers.now (answer.Inst c.in_ok-inst.inst) c.append.ensures.loans done.grows.3
    (answered-sound _ c.append.result _ c.append.ensures.fails c.in_ok-inst.was) (c.append.ensures.variables ∙ ap (λ (x : ContextState). x.variables) pooled.sets.context)
    (constant-allowed between c.args.answers.now c.args.opcode c.args.ty c.args.bytes.now opens (sym c.has_bytes.ensures ∙ c.if-not-has_bytes.false))
    (λ naming declared calls ready.
    let shape = constant-shape calls between.func.now c.args.opcode c.args.ty c.args.bytes.now c.in_ok-constant.constant c.requires.typed pooled.found in
    (_, ready-more calls _ between new _ (answer.Inst c.in_ok-inst.inst) ready tt (done.grows.6, done.grows.8) (done.stands declared calls [] _ ready.stands shape) (_, _, refl, refl))))
