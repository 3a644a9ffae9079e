-- The block stays unsealed until its own call, and the variable keeps its type.
use Rattle.std.proofs.Common.{◌<◌, length, refl, sym, subst}
use Rattle.clif_builder.specs.declared.builder.FunctionBuilder.{FunctionBuilder}
use Rattle.uses.proofs.Lasting.{Keeps, IsOpen, and_then, called, carries_kept, assigned, valued, lent_on, made_open, open_kept, open_ended, open_moved, one_exists, typed_alike, declared}
use Rattle.uses.proofs.straight_line.straight_line.Given.{Over}
use Rattle.uses.proofs.straight_line.straight_line.Goals as goal
use Rattle.uses.proofs.straight_line.straight_line.Goals.{After-ins-2, After-ins-3}

seven : (g : Over) (c : After-ins-2 g) → Keeps c.use_var.new.self c.builder-6-1.given.0
seven g c = valued c.ins.ensures.builder c.in_ok-seven.ensures.built (c.builder-6-1.given.1 (sym c.ins.ensures.same))

pub def_var-requires-clause-same_type : goal.def_var-requires-clause-same_type
def_var-requires-clause-same_type g c =
    let before = c.in_ok-before.ensures in
    typed_alike c.in_ok-x.x c.in_ok-before.before before.used.typed before.used.variables before.used.exists
    (carries_kept (lent_on (seven g (goal.at.def_var-requires-clause-same_type g c).After-ins-2) c.ins-2.ensures.builder))
    c.in_ok-sum.ensures.built (c.builder-8-1.given.1 (sym c.ins-2.ensures.same)) refl

pub use_var-requires-2-clause-declared : goal.use_var-requires-2-clause-declared
use_var-requires-2-clause-declared g c =
    let before = c.in_ok-before.ensures in
    let assigned_x = c.in_ok-def_var.ensures in
    let first : Keeps c.switch_to_block.new.self c.use_var.new.self = called before.call before.goes_on.grows before.used.seals before.used.variables in
    let sum : Keeps c.builder-6-1.given.0 c.builder-8-1.given.0 = valued c.ins-2.ensures.builder c.in_ok-sum.ensures.built (c.builder-8-1.given.1 (sym c.ins-2.ensures.same)) in
    let made : Keeps c.switch_to_block.new.self c.def_var.new.self =
    and_then first (and_then (seven g (goal.at.use_var-requires-2-clause-declared g c).After-ins-2) (and_then sum
    (assigned assigned_x.call assigned_x.goes_on.grows assigned_x.sealed assigned_x.variables))) in
    declared c.switch_to_block.new.self.ctx.now.parts.variables c.in_ok-x.x _ before.used.typed made.variables

block_kept : (g : Over) (c : After-ins-3 g) → Keeps c.switch_to_block.new.self c.ins-3.result.now
block_kept g c =
    let before = c.in_ok-before.ensures in
    let after = c.in_ok-after.ensures in
    let assigned_x = c.in_ok-def_var.ensures in
    let seven_made : Keeps c.use_var.new.self c.builder-6-1.given.0 = valued c.ins.ensures.builder c.in_ok-seven.ensures.built (c.builder-6-1.given.1 (sym c.ins.ensures.same)) in
    let sum : Keeps c.builder-6-1.given.0 c.builder-8-1.given.0 = valued c.ins-2.ensures.builder c.in_ok-sum.ensures.built (c.builder-8-1.given.1 (sym c.ins-2.ensures.same)) in
    lent_on (and_then (called before.call before.goes_on.grows before.used.seals before.used.variables) (and_then seven_made (and_then sum
    (and_then (assigned assigned_x.call assigned_x.goes_on.grows assigned_x.sealed assigned_x.variables) (called after.call after.goes_on.grows after.used.seals after.used.variables)))))
    c.ins-3.ensures.builder

block_open : (g : Over) (c : After-ins-3 g) → IsOpen c.ins-3.result.now c.in_ok-block.block
block_open g c =
    let made = c.in_ok-block.ensures in
    let opened : IsOpen c.create_block.new.self c.in_ok-block.block = made_open made.exists made.untouched in
    open_kept (block_kept g c) (open_moved c.in_ok-block.block c.switch_to_block.ensures.builder opened)

pub return_-requires-clause-values_exist : goal.return_-requires-clause-values_exist
return_-requires-clause-values_exist g c =
    one_exists (subst (λ (b : FunctionBuilder _). c.in_ok-after.after < length b.func.now.values) (sym c.ins-3.ensures.builder) c.in_ok-after.ensures.used.exists)

pub seal_block-requires-clause-unsealed : goal.seal_block-requires-clause-unsealed
seal_block-requires-clause-unsealed g c =
    (open_ended c.in_ok-return_.ensures.built (c.builder-12-1.given.1 (sym c.ins-3.ensures.same))
    (block_open g (goal.at.seal_block-requires-clause-unsealed g c).After-ins-3)).unsealed

pub seal_block-requires-clause-exists : goal.seal_block-requires-clause-exists
seal_block-requires-clause-exists g c =
    (open_ended c.in_ok-return_.ensures.built (c.builder-12-1.given.1 (sym c.ins-3.ensures.same))
    (block_open g (goal.at.seal_block-requires-clause-exists g c).After-ins-3)).exists
