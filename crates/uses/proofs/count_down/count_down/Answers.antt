-- Each block that was made stays, unsealed and unfilled, until its own call; each variable keeps the type I32.
use Rattle.std.proofs.Common.{◌≡◌, ◌<◌, ℕ, length, refl, sym, subst, ap, ◌∙◌, arith}
use Rattle.std.specs.Prelude.{Some}
use Rattle.clif_builder.specs.Builder.{HasCurrent}
use Rattle.clif_builder.specs.declared.builder.FunctionBuilder.{FunctionBuilder}
use Rattle.uses.proofs.Lasting.{Keeps, IsOpen, IsUnfilled, and_then, called, carries_kept, created, same_context, assigned, valued, lent_on, made_open, made_unfilled, open_kept, unfilled_kept, open_sealed, unfilled_called, open_ended, unfilled_ended, open_moved, unfilled_moved, leads, made_before, not_above, not_below, one_exists, left_ended, typed_alike, declared}
use Rattle.uses.proofs.count_down.count_down.Given.{Over}
use Rattle.uses.proofs.count_down.count_down.Goals as goal
use Rattle.uses.proofs.count_down.count_down.Goals.{After-ins-2, After-ins-3, After-ins-7}

-- THE BLOCK `entry` -----------------------------------------------------------------------------------------------------

entry_kept : (g : Over) (c : After-ins-2 g) → Keeps c.seal_block.new.self c.ins-2.result.now
entry_kept g c =
    let first = c.in_ok-def_var.ensures in
    let second = c.in_ok-def_var-2.ensures in
    let zero : Keeps c.def_var.new.self c.builder-12-1.given.0 = valued c.ins.ensures.builder c.in_ok-zero.ensures.built (c.builder-12-1.given.1 (sym c.ins.ensures.same)) in
    lent_on (and_then (assigned first.call first.goes_on.grows first.sealed first.variables) (and_then zero (assigned second.call second.goes_on.grows second.sealed second.variables)))
    c.ins-2.ensures.builder

-- a block that was made after it, where it jumps
open_in_entry : (g : Over) (c : After-ins-2 g) (block : ℕ) → c.in_ok-entry.entry < block → IsOpen c.create_block-4.new.self block → IsOpen c.ins-2.result.now block
open_in_entry g c block above was =
    let start = c.in_ok-start.ensures in
    let sealed = c.in_ok-seal_block.ensures in
    open_kept (entry_kept g c) (open_sealed c.in_ok-entry.entry sealed.call sealed.goes_on.grows sealed.seals.others (not_below above)
    (open_moved c.in_ok-entry.entry c.switch_to_block.ensures.builder (open_kept (same_context start.call start.goes_on.grows start.context) was)))

unfilled_in_entry : (g : Over) (c : After-ins-2 g) (block : ℕ) → IsUnfilled c.create_block-4.new.self block → IsUnfilled c.ins-2.result.now block
unfilled_in_entry g c block was =
    let start = c.in_ok-start.ensures in
    unfilled_kept (entry_kept g c) (unfilled_called c.in_ok-seal_block.ensures.call
    (unfilled_moved c.in_ok-entry.entry c.switch_to_block.ensures.builder (unfilled_kept (same_context start.call start.goes_on.grows start.context) was)))

in_entry : (g : Over) (c : After-ins-2 g) → c.ins-2.result.now.position ≡ Some c.in_ok-entry.entry
in_entry g c = (entry_kept g c).position ∙ c.in_ok-seal_block.ensures.call.position ∙ ap (λ (b : FunctionBuilder _). b.position) c.switch_to_block.ensures.builder

-- the blocks are numbered in the order of their making
entry_header : (g : Over) (c : After-ins-2 g) → c.in_ok-entry.entry < c.in_ok-header.header
entry_header g c = made_before c.in_ok-entry.ensures.exists c.in_ok-header.ensures.number

header_body : (g : Over) (c : After-ins-2 g) → c.in_ok-header.header < c.in_ok-body.body
header_body g c = made_before c.in_ok-header.ensures.exists c.in_ok-body.ensures.number

body_exit : (g : Over) (c : After-ins-2 g) → c.in_ok-body.body < c.in_ok-exit.exit
body_exit g c = made_before c.in_ok-body.ensures.exists c.in_ok-exit.ensures.number

made_after_body : (g : Over) (c : After-ins-2 g) → Keeps c.create_block-3.new.self c.create_block-4.new.self
made_after_body g c = let exit = c.in_ok-exit.ensures in created exit.call exit.goes_on.grows exit.sealed exit.variables

made_after_header : (g : Over) (c : After-ins-2 g) → Keeps c.create_block-2.new.self c.create_block-4.new.self
made_after_header g c = let body = c.in_ok-body.ensures in and_then (created body.call body.goes_on.grows body.sealed body.variables) (made_after_body g c)

header_open : (g : Over) (c : After-ins-2 g) → IsOpen c.ins-2.result.now c.in_ok-header.header
header_open g c =
    let header = c.in_ok-header.ensures in
    open_in_entry g c c.in_ok-header.header (entry_header g c) (open_kept (made_after_header g c) (made_open header.exists header.untouched))

header_unfilled : (g : Over) (c : After-ins-2 g) → IsUnfilled c.ins-2.result.now c.in_ok-header.header
header_unfilled g c = unfilled_in_entry g c c.in_ok-header.header (unfilled_kept (made_after_header g c) (made_unfilled c.in_ok-header.ensures.untouched))

body_open : (g : Over) (c : After-ins-2 g) → IsOpen c.ins-2.result.now c.in_ok-body.body
body_open g c =
    let body = c.in_ok-body.ensures in
    open_in_entry g c c.in_ok-body.body (omega (arith, entry_header g c, header_body g c)) (open_kept (made_after_body g c) (made_open body.exists body.untouched))

body_unfilled : (g : Over) (c : After-ins-2 g) → IsUnfilled c.ins-2.result.now c.in_ok-body.body
body_unfilled g c = unfilled_in_entry g c c.in_ok-body.body (unfilled_kept (made_after_body g c) (made_unfilled c.in_ok-body.ensures.untouched))

exit_open : (g : Over) (c : After-ins-2 g) → IsOpen c.ins-2.result.now c.in_ok-exit.exit
exit_open g c =
    let exit = c.in_ok-exit.ensures in
    open_in_entry g c c.in_ok-exit.exit (omega (arith, entry_header g c, header_body g c, body_exit g c)) (made_open exit.exists exit.untouched)

exit_unfilled : (g : Over) (c : After-ins-2 g) → IsUnfilled c.ins-2.result.now c.in_ok-exit.exit
exit_unfilled g c = unfilled_in_entry g c c.in_ok-exit.exit (made_unfilled c.in_ok-exit.ensures.untouched)

pub jump-requires-clause-leads : goal.jump-requires-clause-leads
jump-requires-clause-leads g c = leads (header_open g (goal.at.jump-requires-clause-leads g c).After-ins-2)

pub switch_to_block-requires-2-clause-unfilled : goal.switch_to_block-requires-2-clause-unfilled
switch_to_block-requires-2-clause-unfilled g c =
    let entry = (goal.at.switch_to_block-requires-2-clause-unfilled g c).After-ins-2 in
    (unfilled_ended c.in_ok-jump.ensures.built (c.builder-15-1.given.1 (sym c.ins-2.ensures.same)) c.in_ok-entry.entry (in_entry g entry) (not_below (entry_header g entry)) (header_unfilled g entry)).unfilled

-- THE BLOCK `header` ----------------------------------------------------------------------------------------------------

header_kept : (g : Over) (c : After-ins-3 g) → Keeps c.switch_to_block-2.new.self c.ins-3.result.now
header_kept g c = let left = c.in_ok-left.ensures in lent_on (called left.call left.goes_on.grows left.used.seals left.used.variables) c.ins-3.ensures.builder

in_header : (g : Over) (c : After-ins-3 g) → c.ins-3.result.now.position ≡ Some c.in_ok-header.header
in_header g c = (header_kept g c).position ∙ ap (λ (b : FunctionBuilder _). b.position) c.switch_to_block-2.ensures.builder

open_in_header : (g : Over) (c : After-ins-3 g) (block : ℕ) → IsOpen c.ins-2.result.now block → IsOpen c.ins-3.result.now block
open_in_header g c block was =
    open_kept (header_kept g c) (open_moved c.in_ok-header.header c.switch_to_block-2.ensures.builder
    (open_ended c.in_ok-jump.ensures.built (c.builder-15-1.given.1 (sym c.ins-2.ensures.same)) was))

unfilled_in_header : (g : Over) (c : After-ins-3 g) (block : ℕ) → c.ins-2.result.now.position ≡ Some c.in_ok-entry.entry → c.in_ok-entry.entry < block
    → IsUnfilled c.ins-2.result.now block → IsUnfilled c.ins-3.result.now block
unfilled_in_header g c block at above was =
    unfilled_kept (header_kept g c) (unfilled_moved c.in_ok-header.header c.switch_to_block-2.ensures.builder
    (unfilled_ended c.in_ok-jump.ensures.built (c.builder-15-1.given.1 (sym c.ins-2.ensures.same)) c.in_ok-entry.entry
    at (not_below above) was))

pub brif-requires-clause-leads_then : goal.brif-requires-clause-leads_then
brif-requires-clause-leads_then g c =
    let at = goal.at.brif-requires-clause-leads_then g c in
    leads (open_in_header g at.After-ins-3 c.in_ok-body.body (body_open g at.After-ins-2))

pub brif-requires-clause-leads_else : goal.brif-requires-clause-leads_else
brif-requires-clause-leads_else g c =
    let at = goal.at.brif-requires-clause-leads_else g c in
    leads (open_in_header g at.After-ins-3 c.in_ok-exit.exit (exit_open g at.After-ins-2))

pub seal_block-requires-2-clause-unsealed : goal.seal_block-requires-2-clause-unsealed
seal_block-requires-2-clause-unsealed g c =
    let at = goal.at.seal_block-requires-2-clause-unsealed g c in
    (open_ended c.in_ok-brif.ensures.built (c.builder-19-1.given.1 (sym c.ins-3.ensures.same))
    (open_in_header g at.After-ins-3 c.in_ok-body.body (body_open g at.After-ins-2))).unsealed

pub seal_block-requires-3-clause-unsealed : goal.seal_block-requires-3-clause-unsealed
seal_block-requires-3-clause-unsealed g c =
    let at = goal.at.seal_block-requires-3-clause-unsealed g c in
    let sealed = c.in_ok-seal_block-2.ensures in
    (open_sealed c.in_ok-body.body sealed.call sealed.goes_on.grows sealed.seals.others (not_below (body_exit g at.After-ins-2))
    (open_ended c.in_ok-brif.ensures.built (c.builder-19-1.given.1 (sym c.ins-3.ensures.same))
    (open_in_header g at.After-ins-3 c.in_ok-exit.exit (exit_open g at.After-ins-2)))).unsealed

pub switch_to_block-requires-3-clause-unfilled : goal.switch_to_block-requires-3-clause-unfilled
switch_to_block-requires-3-clause-unfilled g c =
    let at = goal.at.switch_to_block-requires-3-clause-unfilled g c in
    let entry = at.After-ins-2 in
    let header = at.After-ins-3 in
    let above : c.in_ok-entry.entry < c.in_ok-body.body = omega (arith, entry_header g entry, header_body g entry) in
    (unfilled_called c.in_ok-seal_block-3.ensures.call (unfilled_called c.in_ok-seal_block-2.ensures.call
    (unfilled_ended c.in_ok-brif.ensures.built (c.builder-19-1.given.1 (sym c.ins-3.ensures.same)) c.in_ok-header.header (in_header g header)
    (not_below (header_body g entry)) (unfilled_in_header g header c.in_ok-body.body (in_entry g entry) above (body_unfilled g entry))))).unfilled

-- THE BLOCK `body` ------------------------------------------------------------------------------------------------------

pub def_var-requires-3-clause-same_type : goal.def_var-requires-3-clause-same_type
def_var-requires-3-clause-same_type g c =
    let before = c.in_ok-before.ensures in
    let count = c.in_ok-count.ensures in
    typed_alike c.in_ok-sum.sum c.in_ok-before.before before.used.typed before.used.variables before.used.exists
    (carries_kept (lent_on (called count.call count.goes_on.grows count.used.seals count.used.variables) c.ins-4.ensures.builder))
    c.in_ok-after.ensures.built (c.builder-26-1.given.1 (sym c.ins-4.ensures.same)) refl

pub def_var-requires-4-clause-same_type : goal.def_var-requires-4-clause-same_type
def_var-requires-4-clause-same_type g c =
    let count = c.in_ok-count.ensures in
    let sum = c.in_ok-def_var-3.ensures in
    let after : Keeps c.use_var-3.new.self c.builder-26-1.given.0 = valued c.ins-4.ensures.builder c.in_ok-after.ensures.built (c.builder-26-1.given.1 (sym c.ins-4.ensures.same)) in
    let one : Keeps c.def_var-3.new.self c.builder-29-1.given.0 = valued c.ins-5.ensures.builder c.in_ok-one.ensures.built (c.builder-29-1.given.1 (sym c.ins-5.ensures.same)) in
    typed_alike c.in_ok-n.n c.in_ok-count.count count.used.typed count.used.variables count.used.exists
    (carries_kept (lent_on (and_then after (and_then (assigned sum.call sum.goes_on.grows sum.sealed sum.variables) one)) c.ins-6.ensures.builder))
    c.in_ok-less.ensures.built (c.builder-31-1.given.1 (sym c.ins-6.ensures.same)) refl

pub isub-requires-clause-current : goal.isub-requires-clause-current
isub-requires-clause-current g c =
    subst HasCurrent (sym (c.ins-6.ensures.builder ∙ c.builder-29-1.given.1 (sym c.ins-5.ensures.same))) c.in_ok-one.ensures.built.current

pub def_var-requires-4-clause-value_exists : goal.def_var-requires-4-clause-value_exists
def_var-requires-4-clause-value_exists g c =
    subst (λ (b : FunctionBuilder _). c.in_ok-less.less < length b.func.now.values) (sym (c.builder-31-1.given.1 (sym c.ins-6.ensures.same)))
    c.in_ok-less.ensures.built.exists

body_kept : (g : Over) (c : After-ins-7 g) → Keeps c.switch_to_block-3.new.self c.ins-7.result.now
body_kept g c =
    let before = c.in_ok-before.ensures in
    let count = c.in_ok-count.ensures in
    let sum = c.in_ok-def_var-3.ensures in
    let n = c.in_ok-def_var-4.ensures in
    let after : Keeps c.use_var-3.new.self c.builder-26-1.given.0 = valued c.ins-4.ensures.builder c.in_ok-after.ensures.built (c.builder-26-1.given.1 (sym c.ins-4.ensures.same)) in
    let one : Keeps c.def_var-3.new.self c.builder-29-1.given.0 = valued c.ins-5.ensures.builder c.in_ok-one.ensures.built (c.builder-29-1.given.1 (sym c.ins-5.ensures.same)) in
    let less : Keeps c.builder-29-1.given.0 c.builder-31-1.given.0 = valued c.ins-6.ensures.builder c.in_ok-less.ensures.built (c.builder-31-1.given.1 (sym c.ins-6.ensures.same)) in
    lent_on (and_then (called before.call before.goes_on.grows before.used.seals before.used.variables) (and_then (called count.call count.goes_on.grows count.used.seals count.used.variables)
    (and_then after (and_then (assigned sum.call sum.goes_on.grows sum.sealed sum.variables) (and_then one (and_then less (assigned n.call n.goes_on.grows n.sealed n.variables)))))))
    c.ins-7.ensures.builder

in_body : (g : Over) (c : After-ins-7 g) → c.ins-7.result.now.position ≡ Some c.in_ok-body.body
in_body g c = (body_kept g c).position ∙ ap (λ (b : FunctionBuilder _). b.position) c.switch_to_block-3.ensures.builder

header_open_in_body : (g : Over) (c : After-ins-7 g) → c.in_ok-header.header < c.in_ok-body.body → c.in_ok-body.body < c.in_ok-exit.exit
    → IsOpen c.ins-3.result.now c.in_ok-header.header → IsOpen c.ins-7.result.now c.in_ok-header.header
header_open_in_body g c before_body before_exit was =
    let body = c.in_ok-seal_block-2.ensures in
    let exit = c.in_ok-seal_block-3.ensures in
    let below : c.in_ok-header.header < c.in_ok-exit.exit = omega (arith, before_body, before_exit) in
    open_kept (body_kept g c) (open_moved c.in_ok-body.body c.switch_to_block-3.ensures.builder
    (open_sealed c.in_ok-exit.exit exit.call exit.goes_on.grows exit.seals.others (not_above below) (open_sealed c.in_ok-body.body body.call body.goes_on.grows body.seals.others (not_above before_body)
    (open_ended c.in_ok-brif.ensures.built (c.builder-19-1.given.1 (sym c.ins-3.ensures.same)) was))))

pub jump-requires-2-clause-leads : goal.jump-requires-2-clause-leads
jump-requires-2-clause-leads g c =
    let at = goal.at.jump-requires-2-clause-leads g c in
    let entry = at.After-ins-2 in
    leads (header_open_in_body g at.After-ins-7 (header_body g entry) (body_exit g entry) (open_in_header g at.After-ins-3 c.in_ok-header.header (header_open g entry)))

pub seal_block-requires-4-clause-unsealed : goal.seal_block-requires-4-clause-unsealed
seal_block-requires-4-clause-unsealed g c =
    let at = goal.at.seal_block-requires-4-clause-unsealed g c in
    let entry = at.After-ins-2 in
    (open_ended c.in_ok-jump-2.ensures.built (c.builder-34-1.given.1 (sym c.ins-7.ensures.same))
    (header_open_in_body g at.After-ins-7 (header_body g entry) (body_exit g entry) (open_in_header g at.After-ins-3 c.in_ok-header.header (header_open g entry)))).unsealed

pub seal_block-requires-4-clause-exists : goal.seal_block-requires-4-clause-exists
seal_block-requires-4-clause-exists g c =
    let at = goal.at.seal_block-requires-4-clause-exists g c in
    let entry = at.After-ins-2 in
    (open_ended c.in_ok-jump-2.ensures.built (c.builder-34-1.given.1 (sym c.ins-7.ensures.same))
    (header_open_in_body g at.After-ins-7 (header_body g entry) (body_exit g entry) (open_in_header g at.After-ins-3 c.in_ok-header.header (header_open g entry)))).exists

-- THE BLOCK `exit` ------------------------------------------------------------------------------------------------------

pub switch_to_block-requires-4-clause-unfilled : goal.switch_to_block-requires-4-clause-unfilled
switch_to_block-requires-4-clause-unfilled g c =
    let at = goal.at.switch_to_block-requires-4-clause-unfilled g c in
    let entry = at.After-ins-2 in
    let header = at.After-ins-3 in
    let body = at.After-ins-7 in
    let after_entry : c.in_ok-entry.entry < c.in_ok-exit.exit = omega (arith, entry_header g entry, header_body g entry, body_exit g entry) in
    let after_header : c.in_ok-header.header < c.in_ok-exit.exit = omega (arith, header_body g entry, body_exit g entry) in
    let sealed : IsUnfilled c.seal_block-3.new.self c.in_ok-exit.exit =
    unfilled_called c.in_ok-seal_block-3.ensures.call (unfilled_called c.in_ok-seal_block-2.ensures.call
    (unfilled_ended c.in_ok-brif.ensures.built (c.builder-19-1.given.1 (sym c.ins-3.ensures.same)) c.in_ok-header.header (in_header g header)
    (not_below after_header) (unfilled_in_header g header c.in_ok-exit.exit (in_entry g entry) after_entry (exit_unfilled g entry)))) in
    (unfilled_called c.in_ok-seal_block-4.ensures.call
    (unfilled_ended c.in_ok-jump-2.ensures.built (c.builder-34-1.given.1 (sym c.ins-7.ensures.same)) c.in_ok-body.body (in_body g body) (not_below (body_exit g entry))
    (unfilled_kept (body_kept g body) (unfilled_moved c.in_ok-body.body c.switch_to_block-3.ensures.builder sealed)))).unfilled

pub switch_to_block-requires-4-clause-exists : goal.switch_to_block-requires-4-clause-exists
switch_to_block-requires-4-clause-exists g c =
    let at = goal.at.switch_to_block-requires-4-clause-exists g c in
    let blocks : FunctionBuilder _ → ℕ = λ (b : FunctionBuilder _). length b.func.now.blocks in
    let before =
    open_ended c.in_ok-brif.ensures.built (c.builder-19-1.given.1 (sym c.ins-3.ensures.same)) (open_in_header g at.After-ins-3 c.in_ok-exit.exit (exit_open g at.After-ins-2)) in
    let entered = ap blocks c.switch_to_block-3.ensures.builder in
    let came = ap blocks (c.builder-34-1.given.1 (sym c.ins-7.ensures.same)) in
    let body = body_kept g at.After-ins-7 in
    omega (
      arith,
      before.exists,
      c.in_ok-seal_block-2.ensures.goes_on.grows.2,
      c.in_ok-seal_block-3.ensures.goes_on.grows.2,
      entered,
      body.grows.2,
      c.in_ok-jump-2.ensures.built.grows.2,
      came,
      c.in_ok-seal_block-4.ensures.goes_on.grows.2,
    )

pub switch_to_block-requires-4-clause-free : goal.switch_to_block-requires-4-clause-free
switch_to_block-requires-4-clause-free g c =
    c.in_ok-seal_block-4.ensures.call.free (left_ended c.in_ok-jump-2.ensures.built refl (c.builder-34-1.given.1 (sym c.ins-7.ensures.same)))

pub use_var-requires-4-clause-declared : goal.use_var-requires-4-clause-declared
use_var-requires-4-clause-declared g c =
    let body = (goal.at.use_var-requires-4-clause-declared g c).After-ins-7 in
    declared c.switch_to_block-3.new.self.ctx.now.parts.variables c.in_ok-sum.sum _ c.in_ok-before.ensures.used.typed
    (ap (λ (b : FunctionBuilder _). b.ctx.now.parts.variables) c.switch_to_block-4.ensures.builder
    ∙ c.in_ok-seal_block-4.ensures.leaves.variables ∙ ap (λ (b : FunctionBuilder _). b.ctx.now.parts.variables) (c.builder-34-1.given.1 (sym c.ins-7.ensures.same))
    ∙ c.in_ok-jump-2.ensures.built.variables ∙ (body_kept g body).variables)

pub return_-requires-clause-values_exist : goal.return_-requires-clause-values_exist
return_-requires-clause-values_exist g c =
    one_exists (subst (λ (b : FunctionBuilder _). c.in_ok-total.total < length b.func.now.values) (sym c.ins-8.ensures.builder) c.in_ok-total.ensures.used.exists)

-- THE CURRENT BLOCK -----------------------------------------------------------------------------------------------------

pub use_var-requires-3-clause-current : goal.use_var-requires-3-clause-current
use_var-requires-3-clause-current g c =
    c.in_ok-before.ensures.goes_on.current c.switch_to_block-3.ensures.current

pub ins-requires-4 : goal.ins-requires-4
ins-requires-4 g c =
    c.in_ok-count.ensures.goes_on.current (c.in_ok-before.ensures.goes_on.current c.switch_to_block-3.ensures.current)

pub iadd-requires-clause-current : goal.iadd-requires-clause-current
iadd-requires-clause-current g c =
    subst HasCurrent (sym c.ins-4.ensures.builder) (c.in_ok-count.ensures.goes_on.current (c.in_ok-before.ensures.goes_on.current c.switch_to_block-3.ensures.current))

pub ins-requires-5 : goal.ins-requires-5
ins-requires-5 g c =
    c.in_ok-def_var-3.ensures.goes_on.current
    (subst HasCurrent (sym (c.builder-26-1.given.1 (sym c.ins-4.ensures.same))) c.in_ok-after.ensures.built.current)

pub iconst-requires-2-clause-current : goal.iconst-requires-2-clause-current
iconst-requires-2-clause-current g c =
    subst HasCurrent (sym c.ins-5.ensures.builder) (c.in_ok-def_var-3.ensures.goes_on.current
    (subst HasCurrent (sym (c.builder-26-1.given.1 (sym c.ins-4.ensures.same))) c.in_ok-after.ensures.built.current))

pub ins-requires-7 : goal.ins-requires-7
ins-requires-7 g c =
    c.in_ok-def_var-4.ensures.goes_on.current
    (subst HasCurrent (sym (c.builder-31-1.given.1 (sym c.ins-6.ensures.same))) c.in_ok-less.ensures.built.current)

pub jump-requires-2-clause-current : goal.jump-requires-2-clause-current
jump-requires-2-clause-current g c =
    subst HasCurrent (sym c.ins-7.ensures.builder) (c.in_ok-def_var-4.ensures.goes_on.current
    (subst HasCurrent (sym (c.builder-31-1.given.1 (sym c.ins-6.ensures.same))) c.in_ok-less.ensures.built.current))

pub ins-requires-8 : goal.ins-requires-8
ins-requires-8 g c =
    c.in_ok-total.ensures.goes_on.current c.switch_to_block-4.ensures.current

pub return_-requires-clause-current : goal.return_-requires-clause-current
return_-requires-clause-current g c =
    subst HasCurrent (sym c.ins-8.ensures.builder) (c.in_ok-total.ensures.goes_on.current c.switch_to_block-4.ensures.current)

-- WHAT IS NAMED ---------------------------------------------------------------------------------------------------------

pub def_var-requires-3-clause-declared : goal.def_var-requires-3-clause-declared
def_var-requires-3-clause-declared g c =
    let after : Keeps c.use_var-3.new.self c.builder-26-1.given.0 = valued c.ins-4.ensures.builder c.in_ok-after.ensures.built (c.builder-26-1.given.1 (sym c.ins-4.ensures.same)) in
    declared c.switch_to_block-3.new.self.ctx.now.parts.variables c.in_ok-sum.sum _ c.in_ok-before.ensures.used.typed
    (after.variables ∙ c.in_ok-count.ensures.used.variables ∙ c.in_ok-before.ensures.used.variables)

pub def_var-requires-4-clause-declared : goal.def_var-requires-4-clause-declared
def_var-requires-4-clause-declared g c =
    let after : Keeps c.use_var-3.new.self c.builder-26-1.given.0 = valued c.ins-4.ensures.builder c.in_ok-after.ensures.built (c.builder-26-1.given.1 (sym c.ins-4.ensures.same)) in
    let one : Keeps c.def_var-3.new.self c.builder-29-1.given.0 = valued c.ins-5.ensures.builder c.in_ok-one.ensures.built (c.builder-29-1.given.1 (sym c.ins-5.ensures.same)) in
    let less : Keeps c.builder-29-1.given.0 c.builder-31-1.given.0 = valued c.ins-6.ensures.builder c.in_ok-less.ensures.built (c.builder-31-1.given.1 (sym c.ins-6.ensures.same)) in
    declared c.use_var-2.new.self.ctx.now.parts.variables c.in_ok-n.n _ c.in_ok-count.ensures.used.typed
    (less.variables ∙ one.variables ∙ c.in_ok-def_var-3.ensures.variables ∙ after.variables ∙ c.in_ok-count.ensures.used.variables)

pub isub-requires-clause-x_exists : goal.isub-requires-clause-x_exists
isub-requires-clause-x_exists g c =
    let values : FunctionBuilder _ → ℕ = λ (b : FunctionBuilder _). length b.func.now.values in
    let lent = ap values c.ins-4.ensures.builder in
    let built = ap values (c.builder-26-1.given.1 (sym c.ins-4.ensures.same)) in
    let lent_next = ap values c.ins-5.ensures.builder in
    let built_next = ap values (c.builder-29-1.given.1 (sym c.ins-5.ensures.same)) in
    let lent_last = ap values c.ins-6.ensures.builder in
    omega (
      arith,
      c.in_ok-count.ensures.used.exists,
      lent,
      c.in_ok-after.ensures.built.grows.0,
      built,
      c.in_ok-def_var-3.ensures.goes_on.grows.0,
      lent_next,
      c.in_ok-one.ensures.built.grows.0,
      built_next,
      lent_last,
    )

pub isub-requires-clause-y_exists : goal.isub-requires-clause-y_exists
isub-requires-clause-y_exists g c =
    subst (λ (b : FunctionBuilder _). c.in_ok-one.one < length b.func.now.values)
    (sym (c.ins-6.ensures.builder ∙ c.builder-29-1.given.1 (sym c.ins-5.ensures.same))) c.in_ok-one.ensures.built.exists
