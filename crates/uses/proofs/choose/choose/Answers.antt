-- Each block that was made stays, unsealed and unfilled, until its own call, also behind the switch; the parameter goes on existing.
use Rattle.std.proofs.Common.{◌≡◌, ◌<◌, ℕ, sym, subst, ap, ◌∙◌, arith}
use Rattle.std.specs.Prelude.{Some}
use Rattle.clif_builder.specs.declared.builder.FunctionBuilder.{FunctionBuilder}
use Rattle.clif_builder.specs.Builder.{HasCurrent}
use Rattle.uses.proofs.Lasting.{Keeps, Carries, IsOpen, IsUnfilled, created, same_context, valued, lent_on, same, carries_then, carries_kept, carries_called, carries_ended, carries_moved, carries_chosen, made_open, made_unfilled, open_kept, unfilled_kept, open_sealed, unfilled_called, open_ended, unfilled_ended, open_moved, unfilled_moved, open_chosen, unfilled_chosen, made_before, not_below, one_exists}
use Rattle.uses.proofs.choose.choose.Given.{Over}
use Rattle.uses.proofs.choose.choose.Goals as goal
use Rattle.uses.proofs.choose.choose.Goals.{After-ins, After-ins-2, After-ins-4}

-- THE BLOCK `entry` -----------------------------------------------------------------------------------------------------

-- a block that was made after it, where its switch begins
open_in_entry : (g : Over) (c : After-ins g) (block : ℕ) → c.in_ok-entry.entry < block → IsOpen c.create_block-4.new.self block → IsOpen c.seal_block.new.self block
open_in_entry g c block above was =
    let n = c.in_ok-n.ensures in
    let sealed = c.in_ok-seal_block.ensures in
    open_sealed c.in_ok-entry.entry sealed.call sealed.goes_on.grows sealed.seals.others (not_below above)
    (open_moved c.in_ok-entry.entry c.switch_to_block.ensures.builder (open_kept (same_context n.call n.goes_on.grows n.context) was))

unfilled_in_entry : (g : Over) (c : After-ins g) (block : ℕ) → IsUnfilled c.create_block-4.new.self block → IsUnfilled c.seal_block.new.self block
unfilled_in_entry g c block was =
    let n = c.in_ok-n.ensures in
    unfilled_called c.in_ok-seal_block.ensures.call (unfilled_moved c.in_ok-entry.entry c.switch_to_block.ensures.builder (unfilled_kept (same_context n.call n.goes_on.grows n.context) was))

in_entry : (g : Over) (c : After-ins g) → c.seal_block.new.self.position ≡ Some c.in_ok-entry.entry
in_entry g c = c.in_ok-seal_block.ensures.call.position ∙ ap (λ (b : FunctionBuilder _). b.position) c.switch_to_block.ensures.builder

-- and behind it
open_behind : (g : Over) (c : After-ins g) (block : ℕ) → c.in_ok-entry.entry < block → IsOpen c.create_block-4.new.self block → IsOpen c.go_by.new.builder block
open_behind g c block above was = open_chosen c.in_ok-go_by.ensures (open_in_entry g c block above was)

unfilled_behind : (g : Over) (c : After-ins g) (block : ℕ) → c.in_ok-entry.entry < block → IsOpen c.create_block-4.new.self block → IsUnfilled c.create_block-4.new.self block → IsUnfilled c.go_by.new.builder block
unfilled_behind g c block above is_open was =
    unfilled_chosen c.in_ok-go_by.ensures (open_in_entry g c block above is_open).exists c.in_ok-entry.entry (in_entry g c) (not_below above) (unfilled_in_entry g c block was)

-- the blocks are numbered in the order of their making
entry_zero : (g : Over) (c : After-ins g) → c.in_ok-entry.entry < c.in_ok-zero.zero
entry_zero g c = made_before c.in_ok-entry.ensures.exists c.in_ok-zero.ensures.number

zero_seven : (g : Over) (c : After-ins g) → c.in_ok-zero.zero < c.in_ok-seven.seven
zero_seven g c = made_before c.in_ok-zero.ensures.exists c.in_ok-seven.ensures.number

seven_other : (g : Over) (c : After-ins g) → c.in_ok-seven.seven < c.in_ok-other.other
seven_other g c = made_before c.in_ok-seven.ensures.exists c.in_ok-other.ensures.number

entry_seven : (g : Over) (c : After-ins g) → c.in_ok-entry.entry < c.in_ok-seven.seven
entry_seven g c = omega (arith, entry_zero g c, zero_seven g c)

entry_other : (g : Over) (c : After-ins g) → c.in_ok-entry.entry < c.in_ok-other.other
entry_other g c = omega (arith, entry_seven g c, seven_other g c)

zero_other : (g : Over) (c : After-ins g) → c.in_ok-zero.zero < c.in_ok-other.other
zero_other g c = omega (arith, zero_seven g c, seven_other g c)

seven_made : (g : Over) (c : After-ins g) → IsOpen c.create_block-4.new.self c.in_ok-seven.seven
seven_made g c =
    let seven = c.in_ok-seven.ensures in
    let other = c.in_ok-other.ensures in
    open_kept (created other.call other.goes_on.grows other.sealed other.variables) (made_open seven.exists seven.untouched)

seven_fresh : (g : Over) (c : After-ins g) → IsUnfilled c.create_block-4.new.self c.in_ok-seven.seven
seven_fresh g c =
    let other = c.in_ok-other.ensures in
    unfilled_kept (created other.call other.goes_on.grows other.sealed other.variables) (made_unfilled c.in_ok-seven.ensures.untouched)

other_made : (g : Over) (c : After-ins g) → IsOpen c.create_block-4.new.self c.in_ok-other.other
other_made g c = let other = c.in_ok-other.ensures in made_open other.exists other.untouched

other_fresh : (g : Over) (c : After-ins g) → IsUnfilled c.create_block-4.new.self c.in_ok-other.other
other_fresh g c = made_unfilled c.in_ok-other.ensures.untouched

-- THE BLOCK `zero` ------------------------------------------------------------------------------------------------------

zero_kept : (g : Over) (c : After-ins-2 g) → Keeps c.seal_block-2.new.self c.ins-2.result.now
zero_kept g c = lent_on (valued c.ins.ensures.builder c.in_ok-one.ensures.built (c.builder-12-1.given.1 (sym c.ins.ensures.same))) c.ins-2.ensures.builder

in_zero : (g : Over) (c : After-ins-2 g) → c.ins-2.result.now.position ≡ Some c.in_ok-zero.zero
in_zero g c = (zero_kept g c).position ∙ c.in_ok-seal_block-2.ensures.call.position ∙ ap (λ (b : FunctionBuilder _). b.position) c.switch_to_block-2.ensures.builder

open_in_zero : (g : Over) (c : After-ins-2 g) (block : ℕ) → c.in_ok-zero.zero < block → IsOpen c.go_by.new.builder block → IsOpen c.ins-2.result.now block
open_in_zero g c block above was =
    let sealed = c.in_ok-seal_block-2.ensures in
    open_kept (zero_kept g c) (open_sealed c.in_ok-zero.zero sealed.call sealed.goes_on.grows sealed.seals.others (not_below above)
    (open_moved c.in_ok-zero.zero c.switch_to_block-2.ensures.builder was))

unfilled_in_zero : (g : Over) (c : After-ins-2 g) (block : ℕ) → IsUnfilled c.go_by.new.builder block → IsUnfilled c.ins-2.result.now block
unfilled_in_zero g c block was =
    unfilled_kept (zero_kept g c) (unfilled_called c.in_ok-seal_block-2.ensures.call (unfilled_moved c.in_ok-zero.zero c.switch_to_block-2.ensures.builder was))

-- THE BLOCK `seven` -----------------------------------------------------------------------------------------------------

pub switch_to_block-requires-3-clause-unfilled : goal.switch_to_block-requires-3-clause-unfilled
switch_to_block-requires-3-clause-unfilled g c =
    let at = goal.at.switch_to_block-requires-3-clause-unfilled g c in
    let entry = at.After-ins in
    (unfilled_ended c.in_ok-return_.ensures.built (c.builder-14-1.given.1 (sym c.ins-2.ensures.same)) c.in_ok-zero.zero (in_zero g at.After-ins-2) (not_below (zero_seven g entry))
    (unfilled_in_zero g at.After-ins-2 c.in_ok-seven.seven (unfilled_behind g entry c.in_ok-seven.seven (entry_seven g entry) (seven_made g entry) (seven_fresh g entry)))).unfilled

pub seal_block-requires-3-clause-unsealed : goal.seal_block-requires-3-clause-unsealed
seal_block-requires-3-clause-unsealed g c =
    let at = goal.at.seal_block-requires-3-clause-unsealed g c in
    let entry = at.After-ins in
    (open_moved c.in_ok-seven.seven c.switch_to_block-3.ensures.builder
    (open_ended c.in_ok-return_.ensures.built (c.builder-14-1.given.1 (sym c.ins-2.ensures.same))
    (open_in_zero g at.After-ins-2 c.in_ok-seven.seven (zero_seven g entry) (open_behind g entry c.in_ok-seven.seven (entry_seven g entry) (seven_made g entry))))).unsealed

pub iconst-requires-2-clause-current : goal.iconst-requires-2-clause-current
iconst-requires-2-clause-current g c =
    subst HasCurrent (sym c.ins-3.ensures.builder) (c.in_ok-seal_block-3.ensures.goes_on.current c.switch_to_block-3.ensures.current)

pub ins-requires-3 : goal.ins-requires-3
ins-requires-3 g c = c.in_ok-seal_block-3.ensures.goes_on.current c.switch_to_block-3.ensures.current

seven_kept : (g : Over) (c : After-ins-4 g) → Keeps c.seal_block-3.new.self c.ins-4.result.now
seven_kept g c = lent_on (valued c.ins-3.ensures.builder c.in_ok-two.ensures.built (c.builder-18-1.given.1 (sym c.ins-3.ensures.same))) c.ins-4.ensures.builder

in_seven : (g : Over) (c : After-ins-4 g) → c.ins-4.result.now.position ≡ Some c.in_ok-seven.seven
in_seven g c = (seven_kept g c).position ∙ c.in_ok-seal_block-3.ensures.call.position ∙ ap (λ (b : FunctionBuilder _). b.position) c.switch_to_block-3.ensures.builder

open_in_seven : (g : Over) (c : After-ins-4 g) (block : ℕ) → c.in_ok-seven.seven < block → IsOpen c.ins-2.result.now block → IsOpen c.ins-4.result.now block
open_in_seven g c block above was =
    let sealed = c.in_ok-seal_block-3.ensures in
    open_kept (seven_kept g c) (open_sealed c.in_ok-seven.seven sealed.call sealed.goes_on.grows sealed.seals.others (not_below above)
    (open_moved c.in_ok-seven.seven c.switch_to_block-3.ensures.builder
    (open_ended c.in_ok-return_.ensures.built (c.builder-14-1.given.1 (sym c.ins-2.ensures.same)) was)))

unfilled_in_seven : (g : Over) (c : After-ins-4 g) (block : ℕ) → c.ins-2.result.now.position ≡ Some c.in_ok-zero.zero → c.in_ok-zero.zero < block
    → IsUnfilled c.ins-2.result.now block → IsUnfilled c.ins-4.result.now block
unfilled_in_seven g c block at above was =
    unfilled_kept (seven_kept g c) (unfilled_called c.in_ok-seal_block-3.ensures.call
    (unfilled_moved c.in_ok-seven.seven c.switch_to_block-3.ensures.builder
    (unfilled_ended c.in_ok-return_.ensures.built (c.builder-14-1.given.1 (sym c.ins-2.ensures.same)) c.in_ok-zero.zero at (not_below above) was)))

-- THE BLOCK `other` -----------------------------------------------------------------------------------------------------

pub switch_to_block-requires-4-clause-unfilled : goal.switch_to_block-requires-4-clause-unfilled
switch_to_block-requires-4-clause-unfilled g c =
    let at = goal.at.switch_to_block-requires-4-clause-unfilled g c in
    let entry = at.After-ins in
    let block : ℕ = c.in_ok-other.other in
    let before = unfilled_in_zero g at.After-ins-2 block (unfilled_behind g entry block (entry_other g entry) (other_made g entry) (other_fresh g entry)) in
    (unfilled_ended c.in_ok-return_-2.ensures.built (c.builder-20-1.given.1 (sym c.ins-4.ensures.same)) c.in_ok-seven.seven (in_seven g at.After-ins-4) (not_below (seven_other g entry))
    (unfilled_in_seven g at.After-ins-4 block (in_zero g at.After-ins-2) (zero_other g entry) before)).unfilled

pub seal_block-requires-4-clause-unsealed : goal.seal_block-requires-4-clause-unsealed
seal_block-requires-4-clause-unsealed g c =
    let at = goal.at.seal_block-requires-4-clause-unsealed g c in
    let entry = at.After-ins in
    let block : ℕ = c.in_ok-other.other in
    let before = open_in_zero g at.After-ins-2 block (zero_other g entry) (open_behind g entry block (entry_other g entry) (other_made g entry)) in
    (open_moved c.in_ok-other.other c.switch_to_block-4.ensures.builder
    (open_ended c.in_ok-return_-2.ensures.built (c.builder-20-1.given.1 (sym c.ins-4.ensures.same))
    (open_in_seven g at.After-ins-4 block (seven_other g entry) before))).unsealed

pub ins-requires-5 : goal.ins-requires-5
ins-requires-5 g c = c.in_ok-seal_block-4.ensures.goes_on.current c.switch_to_block-4.ensures.current

pub return_-requires-3-clause-current : goal.return_-requires-3-clause-current
return_-requires-3-clause-current g c =
    subst HasCurrent (sym c.ins-5.ensures.builder) (c.in_ok-seal_block-4.ensures.goes_on.current c.switch_to_block-4.ensures.current)

-- THE PARAMETER ---------------------------------------------------------------------------------------------------------

to_zero : (g : Over) (c : After-ins-2 g) → Carries c.append_block_param.new.self c.ins-2.result.now
to_zero g c =
    let first = c.in_ok-seal_block.ensures in
    let second = c.in_ok-seal_block-2.ensures in
    carries_then (carries_moved c.in_ok-entry.entry c.switch_to_block.ensures.builder) (carries_then (carries_called first.call first.goes_on.grows first.leaves.variables)
    (carries_then (carries_chosen c.in_ok-go_by.ensures) (carries_then (carries_moved c.in_ok-zero.zero c.switch_to_block-2.ensures.builder)
    (carries_then (carries_called second.call second.goes_on.grows second.leaves.variables) (carries_kept (zero_kept g c))))))

to_seven : (g : Over) (c : After-ins-4 g) → Carries c.ins-2.result.now c.ins-4.result.now
to_seven g c =
    let third = c.in_ok-seal_block-3.ensures in
    carries_then (carries_ended c.in_ok-return_.ensures.built (c.builder-14-1.given.1 (sym c.ins-2.ensures.same)))
    (carries_then (carries_moved c.in_ok-seven.seven c.switch_to_block-3.ensures.builder)
    (carries_then (carries_called third.call third.goes_on.grows third.leaves.variables) (carries_kept (seven_kept g c))))

pub return_-requires-3-clause-values_exist : goal.return_-requires-3-clause-values_exist
return_-requires-3-clause-values_exist g c =
    let at = goal.at.return_-requires-3-clause-values_exist g c in
    let fourth = c.in_ok-seal_block-4.ensures in
    let to_other : Carries c.ins-4.result.now c.ins-5.result.now =
    carries_then (carries_ended c.in_ok-return_-2.ensures.built (c.builder-20-1.given.1 (sym c.ins-4.ensures.same)))
    (carries_then (carries_moved c.in_ok-other.other c.switch_to_block-4.ensures.builder)
    (carries_then (carries_called fourth.call fourth.goes_on.grows fourth.leaves.variables) (carries_kept (same c.ins-5.ensures.builder)))) in
    one_exists (omega (arith, c.in_ok-n.ensures.exists, (to_zero g at.After-ins-2).values, (to_seven g at.After-ins-4).values, to_other.values))

pub iconst-requires-clause-current : goal.iconst-requires-clause-current
iconst-requires-clause-current g c =
    subst HasCurrent (sym c.ins.ensures.builder) (c.in_ok-seal_block-2.ensures.goes_on.current c.switch_to_block-2.ensures.current)

pub switch_to_block-requires-4-clause-exists : goal.switch_to_block-requires-4-clause-exists
switch_to_block-requires-4-clause-exists g c =
    let at = goal.at.switch_to_block-requires-4-clause-exists g c in
    let entry = at.After-ins in
    let block : ℕ = c.in_ok-other.other in
    let before = open_in_zero g at.After-ins-2 block (zero_other g entry) (open_behind g entry block (entry_other g entry) (other_made g entry)) in
    (open_ended c.in_ok-return_-2.ensures.built (c.builder-20-1.given.1 (sym c.ins-4.ensures.same))
    (open_in_seven g at.After-ins-4 block (seven_other g entry) before)).exists
