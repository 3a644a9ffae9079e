-- Each block that was made stays, unsealed and unfilled, until its own call; the variable and the parameters have the type I32.
use Rattle.std.proofs.Common.{◌≡◌, ◌<◌, ℕ, length, refl, sym, subst, ap, ◌∙◌, arith}
use Rattle.std.specs.Prelude.{Some, slice_get}
use Rattle.clif_types.specs.declared.types.«Type».{«Type»}
use Rattle.clif_types.specs.declared.types.«Type».TheVariants.{Lane}
use Rattle.clif_types.specs.declared.types.LaneType.TheVariants.{I32}
use Rattle.clif_ir.specs.Body.{value_at}
use Rattle.clif_builder.specs.declared.builder.FunctionBuilder.{FunctionBuilder}
use Rattle.clif_builder.specs.Builder.{HasCurrent}
use Rattle.clif_builder.specs.Context.{ContextState}
use Rattle.uses.proofs.Lasting.{Keeps, Carries, IsOpen, IsUnfilled, and_then, created, same_context, assigned, valued, lent_on, same, carries_then, carries_kept, carries_called, carries_ended, carries_moved, made_open, made_unfilled, open_kept, unfilled_kept, open_sealed, unfilled_called, open_ended, unfilled_ended, open_moved, unfilled_moved, leads, free_left, left_ended, made_before, not_below, one_exists, typed_alike, declared, last_declared}
use Rattle.uses.proofs.diamond.diamond.Given.{Over}
use Rattle.uses.proofs.diamond.diamond.Goals as goal
use Rattle.uses.proofs.diamond.diamond.Goals.{After-ins, After-ins-2, After-ins-3, After-ins-4, After-ins-5}

-- THE BLOCK `entry` -----------------------------------------------------------------------------------------------------

params_kept : (g : Over) (c : After-ins g) → Keeps c.create_block-4.new.self c.append_block_param-3.new.self
params_kept g c =
    let first = c.in_ok-c.ensures in
    let second = c.in_ok-a.ensures in
    let third = c.in_ok-b.ensures in
    and_then (same_context first.call first.goes_on.grows first.context)
    (and_then (same_context second.call second.goes_on.grows second.context) (same_context third.call third.goes_on.grows third.context))

-- a block that was made after it, where it ends
open_in_entry : (g : Over) (c : After-ins g) (block : ℕ) → c.in_ok-entry.entry < block → IsOpen c.create_block-4.new.self block → IsOpen c.ins.result.now block
open_in_entry g c block above was =
    let sealed = c.in_ok-seal_block.ensures in
    open_kept (same c.ins.ensures.builder) (open_sealed c.in_ok-entry.entry sealed.call sealed.goes_on.grows sealed.seals.others (not_below above)
    (open_moved c.in_ok-entry.entry c.switch_to_block.ensures.builder (open_kept (params_kept g c) was)))

unfilled_in_entry : (g : Over) (c : After-ins g) (block : ℕ) → IsUnfilled c.create_block-4.new.self block → IsUnfilled c.ins.result.now block
unfilled_in_entry g c block was =
    unfilled_kept (same c.ins.ensures.builder) (unfilled_called c.in_ok-seal_block.ensures.call
    (unfilled_moved c.in_ok-entry.entry c.switch_to_block.ensures.builder (unfilled_kept (params_kept g c) was)))

in_entry : (g : Over) (c : After-ins g) → c.ins.result.now.position ≡ Some c.in_ok-entry.entry
in_entry g c =
    let position = λ (b : FunctionBuilder _). b.position in
    ap position c.ins.ensures.builder ∙ c.in_ok-seal_block.ensures.call.position ∙ ap position c.switch_to_block.ensures.builder

-- the blocks are numbered in the order of their making
entry_then : (g : Over) (c : After-ins g) → c.in_ok-entry.entry < c.in_ok-then_arm.then_arm
entry_then g c = made_before c.in_ok-entry.ensures.exists c.in_ok-then_arm.ensures.number

then_else : (g : Over) (c : After-ins g) → c.in_ok-then_arm.then_arm < c.in_ok-else_arm.else_arm
then_else g c = made_before c.in_ok-then_arm.ensures.exists c.in_ok-else_arm.ensures.number

else_meeting : (g : Over) (c : After-ins g) → c.in_ok-else_arm.else_arm < c.in_ok-meeting.meeting
else_meeting g c = made_before c.in_ok-else_arm.ensures.exists c.in_ok-meeting.ensures.number

entry_else : (g : Over) (c : After-ins g) → c.in_ok-entry.entry < c.in_ok-else_arm.else_arm
entry_else g c = omega (arith, entry_then g c, then_else g c)

entry_meeting : (g : Over) (c : After-ins g) → c.in_ok-entry.entry < c.in_ok-meeting.meeting
entry_meeting g c = omega (arith, entry_else g c, else_meeting g c)

then_meeting : (g : Over) (c : After-ins g) → c.in_ok-then_arm.then_arm < c.in_ok-meeting.meeting
then_meeting g c = omega (arith, then_else g c, else_meeting g c)

made_after_else : (g : Over) (c : After-ins g) → Keeps c.create_block-3.new.self c.create_block-4.new.self
made_after_else g c = let meeting = c.in_ok-meeting.ensures in created meeting.call meeting.goes_on.grows meeting.sealed meeting.variables

made_after_then : (g : Over) (c : After-ins g) → Keeps c.create_block-2.new.self c.create_block-4.new.self
made_after_then g c = let arm = c.in_ok-else_arm.ensures in and_then (created arm.call arm.goes_on.grows arm.sealed arm.variables) (made_after_else g c)

then_open : (g : Over) (c : After-ins g) → IsOpen c.ins.result.now c.in_ok-then_arm.then_arm
then_open g c =
    let arm = c.in_ok-then_arm.ensures in
    open_in_entry g c c.in_ok-then_arm.then_arm (entry_then g c) (open_kept (made_after_then g c) (made_open arm.exists arm.untouched))

then_unfilled : (g : Over) (c : After-ins g) → IsUnfilled c.ins.result.now c.in_ok-then_arm.then_arm
then_unfilled g c = unfilled_in_entry g c c.in_ok-then_arm.then_arm (unfilled_kept (made_after_then g c) (made_unfilled c.in_ok-then_arm.ensures.untouched))

else_open : (g : Over) (c : After-ins g) → IsOpen c.ins.result.now c.in_ok-else_arm.else_arm
else_open g c =
    let arm = c.in_ok-else_arm.ensures in
    open_in_entry g c c.in_ok-else_arm.else_arm (entry_else g c) (open_kept (made_after_else g c) (made_open arm.exists arm.untouched))

else_unfilled : (g : Over) (c : After-ins g) → IsUnfilled c.ins.result.now c.in_ok-else_arm.else_arm
else_unfilled g c = unfilled_in_entry g c c.in_ok-else_arm.else_arm (unfilled_kept (made_after_else g c) (made_unfilled c.in_ok-else_arm.ensures.untouched))

meeting_open : (g : Over) (c : After-ins g) → IsOpen c.ins.result.now c.in_ok-meeting.meeting
meeting_open g c =
    let meeting = c.in_ok-meeting.ensures in
    open_in_entry g c c.in_ok-meeting.meeting (entry_meeting g c) (made_open meeting.exists meeting.untouched)

meeting_unfilled : (g : Over) (c : After-ins g) → IsUnfilled c.ins.result.now c.in_ok-meeting.meeting
meeting_unfilled g c = unfilled_in_entry g c c.in_ok-meeting.meeting (made_unfilled c.in_ok-meeting.ensures.untouched)

pub brif-requires-clause-leads_then : goal.brif-requires-clause-leads_then
brif-requires-clause-leads_then g c = leads (then_open g (goal.at.brif-requires-clause-leads_then g c).After-ins)

pub brif-requires-clause-leads_else : goal.brif-requires-clause-leads_else
brif-requires-clause-leads_else g c = leads (else_open g (goal.at.brif-requires-clause-leads_else g c).After-ins)

-- THE BLOCK `then_arm` --------------------------------------------------------------------------------------------------

pub switch_to_block-requires-2-clause-unfilled : goal.switch_to_block-requires-2-clause-unfilled
switch_to_block-requires-2-clause-unfilled g c =
    let entry = (goal.at.switch_to_block-requires-2-clause-unfilled g c).After-ins in
    (unfilled_ended c.in_ok-brif.ensures.built (c.builder-12-1.given.1 (sym c.ins.ensures.same)) c.in_ok-entry.entry (in_entry g entry)
    (not_below (entry_then g entry)) (then_unfilled g entry)).unfilled

pub seal_block-requires-2-clause-unsealed : goal.seal_block-requires-2-clause-unsealed
seal_block-requires-2-clause-unsealed g c =
    (open_moved c.in_ok-then_arm.then_arm c.switch_to_block-2.ensures.builder
    (open_ended c.in_ok-brif.ensures.built (c.builder-12-1.given.1 (sym c.ins.ensures.same)) (then_open g (goal.at.seal_block-requires-2-clause-unsealed g c).After-ins))).unsealed

then_kept : (g : Over) (c : After-ins-3 g) → Keeps c.seal_block-2.new.self c.ins-3.result.now
then_kept g c =
    let assigned_x = c.in_ok-def_var.ensures in
    lent_on (and_then (valued c.ins-2.ensures.builder c.in_ok-difference.ensures.built (c.builder-16-1.given.1 (sym c.ins-2.ensures.same)))
    (assigned assigned_x.call assigned_x.goes_on.grows assigned_x.sealed assigned_x.variables)) c.ins-3.ensures.builder

in_then : (g : Over) (c : After-ins-3 g) → c.ins-3.result.now.position ≡ Some c.in_ok-then_arm.then_arm
in_then g c = (then_kept g c).position ∙ c.in_ok-seal_block-2.ensures.call.position ∙ ap (λ (b : FunctionBuilder _). b.position) c.switch_to_block-2.ensures.builder

open_in_then : (g : Over) (c : After-ins-3 g) (block : ℕ) → c.in_ok-then_arm.then_arm < block → IsOpen c.ins.result.now block → IsOpen c.ins-3.result.now block
open_in_then g c block above was =
    let sealed = c.in_ok-seal_block-2.ensures in
    open_kept (then_kept g c) (open_sealed c.in_ok-then_arm.then_arm sealed.call sealed.goes_on.grows sealed.seals.others (not_below above)
    (open_moved c.in_ok-then_arm.then_arm c.switch_to_block-2.ensures.builder
    (open_ended c.in_ok-brif.ensures.built (c.builder-12-1.given.1 (sym c.ins.ensures.same)) was)))

unfilled_in_then : (g : Over) (c : After-ins-3 g) (block : ℕ) → c.ins.result.now.position ≡ Some c.in_ok-entry.entry → c.in_ok-entry.entry < block
    → IsUnfilled c.ins.result.now block → IsUnfilled c.ins-3.result.now block
unfilled_in_then g c block at above was =
    unfilled_kept (then_kept g c) (unfilled_called c.in_ok-seal_block-2.ensures.call
    (unfilled_moved c.in_ok-then_arm.then_arm c.switch_to_block-2.ensures.builder
    (unfilled_ended c.in_ok-brif.ensures.built (c.builder-12-1.given.1 (sym c.ins.ensures.same)) c.in_ok-entry.entry at (not_below above) was)))

-- the variable has the type I32 once it is declared
typed : (g : Over) (c : After-ins-2 g) → slice_get c.append_block_param-3.new.self.ctx.now.parts.variables c.in_ok-x.x ≡ Some (Lane I32)
typed g c =
    let x = c.in_ok-x.ensures in
    let entry = c.in_ok-entry.ensures in
    let first = c.in_ok-then_arm.ensures in
    let second = c.in_ok-else_arm.ensures in
    let third = c.in_ok-meeting.ensures in
    let one = c.in_ok-c.ensures in
    let two = c.in_ok-a.ensures in
    let three = c.in_ok-b.ensures in
    let made : Keeps c.declare_var.new.self c.append_block_param-3.new.self =
    and_then (created entry.call entry.goes_on.grows entry.sealed entry.variables) (and_then (created first.call first.goes_on.grows first.sealed first.variables)
    (and_then (created second.call second.goes_on.grows second.sealed second.variables) (and_then (created third.call third.goes_on.grows third.sealed third.variables)
    (and_then (same_context one.call one.goes_on.grows one.context)
    (and_then (same_context two.call two.goes_on.grows two.context) (same_context three.call three.goes_on.grows three.context)))))) in
    last_declared c.new-builder.result.ctx.now.parts.variables c.in_ok-x.x (Lane I32) x.number (made.variables ∙ ap (λ (d : ContextState). d.variables) x.variables)

-- from the parameters to the first arm
to_then : (g : Over) (c : After-ins-2 g) → Carries c.append_block_param-3.new.self c.ins-2.result.now
to_then g c =
    let entry = c.in_ok-seal_block.ensures in
    let arm = c.in_ok-seal_block-2.ensures in
    carries_then (carries_moved c.in_ok-entry.entry c.switch_to_block.ensures.builder) (carries_then (carries_called entry.call entry.goes_on.grows entry.leaves.variables)
    (carries_then (carries_kept (same c.ins.ensures.builder)) (carries_then (carries_ended c.in_ok-brif.ensures.built (c.builder-12-1.given.1 (sym c.ins.ensures.same)))
    (carries_then (carries_moved c.in_ok-then_arm.then_arm c.switch_to_block-2.ensures.builder)
    (carries_then (carries_called arm.call arm.goes_on.grows arm.leaves.variables) (carries_kept (same c.ins-2.ensures.builder)))))))

pub def_var-requires-clause-same_type : goal.def_var-requires-clause-same_type
def_var-requires-clause-same_type g c =
    let then_arm = (goal.at.def_var-requires-clause-same_type g c).After-ins-2 in
    let a = c.in_ok-a.ensures in
    let b = c.in_ok-b.ensures in
    let same_a : (value_at c.append_block_param-3.new.self.func.now c.in_ok-a.a).ty ≡ Lane I32 = b.call.types c.in_ok-a.a a.exists ∙ a.typed in
    typed_alike c.in_ok-x.x c.in_ok-a.a (typed g then_arm ∙ ap (λ (ty : «Type»). Some ty) (sym same_a)) refl (omega (arith, a.exists, b.goes_on.grows.0))
    (to_then g then_arm) c.in_ok-difference.ensures.built (c.builder-16-1.given.1 (sym c.ins-2.ensures.same)) refl

pub jump-requires-clause-leads : goal.jump-requires-clause-leads
jump-requires-clause-leads g c =
    let at = goal.at.jump-requires-clause-leads g c in
    leads (open_in_then g at.After-ins-3 c.in_ok-meeting.meeting (then_meeting g at.After-ins) (meeting_open g at.After-ins))

-- THE BLOCK `else_arm` --------------------------------------------------------------------------------------------------

pub switch_to_block-requires-3-clause-unfilled : goal.switch_to_block-requires-3-clause-unfilled
switch_to_block-requires-3-clause-unfilled g c =
    let at = goal.at.switch_to_block-requires-3-clause-unfilled g c in
    let entry = at.After-ins in
    (unfilled_ended c.in_ok-jump.ensures.built (c.builder-19-1.given.1 (sym c.ins-3.ensures.same)) c.in_ok-then_arm.then_arm (in_then g at.After-ins-3)
    (not_below (then_else g entry)) (unfilled_in_then g at.After-ins-3 c.in_ok-else_arm.else_arm (in_entry g entry) (entry_else g entry) (else_unfilled g entry))).unfilled

pub seal_block-requires-3-clause-unsealed : goal.seal_block-requires-3-clause-unsealed
seal_block-requires-3-clause-unsealed g c =
    let at = goal.at.seal_block-requires-3-clause-unsealed g c in
    let entry = at.After-ins in
    (open_moved c.in_ok-else_arm.else_arm c.switch_to_block-3.ensures.builder
    (open_ended c.in_ok-jump.ensures.built (c.builder-19-1.given.1 (sym c.ins-3.ensures.same))
    (open_in_then g at.After-ins-3 c.in_ok-else_arm.else_arm (then_else g entry) (else_open g entry)))).unsealed

else_kept : (g : Over) (c : After-ins-5 g) → Keeps c.seal_block-3.new.self c.ins-5.result.now
else_kept g c =
    let assigned_x = c.in_ok-def_var-2.ensures in
    lent_on (and_then (valued c.ins-4.ensures.builder c.in_ok-opposite.ensures.built (c.builder-23-1.given.1 (sym c.ins-4.ensures.same)))
    (assigned assigned_x.call assigned_x.goes_on.grows assigned_x.sealed assigned_x.variables)) c.ins-5.ensures.builder

in_else : (g : Over) (c : After-ins-5 g) → c.ins-5.result.now.position ≡ Some c.in_ok-else_arm.else_arm
in_else g c = (else_kept g c).position ∙ c.in_ok-seal_block-3.ensures.call.position ∙ ap (λ (b : FunctionBuilder _). b.position) c.switch_to_block-3.ensures.builder

open_in_else : (g : Over) (c : After-ins-5 g) (block : ℕ) → c.in_ok-else_arm.else_arm < block → IsOpen c.ins-3.result.now block → IsOpen c.ins-5.result.now block
open_in_else g c block above was =
    let sealed = c.in_ok-seal_block-3.ensures in
    open_kept (else_kept g c) (open_sealed c.in_ok-else_arm.else_arm sealed.call sealed.goes_on.grows sealed.seals.others (not_below above)
    (open_moved c.in_ok-else_arm.else_arm c.switch_to_block-3.ensures.builder
    (open_ended c.in_ok-jump.ensures.built (c.builder-19-1.given.1 (sym c.ins-3.ensures.same)) was)))

unfilled_in_else : (g : Over) (c : After-ins-5 g) (block : ℕ) → c.ins-3.result.now.position ≡ Some c.in_ok-then_arm.then_arm → c.in_ok-then_arm.then_arm < block
    → IsUnfilled c.ins-3.result.now block → IsUnfilled c.ins-5.result.now block
unfilled_in_else g c block at above was =
    unfilled_kept (else_kept g c) (unfilled_called c.in_ok-seal_block-3.ensures.call
    (unfilled_moved c.in_ok-else_arm.else_arm c.switch_to_block-3.ensures.builder
    (unfilled_ended c.in_ok-jump.ensures.built (c.builder-19-1.given.1 (sym c.ins-3.ensures.same)) c.in_ok-then_arm.then_arm at (not_below above) was)))

-- from the first arm to the second
to_else : (g : Over) (c : After-ins-4 g) → Carries c.ins-2.result.now c.ins-4.result.now
to_else g c =
    let assigned_x = c.in_ok-def_var.ensures in
    let arm = c.in_ok-seal_block-3.ensures in
    let made : Keeps c.ins-2.result.now c.builder-16-1.given.0 = valued refl c.in_ok-difference.ensures.built (c.builder-16-1.given.1 (sym c.ins-2.ensures.same)) in
    carries_then (carries_kept (lent_on (and_then made (assigned assigned_x.call assigned_x.goes_on.grows assigned_x.sealed assigned_x.variables)) c.ins-3.ensures.builder))
    (carries_then (carries_ended c.in_ok-jump.ensures.built (c.builder-19-1.given.1 (sym c.ins-3.ensures.same)))
    (carries_then (carries_moved c.in_ok-else_arm.else_arm c.switch_to_block-3.ensures.builder)
    (carries_then (carries_called arm.call arm.goes_on.grows arm.leaves.variables) (carries_kept (same c.ins-4.ensures.builder)))))

pub def_var-requires-2-clause-same_type : goal.def_var-requires-2-clause-same_type
def_var-requires-2-clause-same_type g c =
    let at = goal.at.def_var-requires-2-clause-same_type g c in
    let b = c.in_ok-b.ensures in
    typed_alike c.in_ok-x.x c.in_ok-b.b (typed g at.After-ins-2 ∙ ap (λ (ty : «Type»). Some ty) (sym b.typed)) refl b.exists
    (carries_then (to_then g at.After-ins-2) (to_else g at.After-ins-4)) c.in_ok-opposite.ensures.built (c.builder-23-1.given.1 (sym c.ins-4.ensures.same)) refl

pub jump-requires-2-clause-leads : goal.jump-requires-2-clause-leads
jump-requires-2-clause-leads g c =
    let at = goal.at.jump-requires-2-clause-leads g c in
    let entry = at.After-ins in
    leads (open_in_else g at.After-ins-5 c.in_ok-meeting.meeting (else_meeting g entry)
    (open_in_then g at.After-ins-3 c.in_ok-meeting.meeting (then_meeting g entry) (meeting_open g entry)))

-- THE BLOCK `meeting` ---------------------------------------------------------------------------------------------------

pub switch_to_block-requires-4-clause-unfilled : goal.switch_to_block-requires-4-clause-unfilled
switch_to_block-requires-4-clause-unfilled g c =
    let at = goal.at.switch_to_block-requires-4-clause-unfilled g c in
    let entry = at.After-ins in
    (unfilled_ended c.in_ok-jump-2.ensures.built (c.builder-26-1.given.1 (sym c.ins-5.ensures.same)) c.in_ok-else_arm.else_arm (in_else g at.After-ins-5)
    (not_below (else_meeting g entry))
    (unfilled_in_else g at.After-ins-5 c.in_ok-meeting.meeting (in_then g at.After-ins-3) (then_meeting g entry)
    (unfilled_in_then g at.After-ins-3 c.in_ok-meeting.meeting (in_entry g entry) (entry_meeting g entry) (meeting_unfilled g entry)))).unfilled

pub seal_block-requires-4-clause-unsealed : goal.seal_block-requires-4-clause-unsealed
seal_block-requires-4-clause-unsealed g c =
    let at = goal.at.seal_block-requires-4-clause-unsealed g c in
    let entry = at.After-ins in
    (open_moved c.in_ok-meeting.meeting c.switch_to_block-4.ensures.builder
    (open_ended c.in_ok-jump-2.ensures.built (c.builder-26-1.given.1 (sym c.ins-5.ensures.same))
    (open_in_else g at.After-ins-5 c.in_ok-meeting.meeting (else_meeting g entry)
    (open_in_then g at.After-ins-3 c.in_ok-meeting.meeting (then_meeting g entry) (meeting_open g entry))))).unsealed

pub use_var-requires-clause-declared : goal.use_var-requires-clause-declared
use_var-requires-clause-declared g c =
    let at = goal.at.use_var-requires-clause-declared g c in
    let variables = λ (b : FunctionBuilder _). b.ctx.now.parts.variables in
    declared c.append_block_param-3.new.self.ctx.now.parts.variables c.in_ok-x.x (Lane I32) (typed g at.After-ins-2)
    (c.in_ok-seal_block-4.ensures.leaves.variables ∙ ap variables c.switch_to_block-4.ensures.builder
    ∙ ap variables (c.builder-26-1.given.1 (sym c.ins-5.ensures.same)) ∙ c.in_ok-jump-2.ensures.built.variables
    ∙ (else_kept g at.After-ins-5).variables ∙ ap variables (sym c.ins-4.ensures.builder) ∙ (carries_then (to_then g at.After-ins-2) (to_else g at.After-ins-4)).variables)

pub return_-requires-clause-values_exist : goal.return_-requires-clause-values_exist
return_-requires-clause-values_exist g c =
    one_exists (subst (λ (b : FunctionBuilder _). c.in_ok-result.result < length b.func.now.values) (sym c.ins-6.ensures.builder) c.in_ok-result.ensures.used.exists)

-- THE CURRENT BLOCK -----------------------------------------------------------------------------------------------------

pub ins-requires-2 : goal.ins-requires-2
ins-requires-2 g c =
    c.in_ok-seal_block-2.ensures.goes_on.current c.switch_to_block-2.ensures.current

pub isub-requires-clause-current : goal.isub-requires-clause-current
isub-requires-clause-current g c =
    subst HasCurrent (sym c.ins-2.ensures.builder) (c.in_ok-seal_block-2.ensures.goes_on.current c.switch_to_block-2.ensures.current)

pub ins-requires-4 : goal.ins-requires-4
ins-requires-4 g c =
    c.in_ok-seal_block-3.ensures.goes_on.current c.switch_to_block-3.ensures.current

pub isub-requires-2-clause-current : goal.isub-requires-2-clause-current
isub-requires-2-clause-current g c =
    subst HasCurrent (sym c.ins-4.ensures.builder) (c.in_ok-seal_block-3.ensures.goes_on.current c.switch_to_block-3.ensures.current)

pub ins-requires-5 : goal.ins-requires-5
ins-requires-5 g c =
    c.in_ok-def_var-2.ensures.goes_on.current
    (subst HasCurrent (sym (c.builder-23-1.given.1 (sym c.ins-4.ensures.same))) c.in_ok-opposite.ensures.built.current)

pub jump-requires-2-clause-current : goal.jump-requires-2-clause-current
jump-requires-2-clause-current g c =
    subst HasCurrent (sym c.ins-5.ensures.builder) (c.in_ok-def_var-2.ensures.goes_on.current
    (subst HasCurrent (sym (c.builder-23-1.given.1 (sym c.ins-4.ensures.same))) c.in_ok-opposite.ensures.built.current))

pub switch_to_block-requires-4-clause-free : goal.switch_to_block-requires-4-clause-free
switch_to_block-requires-4-clause-free g c =
    free_left c.builder-26-1.given.0 (left_ended c.in_ok-jump-2.ensures.built refl (c.builder-26-1.given.1 (sym c.ins-5.ensures.same)))

pub use_var-requires-clause-current : goal.use_var-requires-clause-current
use_var-requires-clause-current g c =
    c.in_ok-seal_block-4.ensures.goes_on.current c.switch_to_block-4.ensures.current

pub ins-requires-6 : goal.ins-requires-6
ins-requires-6 g c =
    c.in_ok-result.ensures.goes_on.current (c.in_ok-seal_block-4.ensures.goes_on.current c.switch_to_block-4.ensures.current)

pub return_-requires-clause-current : goal.return_-requires-clause-current
return_-requires-clause-current g c =
    subst HasCurrent (sym c.ins-6.ensures.builder) (c.in_ok-result.ensures.goes_on.current (c.in_ok-seal_block-4.ensures.goes_on.current c.switch_to_block-4.ensures.current))
