-- Each block that was made stays, unsealed and unfilled, until its own call; the variable keeps the type I64, and what it holds in
-- the loop goes on existing.
use Rattle.std.proofs.Common.{rules, ◌≡◌, ◌<◌, ℕ, length, refl, sym, subst, ap, ◌∙◌, arith}
use Rattle.std.specs.Prelude.{Some, slice_get}
use Rattle.clif_types.specs.declared.types.«Type».{«Type»}
use Rattle.clif_types.specs.declared.types.«Type».TheVariants.{Lane}
use Rattle.clif_types.specs.declared.types.LaneType.TheVariants.{I64}
use Rattle.clif_builder.specs.Builder.{HasCurrent}
use Rattle.clif_builder.specs.Context.{ContextState}
use Rattle.clif_builder.specs.declared.builder.FunctionBuilder.{FunctionBuilder}
use Rattle.uses.proofs.Lasting.{Keeps, Carries, IsOpen, IsUnfilled, and_then, appended, called, carries_kept, carries_called, carries_ended, carries_moved, carries_then, created, imported, marked, same, same_context, assigned, valued, lent_on, made_open, made_unfilled, open_kept, unfilled_kept, open_sealed, unfilled_called, open_ended, unfilled_ended, open_moved, unfilled_moved, leads, left_ended, made_before, not_below, one_exists, last_declared, typed_anew, unused}
use Rattle.uses.proofs.last_node.last_node.Given.{Over}
use Rattle.uses.proofs.last_node.last_node.Goals as goal
use Rattle.uses.proofs.last_node.last_node.Goals.{After-ins, After-ins-2, After-ins-4}

-- THE VARIABLE ----------------------------------------------------------------------------------------------------------

pub declare_var_needs_stack_map-requires-clause-fits : goal.declare_var_needs_stack_map-requires-clause-fits
declare_var_needs_stack_map-requires-clause-fits g c =
    let node = c.in_ok-node.ensures in
    record {
      ty = Lane I64;
      declared = last_declared c.new-builder.result.ctx.now.parts.variables c.in_ok-node.node (Lane I64) node.number (ap (λ (d : ContextState). d.variables) node.variables);
      fits = record { some = omega arith; fits = omega arith };
    }

pub declare_var_needs_stack_map-requires-clause-unused : goal.declare_var_needs_stack_map-requires-clause-unused
declare_var_needs_stack_map-requires-clause-unused g c = unused c.declare_var.new.self.ctx.now.parts c.in_ok-node.node (search rules)

-- it has the type I64 once it is declared
typed : (g : Over) (c : After-ins g) → slice_get c.append_block_param.new.self.ctx.now.parts.variables c.in_ok-node.node ≡ Some (Lane I64)
typed g c =
    let node = c.in_ok-node.ensures in
    let entry = c.in_ok-entry.ensures in
    let body = c.in_ok-body.ensures in
    let exit = c.in_ok-exit.ensures in
    let first = c.in_ok-first.ensures in
    let made : Keeps c.declare_var.new.self c.append_block_param.new.self =
    and_then (marked c.in_ok-declare_var_needs_stack_map.ensures.marks) (and_then (created entry.call entry.goes_on.grows entry.sealed entry.variables)
    (and_then (created body.call body.goes_on.grows body.sealed body.variables) (and_then (created exit.call exit.goes_on.grows exit.sealed exit.variables)
    (same_context first.call first.goes_on.grows first.context)))) in
    last_declared c.new-builder.result.ctx.now.parts.variables c.in_ok-node.node (Lane I64) node.number (made.variables ∙ ap (λ (d : ContextState). d.variables) node.variables)

-- THE BLOCK `entry` -----------------------------------------------------------------------------------------------------

entry_kept : (g : Over) (c : After-ins g) → Keeps c.seal_block.new.self c.ins.result.now
entry_kept g c = let node = c.in_ok-def_var.ensures in lent_on (assigned node.call node.goes_on.grows node.sealed node.variables) c.ins.ensures.builder

in_entry : (g : Over) (c : After-ins g) → c.ins.result.now.position ≡ Some c.in_ok-entry.entry
in_entry g c = (entry_kept g c).position ∙ c.in_ok-seal_block.ensures.call.position ∙ ap (λ (b : FunctionBuilder _). b.position) c.switch_to_block.ensures.builder

-- a block that was made after it, where it jumps
open_in_entry : (g : Over) (c : After-ins g) (block : ℕ) → c.in_ok-entry.entry < block → IsOpen c.create_block-3.new.self block → IsOpen c.ins.result.now block
open_in_entry g c block above was =
    let first = c.in_ok-first.ensures in
    let sealed = c.in_ok-seal_block.ensures in
    open_kept (entry_kept g c) (open_sealed c.in_ok-entry.entry sealed.call sealed.goes_on.grows sealed.seals.others (not_below above)
    (open_moved c.in_ok-entry.entry c.switch_to_block.ensures.builder (open_kept (same_context first.call first.goes_on.grows first.context) was)))

unfilled_in_entry : (g : Over) (c : After-ins g) (block : ℕ) → IsUnfilled c.create_block-3.new.self block → IsUnfilled c.ins.result.now block
unfilled_in_entry g c block was =
    let first = c.in_ok-first.ensures in
    unfilled_kept (entry_kept g c) (unfilled_called c.in_ok-seal_block.ensures.call
    (unfilled_moved c.in_ok-entry.entry c.switch_to_block.ensures.builder (unfilled_kept (same_context first.call first.goes_on.grows first.context) was)))

-- the blocks are numbered in the order of their making
entry_body : (g : Over) (c : After-ins g) → c.in_ok-entry.entry < c.in_ok-body.body
entry_body g c = made_before c.in_ok-entry.ensures.exists c.in_ok-body.ensures.number

body_exit : (g : Over) (c : After-ins g) → c.in_ok-body.body < c.in_ok-exit.exit
body_exit g c = made_before c.in_ok-body.ensures.exists c.in_ok-exit.ensures.number

entry_exit : (g : Over) (c : After-ins g) → c.in_ok-entry.entry < c.in_ok-exit.exit
entry_exit g c = omega (arith, entry_body g c, body_exit g c)

made_after_body : (g : Over) (c : After-ins g) → Keeps c.create_block-2.new.self c.create_block-3.new.self
made_after_body g c = let exit = c.in_ok-exit.ensures in created exit.call exit.goes_on.grows exit.sealed exit.variables

body_open : (g : Over) (c : After-ins g) → IsOpen c.ins.result.now c.in_ok-body.body
body_open g c =
    let body = c.in_ok-body.ensures in
    open_in_entry g c c.in_ok-body.body (entry_body g c) (open_kept (made_after_body g c) (made_open body.exists body.untouched))

body_unfilled : (g : Over) (c : After-ins g) → IsUnfilled c.ins.result.now c.in_ok-body.body
body_unfilled g c = unfilled_in_entry g c c.in_ok-body.body (unfilled_kept (made_after_body g c) (made_unfilled c.in_ok-body.ensures.untouched))

exit_open : (g : Over) (c : After-ins g) → IsOpen c.ins.result.now c.in_ok-exit.exit
exit_open g c = let exit = c.in_ok-exit.ensures in open_in_entry g c c.in_ok-exit.exit (entry_exit g c) (made_open exit.exists exit.untouched)

exit_unfilled : (g : Over) (c : After-ins g) → IsUnfilled c.ins.result.now c.in_ok-exit.exit
exit_unfilled g c = unfilled_in_entry g c c.in_ok-exit.exit (made_unfilled c.in_ok-exit.ensures.untouched)

pub jump-requires-clause-leads : goal.jump-requires-clause-leads
jump-requires-clause-leads g c = leads (body_open g (goal.at.jump-requires-clause-leads g c).After-ins)

-- THE BLOCK `body` ------------------------------------------------------------------------------------------------------

pub switch_to_block-requires-2-clause-unfilled : goal.switch_to_block-requires-2-clause-unfilled
switch_to_block-requires-2-clause-unfilled g c =
    let entry = (goal.at.switch_to_block-requires-2-clause-unfilled g c).After-ins in
    (unfilled_ended c.in_ok-jump.ensures.built (c.builder-11-1.given.1 (sym c.ins.ensures.same)) c.in_ok-entry.entry (in_entry g entry)
    (not_below (entry_body g entry)) (body_unfilled g entry)).unfilled

-- from the use of the variable to the branch
loaded : (g : Over) (c : After-ins-4 g) → Keeps c.use_var.new.self c.builder-18-1.given.0
loaded g c =
    and_then (imported c.in_ok-visit.ensures.imports)
    (and_then (appended c.ins-2.ensures.builder c.in_ok-call.ensures.built refl (c.builder-16-1.given.1 (sym c.ins-2.ensures.same)))
    (valued c.ins-3.ensures.builder c.in_ok-next.ensures.built (c.builder-18-1.given.1 (sym c.ins-3.ensures.same))))

body_kept : (g : Over) (c : After-ins-4 g) → Keeps c.switch_to_block-2.new.self c.ins-4.result.now
body_kept g c =
    let here = c.in_ok-here.ensures in
    let node = c.in_ok-def_var-2.ensures in
    lent_on (and_then (called here.call here.goes_on.grows here.used.seals here.used.variables) (and_then (loaded g c)
    (assigned node.call node.goes_on.grows node.sealed node.variables))) c.ins-4.ensures.builder

in_body : (g : Over) (c : After-ins-4 g) → c.ins-4.result.now.position ≡ Some c.in_ok-body.body
in_body g c = (body_kept g c).position ∙ ap (λ (b : FunctionBuilder _). b.position) c.switch_to_block-2.ensures.builder

open_in_body : (g : Over) (c : After-ins-4 g) (block : ℕ) → IsOpen c.ins.result.now block → IsOpen c.ins-4.result.now block
open_in_body g c block was =
    open_kept (body_kept g c) (open_moved c.in_ok-body.body c.switch_to_block-2.ensures.builder
    (open_ended c.in_ok-jump.ensures.built (c.builder-11-1.given.1 (sym c.ins.ensures.same)) was))

pub brif-requires-clause-leads_then : goal.brif-requires-clause-leads_then
brif-requires-clause-leads_then g c =
    let at = goal.at.brif-requires-clause-leads_then g c in
    leads (open_in_body g at.After-ins-4 c.in_ok-body.body (body_open g at.After-ins))

pub brif-requires-clause-leads_else : goal.brif-requires-clause-leads_else
brif-requires-clause-leads_else g c =
    let at = goal.at.brif-requires-clause-leads_else g c in
    leads (open_in_body g at.After-ins-4 c.in_ok-exit.exit (exit_open g at.After-ins))

pub seal_block-requires-2-clause-unsealed : goal.seal_block-requires-2-clause-unsealed
seal_block-requires-2-clause-unsealed g c =
    let at = goal.at.seal_block-requires-2-clause-unsealed g c in
    (open_ended c.in_ok-brif.ensures.built (c.builder-21-1.given.1 (sym c.ins-4.ensures.same))
    (open_in_body g at.After-ins-4 c.in_ok-body.body (body_open g at.After-ins))).unsealed

pub seal_block-requires-3-clause-unsealed : goal.seal_block-requires-3-clause-unsealed
seal_block-requires-3-clause-unsealed g c =
    let at = goal.at.seal_block-requires-3-clause-unsealed g c in
    let sealed = c.in_ok-seal_block-2.ensures in
    (open_sealed c.in_ok-body.body sealed.call sealed.goes_on.grows sealed.seals.others (not_below (body_exit g at.After-ins))
    (open_ended c.in_ok-brif.ensures.built (c.builder-21-1.given.1 (sym c.ins-4.ensures.same))
    (open_in_body g at.After-ins-4 c.in_ok-exit.exit (exit_open g at.After-ins)))).unsealed

-- THE BLOCK `exit` ------------------------------------------------------------------------------------------------------

pub switch_to_block-requires-3-clause-unfilled : goal.switch_to_block-requires-3-clause-unfilled
switch_to_block-requires-3-clause-unfilled g c =
    let at = goal.at.switch_to_block-requires-3-clause-unfilled g c in
    let entry = at.After-ins in
    let body = at.After-ins-4 in
    (unfilled_called c.in_ok-seal_block-3.ensures.call (unfilled_called c.in_ok-seal_block-2.ensures.call
    (unfilled_ended c.in_ok-brif.ensures.built (c.builder-21-1.given.1 (sym c.ins-4.ensures.same)) c.in_ok-body.body (in_body g body) (not_below (body_exit g entry))
    (unfilled_kept (body_kept g body) (unfilled_moved c.in_ok-body.body c.switch_to_block-2.ensures.builder
    (unfilled_ended c.in_ok-jump.ensures.built (c.builder-11-1.given.1 (sym c.ins.ensures.same)) c.in_ok-entry.entry (in_entry g entry)
    (not_below (entry_exit g entry)) (exit_unfilled g entry))))))).unfilled

-- WHAT THE VARIABLE HOLDS ------------------------------------------------------------------------------------------------

-- from the parameter to the use
to_body : (g : Over) (c : After-ins-2 g) → Keeps c.seal_block.new.self c.ins.result.now → Carries c.append_block_param.new.self c.use_var.new.self
to_body g c entry =
    let sealed = c.in_ok-seal_block.ensures in
    let here = c.in_ok-here.ensures in
    carries_then (carries_moved c.in_ok-entry.entry c.switch_to_block.ensures.builder) (carries_then (carries_called sealed.call sealed.goes_on.grows sealed.leaves.variables)
    (carries_then (carries_kept entry) (carries_then (carries_ended c.in_ok-jump.ensures.built (c.builder-11-1.given.1 (sym c.ins.ensures.same)))
    (carries_then (carries_moved c.in_ok-body.body c.switch_to_block-2.ensures.builder) (carries_kept (called here.call here.goes_on.grows here.used.seals here.used.variables))))))

pub load-requires-clause-p_exists : goal.load-requires-clause-p_exists
load-requires-clause-p_exists g c =
    let kept : Keeps c.use_var.new.self c.ins-3.result.now =
    lent_on (and_then (imported c.in_ok-visit.ensures.imports)
    (appended c.ins-2.ensures.builder c.in_ok-call.ensures.built refl (c.builder-16-1.given.1 (sym c.ins-2.ensures.same)))) c.ins-3.ensures.builder in
    omega (arith, c.in_ok-here.ensures.used.exists, kept.grows.0)

pub def_var-requires-2-clause-same_type : goal.def_var-requires-2-clause-same_type
def_var-requires-2-clause-same_type g c =
    let at = goal.at.def_var-requires-2-clause-same_type g c in
    let came = c.builder-18-1.given.1 (sym c.ins-3.ensures.same) in
    let kept : Keeps c.use_var.new.self c.builder-18-1.given.0 =
    and_then (imported c.in_ok-visit.ensures.imports)
    (and_then (appended c.ins-2.ensures.builder c.in_ok-call.ensures.built refl (c.builder-16-1.given.1 (sym c.ins-2.ensures.same)))
    (valued c.ins-3.ensures.builder c.in_ok-next.ensures.built came)) in
    typed_anew c.in_ok-node.node (typed g at.After-ins) (kept.variables ∙ (to_body g at.After-ins-2 (entry_kept g at.After-ins)).variables)
    c.in_ok-next.ensures.built came

pub return_-requires-clause-values_exist : goal.return_-requires-clause-values_exist
return_-requires-clause-values_exist g c =
    let at = goal.at.return_-requires-clause-values_exist g c in
    let node = c.in_ok-def_var-2.ensures in
    let body = c.in_ok-seal_block-2.ensures in
    let exit = c.in_ok-seal_block-3.ensures in
    let to_exit : Carries c.use_var.new.self c.ins-5.result.now =
    carries_then (carries_kept (lent_on (and_then (loaded g at.After-ins-4) (assigned node.call node.goes_on.grows node.sealed node.variables)) c.ins-4.ensures.builder))
    (carries_then (carries_ended c.in_ok-brif.ensures.built (c.builder-21-1.given.1 (sym c.ins-4.ensures.same)))
    (carries_then (carries_called body.call body.goes_on.grows body.leaves.variables) (carries_then (carries_called exit.call exit.goes_on.grows exit.leaves.variables)
    (carries_then (carries_moved c.in_ok-exit.exit c.switch_to_block-3.ensures.builder) (carries_kept (same c.ins-5.ensures.builder)))))) in
    one_exists (omega (arith, c.in_ok-here.ensures.used.exists, to_exit.values))

pub switch_to_block-requires-3-clause-free : goal.switch_to_block-requires-3-clause-free
switch_to_block-requires-3-clause-free g c =
    c.in_ok-seal_block-3.ensures.call.free (c.in_ok-seal_block-2.ensures.call.left
    (left_ended c.in_ok-brif.ensures.built refl (c.builder-21-1.given.1 (sym c.ins-4.ensures.same))))
