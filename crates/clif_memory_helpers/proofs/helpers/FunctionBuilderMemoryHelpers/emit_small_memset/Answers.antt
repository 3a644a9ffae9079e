-- Nothing, stores of a constant, or a call, by the plan.
use Rattle.std.proofs.Common.{◌≡◌, false, sym, ◌∙◌, ap}
use Rattle.clif_helper_calls.specs.Codes.{flags_where}
use Rattle.clif_memory_helpers.proofs.Helped.{failed_helps, fill_called, fill_inline, fill_nothing}
use Rattle.clif_memory_helpers.proofs.Plans.{planned}
use Rattle.clif_memory_helpers.proofs.helpers.FunctionBuilderMemoryHelpers.emit_small_memset.Goals as goal

pub returns-then-has_failed : goal.returns-then-has_failed
returns-then-has_failed g c = failed_helps c.args.config c.args.self.now c.args.self.now _ _ (sym c.has_failed.ensures ∙ c.if-has_failed.true)

pub fill_pieces-requires-clause-planned : goal.fill_pieces-requires-clause-planned
fill_pieces-requires-clause-planned g c = planned c.plans_are_exact.ensures c.args.size c.in-Inline.accesses c.ranges.size.fits (sym c.plan_move.ensures ∙ c.in-Inline.is)

pub returns-in-Nothing : goal.returns-in-Nothing
returns-in-Nothing g c =
    let sound : c.args.self.now.failed ≡ false = sym c.has_failed.ensures ∙ c.if-has_failed.false in
    fill_nothing c.args.config c.args.self.now c.args.self.now _ c.args.buffer (sym c.plan_move.ensures ∙ c.in-Nothing.is) sound c.requires.current

pub returns-in-Inline : goal.returns-in-Inline
returns-in-Inline g c =
    fill_inline c.args.config c.args.self.now c.fill_pieces.new.bx _ c.args.buffer c.in-Inline.accesses c.flags_where-flags.result c.fill_pieces.ensures.filling c.fill_pieces.result (sym c.plan_move.ensures ∙ c.in-Inline.is)
    (c.flags_where-flags.ensures ∙ ap (flags_where c.args.flags) c.are_aligned.ensures) c.fill_pieces.ensures.repeats c.fill_pieces.ensures.made

pub returns-in-LibraryCall : goal.returns-in-LibraryCall
returns-in-LibraryCall g c =
    fill_called c.args.config c.args.self.now c.fill_known_by_call.new.bx _ c.args.buffer c.fill_known_by_call.result (sym c.plan_move.ensures ∙ c.in-LibraryCall.is) c.fill_known_by_call.ensures
