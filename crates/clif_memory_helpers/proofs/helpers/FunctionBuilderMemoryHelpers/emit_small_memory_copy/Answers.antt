-- Nothing, loads and stores, or a call, by the plan.
use Rattle.std.proofs.Common.{◌≡◌, false, sym, ◌∙◌}
use Rattle.clif_memory_helpers.proofs.Helped.{always, copy_called, copy_inline, copy_nothing, failed_helps}
use Rattle.clif_memory_helpers.proofs.Plans.{planned}
use Rattle.clif_memory_helpers.proofs.helpers.FunctionBuilderMemoryHelpers.emit_small_memory_copy.Goals as goal

pub returns-then-has_failed : goal.returns-then-has_failed
returns-then-has_failed g c = failed_helps c.args.config c.args.self.now c.args.self.now _ _ (sym c.has_failed.ensures ∙ c.if-has_failed.true)

pub copy_pieces-requires-clause-planned : goal.copy_pieces-requires-clause-planned
copy_pieces-requires-clause-planned g c = planned c.plans_are_exact.ensures c.args.size c.in-Inline.accesses c.ranges.size.fits (sym c.plan_move.ensures ∙ c.in-Inline.is)

pub returns-in-Nothing : goal.returns-in-Nothing
returns-in-Nothing g c =
    let sound : c.args.self.now.failed ≡ false = sym c.has_failed.ensures ∙ c.if-has_failed.false in
    copy_nothing c.args.config c.args.self.now c.args.self.now _ c.args.dest c.args.src (sym c.plan_move.ensures ∙ c.in-Nothing.is) sound c.requires.current

pub returns-in-Inline : goal.returns-in-Inline
returns-in-Inline g c =
    copy_inline c.args.config c.args.self.now c.copy_pieces.new.bx _ c.args.dest c.args.src c.in-Inline.accesses c.copy_flags-flags.result c.copy_pieces.result (sym c.plan_move.ensures ∙ c.in-Inline.is)
    c.copy_flags-flags.ensures c.copy_pieces.ensures (always c.copy_pieces.result _ tt)

pub returns-in-LibraryCall : goal.returns-in-LibraryCall
returns-in-LibraryCall g c =
    copy_called c.args.config c.args.self.now c.copy_known_by_call.new.bx _ c.args.dest c.args.src c.copying_function-callee.result c.copy_known_by_call.result (sym c.plan_move.ensures ∙ c.in-LibraryCall.is)
    c.copying_function-callee.ensures c.copy_known_by_call.ensures (always c.copy_known_by_call.result _ tt)
