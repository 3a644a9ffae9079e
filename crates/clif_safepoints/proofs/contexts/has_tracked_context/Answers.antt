use Rattle.std.proofs.Common.{◌≡◌, ◌∙◌, ℕ, ap, sym, Some, true}
use Rattle.std.proofs.lemmas.Bool.{false≢true}
use Rattle.clif_instructions.specs.Members.{stands_in}
use Rattle.clif_ir.specs.Body.{inst_at}
use Rattle.clif_meaning.specs.View.{view_of}
use Rattle.clif_safepoints.specs.Analysis.{IsReached}
use Rattle.clif_number_sets.specs.Sets.{is_in}
use Rattle.clif_safepoints.proofs.Tracking.{inst_reachable, reachable_inst}
use Rattle.clif_safepoints.proofs.contexts.has_tracked_context.Goals as goal

-- the block of the instruction
same : (block own : ℕ) → Some block ≡ Some own → block ≡ own
same block own is = cc

pub returns-then-not-contains : goal.returns-then-not-contains
returns-then-not-contains c = (
  λ yes. absurd (false≢true yes),
  λ h. absurd (false≢true (c.if-not-contains.ensures
      ∙ ap (is_in c.args.reached.now) (c.index.ensures.place ∙ same c.in-Some.block (inst_at c.args.func.now c.args.inst).block c.in-Some.ensures)
      ∙ (c.requires.reached.members (inst_at c.args.func.now c.args.inst).block).1 (reachable_inst c.args.func.now c.args.inst h.reachable).0)),
)

pub returns-then-not-is_block_inserted : goal.returns-then-not-is_block_inserted
returns-then-not-is_block_inserted c = (
  λ yes. absurd (false≢true yes),
  λ h. absurd (false≢true (c.if-not-is_block_inserted.ensures.test
      ∙ ap (λ b. stands_in b c.args.func.now.layout) (same c.in-Some.block (inst_at c.args.func.now c.args.inst).block c.in-Some.ensures)
      ∙ (reachable_inst c.args.func.now c.args.inst h.reachable).1)),
)

pub returns : goal.returns
returns c =
    let own = same c.in-Some.block (inst_at c.args.func.now c.args.inst).block c.in-Some.ensures in
    let stands : stands_in (inst_at c.args.func.now c.args.inst).block c.args.func.now.layout ≡ true =
    ap (λ b. stands_in b c.args.func.now.layout) (sym own) ∙ sym c.if-not-is_block_inserted.ensures.test in
    let reached : IsReached (view_of c.args.func.now) (inst_at c.args.func.now c.args.inst).block =
    (c.requires.reached.members (inst_at c.args.func.now c.args.inst).block).0
    (ap (is_in c.args.reached.now) (sym (c.index.ensures.place ∙ own)) ∙ sym c.if-not-contains.ensures) in (
      λ yes. record {
        exists = c.requires.exists;
        reachable = inst_reachable c.args.func.now c.law_consistent.ensures c.args.inst c.requires.exists stands reached;
        context = c.names_tracked.ensures.0 yes;
      },
      λ h. c.names_tracked.ensures.1 h.context,
    )
