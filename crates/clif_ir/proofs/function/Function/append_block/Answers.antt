use Rattle.std.proofs.Common.{◌∙◌, ap, sym, List, ℕ}
use Rattle.clif_ir.proofs.Orders.{put_behind-end, Stands-last}
use Rattle.clif_ir.proofs.function.Function.append_block.Goals as goal

pub insert_block_after-requires-clause-inside : goal.insert_block_after-requires-clause-inside
insert_block_after-requires-clause-inside c = Stands-last _ _ (sym c.last_block.ensures ∙ c.in-Some.is)

pub returns-in-Some-clause-ok : goal.returns-in-Some-clause-ok
returns-in-Some-clause-ok c =
    c.insert_block_after.ensures
    ∙ ap (λ (layout : List ℕ). record c.args.self.now { layout = layout }) (put_behind-end _ _ _ c.law_consistent.ensures.layout_once (sym c.last_block.ensures ∙ c.in-Some.is))
