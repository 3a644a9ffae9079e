use Rattle.std.proofs.Common.{◌≡◌, ◌∙◌, ◌<◌, ℕ, [], ◌∷◌, ◌+◌, length, length-append, refl, sym, ap, subst, arith, inl, inr}
use Rattle.clif_instructions.specs.Members.{Stands}
use Rattle.std.proofs.Math.ListN.{get_or-append}
use Rattle.clif_nodes.specs.Nodes.{BlockNode, empty_block}
use Rattle.clif_ir.specs.Body.{Body, block_at}
use Rattle.clif_ir.specs.Changes.{with_block, with_cold, with_layout_after}
use Rattle.clif_ir.proofs.Orders.{put_behind-new, put_behind-stood}
use Rattle.clif_spiller.specs.Keeping.{Keeps}
use Rattle.clif_instructions.proofs.Lists.{at_push}
use Rattle.clif_spiller.proofs.Keeping.{at_set_or_not, keeps_trans, length_set, with_block_keeps, with_cold_keeps, with_layout_after_keeps}
use Rattle.clif_spiller.proofs.landing.make_landing.Goals as goal
use Rattle.clif_spiller.proofs.landing.make_landing.Goals.{After-is_cold, else-is_cold, then-is_cold}

-- before the block is made cold
put : (c : After-is_cold) → Keeps (length c.args.func.now.blocks) c.args.func.now c.insert_block_after.new.self
put c =
    let f : Body = c.args.func.now in
    let n : ℕ = length f.blocks in
    subst (Keeps n f) (sym c.insert_block_after.ensures)
    (subst (λ (g : Body). Keeps n f (with_layout_after g c.in_ok-landing.landing c.args.last)) (sym c.in_ok-landing.ensures.ok)
    (keeps_trans n f (with_block f) (with_layout_after (with_block f) c.in_ok-landing.landing c.args.last) (with_block_keeps f)
    (with_layout_after_keeps n (with_block f) c.in_ok-landing.landing c.args.last)))

inside : (c : After-is_cold) → Stands c.in_ok-landing.landing c.insert_block_after.new.self.layout
inside c =
    subst (λ (g : Body). Stands c.in_ok-landing.landing g.layout) (sym c.insert_block_after.ensures)
    (put_behind-new c.in_ok-landing.landing c.args.last c.create_block.new.self.layout
    (subst (λ (g : Body). Stands c.args.last g.layout) (sym c.in_ok-landing.ensures.ok) c.requires.inside))

pub returns-clause-ok : goal.returns-clause-ok
returns-clause-ok c =
    let f : Body = c.args.func.now in
    let n : ℕ = length f.blocks in
    let put = put (goal.at.returns-clause-ok c).After-is_cold in
    elim c.if-is_cold.branch [
      | then-is_cold w ↦
          subst (Keeps n f) (sym (w.func-is ∙ w.set_cold_block.ensures))
          (keeps_trans n f c.insert_block_after.new.self (with_cold c.insert_block_after.new.self c.in_ok-landing.landing) put
          (with_cold_keeps n c.insert_block_after.new.self c.in_ok-landing.landing (omega (arith, c.in_ok-landing.ensures.number))))
      | else-is_cold w ↦ subst (Keeps n f) (sym w.func-is) put
    ]

pub returns-clause-inside : goal.returns-clause-inside
returns-clause-inside c =
    let inside = inside (goal.at.returns-clause-inside c).After-is_cold in
    elim c.if-is_cold.branch [
      | then-is_cold w ↦ subst (λ (g : Body). Stands c.in_ok-landing.landing g.layout) (sym (w.func-is ∙ w.set_cold_block.ensures)) inside
      | else-is_cold w ↦ subst (λ (g : Body). Stands c.in_ok-landing.landing g.layout) (sym w.func-is) inside
    ]

-- the tables stay
same_tables : (c : After-is_cold) → c.insert_block_after.new.self.tables ≡ c.args.func.now.tables
same_tables c = ap (λ (g : Body). g.tables) c.insert_block_after.ensures ∙ ap (λ (g : Body). g.tables) c.in_ok-landing.ensures.ok

pub returns-clause-tables : goal.returns-clause-tables
returns-clause-tables c =
    let same = same_tables (goal.at.returns-clause-tables c).After-is_cold in
    elim c.if-is_cold.branch [
      | then-is_cold w ↦ ap (λ (g : Body). g.tables) (w.func-is ∙ w.set_cold_block.ensures) ∙ same
      | else-is_cold w ↦ ap (λ (g : Body). g.tables) w.func-is ∙ same
    ]

-- the blocks that were there keep their instructions
same_lists : (c : After-is_cold) (b : ℕ) → b < length c.args.func.now.blocks → (block_at c.insert_block_after.new.self b).insts ≡ (block_at c.args.func.now b).insts
same_lists c b below =
    ap (λ (g : Body). (block_at g b).insts) c.insert_block_after.ensures ∙ ap (λ (g : Body). (block_at g b).insts) c.in_ok-landing.ensures.ok
    ∙ ap (λ (m : BlockNode). m.insts) (get_or-append c.args.func.now.blocks (empty_block ∷ []) empty_block b below)

cold_lists : (g : Body) (landing b : ℕ) → (block_at (with_cold g landing) b).insts ≡ (block_at g b).insts
cold_lists g landing b =
    at_set_or_not (λ (m : BlockNode). m.insts ≡ (block_at g b).insts) g.blocks landing _ b empty_block (λ same. ap (λ (d : ℕ). (block_at g d).insts) (sym same)) refl

pub returns-clause-lists : goal.returns-clause-lists
returns-clause-lists c = λ b below.
    let same = same_lists (goal.at.returns-clause-lists c).After-is_cold b below in
    elim c.if-is_cold.branch [
      | then-is_cold w ↦
          ap (λ (g : Body). (block_at g b).insts) (w.func-is ∙ w.set_cold_block.ensures) ∙ cold_lists c.insert_block_after.new.self c.in_ok-landing.landing b ∙ same
      | else-is_cold w ↦ ap (λ (g : Body). (block_at g b).insts) w.func-is ∙ same
    ]

-- the layout has no other block more
same_layout : (c : After-is_cold) (b : ℕ) → b < length c.args.func.now.blocks → Stands b c.insert_block_after.new.self.layout → Stands b c.args.func.now.layout
same_layout c b below stands =
    elim (put_behind-stood c.in_ok-landing.landing c.args.last b c.create_block.new.self.layout (subst (λ (g : Body). Stands b g.layout) c.insert_block_after.ensures stands)) [
      | inl new ↦ absurd (omega (arith, new, below, c.in_ok-landing.ensures.number))
      | inr old ↦ subst (λ (g : Body). Stands b g.layout) c.in_ok-landing.ensures.ok old
    ]

pub returns-clause-layout : goal.returns-clause-layout
returns-clause-layout c = λ b below stands.
    let now = (goal.at.returns-clause-layout c).After-is_cold in
    elim c.if-is_cold.branch [
      | then-is_cold w ↦ same_layout now b below (subst (λ (g : Body). Stands b g.layout) (w.func-is ∙ w.set_cold_block.ensures) stands)
      | else-is_cold w ↦ same_layout now b below (subst (λ (g : Body). Stands b g.layout) w.func-is stands)
    ]

-- the new block is the last one, and empty
made : (c : After-is_cold) → (length c.insert_block_after.new.self.blocks ≡ length c.args.func.now.blocks + 1)
    × ((block_at c.insert_block_after.new.self c.in_ok-landing.landing).params ≡ []) × ((block_at c.insert_block_after.new.self c.in_ok-landing.landing).insts ≡ [])
made c =
    let f : Body = c.args.func.now in
    let node : block_at c.insert_block_after.new.self c.in_ok-landing.landing ≡ empty_block =
    ap (λ (g : Body). block_at g c.in_ok-landing.landing) (c.insert_block_after.ensures ∙ ap (λ (g : Body). with_layout_after g c.in_ok-landing.landing c.args.last) c.in_ok-landing.ensures.ok)
    ∙ at_push (λ (m : BlockNode). m ≡ empty_block) f.blocks empty_block c.in_ok-landing.landing empty_block
    (λ below. absurd (omega (arith, below, c.in_ok-landing.ensures.number))) (λ _. refl) (λ past. absurd (omega (arith, past, c.in_ok-landing.ensures.number))) in (
      ap (λ (g : Body). length g.blocks) (c.insert_block_after.ensures ∙ ap (λ (g : Body). with_layout_after g c.in_ok-landing.landing c.args.last) c.in_ok-landing.ensures.ok)
          ∙ length-append f.blocks (empty_block ∷ []),
      ap (λ (m : BlockNode). m.params) node,
      ap (λ (m : BlockNode). m.insts) node,
    )

cold_params : (g : Body) (landing b : ℕ) → (block_at (with_cold g landing) b).params ≡ (block_at g b).params
cold_params g landing b =
    at_set_or_not (λ (m : BlockNode). m.params ≡ (block_at g b).params) g.blocks landing _ b empty_block (λ same. ap (λ (d : ℕ). (block_at g d).params) (sym same)) refl

pub returns-clause-count : goal.returns-clause-count
returns-clause-count c =
    let count = (made (goal.at.returns-clause-count c).After-is_cold).0 in
    elim c.if-is_cold.branch [
      | then-is_cold w ↦ ap (λ (g : Body). length g.blocks) (w.func-is ∙ w.set_cold_block.ensures)
          ∙ length_set c.insert_block_after.new.self.blocks c.in_ok-landing.landing _ ∙ count
      | else-is_cold w ↦ ap (λ (g : Body). length g.blocks) w.func-is ∙ count
    ]

pub returns-clause-empty : goal.returns-clause-empty
returns-clause-empty c =
    let node = made (goal.at.returns-clause-empty c).After-is_cold in
    elim c.if-is_cold.branch [
      | then-is_cold w ↦ (
        ap (λ (g : Body). (block_at g c.in_ok-landing.landing).params) (w.func-is ∙ w.set_cold_block.ensures)
            ∙ cold_params c.insert_block_after.new.self c.in_ok-landing.landing c.in_ok-landing.landing ∙ node.1,
        ap (λ (g : Body). (block_at g c.in_ok-landing.landing).insts) (w.func-is ∙ w.set_cold_block.ensures)
            ∙ cold_lists c.insert_block_after.new.self c.in_ok-landing.landing c.in_ok-landing.landing ∙ node.2,
      )
      | else-is_cold w ↦ (
        ap (λ (g : Body). (block_at g c.in_ok-landing.landing).params) w.func-is ∙ node.1,
        ap (λ (g : Body). (block_at g c.in_ok-landing.landing).insts) w.func-is ∙ node.2,
      )
    ]
