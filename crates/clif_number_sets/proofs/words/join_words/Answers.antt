use Rattle.std.proofs.Common.{◌+◌, ℕ, true, get_or, set, subst, refl, arith, bit_or}
use Rattle.clif_number_sets.proofs.Joining.{Joined, joined_all, joined_as, joined_grown, joined_kept, joined_none, joined_one}
use Rattle.clif_number_sets.proofs.words.join_words.Goals as goal
use Rattle.clif_number_sets.proofs.words.join_words.Goals.{then-joined-target, else-joined-target}

pub loop-number-init : goal.loop-number-init
loop-number-init c = joined_none c.args.target.now c.args.source.now c.args.start (λ k. let h = c.type_inv.target k in omega arith)

pub loop-number-preserved : goal.loop-number-preserved
loop-number-preserved c =
    let old = c.args.target.now in
    let source = c.args.source.now in
    let start : ℕ = c.args.start in
    let number : ℕ = c.loop-number.number in
    let words = c.loop-number.target in
    let value : ℕ = bit_or (get_or words (start + number) 0) (get_or source number 0) in
    elim c.if-joined-target.branch [
      | then-joined-target w ↦
          joined_as old source start (number + 1) (set words (start + number) value) c.if-joined-target.target true c.if-joined-target.grown
          (joined_one old source start number words c.loop-number.grown c.loop-number.invariant value (omega arith) refl w.if-joined-target.true)
          w.target-is w.grown-is
      | else-joined-target w ↦
          joined_as old source start (number + 1) words c.if-joined-target.target c.loop-number.grown c.if-joined-target.grown
          (joined_kept old source start number words c.loop-number.grown c.loop-number.invariant w.if-joined-target.false)
          w.target-is w.grown-is
    ]

pub returns-clause-united : goal.returns-clause-united
returns-clause-united c =
    joined_all c.args.target.now c.args.source.now c.args.start c.loop-number.number c.loop-number.target c.loop-number.grown (omega arith) c.loop-number.invariant

pub returns-clause-grown : goal.returns-clause-grown
returns-clause-grown c grown =
    joined_grown c.args.target.now c.args.source.now c.args.start c.loop-number.number c.loop-number.target (omega arith)
    (λ k. let h = c.type_inv.source k in omega arith)
    (subst (λ g. Joined c.args.target.now c.args.source.now c.args.start c.loop-number.number c.loop-number.target g) grown c.loop-number.invariant)
