use Rattle.std.proofs.Common.{◌≡◌, ◌∙◌, length, sym, ap, subst, arith}
use Rattle.clif_number_sets.specs.Words.{spread, marks_of, words_for, LieWithin, NoneFrom}
use Rattle.clif_number_sets.proofs.Marks.{length-marks}
use Rattle.clif_number_sets.proofs.Unions.{grown_after, known_after, none_after, union_after}
use Rattle.clif_number_sets.proofs.number_row.NumberRow.add_all.Goals as goal

pub add-requires : goal.add-requires
add-requires c =
    let own = spread c.self.inside.run.first c.self.inside.run.words.items in
    let same : c.self.inside.size ≡ c.other.inside.size =
    sym (length-marks c.self.inside.size own) ∙ ap length c.self.view_is ∙ c.requires ∙ ap length (sym c.other.view_is) ∙ length-marks c.other.inside.size c.other.inside.words.items in
    let reach : words_for c.self.inside.size ≡ length c.as_slice.result.now = ap words_for same ∙ sym c.other.invariant.0 ∙ ap length (sym c.as_slice.ensures.value) in
    record {
      inside = omega (arith, reach, c.self.invariant.0);
      within = subst (λ ws. LieWithin c.other.inside.first c.other.inside.end ws) (sym c.as_slice.ensures.value) c.other.invariant.2;
    }

pub invariant_of-self : goal.invariant_of-self
invariant_of-self c =
    let old = spread c.self.inside.run.first c.self.inside.run.words.items in
    let new = spread c.add.new.self.first c.add.new.self.words.items in
    let others = c.as_slice.result.now in
    let same : c.self.inside.size ≡ c.other.inside.size =
    sym (length-marks c.self.inside.size old) ∙ ap length c.self.view_is ∙ c.requires ∙ ap length (sym c.other.view_is) ∙ length-marks c.other.inside.size c.other.inside.words.items in
    let reach : words_for c.self.inside.size ≡ length others = ap words_for same ∙ sym c.other.invariant.0 ∙ ap length (sym c.as_slice.ensures.value) in
    let none_others : NoneFrom c.self.inside.size others =
    subst (λ ws. NoneFrom c.self.inside.size ws) (sym c.as_slice.ensures.value) (subst (λ n. NoneFrom n c.other.inside.words.items) (sym same) c.other.invariant.1) in (
      omega (arith, reach, c.add.ensures.inside),
      none_after c.add.result c.self.inside.size old others new c.add.ensures.united c.add.ensures.unchanged c.self.invariant.1 none_others,
    )

pub returns-clause-union : goal.returns-clause-union
returns-clause-union c =
    let old = spread c.self.inside.run.first c.self.inside.run.words.items in
    let new = spread c.add.new.self.first c.add.new.self.words.items in
    union_after c.add.result c.self.inside.size c.other.inside.size old c.as_slice.result.now new c.args.self.now c.args.other.now c.self.view_is
    (ap (marks_of c.other.inside.size) c.as_slice.ensures.value ∙ c.other.view_is) c.requires c.add.ensures.united

pub returns-clause-grown : goal.returns-clause-grown
returns-clause-grown c =
    let old = spread c.self.inside.run.first c.self.inside.run.words.items in
    let new = spread c.add.new.self.first c.add.new.self.words.items in
    let others = c.as_slice.result.now in
    let same : c.self.inside.size ≡ c.other.inside.size =
    sym (length-marks c.self.inside.size old) ∙ ap length c.self.view_is ∙ c.requires ∙ ap length (sym c.other.view_is) ∙ length-marks c.other.inside.size c.other.inside.words.items in
    grown_after c.add.result c.self.inside.size old others new c.args.self.now c.self.view_is c.add.ensures.united c.self.invariant.1
    (subst (λ ws. NoneFrom c.self.inside.size ws) (sym c.as_slice.ensures.value) (subst (λ n. NoneFrom n c.other.inside.words.items) (sym same) c.other.invariant.1))
    c.add.ensures.grown

pub returns-clause-known : goal.returns-clause-known
returns-clause-known c =
    let old = spread c.self.inside.run.first c.self.inside.run.words.items in
    known_after c.add.result c.self.inside.size c.other.inside.size old c.as_slice.result.now c.args.self.now c.args.other.now c.self.view_is
    (ap (marks_of c.other.inside.size) c.as_slice.ensures.value ∙ c.other.view_is) c.self.invariant.1
    (subst (λ ws. NoneFrom c.other.inside.size ws) (sym c.as_slice.ensures.value) c.other.invariant.1) c.add.ensures.fresh
