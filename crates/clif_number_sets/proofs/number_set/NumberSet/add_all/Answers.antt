use Rattle.std.proofs.Common.{◌≡◌, ◌≤◌, ◌+◌, ◌∙◌, length, max, sym, ap, subst, arith, eqb-true}
use Rattle.std.specs.Vec.{vec_len, with_items}
use Rattle.std.proofs.lemmas.List.{with_items_is}
use Rattle.clif_number_sets.specs.Words.{spread, words_for, AreUnited, LieWithin, NoneFrom}
use Rattle.clif_number_sets.proofs.Marks.{length-marks}
use Rattle.clif_number_sets.proofs.Unions.{none_united, union_marks}
use Rattle.clif_number_sets.proofs.Within.{set_alone, united_within}
use Rattle.clif_number_sets.proofs.number_set.NumberSet.add_all.Goals as goal

pub returns-then-is_empty : goal.returns-then-is_empty
returns-then-is_empty c =
    let run = c.other.inside.run in
    let empty : length run.words.items ≡ 0 = omega (arith, eqb-true (vec_len run.words) 0 (sym c.is_empty.ensures ∙ c.if-is_empty.true), run.words.ok.0) in
    set_alone c.other.inside.size run.first run.words.items c.args.self.now c.args.other.now empty c.other.view_is c.requires

pub join_words-requires : goal.join_words-requires
join_words-requires c =
    let row = spread c.other.inside.run.first c.other.inside.run.words.items in
    let same : c.self.inside.size ≡ c.other.inside.size =
    sym (length-marks c.self.inside.size c.self.inside.words.items) ∙ ap length c.self.view_is ∙ c.requires ∙ ap length (sym c.other.view_is) ∙ length-marks c.other.inside.size row in
    let reach : words_for c.other.inside.size ≡ length c.as_mut_slice.result.now = ap words_for (sym same) ∙ sym c.self.invariant.0 ∙ ap length (sym c.as_mut_slice.ensures.value) in
    let count : length c.as_slice.result.now ≡ length c.other.inside.run.words.items = ap length c.as_slice.ensures.value in
    omega (arith, reach, count, c.other.invariant.0)

pub overflow_add-row : goal.overflow_add-row
overflow_add-row c =
    let row = spread c.other.inside.run.first c.other.inside.run.words.items in
    let same : c.self.inside.size ≡ c.other.inside.size =
    sym (length-marks c.self.inside.size c.self.inside.words.items) ∙ ap length c.self.view_is ∙ c.requires ∙ ap length (sym c.other.view_is) ∙ length-marks c.other.inside.size row in
    let reach : words_for c.other.inside.size ≡ length c.as_mut_slice.result.now = ap words_for (sym same) ∙ sym c.self.invariant.0 ∙ ap length (sym c.as_mut_slice.ensures.value) in
    record { fits = omega (arith, reach, c.len.ensures, c.other.inside.run.words.ok.0, c.other.invariant.0, c.as_mut_slice.type_inv.0) }

pub invariant_of-self : goal.invariant_of-self
invariant_of-self c =
    let words = c.self.inside.words in
    let new = c.join_words.new.target in
    let run = c.other.inside.run in
    let row = spread run.first run.words.items in
    let same : c.self.inside.size ≡ c.other.inside.size =
    sym (length-marks c.self.inside.size words.items) ∙ ap length c.self.view_is ∙ c.requires ∙ ap length (sym c.other.view_is) ∙ length-marks c.other.inside.size row in
    let count : length new ≡ length words.items = c.join_words.ensures.size ∙ ap length c.as_mut_slice.ensures.value in
    let is : (with_items words new).items ≡ new = with_items_is words new (omega (arith, count, words.ok.0)) in
    let united : AreUnited words.items row new =
    subst (λ ws. AreUnited words.items (spread run.first ws) new) c.as_slice.ensures.value
    (subst (λ ws. AreUnited ws (spread run.first c.as_slice.result.now) new) c.as_mut_slice.ensures.value c.join_words.ensures.united) in
    let reach : run.first + length run.words.items ≤ length words.items = omega (arith, c.other.invariant.0, c.self.invariant.0, ap words_for same) in
    let back : c.max-self-inside.result ≡ max c.self.inside.end (run.first + length run.words.items) =
    c.max-self-inside.ensures ∙ ap (λ n. max c.self.inside.end (run.first + n)) (c.len.ensures ∙ run.words.ok.0) in
    let within : LieWithin c.min-self-inside.result c.max-self-inside.result new =
    united_within c.self.inside.first c.self.inside.end words.items c.self.invariant.2 run.first _ _ run.words.items new count reach united c.min-self-inside.ensures back in (
      ap length is ∙ count ∙ c.self.invariant.0,
      subst (λ ws. NoneFrom c.self.inside.size ws) (sym is)
          (none_united c.self.inside.size words.items row new united c.self.invariant.1 (subst (λ n. NoneFrom n row) (sym same) c.other.invariant.1)),
      subst (λ ws. LieWithin c.min-self-inside.result c.max-self-inside.result ws) (sym is) within,
    )

pub returns : goal.returns
returns c =
    let words = c.self.inside.words in
    let new = c.join_words.new.target in
    let row = spread c.other.inside.run.first c.other.inside.run.words.items in
    let count : length new ≡ length words.items = c.join_words.ensures.size ∙ ap length c.as_mut_slice.ensures.value in
    let is : (with_items words new).items ≡ new = with_items_is words new (omega (arith, count, words.ok.0)) in
    let united : AreUnited words.items row (with_items words new).items =
    subst (λ ws. AreUnited words.items row ws) (sym is)
    (subst (λ ws. AreUnited words.items (spread c.other.inside.run.first ws) new) c.as_slice.ensures.value
    (subst (λ ws. AreUnited ws (spread c.other.inside.run.first c.as_slice.result.now) new) c.as_mut_slice.ensures.value c.join_words.ensures.united)) in
    union_marks c.self.inside.size c.other.inside.size words.items row (with_items words new).items c.args.self.now c.args.other.now c.self.view_is c.other.view_is c.requires united
