use Rattle.std.proofs.Common.{◌≡◌, ◌<◌, ◌/◌, ◌%◌, ◌∙◌, ℕ, true, length, get_or, set, ap, arith, length-set}
use Rattle.std.proofs.lemmas.List.{get_or_read}
use Rattle.clif_number_sets.specs.Words.{has_bit}
use Rattle.clif_number_sets.proofs.Bits.{set_here, set_other}
use Rattle.clif_number_sets.proofs.Marks.{length-marks, marks-written, none-written}
use Rattle.clif_number_sets.proofs.Within.{written_within}
use Rattle.clif_number_sets.proofs.number_set.NumberSet.insert.Goals as goal

pub index_mut-requires : goal.index_mut-requires
index_mut-requires c =
    omega (arith, length-marks c.self.inside.size c.self.inside.words.items, ap length c.self.view_is, c.self.invariant.0, c.self.inside.words.ok.0)

pub invariant_of-self : goal.invariant_of-self
invariant_of-self c =
    let words = c.self.inside.words.items in
    let place = c.args.place in
    let below : place < c.self.inside.size = omega (arith, length-marks c.self.inside.size words, ap length c.self.view_is) in
    let inside : place / 64 < length words = omega (arith, c.self.invariant.0) in
    let word : ℕ = c.index_mut.result.now in
    let read : word ≡ get_or words (place / 64) 0 = get_or_read words (place / 64) _ inside c.index_mut.ensures.value 0 in (
      length-set words (place / 64) _ ∙ c.self.invariant.0,
      none-written words place _ true inside (set_here word (place % 64) (omega arith))
          (λ bit below apart. set_other word (place % 64) bit (omega arith) apart ∙ ap (λ w. has_bit w bit) read)
          c.self.inside.size below c.self.invariant.1,
      written_within c.self.inside.first c.self.inside.end words c.self.invariant.2 (place / 64) _ _ _ inside c.min-self-inside.ensures c.max-self-inside.ensures,
    )

pub returns : goal.returns
returns c =
    let words = c.self.inside.words.items in
    let place = c.args.place in
    let below : place < c.self.inside.size = omega (arith, length-marks c.self.inside.size words, ap length c.self.view_is) in
    let inside : place / 64 < length words = omega (arith, c.self.invariant.0) in
    let word : ℕ = c.index_mut.result.now in
    let read : word ≡ get_or words (place / 64) 0 = get_or_read words (place / 64) _ inside c.index_mut.ensures.value 0 in
    marks-written words place _ true inside (set_here word (place % 64) (omega arith))
    (λ bit below apart. set_other word (place % 64) bit (omega arith) apart ∙ ap (λ w. has_bit w bit) read)
    c.self.inside.size below
    ∙ ap (λ s. set s place true) c.self.view_is
