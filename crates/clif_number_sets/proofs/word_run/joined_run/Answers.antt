use Rattle.std.proofs.Common.{◌≡◌, ℕ, ◌-◌, replicate, rules, arith}
use Rattle.clif_number_sets.proofs.Runs.{both_joined}
use Rattle.clif_number_sets.proofs.word_run.joined_run.Goals as goal

pub invariant_of-result : goal.invariant_of-result
invariant_of-result c =
    let start : ℕ = c.min-start.result in
    let count : ℕ = c.max-end.result - start in
    let zeros : c.in_ok-joined.joined.items ≡ replicate count 0 = search rules in
    let all = both_joined c.args.first c.args.low start count c.args.words.now c.args.used.now c.in_ok-joined.joined c.as_mut_slice.result.now
    c.join_words.new.target c.as_mut_slice-2.result.now c.join_words-2.new.target c.requires.some c.requires.none c.min-start.ensures
    (omega (arith, c.max-end.ensures, c.min-start.ensures)) zeros c.in_ok-joined.joined.ok.0
    c.as_mut_slice.ensures.value c.join_words.ensures.size c.join_words.ensures.united
    c.as_mut_slice-2.ensures.value c.join_words-2.ensures.size c.join_words-2.ensures.united in
    record { trimmed = all.trimmed c.requires.trimmed.0 c.requires.trimmed.1 }

pub returns-clause-united : goal.returns-clause-united
returns-clause-united c =
    let start : ℕ = c.min-start.result in
    let count : ℕ = c.max-end.result - start in
    let zeros : c.in_ok-joined.joined.items ≡ replicate count 0 = search rules in
    let all = both_joined c.args.first c.args.low start count c.args.words.now c.args.used.now c.in_ok-joined.joined c.as_mut_slice.result.now
    c.join_words.new.target c.as_mut_slice-2.result.now c.join_words-2.new.target c.requires.some c.requires.none c.min-start.ensures
    (omega (arith, c.max-end.ensures, c.min-start.ensures)) zeros c.in_ok-joined.joined.ok.0
    c.as_mut_slice.ensures.value c.join_words.ensures.size c.join_words.ensures.united
    c.as_mut_slice-2.ensures.value c.join_words-2.ensures.size c.join_words-2.ensures.united in
    all.united
