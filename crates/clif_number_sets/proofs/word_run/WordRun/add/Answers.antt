use Rattle.std.proofs.Common.{◌∙◌, ◌<◌, ◌+◌, ◌-◌, ◌⊎◌, inl, inr, ℕ, List, length, take, drop, ap, sym, subst, arith}
use Rattle.std.specs.Prelude.{bit_or, OnErr, Result, Ok, Err}
use Rattle.std.specs.Vec.{with_items}
use Rattle.std.proofs.lemmas.List.{with_items_is}
use Rattle.clif_number_sets.specs.Words.{spread, word_of, AreUnited, HasNew}
use Rattle.clif_number_sets.proofs.Bits.{or_zero}
use Rattle.clif_number_sets.proofs.Runs.{fresh_grown, inside_joined, new_inside, new_united, united_grown, used_run, IsUsedRun}
use Rattle.clif_number_sets.proofs.Within.{none_used}
use Rattle.clif_number_sets.proofs.word_run.WordRun.add.Goals as goal
use Rattle.clif_number_sets.proofs.word_run.WordRun.add.Goals.{else-start-low-via-then-start-low+else-low-used, else-start-low-via-else-start-low}

pub returns-in_default-clause-united : goal.returns-in_default-clause-united
returns-in_default-clause-united c k =
    let old = spread c.args.self.now.first c.args.self.now.words.items in
    sym (ap (bit_or (word_of old k)) (none_used c.args.first c.args.end c.args.others.now c.requires.within c.in_default.ensures k) ∙ or_zero (word_of old k))

pub invariant_of-self : goal.invariant_of-self
invariant_of-self c =
    let others = c.args.others.now in
    let low : ℕ = c.in-Some.low in
    let end : ℕ = c.used_end.result in
    let used : List ℕ = take (end - low) (drop low others) in
    let all = inside_joined c.args.self.now.first c.start-start.result low end c.args.self.now.words used others c.as_mut_slice.result.now c.join_words.new.target
    (used_run c.args.first c.args.end others low end c.requires.within c.in-Some.ensures c.used_end.ensures) c.start-start.ensures.some c.start-start.ensures.none c.if-start-low.true
    (omega (arith, c.if-low-used.true, c.len.ensures)) c.args.self.now.words.ok.0 c.args.self.now.trimmed
    c.as_mut_slice.ensures.value c.join_words.ensures.size c.join_words.ensures.united in
    record { trimmed = all.trimmed }

pub returns-then-low-used-clause-united : goal.returns-then-low-used-clause-united
returns-then-low-used-clause-united c =
    let others = c.args.others.now in
    let low : ℕ = c.in-Some.low in
    let end : ℕ = c.used_end.result in
    let used : List ℕ = take (end - low) (drop low others) in
    let all = inside_joined c.args.self.now.first c.start-start.result low end c.args.self.now.words used others c.as_mut_slice.result.now c.join_words.new.target
    (used_run c.args.first c.args.end others low end c.requires.within c.in-Some.ensures c.used_end.ensures) c.start-start.ensures.some c.start-start.ensures.none c.if-start-low.true
    (omega (arith, c.if-low-used.true, c.len.ensures)) c.args.self.now.words.ok.0 c.args.self.now.trimmed
    c.as_mut_slice.ensures.value c.join_words.ensures.size c.join_words.ensures.united in
    all.united

pub returns-then-low-used-clause-grown : goal.returns-then-low-used-clause-grown
returns-then-low-used-clause-grown c grown =
    let words = c.args.self.now.words in
    let new = c.join_words.new.target in
    let is = with_items_is words new (omega (arith, c.join_words.ensures.size, ap length c.as_mut_slice.ensures.value, words.ok.0)) in
    new_inside c.args.self.now.first words.items (with_items words new).items
    (subst (λ ws. HasNew words.items ws) (sym is) (subst (λ ws. HasNew ws new) c.as_mut_slice.ensures.value (c.join_words.ensures.grown grown)))

pub returns-clause-united : goal.returns-clause-united
returns-clause-united c =
    let first : ℕ = c.args.self.now.first in
    let words = c.args.self.now.words.items in
    let others = c.args.others.now in
    let low : ℕ = c.in-Some.low in
    let end : ℕ = c.used_end.result in
    let used : List ℕ = take (end - low) (drop low others) in
    let run : IsUsedRun others low end used = used_run c.args.first c.args.end others low end c.requires.within c.in-Some.ensures c.used_end.ensures in
    let joined = spread c.in_ok-self.field-0.first c.in_ok-self.field-0.words.items in
    united_grown first c.start-start.result low end words used others run c.start-start.ensures.some joined
    (subst (λ ws. AreUnited (spread c.start-start.result ws) (spread low used) joined) c.as_slice.ensures.value c.in_ok-self.ensures.united)

pub returns-clause-grown : goal.returns-clause-grown
returns-clause-grown c grown =
    let first : ℕ = c.args.self.now.first in
    let from : ℕ = c.start-start.result in
    let words = c.args.self.now.words.items in
    let others = c.args.others.now in
    let low : ℕ = c.in-Some.low in
    let end : ℕ = c.used_end.result in
    let used : List ℕ = take (end - low) (drop low others) in
    let run : IsUsedRun others low end used = used_run c.args.first c.args.end others low end c.requires.within c.in-Some.ensures c.used_end.ensures in
    let joined = spread c.in_ok-self.field-0.first c.in_ok-self.field-0.words.items in
    let beyond : (low < from) ⊎ (from + length words < low + length used) = elim c.else-start-low.branch [
      | else-start-low-via-then-start-low+else-low-used w ↦ inr (omega (arith, w.if-low-used.false, w.len.ensures, c.args.self.now.words.ok.0))
      | else-start-low-via-else-start-low w ↦ inl w.if-start-low.false
    ] in
    new_united (spread first words) others joined
    (united_grown first from low end words used others run c.start-start.ensures.some joined
    (subst (λ ws. AreUnited (spread from ws) (spread low used) joined) c.as_slice.ensures.value c.in_ok-self.ensures.united))
    (fresh_grown first from low end words used others run c.start-start.ensures.some beyond (λ k. let h = c.type_inv.others k in omega arith))

on_err : {X E P : Type 0} (r : Result X E) → P → OnErr r P
on_err (Ok value) p = tt
on_err (Err error) p = p

pub returns-in_err-self-clause-fresh : goal.returns-in_err-self-clause-fresh
returns-in_err-self-clause-fresh c =
    let first : ℕ = c.args.self.now.first in
    let from : ℕ = c.start-start.result in
    let words = c.args.self.now.words.items in
    let others = c.args.others.now in
    let low : ℕ = c.in-Some.low in
    let end : ℕ = c.used_end.result in
    let used : List ℕ = take (end - low) (drop low others) in
    let run : IsUsedRun others low end used = used_run c.args.first c.args.end others low end c.requires.within c.in-Some.ensures c.used_end.ensures in
    let beyond : (low < from) ⊎ (from + length words < low + length used) = elim c.else-start-low.branch [
      | else-start-low-via-then-start-low+else-low-used w ↦ inr (omega (arith, w.if-low-used.false, w.len.ensures, c.args.self.now.words.ok.0))
      | else-start-low-via-else-start-low w ↦ inl w.if-start-low.false
    ] in
    let fresh : HasNew (spread first words) others =
    fresh_grown first from low end words used others run c.start-start.ensures.some beyond (λ k. let h = c.type_inv.others k in omega arith) in
    on_err c.from_residual.result fresh
