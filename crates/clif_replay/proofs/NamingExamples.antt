-- The worked examples of namings.
use Rattle.std.proofs.Common.{◌≡◌, ℕ, List, [], ◌∷◌, length, refl, ap, arith, inl, inr}
use Rattle.std.specs.Prelude.{map}
use Rattle.clif_types.specs.declared.types.«Type».{«Type»}
use Rattle.clif_meaning.specs.Examples.{i32}
use Rattle.clif_meaning.specs.Ledger.{AValue, AnInstruction}
use Rattle.clif_meaning.specs.Name as named
use Rattle.clif_simulation.specs.Carries.{numbers_from}
use Rattle.clif_resolution.specs.declared.answers.Answer.TheVariants as answer
use Rattle.clif_replay.specs.Ready.{no_answer}
use Rattle.clif_replay.specs.Examples.{NamingExamples, its_numbers, one_result}

-- values are answered by no instruction
no-values : (types : List «Type») → one_result ≡ map AValue types → ⊥
no-values [] is = cc
no-values (ty ∷ types) is = let first : AnInstruction ≡ AValue ty = cc in cc

-- one value follows the instruction, and its number is 7
other-number : (types : List «Type») (inst : ℕ) → its_numbers ≡ inst ∷ numbers_from 8 types → ◌≡◌ {A = ℕ} 1 (length types) → ⊥
other-number [] inst is many = cc
other-number (ty ∷ types) inst is many = let same : ◌≡◌ {A = ℕ} 7 8 = cc in omega (arith, same)

-- names of the answers at a place, and those behind them, aren't one
not-zero : named.answer_of 2 1 ≡ named.answer_of 2 0 → ⊥
not-zero is = let same : ◌≡◌ {A = ℕ} 1 0 = ap (λ (n : named.Name). n.index) is in omega (arith, same)

not-one : named.answer_of 2 0 ≡ named.answer_of 2 1 → ⊥
not-one is = let same : ◌≡◌ {A = ℕ} 0 1 = ap (λ (n : named.Name). n.index) is in omega (arith, same)

one-two : named.answer_of 2 1 ≡ named.answer_of 2 2 → ⊥
one-two is = let same : ◌≡◌ {A = ℕ} 1 2 = ap (λ (n : named.Name). n.index) is in omega (arith, same)

something-there : one_result ≡ [] → ⊥
something-there is = cc

no-value : (first count : ℕ) → answer.Values first count ≡ no_answer → ⊥
no-value first count is = cc

no-instruction : (inst : ℕ) → answer.Inst inst ≡ no_answer → ⊥
no-instruction inst is = cc

pub examples : NamingExamples
examples = record {
  block = inl (λ name here. ap (λ (place : ℕ). named.answer_of place name.answer) here, (refl, refl));
  instruction = inl (λ name here. ap (λ (place : ℕ). named.answer_of place name.answer) here, (i32 ∷ [], 7 ∷ [], refl, refl));
  results = inr (inl (λ name here. refl, (i32 ∷ [], 5, refl, refl, refl)));
  nothing = inr (inr (λ name here. refl, refl));
  another_value = λ leads. elim leads [
    | inl itself ↦ no-values itself.1.0 itself.1.1
    | inr other ↦ elim other [ inl behind ↦ other-number behind.1.0 behind.1.1 behind.1.3 behind.1.4 | inr none ↦ no-value 8 1 none.1 ]
  ];
  itself = λ leads. elim leads [
    | inl itself ↦ not-zero (itself.0 (record { place = 0; answer = 0 }) refl)
    | inr other ↦ elim other [ inl behind ↦ behind.1 | inr none ↦ no-instruction 5 none.1 ]
  ];
  not_behind = λ leads. elim leads [
    | inl itself ↦ no-values itself.1.0 itself.1.1
    | inr other ↦ elim other [ inl behind ↦ not-one (behind.0 (record { place = 2; answer = 0 }) refl) | inr none ↦ no-value 7 1 none.1 ]
  ];
  something = λ leads. elim leads [
    | inl itself ↦ something-there itself.1.0
    | inr other ↦ elim other [ inl behind ↦ behind.1 | inr none ↦ one-two (none.0 (record { place = 0; answer = 0 }) refl) ]
  ];
}
