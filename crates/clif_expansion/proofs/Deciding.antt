-- The worked example: a comparison with zero decides a table of one entry.
use Rattle.std.proofs.Common.{◌≡◌, ◌≤◌, ℕ, zero, suc, Bool, true, false, [], ◌∷◌, refl, sym, ◌∙◌, ap, arith}
use Rattle.std.specs.Prelude.{◌==◌, if◌then◌else◌, pos, Some, slice_get}
use Rattle.std.proofs.lemmas.Bool.{eqb-true, le-ltb}
use Rattle.clif_types.specs.declared.condcodes.IntCC.TheVariants as cc
use Rattle.clif_meaning.specs.Bits.{Bits}
use Rattle.clif_meaning.specs.BranchExamples.{plain}
use Rattle.clif_meaning.specs.Instruction.{Brif, Compare, Compute, Edge, Iconst}
use Rattle.clif_meaning.specs.Memory.{Memory}
use Rattle.clif_meaning.specs.Name.{Name, answer_of, same_name}
use Rattle.clif_meaning.specs.Outcome.{Goes, edge_by, edge_in_table}
use Rattle.clif_meaning.specs.Program.{Instruct}
use Rattle.clif_meaning.specs.Store.{assigned}
use Rattle.clif_meaning.specs.World.{World}
use Rattle.clif_expansion.specs.Code.{Decides, DecidesIn}
use Rattle.clif_expansion.specs.Examples.{all_32_bits, of_32_bits}
use Rattle.clif_expansion.specs.Reading.{Agree}
use Rattle.clif_expansion.specs.Walk.{Arriving, Computing, Passing, Surroundings, Takes, Walk}
use Rattle.clif_expansion.specs.WalkExamples.{WalkExamples, at_zero, by_table, by_test, comparing, early, jumping, number, onward, otherwise}

abbrev around : World → Surroundings
around world = record { world = world; reading = early; types = λ x. all_32_bits.plain x; program = jumping }

-- whether the number is zero, as bits
abbrev test_of : Bool → Bits
test_of test = if test then 1 else 0

abbrev with_zero : (Name → Bits) → Name → Bits
with_zero names = assigned same_name (answer_of 4 1 ∷ []) (0 ∷ []) names

abbrev with_test : (Name → Bits) → Name → Bits
with_test names = assigned same_name (answer_of 5 1 ∷ []) (test_of (names number == 0) ∷ []) (with_zero names)

positive : (n : ℕ) → (n == 0) ≡ false → 1 ≤ n
positive zero is = let none : ⊥ = cc in absurd none
positive (suc n) is = omega arith

module _ (world : World) (names : Name → Bits) where
  -- up to the branch
  up_to_test : (block : Name) (after : Name → Bits) (branches tables : ℕ)
      → Walk (around world) block (Instruct 6 by_test [] ∷ []) (with_test names) after branches tables → Walk (around world) block comparing names after branches tables
  up_to_test block after branches tables walk =
      Computing 4 (of_32_bits (Compute (Iconst (pos 0))) []) (answer_of 4 1 ∷ []) _ (0 ∷ []) names after branches tables
      (record { arithmetic = Iconst (pos 0); is_arithmetic = refl; computes = refl; generated = (refl, tt) })
      (Computing 5 (of_32_bits (Compute (Compare cc.Equal)) (number ∷ answer_of 4 1 ∷ [])) (answer_of 5 1 ∷ []) _ (test_of (names number == 0) ∷ []) (with_zero names) after branches tables
      (record { arithmetic = Compare cc.Equal; is_arithmetic = refl; computes = refl; generated = (refl, tt) }) walk)

  taken : (test : Bool) (index : ℕ) (edge : Edge Name Name) → (names number == 0) ≡ test → edge_by (test_of test) ≡ index
      → slice_get by_test.edges index ≡ Some edge → edge.arguments ≡ [] → Takes (around world) by_test (with_test names) edge
  taken test index edge is takes there nothing = record {
    is_branch = tt;
    index = index;
    goes = λ memory. ap (λ (c : Bool). Goes (edge_by (test_of c)) [] memory) is ∙ ap (λ (k : ℕ). Goes k [] memory) takes;
    there = there;
    nothing = nothing;
  }

  to_zero : (names number == 0) ≡ true → Walk (around world) at_zero comparing names (with_test names) 1 0
  to_zero is =
      up_to_test at_zero (with_test names) 1 0
      (Arriving 6 by_test [] [] (plain at_zero) (with_test names) (taken true 0 (plain at_zero) is refl refl refl) refl)

  to_other : (names number == 0) ≡ false → Walk (around world) otherwise comparing names (with_test names) 1 0
  to_other is =
      up_to_test otherwise (with_test names) 1 0
      (Passing 6 by_test [] [] (plain (answer_of 7 0)) (with_test names) (with_test names) 0 0 (taken false 1 (plain (answer_of 7 0)) is refl refl refl) refl
      (Arriving 8 onward [] [] (plain otherwise) (with_test names)
      (record { is_branch = tt; index = 0; goes = λ memory. refl; there = refl; nothing = refl }) refl))

decides : (world : World) → Decides world.pointer_width early all_32_bits jumping comparing by_table 1 0
decides world = record { decides = λ other names script memory width agree sound. by other names script memory agree (names number == 0) refl }
  where
    by : (other : World) (names script : Name → Bits) (memory : Memory) → Agree early names script → (test : Bool) → (names number == 0) ≡ test
        → DecidesIn (around other) all_32_bits.script comparing by_table names script memory 1 0
    by other names script memory agree true is = record {
      index = 1;
      edge = plain at_zero;
      outcome = ap (λ (x : Bits). Goes (edge_in_table 1 x) [] memory) (sym (agree number number refl) ∙ eqb-true (names number) 0 is);
      there = refl;
      nothing = refl;
      block = at_zero;
      target = refl;
      after = with_test names;
      walked_branches = 1;
      walked_tables = 0;
      walk = to_zero other names is;
      few_branches = omega arith;
      few_tables = omega arith;
    }
    by other names script memory agree false is = record {
      index = 0;
      edge = plain otherwise;
      outcome = ap (λ (x : Bits). Goes (edge_in_table 1 x) [] memory) (sym (agree number number refl))
          ∙ ap (λ (c : Bool). Goes (if c then suc (names number) else 0) [] memory) (le-ltb (names number) 1 (positive (names number) is));
      there = refl;
      nothing = refl;
      block = otherwise;
      target = refl;
      after = with_test names;
      walked_branches = 1;
      walked_tables = 0;
      walk = to_other other names is;
      few_branches = omega arith;
      few_tables = omega arith;
    }

-- no walk from there comes to a block without a conditional branch
branches_walked : (world : World) (block : Name) (names after : Name → Bits) (branches tables : ℕ)
    → Walk (around world) block (Instruct 6 by_test [] ∷ []) names after branches tables → 1 ≤ branches
branches_walked world block names after branches tables (Computing place instruction results rest values b a bs ts does walk) = absurd (apart does.is_arithmetic)
  where
    apart : Brif ≡ Compute does.arithmetic → ⊥
    apart same = cc
branches_walked world block names after branches tables (Passing place instruction results rest edge b a bs ts takes generated walk) = omega arith
branches_walked world block names after branches tables (Arriving place instruction results rest edge b takes target) = omega arith

some_branch : (world : World) (block : Name) (names after : Name → Bits) (branches tables : ℕ)
    → Walk (around world) block comparing names after branches tables → 1 ≤ branches
some_branch world block names after branches tables (Computing place instruction results rest values b a bs ts does walk) = next (assigned same_name results values b) a bs ts walk
  where
    next : (c d : Name → Bits) (bs ts : ℕ)
        → Walk (around world) block (Instruct 5 (of_32_bits (Compute (Compare cc.Equal)) (number ∷ answer_of 4 1 ∷ [])) (answer_of 5 1 ∷ []) ∷ Instruct 6 by_test [] ∷ []) c d bs ts → 1 ≤ bs
    next c d bs ts (Computing place instruction results rest values b a bs' ts' does walk) = branches_walked world block (assigned same_name results values b) a bs ts walk
    next c d bs ts (Passing place instruction results rest edge b a bs' ts' takes generated walk) = absurd takes.is_branch
    next c d bs ts (Arriving place instruction results rest edge b takes target) = absurd takes.is_branch
some_branch world block names after branches tables (Passing place instruction results rest edge b a bs ts takes generated walk) = absurd takes.is_branch
some_branch world block names after branches tables (Arriving place instruction results rest edge b takes target) = absurd takes.is_branch

wrong : (world : World) → Decides world.pointer_width early all_32_bits jumping comparing by_table 0 0 → ⊥
wrong world decides =
    let did = decides.decides world (λ x. 0) (λ x. 0) world.memory refl (λ x name is. refl) (record { typed = ([], (refl, tt)); operands = (omega arith, tt); claims = tt }) in
    let some = some_branch world did.block (λ x. 0) did.after did.walked_branches did.walked_tables did.walk in
    absurd (omega (arith, some, did.few_branches))

pub examples : (world : World) → WalkExamples world
examples world = record { decides = decides world; wrong = wrong world }
