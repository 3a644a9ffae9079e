-- What is laid, and what isn't, in the worked examples.
use Rattle.std.proofs.Common.{List, [], ◌∷◌, ◌++◌, refl, sym, ap, subst, arith, inl, inr, Some, pos}
use Rattle.std.specs.Prelude.{Contains}
use Rattle.std.specs.List.{AllByRecursion}
use Rattle.clif_opcodes.specs.declared.opcodes.BinaryOpcode.TheVariants.{Isub}
use Rattle.clif_types.specs.declared.condcodes.IntCC.TheVariants as cc
use Rattle.clif_meaning.specs.Instruction.{Binary, Compare, Compute, Iconst}
use Rattle.clif_meaning.specs.Name.{Name, answer_of}
use Rattle.clif_meaning.specs.Program.{Program, Item, Instruct}
use Rattle.clif_meaning.specs.WellPlaced.{item_names}
use Rattle.clif_expansion.specs.Examples.{difference, negating, negation, of_32_bits, of_items, reading, returning, subtracting}
use Rattle.clif_expansion.specs.Expansion.{AreCut}
use Rattle.clif_expansion.specs.Laying.{Ending, Entering, IsLaid, IsLaidProgram, IsToHand, Laying, Lays, Leaving}
use Rattle.clif_expansion.specs.LayingExamples.{LayingExamples, elsewhere, without_zero}
use Rattle.clif_expansion.specs.WalkExamples.{at_zero, by_table, by_test, comparing, early, jumping, number, onward, otherwise}
use Rattle.clif_expansion.proofs.LaidCodes
use Rattle.clif_expansion.proofs.Names.{same_script}
use Rattle.clif_expansion.proofs.Negation.{cut_at}
use Rattle.clif_expansion.proofs.Placing.{contained_first, contained_in, contained_later, none_contained}

-- THE TABLE ---------------------------------------------------------------------------------------------------------------

abbrev table : Item
table = Instruct 4 by_table []

abbrev tested : List Name
tested = answer_of 5 1 ∷ answer_of 4 1 ∷ []

-- along the edges of the branch by the test
by_test_goes : Lays early jumping table tested (at_zero ∷ answer_of 7 0 ∷ []) []
by_test_goes =
    Leaving tested at_zero at_zero (answer_of 7 0 ∷ []) [] refl (contained_later otherwise (at_zero ∷ []) at_zero (contained_first at_zero [])) tt
    (Entering tested (answer_of 7 0) [] [] refl
    (Laying tested (Instruct 8 onward []) [] tt tt (Leaving tested otherwise otherwise [] [] refl (contained_first otherwise (at_zero ∷ [])) tt (Ending tested tt)))
    (Ending tested tt))

decides : IsLaid early jumping comparing table
decides = record {
  begins = λ none. cc;
  lays = Laying [] (Instruct 4 (of_32_bits (Compute (Iconst (pos 0))) []) (answer_of 4 1 ∷ [])) _ tt tt
      (Laying (answer_of 4 1 ∷ []) (Instruct 5 (of_32_bits (Compute (Compare cc.Equal)) (number ∷ answer_of 4 1 ∷ [])) (answer_of 5 1 ∷ [])) _
      (inr (number, refl, contained_first number []), (inl (contained_first (answer_of 4 1) []), tt)) tt
      (Laying tested (Instruct 6 by_test []) [] (inl (contained_first (answer_of 5 1) (answer_of 4 1 ∷ [])), tt) tt by_test_goes));
}

-- what the first instruction names is to hand
first_names : (item first : Item) (rest : List Item) → Lays early jumping item [] [] (first ∷ rest) → AllByRecursion (IsToHand early item []) (item_names (Some first))
first_names item first rest (Laying g f r names passes on) = names

no_zero : IsLaid early jumping without_zero table → ⊥
no_zero is = by (first_names table _ _ is.lays).1.0
  where
    by : IsToHand early table [] (answer_of 4 1) → ⊥
    by (inl here) = none_contained (answer_of 4 1) here
    by (inr (name, generated, names)) = cc

no_target : IsLaid early jumping (Instruct 4 elsewhere [] ∷ []) table → ⊥
no_target is = first is.lays
  where
    not_there : Contains (otherwise ∷ at_zero ∷ []) (answer_of 0 0) → ⊥
    not_there there =
        elim (contained_in otherwise (at_zero ∷ []) (answer_of 0 0) there) [
          | inl same ↦ absurd (let places = ap (λ (n : Name). n.place) same in omega (arith, places))
          | inr further ↦ elim (contained_in at_zero [] (answer_of 0 0) further) [
            | inl same ↦ absurd (let places = ap (λ (n : Name). n.place) same in omega (arith, places))
            | inr none ↦ none_contained (answer_of 0 0) none
          ]
        ]

    edges : (blocks : List Name) → Lays early jumping table [] (answer_of 0 0 ∷ blocks) [] → ⊥
    edges blocks (Entering g b bs c generated inner goes) = cc
    edges blocks (Leaving g b target bs c read there has goes) =
        not_there (subst (λ name. Contains (otherwise ∷ at_zero ∷ []) name) (sym (same_script (answer_of 0 0) target read)) there)

    first : Lays early jumping table [] [] (Instruct 4 elsewhere [] ∷ []) → ⊥
    first (Laying g f r names passes on) = edges [] on

-- THE NEGATION ------------------------------------------------------------------------------------------------------------

abbrev subtraction : Program
subtraction = of_items (subtracting (pos 0))

negation_laid : IsLaid reading subtraction (difference (pos 0)) (Instruct 2 negation (answer_of 2 1 ∷ []))
negation_laid = record {
  begins = λ none. cc;
  lays = Laying [] (Instruct 2 (of_32_bits (Compute (Iconst (pos 0))) []) (answer_of 2 1 ∷ [])) _ tt tt
      (Laying (answer_of 2 1 ∷ []) (Instruct 3 (of_32_bits (Compute (Binary Isub)) (answer_of 2 1 ∷ answer_of 1 1 ∷ [])) (answer_of 3 1 ∷ [])) []
      (inl (contained_first (answer_of 2 1) []), (inr (answer_of 1 1, refl, contained_first (answer_of 1 1) []), tt)) tt
      (Ending (answer_of 3 1 ∷ answer_of 2 1 ∷ []) ((answer_of 3 1, refl, contained_first (answer_of 3 1) (answer_of 2 1 ∷ [])), tt)));
}

abbrev five : Item
five = Instruct 1 (of_32_bits (Compute (Iconst (pos 5))) []) (answer_of 1 1 ∷ [])

abbrev returns : Item
returns = Instruct 4 (returning (answer_of 3 1)) []

whole : AreCut (IsLaid reading subtraction) (subtracting (pos 0)) negating
whole = (
  five ∷ [],
  difference (pos 0) ++ returns ∷ [],
  refl,
  LaidCodes.itself reading subtraction (five ∷ []) five (record { operation = refl; controlling = refl; operands = tt; contexts = tt; edges = tt }, (refl, tt)),
  (
    difference (pos 0),
    returns ∷ [],
    refl,
    negation_laid,
    (returns ∷ [], [], refl, LaidCodes.itself reading subtraction (returns ∷ []) (Instruct 3 (returning (answer_of 2 1)) []) (record { operation = refl; controlling = refl; operands = (refl, tt); contexts = tt; edges = tt }, tt), refl),
  ),
)

negates : IsLaidProgram reading subtraction (of_items negating)
negates = record {
  entry = refl;
  parameters = λ x block is. tt;
  items = λ x block is. cut_at (IsLaid reading subtraction) whole x.place x.index block is;
}

pub examples : LayingExamples
examples = record { decides = decides; negates = negates; no_zero = no_zero; no_target = no_target }
