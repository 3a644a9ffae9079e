-- The worked examples.
use Rattle.std.proofs.Common.{Bor, arith, ◌≡◌, ◌<◌, ◌≤◌, ◌+◌, ◌-◌, ℕ, suc, List, [], ◌∷◌, ◌++◌, length, map, refl, sym, ◌∙◌, ap, ap₂, subst, append-nil, None}
use Rattle.std.specs.Prelude.{◌^◌, ◌==◌, if◌then◌else◌, nat_lt, slice_get}
use Rattle.clif_ranges.specs.Search.{behind_a_branch, nothing_found, block_in}
use Rattle.clif_ranges.specs.declared.search.Next.TheVariants as next
use Rattle.clif_ranges.specs.declared.search.Test.TheVariants as test
use Rattle.clif_meaning.specs.Acceptance.{table_branch}
use Rattle.clif_meaning.specs.Instruction.{Instruction}
use Rattle.clif_meaning.specs.Name.{Name, answer_of}
use Rattle.clif_meaning.specs.Request.{Build, MakeEdge, MakeJumpTable, SealBlock, Script, ServedBy, SwitchToBlock}
use Rattle.clif_expansion.specs.Emission.{building}
use Rattle.clif_switch_calls.specs.SwitchCalls.{Switched, answers_of, bare_edge, difference, difference_name, index_calls, index_name, node_calls}
use Rattle.std.specs.FinMap as finite
use Rattle.std.specs.Prelude.{All, IsTrue}
use Rattle.std.specs.List.{enumerate_from}
use Rattle.std.proofs.lemmas.List.Elements.{All-from_recursion}
use Rattle.clif_types.specs.declared.condcodes.IntCC.TheVariants as cc
use Rattle.clif_ranges.specs.declared.ranges.CaseRange.{CaseRange}
use Rattle.clif_ranges.specs.Cases.{AreRangesFor, CaseMap, FitsTable}
use Rattle.clif_ranges.specs.declared.search.Node.{Node}
use Rattle.clif_ranges.specs.Search.{AddsNodes, AreInOrder, AreTestsOf, FindsCases}
use Rattle.clif_ranges.proofs.Searching.{alone_adds, one_key_adds}
use Rattle.clif_meaning.specs.Ledger.{has_block, ledger_after}
use Rattle.clif_expansion.specs.Switching.{IsSwitchCode}
use Rattle.clif_switch_calls.specs.SwitchCalls.{branching, compared, i8}
use Rattle.clif_switch_calls.specs.SwitchLaw.{MaySwitch, SearchesCases, switch_calls}
use Rattle.clif_switch_calls.proofs.Law.{switch_calls_are_code}
use Rattle.clif_switch_calls.specs.SwitchCallExamples.{HasBlocks, one_calls, one_node, one_plain, one_switch, SwitchCallExamples, far_switch}

-- the calls of a table, by the first key and the blocks
abbrev table_of : Switched → (tables first : ℕ) (blocks : List ℕ) (place : ℕ) → Script
table_of s tables first blocks place =
    let targets : List Name = s.otherwise ∷ map s.named blocks in
    let behind : ℕ = place + suc (length targets) in
    let line : List (Instruction Name Name) = difference s.ty first behind s.value in
    let x : Name = difference_name s.ty first behind s.value in
    map (λ target. MakeEdge (bare_edge target)) targets
    ++ MakeJumpTable (answer_of place 0) (answers_of (suc place) (length blocks))
    ∷ map building line ++ index_calls s (behind + length line) x
    ++ Build (ServedBy tables ∷ []) (table_branch (index_name s (behind + length line) x) (map bare_edge targets)) ∷ []

-- ONE KEY -----------------------------------------------------------------------------------------------------------------

module _ (cases : CaseMap) (range : Bor CaseRange) (entries : finite.entries cases ≡ (5, 0) ∷ []) (has : HasBlocks range 5 (0 ∷ [])) where
  one_long : length range.now.blocks.items ≡ 1
  one_long = ap length has.1

  adds : AddsNodes (range.now ∷ []) 1 0 [] (one_node range) 1
  adds = alone_adds range.now 1 0 1 [] (one_node range) (one_key_adds range 1 0 next.Otherwise [] (one_node range) tt one_long refl)

  of_one : {X : Type 0} (P : X → Type 0) (x : X) → P x → All P (x ∷ [])
  of_one P x is = All-from_recursion P (x ∷ []) (is, tt)

  for_cases : AreRangesFor cases i8 (range.now ∷ [])
  for_cases = record {
    fit = subst (All (λ (case : ℕ × ℕ). case.0 ≤ 255)) (sym entries) (of_one (λ (case : ℕ × ℕ). case.0 ≤ 255) (5, 0) (omega arith));
    ranges_of = record {
      cases = ap₂ (λ (first : ℕ) (blocks : List ℕ). enumerate_from first blocks ++ []) has.0 has.1 ∙ sym entries;
      filled = of_one (λ (r : CaseRange). 0 < length r.blocks.items) range.now (omega (arith, one_long));
      gaps = λ i j d before inside. absurd (omega (arith, before, inside));
    };
    tables = of_one FitsTable range.now (omega (arith, one_long));
  }

  may : MaySwitch one_plain (answer_of 0 0) one_switch cases
  may = record {
    current = refl;
    there = refl;
    int = refl;
    value = refl;
    otherwise = refl;
    targets = subst (All (λ (case : ℕ × ℕ). IsTrue (has_block (ledger_after one_plain) (answer_of 2 0)))) (sym entries) (of_one (λ (case : ℕ × ℕ). IsTrue (has_block (ledger_after one_plain) (answer_of 2 0))) (5, 0) refl);
    unwritten = λ later behind. refl;
  }

  searches : SearchesCases one_switch cases (range.now ∷ []) (one_node range)
  searches = record {
    ranges_for = for_cases;
    finds = subst (λ (nodes : List Node). FindsCases (range.now ∷ []) nodes 0) (append-nil adds.added ∙ sym adds.is) (adds.find []);
    order = subst (AreInOrder (0 ∷ []) 1) (append-nil adds.added ∙ sym adds.is) (adds.order [] [] refl);
    tests = subst (AreTestsOf (range.now ∷ [])) (sym adds.is) adds.tests;
  }

  one_is_code : IsSwitchCode one_plain one_calls (answer_of 0 0) (answer_of 3 0) i8 (5 ∷ []) (bare_edge (answer_of 2 0) ∷ bare_edge (answer_of 1 0) ∷ []) 2 1
  one_is_code =
      subst (λ (calls : Script). IsSwitchCode one_plain calls (answer_of 0 0) (answer_of 3 0) i8 (5 ∷ []) (bare_edge (answer_of 2 0) ∷ bare_edge (answer_of 1 0) ∷ []) 2 1)
      (ap (λ (first : ℕ). ((if first == 0 then branching i8 (answer_of 3 0) (answer_of 1 0) (answer_of 2 0) ∷ []
      else compared one_switch cc.Equal first 5 (answer_of 2 0) (answer_of 1 0)) ++ [])) has.0)
      (subst (λ (list : List (ℕ × ℕ)). IsSwitchCode one_plain (switch_calls one_plain one_switch (one_node range)) (answer_of 0 0) (answer_of 3 0) i8
      (map (λ case. case.0) list) (map (λ case. bare_edge (one_switch.named case.1)) list ++ bare_edge one_switch.otherwise ∷ []) 2 1) entries
      (switch_calls_are_code one_plain (answer_of 0 0) one_switch cases (range.now ∷ []) (one_node range) 0 may searches (omega arith)))

pub switch_call_examples : SwitchCallExamples
switch_call_examples = record {
  twelve = λ zero five seven ten has.
      ap₂ (λ (first : ℕ) (blocks : List ℕ). record { block = if nat_lt 12 first then None else slice_get blocks (12 - first); branches = 2 }) has.0 has.1;
  nine = λ zero five seven ten has.
      ap (λ (first : ℕ). behind_a_branch (behind_a_branch (behind_a_branch (if 9 == first then record { block = block_in seven.now 9; branches = 0 } else nothing_found)))) has.0;
  order = λ zero five seven ten.
      ([], refl, (refl, (refl, tt)), (1 ∷ [], refl, (refl, (refl, tt)), (3 ∷ 1 ∷ [], refl, tt, (1 ∷ [], refl, tt, ([], refl, (refl, tt), ([], refl, tt, refl))))));
  far = λ range has.
      ap₂ (λ (first : ℕ) (blocks : List ℕ). node_calls far_switch [] 0 (record { number = 0; test = test.NotBelow (2 ^ 63) 1 next.Otherwise }) 10
      ++ ((SealBlock (answer_of 10 0) ∷ SwitchToBlock (answer_of 10 0) ∷ table_of far_switch 0 first blocks 18) ++ [])) has.0 has.1;
  farther = refl;
  one = λ cases range entries has. one_is_code cases range entries has;
}
