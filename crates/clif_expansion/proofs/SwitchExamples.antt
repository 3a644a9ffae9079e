-- The worked examples: a switch of one key.
use Rattle.std.proofs.Common.{◌≡◌, ◌⊎◌, inl, inr, ℕ, Bool, true, false, List, [], ◌∷◌, ◌++◌, refl, sym, ◌∙◌, ap, subst, arith, Option, Some, None}
use Rattle.std.specs.Prelude.{◌==◌, Contains, if◌then◌else◌, pos, slice_get}
use Rattle.std.proofs.lemmas.Bool.{eq-eqb, eqb-true}
use Rattle.clif_types.specs.declared.condcodes.IntCC.TheVariants as cc
use Rattle.clif_types.specs.declared.types.«Type».{«Type»}
use Rattle.clif_meaning.specs.Acceptance.{iconst}
use Rattle.clif_meaning.specs.Bits.{Bits}
use Rattle.clif_meaning.specs.BranchExamples.{block, plain}
use Rattle.clif_meaning.specs.Examples.{i32}
use Rattle.clif_meaning.specs.Instruction.{Arithmetic, Brif, Compare, Compute, Edge, Iconst, Instruction, Operation}
use Rattle.clif_meaning.specs.Ledger.{ledger_after, or_invalid, type_of}
use Rattle.clif_meaning.specs.Name.{Name, answer_of, same_name}
use Rattle.clif_meaning.specs.Outcome.{Computed, Goes, Outcome, Values, computed, edge_by}
use Rattle.clif_meaning.specs.Program.{Item, Instruct, program_of}
use Rattle.clif_meaning.specs.Request.{CreateBlock, SwitchToBlock}
use Rattle.clif_meaning.specs.Store.{assigned}
use Rattle.clif_meaning.specs.World.{World}
use Rattle.clif_meaning.proofs.SampleWorld
use Rattle.clif_expansion.specs.Constants.{computing}
use Rattle.clif_expansion.specs.JoinedCalls.{AreJoinedCalls, Asking, Starting, Switching}
use Rattle.clif_expansion.specs.Laying.{Ending, IsLaid, Laying, Leaving}
use Rattle.clif_expansion.specs.Reading.{Generated, NotMade, Reading, ScriptName}
use Rattle.clif_expansion.specs.ScriptCall.{Ask}
use Rattle.clif_expansion.specs.SwitchExamples.{SwitchExamples, both_edges, branching, deciding, is_seven, opened_calls, opened_script, switched_calls}
use Rattle.clif_expansion.specs.Switching.{GoesByKey, IsLedFrom, IsSwitchCode, generated_from, switching, targets_of}
use Rattle.clif_expansion.specs.Walk.{Arriving, Computing, Passing, Surroundings, Takes, Walk}
use Rattle.clif_expansion.proofs.DecidingPrograms.{cancelled}
use Rattle.clif_expansion.proofs.Placing.{contained_first, contained_in, contained_later, none_contained}

abbrev value : Name
value = answer_of 4 1

-- the items that the plain calls build
abbrev items : List (Edge Name Name) → List Item
items edges =
    Instruct 5 (computing (Iconst (pos 7)) i32 []) (answer_of 5 1 ∷ []) ∷ Instruct 6 is_seven (answer_of 6 1 ∷ [])
    ∷ Instruct 7 (branching edges) [] ∷ []

abbrev with_seven : (Name → Bits) → Name → Bits
with_seven names = assigned same_name (answer_of 5 1 ∷ []) (7 ∷ []) names

-- whether it is seven, as bits
abbrev test_of : Bool → Bits
test_of test = if test then 1 else 0

abbrev with_test : (Name → Bits) → Name → Bits
with_test names = assigned same_name (answer_of 6 1 ∷ []) (test_of (names value == 7) ∷ []) (with_seven names)

other_way : (n : ℕ) (c : Bool) → (n == 7) ≡ c → (7 == n) ≡ c
other_way n true is = eq-eqb 7 n (sym (eqb-true n 7 is))
other_way n false is = by (7 == n) refl
  where
    by : (d : Bool) → (7 == n) ≡ d → (7 == n) ≡ false
    by true same = let apart : true ≡ false = sym (eq-eqb n 7 (sym (eqb-true 7 n same))) ∙ is in cc
    by false same = same

module _ (edges : List (Edge Name Name)) (world : World) (types : Name → «Type») (names : Name → Bits) where
  abbrev around : Surroundings
  around = record { world = world; reading = generated_from 5; types = types; program = program_of (opened_script ++ deciding edges) }

  -- up to the branch
  up_to_test : (target : Name) (after : Name → Bits) (branches tables : ℕ)
      → Walk around target (Instruct 7 (branching edges) [] ∷ []) (with_test names) after branches tables → Walk around target (items edges) names after branches tables
  up_to_test target after branches tables walk =
      Computing 5 (computing (Iconst (pos 7)) i32 []) (answer_of 5 1 ∷ []) _ (7 ∷ []) names after branches tables
      (record { arithmetic = Iconst (pos 7); is_arithmetic = refl; computes = refl; generated = (refl, tt) })
      (Computing 6 is_seven (answer_of 6 1 ∷ []) _ (test_of (names value == 7) ∷ []) (with_seven names) after branches tables
      (record { arithmetic = Compare cc.Equal; is_arithmetic = refl; computes = refl; generated = (refl, tt) }) walk)

  taken : (test : Bool) (index : ℕ) (edge : Edge Name Name) → (names value == 7) ≡ test → edge_by (test_of test) ≡ index → slice_get edges index ≡ Some edge → edge.arguments ≡ []
      → Takes around (branching edges) (with_test names) edge
  taken test index edge is takes there nothing = record {
    is_branch = tt;
    index = index;
    goes = λ memory. ap (λ (c : Bool). Goes (edge_by (test_of c)) [] memory) is ∙ ap (λ (k : ℕ). Goes k [] memory) takes;
    there = there;
    nothing = nothing;
  }

  arriving : (test : Bool) (index : ℕ) (edge : Edge Name Name) → (names value == 7) ≡ test → edge_by (test_of test) ≡ index → slice_get edges index ≡ Some edge → edge.arguments ≡ []
      → Walk around edge.target (items edges) names (with_test names) 1 0
  arriving test index edge is takes there nothing =
      up_to_test edge.target (with_test names) 1 0 (Arriving 7 (branching edges) [] [] edge (with_test names) (taken test index edge is takes there nothing) refl)

-- THE CODE ----------------------------------------------------------------------------------------------------------------

goes : (world : World) (types : Name → «Type») (names : Name → Bits) → (c : Bool) → (names value == 7) ≡ c
    → GoesByKey (record { world = world; reading = generated_from 5; types = types; program = program_of (opened_script ++ deciding both_edges) }) (items both_edges) both_edges (7 ∷ []) names (names value) 1 0
goes world types names true is = record {
  edge = plain (block 1);
  there = ap (λ (c : Bool). slice_get both_edges (if c then 0 else 1)) (other_way (names value) true is);
  after = with_test names;
  walked_branches = 1;
  walked_tables = 0;
  walk = arriving both_edges world types names true 0 (plain (block 1)) is refl refl refl;
  few_branches = omega arith;
  few_tables = omega arith;
}
goes world types names false is = record {
  edge = plain (block 2);
  there = ap (λ (c : Bool). slice_get both_edges (if c then 0 else 1)) (other_way (names value) false is);
  after = with_test names;
  walked_branches = 1;
  walked_tables = 0;
  walk = arriving both_edges world types names false 1 (plain (block 2)) is refl refl refl;
  few_branches = omega arith;
  few_tables = omega arith;
}

laid : (place : ℕ) (instruction : Instruction Name Name) → instruction.operands ≡ value ∷ [] → instruction.edges ≡ both_edges
    → IsLaid (generated_from 5) (program_of (opened_script ++ deciding both_edges)) (items both_edges) (Instruct place instruction [])
laid place instruction operands edges =
    let operand : Contains (instruction.operands ++ instruction.contexts) value =
    subst (λ (names : List Name). Contains (names ++ instruction.contexts) value) (sym operands) (contained_first value instruction.contexts) in
    let second : Contains (targets_of instruction.edges) (block 1) = subst (λ (es : List (Edge Name Name)). Contains (targets_of es) (block 1)) (sym edges) (contained_first (block 1) (block 2 ∷ [])) in
    let third : Contains (targets_of instruction.edges) (block 2) =
    subst (λ (es : List (Edge Name Name)). Contains (targets_of es) (block 2)) (sym edges) (contained_later (block 1) (block 2 ∷ []) (block 2) (contained_first (block 2) [])) in
    let given : List Name = answer_of 6 1 ∷ answer_of 5 1 ∷ [] in
    record {
      begins = λ none. cc;
      lays =
          Laying [] (Instruct 5 (computing (Iconst (pos 7)) i32 []) (answer_of 5 1 ∷ [])) _ tt tt
          (Laying (answer_of 5 1 ∷ []) (Instruct 6 is_seven (answer_of 6 1 ∷ [])) _
          (inr (value, refl, operand), (inl (contained_first (answer_of 5 1) []), tt)) tt
          (Laying given (Instruct 7 (branching both_edges) []) []
          (inl (contained_first (answer_of 6 1) (answer_of 5 1 ∷ [])), tt) tt
          (Leaving given (block 1) (block 1) (block 2 ∷ []) [] refl second tt
          (Leaving given (block 2) (block 2) [] [] refl third tt (Ending given tt)))));
    }

led : (target : Name) → Contains (targets_of both_edges) target → IsLedFrom 5 (ledger_after (opened_script ++ deciding both_edges)) target
led target there = by (contained_in (block 1) (block 2 ∷ []) target there)
  where
    last : (block 2 ≡ target) ⊎ Contains [] target → IsLedFrom 5 (ledger_after (opened_script ++ deciding both_edges)) target
    last (inl same) = subst (IsLedFrom 5 (ledger_after (opened_script ++ deciding both_edges))) same (record { branch = answer_of 7 0; generated = omega arith; leads = refl })
    last (inr none) = absurd (none_contained target none)

    by : (block 1 ≡ target) ⊎ Contains (block 2 ∷ []) target → IsLedFrom 5 (ledger_after (opened_script ++ deciding both_edges)) target
    by (inl same) = subst (IsLedFrom 5 (ledger_after (opened_script ++ deciding both_edges))) same (record { branch = answer_of 7 0; generated = omega arith; leads = refl })
    by (inr further) = last (contained_in (block 2) [] target further)

code : IsSwitchCode opened_script (deciding both_edges) (block 0) value i32 (7 ∷ []) both_edges 1 0
code = record {
  nothing = (refl, (refl, tt));
  value_type = refl;
  calls = (
    (record { deciding = tt; contexts = refl; edges = tt }, tt),
    (
      (record { deciding = tt; contexts = refl; edges = tt }, tt),
      (
        (
          record {
            deciding = tt;
            contexts = refl;
            edges = (
              record { nothing = refl; inside = inr (contained_first (block 1) (block 2 ∷ [])) },
              (record { nothing = refl; inside = inr (contained_later (block 1) (block 2 ∷ []) (block 2) (contained_first (block 2) [])) }, tt),
            );
          },
          tt,
        ),
        tt,
      ),
    ),
  );
  typed = λ types have. (
    record { made_at = refl; operands = tt; edges = tt },
    (
      record { made_at = refl; operands = (have (answer_of 4 1) i32 refl, (have (answer_of 5 1) i32 refl, tt)); edges = tt },
      (record { made_at = refl; operands = (have (answer_of 6 1) _ refl, tt); edges = (refl, (refl, tt)) }, tt),
    ),
  );
  begins = tt;
  blocks = (tt, (tt, ((λ from. refl, (λ from. refl, tt)), tt)));
  finished = (λ from. absurd (omega (arith, from)), (λ from. absurd (omega (arith, from)), (λ from. absurd (omega (arith, from)), tt)));
  filled = refl;
  left = record { filled = refl; begun = refl; inserted = refl };
  led = led;
  jump_tables = refl;
  code = items both_edges;
  stands = refl;
  laid = laid;
  goes = λ world types names have is_value. goes world types names (names value == 7) refl;
}

-- JOINED ------------------------------------------------------------------------------------------------------------------

abbrev opened : (reading : Reading) × AreJoinedCalls reading opened_script opened_calls
opened =
    let first = Asking (λ x. NotMade) [] [] CreateBlock CreateBlock Starting tt (λ uses. refl) in
    let second = Asking _ (CreateBlock ∷ []) (Ask CreateBlock ∷ []) CreateBlock CreateBlock first tt (λ uses. refl) in
    let third = Asking _ (CreateBlock ∷ CreateBlock ∷ []) (Ask CreateBlock ∷ Ask CreateBlock ∷ []) CreateBlock CreateBlock second tt (λ uses. refl) in
    let switched = Asking _ (CreateBlock ∷ CreateBlock ∷ CreateBlock ∷ []) (Ask CreateBlock ∷ Ask CreateBlock ∷ Ask CreateBlock ∷ []) (SwitchToBlock (block 0)) (SwitchToBlock (block 0)) third refl (λ uses. refl) in (
      _,
      Asking _ (CreateBlock ∷ CreateBlock ∷ CreateBlock ∷ SwitchToBlock (block 0) ∷ []) (Ask CreateBlock ∷ Ask CreateBlock ∷ Ask CreateBlock ∷ Ask (SwitchToBlock (block 0)) ∷ [])
          (iconst i32 (pos 5)) (iconst i32 (pos 5)) switched (refl, record { operation = refl; controlling = refl; operands = tt; contexts = tt; edges = tt }) (λ uses. refl),
    )

joined : (reading : Reading) × AreJoinedCalls reading (opened_script ++ deciding both_edges) switched_calls
joined = (
  _,
  Switching opened.0 opened_script (deciding both_edges) opened_calls (block 0) value i32 (7 ∷ []) both_edges (switching (7 ∷ []) i32 value both_edges) 1 0 opened.1 refl refl
      (record {
        operation = refl;
        controlling = refl;
        operands = (refl, tt);
        contexts = tt;
        edges = (record { target = refl; arguments = tt }, (record { target = refl; arguments = tt }, tt));
      }) code,
)

-- TURNED ROUND ------------------------------------------------------------------------------------------------------------

abbrev turned_edges : List (Edge Name Name)
turned_edges = plain (block 2) ∷ plain (block 1) ∷ []

abbrev seven : Name → Bits
seven x = 7

abbrev index_of : Outcome → ℕ
index_of (Goes k results memory) = k
index_of _ = 0

abbrev target_of : Option (Edge Name Name) → Name
target_of None = block 2
target_of (Some e) = e.target

abbrev arithmetic_of : Operation → Arithmetic
arithmetic_of (Compute arithmetic) = arithmetic
arithmetic_of _ = Iconst (pos 0)

abbrev values_of : Computed → List Bits
values_of (Values values) = values
values_of _ = []

module _ (world : World) (types : Name → «Type») where
  abbrev here : Surroundings
  here = around turned_edges world types seven

  -- for seven the branch goes to the third block
  third : (names : Name → Bits) → names (answer_of 6 1) ≡ 1 → (edge : Edge Name Name) → Takes here (branching turned_edges) names edge → edge.target ≡ block 2
  third names one edge takes =
      let goes_so : Goes (edge_by 1) [] world.memory ≡ Goes takes.index [] world.memory =
      ap (λ (bits : Bits). Goes (edge_by bits) [] world.memory) (sym one) ∙ takes.goes world.memory in
      let index : 0 ≡ takes.index = ap index_of goes_so in
      let edge_is : Some (plain (block 2)) ≡ Some edge = ap (slice_get turned_edges) index ∙ takes.there in
      sym (ap target_of edge_is)

  last : (names : Name → Bits) → names (answer_of 6 1) ≡ 1 → (target : Name) (after : Name → Bits) (branches tables : ℕ)
      → Walk here target (Instruct 7 (branching turned_edges) [] ∷ []) names after branches tables → target ≡ block 2
  last names one target after branches tables (Computing p i r rest values b a bs ts does walk) = let no_way : Brif ≡ Compute does.arithmetic = does.is_arithmetic in cc
  last names one target after branches tables (Passing p i r rest edge b a bs ts takes generated walk) =
      let apart : ScriptName (block 2) ≡ Generated = ap (generated_from 5) (sym (third names one edge takes)) ∙ generated in cc
  last names one target after branches tables (Arriving p i r rest edge b takes same) = sym same ∙ third names one edge takes

  compared : (names : Name → Bits) → names value ≡ 7 → names (answer_of 5 1) ≡ 7 → (target : Name) (after : Name → Bits) (branches tables : ℕ)
      → Walk here target (Instruct 6 is_seven (answer_of 6 1 ∷ []) ∷ Instruct 7 (branching turned_edges) [] ∷ []) names after branches tables → target ≡ block 2
  compared names first second target after branches tables (Computing p i r rest values b a bs ts does walk) =
      let made : Values (test_of (names value == names (answer_of 5 1)) ∷ []) ≡ Values values =
      ap (λ (arithmetic : Arithmetic). computed arithmetic i32 (types value ∷ types (answer_of 5 1) ∷ []) (names value ∷ names (answer_of 5 1) ∷ [])) (ap arithmetic_of does.is_arithmetic) ∙ does.computes in
      let one : test_of (names value == names (answer_of 5 1)) ∷ [] ≡ 1 ∷ [] = λ i. test_of (first i == second i) ∷ [] in
      let is : values ≡ 1 ∷ [] = sym (ap values_of made) ∙ one in
      last (assigned same_name (answer_of 6 1 ∷ []) values names) (ap (λ (vs : List Bits). assigned same_name (answer_of 6 1 ∷ []) vs names (answer_of 6 1)) is) target after branches tables walk
  compared names first second target after branches tables (Passing p i r rest edge b a bs ts takes generated walk) = absurd takes.is_branch
  compared names first second target after branches tables (Arriving p i r rest edge b takes same) = absurd takes.is_branch

  begun : (target : Name) (after : Name → Bits) (branches tables : ℕ) → Walk here target (items turned_edges) seven after branches tables → target ≡ block 2
  begun target after branches tables (Computing p i r rest values b a bs ts does walk) =
      let made : Values (7 ∷ []) ≡ Values values =
      ap (λ (arithmetic : Arithmetic). computed arithmetic i32 [] []) (ap arithmetic_of does.is_arithmetic) ∙ does.computes in
      let is : values ≡ 7 ∷ [] = sym (ap values_of made) in
      compared (assigned same_name (answer_of 5 1 ∷ []) values seven) (ap (λ (vs : List Bits). assigned same_name (answer_of 5 1 ∷ []) vs seven value) is)
      (ap (λ (vs : List Bits). assigned same_name (answer_of 5 1 ∷ []) vs seven (answer_of 5 1)) is) target after branches tables walk
  begun target after branches tables (Passing p i r rest edge b a bs ts takes generated walk) = absurd takes.is_branch
  begun target after branches tables (Arriving p i r rest edge b takes same) = absurd takes.is_branch

turned : (branches tables : ℕ) → IsSwitchCode opened_script (deciding turned_edges) (block 0) value i32 (7 ∷ []) both_edges branches tables → ⊥
turned branches tables code =
    let types : Name → «Type» = λ x. or_invalid (type_of (ledger_after (opened_script ++ deciding turned_edges)) x) in
    let world : World = SampleWorld.sample_world in
    let there = code.goes world types seven (λ x ty is. ap or_invalid is) (omega arith) in
    let code_is : items turned_edges ≡ code.code = cancelled ((program_of opened_script).items (block 0)) (items turned_edges) code.code code.stands in
    let walk = subst (λ (list : List Item). Walk (here world types) there.edge.target list seven there.after there.walked_branches there.walked_tables) (sym code_is) there.walk in
    let to_third : there.edge.target ≡ block 2 = begun world types there.edge.target there.after there.walked_branches there.walked_tables walk in
    let to_second : block 1 ≡ there.edge.target = ap target_of there.there in
    let place = ap (λ (n : Name). n.place) (to_second ∙ to_third) in cc

pub examples : SwitchExamples
examples = record {
  allowed = refl;
  no_integer = refl;
  filled = refl;
  to_second = refl;
  to_third = refl;
  no_current = refl;
  nothing_built = refl;
  no_table = refl;
  a_table = refl;
  twice = refl;
  too_great = refl;
  greatest = refl;
  refused = refl;
  code = code;
  joined = joined;
  turned = turned;
}
