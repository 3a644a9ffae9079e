-- Walks along the branches of a switch.
use Rattle.std.proofs.Common.{◌≡◌, ◌<◌, ◌≤◌, ◌+◌, ◌-◌, ℕ, zero, suc, Bool, true, false, List, [], ◌∷◌, ◌++◌, length, map, refl, sym, ◌∙◌, ap, subst, arith, Some, None, Option}
use Rattle.std.specs.Prelude.{◌%◌, ◌==◌, if◌then◌else◌, nat_lt, slice_get}
use Rattle.std.proofs.lemmas.Bool.Decides.{nat_tests}
use Rattle.std.proofs.lemmas.Option.{slice_get_past}
use Rattle.clif_types.specs.declared.types.«Type».{«Type»}
use Rattle.clif_ranges.specs.declared.ranges.CaseRange.{CaseRange}
use Rattle.clif_ranges.specs.Search.{block_in}
use Rattle.clif_meaning.specs.Acceptance.{table_branch}
use Rattle.clif_meaning.specs.Bits.{Bits}
use Rattle.clif_meaning.specs.Instruction.{Brif, Edge, Instruction, Jump}
use Rattle.clif_meaning.specs.Name.{Name}
use Rattle.clif_meaning.specs.Outcome.{edge_by, edge_in_table}
use Rattle.clif_meaning.specs.Program.{Item, Instruct}
use Rattle.clif_expansion.specs.Walk.{Arriving, IsGenerated, Passing, Surroundings, Takes, Walk}
use Rattle.clif_switch_calls.specs.SwitchCalls.{Switched, bare_edge, table_targets}
use Rattle.clif_switch_calls.proofs.Lines.{Leads}
use Rattle.clif_switch_calls.proofs.Numbers.{difference_above, difference_below}

-- where control goes for a case's block, or where there is none
abbrev pub target_of : Switched → Option ℕ → Name
target_of s None = s.otherwise
target_of s (Some block) = s.named block

-- From before the items control walks to the target, by no more than so many branches and one table.
pub record Walked (around : Surroundings) (target : Name) (items : List Item) (before : Name → Bits) (branches : ℕ) : Type 0 where
  pub after : Name → Bits
  pub walked_branches : ℕ
  pub walked_tables : ℕ
  pub walk : Walk around target items before after walked_branches walked_tables
  pub few_branches : walked_branches ≤ branches
  pub few_tables : walked_tables ≤ 1

-- The block is the target, or generated, and control walks from it to the target wherever the names are fine.
pub data Reaches (around : Surroundings) (Fine : (Name → Bits) → Type 0) (block target : Name) (branches : ℕ) : Type 0 where
  At : block ≡ target → Reaches around Fine block target branches
  Through : IsGenerated around.reading block → ((names : Name → Bits) → Fine names → Walked around target (around.program.items block) names branches)
      → Reaches around Fine block target branches

pub walked_on : (around : Surroundings) (target : Name) (items rest : List Item) (before after : Name → Bits) (branches : ℕ)
    → Leads around items before after → Walked around target rest after branches → Walked around target (items ++ rest) before branches
walked_on around target items rest before after branches leads walked = record {
  after = walked.after;
  walked_branches = walked.walked_branches;
  walked_tables = walked.walked_tables;
  walk = leads.leads target rest walked.after walked.walked_branches walked.walked_tables walked.walk;
  few_branches = walked.few_branches;
  few_tables = walked.few_tables;
}

pub more_allowed : (around : Surroundings) (target : Name) (items : List Item) (before : Name → Bits) (branches more : ℕ) → branches ≤ more
    → Walked around target items before branches → Walked around target items before more
more_allowed around target items before branches more fewer walked = record {
  after = walked.after;
  walked_branches = walked.walked_branches;
  walked_tables = walked.walked_tables;
  walk = walked.walk;
  few_branches = omega (arith, walked.few_branches, fewer);
  few_tables = walked.few_tables;
}

-- a conditional branch
abbrev pub conditional : «Type» → (condition taken other : Name) → Instruction Name Name
conditional ty condition taken other = record { operation = Brif; controlling = ty; operands = condition ∷ []; contexts = []; edges = bare_edge taken ∷ bare_edge other ∷ [] }

module _ (around : Surroundings) where
  -- the first edge is taken where the condition isn't zero
  pub takes_conditional : (ty : «Type») (condition taken other : Name) (names : Name → Bits) (c : Bool) → (names condition == 0) ≡ c
      → Takes around (conditional ty condition taken other) names (bare_edge (if c then other else taken))
  takes_conditional ty condition taken other names c is = record {
    is_branch = tt;
    index = edge_by (names condition);
    goes = λ memory. refl;
    there = ap (λ (d : Bool). slice_get (bare_edge taken ∷ bare_edge other ∷ []) (if d then 1 else 0)) is ∙ by c;
    nothing = refl;
  }
    where
      by : (d : Bool) → slice_get (bare_edge taken ∷ bare_edge other ∷ []) (if d then 1 else 0) ≡ Some (bare_edge (if d then other else taken))
      by true = refl
      by false = refl

  module _ (Fine : (Name → Bits) → Type 0) (names : Name → Bits) (fine : Fine names) where
    pub walks_conditional : (place : ℕ) (ty : «Type») (condition taken other : Name) (rest : List Item) (c : Bool) (target : Name) (branches : ℕ) → (names condition == 0) ≡ c
        → Reaches around Fine (if c then other else taken) target branches
        → Walked around target (Instruct place (conditional ty condition taken other) [] ∷ rest) names (suc branches)
    walks_conditional place ty condition taken other rest c target branches is (At same) = record {
      after = names;
      walked_branches = 1;
      walked_tables = 0;
      walk = Arriving place (conditional ty condition taken other) [] rest (bare_edge (if c then other else taken)) names (takes_conditional ty condition taken other names c is) same;
      few_branches = omega arith;
      few_tables = omega arith;
    }
    walks_conditional place ty condition taken other rest c target branches is (Through generated walks) =
        let on = walks names fine in
        record {
          after = on.after;
          walked_branches = 1 + on.walked_branches;
          walked_tables = 0 + on.walked_tables;
          walk = Passing place (conditional ty condition taken other) [] rest (bare_edge (if c then other else taken)) names on.after on.walked_branches on.walked_tables
              (takes_conditional ty condition taken other names c is) generated on.walk;
          few_branches = omega (arith, on.few_branches);
          few_tables = omega (arith, on.few_tables);
        }

  -- a jump
  pub walks_jump : (place : ℕ) (instruction : Instruction Name Name) (block target : Name) (rest : List Item) (names : Name → Bits) (branches : ℕ)
      → instruction ≡ record { operation = Jump; controlling = instruction.controlling; operands = []; contexts = []; edges = bare_edge block ∷ [] }
      → block ≡ target → Walked around target (Instruct place instruction [] ∷ rest) names branches
  walks_jump place instruction block target rest names branches is same =
      subst (λ (i : Instruction Name Name). Walked around target (Instruct place i [] ∷ rest) names branches) (sym is)
      (record {
        after = names;
        walked_branches = 0;
        walked_tables = 0;
        walk = Arriving place _ [] rest (bare_edge block) names
            (record { is_branch = tt; index = 0; goes = λ memory. refl; there = refl; nothing = refl }) same;
        few_branches = omega arith;
        few_tables = omega arith;
      })

  -- a table
  pub walks_table : (place : ℕ) (index : Name) (edges : List (Edge Name Name)) (target : Name) (rest : List Item) (names : Name → Bits) (branches : ℕ)
      → slice_get edges (edge_in_table (length edges - 1) (names index)) ≡ Some (bare_edge target)
      → Walked around target (Instruct place (table_branch index edges) [] ∷ rest) names branches
  walks_table place index edges target rest names branches there = record {
    after = names;
    walked_branches = 0;
    walked_tables = 1;
    walk = Arriving place (table_branch index edges) [] rest (bare_edge target) names
        (record { is_branch = tt; index = edge_in_table (length edges - 1) (names index); goes = λ memory. refl; there = there; nothing = refl }) refl;
    few_branches = omega arith;
    few_tables = omega arith;
  }

-- TABLES ------------------------------------------------------------------------------------------------------------------

-- the edge of an entry
entry_edge : (s : Switched) (blocks : List ℕ) (i : ℕ) → i < length blocks
    → slice_get (map bare_edge (map s.named blocks)) i ≡ Some (bare_edge (target_of s (slice_get blocks i)))
entry_edge s [] i inside = absurd (omega (arith, inside))
entry_edge s (block ∷ blocks) zero inside = refl
entry_edge s (block ∷ blocks) (suc i) inside = entry_edge s blocks i (omega (arith, inside))

abbrev pub table_edges : Switched → CaseRange → List (Edge Name Name)
table_edges s range = map bare_edge (table_targets s range)

entry_count : (s : Switched) (blocks : List ℕ) → length (map bare_edge (map s.named blocks)) ≡ length blocks
entry_count s [] = refl
entry_count s (block ∷ blocks) = ap suc (entry_count s blocks)

-- along a table control goes to the block of the key that is so far from the first one
pub table_edge : (s : Switched) (range : CaseRange) (modulus key : ℕ) → key < modulus → 0 < length range.blocks.items → range.first + length range.blocks.items ≤ modulus
    → slice_get (table_edges s range) (edge_in_table (length (table_edges s range) - 1) ((key + modulus - range.first) % modulus))
    ≡ Some (bare_edge (target_of s (block_in range key)))
table_edge s range modulus key small some fits = by (nat_lt key range.first) refl
  where
    blocks : List ℕ
    blocks = range.blocks.items

    count : length (table_edges s range) - 1 ≡ length blocks
    count = let is = entry_count s blocks in omega (arith, is)

    -- the default
    past : (d : ℕ) → length range.blocks.items ≤ d → slice_get (table_edges s range) (edge_in_table (length range.blocks.items) d) ≡ Some (bare_edge s.otherwise)
    past d over =
        let is : nat_lt d (length range.blocks.items) ≡ false = grind (arith, nat_tests) in
        ap (λ (c : Bool). slice_get (table_edges s range) (if c then suc d else 0)) is

    -- an entry
    within : (d : ℕ) → d < length range.blocks.items → slice_get (table_edges s range) (edge_in_table (length range.blocks.items) d) ≡ Some (bare_edge (target_of s (slice_get range.blocks.items d)))
    within d inside =
        let is : nat_lt d (length range.blocks.items) ≡ true = grind (arith, nat_tests) in
        ap (λ (c : Bool). slice_get (table_edges s range) (if c then suc d else 0)) is ∙ entry_edge s range.blocks.items d inside

    at : (d : ℕ) (c : Bool) → nat_lt d (length range.blocks.items) ≡ c → slice_get (table_edges s range) (edge_in_table (length range.blocks.items) d) ≡ Some (bare_edge (target_of s (slice_get range.blocks.items d)))
    at d true is = within d (grind (arith, nat_tests))
    at d false is =
        let over : length range.blocks.items ≤ d = grind (arith, nat_tests) in
        past d over ∙ ap (λ (o : Option ℕ). Some (bare_edge (target_of s o))) (sym (slice_get_past range.blocks.items d over))

    by : (c : Bool) → nat_lt key range.first ≡ c
        → slice_get (table_edges s range) (edge_in_table (length (table_edges s range) - 1) ((key + modulus - range.first) % modulus)) ≡ Some (bare_edge (target_of s (block_in range key)))
    by true is =
        let under : key < range.first = grind (arith, nat_tests) in
        ap (λ (n : ℕ). slice_get (table_edges s range) (edge_in_table n ((key + modulus - range.first) % modulus))) count
        ∙ past ((key + modulus - range.first) % modulus)
        (subst (λ (d : ℕ). length range.blocks.items ≤ d) (sym (difference_below modulus key range.first under (omega (arith, some, fits)))) (omega (arith, fits)))
        ∙ ap (λ (c : Bool). Some (bare_edge (target_of s (if c then None else slice_get range.blocks.items (key - range.first))))) (sym is)
    by false is =
        let over : range.first ≤ key = grind (arith, nat_tests) in
        ap (λ (n : ℕ). slice_get (table_edges s range) (edge_in_table n ((key + modulus - range.first) % modulus))) count
        ∙ ap (λ (d : ℕ). slice_get (table_edges s range) (edge_in_table (length range.blocks.items) d)) (difference_above modulus key range.first small over)
        ∙ at (key - range.first) (nat_lt (key - range.first) (length range.blocks.items)) refl
        ∙ ap (λ (c : Bool). Some (bare_edge (target_of s (if c then None else slice_get range.blocks.items (key - range.first))))) (sym is)

-- what is farther than each entry is none
pub no_entry : (range : CaseRange) (modulus key : ℕ) → key < modulus → 0 < length range.blocks.items → range.first + length range.blocks.items ≤ modulus
    → length range.blocks.items ≤ (key + modulus - range.first) % modulus → block_in range key ≡ None
no_entry range modulus key small some fits far = by (nat_lt key range.first) refl
  where
    by : (c : Bool) → nat_lt key range.first ≡ c → block_in range key ≡ None
    by true is = ap (λ (c : Bool). if c then None else slice_get range.blocks.items (key - range.first)) is
    by false is =
        let over : range.first ≤ key = grind (arith, nat_tests) in
        ap (λ (c : Bool). if c then None else slice_get range.blocks.items (key - range.first)) is
        ∙ slice_get_past range.blocks.items (key - range.first) (subst (λ (d : ℕ). length range.blocks.items ≤ d) (difference_above modulus key range.first small over) far)
