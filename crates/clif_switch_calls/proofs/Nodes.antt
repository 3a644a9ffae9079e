-- Walks from node to node.
use Rattle.std.proofs.Common.{◌≡◌, ◌<◌, ◌≤◌, ◌+◌, ℕ, zero, suc, Bool, List, [], ◌∷◌, ◌++◌, length, refl, sym, ◌∙◌, ap, subst, arith, length-append}
use Rattle.std.specs.Prelude.{◌^◌, if◌then◌else◌, slice_index_or, IsTrue, Contains, reverse}
use Rattle.std.specs.List.{AllByRecursion}
use Rattle.std.proofs.lemmas.Bool.{ne_eqb}
use Rattle.clif_types.specs.Types.{bits_of, is_int}
use Rattle.clif_ranges.specs.declared.ranges.CaseRange.{CaseRange}
use Rattle.clif_ranges.specs.declared.search.Next.TheVariants as next
use Rattle.clif_ranges.specs.declared.search.Node.{Node}
use Rattle.clif_ranges.specs.declared.search.Test.{Test}
use Rattle.clif_ranges.specs.declared.search.Test.TheVariants as test
use Rattle.clif_ranges.specs.Search.{AreInOrder, AreNumbersFrom, Found, IsTestOf, named_by, search, tested}
use Rattle.clif_ranges.proofs.Searching.{begins}
use Rattle.clif_meaning.specs.Name.{Name, answer_of}
use Rattle.clif_meaning.specs.Program.{Item}
use Rattle.clif_meaning.specs.Request.{Script}
use Rattle.clif_expansion.specs.Walk.{IsGenerated, Surroundings}
use Rattle.clif_switch_calls.specs.SwitchCalls.{Switched, blocks_of, blocks_with, entering, node_calls, nodes_calls, tables_of, test_calls}
use Rattle.clif_switch_calls.proofs.Basics.{all_both}
use Rattle.clif_switch_calls.proofs.Branches.{At, Through, Walked, target_of}
use Rattle.clif_switch_calls.proofs.Codes.{AreTyped, Entered, code_of, entered_behind, typed_behind}
use Rattle.clif_switch_calls.proofs.Searched.{Fits, GoOn, IsAt, test_walks}

-- NUMBERS AND NAMES -------------------------------------------------------------------------------------------------------

-- the block of a node other than the first one
abbrev pub name_in : List Name → ℕ → Name
name_in blocks zero = answer_of 0 0
name_in blocks (suc n) = slice_index_or blocks n (answer_of 0 0)

-- the last one named is the greatest, and stands first; all are below the next number
abbrev pub Fall : (bound : ℕ) → List ℕ → Type 0
Fall bound [] = Unit {0}
Fall bound (n ∷ numbers) = (n < bound) × (0 < n) × Fall n numbers

fall_below : (low high : ℕ) (numbers : List ℕ) → low ≤ high → Fall low numbers → Fall high numbers
fall_below low high [] more fall = tt
fall_below low high (n ∷ numbers) more fall = (omega (arith, fall.0, more), fall.1, fall.2)

-- what a test names is new
pub fall_on : (t : Test) (from bound : ℕ) (rest : List ℕ) → AreNumbersFrom from (named_by t) → bound ≤ from → 0 < from → Fall bound rest
    → Fall (from + length (named_by t)) (reverse (named_by t) ++ rest)
fall_on test.Nothing from bound rest are below some fall = fall_below bound (from + 0) rest (omega (arith, below)) fall
fall_on (test.OneKey range next.Otherwise) from bound rest are below some fall = fall_below bound (from + 0) rest (omega (arith, below)) fall
fall_on (test.OneKey range (next.Node n)) from bound rest are below some fall =
    (omega (arith, are.0), omega (arith, are.0, some), fall_below bound n rest (omega (arith, are.0, below)) fall)
fall_on (test.NotBelow first above next.Otherwise) from bound rest are below some fall =
    (omega (arith, are.0), omega (arith, are.0, some), fall_below bound above rest (omega (arith, are.0, below)) fall)
fall_on (test.NotBelow first above (next.Node n)) from bound rest are below some fall = (
  omega (arith, are.1.0),
  omega (arith, are.1.0),
  (omega (arith, are.0, are.1.0), omega (arith, are.0, some), fall_below bound n rest (omega (arith, are.0, below)) fall),
)
fall_on (test.Table range) from bound rest are below some fall = fall_below bound (from + 0) rest (omega (arith, below)) fall

-- as many blocks are made as nodes are named
pub as_many : (t : Test) (place : ℕ) → length (blocks_of t place) ≡ length (named_by t)
as_many test.Nothing place = refl
as_many (test.OneKey range next.Otherwise) place = refl
as_many (test.OneKey range (next.Node n)) place = refl
as_many (test.NotBelow first above next.Otherwise) place = refl
as_many (test.NotBelow first above (next.Node n)) place = refl
as_many (test.Table range) place = refl

abbrev pub From : ℕ → List Name → Type 0
From base names = AllByRecursion (λ x. base ≤ x.place) names

pub made_from : (t : Test) (base place : ℕ) → base ≤ place → From base (blocks_of t place)
made_from test.Nothing base place behind = tt
made_from (test.OneKey range next.Otherwise) base place behind = tt
made_from (test.OneKey range (next.Node n)) base place behind = (behind, tt)
made_from (test.NotBelow first above next.Otherwise) base place behind = (omega (arith, behind), tt)
made_from (test.NotBelow first above (next.Node n)) base place behind = (behind, (omega (arith, behind), tt))
made_from (test.Table range) base place behind = tt

pub from_at : (base : ℕ) (names : List Name) (k : ℕ) → From base names → k < length names → base ≤ (slice_index_or names k (answer_of 0 0)).place
from_at base [] k all inside = absurd (omega (arith, inside))
from_at base (x ∷ names) zero all inside = all.0
from_at base (x ∷ names) (suc k) all inside = from_at base names k all.1 (omega (arith, inside))

at_seam : (names more : List Name) (d : Name) → slice_index_or (names ++ more) (length names) d ≡ slice_index_or more 0 d
at_seam [] more d = refl
at_seam (x ∷ names) more d = at_seam names more d

behind_seam : (names more : List Name) (d : Name) → slice_index_or (names ++ more) (suc (length names)) d ≡ slice_index_or more 1 d
behind_seam [] more d = refl
behind_seam (x ∷ names) more d = behind_seam names more d

before_seam : (names more : List Name) (k : ℕ) (d : Name) → k < length names → slice_index_or (names ++ more) k d ≡ slice_index_or names k d
before_seam [] more k d inside = absurd (omega (arith, inside))
before_seam (x ∷ names) more zero d inside = refl
before_seam (x ∷ names) more (suc k) d inside = before_seam names more k d (omega (arith, inside))

pub named_before : (blocks more : List Name) (n : ℕ) → n < suc (length blocks) → name_in (blocks ++ more) n ≡ name_in blocks n
named_before blocks more zero below = refl
named_before blocks more (suc n) below = before_seam blocks more n (answer_of 0 0) (omega (arith, below))

pub named_first : (blocks more : List Name) (n : ℕ) → n ≡ suc (length blocks) → name_in (blocks ++ more) n ≡ slice_index_or more 0 (answer_of 0 0)
named_first blocks more n is = ap (name_in (blocks ++ more)) is ∙ at_seam blocks more (answer_of 0 0)

pub named_second : (blocks more : List Name) (n : ℕ) → n ≡ suc (suc (length blocks)) → name_in (blocks ++ more) n ≡ slice_index_or more 1 (answer_of 0 0)
named_second blocks more n is = ap (name_in (blocks ++ more)) is ∙ behind_seam blocks more (answer_of 0 0)

pub head_same : (a b : ℕ) (xs ys : List ℕ) → a ∷ xs ≡ b ∷ ys → a ≡ b
head_same a b xs ys same = ap (λ (list : List ℕ). first list) same
  where
    first : List ℕ → ℕ
    first [] = 0
    first (x ∷ rest) = x

pub tail_same : (a b : ℕ) (xs ys : List ℕ) → a ∷ xs ≡ b ∷ ys → xs ≡ ys
tail_same a b xs ys same = ap (λ (list : List ℕ). later list) same
  where
    later : List ℕ → List ℕ
    later [] = []
    later (x ∷ rest) = rest

-- WALKS -------------------------------------------------------------------------------------------------------------------

module _ (base : ℕ) (around : Surroundings) (generated : (x : Name) → base ≤ x.place → IsGenerated around.reading x) (s : Switched) (int : IsTrue (is_int s.ty))
    (before : s.value.place < base) (key : ℕ) (small : key < 2 ^ bits_of s.ty)
    (ranges : List CaseRange) (fit : (range : CaseRange) → Contains ranges range → Fits s.ty range) where
  abbrev At_ : Name → Found → Type 0
  At_ block found = IsAt base around generated s int before key small block found

  abbrev Go : (ℕ → Found) → Test → (place : ℕ) → Type 0
  Go from t place = GoOn base around generated s int before key small from t place

  -- control comes so to each node that was named
  abbrev pub AreAt : (blocks : List Name) → List Node → List ℕ → Type 0
  AreAt blocks nodes numbers = AllByRecursion (λ n. At_ (name_in blocks n) (search nodes n key)) numbers

  renamed : (a b : Name) (found : Found) → a ≡ b → At_ a found → At_ b found
  renamed a b found same at = subst (λ (x : Name). At_ x found) same at

  pub goes_on_so : (t : Test) (blocks : List Name) (from place : ℕ) (nodes : List Node) (rest : List ℕ) → from ≡ suc (length blocks) → AreNumbersFrom from (named_by t)
      → AreAt (blocks ++ blocks_of t place) nodes (reverse (named_by t) ++ rest)
      → Go (λ later. search nodes later key) t place × AreAt (blocks ++ blocks_of t place) nodes rest
  goes_on_so test.Nothing blocks from place nodes rest is are at = (tt, at)
  goes_on_so (test.OneKey range next.Otherwise) blocks from place nodes rest is are at = (At refl, at)
  goes_on_so (test.OneKey range (next.Node n)) blocks from place nodes rest is are at =
      (renamed _ _ (search nodes n key) (named_first blocks (answer_of place 0 ∷ []) n (are.0 ∙ is)) at.0, at.1)
  goes_on_so (test.NotBelow first above next.Otherwise) blocks from place nodes rest is are at =
      ((At refl, renamed _ _ (search nodes above key) (named_first blocks (answer_of (place + 0) 0 ∷ []) above (are.0 ∙ is)) at.0), at.1)
  goes_on_so (test.NotBelow first above (next.Node n)) blocks from place nodes rest is are at = (
    (
      renamed _ _ (search nodes n key) (named_first blocks (answer_of place 0 ∷ answer_of (place + 1) 0 ∷ []) n (are.0 ∙ is)) at.1.0,
      renamed _ _ (search nodes above key) (named_second blocks (answer_of place 0 ∷ answer_of (place + 1) 0 ∷ []) above (are.1.0 ∙ ap suc is)) at.0,
    ),
    at.1.1,
  )
  goes_on_so (test.Table range) blocks from place nodes rest is are at = (tt, at)

  -- a node more in front leaves the others
  others_stay : (node : Node) (nodes : List Node) (blocks more : List Name) (rest : List ℕ) (bound : ℕ) → bound ≤ node.number → node.number < suc (length blocks) → Fall bound rest
      → AreAt (blocks ++ more) nodes rest → AreAt blocks (node ∷ nodes) rest
  others_stay node nodes blocks more [] bound below inside fall at = tt
  others_stay node nodes blocks more (n ∷ rest) bound below inside fall at = (
    renamed _ _ (search (node ∷ nodes) n key) (named_before blocks more n (omega (arith, fall.0, below, inside)))
        (subst (λ (found : Found). At_ (name_in (blocks ++ more) n) found)
        (ap (λ (c : Bool). if c then tested (λ later. search nodes later key) node.test key else search nodes n key)
        (sym (ne_eqb node.number n (λ same. omega (arith, same, fall.0, below)))))
        at.0),
    others_stay node nodes blocks more rest n (omega (arith, fall.0, below)) inside fall.2 at.1,
  )

  -- a node that stands in a block of its own
  stands : (number : ℕ) (t : Test) (nodes : List Node) (blocks : List Name) (tables place : ℕ) (more : Script) → 0 < number → number < suc (length blocks) → From base blocks → base ≤ place
      → IsTestOf ranges t
      → Go (λ later. search nodes later key) t (place + length (entering blocks number))
      → Entered around.program place (node_calls s blocks tables (record { number = number; test = t }) place ++ more)
      → AreTyped around.types place (node_calls s blocks tables (record { number = number; test = t }) place ++ more)
      → At_ (name_in blocks number) (search (record { number = number; test = t } ∷ nodes) number key)
  stands zero t nodes blocks tables place more some inside all behind is goes entered typed = absurd (omega (arith, some))
  stands (suc m) t nodes blocks tables place more some inside all behind is goes entered typed =
      let block : Name = slice_index_or blocks m (answer_of 0 0) in
      let at : suc (suc place) ≡ place + 2 = omega arith in
      let calls : Script = test_calls s tables t (place + 2) ++ more in
      Through (generated block (from_at base blocks m all (omega (arith, inside))))
      (λ names holds.
      subst (λ (found : Found). Walked around (target_of s found.block) (around.program.items block) names (found.branches + 1))
      (sym (begins (record { number = suc m; test = t }) nodes key))
      (subst (λ (items : List Item). Walked around (target_of s (tested (λ later. search nodes later key) t key).block) items names ((tested (λ later. search nodes later key) t key).branches + 1))
      (sym (entered.0 ∙ ap (λ (p : ℕ). code_of p calls) at))
      (test_walks base around generated s int before key small ranges fit (λ later. search nodes later key) tables t (place + 2) more (omega (arith, behind)) is goes
      (subst (λ (p : ℕ). Entered around.program p calls) at entered.1) (subst (λ (p : ℕ). AreTyped around.types p calls) at typed) names holds)))

  pub nodes_walk : (nodes : List Node) (blocks : List Name) (tables from place : ℕ) (waiting : List ℕ) → AreInOrder waiting from nodes → from ≡ suc (length blocks) → Fall from waiting
      → From base blocks → base ≤ place → AllByRecursion (λ node. IsTestOf ranges node.test) nodes
      → Entered around.program place (nodes_calls s blocks tables nodes place) → AreTyped around.types place (nodes_calls s blocks tables nodes place)
      → AreAt blocks nodes waiting
  nodes_walk [] blocks tables from place waiting order is fall all behind tests entered typed = subst (AreAt blocks []) (sym order) tt
  nodes_walk (node ∷ nodes) blocks tables from place waiting (rest, begin, numbers, order) is fall all behind tests entered typed =
      let falls : Fall from (node.number ∷ rest) = subst (Fall from) begin fall in
      let at : ℕ = place + length (entering blocks node.number) in
      let calls : Script = node_calls s blocks tables node place in
      let later : Script = nodes_calls s (blocks_with blocks node place) (tables + tables_of node.test) nodes (place + length calls) in
      let longer = length-append blocks (blocks_of node.test at) in
      let many = as_many node.test at in
      let they = nodes_walk nodes (blocks_with blocks node place) (tables + tables_of node.test) (from + length (named_by node.test)) (place + length calls)
      (reverse (named_by node.test) ++ rest) order (omega (arith, is, longer, many)) (fall_on node.test from node.number rest numbers (omega (arith, falls.0)) (omega (arith, is)) falls.2)
      (all_both (λ x. base ≤ x.place) blocks (blocks_of node.test at) all (made_from node.test base at (omega (arith, behind)))) (omega (arith, behind)) tests.1
      (entered_behind around.program place calls later entered) (typed_behind around.types place calls later typed) in
      let goes = goes_on_so node.test blocks from at nodes rest is numbers they in
      subst (AreAt blocks (node ∷ nodes)) (sym begin) (
        stands node.number node.test nodes blocks tables place later falls.1 (omega (arith, falls.0, is)) all behind tests.0 goes.0 entered typed,
        others_stay node nodes blocks (blocks_of node.test at) rest node.number (omega arith) (omega (arith, falls.0, is)) falls.2 goes.1,
      )
