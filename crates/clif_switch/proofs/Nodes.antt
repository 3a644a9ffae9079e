-- The nodes of a switch one behind the other, and the blocks that wait for theirs.
use Rattle.std.proofs.Common.{◌≡◌, ◌<◌, ◌≤◌, ◌+◌, ℕ, zero, suc, List, [], ◌∷◌, ◌++◌, length, sym, ◌∙◌, ap, subst, arith, Some}
use Rattle.std.specs.Prelude.{◌≢◌, ◌-◌, All, AllPairs, reverse, slice_index_or}
use Rattle.std.specs.List.{AllByRecursion}
use Rattle.std.proofs.lemmas.List.Elements.{All-append}
use Rattle.std.proofs.lemmas.List.{get_or-append-add, get_or_append_left, length-append}
use Rattle.clif_ranges.specs.declared.search.Next.TheVariants as next
use Rattle.clif_ranges.specs.declared.search.Test.{Test}
use Rattle.clif_ranges.specs.declared.search.Test.TheVariants as test
use Rattle.clif_ranges.specs.Search.{AreNumbersFrom, named_by}
use Rattle.clif_builder.specs.declared.builder.FunctionBuilder.{FunctionBuilder}
use Rattle.clif_switch_calls.proofs.Nodes.{Fall, fall_on}
use Rattle.clif_switch.specs.Emission.{AddsBlocks, IsEntered, IsOpenFor, LeavesBlocks, Steps}
use Rattle.clif_switch.proofs.Blocks.{open_on}
use Rattle.clif_switch.proofs.Values.{done}

-- WAITING BLOCKS ----------------------------------------------------------------------------------------------------------

-- the block of the node with this number, where the first node has none
abbrev pub block_at : (blocks : List ℕ) (number : ℕ) → ℕ
block_at blocks number = slice_index_or blocks (number - 1) 0

-- the node with this number has its block, which is open
pub record IsReady {R : Type 0} (b : FunctionBuilder R) (blocks : List ℕ) (number : ℕ) : Type 0 where
  pub some : 0 < number
  pub inside : number - 1 < length blocks
  pub is_open : IsOpenFor b (block_at blocks number)

-- blocks that were made for nodes, behind those of before, and the numbers of nodes that don't stand yet, below a bound
pub record Waits {R : Type 0} (base bound : ℕ) (b : FunctionBuilder R) (blocks waiting : List ℕ) : Type 0 where
  pub falls : Fall bound waiting
  pub ready : AllByRecursion (IsReady b blocks) waiting
  pub rising : AllPairs (λ x y. x < y) blocks
  pub behind : All (λ block. base ≤ block) blocks
  pub exist : All (λ block. block < length b.func.now.blocks) blocks

-- what holds below a bound
ready_below : (bound : ℕ) (P Q : ℕ → Type 0) → ((n : ℕ) → n < bound → P n → Q n) → (numbers : List ℕ) → Fall bound numbers → AllByRecursion P numbers → AllByRecursion Q numbers
ready_below bound P Q on [] fall all = tt
ready_below bound P Q on (n ∷ numbers) fall all =
    (on n fall.0 all.0, ready_below n P Q (λ m less. on m (let under = fall.0 in omega (arith, under, less))) numbers fall.2 all.1)

-- another block of these than the current one
pub apart : (blocks : List ℕ) (number other : ℕ) → AllPairs (λ x y. x < y) blocks → number < other → 0 < number → other - 1 < length blocks → block_at blocks number ≢ block_at blocks other
apart blocks number other rising less some inside same =
    let below : block_at blocks number < block_at blocks other = rising (number - 1) (other - 1) 0 (omega (arith, less, some)) inside in omega (arith, below, same)

-- a waiting block is entered
pub waits_entered : {R : Type 0} (base bound number : ℕ) (old mid : FunctionBuilder R) (blocks waiting : List ℕ) → length old.func.now.blocks ≤ length mid.func.now.blocks → IsEntered (block_at blocks number) old mid
    → Waits base bound old blocks (number ∷ waiting) → Waits base number mid blocks waiting
waits_entered base bound number old mid blocks waiting more entered waits = record {
  falls = waits.falls.2;
  ready = ready_below number (IsReady old blocks) (IsReady mid blocks) stays waiting waits.falls.2 waits.ready.1;
  rising = waits.rising;
  behind = waits.behind;
  exist = λ k d inside. let there = waits.exist k d inside in omega (arith, there, more);
}
  where
    stays : (n : ℕ) → n < number → IsReady old blocks n → IsReady mid blocks n
    stays n less was = record {
      some = was.some;
      inside = was.inside;
      is_open = record {
        leads = record {
          exists = let there = was.is_open.leads.exists in omega (arith, there, more);
          unsealed = entered.seals (block_at blocks n) (apart blocks n number waits.rising less was.some waits.ready.0.inside) ∙ was.is_open.leads.unsealed;
        };
        unfilled = λ filled. was.is_open.unfilled (entered.fills (block_at blocks n) filled);
        none_waits = entered.waits (block_at blocks n) (apart blocks n number waits.rising less was.some waits.ready.0.inside) ∙ was.is_open.none_waits;
      };
    }

-- the blocks of what a test names first stand behind those of before
module _ {R : Type 0} (new : FunctionBuilder R) (blocks made : List ℕ) (are_open : All (IsOpenFor new) made) where
  at_made : (j number : ℕ) → number ≡ suc (length blocks + j) → j < length made → IsReady new (blocks ++ made) number
  at_made j number is inside = record {
    some = omega (arith, is);
    inside = let long = length-append blocks made in omega (arith, is, long, inside);
    is_open = subst (IsOpenFor new) (sym (ap (λ (k : ℕ). slice_index_or (blocks ++ made) k 0) (place number is) ∙ get_or-append-add blocks made j 0)) (are_open j 0 inside);
  }
    where
      place : (n : ℕ) → n ≡ suc (length blocks + j) → n - 1 ≡ length blocks + j
      place n same = omega (arith, same)

  at_named : (t : Test) (waiting : List ℕ) → AreNumbersFrom (suc (length blocks)) (named_by t) → length made ≡ length (named_by t) → AllByRecursion (IsReady new (blocks ++ made)) waiting
      → AllByRecursion (IsReady new (blocks ++ made)) (reverse (named_by t) ++ waiting)
  at_named test.Nothing waiting are many all = all
  at_named (test.OneKey range next.Otherwise) waiting are many all = all
  at_named (test.OneKey range (next.Node n)) waiting are many all = (at_made 0 n (let is = are.0 in omega (arith, is)) (omega (arith, many)), all)
  at_named (test.NotBelow first above next.Otherwise) waiting are many all = (at_made 0 above (let is = are.0 in omega (arith, is)) (omega (arith, many)), all)
  at_named (test.NotBelow first above (next.Node n)) waiting are many all =
      (at_made 1 above (let is = are.1.0 in omega (arith, is)) (omega (arith, many)), (at_made 0 n (let is = are.0 in omega (arith, is)) (omega (arith, many)), all))
  at_named (test.Table range) waiting are many all = all

-- numbers below a seam, and numbers from it on
rising_append : (xs ys : List ℕ) (seam : ℕ) → AllPairs (λ x y. x < y) xs → AllPairs (λ x y. x < y) ys → All (λ x. x < seam) xs → All (λ y. seam ≤ y) ys → AllPairs (λ x y. x < y) (xs ++ ys)
rising_append [] ys seam first second below above i j d less inside = second i j d less inside
rising_append (x ∷ xs) ys seam first second below above i zero d less inside = absurd (omega (arith, less))
rising_append (x ∷ xs) ys seam first second below above zero (suc j) d less inside =
    All-append (λ y. x < y) xs ys (λ k e there. first 0 (suc k) e (omega arith) (omega (arith, there)))
    (λ k e there. let under : x < seam = below 0 e (omega arith) in let over = above k e there in omega (arith, under, over)) j d (omega (arith, inside))
rising_append (x ∷ xs) ys seam first second below above (suc i) (suc j) d less inside =
    rising_append xs ys seam (λ a b e under there. first (suc a) (suc b) e (omega (arith, under)) (omega (arith, there))) second (λ k e there. below (suc k) e (omega (arith, there))) above
    i j d (omega (arith, less)) (omega (arith, inside))

-- a test was emitted in the block of this number
pub waits_tested : {R : Type 0} (base bound : ℕ) (mid new : FunctionBuilder R) (blocks after waiting : List ℕ) (t : Test) → Steps mid new done → LeavesBlocks mid new → base ≤ length mid.func.now.blocks
    → ((n : ℕ) → n < bound → IsReady mid blocks n → mid.position ≢ Some (block_at blocks n)) → bound ≤ suc (length blocks)
    → AreNumbersFrom (suc (length blocks)) (named_by t) → AddsBlocks (length (named_by t)) mid new blocks after
    → Waits base bound mid blocks waiting → Waits base (suc (length after)) new after (reverse (named_by t) ++ waiting)
waits_tested base bound mid new blocks after waiting t steps leaves low elsewhere under are adds waits =
    subst (λ (list : List ℕ). Waits base (suc (length list)) new list (reverse (named_by t) ++ waiting)) (sym adds.is) (record {
      falls = subst (λ (n : ℕ). Fall n (reverse (named_by t) ++ waiting)) (let long = length-append blocks made in let many = adds.many in omega (arith, long, many))
          (fall_on t (suc (length blocks)) bound waiting are under (omega arith) waits.falls);
      ready = at_named new blocks made adds.are_open t waiting are adds.many (ready_below bound (IsReady mid blocks) (IsReady new (blocks ++ made)) stays waiting waits.falls waits.ready);
      rising = rising_append blocks made (length mid.func.now.blocks) waits.rising adds.rising waits.exist adds.behind;
      behind = All-append (λ block. base ≤ block) blocks made waits.behind (λ k d inside. let later = adds.behind k d inside in omega (arith, low, later));
      exist = All-append (λ block. block < length new.func.now.blocks) blocks made (λ k d inside. let there = waits.exist k d inside in let more = steps.grows.2 in omega (arith, there, more))
          (λ k d inside. (adds.are_open k d inside).leads.exists);
    })
  where
    made : List ℕ
    made = adds.made

    stays : (n : ℕ) → n < bound → IsReady mid blocks n → IsReady new (blocks ++ made) n
    stays n less was = record {
      some = was.some;
      inside = let long = length-append blocks made in let there = was.inside in omega (arith, long, there);
      is_open = subst (IsOpenFor new) (sym (get_or_append_left blocks made 0 (n - 1) was.inside))
          (open_on mid new (block_at blocks n) steps.grows.2 leaves (elsewhere n less was) was.is_open);
    }
