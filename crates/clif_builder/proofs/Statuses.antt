-- Laws of the status of blocks.
use Rattle.std.proofs.Common.{◌≡◌, ◌≢◌, ℕ, ◌+◌, ◌<◌, List, [], ◌∷◌, length, take, get_or, refl, ap, subst, arith, sym, ◌∙◌, inl, inr}
use Rattle.std.specs.Prelude.{Bool, true, false, if◌then◌else◌, ◌==◌, ◌||◌, slice_index_or}
use Rattle.std.proofs.lemmas.Grind.{common_steps}
use Rattle.std.proofs.lemmas.Bool.{cases_eq}
use Rattle.std.proofs.lemmas.List.Folds.{list_any_more}
use Rattle.clif_instructions.specs.Members.{stands_in}
use Rattle.clif_builder.specs.declared.context.BlockStatus.{BlockStatus}
use Rattle.clif_builder.specs.declared.context.BlockStatus.TheVariants.{Empty, Partial, Filled}
use Rattle.clif_builder.specs.Context.{ContextState, status_of, SetsStatus, Begins, begun}

never_empty : (s : BlockStatus) → begun s ≡ Empty → ⊥
never_empty Empty same = cc
never_empty Partial same = cc
never_empty Filled same = cc

begun_twice : (s : BlockStatus) → s ≢ Empty → begun s ≡ s
begun_twice Empty other = absurd (other refl)
begun_twice Partial other = refl
begun_twice Filled other = refl

-- the status after a list of blocks was begun, by the test whether the block stands there
if_yes : {X : Type 0} (b : Bool) (x y : X) → b ≡ true → (if b then x else y) ≡ x
if_yes b x y holds = ap (λ c. if c then x else y) holds

if_no : {X : Type 0} (b : Bool) (x y : X) → b ≡ false → (if b then x else y) ≡ y
if_no b x y fails = ap (λ c. if c then x else y) fails

stands_more : (b x : ℕ) (blocks : List ℕ) (i d : ℕ) → i < length blocks → x ≡ get_or blocks i d → stands_in b (take (i + 1) blocks) ≡ (stands_in b (take i blocks) || (x == b))
stands_more b x blocks i d inside read = list_any_more (λ y. y == b) blocks i d inside ∙ ap (λ y. stands_in b (take i blocks) || (y == b)) (sym read)

-- one more block was empty, and is begun
pub begin_more : (old mid new : ContextState) (blocks : List ℕ) (i x d : ℕ) → i < length blocks → x ≡ get_or blocks i d
    → Begins old mid (take i blocks) → status_of mid x ≡ Empty → SetsStatus mid new x Partial → Begins old new (take (i + 1) blocks)
begin_more old mid new blocks i x d inside read before empty set b =
    elim (cases_eq b x) [
      | inl same ↦
          let was : status_of mid b ≡ Empty = ap (λ c. status_of mid c) same ∙ empty in
          let now : status_of new b ≡ Partial = set b ∙ grind (arith, common_steps, same) in
          let holds : stands_in b (take (i + 1) blocks) ≡ true = stands_more b x blocks i d inside read ∙ grind (arith, common_steps, same) in
          now ∙ sym (if_yes _ (begun (status_of old b)) (status_of old b) holds ∙ by_old (stands_in b (take i blocks)) refl was)
      | inr other ↦
          let kept : status_of new b ≡ status_of mid b = set b ∙ grind (arith, common_steps, other) in
          let same : stands_in b (take (i + 1) blocks) ≡ stands_in b (take i blocks) = stands_more b x blocks i d inside read ∙ grind (arith, common_steps, other) in
          kept ∙ before b ∙ ap (λ c. if c then begun (status_of old b) else status_of old b) (sym same)
    ]
  where
    by_old : (c : Bool) → stands_in b (take i blocks) ≡ c → status_of mid b ≡ Empty → begun (status_of old b) ≡ Partial
    by_old true stands was = absurd (never_empty (status_of old b) (sym (if_yes _ (begun (status_of old b)) (status_of old b) stands) ∙ sym (before b) ∙ was))
    by_old false stands was = ap begun (sym (if_no _ (begun (status_of old b)) (status_of old b) stands) ∙ sym (before b) ∙ was)

-- one more block was begun already
pub begin_skipped : (old mid : ContextState) (blocks : List ℕ) (i x d : ℕ) → i < length blocks → x ≡ get_or blocks i d
    → Begins old mid (take i blocks) → status_of mid x ≢ Empty → Begins old mid (take (i + 1) blocks)
begin_skipped old mid blocks i x d inside read before begun_before b =
    elim (cases_eq b x) [
      | inl same ↦
          let was : status_of mid b ≢ Empty = λ empty. begun_before (ap (λ c. status_of mid c) (sym same) ∙ empty) in
          let holds : stands_in b (take (i + 1) blocks) ≡ true = stands_more b x blocks i d inside read ∙ grind (arith, common_steps, same) in
          by_old (stands_in b (take i blocks)) refl was ∙ sym (if_yes _ (begun (status_of old b)) (status_of old b) holds)
      | inr other ↦
          let same : stands_in b (take (i + 1) blocks) ≡ stands_in b (take i blocks) = stands_more b x blocks i d inside read ∙ grind (arith, common_steps, other) in
          before b ∙ ap (λ c. if c then begun (status_of old b) else status_of old b) (sym same)
    ]
  where
    by_old : (c : Bool) → stands_in b (take i blocks) ≡ c → status_of mid b ≢ Empty → status_of mid b ≡ begun (status_of old b)
    by_old true stands was = before b ∙ if_yes _ (begun (status_of old b)) (status_of old b) stands
    by_old false stands was =
        let same : status_of mid b ≡ status_of old b = before b ∙ if_no _ (begun (status_of old b)) (status_of old b) stands in
        same ∙ sym (begun_twice (status_of old b) (λ empty. was (same ∙ empty)))

-- no block was begun
pub Begins-none : (old new : ContextState) → new.status ≡ old.status → Begins old new []
Begins-none old new same b = ap (λ (xs : List BlockStatus). slice_index_or xs b Empty) same

-- the same of a context with the same statuses, and of the same blocks
pub begins_from : (old mid new : ContextState) (blocks told : List ℕ) → mid.status ≡ old.status → blocks ≡ told → Begins mid new blocks → Begins old new told
begins_from old mid new blocks told same are begins b =
    subst (λ (xs : List ℕ). status_of new b ≡ (if stands_in b xs then begun (status_of mid b) else status_of mid b)) are (begins b)
    ∙ ap (λ (xs : List BlockStatus). if stands_in b told then begun (slice_index_or xs b Empty) else slice_index_or xs b Empty) same

-- what is begun stays begun
begun_begun : (s : BlockStatus) → begun (begun s) ≡ begun s
begun_begun Empty = refl
begun_begun Partial = refl
begun_begun Filled = refl

-- one block was begun, and then others
pub begins_cons : (old mid new : ContextState) (block : ℕ) (blocks : List ℕ) → SetsStatus old mid block (begun (status_of old block)) → Begins mid new blocks → Begins old new (block ∷ blocks)
begins_cons old mid new block blocks first next b = elim (cases_eq block b) [ inl same ↦ here same (stands_in b blocks) (next b) | inr other ↦ away other ]
  where
    here : block ≡ b → (t : Bool) → status_of new b ≡ (if t then begun (status_of mid b) else status_of mid b)
        → status_of new b ≡ (if stands_in b (block ∷ blocks) then begun (status_of old b) else status_of old b)
    here same t is =
        let was : status_of mid b ≡ begun (status_of old b) =
        first b ∙ if_yes _ (begun (status_of old block)) (status_of old b) (grind (arith, common_steps, same)) ∙ ap (λ x. begun (status_of old x)) same in
        let stands : stands_in b (block ∷ blocks) ≡ true = let here_too : (block == b) ≡ true = grind (arith, common_steps, same) in ap (λ test. test || stands_in b blocks) here_too in
        is ∙ by t was ∙ sym (if_yes _ (begun (status_of old b)) (status_of old b) stands)
      where
        by : (t : Bool) → status_of mid b ≡ begun (status_of old b) → (if t then begun (status_of mid b) else status_of mid b) ≡ begun (status_of old b)
        by true was = ap begun was ∙ begun_begun (status_of old b)
        by false was = was

    away : block ≢ b → status_of new b ≡ (if stands_in b (block ∷ blocks) then begun (status_of old b) else status_of old b)
    away other =
        let kept : status_of mid b ≡ status_of old b = first b ∙ if_no _ (begun (status_of old block)) (status_of old b) (grind (arith, common_steps, other)) in
        let same : stands_in b (block ∷ blocks) ≡ stands_in b blocks = let apart : (block == b) ≡ false = grind (arith, common_steps, other) in ap (λ test. test || stands_in b blocks) apart in
        next b ∙ ap (λ s. if stands_in b blocks then begun s else s) kept ∙ sym (ap (λ test. if test then begun (status_of old b) else status_of old b) same)

pub ruleset status_rules = (begin_more, begin_skipped)
