-- A record is copied to blocks in turn.
use Rattle.std.proofs.Common.{◌≡◌, ◌≢◌, ℕ, zero, suc, ◌<◌, ◌==◌, ◌||◌, Bool, true, false, List, [], ◌∷◌, ◌++◌, length, take, get_or, refl, ap, arith, sym, eq-eqb, ◌∙◌, ◌⊎◌, inl, inr}
use Rattle.std.specs.Prelude.{Option, Some, None, slice_index, if◌then◌else◌, ◌&&◌}
use Rattle.std.proofs.lemmas.List.Folds.{list_any-append}
use Rattle.std.proofs.lemmas.Grind.{common_steps}
use Rattle.std.proofs.lemmas.Bool.{cases_eq}
use Rattle.clif_instructions.specs.Members.{stands_in}
use Rattle.clif_records.specs.Tables.{RecordMap, record_at}
use Rattle.clif_records.specs.Records.{MayBeSet, RecordsIn, RecordsSome}
use Rattle.clif_records.specs.Passed.{before_first}

-- in no blocks
pub records-none : (old : RecordMap) (variable value : ℕ) → RecordsIn old old variable value (λ b. stands_in b [])
records-none old variable value v b = by (v == variable)
  where
    by : (t : Bool) → record_at old v b ≡ (if t && false then Some value else record_at old v b)
    by true = refl
    by false = refl

stands-further : (b c : ℕ) (blocks : List ℕ) → stands_in b (blocks ++ c ∷ []) ≡ (stands_in b blocks || (c == b))
stands-further b c blocks = list_any-append (λ y. y == b) blocks (c ∷ []) ∙ ap (λ t. stands_in b blocks || t) (by (c == b))
  where
    by : (test : Bool) → (test || false) ≡ test
    by true = refl
    by false = refl

-- in more blocks
pub records-more : (old mid new : RecordMap) (variable value : ℕ) (blocks more : List ℕ) → RecordsIn old mid variable value (λ b. stands_in b blocks)
    → RecordsIn mid new variable value (λ b. stands_in b more) → RecordsIn old new variable value (λ b. stands_in b (blocks ++ more))
records-more old mid new variable value blocks more before step v b =
    step v b ∙ ap (λ (r : Option ℕ). if v == variable && stands_in b more then Some value else r) (before v b)
    ∙ by (v == variable) (stands_in b blocks) (stands_in b more) (record_at old v b)
    ∙ ap (λ t. if v == variable && t then Some value else record_at old v b) (sym (list_any-append (λ y. y == b) blocks more))
  where
    by : (it here last : Bool) (r : Option ℕ)
        → (if it && last then Some value else (if it && here then Some value else r)) ≡ (if it && (here || last) then Some value else r)
    by false here last r = refl
    by true true true r = refl
    by true true false r = refl
    by true false true r = refl
    by true false false r = refl

-- in one more block
pub records-further : (old mid new : RecordMap) (variable value c : ℕ) (blocks : List ℕ) → RecordsIn old mid variable value (λ b. stands_in b blocks)
    → RecordsIn mid new variable value (λ b. b == c) → RecordsIn old new variable value (λ b. stands_in b (blocks ++ c ∷ []))
records-further old mid new variable value c blocks before step v b =
    step v b ∙ ap (λ (r : Option ℕ). if v == variable && b == c then Some value else r) (before v b)
    ∙ by (v == variable) (stands_in b blocks) (b == c) (c == b) (record_at old v b) (turned b c)
    ∙ ap (λ t. if v == variable && t then Some value else record_at old v b) (sym (stands-further b c blocks))
  where
    by : (it here last same : Bool) (r : Option ℕ) → last ≡ same
        → (if it && last then Some value else (if it && here then Some value else r)) ≡ (if it && (here || same) then Some value else r)
    by false here last same r is = refl
    by true true true same r is = refl
    by true true false same r is = refl
    by true false true true r is = refl
    by true false true false r is = absurd (let no : true ≡ false = is in cc)
    by true false false true r is = absurd (let no : false ≡ true = is in cc)
    by true false false false r is = refl

    turned : (b c : ℕ) → (b == c) ≡ (c == b)
    turned b c = elim (cases_eq b c) [ inl same ↦ grind (arith, common_steps, same) | inr other ↦ grind (arith, common_steps, other) ]

stands-taken : (b k : ℕ) (xs : List ℕ) → stands_in b (take k xs) ≡ true → stands_in b xs ≡ true
stands-taken b zero [] is = is
stands-taken b zero (x ∷ xs) is = absurd (let no : false ≡ true = is in cc)
stands-taken b (suc k) [] is = is
stands-taken b (suc k) (x ∷ xs) is = by (x == b) is (λ later. stands-taken b k xs later)
  where
    by : (test : Bool) → (test || stands_in b (take k xs)) ≡ true → (stands_in b (take k xs) ≡ true → stands_in b xs ≡ true) → (test || stands_in b xs) ≡ true
    by true at rest = refl
    by false at rest = rest at

-- the first blocks are some of them
pub records-some : (old new : RecordMap) (variable value k : ℕ) (blocks : List ℕ) → RecordsIn old new variable value (λ b. stands_in b (take k blocks))
    → RecordsSome old new variable value blocks
records-some old new variable value k blocks recorded v b =
    elim (cases_eq v variable) [
      | inl same ↦ by same (stands_in b (take k blocks)) refl
      | inr other ↦ inl (recorded v b ∙ ap (λ t. if t && stands_in b (take k blocks) then Some value else record_at old v b) (test_false v variable other))
    ]
  where
    by : v ≡ variable → (test : Bool) → stands_in b (take k blocks) ≡ test → MayBeSet (record_at old v b) (record_at new v b) value ((v ≡ variable) × (stands_in b blocks ≡ true))
    by same true is =
        inr (
          (same, stands-taken b k blocks is),
          recorded v b ∙ ap (λ t. if t && stands_in b (take k blocks) then Some value else record_at old v b) (eq-eqb v variable same) ∙ ap (λ t. if t then Some value else record_at old v b) is,
        )
    by same false is =
        inl (recorded v b ∙ ap (λ t. if t && stands_in b (take k blocks) then Some value else record_at old v b) (eq-eqb v variable same) ∙ ap (λ t. if t then Some value else record_at old v b) is)

    test_false : (m n : ℕ) → m ≢ n → (m == n) ≡ false
    test_false m n apart = grind (arith, common_steps, apart)

-- what may be set has what it had, or the value, and isn't emptied
pub set-recorded : {P : Type 0} (old new : Option ℕ) (value v : ℕ) → MayBeSet old new value P → new ≡ Some v → (old ≡ Some v) ⊎ (v ≡ value)
set-recorded old new value v (inl same) is = inl (sym same ∙ is)
set-recorded old new value v (inr there) is = inr (same_some (sym is ∙ there.1))
  where
    same_some : {x y : ℕ} → ◌≡◌ {A = Option ℕ} (Some x) (Some y) → x ≡ y
    same_some same = cc

pub set-others : {P : Type 0} (old new : Option ℕ) (value : ℕ) → MayBeSet old new value P → (new ≡ old) ⊎ P
set-others old new value (inl same) = inl same
set-others old new value (inr there) = inr there.0

pub set-none_lost : {P : Type 0} (old new : Option ℕ) (value : ℕ) → MayBeSet old new value P → new ≡ None → old ≡ None
set-none_lost old new value (inl same) none = sym same ∙ none
set-none_lost old new value (inr there) none = absurd (some_none (sym there.1 ∙ none))
  where
    some_none : {x : ℕ} → ◌≡◌ {A = Option ℕ} (Some x) None → ⊥
    some_none same = cc

pub before-all : (x : ℕ) (xs : List ℕ) → ((k : ℕ) → k < length xs → slice_index xs k ≢ x) → before_first x xs ≡ xs
before-all x [] none = refl
before-all x (y ∷ xs) none =
    let rest : before_first x xs ≡ xs = before-all x xs (λ k inside. none (suc k) (omega (arith, inside))) in
    let other : y ≢ x = none 0 (omega arith) in
    grind (arith, common_steps, rest, other)

pub get_or-inside : (xs : List ℕ) (k d e : ℕ) → k < length xs → get_or xs k d ≡ get_or xs k e
get_or-inside [] k d e inside = absurd (omega (arith, inside))
get_or-inside (x ∷ xs) zero d e inside = refl
get_or-inside (x ∷ xs) (suc k) d e inside = get_or-inside xs k d e (omega (arith, inside))

-- those before the entry at this place, where none of them is it
pub before-passed : (x k : ℕ) (xs : List ℕ) → k < length xs → slice_index xs k ≡ x → ((j : ℕ) → j < k → slice_index xs j ≢ x) → before_first x xs ≡ take k xs
before-passed x k [] inside at none = absurd (omega (arith, inside))
before-passed x zero (y ∷ xs) inside at none = let is : y ≡ x = at in grind (arith, common_steps, is)
before-passed x (suc k) (y ∷ xs) inside at none =
    let rest : before_first x xs ≡ take k xs = before-passed x k xs (omega (arith, inside)) at (λ j before. none (suc j) (omega (arith, before))) in
    let other : y ≢ x = none 0 (omega arith) in
    grind (arith, common_steps, rest, other)
