-- What the records say of a variable in a block, and what a changed entry makes of them.
use Rattle.std.proofs.Common.{◌≡◌, ◌≢◌, ℕ, zero, suc, inl, inr, List, [], ◌∷◌, Option, Some, None, Bool, true, false, cond, refl, ap, sym, ◌∙◌, arith, eq-eqb}
use Rattle.std.specs.Prelude.{if◌then◌else◌, ◌==◌, ◌&&◌}
use Rattle.std.specs.declared.cmp.Ordering.{Ordering}
use Rattle.std.specs.declared.cmp.Ordering.TheVariants.{Less, Equal, Greater}
use Rattle.std.specs.Ordering.{nat_cmp, ordering_then, is_eq, eq_by_cmp}
use Rattle.std.specs.Option.{unwrap_or}
use Rattle.std.specs.FinMap as map
use Rattle.std.specs.FinMap.{nat_cmp-IsAntisymmetric, get-insert, get-empty}
use Rattle.std.specs.Cmp.{IsTotalOrder, on_total, then_total, tied_itself, nat_cmp_total}
use Rattle.std.proofs.lemmas.Grind.{common_steps}
use Rattle.std.proofs.lemmas.Bool.{cases_eq}
use Rattle.clif_records.specs.Tables.{Recorded, RecordMap, variable_then_block, nothing_recorded, recorded_at, record_at, lookups_at, one_more}
use Rattle.clif_records.specs.Records.{recording, counting, HasEntry}

-- THE ORDER -------------------------------------------------------------------------------------------------------

pub in_order : IsTotalOrder variable_then_block
in_order = then_total (on_total (λ (p : ℕ × ℕ). p.0) nat_cmp_total) (on_total (λ (p : ℕ × ℕ). p.1) nat_cmp_total)

equal_parts : (r s : Ordering) → ordering_then r s ≡ Equal → (r ≡ Equal) × (s ≡ Equal)
equal_parts Less s is = cc
equal_parts Equal s is = (refl, is)
equal_parts Greater s is = cc

pub same_place : map.IsAntisymmetric variable_then_block
same_place p q is =
    let parts = equal_parts (nat_cmp p.0 q.0) (nat_cmp p.1 q.1) is in
    λ i. (nat_cmp-IsAntisymmetric p.0 q.0 parts.0 i, nat_cmp-IsAntisymmetric p.1 q.1 parts.1 i)

is_equal : (r : Ordering) → is_eq r ≡ true → r ≡ Equal
is_equal Less is = cc
is_equal Equal is = refl
is_equal Greater is = cc

not_equal : (b : Bool) → (b ≡ true → ⊥) → b ≡ false
not_equal true none = absurd (none refl)
not_equal false none = refl

pub apart : (p q : ℕ × ℕ) → p ≢ q → eq_by_cmp variable_then_block p q ≡ false
apart p q other = not_equal _ (λ is. other (same_place p q (is_equal _ is)))

pub itself : (p : ℕ × ℕ) → eq_by_cmp variable_then_block p p ≡ true
itself p = ap is_eq (tied_itself in_order p)

pub test_true : (a b : ℕ) → a ≡ b → (a == b) ≡ true
test_true a b same = eq-eqb a b same

pub test_false : (a b : ℕ) → a ≢ b → (a == b) ≡ false
test_false a b other = grind (arith, common_steps, other)

-- two keys are one where both numbers are
pub key_test : (y c x b : ℕ) → eq_by_cmp variable_then_block (y, c) (x, b) ≡ (y == x && c == b)
key_test y c x b =
    elim (cases_eq y x) [
      | inl same ↦
          elim (cases_eq c b) [
            | inl here ↦ ap (eq_by_cmp variable_then_block (y, c)) (λ i. (sym same i, sym here i)) ∙ itself (y, c) ∙ sym (ap (λ t. t && c == b) (test_true y x same) ∙ test_true c b here)
            | inr other ↦ apart (y, c) (x, b) (λ is. other (ap (λ (p : ℕ × ℕ). p.1) is)) ∙ sym (ap (λ t. t && c == b) (test_true y x same) ∙ test_false c b other)
          ]
      | inr other ↦ apart (y, c) (x, b) (λ is. other (ap (λ (p : ℕ × ℕ). p.0) is)) ∙ sym (ap (λ t. t && c == b) (test_false y x other))
    ]

-- nothing is known where there is no entry
pub recorded_at-empty : (x b : ℕ) → recorded_at map.empty x b ≡ nothing_recorded
recorded_at-empty x b = ap (λ e. unwrap_or e nothing_recorded) (get-empty variable_then_block (x, b))

pub record_at-empty : (x b : ℕ) → record_at map.empty x b ≡ None
record_at-empty x b = ap (λ (r : Recorded). r.value) (recorded_at-empty x b)

-- one entry is new
pub recorded_at-insert : (m : RecordMap) (x b : ℕ) (r : Recorded) (y c : ℕ) → recorded_at (map.insert m (x, b) r) y c ≡ (if y == x && c == b then r else recorded_at m y c)
recorded_at-insert m x b r y c =
    ap (λ e. unwrap_or e nothing_recorded) (get-insert in_order m (x, b) r (y, c))
    ∙ ap (λ t. unwrap_or (cond t (Some r) (map.get m (y, c))) nothing_recorded) (key_test y c x b)
    ∙ through (y == x && c == b)
  where
    through : (t : Bool) → unwrap_or (cond t (Some r) (map.get m (y, c))) nothing_recorded ≡ (if t then r else recorded_at m y c)
    through true = refl
    through false = refl

pub record_at-insert : (m : RecordMap) (x b : ℕ) (r : Recorded) (y c : ℕ) → record_at (map.insert m (x, b) r) y c ≡ (if y == x && c == b then r.value else record_at m y c)
record_at-insert m x b r y c = ap (λ (s : Recorded). s.value) (recorded_at-insert m x b r y c) ∙ through (y == x && c == b)
  where
    through : (t : Bool) → (if t then r else recorded_at m y c).value ≡ (if t then r.value else record_at m y c)
    through true = refl
    through false = refl

either : {A : Type 0} (t : Bool) (a : A) → (if t then a else a) ≡ a
either true a = refl
either false a = refl

never : (t : Bool) → (t && false) ≡ false
never true = refl
never false = refl

-- a part of what is recorded, where one entry was changed
at_entry : {A : Type 0} (part : Recorded → A) (moved : A → A) (m : RecordMap) (x b : ℕ) (change : Recorded → Recorded) → ((r : Recorded) → part (change r) ≡ moved (part r))
    → (y c : ℕ) → part (recorded_at (map.insert m (x, b) (change (recorded_at m x b))) y c) ≡ (if y == x && c == b then moved (part (recorded_at m y c)) else part (recorded_at m y c))
at_entry part moved m x b change moves y c =
    ap part (recorded_at-insert m x b (change (recorded_at m x b)) y c)
    ∙ elim (cases_eq y x) [
      | inl same ↦
          elim (cases_eq c b) [
            | inl here ↦
                ap (λ t. part (if t then change (recorded_at m x b) else recorded_at m y c)) (both same here)
                ∙ moves (recorded_at m x b) ∙ ap (λ v. moved (part (recorded_at m v b))) (sym same) ∙ ap (λ d. moved (part (recorded_at m y d))) (sym here)
                ∙ sym (ap (λ t. if t then moved (part (recorded_at m y c)) else part (recorded_at m y c)) (both same here))
            | inr other ↦ unmoved (ap (λ t. y == x && t) (test_false c b other) ∙ never (y == x))
          ]
      | inr other ↦ unmoved (ap (λ t. t && c == b) (test_false y x other))
    ]
  where
    both : y ≡ x → c ≡ b → (y == x && c == b) ≡ true
    both same here = ap (λ t. t && c == b) (test_true y x same) ∙ test_true c b here

    unmoved : (y == x && c == b) ≡ false
        → part (if y == x && c == b then change (recorded_at m x b) else recorded_at m y c) ≡ (if y == x && c == b then moved (part (recorded_at m y c)) else part (recorded_at m y c))
    unmoved off =
        ap (λ t. part (if t then change (recorded_at m x b) else recorded_at m y c)) off
        ∙ sym (ap (λ t. if t then moved (part (recorded_at m y c)) else part (recorded_at m y c)) off)

-- A LIST OF ENTRIES -----------------------------------------------------------------------------------------------

-- whether two numbers are one, by counting both down
abbrev pub same_number : ℕ → ℕ → Bool
same_number zero zero = true
same_number zero (suc n) = false
same_number (suc m) zero = false
same_number (suc m) (suc n) = same_number m n

same_test : (m n : ℕ) → (n == m) ≡ same_number m n
same_test zero zero = refl
same_test zero (suc n) = test_false (suc n) zero (λ is. absurd (omega (arith, is)))
same_test (suc m) zero = test_false zero (suc m) (λ is. absurd (omega (arith, is)))
same_test (suc m) (suc n) =
    elim (cases_eq n m) [
      | inl is ↦ test_true (suc n) (suc m) (ap suc is) ∙ sym (test_true n m is) ∙ same_test m n
      | inr other ↦ test_false (suc n) (suc m) (λ is. absurd (omega (arith, is, other))) ∙ sym (test_false n m other) ∙ same_test m n
    ]

-- the value that the first entry at a key gives
abbrev pub value_among : List ((ℕ × ℕ) × Recorded) → ℕ → ℕ → Option ℕ
value_among [] x b = None
value_among (e ∷ es) x b = if same_number e.0.0 x && same_number e.0.1 b then e.1.value else value_among es x b

pub record_at-entries : (es : List ((ℕ × ℕ) × Recorded)) (x b : ℕ) → record_at (map.from_entries es) x b ≡ value_among es x b
record_at-entries [] x b = record_at-empty x b
record_at-entries (e ∷ es) x b =
    record_at-insert (map.from_entries es) e.0.0 e.0.1 e.1 x b
    ∙ (λ i. if same_test e.0.0 x i && same_test e.0.1 b i then e.1.value else record_at-entries es x b i)

-- A CHANGED ENTRY -------------------------------------------------------------------------------------------------

pub value_changed : (old new : RecordMap) (x b value : ℕ) → HasEntry old new x b (recording value)
    → (y c : ℕ) → record_at new y c ≡ (if y == x && c == b then Some value else record_at old y c)
value_changed old new x b value has y c = ap (λ m. record_at m y c) has ∙ record_at-insert old x b (recording value (recorded_at old x b)) y c

pub count_changed : (old new : RecordMap) (x b : ℕ) → HasEntry old new x b counting
    → (y c : ℕ) → lookups_at new y c ≡ (if y == x && c == b then one_more (lookups_at old y c) else lookups_at old y c)
count_changed old new x b has y c = ap (λ m. lookups_at m y c) has ∙ at_entry (λ r. r.lookups) one_more old x b counting (λ r. refl) y c

-- what the change leaves alone is as it was
pub value_kept : (old new : RecordMap) (x b : ℕ) → HasEntry old new x b counting → (y c : ℕ) → record_at new y c ≡ record_at old y c
value_kept old new x b has y c = ap (λ m. record_at m y c) has ∙ at_entry (λ r. r.value) (λ v. v) old x b counting (λ r. refl) y c ∙ either (y == x && c == b) _

pub count_kept : (old new : RecordMap) (x b value : ℕ) → HasEntry old new x b (recording value) → (y c : ℕ) → lookups_at new y c ≡ lookups_at old y c
count_kept old new x b value has y c = ap (λ m. lookups_at m y c) has ∙ at_entry (λ r. r.lookups) (λ n. n) old x b (recording value) (λ r. refl) y c ∙ either (y == x && c == b) _
