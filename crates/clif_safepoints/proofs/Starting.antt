-- How the blocks of an order are put on the stack, the last one first.
use Rattle.std.proofs.Common.{◌≡◌, ◌≢◌, ◌+◌, ◌-◌, ◌<◌, ◌≤◌, ◌⊎◌, ℕ, zero, suc, Bool, true, false, List, [], ◌∷◌, ◌++◌, length, get_or, replicate, set, refl, sym, ap, subst, ◌∙◌, arith, inl, inr, eqb, slice_index_or, length-append}
use Rattle.std.specs.Prelude.{Contains}
use Rattle.std.proofs.lemmas.List.{get_or-set_other, get_or_default, length-replicate}
use Rattle.std.proofs.lemmas.List.Elements.{Contains-append_left, Contains-append_right, Contains-push_cases}
use Rattle.std.proofs.lemmas.Grind.{get_or-set_at}
use Rattle.std.proofs.lemmas.Bool.{false≢true}
use Rattle.std.proofs.lemmas.Bool.Decides.{eqb_tells}
use Rattle.std.proofs.Math.ListN.{length-set, get_or-eq_default}
use Rattle.clif_safepoints.specs.Fronts.{AreEmpty, IsStart}
use Rattle.clif_number_sets.specs.Sets.{is_in}
use Rattle.clif_safepoints.specs.Sets.{in_set_of}

-- the blocks from a place of the order on wait
pub record Waits (blocks : ℕ) (order : List ℕ) (place : ℕ) (stack : List ℕ) (waits : List Bool) : Type 0 where
  pub marks : length waits ≡ blocks
  pub long : length stack + place ≡ length order
  pub there : (b : ℕ) → Contains stack b → b < blocks
  pub waiting : (b : ℕ) → is_in waits b ≡ true → Contains stack b
  pub all : (k : ℕ) → place ≤ k → k < length order → is_in waits (get_or order k 0) ≡ true

no_mark : (n b : ℕ) → is_in (replicate n false) b ≡ false
no_mark zero b = refl
no_mark (suc n) zero = refl
no_mark (suc n) (suc b) = no_mark n b

pub waits_none : (blocks : ℕ) (order : List ℕ) → Waits blocks order (length order) [] (replicate blocks false)
waits_none blocks order = record {
  marks = length-replicate blocks false;
  long = omega arith;
  there = λ b h. absurd (omega (arith, h.1));
  waiting = λ b h. absurd (false≢true (sym (no_mark blocks b) ∙ h));
  all = λ k above inside. absurd (omega (arith, above, inside));
}

pub waits_more : (blocks : ℕ) (order : List ℕ) (above block number : ℕ) (stack : List ℕ) (waits : List Bool) → 0 < above → above ≤ length order → block ≡ get_or order (above - 1) block
    → number ≡ block → block < blocks → Waits blocks order above stack waits → Waits blocks order (above - 1) (stack ++ block ∷ []) (set waits number true)
waits_more blocks order above block number stack waits some inside is same there so_far = record {
  marks = length-set waits number true ∙ so_far.marks;
  long = let e = length-append stack (block ∷ []) in let old = so_far.long in omega (arith, e, old, some);
  there = λ b h. here b (Contains-push_cases stack block b h);
  waiting = λ b h. waits_at b h (eqb_tells b number);
  all = λ k above' inside'. stands k above' inside' (order_of k above);
}
  where
    order_of : (i j : ℕ) → (i < j) ⊎ (j ≤ i)
    order_of i j = grind arith

    within : number < length waits
    within = subst (λ n. number < n) (sym so_far.marks) (subst (λ n. n < blocks) (sym same) there)

    here : (b : ℕ) → Contains stack b ⊎ (block ≡ b) → b < blocks
    here b (inl old) = so_far.there b old
    here b (inr e) = subst (λ x. x < blocks) e there

    waits_at : (b : ℕ) → is_in (set waits number true) b ≡ true → ((eqb b number ≡ true) × (b ≡ number)) ⊎ ((eqb b number ≡ false) × (b ≢ number)) → Contains (stack ++ block ∷ []) b
    waits_at b h (inl e) = subst (λ x. Contains (stack ++ block ∷ []) x) (sym (e.1 ∙ same)) (Contains-append_right stack (block ∷ []) block (0, omega arith, refl))
    waits_at b h (inr other) = Contains-append_left stack (block ∷ []) b (so_far.waiting b (sym (get_or-set_other waits number b true false other.1) ∙ h))

    kept : (b : ℕ) → is_in waits b ≡ true → ((eqb b number ≡ true) × (b ≡ number)) ⊎ ((eqb b number ≡ false) × (b ≢ number)) → is_in (set waits number true) b ≡ true
    kept b h (inl e) = get_or-set_at waits number b true false e.1 within
    kept b h (inr other) = get_or-set_other waits number b true false other.1 ∙ h

    stands : (k : ℕ) → above - 1 ≤ k → k < length order → (k < above) ⊎ (above ≤ k) → is_in (set waits number true) (get_or order k 0) ≡ true
    stands k from inside' (inl last) =
        let e : k ≡ above - 1 = omega (arith, from, last) in
        let at : get_or order k 0 ≡ number =
        ap (λ n. get_or order n 0) e ∙ get_or_default order (above - 1) 0 block (omega (arith, some, inside)) ∙ sym is ∙ sym same in
        get_or-set_at waits number (get_or order k 0) true false at within
    stands k from inside' (inr later) = kept (get_or order k 0) (so_far.all k later inside') (eqb_tells (get_or order k 0) number)

pub waits_all : (blocks places : ℕ) (order stack : List ℕ) (sets : List (List Bool)) (waits : List Bool) (place : ℕ) → place ≤ 0 → AreEmpty blocks places sets → Waits blocks order place stack waits
    → IsStart blocks places order sets stack waits
waits_all blocks places order stack sets waits place none empty done = record {
  sized = record { count = empty.0; each = λ b inside. ap length (empty.1 b inside) ∙ length-replicate places false };
  empty = λ k b h. no k b (order_of b blocks) h;
  marks = done.marks;
  long = let e = done.long in omega (arith, e, none);
  there = done.there;
  waiting = done.waiting;
  all = λ b h. subst (λ x. is_in waits x ≡ true) (get_or_default order h.0 0 b h.1 ∙ h.2) (done.all h.0 (omega (arith, none)) h.1);
}
  where
    order_of : (i j : ℕ) → (i < j) ⊎ (j ≤ i)
    order_of i j = grind arith

    no : (k b : ℕ) → (b < blocks) ⊎ (blocks ≤ b) → in_set_of sets k b ≡ true → ⊥
    no k b (inl inside) h = false≢true (sym (ap (λ (marks : List Bool). is_in marks k) (empty.1 b inside) ∙ no_mark places k) ∙ h)
    no k b (inr past) h =
        let e : slice_index_or sets b [] ≡ [] = get_or-eq_default sets [] (subst (λ n. n ≤ b) (sym empty.0) past) in
        false≢true (sym (ap (λ (marks : List Bool). is_in marks k) e) ∙ h)
