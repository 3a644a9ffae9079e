-- The links of the blocks, and the layout that they make.
use Rattle.std.proofs.Common.{◌≡◌, ℕ, zero, suc, ◌+◌, ◌-◌, ◌<◌, ◌≤◌, List, [], ◌∷◌, length, set, refl, ap, arith, sym, ◌∙◌, subst, true}
use Rattle.std.specs.Prelude.{slice_index, slice_index_or, slice_get, Option, Some, None}
use Rattle.std.proofs.lemmas.Grind.{common_steps}
use Rattle.clif_nodes.specs.declared.nodes.BlockPlace.{BlockPlace}
use Rattle.clif_ir.specs.Changes.{put_behind}
use Rattle.clif_instructions.specs.Members.{Stands, Once, next_in, stands_in}
use Rattle.clif_ir.specs.Whole.{IsLinked, chain}
use Rattle.clif_nodes.specs.Places.{last_after, linked_after, no_place}
use Rattle.clif_instructions.proofs.Lists.{at_set}
use Rattle.clif_ir.proofs.Orders.{Once-length, put_behind-new, put_behind-test, put_behind-first, put_behind-next_after, put_behind-next_new, put_behind-next_old, put_behind-last, put_behind-stands}
use Rattle.clif_instructions.proofs.Members.{next_in-at, test-from_Stands}

-- no first block, no layout
pub chain-none : (n : ℕ) (places : List BlockPlace) → chain n places None ≡ []
unfolding chain
chain-none zero places = refl
chain-none (suc n) places = refl

-- links that are those of a list lead along the list
pub chain-list : (n : ℕ) (xs : List ℕ) (places : List BlockPlace) → length xs ≤ n
    → ((k : ℕ) → k < length xs → (slice_index_or places (slice_index xs k) no_place).next ≡ slice_get xs (suc k))
    → chain n places (slice_get xs 0) ≡ xs
unfolding chain
chain-list zero [] places short links = refl
chain-list (suc n) [] places short links = refl
chain-list zero (x ∷ xs) places short links = absurd (omega (arith, short))
chain-list (suc n) (x ∷ xs) places short links =
    ap (λ at. x ∷ chain n places at) (links 0 (omega arith))
    ∙ ap (λ rest. x ∷ rest) (chain-list n xs places (omega (arith, short)) (λ k inside. links (suc k) (omega (arith, inside))))

pub linked-chain : (layout : List ℕ) (places : List BlockPlace) (first last : Option ℕ) → Once layout → ((k : ℕ) → k < length layout → slice_index layout k < length places)
    → IsLinked layout places first last → chain (length places) places first ≡ layout
linked-chain layout places first last once inside linked =
    ap (chain (length places) places) linked.first_is
    ∙ chain-list (length places) layout places (Once-length (length places) layout once inside)
    (λ k here. let more : k + 1 ≡ suc k = omega arith in linked.next_is (slice_index layout k) ∙ next_in-at layout k (slice_index layout k) once here refl ∙ ap (slice_get layout) more)

-- a block behind another one
pub linked_behind : (layout : List ℕ) (places : List BlockPlace) (first last : Option ℕ) (b a : ℕ) → b < length places → a < length places
    → Stands a layout → (Stands b layout → ⊥) → IsLinked layout places first last
    → IsLinked (put_behind b a layout) (linked_after places b a) first (last_after last (slice_index_or places a no_place).next b)
linked_behind layout places first last b a inside_b inside_a stands outside linked =
    let new : BlockPlace = record { next = (slice_index_or places a no_place).next; is_inserted = true } in
    let before : BlockPlace = record (slice_index_or places a no_place) { next = Some b } in
    let inside : a < length (set places b new) = grind (arith, common_steps, inside_a) in
    record {
      first_is = linked.first_is ∙ sym (put_behind-first b a layout);
      last_is = ap (λ o. last_after o (slice_index_or places a no_place).next b) linked.last_is ∙ ap (λ o. last_after (slice_get layout (length layout - 1)) o b) (linked.next_is a) ∙ sym (put_behind-last b a layout stands);
      next_is = λ c.
          at_set (λ (p : BlockPlace). p.next ≡ next_in (put_behind b a layout) c) (set places b new) a before c no_place inside
          (λ same. sym (ap (next_in (put_behind b a layout)) same ∙ put_behind-next_after b a layout stands))
          (λ not_after.
          at_set (λ (p : BlockPlace). p.next ≡ next_in (put_behind b a layout) c) places b new c no_place inside_b
          (λ same. linked.next_is a ∙ sym (ap (next_in (put_behind b a layout)) same ∙ put_behind-next_new b a layout stands outside))
          (λ not_new. linked.next_is c ∙ sym (put_behind-next_old b a c layout not_after not_new)));
      inserted_is = λ c.
          at_set (λ (p : BlockPlace). p.is_inserted ≡ stands_in c (put_behind b a layout)) (set places b new) a before c no_place inside
          (λ same. linked.inserted_is a ∙ test-from_Stands a layout stands ∙ sym (test-from_Stands c (put_behind b a layout) (subst (λ d. Stands d (put_behind b a layout)) (sym same) (put_behind-stands b a a layout stands))))
          (λ not_after.
          at_set (λ (p : BlockPlace). p.is_inserted ≡ stands_in c (put_behind b a layout)) places b new c no_place inside_b
          (λ same. sym (test-from_Stands c (put_behind b a layout) (subst (λ d. Stands d (put_behind b a layout)) (sym same) (put_behind-new b a layout stands))))
          (λ not_new. linked.inserted_is c ∙ sym (put_behind-test b a c layout not_new)));
    }

-- the only block
pub linked_only : (places : List BlockPlace) (first last : Option ℕ) (b : ℕ) → b < length places → IsLinked [] places first last
    → IsLinked (b ∷ []) (set places b (record (slice_index_or places b no_place) { is_inserted = true })) (Some b) (Some b)
linked_only places first last b inside linked =
    let new : BlockPlace = record (slice_index_or places b no_place) { is_inserted = true } in
    record {
      first_is = refl;
      last_is = refl;
      next_is = λ c.
          at_set (λ (p : BlockPlace). p.next ≡ next_in (b ∷ []) c) places b new c no_place inside
          (λ same. linked.next_is b ∙ grind (arith, common_steps)) (λ other. linked.next_is c ∙ grind (arith, common_steps));
      inserted_is = λ c.
          at_set (λ (p : BlockPlace). p.is_inserted ≡ stands_in c (b ∷ [])) places b new c no_place inside
          (λ same. grind (arith, common_steps, same)) (λ other. linked.inserted_is c ∙ grind (arith, common_steps, other));
    }

-- places that differ in no link
pub linked_same : (layout : List ℕ) (places places' : List BlockPlace) (first last : Option ℕ)
    → ((c : ℕ) → (slice_index_or places' c no_place).next ≡ (slice_index_or places c no_place).next)
    → ((c : ℕ) → (slice_index_or places' c no_place).is_inserted ≡ (slice_index_or places c no_place).is_inserted)
    → IsLinked layout places first last → IsLinked layout places' first last
linked_same layout places places' first last same_next same_inserted linked = record {
  first_is = linked.first_is;
  last_is = linked.last_is;
  next_is = λ c. same_next c ∙ linked.next_is c;
  inserted_is = λ c. same_inserted c ∙ linked.inserted_is c;
}

-- the same links under other names
pub linked_with : (layout' layout : List ℕ) (places' places : List BlockPlace) (first last : Option ℕ) → layout' ≡ layout → places' ≡ places
    → IsLinked layout' places' first last → IsLinked layout places first last
linked_with layout' layout places' places first last same_layout same_places linked =
    subst (λ l. IsLinked l places first last) same_layout (subst (λ ps. IsLinked layout' ps first last) same_places linked)
