-- Whole functions: a new one, and one whose layout got one more block.
use Rattle.std.proofs.Common.{rules, ◌≡◌, ℕ, ◌<◌, zero, suc, List, [], ◌∷◌, ◌++◌, length, set, refl, arith, sym, subst}
use Rattle.std.specs.Prelude.{slice_index, slice_index_or, Option, Some, None, true}
use Rattle.std.proofs.lemmas.Grind.{common_steps}
use Rattle.clif_types.specs.Signature.{SignatureShape}
use Rattle.clif_types.specs.declared.extname.UserFuncName.{UserFuncName}
use Rattle.clif_nodes.specs.declared.inst_links.InstLinks.{InstLinks}
use Rattle.clif_nodes.specs.declared.nodes.BlockPlace.{BlockPlace}
use Rattle.clif_ir.specs.Body.{Body, empty_body}
use Rattle.clif_ir.specs.Changes.{put_behind}
use Rattle.clif_ir.specs.Consistent.{IsConsistent}
use Rattle.clif_instructions.specs.Members.{Stands, Once}
use Rattle.clif_ir.specs.Whole.{AreThreaded, IsLinked, chain}
use Rattle.clif_nodes.specs.Links.{blocks_of}
use Rattle.clif_nodes.specs.Places.{no_place, linked_after, last_after}
use Rattle.clif_ir.proofs.KeepsPlaces.{with_order_consistent}
use Rattle.clif_ir.proofs.Links.{linked-chain, linked_behind, linked_only}
use Rattle.clif_ir.proofs.Orders.{put_behind-once, put_behind-below}

-- what a new function keeps
pub empty_consistent : (name : UserFuncName) (signature : SignatureShape) → IsConsistent (empty_body name signature)
empty_consistent name signature = first_of (search rules, grind (arith, common_steps))

pub empty_threaded : (links : List InstLinks) → AreThreaded (blocks_of links []) [] links
empty_threaded links = record {
  thread = λ b. record {
    first_is = refl;
    last_is = refl;
    count_is = refl;
    next_is = λ k inside. absurd (omega (arith, inside));
    previous_is = λ k inside. absurd (omega (arith, inside));
  };
}

pub empty_linked : IsLinked [] [] None None
empty_linked = record { first_is = refl; last_is = refl; next_is = λ b. refl; inserted_is = λ b. refl }

-- what a function keeps with its layout and its places
pub record IsOrdered (f : Body) (layout : List ℕ) (places : List BlockPlace) (first last : Option ℕ) : Type 0 where
  pub chained : chain (length places) places first ≡ layout
  pub consistent : IsConsistent (record f { layout = layout })
  pub place_count : length places ≡ length f.blocks
  pub linked : IsLinked layout places first last

-- another layout, which the links lead along
ordered : (f : Body) (layout : List ℕ) (places : List BlockPlace) (first last : Option ℕ)
    → IsConsistent f → length places ≡ length f.blocks → ((k : ℕ) → k < length layout → slice_index layout k < length f.blocks) → Once layout
    → IsLinked layout places first last → IsOrdered f layout places first last
ordered f layout places first last known count exist once linked = record {
  chained = linked-chain layout places first last once (λ k inside. omega (arith, exist k inside, count)) linked;
  consistent = with_order_consistent f layout known exist once;
  place_count = count;
  linked = linked;
}

pub ordered_behind : (f : Body) (places : List BlockPlace) (first last : Option ℕ) (b a : ℕ) → b < length f.blocks
    → Stands a f.layout → (Stands b f.layout → ⊥) → IsConsistent f → length places ≡ length f.blocks → IsLinked f.layout places first last
    → IsOrdered f (put_behind b a f.layout) (linked_after places b a) first (last_after last (slice_index_or places a no_place).next b)
ordered_behind f places first last b a exists stands outside known count linked =
    let inside_b : b < length places = omega (arith, exists, count) in
    let bound : slice_index f.layout stands.0 < length f.blocks = known.layout_exists stands.0 stands.1 in
    let inside_a : a < length places = omega (arith, bound, stands.2, count) in
    ordered f (put_behind b a f.layout) (linked_after places b a) first (last_after last (slice_index_or places a no_place).next b) known
    (grind (arith, common_steps, count)) (put_behind-below b a (length f.blocks) f.layout exists known.layout_exists) (put_behind-once b a f.layout outside known.layout_once)
    (linked_behind f.layout places first last b a inside_b inside_a stands outside linked)

-- the only block of an empty layout
pub ordered_only : (f : Body) (places : List BlockPlace) (first last : Option ℕ) (b : ℕ) → b < length f.blocks → f.layout ≡ []
    → IsConsistent f → length places ≡ length f.blocks → IsLinked f.layout places first last
    → IsOrdered f (f.layout ++ b ∷ []) (set places b (record (slice_index_or places b no_place) { is_inserted = true })) (Some b) (Some b)
ordered_only f places first last b exists empty known count linked =
    let inside : b < length places = omega (arith, exists, count) in
    let new : BlockPlace = record (slice_index_or places b no_place) { is_inserted = true } in
    subst (λ layout. IsOrdered f (layout ++ b ∷ []) (set places b new) (Some b) (Some b)) (sym empty)
    (ordered f (b ∷ []) (set places b new) (Some b) (Some b) known (grind (arith, common_steps, count)) (λ k here. only k here) (λ j k before here. absurd (omega (arith, before, here)))
    (linked_only places first last b inside (subst (λ layout. IsLinked layout places first last) empty linked)))
  where
    only : (k : ℕ) → k < length (b ∷ []) → slice_index (b ∷ []) k < length f.blocks
    only zero here = exists
    only (suc k) here = absurd (omega (arith, here))

-- the same under other names
pub ordered_read : (f : Body) (layout : List ℕ) (places' places : List BlockPlace) (first last' last : Option ℕ) → places ≡ places' → last ≡ last'
    → IsOrdered f layout places' first last' → IsOrdered f layout places first last
ordered_read f layout places' places first last' last same_places same_last made =
    subst (λ l. IsOrdered f layout places first l) (sym same_last) (subst (λ ps. IsOrdered f layout ps first last') (sym same_places) made)
