-- A consistent function gives each value once: a value knows the block or the instruction that gives it, and that is in one place.
use Rattle.std.proofs.Common.{◌≡◌, ◌≢◌, ◌⊎◌, ◌<◌, inl, inr, ℕ, List, [], length, map, refl, sym, ap, subst, ◌∙◌, arith, Option, Some, None}
use Rattle.std.specs.Prelude.{Contains, slice_get, slice_index}
use Rattle.std.proofs.lemmas.Option.{get_or_from_slice_get, slice_get_within}
use Rattle.clif_instructions.specs.Members.{Once}
use Rattle.clif_instructions.specs.declared.block_call.BlockCall.{BlockCall}
use Rattle.clif_nodes.specs.declared.nodes.ValueOrigin.{ValueOrigin}
use Rattle.clif_nodes.specs.declared.nodes.ValueOrigin.TheVariants.{Result, Param}
use Rattle.clif_ir.specs.Body.{Body, block_at, inst_at, value_at}
use Rattle.clif_ir.specs.Consistent.{IsConsistent}
use Rattle.clif_meaning.specs.Instruction.{Edge}
use Rattle.clif_meaning.specs.Path.{Place}
use Rattle.clif_meaning.specs.View.{edge_of, view_of}
use Rattle.clif_meaning.specs.WellPlaced.{placed_at, placed_gives, placed_targets}
use Rattle.clif_safepoints.specs.Transfer.{insts_of}
use Rattle.clif_safepoints.proofs.Paths.{place_of_member, placed_is, placed_none}
use Rattle.clif_safepoints.proofs.Recording.{inst_home, insts_once}
use Rattle.clif_spilling_laws.specs.GivesOnce.{ConsistentGivesOnce}
use Rattle.clif_spilling_laws.proofs.Basics.Lists.{contains_none}

same_block : (b d : ℕ) → ◌≡◌ {A = ValueOrigin} (Param b) (Param d) → b ≡ d
same_block b d e = cc

same_inst : (i j k l : ℕ) → ◌≡◌ {A = ValueOrigin} (Result i j) (Result k l) → i ≡ k
same_inst i j k l e = cc

no_parameter : (b i k : ℕ) → ◌≡◌ {A = ValueOrigin} (Param b) (Result i k) → ⊥
no_parameter b i k e = cc

order : (j k : ℕ) → (j ≡ k) ⊎ (j < k) ⊎ (k < j)
order j k = grind arith

-- what a list has once is at one place of it
one_index : (xs : List ℕ) (x j k : ℕ) → Once xs → slice_get xs j ≡ Some x → slice_get xs k ≡ Some x → j ≡ k
one_index xs x j k once first second = by (order j k)
  where
    there : (n : ℕ) → slice_get xs n ≡ Some x → slice_index xs n ≡ x
    there n is = get_or_from_slice_get xs n x 0 is

    by : (j ≡ k) ⊎ (j < k) ⊎ (k < j) → j ≡ k
    by (inl same) = same
    by (inr (inl before)) = absurd (once j k before (slice_get_within xs k x second) (there j first ∙ sym (there k second)))
    by (inr (inr after)) = absurd (once k j after (slice_get_within xs j x first) (there k second ∙ sym (there j first)))

module _ (f : Body) (kept : IsConsistent f) where
  abbrev origin : ℕ → ValueOrigin
  origin v = (value_at f v).origin

  of_parameter : (b v : ℕ) → Contains (block_at f b).params v → (v < length f.values) × (origin v ≡ Param b)
  of_parameter b v h =
      let there = place_of_member (block_at f b).params v h in
      let same : slice_index (block_at f b).params there.0 ≡ v = get_or_from_slice_get (block_at f b).params there.0 v 0 there.1 in
      let known = kept.params_known b there.0 (slice_get_within (block_at f b).params there.0 v there.1) in
      (subst (λ (w : ℕ). w < length f.values) same known.0, subst (λ (w : ℕ). origin w ≡ Param b) same known.1)

  -- the instruction at a place, of which a value is a result
  record IsGivenBy (p : Place ℕ) (v : ℕ) : Type 0 where
    inst : ℕ
    there : slice_get (insts_of f p.block) p.index ≡ Some inst
    result : ℕ
    low : v < length f.values
    from : origin v ≡ Result inst result

  of_result : (p : Place ℕ) (v : ℕ) → Contains (placed_gives (placed_at (view_of f) p)) v → IsGivenBy p v
  of_result p v h = by (slice_get (insts_of f p.block) p.index) refl
    where
      by : (o : Option ℕ) → slice_get (insts_of f p.block) p.index ≡ o → IsGivenBy p v
      by None is = absurd (contains_none v (subst (λ o. Contains (placed_gives o) v) (placed_none f p.block p.index is) h))
      by (Some i) is = record {
        inst = i;
        there = is;
        result = at.0;
        low = subst (λ (w : ℕ). w < length f.values) same known.0;
        from = subst (λ (w : ℕ). origin w ≡ Result i at.0) same known.1;
      }
        where
          at : (k : ℕ) × (slice_get (inst_at f i).results k ≡ Some v)
          at = place_of_member (inst_at f i).results v (subst (λ o. Contains (placed_gives o) v) (placed_is f p.block p.index i is) h)

          same : slice_index (inst_at f i).results at.0 ≡ v
          same = get_or_from_slice_get (inst_at f i).results at.0 v 0 at.1

          known : (slice_index (inst_at f i).results at.0 < length f.values) × (origin (slice_index (inst_at f i).results at.0) ≡ Result i at.0)
          known = kept.results_known i at.0 (slice_get_within (inst_at f i).results at.0 v at.1)

  one_place : (p q : Place ℕ) (i : ℕ) → slice_get (insts_of f p.block) p.index ≡ Some i → slice_get (insts_of f q.block) q.index ≡ Some i → p ≡ q
  one_place p q i first second = λ n. record { block = block n; index = index n }
    where
      block : p.block ≡ q.block
      block = let home = inst_home f kept p.block p.index i first in let other = inst_home f kept q.block q.index i second in sym home.1 ∙ other.1

      index : p.index ≡ q.index
      index =
          one_index (insts_of f p.block) i p.index q.index (insts_once f kept p.block) first
          (subst (λ (b : ℕ). slice_get (insts_of f b) q.index ≡ Some i) (sym block) second)

  no_edges : (p : Place ℕ) → placed_targets (placed_at (view_of f) p) ≢ [] → placed_gives (placed_at (view_of f) p) ≡ []
  no_edges p some = by (slice_get (insts_of f p.block) p.index) refl
    where
      by : (o : Option ℕ) → slice_get (insts_of f p.block) p.index ≡ o → placed_gives (placed_at (view_of f) p) ≡ []
      by None is = ap placed_gives (placed_none f p.block p.index is)
      by (Some i) is =
          ap placed_gives (placed_is f p.block p.index i is)
          ∙ kept.edges_without_results i (λ none.
          some (ap placed_targets (placed_is f p.block p.index i is)
          ∙ ap (λ (calls : List BlockCall). map (λ (edge : Edge ℕ ℕ). edge.target) (map edge_of calls)) none))

pub gives_once : ConsistentGivesOnce
gives_once f kept = record {
  parameters_below = λ b v h. let is = of_parameter f kept b v h in is.0;
  results_below = λ p v h. let is = of_result f kept p v h in is.low;
  one_block = λ b d v h g. let first = of_parameter f kept b v h in let second = of_parameter f kept d v g in same_block b d (sym first.1 ∙ second.1);
  one_place = λ p q v h g. places p q v (of_result f kept p v h) (of_result f kept q v g);
  apart = λ b p v h g. let is = of_parameter f kept b v h in let by = of_result f kept p v g in no_parameter b by.inst by.result (sym is.1 ∙ by.from);
  edges_give_nothing = no_edges f kept;
}
  where
    places : (p q : Place ℕ) (v : ℕ) → IsGivenBy f kept p v → IsGivenBy f kept q v → p ≡ q
    places p q v first second =
        one_place f kept p q first.inst first.there
        (subst (λ (i : ℕ). slice_get (insts_of f q.block) q.index ≡ Some i) (sym (same_inst first.inst first.result second.inst second.result (sym first.from ∙ second.from))) second.there)
