-- A block that is cut at a spot, and what is put in there.
use Rattle.std.proofs.Common.{◌≡◌, ◌∙◌, ◌<◌, ◌≤◌, ◌+◌, ℕ, zero, suc, List, [], ◌∷◌, ◌++◌, length, sym, ap, ap₂, subst, arith, append_assoc, length-append, inl, inr}
use Rattle.std.specs.Prelude.{Contains}
use Rattle.std.specs.List.{insert}
use Rattle.std.proofs.lemmas.List.Elements.{Contains-append_cases, Contains-append_left, Contains-append_right}
use Rattle.clif_types.specs.declared.types.«Type».{«Type»}
use Rattle.clif_instructions.specs.Members.{place_of}
use Rattle.clif_instructions.specs.declared.insert_at.InsertAt.TheVariants.{Behind}
use Rattle.clif_instructions.specs.declared.instructions.InstructionData.{InstructionData}
use Rattle.clif_instructions.proofs.Lists.{at_set}
use Rattle.clif_nodes.specs.Nodes.{BlockNode, empty_block}
use Rattle.clif_ir.specs.Body.{Body, block_at, inst_at}
use Rattle.clif_ir.specs.Changes.{with_inst}
use Rattle.clif_ir.specs.Reading.{place_in_block}
use Rattle.clif_spiller.specs.Inserting.{inst_beside, nowhere, put_in, spot_after}
use Rattle.clif_spiller.specs.Text.{IsCut, spot_place}
use Rattle.clif_spiller.specs.declared.accesses.Spot.{Spot}
use Rattle.clif_spiller.specs.declared.accesses.Spot.TheVariants as spot
use Rattle.clif_spiller.proofs.Putting.{put_in_keeps, spot_after_exists}
use Rattle.clif_spiller.proofs.Reading.{more_insts}
use Rattle.clif_spiller.proofs.Storing.{home_after}
use Rattle.clif_spiller.proofs.Text.Lists.{insert_between, place_new, place_put}

-- the list of the block with the new instruction between
put_list : (f : Body) (b block place : ℕ) (front back : List ℕ) (shape : InstructionData) (types : List «Type») → b ≡ block → block < length f.blocks
    → (block_at f block).insts ≡ front ++ back → place ≡ length front
    → (block_at (with_inst f b (Behind place) shape types nowhere) block).insts ≡ front ++ length f.insts ∷ back
put_list f b block place front back shape types same exists list is =
    let n : ℕ = length f.insts in
    at_set (λ (m : BlockNode). m.insts ≡ front ++ n ∷ back) f.blocks b _ block empty_block (subst (λ (c : ℕ). c < length f.blocks) (sym same) exists)
    (λ _. ap (λ (c : ℕ). insert (block_at f c).insts place n) same ∙ ap₂ (λ (xs : List ℕ) (k : ℕ). insert xs k n) list is ∙ insert_between front back n)
    (λ other. absurd (other (sym same)))

module _ (f : Body) (block : ℕ) (at : Spot) (front back : List ℕ) (shape : InstructionData) (types : List «Type») (cut : IsCut f block at front back) where
  abbrev g : Body
  g = put_in f at shape types

  abbrev n : ℕ
  n = length f.insts

  home_there : (inst_at (put_in f at shape types) (inst_beside (spot_after f at))).block ≡ block
  home_there = home_after f at shape types cut.exists ∙ cut.home

  -- by the kind of the spot
  list_there : (block_at (put_in f at shape types) block).insts ≡ front ++ length f.insts ∷ back
  list_there = by at cut
    where
      by : (at : Spot) → IsCut f block at front back → (block_at (put_in f at shape types) block).insts ≡ front ++ length f.insts ∷ back
      by (spot.Before next) is =
          put_list f (inst_at f next).block block (place_in_block f next) front back shape types is.home is.block_exists is.list is.place
      by (spot.After previous) is =
          put_list f (inst_at f previous).block block (place_in_block f previous + 1) front back shape types is.home is.block_exists is.list is.place

  place_there : spot_place (put_in f at shape types) (spot_after f at) ≡ length front + 1
  place_there = by at cut (list_there) home_there
    where
      by : (at : Spot) → IsCut f block at front back → (block_at (put_in f at shape types) block).insts ≡ front ++ length f.insts ∷ back
          → (inst_at (put_in f at shape types) (inst_beside (spot_after f at))).block ≡ block
          → spot_place (put_in f at shape types) (spot_after f at) ≡ length front + 1
      by (spot.Before next) is list home =
          let was : place_of next (front ++ back) ≡ length front =
          sym (ap (λ (c : ℕ). place_of next (block_at f c).insts) is.home ∙ ap (place_of next) is.list) ∙ is.place in
          ap (λ (c : ℕ). place_of next (block_at (put_in f (spot.Before next) shape types) c).insts) home ∙ ap (place_of next) list
          ∙ place_put next (length f.insts) front back was (λ same. absurd (let there = is.exists in omega (arith, same, there)))
      by (spot.After previous) is list home =
          ap (λ k. k + 1)
          (ap (λ (c : ℕ). place_of (length f.insts) (block_at (put_in f (spot.After previous) shape types) c).insts) home ∙ ap (place_of (length f.insts)) list
          ∙ place_new (length f.insts) front back (λ i here same. let low = is.below i (Contains-append_left front back i here) in omega (arith, low, same)))

  below_there : (i : ℕ) → Contains ((front ++ length f.insts ∷ []) ++ back) i → i < length (put_in f at shape types).insts
  below_there i here =
      let more = more_insts f at shape types in
      elim (Contains-append_cases (front ++ length f.insts ∷ []) back i here) [
        | inl early ↦
            elim (Contains-append_cases front (length f.insts ∷ []) i early) [
              | inl old ↦ (let low = cut.below i (Contains-append_left front back i old) in omega (arith, low, more))
              | inr new ↦ one i new more
            ]
        | inr late ↦ (let low = cut.below i (Contains-append_right front back i late) in omega (arith, low, more))
      ]
    where
      one : (i : ℕ) → Contains (length f.insts ∷ []) i → length (put_in f at shape types).insts ≡ length f.insts + 1 → i < length (put_in f at shape types).insts
      one i (zero, inside, is) more = omega (arith, is, more)
      one i (suc k, inside, is) more = absurd (omega (arith, inside))

  pub cut_put : IsCut (put_in f at shape types) block (spot_after f at) (front ++ length f.insts ∷ []) back
  cut_put = record {
    list = list_there ∙ sym (append_assoc front (length f.insts ∷ []) back);
    home = home_there;
    place = place_there ∙ sym (length-append front (length f.insts ∷ []));
    exists = spot_after_exists f at shape types cut.exists;
    block_exists = (let there = cut.block_exists in let more = (put_in_keeps 0 f at shape types).blocks in omega (arith, there, more));
    below = below_there;
  }

-- a change that leaves the lists and the blocks of instructions
pub cut_stays : (f g : Body) (block : ℕ) (at : Spot) (front back : List ℕ) → length f.insts ≤ length g.insts → length f.blocks ≤ length g.blocks
    → (block_at g block).insts ≡ (block_at f block).insts → (inst_at g (inst_beside at)).block ≡ (inst_at f (inst_beside at)).block
    → IsCut f block at front back → IsCut g block at front back
cut_stays f g block at front back more_insts more_blocks list home cut = record {
  list = list ∙ cut.list;
  home = home ∙ cut.home;
  place = by at cut home;
  exists = (let there = cut.exists in omega (arith, there, more_insts));
  block_exists = (let there = cut.block_exists in omega (arith, there, more_blocks));
  below = λ i here. (let there = cut.below i here in omega (arith, there, more_insts));
}
  where
    at_home : (i : ℕ) → (inst_at f i).block ≡ block → (inst_at g i).block ≡ (inst_at f i).block → place_in_block g i ≡ place_in_block f i
    at_home i here same =
        ap (λ (c : ℕ). place_of i (block_at g c).insts) (same ∙ here) ∙ ap (place_of i) list ∙ sym (ap (λ (c : ℕ). place_of i (block_at f c).insts) here)

    by : (at : Spot) → IsCut f block at front back → (inst_at g (inst_beside at)).block ≡ (inst_at f (inst_beside at)).block → spot_place g at ≡ length front
    by (spot.Before next) is same = at_home next is.home same ∙ is.place
    by (spot.After previous) is same = ap (λ k. k + 1) (at_home previous is.home same) ∙ is.place
