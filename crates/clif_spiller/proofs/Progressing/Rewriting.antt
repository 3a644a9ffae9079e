-- Blocks that are rewritten one after the other, whatever function they were found in.
use Rattle.std.proofs.Common.{◌≡◌, ◌⊎◌, ◌∙◌, ◌<◌, ◌≤◌, ◌+◌, ℕ, zero, suc, List, [], ◌∷◌, ◌++◌, length, get_or, take, drop, refl, sym, ap, subst, arith, inl, inr}
use Rattle.std.specs.Prelude.{Contains, None, Some, slice_get, slice_index}
use Rattle.std.proofs.lemmas.List.{take_all}
use Rattle.clif_instructions.specs.Members.{Stands}
use Rattle.clif_ir.specs.Body.{Body, block_at, inst_at}
use Rattle.clif_ir.specs.Consistent.{IsConsistent}
use Rattle.clif_stack_slots.specs.declared.slots.StackSlots.{StackSlots}
use Rattle.clif_spiller.specs.Acting.{ActsAtInst, ActsGiving}
use Rattle.clif_spiller.specs.Plans.{GoesOn, insts_inside}
use Rattle.clif_spiller.specs.Progress.{AreRewritten, IsPlannedFor, IsRewrittenIn, RewritesAll, RewritesBlock}
use Rattle.clif_spiller.specs.Text.{StoresBefore}
use Rattle.clif_spiller.specs.declared.plan.Plan.{Plan}
use Rattle.clif_spiller.proofs.Needing.{take_one_more}
use Rattle.clif_spiller.proofs.Progressing.Blocks.{entered, insts_same, left}
use Rattle.clif_spiller.proofs.Progressing.Homes.{inst_inside}
use Rattle.clif_spiller.proofs.Progressing.Parameters.{IsEmptied, IsFronted}
use Rattle.clif_spiller.proofs.Progressing.Stepping.{next_inst}
use Rattle.clif_spiller.proofs.Progressing.Steps.{fresh, reached}
use Rattle.clif_spiller.proofs.Reached.{reached_exists}

-- of whatever function: the block is rewritten from this place on
abbrev pub IsRewrittenFrom : Plan → (block from : ℕ) → Body → StackSlots → Body → StackSlots → Type 0
IsRewrittenFrom plan block from f a g b =
    (first : Body) (recorded : List ℕ) → IsPlannedFor first recorded plan → (done rest : List ℕ) → plan.liveness.now.order ≡ done ++ block ∷ rest
    → AreRewritten first recorded plan done f a → IsRewrittenIn first recorded plan done block from g b

-- parameters are stored before the first instruction of a block
pub record StoresInFront (plan : Plan) (block : ℕ) (f : Body) (a : StackSlots) (g : Body) (b : StackSlots) : Type 0 where
  pub stands : Stands block f.layout
  pub front : ℕ
  pub is_front : slice_get (block_at f block).insts 0 ≡ Some front
  pub home : (inst_at f front).block ≡ block
  pub stores : StoresBefore plan front f a g b (block_at f block).params

module _ (plan : Plan) (block : ℕ) (f : Body) (a : StackSlots) where
  pub nothing_rewritten : (count : ℕ) → count ≡ length (insts_inside f block) → IsRewrittenFrom plan block count f a f a
  nothing_rewritten count all first recorded planned done rest split was =
      let exists = reached_exists first planned.known block (reached first recorded plan planned done block rest split) in
      let same : insts_inside f block ≡ insts_inside first block =
      insts_same first plan _ _ f a was.st was.text block exists (fresh first recorded plan planned done block rest split) in
      subst (λ n. IsRewrittenIn first recorded plan done block n f a) (sym (all ∙ ap (λ (xs : List ℕ). length xs) same)) (entered first recorded plan done block f a planned.known exists (fresh first recorded plan planned done block rest split) was)

  pub one_more_inst : (place at inst : ℕ) (g : Body) (b : StackSlots) (h : Body) (c : StackSlots) → place ≡ suc at → at < length (insts_inside f block)
      → inst ≡ get_or (insts_inside f block) at inst → IsRewrittenFrom plan block place f a g b → ActsAtInst plan inst g b h c → IsRewrittenFrom plan block at f a h c
  one_more_inst place at inst g b h c place_is inside is so_far act first recorded planned done rest split was =
      let exists = reached_exists first planned.known block (reached first recorded plan planned done block rest split) in
      let same : insts_inside f block ≡ insts_inside first block =
      insts_same first plan _ _ f a was.st was.text block exists (fresh first recorded plan planned done block rest split) in
      next_inst first recorded plan planned done block rest split at inst (subst (λ (xs : List ℕ). at < length xs) same inside)
      (ap (λ (xs : List ℕ). get_or xs at inst) (sym same) ∙ sym is) g b
      (subst (λ n. IsRewrittenIn first recorded plan done block n g b) place_is (so_far first recorded planned done rest split was)) h c act

  pub params_too : (g : Body) (b : StackSlots) (h : Body) (c : StackSlots) (home : ℕ) → IsRewrittenFrom plan block 0 f a g b → GoesOn (length g.blocks) g b h c
      → home ≡ block → ActsGiving home g b h c (block_at g block).params
      → ((insts_inside f block ≡ []) × (insts_inside g block ≡ []) × (h ≡ g)) ⊎ ((0 < length (insts_inside f block)) × StoresInFront plan block g b h c)
      → RewritesBlock plan block f a h c
  params_too g b h c home so_far goes home_is acts how first recorded planned done rest split was =
      left first recorded plan planned done block rest split exists g b (so_far first recorded planned done rest split was) h c goes home home_is acts new (by how)
    where
      exists : block < length first.blocks
      exists = reached_exists first planned.known block (reached first recorded plan planned done block rest split)

      new : Contains done block → ⊥
      new = fresh first recorded plan planned done block rest split

      same : insts_inside f block ≡ insts_inside first block
      same = insts_same first plan _ _ f a was.st was.text block exists new

      by : ((insts_inside f block ≡ []) × (insts_inside g block ≡ []) × (h ≡ g)) ⊎ ((0 < length (insts_inside f block)) × StoresInFront plan block g b h c)
          → IsEmptied first block g h ⊎ IsFronted first plan block g b h c
      by (inl emptied) = inl (record { empty = sym same ∙ emptied.0; still_empty = emptied.1; same = emptied.2 })
      by (inr stored) = inr (record {
        some = subst (λ (xs : List ℕ). 0 < length xs) same stored.0;
        stands = stored.1.stands;
        front = stored.1.front;
        is_front = stored.1.is_front;
        home = stored.1.home;
        stores = stored.1.stores;
      })

-- a block that has had an instruction has one
pub has_first : (f g : Body) (block i : ℕ) → IsConsistent f → IsConsistent g → Contains (insts_inside f block) i → length f.insts ≤ length g.insts
    → ((j : ℕ) → j < length f.insts → (inst_at g j).block ≡ (inst_at f j).block) → slice_get (block_at g block).insts 0 ≡ None → ⊥
has_first f g block i known known_g here more homes none =
    let was = inst_inside f known block i here in
    let home : (inst_at g i).block ≡ block = homes i was.0 ∙ was.1 in
    let there : Stands i (block_at g block).insts = subst (λ (c : ℕ). Stands i (block_at g c).insts) home (known_g.insts_stand i (omega (arith, was.0, more))).1 in
    by (block_at g block).insts there none
  where
    by : (xs : List ℕ) → Stands i xs → slice_get xs 0 ≡ None → ⊥
    by [] stands is = absurd (let inside = stands.1 in omega (arith, inside))
    by (x ∷ xs) stands is = cc

-- the first instruction of a block is in the block
pub first_home : (g : Body) (block i : ℕ) → IsConsistent g → slice_get (block_at g block).insts 0 ≡ Some i → (inst_at g i).block ≡ block
first_home g block i known is = by (block_at g block).insts refl is
  where
    by : (xs : List ℕ) → (block_at g block).insts ≡ xs → slice_get xs 0 ≡ Some i → (inst_at g i).block ≡ block
    by [] same found = cc
    by (x ∷ xs) same found =
        let inside : 0 < length (block_at g block).insts = omega (arith, ap (λ (ys : List ℕ). length ys) same) in
        let entry : slice_index (block_at g block).insts 0 ≡ i = ap (λ (ys : List ℕ). slice_index ys 0) same ∙ (let first : x ≡ i = cc in first) in
        subst (λ (j : ℕ). (inst_at g j).block ≡ block) entry (known.insts_known block 0 inside).1

-- BLOCK BY BLOCK --------------------------------------------------------------------------------------------------------

abbrev pub FirstBlocks : Plan → (count : ℕ) → Body → StackSlots → Body → StackSlots → Type 0
FirstBlocks plan count f a g b =
    (first : Body) (recorded : List ℕ) → IsPlannedFor first recorded plan → AreRewritten first recorded plan [] f a
    → AreRewritten first recorded plan (take count plan.liveness.now.order) g b

module _ (plan : Plan) (f : Body) (a : StackSlots) where
  pub no_block_yet : FirstBlocks plan 0 f a f a
  no_block_yet first recorded planned was = was

  pub next_block : (count block : ℕ) (g : Body) (b : StackSlots) (h : Body) (c : StackSlots) → count < length plan.liveness.now.order
      → block ≡ get_or plan.liveness.now.order count block → FirstBlocks plan count f a g b → RewritesBlock plan block g b h c → FirstBlocks plan (count + 1) f a h c
  next_block count block g b h c inside is so_far rewrites first recorded planned was =
      let order = plan.liveness.now.order in
      subst (λ (xs : List ℕ). AreRewritten first recorded plan xs h c)
      (ap (λ (x : ℕ). take count order ++ x ∷ []) is ∙ sym (take_one_more order count block inside))
      (rewrites first recorded planned (take count order) (drop (suc count) order) (split_at order count block inside is) (so_far first recorded planned was))
    where
      split_at : (xs : List ℕ) (k x : ℕ) → k < length xs → x ≡ get_or xs k x → xs ≡ take k xs ++ x ∷ drop (suc k) xs
      split_at [] k x inside is = absurd (omega (arith, inside))
      split_at (y ∷ xs) zero x inside is = ap (λ z. z ∷ xs) (sym is)
      split_at (y ∷ xs) (suc k) x inside is = ap (λ ys. y ∷ ys) (split_at xs k x (omega (arith, inside)) is)

  pub all_blocks : (count : ℕ) (g : Body) (b : StackSlots) → length plan.liveness.now.order ≤ count → FirstBlocks plan count f a g b → RewritesAll plan f a g b
  all_blocks count g b past so_far first recorded planned was =
      subst (λ (xs : List ℕ). AreRewritten first recorded plan xs g b) (take_all count plan.liveness.now.order past) (so_far first recorded planned was)
