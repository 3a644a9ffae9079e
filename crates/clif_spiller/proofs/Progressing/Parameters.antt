-- The parameters of a block are stored, and so the block is written as the law of spilling has it.
use Rattle.std.proofs.Common.{◌≡◌, ◌≢◌, ◌∙◌, ◌<◌, ◌≤◌, ◌⊎◌, ◌+◌, ℕ, Bool, true, false, if◌then◌else◌, List, [], ◌∷◌, ◌++◌, length, map as each, take, drop, refl, sym, ap, ap₂, subst, arith, inl, inr}
use Rattle.std.specs.Prelude.{Contains, Option, Some, filter, is_some, slice_get}
use Rattle.std.specs.FinMap as fin
use Rattle.std.proofs.lemmas.Bool.{cases_Bool}
use Rattle.std.proofs.lemmas.List.Elements.{Contains-append_left, Contains-append_right, Contains-push_cases}
use Rattle.clif_types.specs.EntitySet.{has}
use Rattle.clif_instructions.specs.Members.{Stands, place_of, stands_in}
use Rattle.clif_instructions.proofs.Members.{if_true}
use Rattle.clif_ir.specs.Body.{Body, block_at, inst_at}
use Rattle.clif_meaning.specs.FunctionView.{Placed}
use Rattle.clif_meaning.specs.View.{items_of, placed_of, view_of}
use Rattle.clif_safepoints.proofs.Paths.{items_are, size_is, stands_from, stands_to}
use Rattle.clif_spilling_laws.specs.Live.{IsLiveBefore, place_at}
use Rattle.clif_spilling_laws.specs.Rewriting.{AreItemsOf, AreRewritten as WrittenAs, IsRewrittenBlock, IsRewrittenCode}
use Rattle.clif_spilling_laws.specs.Spilling.{SlotAccess, Spilling}
use Rattle.clif_stack_slots.specs.Slots.{SlotMap, assigned_in}
use Rattle.clif_stack_slots.specs.declared.slots.StackSlots.{StackSlots}
use Rattle.clif_spiller.specs.Acting.{ActsGiving}
use Rattle.clif_spiller.specs.Allocating.{IsAllocated, IsSlotState, SlotState, every}
use Rattle.clif_spiller.specs.Keeping.{Keeps}
use Rattle.clif_spiller.specs.Plans.{GoesOn, insts_inside}
use Rattle.clif_spiller.specs.Progress.{AreWritten, IsEnd, IsHandledInst, IsInDone, IsPlannedFor, IsWrittenFrom, LeadsTo, slots_before}
use Rattle.clif_spiller.specs.Spills.{beside}
use Rattle.clif_spiller.specs.Text.{AreAccesses, HaveSlots, IsCut, KeepsSlots, Stored, StoresBefore, insts_of, is_assigned}
use Rattle.clif_spiller.specs.declared.accesses.Spot.TheVariants as spot
use Rattle.clif_spiller.specs.declared.plan.Plan.{Plan}
use Rattle.clif_spiller.proofs.Keeping.{keeps_fewer, keeps_trans, more_values}
use Rattle.clif_spiller.proofs.Progressing.Leading.{LeavesSettled, leads_back, new_stay}
use Rattle.clif_spiller.proofs.Progressing.Writing.{listed, some_or_none}
use Rattle.clif_spiller.proofs.Shapes.{get_or_inside}
use Rattle.clif_spiller.proofs.Text.Adding.{are_lower, are_stay, are_upper}
use Rattle.clif_spiller.proofs.Text.Closing.{access_of, good_stores, stores_are}

-- LAYOUTS ---------------------------------------------------------------------------------------------------------------

pub stands_alike : (c : ℕ) (xs ys : List ℕ) → (Stands c xs → Stands c ys) → (Stands c ys → Stands c xs) → stands_in c xs ≡ stands_in c ys
stands_alike c xs ys to from = by (cases_Bool (stands_in c xs)) (cases_Bool (stands_in c ys))
  where
    member : (zs : List ℕ) → Contains zs c → Stands c zs
    member zs here = (here.0, here.1, get_or_inside zs here.0 0 c here.1 ∙ here.2)

    stands : (zs : List ℕ) → Stands c zs → Contains zs c
    stands zs here = (here.0, here.1, get_or_inside zs here.0 c 0 here.1 ∙ here.2)

    by : (stands_in c xs ≡ true) ⊎ (stands_in c xs ≡ false) → (stands_in c ys ≡ true) ⊎ (stands_in c ys ≡ false) → stands_in c xs ≡ stands_in c ys
    by (inl first) (inl second) = first ∙ sym second
    by (inr first) (inr second) = first ∙ sym second
    by (inl first) (inr second) = absurd (let both = sym second ∙ stands_from c ys (stands ys (to (member xs (stands_to c xs first)))) in cc)
    by (inr first) (inl second) = absurd (let both = sym first ∙ stands_from c xs (stands xs (from (member ys (stands_to c ys second)))) in cc)

-- a block whose list is settled
pub settled_inside : (first : Body) (Handled Settled : ℕ → Type 0) (g : Body) (b : StackSlots) (last : Body) (final : StackSlots) → LeadsTo first Handled Settled g b last final
    → (c : ℕ) → c < length g.blocks → Settled c → insts_inside last c ≡ insts_inside g c
settled_inside first Handled Settled g b last final leads c exists settled =
    ap₂ (λ (test : Bool) (xs : List ℕ). if test then xs else [])
    (stands_alike c last.layout g.layout (leads.layout c exists) (leads.keeps.layout c)) (leads.lists c exists (inr settled))

-- LEAVING A BLOCK -------------------------------------------------------------------------------------------------------

-- a block without instructions, in which nothing is stored
pub record IsEmptied (first : Body) (block : ℕ) (f g : Body) : Type 0 where
  pub empty : insts_inside first block ≡ []
  pub still_empty : insts_inside f block ≡ []
  pub same : g ≡ f

-- parameters are stored before the first instruction of the block
pub record IsFronted (first : Body) (plan : Plan) (block : ℕ) (f : Body) (a : StackSlots) (g : Body) (b : StackSlots) : Type 0 where
  pub some : 0 < length (insts_inside first block)
  pub stands : Stands block f.layout
  pub front : ℕ
  pub is_front : slice_get (block_at f block).insts 0 ≡ Some front
  pub home : (inst_at f front).block ≡ block
  pub stores : StoresBefore plan front f a g b (block_at f block).params

module _ (first : Body) (recorded : List ℕ) (plan : Plan) (planned : IsPlannedFor first recorded plan) (done : List ℕ) (block : ℕ) (new : Contains done block → ⊥)
    (exists : block < length first.blocks) (f : Body) (a : StackSlots) (st : SlotState) (keeps : Keeps (length first.blocks) first f) (state : IsSlotState f a st)
    (written : IsWrittenFrom first recorded plan done block 0 f a)
    (allocated : IsAllocated (view_of first) (has plan.spilled) plan.liveness.now.order (slots_before first) done block 0 st)
    (g : Body) (b : StackSlots) (goes : GoesOn (length f.blocks) f a g b) (home : ℕ) (home_is : home ≡ block) (acts : ActsGiving home f a g b (block_at f block).params)
    (still : KeepsSlots a b) (how : IsEmptied first block f g ⊎ IsFronted first plan block f a g b) where
  abbrev Before : ℕ → Type 0
  Before = IsHandledInst first done block 0

  abbrev Now : ℕ → Type 0
  Now = IsInDone first (done ++ block ∷ [])

  abbrev Settled : ℕ → Type 0
  Settled = Contains (done ++ block ∷ [])

  to_now : (i : ℕ) → Before i → Now i
  to_now i (inl earlier) = (earlier.0, Contains-append_left done (block ∷ []) earlier.0 earlier.1, earlier.2)
  to_now i (inr here) = (block, Contains-append_right done (block ∷ []) block (0, omega arith, refl), here)

  apart : (c : ℕ) → (length first.blocks ≤ c) ⊎ Contains done c → c ≢ home
  apart c (inl beyond) same = omega (arith, beyond, same, home_is, exists)
  apart c (inr member) same = new (subst (Contains done) (same ∙ home_is) member)

  settled : LeavesSettled first Before (Contains done) f a g b
  settled = record {
    keeps = goes.keeps;
    nodes = λ i inside how_so. acts.nodes i inside;
    maps = λ i inside how_so. acts.maps i;
    lists = λ c inside how_so. acts.lists c (apart c how_so);
    layout = λ c inside stands. subst (Stands c) acts.layout stands;
    still = still;
  }

  back : (last : Body) (final : StackSlots) → LeadsTo first Now Settled g b last final → LeadsTo first Before (Contains done) f a last final
  back last final leads =
      leads_back first Before (Contains done) Now Settled f a g b last final to_now (λ c member. Contains-append_left done (block ∷ []) c member) settled leads

  same_count : length g.blocks ≡ length f.blocks
  same_count = by how
    where
      by : IsEmptied first block f g ⊎ IsFronted first plan block f a g b → length g.blocks ≡ length f.blocks
      by (inl emptied) = ap (λ (x : Body). length x.blocks) emptied.same
      by (inr fronted) = fronted.stores.adds.blocks

  module _ (last : Body) (final : StackSlots) (slot_of : ℕ → ℕ) (leads : LeadsTo first Now Settled g b last final) (end : IsEnd first recorded plan last final slot_of) where
    abbrev s : Spilling
    s = beside first plan.pointer last (has plan.spilled) slot_of

    keeps_g : Keeps (length first.blocks) first g
    keeps_g = keeps_trans (length first.blocks) first f g keeps (keeps_fewer (length first.blocks) (length f.blocks) f g keeps.blocks goes.keeps)

    keeps_last : Keeps (length first.blocks) first last
    keeps_last = keeps_trans (length first.blocks) first g last keeps_g (keeps_fewer (length first.blocks) (length g.blocks) g last keeps_g.blocks leads.keeps)

    inside_last : insts_inside last block ≡ insts_inside g block
    inside_last =
        settled_inside first Now Settled g b last final leads block (let more = keeps_g.blocks in omega (arith, exists, more)) (Contains-append_right done (block ∷ []) block (0, omega arith, refl))

    items_last : items_of last block ≡ each (placed_of last) (insts_inside g block)
    items_last = items_are last block ∙ ap (each (placed_of last)) inside_last

    -- the parameters
    module _ (fronted : IsFronted first plan block f a g b) where
      stands_g : Stands block g.layout
      stands_g = goes.keeps.layout block fronted.stands

      code_is_all : (block_at f block).insts ≡ written.code
      code_is_all = sym (listed f block fronted.stands) ∙ written.list ∙ ap (λ xs. xs ++ written.code) (take_none (insts_inside first block))
        where
          take_none : (xs : List ℕ) → take 0 xs ≡ []
          take_none [] = refl
          take_none (x ∷ xs) = refl

      first_place : (xs : List ℕ) → slice_get xs 0 ≡ Some fronted.front → (place_of fronted.front xs ≡ 0) × Contains xs fronted.front
      first_place [] at_front = cc
      first_place (x ∷ xs) at_front =
          let same : x ≡ fronted.front = cc in (if_true x fronted.front 0 (place_of fronted.front xs + 1) same, (0, omega arith, same))

      below_f : (i : ℕ) → Contains (block_at f block).insts i → i < length f.insts
      below_f i here = written.below i (subst (λ xs. Contains xs i) (sym (listed f block fronted.stands)) here)

      cut_f : IsCut f block (spot.Before fronted.front) [] (block_at f block).insts
      cut_f = record {
        list = refl;
        home = fronted.home;
        place = ap (λ (c : ℕ). place_of fronted.front (block_at f c).insts) fronted.home ∙ (first_place (block_at f block).insts fronted.is_front).0;
        exists = below_f fronted.front (first_place (block_at f block).insts fronted.is_front).1;
        block_exists = (let more = keeps.blocks in omega (arith, exists, more));
        below = below_f;
      }

      list_g : insts_inside g block ≡ insts_of fronted.stores.accesses ++ written.code
      list_g = listed g block stands_g ∙ (fronted.stores.adds.cut block [] (block_at f block).insts cut_f).list ∙ ap (λ xs. insts_of fronted.stores.accesses ++ xs) code_is_all

      puts_last : AreAccesses Stored plan.pointer last (length first.insts) (length first.values) fronted.stores.accesses (length last.insts) (length last.values)
      puts_last =
          are_lower Stored plan.pointer last (length first.insts) (length first.values) (length f.insts) (length f.values) fronted.stores.accesses (length last.insts) (length last.values)
          keeps.insts (more_values (length first.blocks) first f keeps)
          (are_upper Stored plan.pointer last (length f.insts) (length f.values) fronted.stores.accesses (length g.insts) (length g.values) (length last.insts) (length last.values)
          leads.keeps.insts (more_values (length g.blocks) g last leads.keeps)
          (are_stay Stored plan.pointer (length g.blocks) g last leads.keeps (length first.insts) (length g.insts) (new_stay first Now Settled g b last final leads)
          (length f.insts) (length f.values) fronted.stores.accesses (length g.insts) (length g.values) keeps.insts (omega arith) (omega arith) fronted.stores.adds.are))

      puts_slots : HaveSlots final fronted.stores.accesses
      puts_slots x here = leads.still x.value x.slot (fronted.stores.adds.slots x here)

      picked_spilled : (v : ℕ) → is_assigned a v ≡ true → has plan.spilled v ≡ true
      picked_spilled v picked =
          let found = some_or_none (fin.get (assigned_in a) v) picked in end.spilled v found.0 (leads.still v found.0 (still v found.0 found.1))

      unneeded : (v : ℕ) → Contains (block_at first block).params v → has plan.spilled v ≡ true → is_assigned a v ≡ false → IsLiveBefore every (view_of first) (place_at block 0) v → ⊥
      unneeded v here is_spilled not_picked live =
          let low : 0 < length ((view_of first).blocks block).items = subst (λ n. 0 < n) (sym (size_is first block)) fronted.some in
          let assigned = allocated.covers (place_at block 0) v (low, inr (refl, omega arith)) is_spilled (inl live) in
          let found : fin.get (assigned_in a) v ≡ Some assigned.0 = ap (λ (m : SlotMap). fin.get m v) state.assigned ∙ assigned.1 in
          (let both = sym not_picked ∙ ap (λ (o : Option ℕ). is_some o) found in cc)

      abbrev stored : List SlotAccess
      stored = each (access_of first plan last final slot_of planned.known (length first.blocks) keeps_last end.slots end.spilled planned.planned) fronted.stores.accesses

      code_so : IsRewrittenCode every s (has recorded) block (items_of first block) (items_of last block)
      code_so = record {
        stores = stored;
        are_stores = good_stores first plan last final slot_of planned.known (length first.blocks) keeps_last end.slots end.spilled planned.planned
            (IsLiveBefore every (view_of first) (place_at block 0)) (is_assigned a) picked_spilled (block_at first block).params (length first.insts) (length first.values)
            fronted.stores.accesses (length last.insts) (length last.values) (omega arith) (omega arith) puts_last
            (fronted.stores.those ∙ ap (filter (is_assigned a)) (keeps.params block exists)) unneeded;
        rest = each (placed_of last) written.code;
        code_is = items_last ∙ ap (each (placed_of last)) list_g
            ∙ stores_are first plan last final slot_of planned.known (length first.blocks) keeps_last end.slots end.spilled planned.planned (length first.insts) (length first.values)
            fronted.stores.accesses (length last.insts) (length last.values) puts_last puts_slots written.code;
        rewritten = subst (λ (items : List Placed). WrittenAs every s (has recorded) block 0 items (each (placed_of last) written.code))
            (ap (each (placed_of first)) (drop_none (insts_inside first block)) ∙ sym (items_are first block))
            (written.text last final slot_of (back last final leads) end);
      }
        where
          drop_none : (xs : List ℕ) → drop 0 xs ≡ xs
          drop_none [] = refl
          drop_none (x ∷ xs) = refl

    items_so : (items : List Placed) → items_of first block ≡ items → IsEmptied first block f g ⊎ IsFronted first plan block f a g b
        → AreItemsOf every s (has recorded) block items (items_of last block)
    items_so [] items_is (inl emptied) =
        items_last ∙ ap (each (placed_of last)) (ap (λ (x : Body). insts_inside x block) emptied.same ∙ emptied.still_empty)
    items_so (p ∷ items) items_is (inl emptied) =
        absurd (let none : items_of first block ≡ [] = items_are first block ∙ ap (each (placed_of first)) emptied.empty in let both = sym none ∙ items_is in cc)
    items_so [] items_is (inr fronted) =
        absurd (
        let long = size_is first block in let some = fronted.some in let none = ap (λ (xs : List Placed). length xs) items_is in
        omega (arith, long, some, none)
        )
    items_so (p ∷ items) items_is (inr fronted) = subst (λ (xs : List Placed). IsRewrittenCode every s (has recorded) block xs (items_of last block)) items_is (code_so fronted)

    block_so : IsRewrittenBlock every s (has recorded) block
    block_so = record {
      parameters = keeps_last.params block exists;
      items = items_so (items_of first block) refl how;
    }

    blocks_so : (c : ℕ) → Contains (done ++ block ∷ []) c → IsRewrittenBlock every s (has recorded) c
    blocks_so c member =
        elim (Contains-push_cases done block c member) [
          | inl early ↦ written.written.blocks last final slot_of (back last final leads) end c early
          | inr this ↦ subst (IsRewrittenBlock every s (has recorded)) this block_so
        ]

  pub left_written : AreWritten first recorded plan (done ++ block ∷ []) (IsInDone first (done ++ block ∷ [])) g b
  left_written = record {
    blocks = blocks_so;
    landings = λ last final slot_of leads end c beyond to.
        written.written.landings last final slot_of (back last final leads) end c beyond (omega (arith, to, same_count));
  }
