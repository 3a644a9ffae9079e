-- Spilled values that have no slot, and are live ahead.
use Rattle.std.proofs.Common.{◌≡◌, ◌∙◌, ◌<◌, ◌≤◌, ◌+◌, ◌⊎◌, ◌&&◌, ℕ, Bool, true, false, List, [], ◌∷◌, ◌++◌, length, get_or, map as each, take, cond, refl, sym, ap, subst, arith, append_assoc, inl, inr}
use Rattle.std.specs.Prelude.{Contains, None, Ok, Option, Some, filter, is_none}
use Rattle.std.specs.FinMap as fin
use Rattle.std.specs.List.Sorted.{IsPermutation}
use Rattle.std.proofs.lemmas.Bool.{and_parts}
use Rattle.std.proofs.lemmas.List.{append-nil, take_all}
use Rattle.std.proofs.lemmas.List.Elements.{Contains-append_cases, Contains-append_left, Contains-append_right, Contains-push_cases}
use Rattle.std.proofs.lemmas.List.Sorted.{Contains-permutation, IsPermutation-sym}
use Rattle.clif_safepoints.proofs.Numbered.{filter_from, filter_to}
use Rattle.clif_types.specs.EntitySet.{has}
use Rattle.clif_instructions.specs.Instruction.{destinations}
use Rattle.clif_instructions.specs.declared.block_call.BlockCall.{BlockCall}
use Rattle.clif_ir.specs.Body.{Body, inst_at, value_at}
use Rattle.clif_safepoints.specs.Analysis.{found_in}
use Rattle.clif_safepoints.proofs.Paths.{stands_from, stands_to}
use Rattle.clif_stack_slots.specs.Sizes.{size_of_type}
use Rattle.clif_stack_slots.specs.Slots.{GivesSlot, assigned_in}
use Rattle.clif_stack_slots.specs.declared.size.SlotSize.{SlotSize}
use Rattle.clif_stack_slots.specs.declared.slots.StackSlots.{StackSlots}
use Rattle.clif_tables.specs.Lists.{stack_map_at}
use Rattle.clif_spiller.specs.Acting.{ActsAhead, GoesBy, HasSlot, IsLiveAhead, is_waiting}
use Rattle.clif_spiller.specs.Allocating.{Needs}
use Rattle.clif_spiller.specs.Plans.{GoesOn, KnowsSlots}
use Rattle.clif_spiller.specs.declared.plan.Plan.{Plan}
use Rattle.clif_spiller.proofs.Acting.{filter_append, goes_needed, goes_nowhere, goes_then, map_append}
use Rattle.clif_spiller.proofs.Giving.{IsGiven}
use Rattle.clif_spiller.proofs.Keeping.{goes_further, goes_on_refl}
use Rattle.clif_spiller.proofs.Needing.{take_one_more}

-- FILTERS ---------------------------------------------------------------------------------------------------------------

pub waits_next : (p : ℕ → Bool) (old xs : List ℕ) (k x : ℕ) (items new : List ℕ) → k < length xs → x ≡ get_or xs k x
    → items ≡ old ++ filter p (take k xs) → new ≡ items ++ filter p (x ∷ []) → new ≡ old ++ filter p (take (k + 1) xs)
waits_next p old xs k x items new inside is so_far then =
    then ∙ ap (λ ys. ys ++ filter p (x ∷ [])) so_far ∙ append_assoc old (filter p (take k xs)) (filter p (x ∷ []))
    ∙ ap (λ ys. old ++ ys) (sym (filter_append p (take k xs) (x ∷ [])))
    ∙ ap (λ y. old ++ filter p (take k xs ++ y ∷ [])) is
    ∙ ap (λ ys. old ++ filter p ys) (sym (take_one_more xs k x inside))

pub waits_all : (p : ℕ → Bool) (old xs : List ℕ) (k : ℕ) (items : List ℕ) → length xs ≤ k → items ≡ old ++ filter p (take k xs) → items ≡ old ++ filter p xs
waits_all p old xs k items past is = is ∙ ap (λ ys. old ++ filter p ys) (take_all k xs past)

pub passes_one : (p : ℕ → Bool) (items : List ℕ) (x : ℕ) → p x ≡ true → items ++ x ∷ [] ≡ items ++ filter p (x ∷ [])
passes_one p items x passes = ap (λ c. items ++ cond c (x ∷ []) []) (sym passes)

pub fails_one : (p : ℕ → Bool) (items : List ℕ) (x : ℕ) → p x ≡ false → items ≡ items ++ filter p (x ∷ [])
fails_one p items x fails = sym (append-nil items) ∙ ap (λ c. items ++ cond c (x ∷ []) []) (sym fails)

-- whether it waits
pub not_spilled : (plan : Plan) (slots : StackSlots) (value : ℕ) → has plan.spilled value ≡ false → is_waiting plan slots value ≡ false
not_spilled plan slots value is = ap (λ c. c && is_none (fin.get (assigned_in slots) value)) is

pub waits : (plan : Plan) (slots : StackSlots) (value : ℕ) → has plan.spilled value ≡ true → is_none (fin.get (assigned_in slots) value) ≡ true → is_waiting plan slots value ≡ true
waits plan slots value spilled none = ap (λ c. c && is_none (fin.get (assigned_in slots) value)) spilled ∙ none

pub has_slot_already : (plan : Plan) (slots : StackSlots) (value : ℕ) → has plan.spilled value ≡ true → is_none (fin.get (assigned_in slots) value) ≡ false → is_waiting plan slots value ≡ false
has_slot_already plan slots value spilled some = ap (λ c. c && is_none (fin.get (assigned_in slots) value)) spilled ∙ some

-- a spilled value waits or has a slot
pub waits_or_has : (plan : Plan) (slots : StackSlots) (value : ℕ) → Contains plan.spilled value → (is_waiting plan slots value ≡ true) ⊎ HasSlot slots value
waits_or_has plan slots value spilled = by (fin.get (assigned_in slots) value) refl
  where
    by : (found : Option ℕ) → fin.get (assigned_in slots) value ≡ found → (is_waiting plan slots value ≡ true) ⊎ HasSlot slots value
    by (Some slot) is = inr (slot, is)
    by None is = inl (waits plan slots value (stands_from value plan.spilled spilled) (ap is_none is))

-- EDGE BY EDGE ----------------------------------------------------------------------------------------------------------

-- those that wait at the fronts of blocks to which the first so many edges lead
pub record WaitsFor (plan : Plan) (slots : StackSlots) (edges : List BlockCall) (count : ℕ) (waiting : List ℕ) : Type 0 where
  pub live : (v : ℕ) → Contains waiting v → Contains plan.spilled v × IsLiveAhead plan edges v
  pub all : (v : ℕ) → Contains plan.spilled v → IsLiveAhead plan (take count edges) v → Contains waiting v ⊎ HasSlot slots v

pub waits_for_none : (plan : Plan) (slots : StackSlots) (edges : List BlockCall) → WaitsFor plan slots edges 0 []
waits_for_none plan slots edges = record {
  live = λ v here. absurd (let inside = here.1 in omega (arith, inside));
  all = λ v spilled ahead. absurd (let inside = ahead.1.1 in omega (arith, inside));
}

-- one edge more
pub waits_for_next : (plan : Plan) (slots : StackSlots) (edges : List BlockCall) (count : ℕ) (waiting new : List ℕ) (edge : BlockCall) → count < length edges
    → edge ≡ get_or edges count edge → WaitsFor plan slots edges count waiting
    → new ≡ waiting ++ filter (is_waiting plan slots) (found_in plan.liveness.now edge.block) → WaitsFor plan slots edges (count + 1) new
waits_for_next plan slots edges count waiting new edge inside is so_far made = record {
  live = λ v here.
      elim (Contains-append_cases waiting (filter (is_waiting plan slots) front) v (subst (λ xs. Contains xs v) made here)) [
        | inl old ↦ so_far.live v old
        | inr late ↦
            let both = filter_to (is_waiting plan slots) front v late in (
              stands_to v plan.spilled (and_parts (has plan.spilled v) (is_none (fin.get (assigned_in slots) v)) both.1).0,
              (edge, (count, inside, sym is), both.0),
            )
      ];
  all = λ v spilled ahead.
      elim (Contains-push_cases (take count edges) edge ahead.0 (subst (λ (xs : List BlockCall). Contains xs ahead.0) taken ahead.1)) [
        | inl old ↦ elim (so_far.all v spilled (ahead.0, old, ahead.2)) [ inl there ↦ inl (onto v (inl there)) | inr slot ↦ inr slot ]
        | inr same ↦
            elim (waits_or_has plan slots v spilled) [
              | inl waiting_now ↦ inl (onto v (inr (filter_from (is_waiting plan slots) front v (subst (λ (x : BlockCall). Contains (found_in plan.liveness.now x.block) v) (sym same) ahead.2) waiting_now)))
              | inr slot ↦ inr slot
            ]
      ];
}
  where
    front : List ℕ
    front = found_in plan.liveness.now edge.block

    taken : take (count + 1) edges ≡ take count edges ++ edge ∷ []
    taken = take_one_more edges count edge inside ∙ ap (λ (x : BlockCall). take count edges ++ x ∷ []) (sym is)

    onto : (v : ℕ) → Contains waiting v ⊎ Contains (filter (is_waiting plan slots) (found_in plan.liveness.now edge.block)) v → Contains new v
    onto v (inl there) = subst (λ xs. Contains xs v) (sym made) (Contains-append_left waiting (filter (is_waiting plan slots) (found_in plan.liveness.now edge.block)) v there)
    onto v (inr there) = subst (λ xs. Contains xs v) (sym made) (Contains-append_right waiting (filter (is_waiting plan slots) (found_in plan.liveness.now edge.block)) v there)

-- SLOT BY SLOT ----------------------------------------------------------------------------------------------------------

-- the first so many of them have slots
pub record NeedsFirst (plan : Plan) (f : Body) (a : StackSlots) (values : List ℕ) (g : Body) (b : StackSlots) : Type 0 where
  pub goes : GoesOn (length f.blocks) f a g b
  pub insts : g.insts ≡ f.insts
  pub blocks : g.blocks ≡ f.blocks
  pub layout : g.layout ≡ f.layout
  pub maps : (i : ℕ) → stack_map_at g.tables i ≡ stack_map_at f.tables i
  pub goes_by : GoesBy plan f a g b (each Needs values)

pub none_needed_yet : (plan : Plan) (f : Body) (a : StackSlots) → KnowsSlots f a → NeedsFirst plan f a [] f a
none_needed_yet plan f a knows =
    record { goes = goes_on_refl (length f.blocks) f a knows; insts = refl; blocks = refl; layout = refl; maps = λ i. refl; goes_by = goes_nowhere plan f a }

pub next_needed : (plan : Plan) (f : Body) (a : StackSlots) (values : List ℕ) (g : Body) (b : StackSlots) → NeedsFirst plan f a values g b
    → (value slot : ℕ) → Contains plan.spilled value → (slot_size : SlotSize) → size_of_type (value_at g value).ty ≡ Some slot_size
    → (h : Body) (c : StackSlots) → GivesSlot value slot_size b c g h (Ok slot) → IsGiven g b h c slot → NeedsFirst plan f a (values ++ value ∷ []) h c
next_needed plan f a values g b so_far value slot spilled slot_size sized h c gives gift = record {
  goes = goes_further f a g b h c so_far.goes (record { keeps = gift.keeps (length g.blocks); slots = gift.knows });
  insts = gift.insts ∙ so_far.insts;
  blocks = gift.blocks ∙ so_far.blocks;
  layout = gift.layout ∙ so_far.layout;
  maps = λ i. gift.maps i ∙ so_far.maps i;
  goes_by = subst (GoesBy plan f a h c) (sym (map_append Needs values (value ∷ [])))
      (goes_then plan f a g b h c (each Needs values) (Needs value ∷ []) so_far.goes.keeps so_far.goes_by (goes_needed plan g b h c value slot slot_size spilled sized gives));
}

-- all of them, sorted
pub taken_ahead : (plan : Plan) (inst : ℕ) (f : Body) (a : StackSlots) (waiting sorted : List ℕ) (count : ℕ) (g : Body) (b : StackSlots)
    → WaitsFor plan a (destinations (inst_at f inst).shape) count waiting → length (destinations (inst_at f inst).shape) ≤ count → IsPermutation waiting sorted
    → NeedsFirst plan f a sorted g b → ActsAhead plan inst f a g b
taken_ahead plan inst f a waiting sorted count g b waits past moved needs = record {
  insts = needs.insts;
  blocks = needs.blocks;
  layout = needs.layout;
  maps = needs.maps;
  outs = sorted;
  goes_by = needs.goes_by;
  live = λ v here. waits.live v (Contains-permutation sorted waiting v (IsPermutation-sym waiting sorted moved) here);
  all = λ v spilled ahead.
      elim (waits.all v spilled (ahead.0, subst (λ (xs : List BlockCall). Contains xs ahead.0) (sym (take_all count (destinations (inst_at f inst).shape) past)) ahead.1, ahead.2)) [
        | inl there ↦ inl (Contains-permutation waiting sorted v moved there)
        | inr slot ↦ inr slot
      ];
}
