-- One place further in the walk: what the slots keep.
use Rattle.std.proofs.Common.{◌≡◌, ◌⊎◌, ◌<◌, ◌≤◌, ◌++◌, ◌∙◌, inl, inr, ℕ, suc, true, Bool, List, [], ◌∷◌, length, map as each, drop, Option, None, Some, refl, sym, ap, subst, arith}
use Rattle.std.specs.Prelude.{Contains}
use Rattle.std.specs.FinMap as map
use Rattle.std.proofs.lemmas.Bool.{cases_eq}
use Rattle.clif_types.specs.declared.types.«Type».{«Type»}
use Rattle.clif_stack_slots.specs.Sizes.{size_of_type}
use Rattle.clif_stack_slots.specs.declared.size.SlotSize.{SlotSize}
use Rattle.clif_meaning.specs.FunctionView.{FunctionView, Placed}
use Rattle.clif_meaning.specs.Instruction.{Edge}
use Rattle.clif_meaning.specs.Path.{IsReachable, Place}
use Rattle.clif_meaning.specs.WellPlaced.{WellPlaced, function_flow, placed_at, placed_gives, placed_targets}
use Rattle.clif_safepoints.specs.Liveness.{IsPassed}
use Rattle.clif_safepoints.proofs.Paths.{contains_map}
use Rattle.clif_spilling_laws.specs.Live.{IsLiveAfter, IsLiveBefore, counted, place_at}
use Rattle.clif_spilling_laws.proofs.Basics.Lists.{contains_first, contains_none, not_empty}
use Rattle.clif_spiller.specs.Allocating.{ActsAt, KeepsApart, AreHeld, AreLive, AreNeeded, AreSlots, Distinct, Gives, IsAllocated, IsAssigned, IsClosed, IsHandled, IsKeptOpen, IsLiveBeside, IsWalk, Meet, Needs, SlotAct, SlotState, after_acts, count_of, every}
use Rattle.clif_spiller.proofs.Allocating.Covering.{covers_out, covers_then, handled_cases, handled_more, uses_are}
use Rattle.clif_spiller.proofs.Allocating.Holding.{gives_held, give_count, held_by, needs_enough}
use Rattle.clif_spiller.proofs.Allocating.KeptOpen.{OpenThen, enough, kept_open, reached}
use Rattle.clif_spiller.proofs.Allocating.Lists.{once_distinct}
use Rattle.clif_spiller.proofs.Allocating.Opening.{open_after, open_before}
use Rattle.clif_spiller.proofs.Allocating.Orders.{not_done}
use Rattle.clif_spiller.proofs.Allocating.Sharing.{apart_closed, apart_met, gives_apart, needs_apart}
use Rattle.clif_spiller.proofs.Allocating.Sized.{gives_slots, needs_slots}
use Rattle.clif_spiller.proofs.Allocating.States.{acts_keep}

module _ (function : FunctionView) (count : ℕ) (is_spilled : ℕ → Bool) (order done : List ℕ) (block : ℕ) (rest : List ℕ)
    (walk : IsWalk function count is_spilled order) (split : order ≡ done ++ block ∷ rest)
    (k : ℕ) (inside : k < length (function.blocks block).items) where
  abbrev p : Place ℕ
  p = place_at block k

  abbrev gives : List ℕ
  gives = placed_gives (placed_at function p)

  fresh : Contains done block → ⊥
  fresh = not_done order done block rest split walk.ordered.once

  abbrev OpenLater : ℕ → Type 0
  OpenLater v = OpenThen function count is_spilled order done block rest walk split k inside v

  there : IsReachable (function_flow function) p
  there = reached function count is_spilled order done block rest walk split k inside

  -- ACTS ----------------------------------------------------------------------------------------------------------------

  module _ (base : ℕ) (st : SlotState) (was : IsAllocated function is_spilled order base done block (suc k) st)
      (list : List SlotAct) (acts : ActsAt function is_spilled st p list) where
    abbrev ty : ℕ → «Type»
    ty = function.value_type

    abbrev outs_st : SlotState
    outs_st = after_acts ty (each Needs acts.outs) st

    abbrev gives_st : SlotState
    gives_st = after_acts ty (each Gives gives) outs_st

    abbrev uses_st : SlotState
    uses_st = after_acts ty (each Needs acts.uses) gives_st

    -- What is live right after the place, and isn't passed by its edges, has a slot before its results are given.
    pub covers_after : (v : ℕ) → is_spilled v ≡ true → IsLiveAfter every function p v
        → (IsPassed (counted every) function.resolved v (placed_at function p) → ⊥) → IsAssigned outs_st v
    covers_after = covers_out function count is_spilled order walk done block k inside st was.covers list acts

    covers : (q : Place ℕ) (v : ℕ) → IsHandled function done block k q → is_spilled v ≡ true → IsLiveBeside function q v → IsAssigned uses_st v
    covers = covers_then function count is_spilled order walk done block k inside st was.covers list acts

    -- an instruction has no edges or gives nothing
    no_targets : (v : ℕ) → Contains gives v → placed_targets (placed_at function p) ≡ []
    no_targets v h = by (placed_targets (placed_at function p)) refl
      where
        by : (targets : List ℕ) → placed_targets (placed_at function p) ≡ targets → targets ≡ []
        by [] is = refl
        by (t ∷ targets) is =
            let none = walk.gives_once.edges_give_nothing p (λ empty. not_empty t targets (sym is ∙ empty)) in
            absurd (contains_none v (subst (λ xs. Contains xs v) none h))

    outs_or_gives : (acts.outs ≡ []) ⊎ (gives ≡ [])
    outs_or_gives = by gives refl
      where
        by : (given : List ℕ) → gives ≡ given → (acts.outs ≡ []) ⊎ (given ≡ [])
        by [] is = inr refl
        by (v ∷ given) is = inl (acts.outs_none (no_targets v (subst (λ xs. Contains xs v) (sym is) (contains_first v given))))

    -- nothing that is given there is passed there
    given_not_passed : (v : ℕ) → Contains gives v → (w : ℕ) → IsPassed (counted every) function.resolved w (placed_at function p) → ⊥
    given_not_passed v h w = by (placed_at function p) (no_targets v h)
      where
        by : (found : Option Placed) → placed_targets found ≡ [] → IsPassed (counted every) function.resolved w found → ⊥
        by None none passed = passed
        by (Some placed) none passed =
            contains_none passed.0.target
            (subst (λ xs. Contains xs passed.0.target) none (contains_map (λ (edge : Edge ℕ ℕ). edge.target) placed.instruction.edges passed.0 passed.3))

    -- What it gives has one, if it is live right after it and spilled.
    pub covers_result : (v : ℕ) → is_spilled v ≡ true → IsLiveAfter every function p v → Contains gives v → IsAssigned outs_st v
    covers_result v spilled live h = covers_after v spilled live (given_not_passed v h v)

    -- SIZES -------------------------------------------------------------------------------------------------------------

    slots_1 : AreSlots is_spilled ty base outs_st
    slots_1 = needs_slots is_spilled ty base acts.outs st (λ v h. (acts.outs_live v h).0) was.slots

    slots_2 : AreSlots is_spilled ty base gives_st
    slots_2 = gives_slots is_spilled ty base gives outs_st slots_1

    slots_3 : AreSlots is_spilled ty base uses_st
    slots_3 = needs_slots is_spilled ty base acts.uses gives_st (λ v h. (acts.uses_live v h).0) slots_2

    -- SHARING -----------------------------------------------------------------------------------------------------------

    module _ (well : WellPlaced function) where
      abbrev Closed : ℕ → Type 0
      Closed v = IsClosed function done block (suc k) v

      abbrev ClosedToo : ℕ → Type 0
      ClosedToo v = Closed v ⊎ Contains gives v

      abbrev Meets : ℕ → ℕ → Type 0
      Meets v w = Meet function is_spilled done block (suc k) v w

      kept_0 : KeepsApart Closed Meets st
      kept_0 = was.apart well

      not_yet : (v : ℕ) → Contains gives v → Closed v → ⊥
      not_yet v h (inl result) = by result.1.1 (walk.gives_once.one_place result.0 p v result.2 h)
        where
          by : Contains done result.0.block ⊎ ((result.0.block ≡ block) × (suc k ≤ result.0.index)) → result.0 ≡ p → ⊥
          by (inl member) same = fresh (subst (λ (q : Place ℕ). Contains done q.block) same member)
          by (inr behind) same = let below = behind.1 in let index : result.0.index ≡ k = ap (λ (q : Place ℕ). q.index) same in omega (arith, below, index)
      not_yet v h (inr parameter) = walk.gives_once.apart parameter.0 p v parameter.2 h

      kept_3 : KeepsApart ClosedToo Meets uses_st
      kept_3 =
          needs_apart is_spilled ty base Meets ClosedToo acts.uses gives_st (λ v h. (acts.uses_live v h).0) slots_2
          (gives_apart is_spilled ty base Meets Closed gives outs_st (once_distinct gives (walk.results_once p)) not_yet
          (needs_apart is_spilled ty base Meets Closed acts.outs st (λ v h. (acts.outs_live v h).0) was.slots kept_0))

      closed_then : (v : ℕ) → ClosedToo v → IsClosed function done block k v
      closed_then v (inl (inl result)) = inl (result.0, handled_more function done block k result.0 result.1, result.2)
      closed_then v (inl (inr parameter)) = inr parameter
      closed_then v (inr given) = inl (p, (inside, inr (refl, omega arith)), given)

      -- two values that are live right before the place have no slot in common
      apart_before : (v w slot : ℕ) → map.get uses_st.assigned v ≡ Some slot → map.get uses_st.assigned w ≡ Some slot
          → IsLiveBefore every function p v → IsLiveBefore every function p w → v ≡ w
      apart_before v w slot has also live other =
          elim (cases_eq v w) [
            | inl same ↦ same
            | inr differ ↦
                elim (kept_3.one_open v w slot has also differ) [
                  | inl closed ↦ absurd (open_before function count is_spilled order done block rest walk split k inside v well there live (closed_then v closed))
                  | inr closed ↦ absurd (open_before function count is_spilled order done block rest walk split k inside w well there other (closed_then w closed))
                ]
          ]

      -- nor two that are live right after it
      module _ (v w slot : ℕ) (has : map.get uses_st.assigned v ≡ Some slot) (also : map.get uses_st.assigned w ≡ Some slot)
          (spilled : is_spilled v ≡ true) (spilled_too : is_spilled w ≡ true) (live : IsLiveAfter every function p v) (other : IsLiveAfter every function p w) (differ : v ≡ w → ⊥) where
        -- where the place gives something they had their slots before
        had : (x : ℕ) → Contains gives x → (u : ℕ) → is_spilled u ≡ true → IsLiveAfter every function p u → map.get uses_st.assigned u ≡ Some slot → map.get st.assigned u ≡ Some slot
        had x h u is lives has_it =
            let none : acts.outs ≡ [] = acts.outs_none (no_targets x h) in
            let out : IsAssigned outs_st u = covers_after u is lives (given_not_passed x h u) in
            let before : IsAssigned st u = subst (λ outs. IsAssigned (after_acts ty (each Needs outs) st) u) none out in
            let later : map.get uses_st.assigned u ≡ Some before.0 =
            acts_keep ty (each Needs acts.uses) gives_st u before.0
            (acts_keep ty (each Gives gives) outs_st u before.0 (acts_keep ty (each Needs acts.outs) st u before.0 before.1)) in
            before.1 ∙ sym later ∙ has_it

        closed_before : Closed v ⊎ Closed w → ⊥
        closed_before (inl closed) = open_after function count is_spilled order done block rest walk split k inside v well there live closed
        closed_before (inr closed) = open_after function count is_spilled order done block rest walk split k inside w well there other closed

        given_there : (x : ℕ) → Contains gives x → ⊥
        given_there x h = closed_before (kept_0.one_open v w slot (had x h v spilled live has) (had x h w spilled_too other also) differ)

        never : ClosedToo v ⊎ ClosedToo w → ⊥
        never (inl (inl closed)) = closed_before (inl closed)
        never (inl (inr given)) = given_there v given
        never (inr (inl closed)) = closed_before (inr closed)
        never (inr (inr given)) = given_there w given

        not_after_both : ⊥
        not_after_both = never (kept_3.one_open v w slot has also differ)

      apart_then : (v w slot : ℕ) → map.get uses_st.assigned v ≡ Some slot → map.get uses_st.assigned w ≡ Some slot → Meet function is_spilled done block k v w → v ≡ w
      apart_then v w slot has also meets =
          elim (handled_cases function done block k meets.2 meets.3) [
            | inl new ↦ now (subst (λ (q : Place ℕ). AreLive function q v w) new meets.4)
            | inr old ↦ kept_3.apart v w slot has also (meets.0, meets.1, meets.2, old, meets.4)
          ]
        where
          now : AreLive function p v w → v ≡ w
          now (inl live) = apart_before v w slot has also live.0 live.1
          now (inr live) =
              elim (cases_eq v w) [
                | inl same ↦ same
                | inr differ ↦ absurd (not_after_both v w slot has also meets.0 meets.1 live.0 live.1 differ)
              ]

      met_then : (v w : ℕ) → Meet function is_spilled done block k v w → IsAssigned uses_st v × IsAssigned uses_st w
      met_then v w meets = by meets.4
        where
          by : AreLive function meets.2 v w → IsAssigned uses_st v × IsAssigned uses_st w
          by (inl live) = (covers meets.2 v meets.3 meets.0 (inl live.0), covers meets.2 w meets.3 meets.1 (inl live.1))
          by (inr live) = (covers meets.2 v meets.3 meets.0 (inr live.0), covers meets.2 w meets.3 meets.1 (inr live.1))

      apart_3 : KeepsApart (IsClosed function done block k) (Meet function is_spilled done block k) uses_st
      apart_3 =
          apart_met (IsClosed function done block k) Meets (Meet function is_spilled done block k) uses_st met_then apart_then
          (apart_closed ClosedToo (IsClosed function done block k) Meets uses_st closed_then kept_3)

    -- FEW SLOTS ---------------------------------------------------------------------------------------------------------

    abbrev Open : ℕ → Type 0
    Open v = IsKeptOpen function order done block (suc k) v ⊎ IsLiveBefore every function p v

    abbrev AreEnough : SlotState → Type 0
    AreEnough new = (size : SlotSize) → AreNeeded function is_spilled order size (count_of size (drop base new.slots))

    open_0 : AreHeld ty base Open st
    open_0 = held_by ty base (IsKeptOpen function order done block (suc k)) Open st (λ v held. inl held) was.held

    -- where nothing is given
    module _ (none : gives ≡ []) where
      not_given : (v : ℕ) → Contains gives v → ⊥
      not_given v h = contains_none v (subst (λ xs. Contains xs v) none h)

      enough_then : (size : SlotSize) (values : List ℕ) → Distinct values
          → ((v : ℕ) → Contains values v → Open v × (is_spilled v ≡ true) × (size_of_type (ty v) ≡ Some size))
          → AreNeeded function is_spilled order size (length values)
      enough_then of values distinct each_is =
          enough function count is_spilled order done block rest walk split k inside of values distinct (λ v h. let is = each_is v h in (elim is.0 [ inl held ↦ inl (held, not_given v) | inr live ↦ inr live ], is.1, is.2))

      outs_open : (v : ℕ) → Contains acts.outs v → Open v × (is_spilled v ≡ true)
      outs_open v h = let is = acts.outs_live v h in (inr (inr (not_given v, is.1.0, is.1.1)), is.0)

      after_none : AreHeld ty base Open outs_st × AreEnough outs_st
      after_none =
          needs_enough ty base Open is_spilled (AreNeeded function is_spilled order) enough_then acts.outs st outs_open was.slots open_0 was.needed

    held_1 : AreHeld ty base Open outs_st × AreEnough outs_st
    held_1 =
        elim outs_or_gives [
          | inl none ↦
              subst (λ outs. AreHeld ty base Open (after_acts ty (each Needs outs) st) × AreEnough (after_acts ty (each Needs outs) st)) (sym none) (open_0, was.needed)
          | inr none ↦ after_none none
        ]

    held_2 : AreHeld ty base OpenLater gives_st
    held_2 =
        held_by ty base (λ v. Open v × (Contains gives v → ⊥)) OpenLater gives_st
        (λ v held. elim held.0 [ inl was_open ↦ inl (was_open, held.1) | inr live ↦ inr live ])
        (gives_held ty base Open gives outs_st held_1.0)

    enough_2 : AreEnough gives_st
    enough_2 size =
        subst (λ slots. AreNeeded function is_spilled order size (count_of size (drop base slots))) (sym (give_count ty base gives outs_st)) (held_1.1 size)

    held_3 : AreHeld ty base OpenLater uses_st × AreEnough uses_st
    held_3 =
        needs_enough ty base OpenLater is_spilled (AreNeeded function is_spilled order) (enough function count is_spilled order done block rest walk split k inside) acts.uses gives_st
        (λ v h. let is = acts.uses_live v h in (inr is.1, is.0)) slots_2 held_2 enough_2

    -- THE STEP ----------------------------------------------------------------------------------------------------------

    pub handles : IsAllocated function is_spilled order base done block k (after_acts function.value_type list st)
    handles =
        subst (λ (new : SlotState). IsAllocated function is_spilled order base done block k new)
        (sym (uses_are function count is_spilled order walk done block k inside st was.covers list acts)) (record {
          slots = slots_3;
          covers = covers;
          apart = apart_3;
          held = held_by ty base OpenLater (IsKeptOpen function order done block k) uses_st
              (kept_open function count is_spilled order done block rest walk split k inside) held_3.0;
          needed = held_3.1;
        })
