-- The lists of what is live at the fronts of blocks are exact.
use Rattle.std.proofs.Common.{◌≡◌, ◌<◌, ◌⊎◌, ℕ, Bool, true, false, not, List, [], ◌∷◌, length, refl, sym, ap, subst, ◌∙◌, arith, inl, inr, Option, Some, None, slice_index}
use Rattle.std.specs.Prelude.{Contains, slice_get}
use Rattle.std.proofs.lemmas.List.{get_or_default}
use Rattle.std.proofs.lemmas.Option.{slice_get_within}
use Rattle.std.proofs.lemmas.List.Elements.{Contains-get_or}
use Rattle.clif_instructions.specs.Members.{stands_in}
use Rattle.clif_ir.specs.Body.{Body, block_at}
use Rattle.clif_ir.specs.Consistent.{IsConsistent}
use Rattle.clif_meaning.specs.FunctionView.{Placed}
use Rattle.clif_meaning.specs.Path.{Leads, Place}
use Rattle.clif_meaning.specs.View.{view_of}
use Rattle.clif_meaning.specs.WellPlaced.{function_flow, placed_targets}
use Rattle.clif_safepoints.specs.Analysis.{IsExactList, IsReached, IsTracedAfterParams, IsTracedIn}
use Rattle.clif_safepoints.specs.FrontTables.{AreFronts, AreRowsOf, FrontTables}
use Rattle.clif_safepoints.specs.Fronts.{IsFinished, IsLiveAt, at}
use Rattle.clif_safepoints.specs.LastPass.{row_at}
use Rattle.clif_safepoints.specs.Liveness.{IsLiveBefore, IsPassed, IsUsedAhead, every_argument, used_operands}
use Rattle.clif_safepoints.specs.Sets.{in_set_of}
use Rattle.clif_safepoints.specs.Transfer.{insts_of, is_live_before, is_live_in}
use Rattle.clif_safepoints.proofs.Paths.{IsSettled, across_from, and_both, and_cases, before_to, not_cases, not_true, placed_none, size_is, stands_from, stands_to, there}
use Rattle.clif_safepoints.proofs.Unaliased.{ahead_unaliased, used_unaliased}

-- PLACES ----------------------------------------------------------------------------------------------------------------

-- where something is used ahead there is an instruction
ahead_inside : (f : Body) (v b : ℕ) (path : List (Place ℕ)) → IsUsedAhead every_argument (view_of f) v (at b 0) path → slice_get (insts_of f b) 0 ≡ None → ⊥
ahead_inside f v b [] ahead none = subst (λ (o : Option Placed). IsPassed every_argument (view_of f).resolved v o) (placed_none f b 0 none) ahead
ahead_inside f v b (q ∷ path) ahead none = by ahead.0
  where
    past : (xs : List ℕ) → slice_get xs 0 ≡ None → length xs ≡ 0
    past [] is = refl
    past (x ∷ xs) is = cc

    by : Leads (function_flow (view_of f)) (at b 0) q → ⊥
    by (inl next) =
        let here : (function_flow (view_of f)).size q.block ≡ length (insts_of f b) = ap (λ c. (function_flow (view_of f)).size c) next.0 ∙ size_is f b in
        let empty = past (insts_of f b) none in let one = next.1 in let below = next.2 in omega (arith, here, empty, one, below)
    by (inr enters) = absurd (omega (arith, (subst (λ (o : Option Placed). Contains (placed_targets o) q.block) (placed_none f b 0 none) enters.0).1))

-- and where something is live
front_inside : (f : Body) (v b : ℕ) → IsLiveBefore every_argument (view_of f) (at b 0) v → 0 < length (insts_of f b)
front_inside f v b live = by (slice_get (insts_of f b) 0) refl live
  where
    by : (o : Option ℕ) → slice_get (insts_of f b) 0 ≡ o → IsLiveBefore every_argument (view_of f) (at b 0) v → 0 < length (insts_of f b)
    by (Some inst) is live = slice_get_within (insts_of f b) 0 inst is
    by None is (inl used) = absurd (omega (arith, (subst (λ (o : Option Placed). Contains (used_operands (view_of f).resolved o) v) (placed_none f b 0 is) used).1))
    by None is (inr across) = absurd (ahead_inside f v b across.1 across.2 is)

-- what is live at a front is no alias
front_unaliased : (f : Body) → IsConsistent f → (v b : ℕ) → IsLiveBefore every_argument (view_of f) (at b 0) v → (view_of f).resolved v ≡ v
front_unaliased f kept v b (inl used) = used_unaliased f kept v b 0 used
front_unaliased f kept v b (inr across) = ahead_unaliased f kept v across.1 (at b 0) across.2

-- THE EQUATIONS AND PATHS -----------------------------------------------------------------------------------------------

live_before : (f : Body) (v b : ℕ) (path : List (Place ℕ)) → IsLiveAt f v (at b 0) path → IsLiveBefore every_argument (view_of f) (at b 0) v
live_before f v b path (inl used) = inl used
live_before f v b path (inr later) = inr (later.0, path, later.1)

-- the path is the one of what is live across the first instruction, if it isn't used there
live_from : (f : Body) (live_at : ℕ → Bool) (v : ℕ) → IsSettled f v live_at → (b : ℕ) → IsReached (view_of f) b → IsLiveBefore every_argument (view_of f) (at b 0) v
    → is_live_before f live_at v (insts_of f b) ≡ true
live_from f live_at v settled b reached live = by live
  where
    inside : 0 < length (insts_of f b)
    inside = front_inside f v b live

    by : IsLiveBefore every_argument (view_of f) (at b 0) v → is_live_before f live_at v (insts_of f b) ≡ true
    by (inl used) = there f live_at v [] (across_from f live_at v settled []) b 0 reached inside (inl used)
    by (inr across) = there f live_at v across.1 (across_from f live_at v settled across.1) b 0 reached inside (inr (across.0, across.2))

-- LISTS -----------------------------------------------------------------------------------------------------------------

-- all that is known of the blocks and their sets
pub record AreSolved (f : Body) (recorded order : List ℕ) (sets : List (List Bool)) (handled : ℕ) : Type 0 where
  pub kept : IsConsistent f
  pub finished : IsFinished f recorded order sets handled
  pub reached : (b : ℕ) → Contains order b → IsReached (view_of f) b
  pub all : (b : ℕ) → IsReached (view_of f) b → Contains order b

-- whether a block is of the order
member_or_not : (order : List ℕ) (b : ℕ) → Contains order b ⊎ (Contains order b → ⊥)
member_or_not order b = by (stands_in b order) refl
  where
    by : (c : Bool) → stands_in b order ≡ c → Contains order b ⊎ (Contains order b → ⊥)
    by true is = inl (stands_to b order is)
    by false is = inr (λ h. let both : true ≡ false = sym (stands_from b order h) ∙ is in cc)

after_test : (f : Body) (recorded order : List ℕ) (sets : List (List Bool)) (handled : ℕ) → AreSolved f recorded order sets handled → (b k : ℕ) → Contains order b → k < length recorded
    → is_live_before f (in_set_of sets k) (slice_index recorded k) (insts_of f b) ≡ true → IsTracedAfterParams f recorded b (slice_index recorded k)
after_test f recorded order sets handled solved b k member inside live = record {
  reached = solved.reached b member;
  member = Contains-get_or recorded k 0 inside;
  unaliased = front_unaliased f solved.kept (slice_index recorded k) b front;
  live = front;
}
  where
    path : (0 < length (insts_of f b)) × (path : List (Place ℕ)) × IsLiveAt f (slice_index recorded k) (at b 0) path
    path = before_to f (in_set_of sets k) (slice_index recorded k) b (λ t in_set. solved.finished.sound k t inside in_set) (insts_of f b) 0 refl live

    front : IsLiveBefore every_argument (view_of f) (at b 0) (slice_index recorded k)
    front = live_before f (slice_index recorded k) b path.1 path.2

test_after : (f : Body) (recorded order : List ℕ) (sets : List (List Bool)) (handled : ℕ) → AreSolved f recorded order sets handled → (b v : ℕ) → IsTracedAfterParams f recorded b v
    → (k : ℕ) × (k < length recorded) × (slice_index recorded k ≡ v) × (is_live_before f (in_set_of sets k) (slice_index recorded k) (insts_of f b) ≡ true)
test_after f recorded order sets handled solved b v h =
    let is : slice_index recorded h.member.0 ≡ v = get_or_default recorded h.member.0 0 v h.member.1 ∙ h.member.2 in (
      h.member.0,
      h.member.1,
      is,
      live_from f (in_set_of sets h.member.0) (slice_index recorded h.member.0)
          (λ t r l. solved.finished.settled t (solved.all t r) h.member.0 h.member.1 l) b h.reached
          (subst (λ x. IsLiveBefore every_argument (view_of f) (at b 0) x) (sym is) h.live),
    )

-- a table that has a row for each block of the order
exact_rows : (f : Body) (recorded order : List ℕ) (test : ℕ → ℕ → Bool) (rows : List (List ℕ)) (IsTraced : ℕ → ℕ → Type 0) → AreRowsOf recorded test (length f.blocks) order rows
    → ((b v : ℕ) → IsTraced b v → Contains order b)
    → ((b k : ℕ) → Contains order b → k < length recorded → test b k ≡ true → IsTraced b (slice_index recorded k))
    → ((b v : ℕ) → Contains order b → IsTraced b v → (k : ℕ) × (k < length recorded) × (slice_index recorded k ≡ v) × (test b k ≡ true))
    → (b : ℕ) → IsExactList (IsTraced b) (row_at rows b)
exact_rows f recorded order test rows IsTraced table only traced listed b = by (member_or_not order b)
  where
    by : Contains order b ⊎ (Contains order b → ⊥) → IsExactList (IsTraced b) (row_at rows b)
    by (inl member) = record {
      rising = (table.each b member).rising;
      members = λ v. (
        λ h. (let from = ((table.each b member).members v).0 h in subst (λ x. IsTraced b x) from.2 (traced b from.0 member from.1 from.3)),
        λ h. ((table.each b member).members v).1 (listed b v member h),
      );
    }
    by (inr away) = subst (λ row. IsExactList (IsTraced b) row) (sym (table.none b away)) (record {
      rising = λ k inside. absurd (omega (arith, inside));
      members = λ v. (λ h. absurd (omega (arith, h.1)), λ h. absurd (away (only b v h)));
    })

pub exact_after : (f : Body) (recorded order : List ℕ) (sets : List (List Bool)) (handled : ℕ) (tables : FrontTables) → AreSolved f recorded order sets handled
    → AreFronts f recorded sets order tables → (b : ℕ) → IsExactList (IsTracedAfterParams f recorded b) (row_at tables.after_params b)
exact_after f recorded order sets handled tables solved fronts =
    exact_rows f recorded order (λ b k. is_live_before f (in_set_of sets k) (slice_index recorded k) (insts_of f b)) tables.after_params (IsTracedAfterParams f recorded)
    fronts.after_params (λ b v h. solved.all b h.reached) (λ b k member inside live. after_test f recorded order sets handled solved b k member inside live)
    (λ b v member h. test_after f recorded order sets handled solved b v h)

pub exact_in : (f : Body) (recorded order : List ℕ) (sets : List (List Bool)) (handled : ℕ) (tables : FrontTables) → AreSolved f recorded order sets handled
    → AreFronts f recorded sets order tables → (b : ℕ) → IsExactList (IsTracedIn f recorded b) (row_at tables.live_in b)
exact_in f recorded order sets handled tables solved fronts =
    exact_rows f recorded order (λ b k. is_live_in f (in_set_of sets k) b (slice_index recorded k)) tables.live_in (IsTracedIn f recorded) fronts.live_in
    (λ b v h. solved.all b h.0.reached) (λ b k member inside live. traced b k member inside live) (λ b v member h. listed b v h)
  where
    traced : (b k : ℕ) → Contains order b → k < length recorded → is_live_in f (in_set_of sets k) b (slice_index recorded k) ≡ true → IsTracedIn f recorded b (slice_index recorded k)
    traced b k member inside live =
        let parts = and_cases (not (stands_in (slice_index recorded k) (block_at f b).params)) (is_live_before f (in_set_of sets k) (slice_index recorded k) (insts_of f b)) live in (
          after_test f recorded order sets handled solved b k member inside parts.1,
          λ h. not_cases (stands_in (slice_index recorded k) (block_at f b).params) parts.0 (stands_from (slice_index recorded k) (block_at f b).params h),
        )

    listed : (b v : ℕ) → IsTracedIn f recorded b v
        → (k : ℕ) × (k < length recorded) × (slice_index recorded k ≡ v) × (is_live_in f (in_set_of sets k) b (slice_index recorded k) ≡ true)
    listed b v h =
        let from = test_after f recorded order sets handled solved b v h.0 in (
          from.0,
          from.1,
          from.2,
          and_both (not (stands_in (slice_index recorded from.0) (block_at f b).params)) (is_live_before f (in_set_of sets from.0) (slice_index recorded from.0) (insts_of f b))
              (not_true (stands_in (slice_index recorded from.0) (block_at f b).params)
              (λ m. h.1 (subst (λ x. Contains (block_at f b).params x) from.2 (stands_to (slice_index recorded from.0) (block_at f b).params m)))) from.3,
        )
