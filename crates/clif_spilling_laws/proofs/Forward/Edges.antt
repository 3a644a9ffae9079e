-- Edges: what they pass has the same bits in both runs, where it counts as a use; straight, or through a landing block.
use Rattle.std.proofs.Common.{◌≡◌, ◌⊎◌, ◌<◌, ◌+◌, inl, inr, ℕ, zero, suc, Bool, true, false, List, [], ◌∷◌, length, map, refl, sym, ap, subst, ◌∙◌, arith, Option, Some, None}
use Rattle.std.specs.Prelude.{Contains, slice_get, slice_index, if◌then◌else◌}
use Rattle.std.specs.List.{AllByRecursion}
use Rattle.std.proofs.lemmas.Bool.{eqb-true, eq-eqb}
use Rattle.std.proofs.lemmas.List.{length-map}
use Rattle.clif_types.specs.declared.types.«Type».{«Type»}
use Rattle.clif_meaning.specs.Bits.{Bits}
use Rattle.clif_tables.specs.Callees.{types_of}
use Rattle.clif_meaning.specs.Event.{CallShape, payload_types}
use Rattle.clif_meaning.specs.FunctionMachine.{same_value}
use Rattle.clif_meaning.specs.FunctionView.{FunctionView, Placed}
use Rattle.clif_meaning.specs.Instruction.{Argument, Known, CallResult, CallPayload, Edge}
use Rattle.clif_meaning.specs.Path.{Leads, Place}
use Rattle.clif_meaning.specs.Store.{argument_bits, assigned}
use Rattle.clif_meaning.specs.Typing.{EachEdgeMatches, EdgeMatches, argument_type, value_types_at}
use Rattle.clif_meaning.specs.WellPlaced.{function_flow, placed_at, placed_targets}
use Rattle.clif_safepoints.specs.Liveness.{IsPassed, IsUsedAhead, used_operands}
use Rattle.clif_spilling_laws.specs.Live.{IsLiveBefore, counted, place_at}
use Rattle.clif_spilling_laws.specs.Rewriting.{AreArguments, AreFresh, AreLanded, IsPassedOn, IsRead, own_arguments}
use Rattle.clif_spilling_laws.specs.Spilling.{Reload, Spilling}
use Rattle.clif_spilling_laws.proofs.Basics.Lists.{contains_cases, contains_first, contains_more, contains_none, true_false}

-- MATCHING EDGES --------------------------------------------------------------------------------------------------------

pub member_holds : {X : Type 0} (P : X → Type 0) (xs : List X) (x : X) → AllByRecursion P xs → Contains xs x → P x
member_holds P [] x all h = absurd (contains_none x h)
member_holds {X} P (y ∷ xs) x all h = by (contains_cases y x xs h) (λ more. member_holds P xs x all.1 more)
  where
    by : (y ≡ x) ⊎ Contains xs x → (Contains xs x → P x) → P x
    by (inl same) later = subst P same all.0
    by (inr more) later = later more

-- as many arguments as parameters
as_many : (function : FunctionView) (results payload : List «Type») (edge : Edge ℕ ℕ)
    → EdgeMatches function.value_type (value_types_at function) results payload edge
    → length (function.blocks edge.target).parameters ≡ length edge.arguments
as_many function results payload edge match =
    sym (length-map (function.blocks edge.target).parameters function.value_type)
    ∙ sym (length-map (value_types_at function edge.target) (λ (ty : «Type»). Some ty))
    ∙ ap (λ (xs : List (Option «Type»)). length xs) (sym match)
    ∙ length-map edge.arguments (argument_type function.value_type results payload)

pub edge_as_many : (function : FunctionView) (made : Option CallShape) (edges : List (Edge ℕ ℕ)) (edge : Edge ℕ ℕ)
    → EachEdgeMatches function.value_type (value_types_at function) made edges → Contains edges edge
    → length (function.blocks edge.target).parameters ≡ length edge.arguments
edge_as_many function None edges edge match h =
    as_many function [] [] edge (member_holds (EdgeMatches function.value_type (value_types_at function) [] []) edges edge match h)
edge_as_many function (Some call) [] edge match h = absurd (contains_none edge h)
edge_as_many function (Some call) (normal ∷ items) edge match h = by (contains_cases normal edge items h)
  where
    by : (normal ≡ edge) ⊎ Contains items edge → length (function.blocks edge.target).parameters ≡ length edge.arguments
    by (inl same) =
        subst (λ (e : Edge ℕ ℕ). length (function.blocks e.target).parameters ≡ length e.arguments) same
        (as_many function (types_of call.signature.returns) [] normal match.0)
    by (inr more) =
        as_many function [] payload_types edge
        (member_holds (EdgeMatches function.value_type (value_types_at function) [] payload_types) items edge match.1 more)

-- what is live at the front of a block shows that it has instructions
pub front_filled : (counts : ℕ → ℕ → Bool) (function : FunctionView) (b v : ℕ) → IsLiveBefore counts function (place_at b 0) v
    → 0 < length (function.blocks b).items
front_filled counts function b v live = by (function.blocks b).items refl
  where
    by : (xs : List Placed) → (function.blocks b).items ≡ xs → 0 < length xs
    by (x ∷ xs) is = omega arith
    by [] is = absurd (nothing live)
      where
        none : placed_at function (place_at b 0) ≡ None
        none = ap (λ (xs : List Placed). slice_get xs 0) is

        ahead : (path : List (Place ℕ)) → IsUsedAhead (counted counts) function v (place_at b 0) path → ⊥
        ahead [] passed = let no_way : IsPassed (counted counts) function.resolved v None = subst (λ o. IsPassed (counted counts) function.resolved v o) none passed in no_way
        ahead (q ∷ path) used = leads used.0
          where
            leads : Leads (function_flow function) (place_at b 0) q → ⊥
            leads (inl next) =
                let inside : q.index < length (function.blocks b).items = subst (λ (d : ℕ). q.index < length (function.blocks d).items) next.0 next.2 in
                let empty : q.index < 0 = subst (λ (xs : List Placed). q.index < length xs) is inside in
                absurd (omega (arith, empty))
            leads (inr edge) = contains_none q.block (subst (λ o. Contains (placed_targets o) q.block) none edge.0)

        nothing : IsLiveBefore counts function (place_at b 0) v → ⊥
        nothing (inl used) = contains_none v (subst (λ o. Contains (used_operands function.resolved o) v) none used)
        nothing (inr across) = ahead across.1 across.2

-- the first of several places that are assigned gets the first bits
assigned_first : (param : ℕ) (params : List ℕ) (x : Bits) (bits : List Bits) (base : ℕ → Bits)
    → assigned same_value (param ∷ params) (x ∷ bits) base param ≡ x
assigned_first param params x bits base = let e : same_value param param ≡ true = eq-eqb param param refl in rw e refl

-- BITS OF ARGUMENTS -----------------------------------------------------------------------------------------------------

module _ (counts : ℕ → ℕ → Bool) (s : Spilling) (reloads : List Reload) (target : ℕ) (given given' : List Bits) (f g : ℕ → Bits) where
  abbrev old_bits : List (Argument ℕ) → List Bits
  old_bits arguments = map (argument_bits f given) arguments

  abbrev new_bits : List (Argument ℕ) → List Bits
  new_bits arguments = map (argument_bits g given') arguments

  -- operands that are read, among these arguments, have the same bits
  abbrev pub ReadAlike : ℕ → List (Argument ℕ) → Type 0
  ReadAlike place olds =
      (j old new : ℕ) → slice_get olds j ≡ Some (Known old) → counts target (place + j) ≡ true → IsRead s reloads old new → g new ≡ f old

  further : (place : ℕ) (x : Argument ℕ) (olds : List (Argument ℕ)) → ReadAlike place (x ∷ olds) → ReadAlike (suc place) olds
  further place x olds alike j old new there counts_so read =
      alike (suc j) old new there (subst (λ (n : ℕ). counts target n ≡ true) (one_on place j) counts_so) read
    where
      one_on : (p j : ℕ) → suc p + j ≡ p + suc j
      one_on p j = omega arith

  counted_on : (place k : ℕ) → counts target (place + suc k) ≡ true → counts target (suc place + k) ≡ true
  counted_on place k is = subst (λ (n : ℕ). counts target n ≡ true) (one_on place k) is
    where
      one_on : (p j : ℕ) → p + suc j ≡ suc p + j
      one_on p j = omega arith

  at_first : (place : ℕ) → counts target (place + 0) ≡ true → counts target place ≡ true
  at_first place is = subst (λ (n : ℕ). counts target n ≡ true) (plus_zero place) is
    where
      plus_zero : (p : ℕ) → p + 0 ≡ p
      plus_zero p = omega arith

  passed_on : (place old new : ℕ) (olds : List (Argument ℕ)) → ReadAlike place (Known old ∷ olds) → counts target (place + 0) ≡ true
      → IsPassedOn counts s reloads target place old new → g new ≡ f old
  passed_on place old new olds alike counts_so (inl read) = alike 0 old new refl counts_so read
  passed_on place old new olds alike counts_so (inr left) = true_false (counts target place) (at_first place counts_so) left.0

  some_same : (x y : Bits) → x ≡ y → ◌≡◌ {A = Option Bits} (Some x) (Some y)
  some_same x y same = ap (λ (z : Bits). Some z) same

  pub straight_alike : given' ≡ given → (place : ℕ) (olds news : List (Argument ℕ)) → AreArguments counts s reloads target place olds news → ReadAlike place olds
      → (k : ℕ) → counts target (place + k) ≡ true → slice_get (new_bits news) k ≡ slice_get (old_bits olds) k
  straight_alike equal place [] [] are alike k counts_so = refl
  straight_alike equal place [] (new ∷ news) are alike k counts_so = absurd are
  straight_alike equal place (old ∷ olds) [] are alike k counts_so = absurd are
  straight_alike equal place (Known old ∷ olds) (Known new ∷ news) are alike zero counts_so =
      some_same (g new) (f old) (passed_on place old new olds alike counts_so are.0)
  straight_alike equal place (CallResult i ∷ olds) (CallResult j ∷ news) are alike zero counts_so = λ k. Some (slice_index (equal k) (sym are.0 k))
  straight_alike equal place (CallPayload i ∷ olds) (CallPayload j ∷ news) are alike zero counts_so = λ k. Some (slice_index (equal k) (sym are.0 k))
  straight_alike equal place (Known old ∷ olds) (CallResult j ∷ news) are alike zero counts_so = absurd are.0
  straight_alike equal place (Known old ∷ olds) (CallPayload j ∷ news) are alike zero counts_so = absurd are.0
  straight_alike equal place (CallResult i ∷ olds) (Known new ∷ news) are alike zero counts_so = absurd are.0
  straight_alike equal place (CallResult i ∷ olds) (CallPayload j ∷ news) are alike zero counts_so = absurd are.0
  straight_alike equal place (CallPayload i ∷ olds) (Known new ∷ news) are alike zero counts_so = absurd are.0
  straight_alike equal place (CallPayload i ∷ olds) (CallResult j ∷ news) are alike zero counts_so = absurd are.0
  straight_alike equal place (old ∷ olds) (new ∷ news) are alike (suc k) counts_so =
      straight_alike equal (suc place) olds news are.1 (further place old olds alike) k (counted_on place k counts_so)

  pub straight_long : (place : ℕ) (olds news : List (Argument ℕ)) → AreArguments counts s reloads target place olds news → length news ≡ length olds
  straight_long place [] [] are = refl
  straight_long place [] (new ∷ news) are = absurd are
  straight_long place (old ∷ olds) [] are = absurd are
  straight_long place (old ∷ olds) (new ∷ news) are = ap suc (straight_long (suc place) olds news are.1)

  -- the parameters of a landing block hold what the call gives itself
  abbrev pub OwnHeld : List (Argument ℕ) → List ℕ → Type 0
  OwnHeld [] params = Unit {0}
  OwnHeld (Known old ∷ olds) params = OwnHeld olds params
  OwnHeld (CallResult i ∷ olds) [] = Unit {0}
  OwnHeld (CallResult i ∷ olds) (param ∷ params) = (g param ≡ slice_index given i) × OwnHeld olds params
  OwnHeld (CallPayload i ∷ olds) [] = Unit {0}
  OwnHeld (CallPayload i ∷ olds) (param ∷ params) = (g param ≡ slice_index given i) × OwnHeld olds params

  pub landed_alike : (place : ℕ) (olds : List (Argument ℕ)) (params : List ℕ) (news : List (Argument ℕ))
      → AreLanded counts s reloads target place olds params news → ReadAlike place olds → OwnHeld olds params
      → (k : ℕ) → counts target (place + k) ≡ true → slice_get (new_bits news) k ≡ slice_get (old_bits olds) k
  landed_alike place [] params news are alike own k counts_so = ap (λ (xs : List (Argument ℕ)). slice_get (new_bits xs) k) are
  landed_alike place (Known old ∷ olds) params [] are alike own k counts_so = absurd are
  landed_alike place (Known old ∷ olds) params (CallResult j ∷ news) are alike own k counts_so = absurd are
  landed_alike place (Known old ∷ olds) params (CallPayload j ∷ news) are alike own k counts_so = absurd are
  landed_alike place (Known old ∷ olds) params (Known new ∷ news) are alike own zero counts_so =
      some_same (g new) (f old) (passed_on place old new olds alike counts_so are.0)
  landed_alike place (Known old ∷ olds) params (Known new ∷ news) are alike own (suc k) counts_so =
      landed_alike (suc place) olds params news are.1 (further place (Known old) olds alike) own k (counted_on place k counts_so)
  landed_alike place (CallResult i ∷ olds) [] news are alike own k counts_so = absurd are
  landed_alike place (CallResult i ∷ olds) (param ∷ params) [] are alike own k counts_so = absurd are
  landed_alike place (CallResult i ∷ olds) (param ∷ params) (CallResult j ∷ news) are alike own k counts_so = absurd are
  landed_alike place (CallResult i ∷ olds) (param ∷ params) (CallPayload j ∷ news) are alike own k counts_so = absurd are
  landed_alike place (CallResult i ∷ olds) (param ∷ params) (Known new ∷ news) are alike own zero counts_so =
      some_same (g new) (slice_index given i) (ap g are.0 ∙ own.0)
  landed_alike place (CallResult i ∷ olds) (param ∷ params) (Known new ∷ news) are alike own (suc k) counts_so =
      landed_alike (suc place) olds params news are.1 (further place (CallResult i) olds alike) own.1 k (counted_on place k counts_so)
  landed_alike place (CallPayload i ∷ olds) [] news are alike own k counts_so = absurd are
  landed_alike place (CallPayload i ∷ olds) (param ∷ params) [] are alike own k counts_so = absurd are
  landed_alike place (CallPayload i ∷ olds) (param ∷ params) (CallResult j ∷ news) are alike own k counts_so = absurd are
  landed_alike place (CallPayload i ∷ olds) (param ∷ params) (CallPayload j ∷ news) are alike own k counts_so = absurd are
  landed_alike place (CallPayload i ∷ olds) (param ∷ params) (Known new ∷ news) are alike own zero counts_so =
      some_same (g new) (slice_index given i) (ap g are.0 ∙ own.0)
  landed_alike place (CallPayload i ∷ olds) (param ∷ params) (Known new ∷ news) are alike own (suc k) counts_so =
      landed_alike (suc place) olds params news are.1 (further place (CallPayload i) olds alike) own.1 k (counted_on place k counts_so)

  pub landed_long : (place : ℕ) (olds : List (Argument ℕ)) (params : List ℕ) (news : List (Argument ℕ))
      → AreLanded counts s reloads target place olds params news → length news ≡ length olds
  landed_long place [] params news are = ap (λ (xs : List (Argument ℕ)). length xs) are
  landed_long place (Known old ∷ olds) params [] are = absurd are
  landed_long place (Known old ∷ olds) params (CallResult j ∷ news) are = absurd are
  landed_long place (Known old ∷ olds) params (CallPayload j ∷ news) are = absurd are
  landed_long place (Known old ∷ olds) params (Known new ∷ news) are = ap suc (landed_long (suc place) olds params news are.1)
  landed_long place (CallResult i ∷ olds) [] news are = absurd are
  landed_long place (CallResult i ∷ olds) (param ∷ params) [] are = absurd are
  landed_long place (CallResult i ∷ olds) (param ∷ params) (CallResult j ∷ news) are = absurd are
  landed_long place (CallResult i ∷ olds) (param ∷ params) (CallPayload j ∷ news) are = absurd are
  landed_long place (CallResult i ∷ olds) (param ∷ params) (Known new ∷ news) are = ap suc (landed_long (suc place) olds params news are.1)
  landed_long place (CallPayload i ∷ olds) [] news are = absurd are
  landed_long place (CallPayload i ∷ olds) (param ∷ params) [] are = absurd are
  landed_long place (CallPayload i ∷ olds) (param ∷ params) (CallResult j ∷ news) are = absurd are
  landed_long place (CallPayload i ∷ olds) (param ∷ params) (CallPayload j ∷ news) are = absurd are
  landed_long place (CallPayload i ∷ olds) (param ∷ params) (Known new ∷ news) are = ap suc (landed_long (suc place) olds params news are.1)

  -- the first of several places that are assigned doesn't touch the others
  assigned_later : (param : ℕ) (params : List ℕ) (x : Bits) (bits : List Bits) (base : ℕ → Bits) (v : ℕ) → (Contains params param → ⊥) → Contains params v
      → assigned same_value (param ∷ params) (x ∷ bits) base v ≡ assigned same_value params bits base v
  assigned_later param params x bits base v once h = by (same_value v param) refl
    where
      by : (c : Bool) → same_value v param ≡ c
          → (if c then x else assigned same_value params bits base v) ≡ assigned same_value params bits base v
      by true is = absurd (once (subst (λ (w : ℕ). Contains params w) (eqb-true v param is) h))
      by false is = refl

  -- how many parameters the landing block needs, it has
  abbrev pub HasOwn : List (Argument ℕ) → List ℕ → Type 0
  HasOwn olds params = (base : ℕ → Bits) → ((v : ℕ) → Contains params v → g v ≡ assigned same_value params (map (argument_bits f given) (own_arguments olds)) base v) → OwnHeld olds params

  pub own_held : (fresh_reloads : List Reload) (olds : List (Argument ℕ)) (params : List ℕ) → AreFresh s fresh_reloads params → HasOwn olds params
  own_held fresh_reloads [] params fresh base holds = tt
  own_held fresh_reloads (Known old ∷ olds) params fresh base holds = own_held fresh_reloads olds params fresh base holds
  own_held fresh_reloads (CallResult i ∷ olds) [] fresh base holds = tt
  own_held fresh_reloads (CallResult i ∷ olds) (param ∷ params) fresh base holds = (
    holds param (contains_first param params) ∙ assigned_first param params (slice_index given i) (map (argument_bits f given) (own_arguments olds)) base,
    own_held fresh_reloads olds params fresh.1 base (λ v h.
        holds v (contains_more param v params h)
        ∙ assigned_later param params (slice_index given i) (map (argument_bits f given) (own_arguments olds)) base v fresh.0.2 h),
  )
  own_held fresh_reloads (CallPayload i ∷ olds) [] fresh base holds = tt
  own_held fresh_reloads (CallPayload i ∷ olds) (param ∷ params) fresh base holds = (
    holds param (contains_first param params) ∙ assigned_first param params (slice_index given i) (map (argument_bits f given) (own_arguments olds)) base,
    own_held fresh_reloads olds params fresh.1 base (λ v h.
        holds v (contains_more param v params h)
        ∙ assigned_later param params (slice_index given i) (map (argument_bits f given) (own_arguments olds)) base v fresh.0.2 h),
  )
