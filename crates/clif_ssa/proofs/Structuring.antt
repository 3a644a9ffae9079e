-- The structure that the construction keeps: what is kept as a function grows, and as records are written.
use Rattle.std.proofs.Common.{◌≡◌, ◌≢◌, ℕ, ◌<◌, ◌≤◌, ◌==◌, ◌&&◌, Bool, true, false, List, [], ◌∷◌, ◌++◌, length, map, refl, ap, arith, sym, ◌∙◌, subst, ◌⊎◌, inl, inr}
use Rattle.std.specs.Prelude.{Option, Some, None, Contains, slice_get, slice_index, if◌then◌else◌}
use Rattle.std.proofs.lemmas.Grind.{common_steps}
use Rattle.std.proofs.lemmas.List.Elements.{Contains-append_left, Contains-append_right}
use Rattle.clif_types.specs.declared.types.«Type».{«Type»}
use Rattle.clif_ir.specs.Body.{Body, value_at, inst_at, block_at}
use Rattle.clif_instructions.specs.Members.{Once}
use Rattle.clif_instructions.specs.Instruction.{destinations}
use Rattle.clif_ir.specs.Reading.{param_home}
use Rattle.clif_instructions.specs.Edges.{targets}
use Rattle.clif_instructions.specs.declared.block_call.BlockArg.{BlockArg}
use Rattle.clif_nodes.specs.declared.nodes.InstNode.{InstNode}
use Rattle.clif_ssa.specs.Own.{Own}
use Rattle.clif_records.specs.declared.tables.Pending.{Pending}
use Rattle.clif_records.specs.Tables.{No, Sealed, Yes, is_yes, pending_of}
use Rattle.clif_ssa.specs.Ssa.{SsaState, record_of, sealed_of, predecessors_of, SameBlocks, SamePredecessors}
use Rattle.clif_ssa.specs.Sound.{is_some_block, edges_at, edge_target, args_of}
use Rattle.clif_ssa.specs.Structured.{VariableTypes, HasType, AreFor, EdgePasses, HasParameters, Structured, waiting_of, waiting_in}
use Rattle.clif_ssa.proofs.Bodies.{Firm}
use Rattle.clif_ssa.proofs.Ordering.{contains_first, contains_more, parameters_same, entry_any}
use Rattle.clif_ssa.proofs.NeededZeros.{Longer}

-- TYPES -----------------------------------------------------------------------------------------------------------

-- the second function has the values of the first, and maybe more
pub record Grows (f g : Body) : Type 0 where
  pub more : length f.values ≤ length g.values
  pub types : (v : ℕ) → v < length f.values → (value_at g v).ty ≡ (value_at f v).ty

pub grows_longer : (f g : Body) → Longer f g → Grows f g
grows_longer f g longer = record { more = longer.values_more; types = longer.types_same }

pub grows_itself : (f : Body) → Grows f f
grows_itself f = record { more = omega arith; types = λ v here. refl }

pub typed_kept : (f g : Body) (v : ℕ) (ty : «Type») → Grows f g → HasType f v ty → HasType g v ty
typed_kept f g v ty grows has = (omega (arith, has.0, grows.more), grows.types v has.0 ∙ has.1)

pub are_for_kept : (f g : Body) (values params : List ℕ) → Grows f g → ((p : ℕ) → Contains params p → p < length f.values) → AreFor f values params → AreFor g values params
are_for_kept f g [] [] grows exist are = tt
are_for_kept f g [] (p ∷ params) grows exist are = absurd are
are_for_kept f g (v ∷ values) [] grows exist are = absurd are
are_for_kept f g (v ∷ values) (p ∷ params) grows exist are = (
  subst (λ ty. HasType g v ty) (sym (grows.types p (exist p (contains_first p params)))) (typed_kept f g v (value_at f p).ty grows are.0),
  are_for_kept f g values params grows (λ q here. exist q (contains_more p params q here)) are.1,
)

pub edge_kept : (f g : Body) (made : List BlockArg) (params : List ℕ) (args : List BlockArg) → Grows f g → ((p : ℕ) → Contains params p → p < length f.values)
    → EdgePasses f made params args → EdgePasses g made params args
edge_kept f g made params args grows exist passes = record {
  values = passes.values;
  in_order = passes.in_order;
  are_for = are_for_kept f g passes.values params grows exist passes.are_for;
}

-- a parameter of a block exists
pub stands_exist : (f : Body) (b p : ℕ) → Firm f → Contains (block_at f b).params p → p < length f.values
stands_exist f b p firm here =
    let at : slice_index (block_at f b).params here.0 ≡ p = entry_any (block_at f b).params here.0 0 p here.1 ∙ here.2 in
    omega (arith, firm.params_exist b here.0 here.1, at)

pub complete_among : (own : Own) (f : Body) (s : SsaState) (ps : List Pending) (b : ℕ) (has : HasParameters own f s ps b)
    → (p : ℕ) → Contains has.complete p → Contains (block_at f b).params p
complete_among own f s ps b has p here =
    subst (λ xs. Contains xs p) (sym has.in_order) (Contains-append_right (own.params b) _ p (Contains-append_left has.complete _ p here))

pub complete_exist : (own : Own) (f : Body) (s : SsaState) (ps : List Pending) (b : ℕ) → Firm f → (has : HasParameters own f s ps b)
    → (p : ℕ) → Contains has.complete p → p < length f.values
complete_exist own f s ps b firm has p here = stands_exist f b p firm (complete_among own f s ps b has p here)

-- what an edge to a block passes for parameters of the block, it goes on passing
abbrev pub EdgesKeep : Body → Body → ℕ → Type 0
EdgesKeep f g b = (made : List BlockArg) (params : List ℕ) (args : List BlockArg) → ((p : ℕ) → Contains params p → Contains (block_at f b).params p)
    → EdgePasses f made params args → EdgePasses g made params args

pub edges_keep : (f g : Body) (b : ℕ) → Grows f g → Firm f → EdgesKeep f g b
edges_keep f g b grows firm made params args among passes = edge_kept f g made params args grows (λ p here. stands_exist f b p firm (among p here)) passes

pub edges_keep_itself : (f : Body) (b : ℕ) → EdgesKeep f f b
edges_keep_itself f b made params args among passes = passes

-- BLOCKS ----------------------------------------------------------------------------------------------------------

pub sealed_yes : (entry : Sealed) → is_yes entry ≡ true → entry ≡ Yes
sealed_yes (No pending) is = absurd (off is)
  where
    off : ◌≡◌ {A = Bool} false true → ⊥
    off same = cc
sealed_yes Yes is = refl

pub sealed_no : (entry : Sealed) → is_yes entry ≡ false → entry ≡ No (pending_of entry)
sealed_no (No pending) is = refl
sealed_no Yes is = absurd (off is)
  where
    off : ◌≡◌ {A = Bool} true false → ⊥
    off same = cc

-- what waits stays the same where the homes of what is completed do
pub waiting_homes : (f g : Body) (entry : Sealed) (ps : List Pending) (b : ℕ) → ((q : Pending) → Contains ps q → param_home g q.param ≡ param_home f q.param)
    → waiting_of g entry ps b ≡ waiting_of f entry ps b
waiting_homes f g (No pending) ps b same = refl
waiting_homes f g Yes ps b same = parameters_same f g b ps (λ q here. ap (is_some_block b) (same q here))

-- an edge to the block is as it was
abbrev pub SameEdge : Body → Body → ℕ → ℕ → ℕ → Type 0
SameEdge f g b i k = edge_target g i k ≡ Some b → (edge_target f i k ≡ Some b) × (args_of (slice_get (edges_at g i) k) ≡ args_of (slice_get (edges_at f i) k))

pub same_edge : (f g : Body) (b i k : ℕ) → inst_at g i ≡ inst_at f i → SameEdge f g b i k
same_edge f g b i k same leads = (
  sym (ap (λ (n : InstNode). slice_get (targets (destinations n.shape)) k) same) ∙ leads,
  ap (λ (n : InstNode). args_of (slice_get (destinations n.shape) k)) same,
)

-- what a block keeps where its parameters and its edges stay
pub block_kept : (own : Own) (f g : Body) (s t : SsaState) (ps qs : List Pending) (b : ℕ) → EdgesKeep f g b
    → (block_at g b).params ≡ (block_at f b).params → waiting_in g t qs b ≡ waiting_in f s ps b → (is_yes (sealed_of s b) ≡ true → is_yes (sealed_of t b) ≡ true)
    → predecessors_of t b ≡ predecessors_of s b → ((i k : ℕ) → Contains (predecessors_of s b) i → SameEdge f g b i k)
    → HasParameters own f s ps b → HasParameters own g t qs b
block_kept own f g s t ps qs b keep same_params same_waiting flag same_before same_edges has = record {
  complete = has.complete;
  in_order = same_params ∙ has.in_order ∙ ap (λ (ws : List Pending). own.params b ++ (has.complete ++ map (λ (p : Pending). p.param) ws)) (sym same_waiting);
  several = λ some. (flag (has.several some).0, subst (λ xs. 2 ≤ length xs) (sym same_before) (has.several some).1);
  edges = λ i k here leads.
      let old : Contains (predecessors_of s b) i = subst (λ xs. Contains xs i) same_before here in
      let edge : (edge_target f i k ≡ Some b) × (args_of (slice_get (edges_at g i) k) ≡ args_of (slice_get (edges_at f i) k)) = same_edges i k old leads in
      subst (λ args. EdgePasses g (own.passed i k) has.complete args) (sym edge.1)
      (keep (own.passed i k) has.complete (args_of (slice_get (edges_at f i) k)) (complete_among own f s ps b has) (has.edges i k old edge.0));
}

-- RECORDS ---------------------------------------------------------------------------------------------------------

-- a value is recorded for the variable in some blocks, and each other record is as it was
pub record Writes (s t : SsaState) (x v : ℕ) : Type 0 where
  pub old_or_new : (y b w : ℕ) → record_of t y b ≡ Some w → (record_of s y b ≡ Some w) ⊎ ((y ≡ x) × (w ≡ v))
  pub still : (y b : ℕ) → record_of s y b ≢ None → record_of t y b ≢ None

same_some : {x y : ℕ} → ◌≡◌ {A = Option ℕ} (Some x) (Some y) → x ≡ y
same_some same = cc

none_some : {x : ℕ} → ◌≡◌ {A = Option ℕ} None (Some x) → ⊥
none_some same = cc

pub written : (s t : SsaState) (x v : ℕ) (among : ℕ → Bool) → ((y b : ℕ) → record_of t y b ≡ (if y == x && among b then Some v else record_of s y b)) → Writes s t x v
written s t x v among at = record {
  old_or_new = λ y b w is. by_old y b w (y == x) (among b) refl (sym (at y b) ∙ is);
  still = λ y b some none. by_still y b some (y == x) (among b) (sym (at y b) ∙ none);
}
  where
    equal : (m n : ℕ) → (m == n) ≡ true → m ≡ n
    equal m n same = grind (arith, common_steps, same)

    by_old : (y b w : ℕ) (first second : Bool) → (y == x) ≡ first → (if first && second then Some v else record_of s y b) ≡ Some w → (record_of s y b ≡ Some w) ⊎ ((y ≡ x) × (w ≡ v))
    by_old y b w false second same is = inl is
    by_old y b w true false same is = inl is
    by_old y b w true true same is = inr (equal y x same, sym (same_some is))

    by_still : (y b : ℕ) → record_of s y b ≢ None → (first second : Bool) → (if first && second then Some v else record_of s y b) ≡ None → ⊥
    by_still y b some false second none = some none
    by_still y b some true false none = some none
    by_still y b some true true none = none_some (sym none)

-- what a state keeps for which the records have the types that they have to
pub rewritten : (types : VariableTypes) (own : Own) (f : Body) (s t : SsaState) (ps : List Pending) → ((x b v : ℕ) → record_of t x b ≡ Some v → HasType f v (types x))
    → ((x b : ℕ) → record_of s x b ≢ None → record_of t x b ≢ None) → SameBlocks s t → SamePredecessors s t → Structured types own f s ps → Structured types own f t ps
rewritten types own f s t ps recorded still same_blocks same_before before =
    let same_waiting : (b : ℕ) → waiting_in f t ps b ≡ waiting_in f s ps b = λ b. ap (λ entry. waiting_of f entry ps b) (same_blocks b) in
    record {
      parameters = λ b.
          block_kept own f f s t ps ps b (edges_keep_itself f b) refl (same_waiting b) (λ sealed. ap is_yes (same_blocks b) ∙ sealed) (same_before b)
          (λ i k here leads. (leads, refl)) (before.parameters b);
      alias_types = before.alias_types;
      zeros = before.zeros;
      recorded = recorded;
      waiting = λ b p here.
          let old : HasType f p.param (types p.variable) × (record_of s p.variable b ≢ None) = before.waiting b p (subst (λ xs. Contains xs p) (same_waiting b) here) in
          (old.0, still p.variable b old.1);
      leading = λ b i here. before.leading b i (subst (λ xs. Contains xs i) (same_before b) here);
      leading_once = λ b. subst Once (sym (same_before b)) (before.leading_once b);
    }

-- a value of the variable's type is recorded
pub written_typed : (types : VariableTypes) (own : Own) (f : Body) (s t : SsaState) (ps : List Pending) (x v : ℕ) → Writes s t x v → HasType f v (types x)
    → Structured types own f s ps → (y b w : ℕ) → record_of t y b ≡ Some w → HasType f w (types y)
written_typed types own f s t ps x v writes typed before y b w is =
    elim (writes.old_or_new y b w is) [
      | inl old ↦ before.recorded y b w old
      | inr new ↦ subst (λ z. HasType f w (types z)) (sym new.0) (subst (λ u. HasType f u (types x)) (sym new.1) typed)
    ]

-- the records stay
pub same_structured : (types : VariableTypes) (own : Own) (f : Body) (s t : SsaState) (ps : List Pending) → ((x b : ℕ) → record_of t x b ≡ record_of s x b)
    → SameBlocks s t → SamePredecessors s t → Structured types own f s ps → Structured types own f t ps
same_structured types own f s t ps same same_blocks same_before before =
    rewritten types own f s t ps (λ x b v is. before.recorded x b v (sym (same x b) ∙ is)) (λ x b some none. some (sym (same x b) ∙ none)) same_blocks same_before before
