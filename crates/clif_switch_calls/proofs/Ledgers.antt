-- Calls that fill blocks one by one, and the ledger that they leave.
use Rattle.std.proofs.Common.{◌≡◌, ◌≤◌, ℕ, suc, Bool, true, false, List, [], ◌∷◌, ◌++◌, map, refl, sym, ◌∙◌, ap, subst, arith, inl, inr, Some, None, Option, cond}
use Rattle.std.specs.Prelude.{◌||◌, if◌then◌else◌, find}
use Rattle.std.specs.List.{AllByRecursion, list_any}
use Rattle.clif_meaning.specs.Instruction.{Edge}
use Rattle.clif_meaning.specs.Ledger.{BlockState, Ledger, block_state, led_by, new_block, sealed}
use Rattle.clif_meaning.specs.Name.{Name, answer_of, same_name}
use Rattle.clif_meaning.specs.Request.{Script}
use Rattle.clif_expansion.specs.Switching.{BeginsHere, IsDeciding, IsDecidingCall, LeadsInside}
use Rattle.clif_expansion.proofs.Names.{equal_names}
use Rattle.clif_expansion.proofs.Placing.{of_contained}
use Rattle.clif_switch_calls.proofs.Emits.{Computes, Creates, Emits, Ends, Enters, LeadsOn, Links, Stops, Tables}

-- CALLS -------------------------------------------------------------------------------------------------------------------

module _ (base tables : ℕ) (targets : List Name) where
  leads_inside : (waiting : List Name) (edge : Edge Name Name) → AllByRecursion (λ x. base ≤ x.place) waiting → LeadsOn targets waiting edge → LeadsInside base targets edge
  leads_inside waiting edge all leads = record {
    nothing = leads.nothing;
    inside = elim leads.there [
      | inl waits ↦ inl (of_contained (λ (x : Name). base ≤ x.place) waiting edge.target all waits)
      | inr target ↦ inr target
    ];
  }

  all_inside : (waiting : List Name) (edges : List (Edge Name Name)) → AllByRecursion (λ x. base ≤ x.place) waiting → AllByRecursion (LeadsOn targets waiting) edges
      → AllByRecursion (LeadsInside base targets) edges
  all_inside waiting [] all leads = tt
  all_inside waiting (edge ∷ edges) all leads = (leads_inside waiting edge all leads.0, all_inside waiting edges all leads.1)

  no_edges_inside : (edges : List (Edge Name Name)) → edges ≡ [] → AllByRecursion (LeadsInside base targets) edges
  no_edges_inside edges none = subst (AllByRecursion (LeadsInside base targets)) (sym none) tt

  -- what they ask
  pub emits_calls : (waiting : List Name) (runs : Bool) (current : Name) (place : ℕ) (script : Script) → Emits base tables targets waiting runs current place script
      → base ≤ place → AllByRecursion (λ x. base ≤ x.place) waiting → AllByRecursion (IsDecidingCall base tables targets) script
  emits_calls _ _ _ _ _ (Stops current place) behind all = tt
  emits_calls _ _ _ _ _ (Enters block waiting current place more emits) behind all =
      (all.0, (all.0, emits_calls waiting true block (suc (suc place)) more emits (omega (arith, behind)) all.1))
  emits_calls _ _ _ _ _ (Creates waiting current place more emits) behind all =
      (tt, emits_calls (answer_of place 0 ∷ waiting) true current (suc place) more emits (omega (arith, behind)) (behind, all))
  emits_calls _ _ _ _ _ (Links waiting current place edge more leads emits) behind all =
      (leads_inside [] edge tt leads, emits_calls waiting true current (suc place) more emits (omega (arith, behind)) all)
  emits_calls _ _ _ _ _ (Tables waiting current place default entries more first are emits) behind all =
      ((first, are), emits_calls waiting true current (suc place) more emits (omega (arith, behind)) all)
  emits_calls _ _ _ _ _ (Computes waiting current place instruction more stays emits) behind all = (
    (
      record {
        deciding = subst IsDeciding (sym stays.computes) tt;
        contexts = stays.no_contexts;
        edges = no_edges_inside instruction.edges stays.no_edges;
      },
      tt,
    ),
    emits_calls waiting true current (suc place) more emits (omega (arith, behind)) all,
  )
  emits_calls _ _ _ _ _ (Ends waiting current place entries instruction more branches given emits) behind all = (
    (record { deciding = branches.deciding; contexts = branches.no_contexts; edges = all_inside waiting instruction.edges all branches.edges }, given),
    emits_calls waiting false current (suc place) more emits (omega (arith, behind)) all,
  )

  -- they begin in the open block
  pub emits_begin : (waiting : List Name) (runs : Bool) (current : Name) (place : ℕ) (script : Script) → Emits base tables targets waiting runs current place script → runs ≡ true → BeginsHere script
  emits_begin _ _ _ _ _ (Stops current place) runs = let none : ⊥ = cc in absurd none
  emits_begin _ _ _ _ _ (Enters block waiting current place more emits) runs = let none : ⊥ = cc in absurd none
  emits_begin _ _ _ _ _ (Creates waiting current place more emits) runs = (tt, emits_begin (answer_of place 0 ∷ waiting) true current (suc place) more emits refl)
  emits_begin _ _ _ _ _ (Links waiting current place edge more leads emits) runs = (tt, emits_begin waiting true current (suc place) more emits refl)
  emits_begin _ _ _ _ _ (Tables waiting current place default entries more first are emits) runs = (tt, emits_begin waiting true current (suc place) more emits refl)
  emits_begin _ _ _ _ _ (Computes waiting current place instruction more stays emits) runs = tt
  emits_begin _ _ _ _ _ (Ends waiting current place entries instruction more branches given emits) runs = tt

-- STATES ------------------------------------------------------------------------------------------------------------------

-- what a state has it has later
pub record Grown (state later : BlockState) : Type 0 where
  pub block : later.block ≡ state.block
  pub filled : state.is_filled ≡ true → later.is_filled ≡ true
  pub is_sealed : state.is_sealed ≡ true → later.is_sealed ≡ true
  pub begun : state.is_pristine ≡ false → later.is_pristine ≡ false
  pub led : (branch : Name) → list_any (same_name branch) state.predecessors ≡ true → list_any (same_name branch) later.predecessors ≡ true

pub grown_same : (state : BlockState) → Grown state state
grown_same state = record { block = refl; filled = λ is. is; is_sealed = λ is. is; begun = λ is. is; led = λ branch is. is }

pub grown_both : (a b c : BlockState) → Grown a b → Grown b c → Grown a c
grown_both a b c first second = record {
  block = second.block ∙ first.block;
  filled = λ is. second.filled (first.filled is);
  is_sealed = λ is. second.is_sealed (first.is_sealed is);
  begun = λ is. second.begun (first.begun is);
  led = λ branch is. second.led branch (first.led branch is);
}

abbrev pub Grows : (BlockState → BlockState) → Type 0
Grows change = (state : BlockState) → Grown state (change state)

pub grows_if : (test : BlockState → Bool) (change : BlockState → BlockState) → Grows change → Grows (λ state. if test state then change state else state)
grows_if test change grows state = by (test state)
  where
    by : (c : Bool) → Grown state (if c then change state else state)
    by true = grows state
    by false = grown_same state

pub grows_beginning : Grows (λ state. record state { is_pristine = false })
grows_beginning state = record { block = refl; filled = λ is. is; is_sealed = λ is. is; begun = λ is. refl; led = λ branch is. is }

pub grows_filling : Grows (λ state. record state { is_filled = true })
grows_filling state = record { block = refl; filled = λ is. refl; is_sealed = λ is. is; begun = λ is. is; led = λ branch is. is }

pub grows_sealed : Grows sealed
grows_sealed state = record { block = refl; filled = λ is. is; is_sealed = λ is. refl; begun = λ is. is; led = λ branch is. is }

any_behind : (test : Name → Bool) (xs : List Name) (x : Name) → list_any test xs ≡ true → list_any test (xs ++ x ∷ []) ≡ true
any_behind test [] x is = let none : ⊥ = cc in absurd none
any_behind test (y ∷ xs) x is = by (test y) is (any_behind test xs x)
  where
    by : (c : Bool) → (c || list_any test xs) ≡ true → (list_any test xs ≡ true → list_any test (xs ++ x ∷ []) ≡ true) → (c || list_any test (xs ++ x ∷ [])) ≡ true
    by true so later = refl
    by false so later = later so

any_last : (test : Name → Bool) (xs : List Name) (x : Name) → test x ≡ true → list_any test (xs ++ x ∷ []) ≡ true
any_last test [] x is = ap (λ (c : Bool). c || false) is
any_last test (y ∷ xs) x is = by (test y) (any_last test xs x is)
  where
    by : (c : Bool) → list_any test (xs ++ x ∷ []) ≡ true → (c || list_any test (xs ++ x ∷ [])) ≡ true
    by true later = refl
    by false later = later

pub grows_led : (branch : Name) → Grows (led_by branch)
grows_led branch state = by (list_any (same_name branch) state.predecessors)
  where
    by : (c : Bool) → Grown state (if c then state else record state { predecessors = state.predecessors ++ branch ∷ [] })
    by true = grown_same state
    by false = record { block = refl; filled = λ is. is; is_sealed = λ is. is; begun = λ is. is; led = λ other is. any_behind (same_name other) state.predecessors branch is }

pub is_led : (branch : Name) (state : BlockState) → list_any (same_name branch) (led_by branch state).predecessors ≡ true
is_led branch state = by (list_any (same_name branch) state.predecessors) refl
  where
    by : (c : Bool) → list_any (same_name branch) state.predecessors ≡ c
        → list_any (same_name branch) (if c then state else record state { predecessors = state.predecessors ++ branch ∷ [] }).predecessors ≡ true
    by true is = is
    by false is = any_last (same_name branch) state.predecessors branch (equal_names branch branch refl)

-- LEDGERS -----------------------------------------------------------------------------------------------------------------

abbrev pub HasState : Ledger → Name → Type 0
HasState ledger block = (state : BlockState) × (block_state ledger block ≡ Some state)

-- each block stays, and keeps what it has
abbrev pub LedgerGrows : (ledger later : Ledger) → Type 0
LedgerGrows ledger later = (block : Name) (state : BlockState) → block_state ledger block ≡ Some state
    → (grown : BlockState) × (block_state later block ≡ Some grown) × Grown state grown

pub grows_twice : (a b c : Ledger) → LedgerGrows a b → LedgerGrows b c → LedgerGrows a c
grows_twice a b c first second block state is =
    let one = first block state is in
    let two = second block one.0 one.1 in
    (two.0, two.1, grown_both state one.0 two.0 one.2 two.2)

-- blocks that are changed in place
pub found_mapped : (change : BlockState → BlockState) → Grows change → (block : Name) (blocks : List BlockState) (state : BlockState)
    → find (λ s. same_name s.block block) blocks ≡ Some state → find (λ s. same_name s.block block) (map change blocks) ≡ Some (change state)
found_mapped change grows block [] state is = let none : ⊥ = cc in absurd none
found_mapped change grows block (first ∷ blocks) state is = by (same_name first.block block) refl is (found_mapped change grows block blocks state)
  where
    by : (c : Bool) → same_name first.block block ≡ c → cond c (Some first) (find (λ s. same_name s.block block) blocks) ≡ Some state
        → (find (λ s. same_name s.block block) blocks ≡ Some state → find (λ s. same_name s.block block) (map change blocks) ≡ Some (change state))
        → find (λ s. same_name s.block block) (map change (first ∷ blocks)) ≡ Some (change state)
    by true same so later =
        ap (λ (c : Bool). cond c (Some (change first)) (find (λ s. same_name s.block block) (map change blocks))) (ap (λ (n : Name). same_name n block) (grows first).block ∙ same)
        ∙ ap (λ (s : BlockState). Some (change s)) (one_state so)
      where
        held : Option BlockState → BlockState
        held None = first
        held (Some s) = s

        one_state : Some first ≡ Some state → first ≡ state
        one_state same = ap held same
    by false other so later =
        ap (λ (c : Bool). cond c (Some (change first)) (find (λ s. same_name s.block block) (map change blocks))) (ap (λ (n : Name). same_name n block) (grows first).block ∙ other)
        ∙ later so

pub found_behind : (block : Name) (blocks more : List BlockState) (state : BlockState) → find (λ s. same_name s.block block) blocks ≡ Some state
    → find (λ s. same_name s.block block) (blocks ++ more) ≡ Some state
found_behind block [] more state is = let none : ⊥ = cc in absurd none
found_behind block (first ∷ blocks) more state is = by (same_name first.block block) is (found_behind block blocks more state)
  where
    by : (c : Bool) → cond c (Some first) (find (λ s. same_name s.block block) blocks) ≡ Some state
        → (find (λ s. same_name s.block block) blocks ≡ Some state → find (λ s. same_name s.block block) (blocks ++ more) ≡ Some state)
        → cond c (Some first) (find (λ s. same_name s.block block) (blocks ++ more)) ≡ Some state
    by true so later = so
    by false so later = later so

-- what is found has the name
pub found_named : (block : Name) (blocks : List BlockState) (state : BlockState) → find (λ s. same_name s.block block) blocks ≡ Some state → same_name state.block block ≡ true
found_named block [] state is = let none : ⊥ = cc in absurd none
found_named block (first ∷ blocks) state is = by (same_name first.block block) refl is (found_named block blocks state)
  where
    held : Option BlockState → BlockState
    held None = first
    held (Some s) = s

    by : (c : Bool) → same_name first.block block ≡ c → cond c (Some first) (find (λ s. same_name s.block block) blocks) ≡ Some state
        → (find (λ s. same_name s.block block) blocks ≡ Some state → same_name state.block block ≡ true) → same_name state.block block ≡ true
    by true same so later = ap (λ (s : BlockState). same_name s.block block) (sym (ap held so)) ∙ same
    by false other so later = later so

-- the last of some blocks
pub found_last : (block : Name) (blocks : List BlockState) → (state : BlockState) × (find (λ s. same_name s.block block) (blocks ++ new_block block ∷ []) ≡ Some state)
found_last block [] = (new_block block, ap (λ (c : Bool). cond c (Some (new_block block)) None) (equal_names block block refl))
found_last block (first ∷ blocks) = by (same_name first.block block) (found_last block blocks)
  where
    by : (c : Bool) → (state : BlockState) × (find (λ s. same_name s.block block) (blocks ++ new_block block ∷ []) ≡ Some state)
        → (state : BlockState) × (cond c (Some first) (find (λ s. same_name s.block block) (blocks ++ new_block block ∷ [])) ≡ Some state)
    by true rest = (first, refl)
    by false rest = rest

pub mapped_grows : (ledger later : Ledger) (change : BlockState → BlockState) → Grows change → later.blocks ≡ map change ledger.blocks → LedgerGrows ledger later
mapped_grows ledger later change grows is block state here = (
  change state,
  ap (find (λ s. same_name s.block block)) is ∙ found_mapped change grows block ledger.blocks state here,
  grows state,
)
