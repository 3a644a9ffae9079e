-- Names, and the names of blocks after one more call.
use Rattle.std.proofs.Common.{◌≡◌, ◌≢◌, ℕ, zero, suc, ◌==◌, Bool, true, false, List, [], ◌∷◌, ◌++◌, length, map, refl, ◌∙◌, ap, ap₂, subst, arith, Some, None, ◌⊎◌, inl, inr}
use Rattle.std.specs.Prelude.{slice_get, Option, fold, Contains, if◌then◌else◌, slice_index_or, ◌<◌}
use Rattle.std.specs.List.{list_any}
use Rattle.std.proofs.lemmas.Bool.Decides.{nat_tests}
use Rattle.clif_paths.proofs.Tables.{number_equal}
use Rattle.clif_meaning.specs.Name.{Name, answer_of, same_name}
use Rattle.clif_meaning.specs.Instruction.{Operation, Edge}
use Rattle.clif_meaning.specs.Request.{Request, AnsweredCall, script_of}
use Rattle.clif_meaning.specs.Ledger.{BlockState, Ledger, ledger_after, ledger_with, with_state, with_layout, with_begun_at, with_begun, with_filled_at, with_terminator, with_predecessor, is_inserted, is_terminator}
use Rattle.clif_simulation.specs.Tables.{block_name}
pub use Rattle.clif_meaning.proofs.Effects.{MakesNoBlock, Marks}
use Rattle.clif_meaning.proofs.Effects.{LedgerEffect, ledger_effect, Keeps, Lays, Changes, Begins, Creates, Enters, ChangesEach, Declares, Touches, Reads, Appends}
use Rattle.clif_simulation.proofs.Numbers.{ledger_longer}

pub same_name-equal : (a b : Name) → a ≡ b → same_name a b ≡ true
same_name-equal a b same =
    let places : (a.place == b.place) ≡ true = number_equal a.place b.place (ap (λ (n : Name). n.place) same) in
    let indices : (a.index == b.index) ≡ true = number_equal a.index b.index (ap (λ (n : Name). n.index) same) in
    rw places (rw indices refl)

decide_number : (a b : ℕ) → ((a ≡ b) × ((a == b) ≡ true)) ⊎ ((a ≢ b) × ((a == b) ≡ false))
decide_number a b = grind (arith, nat_tests)

-- two names are one, or the test says that they aren't
pub same_name_cases : (a b : Name) → (a ≡ b) ⊎ ((a ≢ b) × (same_name a b ≡ false))
same_name_cases a b = by (decide_number a.place b.place) (decide_number a.index b.index)
  where
    by : ((a.place ≡ b.place) × ((a.place == b.place) ≡ true)) ⊎ ((a.place ≢ b.place) × ((a.place == b.place) ≡ false))
        → ((a.index ≡ b.index) × ((a.index == b.index) ≡ true)) ⊎ ((a.index ≢ b.index) × ((a.index == b.index) ≡ false))
        → (a ≡ b) ⊎ ((a ≢ b) × (same_name a b ≡ false))
    by (inl p) (inl i) =
        inl (ap (λ (n : ℕ). record { place = n; index = a.index }) p.0 ∙ ap (λ (n : ℕ). record { place = b.place; index = n }) i.0)
    by (inl p) (inr i) = inr (λ same. i.0 (ap (λ (n : Name). n.index) same), rw p.1 (rw i.1 refl))
    by (inr p) i = inr (λ same. p.0 (ap (λ (n : Name). n.place) same), rw p.1 refl)

pub only_one : {X : Type 0} (a x : X) → Contains (a ∷ []) x → a ≡ x
only_one a x h = by h.0 h.1 h.2
  where
    by : (k : ℕ) → k < 1 → slice_index_or (a ∷ []) k x ≡ x → a ≡ x
    by zero below here = here
    by (suc k) below here = absurd (omega arith)

pub none_in : {X : Type 0} (x : X) → Contains [] x → ⊥
none_in x h = absurd (omega (arith, h.1))

pub the_one : {X : Type 0} (a : X) → Contains (a ∷ []) a
the_one a = (0, omega arith, refl)

-- the names of some blocks
abbrev pub names_of : List BlockState → List Name
names_of states = map (λ state. state.block) states

module _ (block : Name) (change : BlockState → BlockState) (keeps : (state : BlockState) → (change state).block ≡ state.block) where
  one_state : (c : Bool) (state : BlockState) → (if c then change state else state).block ≡ state.block
  one_state true state = keeps state
  one_state false state = refl

  names_changed : (states : List BlockState) → names_of (map (λ state. if same_name state.block block then change state else state) states) ≡ names_of states
  names_changed [] = refl
  names_changed (state ∷ states) =
      ap (λ (name : Name). name ∷ names_of (map (λ state. if same_name state.block block then change state else state) states)) (one_state (same_name state.block block) state)
      ∙ ap (λ rest. state.block ∷ rest) (names_changed states)

  pub names-with_state : (ledger : Ledger) → names_of (with_state ledger block change).blocks ≡ names_of ledger.blocks
  names-with_state ledger = names_changed ledger.blocks

names-with_layout : (ledger : Ledger) (block : Name) → names_of (with_layout ledger block).blocks ≡ names_of ledger.blocks
names-with_layout ledger block = by (is_inserted ledger block)
  where
    by : (c : Bool) → names_of (if c then ledger else record ledger { layout = ledger.layout ++ block ∷ [] }).blocks ≡ names_of ledger.blocks
    by true = refl
    by false = refl

pub names-with_begun_at : (ledger : Ledger) (o : Option Name) → names_of (with_begun_at ledger o).blocks ≡ names_of ledger.blocks
names-with_begun_at ledger None = refl
names-with_begun_at ledger (Some block) =
    names-with_state block (λ state. record state { is_pristine = false }) (λ state. refl) (with_layout ledger block) ∙ names-with_layout ledger block

names-with_filled_at : (ledger : Ledger) (o : Option Name) → names_of (with_filled_at ledger o).blocks ≡ names_of ledger.blocks
names-with_filled_at ledger None = refl
names-with_filled_at ledger (Some block) = names-with_state block (λ state. record state { is_filled = true }) (λ state. refl) ledger

names-with_terminator : (ledger : Ledger) (operation : Operation) → names_of (with_terminator ledger operation).blocks ≡ names_of ledger.blocks
names-with_terminator ledger operation = by (is_terminator operation)
  where
    by : (c : Bool) → names_of (if c then with_filled_at ledger ledger.current else ledger).blocks ≡ names_of ledger.blocks
    by true = names-with_filled_at ledger ledger.current
    by false = refl

names-with_edges : (branch : Name) (ledger : Ledger) (edges : List (Edge Name Name)) → names_of (fold (with_predecessor branch) ledger edges).blocks ≡ names_of ledger.blocks
names-with_edges branch ledger [] = refl
names-with_edges branch ledger (edge ∷ edges) =
    names-with_edges branch (with_predecessor branch ledger edge) edges
    ∙ names-with_state edge.target (λ state. if list_any (same_name branch) state.predecessors then state else record state { predecessors = state.predecessors ++ branch ∷ [] })
    (λ state. name_of state (list_any (same_name branch) state.predecessors)) ledger
  where
    name_of : (state : BlockState) (test : Bool) → (if test then state else record state { predecessors = state.predecessors ++ branch ∷ [] }).block ≡ state.block
    name_of state true = refl
    name_of state false = refl

names-each : (change : BlockState → BlockState) → ((state : BlockState) → (change state).block ≡ state.block) → (states : List BlockState) → names_of (map change states) ≡ names_of states
names-each change keeps [] = refl
names-each change keeps (state ∷ states) = ap₂ (λ (name : Name) (names : List Name). name ∷ names) (keeps state) (names-each change keeps states)

names_after : (ledger : Ledger) (request : Request) → MakesNoBlock request → names_of (ledger_with ledger request).blocks ≡ names_of ledger.blocks
names_after ledger request made = by (ledger_effect request)
  where
    of_request : (other : Request) → request ≡ other → names_of (ledger_with ledger other).blocks ≡ names_of ledger.blocks
        → names_of (ledger_with ledger request).blocks ≡ names_of ledger.blocks
    of_request other is same = ap (λ (r : Request). names_of (ledger_with ledger r).blocks) is ∙ same

    by : LedgerEffect request → names_of (ledger_with ledger request).blocks ≡ names_of ledger.blocks
    by (Keeps stays is) = ap (λ (l : Ledger). names_of l.blocks) (is ledger)
    by (Lays layout tables jump_tables exception_tables stays is) = ap (λ (l : Ledger). names_of l.blocks) (is ledger)
    by (Changes block change keeps stays is) = ap (λ (l : Ledger). names_of l.blocks) (is ledger) ∙ names-with_state block change keeps.name ledger
    by (Begins stays is) = ap (λ (l : Ledger). names_of l.blocks) (is ledger) ∙ names-with_begun_at ledger ledger.current
    by (Creates is) = absurd (subst MakesNoBlock is made)
    by (Enters block is) = of_request _ is refl
    by (ChangesEach change keeps stays is) = ap (λ (l : Ledger). names_of l.blocks) (is ledger) ∙ names-each change keeps.name ledger.blocks
    by (Declares ty is) = of_request _ is refl
    by (Touches variable value is) = of_request _ is refl
    by (Marks need is) = of_request _ is refl
    by (Reads variable is) = of_request _ is (names-with_begun_at ledger ledger.current)
    by (Appends entries instruction is) =
        of_request _ is
        (names-with_edges (answer_of (length ledger.answers) 0) (with_terminator (with_begun ledger) instruction.operation) instruction.edges
        ∙ names-with_terminator (with_begun ledger) instruction.operation ∙ names-with_begun_at ledger ledger.current)

-- the blocks keep their names
pub names_stay : (calls : List AnsweredCall) (call : AnsweredCall) → MakesNoBlock call.request → (block : ℕ) → block_name (calls ++ call ∷ []) block ≡ block_name calls block
names_stay calls call made block =
    ap (λ (ledger : Ledger). slice_get (names_of ledger.blocks) block) (ledger_longer calls call)
    ∙ ap (λ (names : List Name). slice_get names block) (names_after (ledger_after (script_of calls)) call.request made)
