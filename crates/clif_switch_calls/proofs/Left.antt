-- The ledger that calls leave which fill blocks one by one.
use Rattle.std.proofs.Common.{◌≡◌, ◌<◌, ◌≤◌, ℕ, suc, Bool, true, false, List, [], ◌∷◌, ◌++◌, length, map, refl, sym, ◌∙◌, ap, ap₂, subst, arith, inl, inr, Some, Option}
use Rattle.std.specs.Prelude.{◌⊎◌, ◌&&◌, if◌then◌else◌, fold, find, is_some, Contains, IsTrue}
use Rattle.std.specs.List.{AllByRecursion, list_any}
use Rattle.clif_meaning.specs.Instruction.{Edge, Instruction}
use Rattle.clif_meaning.specs.Ledger.{BlockState, Ledger, has_block, is_filled, is_terminator, ledger_with, new_block, next_answer, sealed, state_has}
use Rattle.clif_meaning.specs.Name.{Name, answer_of, same_name}
use Rattle.clif_meaning.specs.Request.{CreateBlock, SwitchToBlock, SealBlock, MakeEdge, MakeJumpTable, Build, GivenEntry, Script}
use Rattle.clif_expansion.specs.Switching.{IsFinishedFrom, IsLedFrom, IsSpent, LeadsToBlocks, targets_of}
use Rattle.clif_expansion.proofs.EmittedPrograms.{one_longer}
use Rattle.clif_expansion.proofs.Names.{equal_names, names_equal}
use Rattle.clif_expansion.proofs.Placing.{contained_first, contained_in, contained_later, of_contained}
use Rattle.clif_switch_calls.proofs.Built.{built_begun, built_blocks, built_current, built_filled, built_grows, built_leads, built_there, change_filled, changes, grows_changes}
use Rattle.clif_switch_calls.proofs.Emits.{Computes, Creates, Emits, Ends, Enters, LeadsOn, Links, Stops, Tables}
use Rattle.clif_switch_calls.proofs.Ledgers.{HasState, LedgerGrows, found_behind, found_last, grown_same, grows_if, grows_sealed, grows_twice, mapped_grows}

-- the same blocks
stays : (ledger later : Ledger) → later.blocks ≡ ledger.blocks → LedgerGrows ledger later
stays ledger later same block state here = (state, ap (find (λ s. same_name s.block block)) same ∙ here, grown_same state)

created_grows : (ledger : Ledger) → LedgerGrows ledger (ledger_with ledger CreateBlock)
created_grows ledger block state here = (state, found_behind block ledger.blocks (new_block (next_answer ledger) ∷ []) state here, grown_same state)

entered_grows : (ledger : Ledger) (block : Name) → LedgerGrows ledger (ledger_with (ledger_with ledger (SealBlock block)) (SwitchToBlock block))
entered_grows ledger block =
    mapped_grows ledger (ledger_with (ledger_with ledger (SealBlock block)) (SwitchToBlock block)) _ (grows_if (λ s. same_name s.block block) sealed grows_sealed) refl

module _ (base tables : ℕ) (targets : List Name) where
  -- each block keeps what it has
  pub emits_grow : (waiting : List Name) (runs : Bool) (current : Name) (place : ℕ) (script : Script) → Emits base tables targets waiting runs current place script
      → (ledger : Ledger) → ledger.current ≡ Some current → LedgerGrows ledger (fold ledger_with ledger script)
  emits_grow _ _ _ _ _ (Stops current place) ledger is = stays ledger ledger refl
  emits_grow _ _ _ _ _ (Enters block waiting current place more emits) ledger is =
      grows_twice ledger (ledger_with (ledger_with ledger (SealBlock block)) (SwitchToBlock block)) (fold ledger_with (ledger_with (ledger_with ledger (SealBlock block)) (SwitchToBlock block)) more) (entered_grows ledger block)
      (emits_grow waiting true block (suc (suc place)) more emits (ledger_with (ledger_with ledger (SealBlock block)) (SwitchToBlock block)) refl)
  emits_grow _ _ _ _ _ (Creates waiting current place more emits) ledger is =
      grows_twice ledger (ledger_with ledger CreateBlock) (fold ledger_with (ledger_with ledger CreateBlock) more) (created_grows ledger)
      (emits_grow (answer_of place 0 ∷ waiting) true current (suc place) more emits (ledger_with ledger CreateBlock) is)
  emits_grow _ _ _ _ _ (Links waiting current place edge more leads emits) ledger is =
      grows_twice ledger (ledger_with ledger (MakeEdge edge)) (fold ledger_with (ledger_with ledger (MakeEdge edge)) more) (stays ledger (ledger_with ledger (MakeEdge edge)) refl)
      (emits_grow waiting true current (suc place) more emits (ledger_with ledger (MakeEdge edge)) is)
  emits_grow _ _ _ _ _ (Tables waiting current place default entries more first are emits) ledger is =
      grows_twice ledger (ledger_with ledger (MakeJumpTable default entries)) (fold ledger_with (ledger_with ledger (MakeJumpTable default entries)) more) (stays ledger (ledger_with ledger (MakeJumpTable default entries)) refl)
      (emits_grow waiting true current (suc place) more emits (ledger_with ledger (MakeJumpTable default entries)) is)
  emits_grow _ _ _ _ _ (Computes waiting current place instruction more here emits) ledger is =
      grows_twice ledger (ledger_with ledger (Build [] instruction)) (fold ledger_with (ledger_with ledger (Build [] instruction)) more) (built_grows ledger current is [] instruction)
      (emits_grow waiting true current (suc place) more emits (ledger_with ledger (Build [] instruction)) (built_current ledger current is [] instruction))
  emits_grow _ _ _ _ _ (Ends waiting current place entries instruction more branches given emits) ledger is =
      grows_twice ledger (ledger_with ledger (Build entries instruction)) (fold ledger_with (ledger_with ledger (Build entries instruction)) more) (built_grows ledger current is entries instruction)
      (emits_grow waiting false current (suc place) more emits (ledger_with ledger (Build entries instruction)) (built_current ledger current is entries instruction))

  -- FINISHED --------------------------------------------------------------------------------------------------------------

  -- a generated block is finished, or is the open one, or waits
  abbrev pub IsUnderWay : (waiting : List Name) (runs : Bool) (current : Name) → BlockState → Type 0
  IsUnderWay waiting runs current state =
      base ≤ state.block.place
      → ((state.is_filled ≡ true) × (state.is_sealed ≡ true)) ⊎ ((runs ≡ true) × (state.block ≡ current) × (state.is_sealed ≡ true)) ⊎ Contains waiting state.block

  -- the ledger before the calls
  pub record Standing (ledger : Ledger) (waiting : List Name) (runs : Bool) (current : Name) (place : ℕ) : Type 0 where
    pub is : ledger.current ≡ Some current
    pub at : length ledger.answers ≡ place
    pub has : HasState ledger current
    pub wait : AllByRecursion (HasState ledger) waiting
    pub states : AllByRecursion (IsUnderWay waiting runs current) ledger.blocks
    pub spent : runs ≡ false → IsSpent ledger current

  -- the ledger behind them
  pub record Ended (ledger : Ledger) (current : Name) : Type 0 where
    pub finished : AllByRecursion (IsFinishedFrom base) ledger.blocks
    pub last : Name
    pub is_last : ledger.current ≡ Some last
    pub spent : IsSpent ledger last
    pub filled : is_filled ledger current ≡ true

  still_has : (ledger later : Ledger) → LedgerGrows ledger later → (block : Name) → HasState ledger block → HasState later block
  still_has ledger later grows block has = let grown = grows block has.0 has.1 in (grown.0, grown.1)

  all_have : (ledger later : Ledger) → LedgerGrows ledger later → (blocks : List Name) → AllByRecursion (HasState ledger) blocks → AllByRecursion (HasState later) blocks
  all_have ledger later grows [] all = tt
  all_have ledger later grows (block ∷ blocks) all = (still_has ledger later grows block all.0, all_have ledger later grows blocks all.1)

  still_filled : (ledger later : Ledger) → LedgerGrows ledger later → (block : Name) → HasState ledger block → is_filled ledger block ≡ true → is_filled later block ≡ true
  still_filled ledger later grows block has filled =
      let grown = grows block has.0 has.1 in
      ap (state_has (λ s. s.is_filled)) grown.1 ∙ grown.2.filled (sym (ap (state_has (λ s. s.is_filled)) has.1) ∙ filled)

  mapped_states : (change : BlockState → BlockState) (waiting waiting' : List Name) (runs runs' : Bool) (current current' : Name)
      → ((state : BlockState) → IsUnderWay waiting runs current state → IsUnderWay waiting' runs' current' (change state))
      → (states : List BlockState) → AllByRecursion (IsUnderWay waiting runs current) states → AllByRecursion (IsUnderWay waiting' runs' current') (map change states)
  mapped_states change waiting waiting' runs runs' current current' each [] all = tt
  mapped_states change waiting waiting' runs runs' current current' each (state ∷ states) all =
      (each state all.0, mapped_states change waiting waiting' runs runs' current current' each states all.1)

  more_states : (waiting waiting' : List Name) (runs : Bool) (current : Name) (block : BlockState)
      → ((state : BlockState) → IsUnderWay waiting runs current state → IsUnderWay waiting' runs current state) → IsUnderWay waiting' runs current block
      → (states : List BlockState) → AllByRecursion (IsUnderWay waiting runs current) states → AllByRecursion (IsUnderWay waiting' runs current) (states ++ block ∷ [])
  more_states waiting waiting' runs current block each new [] all = (new, tt)
  more_states waiting waiting' runs current block each new (state ∷ states) all = (each state all.0, more_states waiting waiting' runs current block each new states all.1)

  -- nothing waits any more
  all_finished : (current : Name) (states : List BlockState) → AllByRecursion (IsUnderWay [] false current) states → AllByRecursion (IsFinishedFrom base) states
  all_finished current [] all = tt
  all_finished current (state ∷ states) all = (one, all_finished current states all.1)
    where
      one : IsFinishedFrom base state
      one behind =
          elim (all.0 behind) [
            | inl done ↦ ap₂ (λ (a b : Bool). a && b) done.0 done.1
            | inr other ↦ elim other [
              | inl running ↦ let none : ⊥ = (let wrong = running.0 in cc) in absurd none
              | inr waits ↦ absurd (omega (arith, waits.1))
            ]
          ]

  -- a block is sealed and becomes the open one
  enters_state : (block : Name) (waiting : List Name) (current : Name) (state : BlockState) → IsUnderWay (block ∷ waiting) false current state
      → (c : Bool) → same_name state.block block ≡ c → IsUnderWay waiting true block (if c then sealed state else state)
  enters_state block waiting current state way true is behind = inr (inl (refl, names_equal state.block block is, refl))
  enters_state block waiting current state way false is behind =
      elim (way behind) [
        | inl done ↦ inl done
        | inr other ↦ elim other [
          | inl running ↦ let none : ⊥ = (let wrong = running.0 in cc) in absurd none
          | inr waits ↦ elim (contained_in block waiting state.block waits) [
            | inl same ↦ let none : ⊥ = (let named = equal_names state.block block (sym same) in cc) in absurd none
            | inr further ↦ inr (inr further)
          ]
        ]
      ]

  -- an instruction in the open block
  computes_state : (waiting : List Name) (current branch : Name) (instruction : Instruction Name Name) (state : BlockState)
      → IsUnderWay waiting true current state → IsUnderWay waiting true current (changes current branch instruction state)
  computes_state waiting current branch instruction state way behind =
      let grown = grows_changes current branch instruction state in
      elim (way (subst (λ (x : Name). base ≤ x.place) grown.block behind)) [
        | inl done ↦ inl (grown.filled done.0, grown.is_sealed done.1)
        | inr other ↦ elim other [
          | inl running ↦ inr (inl (refl, grown.block ∙ running.1, grown.is_sealed running.2))
          | inr waits ↦ inr (inr (subst (Contains waiting) (sym grown.block) waits))
        ]
      ]

  -- its terminator
  ends_state : (waiting : List Name) (ledger : Ledger) (current : Name) (is : ledger.current ≡ Some current) (entries : List GivenEntry) (instruction : Instruction Name Name) (state : BlockState)
      → is_terminator instruction.operation ≡ true → IsUnderWay waiting true current state → IsUnderWay waiting false current (changes current (next_answer ledger) instruction state)
  ends_state waiting ledger current is entries instruction state ends way behind =
      let grown = grows_changes current (next_answer ledger) instruction state in
      elim (way (subst (λ (x : Name). base ≤ x.place) grown.block behind)) [
        | inl done ↦ inl (grown.filled done.0, grown.is_sealed done.1)
        | inr other ↦ elim other [
          | inl running ↦ inl (change_filled ledger current is entries instruction state (equal_names state.block current running.1) ends, grown.is_sealed running.2)
          | inr waits ↦ inr (inr (subst (Contains waiting) (sym grown.block) waits))
        ]
      ]

  waits_more : (waiting : List Name) (x : Name) (runs : Bool) (current : Name) (state : BlockState) → IsUnderWay waiting runs current state → IsUnderWay (x ∷ waiting) runs current state
  waits_more waiting x runs current state way behind =
      elim (way behind) [
        | inl done ↦ inl done
        | inr other ↦ elim other [
          | inl running ↦ inr (inl running)
          | inr waits ↦ inr (inr (contained_later x waiting state.block waits))
        ]
      ]

  built_standing : (ledger : Ledger) (waiting : List Name) (current : Name) (place : ℕ) (instruction : Instruction Name Name)
      → Standing ledger waiting true current place → Standing (ledger_with ledger (Build [] instruction)) waiting true current (suc place)
  built_standing ledger waiting current place instruction standing = record {
    is = built_current ledger current standing.is [] instruction;
    at = one_longer ledger.answers _ ∙ ap suc standing.at;
    has = still_has ledger (ledger_with ledger (Build [] instruction)) (built_grows ledger current standing.is [] instruction) current standing.has;
    wait = all_have ledger (ledger_with ledger (Build [] instruction)) (built_grows ledger current standing.is [] instruction) waiting standing.wait;
    states = subst (AllByRecursion (IsUnderWay waiting true current)) (sym (built_blocks ledger current standing.is [] instruction))
        (mapped_states _ waiting waiting true true current current (computes_state waiting current (next_answer ledger) instruction) ledger.blocks standing.states);
    spent = λ wrong. let none : ⊥ = cc in absurd none;
  }

  pub emits_end : (waiting : List Name) (runs : Bool) (current : Name) (place : ℕ) (script : Script) → Emits base tables targets waiting runs current place script
      → (ledger : Ledger) → Standing ledger waiting runs current place → Ended (fold ledger_with ledger script) current
  emits_end _ _ _ _ _ (Stops current place) ledger standing = record {
    finished = all_finished current ledger.blocks standing.states;
    last = current;
    is_last = standing.is;
    spent = standing.spent refl;
    filled = (standing.spent refl).filled;
  }
  emits_end _ _ _ _ _ (Enters block waiting current place more emits) ledger standing =
      let next : Ledger = ledger_with (ledger_with ledger (SealBlock block)) (SwitchToBlock block) in
      let inner = emits_end waiting true block (suc (suc place)) more emits next (record {
        is = refl;
        at = one_longer (ledger_with ledger (SealBlock block)).answers [] ∙ ap suc (one_longer ledger.answers [] ∙ ap suc standing.at);
        has = still_has ledger next (entered_grows ledger block) block standing.wait.0;
        wait = all_have ledger next (entered_grows ledger block) waiting standing.wait.1;
        states = mapped_states _ (block ∷ waiting) waiting false true current block (λ state way. enters_state block waiting current state way (same_name state.block block) refl) ledger.blocks standing.states;
        spent = λ wrong. let none : ⊥ = cc in absurd none;
      }) in
      record {
        finished = inner.finished;
        last = inner.last;
        is_last = inner.is_last;
        spent = inner.spent;
        filled = still_filled ledger (fold ledger_with next more) (emits_grow (block ∷ waiting) false current place (SealBlock block ∷ SwitchToBlock block ∷ more) (Enters block waiting current place more emits) ledger standing.is)
            current standing.has (standing.spent refl).filled;
      }
  emits_end _ _ _ _ _ (Creates waiting current place more emits) ledger standing =
      let next : Ledger = ledger_with ledger CreateBlock in
      let new : next_answer ledger ≡ answer_of place 0 = ap (λ (n : ℕ). answer_of n 0) standing.at in
      emits_end (answer_of place 0 ∷ waiting) true current (suc place) more emits next (record {
        is = standing.is;
        at = one_longer ledger.answers _ ∙ ap suc standing.at;
        has = still_has ledger next (created_grows ledger) current standing.has;
        wait = (subst (HasState next) new (found_last (next_answer ledger) ledger.blocks), all_have ledger next (created_grows ledger) waiting standing.wait);
        states = more_states waiting (answer_of place 0 ∷ waiting) true current (new_block (next_answer ledger)) (waits_more waiting (answer_of place 0) true current)
            (λ behind. inr (inr (subst (Contains (answer_of place 0 ∷ waiting)) (sym new) (contained_first (answer_of place 0) waiting)))) ledger.blocks standing.states;
        spent = λ wrong. let none : ⊥ = cc in absurd none;
      })
  emits_end _ _ _ _ _ (Links waiting current place edge more leads emits) ledger standing =
      emits_end waiting true current (suc place) more emits (ledger_with ledger (MakeEdge edge)) (record {
        is = standing.is;
        at = one_longer ledger.answers _ ∙ ap suc standing.at;
        has = standing.has;
        wait = standing.wait;
        states = standing.states;
        spent = λ wrong. let none : ⊥ = cc in absurd none;
      })
  emits_end _ _ _ _ _ (Tables waiting current place default entries more first are emits) ledger standing =
      emits_end waiting true current (suc place) more emits (ledger_with ledger (MakeJumpTable default entries)) (record {
        is = standing.is;
        at = one_longer ledger.answers _ ∙ ap suc standing.at;
        has = standing.has;
        wait = standing.wait;
        states = standing.states;
        spent = λ wrong. let none : ⊥ = cc in absurd none;
      })
  emits_end _ _ _ _ _ (Computes waiting current place instruction more here emits) ledger standing =
      emits_end waiting true current (suc place) more emits (ledger_with ledger (Build [] instruction)) (built_standing ledger waiting current place instruction standing)
  emits_end _ _ _ _ _ (Ends waiting current place entries instruction more branches given emits) ledger standing =
      emits_end waiting false current (suc place) more emits (ledger_with ledger (Build entries instruction)) (record {
        is = built_current ledger current standing.is entries instruction;
        at = one_longer ledger.answers _ ∙ ap suc standing.at;
        has = still_has ledger (ledger_with ledger (Build entries instruction)) (built_grows ledger current standing.is entries instruction) current standing.has;
        wait = all_have ledger (ledger_with ledger (Build entries instruction)) (built_grows ledger current standing.is entries instruction) waiting standing.wait;
        states = subst (AllByRecursion (IsUnderWay waiting false current)) (sym (built_blocks ledger current standing.is entries instruction))
            (mapped_states _ waiting waiting true false current current (λ state. ends_state waiting ledger current standing.is entries instruction state branches.ends) ledger.blocks standing.states);
        spent = λ runs. record {
          filled = built_filled ledger current standing.is entries instruction branches.ends standing.has;
          begun = built_begun ledger current standing.is entries instruction standing.has;
          inserted = built_there ledger current standing.is entries instruction;
        };
      })

  -- LED -------------------------------------------------------------------------------------------------------------------

  -- a branch leads there
  abbrev pub BranchesTo : Name → Script → Type 0
  BranchesTo target [] = ⊥
  BranchesTo target (Build entries instruction ∷ more) = Contains (targets_of instruction.edges) target ⊎ BranchesTo target more
  BranchesTo target (_ ∷ more) = BranchesTo target more

  pub emits_lead : (waiting : List Name) (runs : Bool) (current : Name) (place : ℕ) (script : Script) → Emits base tables targets waiting runs current place script
      → (ledger : Ledger) → ledger.current ≡ Some current → length ledger.answers ≡ place → base ≤ place → (target : Name) → HasState ledger target → BranchesTo target script
      → IsLedFrom base (fold ledger_with ledger script) target
  emits_lead _ _ _ _ _ (Stops current place) ledger is at behind target has leads = absurd leads
  emits_lead _ _ _ _ _ (Enters block waiting current place more emits) ledger is at behind target has leads =
      emits_lead waiting true block (suc (suc place)) more emits (ledger_with (ledger_with ledger (SealBlock block)) (SwitchToBlock block)) refl
      (one_longer (ledger_with ledger (SealBlock block)).answers [] ∙ ap suc (one_longer ledger.answers [] ∙ ap suc at)) (omega (arith, behind)) target
      (still_has ledger (ledger_with (ledger_with ledger (SealBlock block)) (SwitchToBlock block)) (entered_grows ledger block) target has) leads
  emits_lead _ _ _ _ _ (Creates waiting current place more emits) ledger is at behind target has leads =
      emits_lead (answer_of place 0 ∷ waiting) true current (suc place) more emits (ledger_with ledger CreateBlock) is (one_longer ledger.answers _ ∙ ap suc at) (omega (arith, behind)) target
      (still_has ledger (ledger_with ledger CreateBlock) (created_grows ledger) target has) leads
  emits_lead _ _ _ _ _ (Links waiting current place edge more leads_on emits) ledger is at behind target has leads =
      emits_lead waiting true current (suc place) more emits (ledger_with ledger (MakeEdge edge)) is (one_longer ledger.answers _ ∙ ap suc at) (omega (arith, behind)) target has leads
  emits_lead _ _ _ _ _ (Tables waiting current place default entries more first are emits) ledger is at behind target has leads =
      emits_lead waiting true current (suc place) more emits (ledger_with ledger (MakeJumpTable default entries)) is (one_longer ledger.answers _ ∙ ap suc at) (omega (arith, behind)) target has leads
  emits_lead _ _ _ _ _ (Computes waiting current place instruction more here emits) ledger is at behind target has (inl leads) =
      absurd (none_there (subst (λ (edges : List (Edge Name Name)). Contains (targets_of edges) target) here.no_edges leads))
    where
      none_there : Contains {X = Name} [] target → ⊥
      none_there wrong = absurd (omega (arith, wrong.1))
  emits_lead _ _ _ _ _ (Computes waiting current place instruction more here emits) ledger is at behind target has (inr leads) =
      emits_lead waiting true current (suc place) more emits (ledger_with ledger (Build [] instruction)) (built_current ledger current is [] instruction)
      (one_longer ledger.answers _ ∙ ap suc at) (omega (arith, behind)) target (still_has ledger (ledger_with ledger (Build [] instruction)) (built_grows ledger current is [] instruction) target has) leads
  emits_lead _ _ _ _ _ (Ends waiting current place entries instruction more branches given emits) ledger is at behind target has (inl leads) =
      let built : Ledger = ledger_with ledger (Build entries instruction) in
      let state = built_grows ledger current is entries instruction target has.0 has.1 in
      let grown = emits_grow waiting false current (suc place) more emits built (built_current ledger current is entries instruction) target state.0 state.1 in
      record {
        branch = next_answer ledger;
        generated = omega (arith, behind, at);
        leads = ap (state_has (λ s. list_any (same_name (next_answer ledger)) s.predecessors)) grown.1
            ∙ grown.2.led (next_answer ledger)
            (sym (ap (state_has (λ s. list_any (same_name (next_answer ledger)) s.predecessors)) state.1) ∙ built_leads ledger current is entries instruction target has leads);
      }
  emits_lead _ _ _ _ _ (Ends waiting current place entries instruction more branches given emits) ledger is at behind target has (inr leads) =
      emits_lead waiting false current (suc place) more emits (ledger_with ledger (Build entries instruction)) (built_current ledger current is entries instruction)
      (one_longer ledger.answers _ ∙ ap suc at) (omega (arith, behind)) target (still_has ledger (ledger_with ledger (Build entries instruction)) (built_grows ledger current is entries instruction) target has) leads

  -- BLOCKS ----------------------------------------------------------------------------------------------------------------

  there_later : (ledger later : Ledger) → LedgerGrows ledger later → (block : Name) → HasState ledger block → IsTrue (has_block later block)
  there_later ledger later grows block has = let grown = grows block has.0 has.1 in ap (λ (o : Option BlockState). is_some o) grown.1

  edges_there : (later : Ledger) (waiting : List Name) (edges : List (Edge Name Name)) → ((x : Name) → Contains targets x → x.place < base)
      → ((x : Name) → Contains waiting x → IsTrue (has_block later x)) → AllByRecursion (LeadsOn targets waiting) edges
      → AllByRecursion (λ edge. base ≤ edge.target.place → IsTrue (has_block later edge.target)) edges
  edges_there later waiting [] earlier there leads = tt
  edges_there later waiting (edge ∷ edges) earlier there leads = (
    (λ behind. elim leads.0.there [
      | inl waits ↦ there edge.target waits
      | inr target ↦ (let before = earlier edge.target target in absurd (omega (arith, behind, before)))
    ]),
    edges_there later waiting edges earlier there leads.1,
  )

  -- what becomes the current block is there, and so is what is led to
  pub emits_blocks : (waiting : List Name) (runs : Bool) (current : Name) (place : ℕ) (script : Script) → Emits base tables targets waiting runs current place script
      → (ledger : Ledger) → ledger.current ≡ Some current → length ledger.answers ≡ place → AllByRecursion (HasState ledger) waiting → ((x : Name) → Contains targets x → x.place < base)
      → AllByRecursion (LeadsToBlocks base (fold ledger_with ledger script)) script
  emits_blocks _ _ _ _ _ (Stops current place) ledger is at wait earlier = tt
  emits_blocks _ _ _ _ _ (Enters block waiting current place more emits) ledger is at wait earlier =
      let next : Ledger = ledger_with (ledger_with ledger (SealBlock block)) (SwitchToBlock block) in (
        tt,
        (
          there_later ledger (fold ledger_with next more)
              (emits_grow (block ∷ waiting) false current place (SealBlock block ∷ SwitchToBlock block ∷ more) (Enters block waiting current place more emits) ledger is) block wait.0,
          emits_blocks waiting true block (suc (suc place)) more emits next refl (one_longer (ledger_with ledger (SealBlock block)).answers [] ∙ ap suc (one_longer ledger.answers [] ∙ ap suc at))
              (all_have ledger next (entered_grows ledger block) waiting wait.1) earlier,
        ),
      )
  emits_blocks _ _ _ _ _ (Creates waiting current place more emits) ledger is at wait earlier =
      let next : Ledger = ledger_with ledger CreateBlock in
      let new : next_answer ledger ≡ answer_of place 0 = ap (λ (n : ℕ). answer_of n 0) at in (
        tt,
        emits_blocks (answer_of place 0 ∷ waiting) true current (suc place) more emits next is (one_longer ledger.answers _ ∙ ap suc at)
            (subst (HasState next) new (found_last (next_answer ledger) ledger.blocks), all_have ledger next (created_grows ledger) waiting wait) earlier,
      )
  emits_blocks _ _ _ _ _ (Links waiting current place edge more leads emits) ledger is at wait earlier =
      (tt, emits_blocks waiting true current (suc place) more emits (ledger_with ledger (MakeEdge edge)) is (one_longer ledger.answers _ ∙ ap suc at) wait earlier)
  emits_blocks _ _ _ _ _ (Tables waiting current place default entries more first are emits) ledger is at wait earlier =
      (tt, emits_blocks waiting true current (suc place) more emits (ledger_with ledger (MakeJumpTable default entries)) is (one_longer ledger.answers _ ∙ ap suc at) wait earlier)
  emits_blocks _ _ _ _ _ (Computes waiting current place instruction more here emits) ledger is at wait earlier =
      let next : Ledger = ledger_with ledger (Build [] instruction) in (
        subst (λ (edges : List (Edge Name Name)). AllByRecursion (λ edge. base ≤ edge.target.place → IsTrue (has_block (fold ledger_with next more) edge.target)) edges) (sym here.no_edges) tt,
        emits_blocks waiting true current (suc place) more emits next (built_current ledger current is [] instruction) (one_longer ledger.answers _ ∙ ap suc at)
            (all_have ledger next (built_grows ledger current is [] instruction) waiting wait) earlier,
      )
  emits_blocks _ _ _ _ _ (Ends waiting current place entries instruction more branches given emits) ledger is at wait earlier =
      let next : Ledger = ledger_with ledger (Build entries instruction) in
      let grows = emits_grow waiting true current place (Build entries instruction ∷ more) (Ends waiting current place entries instruction more branches given emits) ledger is in (
        edges_there (fold ledger_with next more) waiting instruction.edges earlier
            (λ x waits. there_later ledger (fold ledger_with next more) grows x (of_contained (HasState ledger) waiting x wait waits)) branches.edges,
        emits_blocks waiting false current (suc place) more emits next (built_current ledger current is entries instruction) (one_longer ledger.answers _ ∙ ap suc at)
            (all_have ledger next (built_grows ledger current is entries instruction) waiting wait) earlier,
      )
