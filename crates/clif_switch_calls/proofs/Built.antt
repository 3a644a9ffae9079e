-- One instruction more in a ledger.
use Rattle.std.proofs.Common.{◌≡◌, Bool, true, false, List, [], ◌∷◌, ◌++◌, map, refl, sym, ◌∙◌, ap, inl, inr, Some, Option}
use Rattle.std.specs.Prelude.{◌||◌, if◌then◌else◌, fold, find, Contains}
use Rattle.std.specs.List.{list_any}
use Rattle.clif_meaning.specs.Instruction.{Edge, Instruction}
use Rattle.clif_meaning.specs.Ledger.{BlockState, Ledger, block_state, is_filled, is_inserted, is_pristine, is_terminator, leads_to, led_by, ledger_with, next_answer, state_has, with_begun, with_begun_at, with_filled_at, with_layout, with_predecessor}
use Rattle.clif_meaning.specs.Name.{Name, same_name}
use Rattle.clif_meaning.specs.Request.{Build, GivenEntry}
use Rattle.clif_expansion.specs.Switching.{targets_of}
use Rattle.clif_expansion.proofs.Emissions.{begun_current}
use Rattle.clif_expansion.proofs.Names.{equal_names, names_equal}
use Rattle.clif_expansion.proofs.Placing.{contained_in, none_contained}
use Rattle.clif_switch_calls.proofs.Ledgers.{Grows, HasState, LedgerGrows, found_mapped, found_named, grown_both, grown_same, grows_beginning, grows_filling, grows_if, grows_led, is_led, mapped_grows}

-- WHAT IT CHANGES ---------------------------------------------------------------------------------------------------------

abbrev begins_at : Name → BlockState → BlockState
begins_at current state = if same_name state.block current then record state { is_pristine = false } else state

abbrev fills_at : Name → BlockState → BlockState
fills_at current state = if same_name state.block current then record state { is_filled = true } else state

abbrev ends_at : Name → Bool → BlockState → BlockState
ends_at current ends state = if ends then fills_at current state else state

abbrev leads_once : Name → Edge Name Name → BlockState → BlockState
leads_once branch edge state = if same_name state.block edge.target then led_by branch state else state

abbrev leads_along : Name → List (Edge Name Name) → BlockState → BlockState
leads_along branch [] state = state
leads_along branch (edge ∷ edges) state = leads_along branch edges (leads_once branch edge state)

-- what an instruction changes in a state
abbrev pub changes : Name → (branch : Name) → Instruction Name Name → BlockState → BlockState
changes current branch instruction state = leads_along branch instruction.edges (ends_at current (is_terminator instruction.operation) (begins_at current state))

grows_along : (branch : Name) (edges : List (Edge Name Name)) → Grows (leads_along branch edges)
grows_along branch [] state = grown_same state
grows_along branch (edge ∷ edges) state =
    grown_both state (leads_once branch edge state) (leads_along branch edges (leads_once branch edge state))
    (grows_if (λ s. same_name s.block edge.target) (led_by branch) (grows_led branch) state) (grows_along branch edges (leads_once branch edge state))

grows_ends : (current : Name) (ends : Bool) → Grows (ends_at current ends)
grows_ends current true state = grows_if (λ s. same_name s.block current) (λ s. record s { is_filled = true }) grows_filling state
grows_ends current false state = grown_same state

grows_begins : (current : Name) → Grows (begins_at current)
grows_begins current state = grows_if (λ s. same_name s.block current) (λ s. record s { is_pristine = false }) grows_beginning state

pub grows_changes : (current branch : Name) (instruction : Instruction Name Name) → Grows (changes current branch instruction)
grows_changes current branch instruction state =
    let first : BlockState = begins_at current state in
    let second : BlockState = ends_at current (is_terminator instruction.operation) first in
    grown_both state first (changes current branch instruction state) (grows_begins current state)
    (grown_both first second (changes current branch instruction state) (grows_ends current (is_terminator instruction.operation) first) (grows_along branch instruction.edges second))

-- THE LEDGER BEHIND IT ----------------------------------------------------------------------------------------------------

mapped_twice : (f g : BlockState → BlockState) (states : List BlockState) → map g (map f states) ≡ map (λ s. g (f s)) states
mapped_twice f g [] = refl
mapped_twice f g (s ∷ states) = ap (λ (rest : List BlockState). g (f s) ∷ rest) (mapped_twice f g states)

mapped_not : (states : List BlockState) → map (λ s. s) states ≡ states
mapped_not [] = refl
mapped_not (s ∷ states) = ap (λ (rest : List BlockState). s ∷ rest) (mapped_not states)

laid_blocks : (ledger : Ledger) (block : Name) → (with_layout ledger block).blocks ≡ ledger.blocks
laid_blocks ledger block = by (is_inserted ledger block)
  where
    by : (c : Bool) → (if c then ledger else record ledger { layout = ledger.layout ++ block ∷ [] }).blocks ≡ ledger.blocks
    by true = refl
    by false = refl

laid_there : (ledger : Ledger) (block : Name) → is_inserted (with_layout ledger block) block ≡ true
laid_there ledger block = by (is_inserted ledger block) refl
  where
    last : (layout : List Name) → list_any (same_name block) (layout ++ block ∷ []) ≡ true
    last [] = ap (λ (c : Bool). c || false) (equal_names block block refl)
    last (x ∷ layout) = or_true (same_name block x) (last layout)
      where
        or_true : (c : Bool) {d : Bool} → d ≡ true → (c || d) ≡ true
        or_true true is = refl
        or_true false is = is

    by : (c : Bool) → is_inserted ledger block ≡ c → is_inserted (if c then ledger else record ledger { layout = ledger.layout ++ block ∷ [] }) block ≡ true
    by true is = is
    by false is = last ledger.layout

-- along its edges blocks are led to
led_blocks : (branch : Name) (edges : List (Edge Name Name)) (ledger : Ledger) → (fold (with_predecessor branch) ledger edges).blocks ≡ map (leads_along branch edges) ledger.blocks
led_blocks branch [] ledger = sym (mapped_not ledger.blocks)
led_blocks branch (edge ∷ edges) ledger =
    led_blocks branch edges (with_predecessor branch ledger edge) ∙ mapped_twice (leads_once branch edge) (leads_along branch edges) ledger.blocks

led_layout : (branch : Name) (edges : List (Edge Name Name)) (ledger : Ledger) → (fold (with_predecessor branch) ledger edges).layout ≡ ledger.layout
led_layout branch [] ledger = refl
led_layout branch (edge ∷ edges) ledger = led_layout branch edges (with_predecessor branch ledger edge)

pub led_current : (branch : Name) (edges : List (Edge Name Name)) (ledger : Ledger) → (fold (with_predecessor branch) ledger edges).current ≡ ledger.current
led_current branch [] ledger = refl
led_current branch (edge ∷ edges) ledger = led_current branch edges (with_predecessor branch ledger edge)

module _ (ledger : Ledger) (current : Name) (is : ledger.current ≡ Some current) (entries : List GivenEntry) (instruction : Instruction Name Name) where
  abbrev begun : Ledger
  begun = with_begun ledger

  begun_is : begun ≡ with_begun_at ledger (Some current)
  begun_is = ap (with_begun_at ledger) is

  begun_blocks : begun.blocks ≡ map (begins_at current) ledger.blocks
  begun_blocks = ap (λ (l : Ledger). l.blocks) begun_is ∙ ap (map (begins_at current)) (laid_blocks ledger current)

  begun_now : begun.current ≡ Some current
  begun_now = begun_current ledger ledger.current ∙ is

  begun_there : is_inserted begun current ≡ true
  begun_there = ap (λ (l : Ledger). is_inserted l current) begun_is ∙ laid_there ledger current

  abbrev ended : Bool → Ledger
  ended c = if c then with_filled_at begun begun.current else begun

  ended_blocks : (c : Bool) → (ended c).blocks ≡ map (ends_at current c) begun.blocks
  ended_blocks true = ap (λ (b : Option Name). (with_filled_at begun b).blocks) begun_now
  ended_blocks false = sym (mapped_not begun.blocks)

  ended_layout : (c : Bool) → (ended c).layout ≡ begun.layout
  ended_layout true = ap (λ (b : Option Name). (with_filled_at begun b).layout) begun_now
  ended_layout false = refl

  ended_current : (c : Bool) → (ended c).current ≡ Some current
  ended_current true = ap (λ (b : Option Name). (with_filled_at begun b).current) begun_now ∙ begun_now
  ended_current false = begun_now

  abbrev pub built : Ledger
  built = ledger_with ledger (Build entries instruction)

  abbrev pub change : BlockState → BlockState
  change = changes current (next_answer ledger) instruction

  pub built_blocks : built.blocks ≡ map change ledger.blocks
  built_blocks =
      led_blocks (next_answer ledger) instruction.edges (ended (is_terminator instruction.operation))
      ∙ ap (map (leads_along (next_answer ledger) instruction.edges)) (ended_blocks (is_terminator instruction.operation) ∙ ap (map (ends_at current (is_terminator instruction.operation))) begun_blocks)
      ∙ ap (map (leads_along (next_answer ledger) instruction.edges)) (mapped_twice (begins_at current) (ends_at current (is_terminator instruction.operation)) ledger.blocks)
      ∙ mapped_twice (λ s. ends_at current (is_terminator instruction.operation) (begins_at current s)) (leads_along (next_answer ledger) instruction.edges) ledger.blocks

  pub built_current : built.current ≡ Some current
  built_current = led_current (next_answer ledger) instruction.edges (ended (is_terminator instruction.operation)) ∙ ended_current (is_terminator instruction.operation)

  pub built_there : is_inserted built current ≡ true
  built_there =
      ap (list_any (same_name current)) (led_layout (next_answer ledger) instruction.edges (ended (is_terminator instruction.operation)) ∙ ended_layout (is_terminator instruction.operation))
      ∙ begun_there

  pub built_grows : LedgerGrows ledger built
  built_grows = mapped_grows ledger built change (grows_changes current (next_answer ledger) instruction) built_blocks

  built_state : (block : Name) (state : BlockState) → block_state ledger block ≡ Some state → block_state built block ≡ Some (change state)
  built_state block state here =
      ap (find (λ s. same_name s.block block)) built_blocks
      ∙ found_mapped change (grows_changes current (next_answer ledger) instruction) block ledger.blocks state here

  -- THE CURRENT BLOCK -----------------------------------------------------------------------------------------------------

  -- a state of the current block
  module _ (state : BlockState) (mine : same_name state.block current ≡ true) where
    abbrev first : BlockState
    first = begins_at current state

    begins_here : first ≡ record state { is_pristine = false }
    begins_here = ap (λ (c : Bool). if c then record state { is_pristine = false } else state) mine

    later_begun : (ends_at current (is_terminator instruction.operation) first).is_pristine ≡ false
    later_begun = (grows_ends current (is_terminator instruction.operation) first).begun (ap (λ (s : BlockState). s.is_pristine) begins_here)

    pub change_begun : (change state).is_pristine ≡ false
    change_begun = (grows_along (next_answer ledger) instruction.edges (ends_at current (is_terminator instruction.operation) first)).begun later_begun

    pub change_filled : is_terminator instruction.operation ≡ true → (change state).is_filled ≡ true
    change_filled ends =
        (grows_along (next_answer ledger) instruction.edges (ends_at current (is_terminator instruction.operation) first)).filled
        (ap (λ (c : Bool). (ends_at current c first).is_filled) ends
        ∙ ap (λ (s : BlockState). (fills_at current s).is_filled) begins_here
        ∙ ap (λ (c : Bool). (if c then record state { is_pristine = false; is_filled = true } else record state { is_pristine = false }).is_filled) mine)

  pub built_begun : HasState ledger current → is_pristine built current ≡ false
  built_begun has =
      ap (state_has (λ s. s.is_pristine)) (built_state current has.0 has.1)
      ∙ change_begun has.0 (found_named current ledger.blocks has.0 has.1)

  pub built_filled : is_terminator instruction.operation ≡ true → HasState ledger current → is_filled built current ≡ true
  built_filled ends has =
      ap (state_has (λ s. s.is_filled)) (built_state current has.0 has.1)
      ∙ change_filled has.0 (found_named current ledger.blocks has.0 has.1) ends

  -- THE TARGETS -----------------------------------------------------------------------------------------------------------

  along_led : (branch target : Name) (edges : List (Edge Name Name)) (state : BlockState) → state.block ≡ target → Contains (targets_of edges) target
      → list_any (same_name branch) (leads_along branch edges state).predecessors ≡ true
  along_led branch target [] state same here = absurd (none_contained target here)
  along_led branch target (edge ∷ edges) state same here =
      let later = along_led branch target edges (leads_once branch edge state) in
      elim (contained_in edge.target (targets_of edges) target here) [
        | inl this ↦
            let mine : same_name state.block edge.target ≡ true = equal_names state.block edge.target (same ∙ sym this) in
            (grows_along branch edges (leads_once branch edge state)).led branch
            (ap (λ (c : Bool). list_any (same_name branch) (if c then led_by branch state else state).predecessors) mine ∙ is_led branch state)
        | inr further ↦ later ((grows_if (λ s. same_name s.block edge.target) (led_by branch) (grows_led branch) state).block ∙ same) further
      ]

  pub built_leads : (target : Name) → HasState ledger target → Contains (targets_of instruction.edges) target → leads_to built (next_answer ledger) target ≡ true
  built_leads target has here =
      ap (state_has (λ s. list_any (same_name (next_answer ledger)) s.predecessors)) (built_state target has.0 has.1)
      ∙ along_led (next_answer ledger) target instruction.edges (ends_at current (is_terminator instruction.operation) (begins_at current has.0))
      ((grows_ends current (is_terminator instruction.operation) (begins_at current has.0)).block ∙ (grows_begins current has.0).block
      ∙ names_equal has.0.block target (found_named target ledger.blocks has.0 has.1)) here
