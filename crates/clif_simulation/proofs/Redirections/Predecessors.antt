-- The predecessors that a ledger has were answered by instructions: a call that redirects no branch keeps this, and so does one
-- that redirects an instruction.
use Rattle.std.proofs.Common.{◌≡◌, ℕ, Bool, true, false, cond, List, [], ◌∷◌, ◌++◌, map, sym, ap, subst, Option, Some, None}
use Rattle.std.specs.Prelude.{filter, fold, if◌then◌else◌, not, slice_get}
use Rattle.std.specs.List.{AllByRecursion, list_any}
use Rattle.clif_meaning.specs.Instruction.{Edge, Operation}
use Rattle.clif_meaning.specs.Ledger.{AnInstruction, BlockState, Ledger, answers_to, is_inserted, is_terminator, led_by, ledger_after, ledger_with, left_by, new_block, next_answer, redirected_state, with_begun, with_begun_at, with_filled_at, with_layout, with_predecessor, with_state, with_terminator}
use Rattle.clif_meaning.specs.Name.{Name, answer_of, same_name}
use Rattle.clif_meaning.specs.Request.{AnsweredCall, Request, CreateBlock, Build, ChangeJumpDestination, script_of}
use Rattle.clif_meaning.proofs.LedgerParts.{LeadingEffect, LeadsStay, BlockMade, EdgesLead, LeadsMove, leading, leading_effect}
use Rattle.clif_simulation.specs.Carries.{IsInstruction, LeadsBuilt}
use Rattle.clif_simulation.proofs.Carrying.{all_append, all_mapped}
use Rattle.clif_simulation.proofs.LedgerValues.{as_many}
use Rattle.clif_simulation.proofs.Numbering.{instruction_new, instruction_stays}
use Rattle.clif_simulation.proofs.Numbers.{ledger_longer}

-- where the call redirects a branch, this is an instruction
abbrev pub RedirectsBuilt : List AnsweredCall → Request → Type 0
RedirectsBuilt calls (ChangeJumpDestination branch from to) = IsInstruction calls branch
RedirectsBuilt calls _ = Unit {0}

module _ (P : Name → Type 0) where
  abbrev IsLed : BlockState → Type 0
  IsLed state = AllByRecursion P state.predecessors

  abbrev AreLed : Ledger → Type 0
  AreLed ledger = AllByRecursion IsLed ledger.blocks

  -- blocks with these predecessors
  as_leads : (states : List BlockState) → AllByRecursion IsLed states → AllByRecursion (AllByRecursion P) (leading states)
  as_leads [] all = tt
  as_leads (state ∷ states) all = (all.0, as_leads states all.1)

  of_leads : (states : List BlockState) → AllByRecursion (AllByRecursion P) (leading states) → AllByRecursion IsLed states
  of_leads [] all = tt
  of_leads (state ∷ states) all = (all.0, of_leads states all.1)

  same_led : (later states : List BlockState) → leading later ≡ leading states → AllByRecursion IsLed states → AllByRecursion IsLed later
  same_led later states same all = of_leads later (subst (AllByRecursion (AllByRecursion P)) (sym same) (as_leads states all))

  each_changed : (change : BlockState → BlockState) → ((state : BlockState) → IsLed state → IsLed (change state)) → (states : List BlockState)
      → AllByRecursion IsLed states → AllByRecursion IsLed (map change states)
  each_changed change keeps [] all = tt
  each_changed change keeps (state ∷ states) all = (keeps state all.0, each_changed change keeps states all.1)

  one_changed : (ledger : Ledger) (block : Name) (change : BlockState → BlockState) → ((state : BlockState) → IsLed state → IsLed (change state))
      → AreLed ledger → AreLed (with_state ledger block change)
  one_changed ledger block change keeps all =
      each_changed (λ state. if same_name state.block block then change state else state) (λ state is. by state (same_name state.block block) is) ledger.blocks all
    where
      by : (state : BlockState) (test : Bool) → IsLed state → IsLed (if test then change state else state)
      by state true is = keeps state is
      by state false is = is

  begun_led : (ledger : Ledger) (o : Option Name) → AreLed ledger → AreLed (with_begun_at ledger o)
  begun_led ledger None all = all
  begun_led ledger (Some block) all =
      one_changed (with_layout ledger block) block (λ state. record state { is_pristine = false }) (λ state is. is) (by (is_inserted ledger block))
    where
      by : (test : Bool) → AreLed (if test then ledger else record ledger { layout = ledger.layout ++ block ∷ [] })
      by true = all
      by false = all

  ended_led : (ledger : Ledger) (operation : Operation) → AreLed ledger → AreLed (with_terminator ledger operation)
  ended_led ledger operation all = by (is_terminator operation) ledger.current
    where
      by : (test : Bool) (o : Option Name) → AreLed (if test then with_filled_at ledger o else ledger)
      by true None = all
      by true (Some block) = one_changed ledger block (λ state. record state { is_filled = true }) (λ state is. is) all
      by false o = all

  led_more : (branch : Name) → P branch → (state : BlockState) → IsLed state → IsLed (led_by branch state)
  led_more branch holds state is = by (list_any (same_name branch) state.predecessors)
    where
      by : (test : Bool) → IsLed (if test then state else record state { predecessors = state.predecessors ++ branch ∷ [] })
      by true = is
      by false = all_append P state.predecessors (branch ∷ []) is (holds, tt)

  edges_led : (branch : Name) → P branch → (edges : List (Edge Name Name)) (ledger : Ledger) → AreLed ledger → AreLed (fold (with_predecessor branch) ledger edges)
  edges_led branch holds [] ledger all = all
  edges_led branch holds (edge ∷ edges) ledger all =
      edges_led branch holds edges (with_predecessor branch ledger edge) (one_changed ledger edge.target (led_by branch) (led_more branch holds) all)

  left : (branch : Name) (names : List Name) → AllByRecursion P names → AllByRecursion P (filter (λ other. not (same_name branch other)) names)
  left branch [] all = tt
  left branch (name ∷ names) all = by (same_name branch name) (left branch names all.1)
    where
      by : (test : Bool) → AllByRecursion P (filter (λ other. not (same_name branch other)) names)
          → AllByRecursion P (cond (not test) (name ∷ filter (λ other. not (same_name branch other)) names) (filter (λ other. not (same_name branch other)) names))
      by true rest = rest
      by false rest = (all.0, rest)

  redirected : (branch from to : Name) → P branch → (state : BlockState) → IsLed state → IsLed (redirected_state branch from to state)
  redirected branch from to holds state is = by (same_name from to) (same_name state.block from) (same_name state.block to)
    where
      by : (same at_from at_to : Bool) → IsLed (if same then state else (if at_from then left_by branch state else (if at_to then led_by branch state else state)))
      by true at_from at_to = is
      by false true at_to = left branch state.predecessors is
      by false false true = led_more branch holds state is
      by false false false = is

module _ (calls : List AnsweredCall) (call : AnsweredCall) where
  abbrev after : List AnsweredCall
  after = calls ++ call ∷ []

  abbrev ledger : Ledger
  ledger = ledger_after (script_of calls)

  -- one more call
  pub leads_on : RedirectsBuilt calls call.request → LeadsBuilt calls → LeadsBuilt after
  leads_on redirects built =
      subst (AreLed (IsInstruction after)) (sym (ledger_longer calls call)) (by (leading_effect call.request))
    where
      old : AreLed (IsInstruction after) ledger
      old =
          all_mapped (IsLed (IsInstruction calls)) (IsLed (IsInstruction after))
          (λ state. all_mapped (IsInstruction calls) (IsInstruction after) (instruction_stays calls call) state.predecessors) ledger.blocks built

      new : slice_get (answers_to ledger call.request) 0 ≡ Some AnInstruction → IsInstruction after (next_answer ledger)
      new is = subst (λ (place : ℕ). IsInstruction after (answer_of place 0)) (sym (as_many calls)) (instruction_new calls call 0 is)

      of_request : (other : Request) → call.request ≡ other → AreLed (IsInstruction after) (ledger_with ledger other) → AreLed (IsInstruction after) (ledger_with ledger call.request)
      of_request other is holds = subst (λ (request : Request). AreLed (IsInstruction after) (ledger_with ledger request)) (sym is) holds

      by : LeadingEffect call.request → AreLed (IsInstruction after) (ledger_with ledger call.request)
      by (LeadsStay same) = same_led (IsInstruction after) (ledger_with ledger call.request).blocks ledger.blocks (same ledger) old
      by (BlockMade is) = of_request CreateBlock is (all_append (IsLed (IsInstruction after)) ledger.blocks (new_block (next_answer ledger) ∷ []) old (tt, tt))
      by (EdgesLead entries instruction is) =
          of_request (Build entries instruction) is
          (edges_led (IsInstruction after) (next_answer ledger) (new (ap (λ (request : Request). slice_get (answers_to ledger request) 0) is)) instruction.edges
          (with_terminator (with_begun ledger) instruction.operation)
          (ended_led (IsInstruction after) (with_begun ledger) instruction.operation (begun_led (IsInstruction after) ledger ledger.current old)))
      by (LeadsMove branch from to is) =
          of_request (ChangeJumpDestination branch from to) is
          (each_changed (IsInstruction after) (redirected_state branch from to)
          (redirected (IsInstruction after) branch from to (instruction_stays calls call branch (subst (RedirectsBuilt calls) is redirects))) ledger.blocks old)
