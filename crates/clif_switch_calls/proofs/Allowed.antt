-- What allowed calls leave: the program's current block is the ledger's, and nothing is in blocks that aren't there yet.
use Rattle.std.proofs.Common.{◌≡◌, ◌<◌, ◌≤◌, ℕ, Bool, true, false, List, [], ◌∷◌, ◌++◌, length, map, refl, sym, ◌∙◌, ap, subst, arith, inl, inr, Some, None, Option}
use Rattle.std.specs.Prelude.{◌&&◌, ◌⊎◌, not, if◌then◌else◌, fold, IsTrue}
use Rattle.std.proofs.lemmas.Bool.{and_parts}
use Rattle.clif_meaning.specs.Acceptance.{allows, can_leave}
use Rattle.clif_meaning.specs.Instruction.{Instruction}
use Rattle.clif_meaning.specs.Ledger.{Ledger, answers_to, changed_by, empty_ledger, has_block, is_filled, is_terminator, ledger_after, ledger_with, next_answer, with_begun, with_filled_at, with_instruction, with_state, with_terminator}
use Rattle.clif_meaning.specs.Name.{Name}
use Rattle.clif_meaning.specs.Program.{Assign, Item, Program, empty_program, extended, program_of, redirected_item, with_call, with_inserted, with_item_at, with_redirected}
use Rattle.clif_meaning.specs.Request.{Request, SwitchToBlock, Script}
use Rattle.clif_meaning.proofs.Effects.{ProgramEffect, program_effect, Leaves, Inserts, Takes, Switches, Assigns, Uses, Builds, Redirects, switch_of}
use Rattle.clif_meaning.proofs.Effects.{LedgerEffect, ledger_effect, Keeps, Lays, Changes, Begins, Creates, Enters, ChangesEach, Declares, Touches, Reads, Marks, Appends}
use Rattle.clif_expansion.specs.ConstantCalls.{AreAllowed}
use Rattle.clif_expansion.proofs.Emissions.{begun_current}
use Rattle.clif_expansion.proofs.EmittedPrograms.{one_longer}
use Rattle.clif_switch_calls.specs.SwitchLaw.{LaterBlocksAreUnwritten}
use Rattle.clif_switch_calls.proofs.Basics.{other_name}
use Rattle.clif_switch_calls.proofs.Built.{led_current}
use Rattle.clif_switch_calls.proofs.Plain.{AreBefore, answered, block_in_before, kept_names, names_of}

-- CURRENT BLOCKS ----------------------------------------------------------------------------------------------------------

item_current : (program : Program) (block : Option Name) (item : Item) → (with_item_at program block item).current ≡ program.current
item_current program None item = refl
item_current program (Some block) item = refl

filled_current : (ledger : Ledger) (block : Option Name) → (with_filled_at ledger block).current ≡ ledger.current
filled_current ledger None = refl
filled_current ledger (Some block) = refl

built_current : (ledger : Ledger) (instruction : Instruction Name Name) → (with_instruction ledger instruction).current ≡ ledger.current
built_current ledger instruction =
    led_current (next_answer ledger) instruction.edges (with_terminator (with_begun ledger) instruction.operation) ∙ by (is_terminator instruction.operation) ∙ begun_current ledger ledger.current
  where
    by : (c : Bool) → (if c then with_filled_at (with_begun ledger) (with_begun ledger).current else with_begun ledger).current ≡ (with_begun ledger).current
    by true = filled_current (with_begun ledger) (with_begun ledger).current
    by false = refl

-- the current block behind a call: the one that it switches to, or the one that was
abbrev behind : Option Name → Option Name → Option Name
behind None current = current
behind (Some block) current = Some block

still : (switch current other : Option Name) → switch ≡ None → other ≡ current → other ≡ behind switch current
still switch current other stays is = is ∙ ap (λ (o : Option Name). behind o current) (sym stays)

program_current : (request : Request) (program : Program) → (with_call program request).current ≡ behind (switch_of request) program.current
program_current request program = by (program_effect request)
  where
    of_request : (other : Request) → request ≡ other → (extended program other).current ≡ behind (switch_of other) program.current
        → (extended program request).current ≡ behind (switch_of request) program.current
    of_request other is holds = subst (λ (r : Request). (extended program r).current ≡ behind (switch_of r) program.current) (sym is) holds

    of_program : (other : Program) → switch_of request ≡ None → extended program request ≡ other → other.current ≡ program.current
        → (extended program request).current ≡ behind (switch_of request) program.current
    of_program other stays is same = still (switch_of request) program.current (extended program request).current stays (ap (λ (p : Program). p.current) is ∙ same)

    by : ProgramEffect request → (extended program request).current ≡ behind (switch_of request) program.current
    by (Leaves stays is) = of_program program stays (is program) refl
    by (Inserts stays is) = of_program (with_inserted program) stays (is program) refl
    by (Takes block types stays makes is) = of_program _ stays (is program) refl
    by (Switches block is) = of_request _ is refl
    by (Assigns variable value is) = of_request _ is (item_current program program.current (Assign variable value))
    by (Uses variable is) = of_request _ is (item_current (with_inserted program) program.current _)
    by (Builds entries instruction is) = of_request _ is (item_current (with_inserted program) program.current _)
    by (Redirects branch from to stays is) = of_program (with_redirected program branch from to) stays (is program) refl

ledger_current : (request : Request) (ledger : Ledger) → (ledger_with ledger request).current ≡ behind (switch_of request) ledger.current
ledger_current request ledger = by (ledger_effect request)
  where
    of_request : (other : Request) → request ≡ other → (changed_by ledger other).current ≡ behind (switch_of other) ledger.current
        → (changed_by ledger request).current ≡ behind (switch_of request) ledger.current
    of_request other is holds = subst (λ (r : Request). (changed_by ledger r).current ≡ behind (switch_of r) ledger.current) (sym is) holds

    of_ledger : (other : Ledger) → switch_of request ≡ None → changed_by ledger request ≡ other → other.current ≡ ledger.current
        → (changed_by ledger request).current ≡ behind (switch_of request) ledger.current
    of_ledger other stays is same = still (switch_of request) ledger.current (changed_by ledger request).current stays (ap (λ (l : Ledger). l.current) is ∙ same)

    by : LedgerEffect request → (changed_by ledger request).current ≡ behind (switch_of request) ledger.current
    by (Keeps stays is) = of_ledger ledger stays (is ledger) refl
    by (Lays layout tables jump_tables exception_tables stays is) = of_ledger _ stays (is ledger) refl
    by (Changes block change keeps stays is) = of_ledger (with_state ledger block change) stays (is ledger) refl
    by (Begins stays is) = of_ledger (with_begun ledger) stays (is ledger) (begun_current ledger ledger.current)
    by (Creates is) = of_request _ is refl
    by (Enters block is) = of_request _ is refl
    by (ChangesEach change keeps stays is) = of_ledger _ stays (is ledger) refl
    by (Declares ty is) = of_request _ is refl
    by (Touches variable value is) = of_request _ is refl
    by (Reads variable is) = of_request _ is (begun_current ledger ledger.current)
    by (Marks need is) = of_request _ is refl
    by (Appends entries instruction is) = of_request _ is (built_current ledger instruction)

-- a call leaves both with one current block
same_current : (request : Request) (ledger : Ledger) (program : Program) → program.current ≡ ledger.current → (with_call program request).current ≡ (ledger_with ledger request).current
same_current request ledger program same = program_current request program ∙ ap (behind (switch_of request)) same ∙ sym (ledger_current request ledger)

currents_from : (script : Script) (ledger : Ledger) (program : Program) → program.current ≡ ledger.current → (fold with_call program script).current ≡ (fold ledger_with ledger script).current
currents_from [] ledger program same = same
currents_from (request ∷ script) ledger program same = currents_from script (ledger_with ledger request) (with_call program request) (same_current request ledger program same)

pub same_currents : (script : Script) → (program_of script).current ≡ (ledger_after script).current
same_currents script = currents_from script empty_ledger empty_program refl

-- LATER BLOCKS ------------------------------------------------------------------------------------------------------------

-- What is there is made before, the current block is, and nothing is in later ones.
record Before (ledger : Ledger) (program : Program) : Type 0 where
  same : program.current ≡ ledger.current
  names : AreBefore (length ledger.answers) (names_of ledger.blocks)
  current : (block : Name) → ledger.current ≡ Some block → block.place < length ledger.answers
  none : (x : Name) → length ledger.answers ≤ x.place → program.items x ≡ []

-- an item in the current block is in no later one
item_elsewhere : (program : Program) (block : Option Name) (item : Item) (x : Name) → ((c : Name) → block ≡ Some c → c.place < x.place) → program.items x ≡ [] → (with_item_at program block item).items x ≡ []
item_elsewhere program None item x earlier none = none
item_elsewhere program (Some c) item x earlier none =
    let before = earlier c refl in
    ap (λ (b : Bool). if b then program.items x ++ item ∷ [] else program.items x) (other_name x c (λ same. omega (arith, same, before))) ∙ none

redirected_none : (branch from into : Name) (items : List Item) → items ≡ [] → map (redirected_item branch from into) items ≡ []
redirected_none branch from into items none = ap (map (redirected_item branch from into)) none

none_more : (request : Request) (ledger : Ledger) (program : Program) → Before ledger program → (x : Name) → length ledger.answers ≤ x.place → (with_call program request).items x ≡ []
none_more request ledger program before x later = by (program_effect request)
  where
    of_program : (other : Program) → extended program request ≡ other → other.items x ≡ [] → (extended program request).items x ≡ []
    of_program other is none = ap (λ (p : Program). p.items x) is ∙ none

    of_request : (other : Request) → request ≡ other → (extended program other).items x ≡ [] → (extended program request).items x ≡ []
    of_request other is none = ap (λ (r : Request). (extended program r).items x) is ∙ none

    old : program.items x ≡ []
    old = before.none x later

    with_one : (from : Program) (item : Item) → from.items x ≡ [] → (with_item_at from program.current item).items x ≡ []
    with_one from item none = item_elsewhere from program.current item x (λ c is. let below = before.current c (sym before.same ∙ is) in omega (arith, below, later)) none

    by : ProgramEffect request → (extended program request).items x ≡ []
    by (Leaves stays is) = of_program program (is program) old
    by (Inserts stays is) = of_program (with_inserted program) (is program) old
    by (Takes block types stays makes is) = of_program _ (is program) old
    by (Switches block is) = of_request _ is old
    by (Assigns variable value is) = of_request _ is (with_one program (Assign variable value) old)
    by (Uses variable is) = of_request _ is (with_one (with_inserted program) _ old)
    by (Builds entries instruction is) = of_request _ is (with_one (with_inserted program) _ old)
    by (Redirects branch from to stays is) = of_program (with_redirected program branch from to) (is program) (redirected_none branch from to (program.items x) old)

-- a call that switches is that request alone
stays_or_switches : (request : Request) → (switch_of request ≡ None) ⊎ ((block : Name) × (request ≡ SwitchToBlock block))
stays_or_switches (SwitchToBlock block) = inr (block, refl)
stays_or_switches _ = inl refl

switched_below : (ledger : Ledger) (block : Name) → AreBefore (length ledger.answers) (names_of ledger.blocks) → IsTrue (allows ledger (SwitchToBlock block)) → block.place < length ledger.answers
switched_below ledger block names may =
    let parts = and_parts (has_block ledger block && not (is_filled ledger block)) (can_leave ledger ledger.current) may in
    let there = and_parts (has_block ledger block) (not (is_filled ledger block)) parts.0 in
    block_in_before (length ledger.answers) ledger block names there.0

-- the block that becomes the current one is there
current_more : (request : Request) (ledger : Ledger) (program : Program) → Before ledger program → IsTrue (allows ledger request) → (block : Name) → (ledger_with ledger request).current ≡ Some block
    → block.place < length ledger.answers
current_more request ledger program before may block is = by (stays_or_switches request)
  where
    named : Option Name → Name
    named None = block
    named (Some x) = x

    by : (switch_of request ≡ None) ⊎ ((other : Name) × (request ≡ SwitchToBlock other)) → block.place < length ledger.answers
    by (inl stays) = before.current block (sym (ledger_current request ledger ∙ ap (λ (o : Option Name). behind o ledger.current) stays) ∙ is)
    by (inr (other, switches)) =
        subst (λ (x : Name). x.place < length ledger.answers) (ap named (sym (ap (λ (r : Request). (ledger_with ledger r).current) switches) ∙ is))
        (switched_below ledger other before.names (subst (λ (r : Request). IsTrue (allows ledger r)) switches may))

before_more : (request : Request) (ledger : Ledger) (program : Program) → Before ledger program → IsTrue (allows ledger request) → Before (ledger_with ledger request) (with_call program request)
before_more request ledger program before may =
    let longer = one_longer ledger.answers (answers_to ledger request) in
    record {
      same = same_current request ledger program before.same;
      names = subst (λ (n : ℕ). AreBefore n (names_of (ledger_with ledger request).blocks)) (sym longer) (kept_names ledger request before.names);
      current = λ block is. let below = current_more request ledger program before may block is in omega (arith, below, longer);
      none = λ x later. none_more request ledger program before x (omega (arith, later, longer));
    }

all_before : (script : Script) (ledger : Ledger) (program : Program) → Before ledger program → AreAllowed ledger script → Before (fold ledger_with ledger script) (fold with_call program script)
all_before [] ledger program before allowed = before
all_before (request ∷ script) ledger program before allowed =
    all_before script (ledger_with ledger request) (with_call program request) (before_more request ledger program before allowed.0) allowed.1

pub later_blocks : LaterBlocksAreUnwritten
later_blocks plain allowed x later =
    (all_before plain empty_ledger empty_program (record { same = refl; names = tt; current = λ block is. nothing is; none = λ y after. refl }) allowed).none x
    (let is = answered plain empty_ledger in omega (arith, is, later))
  where
    nothing : {block : Name} → None ≡ Some block → block.place < 0
    nothing is = let none : ⊥ = cc in absurd none
