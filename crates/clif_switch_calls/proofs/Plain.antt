-- What is known of each script of plain calls: how many answers there are, and that what is named was made before.
use Rattle.std.proofs.Common.{◌≡◌, ◌<◌, ◌≤◌, ◌+◌, ℕ, zero, suc, Bool, true, false, List, [], ◌∷◌, ◌++◌, length, map, refl, sym, ◌∙◌, ap, ap₂, subst, arith, Some, None, Option, cond}
use Rattle.std.specs.Prelude.{if◌then◌else◌, find, fold, option_and_then, slice_get, is_some, IsTrue}
use Rattle.std.specs.List.{AllByRecursion, list_any}
use Rattle.clif_types.specs.declared.types.«Type».{«Type»}
use Rattle.clif_meaning.specs.Instruction.{Edge, Instruction}
use Rattle.clif_meaning.specs.Ledger.{AValue, AnInstruction, Answered, BlockState, Ledger, answers_to, block_state, has_block, changed_by, empty_ledger, is_inserted, is_terminator, ledger_after, ledger_with, led_by, new_block, next_answer, value_answer_type, with_begun, with_begun_at, with_filled_at, with_instruction, with_layout, with_predecessor, with_state, with_terminator}
use Rattle.clif_meaning.specs.Name.{Name, answer_of, same_name}
use Rattle.clif_meaning.specs.Program.{Program, result_types, with_call}
use Rattle.clif_meaning.specs.Request.{Request, Build, Script}
use Rattle.clif_meaning.proofs.Effects.{LedgerEffect, ledger_effect, Keeps, Lays, Changes, Begins, Creates, Enters, ChangesEach, Declares, Touches, Reads, Marks, Appends}
use Rattle.clif_expansion.specs.PerformedCalls.{HaveTypes}
use Rattle.clif_expansion.proofs.EmittedPrograms.{one_longer}
use Rattle.clif_expansion.proofs.Joins.{answers_last}
use Rattle.clif_expansion.proofs.LedgerTypes.{types_before}
use Rattle.clif_expansion.proofs.Names.{names_equal}
use Rattle.clif_switch_calls.proofs.Codes.{AreTyped}
use Rattle.clif_switch_calls.proofs.Ledgers.{HasState, found_named}

-- PLACES ------------------------------------------------------------------------------------------------------------------

pub placed : (script : Script) (program : Program) → (fold with_call program script).place ≡ program.place + length script
placed [] program = omega arith
placed (request ∷ script) program = let is = placed script (with_call program request) in omega (arith, is)

pub answered : (script : Script) (ledger : Ledger) → length (fold ledger_with ledger script).answers ≡ length ledger.answers + length script
answered [] ledger = omega arith
answered (request ∷ script) ledger =
    let is = answered script (ledger_with ledger request) in
    let one = one_longer ledger.answers (answers_to ledger request) in
    omega (arith, is, one)

-- a value was made by an earlier call
pub value_before : (answers : List (List Answered)) (place index : ℕ) (ty : «Type»)
    → value_answer_type (option_and_then (λ (given : List Answered). slice_get given index) (slice_get answers place)) ≡ Some ty → place < length answers
value_before [] place index ty is = let none : ⊥ = cc in absurd none
value_before (given ∷ answers) zero index ty is = omega arith
value_before (given ∷ answers) (suc place) index ty is = let below = value_before answers place index ty is in omega (arith, below)

-- BLOCKS ------------------------------------------------------------------------------------------------------------------

-- the names of the blocks that there are
abbrev pub names_of : List BlockState → List Name
names_of blocks = map (λ s. s.block) blocks

mapped_names : (change : BlockState → BlockState) → ((s : BlockState) → (change s).block ≡ s.block) → (blocks : List BlockState) → names_of (map change blocks) ≡ names_of blocks
mapped_names change keeps [] = refl
mapped_names change keeps (s ∷ blocks) = ap₂ (λ (x : Name) (xs : List Name). x ∷ xs) (keeps s) (mapped_names change keeps blocks)

state_names : (ledger : Ledger) (block : Name) (change : BlockState → BlockState) → ((s : BlockState) → (change s).block ≡ s.block) → names_of (with_state ledger block change).blocks ≡ names_of ledger.blocks
state_names ledger block change keeps = mapped_names (λ s. if same_name s.block block then change s else s) (λ s. by s (same_name s.block block)) ledger.blocks
  where
    by : (s : BlockState) (c : Bool) → (if c then change s else s).block ≡ s.block
    by s true = keeps s
    by s false = refl

laid_names : (ledger : Ledger) (block : Name) → names_of (with_layout ledger block).blocks ≡ names_of ledger.blocks
laid_names ledger block = by (is_inserted ledger block)
  where
    by : (c : Bool) → names_of (if c then ledger else record ledger { layout = ledger.layout ++ block ∷ [] }).blocks ≡ names_of ledger.blocks
    by true = refl
    by false = refl

begun_names : (ledger : Ledger) (block : Option Name) → names_of (with_begun_at ledger block).blocks ≡ names_of ledger.blocks
begun_names ledger None = refl
begun_names ledger (Some block) = state_names (with_layout ledger block) block (λ s. record s { is_pristine = false }) (λ s. refl) ∙ laid_names ledger block

filled_names : (ledger : Ledger) (block : Option Name) → names_of (with_filled_at ledger block).blocks ≡ names_of ledger.blocks
filled_names ledger None = refl
filled_names ledger (Some block) = state_names ledger block (λ s. record s { is_filled = true }) (λ s. refl)

led_name : (branch : Name) (s : BlockState) → (led_by branch s).block ≡ s.block
led_name branch s = by (list_any (same_name branch) s.predecessors)
  where
    by : (c : Bool) → (if c then s else record s { predecessors = s.predecessors ++ branch ∷ [] }).block ≡ s.block
    by true = refl
    by false = refl

led_names : (branch : Name) (edges : List (Edge Name Name)) (ledger : Ledger) → names_of (fold (with_predecessor branch) ledger edges).blocks ≡ names_of ledger.blocks
led_names branch [] ledger = refl
led_names branch (edge ∷ edges) ledger = led_names branch edges (with_predecessor branch ledger edge) ∙ state_names ledger edge.target (led_by branch) (led_name branch)

built_names : (ledger : Ledger) (instruction : Instruction Name Name) → names_of (with_instruction ledger instruction).blocks ≡ names_of ledger.blocks
built_names ledger instruction =
    led_names (next_answer ledger) instruction.edges (with_terminator (with_begun ledger) instruction.operation) ∙ by (is_terminator instruction.operation) ∙ begun_names ledger ledger.current
  where
    by : (c : Bool) → names_of (if c then with_filled_at (with_begun ledger) (with_begun ledger).current else with_begun ledger).blocks ≡ names_of (with_begun ledger).blocks
    by true = filled_names (with_begun ledger) (with_begun ledger).current
    by false = refl

-- each block was made before
abbrev pub AreBefore : ℕ → List Name → Type 0
AreBefore bound names = AllByRecursion (λ x. x.place < bound) names

before_more : (low high : ℕ) (names : List Name) → low ≤ high → AreBefore low names → AreBefore high names
before_more low high [] more all = tt
before_more low high (x ∷ names) more all = (omega (arith, all.0, more), before_more low high names more all.1)

before_last : (bound : ℕ) (blocks : List BlockState) (last : BlockState) → last.block.place < bound → AreBefore bound (names_of blocks) → AreBefore bound (names_of (blocks ++ last ∷ []))
before_last bound [] last below all = (below, tt)
before_last bound (s ∷ blocks) last below all = (all.0, before_last bound blocks last below all.1)

-- each block of the later ledger was made before the next call
abbrev Follows : Ledger → Ledger → Type 0
Follows ledger later = AreBefore (suc (length ledger.answers)) (names_of later.blocks)

pub kept_names : (ledger : Ledger) (request : Request) → AreBefore (length ledger.answers) (names_of ledger.blocks) → AreBefore (suc (length ledger.answers)) (names_of (changed_by ledger request).blocks)
kept_names ledger request all = by (ledger_effect request)
  where
    of_ledger : (later : Ledger) → changed_by ledger request ≡ later → Follows ledger later → Follows ledger (changed_by ledger request)
    of_ledger later is holds = subst (Follows ledger) (sym is) holds

    of_request : (other : Request) → request ≡ other → Follows ledger (changed_by ledger other) → Follows ledger (changed_by ledger request)
    of_request other is holds = subst (λ (r : Request). Follows ledger (changed_by ledger r)) (sym is) holds

    old : Follows ledger ledger
    old = before_more (length ledger.answers) (suc (length ledger.answers)) (names_of ledger.blocks) (omega arith) all

    same : (later : Ledger) → names_of later.blocks ≡ names_of ledger.blocks → Follows ledger later
    same later is = subst (AreBefore (suc (length ledger.answers))) (sym is) old

    by : LedgerEffect request → Follows ledger (changed_by ledger request)
    by (Keeps stays is) = of_ledger _ (is ledger) old
    by (Lays layout tables jump_tables exception_tables stays is) = of_ledger _ (is ledger) old
    by (Changes block change keeps stays is) = of_ledger _ (is ledger) (same (with_state ledger block change) (state_names ledger block change keeps.name))
    by (Begins stays is) = of_ledger _ (is ledger) (same (with_begun ledger) (begun_names ledger ledger.current))
    by (Creates is) = of_request _ is (before_last (suc (length ledger.answers)) ledger.blocks (new_block (next_answer ledger)) (omega arith) old)
    by (Enters block is) = of_request _ is old
    by (ChangesEach change keeps stays is) = of_ledger _ (is ledger) (same (record ledger { blocks = map change ledger.blocks }) (mapped_names change keeps.name ledger.blocks))
    by (Declares ty is) = of_request _ is old
    by (Touches variable value is) = of_request _ is old
    by (Reads variable is) = of_request _ is (same (with_begun ledger) (begun_names ledger ledger.current))
    by (Marks need is) = of_request _ is old
    by (Appends entries instruction is) = of_request _ is (same (with_instruction ledger instruction) (built_names ledger instruction))

blocks_before : (script : Script) (ledger : Ledger) → AreBefore (length ledger.answers) (names_of ledger.blocks)
    → AreBefore (length (fold ledger_with ledger script).answers) (names_of (fold ledger_with ledger script).blocks)
blocks_before [] ledger all = all
blocks_before (request ∷ script) ledger all =
    blocks_before script (ledger_with ledger request)
    (subst (λ (n : ℕ). AreBefore n (names_of (changed_by ledger request).blocks)) (sym (one_longer ledger.answers (answers_to ledger request))) (kept_names ledger request all))

pub plain_blocks : (script : Script) → AreBefore (length script) (names_of (ledger_after script).blocks)
plain_blocks script = subst (λ (n : ℕ). AreBefore n (names_of (ledger_after script).blocks)) (answered script empty_ledger ∙ omega arith) (blocks_before script empty_ledger tt)

found_before : (bound : ℕ) (block : Name) (blocks : List BlockState) (state : BlockState) → AreBefore bound (names_of blocks) → find (λ s. same_name s.block block) blocks ≡ Some state → state.block.place < bound
found_before bound block [] state all is = let none : ⊥ = cc in absurd none
found_before bound block (first ∷ blocks) state all is = by (same_name first.block block) is (found_before bound block blocks state all.1)
  where
    held : Option BlockState → BlockState
    held None = first
    held (Some s) = s

    by : (c : Bool) → cond c (Some first) (find (λ s. same_name s.block block) blocks) ≡ Some state → (find (λ s. same_name s.block block) blocks ≡ Some state → state.block.place < bound)
        → state.block.place < bound
    by true so later = subst (λ (s : BlockState). s.block.place < bound) (ap held so) all.0
    by false so later = later so

pub block_in_before : (bound : ℕ) (ledger : Ledger) (block : Name) → AreBefore bound (names_of ledger.blocks) → IsTrue (has_block ledger block) → block.place < bound
block_in_before bound ledger block all is = by (block_state ledger block) refl is
  where
    by : (o : Option BlockState) → block_state ledger block ≡ o → IsTrue (is_some o) → block.place < bound
    by None same some = let none : ⊥ = cc in absurd none
    by (Some state) same some =
        subst (λ (x : Name). x.place < bound) (names_equal state.block block (found_named block ledger.blocks state same)) (found_before bound block ledger.blocks state all same)

-- a block that is there was made before
pub block_before : (script : Script) (block : Name) → HasState (ledger_after script) block → block.place < length script
block_before script block has =
    subst (λ (x : Name). x.place < length script) (names_equal has.0.block block (found_named block (ledger_after script).blocks has.0 has.1))
    (found_before (length script) block (ledger_after script).blocks has.0 (plain_blocks script) has.1)

-- TYPES -------------------------------------------------------------------------------------------------------------------

abbrev HeadTyped : (Name → «Type») → ℕ → Request → Type 0
HeadTyped types place (Build entries instruction) = (ty : «Type») → result_types instruction.operation instruction.controlling ≡ ty ∷ [] → types (answer_of place 1) ≡ ty
HeadTyped types place _ = Unit {0}

typed_first : (types : Name → «Type») (place : ℕ) (request : Request) (more : Script) → HeadTyped types place request → AreTyped types (suc place) more → AreTyped types place (request ∷ more)
typed_first types place (Build entries instruction) more head rest = (head, rest)
typed_first types place _ more head rest = rest

head_typed : (types : Name → «Type») (ledger : Ledger) (request : Request) → HaveTypes (ledger_with ledger request) types → HeadTyped types (length ledger.answers) request
head_typed types ledger (Build entries instruction) have = λ ty gives.
    have (answer_of (length ledger.answers) 1) ty
    (ap value_answer_type (answers_last ledger.answers (AnInstruction ∷ map AValue (result_types instruction.operation instruction.controlling)) 1)
    ∙ ap (λ (types : List «Type»). value_answer_type (slice_get (AnInstruction ∷ map AValue types) 1)) gives)
head_typed types ledger _ have = tt

pub all_typed : (types : Name → «Type») (script : Script) (ledger : Ledger) (place : ℕ) → length ledger.answers ≡ place → HaveTypes (fold ledger_with ledger script) types → AreTyped types place script
all_typed types [] ledger place at have = tt
all_typed types (request ∷ script) ledger place at have =
    typed_first types place request script
    (subst (λ (p : ℕ). HeadTyped types p request) at (head_typed types ledger request (types_before (ledger_with ledger request) script types have)))
    (all_typed types script (ledger_with ledger request) (suc place) (one_longer ledger.answers (answers_to ledger request) ∙ ap suc at) have)
