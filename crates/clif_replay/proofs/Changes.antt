-- The tests before a branch is changed are the condition of that request in the ledger.
use Rattle.std.proofs.Common.{ℕ, List, refl, sym}
use Rattle.std.specs.Prelude.{◌≡◌, ◌↔◌, ◌&&◌, Bool, IsTrue, None, Some, false, not, true}
use Rattle.std.specs.List.{list_any}
use Rattle.std.proofs.lemmas.Bool.{and_parts, false_from_ne_true, false≢true, not-true}
use Rattle.clif_types.specs.Signature.{SignatureShape}
use Rattle.clif_instructions.specs.Members.{Stands, stands_in}
use Rattle.clif_records.specs.Tables.{is_yes}
use Rattle.clif_ssa.specs.Ssa.{predecessors_of, sealed_of}
use Rattle.clif_meaning.specs.Name.{same_name}
use Rattle.clif_meaning.specs.Acceptance.{allows}
use Rattle.clif_meaning.specs.Ledger.{BlockState, block_state, has_block, has_instruction, is_sealed, leads_to}
use Rattle.clif_meaning.specs.Request.{AnsweredCall, ChangeJumpDestination}
use Rattle.clif_builder.specs.declared.builder.FunctionBuilder.{FunctionBuilder}
use Rattle.clif_builder.specs.LeadsLaw.{LeadsAreReadByNumber}
use Rattle.clif_builder.specs.Ledger.{NamesBlock, NamesInstruction, ledger_of}
use Rattle.clif_calls.specs.declared.call.Name.{Name}
use Rattle.clif_resolution.specs.declared.answers.Answer.{Answer}
use Rattle.clif_replay.specs.Ready.{IsReady, can_change}
use Rattle.clif_resolution.specs.Answers.{block_of, inst_of}
use Rattle.clif_resolution.specs.Conditions.{can_seal}
use Rattle.clif_replay.specs.Requests.{Naming}
use Rattle.clif_replay.proofs.Conditions.{no-state, sealed-same}
use Rattle.clif_replay.proofs.Placements.{Stands-from_test, test-from_Stands}
use Rattle.clif_replay.proofs.ReadyLaws.{block-found, block-missing, inst-found, inst-missing, read}

-- a test that tells whether a number stands in a list is that test
pub stands-same : (r : Bool) (x : ℕ) (xs : List ℕ) → (IsTrue r ↔ Stands x xs) → r ≡ stands_in x xs
stands-same true x xs tells = sym (test-from_Stands x xs (tells.0 refl))
stands-same false x xs tells = sym (false_from_ne_true (stands_in x xs) (λ there. false≢true (tells.1 (Stands-from_test x xs there))))

-- no instruction
pub change-no_branch : {R : Type 0} {naming : Naming} {declared : SignatureShape} (calls : List AnsweredCall) (b : FunctionBuilder R) (answers : List Answer) → IsReady naming declared calls b answers
    → (branch from to : Name) → inst_of answers branch ≡ None → allows (ledger_of calls) (ChangeJumpDestination (naming branch) (naming from) (naming to)) ≡ false
change-no_branch calls b answers ready branch from to missing = let none = inst-missing calls b answers ready branch missing in rw none refl

-- no block that it could lead to
pub change-no_source : {R : Type 0} {naming : Naming} {declared : SignatureShape} (calls : List AnsweredCall) (b : FunctionBuilder R) (answers : List Answer) → IsReady naming declared calls b answers
    → (branch from to : Name) → block_of answers from ≡ None → allows (ledger_of calls) (ChangeJumpDestination (naming branch) (naming from) (naming to)) ≡ false
change-no_source {naming} calls b answers ready branch from to missing =
    by (has_instruction (ledger_of calls) (naming branch)) (leads_to (ledger_of calls) (naming branch) (naming from)) (is_sealed (ledger_of calls) (naming from))
    (has_block (ledger_of calls) (naming to)) (is_sealed (ledger_of calls) (naming to))
    (no-state (block_state (ledger_of calls) (naming from)) (λ (state : BlockState). list_any (same_name (naming branch)) state.predecessors)
    (block-missing calls b answers ready from missing))
  where
    by : (there leads closed has full : Bool) → leads ≡ false → ((((there && leads) && not closed) && has) && not full) ≡ false
    by true leads closed has full is = rw is refl
    by false leads closed has full is = refl

-- no block that it is to lead to
pub change-no_target : {R : Type 0} {naming : Naming} {declared : SignatureShape} (calls : List AnsweredCall) (b : FunctionBuilder R) (answers : List Answer) → IsReady naming declared calls b answers
    → (branch from to : Name) → block_of answers to ≡ None → allows (ledger_of calls) (ChangeJumpDestination (naming branch) (naming from) (naming to)) ≡ false
change-no_target {naming} calls b answers ready branch from to missing =
    by (has_instruction (ledger_of calls) (naming branch)) (leads_to (ledger_of calls) (naming branch) (naming from)) (is_sealed (ledger_of calls) (naming from))
    (has_block (ledger_of calls) (naming to)) (is_sealed (ledger_of calls) (naming to)) (block-missing calls b answers ready to missing)
  where
    by : (there leads closed has full : Bool) → has ≡ false → ((((there && leads) && not closed) && has) && not full) ≡ false
    by true true true has full is = refl
    by true true false has full is = rw is refl
    by true false closed has full is = refl
    by false leads closed has full is = refl

pub change-some : {R : Type 0} → LeadsAreReadByNumber → {naming : Naming} {declared : SignatureShape} (calls : List AnsweredCall) (b : FunctionBuilder R) (answers : List Answer) → IsReady naming declared calls b answers
    → (branch from to : Name) (inst source target : ℕ) → inst_of answers branch ≡ Some inst → block_of answers from ≡ Some source → block_of answers to ≡ Some target
    → allows (ledger_of calls) (ChangeJumpDestination (naming branch) (naming from) (naming to)) ≡ can_change b inst source target
change-some law {naming} {declared} calls b answers ready branch from to inst source target found_branch found_from found_to =
    by (has_instruction (ledger_of calls) (naming branch)) (leads_to (ledger_of calls) (naming branch) (naming from)) (is_sealed (ledger_of calls) (naming from))
    (has_block (ledger_of calls) (naming to)) (is_sealed (ledger_of calls) (naming to))
    (stands_in inst (predecessors_of b.ctx.now.parts.ssa source)) (is_yes (sealed_of b.ctx.now.parts.ssa source)) (is_yes (sealed_of b.ctx.now.parts.ssa target))
    names_branch.is_instruction (law declared calls b.func.now b.ctx.now.parts b.position (naming branch) (naming from) inst source ready.stands names_branch names_from)
    (sealed-same calls b answers ready (naming from) source ((read calls b answers ready).named (naming from) source names_from))
    names_to.is_block
    (sealed-same calls b answers ready (naming to) target ((read calls b answers ready).named (naming to) target names_to))
  where
    names_branch : NamesInstruction calls (naming branch) inst
    names_branch = inst-found calls b answers ready branch inst found_branch

    names_from : NamesBlock calls (naming from) source
    names_from = block-found calls b answers ready from source found_from

    names_to : NamesBlock calls (naming to) target
    names_to = block-found calls b answers ready to target found_to

    cases : (l s t : Bool) → ((((true && l) && not s) && true) && not t) ≡ ((l && not s) && not t)
    cases true true t = refl
    cases true false t = refl
    cases false s t = refl

    by : (there leads closed has full l s t : Bool) → there ≡ true → leads ≡ l → closed ≡ s → has ≡ true → full ≡ t
        → ((((there && leads) && not closed) && has) && not full) ≡ ((l && not s) && not t)
    by there leads closed has full l s t one two three four five = rw (one, two, three, four, five) (cases l s t)

-- what the tests tell where the branch may be changed
pub record MayChange {R : Type 0} (b : FunctionBuilder R) (inst source target : ℕ) : Type 0 where
  pub leads : Stands inst (predecessors_of b.ctx.now.parts.ssa source)
  pub source_open : is_yes (sealed_of b.ctx.now.parts.ssa source) ≡ false
  pub target_open : is_yes (sealed_of b.ctx.now.parts.ssa target) ≡ false

pub may-change : {R : Type 0} (b : FunctionBuilder R) (inst source target : ℕ) → can_change b inst source target ≡ true → MayChange b inst source target
may-change b inst source target may =
    let both = and_parts (stands_in inst (predecessors_of b.ctx.now.parts.ssa source) && can_seal b source) (can_seal b target) may in
    let first = and_parts (stands_in inst (predecessors_of b.ctx.now.parts.ssa source)) (can_seal b source) both.0 in
    record {
      leads = Stands-from_test inst (predecessors_of b.ctx.now.parts.ssa source) first.0;
      source_open = not-true (is_yes (sealed_of b.ctx.now.parts.ssa source)) first.1;
      target_open = not-true (is_yes (sealed_of b.ctx.now.parts.ssa target)) both.1;
    }
