-- Tests of the premises on single items: good targets, what is tracked apart, and calls of functions of the C library by their names.
use Rattle.std.proofs.Common.{◌≡◌, ◌≢◌, ◌&&◌, Bool, true, false, if◌then◌else◌, not, List, [], ◌∷◌, refl, sym, subst, Option, None, Some}
use Rattle.std.proofs.lemmas.Bool.{and_parts}
use Rattle.std.specs.Prelude.{IsTrue}
use Rattle.std.specs.List.{AllByRecursion, list_all}
use Rattle.clif_types.specs.declared.types.«Type».{«Type»}
use Rattle.clif_tables.specs.Callees.{types_of}
use Rattle.clif_meaning.specs.Access.{LibraryCall, library_call}
use Rattle.clif_meaning.specs.Instruction.{Edge}
use Rattle.clif_meaning.specs.Ledger.{Ledger, is_filled, is_marked}
use Rattle.clif_meaning.specs.Library.{library_parameters, library_returns}
use Rattle.clif_meaning.specs.Name.{Name, same_name}
use Rattle.clif_meaning.specs.Premises.{CallsLibraryAsNamed, EachItem, HasGoodTargets, IfLibraryCall, IsGoodTarget, KeepsTrackedApart}
use Rattle.clif_meaning.specs.Program.{Assign, Instruct, Item, Program, Use}
use Rattle.clif_meaning.specs.SameType.{same_types}
use Rattle.clif_meaning.proofs.SameTypes.{types_are}
use Rattle.clif_expansion.specs.ScriptCall.{ScriptCall, program_of_calls}
use Rattle.clif_premise_examples.proofs.Blocks.{blocks_of, each_block, same_itself}

abbrev is_entry : Option Name → Name → Bool
is_entry None block = false
is_entry (Some entry) block = same_name entry block

abbrev good_edge : Ledger → Program → Edge Name Name → Bool
good_edge ledger program edge = is_filled ledger edge.target && not (is_entry program.entry edge.target)

abbrev pub good_targets : Ledger → Program → Item → Bool
good_targets ledger program (Instruct place instruction results) = list_all (good_edge ledger program) instruction.edges
good_targets ledger program _ = true

abbrev pub kept_apart : Ledger → (Name → Bool) → Item → Bool
kept_apart ledger tracked (Instruct place instruction results) = true
kept_apart ledger tracked (Use variable name) = if tracked name then is_marked ledger variable else true
kept_apart ledger tracked (Assign variable name) = if tracked name then is_marked ledger variable else true

abbrev has_signature : «Type» → Option LibraryCall → Bool
has_signature pointer None = true
has_signature pointer (Some call) =
    same_types (types_of call.signature.params) (library_parameters pointer call.callee)
    && same_types (types_of call.signature.returns) (library_returns pointer call.callee)

abbrev pub as_named : «Type» → Item → Bool
as_named pointer (Instruct place instruction results) = has_signature pointer (library_call instruction.operation)
as_named pointer _ = true

-- they say so
each_edge : (ledger : Ledger) (program : Program) (edges : List (Edge Name Name)) → list_all (good_edge ledger program) edges ≡ true
    → AllByRecursion (IsGoodTarget ledger program) edges
each_edge ledger program [] test = tt
each_edge ledger program (edge ∷ edges) test =
    let parts = and_parts (good_edge ledger program edge) (list_all (good_edge ledger program) edges) test in
    let here = and_parts (is_filled ledger edge.target) (not (is_entry program.entry edge.target)) parts.0 in
    (record { filled = here.0; no_entry = no_entry program.entry here.1 }, each_edge ledger program edges parts.1)
  where
    no_entry : (entry : Option Name) → not (is_entry entry edge.target) ≡ true → entry ≢ Some edge.target
    no_entry None test same = cc
    no_entry (Some name) test same =
        let itself : same_name name name ≡ true = same_itself name in
        let one : name ≡ edge.target = cc in
        let met : same_name name edge.target ≡ true = subst (λ (n : Name). same_name name n ≡ true) one itself in
        let no_way : ⊥ = cc in no_way

pub targets_hold : (ledger : Ledger) (program : Program) (item : Item) → good_targets ledger program item ≡ true → HasGoodTargets ledger program item
targets_hold ledger program (Instruct place instruction results) test = each_edge ledger program instruction.edges test
targets_hold ledger program (Use variable name) test = tt
targets_hold ledger program (Assign variable name) test = tt

under : (condition there : Bool) → (if condition then there else true) ≡ true → IsTrue condition → IsTrue there
under true there test met = test
under false there test met = let no_way : ⊥ = cc in absurd no_way

pub apart_holds : (ledger : Ledger) (tracked : Name → Bool) (item : Item) → kept_apart ledger tracked item ≡ true → KeepsTrackedApart ledger tracked item
apart_holds ledger tracked (Instruct place instruction results) test = tt
apart_holds ledger tracked (Use variable name) test = under (tracked name) (is_marked ledger variable) test
apart_holds ledger tracked (Assign variable name) test = under (tracked name) (is_marked ledger variable) test

signature_is : (pointer : «Type») (call : Option LibraryCall) → has_signature pointer call ≡ true → IfLibraryCall pointer call
signature_is pointer None test = tt
signature_is pointer (Some call) test =
    let parts = and_parts _ _ test in
    record { parameters = types_are _ _ parts.0; returns = types_are _ _ parts.1 }

pub named_holds : (pointer : «Type») (item : Item) → as_named pointer item ≡ true → CallsLibraryAsNamed pointer item
named_holds pointer (Instruct place instruction results) test = signature_is pointer (library_call instruction.operation) test
named_holds pointer (Use variable name) test = tt
named_holds pointer (Assign variable name) test = tt

-- A test that says what holds of an item says what holds of each one of calls.
pub by_test : (calls : List ScriptCall) (P : Item → Type 0) (test : Item → Bool) → ((item : Item) → test item ≡ true → P item)
    → AllByRecursion (λ block. list_all test ((program_of_calls calls).items block) ≡ true) (blocks_of calls) → EachItem P (program_of_calls calls)
by_test calls P test says all block = each ((program_of_calls calls).items block) (tested block)
  where
    each : (items : List Item) → list_all test items ≡ true → AllByRecursion P items
    each [] met = tt
    each (item ∷ items) met = let parts = and_parts (test item) (list_all test items) met in (says item parts.0, each items parts.1)

    tested : (block : Name) → list_all test ((program_of_calls calls).items block) ≡ true
    tested = each_block calls _ (λ name none. subst (λ (items : List Item). list_all test items ≡ true) (sym none) refl) all
