-- Exception tables and try calls in scripts, by computation. Own; the row is from the project's worked functions.
use Rattle.std.specs.Prelude.{◌≡◌, List, [], ◌∷◌, ◌++◌, Some, None, true, false}
use Rattle.clif_types.specs.declared.call_conv.CallConv.TheVariants.{SystemV}
use Rattle.clif_types.specs.declared.extname.ExternalName.TheVariants as name
use Rattle.clif_types.specs.Signature.{SignatureShape}
use Rattle.clif_types.specs.declared.types.«Type».TheVariants as type
use Rattle.clif_tables.specs.Entries.{AFunction, ASignature}
use Rattle.clif_meaning.specs.Event.{Context, Default}
use Rattle.clif_meaning.specs.Instruction.{CallPayload, CallResult, Edge, Known, Return}
use Rattle.clif_meaning.specs.Name.{Name, answer_of}
use Rattle.clif_meaning.specs.Request.{Request, Script, CreateBlock, SwitchToBlock, SealBlock, AppendBlockParams, AppendFunctionParams, MakeEdge, MakeEntry, MakeExceptionTable, Build, GivenEntry, ServedBy, TriedBy, DefaultTo, InContext, TagTo}
use Rattle.clif_meaning.specs.Ledger.{ledger_after, unserved_edges, unserved_exceptions}
use Rattle.clif_meaning.specs.Acceptance.{Accepted, Misuse, allows, br_table, return_, tables_differ, try_call, verdict_on}
use Rattle.clif_meaning.specs.Path.{Place}
use Rattle.clif_meaning.specs.Program.{program_of}
use Rattle.clif_meaning.specs.WellPlaced.{item_at, item_names, program_code, IsGivenBefore, IsWellPlaced}
use Rattle.clif_meaning.specs.CallExamples.{i64}
use Rattle.clif_meaning.specs.BranchExamples.{block}
use Rattle.clif_meaning.specs.Examples.{i32}

-- it takes an `i64` and returns an `i32`
abbrev pub narrowing : SignatureShape
narrowing = record { params = record { value_type = i64 } ∷ []; returns = record { value_type = i32 } ∷ []; call_conv = SystemV }

-- with the caller's value and what the call returns
abbrev pub returned : Edge Name Name
returned = record { target = block 1; arguments = Known (answer_of 3 0) ∷ CallResult 0 ∷ [] }

-- with the first part of the exception
abbrev pub thrown : Edge Name Name
thrown = record { target = block 2; arguments = CallPayload 0 ∷ [] }

-- three blocks with their parameters, a function, the two edges, and an exception table of these with a context
abbrev pub table_in : Name → Script
table_in context =
    CreateBlock ∷ CreateBlock ∷ CreateBlock ∷ AppendFunctionParams (block 0) (i64 ∷ []) ∷ AppendBlockParams (block 1) (i64 ∷ i32 ∷ [])
    ∷ AppendBlockParams (block 2) (i64 ∷ []) ∷ MakeEntry (ASignature narrowing)
    ∷ MakeEntry (AFunction (record { name = name.User (record { namespace = 0; index = 1 }); signature = 0; colocated = false; patchable = false }))
    ∷ MakeEdge returned ∷ MakeEdge thrown ∷ MakeExceptionTable 0 (answer_of 8 0) (InContext context ∷ DefaultTo (answer_of 9 0) ∷ [])
    ∷ SwitchToBlock (block 0) ∷ SealBlock (block 0) ∷ []

-- the context is the function's parameter
abbrev pub table_script : Script
table_script = table_in (answer_of 3 0)

-- the call of the function along the edges of table 0, as the calls of `table_script` have it
abbrev pub tries : Request
tries = try_call (ledger_after table_script) 0 (answer_of 3 0 ∷ []) 0

-- what the worked function `%try` does: it returns the caller's value, or the first part of the exception
abbrev pub try_script : Script
try_script =
    table_script
    ++ tries ∷ SealBlock (block 1) ∷ SealBlock (block 2) ∷ SwitchToBlock (block 1) ∷ return_ (answer_of 4 0 ∷ []) ∷ SwitchToBlock (block 2) ∷ return_ (answer_of 5 0 ∷ []) ∷ []

-- the call's place
abbrev pub call_place : Place Name
call_place = record { block = block 0; index = 0 }

-- a call whose context is a parameter of the block that it goes to
abbrev pub stray_script : Script
stray_script = table_in (answer_of 4 0) ++ try_call (ledger_after (table_in (answer_of 4 0))) 0 (answer_of 3 0 ∷ []) 0 ∷ []

-- an instruction that is given these entries
abbrev pub given : List GivenEntry → Request
given entries = Build entries (record { operation = Return; controlling = type.Invalid; operands = []; contexts = []; edges = [] })

-- an instruction with these contexts
abbrev pub in_contexts : List Name → Request
in_contexts names = Build [] (record { operation = Return; controlling = type.Invalid; operands = []; contexts = names; edges = [] })

pub record TryExamples : Type 0 where
  pub accepted : verdict_on try_script ≡ Accepted
  -- the table holds what its call named
  pub table : unserved_exceptions (ledger_after table_script) 0
      ≡ Some (record { signature = 0; edges = returned ∷ thrown ∷ []; items = Context ∷ Default ∷ []; contexts = answer_of 3 0 ∷ [] })
  -- it is no jump table, and after the call it serves no other
  pub no_jump_table : unserved_edges (ledger_after table_script) 0 ≡ None
  pub no_branch : verdict_on (table_script ++ br_table (ledger_after table_script) (answer_of 3 0) 0 ∷ []) ≡ Misuse 13
  pub served : unserved_exceptions (ledger_after (table_script ++ tries ∷ [])) 0 ≡ None
  pub served_twice : verdict_on (table_script ++ tries ∷ SwitchToBlock (block 1) ∷ tries ∷ []) ≡ Misuse 15
  -- a target is sealed between table and call
  pub sealed : verdict_on (table_script ++ SealBlock (block 2) ∷ tries ∷ []) ≡ Misuse 14
  -- a signature that wasn't imported
  pub not_imported : verdict_on (table_script ++ MakeExceptionTable 1 (answer_of 8 0) [] ∷ []) ≡ Misuse 13
  -- an item that names a block, and one whose context is no value
  pub no_edge : verdict_on (table_script ++ MakeExceptionTable 0 (answer_of 8 0) (TagTo 7 (block 2) ∷ []) ∷ []) ≡ Misuse 13
  pub no_context : verdict_on (table_script ++ MakeExceptionTable 0 (answer_of 8 0) (InContext (block 2) ∷ []) ∷ []) ≡ Misuse 13
  -- one instruction isn't given a table twice; a jump table and an exception table with one number are two tables
  pub given_once : allows (ledger_after table_script) (given (TriedBy 0 ∷ [])) ≡ true
  pub given_twice : allows (ledger_after table_script) (given (TriedBy 0 ∷ TriedBy 0 ∷ [])) ≡ false
  pub two_kinds : tables_differ (ServedBy 0 ∷ TriedBy 0 ∷ []) ≡ true
  -- the contexts of a call are its table's, and are values
  pub names_context : item_names (item_at (program_of try_script) call_place) ≡ answer_of 3 0 ∷ answer_of 3 0 ∷ []
  pub context_value : allows (ledger_after table_script) (in_contexts (answer_of 3 0 ∷ [])) ≡ true
  pub no_value : allows (ledger_after table_script) (in_contexts (block 2 ∷ [])) ≡ false
  -- they are given before the call on every path, or the script isn't well placed
  pub context_given : IsGivenBefore (program_code (program_of try_script)) (answer_of 3 0) call_place
  pub stray_named : item_names (item_at (program_of stray_script) call_place) ≡ answer_of 3 0 ∷ answer_of 4 0 ∷ []
  pub stray_placed : IsWellPlaced (program_code (program_of stray_script)) → ⊥
