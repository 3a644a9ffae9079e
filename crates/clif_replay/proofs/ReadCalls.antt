-- Each call of a list asks the builder for what the list's own request asks, with its names read, where each name is read as its own.
use Rattle.std.proofs.Common.{◌≡◌, ℕ, zero, suc, ◌-◌, List, [], ◌∷◌, ◌++◌, length, refl, ap, ap₂, subst, sym, ◌∙◌}
use Rattle.std.specs.Prelude.{map, slice_get, option_and_then, unwrap_or, Option, Some, None}
use Rattle.std.specs.List.{AllZip}
use Rattle.clif_types.specs.declared.types.«Type».{«Type»}
use Rattle.clif_types.specs.Signature.{SignatureShape}
use Rattle.clif_types.specs.declared.target.TargetFrontendConfig.{TargetFrontendConfig}
use Rattle.clif_meaning.specs.ByteOperation.{ByteOperation}
use Rattle.clif_memory_helpers.specs.HelperLines.{emission_of}
use Rattle.clif_replay.specs.Helpers as helper
use Rattle.clif_tables.specs.Lists.{TableLists}
use Rattle.clif_meaning.specs.Acceptance.{exceptions_at, no_exceptions}
use Rattle.clif_instructions.specs.Instruction.{AFunctionRef, ASignatureRef}
use Rattle.clif_tables.specs.Callees.{function_at, signature_at}
use Rattle.clif_meaning.specs.Request.{Imported, TriedBy}
use Rattle.clif_meaning.specs.Event.{CallItem}
use Rattle.clif_meaning.specs.Instruction as meaning
use Rattle.clif_meaning.specs.Instruction.{BrTable, CallIndirect, TryCall, TryCallIndirect, Known, Edge}
use Rattle.clif_meaning.specs.Ledger.{ABlock, AVariable, AValue, AnInstruction, AnEntry, AnEdge, AJumpTable, AnExceptionTable, Answered, ExceptionTable, Ledger, answer_at, or_invalid, type_of, value_answer_type}
use Rattle.clif_meaning.specs.Name as named
use Rattle.clif_calls.specs.declared.call.Call.{Call}
use Rattle.clif_calls.specs.declared.call.Call.TheVariants as call
use Rattle.clif_calls.specs.declared.call.Edge as script
use Rattle.clif_calls.specs.declared.call.Name.{Name}
use Rattle.clif_calls.specs.declared.immediate.ImmediateCall.{ImmediateCall}
use Rattle.clif_calls.specs.declared.outside.OutsideCall.TheVariants as outside
use Rattle.clif_calls.specs.declared.straight.StraightInstruction.TheVariants as straight
use Rattle.clif_calls.specs.declared.plan.Plan.{Plan}
use Rattle.clif_calls.specs.declared.switch.SwitchEntry.{SwitchEntry}
use Rattle.clif_calls.specs.declared.table.Passed.{Passed}
use Rattle.clif_calls.specs.declared.table.Passed.TheVariants as passed
use Rattle.clif_calls.specs.declared.table.TableItem.{TableItem}
use Rattle.clif_calls.specs.declared.table.TableItem.TheVariants as item
use Rattle.clif_calls.specs.declared.table.ThrowingCall.TheVariants as throwing
use Rattle.clif_calls.specs.Plan.{edges_in, operands_in, plan_of}
use Rattle.clif_expansion.specs.Joining.{IsReadAnswer, IsReadException, IsReadExceptionTable, IsReadRequest, IsReadTable, IsReadTableItem}
use Rattle.clif_expansion.specs.Reading.{IsReadArgument, IsReadAs, IsReadEdge, IsReadInstruction, Reading}
use Rattle.clif_switch_calls.specs.SwitchCalls.{bare_edge}
use Rattle.clif_replay.specs.Cases.{cases_of, switch_under}
use Rattle.clif_tables.specs.Entries.{TableEntry}
use Rattle.clif_resolution.specs.Entries.{ExceptionTables, Functions, JumpTables, NamedTable, Numbers, Signatures, StackSlots, number_in}
use Rattle.clif_replay.specs.Entries.{count_of, entry_as, entry_named, numbers_in}
use Rattle.clif_replay.specs.Requests.{Naming, edge_of, emission_under, item_of, operand_in, name_of, passed_of, request_in, request_of, request_under, request_with}
use Rattle.clif_replay.proofs.Planning.{controlling-same}

-- what is read as an answer has its type
pub type-read : (reading : Reading) (a b : Option Answered) → IsReadAnswer reading a b → value_answer_type a ≡ value_answer_type b
type-read reading None None is = refl
type-read reading (Some ABlock) (Some ABlock) is = refl
type-read reading (Some (AVariable v)) (Some (AVariable w)) is = refl
type-read reading (Some (AValue t)) (Some (AValue u)) is = ap (λ (ty : «Type»). Some ty) is
type-read reading (Some AnInstruction) (Some AnInstruction) is = refl
type-read reading (Some (AnEntry e m)) (Some (AnEntry d n)) is = refl
type-read reading (Some (AnEdge e)) (Some (AnEdge d)) is = refl
type-read reading (Some (AJumpTable m)) (Some (AJumpTable n)) is = refl
type-read reading (Some (AnExceptionTable m)) (Some (AnExceptionTable n)) is = refl
type-read reading _ _ is = absurd is

-- and is the same entry
pub entry-read : (table : NamedTable) (reading : Reading) (a b : Option Answered) → IsReadAnswer reading a b
    → option_and_then (λ (answered : Answered). number_in table (entry_as answered)) a ≡ option_and_then (λ (answered : Answered). number_in table (entry_as answered)) b
entry-read table reading None None is = refl
entry-read table reading (Some ABlock) (Some ABlock) is = refl
entry-read table reading (Some (AVariable v)) (Some (AVariable w)) is = refl
entry-read table reading (Some (AValue t)) (Some (AValue u)) is = refl
entry-read table reading (Some AnInstruction) (Some AnInstruction) is = refl
entry-read table reading (Some (AnEntry e m)) (Some (AnEntry d n)) is = ap₂ (λ (made : TableEntry) (number : ℕ). number_in table (entry_as (AnEntry made number))) is.0 is.1
entry-read table reading (Some (AnEdge e)) (Some (AnEdge d)) is = refl
entry-read table reading (Some (AJumpTable m)) (Some (AJumpTable n)) is = ap (λ (number : ℕ). number_in table (entry_as (AJumpTable number))) is
entry-read table reading (Some (AnExceptionTable m)) (Some (AnExceptionTable n)) is = ap (λ (number : ℕ). number_in table (entry_as (AnExceptionTable number))) is
entry-read table reading _ _ is = absurd is

-- the edges of a table are read
table-read : (reading : Reading) (tables' tables : List (Option (List (Edge named.Name named.Name)))) (k : ℕ) → AllZip (IsReadTable reading) tables' tables
    → AllZip (IsReadEdge reading) (unwrap_or (option_and_then (λ edges. edges) (slice_get tables' k)) []) (unwrap_or (option_and_then (λ edges. edges) (slice_get tables k)) [])
table-read reading [] [] k are = tt
table-read reading [] (table ∷ tables) k are = absurd are
table-read reading (table' ∷ tables') [] k are = absurd are
table-read reading (None ∷ tables') (None ∷ tables) zero are = tt
table-read reading (Some edges' ∷ tables') (Some edges ∷ tables) zero are = are.0
table-read reading (None ∷ tables') (Some edges ∷ tables) zero are = absurd are.0
table-read reading (Some edges' ∷ tables') (None ∷ tables) zero are = absurd are.0
table-read reading (table' ∷ tables') (table ∷ tables) (suc k) are = table-read reading tables' tables k are.1

-- so is what an exception table holds
exception-read : (reading : Reading) (tables' tables : List (Option ExceptionTable)) (k : ℕ) → AllZip (IsReadException reading) tables' tables
    → IsReadExceptionTable reading (unwrap_or (option_and_then (λ held. held) (slice_get tables' k)) no_exceptions) (unwrap_or (option_and_then (λ held. held) (slice_get tables k)) no_exceptions)
exception-read reading [] [] k are = record { signature = refl; edges = tt; items = refl; contexts = tt }
exception-read reading [] (table ∷ tables) k are = absurd are
exception-read reading (table' ∷ tables') [] k are = absurd are
exception-read reading (None ∷ tables') (None ∷ tables) zero are = record { signature = refl; edges = tt; items = refl; contexts = tt }
exception-read reading (Some held' ∷ tables') (Some held ∷ tables) zero are = are.0
exception-read reading (None ∷ tables') (Some held ∷ tables) zero are = absurd are.0
exception-read reading (Some held' ∷ tables') (None ∷ tables) zero are = absurd are.0
exception-read reading (table' ∷ tables') (table ∷ tables) (suc k) are = exception-read reading tables' tables k are.1

as-long : {X Y : Type 0} (R : X → Y → Type 0) (xs : List X) (ys : List Y) → AllZip R xs ys → length xs ≡ length ys
as-long R [] [] are = refl
as-long R [] (y ∷ ys) are = absurd are
as-long R (x ∷ xs) [] are = absurd are
as-long R (x ∷ xs) (y ∷ ys) are = ap suc (as-long R xs ys are.1)

-- Names that are read as others have their types and lead to the same entries, and tables are read.
pub record AreReadTables (reading : Reading) (plain ledger : Ledger) : Type 0 where
  pub entries : (table : NamedTable) (x name : named.Name) → IsReadAs reading x name → entry_named table plain x ≡ entry_named table ledger name
  pub types : (x name : named.Name) → IsReadAs reading x name → value_answer_type (answer_at plain x) ≡ value_answer_type (answer_at ledger name)
  pub jump_tables : AllZip (IsReadTable reading) plain.jump_tables ledger.jump_tables
  pub exception_tables : AllZip (IsReadException reading) plain.exception_tables ledger.exception_tables
  pub tables : plain.tables ≡ ledger.tables

module _ (reading : Reading) (naming : Naming) (plain ledger : Ledger) (joined : AreReadTables reading plain ledger)
    (reads : (name : Name) → IsReadAs reading (naming name) (name_of name)) where
  -- tables are as long, and names of entries stand for the same numbers
  counts-read : (table : NamedTable) → count_of table plain ≡ count_of table ledger
  counts-read StackSlots = ap (λ (tables : TableLists). length tables.stack_slots) joined.tables
  counts-read Signatures = ap (λ (tables : TableLists). length tables.signatures) joined.tables
  counts-read Functions = ap (λ (tables : TableLists). length tables.functions) joined.tables
  counts-read JumpTables = as-long (IsReadTable reading) plain.jump_tables ledger.jump_tables joined.jump_tables
  counts-read ExceptionTables = as-long (IsReadException reading) plain.exception_tables ledger.exception_tables joined.exception_tables

  pub numbers-read : numbers_in naming plain ≡ numbers_in name_of ledger
  numbers-read i table name = unwrap_or (joined.entries table (naming name) (name_of name) (reads name) i) (counts-read table i)

  -- a name has the same type
  pub type-same : (name : Name) → or_invalid (type_of plain (naming name)) ≡ or_invalid (type_of ledger (name_of name))
  type-same name = ap or_invalid (joined.types (naming name) (name_of name) (reads name))

  -- lists of names
  names-read : (names : List Name) → AllZip (IsReadAs reading) (map naming names) (map name_of names)
  names-read [] = tt
  names-read (name ∷ names) = (reads name, names-read names)

  known-read : (names : List Name) → AllZip (IsReadArgument reading) (map (λ name. Known (naming name)) names) (map (λ name. Known (name_of name)) names)
  known-read [] = tt
  known-read (name ∷ names) = (reads name, known-read names)

  edge-read : (edge : script.Edge) → IsReadEdge reading (edge_of naming edge) (edge_of name_of edge)
  edge-read edge = record { target = reads edge.block; arguments = known-read edge.args.items }

  edges-read : (edges : List script.Edge) → AllZip (IsReadEdge reading) (map (edge_of naming) edges) (map (edge_of name_of) edges)
  edges-read [] = tt
  edges-read (edge ∷ edges) = (edge-read edge, edges-read edges)

  passed-read : (args : List Passed) → AllZip (IsReadArgument reading) (map (passed_of naming) args) (map (passed_of name_of) args)
  passed-read [] = tt
  passed-read (passed.Value name ∷ args) = (reads name, passed-read args)
  passed-read (passed.Returned place ∷ args) = (refl, passed-read args)
  passed-read (passed.Thrown place ∷ args) = (refl, passed-read args)

  items-read : (items : List TableItem) → AllZip (IsReadTableItem reading) (map (item_of naming) items) (map (item_of name_of) items)
  items-read [] = tt
  items-read (item.Tag tag name ∷ items) = ((refl, reads name), items-read items)
  items-read (item.Default name ∷ items) = (reads name, items-read items)
  items-read (item.Context name ∷ items) = (reads name, items-read items)

  plan-read : (numbers : Numbers) (p : Plan) → IsReadRequest reading (request_in numbers naming plain p) (request_in numbers name_of ledger p)
  plan-read numbers p = (
    refl,
    record {
      operation = refl;
      controlling = controlling-same (λ name. or_invalid (type_of plain (naming name))) (λ name. or_invalid (type_of ledger (name_of name))) type-same p;
      operands = names-read (operands_in p);
      contexts = tt;
      edges = edges-read (edges_in p);
    },
  )

  -- what an exception table holds is read
  held-read : (table : ℕ) → IsReadExceptionTable reading (exceptions_at plain table) (exceptions_at ledger table)
  held-read table = exception-read reading plain.exception_tables ledger.exception_tables table joined.exception_tables

  -- so is a switch
  bare-read : (name : Name) → IsReadEdge reading (bare_edge (naming name)) (bare_edge (name_of name))
  bare-read name = record { target = reads name; arguments = tt }

  cases-read : (cases : List (ℕ × Name)) (otherwise : Name)
      → AllZip (IsReadEdge reading) (map (λ case. bare_edge (naming case.1)) cases ++ bare_edge (naming otherwise) ∷ [])
      (map (λ case. bare_edge (name_of case.1)) cases ++ bare_edge (name_of otherwise) ∷ [])
  cases-read [] otherwise = (bare-read otherwise, tt)
  cases-read (case ∷ cases) otherwise = (bare-read case.1, cases-read cases otherwise)

  pub switch-read : (entries : List SwitchEntry) (value otherwise : Name)
      → IsReadInstruction reading (switch_under naming plain entries value otherwise) (switch_under name_of ledger entries value otherwise)
  switch-read entries value otherwise = record {
    operation = refl;
    controlling = type-same value;
    operands = (reads value, tt);
    contexts = tt;
    edges = cases-read (cases_of entries) otherwise;
  }

  -- and arithmetic with a constant
  pub emission-read : (called : ImmediateCall) → IsReadInstruction reading (emission_under naming plain called) (emission_under name_of ledger called)
  emission-read called = record {
    operation = refl;
    controlling = type-same (operand_in called);
    operands = (reads (operand_in called), tt);
    contexts = tt;
    edges = tt;
  }

  -- and what a memory helper emits
  pub helper-read : (config : TargetFrontendConfig) (operation : ByteOperation) (names : List Name)
      → IsReadInstruction reading (emission_of config operation (map naming names)) (emission_of config operation (map name_of names))
  helper-read config operation names = record {
    operation = refl;
    controlling = refl;
    operands = names-read names;
    contexts = tt;
    edges = tt;
  }

  asked-read : (numbers : Numbers) (declared : SignatureShape) (c : Call)
      → IsReadRequest reading (request_with numbers naming declared plain c) (request_with numbers name_of declared ledger c)
  asked-read numbers declared call.CreateBlock = tt
  asked-read numbers declared (call.SwitchToBlock block) = reads block
  asked-read numbers declared (call.SealBlock block) = reads block
  asked-read numbers declared call.SealAllBlocks = tt
  asked-read numbers declared (call.InsertBlockAfter block after) = (reads block, reads after)
  asked-read numbers declared (call.SetColdBlock block) = reads block
  asked-read numbers declared call.EnsureInsertedBlock = tt
  asked-read numbers declared (call.AppendBlockParam block ty) = (reads block, refl)
  asked-read numbers declared (call.AppendBlockParamsForFunctionParams block) = (reads block, refl)
  asked-read numbers declared (call.AppendBlockParamsForFunctionReturns block) = (reads block, refl)
  asked-read numbers declared (call.Entry entry) = refl
  asked-read numbers declared (call.BlockCall edge) = record { target = reads edge.block; arguments = passed-read edge.args.items }
  asked-read numbers declared (call.CreateJumpTable default entries) = (reads default, names-read entries.items)
  asked-read numbers declared (call.CreateExceptionTable callee normal items) = (refl, reads normal, items-read items.items)
  asked-read numbers declared (call.DeclareVar ty) = refl
  asked-read numbers declared (call.DeclareVarNeedsStackMap variable) = refl
  asked-read numbers declared (call.DeclareValueNeedsStackMap value) = reads value
  asked-read numbers declared (call.DefVar variable value) = (refl, reads value)
  asked-read numbers declared (call.UseVar variable) = refl
  asked-read numbers declared (call.TryDefVar variable value) = (refl, reads value)
  asked-read numbers declared (call.TryUseVar variable) = refl
  asked-read numbers declared (call.Straight lender (straight.Plain instruction)) = plan-read numbers (plan_of instruction)
  asked-read numbers declared (call.Immediate immediate) = (refl, tt)
  asked-read numbers declared (call.Switch entries value otherwise) = (refl, tt)
  asked-read numbers declared (call.Memory called) = (refl, names-read (helper.operands_in called))
  asked-read numbers declared (call.SetSrcloc srcloc) = (refl, tt)
  asked-read numbers declared call.CollectDebugInfo = (refl, tt)
  asked-read numbers declared (call.SetValLabel value label) = (refl, (reads value, tt))
  asked-read numbers declared (call.ChangeJumpDestination branch from to) = (reads branch, reads from, reads to)
  asked-read numbers declared (call.Straight lender (straight.F128const bytes)) = (refl, record { operation = refl; controlling = refl; operands = tt; contexts = tt; edges = tt })
  asked-read numbers declared (call.Straight lender (straight.Vconst ty bytes)) = (refl, record { operation = refl; controlling = refl; operands = tt; contexts = tt; edges = tt })
  asked-read numbers declared (call.Jump destination) =
      (refl, record { operation = refl; controlling = refl; operands = tt; contexts = tt; edges = edges-read (destination ∷ []) })
  asked-read numbers declared (call.Brif condition block_then block_else) = (
    refl,
    record {
      operation = refl;
      controlling = type-same condition;
      operands = (reads condition, tt);
      contexts = tt;
      edges = edges-read (block_then ∷ block_else ∷ []);
    },
  )
  asked-read numbers declared (call.Trap code) = (refl, record { operation = refl; controlling = refl; operands = tt; contexts = tt; edges = tt })
  asked-read numbers declared (call.Return values) =
      (refl, record { operation = refl; controlling = refl; operands = names-read values.items; contexts = tt; edges = tt })
  asked-read numbers declared (call.BrTable index table) =
      let edges = table-read reading plain.jump_tables ledger.jump_tables (numbers JumpTables table) joined.jump_tables in (
        refl,
        record {
          operation = ap (λ (n : ℕ). BrTable (n - 1)) (as-long (IsReadEdge reading) _ _ edges);
          controlling = refl;
          operands = (reads index, tt);
          contexts = tt;
          edges = edges;
        },
      )
  asked-read numbers declared (call.Straight lender (straight.Outside (outside.Call function args))) = (
    refl,
    record {
      operation = ap (λ (tables : TableLists). meaning.Call (function_at tables (numbers Functions function)).name (signature_at tables (function_at tables (numbers Functions function)).signature)) joined.tables;
      controlling = refl;
      operands = names-read args.items;
      contexts = tt;
      edges = tt;
    },
  )
  asked-read numbers declared (call.Straight lender (straight.Outside (outside.CallIndirect signature callee args))) = (
    refl,
    record {
      operation = ap (λ (tables : TableLists). CallIndirect (signature_at tables (numbers Signatures signature))) joined.tables;
      controlling = refl;
      operands = (reads callee, names-read args.items);
      contexts = tt;
      edges = tt;
    },
  )
  asked-read numbers declared (call.Throwing (throwing.TryCall function args table)) =
      let held = held-read (numbers ExceptionTables table) in
      let tables = joined.tables in (
        ap (λ (signature : ℕ). TriedBy (numbers ExceptionTables table) ∷ Imported (AFunctionRef (numbers Functions function)) ∷ Imported (ASignatureRef signature) ∷ []) held.signature,
        record {
          operation = ap (λ (lists : TableLists). TryCall (function_at lists (numbers Functions function)).name (record { signature = signature_at lists (exceptions_at plain (numbers ExceptionTables table)).signature; items = (exceptions_at plain (numbers ExceptionTables table)).items })) tables
              ∙ ap (λ (signature : ℕ). TryCall (function_at ledger.tables (numbers Functions function)).name (record { signature = signature_at ledger.tables signature; items = (exceptions_at plain (numbers ExceptionTables table)).items })) held.signature
              ∙ ap (λ (items : List CallItem). TryCall (function_at ledger.tables (numbers Functions function)).name (record { signature = signature_at ledger.tables (exceptions_at ledger (numbers ExceptionTables table)).signature; items = items })) held.items;
          controlling = refl;
          operands = names-read args.items;
          contexts = held.contexts;
          edges = held.edges;
        },
      )
  asked-read numbers declared (call.Throwing (throwing.TryCallIndirect callee args table)) =
      let held = held-read (numbers ExceptionTables table) in
      let tables = joined.tables in (
        ap (λ (signature : ℕ). TriedBy (numbers ExceptionTables table) ∷ Imported (ASignatureRef signature) ∷ []) held.signature,
        record {
          operation = ap (λ (lists : TableLists). TryCallIndirect (record { signature = signature_at lists (exceptions_at plain (numbers ExceptionTables table)).signature; items = (exceptions_at plain (numbers ExceptionTables table)).items })) tables
              ∙ ap (λ (signature : ℕ). TryCallIndirect (record { signature = signature_at ledger.tables signature; items = (exceptions_at plain (numbers ExceptionTables table)).items })) held.signature
              ∙ ap (λ (items : List CallItem). TryCallIndirect (record { signature = signature_at ledger.tables (exceptions_at ledger (numbers ExceptionTables table)).signature; items = items })) held.items;
          controlling = refl;
          operands = (reads callee, names-read args.items);
          contexts = held.contexts;
          edges = held.edges;
        },
      )

  pub request-read : (declared : SignatureShape) (c : Call) → IsReadRequest reading (request_under naming declared plain c) (request_of declared ledger c)
  request-read declared c =
      subst (λ (numbers : Numbers). IsReadRequest reading (request_with numbers naming declared plain c) (request_of declared ledger c)) (sym numbers-read)
      (asked-read (numbers_in name_of ledger) declared c)
