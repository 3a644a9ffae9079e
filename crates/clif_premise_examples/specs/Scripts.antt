-- The scripts of the examples. The rows `copy12` and `%try` are from the project's worked functions, the others own.
use Rattle.std.specs.Prelude.{◌++◌, ℕ, Bool, true, false, List, [], ◌∷◌, map, None, pos}
use Rattle.clif_types.specs.MemFlags.{MemFlagsShape}
use Rattle.clif_types.specs.Signature.{SignatureShape}
use Rattle.clif_types.specs.declared.call_conv.CallConv.TheVariants.{SystemV}
use Rattle.clif_types.specs.declared.extname.ExternalName.TheVariants as name
use Rattle.clif_types.specs.declared.libcall.LibCall.TheVariants.{Memcpy}
use Rattle.clif_types.specs.declared.trapcode.TrapCode.TheVariants.{IntegerOverflow}
use Rattle.clif_types.specs.declared.types.«Type».{«Type»}
use Rattle.clif_opcodes.specs.declared.opcodes.StackOpcode.TheVariants.{StackLoad}
use Rattle.clif_tables.specs.Entries.{AFunction, ASignature, AStackSlot, TableEntry}
use Rattle.clif_meaning.specs.Acceptance.{call_function, iconst, jump, load, return_, table_branch, trap}
use Rattle.clif_meaning.specs.BranchExamples.{block, plain}
use Rattle.clif_meaning.specs.ByteOperation.{ByteOperation, CallLibrary, Copy}
use Rattle.clif_meaning.specs.CallExamples.{i64}
use Rattle.clif_meaning.specs.Examples.{i32}
use Rattle.clif_meaning.specs.Instruction.{Bytes, Edge, Known, Operation, Stack, StackStore, Store}
use Rattle.clif_meaning.specs.Ledger.{ledger_after}
use Rattle.clif_meaning.specs.Name.{Name, answer_of}
use Rattle.clif_meaning.specs.Request.{AppendBlockParams, AppendFunctionParams, Build, CreateBlock, DeclareVar, DefVar, MakeEdge, MakeEntry, MakeJumpTable, NeedStackMap, OfValue, Request, SealAllBlocks, SealBlock, Script, ServedBy, SwitchToBlock}
use Rattle.clif_meaning.specs.TryExamples.{try_script}
use Rattle.clif_expansion.specs.ScriptCall.{Ask, Emit, ScriptCall}
use Rattle.clif_expansion.specs.Switching.{switching}

-- a signature of these types
abbrev pub taking : (params returns : List «Type») → SignatureShape
taking params returns = record { params = map (λ ty. record { value_type = ty }) params; returns = map (λ ty. record { value_type = ty }) returns; call_conv = SystemV }

abbrev pub asking : Script → List ScriptCall
asking script = map Ask script

-- an instruction without edges, at a type
abbrev pub building : Operation → «Type» → List Name → Request
building operation ty operands = Build [] (record { operation = operation; controlling = ty; operands = operands; contexts = []; edges = [] })

-- an access with these flags is aligned and doesn't trap; and one of which nothing is said
abbrev pub trusted : MemFlagsShape
trusted = record { notrap = true; aligned = true; alias_region = None }

abbrev pub untrusted : MemFlagsShape
untrusted = record { notrap = false; aligned = false; alias_region = None }

-- ALL PREMISES ------------------------------------------------------------------------------------------------------------

-- What lies at the parameter, an address, is loaded, stored behind it, put into a stack slot of 8 bytes, and returned from there.
abbrev pub memory_script : Script
memory_script =
    CreateBlock ∷ MakeEntry (AStackSlot (record { size = 8; align_shift = 3 })) ∷ AppendFunctionParams (block 0) (i64 ∷ [])
    ∷ SwitchToBlock (block 0) ∷ SealBlock (block 0) ∷ load trusted i64 (answer_of 2 0) (pos 0)
    ∷ building (Store trusted (pos 8)) i64 (answer_of 5 1 ∷ answer_of 2 0 ∷ []) ∷ building (StackStore 0 (pos 0)) i64 (answer_of 5 1 ∷ [])
    ∷ building (Stack StackLoad 0 (pos 0)) i64 [] ∷ return_ (answer_of 8 1 ∷ []) ∷ []

-- a memory helper at pointers of 64 bits, with what it imports
abbrev pub helping : List TableEntry → ByteOperation → List Name → ScriptCall
helping imports operation operands = Emit imports (record { operation = Bytes operation; controlling = i64; operands = operands; contexts = []; edges = [] })

-- a copy of 12 bytes, with these alignments; no accesses need imports for it
abbrev pub copying : (alignment : ℕ) (no_overlap : Bool) → MemFlagsShape → ScriptCall
copying alignment no_overlap flags =
    helping [] (Copy (record { size = 12; target_alignment = alignment; source_alignment = alignment; no_overlap = no_overlap; flags = flags }))
    (answer_of 1 0 ∷ answer_of 1 1 ∷ [])

-- a function by the name of `Memcpy`, of this signature, which is the first one in its table
abbrev pub memcpy_by : SignatureShape → List TableEntry
memcpy_by signature =
    ASignature signature ∷ AFunction (record { name = name.LibCall Memcpy; signature = 0; colocated = false; patchable = false }) ∷ []

-- The copy of the row `copy12`: from the second parameter to the first one. Then the same, said to be of bytes that don't overlap and
-- are aligned; and then by `Memcpy`.
abbrev pub copies_calls : List ScriptCall
copies_calls =
    asking (CreateBlock ∷ AppendFunctionParams (block 0) (i64 ∷ i64 ∷ []) ∷ SwitchToBlock (block 0) ∷ SealBlock (block 0) ∷ iconst i64 (pos 12) ∷ [])
    ++ copying 1 false untrusted ∷ copying 4 true trusted
    ∷ helping (memcpy_by (taking (i64 ∷ i64 ∷ i64 ∷ []) (i64 ∷ []))) (CallLibrary Memcpy) (answer_of 1 0 ∷ answer_of 1 1 ∷ answer_of 4 1 ∷ [])
    ∷ asking (return_ [] ∷ [])

-- an edge to the block at this place that passes this name
abbrev pub passing : ℕ → Name → Edge Name Name
passing number x = record { target = block number; arguments = Known x ∷ [] }

-- the edges of the table: to the last block by default, to one that traps, and to one that switches on what it is passed
abbrev pub table_edges : List (Edge Name Name)
table_edges = plain (block 3) ∷ plain (block 1) ∷ passing 2 (answer_of 4 0) ∷ []

-- By the parameter along a table; then, by a switch, 1 goes to the last block, which returns 7, and all others to the one that traps.
abbrev pub branches_calls : List ScriptCall
branches_calls =
    asking (
    CreateBlock ∷ CreateBlock ∷ CreateBlock ∷ CreateBlock ∷ AppendFunctionParams (block 0) (i32 ∷ []) ∷ AppendBlockParams (block 2) (i32 ∷ [])
    ∷ MakeEdge (plain (block 3)) ∷ MakeEdge (plain (block 1)) ∷ MakeEdge (passing 2 (answer_of 4 0))
    ∷ MakeJumpTable (answer_of 6 0) (answer_of 7 0 ∷ answer_of 8 0 ∷ []) ∷ SwitchToBlock (block 0)
    ∷ Build (ServedBy 0 ∷ []) (table_branch (answer_of 4 0) table_edges) ∷ SwitchToBlock (block 1) ∷ trap IntegerOverflow ∷ SwitchToBlock (block 2) ∷ [])
    ++ Emit [] (switching (1 ∷ []) i32 (answer_of 5 0) (plain (block 3) ∷ plain (block 1) ∷ []))
    ∷ asking (SwitchToBlock (block 3) ∷ iconst i32 (pos 7) ∷ return_ (answer_of 17 1 ∷ []) ∷ SealAllBlocks ∷ [])

-- the row `%try`: a try call, of which either edge returns
abbrev pub try_calls : List ScriptCall
try_calls = asking try_script

-- A PREMISE FAILS ---------------------------------------------------------------------------------------------------------

-- a return of nothing
abbrev pub bare_script : Script
bare_script = CreateBlock ∷ SwitchToBlock (block 0) ∷ SealBlock (block 0) ∷ return_ [] ∷ []

-- a jump to a block in which nothing is made, and one to the entry
abbrev pub unfilled_script : Script
unfilled_script = CreateBlock ∷ CreateBlock ∷ SwitchToBlock (block 0) ∷ jump (plain (block 1)) ∷ SealAllBlocks ∷ []

abbrev pub to_entry_script : Script
to_entry_script = CreateBlock ∷ SwitchToBlock (block 0) ∷ jump (plain (block 0)) ∷ SealAllBlocks ∷ []

-- the return of another block's parameter
abbrev pub stray_script : Script
stray_script =
    CreateBlock ∷ CreateBlock ∷ AppendBlockParams (block 1) (i32 ∷ []) ∷ SwitchToBlock (block 0) ∷ SealBlock (block 0) ∷ return_ (answer_of 2 0 ∷ []) ∷ []

-- a jump that passes another block's parameter
abbrev pub passing_script : Script
passing_script =
    CreateBlock ∷ CreateBlock ∷ CreateBlock ∷ AppendBlockParams (block 1) (i32 ∷ []) ∷ AppendBlockParams (block 2) (i32 ∷ [])
    ∷ SwitchToBlock (block 0) ∷ jump (passing 1 (answer_of 4 0)) ∷ SwitchToBlock (block 1) ∷ return_ (answer_of 3 0 ∷ []) ∷ SealAllBlocks ∷ []

-- what stack maps are asked to name is assigned to a variable that isn't marked
abbrev pub tracked_script : Script
tracked_script =
    CreateBlock ∷ SwitchToBlock (block 0) ∷ SealBlock (block 0) ∷ DeclareVar i32 ∷ iconst i32 (pos 7) ∷ NeedStackMap (OfValue (answer_of 4 1))
    ∷ DefVar 0 (answer_of 4 1) ∷ return_ [] ∷ []

-- a call of `Memcpy` by a signature that takes nothing
abbrev pub importing_script : Script
importing_script = CreateBlock ∷ SwitchToBlock (block 0) ∷ SealBlock (block 0) ∷ map MakeEntry (memcpy_by (taking [] []))

abbrev pub misnamed_script : Script
misnamed_script = importing_script ++ call_function (ledger_after importing_script) 0 [] ∷ return_ [] ∷ []
