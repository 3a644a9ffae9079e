-- Scripts that differ only in when blocks are sealed: without the calls that seal they are the same list of calls, in which
-- each answer is named by its call's place. That sealing is no part of what a script means is from the documentation of
-- Cranelift's `FunctionBuilder`; the definition is own.
use Rattle.std.specs.Prelude.{◌≡◌, ◌+◌, ℕ, Bool, true, false, not, if◌then◌else◌, length, map, filter, take, Option, Some, None, slice_get}
use Rattle.clif_meaning.specs.Name.{Name, answer_of}
use Rattle.clif_meaning.specs.Request.{Request, CreateBlock, SwitchToBlock, SealBlock, SealAllBlocks, InsertBlockAfter, SetColdBlock, EnsureInsertedBlock, AppendBlockParams, AppendFunctionParams, DeclareVar, DefVar, UseVar, MakeEntry, MakeEdge, MakeJumpTable, MakeExceptionTable, Annotate, NeedStackMap, Build, ChangeJumpDestination, Finalize, Script, TableItem, TagTo, DefaultTo, InContext, StackMapNeed, OfVariable, OfValue}
use Rattle.clif_renaming.specs.Renaming.{renamed_edge, renamed_instruction}

-- the call says that no more branches to blocks come, and nothing else
abbrev pub is_sealing : Request → Bool
is_sealing (SealBlock block) = true
is_sealing SealAllBlocks = true
is_sealing _ = false

-- the other calls
abbrev pub without_seals : Script → Script
without_seals script = filter (λ request. not (is_sealing request)) script

-- there is a call, and it is one of these
abbrev pub is_left : Option Request → Bool
is_left None = false
is_left (Some request) = not (is_sealing request)

-- The place of a call among the other calls. A call that seals answers nothing, and neither does a place behind the script:
-- they are put behind the others.
abbrev pub place_left : Script → ℕ → ℕ
place_left script place =
    if is_left (slice_get script place) then length (without_seals (take place script)) else length script + place

-- the same answer, named by that place
abbrev pub name_left : Script → Name → Name
name_left script name = answer_of (place_left script name.place) name.index

-- an item of an exception table with its name renamed
abbrev pub renamed_item : (Name → Name) → TableItem → TableItem
renamed_item rename (TagTo tag edge) = TagTo tag (rename edge)
renamed_item rename (DefaultTo edge) = DefaultTo (rename edge)
renamed_item rename (InContext value) = InContext (rename value)

-- what stack maps are asked to name, renamed
abbrev pub renamed_need : (Name → Name) → StackMapNeed → StackMapNeed
renamed_need rename (OfVariable variable) = OfVariable variable
renamed_need rename (OfValue value) = OfValue (rename value)

-- a call with its names renamed
abbrev pub renamed_request : (Name → Name) → Request → Request
renamed_request rename CreateBlock = CreateBlock
renamed_request rename (SwitchToBlock block) = SwitchToBlock (rename block)
renamed_request rename (SealBlock block) = SealBlock (rename block)
renamed_request rename SealAllBlocks = SealAllBlocks
renamed_request rename (InsertBlockAfter block after) = InsertBlockAfter (rename block) (rename after)
renamed_request rename (SetColdBlock block) = SetColdBlock (rename block)
renamed_request rename EnsureInsertedBlock = EnsureInsertedBlock
renamed_request rename (AppendBlockParams block types) = AppendBlockParams (rename block) types
renamed_request rename (AppendFunctionParams block types) = AppendFunctionParams (rename block) types
renamed_request rename (DeclareVar ty) = DeclareVar ty
renamed_request rename (DefVar variable value) = DefVar variable (rename value)
renamed_request rename (UseVar variable) = UseVar variable
renamed_request rename (MakeEntry entry) = MakeEntry entry
renamed_request rename (MakeEdge edge) = MakeEdge (renamed_edge rename edge)
renamed_request rename (MakeJumpTable default entries) = MakeJumpTable (rename default) (map rename entries)
renamed_request rename (MakeExceptionTable signature normal items) = MakeExceptionTable signature (rename normal) (map (renamed_item rename) items)
renamed_request rename (Annotate inside values) = Annotate inside (map rename values)
renamed_request rename (NeedStackMap need) = NeedStackMap (renamed_need rename need)
renamed_request rename (Build entries instruction) = Build entries (renamed_instruction rename instruction)
renamed_request rename (ChangeJumpDestination branch from to) = ChangeJumpDestination (rename branch) (rename from) (rename to)
renamed_request rename Finalize = Finalize

-- the script without its calls that seal
abbrev pub unsealed : Script → Script
unsealed script = map (renamed_request (name_left script)) (without_seals script)

abbrev pub DifferInSealing : Script → Script → Type 0
DifferInSealing left right = unsealed left ≡ unsealed right
