-- Which orders of sealing are allowed. A block is sealed once, behind the last branch to it and before the end; one that is left
-- before it has its terminator is sealed before that. After the documentation of `seal_block` and `switch_to_block` of Cranelift's
-- `FunctionBuilder`; the definition is own.
use Rattle.std.specs.Prelude.{not, ◌&&◌, ◌||◌, Bool, true, [], ◌∷◌, ◌++◌, IsTrue, Option, Some, None}
use Rattle.std.specs.List.{list_all}
use Rattle.clif_meaning.specs.Acceptance.{allows, can_leave}
use Rattle.clif_meaning.specs.Instruction.{Edge}
use Rattle.clif_meaning.specs.Ledger.{BlockState, Ledger, begins_with, empty_ledger, has_block, has_predecessors, is_sealed, ledger_with}
use Rattle.clif_meaning.specs.Name.{Name}
use Rattle.clif_meaning.specs.Request.{Request, SwitchToBlock, SealBlock, Build, ChangeJumpDestination, Finalize, Script}

-- what the edge leads to isn't sealed
abbrev pub is_unsealed_target : Ledger → Edge Name Name → Bool
is_unsealed_target ledger edge = not (is_sealed ledger edge.target)

-- nothing was made in the block, or it is sealed
abbrev pub is_sealed_if_begun : BlockState → Bool
is_sealed_if_begun state = not (not state.is_pristine && not state.is_sealed)

-- What each kind of call asks of the sealing before it. What is sealed is there, and wasn't sealed. Where another block becomes the
-- current one the old one can be left: if it is neither pristine nor filled it is sealed, has no predecessor and isn't the entry.
-- What a branch, a switch or a changed jump leads to isn't sealed, and neither is what the jump led to. At the end each block that was
-- begun is sealed.
abbrev pub allows_order : Ledger → Request → Bool
allows_order ledger (SealBlock block) = has_block ledger block && not (is_sealed ledger block)
allows_order ledger (SwitchToBlock block) = can_leave ledger ledger.current
allows_order ledger (Build entries instruction) = list_all (is_unsealed_target ledger) instruction.edges
allows_order ledger (ChangeJumpDestination branch from to) = not (is_sealed ledger from) && not (is_sealed ledger to)
allows_order ledger Finalize = list_all is_sealed_if_begun ledger.blocks
allows_order ledger _ = true

-- each call gets what it asks, behind the calls before it
abbrev pub is_allowed_from : Ledger → Script → Bool
is_allowed_from ledger [] = true
is_allowed_from ledger (request ∷ script) = allows_order ledger request && is_allowed_from (ledger_with ledger request) script

-- the script's order of sealing is allowed, with `finalize` behind it
abbrev pub is_allowed_order : Script → Bool
is_allowed_order script = is_allowed_from empty_ledger (script ++ Finalize ∷ [])

abbrev pub IsAllowedOrder : Script → Type 0
IsAllowedOrder script = IsTrue (is_allowed_order script)

-- The block is the entry, a branch leads to it, or it isn't there: whether it can be left doesn't depend on its sealing.
abbrev pub is_left_anyhow : Ledger → Option Name → Bool
is_left_anyhow ledger None = true
is_left_anyhow ledger (Some block) = begins_with ledger.layout block || has_predecessors ledger block || not (has_block ledger block)

-- The call gets what it asks, or leaves a block that it may not leave in any order.
abbrev pub spares_order : Ledger → Request → Bool
spares_order ledger (SwitchToBlock block) = can_leave ledger ledger.current || is_left_anyhow ledger ledger.current
spares_order ledger request = allows_order ledger request

-- sealing is never to blame, as far as calls are made: behind one that may not be made none is
abbrev pub is_blameless_from : Ledger → Script → Bool
is_blameless_from ledger [] = true
is_blameless_from ledger (request ∷ script) =
    spares_order ledger request && (not (allows ledger request) || is_blameless_from (ledger_with ledger request) script)

abbrev pub IsBlamelessOrder : Script → Type 0
IsBlamelessOrder script = IsTrue (is_blameless_from empty_ledger (script ++ Finalize ∷ []))
