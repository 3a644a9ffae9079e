-- Which orders of sealing are allowed of calls that may also emit: an emission asks what an instruction that is built asks. After
-- the documentation of `seal_block` and `switch_to_block` of Cranelift's `FunctionBuilder`; the definition is own.
use Rattle.std.specs.Prelude.{not, ◌&&◌, ◌||◌, Bool, true, List, [], ◌∷◌, ◌++◌, IsTrue, is_some}
use Rattle.std.specs.List.{list_all}
use Rattle.clif_meaning.specs.Acceptance.{allows}
use Rattle.clif_meaning.specs.Ledger.{Ledger, empty_ledger}
use Rattle.clif_meaning.specs.Request.{Finalize}
use Rattle.clif_expansion.specs.ScriptCall.{Ask, Emit, ScriptCall, call_allowed, call_refusal, ledger_with_call}
use Rattle.clif_sealing_order_laws.specs.Order.{allows_order, is_unsealed_target, spares_order}

-- What each kind of call asks of the sealing before it. What an emission leads to isn't sealed.
abbrev pub allows_call_order : Ledger → ScriptCall → Bool
allows_call_order ledger (Ask request) = allows_order ledger request
allows_call_order ledger (Emit imports instruction) =
    list_all (is_unsealed_target ledger) instruction.edges

-- each call gets what it asks, behind the calls before it
abbrev pub are_allowed_from : Ledger → List ScriptCall → Bool
are_allowed_from ledger [] = true
are_allowed_from ledger (call ∷ calls) =
    allows_call_order ledger call && are_allowed_from (ledger_with_call ledger call) calls

-- the order of sealing of these calls is allowed, with `finalize` behind them
abbrev pub is_allowed_call_order : List ScriptCall → Bool
is_allowed_call_order calls = are_allowed_from empty_ledger (calls ++ Ask Finalize ∷ [])

abbrev pub IsAllowedCallOrder : List ScriptCall → Type 0
IsAllowedCallOrder calls = IsTrue (is_allowed_call_order calls)

-- The call gets what it asks, or leaves a block that it may not leave in any order.
abbrev pub spares_call_order : Ledger → ScriptCall → Bool
spares_call_order ledger (Ask request) = spares_order ledger request
spares_call_order ledger (Emit imports instruction) =
    allows_call_order ledger (Emit imports instruction)

-- The call is made: it may be, and is no switch that is refused.
abbrev pub is_made : Ledger → ScriptCall → Bool
is_made ledger (Ask request) = allows ledger request
is_made ledger (Emit imports instruction) =
    call_allowed ledger (Emit imports instruction)
    && not (is_some (call_refusal ledger (Emit imports instruction)))

-- sealing is never to blame, as far as calls are made: behind one that isn't made none is
abbrev pub are_blameless_from : Ledger → List ScriptCall → Bool
are_blameless_from ledger [] = true
are_blameless_from ledger (call ∷ calls) =
    spares_call_order ledger call
    && (not (is_made ledger call) || are_blameless_from (ledger_with_call ledger call) calls)

abbrev pub IsBlamelessCallOrder : List ScriptCall → Type 0
IsBlamelessCallOrder calls = IsTrue (are_blameless_from empty_ledger (calls ++ Ask Finalize ∷ []))
