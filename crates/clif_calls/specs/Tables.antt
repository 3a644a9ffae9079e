-- What a call that an exception table serves names. Source: own.
use Rattle.std.specs.Prelude.{List, ◌∷◌}
use Rattle.clif_calls.specs.declared.call.Name.{Name}
use Rattle.clif_calls.specs.declared.table.ThrowingCall.{ThrowingCall}
use Rattle.clif_calls.specs.declared.table.ThrowingCall.TheVariants as throwing

-- the values that it names, in order: what is called, where that is an address, and then what is passed
abbrev pub tried_operands : ThrowingCall → List Name
tried_operands (throwing.TryCall function args table) = args.items
tried_operands (throwing.TryCallIndirect callee args table) = callee ∷ args.items

-- the name of the table that serves it
abbrev pub table_of : ThrowingCall → Name
table_of (throwing.TryCall function args table) = table
table_of (throwing.TryCallIndirect callee args table) = table
