-- What an outside call of a script names. Source: own.
use Rattle.std.specs.Prelude.{List, ◌∷◌}
use Rattle.clif_calls.specs.declared.call.Name.{Name}
use Rattle.clif_calls.specs.declared.outside.OutsideCall.{OutsideCall}
use Rattle.clif_calls.specs.declared.outside.OutsideCall.TheVariants as outside

-- the values that it names, in order: what is called, where that is an address, and then what is passed
abbrev pub operands_of : OutsideCall → List Name
operands_of (outside.Call function args) = args.items
operands_of (outside.CallIndirect signature callee args) = callee ∷ args.items
