-- How short lists are kept. Source: own. No contract speaks of it.
use Rattle.std.specs.Prelude.{ℕ, List, [], ◌∷◌}
use Rattle.clif_instructions.specs.declared.value_list.Values.{Values}
use Rattle.clif_instructions.specs.declared.value_list.Values.TheVariants as values
use Rattle.clif_instructions.specs.declared.block_call.BlockArg.{BlockArg}
use Rattle.clif_instructions.specs.declared.block_call.Args.{Args}
use Rattle.clif_instructions.specs.declared.block_call.Args.TheVariants as args

-- the values of a list
abbrev pub values_of : Values → List ℕ
values_of values.None = []
values_of (values.One value) = value ∷ []
values_of (values.Two pair) = pair
values_of (values.Few few) = few.value.items
values_of (values.Many many) = many.value

-- what an edge passes
abbrev pub args_of : Args → List BlockArg
args_of args.None = []
args_of (args.One arg) = arg ∷ []
args_of (args.Four four) = four.value.items
args_of (args.Eight eight) = eight.value.items
args_of (args.Many many) = many.value.items
