-- A function as contracts see it: tables by number, and the order of the blocks. Source: own.
use Rattle.std.specs.Prelude.{ℕ, zero, suc, List, [], length, slice_index_or, Option, Some, None}
use Rattle.clif_types.specs.Signature.{SignatureShape}
use Rattle.clif_types.specs.declared.extname.UserFuncName.{UserFuncName}
use Rattle.clif_types.specs.declared.extname.UserFuncName.TheVariants.{User}
use Rattle.clif_types.specs.declared.call_conv.CallConv.TheVariants.{Fast}
use Rattle.clif_tables.specs.Lists.{TableLists, no_entries}
use Rattle.clif_nodes.specs.declared.nodes.ValueOrigin.{ValueOrigin}
use Rattle.clif_nodes.specs.declared.nodes.ValueOrigin.TheVariants.{Result, Param, Alias}
use Rattle.clif_nodes.specs.declared.nodes.ValueNode.{ValueNode}
use Rattle.clif_nodes.specs.declared.nodes.InstNode.{InstNode}
use Rattle.clif_nodes.specs.Nodes.{BlockNode, empty_block, no_value, no_inst}

pub record Body : Type 0 where
  pub name : UserFuncName
  pub signature : SignatureShape
  -- each value, by its number: its type and where it comes from
  pub values : List ValueNode
  -- each instruction, by its number
  pub insts : List InstNode
  -- each block, by its number: its parameters and its instructions, in order, and whether it is cold
  pub blocks : List BlockNode
  -- the blocks of the layout, in order
  pub layout : List ℕ
  -- stack slots, signatures, functions, constants and so on
  pub tables : TableLists

-- the function that has nothing but a name and a signature
abbrev pub empty_body : UserFuncName → SignatureShape → Body
empty_body name signature =
    record { name = name; signature = signature; values = []; insts = []; blocks = []; layout = []; tables = no_entries }

-- the function `u0:0` with no parameters and no returned values, by the convention `fast`
abbrev pub empty_function : Body
empty_function =
    empty_body
    (User (record { namespace = 0; index = 0 }))
    (record { params = []; returns = []; call_conv = Fast })

abbrev pub value_at : Body → ℕ → ValueNode
value_at f v = slice_index_or f.values v no_value

abbrev pub inst_at : Body → ℕ → InstNode
inst_at f i = slice_index_or f.insts i no_inst

abbrev pub block_at : Body → ℕ → BlockNode
block_at f b = slice_index_or f.blocks b empty_block

-- the value that a value is another name of, if it is one
abbrev pub alias_of_origin : ValueOrigin → Option ℕ
alias_of_origin (Result i k) = None
alias_of_origin (Param b) = None
alias_of_origin (Alias original) = Some original

abbrev pub alias_of : List ValueNode → ℕ → Option ℕ
alias_of values v = alias_of_origin (slice_index_or values v no_value).origin

abbrev pub follow_link : Option ℕ → (ℕ → ℕ) → ℕ → ℕ
follow_link None next v = v
follow_link (Some original) next v = next original

-- the value that is reached from `v` in at most so many steps along aliases
unfoldable pub follow : ℕ → List ValueNode → ℕ → ℕ
follow zero values v = v
follow (suc steps) values v = follow_link (alias_of values v) (follow steps values) v

-- the value that `v` stands for: the end of the way along its aliases
abbrev pub resolved : Body → ℕ → ℕ
resolved f v = follow (length f.values) f.values v
