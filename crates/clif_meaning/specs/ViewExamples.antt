-- The function of the row `first`, as the builder leaves it, and what the machines see of it.
use Rattle.std.specs.Prelude.{◌≡◌, [], ◌∷◌, Some, pos, false}
use Rattle.clif_types.specs.declared.extname.UserFuncName.TheVariants.{Testcase}
use Rattle.clif_types.specs.declared.target.PointerWidth.TheVariants.{U64}
use Rattle.clif_opcodes.specs.declared.opcodes.BinaryOpcode.TheVariants as binary
use Rattle.clif_instructions.specs.declared.instructions.InstructionData.TheVariants.{UnaryImm, Binary, MultiAry, TryCall}
use Rattle.clif_instructions.specs.declared.exception_table.ExceptionItem.TheVariants as item
use Rattle.clif_nodes.specs.declared.nodes.InstNode.{InstNode}
use Rattle.clif_tables.specs.Lists.{no_entries}
use Rattle.clif_nodes.specs.declared.nodes.ValueOrigin.TheVariants.{Result, Alias}
use Rattle.clif_ir.specs.Body.{Body}
use Rattle.clif_meaning.specs.World.{World}
use Rattle.clif_meaning.specs.Headline.{function_behaviour, MeansTheSame}
use Rattle.clif_meaning.specs.View.{instruction_of, view_of}
use Rattle.clif_meaning.specs.Examples.{i32, first_script, first_signature, first_function, ended_with}

-- The use of x made value 0 first, which is an alias of the zero now; the zero was made last, and stands first.
abbrev pub first_body : Body
first_body = record {
  name = Testcase (115 ∷ 97 ∷ 109 ∷ 112 ∷ 108 ∷ 101 ∷ []);
  signature = first_signature;
  values =
      record { ty = i32; origin = Alias 3 }
      ∷ record { ty = i32; origin = Result 0 0 }
      ∷ record { ty = i32; origin = Result 1 0 }
      ∷ record { ty = i32; origin = Result 3 0 } ∷ [];
  insts =
      record { shape = UnaryImm (pos 7); results = 1 ∷ []; block = 0; srcloc = 0 }
      ∷ record { shape = Binary binary.Iadd (0 ∷ 1 ∷ []); results = 2 ∷ []; block = 0; srcloc = 0 }
      ∷ record { shape = MultiAry (2 ∷ []); results = []; block = 0; srcloc = 0 }
      ∷ record { shape = UnaryImm (pos 0); results = 3 ∷ []; block = 0; srcloc = 0 } ∷ [];
  blocks = record { params = []; insts = 3 ∷ 0 ∷ 1 ∷ 2 ∷ []; is_cold = false } ∷ [];
  layout = 0 ∷ [];
  tables = no_entries;
}

-- a try call with a context
abbrev pub try_node : InstNode
try_node = record {
  shape = TryCall 0 (1 ∷ []) (record { sig = 0; edges = []; items = item.Tag 4 ∷ item.Context 2 ∷ item.Default ∷ [] });
  results = [];
  block = 0;
  srcloc = 0;
}

pub record ViewExamples : Type 0 where
  pub signature : (view_of first_body).signature ≡ first_signature
  pub entry : (view_of first_body).entry ≡ Some 0
  pub items : ((view_of first_body).blocks 0).items ≡ (first_function.blocks 0).items
  pub parameters : ((view_of first_body).blocks 0).parameters ≡ []
  pub alias : (view_of first_body).resolved 0 ≡ 3
  pub no_alias : (view_of first_body).resolved 2 ≡ 2
  pub answers_seven : (world : World) → function_behaviour first_script (view_of first_body) world 4 ≡ ended_with (7 ∷ []) world
  pub means_the_same : MeansTheSame first_script first_signature U64 (view_of first_body)
  -- a context of a try call is no operand of it
  pub contexts : (instruction_of first_body try_node).contexts ≡ 2 ∷ []
  pub operands : (instruction_of first_body try_node).operands ≡ 1 ∷ []
