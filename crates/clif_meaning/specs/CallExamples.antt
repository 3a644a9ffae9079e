-- Worked examples of outside calls: a collector that adds 16 to each number but zero, on both machines.
use Rattle.std.specs.Prelude.{◌≡◌, ℕ, ◌==◌, nat_lt, nat_le, ◌&&◌, if◌then◌else◌, Bool, true, List, [], ◌∷◌, map, Some}
use Rattle.clif_types.specs.declared.types.«Type».{«Type»}
use Rattle.clif_types.specs.declared.types.«Type».TheVariants as type
use Rattle.clif_types.specs.declared.types.LaneType.TheVariants as lane
use Rattle.clif_types.specs.declared.call_conv.CallConv.TheVariants.{SystemV}
use Rattle.clif_types.specs.declared.stackmap.UserStackMapEntry.{UserStackMapEntry}
use Rattle.clif_meaning.specs.Bits.{Bits, value_of_bytes}
use Rattle.clif_meaning.specs.Memory.{Memory, bytes_in}
use Rattle.clif_meaning.specs.Instruction.{Edge, Argument, Known, CallResult, CallPayload}
use Rattle.clif_meaning.specs.Event.{Callee, AtAddress, CallShape, Default, Answer, Results, Exception, payload_types}
use Rattle.clif_meaning.specs.World.{World}
use Rattle.clif_meaning.specs.Outcome.{Goes}
use Rattle.clif_meaning.specs.Machine.{At}
use Rattle.clif_meaning.specs.Name.{Name, answer_of, same_name}
use Rattle.clif_meaning.specs.Program.{empty_program}
use Rattle.clif_meaning.specs.Typing.{EdgeMatches, EachEdgeMatches}
use Rattle.clif_meaning.specs.ScriptMachine as script
use Rattle.clif_meaning.specs.FunctionMachine as function
use Rattle.clif_meaning.specs.Examples.{i32, empty_function}

abbrev pub i64 : «Type»
i64 = type.Lane lane.I64

-- a call of what lies at address 500, which takes an `i64` and gives an `i32`, with one item of an exception table
abbrev pub sample_call : CallShape
sample_call = record {
  signature = record { params = record { value_type = i64 } ∷ []; returns = record { value_type = i32 } ∷ []; call_conv = SystemV };
  items = Default ∷ [];
}

abbrev pub sample_callee : Callee
sample_callee = AtAddress 500 sample_call.signature

-- a spill slot of eight bytes lies at address 1000
abbrev pub slot_bytes : ℕ → Bool
slot_bytes address = nat_le 1000 address && nat_lt address 1008

-- variable 0 is marked, and answer 0 of the call at place 3 is tracked
abbrev pub sample_script_run : World → script.ScriptRun
sample_script_run world = record {
  program = record empty_program { parameters = λ block. answer_of 9 0 ∷ answer_of 9 1 ∷ [] };
  variable_type = λ v. i64;
  name_type = λ x. i64;
  is_marked = λ v. v == 0;
  is_tracked = same_name (answer_of 3 0);
  hidden = slot_bytes;
  world = world;
}

-- every variable and name holds 64, and every byte of memory is 7
abbrev pub sample_script_state : script.ScriptState
sample_script_state = record { variables = λ v. 64; names = λ x. 64; memory = λ address. 7; events = []; control = At [] }

-- the state after the call
abbrev pub script_called : World → script.ScriptState
script_called world = script.call_outside (sample_script_run world) sample_script_state sample_callee sample_call (64 ∷ [])

-- the normal edge passes the tracked name and the call's result, the other one the name and a part of the exception
abbrev pub sample_edges : List (Edge Name Name)
sample_edges =
    record { target = answer_of 1 0; arguments = Known (answer_of 3 0) ∷ CallResult 0 ∷ [] }
    ∷ record { target = answer_of 2 0; arguments = Known (answer_of 3 0) ∷ CallPayload 1 ∷ [] } ∷ []

-- the state after an answer
abbrev pub script_answered : World → Answer → script.ScriptState
script_answered world answer = script.take_answer (sample_script_run world) (script_called world) sample_edges [] [] answer

-- the state after a call of a library function along the same edges, which answers 5 and leaves 3 in every byte
abbrev pub library_called : World → script.ScriptState
library_called world = script.carry_out (sample_script_run world) sample_script_state sample_edges [] [] (Goes 0 (5 ∷ []) (λ address. 3))

-- value 4 lies in the slot, value 5 is an alias of value 4
abbrev pub sample_function_run : World → function.Collector → function.FunctionRun
sample_function_run world collector = record {
  function = record empty_function { resolved = λ v. if v == 5 then 4 else v; value_type = λ v. i64 };
  collector = collector;
  hidden = slot_bytes;
  world = world;
}

abbrev pub sample_entry : UserStackMapEntry
sample_entry = record { ty = i64; slot = 0; offset = 0 }

-- every value is 64, the slot holds 64 too, and every other byte is 7
abbrev pub sample_function_state : function.FunctionState
sample_function_state = record {
  values = λ v. 64;
  memory = λ address. if address == 1000 then 64 else (if slot_bytes address then 0 else 7);
  events = [];
  control = At [];
}

abbrev pub function_called : World → function.Collector → function.FunctionState
function_called world collector =
    function.call_outside (sample_function_run world collector) sample_function_state (sample_entry ∷ []) sample_callee sample_call (64 ∷ [])

-- what the slot holds
abbrev pub slot_value : Memory → Bits
slot_value memory = value_of_bytes (bytes_in memory (record { width = 64; start = 1000; size = 8 }))

-- What is seen in a world whose collector adds 16, that puts slot 0 at 1000 and leaves 9 in every byte.
pub record CallIsSeen (world : World) : Type 0 where
  -- the marked variable and the tracked name move, and nothing else
  pub marked : (script_called world).variables 0 ≡ 80
  pub unmarked : (script_called world).variables 1 ≡ 64
  pub tracked : (script_called world).names (answer_of 3 0) ≡ 80
  pub untracked : (script_called world).names (answer_of 3 1) ≡ 64
  -- the event shows memory without the slot, and the world leaves memory beside the slot
  pub one_event : map (λ event. event.arguments) (script_called world).events ≡ (64 ∷ []) ∷ []
  pub slot_unseen : map (λ event. event.memory 1007) (script_called world).events ≡ 0 ∷ []
  pub rest_seen : map (λ event. event.memory 1008) (script_called world).events ≡ 7 ∷ []
  pub left : (script_called world).memory 1008 ≡ 9
  -- edges are read after the move: the normal one with the result, the other one with a part of the exception
  pub normal : (script_answered world (Results (5 ∷ []))).names (answer_of 9 0) ≡ 80
  pub result : (script_answered world (Results (5 ∷ []))).names (answer_of 9 1) ≡ 5
  pub raised : (script_answered world (Exception 0 (6 ∷ 7 ∷ []))).names (answer_of 9 1) ≡ 7
  -- a call of a library function isn't seen, and moves nothing; it takes the normal edge with its result
  pub library_unseen : (library_called world).events ≡ []
  pub library_unmoved : (library_called world).names (answer_of 9 0) ≡ 64
  pub library_result : (library_called world).names (answer_of 9 1) ≡ 5
  pub library_memory : (library_called world).memory 1008 ≡ 3
  -- by maps the slot moves, and no value; over a set the member that isn't an alias moves, and no slot
  pub slot_moves : slot_value (function_called world function.ByMaps).memory ≡ 80
  pub value_stays : (function_called world function.ByMaps).values 4 ≡ 64
  pub member_moves : (function_called world (function.OverSet (λ v. true))).values 4 ≡ 80
  pub alias_stays : (function_called world (function.OverSet (λ v. true))).values 5 ≡ 64
  pub other_stays : (function_called world (function.OverSet (λ v. v == 4))).values 3 ≡ 64
  pub slot_stays : slot_value (function_called world (function.OverSet (λ v. true))).memory ≡ 64
  -- both machines show the same events
  pub same_events : (script_called world).events ≡ (function_called world function.ByMaps).events

-- the normal edge of the call leads to a block of an `i64` and an `i32`, the other one to a block of two `i64`
abbrev pub sample_parameters : Name → List «Type»
sample_parameters block = if same_name block (answer_of 1 0) then i64 ∷ i32 ∷ [] else i64 ∷ i64 ∷ []

-- an edge of an item that passes these
abbrev pub item_edge : List (Argument Name) → Edge Name Name
item_edge arguments = record { target = answer_of 2 0; arguments = arguments }

-- What a call gives may stand on its own edge alone, and at its own type.
pub record EdgeExamples : Type 0 where
  pub agree : EachEdgeMatches (λ x. i64) sample_parameters (Some sample_call) sample_edges
  -- a result on the edge of an item
  pub misplaced : EdgeMatches (λ x. i64) (λ block. i32 ∷ []) [] payload_types (item_edge (CallResult 0 ∷ [])) → ⊥
  -- a third part of an exception, which has two
  pub missing : EdgeMatches (λ x. i64) (λ block. i64 ∷ []) [] payload_types (item_edge (CallPayload 2 ∷ [])) → ⊥
  -- one argument too few, and one of another type
  pub fewer : EdgeMatches (λ x. i64) (λ block. i64 ∷ i64 ∷ []) [] payload_types (item_edge (CallPayload 0 ∷ [])) → ⊥
  pub other : EdgeMatches (λ x. i64) (λ block. i32 ∷ []) [] payload_types (item_edge (Known (answer_of 3 0) ∷ [])) → ⊥

-- there is a world in which this is seen
abbrev pub CallExamples : Type 0
CallExamples = (world : World) × CallIsSeen world
