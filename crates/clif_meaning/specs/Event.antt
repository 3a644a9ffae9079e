-- Outside calls as they are seen from outside, and what may be answered to them. Own.
use Rattle.std.specs.Prelude.{ℕ, ◌+◌, ◌<◌, List, [], ◌∷◌}
use Rattle.clif_types.specs.declared.types.«Type».{«Type»}
use Rattle.clif_types.specs.Signature.{SignatureShape}
use Rattle.clif_types.specs.declared.extname.ExternalName.{ExternalName}
use Rattle.clif_tables.specs.Callees.{types_of}
use Rattle.clif_types.specs.declared.types.«Type».TheVariants as type
use Rattle.clif_types.specs.declared.types.LaneType.TheVariants as lane
use Rattle.clif_meaning.specs.Bits.{Bits, AreValues}
use Rattle.clif_meaning.specs.Memory.{Memory}

-- what is called: a function by its name, or whatever lies at an address, by the signature that the call gives
pub data Callee : Type 0 where
  Named : ExternalName → Callee
  AtAddress : (address : ℕ) (signature : SignatureShape) → Callee

-- an item of a try call's exception table, its edge or context value aside
pub data CallItem : Type 0 where
  Tag : (tag : ℕ) → CallItem
  Default : CallItem
  Context : CallItem

-- what the answer to a call depends on beside what was shown: the signature, and a try call's items (other calls have
-- none)
pub record CallShape : Type 0 where
  pub signature : SignatureShape
  pub items : List CallItem

-- the call of a signature that isn't a try call
abbrev pub plain_call : SignatureShape → CallShape
plain_call signature = record { signature = signature; items = [] }

-- an outside call as it is shown: the callee, the bits of the arguments, and memory outside spill slots
pub record Event : Type 0 where
  pub callee : Callee
  pub arguments : List Bits
  pub memory : Memory

-- the answer to an outside call: results, or for a try call the edge of an item, counted among the items that have
-- one, with the payload of the exception
pub data Answer : Type 0 where
  Results : (results : List Bits) → Answer
  Exception : (edge : ℕ) (payload : List Bits) → Answer

-- how many items have an edge: a context has none
abbrev pub edge_count : List CallItem → ℕ
edge_count [] = 0
edge_count (Tag tag ∷ items) = 1 + edge_count items
edge_count (Default ∷ items) = 1 + edge_count items
edge_count (Context ∷ items) = edge_count items

-- the payload of an exception is two integers of 64 bits
abbrev pub payload_types : List «Type»
payload_types = type.Lane lane.I64 ∷ type.Lane lane.I64 ∷ []

-- the answer is well typed: results by the signature, an exception on the edge of an item
abbrev pub IsAnswerTo : CallShape → Answer → Type 0
IsAnswerTo call (Results results) = AreValues (types_of call.signature.returns) results
IsAnswerTo call (Exception edge payload) = (edge < edge_count call.items) × AreValues payload_types payload
