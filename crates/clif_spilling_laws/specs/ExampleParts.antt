-- What the worked examples of spilling share: what is recorded, what is called, and single instructions and blocks. Own.
use Rattle.std.specs.Prelude.{◌==◌, ℕ, Bool, true, List, [], ◌∷◌, None, pos}
use Rattle.clif_opcodes.specs.declared.opcodes.StackOpcode.TheVariants.{StackAddr}
use Rattle.clif_types.specs.declared.call_conv.CallConv.TheVariants.{SystemV}
use Rattle.clif_types.specs.declared.extname.ExternalName.{ExternalName}
use Rattle.clif_types.specs.declared.extname.ExternalName.TheVariants as name
use Rattle.clif_types.specs.declared.stackmap.UserStackMapEntry.{UserStackMapEntry}
use Rattle.clif_types.specs.declared.types.«Type».TheVariants as type
use Rattle.clif_types.specs.Signature.{SignatureShape}
use Rattle.clif_meaning.specs.Bits.{Bits}
use Rattle.clif_meaning.specs.CallExamples.{i64}
use Rattle.clif_meaning.specs.FunctionView.{BlockView, Placed}
use Rattle.clif_meaning.specs.Instruction.{Load, Return, Stack, Store}
use Rattle.clif_meaning.specs.Machine.{Ending, Returned}
use Rattle.clif_spilling_laws.specs.Spilling.{Reload, plain_item, trusted}

-- every argument counts
abbrev pub every : ℕ → ℕ → Bool
every target place = true

-- value 0 alone is recorded
abbrev pub only_first : ℕ → Bool
only_first v = v == 0

-- what is called
abbrev pub callee : ExternalName
callee = name.User (record { namespace = 0; index = 1 })

abbrev pub no_signature : SignatureShape
no_signature = record { params = []; returns = []; call_conv = SystemV }

-- the function takes an `i64`, and returns one
abbrev pub passes_one : SignatureShape
passes_one = record { params = record { value_type = i64 } ∷ []; returns = record { value_type = i64 } ∷ []; call_conv = SystemV }

-- INSTRUCTIONS AND BLOCKS -----------------------------------------------------------------------------------------------

abbrev pub address_of_slot : ℕ → Placed
address_of_slot address = plain_item (Stack StackAddr 0 (pos 0)) i64 [] (address ∷ [])

abbrev pub store_in : (value address : ℕ) → Placed
store_in value address = plain_item (Store (trusted None) (pos 0)) i64 (value ∷ address ∷ []) []

abbrev pub load_from : (address copy : ℕ) → Placed
load_from address copy = plain_item (Load (trusted None) (pos 0)) i64 (address ∷ []) (copy ∷ [])

abbrev pub the_entry : UserStackMapEntry
the_entry = record { ty = i64; slot = 0; offset = 0 }

abbrev pub returns_value : ℕ → Placed
returns_value value = plain_item Return type.Invalid (value ∷ []) []

abbrev pub empty_block : BlockView
empty_block = record { parameters = []; items = [] }

-- a reload of a value
abbrev pub reload_of : (value address copy : ℕ) → Reload
reload_of value address copy = record { access = record { value = value; address = address; region = None }; copy = copy }

-- the bits that a run returned
abbrev pub returned_bits : Ending → List Bits
returned_bits (Returned results memory) = results
returned_bits _ = []
