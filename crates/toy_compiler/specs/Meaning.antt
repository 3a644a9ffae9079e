-- What a compiled function means: what its calls mean, as the theorem on `replay` says it, under its premises.
use Rattle.std.specs.Prelude.{ℕ, [], ◌∷◌, replicate}
use Rattle.clif_types.specs.Signature.{SignatureShape}
use Rattle.clif_types.specs.declared.types.LaneType.TheVariants.{I64}
use Rattle.clif_types.specs.declared.types.«Type».TheVariants.{Lane}
use Rattle.clif_types.specs.declared.call_conv.CallConv.TheVariants.{SystemV}
use Rattle.clif_types.specs.declared.extfunc.AbiParam.{AbiParam}
use Rattle.clif_types.specs.declared.target.PointerWidth.TheVariants.{U64}
use Rattle.clif_types.specs.declared.target.TargetFrontendConfig.{TargetFrontendConfig}
use Rattle.clif_ir.specs.Body.{Body}
use Rattle.clif_meaning.specs.View.{view_of}
use Rattle.clif_expansion.specs.CallsHeadline.{CallsMeanTheSame}
use Rattle.clif_replay.specs.Requests.{calls_of}
use Rattle.toy_compiler.specs.declared.program.CompiledFunction.{CompiledFunction}

-- an integer of 64 bits, as is every value of the language
abbrev pub toy_value : AbiParam
toy_value = record { value_type = Lane I64 }

-- the signature of a function with so many parameters
abbrev pub toy_signature : ℕ → SignatureShape
toy_signature parameters = record { params = replicate parameters toy_value; returns = toy_value ∷ []; call_conv = SystemV }

-- the target: pointers of 64 bits, and pages of 4096 bytes
abbrev pub toy_target : TargetFrontendConfig
toy_target = record { default_call_conv = SystemV; pointer_width = U64; page_size_align_log2 = 12 }

-- the function means what the calls mean that the compiler made, in every world that meets the premises
abbrev pub MeansItsCalls : CompiledFunction → Body → Type 0
MeansItsCalls compiled function =
    let signature = toy_signature compiled.parameters in
    CallsMeanTheSame (calls_of toy_target signature compiled.calls.items) signature U64 (view_of function)
