-- The function means what the calls mean, by the clause of `replay`, for the signature that was made.
use Rattle.std.proofs.Common.{List, subst}
use Rattle.clif_types.specs.Signature.{SignatureShape}
use Rattle.clif_types.specs.declared.target.PointerWidth.TheVariants.{U64}
use Rattle.clif_calls.specs.declared.call.Call.{Call}
use Rattle.clif_expansion.specs.CallsHeadline.{CallsMeanTheSame}
use Rattle.clif_meaning.specs.View.{view_of}
use Rattle.clif_replay.specs.Requests.{calls_of}
use Rattle.toy_compiler.specs.Meaning.{toy_target}
use Rattle.toy_compiler.proofs.program.CompiledFunction.build.Goals as goal

pub returns : goal.returns
returns c =
    let view = view_of c.in_ok-replay.field-0 in
    subst (λ (signature : SignatureShape). CallsMeanTheSame (calls_of toy_target signature c.args.self.now.calls.items) signature U64 view) c.in_ok-signature.ensures
    (subst (λ (calls : List Call). CallsMeanTheSame (calls_of toy_target c.in_ok-signature.signature calls) c.in_ok-signature.signature U64 view) c.as_slice-calls.ensures.value c.in_ok-replay.ensures.same_meaning)
