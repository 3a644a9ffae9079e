-- The laws of what a builder stands for, as the contracts of this crate's law functions state them. Own.
use Rattle.std.specs.Prelude.{ℕ, List, Option}
use Rattle.clif_types.specs.Signature.{SignatureShape}
use Rattle.clif_ir.specs.Body.{Body}
use Rattle.clif_meaning.specs.Request.{AnsweredCall, script_of}
use Rattle.clif_meaning.specs.View.{view_of}
use Rattle.clif_meaning.specs.Typing.{EdgesMatch}
use Rattle.clif_meaning.specs.Premises.{CallersEdgesMatch}
use Rattle.clif_simulation.specs.Structure.{NoneWaits}
use Rattle.clif_builder.specs.Context.{ContextState}
use Rattle.clif_builder.specs.StandsFor.{StandsIn}

-- Once no parameter waits, the arguments of every edge and the parameters of its target agree, where the caller's do:
-- edges that control never takes, and edges to the entry, are no exception.
abbrev pub StandingMatchesEdges : Type 0
StandingMatchesEdges =
    (declared : SignatureShape) (calls : List AnsweredCall) (f : Body) (c : ContextState) (position : Option ℕ)
    → StandsIn declared calls f c position → NoneWaits c.ssa → CallersEdgesMatch (script_of calls) → EdgesMatch (view_of f)
