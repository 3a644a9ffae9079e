-- When a builder stands for the calls of a script that may also emit: a sum or a comparison with a constant, a switch and a memory
-- helper are one call each. The builder was asked plain calls: those of the script with their names read, and code that performs what is
-- emitted. Pointers have one width, since the code of a memory helper is that of one width. Own.
use Rattle.std.specs.Prelude.{ℕ, List, length}
use Rattle.clif_types.specs.declared.target.PointerWidth.{PointerWidth}
use Rattle.clif_types.specs.Signature.{SignatureShape}
use Rattle.clif_ir.specs.Body.{Body}
use Rattle.clif_meaning.specs.Headline.{pointer_bits}
use Rattle.clif_meaning.specs.Ledger.{empty_ledger}
use Rattle.clif_meaning.specs.Name.{Name, answer_of}
use Rattle.clif_meaning.specs.Request.{AnsweredCall, script_of}
use Rattle.clif_meaning.specs.Typing.{EdgesMatch}
use Rattle.clif_meaning.specs.View.{view_of}
use Rattle.clif_meaning.specs.WellPlaced.{WellPlaced}
use Rattle.clif_expansion.specs.CallsHeadline.{CallersEdgesMatchInCalls, CallsMeanTheSame, CallsPlacementPremises}
use Rattle.clif_expansion.specs.CallsVerdict.{AreCallsAllowed}
use Rattle.clif_expansion.specs.JoinedCalls.{AreJoinedCalls}
use Rattle.clif_expansion.specs.PerformedCalls.{ArePerformed}
use Rattle.clif_expansion.specs.Reading.{IsReadAs, Reading}
use Rattle.clif_expansion.specs.ScriptCall.{ScriptCall, ledger_of}
use Rattle.clif_builder.specs.declared.builder.FunctionBuilder.{FunctionBuilder}
use Rattle.clif_builder.specs.Ledger.{NamesBlock, NamesValue}
use Rattle.clif_builder.specs.StandsFor.{StandsFor}

pub record StandsForCalls {R : Type 0} (width : PointerWidth) (declared : SignatureShape) (calls : List ScriptCall) (b : FunctionBuilder R) : Type 0 where
  -- the calls that the builder was asked, with its answers
  pub made : List AnsweredCall
  pub stands : StandsFor declared made b
  -- what their names stand for in the script
  pub reading : Reading
  pub joined : AreJoinedCalls reading (script_of made) calls
  pub performed : ArePerformed (pointer_bits width) reading (script_of made) calls joined
  -- each call of the script was allowed
  pub allowed : AreCallsAllowed empty_ledger calls

-- A name of the script leads to the value, or the block, that a name of the builder's calls has which stands for it.
pub record LeadsToValue {R : Type 0} {width : PointerWidth} {declared : SignatureShape} {calls : List ScriptCall} {b : FunctionBuilder R}
    (so_far : StandsForCalls width declared calls b) (name : Name) (value : ℕ) : Type 0 where
  pub plain : Name
  pub read : IsReadAs so_far.reading plain name
  pub named : NamesValue so_far.made plain value

pub record LeadsToBlock {R : Type 0} {width : PointerWidth} {declared : SignatureShape} {calls : List ScriptCall} {b : FunctionBuilder R}
    (so_far : StandsForCalls width declared calls b) (name : Name) (block : ℕ) : Type 0 where
  pub plain : Name
  pub read : IsReadAs so_far.reading plain name
  pub named : NamesBlock so_far.made plain block

-- Behind more calls the names of earlier ones lead where they led.
pub record GoesOn {R : Type 0} {width : PointerWidth} {declared : SignatureShape} {calls later : List ScriptCall} {old new : FunctionBuilder R}
    (before : StandsForCalls width declared calls old) (after : StandsForCalls width declared later new) : Type 0 where
  pub values_stay : (name : Name) (value : ℕ) → LeadsToValue before name value → LeadsToValue after name value
  pub blocks_stay : (name : Name) (block : ℕ) → LeadsToBlock before name block → LeadsToBlock after name block

-- The builder stands for more calls of the script, and earlier names lead where they led.
abbrev pub StandsOnFor : {R : Type 0} {width : PointerWidth} {declared : SignatureShape} {calls : List ScriptCall} {old : FunctionBuilder R}
    → StandsForCalls width declared calls old → (later : List ScriptCall) → FunctionBuilder R → Type 0
StandsOnFor {width = width} {declared = declared} before later new = (after : StandsForCalls width declared later new) × GoesOn before after

-- What the builder answered to the call that was made in between is what the script's names of that call's answers lead to.
pub record NamesAnswers {R : Type 0} {width : PointerWidth} {declared : SignatureShape} {calls later : List ScriptCall} {old new : FunctionBuilder R}
    (before : StandsForCalls width declared calls old) (after : StandsForCalls width declared later new) : Type 0 where
  pub values : (index value : ℕ) → NamesValue after.made (answer_of (length before.made) index) value
      → LeadsToValue after (answer_of (length (ledger_of calls).answers) index) value
  pub blocks : (index block : ℕ) → NamesBlock after.made (answer_of (length before.made) index) block
      → LeadsToBlock after (answer_of (length (ledger_of calls).answers) index) block

-- What `finalize` makes of a builder that stands for the calls of a script: the finished function means what they mean, in every world
-- under the premises on them; its edges match if the caller's do; and as it was found, values are given before they are used.
pub record FinishesCalls (calls : List ScriptCall) (declared : SignatureShape) (width : PointerWidth) (found finished : Body) : Type 0 where
  pub same_meaning : CallsMeanTheSame calls declared width (view_of finished)
  pub edges_match : CallersEdgesMatchInCalls calls → EdgesMatch (view_of finished)
  pub well_placed : CallsPlacementPremises calls declared → WellPlaced (view_of found)
