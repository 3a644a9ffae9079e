-- The laws, as the contracts of this crate's functions state them.
use Rattle.std.specs.Prelude.{◌≡◌, ℕ, Bool, true, List, [], Some, IsTrue}
use Rattle.clif_types.specs.declared.target.PointerWidth.{PointerWidth}
use Rattle.clif_types.specs.Signature.{SignatureShape}
use Rattle.clif_ir.specs.Body.{Body}
use Rattle.clif_ir.specs.Consistent.{IsConsistent}
use Rattle.clif_ssa.specs.Ssa.{SsaState, sealed_of}
use Rattle.clif_records.specs.Tables.{is_yes, pending_of}
use Rattle.clif_ssa.specs.Sound.{entry_of}
use Rattle.clif_meaning.specs.Name.{Name}
use Rattle.clif_meaning.specs.Request.{AnsweredCall, script_of}
use Rattle.clif_meaning.specs.Ledger.{ledger_after, is_filled}
use Rattle.clif_meaning.specs.View.{view_of}
use Rattle.clif_meaning.specs.Tracked.{TracksNothing}
use Rattle.clif_meaning.specs.Headline.{MeansTheSame}
use Rattle.clif_simulation.specs.Tables.{code, block_name}
use Rattle.clif_simulation.specs.Carries.{Carries, NothingLeads}
use Rattle.clif_simulation.specs.Reading.{ReadsRightFromAnywhere}
use Rattle.clif_simulation.specs.Interrupted.{AreOpen, ReadsRightWhere}
use Rattle.clif_simulation.specs.Coming.{ReadsRightComing}

-- Different names have different numbers.
abbrev pub CodesDiffer : Type 0
CodesDiffer = (a b : Name) → code a ≡ code b → a ≡ b

-- The construction is finished: no parameter waits, and the entry and each block that has its terminator are sealed.
pub record IsFinished (calls : List AnsweredCall) (f : Body) (s : SsaState) : Type 0 where
  pub none_waits : (block : ℕ) → pending_of (sealed_of s block) ≡ []
  pub entry_sealed : (entry : ℕ) → entry_of f ≡ Some entry → is_yes (sealed_of s entry) ≡ true
  pub filled_sealed : (block : ℕ) (name : Name) → block_name calls block ≡ Some name → IsTrue (is_filled (ledger_after (script_of calls)) name)
      → is_yes (sealed_of s block) ≡ true

-- A finished function that carries a list of calls that ask for no stack maps means what the list's program means, with branches,
-- joins and loops. Each function keeps consistency.
abbrev pub CarryingMeansTheSame : Type 0
CarryingMeansTheSame =
    (calls : List AnsweredCall) (f : Body) (s : SsaState) (width : PointerWidth)
    → IsConsistent f → Carries calls f s → IsFinished calls f s → TracksNothing (script_of calls)
    → MeansTheSame (script_of calls) f.signature width (view_of f)

-- A function that carries a list of calls reads right on runs and bits, whether it is finished or not: with any branches and
-- parameters of the caller's, beside runs that are interrupted at unsealed blocks. What edges pass into growing blocks, unsealed
-- ones or with the caller's parameters alone, need not match these.
abbrev pub CarryingReadsRight : Type 0
CarryingReadsRight =
    (calls : List AnsweredCall) (signature : SignatureShape) (f : Body) (s : SsaState) (growing : Name → Bool)
    → IsConsistent f → Carries calls f s → AreOpen calls f s growing → ReadsRightWhere growing calls signature f s

-- It does so along edges that may still come, too: those of a set into unsealed blocks, whichever of them come, with any memory,
-- any events and any bits of the caller's parameters.
abbrev pub CarryingReadsRightComing : Type 0
CarryingReadsRightComing =
    (calls : List AnsweredCall) (signature : SignatureShape) (f : Body) (s : SsaState) (growing : Name → Bool)
    → IsConsistent f → Carries calls f s → AreOpen calls f s growing → ReadsRightComing growing calls signature f s

-- Where no branch was made, it does so from every pair of states at the front of an unsealed entry.
abbrev pub CarryingReadsRightFromAnywhere : Type 0
CarryingReadsRightFromAnywhere =
    (calls : List AnsweredCall) (signature : SignatureShape) (f : Body) (s : SsaState)
    → IsConsistent f → Carries calls f s → NothingLeads s → ReadsRightFromAnywhere calls signature f s
