-- What is recorded so far agrees with the marks of the calls, so the unfinished function reads right under a collector over it.
use Rattle.std.proofs.Common.{◌≡◌, ℕ, Bool, List, inl, ap, subst}
use Rattle.clif_types.specs.EntitySet.{has}
use Rattle.clif_types.specs.Signature.{SignatureShape}
use Rattle.clif_ir.specs.Body.{Body}
use Rattle.clif_ir.specs.Consistent.{IsConsistent}
use Rattle.clif_paths.specs.State.{Definition}
use Rattle.clif_records.specs.Tracking.{marked_of}
use Rattle.clif_ssa.specs.Own.{Own}
use Rattle.clif_ssa.specs.Sound.{EntryIsFree}
use Rattle.clif_ssa.specs.Ssa.{SsaState}
use Rattle.clif_ssa.proofs.Alike.{unaliased_home}
use Rattle.clif_meaning.specs.Ledger.{is_marked, ledger_after}
use Rattle.clif_meaning.specs.Name.{Name}
use Rattle.clif_meaning.specs.Request.{AnsweredCall, script_of}
use Rattle.clif_meaning.specs.Tracked.{is_tracked}
use Rattle.clif_simulation.specs.Carries.{Carries, NothingLeads}
use Rattle.clif_simulation.specs.Interrupted.{AreOpen}
use Rattle.clif_simulation.proofs.Tracking.Agreeing
use Rattle.clif_simulation.proofs.FreeEntry.{free_nowhere}
use Rattle.clif_simulation.proofs.Whole.{Whole, whole, whole_own}
use Rattle.clif_standing_laws.specs.Marked.{KeepsApart, MovesAsMarked, ReadsRightRecorded, ReadsRightRecordedComing, ReadsRightRecordedFromAnywhere, over_recorded}
use Rattle.clif_standing_laws.proofs.Marked.MarkedReading

module _ (calls : List AnsweredCall) (f : Body) (s : SsaState) (consistent : IsConsistent f)
    (marks : (x : ℕ) → is_marked (ledger_after (script_of calls)) x ≡ has (marked_of s.tracking) x) (apart : KeepsApart calls)
  where
    of_whole : (both : Whole calls f s) → MovesAsMarked calls both.own f s (is_tracked (script_of calls)) (over_recorded s)
    of_whole both = record {
      names = Agreeing.names_agree calls f s consistent both marks apart;
      values = Agreeing.values_agree calls f s consistent both marks apart;
      waiting = λ block parameter there.
          let waits = both.describes.waiting block parameter there in
          Agreeing.parameter_member calls f s consistent both marks apart parameter.param parameter.variable
          (unaliased_home f parameter.param block waits.parameter) (inl (ap (λ (d : Definition). d.kind) waits.defined));
    }

    pub moves_recorded : (carries : Carries calls f s) → EntryIsFree f s → MovesAsMarked calls carries.own f s (is_tracked (script_of calls)) (over_recorded s)
    moves_recorded carries free =
        subst (λ (own : Own). MovesAsMarked calls own f s (is_tracked (script_of calls)) (over_recorded s)) (whole_own calls f s consistent carries free)
        (of_whole (whole calls f s consistent carries free))

module _ (calls : List AnsweredCall) (signature : SignatureShape) (f : Body) (ssa : SsaState) (growing : Name → Bool) (consistent : IsConsistent f)
    (carries : Carries calls f ssa) (are_open : AreOpen calls f ssa growing)
    (marks : (x : ℕ) → is_marked (ledger_after (script_of calls)) x ≡ has (marked_of ssa.tracking) x)
  where
    pub reads_right : ReadsRightRecorded growing calls signature f ssa
    reads_right width world fits premises free apart =
        MarkedReading.reads_right calls signature f ssa growing consistent carries are_open width world (is_tracked (script_of calls)) (over_recorded ssa)
        fits premises free (moves_recorded calls f ssa consistent marks apart carries free)

    pub reads_right_coming : ReadsRightRecordedComing growing calls signature f ssa
    reads_right_coming width world coming fits typed may free apart =
        MarkedReading.reads_right_coming calls signature f ssa growing consistent carries are_open width world (is_tracked (script_of calls)) (over_recorded ssa)
        coming fits typed may free (moves_recorded calls f ssa consistent marks apart carries free)

-- where no branch was made
pub from_anywhere : (calls : List AnsweredCall) (signature : SignatureShape) (f : Body) (ssa : SsaState) (consistent : IsConsistent f) (carries : Carries calls f ssa)
    → ((x : ℕ) → is_marked (ledger_after (script_of calls)) x ≡ has (marked_of ssa.tracking) x) → NothingLeads ssa
    → ReadsRightRecordedFromAnywhere calls signature f ssa
from_anywhere calls signature f ssa consistent carries marks nothing width world fits premises apart =
    MarkedReading.from_anywhere calls signature f ssa consistent carries nothing width world (is_tracked (script_of calls)) (over_recorded ssa) fits premises
    (moves_recorded calls f ssa consistent marks apart carries (free_nowhere f ssa nothing))
