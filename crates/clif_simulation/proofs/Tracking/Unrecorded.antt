-- Where nothing was recorded, a finished function means its calls' program under the collector by stack
-- maps: it has none, and no name that is given afresh is tracked, so nothing moves.
use Rattle.std.proofs.Common.{◌≡◌, ℕ, List, [], inl, refl, subst}
use Rattle.clif_types.specs.EntitySet.{has}
use Rattle.clif_ir.specs.Body.{Body, resolved}
use Rattle.clif_ir.specs.Consistent.{IsConsistent}
use Rattle.clif_records.specs.Tracking.{marked_of, recorded_of}
use Rattle.clif_ssa.specs.Ssa.{SsaState}
use Rattle.clif_meaning.specs.FunctionMachine.{ByMaps}
use Rattle.clif_meaning.specs.Headline.{in_spill_slot}
use Rattle.clif_meaning.specs.Ledger.{is_marked, ledger_after}
use Rattle.clif_meaning.specs.Premises.{EachItem, KeepsTrackedApart}
use Rattle.clif_meaning.specs.Request.{AnsweredCall, script_of}
use Rattle.clif_meaning.specs.Tracked.{is_tracked}
use Rattle.clif_meaning.specs.View.{view_of}
use Rattle.clif_meaning.specs.World.{World}
use Rattle.clif_simulation.specs.Marked.{CarryingMeansTheSameUnrecorded}
use Rattle.clif_simulation.specs.Tables.{answered, program_so_far}
use Rattle.clif_simulation.proofs.Finished.Assembly
use Rattle.clif_simulation.proofs.Finished.Sources.{Moving}
use Rattle.clif_simulation.proofs.Tracking.Agreeing
use Rattle.clif_simulation.proofs.Whole.{Whole}

module _ (calls : List AnsweredCall) (f : Body) (s : SsaState) (consistent : IsConsistent f) (carries : Whole calls f s)
    (marks : (x : ℕ) → is_marked (ledger_after (script_of calls)) x ≡ has (marked_of s.tracking) x) (none : recorded_of s.tracking ≡ [])
    (apart : EachItem (KeepsTrackedApart (ledger_after (script_of calls)) (is_tracked (script_of calls))) (program_so_far calls)) (world : World)
  where
    abbrev unrecorded : Moving calls carries.own f s
    unrecorded = record {
      marked = is_marked (ledger_after (script_of calls));
      tracked = is_tracked (script_of calls);
      collector = ByMaps;
      hidden = in_spill_slot (script_of calls) (view_of f) world;
      names = Agreeing.names_agree calls f s consistent carries marks apart;
      values = record {
        answers = λ name given.
            subst (λ (recorded : List ℕ). has recorded (resolved f (answered calls name)) ≡ is_tracked (script_of calls) name) none
            ((Agreeing.values_agree calls f s consistent carries marks apart).answers name given);
        arguments = λ target branch edge place argument parameter leads to passes stands. inl refl;
      };
    }

pub means_unrecorded : CarryingMeansTheSameUnrecorded
means_unrecorded calls f s width consistent carries finished marks none world fits premises =
    let targets = premises.targets_filled in
    let all : Whole calls f s = Assembly.all calls f s consistent carries targets in
    Assembly.means_the_same calls f s width consistent all finished (unrecorded calls f s consistent all marks none premises.tracked_apart world) world fits
    (record { targets_filled = targets; well_typed = premises.well_typed; given_before = premises.given_before })
