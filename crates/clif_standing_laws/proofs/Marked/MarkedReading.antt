-- An unfinished function that carries a list of calls reads right under marks, where what moves on both sides agrees.
use Rattle.std.proofs.Common.{inr, Bool, List, None, sym, subst}
use Rattle.clif_types.specs.Signature.{SignatureShape}
use Rattle.clif_ir.specs.Body.{Body}
use Rattle.clif_ir.specs.Consistent.{IsConsistent}
use Rattle.clif_ssa.specs.Own.{Own}
use Rattle.clif_ssa.specs.Ssa.{SsaState}
use Rattle.clif_meaning.specs.Name.{Name}
use Rattle.clif_meaning.specs.Request.{AnsweredCall}
use Rattle.clif_simulation.specs.Carries.{Carries, NothingLeads}
use Rattle.clif_simulation.specs.Interrupted.{AreOpen}
use Rattle.clif_simulation.specs.Reading.{function_run_so_far, may_grow, script_run_so_far}
use Rattle.clif_simulation.proofs.Labelling.Labels.{no_labels}
use Rattle.clif_simulation.proofs.Unfinished.ComingCode.{may_nothing, nothing_comes, placed_none}
use Rattle.clif_simulation.proofs.Unfinished.OpenEdges
use Rattle.clif_simulation.proofs.Unbranched.{CarriesUnbranched}
use Rattle.clif_simulation.proofs.Unfilled.{plainly}
use Rattle.clif_simulation.proofs.Unfinished.OpenReading
use Rattle.clif_simulation.proofs.Unfinished.RightReading
use Rattle.clif_simulation.proofs.FreeEntry.{free_nowhere}
use Rattle.clif_simulation.proofs.Whole.{Whole, whole, whole_own}
use Rattle.clif_standing_laws.specs.Marked.{MovesAsMarked, ReadsRightMarked, ReadsRightMarkedComing, ReadsRightMarkedFromAnywhere}
use Rattle.clif_standing_laws.proofs.Marked.OpenCalling

module _ (calls : List AnsweredCall) (signature : SignatureShape) (f : Body) (ssa : SsaState) (growing : Name → Bool) (consistent : IsConsistent f)
    (carries : Carries calls f ssa) (are_open : AreOpen calls f ssa growing)
  where
    pub reads_right_coming : ReadsRightMarkedComing growing calls carries.own signature f ssa
    reads_right_coming width world tracked collector coming fits typed may free moves block name named is_entry arrivals unknowns =
        let both : Whole calls f ssa = whole calls f ssa consistent carries free in
        let moving : MovesAsMarked calls both.own f ssa tracked collector =
        subst (λ (own : Own). MovesAsMarked calls own f ssa tracked collector) (sym (whole_own calls f ssa consistent carries free)) moves in
        OpenReading.beside coming arrivals calls signature f ssa consistent both width world tracked collector
        (no_labels (OpenEdges.program calls f ssa consistent both) (OpenEdges.function calls f ssa consistent both)) growing are_open fits typed may
        (inr (OpenCalling.keep coming calls f ssa consistent both may.given_before signature growing typed world tracked collector moving))
        (inr (OpenCalling.keep_moved coming calls f ssa consistent both may.given_before signature growing typed world tracked collector moving)) block name named is_entry unknowns

    pub reads_right : ReadsRightMarked growing calls carries.own signature f ssa
    reads_right width world tracked collector fits premises free moves block name named is_entry =
        OpenReading.beside_none calls f ssa (script_run_so_far calls f world tracked) (function_run_so_far calls f world collector) block name
        (reads_right_coming width world tracked collector nothing_comes fits premises.well_typed
        (may_nothing calls ssa premises.given_before) free moves block name named is_entry (λ entries. None))

-- where no branch was made
pub from_anywhere : (calls : List AnsweredCall) (signature : SignatureShape) (f : Body) (ssa : SsaState) (consistent : IsConsistent f) (carries : Carries calls f ssa)
    → NothingLeads ssa → ReadsRightMarkedFromAnywhere calls carries.own signature f ssa
from_anywhere calls signature f ssa consistent carries nothing width world tracked collector fits premises moves =
    let plain : CarriesUnbranched calls f ssa = plainly calls f ssa consistent carries nothing in
    RightReading.runs_moving calls signature f ssa consistent plain width world tracked collector fits premises (
      no_labels (OpenEdges.program calls f ssa consistent plain.whole) (OpenEdges.function calls f ssa consistent plain.whole),
      inr (OpenCalling.keep_along calls f ssa consistent plain.whole (placed_none calls premises.given_before) signature (may_grow calls) premises.well_typed world
          tracked collector
          (subst (λ (own : Own). MovesAsMarked calls own f ssa tracked collector) (sym (whole_own calls f ssa consistent carries (free_nowhere f ssa nothing))) moves)),
    )
