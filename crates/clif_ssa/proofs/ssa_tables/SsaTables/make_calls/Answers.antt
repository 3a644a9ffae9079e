use Rattle.std.proofs.Common.{◌≡◌, ℕ, ◌*◌, List, [], ◌∷◌, ◌∙◌, ap, arith, sym, subst}
use Rattle.std.proofs.lemmas.Result.{err_from_is_err_and}
use Rattle.clif_ssa.specs.Constructs.{TellsMore}
use Rattle.clif_records.specs.Stacks.{LookUpState}
use Rattle.clif_ssa.specs.Counted.{finishes}
use Rattle.clif_ssa.specs.LookUp.{MakesCall}
use Rattle.clif_ssa.specs.LookUp.MakesCalls.{none_made, made}
use Rattle.clif_ssa.specs.Running.{stage, CallsFit}
use Rattle.clif_ssa.proofs.Calling.{call-less, popped_is}
use Rattle.clif_ssa.proofs.Waited.{result-taken}
use Rattle.clif_ssa.proofs.Constructing.{tells_more_none, tells_more_then}
use Rattle.clif_ssa.proofs.CountedLooks.{call_counts, finishes_next}
use Rattle.clif_ssa.proofs.CountedSteps.{counts_any, counts_none, counts_room, counts_stopped, counts_then}
use Rattle.clif_ssa.proofs.Steps.{ends_as, ends_ok, keeps_none, keeps_then}
use Rattle.clif_ssa.proofs.ssa_tables.SsaTables.make_calls.Goals as goal

pub make_call-requires-clause-calls_fit : goal.make_call-requires-clause-calls_fit
make_call-requires-clause-calls_fit c =
    subst (λ l. CallsFit c.args.ty c.loop-call.func c.loop-call.self l)
    (sym (popped_is c.in-Some.call c.loop-call.look_up c.next_call.new.self c.in-Some.ensures.0 c.in-Some.ensures.1)) c.loop-call.invariant.fits

pub loop-call-init : goal.loop-call-init
loop-call-init c = record {
  made = none_made;
  named = c.requires.named;
  fits = c.requires.calls_fit;
  keeps = keeps_none c.args.variable c.args.func.now c.args.self.now;
  tells = tells_more_none c.args.func.now c.args.look_up.now.zeros;
  counts = counts_none (finishes c.args.look_up.now.calls) c.args.func.now c.args.self.now;
}

pub loop-call-smaller : goal.loop-call-smaller
loop-call-smaller c =
    let popped = popped_is c.in-Some.call c.loop-call.look_up c.next_call.new.self c.in-Some.ensures.0 c.in-Some.ensures.1 in
    call-less c.args.variable c.args.ty (stage c.loop-call.func c.loop-call.self c.loop-call.look_up) (stage c.make_call.new.func c.make_call.new.self c.make_call.new.look_up)
    (subst (λ l. MakesCall c.args.variable c.args.ty (stage c.loop-call.func c.loop-call.self l) (stage c.make_call.new.func c.make_call.new.self c.make_call.new.look_up)) popped c.in_ok-make_call.ensures.made)
    c.make_call.ensures.keeps.more c.make_call.ensures.keeps.predecessors

pub loop-call-preserved : goal.loop-call-preserved
loop-call-preserved c =
    let popped = popped_is c.in-Some.call c.loop-call.look_up c.next_call.new.self c.in-Some.ensures.0 c.in-Some.ensures.1 in
    let call : MakesCall c.args.variable c.args.ty (stage c.loop-call.func c.loop-call.self c.loop-call.look_up) (stage c.make_call.new.func c.make_call.new.self c.make_call.new.look_up) =
    subst (λ l. MakesCall c.args.variable c.args.ty (stage c.loop-call.func c.loop-call.self l) (stage c.make_call.new.func c.make_call.new.self c.make_call.new.look_up)) popped c.in_ok-make_call.ensures.made in
    record {
      made = made c.loop-call.invariant.made call;
      counts = counts_then (λ variables fits waits. fits) c.loop-call.invariant.keeps.more.blocks c.loop-call.invariant.counts (call_counts c.args.variable c.args.ty _ _ call);
      named = c.make_call.ensures.keeps.names c.loop-call.invariant.named;
      fits = c.in_ok-make_call.ensures.fits;
      keeps = keeps_then c.args.variable c.args.func.now c.args.self.now c.loop-call.func c.loop-call.self c.make_call.new.func c.make_call.new.self c.loop-call.invariant.keeps
          c.make_call.ensures.keeps;
      tells =
          tells_more_then c.args.func.now c.loop-call.func c.make_call.new.func c.args.look_up.now.zeros c.loop-call.look_up.zeros c.make_call.new.look_up.zeros
          c.make_call.ensures.keeps.constructs c.loop-call.invariant.tells
          (subst (λ zeros. TellsMore c.loop-call.func c.make_call.new.func zeros c.make_call.new.look_up.zeros) (ap (λ (l : LookUpState). l.zeros) c.in-Some.ensures.1) c.in_ok-make_call.ensures.tells);
    }

pub returns-in_err-make_call-clause-keeps : goal.returns-in_err-make_call-clause-keeps
returns-in_err-make_call-clause-keeps c =
    keeps_then c.args.variable c.args.func.now c.args.self.now c.loop-call.func c.loop-call.self c.make_call.new.func c.make_call.new.self c.loop-call.invariant.keeps c.make_call.ensures.keeps

pub returns-in_err-make_call-clause-made : goal.returns-in_err-make_call-clause-made
returns-in_err-make_call-clause-made c =
    let p = err_from_is_err_and c.from_residual.result c.from_residual.ensures.1 in
    rw p.1 tt

pub returns-in_err-make_call-clause-tells : goal.returns-in_err-make_call-clause-tells
returns-in_err-make_call-clause-tells c =
    let p = err_from_is_err_and c.from_residual.result c.from_residual.ensures.1 in
    rw p.1 tt

pub returns-in_err-make_call-clause-exists : goal.returns-in_err-make_call-clause-exists
returns-in_err-make_call-clause-exists c =
    let p = err_from_is_err_and c.from_residual.result c.from_residual.ensures.1 in
    rw p.1 tt

pub returns-in_err-make_call-clause-ends : goal.returns-in_err-make_call-clause-ends
returns-in_err-make_call-clause-ends c =
    let p = err_from_is_err_and c.from_residual.result c.from_residual.ensures.1 in
    rw (p.1, p.2)
    ((ends_as c.make_call.new.func c.in_err-make_call.field-0.0 c.in_err-make_call.ensures.ends))

pub returns-clause-keeps : goal.returns-clause-keeps
returns-clause-keeps c = c.loop-call.invariant.keeps

pub returns-clause-ends : goal.returns-clause-ends
returns-clause-ends c = ends_ok c.loop-call.func _

pub returns-clause-tells : goal.returns-clause-tells
returns-clause-tells c =
    let zeros : LookUpState → List ℕ = λ l. l.zeros in
    let same : c.take_result.new.self.zeros ≡ c.loop-call.look_up.zeros = ap zeros c.take_result.ensures.taken ∙ ap zeros c.in_default.ensures.1 in
    subst (λ told. TellsMore c.args.func.now c.loop-call.func c.args.look_up.now.zeros told) (sym same) c.loop-call.invariant.tells

pub returns-clause-made : goal.returns-clause-made
returns-clause-made c =
    let last = result-taken c.loop-call.look_up c.next_call.new.self c.take_result.new.self c.take_result.result c.in_default.ensures.0 c.in_default.ensures.1
    c.take_result.ensures.one c.take_result.ensures.taken in
    record { last = stage c.loop-call.func c.loop-call.self c.loop-call.look_up; made = c.loop-call.invariant.made; ended = last.0; function = λ i. c.loop-call.func; state = λ i. c.loop-call.self; look_up = last.1 }

-- HOW MUCH IT MAKES -----------------------------------------------------------------------------------------------

pub returns-in_err-make_call-clause-counts : goal.returns-in_err-make_call-clause-counts
returns-in_err-make_call-clause-counts c =
    let popped = popped_is c.in-Some.call c.loop-call.look_up c.next_call.new.self c.in-Some.ensures.0 c.in-Some.ensures.1 in
    let p = err_from_is_err_and c.from_residual.result c.from_residual.ensures.1 in
    rw (p.1, p.2)
    (counts_stopped (2 * finishes (c.in-Some.call ∷ [])) c.make_call.new.func c.make_call.new.self c.in_err-make_call.field-0.0
    (omega (arith, finishes_next c.in-Some.call c.next_call.new.self.calls, ap (λ (l : LookUpState). finishes l.calls) popped))
    c.loop-call.invariant.keeps.more.blocks c.loop-call.invariant.counts c.in_err-make_call.ensures.stops)

pub returns-clause-counts : goal.returns-clause-counts
returns-clause-counts c = counts_any (counts_room _ 0 (omega arith) c.loop-call.invariant.counts)
