use Rattle.std.proofs.Common.{rules, ◌≡◌, ◌<◌, ◌*◌, [], ◌∷◌, ◌∙◌, ap, sym, subst, length, arith, refl, inl}
use Rattle.std.specs.Prelude.{EachIndex, slice_index}
use Rattle.clif_ir.specs.Body.{inst_at}
use Rattle.clif_records.specs.declared.look_up.Call.TheVariants.{UseVar, FinishPredecessorsLookup}
use Rattle.clif_ssa.specs.Counted.{finishes, StepStops}
use Rattle.clif_ssa.specs.Pools.{MayPool, UseIsFull}
use Rattle.clif_ssa.specs.Ssa.{predecessors_of}
use Rattle.clif_ssa.specs.LookUp.{LooksUp}
use Rattle.clif_ssa.specs.Running.{stage, CallExists, CallsFit, with_call}
use Rattle.clif_ssa.proofs.Calling.{look-fits, finish-fits, popped-look, next_typed, both_ok, on_ok', same_block, leading-each}
use Rattle.clif_ssa.proofs.CountedSteps.{stops_grown, stops_more}
use Rattle.clif_ssa.proofs.Pooling.{types_kept}
use Rattle.clif_ssa.proofs.Steps.{ends_zeros, keeps_grown}
use Rattle.clif_ssa.proofs.ssa_tables.SsaTables.make_call.Goals as goal

pub inst_block-requires : goal.inst_block-requires
inst_block-requires c =
    subst (λ call. CallExists c.args.ty c.args.func.now call) c.in-UseVar.is (c.requires.calls_fit.calls c.args.call (0, omega arith, refl))

pub look_up_in-requires-clause-exists : goal.look_up_in-requires-clause-exists
look_up_in-requires-clause-exists c =
    let there : c.in-UseVar.branch < length c.args.func.now.insts =
    subst (λ call. CallExists c.args.ty c.args.func.now call) c.in-UseVar.is (c.requires.calls_fit.calls c.args.call (0, omega arith, refl)) in
    let same : (inst_at c.args.func.now c.in-UseVar.branch).block ≡ c.in-Some.block = same_block (sym c.inst_block.ensures ∙ c.in-Some.is) in
    subst (λ b. b < length c.args.func.now.blocks) same ((c.law_consistent.ensures.insts_stand c.in-UseVar.branch there).0)

pub finish_look_up-requires-clause-param_exists : goal.finish_look_up-requires-clause-param_exists
finish_look_up-requires-clause-param_exists c =
    (next_typed c.args.ty c.args.func.now c.args.self.now c.args.look_up.now c.args.call c.in-FinishPredecessorsLookup.param c.in-FinishPredecessorsLookup.block c.in-FinishPredecessorsLookup.is c.requires.calls_fit).0

pub finish_look_up-requires-clause-branches_exist :
    goal.finish_look_up-requires-clause-branches_exist
finish_look_up-requires-clause-branches_exist c =
    let same : c.predecessors-predecessors.result.now ≡ predecessors_of c.args.self.now c.in-FinishPredecessorsLookup.block = search rules in
    subst (λ xs. EachIndex xs (λ k. slice_index xs k < length c.args.func.now.insts)) (sym same)
    (leading-each c.args.func.now c.args.self.now c.in-FinishPredecessorsLookup.block c.requires.named)

pub returns-in-Some-clause-fits : goal.returns-in-Some-clause-fits
returns-in-Some-clause-fits c =
    let fits : CallsFit c.args.ty c.args.func.now c.args.self.now (with_call (UseVar c.in-UseVar.branch) c.args.look_up.now) =
    subst (λ call. CallsFit c.args.ty c.args.func.now c.args.self.now (with_call call c.args.look_up.now)) c.in-UseVar.is c.requires.calls_fit in
    on_ok' c.look_up_in.result
    (λ looks.
    look-fits c.args.variable c.args.ty c.in-Some.block (stage c.args.func.now c.args.self.now c.args.look_up.now) (stage c.look_up_in.new.func c.look_up_in.new.self c.look_up_in.new.look_up)
    looks c.requires.named c.look_up_in.ensures.keeps.more c.look_up_in.ensures.keeps.pools.typed c.look_up_in.ensures.keeps.predecessors
    (popped-look c.args.ty c.args.func.now c.args.self.now c.in-UseVar.branch c.args.look_up.now fits))
    c.look_up_in.ensures.looks

pub returns-in-FinishPredecessorsLookup-clause-fits :
    goal.returns-in-FinishPredecessorsLookup-clause-fits
returns-in-FinishPredecessorsLookup-clause-fits c =
    let fits : CallsFit c.args.ty c.args.func.now c.args.self.now (with_call (FinishPredecessorsLookup c.in-FinishPredecessorsLookup.param c.in-FinishPredecessorsLookup.block) c.args.look_up.now) =
    subst (λ call. CallsFit c.args.ty c.args.func.now c.args.self.now (with_call call c.args.look_up.now)) c.in-FinishPredecessorsLookup.is c.requires.calls_fit in
    let same : predecessors_of c.args.self.now c.in-FinishPredecessorsLookup.block ≡ c.predecessors-predecessors.result.now = search rules in
    both_ok c.finish_look_up.result
    (λ finishes exist.
    (finish-fits c.args.ty c.in-FinishPredecessorsLookup.param c.in-FinishPredecessorsLookup.block (stage c.args.func.now c.args.self.now c.args.look_up.now)
    (stage c.finish_look_up.new.func c.args.self.now c.finish_look_up.new.look_up) finishes c.finish_look_up.ensures.more
    (types_kept c.args.func.now c.finish_look_up.new.func c.finish_look_up.ensures.constructs) exist fits))
    (c.finish_look_up.ensures.ok c.args.self.now same) c.finish_look_up.ensures.exist

pub returns-in-Some-clause-made : goal.returns-in-Some-clause-made
returns-in-Some-clause-made c =
    let same : (inst_at c.args.func.now c.in-UseVar.branch).block ≡ c.in-Some.block = same_block (sym c.inst_block.ensures ∙ c.in-Some.is) in
    on_ok' c.look_up_in.result
    (λ looks.
    inl (record {
      branch = c.in-UseVar.branch;
      calls = c.args.look_up.now.calls;
      is_next = ap (λ call. call ∷ c.args.look_up.now.calls) c.in-UseVar.is;
      looks = subst (λ b. LooksUp c.args.variable c.args.ty b (stage c.args.func.now c.args.self.now c.args.look_up.now) (stage c.look_up_in.new.func c.look_up_in.new.self c.look_up_in.new.look_up)) (sym same) looks;
    }))
    c.look_up_in.ensures.looks

pub returns-in-Some-clause-keeps : goal.returns-in-Some-clause-keeps
returns-in-Some-clause-keeps c =
    c.look_up_in.ensures.keeps

pub returns-in-Some-clause-tells : goal.returns-in-Some-clause-tells
returns-in-Some-clause-tells c =
    c.look_up_in.ensures.tells

pub returns-in-Some-clause-ends : goal.returns-in-Some-clause-ends
returns-in-Some-clause-ends c =
    c.look_up_in.ensures.ends

pub returns-in-FinishPredecessorsLookup-clause-keeps : goal.returns-in-FinishPredecessorsLookup-clause-keeps
returns-in-FinishPredecessorsLookup-clause-keeps c =
    keeps_grown c.args.variable c.args.func.now c.finish_look_up.new.func c.args.self.now c.finish_look_up.ensures.more c.finish_look_up.ensures.constructs
    (subst (λ ty. MayPool ty c.args.func.now.tables c.finish_look_up.new.func.tables)
    (next_typed c.args.ty c.args.func.now c.args.self.now c.args.look_up.now c.args.call c.in-FinishPredecessorsLookup.param c.in-FinishPredecessorsLookup.block c.in-FinishPredecessorsLookup.is c.requires.calls_fit).1 c.finish_look_up.ensures.pools)

pub returns-in-FinishPredecessorsLookup-clause-tells : goal.returns-in-FinishPredecessorsLookup-clause-tells
returns-in-FinishPredecessorsLookup-clause-tells c =
    c.finish_look_up.ensures.tells

pub returns-in-FinishPredecessorsLookup-clause-ends : goal.returns-in-FinishPredecessorsLookup-clause-ends
returns-in-FinishPredecessorsLookup-clause-ends c =
    ends_zeros c.finish_look_up.new.func c.finish_look_up.result
    (λ is. subst (λ ty. UseIsFull ty c.finish_look_up.new.func)
    (next_typed c.args.ty c.args.func.now c.args.self.now c.args.look_up.now c.args.call c.in-FinishPredecessorsLookup.param c.in-FinishPredecessorsLookup.block c.in-FinishPredecessorsLookup.is c.requires.calls_fit).1 (c.finish_look_up.ensures.full is)) c.finish_look_up.ensures.never_failed

-- WHERE IT STOPS --------------------------------------------------------------------------------------------------

pub returns-in-Some-clause-stops : goal.returns-in-Some-clause-stops
returns-in-Some-clause-stops c = stops_more 0 (2 * finishes (c.args.call ∷ [])) _ _ _ _ c.look_up_in.result (omega arith) c.look_up_in.ensures.stops

pub returns-in-FinishPredecessorsLookup-clause-stops : goal.returns-in-FinishPredecessorsLookup-clause-stops
returns-in-FinishPredecessorsLookup-clause-stops c =
    subst (λ call. StepStops (2 * finishes (call ∷ [])) c.args.func.now c.args.self.now c.finish_look_up.new.func c.args.self.now c.finish_look_up.result)
    (sym c.in-FinishPredecessorsLookup.is)
    (stops_grown 2 c.args.func.now c.finish_look_up.new.func c.args.self.now c.finish_look_up.result c.finish_look_up.ensures.at_most)
