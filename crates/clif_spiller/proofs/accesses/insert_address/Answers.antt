use Rattle.std.proofs.Common.{◌≡◌, ◌∙◌, Err, List, [], ◌∷◌, ℕ, pos, length, get_or, sym, ap, ap₂, subst, arith}
use Rattle.std.proofs.lemmas.Result.{err_from_is_err_and}
use Rattle.clif_ir.specs.Body.{Body, inst_at}
use Rattle.clif_opcodes.specs.declared.opcodes.StackOpcode.TheVariants.{StackAddr}
use Rattle.clif_instructions.specs.declared.instructions.InstructionData.TheVariants.{StackLoad}
use Rattle.clif_spiller.specs.Inserting.{with_address}
use Rattle.clif_spiller.specs.Plans.{IsFull}
use Rattle.clif_spiller.proofs.Putting.{full_for_one, put_in_results}
use Rattle.clif_spiller.proofs.accesses.insert_address.Goals as goal

pub returns-in_err-inst-clause-full : goal.returns-in_err-inst-clause-full
returns-in_err-inst-clause-full c is =
    let p = err_from_is_err_and c.from_residual.result c.from_residual.ensures.1 in
    let was = c.in_err-inst.was ∙ ap Err (sym p.2) ∙ sym p.1 ∙ is in
    subst IsFull (sym c.in_err-inst.ensures.err) (full_for_one c.args.func.now _ c.law_consistent.ensures (omega arith) (c.insert.ensures.full was))

pub returns-clause-address : goal.returns-clause-address
returns-clause-address c =
    let value : ℕ = c.index-inst_results-0.result in
    let f : Body = c.args.func.now in
    let g : Body = with_address f c.args.plan.now.pointer c.args.spot c.args.slot in
    let there : (inst_at c.insert.new.func c.in_ok-inst.inst).results ≡ (inst_at g (length f.insts)).results =
    ap₂ (λ (h : Body) (i : ℕ). (inst_at h i).results) c.in_ok-inst.ensures.ok c.in_ok-inst.ensures.inst in
    let results : c.inst_results.result.now ≡ length f.values ∷ [] =
    c.inst_results.ensures.exact ∙ there ∙ put_in_results f c.args.spot (StackLoad StackAddr c.args.slot (pos 0)) (c.args.plan.now.pointer ∷ []) in
    c.index-inst_results-0.is ∙ ap (λ (xs : List ℕ). get_or xs 0 value) results
