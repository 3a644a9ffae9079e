use Rattle.std.proofs.Common.{◌≡◌, ◌<◌, ◌-◌, ◌∙◌, ℕ, List, [], ◌∷◌, length, get_or, refl, sym, ap, subst, arith, inl, inr}
use Rattle.std.proofs.lemmas.Bool.{eqb-false, eqb-true}
use Rattle.clif_ir.specs.Body.{Body, inst_at}
use Rattle.clif_spiller.proofs.Shapes.{get_or_inside}
use Rattle.clif_spiller.specs.Plans.{insts_inside}
use Rattle.clif_spiller.proofs.Inside.{block_inside, inst_exists}
use Rattle.clif_spiller.proofs.Keeping.{goes_further, goes_on_refl, keeps_refl, on_ok, on_ok₂, on_ok₃, plan_stays}
use Rattle.clif_spiller.proofs.Progressing.Rewriting.{IsRewrittenFrom, first_home, has_first, nothing_rewritten, one_more_inst, params_too}
use Rattle.clif_spiller.proofs.blocks.rewrite_block.Goals as goal

length_none : (xs : List ℕ) → length xs ≡ 0 → xs ≡ []
length_none [] is = refl
length_none (x ∷ xs) is = absurd (omega (arith, is))

pub returns-then-is_empty-clause-ok : goal.returns-then-is_empty-clause-ok
returns-then-is_empty-clause-ok c =
    on_ok c.free_params.result (λ knows. record { keeps = keeps_refl (length c.args.func.now.blocks) c.args.func.now; slots = knows }) c.free_params.ensures.ok

pub loop-place-init : goal.loop-place-init
loop-place-init c = (
  goes_on_refl (length c.args.func.now.blocks) c.args.func.now c.args.slots.now c.requires.slots,
  nothing_rewritten c.args.plan.now c.args.block c.args.func.now c.args.slots.now (length c.args.insts.now) (ap (λ (xs : List ℕ). length xs) c.requires.insts),
)

pub rewrite_inst-requires-clause-inst_exists : goal.rewrite_inst-requires-clause-inst_exists
rewrite_inst-requires-clause-inst_exists c =
    let at : ℕ = c.loop-place.place - 1 in
    let inst : ℕ = c.index-insts-place.result in
    let inside : at < length (insts_inside c.args.func.now c.args.block) = subst (λ xs. at < length xs) c.requires.insts (omega (arith, c.loop-place-test.true, c.loop-place.auto.place)) in
    let exists : inst < length c.args.func.now.insts =
    subst (λ i. i < length c.args.func.now.insts) (ap (λ xs. get_or xs at inst) (sym c.requires.insts) ∙ sym c.index-insts-place.is)
    (inst_exists c.args.func.now c.args.block at inst c.law_consistent.ensures inside) in
    omega (arith, exists, c.loop-place.invariant.0.keeps.insts)

pub rewrite_inst-requires-clause-plan : goal.rewrite_inst-requires-clause-plan
rewrite_inst-requires-clause-plan c =
    plan_stays (length c.args.func.now.blocks) c.args.func.now c.loop-place.func c.loop-place.invariant.0.keeps c.args.plan.now c.requires.plan

pub rewrite_inst-requires-clause-inside : goal.rewrite_inst-requires-clause-inside
rewrite_inst-requires-clause-inside c =
    let at : ℕ = c.loop-place.place - 1 in
    let inside : at < length (insts_inside c.args.func.now c.args.block) =
    subst (λ xs. at < length xs) c.requires.insts (omega (arith, c.loop-place-test.true, c.loop-place.auto.place)) in
    c.loop-place.invariant.0.keeps.layout c.args.block (block_inside c.args.func.now c.args.block at inside)

pub loop-place-preserved : goal.loop-place-preserved
loop-place-preserved c =
    let at : ℕ = c.loop-place.place - 1 in
    let inst : ℕ = c.index-insts-place.result in (
      goes_further c.args.func.now c.args.slots.now c.loop-place.func c.loop-place.slots c.rewrite_inst.new.func c.rewrite_inst.new.slots
          c.loop-place.invariant.0 c.in_ok-rewrite_inst.ensures.ok,
      one_more_inst c.args.plan.now c.args.block c.args.func.now c.args.slots.now c.loop-place.place at inst c.loop-place.func c.loop-place.slots
          c.rewrite_inst.new.func c.rewrite_inst.new.slots (omega (arith, c.loop-place-test.true))
          (subst (λ (xs : List ℕ). at < length xs) c.requires.insts (omega (arith, c.loop-place-test.true, c.loop-place.auto.place)))
          (c.index-insts-place.is ∙ ap (λ (xs : List ℕ). get_or xs at inst) c.requires.insts) c.loop-place.invariant.1 c.in_ok-rewrite_inst.ensures.acts,
    )

pub returns-in-Some-clause-ok : goal.returns-in-Some-clause-ok
returns-in-Some-clause-ok c =
    on_ok c.store_params.result
    (goes_further c.args.func.now c.args.slots.now c.loop-place.func c.loop-place.slots c.store_params.new.func c.store_params.new.slots c.loop-place.invariant.0)
    c.store_params.ensures.ok

pub returns-then-is_empty-clause-rewrites : goal.returns-then-is_empty-clause-rewrites
returns-then-is_empty-clause-rewrites c =
    let f : Body = c.args.func.now in
    on_ok₂ c.free_params.result
    (λ knows acts.
    params_too c.args.plan.now c.args.block f c.args.slots.now f c.args.slots.now f c.free_params.new.slots c.args.block
    (nothing_rewritten c.args.plan.now c.args.block f c.args.slots.now 0 (sym (eqb-true (length c.args.insts.now) 0 (sym c.is_empty.ensures ∙ c.if-is_empty.true)) ∙ ap (λ (xs : List ℕ). length xs) c.requires.insts))
    (record { keeps = keeps_refl (length f.blocks) f; slots = knows }) refl acts (inl (none, none, refl)))
    c.free_params.ensures.ok c.free_params.ensures.acts
  where
    none : insts_inside c.args.func.now c.args.block ≡ []
    none = sym c.requires.insts ∙ length_none c.args.insts.now (eqb-true (length c.args.insts.now) 0 (sym c.is_empty.ensures ∙ c.if-is_empty.true))

pub returns-in-Some-clause-rewrites : goal.returns-in-Some-clause-rewrites
returns-in-Some-clause-rewrites c =
    on_ok₃ c.store_params.result
    (λ goes acts stores.
    params_too c.args.plan.now c.args.block c.args.func.now c.args.slots.now c.loop-place.func c.loop-place.slots c.store_params.new.func c.store_params.new.slots
    (inst_at c.loop-place.func c.in-Some.first).block
    (subst (λ (n : ℕ). IsRewrittenFrom c.args.plan.now c.args.block n c.args.func.now c.args.slots.now c.loop-place.func c.loop-place.slots)
    (let none : c.loop-place.place ≡ 0 = omega (arith, c.loop-place-test.false) in none) c.loop-place.invariant.1)
    goes (first_home c.loop-place.func c.args.block c.in-Some.first c.law_consistent-2.ensures (sym c.first_inst.ensures.exact ∙ c.in-Some.is)) acts
    (inr (
      (let apart = eqb-false (length c.args.insts.now) 0 (sym c.is_empty.ensures ∙ c.if-is_empty.false) in let same = ap (λ (xs : List ℕ). length xs) c.requires.insts in omega (arith, apart, same)),
      record {
        stands = c.loop-place.invariant.0.keeps.layout c.args.block (block_inside c.args.func.now c.args.block 0
            (let apart = eqb-false (length c.args.insts.now) 0 (sym c.is_empty.ensures ∙ c.if-is_empty.false) in let same = ap (λ (xs : List ℕ). length xs) c.requires.insts in omega (arith, apart, same)));
        front = c.in-Some.first;
        is_front = sym c.first_inst.ensures.exact ∙ c.in-Some.is;
        home = first_home c.loop-place.func c.args.block c.in-Some.first c.law_consistent-2.ensures (sym c.first_inst.ensures.exact ∙ c.in-Some.is);
        stores = stores;
      },
    )))
    c.store_params.ensures.ok c.store_params.ensures.acts c.store_params.ensures.stores

pub returns-in-None-clause-rewrites : goal.returns-in-None-clause-rewrites
returns-in-None-clause-rewrites c =
    let f : Body = c.args.func.now in
    let xs : List ℕ = insts_inside f c.args.block in
    let apart = eqb-false (length c.args.insts.now) 0 (sym c.is_empty.ensures ∙ c.if-is_empty.false) in
    let some : 0 < length xs = omega (arith, apart, ap (λ (ys : List ℕ). length ys) c.requires.insts) in
    let i : ℕ = get_or xs 0 0 in
    absurd (has_first f c.loop-place.func c.args.block i c.law_consistent.ensures c.law_consistent-2.ensures (0, some, get_or_inside xs 0 i 0 some)
    c.loop-place.invariant.0.keeps.insts c.loop-place.invariant.0.keeps.homes (sym c.first_inst.ensures.exact ∙ c.in-None.is))
