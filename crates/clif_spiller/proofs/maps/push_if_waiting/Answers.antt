use Rattle.std.proofs.Common.{◌∙◌, ℕ, List, sym, ap, subst}
use Rattle.std.specs.Prelude.{All, Contains, is_none, not}
use Rattle.std.proofs.lemmas.List.Elements.{All-push}
use Rattle.clif_safepoints.proofs.Paths.{stands_to}
use Rattle.clif_spiller.specs.Acting.{is_waiting}
use Rattle.clif_spiller.proofs.Waiting.{fails_one, not_spilled, passes_one, waits}
use Rattle.clif_spiller.proofs.maps.push_if_waiting.Goals as goal

pub returns-in_ok-push-clause-ok : goal.returns-in_ok-push-clause-ok
returns-in_ok-push-clause-ok c =
    let P : ℕ → Type 0 = Contains c.args.plan.now.spilled in
    let member : P c.args.value = stands_to c.args.value c.args.plan.now.spilled (sym c.is_spilled.ensures ∙ c.if-not-is_spilled.false) in
    subst (λ (xs : List ℕ). All P xs) (sym c.in_ok-push.ensures.items) (All-push P c.args.waiting.now.items c.args.value c.requires member)

pub returns-then-not-is_spilled-clause-items : goal.returns-then-not-is_spilled-clause-items
returns-then-not-is_spilled-clause-items c =
    fails_one (is_waiting c.args.plan.now c.args.slots.now) c.args.waiting.now.items c.args.value
    (not_spilled c.args.plan.now c.args.slots.now c.args.value (sym c.is_spilled.ensures ∙ c.if-not-is_spilled.true))

pub returns-in_ok-push-clause-items : goal.returns-in_ok-push-clause-items
returns-in_ok-push-clause-items c =
    c.in_ok-push.ensures.items
    ∙ passes_one (is_waiting c.args.plan.now c.args.slots.now) c.args.waiting.now.items c.args.value
    (waits c.args.plan.now c.args.slots.now c.args.value (sym c.is_spilled.ensures ∙ c.if-not-is_spilled.false)
    (ap is_none (sym c.get.ensures) ∙ ap not (c.is_none.ensures ∙ ap not c.if-is_none.true)))
