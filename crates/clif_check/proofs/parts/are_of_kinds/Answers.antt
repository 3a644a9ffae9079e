use Rattle.std.proofs.Common.{get_or, ap, sym, subst, ◌∙◌}
use Rattle.clif_types.specs.declared.types.«Type».{«Type»}
use Rattle.clif_opcodes.specs.declared.kinds.OperandKind.TheVariants as operand
use Rattle.clif_opcodes.specs.Kinds.{IsOfKind}
use Rattle.clif_check.specs.WellTyped.{type_at}
use Rattle.clif_check.proofs.Pairs.{accepted, below_more, refused_at, refused_long, said_no}
use Rattle.clif_check.proofs.Pieces.{OfKind, kinds_pairs, pairs_kinds}
use Rattle.clif_check.proofs.parts.are_of_kinds.Goals as goal

pub returns-then-values-kinds : goal.returns-then-values-kinds
returns-then-values-kinds c =
    refused_long (OfKind c.args.func.now c.args.controlling) c.args.values.now c.args.kinds.now
    (kinds_pairs c.args.func.now c.args.controlling c.args.kinds.now c.args.values.now) c.if-values-kinds.true

pub returns-then-not-admits : goal.returns-then-not-admits
returns-then-not-admits c =
    let typed = c.value_type.ensures ∙ ap (type_at c.args.func.now) c.index-values-place.is in
    refused_at (OfKind c.args.func.now c.args.controlling) c.args.values.now c.args.kinds.now
    (kinds_pairs c.args.func.now c.args.controlling c.args.kinds.now c.args.values.now) c.loop-place.place c.index-values-place.result operand.Controlling c.loop-place-test.true
    (said_no c.if-not-admits.true (λ of_kind. c.admits.ensures.1 (subst (λ (ty : «Type»). IsOfKind c.args.controlling (get_or c.args.kinds.now c.loop-place.place operand.Controlling) ty) (sym typed) of_kind)))

pub loop-place-preserved : goal.loop-place-preserved
loop-place-preserved c =
    let typed = c.value_type.ensures ∙ ap (type_at c.args.func.now) c.index-values-place.is in
    below_more (OfKind c.args.func.now c.args.controlling) c.args.values.now c.args.kinds.now c.loop-place.place c.index-values-place.result operand.Controlling
    c.loop-place.invariant c.loop-place-test.true c.if-values-kinds.false
    (subst (λ (ty : «Type»). IsOfKind c.args.controlling (get_or c.args.kinds.now c.loop-place.place operand.Controlling) ty) typed (c.admits.ensures.0 c.if-not-admits.false))

pub returns : goal.returns
returns c =
    accepted (OfKind c.args.func.now c.args.controlling) c.args.values.now c.args.kinds.now c.loop-place.place
    (pairs_kinds c.args.func.now c.args.controlling c.args.kinds.now c.args.values.now) c.if-values-kinds.false c.loop-place.invariant c.loop-place-test.false
