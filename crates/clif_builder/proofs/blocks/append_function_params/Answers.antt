use Rattle.std.proofs.Common.{rules, ◌≡◌, ◌-◌, ◌^◌, ◌∙◌, sym, ap, subst, arith, length, get_or, take}
use Rattle.std.proofs.lemmas.Grind.{common_steps}
use Rattle.clif_types.specs.Signature.{SignatureShape}
use Rattle.clif_ir.specs.Body.{Body}
use Rattle.clif_tables.specs.Callees.{types_of}
use Rattle.clif_builder.specs.Growth.{Grows}
use Rattle.clif_builder.proofs.StandingParameters.{Grows-params, no-room, params-next, same-signature}
use Rattle.clif_builder.proofs.blocks.append_function_params.Goals as goal

pub index-requires : goal.index-requires
index-requires c =
    let count = ap (λ (s : SignatureShape). length s.params) (c.behind-func.view_is ∙ c.signature.ensures) in
    let now = ap (λ (s : SignatureShape). length s.params) (c.behind-func-in-loop-index.view_is ∙ c.signature-in-loop-index.ensures ∙ same-signature c.args.func.now c.loop-index.func c.args.block (types_of (take c.loop-index.index c.args.func.now.signature.params)) c.loop-index.invariant) in
    let inside = c.loop-index-test.true in
    let end = c.len-index-end.ensures in omega (arith, inside, end, count, now)

pub append_block_param-requires : goal.append_block_param-requires
append_block_param-requires c =
    let grows = Grows-params c.args.func.now c.args.block (types_of (take c.loop-index.index c.args.func.now.signature.params)) in
    let same = ap (λ (f : Body). length f.blocks) c.loop-index.invariant in
    let there = c.requires in omega (arith, grows.2, same, there)

pub returns-in_err-append_block_param-clause-grows : goal.returns-in_err-append_block_param-clause-grows
returns-in_err-append_block_param-clause-grows c =
    subst (Grows c.args.func.now) (sym (c.in_err-append_block_param.ensures.err ∙ c.loop-index.invariant))
    (Grows-params c.args.func.now c.args.block (types_of (take c.loop-index.index c.args.func.now.signature.params)))

pub loop-index-preserved : goal.loop-index-preserved
loop-index-preserved c =
    let count = ap (λ (s : SignatureShape). length s.params) (c.behind-func.view_is ∙ c.signature.ensures) in
    let inside = c.loop-index-test.true in
    let end = c.len-index-end.ensures in
    let now = c.behind-func-in-loop-index.view_is ∙ c.signature-in-loop-index.ensures ∙ same-signature c.args.func.now c.loop-index.func c.args.block (types_of (take c.loop-index.index c.args.func.now.signature.params)) c.loop-index.invariant in
    params-next c.args.func.now c.loop-index.func c.append_block_param.new.self c.args.block c.args.func.now.signature.params c.loop-index.index c.index.result.now
    (omega (arith, inside, end, count))
    (c.index.ensures ∙ ap (λ (s : SignatureShape). get_or s.params c.loop-index.index c.index.result.now) now)
    c.loop-index.invariant c.in_ok-append_block_param.ensures.ok

pub returns-in_err-append_block_param-clause-room : goal.returns-in_err-append_block_param-clause-room
returns-in_err-append_block_param-clause-room c = λ told.
    let count = ap (λ (s : SignatureShape). length s.params) (c.behind-func.view_is ∙ c.signature.ensures) in
    let inside = c.loop-index-test.true in
    let end = c.len-index-end.ensures in
    let full : length c.append_block_param.new.self.values ≡ 2 ^ 32 - 1 = first_of (search rules, grind (arith, common_steps)) in
    no-room c.args.func.now c.append_block_param.new.self c.args.block c.args.func.now.signature.params c.loop-index.index (omega (arith, inside, end, count))
    (c.in_err-append_block_param.ensures.err ∙ c.loop-index.invariant) full

pub returns-clause-grows : goal.returns-clause-grows
returns-clause-grows c =
    subst (Grows c.args.func.now) (sym c.loop-index.invariant)
    (Grows-params c.args.func.now c.args.block (types_of (take c.loop-index.index c.args.func.now.signature.params)))
