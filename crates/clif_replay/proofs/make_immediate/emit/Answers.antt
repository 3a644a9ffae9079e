use Rattle.std.proofs.Common.{rules, sym, subst, w64, ℤ}
use Rattle.std.proofs.lemmas.Int.{to_z-of_z}
use Rattle.std.specs.Prelude.{IsTrue}
use mir.Val.{SFits}
use Rattle.clif_expansion.specs.ScriptCall.{has_64_bits}
use Rattle.clif_builder.specs.declared.builder.FunctionBuilder.{FunctionBuilder}
use Rattle.clif_calls.specs.declared.immediate.ImmediateCall.{ImmediateCall}
use Rattle.clif_calls.specs.declared.immediate.ImmediateCall.TheVariants as immediate
use Rattle.clif_replay.specs.Emits.{BuildsEmission, constant_in}
use Rattle.clif_replay.proofs.Emissions.{bits-fit}
use Rattle.clif_replay.proofs.make_immediate.emit.Goals as goal

-- what a method was called with is read back as the number that it is
pub returns-in-IaddImmS-clause-built : goal.returns-in-IaddImmS-clause-built
returns-in-IaddImmS-clause-built g c =
    let fits : SFits w64 c.in-IaddImmS.imm = search rules in
    let one : ImmediateCall = immediate.IaddImmS c.in-IaddImmS.x c.in-IaddImmS.imm in
    let built : BuildsEmission one c.args.x c.ins.result.now c.iadd_imm_s.new.self c.iadd_imm_s.result =
    subst (λ (imm : ℤ). BuildsEmission (immediate.IaddImmS c.in-IaddImmS.x imm) c.args.x c.ins.result.now c.iadd_imm_s.new.self c.iadd_imm_s.result)
    (to_z-of_z w64 c.in-IaddImmS.imm fits) c.iadd_imm_s.ensures.built in
    subst (λ (called : ImmediateCall). BuildsEmission called c.args.x c.args.builder.now c.builder-1.given.0 c.iadd_imm_s.result) (sym c.in-IaddImmS.is)
    (subst (λ (new : FunctionBuilder _). BuildsEmission one c.args.x c.args.builder.now new c.iadd_imm_s.result) (sym (c.builder-1.given.1 (sym c.ins.ensures.same)))
    (subst (λ (old : FunctionBuilder _). BuildsEmission one c.args.x old c.iadd_imm_s.new.self c.iadd_imm_s.result) c.ins.ensures.builder built))

pub returns-in-IcmpImmS-clause-built : goal.returns-in-IcmpImmS-clause-built
returns-in-IcmpImmS-clause-built g c =
    let fits : SFits w64 c.in-IcmpImmS.imm = search rules in
    let one : ImmediateCall = immediate.IcmpImmS c.in-IcmpImmS.cond c.in-IcmpImmS.x c.in-IcmpImmS.imm in
    let built : BuildsEmission one c.args.x c.ins-in-IcmpImmS.result.now c.icmp_imm_s.new.self c.icmp_imm_s.result =
    subst (λ (imm : ℤ). BuildsEmission (immediate.IcmpImmS c.in-IcmpImmS.cond c.in-IcmpImmS.x imm) c.args.x c.ins-in-IcmpImmS.result.now c.icmp_imm_s.new.self c.icmp_imm_s.result)
    (to_z-of_z w64 c.in-IcmpImmS.imm fits) c.icmp_imm_s.ensures.built in
    subst (λ (called : ImmediateCall). BuildsEmission called c.args.x c.args.builder.now c.builder-in-IcmpImmS-1.given.0 c.icmp_imm_s.result) (sym c.in-IcmpImmS.is)
    (subst (λ (new : FunctionBuilder _). BuildsEmission one c.args.x c.args.builder.now new c.icmp_imm_s.result) (sym (c.builder-in-IcmpImmS-1.given.1 (sym c.ins-in-IcmpImmS.ensures.same)))
    (subst (λ (old : FunctionBuilder _). BuildsEmission one c.args.x old c.icmp_imm_s.new.self c.icmp_imm_s.result) c.ins-in-IcmpImmS.ensures.builder built))

pub returns-in-IaddImmS-clause-number : goal.returns-in-IaddImmS-clause-number
returns-in-IaddImmS-clause-number g c =
    let fits : SFits w64 c.in-IaddImmS.imm = search rules in
    subst (λ (called : ImmediateCall). IsTrue (has_64_bits (constant_in called))) (sym c.in-IaddImmS.is) (bits-fit c.in-IaddImmS.imm fits)

pub returns-in-IcmpImmS-clause-number : goal.returns-in-IcmpImmS-clause-number
returns-in-IcmpImmS-clause-number g c =
    let fits : SFits w64 c.in-IcmpImmS.imm = search rules in
    subst (λ (called : ImmediateCall). IsTrue (has_64_bits (constant_in called))) (sym c.in-IcmpImmS.is) (bits-fit c.in-IcmpImmS.imm fits)
