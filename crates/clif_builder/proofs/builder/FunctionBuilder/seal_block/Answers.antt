use Rattle.std.proofs.Common.{refl}
use Rattle.clif_builder.proofs.GoingOn.{goes_nowhere, goes_on}
use Rattle.clif_builder.proofs.Calls.{told, made}
use Rattle.clif_builder.proofs.Counted.{waits_declared, within_full}
use Rattle.clif_builder.proofs.Placed.{in_order}
use Rattle.clif_builder.proofs.UsedAlike.{failed_full}
use Rattle.std.specs.Prelude.{◌==◌}
use Rattle.clif_builder.proofs.Remembered.{remembers_sealed}
use Rattle.clif_builder.proofs.LedgerBlocks.{sealed}
use Rattle.clif_builder.proofs.Standing.{standing_edges}
use Rattle.clif_builder.proofs.StandingResults.{sealed_stands}
use Rattle.clif_builder.proofs.Growing.{sealed_grows}
use Rattle.clif_builder.proofs.Framed.{sealed-filled, sealed-others, sealed-types}
use Rattle.clif_builder.proofs.Named.{kept_by, opened}
use Rattle.clif_builder.proofs.Ordered.{order-sealed-one}
use Rattle.clif_simulation.proofs.Shape.CarriedStructure.{sealed_parameters}
use Rattle.clif_ssa.proofs.Constructing.{constructs_none}
use Rattle.clif_ssa.proofs.Pooling.{pool_none}
use Rattle.clif_builder.proofs.Fitting.{fits_sealed}
use Rattle.clif_builder.proofs.builder.FunctionBuilder.seal_block.Goals as goal

pub returns-clause-told : goal.returns-clause-told
returns-clause-told g c = λ name.
    told c.args.self.now _ c.seal_block-sealed.result _ _
    (λ calls agrees names.
    sealed calls _ _ _ _ _ name c.args.block _ agrees names c.seal_block-sealed.ensures.is_sealing c.law_consistent.ensures c.law_consistent-2.ensures c.seal_block-sealed.ensures.variables)
    (λ signature calls stands names ledger.
    let done = c.seal_block-sealed.ensures in
    sealed_stands signature calls _ _ _ _ _ name c.args.block _ stands c.law_consistent.ensures done.is_sealing c.law_consistent-2.ensures
    ledger)

pub returns-clause-call : goal.returns-clause-call
returns-clause-call g c =
    made c.args.self.now _ c.seal_block-sealed.result (record { func = refl; ctx = refl; region = refl }) refl refl c.if-self.false c.seal_block-sealed.ensures.never_failed c.is_err-self.ensures.value
    c.seal_block-sealed.ensures.looks_once (sealed-types c.seal_block-sealed.result c.args.self.now.func.now c.seal_block-sealed.new.func c.args.self.now.ctx.now.parts c.seal_block-sealed.new.self (λ b. b == c.args.block) c.seal_block-sealed.ensures.is_sealing)
    (sealed-filled c.seal_block-sealed.result c.args.self.now.func.now c.seal_block-sealed.new.func c.args.self.now.ctx.now.parts c.seal_block-sealed.new.self (λ b. b == c.args.block) c.seal_block-sealed.ensures.is_sealing)

pub seal_block-sealed-requires : goal.seal_block-sealed-requires
seal_block-sealed-requires g c = record { named = opened _ _ _ c.args.self.now.named }

pub returns-then-self-clause-edges_match : goal.returns-then-self-clause-edges_match
returns-then-self-clause-edges_match g c = λ signature calls stands none_waits typed. standing_edges signature calls _ _ _ stands none_waits typed

pub returns-clause-edges_match : goal.returns-clause-edges_match
returns-clause-edges_match g c = λ signature calls stands none_waits typed. standing_edges signature calls _ _ _ stands none_waits typed

pub returns-then-self-clause-parameters : goal.returns-then-self-clause-parameters
returns-then-self-clause-parameters g c = λ signature calls stands. sealed_parameters calls _ _ stands.carries

pub returns-clause-parameters : goal.returns-clause-parameters
returns-clause-parameters g c = λ signature calls stands. sealed_parameters calls _ _ stands.carries

pub invariant_of-self : goal.invariant_of-self
invariant_of-self g c =
    let done = c.seal_block-sealed.ensures in
    record {
      named = kept_by c.seal_block-sealed.result _ _ _ _ _ _ c.if-self.false c.is_err-self.ensures.value (λ names. done.names)
          (order-sealed-one c.seal_block-sealed.result c.args.self.now.func.now c.seal_block-sealed.new.func c.args.self.now.ctx.now.parts c.seal_block-sealed.new.self c.args.block c.requires.exists done.is_sealing c.law_consistent.ensures c.law_consistent-2.ensures done.variables)
          (fits_sealed c.seal_block-sealed.result c.args.self.now.func.now c.seal_block-sealed.new.func c.args.self.now.ctx.now.parts c.seal_block-sealed.new.self (λ b. b == c.args.block) done.is_sealing done.variables.0)
          c.args.self.now.named;
    }

pub returns-then-self-clause-pools : goal.returns-then-self-clause-pools
returns-then-self-clause-pools g c = pool_none _ _

pub returns-clause-pools : goal.returns-clause-pools
returns-clause-pools g c = c.seal_block-sealed.ensures.pools

pub returns-clause-full : goal.returns-clause-full
returns-clause-full g c = c.seal_block-sealed.ensures.full

pub returns-clause-goes_on : goal.returns-clause-goes_on
returns-clause-goes_on g c =
    goes_on c.args.self.now _ c.seal_block-sealed.result (returns-clause-call g c)
    (sealed_grows c.seal_block-sealed.result c.args.self.now.func.now c.args.self.now.ctx.now.parts c.seal_block-sealed.new.func c.seal_block-sealed.new.self (λ b. b == c.args.block) c.seal_block-sealed.ensures.is_sealing)
    (λ x b. remembers_sealed c.seal_block-sealed.result x b c.args.self.now.func.now c.seal_block-sealed.new.func c.args.self.now.ctx.now.parts c.seal_block-sealed.new.self (λ b. b == c.args.block) c.seal_block-sealed.ensures.is_sealing)

pub returns-then-self-clause-goes_on : goal.returns-then-self-clause-goes_on
returns-then-self-clause-goes_on g c = goes_nowhere (λ x b. Unit {0}) c.args.self.now _ _

pub returns-clause-leaves : goal.returns-clause-leaves
returns-clause-leaves g c =
    let done = c.seal_block-sealed.ensures in
    record {
      stay = done.stay;
      variables = done.variables.0;
      constructs = done.constructs;
      within = λ calls agrees full.
          within_full calls c.args.self.now.func.now c.args.self.now.ctx.now.parts c.seal_block-sealed.new.func c.seal_block-sealed.new.self.ssa c.seal_block-sealed.result (done.counts c.requires.exists)
          (waits_declared c.args.self.now.func.now c.args.self.now.ctx.now.parts (in_order agrees)) agrees.counts full;
    }

pub returns-then-self-clause-leaves : goal.returns-then-self-clause-leaves
returns-then-self-clause-leaves g c = record { stay = λ x b v is. is; variables = refl; constructs = constructs_none _; within = λ calls agrees full. absurd (failed_full full) }

pub returns-clause-seals : goal.returns-clause-seals
returns-clause-seals g c =
    let done = c.seal_block-sealed.ensures in
    record {
      is_sealing = done.is_sealing;
      alone = done.alone;
      others = sealed-others c.seal_block-sealed.result c.args.self.now.func.now c.seal_block-sealed.new.func c.args.self.now.ctx.now.parts c.seal_block-sealed.new.self c.args.block done.is_sealing;
      function = done.function;
      sealed = done.sealed;
      records = done.records;
    }

pub returns-then-self-clause-seals : goal.returns-then-self-clause-seals
returns-then-self-clause-seals g c = record { is_sealing = tt; alone = λ none. tt; others = tt; function = λ none. tt; sealed = λ none. tt; records = λ none x b. refl }
