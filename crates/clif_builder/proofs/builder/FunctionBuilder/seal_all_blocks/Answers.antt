use Rattle.std.proofs.Common.{refl}
use Rattle.clif_builder.proofs.GoingOn.{goes_nowhere, goes_on}
use Rattle.clif_builder.proofs.Calls.{told, made}
use Rattle.clif_builder.proofs.Counted.{waits_declared, within_full}
use Rattle.clif_builder.proofs.Placed.{in_order}
use Rattle.clif_builder.proofs.UsedAlike.{failed_full}
use Rattle.std.specs.Prelude.{ltb, length}
use Rattle.clif_builder.proofs.Remembered.{remembers_sealed}
use Rattle.clif_builder.proofs.SealingAll.{all_sealed, sealed_all, sealed_all_stands}
use Rattle.clif_builder.proofs.Finishing.{sealed_edges}
use Rattle.clif_builder.proofs.Growing.{sealed_grows}
use Rattle.clif_builder.proofs.Framed.{sealed-filled, sealed-types}
use Rattle.clif_builder.proofs.Named.{kept_by, opened}
use Rattle.clif_builder.proofs.Ordered.{order-sealed-all}
use Rattle.clif_simulation.proofs.Shape.CarriedStructure.{sealed_parameters}
use Rattle.clif_ssa.proofs.Constructing.{constructs_none}
use Rattle.clif_ssa.proofs.SealPools.{first_pools}
use Rattle.clif_builder.proofs.Fitting.{fits_sealed}
use Rattle.clif_builder.proofs.builder.FunctionBuilder.seal_all_blocks.Goals as goal

pub seal_all_blocks-sealed-requires : goal.seal_all_blocks-sealed-requires
seal_all_blocks-sealed-requires g c = record { named = opened _ _ _ c.args.self.now.named }

pub returns-clause-told : goal.returns-clause-told
returns-clause-told g c =
    told c.args.self.now _ c.seal_all_blocks-sealed.result _ _
    (λ calls agrees _.
    sealed_all calls _ _ _ _ _ _ agrees c.seal_all_blocks-sealed.ensures.is_sealing c.law_consistent.ensures c.law_consistent-2.ensures c.seal_all_blocks-sealed.ensures.variables)
    (λ signature calls stands _ ledger.
    sealed_all_stands signature calls _ _ _ _ _ _ stands c.law_consistent.ensures c.seal_all_blocks-sealed.ensures.is_sealing c.law_consistent-2.ensures
    ledger)

pub returns-clause-call : goal.returns-clause-call
returns-clause-call g c =
    made c.args.self.now _ c.seal_all_blocks-sealed.result (record { func = refl; ctx = refl; region = refl }) refl refl c.if-self.false c.seal_all_blocks-sealed.ensures.never_failed c.is_err-self.ensures.value
    c.seal_all_blocks-sealed.ensures.looks_once (sealed-types c.seal_all_blocks-sealed.result c.args.self.now.func.now c.seal_all_blocks-sealed.new.func c.args.self.now.ctx.now.parts c.seal_all_blocks-sealed.new.self (λ b. ltb b (length c.args.self.now.func.now.blocks)) c.seal_all_blocks-sealed.ensures.is_sealing)
    (sealed-filled c.seal_all_blocks-sealed.result c.args.self.now.func.now c.seal_all_blocks-sealed.new.func c.args.self.now.ctx.now.parts c.seal_all_blocks-sealed.new.self (λ b. ltb b (length c.args.self.now.func.now.blocks)) c.seal_all_blocks-sealed.ensures.is_sealing)

pub returns-clause-sealed : goal.returns-clause-sealed
returns-clause-sealed g c =
    all_sealed c.args.self.now.func.now c.seal_all_blocks-sealed.new.func c.args.self.now.ctx.now.parts c.seal_all_blocks-sealed.new.self c.seal_all_blocks-sealed.result
    c.seal_all_blocks-sealed.ensures.is_sealing

pub returns-clause-edges_match : goal.returns-clause-edges_match
returns-clause-edges_match g c = λ signature calls stands typed.
    sealed_edges signature calls _ _ _ stands c.seal_all_blocks-sealed.result (returns-clause-sealed g c) typed

pub returns-then-self-clause-parameters : goal.returns-then-self-clause-parameters
returns-then-self-clause-parameters g c = λ signature calls stands. sealed_parameters calls _ _ stands.carries

pub returns-clause-parameters : goal.returns-clause-parameters
returns-clause-parameters g c = λ signature calls stands. sealed_parameters calls _ _ stands.carries

pub invariant_of-self : goal.invariant_of-self
invariant_of-self g c =
    let done = c.seal_all_blocks-sealed.ensures in
    record {
      named = kept_by c.seal_all_blocks-sealed.result _ _ _ _ _ _ c.if-self.false c.is_err-self.ensures.value (λ names. done.names)
          (order-sealed-all c.seal_all_blocks-sealed.result c.args.self.now.func.now c.seal_all_blocks-sealed.new.func c.args.self.now.ctx.now.parts c.seal_all_blocks-sealed.new.self done.is_sealing c.law_consistent.ensures c.law_consistent-2.ensures done.variables)
          (fits_sealed c.seal_all_blocks-sealed.result c.args.self.now.func.now c.seal_all_blocks-sealed.new.func c.args.self.now.ctx.now.parts c.seal_all_blocks-sealed.new.self (λ b. ltb b (length c.args.self.now.func.now.blocks)) done.is_sealing done.variables.0)
          c.args.self.now.named;
    }

pub returns-then-self-clause-pools : goal.returns-then-self-clause-pools
returns-then-self-clause-pools g c = first_pools c.args.self.now.func.now c.args.self.now.ctx.now.parts.ssa

pub returns-clause-pools : goal.returns-clause-pools
returns-clause-pools g c = c.seal_all_blocks-sealed.ensures.pools

pub returns-clause-full : goal.returns-clause-full
returns-clause-full g c = c.seal_all_blocks-sealed.ensures.full

pub returns-clause-goes_on : goal.returns-clause-goes_on
returns-clause-goes_on g c =
    goes_on c.args.self.now _ c.seal_all_blocks-sealed.result (returns-clause-call g c)
    (sealed_grows c.seal_all_blocks-sealed.result c.args.self.now.func.now c.args.self.now.ctx.now.parts c.seal_all_blocks-sealed.new.func c.seal_all_blocks-sealed.new.self (λ b. ltb b (length c.args.self.now.func.now.blocks)) c.seal_all_blocks-sealed.ensures.is_sealing)
    (λ x b. remembers_sealed c.seal_all_blocks-sealed.result x b c.args.self.now.func.now c.seal_all_blocks-sealed.new.func c.args.self.now.ctx.now.parts c.seal_all_blocks-sealed.new.self (λ b. ltb b (length c.args.self.now.func.now.blocks)) c.seal_all_blocks-sealed.ensures.is_sealing)

pub returns-then-self-clause-goes_on : goal.returns-then-self-clause-goes_on
returns-then-self-clause-goes_on g c = goes_nowhere (λ x b. Unit {0}) c.args.self.now _ _

pub returns-clause-leaves : goal.returns-clause-leaves
returns-clause-leaves g c =
    let done = c.seal_all_blocks-sealed.ensures in
    record {
      stay = done.stay;
      variables = done.variables.0;
      constructs = done.constructs;
      within = λ calls agrees full.
          within_full calls c.args.self.now.func.now c.args.self.now.ctx.now.parts c.seal_all_blocks-sealed.new.func c.seal_all_blocks-sealed.new.self.ssa c.seal_all_blocks-sealed.result done.counts
          (waits_declared c.args.self.now.func.now c.args.self.now.ctx.now.parts (in_order agrees)) agrees.counts full;
    }

pub returns-then-self-clause-leaves : goal.returns-then-self-clause-leaves
returns-then-self-clause-leaves g c = record { stay = λ x b v is. is; variables = refl; constructs = constructs_none _; within = λ calls agrees full. absurd (failed_full full) }
