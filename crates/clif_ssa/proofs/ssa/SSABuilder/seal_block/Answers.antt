use Rattle.clif_ssa.proofs.Alongside.{seal_remembers, seal_loses}
use Rattle.clif_ssa.proofs.Public.{seal_keeps}
use Rattle.clif_ssa.proofs.StructuredPublic.{seal_structured}
use Rattle.clif_ssa.proofs.Tracks.{seal_tracks}
use Rattle.clif_ssa.proofs.WithinUses.{leads_of, seal_within}
use Rattle.clif_ssa.proofs.ssa.SSABuilder.seal_block.Goals as goal

pub returns-clause-makes : goal.returns-clause-makes
returns-clause-makes c = c.seal_one_block-told.ensures.makes

pub returns-clause-gives : goal.returns-clause-gives
returns-clause-gives c =
    let f = c.args.func.now in
    let g = c.seal_one_block-told.new.func in
    let s = c.args.self.now in
    let t = c.seal_one_block-told.new.self in
    let b = c.args.block in
    let answer = c.seal_one_block-told.result in
    let makes = c.seal_one_block-told.ensures.makes in
    let keeps = c.seal_one_block-told.ensures.keeps in
    record {
      keeps = λ own tables spares both. seal_keeps own f g s t tables b answer c.law_consistent.ensures spares both keeps.predecessors makes.local makes.completes;
      remembers = λ x d. seal_remembers x d f g s t b answer c.law_consistent.ensures c.requires.named keeps.stay makes.local makes.completes;
      structured = λ types own before. seal_structured types own f g s t b answer c.law_consistent.ensures before keeps.predecessors makes.local makes.completes;
      tells = makes.tells;
      tracks = λ named. seal_tracks f g s t b answer named makes.local makes.completes;
      within = λ holds branches waiting. seal_within holds f g s t b answer (leads_of holds f s c.requires.named branches) waiting keeps.predecessors makes.local makes.completes;
    }

pub returns-clause-keeps : goal.returns-clause-keeps
returns-clause-keeps c = c.seal_one_block-told.ensures.keeps

pub returns-clause-parameters : goal.returns-clause-parameters
returns-clause-parameters c = λ alone.
    seal_loses c.args.func.now c.seal_one_block-told.new.func c.args.self.now c.seal_one_block-told.new.self c.args.block c.seal_one_block-told.result
    c.law_consistent.ensures c.law_consistent-2.ensures (c.seal_one_block-told.ensures.makes.local alone)

pub returns-clause-pools : goal.returns-clause-pools
returns-clause-pools c = λ named. (c.seal_one_block-told.ensures.pools named).tables

pub returns-clause-full : goal.returns-clause-full
returns-clause-full c = c.seal_one_block-told.ensures.full_waiting

pub returns-clause-never_full : goal.returns-clause-never_full
returns-clause-never_full c = c.seal_one_block-told.ensures.never_full

pub returns-clause-ends : goal.returns-clause-ends
returns-clause-ends c = c.seal_one_block-told.ensures.ends

pub returns-clause-counts : goal.returns-clause-counts
returns-clause-counts c = c.seal_one_block-told.ensures.counts
