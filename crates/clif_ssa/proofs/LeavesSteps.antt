-- What a step leaves, one after another.
use Rattle.std.proofs.Common.{◌≡◌, ℕ, length, refl, ap, ◌∙◌}
use Rattle.clif_types.specs.declared.types.«Type».{«Type»}
use Rattle.clif_ir.specs.Body.{Body}
use Rattle.clif_ssa.specs.Ssa.{SsaState, SameBlocks, SamePredecessors, SameRecords}
use Rattle.clif_ssa.specs.Steps.{StepKeeps, StepLeaves}
use Rattle.clif_records.specs.Tables.{is_yes, predecessors_at, sealed_at}
use Rattle.clif_ssa.proofs.Constructing.{constructs_none, constructs_then}
use Rattle.clif_ssa.proofs.Local.{named-same}
use Rattle.clif_ssa.proofs.Naming.{has_more, more-then}
use Rattle.clif_ssa.proofs.Steps.{known_same}
use Rattle.clif_ssa.proofs.Waited.{no_more-self, no_more-then}

pub leaves_none : (f : Body) (s : SsaState) → StepLeaves f s f s
leaves_none f s = record {
  predecessors = λ b. refl;
  stay = λ y b v is. is;
  flags = λ b. refl;
  no_more = no_more-self s (length f.blocks);
  more = has_more f;
  constructs = constructs_none f;
  names = λ named. named;
}

pub leaves_then : (f : Body) (s : SsaState) (g : Body) (t : SsaState) (h : Body) (u : SsaState) → StepLeaves f s g t → StepLeaves g t h u → StepLeaves f s h u
leaves_then f s g t h u first next = record {
  predecessors = λ b. next.predecessors b ∙ first.predecessors b;
  stay = λ y b v is. next.stay y b v (first.stay y b v is);
  flags = λ b. next.flags b ∙ first.flags b;
  no_more = no_more-then s t u (length f.blocks) (length g.blocks) first.more.blocks first.no_more next.no_more;
  more = more-then f g h first.more next.more;
  constructs = constructs_then f g h first.constructs next.constructs;
  names = λ named. next.names (first.names named);
}

pub leaves_from : {ty : «Type»} (x : ℕ) (f : Body) (s : SsaState) (g : Body) (t : SsaState) → StepKeeps x ty f s g t → StepLeaves f s g t
leaves_from x f s g t keeps = record {
  predecessors = keeps.predecessors;
  stay = keeps.stay;
  flags = keeps.flags;
  no_more = keeps.no_more;
  more = keeps.more;
  constructs = keeps.constructs;
  names = keeps.names;
}

-- the records and the blocks stay
pub leaves_kept : (f : Body) (s t : SsaState) → SameRecords s t → t.blocks ≡ s.blocks → StepLeaves f s f t
leaves_kept f s t records blocks =
    let sealed : SameBlocks s t = λ b. ap (λ known. sealed_at known b) blocks in
    let same : SamePredecessors s t = λ b. ap (λ known. predecessors_at known b) blocks in
    record {
      predecessors = same;
      stay = λ y c v at. records y c ∙ at;
      flags = λ c. ap is_yes (sealed c);
      no_more = known_same s t (length f.blocks) blocks;
      more = has_more f;
      constructs = constructs_none f;
      names = named-same f f s t (has_more f) same records sealed;
    }
