-- What edges pass to parameters stays what they have to, where the function and what leads to its blocks stay.
use Rattle.std.proofs.Common.{◌≡◌, ℕ, length, sym, subst}
use Rattle.std.specs.Prelude.{Contains}
use Rattle.clif_ir.specs.Body.{Body, block_at}
use Rattle.clif_instructions.specs.Members.{place_of}
use Rattle.clif_paths.specs.State.{Definition}
use Rattle.clif_paths.specs.Blocks.{Blocks}
use Rattle.clif_ssa.specs.Own.{Own}
use Rattle.clif_ssa.specs.Ssa.{SsaState, SamePredecessors}
use Rattle.clif_ssa.specs.Sound.{CountsArguments, IsBehind, IsCounted, passed_count}

-- what edges pass stays, where the branches and the definitions do
pub counts_kept : (own : Own) (f : Body) (s t : SsaState) (blocks blocks' : Blocks) → CountsArguments own f s blocks → SamePredecessors s t
    → ((v : ℕ) → blocks'.function.definition v ≡ blocks.function.definition v) → CountsArguments own f t blocks'
counts_kept own f s t blocks blocks' counts same_predecessors same = record {
  behind = λ b v is.
      subst (λ (d : Definition). IsBehind d.kind (place_of v (block_at f b).params) (length (own.params b))) (sym (same v)) (counts.behind b v is);
  callers = counts.callers;
  counted = λ b i k v here leads is.
      subst (λ (d : Definition). IsCounted d.kind (place_of v (block_at f b).params) (length (own.params b)) (passed_count f i k) (length (own.passed i k))) (sym (same v))
      (counts.counted b i k v (subst (λ xs. Contains xs i) (same_predecessors b) here) leads is);
  no_fewer = λ b i k here leads. counts.no_fewer b i k (subst (λ xs. Contains xs i) (same_predecessors b) here) leads;
  no_more = λ b i k here leads. counts.no_more b i k (subst (λ xs. Contains xs i) (same_predecessors b) here) leads;
}
