-- A variable is used in a block, or assigned.
use Rattle.std.proofs.Common.{◌≡◌, ◌≢◌, ℕ, ◌==◌, ◌&&◌, ap, sym, ◌∙◌}
use Rattle.std.specs.Prelude.{Some, None, cond}
use Rattle.clif_ir.specs.Body.{Body}
use Rattle.clif_paths.specs.Places.{start}
use Rattle.clif_paths.specs.Blocks.{Blocks, last_place, with_write}
use Rattle.clif_ssa.specs.Own.{Own}
use Rattle.clif_ssa.specs.Ssa.{SsaState, record_of, Records, SameBlocks, SamePredecessors}
use Rattle.clif_ssa.specs.SoundLaws.{DescribesSoundly, IsOpen}
use Rattle.clif_ssa.proofs.Writing.{write_described}

-- an assignment of a name's answer
pub def_keeps : (own : Own) (f : Body) (s t : SsaState) (blocks : Blocks) (b x n value : ℕ) → DescribesSoundly own f s blocks → blocks.answer n ≡ value
    → IsOpen f s b → (blocks.naming n).home ≢ start → blocks.assigned (last_place blocks b) x ≡ None → Records s t x b value → SameBlocks s t → SamePredecessors s t
    → DescribesSoundly own f t (with_write blocks b x n)
def_keeps own f s t blocks b x n value both answers open_block given none written same leads =
    write_described own f s t blocks b x n both open_block given none
    (λ v c. written v c ∙ ap (λ w. cond (v == x && c == b) (Some w) (record_of s v c)) (sym answers)) same leads
