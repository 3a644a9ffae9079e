-- The instructions of a block of the layout.
use Rattle.std.proofs.Common.{◌≡◌, ◌<◌, ◌∙◌, ℕ, Bool, true, false, if◌then◌else◌, List, [], length, get_or, refl, subst, arith}
use Rattle.std.specs.Prelude.{Contains, slice_index}
use Rattle.clif_instructions.specs.Members.{Stands, stands_in}
use Rattle.clif_ir.specs.Body.{Body, block_at}
use Rattle.clif_ir.specs.Consistent.{IsConsistent}
use Rattle.clif_safepoints.proofs.Paths.{stands_to}
use Rattle.clif_spiller.specs.Plans.{insts_inside}
use Rattle.clif_spiller.proofs.Shapes.{get_or_inside}

-- a place in a list that is there only if a test holds
at_place : (P : ℕ → Type 0) (test : Bool) (xs : List ℕ) (k d : ℕ) → ((k : ℕ) → k < length xs → P (slice_index xs k))
    → k < length (if test then xs else []) → P (get_or (if test then xs else []) k d)
at_place P true xs k d each inside = subst P (get_or_inside xs k 0 d inside) (each k inside)
at_place P false xs k d each inside = absurd (omega (arith, inside))

pub inst_exists : (f : Body) (block k d : ℕ) → IsConsistent f → k < length (insts_inside f block) → get_or (insts_inside f block) k d < length f.insts
inst_exists f block k d known inside =
    at_place (λ i. i < length f.insts) (stands_in block f.layout) (block_at f block).insts k d (λ j here. (known.insts_known block j here).0) inside

test_holds : (test : Bool) (xs : List ℕ) (k : ℕ) → k < length (if test then xs else []) → test ≡ true
test_holds true xs k inside = refl
test_holds false xs k inside = absurd (omega (arith, inside))

pub block_inside : (f : Body) (block k : ℕ) → k < length (insts_inside f block) → Stands block f.layout
block_inside f block k inside =
    let there : Contains f.layout block = stands_to block f.layout (test_holds (stands_in block f.layout) (block_at f block).insts k inside) in
    (there.0, there.1, get_or_inside f.layout there.0 0 block there.1 ∙ there.2)
