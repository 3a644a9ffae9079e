-- Laws of the search for the first block that isn't finished.
use Rattle.std.proofs.Common.{◌≡◌, ℕ, zero, suc, ◌+◌, refl, ap, arith, ◌∙◌}
use Rattle.std.specs.Prelude.{Option, Some, None, Ok, Err}
use Rattle.clif_builder.specs.declared.error.FinalizeError.{FinalizeError}
use Rattle.clif_builder.specs.Context.{ContextState}
use Rattle.clif_builder.specs.Builder.{answer_of, block_fault, first_fault, or_else}

-- one block is finished: the search goes on
pub fault_next : (c : ContextState) (b count rest : ℕ) → count ≡ rest + 1 → answer_of (block_fault c b) ≡ Ok tt → first_fault c b count ≡ first_fault c (b + 1) rest
unfolding first_fault
fault_next c b zero rest more fine = absurd (omega (arith, more))
fault_next c b (suc count) rest more fine =
    let same : count ≡ rest = omega (arith, more) in
    by_fault (block_fault c b) fine ∙ ap (first_fault c (b + 1)) same
  where
    by_fault : (o : Option FinalizeError) → answer_of o ≡ Ok tt → or_else o (first_fault c (b + 1) count) ≡ first_fault c (b + 1) count
    by_fault None fine = refl
    by_fault (Some fault) fine = let no_way : ⊥ = cc in absurd no_way

-- one block isn't: the search ends
pub fault_here : (c : ContextState) (b count rest : ℕ) (fault : FinalizeError) → count ≡ rest + 1 → answer_of (block_fault c b) ≡ Err fault → answer_of (first_fault c b count) ≡ Err fault
unfolding first_fault
fault_here c b zero rest fault more wrong = absurd (omega (arith, more))
fault_here c b (suc count) rest fault more wrong = by_fault (block_fault c b) wrong
  where
    by_fault : (o : Option FinalizeError) → answer_of o ≡ Err fault → answer_of (or_else o (first_fault c (b + 1) count)) ≡ Err fault
    by_fault None wrong = let no_way : ⊥ = cc in absurd no_way
    by_fault (Some other) wrong = wrong

-- no block is left
pub fault_none : (c : ContextState) (b count : ℕ) → count ≡ 0 → first_fault c b count ≡ None
unfolding first_fault
fault_none c b zero nothing = refl
fault_none c b (suc count) nothing = absurd (omega (arith, nothing))
