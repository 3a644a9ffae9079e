-- A branch that leads to a block is declared.
use Rattle.std.proofs.Common.{◌≡◌, ◌<◌, ◌==◌, ◌⊎◌, inl, inr, ℕ, zero, suc, Bool, true, false, List, [], ◌∷◌, ◌++◌, length, arith, subst}
use Rattle.std.specs.Prelude.{Some, Contains}
use Rattle.clif_ir.specs.Body.{Body}
use Rattle.clif_records.specs.Tables.{record_at, pending_of}
use Rattle.clif_ssa.specs.Ssa.{SsaState, SamePredecessors, NamesExist, predecessors_of, Declares}
use Rattle.std.specs.Prelude.{Result, Ok, Err, OnOk, OnErr, if◌then◌else◌}
use Rattle.clif_types.specs.declared.error.BuildError.{BuildError}
use Rattle.clif_ssa_tests.proofs.support.Fixture.leads.Goals as goal

contains_last : (xs : List ℕ) (y x : ℕ) → Contains (xs ++ y ∷ []) x → Contains xs x ⊎ (y ≡ x)
contains_last [] y x (zero, inside, at) = inr at
contains_last [] y x (suc k, inside, at) = absurd (omega (arith, inside))
contains_last (z ∷ xs) y x (zero, inside, at) = inl (0, omega arith, at)
contains_last (z ∷ xs) y x (suc k, inside, at) =
    elim (contains_last xs y x (k, omega (arith, inside), at)) [ inl here ↦ inl (suc here.0, omega (arith, here.1), here.2) | inr last ↦ inr last ]

one_more : (test : Bool) (xs : List ℕ) (i j count : ℕ) → i < count → (Contains xs j → j < count) → Contains (if test then xs ++ i ∷ [] else xs) j → j < count
one_more true xs i j count inside known here =
    elim (contains_last xs i j here) [ inl old ↦ known old | inr same ↦ omega (arith, same, inside) ]
one_more false xs i j count inside known here = known here

-- the branches that lead to blocks after the call exist
leading : {A : Type 0} (f : Body) (s t : SsaState) (b i : ℕ) (answer : Result A BuildError) → i < length f.insts
    → OnOk answer (Declares s t b i) → OnErr answer (SamePredecessors s t) → NamesExist f s
    → (c j : ℕ) → Contains (predecessors_of t c) j → j < length f.insts
leading f s t b i (Ok a) inside is same named c j here =
    one_more (c == b) (predecessors_of s c) i j (length f.insts) inside (named.leading c j) (subst (λ (branches : List ℕ). Contains branches j) (is c) here)
leading f s t b i (Err e) inside is same named c j here =
    named.leading c j (subst (λ (branches : List ℕ). Contains branches j) (same c) here)

pub invariant_of-self : goal.invariant_of-self
invariant_of-self g c =
    let made = c.args.self.now in
    let f = made.func in
    let t = c.declare_block_predecessor.new.self in
    let same : t.records ≡ made.ssa.records = c.declare_block_predecessor.ensures.records in
    record {
      named = record {
        recorded = λ x b v is. made.named.recorded x b v (subst (λ rows. record_at rows x b ≡ Some v) same is);
        leading = leading f made.ssa t c.args.block c.args.inst c.declare_block_predecessor.result c.asserts_inst.ensures
            c.declare_block_predecessor.ensures.ok c.declare_block_predecessor.ensures.err made.named;
        waiting = λ b p here.
            made.named.waiting b p (subst (λ entry. Contains (pending_of entry) p) (c.declare_block_predecessor.ensures.blocks b) here);
      };
    }
