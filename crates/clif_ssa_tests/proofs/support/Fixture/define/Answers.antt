-- A value is assigned to a variable.
use Rattle.std.proofs.Common.{◌≡◌, ◌<◌, ◌==◌, ℕ, Bool, true, false, List, length, arith, subst, sym, ◌∙◌}
use Rattle.std.specs.Prelude.{Some, Contains}
use Rattle.clif_ir.specs.Body.{Body}
use Rattle.clif_records.specs.Tables.{SsaBlock, pending_of, predecessors_at, sealed_at}
use Rattle.clif_ssa.specs.Ssa.{SsaState, NamesExist, record_of, Records, SameRecords}
use Rattle.std.specs.Prelude.{Option, Result, Ok, Err, OnOk, OnErr, ◌&&◌, if◌then◌else◌}
use Rattle.clif_types.specs.declared.error.BuildError.{BuildError}
use Rattle.clif_ssa_tests.proofs.support.Fixture.define.Goals as goal

same_some : {x y : ℕ} → ◌≡◌ {A = Option ℕ} (Some x) (Some y) → x ≡ y
same_some same = cc

written : (test : Bool) (v w count : ℕ) (old : Option ℕ) → v < count → (old ≡ Some w → w < count) → (if test then Some v else old) ≡ Some w → w < count
written true v w count old inside known is = let same = same_some is in omega (arith, same, inside)
written false v w count old inside known is = known is

-- the records after the call name what exists
recorded : {A : Type 0} (f : Body) (s t : SsaState) (x b v : ℕ) (answer : Result A BuildError) → v < length f.values
    → OnOk answer (Records s t x b v) → OnErr answer (SameRecords s t) → NamesExist f s
    → (y c w : ℕ) → record_of t y c ≡ Some w → w < length f.values
recorded f s t x b v (Ok a) inside is same named y c w at =
    written (y == x && c == b) v w (length f.values) (record_of s y c) inside (named.recorded y c w) (sym (is y c) ∙ at)
recorded f s t x b v (Err e) inside is same named y c w at = named.recorded y c w (sym (same y c) ∙ at)

pub invariant_of-self : goal.invariant_of-self
invariant_of-self g c =
    let made = c.args.self.now in
    let f = made.func in
    let t = c.def_var.new.self in
    let same : t.blocks ≡ made.ssa.blocks = c.def_var.ensures.blocks in
    record {
      named = record {
        recorded = recorded f made.ssa t c.var.result c.b.result c.value-value.result c.def_var.result c.value-value.ensures
            c.def_var.ensures.ok c.def_var.ensures.err made.named;
        leading = λ b i here. made.named.leading b i (subst (λ (blocks : List SsaBlock). Contains (predecessors_at blocks b) i) same here);
        waiting = λ b p here. made.named.waiting b p (subst (λ (blocks : List SsaBlock). Contains (pending_of (sealed_at blocks b)) p) same here);
      };
    }
