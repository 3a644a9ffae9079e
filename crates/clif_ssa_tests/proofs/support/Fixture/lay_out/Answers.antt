-- A block that is put into the layout.
use Rattle.std.proofs.Common.{◌≡◌, ℕ, Bool, true, false, arith, subst, sym, refl}
use Rattle.std.specs.Prelude.{Result, Ok, Err, OnOk, OnErr, if◌then◌else◌}
use Rattle.clif_types.specs.declared.error.BuildError.{BuildError}
use Rattle.clif_ir.specs.Body.{Body}
use Rattle.clif_ir.specs.Changes.{inserted_in, with_layout}
use Rattle.clif_instructions.specs.Members.{stands_in}
use Rattle.clif_ssa_tests.proofs.Names.{Grows, same-named}
use Rattle.clif_ssa_tests.proofs.support.Fixture.lay_out.Goals as goal

inserted-grows : (f : Body) (b : ℕ) → Grows f (inserted_in f b)
inserted-grows f b = by (stands_in b f.layout)
  where
    by : (test : Bool) → Grows f (if test then f else with_layout f b)
    by true = record { values = omega arith; insts = omega arith }
    by false = record { values = omega arith; insts = omega arith }

tried-grows : {A : Type 0} (f g : Body) (b : ℕ) (answer : Result A BuildError) → OnOk answer (g ≡ inserted_in f b) → OnErr answer (g ≡ f) → Grows f g
tried-grows f g b (Ok a) is same = subst (λ h. Grows f h) (sym is) (inserted-grows f b)
tried-grows f g b (Err e) is same = subst (λ h. Grows f h) (sym same) (record { values = omega arith; insts = omega arith })

pub invariant_of-self : goal.invariant_of-self
invariant_of-self g c =
    let made = c.args.self.now in
    let done = c.ensure_block_inserted in
    record {
      named = same-named made.func done.new.self made.ssa made.ssa (tried-grows made.func done.new.self c.block-block.result done.result done.ensures.ok done.ensures.err)
          refl (λ b. refl) (λ b. refl) made.named;
    }
