-- An instruction is put at the end of a block.
use Rattle.std.proofs.Common.{◌≡◌, ℕ, List, [], ◌∷◌, length, arith, subst, sym, refl, length-append}
use Rattle.std.specs.Prelude.{Result, Ok, Err, OnOk, OnErr}
use Rattle.clif_types.specs.declared.types.«Type».{«Type»}
use Rattle.clif_types.specs.declared.error.BuildError.{BuildError}
use Rattle.clif_ir.specs.Body.{Body}
use Rattle.clif_instructions.specs.declared.instructions.InstructionData.{InstructionData}
use Rattle.clif_instructions.specs.declared.insert_at.InsertAt.TheVariants.{Back}
use Rattle.clif_ir.specs.Changes.{with_inst, inst_node}
use Rattle.clif_nodes.specs.Nodes.{result_nodes}
use Rattle.clif_ssa_tests.proofs.Names.{Grows, same-named}
use Rattle.clif_ssa_tests.proofs.support.Fixture.insert.Goals as goal

inst-grows : (f : Body) (b : ℕ) (shape : InstructionData) (types : List «Type») (loc : ℕ) → Grows f (with_inst f b Back shape types loc)
inst-grows f b shape types loc = record {
  values = omega (arith, length-append f.values (result_nodes (length f.insts) 0 types));
  insts = omega (arith, length-append f.insts (inst_node f b shape types loc ∷ []));
}

tried-grows : {A : Type 0} (f g : Body) (b : ℕ) (shape : InstructionData) (types : List «Type») (loc : ℕ) (answer : Result A BuildError)
    → OnOk answer (g ≡ with_inst f b Back shape types loc) → OnErr answer (g ≡ f) → Grows f g
tried-grows f g b shape types loc (Ok a) is same = subst (λ h. Grows f h) (sym is) (inst-grows f b shape types loc)
tried-grows f g b shape types loc (Err e) is same = subst (λ h. Grows f h) (sym same) (record { values = omega arith; insts = omega arith })

pub invariant_of-self : goal.invariant_of-self
invariant_of-self g c =
    let made = c.args.self.now in
    let done = c.insert_inst in
    record {
      named = same-named made.func done.new.self made.ssa made.ssa (tried-grows made.func done.new.self _ _ _ _ done.result done.ensures.ok done.ensures.err)
          refl (λ b. refl) (λ b. refl) made.named;
    }
