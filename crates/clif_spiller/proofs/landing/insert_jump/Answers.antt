use Rattle.clif_ir.specs.Body.{Body, block_at, inst_at}
use Rattle.std.proofs.Common.{◌≡◌, ◌∙◌, ◌<◌, ◌++◌, ℕ, List, [], ◌∷◌, length, Result, Ok, Err, arith, refl, sym, subst, ap}
use Rattle.std.specs.Prelude.{IfOk, OnOk}
use Rattle.clif_types.specs.declared.types.«Type».{«Type»}
use Rattle.clif_instructions.specs.declared.instructions.InstructionData.{InstructionData}
use Rattle.clif_instructions.specs.declared.block_call.BlockArg.{BlockArg}
use Rattle.clif_instructions.proofs.Lists.{at_push, at_set}
use Rattle.clif_nodes.specs.declared.nodes.InstNode.{InstNode}
use Rattle.clif_nodes.specs.Nodes.{BlockNode, empty_block, no_inst}
use Rattle.clif_ir.specs.Changes.{inst_node, with_inst}
use Rattle.clif_instructions.specs.declared.insert_at.InsertAt.TheVariants.{Back}
use Rattle.clif_instructions.specs.declared.instructions.InstructionData.TheVariants.{Jump}
use Rattle.clif_spiller.specs.Keeping.{Keeps}
use Rattle.clif_spiller.specs.Text.{IsJumpTo}
use Rattle.clif_spiller.proofs.Keeping.{at_set_or_not, if_ok, with_inst_keeps}
use Rattle.clif_spiller.proofs.landing.insert_jump.Goals as goal

pub returns-clause-ok : goal.returns-clause-ok
returns-clause-ok c =
    if_ok c.insert_inst.result
    (λ made. subst (Keeps (length c.args.func.now.blocks) c.args.func.now) (sym made) (with_inst_keeps (length c.args.func.now.blocks) c.args.func.now c.args.landing Back (Jump (record { block = c.args.target; args = c.new.result })) [] c.new-nowhere.result))
    c.insert_inst.ensures.ok

pub returns-clause-tables : goal.returns-clause-tables
returns-clause-tables c = if_ok c.insert_inst.result (λ made. ap (λ (g : Body). g.tables) made) c.insert_inst.ensures.ok

pub returns-clause-lists : goal.returns-clause-lists
returns-clause-lists c = if_ok c.insert_inst.result (λ made. λ b apart.
    ap (λ (g : Body). (block_at g b).insts) made
    ∙ at_set_or_not (λ (m : BlockNode). m.insts ≡ (block_at c.args.func.now b).insts) c.args.func.now.blocks c.args.landing _ b empty_block (λ same. absurd (apart same)) refl)
    c.insert_inst.ensures.ok

-- the jump is in the landing block
home_of : (f g : Body) (landing jump : ℕ) (shape : InstructionData) (types : List «Type») (loc : ℕ) → g ≡ with_inst f landing Back shape types loc → jump ≡ length f.insts
    → (inst_at g jump).block ≡ landing
home_of f g landing jump shape types loc made number =
    ap (λ (h : Body). (inst_at h jump).block) made
    ∙ at_push (λ (m : InstNode). m.block ≡ landing) f.insts (inst_node f landing shape types loc) jump no_inst
    (λ below. absurd (omega (arith, number, below))) (λ _. refl) (λ past. absurd (omega (arith, number, past)))

both_ok : {A E P : Type 0} (Q R : A → Type 0) (answer : Result A E) → ((x : A) → P → Q x → R x) → OnOk answer P → IfOk answer Q → IfOk answer R
both_ok Q R (Ok x) make holds also = make x holds also
both_ok Q R (Err e) make holds also = tt

pub returns-clause-home : goal.returns-clause-home
returns-clause-home c =
    both_ok (λ jump. jump ≡ length c.args.func.now.insts) (λ jump. (inst_at c.insert_inst.new.self jump).block ≡ c.args.landing) c.insert_inst.result
    (λ jump made number. home_of c.args.func.now c.insert_inst.new.self c.args.landing jump (Jump (record { block = c.args.target; args = c.new.result })) []
    c.new-nowhere.result made number) c.insert_inst.ensures.ok c.insert_inst.ensures.number

-- the shape and the results of the jump
jumps_to : (f g : Body) (landing target jump loc : ℕ) (args : List BlockArg) → args ≡ [] → g ≡ with_inst f landing Back (Jump (record { block = target; args = args })) [] loc
    → jump ≡ length f.insts → IsJumpTo target g jump
jumps_to f g landing target jump loc args none made number =
    let shape : InstructionData = Jump (record { block = target; args = args }) in
    record {
      shape_is = ap (λ (h : Body). (inst_at h jump).shape) made
          ∙ at_push (λ (m : InstNode). m.shape ≡ shape) f.insts (inst_node f landing shape [] loc) jump no_inst
          (λ below. absurd (omega (arith, number, below))) (λ _. refl) (λ past. absurd (omega (arith, number, past)))
          ∙ ap (λ (xs : List BlockArg). Jump (record { block = target; args = xs })) none;
      gives = ap (λ (h : Body). (inst_at h jump).results) made
          ∙ at_push (λ (m : InstNode). m.results ≡ []) f.insts (inst_node f landing shape [] loc) jump no_inst
          (λ below. absurd (omega (arith, number, below))) (λ _. refl) (λ past. absurd (omega (arith, number, past)));
    }

pub returns-clause-jumps : goal.returns-clause-jumps
returns-clause-jumps c =
    both_ok (λ jump. jump ≡ length c.args.func.now.insts) (λ jump. IsJumpTo c.args.target c.insert_inst.new.self jump) c.insert_inst.result
    (λ jump made number. jumps_to c.args.func.now c.insert_inst.new.self c.args.landing c.args.target jump c.new-nowhere.result c.new.result c.new.ensures made number)
    c.insert_inst.ensures.ok c.insert_inst.ensures.number

-- it is the last one of the landing block
last_of : (f g : Body) (landing jump : ℕ) (shape : InstructionData) (types : List «Type») (loc : ℕ) → landing < length f.blocks
    → g ≡ with_inst f landing Back shape types loc → jump ≡ length f.insts → (block_at g landing).insts ≡ (block_at f landing).insts ++ jump ∷ []
last_of f g landing jump shape types loc exists made number =
    ap (λ (h : Body). (block_at h landing).insts) made
    ∙ at_set (λ (m : BlockNode). m.insts ≡ (block_at f landing).insts ++ length f.insts ∷ []) f.blocks landing _ landing empty_block exists (λ _. refl) (λ other. absurd (other refl))
    ∙ ap (λ (i : ℕ). (block_at f landing).insts ++ i ∷ []) (sym number)

pub returns-clause-last : goal.returns-clause-last
returns-clause-last c =
    both_ok (λ jump. jump ≡ length c.args.func.now.insts)
    (λ jump. (block_at c.insert_inst.new.self c.args.landing).insts ≡ (block_at c.args.func.now c.args.landing).insts ++ jump ∷ []) c.insert_inst.result
    (λ jump made number. last_of c.args.func.now c.insert_inst.new.self c.args.landing jump (Jump (record { block = c.args.target; args = c.new.result })) []
    c.new-nowhere.result c.requires.landing_exists made number) c.insert_inst.ensures.ok c.insert_inst.ensures.number
