-- A function as it is built, and without its regions.
use Rattle.std.proofs.Common.{◌≡◌, ℕ, zero, suc, Bool, true, false, List, [], ◌∷◌, map, refl, sym, ◌∙◌, ap, subst}
use Rattle.std.specs.Prelude.{◌==◌, if◌then◌else◌, drop, slice_index_or}
use Rattle.std.specs.List.{list_any}
use Rattle.clif_opcodes.specs.declared.kinds.Control.{Control}
use Rattle.clif_opcodes.specs.declared.kinds.Control.TheVariants as control
use Rattle.clif_opcodes.specs.declared.kinds.ResultKind.{ResultKind}
use Rattle.clif_opcodes.specs.declared.kinds.ResultKind.TheVariants as kind
use Rattle.clif_instructions.specs.Instruction.{contexts, operands, typing_of}
use Rattle.clif_instructions.specs.declared.instructions.InstructionData.{InstructionData}
use Rattle.clif_instructions.specs.declared.instructions.InstructionData.TheVariants as shape
use Rattle.clif_nodes.specs.declared.nodes.InstNode.{InstNode}
use Rattle.clif_nodes.specs.Nodes.{no_inst}
use Rattle.clif_ir.specs.Body.{Body, block_at, inst_at}
use Rattle.clif_meaning.specs.Headline.{MeansTheSame}
use Rattle.clif_meaning.specs.Instruction.{Instruction}
use Rattle.clif_meaning.specs.Typing.{EdgesMatch}
use Rattle.clif_meaning.specs.View.{controlled, controlling_of, edges_of, first_type, instruction_of, items_of, operation_of, placed_of, view_of}
use Rattle.clif_meaning.specs.WellPlaced.{WellPlaced}
use Rattle.clif_region_laws.specs.Laws.{AlikeFunctionsMeanTheSame}
use Rattle.clif_region_laws.specs.Regions.{AreAlikeButForRegions, plain_body, plain_items, plain_node, plain_operation, plain_placed, plain_shape, without_regions}
use Rattle.clif_region_laws.proofs.Places.{regions_mean_nothing}

-- an element of a list, where something is done to each of them and leaves the default
mapped_at : {X : Type 0} (h : X → X) (xs : List X) (k : ℕ) (d : X) → h d ≡ d → slice_index_or (map h xs) k d ≡ h (slice_index_or xs k d)
mapped_at h [] k d same = sym same
mapped_at h (x ∷ xs) zero d same = refl
mapped_at h (x ∷ xs) (suc k) d same = mapped_at h xs k d same

module _ (body : Body) where
  pub first_same : (values : List ℕ) → first_type (plain_body body) values ≡ first_type body values
  first_same [] = refl
  first_same (value ∷ values) = refl

  controlled_same : (kinds : List ResultKind) (how : Control) (given results : List ℕ) → controlled (plain_body body) kinds how given results ≡ controlled body kinds how given results
  controlled_same (kind.Controlling ∷ kinds) how given results = first_same results
  controlled_same _ (control.Operand place) given results = first_same (drop place given)
  controlled_same _ _ given results = refl

  operation_same : (one : InstructionData) → operation_of (plain_body body).tables (plain_shape one) ≡ plain_operation (operation_of body.tables one)
  operation_same (shape.Load flags arg offset) = refl
  operation_same (shape.Store flags args offset) = refl
  operation_same _ = refl

  -- an instruction without its region
  instruction_same : (node : InstNode) → instruction_of (plain_body body) (plain_node node) ≡ record (instruction_of body node) { operation = plain_operation (operation_of body.tables node.shape) }
  instruction_same node = λ i. record {
    operation = operation_same node.shape i;
    controlling = controlling node.shape i;
    operands = given node.shape i;
    contexts = held node.shape i;
    edges = edges node.shape i;
  }
    where
      controlling : (one : InstructionData) → controlling_of (plain_body body) (plain_shape one) node.results ≡ controlling_of body one node.results
      controlling (shape.Load flags arg offset) = controlled_same (typing_of (shape.Load flags arg offset)).results (typing_of (shape.Load flags arg offset)).control (operands (shape.Load flags arg offset)) node.results
      controlling (shape.Store flags args offset) = controlled_same (typing_of (shape.Store flags args offset)).results (typing_of (shape.Store flags args offset)).control (operands (shape.Store flags args offset)) node.results
      controlling one = controlled_same (typing_of one).results (typing_of one).control (operands one) node.results

      given : (one : InstructionData) → operands (plain_shape one) ≡ operands one
      given (shape.Load flags arg offset) = refl
      given (shape.Store flags args offset) = refl
      given _ = refl

      held : (one : InstructionData) → contexts (plain_shape one) ≡ contexts one
      held (shape.Load flags arg offset) = refl
      held (shape.Store flags args offset) = refl
      held _ = refl

      edges : (one : InstructionData) → edges_of (plain_shape one) ≡ edges_of one
      edges (shape.Load flags arg offset) = refl
      edges (shape.Store flags args offset) = refl
      edges _ = refl

  pub node_same : (inst : ℕ) → inst_at (plain_body body) inst ≡ plain_node (inst_at body inst)
  node_same inst = mapped_at plain_node body.insts inst no_inst refl

  placed_same : (inst : ℕ) → placed_of (plain_body body) inst ≡ plain_placed (placed_of body inst)
  placed_same inst =
      ap (λ (node : InstNode). record { instruction = instruction_of (plain_body body) node; results = node.results; stack_map = (placed_of body inst).stack_map }) (node_same inst)
      ∙ ap (λ (instruction : Instruction ℕ ℕ). record { instruction = instruction; results = (inst_at body inst).results; stack_map = (placed_of body inst).stack_map }) (instruction_same (inst_at body inst))

  placed_all : (insts : List ℕ) → map (placed_of (plain_body body)) insts ≡ plain_items (map (placed_of body) insts)
  placed_all [] = refl
  placed_all (inst ∷ insts) = λ i. placed_same inst i ∷ placed_all insts i

  items_same : (block : ℕ) → items_of (plain_body body) block ≡ plain_items (items_of body block)
  items_same block = by (list_any (λ other. other == block) body.layout)
    where
      by : (inside : Bool) → (if inside then map (placed_of (plain_body body)) (block_at body block).insts else []) ≡ plain_items (if inside then map (placed_of body) (block_at body block).insts else [])
      by true = placed_all (block_at body block).insts
      by false = refl

  view_same : view_of (plain_body body) ≡ without_regions (view_of body)
  view_same = λ i. record {
    signature = body.signature;
    entry = (view_of body).entry;
    blocks = λ block. record { parameters = (block_at body block).params; items = items_same block i };
    resolved = (view_of body).resolved;
    value_type = (view_of body).value_type;
    slots = body.tables.stack_slots;
  }

views_alike : (f g : Body) → AreAlikeButForRegions f g → without_regions (view_of f) ≡ without_regions (view_of g)
views_alike f g alike = sym (view_same f) ∙ ap view_of alike ∙ view_same g

pub alike_functions_mean_the_same : AlikeFunctionsMeanTheSame
alike_functions_mean_the_same = record {
  views = views_alike;
  means = λ f g script signature width alike means.
      (regions_mean_nothing.means script signature width (view_of g)).1
      (subst (MeansTheSame script signature width) (views_alike f g alike) ((regions_mean_nothing.means script signature width (view_of f)).0 means));
  edges = λ f g alike match.
      (regions_mean_nothing.edges (view_of g)).1 (subst EdgesMatch (views_alike f g alike) ((regions_mean_nothing.edges (view_of f)).0 match));
  placed = λ f g alike placed.
      (regions_mean_nothing.placed (view_of g)).1 (subst WellPlaced (views_alike f g alike) ((regions_mean_nothing.placed (view_of f)).0 placed));
}
