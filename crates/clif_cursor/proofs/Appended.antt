-- What an instruction that is appended makes of a function and of a cursor.
use Rattle.std.proofs.Common.{ap₂, get_or, map, ◌≡◌, ◌≢◌, ℕ, ◌+◌, ◌-◌, ◌<◌, ◌≤◌, List, [], ◌∷◌, ◌++◌, length, refl, ap, arith, sym, ◌∙◌, subst, false}
use Rattle.std.specs.Prelude.{slice_get, slice_index, Some, Result, Ok, Err, IfOk, OnOk, OnErr}
use Rattle.std.specs.List.{range_with_len}
use Rattle.std.proofs.lemmas.Grind.{common_steps}
use Rattle.clif_types.specs.declared.error.BuildError.{BuildError}
use Rattle.clif_types.specs.declared.error.BuildError.TheVariants.{Full, Failed}
use Rattle.clif_types.specs.declared.types.«Type».{«Type»}
use Rattle.clif_instructions.specs.declared.insert_at.InsertAt.TheVariants.{Back}
use Rattle.clif_instructions.specs.declared.instructions.InstructionData.{InstructionData}
use Rattle.clif_instructions.specs.Instruction.{is_terminator, result_type_of}
use Rattle.clif_tables.specs.Callees.{count_of_results, types_of_results}
use Rattle.clif_instructions.proofs.Lists.{at_set}
use Rattle.clif_inst_builder.specs.Shapes.{GivesPair, GivesValue}
use Rattle.clif_inst_builder.proofs.NoCalls.{one_type, plain_types, two_results as two_of}
use Rattle.clif_nodes.specs.declared.nodes.InstNode.{InstNode}
use Rattle.clif_nodes.specs.declared.nodes.ValueNode.{ValueNode}
use Rattle.clif_nodes.specs.declared.nodes.ValueOrigin.TheVariants.{Result as OfInst}
use Rattle.std.proofs.Math.ListN.{get_or-append}
use Rattle.clif_ir.specs.Body.{Body, block_at, inst_at, value_at}
use Rattle.clif_nodes.specs.Nodes.{BlockNode, empty_block, no_value, result_nodes}
use Rattle.clif_ir.specs.Changes.{HasNoRoom, inst_node, with_inst}
use Rattle.clif_ir.proofs.KeepsInst.{length-types_of_results}
use Rattle.clif_cursor.specs.declared.cursor.FuncCursor.{FuncCursor}
use Rattle.clif_cursor.specs.Cursor.{Appends, Builds, BuildsPair, BuildsValue, CanAppend, IsOpen, IsThere, TypesStay, ends_block, is_filled, with_appended}

get-last : (xs : List ℕ) (x : ℕ) → slice_get (xs ++ x ∷ []) (length xs) ≡ Some x
get-last [] x = refl
get-last (y ∷ ys) x = get-last ys x

-- the last one of a list
last_of : (xs : List ℕ) (x : ℕ) → slice_get (xs ++ x ∷ []) (length (xs ++ x ∷ []) - 1) ≡ Some x
last_of xs x =
    let count : length (xs ++ x ∷ []) - 1 ≡ length xs = grind (arith, common_steps) in
    ap (λ n. slice_get (xs ++ x ∷ []) n) count ∙ get-last xs x

-- an instruction at the end of block `b`
module _ (f : Body) (b : ℕ) (shape : InstructionData) (types : List «Type») (loc : ℕ) where
  abbrev after : Body
  after = with_inst f b Back shape types loc

  node-after : inst_at after (length f.insts) ≡ inst_node f b shape types loc
  node-after = grind (arith, common_steps)

  insts-after : b < length f.blocks → (block_at after b).insts ≡ (block_at f b).insts ++ length f.insts ∷ []
  insts-after exists =
      at_set (λ (m : BlockNode). m.insts ≡ (block_at f b).insts ++ length f.insts ∷ []) f.blocks b
      (record (block_at f b) { insts = (block_at f b).insts ++ length f.insts ∷ [] }) b empty_block exists (λ _. refl) (λ other. absurd (other refl))

  filled-after : b < length f.blocks → is_filled after b ≡ is_terminator shape
  filled-after exists =
      ap (λ (xs : List ℕ). ends_block after (slice_get xs (length xs - 1))) (insts-after exists)
      ∙ ap (λ o. ends_block after o) (last_of (block_at f b).insts (length f.insts))
      ∙ ap (λ (n : InstNode). is_terminator n.shape) node-after

  open-after : IsOpen f b → is_terminator shape ≡ false → IsOpen after b
  open-after is_open goes_on = record {
    exists = let count : length after.blocks ≡ length f.blocks = grind (arith, common_steps) in omega (arith, count, is_open.exists);
    unfilled = filled-after is_open.exists ∙ goes_on;
  }

  values-after : length f.values ≤ length after.values
  values-after = grind (arith, common_steps)

  types-after : TypesStay f after
  types-after v inside = ap (λ (n : ValueNode). n.ty) (get_or-append f.values (result_nodes (length f.insts) 0 types) no_value v inside)

  exists-after : length f.insts < length after.insts
  exists-after = grind (arith, common_steps)

-- the types of the results
typed-one : (f : Body) (b : ℕ) (shape : InstructionData) (types : List «Type») (ty : «Type») (loc : ℕ) → types ≡ ty ∷ [] → (value_at (after f b shape types loc) (length f.values)).ty ≡ ty
typed-one f b shape types ty loc one =
    let node : ValueNode = record { ty = ty; origin = OfInst (length f.insts) 0 } in
    let last : get_or (f.values ++ node ∷ []) (length f.values) no_value ≡ node = grind (arith, common_steps) in
    ap (λ ts. (value_at (after f b shape ts loc) (length f.values)).ty) one ∙ ap (λ (n : ValueNode). n.ty) last

typed-two : (f : Body) (b : ℕ) (shape : InstructionData) (types : List «Type») (loc : ℕ) → length types ≡ 2
    → (value_at (after f b shape types loc) (length f.values)).ty ∷ (value_at (after f b shape types loc) (length f.values + 1)).ty ∷ [] ≡ types
typed-two f b shape [] loc two = absurd (omega (arith, two))
typed-two f b shape (t ∷ []) loc two = absurd (omega (arith, two))
typed-two f b shape (t ∷ u ∷ []) loc two =
    let first_node : ValueNode = record { ty = t; origin = OfInst (length f.insts) 0 } in
    let second_node : ValueNode = record { ty = u; origin = OfInst (length f.insts) 1 } in
    let first : get_or (f.values ++ first_node ∷ second_node ∷ []) (length f.values) no_value ≡ first_node = grind (arith, common_steps) in
    let second : get_or (f.values ++ first_node ∷ second_node ∷ []) (length f.values + 1) no_value ≡ second_node = grind (arith, common_steps) in
    ap₂ (λ (m n : ValueNode). m.ty ∷ n.ty ∷ []) first second
typed-two f b shape (t ∷ u ∷ v ∷ ts) loc two = absurd (omega (arith, two))

-- an instruction was appended where the cursor is, or that was refused
pub builds_appended : (old new : FuncCursor) (shape : InstructionData) (ty : «Type») (r : Result ℕ BuildError) → CanAppend old → IsThere old new
    → OnOk r (new.func.now ≡ with_appended old shape ty) → IfOk r (λ inst. inst ≡ length old.func.now.insts) → OnErr r (new.func.now ≡ old.func.now)
    → (r ≡ Err Full → HasNoRoom old.func.now (count_of_results old.func.now.tables shape)) → r ≢ Err Failed → Builds old new shape ty r
builds_appended old new shape ty (Err e) is_open there ok number err full never_failed = record {
  appends = record { there = there; ok = tt; err = err; full = full; never_failed = never_failed };
  number = tt;
  exists = tt;
  current = λ goes_on. tt;
  grows = tt;
  types = tt;
  tables = tt;
}
builds_appended old new shape ty (Ok inst) is_open there ok number err full never_failed = record {
  appends = record { there = there; ok = ok; err = tt; full = full; never_failed = never_failed };
  number = number;
  exists =
      subst (λ (f : Body). inst < length f.insts) (sym ok)
      (subst (λ i. i < length (with_appended old shape ty).insts) (sym number) (exists-after old.func.now old.block shape (types_of_results old.func.now.tables shape ty) old.srcloc));
  current = λ goes_on.
      subst (λ b. IsOpen new.func.now b) (sym there.block)
      (subst (λ (f : Body). IsOpen f old.block) (sym ok) (open-after old.func.now old.block shape (types_of_results old.func.now.tables shape ty) old.srcloc is_open goes_on));
  grows = subst (λ (f : Body). length old.func.now.values ≤ length f.values) (sym ok) (values-after old.func.now old.block shape (types_of_results old.func.now.tables shape ty) old.srcloc);
  types = subst (λ (f : Body). TypesStay old.func.now f) (sym ok) (types-after old.func.now old.block shape (types_of_results old.func.now.tables shape ty) old.srcloc);
  tables = ap (λ (f : Body). f.tables) ok;
}

-- the results of the instruction that was built
results-built : (old new : FuncCursor) (shape : InstructionData) (ty : «Type») (inst : ℕ) → Builds old new shape ty (Ok inst)
    → (inst_at new.func.now inst).results ≡ range_with_len (length old.func.now.values) (length (types_of_results old.func.now.tables shape ty))
results-built old new shape ty inst built =
    ap (λ (f : Body). (inst_at f inst).results) built.appends.ok
    ∙ ap (λ i. (inst_at (with_appended old shape ty) i).results) built.number
    ∙ ap (λ (n : InstNode). n.results) (node-after old.func.now old.block shape (types_of_results old.func.now.tables shape ty) old.srcloc)

pub one_result : (old new : FuncCursor) (shape : InstructionData) (ty : «Type») (inst : ℕ) → GivesValue shape → Builds old new shape ty (Ok inst)
    → (inst_at new.func.now inst).results ≡ length old.func.now.values ∷ []
one_result old new shape ty inst gives built =
    results-built old new shape ty inst built
    ∙ ap (λ (ts : List «Type»). range_with_len (length old.func.now.values) (length ts)) (one_type old.func.now.tables shape ty gives)

pub two_results : (old new : FuncCursor) (shape : InstructionData) (ty : «Type») (inst : ℕ) → GivesPair shape → Builds old new shape ty (Ok inst)
    → (inst_at new.func.now inst).results ≡ length old.func.now.values ∷ (length old.func.now.values + 1) ∷ []
two_results old new shape ty inst gives built =
    results-built old new shape ty inst built
    ∙ ap (λ n. range_with_len (length old.func.now.values) n) (length-types_of_results old.func.now.tables shape ty ∙ two_of old.func.now.tables shape gives)

-- the same instruction, whatever is answered of it
appends_with : {A B : Type 0} (old new : FuncCursor) (shape : InstructionData) (ty : «Type») (x : A) (y : B)
    → Appends {A = A} old new shape ty (Ok x) → Appends {A = B} old new shape ty (Ok y)
appends_with {A} {B} old new shape ty x y made = record {
  there = made.there;
  ok = made.ok;
  err = tt;
  full = λ is. let no_way : ⊥ = cc in absurd no_way;
  never_failed = λ is. let no_way : ⊥ = cc in no_way;
}

refused_with : {A B : Type 0} (old new : FuncCursor) (shape : InstructionData) (ty : «Type») (e : BuildError)
    → Appends {A = A} old new shape ty (Err e) → Appends {A = B} old new shape ty (Err e)
refused_with {A} {B} old new shape ty e made = record {
  there = made.there;
  ok = tt;
  err = made.err;
  full = λ is. let same : e ≡ Full = cc in made.full (ap (λ d. Err d) same);
  never_failed = λ is. let same : e ≡ Failed = cc in made.never_failed (ap (λ d. Err d) same);
}

pub builds_value : (old new : FuncCursor) (shape : InstructionData) (ty : «Type») (inst value : ℕ) → GivesValue shape → Builds old new shape ty (Ok inst)
    → value ≡ length old.func.now.values → value < length new.func.now.values → BuildsValue old new shape ty (Ok value)
builds_value old new shape ty inst value gives built is exists = record {
  appends = appends_with old new shape ty inst value built.appends;
  number = is;
  exists = exists;
  current = built.current gives.goes_on;
  grows = built.grows;
  types = built.types;
  tables = built.tables;
  typed =
      ap (λ v. (value_at new.func.now v).ty) is
      ∙ ap (λ (f : Body). (value_at f (length old.func.now.values)).ty) built.appends.ok
      ∙ typed-one old.func.now old.block shape (types_of_results old.func.now.tables shape ty) (result_type_of shape ty) old.srcloc (one_type old.func.now.tables shape ty gives);
}

pub builds_value_refused : (old new : FuncCursor) (shape : InstructionData) (ty : «Type») (e : BuildError) → Builds old new shape ty (Err e) → BuildsValue old new shape ty (Err e)
builds_value_refused old new shape ty e built = record {
  appends = built.appends;
  number = tt;
  exists = tt;
  current = tt;
  grows = tt;
  types = tt;
  tables = tt;
  typed = tt;
}

pub builds_pair : (old new : FuncCursor) (shape : InstructionData) (ty : «Type») (inst : ℕ) (pair : ℕ × ℕ) → GivesPair shape → Builds old new shape ty (Ok inst)
    → pair.0 ∷ pair.1 ∷ [] ≡ length old.func.now.values ∷ (length old.func.now.values + 1) ∷ []
    → (pair.0 < length new.func.now.values) × (pair.1 < length new.func.now.values) → BuildsPair old new shape ty (Ok pair)
builds_pair old new shape ty inst pair gives built are exist = record {
  appends = appends_with old new shape ty inst pair built.appends;
  numbers = (ap (λ xs. slice_index xs 0) are, ap (λ xs. slice_index xs 1) are);
  exist = exist;
  current = built.current gives.goes_on;
  types = built.types;
  typed =
      ap (λ xs. map (λ v. (value_at new.func.now v).ty) xs) are
      ∙ ap (λ (f : Body). (value_at f (length old.func.now.values)).ty ∷ (value_at f (length old.func.now.values + 1)).ty ∷ []) built.appends.ok
      ∙ typed-two old.func.now old.block shape (types_of_results old.func.now.tables shape ty) old.srcloc (length-types_of_results old.func.now.tables shape ty ∙ two_of old.func.now.tables shape gives)
      ∙ plain_types old.func.now.tables shape ty gives.no_call;
}

pub builds_pair_refused : (old new : FuncCursor) (shape : InstructionData) (ty : «Type») (e : BuildError) → Builds old new shape ty (Err e) → BuildsPair old new shape ty (Err e)
builds_pair_refused old new shape ty e built = record {
  appends = refused_with old new shape ty e built.appends;
  numbers = tt;
  exist = tt;
  current = tt;
  types = tt;
  typed = tt;
}

-- two numbers of a list
pub both_below : (xs : List ℕ) (a b bound : ℕ) → xs ≡ a ∷ b ∷ [] → ((k : ℕ) → k < length xs → slice_index xs k < bound) → (a < bound) × (b < bound)
both_below xs a b bound are each =
    let here : (k : ℕ) → k < 2 → slice_index (a ∷ b ∷ []) k < bound = subst (λ (ys : List ℕ). (k : ℕ) → k < length ys → slice_index ys k < bound) are each in
    (here 0 (omega arith), here 1 (omega arith))
