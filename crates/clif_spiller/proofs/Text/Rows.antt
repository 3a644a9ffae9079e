-- Arguments of an edge that are landed one after the other.
use Rattle.std.proofs.Common.{◌≡◌, ◌∙◌, ◌<◌, ◌+◌, ℕ, zero, suc, List, [], ◌∷◌, ◌++◌, length, get_or, take, map as each, flat_map, refl, sym, ap, subst, arith, append_assoc, length-append, Result, Ok, Err}
use Rattle.std.specs.Prelude.{All, Contains, IfOk, OnOk}
use Rattle.std.proofs.lemmas.List.{append-nil}
use Rattle.clif_types.specs.declared.error.BuildError.{BuildError}
use Rattle.clif_types.specs.declared.types.«Type».{«Type»}
use Rattle.clif_tables.specs.Lists.{stack_map_at}
use Rattle.clif_instructions.specs.Instruction.{with_argument}
use Rattle.clif_instructions.specs.declared.block_call.BlockArg.{BlockArg}
use Rattle.clif_instructions.specs.declared.block_call.BlockArg.TheVariants as arg
use Rattle.clif_instructions.specs.declared.instructions.InstructionData.{InstructionData}
use Rattle.clif_instructions.specs.declared.instructions.InstructionData.TheVariants.{Jump}
use Rattle.clif_instructions.proofs.Lists.{at_push, at_set}
use Rattle.clif_instructions.proofs.Members.{if_true}
use Rattle.clif_nodes.specs.declared.nodes.InstNode.{InstNode}
use Rattle.clif_nodes.specs.declared.nodes.ValueNode.{ValueNode}
use Rattle.clif_nodes.specs.Nodes.{BlockNode, empty_block, no_value}
use Rattle.clif_ir.specs.Body.{Body, block_at, inst_at}
use Rattle.clif_ir.specs.Changes.{with_param, with_shape}
use Rattle.clif_ir.specs.Consistent.{IsConsistent, PassedExists}
use Rattle.clif_stack_slots.specs.declared.slots.StackSlots.{StackSlots}
use Rattle.clif_spiller.specs.Acting.{no_argument}
use Rattle.clif_spiller.specs.Keeping.{Keeps}
use Rattle.clif_spiller.specs.Plans.{IsPlan, IsRead, KnowsSlots, OwnArgument}
use Rattle.clif_spiller.specs.Text.{IsLandedAs, LandedRow, LandsArgument, LandsArguments, LandsRows, Reloaded, own_arg, own_type_in, passed_of}
use Rattle.clif_spiller.specs.declared.accesses.Spot.TheVariants as spot
use Rattle.clif_spiller.specs.declared.plan.Plan.{Plan}
use Rattle.clif_spiller.proofs.Edges.{alike_there}
use Rattle.clif_spiller.proofs.Keeping.{at_set_or_not, length_set, shape_there}
use Rattle.clif_spiller.proofs.Needing.{take_one_more}
use Rattle.clif_spiller.proofs.Reading.{read_inserts}
use Rattle.clif_spiller.proofs.Text.Adding.{NoMapsBeyond, adds_none, in_range}
use Rattle.clif_spiller.proofs.Text.Cutting.{cut_stays}
use Rattle.clif_spiller.proofs.Text.Landing.{arguments_append, own_append, passed_append, rows_then}
use Rattle.clif_spiller.proofs.Text.Rereading.{IsNamedAlike, IsReadAdding, adds_shaped, read_adds}

-- the only row
only_row : (P : LandedRow → Type 0) (row : LandedRow) → P row → (other : LandedRow) → Contains (row ∷ []) other → P other
only_row P row holds other (zero, inside, is) = subst P is holds
only_row P row holds other (suc k, inside, is) = absurd (omega (arith, inside))

-- ONE ARGUMENT ----------------------------------------------------------------------------------------------------------

pub lands_read : (plan : Plan) (block jump : ℕ) (shape : InstructionData) (operand : ℕ) (f : Body) (a : StackSlots) (g : Body) (b : StackSlots) (value : ℕ) (own : List BlockArg)
    → NoMapsBeyond f → IsPlan f plan → KnowsSlots f a → IsRead plan jump operand f a g b value
    → LandsArgument plan block jump shape f a g b (arg.Value operand) own own value
lands_read plan block jump shape operand f a g b value own none planned knows read =
    let added : IsReadAdding plan jump operand f a g b value = read_adds plan jump operand f a g b value none planned knows read in
    let kept = (read_inserts plan jump operand f a g b value planned knows read).goes (suc block) in
    record {
      params = [];
      lands = record {
        accesses = added.accesses;
        adds = added.adds;
        so = only_row (λ (row : LandedRow). IsLandedAs plan f added.accesses row.argument row.params row.new)
            (record { argument = arg.Value operand; params = []; new = value }) (refl, added.read);
        params = kept.keeps.params block (omega arith) ∙ sym (append-nil (block_at f block).params);
        rising = (in_range Reloaded plan.pointer g (length f.insts) (length f.values) added.accesses (length g.insts) (length g.values) added.adds.are).1;
        apart = λ x v here there. absurd (let inside = there.1 in omega (arith, inside));
        types = refl;
      };
      own_are = sym (append-nil own);
    }

param_lists : (f : Body) (block : ℕ) (ty : «Type») (c : ℕ) → (block_at (with_param f block ty) c).insts ≡ (block_at f c).insts
param_lists f block ty c =
    at_set_or_not (λ (m : BlockNode). m.insts ≡ (block_at f c).insts) f.blocks block _ c empty_block (λ same. ap (λ (d : ℕ). (block_at f d).insts) (sym same)) refl

own_itself : (x : BlockArg) → OwnArgument x → own_arg x ≡ x ∷ []
own_itself (arg.Value v) own = absurd own
own_itself (arg.TryCallRet index) own = refl
own_itself (arg.TryCallExn part) own = refl

own_landed : (plan : Plan) (f : Body) (x : BlockArg) (value : ℕ) → OwnArgument x → IsLandedAs plan f [] x (value ∷ []) value
own_landed plan f (arg.Value v) value own = absurd own
own_landed plan f (arg.TryCallRet index) value own = refl
own_landed plan f (arg.TryCallExn part) value own = refl

-- a new parameter, by its number
parameter_made : (plan : Plan) (block jump : ℕ) (shape : InstructionData) (x : BlockArg) (f : Body) (a : StackSlots) (ty : «Type») (own own_then : List BlockArg) → block < length f.blocks
    → OwnArgument x → ty ≡ own_type_in f.tables shape x → own_then ≡ own ++ x ∷ []
    → LandsArgument plan block jump shape f a (with_param f block ty) a x own own_then (length f.values)
parameter_made plan block jump shape x f a ty own own_then exists is_own ty_is pushed =
    let g : Body = with_param f block ty in
    let value : ℕ = length f.values in
    let count : length g.values ≡ length f.values + 1 = length-append f.values (_ ∷ []) in
    let blocks : length g.blocks ≡ length f.blocks = length_set f.blocks block _ in
    record {
      params = length f.values ∷ [];
      lands = record {
        accesses = [];
        adds = adds_none Reloaded plan.pointer f a (spot.Before jump) g a (spot.Before jump)
            (λ d front back cut. cut_stays f g d (spot.Before jump) front back (omega arith) (omega (arith, blocks)) (param_lists f block ty d) refl cut)
            (omega arith) (omega (arith, count)) (λ v slot has. has) blocks;
        so = only_row (λ (row : LandedRow). IsLandedAs plan f [] row.argument row.params row.new)
            (record { argument = x; params = length f.values ∷ []; new = length f.values }) (own_landed plan f x value is_own);
        params = at_set (λ (m : BlockNode). m.params ≡ (block_at f block).params ++ value ∷ []) f.blocks block _ block empty_block exists (λ _. refl) (λ other. absurd (other refl));
        rising = (omega arith, omega (arith, count));
        apart = λ y v here there. absurd (let inside = here.1 in omega (arith, inside));
        types = ap (λ (t : «Type»). t ∷ [])
            (at_push (λ (m : ValueNode). m.ty ≡ ty) f.values _ value no_value
            (λ below. absurd (omega (arith, below))) (λ _. refl) (λ past. absurd (omega (arith, past))) ∙ ty_is)
            ∙ ap (each (own_type_in f.tables shape)) (sym (append-nil (own_arg x) ∙ own_itself x is_own));
      };
      own_are = pushed ∙ ap (λ (xs : List BlockArg). own ++ xs) (sym (own_itself x is_own));
    }

pub lands_parameter : (plan : Plan) (block jump : ℕ) (shape : InstructionData) (x : BlockArg) (f g : Body) (a : StackSlots) (ty : «Type») (own own_then : List BlockArg)
    (answer : Result ℕ BuildError) {passed : BlockArg} → block < length f.blocks → passed ≡ x → OwnArgument x → ty ≡ own_type_in f.tables shape x → own_then ≡ own ++ x ∷ []
    → OnOk answer (g ≡ with_param f block ty) → IfOk answer (λ v. v ≡ length f.values)
    → IfOk answer (λ value. LandsArgument plan block jump shape f a g a passed own own_then value)
lands_parameter plan block jump shape x f g a ty own own_then (Ok value) {passed} exists is is_own ty_is pushed made number =
    subst (λ (y : BlockArg). LandsArgument plan block jump shape f a g a y own own_then value) (sym is)
    (subst (λ (h : Body). LandsArgument plan block jump shape f a h a x own own_then value) (sym made)
    (subst (λ (v : ℕ). LandsArgument plan block jump shape f a (with_param f block ty) a x own own_then v) (sym number)
    (parameter_made plan block jump shape x f a ty own own_then exists is_own ty_is pushed)))
lands_parameter plan block jump shape x f g a ty own own_then (Err e) {passed} exists is is_own ty_is pushed made number = tt

-- ARGUMENT BY ARGUMENT --------------------------------------------------------------------------------------------------

pub no_row_yet : (plan : Plan) (block jump target : ℕ) (shape : InstructionData) (f : Body) (a : StackSlots) (own : List BlockArg) → own ≡ []
    → LandsArguments plan block jump target shape f a f a [] own
no_row_yet plan block jump target shape f a own none = record {
  rows = [];
  lands = record {
    accesses = [];
    adds = adds_none Reloaded plan.pointer f a (spot.Before jump) f a (spot.Before jump) (λ d front back cut. cut) (omega arith) (omega arith) (λ v slot has. has) refl;
    so = λ row here. absurd (let inside = here.1 in omega (arith, inside));
    params = sym (append-nil (block_at f block).params);
    rising = omega arith;
    apart = λ x v here there. absurd (let inside = here.1 in omega (arith, inside));
    types = refl;
  };
  args_are = refl;
  own_are = none;
  jumps = λ before is. is ∙ ap (λ (xs : List BlockArg). Jump (record { block = target; args = xs })) (sym (append-nil before));
}

module _ (plan : Plan) (block jump target n : ℕ) (shape : InstructionData) (f : Body) (a : StackSlots) (g : Body) (b : StackSlots) (h : Body) (c : StackSlots) (args : List BlockArg) (place : ℕ)
    (own own_then : List BlockArg) (value : ℕ) (known : IsConsistent f) (jump_exists : jump < length f.insts) (block_exists : block < length f.blocks) (inside : place < length args)
    (exist : All (PassedExists f) args) (keeps : Keeps n f g) (further : Keeps n g h) (nodes : (i : ℕ) → i < length g.insts → inst_at h i ≡ inst_at g i)
    (maps : (i : ℕ) → stack_map_at h.tables i ≡ stack_map_at g.tables i) (so_far : LandsArguments plan block jump target shape f a g b (take place args) own)
    (one : LandsArgument plan block jump shape g b h c (get_or args place no_argument) own own_then value) where
  abbrev row : LandedRow
  row = record { argument = get_or args place no_argument; params = one.params; new = value }

  abbrev all : List LandedRow
  all = so_far.rows ++ record { argument = get_or args place no_argument; params = one.params; new = value } ∷ []

  turned : (x : BlockArg) → IsNamedAlike f g x → IsNamedAlike g f x
  turned (arg.Value v) is = sym is
  turned (arg.TryCallRet index) is = tt
  turned (arg.TryCallExn part) is = tt

  in_jump : jump < length g.insts
  in_jump = (let more = keeps.insts in omega (arith, jump_exists, more))

  rows_here : LandsRows plan block jump shape f a h c all
  rows_here =
      rows_then plan block jump n n shape f a g b h c so_far.rows (row ∷ []) keeps further (λ i from to. (nodes i to, maps i))
      (only_row (λ (other : LandedRow). IsNamedAlike g f other.argument) row
      (turned (get_or args place no_argument) (alike_there n f g keeps known (get_or args place no_argument) (exist place no_argument inside))))
      so_far.lands one.lands

  abbrev changed : InstructionData
  changed = with_argument target value (inst_at h jump).shape

  rows_there : LandsRows plan block jump shape f a (with_shape h jump (with_argument target value (inst_at h jump).shape)) c all
  rows_there =
      let here = rows_here in
      record {
        accesses = here.accesses;
        adds = adds_shaped Reloaded plan.pointer f a (spot.Before jump) h c (spot.Before jump) here.accesses jump changed jump_exists here.adds;
        so = here.so;
        params = here.params;
        rising = here.rising;
        apart = here.apart;
        types = here.types;
      }

  pub next_row : LandsArguments plan block jump target shape f a (with_shape h jump (with_argument target value (inst_at h jump).shape)) c (take (place + 1) args) own_then
  next_row = record {
    rows = so_far.rows ++ record { argument = get_or args place no_argument; params = one.params; new = value } ∷ [];
    lands = rows_there;
    args_are = arguments_append so_far.rows (row ∷ []) ∙ ap (λ (xs : List BlockArg). xs ++ get_or args place no_argument ∷ []) so_far.args_are
        ∙ sym (take_one_more args place no_argument inside);
    own_are = one.own_are ∙ ap (λ (xs : List BlockArg). xs ++ own_arg (get_or args place no_argument)) so_far.own_are
        ∙ ap (λ (xs : List BlockArg). flat_map own_arg (take place args) ++ xs) (sym (append-nil (own_arg (get_or args place no_argument))))
        ∙ sym (own_append (take place args) (get_or args place no_argument ∷ []))
        ∙ ap (flat_map own_arg) (sym (take_one_more args place no_argument inside));
    jumps = λ before is.
        let was : (inst_at h jump).shape ≡ Jump (record { block = target; args = before ++ passed_of so_far.rows }) =
        ap (λ (m : InstNode). m.shape) (nodes jump in_jump) ∙ so_far.jumps before is in
        shape_there h jump changed (let most = further.insts in omega (arith, in_jump, most)) ∙ ap (with_argument target value) was
        ∙ ap Jump (if_true target target _ _ refl)
        ∙ ap (λ (xs : List BlockArg). Jump (record { block = target; args = xs }))
        (append_assoc before (passed_of so_far.rows) (arg.Value value ∷ []) ∙ ap (λ (xs : List BlockArg). before ++ xs) (sym (passed_append so_far.rows (row ∷ []))));
  }
