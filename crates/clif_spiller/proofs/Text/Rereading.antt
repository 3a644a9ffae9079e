-- An instruction whose uses are read anew, by reloads right before it.
use Rattle.std.proofs.Common.{◌≡◌, ◌∙◌, ◌<◌, ℕ, Bool, true, false, List, [], ◌∷◌, ◌++◌, length, refl, sym, ap, subst, arith, inl, inr}
use Rattle.std.specs.Prelude.{Contains}
use Rattle.std.proofs.lemmas.List.Elements.{Contains-append_left, Contains-append_right}
use Rattle.clif_types.specs.EntitySet.{has}
use Rattle.clif_types.specs.declared.types.«Type».{«Type»}
use Rattle.clif_instructions.specs.Instruction.{contexts}
use Rattle.clif_instructions.specs.declared.block_call.BlockArg.{BlockArg}
use Rattle.clif_instructions.specs.declared.block_call.BlockArg.TheVariants as arg
use Rattle.clif_instructions.specs.declared.block_call.BlockCall.{BlockCall}
use Rattle.clif_instructions.specs.declared.instructions.InstructionData.{InstructionData}
use Rattle.clif_nodes.specs.declared.nodes.InstNode.{InstNode}
use Rattle.clif_ir.specs.Body.{Body, inst_at, resolved}
use Rattle.clif_ir.specs.Changes.{with_shape}
use Rattle.clif_stack_slots.specs.declared.slots.StackSlots.{StackSlots}
use Rattle.clif_safepoints.proofs.Paths.{stands_to}
use Rattle.clif_spiller.specs.Acting.{Acts}
use Rattle.clif_spiller.specs.Allocating.{SlotAct}
use Rattle.clif_spiller.specs.Keeping.{Keeps}
use Rattle.clif_spiller.specs.Plans.{IsPlan, IsRead, IsReadAs, KnowsSlots}
use Rattle.clif_spiller.specs.Text.{Access, Adds, IsAlike, IsArgumentBy, IsCut, IsEdgeBy, IsReadBy, IsReadWhere, Reloaded, Rereads, Way, insts_of}
use Rattle.clif_spiller.specs.declared.accesses.Spot.{Spot}
use Rattle.clif_spiller.specs.declared.accesses.Spot.TheVariants as spot
use Rattle.clif_spiller.specs.declared.plan.Plan.{Plan}
use Rattle.clif_spiller.proofs.Keeping.{more_values, others_there, shape_there, with_shape_keeps}
use Rattle.clif_spiller.proofs.Text.Adding.{NoMapsBeyond, StayFrom, adds_none, adds_then, are_stay, are_upper, reload_adds}
use Rattle.clif_spiller.proofs.Text.Alike.{alike_same, alike_then}
use Rattle.clif_spiller.proofs.Text.Cutting.{cut_stays}
use Rattle.clif_spiller.proofs.Text.Lists.{zip_turned}

-- A READ ----------------------------------------------------------------------------------------------------------------

-- what is read in place of an operand, and by which reload
pub record IsReadAdding (plan : Plan) (next operand : ℕ) (f : Body) (a : StackSlots) (g : Body) (b : StackSlots) (new : ℕ) : Type 0 where
  pub accesses : List Access
  pub adds : Adds Reloaded plan.pointer f a (spot.Before next) g b (spot.Before next) accesses
  pub read : IsReadBy plan f accesses operand new

pub read_adds : (plan : Plan) (next operand : ℕ) (f : Body) (a : StackSlots) (g : Body) (b : StackSlots) (new : ℕ) → NoMapsBeyond f
    → IsPlan f plan → KnowsSlots f a → IsRead plan next operand f a g b new → IsReadAdding plan next operand f a g b new
read_adds plan next operand f a g b new none known knows is = by (has plan.spilled (resolved f operand)) refl is
  where
    by : (test : Bool) → has plan.spilled (resolved f operand) ≡ test → IsReadAs test plan next operand f a g b new → IsReadAdding plan next operand f a g b new
    by true spilled read =
        let may = known.spillable (resolved f operand) (stands_to (resolved f operand) plan.spilled spilled) in
        let added = reload_adds plan.pointer next (resolved f operand) f a g b new none may knows read in
        record {
          accesses = added.0 ∷ [];
          adds = added.3;
          read = subst (λ (c : Bool). IsReadWhere c f (added.0 ∷ []) operand new) (sym spilled) (added.0, (0, omega arith, refl), added.1, added.2);
        }
    by false spilled read = record {
      accesses = [];
      adds = subst (λ (h : Body). Adds Reloaded plan.pointer f a (spot.Before next) h b (spot.Before next) []) (sym read.0)
          (subst (λ (c : StackSlots). Adds Reloaded plan.pointer f a (spot.Before next) f c (spot.Before next) []) (sym read.1)
          (adds_none Reloaded plan.pointer f a (spot.Before next) f a (spot.Before next) (λ block front back cut. cut) (omega arith) (omega arith) (λ v slot has. has) refl));
      read = subst (λ (c : Bool). IsReadWhere c f [] operand new) (sym spilled) (inr read.2);
    }

-- of another function where the operand stands for the same, and with more reloads
pub read_turned : (plan : Plan) (f g : Body) (xs ys : List Access) (old new : ℕ) → resolved g old ≡ resolved f old → ((x : Access) → Contains xs x → Contains ys x)
    → IsReadBy plan f xs old new → IsReadBy plan g ys old new
read_turned plan f g xs ys old new same more is = by (has plan.spilled (resolved f old)) refl is
  where
    by : (c : Bool) → has plan.spilled (resolved f old) ≡ c → IsReadWhere c f xs old new → IsReadBy plan g ys old new
    by true spilled (x, here, value, copy) =
        subst (λ (c : Bool). IsReadWhere c g ys old new) (sym (ap (has plan.spilled) same ∙ spilled)) (x, more x here, value ∙ sym same, copy)
    by false spilled (inl itself) = subst (λ (c : Bool). IsReadWhere c g ys old new) (sym (ap (has plan.spilled) same ∙ spilled)) (inl itself)
    by false spilled (inr name) = subst (λ (c : Bool). IsReadWhere c g ys old new) (sym (ap (has plan.spilled) same ∙ spilled)) (inr (name ∙ sym same))

-- what isn't spilled is read by its own name
pub read_itself : (plan : Plan) (f : Body) (xs : List Access) (old : ℕ) → has plan.spilled (resolved f old) ≡ false → IsReadBy plan f xs old old
read_itself plan f xs old spilled = subst (λ (c : Bool). IsReadWhere c f xs old old) (sym spilled) (inl refl)

-- and without reloads
pub read_without : (plan : Plan) (f : Body) (xs ys : List Access) (old new : ℕ) → has plan.spilled (resolved f old) ≡ false → IsReadBy plan f xs old new → IsReadBy plan f ys old new
read_without plan f xs ys old new spilled is =
    subst (λ (c : Bool). IsReadWhere c f ys old new) (sym spilled) (subst (λ (c : Bool). IsReadWhere c f xs old new) spilled is)

-- what an argument passes has one name in both functions, after aliases
abbrev pub IsNamedAlike : Body → Body → BlockArg → Type 0
IsNamedAlike f g (arg.Value v) = resolved g v ≡ resolved f v
IsNamedAlike f g (arg.TryCallRet index) = Unit {0}
IsNamedAlike f g (arg.TryCallExn part) = Unit {0}

pub argument_turned : (plan : Plan) (f g : Body) (xs ys : List Access) (old new : BlockArg) → IsNamedAlike f g old → ((x : Access) → Contains xs x → Contains ys x)
    → IsArgumentBy plan f xs old new → IsArgumentBy plan g ys old new
argument_turned plan f g xs ys (arg.Value old) (arg.Value new) same more is = read_turned plan f g xs ys old new same more is
argument_turned plan f g xs ys (arg.Value old) (arg.TryCallRet index) same more is = absurd is
argument_turned plan f g xs ys (arg.Value old) (arg.TryCallExn part) same more is = absurd is
argument_turned plan f g xs ys (arg.TryCallRet index) (arg.TryCallRet other) same more is = is
argument_turned plan f g xs ys (arg.TryCallRet index) (arg.Value new) same more is = absurd is
argument_turned plan f g xs ys (arg.TryCallRet index) (arg.TryCallExn part) same more is = absurd is
argument_turned plan f g xs ys (arg.TryCallExn part) (arg.TryCallExn other) same more is = is
argument_turned plan f g xs ys (arg.TryCallExn part) (arg.Value new) same more is = absurd is
argument_turned plan f g xs ys (arg.TryCallExn part) (arg.TryCallRet index) same more is = absurd is

pub edge_turned : (plan : Plan) (f g : Body) (xs ys : List Access) (old new : BlockCall) → ((x : BlockArg) → Contains old.args x → IsNamedAlike f g x)
    → ((x : Access) → Contains xs x → Contains ys x) → IsEdgeBy plan f xs old new → IsEdgeBy plan g ys old new
edge_turned plan f g xs ys old new same more is = record {
  block = is.block;
  args = zip_turned (IsArgumentBy plan f xs) (IsArgumentBy plan g ys) old.args new.args (λ x y here. argument_turned plan f g xs ys x y (same x here) more) is.args;
}

pub more_left : (xs ys : List Access) (x : Access) → Contains xs x → Contains (xs ++ ys) x
more_left xs ys x here = Contains-append_left xs ys x here

pub more_right : (xs ys : List Access) (x : Access) → Contains ys x → Contains (xs ++ ys) x
more_right xs ys x here = Contains-append_right xs ys x here

-- AT THE INSTRUCTION ----------------------------------------------------------------------------------------------------

-- a step at the instruction leaves newer ones
pub stays_by : (plan : Plan) (inst : ℕ) (g : Body) (b : StackSlots) (h : Body) (c : StackSlots) (acts : List SlotAct) (low : ℕ) → inst < low → Acts plan inst g b h c acts
    → StayFrom low (length g.insts) g h
stays_by plan inst g b h c acts low before at i from to = (at.others i to (λ same. omega (arith, same, from, before)), at.maps i)

-- a change that leaves lists, and accesses that came before
pub adds_kept : (way : Way) (pointer : «Type») (f : Body) (a : StackSlots) (at : Spot) (h : Body) (c : StackSlots) (next : Spot) (xs : List Access) (k : Body) (n : ℕ)
    → Keeps n h k → ((block : ℕ) (front back : List ℕ) → IsCut h block next front back → IsCut k block next front back) → StayFrom (length f.insts) (length h.insts) h k
    → length k.blocks ≡ length h.blocks → Adds way pointer f a at h c next xs → Adds way pointer f a at k c next xs
adds_kept way pointer f a at h c next xs k n keeps cut stay blocks adds = record {
  cut = λ block front back is. cut block (front ++ insts_of xs) back (adds.cut block front back is);
  are = are_upper way pointer k (length f.insts) (length f.values) xs (length h.insts) (length h.values) (length k.insts) (length k.values) keeps.insts (more_values n h k keeps)
      (are_stay way pointer n h k keeps (length f.insts) (length h.insts) stay (length f.insts) (length f.values) xs (length h.insts) (length h.values)
      (omega arith) (omega arith) (omega arith) adds.are);
  slots = adds.slots;
  still = adds.still;
  blocks = blocks ∙ adds.blocks;
}

-- another shape leaves the places
pub cut_shaped : (h : Body) (inst : ℕ) (shape : InstructionData) (block : ℕ) (at : Spot) (front back : List ℕ) → IsCut h block at front back
    → IsCut (with_shape h inst shape) block at front back
cut_shaped h inst shape block at front back cut =
    let keeps = with_shape_keeps 0 h inst shape in
    cut_stays h (with_shape h inst shape) block at front back keeps.insts keeps.blocks refl (keeps.homes _ cut.exists) cut

pub adds_shaped : (way : Way) (pointer : «Type») (f : Body) (a : StackSlots) (at : Spot) (h : Body) (c : StackSlots) (next : Spot) (xs : List Access) (inst : ℕ) (shape : InstructionData)
    → inst < length f.insts → Adds way pointer f a at h c next xs → Adds way pointer f a at (with_shape h inst shape) c next xs
adds_shaped way pointer f a at h c next xs inst shape exists adds =
    adds_kept way pointer f a at h c next xs (with_shape h inst shape) 0 (with_shape_keeps 0 h inst shape) (λ block front back cut. cut_shaped h inst shape block next front back cut)
    (λ i from to. (others_there h inst shape i (λ same. omega (arith, same, from, exists)), refl)) refl adds

pub rereads_nothing : (plan : Plan) (inst : ℕ) (f : Body) (a : StackSlots) → Rereads plan inst f a f a []
rereads_nothing plan inst f a = record {
  adds = adds_none Reloaded plan.pointer f a (spot.Before inst) f a (spot.Before inst) (λ block front back cut. cut) (omega arith) (omega arith) (λ v slot has. has) refl;
  alike = alike_same (inst_at f inst).shape;
  named = refl;
}

-- a read, and a shape in which it is used
pub rereads_next : (plan : Plan) (inst n m : ℕ) (f : Body) (a : StackSlots) (g : Body) (b : StackSlots) (xs : List Access) (h : Body) (c : StackSlots) (ys : List Access)
    (acts : List SlotAct) (shape : InstructionData) (k : Body) → inst < length f.insts → Keeps n f g → Keeps m g h → Acts plan inst g b h c acts
    → inst_at h inst ≡ inst_at g inst
    → Rereads plan inst f a g b xs → Adds Reloaded plan.pointer g b (spot.Before inst) h c (spot.Before inst) ys → k ≡ with_shape h inst shape
    → IsAlike (inst_at h inst).shape shape → contexts shape ≡ contexts (inst_at h inst).shape → Rereads plan inst f a k c (xs ++ ys)
rereads_next plan inst n m f a g b xs h c ys acts shape k exists keeps further at same so_far adds made alike named =
    let there : inst < length h.insts = (let more = keeps.insts in let most = further.insts in omega (arith, exists, more, most)) in
    let now : (inst_at k inst).shape ≡ shape = ap (λ (x : Body). (inst_at x inst).shape) made ∙ shape_there h inst shape there in
    record {
      adds = subst (λ (x : Body). Adds Reloaded plan.pointer f a (spot.Before inst) x c (spot.Before inst) (xs ++ ys)) (sym made)
          (adds_shaped Reloaded plan.pointer f a (spot.Before inst) h c (spot.Before inst) (xs ++ ys) inst shape exists
          (adds_then Reloaded plan.pointer f a (spot.Before inst) g b (spot.Before inst) h c (spot.Before inst) xs ys m further
          (stays_by plan inst g b h c acts (length f.insts) exists at) so_far.adds adds));
      alike = subst (IsAlike (inst_at f inst).shape) (sym now)
          (alike_then (inst_at f inst).shape (inst_at h inst).shape shape
          (subst (λ (node : InstNode). IsAlike (inst_at f inst).shape node.shape) (sym same) so_far.alike) alike);
      named = ap contexts now ∙ named ∙ ap (λ (node : InstNode). contexts node.shape) same ∙ so_far.named;
    }

-- one part after another
pub rereads_then : (plan : Plan) (inst n m : ℕ) (f : Body) (a : StackSlots) (g : Body) (b : StackSlots) (xs : List Access) (h : Body) (c : StackSlots) (ys : List Access)
    (acts : List SlotAct) → inst < length f.insts → Keeps n f g → Keeps m g h → Acts plan inst g b h c acts
    → Rereads plan inst f a g b xs → Rereads plan inst g b h c ys
    → Rereads plan inst f a h c (xs ++ ys)
rereads_then plan inst n m f a g b xs h c ys acts exists keeps further at first second = record {
  adds = adds_then Reloaded plan.pointer f a (spot.Before inst) g b (spot.Before inst) h c (spot.Before inst) xs ys m further
      (stays_by plan inst g b h c acts (length f.insts) exists at) first.adds second.adds;
  alike = alike_then (inst_at f inst).shape (inst_at g inst).shape (inst_at h inst).shape first.alike second.alike;
  named = second.named ∙ first.named;
}
