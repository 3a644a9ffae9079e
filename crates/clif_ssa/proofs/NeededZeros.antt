-- The zeros that are needed stay needed, and go on standing at the front of their blocks.
use Rattle.std.proofs.Common.{◌≡◌, ◌≢◌, ℕ, zero, suc, ◌+◌, ◌<◌, ◌≤◌, ◌==◌, true, false, Bool, List, [], ◌∷◌, ◌++◌, length, refl, ap, arith, sym, ◌∙◌, subst, ◌⊎◌, inl, inr}
use Rattle.std.specs.Prelude.{Option, Some, None, cond, slice_index_or, if◌then◌else◌}
use Rattle.std.specs.List.{AllByRecursion}
use Rattle.std.proofs.Math.ListN.{get_or-append}
use Rattle.std.proofs.lemmas.Grind.{common_steps}
use Rattle.std.proofs.lemmas.Bool.{cases_eq}
use Rattle.std.proofs.lemmas.List.{append_assoc}
use Rattle.clif_types.specs.declared.types.«Type».{«Type»}
use Rattle.clif_types.specs.declared.extname.UserFuncName.{UserFuncName}
use Rattle.clif_types.specs.Signature.{SignatureShape}
use Rattle.clif_ir.specs.Body.{Body, empty_body, value_at, block_at, inst_at, resolved}
use Rattle.clif_nodes.specs.Nodes.{BlockNode, empty_block, no_value, result_nodes}
use Rattle.clif_ir.specs.Changes.{with_alias, with_param, with_inst, with_layout, inserted_in}
use Rattle.clif_ir.specs.Reading.{param_home}
use Rattle.clif_instructions.specs.Members.{stands_in}
use Rattle.clif_instructions.specs.declared.instructions.InstructionData.{InstructionData}
use Rattle.clif_nodes.specs.declared.nodes.ValueNode.{ValueNode}
use Rattle.clif_nodes.specs.declared.nodes.ValueOrigin.TheVariants.{Alias}
use Rattle.clif_instructions.specs.declared.insert_at.InsertAt.TheVariants.{Back}
use Rattle.clif_ir.proofs.Aliases.{follow_end, follow-inside}
use Rattle.clif_instructions.proofs.Lists.{at_set, below_or_not}
use Rattle.clif_paths.proofs.Tables.{updated-same, updated-other}
use Rattle.clif_records.specs.Tables.{Sealed}
use Rattle.clif_ssa.specs.Ssa.{zeroed, zero_value}
use Rattle.clif_ssa.specs.Own.{with_one_more}
use Rattle.clif_ssa.specs.Structure.{IsNeededZero, HasNeededZeros}
use Rattle.clif_ssa.proofs.Bodies.{Firm, past_alias, param_exists, home_past, home-append}
use Rattle.clif_ssa.proofs.Parameters.{param_node, param_resolved, param_count, param_insts}
use Rattle.clif_ssa.proofs.Instructions.{inst_resolved, inst_param_home, inst_old, inst_insts_here, inst_insts_other, inst_insts_more, inst_values_more}
use Rattle.clif_ssa.proofs.Zeroing.{CanAlias, alias_ends, alias_insts, alias_count_same, alias_home_other}
use Rattle.clif_ssa.proofs.Completing.{inserted_same, inserted_firm, inserted_param_home}
use Rattle.clif_ssa.proofs.Alike.{can_zero, unaliased_home}
use Rattle.clif_ssa.proofs.ZeroSteps.{put_resolved, put_param_home, put_insts_more, put_old, put_insts_here, put_insts_other, put_zero, zero_count, put_old_value, zero_at, put_stands, zero_type, put_constants}
use Rattle.clif_ssa.specs.Zeros.{ZeroAt, insts_of_zero, insts_of_zeros, value_of_zero, steps_before}
use Rattle.clif_ssa.proofs.Pooled.{KeepsConstants}
use Rattle.clif_ssa.proofs.ZeroTable.{zero_exists, has_zero_kept}

-- THE FUNCTION'S PART ---------------------------------------------------------------------------------------------

-- what is said of the function alone
pub record OnlyNeeded (own : ℕ → List ℕ) (f : Body) : Type 0 where
  pub alias_types : (v : ℕ) → (value_at f (resolved f v)).ty ≡ (value_at f v).ty
  pub zeros : (b : ℕ) → HasNeededZeros f b (own b)

-- the second function has what the first has, and maybe more behind it
pub record Longer (f g : Body) : Type 0 where
  pub values_more : length f.values ≤ length g.values
  pub insts_more : length f.insts ≤ length g.insts
  pub inst_same : (i : ℕ) → i < length f.insts → inst_at g i ≡ inst_at f i
  pub constants_kept : KeepsConstants f g
  pub types_same : (v : ℕ) → v < length f.values → (value_at g v).ty ≡ (value_at f v).ty
  pub home_same : (v : ℕ) → v < length f.values → param_home f v ≡ None → param_home g v ≡ None

-- a zero that another value still stands for
pub needed_kept : (f g : Body) (z : ZeroAt) → Longer f g → (old : IsNeededZero f z) → resolved g old.alias ≡ value_of_zero z → IsNeededZero g z
needed_kept f g z longer old ends = record {
  stands = has_zero_kept f g z longer.values_more longer.insts_more longer.inst_same longer.constants_kept old.stands;
  no_parameter = longer.home_same (value_of_zero z) (zero_exists f z old.stands) old.no_parameter;
  alias = old.alias;
  another = old.another;
  stands_for = ends;
}

-- where each value ends where it ended
pub all_kept : (f g : Body) → Longer f g → ((v : ℕ) → resolved g v ≡ resolved f v) → (zeros : List ZeroAt) → AllByRecursion (IsNeededZero f) zeros → AllByRecursion (IsNeededZero g) zeros
all_kept f g longer same [] all = tt
all_kept f g longer same (z ∷ zeros) all = (needed_kept f g z longer all.0 (same all.0.alias ∙ all.0.stands_for), all_kept f g longer same zeros all.1)

pub types_kept : (f g : Body) → Longer f g → Firm f → ((v : ℕ) → resolved g v ≡ resolved f v) → ((v : ℕ) → (value_at f (resolved f v)).ty ≡ (value_at f v).ty)
    → (v : ℕ) → (value_at g (resolved g v)).ty ≡ (value_at g v).ty
types_kept f g longer firm same types v =
    elim (below_or_not v (length f.values)) [
      | inl here ↦
          let inside : resolved f v < length f.values = follow-inside f.values (length f.values) v firm.leads here in
          ap (λ w. (value_at g w).ty) (same v) ∙ longer.types_same (resolved f v) inside ∙ types v ∙ sym (longer.types_same v here)
      | inr past ↦ ap (λ w. (value_at g w).ty) (same v ∙ follow_end f.values (length f.values) v (past_alias f.values v past))
    ]

pub value_old : (values more : List ValueNode) (v : ℕ) → v < length values → (slice_index_or (values ++ more) v no_value).ty ≡ (slice_index_or values v no_value).ty
value_old values more v here = ap (λ (n : ValueNode). n.ty) (get_or-append values more no_value v here)

-- THE CALLER'S INSTRUCTIONS ---------------------------------------------------------------------------------------

pub inst_longer : (f : Body) (b : ℕ) (shape : InstructionData) (types : List «Type») (loc : ℕ) → Longer f (with_inst f b Back shape types loc)
inst_longer f b shape types loc = record {
  values_more = inst_values_more f b Back shape types loc;
  insts_more = omega (arith, inst_insts_more f b Back shape types loc);
  inst_same = inst_old f b Back shape types loc;
  constants_kept = λ constant bytes here. here;
  types_same = value_old f.values (result_nodes (length f.insts) 0 types);
  home_same = λ v here none. inst_param_home f b Back shape types loc v ∙ none;
}

pub own_zeros : (own : ℕ → List ℕ) (f : Body) (b : ℕ) (shape : InstructionData) (types : List «Type») (loc : ℕ) → Firm f → b < length f.blocks
    → (c : ℕ) → HasNeededZeros f c (own c) → HasNeededZeros (with_inst f b Back shape types loc) c (with_one_more own b (length f.insts) c)
own_zeros own f b shape types loc firm there c has =
    let g : Body = with_inst f b Back shape types loc in
    let needed : AllByRecursion (IsNeededZero g) has.zeros = all_kept f g (inst_longer f b shape types loc) (inst_resolved f b Back shape types loc firm) has.zeros has.needed in
    elim (cases_eq c b) [
      | inl same ↦ record {
        zeros = has.zeros;
        in_order = ap (λ d. (block_at g d).insts) same ∙ inst_insts_here f b Back shape types loc there
            ∙ ap (λ d. (block_at f d).insts ++ length f.insts ∷ []) (sym same) ∙ ap (λ xs. xs ++ length f.insts ∷ []) has.in_order
            ∙ append_assoc (insts_of_zeros has.zeros) (own c) (length f.insts ∷ []) ∙ ap (λ xs. insts_of_zeros has.zeros ++ xs) (own_here c same);
        needed = needed;
      }
      | inr other ↦ record {
        zeros = has.zeros;
        in_order = inst_insts_other f b Back shape types loc c there other ∙ has.in_order ∙ ap (λ xs. insts_of_zeros has.zeros ++ xs) (own_other c other);
        needed = needed;
      }
    ]
  where
    own_here : (c : ℕ) → c ≡ b → own c ++ length f.insts ∷ [] ≡ with_one_more own b (length f.insts) c
    own_here c same = ap (λ d. own d ++ length f.insts ∷ []) same ∙ sym (updated-same own b (own b ++ length f.insts ∷ []) c same)

    own_other : (c : ℕ) → c ≢ b → own c ≡ with_one_more own b (length f.insts) c
    own_other c other = sym (updated-other own b (own b ++ length f.insts ∷ []) c other)

-- BLOCKS, LAYOUT, STATE -------------------------------------------------------------------------------------------

pub first_needed : (name : UserFuncName) (signature : SignatureShape) → OnlyNeeded (λ b. []) (empty_body name signature)
first_needed name signature = record {
  alias_types = λ v. ap (λ w. (value_at (empty_body name signature) w).ty) (follow_end [] 0 v (past_alias [] v (omega arith)));
  zeros = λ b. record { zeros = []; in_order = no_insts b; needed = tt };
}
  where
    no_insts : (b : ℕ) → (slice_index_or [] b empty_block).insts ≡ []
    no_insts zero = refl
    no_insts (suc b) = refl

pub inserted_needed : (own : ℕ → List ℕ) (f : Body) (b : ℕ) → OnlyNeeded own f → OnlyNeeded own (inserted_in f b)
inserted_needed own f b before = by (stands_in b f.layout)
  where
    longer : Longer f (with_layout f b)
    longer = record { values_more = omega arith; insts_more = omega arith; inst_same = λ i here. refl; constants_kept = λ constant bytes here. here; types_same = λ v here. refl; home_same = λ v here none. none }

    by : (test : Bool) → OnlyNeeded own (cond test f (with_layout f b))
    by true = before
    by false = record {
      alias_types = before.alias_types;
      zeros = λ c. record {
        zeros = (before.zeros c).zeros;
        in_order = (before.zeros c).in_order;
        needed = all_kept f (with_layout f b) longer (λ v. refl) (before.zeros c).zeros (before.zeros c).needed;
      };
    }

pub new_block_insts : (blocks : List BlockNode) (b : ℕ) → (slice_index_or (blocks ++ empty_block ∷ []) b empty_block).insts ≡ (slice_index_or blocks b empty_block).insts
new_block_insts [] zero = refl
new_block_insts [] (suc zero) = refl
new_block_insts [] (suc (suc b)) = refl
new_block_insts (n ∷ blocks) zero = refl
new_block_insts (n ∷ blocks) (suc b) = new_block_insts blocks b

-- A PARAMETER -----------------------------------------------------------------------------------------------------

pub param_longer : (f : Body) (b : ℕ) (ty : «Type») → Longer f (with_param f b ty)
param_longer f b ty = record {
  values_more = omega (arith, param_count f b ty);
  insts_more = omega arith;
  inst_same = λ i here. refl;
  constants_kept = λ constant bytes here. here;
  types_same = value_old f.values (param_node ty b ∷ []);
  home_same = λ v here none. home-append f.values (param_node ty b ∷ []) v here ∙ none;
}

pub param_needed : (own : ℕ → List ℕ) (f : Body) (b : ℕ) (ty : «Type») → Firm f → b < length f.blocks → OnlyNeeded own f → OnlyNeeded own (with_param f b ty)
param_needed own f b ty firm there before = record {
  alias_types = types_kept f (with_param f b ty) (param_longer f b ty) firm (param_resolved f b ty firm) before.alias_types;
  zeros = λ c. record {
    zeros = (before.zeros c).zeros;
    in_order = param_insts f b ty there c ∙ (before.zeros c).in_order;
    needed = all_kept f (with_param f b ty) (param_longer f b ty) (param_resolved f b ty firm) (before.zeros c).zeros (before.zeros c).needed;
  };
}

-- A ZERO ----------------------------------------------------------------------------------------------------------

none_some : {x : ℕ} → ◌≡◌ {A = Option ℕ} None (Some x) → ⊥
none_some same = cc

-- a parameter becomes a name of a zero of its type
module _ (f : Body) (b p : ℕ) (ty : «Type») (firm : Firm f) (is : param_home f p ≡ Some b) (typed : ty ≡ (value_at f p).ty) where
  abbrev z : ℕ
  z = zero_value f ty

  abbrev k : Body
  k = put_zero f b ty

  abbrev g : Body
  g = with_alias k p z

  can : CanAlias k p z b
  can = can_zero f b p ty firm is

  k_end : (u : ℕ) → resolved k u ≡ resolved f u
  k_end = put_resolved f b ty firm

  g_end : (u : ℕ) → ((resolved f u ≡ p) × (resolved g u ≡ z)) ⊎ ((resolved f u ≢ p) × (resolved g u ≡ resolved f u))
  g_end u =
      elim (alias_ends k p z b can u) [
        | inl moved ↦ inl (sym (k_end u) ∙ moved.0, moved.1)
        | inr stayed ↦ inr (λ same. stayed.0 (k_end u ∙ same), stayed.1 ∙ k_end u)
      ]

  inside : p < length f.values
  inside = param_exists f p b is

  alias_type : (w : ℕ) → (value_at g w).ty ≡ (value_at k w).ty
  alias_type w =
      at_set (λ (n : ValueNode). n.ty ≡ (value_at k w).ty) k.values p (record (value_at k p) { origin = Alias (resolved k z) }) w no_value
      (omega (arith, inside, zero_count f b ty)) (λ same. ap (λ v. (value_at k v).ty) (sym same)) (λ other. refl)

  old_type : (w : ℕ) → w < length f.values → (value_at g w).ty ≡ (value_at f w).ty
  old_type w here = alias_type w ∙ ap (λ (n : ValueNode). n.ty) (put_old_value f b ty w here)

  new_type : (value_at g z).ty ≡ ty
  new_type = alias_type z ∙ zero_type f b ty

  pub longer : Longer f g
  longer = record {
    values_more = omega (arith, alias_count_same k p z, zero_count f b ty);
    insts_more = omega (arith, put_insts_more f b ty);
    inst_same = put_old f b ty;
    constants_kept = put_constants f b ty;
    types_same = old_type;
    home_same = λ v here none.
        alias_home_other k p z v (λ same. none_some (sym none ∙ ap (param_home f) same ∙ is)) ∙ put_param_home f b ty v ∙ none;
  }

  put_types : ((v : ℕ) → (value_at f (resolved f v)).ty ≡ (value_at f v).ty) → (v : ℕ) → (value_at g (resolved g v)).ty ≡ (value_at g v).ty
  put_types before v =
      elim (below_or_not v (length f.values)) [
        | inl here ↦
            elim (g_end v) [
              | inl moved ↦
                  ap (λ w. (value_at g w).ty) moved.1 ∙ new_type ∙ typed ∙ ap (λ w. (value_at f w).ty) (sym moved.0) ∙ before v ∙ sym (old_type v here)
              | inr stayed ↦
                  ap (λ w. (value_at g w).ty) stayed.1 ∙ old_type (resolved f v) (follow-inside f.values (length f.values) v firm.leads here) ∙ before v ∙ sym (old_type v here)
            ]
        | inr past ↦
            let own_end : resolved f v ≡ v = follow_end f.values (length f.values) v (past_alias f.values v past) in
            elim (g_end v) [
              | inl moved ↦ absurd (omega (arith, past, inside, own_end, moved.0))
              | inr stayed ↦ ap (λ w. (value_at g w).ty) (stayed.1 ∙ own_end)
            ]
      ]

  new_zero : IsNeededZero g (zero_at f ty)
  new_zero =
      let own_end : resolved f p ≡ p = unaliased_home f p b is in
      record {
        stands = has_zero_kept k g (zero_at f ty) (omega (arith, alias_count_same k p z)) (omega arith) (λ i here. refl) (λ constant bytes here. here) (put_stands f b ty);
        no_parameter = alias_home_other k p z z can.apart ∙ put_param_home f b ty z ∙ home_past f.values z (omega arith);
        alias = p;
        another = λ same. can.apart (sym same);
        stands_for = elim (g_end p) [ inl moved ↦ moved.1 | inr stayed ↦ absurd (stayed.0 own_end) ];
      }

  old_zeros : (zeros : List ZeroAt) → AllByRecursion (IsNeededZero f) zeros → AllByRecursion (IsNeededZero g) zeros
  old_zeros [] all = tt
  old_zeros (n ∷ zeros) all = (
    needed_kept f g n longer all.0 (
        elim (g_end all.0.alias) [
          | inl moved ↦ absurd (none_some (sym all.0.no_parameter ∙ ap (param_home f) (sym all.0.stands_for ∙ moved.0) ∙ is))
          | inr stayed ↦ stayed.1 ∙ all.0.stands_for
        ]
        ),
    old_zeros zeros all.1,
  )

  put_zeros : (own : ℕ → List ℕ) (c : ℕ) → HasNeededZeros f c (own c) → HasNeededZeros g c (own c)
  put_zeros own c has =
      elim (cases_eq c b) [
        | inl same ↦ record {
          zeros = zero_at f ty ∷ has.zeros;
          in_order = alias_insts k p z b can c ∙ ap (λ d. (block_at k d).insts) same
              ∙ put_insts_here f b ty (firm.homes_exist p b is)
              ∙ ap (λ d. insts_of_zero (zero_at f ty) ++ (block_at f d).insts) (sym same) ∙ ap (λ xs. insts_of_zero (zero_at f ty) ++ xs) has.in_order
              ∙ sym (append_assoc (insts_of_zero (zero_at f ty)) (insts_of_zeros has.zeros) (own c));
          needed = (new_zero, old_zeros has.zeros has.needed);
        }
        | inr other ↦ record {
          zeros = has.zeros;
          in_order = alias_insts k p z b can c
              ∙ put_insts_other f b ty c (firm.homes_exist p b is) other ∙ has.in_order;
          needed = old_zeros has.zeros has.needed;
        }
      ]

  put_needed : (own : ℕ → List ℕ) → OnlyNeeded own f → OnlyNeeded own g
  put_needed own before = record { alias_types = put_types before.alias_types; zeros = λ c. put_zeros own c (before.zeros c) }

-- the same where the block enters the layout
pub zeroed_needed : (own : ℕ → List ℕ) (f : Body) (b p : ℕ) → Firm f → param_home f p ≡ Some b → OnlyNeeded own f → OnlyNeeded own (zeroed f b p)
zeroed_needed own f b p firm is before =
    let h : Body = inserted_in f b in
    let count : length h.values ≡ length f.values = ap length (inserted_same f b).values in
    let entered : OnlyNeeded own h = inserted_needed own f b before in
    let same_type : (value_at f p).ty ≡ (value_at h p).ty = ap (λ values. (slice_index_or values p no_value).ty) (sym (inserted_same f b).values) in
    subst (λ n. OnlyNeeded own (with_alias (put_zero h b (value_at f p).ty) p (n + steps_before (value_at f p).ty))) count
    (put_needed h b p (value_at f p).ty (inserted_firm f b firm) (inserted_param_home f b p ∙ is) same_type own entered)

-- THE CALLS -------------------------------------------------------------------------------------------------------

pub seal_here : (c b : ℕ) (x y : Sealed) → c ≡ b → (if c == b then x else y) ≡ x
seal_here c b x y same = grind (arith, common_steps, same)

pub seal_other : (c b : ℕ) (x y : Sealed) → c ≢ b → (if c == b then x else y) ≡ y
seal_other c b x y apart = grind (arith, common_steps, apart)
