-- Which parameters are new, and which blocks enter the layout, as the construction changes a function.
use Rattle.std.proofs.Common.{◌≡◌, ℕ, zero, suc, ◌<◌, ◌≤◌, ◌==◌, ◌||◌, Bool, true, false, List, [], ◌∷◌, ◌++◌, length, set, refl, ap, arith, sym, ◌∙◌, subst, ◌⊎◌, inl, inr}
use Rattle.std.specs.Prelude.{Option, Some, None, slice_get, cond}
use Rattle.std.proofs.lemmas.Bool.{cases_eq}
use Rattle.std.proofs.lemmas.Grind.{common_steps}
use Rattle.clif_types.specs.declared.types.«Type».{«Type»}
use Rattle.clif_nodes.specs.declared.nodes.InstNode.{InstNode}
use Rattle.clif_nodes.specs.declared.nodes.ValueNode.{ValueNode}
use Rattle.clif_nodes.specs.declared.nodes.ValueOrigin.TheVariants.{Alias}
use Rattle.clif_ir.specs.Body.{Body, value_at, resolved}
use Rattle.clif_ir.specs.Changes.{with_param, with_alias, with_branch_argument, with_layout, inserted_in}
use Rattle.clif_ir.specs.Reading.{home_of_node, home_of_param, param_home}
use Rattle.clif_instructions.specs.Members.{stands_in}
use Rattle.clif_ssa.specs.Constructs.{OnlyConstructs}
use Rattle.clif_ssa.specs.LookUp.{branch_block, with_arguments}
use Rattle.clif_ssa.specs.Ssa.{zeroed, zero_value}
use Rattle.clif_ssa.proofs.Bodies.{param_exists, home-set_other, home-set_same}
use Rattle.clif_ssa.proofs.Completing.{inserted_param_home}
use Rattle.clif_ssa.proofs.Constructed.{param_constructs, inserted_constructs, zero_constructs, argument_constructs}
use Rattle.clif_ssa.proofs.Ordering.{other_number}
use Rattle.clif_ssa.proofs.Parameters.{param_node}
use Rattle.clif_ssa.proofs.ZeroSteps.{put_param_home, put_zero}

-- `f` is the function before, `g` after. New parameters are of blocks of the set, and these alone enter the layout.
pub record Grown (holds : ℕ → Bool) (f g : Body) : Type 0 where
  pub values : length f.values ≤ length g.values
  pub insts : length f.insts ≤ length g.insts
  pub blocks : (i : ℕ) → i < length f.insts → branch_block g i ≡ branch_block f i
  pub homes : (v home : ℕ) → param_home g v ≡ Some home → (param_home f v ≡ Some home) ⊎ (holds home ≡ true)
  pub layout : (b : ℕ) → stands_in b g.layout ≡ true → (stands_in b f.layout ≡ true) ⊎ (holds b ≡ true)

none_some : {a : ℕ} → ◌≡◌ {A = Option ℕ} None (Some a) → ⊥
none_some same = cc

same_some : {a b : ℕ} → ◌≡◌ {A = Option ℕ} (Some a) (Some b) → a ≡ b
same_some same = cc

-- one value more, at the end
home_last : (values : List ValueNode) (n : ValueNode) (v home : ℕ) → home_of_node (slice_get (values ++ n ∷ []) v) ≡ Some home
    → (home_of_node (slice_get values v) ≡ Some home) ⊎ (home_of_param n.origin ≡ Some home)
home_last [] n zero home is = inr is
home_last [] n (suc v) home is = absurd (none_some is)
home_last (m ∷ values) n zero home is = inl is
home_last (m ∷ values) n (suc v) home is = home_last values n v home is

-- one entry more, at the end
stands_last : (b c : ℕ) (xs : List ℕ) → stands_in c (xs ++ b ∷ []) ≡ true → (stands_in c xs ≡ true) ⊎ (c ≡ b)
stands_last b c [] is =
    elim (cases_eq b c) [ inl same ↦ inr (sym same) | inr apart ↦ absurd (clash (other_number b c apart) is) ]
  where
    clash : {t : Bool} → t ≡ false → (t || false) ≡ true → ⊥
    clash other is = let now : (false || false) ≡ true = subst (λ u. (u || false) ≡ true) other is in cc
stands_last b c (x ∷ xs) is = by (x == c) (λ later. stands_last b c xs later) is
  where
    by : (test : Bool) → (stands_in c (xs ++ b ∷ []) ≡ true → (stands_in c xs ≡ true) ⊎ (c ≡ b)) → (test || stands_in c (xs ++ b ∷ [])) ≡ true
        → ((test || stands_in c xs) ≡ true) ⊎ (c ≡ b)
    by true rest is = inl refl
    by false rest is = rest is

module _ (holds : ℕ → Bool) where
  pub grown_none : (f : Body) → Grown holds f f
  grown_none f = record { values = omega arith; insts = omega arith; blocks = λ i here. refl; homes = λ v home is. inl is; layout = λ b here. inl here }

  pub grown_then : (f g h : Body) → Grown holds f g → Grown holds g h → Grown holds f h
  grown_then f g h first second = record {
    values = omega (arith, first.values, second.values);
    insts = omega (arith, first.insts, second.insts);
    blocks = λ i here. second.blocks i (omega (arith, here, first.insts)) ∙ first.blocks i here;
    homes = λ v home is. elim (second.homes v home is) [ inl old ↦ first.homes v home old | inr new ↦ inr new ];
    layout = λ b here. elim (second.layout b here) [ inl old ↦ first.layout b old | inr new ↦ inr new ];
  }

  -- a change of which it is known that it constructs
  constructed : (f g : Body) → OnlyConstructs f g
      → ((v home : ℕ) → param_home g v ≡ Some home → (param_home f v ≡ Some home) ⊎ (holds home ≡ true))
      → ((b : ℕ) → stands_in b g.layout ≡ true → (stands_in b f.layout ≡ true) ⊎ (holds b ≡ true)) → Grown holds f g
  constructed f g made homes layout = record {
    values = made.values;
    insts = made.insts;
    blocks = λ i here. ap (λ (n : InstNode). n.block) (made.same_insts i here).1;
    homes = homes;
    layout = layout;
  }

  pub grown_param : (f : Body) (b : ℕ) (ty : «Type») → holds b ≡ true → Grown holds f (with_param f b ty)
  grown_param f b ty held =
      constructed f (with_param f b ty) (param_constructs f b ty)
      (λ v home is.
      elim (home_last f.values (param_node ty b) v home is) [ inl old ↦ inl old | inr new ↦ inr (ap holds (sym (same_some new)) ∙ held) ])
      (λ c here. inl here)

  grown_inserted : (f : Body) (b : ℕ) → holds b ≡ true → Grown holds f (inserted_in f b)
  grown_inserted f b held =
      constructed f (inserted_in f b) (inserted_constructs f b) (λ v home is. inl (sym (inserted_param_home f b v) ∙ is)) (λ c here. by c (stands_in b f.layout) here)
    where
      by : (c : ℕ) (test : Bool) → stands_in c (cond test f (with_layout f b)).layout ≡ true → (stands_in c f.layout ≡ true) ⊎ (holds c ≡ true)
      by c true here = inl here
      by c false here = elim (stands_last b c f.layout here) [ inl old ↦ inl old | inr new ↦ inr (ap holds new ∙ held) ]

  grown_zero : (f : Body) (b : ℕ) (ty : «Type») → Grown holds f (put_zero f b ty)
  grown_zero f b ty =
      constructed f (put_zero f b ty) (zero_constructs f b ty)
      (λ v home is. inl (sym (put_param_home f b ty v) ∙ is)) (λ c here. inl here)

  pub grown_alias : (f : Body) (v original : ℕ) → Grown holds f (with_alias f v original)
  grown_alias f v original =
      let node : ValueNode = record (value_at f v) { origin = Alias (resolved f original) } in
      let count : length (set f.values v node) ≡ length f.values = grind (arith, common_steps) in
      record {
        values = omega (arith, count);
        insts = omega arith;
        blocks = λ i here. refl;
        homes = λ u home is.
            elim (cases_eq u v) [
              | inl same ↦
                  let inside : v < length f.values = omega (arith, count, same, param_exists (with_alias f v original) u home is) in
                  absurd (none_some (sym (home-set_same f.values v node inside) ∙ ap (λ w. home_of_node (slice_get (set f.values v node) w)) (sym same) ∙ is))
              | inr apart ↦ inl (sym (home-set_other f.values v node u apart) ∙ is)
            ];
        layout = λ b here. inl here;
      }

  pub grown_zeroed : (f : Body) (b v : ℕ) → holds b ≡ true → Grown holds f (zeroed f b v)
  grown_zeroed f b v held =
      let ty : «Type» = (value_at f v).ty in
      let g : Body = inserted_in f b in
      let h : Body = put_zero g b ty in
      grown_then f g (zeroed f b v) (grown_inserted f b held) (grown_then g h (zeroed f b v) (grown_zero g b ty) (grown_alias h v (zero_value f ty)))

  grown_argument : (f : Body) (i b v : ℕ) → Grown holds f (with_branch_argument f i b v)
  grown_argument f i b v = constructed f (with_branch_argument f i b v) (argument_constructs f i b v) (λ u home is. inl is) (λ c here. inl here)

  pub grown_arguments : (branches values : List ℕ) (f : Body) (b : ℕ) → Grown holds f (with_arguments f b branches values)
  grown_arguments [] values f b = grown_none f
  grown_arguments (i ∷ branches) [] f b = grown_none f
  grown_arguments (i ∷ branches) (v ∷ values) f b =
      let g : Body = with_branch_argument f i b v in
      grown_then f g (with_arguments g b branches values) (grown_argument f i b v) (grown_arguments branches values g b)
