-- Values that stand for one value go on doing so, and which parameters are left.
use Rattle.clif_ssa.specs.declared.zeros.Ending.{Ending}
use Rattle.std.proofs.lemmas.Grind.{common_steps}
use Rattle.std.proofs.Common.{◌≡◌, ◌≢◌, ℕ, ◌<◌, ◌==◌, true, false, Bool, List, [], ◌∷◌, length, refl, ap, arith, sym, ◌∙◌, subst, inl, inr, ◌+◌}
use Rattle.std.specs.Prelude.{Option, Some, None, Contains, cond, MatchOption, Result, Ok, Err, OnOk, IfOk}
use Rattle.std.proofs.lemmas.Bool.{cases_eq}
use Rattle.clif_types.specs.declared.types.«Type».{«Type»}
use Rattle.clif_ir.specs.Body.{Body, value_at, resolved, alias_of_origin}
use Rattle.clif_ir.specs.Changes.{with_alias, with_layout, inserted_in}
use Rattle.clif_ir.specs.Reading.{param_home}
use Rattle.clif_instructions.specs.Members.{stands_in}
use Rattle.clif_paths.specs.Steps.{aliased}
use Rattle.clif_records.specs.declared.tables.Pending.{Pending}
use Rattle.clif_ssa.specs.Ssa.{zeroed, zeroed_in, completed, zero_value}
use Rattle.clif_ssa.specs.Structure.{StayAlike}
use Rattle.clif_ir.proofs.Aliases.{follow_end}
use Rattle.clif_ssa.proofs.Bodies.{Firm, param_exists, param_origin}
use Rattle.clif_ssa.proofs.Ordering.{contains_cons, contains_more, contains_first}
use Rattle.clif_ssa.proofs.Zeroing.{CanAlias, alias_resolved, alias_ends, alias_firm, alias_home_other, alias_home_same}
use Rattle.clif_ssa.proofs.Completing.{inserted_same, inserted_firm, inserted_param_home}
use Rattle.clif_ssa.proofs.ZeroSteps.{put_resolved, put_param_home, put_firm, put_zero, zero_count, past_unaliased}
use Rattle.clif_ssa.specs.Zeros.{steps_before}

-- a parameter is no alias
pub unaliased_home : (f : Body) (v b : ℕ) → param_home f v ≡ Some b → resolved f v ≡ v
unaliased_home f v b is = follow_end f.values (length f.values) v (ap alias_of_origin (param_origin f v b is))

-- values that end where they ended
pub alike_same : (f g : Body) → ((v : ℕ) → resolved g v ≡ resolved f v) → StayAlike f g
alike_same f g same u v is = same u ∙ is ∙ sym (same v)

pub alike_then : (f g h : Body) → StayAlike f g → StayAlike g h → StayAlike f h
alike_then f g h first second u v is = second u v (first u v is)

pub aliased_alike : (resolve : ℕ → ℕ) (v target u w : ℕ) → resolve u ≡ resolve w → aliased resolve v target u ≡ aliased resolve v target w
unfolding aliased
aliased_alike resolve v target u w same = ap (λ x. cond (x == v) target x) same

-- a parameter that may become a name of a new zero
pub can_zero : (f : Body) (b v : ℕ) (ty : «Type») → Firm f → param_home f v ≡ Some b → CanAlias (put_zero f b ty) v (zero_value f ty) b
can_zero f b v ty firm is =
    let inside : v < length f.values = param_exists f v b is in
    record {
      firm = put_firm f b ty firm;
      parameter = put_param_home f b ty v ∙ is;
      own_end = put_resolved f b ty firm (zero_value f ty) ∙ past_unaliased f (zero_value f ty) (omega arith);
      exists = omega (arith, zero_count f b ty);
      apart = λ same. absurd (omega (arith, inside, same));
    }

-- what a parameter that becomes a name of a zero leaves
pub record Leaves (f g : Body) (v : ℕ) : Type 0 where
  pub firm : Firm g
  pub alike : StayAlike f g
  pub gone : param_home g v ≡ None
  pub others : (u : ℕ) → u ≢ v → param_home g u ≡ param_home f u

pub inserted_resolved : (f : Body) (b v : ℕ) → resolved (inserted_in f b) v ≡ resolved f v
inserted_resolved f b v = by (stands_in b f.layout)
  where
    by : (test : Bool) → resolved (cond test f (with_layout f b)) v ≡ resolved f v
    by true = refl
    by false = refl

put_leaves : (f : Body) (b v : ℕ) (ty : «Type») → Firm f → param_home f v ≡ Some b → Leaves f (with_alias (put_zero f b ty) v (zero_value f ty)) v
put_leaves f b v ty firm is =
    let g : Body = put_zero f b ty in
    let z : ℕ = zero_value f ty in
    let can : CanAlias g v z b = can_zero f b v ty firm is in
    let same_end : (u : ℕ) → resolved g u ≡ resolved f u = put_resolved f b ty firm in
    record {
      firm = alias_firm g v z b can;
      alike = λ u w same.
          alias_resolved g v z b can u
          ∙ aliased_alike (λ x. resolved g x) v (resolved g z) u w (same_end u ∙ same ∙ sym (same_end w))
          ∙ sym (alias_resolved g v z b can w);
      gone = alias_home_same g v z b can;
      others = λ u other. alias_home_other g v z u other ∙ put_param_home f b ty u;
    }

pub zeroed_leaves : (f : Body) (b v : ℕ) → Firm f → param_home f v ≡ Some b → Leaves f (zeroed f b v) v
zeroed_leaves f b v firm is =
    let h : Body = inserted_in f b in
    let ty : «Type» = (value_at f v).ty in
    let count : length h.values ≡ length f.values = ap length (inserted_same f b).values in
    let done : Leaves h (with_alias (put_zero h b ty) v (zero_value f ty)) v =
    subst (λ n. Leaves h (with_alias (put_zero h b ty) v (n + steps_before ty)) v) count (put_leaves h b v ty (inserted_firm f b firm) (inserted_param_home f b v ∙ is)) in
    record {
      firm = done.firm;
      alike = λ u w same. done.alike u w (inserted_resolved f b u ∙ same ∙ sym (inserted_resolved f b w));
      gone = done.gone;
      others = λ u other. done.others u other ∙ inserted_param_home f b u;
    }

-- what the completion of parameters leaves
pub record LeavesAll (f g : Body) (ps : List Pending) : Type 0 where
  pub firm : Firm g
  pub alike : StayAlike f g
  pub gone : (p : Pending) → Contains ps p → param_home g p.param ≡ None
  pub others : (u : ℕ) → ((p : Pending) → Contains ps p → p.param ≢ u) → param_home g u ≡ param_home f u
  pub no_other : (u c : ℕ) → param_home g u ≡ Some c → param_home f u ≡ Some c

none_some : {x : ℕ} → ◌≡◌ {A = Option ℕ} None (Some x) → ⊥
none_some same = cc

none_or_home : (home home' : Option ℕ) → ((c : ℕ) → home' ≡ Some c → home ≡ Some c) → home ≡ None → home' ≡ None
none_or_home home None follows none = refl
none_or_home home (Some c) follows none = absurd (none_some (sym none ∙ follows c refl))

-- the first parameter and then the others
leaves_then : (f g h : Body) (p : Pending) (ps : List Pending) → Firm f → StayAlike f g → param_home g p.param ≡ None
    → ((u : ℕ) → u ≢ p.param → param_home g u ≡ param_home f u) → LeavesAll g h ps → LeavesAll f h (p ∷ ps)
leaves_then f g h p ps firm alike gone others rest =
    record {
      firm = rest.firm;
      alike = alike_then f g h alike rest.alike;
      gone = λ q here.
          elim (contains_cons p ps q here) [
            | inl same ↦ ap (λ (r : Pending). param_home h r.param) (sym same) ∙ none_or_home (param_home g p.param) (param_home h p.param) (rest.no_other p.param) gone
            | inr later ↦ rest.gone q later
          ];
      others = λ u apart.
          rest.others u (λ q here. apart q (contains_more p ps q here))
          ∙ others u (λ same. apart p (contains_first p ps) (sym same));
      no_other = λ u c is.
          elim (cases_eq u p.param) [
            | inl same ↦ absurd (none_some (sym gone ∙ ap (λ w. param_home g w) (sym same) ∙ rest.no_other u c is))
            | inr other ↦ sym (others u other) ∙ rest.no_other u c is
          ];
    }

pub completed_leaves : (ps : List Pending) (f : Body) → Firm f → LeavesAll f (completed f ps) ps
completed_leaves [] f firm = record {
  firm = firm;
  alike = λ u v same. same;
  gone = λ p here. absurd (omega (arith, here.1));
  others = λ u apart. refl;
  no_other = λ u c is. is;
}
completed_leaves (p ∷ ps) f firm = by (λ g firm_g. completed_leaves ps g firm_g) (param_home f p.param) refl
  where
    by : ((g : Body) → Firm g → LeavesAll g (completed g ps) ps)
        → (home : Option ℕ) → param_home f p.param ≡ home → LeavesAll f (completed (zeroed_in home f p.param) ps) (p ∷ ps)
    by induction None is = leaves_then f f (completed f ps) p ps firm (λ u v same. same) is (λ u other. refl) (induction f firm)
    by induction (Some b) is =
        let here : Leaves f (zeroed f b p.param) p.param = zeroed_leaves f b p.param firm is in
        leaves_then f (zeroed f b p.param) (completed (zeroed f b p.param) ps) p ps firm here.alike here.gone here.others
        (induction (zeroed f b p.param) here.firm)

-- both end in the zero
pub record EndsIn (g : Body) (v z : ℕ) : Type 0 where
  pub first : resolved g v ≡ z
  pub second : resolved g z ≡ z

put_ends : (f : Body) (b v : ℕ) (ty : «Type») → Firm f → param_home f v ≡ Some b → EndsIn (with_alias (put_zero f b ty) v (zero_value f ty)) v (zero_value f ty)
put_ends f b v ty firm is =
    let g : Body = put_zero f b ty in
    let z : ℕ = zero_value f ty in
    let can : CanAlias g v z b = can_zero f b v ty firm is in
    let own : resolved g v ≡ v = unaliased_home g v b can.parameter in
    record {
      first = elim (alias_ends g v z b can v) [ inl moved ↦ moved.1 | inr stayed ↦ absurd (stayed.0 own) ];
      second = elim (alias_ends g v z b can z) [ inl moved ↦ absurd (can.apart (sym can.own_end ∙ moved.0)) | inr stayed ↦ stayed.1 ∙ can.own_end ];
    }

pub zeroed_ends : (f : Body) (b v : ℕ) → Firm f → param_home f v ≡ Some b → EndsIn (zeroed f b v) v (zero_value f (value_at f v).ty)
zeroed_ends f b v firm is =
    let h : Body = inserted_in f b in
    let ty : «Type» = (value_at f v).ty in
    let count : length h.values ≡ length f.values = ap length (inserted_same f b).values in
    subst (λ n. EndsIn (with_alias (put_zero h b ty) v (n + steps_before ty)) v (n + steps_before ty)) count (put_ends h b v ty (inserted_firm f b firm) (inserted_param_home f b v ∙ is))

pub zeroed_count : (f : Body) (b v : ℕ) → length (zeroed f b v).values ≡ zero_value f (value_at f v).ty + 1
zeroed_count f b v =
    let ty : «Type» = (value_at f v).ty in
    let put : Body = put_zero (inserted_in f b) b ty in
    let same : length (zeroed f b v).values ≡ length put.values = grind (arith, common_steps) in
    same ∙ zero_count (inserted_in f b) b ty ∙ ap (λ n. n + steps_before ty + 1) (ap length (inserted_same f b).values)

-- what answers for a parameter to which nothing comes exists
pub zero_answer_exists : (f g : Body) (v b answer : ℕ) → param_home f v ≡ Some b → g ≡ zeroed_in (param_home f v) f v
    → MatchOption (param_home f v) (answer ≡ v) (λ _. answer ≡ zero_value f (value_at f v).ty) → answer < length g.values
zero_answer_exists f g v b answer is made case =
    let at : answer ≡ zero_value f (value_at f v).ty =
    subst (λ o. MatchOption o (answer ≡ v) (λ _. answer ≡ zero_value f (value_at f v).ty)) is case in
    let here : g ≡ zeroed f b v = made ∙ ap (λ o. zeroed_in o f v) is in
    let count : length g.values ≡ zero_value f (value_at f v).ty + 1 = ap (λ (h : Body). length h.values) here ∙ zeroed_count f b v in
    omega (arith, at, count)

pub zero_ending_exists : (f g : Body) (v b : ℕ) {E : Type 0} (result : Result Ending E) → param_home f v ≡ Some b → OnOk result (g ≡ zeroed_in (param_home f v) f v)
    → MatchOption (param_home f v) (IfOk result (λ e. e.value ≡ v)) (λ _. IfOk result (λ e. e.value ≡ zero_value f (value_at f v).ty))
    → IfOk result (λ e. e.value < length g.values)
zero_ending_exists f g v b (Ok e) is made case = zero_answer_exists f g v b e.value is made case
zero_ending_exists f g v b (Err error) is made case = tt
