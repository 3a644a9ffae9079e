-- The clauses on parameters and on what values stand for, of a use and of a sealing.
use Rattle.std.proofs.Common.{◌≡◌, ◌≢◌, ℕ, suc, ◌+◌, ◌<◌, ◌==◌, ◌&&◌, true, false, Bool, List, [], ◌∷◌, ◌++◌, length, refl, ap, arith, sym, ◌∙◌, subst, inl, inr}
use Rattle.std.specs.Prelude.{Option, Some, None, cond, slice_index, if◌then◌else◌, Result, Ok, Err, OnOk, IfOk, IfSome}
use Rattle.std.proofs.lemmas.Grind.{common_steps}
use Rattle.std.proofs.lemmas.Bool.{cases_eq}
use Rattle.std.proofs.lemmas.Bool.Decides.{nat_tests}
use Rattle.clif_types.specs.declared.types.«Type».{«Type»}
use Rattle.clif_ir.specs.Body.{Body, value_at, block_at, resolved}
use Rattle.clif_nodes.specs.Nodes.{BlockNode, empty_block}
use Rattle.clif_ir.specs.Changes.{with_alias, with_param, with_layout, inserted_in, home_of}
use Rattle.clif_ir.specs.Consistent.{IsConsistent, IsOrigin}
use Rattle.clif_instructions.specs.Members.{Stands, without, stands_in}
use Rattle.clif_ir.specs.Reading.{param_home, home_of_param}
use Rattle.clif_instructions.proofs.Lists.{at_set}
use Rattle.clif_records.specs.declared.tables.Pending.{Pending}
use Rattle.clif_records.specs.Tables.{is_yes}
use Rattle.clif_records.specs.declared.side_effects.SideEffects.{SideEffects}
use Rattle.clif_ssa.specs.Ssa.{SsaState, record_of, sealed_of, zeroed, completed, Records, Waits, Zeroes, zero_value}
use Rattle.clif_ssa.specs.Structure.{StayAlike, HasRecordOf, Remembers, Moment, AreSteps, last_of, LosesWaiting}
use Rattle.clif_ssa.proofs.Bodies.{Firm, firm_from, home_inside, param_exists, param_origin}
use Rattle.clif_ssa.proofs.Describing.{recorded_here}
use Rattle.clif_ssa.proofs.Parameters.{param_firm, param_resolved, param_home_new}
use Rattle.clif_ssa.proofs.Completing.{inserted_same, inserted_firm, inserted_param_home}
use Rattle.clif_ssa.proofs.Alike.{EndsIn, zeroed_ends, alike_same, alike_then, Leaves, zeroed_leaves, LeavesAll, completed_leaves}
use Rattle.clif_ssa.proofs.ZeroSteps.{put_param_home, put_firm, put_zero, put_params, param_zero_value}
use Rattle.clif_ssa.specs.Zeros.{steps_before}

-- PARAMETERS ------------------------------------------------------------------------------------------------------

pub stands_home : (f : Body) → IsConsistent f → (v b : ℕ) → Stands v (block_at f b).params → param_home f v ≡ Some b
stands_home f known v b here =
    let at : (slice_index (block_at f b).params here.0 < length f.values) × _ = known.params_known b here.0 here.1 in
    let inside : v < length f.values = subst (λ w. w < length f.values) here.2 at.0 in
    home_inside f.values v inside ∙ ap (λ w. home_of_param (value_at f w).origin) (sym here.2) ∙ ap home_of_param at.1

pub home_stands : (f : Body) → IsConsistent f → (v b : ℕ) → param_home f v ≡ Some b → Stands v (block_at f b).params
home_stands f known v b is = (subst (IsOrigin f v) (param_origin f v b is) (known.origins v (param_exists f v b is))).1

none_some : {x : ℕ} → ◌≡◌ {A = Option ℕ} None (Some x) → ⊥
none_some same = cc

pub loses_waiting : (f g : Body) (waited : List Pending) → IsConsistent f → IsConsistent g → g ≡ completed f waited → LosesWaiting f g waited
loses_waiting f g waited known known' is =
    let left : LeavesAll f g waited = subst (λ h. LeavesAll f h waited) (sym is) (completed_leaves waited f (firm_from f known)) in
    record {
      gone = λ p b here stands. none_some (sym (left.gone p here) ∙ stands_home g known' p.param b stands);
      stayed = λ v b apart stands. home_stands g known' v b (left.others v apart ∙ stands_home f known v b stands);
      no_other = λ v b stands. home_stands f known v b (left.no_other v b (stands_home g known' v b stands));
    }

pub seal_alike : (f g : Body) (waited : List Pending) → IsConsistent f → g ≡ completed f waited → StayAlike f g
seal_alike f g waited known is = subst (λ h. StayAlike f h) (sym is) (completed_leaves waited f (firm_from f known)).alike

-- A USE IN A SEALED BLOCK -----------------------------------------------------------------------------------------

without_push : (xs : List ℕ) (x : ℕ) → ((k : ℕ) → k < length xs → slice_index xs k ≢ x) → without x (xs ++ x ∷ []) ≡ xs
without_push [] x apart = let same : (x == x) ≡ true = grind (arith, common_steps) in ap (λ t. cond t [] (x ∷ [])) same
without_push (y ∷ ys) x apart =
    let other : y ≢ x = apart 0 (omega arith) in
    let test : (y == x) ≡ false = grind (arith, common_steps, other) in
    ap (λ t. cond t (ys ++ x ∷ []) (y ∷ without x (ys ++ x ∷ []))) test
    ∙ ap (λ zs. y ∷ zs) (without_push ys x (λ k inside. apart (suc k) (omega (arith, inside))))

-- the parameters of a block
abbrev params_of : Body → ℕ → List ℕ
params_of f b = (block_at f b).params

inserted_params : (f : Body) (b c : ℕ) → params_of (inserted_in f b) c ≡ params_of f c
inserted_params f b c = by (stands_in b f.layout)
  where
    by : (test : Bool) → params_of (cond test f (with_layout f b)) c ≡ params_of f c
    by true = refl
    by false = refl

param_params : (f : Body) (b c : ℕ) (ty : «Type») → b < length f.blocks → (c ≢ b → params_of (with_param f b ty) c ≡ params_of f c)
    × (c ≡ b → params_of (with_param f b ty) c ≡ params_of f b ++ length f.values ∷ [])
param_params f b c ty there =
    let changed : BlockNode = record (block_at f b) { params = (block_at f b).params ++ length f.values ∷ [] } in (
      λ other. at_set (λ (m : BlockNode). m.params ≡ params_of f c) f.blocks b changed c empty_block there (λ same. absurd (other same)) (λ _. refl),
      λ same. at_set (λ (m : BlockNode). m.params ≡ params_of f b ++ length f.values ∷ []) f.blocks b changed c empty_block there (λ _. refl) (λ other. absurd (other same)),
    )

alias_params : (f : Body) (v z b c : ℕ) → Firm f → param_home f v ≡ Some b → (c ≢ b → params_of (with_alias f v z) c ≡ params_of f c)
    × (c ≡ b → params_of (with_alias f v z) c ≡ without v (params_of f b))
alias_params f v z b c firm is =
    let home : ℕ = home_of (value_at f v).origin in
    let at_home : home ≡ b = ap home_of (param_origin f v b is) in
    let changed : BlockNode = record (block_at f home) { params = without v (block_at f home).params } in
    let there : home < length f.blocks = omega (arith, at_home, firm.homes_exist v b is) in (
      λ other. at_set (λ (m : BlockNode). m.params ≡ params_of f c) f.blocks home changed c empty_block there (λ same. absurd (other (same ∙ at_home))) (λ _. refl),
      λ same.
          at_set (λ (m : BlockNode). m.params ≡ without v (params_of f b)) f.blocks home changed c empty_block there
          (λ _. ap (λ d. without v (params_of f d)) at_home) (λ other. absurd (other (same ∙ sym at_home))),
    )

-- the new parameter is taken away again
zeroes_params : (f : Body) (b : ℕ) (ty : «Type») → IsConsistent f → b < length f.blocks → (c : ℕ)
    → params_of (zeroed (with_param f b ty) b (length f.values)) c ≡ params_of f c
zeroes_params f b ty known there c =
    let n : ℕ = length f.values in
    let h : Body = with_param f b ty in
    let i : Body = inserted_in h b in
    let k : Body = put_zero i b (value_at h n).ty in
    let h_blocks : length h.blocks ≡ length f.blocks = grind (arith, common_steps) in
    let i_blocks : length i.blocks ≡ length h.blocks = ap length (inserted_same h b).blocks in
    let i_there : b < length i.blocks = omega (arith, there, h_blocks, i_blocks) in
    let k_firm : Firm k = put_firm i b (value_at h n).ty (inserted_firm h b (param_firm f b ty (firm_from f known) there)) in
    let home : param_home k n ≡ Some b =
    put_param_home i b (value_at h n).ty n ∙ inserted_param_home h b n ∙ param_home_new f b ty in
    let same : (d : ℕ) → params_of k d ≡ params_of h d = λ d. put_params i b (value_at h n).ty d ∙ inserted_params h b d in
    let apart : (j : ℕ) → j < length (params_of f b) → slice_index (params_of f b) j ≢ n = λ j inside at.
    absurd (omega (arith, (known.params_known b j inside).0, at)) in
    elim (cases_eq c b) [
      | inl here ↦
          (alias_params k n (zero_value h (value_at h n).ty) b c k_firm home).1 here
          ∙ ap (λ xs. without n xs) (same b ∙ (param_params f b b ty there).1 refl) ∙ without_push (params_of f b) n apart ∙ ap (λ d. params_of f d) (sym here)
      | inr other ↦ (alias_params k n (zero_value h (value_at h n).ty) b c k_firm home).0 other ∙ same c ∙ (param_params f b c ty there).0 other
    ]

-- THE CLAUSES OF A USE --------------------------------------------------------------------------------------------

-- what a use leaves of records
pub records_stay : (s t : SsaState) (x b v : ℕ) → record_of s x b ≡ None → Records s t x b v → (y c w : ℕ) → record_of s y c ≡ Some w → record_of t y c ≡ Some w
records_stay s t x b v none written y c w is = written y c ∙ by (y == x && c == b) refl
  where
    by : (test : Bool) → (y == x && c == b) ≡ test → (if test then Some v else record_of s y c) ≡ Some w
    by false apart = is
    by true one =
        let first : y ≡ x = grind (arith, nat_tests) in
        let second : c ≡ b = grind (arith, nat_tests) in
        absurd (none_some (sym (ap (λ z. record_of s z c) first ∙ ap (λ d. record_of s x d) second ∙ none) ∙ is))

pub zeroes_resolved : (f : Body) (b : ℕ) (ty : «Type») → Firm f → b < length f.blocks
    → resolved (zeroed (with_param f b ty) b (length f.values)) (length f.values) ≡ resolved (zeroed (with_param f b ty) b (length f.values)) (length f.values + 1 + steps_before ty)
zeroes_resolved f b ty firm there =
    let h : Body = with_param f b ty in
    let n : ℕ = length f.values in
    let done : EndsIn (zeroed h b n) n (zero_value h (value_at h n).ty) = zeroed_ends h b n (param_firm f b ty firm there) (param_home_new f b ty) in
    done.first ∙ sym done.second ∙ ap (λ z. resolved (zeroed h b n) z) (param_zero_value f b ty)

-- what a use of a variable leaves and answers
pub record Used (x b : ℕ) (f : Body) (s : SsaState) (g : Body) (t : SsaState) (answer : ℕ) : Type 0 where
  pub recorded : HasRecordOf g t x b answer
  pub remembers : (y c : ℕ) → Remembers y c f s g t
  pub params : is_yes (sealed_of s b) ≡ true → (c : ℕ) → params_of g c ≡ params_of f c

true_false : true ≡ false → ⊥
true_false same = cc

pub waits_used : (f g : Body) (s t : SsaState) (x b : ℕ) (ty : «Type») → IsConsistent f → record_of s x b ≡ None → is_yes (sealed_of s b) ≡ false → Waits s t f g x ty b
    → Used x b f s g t (length f.values)
waits_used f g s t x b ty known none unsealed waits =
    let firm : Firm f = firm_from f known in
    record {
      recorded = (length f.values, waits.recorded x b ∙ recorded_here x b (length f.values) (record_of s x b), refl);
      remembers = λ y c. record {
        recorded = records_stay s t x b (length f.values) none waits.recorded y c;
        alike = subst (λ h. StayAlike f h) (sym waits.function) (alike_same f (with_param f b ty) (param_resolved f b ty firm));
      };
      params = λ sealed. absurd (true_false (sym sealed ∙ unsealed));
    }

pub zeroes_used : (f g : Body) (s t : SsaState) (x b : ℕ) (ty : «Type») → IsConsistent f → b < length f.blocks → record_of s x b ≡ None → Zeroes s t f g x ty b
    → Used x b f s g t (length f.values + 1 + steps_before ty)
zeroes_used f g s t x b ty known there none zeroes =
    let firm : Firm f = firm_from f known in
    let h : Body = with_param f b ty in
    let done : Leaves h (zeroed h b (length f.values)) (length f.values) = zeroed_leaves h b (length f.values) (param_firm f b ty firm there) (param_home_new f b ty) in
    record {
      recorded = (
        length f.values,
        zeroes.recorded x b ∙ recorded_here x b (length f.values) (record_of s x b),
        subst (λ k. resolved k (length f.values) ≡ resolved k (length f.values + 1 + steps_before ty)) (sym zeroes.function) (zeroes_resolved f b ty firm there),
      );
      remembers = λ y c. record {
        recorded = records_stay s t x b (length f.values) none zeroes.recorded y c;
        alike = subst (λ k. StayAlike f k) (sym zeroes.function) (alike_then f h (zeroed h b (length f.values)) (alike_same f h (param_resolved f b ty firm)) done.alike);
      };
      params = λ sealed c. ap (λ k. params_of k c) zeroes.function ∙ zeroes_params f b ty known there c;
    }

known_used : (f g : Body) (s t : SsaState) (x b v : ℕ) → record_of s x b ≡ Some v → g ≡ f → t ≡ s → Used x b f s g t v
known_used f g s t x b v is same_body same_state = record {
  recorded = (v, ap (λ r. record_of r x b) same_state ∙ is, refl);
  remembers = λ y c. record {
    recorded = λ w here. ap (λ r. record_of r y c) same_state ∙ here;
    alike = subst (λ h. StayAlike f h) (sym same_body) (λ u w same. same);
  };
  params = λ sealed c. ap (λ k. params_of k c) same_body;
}

pub use_used : (f g : Body) (s t : SsaState) (x : ℕ) (ty : «Type») (b : ℕ) {E : Type 0} (result : Result (ℕ × SideEffects) E)
    → IsConsistent f → b < length f.blocks
    → IfSome (record_of s x b) (λ v. OnOk result ((g ≡ f) × (t ≡ s)) × IfOk result (λ r. (r.0 ≡ v) × (r.1.instructions_added_to_blocks.items ≡ [])))
    → (record_of s x b ≡ None → is_yes (sealed_of s b) ≡ false → OnOk result (Waits s t f g x ty b) × IfOk result (λ r. (r.0 ≡ length f.values) × (r.1.instructions_added_to_blocks.items ≡ [])))
    → (record_of s x b ≡ None → is_yes (sealed_of s b) ≡ true → OnOk result (Zeroes s t f g x ty b) × IfOk result (λ r. (r.0 ≡ length f.values + 1 + steps_before ty) × (r.1.instructions_added_to_blocks.items ≡ b ∷ [])))
    → IfOk result (λ r. Used x b f s g t r.0)
use_used f g s t x ty b (Err error) consistent there known waits zeroes = tt
use_used f g s t x ty b (Ok r) consistent there known waits zeroes = by (record_of s x b) refl known
  where
    by_sealed : record_of s x b ≡ None → (sealed : Bool) → is_yes (sealed_of s b) ≡ sealed → Used x b f s g t r.0
    by_sealed none true sealed =
        let case : Zeroes s t f g x ty b × ((r.0 ≡ length f.values + 1 + steps_before ty) × (r.1.instructions_added_to_blocks.items ≡ b ∷ [])) = zeroes none sealed in
        subst (λ v. Used x b f s g t v) (sym case.1.0) (zeroes_used f g s t x b ty consistent there none case.0)
    by_sealed none false sealed =
        let case : Waits s t f g x ty b × ((r.0 ≡ length f.values) × (r.1.instructions_added_to_blocks.items ≡ [])) = waits none sealed in
        subst (λ v. Used x b f s g t v) (sym case.1.0) (waits_used f g s t x b ty consistent none sealed case.0)

    by : (entry : Option ℕ) → record_of s x b ≡ entry
        → IfSome entry (λ v. ((g ≡ f) × (t ≡ s)) × ((r.0 ≡ v) × (r.1.instructions_added_to_blocks.items ≡ [])))
        → Used x b f s g t r.0
    by None is case = by_sealed is (is_yes (sealed_of s b)) refl
    by (Some v) is case = subst (λ w. Used x b f s g t w) (sym case.1.0) (known_used f g s t x b v is case.0.0 case.0.1)

pub used_recorded : (x b : ℕ) (f g : Body) (s t : SsaState) {E : Type 0} (result : Result (ℕ × SideEffects) E) → IfOk result (λ r. Used x b f s g t r.0)
    → IfOk result (λ r. HasRecordOf g t x b r.0)
used_recorded x b f g s t (Ok r) used = used.recorded
used_recorded x b f g s t (Err error) used = tt

pub used_remembers : (x b y c : ℕ) (f g : Body) (s t : SsaState) {E : Type 0} (result : Result (ℕ × SideEffects) E) → IfOk result (λ r. Used x b f s g t r.0)
    → OnOk result (Remembers y c f s g t)
used_remembers x b y c f g s t (Ok r) used = used.remembers y c
used_remembers x b y c f g s t (Err error) used = tt

pub used_params : (x b c : ℕ) (f g : Body) (s t : SsaState) {E : Type 0} (result : Result (ℕ × SideEffects) E) → IfOk result (λ r. Used x b f s g t r.0)
    → is_yes (sealed_of s b) ≡ true → OnOk result (params_of g c ≡ params_of f c)
used_params x b c f g s t (Ok r) used sealed = used.params sealed c
used_params x b c f g s t (Err error) used sealed = tt

-- OTHER CALLS -----------------------------------------------------------------------------------------------------

-- the records stay, and the function does
pub same_remembers : (x b : ℕ) (f : Body) (s t : SsaState) → record_of t x b ≡ record_of s x b → Remembers x b f s f t
same_remembers x b f s t same = record { recorded = λ v is. same ∙ is; alike = λ u v alike. alike }

-- a variable is assigned in a block, and it isn't this one there
pub assigned_remembers : (x b y c value : ℕ) (f : Body) (s t : SsaState) → (y ≡ x → c ≡ b → ⊥) → Records s t x b value → Remembers y c f s f t
assigned_remembers x b y c value f s t apart written = same_remembers y c f s t (written y c ∙ by (y == x && c == b) refl)
  where
    by : (test : Bool) → (y == x && c == b) ≡ test → (if test then Some value else record_of s y c) ≡ record_of s y c
    by false other = refl
    by true one =
        let first : y ≡ x = grind (arith, nat_tests) in
        let second : c ≡ b = grind (arith, nat_tests) in
        absurd (apart first second)

-- THE LAW ---------------------------------------------------------------------------------------------------------

pub uses_agree : (x b first second : ℕ) (m : Moment) (moments : List Moment) → HasRecordOf m.function m.state x b first → AreSteps x b m moments
    → HasRecordOf (last_of m moments).function (last_of m moments).state x b second
    → resolved (last_of m moments).function first ≡ resolved (last_of m moments).function second
uses_agree x b first second m [] (v, is, ends) steps (w, is', ends') =
    sym ends ∙ ap (λ u. resolved m.function u) (same_some (sym is ∙ is')) ∙ ends'
  where
    same_some : {y z : ℕ} → ◌≡◌ {A = Option ℕ} (Some y) (Some z) → y ≡ z
    same_some same = cc
uses_agree x b first second m (n ∷ moments) has steps last =
    uses_agree x b first second n moments (has.0, steps.0.recorded has.0 has.1, steps.0.alike has.0 first has.2) steps.1 last
