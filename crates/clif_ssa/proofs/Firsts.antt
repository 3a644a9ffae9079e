-- The first parameter that is being completed: it stands before all others of its block that wait.
use Rattle.std.proofs.Common.{◌≡◌, ◌≢◌, ℕ, ◌<◌, Bool, true, false, List, ◌∷◌, length, ap, arith, sym, ◌∙◌, subst, inl, inr}
use Rattle.std.specs.Prelude.{Option, Some, None, Contains, if◌then◌else◌}
use Rattle.clif_ir.specs.Body.{Body, block_at, resolved, alias_of_origin}
use Rattle.clif_ir.specs.Reading.{param_home}
use Rattle.clif_instructions.specs.Members.{place_of}
use Rattle.clif_ir.proofs.Aliases.{follow_end}
use Rattle.clif_paths.specs.State.{pending}
use Rattle.clif_paths.specs.Blocks.{Blocks, front}
use Rattle.clif_records.specs.declared.tables.Pending.{Pending}
use Rattle.clif_ssa.specs.Own.{Own}
use Rattle.clif_records.specs.Tables.{is_yes, pending_of}
use Rattle.clif_ssa.specs.Ssa.{SsaState, sealed_of}
use Rattle.clif_ssa.specs.Sound.{Describes, IsWaiting, InOrder, parameters_of, is_parameter_of}
use Rattle.clif_ssa.proofs.Bodies.{param_origin}
use Rattle.clif_ssa.proofs.Ordering.{contains_first, contains_cons, none_contained, parameters_first, parameters_contain, is_parameter, in_order_tail, in_order_first}
use Rattle.clif_ssa.proofs.Zeroing.{none_pending}

-- ORDER -----------------------------------------------------------------------------------------------------------

-- those of the rest of a list are in order too
pub order_rest : (params : List ℕ) (f : Body) (b : ℕ) (p : Pending) (ps : List Pending) → InOrder params (parameters_of f b (p ∷ ps)) → InOrder params (parameters_of f b ps)
order_rest params f b p ps order = by (is_parameter_of f b p) order
  where
    by : (test : Bool) → InOrder params (if test then p ∷ parameters_of f b ps else parameters_of f b ps) → InOrder params (parameters_of f b ps)
    by true order = in_order_tail params p (parameters_of f b ps) order
    by false order = order

-- THE FIRST -------------------------------------------------------------------------------------------------------

pub none_some : {x : ℕ} → ◌≡◌ {A = Option ℕ} None (Some x) → ⊥
none_some same = cc

pub same_some : {x y : ℕ} → ◌≡◌ {A = Option ℕ} (Some x) (Some y) → x ≡ y
same_some same = cc

pub front_same : {b c : ℕ} → front b ≡ front c → b ≡ c
front_same same = cc

-- a parameter is no alias
pub parameter_ends : (f : Body) (v b : ℕ) → param_home f v ≡ Some b → resolved f v ≡ v
parameter_ends f v b is = follow_end f.values (length f.values) v (ap alias_of_origin (param_origin f v b is))

-- the parameter waits in a sealed block, before all others that wait there, and isn't listed again
pub record IsFirst (f : Body) (s : SsaState) (ps : List Pending) (blocks : Blocks) (p : Pending) (b : ℕ) : Type 0 where
  pub parameter : param_home f p.param ≡ Some b
  pub defined : blocks.function.definition p.param ≡ record { home = front b; kind = pending p.variable }
  pub is_sealed : is_yes (sealed_of s b) ≡ true
  pub before_others : (v x : ℕ) → (blocks.function.definition v).kind ≡ pending x → param_home f v ≡ Some b → v ≢ p.param
      → place_of p.param (block_at f b).params < place_of v (block_at f b).params
  pub once : (q : Pending) → Contains ps q → q.param ≢ p.param
  pub only_there : (c : ℕ) (q : Pending) → Contains (pending_of (sealed_of s c)) q → q.param ≢ p.param

pub first_waits : (own : Own) (f : Body) (s : SsaState) (p : Pending) (ps : List Pending) (blocks : Blocks) (b : ℕ)
    → Describes own f s (p ∷ ps) blocks → param_home f p.param ≡ Some b → IsFirst f s ps blocks p b
first_waits own f s p ps blocks b before is =
    elim (before.completed p (contains_first p ps)) [
      | inl gone ↦ absurd (none_some (sym gone.0 ∙ is))
      | inr there ↦ from there.0 there.1 there.2
    ]
  where
    order : InOrder (block_at f b).params (p ∷ parameters_of f b ps)
    order = subst (λ qs. InOrder (block_at f b).params qs) (parameters_first f b p ps (is_parameter f b p is)) (before.completing_order b)

    behind : (q : Pending) → Contains ps q → param_home f q.param ≡ Some b → place_of p.param (block_at f b).params < place_of q.param (block_at f b).params
    behind q here home = in_order_first (block_at f b).params p (parameters_of f b ps) q order (parameters_contain f b ps q (is_parameter f b q home) here)

    from : (c : ℕ) → IsWaiting f blocks c p → is_yes (sealed_of s c) ≡ true → IsFirst f s ps blocks p b
    from c waits sealed =
        let at : c ≡ b = same_some (sym waits.parameter ∙ is) in
        let sealed_here : is_yes (sealed_of s b) ≡ true = subst (λ d. is_yes (sealed_of s d) ≡ true) at sealed in
        let nothing : (q : Pending) → Contains (pending_of (sealed_of s b)) q → ⊥ =
        λ q here. none_contained q (subst (λ xs. Contains xs q) (none_pending (sealed_of s b) sealed_here) here) in
        let not_in : (d : ℕ) (q : Pending) → Contains (pending_of (sealed_of s d)) q → param_home f q.param ≡ Some b → ⊥ =
        λ d q here home. nothing q (subst (λ e. Contains (pending_of (sealed_of s e)) q) (same_some (sym (before.waiting d q here).parameter ∙ home)) here) in
        record {
          parameter = is;
          defined = subst (λ d. blocks.function.definition p.param ≡ record { home = front d; kind = pending p.variable }) at waits.defined;
          is_sealed = sealed_here;
          before_others = λ v x waits home other.
              elim (before.pends v x (parameter_ends f v b home) waits) [
                | inl in_block ↦ absurd (not_in in_block.0 (record { variable = x; param = v }) in_block.1 home)
                | inr listed ↦
                    elim (contains_cons p ps (record { variable = x; param = v }) listed) [
                      | inl first ↦ absurd (other (sym (ap (λ (q : Pending). q.param) first)))
                      | inr later ↦ behind (record { variable = x; param = v }) later home
                    ]
              ];
          once = λ q here same.
              let less : place_of p.param (block_at f b).params < place_of q.param (block_at f b).params = behind q here (ap (λ v. param_home f v) same ∙ is) in
              let even : place_of q.param (block_at f b).params ≡ place_of p.param (block_at f b).params = ap (λ v. place_of v (block_at f b).params) same in
              absurd (omega (arith, less, even));
          only_there = λ d q here same. not_in d q here (ap (λ v. param_home f v) same ∙ is);
        }
