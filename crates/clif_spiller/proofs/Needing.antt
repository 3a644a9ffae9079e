-- What the values of a list need, one after the other.
use Rattle.std.proofs.Common.{◌≡◌, ◌∙◌, ◌<◌, ◌≤◌, ◌+◌, ℕ, zero, suc, List, [], ◌∷◌, ◌++◌, length, get_or, map, take, flat_map, refl, sym, ap, ap₂, arith, append_assoc}
use Rattle.std.proofs.lemmas.List.{append-nil, take_all}
use Rattle.clif_instructions.specs.declared.block_call.BlockArg.{BlockArg}
use Rattle.clif_instructions.specs.declared.block_call.BlockCall.{BlockCall}
use Rattle.clif_ir.specs.Body.{Body, resolved}
use Rattle.clif_spiller.specs.Acting.{edge_values, needs, passed_value, passed_values}
use Rattle.clif_spiller.specs.declared.plan.Plan.{Plan}
use Rattle.clif_spiller.proofs.Acting.{map_append, needs_append}

pub take_one_more : {X : Type 0} (xs : List X) (k : ℕ) (d : X) → k < length xs → take (k + 1) xs ≡ take k xs ++ get_or xs k d ∷ []
take_one_more [] k d inside = absurd (omega (arith, inside))
take_one_more (x ∷ xs) zero d inside = refl
take_one_more (x ∷ xs) (suc k) d inside =
    ap (λ n. take n (x ∷ xs)) (let more : suc k + 1 ≡ suc (k + 1) = omega arith in more) ∙ ap (λ ys. x ∷ ys) (take_one_more xs k d (omega (arith, inside)))

pub flat_map_append : {X Y : Type 0} (p : X → List Y) (xs ys : List X) → flat_map p (xs ++ ys) ≡ flat_map p xs ++ flat_map p ys
flat_map_append p [] ys = refl
flat_map_append p (x ∷ xs) ys = ap (λ zs. p x ++ zs) (flat_map_append p xs ys) ∙ sym (append_assoc (p x) (flat_map p xs) (flat_map p ys))

-- a row of values, one part for each thing of a list
module _ {X : Type 0} (plan : Plan) (row : List X → List ℕ) (appended : (xs ys : List X) → row (xs ++ ys) ≡ row xs ++ row ys) (xs : List X) (k : ℕ) where
  pub needs_next : (d : X) → k < length xs → needs plan (row (take (k + 1) xs)) ≡ needs plan (row (take k xs)) ++ needs plan (row (get_or xs k d ∷ []))
  needs_next d inside =
      ap (λ (ys : List X). needs plan (row ys)) (take_one_more xs k d inside)
      ∙ ap (needs plan) (appended (take k xs) (get_or xs k d ∷ []))
      ∙ needs_append plan (row (take k xs)) (row (get_or xs k d ∷ []))

  -- none of them needs anything
  pub none_next : (x : X) → k < length xs → x ≡ get_or xs k x → needs plan (row (take k xs)) ≡ [] → needs plan (row (x ∷ [])) ≡ []
      → needs plan (row (take (k + 1) xs)) ≡ []
  none_next x inside is before here =
      needs_next x inside ∙ ap₂ (λ ys zs. ys ++ zs) before (ap (λ (y : X). needs plan (row (y ∷ []))) (sym is) ∙ here)

  pub none_all : length xs ≤ k → needs plan (row (take k xs)) ≡ [] → needs plan (row xs) ≡ []
  none_all past none = ap (λ (ys : List X). needs plan (row ys)) (sym (take_all k xs past)) ∙ none

pub passed_append : (f : Body) (xs ys : List BlockArg) → passed_values f (xs ++ ys) ≡ passed_values f xs ++ passed_values f ys
passed_append f = flat_map_append (passed_value f)

pub edges_append : (f : Body) (xs ys : List BlockCall) → edge_values f (xs ++ ys) ≡ edge_values f xs ++ edge_values f ys
edges_append f = flat_map_append (λ (edge : BlockCall). passed_values f edge.args)

pub names_append : (f : Body) (xs ys : List ℕ) → map (resolved f) (xs ++ ys) ≡ map (resolved f) xs ++ map (resolved f) ys
names_append f = map_append (resolved f)

pub one_passed : (plan : Plan) (f : Body) (x : BlockArg) → needs plan (passed_values f (x ∷ [])) ≡ needs plan (passed_value f x)
one_passed plan f x = ap (needs plan) (append-nil (passed_value f x))

pub one_edge : (plan : Plan) (f : Body) (edge : BlockCall) → needs plan (edge_values f (edge ∷ [])) ≡ needs plan (passed_values f edge.args)
one_edge plan f edge = ap (needs plan) (append-nil (passed_values f edge.args))
