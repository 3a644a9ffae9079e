-- Parameters and their places.
use Rattle.std.proofs.Common.{◌≡◌, ◌≢◌, ℕ, zero, suc, ◌+◌, ◌<◌, List, [], ◌∷◌, length, refl, ap, arith, sym, ◌∙◌, subst, inl, inr}
use Rattle.std.specs.Prelude.{Some, slice_index}
use Rattle.std.proofs.lemmas.Bool.{cases_eq}
use Rattle.clif_ir.specs.Body.{Body, block_at}
use Rattle.clif_ir.specs.Consistent.{IsConsistent, IsOrigin}
use Rattle.clif_instructions.specs.Members.{Stands, Once, place_of, without}
use Rattle.clif_ir.specs.Reading.{param_home, home_of_param}
use Rattle.clif_instructions.proofs.Members.{if_true, if_false, place_of-first}
use Rattle.clif_ssa.proofs.Bodies.{param_exists, param_origin, home_inside}

-- PLACES ----------------------------------------------------------------------------------------------------------

stands_behind : (v y : ℕ) (ys : List ℕ) → y ≢ v → Stands v (y ∷ ys) → Stands v ys
stands_behind v y ys other (zero, inside, at) = absurd (other at)
stands_behind v y ys other (suc k, inside, at) = (k, omega (arith, inside), at)

-- two numbers at one place are one
pub place_apart : (u v : ℕ) (xs : List ℕ) → Stands u xs → place_of u xs ≡ place_of v xs → u ≡ v
place_apart u v [] here same = absurd (omega (arith, here.1))
place_apart u v (y ∷ ys) here same =
    elim (cases_eq y u) [
      | inl first ↦
          elim (cases_eq y v) [
            | inl second ↦ sym first ∙ second
            | inr other ↦
                let at : place_of u (y ∷ ys) ≡ 0 = if_true y u 0 (place_of u ys + 1) first in
                let at_v : place_of v (y ∷ ys) ≡ place_of v ys + 1 = if_false y v 0 (place_of v ys + 1) other in
                absurd (omega (arith, at, at_v, same))
          ]
      | inr differs ↦
          let at : place_of u (y ∷ ys) ≡ place_of u ys + 1 = if_false y u 0 (place_of u ys + 1) differs in
          elim (cases_eq y v) [
            | inl second ↦
                let at_v : place_of v (y ∷ ys) ≡ 0 = if_true y v 0 (place_of v ys + 1) second in
                absurd (omega (arith, at, at_v, same))
            | inr other ↦
                let at_v : place_of v (y ∷ ys) ≡ place_of v ys + 1 = if_false y v 0 (place_of v ys + 1) other in
                place_apart u v ys (stands_behind u y ys differs here) (omega (arith, at, at_v, same))
          ]
    ]

-- what stood behind the one that is taken away is one place further to the front
pub place_behind : (u v : ℕ) (xs : List ℕ) → place_of v xs < place_of u xs → place_of u (without v xs) + 1 ≡ place_of u xs
place_behind u v [] before = absurd (omega (arith, before))
place_behind u v (y ∷ ys) before =
    elim (cases_eq y u) [
      | inl first ↦
          let at : place_of u (y ∷ ys) ≡ 0 = if_true y u 0 (place_of u ys + 1) first in
          absurd (omega (arith, before, at))
      | inr differs ↦
          let at : place_of u (y ∷ ys) ≡ place_of u ys + 1 = if_false y u 0 (place_of u ys + 1) differs in
          elim (cases_eq y v) [
            | inl same ↦
                let left : without v (y ∷ ys) ≡ ys = if_true y v ys (y ∷ without v ys) same in
                ap (λ zs. place_of u zs + 1) left ∙ sym at
            | inr other ↦
                let at_v : place_of v (y ∷ ys) ≡ place_of v ys + 1 = if_false y v 0 (place_of v ys + 1) other in
                let left : without v (y ∷ ys) ≡ y ∷ without v ys = if_false y v ys (y ∷ without v ys) other in
                ap (λ zs. place_of u zs + 1) left ∙ ap (λ n. n + 1) (if_false y u 0 (place_of u (without v ys) + 1) differs)
                ∙ ap (λ n. n + 1) (place_behind u v ys (omega (arith, before, at, at_v))) ∙ sym at
          ]
    ]

pub length_without : (v : ℕ) (xs : List ℕ) → Stands v xs → length (without v xs) + 1 ≡ length xs
length_without v [] here = absurd (omega (arith, here.1))
length_without v (y ∷ ys) here =
    elim (cases_eq y v) [
      | inl same ↦
          let left : without v (y ∷ ys) ≡ ys = if_true y v ys (y ∷ without v ys) same in
          let count : length (without v (y ∷ ys)) ≡ length ys = ap length left in
          omega (arith, count)
      | inr other ↦
          let left : without v (y ∷ ys) ≡ y ∷ without v ys = if_false y v ys (y ∷ without v ys) other in
          let count : length (without v (y ∷ ys)) ≡ suc (length (without v ys)) = ap length left in
          let rest : length (without v ys) + 1 ≡ length ys = length_without v ys (stands_behind v y ys other here) in
          omega (arith, count, rest)
    ]

-- the place of what stands at a place
pub place_at : (xs : List ℕ) (k : ℕ) → Once xs → k < length xs → place_of (slice_index xs k) xs ≡ k
place_at xs k once inside = place_of-first xs k (slice_index xs k) inside refl (λ j before. once j k before inside)

-- HOUSED ----------------------------------------------------------------------------------------------------------

-- parameters stand in their blocks, each once
pub record Housed (f : Body) : Type 0 where
  pub stands : (v b : ℕ) → param_home f v ≡ Some b → Stands v (block_at f b).params
  pub known : (v b : ℕ) → Stands v (block_at f b).params → param_home f v ≡ Some b
  pub once : (b : ℕ) → Once (block_at f b).params

pub housed_from : (f : Body) → IsConsistent f → Housed f
housed_from f known = record {
  stands = λ v b is. (subst (IsOrigin f v) (param_origin f v b is) (known.origins v (param_exists f v b is))).1;
  known = λ v b stands.
      let there : _ = known.params_known b stands.0 stands.1 in
      subst (λ u. param_home f u ≡ Some b) stands.2 (home_inside f.values (slice_index (block_at f b).params stands.0) there.0 ∙ ap home_of_param there.1);
  once = known.params_once;
}
