-- What holds of each element of several lists.
use Rattle.std.proofs.Common.{zero, suc, ◌+◌, List, [], ◌∷◌, length, arith, subst}
use Rattle.std.specs.Prelude.{All}
use Rattle.std.specs.List.{flat_map}
use Rattle.std.proofs.lemmas.List.{get_or_append_left, get_or-append-add, length-append}
use Rattle.std.proofs.lemmas.List.Elements.{All-append, All-nil}

-- what holds of each element of several lists holds of each element of the lists together,
pub all_flat : {X Y : Type 0} (P : Y → Type 0) (f : X → List Y) (xs : List X) → All (λ x. All P (f x)) xs → All P (flat_map f xs)
all_flat P f [] all = All-nil P
all_flat P f (x ∷ xs) all = All-append P (f x) (flat_map f xs) (all 0 x (omega arith)) (all_flat P f xs (λ k d inside. all (suc k) d (omega (arith, inside))))

-- and the other way round
pub flat_all : {X Y : Type 0} (P : Y → Type 0) (f : X → List Y) (xs : List X) → All P (flat_map f xs) → All (λ x. All P (f x)) xs
flat_all P f [] all k d inside = absurd (omega (arith, inside))
flat_all P f (x ∷ xs) all zero d inside = λ j e within.
    subst P (get_or_append_left (f x) (flat_map f xs) e j within) (all j e (omega (arith, within, length-append (f x) (flat_map f xs))))
flat_all {X} {Y} P f (x ∷ xs) all (suc k) d inside = flat_all P f xs rest k d (omega (arith, inside))
  where
    rest : All P (flat_map f xs)
    rest j e within =
        subst P (get_or-append-add (f x) (flat_map f xs) j e) (all (length (f x) + j) e (omega (arith, within, length-append (f x) (flat_map f xs))))
