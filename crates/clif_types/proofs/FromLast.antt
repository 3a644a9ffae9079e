-- The text of bytes that are written from the last one to the first, one more.
use Rattle.std.proofs.Common.{◌≡◌, ℕ, ◌+◌, ◌-◌, ◌<◌, List, [], ◌∷◌, ◌++◌, length, take, reverse, get_or, ap, sym, subst, ◌∙◌}
use Rattle.std.specs.List.{flat_map}
use Rattle.std.proofs.lemmas.Grind.{flat_map-append}
use Rattle.std.proofs.lemmas.List.{length-reverse, take_more, get_or-reverse}
use mathlib.Core.List.{append-nil}

pub one_byte_more : (f : ℕ → List ℕ) (xs : List ℕ) (k : ℕ) → k < length xs
    → flat_map f (take (k + 1) (reverse xs)) ≡ flat_map f (take k (reverse xs)) ++ f (get_or xs (length xs - 1 - k) 0)
one_byte_more f xs k inside =
    let count : k < length (reverse xs) = subst (λ n. k < n) (sym (length-reverse xs)) inside in
    ap (flat_map f) (take_more (reverse xs) k 0 count)
    ∙ flat_map-append f (take k (reverse xs)) (get_or (reverse xs) k 0 ∷ [])
    ∙ ap (λ ys. flat_map f (take k (reverse xs)) ++ ys) (append-nil (f (get_or (reverse xs) k 0)) ∙ ap f (get_or-reverse xs k 0 inside))
