-- Laws of loops over edges.
use Rattle.std.proofs.Common.{◌≡◌, ℕ, zero, suc, ◌+◌, ◌-◌, ◌<◌, List, [], ◌∷◌, ◌++◌, length, take, drop, set, map, get_or, refl, ap, arith, ◌∙◌, Bool, true, false}
use Rattle.std.proofs.lemmas.List.{set-get_or}
use Rattle.std.proofs.lemmas.Grind.{common_steps}
use Rattle.std.specs.Prelude.{◌==◌, if◌then◌else◌}
use Rattle.clif_instructions.specs.declared.block_call.BlockArg.{BlockArg}
use Rattle.clif_instructions.specs.declared.block_call.BlockArg.TheVariants.{Value}
use Rattle.clif_instructions.specs.declared.block_call.BlockCall.{BlockCall}
use Rattle.clif_instructions.specs.Edges.{appended_to, taken_from, taken_back}

-- a list in which the first entries are changed
abbrev pub partly : {A : Type 0} → (A → A) → ℕ → List A → List A
partly f k xs = map f (take k xs) ++ drop k xs

pub partly-step : {A : Type 0} (f : A → A) (xs : List A) (k : ℕ) (d : A) → k < length xs
    → set (partly f k xs) k (f (get_or (partly f k xs) k d)) ≡ partly f (suc k) xs
partly-step f [] k d inside = absurd (omega (arith, inside))
partly-step f (x ∷ xs) zero d inside = refl
partly-step f (x ∷ xs) (suc k) d inside = ap (λ ys. f x ∷ ys) (partly-step f xs k d (omega (arith, inside)))

pub partly-all : {A : Type 0} (f : A → A) (xs : List A) → partly f (length xs) xs ≡ map f xs
partly-all f [] = refl
partly-all f (x ∷ xs) = ap (λ ys. f x ∷ ys) (partly-all f xs)

pub length-partly : {A : Type 0} (f : A → A) (k : ℕ) (xs : List A) → length (partly f k xs) ≡ length xs
length-partly f zero xs = refl
length-partly f (suc k) [] = refl
length-partly f (suc k) (x ∷ xs) = ap suc (length-partly f k xs)

-- what is changed and changed back is as it was
pub partly-back : {A : Type 0} (f g : A → A) → ((x : A) → g (f x) ≡ x) → (k : ℕ) (xs : List A) → partly g k (partly f k xs) ≡ xs
partly-back f g back zero xs = refl
partly-back f g back (suc k) [] = refl
partly-back f g back (suc k) (x ∷ xs) = ap (λ y. y ∷ partly g k (partly f k xs)) (back x) ∙ ap (λ ys. x ∷ ys) (partly-back f g back k xs)

-- one more entry is changed
pub partly-next : {A : Type 0} (f : A → A) (xs edges : List A) (k : ℕ) (d new : A) → k < length xs → edges ≡ partly f k xs
    → new ≡ f (get_or edges k d) → set edges k new ≡ partly f (k + 1) xs
partly-next f xs edges k d new inside so_far changed =
    let more : suc k ≡ k + 1 = omega arith in
    ap (λ y. set edges k y) changed
    ∙ ap (λ ys. set ys k (f (get_or ys k d))) so_far
    ∙ partly-step f xs k d inside ∙ ap (λ n. partly f n xs) more

-- an edge that passes one value more, and then one less
take-front : {A : Type 0} (xs ys : List A) → take (length xs) (xs ++ ys) ≡ xs
take-front [] ys = refl
take-front (x ∷ xs) ys = ap (λ zs. x ∷ zs) (take-front xs ys)

without-last : {A : Type 0} (x : A) (xs : List A) → take (length (xs ++ x ∷ []) - 1) (xs ++ x ∷ []) ≡ xs
without-last x xs =
    let count : length (xs ++ x ∷ []) - 1 ≡ length xs = grind (arith, common_steps) in
    ap (λ n. take n (xs ++ x ∷ [])) count ∙ take-front xs (x ∷ [])

-- the same of an edge, by whether it goes to the block
taken-appended-by : (block value : ℕ) (edge : BlockCall) (test : Bool) → (edge.block == block) ≡ test → taken_from block (appended_to block value edge) ≡ edge
taken-appended-by block value edge true same =
    let args : List BlockArg = edge.args ++ Value value ∷ [] in
    let more : BlockCall = record edge { args = args } in
    ap (taken_from block) (ap (λ test. if test then more else edge) same)
    ∙ ap (λ test. if test then record edge { args = take (length args - 1) args } else more) same
    ∙ ap (λ xs. record edge { args = xs }) (without-last (Value value) edge.args)
taken-appended-by block value edge false other =
    let more : BlockCall = record edge { args = edge.args ++ Value value ∷ [] } in
    ap (taken_from block) (ap (λ test. if test then more else edge) other)
    ∙ ap (λ test. if test then record edge { args = take (length edge.args - 1) edge.args } else edge) other

taken-appended : (block value : ℕ) (edge : BlockCall) → taken_from block (appended_to block value edge) ≡ edge
taken-appended block value edge = taken-appended-by block value edge (edge.block == block) refl

-- every edge is as before
pub all-taken : (block value k : ℕ) (edges before after : List BlockCall) (d edge : BlockCall) → edges ≡ partly (appended_to block value) k before
    → edge ≡ get_or edges k d → after ≡ taken_back block k (set edges k edge) → after ≡ before
all-taken block value k edges before after d edge so_far at taken =
    taken ∙ ap (λ e. taken_back block k (set edges k e)) at ∙ ap (λ es. taken_back block k es) (set-get_or edges k d ∙ so_far)
    ∙ partly-back (appended_to block value) (taken_from block) (taken-appended block value) k before
