-- Lists of renamed elements.
use Rattle.std.proofs.Common.{◌≡◌, ◌≢◌, ℕ, zero, suc, Bool, true, false, cond, List, [], ◌∷◌, ◌++◌, length, map, refl, sym, ◌∙◌, ap, ap₂, Option, Some, None}
use Rattle.std.specs.Prelude.{◌&&◌, ◌||◌, find, filter, filter_map, flat_map, is_some, slice_get, option_map}
use Rattle.std.specs.List.{cons_option, list_all, list_any}
use Rattle.std.proofs.lemmas.List.{map-append}

pub all_mapped : {X Y : Type 0} (h : X → Y) (f : X → Bool) (g : Y → Bool) → ((x : X) → g (h x) ≡ f x) → (xs : List X) → list_all g (map h xs) ≡ list_all f xs
all_mapped h f g each [] = refl
all_mapped h f g each (x ∷ xs) = ap₂ (λ (a b : Bool). a && b) (each x) (all_mapped h f g each xs)

pub any_mapped : {X Y : Type 0} (h : X → Y) (f : X → Bool) (g : Y → Bool) → ((x : X) → g (h x) ≡ f x) → (xs : List X) → list_any g (map h xs) ≡ list_any f xs
any_mapped h f g each [] = refl
any_mapped h f g each (x ∷ xs) = ap₂ (λ (a b : Bool). a || b) (each x) (any_mapped h f g each xs)

pub find_mapped : {X Y : Type 0} (h : X → Y) (f : X → Bool) (g : Y → Bool) → ((x : X) → g (h x) ≡ f x) → (xs : List X) → find g (map h xs) ≡ option_map h (find f xs)
find_mapped h f g each [] = refl
find_mapped {X} {Y} h f g each (x ∷ xs) = ap₂ (λ (c : Bool) (rest : Option Y). cond c (Some (h x)) rest) (each x) (find_mapped h f g each xs) ∙ by (f x)
  where
    by : (c : Bool) → cond c (Some (h x)) (option_map h (find f xs)) ≡ option_map h (cond c (Some x) (find f xs))
    by true = refl
    by false = refl

pub filter_mapped : {X Y : Type 0} (h : X → Y) (f : X → Bool) (g : Y → Bool) → ((x : X) → g (h x) ≡ f x) → (xs : List X) → filter g (map h xs) ≡ map h (filter f xs)
filter_mapped h f g each [] = refl
filter_mapped {X} {Y} h f g each (x ∷ xs) = ap₂ (λ (c : Bool) (rest : List Y). cond c (h x ∷ rest) rest) (each x) (filter_mapped h f g each xs) ∙ by (f x)
  where
    by : (c : Bool) → cond c (h x ∷ map h (filter f xs)) (map h (filter f xs)) ≡ map h (cond c (x ∷ filter f xs) (filter f xs))
    by true = refl
    by false = refl

pub map_mapped : {X Y Z W : Type 0} (h : X → Y) (k : Z → W) (f : X → Z) (g : Y → W) → ((x : X) → g (h x) ≡ k (f x)) → (xs : List X) → map g (map h xs) ≡ map k (map f xs)
map_mapped h k f g each [] = refl
map_mapped {X} {Y} {Z} {W} h k f g each (x ∷ xs) = ap₂ (λ (y : W) (rest : List W). y ∷ rest) (each x) (map_mapped h k f g each xs)

pub flat_map_mapped : {X Y Z W : Type 0} (h : X → Y) (k : Z → W) (f : X → List Z) (g : Y → List W) → ((x : X) → g (h x) ≡ map k (f x)) → (xs : List X)
    → flat_map g (map h xs) ≡ map k (flat_map f xs)
flat_map_mapped h k f g each [] = refl
flat_map_mapped {X} {Y} {Z} {W} h k f g each (x ∷ xs) =
    ap₂ (λ (here rest : List W). here ++ rest) (each x) (flat_map_mapped h k f g each xs) ∙ sym (map-append k (f x) (flat_map f xs))

pub filter_map_mapped : {X Y Z W : Type 0} (h : X → Y) (k : Z → W) (f : X → Option Z) (g : Y → Option W) → ((x : X) → g (h x) ≡ option_map k (f x)) → (xs : List X)
    → filter_map g (map h xs) ≡ map k (filter_map f xs)
filter_map_mapped h k f g each [] = refl
filter_map_mapped {X} {Y} {Z} {W} h k f g each (x ∷ xs) =
    ap₂ (λ (o : Option W) (rest : List W). cons_option o rest) (each x) (filter_map_mapped h k f g each xs) ∙ by (f x)
  where
    by : (o : Option Z) → cons_option (option_map k o) (map k (filter_map f xs)) ≡ map k (cons_option o (filter_map f xs))
    by None = refl
    by (Some z) = refl

-- behind a push
pub get_pushed : {X : Type 0} (xs : List X) (x : X) → slice_get (xs ++ x ∷ []) (length xs) ≡ Some x
get_pushed [] x = refl
get_pushed (y ∷ xs) x = get_pushed xs x

pub get_pushed_other : {X : Type 0} (xs : List X) (x : X) (k : ℕ) → k ≢ length xs → slice_get (xs ++ x ∷ []) k ≡ slice_get xs k
get_pushed_other [] x zero other = absurd (other refl)
get_pushed_other [] x (suc k) other = refl
get_pushed_other (y ∷ xs) x zero other = refl
get_pushed_other (y ∷ xs) x (suc k) other = get_pushed_other xs x k (λ same. other (ap suc same))

pub some_mapped : {X Y : Type 0} (f : X → Y) (o : Option X) → is_some (option_map f o) ≡ is_some o
some_mapped f None = refl
some_mapped f (Some x) = refl
