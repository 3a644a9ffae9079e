-- A walk along a list by what follows each entry.
use Rattle.std.proofs.Common.{◌≡◌, ℕ, zero, suc, ◌+◌, ◌-◌, ◌<◌, ◌≤◌, List, [], ◌∷◌, ◌++◌, length, get_or, take, drop, sym, ap, subst, ◌∙◌, arith}
use Rattle.std.specs.Prelude.{Option, Some, None, All, slice_get, slice_index}
use Rattle.std.specs.List.{flat_map}
use Rattle.std.proofs.lemmas.List.{take_more, take_all, take-append-drop, append_assoc}
use Rattle.std.proofs.lemmas.List.Elements.{All-append, All-cons, All-nil}
use Rattle.std.proofs.lemmas.Grind.{flat_map-append}
use Rattle.std.proofs.lemmas.Option.{slice_get_within, get_or_from_slice_get}
use Rattle.std.proofs.Math.Seq.{drop-cons}
use Rattle.clif_instructions.specs.Members.{Once, next_in, place_of}
use Rattle.clif_instructions.proofs.Members.{next_in-at, place_of-first}

-- what comes next is an entry of the list, or nothing at its end, and it holds of all before
pub record Walked (P : ℕ → Type 0) (xs : List ℕ) (next : Option ℕ) : Type 0 where
  pub place : ℕ
  pub here : next ≡ slice_get xs place
  pub passed : All P (take place xs)

pub start : (P : ℕ → Type 0) (xs : List ℕ) {next : Option ℕ} → next ≡ slice_get xs 0 → Walked P xs next
start P xs first = record { place = 0; here = first; passed = All-nil P }

within : (xs : List ℕ) (place x : ℕ) → slice_get xs place ≡ Some x → place < length xs
within xs place x is = slice_get_within xs place x is

at : (xs : List ℕ) (place x : ℕ) → slice_get xs place ≡ Some x → slice_index xs place ≡ x
at xs place x is = get_or_from_slice_get xs place x 0 is

-- one element more
pub all_more : {X : Type 0} (P : X → Type 0) (xs : List X) (n : ℕ) (x : X) → n < length xs → P (get_or xs n x) → All P (take n xs) → All P (take (n + 1) xs)
all_more P xs n x inside holds all =
    subst (λ ys. All P ys) (sym (take_more xs n x inside)) (All-append P (take n xs) (get_or xs n x ∷ []) all (All-cons P (get_or xs n x) [] holds (All-nil P)))

pub step : {P : ℕ → Type 0} {xs : List ℕ} {next after : Option ℕ} {x : ℕ} → Walked P xs next → next ≡ Some x → Once xs → P x → after ≡ next_in xs x → Walked P xs after
step {P} {xs} {next} {after} {x} walked is once holds follows =
    let here : slice_get xs walked.place ≡ Some x = sym walked.here ∙ is in
    let inside : walked.place < length xs = within xs walked.place x here in
    record {
      place = walked.place + 1;
      here = follows ∙ next_in-at xs walked.place x once inside (at xs walked.place x here);
      passed = all_more P xs walked.place x inside (subst P (sym (get_or_from_slice_get xs walked.place x x here)) holds) walked.passed;
    }

past : (xs : List ℕ) (place : ℕ) → slice_get xs place ≡ None → length xs ≤ place
past [] place is = omega arith
past (x ∷ xs) zero is = cc
past (x ∷ xs) (suc place) is = let rest : length xs ≤ place = past xs place is in omega (arith, rest)

pub finish : {P : ℕ → Type 0} {xs : List ℕ} {next : Option ℕ} → Walked P xs next → next ≡ None → All P xs
finish {P} {xs} walked is = subst (λ ys. All P ys) (take_all walked.place xs (past xs walked.place (sym walked.here ∙ is))) walked.passed

-- what holds of each entry holds of what comes next
pub of_next : {P : ℕ → Type 0} {xs : List ℕ} {next : Option ℕ} {x : ℕ} (Q : ℕ → Type 0) → Walked P xs next → next ≡ Some x → ((k : ℕ) → k < length xs → Q (slice_index xs k)) → Q x
of_next {P} {xs} {next} {x} Q walked is all =
    let here : slice_get xs walked.place ≡ Some x = sym walked.here ∙ is in
    subst Q (at xs walked.place x here) (all walked.place (within xs walked.place x here))

-- THE MEASURE -----------------------------------------------------------------------------------------------------------

-- how many entries are left
abbrev pub left : List ℕ → Option ℕ → ℕ
left xs None = 0
left xs (Some x) = length xs - place_of x xs

place_at : (xs : List ℕ) (place x : ℕ) → Once xs → slice_get xs place ≡ Some x → place_of x xs ≡ place
place_at xs place x once is =
    place_of-first xs place x (within xs place x is) (at xs place x is)
    (λ j before same. once j place before (within xs place x is) (same ∙ sym (at xs place x is)))

left_at : (xs : List ℕ) (place : ℕ) (next : Option ℕ) → Once xs → next ≡ slice_get xs place → left xs next ≤ length xs - place
left_at xs place None once is = omega arith
left_at xs place (Some x) once is = let e : place_of x xs ≡ place = place_at xs place x once (sym is) in omega (arith, e)

pub fewer : {P : ℕ → Type 0} {xs : List ℕ} {next after : Option ℕ} {x : ℕ} → Walked P xs next → next ≡ Some x → Once xs → after ≡ next_in xs x → left xs after < left xs next
fewer {P} {xs} {next} {after} {x} walked is once follows =
    let here : slice_get xs walked.place ≡ Some x = sym walked.here ∙ is in
    let inside : walked.place < length xs = within xs walked.place x here in
    let now : left xs next ≡ length xs - walked.place = ap (left xs) is ∙ ap (λ k. length xs - k) (place_at xs walked.place x once here) in
    let then : left xs after ≤ length xs - (walked.place + 1) =
    left_at xs (walked.place + 1) after once (follows ∙ next_in-at xs walked.place x once inside (at xs walked.place x here)) in
    omega (arith, inside, now, then)

-- LISTS OF LISTS --------------------------------------------------------------------------------------------------------

pub order : {P : ℕ → Type 0} {xs : List ℕ} {next : Option ℕ} {x : ℕ} (walked : Walked P xs next) → next ≡ Some x
    → xs ≡ take walked.place xs ++ x ∷ drop (suc walked.place) xs
order {P} {xs} {next} {x} walked is =
    let here : slice_get xs walked.place ≡ Some x = sym walked.here ∙ is in
    let inside : walked.place < length xs = within xs walked.place x here in
    sym (take-append-drop walked.place xs) ∙ ap (λ ys. take walked.place xs ++ ys) (drop-cons xs walked.place x inside)
    ∙ ap (λ y. take walked.place xs ++ y ∷ drop (suc walked.place) xs) (get_or_from_slice_get xs walked.place x x here)

pub all_flat : (P : ℕ → Type 0) (f : ℕ → List ℕ) (xs : List ℕ) → All (λ x. All P (f x)) xs → All P (flat_map f xs)
all_flat P f [] all = All-nil P
all_flat P f (x ∷ xs) all = All-append P (f x) (flat_map f xs) (all 0 x (omega arith)) (all_flat P f xs (λ k d inside. all (suc k) d (omega (arith, inside))))

-- what stands in a piece stands in the whole, behind the pieces before
pub flat_order : (f : ℕ → List ℕ) (xs before after : List ℕ) (x : ℕ) (first rest : List ℕ) (y : ℕ) → xs ≡ before ++ x ∷ after → f x ≡ first ++ y ∷ rest
    → flat_map f xs ≡ (flat_map f before ++ first) ++ y ∷ (rest ++ flat_map f after)
flat_order f xs before after x first rest y is piece =
    ap (flat_map f) is ∙ flat_map-append f before (x ∷ after) ∙ ap (λ ys. flat_map f before ++ (ys ++ flat_map f after)) piece
    ∙ ap (λ ys. flat_map f before ++ ys) (append_assoc first (y ∷ rest) (flat_map f after))
    ∙ sym (append_assoc (flat_map f before) first (y ∷ (rest ++ flat_map f after)))
