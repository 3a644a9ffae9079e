-- Laws of a list with a number put behind one of its numbers.
use Rattle.std.proofs.Common.{◌≡◌, ◌≢◌, ℕ, zero, suc, ◌+◌, ◌-◌, ◌<◌, ◌≤◌, List, [], ◌∷◌, ◌++◌, length, refl, ap, arith, sym, ◌∙◌, subst, ◌⊎◌, inl, inr}
use Rattle.std.specs.Prelude.{slice_index, slice_get, Option, Some, None, IfSome}
use Rattle.std.proofs.lemmas.Bool.{cases_eq}
use Rattle.std.proofs.lemmas.Option.{slice_get_within, get_or_from_slice_get}
use Rattle.clif_ir.specs.Changes.{put_behind}
use Rattle.clif_instructions.specs.Members.{Stands, Once, next_in, stands_in, without}
use Rattle.clif_nodes.specs.Places.{last_after}
use Rattle.clif_ir.proofs.Keeps.{Stands-cons}
use Rattle.clif_instructions.proofs.Members.{if_true, if_false, Once-tail, Once-without, without-stood, same_answers, Stands-from_test, test-from_Stands}

-- a list is at most one longer than it is without a number
length-without : (x : ℕ) (xs : List ℕ) → length xs ≤ length (without x xs) + 1
length-without x [] = omega arith
length-without x (y ∷ ys) =
    elim (cases_eq y x) [
      | inl same ↦ subst (λ zs. length (y ∷ ys) ≤ length zs + 1) (sym (if_true y x ys (y ∷ without x ys) same)) (omega arith)
      | inr other ↦ subst (λ zs. length (y ∷ ys) ≤ length zs + 1) (sym (if_false y x ys (y ∷ without x ys) other)) (omega (arith, length-without x ys))
    ]

-- numbers below `n`, none of which stands twice, are at most `n`
pub Once-length : (n : ℕ) (xs : List ℕ) → Once xs → ((k : ℕ) → k < length xs → slice_index xs k < n) → length xs ≤ n
Once-length zero [] once below = omega arith
Once-length zero (x ∷ xs) once below = absurd (omega (arith, below 0 (omega arith)))
Once-length (suc n) xs once below =
    let rest : length (without n xs) ≤ n = Once-length n (without n xs) (Once-without n xs once) (λ k inside. under k inside (without-stood n xs k once inside)) in
    omega (arith, rest, length-without n xs)
  where
    under : (k : ℕ) → k < length (without n xs) → Stands (slice_index (without n xs) k) xs × (slice_index (without n xs) k ≢ n) → slice_index (without n xs) k < n
    under k inside stood =
        let bound : slice_index xs (stood.0).0 < suc n = below (stood.0).0 (stood.0).1 in
        omega (arith, bound, (stood.0).2, stood.1)

-- what stands in a list is its head or stands behind it
Stands-split : (x y : ℕ) (ys : List ℕ) → Stands x (y ∷ ys) → (y ≡ x) ⊎ Stands x ys
Stands-split x y ys (zero, inside, at) = inl at
Stands-split x y ys (suc k, inside, at) = inr (k, omega (arith, inside), at)

Stands-head : (x y : ℕ) (ys : List ℕ) → y ≡ x → Stands x (y ∷ ys)
Stands-head x y ys same = (0, omega arith, same)

Stands-behind : (x y : ℕ) (ys : List ℕ) → y ≢ x → Stands x (y ∷ ys) → Stands x ys
Stands-behind x y ys other here = elim (Stands-split x y ys here) [ inl same ↦ absurd (other same) | inr rest ↦ rest ]

Once-head : (y : ℕ) (ys : List ℕ) → Once (y ∷ ys) → Stands y ys → ⊥
Once-head y ys once here = once 0 (suc here.0) (omega arith) (omega (arith, here.1)) (sym here.2)

Once-make : (y : ℕ) (ys : List ℕ) → (Stands y ys → ⊥) → Once ys → Once (y ∷ ys)
Once-make y ys absent once zero zero before inside = absurd (omega (arith, before))
Once-make y ys absent once zero (suc k) before inside = λ same. absent (k, omega (arith, inside), sym same)
Once-make y ys absent once (suc j) zero before inside = absurd (omega (arith, before))
Once-make y ys absent once (suc j) (suc k) before inside = once j k (omega (arith, before)) (omega (arith, inside))

-- where the number is put: behind the head, or further behind
here_put : (b a x : ℕ) (xs : List ℕ) → x ≡ a → put_behind b a (x ∷ xs) ≡ x ∷ b ∷ xs
here_put b a x xs same = if_true x a (x ∷ b ∷ xs) (x ∷ put_behind b a xs) same

later_put : (b a x : ℕ) (xs : List ℕ) → x ≢ a → put_behind b a (x ∷ xs) ≡ x ∷ put_behind b a xs
later_put b a x xs other = if_false x a (x ∷ b ∷ xs) (x ∷ put_behind b a xs) other

-- what stands in the new list is the new number or stood before
pub put_behind-stood : (b a c : ℕ) (xs : List ℕ) → Stands c (put_behind b a xs) → (b ≡ c) ⊎ Stands c xs
put_behind-stood b a c [] here = absurd (omega (arith, here.1))
put_behind-stood b a c (x ∷ xs) here =
    elim (cases_eq x a) [
      | inl same ↦ first (Stands-split c x (b ∷ xs) (subst (λ zs. Stands c zs) (here_put b a x xs same) here))
      | inr other ↦ later (λ t. put_behind-stood b a c xs t) (Stands-split c x (put_behind b a xs) (subst (λ zs. Stands c zs) (later_put b a x xs other) here))
    ]
  where
    second : (b ≡ c) ⊎ Stands c xs → (b ≡ c) ⊎ Stands c (x ∷ xs)
    second (inl new) = inl new
    second (inr old) = inr (Stands-cons c x xs old)

    first : (x ≡ c) ⊎ Stands c (b ∷ xs) → (b ≡ c) ⊎ Stands c (x ∷ xs)
    first (inl head) = inr (Stands-head c x xs head)
    first (inr rest) = second (Stands-split c b xs rest)

    later : (Stands c (put_behind b a xs) → (b ≡ c) ⊎ Stands c xs) → (x ≡ c) ⊎ Stands c (put_behind b a xs) → (b ≡ c) ⊎ Stands c (x ∷ xs)
    later induction (inl head) = inr (Stands-head c x xs head)
    later induction (inr rest) = second (induction rest)

-- what stood before stands in the new list, and so does the new number
pub put_behind-stands : (b a c : ℕ) (xs : List ℕ) → Stands c xs → Stands c (put_behind b a xs)
put_behind-stands b a c [] here = absurd (omega (arith, here.1))
put_behind-stands b a c (x ∷ xs) here =
    elim (cases_eq x a) [
      | inl same ↦ subst (λ zs. Stands c zs) (sym (here_put b a x xs same)) (first (Stands-split c x xs here))
      | inr other ↦ subst (λ zs. Stands c zs) (sym (later_put b a x xs other)) (later (λ t. put_behind-stands b a c xs t) (Stands-split c x xs here))
    ]
  where
    first : (x ≡ c) ⊎ Stands c xs → Stands c (x ∷ b ∷ xs)
    first (inl head) = Stands-head c x (b ∷ xs) head
    first (inr rest) = Stands-cons c x (b ∷ xs) (Stands-cons c b xs rest)

    later : (Stands c xs → Stands c (put_behind b a xs)) → (x ≡ c) ⊎ Stands c xs → Stands c (x ∷ put_behind b a xs)
    later induction (inl head) = Stands-head c x (put_behind b a xs) head
    later induction (inr rest) = Stands-cons c x (put_behind b a xs) (induction rest)

pub put_behind-new : (b a : ℕ) (xs : List ℕ) → Stands a xs → Stands b (put_behind b a xs)
put_behind-new b a [] here = absurd (omega (arith, here.1))
put_behind-new b a (x ∷ xs) here =
    elim (cases_eq x a) [
      | inl same ↦ subst (λ zs. Stands b zs) (sym (here_put b a x xs same)) (Stands-cons b x (b ∷ xs) (Stands-head b b xs refl))
      | inr other ↦ subst (λ zs. Stands b zs) (sym (later_put b a x xs other)) (Stands-cons b x (put_behind b a xs) (put_behind-new b a xs (Stands-behind a x xs other here)))
    ]

pub put_behind-test : (b a c : ℕ) (xs : List ℕ) → c ≢ b → stands_in c (put_behind b a xs) ≡ stands_in c xs
put_behind-test b a c xs other =
    same_answers _ _ (λ yes. test-from_Stands c xs (old (put_behind-stood b a c xs (Stands-from_test c (put_behind b a xs) yes))))
    (λ yes. test-from_Stands c (put_behind b a xs) (put_behind-stands b a c xs (Stands-from_test c xs yes)))
  where
    old : (b ≡ c) ⊎ Stands c xs → Stands c xs
    old (inl new) = absurd (other (sym new))
    old (inr stood) = stood

pub put_behind-once : (b a : ℕ) (xs : List ℕ) → (Stands b xs → ⊥) → Once xs → Once (put_behind b a xs)
put_behind-once b a [] outside once = once
put_behind-once b a (x ∷ xs) outside once =
    elim (cases_eq x a) [
      | inl same ↦
          subst (λ zs. Once zs) (sym (here_put b a x xs same))
          (Once-make x (b ∷ xs) (λ here. twice (Stands-split x b xs here)) (Once-make b xs (λ here. outside (Stands-cons b x xs here)) (Once-tail x xs once)))
      | inr other ↦
          subst (λ zs. Once zs) (sym (later_put b a x xs other))
          (Once-make x (put_behind b a xs) (λ here. twice (put_behind-stood b a x xs here)) (put_behind-once b a xs (λ here. outside (Stands-cons b x xs here)) (Once-tail x xs once)))
    ]
  where
    twice : (b ≡ x) ⊎ Stands x xs → ⊥
    twice (inl new) = outside (Stands-head b x xs (sym new))
    twice (inr old) = Once-head x xs once old

pub put_behind-below : (b a n : ℕ) (xs : List ℕ) → b < n → ((k : ℕ) → k < length xs → slice_index xs k < n)
    → (k : ℕ) → k < length (put_behind b a xs) → slice_index (put_behind b a xs) k < n
put_behind-below b a n xs fits below k inside = by (put_behind-stood b a (slice_index (put_behind b a xs) k) xs (k, inside, refl))
  where
    by : (b ≡ slice_index (put_behind b a xs) k) ⊎ Stands (slice_index (put_behind b a xs) k) xs → slice_index (put_behind b a xs) k < n
    by (inl new) = subst (λ c. c < n) new fits
    by (inr old) = subst (λ c. c < n) old.2 (below old.0 old.1)

-- the head stays
pub put_behind-first : (b a : ℕ) (xs : List ℕ) → slice_get (put_behind b a xs) 0 ≡ slice_get xs 0
put_behind-first b a [] = refl
put_behind-first b a (x ∷ xs) =
    elim (cases_eq x a) [ inl same ↦ ap (λ zs. slice_get zs 0) (here_put b a x xs same) | inr other ↦ ap (λ zs. slice_get zs 0) (later_put b a x xs other) ]

-- what follows what in the new list
pub put_behind-next_after : (b a : ℕ) (xs : List ℕ) → Stands a xs → next_in (put_behind b a xs) a ≡ Some b
put_behind-next_after b a [] here = absurd (omega (arith, here.1))
put_behind-next_after b a (x ∷ xs) here =
    elim (cases_eq x a) [
      | inl same ↦ ap (λ zs. next_in zs a) (here_put b a x xs same) ∙ if_true x a _ _ same
      | inr other ↦ ap (λ zs. next_in zs a) (later_put b a x xs other) ∙ if_false x a _ _ other ∙ put_behind-next_after b a xs (Stands-behind a x xs other here)
    ]

pub put_behind-next_new : (b a : ℕ) (xs : List ℕ) → Stands a xs → (Stands b xs → ⊥) → next_in (put_behind b a xs) b ≡ next_in xs a
put_behind-next_new b a [] here outside = absurd (omega (arith, here.1))
put_behind-next_new b a (x ∷ xs) here outside =
    let apart : x ≢ b = λ same. outside (Stands-head b x xs same) in
    elim (cases_eq x a) [
      | inl same ↦ ap (λ zs. next_in zs b) (here_put b a x xs same) ∙ if_false x b _ _ apart ∙ if_true b b _ _ refl ∙ sym (if_true x a _ _ same)
      | inr other ↦
          ap (λ zs. next_in zs b) (later_put b a x xs other) ∙ if_false x b _ _ apart
          ∙ put_behind-next_new b a xs (Stands-behind a x xs other here) (λ there. outside (Stands-cons b x xs there)) ∙ sym (if_false x a _ _ other)
    ]

pub put_behind-next_old : (b a c : ℕ) (xs : List ℕ) → c ≢ a → c ≢ b → next_in (put_behind b a xs) c ≡ next_in xs c
put_behind-next_old b a c [] not_after not_new = refl
put_behind-next_old b a c (x ∷ xs) not_after not_new =
    elim (cases_eq x a) [
      | inl same ↦
          let apart : x ≢ c = λ equal. not_after (sym equal ∙ same) in
          ap (λ zs. next_in zs c) (here_put b a x xs same) ∙ if_false x c _ _ apart ∙ if_false b c _ _ (λ equal. not_new (sym equal)) ∙ sym (if_false x c _ _ apart)
      | inr other ↦ ap (λ zs. next_in zs c) (later_put b a x xs other) ∙ rest (put_behind-next_old b a c xs not_after not_new) (cases_eq x c)
    ]
  where
    rest : next_in (put_behind b a xs) c ≡ next_in xs c → (x ≡ c) ⊎ (x ≢ c) → next_in (x ∷ put_behind b a xs) c ≡ next_in (x ∷ xs) c
    rest induction (inl same) = if_true x c _ _ same ∙ put_behind-first b a xs ∙ sym (if_true x c _ _ same)
    rest induction (inr other) = if_false x c _ _ other ∙ induction ∙ sym (if_false x c _ _ other)

-- the last of a list with a head before it
last-cons : (x : ℕ) (ys : List ℕ) → 0 < length ys → slice_get (x ∷ ys) (length (x ∷ ys) - 1) ≡ slice_get ys (length ys - 1)
last-cons x [] some = absurd (omega (arith, some))
last-cons x (y ∷ ys) some =
    let longer : length (x ∷ y ∷ ys) - 1 ≡ suc (length ys) = omega arith in
    let shorter : length ys ≡ length (y ∷ ys) - 1 = omega arith in
    ap (slice_get (x ∷ y ∷ ys)) longer ∙ ap (slice_get (y ∷ ys)) shorter

last-here : (x b : ℕ) (xs : List ℕ) → slice_get (x ∷ b ∷ xs) (length (x ∷ b ∷ xs) - 1) ≡ last_after (slice_get (x ∷ xs) (length (x ∷ xs) - 1)) (slice_get xs 0) b
last-here x b [] = refl
last-here x b (y ∷ ys) = last-cons x (b ∷ y ∷ ys) (omega arith) ∙ last-cons b (y ∷ ys) (omega arith) ∙ sym (last-cons x (y ∷ ys) (omega arith))

pub put_behind-last : (b a : ℕ) (xs : List ℕ) → Stands a xs
    → slice_get (put_behind b a xs) (length (put_behind b a xs) - 1) ≡ last_after (slice_get xs (length xs - 1)) (next_in xs a) b
put_behind-last b a [] here = absurd (omega (arith, here.1))
put_behind-last b a (x ∷ xs) here =
    elim (cases_eq x a) [
      | inl same ↦
          ap (λ zs. slice_get zs (length zs - 1)) (here_put b a x xs same) ∙ last-here x b xs
          ∙ ap (λ next. last_after (slice_get (x ∷ xs) (length (x ∷ xs) - 1)) next b) (sym (if_true x a _ _ same))
      | inr other ↦
          let behind : Stands a xs = Stands-behind a x xs other here in
          let there : Stands a (put_behind b a xs) = put_behind-stands b a a xs behind in
          ap (λ zs. slice_get zs (length zs - 1)) (later_put b a x xs other)
          ∙ last-cons x (put_behind b a xs) (omega (arith, there.1)) ∙ put_behind-last b a xs behind
          ∙ ap (λ last. last_after last (next_in xs a) b) (sym (last-cons x xs (omega (arith, behind.1))))
          ∙ ap (λ next. last_after (slice_get (x ∷ xs) (length (x ∷ xs) - 1)) next b) (sym (if_false x a _ _ other))
    ]

not_some : {x : ℕ} → ◌≡◌ {A = Option ℕ} None (Some x) → ⊥
not_some same = cc

-- the last of a list stands in it
pub Stands-last : (a : ℕ) (xs : List ℕ) → slice_get xs (length xs - 1) ≡ Some a → Stands a xs
Stands-last a xs last = (length xs - 1, slice_get_within xs (length xs - 1) a last, get_or_from_slice_get xs (length xs - 1) a 0 last)

-- behind the last is at the end
pub put_behind-end : (b a : ℕ) (xs : List ℕ) → Once xs → slice_get xs (length xs - 1) ≡ Some a → put_behind b a xs ≡ xs ++ b ∷ []
put_behind-end b a [] once last = absurd (not_some last)
put_behind-end b a (x ∷ []) once last = here_put b a x [] (get_or_from_slice_get (x ∷ []) 0 a 0 last)
put_behind-end b a (x ∷ y ∷ ys) once last =
    let behind : slice_get (y ∷ ys) (length (y ∷ ys) - 1) ≡ Some a = sym (last-cons x (y ∷ ys) (omega arith)) ∙ last in
    let other : x ≢ a = λ same. Once-head x (y ∷ ys) once (subst (λ c. Stands c (y ∷ ys)) (sym same) (Stands-last a (y ∷ ys) behind)) in
    later_put b a x (y ∷ ys) other ∙ ap (λ zs. x ∷ zs) (put_behind-end b a (y ∷ ys) (Once-tail x (y ∷ ys) once) behind)

-- an entry of a list is one of the list
pub get-below : (n k : ℕ) (xs : List ℕ) → ((j : ℕ) → j < length xs → slice_index xs j < n) → IfSome (slice_get xs k) (λ y. y < n)
get-below n k [] below = tt
get-below n zero (x ∷ xs) below = below 0 (omega arith)
get-below n (suc k) (x ∷ xs) below = get-below n k xs (λ j inside. below (suc j) (omega (arith, inside)))

-- what follows a number is one of the list
pub next_in-below : (n : ℕ) (xs : List ℕ) (x : ℕ) → ((k : ℕ) → k < length xs → slice_index xs k < n) → IfSome (next_in xs x) (λ y. y < n)
next_in-below n [] x below = tt
next_in-below n (y ∷ ys) x below =
    elim (cases_eq y x) [
      | inl same ↦ subst (λ o. IfSome o (λ z. z < n)) (sym (if_true y x _ _ same)) (head ys (λ k inside. below (suc k) (omega (arith, inside))))
      | inr other ↦ subst (λ o. IfSome o (λ z. z < n)) (sym (if_false y x _ _ other)) (next_in-below n ys x (λ k inside. below (suc k) (omega (arith, inside))))
    ]
  where
    head : (zs : List ℕ) → ((k : ℕ) → k < length zs → slice_index zs k < n) → IfSome (slice_get zs 0) (λ z. z < n)
    head [] under = tt
    head (z ∷ zs) under = under 0 (omega arith)
