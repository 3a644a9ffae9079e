-- The places of calls among the calls that don't seal.
use Rattle.std.proofs.Common.{◌≡◌, ◌+◌, ◌<◌, ◌⊎◌, ℕ, zero, suc, Bool, true, false, cond, not, [], ◌∷◌, length, take, refl, sym, ◌∙◌, ap, arith, inl, inr}
use Rattle.std.specs.Prelude.{slice_get, if◌then◌else◌}
use Rattle.clif_meaning.specs.Name.{Name, answer_of}
use Rattle.clif_meaning.specs.Request.{Request, Script}
use Rattle.clif_renaming.specs.Renaming.{KeepsApart}
use Rattle.clif_renaming.specs.Sealing.{is_left, is_sealing, name_left, place_left, without_seals}

-- the call at this place is left, and how many are before it
abbrev pub left_at : Script → ℕ → Bool
left_at script place = is_left (slice_get script place)

abbrev pub rank : Script → ℕ → ℕ
rank script place = length (without_seals (take place script))

-- one more call in front
pub rank_next : (request : Request) (script : Script) (place : ℕ) (c : Bool) → is_sealing request ≡ c → rank (request ∷ script) (suc place) ≡ (if c then rank script place else suc (rank script place))
rank_next request script place c is =
    ap (λ (test : Bool). length (cond (not test) (request ∷ without_seals (take place script)) (without_seals (take place script)))) is ∙ by c
  where
    by : (c : Bool) → length (cond (not c) (request ∷ without_seals (take place script)) (without_seals (take place script))) ≡ (if c then rank script place else suc (rank script place))
    by true = refl
    by false = refl

not_false : (c : Bool) → not c ≡ true → c ≡ false
not_false true is = cc
not_false false is = refl

rank_below : (script : Script) (place : ℕ) → left_at script place ≡ true → rank script place < length script
rank_below [] place left = let none : ⊥ = cc in absurd none
rank_below (request ∷ script) zero left = omega arith
rank_below (request ∷ script) (suc place) left = by (is_sealing request) refl (rank_below script place left)
  where
    by : (c : Bool) → is_sealing request ≡ c → rank script place < length script → rank (request ∷ script) (suc place) < length (request ∷ script)
    by true is below = let next = rank_next request script place true is in omega (arith, next, below)
    by false is below = let next = rank_next request script place false is in omega (arith, next, below)

rank_rises : (script : Script) (p q : ℕ) → left_at script p ≡ true → p < q → rank script p < rank script q
rank_rises [] p q left before = let none : ⊥ = cc in absurd none
rank_rises (request ∷ script) p zero left before = absurd (omega (arith, before))
rank_rises (request ∷ script) zero (suc q) left before =
    let next = rank_next request script q false (not_false (is_sealing request) left) in omega (arith, next)
rank_rises (request ∷ script) (suc p) (suc q) left before = by (is_sealing request) refl (rank_rises script p q left (omega (arith, before)))
  where
    by : (c : Bool) → is_sealing request ≡ c → rank script p < rank script q → rank (request ∷ script) (suc p) < rank (request ∷ script) (suc q)
    by true is rises = let first = rank_next request script p true is in let second = rank_next request script q true is in omega (arith, first, second, rises)
    by false is rises = let first = rank_next request script p false is in let second = rank_next request script q false is in omega (arith, first, second, rises)

-- the place of a call that is left, and of one that isn't
pub place_of_left : (script : Script) (place : ℕ) → left_at script place ≡ true → place_left script place ≡ rank script place
place_of_left script place left = ap (λ (test : Bool). if test then rank script place else length script + place) left

pub place_of_sealing : (script : Script) (place : ℕ) → left_at script place ≡ false → place_left script place ≡ length script + place
place_of_sealing script place sealing = ap (λ (test : Bool). if test then rank script place else length script + place) sealing

three_ways : (p q : ℕ) → (p < q) ⊎ (q < p) ⊎ (p ≡ q)
three_ways p q = grind arith

places_apart : (script : Script) (p q : ℕ) → place_left script p ≡ place_left script q → p ≡ q
places_apart script p q same = by (left_at script p) refl (left_at script q) refl
  where
    both : left_at script p ≡ true → left_at script q ≡ true → rank script p ≡ rank script q → (p < q) ⊎ (q < p) ⊎ (p ≡ q) → p ≡ q
    both here there ranks (inl before) = absurd (omega (arith, rank_rises script p q here before, ranks))
    both here there ranks (inr (inl behind)) = absurd (omega (arith, rank_rises script q p there behind, ranks))
    both here there ranks (inr (inr alike)) = alike

    by : (c : Bool) → left_at script p ≡ c → (d : Bool) → left_at script q ≡ d → p ≡ q
    by true here true there = both here there (sym (place_of_left script p here) ∙ same ∙ place_of_left script q there) (three_ways p q)
    by true here false there =
        absurd (omega (arith, rank_below script p here, sym (place_of_left script p here) ∙ same ∙ place_of_sealing script q there))
    by false here true there =
        absurd (omega (arith, rank_below script q there, sym (place_of_left script q there) ∙ sym same ∙ place_of_sealing script p here))
    by false here false there = omega (arith, sym (place_of_sealing script p here) ∙ same ∙ place_of_sealing script q there)

pub names_apart : (script : Script) → KeepsApart (name_left script)
names_apart script a b same =
    let places = places_apart script a.place b.place (ap (λ (n : Name). n.place) same) in
    let indices : a.index ≡ b.index = ap (λ (n : Name). n.index) same in
    λ i. answer_of (places i) (indices i)

-- From a place of the one script and a place of the other one on, calls that are left are renamed to their place.
abbrev pub Follows : (Name → Name) → Script → ℕ → ℕ → Type 0
Follows rename script p p' = (k index : ℕ) → left_at script k ≡ true → rename (answer_of (p + k) index) ≡ answer_of (p' + rank script k) index

pub follows_at_first : (script : Script) → Follows (name_left script) script 0 0
follows_at_first script k index left =
    ap (λ (n : ℕ). name_left script (answer_of n index)) (no_more k) ∙ ap (λ (n : ℕ). answer_of n index) (place_of_left script k left ∙ sym (no_more (rank script k)))
  where
    no_more : (n : ℕ) → 0 + n ≡ n
    no_more n = omega arith

module _ (rename : Name → Name) (request : Request) (script : Script) (p p' : ℕ) (follows : Follows rename (request ∷ script) p p') where
  pub follows_here : is_sealing request ≡ false → (index : ℕ) → rename (answer_of p index) ≡ answer_of p' index
  follows_here stays index =
      ap (λ (n : ℕ). rename (answer_of n index)) (as_far p) ∙ follows 0 index (ap not stays) ∙ ap (λ (n : ℕ). answer_of n index) (sym (as_far p'))
    where
      as_far : (n : ℕ) → n ≡ n + 0
      as_far n = omega arith

  pub follows_seal : is_sealing request ≡ true → Follows rename script (suc p) p'
  follows_seal seals k index left =
      ap (λ (n : ℕ). rename (answer_of n index)) (one_on p k) ∙ follows (suc k) index left
      ∙ ap (λ (n : ℕ). answer_of (p' + n) index) (rank_next request script k true seals)
    where
      one_on : (p k : ℕ) → suc p + k ≡ p + suc k
      one_on p k = omega arith

  pub follows_call : is_sealing request ≡ false → Follows rename script (suc p) (suc p')
  follows_call stays k index left =
      ap (λ (n : ℕ). rename (answer_of n index)) (one_on p k) ∙ follows (suc k) index left
      ∙ ap (λ (n : ℕ). answer_of n index) (ap (λ (n : ℕ). p' + n) (rank_next request script k false stays) ∙ sym (one_on p' (rank script k)))
    where
      one_on : (p k : ℕ) → suc p + k ≡ p + suc k
      one_on p k = omega arith
