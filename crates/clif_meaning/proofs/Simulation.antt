-- Same meaning from runs of which one keeps up with the other.
use Rattle.std.proofs.Common.{◌≡◌, ◌+◌, ◌<◌, ◌≤◌, ℕ, zero, suc, sym, ◌∙◌, arith, ◌⊎◌, inl, inr, add-one}
use Rattle.clif_meaning.specs.SameMeaning.{Behaviour, ShowsAllOf, SameMeaning, KeepsUp}

pub symmetric : (a b : Behaviour) → SameMeaning a b → SameMeaning b a
symmetric a b same = record { there = same.back; back = same.there }

pub shows_all_through : (a b c : Behaviour) → ShowsAllOf a b → ShowsAllOf b c → ShowsAllOf a c
shows_all_through a b c first second n =
    let middle = first n in
    let last = second middle.0 in
    (last.0, middle.1 ∙ last.1)

pub transitive : (a b c : Behaviour) → SameMeaning a b → SameMeaning b c → SameMeaning a c
transitive a b c first second = record {
  there = shows_all_through a b c first.there second.there;
  back = shows_all_through c b a second.back first.back;
}

le_or_le : (a b : ℕ) → (a ≤ b) ⊎ (b ≤ a)
le_or_le a b = grind arith

module _ (left right : Behaviour) (position measure : ℕ → ℕ) (keeps : KeepsUp left right position measure) where
  -- the position rises sooner or later
  rises : (fuel n : ℕ) → measure n < fuel → (m : ℕ) × (position n < position m)
  rises zero n h = absurd (omega arith)
  rises (suc fuel) n h = by (keeps.gets_on n) (rises fuel (n + 1))
    where
      by : (position n < position (n + 1)) ⊎ (measure (n + 1) < measure n)
          → (measure (n + 1) < fuel → (m : ℕ) × (position (n + 1) < position m)) → (m : ℕ) × (position n < position m)
      by (inl risen) later = (n + 1, risen)
      by (inr fallen) later =
          let on = keeps.goes_on n in
          let next = later (omega arith) in
          (next.0, omega (arith, next.1))

  -- each position is passed sooner or later
  passes : (j : ℕ) → (n : ℕ) × (j ≤ position n)
  passes zero = (0, omega arith)
  passes (suc j) =
      let before = passes j in
      let more = rises (suc (measure before.0)) before.0 (omega arith) in
      (more.0, omega (arith, before.1, more.1))

  -- between which positions it lies
  lies : (n j : ℕ) → j ≤ position n → position 0 ≤ j → (m : ℕ) × (position m ≤ j) × (j ≤ position (m + 1))
  lies zero j below above = (0, above, omega (arith, keeps.goes_on 0))
  lies (suc n) j below above = by (le_or_le (position n) j) (lies n j)
    where
      by : (position n ≤ j) ⊎ (j ≤ position n) → (j ≤ position n → position 0 ≤ j → (m : ℕ) × (position m ≤ j) × (j ≤ position (m + 1)))
          → (m : ℕ) × (position m ≤ j) × (j ≤ position (m + 1))
      by (inl passed) earlier = (n, passed, rw add-one below)
      by (inr ahead) earlier = earlier ahead above

  shown_behind : (j : ℕ) → position 0 ≤ j → (m : ℕ) × (right j ≡ left m)
  shown_behind j above =
      let far = passes j in
      let near = lies far.0 j far.1 above in
      by near.0 (keeps.between near.0 j near.1 near.2)
    where
      by : (m : ℕ) → (right j ≡ right (position m)) ⊎ (right j ≡ right (position (m + 1))) → (m : ℕ) × (right j ≡ left m)
      by m (inl before) = (m, before ∙ sym (keeps.shows m))
      by m (inr after) = (m + 1, after ∙ sym (keeps.shows (m + 1)))

  shown_back : ShowsAllOf right left
  shown_back j = by (le_or_le j (position 0))
    where
      by : (j ≤ position 0) ⊎ (position 0 ≤ j) → (m : ℕ) × (right j ≡ left m)
      by (inl early) = (0, keeps.at_first j early)
      by (inr late) = shown_behind j late

  pub same_meaning : SameMeaning left right
  same_meaning = record { there = λ n. (position n, keeps.shows n); back = shown_back }
