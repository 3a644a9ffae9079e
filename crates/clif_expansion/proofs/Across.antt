-- The reading behind code in blocks of its own: all that it answers was generated.
use Rattle.std.proofs.Common.{◌≡◌, ◌<◌, ◌≤◌, ◌+◌, ◌⊎◌, inl, inr, ℕ, Bool, sym, ◌∙◌, ap, arith}
use Rattle.std.specs.Prelude.{if◌then◌else◌, nat_lt}
use Rattle.std.proofs.lemmas.Bool.{cases_lt, le-ltb, lt-ltb}
use Rattle.clif_meaning.specs.Name.{Name}
use Rattle.clif_expansion.specs.Emission.{reading_across}
use Rattle.clif_expansion.specs.Reading.{Generated, IsOneToOne, IsReadAs, Reading, ScriptName}
use Rattle.clif_expansion.specs.Walk.{IsGenerated}

module _ (reading : Reading) (place count : ℕ) where
  abbrev across : Reading
  across = reading_across reading place count

  pub across_before : (x : Name) → x.place < place → across x ≡ reading x
  across_before x below = ap (λ (c : Bool). if c then reading x else (if nat_lt x.place (place + count) then Generated else reading x)) (lt-ltb x.place place below)

  pub across_inside : (x : Name) → place ≤ x.place → x.place < place + count → across x ≡ Generated
  across_inside x from below =
      ap (λ (c : Bool). if c then reading x else (if nat_lt x.place (place + count) then Generated else reading x)) (le-ltb x.place place from)
      ∙ ap (λ (c : Bool). if c then Generated else reading x) (lt-ltb x.place (place + count) below)

  pub across_behind : (x : Name) → place + count ≤ x.place → across x ≡ reading x
  across_behind x behind =
      ap (λ (c : Bool). if c then reading x else (if nat_lt x.place (place + count) then Generated else reading x)) (le-ltb x.place place (omega (arith, behind)))
      ∙ ap (λ (c : Bool). if c then Generated else reading x) (le-ltb x.place (place + count) behind)

  -- what is read was read before
  pub across_read : (x name : Name) → IsReadAs across x name → IsReadAs reading x name
  across_read x name is = by (cases_lt x.place place) (cases_lt x.place (place + count))
    where
      by : (x.place < place) ⊎ (place ≤ x.place) → (x.place < place + count) ⊎ (place + count ≤ x.place) → IsReadAs reading x name
      by (inl below) other = sym (across_before x below) ∙ is
      by (inr from) (inl inside) = let apart : Generated ≡ ScriptName name = sym (across_inside x from inside) ∙ is in cc
      by (inr from) (inr behind) = sym (across_behind x behind) ∙ is

  -- what is generated is an answer of the code, or was generated before
  pub across_generated : (x : Name) → IsGenerated across x → ((place ≤ x.place) × (x.place < place + count)) ⊎ IsGenerated reading x
  across_generated x is = by (cases_lt x.place place) (cases_lt x.place (place + count))
    where
      by : (x.place < place) ⊎ (place ≤ x.place) → (x.place < place + count) ⊎ (place + count ≤ x.place) → ((place ≤ x.place) × (x.place < place + count)) ⊎ IsGenerated reading x
      by (inl below) other = inr (sym (across_before x below) ∙ is)
      by (inr from) (inl inside) = inl (from, inside)
      by (inr from) (inr behind) = inr (sym (across_behind x behind) ∙ is)

  pub across_apart : IsOneToOne reading → IsOneToOne across
  across_apart one_to_one x y name first second = one_to_one x y name (across_read x name first) (across_read y name second)
