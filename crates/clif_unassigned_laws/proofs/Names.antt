-- The test for equal names.
use Rattle.std.proofs.Common.{◌≡◌, true, refl, ap₂}
use Rattle.std.specs.Prelude.{◌==◌}
use Rattle.std.proofs.lemmas.Bool.{and_from, and_parts, eq-eqb, eqb-true}
use Rattle.clif_meaning.specs.Name.{Name, answer_of, same_name}

pub names_equal : (a b : Name) → same_name a b ≡ true → a ≡ b
names_equal a b same =
    let both = and_parts (a.place == b.place) (a.index == b.index) same in
    ap₂ answer_of (eqb-true a.place b.place both.0) (eqb-true a.index b.index both.1)

pub same_itself : (name : Name) → same_name name name ≡ true
same_itself name =
    and_from (name.place == name.place) (name.index == name.index) (eq-eqb name.place name.place refl) (eq-eqb name.index name.index refl)
