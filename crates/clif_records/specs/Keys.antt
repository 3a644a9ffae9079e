-- How the key of a page, a variable and the page's number, is hashed. Source: own.
use Rattle.std.specs.Prelude.{ℕ, ◌≡◌, ◌+◌, ◌*◌, ◌^◌, ◌==◌, true}
use Rattle.std.specs.Cmp.{first_so, second_so}
use Rattle.std.specs.Hash as fed
use Rattle.std.specs.Hash.{HashWrites}
use Rattle.std.proofs.lemmas.Bool.{eqb-true}
use Rattle.clif_records.specs.Pages.{same_key}

-- as one number
abbrev pub key_fed : ℕ × ℕ → HashWrites
key_fed k = fed.u64 (k.0 * 2 ^ 32 + k.1)

-- equal keys are hashed alike
pub fed_alike : (p q : ℕ × ℕ) → same_key p q ≡ true → key_fed p ≡ key_fed q
fed_alike p q same i =
    key_fed (eqb-true p.0 q.0 (first_so (p.0 == q.0) (p.1 == q.1) same) i, eqb-true p.1 q.1 (second_so (p.0 == q.0) (p.1 == q.1) same) i)
