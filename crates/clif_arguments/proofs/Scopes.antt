-- What a scope says of names, one given.
use Rattle.std.proofs.Common.{◌≡◌, ℕ, List, Some, refl, sym, ◌∙◌, Bool, true, false, Bor, Ordering}
use Rattle.std.specs.BTreeMap.{BTreeMap, get_by, UpdatesBy}
use Rattle.std.specs.Cmp.Lexicographic.{slice_cmp}
use Rattle.std.specs.Ordering.{nat_cmp}
use Rattle.std.proofs.lemmas.Map.Text.{is_eq-slice_cmp}
use Rattle.std.proofs.lemmas.Slice.Eq.{bytes_eq-Decides}
use Rattle.clif_calls.specs.declared.call.Name.{Name}
use Rattle.clif_arguments.specs.Given.{GivesName}

abbrev pub by_text : Bor (List ℕ) → Bor (List ℕ) → Ordering
by_text x y = slice_cmp nat_cmp x.now y.now

-- texts that differ compare as different
not_true : (b : Bool) → (b ≡ true → ⊥) → b ≡ false
not_true true differs = absurd (differs refl)
not_true false differs = refl

pub gives_name : (word : Bor (List ℕ)) (name : Name) (old new : BTreeMap (Bor (List ℕ)) Name) → UpdatesBy by_text (by_text word) old new (Some name) → GivesName word.now name (λ text. get_by (λ key. slice_cmp nat_cmp text key.now) old) (λ text. get_by (λ key. slice_cmp nat_cmp text key.now) new)
gives_name word name old new updates = record {
  here = updates.1;
  elsewhere = λ other differs.
      let key : Bor (List ℕ) = record { ref_ptr = (0, 0); now = other } in
      updates.2 key (is_eq-slice_cmp word.now other ∙ not_true _ (λ same. differs (sym ((bytes_eq-Decides word.now other).0 same))));
}
