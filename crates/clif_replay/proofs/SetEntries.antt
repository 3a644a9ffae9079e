-- The entries of a switch are set one behind the other.
use Rattle.std.proofs.Common.{◌≡◌, ◌<◌, ◌+◌, ℕ, zero, suc, arith, List, [], ◌∷◌, ◌++◌, drop, get_or, length, map, take, refl, ap, ap₂, sym, ◌∙◌}
use Rattle.std.specs.Prelude.{◌||◌, Bool, true, false, Option, Some, None, is_some, unwrap_or}
use Rattle.std.specs.List.{list_all}
use Rattle.std.specs.Cmp.{nat_cmp_total}
use Rattle.std.specs.FinMap as finite
use Rattle.std.specs.FinMap.{from_entries_push, get-from_entries, nat_cmp-IsAntisymmetric}
use Rattle.std.specs.FinMap.Entries.{find}
use Rattle.std.specs.Ordering.{nat_cmp}
use Rattle.std.proofs.lemmas.Bool.{and_parts, false≢true}
use Rattle.std.proofs.lemmas.List.{map-append, take-append-drop, take_more}
use Rattle.clif_ranges.specs.Cases.{CaseMap}
use Rattle.clif_calls.specs.declared.switch.SwitchEntry.{SwitchEntry}
use Rattle.clif_expansion.specs.Keys.{has_key_twice, is_key}
use Rattle.clif_resolution.specs.Answers.{block_of}
use Rattle.clif_resolution.specs.declared.answers.Answer.{Answer}
use Rattle.clif_replay.specs.Cases.{are_twice, cases_at, number_at, set_entries}
use Rattle.clif_replay.proofs.SwitchCases.{found-key, keys_in, twice-front, twice-push}

abbrev case-at : List Answer → SwitchEntry → ℕ × ℕ
case-at answers entry = (entry.key, number_at answers entry.block)

abbrev keys : List SwitchEntry → List ℕ
keys entries = keys_in (set_entries entries)

numbered-keys : (answers : List Answer) (entries : List SwitchEntry) → keys_in (map (case-at answers) entries) ≡ keys entries
numbered-keys answers [] = refl
numbered-keys answers (entry ∷ entries) = ap (λ (rest : List ℕ). entry.key ∷ rest) (numbered-keys answers entries)

keys-more : (entries rest : List SwitchEntry) → keys (entries ++ rest) ≡ keys entries ++ keys rest
keys-more [] rest = refl
keys-more (entry ∷ entries) rest = ap (λ (more : List ℕ). entry.key ∷ more) (keys-more entries rest)

-- a key has a case where it is one of the keys
has-case : (answers : List Answer) (entries : List SwitchEntry) (key : ℕ) → finite.contains_key (cases_at answers entries) key ≡ is_key (keys entries) key
has-case answers entries key =
    ap is_some (get-from_entries nat_cmp_total (map (case-at answers) entries) key) ∙ found-key (map (case-at answers) entries) key
    ∙ ap (λ (list : List ℕ). is_key list key) (numbered-keys answers entries)

-- with one entry more
twice-more : (entries : List SwitchEntry) (entry : SwitchEntry) → are_twice (entries ++ entry ∷ []) ≡ (are_twice entries || is_key (keys entries) entry.key)
twice-more entries entry = ap has_key_twice (keys-more entries (entry ∷ [])) ∙ twice-push (keys entries) entry.key

none-found : {X : Type 0} (o : Option X) → is_some o ≡ false → o ≡ None
none-found None is = refl
none-found (Some x) is = absurd (false≢true (sym is))

cases-more : (answers : List Answer) (entries : List SwitchEntry) (entry : SwitchEntry) → is_key (keys entries) entry.key ≡ false
    → cases_at answers (entries ++ entry ∷ []) ≡ finite.insert (cases_at answers entries) entry.key (number_at answers entry.block)
cases-more answers entries entry fresh =
    ap (λ (list : List (ℕ × ℕ)). finite.from_entries {R = nat_cmp} list) (map-append (case-at answers) entries (entry ∷ []))
    ∙ from_entries_push nat_cmp_total nat_cmp-IsAntisymmetric (map (case-at answers) entries) entry.key (number_at answers entry.block)
    (none-found (find nat_cmp entry.key (map (case-at answers) entries))
    (found-key (map (case-at answers) entries) entry.key ∙ ap (λ (list : List ℕ). is_key list entry.key) (numbered-keys answers entries) ∙ fresh))

module _ (answers : List Answer) (entries : List SwitchEntry) (k : ℕ) (none : SwitchEntry) (inside : k < length entries)
    (old : CaseMap) (cases : old ≡ cases_at answers (take k entries)) where
  abbrev entry : SwitchEntry
  entry = get_or entries k none

  front : take (k + 1) entries ≡ take k entries ++ entry ∷ []
  front = take_more entries k none inside

  key-same : finite.contains_key old entry.key ≡ is_key (keys (take k entries)) entry.key
  key-same = ap (λ (m : CaseMap). finite.contains_key m entry.key) cases ∙ has-case answers (take k entries) entry.key

  pub set-more : (block : ℕ) (new : CaseMap) → are_twice (take k entries) ≡ false → block_of answers entry.block ≡ Some block → finite.contains_key old entry.key ≡ false
      → new ≡ finite.insert old entry.key block → (new ≡ cases_at answers (take (k + 1) entries)) × (are_twice (take (k + 1) entries) ≡ false)
  set-more block new once named fresh inserted = (
    inserted
        ∙ ap₂ (λ (m : CaseMap) (number : ℕ). finite.insert m entry.key number) cases (sym (ap (λ (o : Option ℕ). unwrap_or o 0) named))
        ∙ sym (cases-more answers (take k entries) entry (sym key-same ∙ fresh)) ∙ ap (cases_at answers) (sym front),
    ap are_twice front ∙ twice-more (take k entries) entry ∙ ap₂ (λ (a b : Bool). a || b) once (sym key-same ∙ fresh),
  )

  pub set-twice : finite.contains_key old entry.key ≡ true → are_twice entries ≡ true
  set-twice there =
      ap are_twice (sym (take-append-drop (k + 1) entries)) ∙ ap has_key_twice (keys-more (take (k + 1) entries) (drop (k + 1) entries))
      ∙ twice-front (keys (take (k + 1) entries)) (keys (drop (k + 1) entries))
      (ap are_twice front ∙ twice-more (take k entries) entry ∙ by (are_twice (take k entries)) (sym key-same ∙ there))
    where
      by : (a : Bool) → is_key (keys (take k entries)) entry.key ≡ true → (a || is_key (keys (take k entries)) entry.key) ≡ true
      by true here = refl
      by false here = here

-- a test that holds of all entries holds of each
pub all-at : {X : Type 0} (f : X → Bool) (xs : List X) (k : ℕ) (d : X) → list_all f xs ≡ true → k < length xs → f (get_or xs k d) ≡ true
all-at f [] k d all inside = let no_way : ⊥ = omega (arith, inside) in absurd no_way
all-at f (x ∷ xs) zero d all inside = (and_parts (f x) (list_all f xs) all).0
all-at f (x ∷ xs) (suc k) d all inside = all-at f xs k d (and_parts (f x) (list_all f xs) all).1 (omega (arith, inside))
