-- Entries in another order are one finite map, so the switch is the same.
use Rattle.std.proofs.Common.{◌≡◌, ◌⊎◌, inl, inr, ℕ, List, [], ◌∷◌, ◌++◌, cond, refl, ap, sym, ◌∙◌, subst}
use Rattle.std.specs.Prelude.{◌||◌, Bool, true, false, Option, Some, None, is_some, map, Contains, if◌then◌else◌}
use Rattle.std.specs.Cmp.{nat_cmp_total, tied_itself}
use Rattle.std.specs.FinMap as finite
use Rattle.std.specs.FinMap.{get-from_entries, nat_cmp-IsAntisymmetric, same_map}
use Rattle.std.specs.FinMap.Entries.{find}
use Rattle.std.specs.Global.{Vec}
use Rattle.std.specs.Ordering.{eq_by_cmp, is_eq, nat_cmp}
use Rattle.std.specs.declared.cmp.Ordering.{Ordering}
use Rattle.std.specs.declared.cmp.Ordering.TheVariants.{Less, Equal, Greater}
use Rattle.std.proofs.lemmas.Bool.{false≢true}
use Rattle.std.proofs.lemmas.Option.{none-some, same_Some}
use Rattle.clif_types.specs.Signature.{SignatureShape}
use Rattle.clif_types.specs.declared.target.TargetFrontendConfig.{TargetFrontendConfig}
use Rattle.clif_meaning.specs.Ledger.{Ledger, empty_ledger, or_invalid, type_of}
use Rattle.clif_calls.specs.declared.call.Call.{Call}
use Rattle.clif_calls.specs.declared.call.Call.TheVariants as call
use Rattle.clif_calls.specs.declared.call.Name.{Name}
use Rattle.clif_calls.specs.declared.switch.SwitchEntry.{SwitchEntry}
use Rattle.clif_expansion.specs.CallsVerdict.{CallAttempt}
use Rattle.clif_expansion.specs.Keys.{has_key_twice, is_key}
use Rattle.clif_expansion.specs.ScriptCall.{Emit, ScriptCall, ledger_with_call}
use Rattle.clif_expansion.specs.Switching.{switching}
use Rattle.clif_expansion.proofs.Placing.{contained_first, contained_in, contained_later, none_contained}
use Rattle.clif_switch_calls.specs.SwitchCalls.{bare_edge}
use Rattle.clif_replay.specs.Cases.{are_twice, cases_of, set_entries, switch_under}
use Rattle.clif_replay.specs.Requests.{attempt_of, attempts_from, call_of, calls_from, name_of}
use Rattle.clif_replay.proofs.SwitchCases.{found-key, keys_in}
use Rattle.clif_sealing_laws.specs.SwitchOrder.{HaveSameEntries, SwitchOrderIsFree}

-- FINDING -----------------------------------------------------------------------------------------------------------------

is-equal : (o : Ordering) → is_eq o ≡ true → o ≡ Equal
is-equal Less is = absurd (false≢true is)
is-equal Equal is = refl
is-equal Greater is = absurd (false≢true is)

abbrev entry-of : ℕ → Name → SwitchEntry
entry-of key block = record { key = key; block = block }

-- what is found is an entry
found-entry : (entries : List SwitchEntry) (key : ℕ) (block : Name) → find nat_cmp key (set_entries entries) ≡ Some block → Contains entries (entry-of key block)
found-entry [] key block is = absurd (none-some block is)
found-entry (entry ∷ entries) key block is = by (eq_by_cmp nat_cmp key entry.key) refl is (found-entry entries key block)
  where
    by : (here : Bool) → eq_by_cmp nat_cmp key entry.key ≡ here → cond here (Some entry.block) (find nat_cmp key (set_entries entries)) ≡ Some block
        → (find nat_cmp key (set_entries entries) ≡ Some block → Contains entries (entry-of key block)) → Contains (entry ∷ entries) (entry-of key block)
    by true tied is later =
        let same : key ≡ entry.key = nat_cmp-IsAntisymmetric key entry.key (is-equal (nat_cmp key entry.key) tied) in
        let named : entry.block ≡ block = same_Some entry.block block is in
        subst (Contains (entry ∷ entries)) (λ i. entry-of (sym same i) (named i)) (contained_first entry entries)
    by false tied is later = contained_later entry entries (entry-of key block) (later is)

once-parts : (a b : Bool) → (a || b) ≡ false → (a ≡ false) × (b ≡ false)
once-parts true b is = absurd (false≢true (sym is))
once-parts false b is = (refl, is)

-- and an entry is found, where no key comes twice
entry-found : (entries : List SwitchEntry) (key : ℕ) (block : Name) → are_twice entries ≡ false → Contains entries (entry-of key block) → find nat_cmp key (set_entries entries) ≡ Some block
entry-found [] key block once here = absurd (none_contained (entry-of key block) here)
entry-found (entry ∷ entries) key block once here =
    let parts = once-parts (is_key (keys_in (set_entries entries)) entry.key) (has_key_twice (keys_in (set_entries entries))) once in
    by (contained_in entry entries (entry-of key block) here) parts.0 (λ further. entry-found entries key block parts.1 further)
  where
    later-found : (tied : Bool) → eq_by_cmp nat_cmp key entry.key ≡ tied → is_key (keys_in (set_entries entries)) entry.key ≡ false → find nat_cmp key (set_entries entries) ≡ Some block
        → cond tied (Some entry.block) (find nat_cmp key (set_entries entries)) ≡ Some block
    later-found true tied apart found =
        let same : key ≡ entry.key = nat_cmp-IsAntisymmetric key entry.key (is-equal (nat_cmp key entry.key) tied) in
        let there : is_key (keys_in (set_entries entries)) key ≡ true = sym (found-key (set_entries entries) key) ∙ ap is_some found in
        absurd (false≢true (sym apart ∙ subst (λ (k : ℕ). is_key (keys_in (set_entries entries)) k ≡ true) same there))
    later-found false tied apart found = found

    by : (entry ≡ entry-of key block) ⊎ Contains entries (entry-of key block) → is_key (keys_in (set_entries entries)) entry.key ≡ false
        → (Contains entries (entry-of key block) → find nat_cmp key (set_entries entries) ≡ Some block)
        → cond (eq_by_cmp nat_cmp key entry.key) (Some entry.block) (find nat_cmp key (set_entries entries)) ≡ Some block
    by (inl same) apart later =
        ap (λ (e : SwitchEntry). cond (eq_by_cmp nat_cmp key e.key) (Some e.block) (find nat_cmp key (set_entries entries))) same
        ∙ ap (λ (o : Ordering). cond (is_eq o) (Some block) (find nat_cmp key (set_entries entries))) (tied_itself nat_cmp_total key)
    by (inr further) apart later = later-found (eq_by_cmp nat_cmp key entry.key) refl apart (later further)

module _ (first second : List SwitchEntry) (same : HaveSameEntries first second) where
  found-same : (key : ℕ) → find nat_cmp key (set_entries first) ≡ find nat_cmp key (set_entries second)
  found-same key = by (find nat_cmp key (set_entries first)) refl (find nat_cmp key (set_entries second)) refl
    where
      by : (o : Option Name) → find nat_cmp key (set_entries first) ≡ o → (p : Option Name) → find nat_cmp key (set_entries second) ≡ p → o ≡ p
      by (Some block) is p other =
          sym (entry-found second key block same.other_once ((same.same (entry-of key block)).0 (found-entry first key block is))) ∙ other
      by None is (Some block) other =
          sym is ∙ entry-found first key block same.once ((same.same (entry-of key block)).1 (found-entry second key block other))
      by None is None other = refl

  maps-same : finite.from_entries {R = nat_cmp} (set_entries first) ≡ finite.from_entries {R = nat_cmp} (set_entries second)
  maps-same = same_map nat_cmp_total nat_cmp-IsAntisymmetric _ _
      (λ key. get-from_entries nat_cmp_total (set_entries first) key ∙ found-same key ∙ sym (get-from_entries nat_cmp_total (set_entries second) key))

  cases-same : cases_of first ≡ cases_of second
  cases-same =
      ap (λ (c : Bool). if c then set_entries first else finite.entries (finite.from_entries {R = nat_cmp} (set_entries first))) same.once
      ∙ ap finite.entries maps-same
      ∙ sym (ap (λ (c : Bool). if c then set_entries second else finite.entries (finite.from_entries {R = nat_cmp} (set_entries second))) same.other_once)

  switch-same : (ledger : Ledger) (value otherwise : Name) → switch_under name_of ledger first value otherwise ≡ switch_under name_of ledger second value otherwise
  switch-same ledger value otherwise =
      ap (λ (cases : List (ℕ × Name)).
      switching (map (λ case. case.0) cases) (or_invalid (type_of ledger (name_of value))) (name_of value)
      (map (λ case. bare_edge (name_of case.1)) cases ++ bare_edge (name_of otherwise) ∷ [])) cases-same

-- SCRIPTS -----------------------------------------------------------------------------------------------------------------

module _ (config : TargetFrontendConfig) (declared : SignatureShape) (after : List Call) (first second : Vec SwitchEntry) (value otherwise : Name) (same : HaveSameEntries first.items second.items) where
  calls-same : (before : List Call) (ledger : Ledger)
      → calls_from config declared ledger (before ++ call.Switch first value otherwise ∷ after) ≡ calls_from config declared ledger (before ++ call.Switch second value otherwise ∷ after)
  calls-same [] ledger =
      ap (λ (this : ScriptCall). this ∷ calls_from config declared (ledger_with_call ledger this) after) (ap (Emit []) (switch-same first.items second.items same ledger value otherwise))
  calls-same (one ∷ before) ledger = ap (λ (rest : List ScriptCall). call_of config declared ledger one ∷ rest) (calls-same before (ledger_with_call ledger (call_of config declared ledger one)))

  attempts-same : (before : List Call) (ledger : Ledger)
      → attempts_from config declared ledger (before ++ call.Switch first value otherwise ∷ after) ≡ attempts_from config declared ledger (before ++ call.Switch second value otherwise ∷ after)
  attempts-same [] ledger =
      ap (λ (this : ScriptCall). record { call = this; is_tried = false } ∷ attempts_from config declared (ledger_with_call ledger this) after)
      (ap (Emit []) (switch-same first.items second.items same ledger value otherwise))
  attempts-same (one ∷ before) ledger = ap (λ (rest : List CallAttempt). attempt_of config declared ledger one ∷ rest) (attempts-same before (ledger_with_call ledger (call_of config declared ledger one)))

pub switch_order_is_free : SwitchOrderIsFree
switch_order_is_free config declared before after first second value otherwise same = record {
  calls_same = calls-same config declared after first second value otherwise same before empty_ledger;
  attempts_same = attempts-same config declared after first second value otherwise same before empty_ledger;
}
