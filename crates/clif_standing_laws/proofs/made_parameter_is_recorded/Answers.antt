use Rattle.std.proofs.Common.{◌≡◌, ◌⊎◌, ℕ, zero, suc, ◌==◌, ◌&&◌, Bool, true, false, List, [], ◌∷◌, Option, Some, None, inl, inr, refl, sym, ◌∙◌, ap, subst, arith}
use Rattle.std.specs.Prelude.{IsTrue, if◌then◌else◌}
use Rattle.std.specs.FinMap as map
use Rattle.std.specs.List.{AllByRecursion}
use Rattle.std.proofs.lemmas.Bool.{eqb-true}
use Rattle.std.proofs.lemmas.Bool.Decides.{nat_tests}
use Rattle.std.proofs.lemmas.Option.{none-some}
use Rattle.clif_types.specs.EntitySet.{has}
use Rattle.clif_records.specs.Tracking.{Tracked, sets}
use Rattle.clif_records.proofs.RecordMaps.{record_at-empty, record_at-insert}
use Rattle.clif_ssa.specs.Ssa.{record_of}
use Rattle.clif_meaning.specs.Name.{Name}
use Rattle.clif_meaning.specs.Request.{AnsweredCall, DefVar, NeedStackMap, OfValue, Request, script_of}
use Rattle.clif_simulation.specs.Tracks.{AsksFor, AssignsTo, IsAskedFor, IsRecordedIn}
use Rattle.clif_simulation.proofs.Listed.{all_at}
use Rattle.clif_simulation.proofs.Values.{false_is}
use Rattle.clif_builder.specs.Recorded.{RecordsExactly, StandsOnRecord, WasMadeForMarked}
use Rattle.clif_standing_laws.specs.RecordedExamples.{marked_calls, unmarked_calls, used_state, used_values}
use Rattle.clif_standing_laws.proofs.made_parameter_is_recorded.Goals as goal

-- no request assigns a variable, or asks for stack maps for a value
abbrev NamesNone : Request → Type 0
NamesNone (DefVar variable name) = ⊥
NamesNone (NeedStackMap (OfValue name)) = ⊥
NamesNone _ = Unit {0}

-- the record of the variable, and of no other
records : (tracked : Tracked) (x b : ℕ) → record_of (used_state tracked) x b ≡ (if x == 0 && b == 0 then Some 0 else record_of (record (used_state tracked) { records = map.empty }) x b)
records tracked = record_at-insert map.empty 0 0 (record { value = Some 0; lookups = 0 })

on_record : (tracked : Tracked) → record_of (used_state tracked) 0 0 ≡ Some 0
on_record tracked = records tracked 0 0

only_record : (tracked : Tracked) (x b v : ℕ) → record_of (used_state tracked) x b ≡ Some v → (x ≡ 0) × (v ≡ 0)
only_record tracked x b v is = by (x == 0) (b == 0) refl (sym (records tracked x b) ∙ is)
  where
    value : Some 0 ≡ Some v → v ≡ 0
    value same = cc

    none : record_of (record (used_state tracked) { records = map.empty }) x b ≡ Some v → (x ≡ 0) × (v ≡ 0)
    none is = absurd (none-some v (sym (record_at-empty x b) ∙ is))

    by : (row here : Bool) → (x == 0) ≡ row → (if row && here then Some 0 else record_of (record (used_state tracked) { records = map.empty }) x b) ≡ Some v
        → (x ≡ 0) × (v ≡ 0)
    by true true row is = (eqb-true x 0 row, value is)
    by true false row is = none is
    by false here row is = none is

-- the parameter was made for the variable
abbrev made_for : ℕ → Option ℕ
made_for zero = Some 0
made_for (suc v) = None

one_variable : (v x : ℕ) → made_for v ≡ Some x → (v ≡ 0) × (x ≡ 0)
one_variable zero x is = (refl, variable is)
  where
    variable : Some 0 ≡ Some x → x ≡ 0
    variable same = cc
one_variable (suc v) x is = absurd (none-some x is)

module _ (calls : List AnsweredCall) (names : AllByRecursion NamesNone (script_of calls)) (tracked : Tracked) where
  asks_none : (name : Name) → AsksFor (script_of calls) name → ⊥
  asks_none name asks = all_at NamesNone (script_of calls) asks.0 (NeedStackMap (OfValue name)) names asks.1

  assigns_none : (x : ℕ) (name : Name) → AssignsTo (script_of calls) x name → ⊥
  assigns_none x name assigns = all_at NamesNone (script_of calls) assigns.0 (DefVar x name) names assigns.1

  asked_none : (v : ℕ) → IsAskedFor calls (used_state tracked) v → ⊥
  asked_none v asked = elim asked.how [
    | inl asks ↦ asks_none asked.name asks
    | inr assigns ↦ assigns_none assigns.0 asked.name assigns.1
  ]

  exactly : ((v : ℕ) → IsRecordedIn (used_state tracked) v → WasMadeForMarked made_for (used_state tracked) v)
      → ((v : ℕ) → WasMadeForMarked made_for (used_state tracked) v → IsRecordedIn (used_state tracked) v) → RecordsExactly calls used_values (used_state tracked)
  exactly forth back = record {
    made_for = made_for;
    recorded = λ v. (λ is. inr (forth v is), λ or. or_back v or);
    on_record = λ x b v is. let one = only_record tracked x b v is in inr (ap made_for one.1 ∙ ap (λ (y : ℕ). Some y) (sym one.0));
    stands = λ v x is. let one = one_variable v x is in stands v x one.0 one.1;
    unassigned = λ x none name assigns. assigns_none x name assigns;
    values_asked = λ name asks. absurd (asks_none name asks);
    values_assigned = λ x name assigns. absurd (assigns_none x name assigns);
  }
    where
      or_back : (v : ℕ) → IsAskedFor calls (used_state tracked) v ⊎ WasMadeForMarked made_for (used_state tracked) v → IsRecordedIn (used_state tracked) v
      or_back v (inl asked) = absurd (asked_none v asked)
      or_back v (inr made) = back v made

      here : StandsOnRecord calls used_values (used_state tracked) 0 0
      here = record { is_parameter = tt; block = 0; on_record = inl (on_record tracked) }

      stands : (v x : ℕ) → v ≡ 0 → x ≡ 0 → StandsOnRecord calls used_values (used_state tracked) v x
      stands v x value variable =
          subst (λ (w : ℕ). StandsOnRecord calls used_values (used_state tracked) w x) (sym value)
          (subst (λ (y : ℕ). StandsOnRecord calls used_values (used_state tracked) 0 y) (sym variable) here)

  -- the parameter was made for the variable, by what is on record
  made_there : (exactly : RecordsExactly calls used_values (used_state tracked)) → exactly.made_for 0 ≡ Some 0
  made_there exactly = elim (exactly.on_record 0 0 0 (on_record tracked)) [
    | inl assigned ↦ absurd (assigns_none 0 assigned.0 assigned.1)
    | inr made ↦ made
  ]

other : (v : ℕ) → (0 == suc v) ≡ false
other v = grind (arith, nat_tests)

not_recorded : (v : ℕ) → has (0 ∷ []) (suc v) ≡ false
not_recorded v = rw (other v) refl

marked : RecordsExactly marked_calls used_values (used_state (sets (0 ∷ []) (0 ∷ [])))
marked = exactly marked_calls (tt, (tt, (tt, (tt, (tt, tt))))) (sets (0 ∷ []) (0 ∷ [])) forth back
  where
    forth : (v : ℕ) → IsRecordedIn (used_state (sets (0 ∷ []) (0 ∷ []))) v → WasMadeForMarked made_for (used_state (sets (0 ∷ []) (0 ∷ []))) v
    forth zero is = (0, refl, refl)
    forth (suc v) is = absurd (false_is (subst IsTrue (not_recorded v) is))

    back : (v : ℕ) → WasMadeForMarked made_for (used_state (sets (0 ∷ []) (0 ∷ []))) v → IsRecordedIn (used_state (sets (0 ∷ []) (0 ∷ []))) v
    back zero made = refl
    back (suc v) made = absurd (none-some made.0 made.1)

unmarked : RecordsExactly unmarked_calls used_values (used_state (sets [] []))
unmarked = exactly unmarked_calls (tt, (tt, (tt, (tt, tt)))) (sets [] []) (λ v is. absurd (false_is is)) (λ v made. absurd (false_is made.2))

no_less : RecordsExactly marked_calls used_values (used_state (sets (0 ∷ []) [])) → ⊥
no_less wrong = false_is ((wrong.recorded 0).1 (inr (0, made_there marked_calls (tt, (tt, (tt, (tt, (tt, tt))))) (sets (0 ∷ []) []) wrong, refl)))

no_more : RecordsExactly unmarked_calls used_values (used_state (sets [] (0 ∷ []))) → ⊥
no_more wrong = elim ((wrong.recorded 0).0 refl) [
  | inl asked ↦ asked_none unmarked_calls (tt, (tt, (tt, (tt, tt)))) (sets [] (0 ∷ [])) 0 asked
  | inr made ↦ false_is made.2
]

pub returns : goal.returns
returns c = record { marked = marked; unmarked = unmarked; no_less = no_less; no_more = no_more }
