-- Why a name is tracked: stack maps were asked for it, it was assigned to a marked variable, or it answered a use of one.
use Rattle.std.proofs.Common.{◌≡◌, ℕ, zero, suc, ◌+◌, Bool, true, false, ◌||◌, List, [], ◌∷◌, Some, ◌⊎◌, inl, inr, refl, sym, ◌∙◌, ap, subst, arith}
use Rattle.std.specs.Prelude.{IsTrue, if◌then◌else◌, slice_get}
use Rattle.std.specs.List.{list_any}
use Rattle.clif_meaning.specs.Name.{Name, answer_of, same_name}
use Rattle.clif_meaning.specs.Request.{DefVar, NeedStackMap, OfValue, OfVariable, Request, Script, UseVar}
use Rattle.clif_meaning.specs.Ledger.{Ledger, is_marked, ledger_after}
use Rattle.clif_meaning.specs.Tracked.{is_tracked, tracked_by, tracked_from, tracked_names}
use Rattle.clif_simulation.specs.Tracks.{AsksFor, AssignsTo}
use Rattle.clif_simulation.proofs.Finished.Giving.{In, same_or_other}
use Rattle.clif_simulation.proofs.Finished.InLists.{in_either, in_first, in_second}
use Rattle.clif_simulation.proofs.Tracking.Coming.{AnswersUse}
use Rattle.clif_simulation.proofs.Values.{false_is}

-- LISTS OF NAMES ----------------------------------------------------------------------------------------------------------

listed_any : (names : List Name) (name : Name) → In name names → IsTrue (list_any (same_name name) names)
listed_any [] name there = absurd there
listed_any (m ∷ names) name there = by (same_or_other name m) (listed_any names name) there
  where
    first : (s t : Bool) → s ≡ true → IsTrue (s || t)
    first true t is = refl
    first false t is = let no_way : ⊥ = cc in absurd no_way

    second : (s t : Bool) → IsTrue t → IsTrue (s || t)
    second true t is = refl
    second false t is = is

    by : ((same_name name m ≡ true) × (name ≡ m)) ⊎ ((same_name name m ≡ false) × (name ≡ m → ⊥))
        → (In name names → IsTrue (list_any (same_name name) names)) → (name ≡ m) ⊎ In name names → IsTrue (same_name name m || list_any (same_name name) names)
    by (inl same) rest here = first (same_name name m) (list_any (same_name name) names) same.0
    by (inr other) rest (inl here) = absurd (other.1 here)
    by (inr other) rest (inr later) = second (same_name name m) (list_any (same_name name) names) (rest later)

any_listed : (names : List Name) (name : Name) → IsTrue (list_any (same_name name) names) → In name names
any_listed [] name is = absurd (false_is is)
any_listed (m ∷ names) name is = by (same_or_other name m) (any_listed names name)
  where
    rest : (s t : Bool) → s ≡ false → IsTrue (s || t) → IsTrue t
    rest true t off is = let no_way : ⊥ = cc in absurd no_way
    rest false t off is = is

    by : ((same_name name m ≡ true) × (name ≡ m)) ⊎ ((same_name name m ≡ false) × (name ≡ m → ⊥))
        → (IsTrue (list_any (same_name name) names) → In name names) → (name ≡ m) ⊎ In name names
    by (inl same) later = inl same.1
    by (inr other) later = inr (later (rest (same_name name m) (list_any (same_name name) names) other.0 is))

-- CALLS THAT TRACK --------------------------------------------------------------------------------------------------------

-- the call at this place tracks the name
record IsTrackedBy (ledger : Ledger) (start : ℕ) (script : Script) (name : Name) : Type 0 where
  place : ℕ
  request : Request
  stands : slice_get script place ≡ Some request
  tracks : In name (tracked_by ledger (start + place) request)

tracked_there : (ledger : Ledger) (start : ℕ) (script : Script) (name : Name) → In name (tracked_from ledger start script)
    → IsTrackedBy ledger start script name
tracked_there ledger start [] name there = absurd there
tracked_there ledger start (request ∷ script) name there =
    by (tracked_there ledger (suc start) script name) (in_either (tracked_by ledger start request) (tracked_from ledger (suc start) script) name there)
  where
    by : (In name (tracked_from ledger (suc start) script) → IsTrackedBy ledger (suc start) script name)
        → In name (tracked_by ledger start request) ⊎ In name (tracked_from ledger (suc start) script) → IsTrackedBy ledger start (request ∷ script) name
    by rest (inl here) =
        let same : start ≡ start + 0 = omega arith in
        record { place = 0; request = request; stands = refl; tracks = subst (λ (p : ℕ). In name (tracked_by ledger p request)) same here }
    by rest (inr later) =
        let t = rest later in
        let same : suc start + t.place ≡ start + suc t.place = omega arith in
        record { place = suc t.place; request = t.request; stands = t.stands; tracks = subst (λ (p : ℕ). In name (tracked_by ledger p t.request)) same t.tracks }

tracked_back : (ledger : Ledger) (start : ℕ) (script : Script) (name : Name) (place : ℕ) (request : Request) → slice_get script place ≡ Some request
    → In name (tracked_by ledger (start + place) request) → In name (tracked_from ledger start script)
tracked_back ledger start [] name zero request is tracks = let no_way : ⊥ = cc in absurd no_way
tracked_back ledger start [] name (suc place) request is tracks = let no_way : ⊥ = cc in absurd no_way
tracked_back ledger start (r ∷ script) name zero request is tracks =
    let here : request ≡ r = cc in
    let same : start + 0 ≡ start = omega arith in
    in_first (tracked_by ledger start r) (tracked_from ledger (suc start) script) name
    (subst (λ (q : Request). In name (tracked_by ledger start q)) here (subst (λ (p : ℕ). In name (tracked_by ledger p request)) same tracks))
tracked_back ledger start (r ∷ script) name (suc place) request is tracks =
    let same : start + suc place ≡ suc start + place = omega arith in
    in_second (tracked_by ledger start r) (tracked_from ledger (suc start) script) name
    (tracked_back ledger (suc start) script name place request is (subst (λ (p : ℕ). In name (tracked_by ledger p request)) same tracks))

-- WHY A NAME IS TRACKED ---------------------------------------------------------------------------------------------------

-- stack maps were asked for the name, for itself or as it was assigned to a marked variable
abbrev pub IsAsked : Script → Name → Type 0
IsAsked script name =
    AsksFor script name ⊎ ((x : ℕ) × AssignsTo script x name × IsTrue (is_marked (ledger_after script) x))

abbrev pub IsUsed : Script → Name → Type 0
IsUsed script name = (x : ℕ) × AnswersUse script x name × IsTrue (is_marked (ledger_after script) x)

pub asked_tracked : (script : Script) (name : Name) → IsAsked script name → IsTrue (is_tracked script name)
asked_tracked script name (inl asked) =
    listed_any (tracked_names script) name (tracked_back (ledger_after script) 0 script name asked.0 (NeedStackMap (OfValue name)) asked.1 (inl refl))
asked_tracked script name (inr assigned) =
    listed_any (tracked_names script) name
    (tracked_back (ledger_after script) 0 script name (assigned.1).0 (DefVar assigned.0 name) (assigned.1).1
    (by (is_marked (ledger_after script) assigned.0) assigned.2))
  where
    by : (t : Bool) → IsTrue t → In name (if t then name ∷ [] else [])
    by true is = inl refl
    by false is = absurd (false_is is)

pub used_tracked : (script : Script) (name : Name) → IsUsed script name → IsTrue (is_tracked script name)
used_tracked script name used =
    listed_any (tracked_names script) name
    (tracked_back (ledger_after script) 0 script name name.place (UseVar used.0) (used.1).0 (by (is_marked (ledger_after script) used.0) used.2))
  where
    by : (t : Bool) → IsTrue t → In name (if t then answer_of (0 + name.place) 0 ∷ [] else [])
    by true is = let same : 0 + name.place ≡ name.place = omega arith in
        inl (ap (answer_of name.place) (used.1).1 ∙ sym (ap (λ (p : ℕ). answer_of p 0) same))
    by false is = absurd (false_is is)

pub why_tracked : (script : Script) (name : Name) → IsTrue (is_tracked script name) → IsAsked script name ⊎ IsUsed script name
why_tracked script name is =
    let t = tracked_there (ledger_after script) 0 script name (any_listed (tracked_names script) name is) in by t.place t.request t.stands t.tracks
  where
    only : (place : ℕ) (x : ℕ) (m : Name) (t : Bool) → In name (if t then m ∷ [] else []) → (name ≡ m) × IsTrue t
    only place x m true (inl here) = (here, refl)
    only place x m true (inr none) = absurd none
    only place x m false none = absurd none

    by : (place : ℕ) (request : Request) → slice_get script place ≡ Some request → In name (tracked_by (ledger_after script) (0 + place) request)
        → IsAsked script name ⊎ IsUsed script name
    by place (DefVar x m) stands tracks =
        let o = only place x m (is_marked (ledger_after script) x) tracks in
        inl (inr (x, (place, stands ∙ ap (λ (n : Name). Some (DefVar x n)) (sym o.0)), o.1))
    by place (UseVar x) stands tracks =
        let o = only place x (answer_of (0 + place) 0) (is_marked (ledger_after script) x) tracks in
        let at : name.place ≡ 0 + place = ap (λ (n : Name). n.place) o.0 in
        let same : 0 + place ≡ place = omega arith in
        inr (x, (ap (slice_get script) (at ∙ same) ∙ stands, ap (λ (n : Name). n.index) o.0), o.1)
    by place (NeedStackMap (OfValue m)) stands (inl here) = inl (inl (place, stands ∙ ap (λ (n : Name). Some (NeedStackMap (OfValue n))) (sym here)))
    by place (NeedStackMap (OfValue m)) stands (inr none) = absurd none
    by place (NeedStackMap (OfVariable x)) stands none = absurd none
    by place _ stands none = absurd none
