-- The whole reading of a script's names: that of its plain calls so far, and of later names, which are as far behind the calls on
-- both sides. Under it each call of a list is read, whether it may be made or not.
use Rattle.std.proofs.Common.{◌≡◌, ◌<◌, ◌≤◌, ◌⊎◌, inl, inr, ℕ, ◌+◌, ◌-◌, List, length, ap, arith, refl, sym, ◌∙◌, subst}
use Rattle.std.specs.Prelude.{Option, None, option_and_then, slice_get}
use Rattle.std.proofs.lemmas.Bool.{cases_lt}
use Rattle.std.proofs.lemmas.Option.{slice_get_past}
use Rattle.clif_meaning.specs.Ledger.{Answered, Ledger, answer_at}
use Rattle.clif_meaning.specs.Name.{Name, answer_of}
use Rattle.clif_expansion.specs.Joining.{AreJoinedLedgers, IsJoined, IsReadAnswer, IsUnread}
use Rattle.clif_expansion.specs.Reading.{IsOneToOne, IsReadAs, Reading, ScriptName, StandsFor}
use Rattle.clif_expansion.specs.Walk.{IsGenerated}
use Rattle.clif_expansion.proofs.Joins.{KeepsReading, answer_later, states_later}
use Rattle.clif_expansion.proofs.Names.{same_script}

-- a place behind the answers has none
no-answer : (ledger : Ledger) (x : Name) → length ledger.answers ≤ x.place → answer_at ledger x ≡ None
no-answer ledger x past =
    ap (λ (o : Option (List Answered)). option_and_then (λ (xs : List Answered). slice_get xs x.index) o) (slice_get_past ledger.answers x.place past)

-- neither has an answer
none-read : (reading : Reading) (a b : Option Answered) → a ≡ None → b ≡ None → IsReadAnswer reading a b
none-read reading a b first second =
    subst (λ (o : Option Answered). IsReadAnswer reading o b) (sym first) (subst (λ (o : Option Answered). IsReadAnswer reading None o) (sym second) tt)

module _ (reading : Reading) (plain ledger : Ledger) where
  abbrev stands : (x : Name) → (x.place < length plain.answers) ⊎ (length plain.answers ≤ x.place) → StandsFor
  stands x (inl made) = reading x
  stands x (inr past) = ScriptName (answer_of (length ledger.answers + (x.place - length plain.answers)) x.index)

  abbrev pub whole : Reading
  whole x = stands x (cases_lt x.place (length plain.answers))

  stands-made : (x : Name) (side : (x.place < length plain.answers) ⊎ (length plain.answers ≤ x.place)) → x.place < length plain.answers → stands x side ≡ reading x
  stands-made x (inl made) below = refl
  stands-made x (inr past) below = absurd (omega (arith, past, below))

  stands-later : (x : Name) (k : ℕ) (side : (x.place < length plain.answers) ⊎ (length plain.answers ≤ x.place)) → x.place ≡ length plain.answers + k
      → stands x side ≡ ScriptName (answer_of (length ledger.answers + k) x.index)
  stands-later x k (inl made) is = absurd (omega (arith, made, is))
  stands-later x k (inr past) is =
      let same : length ledger.answers + (x.place - length plain.answers) ≡ length ledger.answers + k = omega (arith, is) in
      ap (λ (place : ℕ). ScriptName (answer_of place x.index)) same

  -- what was made is read as it was
  pub whole-made : (x : Name) → x.place < length plain.answers → whole x ≡ reading x
  whole-made x below = stands-made x (cases_lt x.place (length plain.answers)) below

  -- a later name is read as the one that is as far behind
  pub whole-later : (k index : ℕ) → IsReadAs whole (answer_of (length plain.answers + k) index) (answer_of (length ledger.answers + k) index)
  whole-later k index =
      let x : Name = answer_of (length plain.answers + k) index in
      stands-later x k (cases_lt x.place (length plain.answers)) refl

  -- a name is read as it was, or is a later one
  either : (x name : Name) (side : (x.place < length plain.answers) ⊎ (length plain.answers ≤ x.place)) → stands x side ≡ ScriptName name
      → IsReadAs reading x name ⊎ ((length plain.answers ≤ x.place) × (length ledger.answers + (x.place - length plain.answers) ≡ name.place) × (x.index ≡ name.index))
  either x name (inl made) is = inl is
  either x name (inr past) is =
      let same = same_script (answer_of (length ledger.answers + (x.place - length plain.answers)) x.index) name is in
      inr (past, ap (λ (n : Name). n.place) same, ap (λ (n : Name). n.index) same)

  module _ (joined : IsJoined reading plain ledger) where
    pub whole-keeps : KeepsReading reading whole
    whole-keeps x name is = whole-made x (joined.made x name is).0 ∙ is

    pub whole-one : IsOneToOne whole
    whole-one x y name first second =
        by (either x name (cases_lt x.place (length plain.answers)) first) (either y name (cases_lt y.place (length plain.answers)) second)
      where
        by : IsReadAs reading x name ⊎ ((length plain.answers ≤ x.place) × (length ledger.answers + (x.place - length plain.answers) ≡ name.place) × (x.index ≡ name.index))
            → IsReadAs reading y name ⊎ ((length plain.answers ≤ y.place) × (length ledger.answers + (y.place - length plain.answers) ≡ name.place) × (y.index ≡ name.index)) → x ≡ y
        by (inl old) (inl other) = joined.one_to_one x y name old other
        by (inl old) (inr (past, place, index)) =
            let below = (joined.made x name old).1 in
            absurd (omega (arith, place, below))
        by (inr (past, place, index)) (inl old) =
            let below = (joined.made y name old).1 in
            absurd (omega (arith, place, below))
        by (inr (past, place, index)) (inr (past', place', index')) =
            let places : x.place ≡ y.place = omega (arith, past, past', place, place') in
            let indices : x.index ≡ y.index = index ∙ sym index' in
            λ i. answer_of (places i) (indices i)

    whole-generated : (x : Name) → IsGenerated reading x → IsGenerated whole x
    whole-generated x is = whole-made x (joined.generated x is) ∙ is

    whole-unread : (name : Name) → IsUnread reading (length ledger.answers) name → IsUnread whole (length ledger.answers) name
    whole-unread name is = record { unread = λ x read. by x (either x name (cases_lt x.place (length plain.answers)) read); before = is.before }
      where
        by : (x : Name) → IsReadAs reading x name ⊎ ((length plain.answers ≤ x.place) × (length ledger.answers + (x.place - length plain.answers) ≡ name.place) × (x.index ≡ name.index)) → ⊥
        by x (inl old) = is.unread x old
        by x (inr (past, place, index)) = let below = is.before in absurd (omega (arith, below, place))

    -- the ledgers are joined under it
    pub whole-joined : AreJoinedLedgers whole plain ledger
    whole-joined = record {
      states = states_later reading whole (length ledger.answers) (length ledger.answers)
          (record { keeps = whole-keeps; generated = whole-generated; unread = whole-unread }) plain ledger joined.ledgers.states;
      answers = λ x name is. by x name (either x name (cases_lt x.place (length plain.answers)) is);
    }
      where
        by : (x name : Name) → IsReadAs reading x name ⊎ ((length plain.answers ≤ x.place) × (length ledger.answers + (x.place - length plain.answers) ≡ name.place) × (x.index ≡ name.index))
            → IsReadAnswer whole (answer_at plain x) (answer_at ledger name)
        by x name (inl old) = answer_later reading whole whole-keeps (answer_at plain x) (answer_at ledger name) (joined.ledgers.answers x name old)
        by x name (inr (past, place, index)) = none-read whole (answer_at plain x) (answer_at ledger name) (no-answer plain x past) (no-answer ledger name (omega (arith, place)))

-- later names are read alike, whatever was read so far
pub whole-past : (reading other : Reading) (plain ledger : Ledger) (x : Name) → length plain.answers ≤ x.place → whole reading plain ledger x ≡ whole other plain ledger x
whole-past reading other plain ledger x past =
    let place : x.place ≡ length plain.answers + (x.place - length plain.answers) = omega (arith, past) in
    stands-later reading plain ledger x (x.place - length plain.answers) (cases_lt x.place (length plain.answers)) place
    ∙ sym (stands-later other plain ledger x (x.place - length plain.answers) (cases_lt x.place (length plain.answers)) place)
