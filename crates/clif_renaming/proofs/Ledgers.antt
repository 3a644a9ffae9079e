-- What a script declares and answers it declares and answers without its calls that seal.
use Rattle.std.proofs.Common.{◌≡◌, ◌+◌, ◌≤◌, ℕ, zero, suc, Bool, true, false, cond, not, List, [], ◌∷◌, ◌++◌, length, map, refl, sym, ◌∙◌, ap, ap₂, subst, arith, Option, Some, None, append_assoc, append-nil}
use Rattle.std.specs.Prelude.{fold, slice_get, option_and_then, option_map, if◌then◌else◌}
use Rattle.std.proofs.lemmas.List.{map-append}
use Rattle.clif_types.specs.declared.types.«Type».{«Type»}
use Rattle.clif_meaning.specs.Instruction.{Edge, Operation}
use Rattle.clif_meaning.specs.Ledger.{Answered, or_invalid, Ledger, VariableState, answer_at, answers_to, changed_by, empty_ledger, is_inserted, is_terminator, ledger_after, ledger_with, next_answer, with_begun, with_begun_at, with_filled_at, with_predecessor, with_terminator, value_answer_type}
use Rattle.clif_meaning.specs.Name.{Name}
use Rattle.clif_meaning.specs.Request.{Request, UseVar, Script}
use Rattle.clif_renaming.specs.Renaming.{renamed_edge}
use Rattle.clif_renaming.specs.Sealing.{is_sealing, name_left, place_left, renamed_request, unsealed, without_seals}
use Rattle.clif_renaming.proofs.Places.{left_at, place_of_left, place_of_sealing, rank, rank_next}
use Rattle.clif_renaming.proofs.RenamedEffects.{BothAppend, BothBegin, BothChange, BothChangeJump, BothCreate, BothEnter, BothInsertAfter, BothList, BothMakeExceptionTable, BothMakeJumpTable, BothSeal, RenamedLedgerEffect, Seals, SealsAll, SealsOne, renamed_ledger_effect, sealing_is}

-- VARIABLES AND TABLES --------------------------------------------------------------------------------------------------

-- variables and tables are the same
pub record SameTables (ledger other : Ledger) : Type 0 where
  pub variables : other.variables ≡ ledger.variables
  pub tables : other.tables ≡ ledger.tables

begun : (ledger : Ledger) (o : Option Name) → SameTables ledger (with_begun_at ledger o)
begun ledger None = record { variables = refl; tables = refl }
begun ledger (Some block) = record { variables = (by (is_inserted ledger block)).variables; tables = (by (is_inserted ledger block)).tables }
  where
    by : (c : Bool) → SameTables ledger (if c then ledger else record ledger { layout = ledger.layout ++ block ∷ [] })
    by true = record { variables = refl; tables = refl }
    by false = record { variables = refl; tables = refl }

ended : (ledger : Ledger) (operation : Operation) → SameTables ledger (with_terminator ledger operation)
ended ledger operation = by (is_terminator operation) ledger.current
  where
    by : (c : Bool) (o : Option Name) → SameTables ledger (if c then with_filled_at ledger o else ledger)
    by true None = record { variables = refl; tables = refl }
    by true (Some block) = record { variables = refl; tables = refl }
    by false o = record { variables = refl; tables = refl }

led : (branch : Name) (ledger : Ledger) (edges : List (Edge Name Name)) → SameTables ledger (fold (with_predecessor branch) ledger edges)
led branch ledger [] = record { variables = refl; tables = refl }
led branch ledger (edge ∷ edges) =
    let more = led branch (with_predecessor branch ledger edge) edges in
    record { variables = more.variables; tables = more.tables }

pub built : (branch : Name) (ledger : Ledger) (operation : Operation) (edges : List (Edge Name Name))
    → SameTables ledger (fold (with_predecessor branch) (with_terminator (with_begun ledger) operation) edges)
built branch ledger operation edges =
    let first = begun ledger ledger.current in
    let second = ended (with_begun ledger) operation in
    let third = led branch (with_terminator (with_begun ledger) operation) edges in
    record { variables = third.variables ∙ second.variables ∙ first.variables; tables = third.tables ∙ second.tables ∙ first.tables }

-- two ledgers that change neither
pub both_kept : (l l' m m' : Ledger) → SameTables l l' → SameTables l m → SameTables l' m' → SameTables m m'
both_kept l l' m m' same kept kept' = record {
  variables = kept'.variables ∙ same.variables ∙ sym kept.variables;
  tables = kept'.tables ∙ same.tables ∙ sym kept.tables;
}

-- a call that seals changes neither
sealing_keeps : (ledger : Ledger) (request : Request) → is_sealing request ≡ true → SameTables ledger (changed_by ledger request)
sealing_keeps ledger request is = by (sealing_is request is)
  where
    by : Seals request → SameTables ledger (changed_by ledger request)
    by (SealsOne block same) = subst (λ (r : Request). SameTables ledger (changed_by ledger r)) (sym same) (record { variables = refl; tables = refl })
    by (SealsAll same) = subst (λ (r : Request). SameTables ledger (changed_by ledger r)) (sym same) (record { variables = refl; tables = refl })

-- the types of answers: an answer that is no value has none
abbrev pub types_of : List Answered → List (Option «Type»)
types_of answers = map (λ answer. value_answer_type (Some answer)) answers

module _ (rename : Name → Name) (l l' : Ledger) (same : SameTables l l') where
  -- a call and the same call renamed change both alike
  both_changed : (request : Request) → SameTables (changed_by l request) (changed_by l' (renamed_request rename request))
  both_changed request = by (renamed_ledger_effect rename request)
    where
      -- both by what they do
      of_ledgers : (m m' : Ledger) → changed_by l request ≡ m → changed_by l' (renamed_request rename request) ≡ m' → SameTables m m'
          → SameTables (changed_by l request) (changed_by l' (renamed_request rename request))
      of_ledgers m m' here there both =
          subst (λ (other : Ledger). SameTables other (changed_by l' (renamed_request rename request))) (sym here)
          (subst (λ (other : Ledger). SameTables m other) (sym there) both)

      of_request : (other : Request) → request ≡ other → SameTables (changed_by l other) (changed_by l' (renamed_request rename other))
          → SameTables (changed_by l request) (changed_by l' (renamed_request rename request))
      of_request other is both = subst (λ (r : Request). SameTables (changed_by l r) (changed_by l' (renamed_request rename r))) (sym is) both

      by : RenamedLedgerEffect rename request → SameTables (changed_by l request) (changed_by l' (renamed_request rename request))
      by (BothList variables tables here there) =
          of_ledgers _ _ (here l) (there l') (record { variables = ap variables same.variables; tables = ap tables same.tables })
      by (BothChange block change renamed alike here there) = of_ledgers _ _ (here l) (there l') (record { variables = same.variables; tables = same.tables })
      by (BothBegin variables here there) =
          let both = both_kept l l' (with_begun l) (with_begun l') same (begun l l.current) (begun l' l'.current) in
          of_ledgers _ _ (here l) (there l') (record { variables = ap variables both.variables; tables = both.tables })
      by (BothSeal seals renamed_seals) =
          both_kept l l' _ _ same (sealing_keeps l request seals) (sealing_keeps l' (renamed_request rename request) renamed_seals)
      by (BothCreate is) = of_request _ is (record { variables = same.variables; tables = same.tables })
      by (BothEnter block is) = of_request _ is (record { variables = same.variables; tables = same.tables })
      by (BothInsertAfter block after is) = of_request _ is (record { variables = same.variables; tables = same.tables })
      by (BothMakeJumpTable default entries is) = of_request _ is (record { variables = same.variables; tables = same.tables })
      by (BothMakeExceptionTable signature normal items is) = of_request _ is (record { variables = same.variables; tables = same.tables })
      by (BothAppend entries instruction is) =
          let both = both_kept l l' _ _ same (built (next_answer l) l instruction.operation instruction.edges)
          (built (next_answer l') l' instruction.operation (map (renamed_edge rename) instruction.edges)) in
          of_request _ is (record { variables = both.variables; tables = both.tables })
      by (BothChangeJump branch from to is) = of_request _ is (record { variables = same.variables; tables = same.tables })

  pub both_after : (request : Request) → SameTables (ledger_with l request) (ledger_with l' (renamed_request rename request))
  both_after request = let both = both_changed request in record { variables = both.variables; tables = both.tables }

  -- and have answers of the same types
  pub answered_alike : (request : Request) → types_of (answers_to l' (renamed_request rename request)) ≡ types_of (answers_to l request)
  answered_alike (UseVar variable) = ap (λ (states : List VariableState). Some (or_invalid (option_map (λ (state : VariableState). state.ty) (slice_get states variable))) ∷ []) same.variables
  answered_alike _ = refl

-- ANSWERS ---------------------------------------------------------------------------------------------------------------

-- the types of the answers to the calls of a script, from a ledger on
abbrev answers_along : Ledger → Script → List (List (Option «Type»))
answers_along ledger [] = []
answers_along ledger (request ∷ script) = types_of (answers_to ledger request) ∷ answers_along (ledger_with ledger request) script

answers_after : (ledger : Ledger) (script : Script) → map types_of (fold ledger_with ledger script).answers ≡ map types_of ledger.answers ++ answers_along ledger script
answers_after ledger [] = sym (append-nil (map types_of ledger.answers))
answers_after ledger (request ∷ script) =
    answers_after (ledger_with ledger request) script
    ∙ ap (λ (types : List (List (Option «Type»))). types ++ answers_along (ledger_with ledger request) script) (map-append types_of ledger.answers (answers_to ledger request ∷ []))
    ∙ append_assoc (map types_of ledger.answers) (types_of (answers_to ledger request) ∷ []) (answers_along (ledger_with ledger request) script)

-- the type of an answer is that which is told of it
abbrev pub flat : Option (Option «Type») → Option «Type»
flat None = None
flat (Some ty) = ty

pub typed_in : (answers : List Answered) (index : ℕ) → value_answer_type (slice_get answers index) ≡ flat (slice_get (types_of answers) index)
typed_in [] index = refl
typed_in (answer ∷ answers) zero = refl
typed_in (answer ∷ answers) (suc index) = typed_in answers index

typed_at : (answers : List (List Answered)) (place index : ℕ) → value_answer_type (option_and_then (λ (given : List Answered). slice_get given index) (slice_get answers place))
    ≡ flat (option_and_then (λ (given : List (Option «Type»)). slice_get given index) (slice_get (map types_of answers) place))
typed_at [] place index = refl
typed_at (given ∷ answers) zero index = typed_in given index
typed_at (given ∷ answers) (suc place) index = typed_at answers place index

-- of a list with an element for each call, those of the calls that are left
abbrev picked : {X : Type 0} → Script → List X → List X
picked [] xs = []
picked (request ∷ script) [] = []
picked (request ∷ script) (x ∷ xs) = cond (not (is_sealing request)) (x ∷ picked script xs) (picked script xs)

picked_at : {X : Type 0} (script : Script) (xs : List X) (place : ℕ) → left_at script place ≡ true → slice_get (picked script xs) (rank script place) ≡ slice_get xs place
picked_at [] xs place left = let none : ⊥ = cc in absurd none
picked_at (request ∷ script) [] place left = refl
picked_at (request ∷ script) (x ∷ xs) zero left =
    ap (λ (c : Bool). slice_get (cond c (x ∷ picked script xs) (picked script xs)) zero) left
picked_at {X} (request ∷ script) (x ∷ xs) (suc place) left = by (is_sealing request) refl (picked_at script xs place left)
  where
    by : (c : Bool) → is_sealing request ≡ c → slice_get (picked script xs) (rank script place) ≡ slice_get xs place
        → slice_get (cond (not (is_sealing request)) (x ∷ picked script xs) (picked script xs)) (rank (request ∷ script) (suc place)) ≡ slice_get xs place
    by true is later =
        ap₂ (λ (c : Bool) (n : ℕ). slice_get (cond (not c) (x ∷ picked script xs) (picked script xs)) n) is (rank_next request script place true is) ∙ later
    by false is later =
        ap₂ (λ (c : Bool) (n : ℕ). slice_get (cond (not c) (x ∷ picked script xs) (picked script xs)) n) is (rank_next request script place false is) ∙ later

none_behind : {X : Type 0} (script : Script) (xs : List X) (place : ℕ) → length script ≤ place → slice_get (picked script xs) place ≡ None
none_behind [] xs place behind = refl
none_behind (request ∷ script) [] place behind = refl
none_behind (request ∷ script) (x ∷ xs) zero behind = absurd (omega (arith, behind))
none_behind (request ∷ script) (x ∷ xs) (suc place) behind =
    by (not (is_sealing request)) (none_behind script xs place (omega (arith, behind))) (none_behind script xs (suc place) (omega (arith, behind)))
  where
    by : (c : Bool) → slice_get (picked script xs) place ≡ None → slice_get (picked script xs) (suc place) ≡ None
        → slice_get (cond c (x ∷ picked script xs) (picked script xs)) (suc place) ≡ None
    by true here further = here
    by false here further = further

-- the answers to a call that isn't left: there are none
pub no_answer : (script : Script) (ledger : Ledger) (place index : ℕ) → left_at script place ≡ false
    → option_and_then (λ (types : List (Option «Type»)). slice_get types index) (slice_get (answers_along ledger script) place) ≡ None
no_answer [] ledger place index sealing = refl
no_answer (request ∷ script) ledger zero index sealing = by (sealing_is request (not_not (is_sealing request) sealing))
  where
    not_not : (c : Bool) → not c ≡ false → c ≡ true
    not_not true is = refl
    not_not false is = let none : ⊥ = cc in absurd none

    by : Seals request → slice_get (types_of (answers_to ledger request)) index ≡ None
    by (SealsOne block same) = ap (λ (r : Request). slice_get (types_of (answers_to ledger r)) index) same
    by (SealsAll same) = ap (λ (r : Request). slice_get (types_of (answers_to ledger r)) index) same
no_answer (request ∷ script) ledger (suc place) index sealing = no_answer script (ledger_with ledger request) place index sealing

-- The renamed calls that are left have their answers, and variables and tables become the same.
module _ (rename : Name → Name) where
  abbrev left_calls : Script → Script
  left_calls script = map (renamed_request rename) (without_seals script)

  abbrev left_with : Request → Script → Bool → Script
  left_with request script seals = map (renamed_request rename) (cond (not seals) (request ∷ without_seals script) (without_seals script))

  -- a ledger after a call that seals
  pub behind_seal : (l l' : Ledger) (request : Request) → is_sealing request ≡ true → SameTables l l' → SameTables (ledger_with l request) l'
  behind_seal l l' request seals same =
      let kept = sealing_keeps l request seals in
      record { variables = same.variables ∙ sym kept.variables; tables = same.tables ∙ sym kept.tables }

  abbrev GivesPicked : Script → Type 0
  GivesPicked script = (l l' : Ledger) → SameTables l l' → answers_along l' (left_calls script) ≡ picked script (answers_along l script)

  answers_picked : (script : Script) → GivesPicked script
  answers_picked [] l l' same = refl
  answers_picked (request ∷ script) l l' same = by (answers_picked script) (is_sealing request) refl
    where
      by : GivesPicked script → (c : Bool) → is_sealing request ≡ c
          → answers_along l' (left_with request script (is_sealing request))
          ≡ cond (not (is_sealing request)) (types_of (answers_to l request) ∷ picked script (answers_along (ledger_with l request) script)) (picked script (answers_along (ledger_with l request) script))
      by later true seals =
          ap (λ (c : Bool). answers_along l' (left_with request script c)) seals
          ∙ later (ledger_with l request) l' (behind_seal l l' request seals same)
          ∙ ap (λ (c : Bool). cond (not c) (types_of (answers_to l request) ∷ picked script (answers_along (ledger_with l request) script)) (picked script (answers_along (ledger_with l request) script))) (sym seals)
      by later false stays =
          ap (λ (c : Bool). answers_along l' (left_with request script c)) stays
          ∙ ap₂ (λ (types : List (Option «Type»)) (rest : List (List (Option «Type»))). types ∷ rest) (answered_alike rename l l' same request)
          (later (ledger_with l request) (ledger_with l' (renamed_request rename request)) (both_after rename l l' same request))
          ∙ ap (λ (c : Bool). cond (not c) (types_of (answers_to l request) ∷ picked script (answers_along (ledger_with l request) script)) (picked script (answers_along (ledger_with l request) script))) (sym stays)

  abbrev KeepsTables : Script → Type 0
  KeepsTables script = (l l' : Ledger) → SameTables l l' → SameTables (fold ledger_with l script) (fold ledger_with l' (left_calls script))

  tables_along : (script : Script) → KeepsTables script
  tables_along [] l l' same = same
  tables_along (request ∷ script) l l' same = by (tables_along script) (is_sealing request) refl
    where
      by : KeepsTables script → (c : Bool) → is_sealing request ≡ c
          → SameTables (fold ledger_with (ledger_with l request) script) (fold ledger_with l' (left_with request script (is_sealing request)))
      by later true seals =
          subst (λ (c : Bool). SameTables (fold ledger_with (ledger_with l request) script) (fold ledger_with l' (left_with request script c))) (sym seals)
          (later (ledger_with l request) l' (behind_seal l l' request seals same))
      by later false stays =
          subst (λ (c : Bool). SameTables (fold ledger_with (ledger_with l request) script) (fold ledger_with l' (left_with request script c))) (sym stays)
          (later (ledger_with l request) (ledger_with l' (renamed_request rename request)) (both_after rename l l' same request))

-- a script has the same variables and tables without its calls that seal,
pub unsealed_tables : (script : Script) → SameTables (ledger_after script) (ledger_after (unsealed script))
unsealed_tables script = tables_along (name_left script) script empty_ledger empty_ledger (record { variables = refl; tables = refl })

-- and its answers have the same types under their names
pub unsealed_types : (script : Script) (name : Name)
    → value_answer_type (answer_at (ledger_after (unsealed script)) (name_left script name)) ≡ value_answer_type (answer_at (ledger_after script) name)
unsealed_types script name =
    typed_at (ledger_after (unsealed script)).answers (place_left script name.place) name.index
    ∙ ap flat (by (left_at script name.place) refl)
    ∙ sym (typed_at (ledger_after script).answers name.place name.index)
  where
    type_in : List (List (Option «Type»)) → ℕ → Option (Option «Type»)
    type_in types place = option_and_then (λ (given : List (Option «Type»)). slice_get given name.index) (slice_get types place)

    before : map types_of (ledger_after script).answers ≡ answers_along empty_ledger script
    before = answers_after empty_ledger script

    after : map types_of (ledger_after (unsealed script)).answers ≡ picked script (answers_along empty_ledger script)
    after = answers_after empty_ledger (unsealed script)
        ∙ answers_picked (name_left script) script empty_ledger empty_ledger (record { variables = refl; tables = refl })

    by : (c : Bool) → left_at script name.place ≡ c
        → type_in (map types_of (ledger_after (unsealed script)).answers) (place_left script name.place) ≡ type_in (map types_of (ledger_after script).answers) name.place
    by true left =
        ap₂ type_in after (place_of_left script name.place left)
        ∙ ap (λ (types : Option (List (Option «Type»))). option_and_then (λ (given : List (Option «Type»)). slice_get given name.index) types)
        (picked_at script (answers_along empty_ledger script) name.place left)
        ∙ ap (λ (types : List (List (Option «Type»))). type_in types name.place) (sym before)
    by false sealing =
        ap₂ type_in after (place_of_sealing script name.place sealing)
        ∙ ap (λ (types : Option (List (Option «Type»))). option_and_then (λ (given : List (Option «Type»)). slice_get given name.index) types)
        (none_behind script (answers_along empty_ledger script) (length script + name.place) (omega arith))
        ∙ sym (no_answer script empty_ledger name.place name.index sealing)
        ∙ ap (λ (types : List (List (Option «Type»))). type_in types name.place) (sym before)
