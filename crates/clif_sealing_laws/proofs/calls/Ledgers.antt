-- Calls without those that seal declare, fill and answer what the calls do.
use Rattle.std.proofs.Common.{◌≡◌, ◌+◌, ◌⊎◌, inl, inr, ℕ, zero, suc, Bool, true, false, List, [], ◌∷◌, ◌++◌, length, map, refl, sym, ◌∙◌, ap, arith, Option, None}
use Rattle.std.specs.Prelude.{◌==◌, fold, not, option_and_then, slice_get}
use Rattle.std.proofs.lemmas.Bool.{eq-eqb, eqb-true, false≢true}
use Rattle.std.proofs.lemmas.List.{length_push}
use Rattle.std.proofs.lemmas.Option.{slice_get_past}
use Rattle.clif_types.specs.declared.types.«Type».{«Type»}
use Rattle.clif_tables.specs.Entries.{TableEntry, with_entry}
use Rattle.clif_tables.specs.Lists.{TableLists}
use Rattle.clif_meaning.specs.Instruction.{Instruction, Operation, Switch}
use Rattle.clif_meaning.specs.Ledger.{Answered, Ledger, answers_to, empty_ledger, is_filled, next_answer, type_of, value_answer_type, with_instruction}
use Rattle.clif_meaning.specs.Name.{Name, answer_of}
use Rattle.clif_expansion.specs.ScriptCall.{Ask, Emit, ScriptCall, call_answers, ledger_behind, ledger_of, ledger_with_call, with_imports}
use Rattle.clif_expansion.proofs.Joins.{answers_last}
use Rattle.clif_renaming.specs.CallsSealing.{counted_as, renamed_call, unsealed_calls}
use Rattle.clif_renaming.specs.Renaming.{KeepsApart, renamed_edge, renamed_instruction}
use Rattle.clif_renaming.specs.Sealing.{name_left}
use Rattle.clif_renaming.proofs.Filled as fillings
use Rattle.clif_renaming.proofs.Filled.{SameFilled, built_both, filled_alike}
use Rattle.clif_renaming.proofs.Ledgers as ledgers
use Rattle.clif_renaming.proofs.Ledgers.{SameTables, answered_alike, both_kept, built, flat, no_answer, typed_in, types_of}
use Rattle.clif_renaming.proofs.Places.{follows_at_first, names_apart}
use Rattle.clif_sealing_laws.proofs.calls.Along.{agree_along, seals}

-- EMISSIONS ---------------------------------------------------------------------------------------------------------------

-- what stands behind a switch declares what stood before it
behind_tables : (operation : Operation) (ledger : Ledger) → SameTables ledger (ledger_behind operation ledger)
behind_tables (Switch keys) ledger = record { variables = refl; tables = refl }
behind_tables _ ledger = record { variables = refl; tables = refl }

behind_filled : (rename : Name → Name) (operation : Operation) (l l' : Ledger) → SameFilled rename l l' → SameFilled rename (ledger_behind operation l) (ledger_behind operation l')
behind_filled rename (Switch keys) l l' same = record { marks = same.marks; current = refl }
behind_filled rename _ l l' same = same

module _ (rename : Name → Name) (imports : List TableEntry) (instruction : Instruction Name Name) (l l' : Ledger) where
  abbrev emitted : Ledger → Instruction Name Name → Ledger
  emitted ledger one = with_instruction (with_imports imports ledger) one

  tables_emitted : SameTables l l' → SameTables (ledger_with_call l (Emit imports instruction)) (ledger_with_call l' (Emit imports (renamed_instruction rename instruction)))
  tables_emitted same =
      let m = with_imports imports l in
      let m' = with_imports imports l' in
      let imported : SameTables m m' = record { variables = same.variables; tables = ap (λ (tables : TableLists). fold with_entry tables imports) same.tables } in
      let made = both_kept m m' (emitted l instruction) (emitted l' (renamed_instruction rename instruction)) imported
      (built (next_answer m) m instruction.operation instruction.edges)
      (built (next_answer m') m' instruction.operation (map (renamed_edge rename) instruction.edges)) in
      let all = both_kept (emitted l instruction) (emitted l' (renamed_instruction rename instruction)) _ _ made
      (behind_tables instruction.operation (emitted l instruction)) (behind_tables instruction.operation (emitted l' (renamed_instruction rename instruction))) in
      record { variables = all.variables; tables = all.tables }

  filled_emitted : KeepsApart rename → SameFilled rename l l'
      → SameFilled rename (ledger_with_call l (Emit imports instruction)) (ledger_with_call l' (Emit imports (renamed_instruction rename instruction)))
  filled_emitted apart same =
      let m = with_imports imports l in
      let m' = with_imports imports l' in
      let made = built_both rename apart m m' (next_answer m) (next_answer m') instruction.operation instruction.edges (map (renamed_edge rename) instruction.edges)
      (record { marks = same.marks; current = same.current }) in
      let all = behind_filled rename instruction.operation (emitted l instruction) (emitted l' (renamed_instruction rename instruction)) made in
      record { marks = all.marks; current = all.current }

-- TYPES OF ANSWERS --------------------------------------------------------------------------------------------------------

-- the type of the answer with this name
abbrev type_among : List (List Answered) → Name → Option «Type»
type_among answers name = value_answer_type (option_and_then (λ (given : List Answered). slice_get given name.index) (slice_get answers name.place))

-- an answer to another call than the last one
type_elsewhere : (answers : List (List Answered)) (more : List Answered) (place index : ℕ) → (place ≡ length answers → ⊥)
    → type_among (answers ++ more ∷ []) (answer_of place index) ≡ type_among answers (answer_of place index)
type_elsewhere [] more zero index elsewhere = absurd (elsewhere refl)
type_elsewhere [] more (suc place) index elsewhere = refl
type_elsewhere (given ∷ answers) more zero index elsewhere = refl
type_elsewhere (given ∷ answers) more (suc place) index elsewhere =
    type_elsewhere answers more place index (λ same. elsewhere (omega (arith, same)))

type_at_last : (answers : List (List Answered)) (more : List Answered) (place index : ℕ) → place ≡ length answers
    → type_among (answers ++ more ∷ []) (answer_of place index) ≡ flat (slice_get (types_of more) index)
type_at_last answers more place index last =
    ap (λ (n : ℕ). type_among (answers ++ more ∷ []) (answer_of n index)) last
    ∙ ap value_answer_type (answers_last answers more index) ∙ typed_in more index

none_behind : (answers : List (List Answered)) (place index : ℕ) → place ≡ length answers → type_among answers (answer_of place index) ≡ None
none_behind answers place index last =
    ap (λ (given : Option (List Answered)). value_answer_type (option_and_then (λ (list : List Answered). slice_get list index) given))
    (slice_get_past answers place (omega (arith, last)))

same_or_other : (p q : ℕ) → (p ≡ q) ⊎ (p ≡ q → ⊥)
same_or_other p q = by (p == q) refl
  where
    by : (c : Bool) → (p == q) ≡ c → (p ≡ q) ⊎ (p ≡ q → ⊥)
    by true is = inl (eqb-true p q is)
    by false is = inr (λ same. false≢true (sym is ∙ eq-eqb p q same))

-- a call that answers no value leaves the types as they are
types_stay : (answers : List (List Answered)) (more : List Answered) → ((index : ℕ) → slice_get (types_of more) index ≡ None)
    → (x : Name) → type_among (answers ++ more ∷ []) x ≡ type_among answers x
types_stay answers more none x = by (same_or_other x.place (length answers))
  where
    by : (x.place ≡ length answers) ⊎ (x.place ≡ length answers → ⊥) → type_among (answers ++ more ∷ []) x ≡ type_among answers x
    by (inl last) = type_at_last answers more x.place x.index last ∙ ap flat (none x.index) ∙ sym (none_behind answers x.place x.index last)
    by (inr elsewhere) = type_elsewhere answers more x.place x.index elsewhere

-- renamed names have the types of the names
abbrev AreTypedAlike : (Name → Name) → List (List Answered) → List (List Answered) → Type 0
AreTypedAlike rename answers answers' = (x : Name) → type_among answers' (rename x) ≡ type_among answers x

-- Where calls answer values of the same types, and the answers of the one are renamed to those of the other, it stays so.
types_renamed : (rename : Name → Name) → KeepsApart rename → (answers answers' : List (List Answered)) (more more' : List Answered)
    → ((index : ℕ) → rename (answer_of (length answers) index) ≡ answer_of (length answers') index) → types_of more' ≡ types_of more
    → AreTypedAlike rename answers answers' → AreTypedAlike rename (answers ++ more ∷ []) (answers' ++ more' ∷ [])
types_renamed rename apart answers answers' more more' at same alike x = by (same_or_other x.place (length answers))
  where
    -- the renamed name is of the last answers only where the name is
    moved : (x.place ≡ length answers → ⊥) → (rename x).place ≡ length answers' → ⊥
    moved elsewhere last =
        let index = (rename x).index in
        let renamed : rename x ≡ rename (answer_of (length answers) index) = ap (λ (n : ℕ). answer_of n index) last ∙ sym (at index) in
        elsewhere (ap (λ (name : Name). name.place) (apart x (answer_of (length answers) index) renamed))

    by : (x.place ≡ length answers) ⊎ (x.place ≡ length answers → ⊥) → type_among (answers' ++ more' ∷ []) (rename x) ≡ type_among (answers ++ more ∷ []) x
    by (inl last) =
        ap (λ (name : Name). type_among (answers' ++ more' ∷ []) name) (ap (λ (n : ℕ). rename (answer_of n x.index)) last ∙ at x.index)
        ∙ type_at_last answers' more' (length answers') x.index refl
        ∙ ap (λ (types : List (Option «Type»)). flat (slice_get types x.index)) same
        ∙ sym (type_at_last answers more x.place x.index last)
    by (inr elsewhere) =
        type_elsewhere answers' more' (rename x).place (rename x).index (moved elsewhere) ∙ alike x ∙ sym (type_elsewhere answers more x.place x.index elsewhere)

-- LEDGERS -----------------------------------------------------------------------------------------------------------------

-- Variables and tables are the same, renamed blocks are filled where blocks are, and renamed names have the types of the names.
pub record LedgersAgree (rename : Name → Name) (l l' : Ledger) : Type 0 where
  pub tables : SameTables l l'
  pub filled : SameFilled rename l l'
  pub types : (x : Name) → type_of l' (rename x) ≡ type_of l x

abbrev answer_count : Ledger → ℕ
answer_count ledger = length ledger.answers

one_answer_more : (ledger : Ledger) (call : ScriptCall) → answer_count (ledger_with_call ledger call) ≡ suc (answer_count ledger)
one_answer_more ledger call =
    let more : length ledger.answers + 1 ≡ suc (length ledger.answers) = omega arith in length_push ledger.answers (call_answers ledger call) ∙ more

module _ (rename : Name → Name) (apart : KeepsApart rename) where
  ledger_behind_seal : (l l' : Ledger) (call : ScriptCall) → seals call ≡ true → LedgersAgree rename l l' → LedgersAgree rename (ledger_with_call l call) l'
  ledger_behind_seal l l' (Ask request) is agree = record {
    tables = ledgers.behind_seal rename l l' request is agree.tables;
    filled = fillings.behind_seal rename apart l l' request is agree.filled;
    types = λ x. agree.types x ∙ sym (types_stay l.answers (answers_to l request) (λ index. no_answer (request ∷ []) l 0 index (ap not is)) x);
  }
  ledger_behind_seal l l' (Emit imports instruction) is agree = absurd (false≢true is)

  ledgers_after : (l l' : Ledger) (call : ScriptCall) → ((index : ℕ) → rename (answer_of (answer_count l) index) ≡ answer_of (answer_count l') index)
      → LedgersAgree rename l l' → LedgersAgree rename (ledger_with_call l call) (ledger_with_call l' (renamed_call rename call))
  ledgers_after l l' (Ask request) at agree = record {
    tables = ledgers.both_after rename l l' agree.tables request;
    filled = fillings.both_after rename apart l l' request agree.filled (at 0);
    types = types_renamed rename apart l.answers l'.answers _ _ at (answered_alike rename l l' agree.tables request) agree.types;
  }
  ledgers_after l l' (Emit imports instruction) at agree = record {
    tables = tables_emitted rename imports instruction l l' agree.tables;
    filled = filled_emitted rename imports instruction l l' apart agree.filled;
    types = types_renamed rename apart l.answers l'.answers (call_answers l (Emit imports instruction)) (call_answers l' (Emit imports (renamed_instruction rename instruction))) at refl agree.types;
  }

pub unsealed_ledgers : (calls : List ScriptCall) → LedgersAgree (name_left (map counted_as calls)) (ledger_of calls) (ledger_of (unsealed_calls calls))
unsealed_ledgers calls =
    let script = map counted_as calls in
    agree_along ledger_with_call answer_count (LedgersAgree (name_left script)) (name_left script) one_answer_more
    (ledger_behind_seal (name_left script) (names_apart script)) (ledgers_after (name_left script) (names_apart script)) calls empty_ledger empty_ledger
    (record { tables = record { variables = refl; tables = refl }; filled = record { marks = refl; current = refl }; types = λ x. refl })
    (follows_at_first script)

-- the renamed blocks are filled where the blocks are
pub filled_in_calls : (calls : List ScriptCall) (block : Name) → is_filled (ledger_of (unsealed_calls calls)) (name_left (map counted_as calls) block) ≡ is_filled (ledger_of calls) block
filled_in_calls calls block =
    let script = map counted_as calls in
    filled_alike (name_left script) (names_apart script) (ledger_of calls) (ledger_of (unsealed_calls calls)) (unsealed_ledgers calls).filled block
