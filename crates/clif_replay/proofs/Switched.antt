-- When a switch may be made, and what is known once it was made or wasn't.
use Rattle.std.proofs.Common.{◌≡◌, ◌<◌, ◌≤◌, ◌+◌, ◌-◌, ◌^◌, ◌⊎◌, inl, inr, ℕ, zero, suc, List, [], ◌∷◌, ◌++◌, length, refl, ap, ap₂, arith, sym, ◌∙◌, subst, length-append}
use Rattle.std.specs.Prelude.{◌&&◌, not, nat_lt, Bool, true, false, Option, Some, None, cond, fold, if◌then◌else◌, is_some, map, option_map, replicate, slice_get, unwrap_or, Result, Ok, Err}
use Rattle.std.specs.List.{AllByRecursion, list_all, list_any}
use Rattle.std.specs.FinMap as finite
use Rattle.std.specs.FinMap.{get-from_entries}
use Rattle.std.specs.FinMap.Entries.{find}
use Rattle.std.specs.Cmp.{nat_cmp_total}
use Rattle.std.specs.Ordering.{eq_by_cmp, nat_cmp}
use Rattle.std.proofs.lemmas.Bool.{and_parts, false≢true}
use Rattle.std.proofs.lemmas.List.{length-map, map-append}
use Rattle.std.proofs.lemmas.List.Folds.{list_all-append}
use Rattle.std.proofs.lemmas.Nat.{pow_below}
use Rattle.std.proofs.lemmas.Option.{none-some, same_Some}
use Rattle.clif_types.specs.Signature.{SignatureShape}
use Rattle.clif_types.specs.Types.{greatest_of, is_int}
use Rattle.clif_types.specs.declared.error.BuildError.{BuildError}
use Rattle.clif_types.specs.declared.error.BuildError.TheVariants as build
use Rattle.clif_types.specs.declared.types.«Type».{«Type»}
use Rattle.clif_ir.specs.Body.{value_at}
use Rattle.clif_ranges.specs.declared.ranges.CaseRange.{CaseRange}
use Rattle.clif_ranges.specs.declared.error.SwitchError.{SwitchError}
use Rattle.clif_ranges.specs.declared.error.SwitchError.TheVariants as switch_error
use Rattle.clif_ranges.specs.Cases.{CaseMap, AreRangesFor, IsRefusal}
use Rattle.clif_records.specs.Tables.{is_yes}
use Rattle.clif_ssa.specs.Ssa.{sealed_of}
use Rattle.clif_meaning.specs.Acceptance as acceptance
use Rattle.clif_meaning.specs.Acceptance.{can_lead}
use Rattle.clif_meaning.specs.Instruction as meaning
use Rattle.clif_meaning.specs.Ledger.{Answered, ExceptionTable, Ledger, has_value, ledger_after, ledger_with, or_invalid, type_of, with_tried}
use Rattle.clif_meaning.specs.Name as named
use Rattle.clif_meaning.specs.Request.{AnsweredCall, GivenEntry, Imported, Request, ServedBy, Script, TriedBy, script_of}
use Rattle.clif_meaning.proofs.LedgerParts.{TablesEffect, TablesStay, EntryMade, JumpTableMade, ExceptionTableMade, TablesServe, tables_effect}
use Rattle.clif_builder.specs.declared.builder.FunctionBuilder.{FunctionBuilder}
use Rattle.clif_builder.specs.Ledger.{NamesBlock, NamesEdges, NamesExceptions, block_name, ledger_of}
use Rattle.clif_builder.specs.StandsFor.{StandsFor}
use Rattle.clif_builder.proofs.Lasting.{ledger-behind}
use Rattle.clif_calls.specs.declared.call.Name.{Name}
use Rattle.clif_calls.specs.declared.switch.SwitchEntry.{SwitchEntry}
use Rattle.clif_expansion.specs.Keys.{SetTwice, SwitchRefusal, TooGreat, TooLong, keys_refusal, run_from, table_count}
use Rattle.clif_expansion.specs.ScriptCall.{Emit, OfSwitch, call_allowed, call_refusal}
use Rattle.clif_expansion.specs.Switching.{BeginsHere, IsDecidingCall, IsSwitchCode, IsTableFrom, switching}
use Rattle.clif_resolution.specs.Answers.{block_of, value_of}
use Rattle.clif_resolution.specs.Conditions.{can_seal, is_open, is_target}
use Rattle.clif_resolution.specs.Errors.{call_error_of}
use Rattle.clif_resolution.specs.declared.answers.Answer.{Answer}
use Rattle.clif_resolution.specs.declared.answers.Answer.TheVariants as answer
use Rattle.clif_resolution.specs.declared.condition.Condition.{Condition}
use Rattle.clif_resolution.specs.declared.answers.CallError.{CallError}
use Rattle.clif_resolution.specs.declared.answers.CallError.TheVariants as error
use Rattle.clif_resolution.proofs.Options.{get-below}
use Rattle.clif_instructions.specs.declared.block_call.BlockCall.{BlockCall}
use Rattle.clif_switch_calls.specs.SwitchCalls.{Switched, bare_edge}
use Rattle.clif_switch_calls.specs.SwitchLaw.{RefusalsAreOfKeys, case_edges, case_keys, refusal_in}
use Rattle.clif_switch.specs.Emission.{MayLead}
use Rattle.clif_switch.specs.Emission.{SwitchIsFull}
use Rattle.clif_switch.specs.Switches.{Emits, IsCodeOf, MayEmit, NamesSwitch}
use Rattle.clif_switch_calls.specs.SwitchSizes.{switch_makes}
use Rattle.clif_meaning.specs.Sizes.{Table, Blocks, Instructions, JumpTables, MakesAtMost, Values, entries_in}
use Rattle.clif_replay.specs.Limits.{MayFill, is_counted}
use Rattle.clif_replay.specs.Cases.{are_targets, are_twice, can_switch_on, cases_at, cases_of, edges_to, keys_of, number_at, set_entries, switch_told, switch_under}
use Rattle.clif_replay.specs.Emits.{IsReadyBehindSwitch, MakesSwitch}
use Rattle.clif_replay.specs.Ready.{IsAnswered, IsReady, TablesAgree}
use Rattle.clif_replay.specs.Requests.{Naming}
use Rattle.clif_replay.proofs.Conditions.{has-current, open-same, target-same, value-type-same}
use Rattle.clif_replay.proofs.Emitted.{extended, extended-earlier, extended-here, ready-with}
use Rattle.clif_replay.proofs.Lasting.{exceptions-stay, tables-stay}
use Rattle.clif_replay.proofs.Making.{loans-stay}
use Rattle.clif_replay.proofs.ReadyLaws.{block-found, read, value-exists, value-found, value-missing}
use Rattle.clif_replay.proofs.SwitchCases.{all-entries, map-mapped, maps-alike, same-keys}

-- THE CONDITION -----------------------------------------------------------------------------------------------------------

and-true : (a : Bool) → (a && true) ≡ a
and-true true = refl
and-true false = refl

and-false : (a b : Bool) → b ≡ false → (a && b) ≡ false
and-false true b is = is
and-false false b is = refl

-- an open block, a value, targets, and an integer
abbrev condition : (opens value targets integer : Bool) → Bool
condition opens value targets integer = true && opens && (value && true) && targets && integer

no-value : (opens targets integer : Bool) → condition opens false targets integer ≡ false
no-value true targets integer = refl
no-value false targets integer = refl

no-target : (opens value all integer : Bool) → condition opens value (all && false) integer ≡ false
no-target true true true integer = refl
no-target true true false integer = refl
no-target true false true integer = refl
no-target true false false integer = refl
no-target false value all integer = refl

in-order : (opens all target integer : Bool) → condition opens true (all && target) integer ≡ (opens && integer && target && all)
in-order false all target integer = refl
in-order true true true true = refl
in-order true true true false = refl
in-order true true false true = refl
in-order true true false false = refl
in-order true false true true = refl
in-order true false true false = refl
in-order true false false true = refl
in-order true false false false = refl

module _ {R : Type 0} {naming : Naming} {declared : SignatureShape} (calls : List AnsweredCall) (b : FunctionBuilder R) (answers : List Answer) (ready : IsReady naming declared calls b answers) where
  abbrev ledger : Ledger
  ledger = ledger_of calls

  bare-same : (name : Name) → can_lead ledger (bare_edge (naming name)) ≡ is_target b (block_of answers name)
  bare-same name = ap (λ (test : Bool). test && true) (target-same calls b answers ready name) ∙ and-true (is_target b (block_of answers name))

  cases-same : (cases : List (ℕ × Name)) → list_all (can_lead ledger) (map (λ case. bare_edge (naming case.1)) cases) ≡ list_all (λ case. is_target b (block_of answers case.1)) cases
  cases-same [] = refl
  cases-same (case ∷ cases) = ap₂ (λ (c d : Bool). c && d) (bare-same case.1) (cases-same cases)

  set-same : (entries : List SwitchEntry) → list_all (λ case. is_target b (block_of answers case.1)) (set_entries entries) ≡ are_targets b answers entries
  set-same [] = refl
  set-same (entry ∷ entries) = ap (λ (rest : Bool). is_target b (block_of answers entry.block) && rest) (set-same entries)

  all-cases : (entries : List SwitchEntry) → list_all (λ case. is_target b (block_of answers case.1)) (cases_of entries) ≡ are_targets b answers entries
  all-cases entries = by (are_twice entries) refl
    where
      by : (c : Bool) → are_twice entries ≡ c
          → list_all (λ case. is_target b (block_of answers case.1)) (if c then set_entries entries else finite.entries (finite.from_entries {R = nat_cmp} (set_entries entries)))
          ≡ are_targets b answers entries
      by true is = set-same entries
      by false is = all-entries (λ (name : Name). is_target b (block_of answers name)) (set_entries entries) is ∙ set-same entries

  edges-same : (entries : List SwitchEntry) (otherwise : Name) → list_all (can_lead ledger) (edges_to naming entries otherwise) ≡ (are_targets b answers entries && is_target b (block_of answers otherwise))
  edges-same entries otherwise =
      list_all-append (can_lead ledger) (map (λ case. bare_edge (naming case.1)) (cases_of entries)) (bare_edge (naming otherwise) ∷ [])
      ∙ ap₂ (λ (c d : Bool). c && d) (cases-same (cases_of entries) ∙ all-cases entries) (and-true (can_lead ledger (bare_edge (naming otherwise))) ∙ bare-same otherwise)

  allowed-is : (entries : List SwitchEntry) (value otherwise : Name) → call_allowed ledger (Emit [] (switch_under naming ledger entries value otherwise))
      ≡ condition (acceptance.is_open ledger ledger.current) (has_value ledger (naming value)) (are_targets b answers entries && is_target b (block_of answers otherwise)) (is_int (or_invalid (type_of ledger (naming value))))
  allowed-is entries value otherwise =
      ap (λ (targets : Bool). condition (acceptance.is_open ledger ledger.current) (has_value ledger (naming value)) targets (is_int (or_invalid (type_of ledger (naming value))))) (edges-same entries otherwise)

-- the switch may be made in each ledger with which the builder agrees, or in none
abbrev pub SwitchJudged : {R : Type 0} → List SwitchEntry → (value otherwise : Name) → FunctionBuilder R → List Answer → Bool → Type 0
SwitchJudged entries value otherwise b answers allowed =
    (naming : Naming) (declared : SignatureShape) (calls : List AnsweredCall) → IsReady naming declared calls b answers
    → call_allowed (ledger_of calls) (Emit [] (switch_under naming (ledger_of calls) entries value otherwise)) ≡ allowed

module _ {R : Type 0} (entries : List SwitchEntry) (value otherwise : Name) (b : FunctionBuilder R) (answers : List Answer) where
  pub value-judged : value_of b.func.now answers value ≡ None → SwitchJudged entries value otherwise b answers false
  value-judged none naming declared calls ready =
      let ledger : Ledger = ledger_of calls in
      allowed-is calls b answers ready entries value otherwise
      ∙ ap (λ (v : Bool). condition (acceptance.is_open ledger ledger.current) v (are_targets b answers entries && is_target b (block_of answers otherwise)) (is_int (or_invalid (type_of ledger (naming value)))))
      (value-missing calls b answers ready value none)
      ∙ no-value (acceptance.is_open ledger ledger.current) (are_targets b answers entries && is_target b (block_of answers otherwise)) (is_int (or_invalid (type_of ledger (naming value))))

  pub block-judged : block_of answers otherwise ≡ None → SwitchJudged entries value otherwise b answers false
  block-judged none naming declared calls ready =
      let ledger : Ledger = ledger_of calls in
      allowed-is calls b answers ready entries value otherwise
      ∙ ap (λ (o : Option ℕ). condition (acceptance.is_open ledger ledger.current) (has_value ledger (naming value)) (are_targets b answers entries && is_target b o) (is_int (or_invalid (type_of ledger (naming value))))) none
      ∙ no-target (acceptance.is_open ledger ledger.current) (has_value ledger (naming value)) (are_targets b answers entries) (is_int (or_invalid (type_of ledger (naming value))))

  pub all-judged : (val : ℕ) → value_of b.func.now answers value ≡ Some val → SwitchJudged entries value otherwise b answers (can_switch_on b answers entries val otherwise)
  all-judged val found naming declared calls ready =
      let ledger : Ledger = ledger_of calls in
      let targets : Bool = are_targets b answers entries && is_target b (block_of answers otherwise) in
      let integer : Bool = is_int (or_invalid (type_of ledger (naming value))) in
      allowed-is calls b answers ready entries value otherwise
      ∙ ap (λ (o : Bool). condition o (has_value ledger (naming value)) targets integer) (open-same calls b answers ready)
      ∙ ap (λ (v : Bool). condition (is_open b) v targets integer) (value-found calls b answers ready value val found).is_value
      ∙ ap (λ (t : Option «Type»). condition (is_open b) true targets (is_int (or_invalid t))) (value-type-same calls b answers ready value val found)
      ∙ in-order (is_open b) (are_targets b answers entries) (is_target b (block_of answers otherwise)) (is_int (value_at b.func.now val).ty)

pub judged-as : {R : Type 0} (entries : List SwitchEntry) (value otherwise : Name) (b : FunctionBuilder R) (answers : List Answer) (c d : Bool) → c ≡ d → SwitchJudged entries value otherwise b answers c
    → SwitchJudged entries value otherwise b answers d
judged-as entries value otherwise b answers c d same judges naming declared calls ready = judges naming declared calls ready ∙ same

-- TARGETS -----------------------------------------------------------------------------------------------------------------

target-is : {R : Type 0} (b : FunctionBuilder R) (answers : List Answer) (name : Name) → is_target b (block_of answers name) ≡ true → (k : ℕ) × (block_of answers name ≡ Some k) × (can_seal b k ≡ true)
target-is b answers name is = by (block_of answers name) refl is
  where
    by : (o : Option ℕ) → block_of answers name ≡ o → is_target b o ≡ true → (k : ℕ) × (block_of answers name ≡ Some k) × (can_seal b k ≡ true)
    by None at is = absurd (false≢true is)
    by (Some k) at is = (k, at, is)

-- what holds of the blocks of all entries holds of the map's
found-case : (P : ℕ → Type 0) (p : Name → Bool) (answers : List Answer) → ((name : Name) → p name ≡ true → P (number_at answers name))
    → (entries : List SwitchEntry) → list_all (λ entry. p entry.block) entries ≡ true → (key block : ℕ) → finite.get (cases_at answers entries) key ≡ Some block → P block
found-case P p answers each entries all key block is = listed entries all (sym (get-from_entries nat_cmp_total (map (λ entry. (entry.key, number_at answers entry.block)) entries) key) ∙ is)
  where
    listed : (entries : List SwitchEntry) → list_all (λ entry. p entry.block) entries ≡ true
        → find nat_cmp key (map (λ (entry : SwitchEntry). (entry.key, number_at answers entry.block)) entries) ≡ Some block → P block
    listed [] all found = absurd (none-some block found)
    listed (entry ∷ entries) all found =
        let parts = and_parts (p entry.block) (list_all (λ (e : SwitchEntry). p e.block) entries) all in
        by (eq_by_cmp nat_cmp key entry.key) found (each entry.block parts.0) (listed entries parts.1)
      where
        by : (here : Bool) → cond here (Some (number_at answers entry.block)) (find nat_cmp key (map (λ (e : SwitchEntry). (e.key, number_at answers e.block)) entries)) ≡ Some block
            → P (number_at answers entry.block)
            → (find nat_cmp key (map (λ (e : SwitchEntry). (e.key, number_at answers e.block)) entries) ≡ Some block → P block) → P block
        by true found one later = subst P (same_Some (number_at answers entry.block) block found) one
        by false found one later = later found

module _ {R : Type 0} {naming : Naming} {declared : SignatureShape} (calls : List AnsweredCall) (b : FunctionBuilder R) (answers : List Answer) (ready : IsReady naming declared calls b answers) where
  abbrev names-of : ℕ → named.Name
  names-of k = unwrap_or (block_name (ledger_of calls) k) (named.answer_of 0 0)

  module _ (name : Name) (is : is_target b (block_of answers name) ≡ true) where
    abbrev target : (k : ℕ) × (block_of answers name ≡ Some k) × (can_seal b k ≡ true)
    target = target-is b answers name is

    number-is : number_at answers name ≡ target.0
    number-is = ap (λ (o : Option ℕ). unwrap_or o 0) target.1

    block-is : NamesBlock calls (naming name) target.0
    block-is = block-found calls b answers ready name target.0 target.1

    block-named : block_name (ledger_of calls) target.0 ≡ Some (naming name)
    block-named = (read calls b answers ready).named (naming name) target.0 block-is

    -- the block's own name is this one
    pub name-is : names-of (number_at answers name) ≡ naming name
    name-is = ap names-of number-is ∙ ap (λ (o : Option named.Name). unwrap_or o (named.answer_of 0 0)) block-named

    pub number-named : NamesBlock calls (names-of (number_at answers name)) (number_at answers name)
    number-named = subst (λ (n : named.Name). NamesBlock calls n (number_at answers name)) (sym name-is) (subst (λ (k : ℕ). NamesBlock calls (naming name) k) (sym number-is) block-is)

    pub number-leads : MayLead b (number_at answers name)
    number-leads = subst (MayLead b) (sym number-is) (record {
      exists = (read calls b answers ready).exists target.0 (naming name) block-named;
      unsealed = by (is_yes (sealed_of b.ctx.now.parts.ssa target.0)) target.2;
    })
      where
        by : (c : Bool) → not c ≡ true → c ≡ false
        by true is = absurd (false≢true is)
        by false is = refl

  -- a switch may be emitted where its condition holds
  pub may-emit : (entries : List SwitchEntry) (val : ℕ) (value otherwise : Name) (other : ℕ) → value_of b.func.now answers value ≡ Some val → block_of answers otherwise ≡ Some other
      → can_switch_on b answers entries val otherwise ≡ true → MayEmit (cases_at answers entries) val other b
  may-emit entries val value otherwise other found at can =
      let parts = and_parts (is_open b && is_int (value_at b.func.now val).ty && is_target b (block_of answers otherwise)) (are_targets b answers entries) can in
      let front = and_parts (is_open b && is_int (value_at b.func.now val).ty) (is_target b (block_of answers otherwise)) parts.0 in
      let first = and_parts (is_open b) (is_int (value_at b.func.now val).ty) front.0 in
      record {
        current = has-current calls b answers ready first.0;
        exists = value-exists calls b answers ready value val found;
        integer = first.1;
        otherwise_leads = subst (MayLead b) (ap (λ (o : Option ℕ). unwrap_or o 0) at) (number-leads otherwise front.1);
        cases_lead = found-case (MayLead b) (λ (name : Name). is_target b (block_of answers name)) answers number-leads entries parts.1;
      }

-- THE CASES ---------------------------------------------------------------------------------------------------------------

module _ (entries : List SwitchEntry) (answers : List Answer) (once : are_twice entries ≡ false) where
  cases-are : cases_of entries ≡ finite.entries (finite.from_entries {R = nat_cmp} (set_entries entries))
  cases-are = ap (λ (c : Bool). if c then set_entries entries else finite.entries (finite.from_entries {R = nat_cmp} (set_entries entries))) once

  -- a case, with its block's number
  abbrev case-at : SwitchEntry → ℕ × ℕ
  case-at entry = (entry.key, number_at answers entry.block)

  abbrev renumber : ℕ × Name → ℕ × ℕ
  renumber e = (e.0, number_at answers e.1)

  numbered : (list : List SwitchEntry) → map case-at list ≡ map renumber (set_entries list)
  numbered [] = refl
  numbered (entry ∷ list) = ap (λ (rest : List (ℕ × ℕ)). case-at entry ∷ rest) (numbered list)

  -- the builder's cases have the numbers of the list's blocks
  entries-are : finite.entries (cases_at answers entries) ≡ map renumber (cases_of entries)
  entries-are =
      ap (λ (list : List (ℕ × ℕ)). finite.entries (finite.from_entries {R = nat_cmp} list)) (numbered entries)
      ∙ map-mapped (number_at answers) (set_entries entries)
      ∙ ap (map renumber) (sym cases-are)

  pub keys-are : keys_of entries ≡ case_keys (cases_at answers entries)
  keys-are = sym (ap (map (λ (case : ℕ × ℕ). case.0)) entries-are ∙ same-keys (number_at answers) (cases_of entries))

  mapped-twice : {Z : Type 0} (f : ℕ → Z) (list : List (ℕ × Name)) → map (λ (case : ℕ × ℕ). f case.1) (map renumber list) ≡ map (λ (case : ℕ × Name). f (number_at answers case.1)) list
  mapped-twice f [] = refl
  mapped-twice f (e ∷ list) = ap (λ rest. f (number_at answers e.1) ∷ rest) (mapped-twice f list)

  module _ {R : Type 0} {naming : Naming} {declared : SignatureShape} (calls : List AnsweredCall) (b : FunctionBuilder R) (ready : IsReady naming declared calls b answers)
      (targets : are_targets b answers entries ≡ true) (otherwise : Name) (s : Switched) (named-by : s.named ≡ names-of calls b answers ready) (other-is : s.otherwise ≡ naming otherwise) where
    pub edges-are : edges_to naming entries otherwise ≡ case_edges s (cases_at answers entries)
    edges-are = sym (
        ap₂ (λ (named-to : ℕ → named.Name) (list : List (ℕ × ℕ)). map (λ case. bare_edge (named-to case.1)) list ++ bare_edge s.otherwise ∷ []) named-by entries-are
        ∙ ap (λ (n : named.Name). map (λ (case : ℕ × ℕ). bare_edge (names-of calls b answers ready case.1)) (map renumber (cases_of entries)) ++ bare_edge n ∷ []) other-is
        ∙ ap (λ (front : List (meaning.Edge named.Name named.Name)). front ++ bare_edge (naming otherwise) ∷ [])
        (mapped-twice (λ k. bare_edge (names-of calls b answers ready k)) (cases_of entries)
        ∙ maps-alike (λ (name : Name). is_target b (block_of answers name)) (λ (name : Name). bare_edge (names-of calls b answers ready (number_at answers name))) (λ (name : Name). bare_edge (naming name))
        (λ name is. ap bare_edge (name-is calls b answers ready name is)) (cases_of entries)
        (all-cases calls b answers ready entries ∙ targets)))

-- where no key comes twice, the keys are refused as the builder's cases are
module _ (law : RefusalsAreOfKeys) (entries : List SwitchEntry) (answers : List Answer) (once : are_twice entries ≡ false) (ty : «Type») where
  pub refused-keys : (e : SwitchError) → IsRefusal (cases_at answers entries) ty e → is_some (refusal_in e) ≡ true → is_some (option_map OfSwitch (keys_refusal ty (keys_of entries))) ≡ true
  refused-keys e is told =
      ap (λ (keys : List ℕ). is_some (option_map OfSwitch (keys_refusal ty keys))) (keys-are entries answers once)
      ∙ ap (λ (refusal : Option SwitchRefusal). is_some (option_map OfSwitch refusal)) (law.refused (cases_at answers entries) ty e is told) ∙ by (refusal_in e) told
    where
      by : (o : Option SwitchRefusal) → is_some o ≡ true → is_some (option_map OfSwitch o) ≡ true
      by None is = is
      by (Some x) is = refl

module _ (law : RefusalsAreOfKeys) (entries : List SwitchEntry) (answers : List Answer) (once : are_twice entries ≡ false) where
  pub taken-keys : (ty : «Type») (ranges : List CaseRange) → AreRangesFor (cases_at answers entries) ty ranges → is_some (option_map OfSwitch (keys_refusal ty (keys_of entries))) ≡ false
  taken-keys ty ranges are =
      ap (λ (keys : List ℕ). is_some (option_map OfSwitch (keys_refusal ty keys))) (keys-are entries answers once)
      ∙ ap (λ (refusal : Option SwitchRefusal). is_some (option_map OfSwitch refusal)) (law.taken (cases_at answers entries) ty ranges are)

-- a key that comes twice is refused, whatever the type
pub twice-refused : (entries : List SwitchEntry) (ty : «Type») → are_twice entries ≡ true → is_some (option_map OfSwitch (keys_refusal ty (keys_of entries))) ≡ true
twice-refused entries ty twice =
    ap (λ (keys : List ℕ). is_some (option_map OfSwitch (keys_refusal ty keys))) keys-given
    ∙ ap (λ (c : Bool). is_some (option_map OfSwitch (if c then Some SetTwice else rest (map (λ case. case.0) (set_entries entries))))) twice
  where
    keys-given : keys_of entries ≡ map (λ case. case.0) (set_entries entries)
    keys-given = ap (λ (c : Bool). map (λ case. case.0) (if c then set_entries entries else finite.entries (finite.from_entries {R = nat_cmp} (set_entries entries)))) twice

    rest : List ℕ → Option SwitchRefusal
    rest keys = if list_any (nat_lt (greatest_of ty false)) keys then Some TooGreat
        else (if list_any (λ key. not (nat_lt (run_from keys key keys) (2 ^ 32))) keys then Some TooLong else None)

-- WHAT IS KNOWN AFTERWARDS --------------------------------------------------------------------------------------------------

no-failure : (x y : CallError) → (x ≡ y → ⊥) → ◌≡◌ {A = Result Answer CallError} (Err x) (Err y) → ⊥
no-failure x y apart same = apart (told x y same)
  where
    told : (a c : CallError) → ◌≡◌ {A = Result Answer CallError} (Err a) (Err c) → a ≡ c
    told a c h = cc

no-full : {a : Answer} → ◌≡◌ {A = Result Answer CallError} (Ok a) (Err error.Full) → ⊥
no-full same = cc

-- it may not be made
pub switch-misused : {R : Type 0} {why : Condition} (entries : List SwitchEntry) (value otherwise : Name) (b : FunctionBuilder R) (answers : List Answer) → SwitchJudged entries value otherwise b answers false
    → MakesSwitch entries value otherwise b b answers (Err (error.Misuse why))
switch-misused {why = why} entries value otherwise b answers judges = record {
  full = λ told. absurd (no-failure (error.Misuse why) error.Full (λ same. cc) told);
  loans = loans-stay b;
  name = tt;
  ready = λ naming declared calls ready. tt;
  judged = λ naming declared calls ready. (judges naming declared calls ready, refl);
  sound = tt;
  variables = tt;
}

-- its entries can't be set: memory is refused, or a key comes twice
pub switch-unset : {R : Type 0} (entries : List SwitchEntry) (value otherwise : Name) (b : FunctionBuilder R) (answers : List Answer) (e : CallError)
    → SwitchJudged entries value otherwise b answers true → ((why : Condition) × (e ≡ error.Refused why) × (are_twice entries ≡ true)) ⊎ (e ≡ error.Memory)
    → MakesSwitch entries value otherwise b b answers (Err e)
switch-unset entries value otherwise b answers e judges (inr memory) = subst (λ (x : CallError). MakesSwitch entries value otherwise b b answers (Err x)) (sym memory) (record {
  full = λ told. absurd (no-failure error.Memory error.Full (λ same. cc) told);
  loans = loans-stay b;
  name = tt;
  ready = λ naming declared calls ready. tt;
  judged = λ naming declared calls ready. tt;
  sound = tt;
  variables = tt;
})
switch-unset entries value otherwise b answers e judges (inl (why, refused, twice)) = subst (λ (x : CallError). MakesSwitch entries value otherwise b b answers (Err x)) (sym refused) (record {
  full = λ told. absurd (no-failure (error.Refused why) error.Full (λ same. cc) told);
  loans = loans-stay b;
  name = tt;
  ready = λ naming declared calls ready. tt;
  judged = λ naming declared calls ready. inr (judges naming declared calls ready, twice-refused entries (or_invalid (type_of (ledger_of calls) (naming value))) twice);
  sound = tt;
  variables = tt;
})

-- a table that it fills has what it had, and at most what its keys take
switch-fills : {R : Type 0} {keys : List ℕ} {cases : CaseMap} {val other : ℕ} {old new : FunctionBuilder R} → keys ≡ case_keys cases
    → Emits cases val other old new (Err (switch_error.Build build.Full)) → MayFill (switch_makes (length keys)) old.func.now
switch-fills {keys} {cases} {old = old} {new = new} same emits = by (emits.full refl)
  where
    most : MakesAtMost (switch_makes (length keys)) old.func.now new.func.now
    most = subst (λ (ks : List ℕ). MakesAtMost (switch_makes (length ks)) old.func.now new.func.now) (sym same) (emits.most (λ memory. cc))

    full : (table : Table) → is_counted table ≡ true → entries_in new.func.now table ≡ 2 ^ 32 - 1 → MayFill (switch_makes (length keys)) old.func.now
    full table counted is = let few = most table in (table, counted, omega (arith, few, is))

    by : SwitchIsFull new.func.now → MayFill (switch_makes (length keys)) old.func.now
    by (inl (inl values)) = full Values refl values
    by (inl (inr insts)) = full Instructions refl insts
    by (inr (inl blocks)) = full Blocks refl blocks
    by (inr (inr tables)) = full JumpTables refl tables

-- it isn't emitted: for its keys, or since a call of the builder failed
module _ {R : Type 0} (law : RefusalsAreOfKeys) (entries : List SwitchEntry) (value otherwise : Name) (old new : FunctionBuilder R) (answers : List Answer) (val other : ℕ)
    (found : value_of old.func.now answers value ≡ Some val) (once : are_twice entries ≡ false) (sound : old.failed ≡ false) (judges : SwitchJudged entries value otherwise old answers true) where
  failed-by : (e : BuildError) → Emits (cases_at answers entries) val other old new (Err (switch_error.Build e)) → MakesSwitch entries value otherwise old new answers (Err (call_error_of e))
  failed-by build.Memory emits = record {
    full = λ told. absurd (no-failure error.Memory error.Full (λ same. cc) told);
    loans = emits.loans;
    name = tt;
    ready = λ naming declared calls ready. tt;
    judged = λ naming declared calls ready. tt;
    sound = tt;
    variables = tt;
  }
  failed-by build.Full emits = record {
    full = λ told. switch-fills (keys-are entries answers once) emits;
    loans = emits.loans;
    name = tt;
    ready = λ naming declared calls ready. tt;
    judged = λ naming declared calls ready. judges naming declared calls ready;
    sound = tt;
    variables = tt;
  }
  failed-by build.Failed emits =
      let failed : old.failed ≡ true = emits.failed.0 refl in
      absurd (false≢true (sym sound ∙ failed))

  refused-by : {why : Condition} (e : SwitchError) → IsRefusal (cases_at answers entries) (value_at old.func.now val).ty e → is_some (refusal_in e) ≡ true → Emits (cases_at answers entries) val other old new (Err e)
      → MakesSwitch entries value otherwise old new answers (Err (error.Refused why))
  refused-by {why = why} e is told emits = record {
    full = λ same. absurd (no-failure (error.Refused why) error.Full (λ no. cc) same);
    loans = emits.loans;
    name = tt;
    ready = λ naming declared calls ready. tt;
    judged = λ naming declared calls ready. inr (
      judges naming declared calls ready,
      ap (λ (t : Option «Type»). is_some (option_map OfSwitch (keys_refusal (or_invalid t) (keys_of entries)))) (value-type-same calls old answers ready value val found)
          ∙ refused-keys law entries answers once (value_at old.func.now val).ty e is told,
    );
    sound = tt;
    variables = tt;
  }

  pub switch-unemitted : (e : SwitchError) → Emits (cases_at answers entries) val other old new (Err e) → MakesSwitch entries value otherwise old new answers (Err (switch_told e))
  switch-unemitted (switch_error.Build e) emits = failed-by e emits
  switch-unemitted (switch_error.SetTwice key) emits = absurd emits.errors.0
  switch-unemitted (switch_error.KeyTooWide ty max) emits = refused-by (switch_error.KeyTooWide ty max) emits.errors.0 refl emits
  switch-unemitted switch_error.TableTooLong emits = refused-by switch_error.TableTooLong emits.errors.0 refl emits

-- TABLES ------------------------------------------------------------------------------------------------------------------

tables-longer : {A B : Type 0} (Agree : A → B → Type 0) (xs : List (Option A)) (ys : List (Option B)) (n : ℕ) → TablesAgree Agree xs ys
    → TablesAgree Agree (xs ++ replicate n None) (ys ++ replicate n None)
tables-longer Agree [] [] zero are = tt
tables-longer Agree [] [] (suc n) are = (tt, tables-longer Agree [] [] n tt)
tables-longer Agree [] (y ∷ ys) n are = absurd are
tables-longer Agree (x ∷ xs) [] n are = absurd are
tables-longer Agree (x ∷ xs) (y ∷ ys) n are = (are.0, tables-longer Agree xs ys n are.1)

-- code that decides leaves exception tables
served-alone : (tables : List (Option ExceptionTable)) (first : ℕ) (entries : List GivenEntry) → AllByRecursion (IsTableFrom first) entries → with_tried tables entries ≡ tables
served-alone tables first [] all = refl
served-alone tables first (ServedBy table ∷ entries) all = served-alone tables first entries all.1
served-alone tables first (TriedBy table ∷ entries) all = absurd all.0
served-alone tables first (Imported entry ∷ entries) all = absurd all.0

exceptions-left : (ledger : Ledger) (base tables : ℕ) (targets : List named.Name) (request : Request) → IsDecidingCall base tables targets request
    → (ledger_with ledger request).exception_tables ≡ ledger.exception_tables
exceptions-left ledger base tables targets request is = by (tables_effect request)
  where
    tables-of : {other : Request} → request ≡ other → (ledger_with ledger request).exception_tables ≡ (ledger_with ledger other).exception_tables
    tables-of same = ap (λ (r : Request). (ledger_with ledger r).exception_tables) same

    by : TablesEffect request → (ledger_with ledger request).exception_tables ≡ ledger.exception_tables
    by (TablesStay none stay) = (stay ledger).exception_tables
    by (EntryMade entry same) = tables-of same
    by (JumpTableMade default entries same) = tables-of same
    by (ExceptionTableMade signature normal items same) = absurd (subst (IsDecidingCall base tables targets) same is)
    by (TablesServe entries instruction same) =
        tables-of same ∙ served-alone ledger.exception_tables tables entries (subst (IsDecidingCall base tables targets) same is).1

all-left : (more : Script) (ledger : Ledger) (base tables : ℕ) (targets : List named.Name) → AllByRecursion (IsDecidingCall base tables targets) more
    → (fold ledger_with ledger more).exception_tables ≡ ledger.exception_tables
all-left [] ledger base tables targets all = refl
all-left (request ∷ more) ledger base tables targets all =
    all-left more (ledger_with ledger request) base tables targets all.1 ∙ exceptions-left ledger base tables targets request all.0

-- IT WAS MADE -------------------------------------------------------------------------------------------------------------

begins-some : (more : Script) → BeginsHere more → 0 < length more
begins-some [] begins = absurd begins
begins-some (request ∷ more) begins = omega arith

open-some : (ledger : Ledger) (o : Option named.Name) → acceptance.is_open ledger o ≡ true → (x : named.Name) × (o ≡ Some x)
open-some ledger None is = absurd (false≢true is)
open-some ledger (Some x) is = (x, refl)

few : (n : ℕ) → n ≤ 2 ^ n
few zero = omega arith
few (suc n) = let rest = few n in let more = pow_below n (suc n) (omega arith) in omega (arith, rest, more)

module _ {R : Type 0} (law : RefusalsAreOfKeys) (entries : List SwitchEntry) (value otherwise : Name) (old new : FunctionBuilder R) (answers : List Answer) (val other : ℕ)
    (found : value_of old.func.now answers value ≡ Some val) (at : block_of answers otherwise ≡ Some other) (can : can_switch_on old answers entries val otherwise ≡ true)
    (once : are_twice entries ≡ false) (emits : Emits (cases_at answers entries) val other old new (Ok tt)) where
  module _ {naming : Naming} {declared : SignatureShape} (calls : List AnsweredCall) (ready : IsReady naming declared calls old answers) where
    abbrev at-ledger : Ledger
    at-ledger = ledger_of calls

    opens : acceptance.is_open at-ledger at-ledger.current ≡ true
    opens =
        let parts = and_parts (is_open old && is_int (value_at old.func.now val).ty && is_target old (block_of answers otherwise)) (are_targets old answers entries) can in
        let front = and_parts (is_open old && is_int (value_at old.func.now val).ty) (is_target old (block_of answers otherwise)) parts.0 in
        open-same calls old answers ready ∙ (and_parts (is_open old) (is_int (value_at old.func.now val).ty) front.0).0

    targets : are_targets old answers entries ≡ true
    targets = (and_parts (is_open old && is_int (value_at old.func.now val).ty && is_target old (block_of answers otherwise)) (are_targets old answers entries) can).1

    current : (block : named.Name) × (at-ledger.current ≡ Some block)
    current = open-some at-ledger at-ledger.current opens

    abbrev s : Switched
    s = record { ty = (value_at old.func.now val).ty; value = naming value; otherwise = naming otherwise; named = names-of calls old answers ready }

    names : NamesSwitch calls s (cases_at answers entries) val other
    names = record {
      value_named = value-found calls old answers ready value val found;
      typed = value-type-same calls old answers ready value val found;
      otherwise_named = block-found calls old answers ready otherwise other at;
      cases_named = found-case (λ (block : ℕ). NamesBlock calls (names-of calls old answers ready block) block) (λ (name : Name). is_target old (block_of answers name)) answers
          (number-named calls old answers ready) entries targets;
    }

    abbrev stood : (added : List AnsweredCall) × StandsFor declared (calls ++ added) new × IsCodeOf calls added s (cases_at answers entries) current.0
    stood = emits.stands declared calls s current.0 ready.stands current.1 names

    abbrev added : List AnsweredCall
    added = stood.0

    code : IsSwitchCode (script_of calls) (script_of added) current.0 s.value s.ty (case_keys (cases_at answers entries)) (case_edges s (cases_at answers entries)) (length stood.2.ranges + 2) 1
    code = stood.2.code (length stood.2.ranges) (few (length stood.2.ranges))

    switch-is : switch_under naming at-ledger entries value otherwise ≡ switching (case_keys (cases_at answers entries)) s.ty s.value (case_edges s (cases_at answers entries))
    switch-is = λ i. switching (keys-are entries answers once i) (or_invalid (value-type-same calls old answers ready value val found i)) (naming value)
        (edges-are entries answers once calls old ready targets otherwise s refl refl i)

    abbrev all : List AnsweredCall
    all = calls ++ added

    some : 0 < length added
    some = let script = begins-some (script_of added) code.begins in let same = length-map added (λ (call : AnsweredCall). call.request) in omega (arith, script, same)

    abbrev last : ℕ
    last = length calls + length added - 1

    at-end : length all ≡ suc last
    at-end = let both = length-append calls added in omega (arith, both, some)

    there : (call : AnsweredCall) × (slice_get all last ≡ Some call)
    there = get-below all last (omega (arith, at-end))

    given : (answered : List Answered) × (slice_get (ledger_of all).answers last ≡ Some answered)
    given = get-below (ledger_of all).answers last (let places = stood.1.ledger.places in omega (arith, at-end, places))

    abbrev plain-more : Script
    plain-more = script_of calls ++ script_of added

    script-both : script_of all ≡ plain-more
    script-both = map-append (λ (call : AnsweredCall). call.request) calls added

    tables-are : TablesAgree (NamesEdges all) (ledger_of all).jump_tables new.func.now.tables.jump_tables
    tables-are =
        subst (λ (ts : List (Option (List BlockCall))). TablesAgree (NamesEdges all) (ledger_of all).jump_tables ts) (sym emits.tables)
        (subst (λ (ts : List (Option (List (meaning.Edge named.Name named.Name)))). TablesAgree (NamesEdges all) ts
        (old.func.now.tables.jump_tables ++ replicate (table_count (case_keys (cases_at answers entries)) (case_keys (cases_at answers entries))) None))
        (sym (ap (λ (script : Script). (ledger_after script).jump_tables) script-both ∙ code.jump_tables))
        (tables-longer (NamesEdges all) at-ledger.jump_tables old.func.now.tables.jump_tables (table_count (case_keys (cases_at answers entries)) (case_keys (cases_at answers entries)))
        (tables-stay ready.reads calls added old new ready.stands stood.1 at-ledger.jump_tables old.func.now.tables.jump_tables ready.tables)))

    exceptions-are : TablesAgree (NamesExceptions all) (ledger_of all).exception_tables new.func.now.tables.exception_tables
    exceptions-are =
        subst (TablesAgree (NamesExceptions all) (ledger_of all).exception_tables) (sym emits.exceptions)
        (subst (λ (ts : List (Option ExceptionTable)). TablesAgree (NamesExceptions all) ts old.func.now.tables.exception_tables)
        (sym (ap (λ (l : Ledger). l.exception_tables) (ledger-behind calls added)
        ∙ all-left (script_of added) at-ledger (length (script_of calls)) (length (ledger_after (script_of calls)).jump_tables) _ code.calls))
        (exceptions-stay ready.reads calls added old new ready.stands stood.1 at-ledger.exception_tables old.func.now.tables.exception_tables ready.exceptions))

    no-edge : (made : BlockCall) → answer.Nothing ≡ answer.Edge made → ⊥
    no-edge made same = cc

    newest : IsAnswered (extended naming (length answers) last (length given.0) (length all)) all (length answers) answer.Nothing
    newest = record {
      other = last;
      call = there.0;
      answered = given.0;
      at_call = there.1;
      at_answered = given.1;
      leads = inr (inr (λ name here. extended-here naming (length answers) last (length given.0) (length all) name here, refl));
    }

    behind : IsReadyBehindSwitch naming declared calls (switch_under naming at-ledger entries value otherwise) new answers answer.Nothing
    behind = record {
      added = added;
      block = current.0;
      value = s.value;
      ty = s.ty;
      keys = case_keys (cases_at answers entries);
      edges = case_edges s (cases_at answers entries);
      branches = length stood.2.ranges + 2;
      tables = 1;
      is = switch-is;
      current = current.1;
      code = code;
      most = stood.2.most;
      last = last;
      at_end = at-end;
      given = given.0;
      at_given = given.1;
      extended = extended naming (length answers) last (length given.0) (length all);
      earlier = λ name less. extended-earlier naming (length answers) last (length given.0) (length all) name less;
      behind = λ name here. extended-here naming (length answers) last (length given.0) (length all) name here;
      nothing = refl;
      ready = ready-with calls added old new answers answer.Nothing last (length given.0) ready stood.1 newest no-edge tables-are exceptions-are;
    }

    not-refused : is_some (call_refusal at-ledger (Emit [] (switch_under naming at-ledger entries value otherwise))) ≡ false
    not-refused =
        ap (λ (t : Option «Type»). is_some (option_map OfSwitch (keys_refusal (or_invalid t) (keys_of entries)))) (value-type-same calls old answers ready value val found)
        ∙ taken-keys law entries answers once (value_at old.func.now val).ty stood.2.ranges stood.2.ranges_for

  pub switch-made : MakesSwitch entries value otherwise old new answers (Ok answer.Nothing)
  switch-made = record {
    full = λ told. absurd (no-full told);
    loans = emits.loans;
    name = emits.grows.3;
    ready = λ naming declared calls ready. behind calls ready;
    judged = λ naming declared calls ready. (all-judged entries value otherwise old answers val found naming declared calls ready ∙ can, not-refused calls ready);
    sound = emits.sound;
    variables = emits.variables;
  }
