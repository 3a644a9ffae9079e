-- What names lead to, where the builder agrees with the ledger of the calls.
use Rattle.std.proofs.Common.{◌≡◌, ℕ, zero, suc, ◌+◌, ◌-◌, ◌<◌, List, [], ◌∷◌, ◌++◌, length, refl, ap, arith, sym, ◌∙◌, subst, ◌⊎◌, inl, inr, length-append}
use Rattle.std.specs.Prelude.{map, slice_get, slice_index_or, Option, Some, None, option_map, option_and_then, is_some, IfSome, Bool, true, false, nat_lt, if◌then◌else◌, ◌==◌}
use Rattle.std.proofs.lemmas.Option.{slice_get_within, slice_get_past, same_Some, none-some, get_or_from_slice_get, slice_get-map}
use Rattle.std.proofs.lemmas.Bool.{cases_lt, ne_eqb, false_from_ne_true, false≢true, ltb-true, lt-ltb}
use Rattle.std.proofs.lemmas.List.{length-map}
use Rattle.clif_types.specs.declared.types.«Type».{«Type»}
use Rattle.clif_types.specs.Signature.{SignatureShape}
use Rattle.clif_nodes.specs.declared.nodes.InstNode.{InstNode}
use Rattle.clif_nodes.specs.declared.nodes.ValueNode.{ValueNode}
use Rattle.clif_ir.specs.Body.{inst_at}
use Rattle.clif_nodes.specs.Nodes.{no_inst}
use Rattle.clif_meaning.specs.Request.{AnsweredCall, number_of}
use Rattle.clif_meaning.specs.Ledger.{Answered, ABlock, AVariable, AValue, AnInstruction, AnEntry, AnEdge, AJumpTable, AnExceptionTable, ExceptionTable, Ledger, answer_at, answered_edge, answers_to, edge_named, has_block, has_instruction, is_instruction_answer, ledger_with, has_value, type_of, value_answer_type}
use Rattle.clif_simulation.specs.Carries.{numbers_from}
use Rattle.clif_builder.specs.declared.builder.FunctionBuilder.{FunctionBuilder}
use Rattle.clif_builder.specs.StandsFor.{StandsFor}
use Rattle.clif_builder.specs.Ledger.{AnswerAgrees, ResultsFollow, NamesBlock, NamesEdge, NamesEdges, NamesExceptions, NamesInstruction, NamesValue, block_name, value_type, ledger_of}
use Rattle.clif_builder.specs.LedgerLaws.{IsReadByNumber}
use Rattle.clif_builder.proofs.LedgerLists.{and-then-some, get-front}
use Rattle.clif_calls.specs.declared.call.Name.{Name}
use Rattle.clif_resolution.specs.declared.answers.Answer.{Answer}
use Rattle.clif_resolution.specs.declared.answers.Answer.TheVariants as answer
use Rattle.clif_instructions.specs.declared.block_call.BlockCall.{BlockCall}
use Rattle.clif_meaning.specs.Instruction as meaning
use Rattle.clif_meaning.specs.Name as named
use Rattle.clif_replay.specs.Entries.{is_entry}
use Rattle.clif_replay.specs.Requests.{Naming}
use Rattle.clif_replay.specs.Ready.{AnswerIs, AreResults, IsAnswered, IsReady, KeepsTables, TablesAgree, no_answer}
use Rattle.clif_resolution.specs.Answers.{AnswerExists, edge_at, edge_in, block_in, block_of, inst_in, inst_of, value_in, value_of}
use Rattle.clif_builder.proofs.Lasting.{answer-stays, edge-stays, ledger-more}
use Rattle.clif_replay.proofs.Lasting.{LeavesTables, exceptions-kept, exceptions-stay, no-edge, tables-kept, tables-stay}
use Rattle.clif_replay.proofs.Options.{get-last, get-push, some-is, if-no, name-of-some}
use Rattle.clif_resolution.proofs.Options.{get-below, map-some}

-- an answer that is an entry of a table is none of another kind
no-entry : (one other : Answered) → one ≡ other → is_entry other ≡ false → is_entry one ≡ true → ⊥
no-entry one other same none is = false≢true (sym none ∙ sym (ap is_entry same) ∙ is)

-- what the ledger says of a name, the builder says of its number
pub read : {R : Type 0} {naming : Naming} {declared : SignatureShape} (calls : List AnsweredCall) (b : FunctionBuilder R) (answers : List Answer) → IsReady naming declared calls b answers → IsReadByNumber calls b.func.now b.ctx.now.parts
read calls b answers ready = ready.reads calls b.func.now b.ctx.now.parts b.position ready.stands.ledger

-- a number that isn't 0
pub past : {X : Type 0} (k : ℕ) (x y : X) → (if suc k == 0 then x else y) ≡ y
past k x y = if-no (suc k == 0) x y (ne_eqb (suc k) 0 (λ same. omega (arith, same)))

-- an answer, with what the ledger and the builder's calls say of the names that lead to it
pub record Entry (naming : Naming) (calls : List AnsweredCall) (place : ℕ) (a : Answer) : Type 0 where
  pub given : List Answered
  pub numbers : List ℕ
  pub is : AnswerIs a given numbers
  pub told : (name : Name) → name.place ≡ place → answer_at (ledger_of calls) (naming name) ≡ slice_get given name.answer
  pub numbered : (name : Name) → name.place ≡ place → number_of calls (naming name) ≡ slice_get numbers name.answer

-- a name of the builder's calls, where their place is known
answer-there : (calls : List AnsweredCall) (place index : ℕ) (given : List Answered) → slice_get (ledger_of calls).answers place ≡ Some given
    → answer_at (ledger_of calls) (named.answer_of place index) ≡ slice_get given index
answer-there calls place index given at = ap (option_and_then (λ (answers : List Answered). slice_get answers index)) at

number-there : (calls : List AnsweredCall) (place index : ℕ) (call : AnsweredCall) → slice_get calls place ≡ Some call
    → number_of calls (named.answer_of place index) ≡ slice_get call.numbers index
number-there calls place index call at = ap (option_and_then (λ (one : AnsweredCall). slice_get one.numbers index)) at

pub entry : {R : Type 0} {naming : Naming} {declared : SignatureShape} (calls : List AnsweredCall) (b : FunctionBuilder R) (answers : List Answer) → IsReady naming declared calls b answers
    → (place : ℕ) (a : Answer) → slice_get answers place ≡ Some a → Entry naming calls place a
entry {naming} calls b answers ready place a at = by (ready.answered place a at)
  where
    results : (x : IsAnswered naming calls place a) → ((name : Name) → name.place ≡ place → naming name ≡ named.answer_of x.other (suc name.answer))
        → (other : Answer) → AreResults other x.answered x.call.numbers → Entry naming calls place other
    results x names (answer.Values first count) (types, inst, answered, numbers, many) = record {
      given = map AValue types;
      numbers = numbers_from first types;
      is = (types, refl, refl, many);
      told = λ name here.
          ap (answer_at (ledger_of calls)) (names name here) ∙ answer-there calls x.other (suc name.answer) x.answered x.at_answered
          ∙ ap (λ (xs : List Answered). slice_get xs (suc name.answer)) answered;
      numbered = λ name here.
          ap (number_of calls) (names name here) ∙ number-there calls x.other (suc name.answer) x.call x.at_call
          ∙ ap (λ (xs : List ℕ). slice_get xs (suc name.answer)) numbers;
    }
    results x names answer.Nothing are = absurd are
    results x names (answer.Block block) are = absurd are
    results x names (answer.Variable variable) are = absurd are
    results x names (answer.Inst inst) are = absurd are
    results x names (answer.Edge edge) are = absurd are
    results x names (answer.Entry table) are = absurd are

    -- names that lead behind all answers of a call
    empty : (x : IsAnswered naming calls place a) → ((name : Name) → name.place ≡ place → naming name ≡ named.answer_of x.other (length x.answered + name.answer)) → a ≡ no_answer
        → Entry naming calls place a
    empty x names none = subst (λ (other : Answer). Entry naming calls place other) (sym none) (record {
      given = [];
      numbers = [];
      is = (refl, refl);
      told = λ name here.
          ap (answer_at (ledger_of calls)) (names name here) ∙ answer-there calls x.other (length x.answered + name.answer) x.answered x.at_answered
          ∙ slice_get_past x.answered (length x.answered + name.answer) (omega arith);
      numbered = λ name here.
          let count = (ready.stands.ledger.answers x.other x.call x.answered x.at_call x.at_answered).count in
          ap (number_of calls) (names name here) ∙ number-there calls x.other (length x.answered + name.answer) x.call x.at_call
          ∙ slice_get_past x.call.numbers (length x.answered + name.answer) (omega (arith, count));
    })

    by : IsAnswered naming calls place a → Entry naming calls place a
    by x = elim x.leads [
      | inl itself ↦
          record {
            given = x.answered;
            numbers = x.call.numbers;
            is = itself.1;
            told = λ name here. ap (answer_at (ledger_of calls)) (itself.0 name here) ∙ answer-there calls x.other name.answer x.answered x.at_answered;
            numbered = λ name here. ap (number_of calls) (itself.0 name here) ∙ number-there calls x.other name.answer x.call x.at_call;
          }
      | inr other ↦ elim other [
        | inl behind ↦ results x behind.0 a behind.1
        | inr none ↦ empty x none.0 none.1
      ]
    ]

-- the builder agrees with an answer of its calls
agrees : {R : Type 0} {naming : Naming} {declared : SignatureShape} (calls : List AnsweredCall) (b : FunctionBuilder R) (answers : List Answer) → IsReady naming declared calls b answers
    → (name : named.Name) (a : Answered) (number : ℕ) → answer_at (ledger_of calls) name ≡ Some a → number_of calls name ≡ Some number
    → AnswerAgrees (ledger_of calls) b.func.now name a number
agrees calls b answers ready name a number answered numbered =
    let given = and-then-some (λ (xs : List Answered). slice_get xs name.index) (slice_get (ledger_of calls).answers name.place) a answered in
    let call = and-then-some (λ (one : AnsweredCall). slice_get one.numbers name.index) (slice_get calls name.place) number numbered in
    (ready.stands.ledger.answers name.place call.0 given.0 call.1 given.1).each name.index a number given.2 call.2

-- there is no answer behind the last call
pub answer-past : {R : Type 0} {naming : Naming} {declared : SignatureShape} (calls : List AnsweredCall) (b : FunctionBuilder R) (answers : List Answer) → IsReady naming declared calls b answers
    → (name : Name) → slice_get answers name.place ≡ None → answer_at (ledger_of calls) (naming name) ≡ None
answer-past calls b answers ready name none =
    elim (cases_lt name.place (length answers)) [
      | inl inside ↦ let there = get-below answers name.place inside in absurd (none-some there.0 (sym none ∙ there.1))
      | inr past ↦
          ap (answer_at (ledger_of calls)) (ready.later name (name.place - length answers) (omega (arith, past)))
          ∙ ap (option_and_then (λ (xs : List Answered). slice_get xs name.answer))
          (slice_get_past (ledger_of calls).answers (length calls + (name.place - length answers)) (omega (arith, ready.stands.ledger.places)))
    ]

-- what a call with one answer answered
one-answer : (given : List Answered) (a : Answered) (index : ℕ) (x : Answered) → given ≡ a ∷ [] → slice_get given index ≡ Some x → (index ≡ 0) × (a ≡ x)
one-answer given a zero x is at = (refl, same_Some a x (ap (λ (xs : List Answered). slice_get xs 0) (sym is) ∙ at))
one-answer given a (suc index) x is at = absurd (none-some x (ap (λ (xs : List Answered). slice_get xs (suc index)) (sym is) ∙ at))

no-answer : (given : List Answered) (index : ℕ) (x : Answered) → given ≡ [] → slice_get given index ≡ Some x → ⊥
no-answer given index x is at = none-some x (ap (λ (xs : List Answered). slice_get xs index) (sym is) ∙ at)

-- what a call answered that answers values
values-answer : (given : List Answered) (types : List «Type») (index : ℕ) (x : Answered) → given ≡ map AValue types → slice_get given index ≡ Some x → (ty : «Type») × (AValue ty ≡ x)
values-answer given types index x is at =
    let value = map-some AValue (slice_get types index) x (sym (slice_get-map AValue types index) ∙ ap (λ (xs : List Answered). slice_get xs index) (sym is) ∙ at) in
    (value.0, value.2)

-- numbers that follow one another
number-from : (n : ℕ) (types : List «Type») (k : ℕ) → k < length types → slice_get (numbers_from n types) k ≡ Some (n + k)
number-from n [] k inside = absurd (omega (arith, inside))
number-from n (ty ∷ types) zero inside = let same : n ≡ n + 0 = omega arith in ap Some same
number-from n (ty ∷ types) (suc k) inside =
    let same : suc n + k ≡ n + suc k = omega arith in
    number-from (suc n) types k (omega (arith, inside)) ∙ ap Some same

-- what an instruction answered
instruction-answer : (given : List Answered) (types : List «Type») (index : ℕ) (x : Answered) → given ≡ AnInstruction ∷ map AValue types → slice_get given index ≡ Some x
    → ((index ≡ 0) × (AnInstruction ≡ x)) ⊎ ((k : ℕ) × (index ≡ suc k) × (ty : «Type») × (AValue ty ≡ x))
instruction-answer given types zero x is at = inl (refl, same_Some AnInstruction x (ap (λ (xs : List Answered). slice_get xs 0) (sym is) ∙ at))
instruction-answer given types (suc k) x is at =
    let value = map-some AValue (slice_get types k) x (sym (slice_get-map AValue types k) ∙ ap (λ (xs : List Answered). slice_get xs (suc k)) (sym is) ∙ at) in
    inr (k, refl, value.0, value.2)

-- a name that leads to a block names it
pub block-found : {R : Type 0} {naming : Naming} {declared : SignatureShape} (calls : List AnsweredCall) (b : FunctionBuilder R) (answers : List Answer) → IsReady naming declared calls b answers
    → (name : Name) (block : ℕ) → block_of answers name ≡ Some block → NamesBlock calls (naming name) block
block-found {naming} calls b answers ready name block found = by (slice_get answers name.place) refl found
  where
    by_block : (x : ℕ) → slice_get answers name.place ≡ Some (answer.Block x) → (index : ℕ) → name.answer ≡ index → (if index == 0 then Some x else None) ≡ Some block → NamesBlock calls (naming name) block
    by_block x at zero is found =
        let e = entry calls b answers ready name.place (answer.Block x) at in
        let number : number_of calls (naming name) ≡ Some x = e.numbered name refl ∙ ap (slice_get e.numbers) is ∙ ap (λ (xs : List ℕ). slice_get xs 0) e.is.1 in
        let answered : answer_at (ledger_of calls) (naming name) ≡ Some ABlock = e.told name refl ∙ ap (slice_get e.given) is ∙ ap (λ (xs : List Answered). slice_get xs 0) e.is.0 in
        let here : block_name (ledger_of calls) x ≡ Some (naming name) = agrees calls b answers ready (naming name) ABlock x answered number in
        record { number = number ∙ found; is_block = ap is_some ((read calls b answers ready).state x (naming name) here).found }
    by_block x at (suc k) is found = absurd (none-some block (sym (past k (Some x) None) ∙ found))

    by : (o : Option Answer) → slice_get answers name.place ≡ o → block_in name.answer o ≡ Some block → NamesBlock calls (naming name) block
    by None at found = absurd (none-some block found)
    by (Some answer.Nothing) at found = absurd (none-some block found)
    by (Some (answer.Variable v)) at found = absurd (none-some block found)
    by (Some (answer.Entry table)) at found = absurd (none-some block found)
    by (Some (answer.Edge edge)) at found = absurd (none-some block found)
    by (Some (answer.Values first count)) at found = absurd (none-some block found)
    by (Some (answer.Inst i)) at found = absurd (none-some block found)
    by (Some (answer.Block x)) at found = by_block x at name.answer refl found

-- a name that leads to no block names none
pub block-missing : {R : Type 0} {naming : Naming} {declared : SignatureShape} (calls : List AnsweredCall) (b : FunctionBuilder R) (answers : List Answer) → IsReady naming declared calls b answers
    → (name : Name) → block_of answers name ≡ None → has_block (ledger_of calls) (naming name) ≡ false
block-missing {naming} calls b answers ready name missing =
    false_from_ne_true (has_block (ledger_of calls) (naming name)) (λ there.
    let found = (read calls b answers ready).numbered (naming name) there in
    by (slice_get answers name.place) refl missing (ready.stands.ledger.block_answers found.0 (naming name) found.1))
  where
    by_block : (x : ℕ) (index : ℕ) → index ≡ 0 → (if index == 0 then Some x else None) ≡ None → ⊥
    by_block x zero is missing = none-some x (sym missing)
    by_block x (suc k) is missing = omega (arith, is)

    by : (o : Option Answer) → slice_get answers name.place ≡ o → block_in name.answer o ≡ None → answer_at (ledger_of calls) (naming name) ≡ Some ABlock → ⊥
    by None at missing answered = none-some ABlock (sym (answer-past calls b answers ready name at) ∙ answered)
    by (Some answer.Nothing) at missing answered =
        let e = entry calls b answers ready name.place answer.Nothing at in
        no-answer e.given name.answer ABlock e.is.0 (sym (e.told name refl) ∙ answered)
    by (Some (answer.Variable v)) at missing answered =
        let e = entry calls b answers ready name.place (answer.Variable v) at in
        let one = one-answer e.given (AVariable v) name.answer ABlock e.is.0 (sym (e.told name refl) ∙ answered) in
        let wrong : AVariable v ≡ ABlock = one.1 in
        cc
    by (Some (answer.Entry table)) at missing answered =
        let e = entry calls b answers ready name.place (answer.Entry table) at in
        let one = one-answer e.given e.is.0 name.answer ABlock e.is.2 (sym (e.told name refl) ∙ answered) in
        no-entry e.is.0 ABlock one.1 refl e.is.5
    by (Some (answer.Edge edge)) at missing answered =
        let e = entry calls b answers ready name.place (answer.Edge edge) at in
        let one = one-answer e.given (AnEdge e.is.0) name.answer ABlock e.is.1 (sym (e.told name refl) ∙ answered) in
        let wrong : AnEdge e.is.0 ≡ ABlock = one.1 in
        cc
    by (Some (answer.Values first count)) at missing answered =
        let e = entry calls b answers ready name.place (answer.Values first count) at in
        let one = values-answer e.given e.is.0 name.answer ABlock e.is.1 (sym (e.told name refl) ∙ answered) in
        let wrong : AValue one.0 ≡ ABlock = one.1 in
        cc
    by (Some (answer.Inst i)) at missing answered =
        let e = entry calls b answers ready name.place (answer.Inst i) at in
        elim (instruction-answer e.given e.is.0 name.answer ABlock e.is.2 (sym (e.told name refl) ∙ answered)) [
          | inl first ↦ let wrong : AnInstruction ≡ ABlock = first.1 in cc
          | inr later ↦ let wrong : AValue later.2 ≡ ABlock = later.3 in cc
        ]
    by (Some (answer.Block x)) at missing answered =
        let e = entry calls b answers ready name.place (answer.Block x) at in
        let one = one-answer e.given ABlock name.answer ABlock e.is.0 (sym (e.told name refl) ∙ answered) in
        by_block x name.answer one.0 missing

-- a name that leads to an instruction is its first answer
inst-at : (answers : List Answer) (name : Name) (inst : ℕ) → inst_of answers name ≡ Some inst → (slice_get answers name.place ≡ Some (answer.Inst inst)) × (name.answer ≡ 0)
inst-at answers name inst found = by (slice_get answers name.place) refl found
  where
    by_inst : (i : ℕ) → slice_get answers name.place ≡ Some (answer.Inst i) → (index : ℕ) → name.answer ≡ index → (if index == 0 then Some i else None) ≡ Some inst
        → (slice_get answers name.place ≡ Some (answer.Inst inst)) × (name.answer ≡ 0)
    by_inst i at zero is found = (at ∙ ap (λ (k : ℕ). Some (answer.Inst k)) (same_Some i inst found), is)
    by_inst i at (suc k) is found = absurd (none-some inst (sym (past k (Some i) None) ∙ found))

    by : (o : Option Answer) → slice_get answers name.place ≡ o → inst_in name.answer o ≡ Some inst → (slice_get answers name.place ≡ Some (answer.Inst inst)) × (name.answer ≡ 0)
    by None at found = absurd (none-some inst found)
    by (Some answer.Nothing) at found = absurd (none-some inst found)
    by (Some (answer.Block x)) at found = absurd (none-some inst found)
    by (Some (answer.Variable v)) at found = absurd (none-some inst found)
    by (Some (answer.Entry table)) at found = absurd (none-some inst found)
    by (Some (answer.Edge edge)) at found = absurd (none-some inst found)
    by (Some (answer.Values first count)) at found = absurd (none-some inst found)
    by (Some (answer.Inst i)) at found = by_inst i at name.answer refl found

-- and names it
pub inst-found : {R : Type 0} {naming : Naming} {declared : SignatureShape} (calls : List AnsweredCall) (b : FunctionBuilder R) (answers : List Answer) → IsReady naming declared calls b answers
    → (name : Name) (inst : ℕ) → inst_of answers name ≡ Some inst → NamesInstruction calls (naming name) inst
inst-found {naming} calls b answers ready name inst found =
    let at = inst-at answers name inst found in
    let e = entry calls b answers ready name.place (answer.Inst inst) at.0 in
    let answered : answer_at (ledger_of calls) (naming name) ≡ Some AnInstruction =
    e.told name refl ∙ ap (slice_get e.given) at.1 ∙ ap (λ (xs : List Answered). slice_get xs 0) e.is.2 in
    record {
      number = e.numbered name refl ∙ ap (slice_get e.numbers) at.1 ∙ ap (λ (xs : List ℕ). slice_get xs 0) e.is.3;
      is_instruction = ap is_instruction_answer answered;
    }

-- a name that leads to no instruction names none
pub inst-missing : {R : Type 0} {naming : Naming} {declared : SignatureShape} (calls : List AnsweredCall) (b : FunctionBuilder R) (answers : List Answer) → IsReady naming declared calls b answers
    → (name : Name) → inst_of answers name ≡ None → has_instruction (ledger_of calls) (naming name) ≡ false
inst-missing {naming} calls b answers ready name missing =
    false_from_ne_true (has_instruction (ledger_of calls) (naming name)) (λ there.
    by (slice_get answers name.place) refl missing (instruction-is (answer_at (ledger_of calls) (naming name)) there))
  where
    instruction-is : (o : Option Answered) → is_instruction_answer o ≡ true → o ≡ Some AnInstruction
    instruction-is None is = absurd (false≢true is)
    instruction-is (Some ABlock) is = absurd (false≢true is)
    instruction-is (Some (AVariable variable)) is = absurd (false≢true is)
    instruction-is (Some (AValue ty)) is = absurd (false≢true is)
    instruction-is (Some AnInstruction) is = refl
    instruction-is (Some (AnEntry entry place)) is = absurd (false≢true is)
    instruction-is (Some (AnEdge edge)) is = absurd (false≢true is)
    instruction-is (Some (AJumpTable place)) is = absurd (false≢true is)
    instruction-is (Some (AnExceptionTable place)) is = absurd (false≢true is)

    by_inst : (i index : ℕ) → index ≡ 0 → (if index == 0 then Some i else None) ≡ None → ⊥
    by_inst i zero is missing = none-some i (sym missing)
    by_inst i (suc k) is missing = omega (arith, is)

    one-wrong : (a : Answer) (x : Answered) (e : Entry naming calls name.place a) → e.given ≡ x ∷ [] → answer_at (ledger_of calls) (naming name) ≡ Some AnInstruction → x ≡ AnInstruction
    one-wrong a x e is answered = (one-answer e.given x name.answer AnInstruction is (sym (e.told name refl) ∙ answered)).1

    by : (o : Option Answer) → slice_get answers name.place ≡ o → inst_in name.answer o ≡ None → answer_at (ledger_of calls) (naming name) ≡ Some AnInstruction → ⊥
    by None at missing answered = none-some AnInstruction (sym (answer-past calls b answers ready name at) ∙ answered)
    by (Some answer.Nothing) at missing answered =
        let e = entry calls b answers ready name.place answer.Nothing at in
        no-answer e.given name.answer AnInstruction e.is.0 (sym (e.told name refl) ∙ answered)
    by (Some (answer.Block x)) at missing answered =
        let e = entry calls b answers ready name.place (answer.Block x) at in
        let wrong : ABlock ≡ AnInstruction = one-wrong (answer.Block x) ABlock e e.is.0 answered in
        cc
    by (Some (answer.Variable v)) at missing answered =
        let e = entry calls b answers ready name.place (answer.Variable v) at in
        let wrong : AVariable v ≡ AnInstruction = one-wrong (answer.Variable v) (AVariable v) e e.is.0 answered in
        cc
    by (Some (answer.Entry table)) at missing answered =
        let e = entry calls b answers ready name.place (answer.Entry table) at in
        let one = one-answer e.given e.is.0 name.answer AnInstruction e.is.2 (sym (e.told name refl) ∙ answered) in
        no-entry e.is.0 AnInstruction one.1 refl e.is.5
    by (Some (answer.Edge edge)) at missing answered =
        let e = entry calls b answers ready name.place (answer.Edge edge) at in
        let wrong : AnEdge e.is.0 ≡ AnInstruction = one-wrong (answer.Edge edge) (AnEdge e.is.0) e e.is.1 answered in
        cc
    by (Some (answer.Values first count)) at missing answered =
        let e = entry calls b answers ready name.place (answer.Values first count) at in
        let value = values-answer e.given e.is.0 name.answer AnInstruction e.is.1 (sym (e.told name refl) ∙ answered) in
        let wrong : AValue value.0 ≡ AnInstruction = value.1 in
        cc
    by (Some (answer.Inst i)) at missing answered =
        let e = entry calls b answers ready name.place (answer.Inst i) at in
        elim (instruction-answer e.given e.is.0 name.answer AnInstruction e.is.2 (sym (e.told name refl) ∙ answered)) [
          | inl first ↦ by_inst i name.answer first.0 missing
          | inr later ↦ let wrong : AValue later.2 ≡ AnInstruction = later.3 in cc
        ]

-- the results of an instruction that was answered
record Results {R : Type 0} (naming : Naming) (calls : List AnsweredCall) (b : FunctionBuilder R) (place i : ℕ) : Type 0 where
  pub types : List «Type»
  pub node : InstNode
  pub there : slice_get b.func.now.insts i ≡ Some node
  pub count : length node.results ≡ length types
  pub told : (name : Name) → name.place ≡ place → answer_at (ledger_of calls) (naming name) ≡ slice_get (AnInstruction ∷ map AValue types) name.answer
  pub numbered : (name : Name) → name.place ≡ place → number_of calls (naming name) ≡ slice_get (i ∷ node.results) name.answer

results-of : {R : Type 0} {naming : Naming} {declared : SignatureShape} (calls : List AnsweredCall) (b : FunctionBuilder R) (answers : List Answer) → IsReady naming declared calls b answers
    → (place i : ℕ) → slice_get answers place ≡ Some (answer.Inst i) → Results naming calls b place i
results-of {naming} calls b answers ready place i at = by (ready.answered place (answer.Inst i) at)
  where
    itself : (x : IsAnswered naming calls place (answer.Inst i)) → ((name : Name) → name.place ≡ place → naming name ≡ named.answer_of x.other name.answer)
        → AnswerIs (answer.Inst i) x.answered x.call.numbers → Results naming calls b place i
    itself x names (types, results, answered, numbers) =
        let agree = ready.stands.ledger.answers x.other x.call x.answered x.at_call x.at_answered in
        let follow = subst (λ (xs : List ℕ). ResultsFollow b.func.now (AnInstruction ∷ map AValue types) xs) numbers
        (subst (λ (xs : List Answered). ResultsFollow b.func.now xs x.call.numbers) answered agree.results) in
        let many : suc (length results) ≡ suc (length (map AValue types)) =
        ap (λ (xs : List ℕ). length xs) (sym numbers) ∙ agree.count ∙ ap (λ (xs : List Answered). length xs) answered in
        record {
          types = types;
          node = follow.0;
          there = follow.1;
          count = ap (λ (xs : List ℕ). length xs) (sym follow.2) ∙ omega (arith, many, length-map types AValue);
          told = λ name here.
              ap (answer_at (ledger_of calls)) (names name here) ∙ answer-there calls x.other name.answer x.answered x.at_answered
              ∙ ap (λ (xs : List Answered). slice_get xs name.answer) answered;
          numbered = λ name here.
              ap (number_of calls) (names name here) ∙ number-there calls x.other name.answer x.call x.at_call
              ∙ ap (λ (xs : List ℕ). slice_get xs name.answer) (numbers ∙ ap (λ (xs : List ℕ). i ∷ xs) follow.2);
        }

    by : IsAnswered naming calls place (answer.Inst i) → Results naming calls b place i
    by x = elim x.leads [
      | inl names ↦ itself x names.0 names.1
      | inr other ↦ elim other [
        | inl behind ↦ absurd behind.1
        | inr none ↦ let wrong : answer.Inst i ≡ answer.Nothing = none.1 in absurd (let no_way : ⊥ = cc in no_way)
      ]
    ]

-- a name that leads to a value names it
pub value-found : {R : Type 0} {naming : Naming} {declared : SignatureShape} (calls : List AnsweredCall) (b : FunctionBuilder R) (answers : List Answer) → IsReady naming declared calls b answers
    → (name : Name) (value : ℕ) → value_of b.func.now answers name ≡ Some value → NamesValue calls (naming name) value
value-found {naming} calls b answers ready name value found = by (slice_get answers name.place) refl found
  where
    by_values : (first count : ℕ) → slice_get answers name.place ≡ Some (answer.Values first count) → (test : Bool) → nat_lt name.answer count ≡ test
        → (if test then Some (first + name.answer) else None) ≡ Some value → NamesValue calls (naming name) value
    by_values first count at true is found =
        let e = entry calls b answers ready name.place (answer.Values first count) at in
        let below : name.answer < count = ltb-true name.answer count is in
        let inside : name.answer < length e.is.0 = omega (arith, below, e.is.3) in
        let ty = get-below e.is.0 name.answer inside in
        let answered : answer_at (ledger_of calls) (naming name) ≡ Some (AValue ty.0) =
        e.told name refl ∙ ap (λ (xs : List Answered). slice_get xs name.answer) e.is.1
        ∙ slice_get-map AValue e.is.0 name.answer ∙ ap (option_map AValue) ty.1 in
        record {
          number = e.numbered name refl ∙ ap (λ (xs : List ℕ). slice_get xs name.answer) e.is.2
              ∙ number-from first e.is.0 name.answer inside ∙ found;
          is_value = ap (λ (o : Option Answered). is_some (value_answer_type o)) answered;
        }
    by_values first count at false is found = absurd (none-some value found)

    by_inst : (i : ℕ) → slice_get answers name.place ≡ Some (answer.Inst i) → (index : ℕ) → name.answer ≡ index
        → (if index == 0 then None else slice_get (inst_at b.func.now i).results (index - 1)) ≡ Some value → NamesValue calls (naming name) value
    by_inst i at zero is found = absurd (none-some value found)
    by_inst i at (suc k) is found =
        let r = results-of calls b answers ready name.place i at in
        let less : suc k - 1 ≡ k = omega arith in
        let result : slice_get r.node.results k ≡ Some value =
        ap (λ (n : InstNode). slice_get n.results k) (sym (get_or_from_slice_get b.func.now.insts i r.node no_inst r.there))
        ∙ ap (slice_get (inst_at b.func.now i).results) (sym less) ∙ sym (past k None (slice_get (inst_at b.func.now i).results (suc k - 1))) ∙ found in
        let inside : k < length r.node.results = slice_get_within r.node.results k value result in
        let ty = get-below r.types k (omega (arith, inside, r.count)) in
        let answered : answer_at (ledger_of calls) (naming name) ≡ Some (AValue ty.0) =
        r.told name refl ∙ ap (slice_get (AnInstruction ∷ map AValue r.types)) is ∙ slice_get-map AValue r.types k ∙ ap (option_map AValue) ty.1 in
        record {
          number = r.numbered name refl ∙ ap (slice_get (i ∷ r.node.results)) is ∙ result;
          is_value = ap (λ (o : Option Answered). is_some (value_answer_type o)) answered;
        }

    by : (o : Option Answer) → slice_get answers name.place ≡ o → value_in b.func.now name.answer o ≡ Some value → NamesValue calls (naming name) value
    by None at found = absurd (none-some value found)
    by (Some answer.Nothing) at found = absurd (none-some value found)
    by (Some (answer.Variable v)) at found = absurd (none-some value found)
    by (Some (answer.Entry table)) at found = absurd (none-some value found)
    by (Some (answer.Edge edge)) at found = absurd (none-some value found)
    by (Some (answer.Block x)) at found = absurd (none-some value found)
    by (Some (answer.Values first count)) at found = by_values first count at (nat_lt name.answer count) refl found
    by (Some (answer.Inst i)) at found = by_inst i at name.answer refl found

-- a name that leads to no value names none
pub value-missing : {R : Type 0} {naming : Naming} {declared : SignatureShape} (calls : List AnsweredCall) (b : FunctionBuilder R) (answers : List Answer) → IsReady naming declared calls b answers
    → (name : Name) → value_of b.func.now answers name ≡ None → has_value (ledger_of calls) (naming name) ≡ false
value-missing {naming} calls b answers ready name missing =
    false_from_ne_true (has_value (ledger_of calls) (naming name)) (λ there.
    let typed = some-is (type_of (ledger_of calls) (naming name)) there in
    by typed.0 (slice_get answers name.place) refl missing (answer_is (answer_at (ledger_of calls) (naming name)) typed.0 typed.1))
  where
    answer_is : (o : Option Answered) (ty : «Type») → value_answer_type o ≡ Some ty → o ≡ Some (AValue ty)
    answer_is None ty is = absurd (none-some ty is)
    answer_is (Some ABlock) ty is = absurd (none-some ty is)
    answer_is (Some (AVariable variable)) ty is = absurd (none-some ty is)
    answer_is (Some (AValue other)) ty is = ap (λ (t : «Type»). Some (AValue t)) (same_Some other ty is)
    answer_is (Some (AnEntry entry place)) ty is = absurd (none-some ty is)
    answer_is (Some (AnEdge edge)) ty is = absurd (none-some ty is)
    answer_is (Some (AJumpTable place)) ty is = absurd (none-some ty is)
    answer_is (Some (AnExceptionTable place)) ty is = absurd (none-some ty is)
    answer_is (Some AnInstruction) ty is = absurd (none-some ty is)

    by_values : (first count index : ℕ) → index < count → (test : Bool) → nat_lt index count ≡ test → (if test then Some (first + index) else None) ≡ None → ⊥
    by_values first count index inside true is missing = none-some (first + index) (sym missing)
    by_values first count index inside false is missing = false≢true (sym is ∙ lt-ltb index count inside)

    by : (ty : «Type») (o : Option Answer) → slice_get answers name.place ≡ o → value_in b.func.now name.answer o ≡ None → answer_at (ledger_of calls) (naming name) ≡ Some (AValue ty) → ⊥
    by ty None at missing answered = none-some (AValue ty) (sym (answer-past calls b answers ready name at) ∙ answered)
    by ty (Some answer.Nothing) at missing answered =
        let e = entry calls b answers ready name.place answer.Nothing at in
        no-answer e.given name.answer (AValue ty) e.is.0 (sym (e.told name refl) ∙ answered)
    by ty (Some (answer.Variable v)) at missing answered =
        let e = entry calls b answers ready name.place (answer.Variable v) at in
        let one = one-answer e.given (AVariable v) name.answer (AValue ty) e.is.0 (sym (e.told name refl) ∙ answered) in
        let wrong : AVariable v ≡ AValue ty = one.1 in
        cc
    by ty (Some (answer.Entry table)) at missing answered =
        let e = entry calls b answers ready name.place (answer.Entry table) at in
        let one = one-answer e.given e.is.0 name.answer (AValue ty) e.is.2 (sym (e.told name refl) ∙ answered) in
        no-entry e.is.0 (AValue ty) one.1 refl e.is.5
    by ty (Some (answer.Edge edge)) at missing answered =
        let e = entry calls b answers ready name.place (answer.Edge edge) at in
        let one = one-answer e.given (AnEdge e.is.0) name.answer (AValue ty) e.is.1 (sym (e.told name refl) ∙ answered) in
        let wrong : AnEdge e.is.0 ≡ AValue ty = one.1 in
        cc
    by ty (Some (answer.Block x)) at missing answered =
        let e = entry calls b answers ready name.place (answer.Block x) at in
        let one = one-answer e.given ABlock name.answer (AValue ty) e.is.0 (sym (e.told name refl) ∙ answered) in
        let wrong : ABlock ≡ AValue ty = one.1 in
        cc
    by ty (Some (answer.Values first count)) at missing answered =
        let e = entry calls b answers ready name.place (answer.Values first count) at in
        let given_at : slice_get e.given name.answer ≡ Some (AValue ty) = sym (e.told name refl) ∙ answered in
        let inside : name.answer < length e.given = slice_get_within e.given name.answer (AValue ty) given_at in
        let many : length e.given ≡ length e.is.0 = ap (λ (xs : List Answered). length xs) e.is.1 ∙ length-map e.is.0 AValue in
        by_values first count name.answer (omega (arith, inside, many, e.is.3)) (nat_lt name.answer count) refl missing
    by ty (Some (answer.Inst i)) at missing answered =
        let r = results-of calls b answers ready name.place i at in
        let given : List Answered = AnInstruction ∷ map AValue r.types in
        let given_at : slice_get given name.answer ≡ Some (AValue ty) = sym (r.told name refl) ∙ answered in
        elim (instruction-answer given r.types name.answer (AValue ty) refl given_at) [
          | inl first ↦ let wrong : AnInstruction ≡ AValue ty = first.1 in cc
          | inr later ↦
              let k : ℕ = later.0 in
              let inside : name.answer < length given = slice_get_within given name.answer (AValue ty) given_at in
              let many : length given ≡ suc (length r.types) = ap suc (length-map r.types AValue) in
              let result = get-below r.node.results k (omega (arith, inside, later.1, many, r.count)) in
              let less : name.answer - 1 ≡ k = omega (arith, later.1) in
              let not_zero : (name.answer == 0) ≡ false = ne_eqb name.answer 0 (λ same. omega (arith, same, later.1)) in
              let found : slice_get (inst_at b.func.now i).results (name.answer - 1) ≡ Some result.0 =
              ap (slice_get (inst_at b.func.now i).results) less ∙ ap (λ (n : InstNode). slice_get n.results k) (get_or_from_slice_get b.func.now.insts i r.node no_inst r.there) ∙ result.1 in
              none-some result.0 (sym missing ∙ if-no (name.answer == 0) None (slice_get (inst_at b.func.now i).results (name.answer - 1)) not_zero ∙ found)
        ]

-- every answer exists
pub answers-exist : {R : Type 0} {naming : Naming} {declared : SignatureShape} (calls : List AnsweredCall) (b : FunctionBuilder R) (answers : List Answer) → IsReady naming declared calls b answers
    → (k : ℕ) → k < length answers → AnswerExists b.func.now (slice_index_or answers k answer.Nothing)
answers-exist {naming} calls b answers ready k inside =
    let there = get-below answers k inside in
    subst (AnswerExists b.func.now) (sym (get_or_from_slice_get answers k there.0 answer.Nothing there.1)) (by there.0 there.1)
  where
    by : (a : Answer) → slice_get answers k ≡ Some a → AnswerExists b.func.now a
    by answer.Nothing at = tt
    by (answer.Block x) at = tt
    by (answer.Variable v) at = tt
    by (answer.Entry table) at = tt
    by (answer.Edge edge) at = tt
    by (answer.Values first count) at = λ j below.
        let e = entry calls b answers ready k (answer.Values first count) at in
        let there : j < length e.is.0 = omega (arith, below, e.is.3) in
        let ty = get-below e.is.0 j there in
        let name : Name = record { place = k; answer = j } in
        let answered : answer_at (ledger_of calls) (naming name) ≡ Some (AValue ty.0) =
        e.told name refl ∙ ap (λ (xs : List Answered). slice_get xs j) e.is.1 ∙ slice_get-map AValue e.is.0 j ∙ ap (option_map AValue) ty.1 in
        let numbered : number_of calls (naming name) ≡ Some (first + j) = e.numbered name refl ∙ ap (λ (xs : List ℕ). slice_get xs j) e.is.2 ∙ number-from first e.is.0 j there in
        let typed : value_type b.func.now (first + j) ≡ Some ty.0 = agrees calls b answers ready (naming name) (AValue ty.0) (first + j) answered numbered in
        let node = map-some (λ (n : ValueNode). n.ty) (slice_get b.func.now.values (first + j)) ty.0 typed in
        slice_get_within b.func.now.values (first + j) node.0 node.1
    by (answer.Inst i) at = let r = results-of calls b answers ready k i at in slice_get_within b.func.now.insts i r.node r.there

-- a value that is named exists
pub value-exists : {R : Type 0} {naming : Naming} {declared : SignatureShape} (calls : List AnsweredCall) (b : FunctionBuilder R) (answers : List Answer) → IsReady naming declared calls b answers
    → (name : Name) (value : ℕ) → value_of b.func.now answers name ≡ Some value → value < length b.func.now.values
value-exists {naming} calls b answers ready name value found =
    let names = value-found calls b answers ready name value found in
    let typed = (read calls b answers ready).value (naming name) value names in
    let node = map-some (λ (n : ValueNode). n.ty) (slice_get b.func.now.values value) typed.0 typed.2 in
    slice_get_within b.func.now.values value node.0 node.1

-- a block that is named exists
pub block-there : {R : Type 0} {naming : Naming} {declared : SignatureShape} (calls : List AnsweredCall) (b : FunctionBuilder R) (answers : List Answer) → IsReady naming declared calls b answers
    → (name : Name) (block : ℕ) → block_of answers name ≡ Some block → block < length b.func.now.blocks
block-there {naming} calls b answers ready name block found =
    let names = block-found calls b answers ready name block found in
    let r = read calls b answers ready in
    r.exists block (naming name) (r.named (naming name) block names)

-- an instruction that is named exists
pub inst-there : {R : Type 0} {naming : Naming} {declared : SignatureShape} (calls : List AnsweredCall) (b : FunctionBuilder R) (answers : List Answer) → IsReady naming declared calls b answers
    → (name : Name) (inst : ℕ) → inst_of answers name ≡ Some inst → inst < length b.func.now.insts
inst-there calls b answers ready name inst found =
    let r = results-of calls b answers ready name.place inst (inst-at answers name inst found).0 in
    slice_get_within b.func.now.insts inst r.node r.there

-- the current block exists
pub current-exists : {R : Type 0} {naming : Naming} {declared : SignatureShape} (calls : List AnsweredCall) (b : FunctionBuilder R) (answers : List Answer) → IsReady naming declared calls b answers → IfSome b.position (λ block. block < length b.func.now.blocks)
current-exists calls b answers ready = by b.position refl
  where
    by : (o : Option ℕ) → b.position ≡ o → IfSome o (λ block. block < length b.func.now.blocks)
    by None at = tt
    by (Some block) at =
        let current = name-of-some (block_name (ledger_of calls)) (ledger_of calls).current block (ready.stands.ledger.current ∙ ap (option_map (block_name (ledger_of calls))) at) in
        (read calls b answers ready).exists block current.0 current.2

-- the answer that an edge is
pub edge-is : (o : Option Answered) (edge : meaning.Edge named.Name named.Name) → answered_edge o ≡ Some edge → o ≡ Some (AnEdge edge)
edge-is None edge is = absurd (none-some edge is)
edge-is (Some ABlock) edge is = absurd (none-some edge is)
edge-is (Some (AVariable variable)) edge is = absurd (none-some edge is)
edge-is (Some (AValue ty)) edge is = absurd (none-some edge is)
edge-is (Some AnInstruction) edge is = absurd (none-some edge is)
edge-is (Some (AnEntry entry place)) edge is = absurd (none-some edge is)
edge-is (Some (AnEdge other)) edge is = ap (λ (e : meaning.Edge named.Name named.Name). Some (AnEdge e)) (same_Some other edge is)
edge-is (Some (AJumpTable place)) edge is = absurd (none-some edge is)
edge-is (Some (AnExceptionTable place)) edge is = absurd (none-some edge is)

-- one more call was answered
pub ready-answered : {R : Type 0} {naming : Naming} {declared : SignatureShape} (calls : List AnsweredCall) (call : AnsweredCall) (old new : FunctionBuilder R) (answers : List Answer) (a : Answer)
    → IsReady naming declared calls old answers → StandsFor declared (calls ++ call ∷ []) new → AnswerIs a (answers_to (ledger_of calls) call.request) call.numbers
    → ((made : BlockCall) → a ≡ answer.Edge made
    → (edge : meaning.Edge named.Name named.Name) × (edge_named (ledger_of (calls ++ call ∷ [])) (named.answer_of (length calls) 0) ≡ Some edge) × NamesEdge (calls ++ call ∷ []) edge made)
    → TablesAgree (NamesEdges (calls ++ call ∷ [])) (ledger_of (calls ++ call ∷ [])).jump_tables new.func.now.tables.jump_tables
    → TablesAgree (NamesExceptions (calls ++ call ∷ [])) (ledger_of (calls ++ call ∷ [])).exception_tables new.func.now.tables.exception_tables
    → IsReady naming declared (calls ++ call ∷ []) new (answers ++ a ∷ [])
ready-answered {naming} calls call old new answers a ready stands is edge_there tables exceptions =
    record {
      reads = ready.reads;
      stands = stands;
      answered = λ place x at. elim (get-push answers a place x at) [
        | inl earlier ↦ still place x (ready.answered place x earlier)
        | inr last ↦ subst (IsAnswered naming more place) last.1 (newest place last.0)
      ];
      later = λ name k here.
          let behind : length (answers ++ a ∷ []) ≡ length answers + 1 = length-append answers (a ∷ []) in
          let made : length more ≡ length calls + 1 = length-append calls (call ∷ []) in
          let same : length calls + suc k ≡ length more + k = omega (arith, made) in
          ready.later name (suc k) (omega (arith, here, behind)) ∙ ap (λ (place : ℕ). named.answer_of place name.answer) same;
      edges = λ name made at zero_th. elim (get-push answers a name.place (answer.Edge made) at) [
        | inl earlier ↦
            let there = ready.edges name made earlier zero_th in
            let kept = answer-stays ready.reads calls (call ∷ []) old new ready.stands stands (naming name) (AnEdge there.0) (edge-is _ there.0 there.1) in
            (there.0, ap answered_edge kept, edge-stays ready.reads calls (call ∷ []) old new ready.stands stands there.0 made there.2)
        | inr last ↦
            let there = edge_there made last.1 in
            let first : naming name ≡ named.answer_of (length calls) 0 = at_last name last.0 ∙ ap (named.answer_of (length calls)) zero_th in
            (there.0, ap (edge_named (ledger_of more)) first ∙ there.1, there.2)
      ];
      tables = tables;
      exceptions = exceptions;
    }
  where
    more : List AnsweredCall
    more = calls ++ call ∷ []

    ledger_more : (ledger_of more).answers ≡ (ledger_of calls).answers ++ answers_to (ledger_of calls) call.request ∷ []
    ledger_more = ap (λ (l : Ledger). l.answers) (ledger-more calls call)

    -- the names of the new answer
    at_last : (name : Name) → name.place ≡ length answers → naming name ≡ named.answer_of (length calls) name.answer
    at_last name here =
        let same : length calls + 0 ≡ length calls = omega arith in
        ready.later name 0 (omega (arith, here)) ∙ ap (λ (place : ℕ). named.answer_of place name.answer) same

    still : (place : ℕ) (x : Answer) → IsAnswered naming calls place x → IsAnswered naming more place x
    still place x one = record {
      other = one.other;
      call = one.call;
      answered = one.answered;
      at_call = get-front calls (call ∷ []) one.other one.call one.at_call;
      at_answered = ap (λ (xs : List (List Answered)). slice_get xs one.other) ledger_more
          ∙ get-front (ledger_of calls).answers (answers_to (ledger_of calls) call.request ∷ []) one.other one.answered one.at_answered;
      leads = one.leads;
    }

    newest : (place : ℕ) → place ≡ length answers → IsAnswered naming more place a
    newest place here = record {
      other = length calls;
      call = call;
      answered = answers_to (ledger_of calls) call.request;
      at_call = get-last calls call;
      at_answered = ap (λ (xs : List (List Answered)). slice_get xs (length calls)) ledger_more
          ∙ ap (slice_get ((ledger_of calls).answers ++ answers_to (ledger_of calls) call.request ∷ [])) (sym ready.stands.ledger.places)
          ∙ get-last (ledger_of calls).answers (answers_to (ledger_of calls) call.request);
      leads = inl (λ name at. at_last name (at ∙ here), is);
    }

-- tables that a call leaves agree behind it
pub tables-still : {R : Type 0} {naming : Naming} {declared : SignatureShape} (calls : List AnsweredCall) (call : AnsweredCall) (old new : FunctionBuilder R) (answers : List Answer)
    → IsReady naming declared calls old answers → StandsFor declared (calls ++ call ∷ []) new → (ledger_with (ledger_of calls) call.request).jump_tables ≡ (ledger_of calls).jump_tables
    → new.func.now.tables.jump_tables ≡ old.func.now.tables.jump_tables
    → TablesAgree (NamesEdges (calls ++ call ∷ [])) (ledger_of (calls ++ call ∷ [])).jump_tables new.func.now.tables.jump_tables
tables-still calls call old new answers ready stands kept same =
    subst (TablesAgree (NamesEdges (calls ++ call ∷ [])) (ledger_of (calls ++ call ∷ [])).jump_tables) (sym same)
    (subst (λ (tables : List (Option (List (meaning.Edge named.Name named.Name)))). TablesAgree (NamesEdges (calls ++ call ∷ [])) tables old.func.now.tables.jump_tables)
    (sym (ap (λ (l : Ledger). l.jump_tables) (ledger-more calls call) ∙ kept))
    (tables-stay ready.reads calls (call ∷ []) old new ready.stands stands (ledger_of calls).jump_tables old.func.now.tables.jump_tables ready.tables))

pub exceptions-still : {R : Type 0} {naming : Naming} {declared : SignatureShape} (calls : List AnsweredCall) (call : AnsweredCall) (old new : FunctionBuilder R) (answers : List Answer)
    → IsReady naming declared calls old answers → StandsFor declared (calls ++ call ∷ []) new
    → (ledger_with (ledger_of calls) call.request).exception_tables ≡ (ledger_of calls).exception_tables
    → new.func.now.tables.exception_tables ≡ old.func.now.tables.exception_tables
    → TablesAgree (NamesExceptions (calls ++ call ∷ [])) (ledger_of (calls ++ call ∷ [])).exception_tables new.func.now.tables.exception_tables
exceptions-still calls call old new answers ready stands kept same =
    subst (TablesAgree (NamesExceptions (calls ++ call ∷ [])) (ledger_of (calls ++ call ∷ [])).exception_tables) (sym same)
    (subst (λ (tables : List (Option ExceptionTable)). TablesAgree (NamesExceptions (calls ++ call ∷ [])) tables old.func.now.tables.exception_tables)
    (sym (ap (λ (l : Ledger). l.exception_tables) (ledger-more calls call) ∙ kept))
    (exceptions-stay ready.reads calls (call ∷ []) old new ready.stands stands (ledger_of calls).exception_tables old.func.now.tables.exception_tables ready.exceptions))

-- one that makes no edge, and makes no table of edges and lets none serve
pub ready-more : {R : Type 0} {naming : Naming} {declared : SignatureShape} (calls : List AnsweredCall) (call : AnsweredCall) (old new : FunctionBuilder R) (answers : List Answer) (a : Answer)
    → IsReady naming declared calls old answers → LeavesTables call.request → KeepsTables old new
    → StandsFor declared (calls ++ call ∷ []) new → AnswerIs a (answers_to (ledger_of calls) call.request) call.numbers
    → IsReady naming declared (calls ++ call ∷ []) new (answers ++ a ∷ [])
ready-more calls call old new answers a ready leaves tables stands is =
    ready-answered calls call old new answers a ready stands is
    (λ made same.
    let answered = subst (λ (x : Answer). AnswerIs x (answers_to (ledger_of calls) call.request) call.numbers) same is in
    absurd (no-edge (ledger_of calls) call.request leaves answered.0 answered.1))
    (tables-still calls call old new answers ready stands (tables-kept (ledger_of calls) call.request leaves) tables.0)
    (exceptions-still calls call old new answers ready stands (exceptions-kept (ledger_of calls) call.request leaves) tables.1)

-- EDGES -----------------------------------------------------------------------------------------------------------------

-- a name that leads to an edge names one
pub edge-found : {R : Type 0} {naming : Naming} {declared : SignatureShape} (calls : List AnsweredCall) (b : FunctionBuilder R) (answers : List Answer) → IsReady naming declared calls b answers
    → (name : Name) (made : BlockCall) → edge_at answers name ≡ Some made
    → (edge : meaning.Edge named.Name named.Name) × (edge_named (ledger_of calls) (naming name) ≡ Some edge) × NamesEdge calls edge made
edge-found {naming} calls b answers ready name made found = by (slice_get answers name.place) refl found
  where
    by_edge : (other : BlockCall) → slice_get answers name.place ≡ Some (answer.Edge other) → (index : ℕ) → name.answer ≡ index → (if index == 0 then Some other else None) ≡ Some made
        → (edge : meaning.Edge named.Name named.Name) × (edge_named (ledger_of calls) (naming name) ≡ Some edge) × NamesEdge calls edge made
    by_edge other at zero is found =
        let there = ready.edges name other at is in
        let same : other ≡ made = same_Some other made found in
        (there.0, there.1, subst (NamesEdge calls there.0) same there.2)
    by_edge other at (suc k) is found = absurd (none-some made (sym (past k (Some other) None) ∙ found))

    by : (o : Option Answer) → slice_get answers name.place ≡ o → edge_in name.answer o ≡ Some made
        → (edge : meaning.Edge named.Name named.Name) × (edge_named (ledger_of calls) (naming name) ≡ Some edge) × NamesEdge calls edge made
    by None at found = absurd (none-some made found)
    by (Some answer.Nothing) at found = absurd (none-some made found)
    by (Some (answer.Variable v)) at found = absurd (none-some made found)
    by (Some (answer.Entry table)) at found = absurd (none-some made found)
    by (Some (answer.Values first count)) at found = absurd (none-some made found)
    by (Some (answer.Inst i)) at found = absurd (none-some made found)
    by (Some (answer.Block x)) at found = absurd (none-some made found)
    by (Some (answer.Edge other)) at found = by_edge other at name.answer refl found

-- a name that leads to no edge names none
pub edge-missing : {R : Type 0} {naming : Naming} {declared : SignatureShape} (calls : List AnsweredCall) (b : FunctionBuilder R) (answers : List Answer) → IsReady naming declared calls b answers
    → (name : Name) → edge_at answers name ≡ None → is_some (edge_named (ledger_of calls) (naming name)) ≡ false
edge-missing {naming} calls b answers ready name missing =
    false_from_ne_true (is_some (edge_named (ledger_of calls) (naming name))) (λ there.
    let edge = some-is (edge_named (ledger_of calls) (naming name)) there in
    by edge.0 (slice_get answers name.place) refl missing (edge-is _ edge.0 edge.1))
  where
    by_edge : (made : BlockCall) (index : ℕ) → index ≡ 0 → (if index == 0 then Some made else None) ≡ None → ⊥
    by_edge made zero is missing = none-some made (sym missing)
    by_edge made (suc k) is missing = omega (arith, is)

    by : (edge : meaning.Edge named.Name named.Name) (o : Option Answer) → slice_get answers name.place ≡ o → edge_in name.answer o ≡ None
        → answer_at (ledger_of calls) (naming name) ≡ Some (AnEdge edge) → ⊥
    by edge None at missing answered = none-some (AnEdge edge) (sym (answer-past calls b answers ready name at) ∙ answered)
    by edge (Some answer.Nothing) at missing answered =
        let e = entry calls b answers ready name.place answer.Nothing at in
        no-answer e.given name.answer (AnEdge edge) e.is.0 (sym (e.told name refl) ∙ answered)
    by edge (Some (answer.Block x)) at missing answered =
        let e = entry calls b answers ready name.place (answer.Block x) at in
        let wrong : ABlock ≡ AnEdge edge = (one-answer e.given ABlock name.answer (AnEdge edge) e.is.0 (sym (e.told name refl) ∙ answered)).1 in
        cc
    by edge (Some (answer.Variable v)) at missing answered =
        let e = entry calls b answers ready name.place (answer.Variable v) at in
        let wrong : AVariable v ≡ AnEdge edge = (one-answer e.given (AVariable v) name.answer (AnEdge edge) e.is.0 (sym (e.told name refl) ∙ answered)).1 in
        cc
    by edge (Some (answer.Values first count)) at missing answered =
        let e = entry calls b answers ready name.place (answer.Values first count) at in
        let value = values-answer e.given e.is.0 name.answer (AnEdge edge) e.is.1 (sym (e.told name refl) ∙ answered) in
        let wrong : AValue value.0 ≡ AnEdge edge = value.1 in
        cc
    by edge (Some (answer.Inst i)) at missing answered =
        let e = entry calls b answers ready name.place (answer.Inst i) at in
        elim (instruction-answer e.given e.is.0 name.answer (AnEdge edge) e.is.2 (sym (e.told name refl) ∙ answered)) [
          | inl first ↦ let wrong : AnInstruction ≡ AnEdge edge = first.1 in cc
          | inr later ↦ let wrong : AValue later.2 ≡ AnEdge edge = later.3 in cc
        ]
    by edge (Some (answer.Entry table)) at missing answered =
        let e = entry calls b answers ready name.place (answer.Entry table) at in
        let one = one-answer e.given e.is.0 name.answer (AnEdge edge) e.is.2 (sym (e.told name refl) ∙ answered) in
        no-entry e.is.0 (AnEdge edge) one.1 refl e.is.5
    by edge (Some (answer.Edge made)) at missing answered =
        let e = entry calls b answers ready name.place (answer.Edge made) at in
        by_edge made name.answer (one-answer e.given (AnEdge e.is.0) name.answer (AnEdge edge) e.is.1 (sym (e.told name refl) ∙ answered)).0 missing
