-- A builder that stands for the plain calls of an emission is ready for the next call of the script: the script's answer is known as
-- the results of the last plain call.
use Rattle.std.proofs.Common.{◌≡◌, ◌+◌, ◌-◌, ◌<◌, ℕ, ℤ, suc, List, [], ◌∷◌, ◌++◌, length, inl, inr, refl, ap, sym, ◌∙◌, subst, arith, length-append}
use Rattle.std.specs.Prelude.{fold, map, slice_get, nat_lt, Option, Some, Bool, if◌then◌else◌, ◌==◌, Ok}
use Rattle.std.specs.List.{AllByRecursion}
use Rattle.std.proofs.lemmas.Option.{none-some, same_Some, slice_get_within}
use Rattle.std.proofs.lemmas.Bool.{eq-eqb, false_from_ne_true, lt-ltb, ltb-true, ne_eqb}
use Rattle.std.proofs.lemmas.List.{length-map}
use Rattle.std.proofs.lemmas.List.Sums.{fold-append}
use Rattle.clif_types.specs.declared.types.LaneType.TheVariants as lane
use Rattle.clif_types.specs.declared.types.«Type».{«Type»}
use Rattle.clif_types.specs.declared.types.«Type».TheVariants as type
use Rattle.clif_types.specs.Signature.{SignatureShape}
use Rattle.clif_instructions.specs.declared.block_call.BlockCall.{BlockCall}
use Rattle.clif_meaning.specs.Instruction as meaning
use Rattle.clif_meaning.specs.Ledger.{AnEdge, AValue, AnInstruction, Answered, ExceptionTable, Ledger, answered_edge, answers_to, edge_named, ledger_with}
use Rattle.clif_meaning.specs.Name as named
use Rattle.clif_meaning.specs.Request.{AnsweredCall, Request, Script, script_of}
use Rattle.clif_expansion.specs.ConstantCalls.{constant_calls, constant_instructions, constant_last, constant_name}
use Rattle.clif_expansion.specs.Constants.{computing, place_behind}
use Rattle.clif_expansion.specs.Emission.{building}
use Rattle.clif_expansion.specs.ScriptCall.{emitted_types}
use Rattle.clif_constant_calls.specs.Stands.{ConstantOperandsStand, StandsBehind, StandsWith, type_in}
use Rattle.clif_builder.specs.declared.builder.FunctionBuilder.{FunctionBuilder}
use Rattle.clif_builder.specs.StandsFor.{StandsFor}
use Rattle.clif_builder.specs.Ledger.{NamesEdges, NamesExceptions, ledger_of}
use Rattle.clif_builder.proofs.LedgerLists.{and-then-some, get-front}
use Rattle.clif_calls.specs.declared.call.Name.{Name}
use Rattle.clif_calls.specs.declared.immediate.ImmediateCall.{ImmediateCall}
use Rattle.clif_calls.specs.declared.immediate.ImmediateCall.TheVariants as immediate
use Rattle.clif_resolution.specs.Answers.{value_of}
use Rattle.clif_resolution.specs.declared.answers.Answer.{Answer}
use Rattle.clif_resolution.specs.declared.answers.Answer.TheVariants as answer
use Rattle.clif_replay.specs.Emits.{BuildsEmission, IsReadyBehind, constant_in, plain_calls_under, plain_in, shape_in}
use Rattle.clif_replay.specs.Ready.{AreResults, IsAnswered, IsReady, KeepsTables, TablesAgree}
use Rattle.clif_replay.specs.Requests.{Naming, operand_in}
use Rattle.clif_replay.proofs.Emissions.{operand-typed}
use Rattle.clif_builder.proofs.Lasting.{answer-stays, answers-stay, edge-stays, ledger-behind}
use Rattle.clif_replay.proofs.Lasting.{LeavesTables, exceptions-kept, exceptions-stay, tables-kept, tables-stay}
use Rattle.clif_replay.proofs.Options.{get-last, get-push, if-no}
use Rattle.clif_replay.proofs.ReadyLaws.{edge-is, value-found}

-- THE NAMING --------------------------------------------------------------------------------------------------------------

-- Names of the first answers are known as before; those of the answer behind them are known as answers of the call at this place, from
-- some index on; and later ones follow behind so many calls.
abbrev pub extended : Naming → (answers last shift behind : ℕ) → Naming
extended naming answers last shift behind name =
    if nat_lt name.place answers then naming name
    else if name.place == answers then named.answer_of last (shift + name.answer)
    else named.answer_of (behind + (name.place - suc answers)) name.answer

module _ (naming : Naming) (answers last shift behind : ℕ) (name : Name) where
  pub extended-earlier : name.place < answers → extended naming answers last shift behind name ≡ naming name
  extended-earlier less = ap (λ (t : Bool). if t then naming name else (if name.place == answers then named.answer_of last (shift + name.answer) else named.answer_of (behind + (name.place - suc answers)) name.answer))
      (lt-ltb name.place answers less)

  not-earlier : (name.place < answers → ⊥) → extended naming answers last shift behind name
      ≡ (if name.place == answers then named.answer_of last (shift + name.answer) else named.answer_of (behind + (name.place - suc answers)) name.answer)
  not-earlier not_less = if-no (nat_lt name.place answers) _ _ (false_from_ne_true (nat_lt name.place answers) (λ less. not_less (ltb-true name.place answers less)))

  pub extended-here : name.place ≡ answers → extended naming answers last shift behind name ≡ named.answer_of last (shift + name.answer)
  extended-here here = not-earlier (λ less. omega (arith, less, here))
      ∙ ap (λ (t : Bool). if t then named.answer_of last (shift + name.answer) else named.answer_of (behind + (name.place - suc answers)) name.answer) (eq-eqb name.place answers here)

  pub extended-later : (k : ℕ) → name.place ≡ suc answers + k → extended naming answers last shift behind name ≡ named.answer_of (behind + k) name.answer
  extended-later k later =
      let distance : name.place - suc answers ≡ k = omega (arith, later) in
      not-earlier (λ less. omega (arith, less, later)) ∙ if-no (name.place == answers) _ _ (ne_eqb name.place answers (λ here. omega (arith, here, later)))
      ∙ ap (λ (d : ℕ). named.answer_of (behind + d) name.answer) distance

-- the results of an instruction stand behind its number
result-here : (naming : Naming) (answers last behind : ℕ) (name : Name) → name.place ≡ answers → extended naming answers last 1 behind name ≡ named.answer_of last (suc name.answer)
result-here naming answers last behind name here =
    let one : 1 + name.answer ≡ suc name.answer = omega arith in
    extended-here naming answers last 1 behind name here ∙ ap (named.answer_of last) one

-- THE LEDGER --------------------------------------------------------------------------------------------------------------

-- calls that leave the tables do so one behind the other
kept-all : (ledger : Ledger) (script : Script) → AllByRecursion LeavesTables script
    → ((fold ledger_with ledger script).jump_tables ≡ ledger.jump_tables) × ((fold ledger_with ledger script).exception_tables ≡ ledger.exception_tables)
kept-all ledger [] leave = (refl, refl)
kept-all ledger (request ∷ script) leave =
    let rest = kept-all (ledger_with ledger request) script leave.1 in
    (rest.0 ∙ tables-kept ledger request leave.0, rest.1 ∙ exceptions-kept ledger request leave.0)

-- so do instructions that are given no table
built-leave : (code : List (meaning.Instruction named.Name named.Name)) (last : meaning.Instruction named.Name named.Name) → AllByRecursion LeavesTables (map building code ++ building last ∷ [])
built-leave [] last = (tt, tt)
built-leave (instruction ∷ code) last = (tt, built-leave code last)

-- each call has answers
pub as-many-answers : (ledger : Ledger) (script : Script) → length (fold ledger_with ledger script).answers ≡ length script + length ledger.answers
as-many-answers ledger [] = omega arith
as-many-answers ledger (request ∷ script) =
    let rest = as-many-answers (ledger_with ledger request) script in
    let one = length-append ledger.answers (answers_to ledger request ∷ []) in
    omega (arith, rest, one)

-- those of the last call
pub last-answered : (calls added : List AnsweredCall) (front : Script) (request : Request) → length (ledger_of calls).answers ≡ length calls → script_of added ≡ front ++ request ∷ []
    → slice_get (ledger_of (calls ++ added)).answers (length front + length calls) ≡ Some (answers_to (fold ledger_with (ledger_of calls) front) request)
last-answered calls added front request places asked =
    let between : Ledger = fold ledger_with (ledger_of calls) front in
    let whole : ledger_of (calls ++ added) ≡ ledger_with between request =
    ledger-behind calls added ∙ ap (fold ledger_with (ledger_of calls)) asked ∙ fold-append ledger_with (ledger_of calls) front (request ∷ []) in
    let many = as-many-answers (ledger_of calls) front in
    let here : length front + length calls ≡ length between.answers = omega (arith, many, places) in
    ap (λ (ledger : Ledger). slice_get ledger.answers (length front + length calls)) whole
    ∙ ap (slice_get (between.answers ++ answers_to between request ∷ [])) here ∙ get-last between.answers (answers_to between request)

-- two numbers, the second one known
pub two-numbers : (numbers : List ℕ) (value : ℕ) → length numbers ≡ 2 → slice_get numbers 1 ≡ Some value → (inst : ℕ) × (numbers ≡ inst ∷ value ∷ [])
two-numbers [] value many at = let no_way : ⊥ = omega (arith, many) in absurd no_way
two-numbers (inst ∷ []) value many at = absurd (none-some value at)
two-numbers (inst ∷ other ∷ []) value many at = (inst, ap (λ (n : ℕ). inst ∷ n ∷ []) (same_Some other value at))
two-numbers (inst ∷ other ∷ more ∷ numbers) value many at = let no_way : ⊥ = omega (arith, many) in absurd no_way

-- READINESS ---------------------------------------------------------------------------------------------------------------

-- Behind more calls names of the list's next answer are answers of the last one, from some index on.
module _ {R : Type 0} {naming : Naming} {declared : SignatureShape} (calls added : List AnsweredCall) (old new : FunctionBuilder R) (answers : List Answer) (a : Answer) (last shift : ℕ)
    (ready : IsReady naming declared calls old answers) (stands : StandsFor declared (calls ++ added) new) where
  abbrev pub all : List AnsweredCall
  all = calls ++ added

  abbrev pub names : Naming
  names = extended naming (length answers) last shift (length (calls ++ added))

  -- an answer that the list had
  still : (place : ℕ) (x : Answer) → place < length answers → IsAnswered naming calls place x → IsAnswered names all place x
  still place x inside one = record {
    other = one.other;
    call = one.call;
    answered = one.answered;
    at_call = get-front calls added one.other one.call one.at_call;
    at_answered = answers-stay calls added one.other one.answered one.at_answered;
    leads = elim one.leads [
      | inl itself ↦ inl (λ name here. known name here ∙ itself.0 name here, itself.1)
      | inr other ↦ elim other [
        | inl behind ↦ inr (inl (λ name here. known name here ∙ behind.0 name here, behind.1))
        | inr none ↦ inr (inr (λ name here. known name here ∙ none.0 name here, none.1))
      ]
    ];
  }
    where
      known : (name : Name) → name.place ≡ place → names name ≡ naming name
      known name here = extended-earlier naming (length answers) last shift (length all) name (omega (arith, here, inside))

  -- the builder that stands for them is ready, where its tables agree and the next answer is that of the last call
  pub ready-with : IsAnswered names all (length answers) a → ((made : BlockCall) → a ≡ answer.Edge made → ⊥)
      → TablesAgree (NamesEdges all) (ledger_of all).jump_tables new.func.now.tables.jump_tables
      → TablesAgree (NamesExceptions all) (ledger_of all).exception_tables new.func.now.tables.exception_tables
      → IsReady names declared all new (answers ++ a ∷ [])
  ready-with newest no_edge tables exceptions = record {
    reads = ready.reads;
    stands = stands;
    answered = λ place x at. elim (get-push answers a place x at) [
      | inl earlier ↦ still place x (slice_get_within answers place x earlier) (ready.answered place x earlier)
      | inr here ↦ subst (IsAnswered names all place) here.1 (subst (λ (k : ℕ). IsAnswered names all k a) (sym here.0) newest)
    ];
    later = λ name k here.
        let more : length (answers ++ a ∷ []) ≡ length answers + 1 = length-append answers (a ∷ []) in
        extended-later naming (length answers) last shift (length all) name k (omega (arith, here, more));
    edges = λ name made at zero_th. elim (get-push answers a name.place (answer.Edge made) at) [
      | inl earlier ↦
          let there = ready.edges name made earlier zero_th in
          let kept = answer-stays ready.reads calls added old new ready.stands stands (naming name) (AnEdge there.0) (edge-is _ there.0 there.1) in
          let known : names name ≡ naming name = extended-earlier naming (length answers) last shift (length all) name (slice_get_within answers name.place (answer.Edge made) earlier) in
          (there.0, ap (edge_named (ledger_of all)) known ∙ ap answered_edge kept, edge-stays ready.reads calls added old new ready.stands stands there.0 made there.2)
      | inr here ↦ absurd (no_edge made here.1)
    ];
    tables = tables;
    exceptions = exceptions;
  }

-- Behind more calls, which leave the tables, it is ready where the next answer is that of the last call.
pub ready-leaving : {R : Type 0} {naming : Naming} {declared : SignatureShape} (calls added : List AnsweredCall) (old new : FunctionBuilder R) (answers : List Answer) (a : Answer) (last shift : ℕ)
    → IsReady naming declared calls old answers → StandsFor declared (calls ++ added) new → AllByRecursion LeavesTables (script_of added) → KeepsTables old new
    → IsAnswered (extended naming (length answers) last shift (length (calls ++ added))) (calls ++ added) (length answers) a → ((made : BlockCall) → a ≡ answer.Edge made → ⊥)
    → IsReady (extended naming (length answers) last shift (length (calls ++ added))) declared (calls ++ added) new (answers ++ a ∷ [])
ready-leaving calls added old new answers a last shift ready stands leave keeps newest no_edge =
    ready-with calls added old new answers a last shift ready stands newest no_edge
    (subst (TablesAgree (NamesEdges all) (ledger_of all).jump_tables) (sym keeps.0)
    (subst (λ (tables : List (Option (List (meaning.Edge named.Name named.Name)))). TablesAgree (NamesEdges all) tables old.func.now.tables.jump_tables)
    (sym (ap (λ (l : Ledger). l.jump_tables) (ledger-behind calls added) ∙ kept.0))
    (tables-stay ready.reads calls added old new ready.stands stands (ledger_of calls).jump_tables old.func.now.tables.jump_tables ready.tables)))
    (subst (TablesAgree (NamesExceptions all) (ledger_of all).exception_tables) (sym keeps.1)
    (subst (λ (tables : List (Option ExceptionTable)). TablesAgree (NamesExceptions all) tables old.func.now.tables.exception_tables)
    (sym (ap (λ (l : Ledger). l.exception_tables) (ledger-behind calls added) ∙ kept.1))
    (exceptions-stay ready.reads calls added old new ready.stands stands (ledger_of calls).exception_tables old.func.now.tables.exception_tables ready.exceptions)))
  where
    all : List AnsweredCall
    all = calls ++ added

    kept : ((fold ledger_with (ledger_of calls) (script_of added)).jump_tables ≡ (ledger_of calls).jump_tables) × ((fold ledger_with (ledger_of calls) (script_of added)).exception_tables ≡ (ledger_of calls).exception_tables)
    kept = kept-all (ledger_of calls) (script_of added) leave

-- The results of the last call are the script's answer.
pub result-answered : (naming : Naming) {calls : List AnsweredCall} (answers : List Answer) (first count last : ℕ) (call : AnsweredCall) (given : List Answered)
    → slice_get calls last ≡ Some call → slice_get (ledger_of calls).answers last ≡ Some given → AreResults (answer.Values first count) given call.numbers
    → IsAnswered (extended naming (length answers) last 1 (length calls)) calls (length answers) (answer.Values first count)
result-answered naming {calls} answers first count last call given at_call at_answered are = record {
  other = last;
  call = call;
  answered = given;
  at_call = at_call;
  at_answered = at_answered;
  leads = inr (inl (λ name at. result-here naming (length answers) last (length calls) name at, are));
}

pub values-no-edge : (first count : ℕ) (made : BlockCall) → answer.Values first count ≡ answer.Edge made → ⊥
values-no-edge first count made same = cc

ready-behind : {R : Type 0} {naming : Naming} {declared : SignatureShape} (calls added : List AnsweredCall) (old new : FunctionBuilder R) (answers : List Answer) (first count last : ℕ) (call : AnsweredCall) (given : List Answered)
    → IsReady naming declared calls old answers → StandsFor declared (calls ++ added) new → AllByRecursion LeavesTables (script_of added) → KeepsTables old new
    → slice_get (calls ++ added) last ≡ Some call → slice_get (ledger_of (calls ++ added)).answers last ≡ Some given → AreResults (answer.Values first count) given call.numbers
    → IsReady (extended naming (length answers) last 1 (length (calls ++ added))) declared (calls ++ added) new (answers ++ answer.Values first count ∷ [])
ready-behind {naming} calls added old new answers first count last call given ready stands leave keeps at_call at_answered are =
    ready-leaving calls added old new answers (answer.Values first count) last 1 ready stands leave keeps
    (result-answered naming answers first count last call given at_call at_answered are) (values-no-edge first count)

-- AN EMISSION -------------------------------------------------------------------------------------------------------------

one-more : (n : ℕ) → suc n ≡ 1 + n
one-more n = omega arith

two-more : (n : ℕ) → suc (suc n) ≡ 2 + n
two-more n = omega arith

-- the place of the last call, behind those of the constant
last-place : (ty : «Type») (imm : ℤ) (n : ℕ) → place_behind ty n ≡ length (constant_instructions ty imm n) + n
last-place (type.Lane lane.I128) imm n = two-more n
last-place (type.Lane lane.I8) imm n = one-more n
last-place (type.Lane lane.I16) imm n = one-more n
last-place (type.Lane lane.I32) imm n = one-more n
last-place (type.Lane lane.I64) imm n = one-more n
last-place (type.Lane lane.F16) imm n = one-more n
last-place (type.Lane lane.F32) imm n = one-more n
last-place (type.Lane lane.F64) imm n = one-more n
last-place (type.Lane lane.F128) imm n = one-more n
last-place type.Invalid imm n = one-more n
last-place (type.Vector l k) imm n = one-more n

-- plain arithmetic has one result
one-result : (called : ImmediateCall) (ty : «Type») (operands : List named.Name) → (given : «Type») × (emitted_types (computing (plain_in called) ty operands) ≡ given ∷ [])
one-result (immediate.IaddImmS x imm) ty operands = (ty, refl)
one-result (immediate.IcmpImmS cond x imm) ty operands = (type.Lane lane.I8, refl)

-- the law, for each of both
stands-behind : {R : Type 0} → ConstantOperandsStand R → (called : ImmediateCall) → StandsBehind R (plain_in called) (λ x constant. shape_in called x constant)
stands-behind law (immediate.IaddImmS x imm) = law.adds
stands-behind law (immediate.IcmpImmS cond x imm) = law.compares cond

pub length-script : (added : List AnsweredCall) → length (script_of added) ≡ length added
length-script added = length-map added (λ (call : AnsweredCall). call.request)

-- the builder that stands for the plain calls is ready
stands-ready : {R : Type 0} {naming : Naming} {declared : SignatureShape} (calls : List AnsweredCall) (called : ImmediateCall) (old new : FunctionBuilder R) (answers : List Answer) (ty : «Type») (x : named.Name) (value : ℕ)
    → IsReady naming declared calls old answers → KeepsTables old new
    → StandsWith declared calls (constant_calls (plain_in called) ty (constant_in called) (length calls) x) (named.answer_of (place_behind ty (length calls)) 1) new value
    → IsReadyBehind naming declared calls (constant_calls (plain_in called) ty (constant_in called) (length calls) x) new answers (answer.Values value 1)
stands-ready {naming} {declared} calls called old new answers ty x value ready keeps with_calls = record {
  added = with_calls.added;
  asked = with_calls.asked;
  last = last;
  at_end = ending;
  extended = extended naming (length answers) last 1 (length all);
  earlier = λ name less. extended-earlier naming (length answers) last 1 (length all) name less;
  results = λ name here. result-here naming (length answers) last (length all) name here;
  ready = ready-behind calls with_calls.added old new answers value 1 last at_call.0 given ready with_calls.stands
      (subst (AllByRecursion LeavesTables) (sym with_calls.asked) (built-leave (constant_instructions ty (constant_in called) (length calls)) (constant_last (plain_in called) ty (length calls) x)))
      keeps at_call.1 answered_last (result.0 ∷ [], numbers.0, answers_are, numbers.1, refl);
}
  where
    all : List AnsweredCall
    all = calls ++ with_calls.added

    last : ℕ
    last = place_behind ty (length calls)

    front : Script
    front = map building (constant_instructions ty (constant_in called) (length calls))

    request : Request
    request = building (constant_last (plain_in called) ty (length calls) x)

    given : List Answered
    given = answers_to (fold ledger_with (ledger_of calls) front) request

    place : last ≡ length front + length calls
    place = last-place ty (constant_in called) (length calls)
        ∙ ap (λ (n : ℕ). n + length calls) (sym (length-map (constant_instructions ty (constant_in called) (length calls)) building))

    ending : length all ≡ suc last
    ending =
        let one = length-append calls with_calls.added in
        let two = length-script with_calls.added in
        let three : length (script_of with_calls.added) ≡ length (front ++ request ∷ []) = ap (λ (s : Script). length s) with_calls.asked in
        let four = length-append front (request ∷ []) in
        omega (arith, one, two, three, four, place)

    result : (given : «Type») × (emitted_types (constant_last (plain_in called) ty (length calls) x) ≡ given ∷ [])
    result = one-result called ty (x ∷ constant_name ty (length calls) ∷ [])

    answers_are : given ≡ AnInstruction ∷ map AValue (result.0 ∷ [])
    answers_are = ap (λ (types : List «Type»). AnInstruction ∷ map AValue types) result.1

    answered_last : slice_get (ledger_of all).answers last ≡ Some given
    answered_last = ap (slice_get (ledger_of all).answers) place ∙ last-answered calls with_calls.added front request ready.stands.ledger.places with_calls.asked

    at_call : (call : AnsweredCall) × (slice_get all last ≡ Some call) × (slice_get call.numbers 1 ≡ Some value)
    at_call = and-then-some (λ (one : AnsweredCall). slice_get one.numbers 1) (slice_get all last) value with_calls.named.number

    numbers : (inst : ℕ) × (at_call.0.numbers ≡ inst ∷ value ∷ [])
    numbers = two-numbers at_call.0.numbers value
        ((with_calls.stands.ledger.answers last at_call.0 given at_call.1 answered_last).count ∙ ap (λ (xs : List Answered). length xs) answers_are) at_call.2

pub emission-ready : {R : Type 0} → ConstantOperandsStand R → {naming : Naming} {declared : SignatureShape} (calls : List AnsweredCall) (called : ImmediateCall) (old new : FunctionBuilder R) (answers : List Answer) (x value : ℕ)
    → IsReady naming declared calls old answers → KeepsTables old new → value_of old.func.now answers (operand_in called) ≡ Some x → BuildsEmission called x old new (Ok value)
    → IsReadyBehind naming declared calls (plain_calls_under naming (ledger_of calls) (length calls) called) new answers (answer.Values value 1)
emission-ready law {naming} {declared} calls called old new answers x value ready keeps found built =
    subst (λ (ty : «Type»). IsReadyBehind naming declared calls (constant_calls (plain_in called) ty (constant_in called) (length calls) (naming (operand_in called))) new answers (answer.Values value 1))
    (sym (operand-typed called old answers x found naming declared calls ready))
    (stands-ready calls called old new answers (type_in old x) (naming (operand_in called)) value ready keeps
    (stands-behind law called declared calls old new (naming (operand_in called)) x (constant_in called) (Ok value) ready.stands (value-found calls old answers ready (operand_in called) x found) built))
