use Rattle.std.proofs.Common.{◌≡◌, ◌<◌, List, [], ◌∷◌, ◌++◌, rules, arith, ap, refl, sym, ◌∙◌, subst, inl}
use Rattle.std.proofs.lemmas.Grind.{common_steps}
use Rattle.clif_calls.specs.declared.call.Call.{Call}
use Rattle.clif_expansion.specs.ScriptCall.{ScriptCall}
use Rattle.clif_builder.specs.declared.builder.FunctionBuilder.{FunctionBuilder}
use Rattle.clif_types.specs.Signature.{SignatureShape}
use Rattle.clif_types.specs.declared.target.TargetFrontendConfig.{TargetFrontendConfig}
use Rattle.clif_resolution.specs.declared.answers.Answer.{Answer}
use Rattle.clif_replay.specs.Ready.{IsCallJudged, TablesAgree}
use Rattle.clif_replay.specs.Requests.{calls_of, name_of}
use Rattle.clif_replay.specs.Replayed.{IsReplayed}
use Rattle.std.specs.Prelude.{ℕ, Bool, true, length, Err, Ok, Result, Some, slice_get, take}
use Rattle.clif_resolution.specs.declared.answers.CallError.{CallError}
use Rattle.clif_resolution.specs.declared.answers.CallError.TheVariants as error
use Rattle.clif_replay.specs.declared.script.ReplayError.{ReplayError}
use Rattle.clif_replay.specs.declared.script.ReplayError.TheVariants.{Full, Misuse, Refused}
use Rattle.std.proofs.lemmas.Option.{slice_get-get_or, slice_get_within}
use Rattle.clif_meaning.specs.Name.{answer_of}
use Rattle.clif_builder.specs.Ledger.{NamesEdges, NamesExceptions}
use Rattle.clif_builder.specs.LedgerLaws.{LedgerIsReadByNumber}
use Rattle.clif_builder.specs.StandsFor.{StandsFor}
use Rattle.clif_expansion.specs.JoinedCalls.{Starting}
use Rattle.clif_expansion.specs.Reading.{NotMade}
use Rattle.clif_replay.proofs.Replays.{last-place, loans-then, made-all, made-memory, misuse-place, refused-there}
use Rattle.std.proofs.lemmas.Result.{err_from_is_err_and}
use Rattle.clif_resolution.specs.Entries.{Numbers}
use Rattle.clif_replay.specs.Limits.{StopsAtFullTable}
use Rattle.clif_replay.proofs.Filling.{may-fill}
use Rattle.clif_replay.proofs.Stepping.{IsInStep, in-step-numbers, step}
use Rattle.clif_replay.proofs.Verdicts.{HasRest, calls-more, calls_before, full-told, misuse-told, refusal-at, refusal-told, rest-more}
use Rattle.clif_replay.proofs.script.make_calls.Goals as goal

-- the first calls were made where the builder is in step
replayed-at : {R : Type 0} (config : TargetFrontendConfig) (declared : SignatureShape) (calls : List Call) (place : ℕ) (b : FunctionBuilder R) (answers : List Answer) (s : IsInStep config declared (calls_before config declared calls place) b answers)
    → HasRest config declared calls place → IsReplayed config declared calls place s.made
replayed-at config declared calls place b answers s rest = record { plain = s.known.calls; taken = s.taken; rest = rest }

-- the same step, of these calls and answers
advance : {R : Type 0} (config : TargetFrontendConfig) (declared : SignatureShape) (script next : List ScriptCall) (b : FunctionBuilder R) (answers more : List Answer) → script ≡ next → answers ≡ more
    → IsInStep config declared script b answers → IsInStep config declared next b more
advance config declared script next b answers more calls given s =
    subst (λ (xs : List Answer). IsInStep config declared next b xs) given (subst (λ (list : List ScriptCall). IsInStep config declared list b answers) calls s)

-- before the first call
no-some : (xs : List Answer) (k : ℕ) (a : Answer) → xs ≡ [] → slice_get xs k ≡ Some a → ⊥
no-some xs k a same is =
    let below = slice_get_within xs k a is in
    let none : length xs ≡ 0 = ap length same in
    omega (arith, below, none)

starts : {R : Type 0} (config : TargetFrontendConfig) (declared : SignatureShape) (b : FunctionBuilder R) → LedgerIsReadByNumber → StandsFor declared [] b
    → b.func.now.tables.jump_tables ≡ [] → b.func.now.tables.exception_tables ≡ [] → IsInStep config declared [] b []
starts config declared b reads stands tables exceptions = record {
  naming = name_of;
  made = [];
  ready = record {
    reads = reads;
    stands = stands;
    answered = λ place answer is. absurd (no-some [] place answer refl is);
    later = λ name k is. ap (λ (n : ℕ). answer_of n name.answer) is;
    edges = λ name made is first. absurd (no-some [] name.place _ refl is);
    tables = subst (TablesAgree (NamesEdges []) []) (sym tables) tt;
    exceptions = subst (TablesAgree (NamesExceptions []) []) (sym exceptions) tt;
  };
  known = record {
    calls = record { reading = λ x. NotMade; joined = Starting; performed = λ pointer_width of. tt };
    full = λ x. NotMade;
    keeps = λ x name read. read;
    only = λ x name read. inl read;
    reads = λ name below.
        let under : name.place < 0 = below in
        absurd (omega (arith, under));
  };
  taken = tt;
  counts = refl;
  sizes = λ table. omega arith;
}

take-none : (calls : List Call) → take 0 calls ≡ []
take-none [] = refl
take-none (call ∷ calls) = refl

rest-start : (config : TargetFrontendConfig) (declared : SignatureShape) (calls : List Call) → HasRest config declared calls 0
rest-start config declared [] = refl
rest-start config declared (call ∷ calls) = refl

pub loop-place-init : goal.loop-place-init
loop-place-init g c =
    let declared = c.args.builder.now.func.now.signature in
    let calls = c.args.calls.now in
    let start = starts c.args.config declared c.args.builder.now c.ledger_is_read_by_number.ensures c.requires.ready c.requires.tables c.requires.exceptions in
    record {
      in_step = advance c.args.config declared _ _ c.args.builder.now _ _ (sym (ap (calls_of c.args.config declared) (take-none calls))) (sym c.new-answers.ensures.items) start;
      rest = rest-start c.args.config declared calls;
      types = c.new-types.ensures.items ∙ sym c.requires.types;
      loans = record { func = refl; ctx = refl; region = refl };
      sound = c.requires.sound;
      name = refl;
    }

pub loop-place-preserved : goal.loop-place-preserved
loop-place-preserved g c =
    let declared = c.args.builder.now.func.now.signature in
    let calls = c.args.calls.now in
    let place = c.loop-place.place in
    let call = c.index-calls-place.result in
    let new = c.make_call.new.builder in
    let made = step c.args.config call c.loop-place.builder new _ (Ok c.in-Ok.answer) c.in-Ok.ensures in
    let before = subst (λ (xs : List Answer). IsInStep c.args.config declared (calls_before c.args.config declared calls place) c.loop-place.builder xs) (sym c.as_slice.ensures.value) c.loop-place.invariant.in_step in
    let after = made.goes_on declared (calls_before c.args.config declared calls place) before in
    let answers = ap (λ (xs : List Answer). xs ++ c.in-Ok.answer ∷ []) c.as_slice.ensures.value ∙ sym c.in_ok-push-in-Ok.ensures.items in
    let variables = made.variables in
    let judged = made.judged declared (calls_before c.args.config declared calls place) before in
    record {
      in_step = advance c.args.config declared _ _ new _ _ (calls-more c.args.config declared calls place call c.loop-place-test.true c.index-calls-place.is) answers after;
      rest = rest-more c.args.config declared calls place call c.loop-place-test.true c.index-calls-place.is c.loop-place.invariant.rest judged.0 judged.1;
      types = first_of (search rules, grind (arith, common_steps, variables));
      loans = loans-then c.args.builder.now c.loop-place.builder new c.loop-place.invariant.loans made.loans;
      sound = made.sound;
      name = made.name ∙ c.loop-place.invariant.name;
    }

pub returns-in-Err-clause-judged : goal.returns-in-Err-clause-judged
returns-in-Err-clause-judged g c = λ i told.
    let declared = c.args.builder.now.func.now.signature in
    let calls = c.args.calls.now in
    let place = c.loop-place.place in
    let call = c.index-calls-place.result in
    let made = step c.args.config call c.loop-place.builder c.make_call.new.builder _ (Err c.in-Err.error) c.in-Err.ensures in
    let before = subst (λ (xs : List Answer). IsInStep c.args.config declared (calls_before c.args.config declared calls place) c.loop-place.builder xs) (sym c.as_slice.ensures.value) c.loop-place.invariant.in_step in
    misuse-told c.args.config declared calls place i call c.in-Err.error c.told_at.result c.loop-place-test.true c.index-calls-place.is c.loop-place.invariant.rest
    (made.judged declared (calls_before c.args.config declared calls place) before) c.told_at.ensures (same c.told_at.result i told)
  where
    same : (e : ReplayError) (k : ℕ) → ◌≡◌ {A = Result (Unit {0}) ReplayError} (Err e) (Err (Misuse k)) → e ≡ Misuse k
    same e k h = cc

same-full : (e : ReplayError) → ◌≡◌ {A = Result (Unit {0}) ReplayError} (Err e) (Err Full) → e ≡ Full
same-full e h = cc

same-refusal : (e : ReplayError) (k : ℕ) → ◌≡◌ {A = Result (Unit {0}) ReplayError} (Err e) (Err (Refused k)) → e ≡ Refused k
same-refusal e k h = cc

-- a call that finds a table full is allowed
allowed-full : (e : CallError) → e ≡ error.Full → (allowed blamed refused : Bool) → IsCallJudged allowed blamed refused (Err e) → allowed ≡ true
allowed-full e is allowed blamed refused judged = subst (λ (told : CallError). IsCallJudged allowed blamed refused (Err told)) is judged

pub returns-in-Err-clause-table_full : goal.returns-in-Err-clause-table_full
returns-in-Err-clause-table_full g c = λ told.
    let invariant = c.loop-place.invariant in
    let declared = c.args.builder.now.func.now.signature in
    let calls = c.args.calls.now in
    let place = c.loop-place.place in
    let builder = c.loop-place.builder in
    let call = c.index-calls-place.result in
    let is_full = full-told c.in-Err.error place c.told_at.result c.told_at.ensures (same-full c.told_at.result told) in
    let made = step c.args.config call builder c.make_call.new.builder _ (Err c.in-Err.error) c.in-Err.ensures in
    let before = subst (λ (xs : List Answer). IsInStep c.args.config declared (calls_before c.args.config declared calls place) builder xs) (sym c.as_slice.ensures.value) invariant.in_step in
    let judged = made.judged declared (calls_before c.args.config declared calls place) before in
    record {
      place = place;
      call = call;
      here = slice_get-get_or calls place call c.loop-place-test.true ∙ ap Some (sym c.index-calls-place.is);
      made = invariant.in_step.made;
      replayed = replayed-at c.args.config declared calls place builder _ invariant.in_step invariant.rest;
      function = builder.func.now;
      context = builder.ctx.now.parts;
      position = builder.position;
      stands = invariant.in_step.ready.stands;
      named = invariant.name;
      allowed = allowed-full c.in-Err.error is_full _ _ _ judged;
      meets =
          subst (λ (numbers : Numbers). StopsAtFullTable c.args.config numbers call builder.func.now builder.ctx.now.parts builder.position)
          (in-step-numbers c.args.config declared (calls_before c.args.config declared calls place) builder _ before) (made.full (ap Err is_full));
      sums =
          may-fill c.args.config declared (calls_before c.args.config declared calls place) builder _ before call
          (subst (λ (numbers : Numbers). StopsAtFullTable c.args.config numbers call builder.func.now builder.ctx.now.parts builder.position)
          (in-step-numbers c.args.config declared (calls_before c.args.config declared calls place) builder _ before) (made.full (ap Err is_full)));
    }

pub returns-in_err-note_call-in-Ok : goal.returns-in_err-note_call-in-Ok
returns-in_err-note_call-in-Ok g c =
    let p = err_from_is_err_and c.from_residual.result c.from_residual.ensures.1 in
    let step_made = step c.args.config c.index-calls-place.result c.loop-place.builder c.make_call.new.builder _ (Ok c.in-Ok.answer) c.in-Ok.ensures in
    let made = made-memory c.args.config c.args.calls.now c.args.builder.now c.make_call.new.builder c.from_residual.result (p.1 ∙ ap Err p.2)
    (loans-then c.args.builder.now c.loop-place.builder c.make_call.new.builder c.loop-place.invariant.loans step_made.loans) in
    record { loans = made.loans; name = made.name; ready = made.ready; sound = made.sound; misuse = made.misuse; judged = made.judged; tried = made.tried; refused = made.refused; table_full = made.table_full }

pub returns-in_err-push-in-Ok : goal.returns-in_err-push-in-Ok
returns-in_err-push-in-Ok g c =
    let p = err_from_is_err_and c.from_residual-in_err-push-in-Ok.result c.from_residual-in_err-push-in-Ok.ensures.1 in
    let step_made = step c.args.config c.index-calls-place.result c.loop-place.builder c.make_call.new.builder _ (Ok c.in-Ok.answer) c.in-Ok.ensures in
    let made = made-memory c.args.config c.args.calls.now c.args.builder.now c.make_call.new.builder c.from_residual-in_err-push-in-Ok.result (p.1 ∙ ap Err p.2)
    (loans-then c.args.builder.now c.loop-place.builder c.make_call.new.builder c.loop-place.invariant.loans step_made.loans) in
    record { loans = made.loans; name = made.name; ready = made.ready; sound = made.sound; misuse = made.misuse; judged = made.judged; tried = made.tried; refused = made.refused; table_full = made.table_full }

pub returns-in_err-push : goal.returns-in_err-push
returns-in_err-push g c =
    let p = err_from_is_err_and c.from_residual-in_err-push.result c.from_residual-in_err-push.ensures.1 in
    let step_made = step c.args.config c.index-calls-place.result c.loop-place.builder c.make_call.new.builder _ (Ok c.in-Ok.answer) c.in-Ok.ensures in
    let made = made-memory c.args.config c.args.calls.now c.args.builder.now c.make_call.new.builder c.from_residual-in_err-push.result (p.1 ∙ ap Err p.2)
    (loans-then c.args.builder.now c.loop-place.builder c.make_call.new.builder c.loop-place.invariant.loans step_made.loans) in
    record { loans = made.loans; name = made.name; ready = made.ready; sound = made.sound; misuse = made.misuse; judged = made.judged; tried = made.tried; refused = made.refused; table_full = made.table_full }

pub returns : goal.returns
returns g c =
    let invariant = c.loop-place.invariant in
    let declared = c.args.builder.now.func.now.signature in
    let ended = last-place c.loop-place.place (length c.args.calls.now) c.loop-place.auto.place-end c.loop-place-test.false in
    let here = replayed-at c.args.config declared c.args.calls.now c.loop-place.place c.loop-place.builder _ invariant.in_step invariant.rest in
    let replayed = subst (λ (place : ℕ). IsReplayed c.args.config declared c.args.calls.now place invariant.in_step.made) ended here in
    let made = made-all c.args.config c.args.calls.now c.args.builder.now c.loop-place.builder invariant.in_step.made invariant.loans invariant.name invariant.in_step.ready.stands replayed invariant.sound in
    record { loans = made.loans; name = made.name; ready = made.ready; sound = made.sound; misuse = made.misuse; judged = made.judged; tried = made.tried; refused = made.refused; table_full = made.table_full }

pub returns-in-Err-clause-loans : goal.returns-in-Err-clause-loans
returns-in-Err-clause-loans g c =
    let made = step c.args.config c.index-calls-place.result c.loop-place.builder c.make_call.new.builder _ (Err c.in-Err.error) c.in-Err.ensures in
    loans-then c.args.builder.now c.loop-place.builder c.make_call.new.builder c.loop-place.invariant.loans made.loans

pub returns-in-Err-clause-name : goal.returns-in-Err-clause-name
returns-in-Err-clause-name g c = tt

pub returns-in-Err-clause-ready : goal.returns-in-Err-clause-ready
returns-in-Err-clause-ready g c = tt

pub returns-in-Err-clause-sound : goal.returns-in-Err-clause-sound
returns-in-Err-clause-sound g c = tt

pub returns-in-Err-clause-misuse : goal.returns-in-Err-clause-misuse
returns-in-Err-clause-misuse g c = λ i told. subst (λ (k : ℕ). k < length c.args.calls.now) (sym (misuse-place c.in-Err.error c.loop-place.place i c.told_at.result c.told_at.ensures told)) c.loop-place-test.true

pub returns-in-Err-clause-tried : goal.returns-in-Err-clause-tried
returns-in-Err-clause-tried g c = λ i told.
    let call = c.index-calls-place.result in
    let made = step c.args.config call c.loop-place.builder c.make_call.new.builder _ (Err c.in-Err.error) c.in-Err.ensures in
    let refusal = refusal-at c.in-Err.error c.loop-place.place i c.told_at.result c.told_at.ensures (same-refusal c.told_at.result i told) in
    refused-there c.args.calls.now c.loop-place.place i call (slice_get-get_or c.args.calls.now c.loop-place.place call c.loop-place-test.true ∙ ap Some (sym c.index-calls-place.is))
    (made.refused refusal.0 (ap Err refusal.1)) refusal.2

pub returns-in-Err-clause-refused : goal.returns-in-Err-clause-refused
returns-in-Err-clause-refused g c = λ i told.
    let declared = c.args.builder.now.func.now.signature in
    let calls = c.args.calls.now in
    let place = c.loop-place.place in
    let call = c.index-calls-place.result in
    let made = step c.args.config call c.loop-place.builder c.make_call.new.builder _ (Err c.in-Err.error) c.in-Err.ensures in
    let before = subst (λ (xs : List Answer). IsInStep c.args.config declared (calls_before c.args.config declared calls place) c.loop-place.builder xs) (sym c.as_slice.ensures.value) c.loop-place.invariant.in_step in
    refusal-told c.args.config declared calls place i call c.in-Err.error c.told_at.result c.loop-place-test.true c.index-calls-place.is c.loop-place.invariant.rest
    (made.judged declared (calls_before c.args.config declared calls place) before) c.told_at.ensures (same-refusal c.told_at.result i told)
