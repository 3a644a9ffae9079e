-- One step of a replay: a call of the list is made, and the builder that stood for the plain calls of the script's calls stands for
-- those of one call more.
use Rattle.std.proofs.Common.{◌≡◌, ◌<◌, ◌≤◌, inl, ℕ, suc, ◌+◌, List, [], ◌∷◌, ◌++◌, length, ap, arith, refl, sym, ◌∙◌, subst}
use Rattle.std.specs.Prelude.{◌&&◌, ◌||◌, if◌then◌else◌, Bool, true, false, Option, Some, None, is_some, option_map, map, slice_get, Result, Ok, Err, OnOk, IfOk}
use Rattle.std.specs.List.{list_any}
use Rattle.std.specs.Global.{Vec}
use Rattle.std.proofs.lemmas.Bool.{false≢true}
use Rattle.std.proofs.lemmas.List.{map_push, map-append, length-append, length-map}
use Rattle.clif_types.specs.Signature.{SignatureShape}
use Rattle.clif_types.specs.declared.target.TargetFrontendConfig.{TargetFrontendConfig}
use Rattle.clif_meaning.specs.Acceptance.{Refusal, refusal_of}
use Rattle.clif_meaning.specs.Ledger.{Ledger, empty_ledger, ledger_after}
use Rattle.clif_meaning.specs.Name as named
use Rattle.clif_meaning.specs.Name.{answer_of, same_name}
use Rattle.clif_meaning.specs.Request.{AnsweredCall, Request, Script, script_of}
use Rattle.clif_meaning.specs.Instruction.{Compute, Instruction, Operation, Switch}
use Rattle.clif_meaning.specs.Sizes.{Table, made_by_script}
use Rattle.clif_ir.specs.Body.{Body}
use Rattle.clif_switch_calls.specs.SwitchSizes.{switch_makes}
use Rattle.clif_builder.specs.Context.{ContextState}
use Rattle.clif_memory_helpers.proofs.HelperSizes.{helper_few}
use Rattle.clif_simulation.proofs.LedgerValues.{as_many}
use Rattle.clif_builder.specs.declared.builder.FunctionBuilder.{FunctionBuilder}
use Rattle.clif_builder.specs.Builder.{SameLoans}
use Rattle.clif_builder.specs.Ledger.{block_name}
use Rattle.clif_expansion.specs.CallsVerdict.{AreCallsTaken, call_blames_variable}
use Rattle.clif_expansion.specs.ScriptCall.{Ask, Emit, OfCall, ScriptCall, call_allowed, call_answers, call_refusal, ledger_of, ledger_with_call}
use Rattle.clif_expansion.specs.Switching.{BeginsHere}
use Rattle.clif_expansion.proofs.EmittedPrograms.{one_longer}
use Rattle.clif_expansion.proofs.JoinedCalls.{fold_on}
use Rattle.clif_expansion.proofs.Names.{names_equal}
use Rattle.clif_expansion.proofs.calls.Verdicts.{one_more}
use Rattle.clif_calls.specs.declared.call.Call.{Call}
use Rattle.clif_calls.specs.declared.call.Call.TheVariants as call
use Rattle.clif_calls.specs.declared.call.Name.{Name}
use Rattle.clif_calls.specs.declared.immediate.ImmediateCall.{ImmediateCall}
use Rattle.clif_calls.specs.declared.immediate.ImmediateCall.TheVariants as immediate
use Rattle.clif_calls.specs.declared.memory.MemoryCall.{MemoryCall}
use Rattle.clif_calls.specs.declared.switch.SwitchEntry.{SwitchEntry}
use Rattle.clif_memory_helpers.specs.Helpers.{helper_calls}
use Rattle.clif_calls.specs.declared.outside.OutsideCall.TheVariants as outside
use Rattle.clif_calls.specs.declared.straight.StraightInstruction.TheVariants as straight
use Rattle.clif_calls.specs.declared.table.ThrowingCall.TheVariants as throwing
use Rattle.clif_resolution.specs.declared.answers.Answer.{Answer}
use Rattle.clif_resolution.specs.declared.condition.Condition.{Condition}
use Rattle.clif_resolution.specs.declared.answers.CallError.{CallError}
use Rattle.clif_resolution.specs.declared.answers.CallError.TheVariants as error
use Rattle.clif_replay.specs.Cases.{switch_under}
use Rattle.clif_replay.specs.Emits.{IsSwitchJudged, MakesEmission, MakesHelper, MakesMoved, MakesScriptCall, MakesSwitch, plain_calls_under}
use Rattle.clif_replay.specs.Helpers.{helper_under, moves_nothing, nothing_moved, operands_in, operation_in}
use Rattle.clif_resolution.specs.Entries.{Numbers, numbers_at}
use Rattle.clif_replay.specs.Entries.{numbers_in}
use Rattle.clif_replay.specs.Limits.{MeetsFullTable, StopsAtFullTable}
use Rattle.clif_replay.specs.Sums.{call_makes, calls_make, emitted}
use Rattle.clif_replay.specs.Makes.{MakesCall}
use Rattle.clif_replay.specs.Ready.{IsCallJudged, IsJudged, IsReady, types_after}
use Rattle.clif_replay.specs.Requests.{Naming, call_of, emission_under, emitted_in, is_refusable, is_tried, name_of, request_of, request_under}
use Rattle.clif_replay.proofs.Numbers.{numbers-same}
use Rattle.clif_replay.proofs.Known.{numbers-known, AreKnown, allowed-same, blamed-same, emitted-same, helper-same, is-read, known-asked, known-emitted, known-helped, known-switched, switch-refused, switch-same}
use Rattle.clif_replay.proofs.Nowhere.{AreAnswered}
use Rattle.clif_replay.proofs.ReadyLaws.{read}
use Rattle.clif_replay.proofs.Summing.{constants-few, made-append, made_read, make-append}

-- plain calls make at most what is counted for the calls of the script
abbrev pub AreCounted : TargetFrontendConfig → Script → List ScriptCall → Type 0
AreCounted config plain script = (table : Table) → made_by_script plain table ≤ calls_make config script table

-- calls more on both sides are counted as well
counted-on : (config : TargetFrontendConfig) (plain added : Script) (script : List ScriptCall) (call : ScriptCall) → AreCounted config plain script
    → ((table : Table) → made_by_script added table ≤ call_makes config call table) → AreCounted config (plain ++ added) (script ++ call ∷ [])
counted-on config plain added script call before few table =
    let made = made-append plain added table in
    let makes = make-append config script call table in
    omega (arith, before table, few table, made, makes)

-- The builder stands for plain calls of these calls of the script, which are taken, gave these answers, and make at most what is counted.
pub record IsInStep {R : Type 0} (config : TargetFrontendConfig) (declared : SignatureShape) (script : List ScriptCall) (b : FunctionBuilder R) (answers : List Answer) : Type 0 where
  pub naming : Naming
  pub made : List AnsweredCall
  pub ready : IsReady naming declared made b answers
  pub known : AreKnown naming (length answers) (script_of made) script
  pub taken : AreCallsTaken empty_ledger script
  pub counts : length (ledger_of script).answers ≡ length answers
  pub sizes : AreCounted config (script_of made) script

-- The call may be made at this ledger and isn't refused, or it is known why it wasn't made.
abbrev pub IsJudgedOn : Ledger → ScriptCall → (tried : Bool) → Result Answer CallError → Type 0
IsJudgedOn ledger this tried result =
    IsCallJudged (call_allowed ledger this) (tried && call_blames_variable ledger this) (is_some (call_refusal ledger this)) result

-- A call of the list was made, or wasn't.
pub record IsStep {R : Type 0} (config : TargetFrontendConfig) (c : Call) (old new : FunctionBuilder R) (answers : List Answer) (result : Result Answer CallError) : Type 0 where
  pub judged : (declared : SignatureShape) (script : List ScriptCall) → IsInStep config declared script old answers
      → IsJudgedOn (ledger_of script) (call_of config declared (ledger_of script) c) (is_tried c) result
  pub goes_on : (declared : SignatureShape) (script : List ScriptCall) → IsInStep config declared script old answers
      → IfOk result (λ answer. IsInStep config declared (script ++ call_of config declared (ledger_of script) c ∷ []) new (answers ++ answer ∷ []))
  pub loans : SameLoans old new
  pub name : OnOk result (new.func.now.name ≡ old.func.now.name)
  pub sound : OnOk result (new.failed ≡ false)
  pub refused : (why : Condition) → result ≡ Err (error.Refused why) → is_refusable c ≡ true
  pub full : result ≡ Err error.Full → StopsAtFullTable config (numbers_at old.func.now answers) c old.func.now old.ctx.now.parts old.position
  pub variables : OnOk result (new.ctx.now.parts.variables ≡ types_after c old.ctx.now.parts.variables)

-- how many answers there are behind one call more
one-answer-more : (script : List ScriptCall) (last : ScriptCall) (answers : List Answer) (answer : Answer) → length (ledger_of script).answers ≡ length answers
    → length (ledger_of (script ++ last ∷ [])).answers ≡ length (answers ++ answer ∷ [])
one-answer-more script last answers answer counts =
    ap (λ (l : Ledger). length l.answers) (fold_on ledger_with_call empty_ledger script (last ∷ []))
    ∙ one_longer (ledger_of script).answers (call_answers (ledger_of script) last) ∙ ap suc counts ∙ sym (one_longer answers answer)

one-on : (answers : List Answer) (answer : Answer) → length answers + 1 ≡ length (answers ++ answer ∷ [])
one-on answers answer =
    let longer = one_longer answers answer in
    omega (arith, longer)

-- a call that is refused only where it isn't allowed
never-judged : (allowed blamed refused : Bool) (result : Result Answer CallError) → refused ≡ false → IsJudged allowed blamed result → IsCallJudged allowed blamed refused result
never-judged allowed blamed refused (Ok answer) never judged = (judged, never)
never-judged allowed blamed refused (Err (error.Misuse why)) never judged = judged
never-judged allowed blamed refused (Err (error.Refused why)) never judged = inl judged
never-judged allowed blamed refused (Err error.Memory) never judged = tt
never-judged allowed blamed refused (Err error.Full) never judged = judged

-- BLOCKS WERE ANSWERED ----------------------------------------------------------------------------------------------------

laid-block : (ledger : Ledger) (names : List named.Name) (numbers : List ℕ) (x : named.Name) → map Some names ≡ map (block_name ledger) numbers → list_any (same_name x) names ≡ true
    → (k : ℕ) × (block_name ledger k ≡ Some x)
laid-block ledger [] numbers x are found = absurd (false≢true found)
laid-block ledger (name ∷ names) [] x are found = let no_way : ⊥ = cc in absurd no_way
laid-block ledger (name ∷ names) (k ∷ numbers) x are found = by (same_name x name) refl found (λ later. laid-block ledger names numbers x rest later)
  where
    first : Some name ≡ block_name ledger k
    first = cc

    rest : map Some names ≡ map (block_name ledger) numbers
    rest = cc

    by : (here : Bool) → same_name x name ≡ here → (here || list_any (same_name x) names) ≡ true
        → (list_any (same_name x) names ≡ true → (j : ℕ) × (block_name ledger j ≡ Some x)) → (j : ℕ) × (block_name ledger j ≡ Some x)
    by true same is later = (k, sym first ∙ ap Some (sym (names_equal x name same)))
    by false same is later = later is

ready-answered : {R : Type 0} (naming : Naming) (declared : SignatureShape) (made : List AnsweredCall) (b : FunctionBuilder R) (answers : List Answer) → IsReady naming declared made b answers
    → AreAnswered (ledger_after (script_of made))
ready-answered naming declared made b answers ready = record {
  blocks = λ x there.
      let found = (read made b answers ready).numbered x there in
      ready.stands.ledger.block_answers found.0 x found.1;
  laid = λ x inserted.
      let found = laid-block (ledger_after (script_of made)) (ledger_after (script_of made)).layout b.func.now.layout x ready.stands.ledger.layout inserted in
      ready.stands.ledger.block_answers found.0 x found.1;
}

judged-same : (allowed other refused blamed : Bool) (result : Result Answer CallError) → allowed ≡ other → refused ≡ blamed → IsJudged allowed refused result → IsJudged other blamed result
judged-same allowed other refused blamed result may blames judged =
    subst (λ (a : Bool). IsJudged a blamed result) may (subst (λ (r : Bool). IsJudged allowed r result) blames judged)

-- names that lead to nothing lead as far behind the ledger's answers
later-names : {R : Type 0} (naming : Naming) (declared : SignatureShape) (made : List AnsweredCall) (b : FunctionBuilder R) (answers : List Answer) → IsReady naming declared made b answers
    → (name : Name) (k : ℕ) → name.place ≡ length answers + k → naming name ≡ answer_of (length (ledger_after (script_of made)).answers + k) name.answer
later-names naming declared made b answers ready name k place =
    ready.later name k place ∙ ap (λ (n : ℕ). answer_of (n + k) name.answer) (sym (as_many made))

-- names of entries stand for the same numbers in the script's ledger
pub in-step-numbers : {R : Type 0} (config : TargetFrontendConfig) (declared : SignatureShape) (script : List ScriptCall) (b : FunctionBuilder R) (answers : List Answer) → IsInStep config declared script b answers
    → numbers_at b.func.now answers ≡ numbers_in name_of (ledger_of script)
in-step-numbers config declared script b answers s =
    sym (numbers-same s.made b answers s.ready)
    ∙ numbers-known s.naming (length answers) (script_of s.made) script s.known s.counts (later-names s.naming declared s.made b answers s.ready)
    (ready-answered s.naming declared s.made b answers s.ready)

-- a call that is only tried may be refused
tried-refusable : (c : Call) → is_tried c ≡ true → is_refusable c ≡ true
tried-refusable (call.TryDefVar variable value) is = refl
tried-refusable (call.TryUseVar variable) is = refl
tried-refusable (call.Switch entries value otherwise) is = refl
tried-refusable (call.CreateBlock) is = absurd (false≢true is)
tried-refusable _ is = absurd (false≢true is)

-- ASKING ------------------------------------------------------------------------------------------------------------------

-- a call that emits nothing
record Asks (R : Type 0) (config : TargetFrontendConfig) (c : Call) : Type 0 where
  call : (declared : SignatureShape) (ledger : Ledger) → call_of config declared ledger c ≡ Ask (request_of declared ledger c)
  makes : (old new : FunctionBuilder R) (answers : List Answer) (result : Result Answer CallError) → MakesScriptCall config c old new answers result → MakesCall c old new answers result
  refused_never : (declared : SignatureShape) (ledger : Ledger) → refusal_of ledger (request_of declared ledger c) ≡ None
  stops : (numbers : Numbers) (f : Body) (context : ContextState) (position : Option ℕ) → MeetsFullTable numbers c f context position → StopsAtFullTable config numbers c f context position

module _ {R : Type 0} (config : TargetFrontendConfig) (c : Call) (asks : Asks R config c) (old new : FunctionBuilder R) (answers : List Answer) where
  ask-judged : (result : Result Answer CallError) → MakesCall c old new answers result → (declared : SignatureShape) (script : List ScriptCall) → IsInStep config declared script old answers
      → IsJudgedOn (ledger_of script) (call_of config declared (ledger_of script) c) (is_tried c) result
  ask-judged result makes declared script s =
      let later = later-names s.naming declared s.made old answers s.ready in
      let answered = ready-answered s.naming declared s.made old answers s.ready in
      let same = asks.call declared (ledger_of script) in
      never-judged _ _ _ result
      (ap (λ (this : ScriptCall). is_some (call_refusal (ledger_of script) this)) same
      ∙ ap (λ (refusal : Option Refusal). is_some (option_map OfCall refusal)) (asks.refused_never declared (ledger_of script)))
      (judged-same _ _ _ _ result
      (allowed-same s.naming (length answers) (script_of s.made) script s.known s.counts later answered declared c ∙ ap (call_allowed (ledger_of script)) (sym same))
      (ap (λ (blamed : Bool). is_tried c && blamed)
      (blamed-same s.naming (length answers) (script_of s.made) script s.known s.counts later answered declared c ∙ ap (call_blames_variable (ledger_of script)) (sym same)))
      (makes.judged s.naming declared s.made s.ready))

  ask-goes-on : (result : Result Answer CallError) → MakesCall c old new answers result → (declared : SignatureShape) (script : List ScriptCall) → IsInStep config declared script old answers
      → IfOk result (λ answer. IsInStep config declared (script ++ call_of config declared (ledger_of script) c ∷ []) new (answers ++ answer ∷ []))
  ask-goes-on (Err error) makes declared script s = tt
  ask-goes-on (Ok answer) makes declared script s =
      let later = later-names s.naming declared s.made old answers s.ready in
      let answered = ready-answered s.naming declared s.made old answers s.ready in
      let after = makes.ready s.naming declared s.made s.ready in
      let judged = makes.judged s.naming declared s.made s.ready in
      let asked : Request = request_under s.naming declared (ledger_after (script_of s.made)) c in
      let request : Request = request_of declared (ledger_of script) c in
      let more : AnsweredCall = record { request = asked; numbers = after.0 } in
      let may = sym (allowed-same s.naming (length answers) (script_of s.made) script s.known s.counts later answered declared c) ∙ judged in
      subst (λ (last : ScriptCall). IsInStep config declared (script ++ last ∷ []) new (answers ++ answer ∷ [])) (sym (asks.call declared (ledger_of script))) (record {
        naming = s.naming;
        made = s.made ++ more ∷ [];
        ready = after.1;
        known =
            subst (λ (n : ℕ). AreKnown s.naming n (script_of (s.made ++ more ∷ [])) (script ++ Ask request ∷ [])) (one-on answers answer)
            (subst (λ (plain : Script). AreKnown s.naming (length answers + 1) plain (script ++ Ask request ∷ [])) (sym (map_push (λ (a : AnsweredCall). a.request) s.made more))
            (known-asked s.naming (length answers) (script_of s.made) script s.known s.counts later answered declared c judged));
        taken = one_more empty_ledger script (Ask request) s.taken may
            (ap (λ (refusal : Option Refusal). is_some (option_map OfCall refusal)) (asks.refused_never declared (ledger_of script)));
        counts = one-answer-more script (Ask request) answers answer s.counts;
        sizes =
            subst (λ (plain : Script). AreCounted config plain (script ++ Ask request ∷ [])) (sym (map_push (λ (a : AnsweredCall). a.request) s.made more))
            (counted-on config (script_of s.made) (asked ∷ []) script (Ask request) s.sizes
            (λ table.
            let same = made_read _ asked request (is-read s.naming (length answers) (script_of s.made) script s.known s.counts later answered declared c judged) table in
            omega (arith, same)));
      })

  ask-step : (result : Result Answer CallError) → MakesCall c old new answers result → IsStep config c old new answers result
  ask-step result makes = record {
    judged = ask-judged result makes;
    goes_on = ask-goes-on result makes;
    loans = makes.loans;
    name = makes.name;
    sound = makes.sound;
    refused = λ why is. tried-refusable c (makes.refused why is);
    full = λ is. asks.stops (numbers_at old.func.now answers) old.func.now old.ctx.now.parts old.position (makes.full is);
    variables = makes.variables;
  }

-- the calls of a constant and of what it is an operand of make few entries
emission-few : (config : TargetFrontendConfig) (called : ImmediateCall) (naming : Naming) (ledger : Ledger) (place : ℕ) (emission : Instruction named.Name named.Name)
    → emission.operation ≡ Compute (emitted_in called) → (table : Table) → made_by_script (plain_calls_under naming ledger place called) table ≤ call_makes config (Emit [] emission) table
emission-few config (immediate.IaddImmS x imm) naming ledger place emission is table =
    subst (λ (operation : Operation). made_by_script (plain_calls_under naming ledger place (immediate.IaddImmS x imm)) table ≤ emitted config operation table) (sym is)
    (constants-few _ _ _ place (naming x) refl refl table)
emission-few config (immediate.IcmpImmS cond x imm) naming ledger place emission is table =
    subst (λ (operation : Operation). made_by_script (plain_calls_under naming ledger place (immediate.IcmpImmS cond x imm)) table ≤ emitted config operation table) (sym is)
    (constants-few _ _ _ place (naming x) refl refl table)

-- EMITTING ----------------------------------------------------------------------------------------------------------------

module _ {R : Type 0} (config : TargetFrontendConfig) (called : ImmediateCall) (old new : FunctionBuilder R) (answers : List Answer) where
  emission-judged : (result : Result Answer CallError) → MakesEmission called old new answers result → (declared : SignatureShape) (script : List ScriptCall) → IsInStep config declared script old answers
      → IsJudged (call_allowed (ledger_of script) (Emit [] (emission_under name_of (ledger_of script) called))) false result
  emission-judged result makes declared script s =
      let later = later-names s.naming declared s.made old answers s.ready in
      let answered = ready-answered s.naming declared s.made old answers s.ready in
      judged-same _ _ false false result (emitted-same s.naming (length answers) (script_of s.made) script s.known s.counts later answered called) refl
      (makes.judged s.naming declared s.made s.ready)

  emission-goes-on : (result : Result Answer CallError) → MakesEmission called old new answers result → (declared : SignatureShape) (script : List ScriptCall) → IsInStep config declared script old answers
      → IfOk result (λ answer. IsInStep config declared (script ++ Emit [] (emission_under name_of (ledger_of script) called) ∷ []) new (answers ++ answer ∷ []))
  emission-goes-on (Err error) makes declared script s = tt
  emission-goes-on (Ok answer) makes declared script s =
      let later = later-names s.naming declared s.made old answers s.ready in
      let answered = ready-answered s.naming declared s.made old answers s.ready in
      let behind = makes.ready s.naming declared s.made s.ready in
      let may = emission-judged (Ok answer) makes declared script s in
      let emission = emission_under name_of (ledger_of script) called in
      let counted : length (ledger_after (script_of s.made)).answers ≡ length s.made = as_many s.made in
      let long : length (script_of behind.added) ≡ length behind.added = length-map behind.added (λ (a : AnsweredCall). a.request) in
      let both : length (s.made ++ behind.added) ≡ length s.made + length behind.added = length-append s.made behind.added in
      let at_end = behind.at_end in
      record {
        naming = behind.extended;
        made = s.made ++ behind.added;
        ready = behind.ready;
        known =
            subst (λ (n : ℕ). AreKnown behind.extended n (script_of (s.made ++ behind.added)) (script ++ Emit [] emission ∷ [])) (one-on answers answer)
            (subst (λ (plain : Script). AreKnown behind.extended (length answers + 1) plain (script ++ Emit [] emission ∷ [])) (sym (map-append (λ (a : AnsweredCall). a.request) s.made behind.added))
            (known-emitted s.naming (length answers) (script_of s.made) script s.known s.counts later answered called may (script_of behind.added)
            (behind.asked ∙ ap (λ (n : ℕ). plain_calls_under s.naming (ledger_after (script_of s.made)) n called) (sym counted))
            behind.extended behind.last (omega (arith, counted, long, both, at_end)) behind.earlier behind.results));
        taken = one_more empty_ledger script (Emit [] emission) s.taken may refl;
        counts = one-answer-more script (Emit [] emission) answers answer s.counts;
        sizes =
            subst (λ (plain : Script). AreCounted config plain (script ++ Emit [] emission ∷ [])) (sym (map-append (λ (a : AnsweredCall). a.request) s.made behind.added))
            (counted-on config (script_of s.made) (script_of behind.added) script (Emit [] emission) s.sizes
            (subst (λ (plain : Script). (table : Table) → made_by_script plain table ≤ call_makes config (Emit [] emission) table) (sym behind.asked)
            (emission-few config called s.naming (ledger_after (script_of s.made)) (length s.made) emission refl)));
      }

  emission-step : (result : Result Answer CallError) → MakesEmission called old new answers result → IsStep config (call.Immediate called) old new answers result
  emission-step result makes = record {
    judged = λ declared script s. never-judged _ _ _ result refl (emission-judged result makes declared script s);
    goes_on = emission-goes-on result makes;
    loans = makes.loans;
    name = makes.name;
    sound = makes.sound;
    refused = λ why is. absurd (makes.refused why is);
    full = makes.full;
    variables = makes.variables;
  }

-- SWITCHING ---------------------------------------------------------------------------------------------------------------

-- how many keys a switch has
abbrev keys-in : Operation → ℕ
keys-in (Switch keys) = length keys
keys-in _ = 0

begins-some : (more : Script) → BeginsHere more → 0 < length more
begins-some [] begins = absurd begins
begins-some (request ∷ more) begins = omega arith

call-judged-same : (allowed other blamed refused also : Bool) (result : Result Answer CallError) → allowed ≡ other → refused ≡ also → IsCallJudged allowed blamed refused result → IsCallJudged other blamed also result
call-judged-same allowed other blamed refused also result may told judged =
    subst (λ (a : Bool). IsCallJudged a blamed also result) may (subst (λ (r : Bool). IsCallJudged allowed blamed r result) told judged)

module _ {R : Type 0} (config : TargetFrontendConfig) (entries : Vec SwitchEntry) (value otherwise : Name) (old new : FunctionBuilder R) (answers : List Answer) where
  switch-judged : (result : Result Answer CallError) → MakesSwitch entries.items value otherwise old new answers result → (declared : SignatureShape) (script : List ScriptCall) → IsInStep config declared script old answers
      → IsSwitchJudged (ledger_of script) (switch_under name_of (ledger_of script) entries.items value otherwise) result
  switch-judged result makes declared script s =
      let later = later-names s.naming declared s.made old answers s.ready in
      let answered = ready-answered s.naming declared s.made old answers s.ready in
      call-judged-same _ _ false _ _ result
      (switch-same s.naming (length answers) (script_of s.made) script s.known s.counts later answered entries.items value otherwise)
      (switch-refused s.naming (length answers) (script_of s.made) script s.known s.counts later answered entries.items value otherwise)
      (makes.judged s.naming declared s.made s.ready)

  switch-goes-on : (result : Result Answer CallError) → MakesSwitch entries.items value otherwise old new answers result → (declared : SignatureShape) (script : List ScriptCall) → IsInStep config declared script old answers
      → IfOk result (λ answer. IsInStep config declared (script ++ Emit [] (switch_under name_of (ledger_of script) entries.items value otherwise) ∷ []) new (answers ++ answer ∷ []))
  switch-goes-on (Err error) makes declared script s = tt
  switch-goes-on (Ok answer) makes declared script s =
      let later = later-names s.naming declared s.made old answers s.ready in
      let answered = ready-answered s.naming declared s.made old answers s.ready in
      let behind = makes.ready s.naming declared s.made s.ready in
      let may = switch-judged (Ok answer) makes declared script s in
      let switch = switch_under name_of (ledger_of script) entries.items value otherwise in
      let before : length (script_of s.made) ≡ length s.made = length-map s.made (λ (a : AnsweredCall). a.request) in
      let long : length (script_of behind.added) ≡ length behind.added = length-map behind.added (λ (a : AnsweredCall). a.request) in
      let both : length (s.made ++ behind.added) ≡ length s.made + length behind.added = length-append s.made behind.added in
      let at_end = behind.at_end in
      let whole : script_of (s.made ++ behind.added) ≡ script_of s.made ++ script_of behind.added = map-append (λ (a : AnsweredCall). a.request) s.made behind.added in
      record {
        naming = behind.extended;
        made = s.made ++ behind.added;
        ready = behind.ready;
        known =
            subst (λ (n : ℕ). AreKnown behind.extended n (script_of (s.made ++ behind.added)) (script ++ Emit [] switch ∷ [])) (one-on answers answer)
            (subst (λ (plain : Script). AreKnown behind.extended (length answers + 1) plain (script ++ Emit [] switch ∷ [])) (sym whole)
            (known-switched s.naming (length answers) (script_of s.made) script s.known s.counts later answered entries.items value otherwise may.0 (script_of behind.added)
            behind.block behind.value behind.ty behind.keys behind.edges behind.branches behind.tables behind.is behind.current behind.code behind.extended behind.last
            (omega (arith, before, long, both, at_end)) behind.given
            (subst (λ (plain : Script). slice_get (ledger_after plain).answers behind.last ≡ Some behind.given) whole behind.at_given)
            (begins-some (script_of behind.added) behind.code.begins) behind.earlier behind.behind));
        taken = one_more empty_ledger script (Emit [] switch) s.taken may.0 may.1;
        counts = one-answer-more script (Emit [] switch) answers answer s.counts;
        sizes =
            subst (λ (plain : Script). AreCounted config plain (script ++ Emit [] switch ∷ [])) (sym whole)
            (counted-on config (script_of s.made) (script_of behind.added) script (Emit [] switch) s.sizes
            (subst (λ (count : ℕ). (table : Table) → made_by_script (script_of behind.added) table ≤ switch_makes count table)
            (sym (ap (λ (i : Instruction named.Name named.Name). keys-in i.operation) behind.is)) behind.most));
      }

  switch-step : (result : Result Answer CallError) → MakesSwitch entries.items value otherwise old new answers result → IsStep config (call.Switch entries value otherwise) old new answers result
  switch-step result makes = record {
    judged = switch-judged result makes;
    goes_on = switch-goes-on result makes;
    loans = makes.loans;
    name = makes.name;
    sound = makes.sound;
    refused = λ why is. refl;
    full = makes.full;
    variables = makes.variables;
  }

-- HELPING -----------------------------------------------------------------------------------------------------------------

module _ {R : Type 0} (config : TargetFrontendConfig) (called : MemoryCall) (moves : moves_nothing (operation_in called) ≡ false) (old new : FunctionBuilder R) (answers : List Answer) where
  helper-judged : (result : Result Answer CallError) → MakesHelper config called old new answers result → (declared : SignatureShape) (script : List ScriptCall) → IsInStep config declared script old answers
      → IsJudged (call_allowed (ledger_of script) (helper_under config name_of (ledger_of script) called)) false result
  helper-judged result makes declared script s =
      let later = later-names s.naming declared s.made old answers s.ready in
      let answered = ready-answered s.naming declared s.made old answers s.ready in
      judged-same _ _ false false result (helper-same s.naming (length answers) (script_of s.made) script s.known s.counts later answered config called) refl
      (makes.judged s.naming declared s.made s.ready)

  helper-goes-on : (result : Result Answer CallError) → MakesHelper config called old new answers result → (declared : SignatureShape) (script : List ScriptCall) → IsInStep config declared script old answers
      → IfOk result (λ answer. IsInStep config declared (script ++ helper_under config name_of (ledger_of script) called ∷ []) new (answers ++ answer ∷ []))
  helper-goes-on (Err error) makes declared script s = tt
  helper-goes-on (Ok answer) makes declared script s =
      let later = later-names s.naming declared s.made old answers s.ready in
      let answered = ready-answered s.naming declared s.made old answers s.ready in
      let behind = makes.ready s.naming declared s.made s.ready in
      let may = helper-judged (Ok answer) makes declared script s in
      let this = helper_under config name_of (ledger_of script) called in
      let before : length (script_of s.made) ≡ length s.made = length-map s.made (λ (a : AnsweredCall). a.request) in
      let counted : length (ledger_after (script_of s.made)).answers ≡ length s.made = as_many s.made in
      let long : length (script_of behind.added) ≡ length behind.added = length-map behind.added (λ (a : AnsweredCall). a.request) in
      let both : length (s.made ++ behind.added) ≡ length s.made + length behind.added = length-append s.made behind.added in
      let at_end = behind.at_end in
      let whole : script_of (s.made ++ behind.added) ≡ script_of s.made ++ script_of behind.added = map-append (λ (a : AnsweredCall). a.request) s.made behind.added in
      record {
        naming = behind.extended;
        made = s.made ++ behind.added;
        ready = behind.ready;
        known =
            subst (λ (n : ℕ). AreKnown behind.extended n (script_of (s.made ++ behind.added)) (script ++ this ∷ [])) (one-on answers answer)
            (subst (λ (plain : Script). AreKnown behind.extended (length answers + 1) plain (script ++ this ∷ [])) (sym whole)
            (known-helped s.naming (length answers) (script_of s.made) script s.known s.counts later answered config called moves may behind.filling behind.fills behind.sized behind.lines (script_of behind.added)
            (behind.asked ∙ ap (λ (n : ℕ). helper_calls config (operation_in called) behind.filling (ledger_after (script_of s.made)).tables n (map s.naming (operands_in called))) (sym counted))
            behind.extended behind.last (omega (arith, before, long, both, at_end)) behind.given
            (subst (λ (plain : Script). slice_get (ledger_after plain).answers behind.last ≡ Some behind.given) whole behind.at_given)
            behind.earlier behind.results));
        taken = one_more empty_ledger script this s.taken may refl;
        counts = one-answer-more script this answers answer s.counts;
        sizes =
            subst (λ (plain : Script). AreCounted config plain (script ++ this ∷ [])) (sym whole)
            (counted-on config (script_of s.made) (script_of behind.added) script this s.sizes
            (subst (λ (plain : Script). (table : Table) → made_by_script plain table ≤ call_makes config this table) (sym behind.asked)
            (helper_few config (operation_in called) behind.filling (ledger_after (script_of s.made)).tables (length s.made) (map s.naming (operands_in called)))));
      }

  helper-is : (declared : SignatureShape) (ledger : Ledger) → call_of config declared ledger (call.Memory called) ≡ helper_under config name_of ledger called
  helper-is declared ledger = ap (λ (none : Bool). if none then Ask (nothing_moved name_of called) else helper_under config name_of ledger called) moves

  helper-step : (result : Result Answer CallError) → MakesHelper config called old new answers result → IsStep config (call.Memory called) old new answers result
  helper-step result makes = record {
    judged = λ declared script s.
        subst (λ (this : ScriptCall). IsJudgedOn (ledger_of script) this false result) (sym (helper-is declared (ledger_of script)))
        (never-judged _ _ _ result refl (helper-judged result makes declared script s));
    goes_on = λ declared script s.
        subst (λ (this : ScriptCall). IfOk result (λ answer. IsInStep config declared (script ++ this ∷ []) new (answers ++ answer ∷ []))) (sym (helper-is declared (ledger_of script)))
        (helper-goes-on result makes declared script s);
    loans = makes.loans;
    name = makes.name;
    sound = makes.sound;
    refused = λ why is. absurd (makes.refused why is);
    full = makes.full;
    variables = makes.variables;
  }

-- a copy or a fill of no bytes asks
nothing-asks : (R : Type 0) (config : TargetFrontendConfig) (called : MemoryCall) → moves_nothing (operation_in called) ≡ true → Asks R config (call.Memory called)
nothing-asks R config called moves = record {
  call = λ declared ledger. ap (λ (none : Bool). if none then Ask (nothing_moved name_of called) else helper_under config name_of ledger called) moves;
  makes = λ old new answers result is.
      subst (λ (none : Bool). MakesMoved none config called old new answers result) moves is;
  refused_never = λ declared ledger. refl;
  stops = λ numbers f context position fills. (fills.0, fills.1, let more = fills.2 in omega (arith, more));
}

-- each call is one of these
data Kind (R : Type 0) (config : TargetFrontendConfig) : Call → Type 0 where
  Computes : (called : ImmediateCall) → Kind R config (call.Immediate called)
  Switches : (entries : Vec SwitchEntry) (value otherwise : Name) → Kind R config (call.Switch entries value otherwise)
  Helps : (called : MemoryCall) → moves_nothing (operation_in called) ≡ false → Kind R config (call.Memory called)
  AsksOnly : (c : Call) → Asks R config c → Kind R config c

kind : (R : Type 0) (config : TargetFrontendConfig) (c : Call) → Kind R config c
kind R config (call.Immediate called) = Computes called
kind R config (call.Switch entries value otherwise) = Switches entries value otherwise
kind R config (call.Memory called) = by (moves_nothing (operation_in called)) refl
  where
    by : (none : Bool) → moves_nothing (operation_in called) ≡ none → Kind R config (call.Memory called)
    by true is = AsksOnly (call.Memory called) (nothing-asks R config called is)
    by false is = Helps called is
kind R config (call.Straight lender (straight.Outside (outside.Call function args))) = AsksOnly _ (record { call = λ declared ledger. refl; makes = λ old new answers result is. is; refused_never = λ declared ledger. refl; stops = λ numbers f context position meets. meets })
kind R config (call.Straight lender (straight.Outside (outside.CallIndirect signature callee args))) = AsksOnly _ (record { call = λ declared ledger. refl; makes = λ old new answers result is. is; refused_never = λ declared ledger. refl; stops = λ numbers f context position meets. meets })
kind R config (call.Straight lender (straight.Plain instruction)) = AsksOnly _ (record { call = λ declared ledger. refl; makes = λ old new answers result is. is; refused_never = λ declared ledger. refl; stops = λ numbers f context position meets. meets })
kind R config (call.Straight lender (straight.F128const bytes)) = AsksOnly _ (record { call = λ declared ledger. refl; makes = λ old new answers result is. is; refused_never = λ declared ledger. refl; stops = λ numbers f context position meets. meets })
kind R config (call.Straight lender (straight.Vconst ty bytes)) = AsksOnly _ (record { call = λ declared ledger. refl; makes = λ old new answers result is. is; refused_never = λ declared ledger. refl; stops = λ numbers f context position meets. meets })
kind R config (call.Throwing (throwing.TryCall function args table)) = AsksOnly _ (record { call = λ declared ledger. refl; makes = λ old new answers result is. is; refused_never = λ declared ledger. refl; stops = λ numbers f context position meets. meets })
kind R config (call.Throwing (throwing.TryCallIndirect callee args table)) = AsksOnly _ (record { call = λ declared ledger. refl; makes = λ old new answers result is. is; refused_never = λ declared ledger. refl; stops = λ numbers f context position meets. meets })
kind R config _ = AsksOnly _ (record { call = λ declared ledger. refl; makes = λ old new answers result is. is; refused_never = λ declared ledger. refl; stops = λ numbers f context position meets. meets })

pub step : {R : Type 0} (config : TargetFrontendConfig) (c : Call) (old new : FunctionBuilder R) (answers : List Answer) (result : Result Answer CallError) → MakesScriptCall config c old new answers result
    → IsStep config c old new answers result
step {R} config c old new answers result = by c (kind R config c)
  where
    by : (one : Call) → Kind R config one → MakesScriptCall config one old new answers result → IsStep config one old new answers result
    by one (Computes called) makes = emission-step config called old new answers result makes
    by one (Switches entries value otherwise) makes = switch-step config entries value otherwise old new answers result makes
    by one (Helps called moves) makes =
        helper-step config called moves old new answers result
        (subst (λ (none : Bool). MakesMoved none config called old new answers result) moves makes)
    by one (AsksOnly asked asks) makes = ask-step config asked asks old new answers result (asks.makes old new answers result makes)
