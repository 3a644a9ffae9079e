-- When an emission may be made, and what is known once it was made or wasn't.
use Rattle.std.proofs.Common.{◌≡◌, ◌+◌, ◌-◌, ℕ, ℤ, pos, negsuc, ◌^◌, List, [], length, refl, ap, sym, ◌∙◌, subst, ◌⊎◌, inl, inr, w64}
use Rattle.std.specs.Prelude.{Some, None, Bool, true, false, ◌&&◌, Result, Ok, Err}
use Rattle.std.proofs.lemmas.Bool.{lt-ltb}
use mir.Val.{SFits}
use Rattle.clif_types.specs.Types.{is_int}
use Rattle.clif_types.specs.declared.error.BuildError.{BuildError}
use Rattle.clif_types.specs.declared.error.BuildError.TheVariants as build
use Rattle.clif_types.specs.declared.types.«Type».{«Type»}
use Rattle.clif_types.specs.Signature.{SignatureShape}
use Rattle.clif_meaning.specs.Acceptance as acceptance
use Rattle.clif_meaning.specs.Ledger.{Ledger, has_value, or_invalid}
use Rattle.clif_meaning.specs.Request.{AnsweredCall}
use Rattle.clif_expansion.specs.ScriptCall.{Emit, call_allowed, has_64_bits}
use Rattle.clif_constant_calls.specs.Stands.{type_in}
use Rattle.clif_builder.specs.declared.builder.FunctionBuilder.{FunctionBuilder}
use Rattle.clif_builder.specs.Ledger.{ledger_of}
use Rattle.clif_calls.specs.declared.immediate.ImmediateCall.{ImmediateCall}
use Rattle.clif_calls.specs.declared.immediate.ImmediateCall.TheVariants as immediate
use Rattle.clif_resolution.specs.Answers.{value_of}
use Rattle.clif_resolution.specs.Conditions.{is_open}
use Rattle.clif_resolution.specs.Errors.{call_error_of}
use Rattle.clif_resolution.specs.declared.answers.Answer.{Answer}
use Rattle.clif_resolution.specs.declared.condition.Condition.{Condition}
use Rattle.clif_resolution.specs.declared.answers.CallError.{CallError}
use Rattle.clif_resolution.specs.declared.answers.CallError.TheVariants as error
use Rattle.clif_replay.specs.Emits.{IsReadyBehind, MakesEmission, can_take_constant, constant_in, plain_calls_under}
use Rattle.clif_replay.specs.Ready.{IsReady}
use Rattle.clif_replay.specs.Requests.{Naming, emission_under, operand_in, operand_type}
use Rattle.clif_replay.proofs.Chains.{FailsBehind, Reaches}
use Rattle.clif_replay.proofs.Conditions.{open-same, value-type-same}
use Rattle.clif_replay.proofs.Making.{judged-from, loans-stay, told-full, told-refused}
use Rattle.clif_replay.proofs.ReadyLaws.{value-found, value-missing}

-- THE CONDITION -----------------------------------------------------------------------------------------------------------

-- a number of 64 bits
pub bits-fit : (z : ℤ) → SFits w64 z → has_64_bits z ≡ true
bits-fit (pos n) fits = lt-ltb n (2 ^ 63) fits.sfits
bits-fit (negsuc n) fits = lt-ltb n (2 ^ 63) fits.sfits

-- an open block, a value that is an integer, and a constant of 64 bits
abbrev condition : (opens value integer bits : Bool) → Bool
condition opens value integer bits = true && opens && (value && true) && true && (integer && bits)

holds : (opens integer : Bool) → condition opens true integer true ≡ (opens && integer)
holds true true = refl
holds true false = refl
holds false true = refl
holds false false = refl

no-value : (opens integer bits : Bool) → condition opens false integer bits ≡ false
no-value true integer bits = refl
no-value false integer bits = refl

not-taken : (opens integer bits : Bool) → (opens && integer) ≡ false → condition opens true integer bits ≡ false
not-taken true true bits fails = let no_way : ⊥ = cc in absurd no_way
not-taken true false bits fails = refl
not-taken false integer bits fails = refl

allowed-is : (naming : Naming) (ledger : Ledger) (called : ImmediateCall) → call_allowed ledger (Emit [] (emission_under naming ledger called))
    ≡ condition (acceptance.is_open ledger ledger.current) (has_value ledger (naming (operand_in called))) (is_int (operand_type naming ledger called)) (has_64_bits (constant_in called))
allowed-is naming ledger (immediate.IaddImmS x imm) = refl
allowed-is naming ledger (immediate.IcmpImmS cond x imm) = refl

-- the emission may be made in each ledger with which the builder agrees, or in none
abbrev pub EmissionJudged : {R : Type 0} → ImmediateCall → FunctionBuilder R → List Answer → Bool → Type 0
EmissionJudged called b answers allowed =
    (naming : Naming) (declared : SignatureShape) (calls : List AnsweredCall) → IsReady naming declared calls b answers
    → call_allowed (ledger_of calls) (Emit [] (emission_under naming (ledger_of calls) called)) ≡ allowed

pub none-judged : {R : Type 0} (called : ImmediateCall) (b : FunctionBuilder R) (answers : List Answer) → value_of b.func.now answers (operand_in called) ≡ None → EmissionJudged called b answers false
none-judged called b answers none naming declared calls ready =
    let ledger : Ledger = ledger_of calls in
    allowed-is naming ledger called
    ∙ ap (λ (v : Bool). condition (acceptance.is_open ledger ledger.current) v (is_int (operand_type naming ledger called)) (has_64_bits (constant_in called)))
    (value-missing calls b answers ready (operand_in called) none)
    ∙ no-value (acceptance.is_open ledger ledger.current) (is_int (operand_type naming ledger called)) (has_64_bits (constant_in called))

-- by the value that the operand's name leads to
module _ {R : Type 0} (called : ImmediateCall) (b : FunctionBuilder R) (answers : List Answer) (x : ℕ) (found : value_of b.func.now answers (operand_in called) ≡ Some x) where
  pub operand-typed : (naming : Naming) (declared : SignatureShape) (calls : List AnsweredCall) → IsReady naming declared calls b answers
      → operand_type naming (ledger_of calls) called ≡ type_in b x
  operand-typed naming declared calls ready = ap or_invalid (value-type-same calls b answers ready (operand_in called) x found)

  by-value : EmissionJudged called b answers (condition (is_open b) true (is_int (type_in b x)) (has_64_bits (constant_in called)))
  by-value naming declared calls ready =
      let ledger : Ledger = ledger_of calls in
      let bits : Bool = has_64_bits (constant_in called) in
      let integer : Bool = is_int (operand_type naming ledger called) in
      allowed-is naming ledger called
      ∙ ap (λ (o : Bool). condition o (has_value ledger (naming (operand_in called))) integer bits) (open-same calls b answers ready)
      ∙ ap (λ (v : Bool). condition (is_open b) v integer bits) (value-found calls b answers ready (operand_in called) x found).is_value
      ∙ ap (λ (t : «Type»). condition (is_open b) true (is_int t) bits) (operand-typed naming declared calls ready)

  pub some-denied : can_take_constant b x ≡ false → EmissionJudged called b answers false
  some-denied fails naming declared calls ready =
      by-value naming declared calls ready ∙ not-taken (is_open b) (is_int (type_in b x)) (has_64_bits (constant_in called)) fails

  pub some-allowed : can_take_constant b x ≡ true → has_64_bits (constant_in called) ≡ true → EmissionJudged called b answers true
  some-allowed can bits naming declared calls ready =
      by-value naming declared calls ready ∙ ap (condition (is_open b) true (is_int (type_in b x))) bits ∙ holds (is_open b) (is_int (type_in b x)) ∙ can

-- WHAT IS KNOWN AFTERWARDS --------------------------------------------------------------------------------------------------

-- it may not be made
pub emission-misused : {R : Type 0} {why : Condition} (called : ImmediateCall) (b : FunctionBuilder R) (answers : List Answer) → EmissionJudged called b answers false → MakesEmission called b b answers (Err (error.Misuse why))
emission-misused called b answers judges = record {
  loans = loans-stay b;
  name = tt;
  ready = λ naming declared calls ready. tt;
  judged = λ naming declared calls ready. (judges naming declared calls ready, refl);
  sound = tt;
  refused = λ other same. no-refusal _ other same;
  full = λ same. absurd (no-full _ same);
  variables = tt;
}
  where
    no-refusal : (why other : Condition) → ◌≡◌ {A = Result Answer CallError} (Err (error.Misuse why)) (Err (error.Refused other)) → ⊥
    no-refusal why other same = cc

    no-full : (why : Condition) → ◌≡◌ {A = Result Answer CallError} (Err (error.Misuse why)) (Err error.Full) → ⊥
    no-full why same = cc

-- the builder failed at one of its instructions
pub emission-refused : {R : Type 0} (called : ImmediateCall) (old new : FunctionBuilder R) (answers : List Answer) (e : BuildError) (y : CallError) (r : Result Answer CallError)
    → r ≡ Err y → y ≡ call_error_of e → FailsBehind old new e → EmissionJudged called old answers true → MakesEmission called old new answers r
emission-refused called old new answers e y r is gives failing judges =
    subst (λ (x : Result Answer CallError). MakesEmission called old new answers x) (sym (is ∙ ap Err gives)) (record {
      loans = record { func = failing.built.loans.func ∙ failing.reaches.loans.func; ctx = failing.built.loans.ctx ∙ failing.reaches.loans.ctx; region = failing.built.loans.region ∙ failing.reaches.loans.region };
      name = tt;
      ready = λ naming declared calls ready. tt;
      judged = λ naming declared calls ready. judged-from _ _ e (λ same. judges naming declared calls ready) not-failed;
      sound = tt;
      refused = λ why same. not-failed (told-refused e why same);
      full = λ same. (failing.made, failing.few, met (failing.built.full (ap Err (told-full e same))));
      variables = tt;
    })
  where
    not-failed : e ≡ build.Failed → ⊥
    not-failed same =
        let has : failing.between.failed ≡ true = failing.built.failed.0 (ap Err same) in
        let hasnt : failing.between.failed ≡ false = failing.reaches.sound in
        cc

    met : (length failing.between.func.now.insts ≡ 2 ^ 32 - 1) ⊎ (length failing.between.func.now.values ≡ 2 ^ 32 - 1)
        → (length old.func.now.insts + failing.made ≡ 2 ^ 32 - 1) ⊎ (length old.func.now.values + failing.made ≡ 2 ^ 32 - 1)
    met (inl insts) = inl (sym failing.reaches.insts ∙ insts)
    met (inr values) = inr (sym failing.reaches.values ∙ values)

-- it was made
pub emission-answered : {R : Type 0} (called : ImmediateCall) (old new : FunctionBuilder R) (answers : List Answer) (a : Answer) (made : ℕ) → Reaches made old new → EmissionJudged called old answers true
    → ((naming : Naming) (declared : SignatureShape) (calls : List AnsweredCall) → IsReady naming declared calls old answers
    → IsReadyBehind naming declared calls (plain_calls_under naming (ledger_of calls) (length calls) called) new answers a)
    → MakesEmission called old new answers (Ok a)
emission-answered called old new answers a made far judges ready = record {
  loans = far.loans;
  name = far.name;
  ready = ready;
  judged = judges;
  sound = far.sound;
  refused = λ why. no-error (error.Refused why);
  full = λ same. absurd (no-error error.Full same);
  variables = far.variables;
}
  where
    no-error : (e : CallError) → ◌≡◌ {A = Result Answer CallError} (Ok a) (Err e) → ⊥
    no-error e same = cc
