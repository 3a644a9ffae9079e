-- What is known once a call was made, or wasn't.
use Rattle.std.proofs.Common.{◌≡◌, ℕ, ◌<◌, ◌-◌, ◌^◌, List, [], ◌∷◌, length, refl, ap, sym, ◌∙◌, subst, append_assoc, ◌⊎◌, inl, inr}
use Rattle.std.specs.Prelude.{◌≢◌, ◌↔◌, ◌&&◌, Option, Some, IfSome, IsTrue, Contains, slice_get, Bool, true, false, if◌then◌else◌, is_err, Err, OnOk, Ok, Result}
use Rattle.clif_types.specs.declared.error.BuildError.{BuildError}
use Rattle.clif_types.specs.declared.error.BuildError.TheVariants as build
use Rattle.clif_types.specs.declared.types.«Type».{«Type»}
use Rattle.clif_types.specs.Signature.{SignatureShape}
use Rattle.clif_ir.specs.Body.{Body}
use Rattle.clif_ir.specs.Changes.{inserted_in, with_layout}
use Rattle.clif_instructions.specs.Members.{stands_in}
use Rattle.clif_ssa.specs.Constructs.{OnlyConstructs}
use Rattle.clif_records.specs.Tables.{pending_of}
use Rattle.clif_ssa.specs.Limits.{IsFull}
use Rattle.clif_ssa.specs.Pools.{types_of, SealingIsFull, UseIsFull, WaitsWithType}
use Rattle.clif_ssa.specs.Ssa.{SsaState, sealed_of}
use Rattle.clif_meaning.specs.Ledger.{Ledger}
use Rattle.clif_meaning.specs.Request.{AnsweredCall, Request}
use Rattle.clif_meaning.specs.Acceptance.{allows, blames_variable}
use Rattle.clif_builder.specs.declared.builder.FunctionBuilder.{FunctionBuilder}
use Rattle.clif_builder.specs.Builder.{HasCurrent, SameLoans}
use Rattle.clif_builder.specs.Ledger.{ledger_of}
use Rattle.clif_resolution.specs.Errors.{call_error_of}
use Rattle.clif_resolution.specs.declared.answers.Answer.{Answer}
use Rattle.clif_resolution.specs.declared.condition.Condition.{Condition}
use Rattle.clif_resolution.specs.declared.answers.CallError.{CallError}
use Rattle.clif_resolution.specs.declared.answers.CallError.TheVariants as error
use Rattle.clif_replay.specs.Limits.{ConstructsUntil, IsWithin, UseMeetsFullTable}
use Rattle.clif_resolution.specs.Answers.{Finds}
use Rattle.clif_replay.specs.Makes.{Makes}
use Rattle.clif_replay.specs.Ready.{IsJudged, IsReady, IsReadyAfter}
use Rattle.clif_resolution.proofs.Options.{get-below}
use Rattle.clif_replay.specs.Requests.{Naming}

-- the request is allowed in each ledger with which the builder agrees, or in none
abbrev pub Judges : {R : Type 0} → (Naming → SignatureShape → Ledger → Request) → FunctionBuilder R → List Answer → Bool → Type 0
Judges asks b answers allowed =
    (naming : Naming) (declared : SignatureShape) (calls : List AnsweredCall) → IsReady naming declared calls b answers → allows (ledger_of calls) (asks naming declared (ledger_of calls)) ≡ allowed

pub loans-stay : {R : Type 0} (b : FunctionBuilder R) → SameLoans b b
loans-stay b = record { func = refl; ctx = refl; region = refl }

-- the request isn't allowed, and its variable is to blame for that, or isn't
abbrev pub Denies : {R : Type 0} → (Naming → SignatureShape → Ledger → Request) → Bool → FunctionBuilder R → List Answer → Bool → Type 0
Denies asks tried b answers blamed =
    (naming : Naming) (declared : SignatureShape) (calls : List AnsweredCall) → IsReady naming declared calls b answers
    → (allows (ledger_of calls) (asks naming declared (ledger_of calls)) ≡ false) × ((tried && blames_variable (ledger_of calls) (asks naming declared (ledger_of calls))) ≡ blamed)

-- it isn't allowed, and isn't refused either
pub made-denied : {R : Type 0} {asks : Naming → SignatureShape → Ledger → Request} {tried : Bool} {Meets : Type 0} {types : List «Type»} {why : Condition} (b : FunctionBuilder R) (answers : List Answer) → Denies asks tried b answers false
    → Makes asks tried Meets types b b answers (Err (error.Misuse why))
made-denied b answers denies = record {
  loans = loans-stay b;
  name = tt;
  ready = λ naming declared calls ready. tt;
  judged = denies;
  sound = tt;
  refused = λ other same. absurd (no-refusal _ other same);
  full = λ same. absurd (no-full _ same);
  variables = tt;
}
  where
    no-refusal : (why other : Condition) → ◌≡◌ {A = Result Answer CallError} (Err (error.Misuse why)) (Err (error.Refused other)) → ⊥
    no-refusal why other same = cc

    no-full : (why : Condition) → ◌≡◌ {A = Result Answer CallError} (Err (error.Misuse why)) (Err error.Full) → ⊥
    no-full why same = cc

-- it isn't allowed, and isn't only tried
pub made-misuse : {R : Type 0} {asks : Naming → SignatureShape → Ledger → Request} {Meets : Type 0} {types : List «Type»} {why : Condition} (b : FunctionBuilder R) (answers : List Answer) → Judges asks b answers false
    → Makes asks false Meets types b b answers (Err (error.Misuse why))
made-misuse b answers judges = made-denied b answers (λ naming declared calls ready. (judges naming declared calls ready, refl))

-- it was tried, and the builder refused it because of its variable
pub made-refusal : {R : Type 0} {asks : Naming → SignatureShape → Ledger → Request} {Meets : Type 0} {types : List «Type»} {why : Condition} (old new : FunctionBuilder R) (answers : List Answer) → SameLoans old new → Denies asks true old answers true
    → Makes asks true Meets types old new answers (Err (error.Refused why))
made-refusal old new answers loans denies = record {
  loans = loans;
  name = tt;
  ready = λ naming declared calls ready. tt;
  judged = denies;
  sound = tt;
  refused = λ other same. refl;
  full = λ same. absurd (no-full _ same);
  variables = tt;
}
  where
    no-full : (why : Condition) → ◌≡◌ {A = Result Answer CallError} (Err (error.Refused why)) (Err error.Full) → ⊥
    no-full why same = cc

-- a builder that answered hasn't failed
pub answered-sound : {T : Type 0} (failed : Bool) (told : Result T BuildError) (x : T) → failed ≡ is_err told → told ≡ Ok x → failed ≡ false
answered-sound failed told x fails was = fails ∙ ap is_err was

-- it was made
pub made-answer : {R : Type 0} {asks : Naming → SignatureShape → Ledger → Request} {tried : Bool} {Meets : Type 0} {types : List «Type»} (old new : FunctionBuilder R) (answers : List Answer) (a : Answer)
    → SameLoans old new → new.func.now.name ≡ old.func.now.name → new.failed ≡ false → new.ctx.now.parts.variables ≡ types → Judges asks old answers true
    → ((naming : Naming) (declared : SignatureShape) (calls : List AnsweredCall) → IsReady naming declared calls old answers → IsReadyAfter naming declared calls (asks naming declared (ledger_of calls)) new answers a)
    → Makes asks tried Meets types old new answers (Ok a)
made-answer old new answers a loans name sound variables judges ready = record {
  loans = loans;
  name = name;
  ready = ready;
  judged = judges;
  sound = sound;
  refused = λ why same. absurd (no-error (error.Refused why) same);
  full = λ same. absurd (no-error error.Full same);
  variables = variables;
}
  where
    no-error : (e : CallError) → ◌≡◌ {A = Result Answer CallError} (Ok a) (Err e) → ⊥
    no-error e same = cc

-- a refusal is told as itself
pub told-full : (e : BuildError) → ◌≡◌ {A = Result Answer CallError} (Err (call_error_of e)) (Err error.Full) → e ≡ build.Full
told-full build.Memory same = let no_way : ⊥ = cc in absurd no_way
told-full build.Full same = refl
told-full build.Failed same = let no_way : ⊥ = cc in absurd no_way

pub told-refused : (e : BuildError) (why : Condition) → ◌≡◌ {A = Result Answer CallError} (Err (call_error_of e)) (Err (error.Refused why)) → e ≡ build.Failed
told-refused build.Memory why same = let no_way : ⊥ = cc in absurd no_way
told-refused build.Full why same = let no_way : ⊥ = cc in absurd no_way
told-refused build.Failed why same = refl

pub judged-from : (allowed refused : Bool) (e : BuildError) → (e ≡ build.Full → allowed ≡ true) → e ≢ build.Failed → IsJudged allowed refused (Err (call_error_of e))
judged-from allowed refused build.Memory is sound = tt
judged-from allowed refused build.Full is sound = is refl
judged-from allowed refused build.Failed is sound = absurd (sound refl)

-- the builder refused it, which hadn't failed; where a table was full it may be made
pub made-failed : {T : Type 0} {R : Type 0} {asks : Naming → SignatureShape → Ledger → Request} {tried : Bool} {Meets : Type 0} {types : List «Type»} (old new : FunctionBuilder R) (answers : List Answer) (told : Result T BuildError)
    (e : BuildError) (y : CallError) (r : Result Answer CallError) → told ≡ Err e → r ≡ Err y → y ≡ call_error_of e → SameLoans old new → old.failed ≡ false
    → ((told ≡ Err build.Failed) ↔ IsTrue old.failed) → (told ≡ Err build.Full → Judges asks old answers true) → (told ≡ Err build.Full → Meets)
    → Makes asks tried Meets types old new answers r
made-failed {asks = asks} {tried = tried} {Meets = Meets} {types = types} old new answers told e y r was is gives loans sound failed judges full =
    subst (λ (x : Result Answer CallError). Makes asks tried Meets types old new answers x) (sym (is ∙ ap Err gives)) (record {
      loans = loans;
      name = tt;
      ready = λ naming declared calls ready. tt;
      judged = λ naming declared calls ready. judged-from _ _ e (λ same. judges (was ∙ ap Err same) naming declared calls ready) (λ same. not-failed (was ∙ ap Err same));
      sound = tt;
      refused = λ why same. absurd (not-failed (was ∙ ap Err (told-refused e why same)));
      full = λ same. full (was ∙ ap Err (told-full e same));
      variables = tt;
    })
  where
    not-failed : told ≡ Err build.Failed → ⊥
    not-failed same = let has : old.failed ≡ true = failed.0 same in cc

-- the same of one that may be made
pub made-refused : {T : Type 0} {R : Type 0} {asks : Naming → SignatureShape → Ledger → Request} {tried : Bool} {Meets : Type 0} {types : List «Type»} (old new : FunctionBuilder R) (answers : List Answer) (told : Result T BuildError)
    (e : BuildError) (y : CallError) (r : Result Answer CallError) → told ≡ Err e → r ≡ Err y → y ≡ call_error_of e → SameLoans old new → old.failed ≡ false
    → ((told ≡ Err build.Failed) ↔ IsTrue old.failed) → Judges asks old answers true → (told ≡ Err build.Full → Meets)
    → Makes asks tried Meets types old new answers r
made-refused old new answers told e y r was is gives loans sound failed judges full =
    made-failed old new answers told e y r was is gives loans sound failed (λ same. judges) full

-- memory was refused before the builder was called
pub made-memory : {R : Type 0} {asks : Naming → SignatureShape → Ledger → Request} {tried : Bool} {Meets : Type 0} {types : List «Type»} (b : FunctionBuilder R) (answers : List Answer)
    → Makes asks tried Meets types b b answers (Err error.Memory)
made-memory b answers = record {
  loans = loans-stay b;
  name = tt;
  ready = λ naming declared calls ready. tt;
  judged = λ naming declared calls ready. tt;
  sound = tt;
  refused = λ why same. absurd (no-refusal why same);
  full = λ same. absurd (no-full same);
  variables = tt;
}
  where
    no-full : ◌≡◌ {A = Result Answer CallError} (Err error.Memory) (Err error.Full) → ⊥
    no-full same = cc

    no-refusal : (why : Condition) → ◌≡◌ {A = Result Answer CallError} (Err error.Memory) (Err (error.Refused why)) → ⊥
    no-refusal why same = cc

pub memory-told : {R : Type 0} {asks : Naming → SignatureShape → Ledger → Request} {tried : Bool} {Meets : Type 0} {types : List «Type»} (b : FunctionBuilder R) (answers : List Answer)
    (e : CallError) (r : Result Answer CallError) → r ≡ Err e → e ≡ error.Memory → Makes asks tried Meets types b b answers r
memory-told {asks = asks} {tried = tried} {Meets = Meets} {types = types} b answers e r is gives =
    subst (λ (x : Result Answer CallError). Makes asks tried Meets types b b answers x) (sym (is ∙ ap Err gives)) (made-memory b answers)

-- what it names isn't there, or memory was refused
pub made-missed : {X : Type 0} {R : Type 0} {asks : Naming → SignatureShape → Ledger → Request} {Meets : Type 0} {types : List «Type»} (b : FunctionBuilder R) (answers : List Answer)
    (v : Result X CallError) (r : Result Answer CallError) (e : CallError) → v ≡ Err e → r ≡ Err e → ((why : Condition) → v ≡ Err (error.Misuse why) → Judges asks b answers false) → ((why : Condition) → v ≢ Err (error.Refused why))
    → v ≢ Err error.Full → Makes asks false Meets types b b answers r
made-missed {asks = asks} {Meets = Meets} {types = types} b answers v r e was is judges never_refused never_full =
    subst (λ (x : Result Answer CallError). Makes asks false Meets types b b answers x) (sym is) (by e was)
  where
    by : (e : CallError) → v ≡ Err e → Makes asks false Meets types b b answers (Err e)
    by (error.Misuse why) was = made-misuse b answers (judges why was)
    by (error.Refused why) was = absurd (never_refused why was)
    by error.Full was = absurd (never_full was)
    by error.Memory was = made-memory b answers

pub made-misused : {X : Type 0} {R : Type 0} {Found : X → Type 0} {there : Bool} {asks : Naming → SignatureShape → Ledger → Request} {Meets : Type 0} {types : List «Type»} (b : FunctionBuilder R) (answers : List Answer)
    (v : Result X CallError) (r : Result Answer CallError) (e : CallError) → v ≡ Err e → r ≡ Err e → Finds Found there v → (there ≡ false → Judges asks b answers false)
    → Makes asks false Meets types b b answers r
made-misused b answers v r e was is finds judges = made-missed b answers v r e was is (λ why misuse. judges (finds.misuse why misuse)) finds.never_refused finds.never_full

-- one of the tables is full
pub full-either : (f : Body) → (length f.insts ≡ 2 ^ 32 - 1) ⊎ (length f.values ≡ 2 ^ 32 - 1) → IsFull f
full-either f (inl insts) = inr insts
full-either f (inr values) = inl values

-- A builder that was changed before its call was made, but stands for the same calls, made the call.
pub made-between : {R : Type 0} {asks : Naming → SignatureShape → Ledger → Request} {tried : Bool} {Meets Met : Type 0} {types : List «Type»} (old between new : FunctionBuilder R) (answers : List Answer) (r : Result Answer CallError)
    → SameLoans old between → between.func.now.name ≡ old.func.now.name
    → ((naming : Naming) (declared : SignatureShape) (calls : List AnsweredCall) → IsReady naming declared calls old answers → IsReady naming declared calls between answers)
    → (Met → Meets) → Makes asks tried Met types between new answers r → Makes asks tried Meets types old new answers r
made-between old between new answers r loans name goes_on meets made = record {
  loans = record { func = made.loans.func ∙ loans.func; ctx = made.loans.ctx ∙ loans.ctx; region = made.loans.region ∙ loans.region };
  name = named r made.name;
  ready = λ naming declared calls ready. made.ready naming declared calls (goes_on naming declared calls ready);
  judged = λ naming declared calls ready. made.judged naming declared calls (goes_on naming declared calls ready);
  sound = made.sound;
  refused = made.refused;
  full = λ same. meets (made.full same);
  variables = made.variables;
}
  where
    named : (x : Result Answer CallError) → OnOk x (new.func.now.name ≡ between.func.now.name) → OnOk x (new.func.now.name ≡ old.func.now.name)
    named (Ok a) same = same ∙ name
    named (Err e) same = tt

-- FINDING -----------------------------------------------------------------------------------------------------------

-- what a part of it told
pub found-none : {X Y : Type 0} {Found : Y → Type 0} (there other : Bool) (v : Result X CallError) (r : Result Y CallError) (e : CallError) → v ≡ Err e → r ≡ Err e
    → ((why : Condition) → v ≡ Err (error.Misuse why) → there ≡ false) → ((why : Condition) → v ≢ Err (error.Refused why)) → v ≢ Err error.Full → (there ≡ false → other ≡ false)
    → Finds Found other r
found-none {X = X} {Y = Y} {Found = Found} there other v r e was is misuse never_refused never_full less =
    subst (λ (x : Result Y CallError). Finds Found other x) (sym is) (record {
      found = tt;
      may = tt;
      misuse = λ why same. less (misuse why (was ∙ ap Err (error-is e (error.Misuse why) same)));
      never_refused = λ why same. never_refused why (was ∙ ap Err (error-is e (error.Refused why) same));
      never_full = λ same. never_full (was ∙ ap Err (error-is e error.Full same));
    })
  where
    error-is : (x y : CallError) → ◌≡◌ {A = Result Y CallError} (Err x) (Err y) → x ≡ y
    error-is x y same = cc

-- CONSTRUCTING --------------------------------------------------------------------------------------------------------

-- a block comes into the layout first
pub constructs-inserted : (f g : Body) (block : ℕ) → OnlyConstructs (inserted_in f block) g → OnlyConstructs f g
constructs-inserted f g block = by (stands_in block f.layout)
  where
    by : (there : Bool) → OnlyConstructs (if there then f else with_layout f block) g → OnlyConstructs f g
    by true made = made
    by false made = record {
      same = made.same;
      tables = made.tables;
      values = made.values;
      same_values = made.same_values;
      insts = made.insts;
      same_insts = made.same_insts;
      zeros = λ i old new. let zero = made.zeros i old new in record { ty = zero.ty; place = zero.place; step = zero.step; is_step = zero.is_step; value = zero.value; is_new = zero.is_new; constant = zero.constant; zeros = zero.zeros; shape = zero.shape; results = zero.results; srcloc = zero.srcloc };
      block_count = made.block_count;
      blocks = λ b. let node = made.blocks b in record { zeros = node.zeros; stays = node.stays; added = node.added; node = node.node; zeros_fit = node.zeros_fit; zeros_new = node.zeros_new; added_new = node.added_new };
      layout = (block ∷ made.layout.0, made.layout.1 ∙ append_assoc f.layout (block ∷ []) made.layout.0);
    }

-- a use of a variable did, in the current block
constructs-met : {T : Type 0} {R : Type 0} (TableIsFull : Body → Type 0) (b : FunctionBuilder R) (g : Body) (told : Result T BuildError) → HasCurrent b
    → IfSome b.position (λ block. told ≡ Err build.Full → OnlyConstructs (inserted_in b.func.now block) g) → told ≡ Err build.Full → TableIsFull g
    → IsWithin b.func.now b.ctx.now.parts b.position g → ConstructsUntil TableIsFull b.func.now b.ctx.now.parts b.position
constructs-met TableIsFull b g told current made full is_full within = (
  g,
  constructs-inserted b.func.now g current.0 (subst (λ (o : Option ℕ). IfSome o (λ block. told ≡ Err build.Full → OnlyConstructs (inserted_in b.func.now block) g)) current.1 made full),
  is_full,
  within,
)

pub use-met : {T : Type 0} {R : Type 0} (b : FunctionBuilder R) (g : Body) (told : Result T BuildError) (variable : ℕ) → variable < length b.ctx.now.parts.variables → HasCurrent b
    → IfSome b.position (λ block. told ≡ Err build.Full → OnlyConstructs (inserted_in b.func.now block) g) → told ≡ Err build.Full
    → ((ty : «Type») → slice_get b.ctx.now.parts.variables variable ≡ Some ty → told ≡ Err build.Full → UseIsFull ty g)
    → IsWithin b.func.now b.ctx.now.parts b.position g → UseMeetsFullTable variable b.func.now b.ctx.now.parts b.position
use-met b g told variable declared current made full is_full within =
    let at = get-below b.ctx.now.parts.variables variable declared in
    (at.0, at.1, constructs-met (UseIsFull at.0) b g told current made full (is_full at.0 at.1 full) within)

-- the parameters that wait in one block wait in some block
pub one-block : (f g : Body) (s : SsaState) (b : ℕ) → b < length f.blocks → SealingIsFull (Contains (types_of f (pending_of (sealed_of s b)))) g
    → SealingIsFull (WaitsWithType f s) g
one-block f g s b there (inl full) = inl full
one-block f g s b there (inr lacks) = inr (lacks.0, (b, there, lacks.1), lacks.2)
