-- The ledger agrees with a new builder, and tells what `finalize` answers.
use Rattle.std.proofs.Common.{◌≡◌, ◌+◌, ℕ, suc, List, [], ◌∷◌, length, refl, sym, subst, arith, inl, zero}
use Rattle.std.specs.Prelude.{slice_get, Option, Some, None, Err, Bool, true, false, if◌then◌else◌, not, ◌&&◌, find}
use Rattle.std.proofs.lemmas.Option.{none-some}
use Rattle.clif_types.specs.Signature.{SignatureShape}
use Rattle.clif_types.specs.declared.extname.UserFuncName.{UserFuncName}
use Rattle.clif_ir.specs.Body.{Body, empty_body}
use Rattle.clif_meaning.specs.Request.{AnsweredCall, number_of, Finalize}
use Rattle.clif_meaning.specs.Ledger.{BlockState, empty_ledger, marked}
use Rattle.clif_meaning.specs.Acceptance.{refusal_of, is_unfinished, unfinished}
use Rattle.clif_meaning.specs.Acceptance as refusal
use Rattle.clif_records.specs.Tables.{is_yes}
use Rattle.clif_ssa.specs.Ssa.{sealed_of}
use Rattle.clif_ssa.specs.Own.{no_own}
use Rattle.clif_ssa.proofs.Ordering.{none_contained}
use Rattle.clif_ssa.proofs.StructuredLaws.{first_structured}
use Rattle.clif_builder.specs.declared.context.BlockStatus.{BlockStatus}
use Rattle.clif_builder.specs.declared.context.BlockStatus.TheVariants.{Empty, Partial, Filled}
use Rattle.clif_builder.specs.declared.error.FinalizeError.{FinalizeError}
use Rattle.clif_builder.specs.declared.error.FinalizeError.TheVariants as error
use Rattle.clif_builder.specs.declared.builder.FunctionBuilder.{FunctionBuilder}
use Rattle.clif_builder.specs.Context.{ContextState, empty_context, status_of}
use Rattle.clif_builder.specs.Builder.{answer_of, block_fault, first_fault, is_empty_status, is_filled_status, or_else, verdict_of}
use Rattle.clif_builder.proofs.Counted.{counts_first}
use Rattle.clif_builder.proofs.Exactly.{nothing_recorded}
use Rattle.clif_builder.specs.Ledger.{AgreesWithLedger, BlockAgrees, LedgerAgrees, RefusalAgrees, ledger_of, was_touched}

none_marked : (x : ℕ) → marked (slice_get [] x) ≡ false
none_marked zero = refl
none_marked (suc x) = refl

none_touched : (x : ℕ) → was_touched (slice_get [] x) ≡ false
none_touched zero = refl
none_touched (suc x) = refl

-- no calls, and nothing made
pub agrees-empty : (name : UserFuncName) (signature : SignatureShape) → LedgerAgrees [] empty_ledger (empty_body name signature) empty_context None
agrees-empty name signature =
    record {
      places = refl;
      answers = λ place call answers at there. absurd (none-some call at);
      block_count = refl;
      blocks = λ k s there. absurd (none-some s there);
      block_answers = λ k x is. absurd (none-some x is);
      current = refl;
      layout = refl;
      variables = record { types = refl; touched = none_touched };
      tables = refl;
      tracks = record { marks = none_marked; exactly = nothing_recorded; untracked = λ asks. refl };
      counts = counts_first name signature;
      own = no_own;
      structured = λ types are. first_structured types name signature;
      callers_types = λ k s there. absurd (none-some s there);
      callers_alone = λ b. inl refl;
      branches = λ b branch leads. absurd (none_contained branch leads);
      fresh = λ k above. (refl, refl, refl);
    }

pub begins-empty : (f : Body) (c : ContextState) (p : Option ℕ) → f ≡ empty_body f.name f.signature → c ≡ empty_context → p ≡ None → LedgerAgrees [] empty_ledger f c p
begins-empty f c p function context position =
    subst (λ (h : Body). LedgerAgrees [] empty_ledger h c p) (sym function)
    (subst (λ (d : ContextState). LedgerAgrees [] empty_ledger (empty_body f.name f.signature) d p) (sym context)
    (subst (λ (o : Option ℕ). LedgerAgrees [] empty_ledger (empty_body f.name f.signature) empty_context o) (sym position) (agrees-empty f.name f.signature)))

-- what one block lacks, and then what the next ones do
one-block : (calls : List AnsweredCall) (state : BlockState) (k : ℕ) (status : BlockStatus) (sealed : Bool) (next : Option BlockState) (rest : Option FinalizeError)
    → number_of calls state.block ≡ Some k → state.is_sealed ≡ sealed → state.is_pristine ≡ is_empty_status status → state.is_filled ≡ is_filled_status status
    → RefusalAgrees calls (unfinished next) (answer_of rest)
    → RefusalAgrees calls (unfinished (if not (is_empty_status status) && not (sealed && is_filled_status status) then Some state else next))
    (answer_of (or_else (if is_empty_status status then None else if sealed then (if is_filled_status status then None else Some (error.Unfilled k)) else Some (error.Unsealed k)) rest))
one-block calls state k Empty sealed next rest number seal pristine fill agrees = agrees
one-block calls state k Partial true next rest number seal pristine fill agrees =
    subst (λ (b : Bool). RefusalAgrees calls (Some (if b then refusal.Unfilled state.block else refusal.Unsealed state.block)) (Err (error.Unfilled k))) (sym seal) (k, number, refl)
one-block calls state k Partial false next rest number seal pristine fill agrees =
    subst (λ (b : Bool). RefusalAgrees calls (Some (if b then refusal.Unfilled state.block else refusal.Unsealed state.block)) (Err (error.Unsealed k))) (sym seal) (k, number, refl)
one-block calls state k Filled true next rest number seal pristine fill agrees = agrees
one-block calls state k Filled false next rest number seal pristine fill agrees =
    subst (λ (b : Bool). RefusalAgrees calls (Some (if b then refusal.Unfilled state.block else refusal.Unsealed state.block)) (Err (error.Unsealed k))) (sym seal) (k, number, refl)

-- the first block that isn't finished, from a number on
refusal-from : (calls : List AnsweredCall) (f : Body) (c : ContextState) (states : List BlockState) (from : ℕ)
    → ((k : ℕ) (state : BlockState) → slice_get states k ≡ Some state → BlockAgrees calls f c (from + k) state)
    → RefusalAgrees calls (unfinished (find is_unfinished states)) (answer_of (first_fault c from (length states)))
unfolding first_fault
refusal-from calls f c [] from agrees = refl
refusal-from calls f c (state ∷ states) from agrees =
    let here : BlockAgrees calls f c from state = let same : from + 0 ≡ from = omega arith in subst (λ (n : ℕ). BlockAgrees calls f c n state) same (agrees 0 state refl) in
    let rest = refusal-from calls f c states (from + 1) (λ k s there. let same : from + suc k ≡ from + 1 + k = omega arith in subst (λ (n : ℕ). BlockAgrees calls f c n s) same (agrees (suc k) s there)) in
    let test : (not (is_empty_status (status_of c from)) && not (is_yes (sealed_of c.ssa from) && is_filled_status (status_of c from))) ≡ is_unfinished state = rw (here.is_pristine, here.is_sealed, here.is_filled) refl in
    subst (λ (b : Bool). RefusalAgrees calls (unfinished (if b then Some state else find is_unfinished states)) (answer_of (or_else (block_fault c from) (first_fault c (from + 1) (length states))))) test
    (one-block calls state from (status_of c from) (is_yes (sealed_of c.ssa from)) (find is_unfinished states) (first_fault c (from + 1) (length states))
    here.number here.is_sealed here.is_pristine here.is_filled rest)

pub finished : {R : Type 0} (calls : List AnsweredCall) (b : FunctionBuilder R) → AgreesWithLedger calls b → b.failed ≡ false
    → RefusalAgrees calls (refusal_of (ledger_of calls) Finalize) (verdict_of b.failed b.ctx.now.parts (length b.func.now.blocks))
finished calls b agrees sound =
    let from_zero = refusal-from calls b.func.now b.ctx.now.parts (ledger_of calls).blocks 0 (λ k s there. let same : k ≡ 0 + k = omega arith in subst (λ (n : ℕ). BlockAgrees calls b.func.now b.ctx.now.parts n s) same (agrees.blocks k s there)) in
    subst (λ (failed : Bool). RefusalAgrees calls (refusal_of (ledger_of calls) Finalize) (verdict_of failed b.ctx.now.parts (length b.func.now.blocks))) (sym sound)
    (subst (λ (n : ℕ). RefusalAgrees calls (refusal_of (ledger_of calls) Finalize) (answer_of (first_fault b.ctx.now.parts 0 n))) agrees.block_count from_zero)
