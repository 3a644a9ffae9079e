-- The parts of a builder stand for the calls of the worked example: what the ledger of the calls says of answers, blocks, layout,
-- variables and tables is what the function, the context and the current block hold.
use Rattle.std.proofs.Common.{◌≡◌, ◌≢◌, ◌≤◌, ℕ, zero, suc, false, List, [], ◌∷◌, length, slice_get, Some, None, Contains, inl, refl, sym, subst, arith}
use Rattle.std.proofs.lemmas.Bool.Decides.{nat_tests}
use Rattle.std.specs.Prelude.{◌==◌}
use Rattle.clif_types.specs.EntitySet.{has}
use Rattle.clif_ir.specs.Body.{block_at}
use Rattle.clif_records.specs.Tables.{is_yes}
use Rattle.clif_ssa.specs.Counted.{sum_below}
use Rattle.clif_ssa.specs.Own.{Own}
use Rattle.clif_ssa.specs.Ssa.{predecessors_of, sealed_of}
use Rattle.clif_meaning.specs.CallExamples.{i64}
use Rattle.clif_meaning.specs.Examples.{i32}
use Rattle.clif_meaning.specs.Ledger.{ABlock, AValue, AnInstruction, Answered, BlockState, Ledger, answer_at}
use Rattle.clif_meaning.specs.Name.{Name, answer_of}
use Rattle.clif_meaning.specs.Request.{AnsweredCall}
use Rattle.clif_meaning.proofs.StraightLine.{nothing_contained}
use Rattle.clif_simulation.specs.Carries.{AreTypes}
use Rattle.clif_simulation.specs.Structure.{HasCallersAlone}
use Rattle.clif_builder.specs.Context.{status_of}
use Rattle.clif_builder.specs.Counted.{CountsCalls}
use Rattle.clif_builder.specs.Ledger.{AloneUnlessBegun, AnswerAgrees, AnswersAgree, BlockAgrees, HaveTypes, IsStructured, LedgerAgrees, ResultsFollow, block_name, ledger_of, was_touched}
use Rattle.clif_builder.specs.StandsFor.{StandsIn}
use Rattle.clif_builder.specs.declared.context.BlockStatus.TheVariants.{Empty, Filled}
use Rattle.clif_standing_laws.specs.MovingExamples.{moved_body, moved_calls, moved_context, moved_signature}
use Rattle.clif_standing_laws.proofs.Moved.MovedRow

abbrev ledger : Ledger
ledger = ledger_of moved_calls

some_is : {X : Type 0} {x y : X} → Some x ≡ Some y → x ≡ y
some_is same = cc

none_some : {X : Type 0} {x : X} → None ≡ Some x → ⊥
none_some same = cc

-- Answers -----------------------------------------------------------------------------------------------------------------

-- what holds of each place of two lists
abbrev EachPair : {A B : Type 0} → (ℕ → A → B → Type 0) → List A → List B → Type 0
EachPair P (a ∷ firsts) (b ∷ seconds) = P 0 a b × EachPair (λ k. P (suc k)) firsts seconds
EachPair P _ _ = Unit {0}

each_pair : {A B : Type 0} (P : ℕ → A → B → Type 0) (firsts : List A) (seconds : List B) → EachPair P firsts seconds
    → (k : ℕ) (a : A) (b : B) → slice_get firsts k ≡ Some a → slice_get seconds k ≡ Some b → P k a b
each_pair P [] seconds each k a b is found = absurd (none_some is)
each_pair P (x ∷ firsts) [] each k a b is found = absurd (none_some found)
each_pair {A} {B} P (x ∷ firsts) (y ∷ seconds) each zero a b is found =
    subst (λ (c : A). P 0 c b) (some_is is) (subst (P 0 x) (some_is found) each.0)
each_pair P (x ∷ firsts) (y ∷ seconds) each (suc k) a b is found = each_pair (λ j. P (suc j)) firsts seconds each.1 k a b is found

-- as many numbers as answers, each for its answer, and results behind an instruction
record Answers (place : ℕ) (answers : List Answered) (numbers : List ℕ) : Type 0 where
  count : length numbers ≡ length answers
  each : EachPair (λ index. AnswerAgrees ledger moved_body (answer_of place index)) answers numbers
  results : ResultsFollow moved_body answers numbers

abbrev AgreeAt : ℕ → AnsweredCall → List Answered → Type 0
AgreeAt place call answers = Answers place answers call.numbers

agree : (place : ℕ) (call : AnsweredCall) (answers : List Answered) → slice_get moved_calls place ≡ Some call
    → slice_get ledger.answers place ≡ Some answers → AnswersAgree ledger moved_body place answers call.numbers
agree place call answers is found =
    let here : Answers place answers call.numbers = each_pair AgreeAt moved_calls ledger.answers all_calls place call answers is found in
    record {
      count = here.count;
      each = each_pair (λ index. AnswerAgrees ledger moved_body (answer_of place index)) answers call.numbers here.each;
      results = here.results;
    }
  where
    none : {place : ℕ} → Answers place [] []
    none = record { count = refl; each = tt; results = tt }

    one : {place number : ℕ} {answer : Answered} → AnswerAgrees ledger moved_body (answer_of place 0) answer number
        → ResultsFollow moved_body (answer ∷ []) (number ∷ []) → Answers place (answer ∷ []) (number ∷ [])
    one same follow = record { count = refl; each = (same, tt); results = follow }

    the_return : Answers 11 (AnInstruction ∷ []) (1 ∷ [])
    the_return = one (_, refl) (_, refl, refl)

    the_call : Answers 9 (AnInstruction ∷ AValue i32 ∷ []) (0 ∷ 1 ∷ [])
    the_call = record { count = refl; each = ((_, refl), (refl, tt)); results = (_, refl, refl) }

    all_calls : EachPair AgreeAt moved_calls ledger.answers
    all_calls =
        (one refl tt, (one refl tt, (one refl tt, (none, (one refl tt, (one refl tt, (none, (none, (none, (the_call, (one refl tt, (the_return, tt))))))))))))

-- Blocks ------------------------------------------------------------------------------------------------------------------

block_agrees : (k : ℕ) (state : BlockState) → slice_get ledger.blocks k ≡ Some state
    → BlockAgrees moved_calls moved_body moved_context k state
block_agrees zero state is =
    subst (BlockAgrees moved_calls moved_body moved_context 0) (some_is is)
    (record { number = refl; is_sealed = refl; is_pristine = refl; is_filled = refl; is_cold = refl; predecessors = refl })
block_agrees (suc k) state is = absurd (none_some is)

block_answers : (k : ℕ) (name : Name) → block_name ledger k ≡ Some name → answer_at ledger name ≡ Some ABlock
block_answers zero name is = subst (λ (n : Name). answer_at ledger n ≡ Some ABlock) (some_is is) refl
block_answers (suc k) name is = absurd (none_some is)

none_leads : (b i : ℕ) → Contains (predecessors_of moved_context.ssa b) i → ⊥
none_leads zero i there = nothing_contained i there
none_leads (suc b) i there = nothing_contained i there

fresh : (k : ℕ) → 1 ≤ k
    → (is_yes (sealed_of moved_context.ssa k) ≡ false) × (status_of moved_context k ≡ Empty) × (predecessors_of moved_context.ssa k ≡ [])
fresh zero past = absurd (omega (arith, past))
fresh (suc k) past = (refl, refl, refl)

-- What the caller made ----------------------------------------------------------------------------------------------------

abbrev own : Own
own = MovedRow.carried.own

structured : IsStructured own moved_body moved_context
structured types are = MovedRow.carried.holds.structured types declared
  where
    declared : AreTypes moved_calls types
    declared zero ty is = are 0 ty is refl
    declared (suc x) ty is = absurd (none_some is)

callers_types : (k : ℕ) (state : BlockState) → slice_get ledger.blocks k ≡ Some state → HaveTypes moved_body (own.params k) state.parameters
callers_types zero state is =
    subst (λ (s : BlockState). HaveTypes moved_body (own.params 0) s.parameters) (some_is is)
    (subst (λ (values : List ℕ). HaveTypes moved_body values (i64 ∷ [])) (sym (MovedRow.carried.holds.parameters 0)) refl)
callers_types (suc k) state is = absurd (none_some is)

alone : (b : ℕ) → HasCallersAlone moved_calls moved_body b
alone zero = refl
alone (suc b) = refl

own_alone : (b : ℕ) → AloneUnlessBegun own moved_body moved_context b
own_alone b = inl (subst (λ (values : List ℕ). (block_at moved_body b).params ≡ values) (sym (MovedRow.carried.holds.parameters b)) (alone b))

touched : (x : ℕ) → was_touched (slice_get ledger.variables x) ≡ has moved_context.touched x
touched zero = refl
touched (suc x) = rw (other x) refl
  where
    other : (x : ℕ) → (0 == suc x) ≡ false
    other x = grind (arith, nat_tests)

-- the calls made all that there is, and no parameter waits
counted : CountsCalls moved_calls moved_body moved_context
unfolding sum_below
counted = record { values = omega arith; insts = omega arith }

-- Together ----------------------------------------------------------------------------------------------------------------

agrees_with_ledger : LedgerAgrees moved_calls ledger moved_body moved_context (Some 0)
agrees_with_ledger = record {
  places = refl;
  answers = agree;
  block_count = refl;
  blocks = block_agrees;
  block_answers = block_answers;
  current = refl;
  layout = refl;
  variables = record { types = refl; touched = touched };
  tables = refl;
  tracks = record { marks = MovedRow.marks; exactly = MovedRow.exactly; untracked = λ nothing. absurd nothing.1.1.1.0 };
  counts = counted;
  own = own;
  structured = structured;
  callers_types = callers_types;
  callers_alone = own_alone;
  branches = λ b i there. absurd (none_leads b i there);
  fresh = fresh;
}

pub stands : StandsIn moved_signature moved_calls moved_body moved_context (Some 0)
stands = record {
  signature = refl;
  ledger = agrees_with_ledger;
  carries = MovedRow.carried;
  leads_built = (tt, tt);
  begun = begun;
  callers_alone = λ b. inl (alone b);
}
  where
    filled : Filled ≡ Empty → ⊥
    filled same = cc

    begun : (entry : ℕ) → slice_get moved_body.layout 0 ≡ Some entry → status_of moved_context entry ≢ Empty
    begun zero is = filled
    begun (suc entry) is = let no : ◌≡◌ {A = ℕ} 0 (suc entry) = some_is is in absurd (omega (arith, no))
