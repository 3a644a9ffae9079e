-- Blocks that are made and entered, and branches to them.
use Rattle.std.proofs.Common.{◌≡◌, ◌<◌, ◌≤◌, inl, inr, ℕ, ℤ, true, List, [], ◌∷◌, ◌++◌, length, refl, sym, ◌∙◌, ap, subst, arith, append_assoc, append-nil, Some, None}
use Rattle.std.proofs.lemmas.Bool.{ne_eqb}
use Rattle.std.specs.Prelude.{◌≢◌, ◌==◌, Result, Ok, Err, is_some, replicate, slice_get, option_and_then}
use Rattle.std.specs.Result.{IsErrAnd}
use Rattle.clif_types.specs.Signature.{SignatureShape}
use Rattle.clif_types.specs.declared.error.BuildError.{BuildError}
use Rattle.clif_types.specs.declared.types.«Type».{«Type»}
use Rattle.clif_instructions.specs.Instruction.{is_terminator}
use Rattle.clif_instructions.specs.declared.instructions.InstructionData.{InstructionData}
use Rattle.clif_ir.specs.Body.{Body}
use Rattle.clif_ir.specs.Changes.{with_block}
use Rattle.clif_tables.specs.Callees.{count_of_results}
use Rattle.clif_records.specs.Tables.{Yes, is_yes, pending_of}
use Rattle.clif_ssa.specs.Ssa.{SameBlocks, sealed_of}
use Rattle.clif_meaning.specs.Ledger.{ABlock}
use Rattle.clif_meaning.specs.Name.{answer_of}
use Rattle.clif_meaning.specs.Request.{AnsweredCall, CreateBlock, Script}
use Rattle.clif_builder.specs.declared.builder.FunctionBuilder.{FunctionBuilder}
use Rattle.clif_builder.specs.declared.context.BlockStatus.TheVariants.{Empty, Filled}
use Rattle.clif_builder.specs.Builder.{HasCurrent, with_position}
use Rattle.clif_builder.specs.Construction.{SealsAlone}
use Rattle.clif_builder.specs.Context.{FillsNone, status_of}
use Rattle.clif_builder.specs.Built.{Builds, BuildsValue}
use Rattle.clif_builder.specs.Calls.{IsCall, answered}
use Rattle.clif_builder.specs.Growth.{Grows, RemembersIn}
use Rattle.clif_builder.specs.Ledger.{NamesBlock, ledger_of}
use Rattle.clif_builder.specs.LedgerLaws.{LedgerIsReadByNumber}
use Rattle.clif_builder.specs.Order.{IsUntouched}
use Rattle.clif_builder.specs.StandsFor.{StandsFor}
use Rattle.clif_builder.proofs.Keeping.{keeps_insts}
use Rattle.clif_builder.proofs.Lasting.{ledger-behind}
use Rattle.clif_builder.proofs.LedgerLeads.{blocks-along}
use Rattle.clif_builder.proofs.LedgerLists.{if-no}
use Rattle.clif_constant_operands.specs.Chains.{BuildsWithConstant}
use Rattle.clif_constant_calls.specs.Stands.{BuildsLike}
use Rattle.clif_switch_calls.specs.SwitchCalls.{Switched}
use Rattle.clif_switch.specs.Emission.{EndsBlock, IsEntered, IsOpenFor, LeavesBlocks, NamesTarget, StandsAt, StandsOn, StaysHere, Steps, next_place}
use Rattle.clif_switch.proofs.Names.{place_is, stands_behind}
use Rattle.clif_switch.proofs.Numbers.{constant_went}
use Rattle.clif_switch.proofs.Steps.{adds_none, built_steps, call_steps, leaves_on, may_lead_on, not_full, refused_steps, steps_ok, steps_on}
use Rattle.clif_switch.proofs.Values.{Went, done, none_more, value_went, went_then}

-- NEW BLOCKS --------------------------------------------------------------------------------------------------------------

pub slice_get-last : {X : Type 0} (xs : List X) (x : X) → slice_get (xs ++ x ∷ []) (length xs) ≡ Some x
slice_get-last [] x = refl
slice_get-last (y ∷ xs) x = slice_get-last xs x

-- the answer to a call that creates a block names it
created_named : {R : Type 0} (reads : LedgerIsReadByNumber) (signature : SignatureShape) (calls : List AnsweredCall) (old new : FunctionBuilder R) (block : ℕ) → StandsFor signature calls old
    → StandsFor signature (calls ++ answered CreateBlock (block ∷ []) ∷ []) new → NamesBlock (calls ++ answered CreateBlock (block ∷ []) ∷ []) (answer_of (length calls) 0) block
created_named reads signature calls old new block before after =
    let call : AnsweredCall = answered CreateBlock (block ∷ []) in
    let there : slice_get (ledger_of (calls ++ call ∷ [])).answers (length calls) ≡ Some (ABlock ∷ []) =
    ap (λ ledger. slice_get ledger.answers (length calls)) (ledger-behind calls (call ∷ []))
    ∙ ap (slice_get ((ledger_of calls).answers ++ (ABlock ∷ []) ∷ [])) (sym before.ledger.places) ∙ slice_get-last (ledger_of calls).answers (ABlock ∷ []) in
    let named = (after.ledger.answers (length calls) call (ABlock ∷ []) (slice_get-last calls call) there).each 0 ABlock block refl refl in
    record {
      number = ap (option_and_then (λ (one : AnsweredCall). slice_get one.numbers 0)) (slice_get-last calls call);
      is_block = ap is_some ((reads (calls ++ call ∷ []) new.func.now new.ctx.now.parts new.position after.ledger).state block (answer_of (length calls) 0) named).found;
    }

module _ {R : Type 0} (reads : LedgerIsReadByNumber) {signature : SignatureShape} {calls : List AnsweredCall} {s : Switched} {x otherwise : ℕ} {cases : List ℕ} {plain : Script} {old : FunctionBuilder R}
    (at : StandsAt signature calls s x otherwise cases plain old) where
  pub block_made : (new : FunctionBuilder R) (block : ℕ) → StandsFor signature ((calls ++ at.added) ++ answered CreateBlock (block ∷ []) ∷ []) new
      → NamesTarget at (CreateBlock ∷ []) new (answer_of (next_place calls plain) 0) block
  unfolding stands_behind
  block_made new block stands =
      let call : AnsweredCall = answered CreateBlock (block ∷ []) in
      let on : StandsOn at (CreateBlock ∷ []) new = stands_behind reads at (call ∷ []) (CreateBlock ∷ []) new refl stands in
      record {
        on = on;
        named = subst (λ (list : List AnsweredCall). NamesBlock list (answer_of (next_place calls plain) 0) block) (append_assoc calls at.added (call ∷ []))
            (subst (λ (place : ℕ). NamesBlock ((calls ++ at.added) ++ call ∷ []) (answer_of place 0) block) (place_is reads at)
            (created_named reads signature (calls ++ at.added) old new block at.stands stands));
      }

-- a block was created
pub created_went : {R : Type 0} (old new : FunctionBuilder R) (block : ℕ) → IsCall old new (Ok block) → new.ctx.now.parts.variables ≡ old.ctx.now.parts.variables
    → new.func.now ≡ with_block old.func.now → new.ctx.now.parts.ssa.tracking ≡ old.ctx.now.parts.ssa.tracking → Grows old.func.now new.func.now → ((x b : ℕ) → RemembersIn x b old new) → SameBlocks old.ctx.now.parts.ssa new.ctx.now.parts.ssa
    → HasCurrent new → Went old new
created_went old new block call variables function tracking grows remembers sealed current = record {
  steps = steps_ok old new block (tt {0}) (call_steps old new (Ok block) call variables grows remembers (keeps_insts old new (ap (λ (f : Body). f.insts) function) tracking remembers)
      (adds_none old.func.now.tables new.func.now.tables (ap (λ (f : Body). f.tables) function)) (λ is. not_full block is));
  position = call.position;
  leaves = record {
    seals = λ b inside. ap is_yes (sealed b);
    waits = λ b inside. ap pending_of (sealed b);
    fills = λ b inside other filled. call.fills b filled;
    position = λ b inside at. sym call.position ∙ at;
  };
  tables = grows.6;
  current = current;
}

no_status : Empty ≡ Filled → ⊥
no_status same = cc

pub created_open : {R : Type 0} (b : FunctionBuilder R) (block : ℕ) → block < length b.func.now.blocks → IsUntouched b.ctx.now.parts block → IsOpenFor b block
created_open b block exists untouched = record {
  leads = record { exists = exists; unsealed = untouched.unsealed };
  unfilled = λ filled. no_status (sym untouched.pristine ∙ filled);
  none_waits = untouched.none_waits;
}

pub some_same : (a b : ℕ) → Some a ≡ Some b → a ≡ b
some_same a b same = cc

-- the current block isn't one that comes later
pub elsewhere : {R : Type 0} (b : FunctionBuilder R) (block : ℕ) → HasCurrent b → length b.func.now.blocks ≤ block → b.position ≢ Some block
elsewhere b block (current, here, exists, unfilled) later is = let same = some_same current block (sym here ∙ is) in omega (arith, same, exists, later)

-- a block stays open that isn't the current one
pub open_on : {R : Type 0} (old new : FunctionBuilder R) (block : ℕ) → length old.func.now.blocks ≤ length new.func.now.blocks → LeavesBlocks old new → old.position ≢ Some block → IsOpenFor old block → IsOpenFor new block
open_on old new block more leaves other was = record {
  none_waits = leaves.waits block was.leads.exists ∙ was.none_waits;
  leads = may_lead_on old new block more leaves was.leads;
  unfilled = λ filled. was.unfilled (leaves.fills block was.leads.exists other filled);
}

-- a block in which nothing waits was sealed, and became the current one
pub is_entered : {R : Type 0} (old mid new : FunctionBuilder R) (block : ℕ) → FillsNone old.ctx.now.parts mid.ctx.now.parts
    → SealsAlone old.func.now old.ctx.now.parts.ssa mid.func.now mid.ctx.now.parts.ssa block → new ≡ with_position mid block → HasCurrent new → IsEntered block old new
is_entered old mid new block fills alone is current = record {
  seals = λ other apart. ap is_yes (stays other apart);
  waits = λ other apart. ap pending_of (stays other apart);
  fills = λ b filled. fills b (ap (λ (builder : FunctionBuilder _). status_of builder.ctx.now.parts b) (sym is) ∙ filled);
  position = ap (λ (b : FunctionBuilder _). b.position) is;
  tables = ap (λ (b : FunctionBuilder _). b.func.now.tables.jump_tables) is ∙ ap (λ (f : Body). f.tables.jump_tables) alone.function;
  current = current;
}
  where
    stays : (other : ℕ) → other ≢ block → sealed_of new.ctx.now.parts.ssa other ≡ sealed_of old.ctx.now.parts.ssa other
    stays other apart =
        ap (λ (b : FunctionBuilder _). sealed_of b.ctx.now.parts.ssa other) is ∙ alone.sealed other ∙ if-no (other == block) Yes (sealed_of old.ctx.now.parts.ssa other) (ne_eqb other block apart)

-- ENDS OF BLOCKS ----------------------------------------------------------------------------------------------------------

-- a terminator was built
pub ends_by : {R : Type 0} (old new : FunctionBuilder R) (shape : InstructionData) (ty : «Type») (inst : ℕ) → is_terminator shape ≡ true → HasCurrent old → Builds old new shape ty (Ok inst) → EndsBlock {A = Unit {0}} 0 old new done
ends_by old new shape ty inst ends current builds = record {
  steps = steps_ok old new inst (tt {0}) (built_steps old new shape ty inst current builds);
  leaves = record {
    seals = λ b inside. builds.seals b;
    waits = λ b inside. ap pending_of (blocks-along builds.declares.told old.ctx.now.parts.ssa new.ctx.now.parts.ssa inst builds.declares.along b);
    fills = λ b inside other filled. builds.fills b other filled;
    position = λ b inside at. sym builds.position ∙ at;
  };
  tables = none_more old.func.now.tables.jump_tables new.func.now.tables.jump_tables None builds.grows.6;
  left = builds.left ends;
  free = builds.free ends;
}

-- nothing was built, since something failed
pub ends_failed : {A : Type 0} {R : Type 0} (count : ℕ) (old new : FunctionBuilder R) (e : BuildError) → Steps {A = A} old new (Err e) → EndsBlock {A = A} count old new (Err e)
ends_failed count old new e steps = record { steps = steps; leaves = tt; tables = tt; left = tt; free = tt }

pub ends_error : {A : Type 0} {R : Type 0} (count : ℕ) (old mid new : FunctionBuilder R) (r : Result A BuildError) (e : BuildError) (shape : InstructionData) (ty : «Type») → count_of_results mid.func.now.tables shape ≤ 1 → Went old mid → Builds mid new shape ty (Err e) → IsErrAnd r (λ y. y ≡ e)
    → EndsBlock {A = A} count old new r
ends_error {A} count old mid new (Ok a) e shape ty few went builds is = absurd is
ends_error {A} count old mid new (Err y) e shape ty few went builds is =
    subst (λ (error : BuildError). EndsBlock {A = A} count old new (Err error)) (sym is)
    (ends_failed count old new e (steps_on old mid new (tt {0}) (Err e) went.steps (refused_steps mid new shape ty e few builds)))

-- the first instruction was refused
pub ends_refused : {A : Type 0} {R : Type 0} (count : ℕ) (old new : FunctionBuilder R) (r : Result A BuildError) (e : BuildError) (shape : InstructionData) (ty : «Type») → count_of_results old.func.now.tables shape ≤ 1
    → Builds old new shape ty (Err e) → IsErrAnd r (λ y. y ≡ e) → EndsBlock {A = A} count old new r
ends_refused {A} count old new (Ok a) e shape ty few builds is = absurd is
ends_refused {A} count old new (Err y) e shape ty few builds is =
    subst (λ (error : BuildError). EndsBlock {A = A} count old new (Err error)) (sym is) (ends_failed count old new e (refused_steps old new shape ty e few builds))

-- behind a line, and with another answer
pub ends_then : {A : Type 0} {R : Type 0} (count : ℕ) (old mid new : FunctionBuilder R) (answer : A) → Went old mid → EndsBlock {A = Unit {0}} count mid new done → EndsBlock {A = A} count old new (Ok answer)
ends_then count old mid new answer went ends = record {
  steps = steps_ok old new (tt {0}) answer (steps_on old mid new (tt {0}) done went.steps ends.steps);
  leaves = leaves_on old mid new went.steps.grows.2 went.leaves ends.leaves;
  tables = ends.tables ∙ ap (λ tables. tables ++ replicate count None) went.tables;
  left = ends.left;
  free = ends.free;
}

-- a comparison with a constant was built
pub with_constant_went : {R : Type 0} (old new : FunctionBuilder R) (shape : ℕ → InstructionData) (imm : ℤ) (like : ℕ) (ty : «Type») (v : ℕ) → BuildsWithConstant BuildsValue BuildsLike shape ty imm like old new (Ok v) → Went old new
with_constant_went old new shape imm like ty v (inl (mid, constant, first, next)) = went_then old mid new (constant_went old mid imm ty constant first) (value_went mid new (shape constant) _ v next)
with_constant_went old new shape imm like ty v (inr (e, first, failed)) = cc

-- IN PLACE ----------------------------------------------------------------------------------------------------------------

pub went_stays : {A : Type 0} {R : Type 0} (old new : FunctionBuilder R) (answer : A) → Went old new → StaysHere old new (Ok answer)
went_stays old new answer went = record {
  steps = steps_ok old new (tt {0}) answer went.steps;
  leaves = went.leaves;
  tables = none_more old.func.now.tables.jump_tables new.func.now.tables.jump_tables None went.tables;
  position = went.position;
  current = went.current;
}

pub stays_went : {A : Type 0} {R : Type 0} (old new : FunctionBuilder R) (answer : A) → StaysHere old new (Ok answer) → Went old new
stays_went old new answer stays = record {
  steps = steps_ok old new answer (tt {0}) stays.steps;
  position = stays.position;
  leaves = stays.leaves;
  tables = stays.tables ∙ append-nil old.func.now.tables.jump_tables;
  current = stays.current;
}

pub stays_failed : {A : Type 0} {R : Type 0} (old new : FunctionBuilder R) (e : BuildError) → Steps {A = A} old new (Err e) → StaysHere {A = A} old new (Err e)
stays_failed old new e steps = record { steps = steps; leaves = tt; tables = tt; position = tt; current = tt }

-- memory was refused behind a line
pub refused_then : {A : Type 0} {R : Type 0} (old mid new : FunctionBuilder R) (e : BuildError) (shape : InstructionData) (ty : «Type») → count_of_results mid.func.now.tables shape ≤ 1 → Went old mid → Builds mid new shape ty (Err e)
    → Steps {A = A} old new (Err e)
refused_then old mid new e shape ty few went builds = steps_on old mid new (tt {0}) (Err e) went.steps (refused_steps mid new shape ty e few builds)
