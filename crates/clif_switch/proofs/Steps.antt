-- Steps one behind the other.
use Rattle.std.proofs.Common.{◌≡◌, ◌≤◌, inl, inr, ℕ, true, false, List, [], ◌∷◌, refl, sym, ◌∙◌, ap, subst, arith}
use Rattle.std.specs.Prelude.{Contains, IsTrue, length, Result, Ok, Err, OnOk}
use Rattle.std.specs.Result.{IsErrAnd}
use Rattle.clif_types.specs.declared.error.BuildError.{BuildError}
use Rattle.clif_types.specs.declared.error.BuildError.TheVariants.{Failed, Full}
use Rattle.clif_types.specs.declared.types.«Type».{«Type»}
use Rattle.clif_instructions.specs.declared.instructions.InstructionData.{InstructionData}
use Rattle.clif_ir.specs.Body.{Body}
use Rattle.clif_records.specs.Tables.{is_yes, pending_of}
use Rattle.clif_records.specs.declared.tables.Pending.{Pending}
use Rattle.clif_tables.specs.Callees.{count_of_results}
use Rattle.clif_tables.specs.Lists.{TableLists}
use Rattle.clif_ssa.specs.Pools.{SealingIsFull, types_of}
use Rattle.clif_ssa.specs.Ssa.{SsaState, sealed_of}
use Rattle.clif_builder.specs.declared.builder.FunctionBuilder.{FunctionBuilder}
use Rattle.clif_builder.specs.Builder.{HasCurrent, with_position}
use Rattle.clif_builder.specs.Built.{Builds, BuildsValue, HasFullTable, OnlyLaidOut}
use Rattle.clif_builder.specs.Calls.{IsCall}
use Rattle.clif_builder.specs.Context.{FillsNone}
use Rattle.clif_builder.specs.Growth.{Grows, GrowsBesideTables, RemembersIn, TypesStay}
use Rattle.clif_builder.specs.Keeping.{KeepsState}
use Rattle.clif_builder.proofs.Keeping.{built_keeps, built_tables, keeps_insts, keeps_none, keeps_on, value_keeps, value_tables}
use Rattle.clif_switch.specs.Emission.{MayAddJumpTables, LeavesBlocks, MayLead, Steps, SwitchIsFull}

-- GROWTH ------------------------------------------------------------------------------------------------------------------

pub beside : (f g : Body) → Grows f g → GrowsBesideTables f g
beside f g grows = (grows.0, grows.1, grows.2, grows.3, grows.4, grows.5, grows.7)

pub grows_on : (f g h : Body) → GrowsBesideTables f g → GrowsBesideTables g h → GrowsBesideTables f h
grows_on f g h first next =
    (omega (arith, first.0, next.0), omega (arith, first.1, next.1), omega (arith, first.2, next.2), next.3 ∙ first.3, next.4 ∙ first.4, omega (arith, first.5, next.5), λ entry here. next.6 entry (first.6 entry here))

pub types_on : (f g h : Body) → length f.values ≤ length g.values → TypesStay f g → TypesStay g h → TypesStay f h
types_on f g h more first next v inside = next v (omega (arith, more, inside)) ∙ first v inside

pub remembers_on : {R : Type 0} (x b : ℕ) (old mid new : FunctionBuilder R) → RemembersIn x b old mid → RemembersIn x b mid new → RemembersIn x b old new
remembers_on x b old mid new first next = record {
  recorded = λ v is. next.recorded v (first.recorded v is);
  alike = λ u v same. next.alike u v (first.alike u v same);
}

-- TABLES ------------------------------------------------------------------------------------------------------------------

adds_on : (t u v : TableLists) → MayAddJumpTables t u → MayAddJumpTables u v → MayAddJumpTables t v
adds_on t u v first next = next ∙ ap (λ (w : TableLists). record w { jump_tables = v.jump_tables }) first

pub adds_none : (t u : TableLists) → u ≡ t → MayAddJumpTables t u
adds_none t u same = subst (λ (w : TableLists). u ≡ record w { jump_tables = u.jump_tables }) same refl

-- a full table is one that a switch needs
full_of : {R : Type 0} (old new : FunctionBuilder R) → HasFullTable old → OnlyLaidOut old.func.now new.func.now → SwitchIsFull new.func.now
full_of old new (inl full) stays = inl (inr (ap (λ (f : Body). length f.insts) stays ∙ full))
full_of old new (inr full) stays = inl (inl (ap (λ (f : Body). length f.values) stays ∙ full))

-- nothing waits that needs another one
pub sealing_full : (f g : Body) (waiting : List Pending) → waiting ≡ [] → SealingIsFull (Contains (types_of f waiting)) g → SwitchIsFull g
sealing_full f g [] none (inl full) = inl full
sealing_full f g [] none (inr (ty, here, lacks)) = absurd (omega (arith, here.1))
sealing_full f g (p ∷ waiting) none full = let no_way : ⊥ = cc in absurd no_way

-- STEPS -------------------------------------------------------------------------------------------------------------------

not_failed : {A : Type 0} (a : A) → Ok a ≡ Err Failed → ⊥
not_failed a same = cc

pub not_full : {A : Type 0} {P : Type 0} (a : A) → Ok a ≡ Err Full → P
not_full a same = cc

-- a builder behind a step that succeeded hasn't failed, nor had the one before it
module _ {A B : Type 0} {R : Type 0} (old mid new : FunctionBuilder R) (a : A) (answer : Result B BuildError) (first : Steps old mid (Ok a)) (next : Steps mid new answer) where
  sound_between : IsTrue mid.failed → ⊥
  sound_between is = let fails : mid.failed ≡ false = first.fails in let true_is : mid.failed ≡ true = is in cc

  sound_before : IsTrue old.failed → ⊥
  sound_before is = not_failed a (first.failed.1 is)

  on_ok : {P : Type 0} (r : Result B BuildError) → (P) → OnOk r P
  on_ok (Ok b) p = p
  on_ok (Err e) p = tt

  both : (P Q R : Type 0) (r : Result B BuildError) → (P → Q → R) → P → OnOk r Q → OnOk r R
  both P Q R (Ok b) make p q = make p q
  both P Q R (Err e) make p q = tt

  pub steps_on : Steps old new answer
  steps_on = record {
    loans = record { func = next.loans.func ∙ first.loans.func; ctx = next.loans.ctx ∙ first.loans.ctx; region = next.loans.region ∙ first.loans.region };
    srcloc = next.srcloc ∙ first.srcloc;
    failed = (λ is. absurd (sound_between (next.failed.0 is)), λ is. absurd (sound_before is));
    unchanged = λ is. absurd (sound_before is);
    fails = next.fails;
    looks_once = λ once. next.looks_once (first.looks_once once);
    variables = next.variables ∙ first.variables;
    grows = both (GrowsBesideTables old.func.now mid.func.now) (GrowsBesideTables mid.func.now new.func.now) (GrowsBesideTables old.func.now new.func.now) answer
        (grows_on old.func.now mid.func.now new.func.now) first.grows next.grows;
    remembers = λ x b.
        both (RemembersIn x b old mid) (RemembersIn x b mid new) (RemembersIn x b old new) answer (remembers_on x b old mid new) (first.remembers x b) (next.remembers x b);
    types = both (TypesStay old.func.now mid.func.now) (TypesStay mid.func.now new.func.now) (TypesStay old.func.now new.func.now) answer
        (types_on old.func.now mid.func.now new.func.now first.grows.0) first.types next.types;
    exceptions = both (mid.func.now.tables.exception_tables ≡ old.func.now.tables.exception_tables) (new.func.now.tables.exception_tables ≡ mid.func.now.tables.exception_tables)
        (new.func.now.tables.exception_tables ≡ old.func.now.tables.exception_tables) answer (λ p q. q ∙ p) first.exceptions next.exceptions;
    keeps = both (KeepsState old mid) (KeepsState mid new) (KeepsState old new) answer (keeps_on old mid new first.grows.1 first.srcloc) first.keeps next.keeps;
    adds = both (MayAddJumpTables old.func.now.tables mid.func.now.tables) (MayAddJumpTables mid.func.now.tables new.func.now.tables) (MayAddJumpTables old.func.now.tables new.func.now.tables) answer
        (adds_on old.func.now.tables mid.func.now.tables new.func.now.tables) first.adds next.adds;
    full = next.full;
  }

-- another answer of the same kind
pub steps_ok : {A B : Type 0} {R : Type 0} (old new : FunctionBuilder R) (a : A) (b : B) → Steps old new (Ok a) → Steps old new (Ok b)
steps_ok old new a b steps = record {
  loans = steps.loans;
  srcloc = steps.srcloc;
  failed = (λ is. absurd (not_failed b is), λ is. absurd (not_failed a (steps.failed.1 is)));
  unchanged = steps.unchanged;
  fails = steps.fails;
  looks_once = steps.looks_once;
  variables = steps.variables;
  grows = steps.grows;
  remembers = steps.remembers;
  types = steps.types;
  exceptions = steps.exceptions;
  keeps = steps.keeps;
  adds = steps.adds;
  full = λ is. not_full b is;
}

err_is : {A : Type 0} (e y : BuildError) (r : Result A BuildError) → r ≡ Err e → r ≡ Err y → e ≡ y
err_is e y r one two = let same = sym one ∙ two in cc

pub steps_err : {A B : Type 0} {R : Type 0} (old new : FunctionBuilder R) (e : BuildError) → Steps {A = A} old new (Err e) → Steps {A = B} old new (Err e)
steps_err old new e steps = record {
  loans = steps.loans;
  srcloc = steps.srcloc;
  failed = (λ is. steps.failed.0 (ap Err (err_is e Failed _ refl is)), λ is. ap Err (err_is e Failed _ refl (steps.failed.1 is)));
  unchanged = steps.unchanged;
  fails = steps.fails;
  looks_once = steps.looks_once;
  variables = steps.variables;
  grows = tt;
  remembers = λ x b. tt;
  types = tt;
  exceptions = tt;
  keeps = tt;
  adds = tt;
  full = λ is. steps.full (ap Err (err_is e Full _ refl is));
}

-- nothing was called
pub steps_none : {A : Type 0} {R : Type 0} (b : FunctionBuilder R) (a : A) → b.failed ≡ false → Steps b b (Ok a)
steps_none b a sound = record {
  loans = record { func = refl; ctx = refl; region = refl };
  srcloc = refl;
  failed = (λ is. absurd (not_failed a is), λ is. let true_is : b.failed ≡ true = is in cc);
  unchanged = λ is. refl;
  fails = sound;
  looks_once = λ once. once;
  variables = refl;
  grows = (omega arith, omega arith, omega arith, refl, refl, omega arith, λ entry here. here);
  remembers = λ x c. record { recorded = λ v is. is; alike = λ u v same. same };
  types = λ v inside. refl;
  exceptions = refl;
  keeps = keeps_none b;
  adds = refl;
  full = λ is. not_full a is;
}

-- a step failed, and so did what was to be made by it
pub steps_fails : {A B : Type 0} {R : Type 0} (old new : FunctionBuilder R) (r : Result A BuildError) (e : BuildError) → Steps {A = B} old new (Err e) → IsErrAnd r (λ y. y ≡ e) → Steps {A = A} old new r
steps_fails old new (Ok a) e steps is = absurd is
steps_fails {A} old new (Err y) e steps is = subst (λ (error : BuildError). Steps {A = A} old new (Err error)) (sym is) (steps_err old new e steps)

-- another block becomes the current one
positioned : {R : Type 0} (b : FunctionBuilder R) (block : ℕ) → b.failed ≡ false → Steps {A = Unit {0}} b (with_position b block) (Ok tt)
positioned b block sound = record {
  loans = record { func = refl; ctx = refl; region = refl };
  srcloc = refl;
  failed = (λ is. absurd (not_failed (tt {0}) is), λ is. let true_is : b.failed ≡ true = is in cc);
  unchanged = λ is. absurd (let true_is : b.failed ≡ true = is in cc);
  fails = sound;
  looks_once = λ once. once;
  variables = refl;
  grows = (omega arith, omega arith, omega arith, refl, refl, omega arith, λ entry here. here);
  remembers = λ x c. record { recorded = λ v is. is; alike = λ u v same. same };
  types = λ v inside. refl;
  exceptions = refl;
  keeps = keeps_insts b (with_position b block) refl refl (λ x c. record { recorded = λ v is. is; alike = λ u v same. same });
  adds = refl;
  full = λ is. not_full (tt {0}) is;
}

pub entered_steps : {R : Type 0} (old mid new : FunctionBuilder R) (u : Unit {0}) (block : ℕ) → Steps {A = Unit {0}} old mid (Ok u) → new ≡ with_position mid block → Steps {A = Unit {0}} old new (Ok tt)
entered_steps old mid new u block first is =
    subst (λ (b : FunctionBuilder _). Steps {A = Unit {0}} old b (Ok tt)) (sym is) (steps_on old mid (with_position mid block) u (Ok tt) first (positioned mid block first.fails))

-- ONE CALL ----------------------------------------------------------------------------------------------------------------

over : {A : Type 0} (P Q : Type 0) (r : Result A BuildError) → (P → Q) → OnOk r P → OnOk r Q
over P Q (Ok a) make p = make p
over P Q (Err e) make p = tt

pub call_steps : {A : Type 0} {R : Type 0} (old new : FunctionBuilder R) (answer : Result A BuildError) → IsCall old new answer → new.ctx.now.parts.variables ≡ old.ctx.now.parts.variables
    → OnOk answer (Grows old.func.now new.func.now) → ((x b : ℕ) → OnOk answer (RemembersIn x b old new))
    → OnOk answer (KeepsState old new) → OnOk answer (MayAddJumpTables old.func.now.tables new.func.now.tables) → (answer ≡ Err Full → SwitchIsFull new.func.now) → Steps old new answer
call_steps old new answer call variables grows remembers keeps adds full = record {
  loans = call.loans;
  srcloc = call.srcloc;
  failed = call.failed;
  unchanged = call.unchanged;
  fails = call.fails;
  looks_once = call.looks_once;
  variables = variables;
  grows = over (Grows old.func.now new.func.now) (GrowsBesideTables old.func.now new.func.now) answer (beside old.func.now new.func.now) grows;
  remembers = remembers;
  types = call.types;
  exceptions = over (Grows old.func.now new.func.now) (new.func.now.tables.exception_tables ≡ old.func.now.tables.exception_tables) answer (λ g. g.8) grows;
  keeps = keeps;
  adds = adds;
  full = full;
}

builds_steps : {R : Type 0} (old new : FunctionBuilder R) (shape : InstructionData) (ty : «Type») (answer : Result ℕ BuildError) → Builds old new shape ty answer
    → OnOk answer (KeepsState old new) → OnOk answer (MayAddJumpTables old.func.now.tables new.func.now.tables) → (answer ≡ Err Full → SwitchIsFull new.func.now) → Steps old new answer
builds_steps old new shape ty answer builds keeps adds full = record {
  loans = builds.loans;
  srcloc = builds.srcloc;
  failed = builds.failed;
  unchanged = builds.unchanged;
  fails = builds.fails;
  looks_once = builds.looks_once;
  variables = builds.variables;
  grows = over (Grows old.func.now new.func.now) (GrowsBesideTables old.func.now new.func.now) answer (beside old.func.now new.func.now) builds.grows;
  remembers = builds.remembers;
  types = builds.types;
  exceptions = over (Grows old.func.now new.func.now) (new.func.now.tables.exception_tables ≡ old.func.now.tables.exception_tables) answer (λ g. g.8) builds.grows;
  keeps = keeps;
  adds = adds;
  full = full;
}

-- an instruction was built
pub built_steps : {R : Type 0} (old new : FunctionBuilder R) (shape : InstructionData) (ty : «Type») (inst : ℕ) → HasCurrent old → Builds old new shape ty (Ok inst) → Steps old new (Ok inst)
built_steps old new shape ty inst current builds =
    builds_steps old new shape ty (Ok inst) builds (built_keeps old new shape ty current.0 current.1 inst builds)
    (adds_none old.func.now.tables new.func.now.tables (built_tables old new shape ty current.0 current.1 inst builds)) (λ is. not_full inst is)

-- one that has at most one result was refused
pub refused_steps : {A : Type 0} {R : Type 0} (old new : FunctionBuilder R) (shape : InstructionData) (ty : «Type») (e : BuildError) → count_of_results old.func.now.tables shape ≤ 1 → Builds old new shape ty (Err e)
    → Steps {A = A} old new (Err e)
refused_steps old new shape ty e few builds =
    steps_err old new e (builds_steps old new shape ty (Err e) builds tt tt (λ is. full_of old new (builds.full_table few is) (builds.full_stays is)))

pub value_steps : {R : Type 0} (old new : FunctionBuilder R) (shape : InstructionData) (ty : «Type») (answer : Result ℕ BuildError) → BuildsValue old new shape ty answer → Steps old new answer
value_steps old new shape ty answer builds = record {
  loans = builds.loans;
  srcloc = builds.srcloc;
  failed = builds.failed;
  unchanged = builds.unchanged;
  fails = builds.fails;
  looks_once = builds.looks_once;
  variables = builds.variables;
  grows = over (Grows old.func.now new.func.now) (GrowsBesideTables old.func.now new.func.now) answer (beside old.func.now new.func.now) builds.grows;
  remembers = builds.remembers;
  types = builds.types;
  exceptions = over (Grows old.func.now new.func.now) (new.func.now.tables.exception_tables ≡ old.func.now.tables.exception_tables) answer (λ g. g.8) builds.grows;
  keeps = kept answer builds;
  adds = added answer builds;
  full = λ is. full_of old new (builds.full is) (builds.full_stays is);
}
  where
    kept : (r : Result ℕ BuildError) → BuildsValue old new shape ty r → OnOk r (KeepsState old new)
    kept (Ok v) built = value_keeps old new shape ty built.current.0 (sym built.position ∙ built.current.1) v built
    kept (Err e) built = tt

    added : (r : Result ℕ BuildError) → BuildsValue old new shape ty r → OnOk r (MayAddJumpTables old.func.now.tables new.func.now.tables)
    added (Ok v) built = adds_none old.func.now.tables new.func.now.tables (value_tables old new shape ty built.current.0 (sym built.position ∙ built.current.1) v built)
    added (Err e) built = tt

-- BLOCKS ------------------------------------------------------------------------------------------------------------------

-- where seals stay and no block is filled
pub leaves_all : {R : Type 0} (old new : FunctionBuilder R) → new.ctx.now.parts.ssa ≡ old.ctx.now.parts.ssa → new.position ≡ old.position → FillsNone old.ctx.now.parts new.ctx.now.parts → LeavesBlocks old new
leaves_all old new same here fills = record {
  seals = λ block inside. ap (λ (s : SsaState). is_yes (sealed_of s block)) same;
  waits = λ block inside. ap (λ (s : SsaState). pending_of (sealed_of s block)) same;
  fills = λ block inside other filled. fills block filled;
  position = λ block inside at. sym here ∙ at;
}

pub leaves_on : {R : Type 0} (old mid new : FunctionBuilder R) → length old.func.now.blocks ≤ length mid.func.now.blocks → LeavesBlocks old mid → LeavesBlocks mid new → LeavesBlocks old new
leaves_on old mid new more first next = record {
  seals = λ block inside. next.seals block (omega (arith, more, inside)) ∙ first.seals block inside;
  waits = λ block inside. next.waits block (omega (arith, more, inside)) ∙ first.waits block inside;
  fills = λ block inside other filled.
      first.fills block inside other (next.fills block (omega (arith, more, inside)) (λ is. other (first.position block inside is)) filled);
  position = λ block inside at. first.position block inside (next.position block (omega (arith, more, inside)) at);
}

pub may_lead_on : {R : Type 0} (old new : FunctionBuilder R) (block : ℕ) → length old.func.now.blocks ≤ length new.func.now.blocks → LeavesBlocks old new → MayLead old block → MayLead new block
may_lead_on old new block more leaves may = record {
  exists = let inside = may.exists in omega (arith, more, inside);
  unsealed = leaves.seals block may.exists ∙ may.unsealed;
}
