-- Calls that are made one behind the other in one block.
use Rattle.std.proofs.Common.{◌≡◌, ◌≤◌, ◌-◌, ◌^◌, ℕ, inl, inr, true, false, refl, sym, ◌∙◌, ap, subst, arith, pos}
use Rattle.std.specs.Prelude.{IsTrue, IfSome, length, Option, Result, Ok, Err, OnOk, OnErr}
use Rattle.std.proofs.lemmas.Option.{same_Some}
use Rattle.clif_types.specs.declared.error.BuildError.{BuildError}
use Rattle.clif_types.specs.declared.error.BuildError.TheVariants.{Failed, Full}
use Rattle.clif_types.specs.declared.types.«Type».{«Type»}
use Rattle.clif_types.specs.declared.types.«Type».TheVariants.{Invalid}
use Rattle.clif_instructions.specs.Instruction.{is_branch, is_terminator}
use Rattle.clif_instructions.specs.declared.instructions.InstructionData.{InstructionData}
use Rattle.clif_inst_builder.specs.Shapes as shapes
use Rattle.clif_ir.specs.Body.{Body}
use Rattle.clif_ir.specs.Changes.{with_tables}
use Rattle.clif_tables.specs.Callees.{count_of_results}
use Rattle.clif_tables.specs.Entries.{TableEntry, count_for, with_entry}
use Rattle.clif_tables.specs.Lists.{TableLists}
use Rattle.clif_builder.specs.declared.builder.FunctionBuilder.{FunctionBuilder}
use Rattle.clif_builder.specs.declared.context.BlockStatus.TheVariants.{Filled}
use Rattle.clif_builder.specs.Builder.{FillsCurrent, HasCurrent, IsLeft}
use Rattle.clif_builder.specs.Built.{Builds, BuildsValue, HasFullTable, OnlyLaidOut}
use Rattle.clif_builder.specs.Context.{ContextState, FillsNone, status_of}
use Rattle.clif_builder.specs.Entries.{MakesEntry}
use Rattle.clif_builder.specs.Growth.{Grows, RemembersIn, TypesStay}
use Rattle.clif_builder.specs.Keeping.{KeepsState}
use Rattle.clif_builder.proofs.Keeping.{built_keeps, built_tables, keeps_insts, keeps_none, keeps_on, value_keeps, value_tables}
use Rattle.clif_memory_helpers.specs.Lines.{HelperIsFull, ImportsAreFull, InLine, MayImport}

not_failed : {A : Type 0} (a : A) → Ok a ≡ Err Failed → ⊥
not_failed a same = cc

not_full : {A : Type 0} {P : Type 0} (a : A) → Ok a ≡ Err Full → P
not_full a same = cc

failed_not_full : {A : Type 0} {P : Type 0} → ◌≡◌ {A = Result A BuildError} (Err Failed) (Err Full) → P
failed_not_full same = cc

-- a full table is one that a helper needs
full_of : {R : Type 0} (old new : FunctionBuilder R) → HasFullTable old → OnlyLaidOut old.func.now new.func.now → HelperIsFull new
full_of old new (inl full) stays = inl (inl (ap (λ (f : Body). length f.insts) stays ∙ full))
full_of old new (inr full) stays = inl (inr (ap (λ (f : Body). length f.values) stays ∙ full))

both : {A : Type 0} (P Q R : Type 0) (r : Result A BuildError) → (P → Q → R) → P → OnOk r Q → OnOk r R
both P Q R (Ok b) make p q = make p q
both P Q R (Err e) make p q = tt

grows_on : (f g h : Body) → Grows f g → Grows g h → Grows f h
grows_on f g h first next = (
  omega (arith, first.0, next.0),
  omega (arith, first.1, next.1),
  omega (arith, first.2, next.2),
  next.3 ∙ first.3,
  next.4 ∙ first.4,
  omega (arith, first.5, next.5),
  next.6 ∙ first.6,
  λ entry here. next.7 entry (first.7 entry here),
  next.8 ∙ first.8,
)

types_on : (f g h : Body) → length f.values ≤ length g.values → TypesStay f g → TypesStay g h → TypesStay f h
types_on f g h more first next v inside = next v (omega (arith, more, inside)) ∙ first v inside

fills_on : (c d e : ContextState) → FillsNone c d → FillsNone d e → FillsNone c e
fills_on c d e first next b filled = first b (next b filled)

imports_on : (t u v : TableLists) → MayImport t u → MayImport u v → MayImport t v
imports_on t u v first next = next ∙ ap (λ (w : TableLists). record w { signatures = v.signatures; functions = v.functions }) first

-- a call behind a line
module _ {A B : Type 0} {R : Type 0} (old mid new : FunctionBuilder R) (a : A) (answer : Result B BuildError) (first : InLine old mid (Ok a)) (next : InLine mid new answer) where
  sound_between : IsTrue mid.failed → ⊥
  sound_between is = let fails : mid.failed ≡ false = first.call.fails in let true_is : mid.failed ≡ true = is in cc

  sound_before : IsTrue old.failed → ⊥
  sound_before is = not_failed a (first.call.failed.1 is)

  pub line_on : InLine old new answer
  line_on = record {
    call = record {
      loans = record { func = next.call.loans.func ∙ first.call.loans.func; ctx = next.call.loans.ctx ∙ first.call.loans.ctx; region = next.call.loans.region ∙ first.call.loans.region };
      position = next.call.position ∙ first.call.position;
      srcloc = next.call.srcloc ∙ first.call.srcloc;
      failed = (λ is. absurd (sound_between (next.call.failed.0 is)), λ is. absurd (sound_before is));
      unchanged = λ is. absurd (sound_before is);
      fails = next.call.fails;
      looks_once = λ once. next.call.looks_once (first.call.looks_once once);
      types = both (TypesStay old.func.now mid.func.now) (TypesStay mid.func.now new.func.now) (TypesStay old.func.now new.func.now) answer
          (types_on old.func.now mid.func.now new.func.now first.grows.0) first.call.types next.call.types;
      fills = both (FillsNone old.ctx.now.parts mid.ctx.now.parts) (FillsNone mid.ctx.now.parts new.ctx.now.parts) (FillsNone old.ctx.now.parts new.ctx.now.parts) answer
          (fills_on old.ctx.now.parts mid.ctx.now.parts new.ctx.now.parts) first.call.fills next.call.fills;
      left = λ is. next.call.left (first.call.left is);
      free = λ is. next.call.free (first.call.left is);
    };
    ssa = next.ssa ∙ first.ssa;
    variables = next.variables ∙ first.variables;
    grows = both (Grows old.func.now mid.func.now) (Grows mid.func.now new.func.now) (Grows old.func.now new.func.now) answer
        (grows_on old.func.now mid.func.now new.func.now) first.grows next.grows;
    keeps = both (KeepsState old mid) (KeepsState mid new) (KeepsState old new) answer (keeps_on old mid new first.grows.1 first.call.srcloc) first.keeps next.keeps;
    imports = both (MayImport old.func.now.tables mid.func.now.tables) (MayImport mid.func.now.tables new.func.now.tables) (MayImport old.func.now.tables new.func.now.tables) answer
        (imports_on old.func.now.tables mid.func.now.tables new.func.now.tables) first.imports next.imports;
    current = next.current;
    full = next.full;
  }

-- another answer of the same kind
pub line_ok : {A B : Type 0} {R : Type 0} (old new : FunctionBuilder R) (a : A) (b : B) → InLine old new (Ok a) → InLine old new (Ok b)
line_ok old new a b line = record {
  call = record {
    loans = line.call.loans;
    position = line.call.position;
    srcloc = line.call.srcloc;
    failed = (λ is. absurd (not_failed b is), λ is. absurd (not_failed a (line.call.failed.1 is)));
    unchanged = line.call.unchanged;
    fails = line.call.fails;
    looks_once = line.call.looks_once;
    types = line.call.types;
    fills = line.call.fills;
    left = line.call.left;
    free = line.call.free;
  };
  ssa = line.ssa;
  variables = line.variables;
  grows = line.grows;
  keeps = line.keeps;
  imports = line.imports;
  current = line.current;
  full = λ is. not_full b is;
}

err_is : {A : Type 0} (e y : BuildError) (r : Result A BuildError) → r ≡ Err e → r ≡ Err y → e ≡ y
err_is e y r one two = let same = sym one ∙ two in cc

pub line_err : {A B : Type 0} {R : Type 0} (old new : FunctionBuilder R) (e : BuildError) → InLine {A = A} old new (Err e) → InLine {A = B} old new (Err e)
line_err old new e line = record {
  call = record {
    loans = line.call.loans;
    position = line.call.position;
    srcloc = line.call.srcloc;
    failed = (λ is. line.call.failed.0 (ap Err (err_is e Failed _ refl is)), λ is. ap Err (err_is e Failed _ refl (line.call.failed.1 is)));
    unchanged = line.call.unchanged;
    fails = line.call.fails;
    looks_once = line.call.looks_once;
    types = tt;
    fills = tt;
    left = λ is. tt;
    free = λ is. tt;
  };
  ssa = line.ssa;
  variables = line.variables;
  grows = tt;
  keeps = tt;
  imports = tt;
  current = tt;
  full = λ is. line.full (ap Err (err_is e Full _ refl is));
}

open_left : {R : Type 0} (b : FunctionBuilder R) → HasCurrent b → IsLeft b → ⊥
open_left b (block, at, inside, unfilled) left = unfilled (subst (λ (p : Option ℕ). IfSome p (λ block. status_of b.ctx.now.parts block ≡ Filled)) at left.filled)

-- nothing was called
pub line_none : {A : Type 0} {R : Type 0} (b : FunctionBuilder R) (a : A) → b.failed ≡ false → HasCurrent b → InLine b b (Ok a)
line_none b a sound current = record {
  call = record {
    loans = record { func = refl; ctx = refl; region = refl };
    position = refl;
    srcloc = refl;
    failed = (λ is. absurd (not_failed a is), λ is. let true_is : b.failed ≡ true = is in cc);
    unchanged = λ is. refl;
    fails = sound;
    looks_once = λ once. once;
    types = λ v inside. refl;
    fills = λ block filled. filled;
    left = λ is. is;
    free = λ is. absurd (open_left b current is);
  };
  ssa = refl;
  variables = refl;
  grows = (omega arith, omega arith, omega arith, refl, refl, omega arith, refl, λ entry here. here, refl);
  keeps = keeps_none b;
  imports = refl;
  current = current;
  full = λ is. not_full a is;
}

-- a builder that failed
pub line_failed : {A : Type 0} {R : Type 0} (b : FunctionBuilder R) → b.failed ≡ true → InLine {A = A} b b (Err Failed)
line_failed b is = record {
  call = record {
    loans = record { func = refl; ctx = refl; region = refl };
    position = refl;
    srcloc = refl;
    failed = (λ same. is, λ failed. refl);
    unchanged = λ failed. refl;
    fails = is;
    looks_once = λ once. once;
    types = tt;
    fills = tt;
    left = λ left. tt;
    free = λ left. tt;
  };
  ssa = refl;
  variables = refl;
  grows = tt;
  keeps = tt;
  imports = tt;
  current = tt;
  full = λ is. failed_not_full is;
}

module _ {R : Type 0} (old new : FunctionBuilder R) (shape : InstructionData) (ty : «Type») (answer : Result ℕ BuildError) (current : HasCurrent old) where
  tables_same : new.func.now.tables ≡ old.func.now.tables → MayImport old.func.now.tables new.func.now.tables
  tables_same same = subst (MayImport old.func.now.tables) (sym same) refl

  value_kept : (r : Result ℕ BuildError) → BuildsValue old new shape ty r → OnOk r (KeepsState old new)
  value_kept (Ok v) builds = value_keeps old new shape ty current.0 current.1 v builds
  value_kept (Err e) builds = tt

  value_imports : (r : Result ℕ BuildError) → BuildsValue old new shape ty r → OnOk r (MayImport old.func.now.tables new.func.now.tables)
  value_imports (Ok v) builds = tables_same (value_tables old new shape ty current.0 current.1 v builds)
  value_imports (Err e) builds = tt

  inst_kept : (r : Result ℕ BuildError) → Builds old new shape ty r → OnOk r (KeepsState old new)
  inst_kept (Ok i) builds = built_keeps old new shape ty current.0 current.1 i builds
  inst_kept (Err e) builds = tt

  inst_imports : (r : Result ℕ BuildError) → Builds old new shape ty r → OnOk r (MayImport old.func.now.tables new.func.now.tables)
  inst_imports (Ok i) builds = tables_same (built_tables old new shape ty current.0 current.1 i builds)
  inst_imports (Err e) builds = tt

  pub value_line : BuildsValue old new shape ty answer → InLine old new answer
  value_line builds = record {
    call = record {
      loans = builds.loans;
      position = builds.position;
      srcloc = builds.srcloc;
      failed = builds.failed;
      unchanged = builds.unchanged;
      fails = builds.fails;
      looks_once = builds.looks_once;
      types = builds.types;
      fills = builds.fills;
      left = λ left. absurd (open_left old current left);
      free = λ left. absurd (open_left old current left);
    };
    ssa = builds.ssa;
    variables = builds.variables;
    grows = builds.grows;
    keeps = value_kept answer builds;
    imports = value_imports answer builds;
    current = builds.current;
    full = λ is. full_of old new (builds.full is) (builds.full_stays is);
  }

  none_filled : new.position ≡ old.position → FillsCurrent old new → HasCurrent new → FillsNone old.ctx.now.parts new.ctx.now.parts
  none_filled at fills (block, is, inside, unfilled) b filled =
      fills b (λ here. unfilled (subst (λ (k : ℕ). status_of new.ctx.now.parts k ≡ Filled) (same_Some b block (sym here ∙ sym at ∙ is)) filled)) filled

  over_two : (P Q R : Type 0) (r : Result ℕ BuildError) → (P → Q → R) → OnOk r P → OnOk r Q → OnOk r R
  over_two P Q R (Ok v) make p q = make p q
  over_two P Q R (Err e) make p q = tt

  -- an instruction that neither branches nor ends its block, and has at most one result
  pub inst_line : is_branch shape ≡ false → is_terminator shape ≡ false → count_of_results old.func.now.tables shape ≤ 1 → Builds old new shape ty answer → InLine old new answer
  inst_line stays goes few builds = record {
    call = record {
      loans = builds.loans;
      position = builds.position;
      srcloc = builds.srcloc;
      failed = builds.failed;
      unchanged = builds.unchanged;
      fails = builds.fails;
      looks_once = builds.looks_once;
      types = builds.types;
      fills = over_two (FillsCurrent old new) (HasCurrent new) (FillsNone old.ctx.now.parts new.ctx.now.parts) answer (none_filled builds.position) builds.fills (builds.current goes);
      left = λ left. absurd (open_left old current left);
      free = λ left. absurd (open_left old current left);
    };
    ssa = builds.ssa stays;
    variables = builds.variables;
    grows = builds.grows;
    keeps = inst_kept answer builds;
    imports = inst_imports answer builds;
    current = builds.current goes;
    full = λ is. full_of old new (builds.full_table few is) (builds.full_stays is);
  }

-- memory was refused
pub refused_line : {R : Type 0} (old new : FunctionBuilder R) (e : BuildError) → HasCurrent old → ((shape : InstructionData) (ty : «Type») → Builds old new shape ty (Err e))
    → InLine {A = ℕ} old new (Err e)
refused_line old new e current refused =
    inst_line old new (shapes.unary_imm (pos 0)) Invalid (Err e) current refl refl (omega arith) (refused (shapes.unary_imm (pos 0)) Invalid)

-- a signature or a function was imported
pub record IsImport (entry : TableEntry) : Type 0 where
  pub imports : (t : TableLists) → MayImport t (with_entry t entry)
  pub full : (t : TableLists) → count_for t entry ≡ 2 ^ 32 - 1 → ImportsAreFull t

pub entry_line : {R : Type 0} (entry : TableEntry) (old new : FunctionBuilder R) (answer : Result ℕ BuildError) → IsImport entry → HasCurrent old → MakesEntry entry old new answer → InLine old new answer
entry_line entry old new answer imports current makes = record {
  call = makes.call;
  ssa = ap (λ (c : ContextState). c.ssa) makes.context;
  variables = ap (λ (c : ContextState). c.variables) makes.context;
  grows = makes.grows;
  keeps = kept answer makes.function makes.remembers;
  imports = imported answer makes.function;
  current = makes.current current;
  full = λ is. filled answer makes.kept is (makes.full.0 is).1;
}
  where
    filled : (r : Result ℕ BuildError) → OnErr r (new.func.now ≡ old.func.now) → r ≡ Err Full → count_for old.func.now.tables entry ≡ 2 ^ 32 - 1 → HelperIsFull new
    filled (Ok number) kept is most = not_full number is
    filled (Err e) kept is most = inr (imports.full new.func.now.tables (ap (λ (f : Body). count_for f.tables entry) kept ∙ most))

    kept : (r : Result ℕ BuildError) → OnOk r (new.func.now ≡ with_tables old.func.now (with_entry old.func.now.tables entry)) → ((x b : ℕ) → OnOk r (RemembersIn x b old new)) → OnOk r (KeepsState old new)
    kept (Ok number) is remembers = keeps_insts old new (ap (λ (f : Body). f.insts) is) (ap (λ (c : ContextState). c.ssa.tracking) makes.context) remembers
    kept (Err e) is remembers = tt

    imported : (r : Result ℕ BuildError) → OnOk r (new.func.now ≡ with_tables old.func.now (with_entry old.func.now.tables entry)) → OnOk r (MayImport old.func.now.tables new.func.now.tables)
    imported (Ok number) is = subst (λ (f : Body). MayImport old.func.now.tables f.tables) (sym is) (imports.imports old.func.now.tables)
    imported (Err e) is = tt
