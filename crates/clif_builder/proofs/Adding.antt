-- How many entries of tables calls make at most, one and then another.
use Rattle.std.proofs.Common.{◌≡◌, ◌≢◌, ◌≤◌, ◌+◌, ℕ, List, length, [], ◌∷◌, refl, sym, ◌∙◌, ap, subst, arith, length-append, Option, Some}
use Rattle.std.specs.Prelude.{IsTrue, IfSome, Result, Ok, Err, OnOk, OnErr}
use Rattle.std.specs.Result.{IsErrAnd}
use Rattle.clif_types.specs.declared.error.BuildError.{BuildError}
use Rattle.clif_types.specs.declared.error.BuildError.TheVariants.{Failed, Full, Memory}
use Rattle.clif_types.specs.declared.types.«Type».{«Type»}
use Rattle.clif_instructions.specs.declared.insert_at.InsertAt.{InsertAt}
use Rattle.clif_instructions.specs.declared.insert_at.InsertAt.TheVariants.{Back}
use Rattle.clif_instructions.specs.declared.instructions.InstructionData.{InstructionData}
use Rattle.clif_tables.specs.Callees.{count_of_results, types_of_results}
use Rattle.clif_tables.specs.Entries.{AFunction, AGlobalValue, ADynamicStackSlot, ASignature, AStackSlot, TableEntry, with_entry}
use Rattle.clif_ir.specs.Body.{Body}
use Rattle.clif_ir.specs.Changes.{inserted_in, with_inst, with_tables}
use Rattle.clif_ir.proofs.KeepsInst.{length-types_of_results}
use Rattle.clif_meaning.specs.Sizes.{Blocks, Constants, DynamicStackSlots, ExceptionTables, Functions, GlobalValues, Instructions, JumpTables, MakesAtMost, Signatures, StackSlots, Table, Values, entries_in, one_in, table_for}
use Rattle.clif_ssa.proofs.Instructions.{inst_blocks, inst_insts_more, inst_values_count}
use Rattle.clif_builder.specs.declared.builder.FunctionBuilder.{FunctionBuilder}
use Rattle.clif_builder.specs.Adding.{AddsAtMost, instruction_makes}
use Rattle.clif_builder.specs.Builder.{Appends, AppendsValue, HasCurrent, with_appended}
use Rattle.clif_builder.specs.Built.{Builds, BuildsValue, OnlyLaidOut}
use Rattle.clif_builder.specs.Calls.{IsCall}
use Rattle.clif_builder.specs.Entries.{MakesEntry}
use Rattle.clif_builder.proofs.Growing.{laid_inserted}

-- FUNCTIONS ---------------------------------------------------------------------------------------------------------------

pub makes_same : (most : Table → ℕ) (f g : Body) → g ≡ f → MakesAtMost most f g
makes_same most f g same table = let is = ap (λ (h : Body). entries_in h table) same in omega (arith, is)

pub makes_then : (a b c : Table → ℕ) (f g h : Body) → ((table : Table) → a table + b table ≤ c table) → MakesAtMost a f g → MakesAtMost b g h → MakesAtMost c f h
makes_then a b c f g h fits first next table = let sum = fits table in let one = first table in let two = next table in omega (arith, sum, one, two)

pub makes_fewer : (a b : Table → ℕ) (f g : Body) → ((table : Table) → a table ≤ b table) → MakesAtMost a f g → MakesAtMost b f g
makes_fewer a b f g fits makes table = let less = fits table in let one = makes table in omega (arith, less, one)

laid_out : (f : Body) (layout : List ℕ) (table : Table) → entries_in (record f { layout = layout }) table ≡ entries_in f table
laid_out f layout Values = refl
laid_out f layout Instructions = refl
laid_out f layout Blocks = refl
laid_out f layout Constants = refl
laid_out f layout JumpTables = refl
laid_out f layout ExceptionTables = refl
laid_out f layout StackSlots = refl
laid_out f layout DynamicStackSlots = refl
laid_out f layout GlobalValues = refl
laid_out f layout Signatures = refl
laid_out f layout Functions = refl

laid_same : (f g : Body) → OnlyLaidOut f g → (table : Table) → entries_in g table ≡ entries_in f table
laid_same f g is table = ap (λ (h : Body). entries_in h table) is ∙ laid_out f g.layout table

pub makes_laid : (most : Table → ℕ) (f g : Body) → OnlyLaidOut f g → MakesAtMost most f g
makes_laid most f g is table = let same = laid_same f g is table in omega (arith, same)

inst_makes : (f : Body) (b : ℕ) (at : InsertAt) (shape : InstructionData) (types : List «Type») (loc : ℕ) → MakesAtMost (instruction_makes (length types)) f (with_inst f b at shape types loc)
inst_makes f b at shape types loc Values = let is = inst_values_count f b at shape types loc in omega (arith, is)
inst_makes f b at shape types loc Instructions = let is = inst_insts_more f b at shape types loc in omega (arith, is)
inst_makes f b at shape types loc Blocks = let is = inst_blocks f b at shape types loc in omega (arith, is)
inst_makes f b at shape types loc Constants = omega arith
inst_makes f b at shape types loc JumpTables = omega arith
inst_makes f b at shape types loc ExceptionTables = omega arith
inst_makes f b at shape types loc StackSlots = omega arith
inst_makes f b at shape types loc DynamicStackSlots = omega arith
inst_makes f b at shape types loc GlobalValues = omega arith
inst_makes f b at shape types loc Signatures = omega arith
inst_makes f b at shape types loc Functions = omega arith

appended_makes : (f : Body) (block : ℕ) (shape : InstructionData) (ty : «Type») (place : ℕ) → MakesAtMost (instruction_makes (count_of_results f.tables shape)) f (with_appended f block shape ty place)
appended_makes f block shape ty place table =
    let same = laid_same f (inserted_in f block) (laid_inserted f block) table in
    let makes = inst_makes (inserted_in f block) block Back shape (types_of_results f.tables shape ty) place table in
    let many = ap (λ (n : ℕ). instruction_makes n table) (length-types_of_results f.tables shape ty) in
    omega (arith, same, makes, many)

-- CALLS -------------------------------------------------------------------------------------------------------------------

-- by what holds of each answer
pub adds_by : {A : Type 0} {R : Type 0} (most : Table → ℕ) (old new : FunctionBuilder R) (answer : Result A BuildError) → OnOk answer (MakesAtMost most old.func.now new.func.now)
    → (answer ≡ Err Full → MakesAtMost most old.func.now new.func.now) → (answer ≡ Err Failed → new ≡ old) → AddsAtMost most old new answer
adds_by most old new (Ok a) ok full failed some = ok
adds_by most old new (Err Memory) ok full failed some = absurd (some refl)
adds_by most old new (Err Full) ok full failed some = full refl
adds_by most old new (Err Failed) ok full failed some = makes_same most old.func.now new.func.now (ap (λ (b : FunctionBuilder _). b.func.now) (failed refl))

pub call_adds : {A : Type 0} {R : Type 0} (most : Table → ℕ) (old new : FunctionBuilder R) (answer : Result A BuildError) → IsCall old new answer → OnOk answer (MakesAtMost most old.func.now new.func.now)
    → (answer ≡ Err Full → MakesAtMost most old.func.now new.func.now) → AddsAtMost most old new answer
call_adds most old new answer call ok full = adds_by most old new answer ok full (λ is. call.unchanged (call.failed.0 is))

-- what was made so far, and nothing more
pub adds_none : {A : Type 0} {R : Type 0} (most : Table → ℕ) (b : FunctionBuilder R) (answer : Result A BuildError) → AddsAtMost most b b answer
adds_none most b answer some = makes_same most b.func.now b.func.now refl

pub adds_fewer : {A : Type 0} {R : Type 0} (a b : Table → ℕ) (old new : FunctionBuilder R) (answer : Result A BuildError) → ((table : Table) → a table ≤ b table) → AddsAtMost a old new answer → AddsAtMost b old new answer
adds_fewer a b old new answer fits adds some = makes_fewer a b old.func.now new.func.now fits (adds some)

no_memory : {A : Type 0} (a : A) → ◌≡◌ {A = Result A BuildError} (Ok a) (Err Memory) → ⊥
no_memory a same = cc

pub adds_then : {A B : Type 0} {R : Type 0} (a b c : Table → ℕ) (old mid new : FunctionBuilder R) (x : A) (answer : Result B BuildError) → ((table : Table) → a table + b table ≤ c table)
    → AddsAtMost a old mid (Ok x) → AddsAtMost b mid new answer → AddsAtMost c old new answer
adds_then a b c old mid new x answer fits first next some = makes_then a b c old.func.now mid.func.now new.func.now fits (first (no_memory x)) (next some)

-- an entry of a table is made
entry_makes : (f : Body) (entry : TableEntry) → MakesAtMost (one_in (table_for entry)) f (with_tables f (with_entry f.tables entry))
entry_makes f (AStackSlot slot) StackSlots = let is = length-append f.tables.stack_slots (slot ∷ []) in omega (arith, is)
entry_makes f (AStackSlot slot) _ = omega arith
entry_makes f (ADynamicStackSlot slot) DynamicStackSlots = let is = length-append f.tables.dynamic_stack_slots (slot ∷ []) in omega (arith, is)
entry_makes f (ADynamicStackSlot slot) _ = omega arith
entry_makes f (AGlobalValue value) GlobalValues = let is = length-append f.tables.global_values (value ∷ []) in omega (arith, is)
entry_makes f (AGlobalValue value) _ = omega arith
entry_makes f (ASignature signature) Signatures = let is = length-append f.tables.signatures (signature ∷ []) in omega (arith, is)
entry_makes f (ASignature signature) _ = omega arith
entry_makes f (AFunction function) Functions = let is = length-append f.tables.functions (function ∷ []) in omega (arith, is)
entry_makes f (AFunction function) _ = omega arith

pub entry_adds : {R : Type 0} (entry : TableEntry) (old new : FunctionBuilder R) (answer : Result ℕ BuildError) → MakesEntry entry old new answer → AddsAtMost (one_in (table_for entry)) old new answer
entry_adds entry old new answer makes = call_adds (one_in (table_for entry)) old new answer makes.call (on_ok answer makes.function) (on_full answer makes.kept)
  where
    on_ok : (r : Result ℕ BuildError) → OnOk r (new.func.now ≡ with_tables old.func.now (with_entry old.func.now.tables entry)) → OnOk r (MakesAtMost (one_in (table_for entry)) old.func.now new.func.now)
    on_ok (Ok number) is = subst (MakesAtMost (one_in (table_for entry)) old.func.now) (sym is) (entry_makes old.func.now entry)
    on_ok (Err e) is = tt

    on_full : (r : Result ℕ BuildError) → OnErr r (new.func.now ≡ old.func.now) → r ≡ Err Full → MakesAtMost (one_in (table_for entry)) old.func.now new.func.now
    on_full (Ok number) kept is = absurd (let no_way : ⊥ = cc in no_way)
    on_full (Err e) kept is = makes_same (one_in (table_for entry)) old.func.now new.func.now kept

-- another answer
pub adds_ok : {A B : Type 0} {R : Type 0} (most : Table → ℕ) (old new : FunctionBuilder R) (x : A) (y : B) → AddsAtMost most old new (Ok x) → AddsAtMost most old new (Ok y)
adds_ok most old new x y adds some = adds (no_memory x)

pub adds_err : {A B : Type 0} {R : Type 0} (most : Table → ℕ) (old new : FunctionBuilder R) (e : BuildError) (r : Result B BuildError) → IsErrAnd r (λ y. y ≡ e) → AddsAtMost {A = A} most old new (Err e) → AddsAtMost most old new r
adds_err {A} most old new e (Ok y) is adds = absurd is
adds_err {A} most old new e (Err y) is adds = λ some. adds (λ same. some (ap Err (is ∙ same_error same)))
  where
    same_error : ◌≡◌ {A = Result A BuildError} (Err e) (Err Memory) → e ≡ Memory
    same_error same = cc

-- INSTRUCTIONS ------------------------------------------------------------------------------------------------------------

module _ {R : Type 0} (old new : FunctionBuilder R) (shape : InstructionData) (ty : «Type») where
  appends_makes : (block inst : ℕ) → Appends old new block shape ty inst → MakesAtMost (instruction_makes (count_of_results old.func.now.tables shape)) old.func.now new.func.now
  appends_makes block inst appends =
      subst (MakesAtMost (instruction_makes (count_of_results old.func.now.tables shape)) old.func.now) (sym appends.function) (appended_makes old.func.now block shape ty old.srcloc)

  at_block : (block : ℕ) (P : ℕ → Type 0) → old.position ≡ Some block → IfSome old.position P → P block
  at_block block P here holds = subst (λ (o : Option ℕ). IfSome o P) here holds

  -- an instruction is built
  pub built_adds : (answer : Result ℕ BuildError) → HasCurrent old → Builds old new shape ty answer → AddsAtMost (instruction_makes (count_of_results old.func.now.tables shape)) old new answer
  built_adds answer current builds =
      adds_by (instruction_makes (count_of_results old.func.now.tables shape)) old new answer (on_ok answer builds)
      (λ is. makes_laid (instruction_makes (count_of_results old.func.now.tables shape)) old.func.now new.func.now (builds.full_stays is)) (λ is. builds.unchanged (builds.failed.0 is))
    where
      on_ok : (r : Result ℕ BuildError) → Builds old new shape ty r → OnOk r (MakesAtMost (instruction_makes (count_of_results old.func.now.tables shape)) old.func.now new.func.now)
      on_ok (Ok inst) built = appends_makes current.0 inst (at_block current.0 (λ block. Appends old new block shape ty inst) current.1 built.appends)
      on_ok (Err e) built = tt

  -- an instruction is refused
  pub refused_adds : {A : Type 0} (most : Table → ℕ) (e : BuildError) → Builds old new shape ty (Err e) → AddsAtMost {A = A} most old new (Err e)
  refused_adds {A} most e builds =
      adds_by {A = A} most old new (Err e) tt (λ is. makes_laid most old.func.now new.func.now (builds.full_stays (again Full is)))
      (λ is. builds.unchanged (builds.failed.0 (again Failed is)))
    where
      again : (y : BuildError) → ◌≡◌ {A = Result A BuildError} (Err e) (Err y) → ◌≡◌ {A = Result ℕ BuildError} (Err e) (Err y)
      again y same = cc

  -- one with a result is built
  pub value_adds : (answer : Result ℕ BuildError) → BuildsValue old new shape ty answer → AddsAtMost (instruction_makes 1) old new answer
  value_adds answer builds =
      adds_by (instruction_makes 1) old new answer (on_ok answer builds)
      (λ is. makes_laid (instruction_makes 1) old.func.now new.func.now (builds.full_stays is)) (λ is. builds.unchanged (builds.failed.0 is))
    where
      on_ok : (r : Result ℕ BuildError) → BuildsValue old new shape ty r → OnOk r (MakesAtMost (instruction_makes 1) old.func.now new.func.now)
      on_ok (Ok v) built =
          subst (λ (n : ℕ). MakesAtMost (instruction_makes n) old.func.now new.func.now) built.one_result
          (appends_makes built.current.0 (length old.func.now.insts)
          (at_block built.current.0 (λ block. AppendsValue old new block shape ty v) (sym built.position ∙ built.current.1) built.appends).0)
      on_ok (Err e) built = tt
