-- What building an instruction makes of a builder.
use Rattle.std.proofs.Common.{◌≡◌, ◌≢◌, ◌<◌, ◌≤◌, ◌+◌, ◌==◌, ℕ, List, [], ◌∷◌, refl, sym, ◌∙◌, ap, ap₂, arith, subst}
use Rattle.std.proofs.lemmas.Bool.{eq-eqb, ne_eqb}
use Rattle.std.specs.Prelude.{All, Bool, true, false, if◌then◌else◌, is_err, get_or, map, slice_index, OnOk, Option, None, Some, IfSome, IfOk, Result, Ok, Err, length}
use Rattle.std.specs.List.{range_with_len}
use Rattle.clif_types.specs.declared.error.BuildError.{BuildError}
use Rattle.clif_types.specs.declared.error.BuildError.TheVariants.{Full, Failed}
use Rattle.clif_types.specs.declared.types.«Type».{«Type»}
use Rattle.clif_instructions.specs.declared.instructions.InstructionData.{InstructionData}
use Rattle.clif_ir.specs.Body.{inst_at, value_at}
use Rattle.clif_ir.specs.Changes.{HasNoRoom, inserted_in}
use Rattle.clif_ir.proofs.Changes.{no_room_few}
use Rattle.clif_ir.proofs.KeepsInst.{length-types_of_results}
use Rattle.clif_ir.specs.Consistent.{IsConsistent}
use Rattle.clif_instructions.specs.Instruction.{destinations, is_branch, is_call, is_terminator, operands, result_type_of}
use Rattle.clif_inst_builder.proofs.NoCalls.{plain_types}
use Rattle.clif_tables.specs.Callees.{count_of_results, types_of_results}
use Rattle.clif_tables.specs.Lists.{TableLists}
use Rattle.clif_instructions.specs.Edges.{targets}
use Rattle.clif_ssa.specs.Ssa.{SealedStays, SsaState}
use Rattle.clif_ssa.specs.Structure.{LooksOnce}
use Rattle.clif_records.specs.Tables.{is_yes}
use Rattle.clif_builder.specs.declared.context.BlockStatus.TheVariants.{Filled}
use Rattle.clif_builder.specs.Context.{SameVariables, begun, status_of}
use Rattle.clif_builder.specs.declared.builder.FunctionBuilder.{FunctionBuilder}
use Rattle.clif_builder.specs.Builder.{Appends, AppendsPair, AppendsValue, CanLead, FillsCurrent, HasCurrent, IsLeft, SameLoans, status_after}
use Rattle.clif_builder.specs.Built.{Builds, BuildsPair, BuildsValue, StaysIfFull, after_build, numbers_of, numbers_with, numbers_with_pair}
use Rattle.clif_builder.specs.Construction.{IsDeclared}
use Rattle.clif_meaning.specs.Instruction.{Instruction}
use Rattle.clif_meaning.specs.Name.{Name}
use Rattle.clif_meaning.specs.Request.{AnsweredCall, GivenEntry}
use Rattle.clif_builder.specs.Ledger.{AgreesWithLedger, HasShape, LedgerAgrees, ledger_of}
use Rattle.clif_builder.specs.StandsFor.{StandsFor, StandsIn}
use Rattle.clif_simulation.proofs.Places.{range_count}
use Rattle.clif_builder.proofs.Framed.{appended-typed, appended-types, appended-types-of, left-free}
use Rattle.clif_builder.proofs.Growing.{append_exists, append_grows, appended_range, appends_pair, appends_value, at_current, current_appended, current_results, fills_none_begun, on_ok_step, status_after_none, values-inserted}
use Rattle.clif_builder.proofs.LedgerLeads.{blocks-along}
use Rattle.clif_builder.proofs.LedgerLists.{if-no, if-yes}
use Rattle.clif_builder.proofs.LedgerShaped.{current-is, ledger-shaped}
use Rattle.clif_builder.proofs.Remembered.{remembers_appended}
use Rattle.clif_builder.proofs.Standing.{current_exists, current_open}
use Rattle.clif_builder.proofs.StandingShaped.{stands_shaped}

-- the branches that are declared seal no block
declared-seals : {E : Type 0} (r : Result ℕ E) (s t : SsaState) (targets : List ℕ) → IfOk r (λ inst. IsDeclared s inst targets t) → OnOk r (SealedStays s t)
declared-seals (Err e) s t targets declares = tt
declared-seals (Ok inst) s t targets declares = λ b. ap is_yes (blocks-along declares.told s t inst declares.along b)

-- which blocks are filled when an instruction was appended to the current one
appended-fills : {R : Type 0} (r : Result ℕ BuildError) (old new : FunctionBuilder R) (block : ℕ) (shape : InstructionData) (ty : «Type») → old.position ≡ Some block → IfOk r (Appends old new block shape ty)
    → OnOk r (FillsCurrent old new)
appended-fills (Err e) old new block shape ty at appends = tt
appended-fills (Ok inst) old new block shape ty at appends = λ b other filled.
    let apart : b ≢ block = λ same. other (at ∙ ap Some (sym same)) in
    sym (appends.status b ∙ if-no (b == block) (status_after shape (status_of old.ctx.now.parts block)) (status_of old.ctx.now.parts b) (ne_eqb b block apart)) ∙ filled

appended-left : {R : Type 0} (r : Result ℕ BuildError) (old new : FunctionBuilder R) (block : ℕ) (shape : InstructionData) (ty : «Type») → old.position ≡ Some block → new.position ≡ old.position
    → is_terminator shape ≡ true → IfOk r (Appends old new block shape ty) → OnOk r (IsLeft new)
appended-left (Err e) old new block shape ty at position ends appends = tt
appended-left (Ok inst) old new block shape ty at position ends appends = record {
  filled = subst (λ (o : Option ℕ). IfSome o (λ b. status_of new.ctx.now.parts b ≡ Filled)) (sym (position ∙ at))
      (appends.status block ∙ if-yes (block == block) (status_after shape (status_of old.ctx.now.parts block)) (status_of old.ctx.now.parts block) (eq-eqb block block refl)
      ∙ ap (λ (t : Bool). if t then Filled else begun (status_of old.ctx.now.parts block)) ends);
}

-- how many results it has
appended-count : {R : Type 0} (r : Result ℕ BuildError) (old new : FunctionBuilder R) (block : ℕ) (shape : InstructionData) (ty : «Type») → IfOk r (Appends old new block shape ty)
    → IfOk r (λ inst. length (inst_at new.func.now inst).results ≡ count_of_results old.func.now.tables shape)
appended-count (Err e) old new block shape ty appends = tt
appended-count (Ok inst) old new block shape ty appends =
    ap (λ (xs : List ℕ). length xs) (appended_range _ old.func.now old.ctx.now.parts new.func.now new.ctx.now.parts block shape ty inst appends)
    ∙ range_count (length (inserted_in old.func.now block).values) (length (types_of_results old.func.now.tables shape ty)) ∙ length-types_of_results old.func.now.tables shape ty

-- an instruction was appended to the current block, or that was refused
module _ {R : Type 0} (old new : FunctionBuilder R) (shape : InstructionData) (ty : «Type») (block : ℕ) (r : Result ℕ BuildError)
    (sound : old.failed ≡ false) (current : HasCurrent old) (at : old.position ≡ Some block) (consistent : IsConsistent old.func.now)
    (operands_exist : All (λ value. value < length old.func.now.values) (operands shape)) (edges : All (CanLead old) (destinations shape)) (loans : SameLoans old new) (position : new.position ≡ old.position) (srcloc : new.srcloc ≡ old.srcloc)
    (fails : new.failed ≡ is_err r) (appends : IfOk r (Appends old new block shape ty))
    (declares : IfOk r (λ inst. IsDeclared old.ctx.now.parts.ssa inst (targets (destinations shape)) new.ctx.now.parts.ssa))
    (ssa : is_branch shape ≡ false → new.ctx.now.parts.ssa ≡ old.ctx.now.parts.ssa) (variables : SameVariables old.ctx.now.parts new.ctx.now.parts)
    (full : r ≡ Err Full → HasNoRoom old.func.now (count_of_results old.func.now.tables shape)) (full_stays : StaysIfFull old new r) (never_failed : r ≢ Err Failed) (looks_once : LooksOnce old.ctx.now.parts.ssa → LooksOnce new.ctx.now.parts.ssa) where
  appends_at : IfSome old.position (λ block. IfOk r (Appends old new block shape ty))
  appends_at = subst (λ (o : Option ℕ). IfSome o (λ b. IfOk r (Appends old new b shape ty))) (sym at) appends

  -- the calls after it, on a builder of these parts
  abbrev Agrees : List AnsweredCall → List GivenEntry → Instruction Name Name → Option ℕ → Type 0
  Agrees calls entries instruction position =
      IfOk r (λ inst. LedgerAgrees (after_build calls entries instruction (numbers_of new inst))
      (ledger_of (after_build calls entries instruction (numbers_of new inst))) new.func.now new.ctx.now.parts position)

  agrees_after : (calls : List AnsweredCall) (entries : List GivenEntry) (instruction : Instruction Name Name) → AgreesWithLedger calls old
      → HasShape calls old.func.now instruction shape ty → Agrees calls entries instruction old.position
  agrees_after calls entries instruction agrees has =
      ledger-shaped _ calls old.func.now new.func.now old.ctx.now.parts new.ctx.now.parts old.position block entries instruction shape ty r agrees at
      (current-is old current block at) consistent has edges appends declares ssa variables

  pub builds_appended : Builds old new shape ty r
  builds_appended =
      record {
        loans = loans;
        appends = appends_at;
        declares = declares;
        ssa = ssa;
        variables = variables.0;
        position = position;
        srcloc = srcloc;
        full = full;
        full_table = λ few is. no_room_few old.func.now (count_of_results old.func.now.tables shape) consistent.values_fit few (full is);
        full_stays = full_stays;
        failed = (λ is. absurd (never_failed is), λ failed. let no_way : ⊥ = cc in absurd no_way);
        unchanged = λ failed. let no_way : ⊥ = cc in absurd no_way;
        fails = fails;
        looks_once = looks_once;
        ledger = λ calls entries instruction agrees has.
            subst (Agrees calls entries instruction) (sym position) (agrees_after calls entries instruction agrees has);
        stands = λ signature calls entries instruction stands has.
            subst (λ (o : Option ℕ). IfOk r (λ inst. StandsIn signature (after_build calls entries instruction (numbers_of new inst)) new.func.now new.ctx.now.parts o))
            (sym position)
            (stands_shaped _ signature calls old.func.now new.func.now old.ctx.now.parts new.ctx.now.parts old.position entries instruction shape ty r block
            stands consistent has (λ k below. operands_exist k 0 below) at (current_exists old current block at) (current_open old current block at) appends edges declares ssa
            (agrees_after calls entries instruction stands.ledger has));
        exists = append_exists _ r old.func.now old.ctx.now.parts new.func.now new.ctx.now.parts block shape ty appends;
        results = appended-count r old new block shape ty appends;
        grows = append_grows _ r old.func.now old.ctx.now.parts new.func.now new.ctx.now.parts block shape ty appends;
        remembers = λ v b.
            remembers_appended _ r v b old.func.now new.func.now old.ctx.now.parts new.ctx.now.parts block shape ty consistent appends declares;
        current = λ goes_on. current_appended r old new shape ty current position appends_at goes_on;
        types = appended-types _ r old.func.now old.ctx.now.parts new.func.now new.ctx.now.parts block shape ty appends;
        seals = declared-seals r old.ctx.now.parts.ssa new.ctx.now.parts.ssa (targets (destinations shape)) declares;
        fills = appended-fills r old new block shape ty at appends;
        left = λ ends. appended-left r old new block shape ty at position ends appends;
        free = λ ends. on_ok_step r _ _ (λ (left : IsLeft new). left-free new.position new.func.now new.ctx.now.parts left.filled) (appended-left r old new block shape ty at position ends appends);
      }

-- a result of these was refused
none_appended : {A : Type 0} (o : Option ℕ) (P : ℕ → A → Type 0) (e : BuildError) → IfSome o (λ block. IfOk (Err e) (P block))
none_appended None P e = tt
none_appended (Some block) P e = tt

counted_one : (tables : TableLists) (shape : InstructionData) (ty : «Type») → types_of_results tables shape ty ≡ result_type_of shape ty ∷ [] → count_of_results tables shape ≡ 1
counted_one tables shape ty one = sym (length-types_of_results tables shape ty) ∙ ap (λ (ts : List «Type»). length ts) one

pub builds_value_refused : {R : Type 0} (old new : FunctionBuilder R) (shape : InstructionData) (ty : «Type») (e : BuildError) → is_branch shape ≡ false → types_of_results old.func.now.tables shape ty ≡ result_type_of shape ty ∷ []
    → Builds old new shape ty (Err e) → BuildsValue old new shape ty (Err e)
builds_value_refused old new shape ty e no_branch one built =
    let single : count_of_results old.func.now.tables shape ≡ 1 = counted_one old.func.now.tables shape ty one in
    record {
      loans = built.loans;
      appends = none_appended old.position (λ block value. AppendsValue old new block shape ty value) e;
      ssa = built.ssa no_branch;
      variables = built.variables;
      position = built.position;
      srcloc = built.srcloc;
      full = built.full_table (omega (arith, single));
      full_stays = built.full_stays;
      failed = built.failed;
      unchanged = built.unchanged;
      fails = built.fails;
      looks_once = built.looks_once;
      ledger = λ calls entries instruction agrees has. tt;
      stands = λ signature calls entries instruction stands has. tt;
      exists = tt;
      one_result = single;
      grows = tt;
      remembers = λ v b. tt;
      current = tt;
      types = tt;
      typed = tt;
      fills = tt;
    }

pub builds_pair_refused : {R : Type 0} (old new : FunctionBuilder R) (shape : InstructionData) (ty : «Type») (e : BuildError) → is_branch shape ≡ false → count_of_results old.func.now.tables shape ≡ 2
    → Builds old new shape ty (Err e) → BuildsPair old new shape ty (Err e)
builds_pair_refused old new shape ty e no_branch two built =
    record {
      loans = built.loans;
      appends = none_appended old.position (λ block pair. AppendsPair old new block shape ty pair) e;
      ssa = built.ssa no_branch;
      variables = built.variables;
      position = built.position;
      srcloc = built.srcloc;
      full = λ is. subst (HasNoRoom old.func.now) two (built.full (ap (λ (x : BuildError). Err x) (error_is e Full is)));
      full_stays = λ is. built.full_stays (ap (λ (x : BuildError). Err x) (error_is e Full is));
      failed = (λ is. built.failed.0 (ap (λ (x : BuildError). Err x) (error_is e Failed is)), λ failed. ap (λ (x : BuildError). Err x) (number_error e Failed (built.failed.1 failed)));
      unchanged = built.unchanged;
      fails = built.fails;
      looks_once = built.looks_once;
      ledger = λ calls entries instruction agrees has. tt;
      stands = λ signature calls entries instruction stands has. tt;
      exists = tt;
      grows = tt;
      remembers = λ v b. tt;
      current = tt;
      types = tt;
      typed = tt;
      fills = tt;
    }
  where
    error_is : (a b : BuildError) → ◌≡◌ {A = Result (ℕ × ℕ) BuildError} (Err a) (Err b) → a ≡ b
    error_is a b is = cc

    number_error : (a b : BuildError) → ◌≡◌ {A = Result ℕ BuildError} (Err a) (Err b) → a ≡ b
    number_error a b is = cc

-- its result is answered
module _ {R : Type 0} (old new : FunctionBuilder R) (shape : InstructionData) (ty : «Type») (inst value : ℕ)
    (current : HasCurrent old) (built : Builds old new shape ty (Ok inst)) (no_branch : is_branch shape ≡ false)
    (one : types_of_results old.func.now.tables shape ty ≡ result_type_of shape ty ∷ []) (goes_on : is_terminator shape ≡ false) (is : value ≡ length old.func.now.values)
    (exists : value < length new.func.now.values) where
  numbers : numbers_of new inst ≡ numbers_with old value
  numbers =
      let number : inst ≡ length old.func.now.insts =
      (at_current old (λ block. Appends old new block shape ty inst) current built.appends).number in
      let results : (inst_at new.func.now inst).results ≡ value ∷ [] =
      current_results old new shape ty (result_type_of shape ty) inst current built.appends one ∙ ap (λ (v : ℕ). v ∷ []) (sym is) in
      ap (λ (i : ℕ). i ∷ (inst_at new.func.now inst).results) number ∙ ap (λ (vs : List ℕ). length old.func.now.insts ∷ vs) results

  pub builds_value : BuildsValue old new shape ty (Ok value)
  builds_value = record {
    loans = built.loans;
    appends = appends_value old new shape ty inst value built.appends is;
    ssa = built.ssa no_branch;
    variables = built.variables;
    position = built.position;
    srcloc = built.srcloc;
    full = λ full. let no_way : ⊥ = cc in absurd no_way;
    full_stays = λ full. let no_way : ⊥ = cc in absurd no_way;
    failed = (
      λ failed. let no_way : ⊥ = cc in absurd no_way,
      λ failed. let refused : ◌≡◌ {A = Result ℕ BuildError} (Ok inst) (Err Failed) = built.failed.1 failed in let no_way : ⊥ = cc in absurd no_way,
    );
    unchanged = built.unchanged;
    fails = built.fails;
    looks_once = built.looks_once;
    ledger = λ calls entries instruction agrees has.
        subst (λ (ns : List ℕ). AgreesWithLedger (after_build calls entries instruction ns) new) numbers (built.ledger calls entries instruction agrees has);
    stands = λ signature calls entries instruction stands has.
        subst (λ (ns : List ℕ). StandsFor signature (after_build calls entries instruction ns) new) numbers (built.stands signature calls entries instruction stands has);
    exists = exists;
    one_result = counted_one old.func.now.tables shape ty one;
    grows = built.grows;
    remembers = built.remembers;
    current = built.current goes_on;
    types = built.types;
    typed = appended-typed _ old.func.now old.ctx.now.parts new.func.now new.ctx.now.parts current.0 shape ty (result_type_of shape ty) inst value
        (at_current old (λ block. Appends old new block shape ty inst) current built.appends) one is;
    fills = fills_none_begun old.ctx.now.parts new.ctx.now.parts current.0 (λ b.
        (at_current old (λ block. Appends old new block shape ty inst) current built.appends).status b
        ∙ ap (λ s. if b == current.0 then s else status_of old.ctx.now.parts b) (status_after_none shape (status_of old.ctx.now.parts current.0) goes_on));
  }

-- a list of two values, and what is known of each of its values
pub two_of : (xs : List ℕ) (a b : ℕ) → length xs ≡ 2 → a ≡ get_or xs 0 a → b ≡ get_or xs 1 b → xs ≡ a ∷ b ∷ []
two_of [] a b count first second = absurd (omega (arith, count))
two_of (x ∷ []) a b count first second = absurd (omega (arith, count))
two_of (x ∷ y ∷ []) a b count first second = ap₂ (λ (m n : ℕ). m ∷ n ∷ []) (sym first) (sym second)
two_of (x ∷ y ∷ z ∷ xs) a b count first second = absurd (omega (arith, count))

pub both_below : (xs : List ℕ) (a b bound : ℕ) → xs ≡ a ∷ b ∷ [] → ((k : ℕ) → k < length xs → slice_index xs k < bound) → (a < bound) × (b < bound)
both_below xs a b bound are each =
    let here : (k : ℕ) → k < 2 → slice_index (a ∷ b ∷ []) k < bound = subst (λ (ys : List ℕ). (k : ℕ) → k < length ys → slice_index ys k < bound) are each in
    (here 0 (omega arith), here 1 (omega arith))

-- its two results are answered
module _ {R : Type 0} (old new : FunctionBuilder R) (shape : InstructionData) (ty : «Type») (inst : ℕ) (pair : ℕ × ℕ)
    (current : HasCurrent old) (built : Builds old new shape ty (Ok inst)) (no_branch : is_branch shape ≡ false)
    (no_call : is_call shape ≡ false) (two : count_of_results old.func.now.tables shape ≡ 2) (goes_on : is_terminator shape ≡ false) (are : (inst_at new.func.now inst).results ≡ pair.0 ∷ pair.1 ∷ [])
    (exist : (pair.0 < length new.func.now.values) × (pair.1 < length new.func.now.values)) where
  appended : Appends old new current.0 shape ty inst
  appended = at_current old (λ block. Appends old new block shape ty inst) current built.appends

  pair_numbers : numbers_of new inst ≡ numbers_with_pair old pair
  pair_numbers =
      ap (λ (i : ℕ). i ∷ (inst_at new.func.now inst).results) appended.number ∙ ap (λ (vs : List ℕ). length old.func.now.insts ∷ vs) are

  -- they are the next values
  next : pair.0 ∷ pair.1 ∷ [] ≡ length old.func.now.values ∷ (length old.func.now.values + 1) ∷ []
  next =
      sym are ∙ appended_range _ old.func.now old.ctx.now.parts new.func.now new.ctx.now.parts current.0 shape ty inst appended
      ∙ ap₂ range_with_len (values-inserted old.func.now current.0) (length-types_of_results old.func.now.tables shape ty ∙ two)

  first : pair.0 ≡ length old.func.now.values
  first = same pair.0 (length old.func.now.values) (pair.1 ∷ []) ((length old.func.now.values + 1) ∷ []) next
    where
      same : (a b : ℕ) (xs ys : List ℕ) → a ∷ xs ≡ b ∷ ys → a ≡ b
      same a b xs ys is = cc

  second : pair.1 ≡ length old.func.now.values + 1
  second = same pair.1 (length old.func.now.values + 1) pair.0 (length old.func.now.values) next
    where
      same : (a b x y : ℕ) → x ∷ a ∷ [] ≡ y ∷ b ∷ [] → a ≡ b
      same a b x y is = cc

  pub builds_pair : BuildsPair old new shape ty (Ok pair)
  builds_pair = record {
    loans = built.loans;
    appends = appends_pair old new shape ty inst pair built.appends first second;
    ssa = built.ssa no_branch;
    variables = built.variables;
    position = built.position;
    srcloc = built.srcloc;
    full = λ full. let no_way : ⊥ = cc in absurd no_way;
    full_stays = λ full. let no_way : ⊥ = cc in absurd no_way;
    failed = (
      λ failed. let no_way : ⊥ = cc in absurd no_way,
      λ failed. let refused : ◌≡◌ {A = Result ℕ BuildError} (Ok inst) (Err Failed) = built.failed.1 failed in let no_way : ⊥ = cc in absurd no_way,
    );
    unchanged = built.unchanged;
    fails = built.fails;
    looks_once = built.looks_once;
    ledger = λ calls entries instruction agrees has.
        subst (λ (ns : List ℕ). AgreesWithLedger (after_build calls entries instruction ns) new) pair_numbers (built.ledger calls entries instruction agrees has);
    stands = λ signature calls entries instruction stands has.
        subst (λ (ns : List ℕ). StandsFor signature (after_build calls entries instruction ns) new) pair_numbers (built.stands signature calls entries instruction stands has);
    exists = exist;
    grows = built.grows;
    remembers = built.remembers;
    current = built.current goes_on;
    types = built.types;
    typed =
        ap (map (λ (value : ℕ). (value_at new.func.now value).ty)) (sym are)
        ∙ appended-types-of _ old.func.now old.ctx.now.parts new.func.now new.ctx.now.parts current.0 shape ty inst appended
        ∙ plain_types old.func.now.tables shape ty no_call;
    fills = fills_none_begun old.ctx.now.parts new.ctx.now.parts current.0 (λ b.
        appended.status b
        ∙ ap (λ s. if b == current.0 then s else status_of old.ctx.now.parts b) (status_after_none shape (status_of old.ctx.now.parts current.0) goes_on));
  }
