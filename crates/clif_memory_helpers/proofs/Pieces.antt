-- Loads and stores of pieces, one behind another.
use Rattle.std.proofs.Common.{◌≡◌, ◌<◌, ◌+◌, ◌*◌, ℕ, zero, suc, pos, List, [], ◌∷◌, ◌++◌, length, map, take, drop, refl, sym, ◌∙◌, ap, subst, arith, add-one}
use Rattle.std.specs.Prelude.{◌≤◌, ℤ, slice_index_or, slice_set, Result, Ok, Err}
use Rattle.std.specs.List.{AllZip}
use Rattle.std.specs.Result.{IsErrAnd}
use Rattle.std.proofs.lemmas.List.{length-map, length-set, length-take-le, map_push, take_more, take_more_set}
use Rattle.clif_types.specs.MemFlags.{MemFlagsShape}
use Rattle.clif_types.specs.Signature.{SignatureShape}
use Rattle.clif_types.specs.declared.error.BuildError.{BuildError}
use Rattle.clif_types.specs.declared.types.«Type».{«Type»}
use Rattle.clif_types.specs.declared.types.«Type».TheVariants.{Invalid}
use Rattle.clif_access_plans.specs.declared.moving.Accesses.{Accesses}
use Rattle.clif_inst_builder.specs.Shapes as shapes
use Rattle.clif_meaning.specs.Instruction.{Instruction, Load, Store}
use Rattle.clif_meaning.specs.Name.{Name, answer_of}
use Rattle.clif_meaning.specs.Request.{AnsweredCall}
use Rattle.clif_meaning.specs.Sizes.{Table, made_by_script}
use Rattle.clif_builder.specs.declared.builder.FunctionBuilder.{FunctionBuilder}
use Rattle.clif_builder.specs.Adding.{instruction_makes}
use Rattle.clif_builder.specs.Builder.{HasCurrent}
use Rattle.clif_builder.specs.Built.{Builds, BuildsValue}
use Rattle.clif_builder.specs.Ledger.{NamesValue}
use Rattle.clif_builder.specs.LedgerLaws.{AsksForShape, LedgerIsReadByNumber, RequestsAskForTheirShapes}
use Rattle.clif_builder.specs.StandsFor.{StandsFor}
use Rattle.clif_builder.proofs.Adding.{adds_then, built_adds, value_adds}
use Rattle.clif_constant_calls.proofs.Standing.{asks_at, type_at}
use Rattle.clif_expansion.specs.Emission.{building}
use Rattle.clif_helper_calls.specs.Codes.{doing}
use Rattle.clif_helper_calls.specs.PieceStanding.{load_instructions, piece_names, store_instructions}
use Rattle.clif_memory_helpers.specs.Lines.{HasType, InLine, Makes, no_results, no_values, nth, one_value}
use Rattle.clif_memory_helpers.specs.Steps.{AllTyped, LoadsPieces, loads, stores}
use Rattle.clif_memory_helpers.proofs.Chains.{call_fits, inst_makes, makes_as, makes_failed, makes_push, nth_named, value_makes}
use Rattle.clif_memory_helpers.proofs.Lines.{inst_line, line_on, value_line}

-- LISTS -------------------------------------------------------------------------------------------------------------------

module _ (flags : MemFlagsShape) (ty : «Type») (bytes : ℕ) where
  -- one load more
  pub load_more : (source : Name) (number count k : ℕ) → k ≡ number + count
      → load_instructions flags ty bytes source number (suc count) ≡ load_instructions flags ty bytes source number count ++ doing (Load flags (pos (k * bytes))) ty (source ∷ []) ∷ []
  load_more source number zero k is =
      let here : number ≡ k = omega (arith, is) in
      ap (λ (j : ℕ). doing (Load flags (pos (j * bytes))) ty (source ∷ []) ∷ []) here
  load_more source number (suc count) k is =
      let later : k ≡ suc number + count = omega (arith, is) in
      ap (λ (rest : List (Instruction Name Name)). doing (Load flags (pos (number * bytes))) ty (source ∷ []) ∷ rest) (load_more source (suc number) count k later)

  pub loads_long : (source : Name) (number count : ℕ) → length (load_instructions flags ty bytes source number count) ≡ count
  loads_long source number zero = refl
  loads_long source number (suc count) = ap suc (loads_long source (suc number) count)

  -- one store more
  pub store_more : (target : Name) (number : ℕ) (names : List Name) (name : Name) (k : ℕ) → k ≡ number + length names
      → store_instructions flags ty bytes target number (names ++ name ∷ []) ≡ store_instructions flags ty bytes target number names ++ doing (Store flags (pos (k * bytes))) ty (name ∷ target ∷ []) ∷ []
  store_more target number [] name k is =
      let here : number ≡ k = omega (arith, is) in
      ap (λ (j : ℕ). doing (Store flags (pos (j * bytes))) ty (name ∷ target ∷ []) ∷ []) here
  store_more target number (n ∷ names) name k is =
      let later : k ≡ suc number + length names = omega (arith, is) in
      ap (λ (rest : List (Instruction Name Name)). doing (Store flags (pos (number * bytes))) ty (n ∷ target ∷ []) ∷ rest) (store_more target (suc number) names name k later)

pub names_more : (place count k : ℕ) → k ≡ place + count → piece_names place (suc count) ≡ piece_names place count ++ answer_of k 1 ∷ []
names_more place zero k is = let here : place ≡ k = omega (arith, is) in ap (λ (j : ℕ). answer_of j 1 ∷ []) here
names_more place (suc count) k is =
    let later : k ≡ suc place + count = omega (arith, is) in
    ap (λ (rest : List Name). answer_of place 1 ∷ rest) (names_more (suc place) count k later)

-- SIZES -------------------------------------------------------------------------------------------------------------------

module _ (flags : MemFlagsShape) (ty : «Type») (bytes : ℕ) where
  -- with some of the loads, or of the stores, there is room for one more
  loads_fit : (source : Name) (number i count : ℕ) → i < count → (table : Table)
      → made_by_script (map building (load_instructions flags ty bytes source number i)) table + instruction_makes 1 table ≤ made_by_script (map building (load_instructions flags ty bytes source number count)) table
  loads_fit source number i zero less table = absurd (omega (arith, less))
  loads_fit source number zero (suc count) less table =
      let one = call_fits 1 (building (doing (Load flags (pos (number * bytes))) ty (source ∷ []))) (map building (load_instructions flags ty bytes source (suc number) count)) (omega arith) (omega arith) table in omega (arith, one)
  loads_fit source number (suc i) (suc count) less table = let rest = loads_fit source (suc number) i count (omega (arith, less)) table in omega (arith, rest)

  stores_fit : (target : Name) (number : ℕ) (names : List Name) (i count : ℕ) → i < count → count ≤ length names → (table : Table)
      → made_by_script (map building (store_instructions flags ty bytes target number (take i names))) table + instruction_makes 0 table
      ≤ made_by_script (map building (store_instructions flags ty bytes target number (take count names))) table
  stores_fit target number names i zero less few table = absurd (omega (arith, less))
  stores_fit target number [] i (suc count) less few table = absurd (omega (arith, few))
  stores_fit target number (name ∷ names) zero (suc count) less few table =
      let one = call_fits 0 (building (doing (Store flags (pos (number * bytes))) ty (name ∷ target ∷ []))) (map building (store_instructions flags ty bytes target (suc number) (take count names))) (omega arith) (omega arith) table in omega (arith, one)
  stores_fit target number (name ∷ names) (suc i) (suc count) less few table = let rest = stores_fit target (suc number) names i count (omega (arith, less)) (omega (arith, few)) table in omega (arith, rest)

-- TYPES -------------------------------------------------------------------------------------------------------------------

type_on : {A : Type 0} {R : Type 0} (a : A) (old new : FunctionBuilder R) (value : ℕ) (ty : «Type») → InLine old new (Ok a) → HasType old value ty → HasType new value ty
type_on a old new value ty line (inside, is) = let more = line.grows.0 in (omega (arith, more, inside), line.call.types value inside ∙ is)

pub typed_on : {A : Type 0} {R : Type 0} (a : A) (old new : FunctionBuilder R) (ty : «Type») (values : List ℕ) → InLine old new (Ok a) → AllTyped old ty values → AllTyped new ty values
typed_on a old new ty [] line typed = tt
typed_on a old new ty (v ∷ values) line typed = (type_on a old new v ty line typed.0, typed_on a old new ty values line typed.1)

typed_push : {R : Type 0} (b : FunctionBuilder R) (ty : «Type») (values : List ℕ) (v : ℕ) → AllTyped b ty values → HasType b v ty → AllTyped b ty (values ++ v ∷ [])
typed_push b ty [] v typed is = (is, tt)
typed_push b ty (w ∷ values) v typed is = (typed.0, typed_push b ty values v typed.1 is)

typed_at : {R : Type 0} (b : FunctionBuilder R) (ty : «Type») (values : List ℕ) (i : ℕ) → i < length values → AllTyped b ty values → HasType b (slice_index_or values i 0) ty
typed_at b ty [] i inside typed = absurd (omega (arith, inside))
typed_at b ty (v ∷ values) zero inside typed = typed.0
typed_at b ty (v ∷ values) (suc i) inside typed = typed_at b ty values i (omega (arith, inside)) typed.1

pub typed_take : {R : Type 0} (b : FunctionBuilder R) (ty : «Type») (k : ℕ) (values : List ℕ) → AllTyped b ty values → AllTyped b ty (take k values)
typed_take b ty zero values typed = tt
typed_take b ty (suc k) [] typed = tt
typed_take b ty (suc k) (v ∷ values) typed = (typed.0, typed_take b ty k values typed.1)

-- LOOPS -------------------------------------------------------------------------------------------------------------------

module _ (reads : LedgerIsReadByNumber) (asks : RequestsAskForTheirShapes) (accesses : Accesses) (flags : MemFlagsShape) where
  abbrev ty : «Type»
  ty = accesses.ty

  abbrev bytes : ℕ
  bytes = accesses.bytes

  -- a value is loaded from the operand
  load_made : {R : Type 0} (source i v : ℕ) (mid new : FunctionBuilder R) → HasCurrent mid → BuildsValue mid new (shapes.load flags source (pos (i * bytes))) ty (Ok v)
      → Makes (source ∷ []) (λ place names. building (doing (Load flags (pos (i * bytes))) ty (nth names 0 ∷ [])) ∷ []) (λ place names. answer_of place 1 ∷ []) one_value mid new (Ok v)
  load_made source i v mid new current builds =
      value_makes (source ∷ []) mid new (shapes.load flags source (pos (i * bytes))) ty (Ok v) current
      (λ names. doing (Load flags (pos (i * bytes))) ty (nth names 0 ∷ [])) ty (λ names. refl)
      (λ signature calls names stands named.
      (asks_at reads asks signature calls mid stands).load flags ty (nth names 0) source (pos (i * bytes)) (nth_named (NamesValue calls) names (source ∷ []) 0 named (omega arith)))
      builds

  -- one more piece is loaded
  pub loads_step : {R : Type 0} (source i n v : ℕ) (loaded more : List ℕ) (old mid new : FunctionBuilder R) → n ≡ suc i → i < 4 → more ≡ slice_set loaded i v
      → LoadsPieces accesses flags source i old mid (Ok loaded) → BuildsValue mid new (shapes.load flags source (pos (i * bytes))) ty (Ok v)
      → LoadsPieces accesses flags source n old new (Ok more)
  loads_step source i n v loaded more old mid new next few is so builds =
      let current : HasCurrent mid = so.made.line.current in
      let step = load_made source i v mid new current builds in
      let put : take n more ≡ take i loaded ++ v ∷ [] =
      ap (λ (k : ℕ). take k more) (next ∙ sym (add-one i)) ∙ ap (take (i + 1)) is ∙ take_more_set loaded i v (let many = so.many in omega (arith, few, many)) in
      record {
        many = ap (λ (xs : List ℕ). length xs) is ∙ length-set loaded i v ∙ so.many;
        typed = subst (AllTyped new ty) (sym put)
            (typed_push new ty (take i loaded) v (typed_on v mid new ty (take i loaded) step.line so.typed) (builds.exists, builds.typed));
        made = makes_as old new (source ∷ []) _ _ (λ (l : List ℕ). take n l) (Ok more)
            (makes_push reads old mid new (source ∷ []) (loads accesses flags i) (λ place names. piece_names place i) (λ (l : List ℕ). take i l) loaded so.made
            (λ place names. building (doing (Load flags (pos (i * bytes))) ty (nth names 0 ∷ [])) ∷ []) (λ place names. answer_of place 1 ∷ []) one_value v more (λ (l : List ℕ). take n l) put step)
            (loads accesses flags n) (λ place names. piece_names place n) (λ place names long. (calls_are place names, names_are place names));
      }
    where
      calls_are : (place : ℕ) (names : List Name) → loads accesses flags i place names ++ building (doing (Load flags (pos (i * bytes))) ty (nth names 0 ∷ [])) ∷ [] ≡ loads accesses flags n place names
      calls_are place names =
          let here : i ≡ 0 + i = omega arith in
          sym (ap (λ (k : ℕ). map building (load_instructions flags ty bytes (nth names 0) 0 k)) next
          ∙ ap (map building) (load_more flags ty bytes (nth names 0) 0 i i here)
          ∙ map_push building (load_instructions flags ty bytes (nth names 0) 0 i) (doing (Load flags (pos (i * bytes))) ty (nth names 0 ∷ [])))

      names_are : (place : ℕ) (names : List Name) → piece_names place i ++ answer_of (place + length (loads accesses flags i place names)) 1 ∷ [] ≡ piece_names place n
      names_are place names =
          let long : length (loads accesses flags i place names) ≡ i = length-map (load_instructions flags ty bytes (nth names 0) 0 i) building ∙ loads_long flags ty bytes (nth names 0) 0 i in
          let here : place + length (loads accesses flags i place names) ≡ place + i = omega (arith, long) in
          sym (ap (piece_names place) next ∙ names_more place i _ here)

  -- one more isn't loaded
  pub loads_stopped : {R : Type 0} (source i count : ℕ) (offset : ℤ) (loaded : List ℕ) (old mid new : FunctionBuilder R) (r : Result (List ℕ) BuildError) (e : BuildError) → i < count
      → LoadsPieces accesses flags source i old mid (Ok loaded) → BuildsValue mid new (shapes.load flags source offset) ty (Err e) → IsErrAnd r (λ y. y ≡ e) → LoadsPieces accesses flags source count old new r
  loads_stopped source i count offset loaded old mid new (Ok more) e less so builds is = absurd is
  loads_stopped source i count offset loaded old mid new (Err y) e less so builds is = record {
    many = tt;
    typed = tt;
    made = makes_failed {A = ℕ} old new (source ∷ []) (loads accesses flags count) (λ place names. piece_names place count) (λ (l : List ℕ). take count l) (Err y) e
        (line_on old mid new loaded (Err e) so.made.line (value_line mid new (shapes.load flags source offset) ty (Err e) so.made.line.current builds))
        (λ place names long. adds_then (made_by_script (loads accesses flags i place names)) (instruction_makes 1) (made_by_script (loads accesses flags count place names)) old mid new loaded (Err e)
        (loads_fit flags ty bytes (nth names 0) 0 i count less) (so.made.most place names long) (value_adds mid new (shapes.load flags source offset) ty (Err e) builds)) is;
  }

  -- one more operand isn't stored
  pub stores_stopped : {R : Type 0} (target : ℕ) (values : List ℕ) (i count v : ℕ) (offset : ℤ) (old mid new : FunctionBuilder R) (r : Result (Unit {0}) BuildError) (e : BuildError) → i < count → count ≡ length values
      → Makes (target ∷ values) (stores accesses flags i) no_results no_values old mid (Ok tt) → Builds mid new (shapes.store flags v target offset) Invalid (Err e) → IsErrAnd r (λ y. y ≡ e)
      → Makes (target ∷ values) (stores accesses flags count) no_results no_values old new r
  stores_stopped target values i count v offset old mid new r e less all so builds is =
      makes_failed {A = ℕ} old new (target ∷ values) (stores accesses flags count) no_results no_values r e
      (line_on old mid new tt (Err e) so.line (inst_line mid new (shapes.store flags v target offset) Invalid (Err e) so.line.current refl refl (omega arith) builds))
      (λ place names long. adds_then (made_by_script (stores accesses flags i place names)) (instruction_makes 0) (made_by_script (stores accesses flags count place names)) old mid new tt (Err e)
      (stores_fit flags ty bytes (nth names 0) 0 (drop 1 names) i count less (enough names long)) (so.most place names long) (built_adds mid new (shapes.store flags v target offset) Invalid (Err e) so.line.current builds)) is
    where
      enough : (names : List Name) → length names ≡ suc (length values) → count ≤ length (drop 1 names)
      enough [] long = absurd (omega (arith, long))
      enough (name ∷ names) long = omega (arith, long, all)

  -- one more operand is stored
  pub stores_step : {R : Type 0} (target : ℕ) (values : List ℕ) (i n inst : ℕ) (old mid new : FunctionBuilder R) → n ≡ suc i → i < length values → AllTyped old ty values
      → Makes (target ∷ values) (stores accesses flags i) no_results no_values old mid (Ok tt)
      → Builds mid new (shapes.store flags (slice_index_or values i 0) target (pos (i * bytes))) Invalid (Ok inst)
      → Makes (target ∷ values) (stores accesses flags n) no_results no_values old new (Ok tt)
  stores_step target values i n inst old mid new next inside typed so builds =
      makes_as old new (target ∷ values) _ _ no_values (Ok tt)
      (makes_push reads old mid new (target ∷ values) (stores accesses flags i) no_results no_values tt so
      (λ place names. building (doing (Store flags (pos (i * bytes))) ty (nth names (suc i) ∷ nth names 0 ∷ [])) ∷ []) no_results (λ number. []) inst tt no_values refl
      (inst_makes (target ∷ values) mid new (shapes.store flags value target (pos (i * bytes))) Invalid (Ok inst) so.line.current
      (λ names. building (doing (Store flags (pos (i * bytes))) ty (nth names (suc i) ∷ nth names 0 ∷ []))) refl refl (omega arith) (λ names. omega arith) (λ names. omega arith) asked builds))
      (stores accesses flags n) no_results (λ place names long. (calls_are place names (ap-pred names long), refl))
    where
      value : ℕ
      value = slice_index_or values i 0

      asked : (signature : SignatureShape) (calls : List AnsweredCall) (names : List Name) → StandsFor signature calls mid → AllZip (NamesValue calls) names (target ∷ values)
          → AsksForShape calls mid.func.now (building (doing (Store flags (pos (i * bytes))) ty (nth names (suc i) ∷ nth names 0 ∷ []))) (shapes.store flags value target (pos (i * bytes))) Invalid
      asked signature calls names stands named =
          let stored : NamesValue calls (nth names (suc i)) value = nth_named (NamesValue calls) names (target ∷ values) (suc i) named (omega (arith, inside)) in
          let address : NamesValue calls (nth names 0) target = nth_named (NamesValue calls) names (target ∷ values) 0 named (omega arith) in
          subst (λ (t : «Type»). AsksForShape calls mid.func.now (building (doing (Store flags (pos (i * bytes))) t (nth names (suc i) ∷ nth names 0 ∷ []))) (shapes.store flags value target (pos (i * bytes))) Invalid)
          (type_at reads asks signature calls mid (nth names (suc i)) value stands stored ∙ (type_on tt old mid value ty so.line (typed_at old ty values i inside typed)).1)
          ((asks_at reads asks signature calls mid stands).store flags (nth names (suc i)) (nth names 0) value target (pos (i * bytes)) stored address)

      ap-pred : (names : List Name) → length names ≡ suc (length values) → (i < length (drop 1 names)) × (slice_index_or (drop 1 names) i (answer_of 0 0) ≡ nth names (suc i))
      ap-pred [] long = absurd (omega (arith, long))
      ap-pred (name ∷ names) long = (omega (arith, long, inside), refl)

      calls_are : (place : ℕ) (names : List Name) → (i < length (drop 1 names)) × (slice_index_or (drop 1 names) i (answer_of 0 0) ≡ nth names (suc i))
          → stores accesses flags i place names ++ building (doing (Store flags (pos (i * bytes))) ty (nth names (suc i) ∷ nth names 0 ∷ [])) ∷ [] ≡ stores accesses flags n place names
      calls_are place names (within, found) =
          let rest : List Name = drop 1 names in
          let long : i ≡ 0 + length (take i rest) = let is = length-take-le i rest (omega (arith, within)) in omega (arith, is) in
          sym (ap (λ (k : ℕ). map building (store_instructions flags ty bytes (nth names 0) 0 (take k rest))) (next ∙ sym (add-one i))
          ∙ ap (λ (ns : List Name). map building (store_instructions flags ty bytes (nth names 0) 0 ns)) (take_more rest i (answer_of 0 0) within ∙ ap (λ (m : Name). take i rest ++ m ∷ []) found)
          ∙ ap (map building) (store_more flags ty bytes (nth names 0) 0 (take i rest) (nth names (suc i)) i long)
          ∙ map_push building (store_instructions flags ty bytes (nth names 0) 0 (take i rest)) (doing (Store flags (pos (i * bytes))) ty (nth names (suc i) ∷ nth names 0 ∷ [])))
