-- Copies, fills and comparisons by loads and stores: their steps, one behind the other.
use Rattle.std.proofs.Common.{◌≡◌, ◌<◌, ◌≤◌, ◌+◌, ℕ, zero, ℤ, suc, pos, List, [], ◌∷◌, ◌++◌, length, map, take, refl, sym, ◌∙◌, ap, subst, arith, add-one}
use Rattle.std.specs.Prelude.{slice_index_or, replicate, Result, Ok, Err, IfOk}
use Rattle.std.specs.List.{AllZip}
use Rattle.std.proofs.lemmas.List.{length-append, length-replicate, length-take-le, map-append, take-replicate}
use Rattle.clif_types.specs.MemFlags.{MemFlagsShape}
use Rattle.clif_types.specs.Signature.{SignatureShape}
use Rattle.clif_types.specs.declared.condcodes.IntCC.{IntCC}
use Rattle.clif_types.specs.declared.error.BuildError.{BuildError}
use Rattle.clif_types.specs.declared.types.«Type».{«Type»}
use Rattle.clif_access_plans.specs.declared.moving.Accesses.{Accesses}
use Rattle.clif_instructions.specs.Instruction.{result_type_of}
use Rattle.clif_instructions.specs.declared.instructions.InstructionData.{InstructionData}
use Rattle.clif_inst_builder.specs.Shapes as shapes
use Rattle.clif_ir.specs.Body.{value_at}
use Rattle.clif_meaning.specs.Instruction.{Compare, Iconst, Load}
use Rattle.clif_meaning.specs.Name.{Name, answer_of}
use Rattle.clif_meaning.specs.Request.{AnsweredCall}
use Rattle.clif_builder.specs.declared.builder.FunctionBuilder.{FunctionBuilder}
use Rattle.clif_builder.specs.Builder.{HasCurrent}
use Rattle.clif_builder.specs.Built.{BuildsValue}
use Rattle.clif_builder.specs.Ledger.{NamesValue}
use Rattle.clif_builder.specs.LedgerLaws.{AsksForShape, LedgerIsReadByNumber, RequestsAskForTheirShapes}
use Rattle.clif_builder.specs.StandsFor.{StandsFor}
use Rattle.clif_constant_calls.proofs.Standing.{asks_at, type_at}
use Rattle.clif_expansion.specs.Constants.{computing}
use Rattle.clif_expansion.specs.Emission.{building}
use Rattle.clif_helper_calls.specs.Codes.{doing}
use Rattle.clif_helper_calls.specs.LibraryCodes.{i8}
use Rattle.clif_helper_calls.specs.PieceStanding.{load_instructions, piece_names, store_instructions}
use Rattle.clif_memory_helpers.specs.Lines.{HasType, Makes, no_results, no_values, nth, one_value}
use Rattle.clif_memory_helpers.specs.Steps.{LoadsPieces, compared, copied, filled, loads, stores, third_result}
use Rattle.clif_memory_helpers.proofs.Chains.{makes_as, makes_from, makes_then, nth_named, value_makes}

-- OPERANDS BEHIND OTHERS --------------------------------------------------------------------------------------------------

pub front_named : (R : Name → ℕ → Type 0) (names : List Name) (xs : List ℕ) (y : ℕ) (ys : List ℕ) → AllZip R names (xs ++ y ∷ ys) → AllZip R (nth names (length xs) ∷ take (length xs) names) (y ∷ xs)
front_named R [] [] y ys all = absurd all
front_named R [] (x ∷ xs) y ys all = absurd all
front_named R (n ∷ names) [] y ys all = (all.0, tt)
front_named R (n ∷ names) (x ∷ xs) y ys all = let rest = front_named R names xs y ys all.1 in (rest.0, (all.0, rest.1))

pub same_named : (R : Name → ℕ → Type 0) (n : Name) (v count : ℕ) → R n v → AllZip R (replicate count n) (replicate count v)
same_named R n v zero named = tt
same_named R n v (suc count) named = (named, same_named R n v count named)

nth_behind : (xs : List Name) (y : Name) (ys : List Name) → nth (xs ++ y ∷ ys) (length xs) ≡ y
nth_behind [] y ys = refl
nth_behind (x ∷ xs) y ys = nth_behind xs y ys

take_front : (xs ys : List Name) → take (length xs) (xs ++ ys) ≡ xs
take_front [] ys = refl
take_front (x ∷ xs) ys = ap (λ (rest : List Name). x ∷ rest) (take_front xs ys)

take_whole : (xs : List Name) → take (length xs) xs ≡ xs
take_whole [] = refl
take_whole (x ∷ xs) = ap (λ (rest : List Name). x ∷ rest) (take_whole xs)

names_long : (place count : ℕ) → length (piece_names place count) ≡ count
names_long place zero = refl
names_long place (suc count) = ap suc (names_long (suc place) count)

-- names that are two
pub two_names : (P : List Name → Type 0) → ((a b : Name) → P (a ∷ b ∷ [])) → (names : List Name) → length names ≡ 2 → P names
two_names P each [] long = absurd (omega (arith, long))
two_names P each (a ∷ []) long = absurd (omega (arith, long))
two_names P each (a ∷ b ∷ []) long = each a b
two_names P each (a ∷ b ∷ c ∷ names) long = absurd (omega (arith, long))

pub one_name : (P : List Name → Type 0) → ((a : Name) → P (a ∷ [])) → (names : List Name) → length names ≡ 1 → P names
one_name P each [] long = absurd (omega (arith, long))
one_name P each (a ∷ []) long = each a
one_name P each (a ∷ b ∷ names) long = absurd (omega (arith, long))

-- the type of what was built
pub typed_as : {R : Type 0} (old new : FunctionBuilder R) (shape : InstructionData) (ty held : «Type») (answer : Result ℕ BuildError) → result_type_of shape ty ≡ held → BuildsValue old new shape ty answer
    → IfOk answer (λ value. HasType new value held)
typed_as old new shape ty held (Err e) is builds = tt
typed_as old new shape ty held (Ok v) is builds = (builds.exists, builds.typed ∙ is)

-- COPIES ------------------------------------------------------------------------------------------------------------------

module _ (reads : LedgerIsReadByNumber) (accesses : Accesses) (flags : MemFlagsShape) where
  abbrev count : ℕ
  count = accesses.count

  -- what was loaded is stored
  pub copy_made : {R : Type 0} (target source : ℕ) (loaded values : List ℕ) (old mid new : FunctionBuilder R) (answer : Result (Unit {0}) BuildError) → values ≡ take count loaded → length values ≡ count
      → LoadsPieces accesses flags source count old mid (Ok loaded) → Makes (target ∷ values) (stores accesses flags count) no_results no_values mid new answer
      → Makes (target ∷ source ∷ []) (copied accesses flags) no_results no_values old new answer
  copy_made target source loaded values old mid new answer is long first next =
      makes_as old new (target ∷ source ∷ []) _ _ no_values answer
      (makes_then reads old mid new (target ∷ source ∷ []) _ _ (λ (l : List ℕ). take count l) loaded
      (makes_from old mid (source ∷ []) (loads accesses flags count) (λ place names. piece_names place count) (λ (l : List ℕ). take count l) (Ok loaded) first.made
      (target ∷ source ∷ []) (λ names. nth names 1 ∷ []) (λ names two. refl)
      (λ calls names named. (nth_named (NamesValue calls) names (target ∷ source ∷ []) 1 named (omega arith), tt)))
      (λ place names. stores accesses flags count place (nth names count ∷ take count names)) (λ place names. []) no_values
      (λ place names. names_long place count ∙ sym long ∙ ap (λ (xs : List ℕ). length xs) is) answer
      (makes_from mid new (target ∷ values) (stores accesses flags count) no_results no_values answer next
      (take count loaded ++ target ∷ source ∷ []) (λ names. nth names count ∷ take count names) picked_long picked))
      (copied accesses flags) no_results (λ place names two. (two_names (IsCopied place) (each place) names two, refl))
    where
      IsCopied : ℕ → List Name → Type 0
      IsCopied place names =
          loads accesses flags count place (nth names 1 ∷ [])
          ++ stores accesses flags count (place + length (loads accesses flags count place (nth names 1 ∷ [])))
          (nth (piece_names place count ++ names) count ∷ take count (piece_names place count ++ names)) ≡ copied accesses flags place names

      picked_long : (names : List Name) → length names ≡ length (take count loaded ++ target ∷ source ∷ []) → suc (length (take count names)) ≡ suc (length values)
      picked_long names all =
          let whole = length-append (take count loaded) (target ∷ source ∷ []) in
          let front = ap (λ (xs : List ℕ). length xs) is in
          let first = length-take-le count names (omega (arith, all, whole, front, long)) in
          omega (arith, first, long)

      picked : (calls : List AnsweredCall) (names : List Name) → AllZip (NamesValue calls) names (take count loaded ++ target ∷ source ∷ [])
          → AllZip (NamesValue calls) (nth names count ∷ take count names) (target ∷ values)
      picked calls names named =
          subst (λ (k : ℕ). AllZip (NamesValue calls) (nth names k ∷ take k names) (target ∷ values)) long
          (front_named (NamesValue calls) names values target (source ∷ []) (subst (λ (vs : List ℕ). AllZip (NamesValue calls) names (vs ++ target ∷ source ∷ [])) (sym is) named))

      each : (place : ℕ) (t s : Name) → IsCopied place (t ∷ s ∷ [])
      each place t s =
          let names : List Name = piece_names place count in
          let many : length names ≡ count = names_long place count in
          ap (λ (m : Name). loads accesses flags count place (s ∷ []) ++ stores accesses flags count place (m ∷ take count (names ++ t ∷ s ∷ [])))
          (ap (nth (names ++ t ∷ s ∷ [])) (sym many) ∙ nth_behind names t (s ∷ []))
          ∙ ap (λ (ns : List Name). loads accesses flags count place (s ∷ []) ++ stores accesses flags count place (t ∷ ns))
          (ap (λ (k : ℕ). take k (names ++ t ∷ s ∷ [])) (sym many) ∙ take_front names (t ∷ s ∷ []))
          ∙ ap (λ (ns : List Name). loads accesses flags count place (s ∷ []) ++ map building (store_instructions flags accesses.ty accesses.bytes t 0 ns))
          (ap (λ (k : ℕ). take k names) (sym many) ∙ take_whole names)
          ∙ sym (map-append building (load_instructions flags accesses.ty accesses.bytes s 0 count) (store_instructions flags accesses.ty accesses.bytes t 0 names))

-- VALUES ------------------------------------------------------------------------------------------------------------------

module _ (reads : LedgerIsReadByNumber) (asks : RequestsAskForTheirShapes) where
  -- a constant
  pub iconst_made : {R : Type 0} (operands : List ℕ) (imm : ℤ) (ty : «Type») (old new : FunctionBuilder R) (answer : Result ℕ BuildError) → HasCurrent old → BuildsValue old new (shapes.unary_imm imm) ty answer
      → Makes operands (λ place names. building (computing (Iconst imm) ty []) ∷ []) (λ place names. answer_of place 1 ∷ []) one_value old new answer
  iconst_made operands imm ty old new answer current builds =
      value_makes operands old new (shapes.unary_imm imm) ty answer current (λ names. computing (Iconst imm) ty []) ty (λ names. refl)
      (λ signature calls names stands named. (asks_at reads asks signature calls old stands).iconst ty imm) builds

  -- a load from the start of what an operand points to
  pub start_loaded : {R : Type 0} (operands : List ℕ) (k source : ℕ) (flags : MemFlagsShape) (ty : «Type») (old new : FunctionBuilder R) (answer : Result ℕ BuildError) → k < length operands → slice_index_or operands k 0 ≡ source
      → HasCurrent old → BuildsValue old new (shapes.load flags source (pos 0)) ty answer
      → Makes operands (λ place names. building (doing (Load flags (pos 0)) ty (nth names k ∷ [])) ∷ []) (λ place names. answer_of place 1 ∷ []) one_value old new answer
  start_loaded operands k source flags ty old new answer inside is current builds =
      value_makes operands old new (shapes.load flags source (pos 0)) ty answer current (λ names. doing (Load flags (pos 0)) ty (nth names k ∷ [])) ty (λ names. refl)
      (λ signature calls names stands named.
      (asks_at reads asks signature calls old stands).load flags ty (nth names k) source (pos 0) (subst (NamesValue calls (nth names k)) is (nth_named (NamesValue calls) names operands k named inside)))
      builds

  -- a comparison of two operands of this type
  pub compare_made : {R : Type 0} (operands : List ℕ) (j k x y : ℕ) (condition : IntCC) (ty : «Type») (old new : FunctionBuilder R) (answer : Result ℕ BuildError) → j < length operands → k < length operands
      → slice_index_or operands j 0 ≡ x → slice_index_or operands k 0 ≡ y → HasType old x ty → HasCurrent old → BuildsValue old new (shapes.int_compare condition x y) (value_at old.func.now x).ty answer
      → Makes operands (λ place names. building (computing (Compare condition) ty (nth names j ∷ nth names k ∷ [])) ∷ []) (λ place names. answer_of place 1 ∷ []) one_value old new answer
  compare_made operands j k x y condition ty old new answer first second is_x is_y typed current builds =
      value_makes operands old new (shapes.int_compare condition x y) (value_at old.func.now x).ty answer current (λ names. computing (Compare condition) ty (nth names j ∷ nth names k ∷ [])) i8 (λ names. refl) asked builds
    where
      asked : (signature : SignatureShape) (calls : List AnsweredCall) (names : List Name) → StandsFor signature calls old → AllZip (NamesValue calls) names operands
          → AsksForShape calls old.func.now (building (computing (Compare condition) ty (nth names j ∷ nth names k ∷ []))) (shapes.int_compare condition x y) (value_at old.func.now x).ty
      asked signature calls names stands named =
          let left : NamesValue calls (nth names j) x = subst (NamesValue calls (nth names j)) is_x (nth_named (NamesValue calls) names operands j named first) in
          let right : NamesValue calls (nth names k) y = subst (NamesValue calls (nth names k)) is_y (nth_named (NamesValue calls) names operands k named second) in
          subst (λ (t : «Type»). AsksForShape calls old.func.now (building (computing (Compare condition) t (nth names j ∷ nth names k ∷ []))) (shapes.int_compare condition x y) (value_at old.func.now x).ty)
          (type_at reads asks signature calls old (nth names j) x stands left ∙ typed.1)
          ((asks_at reads asks signature calls old stands).compare condition (nth names j) (nth names k) x y left right)

  -- a constant and stores of it
  pub fill_made : {R : Type 0} (accesses : Accesses) (flags : MemFlagsShape) (imm : ℤ) (target constant : ℕ) (values : List ℕ) (old mid new : FunctionBuilder R) (answer : Result (Unit {0}) BuildError)
      → values ≡ replicate accesses.count constant → HasCurrent old → BuildsValue old mid (shapes.unary_imm imm) accesses.ty (Ok constant)
      → Makes (target ∷ values) (stores accesses flags accesses.count) no_results no_values mid new answer
      → Makes (target ∷ []) (filled accesses flags imm) no_results no_values old new answer
  fill_made accesses flags imm target constant values old mid new answer is current first next =
      makes_as old new (target ∷ []) _ _ no_values answer
      (makes_then reads old mid new (target ∷ []) _ _ one_value constant (iconst_made (target ∷ []) imm accesses.ty old mid (Ok constant) current first)
      (λ place names. stores accesses flags count place (nth names 1 ∷ replicate count (nth names 0))) (λ place names. []) no_values (λ place names. refl) answer
      (makes_from mid new (target ∷ values) (stores accesses flags count) no_results no_values answer next
      (constant ∷ target ∷ []) (λ names. nth names 1 ∷ replicate count (nth names 0)) picked_long picked))
      (filled accesses flags imm) no_results (λ place names one. (one_name (IsFilled place) (each place) names one, refl))
    where
      count : ℕ
      count = accesses.count

      picked_long : (names : List Name) → length names ≡ 2 → suc (length (replicate count (nth names 0))) ≡ suc (length values)
      picked_long names two = ap suc (length-replicate count (nth names 0) ∙ sym (length-replicate count constant) ∙ sym (ap (λ (xs : List ℕ). length xs) is))

      picked : (calls : List AnsweredCall) (names : List Name) → AllZip (NamesValue calls) names (constant ∷ target ∷ []) → AllZip (NamesValue calls) (nth names 1 ∷ replicate count (nth names 0)) (target ∷ values)
      picked calls names named = (
        nth_named (NamesValue calls) names (constant ∷ target ∷ []) 1 named (omega arith),
        subst (AllZip (NamesValue calls) (replicate count (nth names 0))) (sym is)
            (same_named (NamesValue calls) (nth names 0) constant count (nth_named (NamesValue calls) names (constant ∷ target ∷ []) 0 named (omega arith))),
      )

      IsFilled : ℕ → List Name → Type 0
      IsFilled place names =
          building (computing (Iconst imm) accesses.ty []) ∷ stores accesses flags count (place + 1) (nth (answer_of place 1 ∷ names) 1 ∷ replicate count (answer_of place 1)) ≡ filled accesses flags imm place names

      each : (place : ℕ) (t : Name) → IsFilled place (t ∷ [])
      each place t =
          let less : count ≤ count = omega arith in
          ap (λ (ns : List Name). building (computing (Iconst imm) accesses.ty []) ∷ map building (store_instructions flags accesses.ty accesses.bytes t 0 ns)) (take-replicate count count (answer_of place 1) less)

  -- two loads and a comparison
  pub loads_compared : {R : Type 0} (condition : IntCC) (ty : «Type») (left_flags right_flags : MemFlagsShape) (left right x y : ℕ) (old one two new : FunctionBuilder R) (answer : Result ℕ BuildError) → HasCurrent old
      → BuildsValue old one (shapes.load left_flags left (pos 0)) ty (Ok x) → BuildsValue one two (shapes.load right_flags right (pos 0)) ty (Ok y)
      → BuildsValue two new (shapes.int_compare condition x y) (value_at two.func.now x).ty answer
      → Makes (left ∷ right ∷ []) (compared condition ty left_flags right_flags) third_result one_value old new answer
  loads_compared condition ty left_flags right_flags left right x y old one two new answer current first second third =
      let kept : HasType two x ty = (let inside = first.exists in let more = second.grows.0 in omega (arith, inside, more), second.types x first.exists ∙ first.typed) in
      makes_as old new (left ∷ right ∷ []) _ _ one_value answer
      (makes_then reads old one new (left ∷ right ∷ []) _ _ one_value x (start_loaded (left ∷ right ∷ []) 0 left left_flags ty old one (Ok x) (omega arith) refl current first) _ _ one_value (λ place names. refl) answer
      (makes_then reads one two new (x ∷ left ∷ right ∷ []) _ _ one_value y (start_loaded (x ∷ left ∷ right ∷ []) 2 right right_flags ty one two (Ok y) (omega arith) refl first.current second) _ _ one_value (λ place names. refl) answer
      (compare_made (y ∷ x ∷ left ∷ right ∷ []) 1 0 x y condition ty two new answer (omega arith) (omega arith) refl refl kept second.current third)))
      (compared condition ty left_flags right_flags) third_result (λ place names long. two_names (AreCompared place) (each place) names long)
    where
      AreCompared : ℕ → List Name → Type 0
      AreCompared place names =
          (building (doing (Load left_flags (pos 0)) ty (nth names 0 ∷ [])) ∷ building (doing (Load right_flags (pos 0)) ty (nth (answer_of place 1 ∷ names) 2 ∷ []))
          ∷ building (computing (Compare condition) ty (answer_of place 1 ∷ answer_of (place + 1) 1 ∷ [])) ∷ [] ≡ compared condition ty left_flags right_flags place names)
          × (answer_of (place + 1 + 1) 1 ∷ [] ≡ third_result place names)

      each : (place : ℕ) (a b : Name) → AreCompared place (a ∷ b ∷ [])
      each place a b =
          let second_place : place + 1 ≡ suc place = add-one place in
          let third_place : place + 1 + 1 ≡ suc (suc place) = omega arith in (
            ap (λ (p : ℕ). building (doing (Load left_flags (pos 0)) ty (a ∷ [])) ∷ building (doing (Load right_flags (pos 0)) ty (b ∷ []))
                ∷ building (computing (Compare condition) ty (answer_of place 1 ∷ answer_of p 1 ∷ [])) ∷ []) second_place,
            ap (λ (p : ℕ). answer_of p 1 ∷ []) third_place,
          )
