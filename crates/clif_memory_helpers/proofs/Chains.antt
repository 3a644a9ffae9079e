-- What calls in a line make, one behind the other.
use Rattle.std.proofs.Common.{◌≡◌, ◌<◌, ◌≤◌, ◌+◌, ℕ, zero, suc, false, List, [], ◌∷◌, ◌++◌, length, map, refl, sym, ◌∙◌, ap, ap₂, subst, arith, append_assoc, append-nil, Some}
use Rattle.std.specs.Prelude.{is_some, option_and_then, slice_get, slice_index_or, Result, Ok, Err, IfOk}
use Rattle.std.specs.List.{AllZip}
use Rattle.std.specs.Result.{IsErrAnd}
use Rattle.std.proofs.lemmas.List.{length-append, map-append}
use Rattle.std.proofs.lemmas.Slice.Zip.{AllZip-long}
use Rattle.clif_types.specs.Signature.{SignatureShape}
use Rattle.clif_types.specs.declared.error.BuildError.{BuildError}
use Rattle.clif_types.specs.declared.types.«Type».{«Type»}
use Rattle.clif_instructions.specs.Instruction.{is_branch, is_terminator}
use Rattle.clif_instructions.specs.declared.instructions.InstructionData.{InstructionData}
use Rattle.clif_tables.specs.Callees.{count_of_results}
use Rattle.clif_tables.specs.Entries.{TableEntry}
use Rattle.clif_meaning.specs.Instruction.{Instruction}
use Rattle.clif_meaning.specs.Ledger.{AValue, answers_to, value_answer_type}
use Rattle.clif_meaning.specs.Name.{Name, answer_of}
use Rattle.clif_meaning.specs.Request.{AnsweredCall, MakeEntry, Request, Script, script_of}
use Rattle.clif_meaning.specs.Sizes.{Instructions, Table, Values, made_by, made_by_script, one_in, table_for}
use Rattle.clif_simulation.proofs.LedgerValues.{type_new}
use Rattle.clif_builder.specs.declared.builder.FunctionBuilder.{FunctionBuilder}
use Rattle.clif_builder.specs.Adding.{AddsAtMost, instruction_makes}
use Rattle.clif_builder.specs.Builder.{HasCurrent}
use Rattle.clif_builder.specs.Built.{Builds, BuildsValue, numbers_of, numbers_with}
use Rattle.clif_builder.specs.Calls.{answered}
use Rattle.clif_builder.specs.Entries.{MakesEntry}
use Rattle.clif_builder.specs.Ledger.{NamesValue, ledger_of}
use Rattle.clif_builder.specs.LedgerLaws.{AsksForShape, LedgerIsReadByNumber}
use Rattle.clif_builder.specs.StandsFor.{StandsFor}
use Rattle.clif_builder.proofs.Adding.{adds_err, adds_fewer, adds_none, adds_ok, adds_then, built_adds, entry_adds, value_adds}
use Rattle.clif_builder.proofs.Lasting.{value-stays}
use Rattle.clif_constant_calls.proofs.Standing.{stands_on}
use Rattle.clif_expansion.specs.Emission.{building}
use Rattle.clif_expansion.specs.ScriptCall.{emitted_types}
use Rattle.clif_memory_helpers.specs.Lines.{InLine, Makes, Requests, Results, StandsOn, no_results, nth, one_value}
use Rattle.clif_memory_helpers.proofs.Lines.{IsImport, entry_line, inst_line, line_err, line_none, line_ok, line_on, value_line}

-- LISTS -------------------------------------------------------------------------------------------------------------------

pub zip_both : {A B : Type 0} (R : A → B → Type 0) (xs ys : List A) (vs ws : List B) → AllZip R xs vs → AllZip R ys ws → AllZip R (xs ++ ys) (vs ++ ws)
zip_both R [] ys [] ws one two = two
zip_both R [] ys (v ∷ vs) ws one two = absurd one
zip_both R (x ∷ xs) ys [] ws one two = absurd one
zip_both R (x ∷ xs) ys (v ∷ vs) ws one two = (one.0, zip_both R xs ys vs ws one.1 two)

-- the operand with this number
pub nth_named : (R : Name → ℕ → Type 0) (names : List Name) (values : List ℕ) (k : ℕ) → AllZip R names values → k < length values → R (nth names k) (slice_index_or values k 0)
nth_named R [] [] k all inside = absurd (omega (arith, inside))
nth_named R [] (v ∷ values) k all inside = absurd all
nth_named R (n ∷ names) [] k all inside = absurd all
nth_named R (n ∷ names) (v ∷ values) zero all inside = all.0
nth_named R (n ∷ names) (v ∷ values) (suc k) all inside = nth_named R names values k all.1 (omega (arith, inside))

pub zip_long : (R : Name → ℕ → Type 0) (names : List Name) (values : List ℕ) → AllZip R names values → length names ≡ length values
zip_long R names values all = sym (AllZip-long R names values all)

slice_get-last : {X : Type 0} (xs : List X) (x : X) → slice_get (xs ++ x ∷ []) (length xs) ≡ Some x
slice_get-last [] x = refl
slice_get-last (y ∷ xs) x = slice_get-last xs x

as_many : (added : List AnsweredCall) → length (script_of added) ≡ length added
as_many [] = refl
as_many (call ∷ added) = ap suc (as_many added)

-- the place behind calls
pub place_is : (calls added : List AnsweredCall) (plain : Script) → script_of added ≡ plain → length (calls ++ added) ≡ length calls + length plain
place_is calls added plain same = let one = length-append calls added in let two = as_many added in let three = ap length same in omega (arith, one, two, three)

pub asked_both : (one two : List AnsweredCall) → script_of (one ++ two) ≡ script_of one ++ script_of two
asked_both one two = map-append (λ (call : AnsweredCall). call.request) one two

-- NAMES -------------------------------------------------------------------------------------------------------------------

pub zip_stays : {R : Type 0} (reads : LedgerIsReadByNumber) (signature : SignatureShape) (calls added : List AnsweredCall) (old new : FunctionBuilder R) (names : List Name) (values : List ℕ)
    → StandsFor signature calls old → StandsFor signature (calls ++ added) new → AllZip (NamesValue calls) names values → AllZip (NamesValue (calls ++ added)) names values
zip_stays reads signature calls added old new [] [] before after named = tt
zip_stays reads signature calls added old new [] (v ∷ values) before after named = absurd named
zip_stays reads signature calls added old new (n ∷ names) [] before after named = absurd named
zip_stays reads signature calls added old new (n ∷ names) (v ∷ values) before after named =
    (value-stays reads calls added old new before after n v named.0, zip_stays reads signature calls added old new names values before after named.1)

-- the first result of an instruction that is built
pub named_last : (calls : List AnsweredCall) (request : Request) (ty : «Type») (inst value : ℕ) (numbers : List ℕ) → slice_get (answers_to (ledger_of calls) request) 1 ≡ Some (AValue ty)
    → NamesValue (calls ++ answered request (inst ∷ value ∷ numbers) ∷ []) (answer_of (length calls) 1) value
named_last calls request ty inst value numbers gives =
    let call : AnsweredCall = answered request (inst ∷ value ∷ numbers) in
    record {
      number = ap (option_and_then (λ (one : AnsweredCall). slice_get one.numbers 1)) (slice_get-last calls call);
      is_value = ap is_some (type_new calls call 1 ∙ ap value_answer_type gives);
    }

-- SIZES -------------------------------------------------------------------------------------------------------------------

-- scripts one behind the other make what both make
pub both_fit : (first next : Script) (table : Table) → made_by_script first table + made_by_script next table ≤ made_by_script (first ++ next) table
both_fit [] next table = omega arith
both_fit (request ∷ first) next table = let rest = both_fit first next table in omega (arith, rest)

-- an instruction with so many results makes no more than a call that says so, and others behind it
pub call_fits : (results : ℕ) (request : Request) (rest : Script) → results ≤ made_by request Values → 1 ≤ made_by request Instructions
    → (table : Table) → instruction_makes results table ≤ made_by_script (request ∷ rest) table
call_fits results request rest values instructions Values = omega (arith, values)
call_fits results request rest values instructions Instructions = omega (arith, instructions)
call_fits results request rest values instructions _ = omega arith

-- ONE BEHIND THE OTHER ----------------------------------------------------------------------------------------------------

-- calls behind calls, with what the later ones answer, or with what all answer
module _ {R : Type 0} (signature : SignatureShape) (calls : List AnsweredCall) (plain : Script) (names : List Name) (values : List ℕ) (mid : FunctionBuilder R) (one : StandsOn signature calls plain names values mid)
    (q : ℕ → Script) (h : ℕ → List Name) (later : List ℕ) (new : FunctionBuilder R)
    (two : StandsOn signature (calls ++ one.added) (q (length (calls ++ one.added))) (h (length (calls ++ one.added))) later new) where
  abbrev joined : (calls ++ one.added) ++ two.added ≡ calls ++ (one.added ++ two.added)
  joined = append_assoc calls one.added two.added

  abbrev here : length (calls ++ one.added) ≡ length calls + length plain
  here = place_is calls one.added plain one.asked

  abbrev named_later : AllZip (NamesValue (calls ++ (one.added ++ two.added))) (h (length calls + length plain)) later
  named_later =
      subst (λ (place : ℕ). AllZip (NamesValue (calls ++ (one.added ++ two.added))) (h place) later) here
      (subst (λ (list : List AnsweredCall). AllZip (NamesValue list) (h (length (calls ++ one.added))) later) joined two.named)

  abbrev asked_all : script_of (one.added ++ two.added) ≡ plain ++ q (length calls + length plain)
  asked_all = asked_both one.added two.added ∙ ap₂ (λ (s t : Script). s ++ t) one.asked (two.asked ∙ ap q here)

  pub on_then : StandsOn signature calls (plain ++ q (length calls + length plain)) (h (length calls + length plain)) later new
  on_then = record {
    added = one.added ++ two.added;
    asked = asked_all;
    stands = subst (λ (list : List AnsweredCall). StandsFor signature list new) joined two.stands;
    named = named_later;
  }

  pub on_push : LedgerIsReadByNumber → StandsOn signature calls (plain ++ q (length calls + length plain)) (names ++ h (length calls + length plain)) (values ++ later) new
  on_push reads = record {
    added = one.added ++ two.added;
    asked = asked_all;
    stands = subst (λ (list : List AnsweredCall). StandsFor signature list new) joined two.stands;
    named = zip_both (NamesValue (calls ++ (one.added ++ two.added))) names (h (length calls + length plain)) values later
        (subst (λ (list : List AnsweredCall). AllZip (NamesValue list) names values) joined
        (zip_stays reads signature (calls ++ one.added) two.added mid new names values one.stands two.stands one.named))
        named_later;
  }

module _ {A B : Type 0} {R : Type 0} (reads : LedgerIsReadByNumber) (old mid new : FunctionBuilder R) (operands : List ℕ) (p : Requests) (g : Results) (values : A → List ℕ) (a : A)
    (first : Makes operands p g values old mid (Ok a)) (q : Requests) (h : Results) (later : B → List ℕ) where
  -- calls on what was answered and on the operands, behind those that answered it
  pub makes_then : ((place : ℕ) (names : List Name) → length (g place names) ≡ length (values a)) → (answer : Result B BuildError) → Makes (values a ++ operands) q h later mid new answer
      → Makes operands (λ place names. p place names ++ q (place + length (p place names)) (g place names ++ names))
      (λ place names. h (place + length (p place names)) (g place names ++ names)) later old new answer
  makes_then many answer next = record {
    line = line_on old mid new a answer first.line next.line;
    most = λ place names long.
        adds_then (made_by_script (p place names)) (made_by_script (q (place + length (p place names)) (g place names ++ names)))
        (made_by_script (p place names ++ q (place + length (p place names)) (g place names ++ names))) old mid new a answer
        (λ table. both_fit (p place names) (q (place + length (p place names)) (g place names ++ names)) table) (first.most place names long)
        (next.most (place + length (p place names)) (g place names ++ names)
        (let named = length-append (g place names) names in let whole = length-append (values a) operands in let each = many place names in omega (arith, named, whole, each, long)));
    stands = λ signature calls names stands named.
        let one = first.stands signature calls names stands named in
        behind signature calls names one answer (next.stands signature (calls ++ one.added) (g (length calls) names ++ names) one.stands
        (zip_both (NamesValue (calls ++ one.added)) (g (length calls) names) names (values a) operands one.named
        (zip_stays reads signature calls one.added old mid names operands stands one.stands named)));
  }
    where
      behind : (signature : SignatureShape) (calls : List AnsweredCall) (names : List Name) (one : StandsOn signature calls (p (length calls) names) (g (length calls) names) (values a) mid) (r : Result B BuildError)
          → IfOk r (λ b. StandsOn signature (calls ++ one.added) (q (length (calls ++ one.added)) (g (length calls) names ++ names)) (h (length (calls ++ one.added)) (g (length calls) names ++ names)) (later b) new)
          → IfOk r (λ b. StandsOn signature calls (p (length calls) names ++ q (length calls + length (p (length calls) names)) (g (length calls) names ++ names))
          (h (length calls + length (p (length calls) names)) (g (length calls) names ++ names)) (later b) new)
      behind signature calls names one (Err e) two = tt
      behind signature calls names one (Ok b) two =
          on_then signature calls (p (length calls) names) (g (length calls) names) (values a) mid one
          (λ place. q place (g (length calls) names ++ names)) (λ place. h place (g (length calls) names ++ names)) (later b) new two

  -- calls on the operands behind others on them: all is answered
  pub makes_push : {C : Type 0} (b : B) (c : C) (all : C → List ℕ) → all c ≡ values a ++ later b → Makes operands q h later mid new (Ok b)
      → Makes operands (λ place names. p place names ++ q (place + length (p place names)) names) (λ place names. g place names ++ h (place + length (p place names)) names) all old new (Ok c)
  makes_push b c all same next = record {
    line = line_ok old new b c (line_on old mid new a (Ok b) first.line next.line);
    most = λ place names long.
        adds_ok (made_by_script (p place names ++ q (place + length (p place names)) names)) old new b c
        (adds_then (made_by_script (p place names)) (made_by_script (q (place + length (p place names)) names)) (made_by_script (p place names ++ q (place + length (p place names)) names)) old mid new a (Ok b)
        (λ table. both_fit (p place names) (q (place + length (p place names)) names) table) (first.most place names long) (next.most (place + length (p place names)) names long));
    stands = λ signature calls names stands named.
        let one = first.stands signature calls names stands named in
        let two = next.stands signature (calls ++ one.added) names one.stands (zip_stays reads signature calls one.added old mid names operands stands one.stands named) in
        subst (λ (vs : List ℕ). StandsOn signature calls (p (length calls) names ++ q (length calls + length (p (length calls) names)) names) (g (length calls) names ++ h (length calls + length (p (length calls) names)) names) vs new) (sym same)
        (on_push signature calls (p (length calls) names) (g (length calls) names) (values a) mid one (λ place. q place names) (λ place. h place names) (later b) new two reads);
  }

module _ {A : Type 0} {R : Type 0} (old new : FunctionBuilder R) (operands : List ℕ) (p : Requests) (g : Results) (values : A → List ℕ) (answer : Result A BuildError) (makes : Makes operands p g values old new answer) where
  -- on operands among others
  pub makes_from : (others : List ℕ) (pick : List Name → List Name)
      → ((names : List Name) → length names ≡ length others → length (pick names) ≡ length operands)
      → ((calls : List AnsweredCall) (names : List Name) → AllZip (NamesValue calls) names others → AllZip (NamesValue calls) (pick names) operands)
      → Makes others (λ place names. p place (pick names)) (λ place names. g place (pick names)) values old new answer
  makes_from others pick many picks = record {
    line = makes.line;
    most = λ place names long. makes.most place (pick names) (many names long);
    stands = λ signature calls names stands named. makes.stands signature calls (pick names) stands (picks calls names named);
  }

  -- as other words say it
  pub makes_as : (q : Requests) (h : Results) → ((place : ℕ) (names : List Name) → length names ≡ length operands → (p place names ≡ q place names) × (g place names ≡ h place names))
      → Makes operands q h values old new answer
  makes_as q h same = record {
    line = makes.line;
    most = λ place names long. subst (λ (s : Script). AddsAtMost (made_by_script s) old new answer) (same place names long).0 (makes.most place names long);
    stands = λ signature calls names stands named.
        let is = same (length calls) names (zip_long (NamesValue calls) names operands named) in
        subst (λ (s : Script). IfOk answer (λ a. StandsOn signature calls s (h (length calls) names) (values a) new)) is.0
        (subst (λ (ns : List Name). IfOk answer (λ a. StandsOn signature calls (p (length calls) names) ns (values a) new)) is.1
        (makes.stands signature calls names stands named));
  }

-- it failed
pub makes_failed : {A B : Type 0} {R : Type 0} (old new : FunctionBuilder R) (operands : List ℕ) (p : Requests) (g : Results) (values : B → List ℕ) (r : Result B BuildError) (e : BuildError)
    → InLine {A = A} old new (Err e) → ((place : ℕ) (names : List Name) → length names ≡ length operands → AddsAtMost {A = A} (made_by_script (p place names)) old new (Err e)) → IsErrAnd r (λ y. y ≡ e)
    → Makes operands p g values old new r
makes_failed old new operands p g values (Ok b) e line adds is = absurd is
makes_failed {A} {B} old new operands p g values (Err y) e line adds is = record {
  line = subst (λ (error : BuildError). InLine {A = B} old new (Err error)) (sym is) (line_err old new e line);
  stands = λ signature calls names stands named. tt;
  most = λ place names long. adds_err {A = A} (made_by_script (p place names)) old new e (Err y) is (adds place names long);
}

-- nothing was called
pub makes_none : {A : Type 0} {R : Type 0} (b : FunctionBuilder R) (operands : List ℕ) (a : A) (values : A → List ℕ) → values a ≡ [] → b.failed ≡ false → HasCurrent b
    → Makes operands (λ place names. []) no_results values b b (Ok a)
makes_none b operands a values none sound current = record {
  line = line_none b a sound current;
  most = λ place names long. adds_none (λ table. 0) b (Ok a);
  stands = λ signature calls names stands named.
      record {
        added = [];
        asked = refl;
        stands = subst (λ (list : List AnsweredCall). StandsFor signature list b) (sym (append-nil calls)) stands;
        named = subst (AllZip (NamesValue (calls ++ [])) []) (sym none) tt;
      };
}

-- ONE CALL ----------------------------------------------------------------------------------------------------------------

module _ {R : Type 0} (operands : List ℕ) (old new : FunctionBuilder R) (shape : InstructionData) (ty : «Type») (answer : Result ℕ BuildError) (current : HasCurrent old) where
  -- an instruction whose result is answered
  pub value_makes : (instruction : List Name → Instruction Name Name) (given : «Type») → ((names : List Name) → emitted_types (instruction names) ≡ given ∷ [])
      → ((signature : SignatureShape) (calls : List AnsweredCall) (names : List Name) → StandsFor signature calls old → AllZip (NamesValue calls) names operands
      → AsksForShape calls old.func.now (building (instruction names)) shape ty)
      → BuildsValue old new shape ty answer → Makes operands (λ place names. building (instruction names) ∷ []) (λ place names. answer_of place 1 ∷ []) one_value old new answer
  value_makes instruction given gives asks builds = record {
    line = value_line old new shape ty answer current builds;
    most = λ place names long.
        adds_fewer (instruction_makes 1) (made_by_script (building (instruction names) ∷ [])) old new answer
        (call_fits 1 (building (instruction names)) [] (let one = ap length (gives names) in omega (arith, one)) (omega arith)) (value_adds old new shape ty answer builds);
    stands = λ signature calls names stands named. by answer builds signature calls names stands (asks signature calls names stands named);
  }
    where
      by : (r : Result ℕ BuildError) → BuildsValue old new shape ty r → (signature : SignatureShape) (calls : List AnsweredCall) (names : List Name) → StandsFor signature calls old
          → AsksForShape calls old.func.now (building (instruction names)) shape ty
          → IfOk r (λ v. StandsOn signature calls (building (instruction names) ∷ []) (answer_of (length calls) 1 ∷ []) (v ∷ []) new)
      by (Err e) made signature calls names stands asked = tt
      by (Ok v) made signature calls names stands asked = record {
        added = answered (building (instruction names)) (numbers_with old v) ∷ [];
        asked = refl;
        stands = stands_on signature calls old new shape ty v (building (instruction names)) stands made asked;
        named = (
          named_last calls (building (instruction names)) given (length old.func.now.insts) v []
              (ap (λ (types : List «Type»). slice_get (map AValue types) 0) (gives names)),
          tt,
        );
      }

  -- an instruction whose results aren't
  pub inst_makes : (request : List Name → Request) → is_branch shape ≡ false → is_terminator shape ≡ false → count_of_results old.func.now.tables shape ≤ 1
      → ((names : List Name) → count_of_results old.func.now.tables shape ≤ made_by (request names) Values) → ((names : List Name) → 1 ≤ made_by (request names) Instructions)
      → ((signature : SignatureShape) (calls : List AnsweredCall) (names : List Name) → StandsFor signature calls old → AllZip (NamesValue calls) names operands
      → AsksForShape calls old.func.now (request names) shape ty)
      → Builds old new shape ty answer → Makes operands (λ place names. request names ∷ []) no_results (λ inst. []) old new answer
  inst_makes request stays goes few results one asks builds = record {
    line = inst_line old new shape ty answer current stays goes few builds;
    most = λ place names long.
        adds_fewer (instruction_makes (count_of_results old.func.now.tables shape)) (made_by_script (request names ∷ [])) old new answer
        (call_fits (count_of_results old.func.now.tables shape) (request names) [] (results names) (one names)) (built_adds old new shape ty answer current builds);
    stands = λ signature calls names stands named. by answer builds signature calls names stands (asks signature calls names stands named);
  }
    where
      by : (r : Result ℕ BuildError) → Builds old new shape ty r → (signature : SignatureShape) (calls : List AnsweredCall) (names : List Name) → StandsFor signature calls old
          → AsksForShape calls old.func.now (request names) shape ty → IfOk r (λ v. StandsOn signature calls (request names ∷ []) [] [] new)
      by (Err e) made signature calls names stands asked = tt
      by (Ok inst) made signature calls names stands (entries, instruction, is, has) = record {
        added = answered (request names) (numbers_of new inst) ∷ [];
        asked = refl;
        stands = subst (λ (r : Request). StandsFor signature (calls ++ answered r (numbers_of new inst) ∷ []) new) (sym is) (made.stands signature calls entries instruction stands has);
        named = tt;
      }

-- an entry of a table
pub entry_makes : {R : Type 0} (entry : TableEntry) (old new : FunctionBuilder R) (answer : Result ℕ BuildError) → IsImport entry → HasCurrent old → MakesEntry entry old new answer
    → Makes [] (λ place names. MakeEntry entry ∷ []) no_results (λ number. []) old new answer
entry_makes entry old new answer imports current makes = record {
  line = entry_line entry old new answer imports current makes;
  most = λ place names long.
      adds_fewer (one_in (table_for entry)) (made_by_script (MakeEntry entry ∷ [])) old new answer (λ table. omega arith) (entry_adds entry old new answer makes);
  stands = λ signature calls names stands named. by signature calls answer (makes.told.stands signature calls stands tt);
}
  where
    by : (signature : SignatureShape) (calls : List AnsweredCall) (r : Result ℕ BuildError) → IfOk r (λ number. StandsFor signature (calls ++ answered (MakeEntry entry) (number ∷ []) ∷ []) new)
        → IfOk r (λ number. StandsOn signature calls (MakeEntry entry ∷ []) [] [] new)
    by signature calls (Err e) stands = tt
    by signature calls (Ok number) stands = record { added = answered (MakeEntry entry) (number ∷ []) ∷ []; asked = refl; stands = stands; named = tt }

-- another answer of the same kind
pub makes_ok : {A B : Type 0} {R : Type 0} (old new : FunctionBuilder R) (operands : List ℕ) (p : Requests) (g : Results) (a : A) (values : A → List ℕ) (b : B) (others : B → List ℕ) → others b ≡ values a
    → Makes operands p g values old new (Ok a) → Makes operands p g others old new (Ok b)
makes_ok old new operands p g a values b others same makes = record {
  line = line_ok old new a b makes.line;
  most = λ place names long. adds_ok (made_by_script (p place names)) old new a b (makes.most place names long);
  stands = λ signature calls names stands named.
      subst (λ (vs : List ℕ). StandsOn signature calls (p (length calls) names) (g (length calls) names) vs new) (sym same) (makes.stands signature calls names stands named);
}
