-- Loads and stores of pieces stand for the copy or the fill that is emitted.
use Rattle.std.proofs.Common.{◌≡◌, ◌⊎◌, inl, inr, ◌+◌, ◌-◌, ◌*◌, ◌<◌, ◌≤◌, ◌&&◌, ℕ, zero, suc, ℤ, pos, true, List, [], ◌∷◌, ◌++◌, length, map, replicate, refl, sym, ◌∙◌, ap, subst, arith}
use Rattle.std.specs.Prelude.{◌≢◌, IsTrue, fold}
use Rattle.std.specs.List.{AllByRecursion, list_all}
use Rattle.std.proofs.lemmas.Bool.{and_parts, cases_lt}
use Rattle.std.proofs.lemmas.List.{map-append, length-append}
use Rattle.clif_types.specs.MemFlags.{MemFlagsShape}
use Rattle.clif_types.specs.Types.{bits_of, is_int}
use Rattle.clif_types.specs.declared.types.«Type».{«Type»}
use Rattle.clif_access_plans.specs.Constants.{RepeatsByte}
use Rattle.clif_meaning.specs.Access.{library_call}
use Rattle.clif_meaning.specs.Acceptance.{is_open}
use Rattle.clif_meaning.specs.ByteOperation.{Copy, CopyShape, Fill, FillShape, access_size}
use Rattle.clif_meaning.specs.Instruction.{Bytes, Iconst, Instruction, Load, Store}
use Rattle.clif_meaning.specs.Ledger.{Ledger, has_value, ledger_with}
use Rattle.clif_meaning.specs.Library.{pointer_of}
use Rattle.clif_meaning.specs.Name.{Name, answer_of}
use Rattle.clif_meaning.specs.Premises.{IfLibraryCall}
use Rattle.clif_meaning.specs.Program.{Item, Instruct, Program}
use Rattle.clif_meaning.specs.Request.{Script}
use Rattle.clif_expansion.specs.Code.{PerformsItem}
use Rattle.clif_expansion.specs.Constants.{computing}
use Rattle.clif_expansion.specs.Emission.{AreGenerated, StaysInLine, building, reading_behind}
use Rattle.clif_expansion.specs.JoinedPrograms.{built_items}
use Rattle.clif_expansion.specs.Joining.{IsJoined}
use Rattle.clif_expansion.specs.Laying.{IsLaid}
use Rattle.clif_expansion.specs.PerformedCalls.{HaveTypes, IsPerformed, IsTypedInLine}
use Rattle.clif_expansion.specs.Reading.{Generated, IsReadAs, Reading}
use Rattle.clif_expansion.specs.ScriptCall.{Emit, can_emit, can_emit_bytes, is_pointer}
use Rattle.clif_expansion.proofs.EmittedPrograms.{emitted_before, emitted_inner, emitted_none}
use Rattle.clif_expansion.proofs.LedgerTypes.{call_types_before, types_before}
use Rattle.clif_helper_calls.specs.Codes.{AreDistinct, copy_code, copy_flags, doing, fill_code, fill_flags, load_pieces, store_pieces}
use Rattle.clif_helper_calls.specs.FillStanding.{fill_emission}
use Rattle.clif_helper_calls.specs.KnownStanding.{copy_emission}
use Rattle.clif_helper_calls.specs.Lines.{all_but_last, last_of}
use Rattle.clif_helper_calls.specs.Performing.{HasAccesses}
use Rattle.clif_helper_calls.specs.PerformingCalls.{ReadsTwo}
use Rattle.clif_helper_calls.specs.PieceStanding.{PiecesStand, copied_line, copy_instructions, fill_instructions, filled_line, load_instructions, none_of_it, piece_names, store_instructions}
use Rattle.clif_helper_calls.proofs.FillStanding.{addressed, int_is_type, one_of_two, typed_alike}
use Rattle.clif_helper_calls.proofs.KnownStanding.{answer_typed, longer}
use Rattle.clif_helper_calls.proofs.Laid.{codes_are_laid}
use Rattle.clif_helper_calls.proofs.Lines.{line_stands}
use Rattle.clif_helper_calls.proofs.Performed.{pieces_are_performed}
use Rattle.clif_helper_calls.proofs.Standing.{two_read}

-- LISTS -------------------------------------------------------------------------------------------------------------------

module _ {X : Type 0} (P : X → Type 0) where
  all_split : (code : List X) (last : X) → AllByRecursion P (code ++ last ∷ []) → AllByRecursion P code × P last
  all_split [] last all = (tt, all.0)
  all_split (first ∷ code) last all = let rest = all_split code last all.1 in ((all.0, rest.0), rest.1)

  all_both : (xs ys : List X) → AllByRecursion P xs → AllByRecursion P ys → AllByRecursion P (xs ++ ys)
  all_both [] ys first second = second
  all_both (x ∷ xs) ys first second = (first.0, all_both xs ys first.1 second)

-- what all of the instructions are, code and its last instruction are
line_of : (code : List (Instruction Name Name)) (last : Instruction Name Name) (all : List (Instruction Name Name)) → code ++ last ∷ [] ≡ all → AllByRecursion StaysInLine all
    → AllByRecursion StaysInLine code × StaysInLine last
line_of code last all is stay = all_split StaysInLine code last (subst (AllByRecursion StaysInLine) (sym is) stay)

how_many_names : (place count : ℕ) → length (piece_names place count) ≡ count
how_many_names place zero = refl
how_many_names place (suc count) = ap suc (how_many_names (suc place) count)

how_many_loads : (flags : MemFlagsShape) (ty : «Type») (bytes : ℕ) (source : Name) (number count : ℕ) → length (load_instructions flags ty bytes source number count) ≡ count
how_many_loads flags ty bytes source number zero = refl
how_many_loads flags ty bytes source number (suc count) = ap suc (how_many_loads flags ty bytes source (suc number) count)

-- no answer has the name of a later one
later_names : (place other count : ℕ) → place < other → AllByRecursion (λ name. answer_of place 1 ≢ name) (piece_names other count)
later_names place other zero below = tt
later_names place other (suc count) below = (
  (λ same. let places : place ≡ other = ap (λ (name : Name). name.place) same in absurd (omega (arith, places, below))),
  later_names place (suc other) count (omega (arith, below)),
)

distinct_names : (place count : ℕ) → AreDistinct (piece_names place count)
distinct_names place zero = tt
distinct_names place (suc count) = (later_names place (suc place) count (omega arith), distinct_names (suc place) count)

-- WHAT IS BUILT -----------------------------------------------------------------------------------------------------------

built_stores : (flags : MemFlagsShape) (ty : «Type») (bytes : ℕ) (target : Name) (place number : ℕ) (names : List Name)
    → built_items place (store_instructions flags ty bytes target number names) ≡ store_pieces flags ty bytes target place number names
built_stores flags ty bytes target place number [] = refl
built_stores flags ty bytes target place number (name ∷ names) =
    ap (λ (rest : List Item). Instruct place (doing (Store flags (pos (number * bytes))) ty (name ∷ target ∷ [])) [] ∷ rest) (built_stores flags ty bytes target (suc place) (suc number) names)

built_loads : (flags : MemFlagsShape) (ty : «Type») (bytes : ℕ) (source : Name) (place number count : ℕ) (rest : List (Instruction Name Name))
    → built_items place (load_instructions flags ty bytes source number count ++ rest) ≡ load_pieces flags ty bytes source place number (piece_names place count) ++ built_items (place + count) rest
built_loads flags ty bytes source place number zero rest = ap (λ (n : ℕ). built_items n rest) (still place)
  where
    still : (n : ℕ) → n ≡ n + 0
    still n = omega arith
built_loads flags ty bytes source place number (suc count) rest =
    ap (λ (items : List Item). Instruct place (doing (Load flags (pos (number * bytes))) ty (source ∷ [])) (answer_of place 1 ∷ []) ∷ items)
    (built_loads flags ty bytes source (suc place) (suc number) count rest
    ∙ ap (λ (n : ℕ). load_pieces flags ty bytes source (suc place) (suc number) (piece_names (suc place) count) ++ built_items n rest) (moved place count))
  where
    moved : (n k : ℕ) → suc n + k ≡ n + suc k
    moved n k = omega arith

-- WHAT IT IS --------------------------------------------------------------------------------------------------------------

loads_stay : (flags : MemFlagsShape) (ty : «Type») (bytes : ℕ) (source : Name) (number count : ℕ) → AllByRecursion StaysInLine (load_instructions flags ty bytes source number count)
loads_stay flags ty bytes source number zero = tt
loads_stay flags ty bytes source number (suc count) = (record { no_edges = refl; goes_on = refl }, loads_stay flags ty bytes source (suc number) count)

stores_stay : (flags : MemFlagsShape) (ty : «Type») (bytes : ℕ) (target : Name) (number : ℕ) (names : List Name) → AllByRecursion StaysInLine (store_instructions flags ty bytes target number names)
stores_stay flags ty bytes target number [] = tt
stores_stay flags ty bytes target number (name ∷ names) = (record { no_edges = refl; goes_on = refl }, stores_stay flags ty bytes target (suc number) names)

abbrev CallsNothing : «Type» → Instruction Name Name → Type 0
CallsNothing pointer each = IfLibraryCall pointer (library_call each.operation)

loads_call_nothing : (pointer : «Type») (flags : MemFlagsShape) (ty : «Type») (bytes : ℕ) (source : Name) (number count : ℕ) → AllByRecursion (CallsNothing pointer) (load_instructions flags ty bytes source number count)
loads_call_nothing pointer flags ty bytes source number zero = tt
loads_call_nothing pointer flags ty bytes source number (suc count) = (tt, loads_call_nothing pointer flags ty bytes source (suc number) count)

stores_call_nothing : (pointer : «Type») (flags : MemFlagsShape) (ty : «Type») (bytes : ℕ) (target : Name) (number : ℕ) (names : List Name)
    → AllByRecursion (CallsNothing pointer) (store_instructions flags ty bytes target number names)
stores_call_nothing pointer flags ty bytes target number [] = tt
stores_call_nothing pointer flags ty bytes target number (name ∷ names) = (tt, stores_call_nothing pointer flags ty bytes target (suc number) names)

loads_typed : (types : Name → «Type») (returns : List «Type») (pointer : «Type») (flags : MemFlagsShape) (ty : «Type») (bytes : ℕ) (source : Name) (number count : ℕ)
    → IsTrue (is_int ty) → types source ≡ pointer → is_pointer pointer ≡ true → AllByRecursion (IsTypedInLine types returns) (load_instructions flags ty bytes source number count)
loads_typed types returns pointer flags ty bytes source number zero int same pointed = tt
loads_typed types returns pointer flags ty bytes source number (suc count) int same pointed = (
  record { made_at = int_is_type ty int; operands = addressed (types source) pointer ty same pointed; edges = tt },
  loads_typed types returns pointer flags ty bytes source (suc number) count int same pointed,
)

stores_typed : (types : Name → «Type») (returns : List «Type») (pointer : «Type») (flags : MemFlagsShape) (ty : «Type») (bytes : ℕ) (target : Name) (number : ℕ) (names : List Name)
    → IsTrue (is_int ty) → types target ≡ pointer → is_pointer pointer ≡ true → AllByRecursion (λ name. types name ≡ ty) names
    → AllByRecursion (IsTypedInLine types returns) (store_instructions flags ty bytes target number names)
stores_typed types returns pointer flags ty bytes target number [] int same pointed have = tt
stores_typed types returns pointer flags ty bytes target number (name ∷ names) int same pointed have = (
  record { made_at = int_is_type ty int; operands = (have.0, addressed (types target) pointer ty same pointed); edges = tt },
  stores_typed types returns pointer flags ty bytes target (suc number) names int same pointed have.1,
)

-- what is loaded has the type of the loads
pieces_typed : (ledger : Ledger) (types : Name → «Type») (flags : MemFlagsShape) (ty : «Type») (bytes : ℕ) (source : Name) (place number count : ℕ) (more : Script) → place ≡ length ledger.answers
    → HaveTypes (fold ledger_with ledger (map building (load_instructions flags ty bytes source number count) ++ more)) types → AllByRecursion (λ name. types name ≡ ty) (piece_names place count)
pieces_typed ledger types flags ty bytes source place number zero more here have = tt
pieces_typed ledger types flags ty bytes source place number (suc count) more here have =
    let load : Instruction Name Name = doing (Load flags (pos (number * bytes))) ty (source ∷ []) in
    let one = longer ledger load in (
      answer_typed ledger load (map building (load_instructions flags ty bytes source (suc number) count) ++ more) types ty place here refl have,
      pieces_typed (ledger_with ledger (building load)) types flags ty bytes source (suc place) (suc number) count more (omega (arith, here, one)) have,
    )

repeated_typed : (types : Name → «Type») (ty : «Type») (name : Name) (count : ℕ) → types name ≡ ty → AllByRecursion (λ other. types other ≡ ty) (replicate count name)
repeated_typed types ty name zero is = tt
repeated_typed types ty name (suc count) is = (is, repeated_typed types ty name count is)

-- all of the calls' answers are generated
all_generated : (reading : Reading) (plain ledger : Ledger) (code : List (Instruction Name Name)) (place k : ℕ) → place ≡ length plain.answers + k → k ≤ length code
    → reading_behind AreGenerated reading plain ledger code (answer_of place 1) ≡ Generated
all_generated reading plain ledger code place k here few = by (cases_lt k (length code))
  where
    by : (k < length code) ⊎ (length code ≤ k) → reading_behind AreGenerated reading plain ledger code (answer_of place 1) ≡ Generated
    by (inl below) = emitted_inner AreGenerated reading plain ledger code place k 1 here below
    by (inr last) = emitted_none reading plain ledger code place 1 (omega (arith, here, few, last))

names_generated : (reading : Reading) (plain ledger : Ledger) (code : List (Instruction Name Name)) (place k count : ℕ) → place ≡ length plain.answers + k → k + count ≤ suc (length code)
    → AllByRecursion (λ name. reading_behind AreGenerated reading plain ledger code name ≡ Generated) (piece_names place count)
names_generated reading plain ledger code place k zero here few = tt
names_generated reading plain ledger code place k (suc count) here few =
    (all_generated reading plain ledger code place k here (omega (arith, few)), names_generated reading plain ledger code (suc place) (suc k) count (omega (arith, here)) (omega (arith, few)))

-- the requests of code and its last instruction
requests_are : (code : List (Instruction Name Name)) (last : Instruction Name Name) → map building code ++ building last ∷ [] ≡ map building (code ++ last ∷ [])
requests_are code last = sym (map-append building code (last ∷ []))

one_longer : (code : List (Instruction Name Name)) (last : Instruction Name Name) → length (code ++ last ∷ []) ≡ suc (length code)
one_longer [] last = refl
one_longer (first ∷ code) last = ap suc (one_longer code last)

-- COPIES ------------------------------------------------------------------------------------------------------------------

module _ (pointer ty : «Type») (copy : CopyShape) (count : ℕ) (a b x y : Name) (reading : Reading) (plain ledger : Ledger) (code : List (Instruction Name Name)) (last : Instruction Name Name)
    (is : code ++ last ∷ [] ≡ copy_instructions copy ty a b (length plain.answers) count) (int : IsTrue (is_int ty)) (has : HasAccesses ty copy.size count)
    (joined : IsJoined reading plain ledger) (reads : ReadsTwo reading a b x y) (may : IsTrue (can_emit (Bytes (Copy copy)) pointer)) (some : suc (count - 1) ≡ count)
    (values : list_all (has_value ledger) (x ∷ y ∷ []) ≡ true) where
  abbrev n : ℕ
  n = length plain.answers

  abbrev bytes : ℕ
  bytes = access_size copy.size

  abbrev names : List Name
  names = piece_names n count

  abbrev behind : Reading
  behind = reading_behind AreGenerated reading plain ledger code

  copy_built : built_items n (code ++ last ∷ []) ≡ copy_code (copy_flags copy) ty bytes a b n names
  copy_built =
      ap (built_items n) is
      ∙ built_loads (copy_flags copy) ty bytes b n 0 count (store_instructions (copy_flags copy) ty bytes a 0 names)
      ∙ ap (λ (k : ℕ). load_pieces (copy_flags copy) ty bytes b n 0 names ++ built_items (n + k) (store_instructions (copy_flags copy) ty bytes a 0 names)) (sym (how_many_names n count))
      ∙ ap (λ (items : List Item). load_pieces (copy_flags copy) ty bytes b n 0 names ++ items) (built_stores (copy_flags copy) ty bytes a (n + length names) 0 names)

  reads_behind : ReadsTwo behind a b x y
  reads_behind = record {
    first_read = emitted_before AreGenerated reading plain ledger code a (joined.made a x reads.first_read).0 ∙ reads.first_read;
    second_read = emitted_before AreGenerated reading plain ledger code b (joined.made b y reads.second_read).0 ∙ reads.second_read;
  }

  -- there are at least as many instructions as loads
  enough : count ≤ suc (length code)
  enough =
      let all = ap length is in
      let parts = length-append (load_instructions (copy_flags copy) ty bytes b 0 count) (store_instructions (copy_flags copy) ty bytes a 0 names) in
      let loads = how_many_loads (copy_flags copy) ty bytes b 0 count in
      let longer_by = one_longer code last in
      omega (arith, all, parts, loads, longer_by)

  pointed : is_pointer pointer ≡ true
  pointed = (and_parts (is_pointer pointer) (can_emit_bytes (Copy copy) pointer) may).0

  accesses : HasAccesses ty copy.size (length names)
  accesses = subst (λ (k : ℕ). HasAccesses ty copy.size k) (sym (how_many_names n count)) has

  abbrev emitted : Item
  emitted = Instruct (length ledger.answers) (copy_emission copy pointer x y) []

  copy_laid : (program : Program) → IsLaid behind program (copy_code (copy_flags copy) ty bytes a b n names) emitted
  copy_laid program =
      subst (λ (k : ℕ). IsLaid behind program (copy_code (copy_flags copy) ty bytes a b n (piece_names n k)) emitted) some
      (codes_are_laid.copies behind program (copy_flags copy) ty pointer bytes n (length ledger.answers) (Bytes (Copy copy)) (answer_of n 1) (piece_names (suc n) (count - 1)) a b x y reads_behind)

  copy_done : IsPerformed (bits_of pointer) AreGenerated reading plain ledger code last (copy_emission copy pointer x y)
  copy_done = record {
    performs = λ types have' have.
        let before' : HaveTypes plain types.plain = types_before plain (map building code ++ building last ∷ []) types.plain have' in
        let before : HaveTypes ledger types.script = call_types_before ledger (Emit [] (copy_emission copy pointer x y)) types.script have in
        subst (λ (items : List Item). PerformsItem (bits_of pointer) behind types items emitted) (sym copy_built)
        (pieces_are_performed.copies (bits_of pointer) behind types pointer ty copy n names a b x y refl may accesses
        (record {
          target_read = reads_behind.first_read;
          source_read = reads_behind.second_read;
          target_typed = typed_alike reading plain ledger joined types a x reads.first_read (one_of_two ledger x y x values (inl refl)) before' before;
          source_typed = typed_alike reading plain ledger joined types b y reads.second_read (one_of_two ledger x y y values (inr refl)) before' before;
          generated = names_generated reading plain ledger code n 0 count (omega arith) (let few = enough in omega (arith, few));
          distinct = distinct_names n count;
        }));
    laid = λ program. subst (λ (items : List Item). IsLaid behind program items emitted) (sym copy_built) (copy_laid program);
    typed = λ types others have' agree typed.
        let stores : List (Instruction Name Name) = store_instructions (copy_flags copy) ty bytes a 0 names in
        let all : HaveTypes (fold ledger_with plain (map building (load_instructions (copy_flags copy) ty bytes b 0 count) ++ map building stores)) types.plain =
        subst (λ (script : Script). HaveTypes (fold ledger_with plain script) types.plain)
        (requests_are code last ∙ ap (map building) is ∙ map-append building (load_instructions (copy_flags copy) ty bytes b 0 count) stores) have' in
        subst (AllByRecursion (IsTypedInLine types.plain others)) (sym is)
        (all_both (IsTypedInLine types.plain others) (load_instructions (copy_flags copy) ty bytes b 0 count) stores
        (loads_typed types.plain others pointer (copy_flags copy) ty bytes b 0 count int (agree b y reads_behind.second_read ∙ typed.operands.1.0) pointed)
        (stores_typed types.plain others pointer (copy_flags copy) ty bytes a 0 names int (agree a x reads_behind.first_read ∙ typed.operands.0) pointed
        (pieces_typed plain types.plain (copy_flags copy) ty bytes b n 0 count (map building stores) refl all)));
    as_named =
        subst (AllByRecursion (CallsNothing (pointer_of (bits_of pointer)))) (sym is)
        (all_both (CallsNothing (pointer_of (bits_of pointer))) (load_instructions (copy_flags copy) ty bytes b 0 count) (store_instructions (copy_flags copy) ty bytes a 0 names)
        (loads_call_nothing (pointer_of (bits_of pointer)) (copy_flags copy) ty bytes b 0 count) (stores_call_nothing (pointer_of (bits_of pointer)) (copy_flags copy) ty bytes a 0 names));
  }

-- FILLS -------------------------------------------------------------------------------------------------------------------

module _ (pointer ty : «Type») (fill : FillShape) (number : ℤ) (count : ℕ) (a x : Name) (reading : Reading) (plain ledger : Ledger) (code : List (Instruction Name Name)) (last : Instruction Name Name)
    (is : code ++ last ∷ [] ≡ fill_instructions fill ty number a (length plain.answers) count) (int : IsTrue (is_int ty)) (has : HasAccesses ty fill.size count) (repeats : RepeatsByte ty fill.byte number)
    (joined : IsJoined reading plain ledger) (read : IsReadAs reading a x) (may : IsTrue (can_emit (Bytes (Fill fill)) pointer)) (value : has_value ledger x ≡ true) where
  abbrev m : ℕ
  m = length plain.answers

  abbrev fill_bytes : ℕ
  fill_bytes = access_size fill.size

  abbrev stored : List Name
  stored = replicate count (answer_of m 1)

  abbrev past : Reading
  past = reading_behind AreGenerated reading plain ledger code

  fill_built : built_items m (code ++ last ∷ []) ≡ fill_code (fill_flags fill) ty fill_bytes a m number (answer_of m 1) count
  fill_built =
      ap (built_items m) is
      ∙ ap (λ (items : List Item). Instruct m (computing (Iconst number) ty []) (answer_of m 1 ∷ []) ∷ items) (built_stores (fill_flags fill) ty fill_bytes a (suc m) 0 stored)

  read_past : IsReadAs past a x
  read_past = emitted_before AreGenerated reading plain ledger code a (joined.made a x read).0 ∙ read

  is_pointed : is_pointer pointer ≡ true
  is_pointed = (and_parts (is_pointer pointer) (can_emit_bytes (Fill fill) pointer) may).0

  abbrev emission : Item
  emission = Instruct (length ledger.answers) (fill_emission fill pointer x) []

  fill_done : IsPerformed (bits_of pointer) AreGenerated reading plain ledger code last (fill_emission fill pointer x)
  fill_done = record {
    performs = λ types have' have.
        let before' : HaveTypes plain types.plain = types_before plain (map building code ++ building last ∷ []) types.plain have' in
        let before : HaveTypes ledger types.script = call_types_before ledger (Emit [] (fill_emission fill pointer x)) types.script have in
        subst (λ (items : List Item). PerformsItem (bits_of pointer) past types items emission) (sym fill_built)
        (pieces_are_performed.fills (bits_of pointer) past types pointer ty fill m number count a x (answer_of m 1) refl may has repeats
        (record {
          target_read = read_past;
          target_typed = typed_alike reading plain ledger joined types a x read value before' before;
          generated = all_generated reading plain ledger code m 0 (omega arith) (omega arith);
        }));
    laid = λ program.
        subst (λ (items : List Item). IsLaid past program items emission) (sym fill_built)
        (codes_are_laid.fills past program (fill_flags fill) ty pointer fill_bytes m (length ledger.answers) (Bytes (Fill fill)) number count a x (answer_of m 1) read_past);
    typed = λ types others have' agree typed.
        let stores : List (Instruction Name Name) = store_instructions (fill_flags fill) ty fill_bytes a 0 stored in
        let all : HaveTypes (fold ledger_with plain (map building (computing (Iconst number) ty [] ∷ stores))) types.plain =
        subst (λ (script : Script). HaveTypes (fold ledger_with plain script) types.plain) (requests_are code last ∙ ap (map building) is) have' in
        subst (AllByRecursion (IsTypedInLine types.plain others)) (sym is) (
          record { made_at = int; operands = tt; edges = tt },
          stores_typed types.plain others pointer (fill_flags fill) ty fill_bytes a 0 stored int (agree a x read_past ∙ typed.operands.0) is_pointed
              (repeated_typed types.plain ty (answer_of m 1) count (answer_typed plain (computing (Iconst number) ty []) (map building stores) types.plain ty m refl refl all)),
        );
    as_named =
        subst (AllByRecursion (CallsNothing (pointer_of (bits_of pointer)))) (sym is)
        (tt, stores_call_nothing (pointer_of (bits_of pointer)) (fill_flags fill) ty fill_bytes a 0 stored);
  }

-- THE LAW -----------------------------------------------------------------------------------------------------------------

copies_stay : (copy : CopyShape) (ty : «Type») (a b : Name) (place count : ℕ) → AllByRecursion StaysInLine (copy_instructions copy ty a b place count)
copies_stay copy ty a b place count =
    all_both StaysInLine (load_instructions (copy_flags copy) ty (access_size copy.size) b 0 count) (store_instructions (copy_flags copy) ty (access_size copy.size) a 0 (piece_names place count))
    (loads_stay (copy_flags copy) ty (access_size copy.size) b 0 count) (stores_stay (copy_flags copy) ty (access_size copy.size) a 0 (piece_names place count))

fills_stay : (fill : FillShape) (ty : «Type») (number : ℤ) (a : Name) (place count : ℕ) → AllByRecursion StaysInLine (fill_instructions fill ty number a place count)
fills_stay fill ty number a place count =
    (record { no_edges = refl; goes_on = refl }, stores_stay (fill_flags fill) ty (access_size fill.size) a 0 (replicate count (answer_of place 1)))

-- all but the last one, and the last one
parts_of : (other one : Instruction Name Name) (more : List (Instruction Name Name)) → all_but_last (one ∷ more) ++ last_of other (one ∷ more) ∷ [] ≡ one ∷ more
parts_of other one [] = refl
parts_of other one (next ∷ more) = ap (λ (rest : List (Instruction Name Name)). one ∷ rest) (parts_of one next more)

all_copies : (copy : CopyShape) (ty : «Type») (target source : Name) (place count : ℕ) → 0 < count
    → all_but_last (copy_instructions copy ty target source place count) ++ last_of (none_of_it ty) (copy_instructions copy ty target source place count) ∷ []
    ≡ copy_instructions copy ty target source place count
all_copies copy ty target source place zero some = absurd (omega (arith, some))
all_copies copy ty target source place (suc count) some = parts_of (none_of_it ty) _ _

all_fills : (fill : FillShape) (ty : «Type») (number : ℤ) (target : Name) (place count : ℕ)
    → all_but_last (fill_instructions fill ty number target place count) ++ last_of (none_of_it ty) (fill_instructions fill ty number target place count) ∷ []
    ≡ fill_instructions fill ty number target place count
all_fills fill ty number target place count = parts_of (none_of_it ty) _ _

pub pieces_stand : PiecesStand
pieces_stand = record {
  copies = λ pointer ty copy count a b x y int has some.
      let all = λ (place : ℕ). copy_instructions copy ty a b place count in
      let line = λ (place : ℕ). line_of (all_but_last (all place)) (last_of (none_of_it ty) (all place)) (all place) (all_copies copy ty a b place count some) (copies_stay copy ty a b place count) in
      line_stands pointer (copied_line copy pointer ty count a b x y) (λ reading. ReadsTwo reading a b x y)
      (λ place. (line place).0) (λ place. (line place).1) (record { no_edges = refl; goes_on = refl }) (λ place. refl)
      (λ reading later keeps reads. two_read reading later keeps a b x y reads)
      (λ reading plain ledger joined reads may.
      let ready = and_parts (is_open ledger ledger.current && list_all (has_value ledger) (x ∷ y ∷ []) && true) (can_emit (Bytes (Copy copy)) pointer) may in
      let open_values = and_parts (is_open ledger ledger.current && list_all (has_value ledger) (x ∷ y ∷ [])) true ready.0 in
      let values = and_parts (is_open ledger ledger.current) (list_all (has_value ledger) (x ∷ y ∷ [])) open_values.0 in
      copy_done pointer ty copy count a b x y reading plain ledger (all_but_last (all (length plain.answers))) (last_of (none_of_it ty) (all (length plain.answers)))
      (all_copies copy ty a b (length plain.answers) count some) int has joined reads ready.1 (omega (arith, some)) values.1);
  fills = λ pointer ty fill number count a x int has repeats.
      let all = λ (place : ℕ). fill_instructions fill ty number a place count in
      let line = λ (place : ℕ). line_of (all_but_last (all place)) (last_of (none_of_it ty) (all place)) (all place) (all_fills fill ty number a place count) (fills_stay fill ty number a place count) in
      line_stands pointer (filled_line fill pointer ty number count a x) (λ reading. IsReadAs reading a x)
      (λ place. (line place).0) (λ place. (line place).1) (record { no_edges = refl; goes_on = refl }) (λ place. refl)
      (λ reading later keeps read. keeps a x read)
      (λ reading plain ledger joined read may.
      let ready = and_parts (is_open ledger ledger.current && list_all (has_value ledger) (x ∷ []) && true) (can_emit (Bytes (Fill fill)) pointer) may in
      let open_values = and_parts (is_open ledger ledger.current && list_all (has_value ledger) (x ∷ [])) true ready.0 in
      let values = and_parts (is_open ledger ledger.current) (list_all (has_value ledger) (x ∷ [])) open_values.0 in
      let value = and_parts (has_value ledger x) true values.1 in
      fill_done pointer ty fill number count a x reading plain ledger (all_but_last (all (length plain.answers))) (last_of (none_of_it ty) (all (length plain.answers)))
      (all_fills fill ty number a (length plain.answers) count) int has repeats joined read ready.1 value.0);
  all_copies = all_copies;
  all_fills = all_fills;
}
