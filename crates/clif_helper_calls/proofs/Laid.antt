-- The code of memory helpers is laid.
use Rattle.std.proofs.Common.{◌+◌, ◌*◌, ℕ, zero, suc, List, [], ◌∷◌, ◌++◌, length, replicate, inl, inr}
use Rattle.std.specs.Prelude.{pos, Contains}
use Rattle.std.specs.List.{AllByRecursion}
use Rattle.clif_opcodes.specs.declared.opcodes.ConvertOpcode.TheVariants.{Uextend}
use Rattle.clif_types.specs.MemFlags.{MemFlagsShape}
use Rattle.clif_types.specs.declared.libcall.LibCall.TheVariants.{Memcmp, Memset}
use Rattle.clif_types.specs.declared.types.«Type».{«Type»}
use Rattle.clif_meaning.specs.Instruction.{Compare, Convert, Iconst, Load, Operation, Store}
use Rattle.clif_meaning.specs.Name.{Name}
use Rattle.clif_meaning.specs.Program.{Item, Instruct, Program}
use Rattle.clif_byte_laws.specs.Comparing.{sign_condition}
use Rattle.clif_access_plans.specs.Plans.{is_aligned_load}
use Rattle.clif_expansion.specs.Constants.{computing}
use Rattle.clif_expansion.specs.Laying.{Ending, HasGiven, IsToHand, Laying, Lays}
use Rattle.clif_expansion.specs.Reading.{Reading}
use Rattle.clif_expansion.proofs.Placing.{contained_first, contained_later}
use Rattle.clif_helper_calls.specs.Codes.{doing, flags_where, load_pieces, store_pieces}
use Rattle.clif_helper_calls.specs.Laying.{CodesAreLaid}
use Rattle.clif_helper_calls.specs.LibraryCodes.{calling, copying_function, i32, i8}
use Rattle.clif_helper_calls.specs.PerformingCalls.{ReadsThree}

module _ (reading : Reading) (program : Program) (item : Item) where
  abbrev Hand : List Name → Name → Type 0
  Hand given x = IsToHand reading item given x

  -- stores of what was given, to an address that is to hand wherever something was given
  stores : (flags : MemFlagsShape) (ty : «Type») (bytes : ℕ) (target : Name) (place number : ℕ) (names : List Name) (given : List Name)
      → AllByRecursion (λ name. Contains given name) names → Hand given target → HasGiven reading item given
      → Lays reading program item given [] (store_pieces flags ty bytes target place number names)
  stores flags ty bytes target place number [] given all address has = Ending given has
  stores flags ty bytes target place number (name ∷ names) given all address has =
      Laying given (Instruct place (doing (Store flags (pos (number * bytes))) ty (name ∷ target ∷ [])) []) _
      (inl all.0, (address, tt)) tt
      (stores flags ty bytes target (suc place) (suc number) names given all.1 address has)

  all_later : (x : Name) (given names : List Name) → AllByRecursion (λ name. Contains given name) names → AllByRecursion (λ name. Contains (x ∷ given) name) names
  all_later x given [] all = tt
  all_later x given (name ∷ names) all = (contained_later x given name all.0, all_later x given names all.1)

  -- loads give their names, and code goes on behind them
  loads : (flags : MemFlagsShape) (ty : «Type») (bytes : ℕ) (source : Name) (place number : ℕ) (names given earlier : List Name) (rest : List Item)
      → ((others : List Name) → Hand others source) → AllByRecursion (λ name. Contains given name) earlier
      → ((others : List Name) → AllByRecursion (λ name. Contains others name) names → AllByRecursion (λ name. Contains others name) earlier → Lays reading program item others [] rest)
      → Lays reading program item given [] (load_pieces flags ty bytes source place number names ++ rest)
  loads flags ty bytes source place number [] given earlier rest address before then = then given tt before
  loads flags ty bytes source place number (name ∷ names) given earlier rest address before then =
      Laying given (Instruct place (doing (Load flags (pos (number * bytes))) ty (source ∷ [])) (name ∷ [])) _
      (address given, tt) tt
      (loads flags ty bytes source (suc place) (suc number) names (name ∷ given) (name ∷ earlier) rest address
      (contained_first name given, all_later name given earlier before)
      (λ others new old. then others (old.0, new) old.1))

repeated_there : (count : ℕ) (name : Name) (given : List Name) → Contains given name → AllByRecursion (λ other. Contains given other) (replicate count name)
repeated_there zero name given there = tt
repeated_there (suc count) name given there = (there, repeated_there count name given there)

-- places in short lists
second_of : (x y : Name) (more : List Name) → Contains (x ∷ y ∷ more) y
second_of x y more = contained_later x (y ∷ more) y (contained_first y more)

third_of : (x y z : Name) → Contains (x ∷ y ∷ z ∷ []) z
third_of x y z = contained_later x (y ∷ z ∷ []) z (second_of y z [])

three_to_hand : (given_first given_second given_third first second third : Name) (reading : Reading) (other : ℕ) (operation : Operation) (pointer : «Type») (results : List Name)
    → ReadsThree reading first second third given_first given_second given_third → (given : List Name)
    → AllByRecursion (IsToHand reading (Instruct other (doing operation pointer (given_first ∷ given_second ∷ given_third ∷ [])) results) given) (first ∷ second ∷ third ∷ [])
three_to_hand given_first given_second given_third first second third reading other operation pointer results reads given = (
  inr (given_first, reads.first_read, contained_first given_first (given_second ∷ given_third ∷ [])),
  (
    inr (given_second, reads.second_read, second_of given_first given_second (given_third ∷ [])),
    (inr (given_third, reads.third_read, third_of given_first given_second given_third), tt),
  ),
)

pub codes_are_laid : CodesAreLaid
codes_are_laid = record {
  copies = λ reading program flags ty pointer bytes place other operation first names target source given_target given_source reads.
      let item : Item = Instruct other (doing operation pointer (given_target ∷ given_source ∷ [])) [] in
      record {
        begins = λ none. cc;
        lays = loads reading program item flags ty bytes source place 0 (first ∷ names) [] []
            (store_pieces flags ty bytes target (place + length (first ∷ names)) 0 (first ∷ names))
            (λ others. inr (given_source, reads.second_read, contained_later given_target (given_source ∷ []) given_source (contained_first given_source []))) tt
            (λ others new old. stores reading program item flags ty bytes target (place + length (first ∷ names)) 0 (first ∷ names) others new
            (inr (given_target, reads.first_read, contained_first given_target (given_source ∷ []))) tt);
      };
  fills = λ reading program flags ty pointer bytes place other operation number count target given_target constant read.
      let item : Item = Instruct other (doing operation pointer (given_target ∷ [])) [] in
      record {
        begins = λ none. cc;
        lays = Laying [] (Instruct place (computing (Iconst number) ty []) (constant ∷ [])) _ tt tt
            (stores reading program item flags ty bytes target (suc place) 0 (replicate count constant) (constant ∷ []) (repeated_there count constant (constant ∷ []) (contained_first constant []))
            (inr (given_target, read, contained_first given_target [])) tt);
      };
  compares = λ reading program compare ty pointer place other operation left right given_left given_right one two result given_result reads read. record {
    begins = λ none. cc;
    lays = Laying [] (Instruct place (doing (Load (flags_where compare.flags (is_aligned_load compare.condition compare.size compare.left_alignment)) (pos 0)) ty (left ∷ [])) (one ∷ [])) _
        (inr (given_left, reads.first_read, contained_first given_left (given_right ∷ [])), tt) tt
        (Laying (one ∷ []) (Instruct (suc place) (doing (Load (flags_where compare.flags (is_aligned_load compare.condition compare.size compare.right_alignment)) (pos 0)) ty (right ∷ [])) (two ∷ [])) _
        (inr (given_right, reads.second_read, contained_later given_left (given_right ∷ []) given_right (contained_first given_right [])), tt) tt
        (Laying (two ∷ one ∷ []) (Instruct (suc (suc place)) (computing (Compare compare.condition) ty (one ∷ two ∷ [])) (result ∷ [])) []
        (inl (contained_later two (one ∷ []) one (contained_first one [])), (inl (contained_first two (one ∷ [])), tt)) tt
        (Ending (result ∷ two ∷ one ∷ []) ((result, read, contained_first result (two ∷ one ∷ [])), tt))));
  };
  calls = λ reading program callee signature pointer place other operation first second size given_first given_second given_size answer reads. record {
    begins = λ none. cc;
    lays = Laying [] (Instruct place (calling callee signature first second size) (answer ∷ [])) []
        (three_to_hand given_first given_second given_size first second size reading other operation pointer [] reads []) tt
        (Ending (answer ∷ []) tt);
  };
  answers = λ reading program callee signature pointer place other operation first second size given_first given_second given_size answer given_answer reads read. record {
    begins = λ none. cc;
    lays = Laying [] (Instruct place (calling callee signature first second size) (answer ∷ [])) []
        (three_to_hand given_first given_second given_size first second size reading other operation pointer (given_answer ∷ []) reads []) tt
        (Ending (answer ∷ []) ((answer, read, contained_first answer []), tt));
  };
  sets = λ reading program signature pointer place other operation target byte size given_target given_byte given_size wide answer reads. record {
    begins = λ none. cc;
    lays = Laying [] (Instruct place (computing (Convert Uextend) i32 (byte ∷ [])) (wide ∷ [])) _
        (inr (given_byte, reads.second_read, second_of given_target given_byte (given_size ∷ [])), tt) tt
        (Laying (wide ∷ []) (Instruct (suc place) (calling Memset signature target wide size) (answer ∷ [])) [] (
          inr (given_target, reads.first_read, contained_first given_target (given_byte ∷ given_size ∷ [])),
          (inl (contained_first wide []), (inr (given_size, reads.third_read, third_of given_target given_byte given_size), tt)),
        ) tt
        (Ending (answer ∷ wide ∷ []) tt));
  };
  copy_calls = λ reading program no_overlap signature pointer number place other operation target source given_target given_source size answer reads. record {
    begins = λ none. cc;
    lays = Laying [] (Instruct place (computing (Iconst number) pointer []) (size ∷ [])) _ tt tt
        (Laying (size ∷ []) (Instruct (suc place) (calling (copying_function no_overlap) signature target source size) (answer ∷ [])) [] (
          inr (given_target, reads.first_read, contained_first given_target (given_source ∷ [])),
          (inr (given_source, reads.second_read, second_of given_target given_source []), (inl (contained_first size []), tt)),
        ) tt
        (Ending (answer ∷ size ∷ []) tt));
  };
  fill_calls = λ reading program signature pointer filling number place other operation target given_target byte size wide answer read. record {
    begins = λ none. cc;
    lays = Laying [] (Instruct place (computing (Iconst filling) i8 []) (byte ∷ [])) _ tt tt
        (Laying (byte ∷ []) (Instruct (suc place) (computing (Iconst number) pointer []) (size ∷ [])) _ tt tt
        (Laying (size ∷ byte ∷ []) (Instruct (suc (suc place)) (computing (Convert Uextend) i32 (byte ∷ [])) (wide ∷ [])) _
        (inl (second_of size byte []), tt) tt
        (Laying (wide ∷ size ∷ byte ∷ []) (Instruct (suc (suc (suc place))) (calling Memset signature target wide size) (answer ∷ [])) []
        (inr (given_target, read, contained_first given_target []), (inl (contained_first wide (size ∷ byte ∷ [])), (inl (second_of wide size (byte ∷ [])), tt))) tt
        (Ending (answer ∷ wide ∷ size ∷ byte ∷ []) tt))));
  };
  compare_calls = λ reading program condition signature pointer number place other operation left right given_left given_right size answer zero result given_result reads read. record {
    begins = λ none. cc;
    lays = Laying [] (Instruct place (computing (Iconst number) pointer []) (size ∷ [])) _ tt tt
        (Laying (size ∷ []) (Instruct (suc place) (calling Memcmp signature left right size) (answer ∷ [])) _ (
          inr (given_left, reads.first_read, contained_first given_left (given_right ∷ [])),
          (inr (given_right, reads.second_read, second_of given_left given_right []), (inl (contained_first size []), tt)),
        ) tt
        (Laying (answer ∷ size ∷ []) (Instruct (suc (suc place)) (computing (Iconst (pos 0)) i32 []) (zero ∷ [])) _ tt tt
        (Laying (zero ∷ answer ∷ size ∷ []) (Instruct (suc (suc (suc place))) (computing (Compare (sign_condition condition)) i32 (answer ∷ zero ∷ [])) (result ∷ [])) []
        (inl (second_of zero answer (size ∷ [])), (inl (contained_first zero (answer ∷ size ∷ [])), tt)) tt
        (Ending (result ∷ zero ∷ answer ∷ size ∷ []) ((result, read, contained_first result (zero ∷ answer ∷ size ∷ [])), tt)))));
  };
}
