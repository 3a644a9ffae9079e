-- A constant stands for a comparison of no bytes.
use Rattle.std.proofs.Common.{◌≡◌, ◌∙◌, ℕ, ℤ, Bool, true, false, if◌then◌else◌, [], ◌∷◌, length, refl, sym, ap, arith}
use Rattle.std.specs.Prelude.{pos}
use Rattle.std.specs.declared.cmp.Ordering.TheVariants.{Equal as SameBytes}
use Rattle.clif_types.specs.Types.{bits_of}
use Rattle.clif_types.specs.declared.types.«Type».{«Type»}
use Rattle.clif_meaning.specs.Access.{promised_claims}
use Rattle.clif_meaning.specs.Bits.{Bits, wrapped}
use Rattle.clif_meaning.specs.ByteOperation.{CompareBytes, CompareShape, order_meets}
use Rattle.clif_meaning.specs.Instruction.{Iconst, Instruction}
use Rattle.clif_meaning.specs.Ledger.{Ledger}
use Rattle.clif_meaning.specs.Library.{bytes_at}
use Rattle.clif_meaning.specs.Memory.{Memory, byte_order, bytes_in}
use Rattle.clif_meaning.specs.Name.{Name, answer_of, same_name}
use Rattle.clif_meaning.specs.Outcome.{Gives}
use Rattle.clif_meaning.specs.Program.{Instruct}
use Rattle.clif_meaning.specs.Store.{assigned}
use Rattle.clif_meaning.proofs.LibraryCalls.{claimed_accessible}
use Rattle.clif_expansion.specs.Constants.{computing}
use Rattle.clif_expansion.specs.Emission.{AreGiven, reading_behind}
use Rattle.clif_expansion.specs.Laying.{Ending, Laying}
use Rattle.clif_expansion.specs.PerformedCalls.{IsPerformed}
use Rattle.clif_expansion.specs.Reading.{IsReadAs, Reading}
use Rattle.clif_expansion.proofs.EmittedPrograms.{emitted_result}
use Rattle.clif_expansion.proofs.Placing.{contained_first}
use Rattle.clif_helper_calls.specs.FillStanding.{constant_line, told_of_none}
use Rattle.clif_helper_calls.specs.KnownStanding.{compare_emission}
use Rattle.clif_helper_calls.specs.Lines.{LineStands}
use Rattle.clif_helper_calls.specs.LibraryCodes.{i8}
use Rattle.clif_helper_calls.specs.PerformingCalls.{ReadsTwo}
use Rattle.clif_helper_calls.proofs.Lines.{line_stands}
use Rattle.clif_helper_calls.proofs.Standing.{two_read}

-- what the constant is
told : (holds : Bool) → wrapped 8 (if holds then pos 1 else pos 0) ≡ (if holds then 1 else 0)
told true = refl
told false = refl

module _ (pointer : «Type») (compare : CompareShape) (none : compare.size ≡ 0) (x y : Name) (reading : Reading) (plain ledger : Ledger) where
  abbrev number : ℤ
  number = told_of_none compare.condition

  abbrev last : Instruction Name Name
  last = computing (Iconst number) i8 []

  abbrev behind : Reading
  behind = reading_behind AreGiven reading plain ledger []

  abbrev result : Name
  result = answer_of (length plain.answers) 1

  result_read : IsReadAs behind result (answer_of (length ledger.answers) 0)
  result_read = emitted_result reading plain ledger [] (length plain.answers) 0 (omega arith)

  abbrev bit : (l r : ℕ) → Memory → Bits
  bit l r memory =
      if order_meets compare.condition (byte_order (bytes_in memory (bytes_at (bits_of pointer) l compare.size)) (bytes_in memory (bytes_at (bits_of pointer) r compare.size))) then 1 else 0

  gives : (l r : ℕ) (memory : Memory) → Gives (wrapped 8 number ∷ []) memory ≡ Gives (bit l r memory ∷ []) memory
  gives l r memory =
      ap (λ (b : Bits). Gives (b ∷ []) memory)
      (told (order_meets compare.condition SameBytes)
      ∙ ap (λ (n : ℕ). if order_meets compare.condition (byte_order (bytes_in memory (bytes_at (bits_of pointer) l n)) (bytes_in memory (bytes_at (bits_of pointer) r n))) then 1 else 0) (sym none))

  done : IsPerformed (bits_of pointer) AreGiven reading plain ledger [] last (compare_emission compare pointer x y)
  done = record {
    performs = λ types have' have. record {
      begins = λ empty. cc;
      given = result ∷ [];
      named = (result_read, tt);
      performs = λ world names script memory wide bytes agree sound.
          let l : Bits = script x in
          let r : Bits = script y in record {
            values = bit l r memory ∷ [];
            after = record { names = assigned same_name (result ∷ []) (bit l r memory ∷ []) names; memory = memory };
            outcome =
                let accessible =
                claimed_accessible world (bytes_at (bits_of pointer) l compare.size ∷ bytes_at (bits_of pointer) r compare.size ∷ [])
                (promised_claims (CompareBytes compare) (bits_of pointer) (l ∷ r ∷ [])) sound.claims in
                rw accessible refl;
            runs = (bit l r memory ∷ [], memory, record { gives = gives l r memory; safe = record { claims = tt; within = tt } }, refl);
            kept = λ z other. refl;
          };
    };
    laid = λ program. record {
      begins = λ empty. cc;
      lays = Laying [] (Instruct (length plain.answers) last (result ∷ [])) [] tt tt (Ending (result ∷ []) ((result, result_read, contained_first result []), tt));
    };
    typed = λ types returns have' agree typed. (record { made_at = refl; operands = tt; edges = tt }, tt);
    as_named = (tt, tt);
  }

pub nothing_stands : (pointer : «Type») (compare : CompareShape) (left right given_left given_right : Name) → compare.size ≡ 0
    → LineStands pointer (constant_line compare pointer given_left given_right) (λ reading. ReadsTwo reading left right given_left given_right)
nothing_stands pointer compare a b x y none =
    line_stands pointer (constant_line compare pointer x y) (λ reading. ReadsTwo reading a b x y)
    (λ place. tt) (λ place. record { no_edges = refl; goes_on = refl }) (record { no_edges = refl; goes_on = refl }) (λ place. refl)
    (λ reading later keeps reads. two_read reading later keeps a b x y reads)
    (λ reading plain ledger joined reads may. done pointer compare none x y reading plain ledger)
