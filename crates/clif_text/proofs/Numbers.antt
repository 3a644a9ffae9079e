-- A number that was read.
use Rattle.std.proofs.Common.{List, ℕ, ℤ, of_z, sym, subst, to_z}
use Rattle.std.specs.Int.{w64}
use Rattle.std.proofs.lemmas.Int.{to_z-of_z}
use Rattle.clif_words.specs.Spelling.{IsNumber}
use Rattle.clif_words.proofs.Figures.{number_fits}

-- the word stands for the number as the code has it
pub number_kept : (word : List ℕ) (number : ℤ) → IsNumber word number → IsNumber word (to_z w64 (of_z w64 number))
number_kept word number stands = subst (IsNumber word) (sym (to_z-of_z w64 number (number_fits word number stands))) stands
