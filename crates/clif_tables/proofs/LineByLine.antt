-- The lines of a table, of which one more is written.
use Rattle.std.proofs.Common.{◌≡◌, ℕ, zero, suc, ◌+◌, ◌<◌, List, [], ◌∷◌, ◌++◌, length, take, get_or, sym, ap, subst, arith, ◌∙◌}
use Rattle.std.specs.declared.fmt.Formatter.{Formatter}
use Rattle.std.specs.Fmt.{HasWritten, decimal}
use Rattle.std.specs.List.{flat_map, enumerate_from}
use Rattle.std.proofs.lemmas.List.Concat.{flat_map-cons}
use Rattle.clif_tables.specs.Preamble.{line, lines}
use mathlib.Core.List.{append-nil, append_assoc}

module _ {A : Type 0} (kind : List ℕ) (text : A → List ℕ) where
  -- the line of an entry with its number
  abbrev line_of : ℕ × A → List ℕ
  line_of entry = line (kind ++ decimal entry.0) (text entry.1)

  -- the lines, from this number on
  abbrev lines_at : ℕ → List A → List ℕ
  lines_at number entries = flat_map line_of (enumerate_from number entries)

  more_at : (number : ℕ) (entries : List A) (k : ℕ) (d : A) → k < length entries
      → lines_at number (take (suc k) entries) ≡ lines_at number (take k entries) ++ line (kind ++ decimal (number + k)) (text (get_or entries k d))
  more_at number [] k d inside = absurd (omega (arith, inside))
  more_at number (x ∷ xs) zero d inside =
      let same : number ≡ number + 0 = omega arith in
      flat_map-cons line_of (number, x) [] ∙ append-nil (line (kind ++ decimal number) (text x)) ∙ ap (λ n. line (kind ++ decimal n) (text x)) same
  more_at number (x ∷ xs) (suc k) d inside =
      let same : number + 1 + k ≡ number + suc k = omega arith in
      let rest = more_at (number + 1) xs k d (omega (arith, inside)) in
      let last : List ℕ = line (kind ++ decimal (number + 1 + k)) (text (get_or xs k d)) in
      flat_map-cons line_of (number, x) (enumerate_from (number + 1) (take (suc k) xs))
      ∙ ap (λ ys. line (kind ++ decimal number) (text x) ++ ys) rest
      ∙ sym (append_assoc (line (kind ++ decimal number) (text x)) (lines_at (number + 1) (take k xs)) last)
      ∙ ap (λ ys. ys ++ last) (sym (flat_map-cons line_of (number, x) (enumerate_from (number + 1) (take k xs))))
      ∙ ap (λ n. lines_at number (x ∷ take k xs) ++ line (kind ++ decimal n) (text (get_or xs k d))) same

  -- one line more
  pub one_line_more : (entries : List A) (k : ℕ) (d : A) → k < length entries
      → lines kind text (take k entries) ++ line (kind ++ decimal k) (text (get_or entries k d)) ≡ lines kind text (take (k + 1) entries)
  one_line_more entries k d inside =
      let more : suc k ≡ k + 1 = omega arith in
      let first : 0 + k ≡ k = omega arith in
      ap (λ n. lines_at 0 (take k entries) ++ line (kind ++ decimal n) (text (get_or entries k d))) (sym first)
      ∙ sym (more_at 0 entries k d inside) ∙ ap (λ n. lines_at 0 (take n entries)) more

-- the lines of a table that is equal
pub lines_same : {W A : Type 0} (took : W → List ℕ → W → Type 0) (f g : Formatter W) (kind : List ℕ) (text : A → List ℕ) (read entries : List A)
    → read ≡ entries → HasWritten took f (lines kind text read) g → HasWritten took f (lines kind text entries) g
lines_same took f g kind text read entries same written = subst (λ xs. HasWritten took f (lines kind text xs) g) same written
