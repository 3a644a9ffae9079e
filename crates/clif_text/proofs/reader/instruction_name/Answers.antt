use Rattle.std.proofs.Common.{◌≡◌, ◌≢◌, ℕ, List, ◌∷◌, lit<, true, Bool, Bor, Option, Some, None}
use Rattle.std.specs.Prelude.{MatchOption, IfSome, IfNone}
use Rattle.std.proofs.lemmas.Str.Pattern.{strip_prefix_char}
use Rattle.clif_text.proofs.reader.instruction_name.Goals as goal

found_name : (instruction : Bool) (word : List ℕ) (found : Option (Bor (List ℕ))) → instruction ≡ true → MatchOption found ((rest : List ℕ) → word ≢ 64 ∷ rest) (λ rest. word ≡ 64 ∷ rest.now) → IfSome found (λ name. (instruction ≡ true) × (word ≡ 64 ∷ name.now))
found_name instruction word (Some name) makes is = (makes, is)
found_name instruction word None makes is = tt

found_none : (instruction : Bool) (word : List ℕ) (found : Option (Bor (List ℕ))) → MatchOption found ((rest : List ℕ) → word ≢ 64 ∷ rest) (λ rest. word ≡ 64 ∷ rest.now) → IfNone found ((name : List ℕ) → instruction ≡ true → word ≢ 64 ∷ name)
found_none instruction word (Some name) is = tt
found_none instruction word None is = λ name makes. is name

pub returns-then-instruction : goal.returns-then-instruction
returns-then-instruction c =
    let found = strip_prefix_char 64 c.args.word.now c.strip_prefix.result c.strip_prefix.ensures.cases (lit< tt) in record {
      some = found_name c.args.instruction c.args.word.now c.strip_prefix.result c.if-instruction.true found;
      none = found_none c.args.instruction c.args.word.now c.strip_prefix.result found;
    }
