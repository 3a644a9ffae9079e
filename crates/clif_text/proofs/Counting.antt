-- What names stand for, behind one call more.
use Rattle.std.proofs.Common.{◌≡◌, ℕ, List, [], ◌∷◌, ◌++◌, length, refl, ap, sym, subst, ◌∙◌, Bool}
use Rattle.std.specs.BTreeMap.{get_by}
use Rattle.std.specs.Cmp.Lexicographic.{slice_cmp}
use Rattle.std.specs.Ordering.{nat_cmp}
use Rattle.clif_calls.specs.declared.call.Call.{Call}
use Rattle.clif_text.specs.declared.reader.Reader.{Reader}
use Rattle.clif_arguments.specs.declared.scope.Scope.{Scope}
use Rattle.clif_text.specs.Grammar.{IsCall}
use Rattle.clif_arguments.specs.Given.{declared_by, declared_from, is_declaration, variables_after, variables_from, names_behind, names_with, is_instruction, first_answer, GiveNames}
use Rattle.clif_arguments.specs.Scope.{given_in, names_of, Counts, KeepsVariables}
use Rattle.clif_arguments.specs.Header.{header_said}
use Rattle.clif_text.specs.Reader.{IsCounted, WordsSay, NamesAnswers}

variables_push : (variables : ℕ) (calls : List Call) (call : Call) → variables_from variables (calls ++ call ∷ []) ≡ variables_after (is_declaration call) (variables_from variables calls)
variables_push variables [] call = refl
variables_push variables (first ∷ calls) call = variables_push (variables_after (is_declaration first) variables) calls call

declared_push : (variables : ℕ) (calls : List Call) (call : Call)
    → declared_from variables (calls ++ call ∷ []) ≡ declared_from variables calls ++ declared_by (is_declaration call) (variables_from variables calls) ∷ []
declared_push variables [] call = refl
declared_push variables (first ∷ calls) call =
    ap (λ rest. declared_by (is_declaration first) variables ∷ rest) (declared_push (variables_after (is_declaration first) variables) calls call)

-- what a scope says that names stand for is what they stand for behind the calls
names_counted : (reader : Reader) → IsCounted reader → names_of reader.scope ≡ names_behind reader.calls.items (given_in reader.scope)
names_counted reader counted =
    ap (λ declared. names_with declared reader.scope.variables (given_in reader.scope)) counted.declared
    ∙ ap (λ variables. names_with (declared_from 0 reader.calls.items) variables (given_in reader.scope)) counted.variables

same_given : (old new : Scope) → new.names ≡ old.names → given_in new ≡ given_in old
same_given old new same = ap (λ names. λ word. get_by (λ key. slice_cmp nat_cmp word key.now) names) same

counted_more : (old new : Reader) (mid : Scope) (call : Call) (declares : Bool) → declares ≡ is_declaration call → Counts declares old.scope mid → KeepsVariables mid new.scope
    → new.calls.items ≡ old.calls.items ++ call ∷ [] → IsCounted old → IsCounted new
counted_more old new mid call declares is counts keeps calls counted =
    let before = old.calls.items in
    record {
      declared = keeps.declared ∙ counts.declared ∙ ap (λ rest. rest ++ declared_by declares old.scope.variables ∷ []) counted.declared
          ∙ ap (λ one. declared_from 0 before ++ one ∷ []) (ap (λ d. declared_by d old.scope.variables) is ∙ ap (declared_by (is_declaration call)) counted.variables)
          ∙ sym (declared_push 0 before call) ∙ ap (declared_from 0) (sym calls);
      variables = keeps.variables ∙ counts.variables ∙ ap (λ d. variables_after d old.scope.variables) is ∙ ap (variables_after (is_declaration call)) counted.variables
          ∙ sym (variables_push 0 before call) ∙ ap (variables_from 0) (sym calls);
    }

-- a call was read and counted, and names were given to its answers
pub words_say : (old new : Reader) (mid : Scope) (call : Call) (given words : List (List ℕ)) (number place : ℕ) (instruction declares : Bool) → IsCall (names_of old.scope) words call → declares ≡ is_declaration call
    → Counts declares old.scope mid → instruction ≡ is_instruction call → place ≡ length old.calls.items → NamesAnswers instruction place given mid new.scope → new.header ≡ old.header → new.calls.items ≡ old.calls.items ++ call ∷ [] → new.lines.items ≡ old.lines.items ++ number ∷ [] → WordsSay given words number old new
words_say old new mid call given words number place instruction declares stands is counts makes at names header calls lines counted = (
  counted_more old new mid call declares is counts names.keeps calls counted,
  record {
    call = call;
    names = given;
    stands = (refl, subst (λ ns. IsCall ns words call) (names_counted old counted) stands);
    header = ap header_said header;
    calls = calls;
    numbers = lines;
    given = subst (λ g. GiveNames (is_instruction call) (length old.calls.items) (first_answer (is_instruction call)) given g (given_in new.scope)) (same_given old.scope mid counts.names) (subst (λ p. GiveNames (is_instruction call) p (first_answer (is_instruction call)) given (given_in mid) (given_in new.scope)) at (subst (λ b. GiveNames b place (first_answer b) given (given_in mid) (given_in new.scope)) makes names.given));
  },
)
