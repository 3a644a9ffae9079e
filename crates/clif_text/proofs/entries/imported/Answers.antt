-- The words are those that are said of the function, its name's and its signature's.
use Rattle.std.proofs.Common.{◌∷◌, ◌++◌, [], ap, refl, sym, subst, ◌∙◌}
use Rattle.std.specs.Prelude.{codes}
use Rattle.std.proofs.lemmas.List.{append_assoc}
use Rattle.clif_words.specs.Cursor.{words_left}
use Rattle.clif_words.specs.Spelling.{flag_word}
use Rattle.clif_arguments.specs.Arguments.{IsAnswer}
use Rattle.clif_arguments.specs.Scope.{names_of}
use Rattle.clif_arguments.proofs.Offsets.{three_taken}
use Rattle.clif_text.proofs.entries.imported.Goals as goal

pub returns : goal.returns
returns c =
    let near = flag_word c.has-colocated.result (codes "colocated") in
    let patched = flag_word c.has-patchable.result (codes "patchable") in
    let name = c.in_ok-name.ensures.ok in
    let signature = c.in_ok-signature.ensures.ok in
    let last = name.0 ++ signature.0 ∷ [] in
    let left = words_left c.signature.new.self.words in
    let named = name.1 ∙ (ap (λ rest. name.0 ++ rest) signature.1 ∙ sym (append_assoc name.0 (signature.0 ∷ []) left)) in
    let taken = three_taken near patched last (words_left c.args.args.now.words) (words_left c.has-colocated.new.self.words) (words_left c.has-patchable.new.self.words) left c.has-colocated.ensures.taken c.has-patchable.ensures.taken named in
    let scope = c.in_ok-name.ensures.scope ∙ (c.has-patchable.ensures.scope ∙ c.has-colocated.ensures.scope) in
    let stands = subst (λ at. IsAnswer (names_of at.now) signature.0 c.in_ok-signature.signature) scope signature.2 in
    (near ++ (patched ++ last), taken, (name.0, signature.0, refl, name.2, stands))
