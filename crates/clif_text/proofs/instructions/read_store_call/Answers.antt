-- The words are the name, the flags' words, those of the value and the address, and the offset's.
use Rattle.std.proofs.Common.{List, ℕ, ◌∷◌, ◌++◌, [], ap, subst, sym}
use Rattle.std.specs.Int.{w32}
use Rattle.std.proofs.lemmas.Int.{to_z-of_z}
use Rattle.clif_words.specs.Cursor.{words_left}
use Rattle.clif_arguments.specs.Arguments.{AreAnswers, IsLastOffset}
use Rattle.clif_arguments.specs.Scope.{names_of}
use Rattle.clif_arguments.proofs.Offsets.{offset_fits, three_taken}
use Rattle.clif_text.proofs.instructions.read_store_call.Goals as goal

pub returns : goal.returns
returns c =
    let flags = c.flags-flags.ensures.flags in
    let two = c.in_ok-x.ensures.ok in
    let offset = c.in_ok-offset.ensures.ok in
    let words = flags.0 ++ (two.0 ++ offset.0) in
    let taken = three_taken flags.0 two.0 offset.0 (words_left c.args.args.now.words) (words_left c.flags-flags.new.self.words) (words_left c.two_values.new.self.words) (words_left c.last_offset.new.self.words) flags.1 two.1 offset.1 in
    let stand = subst (λ scope. AreAnswers (names_of scope.now) two.0 (c.in_ok-x.x ∷ c.in_ok-x.p ∷ [])) c.flags-flags.ensures.scope two.2 in
    let number = subst (IsLastOffset offset.0) (sym (to_z-of_z w32 c.in_ok-offset.offset (offset_fits offset.0 c.in_ok-offset.offset offset.2))) offset.2 in
    (words, taken, (flags.0, two.0, offset.0, ap (λ (head : List ℕ). head ∷ words) c.requires, flags.2, stand, number))
