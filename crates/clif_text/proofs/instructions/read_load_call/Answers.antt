-- The words are the name with the type behind it, the flags' words, the address's and the offset's.
use Rattle.std.proofs.Common.{List, ℕ, ◌∷◌, ◌++◌, [], ap, subst, sym}
use Rattle.std.specs.Int.{w32}
use Rattle.std.proofs.lemmas.Int.{to_z-of_z}
use Rattle.clif_words.specs.Cursor.{words_left}
use Rattle.clif_arguments.specs.Arguments.{IsAnswer, IsLastOffset}
use Rattle.clif_arguments.specs.Scope.{names_of}
use Rattle.clif_arguments.proofs.Offsets.{offset_fits, three_taken}
use Rattle.clif_text.proofs.instructions.read_load_call.Goals as goal

pub returns : goal.returns
returns c =
    let flags = c.flags-flags.ensures.flags in
    let p = c.in_ok-p.ensures.ok in
    let offset = c.in_ok-offset.ensures.ok in
    let words = flags.0 ++ (p.0 ∷ offset.0) in
    let taken = three_taken flags.0 (p.0 ∷ []) offset.0 (words_left c.args.args.now.words) (words_left c.flags-flags.new.self.words) (words_left c.value.new.self.words) (words_left c.last_offset.new.self.words) flags.1 p.1 offset.1 in
    let stands = subst (λ scope. IsAnswer (names_of scope.now) p.0 c.in_ok-p.p) c.flags-flags.ensures.scope p.2 in
    let number = subst (IsLastOffset offset.0) (sym (to_z-of_z w32 c.in_ok-offset.offset (offset_fits offset.0 c.in_ok-offset.offset offset.2))) offset.2 in
    (words, taken, (c.args.suffix.now, p.0, flags.0, offset.0, ap (λ (head : List ℕ). head ∷ words) c.requires, c.in-Some.ensures, flags.2, stands, number))
