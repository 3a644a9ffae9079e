use Rattle.std.proofs.Common.{List, ℕ, ◌∷◌, ap, sym, subst, ◌∙◌, ◌≢◌, Bor}
use Rattle.std.specs.List.{All}
use Rattle.std.proofs.lemmas.Result.{on_ok_weaker}
use Rattle.std.specs.Prelude.{codes}
use Rattle.clif_words.specs.Cursor.{texts, words_left}
use Rattle.clif_words.specs.Words.{AreWords}
use Rattle.clif_arguments.specs.Header.{header_said}
use Rattle.clif_text.specs.Reader.{said_to}
use Rattle.clif_text.proofs.Reading.{says_alone, says_behind, says_header, has_first, has_one, refuses_words, may_refuse_words}
use Rattle.clif_text.proofs.reader.Reader.line.Goals as goal

pub returns-in-Some-clause-ok : goal.returns-in-Some-clause-ok
returns-in-Some-clause-ok c =
    let parts = ap texts (sym c.as_slice-words.ensures.value) ∙ c.in-Some.ensures.some.0 in
    on_ok_weaker c.call.result (λ says. says_behind c.args.line.now (texts c.in_ok-words.words.items) (texts c.in-Some.names.now) (texts c.in-Some.rest.now) c.args.number c.args.self.now c.call.new.self c.in_ok-words.ensures parts c.in-Some.ensures.some.1 says) c.call.ensures

pub returns-then-is_empty-clause-err : goal.returns-then-is_empty-clause-err
returns-then-is_empty-clause-err c =
    let parts = ap texts (sym c.as_slice-words.ensures.value) ∙ c.in-Some.ensures.some.0 in
    refuses_words c.args.line.now c.wanted.result (has_one c.args.line.now _ (texts c.in-Some.names.now) (codes "=") (texts c.in-Some.rest.now) c.in_ok-words.ensures parts)

pub returns-in-Some-clause-err : goal.returns-in-Some-clause-err
returns-in-Some-clause-err c =
    let parts = ap texts (sym c.as_slice-words.ensures.value) ∙ c.in-Some.ensures.some.0 in
    may_refuse_words c.args.line.now c.call.result (has_one c.args.line.now _ (texts c.in-Some.names.now) (codes "=") (texts c.in-Some.rest.now) c.in_ok-words.ensures parts)

pub returns-in-Some-split_first-clause-ok : goal.returns-in-Some-split_first-clause-ok
returns-in-Some-split_first-clause-ok c =
    let parts = ap texts (sym c.as_slice-words.ensures.value ∙ c.in-Some-split_first.ensures.cases.0) in
    let head = c.in-Some-split_first.head.now.now in
    let left = parts ∙ ap (λ rest. head ∷ rest) (sym c.new.ensures) in
    let others = subst (λ ws. All (λ word. word ≢ codes "=") (texts ws)) c.as_slice-words.ensures.value c.in_default.ensures.none in
    on_ok_weaker c.read.result (λ says counted. (record { declared = counted.declared; variables = counted.variables }, says_header c.args.line.now (texts c.in_ok-words.words.items) head (words_left c.new.result) c.args.number (said_to c.args.self.now) (header_said c.read.new.self) c.in_ok-words.ensures left says others)) c.read.ensures

pub returns-in-Some-split_first-clause-err : goal.returns-in-Some-split_first-clause-err
returns-in-Some-split_first-clause-err c =
    let parts = ap texts (sym c.as_slice-words.ensures.value ∙ c.in-Some-split_first.ensures.cases.0) in
    may_refuse_words c.args.line.now c.read.result (has_first c.args.line.now _ c.in-Some-split_first.head.now.now (texts c.in-Some-split_first.rest.now) c.in_ok-words.ensures parts)

pub returns-clause-err : goal.returns-clause-err
returns-clause-err c =
    let parts = ap texts (sym c.as_slice-words.ensures.value ∙ c.in-Some-split_first.ensures.cases.0) in
    may_refuse_words c.args.line.now c.call-in-Some-2.result (has_first c.args.line.now _ c.in-Some-split_first.head.now.now (texts c.in-Some-split_first.rest.now) c.in_ok-words.ensures parts)

pub returns-clause-ok : goal.returns-clause-ok
returns-clause-ok c =
    let are = subst (λ (words : List (Bor (List ℕ))). AreWords (texts words) c.args.line.now) (sym c.as_slice-words.ensures.value) c.in_ok-words.ensures in
    on_ok_weaker c.call-in-Some-2.result (λ says. says_alone c.args.line.now (texts c.as_slice-words.result.now) c.args.number c.args.self.now c.call-in-Some-2.new.self are says) c.call-in-Some-2.ensures
