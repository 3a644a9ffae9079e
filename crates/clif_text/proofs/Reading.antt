-- A line that was read, among those before it.
use Rattle.std.proofs.Common.{◌≡◌, ◌≢◌, ℕ, ◌+◌, ◌-◌, ◌<◌, List, [], ◌∷◌, ◌++◌, length, take, get_or, refl, ap, sym, subst, ◌∙◌, inl, inr, arith, Bor, add-one}
use Rattle.std.specs.Prelude.{codes, Result, Ok, Err, IfErr}
use Rattle.std.specs.List.{All}
use Rattle.std.proofs.lemmas.List.{length-take-le}
use Rattle.std.proofs.Math.Seq.{take-suc}
use Rattle.clif_text.specs.declared.reader.Reader.{Reader}
use Rattle.clif_words.specs.Cursor.{texts}
use Rattle.clif_words.specs.Words.{AreWords, HasWord}
use Rattle.clif_words.specs.declared.error.LineError.{LineError}
use Rattle.clif_words.specs.declared.error.LineError.TheVariants as fault
use Rattle.clif_words.specs.Errors.{error_at}
use Rattle.clif_text.specs.Reader.{IsUnreadFor, RefusesWords, WordsSay, LineAdds}
use Rattle.clif_arguments.specs.Header.{HeaderSaid, IsHeader}
use Rattle.clif_text.specs.Script.{lines_of, line_at, IsLineNumber, Said, nothing_said, LineSays, LinesSay, TellsLine}
use Rattle.clif_words.proofs.Left.{length-texts}
use Rattle.clif_words.proofs.Texts.{get_or-texts}

-- a call behind `=` is the line's
pub says_behind : (line : List ℕ) (words given rest : List (List ℕ)) (number : ℕ) (old new : Reader) → AreWords words line → words ≡ given ++ codes "=" ∷ rest → All (λ word. word ≢ codes "=") given → WordsSay given rest number old new → LineAdds line number old new
says_behind line words given rest number old new are parts others says counted =
    let told = says counted in
    let one = told.1 in
    let behind : words ≡ one.names ++ codes "=" ∷ rest = parts ∙ ap (λ ns. ns ++ codes "=" ∷ rest) (sym one.stands.0) in (
      told.0,
      inr (inr (record {
        call = one.call;
        names = one.names;
        stands = (words, are, inr (rest, behind, subst (λ ns. All (λ word. word ≢ codes "=") ns) (sym one.stands.0) others, one.stands.1));
        header = one.header;
        calls = one.calls;
        numbers = one.numbers;
        given = one.given;
      })),
    )

-- and so is one without `=`
pub says_alone : (line : List ℕ) (words : List (List ℕ)) (number : ℕ) (old new : Reader) → AreWords words line → WordsSay [] words number old new → LineAdds line number old new
says_alone line words number old new are says counted =
    let told = says counted in
    let one = told.1 in (
      told.0,
      inr (inr (record {
        call = one.call;
        names = one.names;
        stands = (words, are, inl one.stands);
        header = one.header;
        calls = one.calls;
        numbers = one.numbers;
        given = one.given;
      })),
    )

-- a header line
pub says_header : (line : List ℕ) (words : List (List ℕ)) (head : List ℕ) (rest : List (List ℕ)) (number : ℕ) (state : Said) (header : HeaderSaid) → AreWords words line → words ≡ head ∷ rest → IsHeader (head ∷ rest) state.header header → All (λ word. word ≢ codes "=") words → LineSays number line state (record state { header = header })
says_header line words head rest number state header are parts says others = inr (inl (record {
  words = words;
  are = are;
  names_nothing = others;
  header = subst (λ ws. IsHeader ws state.header header) (sym parts) says;
  same = refl;
}))

-- the line has a word
pub has_first : (line : List ℕ) (words : List (List ℕ)) (word : List ℕ) (rest : List (List ℕ)) → AreWords words line → words ≡ word ∷ rest → HasWord line
has_first line words word rest are parts = record { word = word; words = rest; are = subst (λ ws. AreWords ws line) parts are }

pub has_one : (line : List ℕ) (words given : List (List ℕ)) (word : List ℕ) (rest : List (List ℕ)) → AreWords words line → words ≡ given ++ word ∷ rest → HasWord line
has_one line words [] word rest are parts = has_first line words word rest are parts
has_one line words (first ∷ given) word rest are parts = has_first line words first (given ++ word ∷ rest) are parts

-- whatever it is refused for
pub refuses_words : (line : List ℕ) (error : LineError) → HasWord line → RefusesWords line error
refuses_words line fault.Memory has = tt
refuses_words line (fault.Fault why) has = has

pub may_refuse_words : {T : Type 0} (line : List ℕ) (result : Result T LineError) → HasWord line → IfErr result (RefusesWords line)
may_refuse_words line (Ok value) has = tt
may_refuse_words line (Err error) has = refuses_words line error has

-- one line more at the end
says_more : (number at : ℕ) (lines : List (List ℕ)) (line : List ℕ) (old mid new : Said) → at ≡ number + length lines → LinesSay number lines old mid → LineSays at line mid new → LinesSay number (lines ++ line ∷ []) old new
says_more number at [] line old mid new is same one =
    let here : at ≡ number = is ∙ omega arith in
    (new, subst (λ n. LineSays n line old new) here (subst (λ s. LineSays at line s new) same one), refl)
says_more number at (first ∷ lines) line old mid new is says one =
    (says.0, says.1, says_more (number + 1) at lines line says.0 mid new (is ∙ omega arith) says.2 one)

-- the line at an index, behind those before it
pub lines_more : (text line : List ℕ) (index : ℕ) (old new : Said) → index < length (lines_of text) → line ≡ line_at text (index + 1) → LinesSay 1 (take index (lines_of text)) nothing_said old → LineSays (index + 1) line old new → LinesSay 1 (take (index + 1) (lines_of text)) nothing_said new
lines_more text line index old new inside here before one =
    let lines = lines_of text in
    let one_more : take (index + 1) lines ≡ take index lines ++ line ∷ [] = rw add-one (take-suc lines index [] inside ∙ ap (λ l. take index lines ++ l ∷ []) (ap (λ k. get_or lines k []) (omega arith) ∙ sym here)) in
    let at : index + 1 ≡ 1 + length (take index lines) = omega (arith, length-take-le index lines (omega arith)) in
    subst (λ ls. LinesSay 1 ls nothing_said new) (sym one_more) (says_more 1 (index + 1) (take index lines) line nothing_said old new at before one)

-- as many lines as the text has
pub lines_count : (text : List ℕ) (lines : List (Bor (List ℕ))) → texts lines ≡ lines_of text → length lines ≡ length (lines_of text)
lines_count text lines all = sym (length-texts lines) ∙ ap length all

-- the line at an index, by its number
pub numbered : (text : List ℕ) (lines : List (Bor (List ℕ))) (index : ℕ) → texts lines ≡ lines_of text → index < length lines → IsLineNumber text (index + 1)
numbered text lines index all inside = record {
  first = omega arith;
  last = let e : length lines ≡ length (lines_of text) = lines_count text lines all in omega arith;
}

pub line_here : (text : List ℕ) (lines : List (Bor (List ℕ))) (index : ℕ) (d : Bor (List ℕ)) → texts lines ≡ lines_of text → d.now ≡ [] → (get_or lines index d).now ≡ line_at text (index + 1)
line_here text lines index d all none =
    get_or-texts lines index d ∙ (ap (λ e. get_or (texts lines) index e) none ∙ (ap (λ ls. get_or ls index []) all ∙ ap (λ k. get_or (lines_of text) k []) (omega arith)))

-- a line that was refused, behind those that were read
pub is_unread_line : (text line : List ℕ) (index : ℕ) (error : LineError) (before : Said) → IsLineNumber text (index + 1) → line ≡ line_at text (index + 1) → LinesSay 1 (take index (lines_of text)) nothing_said before → RefusesWords line error → IsUnreadFor text (index + 1) line error
is_unread_line text line index fault.Memory before within here says has = tt
is_unread_line text line index (fault.Fault why) before within here says has =
    let at : index ≡ index + 1 - 1 = omega arith in (
      record {
        within = within;
        has_word = subst HasWord here has;
        before = before;
        read_before = subst (λ n. LinesSay 1 (take n (lines_of text)) nothing_said before) at says;
      },
      here,
    )

-- and so is its refusal
pub tells_line : (text : List ℕ) (number : ℕ) (line : List ℕ) (error : LineError) → IsUnreadFor text number line error → TellsLine text (error_at error number)
tells_line text number line fault.Memory unread = tt
tells_line text number line (fault.Fault why) unread = unread.0
