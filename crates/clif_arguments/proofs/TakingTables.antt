-- The words that were taken so far stand for what edges of tables pass, for the items of exception tables, and for the cases
-- of a switch.
use Rattle.std.proofs.Common.{◌≡◌, ℕ, List, [], ◌∷◌, ◌++◌, refl, ap, sym, ◌∙◌, subst}
use Rattle.std.specs.Prelude.{codes}
use Rattle.std.proofs.lemmas.List.{append_assoc, append-nil}
use Rattle.clif_calls.specs.declared.table.Passed.{Passed}
use Rattle.clif_calls.specs.declared.table.TableItem.{TableItem}
use Rattle.clif_calls.specs.declared.switch.SwitchEntry.{SwitchEntry}
use Rattle.clif_arguments.specs.declared.args.Args.{Args}
use Rattle.clif_words.specs.Cursor.{words_left}
use Rattle.clif_arguments.specs.Arguments.{Names, AreItems, ArePassed, AreSwitchCases, IsItem, IsPassed, IsSwitchCase}
use Rattle.clif_arguments.specs.Scope.{names_of}

-- the words between an old and a new state stand for these
pub record TakesMany {A : Type 0} (Are : Names → List (List ℕ) → List A → Type 0) (old new : Args) (items : List A) : Type 0 where
  pub scope : new.scope ≡ old.scope
  pub words : List (List ℕ)
  pub taken : words_left old.words ≡ words ++ words_left new.words
  pub stand : Are (names_of old.scope.now) words items

many_more : {A : Type 0} (Are : Names → List (List ℕ) → List A → Type 0) (first old new : Args) (items : List A) (words : List (List ℕ)) (one : A) → TakesMany Are first old items
    → new.scope ≡ old.scope → words_left old.words ≡ words ++ words_left new.words
    → ((before : List (List ℕ)) → Are (names_of first.scope.now) before items → Are (names_of first.scope.now) (before ++ words) (items ++ one ∷ [])) → TakesMany Are first new (items ++ one ∷ [])
many_more {A} Are first old new items words one before scope taken more = record {
  scope = scope ∙ before.scope;
  words = before.words ++ words;
  taken = before.taken ∙ (ap (λ rest. before.words ++ rest) taken ∙ sym (append_assoc before.words words (words_left new.words)));
  stand = more before.words before.stand;
}

passed_push : (names : Names) (words : List (List ℕ)) (args : List Passed) (word : List ℕ) (one : Passed) → ArePassed names words args → IsPassed names word one
    → ArePassed names (words ++ word ∷ []) (args ++ one ∷ [])
passed_push names [] [] word one all is = (is, tt)
passed_push names [] (b ∷ args) word one all is = absurd all
passed_push names (w ∷ words) [] word one all is = absurd all
passed_push names (w ∷ words) (b ∷ args) word one all is = (all.0, passed_push names words args word one all.1 is)

items_push : (names : Names) (words : List (List ℕ)) (items : List TableItem) (kind what : List ℕ) (one : TableItem) → AreItems names words items → IsItem names kind what one
    → AreItems names (words ++ kind ∷ what ∷ []) (items ++ one ∷ [])
items_push names [] [] kind what one all is = (is, tt)
items_push names [] (b ∷ items) kind what one all is = absurd all
items_push names (w ∷ []) [] kind what one all is = absurd all
items_push names (w ∷ []) (b ∷ items) kind what one all is = absurd all
items_push names (w ∷ v ∷ words) [] kind what one all is = absurd all
items_push names (w ∷ v ∷ words) (b ∷ items) kind what one all is = (all.0, items_push names words items kind what one all.1 is)

cases_push : (names : Names) (words : List (List ℕ)) (entries : List SwitchEntry) (word : List ℕ) (one : SwitchEntry) → AreSwitchCases names words entries → IsSwitchCase names word one
    → AreSwitchCases names (words ++ word ∷ []) (entries ++ one ∷ [])
cases_push names [] [] word one all is = (is, tt)
cases_push names [] (b ∷ entries) word one all is = absurd all
cases_push names (w ∷ words) [] word one all is = absurd all
cases_push names (w ∷ words) (b ∷ entries) word one all is = (all.0, cases_push names words entries word one all.1 is)

pub passed_more : (first old new : Args) (args : List Passed) (word : List ℕ) (one : Passed) → TakesMany ArePassed first old args → new.scope ≡ old.scope
    → words_left old.words ≡ word ∷ words_left new.words → IsPassed (names_of old.scope.now) word one → TakesMany ArePassed first new (args ++ one ∷ [])
passed_more first old new args word one before scope taken is =
    many_more ArePassed first old new args (word ∷ []) one before scope taken
    (λ words all. passed_push (names_of first.scope.now) words args word one all (subst (λ s. IsPassed (names_of s.now) word one) before.scope is))

pub items_more : (first old new : Args) (items : List TableItem) (kind what : List ℕ) (one : TableItem) → TakesMany AreItems first old items → new.scope ≡ old.scope
    → words_left old.words ≡ kind ∷ what ∷ words_left new.words → IsItem (names_of old.scope.now) kind what one → TakesMany AreItems first new (items ++ one ∷ [])
items_more first old new items kind what one before scope taken is =
    many_more AreItems first old new items (kind ∷ what ∷ []) one before scope taken
    (λ words all. items_push (names_of first.scope.now) words items kind what one all (subst (λ s. IsItem (names_of s.now) kind what one) before.scope is))

pub cases_more : (first old new : Args) (entries : List SwitchEntry) (word : List ℕ) (one : SwitchEntry) → TakesMany AreSwitchCases first old entries → new.scope ≡ old.scope
    → words_left old.words ≡ word ∷ words_left new.words → IsSwitchCase (names_of old.scope.now) word one → TakesMany AreSwitchCases first new (entries ++ one ∷ [])
cases_more first old new entries word one before scope taken is =
    many_more AreSwitchCases first old new entries (word ∷ []) one before scope taken
    (λ words all. cases_push (names_of first.scope.now) words entries word one all (subst (λ s. IsSwitchCase (names_of s.now) word one) before.scope is))

pub passed_none : (args : Args) → TakesMany ArePassed args args []
passed_none args = record { scope = refl; words = []; taken = refl; stand = tt }

pub items_none : (args : Args) → TakesMany AreItems args args []
items_none args = record { scope = refl; words = []; taken = refl; stand = tt }

pub cases_none : (args : Args) → TakesMany AreSwitchCases args args []
cases_none args = record { scope = refl; words = []; taken = refl; stand = tt }

-- the closing parenthesis comes behind them
pub passed_closed : (first old new : Args) (args : List Passed) → TakesMany ArePassed first old args → new.scope ≡ old.scope → words_left old.words ≡ codes ")" ∷ words_left new.words
    → (words : List (List ℕ)) × (words_left first.words ≡ words ++ codes ")" ∷ words_left new.words) × ArePassed (names_of first.scope.now) words args
passed_closed first old new args before scope closed = (before.words, before.taken ∙ ap (λ rest. before.words ++ rest) closed, before.stand)

-- all words were taken
all_taken : {A : Type 0} (Are : Names → List (List ℕ) → List A → Type 0) (first old : Args) (items : List A) → TakesMany Are first old items → words_left old.words ≡ []
    → (words_left old.words ≡ []) × Are (names_of first.scope.now) (words_left first.words) items
all_taken {A} Are first old items before none =
    (none, subst (λ words. Are (names_of first.scope.now) words items) (sym (before.taken ∙ ap (λ rest. before.words ++ rest) none ∙ append-nil before.words)) before.stand)

pub passed_all : (first old : Args) (args : List Passed) → TakesMany ArePassed first old args → words_left old.words ≡ []
    → (words_left old.words ≡ []) × ArePassed (names_of first.scope.now) (words_left first.words) args
passed_all first old args before none = all_taken ArePassed first old args before none

pub items_all : (first old : Args) (items : List TableItem) → TakesMany AreItems first old items → words_left old.words ≡ []
    → (words_left old.words ≡ []) × AreItems (names_of first.scope.now) (words_left first.words) items
items_all first old items before none = all_taken AreItems first old items before none

pub cases_all : (first old : Args) (entries : List SwitchEntry) → TakesMany AreSwitchCases first old entries → words_left old.words ≡ []
    → (words_left old.words ≡ []) × AreSwitchCases (names_of first.scope.now) (words_left first.words) entries
cases_all first old entries before none = all_taken AreSwitchCases first old entries before none

pub ruleset table_rules = (passed_none, passed_more, passed_closed, passed_all, items_none, items_more, items_all, cases_none, cases_more, cases_all)
