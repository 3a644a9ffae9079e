-- The names of a ledger's blocks: no two are the same, and each was answered.
use Rattle.std.proofs.Common.{◌≡◌, ◌<◌, ◌≤◌, ℕ, suc, Bool, true, false, cond, List, [], ◌∷◌, ◌++◌, length, map, refl, sym, ◌∙◌, ap, ap₂, arith, subst, Option, Some, None}
use Rattle.std.specs.Prelude.{IsTrue, find, fold, if◌then◌else◌, is_some}
use Rattle.std.specs.List.{AllByRecursion}
use Rattle.clif_meaning.specs.Instruction.{Edge, Instruction, Operation}
use Rattle.clif_meaning.specs.Ledger.{BlockState, Ledger, answers_to, changed_by, empty_ledger, is_inserted, is_terminator, led_by, ledger_after, ledger_with, new_block, next_answer, state_has, with_begun, with_begun_at, with_filled_at, with_instruction, with_predecessor, with_terminator}
use Rattle.clif_meaning.specs.Name.{Name, same_name}
use Rattle.clif_meaning.specs.Request.{Request, CreateBlock, Script}
use Rattle.clif_meaning.proofs.Effects.{MakesNoBlock, LedgerEffect, ledger_effect, Keeps, Lays, Changes, Begins, Creates, Enters, ChangesEach, Declares, Touches, Reads, Marks, Appends}
use Rattle.clif_expansion.proofs.Among.{changed_at, keeps_leading}
use Rattle.clif_expansion.proofs.EmittedPrograms.{one_longer}
use Rattle.clif_expansion.proofs.Names.{equal_names, names_equal}

abbrev pub names_of : List BlockState → List Name
names_of states = map (λ state. state.block) states

-- CALLS KEEP NAMES --------------------------------------------------------------------------------------------------------

mapped_names : (change : BlockState → BlockState) → ((state : BlockState) → (change state).block ≡ state.block) → (states : List BlockState) → names_of (map change states) ≡ names_of states
mapped_names change keeps [] = refl
mapped_names change keeps (state ∷ states) = ap₂ (λ (first : Name) (rest : List Name). first ∷ rest) (keeps state) (mapped_names change keeps states)

-- one block's state changed
names_at : (block : Name) (change : BlockState → BlockState) → ((state : BlockState) → (change state).block ≡ state.block) → (states : List BlockState)
    → names_of (map (changed_at block change) states) ≡ names_of states
names_at block change keeps states = mapped_names (changed_at block change) (λ state. by (same_name state.block block) state) states
  where
    by : (c : Bool) (state : BlockState) → (if c then change state else state).block ≡ state.block
    by true state = keeps state
    by false state = refl

begun_names : (ledger : Ledger) (current : Option Name) → names_of (with_begun_at ledger current).blocks ≡ names_of ledger.blocks
begun_names ledger None = refl
begun_names ledger (Some block) = by (is_inserted ledger block)
  where
    by : (c : Bool) → names_of (map (changed_at block (λ state. record state { is_pristine = false })) (if c then ledger else record ledger { layout = ledger.layout ++ block ∷ [] }).blocks) ≡ names_of ledger.blocks
    by true = names_at block (λ state. record state { is_pristine = false }) (λ state. refl) ledger.blocks
    by false = names_at block (λ state. record state { is_pristine = false }) (λ state. refl) ledger.blocks

ended_names : (ledger : Ledger) (operation : Operation) → names_of (with_terminator ledger operation).blocks ≡ names_of ledger.blocks
ended_names ledger operation = by (is_terminator operation) ledger.current
  where
    by : (c : Bool) (current : Option Name) → names_of (if c then with_filled_at ledger current else ledger).blocks ≡ names_of ledger.blocks
    by true None = refl
    by true (Some block) = names_at block (λ state. record state { is_filled = true }) (λ state. refl) ledger.blocks
    by false current = refl

led_names : (branch : Name) (ledger : Ledger) (edges : List (Edge Name Name)) → names_of (fold (with_predecessor branch) ledger edges).blocks ≡ names_of ledger.blocks
led_names branch ledger [] = refl
led_names branch ledger (edge ∷ edges) =
    led_names branch (with_predecessor branch ledger edge) edges
    ∙ names_at edge.target (led_by branch) (keeps_leading branch).block ledger.blocks

instruction_names : (ledger : Ledger) (instruction : Instruction Name Name) → names_of (with_instruction ledger instruction).blocks ≡ names_of ledger.blocks
instruction_names ledger instruction =
    led_names (next_answer ledger) (with_terminator (with_begun ledger) instruction.operation) instruction.edges
    ∙ ended_names (with_begun ledger) instruction.operation ∙ begun_names ledger ledger.current

abbrev created : Ledger → Request → List Name
created ledger CreateBlock = next_answer ledger ∷ []
created ledger _ = []

none_more : (xs ys : List Name) → xs ≡ ys → xs ≡ ys ++ []
none_more xs [] same = same
none_more xs (y ∷ ys) same = same ∙ ap (λ (rest : List Name). y ∷ rest) (none_more ys ys refl)

new_names : (states : List BlockState) (block : Name) → names_of (states ++ new_block block ∷ []) ≡ names_of states ++ block ∷ []
new_names [] block = refl
new_names (state ∷ states) block = ap (λ (rest : List Name). state.block ∷ rest) (new_names states block)

-- a call that makes no block keeps them
kept_names : (ledger : Ledger) (request : Request) → MakesNoBlock request → names_of (changed_by ledger request).blocks ≡ names_of ledger.blocks
kept_names ledger request made = by (ledger_effect request)
  where
    of_ledger : (other : Ledger) → changed_by ledger request ≡ other → names_of other.blocks ≡ names_of ledger.blocks → names_of (changed_by ledger request).blocks ≡ names_of ledger.blocks
    of_ledger other is same = ap (λ (l : Ledger). names_of l.blocks) is ∙ same

    of_request : (other : Request) → request ≡ other → names_of (changed_by ledger other).blocks ≡ names_of ledger.blocks
        → names_of (changed_by ledger request).blocks ≡ names_of ledger.blocks
    of_request other is same = ap (λ (r : Request). names_of (changed_by ledger r).blocks) is ∙ same

    by : LedgerEffect request → names_of (changed_by ledger request).blocks ≡ names_of ledger.blocks
    by (Keeps stays is) = of_ledger _ (is ledger) refl
    by (Lays layout tables jump_tables exception_tables stays is) = of_ledger _ (is ledger) refl
    by (Changes block change keeps stays is) = of_ledger _ (is ledger) (names_at block change keeps.name ledger.blocks)
    by (Begins stays is) = of_ledger _ (is ledger) (begun_names ledger ledger.current)
    by (Creates is) = absurd (subst MakesNoBlock is made)
    by (Enters block is) = of_request _ is refl
    by (ChangesEach change keeps stays is) = of_ledger _ (is ledger) (mapped_names change keeps.name ledger.blocks)
    by (Declares ty is) = of_request _ is refl
    by (Touches variable value is) = of_request _ is refl
    by (Reads variable is) = of_request _ is (begun_names ledger ledger.current)
    by (Marks need is) = of_request _ is refl
    by (Appends entries instruction is) = of_request _ is (instruction_names ledger instruction)

pub asked_names : (ledger : Ledger) (request : Request) → names_of (changed_by ledger request).blocks ≡ names_of ledger.blocks ++ created ledger request
asked_names ledger CreateBlock = new_names ledger.blocks (next_answer ledger)
asked_names ledger request = none_more _ (names_of ledger.blocks) (kept_names ledger request tt)

-- APART -------------------------------------------------------------------------------------------------------------------

abbrev pub AreApart : List Name → Type 0
AreApart [] = Unit {0}
AreApart (x ∷ xs) = AllByRecursion (λ y. x ≡ y → ⊥) xs × AreApart xs

abbrev pub AreMade : ℕ → List Name → Type 0
AreMade n names = AllByRecursion (λ x. x.place < n) names

made_on : (n m : ℕ) (names : List Name) → n ≤ m → AreMade n names → AreMade m names
made_on n m [] more made = tt
made_on n m (x ∷ names) more made = (let below = made.0 in omega (arith, below, more), made_on n m names more made.1)

made_joined : (n : ℕ) (xs ys : List Name) → AreMade n xs → AreMade n ys → AreMade n (xs ++ ys)
made_joined n [] ys made more = more
made_joined n (x ∷ xs) ys made more = (made.0, made_joined n xs ys made.1 more)

-- a name behind all of these
all_others : (n : ℕ) (xs : List Name) (y x : Name) → AllByRecursion (λ z. x ≡ z → ⊥) xs → (x ≡ y → ⊥) → AllByRecursion (λ z. x ≡ z → ⊥) (xs ++ y ∷ [])
all_others n [] y x all other = (other, tt)
all_others n (z ∷ xs) y x all other = (all.0, all_others n xs y x all.1 other)

apart_joined : (n : ℕ) (xs : List Name) (y : Name) → AreApart xs → AreMade n xs → n ≤ y.place → AreApart (xs ++ y ∷ [])
apart_joined n [] y apart made behind = (tt, tt)
apart_joined n (x ∷ xs) y apart made behind = (
  all_others n xs y x apart.0 (λ same. let place = ap (λ (z : Name). z.place) same in let below = made.0 in absurd (omega (arith, place, below, behind))),
  apart_joined n xs y apart.1 made.1 behind,
)

-- The names of a ledger's blocks are apart, and were answered.
pub record HasApart (ledger : Ledger) : Type 0 where
  pub apart : AreApart (names_of ledger.blocks)
  pub made : AreMade (length ledger.answers) (names_of ledger.blocks)

asked_apart : (ledger : Ledger) (request : Request) → HasApart ledger → HasApart (ledger_with ledger request)
asked_apart ledger request has =
    let longer : length (ledger_with ledger request).answers ≡ suc (length ledger.answers) = one_longer ledger.answers (answers_to ledger request) in
    let made = made_on (length ledger.answers) (length (ledger_with ledger request).answers) (names_of ledger.blocks) (omega (arith, longer)) has.made in
    record {
      apart = subst AreApart (sym (asked_names ledger request)) (apart_on request);
      made = subst (AreMade (length (ledger_with ledger request).answers)) (sym (asked_names ledger request))
          (made_joined (length (ledger_with ledger request).answers) (names_of ledger.blocks) (created ledger request) made (made_now request (length (ledger_with ledger request).answers) (omega (arith, longer))));
    }
  where
    with_none : (xs : List Name) → AreApart xs → AreApart (xs ++ [])
    with_none xs apart = subst AreApart (none_more xs xs refl) apart

    apart_on : (r : Request) → AreApart (names_of ledger.blocks ++ created ledger r)
    apart_on CreateBlock = apart_joined (length ledger.answers) (names_of ledger.blocks) (next_answer ledger) has.apart has.made (omega arith)
    apart_on _ = with_none (names_of ledger.blocks) has.apart

    made_now : (r : Request) (n : ℕ) → length ledger.answers < n → AreMade n (created ledger r)
    made_now CreateBlock n below = (below, tt)
    made_now _ n below = tt

pub all_apart : (script : Script) (ledger : Ledger) → HasApart ledger → HasApart (fold ledger_with ledger script)
all_apart [] ledger has = has
all_apart (request ∷ script) ledger has = all_apart script (ledger_with ledger request) (asked_apart ledger request has)

pub script_apart : (script : Script) → HasApart (ledger_after script)
script_apart script = all_apart script empty_ledger (record { apart = tt; made = tt })

-- WHAT IS FOUND -----------------------------------------------------------------------------------------------------------

-- what is found of a block is said of each state of it
pub found_apart : (f : BlockState → Bool) (x : Name) (states : List BlockState) → AreApart (names_of states)
    → AllByRecursion (λ state. state.block ≡ x → state_has f (find (λ s. same_name s.block x) states) ≡ f state) states
found_apart f x [] apart = tt
found_apart f x (first ∷ states) apart = (
  (λ same. ap (λ (c : Bool). state_has f (cond c (Some first) (find (λ s. same_name s.block x) states))) (equal_names first.block x same)),
  later states apart.0 (found_apart f x states apart.1),
)
  where
    by : (state : BlockState) → (first.block ≡ state.block → ⊥) → state.block ≡ x → (c : Bool) → same_name first.block x ≡ c → c ≡ false
    by state other same true is = absurd (other (names_equal first.block x is ∙ sym same))
    by state other same false is = refl

    later : (rest : List BlockState) → AllByRecursion (λ y. first.block ≡ y → ⊥) (names_of rest)
        → AllByRecursion (λ state. state.block ≡ x → state_has f (find (λ s. same_name s.block x) states) ≡ f state) rest
        → AllByRecursion (λ state. state.block ≡ x → state_has f (cond (same_name first.block x) (Some first) (find (λ s. same_name s.block x) states)) ≡ f state) rest
    later [] others all = tt
    later (state ∷ rest) others all = (
      (λ same. ap (λ (c : Bool). state_has f (cond c (Some first) (find (λ s. same_name s.block x) states))) (by state others.0 same (same_name first.block x) refl) ∙ all.0 same),
      later rest others.1 all.1,
    )

-- a block that is there was answered
pub there_made : (n : ℕ) (x : Name) (states : List BlockState) → AreMade n (names_of states) → IsTrue (is_some (find (λ s. same_name s.block x) states)) → x.place < n
there_made n x [] made there = let no_way : ⊥ = cc in absurd no_way
there_made n x (state ∷ states) made there = by (same_name state.block x) refl there (there_made n x states made.1)
  where
    by : (c : Bool) → same_name state.block x ≡ c → IsTrue (is_some (cond c (Some state) (find (λ s. same_name s.block x) states)))
        → (IsTrue (is_some (find (λ s. same_name s.block x) states)) → x.place < n) → x.place < n
    by true is here rest = subst (λ (y : Name). y.place < n) (names_equal state.block x is) made.0
    by false is here rest = rest here
