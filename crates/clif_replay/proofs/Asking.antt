-- The plain calls of a script's calls ask for stack maps, and assign to variables, as the script's calls do.
use Rattle.std.proofs.Common.{◌≡◌, ◌<◌, inl, inr, ℕ, zero, suc, List, [], ◌∷◌, ◌++◌, length, refl, sym, ◌∙◌, ap, subst, arith}
use Rattle.std.specs.Prelude.{◌⊎◌, Some, slice_get}
use Rattle.std.specs.List.{AllByRecursion, AllZip}
use Rattle.clif_tables.specs.Entries.{TableEntry}
use Rattle.clif_nodes.specs.declared.nodes.ValueNode.{ValueNode}
use Rattle.clif_meaning.specs.Instruction.{Instruction}
use Rattle.clif_meaning.specs.Ledger.{VariableState, is_marked, ledger_after, marked}
use Rattle.clif_meaning.specs.Name.{Name}
use Rattle.clif_meaning.specs.Request.{AnsweredCall, Request, MakeEntry, DefVar, NeedStackMap, OfValue, OfVariable, Build, GivenEntry, Script, script_of}
use Rattle.clif_expansion.specs.Emission.{LastResults, ledger_importing, line_calls, reading_across, reading_importing, reading_line}
use Rattle.clif_expansion.specs.JoinedCalls.{AreJoinedCalls, Asking, Emitting, Giving, IsBuiltWith, IsGiven, IsSame, Starting, Switching}
use Rattle.clif_expansion.specs.Joining.{IsJoined, IsReadRequest, reading_after}
use Rattle.clif_expansion.specs.Reading.{IsReadAs, Reading}
use Rattle.clif_expansion.specs.ScriptCall.{Ask, Emit, ScriptCall, ledger_of, with_imports}
use Rattle.clif_expansion.specs.Switching.{IsDecidingCall, targets_of}
use Rattle.clif_expansion.proofs.Across.{across_before}
use Rattle.clif_expansion.proofs.EmittedPrograms.{emitted_before}
use Rattle.clif_expansion.proofs.Imports.{importing_before, importing_longer}
use Rattle.clif_expansion.proofs.JoinedCalls.{calls_made, joined_calls}
use Rattle.clif_expansion.proofs.Joins
use Rattle.clif_expansion.proofs.Joins.{KeepsReading}
use Rattle.clif_builder.specs.Context.{ContextState}
use Rattle.clif_builder.specs.Ledger.{TracksAgree}
use Rattle.clif_replay.specs.Replayed.{AskAlike, RecordsAsAsked}

-- ELEMENTS ----------------------------------------------------------------------------------------------------------------

-- the list has it
abbrev Has : {X : Type 0} → List X → X → Type 0
Has [] x = ⊥
Has (y ∷ xs) x = (y ≡ x) ⊎ Has xs x

from_place : {X : Type 0} (xs : List X) (x : X) (place : ℕ) → slice_get xs place ≡ Some x → Has xs x
from_place [] x place is = let no_way : ⊥ = cc in absurd no_way
from_place (y ∷ xs) x zero is = inl (same_some y x is)
  where
    same_some : {X : Type 0} (a b : X) → Some a ≡ Some b → a ≡ b
    same_some a b h = cc
from_place (y ∷ xs) x (suc place) is = inr (from_place xs x place is)

to_place : {X : Type 0} (xs : List X) (x : X) → Has xs x → (place : ℕ) × (slice_get xs place ≡ Some x)
to_place [] x has = absurd has
to_place (y ∷ xs) x (inl is) = (0, ap Some is)
to_place (y ∷ xs) x (inr has) = let there = to_place xs x has in (suc there.0, there.1)

has_before : {X : Type 0} (xs ys : List X) (x : X) → Has xs x → Has (xs ++ ys) x
has_before [] ys x has = absurd has
has_before (y ∷ xs) ys x (inl is) = inl is
has_before (y ∷ xs) ys x (inr has) = inr (has_before xs ys x has)

has_behind : {X : Type 0} (xs ys : List X) (x : X) → Has ys x → Has (xs ++ ys) x
has_behind [] ys x has = has
has_behind (y ∷ xs) ys x has = inr (has_behind xs ys x has)

has_either : {X : Type 0} (xs ys : List X) (x : X) → Has (xs ++ ys) x → Has xs x ⊎ Has ys x
has_either [] ys x has = inr has
has_either (y ∷ xs) ys x (inl is) = inl (inl is)
has_either (y ∷ xs) ys x (inr has) = by (has_either xs ys x has)
  where
    by : Has xs x ⊎ Has ys x → Has (y ∷ xs) x ⊎ Has ys x
    by (inl there) = inl (inr there)
    by (inr there) = inr there

-- REQUESTS OF ONE NAME ----------------------------------------------------------------------------------------------------

-- A request of a name: its name alone is read, and no emission's code makes it.
record IsOfOneName (asking : Name → Request) : Type 0 where
  read : (reading : Reading) (asked : Request) (name : Name) → IsReadRequest reading asked (asking name) → (x : Name) × IsReadAs reading x name × (asked ≡ asking x)
  reads : (reading : Reading) (x : Name) (request : Request) → IsReadRequest reading (asking x) request → (name : Name) × IsReadAs reading x name × (request ≡ asking name)
  undecided : (base tables : ℕ) (targets : List Name) (x : Name) → IsDecidingCall base tables targets (asking x) → ⊥
  unbuilt : (entries : List GivenEntry) (instruction : Instruction Name Name) (x : Name) → Build entries instruction ≡ asking x → ⊥
  unmade : (entry : TableEntry) (x : Name) → MakeEntry entry ≡ asking x → ⊥

declaring : IsOfOneName (λ name. NeedStackMap (OfValue name))
declaring = record {
  read = read;
  reads = reads;
  undecided = λ base tables targets x is. is;
  unbuilt = λ entries instruction x same. cc;
  unmade = λ entry x same. cc;
}
  where
    read : (reading : Reading) (asked : Request) (name : Name) → IsReadRequest reading asked (NeedStackMap (OfValue name)) → (x : Name) × IsReadAs reading x name × (asked ≡ NeedStackMap (OfValue x))
    read reading (NeedStackMap (OfValue x)) name is = (x, is, refl)
    read reading (NeedStackMap (OfVariable variable)) name is = absurd is
    read reading _ name is = absurd is

    reads : (reading : Reading) (x : Name) (request : Request) → IsReadRequest reading (NeedStackMap (OfValue x)) request → (name : Name) × IsReadAs reading x name × (request ≡ NeedStackMap (OfValue name))
    reads reading x (NeedStackMap (OfValue name)) is = (name, is, refl)
    reads reading x (NeedStackMap (OfVariable variable)) is = absurd is
    reads reading x _ is = absurd is

assigning : (variable : ℕ) → IsOfOneName (DefVar variable)
assigning variable = record {
  read = read;
  reads = reads;
  undecided = λ base tables targets x is. is;
  unbuilt = λ entries instruction x same. cc;
  unmade = λ entry x same. cc;
}
  where
    read : (reading : Reading) (asked : Request) (name : Name) → IsReadRequest reading asked (DefVar variable name) → (x : Name) × IsReadAs reading x name × (asked ≡ DefVar variable x)
    read reading (DefVar number x) name is = (x, is.1, ap (λ (n : ℕ). DefVar n x) is.0)
    read reading _ name is = absurd is

    reads : (reading : Reading) (x : Name) (request : Request) → IsReadRequest reading (DefVar variable x) request → (name : Name) × IsReadAs reading x name × (request ≡ DefVar variable name)
    reads reading x (DefVar number name) is = (name, is.1, ap (λ (n : ℕ). DefVar n name) (sym is.0))
    reads reading x _ is = absurd is

-- PLAIN CALLS -------------------------------------------------------------------------------------------------------------

-- what is read stays read behind an emission's code
behind_line : (how : LastResults) (old : Reading) (script : Script) (earlier : List ScriptCall) (imports : List TableEntry) (code : List (Instruction Name Name))
    → IsJoined old (ledger_after script) (ledger_of earlier) → KeepsReading old (reading_line how old (ledger_after script) (ledger_of earlier) imports code)
behind_line how old script earlier imports code joined x name is =
    let below : x.place < length (ledger_after script).answers = (joined.made x name is).0 in
    let more = importing_longer (ledger_after script) imports in
    emitted_before how (reading_importing old (ledger_after script) imports) (ledger_importing (ledger_after script) imports) (with_imports imports (ledger_of earlier)) code x (omega (arith, below, more))
    ∙ importing_before old (ledger_after script) imports x below ∙ is

behind_switch : (old : Reading) (script more : Script) (earlier : List ScriptCall) → IsJoined old (ledger_after script) (ledger_of earlier)
    → KeepsReading old (reading_across old (length script) (length more))
behind_switch old script more earlier joined x name is =
    let below : x.place < length (ledger_after script).answers = (joined.made x name is).0 in
    let made = calls_made script in
    across_before old (length script) (length more) x (omega (arith, below, made)) ∙ is

module _ (asking : Name → Request) (one : IsOfOneName asking) where
  -- no emission's code has it
  line_lacks : (imports : List TableEntry) (code : List (Instruction Name Name)) (last : Instruction Name Name) (x : Name) → Has (line_calls imports code last) (asking x) → ⊥
  line_lacks [] [] last x (inl is) = one.unbuilt [] last x is
  line_lacks [] [] last x (inr has) = has
  line_lacks [] (first ∷ code) last x (inl is) = one.unbuilt [] first x is
  line_lacks [] (first ∷ code) last x (inr has) = line_lacks [] code last x has
  line_lacks (entry ∷ imports) code last x (inl is) = one.unmade entry x is
  line_lacks (entry ∷ imports) code last x (inr has) = line_lacks imports code last x has

  deciding_lacks : (base tables : ℕ) (targets : List Name) (more : Script) → AllByRecursion (IsDecidingCall base tables targets) more → (x : Name) → Has more (asking x) → ⊥
  deciding_lacks base tables targets [] deciding x has = has
  deciding_lacks base tables targets (request ∷ more) deciding x (inl is) = one.undecided base tables targets x (subst (IsDecidingCall base tables targets) is deciding.0)
  deciding_lacks base tables targets (request ∷ more) deciding x (inr has) = deciding_lacks base tables targets more deciding.1 x has

  -- what calls are given doesn't change it
  given_has : (plain given : Script) → AllZip IsGiven plain given → (x : Name) → Has plain (asking x) → Has given (asking x)
  given_has [] given are x has = absurd has
  given_has (request ∷ plain) [] are x has = absurd are
  given_has (request ∷ plain) (other ∷ given) are x (inl is) = inl (by request other are.0 is)
    where
      by : (r g : Request) → IsGiven r g → r ≡ asking x → g ≡ asking x
      by r g (IsSame same) is = is
      by r g (IsBuiltWith entries instruction imported) is = absurd (one.unbuilt [] instruction x is)
  given_has (request ∷ plain) (other ∷ given) are x (inr has) = inr (given_has plain given are.1 x has)

  had_before : (plain given : Script) → AllZip IsGiven plain given → (x : Name) → Has given (asking x) → Has plain (asking x)
  had_before plain [] are x has = absurd has
  had_before [] (other ∷ given) are x has = absurd are
  had_before (request ∷ plain) (other ∷ given) are x (inl is) = inl (by request other are.0 is)
    where
      by : (r g : Request) → IsGiven r g → g ≡ asking x → r ≡ asking x
      by r g (IsSame same) is = is
      by r g (IsBuiltWith entries instruction imported) is = absurd (one.unbuilt entries instruction x is)
  had_before (request ∷ plain) (other ∷ given) are x (inr has) = inr (had_before plain given are.1 x has)

  -- a plain call that asks for it of a name, and the script's call
  abbrev AsksIn : Reading → List ScriptCall → (x : Name) → Type 0
  AsksIn reading calls x = (name : Name) × IsReadAs reading x name × Has calls (Ask (asking name))

  asks_later : (old later : Reading) (earlier more : List ScriptCall) (x : Name) → KeepsReading old later → AsksIn old earlier x → AsksIn later (earlier ++ more) x
  asks_later old later earlier more x keeps there = (there.0, keeps x there.0 there.1, has_before earlier more (Ask (asking there.0)) there.2)

  plain_asks : (reading : Reading) (plain : Script) (calls : List ScriptCall) → AreJoinedCalls reading plain calls → (x : Name) → Has plain (asking x) → AsksIn reading calls x
  plain_asks reading plain calls Starting x has = absurd has
  plain_asks reading plain calls (Asking old script earlier asked request are is placed) x has = by (plain_asks old script earlier are x) (has_either script (asked ∷ []) (asking x) has)
    where
      later : Reading
      later = reading_after old (ledger_after script) (ledger_of earlier)

      keeps : KeepsReading old later
      keeps = Joins.keeps old (ledger_after script) (ledger_of earlier) (joined_calls old script earlier are)

      by : (Has script (asking x) → AsksIn old earlier x) → Has script (asking x) ⊎ Has (asked ∷ []) (asking x) → AsksIn later (earlier ++ Ask request ∷ []) x
      by asks (inl before) = asks_later old later earlier (Ask request ∷ []) x keeps (asks before)
      by asks (inr (inl same)) =
          let read = one.reads old x request (subst (λ (r : Request). IsReadRequest old r request) same is) in
          (read.0, keeps x read.0 read.1, has_behind earlier (Ask request ∷ []) (Ask (asking read.0)) (inl (ap Ask read.2)))
      by asks (inr (inr none)) = absurd none
  plain_asks reading plain calls (Emitting how old script earlier imports code last instruction are placed line stays whole answered) x has =
      by (plain_asks old script earlier are x) (has_either script (line_calls imports code last) (asking x) has)
    where
      later : Reading
      later = reading_line how old (ledger_after script) (ledger_of earlier) imports code

      by : (Has script (asking x) → AsksIn old earlier x) → Has script (asking x) ⊎ Has (line_calls imports code last) (asking x) → AsksIn later (earlier ++ Emit imports instruction ∷ []) x
      by asks (inl before) = asks_later old later earlier (Emit imports instruction ∷ []) x (behind_line how old script earlier imports code (joined_calls old script earlier are)) (asks before)
      by asks (inr there) = absurd (line_lacks imports code last x there)
  plain_asks reading plain calls (Switching old script more earlier block value ty keys edges switch branches tables are at placed is code) x has =
      by (plain_asks old script earlier are x) (has_either script more (asking x) has)
    where
      later : Reading
      later = reading_across old (length script) (length more)

      by : (Has script (asking x) → AsksIn old earlier x) → Has script (asking x) ⊎ Has more (asking x) → AsksIn later (earlier ++ Emit [] switch ∷ []) x
      by asks (inl before) = asks_later old later earlier (Emit [] switch ∷ []) x (behind_switch old script more earlier (joined_calls old script earlier are)) (asks before)
      by asks (inr there) = absurd (deciding_lacks (length script) (length (ledger_after script).jump_tables) (targets_of edges) more code.calls x there)
  plain_asks reading plain calls (Giving old script given earlier are is) x has = plain_asks old script earlier are x (had_before script given is x has)

  -- a call of the script's that asks for it of a name, and the plain call
  abbrev AskedIn : Reading → Script → (name : Name) → Type 0
  AskedIn reading plain name = (x : Name) × IsReadAs reading x name × Has plain (asking x)

  asked_later : (old later : Reading) (script more : Script) (name : Name) → KeepsReading old later → AskedIn old script name → AskedIn later (script ++ more) name
  asked_later old later script more name keeps there = (there.0, keeps there.0 name there.1, has_before script more (asking there.0) there.2)

  script_asks : (reading : Reading) (plain : Script) (calls : List ScriptCall) → AreJoinedCalls reading plain calls → (name : Name) → Has calls (Ask (asking name)) → AskedIn reading plain name
  script_asks reading plain calls Starting name has = absurd has
  script_asks reading plain calls (Asking old script earlier asked request are is placed) name has = by (script_asks old script earlier are name) (has_either earlier (Ask request ∷ []) (Ask (asking name)) has)
    where
      later : Reading
      later = reading_after old (ledger_after script) (ledger_of earlier)

      keeps : KeepsReading old later
      keeps = Joins.keeps old (ledger_after script) (ledger_of earlier) (joined_calls old script earlier are)

      same_request : (a b : Request) → Ask a ≡ Ask b → a ≡ b
      same_request a b h = cc

      by : (Has earlier (Ask (asking name)) → AskedIn old script name) → Has earlier (Ask (asking name)) ⊎ Has (Ask request ∷ []) (Ask (asking name)) → AskedIn later (script ++ asked ∷ []) name
      by asked_before (inl before) = asked_later old later script (asked ∷ []) name keeps (asked_before before)
      by asked_before (inr (inl same)) =
          let read = one.read old asked name (subst (λ (r : Request). IsReadRequest old asked r) (same_request request (asking name) same) is) in
          (read.0, keeps read.0 name read.1, has_behind script (asked ∷ []) (asking read.0) (inl read.2))
      by asked_before (inr (inr none)) = absurd none
  script_asks reading plain calls (Emitting how old script earlier imports code last instruction are placed line stays whole answered) name has =
      by (script_asks old script earlier are name) (has_either earlier (Emit imports instruction ∷ []) (Ask (asking name)) has)
    where
      later : Reading
      later = reading_line how old (ledger_after script) (ledger_of earlier) imports code

      by : (Has earlier (Ask (asking name)) → AskedIn old script name) → Has earlier (Ask (asking name)) ⊎ Has (Emit imports instruction ∷ []) (Ask (asking name))
          → AskedIn later (script ++ line_calls imports code last) name
      by asked_before (inl before) =
          asked_later old later script (line_calls imports code last) name (behind_line how old script earlier imports code (joined_calls old script earlier are)) (asked_before before)
      by asked_before (inr (inl same)) = let no_way : ⊥ = cc in absurd no_way
      by asked_before (inr (inr none)) = absurd none
  script_asks reading plain calls (Switching old script more earlier block value ty keys edges switch branches tables are at placed is code) name has =
      by (script_asks old script earlier are name) (has_either earlier (Emit [] switch ∷ []) (Ask (asking name)) has)
    where
      later : Reading
      later = reading_across old (length script) (length more)

      by : (Has earlier (Ask (asking name)) → AskedIn old script name) → Has earlier (Ask (asking name)) ⊎ Has (Emit [] switch ∷ []) (Ask (asking name)) → AskedIn later (script ++ more) name
      by asked_before (inl before) = asked_later old later script more name (behind_switch old script more earlier (joined_calls old script earlier are)) (asked_before before)
      by asked_before (inr (inl same)) = let no_way : ⊥ = cc in absurd no_way
      by asked_before (inr (inr none)) = absurd none
  script_asks reading plain calls (Giving old script given earlier are is) name has =
      let there = script_asks old script earlier are name has in
      (there.0, there.1, given_has script given is there.0 there.2)

  asks_alike : (reading : Reading) (plain : Script) (calls : List ScriptCall) → AreJoinedCalls reading plain calls → AskAlike reading plain calls asking
  asks_alike reading plain calls are = record {
    plain_asks = λ x is.
        let there = plain_asks reading plain calls are x (from_place plain (asking x) is.0 is.1) in
        (there.0, there.1, to_place calls (Ask (asking there.0)) there.2);
    script_asks = λ name is.
        let there = script_asks reading plain calls are name (from_place calls (Ask (asking name)) is.0 is.1) in
        (there.0, there.1, to_place plain (asking there.0) there.2);
  }

-- so what is recorded for plain calls is what the script's calls ask for
pub recorded_as_asked : (calls : List ScriptCall) (reading : Reading) (made : List AnsweredCall) (values : List ValueNode) (c : ContextState) → AreJoinedCalls reading (script_of made) calls → TracksAgree made values c
    → RecordsAsAsked calls reading made values c.ssa
recorded_as_asked calls reading made values c are tracks = record {
  exactly = tracks.exactly;
  declared = asks_alike (λ (name : Name). NeedStackMap (OfValue name)) declaring reading (script_of made) calls are;
  assigned = λ variable. asks_alike (DefVar variable) (assigning variable) reading (script_of made) calls are;
  marked = λ variable. sym (marks variable) ∙ tracks.marks variable;
}
  where
    marks : (variable : ℕ) → is_marked (ledger_after (script_of made)) variable ≡ is_marked (ledger_of calls) variable
    marks variable = ap (λ (variables : List VariableState). marked (slice_get variables variable)) (joined_calls reading (script_of made) calls are).ledgers.states.variables
