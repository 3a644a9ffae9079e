-- What a request does, beside what it does with its names read: both have one effect, on the variable program and on the ledger, they
-- answer and track what is read alike, and ask the same demands. Laws of requests with names read are by these effects and demands, so
-- that a new call needs its row here, and none there.
use Rattle.std.proofs.Common.{◌≡◌, ℕ, suc, true, List, [], ◌∷◌, ◌++◌, length, map, refl, sym, ◌∙◌, ap, ap₂, subst, Some}
use Rattle.std.specs.Prelude.{if◌then◌else◌, not, option_map, slice_get}
use Rattle.std.specs.List.{AllZip}
use Rattle.clif_types.specs.declared.types.«Type».{«Type»}
use Rattle.clif_tables.specs.Entries.{TableEntry, count_for}
use Rattle.clif_meaning.specs.Instruction.{Argument, Known, CallResult, CallPayload, Edge, Instruction}
use Rattle.clif_meaning.specs.Ledger.{has_block, is_sealed, AValue, Answered, BlockState, Ledger, VariableState, answers_to, changed_by, is_marked, marked_at, new_variable, or_invalid, redirected_state, sealed, touched_at, with_begun, with_cold_mark, with_parameter_types, with_state}
use Rattle.clif_meaning.specs.Name.{Name, answer_of}
use Rattle.clif_meaning.specs.Program.{Program, answers_from, extended, result_types, with_inserted, with_parameters}
use Rattle.clif_meaning.specs.Request.{Request, CreateBlock, SwitchToBlock, SealBlock, SealAllBlocks, InsertBlockAfter, SetColdBlock, EnsureInsertedBlock, AppendBlockParams, AppendFunctionParams, DeclareVar, DefVar, UseVar, MakeEntry, MakeEdge, MakeJumpTable, MakeExceptionTable, Annotate, GivenEntry, TableItem, Build, ChangeJumpDestination, Finalize, OfVariable, OfValue, NeedStackMap}
use Rattle.clif_meaning.specs.Tracked.{tracked_by}
use Rattle.clif_expansion.specs.JoinedCalls.{uses_current}
use Rattle.clif_expansion.specs.Joining.{AreJoinedStates, IsReadAnswer, IsReadException, IsReadRequest, IsReadState, IsReadTable, IsReadTableItem}
use Rattle.clif_expansion.specs.Reading.{IsOneToOne, IsReadArgument, IsReadAs, IsReadEdge, IsReadInstruction, Reading}
use Rattle.clif_expansion.proofs.Among.{KeepsEnds, keeps_cold, keeps_redirecting, keeps_sealing, keeps_taking}
use Rattle.clif_expansion.proofs.JoinedStates.{chosen, redirected_read, zip_each}
use Rattle.clif_expansion.proofs.ReadDemands.{ReadDemands, NeitherBlames, BothAssigned, BothUsed, IsABlock, IsUnfilled, IsUnsealed, IsOutside, IsInserted, IsPristine, IsUntouched, IsAnEdge, IsForStackMaps, IsOfVariable, AsksBoth, AsksName, AsksLeading, AsksValues, AsksEdges, AsksArguments, AsksItems, AsksTargets, AsksEntries, AsksOpen, AsksLeaving, AsksTables, AsksVariables, asks_nothing, declares, has_entries, has_signature, has_type, holds, makes, may_mark_one, operates, two_last}

-- what is read later is read as before
abbrev pub KeepsReading : Reading → Reading → Type 0
KeepsReading reading later = (x name : Name) → IsReadAs reading x name → IsReadAs later x name

-- THE PROGRAM -------------------------------------------------------------------------------------------------------------

pub data ReadProgramEffect (reading : Reading) : (asked request : Request) → Type 0 where
  -- neither adds anything
  BothLeave : (asked request : Request) → ((program : Program) → extended program asked ≡ program) → ((program : Program) → extended program request ≡ program)
      → ReadProgramEffect reading asked request
  -- the current block comes into the layout
  BothInsert : (asked request : Request) → uses_current request ≡ true
      → ((program : Program) → extended program asked ≡ with_inserted program) → ((program : Program) → extended program request ≡ with_inserted program)
      → ReadProgramEffect reading asked request
  -- parameters of the caller's
  BothTake : (asked request : Request) (x block : Name) (types' types : List «Type») → IsReadAs reading x block → types' ≡ types
      → ((program : Program) → extended program asked ≡ with_parameters program x (answers_from program.place 0 types'))
      → ((program : Program) → extended program request ≡ with_parameters program block (answers_from program.place 0 types))
      → ReadProgramEffect reading asked request
  BothSwitch : (x block : Name) → IsReadAs reading x block → ReadProgramEffect reading (SwitchToBlock x) (SwitchToBlock block)
  -- an item of the current block
  BothAssign : (number variable : ℕ) (x value : Name) → number ≡ variable → IsReadAs reading x value → ReadProgramEffect reading (DefVar number x) (DefVar variable value)
  BothUse : (number variable : ℕ) → number ≡ variable → ReadProgramEffect reading (UseVar number) (UseVar variable)
  BothBuild : (entries' entries : List GivenEntry) (instruction' instruction : Instruction Name Name) → IsReadInstruction reading instruction' instruction
      → ReadProgramEffect reading (Build entries' instruction') (Build entries instruction)
  -- edges of items lead elsewhere
  BothRedirect : (jump branch at from there to : Name) → IsReadAs reading jump branch → IsReadAs reading at from → IsReadAs reading there to
      → ReadProgramEffect reading (ChangeJumpDestination jump at there) (ChangeJumpDestination branch from to)

-- THE LEDGER --------------------------------------------------------------------------------------------------------------

-- Changes of states: what is read stays so, in any reading in which these names are read.
abbrev pub KeepStates : Reading → (change' change : BlockState → BlockState) → Type 0
KeepStates reading change' change =
    (later : Reading) (made : ℕ) → KeepsReading reading later → IsOneToOne later → (state' state : BlockState) → IsReadState later made state' state
    → IsReadState later made (change' state') (change state)

pub data ReadLedgerEffect (reading : Reading) : (asked request : Request) → Type 0 where
  -- their answers aside, neither changes anything
  BothKeep : (asked request : Request) → ((ledger : Ledger) → changed_by ledger asked ≡ ledger) → ((ledger : Ledger) → changed_by ledger request ≡ ledger)
      → ReadLedgerEffect reading asked request
  -- the state of one block
  BothChange : (asked request : Request) (x block : Name) (change' change : BlockState → BlockState) → IsReadAs reading x block → KeepsEnds change' → KeepStates reading change' change
      → ((ledger : Ledger) → changed_by ledger asked ≡ with_state ledger x change') → ((ledger : Ledger) → changed_by ledger request ≡ with_state ledger block change)
      → ReadLedgerEffect reading asked request
  -- the state of each block
  BothChangeEach : (asked request : Request) (change' change : BlockState → BlockState) → KeepsEnds change' → KeepStates reading change' change
      → ((ledger : Ledger) → changed_by ledger asked ≡ record ledger { blocks = map change' ledger.blocks })
      → ((ledger : Ledger) → changed_by ledger request ≡ record ledger { blocks = map change ledger.blocks })
      → ReadLedgerEffect reading asked request
  -- something is made in the current block
  BothBegin : (asked request : Request) → ((ledger : Ledger) → changed_by ledger asked ≡ with_begun ledger) → ((ledger : Ledger) → changed_by ledger request ≡ with_begun ledger)
      → ReadLedgerEffect reading asked request
  -- the states of variables
  BothVary : (asked request : Request) (change' change : List VariableState → List VariableState) → ((states : List VariableState) → change' states ≡ change states)
      → ((ledger : Ledger) → changed_by ledger asked ≡ record ledger { variables = change' ledger.variables })
      → ((ledger : Ledger) → changed_by ledger request ≡ record ledger { variables = change ledger.variables })
      → ReadLedgerEffect reading asked request
  BothCreate : ReadLedgerEffect reading CreateBlock CreateBlock
  BothEnter : (x block : Name) → IsReadAs reading x block → ReadLedgerEffect reading (SwitchToBlock x) (SwitchToBlock block)
  -- the order of the layout, and tables
  BothPut : (x block behind after : Name) → IsReadAs reading x block → IsReadAs reading behind after → ReadLedgerEffect reading (InsertBlockAfter x behind) (InsertBlockAfter block after)
  BothEnlist : (entry' entry : TableEntry) → entry' ≡ entry → ReadLedgerEffect reading (MakeEntry entry') (MakeEntry entry)
  BothTable : (first default : Name) (names entries : List Name) → AllZip (IsReadAs reading) (first ∷ names) (default ∷ entries)
      → ReadLedgerEffect reading (MakeJumpTable first names) (MakeJumpTable default entries)
  BothCatch : (number signature : ℕ) (first normal : Name) (listed items : List TableItem) → number ≡ signature → IsReadAs reading first normal → AllZip (IsReadTableItem reading) listed items
      → ReadLedgerEffect reading (MakeExceptionTable number first listed) (MakeExceptionTable signature normal items)
  -- what is made in the current block, and touches a variable or fills the block
  BothTouch : (number variable : ℕ) → number ≡ variable → ReadLedgerEffect reading (UseVar number) (UseVar variable)
  BothAppend : (entries' entries : List GivenEntry) (instruction' instruction : Instruction Name Name) → entries' ≡ entries → IsReadInstruction reading instruction' instruction
      → ReadLedgerEffect reading (Build entries' instruction') (Build entries instruction)

-- changes of states with what is read
sealing : (reading : Reading) → KeepStates reading sealed sealed
sealing reading later made keeps one_to_one state' state read = record {
  block = read.block;
  parameters = read.parameters;
  is_pristine = read.is_pristine;
  is_filled = read.is_filled;
  is_sealed = refl;
  is_cold = read.is_cold;
  predecessors = read.predecessors;
}

chilling : (reading : Reading) → KeepStates reading with_cold_mark with_cold_mark
chilling reading later made keeps one_to_one state' state read = record {
  block = read.block;
  parameters = read.parameters;
  is_pristine = read.is_pristine;
  is_filled = read.is_filled;
  is_sealed = read.is_sealed;
  is_cold = refl;
  predecessors = read.predecessors;
}

taking : (reading : Reading) (types' types : List «Type») → types' ≡ types → KeepStates reading (with_parameter_types types') (with_parameter_types types)
taking reading types' types same later made keeps one_to_one state' state read = record {
  block = read.block;
  parameters = ap₂ (λ (a b : List «Type»). a ++ b) read.parameters same;
  is_pristine = read.is_pristine;
  is_filled = read.is_filled;
  is_sealed = read.is_sealed;
  is_cold = read.is_cold;
  predecessors = read.predecessors;
}

redirecting : (reading : Reading) (jump branch at from there to : Name) → IsReadAs reading jump branch → IsReadAs reading at from → IsReadAs reading there to
    → KeepStates reading (redirected_state jump at there) (redirected_state branch from to)
redirecting reading jump branch at from there to is leaves enters later made keeps one_to_one state' state read =
    redirected_read later made one_to_one jump branch at from there to (keeps jump branch is) (keeps at from leaves) (keeps there to enters) state' state read

-- ANSWERS -----------------------------------------------------------------------------------------------------------------

module _ (reading later : Reading) (keeps : KeepsReading reading later) where
  pub argument_later : (argument' argument : Argument Name) → IsReadArgument reading argument' argument → IsReadArgument later argument' argument
  argument_later (Known x) (Known name) is = keeps x name is
  argument_later (CallResult k) (CallResult index) is = is
  argument_later (CallPayload k) (CallPayload index) is = is
  argument_later _ _ is = absurd is

  pub edge_later : (edge' edge : Edge Name Name) → IsReadEdge reading edge' edge → IsReadEdge later edge' edge
  edge_later edge' edge is = record {
    target = keeps edge'.target edge.target is.target;
    arguments = zip_each (IsReadArgument reading) (IsReadArgument later) argument_later edge'.arguments edge.arguments is.arguments;
  }

abbrev pub AreReadAnswers : Reading → List Answered → List Answered → Type 0
AreReadAnswers reading answers' answers = AllZip (λ a' a. IsReadAnswer reading (Some a') (Some a)) answers' answers

pub values_read : (reading : Reading) (types : List «Type») → AreReadAnswers reading (map AValue types) (map AValue types)
values_read reading [] = tt
values_read reading (ty ∷ types) = (refl, values_read reading types)

types_read : (reading : Reading) (types' types : List «Type») → types' ≡ types → AreReadAnswers reading (map AValue types') (map AValue types)
types_read reading types' types same = subst (λ (ts : List «Type»). AreReadAnswers reading (map AValue ts) (map AValue types)) (sym same) (values_read reading types)

same_length : {X Y : Type 0} (R : X → Y → Type 0) (xs : List X) (ys : List Y) → AllZip R xs ys → length xs ≡ length ys
same_length R [] [] are = refl
same_length R [] (y ∷ ys) are = absurd are
same_length R (x ∷ xs) [] are = absurd are
same_length R (x ∷ xs) (y ∷ ys) are = ap suc (same_length R xs ys are.1)

-- What both answer is read, where the states of the ledgers are joined.
abbrev pub ReadAnswers : Reading → (asked request : Request) → Type 0
ReadAnswers reading asked request =
    (later : Reading) (made : ℕ) (plain ledger : Ledger) → KeepsReading reading later → AreJoinedStates later made plain ledger
    → AreReadAnswers later (answers_to plain asked) (answers_to ledger request)

-- TRACKED NAMES -----------------------------------------------------------------------------------------------------------

-- What both track is read, where the same variables are marked and their first answers are read.
abbrev pub ReadTracks : Reading → (asked request : Request) → Type 0
ReadTracks reading asked request =
    (later : Reading) (marks' marks : Ledger) (place' place : ℕ) → KeepsReading reading later → ((v : ℕ) → is_marked marks' v ≡ is_marked marks v)
    → IsReadAs later (answer_of place' 0) (answer_of place 0) → AllZip (IsReadAs later) (tracked_by marks' place' asked) (tracked_by marks place request)

-- the name where the variable is marked
marked_tracks : (later : Reading) (marks' marks : Ledger) (number variable : ℕ) (x name : Name) → number ≡ variable → ((v : ℕ) → is_marked marks' v ≡ is_marked marks v)
    → IsReadAs later x name
    → AllZip (IsReadAs later) (if is_marked marks' number then x ∷ [] else []) (if is_marked marks variable then name ∷ [] else [])
marked_tracks later marks' marks number variable x name numbers same is =
    chosen (AllZip (IsReadAs later)) (is_marked marks' number) (is_marked marks variable) (x ∷ []) [] (name ∷ []) [] (same number ∙ ap (is_marked marks) numbers) (is, tt) tt

-- REQUESTS ----------------------------------------------------------------------------------------------------------------

pub record ReadEffects (reading : Reading) (asked request : Request) : Type 0 where
  pub program : ReadProgramEffect reading asked request
  pub ledger : ReadLedgerEffect reading asked request
  pub answers : ReadAnswers reading asked request
  pub tracks : ReadTracks reading asked request
  pub demands : ReadDemands reading asked request

module _ (reading : Reading) where
  -- A row for each request.
  pub read_effects : (asked request : Request) → IsReadRequest reading asked request → ReadEffects reading asked request
  read_effects CreateBlock CreateBlock is = record {
    program = BothLeave _ _ (λ program. refl) (λ program. refl);
    ledger = BothCreate;
    answers = λ later made plain ledger keeps states. (tt, tt);
    tracks = λ later marks' marks place' place keeps same answer. tt;
    demands = record {
      plain = asks_nothing;
      script = asks_nothing;
      asks' = λ ledger. refl;
      asks = λ ledger. refl;
      reads = refl;
      again = λ other read. tt;
      blame = NeitherBlames _ _ (λ ledger. refl) (λ ledger. refl);
    };
  }
  read_effects (SwitchToBlock x) (SwitchToBlock block) is = record {
    program = BothSwitch x block is;
    ledger = BothEnter x block is;
    answers = λ later made plain ledger keeps states. tt;
    tracks = λ later marks' marks place' place keeps same answer. tt;
    demands = record {
      plain = AsksBoth (AsksName IsUnfilled x) AsksLeaving;
      script = AsksBoth (AsksName IsUnfilled block) AsksLeaving;
      asks' = λ ledger. refl;
      asks = λ ledger. refl;
      reads = ((refl, is), tt);
      again = λ other read. read.0.1;
      blame = NeitherBlames _ _ (λ ledger. refl) (λ ledger. refl);
    };
  }
  read_effects (SealBlock x) (SealBlock block) is = record {
    program = BothLeave _ _ (λ program. refl) (λ program. refl);
    ledger = BothChange _ _ x block sealed sealed is keeps_sealing (sealing reading) (λ ledger. refl) (λ ledger. refl);
    answers = λ later made plain ledger keeps states. tt;
    tracks = λ later marks' marks place' place keeps same answer. tt;
    demands = record {
      plain = AsksName IsUnsealed x;
      script = AsksName IsUnsealed block;
      asks' = λ ledger. refl;
      asks = λ ledger. refl;
      reads = (refl, is);
      again = λ other read. read.1;
      blame = NeitherBlames _ _ (λ ledger. refl) (λ ledger. refl);
    };
  }
  read_effects SealAllBlocks SealAllBlocks is = record {
    program = BothLeave _ _ (λ program. refl) (λ program. refl);
    ledger = BothChangeEach _ _ sealed sealed keeps_sealing (sealing reading) (λ ledger. refl) (λ ledger. refl);
    answers = λ later made plain ledger keeps states. tt;
    tracks = λ later marks' marks place' place keeps same answer. tt;
    demands = record {
      plain = asks_nothing;
      script = asks_nothing;
      asks' = λ ledger. refl;
      asks = λ ledger. refl;
      reads = refl;
      again = λ other read. tt;
      blame = NeitherBlames _ _ (λ ledger. refl) (λ ledger. refl);
    };
  }
  read_effects (InsertBlockAfter x behind) (InsertBlockAfter block after) is = record {
    program = BothLeave _ _ (λ program. refl) (λ program. refl);
    ledger = BothPut x block behind after is.0 is.1;
    answers = λ later made plain ledger keeps states. tt;
    tracks = λ later marks' marks place' place keeps same answer. tt;
    demands = record {
      plain = AsksBoth (AsksName IsOutside x) (AsksName IsInserted behind);
      script = AsksBoth (AsksName IsOutside block) (AsksName IsInserted after);
      asks' = λ ledger. refl;
      asks = λ ledger. refl;
      reads = ((refl, is.0), (refl, is.1));
      again = λ other read. (read.0.1, read.1.1);
      blame = NeitherBlames _ _ (λ ledger. refl) (λ ledger. refl);
    };
  }
  read_effects (SetColdBlock x) (SetColdBlock block) is = record {
    program = BothLeave _ _ (λ program. refl) (λ program. refl);
    ledger = BothChange _ _ x block with_cold_mark with_cold_mark is keeps_cold (chilling reading) (λ ledger. refl) (λ ledger. refl);
    answers = λ later made plain ledger keeps states. tt;
    tracks = λ later marks' marks place' place keeps same answer. tt;
    demands = record {
      plain = AsksName IsABlock x;
      script = AsksName IsABlock block;
      asks' = λ ledger. refl;
      asks = λ ledger. refl;
      reads = (refl, is);
      again = λ other read. read.1;
      blame = NeitherBlames _ _ (λ ledger. refl) (λ ledger. refl);
    };
  }
  read_effects EnsureInsertedBlock EnsureInsertedBlock is = record {
    program = BothInsert _ _ refl (λ program. refl) (λ program. refl);
    ledger = BothBegin _ _ (λ ledger. refl) (λ ledger. refl);
    answers = λ later made plain ledger keeps states. tt;
    tracks = λ later marks' marks place' place keeps same answer. tt;
    demands = record {
      plain = AsksOpen true;
      script = AsksOpen true;
      asks' = λ ledger. refl;
      asks = λ ledger. refl;
      reads = refl;
      again = λ other read. tt;
      blame = NeitherBlames _ _ (λ ledger. refl) (λ ledger. refl);
    };
  }
  read_effects (AppendBlockParams x types') (AppendBlockParams block types) is = record {
    program = BothTake _ _ x block types' types is.0 is.1 (λ program. refl) (λ program. refl);
    ledger = BothChange _ _ x block (with_parameter_types types') (with_parameter_types types) is.0 (keeps_taking types') (taking reading types' types is.1) (λ ledger. refl) (λ ledger. refl);
    answers = λ later made plain ledger keeps states. types_read later types' types is.1;
    tracks = λ later marks' marks place' place keeps same answer. tt;
    demands = record {
      plain = AsksName IsPristine x;
      script = AsksName IsPristine block;
      asks' = λ ledger. refl;
      asks = λ ledger. refl;
      reads = (refl, is.0);
      again = λ other read. (read.1, is.1);
      blame = NeitherBlames _ _ (λ ledger. refl) (λ ledger. refl);
    };
  }
  read_effects (AppendFunctionParams x types') (AppendFunctionParams block types) is = record {
    program = BothTake _ _ x block types' types is.0 is.1 (λ program. refl) (λ program. refl);
    ledger = BothChange _ _ x block (with_parameter_types types') (with_parameter_types types) is.0 (keeps_taking types') (taking reading types' types is.1) (λ ledger. refl) (λ ledger. refl);
    answers = λ later made plain ledger keeps states. types_read later types' types is.1;
    tracks = λ later marks' marks place' place keeps same answer. tt;
    demands = record {
      plain = AsksName IsUntouched x;
      script = AsksName IsUntouched block;
      asks' = λ ledger. refl;
      asks = λ ledger. refl;
      reads = (refl, is.0);
      again = λ other read. (read.1, is.1);
      blame = NeitherBlames _ _ (λ ledger. refl) (λ ledger. refl);
    };
  }
  read_effects (DeclareVar ty') (DeclareVar ty) is = record {
    program = BothLeave _ _ (λ program. refl) (λ program. refl);
    ledger = BothVary _ _ (λ states. states ++ new_variable ty' ∷ []) (λ states. states ++ new_variable ty ∷ []) (λ states. ap (λ (t : «Type»). states ++ new_variable t ∷ []) is) (λ ledger. refl) (λ ledger. refl);
    answers = λ later made plain ledger keeps states. (ap (λ (variables : List VariableState). length variables) states.variables, tt);
    tracks = λ later marks' marks place' place keeps same answer. tt;
    demands = record {
      plain = AsksTables (has_type ty');
      script = AsksTables (has_type ty);
      asks' = λ ledger. refl;
      asks = λ ledger. refl;
      reads = ap has_type is;
      again = λ other read. is;
      blame = NeitherBlames _ _ (λ ledger. refl) (λ ledger. refl);
    };
  }
  read_effects (DefVar number x) (DefVar variable value) is = record {
    program = BothAssign number variable x value is.0 is.1;
    ledger = BothVary _ _ (touched_at number) (touched_at variable) (λ states. ap (λ (v : ℕ). touched_at v states) is.0) (λ ledger. refl) (λ ledger. refl);
    answers = λ later made plain ledger keeps states. tt;
    tracks = λ later marks' marks place' place keeps same answer. marked_tracks later marks' marks number variable x value is.0 same (keeps x value is.1);
    demands = record {
      plain = AsksBoth (AsksOpen true) (AsksName (IsOfVariable number) x);
      script = AsksBoth (AsksOpen true) (AsksName (IsOfVariable variable) value);
      asks' = λ ledger. refl;
      asks = λ ledger. refl;
      reads = (refl, (ap IsOfVariable is.0, is.1));
      again = λ other read. (is.0, read.1.1);
      blame = BothAssigned number variable x value is.0 is.1;
    };
  }
  read_effects (UseVar number) (UseVar variable) is = record {
    program = BothUse number variable is;
    ledger = BothTouch number variable is;
    answers = λ later made plain ledger keeps states.
        (ap₂ (λ (variables : List VariableState) (v : ℕ). or_invalid (option_map (λ (state : VariableState). state.ty) (slice_get variables v))) states.variables is, tt);
    tracks = λ later marks' marks place' place keeps same answer. marked_tracks later marks' marks number variable (answer_of place' 0) (answer_of place 0) is same answer;
    demands = record {
      plain = AsksBoth (AsksOpen true) (AsksVariables (declares number));
      script = AsksBoth (AsksOpen true) (AsksVariables (declares variable));
      asks' = λ ledger. refl;
      asks = λ ledger. refl;
      reads = (refl, ap declares is);
      again = λ other read. is;
      blame = BothUsed number variable is;
    };
  }
  read_effects (MakeEntry entry') (MakeEntry entry) is = record {
    program = BothLeave _ _ (λ program. refl) (λ program. refl);
    ledger = BothEnlist entry' entry is;
    answers = λ later made plain ledger keeps states. ((is, ap₂ count_for states.tables is), tt);
    tracks = λ later marks' marks place' place keeps same answer. tt;
    demands = record {
      plain = AsksTables (makes entry');
      script = AsksTables (makes entry);
      asks' = λ ledger. refl;
      asks = λ ledger. refl;
      reads = ap makes is;
      again = λ other read. is;
      blame = NeitherBlames _ _ (λ ledger. refl) (λ ledger. refl);
    };
  }
  read_effects (MakeEdge edge') (MakeEdge edge) is = record {
    program = BothLeave _ _ (λ program. refl) (λ program. refl);
    ledger = BothKeep _ _ (λ ledger. refl) (λ ledger. refl);
    answers = λ later made plain ledger keeps states. (edge_later reading later keeps edge' edge is, tt);
    tracks = λ later marks' marks place' place keeps same answer. tt;
    demands = record {
      plain = AsksBoth (AsksName IsABlock edge'.target) (AsksArguments edge'.arguments);
      script = AsksBoth (AsksName IsABlock edge.target) (AsksArguments edge.arguments);
      asks' = λ ledger. refl;
      asks = λ ledger. refl;
      reads = ((refl, is.target), is.arguments);
      again = λ other read. record { target = read.0.1; arguments = read.1 };
      blame = NeitherBlames _ _ (λ ledger. refl) (λ ledger. refl);
    };
  }
  read_effects (MakeJumpTable first names) (MakeJumpTable default entries) is = record {
    program = BothLeave _ _ (λ program. refl) (λ program. refl);
    ledger = BothTable first default names entries is;
    answers = λ later made plain ledger keeps states. (same_length (IsReadTable later) plain.jump_tables ledger.jump_tables states.jump_tables, tt);
    tracks = λ later marks' marks place' place keeps same answer. tt;
    demands = record {
      plain = AsksEdges (first ∷ names);
      script = AsksEdges (default ∷ entries);
      asks' = λ ledger. refl;
      asks = λ ledger. refl;
      reads = (is.0, is.1);
      again = λ other read. (read.0, read.1);
      blame = NeitherBlames _ _ (λ ledger. refl) (λ ledger. refl);
    };
  }
  read_effects (MakeExceptionTable number first listed) (MakeExceptionTable signature normal items) is = record {
    program = BothLeave _ _ (λ program. refl) (λ program. refl);
    ledger = BothCatch number signature first normal listed items is.0 is.1 is.2;
    answers = λ later made plain ledger keeps states. (same_length (IsReadException later) plain.exception_tables ledger.exception_tables states.exception_tables, tt);
    tracks = λ later marks' marks place' place keeps same answer. tt;
    demands = record {
      plain = AsksBoth (AsksBoth (AsksName IsAnEdge first) (AsksItems listed)) (AsksTables (has_signature number));
      script = AsksBoth (AsksBoth (AsksName IsAnEdge normal) (AsksItems items)) (AsksTables (has_signature signature));
      asks' = λ ledger. refl;
      asks = λ ledger. refl;
      reads = (((refl, is.1), is.2), ap has_signature is.0);
      again = λ other read. (is.0, read.0.0.1, read.0.1);
      blame = NeitherBlames _ _ (λ ledger. refl) (λ ledger. refl);
    };
  }
  read_effects (Annotate inside names) (Annotate within values) is = record {
    program = BothLeave _ _ (λ program. refl) (λ program. refl);
    ledger = BothKeep _ _ (λ ledger. refl) (λ ledger. refl);
    answers = λ later made plain ledger keeps states. tt;
    tracks = λ later marks' marks place' place keeps same answer. tt;
    demands = record {
      plain = AsksBoth (AsksOpen inside) (AsksValues names);
      script = AsksBoth (AsksOpen within) (AsksValues values);
      asks' = λ ledger. refl;
      asks = λ ledger. refl;
      reads = (is.0, is.1);
      again = λ other read. (is.0, read.1);
      blame = NeitherBlames _ _ (λ ledger. refl) (λ ledger. refl);
    };
  }
  read_effects (NeedStackMap (OfVariable number)) (NeedStackMap (OfVariable variable)) is = record {
    program = BothLeave _ _ (λ program. refl) (λ program. refl);
    ledger = BothVary _ _ (marked_at number) (marked_at variable) (λ states. ap (λ (v : ℕ). marked_at v states) is) (λ ledger. refl) (λ ledger. refl);
    answers = λ later made plain ledger keeps states. tt;
    tracks = λ later marks' marks place' place keeps same answer. tt;
    demands = record {
      plain = AsksVariables (may_mark_one number);
      script = AsksVariables (may_mark_one variable);
      asks' = λ ledger. refl;
      asks = λ ledger. refl;
      reads = ap may_mark_one is;
      again = λ other read. is;
      blame = NeitherBlames _ _ (λ ledger. refl) (λ ledger. refl);
    };
  }
  read_effects (NeedStackMap (OfValue x)) (NeedStackMap (OfValue value)) is = record {
    program = BothLeave _ _ (λ program. refl) (λ program. refl);
    ledger = BothKeep _ _ (λ ledger. refl) (λ ledger. refl);
    answers = λ later made plain ledger keeps states. tt;
    tracks = λ later marks' marks place' place keeps same answer. (keeps x value is, tt);
    demands = record {
      plain = AsksName IsForStackMaps x;
      script = AsksName IsForStackMaps value;
      asks' = λ ledger. refl;
      asks = λ ledger. refl;
      reads = (refl, is);
      again = λ other read. read.1;
      blame = NeitherBlames _ _ (λ ledger. refl) (λ ledger. refl);
    };
  }
  read_effects (Build entries' instruction') (Build entries instruction) is = record {
    program = BothBuild entries' entries instruction' instruction is.1;
    ledger = BothAppend entries' entries instruction' instruction is.0 is.1;
    answers = λ later made plain ledger keeps states. (tt, types_read later _ _ (ap₂ result_types is.1.operation is.1.controlling));
    tracks = λ later marks' marks place' place keeps same answer. tt;
    demands = record {
      plain = AsksBoth (AsksBoth (AsksBoth (AsksBoth (AsksBoth (AsksBoth (AsksValues instruction'.contexts) (AsksEntries entries')) (AsksOpen true)) (AsksValues instruction'.operands)) (AsksTargets instruction'.edges))
          (AsksTables (operates instruction'.operation instruction'.controlling))) (AsksTables (has_entries instruction'.operation));
      script = AsksBoth (AsksBoth (AsksBoth (AsksBoth (AsksBoth (AsksBoth (AsksValues instruction.contexts) (AsksEntries entries)) (AsksOpen true)) (AsksValues instruction.operands)) (AsksTargets instruction.edges))
          (AsksTables (operates instruction.operation instruction.controlling))) (AsksTables (has_entries instruction.operation));
      asks' = λ ledger. refl;
      asks = λ ledger. refl;
      reads = ((((((is.1.contexts, is.0), refl), is.1.operands), is.1.edges), ap₂ operates is.1.operation is.1.controlling), ap has_entries is.1.operation);
      again = λ other read. (
        is.0,
        record { operation = is.1.operation; controlling = is.1.controlling; operands = read.0.0.0.1; contexts = read.0.0.0.0.0.0; edges = read.0.0.1 },
      );
      blame = NeitherBlames _ _ (λ ledger. refl) (λ ledger. refl);
    };
  }
  read_effects (ChangeJumpDestination jump at there) (ChangeJumpDestination branch from to) is = record {
    program = BothRedirect jump branch at from there to is.0 is.1 is.2;
    ledger = BothChangeEach _ _ (redirected_state jump at there) (redirected_state branch from to) (keeps_redirecting jump at there)
        (redirecting reading jump branch at from there to is.0 is.1 is.2) (λ ledger. refl) (λ ledger. refl);
    answers = λ later made plain ledger keeps states. tt;
    tracks = λ later marks' marks place' place keeps same answer. tt;
    demands = record {
      plain = AsksBoth (AsksLeading jump at) (AsksName IsUnsealed there);
      script = AsksBoth (AsksLeading branch from) (AsksName IsUnsealed to);
      asks' = λ ledger. two_last (holds ledger (AsksLeading jump at)) (has_block ledger there) (not (is_sealed ledger there));
      asks = λ ledger. two_last (holds ledger (AsksLeading branch from)) (has_block ledger to) (not (is_sealed ledger to));
      reads = ((is.0, is.1), (refl, is.2));
      again = λ other read. (read.0.0, read.0.1, read.1.1);
      blame = NeitherBlames _ _ (λ ledger. refl) (λ ledger. refl);
    };
  }
  read_effects Finalize Finalize is = record {
    program = BothLeave _ _ (λ program. refl) (λ program. refl);
    ledger = BothKeep _ _ (λ ledger. refl) (λ ledger. refl);
    answers = λ later made plain ledger keeps states. tt;
    tracks = λ later marks' marks place' place keeps same answer. tt;
    demands = record {
      plain = asks_nothing;
      script = asks_nothing;
      asks' = λ ledger. refl;
      asks = λ ledger. refl;
      reads = refl;
      again = λ other read. tt;
      blame = NeitherBlames _ _ (λ ledger. refl) (λ ledger. refl);
    };
  }
  read_effects _ _ is = absurd is

  pub read_demands : (asked request : Request) → IsReadRequest reading asked request → ReadDemands reading asked request
  read_demands asked request is = (read_effects asked request is).demands
