-- What the premises ask of code of switches: it goes from the switch that was emitted to what decides for it.
use Rattle.std.proofs.Common.{◌≡◌, ◌≤◌, ◌⊎◌, inl, inr, ℕ, suc, Bool, true, false, cond, List, [], ◌∷◌, ◌++◌, length, refl, sym, ◌∙◌, subst, Option, Some, None}
use Rattle.std.specs.Prelude.{Contains, IsTrue, find, fold, is_some}
use Rattle.std.specs.List.{AllByRecursion, list_any}
use Rattle.clif_opcodes.specs.Typing.{FitOperands}
use Rattle.clif_opcodes.specs.declared.kinds.OtherOperands.{OtherOperands}
use Rattle.clif_opcodes.specs.declared.kinds.OtherOperands.TheVariants as others
use Rattle.clif_opcodes.specs.declared.opcodes.FloatConstOpcode.TheVariants as float
use Rattle.clif_opcodes.specs.declared.opcodes.PooledConstOpcode.TheVariants as pooled
use Rattle.clif_types.specs.declared.types.«Type».{«Type»}
use Rattle.clif_meaning.specs.Access.{library_call}
use Rattle.clif_meaning.specs.Instruction.{AddConstant, Binary, Compare, CompareConstant, Concat, Convert, FloatConst, Iconst, PooledConst, Select, Split, Unary, Compute, Jump, Brif, BrTable, Edge, Instruction, Operation, operation_typing}
use Rattle.clif_meaning.specs.Ledger.{BlockState, Ledger, block_state, empty_ledger, has_block, is_filled, ledger_after, ledger_with, state_has}
use Rattle.clif_meaning.specs.Name.{Name, same_name}
use Rattle.clif_meaning.specs.Premises.{IfLibraryCall}
use Rattle.clif_meaning.specs.Program.{Program, Item, Instruct, Use, Assign, with_call, empty_program}
use Rattle.clif_meaning.specs.Request.{CreateBlock, SwitchToBlock, SealBlock, MakeEdge, MakeJumpTable, Build, Script}
use Rattle.clif_meaning.specs.Typing.{TakesOperands, argument_types, call_shape}
use Rattle.clif_expansion.specs.Joining.{AreJoinedLedgers, Both, IsOwnState, IsReadState, Own, StandAmong}
use Rattle.clif_expansion.specs.LedgerTypes.{HaveTypes, IsTypedInLine}
use Rattle.clif_expansion.specs.Reading.{IsReadInstruction, Reading}
use Rattle.clif_expansion.specs.Switching.{BuildsTyped, IsDeciding, IsDecidingCall, IsSwitchCode, LeadsInside, LeadsToBlocks, switching, targets_of}
use Rattle.clif_expansion.specs.Walk.{IsGenerated}
use Rattle.clif_expansion.proofs.Among.{generated_other}
use Rattle.clif_expansion.proofs.BlockNames.{asked_names, names_of}
use Rattle.clif_expansion.specs.Emission.{line_calls, reading_across}
use Rattle.clif_expansion.specs.JoinedCalls.{AreJoinedCalls, Asking, Emitting, Giving, HaveCurrent, Starting, Switching}
use Rattle.clif_expansion.specs.JoinedPrograms.{IsDecidingItem}
use Rattle.clif_expansion.specs.ScriptCall.{ScriptCall, emitted_item, ledger_of}
use Rattle.clif_expansion.proofs.GivenCalls.{given_ledger}
use Rattle.clif_expansion.proofs.JoinedCalls.{calls_made, current_read, fold_on, joined_calls}
use Rattle.clif_expansion.proofs.LedgerTypes.{types_before}
use Rattle.clif_expansion.proofs.ProgramsOfCalls.{EachKnown, anything, currents_same, script_place, undecided}
use Rattle.clif_expansion.proofs.SwitchedPrograms
use Rattle.clif_expansion.proofs.SwitchedPrograms.{all_two}
use Rattle.clif_expansion.proofs.DecidingPrograms.{AllBuilt}
use Rattle.clif_expansion.proofs.JoinedPrograms.{LastsIn, LastsLater}
use Rattle.clif_expansion.proofs.Names.{equal_names, names_equal}
use Rattle.clif_expansion.proofs.Placing.{contained_first, contained_in, contained_later, contained_left, none_contained}

-- OPERATIONS --------------------------------------------------------------------------------------------------------------

pub no_call : (operation : Operation) → IsDeciding operation → call_shape operation ≡ None
no_call (Compute arithmetic) is = refl
no_call Jump is = refl
no_call Brif is = refl
no_call (BrTable entries) is = refl
no_call _ is = absurd is

pub no_library : (pointer : «Type») (operation : Operation) → IsDeciding operation → IfLibraryCall pointer (library_call operation)
no_library pointer (Compute arithmetic) is = tt
no_library pointer Jump is = tt
no_library pointer Brif is = tt
no_library pointer (BrTable entries) is = tt
no_library pointer _ is = absurd is

others_nothing : (operation : Operation) → IsDeciding operation → (operation_typing operation).others ≡ others.Nothing
others_nothing (Compute (Iconst number)) is = refl
others_nothing (Compute (FloatConst float.F16const bits)) is = refl
others_nothing (Compute (FloatConst float.F32const bits)) is = refl
others_nothing (Compute (FloatConst float.F64const bits)) is = refl
others_nothing (Compute (PooledConst pooled.F128const bytes)) is = refl
others_nothing (Compute (PooledConst pooled.Vconst bytes)) is = refl
others_nothing (Compute (Unary name)) is = refl
others_nothing (Compute (Binary name)) is = refl
others_nothing (Compute (Compare condition)) is = refl
others_nothing (Compute Concat) is = refl
others_nothing (Compute Split) is = refl
others_nothing (Compute (Convert name)) is = refl
others_nothing (Compute Select) is = refl
others_nothing (Compute (AddConstant number)) is = refl
others_nothing (Compute (CompareConstant condition number)) is = refl
others_nothing Jump is = refl
others_nothing Brif is = refl
others_nothing (BrTable entries) is = refl
others_nothing _ is = absurd is

-- what decides takes the same operands, whatever the function returns
pub takes_anywhere : (returns : List «Type») (operation : Operation) (ty : «Type») (types : List «Type») → IsDeciding operation → TakesOperands [] operation ty types → TakesOperands returns operation ty types
takes_anywhere returns operation ty types is takes =
    subst (λ (o : OtherOperands). FitOperands returns (argument_types (call_shape operation)) ty o (operation_typing operation).operands types) (sym (others_nothing operation is))
    (subst (λ (o : OtherOperands). FitOperands [] (argument_types (call_shape operation)) ty o (operation_typing operation).operands types) (others_nothing operation is) takes)

-- BLOCKS THAT ARE THERE ---------------------------------------------------------------------------------------------------

there_named : (x : Name) (states : List BlockState) → IsTrue (is_some (find (λ s. same_name s.block x) states)) → Contains (names_of states) x
there_named x [] there = let no_way : ⊥ = cc in absurd no_way
there_named x (state ∷ states) there = by (same_name state.block x) refl there (there_named x states)
  where
    by : (c : Bool) → same_name state.block x ≡ c → IsTrue (is_some (cond c (Some state) (find (λ s. same_name s.block x) states)))
        → (IsTrue (is_some (find (λ s. same_name s.block x) states)) → Contains (names_of states) x) → Contains (names_of (state ∷ states)) x
    by true is here rest = subst (λ (y : Name). Contains (state.block ∷ names_of states) y) (names_equal state.block x is) (contained_first state.block (names_of states))
    by false is here rest = contained_later state.block (names_of states) x (rest here)

named_there : (x : Name) (states : List BlockState) → Contains (names_of states) x → IsTrue (is_some (find (λ s. same_name s.block x) states))
named_there x [] named = absurd (none_contained x named)
named_there x (state ∷ states) named = by (same_name state.block x) refl (contained_in state.block (names_of states) x named) (named_there x states)
  where
    by : (c : Bool) → same_name state.block x ≡ c → (state.block ≡ x) ⊎ Contains (names_of states) x → (Contains (names_of states) x → IsTrue (is_some (find (λ s. same_name s.block x) states)))
        → IsTrue (is_some (cond c (Some state) (find (λ s. same_name s.block x) states)))
    by true is side rest = refl
    by false is (inl same) rest = let apart : true ≡ false = sym (equal_names state.block x same) ∙ is in cc
    by false is (inr further) rest = rest further

pub there_later : (more : Script) (ledger : Ledger) (x : Name) → IsTrue (has_block ledger x) → IsTrue (has_block (fold ledger_with ledger more) x)
there_later [] ledger x there = there
there_later (request ∷ more) ledger x there =
    there_later more (ledger_with ledger request) x
    (named_there x (ledger_with ledger request).blocks
    (subst (λ (names : List Name). Contains names x) (sym (asked_names ledger request)) (contained_left (names_of ledger.blocks) _ x (there_named x ledger.blocks there))))

-- a block that a branch leads to is there
led_there : (f : BlockState → Bool) (state : Option BlockState) → IsTrue (state_has f state) → IsTrue (is_some state)
led_there f None is = let no_way : ⊥ = cc in absurd no_way
led_there f (Some state) is = refl

-- a generated block that is there has its terminator
module _ (reading : Reading) (made : ℕ) where
  own_ended : (x : Name) → IsGenerated reading x → (states' states : List BlockState) → StandAmong (IsReadState reading made) (IsOwnState reading) states' states
      → IsTrue (is_some (find (λ s. same_name s.block x) states')) → IsTrue (state_has (λ s. s.is_filled) (find (λ s. same_name s.block x) states'))
  own_ended x own [] states are there = let no_way : ⊥ = cc in absurd no_way
  own_ended x own (state' ∷ states') [] (Own a zs ws is are) there = by (same_name state'.block x) there (own_ended x own states' [] are)
    where
      by : (c : Bool) → IsTrue (is_some (cond c (Some state') (find (λ s. same_name s.block x) states')))
          → (IsTrue (is_some (find (λ s. same_name s.block x) states')) → IsTrue (state_has (λ s. s.is_filled) (find (λ s. same_name s.block x) states')))
          → IsTrue (state_has (λ s. s.is_filled) (cond c (Some state') (find (λ s. same_name s.block x) states')))
      by true here rest = is.is_filled
      by false here rest = rest here
  own_ended x own (state' ∷ states') (state ∷ states) (Both a b zs ws is are) there =
      subst (λ (c : Bool). IsTrue (state_has (λ s. s.is_filled) (cond c (Some state') (find (λ s. same_name s.block x) states')))) (sym apart)
      (own_ended x own states' states are (subst (λ (c : Bool). IsTrue (is_some (cond c (Some state') (find (λ s. same_name s.block x) states')))) apart there))
    where
      apart : same_name state'.block x ≡ false
      apart = generated_other reading state'.block x state.block is.block own
  own_ended x own (state' ∷ states') (state ∷ states) (Own a zs ws is are) there = by (same_name state'.block x) there (own_ended x own states' (state ∷ states) are)
    where
      by : (c : Bool) → IsTrue (is_some (cond c (Some state') (find (λ s. same_name s.block x) states')))
          → (IsTrue (is_some (find (λ s. same_name s.block x) states')) → IsTrue (state_has (λ s. s.is_filled) (find (λ s. same_name s.block x) states')))
          → IsTrue (state_has (λ s. s.is_filled) (cond c (Some state') (find (λ s. same_name s.block x) states')))
      by true here rest = is.is_filled
      by false here rest = rest here

pub own_filled : (reading : Reading) (plain ledger : Ledger) → AreJoinedLedgers reading plain ledger → (x : Name) → IsGenerated reading x → IsTrue (has_block plain x) → IsTrue (is_filled plain x)
own_filled reading plain ledger are x own there = own_ended reading (length ledger.answers) x own plain.blocks ledger.blocks are.states.blocks there

-- WHAT IS KNOWN -----------------------------------------------------------------------------------------------------------

-- its edges lead to blocks that are there in the end, and it is well typed
abbrev pub IsKnownItem : Ledger → (Name → «Type») → Item → Type 0
IsKnownItem ledger types (Instruct place instruction results) = IsTypedInLine types [] instruction × AllByRecursion (λ edge. IsTrue (has_block ledger edge.target)) instruction.edges
IsKnownItem ledger types (Use variable name) = ⊥
IsKnownItem ledger types (Assign variable name) = ⊥

abbrev pub IsKnownCode : Ledger → (Name → «Type») → Reading → Program → List Item → Item → Type 0
IsKnownCode ledger types reading program code item = AllByRecursion (IsKnownItem ledger types) code

pub known_lasts : (ledger : Ledger) (types : Name → «Type») → LastsIn (IsKnownCode ledger types)
known_lasts ledger types reading later before after keeps generated own code item is = is

module _ (ledger : Ledger) (types : Name → «Type») (plain more : Script) (block value : Name) (ty : «Type») (keys : List ℕ) (edges : List (Edge Name Name)) (branches tables : ℕ)
    (code : IsSwitchCode plain more block value ty keys edges branches tables) (have : HaveTypes (ledger_after (plain ++ more)) types)
    (grows : (x : Name) → IsTrue (has_block (ledger_after (plain ++ more)) x) → IsTrue (has_block ledger x)) where
  abbrev end' : Ledger
  end' = ledger_after (plain ++ more)

  edges_known : (list : List (Edge Name Name)) → AllByRecursion (LeadsInside (length plain) (targets_of edges)) list
      → AllByRecursion (λ edge. length plain ≤ edge.target.place → IsTrue (has_block end' edge.target)) list → AllByRecursion (λ edge. IsTrue (has_block ledger edge.target)) list
  edges_known [] inside there = tt
  edges_known (edge ∷ list) inside there = (grows edge.target (by inside.0.inside), edges_known list inside.1 there.1)
    where
      by : (length plain ≤ edge.target.place) ⊎ Contains (targets_of edges) edge.target → IsTrue (has_block end' edge.target)
      by (inl from) = there.0 from
      by (inr target) =
          let led = code.led edge.target target in
          led_there (λ state. list_any (same_name led.branch) state.predecessors) (block_state end' edge.target) led.leads

  all_known : (list : Script) (place : ℕ) → AllByRecursion (IsDecidingCall (length plain) (length (ledger_after plain).jump_tables) (targets_of edges)) list
      → AllByRecursion (LeadsToBlocks (length plain) end') list → AllByRecursion (BuildsTyped types) list → AllBuilt (IsKnownItem ledger types) place list
  all_known [] place deciding leads typed = tt
  all_known (Build entries instruction ∷ list) place deciding leads typed = (
    (typed.0, edges_known instruction.edges deciding.0.0.edges leads.0),
    all_known list (suc place) deciding.1 leads.1 typed.1,
  )
  all_known (CreateBlock ∷ list) place deciding leads typed = all_known list (suc place) deciding.1 leads.1 typed.1
  all_known (SwitchToBlock x ∷ list) place deciding leads typed = all_known list (suc place) deciding.1 leads.1 typed.1
  all_known (SealBlock x ∷ list) place deciding leads typed = all_known list (suc place) deciding.1 leads.1 typed.1
  all_known (MakeEdge edge ∷ list) place deciding leads typed = all_known list (suc place) deciding.1 leads.1 typed.1
  all_known (MakeJumpTable default entries ∷ list) place deciding leads typed = all_known list (suc place) deciding.1 leads.1 typed.1
  all_known (_ ∷ list) place deciding leads typed = absurd deciding.0

  pub built_known : AllBuilt (IsKnownItem ledger types) (length plain) more
  built_known = all_known more (length plain) code.calls code.blocks (code.typed types have)

-- ALL CALLS ---------------------------------------------------------------------------------------------------------------

module _ (ledger : Ledger) (types : Name → «Type») where
  code_known : (reading : Reading) (script more : Script) (earlier : List ScriptCall) (block value : Name) (ty : «Type») (keys : List ℕ) (edges : List (Edge Name Name)) (switch : Instruction Name Name)
      (branches tables : ℕ) → AreJoinedCalls reading script earlier → (ledger_after script).current ≡ Some block → HaveCurrent (ledger_after script) (ledger_of earlier)
      → IsReadInstruction reading (switching keys ty value edges) switch → (code : IsSwitchCode script more block value ty keys edges branches tables)
      → AllBuilt (IsKnownItem ledger types) (length script) more → AllByRecursion (IsKnownItem ledger types) code.code
  code_known reading script more earlier block value ty keys edges switch branches tables are at placed is code built =
      let joined = joined_calls reading script earlier are in
      let here = current_read reading (ledger_after script) (ledger_of earlier) (ledger_after script).current (ledger_of earlier).current block joined.ledgers.states.current at placed in
      (all_two (IsDecidingItem (reading_across reading (length script) (length more)) (emitted_item (length (ledger_of earlier).answers) switch)) (IsKnownItem ledger types) code.code
      (SwitchedPrograms.code_built reading script more (ledger_of earlier) joined block here.0 value ty keys edges switch branches tables at here.1 here.2 is code (calls_made script)
      (fold_on ledger_with empty_ledger script more) (IsKnownItem ledger types) built (currents_same script) (script_place script ∙ calls_made script) (fold_on with_call empty_program script more))).1

  module _ (Known : Reading → List Item → Item → Type 0) (lasts : LastsLater Known) where
    abbrev EachDecided : (reading : Reading) (plain : Script) (calls : List ScriptCall) → AreJoinedCalls reading plain calls → Type 0
    EachDecided reading plain calls are = EachKnown Known lasts (IsKnownCode ledger types) (known_lasts ledger types) (IsKnownItem ledger types) reading plain calls are

    -- where it is known of each emission in a line, it is known of each switch, too
    pub each_decided : (reading : Reading) (plain : Script) (calls : List ScriptCall) (are : AreJoinedCalls reading plain calls) → HaveTypes (ledger_after plain) types
        → ((x : Name) → IsTrue (has_block (ledger_after plain) x) → IsTrue (has_block ledger x))
        → EachKnown Known lasts undecided (λ a b c d e f g h i j. tt) anything reading plain calls are → EachDecided reading plain calls are
    each_decided reading plain calls Starting have grows known = tt
    each_decided reading plain calls (Asking old script earlier ask request are is placed) have grows known =
        let from = fold_on ledger_with empty_ledger script (ask ∷ []) in
        each_decided old script earlier are
        (types_before (ledger_after script) (ask ∷ []) types (subst (λ (l : Ledger). HaveTypes l types) from have))
        (λ x there. grows x (subst (λ (l : Ledger). IsTrue (has_block l x)) (sym from) (there_later (ask ∷ []) (ledger_after script) x there))) known
    each_decided reading plain calls (Emitting how old script earlier imports code last whole are placed line stays whole_stays same) have grows known =
        let more : Script = line_calls imports code last in
        let from = fold_on ledger_with empty_ledger script more in (
          each_decided old script earlier are
              (types_before (ledger_after script) more types (subst (λ (l : Ledger). HaveTypes l types) from have))
              (λ x there. grows x (subst (λ (l : Ledger). IsTrue (has_block l x)) (sym from) (there_later more (ledger_after script) x there))) known.0,
          known.1,
        )
    each_decided reading plain calls (Switching old script more earlier block value ty keys edges switch branches tables are at placed is code) have grows known =
        let from = fold_on ledger_with empty_ledger script more in
        let built = built_known ledger types script more block value ty keys edges branches tables code have grows in (
          each_decided old script earlier are
              (types_before (ledger_after script) more types (subst (λ (l : Ledger). HaveTypes l types) from have))
              (λ x there. grows x (subst (λ (l : Ledger). IsTrue (has_block l x)) (sym from) (there_later more (ledger_after script) x there))) known.0,
          code_known old script more earlier block value ty keys edges switch branches tables are at placed is code built,
          built,
        )
    each_decided reading plain calls (Giving old script given earlier are is) have grows known =
        let same = given_ledger script given is in
        each_decided old script earlier are
        (subst (λ (l : Ledger). HaveTypes l types) (sym same) have)
        (λ x there. grows x (subst (λ (l : Ledger). IsTrue (has_block l x)) same there)) known
