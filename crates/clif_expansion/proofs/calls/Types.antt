-- Types go from a script's calls to their plain calls: items with their names read are well typed, and so is the code of emissions.
use Rattle.std.proofs.Common.{◌≡◌, ◌⊎◌, inl, inr, ℕ, suc, List, [], ◌∷◌, ◌++◌, length, map, sym, ◌∙◌, ap, ap₂, subst, Option, Some, None}
use Rattle.std.specs.Prelude.{fold}
use Rattle.std.specs.List.{AllByRecursion}
use Rattle.clif_opcodes.specs.Kinds.{is_met}
use Rattle.clif_types.specs.declared.types.«Type».{«Type»}
use Rattle.clif_types.specs.Signature.{SignatureShape}
use Rattle.clif_tables.specs.Callees.{types_of}
use Rattle.clif_meaning.specs.Access.{library_call}
use Rattle.clif_meaning.specs.Instruction.{Instruction, Operation, Switch, operation_typing}
use Rattle.clif_meaning.specs.Event.{CallShape}
use Rattle.clif_meaning.specs.Ledger.{Ledger, empty_ledger, ledger_after, ledger_with, or_invalid}
use Rattle.clif_meaning.specs.Library.{pointer_of}
use Rattle.clif_meaning.specs.Name.{Name}
use Rattle.clif_meaning.specs.Premises.{CallsLibraryAsNamed, EachItem, EntryTakes, IfLibraryCall, IsItemWellTyped, ItemEdgesMatch, WellTyped, parameter_types}
use Rattle.clif_meaning.specs.Program.{Program, Item, Instruct, Use, Assign, program_of}
use Rattle.clif_meaning.specs.Request.{Script}
use Rattle.clif_meaning.specs.Typing.{EachEdgeMatches, IsWellTyped, TakesOperands, call_shape}
use Rattle.clif_expansion.specs.Code.{NameTypes}
use Rattle.clif_expansion.specs.Emission.{StaysInLine, building, importing, ledger_importing, line_calls}
use Rattle.clif_expansion.specs.Expansion.{IsCutProgram, IsReadBlock}
use Rattle.clif_expansion.specs.JoinedCalls.{AreJoinedCalls, Asking, Emitting, Giving, Starting, Switching}
use Rattle.clif_expansion.specs.JoinedPrograms.{IsDecidingItem, IsEmission, built_items}
use Rattle.clif_expansion.specs.Joining.{IsJoined}
use Rattle.clif_expansion.specs.PerformedCalls.{ArePerformed, HaveTypes, IsTypedInLine}
use Rattle.clif_expansion.specs.Reading.{Agree, IsReadInstruction, IsReadItem, Reading}
use Rattle.clif_expansion.specs.ScriptCall.{ScriptCall, emitted_item, ledger_of, program_of_calls}
use Rattle.clif_expansion.specs.Walk.{IsGenerated}
use Rattle.clif_expansion.proofs.CalledPrograms.{OwnItems}
use Rattle.clif_expansion.proofs.GivenCalls.{given_ledger}
use Rattle.clif_expansion.proofs.JoinedCalls.{fold_on}
use Rattle.clif_expansion.proofs.JoinedPrograms.{IsCalledSo, LastsLater}
use Rattle.clif_expansion.proofs.LedgerTypes.{types_before}
use Rattle.clif_expansion.proofs.Names.{each_read}
use Rattle.clif_expansion.proofs.Placing.{of_contained}
use Rattle.clif_expansion.proofs.ProgramsOfCalls.{EachKnown, GoesSo, all_anything, anything, go, undecided}
use Rattle.clif_expansion.proofs.ReadConditions
use Rattle.clif_expansion.proofs.calls.Blocks.{all_read, each_item}
use Rattle.clif_expansion.proofs.calls.Deciders.{IsKnownCode, IsKnownItem, each_decided, known_lasts, no_library, takes_anywhere}
use Rattle.clif_expansion.proofs.calls.Premises as carried
use Rattle.clif_expansion.proofs.calls.Premises.{each_matches, none_match}

-- INSTRUCTIONS WITHOUT EDGES ----------------------------------------------------------------------------------------------

-- without edges, what parameters blocks have doesn't matter
retyped : (types : Name → «Type») (before after : Name → List «Type») (returns : List «Type») (instruction : Instruction Name Name) → StaysInLine instruction
    → IsWellTyped types before returns instruction → IsWellTyped types after returns instruction
retyped types before after returns instruction stays typed = record {
  made_at = typed.made_at;
  operands = typed.operands;
  edges = subst (EachEdgeMatches types after (call_shape instruction.operation)) (sym stays.no_edges) (none_match types after (call_shape instruction.operation));
}

-- an item that is an instruction, without its edges
abbrev IsTypedItem : (Name → «Type») → List «Type» → Item → Type 0
IsTypedItem types returns (Instruct place instruction results) = IsTypedInLine types returns instruction
IsTypedItem types returns (Use variable name) = ⊥
IsTypedItem types returns (Assign variable name) = ⊥

items_typed : (types : Name → «Type») (returns : List «Type») (place : ℕ) (code : List (Instruction Name Name)) → AllByRecursion (IsTypedInLine types returns) code
    → AllByRecursion (IsTypedItem types returns) (built_items place code)
items_typed types returns place [] all = tt
items_typed types returns place (instruction ∷ code) all = (all.0, items_typed types returns (suc place) code all.1)

items_as_named : (pointer : «Type») (place : ℕ) (code : List (Instruction Name Name)) → AllByRecursion (λ each. IfLibraryCall pointer (library_call each.operation)) code
    → AllByRecursion (CallsLibraryAsNamed pointer) (built_items place code)
items_as_named pointer place [] all = tt
items_as_named pointer place (instruction ∷ code) all = (all.0, items_as_named pointer (suc place) code all.1)

-- WHAT IS KNOWN OF CODE ---------------------------------------------------------------------------------------------------

module _ (pointer_width : ℕ) (types : NameTypes) where
  -- Where names agree, the code is well typed if the item is, and it calls the library as named.
  abbrev IsCodeTyped : Reading → List Item → Item → Type 0
  IsCodeTyped reading code item =
      (Agree reading types.plain types.script → (returns : List «Type») → IsTypedItem types.script returns item → AllByRecursion (IsTypedItem types.plain returns) code)
      × AllByRecursion (CallsLibraryAsNamed (pointer_of pointer_width)) code

  lasts : LastsLater IsCodeTyped
  lasts reading later keeps generated code item is = (λ agree. is.0 (λ x name read. agree x name (keeps x name read)), is.1)

  each_typed : (reading : Reading) (plain : Script) (calls : List ScriptCall) (are : AreJoinedCalls reading plain calls)
      → HaveTypes (ledger_after plain) types.plain → ArePerformed pointer_width reading plain calls are → EachKnown IsCodeTyped lasts undecided (λ a b c d e f g h i j. tt) anything reading plain calls are
  each_typed reading plain calls Starting have' done = tt
  each_typed reading plain calls (Asking old script earlier ask request are is placed) have' done =
      each_typed old script earlier are
      (types_before (ledger_after script) (ask ∷ []) types.plain (subst (λ (l : Ledger). HaveTypes l types.plain) (fold_on ledger_with empty_ledger script (ask ∷ [])) have')) done
  each_typed reading plain calls (Emitting how old script earlier imports code last whole are placed line stays whole_stays same) have' done =
      let importing' : Ledger = ledger_importing (ledger_after script) imports in
      let all' : HaveTypes (fold ledger_with (ledger_after script) (line_calls imports code last)) types.plain =
      subst (λ (l : Ledger). HaveTypes l types.plain) (fold_on ledger_with empty_ledger script (line_calls imports code last)) have' in
      let behind' : HaveTypes (fold ledger_with importing' (map building code ++ building last ∷ [])) types.plain =
      subst (λ (l : Ledger). HaveTypes l types.plain) (fold_on ledger_with (ledger_after script) (importing imports) (map building code ++ building last ∷ [])) all' in (
        each_typed old script earlier are (types_before (ledger_after script) (line_calls imports code last) types.plain all') done.0,
        (
          λ agree returns typed. items_typed types.plain returns (length importing'.answers) (code ++ last ∷ []) (done.1.typed types returns behind' agree typed),
          items_as_named (pointer_of pointer_width) (length importing'.answers) (code ++ last ∷ []) done.1.as_named,
        ),
      )
  each_typed reading plain calls (Switching old script more earlier block value ty keys edges switch branches tables are at placed is code) have' done =
      let behind' : HaveTypes (fold ledger_with (ledger_after script) more) types.plain =
      subst (λ (l : Ledger). HaveTypes l types.plain) (fold_on ledger_with empty_ledger script more) have' in (
        each_typed old script earlier are (types_before (ledger_after script) more types.plain behind') done,
        tt,
        all_anything (length script) more,
      )
  each_typed reading plain calls (Giving old script given earlier are is) have' done =
      each_typed old script earlier are (subst (λ (l : Ledger). HaveTypes l types.plain) (sym (given_ledger script given is)) have') done

-- JOINED CALLS ------------------------------------------------------------------------------------------------------------

module _ (pointer_width : ℕ) (reading : Reading) (plain : Script) (calls : List ScriptCall) (are : AreJoinedCalls reading plain calls)
    (done : ArePerformed pointer_width reading plain calls are) where
  abbrev ledger' : Ledger
  ledger' = ledger_after plain

  abbrev ledger : Ledger
  ledger = ledger_of calls

  abbrev program' : Program
  program' = program_of plain

  abbrev program : Program
  program = program_of_calls calls

  abbrev types : NameTypes
  types = record { plain = carried.types' reading plain calls are; script = carried.types reading plain calls are }

  abbrev Stands : List Item → Item → Type 0
  Stands = IsCalledSo (IsCodeTyped pointer_width types) (IsKnownCode ledger' types.plain) reading (length ledger.answers) program'

  joined : IsJoined reading ledger' ledger
  joined = carried.joined reading plain calls are

  agree : Agree reading types.plain types.script
  agree = carried.agree reading plain calls are

  goes : GoesSo (IsCodeTyped pointer_width types) (lasts pointer_width types) (IsKnownCode ledger' types.plain) (known_lasts ledger' types.plain) (IsKnownItem ledger' types.plain) reading plain calls
  goes =
      go (IsCodeTyped pointer_width types) (lasts pointer_width types) (IsKnownCode ledger' types.plain) (known_lasts ledger' types.plain) (IsKnownItem ledger' types.plain) reading plain calls are
      (each_decided ledger' types.plain (IsCodeTyped pointer_width types) (lasts pointer_width types) reading plain calls are (λ x ty is. ap or_invalid is) (λ x there. there)
      (each_typed pointer_width types reading plain calls are (λ x ty is. ap or_invalid is) done))

  cut : IsCutProgram reading Stands program' program
  cut = goes.cut

  -- READ ITEMS ------------------------------------------------------------------------------------------------------------

  instruction_typed : (returns : List «Type») (instruction' instruction : Instruction Name Name) → IsReadInstruction reading instruction' instruction
      → IsWellTyped types.script (parameter_types ledger program) returns instruction → IsWellTyped types.plain (parameter_types ledger' program') returns instruction'
  instruction_typed returns instruction' instruction is typed = record {
    made_at = ap₂ (λ (operation : Operation) (ty : «Type»). is_met (operation_typing operation).demand ty) is.operation is.controlling ∙ typed.made_at;
    operands =
        subst (λ (operation : Operation). TakesOperands returns operation instruction'.controlling (map types.plain instruction'.operands)) (sym is.operation)
        (subst (λ (ty : «Type»). TakesOperands returns instruction.operation ty (map types.plain instruction'.operands)) (sym is.controlling)
        (subst (TakesOperands returns instruction.operation instruction.controlling) (sym (each_read reading types.plain types.script agree instruction'.operands instruction.operands is.operands))
        typed.operands));
    edges =
        subst (λ (shape : Option CallShape). EachEdgeMatches types.plain (parameter_types ledger' program') shape instruction'.edges) (sym (ap call_shape is.operation))
        (each_matches reading types.plain types.script agree (parameter_types ledger' program') (parameter_types ledger program) (carried.parameters_same reading plain calls are)
        (call_shape instruction.operation) instruction'.edges instruction.edges is.edges typed.edges);
  }

  item_typed : (returns : List «Type») (item' item : Item) → IsReadItem reading item' item → IsItemWellTyped ledger program returns item → IsItemWellTyped ledger' program' returns item'
  item_typed returns (Instruct place instruction' given) (Instruct other instruction results) is typed = instruction_typed returns instruction' instruction is.0 typed
  item_typed returns (Use number x) (Use variable name) is typed = tt
  item_typed returns (Assign number x) (Assign variable name) is typed =
      ReadConditions.type_same reading ledger' ledger joined.ledgers joined.one_to_one x name is.1 ∙ typed ∙ sym (ReadConditions.variable_same reading ledger' ledger joined.ledgers joined.one_to_one number variable is.0)
  item_typed returns _ _ is typed = absurd is

  item_as_named : (pointer : «Type») (item' item : Item) → IsReadItem reading item' item → CallsLibraryAsNamed pointer item → CallsLibraryAsNamed pointer item'
  item_as_named pointer (Instruct place instruction' given) (Instruct other instruction results) is named =
      subst (IfLibraryCall pointer) (sym (ap library_call is.0.operation)) named
  item_as_named pointer (Use number x) (Use variable name) is named = tt
  item_as_named pointer (Assign number x) (Assign variable name) is named = tt
  item_as_named pointer _ _ is named = absurd is

  -- EMITTED CODE ----------------------------------------------------------------------------------------------------------

  line_typed : (returns : List «Type») (place : ℕ) (code : List (Instruction Name Name)) → AllByRecursion StaysInLine code
      → AllByRecursion (IsTypedItem types.plain returns) (built_items place code) → AllByRecursion (IsItemWellTyped ledger' program' returns) (built_items place code)
  line_typed returns place [] line all = tt
  line_typed returns place (instruction ∷ code) line all = (
    retyped types.plain (λ block. []) (parameter_types ledger' program') returns instruction line.0 all.0,
    line_typed returns (suc place) code line.1 all.1,
  )

  emission_typed : (returns : List «Type») (code : List Item) (item : Item) → IsEmission reading code item → IsCodeTyped pointer_width types reading code item
      → IsItemWellTyped ledger program returns item → AllByRecursion (IsItemWellTyped ledger' program' returns) code
  emission_typed returns code item is known typed =
      let whole_typed : IsWellTyped types.script (parameter_types ledger program) returns is.whole = subst (IsItemWellTyped ledger program returns) is.emitted typed in
      let item_is : IsTypedItem types.script returns item =
      subst (IsTypedItem types.script returns) (sym is.emitted) (retyped types.script (parameter_types ledger program) (λ block. []) returns is.whole is.stays whole_typed) in
      subst (AllByRecursion (IsItemWellTyped ledger' program' returns)) (sym is.built)
      (line_typed returns is.place _ is.line (subst (AllByRecursion (IsTypedItem types.plain returns)) is.built (known.0 agree returns item_is)))

  -- what decides for a switch is well typed
  decider_typed : (returns : List «Type») (item : Item) (other : ℕ) (keys : List ℕ) (switch : Instruction Name Name) → switch.operation ≡ Switch keys
      → AllByRecursion (λ edge. edge.arguments ≡ []) switch.edges → item ≡ emitted_item other switch → IsItemWellTyped ledger program returns item → (code : List Item)
      → AllByRecursion (IsDecidingItem reading item) code → AllByRecursion (IsKnownItem ledger' types.plain) code → AllByRecursion (IsItemWellTyped ledger' program' returns) code
  decider_typed returns item other keys switch is_switch bare emitted typed [] decides known = tt
  decider_typed returns item other keys switch is_switch bare emitted typed (Instruct place instruction results ∷ code) decides known = (
    record {
      made_at = known.0.0.made_at;
      operands = takes_anywhere returns instruction.operation instruction.controlling (map types.plain instruction.operands) decides.0.deciding known.0.0.operands;
      edges = carried.decider_matches reading plain calls are item other keys switch is_switch bare emitted (matches item other switch emitted typed) place instruction decides.0;
    },
    decider_typed returns item other keys switch is_switch bare emitted typed code decides.1 known.1,
  )
    where
      matches : (i : Item) (n : ℕ) (s : Instruction Name Name) → i ≡ emitted_item n s → IsItemWellTyped ledger program returns i → ItemEdgesMatch ledger program i
      matches i n s is well =
          subst (ItemEdgesMatch ledger program) (sym is) (edges_of (subst (IsItemWellTyped ledger program returns) is well))
        where
          edges_of : IsItemWellTyped ledger program returns (emitted_item n s) → ItemEdgesMatch ledger program (emitted_item n s)
          edges_of w = w.edges
  decider_typed returns item other keys switch is_switch bare emitted typed (Use variable name ∷ code) decides known = absurd decides.0
  decider_typed returns item other keys switch is_switch bare emitted typed (Assign variable name ∷ code) decides known = absurd decides.0

  code_typed : (returns : List «Type») (code : List Item) (item : Item) → Stands code item → IsItemWellTyped ledger program returns item → AllByRecursion (IsItemWellTyped ledger' program' returns) code
  code_typed returns (item' ∷ []) item (inl is) typed = (item_typed returns item' item is.0 typed, tt)
  code_typed returns [] item (inl is) typed = absurd is
  code_typed returns (item' ∷ second ∷ code) item (inl is) typed = absurd is
  code_typed returns code item (inr (inl is)) typed = emission_typed returns code item is.0 is.1 typed
  code_typed returns code item (inr (inr is)) typed =
      decider_typed returns item is.switched.other is.switched.keys is.switched.switch is.switched.is_switch is.switched.nothing is.switched.emitted typed code is.switched.decides is.decided

  own_typed : (returns : List «Type») → EachItem (IsItemWellTyped ledger program returns) program → (x : Name) → IsGenerated reading x → AllByRecursion (IsItemWellTyped ledger' program' returns) (program'.items x)
  own_typed returns all x generated = by (goes.own x generated).1
    where
      by : (program'.items x ≡ [])
          ⊎ OwnItems (IsCodeTyped pointer_width types) (lasts pointer_width types) (IsKnownCode ledger' types.plain) (known_lasts ledger' types.plain) (IsKnownItem ledger' types.plain) reading (length ledger.answers) program' program x
          → AllByRecursion (IsItemWellTyped ledger' program' returns) (program'.items x)
      by (inl none) = subst (AllByRecursion (IsItemWellTyped ledger' program' returns)) (sym none) tt
      by (inr items) =
          decider_typed returns items.item items.other items.keys items.switch items.is_switch items.nothing items.emitted
          (of_contained (IsItemWellTyped ledger program returns) (program.items items.block) items.item (all items.block) items.there) (program'.items x) items.decides items.known

  decider_as_named : (item : Item) (code : List Item) → AllByRecursion (IsDecidingItem reading item) code → AllByRecursion (CallsLibraryAsNamed (pointer_of pointer_width)) code
  decider_as_named item [] decides = tt
  decider_as_named item (Instruct place instruction results ∷ code) decides =
      (no_library (pointer_of pointer_width) instruction.operation decides.0.deciding, decider_as_named item code decides.1)
  decider_as_named item (Use variable name ∷ code) decides = absurd decides.0
  decider_as_named item (Assign variable name ∷ code) decides = absurd decides.0

  code_as_named : (code : List Item) (item : Item) → Stands code item → CallsLibraryAsNamed (pointer_of pointer_width) item → AllByRecursion (CallsLibraryAsNamed (pointer_of pointer_width)) code
  code_as_named (item' ∷ []) item (inl is) named = (item_as_named (pointer_of pointer_width) item' item is.0 named, tt)
  code_as_named [] item (inl is) named = absurd is
  code_as_named (item' ∷ second ∷ code) item (inl is) named = absurd is
  code_as_named code item (inr (inl is)) named = is.1.1
  code_as_named code item (inr (inr is)) named = decider_as_named item code is.switched.decides

  own_as_named : (x : Name) → IsGenerated reading x → AllByRecursion (CallsLibraryAsNamed (pointer_of pointer_width)) (program'.items x)
  own_as_named x generated = by (goes.own x generated).1
    where
      by : (program'.items x ≡ [])
          ⊎ OwnItems (IsCodeTyped pointer_width types) (lasts pointer_width types) (IsKnownCode ledger' types.plain) (known_lasts ledger' types.plain) (IsKnownItem ledger' types.plain) reading (length ledger.answers) program' program x
          → AllByRecursion (CallsLibraryAsNamed (pointer_of pointer_width)) (program'.items x)
      by (inl none) = subst (AllByRecursion (CallsLibraryAsNamed (pointer_of pointer_width))) (sym none) tt
      by (inr items) = decider_as_named items.item (program'.items x) items.decides

  -- PREMISES --------------------------------------------------------------------------------------------------------------

  entry_takes : (tys : List «Type») (entry' entry : Option Name) → IsReadBlock reading entry' entry → EntryTakes ledger program tys entry → EntryTakes ledger' program' tys entry'
  entry_takes tys None None is takes = tt
  entry_takes tys (Some x) (Some block) is takes = carried.parameters_same reading plain calls are x block is ∙ takes
  entry_takes tys None (Some block) is takes = absurd is
  entry_takes tys (Some x) None is takes = absurd is

  pub well_typed : (signature : SignatureShape) → WellTyped ledger program signature → WellTyped ledger' program' signature
  well_typed signature typed = record {
    items = each_item Stands (IsItemWellTyped ledger program (types_of signature.returns)) (IsItemWellTyped ledger' program' (types_of signature.returns))
        (code_typed (types_of signature.returns)) reading program' program cut (all_read reading plain calls are) (own_typed (types_of signature.returns) typed.items) typed.items;
    entry = entry_takes (types_of signature.params) program'.entry program.entry cut.entry typed.entry;
  }

  pub libc_as_named : EachItem (CallsLibraryAsNamed (pointer_of pointer_width)) program → EachItem (CallsLibraryAsNamed (pointer_of pointer_width)) program'
  libc_as_named all =
      each_item Stands (CallsLibraryAsNamed (pointer_of pointer_width)) (CallsLibraryAsNamed (pointer_of pointer_width)) code_as_named reading program' program cut
      (all_read reading plain calls are) own_as_named all
