-- Finished functions of scripts that differ only in when blocks are sealed have the same slots, and so the same meaning.
use Rattle.std.proofs.Common.{◌≡◌, ℕ, List, [], ◌∷◌, sym, ◌∙◌, ap, Option}
use Rattle.clif_types.specs.Signature.{SignatureShape}
use Rattle.clif_types.specs.declared.target.TargetFrontendConfig.{TargetFrontendConfig}
use Rattle.clif_types.specs.Target.{pointer_type_of}
use Rattle.clif_types.specs.declared.types.«Type».{«Type»}
use Rattle.clif_tables.specs.Lists.{TableLists}
use Rattle.clif_ir.specs.Body.{Body}
use Rattle.clif_meaning.specs.Ledger.{ledger_after}
use Rattle.clif_meaning.specs.Request.{AnsweredCall, Script, script_of}
use Rattle.clif_meaning.specs.View.{view_of}
use Rattle.clif_renaming.specs.Sealing.{DifferInSealing}
use Rattle.clif_renaming.proofs.Ledgers.{unsealed_tables}
use Rattle.clif_renaming.proofs.Premises.{functions_mean_the_same}
use Rattle.clif_calls.specs.declared.call.Call.{Call}
use Rattle.clif_expansion.specs.ScriptCall.{ledger_of}
use Rattle.clif_expansion.proofs.JoinedCalls.{joined_calls}
use Rattle.clif_replay.specs.Requests.{calls_of}
use Rattle.clif_replay.specs.Replayed.{IsBuiltBy, recorded_in}
use Rattle.clif_builder.specs.Context.{ContextState}
use Rattle.clif_builder.specs.Ending.{BecomesSpilled}
use Rattle.clif_builder.specs.StandsFor.{StandsIn}
use Rattle.clif_sealing_laws.specs.Laws.{BuiltFunctionsAgree, ReplayedFunctionsAgree, ReplayedSlotsAgree}
use Rattle.clif_sealing_laws.proofs.calls.Premises.{functions_of_calls_mean_the_same, same_tables_of_calls}

-- such scripts make the same entries of tables
same_tables : (left right : Script) → DifferInSealing left right → (ledger_after left).tables ≡ (ledger_after right).tables
same_tables left right differ =
    sym (unsealed_tables left).tables ∙ ap (λ (script : Script). (ledger_after script).tables) differ ∙ (unsealed_tables right).tables

-- functions of such scripts have the same slots
slots_agree : (calls others : List AnsweredCall) (declared : SignatureShape) (f g : Body) (c d : ContextState) (p q : Option ℕ)
    → DifferInSealing (script_of calls) (script_of others) → StandsIn declared calls f c p → StandsIn declared others g d q → (view_of f).slots ≡ (view_of g).slots
slots_agree calls others declared f g c d p q differ first second =
    ap (λ (tables : TableLists). tables.stack_slots) (sym first.ledger.tables ∙ same_tables (script_of calls) (script_of others) differ ∙ second.ledger.tables)

pub built_functions_agree : BuiltFunctionsAgree
built_functions_agree calls others declared width f g world differ first second is meets =
    functions_mean_the_same (script_of calls) (script_of others) declared width (view_of f) (view_of g) world differ
    (slots_agree calls others declared f g first.context second.context first.position second.position differ first.stands second.stands)
    first.same_meaning second.same_meaning is meets

pub replayed_functions_agree : ReplayedFunctionsAgree
replayed_functions_agree calls others declared config f g world differ first second slots is meets =
    functions_of_calls_mean_the_same (calls_of config declared calls) (calls_of config declared others) declared config.pointer_width (view_of f) (view_of g) world differ slots
    first.same_meaning second.same_meaning is meets

-- where nothing is recorded, a function is as the calls built it
unspilled : (f g : Body) (recorded : List ℕ) (pointer : «Type») → recorded ≡ [] → BecomesSpilled f recorded pointer g → g ≡ f
unspilled f g [] pointer none same = same
unspilled f g (value ∷ recorded) pointer none spilled = let no_way : ⊥ = cc in absurd no_way

-- so it has the slots that the calls create
slots_of_calls : (config : TargetFrontendConfig) (calls : List Call) (declared : SignatureShape) (f : Body) → (built : IsBuiltBy config calls declared f) → recorded_in built.found ≡ []
    → (view_of f).slots ≡ (ledger_of (calls_of config declared calls)).tables.stack_slots
slots_of_calls config calls declared f built none =
    let found = built.found in
    ap (λ (x : Body). (view_of x).slots) (unspilled found.function f (recorded_in found) (pointer_type_of config.pointer_width) none built.spilled)
    ∙ sym (ap (λ (tables : TableLists). tables.stack_slots) found.stands.ledger.tables)
    ∙ ap (λ (tables : TableLists). tables.stack_slots)
    (joined_calls found.plain.reading (script_of found.made) (calls_of config declared calls) found.plain.joined).ledgers.states.tables

pub replayed_slots_agree : ReplayedSlotsAgree
replayed_slots_agree calls others declared config f g differ first second none other_none =
    slots_of_calls config calls declared f first.built none
    ∙ ap (λ (tables : TableLists). tables.stack_slots) (same_tables_of_calls (calls_of config declared calls) (calls_of config declared others) differ)
    ∙ sym (slots_of_calls config others declared g second.built other_none)
