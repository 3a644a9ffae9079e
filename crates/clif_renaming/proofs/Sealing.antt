-- Scripts that differ only in when blocks are sealed show the same.
use Rattle.std.proofs.Common.{◌≡◌, ℕ, List, length, drop, refl, sym, ◌∙◌, ap}
use Rattle.std.specs.Prelude.{slice_get, option_map}
use Rattle.clif_tables.specs.Lists.{TableLists}
use Rattle.clif_meaning.specs.FunctionView.{FunctionView}
use Rattle.clif_meaning.specs.Headline.{script_behaviour, script_run}
use Rattle.clif_meaning.specs.Ledger.{VariableState, or_invalid}
use Rattle.clif_meaning.specs.Request.{Script}
use Rattle.clif_meaning.specs.Store.{in_slots_from}
use Rattle.clif_meaning.specs.World.{World}
use Rattle.clif_renaming.specs.Laws.{SealingIsFree, ShowTheSame}
use Rattle.clif_renaming.specs.Renaming.{IsRenamedRun}
use Rattle.clif_renaming.specs.Sealing.{DifferInSealing, name_left, unsealed}
use Rattle.clif_renaming.proofs.Ledgers.{unsealed_tables, unsealed_types}
use Rattle.clif_renaming.proofs.LockStep.{names_are_free, show_the_same}
use Rattle.clif_renaming.proofs.Places.{names_apart}
use Rattle.clif_renaming.proofs.Programs.{unsealed_program}
use Rattle.clif_renaming.proofs.TrackedNames.{unsealed_marked, unsealed_tracked}

pub unsealed_run : (script : Script) (function : FunctionView) (world : World)
    → IsRenamedRun (name_left script) (script_run script function world) (script_run (unsealed script) function world)
unsealed_run script function world = record {
  program = unsealed_program script;
  variable_type = λ variable. ap (λ (states : List VariableState). or_invalid (option_map (λ (state : VariableState). state.ty) (slice_get states variable))) (unsealed_tables script).variables;
  name_type = λ name. ap or_invalid (unsealed_types script name);
  is_marked = unsealed_marked script;
  is_tracked = unsealed_tracked script;
  hidden = λ address. ap (λ (tables : TableLists). in_slots_from world (length tables.stack_slots) (drop (length tables.stack_slots) function.slots) address) (unsealed_tables script).tables;
  world = refl;
}

pub same_shown : (left right : Script) (function : FunctionView) (world : World) → DifferInSealing left right
    → ShowTheSame (script_behaviour left function world) (script_behaviour right function world)
same_shown left right function world differ =
    show_the_same (script_behaviour left function world) (script_behaviour right function world) (λ n.
    to_unsealed left n ∙ ap (λ (script : Script). script_behaviour script function world n) differ ∙ sym (to_unsealed right n))
  where
    to_unsealed : (script : Script) (n : ℕ) → script_behaviour script function world n ≡ script_behaviour (unsealed script) function world n
    to_unsealed script n =
        (names_are_free (name_left script) (script_run script function world) (script_run (unsealed script) function world) (names_apart script) (unsealed_run script function world)).each_step n

pub sealing_is_free : SealingIsFree
sealing_is_free = record { apart = names_apart; renamed = unsealed_run; same = same_shown }
