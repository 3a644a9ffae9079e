-- The examples of branches and of the try call.
use Rattle.std.proofs.Common.{◌≡◌, ◌<◌, ◌^◌, ℕ, [], ◌∷◌, refl, ap}
use Rattle.clif_types.specs.declared.extname.ExternalName.TheVariants as name
use Rattle.clif_meaning.specs.Bits.{Bits}
use Rattle.clif_meaning.specs.Event.{Answer, CallShape, Context, Default, Exception, Named, Results}
use Rattle.clif_meaning.specs.Machine.{Control, HasReturned}
use Rattle.clif_meaning.specs.Program.{Item}
use Rattle.clif_meaning.specs.ScriptMachine.{ScriptRun, call_outside, script_machine, script_step, take_answer}
use Rattle.clif_meaning.specs.TryExamples.{narrowing, returned, thrown}
use Rattle.clif_meaning.specs.FunctionView.{FunctionView}
use Rattle.clif_meaning.specs.World.{World}
use Rattle.clif_premise_examples.specs.Examples.{Answers, on_branches, on_try, stands_after}
use Rattle.clif_premise_examples.specs.Premise.{Holds, IsTyped, MeetsAll, Situation, run_in}
use Rattle.clif_premise_examples.proofs.Blocks.{each_item}
use Rattle.clif_premise_examples.proofs.Given.{well_placed}
use Rattle.clif_premise_examples.proofs.Situations.{named, no_slots, targets, tracked}
use Rattle.clif_premise_examples.proofs.Still.{claimed, spared}

module _ (argument : ℕ) (function : FunctionView) (world : World) where
  abbrev branching : Situation
  branching = on_branches argument function world

  branches_typed : Holds branching IsTyped
  branches_typed = record {
    items = each_item branching.calls _ (
      (record { made_at = refl; operands = (refl, tt); edges = (refl, (refl, (refl, tt))) }, tt),
      (
        (record { made_at = refl; operands = tt; edges = tt }, tt),
        (
          (record { made_at = refl; operands = (refl, tt); edges = (refl, (refl, tt)) }, tt),
          ((record { made_at = refl; operands = tt; edges = tt }, (record { made_at = refl; operands = refl; edges = tt }, tt)), tt),
        ),
      ),
    );
    entry = refl;
  }

  pub branches : argument < 2 ^ 32 → MeetsAll branching
  branches fits = record {
    accepted = refl;
    holds = (
      (fits, tt),
      (
        refl,
        (
          no_slots branching.world,
          (
            targets branching (refl, (refl, (refl, (refl, tt)))),
            (
              branches_typed,
              (
                well_placed branching.calls (refl, (refl, (refl, (refl, tt)))),
                (
                  tracked branching (refl, (refl, (refl, (refl, tt)))),
                  (
                    spared branching (refl, (refl, (refl, (refl, tt)))),
                    (
                      claimed branching (refl, (refl, (refl, (refl, tt)))),
                      (named branching (refl, (refl, (refl, (refl, tt)))), tt),
                    ),
                  ),
                ),
              ),
            ),
          ),
        ),
      ),
    );
  }

  abbrev trying : Situation
  trying = on_try argument function world

  try_typed : Holds trying IsTyped
  try_typed = record {
    items = each_item trying.calls _ (
      (record { made_at = refl; operands = (tt, refl); edges = (refl, (refl, tt)) }, tt),
      (
        (record { made_at = refl; operands = refl; edges = tt }, tt),
        ((record { made_at = refl; operands = refl; edges = tt }, tt), tt),
      ),
    );
    entry = refl;
  }

  pub tries : argument < 2 ^ 64 → MeetsAll trying
  tries fits = record {
    accepted = refl;
    holds = (
      (fits, tt),
      (
        refl,
        (
          no_slots trying.world,
          (
            targets trying (refl, (refl, (refl, tt))),
            (
              try_typed,
              (
                well_placed trying.calls (refl, (refl, (refl, tt))),
                (
                  tracked trying (refl, (refl, (refl, tt))),
                  (spared trying (refl, (refl, (refl, tt))), (claimed trying (refl, (refl, (refl, tt))), (named trying (refl, (refl, (refl, tt))), tt))),
                ),
              ),
            ),
          ),
        ),
      ),
    );
  }

-- where the run stands a step behind the answer to the try call
module _ (function : FunctionView) (world : World) where
  abbrev run : ScriptRun
  run = run_in (on_try 64 function world)

  abbrev shape : CallShape
  shape = record { signature = narrowing; items = Context ∷ Default ∷ [] }

  abbrev behind : Answer → Control Item
  behind answer =
      let called = call_outside run (script_machine run).start (Named (name.User (record { namespace = 0; index = 1 }))) shape (64 ∷ []) in
      (script_step run (take_answer run called (returned ∷ thrown ∷ []) [] [] answer)).control

  pub try_returns : (bits : Bits) → Answers world (Results (bits ∷ [])) → stands_after 2 (on_try 64 function world) ≡ HasReturned (64 ∷ [])
  try_returns bits answers = ap behind (answers _ shape)

  pub try_throws : (first second : Bits) → Answers world (Exception 0 (first ∷ second ∷ [])) → stands_after 2 (on_try 64 function world) ≡ HasReturned (first ∷ [])
  try_throws first second answers = ap behind (answers _ shape)
