-- The premises of the examples: their items access no memory, so they hold beside every function, in every world.
use Rattle.std.proofs.Common.{[], refl}
use Rattle.clif_types.specs.Target.{pointer_type_of}
use Rattle.clif_types.specs.declared.target.PointerWidth.TheVariants.{U64}
use Rattle.clif_meaning.specs.FunctionView.{FunctionView}
use Rattle.clif_meaning.specs.Headline.{script_run}
use Rattle.clif_meaning.specs.Premises.{Premises}
use Rattle.clif_meaning.specs.World.{World}
use Rattle.clif_expansion.proofs.calls.Alone.{asking_means}
use Rattle.clif_premise_examples.specs.Premise.{Holds, IsTyped, Situation}
use Rattle.clif_premise_examples.specs.Scripts.{asking}
use Rattle.clif_premise_examples.proofs.Blocks.{each_item}
use Rattle.clif_premise_examples.proofs.Given.{well_placed}
use Rattle.clif_premise_examples.proofs.Situations.{named, targets, tracked}
use Rattle.clif_premise_examples.proofs.Still.{claimed, spared}
use Rattle.clif_moving_examples.specs.Scripts.{Example, across, join}
use Rattle.clif_moving_examples.specs.Sparing.{held}

module _ (function : FunctionView) (world : World) where
  abbrev beside : Example → Situation
  beside e = record { calls = asking e.script; signature = e.signature; width = U64; function = function; world = world }

  across_typed : Holds (beside across) IsTyped
  across_typed = record {
    items = each_item (asking across.script) _ (
      (
        refl,
        (
          record { made_at = refl; operands = (tt, refl); edges = tt },
          (
            tt,
            (
              record { made_at = refl; operands = (tt, refl); edges = tt },
              (record { made_at = refl; operands = refl; edges = tt }, tt),
            ),
          ),
        ),
      ),
      tt,
    );
    entry = refl;
  }

  pub across_premises : Premises across.script across.signature (pointer_type_of U64) (script_run across.script function world)
  across_premises = (asking_means.premises across.script across.signature (pointer_type_of U64) (script_run across.script function world)).1 (record {
    targets_filled = targets (beside across) (refl, tt);
    well_typed = across_typed;
    given_before = well_placed (asking across.script) (refl, tt);
    tracked_apart = tracked (beside across) (refl, tt);
    spares_spill_slots = spared (beside across) (refl, tt);
    claims_true = claimed (beside across) (refl, tt);
    libc_as_named = named (beside across) (refl, tt);
  })

  join_typed : Holds (beside join) IsTyped
  join_typed = record {
    items = each_item (asking join.script) _ (
      (record { made_at = refl; operands = (refl, tt); edges = (refl, (refl, tt)) }, tt),
      (
        (record { made_at = refl; operands = tt; edges = tt }, (refl, (record { made_at = refl; operands = tt; edges = (refl, tt) }, tt))),
        (
          (record { made_at = refl; operands = tt; edges = tt }, (refl, (record { made_at = refl; operands = tt; edges = (refl, tt) }, tt))),
          (
            (
              record { made_at = refl; operands = (tt, refl); edges = tt },
              (tt, (record { made_at = refl; operands = refl; edges = tt }, tt)),
            ),
            tt,
          ),
        ),
      ),
    );
    entry = refl;
  }

  pub join_premises : Premises join.script join.signature (pointer_type_of U64) (script_run join.script function world)
  join_premises = (asking_means.premises join.script join.signature (pointer_type_of U64) (script_run join.script function world)).1 (record {
    targets_filled = targets (beside join) (refl, (refl, (refl, (refl, tt))));
    well_typed = join_typed;
    given_before = well_placed (asking join.script) (refl, (refl, (refl, (refl, tt))));
    tracked_apart = tracked (beside join) (refl, (refl, (refl, (refl, tt))));
    spares_spill_slots = spared (beside join) (refl, (refl, (refl, (refl, tt))));
    claims_true = claimed (beside join) (refl, (refl, (refl, (refl, tt))));
    libc_as_named = named (beside join) (refl, (refl, (refl, (refl, tt))));
  })

  held_typed : Holds (beside (held [])) IsTyped
  held_typed = record {
    items = each_item (asking (held []).script) _ (
      (
        record { made_at = refl; operands = (tt, refl); edges = tt },
        (record { made_at = refl; operands = refl; edges = tt }, tt),
      ),
      tt,
    );
    entry = refl;
  }

  pub held_premises : Premises (held []).script (held []).signature (pointer_type_of U64) (script_run (held []).script function world)
  held_premises = (asking_means.premises (held []).script (held []).signature (pointer_type_of U64) (script_run (held []).script function world)).1 (record {
    targets_filled = targets (beside (held [])) (refl, tt);
    well_typed = held_typed;
    given_before = well_placed (asking (held []).script) (refl, tt);
    tracked_apart = tracked (beside (held [])) (refl, tt);
    spares_spill_slots = spared (beside (held [])) (refl, tt);
    claims_true = claimed (beside (held [])) (refl, tt);
    libc_as_named = named (beside (held [])) (refl, tt);
  })
