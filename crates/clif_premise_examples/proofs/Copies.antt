-- The examples of copies.
use Rattle.std.proofs.Common.{◌≡◌, ℕ, true, false, refl, arith}
use Rattle.clif_meaning.specs.FunctionView.{FunctionView}
use Rattle.clif_meaning.specs.World.{World}
use Rattle.clif_premise_examples.specs.Examples.{on_copies}
use Rattle.clif_premise_examples.specs.Premise.{ClaimsTrue, FailsAlone, GivenBefore, Holds, IsTyped, MeetsAll, Situation, TargetsFilled, TrackedApart, run_in}
use Rattle.clif_premise_examples.proofs.Blocks.{each_item}
use Rattle.clif_premise_examples.proofs.Given.{well_placed}
use Rattle.clif_premise_examples.proofs.Running.{all_spared, all_true}
use Rattle.clif_premise_examples.proofs.Situations.{named, no_slots, targets, tracked}

module _ (target source : ℕ) (function : FunctionView) (world : World) where
  abbrev there : Situation
  there = on_copies target source function world

  typed : Holds there IsTyped
  typed = record {
    items = each_item there.calls _ (
      (
        record { made_at = refl; operands = tt; edges = tt },
        (
          record { made_at = refl; operands = (refl, (refl, tt)); edges = tt },
          (
            record { made_at = refl; operands = (refl, (refl, tt)); edges = tt },
            (record { made_at = refl; operands = (refl, (refl, (refl, tt))); edges = tt }, (record { made_at = refl; operands = refl; edges = tt }, tt)),
          ),
        ),
      ),
      tt,
    );
    entry = refl;
  }

  static : {R : Type 0} → R → Holds there TargetsFilled × (Holds there IsTyped × (Holds there GivenBefore × (Holds there TrackedApart × R)))
  static rest = (targets there (refl, tt), (typed, (well_placed there.calls (refl, tt), (tracked there (refl, tt), rest))))

module _ (function : FunctionView) (world : World) where
  abbrev between : ℕ → Situation
  between source = on_copies 64 source function world

  pub copies : MeetsAll (between 80)
  unfolding lib.Count.count_trailing_zeros
  copies = record {
    accepted = refl;
    holds = (
      (omega arith, (omega arith, tt)),
      (
        refl,
        (
          no_slots (between 80).world,
          static 64 80 function world
              (all_spared (run_in (between 80)) 5 refl, (all_true (run_in (between 80)) 5 refl, (named (between 80) (refl, tt), tt))),
        ),
      ),
    );
  }

  pub apart : FailsAlone ClaimsTrue (between 72)
  unfolding lib.Count.count_trailing_zeros
  apart = record {
    accepted = refl;
    fails = λ claims. let no : true ≡ false = (claims 2).1.1.1.1.0 72 in cc;
    others = (
      (omega arith, (omega arith, tt)),
      (
        refl,
        (
          no_slots (between 72).world,
          static 64 72 function world
              (all_spared (run_in (between 72)) 4 refl, (named (between 72) (refl, tt), tt)),
        ),
      ),
    );
  }
