use mathlib.Core.Logic.{∥∥₁_map}
use Rattle.clif_builder.proofs.Ordered.{order-begins}
use Rattle.std.proofs.Common.{refl, sym, subst}
use Rattle.clif_ssa.specs.Structure.{LooksOnce}
use Rattle.clif_ssa.proofs.CountedOnce.{nothing_looked}
use Rattle.clif_builder.specs.Context.{ContextState}
use Rattle.clif_builder.proofs.Declaring.{names_nothing}
use Rattle.clif_builder.proofs.Standing.{stands_begins}
use Rattle.clif_builder.proofs.LedgerEnds.{begins-empty}
use Rattle.clif_builder.proofs.Fitting.{asked_fits, fits_cleared}
use Rattle.clif_builder.proofs.frontend.FunctionBuilder.new.Goals as goal

pub invariant_of-result : goal.invariant_of-result
invariant_of-result g c = record {
  named = ∥∥₁_map (names_nothing c.args.func.now c.args.ctx.now.parts c.requires.empty.parts) (λ names.
      record { names = names; in_order = λ fine. order-begins c.args.func.now c.args.ctx.now.parts c.requires.fresh c.requires.empty.parts; fits_maps = λ fine. asked_fits (fits_cleared c.args.func.now c.args.ctx.now.parts c.requires.empty.parts) });
}

pub returns-clause-ledger : goal.returns-clause-ledger
returns-clause-ledger g c = begins-empty _ _ _ c.requires.fresh c.requires.empty.parts refl

pub returns-clause-stands : goal.returns-clause-stands
returns-clause-stands g c =
    stands_begins c.args.func.now c.args.ctx.now.parts _ c.requires.fresh c.requires.empty.parts (begins-empty c.args.func.now c.args.ctx.now.parts _ c.requires.fresh c.requires.empty.parts refl)

pub returns-clause-looks_once : goal.returns-clause-looks_once
returns-clause-looks_once g c = subst (λ (v : ContextState). LooksOnce v.ssa) (sym c.requires.empty.parts) nothing_looked
