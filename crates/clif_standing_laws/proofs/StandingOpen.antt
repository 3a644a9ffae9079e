-- Where a builder stands for a list of calls, a block that may still get parameters of the caller's is unsealed, or has the
-- caller's parameters alone.
use Rattle.std.proofs.Common.{◌≡◌, ℕ, not, ◌||◌, Bool, true, false, List, map, slice_get, Option, Some, ◌⊎◌, inl, inr, refl, sym, ◌∙◌, ap}
use Rattle.std.proofs.lemmas.Option.{slice_get-map}
use Rattle.clif_types.specs.Signature.{SignatureShape}
use Rattle.clif_ir.specs.Body.{Body, block_at}
use Rattle.clif_ssa.specs.Ssa.{sealed_of}
use Rattle.clif_records.specs.Tables.{is_yes}
use Rattle.clif_meaning.specs.Name.{Name}
use Rattle.clif_meaning.specs.Request.{AnsweredCall}
use Rattle.clif_meaning.specs.Ledger.{BlockState, block_state, is_pristine, is_sealed, state_has}
use Rattle.clif_simulation.specs.Tables.{answered, callers_parameters, program_so_far}
use Rattle.clif_simulation.specs.Interrupted.{AreOpen}
use Rattle.clif_simulation.specs.Reading.{may_grow}
use Rattle.clif_simulation.specs.Structure.{HasCallersAlone}
use Rattle.clif_builder.specs.declared.context.BlockStatus.{BlockStatus}
use Rattle.clif_builder.specs.declared.context.BlockStatus.TheVariants.{Empty, Partial, Filled}
use Rattle.clif_builder.specs.Builder.{is_empty_status}
use Rattle.clif_builder.specs.Context.{ContextState, status_of}
use Rattle.clif_builder.specs.Ledger.{BlockAgrees, IsBegun, ledger_of, block_name}
use Rattle.clif_builder.specs.StandsFor.{StandsIn}
use Rattle.clif_builder.proofs.LedgerNames.{state-by-name, name-number}

is_empty : (status : BlockStatus) → is_empty_status status ≡ true → status ≡ Empty
is_empty Empty is = refl
is_empty Partial is = cc
is_empty Filled is = cc

pub are_open : (declared : SignatureShape) (calls : List AnsweredCall) (f : Body) (c : ContextState) (p : Option ℕ)
    → StandsIn declared calls f c p → AreOpen calls f c.ssa (may_grow calls)
are_open declared calls f c p stands block name named grows = by (is_yes (sealed_of c.ssa block)) refl
  where
    in_ledger : block_name (ledger_of calls) block ≡ Some name
    in_ledger = sym (slice_get-map (λ (state : BlockState). state.block) (ledger_of calls).blocks block) ∙ named

    found : (state : BlockState) × (slice_get (ledger_of calls).blocks block ≡ Some state) × (state.block ≡ name) × (block_state (ledger_of calls) name ≡ Some state)
    found = state-by-name calls (ledger_of calls) (name-number calls (ledger_of calls) f c p stands.ledger) block name in_ledger

    agrees : BlockAgrees calls f c block found.0
    agrees = stands.ledger.blocks block found.0 found.1

    same_seal : is_sealed (ledger_of calls) name ≡ is_yes (sealed_of c.ssa block)
    same_seal = ap (state_has (λ (state : BlockState). state.is_sealed)) found.3 ∙ agrees.is_sealed

    same_pristine : is_pristine (ledger_of calls) name ≡ is_empty_status (status_of c block)
    same_pristine = ap (state_has (λ (state : BlockState). state.is_pristine)) found.3 ∙ agrees.is_pristine

    -- a sealed block that may grow is pristine
    second : (a b : Bool) → a ≡ true → (not a || b) ≡ true → b ≡ true
    second true b is either = either
    second false b is either = cc

    alone : HasCallersAlone calls f block ⊎ IsBegun f c block → status_of c block ≡ Empty
        → (block_at f block).params ≡ map (answered calls) ((program_so_far calls).parameters name)
    alone (inl is) empty = is ∙ ap (λ (o : Option Name). map (answered calls) (callers_parameters calls o)) named
    alone (inr begun) empty = absurd (begun.begun empty)

    by : (t : Bool) → is_yes (sealed_of c.ssa block) ≡ t
        → (is_yes (sealed_of c.ssa block) ≡ false) ⊎ ((block_at f block).params ≡ map (answered calls) ((program_so_far calls).parameters name))
    by false is = inl is
    by true is =
        let pristine : is_pristine (ledger_of calls) name ≡ true =
        second (is_sealed (ledger_of calls) name) (is_pristine (ledger_of calls) name) (same_seal ∙ is) grows in
        inr (alone (stands.callers_alone block) (is_empty (status_of c block) (sym same_pristine ∙ pristine)))
