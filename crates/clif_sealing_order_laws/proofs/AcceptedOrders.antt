-- What a call of the builder that may be made, or that seals, says of the order of sealing.
use Rattle.std.proofs.Common.{◌≡◌, Bool, true, false, cond, not, List, [], ◌∷◌, refl, sym, ap, subst, Some}
use Rattle.std.specs.Prelude.{◌&&◌, find, is_some}
use Rattle.std.specs.List.{list_all}
use Rattle.std.proofs.lemmas.Bool.{and_from, and_parts, or_left}
use Rattle.clif_meaning.specs.Acceptance.{allows, can_lead, can_leave, can_operate, has_argument, has_entry, is_open, is_unfinished, may_give_all, refusal_of, unfinished}
use Rattle.clif_meaning.specs.Instruction.{Edge, operation_entries}
use Rattle.clif_meaning.specs.Ledger.{BlockState, Ledger, has_block, has_instruction, has_value, is_filled, is_sealed, leads_to}
use Rattle.clif_meaning.specs.Name.{Name}
use Rattle.clif_meaning.specs.Request.{Request, SwitchToBlock, SealBlock, Build, ChangeJumpDestination, Finalize}
use Rattle.clif_renaming.specs.Sealing.{is_sealing}
use Rattle.clif_renaming.proofs.RenamedEffects.{Seals, SealsAll, SealsOne, sealing_is}
use Rattle.clif_sealing_order_laws.specs.Order.{allows_order, is_left_anyhow, is_sealed_if_begun, is_unsealed_target, spares_order}

pub leads_unsealed : (ledger : Ledger) (edges : List (Edge Name Name)) → list_all (can_lead ledger) edges ≡ true → list_all (is_unsealed_target ledger) edges ≡ true
leads_unsealed ledger [] lead = refl
leads_unsealed ledger (edge ∷ edges) lead =
    let both = and_parts (can_lead ledger edge) (list_all (can_lead ledger) edges) lead in
    let first = and_parts (has_block ledger edge.target && not (is_sealed ledger edge.target)) (list_all (has_argument ledger) edge.arguments) both.0 in
    and_from (is_unsealed_target ledger edge) (list_all (is_unsealed_target ledger) edges)
    (and_parts (has_block ledger edge.target) (not (is_sealed ledger edge.target)) first.0).1 (leads_unsealed ledger edges both.1)

finished_sealed : (states : List BlockState) → is_some (unfinished (find is_unfinished states)) ≡ false → list_all is_sealed_if_begun states ≡ true
finished_sealed [] none = refl
finished_sealed (state ∷ states) none = by state.is_pristine state.is_sealed state.is_filled none (finished_sealed states)
  where
    by : (pristine sealed filled : Bool) → is_some (unfinished (cond (not pristine && not (sealed && filled)) (Some state) (find is_unfinished states))) ≡ false
        → (is_some (unfinished (find is_unfinished states)) ≡ false → list_all is_sealed_if_begun states ≡ true)
        → (not (not pristine && not sealed) && list_all is_sealed_if_begun states) ≡ true
    by true sealed filled is later = later is
    by false true true is later = later is
    by false true false is later = let no_way : ⊥ = cc in absurd no_way
    by false false filled is later = let no_way : ⊥ = cc in absurd no_way

-- a call that may be made and isn't refused gets what it asks of the sealing before it
pub allowed_ordered : (ledger : Ledger) (request : Request) → allows ledger request ≡ true → is_some (refusal_of ledger request) ≡ false → allows_order ledger request ≡ true
allowed_ordered ledger (SwitchToBlock block) may none = (and_parts (has_block ledger block && not (is_filled ledger block)) (can_leave ledger ledger.current) may).1
allowed_ordered ledger (SealBlock block) may none = may
allowed_ordered ledger (Build entries instruction) may none =
    let start : Bool = list_all (has_value ledger) instruction.contexts && may_give_all ledger entries && is_open ledger ledger.current && list_all (has_value ledger) instruction.operands in
    let leads : Bool = list_all (can_lead ledger) instruction.edges in
    let operates : Bool = can_operate instruction.operation instruction.controlling in
    let named : Bool = list_all (has_entry ledger.tables) (operation_entries instruction.operation) in
    leads_unsealed ledger instruction.edges (and_parts start leads (and_parts (start && leads) operates (and_parts (start && leads && operates) named may).0).0).1
allowed_ordered ledger (ChangeJumpDestination branch from to) may none =
    let start : Bool = has_instruction ledger branch && leads_to ledger branch from in
    let both = and_parts (start && not (is_sealed ledger from) && has_block ledger to) (not (is_sealed ledger to)) may in
    and_from (not (is_sealed ledger from)) (not (is_sealed ledger to))
    (and_parts start (not (is_sealed ledger from)) (and_parts (start && not (is_sealed ledger from)) (has_block ledger to) both.0).0).1 both.1
allowed_ordered ledger Finalize may none = finished_sealed ledger.blocks none
allowed_ordered ledger _ may none = refl

-- a call that seals may be made where the order is allowed, and none is refused
pub seal_allowed : (ledger : Ledger) (request : Request) → is_sealing request ≡ true → spares_order ledger request ≡ true → allows ledger request ≡ true
seal_allowed ledger request seals ordered = by (sealing_is request seals) ordered
  where
    by : Seals request → spares_order ledger request ≡ true → allows ledger request ≡ true
    by (SealsOne block same) = subst (λ (r : Request). spares_order ledger r ≡ true → allows ledger r ≡ true) (sym same) (λ is. is)
    by (SealsAll same) = subst (λ (r : Request). spares_order ledger r ≡ true → allows ledger r ≡ true) (sym same) (λ is. refl)

pub seal_unrefused : (ledger : Ledger) (request : Request) → is_sealing request ≡ true → is_some (refusal_of ledger request) ≡ false
seal_unrefused ledger request seals = by (sealing_is request seals)
  where
    by : Seals request → is_some (refusal_of ledger request) ≡ false
    by (SealsOne block same) = ap (λ (r : Request). is_some (refusal_of ledger r)) same
    by (SealsAll same) = ap (λ (r : Request). is_some (refusal_of ledger r)) same

-- where its order is allowed sealing isn't to blame
pub allowed_spared : (ledger : Ledger) (request : Request) → allows_order ledger request ≡ true → spares_order ledger request ≡ true
allowed_spared ledger (SwitchToBlock block) ordered = or_left (can_leave ledger ledger.current) (is_left_anyhow ledger ledger.current) ordered
allowed_spared ledger _ ordered = ordered
