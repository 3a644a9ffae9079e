-- Where `finalize` succeeds, no parameter waits and the entry is sealed, so the finished function means what the list
-- of calls means.
use Rattle.std.proofs.Common.{◌≡◌, ◌≢◌, ℕ, zero, suc, ◌+◌, ◌<◌, ◌≤◌, List, [], ◌∷◌, length, refl, sym, ◌∙◌, ap, subst, arith, ◌⊎◌, inl, inr}
use Rattle.std.specs.Prelude.{Option, Some, None, Bool, true, false, if◌then◌else◌, OnOk, Ok, Err, Result, IsTrue}
use Rattle.std.proofs.lemmas.Option.{slice_get-map}
use Rattle.clif_types.specs.Signature.{SignatureShape}
use Rattle.clif_types.specs.declared.target.PointerWidth.{PointerWidth}
use Rattle.clif_ir.specs.Body.{Body}
use Rattle.clif_ir.specs.Consistent.{IsConsistent}
use Rattle.clif_records.specs.declared.tables.Pending.{Pending}
use Rattle.clif_records.specs.Tables.{No, Sealed, Yes, is_yes, pending_of}
use Rattle.clif_ssa.specs.Ssa.{sealed_of}
use Rattle.clif_meaning.specs.Name.{Name}
use Rattle.clif_meaning.specs.Ledger.{BlockState, is_filled, state_has}
use Rattle.clif_meaning.specs.Request.{AnsweredCall, script_of}
use Rattle.clif_meaning.specs.View.{view_of}
use Rattle.clif_meaning.specs.Premises.{CallersEdgesMatch, PlacementPremises}
use Rattle.clif_meaning.specs.Typing.{EdgesMatch}
use Rattle.clif_simulation.specs.Tables as simulation
use Rattle.clif_simulation.specs.Laws.{IsFinished}
use Rattle.clif_simulation.specs.Structure.{NoneWaits}
use Rattle.clif_simulation.proofs.Values.{false_is}
use Rattle.clif_simulation.proofs.Whole.{Whole, freed, whole}
use Rattle.clif_simulation.proofs.Shape.CarriedStructure.{no_parameters}
use Rattle.clif_simulation.proofs.Shape.Defined.{well_placed}
use Rattle.clif_simulation.proofs.Shape.RecordsDefined.{records_well_placed}
use Rattle.clif_builder.specs.declared.error.FinalizeError.{FinalizeError}
use Rattle.clif_builder.specs.declared.error.FinalizeError.TheVariants.{Unsealed, Unfilled, Failed}
use Rattle.clif_builder.specs.declared.context.BlockStatus.{BlockStatus}
use Rattle.clif_builder.specs.declared.context.BlockStatus.TheVariants.{Empty, Partial, Filled}
use Rattle.clif_builder.specs.declared.builder.FunctionBuilder.{FunctionBuilder}
use Rattle.clif_builder.specs.Context.{ContextState, status_of}
use Rattle.clif_builder.specs.Builder.{answer_of, block_fault, first_fault, or_else, verdict_of, is_empty_status, is_filled_status}
use Rattle.clif_builder.specs.Ledger.{ledger_of, block_name}
use Rattle.clif_builder.specs.Ending.{AsFound, Ends}
use Rattle.clif_builder.specs.StandsFor.{StandsIn, StandsFor}
use Rattle.clif_builder.proofs.LedgerNames.{state-by-name, name-number}
use Rattle.clif_builder.proofs.Placed.{in_order, waiting_begun}
use Rattle.clif_builder.proofs.Ending.{on_ok_ends}
use Rattle.clif_builder.proofs.Spilled.{moving}
use Rattle.clif_builder.proofs.Standing.{standing_edges}

-- no block is at fault, where none is the first
no_fault : (c : ContextState) (count from k : ℕ) → first_fault c from count ≡ None → from ≤ k → k < from + count → block_fault c k ≡ None
unfolding first_fault
no_fault c zero from k none above below = absurd (omega arith)
no_fault c (suc count) from k none above below =
    by (block_fault c from) refl none (order from k above) (λ rest later. no_fault c count (from + 1) k rest later (omega arith))
  where
    order : (a b : ℕ) → a ≤ b → (a ≡ b) ⊎ (a + 1 ≤ b)
    order a b h = grind arith

    by : (o : Option FinalizeError) → block_fault c from ≡ o → or_else o (first_fault c (from + 1) count) ≡ None → (from ≡ k) ⊎ (from + 1 ≤ k)
        → (first_fault c (from + 1) count ≡ None → from + 1 ≤ k → block_fault c k ≡ None) → block_fault c k ≡ None
    by (Some fault) is first o next = absurd (some fault first)
      where
        some : (e : FinalizeError) → Some e ≡ None → ⊥
        some e h = cc
    by None is first (inl here) next = ap (block_fault c) (sym here) ∙ is
    by None is first (inr later) next = next first later

-- a block at no fault is empty or sealed
sealed_unless_empty : (s : BlockStatus) (t : Bool) (k : ℕ)
    → (if is_empty_status s then None else if t then (if is_filled_status s then None else Some (Unfilled k)) else Some (Unsealed k)) ≡ None → (s ≡ Empty) ⊎ (t ≡ true)
sealed_unless_empty Empty t k none = inl refl
sealed_unless_empty Partial true k none = inr refl
sealed_unless_empty Partial false k none = absurd (unsealed k none)
  where
    unsealed : (k : ℕ) → Some (Unsealed k) ≡ None → ⊥
    unsealed k h = cc
sealed_unless_empty Filled true k none = inr refl
sealed_unless_empty Filled false k none = absurd (unsealed k none)
  where
    unsealed : (k : ℕ) → Some (Unsealed k) ≡ None → ⊥
    unsealed k h = cc

-- in a sealed block no parameter waits
none_in_sealed : (s : Sealed) → is_yes s ≡ true → pending_of s ≡ []
none_in_sealed Yes is = refl
none_in_sealed (No pending) is = absurd (apart is)
  where
    apart : false ≡ true → ⊥
    apart h = cc

-- no parameter waits where each block in which any waits is sealed
module _ (declared : SignatureShape) (calls : List AnsweredCall) (f : Body) (c : ContextState) (p : Option ℕ) (stands : StandsIn declared calls f c p) where
  none_waiting : ((b : ℕ) → pending_of (sealed_of c.ssa b) ≢ [] → is_yes (sealed_of c.ssa b) ≡ true) → NoneWaits c.ssa
  none_waiting sealed b = by (pending_of (sealed_of c.ssa b)) refl
    where
      by : (ps : List Pending) → pending_of (sealed_of c.ssa b) ≡ ps → pending_of (sealed_of c.ssa b) ≡ []
      by [] is = is
      by (q ∷ ps) is = none_in_sealed (sealed_of c.ssa b) (sealed b (λ none. apart (sym is ∙ none)))
        where
          apart : (q ∷ ps) ≡ [] → ⊥
          apart h = cc

  -- where each block is sealed, edges match
  pub sealed_edges : {T E : Type 0} (r : Result T E) → OnOk r ((b : ℕ) → b < length f.blocks → is_yes (sealed_of c.ssa b) ≡ true) → CallersEdgesMatch (script_of calls)
      → OnOk r (EdgesMatch (view_of f))
  sealed_edges (Err e) sealed typed = tt
  sealed_edges (Ok u) sealed typed =
      standing_edges declared calls f c p stands (none_waiting (λ b some. by b some (order (length f.blocks) b))) typed
    where
      order : (n k : ℕ) → (n ≤ k) ⊎ (k < n)
      order n k = grind arith

      by : (b : ℕ) → pending_of (sealed_of c.ssa b) ≢ [] → (length f.blocks ≤ b) ⊎ (b < length f.blocks) → is_yes (sealed_of c.ssa b) ≡ true
      by b some (inl past) = absurd ((waiting_begun f c (in_order stands.ledger) b some).begun (stands.ledger.fresh b past).1)
      by b some (inr there) = sealed b there

module _ (declared : SignatureShape) (calls : List AnsweredCall) (f : Body) (c : ContextState) (p : Option ℕ) (stands : StandsIn declared calls f c p)
    (consistent : IsConsistent f) (none : first_fault c 0 (length f.blocks) ≡ None) where
  -- a block in which something was made is sealed
  begun_sealed : (b : ℕ) → status_of c b ≢ Empty → is_yes (sealed_of c.ssa b) ≡ true
  begun_sealed b made = by (order (length f.blocks) b)
    where
      order : (n k : ℕ) → (n ≤ k) ⊎ (k < n)
      order n k = grind arith

      or_empty : (status_of c b ≡ Empty) ⊎ (is_yes (sealed_of c.ssa b) ≡ true) → is_yes (sealed_of c.ssa b) ≡ true
      or_empty (inl empty) = absurd (made empty)
      or_empty (inr sealed) = sealed

      by : (length f.blocks ≤ b) ⊎ (b < length f.blocks) → is_yes (sealed_of c.ssa b) ≡ true
      by (inl past) = absurd (made (stands.ledger.fresh b past).1)
      by (inr there) = or_empty (sealed_unless_empty (status_of c b) (is_yes (sealed_of c.ssa b)) b (no_fault c (length f.blocks) 0 b none (omega arith) (omega (arith, there))))

  none_waits : (b : ℕ) → pending_of (sealed_of c.ssa b) ≡ []
  none_waits = none_waiting declared calls f c p stands (λ b some. begun_sealed b (waiting_begun f c (in_order stands.ledger) b some).begun)

  filled_not_empty : (status : BlockStatus) → IsTrue (is_filled_status status) → status ≢ Empty
  filled_not_empty Empty filled = absurd (false_is filled)
  filled_not_empty Partial filled = absurd (false_is filled)
  filled_not_empty Filled filled = λ same. apart same
    where
      apart : Filled ≡ Empty → ⊥
      apart h = cc

  -- a block that has its terminator is sealed
  filled_sealed : (b : ℕ) (name : Name) → simulation.block_name calls b ≡ Some name → IsTrue (is_filled (ledger_of calls) name) → is_yes (sealed_of c.ssa b) ≡ true
  filled_sealed b name named filled =
      let numbered : block_name (ledger_of calls) b ≡ Some name = sym (slice_get-map (λ (state : BlockState). state.block) (ledger_of calls).blocks b) ∙ named in
      let state = state-by-name calls (ledger_of calls) (name-number calls (ledger_of calls) f c p stands.ledger) b name numbered in
      let of_state : IsTrue state.0.is_filled = subst (λ (o : Option BlockState). IsTrue (state_has (λ (s : BlockState). s.is_filled) o)) state.3 filled in
      begun_sealed b (filled_not_empty (status_of c b) (subst (λ (t : Bool). IsTrue t) (stands.ledger.blocks b state.0 state.1).is_filled of_state))

  pub is_finished : IsFinished calls f c.ssa
  is_finished = record {
    none_waits = none_waits;
    entry_sealed = λ entry is. begun_sealed entry (stands.begun entry is);
    filled_sealed = filled_sealed;
  }

-- what holds of a finished function holds where `finalize` succeeds
on_finished : {R : Type 0} (declared : SignatureShape) (calls : List AnsweredCall) (b : FunctionBuilder R) → StandsFor declared calls b → IsConsistent b.func.now
    → (P : Type 0) → (IsFinished calls b.func.now b.ctx.now.parts.ssa → P) → OnOk (verdict_of b.failed b.ctx.now.parts (length b.func.now.blocks)) P
on_finished declared calls b stands consistent P holds = by b.failed
  where
    of_fault : (o : Option FinalizeError) → first_fault b.ctx.now.parts 0 (length b.func.now.blocks) ≡ o → OnOk (answer_of o) P
    of_fault (Some fault) is = tt
    of_fault None is = holds (is_finished declared calls b.func.now b.ctx.now.parts b.position stands consistent is)

    by : (failed : Bool) → OnOk (if failed then Err Failed else answer_of (first_fault b.ctx.now.parts 0 (length b.func.now.blocks))) P
    by true = tt
    by false = of_fault (first_fault b.ctx.now.parts 0 (length b.func.now.blocks)) refl

-- what is so of the function as it is found
pub as_found : {R : Type 0} (declared : SignatureShape) (calls : List AnsweredCall) (b : FunctionBuilder R) (width : PointerWidth) (stands : StandsFor declared calls b) (consistent : IsConsistent b.func.now)
    → IsFinished calls b.func.now b.ctx.now.parts.ssa → AsFound declared width calls b
as_found declared calls b width stands consistent finished = record {
  moving = moving declared calls b width stands consistent finished;
  recorded = stands.ledger.tracks.exactly;
  parameters = no_parameters calls b.func.now b.ctx.now.parts.ssa stands.carries finished.none_waits;
  edges_match = λ typed. standing_edges declared calls b.func.now b.ctx.now.parts b.position stands finished.none_waits typed;
  well_placed = λ premises. well_placed calls b.func.now b.ctx.now.parts.ssa consistent (all premises) premises.given_before;
  records_well_placed = λ records are premises.
      records_well_placed calls b.func.now b.ctx.now.parts.ssa consistent (all premises) premises.given_before records are;
}
  where
    all : PlacementPremises (script_of calls) declared → Whole calls b.func.now b.ctx.now.parts.ssa
    all premises = whole calls b.func.now b.ctx.now.parts.ssa consistent stands.carries (freed calls b.func.now b.ctx.now.parts.ssa stands.carries premises.targets_filled)

-- the construction is finished where `finalize` succeeds
pub finished_where_ok : {R : Type 0} (declared : SignatureShape) (calls : List AnsweredCall) (b : FunctionBuilder R) (answer : Result (Unit {0}) FinalizeError) → StandsFor declared calls b → IsConsistent b.func.now
    → Ends b answer → OnOk answer (IsFinished calls b.func.now b.ctx.now.parts.ssa)
finished_where_ok declared calls b answer stands consistent ends =
    on_ok_ends b answer (IsFinished calls b.func.now b.ctx.now.parts.ssa) ends
    (on_finished declared calls b stands consistent (IsFinished calls b.func.now b.ctx.now.parts.ssa) (λ finished. finished))
