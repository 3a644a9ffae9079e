-- All blocks are sealed: the agreement with the ledger is kept, and the builder stands for the calls.
use Rattle.std.proofs.Common.{◌≡◌, ◌<◌, ◌≤◌, Bool, ℕ, List, [], ◌∷◌, ◌++◌, length, refl, sym, ◌∙◌, ap, subst, arith, inl}
use Rattle.std.proofs.lemmas.List.{length-map}
use Rattle.std.specs.Prelude.{map, ltb, slice_get, Option, None, Some, option_map, true, Result, Ok, Err, OnOk}
use Rattle.std.proofs.lemmas.Bool.{le-ltb, lt-ltb, ltb-true}
use Rattle.std.proofs.lemmas.Option.{slice_get-map, slice_get_within}
use Rattle.clif_types.specs.Signature.{SignatureShape}
use Rattle.clif_ir.specs.Body.{Body}
use Rattle.clif_ir.specs.Consistent.{IsConsistent}
use Rattle.clif_meaning.specs.Name.{Name}
use Rattle.clif_meaning.specs.Request.{AnsweredCall, SealAllBlocks}
use Rattle.clif_meaning.specs.Ledger.{ABlock, BlockState, Ledger, ledger_with, sealed}
use Rattle.clif_meaning.proofs.CallLists as earlier
use Rattle.clif_records.specs.Tables.{is_yes}
use Rattle.clif_ssa.specs.Ssa.{predecessors_of, sealed_of}
use Rattle.clif_simulation.proofs.Further.{carries_sealed_all}
use Rattle.clif_simulation.proofs.Redirections.Predecessors.{leads_on}
use Rattle.clif_builder.specs.Context.{Begins, ContextState, SameStatus, SameVariables}
use Rattle.clif_builder.specs.Builder.{is_empty_status, is_filled_status}
use Rattle.clif_builder.specs.Construction.{IsSealingAll}
use Rattle.clif_builder.specs.Ledger.{BlockAgrees, IsStructured, LedgerAgrees, block_name, ledger_of}
use Rattle.clif_builder.specs.StandsFor.{StandsIn}
use Rattle.clif_builder.proofs.Counted.{counts_on, spends_sealed}
use Rattle.clif_builder.proofs.LedgerLists.{if-yes, if-no, map-some, named-more, one-named-more}
use Rattle.clif_builder.proofs.LedgerKept.{Extends, answer-still, answers-after, answers-none, concluded, extends-constructs, keeps-of, places-after, types-kept}
use Rattle.clif_builder.proofs.LedgerMade.{numbers-kept}
use Rattle.clif_builder.proofs.Placed.{in_order, are_listed, listed_types, sealed_alone, sealed_branches, sealed_layout, sealed_status, records_exist}
use Rattle.clif_builder.proofs.Standing.{begins_not_empty}
use Rattle.clif_builder.proofs.StandingCallers.{alone_after, same_callers}
use Rattle.clif_simulation.proofs.Whole.{declared_types}
use Rattle.clif_simulation.proofs.Calls.{structured_so_far}
use Rattle.clif_builder.proofs.Touching.{agree_same, are_types}
use Rattle.clif_builder.proofs.Tracks.{keeps_made, tracks_made, tracks_on}

abbrev seals_all : AnsweredCall
seals_all = record { request = SealAllBlocks; numbers = [] }

module _ (calls : List AnsweredCall) (ledger : Ledger) (f g : Body) (c d : ContextState) (p : Option ℕ) (told : List ℕ) (agrees : LedgerAgrees calls ledger f c p)
    (sealing : IsSealingAll f c.ssa g d.ssa told) (begins : Begins c d told) (firm : IsConsistent f) (consistent : IsConsistent g) (variables : SameVariables c d) where
  abbrev new : Ledger
  new = ledger_with ledger SealAllBlocks

  abbrev all_blocks : ℕ → Bool
  all_blocks b = ltb b (length f.blocks)

  extends : Extends f g
  extends = extends-constructs f g sealing.constructs

  layout : g.layout ≡ f.layout
  layout = sealed_layout f c (in_order agrees) g d all_blocks told sealing firm consistent

  status_at : SameStatus c d
  status_at = sealed_status f c (in_order agrees) g d all_blocks told sealing firm begins

  same_names : (k : ℕ) → block_name new k ≡ block_name ledger k
  same_names k = ap (option_map (λ (s : BlockState). s.block)) (slice_get-map sealed ledger.blocks k) ∙ by (slice_get ledger.blocks k)
    where
      by : (o : Option BlockState) → option_map (λ (s : BlockState). s.block) (option_map sealed o) ≡ option_map (λ (s : BlockState). s.block) o
      by None = refl
      by (Some s) = refl

  names : (k : ℕ) (x : Name) → block_name ledger k ≡ Some x → block_name new k ≡ Some x
  names k x is = same_names k ∙ is

  block_here : (k : ℕ) (s : BlockState) → BlockAgrees calls f c k s → k < length f.blocks → BlockAgrees (calls ++ seals_all ∷ []) g d k (sealed s)
  block_here k s was inside = record {
    number = earlier.kept calls seals_all s.block k was.number;
    is_sealed = sym (sealing.sealed k ∙ if-yes (all_blocks k) true (is_yes (sealed_of c.ssa k)) (lt-ltb k (length f.blocks) inside));
    is_pristine = was.is_pristine ∙ ap is_empty_status (sym (status_at k));
    is_filled = was.is_filled ∙ ap is_filled_status (sym (status_at k));
    is_cold = was.is_cold ∙ sym (extends.cold k);
    predecessors = numbers-kept calls seals_all s.predecessors (predecessors_of c.ssa k) was.predecessors ∙ ap (map Some) (sym (sealing.predecessors k));
  }

  -- a state of the new ledger is one of the old ledger, sealed
  state_here : (k : ℕ) (t : BlockState) → slice_get new.blocks k ≡ Some t → (s : BlockState) × (slice_get ledger.blocks k ≡ Some s) × (sealed s ≡ t)
  state_here k t there = map-some sealed (slice_get ledger.blocks k) t (sym (slice_get-map sealed ledger.blocks k) ∙ there)

  structured : IsStructured agrees.own g d
  structured types are = sealing.structured types agrees.own (agrees.structured types (are_types c d types variables are))

  blocks_agree : (k : ℕ) (t : BlockState) → slice_get new.blocks k ≡ Some t → BlockAgrees (calls ++ seals_all ∷ []) g d k t
  blocks_agree k t there =
      let state = state_here k t there in
      let inside : k < length ledger.blocks = slice_get_within ledger.blocks k state.0 state.1 in
      subst (λ (s : BlockState). BlockAgrees (calls ++ seals_all ∷ []) g d k s) state.2
      (block_here k state.0 (agrees.blocks k state.0 state.1) (omega (arith, inside, agrees.block_count)))

  pub agrees-sealed_all : LedgerAgrees (calls ++ seals_all ∷ []) new g d p
  agrees-sealed_all = record {
    places = places-after calls seals_all ledger new [] agrees.places refl;
    answers = answers-after calls seals_all ledger new f g c p [] agrees refl names (keeps-of f g extends) (answers-none new g (length calls));
    block_count = length-map ledger.blocks sealed ∙ agrees.block_count ∙ sym extends.block_count;
    blocks = blocks_agree;
    block_answers = λ k x is. answer-still ledger new [] x ABlock refl (agrees.block_answers k x (sym (same_names k) ∙ is));
    current = one-named-more (block_name ledger) (block_name new) ledger.current p names agrees.current;
    layout = named-more (block_name ledger) (block_name new) ledger.layout f.layout names agrees.layout ∙ ap (map (block_name new)) (sym layout);
    variables = agree_same ledger.variables c d variables agrees.variables;
    tables = agrees.tables ∙ sym extends.tables;
    tracks =
        tracks_on calls seals_all f.values c g.values d tt
        (keeps_made f.values f.values g.values f c d refl extends.parameters sealing.stay (records_exist agrees.own f c agrees.structured) sealing.tracks
        sealing.makes)
        agrees.tracks;
    counts =
        counts_on calls seals_all f c g d
        (spends_sealed _ _ f c g d all_blocks told (in_order agrees) (λ b is. ltb-true b (length f.blocks) is) sealing extends.block_count variables.0) agrees.counts;
    own = agrees.own;
    structured = structured;
    callers_types = λ k t there.
        let state = state_here k t there in
        types-kept f g (keeps-of f g extends) (agrees.own.params k) state.0.parameters (agrees.callers_types k state.0 state.1)
        ∙ ap (λ (s : BlockState). map Some s.parameters) state.2;
    callers_alone = λ b.
        sealed_alone f c (in_order agrees) g d all_blocks told sealing firm consistent begins agrees.own (listed_types d.variables)
        (structured (listed_types d.variables) (are_listed d)) b (agrees.callers_alone b);
    branches = sealed_branches f c (in_order agrees) g d all_blocks told sealing firm consistent begins;
    fresh = λ k above.
        let past : length f.blocks ≤ k = omega (arith, above, extends.block_count) in (
          sealing.sealed k ∙ if-no (all_blocks k) true (is_yes (sealed_of c.ssa k)) (le-ltb k (length f.blocks) past) ∙ (agrees.fresh k past).0,
          status_at k ∙ (agrees.fresh k past).1,
          sealing.predecessors k ∙ (agrees.fresh k past).2,
        );
  }

-- what comes of it
pub sealed_all : {E : Type 0} (calls : List AnsweredCall) (f g : Body) (c d : ContextState) (p : Option ℕ) (r : Result (Unit {0}) E)
    → LedgerAgrees calls (ledger_of calls) f c p → OnOk r ((told : List ℕ) × IsSealingAll f c.ssa g d.ssa told × Begins c d told) → IsConsistent f → IsConsistent g → SameVariables c d
    → OnOk r (LedgerAgrees (calls ++ seals_all ∷ []) (ledger_of (calls ++ seals_all ∷ [])) g d p)
sealed_all calls f g c d p (Err e) agrees seals firm consistent variables = tt
sealed_all calls f g c d p (Ok u) agrees seals firm consistent variables =
    concluded calls seals_all g d p (agrees-sealed_all calls (ledger_of calls) f g c d p seals.0 agrees seals.1 seals.2 firm consistent variables)

pub sealed_all_stands : {E : Type 0} (declared : SignatureShape) (calls : List AnsweredCall) (f g : Body) (c d : ContextState) (p : Option ℕ) (r : Result (Unit {0}) E)
    → StandsIn declared calls f c p → IsConsistent f → OnOk r ((told : List ℕ) × IsSealingAll f c.ssa g d.ssa told × Begins c d told) → IsConsistent g
    → OnOk r (LedgerAgrees (calls ++ seals_all ∷ []) (ledger_of (calls ++ seals_all ∷ [])) g d p)
    → OnOk r (StandsIn declared (calls ++ seals_all ∷ []) g d p)
sealed_all_stands declared calls f g c d p (Err e) stands consistent are after ledger = tt
sealed_all_stands declared calls f g c d p (Ok u) stands consistent are after ledger =
    let seals = are.1 in
    let layout : g.layout ≡ f.layout = sealed_layout f c (in_order stands.ledger) g d (λ b. ltb b (length f.blocks)) are.0 seals consistent after in
    record {
      signature = ap (λ (h : Body). h.signature) seals.constructs.same ∙ stands.signature;
      ledger = ledger;
      carries = carries_sealed_all calls f c.ssa stands.carries g d.ssa (λ b. ltb b (length f.blocks)) consistent seals.sealed seals.keeps seals.structured seals.constructs layout seals.predecessors after
          (tracks_made seals.tracks) seals.stay;
      leads_built = leads_on calls seals_all tt stands.leads_built;
      begun = λ b there. begins_not_empty c d are.0 are.2 b (inl (stands.begun b (ap (λ (blocks : List ℕ). slice_get blocks 0) (sym layout) ∙ there)));
      callers_alone = λ b.
          alone_after calls seals_all f g c d stands.carries.own stands.carries.holds.parameters (same_callers calls seals_all f c.ssa stands.carries tt tt) b
          (sealed_alone f c (in_order stands.ledger) g d (λ x. ltb x (length f.blocks)) are.0 seals consistent after are.2 stands.carries.own (declared_types calls)
          (seals.structured (declared_types calls) stands.carries.own (structured_so_far calls f c.ssa stands.carries)) b)
          (stands.callers_alone b);
    }

-- each block of the function is sealed then
pub all_sealed : {E : Type 0} (f g : Body) (c d : ContextState) (r : Result (Unit {0}) E)
    → OnOk r ((told : List ℕ) × IsSealingAll f c.ssa g d.ssa told × Begins c d told)
    → OnOk r ((b : ℕ) → b < length g.blocks → is_yes (sealed_of d.ssa b) ≡ true)
all_sealed f g c d (Err e) are = tt
all_sealed f g c d (Ok u) are = λ b inside.
    let count : length g.blocks ≡ length f.blocks = (extends-constructs f g are.1.constructs).block_count in
    are.1.sealed b ∙ if-yes (ltb b (length f.blocks)) true (is_yes (sealed_of c.ssa b)) (lt-ltb b (length f.blocks) (omega (arith, inside, count)))
