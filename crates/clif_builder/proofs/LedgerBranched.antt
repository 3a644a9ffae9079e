-- A branch is declared along its edges: the agreement with the ledger is kept.
use Rattle.std.proofs.Common.{◌≡◌, ◌≢◌, ◌<◌, ◌≤◌, ℕ, List, [], ◌∷◌, ◌++◌, length, refl, sym, ◌∙◌, ap, subst, arith, inl, inr}
use Rattle.std.specs.Prelude.{Bool, true, false, ◌||◌, if◌then◌else◌, map, slice_get, Option, Some, option_map, Contains}
use Rattle.std.specs.List.{list_any}
use Rattle.std.proofs.lemmas.Bool.{ne_eqb}
use Rattle.std.proofs.lemmas.List.{map_push, length-map}
use Rattle.std.proofs.lemmas.Option.{slice_get-map}
use Rattle.clif_ir.specs.Body.{Body}
use Rattle.clif_instructions.specs.Members.{stands_in}
use Rattle.clif_instructions.specs.Edges.{targets}
use Rattle.clif_instructions.specs.declared.block_call.BlockCall.{BlockCall}
use Rattle.clif_meaning.specs.Name.{Name, same_name}
use Rattle.clif_meaning.specs.Instruction.{Edge}
use Rattle.clif_meaning.specs.Request.{AnsweredCall, number_of}
use Rattle.clif_meaning.specs.Ledger.{Answered, BlockState, Ledger, VariableState, answer_at}
use Rattle.clif_ssa.specs.Own.{Own}
use Rattle.clif_records.specs.Tables.{is_yes}
use Rattle.clif_ssa.specs.LookUp.{branch_block}
use Rattle.clif_ssa.specs.Ssa.{predecessors_of, sealed_of}
use Rattle.clif_simulation.proofs.Telling.{along_told}
use Rattle.clif_builder.specs.Context.{ContextState, SameStatus, SameVariables}
use Rattle.clif_builder.specs.Builder.{is_empty_status, is_filled_status}
use Rattle.clif_builder.specs.Construction.{IsDeclared}
use Rattle.clif_builder.specs.Ledger.{BlockAgrees, IsBegun, IsEnded, IsStructured, LedgerAgrees, VariablesAgree, block_name, value_type}
use Rattle.clif_builder.proofs.Counted.{counts_same, leaves_records}
use Rattle.clif_builder.proofs.LedgerLists.{if-yes, if-no, map-some, named-more, one-named-more}
use Rattle.clif_builder.proofs.LedgerNames.{IsNumbered, name-number}
use Rattle.clif_builder.proofs.LedgerKept.{answers-kept, keeps-itself}
use Rattle.clif_builder.proofs.LedgerMade.{block-exists}
use Rattle.clif_builder.proofs.LedgerLeads.{LeadTo, LedLedger, blocks-along, goes, goes-to, leads-along, led, led-block, records-along, unheard}
use Rattle.clif_builder.proofs.Touching.{agree_same}
use Rattle.clif_builder.proofs.Tracks.{tracks_same}

-- `calls` ends with the call that makes the branch; the ledger `old` and the context `c` have all of it but its edges
module _ (calls : List AnsweredCall) (old new : Ledger) (g : Body) (c d : ContextState) (p : Option ℕ) (branch : Name) (inst : ℕ) (edges : List (Edge Name Name)) (made : List BlockCall)
    (agrees : LedgerAgrees calls old g c p) (number : number_of calls branch ≡ Some inst) (is_new : (b : ℕ) → Contains (predecessors_of c.ssa b) inst → ⊥)
    (ledger : LedLedger old new branch edges) (lead : LeadTo old edges made) (declared : IsDeclared c.ssa inst (targets made) d.ssa)
    (same_status : SameStatus c d) (variables : SameVariables c d) (mine : Own) (structured : IsStructured mine g d) (callers : (b : ℕ) → mine.params b ≡ agrees.own.params b) (ended : IsEnded g d (branch_block g inst)) where
  numbered : IsNumbered calls old
  numbered = name-number calls old g c p agrees

  -- the state of a block then
  abbrev change : BlockState → BlockState
  change s = if goes edges s.block then led branch s else s

  change_block : (s : BlockState) → (change s).block ≡ s.block
  change_block s = by (goes edges s.block)
    where
      by : (test : Bool) → (if test then led branch s else s).block ≡ s.block
      by true = led-block branch s
      by false = refl

  state_was : (k : ℕ) (t : BlockState) → slice_get new.blocks k ≡ Some t → (s : BlockState) × (slice_get old.blocks k ≡ Some s) × (change s ≡ t)
  state_was k t there =
      map-some (λ (s : BlockState). change s) (slice_get old.blocks k) t
      (sym (slice_get-map (λ (s : BlockState). change s) old.blocks k) ∙ ap (λ (states : List BlockState). slice_get states k) (sym ledger.blocks) ∙ there)

  names : (k : ℕ) (x : Name) → block_name old k ≡ Some x → block_name new k ≡ Some x
  names k x is =
      let state = map-some (λ (s : BlockState). s.block) (slice_get old.blocks k) x is in
      ap (λ (states : List BlockState). option_map (λ (s : BlockState). s.block) (slice_get states k)) ledger.blocks
      ∙ ap (option_map (λ (s : BlockState). s.block)) (slice_get-map (λ (s : BlockState). change s) old.blocks k ∙ ap (option_map (λ (s : BlockState). change s)) state.1)
      ∙ ap Some (change_block state.0 ∙ state.2)

  name_was : (k : ℕ) (x : Name) → block_name new k ≡ Some x → block_name old k ≡ Some x
  name_was k x is =
      let state = map-some (λ (s : BlockState). s.block) (slice_get new.blocks k) x is in
      let was = state_was k state.0 state.1 in
      ap (option_map (λ (s : BlockState). s.block)) was.1 ∙ ap Some (sym (change_block was.0) ∙ ap (λ (s : BlockState). s.block) was.2 ∙ state.2)

  sealed : (k : ℕ) → is_yes (sealed_of d.ssa k) ≡ is_yes (sealed_of c.ssa k)
  sealed k = ap is_yes (blocks-along declared.told c.ssa d.ssa inst declared.along k)

  -- where it leads by the ledger it leads
  leads : (k : ℕ) → predecessors_of d.ssa k ≡ (if stands_in k (targets made) then predecessors_of c.ssa k ++ inst ∷ [] else predecessors_of c.ssa k)
  leads k =
      leads-along declared.told c.ssa d.ssa inst declared.along declared.once k
      ∙ ap (λ (t : Bool). if t then predecessors_of c.ssa k ++ inst ∷ [] else predecessors_of c.ssa k) (declared.each k)

  -- the predecessors of a block, by names and by numbers
  predecessors : (k : ℕ) (s : BlockState) → slice_get old.blocks k ≡ Some s → BlockAgrees calls g c k s → map (number_of calls) (change s).predecessors ≡ map Some (predecessors_of d.ssa k)
  predecessors k s there was =
      by (goes edges s.block) (sym (goes-to calls old numbered k s.block (ap (option_map (λ (t : BlockState). t.block)) there) edges made lead))
    where
      not_heard : list_any (same_name branch) s.predecessors ≡ false
      not_heard = unheard calls branch inst number s.predecessors (predecessors_of c.ssa k) was.predecessors (is_new k)

      by : (test : Bool) → stands_in k (targets made) ≡ test → map (number_of calls) (if test then led branch s else s).predecessors ≡ map Some (predecessors_of d.ssa k)
      by true is =
          ap (λ (t : Bool). map (number_of calls) (if t then s else record s { predecessors = s.predecessors ++ branch ∷ [] }).predecessors) not_heard
          ∙ map_push (number_of calls) s.predecessors branch ∙ ap (λ (xs : List (Option ℕ)). xs ++ number_of calls branch ∷ []) was.predecessors
          ∙ ap (λ (x : Option ℕ). map Some (predecessors_of c.ssa k) ++ x ∷ []) number ∙ sym (map_push Some (predecessors_of c.ssa k) inst)
          ∙ ap (map Some) (sym (leads k ∙ if-yes (stands_in k (targets made)) (predecessors_of c.ssa k ++ inst ∷ []) (predecessors_of c.ssa k) is))
      by false is =
          was.predecessors ∙ ap (map Some) (sym (leads k ∙ if-no (stands_in k (targets made)) (predecessors_of c.ssa k ++ inst ∷ []) (predecessors_of c.ssa k) is))

  abbrev changed : BlockState → Bool → Bool → BlockState
  changed s goes heard = if goes then (if heard then s else record s { predecessors = s.predecessors ++ branch ∷ [] }) else s

  block_agrees : (k : ℕ) (s : BlockState) → slice_get old.blocks k ≡ Some s → BlockAgrees calls g c k s → BlockAgrees calls g d k (change s)
  block_agrees k s there was =
      record {
        number = ap (number_of calls) (change_block s) ∙ was.number;
        is_sealed = kept_sealed (goes edges s.block) (list_any (same_name branch) s.predecessors) ∙ was.is_sealed ∙ sym (sealed k);
        is_pristine = kept_pristine (goes edges s.block) (list_any (same_name branch) s.predecessors) ∙ was.is_pristine ∙ ap is_empty_status (sym (same_status k));
        is_filled = kept_filled (goes edges s.block) (list_any (same_name branch) s.predecessors) ∙ was.is_filled ∙ ap is_filled_status (sym (same_status k));
        is_cold = kept_cold (goes edges s.block) (list_any (same_name branch) s.predecessors) ∙ was.is_cold;
        predecessors = predecessors k s there was;
      }
    where
      kept_sealed : (goes heard : Bool) → (changed s goes heard).is_sealed ≡ s.is_sealed
      kept_sealed true true = refl
      kept_sealed true false = refl
      kept_sealed false heard = refl

      kept_pristine : (goes heard : Bool) → (changed s goes heard).is_pristine ≡ s.is_pristine
      kept_pristine true true = refl
      kept_pristine true false = refl
      kept_pristine false heard = refl

      kept_filled : (goes heard : Bool) → (changed s goes heard).is_filled ≡ s.is_filled
      kept_filled true true = refl
      kept_filled true false = refl
      kept_filled false heard = refl

      kept_cold : (goes heard : Bool) → (changed s goes heard).is_cold ≡ s.is_cold
      kept_cold true true = refl
      kept_cold true false = refl
      kept_cold false heard = refl

  kept_parameters : (s : BlockState) (goes heard : Bool) → (changed s goes heard).parameters ≡ s.parameters
  kept_parameters s true true = refl
  kept_parameters s true false = refl
  kept_parameters s false heard = refl

  -- nothing leads to a block that doesn't exist
  not_led : (k : ℕ) → length g.blocks ≤ k → (edges : List (Edge Name Name)) (made : List BlockCall) → LeadTo old edges made → stands_in k (targets made) ≡ false
  not_led k past [] [] lead = refl
  not_led k past [] (call ∷ made) lead = absurd lead
  not_led k past (edge ∷ edges) [] lead = absurd lead
  not_led k past (edge ∷ edges) (call ∷ made) lead =
      let exists : call.block < length g.blocks = block-exists calls old g c p agrees call.block edge.target lead.0 in
      let other : call.block ≢ k = omega (arith, past, exists) in
      ap (λ (t : Bool). t || stands_in k (targets made)) (ne_eqb call.block k other) ∙ not_led k past edges made lead.1

  begun_still : (h : ℕ) → IsBegun g c h → IsBegun g d h
  begun_still h was = record { inserted = was.inserted; begun = λ empty. was.begun (sym (same_status h) ∙ empty) }

  ended_still : (h : ℕ) → IsEnded g c h → IsEnded g d h
  ended_still h was = record { inserted = was.inserted; filled = same_status h ∙ was.filled }

  pub agrees-led : LedgerAgrees calls new g d p
  agrees-led =
      record {
        places = ap (λ (xs : List (List Answered)). length xs) ledger.answers ∙ agrees.places;
        answers = λ place call answers at there.
            answers-kept old new g g names (keeps-itself g) place answers call.numbers
            (agrees.answers place call answers at (ap (λ (xs : List (List Answered)). slice_get xs place) (sym ledger.answers) ∙ there));
        block_count = ap (λ (states : List BlockState). length states) ledger.blocks ∙ length-map old.blocks (λ (s : BlockState). change s) ∙ agrees.block_count;
        blocks = λ k t there.
            let was = state_was k t there in
            subst (λ (s : BlockState). BlockAgrees calls g d k s) was.2 (block_agrees k was.0 was.1 (agrees.blocks k was.0 was.1));
        block_answers = λ k x is.
            ap (λ (xs : List (List Answered)). answer_at (record old { answers = xs }) x) ledger.answers ∙ agrees.block_answers k x (name_was k x is);
        current = ap (option_map Some) ledger.current ∙ one-named-more (block_name old) (block_name new) old.current p names agrees.current;
        layout = ap (map Some) ledger.layout ∙ named-more (block_name old) (block_name new) old.layout g.layout names agrees.layout;
        variables = agree_same new.variables c d variables (subst (λ (states : List VariableState). VariablesAgree states c) (sym ledger.variables) agrees.variables);
        tables = ledger.tables ∙ agrees.tables;
        tracks = tracks_same calls g.values c d (records-along declared.told c.ssa d.ssa inst declared.along) declared.tracking agrees.tracks;
        counts =
            counts_same calls g c g d refl refl refl
            (leaves_records c d variables.0 (records-along declared.told c.ssa d.ssa inst declared.along) (blocks-along declared.told c.ssa d.ssa inst declared.along)) agrees.counts;
        own = mine;
        structured = structured;
        callers_types = λ k t there.
            let was = state_was k t there in
            ap (map (value_type g)) (callers k) ∙ agrees.callers_types k was.0 was.1
            ∙ ap (map Some)
            (sym (kept_parameters was.0 (goes edges was.0.block) (list_any (same_name branch) was.0.predecessors)) ∙ ap (λ (s : BlockState). s.parameters) was.2);
        callers_alone = λ b. elim (agrees.callers_alone b) [
          | inl alone ↦ inl (alone ∙ sym (callers b))
          | inr begun ↦ inr (begun_still b begun)
        ];
        branches = λ b i here. elim (along_told declared.told c.ssa d.ssa inst declared.along b i here) [
          | inl before ↦ ended_still (branch_block g i) (agrees.branches b i before)
          | inr it ↦ subst (λ (n : ℕ). IsEnded g d (branch_block g n)) (sym it.0) ended
        ];
        fresh = λ k above. (
          sealed k ∙ (agrees.fresh k above).0,
          same_status k ∙ (agrees.fresh k above).1,
          leads k ∙ if-no (stands_in k (targets made)) (predecessors_of c.ssa k ++ inst ∷ []) (predecessors_of c.ssa k) (not_led k above edges made lead) ∙ (agrees.fresh k above).2,
        );
      }
