-- The structure that the construction keeps, as the builder makes blocks, instructions and parameters, and as branches come
-- to lead to blocks.
use Rattle.std.proofs.Common.{◌≡◌, ◌≢◌, ℕ, ◌<◌, ◌==◌, ◌⊎◌, Bool, true, false, List, [], ◌∷◌, ◌++◌, length, refl, ap, arith, sym, ◌∙◌, subst, inl, inr}
use Rattle.std.specs.Prelude.{Option, Some, None, Contains, cond, slice_get, if◌then◌else◌}
use Rattle.std.proofs.lemmas.Bool.{cases_eq}
use Rattle.std.proofs.lemmas.List.Elements.{Contains-push_cases}
use Rattle.clif_types.specs.declared.types.«Type».{«Type»}
use Rattle.clif_types.specs.declared.extname.UserFuncName.{UserFuncName}
use Rattle.clif_types.specs.Signature.{SignatureShape}
use Rattle.clif_tables.specs.Lists.{TableLists}
use Rattle.clif_ir.specs.Body.{Body, empty_body, block_at}
use Rattle.clif_nodes.specs.Nodes.{BlockNode, empty_block}
use Rattle.clif_ir.specs.Changes.{with_block, with_inst, with_layout, with_param, inserted_in}
use Rattle.clif_instructions.specs.Members.{Once, stands_in, without}
use Rattle.clif_instructions.specs.declared.block_call.BlockArg.{BlockArg}
use Rattle.clif_instructions.specs.declared.insert_at.InsertAt.TheVariants.{Back}
use Rattle.clif_instructions.specs.declared.instructions.InstructionData.{InstructionData}
use Rattle.clif_instructions.proofs.Members.{if_true, if_false, Once-without}
use Rattle.clif_paths.specs.Steps.{updated}
use Rattle.clif_paths.proofs.Tables.{updated-same, updated-other}
use Rattle.clif_ssa.specs.SoundLaws.{shape_passes, with_own}
use Rattle.clif_ssa.specs.Own.{Own, no_own, with_own_param}
use Rattle.clif_records.specs.declared.tables.Pending.{Pending}
use Rattle.clif_records.specs.Tables.{is_yes}
use Rattle.clif_ssa.specs.Ssa.{SsaState, no_state, record_of, sealed_of, predecessors_of, SameBlocks, SamePredecessors, Records}
use Rattle.clif_ssa.specs.Sound.{edges_at, edge_target, args_of}
use Rattle.clif_ssa.specs.Structured.{VariableTypes, HasType, AreFor, EdgePasses, HasParameters, Structured, waiting_of, waiting_in}
use Rattle.clif_records.proofs.RecordMaps.{record_at-empty}
use Rattle.clif_ssa.proofs.Bodies.{Firm}
use Rattle.clif_ssa.proofs.Counting.{block_params}
use Rattle.clif_ssa.proofs.Instructions.{inst_params, inst_resolved, inst_param_home, inst_old}
use Rattle.clif_ssa.proofs.Leading.{contains_without}
use Rattle.clif_ssa.proofs.Ordering.{none_contained, entry_any}
use Rattle.clif_ssa.proofs.Parameters.{param_params}
use Rattle.clif_ssa.proofs.Pooled.{KeepsConstants}
use Rattle.clif_ssa.proofs.NeededZeros.{Longer, OnlyNeeded, all_kept, types_kept, first_needed, new_block_insts, inst_longer, own_zeros, param_longer, param_needed}
use Rattle.clif_ssa.proofs.Walks.{once-further}
use Rattle.clif_ssa.proofs.Structuring.{Grows, EdgesKeep, Writes, grows_longer, typed_kept, edges_keep, edges_keep_itself, complete_among, same_edge, waiting_homes, block_kept, written, rewritten, written_typed}
use Rattle.clif_ssa.proofs.StructuredSteps.{params_in}

-- NOTHING ---------------------------------------------------------------------------------------------------------

none_some : {v : ℕ} → ◌≡◌ {A = Option ℕ} None (Some v) → ⊥
none_some same = cc

pub first_structured : (types : VariableTypes) (name : UserFuncName) (signature : SignatureShape) → Structured types no_own (empty_body name signature) no_state []
first_structured types name signature = record {
  parameters = λ b. record {
    complete = [];
    in_order = refl;
    several = λ some. absurd (some refl);
    edges = λ i k here. absurd (none_contained i here);
  };
  alias_types = (first_needed name signature).alias_types;
  zeros = (first_needed name signature).zeros;
  recorded = λ x b v is. absurd (let nothing : ◌≡◌ {A = Option ℕ} None (Some v) = sym (record_at-empty x b) ∙ is in none_some nothing);
  waiting = λ b p here. absurd (none_contained p here);
  leading = λ b i here. absurd (none_contained i here);
  leading_once = λ b j k below inside. absurd (omega (arith, inside));
}

-- BLOCKS ----------------------------------------------------------------------------------------------------------

module _ (f : Body) (blocks : List BlockNode) (layout : List ℕ) (tables : TableLists) (keeps : KeepsConstants f (record f { tables = tables })) where
  abbrev g : Body
  g = record f { blocks = blocks; layout = layout; tables = tables }

  blocks_keep_are : (values params : List ℕ) → AreFor f values params → AreFor g values params
  blocks_keep_are [] [] are = tt
  blocks_keep_are [] (p ∷ params) are = absurd are
  blocks_keep_are (v ∷ values) [] are = absurd are
  blocks_keep_are (v ∷ values) (p ∷ params) are = (are.0, blocks_keep_are values params are.1)

  blocks_keep : (b : ℕ) → EdgesKeep f g b
  blocks_keep b made params args among passes =
      record { values = passes.values; in_order = passes.in_order; are_for = blocks_keep_are passes.values params passes.are_for }

  blocks_longer : Longer f g
  blocks_longer = record { values_more = omega arith; insts_more = omega arith; inst_same = λ i here. refl; constants_kept = keeps; types_same = λ v here. refl; home_same = λ v here none. none }

  -- the blocks have what they had
  pub blocks_structured : (types : VariableTypes) (own : Own) (s : SsaState) (ps : List Pending)
      → ((b : ℕ) → (block_at g b).params ≡ (block_at f b).params) → ((b : ℕ) → (block_at g b).insts ≡ (block_at f b).insts)
      → Structured types own f s ps → Structured types own g s ps
  blocks_structured types own s ps same_params same_insts before =
      let same_waiting : (b : ℕ) → waiting_in g s ps b ≡ waiting_in f s ps b = λ b. waiting_homes f g (sealed_of s b) ps b (λ q here. refl) in
      record {
        parameters = λ b.
            block_kept own f g s s ps ps b (blocks_keep b) (same_params b) (same_waiting b) (λ is. is) refl (λ i k here. same_edge f g b i k refl) (before.parameters b);
        alias_types = before.alias_types;
        zeros = λ b. record {
          zeros = (before.zeros b).zeros;
          in_order = same_insts b ∙ (before.zeros b).in_order;
          needed = all_kept f g blocks_longer (λ v. refl) (before.zeros b).zeros (before.zeros b).needed;
        };
        recorded = before.recorded;
        waiting = λ b p here. before.waiting b p (subst (λ ws. Contains ws p) (same_waiting b) here);
        leading = before.leading;
        leading_once = before.leading_once;
      }

pub block_structured : (types : VariableTypes) (own : Own) (f : Body) (s : SsaState) → Structured types own f s [] → Structured types own (with_block f) s []
block_structured types own f s before =
    blocks_structured f (f.blocks ++ empty_block ∷ []) f.layout f.tables (λ constant bytes here. here) types own s [] (block_params f) (new_block_insts f.blocks) before

pub inserted_structured : (types : VariableTypes) (own : Own) (f : Body) (s : SsaState) (b : ℕ) → Structured types own f s [] → Structured types own (inserted_in f b) s []
inserted_structured types own f s b before = by (stands_in b f.layout)
  where
    by : (test : Bool) → Structured types own (cond test f (with_layout f b)) s []
    by true = before
    by false = blocks_structured f f.blocks (f.layout ++ b ∷ []) f.tables (λ constant bytes here. here) types own s [] (λ c. refl) (λ c. refl) before

-- INSTRUCTIONS AND PARAMETERS -------------------------------------------------------------------------------------

pub instruction_structured : (types : VariableTypes) (own : Own) (f : Body) (s : SsaState) (b : ℕ) (shape : InstructionData) (results : List «Type») (loc : ℕ)
    → Firm f → b < length f.blocks → Structured types own f s []
    → Structured types (with_own own b (length f.insts) shape) (with_inst f b Back shape results loc) s []
instruction_structured types own f s b shape results loc firm there before =
    let g : Body = with_inst f b Back shape results loc in
    let after : Own = with_own own b (length f.insts) shape in
    let longer : Longer f g = inst_longer f b shape results loc in
    let grows : Grows f g = grows_longer f g longer in
    let same_waiting : (c : ℕ) → waiting_in g s [] c ≡ waiting_in f s [] c =
    λ c. waiting_homes f g (sealed_of s c) [] c (λ q here. inst_param_home f b Back shape results loc q.param) in
    record {
      parameters = λ c.
          let kept : HasParameters own g s [] c =
          block_kept own f g s s [] [] c (edges_keep f g c grows firm) (inst_params f b Back shape results loc c) (same_waiting c) (λ is. is) refl
          (λ i k here. same_edge f g c i k (inst_old f b Back shape results loc i (before.leading c i here))) (before.parameters c) in
          record {
            complete = kept.complete;
            in_order = kept.in_order;
            several = kept.several;
            edges = λ i k here leads.
                let exists : i < length f.insts = before.leading c i here in
                let old : after.passed i k ≡ own.passed i k =
                ap (λ (of : ℕ → List BlockArg). of k) (updated-other own.passed (length f.insts) (shape_passes shape) i (λ same. absurd (omega (arith, exists, same)))) in
                subst (λ made. EdgePasses g made kept.complete (args_of (slice_get (edges_at g i) k))) (sym old) (kept.edges i k here leads);
          };
      alias_types = types_kept f g longer firm (inst_resolved f b Back shape results loc firm) before.alias_types;
      zeros = λ c. own_zeros own.insts f b shape results loc firm there c (before.zeros c);
      recorded = λ x c v is. typed_kept f g v (types x) grows (before.recorded x c v is);
      waiting = λ c p here.
          let old : HasType f p.param (types p.variable) × (record_of s p.variable c ≢ None) = before.waiting c p (subst (λ ws. Contains ws p) (same_waiting c) here) in
          (typed_kept f g p.param (types p.variable) grows old.0, old.1);
      leading = λ c i here. let old : i < length f.insts = before.leading c i here in omega (arith, old, longer.insts_more);
      leading_once = before.leading_once;
    }

pub append_none : {X : Type 0} (xs : List X) → xs ++ [] ≡ xs
append_none [] = refl
append_none (x ∷ xs) = ap (λ ys. x ∷ ys) (append_none xs)

nothing_behind : (xs ys : List ℕ) → xs ≡ xs ++ ys → ys ≡ []
nothing_behind [] ys same = sym same
nothing_behind (x ∷ xs) ys same = let rest : xs ≡ xs ++ ys = cc in nothing_behind xs ys rest

pub parameter_structured : (types : VariableTypes) (own : Own) (f : Body) (s : SsaState) (b : ℕ) (ty : «Type») → Firm f → b < length f.blocks
    → (block_at f b).params ≡ own.params b → Structured types own f s []
    → Structured types (with_own_param own b (length f.values)) (with_param f b ty) s []
parameter_structured types own f s b ty firm there bare before =
    let g : Body = with_param f b ty in
    let n : ℕ = length f.values in
    let more : ℕ → List ℕ = updated own.params b (own.params b ++ n ∷ []) in
    let grows : Grows f g = grows_longer f g (param_longer f b ty) in
    let same_waiting : (c : ℕ) → waiting_in g s [] c ≡ waiting_in f s [] c = λ c. waiting_homes f g (sealed_of s c) [] c (λ q here. absurd (none_contained q here)) in
    let needed : OnlyNeeded own.insts g = param_needed own.insts f b ty firm there (record { alias_types = before.alias_types; zeros = before.zeros }) in
    record {
      parameters = λ c.
          let has : HasParameters own f s [] c = before.parameters c in
          let moved : ((block_at g c).params ≡ more c ++ (has.complete ++ params_in (waiting_in g s [] c))) → HasParameters (with_own_param own b n) g s [] c =
          λ in_order. record {
            complete = has.complete;
            in_order = in_order;
            several = has.several;
            edges = λ i k here leads. edges_keep f g c grows firm (own.passed i k) has.complete _ (complete_among own f s [] c has) (has.edges i k here leads);
          } in
          elim (param_params f b ty there c) [
            | inl at ↦
                let none : has.complete ++ params_in (waiting_in f s [] c) ≡ [] =
                nothing_behind (own.params c) _ (ap own.params at.0 ∙ sym bare ∙ ap (λ d. (block_at f d).params) (sym at.0) ∙ has.in_order) in
                moved (at.1 ∙ ap (λ d. (block_at f d).params ++ n ∷ []) at.0 ∙ ap (λ xs. xs ++ n ∷ []) bare
                ∙ sym (updated-same own.params b (own.params b ++ n ∷ []) c at.0)
                ∙ sym (append_none (more c)) ∙ ap (λ xs. more c ++ xs) (sym none) ∙ ap (λ ws. more c ++ (has.complete ++ params_in ws)) (sym (same_waiting c)))
            | inr apart ↦
                moved (apart.1 ∙ has.in_order ∙ ap (λ xs. xs ++ (has.complete ++ params_in (waiting_in f s [] c))) (sym (updated-other own.params b (own.params b ++ n ∷ []) c apart.0))
                ∙ ap (λ ws. more c ++ (has.complete ++ params_in ws)) (sym (same_waiting c)))
          ];
      alias_types = needed.alias_types;
      zeros = needed.zeros;
      recorded = λ x c v is. typed_kept f g v (types x) grows (before.recorded x c v is);
      waiting = λ c p here.
          let old : HasType f p.param (types p.variable) × (record_of s p.variable c ≢ None) = before.waiting c p (subst (λ ws. Contains ws p) (same_waiting c) here) in
          (typed_kept f g p.param (types p.variable) grows old.0, old.1);
      leading = before.leading;
      leading_once = before.leading_once;
    }

-- BRANCHES --------------------------------------------------------------------------------------------------------

-- an unsealed block has no complete parameters
pub none_complete : (own : Own) (f : Body) (s : SsaState) (ps : List Pending) (b : ℕ) (has : HasParameters own f s ps b) → is_yes (sealed_of s b) ≡ false → has.complete ≡ []
none_complete own f s ps b has unsealed = by has.complete (λ some. off (sym (has.several some).0 ∙ unsealed))
  where
    off : ◌≡◌ {A = Bool} true false → ⊥
    off same = cc

    by : (complete : List ℕ) → (complete ≢ [] → ⊥) → complete ≡ []
    by [] none = refl
    by (v ∷ complete) none = absurd (none (λ same. cc))

-- the branches that lead to an unsealed block change
record Redirects (own : Own) (f : Body) (s t : SsaState) (b : ℕ) : Type 0 where
  pub unsealed : is_yes (sealed_of s b) ≡ false
  pub others : (c : ℕ) → c ≢ b → predecessors_of t c ≡ predecessors_of s c
  pub old_or_new : (i : ℕ) → Contains (predecessors_of t b) i
      → Contains (predecessors_of s b) i ⊎ ((i < length f.insts) × ((k : ℕ) → edge_target f i k ≡ Some b → args_of (slice_get (edges_at f i) k) ≡ own.passed i k))
  pub once : Once (predecessors_of t b)

redirected : (types : VariableTypes) (own : Own) (f : Body) (s t : SsaState) (b : ℕ) → Redirects own f s t b → ((x c : ℕ) → record_of t x c ≡ record_of s x c)
    → SameBlocks s t → Structured types own f s [] → Structured types own f t []
redirected types own f s t b redirects same same_blocks before =
    let same_waiting : (c : ℕ) → waiting_in f t [] c ≡ waiting_in f s [] c = λ c. ap (λ entry. waiting_of f entry [] c) (same_blocks c) in
    record {
      parameters = λ c.
          let has : HasParameters own f s [] c = before.parameters c in
          elim (cases_eq c b) [
            | inl at ↦
                let none : has.complete ≡ [] = none_complete own f s [] c has (subst (λ d. is_yes (sealed_of s d) ≡ false) (sym at) redirects.unsealed) in
                record {
                  complete = has.complete;
                  in_order = has.in_order ∙ ap (λ ws. own.params c ++ (has.complete ++ params_in ws)) (sym (same_waiting c));
                  several = λ some. absurd (some none);
                  edges = λ i k here leads.
                      elim (redirects.old_or_new i (subst (λ d. Contains (predecessors_of t d) i) at here)) [
                        | inl old ↦ has.edges i k (subst (λ d. Contains (predecessors_of s d) i) (sym at) old) leads
                        | inr new ↦
                            subst (λ complete. EdgePasses f (own.passed i k) complete (args_of (slice_get (edges_at f i) k))) (sym none)
                            (record { values = []; in_order = new.1 k (leads ∙ ap Some at) ∙ sym (append_none (own.passed i k)); are_for = tt })
                      ];
                }
            | inr apart ↦
                block_kept own f f s t [] [] c (edges_keep_itself f c) refl (same_waiting c) (λ sealed. ap is_yes (same_blocks c) ∙ sealed) (redirects.others c apart)
                (λ i k here leads. (leads, refl)) has
          ];
      alias_types = before.alias_types;
      zeros = before.zeros;
      recorded = λ x c v is. before.recorded x c v (sym (same x c) ∙ is);
      waiting = λ c p here.
          let old : HasType f p.param (types p.variable) × (record_of s p.variable c ≢ None) = before.waiting c p (subst (λ ws. Contains ws p) (same_waiting c) here) in
          (old.0, λ none. old.1 (sym (same p.variable c) ∙ none));
      leading = λ c i here.
          elim (cases_eq c b) [
            | inl at ↦
                elim (redirects.old_or_new i (subst (λ d. Contains (predecessors_of t d) i) at here)) [ inl old ↦ before.leading b i old | inr new ↦ new.0 ]
            | inr apart ↦ before.leading c i (subst (λ xs. Contains xs i) (redirects.others c apart) here)
          ];
      leading_once = λ c.
          elim (cases_eq c b) [
            | inl at ↦ subst (λ d. Once (predecessors_of t d)) (sym at) redirects.once
            | inr apart ↦ subst Once (sym (redirects.others c apart)) (before.leading_once c)
          ];
    }

pub declared_structured : (types : VariableTypes) (own : Own) (f : Body) (s t : SsaState) (b i : ℕ) → is_yes (sealed_of s b) ≡ false
    → i < length f.insts → ((j : ℕ) → Contains (predecessors_of s b) j → j ≢ i)
    → ((k : ℕ) → edge_target f i k ≡ Some b → args_of (slice_get (edges_at f i) k) ≡ own.passed i k)
    → ((x c : ℕ) → record_of t x c ≡ record_of s x c) → SameBlocks s t
    → ((c : ℕ) → predecessors_of t c ≡ (if c == b then predecessors_of s c ++ i ∷ [] else predecessors_of s c))
    → Structured types own f s [] → Structured types own f t []
declared_structured types own f s t b i unsealed exists new passes same same_blocks declares before =
    let here : predecessors_of t b ≡ predecessors_of s b ++ i ∷ [] = declares b ∙ if_true b b _ _ refl in
    redirected types own f s t b (record {
      unsealed = unsealed;
      others = λ c apart. declares c ∙ if_false c b _ _ apart;
      old_or_new = λ j leads.
          elim (Contains-push_cases (predecessors_of s b) i j (subst (λ xs. Contains xs j) here leads)) [
            | inl old ↦ inl old
            | inr is ↦ inr (subst (λ m. (m < length f.insts) × ((k : ℕ) → edge_target f m k ≡ Some b → args_of (slice_get (edges_at f m) k) ≡ own.passed m k)) is (exists, passes))
          ];
      once = subst Once (sym here)
          (once-further (predecessors_of s b) i (before.leading_once b)
          (λ stands. new i (stands.0, stands.1, entry_any (predecessors_of s b) stands.0 i 0 stands.1 ∙ stands.2) refl));
    })
    same same_blocks before

pub removed_structured : (types : VariableTypes) (own : Own) (f : Body) (s t : SsaState) (b i : ℕ) → is_yes (sealed_of s b) ≡ false
    → ((x c : ℕ) → record_of t x c ≡ record_of s x c) → SameBlocks s t
    → ((c : ℕ) → predecessors_of t c ≡ (if c == b then without i (predecessors_of s c) else predecessors_of s c))
    → Structured types own f s [] → Structured types own f t []
removed_structured types own f s t b i unsealed same same_blocks removes before =
    let here : predecessors_of t b ≡ without i (predecessors_of s b) = removes b ∙ if_true b b _ _ refl in
    redirected types own f s t b (record {
      unsealed = unsealed;
      others = λ c apart. removes c ∙ if_false c b _ _ apart;
      old_or_new = λ j leads. inl (contains_without i (predecessors_of s b) j (subst (λ xs. Contains xs j) here leads));
      once = subst Once (sym here) (Once-without i (predecessors_of s b) (before.leading_once b));
    })
    same same_blocks before

-- AN ASSIGNMENT ---------------------------------------------------------------------------------------------------

pub assigned_structured : (types : VariableTypes) (own : Own) (f : Body) (s t : SsaState) (x b v : ℕ) → HasType f v (types x) → Records s t x b v → SameBlocks s t → SamePredecessors s t
    → Structured types own f s [] → Structured types own f t []
assigned_structured types own f s t x b v typed records same_blocks same_before before =
    let writes : Writes s t x v = written s t x v (λ c. c == b) records in
    rewritten types own f s t [] (written_typed types own f s t [] x v writes typed before) writes.still same_blocks same_before before
