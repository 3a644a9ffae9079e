-- What a use and a sealing keep of the tables, by how they end.
use Rattle.std.proofs.Common.{◌≡◌, ◌≢◌, ℕ, ◌+◌, ◌<◌, true, false, Bool, List, [], ◌∷◌, ◌++◌, length, refl, ap, arith, sym, ◌∙◌, subst}
use Rattle.std.specs.Prelude.{Some, None, Option, Result, Ok, Err, OnOk, IfOk, Contains, slice_get}
use Rattle.clif_types.specs.declared.error.BuildError.{BuildError}
use Rattle.clif_types.specs.declared.types.«Type».{«Type»}
use Rattle.clif_ir.specs.Body.{Body}
use Rattle.clif_ir.specs.Consistent.{IsConsistent}
use Rattle.clif_paths.specs.Blocks.{Blocks}
use Rattle.clif_records.specs.declared.side_effects.SideEffects.{SideEffects}
use Rattle.clif_records.specs.declared.tables.Pending.{Pending}
use Rattle.clif_ssa.specs.Own.{Own}
use Rattle.clif_records.specs.Tables.{is_yes, pending_of, record_at}
use Rattle.clif_ssa.specs.Ssa.{SsaState, SomethingLeads, record_of, sealed_of, predecessors_of, RecordsStay, SamePredecessors, Seals, Waits, Zeroes}
use Rattle.clif_records.specs.Stacks.{LookUpState, no_look_up}
use Rattle.clif_ssa.specs.LookUp.{LooksUp, UsesVariable}
use Rattle.clif_ssa.specs.Running.{stage, found, CompletesAll, MakesAll}
use Rattle.clif_ssa.specs.Sealing.{SealsLocally, SealsByLookUp}
use Rattle.clif_ssa.specs.Sound.{Keeps, KeepsAndKnows, SparesIfEntry, has_entry}
use Rattle.clif_ssa.specs.Constructs.{OnlyConstructs}
use Rattle.clif_ssa.specs.SoundLaws.{DescribesSoundly}
use Rattle.clif_ssa.proofs.Bodies.{firm_from}
use Rattle.clif_ssa.proofs.Housing.{housed_from}
use Rattle.clif_ssa.proofs.Ordering.{contains_first, none_contained}
use Rattle.clif_ssa.proofs.Completing.{same_program, same_program_then}
use Rattle.clif_ssa.proofs.KeptParameters.{itself_parameters, parameters_then}
use Rattle.clif_ssa.proofs.Calling.{Popped}
use Rattle.clif_ssa.proofs.AllCompleted.{sealing_keeps}
use Rattle.clif_ssa.proofs.Machine.{uses_keeps}
use Rattle.clif_ssa.proofs.Locally.{waits_locally, zeroes_locally, seals_locally}
use Rattle.clif_ssa.specs.Zeros.{steps_before}

-- a block to which something leads
pub something_leads : (s : SsaState) (b : ℕ) → predecessors_of s b ≢ [] → SomethingLeads s
something_leads s b some = by (predecessors_of s b) refl
  where
    by : (branches : List ℕ) → predecessors_of s b ≡ branches → SomethingLeads s
    by [] none = absurd (some none)
    by (i ∷ branches) is = (b, i, subst (λ xs. Contains xs i) (sym is) (contains_first i branches))

-- nothing is constructed
unfoldable pub keeps_itself : (own : Own) (tables : Blocks) (f : Body) (s : SsaState) → DescribesSoundly own f s tables → Keeps own tables f s
keeps_itself own tables f s both = record {
  tables = tables;
  describes = both.0;
  sound = both.1;
  same = same_program tables;
  counts = both.2;
  parameters = itself_parameters tables s s both.0.recorded (λ v b. refl);
}

-- USES ------------------------------------------------------------------------------------------------------------

-- the variable is recorded
pub known_use : (own : Own) (f : Body) (s : SsaState) (tables : Blocks) (x b v : ℕ) → DescribesSoundly own f s tables → record_of s x b ≡ Some v
    → KeepsAndKnows own tables f s b x v
unfolding keeps_itself
known_use own f s tables x b v both is = record {
  kept = keeps_itself own tables f s both;
  known = record { value = v; is_recorded = both.0.recorded b x ∙ is; resolves = refl };
}

-- the block is unsealed, or no branch leads to it
pub local_use : (own : Own) (f g : Body) (s t : SsaState) (tables : Blocks) (x : ℕ) (ty : «Type») (b : ℕ) {E : Type 0} (result : Result (ℕ × SideEffects) E)
    → IsConsistent f → DescribesSoundly own f s tables → b < length f.blocks → record_of s x b ≡ None → (is_yes (sealed_of s b) ≡ true → predecessors_of s b ≡ [])
    → SamePredecessors s t
    → (is_yes (sealed_of s b) ≡ false → OnOk result (Waits s t f g x ty b) × IfOk result (λ r. (r.0 ≡ length f.values) × (r.1.instructions_added_to_blocks.items ≡ [])))
    → (is_yes (sealed_of s b) ≡ true → OnOk result (Zeroes s t f g x ty b) × IfOk result (λ r. (r.0 ≡ length f.values + 1 + steps_before ty) × (r.1.instructions_added_to_blocks.items ≡ b ∷ [])))
    → IfOk result (λ r. KeepsAndKnows own tables g t b x r.0)
local_use own f g s t tables x ty b (Err error) known both there none alone same waits zeroes = tt
local_use own f g s t tables x ty b (Ok r) known both there none alone same waits zeroes = by (is_yes (sealed_of s b)) refl
  where
    by : (sealed : Bool) → is_yes (sealed_of s b) ≡ sealed → KeepsAndKnows own tables g t b x r.0
    by true sealed =
        let case : Zeroes s t f g x ty b × ((r.0 ≡ length f.values + 1 + steps_before ty) × (r.1.instructions_added_to_blocks.items ≡ b ∷ [])) = zeroes sealed in
        subst (λ v. KeepsAndKnows own tables g t b x v) (sym case.1.0)
        (zeroes_locally own f g s t tables x ty b (firm_from f known) (housed_from f known) both.0 both.2 both.1 (alone sealed) there none sealed case.0 same)
    by false unsealed =
        let case : Waits s t f g x ty b × ((r.0 ≡ length f.values) × (r.1.instructions_added_to_blocks.items ≡ [])) = waits unsealed in
        subst (λ v. KeepsAndKnows own tables g t b x v) (sym case.1.0) (waits_locally own f g s t tables x ty b (firm_from f known) both.0 both.2 both.1 there none unsealed case.0 same)

-- the variable is looked up in the predecessors
pub looked_up : (x : ℕ) (ty : «Type») (b : ℕ) (f h g : Body) (s r t : SsaState) (first begun last : LookUpState) (value : ℕ) → first ≡ no_look_up
    → LooksUp x ty b (stage f s first) (stage h r begun) → (all : MakesAll x ty (stage h r begun) value (stage g t last)) → UsesVariable x ty b (stage f s no_look_up) value all.last
looked_up x ty b f h g s r t first begun last value nothing looks all = record {
  begun = stage h r begun;
  looks = subst (λ l. LooksUp x ty b (stage f s l) (stage h r begun)) nothing looks;
  made = all.made;
  answered = ap (λ (l : LookUpState). l.results) all.ended;
  ended = ap (λ (l : LookUpState). l.calls) all.ended;
}

pub uses_machine : (x : ℕ) (ty : «Type») (b : ℕ) (f h g : Body) (s r t : SsaState) (first begun last : LookUpState) (value : ℕ) (zeros : List ℕ) → first ≡ no_look_up
    → LooksUp x ty b (stage f s first) (stage h r begun) → MakesAll x ty (stage h r begun) value (stage g t last) → zeros ≡ last.zeros
    → UsesVariable x ty b (stage f s no_look_up) value (stage g t (found value zeros))
uses_machine x ty b f h g s r t first begun last value zeros nothing looks all told =
    let end : all.last ≡ stage g t (found value zeros) = λ i. stage (sym all.function i) (sym all.state i) ((all.ended ∙ ap (found value) (sym told)) i) in
    subst (λ n. UsesVariable x ty b (stage f s no_look_up) value n) end (looked_up x ty b f h g s r t first begun last value nothing looks all)

pub machine_use : (own : Own) (f h g : Body) (s r t : SsaState) (tables : Blocks) (x : ℕ) (ty : «Type») (b : ℕ) (first begun last : LookUpState) (value : ℕ) → first ≡ no_look_up
    → IsConsistent f → DescribesSoundly own f s tables → b < length f.blocks
    → LooksUp x ty b (stage f s first) (stage h r begun) → MakesAll x ty (stage h r begun) value (stage g t last) → KeepsAndKnows own tables g t b x value
machine_use own f h g s r t tables x ty b first begun last value nothing known both there looks all =
    subst (λ k. KeepsAndKnows own tables k t b x value) (sym all.function)
    (subst (λ q. KeepsAndKnows own tables all.last.function q b x value) (sym all.state)
    (uses_keeps own tables x ty b (stage f s no_look_up) all.last value refl known both there (looked_up x ty b f h g s r t first begun last value nothing looks all)))

-- where nothing was looked up yet, no call takes a result
pub popped_nothing : (ty : «Type») (f : Body) (s : SsaState) (l : LookUpState) → l ≡ no_look_up → Popped ty (stage f s l)
popped_nothing ty f s l nothing = subst (λ k. Popped ty (stage f s k)) (sym nothing) (record {
  calls = λ call here. absurd (none_contained call here);
  results = λ k inside. absurd (omega (arith, inside));
  balances = refl;
})

-- SEALING ---------------------------------------------------------------------------------------------------------

pub seals_by_look_up : (f g : Body) (s r t : SsaState) (b : ℕ) (waiting : List Pending) (first last : LookUpState) (told : List ℕ)
    → r.records ≡ s.records → r.tracking ≡ s.tracking → Seals s r b → SamePredecessors s r → waiting ≡ pending_of (sealed_of s b) → first ≡ no_look_up
    → CompletesAll b waiting (stage f r first) (stage g t last) → told ≡ last.zeros → SealsByLookUp f s g t b told
seals_by_look_up f g s r t b waiting first last told records tracking seals same list nothing completes is_told = record {
  sealed = r;
  look_up = last;
  records = λ v c. ap (λ rows. record_at rows v c) records;
  tracking = tracking;
  seals = seals;
  predecessors = same;
  completes =
      subst (λ ps. CompletesAll b ps (stage f r no_look_up) (stage g t last)) list
      (subst (λ l. CompletesAll b waiting (stage f r l) (stage g t last)) nothing completes);
  is_told = is_told;
}

-- a sealing, whether a branch leads to the block or none does
pub seal_keeps : (own : Own) (f g : Body) (s t : SsaState) (tables : Blocks) (b : ℕ) (result : Result SideEffects BuildError)
    → IsConsistent f → SparesIfEntry f s b → DescribesSoundly own f s tables → SamePredecessors s t
    → (predecessors_of s b ≡ [] → SealsLocally f s g t b result)
    → (predecessors_of s b ≢ [] → IfOk result (λ r. SealsByLookUp f s g t b r.instructions_added_to_blocks.items))
    → OnOk result (Keeps own tables g t)
seal_keeps own f g s t tables b (Err error) known spares both same locally looks = tt
seal_keeps own f g s t tables b (Ok r) known spares both same locally looks = by (predecessors_of s b) refl
  where
    some_none : {i : ℕ} {is : List ℕ} → ◌≡◌ {A = List ℕ} (i ∷ is) [] → ⊥
    some_none same = cc

    by : (branches : List ℕ) → predecessors_of s b ≡ branches → Keeps own tables g t
    by [] alone =
        let case : SealsLocally f s g t b (Ok r) = locally alone in
        subst (λ h. Keeps own tables h t) (sym case.function) (seals_locally own f s t tables b known both alone case.records case.sealed same)
    by (i ∷ branches) some =
        let case : SealsByLookUp f s g t b r.instructions_added_to_blocks.items = looks (λ empty. some_none (sym some ∙ empty)) in
        sealing_keeps own f s case.sealed tables b no_look_up (stage g t case.look_up) known both case.records case.seals case.predecessors spares refl refl case.completes

-- what is kept in turn
pub keeps_then : (own : Own) (tables : Blocks) (f g : Body) (s t : SsaState) (first : Keeps own tables f s) → RecordsStay s t
    → ((blocks : Blocks) → DescribesSoundly own f s blocks → Keeps own blocks g t) → Keeps own tables g t
keeps_then own tables f g s t first stay next =
    let then : Keeps own first.tables g t = next first.tables (first.describes, first.sound, first.counts) in
    record {
      tables = then.tables;
      describes = then.describes;
      sound = then.sound;
      same = same_program_then tables first.tables then.tables first.same then.same;
      counts = then.counts;
      parameters = parameters_then tables first.tables then.tables s t first.describes.recorded stay first.parameters then.parameters;
    }

-- a block that is no entry with branches is none later: the layout may have more blocks behind, and the branches stay
pub spares_later : (f g : Body) (s t : SsaState) → OnlyConstructs f g → SamePredecessors s t → ((b i : ℕ) → Contains (predecessors_of s b) i → has_entry f.layout ≡ true)
    → (b : ℕ) → SparesIfEntry f s b → SparesIfEntry g t b
spares_later f g s t constructs same leading b spares is = same b ∙ by f.layout refl
  where
    same_some : {x y : ℕ} → ◌≡◌ {A = Option ℕ} (Some x) (Some y) → x ≡ y
    same_some eq = cc

    false_true : false ≡ true → ⊥
    false_true eq = cc

    none : (xs : List ℕ) → ((i : ℕ) → Contains xs i → ⊥) → xs ≡ []
    none [] empty = refl
    none (x ∷ xs) empty = absurd (empty x (contains_first x xs))

    by : (layout : List ℕ) → f.layout ≡ layout → predecessors_of s b ≡ []
    by [] empty = none (predecessors_of s b) (λ i here. false_true (sym (ap has_entry empty) ∙ leading b i here))
    by (entry ∷ layout) first =
        spares (ap (λ l. slice_get l 0) first ∙ ap Some (same_some (sym (ap (λ l. slice_get l 0) (constructs.layout.1 ∙ ap (λ l. l ++ constructs.layout.0) first)) ∙ is)))
