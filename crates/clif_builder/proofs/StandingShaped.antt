-- An instruction of any shape is built, with edges or without: the builder stands for the list with this call at its end.
use Rattle.std.proofs.Common.{◌≡◌, ◌≢◌, ℕ, zero, suc, ◌+◌, ◌<◌, List, [], ◌∷◌, ◌++◌, length, map, refl, sym, ◌∙◌, ap, subst, arith, ◌⊎◌, inl, inr}
use Rattle.std.specs.Prelude.{slice_get, slice_index, slice_index_or, All, Contains, Option, Some, true, false, IfOk, Result, Ok, Err, ◌==◌}
use Rattle.std.proofs.lemmas.Bool.{eq-eqb, eqb-true, or_left, or_right}
use Rattle.std.proofs.lemmas.Map.Views.{Contains-from_any}
use Rattle.clif_types.specs.declared.types.«Type».{«Type»}
use Rattle.clif_types.specs.Signature.{SignatureShape}
use Rattle.clif_instructions.specs.declared.block_call.BlockCall.{BlockCall}
use Rattle.clif_instructions.specs.declared.instructions.InstructionData.{InstructionData}
use Rattle.clif_ir.specs.Body.{Body, inst_at}
use Rattle.clif_ir.specs.Changes.{inserted_in, inst_node, with_inst}
use Rattle.clif_ir.specs.Consistent.{IsConsistent}
use Rattle.clif_instructions.specs.declared.insert_at.InsertAt.TheVariants.{Back}
use Rattle.clif_instructions.specs.Instruction.{contexts, destinations, is_branch, operands}
use Rattle.clif_tables.specs.Callees.{types_of_results}
use Rattle.clif_instructions.specs.Members.{stands_in}
use Rattle.clif_instructions.specs.Edges.{targets}
use Rattle.clif_ssa.specs.Ssa.{predecessors_of, record_of, sealed_of, SsaState}
use Rattle.clif_records.specs.Tables.{is_yes}
use Rattle.clif_meaning.specs.Name.{Name}
use Rattle.clif_meaning.specs.Instruction.{Instruction}
use Rattle.clif_meaning.specs.Ledger as ledger
use Rattle.clif_meaning.specs.Program as program
use Rattle.clif_meaning.specs.Request.{AnsweredCall, Build, GivenEntry}
use Rattle.clif_meaning.specs.View.{controlling_of, edge_of}
use Rattle.clif_simulation.specs.Carries.{Carries, DeclaredAlong, IsCurrent}
use Rattle.clif_simulation.proofs.Building.{SameBranch, SameInstruction, carries_branch, carries_plain, made_controlling}
use Rattle.clif_simulation.proofs.Places.{range_at}
use Rattle.clif_builder.specs.declared.context.BlockStatus.TheVariants.{Filled}
use Rattle.clif_builder.specs.Construction.{IsDeclared}
use Rattle.clif_builder.specs.Context.{ContextState, status_of}
use Rattle.clif_builder.specs.Builder.{AppendsIn, CanLeadIn}
use Rattle.clif_builder.specs.Ledger.{HasShape, LedgerAgrees, NamesEdges, ledger_of}
use Rattle.clif_builder.specs.StandsFor.{StandsIn}
use Rattle.clif_builder.proofs.LedgerNames.{name-number}
use Rattle.clif_builder.proofs.LedgerShaped.{same_end, same_types}
use Rattle.clif_builder.proofs.Sorts.{EndsBlock, StaysInBlock, sort_of}
use Rattle.clif_builder.proofs.Growing.{appended_range}
use Rattle.clif_builder.proofs.Standing.{current_name, current_unfilled}
use Rattle.clif_builder.proofs.StandingBuilt.{all_named, edges_named, none_named, stands_built}

-- BLOCKS OF A LIST ------------------------------------------------------------------------------------------------------

stands_at : (xs : List ℕ) (k x : ℕ) → k < length xs → slice_index_or xs k x ≡ x → stands_in x xs ≡ true
stands_at [] k x below is = absurd (omega (arith, below))
stands_at (y ∷ ys) zero x below is = or_left (y == x) (stands_in x ys) (eq-eqb y x is)
stands_at (y ∷ ys) (suc k) x below is = or_right (y == x) (stands_in x ys) (stands_at ys k x (omega (arith, below)) is)

stands_from : (xs : List ℕ) (x : ℕ) → Contains xs x → stands_in x xs ≡ true
stands_from xs x here = stands_at xs here.0 x here.1 here.2

stands_there : (xs : List ℕ) (x : ℕ) → stands_in x xs ≡ true → Contains xs x
stands_there xs x stands = Contains-from_any {eq = λ a b. b == a} (λ a b same. sym (eqb-true b a same)) x xs stands

-- the target of an edge that may be made is unsealed
target_unsealed : (f : Body) (c : ContextState) (edges : List BlockCall) (k x : ℕ) → All (CanLeadIn f c) edges → k < length (targets edges)
    → slice_index_or (targets edges) k x ≡ x → is_yes (sealed_of c.ssa x) ≡ false
target_unsealed f c [] k x all below is = absurd (omega (arith, below))
target_unsealed f c (edge ∷ edges) zero x all below is = subst (λ (b : ℕ). is_yes (sealed_of c.ssa b) ≡ false) is (all 0 edge (omega arith)).1
target_unsealed f c (edge ∷ edges) (suc k) x all below is =
    target_unsealed f c edges k x (λ j d inside. all (suc j) d (omega (arith, inside))) (omega (arith, below)) is

-- nothing is declared anywhere
declared_nowhere : (s t : SsaState) (inst : ℕ) → t ≡ s → IsDeclared s inst [] t
declared_nowhere s t inst same = record {
  told = [];
  once = λ j k before inside. absurd (omega (arith, inside));
  each = λ b. refl;
  along = (
    λ v b. ap (λ (u : SsaState). record_of u v b) same,
    λ b. ap (λ (u : SsaState). sealed_of u b) same,
    λ b. ap (λ (u : SsaState). predecessors_of u b) same,
  );
  tracking = ap (λ (u : SsaState). u.tracking) same;
}

-- AN INSTRUCTION --------------------------------------------------------------------------------------------------------

abbrev pub built : List GivenEntry → Instruction Name Name → List ℕ → AnsweredCall
built entries instruction numbers = record { request = Build entries instruction; numbers = numbers }

module _ (place : ℕ) (declared : SignatureShape) (calls : List AnsweredCall) (f g : Body) (c d : ContextState) (p : Option ℕ) (entries : List GivenEntry) (instruction : Instruction Name Name) (shape : InstructionData)
    (ty : «Type») (inst block : ℕ) (stands : StandsIn declared calls f c p) (consistent : IsConsistent f) (has : HasShape calls f instruction shape ty)
    (operands_exist : (k : ℕ) → k < length (operands shape) → slice_index (operands shape) k < length f.values) (at : p ≡ Some block)
    (there : block < length f.blocks) (open_block : status_of c block ≢ Filled) (appends : AppendsIn place f c g d block shape ty inst)
    (kept : LedgerAgrees (calls ++ built entries instruction (inst ∷ (inst_at g inst).results) ∷ []) (ledger_of (calls ++ built entries instruction (inst ∷ (inst_at g inst).results) ∷ [])) g d p) where
  abbrev numbers : List ℕ
  numbers = inst ∷ (inst_at g inst).results

  abbrev call : AnsweredCall
  call = built entries instruction (inst ∷ (inst_at g inst).results)

  here : (name : Name) × IsCurrent calls block name
  here = current_name declared calls f c p stands block at

  unfilled : ledger.is_filled (ledger_of calls) here.0 ≡ false
  unfilled = current_unfilled declared calls f c p stands block here.0 here.1 open_block

  branch : SameBranch calls f.tables shape instruction
  branch =
      let all = all_named calls instruction.operands (operands shape) has.operands_named.numbers in
      let edges = edges_named calls (name-number calls (ledger_of calls) f c p stands.ledger) instruction.edges (destinations shape) has.edges in
      let named = all_named calls instruction.contexts (contexts shape) has.contexts_numbered in
      record {
        operation = sym has.operation;
        arguments = all.0;
        contexts_same = named.0;
        edges = edges.0;
        values = has.operands_named.are_values;
        contexts_earlier = named.1;
        edges_earlier = edges.1;
      }

  plainly : destinations shape ≡ [] → SameInstruction calls f.tables shape instruction
  plainly none = record {
    operation = branch.operation;
    arguments = branch.arguments;
    no_edges = ap (map edge_of) none;
    edges = none_named calls instruction.edges (subst (NamesEdges calls instruction.edges) none has.edges);
    contexts_same = branch.contexts_same;
    values = branch.values;
    contexts_earlier = branch.contexts_earlier;
  }

  finished : (types : List «Type») → types_of_results f.tables shape ty ≡ types → Carries (calls ++ call ∷ []) (with_inst (inserted_in f block) block Back shape types place) d.ssa
      → StandsIn declared (calls ++ call ∷ []) g d p
  finished types is carries =
      stands_built place declared calls f g c d p stands block shape ty inst appends call tt tt tt kept
      (subst (λ (ts : List «Type»). Carries (calls ++ call ∷ []) (with_inst (inserted_in f block) block Back shape ts place) d.ssa) (sym is) carries)

  -- the types of the program's results, and the type at which the instruction is made
  program_types : program.result_types instruction.operation instruction.controlling ≡ types_of_results f.tables shape ty
  program_types = same_types calls f instruction shape ty has

  controlled_at : (types : List «Type») → types_of_results f.tables shape ty ≡ types
      → controlling_of (with_inst (inserted_in f block) block Back shape types place) shape (inst_node (inserted_in f block) block shape types place).results ≡ instruction.controlling
  controlled_at types is =
      made_controlling calls f c.ssa stands.carries consistent block here.0 here.1 unfilled there shape entries instruction place numbers types ty (sym is) operands_exist ∙ sym has.controlling

  -- its results have the next numbers of values
  numbered : (k : ℕ) → k < length (types_of_results f.tables shape ty) → slice_get (inst ∷ (inst_at g inst).results) (suc k) ≡ Some (length (inserted_in f block).values + k)
  numbered k below =
      ap (λ (rs : List ℕ). slice_get rs k) (appended_range _ f c g d block shape ty inst appends)
      ∙ range_at (length (inserted_in f block).values) (length (types_of_results f.tables shape ty)) k below

  -- its block goes on
  stands_plain : StaysInBlock shape → d.ssa ≡ c.ssa → StandsIn declared (calls ++ call ∷ []) g d p
  stands_plain known same =
      let types : List «Type» = types_of_results f.tables shape ty in
      let carries = carries_plain calls f c.ssa stands.carries consistent block here.0 here.1 unfilled there shape entries instruction place numbers (plainly known.no_edges)
      types program_types (controlled_at types refl) numbered (ap (λ (n : ℕ). Some n) appends.number) in
      finished types refl (subst (Carries (calls ++ call ∷ []) (with_inst (inserted_in f block) block Back shape types place)) (sym same) carries)

  -- it ends its block
  stands_end : EndsBlock f.tables shape ty → All (CanLeadIn f c) (destinations shape) → IsDeclared c.ssa inst (targets (destinations shape)) d.ssa → StandsIn declared (calls ++ call ∷ []) g d p
  stands_end known edges declares =
      finished [] known.none
      (carries_branch calls f c.ssa stands.carries consistent block here.0 here.1 unfilled there shape entries instruction place numbers branch [] (program_types ∙ known.none) (controlled_at [] known.none) (λ k below. absurd (omega (arith, below)))
      (ap (λ (n : ℕ). Some n) appends.number) declares.told d.ssa (same_end calls f instruction shape ty has ∙ known.ends) declares.once
      exactly (λ x told. let to = (exactly x).0 told in target_unsealed f c (destinations shape) to.0 x edges to.1 to.2)
      (subst (λ (i : ℕ). DeclaredAlong c.ssa i declares.told d.ssa) appends.number declares.along) declares.tracking)
    where
      exactly : (x : ℕ) → (Contains declares.told x → Contains (targets (destinations shape)) x) × (Contains (targets (destinations shape)) x → Contains declares.told x)
      exactly x = (
        λ told. stands_there (targets (destinations shape)) x (sym (declares.each x) ∙ stands_from declares.told x told),
        λ to. stands_there declares.told x (declares.each x ∙ stands_from (targets (destinations shape)) x to),
      )

-- AN INSTRUCTION OF ANY SHAPE -------------------------------------------------------------------------------------------

pub shaped_stands : (place : ℕ) (declared : SignatureShape) (calls : List AnsweredCall) (f g : Body) (c d : ContextState) (p : Option ℕ) (entries : List GivenEntry) (instruction : Instruction Name Name) (shape : InstructionData)
    (ty : «Type») (inst block : ℕ) → StandsIn declared calls f c p → IsConsistent f → HasShape calls f instruction shape ty
    → ((k : ℕ) → k < length (operands shape) → slice_index (operands shape) k < length f.values) → p ≡ Some block
    → block < length f.blocks → status_of c block ≢ Filled → AppendsIn place f c g d block shape ty inst
    → All (CanLeadIn f c) (destinations shape) → IsDeclared c.ssa inst (targets (destinations shape)) d.ssa → (is_branch shape ≡ false → d.ssa ≡ c.ssa)
    → LedgerAgrees (calls ++ built entries instruction (inst ∷ (inst_at g inst).results) ∷ []) (ledger_of (calls ++ built entries instruction (inst ∷ (inst_at g inst).results) ∷ [])) g d p
    → StandsIn declared (calls ++ built entries instruction (inst ∷ (inst_at g inst).results) ∷ []) g d p
shaped_stands place declared calls f g c d p entries instruction shape ty inst block stands consistent has exist at there open_block appends edges declares same kept = by (sort_of f.tables shape ty)
  where
    by : StaysInBlock shape ⊎ EndsBlock f.tables shape ty → StandsIn declared (calls ++ built entries instruction (inst ∷ (inst_at g inst).results) ∷ []) g d p
    by (inl known) = stands_plain _ declared calls f g c d p entries instruction shape ty inst block stands consistent has exist at there open_block appends kept known (same known.no_branch)
    by (inr known) = stands_end _ declared calls f g c d p entries instruction shape ty inst block stands consistent has exist at there open_block appends kept known edges declares

-- where no error is answered
pub stands_shaped : (place : ℕ) {E : Type 0} (declared : SignatureShape) (calls : List AnsweredCall) (f g : Body) (c d : ContextState) (p : Option ℕ) (entries : List GivenEntry) (instruction : Instruction Name Name) (shape : InstructionData)
    (ty : «Type») (r : Result ℕ E) (block : ℕ) → StandsIn declared calls f c p → IsConsistent f → HasShape calls f instruction shape ty
    → ((k : ℕ) → k < length (operands shape) → slice_index (operands shape) k < length f.values) → p ≡ Some block
    → block < length f.blocks → status_of c block ≢ Filled → IfOk r (λ inst. AppendsIn place f c g d block shape ty inst)
    → All (CanLeadIn f c) (destinations shape) → IfOk r (λ inst. IsDeclared c.ssa inst (targets (destinations shape)) d.ssa) → (is_branch shape ≡ false → d.ssa ≡ c.ssa)
    → IfOk r (λ inst. LedgerAgrees (calls ++ built entries instruction (inst ∷ (inst_at g inst).results) ∷ []) (ledger_of (calls ++ built entries instruction (inst ∷ (inst_at g inst).results) ∷ [])) g d p)
    → IfOk r (λ inst. StandsIn declared (calls ++ built entries instruction (inst ∷ (inst_at g inst).results) ∷ []) g d p)
stands_shaped place declared calls f g c d p entries instruction shape ty (Err e) block stands consistent has exist at there open_block appends edges declares same kept = tt
stands_shaped place declared calls f g c d p entries instruction shape ty (Ok inst) block stands consistent has exist at there open_block appends edges declares same kept =
    shaped_stands _ declared calls f g c d p entries instruction shape ty inst block stands consistent has exist at there open_block appends edges declares same kept
