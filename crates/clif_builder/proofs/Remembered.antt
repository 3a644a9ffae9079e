-- What each call leaves of records, and of which values stand for one value.
use Rattle.std.proofs.Common.{◌≡◌, ℕ, ◌==◌, ◌&&◌, if◌then◌else◌, Bool, true, false, List, [], ◌∷◌, ◌++◌, length, refl, sym, ◌∙◌, ap, subst, arith}
use Rattle.std.specs.Prelude.{Option, Some, OnOk, IfOk, IfSome, Result, Ok, Err}
use Rattle.std.proofs.lemmas.Bool.Decides.{nat_tests}
use Rattle.clif_types.specs.declared.types.«Type».{«Type»}
use Rattle.clif_instructions.specs.declared.instructions.InstructionData.{InstructionData}
use Rattle.clif_instructions.specs.declared.insert_at.InsertAt.TheVariants.{Back}
use Rattle.clif_ir.specs.Body.{Body, follow, resolved}
use Rattle.clif_nodes.specs.declared.nodes.ValueNode.{ValueNode}
use Rattle.clif_instructions.specs.Instruction.{destinations}
use Rattle.clif_tables.specs.Callees.{types_of_results}
use Rattle.clif_instructions.specs.Edges.{targets}
use Rattle.clif_ir.specs.Changes.{with_block, with_inst, inserted_in}
use Rattle.clif_ir.specs.Consistent.{IsConsistent}
use Rattle.clif_records.specs.Tables.{RecordMap, record_at}
use Rattle.clif_ssa.specs.Ssa.{SsaState, record_of, Records, SameRecords}
use Rattle.clif_ssa.specs.Structure.{StayAlike, HasRecordOf, Remembers}
use Rattle.clif_ssa.proofs.Bodies.{firm_from}
use Rattle.clif_ssa.proofs.Instructions.{inst_resolved}
use Rattle.clif_ssa.proofs.Completing.{inserted_firm}
use Rattle.clif_ssa.proofs.Alike.{alike_same, alike_then, inserted_resolved}
use Rattle.clif_builder.specs.Context.{ContextState, Begins}
use Rattle.clif_builder.specs.Construction.{IsUse, IsSealingOf, IsDeclared}
use Rattle.clif_builder.proofs.Declaring.{declared_same}
use Rattle.clif_builder.specs.declared.builder.FunctionBuilder.{FunctionBuilder}
use Rattle.clif_builder.specs.Builder.{AppendsIn}
use Rattle.clif_builder.specs.Growth.{AreCalls, HasRecordIn, last_builder}

-- the function and the records stay
pub remembers_same : (x b : ℕ) (f g : Body) (s t : SsaState) → g ≡ f → t ≡ s → Remembers x b f s g t
remembers_same x b f g s t same_body same_state = record {
  recorded = λ v is. ap (λ r. record_of r x b) same_state ∙ is;
  alike = subst (λ h. StayAlike f h) (sym same_body) (λ u v same. same);
}

-- the values and the records stay
pub remembers_valued : (x b : ℕ) (f g : Body) (s t : SsaState) → g.values ≡ f.values → t ≡ s → Remembers x b f s g t
remembers_valued x b f g s t same_values same_state = record {
  recorded = λ v is. ap (λ r. record_of r x b) same_state ∙ is;
  alike = λ u v same. now u ∙ same ∙ sym (now v);
}
  where
    now : (u : ℕ) → resolved g u ≡ resolved f u
    now u = ap (λ (values : List ValueNode). follow (length values) values u) same_values

-- a block is made
pub remembers_created : {T E : Type 0} (r : Result T E) (x b : ℕ) (f g : Body) (s t : SsaState) → OnOk r (g ≡ with_block f) → t.records ≡ s.records → OnOk r (Remembers x b f s g t)
remembers_created (Err e) x b f g s t is same = tt
remembers_created (Ok v) x b f g s t is same = record {
  recorded = λ v here. ap (λ (m : RecordMap). record_at m x b) same ∙ here;
  alike = subst (λ h. StayAlike f h) (sym is) (λ u v alike. alike);
}

-- a variable is declared
pub remembers_declared : {T E : Type 0} (r : Result T E) (x b : ℕ) (f : Body) (c d : ContextState) (ty : «Type») → OnOk r (d ≡ record c { variables = c.variables ++ ty ∷ [] })
    → OnOk r (Remembers x b f c.ssa f d.ssa)
remembers_declared (Err e) x b f c d ty is = tt
remembers_declared (Ok v) x b f c d ty is = remembers_same x b f f c.ssa d.ssa refl (ap (λ (e : ContextState). e.ssa) is)

-- blocks are sealed
pub remembers_sealed : {T E : Type 0} (r : Result T E) (x b : ℕ) (f g : Body) (c d : ContextState) (seals : ℕ → Bool)
    → OnOk r ((told : List ℕ) × IsSealingOf f c.ssa g d.ssa seals told × Begins c d told) → OnOk r (Remembers x b f c.ssa g d.ssa)
remembers_sealed (Err e) x b f g c d seals sealed = tt
remembers_sealed (Ok v) x b f g c d seals sealed = sealed.1.remembers x b

-- a variable is assigned in a block, and it isn't this one there
pub remembers_assigned : {T E : Type 0} (r : Result T E) (x b y c value : ℕ) (f g : Body) (s t : SsaState) → (y ≡ x → c ≡ b → ⊥) → g ≡ f → OnOk r (Records s t x b value)
    → OnOk r (Remembers y c f s g t)
remembers_assigned (Err e) x b y c value f g s t apart same written = tt
remembers_assigned (Ok u) x b y c value f g s t apart same written = record {
  recorded = λ w is. written y c ∙ by (y == x && c == b) refl w is;
  alike = subst (λ h. StayAlike f h) (sym same) (λ u v alike. alike);
}
  where
    by : (test : Bool) → (y == x && c == b) ≡ test → (w : ℕ) → record_of s y c ≡ Some w → (if test then Some value else record_of s y c) ≡ Some w
    by false other w is = is
    by true one w is =
        let first : y ≡ x = grind (arith, nat_tests) in
        let second : c ≡ b = grind (arith, nat_tests) in
        absurd (apart first second)

-- an instruction is appended
pub appended_alike : (f : Body) (b : ℕ) (shape : InstructionData) (types : List «Type») (loc : ℕ) → IsConsistent f → StayAlike f (with_inst (inserted_in f b) b Back shape types loc)
appended_alike f b shape types loc known =
    alike_same f (with_inst (inserted_in f b) b Back shape types loc) (λ v.
    inst_resolved (inserted_in f b) b Back shape types loc (inserted_firm f b (firm_from f known)) v ∙ inserted_resolved f b v)

-- a variable is used
inserted_alike : (f : Body) (b : ℕ) → StayAlike f (inserted_in f b)
inserted_alike f b = alike_same f (inserted_in f b) (inserted_resolved f b)

pub remembers_used : {E : Type 0} (r : Result ℕ E) (y e : ℕ) (f g : Body) (c d : ContextState) (x : ℕ) (ty : «Type») (b : ℕ)
    → IfOk r (λ value. (told : List ℕ) × IsUse (inserted_in f b) c.ssa g d.ssa x ty b value told × Begins c d (b ∷ told)) → OnOk r (Remembers y e f c.ssa g d.ssa)
remembers_used (Err error) y e f g c d x ty b used = tt
remembers_used (Ok value) y e f g c d x ty b used =
    let remembers : Remembers y e (inserted_in f b) c.ssa g d.ssa = used.1.remembers y e in
    record { recorded = remembers.recorded; alike = alike_then f (inserted_in f b) g (inserted_alike f b) remembers.alike }

pub has_record_used : {E : Type 0} (r : Result ℕ E) (f g : Body) (c d : ContextState) (x : ℕ) (ty : «Type») (b : ℕ) (p : Option ℕ) → p ≡ Some b
    → IfOk r (λ value. (told : List ℕ) × IsUse (inserted_in f b) c.ssa g d.ssa x ty b value told × Begins c d (b ∷ told))
    → IfSome p (λ block. IfOk r (λ value. HasRecordOf g d.ssa x block value))
has_record_used {E} r f g c d x ty b p at used = subst (λ (o : Option ℕ). IfSome o (λ block. IfOk r (λ value. HasRecordOf g d.ssa x block value))) (sym at) (by r used)
  where
    by : (r : Result ℕ E) → IfOk r (λ value. (told : List ℕ) × IsUse (inserted_in f b) c.ssa g d.ssa x ty b value told × Begins c d (b ∷ told))
        → IfOk r (λ value. HasRecordOf g d.ssa x b value)
    by (Err error) used = tt
    by (Ok value) used = used.1.recorded

-- an instruction is appended to the current block
appended_in : (place : ℕ) (y e : ℕ) (f g : Body) (c d : ContextState) (b : ℕ) (shape : InstructionData) (ty : «Type») (inst : ℕ) → IsConsistent f → AppendsIn place f c g d b shape ty inst → SameRecords c.ssa d.ssa
    → Remembers y e f c.ssa g d.ssa
appended_in place y e f g c d b shape ty inst known appends same = record {
  recorded = λ v is. same y e ∙ is;
  alike = subst (λ h. StayAlike f h) (sym appends.function) (appended_alike f b shape (types_of_results f.tables shape ty) place known);
}

pub remembers_appended : (place : ℕ) {E : Type 0} (r : Result ℕ E) (y e : ℕ) (f g : Body) (c d : ContextState) (b : ℕ) (shape : InstructionData) (ty : «Type») → IsConsistent f
    → IfOk r (λ inst. AppendsIn place f c g d b shape ty inst) → IfOk r (λ inst. IsDeclared c.ssa inst (targets (destinations shape)) d.ssa)
    → OnOk r (Remembers y e f c.ssa g d.ssa)
remembers_appended place (Err error) y e f g c d b shape ty known appends declares = tt
remembers_appended place (Ok inst) y e f g c d b shape ty known appends declares =
    appended_in _ y e f g c d b shape ty inst known appends (declared_same c.ssa inst (targets (destinations shape)) d.ssa declares).0

-- THE LAW ---------------------------------------------------------------------------------------------------------

same_some : {x y : ℕ} → ◌≡◌ {A = Option ℕ} (Some x) (Some y) → x ≡ y
same_some same = cc

pub uses_agree : {R : Type 0} (x e first second : ℕ) (b : FunctionBuilder R) (builders : List (FunctionBuilder R)) → HasRecordIn b x e first → AreCalls x e b builders
    → HasRecordIn (last_builder b builders) x e second → resolved (last_builder b builders).func.now first ≡ resolved (last_builder b builders).func.now second
uses_agree x e first second b [] (v, is, ends) calls (w, is_too, ends_too) = sym ends ∙ ap (resolved b.func.now) (same_some (sym is ∙ is_too)) ∙ ends_too
uses_agree x e first second b (next ∷ builders) has calls last =
    uses_agree x e first second next builders (has.0, calls.0.recorded has.0 has.1, calls.0.alike has.0 first has.2) calls.1 last
