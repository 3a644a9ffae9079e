use Rattle.std.proofs.Common.{rules, arith, ◌≡◌, ◌<◌, ◌+◌, ◌-◌, ℕ, List, Bool, true, false, IsTrue, Some, [], length, take, sym, ap, subst}
use Rattle.std.specs.Prelude.{Contains, slice_get}
use Rattle.clif_ir.specs.Body.{Body}
use Rattle.clif_instructions.specs.Edges.{targets}
use Rattle.clif_instructions.specs.declared.block_call.BlockCall.{BlockCall}
use Rattle.clif_records.specs.Tables.{is_yes}
use Rattle.clif_ssa.specs.Ssa.{SsaState, NamesExist, predecessors_of, sealed_of}
use Rattle.clif_ssa.specs.Structure.{LooksOnce}
use Rattle.clif_builder.specs.Context.{ContextState}
use Rattle.clif_builder.specs.declared.context.ContextParts.TheInside.{Inside}
use Rattle.clif_builder.specs.Construction.{IsDeclared}
use Rattle.clif_builder.proofs.Declaring.{declared_unsealed, declare_more, declare_skipped, names_more, names_same}
use Rattle.clif_builder.proofs.context.ContextParts.declare_successors.Goals as goal
use Rattle.clif_builder.proofs.context.ContextParts.declare_successors.Goals.{then-not-is_last_predecessor+in_ok-declare_block_predecessor, else-not-is_last_predecessor}

pub declare_block_predecessor-requires : goal.declare_block_predecessor-requires
declare_block_predecessor-requires c =
    let inside : c.loop-edge.edge-index < length c.args.edges.now = c.loop-edge-test.true in
    let unsealed : (b : ℕ) → Contains (targets c.args.edges.now) b → is_yes (sealed_of c.self.inside.ssa b) ≡ false =
    subst (λ (v : ContextState). (b : ℕ) → Contains (targets c.args.edges.now) b → is_yes (sealed_of v.ssa b) ≡ false) (sym c.self.view_is) c.requires.unsealed in
    declared_unsealed c.self.inside.ssa c.loop-edge.self-inside.ssa c.args.inst c.args.edges.now c.loop-edge.edge-index c.edge-item.result c.edge-item.result inside c.edge-item.is
    unsealed c.loop-edge.invariant.0

pub returns-in_err-declare_block_predecessor-clause-names :
    goal.returns-in_err-declare_block_predecessor-clause-names
returns-in_err-declare_block_predecessor-clause-names c = λ f exists before.
    let done = c.in_err-declare_block_predecessor.ensures in
    names_same f c.loop-edge.self-inside.ssa c.declare_block_predecessor.new.self done.records done.blocks done.err
    (c.loop-edge.invariant.1 f exists (subst (λ (v : ContextState). NamesExist f v.ssa) (sym c.self.view_is) before))

no_place : (edges : List BlockCall) (i : ℕ) → i < length edges → edges ≡ [] → ⊥
no_place edges i inside none = let empty : length edges ≡ 0 = ap (λ (es : List BlockCall). length es) none in absurd (omega (arith, inside, empty))

pub loop-edge-preserved : goal.loop-edge-preserved
loop-edge-preserved c =
    let inside : c.loop-edge.edge-index < length c.args.edges.now = c.loop-edge-test.true in
    let s : SsaState = c.self.inside.ssa in
    let t : SsaState = c.loop-edge.self-inside.ssa in
    let block : ℕ = c.edge-item.result.block in
    let new : (b : ℕ) → Contains (predecessors_of s b) c.args.inst → ⊥ =
    subst (λ (v : ContextState). (b : ℕ) → Contains (predecessors_of v.ssa b) c.args.inst → ⊥) (sym c.self.view_is) c.requires.new_branch in
    let none_inside : (u : SsaState) → c.args.edges.now ≡ [] → u ≡ s = λ u none. absurd (no_place c.args.edges.now c.loop-edge.edge-index inside none) in
    elim c.if-not-is_last_predecessor.branch [
      | then-not-is_last_predecessor+in_ok-declare_block_predecessor w ↦
          let done = w.in_ok-declare_block_predecessor.ensures in
          let not_last : slice_get (predecessors_of t block) (length (predecessors_of t block) - 1) ≡ Some c.args.inst → ⊥ =
          λ last. not_both (c.is_last_predecessor.ensures.1 last) w.if-not-is_last_predecessor.true in
          subst (λ (i : Inside). IsDeclared s c.args.inst (targets (take (c.loop-edge.edge-index + 1) c.args.edges.now)) i.ssa
          × ((f : Body) → c.args.inst < length f.insts → NamesExist f s → NamesExist f i.ssa) × (i.status ≡ c.self.inside.status) × (i.variables ≡ c.self.inside.variables) × (i.touched ≡ c.self.inside.touched)
          × (c.args.edges.now ≡ [] → i.ssa ≡ s) × (LooksOnce s → LooksOnce i.ssa))
          (sym w.self-inside-is) (
            declare_more s t w.declare_block_predecessor.new.self c.args.inst c.args.edges.now c.loop-edge.edge-index c.edge-item.result c.edge-item.result inside c.edge-item.is
                c.loop-edge.invariant.0 not_last done.records done.blocks done.tracking done.ok,
            (λ f exists before. names_more f t w.declare_block_predecessor.new.self c.args.inst block exists done.records done.blocks done.ok (c.loop-edge.invariant.1 f exists before)),
            c.loop-edge.invariant.2,
            c.loop-edge.invariant.3,
            c.loop-edge.invariant.4,
            none_inside w.declare_block_predecessor.new.self,
            (λ before. done.looks_once (c.loop-edge.invariant.6 before)),
          )
      | else-not-is_last_predecessor w ↦
          let last : slice_get (predecessors_of t block) (length (predecessors_of t block) - 1) ≡ Some c.args.inst = c.is_last_predecessor.ensures.0 (is_true w.if-not-is_last_predecessor.false) in
          subst (λ (i : Inside). IsDeclared s c.args.inst (targets (take (c.loop-edge.edge-index + 1) c.args.edges.now)) i.ssa
          × ((f : Body) → c.args.inst < length f.insts → NamesExist f s → NamesExist f i.ssa) × (i.status ≡ c.self.inside.status) × (i.variables ≡ c.self.inside.variables) × (i.touched ≡ c.self.inside.touched)
          × (c.args.edges.now ≡ [] → i.ssa ≡ s) × (LooksOnce s → LooksOnce i.ssa))
          (sym w.self-inside-is) (
            declare_skipped s t c.args.inst c.args.edges.now c.loop-edge.edge-index c.edge-item.result c.edge-item.result inside c.edge-item.is new c.loop-edge.invariant.0 last,
            c.loop-edge.invariant.1,
            c.loop-edge.invariant.2,
            c.loop-edge.invariant.3,
            c.loop-edge.invariant.4,
            none_inside t,
            c.loop-edge.invariant.6,
          )
    ]
  where
    not_both : {t : Bool} → IsTrue t → t ≡ false → ⊥
    not_both holds fails = cc

    is_true : {t : Bool} → t ≡ true → IsTrue t
    is_true holds = search rules

pub returns-in_err-declare_block_predecessor-clause-none :
    goal.returns-in_err-declare_block_predecessor-clause-none
returns-in_err-declare_block_predecessor-clause-none c = λ none. absurd (no_place c.args.edges.now c.loop-edge.edge-index c.loop-edge-test.true none)

pub returns-in_err-declare_block_predecessor-clause-looks_once :
    goal.returns-in_err-declare_block_predecessor-clause-looks_once
returns-in_err-declare_block_predecessor-clause-looks_once c = λ before.
    c.declare_block_predecessor.ensures.looks_once
    (c.loop-edge.invariant.6 (subst (λ (v : ContextState). LooksOnce v.ssa) (sym c.self.view_is) before))

pub returns-clause-looks_once : goal.returns-clause-looks_once
returns-clause-looks_once c = λ before. c.loop-edge.invariant.6 (subst (λ (v : ContextState). LooksOnce v.ssa) (sym c.self.view_is) before)
