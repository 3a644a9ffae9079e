-- The nodes of the search are emitted, unless the switch is refused before.
use Rattle.std.proofs.Common.{arith, ◌≡◌, ℕ, pos, List, [], ◌∷◌, sym, ◌∙◌, ap, subst}
use Rattle.std.specs.Prelude.{All, Contains, Err}
use Rattle.std.specs.List.{AllByRecursion}
use Rattle.std.specs.FinMap as finite
use Rattle.clif_types.specs.declared.types.«Type».{«Type»}
use Rattle.clif_types.specs.declared.types.«Type».TheVariants as type
use Rattle.clif_inst_builder.specs.Shapes as shapes
use Rattle.clif_ranges.specs.declared.ranges.CaseRange.{CaseRange}
use Rattle.clif_ranges.specs.declared.search.Node.{Node}
use Rattle.clif_ranges.specs.Search.{AreFew, AreInOrder, AreSeparate, AreTestsOf, FindsCases}
use Rattle.clif_ir.specs.Body.{Body, value_at}
use Rattle.clif_ranges.specs.Cases.{AreRangesFor, CaseMap, FitType, IsRefusal}
use Rattle.clif_ranges.specs.declared.error.SwitchError.TheVariants.{TableTooLong as too_long}
use Rattle.clif_ranges.specs.Ranges.{AreFewest, AreRangesOf}
use Rattle.clif_builder.proofs.Adding.{refused_adds}
use Rattle.clif_switch.specs.Emission.{HasItsBlock, MakesNodes, MayLead, cases_in}
use Rattle.clif_switch.proofs.Values.{done}
use Rattle.clif_switch.proofs.Cases.{all_blocks, all_cases, all_hold, blocks_of_cases, each_case, separate}
use Rattle.clif_switch.proofs.Answered.{emitted, failed_by, few_made, key_too_wide, memory_not_wide, none_too_wide, refuses_of, table_too_long, was_failed}
use Rattle.clif_switch.proofs.Steps.{refused_steps}
use Rattle.clif_switch.proofs.switch.Switch.emit.Goals as goal

-- the types of the value, as it was read and as it is held
type_read : (f g : Body) (v : ℕ) (ty : «Type») → ty ≡ (value_at g v).ty → g ≡ f → ty ≡ (value_at f v).ty
type_read f g v ty read same = read ∙ ap (λ (h : Body). (value_at h v).ty) same

-- what is said of the cases inside, of the type that was read, is said of the switch
said_of : (P : CaseMap → «Type» → Type 0) (inside cases : CaseMap) (read held : «Type») → inside ≡ cases → read ≡ held → P inside read → P cases held
said_of P inside cases read held view same said = subst (λ (m : CaseMap). P m held) view (subst (P inside) same said)

pub returns-then-has_failed : goal.returns-then-has_failed
returns-then-has_failed g c = was_failed c.args.self c.args.val c.args.otherwise c.args.bx.now (sym c.has_failed.ensures ∙ c.if-has_failed.true)

pub returns-in-Err-KeyTooWide : goal.returns-in-Err-KeyTooWide
returns-in-Err-KeyTooWide g c =
    let read = type_read c.args.bx.now.func.now c.func-2.result.now c.args.val c.value_type-ty.result c.value_type-ty.ensures c.func-2.ensures in
    rw (c.in-Err-KeyTooWide.field-0-is)
    (key_too_wide c.args.self c.args.val c.args.otherwise c.args.bx.now c.in-Err-KeyTooWide.field-0 _ c.value_type-ty.result c.in-Err-KeyTooWide.max (sym c.has_failed.ensures ∙ c.if-has_failed.false) c.in-Err-KeyTooWide.field-0-is
    (refuses_of c.self.inside.cases c.args.self c.value_type-ty.result _ c.in-Err-KeyTooWide.field-0 c.self.view_is read c.in-Err-KeyTooWide.ensures.err c.in-Err-KeyTooWide.ensures.too_wide) read)

pub returns-in-Err-TableTooLong : goal.returns-in-Err-TableTooLong
returns-in-Err-TableTooLong g c =
    let read = type_read c.args.bx.now.func.now c.func-2.result.now c.args.val c.value_type-ty.result c.value_type-ty.ensures c.func-2.ensures in
    table_too_long c.args.self c.args.val c.args.otherwise c.args.bx.now (sym c.has_failed.ensures ∙ c.if-has_failed.false)
    (said_of (λ (m : CaseMap) (t : «Type»). IsRefusal m t too_long) c.self.inside.cases c.args.self c.value_type-ty.result _ c.self.view_is read
    (subst (IsRefusal c.self.inside.cases c.value_type-ty.result) c.in-Err-TableTooLong.field-0-is c.in-Err-TableTooLong.ensures.err))

pub returns-in-Err-Build : goal.returns-in-Err-Build
returns-in-Err-Build g c =
    let read = type_read c.args.bx.now.func.now c.func-2.result.now c.args.val c.value_type-ty.result c.value_type-ty.ensures c.func-2.ensures in
    failed_by c.args.self c.args.val c.args.otherwise c.args.bx.now c.refuse.new.self c.refuse.result
    (λ max sound. memory_not_wide c.args.self _ c.in-Err-Build.field-0 c.in-Err-Build.field-0-0 c.in-Err-Build.field-0-is
    (refuses_of c.self.inside.cases c.args.self c.value_type-ty.result _ c.in-Err-Build.field-0 c.self.view_is read c.in-Err-Build.ensures.err c.in-Err-Build.ensures.too_wide) max)
    (refused_steps c.args.bx.now c.refuse.new.self (shapes.unary_imm (pos 0)) type.Invalid c.refuse.result (omega arith) (c.refuse.ensures.refused (shapes.unary_imm (pos 0)) type.Invalid))
    (refused_adds c.args.bx.now c.refuse.new.self (shapes.unary_imm (pos 0)) type.Invalid _ c.refuse.result (c.refuse.ensures.refused (shapes.unary_imm (pos 0)) type.Invalid))

pub search_tree-requires : goal.search_tree-requires
search_tree-requires g c = subst AreSeparate (sym c.as_slice.ensures.value) (separate (finite.entries c.self.inside.cases) c.in-Ok.ranges.items c.in-Ok.ensures.ok.ranges_of)

pub returns-in_default : goal.returns-in_default
returns-in_default g c =
    let read = type_read c.args.bx.now.func.now c.func-2.result.now c.args.val c.value_type-ty.result c.value_type-ty.ensures c.func-2.ensures in
    failed_by c.args.self c.args.val c.args.otherwise c.args.bx.now c.refuse-in_default.new.self c.refuse-in_default.result
    (λ max sound. none_too_wide c.args.self _ (said_of FitType c.self.inside.cases c.args.self c.value_type-ty.result _ c.self.view_is read c.in-Ok.ensures.ok.fit) max)
    (refused_steps c.args.bx.now c.refuse-in_default.new.self (shapes.unary_imm (pos 0)) type.Invalid c.refuse-in_default.result (omega arith)
    (c.refuse-in_default.ensures.refused (shapes.unary_imm (pos 0)) type.Invalid))
    (refused_adds c.args.bx.now c.refuse-in_default.new.self (shapes.unary_imm (pos 0)) type.Invalid _ c.refuse-in_default.result (c.refuse-in_default.ensures.refused (shapes.unary_imm (pos 0)) type.Invalid))

pub emit_nodes-requires-clause-leads : goal.emit_nodes-requires-clause-leads
emit_nodes-requires-clause-leads g c =
    let entries : List (ℕ × ℕ) = finite.entries c.args.self in
    let ranges : List CaseRange = c.as_slice.result.now in
    let are : AreRangesOf entries ranges =
    subst (λ (m : CaseMap). AreRangesOf (finite.entries m) ranges) c.self.view_is (subst (AreRangesOf (finite.entries c.self.inside.cases)) (sym c.as_slice.ensures.value) c.in-Ok.ensures.ok.ranges_of) in
    all_hold (MayLead c.args.bx.now) (blocks_of_cases entries) (each_case (MayLead c.args.bx.now) c.args.self ranges are c.requires.cases_lead) c.as_slice-2.result.now
    (subst (λ (nodes : List Node). AllByRecursion (λ node. All (Contains (blocks_of_cases entries)) (cases_in node.test)) nodes) (sym c.as_slice-2.ensures.value)
    (all_cases entries ranges are c.in-Ok-search_tree.nodes.items c.in-Ok-search_tree.ensures.tests.tests))

pub emit_nodes-requires-clause-filled : goal.emit_nodes-requires-clause-filled
emit_nodes-requires-clause-filled g c =
    subst (λ (nodes : List Node). AllByRecursion (λ node. HasItsBlock node.test) nodes) (sym c.as_slice-2.ensures.value)
    (all_blocks c.as_slice.result.now c.in-Ok-search_tree.nodes.items c.in-Ok-search_tree.ensures.tests.tests)

pub returns-in-Ok-emit_nodes : goal.returns-in-Ok-emit_nodes
returns-in-Ok-emit_nodes g c =
    let ranges : List CaseRange = c.as_slice.result.now in
    let nodes : List Node = c.as_slice-2.result.now in
    let same : c.in-Ok-search_tree.nodes.items ≡ nodes = sym c.as_slice-2.ensures.value in
    let ty : «Type» = (value_at c.args.bx.now.func.now c.args.val).ty in
    let of_type : c.value_type-ty.result ≡ ty = c.value_type-ty.ensures ∙ ap (λ (f : Body). (value_at f c.args.val).ty) c.func-2.ensures in
    let fits : AreRangesFor c.args.self ty ranges =
    subst (λ (m : CaseMap). AreRangesFor m ty ranges) c.self.view_is
    (subst (λ (t : «Type»). AreRangesFor c.self.inside.cases t ranges) of_type (subst (AreRangesFor c.self.inside.cases c.value_type-ty.result) (sym c.as_slice.ensures.value) c.in-Ok.ensures.ok)) in
    emitted c.ledger_is_read_by_number.ensures c.requests_ask_for_their_shapes.ensures c.switch_calls_are_code.ensures
    c.args.self c.args.val c.args.otherwise c.args.bx.now c.emit_nodes.new.bx ranges nodes c.requires fits
    (subst AreFewest (sym c.as_slice.ensures.value) c.in-Ok.ensures.fewest) (subst (λ (list : List Node). FindsCases ranges list 0) same c.in-Ok-search_tree.ensures.ok)
    (subst (AreInOrder (0 ∷ []) 1) same c.in-Ok-search_tree.ensures.order) (subst (AreTestsOf ranges) same c.in-Ok-search_tree.ensures.tests)
    (subst (AreFew ranges) same c.in-Ok-search_tree.ensures.few) c.in-Ok-emit_nodes.ensures.ends c.in-Ok-emit_nodes.ensures.most
    (subst (λ (t : «Type»). MakesNodes (record { ty = t; val = c.args.val; otherwise = c.args.otherwise }) nodes c.args.bx.now c.emit_nodes.new.bx done) of_type c.in-Ok-emit_nodes.ensures.made)

pub returns : goal.returns
returns g c =
    let ranges : List CaseRange = c.as_slice.result.now in
    let same : c.in-Ok-search_tree.nodes.items ≡ c.as_slice-2.result.now = sym c.as_slice-2.ensures.value in
    let ty : «Type» = (value_at c.args.bx.now.func.now c.args.val).ty in
    let read = type_read c.args.bx.now.func.now c.func-2.result.now c.args.val c.value_type-ty.result c.value_type-ty.ensures c.func-2.ensures in
    let fits : AreRangesFor c.args.self ty ranges =
    said_of (λ (m : CaseMap) (t : «Type»). AreRangesFor m t ranges) c.self.inside.cases c.args.self c.value_type-ty.result _ c.self.view_is read
    (subst (AreRangesFor c.self.inside.cases c.value_type-ty.result) (sym c.as_slice.ensures.value) c.in-Ok.ensures.ok) in
    failed_by c.args.self c.args.val c.args.otherwise c.args.bx.now c.emit_nodes.new.bx c.in-Err.error (λ max sound. none_too_wide c.args.self ty fits.fit max) c.in-Err.ensures.ends.steps
    (few_made c.args.self c.args.val c.args.bx.now c.emit_nodes.new.bx ranges c.as_slice-2.result.now fits (subst (λ (list : List Node). FindsCases ranges list 0) same c.in-Ok-search_tree.ensures.ok)
    (subst (AreInOrder (0 ∷ []) 1) same c.in-Ok-search_tree.ensures.order) (subst (AreTestsOf ranges) same c.in-Ok-search_tree.ensures.tests) (subst (AreFew ranges) same c.in-Ok-search_tree.ensures.few)
    (Err c.in-Err.error) c.in-Err.ensures.most)
