use Rattle.std.proofs.Common.{◌≡◌, ◌∙◌, subst, true, rules}
use Rattle.std.specs.Prelude.{◌↔◌, IsTrue}
use Rattle.std.specs.List.{All}
use Rattle.std.proofs.lemmas.Bool.{and_from, and_right}
use Rattle.clif_calls.specs.declared.call.Name.{Name}
use Rattle.clif_instructions.specs.Instruction.{entries_of}
use Rattle.clif_ir.specs.Body.{Body}
use Rattle.clif_ir.specs.Consistent.{EntryExists}
use Rattle.clif_meaning.specs.Acceptance.{can_operate}
use Rattle.clif_resolution.specs.Answers.{value_of}
use Rattle.clif_resolution.specs.Conditions.{is_open}
use Rattle.clif_resolution.specs.Entries.{numbers_at}
use Rattle.clif_resolution.specs.Plans.{controlling_in, has_entries, has_names, operation_in, type_in}
use Rattle.clif_resolution.proofs.Found.{found-misuse, found-one}
use Rattle.clif_resolution.proofs.Planning.{entries-same, planned-named}
use Rattle.clif_resolution.proofs.plans.plan_found.Goals as goal

pub returns-then-not-has_entries : goal.returns-then-not-has_entries
returns-then-not-has_entries g c =
    let b = c.args.builder.now in
    let planned = c.in_ok-planned.planned in
    let tells = subst (λ (f : Body). IsTrue c.has_entries.result ↔ All (EntryExists f.tables) (entries_of planned.shape)) c.func.ensures c.has_entries.ensures in
    found-misuse (and_right _ (has_entries b.func.now c.args.answers.now c.args.plan.now)
    (entries-same b c.args.answers.now c.args.plan.now planned.shape planned.ty c.has_entries.result c.in_ok-planned.ensures.found tells ∙ c.if-not-has_entries.true))

pub returns : goal.returns
returns g c =
    let b = c.args.builder.now in
    let answers = c.args.answers.now in
    let plan = c.args.plan.now in
    let planned = c.in_ok-planned.planned in
    let found = c.in_ok-planned.ensures.found in
    let tells = subst (λ (f : Body). IsTrue c.has_entries.result ↔ All (EntryExists f.tables) (entries_of planned.shape)) c.func.ensures c.has_entries.ensures in
    let opens : is_open b ≡ true = search rules in
    let can : can_operate (operation_in (numbers_at b.func.now answers) plan) (controlling_in (λ (name : Name). type_in b.func.now (value_of b.func.now answers name)) plan) ≡ true = search rules in
    let entries : has_entries b.func.now answers plan ≡ true = entries-same b answers plan planned.shape planned.ty c.has_entries.result found tells ∙ c.if-not-has_entries.false in
    found-one planned found
    (and_from _ _ (and_from _ _ (and_from (is_open b) (has_names b answers plan) opens (planned-named b answers plan planned.shape planned.ty found)) can) entries)
