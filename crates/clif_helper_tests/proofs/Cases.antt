-- A case that is set keeps a switch's blocks ones that branches may lead to.
use Rattle.std.proofs.Common.{◌≡◌, ℕ, None, Some, Option, Bool, cond, true, false, sym, ap, ◌∙◌, subst}
use Rattle.std.specs.Prelude.{IfSome}
use Rattle.std.specs.FinMap as map
use Rattle.std.specs.FinMap.{get-empty, get-insert}
use Rattle.std.specs.Cmp.{nat_cmp_total}
use Rattle.std.specs.Ordering.{eq_by_cmp, nat_cmp}
use Rattle.clif_ranges.specs.Cases.{CaseMap}
use Rattle.clif_builder.specs.declared.builder.FunctionBuilder.{FunctionBuilder}
use Rattle.clif_switch.specs.Emission.{MayLead}
use Rattle.clif_helper_tests.specs.Cases.{AllLead}

leads_either : {R : Type 0} (b : FunctionBuilder R) (is_new : Bool) (kept : Option ℕ) (block found : ℕ) → MayLead b block → (kept ≡ Some found → MayLead b found)
    → cond is_new (Some block) kept ≡ Some found → MayLead b found
leads_either b true kept block found leads rest is = subst (λ (o : Option ℕ). IfSome o (MayLead b)) is leads
leads_either b false kept block found leads rest is = rest is

pub all_lead_in_new : {R : Type 0} (b : FunctionBuilder R) (cases : CaseMap) (key block : ℕ) → AllLead cases b → MayLead b block → AllLead (map.insert cases key block) b
all_lead_in_new b cases key block all leads other found is =
    leads_either b (eq_by_cmp nat_cmp other key) (map.get cases other) block found leads (all other found)
    (sym (get-insert nat_cmp_total cases key block other) ∙ is)

no_case : {R : Type 0} (b : FunctionBuilder R) (found : ℕ) → None ≡ Some found → MayLead b found
no_case b found e = absurd cc

pub none_lead : {R : Type 0} (cases : CaseMap) → cases ≡ map.empty → (b : FunctionBuilder R) → AllLead cases b
none_lead cases none b key found is =
    no_case b found (sym (get-empty {X = ℕ} nat_cmp key) ∙ sym (ap (λ (m : CaseMap). map.get m key) none) ∙ is)
