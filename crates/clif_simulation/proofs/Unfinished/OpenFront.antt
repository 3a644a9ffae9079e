-- At the front of an unsealed block: the caller's parameters get what is passed, name and value alike, as far as bits are passed,
-- and those that wait their variables' bits.
use Rattle.std.proofs.Common.{◌≡◌, ◌≢◌, ℕ, Bool, true, false, List, [], map, Some, Contains, ◌⊎◌, inl, inr, refl, sym, ◌∙◌, ap, subst}
use Rattle.clif_ir.specs.Body.{Body}
use Rattle.clif_ir.specs.Consistent.{IsConsistent}
use Rattle.clif_paths.specs.Places.{Place, Arm}
use Rattle.clif_paths.specs.State.{fresh, Program, Kind, unborn, born, pending, complete, zero_of, Definition, Function}
use Rattle.clif_paths.specs.Blocks.{front, state_of}
use Rattle.clif_records.specs.declared.tables.Pending.{Pending}
use Rattle.clif_ssa.specs.Ssa.{SsaState, sealed_of}
use Rattle.clif_records.specs.Tables.{pending_of}
use Rattle.clif_ssa.specs.Sound.{HomeFits}
use Rattle.clif_meaning.specs.Name.{Name, same_name}
use Rattle.clif_meaning.specs.Request.{AnsweredCall}
use Rattle.clif_meaning.specs.Store.{assigned}
use Rattle.clif_meaning.specs.FunctionMachine.{same_value}
use Rattle.clif_meaning.proofs.StraightLine.{nothing_contained}
use Rattle.clif_simulation.specs.Interrupted.{values_entering}
use Rattle.clif_simulation.specs.Tables.{answered, block_name, code, program_so_far}
use Rattle.clif_simulation.proofs.Finished.Agreement.{IsBlank}
use Rattle.clif_simulation.proofs.Finished.Giving.{In, contained_in, in_contained, name_keeps, value_keeps, same_given}
use Rattle.clif_simulation.proofs.Unfinished.Interrupting.{waiting_gets, waiting_leaves}
use Rattle.clif_simulation.proofs.Finished.IntoBlock
use Rattle.clif_simulation.proofs.Finished.ItemsAt.{not_start, stands_for_itself}
use Rattle.clif_simulation.proofs.Unfinished.OpenWith.{IsAtFront, OpensWith}
use Rattle.clif_simulation.proofs.Finished.Straight.{same_block}
use Rattle.clif_simulation.proofs.Whole.{Whole}

pending_same : (x y : ℕ) → pending x ≡ pending y → y ≡ x
pending_same x y h = cc

pending_no_born : (x n : ℕ) → pending x ≡ born n → ⊥
pending_no_born x n h = cc

not_both : (t : Bool) → t ≡ true → t ≡ false → ⊥
not_both t one other = cc

module _ (calls : List AnsweredCall) (f : Body) (s : SsaState) (consistent : IsConsistent f) (carries : Whole calls f s)
    (b : ℕ) (B : Name) (named : block_name calls b ≡ Some B) (unsealed : carries.tables.sealed b ≡ false) (arm : Arm) (target : arm.target ≡ front b)
    (bits old between : ℕ → ℕ) (names : Name → ℕ) (mine : List ℕ)
    (kept : (n : Name) → In n ((program_so_far calls).parameters B) → names n ≡ old (answered calls n))
    (is : (w : ℕ) → ((p : Pending) → In p (pending_of (sealed_of s b)) → p.param ≢ w)
    → between w ≡ assigned same_value (map (answered calls) ((program_so_far calls).parameters B)) mine old w)
  where
    abbrev program : Program
    program = (state_of carries.tables).program

    abbrev function : Function
    function = carries.tables.function

    abbrev live : ℕ → Type 0
    live = stands_for_itself carries.tables

    abbrev parameters : List Name
    parameters = (program_so_far calls).parameters B

    abbrev waiting : List Pending
    waiting = pending_of (sealed_of s b)

    abbrev pub after : Name → ℕ
    after = assigned same_name parameters mine names

    abbrev pub new : ℕ → ℕ
    new = values_entering waiting bits between

    defined_there : (n : Name) → In n parameters → function.definition (answered calls n) ≡ record { home = front b; kind = born (code n) }
    defined_there = IntoBlock.parameter_defined calls f s consistent carries b B named

    named_there : (n : Name) → In n parameters → carries.tables.naming (code n) ≡ record { home = front b; origin = fresh }
    named_there = IntoBlock.parameter_named calls f s consistent carries b B named

    param_waits : (p : Pending) → In p waiting → function.definition p.param ≡ record { home = front b; kind = pending p.variable }
    param_waits p there = (carries.describes.waiting b p (in_contained waiting p there)).defined

    waits_kind : (p : Pending) → In p waiting → (w : ℕ) (kind : Kind) → (function.definition w).kind ≡ kind → p.param ≡ w → pending p.variable ≡ kind
    waits_kind p there w kind of_w e =
        sym (ap (λ (d : Definition). d.kind) (param_waits p there)) ∙ ap (λ (v : ℕ). (function.definition v).kind) e ∙ of_w

    -- a value that waits at the front is among those that the block waits for
    waits_there : (w x : ℕ) → live w → (function.definition w).home ≡ front b → (function.definition w).kind ≡ pending x
        → Contains waiting (record { variable = x; param = w })
    waits_there w x is_live at kind = by (carries.describes.pends w x (sym (carries.describes.resolves w) ∙ is_live) kind)
      where
        by : ((c : ℕ) × Contains (pending_of (sealed_of s c)) (record { variable = x; param = w })) ⊎ Contains {X = Pending} [] (record { variable = x; param = w })
            → Contains (pending_of (sealed_of s b)) (record { variable = x; param = w })
        by (inl found) =
            let home : front found.0 ≡ front b =
            sym (ap (λ (d : Definition). d.home) (carries.describes.waiting found.0 (record { variable = x; param = w }) found.1).defined) ∙ at in
            subst (λ (c : ℕ). Contains (pending_of (sealed_of s c)) (record { variable = x; param = w })) (same_block home) found.1
        by (inr none) = absurd (nothing_contained {X = Pending} (record { variable = x; param = w }) none)

    -- what doesn't wait here has what it has before anything is interrupted
    stays_as : (w : ℕ) → ((p : Pending) → In p waiting → p.param ≢ w) → new w ≡ assigned same_value (map (answered calls) parameters) mine old w
    stays_as w none = waiting_leaves waiting bits between w none ∙ is w none

    gives : (n : Name) → In n parameters → after n ≡ new (answered calls n)
    gives n there =
        same_given (answered calls) parameters mine names old n (IntoBlock.parameters_apart calls f s consistent carries b B named) there (kept n there)
        ∙ sym (stays_as (answered calls n)
        (λ p here e. pending_no_born p.variable (code n)
        (waits_kind p here (answered calls n) (born (code n)) (ap (λ (d : Definition). d.kind) (defined_there n there)) e)))

    waits_bits : (w x : ℕ) → live w → (function.definition w).home ≡ front b → (function.definition w).kind ≡ pending x → new w ≡ bits x
    waits_bits w x is_live at kind =
        waiting_gets waiting bits between w x (λ p there e. pending_same x p.variable (sym (waits_kind p there w (pending x) kind e)))
        (contained_in waiting (record { variable = x; param = w }) (waits_there w x is_live at kind))

    kinds : (w : ℕ) → live w → (function.definition w).home ≡ front b → (kind : Kind) → (function.definition w).kind ≡ kind → HomeFits carries.tables w kind
        → IsAtFront function parameters (answered calls) bits new w
    kinds w is_live at unborn kind fits = absurd (not_start (front b) b 0 refl (sym at ∙ fits))
    kinds w is_live at (born n) kind fits = inl (IntoBlock.born_there calls f s consistent carries b B named w n at fits)
    kinds w is_live at (pending x) kind fits = inr (inl (x, kind, waits_bits w x is_live at kind))
    kinds w is_live at (complete x) kind fits =
        let here : fits.0 ≡ b = same_block (sym fits.1 ∙ at) in
        absurd (not_both (carries.tables.sealed b) (ap carries.tables.sealed (sym here) ∙ fits.2) unsealed)
    kinds w is_live at (zero_of x) kind fits = inr (inr (x, kind))

    pub opens_with : OpensWith live program function arm parameters (answered calls) names after bits old new
    opens_with = record {
      unsealed = ap (λ (p : Place). program.is_sealed p) target ∙ unsealed;
      unassigned = λ x. ap (λ (p : Place). carries.tables.assigned p x) target ∙ carries.program.front_assigns_nothing b x;
      named = λ n there. named_there n there ∙ ap (λ (p : Place). record { home = p; origin = fresh }) (sym target);
      defined = λ n there. defined_there n there ∙ ap (λ (p : Place). record { home = p; kind = born (code n) }) (sym target);
      only_names = λ n at. IntoBlock.only_parameters calls f s consistent carries b B named n (at ∙ target);
      gives = gives;
      names_stay = λ n elsewhere.
          name_keeps parameters mine names n
          (λ there. elsewhere (ap (λ naming. naming.home) (named_there n there) ∙ sym target));
      kinds = λ w is_live at. kinds w is_live (at ∙ target) (function.definition w).kind refl (carries.describes.homes w);
      others_stay = λ w elsewhere.
          stays_as w
          (λ p there e. elsewhere (ap (λ (v : ℕ). (function.definition v).home) (sym e) ∙ ap (λ (d : Definition). d.home) (param_waits p there) ∙ sym target))
          ∙ value_keeps (answered calls) parameters mine old w
          (λ n there e. elsewhere (ap (λ (v : ℕ). (function.definition v).home) e ∙ ap (λ (d : Definition). d.home) (defined_there n there) ∙ sym target));
      zeros_stay = λ w blank.
          stays_as w (λ p there e. subst IsBlank (sym (waits_kind p there w (function.definition w).kind refl e)) blank)
          ∙ value_keeps (answered calls) parameters mine old w
          (λ n there e.
          subst IsBlank (ap (λ (v : ℕ). (function.definition v).kind) e ∙ ap (λ (d : Definition). d.kind) (defined_there n there)) blank);
    }
