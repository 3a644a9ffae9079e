use Rattle.std.proofs.Common.{◌≡◌, inl, inr, ap, sym, ◌∙◌}
use Rattle.std.specs.Prelude.{Ok, Err, Result, get_or}
use Rattle.std.specs.FinMap as finite
use Rattle.std.proofs.lemmas.Bool.{false_from_ne_true}
use Rattle.clif_types.specs.declared.error.BuildError.TheVariants.{Memory}
use Rattle.clif_ranges.specs.declared.error.SwitchError.{SwitchError}
use Rattle.clif_ranges.specs.declared.error.SwitchError.TheVariants as switch_error
use Rattle.clif_calls.specs.declared.switch.SwitchEntry.{SwitchEntry}
use Rattle.clif_resolution.specs.declared.condition.Condition.TheVariants as condition
use Rattle.clif_replay.specs.Cases.{switch_told}
use Rattle.clif_replay.proofs.SetEntries.{set-more, set-twice}
use Rattle.clif_replay.proofs.make_switch.switch_of.Goals as goal

abbrev none : SwitchEntry
none = record { key = 0; block = record { place = 0; answer = 0 } }

no-error : (e : SwitchError) → ◌≡◌ {A = Result (Unit {0}) SwitchError} (Ok tt) (Err e) → ⊥
no-error e same = cc

same-error : (e y : SwitchError) → ◌≡◌ {A = Result (Unit {0}) SwitchError} (Err e) (Err y) → e ≡ y
same-error e y same = cc

pub loop-entry-preserved : goal.loop-entry-preserved
loop-entry-preserved g c =
    let entry : SwitchEntry = get_or c.args.entries.now c.loop-entry.entry-index none in
    let fresh = false_from_ne_true (finite.contains_key c.loop-entry.switch entry.key) (λ there.
    no-error (switch_error.SetTwice entry.key) (c.in_default-set_entry.ensures.twice.1 there)) in
    let made = set-more c.args.answers.now c.args.entries.now c.loop-entry.entry-index none c.loop-entry-test.true c.loop-entry.switch c.loop-entry.invariant.cases
    c.in-Some.block c.set_entry.new.self c.loop-entry.invariant.once (sym c.block_named.ensures ∙ c.in-Some.is) fresh c.in_default-set_entry.ensures.ok in
    record { cases = made.0; once = made.1 }

pub returns-in-Err-clause-err : goal.returns-in-Err-clause-err
returns-in-Err-clause-err g c =
    let entry : SwitchEntry = get_or c.args.entries.now c.loop-entry.entry-index none in
    elim c.in-Err.ensures.only [
      | inl twice ↦
          inl (
            condition.KeyTwice entry.key,
            c.told.ensures ∙ ap switch_told (same-error c.in-Err.error (switch_error.SetTwice entry.key) twice),
            set-twice c.args.answers.now c.args.entries.now c.loop-entry.entry-index none c.loop-entry-test.true c.loop-entry.switch c.loop-entry.invariant.cases (c.in-Err.ensures.twice.0 twice),
          )
      | inr memory ↦ inr (c.told.ensures ∙ ap switch_told (same-error c.in-Err.error (switch_error.Build Memory) memory))
    ]
