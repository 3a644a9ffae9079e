-- What a builder stands for as plain calls follow, and what names lead to then.
use Rattle.std.proofs.Common.{◌≡◌, ◌+◌, ℕ, suc, List, [], ◌∷◌, ◌++◌, length, refl, ◌∙◌, ap, subst, arith, append_assoc, Option, Some, None}
use Rattle.std.proofs.lemmas.List.{length-append, map-append}
use Rattle.clif_types.specs.Signature.{SignatureShape}
use Rattle.clif_types.specs.declared.types.«Type».{«Type»}
use Rattle.clif_meaning.specs.Ledger.{type_of, value_answer_type, answer_at}
use Rattle.clif_meaning.specs.Name.{Name}
use Rattle.clif_meaning.specs.Request.{AnsweredCall, Script, script_of}
use Rattle.clif_builder.specs.declared.builder.FunctionBuilder.{FunctionBuilder}
use Rattle.clif_builder.specs.Ledger.{NamesBlock, NamesValue, ledger_of}
use Rattle.clif_builder.specs.LedgerLaws.{LedgerIsReadByNumber}
use Rattle.clif_builder.specs.StandsFor.{StandsFor}
use Rattle.clif_builder.proofs.Lasting.{answer-stays, block-stays, value-stays}
use Rattle.clif_switch_calls.specs.SwitchCalls.{Switched}
use Rattle.clif_switch.specs.Emission.{StandsAt, StandsOn, next_place}

-- how many calls there are
pub as_many : (added : List AnsweredCall) → length (script_of added) ≡ length added
as_many [] = refl
as_many (call ∷ added) = ap suc (as_many added)

pub long : {X : Type 0} (xs ys : List X) → length (xs ++ ys) ≡ length xs + length ys
long xs ys = length-append xs ys

module _ {R : Type 0} (reads : LedgerIsReadByNumber) {signature : SignatureShape} {calls : List AnsweredCall} {s : Switched} {x otherwise : ℕ} {cases : List ℕ} {plain : Script} {old : FunctionBuilder R}
    (at : StandsAt signature calls s x otherwise cases plain old) where
  abbrev so_far : List AnsweredCall
  so_far = calls ++ at.added

  -- the place of the next call
  pub place_is : length so_far ≡ next_place calls plain
  place_is = let one = long calls at.added in let two = as_many at.added in let three = ap length at.asked in omega (arith, one, two, three)

  pub type_kept : (more : List AnsweredCall) (new : FunctionBuilder R) → StandsFor signature (so_far ++ more) new → (ty : «Type») → type_of (ledger_of so_far) s.value ≡ Some ty
      → type_of (ledger_of (so_far ++ more)) s.value ≡ Some ty
  type_kept more new stands ty is = by (answer_at (ledger_of so_far) s.value) refl is
    where
      by : (o : Option _) → answer_at (ledger_of so_far) s.value ≡ o → value_answer_type o ≡ Some ty → type_of (ledger_of (so_far ++ more)) s.value ≡ Some ty
      by None there h = let no_way : ⊥ = cc in absurd no_way
      by (Some a) there h = ap value_answer_type (answer-stays reads so_far more old new at.stands stands s.value a there) ∙ h

  -- some calls more
  unfoldable pub stands_behind : (more : List AnsweredCall) (asked : Script) (new : FunctionBuilder R) → script_of more ≡ asked → StandsFor signature (so_far ++ more) new → StandsOn at asked new
  stands_behind more asked new is stands = record {
    later = record {
      added = at.added ++ more;
      asked = map-append (λ (call : AnsweredCall). call.request) at.added more ∙ ap (λ (script : Script). script ++ script_of more) at.asked ∙ ap (λ (script : Script). plain ++ script) is;
      stands = subst (λ (list : List AnsweredCall). StandsFor signature list new) joined stands;
      value = value_on s.value x at.value;
      typed = subst (λ (list : List AnsweredCall). type_of (ledger_of list) s.value ≡ Some s.ty) joined (type_kept more new stands s.ty at.typed);
      otherwise_named = block_on s.otherwise otherwise at.otherwise_named;
      cases_named = λ block is_case. block_on (s.named block) block (at.cases_named block is_case);
    };
    blocks_stay = block_on;
    values_stay = value_on;
  }
    where
      joined : so_far ++ more ≡ calls ++ (at.added ++ more)
      joined = append_assoc calls at.added more

      block_on : (name : Name) (block : ℕ) → NamesBlock so_far name block → NamesBlock (calls ++ (at.added ++ more)) name block
      block_on name block names = subst (λ (list : List AnsweredCall). NamesBlock list name block) joined (block-stays reads so_far more old new at.stands stands name block names)

      value_on : (name : Name) (value : ℕ) → NamesValue so_far name value → NamesValue (calls ++ (at.added ++ more)) name value
      value_on name value names = subst (λ (list : List AnsweredCall). NamesValue list name value) joined (value-stays reads so_far more old new at.stands stands name value names)

-- calls behind calls
abbrev pub on_then : {R : Type 0} {signature : SignatureShape} {calls : List AnsweredCall} {s : Switched} {x otherwise : ℕ} {cases : List ℕ} {plain : Script} {old mid : FunctionBuilder R}
    (at : StandsAt signature calls s x otherwise cases plain old) (first next : Script) (new : FunctionBuilder R) (on : StandsOn at first mid) → StandsOn on.later next new → StandsOn at (first ++ next) new
on_then {signature} {calls} {s} {x} {otherwise} {cases} {plain} {old} {mid} at first next new on behind = record {
  later = record {
    added = behind.later.added;
    asked = behind.later.asked ∙ append_assoc plain first next;
    stands = behind.later.stands;
    value = behind.later.value;
    typed = behind.later.typed;
    otherwise_named = behind.later.otherwise_named;
    cases_named = behind.later.cases_named;
  };
  blocks_stay = λ name block names. behind.blocks_stay name block (on.blocks_stay name block names);
  values_stay = λ name value names. behind.values_stay name value (on.values_stay name value names);
}
