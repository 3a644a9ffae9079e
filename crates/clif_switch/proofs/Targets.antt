-- Names of the blocks that are made for nodes.
use Rattle.std.proofs.Common.{◌≡◌, ◌<◌, ℕ, true, false, List, [], ◌∷◌, ◌++◌, sym, subst, arith, append-nil}
use Rattle.std.proofs.lemmas.Grind.{common_steps}
use Rattle.std.specs.Prelude.{◌==◌, nat_lt, Result, Ok, Err, IfOk}
use Rattle.std.specs.List.{AllZip}
use Rattle.clif_types.specs.Signature.{SignatureShape}
use Rattle.clif_types.specs.declared.error.BuildError.{BuildError}
use Rattle.clif_meaning.specs.Name.{Name, answer_of}
use Rattle.clif_meaning.specs.Request.{AnsweredCall, CreateBlock, Script}
use Rattle.clif_builder.specs.declared.builder.FunctionBuilder.{FunctionBuilder}
use Rattle.clif_builder.specs.Ledger.{NamesBlock}
use Rattle.clif_switch_calls.specs.SwitchCalls.{Switched}
use Rattle.clif_switch.specs.Emission.{NamesTarget, StandsAt, next_place}
use Rattle.clif_switch.proofs.Differences.{on_none}

-- LISTS OF NAMES ----------------------------------------------------------------------------------------------------------

pub zip_on : {A B : Type 0} (P Q : A → B → Type 0) → ((a : A) (b : B) → P a b → Q a b) → (xs : List A) (ys : List B) → AllZip P xs ys → AllZip Q xs ys
zip_on P Q on [] [] zip = tt
zip_on P Q on [] (y ∷ ys) zip = zip
zip_on P Q on (x ∷ xs) [] zip = zip
zip_on P Q on (x ∷ xs) (y ∷ ys) zip = (on x y zip.0, zip_on P Q on xs ys zip.1)

pub zip_push : {A B : Type 0} (P : A → B → Type 0) (xs : List A) (ys : List B) (x : A) (y : B) → AllZip P xs ys → P x y → AllZip P (xs ++ x ∷ []) (ys ++ y ∷ [])
zip_push P [] [] x y zip last = (last, tt)
zip_push P [] (b ∷ ys) x y zip last = absurd zip
zip_push P (a ∷ xs) [] x y zip last = absurd zip
zip_push P (a ∷ xs) (b ∷ ys) x y zip last = (zip.0, zip_push P xs ys x y zip.1 last)

-- THE NEXT BLOCK ----------------------------------------------------------------------------------------------------------

module _ {R : Type 0} {signature : SignatureShape} {calls : List AnsweredCall} {s : Switched} {x otherwise : ℕ} {cases : List ℕ} {plain : Script} {old : FunctionBuilder R}
    (at : StandsAt signature calls s x otherwise cases plain old) (names : List Name) (before : List ℕ) (zip : AllZip (NamesBlock (calls ++ at.added)) names before) where
  -- control goes to `otherwise`
  pub next_none : (target : NamesTarget at [] old s.otherwise otherwise) × AllZip (NamesBlock (calls ++ target.on.later.added)) (names ++ []) before
  unfolding on_none
  next_none = (
    record { on = on_none at; named = at.otherwise_named },
    subst (λ (list : List Name). AllZip (NamesBlock (calls ++ at.added)) list before) (sym (append-nil names)) zip,
  )

  -- the names of blocks behind a new one
  pub zip_more : (more : Script) (new : FunctionBuilder R) (name : Name) (block : ℕ) (after : List ℕ) → (target : NamesTarget at more new name block) → after ≡ before ++ block ∷ []
      → AllZip (NamesBlock (calls ++ target.on.later.added)) (names ++ name ∷ []) after
  zip_more more new name block after target is =
      subst (AllZip (NamesBlock (calls ++ target.on.later.added)) (names ++ name ∷ [])) (sym is)
      (zip_push (NamesBlock (calls ++ target.on.later.added)) names before name block
      (zip_on (NamesBlock (calls ++ at.added)) (NamesBlock (calls ++ target.on.later.added)) target.on.blocks_stay names before zip) target.named)

  -- control goes to a new block
  pub next_made : (new : FunctionBuilder R) (after : List ℕ) (answer : Result ℕ BuildError) → IfOk answer (λ block. after ≡ before ++ block ∷ [])
      → IfOk answer (NamesTarget at (CreateBlock ∷ []) new (answer_of (next_place calls plain) 0))
      → IfOk answer (λ block. (target : NamesTarget at (CreateBlock ∷ []) new (answer_of (next_place calls plain) 0) block)
      × AllZip (NamesBlock (calls ++ target.on.later.added)) (names ++ answer_of (next_place calls plain) 0 ∷ []) after)
  next_made new after (Err e) is target = tt
  next_made new after (Ok block) is target = (target, zip_more (CreateBlock ∷ []) new (answer_of (next_place calls plain) 0) block after target is)

-- WIDTHS ------------------------------------------------------------------------------------------------------------------

pub wide_is : (w r n : ℕ) → w ≡ n → r ≡ n → 32 < r → (nat_lt 32 w ≡ true) × ((w == 32) ≡ false)
wide_is w r n same is less = (grind (arith, common_steps, same, is, less), grind (arith, common_steps, same, is, less))
