-- The test of a node: blocks for other nodes, and the branch behind them.
use Rattle.std.proofs.Common.{◌≡◌, ◌<◌, ◌≤◌, ℕ, suc, List, [], ◌∷◌, ◌++◌, length, sym, ◌∙◌, ap, subst, arith, append_assoc, append-nil, None}
use Rattle.std.specs.Prelude.{Result, Ok, Err, OnOk, replicate, slice_index_or}
use Rattle.std.specs.List.{AllZip}
use Rattle.std.proofs.lemmas.List.Elements.{All-push}
use Rattle.std.proofs.lemmas.List.Quantifiers.{all_pairs_push}
use Rattle.clif_types.specs.Signature.{SignatureShape}
use Rattle.clif_types.specs.declared.error.BuildError.{BuildError}
use Rattle.clif_types.specs.declared.types.«Type».TheVariants as type
use Rattle.clif_inst_builder.specs.Shapes as shapes
use Rattle.clif_meaning.specs.Acceptance.{jump}
use Rattle.clif_meaning.specs.Name.{Name}
use Rattle.clif_meaning.specs.Request.{AnsweredCall, Build, Request, Script}
use Rattle.clif_builder.specs.declared.builder.FunctionBuilder.{FunctionBuilder}
use Rattle.clif_builder.specs.Builder.{HasCurrent}
use Rattle.clif_builder.specs.Built.{Builds, numbers_of}
use Rattle.clif_builder.specs.Calls.{answered}
use Rattle.clif_builder.specs.Ledger.{NamesBlock}
use Rattle.clif_builder.specs.LedgerLaws.{LedgerIsReadByNumber, RequestsAskForTheirShapes}
use Rattle.clif_switch_calls.specs.SwitchCalls.{Switched, bare_edge}
use Rattle.clif_switch.specs.Emission.{AddsBlocks, EndsBlock, IsOpenFor, LeavesBlocks, StandsAt, StandsOn}
use Rattle.clif_switch.proofs.Blocks.{elsewhere, ends_failed, open_on}
use Rattle.clif_switch.proofs.Names.{long, on_then, stands_behind}
use Rattle.clif_switch.proofs.Numbers.{asks_here}
use Rattle.clif_switch.proofs.Steps.{leaves_on, steps_on}
use Rattle.clif_switch.proofs.Targets.{zip_on}
use Rattle.clif_switch.proofs.Values.{Went}

-- ENDS --------------------------------------------------------------------------------------------------------------------

-- a block ends behind a line
pub ends_behind : {R : Type 0} (count : ℕ) (old mid new : FunctionBuilder R) (answer : Result (Unit {0}) BuildError) → Went old mid → EndsBlock {A = Unit {0}} count mid new answer → EndsBlock {A = Unit {0}} count old new answer
ends_behind count old mid new (Ok a) went ends = record {
  steps = steps_on old mid new (tt {0}) (Ok a) went.steps ends.steps;
  leaves = leaves_on old mid new went.steps.grows.2 went.leaves ends.leaves;
  tables = ends.tables ∙ ap (λ tables. tables ++ replicate count None) went.tables;
  left = ends.left;
  free = ends.free;
}
ends_behind count old mid new (Err e) went ends = ends_failed count old new e (steps_on old mid new (tt {0}) (Err e) went.steps ends.steps)

-- NEW BLOCKS --------------------------------------------------------------------------------------------------------------

-- blocks stay open while none of them is the current one
pub adds_later : {R : Type 0} (count : ℕ) (old mid new : FunctionBuilder R) (before after : List ℕ) → length mid.func.now.blocks ≤ length new.func.now.blocks → LeavesBlocks mid new → HasCurrent old
    → mid.position ≡ old.position → AddsBlocks count old mid before after → AddsBlocks count old new before after
adds_later count old mid new before after more leaves current same adds = record {
  made = adds.made;
  is = adds.is;
  many = adds.many;
  are_open = λ k d inside. open_on mid new (slice_index_or adds.made k d) more leaves
      (λ is. elsewhere old (slice_index_or adds.made k d) current (adds.behind k d inside) (sym same ∙ is)) (adds.are_open k d inside);
  behind = adds.behind;
  rising = adds.rising;
}

-- behind the end of the current block
pub adds_ended : {R : Type 0} (count tables : ℕ) (old mid new : FunctionBuilder R) (before after : List ℕ) (answer : Result (Unit {0}) BuildError) → HasCurrent old → Went old mid
    → EndsBlock {A = Unit {0}} tables mid new answer → AddsBlocks count old mid before after → OnOk answer (AddsBlocks count old new before after)
adds_ended count tables old mid new before after (Ok a) current went ends adds = adds_later count old mid new before after ends.steps.grows.2 ends.leaves current went.position adds
adds_ended count tables old mid new before after (Err e) current went ends adds = tt

-- one block more
pub adds_push : {R : Type 0} (count whole : ℕ) (old mid new : FunctionBuilder R) (before after later : List ℕ) (block : ℕ) → HasCurrent old → Went old mid → Went mid new → AddsBlocks count old mid before after
    → IsOpenFor new block → block ≡ length mid.func.now.blocks → later ≡ after ++ block ∷ [] → whole ≡ suc count → AddsBlocks whole old new before later
unfolding adds_later
adds_push count whole old mid new before after later block current first next adds is_open number is one_more =
    let kept = adds_later count old mid new before after next.steps.grows.2 next.leaves current first.position adds in
    record {
      made = adds.made ++ block ∷ [];
      is = is ∙ ap (λ (list : List ℕ). list ++ block ∷ []) adds.is ∙ append_assoc before adds.made (block ∷ []);
      many = let one = long adds.made (block ∷ []) in let many = adds.many in omega (arith, one, many, one_more);
      are_open = All-push (IsOpenFor new) adds.made block kept.are_open is_open;
      behind = All-push (λ b. length old.func.now.blocks ≤ b) adds.made block adds.behind (let more = first.steps.grows.2 in omega (arith, more, number));
      rising = all_pairs_push (λ a b. a < b) adds.made block adds.rising (λ k d inside. let exists = (adds.are_open k d inside).leads.exists in omega (arith, exists, number));
    }

-- CALLS -------------------------------------------------------------------------------------------------------------------

module _ {R : Type 0} {signature : SignatureShape} {calls : List AnsweredCall} {s : Switched} {x otherwise : ℕ} {cases : List ℕ} {plain : Script} {old : FunctionBuilder R}
    (at : StandsAt signature calls s x otherwise cases plain old) where
  -- the blocks of nodes are named as before
  pub names_after : (more : Script) (new : FunctionBuilder R) (names : List Name) (blocks : List ℕ) (answer : Result (Unit {0}) BuildError) → AllZip (NamesBlock (calls ++ at.added)) names blocks
      → OnOk answer (StandsOn at more new) → OnOk answer ((on : StandsOn at more new) × AllZip (NamesBlock (calls ++ on.later.added)) names blocks)
  names_after more new names blocks (Err e) zip on = tt
  names_after more new names blocks (Ok a) zip on = (on, zip_on (NamesBlock (calls ++ at.added)) (NamesBlock (calls ++ on.later.added)) on.blocks_stay names blocks zip)

  -- where no block is made
  pub same_after : (more : Script) (new : FunctionBuilder R) (names : List Name) (blocks : List ℕ) (answer : Result (Unit {0}) BuildError) → AllZip (NamesBlock (calls ++ at.added)) names blocks
      → OnOk answer (StandsOn at more new) → OnOk answer ((on : StandsOn at more new) × AllZip (NamesBlock (calls ++ on.later.added)) (names ++ []) blocks)
  same_after more new names blocks answer zip on =
      names_after more new (names ++ []) blocks answer (subst (λ (list : List Name). AllZip (NamesBlock (calls ++ at.added)) list blocks) (sym (append-nil names)) zip) on

  -- behind other calls
  pub names_then : (first next : Script) (mid new : FunctionBuilder R) (names : List Name) (blocks : List ℕ) (answer : Result (Unit {0}) BuildError) → (on : StandsOn at first mid)
      → OnOk answer ((more : StandsOn on.later next new) × AllZip (NamesBlock (calls ++ more.later.added)) names blocks)
      → OnOk answer ((whole : StandsOn at (first ++ next) new) × AllZip (NamesBlock (calls ++ whole.later.added)) names blocks)
  names_then first next mid new names blocks (Err e) on more = tt
  names_then first next mid new names blocks (Ok a) on more = (on_then at first next new on more.0, more.1)

  -- a jump to a block
  pub jump_made : (reads : LedgerIsReadByNumber) (asks : RequestsAskForTheirShapes) (new : FunctionBuilder R) (name : Name) (block inst : ℕ) → NamesBlock (calls ++ at.added) name block
      → Builds old new (shapes.jump block []) type.Invalid (Ok inst) → StandsOn at (jump (bare_edge name) ∷ []) new
  jump_made reads asks new name block inst named builds =
      let asked = (asks_here reads asks at).jump (bare_edge name) block [] (record { target = named; arguments = tt }) in
      stands_behind reads at (answered (Build asked.0 asked.1) (numbers_of new inst) ∷ []) (jump (bare_edge name) ∷ []) new
      (ap (λ (r : Request). r ∷ []) (sym asked.2)) (builds.stands signature (calls ++ at.added) asked.0 asked.1 at.stands asked.3)
