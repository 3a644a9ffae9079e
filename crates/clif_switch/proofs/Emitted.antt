-- Nodes that were emitted, and those that follow.
use Rattle.std.proofs.Common.{◌≡◌, ◌<◌, ◌≤◌, ◌+◌, ℕ, zero, suc, List, [], ◌∷◌, ◌++◌, drop, drop_of_length-le, length, replicate, take, refl, sym, ◌∙◌, ap, subst, arith, append_assoc, append-nil, Some, None}
use Rattle.std.proofs.Math.Seq.{drop-cons}
use Rattle.std.proofs.lemmas.List.{get_or_default, length-append, replicate-append-replicate, take_all}
use Rattle.std.specs.Prelude.{◌≢◌, ◌-◌, Contains, All, Result, Ok, Err, reverse, slice_index_or}
use Rattle.std.specs.Result.{IsErrAnd}
use Rattle.std.specs.List.{AllByRecursion, AllZip}
use Rattle.clif_types.specs.Signature.{SignatureShape}
use Rattle.clif_types.specs.declared.error.BuildError.{BuildError}
use Rattle.clif_types.specs.declared.error.BuildError.TheVariants.{Memory}
use Rattle.clif_ranges.specs.declared.search.Node.{Node}
use Rattle.clif_ranges.specs.Search.{AreInOrder, named_by}
use Rattle.clif_meaning.specs.Name.{Name, answer_of}
use Rattle.clif_meaning.specs.Request.{AnsweredCall, SealBlock, SwitchToBlock, Script}
use Rattle.clif_builder.specs.declared.builder.FunctionBuilder.{FunctionBuilder}
use Rattle.clif_meaning.specs.Sizes.{Table, entries_in}
use Rattle.clif_builder.specs.Adding.{AddsAtMost}
use Rattle.clif_builder.specs.Ledger.{NamesBlock}
use Rattle.clif_builder.proofs.Adding.{adds_err}
use Rattle.clif_switch_calls.specs.SwitchCalls.{Switched, blocks_of, blocks_with, entering, node_calls, nodes_calls, tables_of, test_calls}
use Rattle.clif_switch_calls.specs.SwitchSizes.{nodes_make, so_many, test_makes}
use Rattle.clif_switch_calls.proofs.Sized.{none_many}
use Rattle.clif_switch.specs.Emission.{AddsBlocks, EndsBlock, HasItsBlock, IsEntered, IsOpenFor, IsSwitchedIn, LeavesBlocks, MakesEntry, MakesNodes, MakesTest, MayLead, ServesMore, StandsAt, StandsOn, Steps, cases_in, next_place, tables_at, tables_in}
use Rattle.clif_switch.specs.declared.emission.SwitchedValue.{SwitchedValue}
use Rattle.clif_switch.proofs.Blocks.{ends_failed, some_same}
use Rattle.clif_switch.proofs.Counting.{made_tested, tables_grow}
use Rattle.clif_switch.proofs.Names.{on_then}
use Rattle.clif_switch.proofs.Targets.{zip_on}
use Rattle.clif_switch.proofs.Nodes.{IsReady, Waits, apart, block_at, waits_entered, waits_tested}
use Rattle.clif_switch.proofs.Steps.{leaves_on, may_lead_on, steps_on}
use Rattle.clif_switch.proofs.Values.{done}

-- what the builder stands for between two nodes
pub record Between {R : Type 0} {signature : SignatureShape} {calls : List AnsweredCall} {s : Switched} {x otherwise : ℕ} {cases : List ℕ} {plain : Script} {old : FunctionBuilder R}
    (at : StandsAt signature calls s x otherwise cases plain old) (nodes rest : List Node) (blocks : List ℕ) (new : FunctionBuilder R) : Type 0 where
  pub first : Script
  pub on : StandsOn at first new
  pub names : List Name
  pub named : AllZip (NamesBlock (calls ++ on.later.added)) names blocks
  pub calls_are : nodes_calls s [] (tables_at at) nodes (next_place calls plain) ≡ first ++ nodes_calls s names (tables_at on.later) rest (next_place calls (plain ++ first))
  pub contained : AllByRecursion (λ (node : Node). All (Contains cases) (cases_in node.test)) rest

-- Some nodes were emitted, and these are left.
pub record Emitted {R : Type 0} (switched : SwitchedValue) (nodes rest : List Node) (old new : FunctionBuilder R) (blocks : List ℕ) : Type 0 where
  pub count : ℕ
  pub counted : count + tables_in rest ≡ tables_in nodes
  pub ends : EndsBlock {A = Unit {0}} count old new done
  pub most : (table : Table) → entries_in new.func.now table + nodes_make rest table ≤ entries_in old.func.now table + nodes_make nodes table
  pub waiting : List ℕ
  pub order : AreInOrder waiting (suc (length blocks)) rest
  pub waits : Waits (length old.func.now.blocks) (suc (length blocks)) new blocks waiting
  pub leads : AllByRecursion (λ (node : Node). All (MayLead old) (cases_in node.test)) rest
  pub filled : AllByRecursion (λ (node : Node). HasItsBlock node.test) rest
  pub made : (signature : SignatureShape) (calls : List AnsweredCall) (s : Switched) (cases : List ℕ) (plain : Script)
      (at : StandsAt signature calls s switched.val switched.otherwise cases plain old) → AllByRecursion (λ (node : Node). All (Contains cases) (cases_in node.test)) nodes
      → Between at nodes rest blocks new

no_memory : ◌≡◌ {A = Result (Unit {0}) BuildError} (Ok tt) (Err Memory) → ⊥
no_memory same = cc

-- STEPS -------------------------------------------------------------------------------------------------------------------

-- a failure behind steps
pub fails_then : {A : Type 0} {R : Type 0} (count : ℕ) (old mid new : FunctionBuilder R) (r : Result A BuildError) (e : BuildError) → Steps old mid done → Steps {A = A} mid new (Err e) → IsErrAnd r (λ y. y ≡ e)
    → EndsBlock {A = A} count old new r
fails_then {A} count old mid new (Ok a) e steps failed is = absurd is
fails_then {A} count old mid new (Err y) e steps failed is =
    subst (λ (error : BuildError). EndsBlock {A = A} count old new (Err error)) (sym is) (ends_failed count old new e (steps_on old mid new (tt {0}) (Err e) steps failed))

-- what is switched on stays, whatever block is the current one
pub switched_stays : {R : Type 0} (old mid : FunctionBuilder R) (switched : SwitchedValue) → Steps old mid done → LeavesBlocks old mid → IsSwitchedIn old switched → IsSwitchedIn mid switched
switched_stays old mid switched steps leaves is = record {
  exists = let more = steps.grows.0 in let here = is.exists in omega (arith, more, here);
  typed = steps.types switched.val is.exists ∙ is.typed;
  integer = is.integer;
  otherwise = may_lead_on old mid switched.otherwise steps.grows.2 leaves is.otherwise;
}

pub all_lead : {R : Type 0} (old mid : FunctionBuilder R) (blocks : List ℕ) → Steps old mid done → LeavesBlocks old mid → All (MayLead old) blocks → All (MayLead mid) blocks
all_lead old mid blocks steps leaves lead k d inside = may_lead_on old mid (slice_index_or blocks k d) steps.grows.2 leaves (lead k d inside)

-- code behind code
pub ends_behind : {R : Type 0} (first next : ℕ) (old mid new : FunctionBuilder R) → Steps old mid done → LeavesBlocks old mid → ServesMore first old mid → EndsBlock {A = Unit {0}} next mid new done
    → EndsBlock {A = Unit {0}} (first + next) old new done
ends_behind first next old mid new steps leaves tables ends = record {
  steps = steps_on old mid new (tt {0}) done steps ends.steps;
  leaves = leaves_on old mid new steps.grows.2 leaves ends.leaves;
  tables = ends.tables ∙ ap (λ tables. tables ++ replicate next None) tables ∙ append_assoc old.func.now.tables.jump_tables (replicate first None) (replicate next None)
      ∙ ap (λ tables. old.func.now.tables.jump_tables ++ tables) (replicate-append-replicate first next None);
  left = ends.left;
  free = ends.free;
}

-- CALLS -------------------------------------------------------------------------------------------------------------------

pub place_more : (calls : List AnsweredCall) (plain more : Script) → next_place calls (plain ++ more) ≡ next_place calls plain + length more
place_more calls plain more = let both = length-append plain more in omega (arith, both)

-- the calls of one node more
calls_next : (s : Switched) (names : List Name) (node : Node) (rest : List Node) (tables place : ℕ) (entry : Script) (tables' place' tables'' place'' : ℕ) → entering names node.number ≡ entry → tables' ≡ tables
    → place' ≡ place + length entry → tables'' ≡ tables' + tables_of node.test → place'' ≡ place' + length (test_calls s tables' node.test place')
    → nodes_calls s names tables (node ∷ rest) place ≡ (entry ++ test_calls s tables' node.test place') ++ nodes_calls s (names ++ blocks_of node.test place') tables'' rest place''
calls_next s names node rest tables place entry tables' place' tables'' place'' enters same there more behind =
    let one : (tables + tables_of node.test) ≡ tables'' = sym (more ∙ ap (λ (n : ℕ). n + tables_of node.test) same) in
    let two : place + length (entering names node.number) ≡ place' = ap (λ (script : Script). place + length script) enters ∙ sym there in
    let three : test_calls s tables node.test (place + length (entering names node.number)) ≡ test_calls s tables' node.test place' =
    ap (λ (n : ℕ). test_calls s n node.test (place + length (entering names node.number))) (sym same) ∙ ap (λ (p : ℕ). test_calls s tables' node.test p) two in
    let four : node_calls s names tables node place ≡ entry ++ test_calls s tables' node.test place' =
    ap (λ (script : Script). script ++ test_calls s tables node.test (place + length (entering names node.number))) enters ∙ ap (λ (script : Script). entry ++ script) three in
    let five : place + length (node_calls s names tables node place) ≡ place'' =
    ap (λ (script : Script). place + length script) four ∙ (let both = length-append entry (test_calls s tables' node.test place') in omega (arith, both, there, behind)) in
    ap (λ (script : Script). script ++ nodes_calls s (blocks_with names node place) (tables + tables_of node.test) rest (place + length (node_calls s names tables node place))) four
    ∙ ap (λ (p : ℕ). (entry ++ test_calls s tables' node.test place') ++ nodes_calls s (names ++ blocks_of node.test p) (tables + tables_of node.test) rest (place + length (node_calls s names tables node place))) two
    ∙ ap (λ (n : ℕ). (entry ++ test_calls s tables' node.test place') ++ nodes_calls s (names ++ blocks_of node.test place') n rest (place + length (node_calls s names tables node place))) one
    ∙ ap (λ (p : ℕ). (entry ++ test_calls s tables' node.test place') ++ nodes_calls s (names ++ blocks_of node.test place') tables'' rest p) five

-- the name of the block that is entered
entered_named : (P : Name → ℕ → Type 0) (names : List Name) (blocks : List ℕ) (k : ℕ) (d : Name) → AllZip P names blocks → k < length blocks → P (slice_index_or names k d) (slice_index_or blocks k 0)
entered_named P names [] k d zip inside = absurd (omega (arith, inside))
entered_named P [] (block ∷ blocks) k d zip inside = absurd zip
entered_named P (name ∷ names) (block ∷ blocks) zero d zip inside = zip.0
entered_named P (name ∷ names) (block ∷ blocks) (suc k) d zip inside = entered_named P names blocks k d zip.1 (omega (arith, inside))

-- THE NEXT NODE -----------------------------------------------------------------------------------------------------------

module _ {R : Type 0} (switched : SwitchedValue) (nodes rest : List Node) (node : Node) (old new : FunctionBuilder R) (blocks : List ℕ) (state : Emitted switched nodes (node ∷ rest) old new blocks) where
  -- it has its block
  waits_next : Waits (length old.func.now.blocks) (suc (length blocks)) new blocks (node.number ∷ state.order.0)
  waits_next = subst (Waits (length old.func.now.blocks) (suc (length blocks)) new blocks) state.order.1 state.waits

  pub ready_next : IsReady new blocks node.number
  ready_next = waits_next.ready.0

  behind_next : length old.func.now.blocks ≤ block_at blocks node.number
  behind_next = waits_next.behind (node.number - 1) 0 ready_next.inside

  -- its block was entered
  module _ (mid : FunctionBuilder R) (steps : Steps new mid done) (entered : IsEntered (block_at blocks node.number) new mid) where
    pub steps_entered : Steps old mid done
    steps_entered = steps_on old new mid (tt {0}) done state.ends.steps steps

    pub leaves_entered : LeavesBlocks old mid
    leaves_entered = record {
      seals = λ block inside. entered.seals block (λ same. let later = behind_next in omega (arith, later, same, inside)) ∙ state.ends.leaves.seals block inside;
      waits = λ block inside. entered.waits block (λ same. let later = behind_next in omega (arith, later, same, inside)) ∙ state.ends.leaves.waits block inside;
      fills = λ block inside other filled. state.ends.leaves.fills block inside other (entered.fills block filled);
      position = λ block inside here. let same = some_same block (block_at blocks node.number) (sym here ∙ entered.position) in let later = behind_next in absurd (omega (arith, later, same, inside));
    }

    -- and its test was emitted
    module _ (last : FunctionBuilder R) (after : List ℕ) (ends : EndsBlock {A = Unit {0}} (tables_of node.test) mid last done) (adds : AddsBlocks (length (named_by node.test)) mid last blocks after)
        (enters : MakesEntry (block_at blocks node.number) new mid done) (makes : MakesTest switched node.test mid last blocks after done) (entry_adds : AddsAtMost (so_many 0 0 0 0) new mid done)
        (test_adds : AddsAtMost (test_makes node.test) mid last done) where
      between_on : {signature : SignatureShape} {calls : List AnsweredCall} {s : Switched} {cases : List ℕ} {plain : Script} (at : StandsAt signature calls s switched.val switched.otherwise cases plain old)
          → Between at nodes (node ∷ rest) blocks new → Between at nodes rest after last
      between_on {signature} {calls} {s} {cases} {plain} at so_far =
          let d : Name = answer_of 0 0 in
          let name : Name = slice_index_or so_far.names (node.number - 1) d in
          let entry : Script = SealBlock name ∷ SwitchToBlock name ∷ [] in
          let named : NamesBlock (calls ++ so_far.on.later.added) name (block_at blocks node.number) =
          entered_named (NamesBlock (calls ++ so_far.on.later.added)) so_far.names blocks (node.number - 1) d so_far.named ready_next.inside in
          let one : StandsOn so_far.on.later entry mid = enters signature calls s switched.val switched.otherwise cases (plain ++ so_far.first) so_far.on.later name named in
          let place' : ℕ = next_place calls ((plain ++ so_far.first) ++ entry) in
          let code : Script = test_calls s (tables_at one.later) node.test place' in
          let two = makes signature calls s cases ((plain ++ so_far.first) ++ entry) one.later so_far.names so_far.contained.0
          (zip_on (NamesBlock (calls ++ so_far.on.later.added)) (NamesBlock (calls ++ one.later.added)) one.blocks_stay so_far.names blocks so_far.named) in
          let both : StandsOn so_far.on.later (entry ++ code) last = on_then so_far.on.later entry code last one two.0 in
          record {
            first = so_far.first ++ (entry ++ code);
            on = on_then at so_far.first (entry ++ code) last so_far.on both;
            names = so_far.names ++ blocks_of node.test place';
            named = two.1;
            calls_are = so_far.calls_are ∙ ap (λ (script : Script). so_far.first ++ script)
                (calls_next s so_far.names node rest (tables_at so_far.on.later) (next_place calls (plain ++ so_far.first)) entry (tables_at one.later) place' (tables_at two.0.later) (next_place calls (plain ++ (so_far.first ++ (entry ++ code))))
                (entry_is so_far.names node.number ready_next.some)
                (let none = tables_grow so_far.on.later entry mid one in omega (arith, none))
                (place_more calls (plain ++ so_far.first) entry)
                (tables_grow one.later code last two.0 ∙ ap (λ (n : ℕ). tables_at one.later + n) (made_tested s (tables_at one.later) node.test place'))
                (let a = place_more calls plain (so_far.first ++ (entry ++ code)) in let b = place_more calls plain so_far.first in let c = place_more calls (plain ++ so_far.first) entry in
                let e = length-append so_far.first (entry ++ code) in let f = length-append entry code in omega (arith, a, b, c, e, f)))
                ∙ sym (append_assoc so_far.first (entry ++ code) (nodes_calls s (so_far.names ++ blocks_of node.test place') (tables_at two.0.later) rest (next_place calls (plain ++ (so_far.first ++ (entry ++ code))))));
            contained = so_far.contained.1;
          }
        where
          entry_is : (names : List Name) (number : ℕ) → 0 < number
              → entering names number ≡ SealBlock (slice_index_or names (number - 1) (answer_of 0 0)) ∷ SwitchToBlock (slice_index_or names (number - 1) (answer_of 0 0)) ∷ []
          entry_is names zero some = absurd (omega (arith, some))
          entry_is names (suc number) some =
              let same : number ≡ suc number - 1 = omega arith in
              ap (λ (k : ℕ). SealBlock (slice_index_or names k (answer_of 0 0)) ∷ SwitchToBlock (slice_index_or names k (answer_of 0 0)) ∷ []) same

      pub emitted_on : Emitted switched nodes rest old last after
      emitted_on = record {
        count = state.count + tables_of node.test;
        counted = let so_far = state.counted in omega (arith, so_far);
        ends = ends_behind state.count (tables_of node.test) old mid last steps_entered leaves_entered (entered.tables ∙ state.ends.tables) ends;
        most = λ table.
            let so_far = state.most table in let one = entry_adds no_memory table in let none = none_many table in let two = test_adds no_memory table in
            omega (arith, so_far, one, none, two);
        waiting = reverse (named_by node.test) ++ state.order.0;
        order = subst (λ (next : ℕ). AreInOrder (reverse (named_by node.test) ++ state.order.0) next rest) (many after adds.is) state.order.3;
        waits = waits_tested (length old.func.now.blocks) node.number mid last blocks after state.order.0 node.test ends.steps ends.leaves (let more = steps_entered.grows.2 in more)
            (λ n less ready. elsewhere n less ready) (let inside = ready_next.inside in omega (arith, inside)) state.order.2 adds
            (waits_entered (length old.func.now.blocks) (suc (length blocks)) node.number new mid blocks state.order.0 steps.grows.2 entered waits_next);
        leads = state.leads.1;
        filled = state.filled.1;
        made = λ signature calls s cases plain at contained. between_on at (state.made signature calls s cases plain at contained);
      }
        where
          many : (list : List ℕ) → list ≡ blocks ++ adds.made → suc (length blocks) + length (named_by node.test) ≡ suc (length list)
          many list is = let long = ap length is in let both = length-append blocks adds.made in let few = adds.many in omega (arith, long, both, few)

          elsewhere : (n : ℕ) → n < node.number → IsReady mid blocks n → mid.position ≢ Some (block_at blocks n)
          elsewhere n less ready here =
              apart blocks n node.number waits_next.rising less ready.some ready_next.inside (sym (some_same (block_at blocks node.number) (block_at blocks n) (sym entered.position ∙ here)))

-- the next node of a list stands first in what is left
pub at_next : {R : Type 0} (switched : SwitchedValue) (nodes items : List Node) (old new : FunctionBuilder R) (blocks : List ℕ) (j : ℕ) (node d : Node) → node ≡ slice_index_or items j d → j < length items
    → Emitted switched nodes (drop j items) old new blocks → Emitted switched nodes (node ∷ drop (suc j) items) old new blocks
at_next switched nodes items old new blocks j node d is inside state =
    subst (λ (rest : List Node). Emitted switched nodes rest old new blocks) (drop-cons items j d inside ∙ ap (λ (n : Node). n ∷ drop (suc j) items) (sym is)) state

-- a read with another default
block_is : (blocks : List ℕ) (number block : ℕ) → block ≡ slice_index_or blocks (number - 1) block → number - 1 < length blocks → block_at blocks number ≡ block
block_is blocks number block is inside = get_or_default blocks (number - 1) 0 block inside ∙ sym is

-- the same where the node is read by its place
module _ {R : Type 0} (switched : SwitchedValue) (nodes items : List Node) (old new : FunctionBuilder R) (blocks : List ℕ) (j : ℕ) (node d : Node) (is : node ≡ slice_index_or items j d) (inside : j < length items)
    (state : Emitted switched nodes (drop j items) old new blocks) where
  next : Emitted switched nodes (node ∷ drop (suc j) items) old new blocks
  next = at_next switched nodes items old new blocks j node d is inside state

  pub at_ready : IsReady new blocks node.number
  at_ready = ready_next switched nodes (drop (suc j) items) node old new blocks next

  pub at_filled : HasItsBlock node.test
  at_filled = next.filled.0

  module _ (block : ℕ) (named : block ≡ slice_index_or blocks (node.number - 1) block) where
    same_block : block_at blocks node.number ≡ block
    same_block = block_is blocks node.number block named at_ready.inside

    pub at_open : IsOpenFor new block
    at_open = subst (IsOpenFor new) same_block at_ready.is_open

    module _ (mid : FunctionBuilder R) (steps : Steps new mid done) (was_entered : IsEntered block new mid) where
      entered : IsEntered (block_at blocks node.number) new mid
      entered = subst (λ (b : ℕ). IsEntered b new mid) (sym same_block) was_entered

      leaves : LeavesBlocks old mid
      leaves = leaves_entered switched nodes (drop (suc j) items) node old new blocks next mid steps entered

      pub at_steps : Steps old mid done
      at_steps = steps_entered switched nodes (drop (suc j) items) node old new blocks next mid steps entered

      pub at_switched : IsSwitchedIn old switched → IsSwitchedIn mid switched
      at_switched is = switched_stays old mid switched at_steps leaves is

      pub at_leads : All (MayLead mid) (cases_in node.test)
      at_leads = all_lead old mid (cases_in node.test) at_steps leaves next.leads.0

      pub at_preserved : (last : FunctionBuilder R) (after : List ℕ) → EndsBlock {A = Unit {0}} (tables_of node.test) mid last done → AddsBlocks (length (named_by node.test)) mid last blocks after
          → MakesEntry block new mid done → MakesTest switched node.test mid last blocks after done → AddsAtMost (so_many 0 0 0 0) new mid done → AddsAtMost (test_makes node.test) mid last done
          → Emitted switched nodes (drop (j + 1) items) old last after
      at_preserved last after ends adds enters makes entry_adds test_adds =
          let more : suc j ≡ j + 1 = omega arith in
          subst (λ (k : ℕ). Emitted switched nodes (drop k items) old last after) more
          (emitted_on switched nodes (drop (suc j) items) node old new blocks next mid steps entered last after ends adds (subst (λ (b : ℕ). MakesEntry b new mid done) (sym same_block) enters) makes entry_adds test_adds)

-- the next node's test wasn't emitted
pub most_testing : {R : Type 0} (switched : SwitchedValue) (nodes items : List Node) (old new mid last : FunctionBuilder R) (blocks : List ℕ) (j : ℕ) (node d : Node) (r : Result (Unit {0}) BuildError) (e : BuildError)
    → node ≡ slice_index_or items j d → j < length items → Emitted switched nodes (drop j items) old new blocks → AddsAtMost (so_many 0 0 0 0) new mid done
    → AddsAtMost {A = Unit {0}} (test_makes node.test) mid last (Err e) → IsErrAnd r (λ y. y ≡ e) → AddsAtMost (nodes_make nodes) old last r
most_testing switched nodes items old new mid last blocks j node d r e is inside state entry_adds test_adds failed =
    adds_err {A = Unit {0}} (nodes_make nodes) old last e r failed (λ some table.
    let so_far = (at_next switched nodes items old new blocks j node d is inside state).most table in
    let one = entry_adds no_memory table in let none = none_many table in let two = test_adds some table in omega (arith, so_far, one, none, two))

-- the first node's test makes no more than all
pub most_first : (nodes : List Node) (node d : Node) (table : Table) → node ≡ slice_index_or nodes 0 d → AreInOrder (0 ∷ []) 1 nodes → test_makes node.test table ≤ nodes_make nodes table
most_first [] node d table is order = absurd (let none = ap length order in omega (arith, none))
most_first (first ∷ rest) node d table is order = let same = ap (λ (n : Node). test_makes n.test table) is in omega (arith, same)

-- all nodes were emitted
pub all_emitted : {R : Type 0} (switched : SwitchedValue) (nodes items : List Node) (old new : FunctionBuilder R) (blocks : List ℕ) (j : ℕ) → length items ≤ j → Emitted switched nodes (drop j items) old new blocks
    → Emitted switched nodes [] old new blocks
all_emitted switched nodes items old new blocks j behind state =
    subst (λ (rest : List Node). Emitted switched nodes rest old new blocks) (drop_of_length-le items behind) state

pub ends_all : {R : Type 0} (switched : SwitchedValue) (nodes : List Node) (old new : FunctionBuilder R) (blocks : List ℕ) → Emitted switched nodes [] old new blocks → EndsBlock {A = Unit {0}} (tables_in nodes) old new done
ends_all switched nodes old new blocks state =
    subst (λ (count : ℕ). EndsBlock {A = Unit {0}} count old new done) (let same = state.counted in omega (arith, same)) state.ends

-- the whole, or what was made where a step failed
pub most_all : {R : Type 0} (switched : SwitchedValue) (nodes : List Node) (old new : FunctionBuilder R) (blocks : List ℕ) → Emitted switched nodes [] old new blocks → AddsAtMost (nodes_make nodes) old new done
most_all switched nodes old new blocks state some table = let all = state.most table in omega (arith, all)

pub most_entering : {R : Type 0} (switched : SwitchedValue) (nodes rest : List Node) (old new mid : FunctionBuilder R) (blocks : List ℕ) (r : Result (Unit {0}) BuildError) (e : BuildError) → Emitted switched nodes rest old new blocks
    → AddsAtMost {A = Unit {0}} (so_many 0 0 0 0) new mid (Err e) → IsErrAnd r (λ y. y ≡ e) → AddsAtMost (nodes_make nodes) old mid r
most_entering switched nodes rest old new mid blocks r e state adds is =
    adds_err {A = Unit {0}} (nodes_make nodes) old mid e r is
    (λ some table. let so_far = state.most table in let one = adds some table in let none = none_many table in omega (arith, so_far, one, none))

pub made_all : {R : Type 0} (switched : SwitchedValue) (nodes : List Node) (old new : FunctionBuilder R) (blocks : List ℕ) → Emitted switched nodes [] old new blocks → MakesNodes switched nodes old new done
made_all switched nodes old new blocks state = λ signature calls s cases plain at contained.
    let between = state.made signature calls s cases plain at contained in
    subst (λ (script : Script). StandsOn at script new) (sym (between.calls_are ∙ append-nil between.first)) between.on

-- THE FIRST NODE ----------------------------------------------------------------------------------------------------------

module _ {R : Type 0} (switched : SwitchedValue) (rest : List Node) (node : Node) (old last : FunctionBuilder R) (after : List ℕ) (order : AreInOrder (0 ∷ []) 1 (node ∷ rest))
    (leads : AllByRecursion (λ (node : Node). All (MayLead old) (cases_in node.test)) (node ∷ rest)) (filled : AllByRecursion (λ (node : Node). HasItsBlock node.test) (node ∷ rest))
    (ends : EndsBlock {A = Unit {0}} (tables_of node.test) old last done) (adds : AddsBlocks (length (named_by node.test)) old last [] after) (makes : MakesTest switched node.test old last [] after done)
    (test_adds : AddsAtMost (test_makes node.test) old last done) where
  number_is : node.number ≡ 0
  number_is = let is = order.1 in cc

  none_left : order.0 ≡ []
  none_left = let is = order.1 in cc

  between_first : {signature : SignatureShape} {calls : List AnsweredCall} {s : Switched} {cases : List ℕ} {plain : Script} (at : StandsAt signature calls s switched.val switched.otherwise cases plain old)
      → AllByRecursion (λ (node : Node). All (Contains cases) (cases_in node.test)) (node ∷ rest) → Between at (node ∷ rest) rest after last
  between_first {signature} {calls} {s} {cases} {plain} at contained =
      let place : ℕ = next_place calls plain in
      let code : Script = test_calls s (tables_at at) node.test place in
      let one = makes signature calls s cases plain at [] contained.0 tt in
      record {
        first = code;
        on = one.0;
        names = blocks_of node.test place;
        named = one.1;
        calls_are = calls_next s [] node rest (tables_at at) place [] (tables_at at) place (tables_at one.0.later) (next_place calls (plain ++ code))
            (ap (entering []) number_is) refl (omega arith) (tables_grow at code last one.0 ∙ ap (λ (n : ℕ). tables_at at + n) (made_tested s (tables_at at) node.test place)) (place_more calls plain code);
        contained = contained.1;
      }

  pub emitted_first : Emitted switched (node ∷ rest) rest old last after
  emitted_first = record {
    count = tables_of node.test;
    counted = refl;
    ends = ends;
    most = λ table. let one = test_adds no_memory table in omega (arith, one);
    waiting = reverse (named_by node.test) ++ [];
    order = subst (λ (left : List ℕ). AreInOrder (reverse (named_by node.test) ++ left) (suc (length after)) rest) none_left
        (subst (λ (next : ℕ). AreInOrder (reverse (named_by node.test) ++ order.0) next rest) (many after adds.is) order.3);
    waits = waits_tested (length old.func.now.blocks) 0 old last [] after [] node.test ends.steps ends.leaves (omega arith) (λ n less. absurd (omega (arith, less))) (omega arith) order.2 adds
        (record { falls = tt; ready = tt; rising = λ i j d less inside. absurd (omega (arith, inside)); behind = λ k d inside. absurd (omega (arith, inside)); exist = λ k d inside. absurd (omega (arith, inside)) });
    leads = leads.1;
    filled = filled.1;
    made = λ signature calls s cases plain at contained. between_first at contained;
  }
    where
      many : (list : List ℕ) → list ≡ [] ++ adds.made → 1 + length (named_by node.test) ≡ suc (length list)
      many list is = let long = ap length is in let few = adds.many in omega (arith, long, few)

-- the nodes behind the first one
abbrev pub behind_first : List Node → List Node
behind_first nodes = take (length nodes - 1) (drop 1 nodes)

-- the first node was emitted
pub emitted_start : {R : Type 0} (switched : SwitchedValue) (nodes : List Node) (node d : Node) (old last : FunctionBuilder R) (before after : List ℕ) → node ≡ slice_index_or nodes 0 d → before ≡ [] → AreInOrder (0 ∷ []) 1 nodes
    → AllByRecursion (λ (node : Node). All (MayLead old) (cases_in node.test)) nodes → AllByRecursion (λ (node : Node). HasItsBlock node.test) nodes
    → EndsBlock {A = Unit {0}} (tables_of node.test) old last done → AddsBlocks (length (named_by node.test)) old last before after → MakesTest switched node.test old last before after done
    → AddsAtMost (test_makes node.test) old last done → Emitted switched nodes (behind_first nodes) old last after
emitted_start switched [] node d old last before after is none order leads filled ends adds makes test_adds = let no_way : ⊥ = (let waits = order in cc) in absurd no_way
emitted_start switched (first ∷ rest) node d old last before after is none order leads filled ends adds makes test_adds =
    subst (λ (left : List Node). Emitted switched (first ∷ rest) left old last after) (sym (take_all (length (first ∷ rest) - 1) rest (omega arith)))
    (emitted_first switched rest first old last after order leads filled
    (subst (λ (n : Node). EndsBlock {A = Unit {0}} (tables_of n.test) old last done) is ends)
    (subst (λ (list : List ℕ). AddsBlocks (length (named_by first.test)) old last list after) none (subst (λ (n : Node). AddsBlocks (length (named_by n.test)) old last before after) is adds))
    (subst (λ (list : List ℕ). MakesTest switched first.test old last list after done) none (subst (λ (n : Node). MakesTest switched n.test old last before after done) is makes))
    (subst (λ (n : Node). AddsAtMost (test_makes n.test) old last done) is test_adds))
