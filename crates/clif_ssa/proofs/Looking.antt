-- A variable is looked up in a block.
use Rattle.std.proofs.Common.{◌≡◌, ◌≢◌, ℕ, ◌+◌, ◌<◌, ◌==◌, ◌&&◌, ◌||◌, Bool, true, false, List, [], ◌∷◌, length, map, refl, ap, arith, eq-eqb, sym, ◌∙◌, subst, ◌⊎◌, inl, inr}
use Rattle.std.specs.Prelude.{Option, Some, None, Contains, reverse, if◌then◌else◌}
use Rattle.std.proofs.lemmas.Grind.{common_steps}
use Rattle.std.specs.FinMap as map
use Rattle.std.proofs.lemmas.Bool.{cases_eq}
use Rattle.std.proofs.lemmas.List.Elements.{Contains-append_right}
use Rattle.clif_types.specs.declared.types.«Type».{«Type»}
use Rattle.clif_ir.specs.Body.{Body}
use Rattle.clif_ir.specs.Changes.{with_param}
use Rattle.clif_ir.specs.Reading.{param_home}
use Rattle.clif_instructions.specs.Members.{stands_in}
use Rattle.clif_ir.proofs.Aliases.{follow_end}
use Rattle.clif_instructions.proofs.Lists.{below_or_not}
use Rattle.clif_paths.specs.State.{Function, pending, Definition}
use Rattle.clif_paths.specs.Blocks.{Blocks, front, with_record, with_chain, with_parameter}
use Rattle.clif_paths.specs.BlockLaws.{BlocksSound}
use Rattle.clif_paths.specs.LookUp.{Frame, results_of, Expects, Finds, Delivers, NotFor, last_of}
use Rattle.clif_paths.proofs.LookingUp.{record_is_found, found_is_delivered, parameter_is_added, frame_is_pushed}
use Rattle.clif_paths.proofs.Tables.{updated-same}
use Rattle.clif_records.specs.declared.look_up.Call.{Call}
use Rattle.clif_records.specs.declared.tables.Pending.{Pending}
use Rattle.clif_ssa.specs.Own.{Own}
use Rattle.clif_records.specs.Tables.{is_yes}
use Rattle.clif_ssa.specs.Ssa.{SsaState, record_of, sealed_of, predecessors_of, Records, RecordsStay}
use Rattle.clif_records.specs.Passed.{before_first}
use Rattle.clif_records.specs.Stacks.{LookUpState}
use Rattle.clif_ssa.specs.LookUp.{Stage, branch_block, only_block, single_predecessor, IsWalk, Copies, FindsRecord, AddsParameter, ParameterWaits, ParameterBegins, LooksUp}
use Rattle.clif_ssa.specs.Sound.{Describes, CountsArguments, SameProgram, KeepsParameters, has_entry}
use Rattle.clif_records.proofs.RecordMaps.{record_at-insert}
use Rattle.clif_ssa.proofs.Bodies.{Firm, past_alias, param_exists, home-append}
use Rattle.clif_ssa.proofs.Housing.{Housed}
use Rattle.clif_ssa.proofs.Ordering.{contains_first, contains_cons, nothing_contained}
use Rattle.clif_ssa.proofs.Framing.{Setting, Base, Hands, Rests, Idles, Since, FrameCalls, CallsOf, BranchStands, BranchesStand, HomesRecorded, SameHomes, IsHere, comes_from, completing_of, parameters_for, all_of, stand_since, since_then, frame_here}
use Rattle.clif_ssa.proofs.FrameEnds.{stage_is, own_end}
use Rattle.clif_ssa.proofs.Parameters.{param_firm, param_resolved, param_home_new}
use Rattle.clif_ssa.proofs.Completing.{same_program_then}
use Rattle.clif_ssa.proofs.KeptParameters.{parameters_then, same_parameters, added_parameters, copied_none_new, copies_or_old, in_tables}
use Rattle.clif_ssa.proofs.Walking.{WalkIsChain, walk_chain, walk_before, copied_described, copied_counted}
use Rattle.clif_ssa.proofs.Adding.{add_completing, add_waiting, add_housed, add_counted}

-- RECORDS ---------------------------------------------------------------------------------------------------------

test_true : (a b : ℕ) → a ≡ b → (a == b) ≡ true
test_true a b same = eq-eqb a b same

test_false : (a b : ℕ) → a ≢ b → (a == b) ≡ false
test_false a b other = grind (arith, common_steps, other)

-- a state that has one record more, with the blocks of another
abbrev pub recorded_state : SsaState → SsaState → ℕ → ℕ → ℕ → SsaState
recorded_state s t x b v = record t { records = map.insert s.records (x, b) (record { value = Some v; lookups = 0 }) }

pub recorded_state_is : (s t : SsaState) (x b v : ℕ) → Records s (recorded_state s t x b v) x b v
recorded_state_is s t x b v = record_at-insert s.records x b (record { value = Some v; lookups = 0 })

-- what is copied into a block and others is recorded in the block, and then copied into the others
pub copies_split : (s t : SsaState) (x v b : ℕ) (blocks : List ℕ) → Copies s t x v (b ∷ blocks) → Copies (recorded_state s t x b v) t x v blocks
copies_split s t x v b blocks copies y c =
    copies y c
    ∙ split (y == x) (b == c) (stands_in c blocks)
    ∙ ap (λ test. if y == x && stands_in c blocks then Some v else (if y == x && test then Some v else record_of s y c)) (turn b c)
    ∙ ap (λ r. if y == x && stands_in c blocks then Some v else r) (sym (recorded_state_is s t x b v y c))
  where
    split : (of here rest : Bool) → (if of && (here || rest) then Some v else record_of s y c) ≡ (if of && rest then Some v else (if of && here then Some v else record_of s y c))
    split false here rest = refl
    split true true true = refl
    split true true false = refl
    split true false rest = refl

    turn : (a d : ℕ) → (a == d) ≡ (d == a)
    turn a d = elim (cases_eq a d) [ inl same ↦ test_true a d same ∙ sym (test_true d a (sym same)) | inr other ↦ test_false a d other ∙ sym (test_false d a (λ same. other (sym same))) ]

-- none of these blocks has a record of the variable
abbrev pub NoneRecorded : SsaState → ℕ → List ℕ → Type 0
NoneRecorded s x blocks = (b : ℕ) → stands_in b blocks ≡ true → record_of s x b ≡ None

pub copies_stay : (s t : SsaState) (x v : ℕ) (blocks : List ℕ) → Copies s t x v blocks → NoneRecorded s x blocks → RecordsStay s t
copies_stay s t x v blocks copies none y c value is =
    copies y c ∙ elim (cases_eq y x) [
      | inl same ↦ by same (stands_in c blocks) refl
      | inr other ↦ ap (λ t. if t && stands_in c blocks then Some v else record_of s y c) (test_false y x other) ∙ is
    ]
  where
    clash : ◌≡◌ {A = Option ℕ} None (Some value) → ⊥
    clash same = cc

    by : y ≡ x → (test : Bool) → stands_in c blocks ≡ test → (if y == x && test then Some v else record_of s y c) ≡ Some value
    by same true here = absurd (clash (sym (none c here) ∙ ap (λ z. record_of s z c) (sym same) ∙ is))
    by same false here = ap (λ t. if t && false then Some v else record_of s y c) (test_true y x same) ∙ is

-- what a walk passes has no record
pub walk_unrecorded : (f : Body) (s : SsaState) (x : ℕ) (passed : List ℕ) (block reached : ℕ) → IsWalk f s x block passed reached → NoneRecorded s x passed
walk_unrecorded f s x [] block reached walk b here = absurd (off here)
  where
    off : ◌≡◌ {A = Bool} false true → ⊥
    off same = cc
walk_unrecorded f s x (c ∷ passed) block reached walk b here =
    elim (cases_eq c b) [
      | inl same ↦ ap (record_of s x) (sym same ∙ walk.0) ∙ walk.1
      | inr other ↦ walk_unrecorded f s x passed walk.2.0 reached walk.2.2 b (sym (ap (λ t. t || stands_in b passed) (test_false c b other)) ∙ here)
    ]

pub before_all : (x : ℕ) (xs : List ℕ) → stands_in x xs ≡ false → before_first x xs ≡ xs
before_all x [] none = refl
before_all x (y ∷ ys) none =
    elim (cases_eq y x) [
      | inl same ↦ absurd (off (sym (ap (λ t. t || stands_in x ys) (test_true y x same)) ∙ none))
      | inr other ↦
          ap (λ t. if t then [] else y ∷ before_first x ys) (test_false y x other)
          ∙ ap (λ zs. y ∷ zs) (before_all x ys (sym (ap (λ t. t || stands_in x ys) (test_false y x other)) ∙ none))
    ]
  where
    off : ◌≡◌ {A = Bool} true false → ⊥
    off same = cc

-- CHAINS ----------------------------------------------------------------------------------------------------------

-- a copy changes the records alone
chain_function : (x v : ℕ) (chain : List ℕ) (tables : Blocks) → (with_chain tables x v chain).function ≡ tables.function
chain_function x v [] tables = refl
chain_function x v (b ∷ chain) tables = chain_function x v chain (with_record tables b x v)

chain_program : (x v : ℕ) (chain : List ℕ) (tables : Blocks) → SameProgram tables (with_chain tables x v chain)
chain_program x v [] tables = record { count = λ k. refl; assigned = λ p y. refl; naming = λ n. refl; answer = λ n. refl }
chain_program x v (b ∷ chain) tables =
    let rest : SameProgram (with_record tables b x v) (with_chain (with_record tables b x v) x v chain) = chain_program x v chain (with_record tables b x v) in
    record { count = rest.count; assigned = rest.assigned; naming = rest.naming; answer = rest.answer }

-- the single predecessor's branch
pub single_stands : (f : Body) (s : SsaState) (block next : ℕ) → single_predecessor f s block ≡ Some next → (i : ℕ) × Contains (predecessors_of s block) i × (branch_block f i ≡ next)
single_stands f s block next is = by (is_yes (sealed_of s block)) is
  where
    clash : ◌≡◌ {A = Option ℕ} None (Some next) → ⊥
    clash same = cc

    same_some : {x y : ℕ} → ◌≡◌ {A = Option ℕ} (Some x) (Some y) → x ≡ y
    same_some same = cc

    of_list : (xs : List ℕ) → only_block f xs ≡ Some next → (i : ℕ) × Contains xs i × (branch_block f i ≡ next)
    of_list [] none = absurd (clash none)
    of_list (i ∷ []) one = (i, contains_first i [], same_some one)
    of_list (i ∷ j ∷ xs) none = absurd (clash none)

    by : (test : Bool) → (if test then only_block f (predecessors_of s block) else None) ≡ Some next → (i : ℕ) × Contains (predecessors_of s block) i × (branch_block f i ≡ next)
    by true one = of_list (predecessors_of s block) one
    by false none = absurd (clash none)

-- a walk ends at a block that exists
walk_reaches : (f : Body) (s : SsaState) (x : ℕ) (passed : List ℕ) (block reached : ℕ) → BranchesStand f s → IsWalk f s x block passed reached → block < length f.blocks
    → reached < length f.blocks
walk_reaches f s x [] block reached stand walk there = omega (arith, there, walk)
walk_reaches f s x (b ∷ passed) block reached stand walk there =
    let (i, leads, at) = single_stands f s block walk.2.0 walk.2.1 in
    let exists : branch_block f i < length f.blocks = (stand block i leads).block_exists in
    walk_reaches f s x passed walk.2.0 reached stand walk.2.2 (omega (arith, exists, at))

-- to the first time that it comes to the block
pub walk_first : (f : Body) (s : SsaState) (x : ℕ) (passed : List ℕ) (block reached : ℕ) → IsWalk f s x block passed reached → IsWalk f s x block (before_first reached passed) reached
walk_first f s x passed block reached walk = by (stands_in reached passed) refl
  where
    by : (test : Bool) → stands_in reached passed ≡ test → IsWalk f s x block (before_first reached passed) reached
    by true here = walk_before f s x passed block reached reached walk here
    by false none = subst (λ bs. IsWalk f s x block bs reached) (sym (before_all reached passed none)) walk

-- what is completed exists
completing_exists : (own : Own) (f : Body) (s : SsaState) (ps : List Pending) (tables : Blocks) → Describes own f s ps tables → (q : Pending) → Contains ps q
    → q.param < length f.values
completing_exists own f s ps tables before q here =
    elim (before.completed q here) [
      | inl gone ↦
          elim (below_or_not q.param (length f.values)) [
            | inl inside ↦ inside
            | inr past ↦ absurd (gone.1 (follow_end f.values (length f.values) q.param (past_alias f.values q.param past)))
          ]
      | inr there ↦ param_exists f q.param there.0 there.1.parameter
    ]

pub recorded_stays : (s t : SsaState) (x b : ℕ) → RecordsStay s t → record_of s x b ≢ None → record_of t x b ≢ None
recorded_stays s t x b stay some none = by (record_of s x b) refl
  where
    clash : {v : ℕ} → ◌≡◌ {A = Option ℕ} None (Some v) → ⊥
    clash same = cc

    by : (entry : Option ℕ) → record_of s x b ≡ entry → ⊥
    by None is = some is
    by (Some v) is = clash (sym none ∙ stay x b v is)

-- A CALL ----------------------------------------------------------------------------------------------------------

-- what a look-up in a block starts from
pub record Expecting (c : Setting) (frames : List Frame) (tables : Blocks) (b : ℕ) (m : Stage) : Type 0 where
  pub base : Base c frames tables m
  pub expects : Expects tables (comes_from c) c.variable c.first frames b
  pub results : m.look_up.results ≡ results_of frames
  pub calls : CallsOf c.function frames m.look_up.calls
  pub there : b < length m.function.blocks

-- what a call makes of the tables
record Moved (c : Setting) (frames : List Frame) (tables : Blocks) (m : Stage) (g : Body) (t : SsaState) (after : Blocks) : Type 0 where
  pub describes : Describes c.own g t (completing_of c frames) after
  pub sound : BlocksSound after
  pub same : SameProgram tables after
  pub counts : CountsArguments c.own g t after
  pub parameters : KeepsParameters tables after t
  pub firm : Firm g
  pub housed : Housed g
  pub since : Since m.function m.state g t
  pub homes : HomesRecorded g t c.variable (completing_of c frames)
  pub rest_same : SameHomes m.function g c.rest

moved_base : (c : Setting) (frames frames' : List Frame) (tables : Blocks) (m : Stage) (g : Body) (t : SsaState) (after : Blocks) (look_up : LookUpState)
    → Base c frames tables m → Moved c frames' tables m g t after → Base c frames' after (record { function = g; state = t; look_up = look_up })
moved_base c frames frames' tables m g t after look_up base moved = record {
  describes = moved.describes;
  sound = moved.sound;
  same = same_program_then c.before tables after base.same moved.same;
  counts = moved.counts;
  parameters = parameters_then c.before tables after m.state t base.describes.recorded moved.since.stay base.parameters moved.parameters;
  firm = moved.firm;
  housed = moved.housed;
  stand = base.stand;
  since = since_then c.function c.state m.function m.state g t base.since moved.since;
  homes = moved.homes;
  rest_homes = λ q here. moved.rest_same q here ∙ base.rest_homes q here;
}

-- a record is found
pub found : (c : Setting) (frames : List Frame) (tables : Blocks) (b : ℕ) (m n : Stage) → Expecting c frames tables b m → FindsRecord c.variable b m n → Hands c frames n
found c frames tables b m n start finds =
    let x : ℕ = c.variable in
    let v : ℕ = finds.value in
    let base : Base c frames tables m = start.base in
    let chain : List ℕ = reverse finds.passed in
    let after : Blocks = with_chain tables x v chain in
    let walk : WalkIsChain tables x b finds.passed finds.reached =
    walk_chain c.own m.function m.state (completing_of c frames) tables x finds.passed b finds.reached base.describes finds.walks.walk in
    let at_end : Finds after (comes_from c) x c.first frames (last_of finds.reached chain) v =
    record_is_found tables (comes_from c) x c.first frames finds.reached v chain base.sound
    (subst (Expects tables (comes_from c) x c.first frames) (sym walk.ends) start.expects)
    (base.describes.recorded finds.reached x ∙ finds.is_recorded) walk.chain (walk.unrecorded v) in
    let delivers : Delivers after (comes_from c) x c.first frames v = found_is_delivered after (comes_from c) x c.first frames (last_of finds.reached chain) v at_end in
    let stay : RecordsStay m.state n.state = copies_stay m.state n.state x v finds.passed finds.copies (walk_unrecorded m.function m.state x finds.passed b finds.reached finds.walks.walk) in
    let moved : Moved c frames tables m m.function n.state after = record {
      describes = copied_described c.own m.function m.state n.state (completing_of c frames) tables x v finds.passed base.describes finds.copies finds.blocks finds.predecessors
          (base.describes.records_exist finds.reached x v finds.is_recorded);
      sound = delivers.sound;
      same = chain_program x v chain tables;
      counts = copied_counted c.own m.function m.state n.state tables x v chain base.counts finds.predecessors;
      parameters = same_parameters tables after n.state
          (copied_none_new tables m.state n.state x v finds.reached finds.passed base.describes.recorded finds.is_recorded finds.copies)
          (λ u. ap (λ (h : Function). h.definition u) (chain_function x v chain tables));
      firm = base.firm;
      housed = base.housed;
      since = record { insts_more = omega arith; branches = λ i here. refl; predecessors = finds.predecessors; block_count = refl; stay = stay };
      homes = λ q d here is. recorded_stays m.state n.state x d stay (base.homes q d here is);
      rest_same = λ q here. refl;
    } in
    subst (Hands c frames) (stage_is n m.function n.state n.look_up finds.function refl refl) (record {
      tables = after;
      value = v;
      base = moved_base c frames frames tables m m.function n.state after n.look_up base moved;
      goes = delivers.goes;
      results = ap (λ (l : LookUpState). l.results) finds.look_up ∙ ap (λ rs. v ∷ rs) start.results;
      calls = subst (CallsOf c.function frames) (sym (ap (λ (l : LookUpState). l.calls) finds.look_up)) start.calls;
    })

-- A NEW PARAMETER -------------------------------------------------------------------------------------------------

-- it is recorded where nothing was
module _ (x : ℕ) (ty : «Type») (b reached : ℕ) (m n : Stage) (adds : AddsParameter x ty b reached m n) where
  pub added_stays : RecordsStay m.state n.state
  added_stays =
      copies_stay m.state n.state x (length m.function.values) (reached ∷ before_first reached adds.passed) adds.copies
      (λ d here.
      elim (cases_eq reached d) [
        | inl same ↦ ap (record_of m.state x) (sym same) ∙ adds.unrecorded
        | inr other ↦
            walk_unrecorded m.function m.state x (before_first reached adds.passed) b reached
            (walk_first m.function m.state x adds.passed b reached adds.walks.walk) d
            (sym (ap (λ t. t || stands_in d (before_first reached adds.passed)) (test_false reached d other)) ∙ here)
      ])

  pub added_recorded : record_of n.state x reached ≡ Some (length m.function.values)
  added_recorded =
      let passed : List ℕ = before_first reached adds.passed in
      let old : Option ℕ = record_of m.state x reached in
      adds.copies x reached
      ∙ ap (λ t. if t && ((reached == reached) || stands_in reached passed) then Some (length m.function.values) else old) (test_true x x refl)
      ∙ ap (λ t. if t || stands_in reached passed then Some (length m.function.values) else old) (test_true reached reached refl)

-- the tables with the new parameter, which is recorded in the blocks passed too
abbrev with_new : Setting → Blocks → Stage → ℕ → List ℕ → Blocks
with_new c tables m reached passed =
    with_chain (with_parameter tables reached c.variable (length m.function.values)) c.variable (length m.function.values) (reverse passed)

module _ (c : Setting) (frames : List Frame) (tables : Blocks) (b : ℕ) (m n : Stage) (ty : «Type») (reached : ℕ) (start : Expecting c frames tables b m)
    (adds : AddsParameter c.variable ty b reached m n) where
  first_passed : List ℕ
  first_passed = before_first reached adds.passed

  walk_there : IsWalk m.function m.state c.variable b (before_first reached adds.passed) reached
  walk_there = walk_first m.function m.state c.variable adds.passed b reached adds.walks.walk

  reached_exists : reached < length m.function.blocks
  reached_exists =
      walk_reaches m.function m.state c.variable adds.passed b reached (stand_since c.function c.state m.function m.state start.base.stand start.base.since) adds.walks.walk start.there

  stays : RecordsStay m.state n.state
  stays = added_stays c.variable ty b reached m n adds

  new_recorded : record_of n.state c.variable reached ≡ Some (length m.function.values)
  new_recorded = added_recorded c.variable ty b reached m n adds

  -- the new parameter is a result for what the frames expect
  new_finds : Finds (with_new c tables m reached (before_first reached adds.passed)) (comes_from c) c.variable c.first frames b (length m.function.values)
      × NotFor (length m.function.values) frames
  new_finds =
      let passed : List ℕ = before_first reached adds.passed in
      let walk : WalkIsChain tables c.variable b passed reached =
      walk_chain c.own m.function m.state (completing_of c frames) tables c.variable passed b reached start.base.describes walk_there in
      let both : Finds (with_new c tables m reached passed) (comes_from c) c.variable c.first frames (last_of reached (reverse passed)) (length m.function.values)
      × NotFor (length m.function.values) frames =
      parameter_is_added tables (comes_from c) c.variable c.first frames reached (length m.function.values) (reverse passed) start.base.sound
      (subst (Expects tables (comes_from c) c.variable c.first frames) (sym walk.ends) start.expects)
      (record {
        assigns_not = start.base.describes.unrecorded reached c.variable adds.unrecorded;
        new_value = ap (λ (d : Definition). d.home) (start.base.describes.absent (length m.function.values) (omega arith));
        no_alias = start.base.describes.resolves (length m.function.values) ∙ own_end m.function;
      })
      (start.base.describes.recorded reached c.variable ∙ adds.unrecorded) walk.chain (walk.unrecorded (length m.function.values)) in
      (subst (λ d. Finds (with_new c tables m reached passed) (comes_from c) c.variable c.first frames d (length m.function.values)) walk.ends both.0, both.1)

  -- what is completed already stays where it is
  old_home : (q : Pending) → Contains (completing_of c frames) q → param_home (with_param m.function reached ty) q.param ≡ param_home m.function q.param
  old_home q here =
      home-append m.function.values _ q.param (completing_exists c.own m.function m.state (completing_of c frames) tables start.base.describes q here)

  old_homes : HomesRecorded (with_param m.function reached ty) n.state c.variable (completing_of c frames)
  old_homes q d here is = recorded_stays m.state n.state c.variable d stays (start.base.homes q d here (sym (old_home q here) ∙ is))

  -- the tables between the record of the parameter and its copies
  new_moved : (frames' : List Frame) → Describes c.own (with_param m.function reached ty) (recorded_state m.state n.state c.variable reached (length m.function.values))
      (completing_of c frames') (with_parameter tables reached c.variable (length m.function.values))
      → HomesRecorded (with_param m.function reached ty) n.state c.variable (completing_of c frames')
      → Moved c frames' tables m (with_param m.function reached ty) n.state (with_new c tables m reached (before_first reached adds.passed))
  new_moved frames' described homes =
      let x : ℕ = c.variable in
      let z : ℕ = length m.function.values in
      let g : Body = with_param m.function reached ty in
      let between : SsaState = recorded_state m.state n.state x reached z in
      let passed : List ℕ = before_first reached adds.passed in
      let put_in : Blocks = with_parameter tables reached x z in
      let program : SameProgram put_in (with_chain put_in x z (reverse passed)) = chain_program x z (reverse passed) put_in in
      let long : length g.values ≡ z + 1 = grind (arith, common_steps) in
      record {
        describes = copied_described c.own g between n.state (completing_of c frames') put_in x z passed described (copies_split m.state n.state x z reached passed adds.copies)
            (λ d. refl) (λ d. refl) (omega (arith, long));
        sound = new_finds.0.sound;
        same = record { count = program.count; assigned = program.assigned; naming = program.naming; answer = program.answer };
        counts = copied_counted c.own g between n.state put_in x z (reverse passed)
            (add_counted c.own m.function m.state between (completing_of c frames) tables x reached ty start.base.firm start.base.counts reached_exists adds.predecessors)
            (λ d. refl);
        parameters = added_parameters tables (with_new c tables m reached passed) n.state x z reached
            (ap (λ (d : Definition). d.kind) (start.base.describes.absent z (omega arith)))
            (λ u. ap (λ (h : Function). h.definition u) (chain_function x z (reverse passed) put_in)) new_recorded
            (λ v y d is.
            in_tables tables m.state x z v y d start.base.describes.recorded (copies_or_old m.state n.state x z (reached ∷ passed) adds.copies v y d is));
        firm = param_firm m.function reached ty start.base.firm reached_exists;
        housed = add_housed m.function reached ty start.base.firm start.base.housed reached_exists;
        since = record {
          insts_more = omega arith;
          branches = λ i here. refl;
          predecessors = adds.predecessors;
          block_count = grind (arith, common_steps);
          stay = stays;
        };
        homes = homes;
        rest_same = λ q here. old_home q (Contains-append_right (parameters_for x frames) c.rest q here);
      }

-- in an unsealed block it waits, and is a result
pub waits : (c : Setting) (frames : List Frame) (tables : Blocks) (b : ℕ) (m n : Stage) (ty : «Type») → Expecting c frames tables b m → ParameterWaits c.variable ty b m n → Hands c frames n
waits c frames tables b m n ty start wait =
    let x : ℕ = c.variable in
    let z : ℕ = length m.function.values in
    let reached : ℕ = wait.reached in
    let g : Body = with_param m.function reached ty in
    let between : SsaState = recorded_state m.state n.state x reached z in
    let after : Blocks = with_new c tables m reached (before_first reached wait.adds.passed) in
    let base : Base c frames tables m = start.base in
    let finds : Finds after (comes_from c) x c.first frames b z = (new_finds c frames tables b m n ty reached start wait.adds).0 in
    let described : Describes c.own g between (completing_of c frames) (with_parameter tables reached x z) =
    add_waiting c.own m.function m.state between (completing_of c frames) tables x reached ty base.firm base.describes
    (reached_exists c frames tables b m n ty reached start wait.adds) wait.unsealed (recorded_state_is m.state n.state x reached z) wait.blocks wait.adds.predecessors in
    let moved : Moved c frames tables m g n.state after = new_moved c frames tables b m n ty reached start wait.adds frames described (old_homes c frames tables b m n ty reached start wait.adds) in
    subst (Hands c frames) (stage_is n g n.state n.look_up wait.adds.function refl refl) (record {
      tables = after;
      value = z;
      base = moved_base c frames frames tables m g n.state after n.look_up base moved;
      goes = (found_is_delivered after (comes_from c) x c.first frames b z finds).goes;
      results = ap (λ (l : LookUpState). l.results) wait.look_up ∙ ap (λ rs. z ∷ rs) start.results;
      calls = subst (CallsOf c.function frames) (sym (ap (λ (l : LookUpState). l.calls) wait.look_up)) start.calls;
    })

-- what a look-up in a block leaves: a result, or one frame more
abbrev pub Opens : Setting → List Frame → Stage → Type 0
Opens c frames n =
    Hands c frames n
    ⊎ (((f : Frame) × (frames' : List Frame) × Rests c f frames' n)
    ⊎ ((param : ℕ) × (block : ℕ) × Idles c param block n))

same_some : {x y : ℕ} → ◌≡◌ {A = Option ℕ} (Some x) (Some y) → x ≡ y
same_some same = cc

off : ◌≡◌ {A = Bool} true false → ⊥
off same = cc

-- the frame of a new parameter
abbrev pub new_frame : Setting → ℕ → ℕ → Frame
new_frame c param block = record { parameter = param; block = block; done = []; results = []; todo = comes_from c block }

-- what is known of a stage that has a frame more
pub record Opened (c : Setting) (frames : List Frame) (after : Blocks) (others : List Call) (z reached : ℕ) (n : Stage) : Type 0 where
  pub base : Base c (new_frame c z reached ∷ frames) after n
  pub delivers : Delivers after (comes_from c) c.variable c.first frames z
  pub apart : NotFor z frames
  pub results : n.look_up.results ≡ results_of frames
  pub frame_calls : FrameCalls c.function (new_frame c z reached) n.look_up.calls others
  pub calls : CallsOf c.function frames others
  pub is_parameter : after.function.definition z ≡ record { home = front reached; kind = pending c.variable }
  pub is_sealed : is_yes (sealed_of n.state reached) ≡ true
  pub no_alias : after.function.resolve z ≡ z
  pub parameter : param_home n.function z ≡ Some reached

-- in a function without an entry nothing is before it
pub idles_with : (c : Setting) (after : Blocks) (n : Stage) (others : List Call) (z reached : ℕ) → has_entry n.function.layout ≡ false → Opened c [] after others z reached n
    → Idles c z reached n
idles_with c after n others z reached none opened =
    let now : Base c (new_frame c z reached ∷ []) after n = opened.base in
    let nothing : predecessors_of n.state reached ≡ [] = nothing_contained (predecessors_of n.state reached) (λ i here. absurd (off (sym (now.describes.leading reached i here).1 ∙ none))) in
    let empty : comes_from c reached ≡ [] = ap (map (branch_block c.function)) (sym (now.since.predecessors reached) ∙ nothing) in
    record {
      tables = after;
      base = record {
        describes = now.describes;
        sound = now.sound;
        same = now.same;
        counts = now.counts;
        parameters = now.parameters;
        firm = now.firm;
        housed = now.housed;
        stand = now.stand;
        since = now.since;
        homes = now.homes;
        rest_homes = now.rest_homes;
      };
      no_entry = none;
      parameter = opened.parameter;
      goes = opened.delivers.goes;
      results = opened.results;
      calls = (
        others,
        record {
          branches = opened.frame_calls.branches;
          to_do = opened.frame_calls.to_do ∙ empty;
          stand = opened.frame_calls.stand;
          calls_are = opened.frame_calls.calls_are;
        },
        opened.calls,
      );
    }

-- in one with an entry the frame is at rest
pub rests_with : (c : Setting) (frames : List Frame) (after : Blocks) (n : Stage) (others : List Call) (z reached : ℕ) → has_entry n.function.layout ≡ true → Opened c frames after others z reached n
    → Rests c (new_frame c z reached) frames n
rests_with c frames after n others z reached entry opened = record {
  tables = after;
  base = opened.base;
  at_rest = frame_is_pushed after (comes_from c) c.variable c.first frames reached z opened.delivers
      (record {
        is_parameter = opened.is_parameter;
        is_sealed = opened.base.describes.sealed reached ∙ ap (λ t. t && has_entry n.function.layout) opened.is_sealed ∙ entry;
      }) opened.no_alias opened.apart;
  results = opened.results;
  calls = (others, opened.frame_calls, opened.calls);
}

unentered : (c : Setting) (frames : List Frame) (tables after : Blocks) (b : ℕ) (m n : Stage) (others : List Call) (z reached : ℕ) → Expecting c frames tables b m
    → has_entry m.function.layout ≡ false → has_entry n.function.layout ≡ false → Opened c frames after others z reached n → Opens c frames n
unentered c [] tables after b m n others z reached start none none_now opened = inr (inr (z, reached, idles_with c after n others z reached none_now opened))
unentered c (f ∷ frames) tables after b m n others z reached start none none_now opened =
    let here : IsHere m.function m.state f.block f.parameter =
    frame_here c.own m.function m.state c.variable f (completing_of c frames) tables start.base.describes start.expects.0 in
    absurd (off (sym here.entry ∙ none))

opens : (c : Setting) (frames : List Frame) (tables after : Blocks) (b : ℕ) (m n : Stage) (others : List Call) (z reached : ℕ) → Expecting c frames tables b m
    → (test : Bool) → has_entry m.function.layout ≡ test → has_entry n.function.layout ≡ test → Opened c frames after others z reached n → Opens c frames n
opens c frames tables after b m n others z reached start false none none_now opened = unentered c frames tables after b m n others z reached start none none_now opened
opens c frames tables after b m n others z reached start true entry entry_now opened =
    inr (inl (new_frame c z reached, frames, rests_with c frames after n others z reached entry_now opened))

-- in a sealed one the look-up in its predecessors begins
pub begins : (c : Setting) (frames : List Frame) (tables : Blocks) (b : ℕ) (m n : Stage) (ty : «Type») → Expecting c frames tables b m → ParameterBegins c.variable ty b m n → Opens c frames n
begins c frames tables b m n ty start begin =
    let x : ℕ = c.variable in
    let z : ℕ = length m.function.values in
    let reached : ℕ = begin.reached in
    let adds : AddsParameter x ty b reached m n = begin.adds in
    let g : Body = with_param m.function reached ty in
    let between : SsaState = recorded_state m.state n.state x reached z in
    let after : Blocks = with_new c tables m reached (before_first reached adds.passed) in
    let base : Base c frames tables m = start.base in
    let there : reached < length m.function.blocks = reached_exists c frames tables b m n ty reached start adds in
    let found_new : Finds after (comes_from c) x c.first frames b z × NotFor z frames = new_finds c frames tables b m n ty reached start adds in
    let f : Frame = new_frame c z reached in
    let p : Pending = record { variable = x; param = z } in
    let described : Describes c.own g between (completing_of c (f ∷ frames)) (with_parameter tables reached x z) =
    add_completing c.own m.function m.state between (completing_of c frames) tables x reached ty base.firm base.describes there begin.is_sealed
    (λ q here is. base.homes q reached here is adds.unrecorded) (recorded_state_is m.state n.state x reached z) begin.blocks adds.predecessors in
    let homes : HomesRecorded g n.state x (completing_of c (f ∷ frames)) =
    λ q d here is.
    elim (contains_cons p (completing_of c frames) q here) [
      | inl new ↦
          let at : reached ≡ d = same_some (sym (param_home_new m.function reached ty) ∙ ap (λ (r : Pending). param_home g r.param) new ∙ is) in
          λ none. some_none (sym (new_recorded c frames tables b m n ty reached start adds) ∙ ap (record_of n.state x) at ∙ none)
      | inr old ↦ old_homes c frames tables b m n ty reached start adds q d old is
    ] in
    let moved : Moved c (f ∷ frames) tables m g n.state after = new_moved c frames tables b m n ty reached start adds (f ∷ frames) described homes in
    let now : Base c (f ∷ frames) after (record { function = g; state = n.state; look_up = n.look_up }) = moved_base c frames (f ∷ frames) tables m g n.state after n.look_up base moved in
    let opened : Opened c frames after m.look_up.calls z reached (record { function = g; state = n.state; look_up = n.look_up }) = record {
      base = now;
      delivers = found_is_delivered after (comes_from c) x c.first frames b z found_new.0;
      apart = found_new.1;
      results = ap (λ (l : LookUpState). l.results) begin.begins.look_up ∙ start.results;
      frame_calls = record {
        branches = predecessors_of m.state reached;
        to_do = ap (map (branch_block c.function)) (base.since.predecessors reached);
        stand = all_of (BranchStands c.function) (predecessors_of m.state reached) (λ i here. base.stand reached i (subst (λ xs. Contains xs i) (base.since.predecessors reached) here));
        calls_are = ap (λ (l : LookUpState). l.calls) begin.begins.look_up;
      };
      calls = start.calls;
      is_parameter =
          ap (λ (h : Function). h.definition z) (chain_function x z (reverse (before_first reached adds.passed)) (with_parameter tables reached x z))
          ∙ updated-same tables.function.definition z (record { home = front reached; kind = pending x }) z refl;
      is_sealed = ap is_yes (begin.blocks reached) ∙ begin.is_sealed;
      no_alias = moved.describes.resolves z ∙ param_resolved m.function reached ty base.firm z ∙ own_end m.function;
      parameter = param_home_new m.function reached ty;
    } in
    subst (Opens c frames) (stage_is n g n.state n.look_up adds.function refl refl)
    (opens c frames tables after b m (record { function = g; state = n.state; look_up = n.look_up }) m.look_up.calls z reached start (has_entry m.function.layout) refl refl opened)
  where
    some_none : {v : ℕ} → ◌≡◌ {A = Option ℕ} (Some v) None → ⊥
    some_none same = cc

-- a look-up in a block
pub looks_up : (c : Setting) (frames : List Frame) (tables : Blocks) (b : ℕ) (m n : Stage) (ty : «Type») → Expecting c frames tables b m → LooksUp c.variable ty b m n → Opens c frames n
looks_up c frames tables b m n ty start looks =
    elim looks [
      | inl finds ↦ inl (found c frames tables b m n start finds)
      | inr adds ↦
          elim adds [
            | inl wait ↦ inl (waits c frames tables b m n ty start wait)
            | inr begin ↦ begins c frames tables b m n ty start begin
          ]
    ]
