-- The machine that looks a variable up keeps the tables sound.
use Rattle.std.proofs.Common.{◌≡◌, ℕ, ◌<◌, ◌==◌, ◌&&◌, Bool, true, false, List, [], ◌∷◌, ◌++◌, length, map, refl, ap, arith, sym, ◌∙◌, subst, inl, inr}
use Rattle.std.specs.Prelude.{Option, Some, None, Contains, reverse, if◌then◌else◌}
use Rattle.std.specs.List.{AllByRecursion}
use Rattle.clif_types.specs.declared.types.«Type».{«Type»}
use Rattle.clif_ir.specs.Body.{Body, resolved, alias_of_origin, value_at}
use Rattle.clif_ir.specs.Changes.{inserted_in}
use Rattle.clif_ir.specs.Consistent.{IsConsistent}
use Rattle.clif_ir.specs.Reading.{param_home}
use Rattle.clif_ir.proofs.Aliases.{follow_end}
use Rattle.clif_paths.specs.Blocks.{Blocks, Knows}
use Rattle.clif_paths.specs.BlockLaws.{BlocksSound}
use Rattle.clif_paths.specs.LookUp.{Frame, Expects, GoesTo, AtRest}
use Rattle.clif_paths.proofs.LookingUp.{result_is_pushed, next_is_expected, last_result_answers, sealing_begins}
use Rattle.clif_records.specs.declared.look_up.Call.{Call}
use Rattle.clif_records.specs.declared.look_up.Call.TheVariants.{UseVar, FinishPredecessorsLookup}
use Rattle.clif_records.specs.declared.tables.Pending.{Pending}
use Rattle.clif_ssa.specs.Own.{Own}
use Rattle.clif_records.specs.Tables.{is_yes}
use Rattle.clif_ssa.specs.Ssa.{SsaState, record_of, sealed_of, predecessors_of, zeroed, zero_value}
use Rattle.clif_records.specs.Stacks.{calls_for, LookUpState, no_look_up}
use Rattle.clif_ssa.specs.LookUp.{branch_block, Stage, Copies, FinishesLookUp, MakesLook, MakesFinish, MakesCall, MakesCalls, none_made, made, UsesVariable, CompletesParameter, with_calls}
use Rattle.clif_ssa.specs.Sound.{Describes, CountsArguments, IsWaiting, SameProgram, KeepsParameters, KeepsAndKnows, has_entry}
use Rattle.clif_ssa.specs.SoundLaws.{with_entry, DescribesSoundly}
use Rattle.clif_ssa.proofs.Bodies.{Firm, firm_from, param_exists, param_origin}
use Rattle.clif_ssa.proofs.Housing.{Housed, housed_from}
use Rattle.clif_ssa.proofs.Framing.{Setting, Base, Hands, Rests, Idles, Fits, Since, FrameCalls, CallsOf, BranchStands, BranchesStand, HomesRecorded, SameHomes, bare_frame, comes_from, completing_of, all_of, same_parts, since_self, stand_since, arm_from}
use Rattle.clif_ssa.proofs.Entering.{inserted, inserted_entry}
use Rattle.clif_ssa.proofs.Completing.{SameBut, entry_same, first_waits, both}
use Rattle.clif_ssa.proofs.Counting.{inserted_counted}
use Rattle.clif_ssa.proofs.Walking.{copied_described, copied_counted}
use Rattle.clif_ssa.proofs.Ordering.{nothing_contained, none_contained}
use Rattle.clif_ssa.proofs.FrameEnds.{Ended, stage_is, zero_ends, finished, finishes}
use Rattle.clif_ssa.proofs.KeptParameters.{itself_parameters, entry_parameters}
use Rattle.clif_ssa.proofs.Looking.{Expecting, Opens, Opened, new_frame, idles_with, rests_with, looks_up}

-- THE STACKS ------------------------------------------------------------------------------------------------------

abbrev with_first : Setting → ℕ → List Frame → List Pending
with_first c v frames = record { variable = c.variable; param = v } ∷ completing_of c frames

-- the same tables for a frame with other lists, and for other stacks
refit : (c : Setting) (f g : Frame) (frames : List Frame) (tables : Blocks) (m : Stage) (look_up : LookUpState) → g.parameter ≡ f.parameter → Base c (f ∷ frames) tables m
    → Base c (g ∷ frames) tables (record m { look_up = look_up })
refit c f g frames tables m look_up same base =
    let list : completing_of c (f ∷ frames) ≡ completing_of c (g ∷ frames) =
    ap (λ (v : ℕ). with_first c v frames) (sym same) in
    record {
      describes = subst (λ ps. Describes c.own m.function m.state ps tables) list base.describes;
      sound = base.sound;
      same = base.same;
      counts = base.counts;
      parameters = base.parameters;
      firm = base.firm;
      housed = base.housed;
      stand = base.stand;
      since = base.since;
      homes = subst (HomesRecorded m.function m.state c.variable) list base.homes;
      rest_homes = base.rest_homes;
    }

-- a result goes to the topmost frame, if there is one
pub handed : (c : Setting) (frames : List Frame) (n : Stage) → Hands c frames n → Fits c n
handed c [] n hands = inl hands
handed c (f ∷ frames) n hands =
    let (b, rest) = result_is_pushed hands.tables (comes_from c) c.variable c.first f frames hands.value (record { sound = hands.base.sound; goes = hands.goes }) in
    let g : Frame = record f { done = b ∷ f.done; results = hands.value ∷ f.results } in
    let calls : FrameCalls c.function f n.look_up.calls hands.calls.0 = hands.calls.1 in
    inr (inl (
      g,
      frames,
      record {
        tables = hands.tables;
        base = refit c f g frames hands.tables n n.look_up refl hands.base;
        at_rest = rest;
        results = hands.results;
        calls = (hands.calls.0, record { branches = calls.branches; to_do = calls.to_do; stand = calls.stand; calls_are = calls.calls_are }, hands.calls.2);
      },
    ))

pub opened_fits : (c : Setting) (frames : List Frame) (n : Stage) → Opens c frames n → Fits c n
opened_fits c frames n opens =
    elim opens [
      | inl hands ↦ handed c frames n hands
      | inr more ↦ inr more
    ]

-- CALLS -----------------------------------------------------------------------------------------------------------

no_call : {call : Call} {calls : List Call} → ◌≡◌ {A = List Call} [] (call ∷ calls) → ⊥
no_call same = cc

look_or_finish : {branch param block : ℕ} {calls others : List Call} → ◌≡◌ {A = List Call} (UseVar branch ∷ calls) (FinishPredecessorsLookup param block ∷ others) → ⊥
look_or_finish same = cc

-- a frame's next call is the look-up of its next branch
record NextLook (f : Body) (frame : Frame) (branch : ℕ) (calls others : List Call) : Type 0 where
  pub branches : List ℕ
  pub to_do : frame.todo ≡ branch_block f branch ∷ map (branch_block f) branches
  pub stands : BranchStands f branch
  pub stand : AllByRecursion (BranchStands f) branches
  pub calls_are : calls ≡ calls_for branches frame.parameter frame.block ++ others

next_look : (f : Body) (frame : Frame) (branch : ℕ) (all calls others : List Call) → FrameCalls f frame all others → all ≡ UseVar branch ∷ calls → NextLook f frame branch calls others
next_look f frame branch all calls others of_frame next = by of_frame.branches of_frame.to_do of_frame.stand (sym next ∙ of_frame.calls_are)
  where
    by : (branches : List ℕ) → map (branch_block f) branches ≡ frame.todo → AllByRecursion (BranchStands f) branches
        → UseVar branch ∷ calls ≡ calls_for branches frame.parameter frame.block ++ others → NextLook f frame branch calls others
    by [] to_do stand same = absurd (look_or_finish same)
    by (i ∷ branches) to_do stand same =
        let head : i ≡ branch = cc in
        let tail : calls ≡ calls_for branches frame.parameter frame.block ++ others = cc in
        record {
          branches = branches;
          to_do = sym to_do ∙ ap (λ j. branch_block f j ∷ map (branch_block f) branches) head;
          stands = subst (BranchStands f) head stand.0;
          stand = stand.1;
          calls_are = tail;
        }

-- or its end
record NextFinish (frame : Frame) (param block : ℕ) (calls others : List Call) : Type 0 where
  pub none : frame.todo ≡ []
  pub same_param : param ≡ frame.parameter
  pub same_block : block ≡ frame.block
  pub rest : calls ≡ others

next_finish : (f : Body) (frame : Frame) (param block : ℕ) (all calls others : List Call) → FrameCalls f frame all others → all ≡ FinishPredecessorsLookup param block ∷ calls
    → NextFinish frame param block calls others
next_finish f frame param block all calls others of_frame next = by of_frame.branches of_frame.to_do (sym next ∙ of_frame.calls_are)
  where
    by : (branches : List ℕ) → map (branch_block f) branches ≡ frame.todo
        → FinishPredecessorsLookup param block ∷ calls ≡ calls_for branches frame.parameter frame.block ++ others → NextFinish frame param block calls others
    by [] to_do same =
        let whole : FinishPredecessorsLookup param block ∷ calls ≡ FinishPredecessorsLookup frame.parameter frame.block ∷ others = same in
        record { none = sym to_do; same_param = cc; same_block = cc; rest = cc }
    by (i ∷ branches) to_do same = absurd (look_or_finish (sym same))

-- a stage whose calls are all made has no frame
none_left : (f : Body) (frame : Frame) (all others : List Call) → FrameCalls f frame all others → all ≡ [] → ⊥
none_left f frame all others of_frame none = by of_frame.branches (sym none ∙ of_frame.calls_are)
  where
    by : (branches : List ℕ) → [] ≡ calls_for branches frame.parameter frame.block ++ others → ⊥
    by [] same = no_call same
    by (i ∷ branches) same = no_call same

-- A frame at rest makes its next call.
rest_looks : (c : Setting) (ty : «Type») (f : Frame) (frames : List Frame) (m n : Stage) → Rests c f frames m → MakesLook c.variable ty m n → Fits c n
rest_looks c ty f frames m n rests look =
    let base : Base c (f ∷ frames) rests.tables m = rests.base in
    let next : NextLook c.function f look.branch look.calls rests.calls.0 = next_look c.function f look.branch m.look_up.calls look.calls rests.calls.0 rests.calls.1 look.is_next in
    let g : Frame = record f { todo = map (branch_block c.function) next.branches } in
    let at : branch_block m.function look.branch ≡ branch_block c.function look.branch = base.since.branches look.branch next.stands.exists in
    let start : Expecting c (g ∷ frames) rests.tables (branch_block m.function look.branch) (with_calls m look.calls) = record {
      base = refit c f g frames rests.tables m (record m.look_up { calls = look.calls }) refl base;
      expects = subst (Expects rests.tables (comes_from c) c.variable c.first (g ∷ frames)) (sym at)
          (next_is_expected rests.tables (comes_from c) c.variable c.first f frames (branch_block c.function look.branch) (map (branch_block c.function) next.branches) next.to_do rests.at_rest);
      results = rests.results;
      calls = (rests.calls.0, record { branches = next.branches; to_do = refl; stand = next.stand; calls_are = next.calls_are }, rests.calls.2);
      there = omega (arith, next.stands.block_exists, at, base.since.block_count);
    } in
    opened_fits c (g ∷ frames) n (looks_up c (g ∷ frames) rests.tables (branch_block m.function look.branch) (with_calls m look.calls) n ty start look.looks)

rest_finishes : (c : Setting) (f : Frame) (frames : List Frame) (m n : Stage) → Rests c f frames m → MakesFinish m n → Fits c n
rest_finishes c f frames m n rests finish =
    let next : NextFinish f finish.param finish.block finish.calls rests.calls.0 =
    next_finish c.function f finish.param finish.block m.look_up.calls finish.calls rests.calls.0 rests.calls.1 finish.is_next in
    let ends : FinishesLookUp f.parameter f.block (with_calls m finish.calls) n =
    subst (λ p. FinishesLookUp p f.block (with_calls m finish.calls) n) next.same_param
    (subst (λ b. FinishesLookUp finish.param b (with_calls m finish.calls) n) next.same_block finish.finishes) in
    handed c frames n
    (finishes c f frames rests.tables (with_calls m finish.calls) n (refit c f f frames rests.tables m (record m.look_up { calls = finish.calls }) refl rests.base) rests.at_rest next.none
    rests.results (subst (CallsOf c.function frames) (sym next.rest) rests.calls.2) ends)

-- WITHOUT AN ENTRY ------------------------------------------------------------------------------------------------

entered_goes : (layout : List ℕ) (s : SsaState) (b : ℕ) (tables : Blocks) (predecessors : ℕ → List ℕ) (x : ℕ) (first : Option ℕ) (r : ℕ) → GoesTo tables predecessors x first [] r
    → GoesTo (with_entry layout s b tables) predecessors x first [] r
entered_goes layout s b tables predecessors x first r (inl none) = inl none
entered_goes layout s b tables predecessors x first r (inr (d, knows, at)) =
    let same : SameBut tables (with_entry layout s b tables) = entry_same layout s b tables in
    inr (
      d,
      record {
        value = knows.value;
        is_recorded = same.recorded d x ∙ knows.is_recorded;
        resolves = same.resolve knows.value ∙ knows.resolves ∙ sym (same.resolve r);
      },
      at,
    )

off : ◌≡◌ {A = Bool} true false → ⊥
off same = cc

same_some : {x y : ℕ} → ◌≡◌ {A = Option ℕ} (Some x) (Some y) → x ≡ y
same_some same = cc

none_some : {x : ℕ} → ◌≡◌ {A = Option ℕ} None (Some x) → ⊥
none_some same = cc

-- the parameter becomes a name of a zero of its block, which becomes the entry
idle_ends : (c : Setting) (param block : ℕ) (tables : Blocks) (m : Stage) → Base c (bare_frame param block ∷ []) tables m → has_entry m.function.layout ≡ false
    → param_home m.function param ≡ Some block → GoesTo tables (comes_from c) c.variable c.first [] param → predecessors_of m.state block ≡ []
    → Ended c (bare_frame param block) [] tables m (zeroed m.function block param) (zero_value m.function (value_at m.function param).ty)
idle_ends c param block tables m base none home goes nothing =
    let x : ℕ = c.variable in
    let p : Pending = record { variable = x; param = param } in
    let f : Frame = bare_frame param block in
    let entered : Blocks = with_entry m.function.layout m.state block tables in
    let same : SameBut tables entered = entry_same m.function.layout m.state block tables in
    let waits : IsWaiting m.function tables block p × (is_yes (sealed_of m.state block) ≡ true) = first_waits c.own m.function m.state p c.rest tables block base.describes home in
    let now : Describes c.own (inserted_in m.function block) m.state (p ∷ c.rest) entered × BlocksSound entered =
    inserted c.own m.function m.state (p ∷ c.rest) tables block base.describes base.sound in
    let own_end : resolved m.function param ≡ param = follow_end m.function.values (length m.function.values) param (ap alias_of_origin (param_origin m.function param block home)) in
    let rest : AtRest entered (comes_from c) x c.first f [] = record {
      fits = record {
        waits = record {
          is_parameter = same.definition param ∙ waits.0.defined;
          is_sealed = now.0.sealed block ∙ both (is_yes (sealed_of m.state block)) (has_entry (inserted_in m.function block).layout) waits.1 (inserted_entry m.function block);
        };
        no_alias = same.resolve param ∙ base.describes.resolves param ∙ own_end;
        known = tt;
      };
      all = ap (map (branch_block c.function)) (sym (base.since.predecessors block) ∙ nothing);
      apart = tt;
      below = entered_goes m.function.layout m.state block tables (comes_from c) x c.first param goes;
    } in
    zero_ends c f [] tables entered m base now.0 (inserted_counted c.own m.function m.state tables entered block same.definition base.counts)
    (entry_parameters m.function.layout m.state block tables base.describes.recorded) now.1 same.program rest refl
    (λ arm joins at.
    elim (arm_from c.own (inserted_in m.function block) m.state (p ∷ c.rest) entered block arm now.0 joins at) [
      | inl start ↦ inl start.0
      | inr edge ↦ absurd (none_contained edge.branch (subst (λ xs. Contains xs edge.branch) nothing edge.leads))
    ])
    home (λ r here. absurd here)

idle_finishes : (c : Setting) (param block : ℕ) (tables : Blocks) (m n : Stage) → Base c (bare_frame param block ∷ []) tables m → has_entry m.function.layout ≡ false
    → param_home m.function param ≡ Some block → GoesTo tables (comes_from c) c.variable c.first [] param → m.look_up.results ≡ [] → CallsOf c.function [] m.look_up.calls
    → FinishesLookUp param block m n → Hands c [] n
idle_finishes c param block tables m n base none home goes results calls finish =
    let nothing : predecessors_of m.state block ≡ [] = nothing_contained (predecessors_of m.state block) (λ i here. absurd (off (sym (base.describes.leading block i here).1 ∙ none))) in
    let parts : (finish.results ≡ []) × (finish.others ≡ []) = same_parts finish.results finish.others [] [] (finish.count ∙ ap length nothing) (sym finish.taken ∙ results) in
    let turn : reverse finish.results ≡ [] = ap reverse parts.0 in
    let ended : Ended c (bare_frame param block) [] tables m (zeroed m.function block param) (zero_value m.function (value_at m.function param).ty) = idle_ends c param block tables m base none home goes nothing in
    elim finish.ends [
      | inl no_parameter ↦ absurd (none_some (sym no_parameter.gone ∙ home))
      | inr ends ↦
          let at_home : ends.0 ≡ block = same_some (sym ends.1 ∙ home) in
          elim ends.2 [
            | inl zero ↦
                finished c (bare_frame param block) [] tables m n (zeroed m.function block param) (zero_value m.function (value_at m.function param).ty) finish.others (m.look_up.zeros ++ finish.zeros) base home ended parts.1 calls
                (zero.function ∙ ap (λ b. zeroed m.function b param) at_home) finish.state
                (finish.look_up ∙ ap (λ (v : ℕ). record { calls = m.look_up.calls; results = v ∷ finish.others; zeros = m.look_up.zeros ++ finish.zeros }) zero.answer)
            | inr more ↦
                elim more [
                  | inl value ↦ absurd (none_contained value.one.comes.0 (subst (λ rs. Contains rs value.one.comes.0) turn value.one.comes.1))
                  | inr parameter ↦ absurd (none_contained parameter.several.first (subst (λ rs. Contains rs parameter.several.first) turn parameter.several.first_comes))
                ]
          ]
    ]

no_todo : {b : ℕ} {bs : List ℕ} → ◌≡◌ {A = List ℕ} [] (b ∷ bs) → ⊥
no_todo same = cc

idle_calls : (c : Setting) (ty : «Type») (param block : ℕ) (m n : Stage) → Idles c param block m → MakesCall c.variable ty m n → Fits c n
idle_calls c ty param block m n idles (inl look) =
    let next : NextLook c.function (bare_frame param block) look.branch look.calls idles.calls.0 =
    next_look c.function (bare_frame param block) look.branch m.look_up.calls look.calls idles.calls.0 idles.calls.1 look.is_next in
    absurd (no_todo next.to_do)
idle_calls c ty param block m n idles (inr finish) =
    let f : Frame = bare_frame param block in
    let next : NextFinish f finish.param finish.block finish.calls idles.calls.0 =
    next_finish c.function f finish.param finish.block m.look_up.calls finish.calls idles.calls.0 idles.calls.1 finish.is_next in
    let ends : FinishesLookUp param block (with_calls m finish.calls) n =
    subst (λ p. FinishesLookUp p block (with_calls m finish.calls) n) next.same_param
    (subst (λ b. FinishesLookUp finish.param b (with_calls m finish.calls) n) next.same_block finish.finishes) in
    inl (idle_finishes c param block idles.tables (with_calls m finish.calls) n (refit c f f [] idles.tables m (record m.look_up { calls = finish.calls }) refl idles.base) idles.no_entry
    idles.parameter idles.goes idles.results (subst (CallsOf c.function []) (sym next.rest) idles.calls.2) ends)

-- ALL CALLS -------------------------------------------------------------------------------------------------------

rest_calls : (c : Setting) (ty : «Type») (f : Frame) (frames : List Frame) (m n : Stage) → Rests c f frames m → MakesCall c.variable ty m n → Fits c n
rest_calls c ty f frames m n rests (inl look) = rest_looks c ty f frames m n rests look
rest_calls c ty f frames m n rests (inr finish) = rest_finishes c f frames m n rests finish

no_calls : (c : Setting) (ty : «Type») (m n : Stage) → Hands c [] m → MakesCall c.variable ty m n → Fits c n
no_calls c ty m n hands (inl look) = absurd (no_call (sym hands.calls ∙ look.is_next))
no_calls c ty m n hands (inr finish) = absurd (no_call (sym hands.calls ∙ finish.is_next))

pub makes_call : (c : Setting) (ty : «Type») (m n : Stage) → Fits c m → MakesCall c.variable ty m n → Fits c n
makes_call c ty m n fits call =
    elim fits [
      | inl hands ↦ no_calls c ty m n hands call
      | inr waiting ↦
          elim waiting [
            | inl rests ↦ rest_calls c ty rests.0 rests.1 m n rests.2 call
            | inr idles ↦ idle_calls c ty idles.0 idles.1 m n idles.2 call
          ]
    ]

pub makes_calls : (c : Setting) (ty : «Type») {m n : Stage} → Fits c m → MakesCalls c.variable ty m n → Fits c n
makes_calls c ty fits none_made = fits
makes_calls c ty fits (made {n = between} {k = last} first call) = makes_call c ty between last (makes_calls c ty fits first) call

-- where no call is left, no frame is
pub all_made : (c : Setting) (n : Stage) → Fits c n → n.look_up.calls ≡ [] → Hands c [] n
all_made c n fits ended =
    elim fits [
      | inl hands ↦ hands
      | inr waiting ↦
          elim waiting [
            | inl rests ↦ absurd (none_left c.function rests.0 n.look_up.calls rests.2.calls.0 rests.2.calls.1 ended)
            | inr idles ↦ absurd (none_left c.function (bare_frame idles.0 idles.1) n.look_up.calls idles.2.calls.0 idles.2.calls.1 ended)
          ]
    ]

-- A USE -----------------------------------------------------------------------------------------------------------

-- each branch that leads somewhere stands in a block
pub branches_stand : (own : Own) (f : Body) (s : SsaState) (completing : List Pending) (tables : Blocks) → IsConsistent f → Describes own f s completing tables → BranchesStand f s
branches_stand own f s completing tables known before b i here =
    let exists : i < length f.insts = (before.leading b i here).0 in
    record { exists = exists; block_exists = (known.insts_stand i exists).0 }

-- what a use leaves: the tables know its answer in the block
pub record Uses (own : Own) (tables : Blocks) (block x : ℕ) (m : Stage) (value : ℕ) (n : Stage) : Type 0 where
  pub kept : KeepsAndKnows own tables n.function n.state block x value
  pub firm : Firm n.function
  pub housed : Housed n.function
  pub since : Since m.function m.state n.function n.state

pub uses : (own : Own) (tables : Blocks) (x : ℕ) (ty : «Type») (block : ℕ) (m n : Stage) (value : ℕ) → m.look_up ≡ no_look_up → Firm m.function → Housed m.function
    → BranchesStand m.function m.state → Describes own m.function m.state [] tables → CountsArguments own m.function m.state tables → BlocksSound tables → block < length m.function.blocks
    → UsesVariable x ty block m value n → Uses own tables block x m value n
uses own tables x ty block m n value nothing firm housed stand before counts sound there used =
    let c : Setting = record { own = own; before = tables; function = m.function; state = m.state; variable = x; first = Some block; rest = [] } in
    let start : Expecting c [] tables block m = record {
      base = record {
        describes = before;
        sound = sound;
        same = record { count = λ k. refl; assigned = λ p y. refl; naming = λ j. refl; answer = λ j. refl };
        counts = counts;
        parameters = itself_parameters tables m.state m.state before.recorded (λ v b. refl);
        firm = firm;
        housed = housed;
        stand = stand;
        since = since_self m.function m.state;
        homes = λ p b here is. absurd (none_contained p here);
        rest_homes = λ p here. refl;
      };
      expects = refl;
      results = ap (λ (l : LookUpState). l.results) nothing;
      calls = ap (λ (l : LookUpState). l.calls) nothing;
      there = there;
    } in
    let begun : Fits c used.begun = opened_fits c [] used.begun (looks_up c [] tables block m used.begun ty start used.looks) in
    let hands : Hands c [] n = all_made c n (makes_calls c ty begun used.made) used.ended in
    let at : hands.value ≡ value = same_one (sym hands.results ∙ used.answered) in
    let known : Knows hands.tables block x hands.value =
    last_result_answers hands.tables (comes_from c) x block hands.value (record { sound = hands.base.sound; goes = hands.goes }) in
    record {
      kept = record {
        kept = record {
          tables = hands.tables;
          describes = hands.base.describes;
          sound = hands.base.sound;
          same = hands.base.same;
          counts = hands.base.counts;
          parameters = hands.base.parameters;
        };
        known = subst (λ v. Knows hands.tables block x v) at known;
      };
      firm = hands.base.firm;
      housed = hands.base.housed;
      since = hands.base.since;
    }
  where
    same_one : {v w : ℕ} → ◌≡◌ {A = List ℕ} (v ∷ []) (w ∷ []) → v ≡ w
    same_one same = cc

-- A use of a variable keeps the tables sound, and they know its answer in the block.
pub uses_keeps : (own : Own) (tables : Blocks) (x : ℕ) (ty : «Type») (block : ℕ) (m n : Stage) (value : ℕ) → m.look_up ≡ no_look_up → IsConsistent m.function
    → DescribesSoundly own m.function m.state tables → block < length m.function.blocks → UsesVariable x ty block m value n
    → KeepsAndKnows own tables n.function n.state block x value
uses_keeps own tables x ty block m n value nothing known both there used =
    (uses own tables x ty block m n value nothing (firm_from m.function known) (housed_from m.function known) (branches_stand own m.function m.state [] tables known both.0) both.0 both.2 both.1 there used).kept

-- A COMPLETION ----------------------------------------------------------------------------------------------------

-- what the completion of a parameter leaves, while others are completed later
pub record Completes (own : Own) (before : Blocks) (rest : List Pending) (m n : Stage) : Type 0 where
  pub tables : Blocks
  pub describes : Describes own n.function n.state rest tables
  pub sound : BlocksSound tables
  pub same : SameProgram before tables
  pub counts : CountsArguments own n.function n.state tables
  pub parameters : KeepsParameters before tables n.state
  pub firm : Firm n.function
  pub housed : Housed n.function
  pub stand : BranchesStand n.function n.state
  pub since : Since m.function m.state n.function n.state
  pub homes : SameHomes m.function n.function rest
  pub calls : n.look_up.calls ≡ []
  pub results : n.look_up.results ≡ []

no_copies : (s t : SsaState) (x v : ℕ) → ((y b : ℕ) → record_of t y b ≡ record_of s y b) → Copies s t x v []
no_copies s t x v same y b = same y b ∙ by (y == x)
  where
    by : (test : Bool) → record_of s y b ≡ (if test && false then Some v else record_of s y b)
    by true = refl
    by false = refl

-- The completion of a parameter that waits keeps the tables sound.
pub completes_keeps : (own : Own) (tables : Blocks) (x : ℕ) (ty : «Type») (param block : ℕ) (rest : List Pending) (m n : Stage)
    → m.look_up.calls ≡ [] → m.look_up.results ≡ [] → Firm m.function → Housed m.function → BranchesStand m.function m.state
    → Describes own m.function m.state (record { variable = x; param = param } ∷ rest) tables → CountsArguments own m.function m.state tables → BlocksSound tables
    → param_home m.function param ≡ Some block → HomesRecorded m.function m.state x (record { variable = x; param = param } ∷ rest)
    → CompletesParameter x ty param block m n → Completes own tables rest m n
completes_keeps own tables x ty param block rest m n no_calls no_results firm housed stand before counts sound home homes complete =
    let c : Setting = record { own = own; before = tables; function = m.function; state = m.state; variable = x; first = None; rest = rest } in
    let p : Pending = record { variable = x; param = param } in
    let t : SsaState = complete.begun.state in
    let look_up : LookUpState = complete.begun.look_up in
    let stage : Stage = record { function = m.function; state = t; look_up = look_up } in
    let waits : IsWaiting m.function tables block p × (is_yes (sealed_of m.state block) ≡ true) = first_waits own m.function m.state p rest tables block before home in
    let described : Describes own m.function t (p ∷ rest) tables =
    copied_described own m.function m.state t (p ∷ rest) tables x param [] before (no_copies m.state t x param complete.same_records) complete.same_blocks complete.same_predecessors
    (param_exists m.function param block home) in
    let base : Base c (new_frame c param block ∷ []) tables stage = record {
      describes = described;
      sound = sound;
      same = record { count = λ k. refl; assigned = λ q y. refl; naming = λ j. refl; answer = λ j. refl };
      counts = copied_counted own m.function m.state t tables x param [] counts complete.same_predecessors;
      parameters = itself_parameters tables m.state t before.recorded complete.same_records;
      firm = firm;
      housed = housed;
      stand = stand;
      since = record {
        insts_more = omega arith;
        branches = λ i here. refl;
        predecessors = complete.same_predecessors;
        block_count = refl;
        stay = λ y b v is. complete.same_records y b ∙ is;
      };
      homes = λ q b here is none. homes q b here is (sym (complete.same_records x b) ∙ none);
      rest_homes = λ q here. refl;
    } in
    let opened : Opened c [] tables [] param block stage = record {
      base = base;
      delivers = sealing_begins tables (comes_from c) x param sound;
      apart = tt;
      results = ap (λ (l : LookUpState). l.results) complete.begins.look_up ∙ no_results;
      frame_calls = record {
        branches = predecessors_of m.state block;
        to_do = refl;
        stand = all_of (BranchStands m.function) (predecessors_of m.state block) (λ i here. stand block i here);
        calls_are = ap (λ (l : LookUpState). l.calls) complete.begins.look_up ∙ ap (λ cs. calls_for (predecessors_of m.state block) param block ++ cs) no_calls;
      };
      calls = refl;
      is_parameter = waits.0.defined;
      is_sealed = ap is_yes (complete.same_blocks block) ∙ waits.1;
      no_alias = before.resolves param ∙ follow_end m.function.values (length m.function.values) param (ap alias_of_origin (param_origin m.function param block home));
      parameter = home;
    } in
    let fits : Fits c complete.begun =
    subst (Fits c) (stage_is complete.begun m.function t look_up complete.same_function refl refl) (begun_fits c tables stage param block (has_entry m.function.layout) refl opened) in
    let hands : Hands c [] complete.done = all_made c complete.done (makes_calls c ty fits complete.made) complete.ended in
    let done : Completes own tables rest m (record complete.done { look_up = record complete.done.look_up { results = [] } }) = record {
      tables = hands.tables;
      describes = hands.base.describes;
      sound = hands.base.sound;
      same = hands.base.same;
      counts = hands.base.counts;
      parameters = hands.base.parameters;
      firm = hands.base.firm;
      housed = hands.base.housed;
      stand = stand_since m.function m.state complete.done.function complete.done.state stand hands.base.since;
      since = hands.base.since;
      homes = hands.base.rest_homes;
      calls = complete.ended;
      results = refl;
    } in
    subst (Completes own tables rest m) (sym complete.next) done
  where
    begun_fits : (c : Setting) (after : Blocks) (stage : Stage) (z reached : ℕ) (test : Bool) → has_entry stage.function.layout ≡ test → Opened c [] after [] z reached stage → Fits c stage
    begun_fits c after stage z reached true entry opened = inr (inl (new_frame c z reached, [], rests_with c [] after stage [] z reached entry opened))
    begun_fits c after stage z reached false none opened = inr (inr (z, reached, idles_with c after stage [] z reached none opened))
