-- The look-up of a parameter ends.
use Rattle.std.proofs.Common.{◌≡◌, ◌≢◌, ℕ, ◌+◌, ◌<◌, Bool, true, false, List, [], ◌∷◌, ◌++◌, length, map, refl, ap, arith, sym, ◌∙◌, subst, ◌⊎◌, inl, inr}
use Rattle.std.specs.Prelude.{Option, Some, None, Contains, reverse, cond, slice_get}
use Rattle.std.proofs.lemmas.Grind.{common_steps}
use Rattle.std.proofs.lemmas.List.{length-reverse}
use Rattle.std.proofs.lemmas.List.Elements.{Contains-append_right}
use Rattle.clif_types.specs.declared.types.«Type».{«Type»}
use Rattle.clif_ir.specs.Body.{Body, value_at, resolved, follow}
use Rattle.clif_ir.specs.Changes.{with_alias, with_layout, inserted_in}
use Rattle.clif_instructions.specs.Members.{Once, stands_in}
use Rattle.clif_ir.specs.Reading.{param_home, home_of_node}
use Rattle.clif_nodes.specs.declared.nodes.InstNode.{InstNode}
use Rattle.clif_ir.proofs.Aliases.{follow_end}
use Rattle.clif_paths.specs.Places.{start, Arm}
use Rattle.clif_paths.specs.State.{Definition}
use Rattle.clif_paths.specs.Blocks.{Blocks, front, last_place, Knows, with_dropped, with_filled, with_zero_in}
use Rattle.clif_paths.specs.BlockLaws.{BlocksSound}
use Rattle.clif_paths.specs.LookUp.{Frame, results_of, AtRest, Delivers, InList, Paired}
use Rattle.clif_paths.proofs.LookingUp.{known_by, dropping_finishes, filling_finishes, zero_finishes, results_are_counted}
use Rattle.clif_records.specs.declared.tables.Pending.{Pending}
use Rattle.clif_ssa.specs.Ssa.{SsaState, predecessors_of, zeroed, zero_value}
use Rattle.clif_records.specs.Stacks.{LookUpState}
use Rattle.clif_ssa.specs.LookUp.{branch_block, Stage, with_arguments, NothingComes, OneComes, SeveralCome, FinishesLookUp}
use Rattle.clif_ssa.specs.Sound.{Describes, CountsArguments, SameProgram, KeepsParameters, has_entry}
use Rattle.clif_ssa.specs.SoundLaws.{with_entry}
use Rattle.clif_ssa.proofs.Bodies.{Firm, past_alias, param_exists, resolved_twice, home-set_other}
use Rattle.clif_ssa.proofs.Entering.{inserted}
use Rattle.clif_ssa.proofs.Ordering.{contains_more, map_same}
use Rattle.clif_ssa.proofs.Framing.{comes_from, completing_of, parameters_for, CallsOf, Setting, Base, Hands, Since, IsHere, contains_in, turned, in_reversed, of_reversed, in_some, same_parts, count_zero, resolved_inside, knows_value, since_self, since_then, edge_from, arm_from, edges_from, frame_here, completing_apart}
use Rattle.clif_ssa.proofs.Housing.{Housed}
use Rattle.clif_ssa.proofs.KeptParameters.{records_same, parameters_then, itself_parameters, same_parameters, filled_parameters, zero_parameters}
use Rattle.clif_ssa.proofs.Passing.{given_by, given_paired, Passing, arguments_pass}
use Rattle.clif_ssa.proofs.Zeroing.{zero_described}
use Rattle.clif_ssa.proofs.Completing.{SameButLayout, inserted_same, inserted_firm, same_program_then}
use Rattle.clif_ssa.proofs.Aliasing.{drop_described, drop_counted, drop_firm, drop_housed}
use Rattle.clif_ssa.proofs.Filling.{filled_described, filled_counted, filled_firm, filled_housed}
use Rattle.clif_ssa.proofs.Counting.{zero_counted, zero_housed, inserted_counted, inserted_housed}
use Rattle.clif_ssa.proofs.ZeroSteps.{put_resolved, put_param_home, put_insts_more, put_firm, put_old, put_zero, zero_count, past_unaliased}
use Rattle.clif_ssa.specs.Zeros.{steps_before}

-- WHAT STAYS ------------------------------------------------------------------------------------------------------

-- what the end of a frame's look-up leaves: a function and tables that describe it, without the frame's parameter
pub record Ended (c : Setting) (f : Frame) (frames : List Frame) (tables : Blocks) (m : Stage) (g : Body) (value : ℕ) : Type 0 where
  pub after : Blocks
  pub describes : Describes c.own g m.state (completing_of c frames) after
  pub same : SameProgram tables after
  pub counts : CountsArguments c.own g m.state after
  pub parameters : KeepsParameters tables after m.state
  pub firm : Firm g
  pub housed : Housed g
  pub since : Since m.function m.state g m.state
  pub other_homes : (u : ℕ) → u ≢ f.parameter → param_home g u ≡ param_home m.function u
  pub delivers : Delivers after (comes_from c) c.variable c.first frames value

abbrev pending_for : Setting → Frame → Pending
pending_for c f = record { variable = c.variable; param = f.parameter }

-- then a result was found for the frames below
pub ended_hands : (c : Setting) (f : Frame) (frames : List Frame) (tables : Blocks) (m : Stage) (g : Body) (value : ℕ) (look_up : LookUpState)
    → Base c (f ∷ frames) tables m → param_home m.function f.parameter ≡ Some f.block → Ended c f frames tables m g value
    → look_up.results ≡ value ∷ results_of frames → CallsOf c.function frames look_up.calls
    → Hands c frames (record { function = g; state = m.state; look_up = look_up })
ended_hands c f frames tables m g value look_up base home ended results calls =
    let apart : (q : Pending) → Contains (completing_of c frames) q → q.param ≢ f.parameter =
    completing_apart c.own m.function m.state (pending_for c f) (completing_of c frames) tables f.block base.describes home in
    record {
      tables = ended.after;
      value = value;
      base = record {
        describes = ended.describes;
        sound = ended.delivers.sound;
        same = same_program_then c.before tables ended.after base.same ended.same;
        counts = ended.counts;
        parameters = parameters_then c.before tables ended.after m.state m.state base.describes.recorded (λ x b v is. is) base.parameters ended.parameters;
        firm = ended.firm;
        housed = ended.housed;
        stand = base.stand;
        since = since_then c.function c.state m.function m.state g m.state base.since ended.since;
        homes = λ q b here is.
            base.homes q b (contains_more (pending_for c f) (completing_of c frames) q here) (sym (ended.other_homes q.param (apart q here)) ∙ is);
        rest_homes = λ q here.
            ended.other_homes q.param (apart q (Contains-append_right (parameters_for c.variable frames) c.rest q here)) ∙ base.rest_homes q here;
      };
      goes = ended.delivers.goes;
      results = results;
      calls = calls;
    }

-- RESULTS ---------------------------------------------------------------------------------------------------------

module _ (c : Setting) (f : Frame) (frames : List Frame) (tables : Blocks) (m : Stage) (base : Base c (f ∷ frames) tables m)
    (rest : AtRest tables (comes_from c) c.variable c.first f frames) (none : f.todo ≡ []) where
  here_is : IsHere m.function m.state f.block f.parameter
  here_is = frame_here c.own m.function m.state c.variable f (completing_of c frames) tables base.describes rest.fits

  result_exists : (r : ℕ) → InList f.results r → r < length m.function.values
  result_exists r here =
      let known : (b : ℕ) × Knows tables b c.variable r = known_by tables c.variable f.done f.results r rest.fits.known here in
      knows_value c.own m.function m.state (completing_of c (f ∷ frames)) tables known.0 c.variable r base.firm base.describes known.1

  result_count : length f.results ≡ length (predecessors_of m.state f.block)
  result_count =
      let count : length f.results + length f.todo ≡ length (comes_from c f.block) = results_are_counted tables (comes_from c) c.variable c.first f frames rest in
      let zero_left : length f.todo ≡ 0 = ap length none in
      let mapped : length (comes_from c f.block) ≡ length (predecessors_of c.state f.block) = grind (arith, common_steps) in
      let same : length (predecessors_of m.state f.block) ≡ length (predecessors_of c.state f.block) = ap length (base.since.predecessors f.block) in
      omega (arith, count, zero_left, mapped, same)

  some_before : (r : ℕ) → InList f.results r → predecessors_of m.state f.block ≢ []
  some_before r here empty = in_some f.results r here (count_zero f.results (result_count ∙ ap length empty))

  same_before : map (branch_block m.function) (predecessors_of m.state f.block) ≡ comes_from c f.block
  same_before =
      ap (map (branch_block m.function)) (base.since.predecessors f.block)
      ∙ map_same (branch_block m.function) (branch_block c.function) (predecessors_of c.state f.block)
      (λ i here. base.since.branches i (base.stand f.block i here).exists)

  -- ONE VALUE COMES
  pub drop_ends : (value : ℕ) → OneComes m.function f.parameter value (reverse f.results) → Ended c f frames tables m (with_alias m.function f.parameter value) value
  drop_ends value one =
      let g : Body = with_alias m.function f.parameter value in
      let come : InList f.results one.comes.0 = of_reversed f.results one.comes.0 one.comes.1 in
      let exists : value < length m.function.values = omega (arith, resolved_inside m.function one.comes.0 base.firm (result_exists one.comes.0 come), one.comes.2) in
      let ends : resolved m.function value ≡ value =
      ap (λ w. resolved m.function w) (sym one.comes.2) ∙ resolved_twice m.function base.firm one.comes.0 ∙ one.comes.2 in
      record {
        after = with_dropped tables f.parameter value;
        describes =
            drop_described c.own m.function m.state (pending_for c f) (completing_of c frames) tables value f.block base.firm base.describes here_is.parameter exists ends one.other;
        same = record { count = λ k. refl; assigned = λ p y. refl; naming = λ n. refl; answer = λ n. refl };
        counts = drop_counted c.own m.function m.state (pending_for c f) (completing_of c frames) tables value f.block base.firm base.housed base.describes base.counts here_is.parameter exists ends one.other;
        parameters = same_parameters tables (with_dropped tables f.parameter value) m.state
            (records_same tables m.state m.state base.describes.recorded (λ x b. refl)) (λ v. refl);
        firm = drop_firm m.function f.parameter value f.block base.firm here_is.parameter exists ends one.other;
        housed = drop_housed m.function f.parameter value f.block base.firm base.housed here_is.parameter exists ends one.other;
        since = record {
          insts_more = omega arith;
          branches = λ i inside. refl;
          predecessors = λ b. refl;
          block_count = grind (arith, common_steps);
          stay = λ v b w is. is;
        };
        other_homes = λ u other. home-set_other m.function.values f.parameter _ u other;
        delivers =
            dropping_finishes tables (comes_from c) c.variable c.first f frames value base.sound rest none
            (edges_from c (f ∷ frames) tables m f.block base (some_before one.comes.0 come))
            (base.describes.resolves value ∙ ends) one.other
            (λ r here.
            elim (one.alone r (in_reversed f.results r here)) [
              | inl same ↦ inl (base.describes.resolves r ∙ same)
              | inr itself ↦ inr (base.describes.resolves r ∙ itself)
            ])
            (one.comes.0, come, base.describes.resolves one.comes.0 ∙ one.comes.2);
      }

  -- SEVERAL COME
  pub fill_ends : SeveralCome m.function f.parameter (reverse f.results)
      → Ended c f frames tables m (with_arguments m.function f.block (predecessors_of m.state f.block) (reverse f.results)) f.parameter
  fill_ends several =
      let values : List ℕ = reverse f.results in
      let branches : List ℕ = predecessors_of m.state f.block in
      let g : Body = with_arguments m.function f.block branches values in
      let given : Arm → ℕ = given_by tables (comes_from c f.block) values in
      let come : InList f.results several.first = of_reversed f.results several.first several.first_comes in
      let count : length values ≡ length branches = length-reverse f.results ∙ result_count in
      let passing : Passing f.block m.function g = arguments_pass branches values m.function f.block (λ i here. (base.describes.leading f.block i here).0) in
      let once : Once (comes_from c f.block) = subst Once same_before (base.describes.leading_apart f.block) in
      let wide : length values ≡ length (comes_from c f.block) = count ∙ grind (arith, common_steps, ap length same_before) in
      record {
        after = with_filled tables c.variable f.parameter given;
        describes = subst (λ bs. Describes c.own g m.state (completing_of c frames) (with_filled tables c.variable f.parameter (given_by tables bs values))) same_before
            (filled_described c.own m.function m.state (pending_for c f) (completing_of c frames) tables f.block values base.housed base.describes base.counts here_is.parameter rest.fits.waits.is_sealed count);
        counts = subst (λ bs. CountsArguments c.own g m.state (with_filled tables c.variable f.parameter (given_by tables bs values))) same_before
            (filled_counted c.own m.function m.state (pending_for c f) (completing_of c frames) tables f.block values base.housed base.describes base.counts here_is.parameter count);
        same = record { count = λ k. refl; assigned = λ p y. refl; naming = λ n. refl; answer = λ n. refl };
        parameters = filled_parameters tables (with_filled tables c.variable f.parameter given) m.state c.variable f.parameter
            (records_same tables m.state m.state base.describes.recorded (λ x b. refl)) (ap (λ (d : Definition). d.kind) rest.fits.waits.is_parameter) (λ v. refl);
        firm = filled_firm f.block m.function g passing base.firm;
        housed = filled_housed f.block m.function g passing base.housed;
        since = record {
          insts_more = omega (arith, passing.count);
          branches = λ i inside. passing.block i;
          predecessors = λ b. refl;
          block_count = ap (λ (h : Body). length h.blocks) passing.same;
          stay = λ v b w is. is;
        };
        other_homes = λ u other. ap (λ (h : Body). param_home h u) passing.same;
        delivers =
            filling_finishes tables (comes_from c) c.variable c.first f frames given base.sound rest none
            (λ arm joins at.
            let (b, among, from) = (edges_from c (f ∷ frames) tables m f.block base (some_before several.first come)).from arm joins at in (
              b,
              subst (λ vs. Paired (comes_from c f.block) vs b (given arm)) (sym (turned f.results []))
                  (given_paired tables (comes_from c f.block) values b arm once wide (contains_in (comes_from c f.block) b among) from),
              from,
            ));
      }

-- NOTHING COMES ---------------------------------------------------------------------------------------------------

pub inserted_since : (f : Body) (s : SsaState) (b : ℕ) → Since f s (inserted_in f b) s
inserted_since f s b = by (stands_in b f.layout)
  where
    by : (test : Bool) → Since f s (cond test f (with_layout f b)) s
    by true = since_self f s
    by false = record { insts_more = omega arith; branches = λ i here. refl; predecessors = λ c. refl; block_count = refl; stay = λ v c value is. is }

zero_since : (g : Body) (s : SsaState) (b : ℕ) (ty : «Type») (v z : ℕ) → Since g s (with_alias (put_zero g b ty) v z) s
zero_since g s b ty v z = record {
  insts_more = omega (arith, put_insts_more g b ty);
  branches = λ i inside. ap (λ (n : InstNode). n.block) (put_old g b ty i inside);
  predecessors = λ c. refl;
  block_count = grind (arith, common_steps);
  stay = λ x c value is. is;
}

pub own_end : (g : Body) → resolved g (length g.values) ≡ length g.values
own_end g = follow_end g.values (length g.values) (length g.values) (past_alias g.values (length g.values) (omega arith))

-- what is known of an arm into the block of a frame
abbrev pub ArmsFrom : Blocks → ℕ → List ℕ → Type 0
ArmsFrom tables block among = (arm : Arm) → tables.joins arm ≡ true → arm.target ≡ front block
    → (arm.source ≡ start) ⊎ ((b : ℕ) × (InList among b) × (arm.source ≡ last_place tables b))

-- a parameter to which nothing comes becomes a name of a zero, in a function that has an entry
record Zeroing (c : Setting) (f : Frame) (frames : List Frame) (g : Body) (s : SsaState) (tables : Blocks) (ty : «Type») : Type 0 where
  pub describes : Describes c.own (with_alias (put_zero g f.block ty) f.parameter (zero_value g ty)) s (completing_of c frames)
      (with_dropped (with_zero_in tables f.block c.variable (zero_value g ty)) f.parameter (zero_value g ty))
  pub counts : CountsArguments c.own (with_alias (put_zero g f.block ty) f.parameter (zero_value g ty)) s
      (with_dropped (with_zero_in tables f.block c.variable (zero_value g ty)) f.parameter (zero_value g ty))
  pub firm : Firm (with_alias (put_zero g f.block ty) f.parameter (zero_value g ty))
  pub housed : Housed (with_alias (put_zero g f.block ty) f.parameter (zero_value g ty))
  pub delivers : Delivers (with_dropped (with_zero_in tables f.block c.variable (zero_value g ty)) f.parameter (zero_value g ty)) (comes_from c) c.variable c.first frames (zero_value g ty)

zeroing : (c : Setting) (f : Frame) (frames : List Frame) (g : Body) (s : SsaState) (tables : Blocks) (ty : «Type») → Firm g → Housed g
    → Describes c.own g s (completing_of c (f ∷ frames)) tables → CountsArguments c.own g s tables → BlocksSound tables → AtRest tables (comes_from c) c.variable c.first f frames → f.todo ≡ []
    → ArmsFrom tables f.block (comes_from c f.block) → param_home g f.parameter ≡ Some f.block → ((r : ℕ) → InList f.results r → resolved g r ≡ f.parameter)
    → Zeroing c f frames g s tables ty
zeroing c f frames g s tables ty firm housed before counts sound rest none arms home nothing =
    let z : ℕ = zero_value g ty in
    let h : Body = put_zero g f.block ty in
    let inside : f.parameter < length g.values = param_exists g f.parameter f.block home in
    let apart : z ≢ f.parameter = λ same. absurd (omega (arith, inside, same)) in
    let h_firm : Firm h = put_firm g f.block ty firm in
    let h_home : param_home h f.parameter ≡ Some f.block = put_param_home g f.block ty f.parameter ∙ home in
    let long : length h.values ≡ z + 1 = zero_count g f.block ty in
    let exists : z < length h.values = omega (arith, long) in
    let ends : resolved h z ≡ z = put_resolved g f.block ty firm z ∙ past_unaliased g z (omega arith) in
    let there : f.block < length g.blocks = firm.homes_exist f.parameter f.block home in
    let h_housed : Housed h = zero_housed g f.block ty housed in
    let put : Describes c.own h s (completing_of c (f ∷ frames)) (with_zero_in tables f.block c.variable z) =
    zero_described c.own g s (completing_of c (f ∷ frames)) tables f.block c.variable ty firm before there in
    record {
      describes = drop_described c.own h s (pending_for c f) (completing_of c frames) (with_zero_in tables f.block c.variable z) z f.block h_firm put h_home exists ends apart;
      counts =
          drop_counted c.own h s (pending_for c f) (completing_of c frames) (with_zero_in tables f.block c.variable z) z f.block h_firm h_housed put
          (zero_counted c.own g s (completing_of c (f ∷ frames)) tables f.block c.variable ty before counts) h_home exists ends apart;
      firm = drop_firm h f.parameter z f.block h_firm h_home exists ends apart;
      housed = drop_housed h f.parameter z f.block h_firm h_housed h_home exists ends apart;
      delivers =
          zero_finishes tables (comes_from c) c.variable c.first f frames z sound rest none arms (ap (λ (d : Definition). d.home) (before.absent z (omega arith)))
          (before.resolves z ∙ past_unaliased g z (omega arith)) (λ r here. before.resolves r ∙ nothing r here);
    }

-- the same for a function in whose layout the block enters first
pub zero_ends : (c : Setting) (f : Frame) (frames : List Frame) (tables entered : Blocks) (m : Stage) → Base c (f ∷ frames) tables m
    → Describes c.own (inserted_in m.function f.block) m.state (completing_of c (f ∷ frames)) entered
    → CountsArguments c.own (inserted_in m.function f.block) m.state entered → KeepsParameters tables entered m.state → BlocksSound entered → SameProgram tables entered
    → AtRest entered (comes_from c) c.variable c.first f frames → f.todo ≡ [] → ArmsFrom entered f.block (comes_from c f.block)
    → param_home m.function f.parameter ≡ Some f.block → ((r : ℕ) → InList f.results r → resolved m.function r ≡ f.parameter)
    → Ended c f frames tables m (zeroed m.function f.block f.parameter) (zero_value m.function (value_at m.function f.parameter).ty)
zero_ends c f frames tables entered m base before counts parameters sound same rest none arms home nothing =
    let g : Body = inserted_in m.function f.block in
    let ty : «Type» = (value_at m.function f.parameter).ty in
    let but : SameButLayout m.function g = inserted_same m.function f.block in
    let home_same : (u : ℕ) → param_home g u ≡ param_home m.function u = λ u. ap (λ vs. home_of_node (slice_get vs u)) but.values in
    let ends_same : (u : ℕ) → resolved g u ≡ resolved m.function u = λ u. ap (λ vs. follow (length vs) vs u) but.values in
    let done : Zeroing c f frames g m.state entered ty =
    zeroing c f frames g m.state entered ty (inserted_firm m.function f.block base.firm) (inserted_housed m.function f.block base.housed) before counts sound rest none arms (home_same f.parameter ∙ home)
    (λ r here. ends_same r ∙ nothing r here) in
    let after : Blocks = with_dropped (with_zero_in entered f.block c.variable (zero_value g ty)) f.parameter (zero_value g ty) in
    let ended : Ended c f frames tables m (with_alias (put_zero g f.block ty) f.parameter (zero_value g ty)) (zero_value g ty) = record {
      after = after;
      describes = done.describes;
      same = record { count = same.count; assigned = same.assigned; naming = same.naming; answer = same.answer };
      counts = done.counts;
      parameters =
          parameters_then tables entered after m.state m.state before.recorded (λ x b v is. is) parameters
          (zero_parameters entered after m.state c.variable (zero_value g ty) f.block (records_same entered m.state m.state before.recorded (λ x b. refl))
          (ap (λ (d : Definition). d.kind) (before.absent (zero_value g ty) (omega arith))) (λ v. refl));
      firm = done.firm;
      housed = done.housed;
      since = since_then m.function m.state g m.state (with_alias (put_zero g f.block ty) f.parameter (zero_value g ty)) m.state
          (inserted_since m.function m.state f.block) (zero_since g m.state f.block ty f.parameter (zero_value g ty));
      other_homes = λ u other.
          home-set_other (put_zero g f.block ty).values f.parameter _ u other
          ∙ put_param_home g f.block ty u ∙ home_same u;
      delivers = done.delivers;
    } in
    subst (λ n. Ended c f frames tables m (with_alias (put_zero g f.block ty) f.parameter (n + steps_before ty)) (n + steps_before ty)) (ap length but.values) ended

-- THE END ---------------------------------------------------------------------------------------------------------

pub stage_is : (n : Stage) (g : Body) (s : SsaState) (look_up : LookUpState) → n.function ≡ g → n.state ≡ s → n.look_up ≡ look_up
    → ◌≡◌ {A = Stage} (record { function = g; state = s; look_up = look_up }) n
stage_is n g s look_up at_function at_state at_look_up =
    ap (λ (h : Body). record { function = h; state = s; look_up = look_up }) (sym at_function)
    ∙ ap (λ (t : SsaState). record { function = n.function; state = t; look_up = look_up }) (sym at_state)
    ∙ ap (λ (l : LookUpState). record { function = n.function; state = n.state; look_up = l }) (sym at_look_up)

same_some : {x y : ℕ} → ◌≡◌ {A = Option ℕ} (Some x) (Some y) → x ≡ y
same_some same = cc

none_some : {x : ℕ} → ◌≡◌ {A = Option ℕ} None (Some x) → ⊥
none_some same = cc

-- what the end leaves, once it is known for the function
pub finished : (c : Setting) (f : Frame) (frames : List Frame) (tables : Blocks) (m n : Stage) (g : Body) (value : ℕ) (others zeros : List ℕ)
    → Base c (f ∷ frames) tables m → param_home m.function f.parameter ≡ Some f.block → Ended c f frames tables m g value
    → others ≡ results_of frames → CallsOf c.function frames m.look_up.calls
    → n.function ≡ g → n.state ≡ m.state → n.look_up ≡ record { calls = m.look_up.calls; results = value ∷ others; zeros = zeros }
    → Hands c frames n
finished c f frames tables m n g value others zeros base home ended same_others calls at_function at_state at_look_up =
    let look_up : LookUpState = record { calls = m.look_up.calls; results = value ∷ others; zeros = zeros } in
    subst (Hands c frames) (stage_is n g m.state look_up at_function at_state at_look_up)
    (ended_hands c f frames tables m g value look_up base home ended (ap (λ rs. value ∷ rs) same_others) calls)

-- what an entry leaves of tables for which there is one
entered_same : (layout : List ℕ) (s : SsaState) (b : ℕ) (tables : Blocks) → has_entry layout ≡ true → with_entry layout s b tables ≡ tables
entered_same [] s b tables is = absurd (off is)
  where
    off : ◌≡◌ {A = Bool} false true → ⊥
    off same = cc
entered_same (a ∷ layout) s b tables is = refl

frame_zero : (c : Setting) (f : Frame) (frames : List Frame) (tables : Blocks) (m : Stage) → Base c (f ∷ frames) tables m
    → AtRest tables (comes_from c) c.variable c.first f frames → f.todo ≡ [] → IsHere m.function m.state f.block f.parameter
    → NothingComes m.function f.parameter (reverse f.results)
    → Ended c f frames tables m (zeroed m.function f.block f.parameter) (zero_value m.function (value_at m.function f.parameter).ty)
frame_zero c f frames tables m base rest none here nothing =
    let entered : Describes c.own (inserted_in m.function f.block) m.state (completing_of c (f ∷ frames)) (with_entry m.function.layout m.state f.block tables)
    × BlocksSound (with_entry m.function.layout m.state f.block tables) =
    inserted c.own m.function m.state (completing_of c (f ∷ frames)) tables f.block base.describes base.sound in
    let same : with_entry m.function.layout m.state f.block tables ≡ tables = entered_same m.function.layout m.state f.block tables here.entry in
    zero_ends c f frames tables tables m base (subst (Describes c.own (inserted_in m.function f.block) m.state (completing_of c (f ∷ frames))) same entered.0)
    (inserted_counted c.own m.function m.state tables tables f.block (λ v. refl) base.counts)
    (itself_parameters tables m.state m.state base.describes.recorded (λ x b. refl)) base.sound
    (record { count = λ k. refl; assigned = λ p y. refl; naming = λ n. refl; answer = λ n. refl }) rest none
    (λ arm joins at.
    elim (arm_from c.own m.function m.state (completing_of c (f ∷ frames)) tables f.block arm base.describes joins at) [
      | inl entry ↦ inl entry.0
      | inr edge ↦ inr (edge_from c (f ∷ frames) tables m f.block arm base edge)
    ])
    here.parameter (λ r there. nothing.itself r (in_reversed f.results r there))

-- A frame that has nothing to do ends its look-up: a result was found for the frames below.
pub finishes : (c : Setting) (f : Frame) (frames : List Frame) (tables : Blocks) (m n : Stage) → Base c (f ∷ frames) tables m
    → AtRest tables (comes_from c) c.variable c.first f frames → f.todo ≡ [] → m.look_up.results ≡ f.results ++ results_of frames
    → CallsOf c.function frames m.look_up.calls → FinishesLookUp f.parameter f.block m n → Hands c frames n
finishes c f frames tables m n base rest none results calls finish =
    let here : IsHere m.function m.state f.block f.parameter = here_is c f frames tables m base rest none in
    let count : length finish.results ≡ length f.results = finish.count ∙ sym (result_count c f frames tables m base rest none) in
    let parts : (finish.results ≡ f.results) × (finish.others ≡ results_of frames) = same_parts finish.results finish.others f.results (results_of frames) count (sym finish.taken ∙ results) in
    let others : finish.others ≡ results_of frames = parts.1 in
    let close : (g : Body) (value : ℕ) → Ended c f frames tables m g value → n.function ≡ g → finish.value ≡ value → Hands c frames n =
    λ g value ended at_function at_value.
    finished c f frames tables m n g value finish.others (m.look_up.zeros ++ finish.zeros) base here.parameter ended others calls at_function finish.state
    (finish.look_up ∙ ap (λ (v : ℕ). record { calls = m.look_up.calls; results = v ∷ finish.others; zeros = m.look_up.zeros ++ finish.zeros }) at_value) in
    elim finish.ends [
      | inl no_parameter ↦ absurd (none_some (sym no_parameter.gone ∙ here.parameter))
      | inr ends ↦
          let home : ends.0 ≡ f.block = same_some (sym ends.1 ∙ here.parameter) in
          let turn : reverse finish.results ≡ reverse f.results = ap reverse parts.0 in
          elim ends.2 [
            | inl zero ↦
                close (zeroed m.function f.block f.parameter) (zero_value m.function (value_at m.function f.parameter).ty)
                (frame_zero c f frames tables m base rest none here (subst (NothingComes m.function f.parameter) turn zero.nothing))
                (zero.function ∙ ap (λ b. zeroed m.function b f.parameter) home) zero.answer
            | inr more ↦
                elim more [
                  | inl value ↦
                      close (with_alias m.function f.parameter finish.value) finish.value
                      (drop_ends c f frames tables m base rest none finish.value (subst (OneComes m.function f.parameter finish.value) turn value.one)) value.function refl
                  | inr parameter ↦
                      close (with_arguments m.function f.block (predecessors_of m.state f.block) (reverse f.results)) f.parameter
                      (fill_ends c f frames tables m base rest none (subst (SeveralCome m.function f.parameter) turn parameter.several))
                      (parameter.function ∙ ap (with_arguments m.function f.block (predecessors_of m.state f.block)) turn) parameter.answer
                ]
          ]
    ]
