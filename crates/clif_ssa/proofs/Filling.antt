-- Several values come to a parameter: each edge to its block passes one.
use Rattle.std.proofs.Common.{◌≡◌, ◌≢◌, ℕ, ◌+◌, ◌-◌, ◌<◌, ◌≤◌, true, List, [], ◌∷◌, ◌++◌, length, map, refl, ap, arith, sym, ◌∙◌, subst, inl, inr}
use Rattle.std.specs.Prelude.{Some, Contains, slice_get, slice_index}
use Rattle.std.specs.List.{AllByRecursion}
use Rattle.std.proofs.lemmas.Grind.{common_steps}
use Rattle.std.proofs.lemmas.Bool.{cases_eq}
use Rattle.clif_ir.specs.Body.{Body, block_at, resolved}
use Rattle.clif_ir.specs.Reading.{param_home}
use Rattle.clif_instructions.specs.Members.{place_of}
use Rattle.clif_instructions.specs.declared.block_call.BlockArg.{BlockArg}
use Rattle.clif_instructions.specs.declared.block_call.BlockArg.TheVariants.{Value}
use Rattle.clif_nodes.specs.declared.nodes.InstNode.{InstNode}
use Rattle.clif_instructions.proofs.Lists.{below_or_not}
use Rattle.clif_paths.specs.Places.{Arm}
use Rattle.clif_paths.specs.State.{Kind, unborn, born, pending, complete, zero_of, Definition}
use Rattle.clif_paths.specs.Blocks.{Blocks, front, last_place, with_filled}
use Rattle.clif_paths.specs.LookUp.{Paired}
use Rattle.clif_paths.proofs.Tables.{updated-same, updated-other}
use Rattle.clif_ssa.specs.Zeros.{ZeroAt, value_of_zero}
use Rattle.clif_records.specs.declared.tables.Pending.{Pending}
use Rattle.clif_ssa.specs.Own.{Own}
use Rattle.clif_ssa.specs.Ssa.{SsaState, predecessors_of}
use Rattle.clif_ssa.specs.LookUp.{branch_block, with_arguments}
use Rattle.clif_ssa.specs.Sound.{Describes, HomeFits, IsZero, HasInstructions, IsEdgeInto, BelongsTo, CountsArguments, IsBehind, IsCounted, edges_at, edge_target, args_of, passed_at, passed_count, InOrder}
use Rattle.clif_ssa.proofs.Bodies.{Firm, param_exists}
use Rattle.clif_ssa.proofs.Describing.{waiting_kept, homes_kept, assigns_not_kept, Arms, arms_of, SameEdges, edge_before, arms_kept}
use Rattle.clif_ssa.proofs.Firsts.{IsFirst, first_waits, order_rest, same_some, front_same}
use Rattle.clif_ssa.proofs.Housing.{Housed, place_at}
use Rattle.clif_ssa.proofs.Ordering.{contains_more, contains_cons, parameters_same, stands_place}
use Rattle.clif_ssa.proofs.Passing.{zero_passed, Passing, arguments_pass, arguments_given, given_by, given_paired, contains_map, some_pushed}

complete_or_pending : {x y : ℕ} → ◌≡◌ {A = Kind} (complete y) (pending x) → ⊥
complete_or_pending same = cc

born_or_pending : {n x : ℕ} → ◌≡◌ {A = Kind} (born n) (pending x) → ⊥
born_or_pending same = cc

zero_or_pending : {x y : ℕ} → ◌≡◌ {A = Kind} (zero_of x) (pending y) → ⊥
zero_or_pending same = cc

complete_home : {b c x : ℕ} {k : Kind} → ◌≡◌ {A = Definition} (record { home = front b; kind = k }) (record { home = front c; kind = complete x }) → b ≡ c
complete_home same = front_same (ap (λ (d : Definition). d.home) same)

-- THE PLACE -------------------------------------------------------------------------------------------------------

-- edges to the block pass arguments to all parameters before the first one that waits
pub count_first : (own : Own) (f : Body) (s : SsaState) (blocks : Blocks) (ps : List Pending) (p : Pending) (b i k : ℕ) → Housed f → CountsArguments own f s blocks
    → IsFirst f s ps blocks p b → Contains (predecessors_of s b) i → edge_target f i k ≡ Some b
    → BelongsTo own b i k (place_of p.param (block_at f b).params) (passed_count f i k)
count_first own f s blocks ps p b i k housed counts first here leads =
    let params : List ℕ = (block_at f b).params in
    let place : ℕ = place_of p.param params in
    let below : passed_count f i k + length (own.params b) ≤ place + length (own.passed i k) =
    subst (λ (d : Definition). IsCounted d.kind place (length (own.params b)) (passed_count f i k) (length (own.passed i k))) first.defined (counts.counted b i k p.param here leads first.parameter) in
    let few : length (own.passed i k) ≤ passed_count f i k = counts.no_fewer b i k here leads in
    let in_list : place < length params = stands_place p.param params (housed.stands p.param b first.parameter) in
    elim (below_or_not (passed_count f i k + length (own.params b)) (place + length (own.passed i k))) [
      | inl less ↦
          let before : ℕ = place - 1 in
          let one_less : before + 1 ≡ place = omega (arith, less, few) in
          let v : ℕ = slice_index params before in
          let inside_list : before < length params = omega (arith, one_less, in_list) in
          let at : place_of v params ≡ before = place_at params before (housed.once b) inside_list in
          let is : param_home f v ≡ Some b = housed.known v b (before, inside_list, refl) in
          absurd (by v at one_less is less few (blocks.function.definition v).kind refl (counts.behind b v is) (counts.counted b i k v here leads is))
      | inr not_less ↦ omega (arith, below, not_less)
    ]
  where
    by : (v : ℕ) {before : ℕ} → place_of v (block_at f b).params ≡ before → before + 1 ≡ place_of p.param (block_at f b).params → param_home f v ≡ Some b
        → passed_count f i k + length (own.params b) < place_of p.param (block_at f b).params + length (own.passed i k) → length (own.passed i k) ≤ passed_count f i k
        → (kind : Kind) → (blocks.function.definition v).kind ≡ kind → IsBehind (blocks.function.definition v).kind (place_of v (block_at f b).params) (length (own.params b))
        → IsCounted (blocks.function.definition v).kind (place_of v (block_at f b).params) (length (own.params b)) (passed_count f i k) (length (own.passed i k)) → ⊥
    by v at one_less is less few (pending x) defined behind counted =
        let other : v ≢ p.param = λ same. let even : place_of v (block_at f b).params ≡ place_of p.param (block_at f b).params = ap (λ u. place_of u (block_at f b).params) same in absurd (omega (arith, even, at, one_less)) in
        let after : place_of p.param (block_at f b).params < place_of v (block_at f b).params = first.before_others v x defined is other in
        absurd (omega (arith, at, one_less, after))
    by v at one_less is less few unborn defined behind counted = rw defined at behind
    by v at one_less is less few (born n) defined behind counted =
        let first_ones : place_of v (block_at f b).params < length (own.params b) = rw defined at behind in
        omega (arith, at, one_less, less, few, first_ones)
    by v at one_less is less few (complete x) defined behind counted =
        let enough : place_of v (block_at f b).params + length (own.passed i k) < passed_count f i k + length (own.params b) = rw defined at counted in
        omega (arith, at, one_less, less, enough)
    by v at one_less is less few (zero_of x) defined behind counted = rw defined at behind

-- WHAT STAYS ------------------------------------------------------------------------------------------------------

zero_filled : (f g : Body) (blocks : Blocks) (b c : ℕ) (z : ZeroAt) (v x : ℕ) (given : Arm → ℕ) → Passing b f g
    → blocks.function.definition v ≡ record { home = front b; kind = pending x } → IsZero f blocks c z → IsZero g (with_filled blocks x v given) c z
zero_filled f g blocks b c z v x given passing waits put = record {
  variable = put.variable;
  stands = zero_passed b f g z passing put.stands;
  defined =
      updated-other blocks.function.definition v (record { home = (blocks.function.definition v).home; kind = complete x }) (value_of_zero z)
      (λ same. zero_or_pending (sym (ap (λ (d : Definition). d.kind) put.defined) ∙ ap (λ u. (blocks.function.definition u).kind) same ∙ ap (λ (d : Definition). d.kind) waits))
      ∙ put.defined;
  others = λ w from below.
      updated-other blocks.function.definition v (record { home = (blocks.function.definition v).home; kind = complete x }) w
      (λ same. unborn_or_pending (sym (ap (λ (d : Definition). d.kind) (put.others w from below)) ∙ ap (λ u. (blocks.function.definition u).kind) same ∙ ap (λ (d : Definition). d.kind) waits))
      ∙ put.others w from below;
}
  where
    unborn_or_pending : {y : ℕ} → ◌≡◌ {A = Kind} unborn (pending y) → ⊥
    unborn_or_pending same = cc

zeros_filled : (f g : Body) (blocks : Blocks) (b c : ℕ) (zeros : List ZeroAt) (v x : ℕ) (given : Arm → ℕ) → Passing b f g
    → blocks.function.definition v ≡ record { home = front b; kind = pending x } → AllByRecursion (IsZero f blocks c) zeros
    → AllByRecursion (IsZero g (with_filled blocks x v given) c) zeros
zeros_filled f g blocks b c [] v x given passing waits all = tt
zeros_filled f g blocks b c (z ∷ zeros) v x given passing waits all =
    (zero_filled f g blocks b c z v x given passing waits all.0, zeros_filled f g blocks b c zeros v x given passing waits all.1)

filled_with : (own : Own) (f : Body) (insts : List InstNode) (s : SsaState) (p : Pending) (ps : List Pending) (blocks : Blocks) (b : ℕ) (given : Arm → ℕ)
    → Describes own f s (p ∷ ps) blocks → IsFirst f s ps blocks p b → blocks.sealed b ≡ true → Passing b f (record f { insts = insts })
    → ((i k : ℕ) (arm : Arm) → Contains (predecessors_of s b) i → edge_target f i k ≡ Some b → arm.source ≡ last_place blocks (branch_block f i)
    → (j : ℕ) → BelongsTo own b i k (place_of p.param (block_at f b).params) j → passed_at (record f { insts = insts }) i k j ≡ Some (Value (given arm)))
    → Describes own (record f { insts = insts }) s ps (with_filled blocks p.variable p.param given)
filled_with own f insts s p ps blocks b given before first sealed passing passed =
    let g : Body = record f { insts = insts } in
    let v : ℕ = p.param in
    let after : Blocks = with_filled blocks p.variable v given in
    let new_at : after.function.definition v ≡ record { home = front b; kind = complete p.variable } =
    updated-same blocks.function.definition v (record { home = (blocks.function.definition v).home; kind = complete p.variable }) v refl
    ∙ ap (λ (d : Definition). record { home = d.home; kind = complete p.variable }) first.defined in
    let is_old : (u : ℕ) → u ≢ v → after.function.definition u ≡ blocks.function.definition u =
    λ u other. updated-other blocks.function.definition v (record { home = (blocks.function.definition v).home; kind = complete p.variable }) u other in
    let count : length g.insts ≡ length f.insts = passing.count in
    let edges : SameEdges f g s s blocks after = record {
      predecessors_same = λ c. refl;
      block_same = λ c i here. passing.block i;
      target_same = λ c i k here. passing.target i k;
      count_same = λ c i here. refl;
    } in
    let arms : Arms g s after =
    arms_kept f g s s blocks after
    (record { edges = edges; insts_more = omega (arith, count); entry = refl; same_yes = λ c. refl; sealed = λ c. refl; joins = λ arm. refl })
    (arms_of own f s (p ∷ ps) blocks before) in
    record {
      sealed = arms.sealed;
      joined = arms.joined;
      entered = arms.entered;
      led = arms.led;
      leading = arms.leading;
      leading_apart = arms.leading_apart;
      entry_free = arms.entry_free;
      resolves = before.resolves;
      recorded = before.recorded;
      records_exist = before.records_exist;
      unrecorded = λ c y is. assigns_not_kept blocks after c y refl (λ k. refl) (before.unrecorded c y is);
      unwritten = before.unwritten;
      absent = λ u past. is_old u (λ same. absurd (omega (arith, past, same, param_exists f v b first.parameter))) ∙ before.absent u past;
      homes = λ u.
          elim (cases_eq u v) [
            | inl same ↦
                subst (λ w. HomeFits after w (after.function.definition w).kind) (sym same)
                (subst (λ (d : Definition). HomeFits after v d.kind) (sym new_at) (b, ap (λ (d : Definition). d.home) new_at, sealed))
            | inr other ↦ homes_kept blocks after u (is_old u other) (λ c is. is) (λ m is_given. (refl, refl)) (before.homes u)
          ];
      answered = before.answered;
      born_there = λ m is_given is_fresh.
          let old : (blocks.function.definition (blocks.answer m) ≡ record { home = (blocks.naming m).home; kind = born m }) × (resolved f (blocks.answer m) ≡ blocks.answer m) = before.born_there m is_given is_fresh in
          let other : blocks.answer m ≢ v = λ same. born_or_pending (sym (ap (λ (d : Definition). d.kind) old.0) ∙ ap (λ w. (blocks.function.definition w).kind) same ∙ ap (λ (d : Definition). d.kind) first.defined) in
          (is_old (blocks.answer m) other ∙ old.0, old.1);
      waiting = λ c q here. waiting_kept f g blocks after c q refl (is_old q.param (first.only_there c q here)) (before.waiting c q here);
      completed = λ q here.
          elim (before.completed q (contains_more p ps q here)) [
            | inl gone ↦ inl gone
            | inr there ↦ inr (there.0, waiting_kept f g blocks after there.0 q refl (is_old q.param (first.once q here)) there.1, there.2)
          ];
      pends = λ u y ends is.
          elim (cases_eq u v) [
            | inl same ↦ absurd (complete_or_pending (sym (ap (λ (d : Definition). d.kind) new_at) ∙ ap (λ w. (after.function.definition w).kind) (sym same) ∙ is))
            | inr other ↦
                elim (before.pends u y ends (sym (ap (λ (d : Definition). d.kind) (is_old u other)) ∙ is)) [
                  | inl old ↦ inl old
                  | inr listed ↦
                      elim (contains_cons p ps (record { variable = y; param = u }) listed) [
                        | inl at_first ↦ absurd (other (sym (ap (λ (q : Pending). q.param) at_first)))
                        | inr later ↦ inr later
                      ]
                ]
          ];
      waiting_recorded = before.waiting_recorded;
      complete_there = λ c u is.
          elim (cases_eq u v) [
            | inl same ↦
                let at : b ≡ c = complete_home (sym new_at ∙ ap (λ w. after.function.definition w) (sym same) ∙ is) in
                ap (λ w. param_home f w) same ∙ first.parameter ∙ ap Some at
            | inr other ↦ before.complete_there c u (sym (is_old u other) ∙ is)
          ];
      complete_first = λ c u w x is waits home.
          let other_w : w ≢ v = λ same. complete_or_pending (sym (ap (λ (d : Definition). d.kind) new_at) ∙ ap (λ z. (after.function.definition z).kind) (sym same) ∙ ap (λ (d : Definition). d.kind) waits) in
          let waits_before : blocks.function.definition w ≡ record { home = front c; kind = pending x } = sym (is_old w other_w) ∙ waits in
          elim (cases_eq u v) [
            | inl same ↦
                let at : c ≡ b = sym (complete_home (sym new_at ∙ ap (λ z. after.function.definition z) (sym same) ∙ is)) in
                let less : place_of v (block_at f b).params < place_of w (block_at f b).params =
                first.before_others w x (ap (λ (d : Definition). d.kind) waits_before) (home ∙ ap Some at) other_w in
                subst (λ d. place_of u (block_at f d).params < place_of w (block_at f d).params) (sym at)
                (subst (λ z. place_of z (block_at f b).params < place_of w (block_at f b).params) (sym same) less)
            | inr other ↦ before.complete_first c u w x (sym (is_old u other) ∙ is) waits_before home
          ];
      waiting_order = before.waiting_order;
      completing_order = λ c.
          subst (λ qs. InOrder (block_at f c).params qs) (sym (parameters_same f g c ps (λ q here. refl)))
          (order_rest (block_at f c).params f c p ps (before.completing_order c));
      passes = λ c u arm edge is at j belongs.
          let old : IsEdgeInto f s blocks c arm = edge_before f g s s blocks after c arm edges edge in
          elim (cases_eq u v) [
            | inl same ↦
                let here : c ≡ b = sym (complete_home (sym new_at ∙ ap (λ z. after.function.definition z) (sym same) ∙ is)) in
                passed edge.branch arm.edge arm (subst (λ d. Contains (predecessors_of s d) edge.branch) here old.leads) (old.to ∙ ap Some here) old.from j
                (subst (λ d. BelongsTo own d edge.branch arm.edge (place_of v (block_at f d).params) j) here
                (subst (λ z. BelongsTo own c edge.branch arm.edge (place_of z (block_at f c).params) j) same belongs))
                ∙ ap (λ t. Some (Value (t arm))) (sym (updated-same blocks.function.argument v given v refl))
                ∙ ap (λ z. Some (Value (after.function.argument z arm))) (sym same)
            | inr other ↦
                passing.kept edge.branch arm.edge j (Value (blocks.function.argument u arm))
                (before.passes c u arm old (sym (is_old u other) ∙ is) at j belongs)
                ∙ ap (λ t. Some (Value (t arm))) (sym (updated-other blocks.function.argument v given u other))
          ];
      instructions = λ c.
          let has : HasInstructions f blocks c (own.insts c) = before.instructions c in
          record { zeros = has.zeros; in_order = has.in_order; are_zeros = zeros_filled f g blocks b c has.zeros v p.variable given passing first.defined has.are_zeros };
    }

-- SEVERAL COME ----------------------------------------------------------------------------------------------------

-- the values that the branches to a block pass, by the arms into it
abbrev pub given_in : Body → SsaState → Blocks → ℕ → List ℕ → Arm → ℕ
given_in f s blocks b values = given_by blocks (map (branch_block f) (predecessors_of s b)) values

-- each edge of the branches to the block passes its value, at the place of the first parameter that waits
passed_there : (own : Own) (f : Body) (s : SsaState) (p : Pending) (ps : List Pending) (blocks : Blocks) (b : ℕ) (values : List ℕ) → Housed f
    → Describes own f s (p ∷ ps) blocks → CountsArguments own f s blocks → IsFirst f s ps blocks p b → length values ≡ length (predecessors_of s b)
    → (i k : ℕ) (arm : Arm) → Contains (predecessors_of s b) i → edge_target f i k ≡ Some b → arm.source ≡ last_place blocks (branch_block f i)
    → (j : ℕ) → BelongsTo own b i k (place_of p.param (block_at f b).params) j
    → passed_at (with_arguments f b (predecessors_of s b) values) i k j ≡ Some (Value (given_in f s blocks b values arm))
passed_there own f s p ps blocks b values housed before counts first count i k arm here leads from j belongs =
    let args : List BlockArg = args_of (slice_get (edges_at f i) k) in
    let last : BelongsTo own b i k (place_of p.param (block_at f b).params) (length args) = count_first own f s blocks ps p b i k housed counts first here leads in
    let at : length args ≡ j = omega (arith, last, belongs) in
    ap (λ xs. slice_get xs j)
    (arguments_given (predecessors_of s b) values f b i k blocks arm (λ j there. (before.leading b j there).0) (before.leading_apart b) count here leads from)
    ∙ ap (λ n. slice_get (args ++ Value (given_in f s blocks b values arm) ∷ []) n) (sym at)
    ∙ some_pushed args (Value (given_in f s blocks b values arm))

pub arguments_passing : (own : Own) (f : Body) (s : SsaState) (completing : List Pending) (blocks : Blocks) (b : ℕ) (values : List ℕ)
    → Describes own f s completing blocks → Passing b f (with_arguments f b (predecessors_of s b) values)
arguments_passing own f s completing blocks b values before = arguments_pass (predecessors_of s b) values f b (λ j there. (before.leading b j there).0)

-- the function again, with its instructions alone
only_insts : (b : ℕ) (f g : Body) → Passing b f g → Passing b f (record f { insts = g.insts })
only_insts b f g passing = record {
  same = refl;
  count = passing.count;
  block = passing.block;
  results = passing.results;
  plain = passing.plain;
  target = passing.target;
  kept = passing.kept;
  elsewhere = passing.elsewhere;
}

pub filled_described : (own : Own) (f : Body) (s : SsaState) (p : Pending) (ps : List Pending) (blocks : Blocks) (b : ℕ) (values : List ℕ) → Housed f
    → Describes own f s (p ∷ ps) blocks → CountsArguments own f s blocks → param_home f p.param ≡ Some b → blocks.sealed b ≡ true
    → length values ≡ length (predecessors_of s b)
    → Describes own (with_arguments f b (predecessors_of s b) values) s ps (with_filled blocks p.variable p.param (given_in f s blocks b values))
filled_described own f s p ps blocks b values housed before counts is sealed count =
    let g : Body = with_arguments f b (predecessors_of s b) values in
    let first : IsFirst f s ps blocks p b = first_waits own f s p ps blocks b before is in
    let passing : Passing b f g = arguments_passing own f s (p ∷ ps) blocks b values before in
    subst (λ h. Describes own h s ps (with_filled blocks p.variable p.param (given_in f s blocks b values))) (sym passing.same)
    (filled_with own f g.insts s p ps blocks b (given_in f s blocks b values) before first sealed (only_insts b f g passing)
    (passed_there own f s p ps blocks b values housed before counts first count))

-- each arm into the block gets the value that stands beside the block from which it comes
pub given_arms : (own : Own) (f : Body) (s : SsaState) (completing : List Pending) (blocks : Blocks) (b : ℕ) (values : List ℕ)
    → Describes own f s completing blocks → length values ≡ length (predecessors_of s b) → (i : ℕ) → Contains (predecessors_of s b) i → (arm : Arm)
    → arm.source ≡ last_place blocks (branch_block f i)
    → Paired (map (branch_block f) (predecessors_of s b)) values (branch_block f i) (given_in f s blocks b values arm)
given_arms own f s completing blocks b values before count i here arm from =
    let long : length values ≡ length (map (branch_block f) (predecessors_of s b)) = grind (arith, common_steps, count) in
    given_paired blocks (map (branch_block f) (predecessors_of s b)) values (branch_block f i) arm (before.leading_apart b) long
    (contains_map (branch_block f) (predecessors_of s b) i here) from

pub filled_firm : (b : ℕ) (f g : Body) → Passing b f g → Firm f → Firm g
filled_firm b f g passing firm = subst Firm (sym passing.same) (record { leads = firm.leads; ends = firm.ends; homes_exist = firm.homes_exist; stands = firm.stands; params_exist = firm.params_exist })

pub filled_housed : (b : ℕ) (f g : Body) → Passing b f g → Housed f → Housed g
filled_housed b f g passing housed = subst Housed (sym passing.same) (record { stands = housed.stands; known = housed.known; once = housed.once })

-- the edges to the block pass one argument more
one_more : (own : Own) (f : Body) (s : SsaState) (p : Pending) (ps : List Pending) (blocks : Blocks) (b : ℕ) (values : List ℕ)
    → Describes own f s (p ∷ ps) blocks → length values ≡ length (predecessors_of s b) → (i k : ℕ) → Contains (predecessors_of s b) i → edge_target f i k ≡ Some b
    → passed_count (with_arguments f b (predecessors_of s b) values) i k ≡ passed_count f i k + 1
one_more own f s p ps blocks b values before count i k here leads =
    let arm : Arm = record { source = last_place blocks (branch_block f i); target = front b; edge = k } in
    let args : List BlockArg = args_of (slice_get (edges_at f i) k) in
    let longer : length (args ++ Value (given_in f s blocks b values arm) ∷ []) ≡ length args + 1 = grind (arith, common_steps) in
    ap length (arguments_given (predecessors_of s b) values f b i k blocks arm (λ j there. (before.leading b j there).0) (before.leading_apart b) count here leads refl)
    ∙ longer

-- what is counted, for a parameter that stays as it is, where one argument more is passed
more_counted : (kind : Kind) (place callers count given first : ℕ) → IsCounted kind place callers count given → count + callers ≡ first + given
    → ((x : ℕ) → kind ≡ pending x → first < place) → IsCounted kind place callers (count + 1) given
more_counted unborn place callers count given first is at later = tt
more_counted (born n) place callers count given first is at later = tt
more_counted (pending x) place callers count given first is at later = omega (arith, later x refl, at)
more_counted (complete x) place callers count given first is at later = omega (arith, is)
more_counted (zero_of x) place callers count given first is at later = tt

counted_with : (own : Own) (f : Body) (insts : List InstNode) (s : SsaState) (p : Pending) (ps : List Pending) (blocks : Blocks) (b : ℕ) (given : Arm → ℕ)
    → Housed f → CountsArguments own f s blocks → IsFirst f s ps blocks p b → Passing b f (record f { insts = insts })
    → ((i k : ℕ) → Contains (predecessors_of s b) i → edge_target f i k ≡ Some b → passed_count (record f { insts = insts }) i k ≡ passed_count f i k + 1)
    → CountsArguments own (record f { insts = insts }) s (with_filled blocks p.variable p.param given)
counted_with own f insts s p ps blocks b given housed counts first passing more =
    let g : Body = record f { insts = insts } in
    let v : ℕ = p.param in
    let params : List ℕ = (block_at f b).params in
    let after : Blocks = with_filled blocks p.variable v given in
    let now : Definition = record { home = (blocks.function.definition v).home; kind = complete p.variable } in
    let is_new : after.function.definition v ≡ now = updated-same blocks.function.definition v now v refl in
    let is_old : (u : ℕ) → u ≢ v → after.function.definition u ≡ blocks.function.definition u = λ u other. updated-other blocks.function.definition v now u other in
    let old_leads : (c i k : ℕ) → edge_target g i k ≡ Some c → edge_target f i k ≡ Some c = λ c i k leads. sym (passing.target i k) ∙ leads in
    let in_block : (i k u : ℕ) → Contains (predecessors_of s b) i → edge_target f i k ≡ Some b → param_home f u ≡ Some b
    → IsCounted (after.function.definition u).kind (place_of u params) (length (own.params b)) (passed_count g i k) (length (own.passed i k)) =
    λ i k u here leads is.
    let at : BelongsTo own b i k (place_of v params) (passed_count f i k) = count_first own f s blocks ps p b i k housed counts first here leads in
    subst (λ n. IsCounted (after.function.definition u).kind (place_of u params) (length (own.params b)) n (length (own.passed i k))) (sym (more i k here leads))
    (elim (cases_eq u v) [
      | inl same ↦
          let below : place_of v params + length (own.passed i k) < passed_count f i k + 1 + length (own.params b) = omega (arith, at) in
          subst (λ w. IsCounted (after.function.definition w).kind (place_of w params) (length (own.params b)) (passed_count f i k + 1) (length (own.passed i k))) (sym same)
          (subst (λ (d : Definition). IsCounted d.kind (place_of v params) (length (own.params b)) (passed_count f i k + 1) (length (own.passed i k))) (sym is_new) below)
      | inr other ↦
          subst (λ (d : Definition). IsCounted d.kind (place_of u params) (length (own.params b)) (passed_count f i k + 1) (length (own.passed i k))) (sym (is_old u other))
          (more_counted (blocks.function.definition u).kind (place_of u params) (length (own.params b)) (passed_count f i k) (length (own.passed i k)) (place_of v params) (counts.counted b i k u here leads is) at
          (λ x waits. first.before_others u x waits is other))
    ]) in
    let other_block : (c i k u : ℕ) → c ≢ b → Contains (predecessors_of s c) i → edge_target f i k ≡ Some c → param_home f u ≡ Some c
    → IsCounted (after.function.definition u).kind (place_of u (block_at f c).params) (length (own.params c)) (passed_count g i k) (length (own.passed i k)) =
    λ c i k u apart here leads is.
    let other : u ≢ v = λ same. apart (same_some (sym is ∙ ap (λ w. param_home f w) same ∙ first.parameter)) in
    subst (λ n. IsCounted (after.function.definition u).kind (place_of u (block_at f c).params) (length (own.params c)) n (length (own.passed i k))) (sym (passing.elsewhere i k c leads apart))
    (subst (λ (d : Definition). IsCounted d.kind (place_of u (block_at f c).params) (length (own.params c)) (passed_count f i k) (length (own.passed i k))) (sym (is_old u other)) (counts.counted c i k u here leads is)) in
    record {
      behind = λ c u is.
          elim (cases_eq u v) [
            | inl same ↦
                let at : c ≡ b = same_some (sym is ∙ ap (λ w. param_home f w) same ∙ first.parameter) in
                let old : length (own.params c) ≤ place_of v (block_at f c).params =
                subst (λ (d : Definition). IsBehind d.kind (place_of v (block_at f c).params) (length (own.params c))) first.defined (counts.behind c v (first.parameter ∙ ap Some (sym at))) in
                subst (λ w. IsBehind (after.function.definition w).kind (place_of w (block_at f c).params) (length (own.params c))) (sym same)
                (subst (λ (d : Definition). IsBehind d.kind (place_of v (block_at f c).params) (length (own.params c))) (sym is_new) old)
            | inr other ↦
                subst (λ (d : Definition). IsBehind d.kind (place_of u (block_at f c).params) (length (own.params c))) (sym (is_old u other)) (counts.behind c u is)
          ];
      callers = counts.callers;
      counted = λ c i k u here leads is.
          elim (cases_eq c b) [
            | inl same ↦
                subst (λ d. IsCounted (after.function.definition u).kind (place_of u (block_at f d).params) (length (own.params d)) (passed_count g i k) (length (own.passed i k))) (sym same)
                (in_block i k u (subst (λ d. Contains (predecessors_of s d) i) same here) (old_leads c i k leads ∙ ap Some same) (is ∙ ap Some same))
            | inr apart ↦ other_block c i k u apart here (old_leads c i k leads) is
          ];
      no_fewer = λ c i k here leads.
          elim (cases_eq c b) [
            | inl same ↦
                let longer : passed_count g i k ≡ passed_count f i k + 1 =
                more i k (subst (λ d. Contains (predecessors_of s d) i) same here) (old_leads c i k leads ∙ ap Some same) in
                omega (arith, longer, counts.no_fewer c i k here (old_leads c i k leads))
            | inr apart ↦
                subst (λ n. length (own.passed i k) ≤ n) (sym (passing.elsewhere i k c (old_leads c i k leads) apart)) (counts.no_fewer c i k here (old_leads c i k leads))
          ];
      no_more = λ c i k here leads.
          elim (cases_eq c b) [
            | inl same ↦
                let here_b : Contains (predecessors_of s b) i = subst (λ d. Contains (predecessors_of s d) i) same here in
                let leads_b : edge_target f i k ≡ Some b = old_leads c i k leads ∙ ap Some same in
                let at : BelongsTo own b i k (place_of v params) (passed_count f i k) = count_first own f s blocks ps p b i k housed counts first here_b leads_b in
                let longer : passed_count g i k ≡ passed_count f i k + 1 = more i k here_b leads_b in
                let in_list : place_of v params < length params = stands_place v params (housed.stands v b first.parameter) in
                let fits : passed_count g i k + length (own.params b) ≤ length params + length (own.passed i k) = omega (arith, at, longer, in_list) in
                subst (λ d. passed_count g i k + length (own.params d) ≤ length (block_at f d).params + length (own.passed i k)) (sym same) fits
            | inr apart ↦
                let same_count : passed_count g i k ≡ passed_count f i k = passing.elsewhere i k c (old_leads c i k leads) apart in
                let old : passed_count f i k + length (own.params c) ≤ length (block_at f c).params + length (own.passed i k) = counts.no_more c i k here (old_leads c i k leads) in
                omega (arith, same_count, old)
          ];
    }

pub filled_counted : (own : Own) (f : Body) (s : SsaState) (p : Pending) (ps : List Pending) (blocks : Blocks) (b : ℕ) (values : List ℕ) → Housed f
    → Describes own f s (p ∷ ps) blocks → CountsArguments own f s blocks → param_home f p.param ≡ Some b
    → length values ≡ length (predecessors_of s b)
    → CountsArguments own (with_arguments f b (predecessors_of s b) values) s (with_filled blocks p.variable p.param (given_in f s blocks b values))
filled_counted own f s p ps blocks b values housed before counts is count =
    let g : Body = with_arguments f b (predecessors_of s b) values in
    let passing : Passing b f g = arguments_passing own f s (p ∷ ps) blocks b values before in
    subst (λ h. CountsArguments own h s (with_filled blocks p.variable p.param (given_in f s blocks b values))) (sym passing.same)
    (counted_with own f g.insts s p ps blocks b (given_in f s blocks b values) housed counts (first_waits own f s p ps blocks b before is) (only_insts b f g passing)
    (one_more own f s p ps blocks b values before count))
