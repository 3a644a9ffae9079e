-- A new parameter is recorded and waits.
use Rattle.std.proofs.Common.{◌≡◌, ◌≢◌, ℕ, zero, suc, ◌+◌, ◌<◌, ◌≤◌, ◌==◌, ◌&&◌, true, false, List, [], ◌∷◌, ◌++◌, length, refl, ap, arith, sym, ◌∙◌, subst, ◌⊎◌, inl, inr}
use Rattle.std.specs.Prelude.{Option, Some, None, Contains, slice_get, slice_index, cond}
use Rattle.std.proofs.lemmas.Grind.{common_steps}
use Rattle.std.proofs.lemmas.Bool.{cases_eq}
use Rattle.std.proofs.lemmas.List.Elements.{Contains-append_left, Contains-push_cases}
use Rattle.clif_types.specs.declared.types.«Type».{«Type»}
use Rattle.clif_ir.specs.Body.{Body, block_at, resolved, alias_of}
use Rattle.clif_nodes.specs.Nodes.{BlockNode, empty_block}
use Rattle.clif_ir.specs.Changes.{with_param}
use Rattle.clif_ir.specs.Reading.{param_home, home_of_node}
use Rattle.clif_instructions.specs.Members.{place_of}
use Rattle.clif_nodes.specs.declared.nodes.ValueNode.{ValueNode}
use Rattle.clif_nodes.specs.declared.nodes.ValueOrigin.TheVariants.{Param}
use Rattle.clif_instructions.proofs.Lists.{at_set, at_push}
use Rattle.clif_ir.proofs.Aliases.{ways_end-append, follow_end}
use Rattle.clif_paths.specs.State.{pending, complete, Definition, Kind}
use Rattle.clif_paths.specs.Blocks.{Blocks, front, with_parameter}
use Rattle.clif_paths.specs.BlockLaws.{BlocksSound}
use Rattle.clif_paths.proofs.BlockSteps.{parameter_keeps}
use Rattle.clif_paths.proofs.Tables.{updated-same, updated-other}
use Rattle.clif_records.specs.declared.tables.Pending.{Pending}
use Rattle.clif_ssa.specs.Own.{Own}
use Rattle.clif_records.specs.Tables.{is_yes, pending_of}
use Rattle.clif_ssa.specs.Ssa.{SsaState, sealed_of, record_of, Records, SamePredecessors}
use Rattle.clif_ssa.specs.Sound.{Describes, HomeFits, IsWaiting, IsEdgeInto, InOrder, parameters_of, BelongsTo}
use Rattle.clif_ssa.proofs.Bodies.{Firm, past_alias, no_alias_behind, resolved-append, leads_inside-append, home-append, param_exists}
use Rattle.clif_ssa.proofs.Ordering.{none_contained, place_append, place_push, in_order_moved, in_order_push, in_order_small, parameters_fewer}
use Rattle.clif_ssa.proofs.Describing.{Extends, Arms, arms_of, arms_kept, SameEdges, same_edges, edge_before, instructions_kept, waiting_kept, waiting_exists, homes_kept, assigns_not_kept, record_changed, not_recorded, is_recorded, recorded_here}

-- THE FUNCTION ----------------------------------------------------------------------------------------------------

abbrev pub param_node : «Type» → ℕ → ValueNode
param_node ty b = record { ty = ty; origin = Param b }

pub param_no_alias : (ty : «Type») (b j : ℕ) → alias_of (param_node ty b ∷ []) j ≡ None
param_no_alias ty b zero = refl
param_no_alias ty b (suc j) = past_alias [] j (omega arith)

pub param_resolved : (f : Body) (b : ℕ) (ty : «Type») → Firm f → (v : ℕ) → resolved (with_param f b ty) v ≡ resolved f v
param_resolved f b ty firm v = resolved-append f.values (param_node ty b ∷ []) firm.leads firm.ends (param_no_alias ty b) v

pub param_count : (f : Body) (b : ℕ) (ty : «Type») → length (with_param f b ty).values ≡ length f.values + 1
param_count f b ty = grind (arith, common_steps)

pub new_unaliased : (f : Body) → Firm f → resolved f (length f.values) ≡ length f.values
new_unaliased f firm = follow_end f.values (length f.values) (length f.values) (past_alias f.values (length f.values) (omega arith))

-- what isn't there stands for itself
pub past_unaliased : (f : Body) (j : ℕ) → resolved f (length f.values + j) ≡ length f.values + j
past_unaliased f j = follow_end f.values (length f.values) (length f.values + j) (past_alias f.values (length f.values + j) (omega arith))

home_at_end : (values : List ValueNode) (node : ValueNode) → home_of_node (slice_get (values ++ node ∷ []) (length values)) ≡ home_of_node (Some node)
home_at_end [] node = refl
home_at_end (n ∷ values) node = home_at_end values node

pub param_home_new : (f : Body) (b : ℕ) (ty : «Type») → param_home (with_param f b ty) (length f.values) ≡ Some b
param_home_new f b ty = home_at_end f.values (param_node ty b)

pub param_insts : (f : Body) (b : ℕ) (ty : «Type») → b < length f.blocks → (c : ℕ) → (block_at (with_param f b ty) c).insts ≡ (block_at f c).insts
param_insts f b ty there c =
    at_set (λ (m : BlockNode). m.insts ≡ (block_at f c).insts) f.blocks b (record (block_at f b) { params = (block_at f b).params ++ length f.values ∷ [] }) c empty_block there
    (λ same. ap (λ d. (block_at f d).insts) (sym same)) (λ _. refl)

pub param_params : (f : Body) (b : ℕ) (ty : «Type») → b < length f.blocks → (c : ℕ)
    → ((c ≡ b) × ((block_at (with_param f b ty) c).params ≡ (block_at f c).params ++ length f.values ∷ []))
    ⊎ ((c ≢ b) × ((block_at (with_param f b ty) c).params ≡ (block_at f c).params))
param_params f b ty there c =
    at_set (λ (m : BlockNode). ((c ≡ b) × (m.params ≡ (block_at f c).params ++ length f.values ∷ [])) ⊎ ((c ≢ b) × (m.params ≡ (block_at f c).params)))
    f.blocks b (record (block_at f b) { params = (block_at f b).params ++ length f.values ∷ [] }) c empty_block there
    (λ same. inl (same, ap (λ d. (block_at f d).params ++ length f.values ∷ []) (sym same))) (λ other. inr (other, refl))

-- a parameter that was there keeps its place, and the new one is behind it
pub param_place : (f : Body) (b : ℕ) (ty : «Type») → Firm f → b < length f.blocks → (v c : ℕ) → param_home f v ≡ Some c
    → place_of v (block_at (with_param f b ty) c).params ≡ place_of v (block_at f c).params
param_place f b ty firm there v c is =
    elim (param_params f b ty there c) [
      | inl here ↦ ap (place_of v) here.1 ∙ place_append v (block_at f c).params (length f.values ∷ []) (firm.stands v c is)
      | inr apart ↦ ap (place_of v) apart.1
    ]

pub param_new_place : (f : Body) (b : ℕ) (ty : «Type») → Firm f → b < length f.blocks → place_of (length f.values) (block_at (with_param f b ty) b).params ≡ length (block_at f b).params
param_new_place f b ty firm there =
    elim (param_params f b ty there b) [
      | inl here ↦ ap (place_of (length f.values)) here.1 ∙ place_push (length f.values) (block_at f b).params (firm.params_exist b)
      | inr apart ↦ absurd (apart.0 refl)
    ]

pub param_place_behind : (f : Body) (b : ℕ) (ty : «Type») → Firm f → b < length f.blocks → (v : ℕ) → param_home f v ≡ Some b
    → place_of v (block_at (with_param f b ty) b).params < place_of (length f.values) (block_at (with_param f b ty) b).params
param_place_behind f b ty firm there v is = omega (arith, param_place f b ty firm there v b is, param_new_place f b ty firm there, firm.stands v b is)

pub param_firm : (f : Body) (b : ℕ) (ty : «Type») → Firm f → b < length f.blocks → Firm (with_param f b ty)
param_firm f b ty firm there =
    let g : Body = with_param f b ty in
    let count : length g.blocks ≡ length f.blocks = grind (arith, common_steps) in
    let long : length g.values ≡ length f.values + 1 = param_count f b ty in
    let home_before : (v c : ℕ) → v ≢ length f.values → param_home g v ≡ Some c → param_home f v ≡ Some c =
    λ v c other is. sym (home-append f.values (param_node ty b ∷ []) v (omega (arith, param_exists g v c is, long, other))) ∙ is in
    record {
      leads = leads_inside-append f.values (param_node ty b ∷ []) firm.leads (param_no_alias ty b);
      ends = ways_end-append f.values (param_node ty b ∷ []) firm.leads refl (no_alias_behind f.values (param_node ty b ∷ []) (param_no_alias ty b)) firm.ends;
      homes_exist = λ v c is.
          elim (cases_eq v (length f.values)) [
            | inl same ↦
                let e : b ≡ c = same_home (sym (param_home_new f b ty) ∙ ap (param_home g) (sym same) ∙ is) in
                omega (arith, e, there, count)
            | inr other ↦ omega (arith, firm.homes_exist v c (home_before v c other is), count)
          ];
      stands = λ v c is.
          elim (param_params f b ty there c) [
            | inl here ↦
                let more : length (block_at g c).params ≡ length (block_at f c).params + 1 = ap length here.1 ∙ one_longer (block_at f c).params (length f.values) in
                elim (cases_eq v (length f.values)) [
                  | inl same ↦
                      let new : place_of v (block_at g c).params ≡ length (block_at f c).params =
                      ap (λ w. place_of w (block_at g c).params) same ∙ ap (place_of (length f.values)) here.1 ∙ place_push (length f.values) (block_at f c).params (firm.params_exist c) in
                      omega (arith, new, more)
                  | inr other ↦
                      let old : param_home f v ≡ Some c = home_before v c other is in
                      omega (arith, param_place f b ty firm there v c old, firm.stands v c old, more)
                ]
            | inr apart ↦
                elim (cases_eq v (length f.values)) [
                  | inl same ↦ absurd (apart.0 (same_home (sym is ∙ ap (param_home g) same ∙ param_home_new f b ty)))
                  | inr other ↦ subst (λ ps. place_of v ps < length ps) (sym apart.1) (firm.stands v c (home_before v c other is))
                ]
          ];
      params_exist = λ c k here.
          elim (param_params f b ty there c) [
            | inl at ↦
                subst (λ ps. k < length ps → slice_index ps k < length g.values) (sym at.1)
                (λ below.
                at_push (λ w. w < length g.values) (block_at f c).params (length f.values) k 0
                (λ inside. omega (arith, firm.params_exist c k inside, long)) (λ last. omega (arith, long)) (λ past. omega (arith, long))) here
            | inr apart ↦
                subst (λ ps. k < length ps → slice_index ps k < length g.values) (sym apart.1) (λ below. omega (arith, firm.params_exist c k below, long)) here
          ];
    }
  where
    same_home : {x y : ℕ} → ◌≡◌ {A = Option ℕ} (Some x) (Some y) → x ≡ y
    same_home same = cc

    one_longer : (xs : List ℕ) (x : ℕ) → length (xs ++ x ∷ []) ≡ length xs + 1
    one_longer xs x = grind (arith, common_steps)

-- THE TABLES ------------------------------------------------------------------------------------------------------

-- the new parameter waits in its block, or is to be completed now
pub record NewWaits (s t : SsaState) (b : ℕ) (new : Pending) (completing : List Pending) : Type 0 where
  pub same_yes : (c : ℕ) → is_yes (sealed_of t c) ≡ is_yes (sealed_of s c)
  pub entries : (c : ℕ) → (pending_of (sealed_of t c) ≡ pending_of (sealed_of s c))
      ⊎ ((c ≡ b) × (pending_of (sealed_of t c) ≡ pending_of (sealed_of s c) ++ new ∷ []))
  pub now : (p : Pending) → Contains completing p → (new ≡ p) × (is_yes (sealed_of t b) ≡ true)
  pub there : ((c : ℕ) × Contains (pending_of (sealed_of t c)) new) ⊎ Contains completing new
  pub one : length completing ≤ 1

new_known : (s t : SsaState) (b : ℕ) (new : Pending) (completing : List Pending) → NewWaits s t b new completing → (c : ℕ) (p : Pending)
    → Contains (pending_of (sealed_of t c)) p → Contains (pending_of (sealed_of s c)) p ⊎ ((c ≡ b) × (new ≡ p))
new_known s t b new completing waits c p here =
    elim (waits.entries c) [
      | inl same ↦ inl (subst (λ xs. Contains xs p) same here)
      | inr more ↦
          elim (Contains-push_cases (pending_of (sealed_of s c)) new p (subst (λ xs. Contains xs p) more.1 here)) [
            | inl old ↦ inl old
            | inr at ↦ inr (more.0, at)
          ]
    ]

new_kept : (s t : SsaState) (b : ℕ) (new : Pending) (completing : List Pending) → NewWaits s t b new completing → (c : ℕ) (p : Pending)
    → Contains (pending_of (sealed_of s c)) p → Contains (pending_of (sealed_of t c)) p
new_kept s t b new completing waits c p here =
    elim (waits.entries c) [
      | inl same ↦ subst (λ xs. Contains xs p) (sym same) here
      | inr more ↦ subst (λ xs. Contains xs p) (sym more.1) (Contains-append_left (pending_of (sealed_of s c)) (new ∷ []) p here)
    ]

abbrev pub new_pending : Body → ℕ → Pending
new_pending f x = record { variable = x; param = length f.values }

pub parameter_described : (own : Own) (f : Body) (s t : SsaState) (completing : List Pending) (blocks : Blocks) (x b : ℕ) (ty : «Type»)
    → Firm f → Describes own f s [] blocks → b < length f.blocks → record_of s x b ≡ None → Records s t x b (length f.values) → SamePredecessors s t
    → NewWaits s t b (new_pending f x) completing
    → Describes own (with_param f b ty) t completing (with_parameter blocks b x (length f.values))
parameter_described own f s t completing blocks x b ty firm before there none written same waits =
    let g : Body = with_param f b ty in
    let n : ℕ = length f.values in
    let after : Blocks = with_parameter blocks b x n in
    let new : Definition = record { home = front b; kind = pending x } in
    let long : length g.values ≡ n + 1 = param_count f b ty in
    let is_new : after.function.definition n ≡ new = updated-same blocks.function.definition n new n refl in
    let is_old : (v : ℕ) → v ≢ n → after.function.definition v ≡ blocks.function.definition v = λ v other. updated-other blocks.function.definition n new v other in
    let old_below : (v : ℕ) → v < n → after.function.definition v ≡ blocks.function.definition v = λ v below. is_old v (λ same. absurd (omega (arith, below, same))) in
    let extends : Extends f g blocks after = record {
      values_more = omega (arith, long);
      insts_more = omega arith;
      inst_same = λ i here. refl;
      constants_kept = λ constant bytes here. here;
      definition_same = old_below;
    } in
    let edges : SameEdges f g s t blocks after = same_edges f g s t blocks after (arms_of own f s [] blocks before) extends same (λ c i here. refl) in
    let arms : Arms g t after =
    arms_kept f g s t blocks after
    (record { edges = edges; insts_more = omega arith; entry = refl; same_yes = waits.same_yes; sealed = λ c. refl; joins = λ arm. refl })
    (arms_of own f s [] blocks before) in
    let waits_still : (c : ℕ) (p : Pending) → IsWaiting f blocks c p → IsWaiting g after c p =
    λ c p is.
    let inside : p.param < n = waiting_exists f blocks c p is in
    waiting_kept f g blocks after c p (home-append f.values (param_node ty b ∷ []) p.param inside) (old_below p.param inside) is in
    let waits_new : IsWaiting g after b (new_pending f x) = record { parameter = param_home_new f b ty; defined = is_new } in
    let home_before : (v c : ℕ) → v ≢ n → param_home g v ≡ Some c → param_home f v ≡ Some c =
    λ v c other is. sym (home-append f.values (param_node ty b ∷ []) v (omega (arith, param_exists g v c is, long, other))) ∙ is in
    let complete_old : (made_for v c : ℕ) → after.function.definition v ≡ record { home = front c; kind = complete made_for } → (v ≢ n) × (blocks.function.definition v ≡ record { home = front c; kind = complete made_for }) =
    λ made_for v c is.
    let other : v ≢ n = λ one. pending_or_complete (ap (λ (d : Definition). d.kind) (sym is_new) ∙ ap (λ w. (after.function.definition w).kind) (sym one) ∙ ap (λ (d : Definition). d.kind) is) in
    (other, sym (is_old v other) ∙ is) in
    record {
      sealed = arms.sealed;
      joined = arms.joined;
      entered = arms.entered;
      led = arms.led;
      leading = arms.leading;
      leading_apart = arms.leading_apart;
      entry_free = arms.entry_free;
      resolves = λ v. before.resolves v ∙ sym (param_resolved f b ty firm v);
      recorded = λ c y. record_changed blocks.recorded b x n c y ∙ ap (λ r. cond (y == x && c == b) (Some n) r) (before.recorded c y) ∙ sym (written y c);
      records_exist = λ c y v is.
          elim (is_recorded (y == x && c == b) n v (record_of s y c) (sym (written y c) ∙ is)) [
            | inl same ↦ omega (arith, same, long)
            | inr old ↦ omega (arith, before.records_exist c y v old, long)
          ];
      unrecorded = λ c y is.
          assigns_not_kept blocks after c y refl (λ k. refl) (before.unrecorded c y (not_recorded (y == x && c == b) n (record_of s y c) (sym (written y c) ∙ is)).1);
      unwritten = before.unwritten;
      absent = λ v past.
          is_old v (λ same. absurd (omega (arith, past, same, long))) ∙ before.absent v (omega (arith, past, long));
      homes = λ v.
          elim (cases_eq v n) [
            | inl same ↦
                subst (λ w. HomeFits after w (after.function.definition w).kind) (sym same)
                (subst (λ (d : Definition). HomeFits after n d.kind) (sym is_new) (b, ap (λ (d : Definition). d.home) is_new))
            | inr other ↦ homes_kept blocks after v (is_old v other) (λ c known. known) (λ m given. (refl, refl)) (before.homes v)
          ];
      answered = λ m given. omega (arith, before.answered m given, long);
      born_there = λ m given is_fresh.
          let old : _ × (resolved f (blocks.answer m) ≡ blocks.answer m) = before.born_there m given is_fresh in
          (old_below (blocks.answer m) (before.answered m given) ∙ old.0, param_resolved f b ty firm (blocks.answer m) ∙ old.1);
      waiting = λ c p here.
          elim (new_known s t b (new_pending f x) completing waits c p here) [
            | inl old ↦ waits_still c p (before.waiting c p old)
            | inr now ↦ subst (λ d. IsWaiting g after d p) (sym now.0) (subst (λ q. IsWaiting g after b q) now.1 waits_new)
          ];
      completed = λ p here.
          let now : (new_pending f x ≡ p) × (is_yes (sealed_of t b) ≡ true) = waits.now p here in
          inr (b, subst (λ q. IsWaiting g after b q) now.0 waits_new, now.1);
      pends = λ v y ends is.
          elim (cases_eq v n) [
            | inl same ↦
                let variable : x ≡ y = same_variable (sym (ap (λ (d : Definition). d.kind) is_new) ∙ ap (λ w. (after.function.definition w).kind) (sym same) ∙ is) in
                let e : ◌≡◌ {A = Pending} (new_pending f x) (record { variable = y; param = v }) = same_pending x y n v variable (sym same) in
                elim waits.there [
                  | inl in_block ↦ inl (in_block.0, subst (λ q. Contains (pending_of (sealed_of t in_block.0)) q) e in_block.1)
                  | inr in_list ↦ inr (subst (λ q. Contains completing q) e in_list)
                ]
            | inr other ↦
                elim (before.pends v y (sym (param_resolved f b ty firm v) ∙ ends) (sym (ap (λ (d : Definition). d.kind) (is_old v other)) ∙ is)) [
                  | inl old ↦ inl (old.0, new_kept s t b (new_pending f x) completing waits old.0 (record { variable = y; param = v }) old.1)
                  | inr listed ↦ absurd (none_contained _ listed)
                ]
          ];
      waiting_recorded = λ c p here is.
          let old_none : ((p.variable == x && c == b) ≡ false) × (record_of s p.variable c ≡ None) = not_recorded (p.variable == x && c == b) n (record_of s p.variable c) (sym (written p.variable c) ∙ is) in
          elim (new_known s t b (new_pending f x) completing waits c p here) [
            | inl old ↦ before.waiting_recorded c p old old_none.1
            | inr now ↦ some_or_none (sym (recorded_here x b n (record_of s x b)) ∙ sym (written x b) ∙ ap (λ y. record_of t y b) (ap (λ (q : Pending). q.variable) now.1) ∙ ap (λ d. record_of t p.variable d) (sym now.0) ∙ is)
          ];
      complete_there = λ {made_for} c v is.
          let old : (v ≢ n) × (blocks.function.definition v ≡ record { home = front c; kind = complete made_for }) = complete_old made_for v c is in
          let home : param_home f v ≡ Some c = before.complete_there c v old.1 in
          home-append f.values (param_node ty b ∷ []) v (param_exists f v c home) ∙ home;
      complete_first = λ {made_for} c v u y is pends home.
          let old : (v ≢ n) × (blocks.function.definition v ≡ record { home = front c; kind = complete made_for }) = complete_old made_for v c is in
          let v_home : param_home f v ≡ Some c = before.complete_there c v old.1 in
          elim (cases_eq u n) [
            | inl new_one ↦
                let at : c ≡ b = front_of (sym (ap (λ (d : Definition). d.home) pends) ∙ ap (λ w. (after.function.definition w).home) new_one ∙ ap (λ (d : Definition). d.home) is_new) in
                subst (λ w. place_of v (block_at g c).params < place_of w (block_at g c).params) (sym new_one)
                (subst (λ d. place_of v (block_at g d).params < place_of n (block_at g d).params) (sym at)
                (param_place_behind f b ty firm there v (v_home ∙ ap Some at)))
            | inr other ↦
                let u_home : param_home f u ≡ Some c = home_before u c other home in
                omega (
                  arith,
                  param_place f b ty firm there v c v_home,
                  param_place f b ty firm there u c u_home,
                  before.complete_first c v u y old.1 (sym (is_old u other) ∙ pends) u_home,
                )
          ];
      waiting_order = λ c.
          let moved : InOrder (block_at g c).params (pending_of (sealed_of s c)) =
          in_order_moved (block_at f c).params (block_at g c).params (pending_of (sealed_of s c))
          (λ p q p_here q_here below.
          omega (
            arith,
            below,
            param_place f b ty firm there p.param c (before.waiting c p p_here).parameter,
            param_place f b ty firm there q.param c (before.waiting c q q_here).parameter,
          )) (before.waiting_order c) in
          elim (waits.entries c) [
            | inl same_entry ↦ subst (λ ps. InOrder (block_at g c).params ps) (sym same_entry) moved
            | inr more ↦
                subst (λ ps. InOrder (block_at g c).params ps) (sym more.1)
                (in_order_push (block_at g c).params (pending_of (sealed_of s c)) (new_pending f x)
                (λ p here.
                subst (λ d. place_of p.param (block_at g d).params < place_of n (block_at g d).params) (sym more.0)
                (param_place_behind f b ty firm there p.param ((before.waiting c p here).parameter ∙ ap Some more.0))) moved)
          ];
      completing_order = λ c. in_order_small (block_at g c).params (parameters_of g c completing) (omega (arith, parameters_fewer g c completing, waits.one));
      passes = λ {made_for} c v arm edge is at j belongs.
          let old : (v ≢ n) × (blocks.function.definition v ≡ record { home = front c; kind = complete made_for }) = complete_old made_for v c is in
          let old_edge : IsEdgeInto f s blocks c arm = edge_before f g s t blocks after c arm edges edge in
          before.passes c v arm old_edge old.1 at j
          (subst (λ k. BelongsTo own c edge.branch arm.edge k j) (param_place f b ty firm there v c (before.complete_there c v old.1)) belongs);
      instructions = λ c. instructions_kept f g blocks after c (own.insts c) extends (param_insts f b ty there c) (before.instructions c);
    }
  where
    pending_or_complete : {x y : ℕ} → ◌≡◌ {A = Kind} (pending y) (complete x) → ⊥
    pending_or_complete one = cc

    some_or_none : {y : ℕ} → ◌≡◌ {A = Option ℕ} (Some y) None → ⊥
    some_or_none one = cc

    front_of : {y z : ℕ} → front y ≡ front z → y ≡ z
    front_of one = cc

    same_variable : {x y : ℕ} → ◌≡◌ {A = Kind} (pending x) (pending y) → x ≡ y
    same_variable same = cc

    same_pending : (x y n v : ℕ) → x ≡ y → n ≡ v → ◌≡◌ {A = Pending} (record { variable = x; param = n }) (record { variable = y; param = v })
    same_pending x y n v p q = cc

pub parameter_sound : (own : Own) (f : Body) (s : SsaState) (blocks : Blocks) (x b : ℕ) → Firm f → Describes own f s [] blocks → record_of s x b ≡ None
    → BlocksSound blocks → BlocksSound (with_parameter blocks b x (length f.values))
parameter_sound own f s blocks x b firm before none sound =
    parameter_keeps blocks b x (length f.values)
    (record {
      assigns_not = before.unrecorded b x none;
      new_value = ap (λ (d : Definition). d.home) (before.absent (length f.values) (omega arith));
      no_alias = before.resolves (length f.values) ∙ new_unaliased f firm;
    }) sound
