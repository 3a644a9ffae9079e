-- A new parameter is recorded in its block and in others, and waits, while others are being completed.
use Rattle.std.proofs.Common.{◌≡◌, ◌≢◌, ℕ, ◌+◌, ◌<◌, ◌≤◌, ◌==◌, ◌&&◌, Bool, true, false, List, [], ◌∷◌, ◌++◌, length, refl, ap, arith, sym, ◌∙◌, subst, ◌⊎◌, inl, inr}
use Rattle.std.specs.Prelude.{Option, Some, None, Contains, if◌then◌else◌}
use Rattle.std.proofs.lemmas.Grind.{common_steps}
use Rattle.std.proofs.lemmas.Bool.{cases_eq}
use Rattle.std.proofs.lemmas.List.Elements.{Contains-append_left, Contains-push, Contains-push_cases}
use Rattle.clif_types.specs.declared.types.«Type».{«Type»}
use Rattle.clif_ir.specs.Body.{Body, block_at, resolved}
use Rattle.clif_ir.specs.Changes.{with_param}
use Rattle.clif_ir.specs.Reading.{param_home}
use Rattle.clif_instructions.specs.Members.{place_of, Stands, Once}
use Rattle.clif_ir.proofs.Keeps.{Stands-append, Stands-push, Once-push}
use Rattle.clif_instructions.proofs.Lists.{below_or_not, at_push}
use Rattle.clif_paths.specs.State.{pending, complete, Definition, Kind}
use Rattle.clif_paths.specs.Blocks.{Blocks, front, with_parameter, CanAddParameter}
use Rattle.clif_paths.proofs.Tables.{updated-same, updated-other}
use Rattle.clif_records.specs.declared.tables.Pending.{Pending}
use Rattle.clif_records.specs.Tables.{No, is_yes, pending_of}
use Rattle.clif_ssa.specs.Own.{Own}
use Rattle.clif_ssa.specs.Ssa.{SsaState, sealed_of, record_of, predecessors_of, Records, SameBlocks, SamePredecessors}
use Rattle.clif_ssa.specs.Sound.{Describes, HomeFits, IsWaiting, IsEdgeInto, InOrder, parameters_of, is_parameter_of, is_some_block, CountsArguments, IsBehind, IsCounted, passed_count, BelongsTo}
use Rattle.clif_ssa.proofs.Bodies.{Firm, home-append, home_past, param_exists}
use Rattle.clif_ssa.proofs.Ordering.{none_contained, contains_more, contains_first, contains_cons, in_order_moved, in_order_push, in_order_small, parameters_same, parameters_first, parameters_skip, parameters_none, is_parameter, is_parameter_elsewhere}
use Rattle.clif_ssa.proofs.Describing.{Extends, Arms, arms_of, arms_kept, SameEdges, same_edges, edge_before, instructions_kept, waiting_kept, waiting_exists, homes_kept, assigns_not_kept, record_changed, not_recorded, is_recorded, recorded_here}
use Rattle.clif_ssa.proofs.Parameters.{param_node, param_resolved, param_count, param_home_new, param_insts, param_params, param_place, param_new_place, param_place_behind, new_unaliased, new_pending}
use Rattle.clif_ssa.proofs.Firsts.{same_some, front_same}
use Rattle.clif_ssa.proofs.Housing.{Housed}

-- LISTED ----------------------------------------------------------------------------------------------------------

-- those of the list that are parameters of the block are so
pub listed_home : (f : Body) (b : ℕ) (ps : List Pending) (p : Pending) → Contains (parameters_of f b ps) p → Contains ps p × (param_home f p.param ≡ Some b)
listed_home f b [] p here = absurd (none_contained p here)
listed_home f b (q ∷ ps) p here =
    let induction : Contains (parameters_of f b ps) p → Contains ps p × (param_home f p.param ≡ Some b) = listed_home f b ps p in
    by induction (param_home f q.param) refl here
  where
    by_same : (Contains (parameters_of f b ps) p → Contains ps p × (param_home f p.param ≡ Some b)) → (c : ℕ) → param_home f q.param ≡ Some c
        → (test : Bool) → (c == b) ≡ test → Contains (if test then q ∷ parameters_of f b ps else parameters_of f b ps) p → Contains (q ∷ ps) p × (param_home f p.param ≡ Some b)
    by_same induction c is false other here = let rest : Contains ps p × (param_home f p.param ≡ Some b) = induction here in (contains_more q ps p rest.0, rest.1)
    by_same induction c is true same here =
        elim (contains_cons q (parameters_of f b ps) p here) [
          | inl first ↦ (
            subst (λ r. Contains (q ∷ ps) r) first (contains_first q ps),
            ap (λ (r : Pending). param_home f r.param) (sym first) ∙ is ∙ ap Some (equal c b same),
          )
          | inr later ↦ let rest : Contains ps p × (param_home f p.param ≡ Some b) = induction later in (contains_more q ps p rest.0, rest.1)
        ]
      where
        equal : (m n : ℕ) → (m == n) ≡ true → m ≡ n
        equal m n same = grind (arith, common_steps, same)

    by : (Contains (parameters_of f b ps) p → Contains ps p × (param_home f p.param ≡ Some b)) → (home : Option ℕ) → param_home f q.param ≡ home
        → Contains (if is_some_block b home then q ∷ parameters_of f b ps else parameters_of f b ps) p → Contains (q ∷ ps) p × (param_home f p.param ≡ Some b)
    by induction None is here = let rest : Contains ps p × (param_home f p.param ≡ Some b) = induction here in (contains_more q ps p rest.0, rest.1)
    by induction (Some c) is here = by_same induction c is (c == b) refl here

-- no other value gets another home by a new parameter
pub param_home_other : (f : Body) (b : ℕ) (ty : «Type») (v : ℕ) → v ≢ length f.values → param_home (with_param f b ty) v ≡ param_home f v
param_home_other f b ty v other =
    elim (below_or_not v (length f.values)) [
      | inl below ↦ home-append f.values (param_node ty b ∷ []) v below
      | inr past ↦
          let long : length (with_param f b ty).values ≡ length f.values + 1 = param_count f b ty in
          home_past (with_param f b ty).values v (omega (arith, past, other, long)) ∙ sym (home_past f.values v past)
    ]

-- what is listed exists, or is an alias, and so is no new value
listed_old : (own : Own) (f : Body) (s : SsaState) (listed : List Pending) (blocks : Blocks) → Firm f → Describes own f s listed blocks
    → (q : Pending) → Contains listed q → q.param ≢ length f.values
listed_old own f s listed blocks firm before q here same =
    elim (before.completed q here) [
      | inl gone ↦ gone.1 (ap (λ v. resolved f v) same ∙ new_unaliased f firm ∙ sym same)
      | inr there ↦ absurd (omega (arith, waiting_exists f blocks there.0 q there.1, same))
    ]

-- ADDED -----------------------------------------------------------------------------------------------------------

-- the new parameter waits in its unsealed block, behind the others there, or it comes before those that are completed now
pub record Added (f : Body) (ty : «Type») (s t : SsaState) (b : ℕ) (new : Pending) (before after : List Pending) : Type 0 where
  pub same_yes : (c : ℕ) → is_yes (sealed_of t c) ≡ is_yes (sealed_of s c)
  pub entries : (c : ℕ) → (pending_of (sealed_of t c) ≡ pending_of (sealed_of s c))
      ⊎ ((c ≡ b) × (pending_of (sealed_of t c) ≡ pending_of (sealed_of s c) ++ new ∷ []))
  pub kept : (q : Pending) → Contains before q → Contains after q
  pub listed : (q : Pending) → Contains after q → Contains before q ⊎ ((new ≡ q) × (is_yes (sealed_of s b) ≡ true))
  pub there : ((c : ℕ) × Contains (pending_of (sealed_of t c)) new) ⊎ Contains after new
  pub order : (c : ℕ) → (parameters_of (with_param f b ty) c after ≡ parameters_of (with_param f b ty) c before) ⊎ (length (parameters_of (with_param f b ty) c after) ≤ 1)

-- what the records are afterwards: more than before, and one in the block
pub record Recorded (f : Body) (s t : SsaState) (b x : ℕ) (recorded : ℕ → ℕ → Option ℕ) : Type 0 where
  pub says : (c y : ℕ) → recorded c y ≡ record_of t y c
  pub exist : (c y v : ℕ) → record_of t y c ≡ Some v → v < length f.values + 1
  pub fewer : (c y : ℕ) → record_of t y c ≡ None → record_of s y c ≡ None
  pub here : record_of t x b ≢ None

new_known : (s t : SsaState) (b : ℕ) (new : Pending) (c : ℕ) (p : Pending)
    → (pending_of (sealed_of t c) ≡ pending_of (sealed_of s c)) ⊎ ((c ≡ b) × (pending_of (sealed_of t c) ≡ pending_of (sealed_of s c) ++ new ∷ []))
    → Contains (pending_of (sealed_of t c)) p → Contains (pending_of (sealed_of s c)) p ⊎ ((c ≡ b) × (new ≡ p))
new_known s t b new c p (inl same) here = inl (subst (λ xs. Contains xs p) same here)
new_known s t b new c p (inr more) here =
    elim (Contains-push_cases (pending_of (sealed_of s c)) new p (subst (λ xs. Contains xs p) more.1 here)) [
      | inl old ↦ inl old
      | inr at ↦ inr (more.0, at)
    ]

new_kept : (s t : SsaState) (b : ℕ) (new : Pending) (c : ℕ) (p : Pending)
    → (pending_of (sealed_of t c) ≡ pending_of (sealed_of s c)) ⊎ ((c ≡ b) × (pending_of (sealed_of t c) ≡ pending_of (sealed_of s c) ++ new ∷ []))
    → Contains (pending_of (sealed_of s c)) p → Contains (pending_of (sealed_of t c)) p
new_kept s t b new c p (inl same) here = subst (λ xs. Contains xs p) (sym same) here
new_kept s t b new c p (inr more) here = subst (λ xs. Contains xs p) (sym more.1) (Contains-append_left (pending_of (sealed_of s c)) (new ∷ []) p here)

parameter_with : (own : Own) (f : Body) (s t : SsaState) (listed listed' : List Pending) (blocks : Blocks) (x b : ℕ) (ty : «Type») (recorded : ℕ → ℕ → Option ℕ)
    → Firm f → Describes own f s listed blocks → b < length f.blocks → Recorded f s t b x recorded → SamePredecessors s t
    → Added f ty s t b (new_pending f x) listed listed'
    → Describes own (with_param f b ty) t listed' (record (with_parameter blocks b x (length f.values)) { recorded = recorded })
parameter_with own f s t listed listed' blocks x b ty recorded firm before there written same waits =
    let g : Body = with_param f b ty in
    let n : ℕ = length f.values in
    let after : Blocks = record (with_parameter blocks b x n) { recorded = recorded } in
    let new : Definition = record { home = front b; kind = pending x } in
    let long : length g.values ≡ n + 1 = param_count f b ty in
    let is_new : after.function.definition n ≡ new = updated-same blocks.function.definition n new n refl in
    let is_old : (v : ℕ) → v ≢ n → after.function.definition v ≡ blocks.function.definition v = λ v other. updated-other blocks.function.definition n new v other in
    let old_below : (v : ℕ) → v < n → after.function.definition v ≡ blocks.function.definition v = λ v below. is_old v (λ same. absurd (omega (arith, below, same))) in
    let extends : Extends f g blocks after = record {
      values_more = omega (arith, long);
      insts_more = omega arith;
      inst_same = λ i here. refl;
      constants_kept = λ constant bytes here. here;
      definition_same = old_below;
    } in
    let edges : SameEdges f g s t blocks after = same_edges f g s t blocks after (arms_of own f s listed blocks before) extends same (λ c i here. refl) in
    let arms : Arms g t after =
    arms_kept f g s t blocks after
    (record { edges = edges; insts_more = omega arith; entry = refl; same_yes = waits.same_yes; sealed = λ c. refl; joins = λ arm. refl })
    (arms_of own f s listed blocks before) in
    let waits_still : (c : ℕ) (p : Pending) → IsWaiting f blocks c p → IsWaiting g after c p =
    λ c p is.
    let inside : p.param < n = waiting_exists f blocks c p is in
    waiting_kept f g blocks after c p (home-append f.values (param_node ty b ∷ []) p.param inside) (old_below p.param inside) is in
    let waits_new : IsWaiting g after b (new_pending f x) = record { parameter = param_home_new f b ty; defined = is_new } in
    let home_before : (v c : ℕ) → v ≢ n → param_home g v ≡ Some c → param_home f v ≡ Some c =
    λ v c other is. sym (home-append f.values (param_node ty b ∷ []) v (omega (arith, param_exists g v c is, long, other))) ∙ is in
    let complete_old : (made_for v c : ℕ) → after.function.definition v ≡ record { home = front c; kind = complete made_for } → (v ≢ n) × (blocks.function.definition v ≡ record { home = front c; kind = complete made_for }) =
    λ made_for v c is.
    let other : v ≢ n = λ one. pending_or_complete (ap (λ (d : Definition). d.kind) (sym is_new) ∙ ap (λ w. (after.function.definition w).kind) (sym one) ∙ ap (λ (d : Definition). d.kind) is) in
    (other, sym (is_old v other) ∙ is) in
    record {
      sealed = arms.sealed;
      joined = arms.joined;
      entered = arms.entered;
      led = arms.led;
      leading = arms.leading;
      leading_apart = arms.leading_apart;
      entry_free = arms.entry_free;
      resolves = λ v. before.resolves v ∙ sym (param_resolved f b ty firm v);
      recorded = written.says;
      records_exist = λ c y v is. let below : v < n + 1 = written.exist c y v is in omega (arith, below, long);
      unrecorded = λ c y is. assigns_not_kept blocks after c y refl (λ k. refl) (before.unrecorded c y (written.fewer c y is));
      unwritten = before.unwritten;
      absent = λ v past.
          is_old v (λ same. absurd (omega (arith, past, same, long))) ∙ before.absent v (omega (arith, past, long));
      homes = λ v.
          elim (cases_eq v n) [
            | inl same ↦
                subst (λ w. HomeFits after w (after.function.definition w).kind) (sym same)
                (subst (λ (d : Definition). HomeFits after n d.kind) (sym is_new) (b, ap (λ (d : Definition). d.home) is_new))
            | inr other ↦ homes_kept blocks after v (is_old v other) (λ c known. known) (λ m given. (refl, refl)) (before.homes v)
          ];
      answered = λ m given. omega (arith, before.answered m given, long);
      born_there = λ m given is_fresh.
          let old : _ × (resolved f (blocks.answer m) ≡ blocks.answer m) = before.born_there m given is_fresh in
          (old_below (blocks.answer m) (before.answered m given) ∙ old.0, param_resolved f b ty firm (blocks.answer m) ∙ old.1);
      waiting = λ c p here.
          elim (new_known s t b (new_pending f x) c p (waits.entries c) here) [
            | inl old ↦ waits_still c p (before.waiting c p old)
            | inr now ↦ subst (λ d. IsWaiting g after d p) (sym now.0) (subst (λ q. IsWaiting g after b q) now.1 waits_new)
          ];
      completed = λ p here.
          elim (waits.listed p here) [
            | inl old ↦
                let other : p.param ≢ n = listed_old own f s listed blocks firm before p old in
                elim (before.completed p old) [
                  | inl gone ↦ inl (param_home_other f b ty p.param other ∙ gone.0, λ ends. gone.1 (sym (param_resolved f b ty firm p.param) ∙ ends))
                  | inr at ↦ inr (at.0, waits_still at.0 p at.1, waits.same_yes at.0 ∙ at.2)
                ]
            | inr now ↦ inr (b, subst (λ q. IsWaiting g after b q) now.0 waits_new, waits.same_yes b ∙ now.1)
          ];
      pends = λ v y ends is.
          elim (cases_eq v n) [
            | inl same ↦
                let variable : x ≡ y = same_variable (sym (ap (λ (d : Definition). d.kind) is_new) ∙ ap (λ w. (after.function.definition w).kind) (sym same) ∙ is) in
                let e : ◌≡◌ {A = Pending} (new_pending f x) (record { variable = y; param = v }) = same_pending x y n v variable (sym same) in
                elim waits.there [
                  | inl in_block ↦ inl (in_block.0, subst (λ q. Contains (pending_of (sealed_of t in_block.0)) q) e in_block.1)
                  | inr in_list ↦ inr (subst (λ q. Contains listed' q) e in_list)
                ]
            | inr other ↦
                elim (before.pends v y (sym (param_resolved f b ty firm v) ∙ ends) (sym (ap (λ (d : Definition). d.kind) (is_old v other)) ∙ is)) [
                  | inl old ↦ inl (old.0, new_kept s t b (new_pending f x) old.0 (record { variable = y; param = v }) (waits.entries old.0) old.1)
                  | inr in_list ↦ inr (waits.kept (record { variable = y; param = v }) in_list)
                ]
          ];
      waiting_recorded = λ c p here is.
          elim (new_known s t b (new_pending f x) c p (waits.entries c) here) [
            | inl old ↦ before.waiting_recorded c p old (written.fewer c p.variable is)
            | inr now ↦ written.here (ap (λ y. record_of t y b) (ap (λ (q : Pending). q.variable) now.1) ∙ ap (λ d. record_of t p.variable d) (sym now.0) ∙ is)
          ];
      complete_there = λ {made_for} c v is.
          let old : (v ≢ n) × (blocks.function.definition v ≡ record { home = front c; kind = complete made_for }) = complete_old made_for v c is in
          let home : param_home f v ≡ Some c = before.complete_there c v old.1 in
          home-append f.values (param_node ty b ∷ []) v (param_exists f v c home) ∙ home;
      complete_first = λ {made_for} c v u y is pends home.
          let old : (v ≢ n) × (blocks.function.definition v ≡ record { home = front c; kind = complete made_for }) = complete_old made_for v c is in
          let v_home : param_home f v ≡ Some c = before.complete_there c v old.1 in
          elim (cases_eq u n) [
            | inl new_one ↦
                let at : c ≡ b = front_same (sym (ap (λ (d : Definition). d.home) pends) ∙ ap (λ w. (after.function.definition w).home) new_one ∙ ap (λ (d : Definition). d.home) is_new) in
                subst (λ w. place_of v (block_at g c).params < place_of w (block_at g c).params) (sym new_one)
                (subst (λ d. place_of v (block_at g d).params < place_of n (block_at g d).params) (sym at)
                (param_place_behind f b ty firm there v (v_home ∙ ap Some at)))
            | inr other ↦
                let u_home : param_home f u ≡ Some c = home_before u c other home in
                omega (
                  arith,
                  param_place f b ty firm there v c v_home,
                  param_place f b ty firm there u c u_home,
                  before.complete_first c v u y old.1 (sym (is_old u other) ∙ pends) u_home,
                )
          ];
      waiting_order = λ c.
          let moved : InOrder (block_at g c).params (pending_of (sealed_of s c)) =
          in_order_moved (block_at f c).params (block_at g c).params (pending_of (sealed_of s c))
          (λ p q p_here q_here below.
          omega (
            arith,
            below,
            param_place f b ty firm there p.param c (before.waiting c p p_here).parameter,
            param_place f b ty firm there q.param c (before.waiting c q q_here).parameter,
          )) (before.waiting_order c) in
          elim (waits.entries c) [
            | inl same_entry ↦ subst (λ ps. InOrder (block_at g c).params ps) (sym same_entry) moved
            | inr more ↦
                subst (λ ps. InOrder (block_at g c).params ps) (sym more.1)
                (in_order_push (block_at g c).params (pending_of (sealed_of s c)) (new_pending f x)
                (λ p here.
                subst (λ d. place_of p.param (block_at g d).params < place_of n (block_at g d).params) (sym more.0)
                (param_place_behind f b ty firm there p.param ((before.waiting c p here).parameter ∙ ap Some more.0))) moved)
          ];
      completing_order = λ c.
          elim (waits.order c) [
            | inl as_before ↦
                subst (λ qs. InOrder (block_at g c).params qs) (sym (as_before ∙ parameters_same f g c listed (λ q here. ap (is_some_block c) (param_home_other f b ty q.param (listed_old own f s listed blocks firm before q here)))))
                (in_order_moved (block_at f c).params (block_at g c).params (parameters_of f c listed)
                (λ p q p_here q_here below.
                omega (
                  arith,
                  below,
                  param_place f b ty firm there p.param c (listed_home f c listed p p_here).1,
                  param_place f b ty firm there q.param c (listed_home f c listed q q_here).1,
                )) (before.completing_order c))
            | inr few ↦ in_order_small (block_at g c).params (parameters_of g c listed') few
          ];
      passes = λ {made_for} c v arm edge is at j belongs.
          let old : (v ≢ n) × (blocks.function.definition v ≡ record { home = front c; kind = complete made_for }) = complete_old made_for v c is in
          let old_edge : IsEdgeInto f s blocks c arm = edge_before f g s t blocks after c arm edges edge in
          before.passes c v arm old_edge old.1 at j
          (subst (λ k. BelongsTo own c edge.branch arm.edge k j) (param_place f b ty firm there v c (before.complete_there c v old.1)) belongs);
      instructions = λ c. instructions_kept f g blocks after c (own.insts c) extends (param_insts f b ty there c) (before.instructions c);
    }
  where
    pending_or_complete : {x y : ℕ} → ◌≡◌ {A = Kind} (pending y) (complete x) → ⊥
    pending_or_complete one = cc

    same_variable : {x y : ℕ} → ◌≡◌ {A = Kind} (pending x) (pending y) → x ≡ y
    same_variable same = cc

    same_pending : (x y n v : ℕ) → x ≡ y → n ≡ v → ◌≡◌ {A = Pending} (record { variable = x; param = n }) (record { variable = y; param = v })
    same_pending x y n v p q = cc

-- WHERE IT WAITS --------------------------------------------------------------------------------------------------

wait_here : {X : Type 0} (c b : ℕ) (x y : X) → c ≡ b → (if c == b then x else y) ≡ x
wait_here c b x y same = grind (arith, common_steps, same)

wait_other : {X : Type 0} (c b : ℕ) (x y : X) → c ≢ b → (if c == b then x else y) ≡ y
wait_other c b x y apart = grind (arith, common_steps, apart)

-- the block isn't sealed: the parameter waits in it
pub added_waiting : (f : Body) (ty : «Type») (s t : SsaState) (b : ℕ) (new : Pending) (listed : List Pending) → is_yes (sealed_of s b) ≡ false
    → ((c : ℕ) → sealed_of t c ≡ (if c == b then No (pending_of (sealed_of s c) ++ new ∷ []) else sealed_of s c))
    → Added f ty s t b new listed listed
added_waiting f ty s t b new listed unsealed waits =
    let here : (c : ℕ) → c ≡ b → sealed_of t c ≡ No (pending_of (sealed_of s c) ++ new ∷ []) = λ c same. waits c ∙ wait_here c b _ _ same in
    let elsewhere : (c : ℕ) → c ≢ b → sealed_of t c ≡ sealed_of s c = λ c apart. waits c ∙ wait_other c b _ _ apart in
    record {
      same_yes = λ c.
          elim (cases_eq c b) [
            | inl same ↦ ap is_yes (here c same) ∙ sym (ap (λ d. is_yes (sealed_of s d)) same ∙ unsealed)
            | inr apart ↦ ap is_yes (elsewhere c apart)
          ];
      entries = λ c. elim (cases_eq c b) [ inl same ↦ inr (same, ap pending_of (here c same)) | inr apart ↦ inl (ap pending_of (elsewhere c apart)) ];
      kept = λ q listed. listed;
      listed = λ q listed. inl listed;
      there = inl (b, subst (λ xs. Contains xs new) (sym (ap pending_of (here b refl))) (Contains-push (pending_of (sealed_of s b)) new));
      order = λ c. inl refl;
    }

-- the block is sealed, and none of its parameters is being completed: the new one is completed first
pub added_completing : (own : Own) (f : Body) (ty : «Type») (s t : SsaState) (b x : ℕ) (listed : List Pending) (blocks : Blocks) → Firm f
    → Describes own f s listed blocks → is_yes (sealed_of s b) ≡ true → SameBlocks s t → ((p : Pending) → Contains listed p → param_home f p.param ≢ Some b)
    → Added f ty s t b (new_pending f x) listed (new_pending f x ∷ listed)
added_completing own f ty s t b x listed blocks firm before is_sealed same alone =
    let g : Body = with_param f b ty in
    let new : Pending = new_pending f x in
    let home : (q : Pending) → Contains listed q → param_home g q.param ≡ param_home f q.param =
    λ q here. param_home_other f b ty q.param (listed_old own f s listed blocks firm before q here) in
    let new_home : param_home g new.param ≡ Some b = param_home_new f b ty in
    record {
      same_yes = λ c. ap is_yes (same c);
      entries = λ c. inl (ap pending_of (same c));
      kept = λ q here. contains_more new listed q here;
      listed = λ q here. elim (contains_cons new listed q here) [ inl first ↦ inr (first, is_sealed) | inr later ↦ inl later ];
      there = inr (contains_first new listed);
      order = λ c.
          elim (cases_eq c b) [
            | inl here ↦
                let first : parameters_of g c (new ∷ listed) ≡ new ∷ parameters_of g c listed = parameters_first g c new listed (is_parameter g c new (new_home ∙ ap Some (sym here))) in
                let others : parameters_of g c listed ≡ [] =
                parameters_none g c listed (λ q at. not_parameter g c q (λ is. alone q at (sym (home q at) ∙ is ∙ ap Some here))) in
                let one : length (parameters_of g c (new ∷ listed)) ≡ 1 = ap length (first ∙ ap (λ qs. new ∷ qs) others) in
                inr (omega (arith, one))
            | inr apart ↦ inl (parameters_skip g c new listed (is_parameter_elsewhere g c b new new_home (λ is. apart (sym is))))
          ];
    }
  where
    not_parameter : (g : Body) (c : ℕ) (q : Pending) → param_home g q.param ≢ Some c → is_parameter_of g c q ≡ false
    not_parameter g c q other = by (param_home g q.param) refl
      where
        by : (home : Option ℕ) → param_home g q.param ≡ home → is_some_block c home ≡ false
        by None is = refl
        by (Some d) is = differs (λ same. other (is ∙ ap Some same))
          where
            differs : d ≢ c → (d == c) ≡ false
            differs apart = grind (arith, common_steps, apart)

-- one record is new
recorded_by : (own : Own) (f : Body) (s t : SsaState) (listed : List Pending) (blocks : Blocks) (x b : ℕ) → Describes own f s listed blocks
    → Records s t x b (length f.values) → Recorded f s t b x (with_parameter blocks b x (length f.values)).recorded
recorded_by own f s t listed blocks x b before written =
    let n : ℕ = length f.values in
    record {
      says = λ c y. record_changed blocks.recorded b x n c y ∙ ap (λ r. if y == x && c == b then Some n else r) (before.recorded c y) ∙ sym (written y c);
      exist = λ c y v is.
          elim (is_recorded (y == x && c == b) n v (record_of s y c) (sym (written y c) ∙ is)) [
            | inl same ↦ omega (arith, same)
            | inr old ↦ omega (arith, before.records_exist c y v old)
          ];
      fewer = λ c y is. (not_recorded (y == x && c == b) n (record_of s y c) (sym (written y c) ∙ is)).1;
      here = λ is. some_or_none (sym (recorded_here x b n (record_of s x b)) ∙ sym (written x b) ∙ is);
    }
  where
    some_or_none : {y : ℕ} → ◌≡◌ {A = Option ℕ} (Some y) None → ⊥
    some_or_none one = cc

pub add_completing : (own : Own) (f : Body) (s t : SsaState) (ps : List Pending) (tables : Blocks) (x b : ℕ) (ty : «Type») → Firm f
    → Describes own f s ps tables → b < length f.blocks → is_yes (sealed_of s b) ≡ true
    → ((p : Pending) → Contains ps p → param_home f p.param ≢ Some b)
    → Records s t x b (length f.values) → SameBlocks s t → SamePredecessors s t
    → Describes own (with_param f b ty) t (new_pending f x ∷ ps) (with_parameter tables b x (length f.values))
add_completing own f s t ps tables x b ty firm before there is_sealed alone written same_blocks same_predecessors =
    parameter_with own f s t ps (new_pending f x ∷ ps) tables x b ty (with_parameter tables b x (length f.values)).recorded firm before there
    (recorded_by own f s t ps tables x b before written) same_predecessors
    (added_completing own f ty s t b x ps tables firm before is_sealed same_blocks alone)

pub add_waiting : (own : Own) (f : Body) (s t : SsaState) (ps : List Pending) (tables : Blocks) (x b : ℕ) (ty : «Type») → Firm f
    → Describes own f s ps tables → b < length f.blocks → is_yes (sealed_of s b) ≡ false
    → Records s t x b (length f.values)
    → ((c : ℕ) → sealed_of t c ≡ (if c == b then No (pending_of (sealed_of s c) ++ new_pending f x ∷ []) else sealed_of s c))
    → SamePredecessors s t
    → Describes own (with_param f b ty) t ps (with_parameter tables b x (length f.values))
add_waiting own f s t ps tables x b ty firm before there unsealed written waits same_predecessors =
    parameter_with own f s t ps ps tables x b ty (with_parameter tables b x (length f.values)).recorded firm before there
    (recorded_by own f s t ps tables x b before written) same_predecessors
    (added_waiting f ty s t b (new_pending f x) ps unsealed waits)

-- the tables can take the parameter
pub can_add : (own : Own) (f : Body) (s : SsaState) (listed : List Pending) (blocks : Blocks) (x b : ℕ) → Firm f → Describes own f s listed blocks
    → record_of s x b ≡ None → CanAddParameter blocks b x (length f.values)
can_add own f s listed blocks x b firm before none = record {
  assigns_not = before.unrecorded b x none;
  new_value = ap (λ (d : Definition). d.home) (before.absent (length f.values) (omega arith));
  no_alias = before.resolves (length f.values) ∙ new_unaliased f firm;
}

-- THE FUNCTION ----------------------------------------------------------------------------------------------------

pub add_housed : (f : Body) (b : ℕ) (ty : «Type») → Firm f → Housed f → b < length f.blocks → Housed (with_param f b ty)
add_housed f b ty firm housed there =
    let g : Body = with_param f b ty in
    let n : ℕ = length f.values in
    record {
      stands = λ v c is.
          elim (param_params f b ty there c) [
            | inl here ↦
                elim (cases_eq v n) [
                  | inl same ↦
                      subst (λ ps. Stands v ps) (sym here.1)
                      (subst (λ w. Stands w ((block_at f c).params ++ n ∷ [])) (sym same) (Stands-push n (block_at f c).params))
                  | inr other ↦
                      subst (λ ps. Stands v ps) (sym here.1)
                      (Stands-append v (block_at f c).params (n ∷ []) (housed.stands v c (sym (param_home_other f b ty v other) ∙ is)))
                ]
            | inr apart ↦
                elim (cases_eq v n) [
                  | inl same ↦ absurd (apart.0 (same_some (sym is ∙ ap (λ w. param_home g w) same ∙ param_home_new f b ty)))
                  | inr other ↦ subst (λ ps. Stands v ps) (sym apart.1) (housed.stands v c (sym (param_home_other f b ty v other) ∙ is))
                ]
          ];
      known = λ v c stands.
          elim (param_params f b ty there c) [
            | inl here ↦
                elim (pushed v n (block_at f c).params (subst (λ ps. Stands v ps) here.1 stands)) [
                  | inl old ↦ old_known v c old
                  | inr same ↦ ap (λ w. param_home g w) same ∙ param_home_new f b ty ∙ ap Some (sym here.0)
                ]
            | inr apart ↦ old_known v c (subst (λ ps. Stands v ps) apart.1 stands)
          ];
      once = λ c.
          elim (param_params f b ty there c) [
            | inl here ↦ subst (λ ps. Once ps) (sym here.1) (Once-push (block_at f c).params n (housed.once c) (firm.params_exist c))
            | inr apart ↦ subst (λ ps. Once ps) (sym apart.1) (housed.once c)
          ];
    }
  where
    old_known : (v c : ℕ) → Stands v (block_at f c).params → param_home (with_param f b ty) v ≡ Some c
    old_known v c stands =
        let is : param_home f v ≡ Some c = housed.known v c stands in
        home-append f.values (param_node ty b ∷ []) v (param_exists f v c is) ∙ is

    pushed : (v n : ℕ) (xs : List ℕ) → Stands v (xs ++ n ∷ []) → Stands v xs ⊎ (v ≡ n)
    pushed v n xs here =
        let long : length (xs ++ n ∷ []) ≡ length xs + 1 = grind (arith, common_steps) in
        at_push (λ w. w ≡ v → here.0 < length (xs ++ n ∷ []) → Stands v xs ⊎ (v ≡ n)) xs n here.0 0
        (λ below at inside. inl (here.0, below, at)) (λ last at inside. inr (sym at))
        (λ past at inside. absurd (omega (arith, past, inside, long))) here.2 here.1

pub add_counted : (own : Own) (f : Body) (s t : SsaState) (ps : List Pending) (tables : Blocks) (x b : ℕ) (ty : «Type») → Firm f
    → CountsArguments own f s tables → b < length f.blocks → SamePredecessors s t
    → CountsArguments own (with_param f b ty) t (with_parameter tables b x (length f.values))
add_counted own f s t ps tables x b ty firm counts there same =
    let g : Body = with_param f b ty in
    let n : ℕ = length f.values in
    let after : Blocks = with_parameter tables b x n in
    let new : Definition = record { home = front b; kind = pending x } in
    let is_new : after.function.definition n ≡ new = updated-same tables.function.definition n new n refl in
    let is_old : (v : ℕ) → v ≢ n → after.function.definition v ≡ tables.function.definition v = λ v other. updated-other tables.function.definition n new v other in
    let old_leads : (c i : ℕ) → Contains (predecessors_of t c) i → Contains (predecessors_of s c) i = λ c i here. subst (λ xs. Contains xs i) (same c) here in
    record {
      behind = λ c v is.
          elim (cases_eq v n) [
            | inl same_value ↦
                let at : c ≡ b = same_some (sym is ∙ ap (λ w. param_home g w) same_value ∙ param_home_new f b ty) in
                let place : place_of n (block_at g b).params ≡ length (block_at f b).params = param_new_place f b ty firm there in
                let last : length (own.params b) ≤ place_of n (block_at g b).params = omega (arith, place, counts.callers b) in
                subst (λ w. IsBehind (after.function.definition w).kind (place_of w (block_at g c).params) (length (own.params c))) (sym same_value)
                (subst (λ d. IsBehind (after.function.definition n).kind (place_of n (block_at g d).params) (length (own.params d))) (sym at)
                (subst (λ (d : Definition). IsBehind d.kind (place_of n (block_at g b).params) (length (own.params b))) (sym is_new) last))
            | inr other ↦
                let old : param_home f v ≡ Some c = sym (param_home_other f b ty v other) ∙ is in
                subst (λ (d : Definition). IsBehind d.kind (place_of v (block_at g c).params) (length (own.params c))) (sym (is_old v other))
                (subst (λ m. IsBehind (tables.function.definition v).kind m (length (own.params c))) (sym (param_place f b ty firm there v c old)) (counts.behind c v old))
          ];
      callers = λ c. longer_list c (λ m. length (own.params c) ≤ m) (λ m less. omega (arith, less)) (counts.callers c);
      counted = λ c i k v here leads is.
          elim (cases_eq v n) [
            | inl same_value ↦
                let at : c ≡ b = same_some (sym is ∙ ap (λ w. param_home g w) same_value ∙ param_home_new f b ty) in
                let few : passed_count f i k + length (own.params b) ≤ length (block_at f b).params + length (own.passed i k) =
                counts.no_more b i k (subst (λ d. Contains (predecessors_of s d) i) at (old_leads c i here)) (leads ∙ ap Some at) in
                let place : place_of n (block_at g b).params ≡ length (block_at f b).params = param_new_place f b ty firm there in
                let waits : passed_count f i k + length (own.params b) ≤ place_of n (block_at g b).params + length (own.passed i k) = omega (arith, few, place) in
                subst (λ w. IsCounted (after.function.definition w).kind (place_of w (block_at g c).params) (length (own.params c)) (passed_count g i k) (length (own.passed i k))) (sym same_value)
                (subst (λ d. IsCounted (after.function.definition n).kind (place_of n (block_at g d).params) (length (own.params d)) (passed_count g i k) (length (own.passed i k))) (sym at)
                (subst (λ (d : Definition). IsCounted d.kind (place_of n (block_at g b).params) (length (own.params b)) (passed_count g i k) (length (own.passed i k))) (sym is_new) waits))
            | inr other ↦
                let old : param_home f v ≡ Some c = sym (param_home_other f b ty v other) ∙ is in
                subst (λ (d : Definition). IsCounted d.kind (place_of v (block_at g c).params) (length (own.params c)) (passed_count g i k) (length (own.passed i k))) (sym (is_old v other))
                (subst (λ m. IsCounted (tables.function.definition v).kind m (length (own.params c)) (passed_count g i k) (length (own.passed i k))) (sym (param_place f b ty firm there v c old))
                (counts.counted c i k v (old_leads c i here) leads old))
          ];
      no_fewer = λ c i k here leads. counts.no_fewer c i k (old_leads c i here) leads;
      no_more = λ c i k here leads.
          longer_list c (λ m. passed_count f i k + length (own.params c) ≤ m + length (own.passed i k)) (λ m less. omega (arith, less)) (counts.no_more c i k (old_leads c i here) leads);
    }
  where
    longer_list : (c : ℕ) (P : ℕ → Type 0) → ((m : ℕ) → P m → P (m + 1)) → P (length (block_at f c).params) → P (length (block_at (with_param f b ty) c).params)
    longer_list c P more old =
        elim (param_params f b ty there c) [
          | inl at ↦
              let longer : length ((block_at f c).params ++ length f.values ∷ []) ≡ length (block_at f c).params + 1 = grind (arith, common_steps) in
              subst (λ (ps : List ℕ). P (length ps)) (sym at.1) (subst P (sym longer) (more (length (block_at f c).params) old))
          | inr apart ↦ subst (λ (ps : List ℕ). P (length ps)) (sym apart.1) old
        ]
