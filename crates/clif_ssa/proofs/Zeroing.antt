-- A parameter to which nothing comes becomes a name of a zero.
use Rattle.std.proofs.Common.{◌≡◌, ◌≢◌, ℕ, ◌+◌, ◌<◌, ◌==◌, true, false, List, [], ◌∷◌, length, refl, ap, arith, sym, ◌∙◌, subst, ◌⊎◌, inl, inr, ◌≤◌, ◌++◌}
use Rattle.std.specs.Prelude.{Option, Some, None, Contains, slice_index, cond}
use Rattle.std.proofs.lemmas.Grind.{common_steps}
use Rattle.std.proofs.lemmas.Bool.{cases_eq}
use Rattle.clif_types.specs.declared.types.«Type».{«Type»}
use Rattle.clif_ir.specs.Body.{Body, block_at, value_at, resolved, alias_of, alias_of_origin}
use Rattle.clif_nodes.specs.Nodes.{BlockNode, empty_block}
use Rattle.clif_ir.specs.Changes.{with_alias, home_of}
use Rattle.clif_ir.specs.Reading.{param_home}
use Rattle.clif_instructions.specs.Members.{place_of, without}
use Rattle.clif_nodes.specs.declared.nodes.ValueNode.{ValueNode}
use Rattle.clif_nodes.specs.declared.nodes.ValueOrigin.TheVariants.{Alias}
use Rattle.clif_instructions.proofs.Lists.{at_set}
use Rattle.clif_ir.proofs.Aliases.{follow_end, resolved-no_alias, ways_end-set}
use Rattle.clif_paths.specs.State.{Kind, born, unborn, pending, complete, zero_of, Definition}
use Rattle.clif_paths.specs.Steps.{aliased}
use Rattle.clif_paths.specs.Blocks.{Blocks, front, with_zero_in, with_dropped}
use Rattle.clif_paths.proofs.Tables.{updated-same, updated-other, aliased_cases}
use Rattle.clif_records.specs.declared.tables.Pending.{Pending}
use Rattle.clif_records.specs.Tables.{No, Sealed, Yes, is_yes, pending_of}
use Rattle.clif_ssa.specs.Own.{Own}
use Rattle.clif_ssa.specs.Ssa.{SsaState, sealed_of, zero_value}
use Rattle.clif_ssa.specs.Zeros.{insts_of_zero, insts_of_zeros}
use Rattle.std.proofs.lemmas.List.{append_assoc}
use Rattle.clif_paths.specs.Places.{start}
use Rattle.clif_ssa.specs.Sound.{Describes, HomeFits, IsWaiting, IsZero, HasInstructions, InOrder, parameters_of, is_parameter_of, is_some_block, BelongsTo}
use Rattle.clif_ssa.proofs.Bodies.{Firm, resolved-set, leads_inside-set, home-set_other, home-set_same, param_exists, param_origin}
use Rattle.clif_ssa.proofs.Ordering.{contains_cons, contains_more, none_contained, parameters_same, parameters_first, parameters_skip, parameters_contain, is_parameter, is_no_parameter, is_parameter_elsewhere, place_without_before, order_without, stands_without, below_without, in_order_small, in_order_moved, in_order_tail, in_order_first}
use Rattle.clif_ssa.proofs.Describing.{Extends, Arms, arms_of, arms_kept, SameEdges, same_edges, edge_before, Ordered, ordered_of, ordered_kept, same_passed, new_kinds, zeros_kept, instructions_kept, waiting_kept, waiting_exists, homes_kept, assigns_not_kept}
use Rattle.clif_ssa.proofs.ZeroSteps.{put_resolved, put_param_home, put_params, put_insts_here, put_insts_other, put_extends, put_zero, zero_at, zero_count, put_stands}

-- THE ZERO --------------------------------------------------------------------------------------------------------

-- nothing behind the function's values is a value of the tables
abbrev NonePast : Body → Blocks → Type 0
NonePast f blocks = (v : ℕ) → length f.values ≤ v → blocks.function.definition v ≡ record { home = start; kind = unborn }

new_zero : (f : Body) (blocks : Blocks) (b x : ℕ) (ty : «Type») → NonePast f blocks → IsZero (put_zero f b ty) (with_zero_in blocks b x (zero_value f ty)) b (zero_at f ty)
new_zero f blocks b x ty absent = record {
  variable = x;
  stands = put_stands f b ty;
  defined = updated-same blocks.function.definition (zero_value f ty) (record { home = front b; kind = zero_of x }) (zero_value f ty) refl;
  others = λ v from below.
      updated-other blocks.function.definition (zero_value f ty) (record { home = front b; kind = zero_of x }) v (λ same. absurd (omega (arith, below, same))) ∙ absent v from;
}

zero_instructions : (own : Own) (f : Body) (blocks : Blocks) (b x : ℕ) (ty : «Type») → b < length f.blocks → NonePast f blocks
    → Extends f (put_zero f b ty) blocks (with_zero_in blocks b x (zero_value f ty)) → (c : ℕ) → HasInstructions f blocks c (own.insts c)
    → HasInstructions (put_zero f b ty) (with_zero_in blocks b x (zero_value f ty)) c (own.insts c)
zero_instructions own f blocks b x ty there absent extends c has =
    elim (cases_eq c b) [
      | inl same ↦
          let g : Body = put_zero f b ty in
          let after : Blocks = with_zero_in blocks b x (zero_value f ty) in
          let here : HasInstructions f blocks b (own.insts b) = subst (λ d. HasInstructions f blocks d (own.insts d)) same has in
          let now : HasInstructions g after b (own.insts b) = record {
            zeros = zero_at f ty ∷ here.zeros;
            in_order = put_insts_here f b ty there ∙ ap (λ xs. insts_of_zero (zero_at f ty) ++ xs) here.in_order
                ∙ sym (append_assoc (insts_of_zero (zero_at f ty)) (insts_of_zeros here.zeros) (own.insts b));
            are_zeros = (new_zero f blocks b x ty absent, zeros_kept f g blocks after b here.zeros extends here.are_zeros);
          } in
          subst (λ d. HasInstructions g after d (own.insts d)) (sym same) now
      | inr apart ↦
          instructions_kept f (put_zero f b ty) blocks (with_zero_in blocks b x (zero_value f ty)) c (own.insts c) extends
          (put_insts_other f b ty c there apart) has
    ]

pub zero_described : (own : Own) (f : Body) (s : SsaState) (completing : List Pending) (blocks : Blocks) (b x : ℕ) (ty : «Type»)
    → Firm f → Describes own f s completing blocks → b < length f.blocks
    → Describes own (put_zero f b ty) s completing (with_zero_in blocks b x (zero_value f ty))
zero_described own f s completing blocks b x ty firm before there =
    let g : Body = put_zero f b ty in
    let z : ℕ = zero_value f ty in
    let after : Blocks = with_zero_in blocks b x z in
    let new : Definition = record { home = front b; kind = zero_of x } in
    let long : length g.values ≡ z + 1 = zero_count f b ty in
    let is_new : after.function.definition z ≡ new = updated-same blocks.function.definition z new z refl in
    let is_old : (v : ℕ) → v ≢ z → after.function.definition v ≡ blocks.function.definition v = λ v other. updated-other blocks.function.definition z new v other in
    let old_below : (v : ℕ) → v < length f.values → after.function.definition v ≡ blocks.function.definition v = λ v below. is_old v (λ same. absurd (omega (arith, below, same))) in
    let extends : Extends f g blocks after = put_extends f b ty blocks after old_below in
    let same_end : (v : ℕ) → resolved g v ≡ resolved f v = put_resolved f b ty firm in
    let same_home : (v : ℕ) → param_home g v ≡ param_home f v = put_param_home f b ty in
    let waits_still : (c : ℕ) (p : Pending) → IsWaiting f blocks c p → IsWaiting g after c p =
    λ c p is. waiting_kept f g blocks after c p (same_home p.param) (old_below p.param (waiting_exists f blocks c p is)) is in
    let old_arms : Arms f s blocks = arms_of own f s completing blocks before in
    let edges : SameEdges f g s s blocks after = same_edges f g s s blocks after old_arms extends (λ c. refl) (λ c i here. refl) in
    let arms : Arms g s after =
    arms_kept f g s s blocks after (record { edges = edges; insts_more = extends.insts_more; entry = refl; same_yes = λ c. refl; sealed = λ c. refl; joins = λ arm. refl }) old_arms in
    let order : Ordered own g s completing after =
    ordered_kept own f g s s completing blocks after
    (record {
      edges = edges;
      passed = same_passed f g s blocks after old_arms extends;
      kinds = new_kinds blocks after z new is_new is_old (λ y is. zero_or_complete is) (λ y is. zero_or_pending is);
      params = put_params f b ty;
      homes = same_home;
      entries = λ c. refl;
      arguments = λ v arm. refl;
    })
    (ordered_of own f s completing blocks before) in
    record {
      sealed = arms.sealed;
      joined = arms.joined;
      entered = arms.entered;
      led = arms.led;
      leading = arms.leading;
      leading_apart = arms.leading_apart;
      entry_free = arms.entry_free;
      resolves = λ v. before.resolves v ∙ sym (same_end v);
      recorded = before.recorded;
      records_exist = λ c y v is. omega (arith, before.records_exist c y v is, long);
      unrecorded = λ c y is. assigns_not_kept blocks after c y refl (λ k. refl) (before.unrecorded c y is);
      unwritten = before.unwritten;
      absent = λ v past. is_old v (λ same. absurd (omega (arith, past, same, long))) ∙ before.absent v (omega (arith, past, long));
      homes = λ v.
          elim (cases_eq v z) [
            | inl same ↦
                subst (λ w. HomeFits after w (after.function.definition w).kind) (sym same)
                (subst (λ (d : Definition). HomeFits after z d.kind) (sym is_new) (b, ap (λ (d : Definition). d.home) is_new))
            | inr other ↦ homes_kept blocks after v (is_old v other) (λ c known. known) (λ m given. (refl, refl)) (before.homes v)
          ];
      answered = λ m given. omega (arith, before.answered m given, long);
      born_there = λ m given is_fresh.
          let old : _ × (resolved f (blocks.answer m) ≡ blocks.answer m) = before.born_there m given is_fresh in
          (old_below (blocks.answer m) (before.answered m given) ∙ old.0, same_end (blocks.answer m) ∙ old.1);
      waiting = λ c p here. waits_still c p (before.waiting c p here);
      completed = λ p here.
          elim (before.completed p here) [
            | inl gone ↦ inl (same_home p.param ∙ gone.0, λ same. gone.1 (sym (same_end p.param) ∙ same))
            | inr there ↦ inr (there.0, waits_still there.0 p there.1, there.2)
          ];
      pends = λ v y ends is.
          elim (cases_eq v z) [
            | inl same ↦ absurd (zero_or_pending (sym (ap (λ (d : Definition). d.kind) is_new) ∙ ap (λ w. (after.function.definition w).kind) (sym same) ∙ is))
            | inr other ↦ before.pends v y (sym (same_end v) ∙ ends) (sym (ap (λ (d : Definition). d.kind) (is_old v other)) ∙ is)
          ];
      waiting_recorded = before.waiting_recorded;
      complete_there = order.complete_there;
      complete_first = order.complete_first;
      waiting_order = order.waiting_order;
      completing_order = order.completing_order;
      passes = order.passes;
      instructions = λ c. zero_instructions own f blocks b x ty there before.absent extends c (before.instructions c);
    }
  where
    zero_or_pending : {x y : ℕ} → ◌≡◌ {A = Kind} (zero_of x) (pending y) → ⊥
    zero_or_pending same = cc

    zero_or_complete : {x y : ℕ} → ◌≡◌ {A = Kind} (zero_of x) (complete y) → ⊥
    zero_or_complete same = cc

-- THE ALIAS -------------------------------------------------------------------------------------------------------

aliased_ap : (resolve resolve' : ℕ → ℕ) (v target u : ℕ) → resolve u ≡ resolve' u → aliased resolve v target u ≡ aliased resolve' v target u
unfolding aliased
aliased_ap resolve resolve' v target u same = ap (λ w. cond (w == v) target w) same

abbrev alias_node : Body → ℕ → ℕ → ValueNode
alias_node f v z = record (value_at f v) { origin = Alias (resolved f z) }

-- a parameter that may become a name of another value
pub record CanAlias (f : Body) (v z b : ℕ) : Type 0 where
  pub firm : Firm f
  pub parameter : param_home f v ≡ Some b
  pub own_end : resolved f z ≡ z
  pub exists : z < length f.values
  pub apart : z ≢ v

alias_free : (f : Body) (v z b : ℕ) → CanAlias f v z b → alias_of f.values v ≡ None
alias_free f v z b can = ap alias_of_origin (param_origin f v b can.parameter)

target_free : (f : Body) (v z b : ℕ) → CanAlias f v z b → alias_of f.values (resolved f z) ≡ None
target_free f v z b can = resolved-no_alias f.values z can.firm.ends can.exists

target_apart : (f : Body) (v z b : ℕ) → CanAlias f v z b → resolved f z ≢ v
target_apart f v z b can same = can.apart (sym can.own_end ∙ same)

pub alias_resolved : (f : Body) (v z b : ℕ) → CanAlias f v z b → (u : ℕ) → resolved (with_alias f v z) u ≡ aliased (λ w. resolved f w) v (resolved f z) u
alias_resolved f v z b can u =
    resolved-set f.values v (resolved f z) (alias_node f v z) can.firm.leads can.firm.ends (param_exists f v b can.parameter)
    (alias_free f v z b can) (target_free f v z b can) (target_apart f v z b can) refl u

pub alias_ends : (f : Body) (v z b : ℕ) → CanAlias f v z b → (u : ℕ)
    → ((resolved f u ≡ v) × (resolved (with_alias f v z) u ≡ z)) ⊎ ((resolved f u ≢ v) × (resolved (with_alias f v z) u ≡ resolved f u))
alias_ends f v z b can u =
    elim (aliased_cases (λ w. resolved f w) v (resolved f z) u) [
      | inl moved ↦ inl (moved.0, alias_resolved f v z b can u ∙ moved.1 ∙ can.own_end)
      | inr stayed ↦ inr (stayed.0, alias_resolved f v z b can u ∙ stayed.1)
    ]

pub alias_home_other : (f : Body) (v z u : ℕ) → u ≢ v → param_home (with_alias f v z) u ≡ param_home f u
alias_home_other f v z u other = home-set_other f.values v (alias_node f v z) u other

pub alias_home_same : (f : Body) (v z b : ℕ) → CanAlias f v z b → param_home (with_alias f v z) v ≡ None
alias_home_same f v z b can = home-set_same f.values v (alias_node f v z) (param_exists f v b can.parameter)

pub alias_insts : (f : Body) (v z b : ℕ) → CanAlias f v z b → (c : ℕ) → (block_at (with_alias f v z) c).insts ≡ (block_at f c).insts
alias_insts f v z b can c =
    let home : ℕ = home_of (value_at f v).origin in
    let at_home : home ≡ b = ap home_of (param_origin f v b can.parameter) in
    let changed : BlockNode = record (block_at f home) { params = without v (block_at f home).params } in
    at_set (λ (m : BlockNode). m.insts ≡ (block_at f c).insts) f.blocks home changed c empty_block (omega (arith, at_home, can.firm.homes_exist v b can.parameter))
    (λ same. ap (λ d. (block_at f d).insts) (sym same)) (λ _. refl)

pub alias_params : (f : Body) (v z b : ℕ) → CanAlias f v z b → (c : ℕ)
    → ((c ≡ b) × ((block_at (with_alias f v z) c).params ≡ without v (block_at f c).params))
    ⊎ ((c ≢ b) × ((block_at (with_alias f v z) c).params ≡ (block_at f c).params))
alias_params f v z b can c =
    let home : ℕ = home_of (value_at f v).origin in
    let at_home : home ≡ b = ap home_of (param_origin f v b can.parameter) in
    let changed : BlockNode = record (block_at f home) { params = without v (block_at f home).params } in
    at_set (λ (m : BlockNode). ((c ≡ b) × (m.params ≡ without v (block_at f c).params)) ⊎ ((c ≢ b) × (m.params ≡ (block_at f c).params)))
    f.blocks home changed c empty_block (omega (arith, at_home, can.firm.homes_exist v b can.parameter))
    (λ same. inl (same ∙ at_home, ap (λ d. without v (block_at f d).params) (sym same))) (λ other. inr (λ same. other (same ∙ sym at_home), refl))

pub alias_count_same : (f : Body) (v z : ℕ) → length (with_alias f v z).values ≡ length f.values
alias_count_same f v z = grind (arith, common_steps)

pub alias_blocks_same : (f : Body) (v z : ℕ) → length (with_alias f v z).blocks ≡ length f.blocks
alias_blocks_same f v z = grind (arith, common_steps)

none_some : {x : ℕ} → ◌≡◌ {A = Option ℕ} None (Some x) → ⊥
none_some same = cc

pub alias_firm : (f : Body) (v z b : ℕ) → CanAlias f v z b → Firm (with_alias f v z)
alias_firm f v z b can =
    let inside : v < length f.values = param_exists f v b can.parameter in
    record {
      leads = leads_inside-set f.values v (resolved f z) (alias_node f v z) can.firm.leads inside (omega (arith, can.own_end, can.exists)) refl;
      ends = ways_end-set f.values v (resolved f z) (alias_node f v z) can.firm.leads inside (alias_free f v z b can) (target_free f v z b can) (target_apart f v z b can) refl can.firm.ends;
      homes_exist = λ u c is.
          elim (cases_eq u v) [
            | inl same ↦ absurd (none_some (sym (alias_home_same f v z b can) ∙ ap (param_home (with_alias f v z)) (sym same) ∙ is))
            | inr other ↦ omega (arith, can.firm.homes_exist u c (sym (alias_home_other f v z u other) ∙ is), alias_blocks_same f v z)
          ];
      stands = λ u c is.
          elim (cases_eq u v) [
            | inl same ↦ absurd (none_some (sym (alias_home_same f v z b can) ∙ ap (param_home (with_alias f v z)) (sym same) ∙ is))
            | inr other ↦
                let old : place_of u (block_at f c).params < length (block_at f c).params = can.firm.stands u c (sym (alias_home_other f v z u other) ∙ is) in
                elim (alias_params f v z b can c) [
                  | inl here ↦ subst (λ ps. place_of u ps < length ps) (sym here.1) (stands_without u v (block_at f c).params other old)
                  | inr apart ↦ subst (λ ps. place_of u ps < length ps) (sym apart.1) old
                ]
          ];
      params_exist = λ c k.
          elim (alias_params f v z b can c) [
            | inl here ↦
                subst (λ ps. k < length ps → slice_index ps k < length (with_alias f v z).values) (sym here.1)
                (λ below. omega (arith, below_without v (length f.values) (block_at f c).params (can.firm.params_exist c) k below, alias_count_same f v z))
            | inr apart ↦
                subst (λ ps. k < length ps → slice_index ps k < length (with_alias f v z).values) (sym apart.1)
                (λ below. omega (arith, can.firm.params_exist c k below, alias_count_same f v z))
          ];
    }

pub none_pending : (entry : Sealed) → is_yes entry ≡ true → pending_of entry ≡ []
none_pending (No waiting) is = absurd (let no : false ≡ true = is in cc)
none_pending Yes is = refl

same_home : {x y : ℕ} → ◌≡◌ {A = Option ℕ} (Some x) (Some y) → x ≡ y
same_home same = cc

born_or_pending : {x y : ℕ} → ◌≡◌ {A = Kind} (born x) (pending y) → ⊥
born_or_pending same = cc

-- the parameter waits in a sealed block
pub record WaitsSealed (s : SsaState) (blocks : Blocks) (p : Pending) (b : ℕ) : Type 0 where
  pub waits : blocks.function.definition p.param ≡ record { home = front b; kind = pending p.variable }
  pub is_sealed : is_yes (sealed_of s b) ≡ true

alias_waiting : (own : Own) (f : Body) (s : SsaState) (p : Pending) (ps : List Pending) (blocks : Blocks) (z b : ℕ)
    → CanAlias f p.param z b → WaitsSealed s blocks p b → Describes own f s (p ∷ ps) blocks
    → (c : ℕ) (q : Pending) → Contains (pending_of (sealed_of s c)) q → IsWaiting (with_alias f p.param z) (with_dropped blocks p.param z) c q
alias_waiting own f s p ps blocks z b can sealed before c q here =
    let waits : IsWaiting f blocks c q = before.waiting c q here in
    let other : q.param ≢ p.param = λ same.
    let at : c ≡ b = same_home (sym waits.parameter ∙ ap (param_home f) same ∙ can.parameter) in
    none_contained q (subst (λ xs. Contains xs q) (ap (λ d. pending_of (sealed_of s d)) at ∙ none_pending (sealed_of s b) sealed.is_sealed) here) in
    waiting_kept f (with_alias f p.param z) blocks (with_dropped blocks p.param z) c q (alias_home_other f p.param z q.param other) refl waits

alias_completed : (own : Own) (f : Body) (s : SsaState) (p : Pending) (ps : List Pending) (blocks : Blocks) (z b : ℕ)
    → CanAlias f p.param z b → Describes own f s (p ∷ ps) blocks → (q : Pending) → Contains ps q
    → ((param_home (with_alias f p.param z) q.param ≡ None) × (resolved (with_alias f p.param z) q.param ≢ q.param))
    ⊎ ((c : ℕ) × IsWaiting (with_alias f p.param z) (with_dropped blocks p.param z) c q × (is_yes (sealed_of s c) ≡ true))
alias_completed own f s p ps blocks z b can before q here =
    elim (before.completed q (contains_more p ps q here)) [
      | inl gone ↦
          let other : q.param ≢ p.param = λ same. none_some (sym gone.0 ∙ ap (param_home f) same ∙ can.parameter) in
          inl (
            alias_home_other f p.param z q.param other ∙ gone.0,
            λ same.
                elim (alias_ends f p.param z b can q.param) [
                  | inl moved ↦
                      let at : z ≡ q.param = sym moved.1 ∙ same in
                      gone.1 (ap (λ w. resolved f w) (sym at) ∙ can.own_end ∙ at)
                  | inr stayed ↦ gone.1 (sym stayed.1 ∙ same)
                ],
          )
      | inr there ↦
          elim (cases_eq q.param p.param) [
            | inl same ↦
                let own_end : resolved f p.param ≡ p.param = follow_end f.values (length f.values) p.param (alias_free f p.param z b can) in
                inl (
                  ap (param_home (with_alias f p.param z)) same ∙ alias_home_same f p.param z b can,
                  λ ends.
                      elim (alias_ends f p.param z b can p.param) [
                        | inl moved ↦ can.apart (sym moved.1 ∙ ap (λ w. resolved (with_alias f p.param z) w) (sym same) ∙ ends ∙ same)
                        | inr stayed ↦ stayed.0 own_end
                      ],
                )
            | inr other ↦ inr (there.0, waiting_kept f (with_alias f p.param z) blocks (with_dropped blocks p.param z) there.0 q (alias_home_other f p.param z q.param other) refl there.1, there.2)
          ]
    ]

alias_pends : (own : Own) (f : Body) (s : SsaState) (p : Pending) (ps : List Pending) (blocks : Blocks) (z b : ℕ)
    → CanAlias f p.param z b → WaitsSealed s blocks p b → Describes own f s (p ∷ ps) blocks → (v y : ℕ)
    → resolved (with_alias f p.param z) v ≡ v → (blocks.function.definition v).kind ≡ pending y
    → ((c : ℕ) × Contains (pending_of (sealed_of s c)) (record { variable = y; param = v })) ⊎ Contains ps (record { variable = y; param = v })
alias_pends own f s p ps blocks z b can sealed before v y ends is =
    elim (alias_ends f p.param z b can v) [
      | inl moved ↦
          let at : z ≡ v = sym moved.1 ∙ ends in
          listed_still (ap (λ w. resolved f w) (sym at) ∙ can.own_end ∙ at) (λ same. can.apart (at ∙ sym same))
      | inr stayed ↦
          let own_end : resolved f v ≡ v = sym stayed.1 ∙ ends in
          listed_still own_end (λ same. stayed.0 (own_end ∙ sym same))
    ]
  where
    listed_still : resolved f v ≡ v → p.param ≢ v → ((c : ℕ) × Contains (pending_of (sealed_of s c)) (record { variable = y; param = v })) ⊎ Contains ps (record { variable = y; param = v })
    listed_still own_end other =
        elim (before.pends v y own_end is) [
          | inl old ↦ inl old
          | inr listed ↦
              elim (contains_cons p ps (record { variable = y; param = v }) listed) [
                | inl first ↦ absurd (other (ap (λ (q : Pending). q.param) first))
                | inr later ↦ inr later
              ]
        ]

pending_or_complete : {x y : ℕ} → ◌≡◌ {A = Kind} (pending x) (complete y) → ⊥
pending_or_complete same = cc

-- those that are still to be completed are parameters of the same blocks
alias_parameters : (own : Own) (f : Body) (s : SsaState) (p : Pending) (ps : List Pending) (blocks : Blocks) (z b : ℕ)
    → CanAlias f p.param z b → Describes own f s (p ∷ ps) blocks → (c : ℕ) → parameters_of (with_alias f p.param z) c ps ≡ parameters_of f c ps
alias_parameters own f s p ps blocks z b can before c =
    parameters_same f (with_alias f p.param z) c ps
    (λ q here.
    elim (cases_eq q.param p.param) [
      | inr other ↦ ap (is_some_block c) (alias_home_other f p.param z q.param other)
      | inl same ↦
          let gone : is_parameter_of (with_alias f p.param z) c q ≡ false = is_no_parameter (with_alias f p.param z) c q (ap (param_home (with_alias f p.param z)) same ∙ alias_home_same f p.param z b can) in
          elim (cases_eq b c) [
            | inl at ↦
                let q_home : param_home f q.param ≡ Some c = ap (param_home f) same ∙ can.parameter ∙ ap Some at in
                let first : parameters_of f c (p ∷ ps) ≡ p ∷ parameters_of f c ps = parameters_first f c p ps (is_parameter f c p (can.parameter ∙ ap Some at)) in
                let behind : place_of p.param (block_at f c).params < place_of q.param (block_at f c).params =
                in_order_first (block_at f c).params p (parameters_of f c ps) q (subst (λ qs. InOrder (block_at f c).params qs) first (before.completing_order c))
                (parameters_contain f c ps q (is_parameter f c q q_home) here) in
                absurd (omega (arith, behind, ap (λ w. place_of w (block_at f c).params) same))
            | inr apart ↦ gone ∙ sym (is_parameter_elsewhere f c b q (ap (param_home f) same ∙ can.parameter) apart)
          ]
    ])

alias_completing_order : (own : Own) (f : Body) (s : SsaState) (p : Pending) (ps : List Pending) (blocks : Blocks) (z b : ℕ)
    → CanAlias f p.param z b → Describes own f s (p ∷ ps) blocks → (c : ℕ) → InOrder (block_at (with_alias f p.param z) c).params (parameters_of (with_alias f p.param z) c ps)
alias_completing_order own f s p ps blocks z b can before c =
    subst (λ qs. InOrder (block_at (with_alias f p.param z) c).params qs) (sym (alias_parameters own f s p ps blocks z b can before c))
    (elim (alias_params f p.param z b can c) [
      | inl here ↦
          let first : parameters_of f c (p ∷ ps) ≡ p ∷ parameters_of f c ps = parameters_first f c p ps (is_parameter f c p (can.parameter ∙ ap Some (sym here.0))) in
          let order : InOrder (block_at f c).params (p ∷ parameters_of f c ps) = subst (λ qs. InOrder (block_at f c).params qs) first (before.completing_order c) in
          let other : (q : Pending) → Contains (parameters_of f c ps) q → q.param ≢ p.param =
          λ q inside same. absurd (omega (arith, in_order_first (block_at f c).params p (parameters_of f c ps) q order inside, ap (λ w. place_of w (block_at f c).params) same)) in
          subst (λ params. InOrder params (parameters_of f c ps)) (sym here.1)
          (in_order_moved (block_at f c).params (without p.param (block_at f c).params) (parameters_of f c ps)
          (λ q r q_in r_in below. order_without q.param r.param p.param (block_at f c).params (other q q_in) (other r r_in) below)
          (in_order_tail (block_at f c).params p (parameters_of f c ps) order))
      | inr apart ↦
          let skip : parameters_of f c (p ∷ ps) ≡ parameters_of f c ps = parameters_skip f c p ps (is_parameter_elsewhere f c b p can.parameter (λ same. apart.0 (sym same))) in
          subst (λ params. InOrder params (parameters_of f c ps)) (sym apart.1)
          (subst (λ qs. InOrder (block_at f c).params qs) skip (before.completing_order c))
    ])

-- the parameters that stay keep their order, and the complete ones their places
pub alias_order : (own : Own) (f : Body) (s : SsaState) (p : Pending) (ps : List Pending) (blocks : Blocks) (z b : ℕ)
    → CanAlias f p.param z b → WaitsSealed s blocks p b → Describes own f s (p ∷ ps) blocks
    → SameEdges f (with_alias f p.param z) s s blocks (with_dropped blocks p.param z) → Ordered own (with_alias f p.param z) s ps (with_dropped blocks p.param z)
alias_order own f s p ps blocks z b can sealed before edges =
    let v : ℕ = p.param in
    let g : Body = with_alias f v z in
    let complete_other : (made_for u c : ℕ) → blocks.function.definition u ≡ record { home = front c; kind = complete made_for } → u ≢ v =
    λ made_for u c is same. pending_or_complete (sym (ap (λ (d : Definition). d.kind) sealed.waits) ∙ ap (λ w. (blocks.function.definition w).kind) (sym same) ∙ ap (λ (d : Definition). d.kind) is) in
    record {
      complete_there = λ {made_for} c u is. alias_home_other f v z u (complete_other made_for u c is) ∙ before.complete_there c u is;
      complete_first = λ {made_for} c u w x is pends home.
          let w_other : w ≢ v = λ same. none_some (sym (alias_home_same f v z b can) ∙ ap (param_home g) (sym same) ∙ home) in
          let old : place_of u (block_at f c).params < place_of w (block_at f c).params = before.complete_first c u w x is pends (sym (alias_home_other f v z w w_other) ∙ home) in
          elim (alias_params f v z b can c) [
            | inl here ↦ subst (λ params. place_of u params < place_of w params) (sym here.1) (order_without u w v (block_at f c).params (complete_other made_for u c is) w_other old)
            | inr apart ↦ subst (λ params. place_of u params < place_of w params) (sym apart.1) old
          ];
      waiting_order = λ c.
          elim (alias_params f v z b can c) [
            | inl here ↦
                in_order_small (block_at g c).params (pending_of (sealed_of s c))
                (omega (arith, ap length (ap (λ d. pending_of (sealed_of s d)) here.0 ∙ none_pending (sealed_of s b) sealed.is_sealed)))
            | inr apart ↦ subst (λ params. InOrder params (pending_of (sealed_of s c))) (sym apart.1) (before.waiting_order c)
          ];
      completing_order = alias_completing_order own f s p ps blocks z b can before;
      passes = λ c u arm edge is at j belongs.
          let same_place : place_of u (block_at g c).params ≡ place_of u (block_at f c).params =
          elim (alias_params f v z b can c) [
            | inl here ↦
                ap (place_of u) here.1
                ∙ place_without_before u v (block_at f c).params
                (before.complete_first c u v p.variable is (sealed.waits ∙ ap (λ d. record { home = front d; kind = pending p.variable }) (sym here.0)) (can.parameter ∙ ap Some (sym here.0)))
            | inr apart ↦ ap (place_of u) apart.1
          ] in
          before.passes c u arm (edge_before f g s s blocks (with_dropped blocks v z) c arm edges edge) is at j (subst (λ k. BelongsTo own c edge.branch arm.edge k j) same_place belongs);
    }

pub alias_described : (own : Own) (f : Body) (s : SsaState) (p : Pending) (ps : List Pending) (blocks : Blocks) (z b : ℕ)
    → CanAlias f p.param z b → WaitsSealed s blocks p b → Describes own f s (p ∷ ps) blocks
    → Describes own (with_alias f p.param z) s ps (with_dropped blocks p.param z)
alias_described own f s p ps blocks z b can sealed before =
    let v : ℕ = p.param in
    let g : Body = with_alias f v z in
    let after : Blocks = with_dropped blocks v z in
    let count : length g.values ≡ length f.values = alias_count_same f v z in
    let extends : Extends f g blocks after =
    record { values_more = omega (arith, count); insts_more = omega arith; inst_same = λ i here. refl; constants_kept = λ constant bytes here. here; definition_same = λ u here. refl } in
    let old_arms : Arms f s blocks = arms_of own f s (p ∷ ps) blocks before in
    let edges : SameEdges f g s s blocks after = same_edges f g s s blocks after old_arms extends (λ c. refl) (λ c i here. refl) in
    let arms : Arms g s after =
    arms_kept f g s s blocks after (record { edges = edges; insts_more = extends.insts_more; entry = refl; same_yes = λ c. refl; sealed = λ c. refl; joins = λ arm. refl }) old_arms in
    let order : Ordered own g s ps after = alias_order own f s p ps blocks z b can sealed before edges in
    record {
      sealed = arms.sealed;
      joined = arms.joined;
      entered = arms.entered;
      led = arms.led;
      leading = arms.leading;
      leading_apart = arms.leading_apart;
      entry_free = arms.entry_free;
      resolves = λ u.
          aliased_ap blocks.function.resolve (λ w. resolved f w) v z u (before.resolves u)
          ∙ ap (λ t. aliased (λ w. resolved f w) v t u) (sym can.own_end) ∙ sym (alias_resolved f v z b can u);
      recorded = before.recorded;
      records_exist = λ c y u is. omega (arith, before.records_exist c y u is, count);
      unrecorded = λ c y is. assigns_not_kept blocks after c y refl (λ k. refl) (before.unrecorded c y is);
      unwritten = before.unwritten;
      absent = λ u past. before.absent u (omega (arith, past, count));
      homes = before.homes;
      answered = λ m given. omega (arith, before.answered m given, count);
      born_there = λ m given is_fresh.
          let old : (blocks.function.definition (blocks.answer m) ≡ record { home = (blocks.naming m).home; kind = born m }) × (resolved f (blocks.answer m) ≡ blocks.answer m) = before.born_there m given is_fresh in
          let other : resolved f (blocks.answer m) ≢ v = λ same.
          born_or_pending (sym (ap (λ (d : Definition). d.kind) old.0) ∙ ap (λ w. (blocks.function.definition w).kind) (sym old.1 ∙ same) ∙ ap (λ (d : Definition). d.kind) sealed.waits) in (
            old.0,
            elim (alias_ends f v z b can (blocks.answer m)) [
              | inl moved ↦ absurd (other moved.0)
              | inr stayed ↦ stayed.1 ∙ old.1
            ],
          );
      waiting = alias_waiting own f s p ps blocks z b can sealed before;
      completed = alias_completed own f s p ps blocks z b can before;
      pends = alias_pends own f s p ps blocks z b can sealed before;
      waiting_recorded = before.waiting_recorded;
      complete_there = order.complete_there;
      complete_first = order.complete_first;
      waiting_order = order.waiting_order;
      completing_order = order.completing_order;
      passes = order.passes;
      instructions = λ c. instructions_kept f g blocks after c (own.insts c) extends (alias_insts f v z b can c) (before.instructions c);
    }
