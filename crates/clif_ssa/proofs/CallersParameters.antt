-- A parameter of the caller's, of a block that has no parameter of a variable.
use Rattle.std.proofs.Common.{◌≡◌, ◌≢◌, ℕ, ◌+◌, ◌<◌, ◌≤◌, List, [], ◌∷◌, ◌++◌, length, refl, ap, arith, sym, ◌∙◌, subst, ◌⊎◌, inl, inr}
use Rattle.std.specs.Prelude.{Contains, Some}
use Rattle.std.proofs.lemmas.Grind.{common_steps}
use Rattle.std.proofs.lemmas.Bool.{cases_eq}
use Rattle.clif_types.specs.declared.types.«Type».{«Type»}
use Rattle.clif_ir.specs.Body.{Body, block_at, resolved}
use Rattle.clif_ir.specs.Changes.{with_param}
use Rattle.clif_ir.specs.Reading.{param_home}
use Rattle.clif_instructions.specs.Members.{place_of}
use Rattle.clif_paths.specs.Places.{start}
use Rattle.clif_paths.specs.State.{Definition, Kind, Naming, born, complete, fresh, pending, unborn, zero_of}
use Rattle.clif_paths.specs.Steps.{IsNewName}
use Rattle.clif_paths.specs.Blocks.{Blocks, front, state_of, with_born}
use Rattle.clif_paths.proofs.BlockSteps.{born_keeps}
use Rattle.clif_paths.proofs.Tables.{updated-same, updated-other}
use Rattle.clif_ssa.specs.Own.{Own, with_own_param}
use Rattle.clif_records.specs.Tables.{pending_of}
use Rattle.clif_ssa.specs.Ssa.{SsaState, sealed_of, predecessors_of}
use Rattle.clif_ssa.specs.Sound.{BelongsTo, CountsArguments, Describes, HomeFits, IsBehind, IsCounted, IsWaiting, passed_count, edge_target}
use Rattle.clif_ssa.specs.SoundLaws.{DescribesSoundly}
use Rattle.clif_ssa.proofs.Adding.{param_home_other}
use Rattle.clif_ssa.proofs.Bodies.{Firm, home-append, param_exists}
use Rattle.clif_ssa.proofs.Describing.{Arms, Extends, SameEdges, arms_kept, arms_of, assigns_not_kept, edge_before, homes_kept, instructions_kept, same_edges, waiting_exists, waiting_kept}
use Rattle.clif_ssa.proofs.Firsts.{same_some}
use Rattle.clif_ssa.proofs.Ordering.{in_order_moved, in_order_small}
use Rattle.clif_ssa.proofs.Parameters.{new_unaliased, param_count, param_home_new, param_insts, param_new_place, param_node, param_params, param_place, param_resolved}
use Rattle.clif_ssa.proofs.Writing.{name_cases, names_kept}

born_or_complete : {x y : ℕ} → ◌≡◌ {A = Kind} (born x) (complete y) → ⊥
born_or_complete same = cc

born_or_pending : {x y : ℕ} → ◌≡◌ {A = Kind} (born x) (pending y) → ⊥
born_or_pending same = cc

-- a parameter that stands among the caller's is a caller's, whatever is put behind those
still_behind : (kind : Kind) (place callers : ℕ) → IsBehind kind place callers → place < callers → IsBehind kind place (callers + 1)
still_behind unborn place callers behind among = behind
still_behind (born n) place callers behind among = omega (arith, behind)
still_behind (pending x) place callers behind among = absurd (omega (arith, behind, among))
still_behind (complete x) place callers behind among = absurd (omega (arith, behind, among))
still_behind (zero_of x) place callers behind among = behind

-- and no edge passes anything of the construction's to it
not_counted : (kind : Kind) (place callers more count given : ℕ) → IsBehind kind place callers → place < callers → IsCounted kind place more count given
not_counted unborn place callers more count given behind among = tt
not_counted (born n) place callers more count given behind among = tt
not_counted (pending x) place callers more count given behind among = absurd (omega (arith, behind, among))
not_counted (complete x) place callers more count given behind among = absurd (omega (arith, behind, among))
not_counted (zero_of x) place callers more count given behind among = tt

one_longer : (xs : List ℕ) (x : ℕ) → length (xs ++ x ∷ []) ≡ length xs + 1
one_longer xs x = grind (arith, common_steps)

module _ (own : Own) (f : Body) (s : SsaState) (blocks : Blocks) (b n : ℕ) (ty : «Type») (firm : Firm f) (before : Describes own f s [] blocks)
    (counts : CountsArguments own f s blocks) (there : b < length f.blocks) (bare : (block_at f b).params ≡ own.params b) where
  abbrev g : Body
  g = with_param f b ty

  abbrev z : ℕ
  z = length f.values

  abbrev own' : Own
  own' = with_own_param own b z

  abbrev after : Blocks
  after = with_born blocks (front b) n z

  abbrev new : Definition
  new = record { home = front b; kind = born n }

  long : length g.values ≡ z + 1
  long = param_count f b ty

  is_new : after.function.definition z ≡ new
  is_new = updated-same blocks.function.definition z new z refl

  is_old : (v : ℕ) → v ≢ z → after.function.definition v ≡ blocks.function.definition v
  is_old v other = updated-other blocks.function.definition z new v other

  old_below : (v : ℕ) → v < z → after.function.definition v ≡ blocks.function.definition v
  old_below v below = is_old v (λ same. absurd (omega (arith, below, same)))

  extends : Extends f g blocks after
  extends = record { values_more = omega (arith, long); insts_more = omega arith; inst_same = λ i here. refl; constants_kept = λ constant bytes here. here; definition_same = old_below }

  edges : SameEdges f g s s blocks after
  edges = same_edges f g s s blocks after (arms_of own f s [] blocks before) extends (λ c. refl) (λ c i here. refl)

  arms : Arms g s after
  arms =
      arms_kept f g s s blocks after
      (record { edges = edges; insts_more = omega arith; entry = refl; same_yes = λ c. refl; sealed = λ c. refl; joins = λ arm. refl })
      (arms_of own f s [] blocks before)

  -- each parameter of the block is a caller's
  among : (v : ℕ) → param_home f v ≡ Some b → place_of v (block_at f b).params < length (own.params b)
  among v home = subst (λ (ps : List ℕ). place_of v (block_at f b).params < length ps) bare (firm.stands v b home)

  none_complete : {made_for : ℕ} (v : ℕ) → blocks.function.definition v ≡ record { home = front b; kind = complete made_for } → ⊥
  none_complete v is =
      let home : param_home f v ≡ Some b = before.complete_there b v is in
      let behind : length (own.params b) ≤ place_of v (block_at f b).params =
      subst (λ (d : Definition). IsBehind d.kind (place_of v (block_at f b).params) (length (own.params b))) is (counts.behind b v home) in
      absurd (omega (arith, behind, among v home))

  complete_old : {made_for : ℕ} (v c : ℕ) → after.function.definition v ≡ record { home = front c; kind = complete made_for } → (v ≢ z) × (blocks.function.definition v ≡ record { home = front c; kind = complete made_for })
  complete_old v c is =
      let other : v ≢ z = λ one.
      born_or_complete (ap (λ (d : Definition). d.kind) (sym is_new) ∙ ap (λ w. (after.function.definition w).kind) (sym one) ∙ ap (λ (d : Definition). d.kind) is) in
      (other, sym (is_old v other) ∙ is)

  home_before : (v c : ℕ) → v ≢ z → param_home g v ≡ Some c → param_home f v ≡ Some c
  home_before v c other is = sym (param_home_other f b ty v other) ∙ is

  params_elsewhere : (c : ℕ) → c ≢ b → own'.params c ≡ own.params c
  params_elsewhere c other = updated-other own.params b (own.params b ++ z ∷ []) c other

  params_here : length (own'.params b) ≡ length (own.params b) + 1
  params_here = ap (λ (ps : List ℕ). length ps) (updated-same own.params b (own.params b ++ z ∷ []) b refl) ∙ one_longer (own.params b) z

  -- WHAT IS COUNTED -----------------------------------------------------------------------------------------------------

  behind_new : IsBehind (after.function.definition z).kind (place_of z (block_at g b).params) (length (own'.params b))
  behind_new =
      let place : place_of z (block_at g b).params ≡ length (block_at f b).params = param_new_place f b ty firm there in
      let as_many : length (block_at f b).params ≡ length (own.params b) = ap (λ (ps : List ℕ). length ps) bare in
      subst (λ (d : Definition). IsBehind d.kind (place_of z (block_at g b).params) (length (own'.params b))) (sym is_new) (omega (arith, place, as_many, params_here))

  behind_old : (c v : ℕ) → v ≢ z → param_home f v ≡ Some c → (c ≡ b) ⊎ (c ≢ b) → IsBehind (after.function.definition v).kind (place_of v (block_at g c).params) (length (own'.params c))
  behind_old c v other home at =
      subst (λ (d : Definition). IsBehind d.kind (place_of v (block_at g c).params) (length (own'.params c))) (sym (is_old v other))
      (subst (λ m. IsBehind (blocks.function.definition v).kind m (length (own'.params c))) (sym (param_place f b ty firm there v c home)) (by at))
    where
      by : (c ≡ b) ⊎ (c ≢ b) → IsBehind (blocks.function.definition v).kind (place_of v (block_at f c).params) (length (own'.params c))
      by (inl same) =
          let home_b : param_home f v ≡ Some b = home ∙ ap Some same in
          subst (λ d. IsBehind (blocks.function.definition v).kind (place_of v (block_at f d).params) (length (own'.params d))) (sym same)
          (subst (λ m. IsBehind (blocks.function.definition v).kind (place_of v (block_at f b).params) m) (sym params_here)
          (still_behind (blocks.function.definition v).kind (place_of v (block_at f b).params) (length (own.params b)) (counts.behind b v home_b) (among v home_b)))
      by (inr apart) =
          subst (λ (ps : List ℕ). IsBehind (blocks.function.definition v).kind (place_of v (block_at f c).params) (length ps)) (sym (params_elsewhere c apart)) (counts.behind c v home)

  counted_old : (c i k v : ℕ) → v ≢ z → Contains (predecessors_of s c) i → edge_target f i k ≡ Some c → param_home f v ≡ Some c → (c ≡ b) ⊎ (c ≢ b)
      → IsCounted (after.function.definition v).kind (place_of v (block_at g c).params) (length (own'.params c)) (passed_count g i k) (length (own.passed i k))
  counted_old c i k v other here leads home at =
      subst (λ (d : Definition). IsCounted d.kind (place_of v (block_at g c).params) (length (own'.params c)) (passed_count g i k) (length (own.passed i k))) (sym (is_old v other))
      (subst (λ m. IsCounted (blocks.function.definition v).kind m (length (own'.params c)) (passed_count g i k) (length (own.passed i k))) (sym (param_place f b ty firm there v c home)) (by at))
    where
      by : (c ≡ b) ⊎ (c ≢ b) → IsCounted (blocks.function.definition v).kind (place_of v (block_at f c).params) (length (own'.params c)) (passed_count f i k) (length (own.passed i k))
      by (inl same) =
          let home_b : param_home f v ≡ Some b = home ∙ ap Some same in
          subst (λ d. IsCounted (blocks.function.definition v).kind (place_of v (block_at f d).params) (length (own'.params d)) (passed_count f i k) (length (own.passed i k))) (sym same)
          (not_counted (blocks.function.definition v).kind (place_of v (block_at f b).params) (length (own.params b)) (length (own'.params b)) (passed_count f i k) (length (own.passed i k))
          (counts.behind b v home_b) (among v home_b))
      by (inr apart) =
          subst (λ (ps : List ℕ). IsCounted (blocks.function.definition v).kind (place_of v (block_at f c).params) (length ps) (passed_count f i k) (length (own.passed i k))) (sym (params_elsewhere c apart))
          (counts.counted c i k v here leads home)

  counted_now : CountsArguments own' g s after
  counted_now = record {
    behind = λ c v is.
        elim (cases_eq v z) [
          | inl same ↦
              let at : c ≡ b = same_some (sym is ∙ ap (λ w. param_home g w) same ∙ param_home_new f b ty) in
              subst (λ w. IsBehind (after.function.definition w).kind (place_of w (block_at g c).params) (length (own'.params c))) (sym same)
              (subst (λ d. IsBehind (after.function.definition z).kind (place_of z (block_at g d).params) (length (own'.params d))) (sym at) behind_new)
          | inr other ↦ behind_old c v other (home_before v c other is) (cases_eq c b)
        ];
    callers = λ c. both_longer c (λ callers params. callers ≤ params) (λ callers params fits. omega (arith, fits)) (counts.callers c);
    counted = λ c i k v here leads is.
        elim (cases_eq v z) [
          | inl same ↦
              subst (λ w. IsCounted (after.function.definition w).kind (place_of w (block_at g c).params) (length (own'.params c)) (passed_count g i k) (length (own.passed i k))) (sym same)
              (subst (λ (d : Definition). IsCounted d.kind (place_of z (block_at g c).params) (length (own'.params c)) (passed_count g i k) (length (own.passed i k))) (sym is_new) tt)
          | inr other ↦ counted_old c i k v other here leads (home_before v c other is) (cases_eq c b)
        ];
    no_fewer = λ c i k here leads. counts.no_fewer c i k here leads;
    no_more = λ c i k here leads.
        both_longer c (λ callers params. passed_count f i k + callers ≤ params + length (own.passed i k)) (λ callers params fits. omega (arith, fits)) (counts.no_more c i k here leads);
  }
    where
      both_longer : (c : ℕ) (P : ℕ → ℕ → Type 0) → ((callers params : ℕ) → P callers params → P (callers + 1) (params + 1))
          → P (length (own.params c)) (length (block_at f c).params) → P (length (own'.params c)) (length (block_at g c).params)
      both_longer c P more old =
          elim (param_params f b ty there c) [
            | inl at ↦
                let callers : length (own'.params c) ≡ length (own.params c) + 1 =
                ap (λ d. length (own'.params d)) at.0 ∙ params_here ∙ ap (λ d. length (own.params d) + 1) (sym at.0) in
                subst (λ (ps : List ℕ). P (length (own'.params c)) (length ps)) (sym at.1)
                (subst (λ m. P (length (own'.params c)) m) (sym (one_longer (block_at f c).params z))
                (subst (λ m. P m (length (block_at f c).params + 1)) (sym callers) (more (length (own.params c)) (length (block_at f c).params) old)))
            | inr apart ↦
                subst (λ (ps : List ℕ). P (length (own'.params c)) (length ps)) (sym apart.1)
                (subst (λ (ps : List ℕ). P (length ps) (length (block_at f c).params)) (sym (params_elsewhere c apart.0)) old)
          ]

  -- WHAT IS DESCRIBED ---------------------------------------------------------------------------------------------------

  module _ (name : IsNewName (state_of blocks) n) where
    abbrev named : Naming
    named = record { home = front b; origin = fresh }

    written : front b ≢ start
    written none = cc

    own_end : resolved f z ≡ z
    own_end = new_unaliased f firm

    same_end : (v : ℕ) → resolved g v ≡ resolved f v
    same_end = param_resolved f b ty firm

    cases : (m : ℕ) → ((m ≡ n) × (after.naming m ≡ named) × (after.answer m ≡ z)) ⊎ ((m ≢ n) × (after.naming m ≡ blocks.naming m) × (after.answer m ≡ blocks.answer m))
    cases = name_cases blocks.naming blocks.answer n z named

    fits_new : HomeFits after z (born n)
    fits_new = (
      updated-same blocks.naming n named n refl ∙ ap (λ (d : Definition). record { home = d.home; origin = fresh }) (sym is_new),
      updated-same blocks.answer n z n refl,
      λ none. written (sym (ap (λ (d : Definition). d.home) is_new) ∙ none),
    )

    described_now : Describes own' g s [] after
    described_now = record {
      sealed = arms.sealed;
      joined = arms.joined;
      entered = arms.entered;
      led = arms.led;
      leading = arms.leading;
      leading_apart = arms.leading_apart;
      entry_free = arms.entry_free;
      resolves = λ v. before.resolves v ∙ sym (same_end v);
      recorded = before.recorded;
      records_exist = λ c x v is. omega (arith, before.records_exist c x v is, long);
      unrecorded = λ c x is. assigns_not_kept blocks after c x refl (λ j. refl) (before.unrecorded c x is);
      unwritten = before.unwritten;
      absent = λ v past. is_old v (λ same. absurd (omega (arith, past, same, long))) ∙ before.absent v (omega (arith, past, long));
      homes = λ v.
          elim (cases_eq v z) [
            | inl same ↦
                subst (λ w. HomeFits after w (after.function.definition w).kind) (sym same)
                (subst (λ (d : Definition). HomeFits after z d.kind) (sym is_new) fits_new)
            | inr other ↦ homes_kept blocks after v (is_old v other) (λ c known. known) (names_kept blocks.naming blocks.answer n z named name.new_name) (before.homes v)
          ];
      answered = λ m given.
          elim (cases m) [
            | inl now ↦ omega (arith, now.2, long)
            | inr old ↦ omega (arith, old.2, long, before.answered m (λ none. given (ap (λ (j : Naming). j.home) old.1 ∙ none)))
          ];
      born_there = λ m given is_fresh.
          elim (cases m) [
            | inl now ↦ (
              ap after.function.definition now.2 ∙ is_new ∙ ap (λ j. record { home = front b; kind = born j }) (sym now.0)
                  ∙ ap (λ (j : Naming). record { home = j.home; kind = born m }) (sym now.1),
              ap (λ w. resolved g w) now.2 ∙ same_end z ∙ own_end ∙ sym now.2,
            )
            | inr old ↦
                let there : (blocks.naming m).home ≢ start = λ none. given (ap (λ (j : Naming). j.home) old.1 ∙ none) in
                let was : (blocks.function.definition (blocks.answer m) ≡ record { home = (blocks.naming m).home; kind = born m }) × (resolved f (blocks.answer m) ≡ blocks.answer m) =
                before.born_there m there (sym (ap (λ (j : Naming). j.origin) old.1) ∙ is_fresh) in (
                  ap after.function.definition old.2 ∙ old_below (blocks.answer m) (before.answered m there) ∙ was.0 ∙ ap (λ (j : Naming). record { home = j.home; kind = born m }) (sym old.1),
                  ap (λ w. resolved g w) old.2 ∙ same_end (blocks.answer m) ∙ was.1 ∙ sym old.2,
                )
          ];
      waiting = λ c p here.
          let was : IsWaiting f blocks c p = before.waiting c p here in
          let inside : p.param < z = waiting_exists f blocks c p was in
          waiting_kept f g blocks after c p (home-append f.values (param_node ty b ∷ []) p.param inside) (old_below p.param inside) was;
      completed = λ p here. absurd (omega (arith, here.1));
      pends = λ v x ends is.
          elim (cases_eq v z) [
            | inl same ↦ absurd (born_or_pending (sym (ap (λ (d : Definition). d.kind) is_new) ∙ ap (λ w. (after.function.definition w).kind) (sym same) ∙ is))
            | inr other ↦ before.pends v x (sym (same_end v) ∙ ends) (sym (ap (λ (d : Definition). d.kind) (is_old v other)) ∙ is)
          ];
      waiting_recorded = before.waiting_recorded;
      complete_there = λ c v is.
          let home : param_home f v ≡ Some c = before.complete_there c v (complete_old v c is).1 in
          home-append f.values (param_node ty b ∷ []) v (param_exists f v c home) ∙ home;
      complete_first = λ c v u y is pends home.
          let old = complete_old v c is in
          let v_home : param_home f v ≡ Some c = before.complete_there c v old.1 in
          let other : u ≢ z = λ one.
          born_or_pending (ap (λ (d : Definition). d.kind) (sym is_new) ∙ ap (λ w. (after.function.definition w).kind) (sym one) ∙ ap (λ (d : Definition). d.kind) pends) in
          let u_home : param_home f u ≡ Some c = home_before u c other home in
          omega (
            arith,
            param_place f b ty firm there v c v_home,
            param_place f b ty firm there u c u_home,
            before.complete_first c v u y old.1 (sym (is_old u other) ∙ pends) u_home,
          );
      waiting_order = λ c.
          in_order_moved (block_at f c).params (block_at g c).params (pending_of (sealed_of s c))
          (λ p q p_here q_here below.
          omega (
            arith,
            below,
            param_place f b ty firm there p.param c (before.waiting c p p_here).parameter,
            param_place f b ty firm there q.param c (before.waiting c q q_here).parameter,
          )) (before.waiting_order c);
      completing_order = λ c. in_order_small (block_at g c).params [] (omega arith);
      passes = λ {made_for} c v arm edge is at j belongs.
          let old = complete_old v c is in
          let apart : c ≢ b = λ same. none_complete v (old.1 ∙ ap (λ d. record { home = front d; kind = complete made_for }) same) in
          before.passes c v arm (edge_before f g s s blocks after c arm edges edge) old.1 at j
          (subst (λ (ps : List ℕ). j + length ps ≡ place_of v (block_at f c).params + length (own.passed edge.branch arm.edge)) (params_elsewhere c apart)
          (subst (λ k. BelongsTo own' c edge.branch arm.edge k j) (param_place f b ty firm there v c (before.complete_there c v old.1)) belongs));
      instructions = λ c. instructions_kept f g blocks after c (own.insts c) extends (param_insts f b ty there c) (before.instructions c);
    }

pub callers_described : (own : Own) (f : Body) (s : SsaState) (blocks : Blocks) (b n : ℕ) (ty : «Type») → Firm f
    → DescribesSoundly own f s blocks → b < length f.blocks → (block_at f b).params ≡ own.params b → IsNewName (state_of blocks) n
    → DescribesSoundly (with_own_param own b (length f.values)) (with_param f b ty) s (with_born blocks (front b) n (length f.values))
callers_described own f s blocks b n ty firm both there bare name = (
  described_now own f s blocks b n ty firm both.0 both.2 there bare name,
  born_keeps blocks (front b) n (length f.values)
      (record {
        written = written own f s blocks b n ty firm both.0 both.2 there bare name;
        name = name;
        new_value = ap (λ (d : Definition). d.home) (both.0.absent (length f.values) (omega arith));
        no_alias = both.0.resolves (length f.values) ∙ new_unaliased f firm;
      }) both.1,
  counted_now own f s blocks b n ty firm both.0 both.2 there bare,
)
