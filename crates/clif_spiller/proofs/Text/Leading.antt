-- The edges of a call that are led on, one after the other.
use Rattle.std.proofs.Common.{◌≡◌, ◌≢◌, ◌∙◌, ◌<◌, ◌≤◌, ◌+◌, ℕ, zero, suc, List, [], ◌∷◌, ◌++◌, length, map as each, flat_map, refl, sym, ap, subst, arith, inl, inr}
use Rattle.std.specs.Prelude.{Contains}
use Rattle.std.proofs.lemmas.Bool.{cases_eq}
use Rattle.std.proofs.lemmas.List.Elements.{All-contains}
use Rattle.clif_tables.specs.Lists.{TableLists, stack_map_at}
use Rattle.clif_instructions.specs.Edges.{edge_at, no_edge}
use Rattle.clif_instructions.specs.Instruction.{contexts, destinations, with_edge}
use Rattle.clif_instructions.specs.Members.{Stands, place_of}
use Rattle.clif_instructions.specs.declared.block_call.BlockArg.{BlockArg}
use Rattle.clif_instructions.specs.declared.block_call.BlockArg.TheVariants as arg
use Rattle.clif_instructions.specs.declared.block_call.BlockCall.{BlockCall}
use Rattle.clif_instructions.specs.declared.instructions.InstructionData.{InstructionData}
use Rattle.clif_instructions.specs.declared.instructions.InstructionData.TheVariants.{Jump}
use Rattle.clif_instructions.proofs.Lists.{at_set, below_or_not}
use Rattle.clif_nodes.specs.declared.nodes.InstNode.{InstNode}
use Rattle.clif_ir.specs.Body.{Body, block_at, inst_at}
use Rattle.clif_ir.specs.Changes.{with_shape}
use Rattle.clif_ir.specs.Consistent.{EdgeExists, IsConsistent, PassedExists}
use Rattle.clif_stack_slots.specs.declared.slots.StackSlots.{StackSlots}
use Rattle.clif_spiller.specs.Acting.{Acts, LandsEdge, args_of, needs, passed_values}
use Rattle.clif_spiller.specs.Allocating.{SlotAct}
use Rattle.clif_spiller.specs.Keeping.{Keeps}
use Rattle.clif_spiller.specs.Text.{Access, IsAlike, IsCut, IsEdgeBy, IsLandingOf, IsLedAt, LandedRow, LandsArguments, LandsBy, LeadsOn, LeadsOne, Relands, Reloaded, own_arg, own_type_in, params_of, passed_of, spot_place}
use Rattle.clif_spiller.specs.declared.accesses.Spot.TheVariants as spot
use Rattle.clif_spiller.specs.declared.plan.Plan.{Plan}
use Rattle.clif_spiller.proofs.Advancing.{map_alike}
use Rattle.clif_spiller.proofs.Edges.{alike_there, edge_there}
use Rattle.clif_spiller.proofs.Keeping.{keeps_fewer, keeps_trans, more_values, others_there, shape_there, with_shape_keeps}
use Rattle.clif_spiller.proofs.Parts.{destinations-with_edge}
use Rattle.clif_spiller.proofs.Text.Adding.{StayFrom, are_lower, are_stay, are_upper}
use Rattle.clif_spiller.proofs.Text.Alike.{alike_edge, alike_same, alike_then, contexts-with_edge}
use Rattle.clif_spiller.proofs.Text.Cutting.{cut_stays}
use Rattle.clif_spiller.proofs.Text.Landing.{BlocksStay, landed_turned, lands_alike, lands_from, lands_stay, own_type_stays, rising_lower}
use Rattle.clif_spiller.proofs.Text.Lists.{place_new}
use Rattle.clif_spiller.proofs.Text.Rereading.{IsNamedAlike, stays_by}
use Rattle.clif_spiller.proofs.Text.Using.{edge_itself}

-- PLACES ----------------------------------------------------------------------------------------------------------------

pub relands_nothing : (inst : ℕ) (f : Body) (a : StackSlots) → Relands inst f a f a
relands_nothing inst f a = record {
  still = λ v slot has. has;
  cut = λ block at front back is. is;
  alike = alike_same (inst_at f inst).shape;
  named = refl;
}

pub relands_then : (inst : ℕ) (f : Body) (a : StackSlots) (g : Body) (b : StackSlots) (h : Body) (c : StackSlots) → Relands inst f a g b → Relands inst g b h c → Relands inst f a h c
relands_then inst f a g b h c p q = record {
  still = λ v slot has. q.still v slot (p.still v slot has);
  cut = λ block at front back is. q.cut block at front back (p.cut block at front back is);
  alike = alike_then (inst_at f inst).shape (inst_at g inst).shape (inst_at h inst).shape p.alike q.alike;
  named = q.named ∙ p.named;
}

-- ONE EDGE --------------------------------------------------------------------------------------------------------------

-- an edge that passes nothing spilled stays
pub leads_straight : (plan : Plan) (inst edge : ℕ) (f : Body) (a : StackSlots) → needs plan (passed_values f (args_of f inst edge)) ≡ [] → LeadsOne plan inst edge f a f a
leads_straight plan inst edge f a none = record {
  so = relands_nothing inst f a;
  led = inl (refl, edge_itself plan f (edge_at (destinations (inst_at f inst).shape) edge) none);
  blocks = λ block from to. absurd (omega (arith, from, to));
}

-- A landing block and its jump were made, arguments landed, and then the edge leads to the block.
module _ (plan : Plan) (inst edge landing jump target : ℕ) (f : Body) (a : StackSlots) (j l : Body) (b : StackSlots) (own : List BlockArg)
    (known : IsConsistent f) (exists : inst < length f.insts) (inside : edge < length (destinations (inst_at f inst).shape))
    (target_is : target ≡ (edge_at (destinations (inst_at f inst).shape) edge).block)
    (landing_is : landing ≡ length f.blocks) (jump_is : jump ≡ length f.insts) (keeps : Keeps (length f.blocks) f j) (one_block : length j.blocks ≡ suc (length f.blocks))
    (jump_there : jump < length j.insts) (tables : j.tables ≡ f.tables)
    (nodes : (i : ℕ) → i < length f.insts → inst_at j i ≡ inst_at f i) (lists : (c : ℕ) → c < length f.blocks → (block_at j c).insts ≡ (block_at f c).insts)
    (home : (inst_at j jump).block ≡ landing) (stands : Stands landing j.layout) (empty : (block_at j landing).params ≡ []) (only : (block_at j landing).insts ≡ jump ∷ [])
    (jumps : (inst_at j jump).shape ≡ Jump (record { block = target; args = [] })) (gives : (inst_at j jump).results ≡ [])
    (n : ℕ) (further : Keeps n j l) (layout : l.layout ≡ j.layout) (acts : List SlotAct) (at : Acts plan jump j a l b acts)
    (rows : LandsArguments plan landing jump target (inst_at f inst).shape j a l b (args_of f inst edge) own) where
  abbrev call : BlockCall
  call = record { block = landing; args = own }

  abbrev shape : InstructionData
  shape = with_edge edge call (inst_at l inst).shape

  abbrev g : Body
  g = with_shape l inst (with_edge edge (record { block = landing; args = own }) (inst_at l inst).shape)

  abbrev old_edge : BlockCall
  old_edge = edge_at (destinations (inst_at f inst).shape) edge

  there : inst < length l.insts
  there = (let more = keeps.insts in let most = further.insts in omega (arith, exists, more, most))

  apart : inst ≡ jump → ⊥
  apart same = omega (arith, same, jump_is, exists)

  same : inst_at l inst ≡ inst_at f inst
  same = at.others inst (let more = keeps.insts in omega (arith, exists, more)) apart ∙ nodes inst exists

  was : (inst_at l inst).shape ≡ (inst_at f inst).shape
  was = ap (λ (m : InstNode). m.shape) same

  edge_inside : edge < length (destinations (inst_at l inst).shape)
  edge_inside = omega (arith, inside, ap (λ (s : InstructionData). length (destinations s)) was)

  now : (inst_at g inst).shape ≡ shape
  now = shape_there l inst shape there

  edge_now : edge_at (destinations (inst_at g inst).shape) edge ≡ call
  edge_now =
      ap (λ (s : InstructionData). edge_at (destinations s) edge) now
      ∙ ap (λ (xs : List BlockCall). edge_at xs edge) (destinations-with_edge edge call (inst_at l inst).shape edge_inside)
      ∙ at_set (λ (y : BlockCall). y ≡ call) (destinations (inst_at l inst).shape) edge call edge no_edge edge_inside (λ here. refl) (λ other. absurd (other refl))

  all_keeps : Keeps 0 f g
  all_keeps =
      keeps_trans 0 f j g (keeps_fewer 0 (length f.blocks) f j (omega arith) keeps)
      (keeps_trans 0 j l g (keeps_fewer 0 n j l (omega arith) further) (with_shape_keeps 0 l inst shape))

  lists_kept : (c : ℕ) → c < length f.blocks → (block_at l c).insts ≡ (block_at f c).insts
  lists_kept c below =
      at.lists c (let more = keeps.blocks in omega (arith, below, more)) (λ is. omega (arith, is ∙ home, landing_is, below)) ∙ lists c below

  alike_all : (x : BlockArg) → Contains (args_of f inst edge) x → IsNamedAlike f j x
  alike_all x here =
      alike_there (length f.blocks) f j keeps known x
      (All-contains (PassedExists f) (args_of f inst edge) x (known.edges_exist inst edge no_edge inside).1 here)

  turned : (x : BlockArg) → IsNamedAlike f j x → IsNamedAlike j f x
  turned (arg.Value v) is = sym is
  turned (arg.TryCallRet index) is = tt
  turned (arg.TryCallExn part) is = tt

  member : (rows : List LandedRow) (row : LandedRow) → Contains rows row → Contains (each (λ (r : LandedRow). r.argument) rows) row.argument
  member [] row (k, low, is) = absurd (omega (arith, low))
  member (x ∷ rest) row (zero, low, is) = (0, omega arith, ap (λ (r : LandedRow). r.argument) is)
  member (x ∷ rest) row (suc k, low, is) = let more = member rest row (k, omega (arith, low), is) in (suc more.0, (let high = more.1 in omega (arith, high)), more.2)

  lands_there : LandsBy plan (inst_at f inst).shape f g b old_edge (record { block = landing; args = own })
  lands_there =
      let made = rows.lands in
      let all : List Access = made.accesses in
      let cut_there : IsCut j landing (spot.Before jump) [] (jump ∷ []) = record {
        list = only;
        home = home;
        place = place_zero;
        exists = jump_there;
        block_exists = omega (arith, landing_is, one_block);
        below = below_jump;
      } in
      record {
        rows = rows.rows;
        accesses = all;
        are = are_lower Reloaded plan.pointer g (length f.insts) (length f.values) (length j.insts) (length j.values) all (length g.insts) (length g.values)
            keeps.insts (more_values (length f.blocks) f j keeps)
            (are_upper Reloaded plan.pointer g (length j.insts) (length j.values) all (length l.insts) (length l.values) (length g.insts) (length g.values)
            (with_shape_keeps 0 l inst shape).insts (omega arith)
            (are_stay Reloaded plan.pointer 0 l g (with_shape_keeps 0 l inst shape) (length j.insts) (length l.insts)
            (λ i from to. (others_there l inst shape i (λ is. omega (arith, is, from, exists, keeps.insts)), refl))
            (length j.insts) (length j.values) all (length l.insts) (length l.values) (omega arith) (omega arith) (omega arith) made.adds.are));
        slots = made.adds.slots;
        so = λ row here.
            landed_turned plan j f all all row.argument row.params row.new
            (turned row.argument (alike_all row.argument (subst (λ (xs : List BlockArg). Contains xs row.argument) rows.args_are (member rows.rows row here))))
            (λ x is. is) (made.so row here);
        args_are = rows.args_are;
        own_are = rows.own_are;
        params = made.params ∙ ap (λ xs. xs ++ params_of rows.rows) empty;
        rising = rising_lower (length f.values) (length j.values) (params_of rows.rows) (length g.values) (more_values (length f.blocks) f j keeps) made.rising;
        apart = made.apart;
        types = made.types
            ∙ ap (λ (xs : List BlockArg). each (own_type_in j.tables (inst_at f inst).shape) xs) (ap (flat_map own_arg) rows.args_are ∙ sym rows.own_are)
            ∙ map_alike (own_type_in j.tables (inst_at f inst).shape) (own_type_in f.tables (inst_at f inst).shape) own
            (λ x here. own_type_stays (length f.blocks) f j keeps (inst_at f inst).shape x);
        jump = jump;
        from_jump = omega (arith, jump_is);
        to_jump = (let more = further.insts in let most = (with_shape_keeps 0 l inst shape).insts in omega (arith, jump_there, more, most));
        from_block = omega (arith, landing_is);
        to_block = (let more = further.blocks in omega (arith, landing_is, one_block, more));
        stands = subst (Stands landing) (sym layout) stands;
        list = (made.adds.cut landing [] (jump ∷ []) cut_there).list;
        jumps = record {
          shape_is = ap (λ (m : InstNode). m.shape) (others_there l inst shape jump (λ is. apart (sym is)))
              ∙ rows.jumps [] jumps ∙ ap (λ (t : ℕ). Jump (record { block = t; args = passed_of rows.rows })) target_is;
          results_are = ap (λ (m : InstNode). m.results) (others_there l inst shape jump (λ is. apart (sym is))) ∙ further.results jump jump_there ∙ gives;
          no_map = at.maps jump ∙ ap (λ (t : TableLists). stack_map_at t jump) tables ∙ known.maps_known jump (omega (arith, jump_is));
        };
      }
    where
      place_zero : spot_place j (spot.Before jump) ≡ 0
      place_zero =
          ap (λ (c : ℕ). place_of jump (block_at j c).insts) home ∙ ap (place_of jump) only ∙ place_new jump [] [] (λ i here. absurd (let low = here.1 in omega (arith, low)))

      below_jump : (i : ℕ) → Contains ([] ++ jump ∷ []) i → i < length j.insts
      below_jump i (zero, low, is) = subst (λ (x : ℕ). x < length j.insts) is jump_there
      below_jump i (suc k, low, is) = absurd (omega (arith, low))

  -- the edge leads to the block
  pub leads_landed : LeadsOne plan inst edge f a g b
  leads_landed = record {
    so = record {
      still = rows.lands.adds.still;
      cut = λ block spot_at front back is.
          cut_stays f g block spot_at front back all_keeps.insts all_keeps.blocks (lists_kept block is.block_exists) (all_keeps.homes _ is.exists) is;
      alike = subst (IsAlike (inst_at f inst).shape) (sym now) (subst (λ (s : InstructionData). IsAlike s shape) was (alike_edge edge call (inst_at l inst).shape));
      named = ap contexts now ∙ contexts-with_edge edge call (inst_at l inst).shape ∙ ap contexts was;
    };
    led = inr led_now;
    blocks = λ block from to.
        let count : length l.blocks ≡ suc (length f.blocks) = rows.lands.adds.blocks ∙ one_block in
        let is : landing ≡ block = omega (arith, landing_is, from, to, count) in
        (ap (λ (x : BlockCall). x.block) edge_now ∙ is, led_now);
  }
    where
      led_now : LandsBy plan (inst_at f inst).shape f g b old_edge (edge_at (destinations (inst_at g inst).shape) edge)
      led_now = subst (LandsBy plan (inst_at f inst).shape f g b old_edge) (sym edge_now) lands_there

-- FROM EDGE TO EDGE -----------------------------------------------------------------------------------------------------

module _ (plan : Plan) (inst edge : ℕ) (f : Body) (a : StackSlots) (g : Body) (b : StackSlots) (h : Body) (c : StackSlots) (known : IsConsistent f)
    (exists : inst < length f.insts) (keeps : Keeps (length f.blocks) f g) (further : Keeps (length g.blocks) g h) (landing : LandsEdge plan inst edge g b h c)
    (one : LeadsOne plan inst edge g b h c) (so : Relands inst f a g b) (inside : edge < length (destinations (inst_at f inst).shape))
    (same : edge_at (destinations (inst_at g inst).shape) edge ≡ edge_at (destinations (inst_at f inst).shape) edge) where
  home_inside : (inst_at g inst).block < length f.blocks
  home_inside = subst (λ (d : ℕ). d < length f.blocks) (sym (keeps.homes inst exists)) (known.insts_stand inst exists).0

  blocks_stay : BlocksStay (length f.blocks) (length g.blocks) g h
  blocks_stay d from to = (
    further.params d to,
    landing.acts.lists d to (λ is. omega (arith, is, from, home_inside)),
    further.layout d,
  )

  stay : StayFrom (length f.insts) (length g.insts) g h
  stay = stays_by plan inst g b h c _ (length f.insts) exists landing.acts

  lands_later : (old new : BlockCall) → LandsBy plan (inst_at f inst).shape f g b old new → LandsBy plan (inst_at f inst).shape f h c old new
  lands_later old new = lands_stay plan (inst_at f inst).shape (length g.blocks) f g b h c old new further stay blocks_stay one.so.still

  exists_there : EdgeExists f (edge_at (destinations (inst_at f inst).shape) edge)
  exists_there = known.edges_exist inst edge no_edge inside

  lands_now : (new : BlockCall) → LandsBy plan (inst_at g inst).shape g h c (edge_at (destinations (inst_at g inst).shape) edge) new
      → LandsBy plan (inst_at f inst).shape f h c (edge_at (destinations (inst_at f inst).shape) edge) new
  lands_now new lands =
      lands_alike plan (inst_at f inst).shape (inst_at g inst).shape f h c (edge_at (destinations (inst_at f inst).shape) edge) new so.alike
      (lands_from plan (inst_at g inst).shape (length f.blocks) f g h c (edge_at (destinations (inst_at f inst).shape) edge) new keeps
      (λ x here. turned x (alike_there (length f.blocks) f g keeps known x (All-contains (PassedExists f) _ x exists_there.1 here)))
      (subst (λ (old : BlockCall). LandsBy plan (inst_at g inst).shape g h c old new) same lands))
    where
      turned : (x : BlockArg) → IsNamedAlike f g x → IsNamedAlike g f x
      turned (arg.Value v) is = sym is
      turned (arg.TryCallRet index) is = tt
      turned (arg.TryCallExn part) is = tt

  pub led_later : (k : ℕ) → k ≢ edge → IsLedAt plan inst f g b k → IsLedAt plan inst f h c k
  led_later k other (inl straight) = inl (landing.others k other ∙ straight.0, straight.1)
  led_later k other (inr lands) =
      inr (subst (LandsBy plan (inst_at f inst).shape f h c (edge_at (destinations (inst_at f inst).shape) k)) (sym (landing.others k other))
      (lands_later (edge_at (destinations (inst_at f inst).shape) k) (edge_at (destinations (inst_at g inst).shape) k) lands))

  pub led_now : IsLedAt plan inst f h c edge
  led_now = by one.led
    where
      by : IsLedAt plan inst g h c edge → IsLedAt plan inst f h c edge
      by (inl straight) =
          inl (
            straight.0 ∙ same,
            edge_there plan (length f.blocks) f g [] [] (edge_at (destinations (inst_at f inst).shape) edge) (edge_at (destinations (inst_at f inst).shape) edge) keeps known exists_there
                (λ x is. is) (subst (λ (old : BlockCall). IsEdgeBy plan g [] old old) same straight.1),
          )
      by (inr lands) = inr (lands_now (edge_at (destinations (inst_at h inst).shape) edge) lands)

  pub landing_later : (k block : ℕ) → k ≢ edge → IsLandingOf plan inst f g b k block → IsLandingOf plan inst f h c k block
  landing_later k block other (is, lands) = (
    ap (λ (x : BlockCall). x.block) (landing.others k other) ∙ is,
    subst (LandsBy plan (inst_at f inst).shape f h c (edge_at (destinations (inst_at f inst).shape) k)) (sym (landing.others k other))
        (lands_later (edge_at (destinations (inst_at f inst).shape) k) (edge_at (destinations (inst_at g inst).shape) k) lands),
  )

  pub landing_now : (block : ℕ) → IsLandingOf plan inst g h c edge block → IsLandingOf plan inst f h c edge block
  landing_now block (is, lands) = (is, lands_now (edge_at (destinations (inst_at h inst).shape) edge) lands)

-- the edges of items before this one are led on
pub record LeadsFirst (plan : Plan) (inst : ℕ) (f : Body) (a : StackSlots) (edge : ℕ) (g : Body) (b : StackSlots) : Type 0 where
  pub so : Relands inst f a g b
  pub led : (k : ℕ) → 1 ≤ k → k < edge → IsLedAt plan inst f g b k
  pub blocks : (block : ℕ) → length f.blocks ≤ block → block < length g.blocks
      → (k : ℕ) × (1 ≤ k) × (k < edge) × (k < length (destinations (inst_at f inst).shape)) × IsLandingOf plan inst f g b k block

pub none_led_yet : (plan : Plan) (inst : ℕ) (f : Body) (a : StackSlots) → LeadsFirst plan inst f a 1 f a
none_led_yet plan inst f a = record {
  so = relands_nothing inst f a;
  led = λ k low high. absurd (omega (arith, low, high));
  blocks = λ block from to. absurd (omega (arith, from, to));
}

module _ (plan : Plan) (inst edge : ℕ) (f : Body) (a : StackSlots) (g : Body) (b : StackSlots) (h : Body) (c : StackSlots) (known : IsConsistent f)
    (exists : inst < length f.insts) (keeps : Keeps (length f.blocks) f g) (further : Keeps (length g.blocks) g h) (landing : LandsEdge plan inst edge g b h c)
    (one : LeadsOne plan inst edge g b h c) (inside : edge < length (destinations (inst_at f inst).shape))
    (same : edge_at (destinations (inst_at g inst).shape) edge ≡ edge_at (destinations (inst_at f inst).shape) edge) where
  pub next_led : 1 ≤ edge → LeadsFirst plan inst f a edge g b → LeadsFirst plan inst f a (edge + 1) h c
  next_led low so_far = record {
    so = relands_then inst f a g b h c so_far.so one.so;
    led = λ k from to.
        elim (cases_eq k edge) [
          | inl is ↦ subst (IsLedAt plan inst f h c) (sym is)
              (led_now plan inst edge f a g b h c known exists keeps further landing one so_far.so inside same)
          | inr other ↦
              led_later plan inst edge f a g b h c known exists keeps further landing one so_far.so inside same k other (so_far.led k from (omega (arith, to, other)))
        ];
    blocks = λ block from to.
        elim (below_or_not block (length g.blocks)) [
          | inl early ↦
              let was = so_far.blocks block from early in (
                was.0,
                was.1,
                (let high = was.2 in omega (arith, high)),
                was.3,
                landing_later plan inst edge f a g b h c known exists keeps further landing one so_far.so inside same was.0 block
                    (λ is. let high = was.2 in omega (arith, is, high)) was.4,
              )
          | inr late ↦
              (edge, low, omega arith, inside, landing_now plan inst edge f a g b h c known exists keeps further landing one so_far.so inside same block (one.blocks block late to))
        ];
  }

-- and the normal edge last
module _ (plan : Plan) (inst edge : ℕ) (f : Body) (a : StackSlots) (g : Body) (b : StackSlots) (h : Body) (c : StackSlots) (known : IsConsistent f)
    (exists : inst < length f.insts) (keeps : Keeps (length f.blocks) f g) (further : Keeps (length g.blocks) g h) (landing : LandsEdge plan inst 0 g b h c)
    (one : LeadsOne plan inst 0 g b h c) (inside : 0 < length (destinations (inst_at f inst).shape))
    (same : edge_at (destinations (inst_at g inst).shape) 0 ≡ edge_at (destinations (inst_at f inst).shape) 0) where
  pub all_led : length (destinations (inst_at f inst).shape) ≤ edge → length (destinations (inst_at h inst).shape) ≡ length (destinations (inst_at f inst).shape)
      → LeadsFirst plan inst f a edge g b → LeadsOn plan inst f a h c
  all_led past count so_far = record {
    so = relands_then inst f a g b h c so_far.so one.so;
    count = count;
    led = λ k to.
        elim (cases_eq k 0) [
          | inl is ↦ subst (IsLedAt plan inst f h c) (sym is)
              (led_now plan inst 0 f a g b h c known exists keeps further landing one so_far.so inside same)
          | inr other ↦
              led_later plan inst 0 f a g b h c known exists keeps further landing one so_far.so inside same k other
              (so_far.led k (omega (arith, other)) (omega (arith, to, past)))
        ];
    blocks = λ block from to.
        elim (below_or_not block (length g.blocks)) [
          | inl early ↦
              let was = so_far.blocks block from early in (
                was.0,
                was.3,
                landing_later plan inst 0 f a g b h c known exists keeps further landing one so_far.so inside same was.0 block
                    (λ is. let low = was.1 in omega (arith, is, low)) was.4,
              )
          | inr late ↦ (0, inside, landing_now plan inst 0 f a g b h c known exists keeps further landing one so_far.so inside same block (one.blocks block late to))
        ];
  }

-- an instruction without edges
pub none_to_lead : (plan : Plan) (inst : ℕ) (f : Body) (a : StackSlots) (edge : ℕ) (g : Body) (b : StackSlots) → length (destinations (inst_at f inst).shape) ≡ 0
    → length (destinations (inst_at g inst).shape) ≡ length (destinations (inst_at f inst).shape) → LeadsFirst plan inst f a edge g b → LeadsOn plan inst f a g b
none_to_lead plan inst f a edge g b none count so_far = record {
  so = so_far.so;
  count = count;
  led = λ k inside. absurd (omega (arith, inside, none));
  blocks = λ block from to. let was = so_far.blocks block from to in let inside = was.3 in absurd (omega (arith, inside, none));
}
