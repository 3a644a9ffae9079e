-- Landing blocks: arguments that are landed one after the other, and what stays of them.
use Rattle.std.proofs.Common.{◌≡◌, ◌∙◌, ◌<◌, ◌≤◌, ℕ, zero, suc, List, [], ◌∷◌, ◌++◌, length, map as each, flat_map, refl, sym, ap, ap₂, subst, arith, append_assoc, inl, inr}
use Rattle.std.specs.Prelude.{Contains}
use Rattle.std.proofs.lemmas.List.Elements.{Contains-append_cases}
use Rattle.clif_types.specs.declared.types.«Type».{«Type»}
use Rattle.clif_tables.specs.Lists.{TableLists}
use Rattle.clif_instructions.specs.Members.{Stands}
use Rattle.clif_instructions.specs.declared.block_call.BlockArg.{BlockArg}
use Rattle.clif_instructions.specs.declared.block_call.BlockArg.TheVariants as arg
use Rattle.clif_instructions.specs.declared.block_call.BlockCall.{BlockCall}
use Rattle.clif_instructions.specs.declared.instructions.InstructionData.{InstructionData}
use Rattle.clif_instructions.specs.declared.instructions.InstructionData.TheVariants.{Jump}
use Rattle.clif_nodes.specs.declared.nodes.ValueNode.{ValueNode}
use Rattle.clif_ir.specs.Body.{Body, block_at, value_at}
use Rattle.clif_meaning.specs.Instruction.{Operation}
use Rattle.clif_meaning.specs.Typing.{call_shape}
use Rattle.clif_meaning.specs.View.{operation_of}
use Rattle.clif_stack_slots.specs.declared.slots.StackSlots.{StackSlots}
use Rattle.clif_spiller.specs.Keeping.{Keeps}
use Rattle.clif_spiller.specs.Text.{Access, AreAccesses, AreRising, IsAlike, IsLandedAs, KeepsSlots, LandedRow, LandsBy, LandsRows, Reloaded, Way, arguments_of, own_arg, own_type_in, params_of, past_access, passed_of, returned_type}
use Rattle.clif_spiller.specs.declared.accesses.Spot.TheVariants as spot
use Rattle.clif_spiller.specs.declared.plan.Plan.{Plan}
use Rattle.clif_spiller.proofs.Advancing.{map_alike}
use Rattle.clif_spiller.proofs.Keeping.{more_values, same_value}
use Rattle.clif_spiller.proofs.Text.Adding.{StayFrom, adds_then, are_lower, are_stay, are_upper, in_range, node_stays, past_address}
use Rattle.clif_spiller.proofs.Text.Alike.{operation_stays}
use Rattle.clif_spiller.proofs.Text.Rereading.{IsNamedAlike, more_left, more_right, read_turned}

-- RANGES ----------------------------------------------------------------------------------------------------------------

pub rising_lower : (low low₁ : ℕ) (xs : List ℕ) (high : ℕ) → low ≤ low₁ → AreRising low₁ xs high → AreRising low xs high
rising_lower low low₁ [] high less rising = omega (arith, rising, less)
rising_lower low low₁ (x ∷ xs) high less rising = ((let from = rising.0 in omega (arith, from, less)), rising.1)

pub rising_upper : (low : ℕ) (xs : List ℕ) (high high₁ : ℕ) → high ≤ high₁ → AreRising low xs high → AreRising low xs high₁
rising_upper low [] high high₁ more rising = omega (arith, rising, more)
rising_upper low (x ∷ xs) high high₁ more rising = (rising.0, rising_upper (suc x) xs high high₁ more rising.1)

rising_append : (low : ℕ) (xs : List ℕ) (middle : ℕ) (ys : List ℕ) (high : ℕ) → AreRising low xs middle → AreRising middle ys high → AreRising low (xs ++ ys) high
rising_append low [] middle ys high first second = rising_lower low middle ys high first second
rising_append low (x ∷ xs) middle ys high first second = (first.0, rising_append (suc x) xs middle ys high first.1 second)

-- a number among those that rise is in the range
pub rising_inside : (low : ℕ) (xs : List ℕ) (high x : ℕ) → AreRising low xs high → Contains xs x → (low ≤ x) × (x < high)
rising_inside low [] high x rising (k, inside, is) = absurd (omega (arith, inside))
rising_inside low (y ∷ xs) high x rising (zero, inside, is) =
    let past = rising_span (suc y) xs high rising.1 in ((let from = rising.0 in omega (arith, from, is)), omega (arith, past, is))
  where
    rising_span : (low : ℕ) (xs : List ℕ) (high : ℕ) → AreRising low xs high → low ≤ high
    rising_span low [] high rising = rising
    rising_span low (z ∷ zs) high rising = let rest = rising_span (suc z) zs high rising.1 in let from = rising.0 in omega (arith, from, rest)
rising_inside low (y ∷ xs) high x rising (suc k, inside, is) =
    let rest = rising_inside (suc y) xs high x rising.1 (k, omega (arith, inside), is) in
    let from = rising.0 in ((let past = rest.0 in omega (arith, from, past)), rest.1)

-- and so is what an access gives
pub access_inside : (way : Way) (pointer : «Type») (g : Body) (m v : ℕ) (xs : List Access) (m' v' : ℕ) (x : Access) → AreAccesses way pointer g m v xs m' v' → Contains xs x
    → (v ≤ x.address) × (past_access way x ≤ v')
access_inside way pointer g m v [] m' v' x are (k, inside, is) = absurd (omega (arith, inside))
access_inside way pointer g m v (y ∷ xs) m' v' x are (zero, inside, is) =
    let rest = in_range way pointer g (suc (suc y.inst)) (past_access way y) xs m' v' are.3 in
    (subst (λ (z : Access). v ≤ z.address) is are.1, subst (λ (z : Access). past_access way z ≤ v') is rest.1)
access_inside way pointer g m v (y ∷ xs) m' v' x are (suc k, inside, is) =
    let rest = access_inside way pointer g (suc (suc y.inst)) (past_access way y) xs m' v' x are.3 (k, omega (arith, inside), is) in
    let from = are.1 in let past = past_address way y in ((let later = rest.0 in omega (arith, from, past, later)), rest.1)

-- ROWS ------------------------------------------------------------------------------------------------------------------

flat_append : {X Y : Type 0} (p : X → List Y) (xs ys : List X) → flat_map p (xs ++ ys) ≡ flat_map p xs ++ flat_map p ys
flat_append p [] ys = refl
flat_append p (x ∷ xs) ys = ap (λ zs. p x ++ zs) (flat_append p xs ys) ∙ sym (append_assoc (p x) (flat_map p xs) (flat_map p ys))

each_append : {X Y : Type 0} (p : X → Y) (xs ys : List X) → each p (xs ++ ys) ≡ each p xs ++ each p ys
each_append p [] ys = refl
each_append p (x ∷ xs) ys = ap (λ zs. p x ∷ zs) (each_append p xs ys)

pub params_append : (xs ys : List LandedRow) → params_of (xs ++ ys) ≡ params_of xs ++ params_of ys
params_append xs ys = flat_append (λ (row : LandedRow). row.params) xs ys

pub arguments_append : (xs ys : List LandedRow) → arguments_of (xs ++ ys) ≡ arguments_of xs ++ arguments_of ys
arguments_append xs ys = each_append (λ (row : LandedRow). row.argument) xs ys

pub passed_append : (xs ys : List LandedRow) → passed_of (xs ++ ys) ≡ passed_of xs ++ passed_of ys
passed_append xs ys = each_append (λ (row : LandedRow). arg.Value row.new) xs ys

pub own_append : (xs ys : List BlockArg) → flat_map own_arg (xs ++ ys) ≡ flat_map own_arg xs ++ flat_map own_arg ys
own_append xs ys = flat_append own_arg xs ys

-- of another function where the argument is named alike, with more reloads
pub landed_turned : (plan : Plan) (f g : Body) (xs ys : List Access) (x : BlockArg) (params : List ℕ) (new : ℕ) → IsNamedAlike f g x
    → ((y : Access) → Contains xs y → Contains ys y) → IsLandedAs plan f xs x params new → IsLandedAs plan g ys x params new
landed_turned plan f g xs ys (arg.Value old) params new same more is = (is.0, read_turned plan f g xs ys old new same more is.1)
landed_turned plan f g xs ys (arg.TryCallRet index) params new same more is = is
landed_turned plan f g xs ys (arg.TryCallExn part) params new same more is = is

-- the types of what a call gives, by tables that differ in slots and stack maps alone
pub own_type_stays : (n : ℕ) (f g : Body) → Keeps n f g → (shape : InstructionData) (x : BlockArg) → own_type_in g.tables shape x ≡ own_type_in f.tables shape x
own_type_stays n f g keeps shape (arg.Value v) = refl
own_type_stays n f g keeps shape (arg.TryCallRet index) =
    ap (λ (o : Operation). returned_type (call_shape o) index) (ap (λ (t : TableLists). operation_of t shape) keeps.tables ∙ operation_stays f.tables g.tables shape)
own_type_stays n f g keeps shape (arg.TryCallExn part) = refl

-- and by instructions that do the same
own_type_alike : (tables : TableLists) (shape other : InstructionData) → IsAlike shape other → (x : BlockArg) → own_type_in tables other x ≡ own_type_in tables shape x
own_type_alike tables shape other alike (arg.Value v) = refl
own_type_alike tables shape other alike (arg.TryCallRet index) = ap (λ (o : Operation). returned_type (call_shape o) index) (alike.operation tables)
own_type_alike tables shape other alike (arg.TryCallExn part) = refl

abbrev type_in : Body → ℕ → «Type»
type_in g v = (value_at g v).ty

-- values of a range that is inside keep their types
types_stay : (n : ℕ) (g h : Body) → Keeps n g h → (low : ℕ) (xs : List ℕ) → AreRising low xs (length g.values) → each (type_in h) xs ≡ each (type_in g) xs
types_stay n g h keeps low xs rising =
    map_alike (type_in h) (type_in g) xs (λ v here. ap (λ (node : ValueNode). node.ty) (same_value n g h keeps v (rising_inside low xs (length g.values) v rising here).1))

-- rows after rows
pub rows_then : (plan : Plan) (block jump n m : ℕ) (shape : InstructionData) (f : Body) (a : StackSlots) (h : Body) (c : StackSlots) (g : Body) (b : StackSlots) (xs ys : List LandedRow)
    → Keeps n f h → Keeps m h g → StayFrom (length f.insts) (length h.insts) h g → ((row : LandedRow) → Contains ys row → IsNamedAlike h f row.argument)
    → LandsRows plan block jump shape f a h c xs → LandsRows plan block jump shape h c g b ys → LandsRows plan block jump shape f a g b (xs ++ ys)
rows_then plan block jump n m shape f a h c g b xs ys keeps further stay alike p q = record {
  accesses = p.accesses ++ q.accesses;
  adds = adds_then Reloaded plan.pointer f a (spot.Before jump) h c (spot.Before jump) g b (spot.Before jump) p.accesses q.accesses m further stay p.adds q.adds;
  so = λ row here.
      elim (Contains-append_cases xs ys row here) [
        | inl early ↦
            landed_turned plan f f p.accesses (p.accesses ++ q.accesses) row.argument row.params row.new (itself row.argument) (more_left p.accesses q.accesses) (p.so row early)
        | inr late ↦
            landed_turned plan h f q.accesses (p.accesses ++ q.accesses) row.argument row.params row.new (alike row late) (more_right p.accesses q.accesses) (q.so row late)
      ];
  params = q.params ∙ ap (λ zs. zs ++ params_of ys) p.params ∙ append_assoc (block_at f block).params (params_of xs) (params_of ys)
      ∙ ap (λ zs. (block_at f block).params ++ zs) (sym (params_append xs ys));
  rising = subst (λ zs. AreRising (length f.values) zs (length g.values)) (sym (params_append xs ys))
      (rising_append (length f.values) (params_of xs) (length h.values) (params_of ys) (length g.values) p.rising q.rising);
  apart = λ x v here there.
      elim (Contains-append_cases (params_of xs) (params_of ys) v (subst (λ zs. Contains zs v) (params_append xs ys) there)) [
        | inl early ↦ elim (Contains-append_cases p.accesses q.accesses x here) [
          | inl first ↦ p.apart x v first early
          | inr second ↦
              let low = rising_inside (length f.values) (params_of xs) (length h.values) v p.rising early in
              let high = access_inside Reloaded plan.pointer g (length h.insts) (length h.values) q.accesses (length g.insts) (length g.values) x q.adds.are second in
              let below = low.1 in let from = high.0 in
              ((λ is. omega (arith, is, below, from)), (λ is. omega (arith, is, below, from)))
        ]
        | inr late ↦ elim (Contains-append_cases p.accesses q.accesses x here) [
          | inl first ↦
              let high = rising_inside (length h.values) (params_of ys) (length g.values) v q.rising late in
              let low = access_inside Reloaded plan.pointer h (length f.insts) (length f.values) p.accesses (length h.insts) (length h.values) x p.adds.are first in
              let from = high.0 in let past = low.1 in
              ((λ is. omega (arith, is, from, past)), (λ is. omega (arith, is, from, past)))
          | inr second ↦ q.apart x v second late
        ]
      ];
  types = ap (each (type_in g)) (params_append xs ys) ∙ each_append (type_in g) (params_of xs) (params_of ys)
      ∙ ap₂ (λ us vs. us ++ vs) (types_stay m h g further (length f.values) (params_of xs) p.rising ∙ p.types)
      (q.types ∙ map_alike (own_type_in h.tables shape) (own_type_in f.tables shape) (flat_map own_arg (arguments_of ys)) (λ x here. own_type_stays n f h keeps shape x))
      ∙ sym (each_append (own_type_in f.tables shape) (flat_map own_arg (arguments_of xs)) (flat_map own_arg (arguments_of ys)))
      ∙ ap (each (own_type_in f.tables shape)) (sym (own_append (arguments_of xs) (arguments_of ys)) ∙ ap (flat_map own_arg) (sym (arguments_append xs ys)));
}
  where
    itself : (x : BlockArg) → IsNamedAlike f f x
    itself (arg.Value v) = refl
    itself (arg.TryCallRet index) = tt
    itself (arg.TryCallExn part) = tt

-- STAYING ---------------------------------------------------------------------------------------------------------------

-- new blocks of a range stay
abbrev pub BlocksStay : (low high : ℕ) → Body → Body → Type 0
BlocksStay low high g h =
    (c : ℕ) → low ≤ c → c < high
    → ((block_at h c).params ≡ (block_at g c).params) × ((block_at h c).insts ≡ (block_at g c).insts) × (Stands c g.layout → Stands c h.layout)

-- a landing block stays in a later function
pub lands_stay : (plan : Plan) (shape : InstructionData) (n : ℕ) (f g : Body) (b : StackSlots) (h : Body) (c : StackSlots) (old new : BlockCall) → Keeps n g h
    → StayFrom (length f.insts) (length g.insts) g h → BlocksStay (length f.blocks) (length g.blocks) g h → KeepsSlots b c
    → LandsBy plan shape f g b old new → LandsBy plan shape f h c old new
lands_stay plan shape n f g b h c old new keeps stay blocks still lands =
    let there = blocks new.block lands.from_block lands.to_block in
    let at_jump = stay lands.jump lands.from_jump lands.to_jump in
    record {
      rows = lands.rows;
      accesses = lands.accesses;
      are = are_upper Reloaded plan.pointer h (length f.insts) (length f.values) lands.accesses (length g.insts) (length g.values) (length h.insts) (length h.values)
          keeps.insts (more_values n g h keeps)
          (are_stay Reloaded plan.pointer n g h keeps (length f.insts) (length g.insts) stay (length f.insts) (length f.values) lands.accesses (length g.insts) (length g.values)
          (omega arith) (omega arith) (omega arith) lands.are);
      slots = λ x here. still x.value x.slot (lands.slots x here);
      so = lands.so;
      args_are = lands.args_are;
      own_are = lands.own_are;
      params = there.0 ∙ lands.params;
      rising = rising_upper (length f.values) (params_of lands.rows) (length g.values) (length h.values) (more_values n g h keeps) lands.rising;
      apart = lands.apart;
      types = types_stay n g h keeps (length f.values) (params_of lands.rows) lands.rising ∙ lands.types;
      jump = lands.jump;
      from_jump = lands.from_jump;
      to_jump = (let to = lands.to_jump in let more = keeps.insts in omega (arith, to, more));
      from_block = lands.from_block;
      to_block = (let to = lands.to_block in let more = keeps.blocks in omega (arith, to, more));
      stands = there.2 lands.stands;
      list = there.1 ∙ lands.list;
      jumps = node_stays g h lands.jump (Jump (record { block = old.block; args = passed_of lands.rows })) [] at_jump.0 at_jump.1 lands.jumps;
    }

-- and it is one of an earlier function, too
pub lands_from : (plan : Plan) (shape : InstructionData) (n : ℕ) (f g h : Body) (c : StackSlots) (old new : BlockCall) → Keeps n f g
    → ((x : BlockArg) → Contains old.args x → IsNamedAlike g f x) → LandsBy plan shape g h c old new → LandsBy plan shape f h c old new
lands_from plan shape n f g h c old new keeps alike lands =
    let more = more_values n f g keeps in
    record {
      rows = lands.rows;
      accesses = lands.accesses;
      are = are_lower Reloaded plan.pointer h (length f.insts) (length f.values) (length g.insts) (length g.values) lands.accesses (length h.insts) (length h.values)
          keeps.insts more lands.are;
      slots = lands.slots;
      so = λ row here.
          landed_turned plan g f lands.accesses lands.accesses row.argument row.params row.new
          (alike row.argument (subst (λ (xs : List BlockArg). Contains xs row.argument) lands.args_are (into_rows lands.rows row here))) (λ x at. at) (lands.so row here);
      args_are = lands.args_are;
      own_are = lands.own_are;
      params = lands.params;
      rising = rising_lower (length f.values) (length g.values) (params_of lands.rows) (length h.values) more lands.rising;
      apart = lands.apart;
      types = lands.types ∙ map_alike (own_type_in g.tables shape) (own_type_in f.tables shape) new.args (λ x here. own_type_stays n f g keeps shape x);
      jump = lands.jump;
      from_jump = (let from = lands.from_jump in let fewer = keeps.insts in omega (arith, from, fewer));
      to_jump = lands.to_jump;
      from_block = (let from = lands.from_block in let fewer = keeps.blocks in omega (arith, from, fewer));
      to_block = lands.to_block;
      stands = lands.stands;
      list = lands.list;
      jumps = lands.jumps;
    }
  where
    into_rows : (rows : List LandedRow) (row : LandedRow) → Contains rows row → Contains (arguments_of rows) row.argument
    into_rows [] row (k, inside, is) = absurd (omega (arith, inside))
    into_rows (x ∷ rows) row (zero, inside, is) = (0, omega arith, ap (λ (r : LandedRow). r.argument) is)
    into_rows (x ∷ rows) row (suc k, inside, is) =
        let rest = into_rows rows row (k, omega (arith, inside), is) in (suc rest.0, (let there = rest.1 in omega (arith, there)), rest.2)

-- by another form of the instruction that does the same
pub lands_alike : (plan : Plan) (shape other : InstructionData) (f g : Body) (b : StackSlots) (old new : BlockCall) → IsAlike shape other → LandsBy plan other f g b old new
    → LandsBy plan shape f g b old new
lands_alike plan shape other f g b old new alike lands = record {
  rows = lands.rows;
  accesses = lands.accesses;
  are = lands.are;
  slots = lands.slots;
  so = lands.so;
  args_are = lands.args_are;
  own_are = lands.own_are;
  params = lands.params;
  rising = lands.rising;
  apart = lands.apart;
  types = lands.types ∙ map_alike (own_type_in f.tables other) (own_type_in f.tables shape) new.args (λ x here. own_type_alike f.tables shape other alike x);
  jump = lands.jump;
  from_jump = lands.from_jump;
  to_jump = lands.to_jump;
  from_block = lands.from_block;
  to_block = lands.to_block;
  stands = lands.stands;
  list = lands.list;
  jumps = lands.jumps;
}
