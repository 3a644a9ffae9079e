-- What the tests of moves tell.
use Rattle.std.proofs.Common.{◌≡◌, ◌≢◌, ℕ, zero, suc, ◌<◌, Bool, true, false, ◌==◌, ◌&&◌, ◌||◌, Option, None, Some, List, [], ◌∷◌, ◌++◌, ◌⊎◌, inl, inr, refl, ◌∙◌, ap, subst, arith}
use Rattle.std.proofs.Math.Decide.{ℕ_discrete}
use Rattle.std.proofs.lemmas.Bool.Decides.{nat_tests}
use Rattle.clif_paths.specs.Places.{Place, start, inside, same_place, Arm}
use Rattle.clif_paths.specs.State.{Kind, unborn, born, pending, complete, zero_of, Definition}
use Rattle.clif_paths.specs.Steps.{IsNewName}
use Rattle.clif_paths.specs.Blocks.{Blocks, front, state_of, AssignsNot, Carries, WaitsIn}
use Rattle.clif_paths.specs.Moves.{Write, Sheet, same_arm, listed, each_arm, some_arm, each_write, differs, is_none_at, says, is_pending, is_zero, none_below, assigns_not, resolves_to, carries_from, each_into, is_new_name, is_new_value, waits_in}
use Rattle.clif_paths.proofs.PathLemmas.{same_place-true, same_place-equal}

pub first_of_and : (b c : Bool) → (b && c) ≡ true → b ≡ true
first_of_and true c e = refl
first_of_and false c e = absurd cc

pub second_of_and : (b c : Bool) → (b && c) ≡ true → c ≡ true
second_of_and true c e = e
second_of_and false c e = absurd cc

pub of_or : (b c : Bool) → (b || c) ≡ true → (b ≡ true) ⊎ (c ≡ true)
of_or true c e = inl refl
of_or false c e = inr e

pub or_left : (b c : Bool) → b ≡ true → (b || c) ≡ true
or_left true c e = refl
or_left false c e = absurd cc

pub or_right : (b c : Bool) → c ≡ true → (b || c) ≡ true
or_right true c e = refl
or_right false c e = e

pub differs_false : (b : Bool) → differs b ≡ true → b ≡ false
unfolding differs
differs_false true e = absurd cc
differs_false false e = refl

-- a test that differs at a place: the places differ
pub differs_place : (p q : Place) → differs (same_place p q) ≡ true → p ≢ q
differs_place p q e at = let same = same_place-equal p q at in let other = differs_false (same_place p q) e in absurd cc

pub number_true : (a b : ℕ) → (a == b) ≡ true → a ≡ b
number_true a b e = grind (arith, nat_tests)

number_refl : (a : ℕ) → (a == a) ≡ true
number_refl a = grind (arith, nat_tests)

pub differs_number : (a b : ℕ) → differs (a == b) ≡ true → a ≢ b
differs_number a b e at =
    let same : (a == b) ≡ true = subst (λ c. (a == c) ≡ true) at (number_refl a) in
    let other = differs_false (a == b) e in
    absurd cc

pub says_some : (o : Option ℕ) (v : ℕ) → says o v ≡ true → o ≡ Some v
unfolding says
says_some None v e = absurd cc
says_some (Some w) v e = ap (λ k. Some k) (number_true w v e)

pub none_at : (o : Option ℕ) → is_none_at o ≡ true → o ≡ None
unfolding is_none_at
none_at None e = refl
none_at (Some n) e = absurd cc

pub pending_kind : (k : Kind) (x : ℕ) → is_pending k x ≡ true → k ≡ pending x
unfolding is_pending
pending_kind unborn x e = absurd cc
pending_kind (born n) x e = absurd cc
pending_kind (pending y) x e = ap (λ z. pending z) (number_true y x e)
pending_kind (complete y) x e = absurd cc
pending_kind (zero_of y) x e = absurd cc

pub zero_kind : (k : Kind) (x : ℕ) → is_zero k x ≡ true → k ≡ zero_of x
unfolding is_zero
zero_kind unborn x e = absurd cc
zero_kind (born n) x e = absurd cc
zero_kind (pending y) x e = absurd cc
zero_kind (complete y) x e = absurd cc
zero_kind (zero_of y) x e = ap (λ z. zero_of z) (number_true y x e)

pub same_definition : (d : Definition) (p : Place) (k : Kind) → d.home ≡ p → d.kind ≡ k → d ≡ record { home = p; kind = k }
same_definition d p k home kind = λ i. record { home = home i; kind = kind i }

-- Lists of arms ---------------------------------------------------------------------------------------------------

arm_same : (a b : Arm) → same_arm a b ≡ true → a ≡ b
unfolding same_arm
arm_same a b e =
    let rest : (same_place a.target b.target && (a.edge == b.edge)) ≡ true =
    second_of_and (same_place a.source b.source) (same_place a.target b.target && (a.edge == b.edge)) e in
    let source : a.source ≡ b.source =
    same_place-true a.source b.source (first_of_and (same_place a.source b.source) (same_place a.target b.target && (a.edge == b.edge)) e) in
    let target : a.target ≡ b.target =
    same_place-true a.target b.target (first_of_and (same_place a.target b.target) (a.edge == b.edge) rest) in
    let edge : a.edge ≡ b.edge = number_true a.edge b.edge (second_of_and (same_place a.target b.target) (a.edge == b.edge) rest) in
    λ i. record { source = source i; target = target i; edge = edge i }

listed_step :
    (test : Arm → Bool) (a : Arm) (arms : List Arm) (arm : Arm) → (test a && each_arm test arms) ≡ true →
    (listed arms arm ≡ true → test arm ≡ true) → (same_arm arm a ≡ true) ⊎ (listed arms arm ≡ true) → test arm ≡ true
listed_step test a arms arm each rest (inl same) =
    ap test (arm_same arm a same) ∙ first_of_and (test a) (each_arm test arms) each
listed_step test a arms arm each rest (inr later) = rest later

-- what each arm of the list passes, a listed arm passes
pub each_listed : (test : Arm → Bool) (arms : List Arm) (arm : Arm) → each_arm test arms ≡ true → listed arms arm ≡ true → test arm ≡ true
unfolding each_arm listed
each_listed test [] arm each is_listed = absurd cc
each_listed test (a ∷ arms) arm each is_listed =
    let rest : listed arms arm ≡ true → test arm ≡ true = each_listed test arms arm (second_of_and (test a) (each_arm test arms) each) in
    listed_step test a arms arm each rest (of_or (same_arm arm a) (listed arms arm) is_listed)

-- some arm passes where the test of some says so
pub some_passes : (test : Arm → Bool) (arms : List Arm) → some_arm test arms ≡ true → (arm : Arm) × (test arm ≡ true)
unfolding some_arm
some_passes test [] some = absurd cc
some_passes test (a ∷ arms) some = found (of_or (test a) (some_arm test arms) some) (λ later. some_passes test arms later)
  where
    found :
        (test a ≡ true) ⊎ (some_arm test arms ≡ true) → (some_arm test arms ≡ true → (arm : Arm) × (test arm ≡ true)) →
        (arm : Arm) × (test arm ≡ true)
    found (inl here) further = (a, here)
    found (inr later) further = further later

pub listed_first : (arms more : List Arm) (arm : Arm) → listed arms arm ≡ true → listed (arms ++ more) arm ≡ true
unfolding listed
listed_first [] more arm e = absurd cc
listed_first (a ∷ arms) more arm e =
    let rest : listed arms arm ≡ true → listed (arms ++ more) arm ≡ true = listed_first arms more arm in
    first_by (of_or (same_arm arm a) (listed arms arm) e) rest
  where
    first_by : (same_arm arm a ≡ true) ⊎ (listed arms arm ≡ true) → (listed arms arm ≡ true → listed (arms ++ more) arm ≡ true) → (same_arm arm a || listed (arms ++ more) arm) ≡ true
    first_by (inl same) rest = or_left (same_arm arm a) (listed (arms ++ more) arm) same
    first_by (inr later) rest = or_right (same_arm arm a) (listed (arms ++ more) arm) (rest later)

pub listed_second : (arms more : List Arm) (arm : Arm) → listed more arm ≡ true → listed (arms ++ more) arm ≡ true
unfolding listed
listed_second [] more arm e = e
listed_second (a ∷ arms) more arm e = or_right (same_arm arm a) (listed (arms ++ more) arm) (listed_second arms more arm e)

-- Writes ----------------------------------------------------------------------------------------------------------

-- the list has the write
abbrev pub HasWrite : List Write → Write → Type 0
HasWrite [] write = ⊥
HasWrite (w ∷ writes) write = (write ≡ w) ⊎ HasWrite writes write

pub each_has : (test : Write → Bool) (writes : List Write) (write : Write) → each_write test writes ≡ true → HasWrite writes write → test write ≡ true
unfolding each_write
each_has test [] write each has = absurd has
each_has test (w ∷ writes) write each (inl e) = ap test e ∙ first_of_and (test w) (each_write test writes) each
each_has test (w ∷ writes) write each (inr has) = each_has test writes write (second_of_and (test w) (each_write test writes) each) has

-- Values ----------------------------------------------------------------------------------------------------------

-- the list has the value
abbrev pub HasValue : List ℕ → ℕ → Type 0
HasValue [] v = ⊥
HasValue (w ∷ values) v = (v ≡ w) ⊎ HasValue values v

-- SHEETS ----------------------------------------------------------------------------------------------------------

-- the lists of a sheet tell its tables' entries
pub record SheetFits (sheet : Sheet) : Type 0 where
  pub arms : (arm : Arm) → sheet.blocks.joins arm ≡ true → listed sheet.arms arm ≡ true
  pub writes : (p : Place) (x n : ℕ) → sheet.blocks.assigned p x ≡ Some n → HasWrite sheet.writes (record { place = p; name = n })
  pub values : (v : ℕ) → HasValue sheet.values v ⊎ ((sheet.blocks.function.definition v).kind ≡ unborn)
  pub ends : (u : ℕ) → sheet.blocks.function.resolve (sheet.blocks.function.resolve u) ≡ sheet.blocks.function.resolve u

-- what the tests tell
none_below_at :
    (blocks : Blocks) (b x n : ℕ) → none_below blocks b x n ≡ true → (k : ℕ) → k < n → blocks.assigned (inside b k) x ≡ None
unfolding none_below
none_below_at blocks b x zero e k lt = absurd (omega arith)
none_below_at blocks b x (suc n) e k lt =
    let rest : (j : ℕ) → j < n → blocks.assigned (inside b j) x ≡ None =
    none_below_at blocks b x n (second_of_and (is_none_at (blocks.assigned (inside b n) x)) (none_below blocks b x n) e) in
    let here : blocks.assigned (inside b n) x ≡ None =
    none_at (blocks.assigned (inside b n) x) (first_of_and (is_none_at (blocks.assigned (inside b n) x)) (none_below blocks b x n) e) in
    below_by rest here (ℕ_discrete k n)
  where
    below_by : ((j : ℕ) → j < n → blocks.assigned (inside b j) x ≡ None) → blocks.assigned (inside b n) x ≡ None → Dec (k ≡ n) → blocks.assigned (inside b k) x ≡ None
    below_by rest here (yes at) = ap (λ j. blocks.assigned (inside b j) x) at ∙ here
    below_by rest here (no ne) = rest k (omega arith)

pub assigns_not_told : (blocks : Blocks) (b x : ℕ) → assigns_not blocks b x ≡ true → AssignsNot blocks b x
unfolding assigns_not
assigns_not_told blocks b x e = record { none = none_below_at blocks b x (suc (blocks.count b)) e }

resolves_told : (blocks : Blocks) (o : Option ℕ) (v : ℕ) → resolves_to blocks o v ≡ true → (w : ℕ) × (o ≡ Some w) × (blocks.function.resolve w ≡ v)
unfolding resolves_to
resolves_told blocks None v e = absurd cc
resolves_told blocks (Some w) v e = (w, refl, number_true (blocks.function.resolve w) v e)

carries_by : (blocks : Blocks) (arm : Arm) (p : Place) (x v : ℕ) → arm.source ≡ p → carries_from blocks p x v ≡ true → Carries blocks arm x v
unfolding carries_from
carries_by blocks arm start x v at e = absurd cc
carries_by blocks arm (inside b k) x v at e =
    let last : k ≡ blocks.count b = number_true k (blocks.count b) (first_of_and (k == blocks.count b) (resolves_to blocks (blocks.recorded b x) v) e) in
    let (w, is_recorded, resolves) = resolves_told blocks (blocks.recorded b x) v (second_of_and (k == blocks.count b) (resolves_to blocks (blocks.recorded b x) v) e) in
    record {
      from = b;
      leaves = at ∙ ap (λ j. inside b j) last;
      value = w;
      is_recorded = is_recorded;
      resolves = resolves;
    }

pub carries_told : (blocks : Blocks) (arm : Arm) (x v : ℕ) → carries_from blocks arm.source x v ≡ true → Carries blocks arm x v
carries_told blocks arm x v e = carries_by blocks arm arm.source x v refl e

pub into_told :
    (sheet : Sheet) (b : ℕ) (test : Arm → Bool) → SheetFits sheet → each_into sheet b test ≡ true →
    (arm : Arm) → sheet.blocks.joins arm ≡ true → arm.target ≡ front b → test arm ≡ true
unfolding each_into
into_told sheet b test fits e arm joined at =
    into_by (of_or (differs (same_place arm.target (front b))) (test arm)
    (each_listed (λ a. differs (same_place a.target (front b)) || test a) sheet.arms arm e (fits.arms arm joined)))
  where
    into_by : (differs (same_place arm.target (front b)) ≡ true) ⊎ (test arm ≡ true) → test arm ≡ true
    into_by (inl other) = absurd (differs_place arm.target (front b) other at)
    into_by (inr passed) = passed

pub new_name_told : (sheet : Sheet) (n : ℕ) → SheetFits sheet → is_new_name sheet n ≡ true → IsNewName (state_of sheet.blocks) n
unfolding is_new_name
new_name_told sheet n fits e = record {
  new_name = same_place-true (sheet.blocks.naming n).home start
      (first_of_and (same_place (sheet.blocks.naming n).home start) (each_write (λ w. differs (w.name == n)) sheet.writes) e);
  unassigned = λ p x assigned.
      differs_number n n
      (each_has (λ w. differs (w.name == n)) sheet.writes (record { place = p; name = n })
      (second_of_and (same_place (sheet.blocks.naming n).home start) (each_write (λ w. differs (w.name == n)) sheet.writes) e)
      (fits.writes p x n assigned))
      refl;
}

pub new_value_home : (sheet : Sheet) (v : ℕ) → is_new_value sheet v ≡ true → (sheet.blocks.function.definition v).home ≡ start
unfolding is_new_value
new_value_home sheet v e =
    same_place-true (sheet.blocks.function.definition v).home start
    (first_of_and (same_place (sheet.blocks.function.definition v).home start) (sheet.blocks.function.resolve v == v) e)

pub new_value_end : (sheet : Sheet) (v : ℕ) → is_new_value sheet v ≡ true → sheet.blocks.function.resolve v ≡ v
unfolding is_new_value
new_value_end sheet v e =
    number_true (sheet.blocks.function.resolve v) v
    (second_of_and (same_place (sheet.blocks.function.definition v).home start) (sheet.blocks.function.resolve v == v) e)

pub waits_told : (sheet : Sheet) (b x v : ℕ) → waits_in sheet b x v ≡ true → WaitsIn sheet.blocks b x v
unfolding waits_in
waits_told sheet b x v e =
    let definition : Definition = sheet.blocks.function.definition v in
    let rest : (is_pending definition.kind x && sheet.blocks.sealed b) ≡ true =
    second_of_and (same_place definition.home (front b)) (is_pending definition.kind x && sheet.blocks.sealed b) e in
    record {
      is_parameter =
          same_definition definition (front b) (pending x)
          (same_place-true definition.home (front b)
          (first_of_and (same_place definition.home (front b)) (is_pending definition.kind x && sheet.blocks.sealed b) e))
          (pending_kind definition.kind x (first_of_and (is_pending definition.kind x) (sheet.blocks.sealed b) rest));
      is_sealed = second_of_and (is_pending definition.kind x) (sheet.blocks.sealed b) rest;
    }
