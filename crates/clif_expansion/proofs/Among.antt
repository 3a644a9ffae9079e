-- Lists whose elements stand among those of another one, branches that lead to a block, and blocks that have ended.
use Rattle.std.proofs.Common.{◌≡◌, ℕ, Bool, true, false, cond, not, List, [], ◌∷◌, ◌++◌, map, refl, sym, ◌∙◌, ap, ap₂, subst, Some}
use Rattle.std.specs.Prelude.{IsTrue, filter, find, if◌then◌else◌, ◌||◌}
use Rattle.std.specs.List.{AllByRecursion, AllZip, list_any}
use Rattle.clif_meaning.specs.Ledger.{BlockState, is_empty, led_by, put_after, redirected_state, state_has, with_cold_mark, with_parameter_types, sealed}
use Rattle.clif_meaning.specs.Name.{Name, same_name}
use Rattle.clif_types.specs.declared.types.«Type».{«Type»}
use Rattle.clif_expansion.specs.Joining.{AreLeading, Both, IsAnother, IsEmitted, IsEnded, IsRead, IsUnread, NoMore, NoneLeads, Own, StandAmong}
use Rattle.clif_expansion.specs.Reading.{IsOneToOne, IsReadAs, Reading, ScriptName}
use Rattle.clif_expansion.specs.Walk.{IsGenerated}
use Rattle.clif_expansion.proofs.Names.{names_equal, not_generated, same_read}

-- LISTS -------------------------------------------------------------------------------------------------------------------

pub among_mapped : {X Y X' Y' : Type 0} (R : X → Y → Type 0) (O : X → Type 0) (S : X' → Y' → Type 0) (P : X' → Type 0) (f : X → X') (g : Y → Y')
    → ((x : X) (y : Y) → R x y → S (f x) (g y)) → ((x : X) → O x → P (f x))
    → (xs : List X) (ys : List Y) → StandAmong R O xs ys → StandAmong S P (map f xs) (map g ys)
among_mapped R O S P f g each own [] [] NoMore = NoMore
among_mapped R O S P f g each own [] (y ∷ ys) is = elim is [ ]
among_mapped R O S P f g each own (x ∷ xs) (y ∷ ys) (Both x' y' xs' ys' is are) =
    Both (f x) (g y) (map f xs) (map g ys) (each x y is) (among_mapped R O S P f g each own xs ys are)
among_mapped R O S P f g each own (x ∷ xs) ys (Own x' xs' ys' is are) =
    Own (f x) (map f xs) (map g ys) (own x is) (among_mapped R O S P f g each own xs ys are)

pub among_each : {X Y : Type 0} (R : X → Y → Type 0) (O : X → Type 0) (S : X → Y → Type 0) (P : X → Type 0)
    → ((x : X) (y : Y) → R x y → S x y) → ((x : X) → O x → P x)
    → (xs : List X) (ys : List Y) → StandAmong R O xs ys → StandAmong S P xs ys
among_each R O S P each own [] [] NoMore = NoMore
among_each R O S P each own [] (y ∷ ys) is = elim is [ ]
among_each R O S P each own (x ∷ xs) (y ∷ ys) (Both x' y' xs' ys' is are) = Both x y xs ys (each x y is) (among_each R O S P each own xs ys are)
among_each R O S P each own (x ∷ xs) ys (Own x' xs' ys' is are) = Own x xs ys (own x is) (among_each R O S P each own xs ys are)

pub among_joined : {X Y : Type 0} (R : X → Y → Type 0) (O : X → Type 0) (xs xs' : List X) (ys ys' : List Y) → StandAmong R O xs ys → StandAmong R O xs' ys'
    → StandAmong R O (xs ++ xs') (ys ++ ys')
among_joined R O [] xs' [] ys' NoMore more = more
among_joined R O [] xs' (y ∷ ys) ys' is more = elim is [ ]
among_joined R O (x ∷ xs) xs' (y ∷ ys) ys' (Both a b zs ws is are) more = Both x y (xs ++ xs') (ys ++ ys') is (among_joined R O xs xs' ys ys' are more)
among_joined R O (x ∷ xs) xs' ys ys' (Own a zs ws is are) more = Own x (xs ++ xs') (ys ++ ys') is (among_joined R O xs xs' ys ys' are more)

-- with none of its own
pub zip_among : {X Y : Type 0} (R : X → Y → Type 0) (O : X → Type 0) (xs : List X) (ys : List Y) → AllZip R xs ys → StandAmong R O xs ys
zip_among R O [] [] are = NoMore
zip_among R O [] (y ∷ ys) are = absurd are
zip_among R O (x ∷ xs) [] are = absurd are
zip_among R O (x ∷ xs) (y ∷ ys) are = Both x y xs ys are.0 (zip_among R O xs ys are.1)

-- NAMES -------------------------------------------------------------------------------------------------------------------

-- a name that is read is none that was generated
pub generated_other : (reading : Reading) (x y name : Name) → IsReadAs reading x name → IsGenerated reading y → same_name x y ≡ false
generated_other reading x y name is own = by (same_name x y) refl
  where
    by : (c : Bool) → same_name x y ≡ c → c ≡ false
    by true same = absurd (not_generated reading x name is (ap reading (names_equal x y same) ∙ own))
    by false same = refl

pub other_generated : (reading : Reading) (x y name : Name) → IsReadAs reading x name → IsGenerated reading y → same_name y x ≡ false
other_generated reading x y name is own = by (same_name y x) refl
  where
    by : (c : Bool) → same_name y x ≡ c → c ≡ false
    by true same = absurd (not_generated reading x name is (ap reading (sym (names_equal y x same)) ∙ own))
    by false same = refl

module _ (reading : Reading) (one_to_one : IsOneToOne reading) where
  abbrev Among : List Name → List Name → Type 0
  Among xs ys = StandAmong (IsReadAs reading) (IsGenerated reading) xs ys

  -- whether a name that is read is in a list
  pub any_among : (x' x : Name) (names' names : List Name) → IsReadAs reading x' x → Among names' names → list_any (same_name x') names' ≡ list_any (same_name x) names
  any_among x' x [] [] is NoMore = refl
  any_among x' x [] (y ∷ names) is are = elim are [ ]
  any_among x' x (y' ∷ names') (y ∷ names) is (Both a b zs ws read are) =
      ap₂ (λ (a b : Bool). a || b) (same_read reading one_to_one x' y' x y is read) (any_among x' x names' names is are)
  any_among x' x (y' ∷ names') names is (Own a zs ws own are) =
      ap (λ (c : Bool). c || list_any (same_name x') names') (generated_other reading x' y' x is own) ∙ any_among x' x names' names is are

  pub put_among : (x' x a' a : Name) (names' names : List Name) → IsReadAs reading x' x → IsReadAs reading a' a → Among names' names → Among (put_after x' a' names') (put_after x a names)
  put_among x' x a' a [] [] is at NoMore = NoMore
  put_among x' x a' a [] (y ∷ names) is at are = elim are [ ]
  put_among x' x a' a (y' ∷ names') (y ∷ names) is at (Both p q ps qs read are) =
      by (same_name y' a') (same_name y a) (same_read reading one_to_one y' a' y a read at) (put_among x' x a' a names' names is at are)
    where
      by : (c' c : Bool) → c' ≡ c → Among (put_after x' a' names') (put_after x a names)
          → Among (if c' then y' ∷ x' ∷ names' else y' ∷ put_after x' a' names') (if c then y ∷ x ∷ names else y ∷ put_after x a names)
      by true true same rest = Both y' y (x' ∷ names') (x ∷ names) read (Both x' x names' names is are)
      by true false same rest = cc
      by false true same rest = cc
      by false false same rest = Both y' y (put_after x' a' names') (put_after x a names) read rest
  put_among x' x a' a (y' ∷ names') names is at (Own p ps qs own are) =
      subst (λ (c : Bool). Among (if c then y' ∷ x' ∷ names' else y' ∷ put_after x' a' names') (put_after x a names)) (sym (other_generated reading a' y' a at own))
      (Own y' (put_after x' a' names') (put_after x a names) own (put_among x' x a' a names' names is at are))

-- BRANCHES ----------------------------------------------------------------------------------------------------------------

-- a branch that was emitted is none that is read
pub unread_other : (reading : Reading) (made : ℕ) (x branch name : Name) → IsReadAs reading x name → IsUnread reading made branch → same_name name branch ≡ false
unread_other reading made x branch name is unread = by (same_name name branch) refl
  where
    by : (c : Bool) → same_name name branch ≡ c → c ≡ false
    by true same = absurd (unread.unread x (is ∙ ap ScriptName (names_equal name branch same)))
    by false same = refl

module _ (reading : Reading) (made : ℕ) where
  abbrev Lead : List Name → List Name → Type 0
  Lead xs ys = AreLeading reading made xs ys

  pub leading_joined : (xs xs' ys ys' : List Name) → Lead xs ys → Lead xs' ys' → Lead (xs ++ xs') (ys ++ ys')
  leading_joined [] xs' [] ys' NoneLeads more = more
  leading_joined [] xs' (y ∷ ys) ys' is more = elim is [ ]
  leading_joined (x ∷ xs) xs' (y ∷ ys) ys' (IsRead a b zs ws is are) more = IsRead x y (xs ++ xs') (ys ++ ys') is (leading_joined xs xs' ys ys' are more)
  leading_joined (x ∷ xs) xs' (y ∷ ys) ys' (IsEmitted a b zs ws own unread are) more = IsEmitted x y (xs ++ xs') (ys ++ ys') own unread (leading_joined xs xs' ys ys' are more)
  leading_joined (x ∷ next ∷ xs) xs' ys ys' (IsAnother a n zs ws own also are) more =
      IsAnother x next (xs ++ xs') (ys ++ ys') own also (leading_joined (next ∷ xs) xs' ys ys' are more)

  pub leading_empty : (xs ys : List Name) → Lead xs ys → is_empty xs ≡ is_empty ys
  leading_empty [] [] NoneLeads = refl
  leading_empty [] (y ∷ ys) is = elim is [ ]
  leading_empty (x ∷ xs) (y ∷ ys) (IsRead a b zs ws is are) = refl
  leading_empty (x ∷ xs) (y ∷ ys) (IsEmitted a b zs ws own unread are) = refl
  leading_empty (x ∷ next ∷ xs) ys (IsAnother a n zs ws own also are) = leading_empty (next ∷ xs) ys are

  -- so many that were generated stand for one that was emitted
  pub leading_emitted : (x : Name) (xs : List Name) (branch : Name) → IsGenerated reading x → AllByRecursion (IsGenerated reading) xs → IsUnread reading made branch
      → Lead (x ∷ xs) (branch ∷ [])
  leading_emitted x [] branch own all unread = IsEmitted x branch [] [] own unread NoneLeads
  leading_emitted x (next ∷ xs) branch own all unread = IsAnother x next xs (branch ∷ []) own all.0 (leading_emitted next xs branch all.0 all.1 unread)

  module _ (one_to_one : IsOneToOne reading) where
    pub any_leading : (x' x : Name) (names' names : List Name) → IsReadAs reading x' x → Lead names' names → list_any (same_name x') names' ≡ list_any (same_name x) names
    any_leading x' x [] [] is NoneLeads = refl
    any_leading x' x [] (y ∷ names) is are = elim are [ ]
    any_leading x' x (y' ∷ names') (y ∷ names) is (IsRead a b zs ws read are) =
        ap₂ (λ (a b : Bool). a || b) (same_read reading one_to_one x' y' x y is read) (any_leading x' x names' names is are)
    any_leading x' x (y' ∷ names') (y ∷ names) is (IsEmitted a b zs ws own unread are) =
        ap₂ (λ (a b : Bool). a || b) (generated_other reading x' y' x is own ∙ sym (unread_other reading made x' y x is unread)) (any_leading x' x names' names is are)
    any_leading x' x (y' ∷ next ∷ names') names is (IsAnother a n zs ws own also are) =
        ap (λ (c : Bool). c || list_any (same_name x') (next ∷ names')) (generated_other reading x' y' x is own) ∙ any_leading x' x (next ∷ names') names is are

    -- without a branch that is read
    abbrev others : Name → List Name → List Name
    others x names = filter (λ other. not (same_name x other)) names

    abbrev kept_if : Bool → Name → List Name → List Name
    kept_if c y rest = cond c (y ∷ rest) rest

    pub others_leading : (x' x : Name) (names' names : List Name) → IsReadAs reading x' x → Lead names' names → Lead (others x' names') (others x names)
    others_leading x' x [] [] is NoneLeads = NoneLeads
    others_leading x' x [] (y ∷ names) is are = elim are [ ]
    others_leading x' x (y' ∷ names') (y ∷ names) is (IsRead a b zs ws read are) =
        by (not (same_name x' y')) (not (same_name x y)) (ap not (same_read reading one_to_one x' y' x y is read)) (others_leading x' x names' names is are)
      where
        by : (c' c : Bool) → c' ≡ c → Lead (others x' names') (others x names) → Lead (kept_if c' y' (others x' names')) (kept_if c y (others x names))
        by true true same rest = IsRead y' y (others x' names') (others x names) read rest
        by true false same rest = cc
        by false true same rest = cc
        by false false same rest = rest
    others_leading x' x (y' ∷ names') (y ∷ names) is (IsEmitted a b zs ws own unread are) =
        subst (λ (c : Bool). Lead (kept_if (not c) y' (others x' names')) (others x (y ∷ names))) (sym (generated_other reading x' y' x is own))
        (subst (λ (c : Bool). Lead (y' ∷ others x' names') (kept_if (not c) y (others x names))) (sym (unread_other reading made x' y x is unread))
        (IsEmitted y' y (others x' names') (others x names) own unread (others_leading x' x names' names is are)))
    others_leading x' x (y' ∷ next ∷ names') names is (IsAnother a n zs ws own also are) =
        subst (λ (c : Bool). Lead (kept_if (not c) y' (others x' (next ∷ names'))) (others x names)) (sym (generated_other reading x' y' x is own))
        (subst (λ (c : Bool). Lead (y' ∷ kept_if (not c) next (others x' names')) (others x names)) (sym apart)
        (IsAnother y' next (others x' names') (others x names) own also
        (subst (λ (c : Bool). Lead (kept_if (not c) next (others x' names')) (others x names)) apart (others_leading x' x (next ∷ names') names is are))))
      where
        apart : same_name x' next ≡ false
        apart = generated_other reading x' next x is also

-- in a later reading, where more calls were made
pub leading_later : (reading later : Reading) (made further : ℕ) → ((x name : Name) → IsReadAs reading x name → IsReadAs later x name)
    → ((x : Name) → IsGenerated reading x → IsGenerated later x) → ((name : Name) → IsUnread reading made name → IsUnread later further name)
    → (xs ys : List Name) → AreLeading reading made xs ys → AreLeading later further xs ys
leading_later reading later made further keeps generated unread [] [] NoneLeads = NoneLeads
leading_later reading later made further keeps generated unread [] (y ∷ ys) is = elim is [ ]
leading_later reading later made further keeps generated unread (x ∷ xs) (y ∷ ys) (IsRead a b zs ws is are) =
    IsRead x y xs ys (keeps x y is) (leading_later reading later made further keeps generated unread xs ys are)
leading_later reading later made further keeps generated unread (x ∷ xs) (y ∷ ys) (IsEmitted a b zs ws own not_read are) =
    IsEmitted x y xs ys (generated x own) (unread y not_read) (leading_later reading later made further keeps generated unread xs ys are)
leading_later reading later made further keeps generated unread (x ∷ next ∷ xs) ys (IsAnother a n zs ws own also are) =
    IsAnother x next xs ys (generated x own) (generated next also) (leading_later reading later made further keeps generated unread (next ∷ xs) ys are)

-- BLOCKS THAT HAVE ENDED --------------------------------------------------------------------------------------------------

-- A change of states that takes no terminator, no seal and no beginning back.
pub record KeepsEnds (change : BlockState → BlockState) : Type 0 where
  pub block : (state : BlockState) → (change state).block ≡ state.block
  pub filled : (state : BlockState) → state.is_filled ≡ true → (change state).is_filled ≡ true
  pub is_sealed : (state : BlockState) → state.is_sealed ≡ true → (change state).is_sealed ≡ true
  pub begun : (state : BlockState) → state.is_pristine ≡ false → (change state).is_pristine ≡ false

pub keeps_sealing : KeepsEnds sealed
keeps_sealing = record { block = λ state. refl; filled = λ state is. is; is_sealed = λ state is. refl; begun = λ state is. is }

pub keeps_cold : KeepsEnds with_cold_mark
keeps_cold = record { block = λ state. refl; filled = λ state is. is; is_sealed = λ state is. is; begun = λ state is. is }

pub keeps_taking : (types : List «Type») → KeepsEnds (with_parameter_types types)
keeps_taking types = record { block = λ state. refl; filled = λ state is. is; is_sealed = λ state is. is; begun = λ state is. is }

pub keeps_beginning : KeepsEnds (λ state. record state { is_pristine = false })
keeps_beginning = record { block = λ state. refl; filled = λ state is. is; is_sealed = λ state is. is; begun = λ state is. refl }

pub keeps_filling : KeepsEnds (λ state. record state { is_filled = true })
keeps_filling = record { block = λ state. refl; filled = λ state is. refl; is_sealed = λ state is. is; begun = λ state is. is }

-- by any test
pub keeps_chosen : (test : BlockState → Bool) (first second : BlockState → BlockState) → KeepsEnds first → KeepsEnds second
    → KeepsEnds (λ state. if test state then first state else second state)
keeps_chosen test first second one other = record {
  block = λ state. block (test state) state;
  filled = λ state is. filled (test state) state is;
  is_sealed = λ state is. closed (test state) state is;
  begun = λ state is. begun (test state) state is;
}
  where
    block : (c : Bool) (state : BlockState) → (if c then first state else second state).block ≡ state.block
    block true state = one.block state
    block false state = other.block state

    filled : (c : Bool) (state : BlockState) → state.is_filled ≡ true → (if c then first state else second state).is_filled ≡ true
    filled true state is = one.filled state is
    filled false state is = other.filled state is

    closed : (c : Bool) (state : BlockState) → state.is_sealed ≡ true → (if c then first state else second state).is_sealed ≡ true
    closed true state is = one.is_sealed state is
    closed false state is = other.is_sealed state is

    begun : (c : Bool) (state : BlockState) → state.is_pristine ≡ false → (if c then first state else second state).is_pristine ≡ false
    begun true state is = one.begun state is
    begun false state is = other.begun state is

pub keeps_all : KeepsEnds (λ state. state)
keeps_all = record { block = λ state. refl; filled = λ state is. is; is_sealed = λ state is. is; begun = λ state is. is }

pub keeps_predecessors : (f : BlockState → List Name) → KeepsEnds (λ state. record state { predecessors = f state })
keeps_predecessors f = record { block = λ state. refl; filled = λ state is. is; is_sealed = λ state is. is; begun = λ state is. is }

pub keeps_leading : (branch : Name) → KeepsEnds (led_by branch)
keeps_leading branch =
    keeps_chosen (λ state. list_any (same_name branch) state.predecessors) (λ state. state) (λ state. record state { predecessors = state.predecessors ++ branch ∷ [] })
    keeps_all (keeps_predecessors (λ state. state.predecessors ++ branch ∷ []))

pub keeps_redirecting : (branch from to : Name) → KeepsEnds (redirected_state branch from to)
keeps_redirecting branch from to =
    keeps_chosen (λ state. same_name from to) (λ state. state) _ keeps_all
    (keeps_chosen (λ state. same_name state.block from) _ _ (keeps_predecessors (λ state. filter (λ other. not (same_name branch other)) state.predecessors))
    (keeps_chosen (λ state. same_name state.block to) (led_by branch) (λ state. state) (keeps_leading branch) keeps_all))

-- one block's state changed
abbrev pub changed_at : Name → (BlockState → BlockState) → BlockState → BlockState
changed_at block change state = if same_name state.block block then change state else state

pub keeps_at : (block : Name) (change : BlockState → BlockState) → KeepsEnds change → KeepsEnds (changed_at block change)
keeps_at block change keeps = keeps_chosen (λ state. same_name state.block block) change (λ state. state) keeps keeps_all

abbrev pub is_filled_in : List BlockState → Name → Bool
is_filled_in states block = state_has (λ state. state.is_filled) (find (λ state. same_name state.block block) states)

abbrev pub HasEnded : Name → BlockState → Type 0
HasEnded block state = state.block ≡ block → (state.is_filled ≡ true) × (state.is_pristine ≡ false)

module _ (block : Name) where
  filled_mapped : (change : BlockState → BlockState) → KeepsEnds change → (states : List BlockState) → IsTrue (is_filled_in states block) → IsTrue (is_filled_in (map change states) block)
  filled_mapped change keeps [] is = is
  filled_mapped change keeps (state ∷ states) is =
      subst (λ (name : Name). IsTrue (state_has (λ s. s.is_filled) (cond (same_name name block) (Some (change state)) (find (λ s. same_name s.block block) (map change states)))))
      (sym (keeps.block state)) (by (same_name state.block block) is (filled_mapped change keeps states))
    where
      by : (c : Bool) → IsTrue (state_has (λ s. s.is_filled) (cond c (Some state) (find (λ s. same_name s.block block) states)))
          → (IsTrue (is_filled_in states block) → IsTrue (is_filled_in (map change states) block))
          → IsTrue (state_has (λ s. s.is_filled) (cond c (Some (change state)) (find (λ s. same_name s.block block) (map change states))))
      by true here rest = keeps.filled state here
      by false here rest = rest here

  filled_joined : (states more : List BlockState) → IsTrue (is_filled_in states block) → IsTrue (is_filled_in (states ++ more) block)
  filled_joined [] more is = let no_way : ⊥ = cc in absurd no_way
  filled_joined (state ∷ states) more is = by (same_name state.block block) is (filled_joined states more)
    where
      by : (c : Bool) → IsTrue (state_has (λ s. s.is_filled) (cond c (Some state) (find (λ s. same_name s.block block) states)))
          → (IsTrue (is_filled_in states block) → IsTrue (is_filled_in (states ++ more) block))
          → IsTrue (state_has (λ s. s.is_filled) (cond c (Some state) (find (λ s. same_name s.block block) (states ++ more))))
      by true here rest = here
      by false here rest = rest here

  each_mapped : (change : BlockState → BlockState) → KeepsEnds change → (states : List BlockState) → AllByRecursion (HasEnded block) states → AllByRecursion (HasEnded block) (map change states)
  each_mapped change keeps [] all = tt
  each_mapped change keeps (state ∷ states) all = (
    λ same. let was = all.0 (sym (keeps.block state) ∙ same) in (keeps.filled state was.0, keeps.begun state was.1),
    each_mapped change keeps states all.1,
  )

  each_joined : (states more : List BlockState) → AllByRecursion (HasEnded block) states → AllByRecursion (HasEnded block) more → AllByRecursion (HasEnded block) (states ++ more)
  each_joined [] more all rest = rest
  each_joined (state ∷ states) more all rest = (all.0, each_joined states more all.1 rest)

  pub ended_mapped : (change : BlockState → BlockState) → KeepsEnds change → (states : List BlockState) (layout : List Name) → IsEnded states layout block → IsEnded (map change states) layout block
  ended_mapped change keeps states layout is = record {
    filled = filled_mapped change keeps states is.filled;
    inserted = is.inserted;
    each = each_mapped change keeps states is.each;
  }

  pub ended_joined : (states more : List BlockState) (layout : List Name) → AllByRecursion (HasEnded block) more → IsEnded states layout block → IsEnded (states ++ more) layout block
  ended_joined states more layout rest is = record {
    filled = filled_joined states more is.filled;
    inserted = is.inserted;
    each = each_joined states more is.each rest;
  }

  pub any_put : (name after : Name) (layout : List Name) → IsTrue (list_any (same_name block) layout) → IsTrue (list_any (same_name block) (put_after name after layout))
  any_put name after [] is = is
  any_put name after (other ∷ layout) is = by (any_put name after layout) (same_name other after)
    where
      here : (d e : Bool) → IsTrue (d || list_any (same_name block) layout) → IsTrue (d || (e || list_any (same_name block) layout))
      here true e is = is
      here false true is = refl
      here false false is = is

      there : (IsTrue (list_any (same_name block) layout) → IsTrue (list_any (same_name block) (put_after name after layout))) → (d : Bool) → IsTrue (d || list_any (same_name block) layout)
          → IsTrue (d || list_any (same_name block) (put_after name after layout))
      there rest true is = is
      there rest false is = rest is

      by : (IsTrue (list_any (same_name block) layout) → IsTrue (list_any (same_name block) (put_after name after layout))) → (c : Bool) → IsTrue (list_any (same_name block) (if c then other ∷ name ∷ layout else other ∷ put_after name after layout))
      by rest true = here (same_name block other) (same_name block name) is
      by rest false = there rest (same_name block other) is

  pub any_joined : (layout more : List Name) → IsTrue (list_any (same_name block) layout) → IsTrue (list_any (same_name block) (layout ++ more))
  any_joined [] more is = let no_way : ⊥ = cc in absurd no_way
  any_joined (other ∷ layout) more is = by (same_name block other) is (any_joined layout more)
    where
      by : (c : Bool) → IsTrue (c || list_any (same_name block) layout) → (IsTrue (list_any (same_name block) layout) → IsTrue (list_any (same_name block) (layout ++ more)))
          → IsTrue (c || list_any (same_name block) (layout ++ more))
      by true here rest = here
      by false here rest = rest here

-- what begins a block that has ended, or ends it again, changes nothing
same_states : (block : Name) (change : BlockState → BlockState) (states : List BlockState)
    → ((state : BlockState) → state.is_filled ≡ true → state.is_pristine ≡ false → change state ≡ state)
    → AllByRecursion (HasEnded block) states → map (changed_at block change) states ≡ states
same_states block change [] same all = refl
same_states block change (state ∷ states) same all =
    ap₂ (λ (first : BlockState) (rest : List BlockState). first ∷ rest) (by (same_name state.block block) refl) (same_states block change states same all.1)
  where
    by : (c : Bool) → same_name state.block block ≡ c → (if c then change state else state) ≡ state
    by true is = let was = all.0 (names_equal state.block block is) in same state was.0 was.1
    by false is = refl

pub begun_same : (block : Name) (states : List BlockState) → AllByRecursion (HasEnded block) states → map (changed_at block (λ state. record state { is_pristine = false })) states ≡ states
begun_same block states all =
    same_states block (λ state. record state { is_pristine = false }) states (λ state filled begun. ap (λ (c : Bool). record state { is_pristine = c }) (sym begun)) all

pub filled_same : (block : Name) (states : List BlockState) → AllByRecursion (HasEnded block) states → map (changed_at block (λ state. record state { is_filled = true })) states ≡ states
filled_same block states all =
    same_states block (λ state. record state { is_filled = true }) states (λ state filled begun. ap (λ (c : Bool). record state { is_filled = c }) (sym filled)) all
