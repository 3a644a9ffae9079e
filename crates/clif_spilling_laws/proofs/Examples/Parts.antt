-- What the worked examples share: lists of one or two members, a reload of a value, an exact map with one entry or none, and what is
-- left as it is.
use Rattle.std.proofs.Common.{◌≡◌, ◌⊎◌, inl, inr, ℕ, Bool, true, false, List, [], ◌∷◌, map, refl, sym, ap, subst, ◌∙◌, arith}
use Rattle.std.specs.Prelude.{◌<◌, zero, suc, Contains}
use Rattle.std.specs.List.Sorted.{IsStrictlyIncreasing}
use Rattle.std.proofs.lemmas.Bool.{eqb-true}
use Rattle.clif_meaning.specs.Event.{CallShape}
use Rattle.clif_meaning.specs.Instruction.{Known}
use Rattle.clif_meaning.specs.Path.{Place}
use Rattle.clif_safepoints.specs.Liveness.{IsLiveAcross}
use Rattle.clif_spilling_laws.specs.ExampleParts.{every, only_first, reload_of, returns_value}
use Rattle.clif_spilling_laws.specs.Live.{IsLiveAcrossCall, IsSlotOf, SharesNoSlot, SpillsLive, counted}
use Rattle.clif_spilling_laws.specs.Rewriting.{AreFresh, IsExactMap, IsRead, IsRewrittenItem, Lands, entry_of, jump_item}
use Rattle.clif_spilling_laws.specs.Spilling.{AreReloads, IsNew, Spilling, reload_items}
use Rattle.clif_spilling_laws.proofs.Basics.Lists.{contains_cases, contains_first, contains_more, contains_none}

pub no_way : true ≡ false → ⊥
no_way e = cc

pub first_alone : (v : ℕ) → only_first v ≡ true → v ≡ 0
first_alone v is = eqb-true v 0 is

-- the one member of a list
pub alone : {X : Type 0} (x y : X) → Contains (x ∷ []) y → x ≡ y
alone {X} x y h = by (contains_cases x y [] h)
  where
    by : (x ≡ y) ⊎ Contains [] y → x ≡ y
    by (inl same) = same
    by (inr none) = absurd (contains_none y none)

-- one of the two members
pub one_of_two : {X : Type 0} (x y z : X) → Contains (x ∷ y ∷ []) z → (x ≡ z) ⊎ (y ≡ z)
one_of_two {X} x y z h = by (contains_cases x z (y ∷ []) h)
  where
    by : (x ≡ z) ⊎ Contains (y ∷ []) z → (x ≡ z) ⊎ (y ≡ z)
    by (inl same) = inl same
    by (inr more) = inr (alone y z more)

-- a reload by itself
pub one_reload : (s : Spilling) (value address copy : ℕ) → s.is_spilled value ≡ true → IsNew s s.pointer address
    → IsNew s (s.before.value_type value) copy → AreReloads s (reload_of value address copy ∷ [])
one_reload s value address copy spilled new_address new_copy =
    (record { spilled = spilled; address = new_address; copy = new_copy }, λ y h. absurd (contains_none y h), tt)

-- a value, or an alias of it, is read by its reload's copy
pub reads_alias : (s : Spilling) (old value address copy : ℕ) → s.is_spilled value ≡ true → s.before.resolved old ≡ value
    → s.after.value_type copy ≡ s.before.value_type old → IsRead s (reload_of value address copy ∷ []) old copy
reads_alias s old value address copy spilled named typed = record {
  typed = λ aliases. typed;
  how = inl (
    subst (λ (v : ℕ). s.is_spilled v ≡ true) (sym named) spilled,
    reload_of value address copy,
    contains_first (reload_of value address copy) [],
    sym named,
    refl,
  );
}

pub reads_copy : (s : Spilling) (value address copy : ℕ) → s.is_spilled value ≡ true → s.before.resolved value ≡ value
    → s.after.value_type copy ≡ s.before.value_type value → IsRead s (reload_of value address copy ∷ []) value copy
reads_copy s value address copy spilled itself typed = reads_alias s value value address copy spilled itself typed

module _ (counts : ℕ → ℕ → Bool) (s : Spilling) (members : ℕ → Bool) (p : Place ℕ) where
  abbrev LivesOn : ℕ → Type 0
  LivesOn v = (members v ≡ true) × (s.before.resolved v ≡ v) × IsLiveAcross (counted counts) s.before p v

  -- one entry is exact where its value alone lives on
  pub exact_one : (v : ℕ) → LivesOn v → ((w : ℕ) → LivesOn w → v ≡ w) → IsExactMap counts members s p (entry_of s v ∷ [])
  exact_one v lives single = record {
    values = v ∷ [];
    rising = λ k inside. absurd (omega (arith, inside));
    all = λ w. (
      λ h. subst LivesOn (alone v w h) lives,
      λ other. subst (λ (u : ℕ). Contains (v ∷ []) u) (single w other) (contains_first v []),
    );
    entries_are = refl;
  }

  -- no entry is, where no member does
  pub exact_none : ((w : ℕ) → LivesOn w → ⊥) → IsExactMap counts members s p []
  exact_none none = record {
    values = [];
    rising = λ k inside. absurd (omega (arith, inside));
    all = λ w. (λ h. absurd (contains_none w h), λ lives. absurd (none w lives));
    entries_are = refl;
  }

  -- two entries are exact where these two values alone live on
  pub exact_two : (v u : ℕ) → v < u → LivesOn v → LivesOn u → ((w : ℕ) → LivesOn w → (v ≡ w) ⊎ (u ≡ w)) → IsExactMap counts members s p (entry_of s v ∷ entry_of s u ∷ [])
  exact_two v u before first second both = record {
    values = v ∷ u ∷ [];
    rising = rising;
    all = λ w. (λ h. each w (one_of_two v u w h), λ lives. among w (both w lives));
    entries_are = refl;
  }
    where
      rising : IsStrictlyIncreasing (v ∷ u ∷ [])
      rising zero inside = before
      rising (suc k) inside = absurd (omega (arith, inside))

      each : (w : ℕ) → (v ≡ w) ⊎ (u ≡ w) → LivesOn w
      each w (inl same) = subst LivesOn same first
      each w (inr same) = subst LivesOn same second

      among : (w : ℕ) → (v ≡ w) ⊎ (u ≡ w) → Contains (v ∷ u ∷ []) w
      among w (inl same) = subst (λ (x : ℕ). Contains (v ∷ u ∷ []) x) same (contains_first v (u ∷ []))
      among w (inr same) = subst (λ (x : ℕ). Contains (v ∷ u ∷ []) x) same (contains_more v u (u ∷ []) (contains_first u []))

pub exact_first : (s : Spilling) (p : Place ℕ) → s.before.resolved 0 ≡ 0 → IsLiveAcross (counted every) s.before p 0
    → IsExactMap every only_first s p (entry_of s 0 ∷ [])
exact_first s p itself live = exact_one every s only_first p 0 (refl, itself, live) (λ w lives. sym (first_alone w lives.0))

-- a map without entries isn't exact where a member lives on
pub not_exact : (s : Spilling) (members : ℕ → Bool) (p : Place ℕ) (v : ℕ) → members v ≡ true → s.before.resolved v ≡ v
    → IsLiveAcross (counted every) s.before p v → IsExactMap every members s p [] → ⊥
not_exact s members p v member itself live is = by is.values ((is.all v).1 (member, itself, live)) is.entries_are
  where
    by : (vs : List ℕ) → Contains vs v → [] ≡ map (entry_of s) vs → ⊥
    by [] h e = contains_none v h
    by (w ∷ vs) h e = cc

-- a block's `return` of a value that isn't spilled stays as it is
pub kept_return : (s : Spilling) (members : ℕ → Bool) (p : Place ℕ) (v : ℕ) → s.is_spilled (s.before.resolved v) ≡ false
    → s.after.resolved v ≡ s.before.resolved v → s.after.value_type v ≡ s.before.value_type v
    → IsRewrittenItem every s members p (λ code. code ≡ []) (returns_value v) (returns_value v ∷ [])
kept_return s members p v unspilled named typed = record {
  reloads = [];
  are_reloads = tt;
  new = returns_value v;
  is_kept = record {
    operation = refl;
    controlling = λ aliases. refl;
    operands = (record { typed = λ aliases. typed; how = inr (unspilled, named) }, tt);
    contexts = refl;
    edges = tt;
    results = refl;
    stack_map = refl;
  };
  stores = [];
  are_stores = refl;
  rest = [];
  code_is = refl;
  goes_on = refl;
}

-- THE FIRST VALUE ALONE IS SPILLED --------------------------------------------------------------------------------------

module _ (s : Spilling) (same : (v : ℕ) → s.is_spilled v ≡ only_first v) where
  first_spilled : (v : ℕ) → s.is_spilled v ≡ true → v ≡ 0
  first_spilled v is = first_alone v (sym (same v) ∙ is)

  pub spills_first : IsLiveAcrossCall every only_first s.before 0 → SpillsLive every only_first s
  spills_first across v = (
    λ is. subst (λ (w : ℕ). IsLiveAcrossCall every only_first s.before w) (sym (first_spilled v is)) across,
    λ live. same v ∙ live.member,
  )

  pub slot_of_first : IsSlotOf s 0 → (v : ℕ) → s.is_spilled v ≡ true → IsSlotOf s v
  slot_of_first has v is = subst (λ (w : ℕ). IsSlotOf s w) (sym (first_spilled v is)) has

  pub shares_nothing : SharesNoSlot every s
  shares_nothing = record {
    before = λ p reachable v w first second live_v live_w one. first_spilled v first ∙ sym (first_spilled w second);
    after = λ p reachable v w first second live_v live_w one. first_spilled v first ∙ sym (first_spilled w second);
  }

  -- an edge of a call that passes the first value alone, to its landing block
  pub lands_with : (call : CallShape) (target block address copy : ℕ) → s.is_spilled 0 ≡ true → s.before.resolved 0 ≡ 0
      → IsNew s s.pointer address → IsNew s (s.before.value_type 0) copy → (s.after.blocks block).parameters ≡ []
      → (s.after.blocks block).items ≡ reload_items s (reload_of 0 address copy ∷ []) (jump_item target (Known copy ∷ []) ∷ [])
      → Lands every s call (record { target = target; arguments = Known 0 ∷ [] }) (record { target = block; arguments = [] })
  lands_with call target block address copy spilled itself new_address new_copy no_parameters items = record {
    reloads = reload_of 0 address copy ∷ [];
    are_reloads = one_reload s 0 address copy spilled new_address new_copy;
    passed = Known copy ∷ [];
    arguments = refl;
    fresh = subst (AreFresh s (reload_of 0 address copy ∷ [])) (sym no_parameters) tt;
    types = ap (λ (vs : List ℕ). map s.after.value_type vs) no_parameters;
    landed = (inl (reads_copy s 0 address copy spilled itself new_copy.typed), refl);
    items = items;
  }
