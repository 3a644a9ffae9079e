-- What each kind of callback answers, and what it adds to the regions. Source: own; docs/SCRIPTS.md has the same rules.
use Rattle.std.specs.Prelude.{◌≡◌, ◌==◌, ◌%◌, ℕ, Option, None, Some, if◌then◌else◌}
use Rattle.clif_types.specs.AliasRegions.{AliasRegionTable, region_of, with_refusal, with_region}
use Rattle.clif_types.specs.declared.error.BuildError.{BuildError}
use Rattle.clif_region_kinds.specs.declared.RegionKind.{RegionKind}
use Rattle.clif_region_kinds.specs.declared.RegionKind.TheVariants as kind

-- the user id of the region that is added after so many calls, for an access to the slot
abbrev pub user_id_of : RegionKind → (calls slot : ℕ) → Option ℕ
user_id_of kind.Refuse calls slot = None
user_id_of (kind.Intern user_id) calls slot = Some user_id
user_id_of kind.Slot calls slot = Some slot
user_id_of kind.SlotNone calls slot = Some slot
user_id_of (kind.Const region) calls slot = None
user_id_of (kind.Alternate user_id) calls slot = if (calls % 2) == 0 then Some user_id else None

-- The region of the user id, which is in the table then. Where it is refused there is none, and the table keeps the first refusal.
abbrev pub IsInterned : Option ℕ → AliasRegionTable → Option ℕ → AliasRegionTable → Type 0
IsInterned None old region new = (region ≡ None) × (new ≡ old)
IsInterned (Some user_id) old (Some region) new = (region ≡ region_of old (record { user_id = user_id })) × (new ≡ with_region old (record { user_id = user_id }))
IsInterned (Some user_id) old None new = (refusal : BuildError) × (new ≡ with_refusal old refusal)

-- the answer, where this is the region that was added
abbrev pub answer_of : RegionKind → (interned : Option ℕ) → Option ℕ
answer_of (kind.Const region) interned = Some region
answer_of kind.SlotNone interned = None
answer_of _ interned = interned

-- the answer of a call with the one table, which leaves the other
abbrev pub IsAnswered : RegionKind → (calls slot : ℕ) → AliasRegionTable → Option ℕ → AliasRegionTable → Type 0
IsAnswered asked calls slot old answer new = (interned : Option ℕ) × IsInterned (user_id_of asked calls slot) old interned new × (answer ≡ answer_of asked interned)
