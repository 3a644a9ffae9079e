-- One table of the construction is changed: what that says of the whole state.
use Rattle.std.proofs.Common.{◌≡◌, ℕ, ◌==◌, ◌&&◌, List, [], ◌∷◌, ◌++◌, ap, subst, ◌∙◌, ◌⊎◌}
use Rattle.std.specs.Prelude.{Some, None, Result, OnOk, true, if◌then◌else◌}
use Rattle.clif_instructions.specs.Members.{stands_in, without}
use Rattle.clif_records.proofs.Copying.{set-none_lost, set-others, set-recorded}
use Rattle.clif_records.proofs.RecordLaws.{on_ok}
use Rattle.clif_records.specs.Tables.{No, RecordMap, SsaBlock, Yes, lookups_at, one_more, pending_of, predecessors_at, record_at, sealed_at}
use Rattle.clif_records.specs.Passed.{before_first}
use Rattle.clif_records.specs.Records.{RecordsSome, RecordsUpTo}
use Rattle.clif_records.specs.Tracking.{Tracked}
use Rattle.clif_ssa.specs.declared.ssa.SSABuilder.TheInside.{Inside}
use Rattle.clif_ssa.specs.LookUp.{Copies}
use Rattle.clif_ssa.specs.Ssa.{SsaState, record_of, sealed_of, lookups_of, predecessors_of, CountsLookup, Declares, KnowsNoMore, Removes, Seals}

-- these tables are those of the state
abbrev pub state_of : RecordMap → List SsaBlock → Tracked → SsaState
state_of records blocks tracking = record { records = records; blocks = blocks; tracking = tracking }

-- the tables that a builder has inside
pub tables_are : {p q : Inside} → p ≡ q → p.tables ≡ q.tables
tables_are same = ap (λ (inside : Inside). inside.tables) same

module _ (s : SsaState) (records : RecordMap) (blocks : List SsaBlock) (tracking : Tracked) (is : state_of records blocks tracking ≡ s) where
  pub records_are : records ≡ s.records
  records_are = ap (λ (t : SsaState). t.records) is

  pub blocks_are : blocks ≡ s.blocks
  blocks_are = ap (λ (t : SsaState). t.blocks) is

  pub tracking_is : tracking ≡ s.tracking
  tracking_is = ap (λ (t : SsaState). t.tracking) is

  -- BLOCKS --------------------------------------------------------------------------------------------------------

  pub sealed_same : (new : List SsaBlock) → ((b : ℕ) → sealed_at new b ≡ sealed_at blocks b) → (b : ℕ) → sealed_at new b ≡ sealed_of s b
  sealed_same new same b = same b ∙ ap (λ known. sealed_at known b) blocks_are

  pub predecessors_same : (new : List SsaBlock) → ((b : ℕ) → predecessors_at new b ≡ predecessors_at blocks b) → (b : ℕ) → predecessors_at new b ≡ predecessors_of s b
  predecessors_same new same b = same b ∙ ap (λ known. predecessors_at known b) blocks_are

  pub no_more_known : (new : List SsaBlock) (bound : ℕ) → KnowsNoMore (state_of records blocks tracking) (state_of records new tracking) bound → KnowsNoMore s (state_of records new tracking) bound
  no_more_known new bound known = subst (λ t. KnowsNoMore t (state_of records new tracking) bound) is known

  -- a parameter waits in a block
  pub waits_in : (new : List SsaBlock) (x b v : ℕ)
      → ((c : ℕ) → sealed_at new c ≡ (if c == b then No (pending_of (sealed_at blocks c) ++ record { variable = x; param = v } ∷ []) else sealed_at blocks c))
      → (c : ℕ) → sealed_at new c ≡ (if c == b then No (pending_of (sealed_of s c) ++ record { variable = x; param = v } ∷ []) else sealed_of s c)
  waits_in new x b v waits c =
      waits c ∙ ap (λ known. if c == b then No (pending_of (sealed_at known c) ++ record { variable = x; param = v } ∷ []) else sealed_at known c) blocks_are

  -- a branch leads to a block, or no more
  pub declares_in : (new : List SsaBlock) (b branch : ℕ)
      → ((c : ℕ) → predecessors_at new c ≡ (if c == b then predecessors_at blocks c ++ branch ∷ [] else predecessors_at blocks c))
      → Declares s (state_of records new tracking) b branch
  declares_in new b branch declares c =
      declares c ∙ ap (λ known. if c == b then predecessors_at known c ++ branch ∷ [] else predecessors_at known c) blocks_are

  pub removes_in : (new : List SsaBlock) (b branch : ℕ)
      → ((c : ℕ) → predecessors_at new c ≡ (if c == b then without branch (predecessors_at blocks c) else predecessors_at blocks c))
      → Removes s (state_of records new tracking) b branch
  removes_in new b branch removes c =
      removes c ∙ ap (λ known. if c == b then without branch (predecessors_at known c) else predecessors_at known c) blocks_are

  pub seals_in : (new : List SsaBlock) (b : ℕ) → ((c : ℕ) → sealed_at new c ≡ (if c == b then Yes else sealed_at blocks c)) → Seals s (state_of records new tracking) b
  seals_in new b seals c = seals c ∙ ap (λ known. if c == b then Yes else sealed_at known c) blocks_are

  -- RECORDS -------------------------------------------------------------------------------------------------------

  pub records_same : (new : RecordMap) → ((y b : ℕ) → record_at new y b ≡ record_at records y b) → (y b : ℕ) → record_at new y b ≡ record_of s y b
  records_same new same y b = same y b ∙ ap (λ rows. record_at rows y b) records_are

  pub lookups_same : (new : RecordMap) → ((y b : ℕ) → lookups_at new y b ≡ lookups_at records y b) → (y b : ℕ) → lookups_at new y b ≡ lookups_of s y b
  lookups_same new same y b = same y b ∙ ap (λ rows. lookups_at rows y b) records_are

  -- a look-up is counted
  pub counts_in : (new : RecordMap) (x b : ℕ)
      → ((y c : ℕ) → lookups_at new y c ≡ (if y == x && c == b then one_more (lookups_at records y c) else lookups_at records y c))
      → CountsLookup s (state_of new blocks tracking) x b
  counts_in new x b counts y c = counts y c ∙ ap (λ rows. if y == x && c == b then one_more (lookups_at rows y c) else lookups_at rows y c) records_are

  -- a value is recorded in blocks
  pub copies_to : {A E : Type 0} (new : RecordMap) (x value from : ℕ) (passed among : List ℕ) (answer : Result A E) → among ≡ passed
      → OnOk answer (RecordsUpTo records new x value among from) → OnOk answer (Copies s (state_of new blocks tracking) x value (before_first from passed))
  copies_to new x value from passed among answer same set =
      on_ok answer _ _ (λ recorded y b. recorded y b
      ∙ ap (λ xs. if y == x && stands_in b (before_first from xs) then Some value else record_at records y b) same
      ∙ ap (λ rows. if y == x && stands_in b (before_first from passed) then Some value else record_at rows y b) records_are) set

  pub copied_recorded : (new : RecordMap) (x value : ℕ) (among : List ℕ) → RecordsSome records new x value among
      → (y b v : ℕ) → record_at new y b ≡ Some v → (record_of s y b ≡ Some v) ⊎ (v ≡ value)
  copied_recorded new x value among part y b v at =
      subst (λ rows. (record_at rows y b ≡ Some v) ⊎ (v ≡ value)) records_are (set-recorded _ _ value v (part y b) at)

  pub copied_others : (new : RecordMap) (x value : ℕ) (passed among : List ℕ) → among ≡ passed → RecordsSome records new x value among
      → (y b : ℕ) → (record_at new y b ≡ record_of s y b) ⊎ ((y ≡ x) × (stands_in b passed ≡ true))
  copied_others new x value passed among same part y b =
      subst (λ xs. (record_at new y b ≡ record_of s y b) ⊎ ((y ≡ x) × (stands_in b xs ≡ true))) same
      (subst (λ rows. (record_at new y b ≡ record_at rows y b) ⊎ ((y ≡ x) × (stands_in b among ≡ true))) records_are (set-others _ _ value (part y b)))

  pub copied_none_lost : (new : RecordMap) (x value : ℕ) (among : List ℕ) → RecordsSome records new x value among
      → (y b : ℕ) → record_at new y b ≡ None → record_of s y b ≡ None
  copied_none_lost new x value among part y b none =
      subst (λ rows. record_at rows y b ≡ None) records_are (set-none_lost _ _ value (part y b) none)
