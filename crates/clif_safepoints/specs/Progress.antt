-- The work list, as its steps change it. Source: own, after Cranelift's work list.
use Rattle.std.specs.Prelude.{◌≡◌, ◌+◌, ◌-◌, ◌^◌, ◌||◌, ◌⊎◌, ℕ, Bool, true, false, List, [], ◌∷◌, ◌++◌, length, min, if◌then◌else◌, slice_index, slice_index_or, slice_set, Option, Some, None}
use Rattle.clif_ir.specs.Body.{Body}
use Rattle.clif_safepoints.specs.declared.work_list.WorkList.{WorkList}
use Rattle.clif_number_sets.specs.Sets.{Grows, IsSet, is_in}
use Rattle.clif_safepoints.specs.Sets.{in_set_of}
use Rattle.clif_safepoints.specs.Transfer.{is_live_in}

-- what is live at the front of each block so far, the blocks that wait, the next one last, a mark for each of them, and
-- how many blocks were handled
pub record Progress : Type 0 where
  pub sets : List (List Bool)
  pub stack : List ℕ
  pub waits : List Bool
  pub handled : ℕ

abbrev pub progress_of : WorkList → Progress
progress_of w = record { sets = w.sets.items; stack = w.stack.items; waits = w.waits; handled = w.handled }

-- a block waits, as the next one, unless it waits already
abbrev pub pushed : Progress → ℕ → Progress
pushed p block =
    if is_in p.waits block then p else record p { stack = p.stack ++ block ∷ []; waits = slice_set p.waits block true }

abbrev pub pushed_all : Progress → List ℕ → Progress
pushed_all p [] = p
pushed_all p (block ∷ blocks) = pushed_all (pushed p block) blocks

-- the next block is taken, if one waits
abbrev pub IsTaken : Progress → Option ℕ → Progress → Type 0
IsTaken old None new = (old.stack ≡ []) × (new ≡ old)
IsTaken old (Some block) new =
    (old.stack ≡ new.stack ++ block ∷ []) × (new.waits ≡ slice_set old.waits block false) × (new.sets ≡ old.sets)
    × (new.handled ≡ old.handled)

-- one more, up to the greatest number of 128 bits
abbrev pub one_more : ℕ → ℕ
one_more n = min (n + 1) (2 ^ 128 - 1)

-- a block is handled: its set gets what the equations tell, and if it grows, the sources of the block wait
pub record IsHandled (f : Body) (values sources : List ℕ) (block : ℕ) (old new : Progress) : Type 0 where
  pub set : List Bool
  pub union : IsSet (length values)
      (λ k. is_live_in f (in_set_of old.sets k) block (slice_index values k) || in_set_of old.sets k block) set
  pub after :
      ((set ≡ slice_index_or old.sets block []) × (new ≡ record old { handled = one_more old.handled }))
      ⊎ (Grows (slice_index_or old.sets block []) set
      × (new ≡ pushed_all (record old { sets = slice_set old.sets block set; handled = one_more old.handled }) sources))
