-- The scan of a block, one instruction at a time.
use Rattle.std.proofs.Common.{◌≡◌, ◌-◌, ◌<◌, ◌≤◌, ℕ, suc, Bool, false, not, ◌||◌, ◌&&◌, List, ◌∷◌, length, get_or, drop, sym, ap, ◌∙◌, arith, slice_index}
use Rattle.std.proofs.Math.Seq.{drop-cons}
use Rattle.std.proofs.lemmas.List.{drop_all}
use Rattle.clif_instructions.specs.Instruction.{operands}
use Rattle.clif_instructions.specs.Members.{stands_in}
use Rattle.clif_ir.specs.Body.{Body, block_at, inst_at}
use Rattle.clif_number_sets.specs.Sets.{IsSet, is_in}
use Rattle.clif_safepoints.specs.Transfer.{insts_of, is_live_before, is_live_behind, is_live_in, names}

-- what is live before the instructions of a block from a place on
abbrev pub IsLiveFrom : Body → (ℕ → ℕ → Bool) → List ℕ → List ℕ → ℕ → List Bool → Type 0
IsLiveFrom f sets values insts place live =
    IsSet (length values) (λ k. is_live_before f (sets k) (slice_index values k) (drop place insts)) live

pub at_end : (f : Body) (sets : ℕ → ℕ → Bool) (values insts : List ℕ) (place : ℕ) (live : List Bool) → length insts ≤ place
    → IsSet (length values) (λ k. false) live → IsLiveFrom f sets values insts place live
at_end f sets values insts place live past none = record {
  size = none.size;
  members = λ k below. none.members k below ∙ sym (ap (is_live_before f (sets k) (slice_index values k)) (drop_all place insts past));
}

pub one_before : (f : Body) (sets : ℕ → ℕ → Bool) (values insts : List ℕ) (above inst : ℕ) (live across new : List Bool) → 0 < above → above ≤ length insts
    → inst ≡ get_or insts (above - 1) inst → IsLiveFrom f sets values insts above live
    → IsSet (length values) (λ k. is_live_behind f (sets k) (slice_index values k) inst (is_in live k)) across
    → IsSet (length values) (λ k. names f (operands (inst_at f inst).shape) (slice_index values k) || is_in across k) new
    → IsLiveFrom f sets values insts (above - 1) new
one_before f sets values insts above inst live across new some inside is before behind now = record {
  size = now.size;
  members = λ k below.
      now.members k below
      ∙ ap (λ (b : Bool). names f (operands (inst_at f inst).shape) (slice_index values k) || b)
      (behind.members k below ∙ ap (is_live_behind f (sets k) (slice_index values k) inst) (before.members k below))
      ∙ sym (ap (is_live_before f (sets k) (slice_index values k)) ahead);
}
  where
    last : above - 1 < length insts
    last = omega arith

    ahead : drop (above - 1) insts ≡ inst ∷ drop above insts
    ahead =
        drop-cons insts (above - 1) inst last ∙ ap (λ x. x ∷ drop (suc (above - 1)) insts) (sym is)
        ∙ ap (λ n. inst ∷ drop n insts) (let e : suc (above - 1) ≡ above = omega arith in e)

pub at_front : (f : Body) (sets : ℕ → ℕ → Bool) (values insts : List ℕ) (block : ℕ) (live new : List Bool) → insts ≡ insts_of f block
    → IsLiveFrom f sets values insts 0 live
    → IsSet (length values) (λ k. not (stands_in (slice_index values k) (block_at f block).params) && is_in live k) new
    → IsSet (length values) (λ k. is_live_in f (sets k) block (slice_index values k)) new
at_front f sets values insts block live new is before now = record {
  size = now.size;
  members = λ k below.
      now.members k below
      ∙ ap (λ (b : Bool). not (stands_in (slice_index values k) (block_at f block).params) && b)
      (before.members k below ∙ ap (is_live_before f (sets k) (slice_index values k)) is);
}

-- the same where both steps are told at once
pub one_before_at_once : (f : Body) (sets : ℕ → ℕ → Bool) (values insts : List ℕ) (above inst : ℕ) (live new : List Bool) → 0 < above → above ≤ length insts
    → inst ≡ get_or insts (above - 1) inst → IsLiveFrom f sets values insts above live
    → IsSet (length values) (λ k. names f (operands (inst_at f inst).shape) (slice_index values k) || is_live_behind f (sets k) (slice_index values k) inst (is_in live k)) new
    → IsLiveFrom f sets values insts (above - 1) new
one_before_at_once f sets values insts above inst live new some inside is before now = record {
  size = now.size;
  members = λ k below.
      now.members k below
      ∙ ap (λ (b : Bool). names f (operands (inst_at f inst).shape) (slice_index values k) || is_live_behind f (sets k) (slice_index values k) inst b) (before.members k below)
      ∙ sym (ap (is_live_before f (sets k) (slice_index values k)) ahead);
}
  where
    last : above - 1 < length insts
    last = omega arith

    ahead : drop (above - 1) insts ≡ inst ∷ drop above insts
    ahead =
        drop-cons insts (above - 1) inst last ∙ ap (λ x. x ∷ drop (suc (above - 1)) insts) (sym is)
        ∙ ap (λ n. inst ∷ drop n insts) (let e : suc (above - 1) ≡ above = omega arith in e)
