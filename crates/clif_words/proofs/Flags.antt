-- The flags of a load or a store that were taken.
use Rattle.std.proofs.Common.{◌≡◌, ℕ, List, ◌∷◌, ◌++◌, sym, ap, ◌∙◌, inl, inr, Bool, true, false, None}
use Rattle.std.specs.Prelude.{codes}
use Rattle.std.specs.Bool.{OnTrue, OnFalse}
use Rattle.std.proofs.lemmas.List.{append_assoc}
use Rattle.clif_types.specs.MemFlags.{MemFlagsShape}
use Rattle.clif_words.specs.Spelling.{AreFlags, flag_word}

-- the flag's word was taken, just where it stood there
pub flag_taken : (set : Bool) (word : List ℕ) (old new : List (List ℕ)) → OnTrue set (old ≡ word ∷ new) → OnFalse set (new ≡ old) → old ≡ flag_word set word ++ new
flag_taken true word old new taken left = taken
flag_taken false word old new taken left = sym left

two_taken : (a b old mid new : List (List ℕ)) → old ≡ a ++ mid → mid ≡ b ++ new → old ≡ (a ++ b) ++ new
two_taken a b old mid new first second = first ∙ (ap (λ rest. a ++ rest) second ∙ sym (append_assoc a b new))

-- both flags, in the one order and in the other
abbrev both : Bool → Bool → MemFlagsShape
both notrap aligned = record { notrap = notrap; aligned = aligned; alias_region = None }

pub notrap_first : (notrap aligned : Bool) (flags : MemFlagsShape) (old mid new : List (List ℕ)) → flags ≡ both notrap aligned → old ≡ flag_word notrap (codes "notrap") ++ mid → mid ≡ flag_word aligned (codes "aligned") ++ new → (words : List (List ℕ)) × (old ≡ words ++ new) × AreFlags words flags
notrap_first notrap aligned flags old mid new is first second =
    let n = flag_word notrap (codes "notrap") in
    let a = flag_word aligned (codes "aligned") in
    let words = ap (λ f. flag_word f.notrap (codes "notrap") ++ flag_word f.aligned (codes "aligned")) is in
    (n ++ a, two_taken n a old mid new first second, record { order = inl (sym words); region = ap (λ f. f.alias_region) is })

pub aligned_first : (notrap aligned : Bool) (flags : MemFlagsShape) (old mid new : List (List ℕ)) → flags ≡ both notrap aligned → old ≡ flag_word aligned (codes "aligned") ++ mid → mid ≡ flag_word notrap (codes "notrap") ++ new → (words : List (List ℕ)) × (old ≡ words ++ new) × AreFlags words flags
aligned_first notrap aligned flags old mid new is first second =
    let n = flag_word notrap (codes "notrap") in
    let a = flag_word aligned (codes "aligned") in
    let words = ap (λ f. flag_word f.aligned (codes "aligned") ++ flag_word f.notrap (codes "notrap")) is in
    (a ++ n, two_taken a n old mid new first second, record { order = inr (sym words); region = ap (λ f. f.alias_region) is })
