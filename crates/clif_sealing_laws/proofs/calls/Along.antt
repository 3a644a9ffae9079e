-- Two states that agree still agree after calls, where the second state follows those of them that don't seal, renamed.
use Rattle.std.proofs.Common.{◌≡◌, ℕ, suc, Bool, true, false, cond, not, List, [], ◌∷◌, map, refl, sym, subst}
use Rattle.std.specs.Prelude.{fold}
use Rattle.clif_meaning.specs.Name.{Name, answer_of}
use Rattle.clif_expansion.specs.ScriptCall.{ScriptCall}
use Rattle.clif_renaming.specs.CallsSealing.{calls_left, counted_as, renamed_call}
use Rattle.clif_renaming.specs.Sealing.{is_sealing}
use Rattle.clif_renaming.proofs.Places.{Follows, follows_call, follows_here, follows_seal}

-- the call seals, and so is none that is left
abbrev pub seals : ScriptCall → Bool
seals call = is_sealing (counted_as call)

module _ {S : Type 0} (step : S → ScriptCall → S) (place : S → ℕ) (Agree : S → S → Type 0) (rename : Name → Name)
    (next : (s : S) (call : ScriptCall) → place (step s call) ≡ suc (place s))
    (behind_seal : (s s' : S) (call : ScriptCall) → seals call ≡ true → Agree s s' → Agree (step s call) s')
    (both_after : (s s' : S) (call : ScriptCall) → ((index : ℕ) → rename (answer_of (place s) index) ≡ answer_of (place s') index) → Agree s s'
    → Agree (step s call) (step s' (renamed_call rename call))) where
  abbrev KeepAgreeing : List ScriptCall → Type 0
  KeepAgreeing calls = (s s' : S) → Agree s s' → Follows rename (map counted_as calls) (place s) (place s')
      → Agree (fold step s calls) (fold step s' (map (renamed_call rename) (calls_left calls)))

  -- the same after one more call, of which is told whether it seals
  abbrev AgreeAfter : ScriptCall → List ScriptCall → S → S → Bool → Type 0
  AgreeAfter call calls s s' c =
      Agree (fold step (step s call) calls) (fold step s' (map (renamed_call rename) (cond (not c) (call ∷ calls_left calls) (calls_left calls))))

  pub agree_along : (calls : List ScriptCall) → KeepAgreeing calls
  agree_along [] s s' agree follows = agree
  agree_along (call ∷ calls) s s' agree follows = by (agree_along calls) (seals call) refl
    where
      by : KeepAgreeing calls → (c : Bool) → seals call ≡ c → AgreeAfter call calls s s' (seals call)
      by later true is =
          subst (AgreeAfter call calls s s') (sym is)
          (later (step s call) s' (behind_seal s s' call is agree)
          (subst (λ (n : ℕ). Follows rename (map counted_as calls) n (place s')) (sym (next s call))
          (follows_seal rename (counted_as call) (map counted_as calls) (place s) (place s') follows is)))
      by later false is =
          let other = renamed_call rename call in
          subst (AgreeAfter call calls s s') (sym is)
          (later (step s call) (step s' other)
          (both_after s s' call (follows_here rename (counted_as call) (map counted_as calls) (place s) (place s') follows is) agree)
          (subst (λ (n : ℕ). Follows rename (map counted_as calls) n (place (step s' other))) (sym (next s call))
          (subst (λ (n : ℕ). Follows rename (map counted_as calls) (suc (place s)) n) (sym (next s' other))
          (follows_call rename (counted_as call) (map counted_as calls) (place s) (place s') follows is))))
