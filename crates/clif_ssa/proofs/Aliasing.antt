-- The first parameter that is being completed becomes a name of another value.
use Rattle.std.proofs.Common.{◌≡◌, ◌≢◌, ℕ, ◌+◌, ◌<◌, ◌≤◌, List, ◌∷◌, length, ap, arith, sym, ◌∙◌, subst, inl, inr}
use Rattle.std.specs.Prelude.{Some, Contains, slice_index}
use Rattle.clif_ir.specs.Body.{Body, block_at, resolved}
use Rattle.clif_ir.specs.Changes.{with_alias}
use Rattle.clif_instructions.specs.Members.{Stands, Once, place_of, without}
use Rattle.clif_ir.specs.Reading.{param_home}
use Rattle.clif_instructions.proofs.Lists.{below_or_not}
use Rattle.clif_instructions.proofs.Members.{Stands-without, without-stood, Once-without}
use Rattle.clif_paths.specs.State.{Kind, unborn, born, pending, complete, zero_of, Definition}
use Rattle.clif_paths.specs.Blocks.{Blocks, with_dropped}
use Rattle.clif_records.specs.declared.tables.Pending.{Pending}
use Rattle.clif_ssa.specs.Own.{Own}
use Rattle.clif_ssa.specs.Ssa.{SsaState, predecessors_of}
use Rattle.clif_ssa.specs.Sound.{Describes, CountsArguments, IsBehind, IsCounted, edge_target, passed_count}
use Rattle.clif_ssa.proofs.Bodies.{Firm}
use Rattle.clif_ssa.proofs.Firsts.{IsFirst, first_waits, none_some, same_some}
use Rattle.clif_ssa.proofs.Housing.{Housed, place_behind, place_apart, length_without}
use Rattle.clif_ssa.proofs.Ordering.{stands_place, place_without_before}
use Rattle.clif_ssa.proofs.Zeroing.{CanAlias, alias_described, alias_firm, alias_params, alias_home_other, alias_home_same}

pub drop_can : (f : Body) (v w b : ℕ) → Firm f → param_home f v ≡ Some b → w < length f.values → resolved f w ≡ w → w ≢ v → CanAlias f v w b
drop_can f v w b firm home exists ends apart = record { firm = firm; parameter = home; own_end = ends; exists = exists; apart = apart }

pub drop_described : (own : Own) (f : Body) (s : SsaState) (p : Pending) (ps : List Pending) (tables : Blocks) (w b : ℕ)
    → Firm f → Describes own f s (p ∷ ps) tables → param_home f p.param ≡ Some b → w < length f.values → resolved f w ≡ w → w ≢ p.param
    → Describes own (with_alias f p.param w) s ps (with_dropped tables p.param w)
drop_described own f s p ps tables w b firm before home exists ends apart =
    let first : IsFirst f s ps tables p b = first_waits own f s p ps tables b before home in
    alias_described own f s p ps tables w b (drop_can f p.param w b firm home exists ends apart) (record { waits = first.defined; is_sealed = first.is_sealed }) before

pub drop_firm : (f : Body) (v w b : ℕ) → Firm f → param_home f v ≡ Some b → w < length f.values → resolved f w ≡ w → w ≢ v → Firm (with_alias f v w)
drop_firm f v w b firm home exists ends apart = alias_firm f v w b (drop_can f v w b firm home exists ends apart)

-- another parameter stays one of its block
drop_home : (f : Body) (v w b u c : ℕ) → CanAlias f v w b → param_home (with_alias f v w) u ≡ Some c → (u ≢ v) × (param_home f u ≡ Some c)
drop_home f v w b u c can is =
    let other : u ≢ v = λ same. none_some (sym (alias_home_same f v w b can) ∙ ap (λ x. param_home (with_alias f v w) x) (sym same) ∙ is) in
    (other, sym (alias_home_other f v w u other) ∙ is)

housed_can : (f : Body) (v w b : ℕ) → CanAlias f v w b → Housed f → Housed (with_alias f v w)
housed_can f v w b can housed =
    let g : Body = with_alias f v w in
    record {
      stands = λ u c is.
          let old : (u ≢ v) × (param_home f u ≡ Some c) = drop_home f v w b u c can is in
          elim (alias_params f v w b can c) [
            | inl here ↦ subst (λ ps. Stands u ps) (sym here.1) (Stands-without u v (block_at f c).params old.0 (housed.stands u c old.1))
            | inr apart ↦ subst (λ ps. Stands u ps) (sym apart.1) (housed.stands u c old.1)
          ];
      known = λ u c stands.
          elim (alias_params f v w b can c) [
            | inl here ↦
                let there : Stands u (without v (block_at f c).params) = subst (λ ps. Stands u ps) here.1 stands in
                let was : Stands (slice_index (without v (block_at f c).params) there.0) (block_at f c).params × (slice_index (without v (block_at f c).params) there.0 ≢ v) =
                without-stood v (block_at f c).params there.0 (housed.once c) there.1 in
                let other : u ≢ v = λ same. was.1 (there.2 ∙ same) in
                alias_home_other f v w u other ∙ housed.known u c (subst (λ x. Stands x (block_at f c).params) there.2 was.0)
            | inr apart ↦
                let is : param_home f u ≡ Some c = housed.known u c (subst (λ ps. Stands u ps) apart.1 stands) in
                let other : u ≢ v = λ same. apart.0 (same_some (sym is ∙ ap (λ x. param_home f x) same ∙ can.parameter)) in
                alias_home_other f v w u other ∙ is
          ];
      once = λ c.
          elim (alias_params f v w b can c) [
            | inl here ↦ subst (λ ps. Once ps) (sym here.1) (Once-without v (block_at f c).params (housed.once c))
            | inr apart ↦ subst (λ ps. Once ps) (sym apart.1) (housed.once c)
          ];
    }

pub drop_housed : (f : Body) (v w b : ℕ) → Firm f → Housed f → param_home f v ≡ Some b → w < length f.values → resolved f w ≡ w → w ≢ v → Housed (with_alias f v w)
drop_housed f v w b firm housed home exists ends apart = housed_can f v w b (drop_can f v w b firm home exists ends apart) housed

-- what is counted stays so as a place behind all counted ones goes
moved_counted : (kind : Kind) (place place' callers count given first : ℕ) → IsCounted kind place callers count given → count + callers ≤ first + given → place ≢ first
    → (place < first → place' ≡ place) → (first < place → place' + 1 ≡ place) → IsCounted kind place' callers count given
moved_counted unborn place place' callers count given first is few apart same moved = tt
moved_counted (born n) place place' callers count given first is few apart same moved = tt
moved_counted (complete x) place place' callers count given first is few apart same moved = let at : place' ≡ place = same (omega (arith, is, few)) in omega (arith, is, at)
moved_counted (zero_of x) place place' callers count given first is few apart same moved = tt
moved_counted (pending x) place place' callers count given first is few apart same moved =
    elim (below_or_not place first) [
      | inl less ↦ let at : place' ≡ place = same less in omega (arith, is, at)
      | inr not_less ↦
          let more : first < place = omega (arith, not_less, apart) in
          let at : place' + 1 ≡ place = moved more in
          omega (arith, few, more, at)
    ]

still_behind : (place place' callers first : ℕ) → callers ≤ place → callers ≤ first → place ≢ first → (place < first → place' ≡ place) → (first < place → place' + 1 ≡ place) → callers ≤ place'
still_behind place place' callers first is few apart same moved =
    elim (below_or_not place first) [
      | inl less ↦ let at : place' ≡ place = same less in omega (arith, is, at)
      | inr not_less ↦
          let more : first < place = omega (arith, not_less, apart) in
          let at : place' + 1 ≡ place = moved more in
          omega (arith, few, more, at)
    ]

-- the same of parameters behind the caller's
moved_behind : (kind : Kind) (place place' callers first : ℕ) → IsBehind kind place callers → callers ≤ first → place ≢ first → (place < first → place' ≡ place)
    → (first < place → place' + 1 ≡ place) → IsBehind kind place' callers
moved_behind unborn place place' callers first is few apart same moved = is
moved_behind (born n) place place' callers first is few apart same moved = let at : place' ≡ place = same (omega (arith, is, few)) in omega (arith, is, at)
moved_behind (complete x) place place' callers first is few apart same moved = still_behind place place' callers first is few apart same moved
moved_behind (zero_of x) place place' callers first is few apart same moved = is
moved_behind (pending x) place place' callers first is few apart same moved = still_behind place place' callers first is few apart same moved

counted_can : (own : Own) (f : Body) (s : SsaState) (p : Pending) (ps : List Pending) (tables : Blocks) (w b : ℕ) → CanAlias f p.param w b → Housed f
    → IsFirst f s ps tables p b → CountsArguments own f s tables → CountsArguments own (with_alias f p.param w) s (with_dropped tables p.param w)
counted_can own f s p ps tables w b can housed first counts =
    let v : ℕ = p.param in
    let g : Body = with_alias f v w in
    let few : (c i k : ℕ) → c ≡ b → Contains (predecessors_of s c) i → edge_target f i k ≡ Some c
    → passed_count f i k + length (own.params c) ≤ place_of v (block_at f c).params + length (own.passed i k) =
    λ c i k at here leads.
    subst (λ (d : Definition). IsCounted d.kind (place_of v (block_at f c).params) (length (own.params c)) (passed_count f i k) (length (own.passed i k))) first.defined
    (counts.counted c i k v here leads (first.parameter ∙ ap Some (sym at))) in
    let behind : (c : ℕ) → c ≡ b → length (own.params c) ≤ place_of v (block_at f c).params =
    λ c at. subst (λ (d : Definition). IsBehind d.kind (place_of v (block_at f c).params) (length (own.params c))) first.defined (counts.behind c v (first.parameter ∙ ap Some (sym at))) in
    let shorter : (c : ℕ) → c ≡ b → (place_of v (block_at f c).params < length (block_at f c).params) × (length (without v (block_at f c).params) + 1 ≡ length (block_at f c).params) =
    λ c at.
    let stands : Stands v (block_at f c).params = housed.stands v c (first.parameter ∙ ap Some (sym at)) in
    (stands_place v (block_at f c).params stands, length_without v (block_at f c).params stands) in
    record {
      behind = λ c u is.
          let old : (u ≢ v) × (param_home f u ≡ Some c) = drop_home f v w b u c can is in
          elim (alias_params f v w b can c) [
            | inl at ↦
                subst (λ params. IsBehind (tables.function.definition u).kind (place_of u params) (length (own.params c))) (sym at.1)
                (moved_behind (tables.function.definition u).kind (place_of u (block_at f c).params) (place_of u (without v (block_at f c).params)) (length (own.params c))
                (place_of v (block_at f c).params) (counts.behind c u old.1) (behind c at.0)
                (λ same. old.0 (place_apart u v (block_at f c).params (housed.stands u c old.1) same))
                (λ less. place_without_before u v (block_at f c).params less) (λ more. place_behind u v (block_at f c).params more))
            | inr apart ↦ subst (λ params. IsBehind (tables.function.definition u).kind (place_of u params) (length (own.params c))) (sym apart.1) (counts.behind c u old.1)
          ];
      callers = λ c.
          elim (alias_params f v w b can c) [
            | inl at ↦
                let less : _ × (length (without v (block_at f c).params) + 1 ≡ length (block_at f c).params) = shorter c at.0 in
                let fits : length (own.params c) ≤ length (without v (block_at f c).params) = omega (arith, less.0, less.1, behind c at.0) in
                subst (λ (params : List ℕ). length (own.params c) ≤ length params) (sym at.1) fits
            | inr apart ↦ subst (λ (params : List ℕ). length (own.params c) ≤ length params) (sym apart.1) (counts.callers c)
          ];
      counted = λ c i k u here leads is.
          let old : (u ≢ v) × (param_home f u ≡ Some c) = drop_home f v w b u c can is in
          let before : IsCounted (tables.function.definition u).kind (place_of u (block_at f c).params) (length (own.params c)) (passed_count f i k) (length (own.passed i k)) =
          counts.counted c i k u here leads old.1 in
          elim (alias_params f v w b can c) [
            | inl at ↦
                subst (λ params. IsCounted (tables.function.definition u).kind (place_of u params) (length (own.params c)) (passed_count f i k) (length (own.passed i k))) (sym at.1)
                (moved_counted (tables.function.definition u).kind (place_of u (block_at f c).params) (place_of u (without v (block_at f c).params)) (length (own.params c)) (passed_count f i k)
                (length (own.passed i k)) (place_of v (block_at f c).params) before (few c i k at.0 here leads)
                (λ same. old.0 (place_apart u v (block_at f c).params (housed.stands u c old.1) same))
                (λ less. place_without_before u v (block_at f c).params less) (λ more. place_behind u v (block_at f c).params more))
            | inr apart ↦
                subst (λ params. IsCounted (tables.function.definition u).kind (place_of u params) (length (own.params c)) (passed_count f i k) (length (own.passed i k))) (sym apart.1) before
          ];
      no_fewer = λ c i k here leads. counts.no_fewer c i k here leads;
      no_more = λ c i k here leads.
          elim (alias_params f v w b can c) [
            | inl at ↦
                let less : (place_of v (block_at f c).params < length (block_at f c).params) × (length (without v (block_at f c).params) + 1 ≡ length (block_at f c).params) = shorter c at.0 in
                let below : passed_count f i k + length (own.params c) ≤ place_of v (block_at f c).params + length (own.passed i k) = few c i k at.0 here leads in
                let fits : passed_count f i k + length (own.params c) ≤ length (without v (block_at f c).params) + length (own.passed i k) = omega (arith, less.0, less.1, below) in
                subst (λ (params : List ℕ). passed_count f i k + length (own.params c) ≤ length params + length (own.passed i k)) (sym at.1) fits
            | inr apart ↦
                subst (λ (params : List ℕ). passed_count f i k + length (own.params c) ≤ length params + length (own.passed i k)) (sym apart.1) (counts.no_more c i k here leads)
          ];
    }

pub drop_counted : (own : Own) (f : Body) (s : SsaState) (p : Pending) (ps : List Pending) (tables : Blocks) (w b : ℕ)
    → Firm f → Housed f → Describes own f s (p ∷ ps) tables → CountsArguments own f s tables → param_home f p.param ≡ Some b
    → w < length f.values → resolved f w ≡ w → w ≢ p.param
    → CountsArguments own (with_alias f p.param w) s (with_dropped tables p.param w)
drop_counted own f s p ps tables w b firm housed before counts home exists ends apart =
    counted_can own f s p ps tables w b (drop_can f p.param w b firm home exists ends apart) housed (first_waits own f s p ps tables b before home) counts
