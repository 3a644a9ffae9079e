-- The one path through the entry of an unfinished function: edges that the program may still get, of which none leads
-- into another block. They are those of tables whose entry is sealed.
use Rattle.std.proofs.Common.{◌≡◌, ◌≢◌, ℕ, zero, suc, ◌<◌, ◌==◌, ◌&&◌, cond, if◌then◌else◌, Bool, true, false, List, [], ◌∷◌, slice_get, Option, Some, None, refl, sym, ◌∙◌, ap, subst, arith}
use Rattle.std.proofs.lemmas.Bool.Decides.{nat_tests}
use Rattle.std.proofs.lemmas.Bool.{eqb-true}
use Rattle.clif_ir.specs.Body.{Body}
use Rattle.clif_paths.specs.Places.{Place, start, inside, Arm, Edges, same_place, StrictlyBefore}
use Rattle.clif_paths.specs.Steps.{updated}
use Rattle.clif_paths.specs.Blocks.{Blocks, front, sealed_at, arm_into, state_of}
use Rattle.clif_paths.specs.Sound.{Allowed}
use Rattle.clif_paths.proofs.PathLemmas.{same_place-true, same_place-refl, same_place-other}
use Rattle.clif_paths.proofs.Tables.{updated-same, updated-other}
use Rattle.clif_ssa.specs.Ssa.{SsaState, sealed_of}
use Rattle.clif_records.specs.Tables.{is_yes}
use Rattle.clif_ssa.specs.Sound.{has_entry}
use Rattle.clif_ssa.specs.SoundLaws.{enters}
use Rattle.clif_meaning.specs.Name.{Name}
use Rattle.clif_meaning.specs.Request.{AnsweredCall}
use Rattle.clif_meaning.specs.Program.{Item, Instruct, Use, Assign}
use Rattle.clif_meaning.specs.WellPlaced.{program_code, IsWellPlaced}
use Rattle.clif_simulation.specs.Tables.{code, program_so_far, block_name, item_at, assigned_by}
use Rattle.clif_simulation.proofs.Unbranched.{CarriesUnbranched}
use Rattle.clif_simulation.proofs.Finished.Straight.{arms, first_arm, OnlyEntry, strictly_before, none_elsewhere}
use Rattle.clif_simulation.proofs.Finished.Entry

some_is : {X : Type 0} (x y : X) → Some x ≡ Some y → x ≡ y
some_is x y e = cc

none_some : {n : ℕ} → None ≡ Some n → ⊥
none_some e = cc

not_both : false ≡ true → ⊥
not_both e = cc

-- tables with other seals and other arms
abbrev pub opened : Blocks → (ℕ → Bool) → Edges → Blocks
opened tables sealed joins = record tables { sealed = sealed; joins = joins }

-- such tables in which the entry alone is come to, and what is known of arms stays so
pub record Opens (tables : Blocks) (e : ℕ) (sealed : ℕ → Bool) (joins : Edges) : Type 0 where
  pub only : OnlyEntry (opened tables sealed joins) e
  pub known : (arm : Arm) → (state_of tables).program.is_sealed arm.target ≡ true → arms (opened tables sealed joins) arm ≡ arms tables arm

-- The entry's seal -------------------------------------------------------------------------------------------------------

begins : (layout : List ℕ) (e : ℕ) → slice_get layout 0 ≡ Some e → has_entry layout ≡ true
begins [] e found = cc
begins (b ∷ layout) e found = refl

module _ (calls : List AnsweredCall) (f : Body) (s : SsaState) (carries : CarriesUnbranched calls f s)
    (entry : Name) (is_entry : (program_so_far calls).entry ≡ Some entry)
  where
    abbrev pub e : ℕ
    e = Entry.e calls f s carries entry is_entry

    abbrev pub tables : Blocks
    tables = carries.whole.tables

    -- the tables' seal of the entry is the builder's
    pub seal_is : (sealed : Bool) → is_yes (sealed_of s e) ≡ sealed → tables.sealed e ≡ sealed
    seal_is sealed is =
        carries.whole.describes.sealed e ∙ ap (λ (b : Bool). b && has_entry f.layout) is ∙ and_true sealed (begins f.layout e (Entry.found calls f s carries entry is_entry))
      where
        and_true : (a : Bool) {b : Bool} → b ≡ true → (a && b) ≡ a
        and_true true is = is
        and_true false is = refl

    joined : (arm : Arm) → tables.joins arm ≡ true → arm.target ≡ front e
    joined = Entry.joined calls f s carries entry is_entry

    -- Where it is sealed, the tables are such ones.
    pub opens-sealed : is_yes (sealed_of s e) ≡ true → Opens tables e tables.sealed tables.joins
    opens-sealed is = record {
      only = record {
        joined = joined;
        sealed = seal_is true is;
        entered = carries.whole.describes.entered e (Entry.found calls f s carries entry is_entry) (seal_is true is);
      };
      known = λ arm there. refl;
    }

    -- Where it isn't, its seal makes them so.
    abbrev pub sealed_now : ℕ → Bool
    sealed_now = updated tables.sealed e true

    abbrev pub joins_now : Edges
    joins_now arm = cond (same_place arm.target (front e)) (enters e arm) (tables.joins arm)

    joined_now : (arm : Arm) (t : Bool) → same_place arm.target (front e) ≡ t → cond t (enters e arm) (tables.joins arm) ≡ true → arm.target ≡ front e
    joined_now arm true at joins = same_place-true arm.target (front e) at
    joined_now arm false at joins = joined arm joins

    entered_now : joins_now (first_arm e) ≡ true
    entered_now = rw (same_place-refl (front e), same_place-refl start) refl

    other_front : (b : ℕ) → b ≢ e → front b ≢ front e
    other_front b apart same = apart (block_of_front same)
      where
        block_of_front : {b c : ℕ} → front b ≡ front c → b ≡ c
        block_of_front e = cc

    known_at : tables.sealed e ≡ false → (arm : Arm) (p : Place) → arm.target ≡ p → sealed_at tables.count tables.sealed p ≡ true
        → arm_into tables.count sealed_now joins_now arm p ≡ arm_into tables.count tables.sealed tables.joins arm p
    known_at unsealed arm start at there = absurd (not_both there)
    known_at unsealed arm (inside b zero) at there =
        let apart : b ≢ e = λ same. not_both (sym unsealed ∙ ap tables.sealed (sym same) ∙ there) in
        let same_seal : sealed_now b ≡ tables.sealed b = updated-other tables.sealed e true b apart in
        let elsewhere : same_place arm.target (front e) ≡ false = ap (λ (q : Place). same_place q (front e)) at ∙ same_place-other (front b) (front e) (other_front b apart) in
        rw (same_seal, elsewhere) refl
    known_at unsealed arm (inside b (suc k)) at there = refl

    pub opens-unsealed : is_yes (sealed_of s e) ≡ false → Opens tables e sealed_now joins_now
    opens-unsealed is = record {
      only = record {
        joined = λ arm joins. joined_now arm (same_place arm.target (front e)) refl joins;
        sealed = updated-same tables.sealed e true e refl;
        entered = entered_now;
      };
      known = λ arm there. known_at (seal_is false is) arm arm.target refl there;
    }

    -- Such edges are allowed -------------------------------------------------------------------------------------------

    module _ (placed : IsWellPlaced (program_code (program_so_far calls))) (sealed : ℕ → Bool) (joins : Edges) (opens : Opens tables e sealed joins) where
      abbrev pub edges : Edges
      edges = arms (opened tables sealed joins)

      in_entry : (k x n : ℕ) (o : Option Item) → item_at calls entry k ≡ o → assigned_by o x ≡ Some n → StrictlyBefore edges (tables.naming n).home (inside e (suc k))
      in_entry k x n None stands assigned = cc
      in_entry k x n (Some (Instruct place instruction results)) stands assigned = cc
      in_entry k x n (Some (Use variable name)) stands assigned = cc
      in_entry k x n (Some (Assign variable name)) stands assigned = by (x == variable) assigned
        where
          by : (test : Bool) → (if test then Some (code name) else None) ≡ Some n → StrictlyBefore edges (tables.naming n).home (inside e (suc k))
          by false none = cc
          by true one =
              let before = Entry.named_before calls f s carries entry is_entry placed k (Assign variable name) stands name (0, omega arith, refl) in
              let home : (tables.naming n).home ≡ inside e before.at =
              ap (λ (m : ℕ). (tables.naming m).home) (sym (some_is (code name) n one)) ∙ before.home in
              let below : before.at < suc k = let within = before.within in omega (arith, within) in
              subst (λ (p : Place). StrictlyBefore edges p (inside e (suc k))) (sym home)
              (strictly_before (opened tables sealed joins) e opens.only e before.at (suc k) below)

      at_item : (b k x n : ℕ) (o : Option Name) → block_name calls b ≡ o → tables.assigned (inside b (suc k)) x ≡ Some n
          → StrictlyBefore edges (tables.naming n).home (inside b (suc k))
      at_item b k x n None name assigned = absurd (none_some (sym (carries.whole.program.elsewhere_nothing b (suc k) x name) ∙ assigned))
      at_item b k x n (Some block) name assigned = by (b == e) refl
        where
          by : (test : Bool) → (b == e) ≡ test → StrictlyBefore edges (tables.naming n).home (inside b (suc k))
          by false other =
              let apart : b ≢ e = grind (arith, nat_tests) in
              none_elsewhere (opened tables sealed joins) e opens.only b (suc k) apart (tables.naming n).home
          by true one =
              let here : b ≡ e = eqb-true b e one in
              let same : block ≡ entry = some_is block entry (sym name ∙ ap (block_name calls) here ∙ Entry.named calls f s carries entry is_entry) in
              let item : assigned_by (item_at calls entry k) x ≡ Some n =
              ap (λ (m : Name). assigned_by (item_at calls m k) x) (sym same) ∙ sym (carries.whole.program.assigned b k block name x) ∙ assigned in
              subst (λ (c : ℕ). StrictlyBefore edges (tables.naming n).home (inside c (suc k))) (sym here)
              (in_entry k x n (item_at calls entry k) refl item)

      at_place : (place : Place) (x n : ℕ) → tables.assigned place x ≡ Some n → StrictlyBefore edges (tables.naming n).home place
      at_place start x n assigned = absurd (none_some (sym (carries.whole.program.start_assigns_nothing x) ∙ assigned))
      at_place (inside b zero) x n assigned = absurd (none_some (sym (carries.whole.program.front_assigns_nothing b x) ∙ assigned))
      at_place (inside b (suc k)) x n assigned = at_item b k x n (block_name calls b) refl assigned

      pub allowed : Allowed (state_of tables).program edges
      allowed = record {
        known = opens.known;
        rooted = λ arm at. ap (λ (p : Place). arm_into tables.count sealed joins arm p) at;
        given_before = at_place;
      }
