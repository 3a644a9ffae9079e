-- What the tables have as given: by an item, or as a block is entered.
use Rattle.std.proofs.Common.{◌≡◌, ◌≢◌, ℕ, suc, ◌<◌, List, length, Some, ◌⊎◌, inl, inr, sym, ◌∙◌, ap, subst, arith}
use Rattle.std.specs.Prelude.{Contains}
use Rattle.clif_paths.specs.Places.{start, inside}
use Rattle.clif_paths.specs.State.{Naming}
use Rattle.clif_paths.specs.Blocks.{Blocks}
use Rattle.clif_meaning.specs.Name.{Name}
use Rattle.clif_meaning.specs.Request.{AnsweredCall}
use Rattle.clif_simulation.specs.Tables.{code, answered, program_so_far, block_name, IsGiven, IsParameter, IsProgramOf}
use Rattle.clif_simulation.proofs.Codes
use Rattle.clif_simulation.proofs.Finished.Straight.{same_block, same_step}

no_place : (b k : ℕ) → inside b k ≢ start
no_place b k same = cc

-- a number that is given is that of a name, which was answered by the tables as by the builder
pub record IsNamed (calls : List AnsweredCall) (T : Blocks) (n : ℕ) : Type 0 where
  pub name : Name
  pub coded : code name ≡ n
  pub earlier : name.place < length calls
  pub answers : T.answer n ≡ answered calls name

module _ (calls : List AnsweredCall) (T : Blocks) (program : IsProgramOf calls T) where
  pub is_named : (n : ℕ) → (T.naming n).home ≢ start → IsNamed calls T n
  is_named n home = by (program.given_only n home)
    where
      by : IsGiven calls T n ⊎ IsParameter calls T n → IsNamed calls T n
      by (inl g) = record {
        name = g.name;
        coded = g.coded;
        earlier = g.earlier;
        answers = ap T.answer (sym g.coded) ∙ (program.given g.block g.index g.block_is g.item g.named g.stands g.name g.gives).1;
      }
      by (inr p) = record {
        name = p.name;
        coded = p.coded;
        earlier = p.earlier;
        answers = ap T.answer (sym p.coded) ∙ (program.parameter p.block p.block_is p.named p.name p.stands).1;
      }

  -- a name that is given was answered before
  pub named_earlier : (x : Name) → (T.naming (code x)).home ≢ start → x.place < length calls
  named_earlier x home =
      let g = is_named (code x) home in
      subst (λ (y : Name). y.place < length calls) (Codes.differ g.name x g.coded) g.earlier

  -- what is given at the place of an item is given by an item
  pub given_by_item : (n b k : ℕ) → (T.naming n).home ≡ inside b (suc k) → IsGiven calls T n
  given_by_item n b k at = by (program.given_only n (λ none. no_place b (suc k) (sym at ∙ none)))
    where
      by : IsGiven calls T n ⊎ IsParameter calls T n → IsGiven calls T n
      by (inl g) = g
      by (inr p) = absurd (omega (arith, same_step (sym (ap (λ (m : Naming). m.home) p.naming) ∙ at)))

  -- and at the front of a block one of its parameters
  pub given_at_front : (n b : ℕ) (B : Name) → block_name calls b ≡ Some B → (T.naming n).home ≡ inside b 0
      → (x : Name) × (code x ≡ n) × Contains ((program_so_far calls).parameters B) x
  given_at_front n b B named at = by (program.given_only n (λ none. no_place b 0 (sym at ∙ none)))
    where
      some_is : (x y : Name) → Some x ≡ Some y → x ≡ y
      some_is x y e = cc

      by : IsGiven calls T n ⊎ IsParameter calls T n → (x : Name) × (code x ≡ n) × Contains ((program_so_far calls).parameters B) x
      by (inl g) = absurd (omega (arith, same_step (sym (ap (λ (m : Naming). m.home) g.naming) ∙ at)))
      by (inr p) =
          let same : p.block ≡ b = same_block (sym (ap (λ (m : Naming). m.home) p.naming) ∙ at) in
          let is_B : p.block_is ≡ B = some_is p.block_is B (sym p.named ∙ ap (block_name calls) same ∙ named) in
          (p.name, p.coded, subst (λ (M : Name). Contains ((program_so_far calls).parameters M) p.name) is_B p.stands)
