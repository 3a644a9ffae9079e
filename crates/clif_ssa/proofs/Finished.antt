-- The end of a look-up on the stacks.
use Rattle.std.proofs.Common.{◌≡◌, ℕ, ◌≤◌, List, ◌∷◌, ◌++◌, length, take, drop, refl, ap, arith, sym, ◌∙◌, subst, ◌⊎◌}
use Rattle.std.specs.Prelude.{Some, reverse}
use Rattle.std.proofs.lemmas.Grind.{common_steps}
use Rattle.clif_ir.specs.Body.{Body}
use Rattle.clif_ir.specs.Reading.{param_home}
use Rattle.clif_ssa.specs.Ssa.{SsaState, predecessors_of}
use Rattle.clif_records.specs.Stacks.{LookUpState}
use Rattle.clif_ssa.specs.LookUp.{IsNoParameter, EndsLookUp, FinishesLookUp}
use Rattle.clif_ssa.specs.Running.{stage}
use Rattle.clif_records.proofs.Stacks.{take_then_drop}

abbrev EndsSo : ℕ → ℕ → List ℕ → List ℕ → Body → Body → ℕ → List ℕ → Type 0
EndsSo param block predecessors results f g value zeros =
    IsNoParameter param f g value zeros ⊎ ((home : ℕ) × (param_home f param ≡ Some home) × EndsLookUp param home block predecessors results f g value zeros)

pub finishes : (f g : Body) (s : SsaState) (l told dropped pushed : LookUpState) (predecessors results : List ℕ) (param block value : ℕ) (zeros : List ℕ)
    → predecessors_of s block ≡ predecessors → length predecessors ≤ length l.results → results ≡ reverse (take (length predecessors) l.results)
    → EndsSo param block predecessors results f g value zeros
    → told ≡ record l { zeros = l.zeros ++ zeros }
    → dropped ≡ record told { results = drop (length predecessors) told.results }
    → pushed ≡ record dropped { results = value ∷ dropped.results }
    → FinishesLookUp param block (stage f s l) (stage g s pushed)
finishes f g s l told dropped pushed predecessors results param block value zeros same count last ends is_told is_dropped is_pushed =
    let n : ℕ = length predecessors in
    let dropped_is : dropped ≡ record { calls = l.calls; results = drop n l.results; zeros = l.zeros ++ zeros } =
    is_dropped ∙ ap (λ (k : LookUpState). let d : LookUpState = record k { results = drop n k.results } in d) is_told in
    record {
      results = take n l.results;
      others = drop n l.results;
      taken = sym (take_then_drop n l.results);
      count = let long : length (take n l.results) ≡ n = grind (arith, common_steps) in long ∙ ap length (sym same);
      value = value;
      zeros = zeros;
      ends = subst (λ ps. EndsSo param block ps (reverse (take n l.results)) f g value zeros) (sym same)
          (subst (λ rs. EndsSo param block predecessors rs f g value zeros) last ends);
      state = refl;
      look_up = is_pushed ∙ ap (λ (k : LookUpState). let d : LookUpState = record k { results = value ∷ k.results } in d) dropped_is;
    }
