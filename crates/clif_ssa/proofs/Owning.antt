-- Instructions of the caller's.
use Rattle.std.proofs.Common.{◌≡◌, ◌≢◌, ℕ, ◌+◌, ◌<◌, List, [], ◌∷◌, ◌++◌, length, refl, ap, arith, sym, ◌∙◌, subst, inl, inr, append_assoc, Some}
use Rattle.std.specs.Prelude.{slice_get}
use Rattle.std.proofs.lemmas.Option.{slice_get_within}
use Rattle.std.proofs.lemmas.Bool.{cases_eq}
use Rattle.clif_types.specs.declared.types.«Type».{«Type»}
use Rattle.clif_ir.specs.Body.{Body, resolved}
use Rattle.clif_ir.specs.Changes.{with_inst}
use Rattle.clif_instructions.specs.declared.block_call.BlockArg.{BlockArg}
use Rattle.clif_instructions.specs.declared.insert_at.InsertAt.TheVariants.{Back}
use Rattle.clif_instructions.specs.declared.instructions.InstructionData.{InstructionData}
use Rattle.clif_paths.specs.Places.{Place, start, inside, Arm}
use Rattle.clif_paths.specs.State.{Naming, Kind, born, pending, complete, fresh, Definition}
use Rattle.clif_paths.specs.Blocks.{Blocks, front, last_place, state_of, with_item}
use Rattle.clif_paths.proofs.Tables.{updated-same, updated-other}
use Rattle.clif_ssa.specs.Ssa.{SsaState}
use Rattle.clif_ssa.specs.LookUp.{branch_block}
use Rattle.clif_ssa.specs.Sound.{Describes, CountsArguments, HasInstructions, HomeFits, IsWaiting}
use Rattle.clif_records.specs.declared.tables.Pending.{Pending}
use Rattle.clif_ssa.specs.Own.{Own, with_one_more}
use Rattle.clif_ssa.specs.SoundLaws.{with_own, shape_passes, AreNewNames, DescribesSoundly, IsOpen, all_born, with_all_born}
use Rattle.clif_ssa.proofs.Bodies.{Firm}
use Rattle.clif_ssa.proofs.Describing.{Extends, Arms, arms_of, arms_kept, SameEdges, same_edges, Ordered, SameGiven, ordered_of, ordered_given, ordered_kept, same_passed, KeepsKinds, instructions_kept, zeros_kept, waiting_kept, waiting_exists, homes_kept, assigns_not_kept}
use Rattle.clif_ssa.proofs.Parameters.{past_unaliased}
use Rattle.clif_ssa.proofs.Instructions.{inst_resolved, inst_param_home, inst_insts_here, inst_insts_other, inst_extends, inst_params, inst_values_count}
use Rattle.clif_ssa.proofs.Born.{IsBorn, IsNamed, all_born_keeps, born_other, born_there_at, named_at, names_cases, names_still, values_cases}
use Rattle.clif_ssa.proofs.Counting.{inst_counted, counts_given}
use Rattle.clif_ssa.proofs.Writing.{item_described, new_name_item}
use Rattle.clif_ssa.specs.Zeros.{insts_of_zeros}

-- the caller's instructions of each block, with one more behind those of one
own_instructions : (own : Own) (f : Body) (blocks blocks' : Blocks) (b : ℕ) (shape : InstructionData) (types : List «Type») (loc : ℕ) → b < length f.blocks
    → Extends f (with_inst f b Back shape types loc) blocks blocks' → ((c : ℕ) → HasInstructions f blocks c (own.insts c)) → (c : ℕ)
    → HasInstructions (with_inst f b Back shape types loc) blocks' c (with_one_more own.insts b (length f.insts) c)
own_instructions own f blocks blocks' b shape types loc there extends has c =
    let g : Body = with_inst f b Back shape types loc in
    let i : ℕ = length f.insts in
    elim (cases_eq c b) [
      | inl same ↦
          let here : HasInstructions f blocks b (own.insts b) = has b in
          let e : with_one_more own.insts b i c ≡ own.insts b ++ i ∷ [] = updated-same own.insts b (own.insts b ++ i ∷ []) c same in
          let now : HasInstructions g blocks' b (own.insts b ++ i ∷ []) = record {
            zeros = here.zeros;
            in_order = inst_insts_here f b Back shape types loc there ∙ ap (λ xs. xs ++ i ∷ []) here.in_order ∙ append_assoc (insts_of_zeros here.zeros) (own.insts b) (i ∷ []);
            are_zeros = zeros_kept f g blocks blocks' b here.zeros extends here.are_zeros;
          } in
          subst (λ xs. HasInstructions g blocks' c xs) (sym e) (subst (λ d. HasInstructions g blocks' d (own.insts b ++ i ∷ [])) (sym same) now)
      | inr apart ↦
          let e : with_one_more own.insts b i c ≡ own.insts c = updated-other own.insts b (own.insts b ++ i ∷ []) c apart in
          subst (λ xs. HasInstructions g blocks' c xs) (sym e)
          (instructions_kept f g blocks blocks' c (own.insts c) extends (inst_insts_other f b Back shape types loc c there apart) (has c))
    ]

-- the branches that lead to blocks pass as much of the caller's as before
given_still : (own : Own) (f : Body) (s : SsaState) (completing : List Pending) (blocks : Blocks) (b : ℕ) (shape : InstructionData) → Describes own f s completing blocks
    → SameGiven own (with_own own b (length f.insts) shape) s
given_still own f s completing blocks b shape before = record {
  params = λ c. refl;
  passed = λ c i k here.
      ap (λ (passes : ℕ → List BlockArg). length (passes k))
      (updated-other own.passed (length f.insts) (shape_passes shape) i (λ same. absurd (omega (arith, same, (before.leading c i here).0))));
}

owned_counted : (own : Own) (f : Body) (s : SsaState) (blocks blocks' : Blocks) (b : ℕ) (shape : InstructionData) (types : List «Type») (loc : ℕ)
    → Describes own f s [] blocks → ((v : ℕ) → v < length f.values → blocks'.function.definition v ≡ blocks.function.definition v)
    → CountsArguments own f s blocks → CountsArguments (with_own own b (length f.insts) shape) (with_inst f b Back shape types loc) s blocks'
owned_counted own f s blocks blocks' b shape types loc before defined counts =
    counts_given own (with_own own b (length f.insts) shape) (with_inst f b Back shape types loc) s blocks' (given_still own f s [] blocks b shape before)
    (inst_counted own f s [] blocks blocks' b Back shape types loc before defined counts)

-- what an instruction leaves of arms and parameters
pub record InstKept (own : Own) (g : Body) (s : SsaState) (blocks : Blocks) : Type 0 where
  pub arms : Arms g s blocks
  pub order : Ordered own g s [] blocks

inst_kept : (own : Own) (f : Body) (s : SsaState) (blocks blocks' : Blocks) (b : ℕ) (shape : InstructionData) (types : List «Type») (loc : ℕ) → Describes own f s [] blocks
    → Extends f (with_inst f b Back shape types loc) blocks blocks' → ((c : ℕ) → blocks'.count c ≡ blocks.count c) → ((c : ℕ) → blocks'.sealed c ≡ blocks.sealed c)
    → ((arm : Arm) → blocks'.joins arm ≡ blocks.joins arm) → ((v : ℕ) (arm : Arm) → blocks'.function.argument v arm ≡ blocks.function.argument v arm) → KeepsKinds blocks blocks'
    → InstKept (with_own own b (length f.insts) shape) (with_inst f b Back shape types loc) s blocks'
inst_kept own f s blocks blocks' b shape types loc before extends counts sealed joins arguments kinds =
    let g : Body = with_inst f b Back shape types loc in
    let old : Arms f s blocks = arms_of own f s [] blocks before in
    let edges : SameEdges f g s s blocks blocks' = same_edges f g s s blocks blocks' old extends (λ c. refl) (λ c i here. counts (branch_block f i)) in
    record {
      arms =
          arms_kept f g s s blocks blocks' (record { edges = edges; insts_more = extends.insts_more; entry = refl; same_yes = λ c. refl; sealed = sealed; joins = joins }) old;
      order =
          ordered_kept (with_own own b (length f.insts) shape) f g s s [] blocks blocks'
          (record {
            edges = edges;
            passed = same_passed f g s blocks blocks' old extends;
            kinds = kinds;
            params = inst_params f b Back shape types loc;
            homes = inst_param_home f b Back shape types loc;
            entries = λ c. refl;
            arguments = arguments;
          })
          (ordered_given own (with_own own b (length f.insts) shape) f s [] blocks (given_still own f s [] blocks b shape before) (ordered_of own f s [] blocks before));
    }

born_or_complete : {x y : ℕ} → ◌≡◌ {A = Kind} (born x) (complete y) → ⊥
born_or_complete same = cc

born_or_pending : {x y : ℕ} → ◌≡◌ {A = Kind} (born x) (pending y) → ⊥
born_or_pending same = cc

-- what is a complete parameter, or one that waits, was so before names were given
born_kinds : (blocks : Blocks) (place : Place) (names : List ℕ) (v : ℕ) → KeepsKinds blocks (with_all_born blocks place names v)
born_kinds blocks place names v = record {
  complete_before = λ w b is. complete_case w b is (values_cases place blocks.function.definition names v w);
  pending_before = λ w b x is. pending_case w b x is (values_cases place blocks.function.definition names v w);
}
  where
    complete_case : {made_for : ℕ} (w b : ℕ) → all_born place blocks.function.definition names v w ≡ record { home = front b; kind = complete made_for }
        → IsBorn place blocks.function.definition names v w → blocks.function.definition w ≡ record { home = front b; kind = complete made_for }
    complete_case w b is (inl new) = absurd (born_or_complete (ap (λ (d : Definition). d.kind) (sym new.4 ∙ is)))
    complete_case w b is (inr old) = sym old ∙ is

    pending_case : (w b x : ℕ) → all_born place blocks.function.definition names v w ≡ record { home = front b; kind = pending x }
        → IsBorn place blocks.function.definition names v w → blocks.function.definition w ≡ record { home = front b; kind = pending x }
    pending_case w b x is (inl new) = absurd (born_or_pending (ap (λ (d : Definition). d.kind) (sym new.4 ∙ is)))
    pending_case w b x is (inr old) = sym old ∙ is

results_described : (own : Own) (f : Body) (s : SsaState) (blocks : Blocks) (b k : ℕ) (names : List ℕ) (shape : InstructionData) (types : List «Type») (loc : ℕ) → Firm f
    → DescribesSoundly own f s blocks → b < length f.blocks → length names ≡ length types → AreNewNames (state_of blocks) names
    → DescribesSoundly (with_own own b (length f.insts) shape) (with_inst f b Back shape types loc) s (with_all_born blocks (inside b k) names (length f.values))
results_described own f s blocks b k names shape types loc firm both there as_many new =
    let before : Describes own f s [] blocks = both.0 in
    let g : Body = with_inst f b Back shape types loc in
    let own' : Own = with_own own b (length f.insts) shape in
    let z : ℕ = length f.values in
    let place : Place = inside b k in
    let after : Blocks = with_all_born blocks place names z in
    let written : place ≢ start = λ none. (let same : inside b k ≡ start = none in cc) in
    let long : length g.values ≡ z + length types = inst_values_count f b Back shape types loc in
    let below : (j n : ℕ) → slice_get names j ≡ Some n → j < length types = λ j n at. omega (arith, slice_get_within names j n at, as_many) in
    let old_below : (v : ℕ) → v < z → after.function.definition v ≡ blocks.function.definition v = λ v few. born_other place blocks.function.definition names z v few in
    let extends : Extends f g blocks after = inst_extends f b Back shape types loc blocks after old_below in
    let same_end : (v : ℕ) → resolved g v ≡ resolved f v = inst_resolved f b Back shape types loc firm in
    let own_end : (j : ℕ) → resolved f (z + j) ≡ z + j = past_unaliased f in
    let cases : (m : ℕ) → IsNamed place blocks.naming blocks.answer names z m = names_cases place blocks.naming blocks.answer names z in
    let values : (v : ℕ) → IsBorn place blocks.function.definition names z v = values_cases place blocks.function.definition names z in
    let kept : InstKept own' g s after =
    inst_kept own f s blocks after b shape types loc before extends (λ c. refl) (λ c. refl) (λ arm. refl) (λ v arm. refl) (born_kinds blocks place names z) in (
      record {
        sealed = kept.arms.sealed;
        joined = kept.arms.joined;
        entered = kept.arms.entered;
        led = kept.arms.led;
        leading = kept.arms.leading;
        leading_apart = kept.arms.leading_apart;
        entry_free = kept.arms.entry_free;
        resolves = λ v. before.resolves v ∙ sym (same_end v);
        recorded = before.recorded;
        records_exist = λ c x v is. omega (arith, before.records_exist c x v is, long);
        unrecorded = λ c x is. assigns_not_kept blocks after c x refl (λ j. refl) (before.unrecorded c x is);
        unwritten = before.unwritten;
        absent = λ v past.
            elim (values v) [
              | inl now ↦ absurd (omega (arith, past, long, now.3, below now.0 now.1 now.2))
              | inr old ↦ old ∙ before.absent v (omega (arith, past, long))
            ];
        homes = λ v.
            elim (values v) [
              | inl now ↦
                  let at = named_at (state_of blocks) place blocks.naming blocks.answer names z now.0 now.1 new now.2 in
                  let fits : HomeFits after v (born now.1) = (
                    at.0 ∙ ap (λ (d : Definition). record { home = d.home; origin = fresh }) (sym now.4),
                    at.1 ∙ sym now.3,
                    λ none. written (sym (ap (λ (d : Definition). d.home) now.4) ∙ none),
                  ) in
                  subst (λ (d : Definition). HomeFits after v d.kind) (sym now.4) fits
              | inr old ↦ homes_kept blocks after v old (λ c known. known) (λ m given. names_still (state_of blocks) place blocks.answer names z m new given) (before.homes v)
            ];
        answered = λ m given.
            elim (cases m) [
              | inl now ↦ omega (arith, now.3, long, below now.0 m now.1)
              | inr old ↦ omega (arith, old.1, long, before.answered m (λ none. given (ap (λ (j : Naming). j.home) old.0 ∙ none)))
            ];
        born_there = λ m given is_fresh.
            elim (cases m) [
              | inl now ↦ (
                ap after.function.definition now.3 ∙ born_there_at place blocks.function.definition names z now.0 m now.1
                    ∙ ap (λ (j : Naming). record { home = j.home; kind = born m }) (sym now.2),
                ap (λ w. resolved g w) now.3 ∙ same_end (z + now.0) ∙ own_end now.0 ∙ sym now.3,
              )
              | inr old ↦
                  let there : (blocks.naming m).home ≢ start = λ none. given (ap (λ (j : Naming). j.home) old.0 ∙ none) in
                  let was : (blocks.function.definition (blocks.answer m) ≡ record { home = (blocks.naming m).home; kind = born m }) × (resolved f (blocks.answer m) ≡ blocks.answer m) =
                  before.born_there m there (sym (ap (λ (j : Naming). j.origin) old.0) ∙ is_fresh) in (
                    ap after.function.definition old.1 ∙ old_below (blocks.answer m) (before.answered m there) ∙ was.0 ∙ ap (λ (j : Naming). record { home = j.home; kind = born m }) (sym old.0),
                    ap (λ w. resolved g w) old.1 ∙ same_end (blocks.answer m) ∙ was.1 ∙ sym old.1,
                  )
            ];
        waiting = λ c p here.
            let was : IsWaiting f blocks c p = before.waiting c p here in
            waiting_kept f g blocks after c p (inst_param_home f b Back shape types loc p.param) (old_below p.param (waiting_exists f blocks c p was)) was;
        completed = λ p here. absurd (omega (arith, here.1));
        pends = λ v x ends is.
            elim (values v) [
              | inl now ↦ absurd (born_or_pending (sym (ap (λ (d : Definition). d.kind) now.4) ∙ is))
              | inr old ↦ before.pends v x (sym (same_end v) ∙ ends) (sym (ap (λ (d : Definition). d.kind) old) ∙ is)
            ];
        waiting_recorded = before.waiting_recorded;
        complete_there = kept.order.complete_there;
        complete_first = kept.order.complete_first;
        waiting_order = kept.order.waiting_order;
        completing_order = kept.order.completing_order;
        passes = kept.order.passes;
        instructions = own_instructions own f blocks after b shape types loc there extends before.instructions;
      },
      all_born_keeps blocks place names z written new
          (λ j. ap (λ (d : Definition). d.home) (before.absent (z + j) (omega arith)))
          (λ j. before.resolves (z + j) ∙ own_end j) both.1,
      owned_counted own f s blocks after b shape types loc before old_below both.2,
    )

-- new names are new once the block has one item more
new_names_item : (blocks : Blocks) (b : ℕ) (names : List ℕ) → AreNewNames (state_of blocks) names → AreNewNames (state_of (with_item blocks b)) names
new_names_item blocks b [] new = tt
new_names_item blocks b (n ∷ names) new = (new_name_item blocks b n new.0, new.1, new_names_item blocks b names new.2)

pub own_described : (own : Own) (f : Body) (s : SsaState) (blocks : Blocks) (b : ℕ) (names : List ℕ) (shape : InstructionData) (types : List «Type») (loc : ℕ) → Firm f
    → DescribesSoundly own f s blocks → IsOpen f s b → b < length f.blocks → length names ≡ length types → AreNewNames (state_of blocks) names
    → DescribesSoundly (with_own own b (length f.insts) shape) (with_inst f b Back shape types loc) s
    (with_all_born (with_item blocks b) (last_place (with_item blocks b) b) names (length f.values))
own_described own f s blocks b names shape types loc firm both open_block there as_many new =
    results_described own f s (with_item blocks b) b ((with_item blocks b).count b) names shape types loc firm (item_described own f s blocks b both open_block) there as_many
    (new_names_item blocks b names new)
