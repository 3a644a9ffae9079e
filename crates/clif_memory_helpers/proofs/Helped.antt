-- What each helper makes, by what its steps make.
use Rattle.std.proofs.Common.{◌≡◌, ◌+◌, ◌-◌, ◌&&◌, ℕ, ℤ, suc, pos, true, false, List, [], ◌∷◌, ◌++◌, length, map, refl, sym, ◌∙◌, ap, subst, arith}
use Rattle.std.specs.Prelude.{nat_le, replicate, Result, Ok, Err, OnOk}
use Rattle.clif_types.specs.MemFlags.{MemFlagsShape}
use Rattle.clif_types.specs.declared.condcodes.IntCC.{IntCC}
use Rattle.clif_types.specs.declared.error.BuildError.{BuildError}
use Rattle.clif_types.specs.declared.error.BuildError.TheVariants.{Failed}
use Rattle.clif_types.specs.declared.libcall.LibCall.{LibCall}
use Rattle.clif_types.specs.declared.libcall.LibCall.TheVariants.{Memcmp, Memset}
use Rattle.clif_types.specs.declared.target.TargetFrontendConfig.{TargetFrontendConfig}
use Rattle.clif_types.specs.declared.types.«Type».{«Type»}
use Rattle.clif_tables.specs.Lists.{TableLists}
use Rattle.clif_access_plans.specs.Constants.{RepeatsByte}
use Rattle.clif_access_plans.specs.Plans.{compare_plan, is_aligned_load, move_plan}
use Rattle.clif_access_plans.specs.declared.comparing.ComparePlan.{ComparePlan}
use Rattle.clif_access_plans.specs.declared.comparing.ComparePlan.TheVariants as compare
use Rattle.clif_access_plans.specs.declared.moving.Accesses.{Accesses}
use Rattle.clif_access_plans.specs.declared.moving.MovePlan.{MovePlan}
use Rattle.clif_access_plans.specs.declared.moving.MovePlan.TheVariants as move
use Rattle.clif_meaning.specs.ByteOperation.{ByteOperation, CallLibrary, CompareBytes, CompareShape, Copy, CopyShape, Fill, FillShape, access_size}
use Rattle.clif_meaning.specs.Instruction.{Iconst}
use Rattle.clif_meaning.specs.Name.{Name, answer_of}
use Rattle.clif_meaning.specs.Request.{Script}
use Rattle.clif_meaning.specs.Sizes.{made_by_script}
use Rattle.clif_expansion.specs.Constants.{computing}
use Rattle.clif_expansion.specs.Emission.{building}
use Rattle.clif_builder.specs.declared.builder.FunctionBuilder.{FunctionBuilder}
use Rattle.clif_builder.specs.Builder.{HasCurrent}
use Rattle.clif_builder.proofs.Adding.{adds_none}
use Rattle.clif_helper_calls.specs.Codes.{copy_flags, fill_flags, flags_where}
use Rattle.clif_helper_calls.specs.LibraryCodes.{copying_function, i8}
use Rattle.clif_helper_calls.specs.PieceStanding.{copy_instructions, fill_instructions, load_instructions, piece_names, store_instructions}
use Rattle.clif_memory_helpers.specs.Helpers.{FillsWith, Helps, compare_calls, helper_calls, moved_by, compared_by, sized_calls}
use Rattle.clif_memory_helpers.specs.Lines.{Makes, Requests, Results, last_result, no_results, no_values, one_value}
use Rattle.clif_memory_helpers.specs.Steps.{compared, compares_known, copied, copies_known, copies_sized, filled, fills_known, fills_sized, third_result}
use Rattle.clif_memory_helpers.proofs.Chains.{makes_as, makes_none}
use Rattle.clif_memory_helpers.proofs.LibraryCalls.{three_names}
use Rattle.clif_memory_helpers.proofs.Lines.{line_failed}
use Rattle.clif_memory_helpers.proofs.Loads.{one_name, two_names}
use Rattle.clif_memory_helpers.proofs.Plans.{accesses_are, condition_is}

moved_is : (plan other : MovePlan) (pieces : Accesses → Script) (call : Script) → plan ≡ other → moved_by other pieces call ≡ moved_by plan pieces call
moved_is plan other pieces call is = ap (λ (p : MovePlan). moved_by p pieces call) (sym is)

compared_is : (plan other : ComparePlan) (constant : ℤ → Script) (loads : «Type» → Script) (call : Script) → plan ≡ other → compared_by other constant loads call ≡ compared_by plan constant loads call
compared_is plan other constant loads call is = ap (λ (p : ComparePlan). compared_by p constant loads call) (sym is)

module _ {R : Type 0} (config : TargetFrontendConfig) (old new : FunctionBuilder R) where
  abbrev tables : TableLists
  tables = old.func.now.tables

  -- the builder had failed
  pub failed_helps : (operation : ByteOperation) (operands : List ℕ) → old.failed ≡ true → Helps config operation operands old old (Err Failed)
  failed_helps operation operands is = record { filling = pos 0; fills = tt; made = record { line = line_failed old is; stands = λ signature calls names stands named. tt; most = λ place names long. adds_none (made_by_script (helper_calls config operation (pos 0) tables place names)) old (Err Failed) } }

  -- SIZES THAT ARE VALUES -----------------------------------------------------------------------------------------------

  module _ (a b c : ℕ) (answer : Result (Unit {0}) BuildError) where
    pub copies_help : (callee : LibCall) → ((place : ℕ) (x y z : Name) → copies_sized config callee tables place (x ∷ y ∷ z ∷ []) ≡ sized_calls config callee tables place x y z)
        → Makes (a ∷ b ∷ c ∷ []) (copies_sized config callee tables) no_results no_values old new answer → OnOk answer (FillsWith (CallLibrary callee) (pos 0))
        → Helps config (CallLibrary callee) (a ∷ b ∷ c ∷ []) old new answer
    copies_help callee same makes fills = record {
      filling = pos 0;
      fills = fills;
      made = makes_as old new (a ∷ b ∷ c ∷ []) _ _ no_values answer makes (helper_calls config (CallLibrary callee) (pos 0) tables) no_results
          (λ place names long. (three_names (λ (ns : List Name). copies_sized config callee tables place ns ≡ helper_calls config (CallLibrary callee) (pos 0) tables place ns) (same place) names long, refl));
    }

    pub sets_help : Makes (a ∷ b ∷ c ∷ []) (fills_sized config tables) no_results no_values old new answer → OnOk answer (FillsWith (CallLibrary Memset) (pos 0)) → Helps config (CallLibrary Memset) (a ∷ b ∷ c ∷ []) old new answer
    sets_help makes fills = record {
      filling = pos 0;
      fills = fills;
      made = makes_as old new (a ∷ b ∷ c ∷ []) _ _ no_values answer makes (helper_calls config (CallLibrary Memset) (pos 0) tables) no_results
          (λ place names long. (three_names (λ (ns : List Name). fills_sized config tables place ns ≡ helper_calls config (CallLibrary Memset) (pos 0) tables place ns) (λ x y z. refl) names long, refl));
    }

  pub compares_answer : (a b c : ℕ) (answer : Result ℕ BuildError) → Makes (a ∷ b ∷ c ∷ []) (copies_sized config Memcmp tables) (last_result (copies_sized config Memcmp tables)) one_value old new answer
      → Makes (a ∷ b ∷ c ∷ []) (helper_calls config (CallLibrary Memcmp) (pos 0) tables) (last_result (helper_calls config (CallLibrary Memcmp) (pos 0) tables)) one_value old new answer
  compares_answer a b c answer makes =
      makes_as old new (a ∷ b ∷ c ∷ []) _ _ one_value answer makes _ _
      (λ place names long. three_names (λ (ns : List Name). (copies_sized config Memcmp tables place ns ≡ helper_calls config (CallLibrary Memcmp) (pos 0) tables place ns)
      × (last_result (copies_sized config Memcmp tables) place ns ≡ last_result (helper_calls config (CallLibrary Memcmp) (pos 0) tables) place ns)) (λ x y z. (refl, refl)) names long)

  -- COPIES --------------------------------------------------------------------------------------------------------------

  module _ (copy : CopyShape) (target source : ℕ) where
    abbrev IsCopy : Requests → ℕ → List Name → Type 0
    IsCopy made place names = made place names ≡ helper_calls config (Copy copy) (pos 0) tables place names

    pub copy_nothing : move_plan copy.size ≡ move.Nothing → old.failed ≡ false → HasCurrent old → Helps config (Copy copy) (target ∷ source ∷ []) old old (Ok tt)
    copy_nothing is sound current = record {
      filling = pos 0;
      fills = tt;
      made = makes_as old old (target ∷ source ∷ []) _ _ no_values (Ok tt) (makes_none old (target ∷ source ∷ []) tt no_values refl sound current) (helper_calls config (Copy copy) (pos 0) tables) no_results
          (λ place names long. (two_names (IsCopy (λ p ns. []) place) (λ x y. moved_is (move_plan copy.size) move.Nothing _ _ is) names long, refl));
    }

    pub copy_inline : (accesses : Accesses) (flags : MemFlagsShape) (answer : Result (Unit {0}) BuildError) → move_plan copy.size ≡ move.Inline accesses
        → flags ≡ flags_where copy.flags (nat_le accesses.bytes copy.target_alignment && nat_le accesses.bytes copy.source_alignment)
        → Makes (target ∷ source ∷ []) (copied accesses flags) no_results no_values old new answer → OnOk answer (FillsWith (Copy copy) (pos 0)) → Helps config (Copy copy) (target ∷ source ∷ []) old new answer
    copy_inline accesses flags answer is aligned makes fills = record {
      filling = pos 0;
      fills = fills;
      made = makes_as old new (target ∷ source ∷ []) _ _ no_values answer makes (helper_calls config (Copy copy) (pos 0) tables) no_results
          (λ place names long. (two_names (IsCopy (copied accesses flags) place) (λ x y. pieces place x y ∙ moved_is (move_plan copy.size) (move.Inline accesses) _ _ is) names long, refl));
    }
      where
        bytes : accesses.bytes ≡ access_size copy.size
        bytes = (accesses_are copy.size accesses is).3

        flags_are : flags ≡ copy_flags copy
        flags_are = aligned ∙ ap (λ (b : ℕ). flags_where copy.flags (nat_le b copy.target_alignment && nat_le b copy.source_alignment)) bytes

        pieces : (place : ℕ) (x y : Name) → copied accesses flags place (x ∷ y ∷ []) ≡ map building (copy_instructions copy accesses.ty x y place accesses.count)
        pieces place x y =
            ap (λ (f : MemFlagsShape). copied accesses f place (x ∷ y ∷ [])) flags_are
            ∙ ap (λ (b : ℕ). map building (load_instructions (copy_flags copy) accesses.ty b y 0 accesses.count ++ store_instructions (copy_flags copy) accesses.ty b x 0 (piece_names place accesses.count))) bytes

    pub copy_called : (callee : LibCall) (answer : Result (Unit {0}) BuildError) → move_plan copy.size ≡ move.LibraryCall → callee ≡ copying_function copy.no_overlap
        → Makes (target ∷ source ∷ []) (copies_known config callee copy.size tables) no_results no_values old new answer → OnOk answer (FillsWith (Copy copy) (pos 0)) → Helps config (Copy copy) (target ∷ source ∷ []) old new answer
    copy_called callee answer is same makes fills = record {
      filling = pos 0;
      fills = fills;
      made = makes_as old new (target ∷ source ∷ []) _ _ no_values answer makes (helper_calls config (Copy copy) (pos 0) tables) no_results
          (λ place names long. (
            two_names (IsCopy (copies_known config callee copy.size tables) place)
                (λ x y. ap (λ (function : LibCall). copies_known config function copy.size tables place (x ∷ y ∷ [])) same ∙ moved_is (move_plan copy.size) move.LibraryCall _ _ is) names long,
            refl,
          ));
    }

  -- FILLS ---------------------------------------------------------------------------------------------------------------

  module _ (fill : FillShape) (target : ℕ) where
    abbrev IsFill : ℤ → Requests → ℕ → List Name → Type 0
    IsFill filling made place names = made place names ≡ helper_calls config (Fill fill) filling tables place names

    pub fill_nothing : move_plan fill.size ≡ move.Nothing → old.failed ≡ false → HasCurrent old → Helps config (Fill fill) (target ∷ []) old old (Ok tt)
    fill_nothing is sound current = record {
      filling = pos 0;
      fills = λ accesses inline. absurd (let both : move.Nothing ≡ move.Inline accesses = sym is ∙ inline in cc);
      made = makes_as old old (target ∷ []) _ _ no_values (Ok tt) (makes_none old (target ∷ []) tt no_values refl sound current) (helper_calls config (Fill fill) (pos 0) tables) no_results
          (λ place names long. (one_name (IsFill (pos 0) (λ p ns. []) place) (λ x. moved_is (move_plan fill.size) move.Nothing _ _ is) names long, refl));
    }

    pub fill_inline : (accesses : Accesses) (flags : MemFlagsShape) (filling : ℤ) (answer : Result (Unit {0}) BuildError) → move_plan fill.size ≡ move.Inline accesses
        → flags ≡ flags_where fill.flags (nat_le accesses.bytes fill.alignment) → RepeatsByte accesses.ty fill.byte filling
        → Makes (target ∷ []) (filled accesses flags filling) no_results no_values old new answer → Helps config (Fill fill) (target ∷ []) old new answer
    fill_inline accesses flags filling answer is aligned repeats makes = record {
      filling = filling;
      fills = on_ok answer;
      made = makes_as old new (target ∷ []) _ _ no_values answer makes (helper_calls config (Fill fill) filling tables) no_results
          (λ place names long. (one_name (IsFill filling (filled accesses flags filling) place) (λ x. pieces place x ∙ moved_is (move_plan fill.size) (move.Inline accesses) _ _ is) names long, refl));
    }
      where
        on_ok : (r : Result (Unit {0}) BuildError) → OnOk r (FillsWith (Fill fill) filling)
        on_ok (Err e) = tt
        on_ok (Ok done) = λ others inline. let same : move.Inline accesses ≡ move.Inline others = sym is ∙ inline in let one : accesses ≡ others = cc in subst (λ (a : Accesses). RepeatsByte a.ty fill.byte filling) one repeats

        bytes : accesses.bytes ≡ access_size fill.size
        bytes = (accesses_are fill.size accesses is).3

        flags_are : flags ≡ fill_flags fill
        flags_are = aligned ∙ ap (λ (b : ℕ). flags_where fill.flags (nat_le b fill.alignment)) bytes

        pieces : (place : ℕ) (x : Name) → filled accesses flags filling place (x ∷ []) ≡ map building (fill_instructions fill accesses.ty filling x place accesses.count)
        pieces place x =
            ap (λ (f : MemFlagsShape). filled accesses f filling place (x ∷ [])) flags_are
            ∙ ap (λ (b : ℕ). map building (computing (Iconst filling) accesses.ty [] ∷ store_instructions (fill_flags fill) accesses.ty b x 0 (replicate accesses.count (answer_of place 1)))) bytes

    pub fill_called : (answer : Result (Unit {0}) BuildError) → move_plan fill.size ≡ move.LibraryCall → Makes (target ∷ []) (fills_known config fill.byte fill.size tables) no_results no_values old new answer
        → Helps config (Fill fill) (target ∷ []) old new answer
    fill_called answer is makes = record {
      filling = pos 0;
      fills = on_ok answer;
      made = makes_as old new (target ∷ []) _ _ no_values answer makes (helper_calls config (Fill fill) (pos 0) tables) no_results
          (λ place names long. (one_name (IsFill (pos 0) (fills_known config fill.byte fill.size tables) place) (λ x. moved_is (move_plan fill.size) move.LibraryCall _ _ is) names long, refl));
    }
      where
        on_ok : (r : Result (Unit {0}) BuildError) → OnOk r (FillsWith (Fill fill) (pos 0))
        on_ok (Err e) = tt
        on_ok (Ok done) = λ others inline. absurd (let both : move.LibraryCall ≡ move.Inline others = sym is ∙ inline in cc)

  -- COMPARISONS ---------------------------------------------------------------------------------------------------------

  module _ (shape : CompareShape) (left right : ℕ) (answer : Result ℕ BuildError) where
    abbrev Compares : Type 0
    Compares = Makes (left ∷ right ∷ []) (helper_calls config (CompareBytes shape) (pos 0) tables) (last_result (helper_calls config (CompareBytes shape) (pos 0) tables)) one_value old new answer

    abbrev IsCompare : Requests → Results → ℕ → List Name → Type 0
    IsCompare made results place names =
        (made place names ≡ helper_calls config (CompareBytes shape) (pos 0) tables place names) × (results place names ≡ last_result (helper_calls config (CompareBytes shape) (pos 0) tables) place names)

    -- the same calls, and the last one's result
    as_made : (made : Requests) (results : Results) → ((place : ℕ) (x y : Name) → made place (x ∷ y ∷ []) ≡ compare_calls config shape tables place x y)
        → ((place : ℕ) (x y : Name) → results place (x ∷ y ∷ []) ≡ last_result made place (x ∷ y ∷ [])) → Makes (left ∷ right ∷ []) made results one_value old new answer → Compares
    as_made made results same last makes =
        makes_as old new (left ∷ right ∷ []) made results one_value answer makes _ _
        (λ place names long. two_names (IsCompare made results place)
        (λ x y. (same place x y, last place x y ∙ ap (λ (s : Script). answer_of (place + length s - 1) 1 ∷ []) (same place x y))) names long)

    pub compare_constant : (number : ℤ) → compare_plan shape.condition shape.size ≡ compare.Constant number
        → Makes (left ∷ right ∷ []) (λ place names. building (computing (Iconst number) i8 []) ∷ []) (λ place names. answer_of place 1 ∷ []) one_value old new answer → Compares
    compare_constant number is makes =
        as_made (λ place names. building (computing (Iconst number) i8 []) ∷ []) (λ place names. answer_of place 1 ∷ []) (λ place x y. compared_is (compare_plan shape.condition shape.size) (compare.Constant number) _ _ _ is)
        (λ place x y. let here : place ≡ place + 1 - 1 = omega arith in ap (λ (k : ℕ). answer_of k 1 ∷ []) here) makes

    pub compare_inline : (ty : «Type») (left_flags right_flags : MemFlagsShape) → compare_plan shape.condition shape.size ≡ compare.Inline ty
        → left_flags ≡ flags_where shape.flags (is_aligned_load shape.condition shape.size shape.left_alignment) → right_flags ≡ flags_where shape.flags (is_aligned_load shape.condition shape.size shape.right_alignment)
        → Makes (left ∷ right ∷ []) (compared shape.condition ty left_flags right_flags) third_result one_value old new answer → Compares
    compare_inline ty left_flags right_flags is on_left on_right makes =
        as_made (compared shape.condition ty left_flags right_flags) third_result
        (λ place x y. ap (λ (f : MemFlagsShape). compared shape.condition ty f right_flags place (x ∷ y ∷ [])) on_left
        ∙ ap (λ (f : MemFlagsShape). compared shape.condition ty (flags_where shape.flags (is_aligned_load shape.condition shape.size shape.left_alignment)) f place (x ∷ y ∷ [])) on_right
        ∙ compared_is (compare_plan shape.condition shape.size) (compare.Inline ty) _ _ _ is)
        (λ place x y. let here : suc (suc place) ≡ place + 3 - 1 = omega arith in ap (λ (k : ℕ). answer_of k 1 ∷ []) here) makes

    pub compare_called : (condition : IntCC) → compare_plan shape.condition shape.size ≡ compare.LibraryCall condition
        → Makes (left ∷ right ∷ []) (compares_known config condition shape.size tables) (last_result (compares_known config condition shape.size tables)) one_value old new answer → Compares
    compare_called condition is makes =
        as_made (compares_known config condition shape.size tables) (last_result (compares_known config condition shape.size tables))
        (λ place x y. ap (λ (c : IntCC). compares_known config c shape.size tables place (x ∷ y ∷ [])) (condition_is shape.condition shape.size condition is) ∙ compared_is (compare_plan shape.condition shape.size) (compare.LibraryCall condition) _ _ _ is)
        (λ place x y. refl) makes

pub always : {A : Type 0} (r : Result A BuildError) (P : Type 0) → P → OnOk r P
always (Ok a) P p = p
always (Err e) P p = tt
