-- The program of calls without those that seal is that of the calls, renamed.
use Rattle.std.proofs.Common.{◌≡◌, ℕ, suc, true, List, refl, None, inl}
use Rattle.std.proofs.lemmas.Bool.{false≢true}
use Rattle.std.specs.Prelude.{map}
use Rattle.clif_meaning.specs.Instruction.{Instruction, Operation, Switch}
use Rattle.clif_meaning.specs.Name.{Name, answer_of}
use Rattle.clif_meaning.specs.Program.{Program, empty_program, with_inserted, with_item}
use Rattle.clif_expansion.specs.ScriptCall.{Ask, Emit, ScriptCall, emitted_item, emitted_types, program_behind, program_of_calls, program_with_call}
use Rattle.clif_renaming.specs.CallsSealing.{counted_as, renamed_call, unsealed_calls}
use Rattle.clif_renaming.specs.Renaming.{IsRenamedProgram, KeepsApart, renamed_instruction}
use Rattle.clif_renaming.specs.Sealing.{name_left}
use Rattle.clif_renaming.proofs.Images.{HasImages, IsBareElsewhere, images_after, inserted_images, item_images}
use Rattle.clif_renaming.proofs.Places.{follows_at_first, names_apart}
use Rattle.clif_renaming.proofs.Programs as programs
use Rattle.clif_renaming.proofs.Programs.{IsRenamedSoFar, answers_renamed, inserted, item_more, placed}
use Rattle.clif_sealing_laws.proofs.calls.Along.{agree_along, seals}

-- The second program is the first one renamed, and has items and parameters in blocks with renamed names alone.
pub record ProgramsAgree (rename : Name → Name) (p p' : Program) : Type 0 where
  pub renamed : IsRenamedSoFar rename p p'
  pub images : HasImages rename p'

-- so it is behind an instruction, after which there may be no current block
behind_renamed : (rename : Name → Name) (operation : Operation) (p p' : Program) → IsRenamedSoFar rename p p' → IsRenamedSoFar rename (program_behind operation p) (program_behind operation p')
behind_renamed rename (Switch keys) p p' is = record { current = refl; program = record { entry = is.program.entry; parameters = is.program.parameters; items = is.program.items }; places = is.places }
behind_renamed rename _ p p' is = is

behind_images : (rename : Name → Name) (operation : Operation) (p : Program) → HasImages rename p → HasImages rename (program_behind operation p)
behind_images rename (Switch keys) p has = record { current = (None, refl); blocks = has.blocks }
behind_images rename _ p has = has

module _ (rename : Name → Name) (apart : KeepsApart rename) where
  emitted_both : (p p' : Program) (instruction : Instruction Name Name) → ((index : ℕ) → rename (answer_of p.place index) ≡ answer_of p'.place index) → IsRenamedSoFar rename p p'
      → IsRenamedSoFar rename (with_item (with_inserted p) (emitted_item p.place instruction)) (with_item (with_inserted p') (emitted_item p'.place (renamed_instruction rename instruction)))
  emitted_both p p' instruction at is =
      item_more rename apart (with_inserted p) (with_inserted p') (emitted_item p.place instruction) (emitted_item p'.place (renamed_instruction rename instruction))
      (inserted rename apart p p' is) (refl, answers_renamed rename apart p.place p'.place at 0 (emitted_types instruction)) (at 0)

  program_behind_seal : (p p' : Program) (call : ScriptCall) → seals call ≡ true → ProgramsAgree rename p p' → ProgramsAgree rename (program_with_call p call) p'
  program_behind_seal p p' (Ask request) is agree = record { renamed = programs.behind_seal rename apart p p' request is agree.renamed; images = agree.images }
  program_behind_seal p p' (Emit imports instruction) is agree = absurd (false≢true is)

  programs_after : (p p' : Program) (call : ScriptCall) → ((index : ℕ) → rename (answer_of p.place index) ≡ answer_of p'.place index)
      → ProgramsAgree rename p p' → ProgramsAgree rename (program_with_call p call) (program_with_call p' (renamed_call rename call))
  programs_after p p' (Ask request) at agree = record {
    renamed = programs.both_after rename apart p p' request agree.renamed at;
    images = images_after rename p' request agree.images;
  }
  programs_after p p' (Emit imports instruction) at agree =
      let q = with_item (with_inserted p) (emitted_item p.place instruction) in
      let q' = with_item (with_inserted p') (emitted_item p'.place (renamed_instruction rename instruction)) in
      let behind = behind_renamed rename instruction.operation q q' (emitted_both p p' instruction at agree.renamed) in
      let images = behind_images rename instruction.operation q' (item_images rename (with_inserted p') _ (inserted_images rename p' agree.images)) in
      record {
        renamed = placed rename apart (program_behind instruction.operation q) (program_behind instruction.operation q') (suc p.place) (suc p'.place) behind;
        images = record { current = images.current; blocks = images.blocks };
      }

one_place_more : (p : Program) (call : ScriptCall) → (program_with_call p call).place ≡ suc p.place
one_place_more p (Ask request) = refl
one_place_more p (Emit imports instruction) = refl

unsealed_programs : (calls : List ScriptCall) → ProgramsAgree (name_left (map counted_as calls)) (program_of_calls calls) (program_of_calls (unsealed_calls calls))
unsealed_programs calls =
    let script = map counted_as calls in
    agree_along program_with_call (λ (p : Program). p.place) (ProgramsAgree (name_left script)) (name_left script) one_place_more
    (program_behind_seal (name_left script) (names_apart script)) (programs_after (name_left script) (names_apart script)) calls empty_program empty_program
    (record {
      renamed = record { current = refl; program = record { entry = refl; parameters = λ block. refl; items = λ block. tt }; places = λ block. tt };
      images = record { current = (None, refl); blocks = λ block. inl (refl, refl) };
    })
    (follows_at_first script)

pub unsealed_calls_program : (calls : List ScriptCall) → IsRenamedProgram (name_left (map counted_as calls)) (program_of_calls calls) (program_of_calls (unsealed_calls calls))
unsealed_calls_program calls = (unsealed_programs calls).renamed.program

pub bare_elsewhere_in_calls : (calls : List ScriptCall) → IsBareElsewhere (name_left (map counted_as calls)) (program_of_calls (unsealed_calls calls))
bare_elsewhere_in_calls calls = (unsealed_programs calls).images.blocks
