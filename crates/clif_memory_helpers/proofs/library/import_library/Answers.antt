-- The signature and then the function are imported.
use Rattle.std.proofs.Common.{ℕ, pos, [], ◌∷◌, refl, subst, arith}
use Rattle.std.specs.Prelude.{Ok, Err}
use Rattle.clif_tables.specs.Entries.{ASignature}
use Rattle.clif_types.specs.Signature.{SignatureShape}
use Rattle.clif_types.specs.declared.types.«Type».TheVariants.{Invalid}
use Rattle.clif_inst_builder.specs.Shapes as shapes
use Rattle.clif_meaning.specs.Request.{MakeEntry}
use Rattle.clif_meaning.specs.Sizes.{made_by_script}
use Rattle.clif_builder.specs.Entries.{MakesEntry}
use Rattle.clif_builder.proofs.Adding.{adds_fewer, refused_adds}
use Rattle.clif_memory_helpers.specs.Helpers.{library_signature}
use Rattle.clif_memory_helpers.specs.Steps.{imports}
use Rattle.clif_memory_helpers.proofs.Chains.{entry_makes}
use Rattle.clif_memory_helpers.proofs.LibraryCalls.{imports_failed, imports_made, imports_signature}
use Rattle.clif_memory_helpers.proofs.Lines.{refused_line}
use Rattle.clif_memory_helpers.proofs.library.import_library.Goals as goal

pub returns-in_default : goal.returns-in_default
returns-in_default g c =
    imports_failed c.ledger_is_read_by_number.ensures c.args.config c.args.callee c.args.bx.now c.refuse.new.self (Err c.refuse.result) c.refuse.result
    (refused_line c.args.bx.now c.refuse.new.self c.refuse.result c.requires.current c.refuse.ensures.refused)
    (refused_adds c.args.bx.now c.refuse.new.self (shapes.unary_imm (pos 0)) Invalid _ c.refuse.result (c.refuse.ensures.refused (shapes.unary_imm (pos 0)) Invalid)) refl

pub returns-in_err-signature : goal.returns-in_err-signature
returns-in_err-signature g c =
    let signature : SignatureShape = library_signature c.args.config c.args.callee in
    let made = entry_makes (ASignature signature) c.args.bx.now c.import_signature.new.self (Err c.in_err-signature.field-0.0) (imports_signature c.ledger_is_read_by_number.ensures c.args.config c.args.callee) c.requires.current
    (subst (λ (s : SignatureShape). MakesEntry (ASignature s) c.args.bx.now c.import_signature.new.self (Err c.in_err-signature.field-0.0)) c.in-Ok.ensures c.in_err-signature.ensures) in
    imports_failed c.ledger_is_read_by_number.ensures c.args.config c.args.callee c.args.bx.now c.import_signature.new.self c.from_residual.result c.in_err-signature.field-0.0 made.line
    (adds_fewer {A = ℕ} (made_by_script (MakeEntry (ASignature signature) ∷ [])) (made_by_script (imports c.args.config c.args.callee c.args.bx.now.func.now.tables)) c.args.bx.now c.import_signature.new.self (Err c.in_err-signature.field-0.0)
    (λ table. omega arith) (made.most 0 [] refl)) c.from_residual.ensures.1

pub returns : goal.returns
returns g c =
    imports_made c.ledger_is_read_by_number.ensures c.args.config c.args.callee c.args.bx.now c.import_signature.new.self c.import_function.new.self c.in_ok-signature.signature c.import_function.result c.requires.current
    (subst (λ (s : SignatureShape). MakesEntry (ASignature s) c.args.bx.now c.import_signature.new.self (Ok c.in_ok-signature.signature)) c.in-Ok.ensures c.in_ok-signature.ensures)
    c.import_function.ensures
