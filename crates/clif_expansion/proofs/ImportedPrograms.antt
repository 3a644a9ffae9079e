-- Imports keep programs that go with joined ledgers: they put nothing into a block.
use Rattle.std.proofs.Common.{◌≡◌, ◌⊎◌, inl, inr, ℕ, suc, List, [], ◌∷◌, length, refl, sym, ◌∙◌, ap, arith}
use Rattle.std.specs.Prelude.{fold}
use Rattle.clif_tables.specs.Entries.{TableEntry}
use Rattle.clif_meaning.specs.Ledger.{Ledger, ledger_with}
use Rattle.clif_meaning.specs.Name.{Name}
use Rattle.clif_meaning.specs.Program.{Item, Program, with_call}
use Rattle.clif_meaning.specs.Request.{MakeEntry}
use Rattle.clif_expansion.specs.Emission.{importing, ledger_importing, reading_generated, reading_importing}
use Rattle.clif_expansion.specs.Joining.{IsJoined}
use Rattle.clif_expansion.specs.Reading.{Generated, Reading}
use Rattle.clif_expansion.specs.ScriptCall.{with_imports}
use Rattle.clif_expansion.specs.Walk.{IsGenerated}
use Rattle.clif_expansion.proofs.CalledPrograms
use Rattle.clif_expansion.proofs.CalledPrograms.{GoesWith, IsOwnBlock}
use Rattle.clif_expansion.proofs.Imports.{import_joined, import_longer, import_on, read_old}
use Rattle.clif_expansion.proofs.JoinedPrograms.{LastsIn, LastsLater}
use Rattle.clif_expansion.proofs.Joins.{read_either}

module _ (Known : Reading → List Item → Item → Type 0) (lasts : LastsLater Known)
    (Decided : Reading → Program → List Item → Item → Type 0) (lasts_in : LastsIn Decided) (KnownItem : Item → Type 0) where
  abbrev Goes : Reading → Ledger → Ledger → Program → Program → Type 0
  Goes reading ledger' ledger plain program = GoesWith Known lasts Decided lasts_in KnownItem reading ledger' ledger plain program

  -- what is generated is an answer to the import, or was generated before
  generated_then : (reading : Reading) (ledger' : Ledger) (x : Name) → IsGenerated (reading_generated reading ledger') x → (x.place ≡ length ledger'.answers) ⊎ IsGenerated reading x
  generated_then reading ledger' x own = by (read_either reading (length ledger'.answers) (λ index. Generated) x Generated own)
    where
      by : ((x.place ≡ length ledger'.answers) × (Generated ≡ Generated)) ⊎ IsGenerated reading x → (x.place ≡ length ledger'.answers) ⊎ IsGenerated reading x
      by (inl new) = inl new.0
      by (inr old) = inr old

  own_then : (reading : Reading) (ledger' ledger : Ledger) (joined : IsJoined reading ledger' ledger) (plain program : Program) (entry : TableEntry)
      → Goes reading ledger' ledger plain program → (x : Name) → (x.place ≡ length ledger'.answers) ⊎ IsGenerated reading x
      → IsOwnBlock Known lasts Decided lasts_in KnownItem (reading_generated reading ledger') (length ledger.answers) (with_call plain (MakeEntry entry)) program x
  own_then reading ledger' ledger joined plain program entry goes x (inl new) = let bare = goes.bare' x (omega (arith, new)) in (bare.1, inl bare.0)
  own_then reading ledger' ledger joined plain program entry goes x (inr old) =
      CalledPrograms.own_later Known lasts Decided lasts_in KnownItem reading (reading_generated reading ledger') (length ledger.answers) (length ledger.answers)
      (import_on reading ledger' ledger joined entry) plain program goes.cut (with_call plain (MakeEntry entry)) program x (refl, refl)
      (λ block item other switch emitted unread there. there) (goes.own x old)

  import_goes : (reading : Reading) (ledger' ledger : Ledger) (joined : IsJoined reading ledger' ledger) (plain program : Program) (entry : TableEntry)
      → Goes reading ledger' ledger plain program
      → Goes (reading_generated reading ledger') (ledger_with ledger' (MakeEntry entry)) (with_imports (entry ∷ []) ledger) (with_call plain (MakeEntry entry)) program
  import_goes reading ledger' ledger joined plain program entry goes =
      let later : Reading = reading_generated reading ledger' in
      let after : Program = with_call plain (MakeEntry entry) in
      let made : ℕ = length ledger.answers in
      let on = import_on reading ledger' ledger joined entry in
      let more = import_longer ledger' entry in
      let cut = CalledPrograms.cut_in Known lasts Decided lasts_in KnownItem reading later made made on plain program goes.cut after (λ x own. (refl, refl)) (read_old reading ledger') in
      record {
        place' = ap suc goes.place' ∙ sym more;
        place = goes.place;
        same' = goes.same';
        same = goes.same;
        cut = record { entry = cut.entry; parameters = cut.parameters; items = cut.items };
        own = λ x own. own_then reading ledger' ledger joined plain program entry goes x (generated_then reading ledger' x own);
        bare' = λ x behind. goes.bare' x (omega (arith, behind, more));
        bare = goes.bare;
      }

  pub imports_go : (reading : Reading) (ledger' ledger : Ledger) (joined : IsJoined reading ledger' ledger) (plain program : Program) (imports : List TableEntry)
      → Goes reading ledger' ledger plain program
      → Goes (reading_importing reading ledger' imports) (ledger_importing ledger' imports) (with_imports imports ledger) (fold with_call plain (importing imports)) program
  imports_go reading ledger' ledger joined plain program [] goes = goes
  imports_go reading ledger' ledger joined plain program (entry ∷ imports) goes =
      imports_go (reading_generated reading ledger') (ledger_with ledger' (MakeEntry entry)) (with_imports (entry ∷ []) ledger) (import_joined reading ledger' ledger joined entry)
      (with_call plain (MakeEntry entry)) program imports (import_goes reading ledger' ledger joined plain program entry goes)
