-- An exception table is taken from a function.
use Rattle.std.proofs.Common.{◌≡◌, ℕ, length, refl, ap, sym, subst, arith}
use Rattle.std.specs.Prelude.{Some, Ok}
use Rattle.clif_instructions.specs.ExceptionTables.{ExceptionShape}
use Rattle.clif_tables.specs.Lists.{with_exception_table_served}
use Rattle.clif_ir.specs.Body.{Body}
use Rattle.clif_ir.specs.Changes.{with_tables}
use Rattle.clif_ir.specs.Consistent.{EdgeExists, EntryExists, ValueExists}
use Rattle.clif_ir.proofs.KeepsTables.{entry_stays}
use Rattle.clif_inst_builder.specs.Served.{CanServe, exception_tables, unserved_in}
use Rattle.clif_cursor.specs.declared.cursor.FuncCursor.{FuncCursor}
use Rattle.clif_cursor.specs.Cursor.{IsOpen, IsThere, Takes}

-- what an instruction may name of a function
abbrev CanBeNamed : Body → ExceptionShape → Type 0
CanBeNamed f = exception_tables.CanBeNamed (EdgeExists f) (ValueExists f) (EntryExists f.tables)

-- the function with the table taken
abbrev without : Body → ℕ → Body
without f table = with_tables f (with_exception_table_served f.tables table)

-- what the table held may be named afterwards
named_without : (f : Body) (table : ℕ) (held : ExceptionShape) → unserved_in exception_tables f.tables table ≡ Some held
    → CanServe exception_tables f.tables (EdgeExists f) (ValueExists f) (EntryExists f.tables) table → CanBeNamed (without f table) held
named_without f table held found (other, is, named) =
    let same : other ≡ held = cc in
    subst (CanBeNamed f) same named

pub exception_taken : (old new : FuncCursor) (table : ℕ) (held : ExceptionShape) → IsThere old new → new.func.now ≡ without old.func.now table
    → unserved_in exception_tables old.func.now.tables table ≡ Some held → Takes exception_tables old new table (Ok held)
exception_taken old new table held there made found =
    record {
      there = there;
      function = made;
      held = found;
      can_be_named = λ serves. subst (λ (g : Body). CanBeNamed g held) (sym made) (named_without f table held found serves);
      current = λ was.
          subst (λ (g : Body). IsOpen g new.block) (sym made)
          (subst (IsOpen (without f table)) (sym there.block) (record { exists = was.exists; unfilled = was.unfilled }));
      same_values = ap (λ (g : Body). length g.values) made;
      entries = λ entry here.
          subst (λ (g : Body). EntryExists g.tables entry) (sym made)
          (entry_stays f.tables (without f table).tables (omega arith) (omega arith) (omega arith) (omega arith) entry here);
      never_err = refl;
    }
  where
    f : Body
    f = old.func.now
