use Rattle.clif_builder.proofs.TableCalls.{note_agrees, note_stands}
use Rattle.clif_builder.proofs.laws.notes_add_nothing.Goals as goal

pub returns : goal.returns
returns given = record {
  ledger = λ calls f c position inside values. note_agrees calls f c position inside values;
  stands = λ signature calls f c position inside values. note_stands signature calls f c position inside values;
}
