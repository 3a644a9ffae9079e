use Rattle.clif_builder.proofs.TableCalls.{edge_agrees, edge_stands, exceptions_agree, exceptions_stand, table_agrees, table_stands}
use Rattle.clif_builder.proofs.laws.table_calls_add_nothing.Goals as goal

pub returns : goal.returns
returns given = record {
  edge_ledger = λ calls f c position edge number. edge_agrees calls f c position edge number;
  edge = λ signature calls f c position edge number. edge_stands signature calls f c position edge number;
  table_ledger = λ calls f c position default entries number. table_agrees calls f c position default entries number;
  exceptions_ledger = λ calls f c position callee normal items number. exceptions_agree calls f c position callee normal items number;
  exceptions = λ signature calls f c position callee normal items number. exceptions_stand signature calls f c position callee normal items number;
  table = λ signature calls f c position default entries number. table_stands signature calls f c position default entries number;
}
