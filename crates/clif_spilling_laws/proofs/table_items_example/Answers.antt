use Rattle.clif_spilling_laws.proofs.Examples.TableItems.{table_items_example}
use Rattle.clif_spilling_laws.proofs.table_items_example.Goals as goal

pub returns : goal.returns
returns c = table_items_example
