use Rattle.clif_spilling_laws.proofs.Memory.Maps.{each_moved}
use Rattle.clif_spilling_laws.proofs.each_entry_moves.Goals as goal

pub returns : goal.returns
returns c = λ s world moved values w memory places rising have apart h. each_moved s world places moved values w memory rising have apart h
