use Rattle.std.proofs.Common.{◌≡◌, take, map}
use Rattle.std.specs.Prelude.{Some}
use Rattle.clif_resolution.specs.Answers.{item_in}
use Rattle.clif_resolution.proofs.exceptions.items_found.Given as goal

abbrev pub invariant-loop-item : goal.invariant-loop-item
invariant-loop-item l = map (item_in l.func l.answers) (take l.item-index l.items) ≡ map Some l.made.items
