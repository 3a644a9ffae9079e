use Rattle.std.proofs.Common.{◌++◌, codes, take}
use Rattle.std.specs.List.{flat_map}
use Rattle.std.specs.Fmt.{HasWritten, IsPlainFormatter}
use Rattle.clif_text.specs.Texts.{item_text}
use Rattle.clif_text.proofs.writer.ItemsTextDisplay.fmt.Given as goal

abbrev pub invariant-loop-one : goal.invariant-loop-one
invariant-loop-one g l =
    IsPlainFormatter l.initial.f → HasWritten g.W.Write.write_str_gives l.initial.f (flat_map (λ one. codes " " ++ item_text one) (take l.one-index l.one-items)) l.f
