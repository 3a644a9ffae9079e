use Rattle.std.proofs.Common.{◌++◌, codes, take}
use Rattle.std.specs.List.{flat_map}
use Rattle.std.specs.Fmt.{HasWritten, IsPlainFormatter}
use Rattle.clif_text.specs.Texts.{argument_text}
use Rattle.clif_text.proofs.writer.PassedTextDisplay.fmt.Given as goal

abbrev pub invariant-loop-passed : goal.invariant-loop-passed
invariant-loop-passed g l =
    IsPlainFormatter l.initial.f → HasWritten g.W.Write.write_str_gives l.initial.f (flat_map (λ one. codes " " ++ argument_text one) (take l.passed-index l.passed-items)) l.f
