-- The digits of each number of lanes compute.
use Rattle.std.specs.Fmt.{digits}
use Rattle.clif_words.proofs.types.lanes_named.Goals as goal

pub returns-in-text : goal.returns-in-text
unfolding digits
returns-in-text c = c.in-text.is

pub returns-in-text-2 : goal.returns-in-text-2
unfolding digits
returns-in-text-2 c = c.in-text-2.is

pub returns-in-text-3 : goal.returns-in-text-3
unfolding digits
returns-in-text-3 c = c.in-text-3.is

pub returns-in-text-4 : goal.returns-in-text-4
unfolding digits
returns-in-text-4 c = c.in-text-4.is

pub returns-in-text-5 : goal.returns-in-text-5
unfolding digits
returns-in-text-5 c = c.in-text-5.is

pub returns-in-text-6 : goal.returns-in-text-6
unfolding digits
returns-in-text-6 c = c.in-text-6.is
