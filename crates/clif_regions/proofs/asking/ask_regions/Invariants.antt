use Rattle.std.proofs.Common.{◌≡◌, ◌≤◌, ◌⊎◌}
use Rattle.clif_regions.proofs.Chains.{IsAskedUpTo}
use Rattle.clif_regions.proofs.asking.ask_regions.Given as goal

abbrev pub invariant-loop-number : goal.invariant-loop-number
invariant-loop-number g l =
    IsAskedUpTo (λ lent ty slot offset r back. (goal.Fn-dyn g).post (l.callback.ask.vtable, l.callback.ask.value) (lent, (ty, (slot, (offset, tt)))) (r, (back, tt))) l.first l.number l.initial.func l.func
    × (l.first ≤ l.number) × ((l.number ≡ l.first) ⊎ (l.number ≤ l.count))
