use mathlib.Core.Logic.{∥∥₁_map}
use Rattle.clif_builder.proofs.instructions.FunctionBuilderInstBuilderBase.refuse.Goals as goal

pub invariant_of-self : goal.invariant_of-self
invariant_of-self g c = record { named = ∥∥₁_map c.args.self.now.named (λ k. record { names = k.names; in_order = λ fine. let no_way : ⊥ = cc in absurd no_way; fits_maps = λ fine. let no_way : ⊥ = cc in absurd no_way }) }
