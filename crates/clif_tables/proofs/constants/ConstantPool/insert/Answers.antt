use Rattle.std.proofs.Common.{◌≡◌, rules, subst, ◌∷◌, [], ◌++◌}
use Rattle.clif_tables.specs.Constants.{IsIndexed}
use Rattle.clif_tables.proofs.Pooling.{one_more}
use Rattle.clif_tables.proofs.constants.ConstantPool.insert.Goals as goal

pub invariant_of-self-2 : goal.invariant_of-self-2
invariant_of-self-2 c =
    let pushed : c.self.inside.constants.items ++ c.in_ok-key.key.items ∷ [] ≡ c.push_reserved.new.self.items = search rules in
    subst (λ constants. IsIndexed constants c.insert.new.self) pushed
    (one_more c.self.inside.constants.items c.self.inside.numbers c.insert.new.self c.in_ok-key.key c.from_u32-constant.result c.self.invariant (search rules) (search rules) (search rules) c.in_ok-insert.ensures.updates)
