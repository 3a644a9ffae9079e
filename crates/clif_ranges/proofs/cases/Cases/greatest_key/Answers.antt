use Rattle.std.proofs.Common.{◌≡◌, sym, ◌∙◌}
use Rattle.std.specs.Prelude.{max}
use Rattle.std.specs.List.{reduce}
use Rattle.std.specs.Map.{keys_of}
use Rattle.std.proofs.lemmas.Iterator.Adapters.{option_map_id}
use Rattle.std.proofs.lemmas.Iterator.Consumers.{max_from_yields_List, YieldsList-from_copied, YieldsList-from_rest}
use Rattle.clif_ranges.proofs.GreatestKey.{keys_below, last_key}
use Rattle.clif_ranges.proofs.cases.Cases.greatest_key.Goals as goal

-- the answer is the greatest of the keys that were put
is_greatest : (c : goal.After-max) → c.max.result ≡ reduce max (keys_of c.self.inside.blocks.entries)
is_greatest c =
    sym (option_map_id c.max.result)
    ∙ max_from_yields_List c.copied.result c.max.result c.max.ensures.ran (YieldsList-from_copied (YieldsList-from_rest (keys_of c.self.inside.blocks.entries) (c.copied.ensures.source ∙ c.keys.ensures.rest)))

pub returns-clause-greatest : goal.returns-clause-greatest
returns-clause-greatest c = rw (← c.self.view_is) (last_key c.self.inside.blocks c.max.result (is_greatest c))

pub returns-clause-above : goal.returns-clause-above
returns-clause-above c = rw (← c.self.view_is) (keys_below c.self.inside.blocks c.max.result (is_greatest c))
