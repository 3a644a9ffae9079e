use Rattle.std.proofs.Common.{◌≡◌, ◌<◌, ◌≤◌, ℕ, true, [], length}
use Rattle.clif_paths.specs.Blocks.{Blocks}
use Rattle.clif_ssa.specs.Own.{Own}
use Rattle.clif_ssa.specs.Counted.{CountsFor, WaitsBelow}
use Rattle.clif_ssa.specs.Constructs.{TellsMore}
use Rattle.clif_ssa.specs.Sealing.{SealsBelow}
use Rattle.clif_ssa.specs.Sound.{Keeps, SparesIfEntry}
use Rattle.clif_ssa.specs.SoundLaws.{DescribesSoundly}
use Rattle.clif_records.specs.Tables.{is_yes}
use Rattle.clif_ssa.specs.Ssa.{sealed_of, Named, NamesExist}
use Rattle.clif_ssa.specs.Steps.{SealAllKeeps}
use Rattle.clif_ssa.specs.Structure.{Remembers}
use Rattle.clif_ssa.specs.Structured.{Structured, VariableTypes}
use Rattle.clif_ssa.specs.Pools.{MayPoolWaiting}
use Rattle.clif_ssa.proofs.SealPools.{WaitsAsFirst}
use Rattle.clif_ssa.proofs.ssa.SSABuilder.seal_all_blocks.Given as goal

abbrev pub invariant-loop-number : goal.invariant-loop-number
invariant-loop-number l = record {
  sealed : (b : ℕ) → b < l.number → is_yes (sealed_of l.self b) ≡ true;
  sealed_stays : (b : ℕ) → is_yes (sealed_of l.initial.self b) ≡ true → is_yes (sealed_of l.self b) ≡ true;
  others : (b : ℕ) → length l.initial.func.blocks ≤ b → is_yes (sealed_of l.self b) ≡ is_yes (sealed_of l.initial.self b);
  in_turn : SealsBelow l.initial.func l.initial.self l.number l.func l.self l.side_effects.instructions_added_to_blocks.items;
  named : Named l.func l.self;
  leaves : SealAllKeeps l.initial.func l.initial.self l.func l.self;
  counts : CountsFor (λ variables. WaitsBelow variables l.initial.self) 0 l.initial.func l.initial.self 0 l.func l.self;
  keeps : (own : Own) (tables : Blocks) → ((b : ℕ) → b < length l.initial.func.blocks → SparesIfEntry l.initial.func l.initial.self b) → DescribesSoundly own l.initial.func l.initial.self tables → Keeps own tables l.func l.self;
  pools : NamesExist l.initial.func l.initial.self → MayPoolWaiting l.initial.func l.initial.self l.func.tables;
  waits : NamesExist l.initial.func l.initial.self → WaitsAsFirst l.initial.func l.initial.self l.func l.self;
  tells : TellsMore l.initial.func l.func l.initial.side_effects.instructions_added_to_blocks.items l.side_effects.instructions_added_to_blocks.items;
  remembers : (x b : ℕ) → Remembers x b l.initial.func l.initial.self l.func l.self;
  structured : (types : VariableTypes) (own : Own) → Structured types own l.initial.func l.initial.self [] → Structured types own l.func l.self [];
}
