-- All parameters that waited in a block are completed in turn, and so a block is sealed.
use Rattle.std.proofs.Common.{◌≡◌, ◌≢◌, ℕ, true, false, Bool, List, [], ◌∷◌, refl, ap, sym, ◌∙◌, subst}
use Rattle.std.specs.Prelude.{Option, Some, None, Contains}
use Rattle.clif_ir.specs.Body.{Body, value_at}
use Rattle.clif_ir.specs.Consistent.{IsConsistent}
use Rattle.clif_ir.specs.Reading.{param_home}
use Rattle.clif_paths.specs.Places.{Edges}
use Rattle.clif_paths.specs.Blocks.{Blocks}
use Rattle.clif_paths.specs.BlockLaws.{BlocksSound}
use Rattle.clif_records.specs.declared.tables.Pending.{Pending}
use Rattle.clif_ssa.specs.Own.{Own}
use Rattle.clif_records.specs.Tables.{is_yes, pending_of}
use Rattle.clif_ssa.specs.Ssa.{SsaState, record_of, sealed_of, SameRecords, SamePredecessors, Seals}
use Rattle.clif_records.specs.Stacks.{LookUpState}
use Rattle.clif_ssa.specs.LookUp.{Stage}
use Rattle.clif_ssa.specs.Running.{CompletesAll}
use Rattle.clif_ssa.specs.Sound.{Describes, CountsArguments, SameProgram, KeepsParameters, Keeps, SparesIfEntry}
use Rattle.clif_ssa.specs.SoundLaws.{DescribesSoundly, with_seal, arms_into}
use Rattle.clif_ssa.proofs.Bodies.{Firm, firm_from}
use Rattle.clif_ssa.proofs.Housing.{Housed, housed_from}
use Rattle.clif_ssa.proofs.Ordering.{contains_first, contains_more, none_contained}
use Rattle.clif_ssa.proofs.Completing.{same_program, same_program_then}
use Rattle.clif_ssa.proofs.Sealing.{seal_described}
use Rattle.clif_ssa.proofs.Counts.{counts_kept}
use Rattle.clif_ssa.proofs.KeptParameters.{itself_parameters, parameters_then, seal_parameters}
use Rattle.clif_ssa.proofs.Framing.{BranchesStand, HomesRecorded, since_self, since_then}
use Rattle.clif_ssa.proofs.Looking.{recorded_stays}
use Rattle.clif_ssa.proofs.Machine.{Completes, completes_keeps, branches_stand}

-- each of these parameters is one of the block, where its variable is recorded
pub record AllWait (f : Body) (s : SsaState) (block : ℕ) (waiting : List Pending) : Type 0 where
  pub home : (p : Pending) → Contains waiting p → param_home f p.param ≡ Some block
  pub recorded : (p : Pending) → Contains waiting p → record_of s p.variable block ≢ None

same_some : {x y : ℕ} → ◌≡◌ {A = Option ℕ} (Some x) (Some y) → x ≡ y
same_some same = cc

-- parameters of one block are completed in turn
pub completes_all : (own : Own) (block : ℕ) (waiting : List Pending) (tables : Blocks) (m n : Stage)
    → m.look_up.calls ≡ [] → m.look_up.results ≡ [] → Firm m.function → Housed m.function → BranchesStand m.function m.state
    → Describes own m.function m.state waiting tables → CountsArguments own m.function m.state tables → BlocksSound tables
    → AllWait m.function m.state block waiting → CompletesAll block waiting m n → Completes own tables [] m n
completes_all own block [] tables m n calls results firm housed stand before counts sound wait same = subst (Completes own tables [] m) (sym same) (record {
  tables = tables;
  describes = before;
  sound = sound;
  same = same_program tables;
  counts = counts;
  parameters = itself_parameters tables m.state m.state before.recorded (λ v b. refl);
  firm = firm;
  housed = housed;
  stand = stand;
  since = since_self m.function m.state;
  homes = λ p here. refl;
  calls = calls;
  results = results;
})
completes_all own block (p ∷ ps) tables m n calls results firm housed stand before counts sound wait all =
    let k : Stage = all.0 in
    let homes : HomesRecorded m.function m.state p.variable (p ∷ ps) =
    λ q b here is none.
    let at : block ≡ b = same_some (sym (wait.home q here) ∙ is) in
    wait.recorded p (contains_first p ps) (ap (λ d. record_of m.state p.variable d) at ∙ none) in
    let first : Completes own tables ps m k =
    completes_keeps own tables p.variable (value_at m.function p.param).ty p.param block ps m k calls results firm housed stand before counts sound (wait.home p (contains_first p ps)) homes all.1 in
    let wait_still : AllWait k.function k.state block ps = record {
      home = λ q here. first.homes q here ∙ wait.home q (contains_more p ps q here);
      recorded = λ q here. recorded_stays m.state k.state q.variable block first.since.stay (wait.recorded q (contains_more p ps q here));
    } in
    let others : Completes own first.tables [] k n =
    completes_all own block ps first.tables k n first.calls first.results first.firm first.housed first.stand first.describes first.counts first.sound wait_still all.2 in
    record {
      tables = others.tables;
      describes = others.describes;
      sound = others.sound;
      same = same_program_then tables first.tables others.tables first.same others.same;
      counts = others.counts;
      parameters = parameters_then tables first.tables others.tables k.state n.state first.describes.recorded others.since.stay first.parameters others.parameters;
      firm = others.firm;
      housed = others.housed;
      stand = others.stand;
      since = since_then m.function m.state k.function k.state n.function n.state first.since others.since;
      homes = λ q here. absurd (none_contained q here);
      calls = others.calls;
      results = others.results;
    }

-- what sealing makes of what edges pass
pub seal_counted : (own : Own) (f : Body) (s t : SsaState) (layout : List ℕ) (was : Bool) (b : ℕ) (into : Edges) (tables : Blocks) → CountsArguments own f s tables → SamePredecessors s t
    → CountsArguments own f t (with_seal layout was b into tables)
seal_counted own f s t [] was b into tables counts same = counts_kept own f s t tables tables counts same (λ v. refl)
seal_counted own f s t (entry ∷ layout) true b into tables counts same = counts_kept own f s t tables tables counts same (λ v. refl)
seal_counted own f s t (entry ∷ layout) false b into tables counts same = counts_kept own f s t tables (with_seal (entry ∷ layout) false b into tables) counts same (λ v. refl)

-- A block is sealed, and what waited in it is completed: the tables stay sound.
pub sealing_keeps : (own : Own) (f : Body) (s t : SsaState) (tables : Blocks) (b : ℕ) (look_up : LookUpState) (n : Stage) → IsConsistent f
    → DescribesSoundly own f s tables → SameRecords s t → Seals s t b → SamePredecessors s t → SparesIfEntry f s b
    → look_up.calls ≡ [] → look_up.results ≡ [] → CompletesAll b (pending_of (sealed_of s b)) (record { function = f; state = t; look_up = look_up }) n
    → Keeps own tables n.function n.state
sealing_keeps own f s t tables b look_up n known both records seals same spares calls results all =
    let before : Describes own f s [] tables = both.0 in
    let sealed : Blocks = with_seal f.layout (is_yes (sealed_of s b)) b (arms_into f s tables b) tables in
    let now : Describes own f t (pending_of (sealed_of s b)) sealed × BlocksSound sealed × SameProgram tables sealed = seal_described own f s t tables b before both.1 records seals same spares in
    let m : Stage = record { function = f; state = t; look_up = look_up } in
    let wait : AllWait f t b (pending_of (sealed_of s b)) = record {
      home = λ p here. (before.waiting b p here).parameter;
      recorded = λ p here none. before.waiting_recorded b p here (sym (records p.variable b) ∙ none);
    } in
    let done : Completes own sealed [] m n =
    completes_all own b (pending_of (sealed_of s b)) sealed m n calls results (firm_from f known) (housed_from f known)
    (branches_stand own f t (pending_of (sealed_of s b)) sealed known now.0) now.0
    (seal_counted own f s t f.layout (is_yes (sealed_of s b)) b (arms_into f s tables b) tables both.2 same) now.1 wait all in
    let parameters : KeepsParameters tables done.tables n.state =
    parameters_then tables sealed done.tables t n.state now.0.recorded done.since.stay
    (seal_parameters f.layout (is_yes (sealed_of s b)) b (arms_into f s tables b) tables s t before.recorded records) done.parameters in
    record {
      tables = done.tables;
      describes = done.describes;
      sound = done.sound;
      same = same_program_then tables sealed done.tables now.2 done.same;
      counts = done.counts;
      parameters = parameters;
    }
