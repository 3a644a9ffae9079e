-- Uses and sealings in any block, with what edges pass: where no branch leads to the block, and where the machine looks
-- the variable up.
use Rattle.std.proofs.Common.{◌≡◌, ◌≢◌, ℕ, ◌+◌, ◌<◌, true, false, List, [], ◌∷◌, length, refl, ap, arith, sym, ◌∙◌, subst, inl, inr}
use Rattle.std.specs.Prelude.{Some, None, Contains}
use Rattle.clif_types.specs.declared.types.«Type».{«Type»}
use Rattle.clif_ir.specs.Body.{Body, value_at, resolved}
use Rattle.clif_ir.specs.Changes.{with_param, with_alias, inserted_in}
use Rattle.clif_ir.specs.Consistent.{IsConsistent}
use Rattle.clif_ir.specs.Reading.{param_home}
use Rattle.clif_paths.specs.State.{Definition}
use Rattle.clif_paths.specs.Blocks.{Blocks, with_parameter, with_zero_in}
use Rattle.clif_paths.specs.BlockLaws.{BlocksSound}
use Rattle.clif_paths.proofs.Tables.{aliased_cases}
use Rattle.clif_records.specs.declared.tables.Pending.{Pending}
use Rattle.clif_ssa.specs.Own.{Own}
use Rattle.clif_records.specs.Tables.{is_yes, pending_of}
use Rattle.clif_ssa.specs.Ssa.{SsaState, record_of, sealed_of, predecessors_of, zeroed, zeroed_in, completed, Records, SameRecords, SamePredecessors, Seals, Waits, Zeroes, zero_value}
use Rattle.clif_ssa.specs.Sound.{Describes, CountsArguments, SameProgram, KeepsParameters, Keeps, KeepsAndKnows}
use Rattle.clif_ssa.specs.SoundLaws.{DescribesSoundly, with_entry, with_zeroed, with_seal, arms_into}
use Rattle.clif_ssa.proofs.Bodies.{Firm, firm_from, param_exists, home-set_other}
use Rattle.clif_ssa.proofs.Housing.{Housed, housed_from}
use Rattle.clif_ssa.proofs.Ordering.{contains_first, contains_more, none_contained}
use Rattle.clif_ssa.proofs.Entering.{inserted}
use Rattle.clif_ssa.proofs.Zeroing.{zero_described}
use Rattle.clif_ssa.proofs.Completing.{inserted_same, inserted_firm, inserted_param_home, entry_same, same_program, same_program_then, zeroed_alone, Zeroed, zeroed_program}
use Rattle.clif_ssa.proofs.Aliasing.{drop_counted, drop_housed}
use Rattle.clif_ssa.proofs.Counting.{zero_counted, zero_housed, inserted_counted, inserted_housed}
use Rattle.clif_ssa.proofs.Describing.{recorded_here}
use Rattle.clif_ssa.proofs.KeptParameters.{itself_parameters, parameters_then, seal_parameters, zeroed_parameters, added_parameters, record_or_old, in_tables}
use Rattle.clif_ssa.proofs.Parameters.{param_firm, param_resolved, param_home_new, parameter_sound}
use Rattle.clif_ssa.proofs.Adding.{add_completing, add_waiting, add_housed, add_counted}
use Rattle.clif_ssa.proofs.Framing.{completing_apart}
use Rattle.clif_ssa.proofs.FrameEnds.{own_end}
use Rattle.clif_ssa.proofs.AllCompleted.{seal_counted}
use Rattle.clif_ssa.proofs.Sealing.{seal_described}
use Rattle.clif_ssa.proofs.ZeroSteps.{put_resolved, put_param_home, put_firm, put_zero, zero_count, past_unaliased, param_zero_value}
use Rattle.clif_ssa.specs.Zeros.{steps_before}

-- A ZERO ----------------------------------------------------------------------------------------------------------

-- what is kept as a parameter becomes a name of a zero
pub record ZeroedCounts (own : Own) (f : Body) (s : SsaState) (p : Pending) (blocks : Blocks) (b : ℕ) : Type 0 where
  pub counts : CountsArguments own (zeroed f b p.param) s (with_zeroed f.layout s b p.variable p.param (zero_value f (value_at f p.param).ty) blocks)
  pub housed : Housed (zeroed f b p.param)
  pub others : (u : ℕ) → u ≢ p.param → param_home (zeroed f b p.param) u ≡ param_home f u

pub zeroed_counts : (own : Own) (f : Body) (s : SsaState) (p : Pending) (ps : List Pending) (blocks : Blocks) (b : ℕ) → Firm f → Housed f
    → Describes own f s (p ∷ ps) blocks → CountsArguments own f s blocks → BlocksSound blocks → param_home f p.param ≡ Some b → ZeroedCounts own f s p blocks b
zeroed_counts own f s p ps blocks b firm housed before counts sound is =
    let ty : «Type» = (value_at f p.param).ty in
    let x : ℕ = p.variable in
    let g : Body = inserted_in f b in
    let z : ℕ = zero_value g ty in
    let h : Body = put_zero g b ty in
    let entered : Blocks = with_entry f.layout s b blocks in
    let now : Describes own g s (p ∷ ps) entered × BlocksSound entered = inserted own f s (p ∷ ps) blocks b before sound in
    let g_firm : Firm g = inserted_firm f b firm in
    let g_home : param_home g p.param ≡ Some b = inserted_param_home f b p.param ∙ is in
    let there : b < length g.blocks = g_firm.homes_exist p.param b g_home in
    let inside : p.param < length g.values = param_exists g p.param b g_home in
    let apart : z ≢ p.param = λ same. absurd (omega (arith, inside, same)) in
    let h_firm : Firm h = put_firm g b ty g_firm in
    let h_housed : Housed h = zero_housed g b ty (inserted_housed f b housed) in
    let h_home : param_home h p.param ≡ Some b = put_param_home g b ty p.param ∙ g_home in
    let exists : z < length h.values = omega (arith, zero_count g b ty) in
    let ends : resolved h z ≡ z = put_resolved g b ty g_firm z ∙ past_unaliased g z (omega arith) in
    let put : Describes own h s (p ∷ ps) (with_zero_in entered b x z) = zero_described own g s (p ∷ ps) entered b x ty g_firm now.0 there in
    let put_counts : CountsArguments own h s (with_zero_in entered b x z) =
    zero_counted own g s (p ∷ ps) entered b x ty now.0 (inserted_counted own f s blocks entered b (entry_same f.layout s b blocks).definition counts) in
    let same : length g.values ≡ length f.values = ap length (inserted_same f b).values in
    record {
      counts = subst (λ n. CountsArguments own (with_alias h p.param (n + steps_before ty)) s (with_zeroed f.layout s b x p.param (n + steps_before ty) blocks)) same
          (drop_counted own h s p ps (with_zero_in entered b x z) z b h_firm h_housed put put_counts h_home exists ends apart);
      housed = subst (λ n. Housed (with_alias h p.param (n + steps_before ty))) same (drop_housed h p.param z b h_firm h_housed h_home exists ends apart);
      others = λ u other.
          home-set_other h.values p.param _ u other ∙ put_param_home g b ty u ∙ inserted_param_home f b u;
    }

-- SEALING ---------------------------------------------------------------------------------------------------------

-- parameters of a block to which no branch leads are completed
pub completed_locally : (own : Own) (s : SsaState) (b : ℕ) (ps : List Pending) (f : Body) (blocks : Blocks) → Firm f → Housed f → Describes own f s ps blocks
    → CountsArguments own f s blocks → BlocksSound blocks → predecessors_of s b ≡ [] → ((p : Pending) → Contains ps p → param_home f p.param ≡ Some b)
    → Keeps own blocks (completed f ps) s
completed_locally own s b [] f blocks firm housed before counts sound alone homes = record {
  tables = blocks;
  describes = before;
  sound = sound;
  same = same_program blocks;
  counts = counts;
  parameters = itself_parameters blocks s s before.recorded (λ v d. refl);
}
completed_locally own s b (p ∷ ps) f blocks firm housed before counts sound alone homes =
    let is : param_home f p.param ≡ Some b = homes p (contains_first p ps) in
    let g : Body = zeroed f b p.param in
    let tables : Blocks = with_zeroed f.layout s b p.variable p.param (zero_value f (value_at f p.param).ty) blocks in
    let done : Zeroed own f s p ps blocks b = zeroed_alone own f s p ps blocks b firm before sound is alone in
    let more : ZeroedCounts own f s p blocks b = zeroed_counts own f s p ps blocks b firm housed before counts sound is in
    let others : Keeps own tables (completed g ps) s =
    completed_locally own s b ps g tables done.firm more.housed done.describes more.counts done.sound alone
    (λ q here. more.others q.param (completing_apart own f s p ps blocks b before is q here) ∙ homes q (contains_more p ps q here)) in
    subst (λ h. Keeps own blocks h s) (ap (λ home. completed (zeroed_in home f p.param) ps) (sym is)) (record {
      tables = others.tables;
      describes = others.describes;
      sound = others.sound;
      same = same_program_then blocks tables others.tables (zeroed_program f.layout s b p.variable p.param (zero_value f (value_at f p.param).ty) blocks) others.same;
      counts = others.counts;
      parameters = parameters_then blocks tables others.tables s s done.describes.recorded (λ x d v at. at)
          (zeroed_parameters f.layout s b p.variable p.param (zero_value f (value_at f p.param).ty) blocks before.recorded
          (ap (λ (d : Definition). d.kind) (before.absent (zero_value f (value_at f p.param).ty) (omega arith)))) others.parameters;
    })

-- a block to which no branch leads is sealed
pub seals_locally : (own : Own) (f : Body) (s t : SsaState) (tables : Blocks) (b : ℕ) → IsConsistent f
    → DescribesSoundly own f s tables → predecessors_of s b ≡ [] → SameRecords s t → Seals s t b → SamePredecessors s t
    → Keeps own tables (completed f (pending_of (sealed_of s b))) t
seals_locally own f s t tables b known both alone records seals same =
    let before : Describes own f s [] tables = both.0 in
    let sealed : Blocks = with_seal f.layout (is_yes (sealed_of s b)) b (arms_into f s tables b) tables in
    let now : Describes own f t (pending_of (sealed_of s b)) sealed × BlocksSound sealed × SameProgram tables sealed = seal_described own f s t tables b before both.1 records seals same (λ is. alone) in
    let done : Keeps own sealed (completed f (pending_of (sealed_of s b))) t =
    completed_locally own t b (pending_of (sealed_of s b)) f sealed (firm_from f known) (housed_from f known) now.0
    (seal_counted own f s t f.layout (is_yes (sealed_of s b)) b (arms_into f s tables b) tables both.2 same) now.1 (same b ∙ alone)
    (λ p here. (before.waiting b p here).parameter) in
    let parameters : KeepsParameters tables done.tables t =
    parameters_then tables sealed done.tables t t now.0.recorded (λ x d v is. is)
    (seal_parameters f.layout (is_yes (sealed_of s b)) b (arms_into f s tables b) tables s t before.recorded records) done.parameters in
    record {
      tables = done.tables;
      describes = done.describes;
      sound = done.sound;
      same = same_program_then tables sealed done.tables now.2 done.same;
      counts = done.counts;
      parameters = parameters;
    }

-- USES ------------------------------------------------------------------------------------------------------------

-- a new parameter is recorded for its variable
recorded_parameters : (own : Own) (f : Body) (s t : SsaState) (tables : Blocks) (x b : ℕ) → Describes own f s [] tables → Records s t x b (length f.values)
    → KeepsParameters tables (with_parameter tables b x (length f.values)) t
recorded_parameters own f s t tables x b before recorded =
    let n : ℕ = length f.values in
    added_parameters tables (with_parameter tables b x n) t x n b (ap (λ (d : Definition). d.kind) (before.absent n (omega arith))) (λ u. refl)
    (recorded x b ∙ recorded_here x b n (record_of s x b))
    (λ v y d is. in_tables tables s x n v y d before.recorded (record_or_old s t x b n recorded v y d is))

-- in an unsealed block the new parameter is recorded and waits
pub waits_locally : (own : Own) (f g : Body) (s t : SsaState) (tables : Blocks) (x : ℕ) (ty : «Type») (b : ℕ) → Firm f → Describes own f s [] tables
    → CountsArguments own f s tables → BlocksSound tables → b < length f.blocks → record_of s x b ≡ None → is_yes (sealed_of s b) ≡ false → Waits s t f g x ty b → SamePredecessors s t
    → KeepsAndKnows own tables g t b x (length f.values)
waits_locally own f g s t tables x ty b firm before counts sound there none unsealed waits same =
    let n : ℕ = length f.values in
    let after : Blocks = with_parameter tables b x n in
    let described : Describes own (with_param f b ty) t [] after = add_waiting own f s t [] tables x b ty firm before there unsealed waits.recorded waits.waiting same in
    subst (λ h. KeepsAndKnows own tables h t b x n) (sym waits.function) (record {
      kept = record {
        tables = after;
        describes = described;
        sound = parameter_sound own f s tables x b firm before none sound;
        same = record { count = λ k. refl; assigned = λ p y. refl; naming = λ m. refl; answer = λ m. refl };
        counts = add_counted own f s t [] tables x b ty firm counts there same;
        parameters = recorded_parameters own f s t tables x b before waits.recorded;
      };
      known = record { value = n; is_recorded = described.recorded b x ∙ waits.recorded x b ∙ recorded_here x b n (record_of s x b); resolves = refl };
    })

-- in a sealed block to which no branch leads it is another name of a zero, which is the answer
pub zeroes_locally : (own : Own) (f g : Body) (s t : SsaState) (tables : Blocks) (x : ℕ) (ty : «Type») (b : ℕ) → Firm f → Housed f → Describes own f s [] tables
    → CountsArguments own f s tables → BlocksSound tables → predecessors_of s b ≡ [] → b < length f.blocks → record_of s x b ≡ None → is_yes (sealed_of s b) ≡ true
    → Zeroes s t f g x ty b → SamePredecessors s t → KeepsAndKnows own tables g t b x (length f.values + 1 + steps_before ty)
zeroes_locally own f g s t tables x ty b firm housed before counts sound alone there none is_sealed zeroes same =
    let n : ℕ = length f.values in
    let h : Body = with_param f b ty in
    let p : Pending = record { variable = x; param = n } in
    let with_it : Blocks = with_parameter tables b x n in
    let h_firm : Firm h = param_firm f b ty firm there in
    let described : Describes own h t (p ∷ []) with_it =
    add_completing own f s t [] tables x b ty firm before there is_sealed (λ q here is. none_contained q here) zeroes.recorded zeroes.unchanged same in
    let with_sound : BlocksSound with_it = parameter_sound own f s tables x b firm before none sound in
    let done : Zeroed own h t p [] with_it b = zeroed_alone own h t p [] with_it b h_firm described with_sound (param_home_new f b ty) (same b ∙ alone) in
    let more : ZeroedCounts own h t p with_it b =
    zeroed_counts own h t p [] with_it b h_firm (add_housed f b ty firm housed there) described (add_counted own f s t [] tables x b ty firm counts there same) with_sound (param_home_new f b ty) in
    let z : ℕ = zero_value h (value_at h n).ty in
    let after : Blocks = with_zeroed h.layout t b x n z with_it in
    let count : z ≡ n + 1 + steps_before ty = param_zero_value f b ty in
    let ends_before : ℕ → ℕ = (with_entry h.layout t b with_it).function.resolve in
    let own_end_of : (v : ℕ) → resolved h v ≡ v → ends_before v ≡ v = λ v is. (entry_same h.layout t b with_it).resolve v ∙ described.resolves v ∙ is in
    let own_n : ends_before n ≡ n = own_end_of n (param_resolved f b ty firm n ∙ own_end f) in
    let own_z : ends_before z ≡ z = own_end_of z (past_unaliased h z (omega arith)) in
    let first : after.function.resolve n ≡ z = elim (aliased_cases ends_before n z n) [ inl moved ↦ moved.1 | inr stayed ↦ absurd (stayed.0 own_n) ] in
    let second : after.function.resolve z ≡ z =
    elim (aliased_cases ends_before n z z) [ inl moved ↦ absurd (omega (arith, moved.0, own_z, count)) | inr stayed ↦ stayed.1 ∙ own_z ] in
    subst (λ k. KeepsAndKnows own tables k t b x (n + 1 + steps_before ty)) (sym zeroes.function) (record {
      kept = record {
        tables = after;
        describes = done.describes;
        sound = done.sound;
        same = same_program_then tables with_it after (record { count = λ k. refl; assigned = λ q y. refl; naming = λ m. refl; answer = λ m. refl }) (zeroed_program h.layout t b x n z with_it);
        counts = more.counts;
        parameters = parameters_then tables with_it after t t described.recorded (λ y d v is. is)
            (recorded_parameters own f s t tables x b before zeroes.recorded)
            (zeroed_parameters h.layout t b x n z with_it described.recorded (ap (λ (d : Definition). d.kind) (described.absent z (omega arith))));
      };
      known = record {
        value = n;
        is_recorded = done.describes.recorded b x ∙ zeroes.recorded x b ∙ recorded_here x b n (record_of s x b);
        resolves = first ∙ sym second ∙ ap (λ w. after.function.resolve w) count;
      };
    })
