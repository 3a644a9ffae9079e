-- Parameters are completed, and blocks are sealed.
use Rattle.std.proofs.Common.{◌≡◌, ◌≢◌, ℕ, ◌<◌, ◌≤◌, ◌&&◌, Bool, true, false, List, [], ◌∷◌, length, refl, ap, arith, sym, ◌∙◌, subst, ◌⊎◌, inl, inr, ◌+◌}
use Rattle.std.specs.Prelude.{Option, Some, None, Contains, cond}
use Rattle.std.proofs.lemmas.Bool.{cases_eq}
use Rattle.clif_types.specs.declared.types.«Type».{«Type»}
use Rattle.clif_ir.specs.Body.{Body, block_at, value_at, resolved}
use Rattle.clif_ir.specs.Changes.{with_alias, with_layout, inserted_in}
use Rattle.clif_ir.specs.Reading.{param_home}
use Rattle.clif_instructions.specs.Members.{stands_in}
use Rattle.clif_nodes.specs.declared.nodes.ValueOrigin.TheVariants.{Alias}
use Rattle.clif_paths.specs.Places.{start, Arm}
use Rattle.clif_paths.specs.State.{pending, zero_of, Definition, Naming}
use Rattle.clif_paths.specs.Blocks.{Blocks, front, with_zero_in, with_dropped, state_of, Carries}
use Rattle.clif_paths.specs.Steps.{IsNewName}
use Rattle.clif_paths.specs.BlockLaws.{BlocksSound}
use Rattle.clif_paths.proofs.BlockSteps.{zero_in_keeps, undefined_keeps}
use Rattle.clif_paths.proofs.Tables.{updated-same, updated-other}
use Rattle.clif_records.specs.declared.tables.Pending.{Pending}
use Rattle.clif_ssa.specs.Own.{Own}
use Rattle.clif_records.specs.Tables.{is_yes}
use Rattle.clif_ssa.specs.Ssa.{SsaState, sealed_of, predecessors_of, zeroed, zero_value}
use Rattle.clif_ssa.specs.Sound.{Describes, IsWaiting, IsEdgeInto, InOrder, has_entry, entry_of, SameProgram}
use Rattle.clif_ssa.specs.SoundLaws.{with_entry, with_zeroed}
use Rattle.clif_ssa.proofs.Bodies.{Firm, param_exists, home-set_same}
use Rattle.clif_ssa.proofs.Ordering.{contains_cons, contains_more, contains_first, none_contained, parameters_skip, is_no_parameter}
use Rattle.clif_ssa.proofs.Describing.{arms_of}
use Rattle.clif_ssa.proofs.Entering.{relaid, inserted, inserted_entry}
use Rattle.clif_ssa.proofs.Zeroing.{zero_described, CanAlias, WaitsSealed, alias_described, alias_firm, alias_home_other}
use Rattle.clif_ssa.proofs.ZeroSteps.{put_resolved, put_param_home, put_values_more, put_firm, put_zero, zero_count, past_unaliased}
use Rattle.clif_ssa.specs.Zeros.{steps_before}

-- THE SAME BUT FOR THE LAYOUT ---------------------------------------------------------------------------------------

-- what a block in the layout leaves as it was
pub record SameButLayout (f g : Body) : Type 0 where
  pub values : g.values ≡ f.values
  pub insts : g.insts ≡ f.insts
  pub blocks : g.blocks ≡ f.blocks
  pub tables : g.tables ≡ f.tables

pub inserted_same : (f : Body) (b : ℕ) → SameButLayout f (inserted_in f b)
inserted_same f b = by (stands_in b f.layout)
  where
    by : (test : Bool) → SameButLayout f (cond test f (with_layout f b))
    by true = record { values = refl; insts = refl; blocks = refl; tables = refl }
    by false = record { values = refl; insts = refl; blocks = refl; tables = refl }

pub inserted_firm : (f : Body) (b : ℕ) → Firm f → Firm (inserted_in f b)
inserted_firm f b firm = by (stands_in b f.layout)
  where
    by : (test : Bool) → Firm (cond test f (with_layout f b))
    by true = firm
    by false = record { leads = firm.leads; ends = firm.ends; homes_exist = firm.homes_exist; stands = firm.stands; params_exist = firm.params_exist }

pub inserted_param_home : (f : Body) (b v : ℕ) → param_home (inserted_in f b) v ≡ param_home f v
inserted_param_home f b v = by (stands_in b f.layout)
  where
    by : (test : Bool) → param_home (cond test f (with_layout f b)) v ≡ param_home f v
    by true = refl
    by false = refl

-- what an entry leaves of the tables
pub record SameBut (blocks blocks' : Blocks) : Type 0 where
  pub program : SameProgram blocks blocks'
  pub recorded : (b x : ℕ) → blocks'.recorded b x ≡ blocks.recorded b x
  pub definition : (v : ℕ) → blocks'.function.definition v ≡ blocks.function.definition v
  pub resolve : (v : ℕ) → blocks'.function.resolve v ≡ blocks.function.resolve v

pub entry_same : (layout : List ℕ) (s : SsaState) (b : ℕ) (blocks : Blocks) → SameBut blocks (with_entry layout s b blocks)
entry_same [] s b blocks = record {
  program = record { count = λ c. refl; assigned = λ p x. refl; naming = λ n. refl; answer = λ n. refl };
  recorded = λ c x. refl;
  definition = λ v. refl;
  resolve = λ v. refl;
}
entry_same (c ∷ layout) s b blocks = record {
  program = record { count = λ c. refl; assigned = λ p x. refl; naming = λ n. refl; answer = λ n. refl };
  recorded = λ c x. refl;
  definition = λ v. refl;
  resolve = λ v. refl;
}

pub same_program_then : (a b c : Blocks) → SameProgram a b → SameProgram b c → SameProgram a c
same_program_then a b c first second = record {
  count = λ k. second.count k ∙ first.count k;
  assigned = λ p x. second.assigned p x ∙ first.assigned p x;
  naming = λ n. second.naming n ∙ first.naming n;
  answer = λ n. second.answer n ∙ first.answer n;
}

pub same_program : (blocks : Blocks) → SameProgram blocks blocks
same_program blocks = record { count = λ k. refl; assigned = λ p x. refl; naming = λ n. refl; answer = λ n. refl }

pub new_name_same : (blocks blocks' : Blocks) (n : ℕ) → SameProgram blocks blocks' → IsNewName (state_of blocks) n → IsNewName (state_of blocks') n
new_name_same blocks blocks' n same name = record {
  new_name = ap (λ (m : Naming). m.home) (same.naming n) ∙ name.new_name;
  unassigned = λ place x is. name.unassigned place x (sym (same.assigned place x) ∙ is);
}

-- ONE PARAMETER ---------------------------------------------------------------------------------------------------

none_some : {x : ℕ} → ◌≡◌ {A = Option ℕ} None (Some x) → ⊥
none_some same = cc

same_some : {x y : ℕ} → ◌≡◌ {A = Option ℕ} (Some x) (Some y) → x ≡ y
same_some same = cc

pub both : (a b : Bool) → a ≡ true → b ≡ true → (a && b) ≡ true
both a b p q = ap (λ t. t && b) p ∙ q

-- the first parameter of the list waits, as it is one
pub first_waits : (own : Own) (f : Body) (s : SsaState) (p : Pending) (ps : List Pending) (blocks : Blocks) (b : ℕ) → Describes own f s (p ∷ ps) blocks → param_home f p.param ≡ Some b
    → IsWaiting f blocks b p × (is_yes (sealed_of s b) ≡ true)
first_waits own f s p ps blocks b before is =
    elim (before.completed p (contains_first p ps)) [
      | inl gone ↦ absurd (none_some (sym gone.0 ∙ is))
      | inr there ↦
          let at : there.0 ≡ b = same_some (sym there.1.parameter ∙ is) in
          (subst (λ c. IsWaiting f blocks c p) at there.1, subst (λ c. is_yes (sealed_of s c) ≡ true) at there.2)
    ]

-- along each arm into the block nothing comes to the parameter but itself
abbrev pub NothingElseComes : Blocks → Pending → ℕ → Type 0
NothingElseComes blocks p b = (arm : Arm) → blocks.joins arm ≡ true → arm.target ≡ front b → (arm.source ≡ start) ⊎ Carries blocks arm p.variable p.param

front_of : {x y : ℕ} → front x ≡ front y → x ≡ y
front_of same = cc

-- that is so where no branch leads to the block
pub nothing_leads : (own : Own) (f : Body) (s : SsaState) (completing : List Pending) (blocks : Blocks) (p : Pending) (b : ℕ) → Describes own f s completing blocks → predecessors_of s b ≡ [] → NothingElseComes blocks p b
nothing_leads own f s completing blocks p b before none arm known at =
    let there : (c : ℕ) × (arm.target ≡ front c) × (is_yes (sealed_of s c) ≡ true) × (((arm.source ≡ start) × (entry_of f ≡ Some c)) ⊎ IsEdgeInto f s blocks c arm) =
    before.joined arm known in
    elim there.3 [
      | inl enters ↦ inl enters.0
      | inr edge ↦
          let same : there.0 ≡ b = front_of (sym there.1 ∙ at) in
          absurd (none_contained edge.branch (subst (λ xs. Contains xs edge.branch) (ap (λ c. predecessors_of s c) same ∙ none) edge.leads))
    ]

-- what is zeroed, in a function whose layout has the block
pub record Dropped (own : Own) (f : Body) (s : SsaState) (p : Pending) (ps : List Pending) (blocks : Blocks) (b : ℕ) (ty : «Type») : Type 0 where
  pub describes : Describes own (with_alias (put_zero f b ty) p.param (zero_value f ty)) s ps (with_dropped (with_zero_in blocks b p.variable (zero_value f ty)) p.param (zero_value f ty))
  pub sound : BlocksSound (with_dropped (with_zero_in blocks b p.variable (zero_value f ty)) p.param (zero_value f ty))
  pub firm : Firm (with_alias (put_zero f b ty) p.param (zero_value f ty))

pub dropped : (own : Own) (f : Body) (s : SsaState) (p : Pending) (ps : List Pending) (blocks : Blocks) (b : ℕ) (ty : «Type»)
    → Firm f → has_entry f.layout ≡ true → Describes own f s (p ∷ ps) blocks → BlocksSound blocks → param_home f p.param ≡ Some b
    → NothingElseComes blocks p b → Dropped own f s p ps blocks b ty
dropped own f s p ps blocks b ty firm entry before sound is nothing =
    let g : Body = put_zero f b ty in
    let z : ℕ = zero_value f ty in
    let v : ℕ = p.param in
    let with_it : Blocks = with_zero_in blocks b p.variable z in
    let there : b < length f.blocks = firm.homes_exist v b is in
    let first : IsWaiting f blocks b p × (is_yes (sealed_of s b) ≡ true) = first_waits own f s p ps blocks b before is in
    let inside : v < length f.values = param_exists f v b is in
    let apart : z ≢ v = λ same. absurd (omega (arith, inside, same)) in
    let g_firm : Firm g = put_firm f b ty firm in
    let described : Describes own g s (p ∷ ps) with_it = zero_described own f s (p ∷ ps) blocks b p.variable ty firm before there in
    let z_own : resolved g z ≡ z = put_resolved f b ty firm z ∙ past_unaliased f z (omega arith) in
    let is_zero : with_it.function.definition z ≡ record { home = front b; kind = zero_of p.variable } = updated-same blocks.function.definition z (record { home = front b; kind = zero_of p.variable }) z refl in
    let still_waits : with_it.function.definition v ≡ record { home = front b; kind = pending p.variable } =
    updated-other blocks.function.definition z (record { home = front b; kind = zero_of p.variable }) v (λ same. apart (sym same)) ∙ first.0.defined in
    let can : CanAlias g v z b = record {
      firm = g_firm;
      parameter = put_param_home f b ty v ∙ is;
      own_end = z_own;
      exists = omega (arith, zero_count f b ty);
      apart = apart;
    } in
    let sealed : WaitsSealed s with_it p b = record { waits = still_waits; is_sealed = first.1 } in
    record {
      describes = alias_described own g s p ps with_it z b can sealed described;
      sound = undefined_keeps with_it b p.variable v z
          (record {
            waits = record { is_parameter = still_waits; is_sealed = before.sealed b ∙ both (is_yes (sealed_of s b)) (has_entry f.layout) first.1 entry };
            no_alias = described.resolves z ∙ z_own;
            is_zero = is_zero;
            along = λ arm e at.
                elim (nothing arm e at) [
                  | inl from_start ↦ inl from_start
                  | inr carries ↦
                      inr (record { from = carries.from; leaves = carries.leaves; value = carries.value; is_recorded = carries.is_recorded; resolves = carries.resolves })
                ];
          })
          (zero_in_keeps blocks b p.variable z (ap (λ (d : Definition). d.home) (before.absent z (omega arith))) sound);
      firm = alias_firm g v z b can;
    }

-- One parameter becomes a name of a zero.
pub record Zeroed (own : Own) (f : Body) (s : SsaState) (p : Pending) (ps : List Pending) (blocks : Blocks) (b : ℕ) : Type 0 where
  pub describes : Describes own (zeroed f b p.param) s ps (with_zeroed f.layout s b p.variable p.param (zero_value f (value_at f p.param).ty) blocks)
  pub sound : BlocksSound (with_zeroed f.layout s b p.variable p.param (zero_value f (value_at f p.param).ty) blocks)
  pub firm : Firm (zeroed f b p.param)

pub zeroed_keeps : (own : Own) (f : Body) (s : SsaState) (p : Pending) (ps : List Pending) (blocks : Blocks) (b : ℕ)
    → Firm f → Describes own f s (p ∷ ps) blocks → BlocksSound blocks → param_home f p.param ≡ Some b → NothingElseComes (with_entry f.layout s b blocks) p b
    → Zeroed own f s p ps blocks b
zeroed_keeps own f s p ps blocks b firm before sound is nothing =
    let ty : «Type» = (value_at f p.param).ty in
    let entered : Describes own (inserted_in f b) s (p ∷ ps) (with_entry f.layout s b blocks) × BlocksSound (with_entry f.layout s b blocks) = inserted own f s (p ∷ ps) blocks b before sound in
    let done : Dropped own (inserted_in f b) s p ps (with_entry f.layout s b blocks) b ty =
    dropped own (inserted_in f b) s p ps (with_entry f.layout s b blocks) b ty (inserted_firm f b firm) (inserted_entry f b) entered.0 entered.1 (inserted_param_home f b p.param ∙ is) nothing in
    let same : length (inserted_in f b).values ≡ length f.values = ap length (inserted_same f b).values in
    record {
      describes = subst (λ n. Describes own (with_alias (put_zero (inserted_in f b) b ty) p.param (n + steps_before ty)) s ps (with_zeroed f.layout s b p.variable p.param (n + steps_before ty) blocks)) same done.describes;
      sound = subst (λ n. BlocksSound (with_zeroed f.layout s b p.variable p.param (n + steps_before ty) blocks)) same done.sound;
      firm = subst (λ n. Firm (with_alias (put_zero (inserted_in f b) b ty) p.param (n + steps_before ty))) same done.firm;
    }

-- the same where no branch leads to the block
pub zeroed_alone : (own : Own) (f : Body) (s : SsaState) (p : Pending) (ps : List Pending) (blocks : Blocks) (b : ℕ)
    → Firm f → Describes own f s (p ∷ ps) blocks → BlocksSound blocks → param_home f p.param ≡ Some b → predecessors_of s b ≡ [] → Zeroed own f s p ps blocks b
zeroed_alone own f s p ps blocks b firm before sound is none =
    zeroed_keeps own f s p ps blocks b firm before sound is
    (nothing_leads own (inserted_in f b) s (p ∷ ps) (with_entry f.layout s b blocks) p b (inserted own f s (p ∷ ps) blocks b before sound).0 none)

-- the parameters that stay were parameters of the same blocks
pub zeroed_home : (f : Body) (b v u c : ℕ) → v < length f.values → param_home (zeroed f b v) u ≡ Some c → param_home f u ≡ Some c
zeroed_home f b v u c inside is =
    let ty : «Type» = (value_at f v).ty in
    let h : Body = inserted_in f b in
    let g : Body = put_zero h b ty in
    let more : length h.values ≤ length g.values = put_values_more h b ty in
    let same_values : length h.values ≡ length f.values = ap length (inserted_same f b).values in
    elim (cases_eq u v) [
      | inl same ↦
          absurd (none_some (sym (home-set_same g.values v (record (value_at g v) { origin = Alias (resolved g (zero_value f ty)) }) (omega (arith, inside, more, same_values)))
          ∙ ap (param_home (zeroed f b v)) (sym same) ∙ is))
      | inr other ↦
          sym (inserted_param_home f b u) ∙ sym (put_param_home h b ty u)
          ∙ sym (alias_home_other g v (zero_value f ty) u other) ∙ is
    ]

-- THE LIST --------------------------------------------------------------------------------------------------------

-- what is no parameter any more is done
skipped : (own : Own) (f : Body) (s : SsaState) (p : Pending) (ps : List Pending) (blocks : Blocks) → Describes own f s (p ∷ ps) blocks → param_home f p.param ≡ None → Describes own f s ps blocks
skipped own f s p ps blocks before is =
    relaid own f f.layout s s (p ∷ ps) ps blocks blocks.sealed blocks.joins before (λ v c. refl) (λ c i known here. here) (λ c known. known) (arms_of own f s (p ∷ ps) blocks before)
    (record {
      waiting = before.waiting;
      completed = λ q here. before.completed q (contains_more p ps q here);
      pends = λ v x ends kind.
          elim (before.pends v x ends kind) [
            | inl old ↦ inl old
            | inr listed ↦
                elim (contains_cons p ps (record { variable = x; param = v }) listed) [
                  | inl first ↦
                      let at : p.param ≡ v = ap (λ (q : Pending). q.param) first in
                      elim (before.completed p (contains_first p ps)) [
                        | inl gone ↦ absurd (gone.1 (ap (λ w. resolved f w) at ∙ ends ∙ sym at))
                        | inr there ↦ absurd (none_some (sym is ∙ there.1.parameter))
                      ]
                  | inr later ↦ inr later
                ]
          ];
      waiting_recorded = before.waiting_recorded;
      waiting_order = before.waiting_order;
      completing_order = λ c. subst (λ qs. InOrder (block_at f c).params qs) (parameters_skip f c p ps (is_no_parameter f c p is)) (before.completing_order c);
    })

pub zeroed_program : (layout : List ℕ) (s : SsaState) (b x v z : ℕ) (blocks : Blocks) → SameProgram blocks (with_zeroed layout s b x v z blocks)
zeroed_program layout s b x v z blocks =
    let same : SameProgram blocks (with_entry layout s b blocks) = (entry_same layout s b blocks).program in
    record { count = same.count; assigned = same.assigned; naming = same.naming; answer = same.answer }
