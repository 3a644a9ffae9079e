-- The machine that looks a variable up keeps the structure.
use Rattle.std.proofs.Common.{◌≡◌, ◌≢◌, ℕ, ◌<◌, ◌==◌, ◌&&◌, ◌||◌, true, false, List, [], ◌∷◌, ◌++◌, length, refl, ap, arith, eq-eqb, sym, ◌∙◌, subst, inl, inr}
use Rattle.std.specs.Prelude.{Option, Some, None, Contains, if◌then◌else◌}
use Rattle.std.proofs.lemmas.Bool.{cases_eq}
use Rattle.std.proofs.lemmas.List.Elements.{Contains-append_left, Contains-append_right, Contains-append_cases}
use Rattle.clif_types.specs.declared.types.«Type».{«Type»}
use Rattle.clif_ir.specs.Body.{Body}
use Rattle.clif_ir.specs.Changes.{with_param}
use Rattle.clif_ir.specs.Reading.{param_home}
use Rattle.clif_instructions.specs.Members.{stands_in}
use Rattle.clif_ssa.specs.Own.{Own}
use Rattle.clif_records.specs.declared.look_up.Call.{Call}
use Rattle.clif_records.specs.declared.look_up.Call.TheVariants.{UseVar, FinishPredecessorsLookup}
use Rattle.clif_records.specs.declared.tables.Pending.{Pending}
use Rattle.clif_records.specs.Tables.{No, Sealed, Yes, is_yes, pending_of}
use Rattle.clif_ssa.specs.Ssa.{SsaState, record_of, sealed_of, predecessors_of, SameBlocks}
use Rattle.clif_records.specs.Stacks.{calls_for}
use Rattle.clif_ssa.specs.LookUp.{Copies}
use Rattle.clif_ssa.specs.Sound.{parameters_of}
use Rattle.clif_ssa.specs.Structured.{VariableTypes, HasType, Structured, waiting_of, waiting_in}
use Rattle.clif_ssa.proofs.Bodies.{Firm, param_exists, home-append}
use Rattle.clif_ssa.proofs.Housing.{Housed}
use Rattle.clif_ssa.proofs.Ordering.{contains_first, contains_more, contains_cons, parameters_first, parameters_none, is_parameter, is_parameter_elsewhere}
use Rattle.clif_ssa.proofs.Framing.{HomesRecorded}
use Rattle.clif_ssa.proofs.Adding.{add_housed}
use Rattle.clif_ssa.proofs.Parameters.{param_firm, param_home_new, param_node}
use Rattle.clif_ssa.proofs.NeededZeros.{param_longer, seal_here, seal_other}
use Rattle.clif_ssa.proofs.Structuring.{Grows, Writes, grows_longer, typed_kept, sealed_yes, sealed_no, waiting_homes, written, rewritten, written_typed}
use Rattle.clif_ssa.proofs.StructuredSteps.{new_pending, new_typed, added, waiting_elsewhere}

-- DEFINITIONS -----------------------------------------------------------------------------------------------------

-- the parameters whose look-up ends by one of these calls, for the variable
abbrev pub awaited : ℕ → List Call → List Pending
awaited x [] = []
awaited x (UseVar branch ∷ calls) = awaited x calls
awaited x (FinishPredecessorsLookup param block ∷ calls) = record { variable = x; param = param } ∷ awaited x calls

-- a value is a parameter of a sealed block
abbrev pub IsHome : Body → SsaState → ℕ → ℕ → Type 0
IsHome f s v b = (param_home f v ≡ Some b) × (is_yes (sealed_of s b) ≡ true)

-- so is each parameter whose look-up ends by one of these calls
abbrev pub CallsHome : Body → SsaState → List Call → Type 0
CallsHome f s [] = Unit {0}
CallsHome f s (UseVar branch ∷ calls) = CallsHome f s calls
CallsHome f s (FinishPredecessorsLookup param block ∷ calls) = IsHome f s param block × CallsHome f s calls

-- What is the same in each call of the machine: the variable, its type by those of all variables, what the caller made,
-- and the parameters of a block that are completed later.
pub record Task : Type 0 where
  pub types : VariableTypes
  pub own : Own
  pub variable : ℕ
  pub rest : List Pending
  pub block : ℕ

abbrev pub completing_of : Task → List Call → List Pending
completing_of c calls = awaited c.variable calls ++ c.rest

-- What stands between two calls: the structure, as the parameters of the calls that are left are completed, and results of
-- the variable's type.
pub record Runs (c : Task) (f : Body) (s : SsaState) (calls : List Call) (results : List ℕ) : Type 0 where
  pub structured : Structured c.types c.own f s (completing_of c calls)
  pub recorded : HomesRecorded f s c.variable (completing_of c calls)
  pub homes : CallsHome f s calls
  pub rest_homes : (q : Pending) → Contains c.rest q → IsHome f s q.param c.block
  pub typed : (r : ℕ) → Contains results r → HasType f r (c.types c.variable)
  pub firm : Firm f
  pub housed : Housed f

-- CALLS -----------------------------------------------------------------------------------------------------------

pub calls_home_kept : (x : ℕ) (f g : Body) (s t : SsaState) (calls : List Call) → ((q : Pending) → Contains (awaited x calls) q → param_home g q.param ≡ param_home f q.param)
    → ((b : ℕ) → is_yes (sealed_of t b) ≡ is_yes (sealed_of s b)) → CallsHome f s calls → CallsHome g t calls
calls_home_kept x f g s t [] same flags homes = tt
calls_home_kept x f g s t (UseVar branch ∷ calls) same flags homes = calls_home_kept x f g s t calls same flags homes
calls_home_kept x f g s t (FinishPredecessorsLookup param block ∷ calls) same flags homes =
    let p : Pending = record { variable = x; param = param } in (
      (same p (contains_first p (awaited x calls)) ∙ homes.0.0, flags block ∙ homes.0.1),
      calls_home_kept x f g s t calls (λ q here. same q (contains_more p (awaited x calls) q here)) flags homes.1,
    )

call_home : (x : ℕ) (f : Body) (s : SsaState) (calls : List Call) → CallsHome f s calls → (q : Pending) → Contains (awaited x calls) q → (b : ℕ) × IsHome f s q.param b
call_home x f s [] homes q here = absurd (omega (arith, here.1))
call_home x f s (UseVar branch ∷ calls) homes q here = call_home x f s calls homes q here
call_home x f s (FinishPredecessorsLookup param block ∷ calls) homes q here =
    elim (contains_cons (record { variable = x; param = param }) (awaited x calls) q here) [
      | inl same ↦ (block, subst (λ (r : Pending). IsHome f s r.param block) same homes.0)
      | inr later ↦ call_home x f s calls homes.1 q later
    ]

-- each parameter that is completed is one of a sealed block
pub all_home : (c : Task) (f : Body) (s : SsaState) (calls : List Call) (results : List ℕ) → Runs c f s calls results → (q : Pending) → Contains (completing_of c calls) q
    → (b : ℕ) × IsHome f s q.param b
all_home c f s calls results runs q here =
    elim (Contains-append_cases (awaited c.variable calls) c.rest q here) [
      | inl of_call ↦ call_home c.variable f s calls runs.homes q of_call
      | inr later ↦ (c.block, runs.rest_homes q later)
    ]

-- calls of a look-up that begins
pub begun_awaited : (x : ℕ) (branches : List ℕ) (param block : ℕ) (calls : List Call) → awaited x (calls_for branches param block ++ calls) ≡ record { variable = x; param = param } ∷ awaited x calls
begun_awaited x [] param block calls = refl
begun_awaited x (i ∷ branches) param block calls = begun_awaited x branches param block calls

pub begun_home : (f : Body) (s : SsaState) (branches : List ℕ) (param block : ℕ) (calls : List Call) → IsHome f s param block → CallsHome f s calls
    → CallsHome f s (calls_for branches param block ++ calls)
begun_home f s [] param block calls home homes = (home, homes)
begun_home f s (i ∷ branches) param block calls home homes = begun_home f s branches param block calls home homes

-- A FUNCTION CHANGES ----------------------------------------------------------------------------------------------

-- what else is kept as the homes of the parameters stay
pub rest_kept : (c : Task) (f g : Body) (s t : SsaState) → ((q : Pending) → Contains c.rest q → param_home g q.param ≡ param_home f q.param)
    → ((b : ℕ) → is_yes (sealed_of t b) ≡ is_yes (sealed_of s b)) → ((q : Pending) → Contains c.rest q → IsHome f s q.param c.block)
    → (q : Pending) → Contains c.rest q → IsHome g t q.param c.block
rest_kept c f g s t same flags homes q here = (same q here ∙ (homes q here).0, flags c.block ∙ (homes q here).1)

pub results_kept : (f g : Body) (ty : «Type») (results : List ℕ) (v : ℕ) → Grows f g → HasType g v ty → ((r : ℕ) → Contains results r → HasType f r ty)
    → (r : ℕ) → Contains (v ∷ results) r → HasType g r ty
results_kept f g ty results v grows typed all r here =
    elim (contains_cons v results r here) [
      | inl same ↦ subst (λ u. HasType g u ty) same typed
      | inr later ↦ typed_kept f g r ty grows (all r later)
    ]

-- LOOKING UP ------------------------------------------------------------------------------------------------------

-- a record is found
pub finds : (c : Task) (f : Body) (s t : SsaState) (calls : List Call) (results blocks : List ℕ) (reached v : ℕ) → Runs c f s calls results
    → record_of s c.variable reached ≡ Some v → Copies s t c.variable v blocks → SameBlocks s t → ((b : ℕ) → predecessors_of t b ≡ predecessors_of s b)
    → Runs c f t calls (v ∷ results)
finds c f s t calls results blocks reached v runs is copies same_blocks same_before =
    let writes : Writes s t c.variable v = written s t c.variable v (λ b. stands_in b blocks) copies in
    let typed : HasType f v (c.types c.variable) = runs.structured.recorded c.variable reached v is in
    let flags : (b : ℕ) → is_yes (sealed_of t b) ≡ is_yes (sealed_of s b) = λ b. ap is_yes (same_blocks b) in
    record {
      structured = rewritten c.types c.own f s t (completing_of c calls)
          (written_typed c.types c.own f s t (completing_of c calls) c.variable v writes typed runs.structured) writes.still same_blocks same_before runs.structured;
      recorded = λ q d here home. writes.still c.variable d (runs.recorded q d here home);
      homes = calls_home_kept c.variable f f s t calls (λ q here. refl) flags runs.homes;
      rest_homes = rest_kept c f f s t (λ q here. refl) flags runs.rest_homes;
      typed = λ r here. elim (contains_cons v results r here) [ inl same ↦ subst (λ u. HasType f u (c.types c.variable)) same typed | inr later ↦ runs.typed r later ];
      firm = runs.firm;
      housed = runs.housed;
    }

pub copied_here : (s t : SsaState) (x v reached : ℕ) (blocks : List ℕ) → Copies s t x v (reached ∷ blocks) → record_of t x reached ≢ None
copied_here s t x v reached blocks copies none =
    let old : Option ℕ = record_of s x reached in
    let is : record_of t x reached ≡ Some v =
    copies x reached
    ∙ ap (λ test. if test && ((reached == reached) || stands_in reached blocks) then Some v else old) (eq-eqb x x refl)
    ∙ ap (λ test. if test || stands_in reached blocks then Some v else old) (eq-eqb reached reached refl) in
    clash (sym none ∙ is)
  where
    clash : {w : ℕ} → ◌≡◌ {A = Option ℕ} None (Some w) → ⊥
    clash same = cc

module _ (c : Task) (f : Body) (s t : SsaState) (calls : List Call) (results : List ℕ) (reached : ℕ) (runs : Runs c f s calls results) (there : reached < length f.blocks)
    (writes : Writes s t c.variable (length f.values)) (new : record_of t c.variable reached ≢ None) (none : record_of s c.variable reached ≡ None)
    (same_before : (b : ℕ) → predecessors_of t b ≡ predecessors_of s b) where
  abbrev x : ℕ
  x = c.variable

  abbrev ty : «Type»
  ty = c.types c.variable

  abbrev g : Body
  g = with_param f reached ty

  abbrev ps : List Pending
  ps = completing_of c calls

  old_homes : (q : Pending) → Contains ps q → param_home g q.param ≡ param_home f q.param
  old_homes q here =
      let home : (b : ℕ) × IsHome f s q.param b = all_home c f s calls results runs q here in
      home-append f.values (param_node ty reached ∷ []) q.param (param_exists f q.param home.0 home.1.0)

  grows : Grows f g
  grows = grows_longer f g (param_longer f reached ty)

  new_type : HasType g (length f.values) ty
  new_type = new_typed f reached ty

  old_recorded : HomesRecorded g t x ps
  old_recorded q d here home = writes.still x d (runs.recorded q d here (sym (old_homes q here) ∙ home))

  -- a parameter waits in an unsealed block
  pub runs_waits : is_yes (sealed_of s reached) ≡ false
      → ((b : ℕ) → sealed_of t b ≡ (if b == reached then No (pending_of (sealed_of s b) ++ new_pending f x ∷ []) else sealed_of s b))
      → Runs c g t calls (length f.values ∷ results)
  runs_waits unsealed blocks =
      let entry : sealed_of t reached ≡ No (pending_of (sealed_of s reached) ++ new_pending f x ∷ []) = blocks reached ∙ seal_here reached reached _ _ refl in
      let was : sealed_of s reached ≡ No (pending_of (sealed_of s reached)) = sealed_no (sealed_of s reached) unsealed in
      let other : (b : ℕ) → b ≢ reached → sealed_of t b ≡ sealed_of s b = λ b apart. blocks b ∙ seal_other b reached _ (sealed_of s b) apart in
      let flags : (b : ℕ) → is_yes (sealed_of t b) ≡ is_yes (sealed_of s b) =
      λ b.
      elim (cases_eq b reached) [
        | inl same ↦ ap (λ d. is_yes (sealed_of t d)) same ∙ ap is_yes entry ∙ sym unsealed ∙ ap (λ d. is_yes (sealed_of s d)) (sym same)
        | inr apart ↦ ap is_yes (other b apart)
      ] in
      record {
        structured = added c.types c.own f s t ps ps x reached runs.firm there writes new
            (ap (λ e. waiting_of g e ps reached) entry ∙ ap (λ e. waiting_of f e ps reached ++ new_pending f x ∷ []) (sym was))
            (λ b apart. ap (λ e. waiting_of g e ps b) (other b apart) ∙ waiting_homes f g (sealed_of s b) ps b old_homes)
            flags same_before runs.structured;
        recorded = old_recorded;
        homes = calls_home_kept x f g s t calls (λ q here. old_homes q (Contains-append_left (awaited x calls) c.rest q here)) flags runs.homes;
        rest_homes = rest_kept c f g s t (λ q here. old_homes q (Contains-append_right (awaited x calls) c.rest q here)) flags runs.rest_homes;
        typed = results_kept f g ty results (length f.values) grows new_type runs.typed;
        firm = param_firm f reached ty runs.firm there;
        housed = add_housed f reached ty runs.firm runs.housed there;
      }

  none_there : parameters_of f reached ps ≡ []
  none_there =
      parameters_none f reached ps
      (λ q here.
      let home : (b : ℕ) × IsHome f s q.param b = all_home c f s calls results runs q here in
      is_parameter_elsewhere f reached home.0 q home.1.0 (λ same. runs.recorded q home.0 here home.1.0 (ap (record_of s x) same ∙ none)))

  -- or the look-up in the predecessors of a sealed one begins
  pub runs_begins : is_yes (sealed_of s reached) ≡ true → SameBlocks s t → Runs c g t (calls_for (predecessors_of s reached) (length f.values) reached ++ calls) results
  runs_begins sealed same_blocks =
      let p : Pending = new_pending f x in
      let flags : (b : ℕ) → is_yes (sealed_of t b) ≡ is_yes (sealed_of s b) = λ b. ap is_yes (same_blocks b) in
      let list : p ∷ ps ≡ completing_of c (calls_for (predecessors_of s reached) (length f.values) reached ++ calls) =
      ap (λ ws. ws ++ c.rest) (sym (begun_awaited x (predecessors_of s reached) (length f.values) reached calls)) in
      let new_home : param_home g (length f.values) ≡ Some reached = param_home_new f reached ty in
      let is : sealed_of s reached ≡ Yes = sealed_yes (sealed_of s reached) sealed in
      let here : waiting_in g t (p ∷ ps) reached ≡ waiting_in f s ps reached ++ p ∷ [] =
      ap (λ e. waiting_of g e (p ∷ ps) reached) (same_blocks reached ∙ is) ∙ parameters_first g reached p ps (is_parameter g reached p new_home)
      ∙ ap (λ ws. p ∷ ws) (waiting_homes f g Yes ps reached old_homes ∙ none_there)
      ∙ ap (λ ws. ws ++ p ∷ []) (sym none_there) ∙ ap (λ e. waiting_of f e ps reached ++ p ∷ []) (sym is) in
      record {
        structured = subst (Structured c.types c.own g t) list
            (added c.types c.own f s t ps (p ∷ ps) x reached runs.firm there writes new here
            (λ b apart.
            ap (λ e. waiting_of g e (p ∷ ps) b) (same_blocks b) ∙ first_elsewhere (sealed_of s b) b apart new_home ∙ waiting_homes f g (sealed_of s b) ps b old_homes)
            flags same_before runs.structured);
        recorded = subst (HomesRecorded g t x) list (λ q d among home.
            elim (contains_cons p ps q among) [
              | inl same ↦
                  subst (λ e. record_of t x e ≢ None)
                  (same_block (sym new_home ∙ ap (λ (r : Pending). param_home g r.param) same ∙ home)) new
              | inr later ↦ old_recorded q d later home
            ]);
        homes = begun_home g t (predecessors_of s reached) (length f.values) reached calls (new_home, flags reached ∙ sealed)
            (calls_home_kept x f g s t calls (λ q among. old_homes q (Contains-append_left (awaited x calls) c.rest q among)) flags runs.homes);
        rest_homes = rest_kept c f g s t (λ q among. old_homes q (Contains-append_right (awaited x calls) c.rest q among)) flags runs.rest_homes;
        typed = λ r among. typed_kept f g r ty grows (runs.typed r among);
        firm = param_firm f reached ty runs.firm there;
        housed = add_housed f reached ty runs.firm runs.housed there;
      }
    where
      same_block : {a b : ℕ} → ◌≡◌ {A = Option ℕ} (Some a) (Some b) → a ≡ b
      same_block same = cc

      first_elsewhere : (e : Sealed) (b : ℕ) → b ≢ reached → param_home g (length f.values) ≡ Some reached → waiting_of g e (new_pending f x ∷ ps) b ≡ waiting_of g e ps b
      first_elsewhere e b apart home = waiting_elsewhere g e (new_pending f x) ps reached b home apart
