-- Uses of a variable and the completion of a block's parameters keep the structure.
use Rattle.std.proofs.Common.{◌≡◌, ◌≢◌, ℕ, ◌+◌, ◌<◌, ◌==◌, ◌&&◌, true, false, List, [], ◌∷◌, ◌++◌, length, refl, ap, eq-eqb, sym, ◌∙◌, subst, inl, inr}
use Rattle.std.specs.Prelude.{Option, Some, None, Contains, slice_index, if◌then◌else◌}
use Rattle.std.proofs.lemmas.Bool.{cases_eq}
use Rattle.std.proofs.lemmas.List.Elements.{Contains-append_right}
use Rattle.clif_types.specs.declared.types.«Type».{«Type»}
use Rattle.clif_ir.specs.Body.{Body, value_at, block_at}
use Rattle.clif_ir.specs.Changes.{with_param}
use Rattle.clif_instructions.specs.Members.{Once}
use Rattle.clif_ir.specs.Reading.{param_home}
use Rattle.clif_ssa.specs.Own.{Own}
use Rattle.clif_records.specs.declared.look_up.Call.{Call}
use Rattle.clif_records.specs.declared.tables.Pending.{Pending}
use Rattle.clif_records.specs.Tables.{No, Sealed, Yes, is_yes, pending_of}
use Rattle.clif_ssa.specs.Ssa.{SsaState, record_of, sealed_of, predecessors_of, zeroed, zeroed_in, completed, Records, SamePredecessors, Seals, Waits, Zeroes}
use Rattle.clif_records.specs.Stacks.{LookUpState, calls_for, no_look_up}
use Rattle.clif_ssa.specs.LookUp.{Stage, LooksUp, MakesCalls, UsesVariable, CompletesParameter}
use Rattle.clif_ssa.specs.Running.{CompletesAll}
use Rattle.clif_ssa.specs.Sound.{is_parameter_of}
use Rattle.clif_ssa.specs.Structured.{VariableTypes, HasType, HasParameters, Structured, waiting_of, waiting_in}
use Rattle.clif_ssa.proofs.Bodies.{Firm}
use Rattle.clif_ssa.proofs.Housing.{Housed}
use Rattle.clif_ssa.proofs.Ordering.{none_contained, contains_first, contains_more, entry_any, parameters_all, parameters_none, is_parameter, is_parameter_elsewhere}
use Rattle.clif_ssa.proofs.Framing.{HomesRecorded}
use Rattle.clif_ssa.proofs.Alike.{zeroed_leaves}
use Rattle.clif_ssa.proofs.Parameters.{param_firm, param_home_new}
use Rattle.clif_ssa.proofs.Adding.{add_housed}
use Rattle.clif_ssa.proofs.NeededZeros.{seal_here, seal_other}
use Rattle.clif_ssa.proofs.Structuring.{Writes, edges_keep_itself, written, same_structured, block_kept}
use Rattle.clif_ssa.proofs.StructuredSteps.{TakesAway, in_params, new_pending, new_typed, waiting_first, first_apart}
use Rattle.clif_ssa.proofs.StructuredEnds.{zero_takes}
use Rattle.clif_ssa.proofs.StructuredMachine.{IsHome, Task, Runs, completing_of, begun_awaited, begun_home, runs_waits, runs_begins}
use Rattle.clif_ssa.proofs.StructuredFinish.{RunsAt, at_stage, needed_of, zeroed_housed, zero_typed, zero_structured, looks_up, makes_calls}
use Rattle.clif_ssa.specs.Zeros.{steps_before}
use Rattle.clif_ssa.proofs.ZeroSteps.{param_zero_value}

-- A USE -----------------------------------------------------------------------------------------------------------

-- what a use leaves: the structure, and an answer of the variable's type
pub record Used (types : VariableTypes) (own : Own) (g : Body) (t : SsaState) (value : ℕ) (ty : «Type») : Type 0 where
  pub structured : Structured types own g t []
  pub typed : HasType g value ty

-- nothing is looked up so far
abbrev pub use_task : VariableTypes → Own → ℕ → Task
use_task types own x = record { types = types; own = own; variable = x; rest = []; block = 0 }

pub idle : (types : VariableTypes) (own : Own) (x : ℕ) (f : Body) (s : SsaState) → Firm f → Housed f → Structured types own f s []
    → Runs (use_task types own x) f s [] []
idle types own x f s firm housed before = record {
  structured = before;
  recorded = λ q d here. absurd (none_contained q here);
  homes = tt;
  rest_homes = λ q here. absurd (none_contained q here);
  typed = λ r here. absurd (none_contained r here);
  firm = firm;
  housed = housed;
}

same_one : {v w : ℕ} → ◌≡◌ {A = List ℕ} (v ∷ []) (w ∷ []) → v ≡ w
same_one same = cc

-- the variable is looked up in predecessors
pub uses : (types : VariableTypes) (own : Own) (x : ℕ) (ty : «Type») (block : ℕ) (m n : Stage) (value : ℕ) → ty ≡ types x → m.look_up ≡ no_look_up
    → Firm m.function → Housed m.function → Structured types own m.function m.state [] → UsesVariable x ty block m value n → Used types own n.function n.state value ty
uses types own x ty block m n value same nothing firm housed before used =
    let c : Task = use_task types own x in
    let start : RunsAt c m =
    at_stage c m m.function m.state [] [] refl refl (ap (λ (l : LookUpState). l.calls) nothing) (ap (λ (l : LookUpState). l.results) nothing)
    (idle types own x m.function m.state firm housed before) in
    let begun : RunsAt c used.begun = looks_up c block m used.begun start (subst (λ t. LooksUp x t block m used.begun) same used.looks) in
    let done : RunsAt c n = makes_calls c begun (subst (λ t. MakesCalls x t used.begun n) same used.made) in
    record {
      structured = subst (λ calls. Structured types own n.function n.state (completing_of c calls)) used.ended done.structured;
      typed = subst (λ t. HasType n.function value t) (sym same)
          (done.typed value (subst (λ rs. Contains rs value) (sym used.answered) (contains_first value [])));
    }

-- LOCAL USES ------------------------------------------------------------------------------------------------------

recorded_there : (s t : SsaState) (x b v : ℕ) → Records s t x b v → record_of t x b ≢ None
recorded_there s t x b v records none =
    let old : Option ℕ = record_of s x b in
    let is : record_of t x b ≡ Some v =
    records x b ∙ ap (λ test. if test && (b == b) then Some v else old) (eq-eqb x x refl) ∙ ap (λ test. if test then Some v else old) (eq-eqb b b refl) in
    clash (sym none ∙ is)
  where
    clash : {w : ℕ} → ◌≡◌ {A = Option ℕ} None (Some w) → ⊥
    clash same = cc

pub waits_used : (types : VariableTypes) (own : Own) (f g : Body) (s t : SsaState) (x : ℕ) (ty : «Type») (b : ℕ) → ty ≡ types x → Firm f → Housed f → b < length f.blocks
    → record_of s x b ≡ None → is_yes (sealed_of s b) ≡ false → Waits s t f g x ty b → SamePredecessors s t → Structured types own f s []
    → Used types own g t (length f.values) ty
waits_used types own f g s t x ty b same firm housed there none unsealed waits same_before before =
    let c : Task = use_task types own x in
    let n : ℕ = length f.values in
    let writes : Writes s t x n = written s t x n (λ d. d == b) waits.recorded in
    let done : Runs c (with_param f b (types x)) t [] (n ∷ []) =
    runs_waits c f s t [] [] b (idle types own x f s firm housed before) there writes (recorded_there s t x b n waits.recorded) none same_before unsealed waits.waiting in
    let is : g ≡ with_param f b (types x) = waits.function ∙ ap (with_param f b) same in
    subst (λ h. Used types own h t n ty) (sym is) (record {
      structured = done.structured;
      typed = subst (λ u. HasType (with_param f b (types x)) n u) (sym same) (new_typed f b (types x));
    })

pub zeroes_used : (types : VariableTypes) (own : Own) (f g : Body) (s t : SsaState) (x : ℕ) (ty : «Type») (b : ℕ) → ty ≡ types x → Firm f → Housed f → b < length f.blocks
    → record_of s x b ≡ None → is_yes (sealed_of s b) ≡ true → Zeroes s t f g x ty b → SamePredecessors s t → Structured types own f s []
    → Used types own g t (length f.values + 1 + steps_before ty) ty
zeroes_used types own f g s t x ty b same firm housed there none sealed zeroes same_before before =
    let c : Task = use_task types own x in
    let n : ℕ = length f.values in
    let h : Body = with_param f b (types x) in
    let p : Pending = new_pending f x in
    let writes : Writes s t x n = written s t x n (λ d. d == b) zeroes.recorded in
    let begun : Runs c h t (calls_for (predecessors_of s b) n b ++ []) [] =
    runs_begins c f s t [] [] b (idle types own x f s firm housed before) there writes (recorded_there s t x b n zeroes.recorded) none same_before sealed zeroes.unchanged in
    let waiting : Structured types own h t (p ∷ []) = subst (λ ps. Structured types own h t (ps ++ [])) (begun_awaited x (predecessors_of s b) n b []) begun.structured in
    let firm_h : Firm h = param_firm f b (types x) firm there in
    let housed_h : Housed h = add_housed f b (types x) firm housed there in
    let home : param_home h n ≡ Some b = param_home_new f b (types x) in
    let sealed_there : is_yes (sealed_of t b) ≡ true = ap is_yes (zeroes.unchanged b) ∙ sealed in
    let is : g ≡ zeroed h b n = zeroes.function ∙ ap (λ u. zeroed (with_param f b u) b n) same in
    subst (λ k. Used types own k t (n + 1 + steps_before ty) ty) (sym is) (record {
      structured = zero_structured types own h t p [] b firm_h housed_h home sealed_there waiting;
      typed = subst (λ u. HasType (zeroed h b n) (n + 1 + steps_before u) u) (sym same)
          (subst (λ v. HasType (zeroed h b n) v (types x)) (param_zero_value f b (types x))
          (zero_typed own.insts h b n (types x) firm_h home (needed_of types own h t (p ∷ []) waiting) (new_typed f b (types x))));
    })

-- A BLOCK IS SEALED -----------------------------------------------------------------------------------------------

-- each parameter of the list is one of the block, which is sealed
abbrev pub AllHome : Body → SsaState → ℕ → List Pending → Type 0
AllHome f s b ps = (q : Pending) → Contains ps q → IsHome f s q.param b

-- what waits in a block is one of its parameters
pub waiting_home : (own : Own) (f : Body) (s : SsaState) (ps : List Pending) (b : ℕ) → Housed f → HasParameters own f s ps b → (q : Pending)
    → Contains (waiting_in f s ps b) q → param_home f q.param ≡ Some b
waiting_home own f s ps b housed has q here =
    let among : Contains (block_at f b).params q.param =
    subst (λ xs. Contains xs q.param) (sym has.in_order)
    (Contains-append_right (own.params b) _ q.param (Contains-append_right has.complete _ q.param (in_params (waiting_in f s ps b) q here))) in
    let at : slice_index (block_at f b).params among.0 ≡ q.param = entry_any (block_at f b).params among.0 0 q.param among.1 ∙ among.2 in
    housed.known q.param b (among.0, among.1, at)

pub pending_waits : (f : Body) (entry : Sealed) (ps : List Pending) (b : ℕ) (q : Pending) → Contains (pending_of entry) q → Contains (waiting_of f entry ps b) q
pending_waits f (No pending) ps b q here = here
pending_waits f Yes ps b q here = absurd (none_contained q here)

-- all that waited in the block is completed from then on
pub sealed_structured : (types : VariableTypes) (own : Own) (f : Body) (s t : SsaState) (b : ℕ) → Housed f → ((x c : ℕ) → record_of t x c ≡ record_of s x c)
    → Seals s t b → SamePredecessors s t → Structured types own f s []
    → Structured types own f t (pending_of (sealed_of s b)) × AllHome f t b (pending_of (sealed_of s b))
sealed_structured types own f s t b housed same seals same_before before =
    let ps : List Pending = pending_of (sealed_of s b) in
    let now : sealed_of t b ≡ Yes = seals b ∙ seal_here b b _ _ refl in
    let other : (c : ℕ) → c ≢ b → sealed_of t c ≡ sealed_of s c = λ c apart. seals c ∙ seal_other c b Yes (sealed_of s c) apart in
    let homes : (q : Pending) → Contains ps q → param_home f q.param ≡ Some b =
    λ q here. waiting_home own f s [] b housed (before.parameters b) q (pending_waits f (sealed_of s b) [] b q here) in
    let same_waiting : (c : ℕ) → waiting_in f t ps c ≡ waiting_in f s [] c =
    λ c.
    elim (cases_eq c b) [
      | inl at ↦
          ap (λ d. waiting_in f t ps d) at ∙ ap (λ e. waiting_of f e ps b) now
          ∙ parameters_all f b ps (λ q here. is_parameter f b q (homes q here)) ∙ was (sealed_of s b) b ∙ ap (λ d. waiting_in f s [] d) (sym at)
      | inr apart ↦ ap (λ e. waiting_of f e ps c) (other c apart) ∙ elsewhere (sealed_of s c) ps c (λ q here. is_parameter_elsewhere f c b q (homes q here) (λ one. apart (sym one)))
    ] in
    let flag : (c : ℕ) → is_yes (sealed_of s c) ≡ true → is_yes (sealed_of t c) ≡ true =
    λ c is.
    elim (cases_eq c b) [ inl at ↦ ap (λ d. is_yes (sealed_of t d)) at ∙ ap is_yes now | inr apart ↦ ap is_yes (other c apart) ∙ is ] in (
      record {
        parameters = λ c.
            block_kept own f f s t [] ps c (edges_keep_itself f c) refl (same_waiting c) (flag c) (same_before c) (λ i k here leads. (leads, refl)) (before.parameters c);
        alias_types = before.alias_types;
        zeros = before.zeros;
        recorded = λ x c v is. before.recorded x c v (sym (same x c) ∙ is);
        waiting = λ c p here.
            let old : HasType f p.param (types p.variable) × (record_of s p.variable c ≢ None) = before.waiting c p (subst (λ ws. Contains ws p) (same_waiting c) here) in
            (old.0, λ none. old.1 (sym (same p.variable c) ∙ none));
        leading = λ c i here. before.leading c i (subst (λ xs. Contains xs i) (same_before c) here);
        leading_once = λ c. subst Once (sym (same_before c)) (before.leading_once c);
      },
      λ q here. (homes q here, ap is_yes now),
    )
  where
    was : (entry : Sealed) (c : ℕ) → pending_of entry ≡ waiting_of f entry [] c
    was (No pending) c = refl
    was Yes c = refl

    elsewhere : (entry : Sealed) (ps : List Pending) (c : ℕ) → ((q : Pending) → Contains ps q → is_parameter_of f c q ≡ false) → waiting_of f entry ps c ≡ waiting_of f entry [] c
    elsewhere (No pending) ps c none = refl
    elsewhere Yes ps c none = parameters_none f c ps none

-- parameters to which nothing comes are completed
pub completed_structured : (types : VariableTypes) (own : Own) (s : SsaState) (b : ℕ) (ps : List Pending) (f : Body) → Firm f → Housed f → AllHome f s b ps
    → Structured types own f s ps → Structured types own (completed f ps) s []
completed_structured types own s b [] f firm housed homes before = before
completed_structured types own s b (p ∷ ps) f firm housed homes before =
    let home : IsHome f s p.param b = homes p (contains_first p ps) in
    let g : Body = zeroed f b p.param in
    let takes : TakesAway f g p.param b = zero_takes f b p.param firm home.0 in
    let apart : (q : Pending) → Contains ps q → q.param ≢ p.param = first_apart types own f s p ps b housed home.0 home.1 before in
    subst (λ h. Structured types own (completed (zeroed_in h f p.param) ps) s []) (sym home.0)
    (completed_structured types own s b ps g (zeroed_leaves f b p.param firm home.0).firm (zeroed_housed f b p.param firm housed home.0)
    (λ q here. let old : IsHome f s q.param b = homes q (contains_more p ps q here) in (takes.others q.param (apart q here) ∙ old.0, old.1))
    (zero_structured types own f s p ps b firm housed home.0 home.1 before))

-- what the completion of a parameter leaves, while others of its block are completed later
pub record Completes (types : VariableTypes) (own : Own) (b : ℕ) (rest : List Pending) (n : Stage) : Type 0 where
  pub structured : Structured types own n.function n.state rest
  pub homes : AllHome n.function n.state b rest
  pub firm : Firm n.function
  pub housed : Housed n.function
  pub calls : n.look_up.calls ≡ []
  pub results : n.look_up.results ≡ []

same_some : {x y : ℕ} → ◌≡◌ {A = Option ℕ} (Some x) (Some y) → x ≡ y
same_some same = cc

pub completes : (types : VariableTypes) (own : Own) (p : Pending) (b : ℕ) (rest : List Pending) (m n : Stage)
    → Completes types own b (p ∷ rest) m → CompletesParameter p.variable (value_at m.function p.param).ty p.param b m n → Completes types own b rest n
completes types own p b rest m n before complete =
    let c : Task = record { types = types; own = own; variable = p.variable; rest = rest; block = b } in
    let t : SsaState = complete.begun.state in
    let home : IsHome m.function m.state p.param b = before.homes p (contains_first p rest) in
    let waits : Contains (waiting_in m.function m.state (p ∷ rest) b) p =
    subst (λ ws. Contains ws p) (sym (waiting_first m.function m.state p rest b home.0 home.1)) (contains_first p (waiting_in m.function m.state rest b)) in
    let recorded : record_of m.state p.variable b ≢ None = (before.structured.waiting b p waits).1 in
    let same : (value_at m.function p.param).ty ≡ types p.variable = (before.structured.waiting b p waits).0.1 in
    let calls : List Call = calls_for (predecessors_of m.state b) p.param b in
    let list : p ∷ rest ≡ completing_of c (calls ++ []) = ap (λ ws. ws ++ rest) (sym (begun_awaited p.variable (predecessors_of m.state b) p.param b [])) in
    let flag : is_yes (sealed_of t b) ≡ true = ap is_yes (complete.same_blocks b) ∙ home.1 in
    let start : Runs c m.function t (calls ++ []) [] = record {
      structured = subst (Structured types own m.function t) list
          (same_structured types own m.function m.state t (p ∷ rest) complete.same_records complete.same_blocks complete.same_predecessors before.structured);
      recorded = subst (HomesRecorded m.function t p.variable) list
          (λ q d here is none.
          recorded (sym (complete.same_records p.variable b) ∙ ap (record_of t p.variable) (same_some (sym (before.homes q here).0 ∙ is)) ∙ none));
      homes = begun_home m.function t (predecessors_of m.state b) p.param b [] (home.0, flag) tt;
      rest_homes = λ q here. ((before.homes q (contains_more p rest q here)).0, flag);
      typed = λ r here. absurd (none_contained r here);
      firm = before.firm;
      housed = before.housed;
    } in
    let begun : RunsAt c complete.begun =
    at_stage c complete.begun m.function t (calls ++ []) [] complete.same_function refl
    (ap (λ (l : LookUpState). l.calls) complete.begins.look_up ∙ ap (λ cs. calls ++ cs) before.calls)
    (ap (λ (l : LookUpState). l.results) complete.begins.look_up ∙ before.results) start in
    let done : RunsAt c complete.done = makes_calls c begun (subst (λ u. MakesCalls p.variable u complete.begun complete.done) same complete.made) in
    subst (Completes types own b rest) (sym complete.next) (record {
      structured = subst (λ cs. Structured types own complete.done.function complete.done.state (completing_of c cs)) complete.ended done.structured;
      homes = done.rest_homes;
      firm = done.firm;
      housed = done.housed;
      calls = complete.ended;
      results = refl;
    })

pub completes_all : (types : VariableTypes) (own : Own) (b : ℕ) (ps : List Pending) (m n : Stage) → Completes types own b ps m → CompletesAll b ps m n
    → Completes types own b [] n
completes_all types own b [] m n before same = subst (Completes types own b []) (sym same) before
completes_all types own b (p ∷ ps) m n before all =
    completes_all types own b ps all.0 n (completes types own p b ps m all.0 before all.1) all.2
