-- The machine that looks a variable up keeps the structure: look-ups end, and calls are made in turn.
use Rattle.std.proofs.Common.{◌≡◌, ◌≢◌, ℕ, ◌<◌, ◌≤◌, true, List, ◌∷◌, ◌++◌, length, refl, ap, arith, sym, ◌∙◌, subst, ◌⊎◌, inl, inr, ◌+◌}
use Rattle.std.specs.Prelude.{Option, Some, None, Contains, reverse}
use Rattle.std.proofs.lemmas.List.{length-reverse}
use Rattle.std.proofs.lemmas.List.Elements.{Contains-append_left, Contains-append_right}
use Rattle.clif_types.specs.declared.types.«Type».{«Type»}
use Rattle.clif_ir.specs.Body.{Body, value_at, resolved}
use Rattle.clif_ir.specs.Changes.{with_alias, with_param, inserted_in}
use Rattle.clif_ir.specs.Reading.{param_home}
use Rattle.clif_instructions.specs.Members.{stands_in}
use Rattle.clif_ssa.specs.Own.{Own}
use Rattle.clif_records.specs.declared.look_up.Call.{Call}
use Rattle.clif_records.specs.declared.look_up.Call.TheVariants.{UseVar, FinishPredecessorsLookup}
use Rattle.clif_records.specs.declared.tables.Pending.{Pending}
use Rattle.clif_records.specs.Tables.{is_yes}
use Rattle.clif_ssa.specs.Ssa.{SsaState, sealed_of, predecessors_of, zeroed, zero_value}
use Rattle.clif_records.specs.Passed.{before_first}
use Rattle.clif_records.specs.Stacks.{LookUpState, calls_for}
use Rattle.clif_ssa.specs.LookUp.{Stage, branch_block, with_arguments, with_calls, OneComes, SeveralCome, IsNoParameter, EndsLookUp, LooksUp, FinishesLookUp, MakesCall, MakesCalls, none_made, made}
use Rattle.clif_ssa.specs.Structured.{VariableTypes, HasType, Structured, waiting_in}
use Rattle.clif_ssa.proofs.Bodies.{Firm, resolved_twice}
use Rattle.clif_ssa.proofs.Housing.{Housed}
use Rattle.clif_ssa.proofs.Ordering.{contains_first, contains_more}
use Rattle.clif_ssa.proofs.Framing.{contains_in, of_reversed, resolved_inside}
use Rattle.clif_ssa.proofs.Alike.{EndsIn, can_zero, zeroed_leaves, zeroed_ends}
use Rattle.clif_ssa.proofs.Aliasing.{drop_can, drop_firm, drop_housed}
use Rattle.clif_ssa.proofs.Completing.{inserted_same, inserted_firm, inserted_param_home}
use Rattle.clif_ssa.proofs.Counting.{zero_housed, inserted_housed}
use Rattle.clif_ssa.proofs.Filling.{filled_firm, filled_housed}
use Rattle.clif_ssa.proofs.Passing.{Passing, AllExist, arguments_pass}
use Rattle.clif_ssa.proofs.NeededZeros.{OnlyNeeded, zeroed_needed}
use Rattle.clif_ssa.proofs.Zeroing.{CanAlias, alias_count_same}
use Rattle.clif_ssa.proofs.Structuring.{Grows, grows_longer, typed_kept, written}
use Rattle.clif_ssa.proofs.StructuredSteps.{TakesAway, dropped, waiting_first, first_apart}
use Rattle.clif_ssa.proofs.StructuredEnds.{Fills, Given, zero_takes, value_takes, value_needed, given, elsewhere, two_apart, filled}
use Rattle.clif_ssa.proofs.StructuredMachine.{awaited, IsHome, Task, completing_of, Runs, calls_home_kept, rest_kept, results_kept, finds, copied_here, runs_waits, runs_begins}
use Rattle.clif_ssa.proofs.ZeroSteps.{put_zero, zero_count}
use Rattle.clif_ssa.specs.Zeros.{steps_before}

-- A ZERO ----------------------------------------------------------------------------------------------------------

zero_inside : (f : Body) (b v : ℕ) → zero_value f (value_at f v).ty < length (zeroed f b v).values
zero_inside f b v =
    let h : Body = inserted_in f b in
    let ty : «Type» = (value_at f v).ty in
    let count : length h.values ≡ length f.values = ap length (inserted_same f b).values in
    omega (arith, count, zero_count h b ty, alias_count_same (put_zero h b ty) v (zero_value f ty))

pub zeroed_housed : (f : Body) (b v : ℕ) → Firm f → Housed f → param_home f v ≡ Some b → Housed (zeroed f b v)
zeroed_housed f b v firm housed home =
    let h : Body = inserted_in f b in
    let ty : «Type» = (value_at f v).ty in
    let k : Body = put_zero h b ty in
    let count : length h.values ≡ length f.values = ap length (inserted_same f b).values in
    let can : CanAlias k v (zero_value h ty) b = can_zero h b v ty (inserted_firm f b firm) (inserted_param_home f b v ∙ home) in
    subst (λ n. Housed (with_alias k v (n + steps_before ty))) count
    (drop_housed k v (zero_value h ty) b can.firm (zero_housed h b ty (inserted_housed f b housed)) can.parameter can.exists can.own_end can.apart)

-- the zero has the type of the parameter
pub zero_typed : (own : ℕ → List ℕ) (f : Body) (b v : ℕ) (ty : «Type») → Firm f → param_home f v ≡ Some b → OnlyNeeded own f → HasType f v ty
    → HasType (zeroed f b v) (zero_value f (value_at f v).ty) ty
zero_typed own f b v ty firm home before typed =
    let g : Body = zeroed f b v in
    let ends : EndsIn g v (zero_value f (value_at f v).ty) = zeroed_ends f b v firm home in
    let takes : TakesAway f g v b = zero_takes f b v firm home in
    let needed : OnlyNeeded own g = zeroed_needed own f b v firm home before in
    (zero_inside f b v, ap (λ u. (value_at g u).ty) (sym ends.first) ∙ needed.alias_types v ∙ takes.longer.types_same v typed.0 ∙ typed.1)

pub needed_of : (types : VariableTypes) (own : Own) (f : Body) (s : SsaState) (ps : List Pending) → Structured types own f s ps → OnlyNeeded own.insts f
needed_of types own f s ps before = record { alias_types = before.alias_types; zeros = before.zeros }

-- the first of those that are completed becomes a name of a zero
pub zero_structured : (types : VariableTypes) (own : Own) (f : Body) (s : SsaState) (p : Pending) (ps : List Pending) (b : ℕ) → Firm f → Housed f
    → param_home f p.param ≡ Some b → is_yes (sealed_of s b) ≡ true → Structured types own f s (p ∷ ps) → Structured types own (zeroed f b p.param) s ps
zero_structured types own f s p ps b firm housed home sealed before =
    dropped types own f (zeroed f b p.param) s p ps b firm housed home sealed (zero_takes f b p.param firm home)
    (zeroed_needed own.insts f b p.param firm home (needed_of types own f s (p ∷ ps) before)) before

-- ENDS ------------------------------------------------------------------------------------------------------------

-- the first of those that are completed has the type of its variable
pub first_typed : (types : VariableTypes) (own : Own) (f : Body) (s : SsaState) (p : Pending) (ps : List Pending) (b : ℕ) → IsHome f s p.param b
    → Structured types own f s (p ∷ ps) → HasType f p.param (types p.variable)
first_typed types own f s p ps b home before =
    (before.waiting b p (subst (λ ws. Contains ws p) (sym (waiting_first f s p ps b home.0 home.1)) (contains_first p (waiting_in f s ps b)))).0

module _ (c : Task) (f : Body) (s : SsaState) (calls : List Call) (results used others : List ℕ) (param block : ℕ)
    (runs : Runs c f s (FinishPredecessorsLookup param block ∷ calls) results) (taken : results ≡ used ++ others)
    (count : length used ≡ length (predecessors_of s block)) where
  abbrev x : ℕ
  x = c.variable

  abbrev ty : «Type»
  ty = c.types c.variable

  abbrev p : Pending
  p = record { variable = c.variable; param = param }

  abbrev ps : List Pending
  ps = completing_of c calls

  home : IsHome f s param block
  home = runs.homes.0

  before : Structured c.types c.own f s (p ∷ ps)
  before = runs.structured

  apart : (q : Pending) → Contains ps q → q.param ≢ param
  apart = first_apart c.types c.own f s p ps block runs.housed home.0 home.1 before

  param_typed : HasType f param ty
  param_typed = first_typed c.types c.own f s p ps block home before

  used_typed : (r : ℕ) → Contains (reverse used) r → HasType f r ty
  used_typed r here = runs.typed r (subst (λ rs. Contains rs r) (sym taken) (Contains-append_left used others r (contains_in used r (of_reversed used r here))))

  others_typed : (r : ℕ) → Contains others r → HasType f r ty
  others_typed r here = runs.typed r (subst (λ rs. Contains rs r) (sym taken) (Contains-append_right used others r here))

  -- what the end leaves, once it is known of the function
  ended : (g : Body) (value : ℕ) → Structured c.types c.own g s ps → ((u : ℕ) → u ≢ param → param_home g u ≡ param_home f u) → Grows f g → HasType g value ty
      → Firm g → Housed g → Runs c g s calls (value ∷ others)
  ended g value structured same grows typed firm housed = record {
    structured = structured;
    recorded = λ q d here is. runs.recorded q d (contains_more p ps q here) (sym (same q.param (apart q here)) ∙ is);
    homes = calls_home_kept x f g s s calls (λ q here. same q.param (apart q (Contains-append_left (awaited x calls) c.rest q here))) (λ b. refl) runs.homes.1;
    rest_homes = rest_kept c f g s s (λ q here. same q.param (apart q (Contains-append_right (awaited x calls) c.rest q here))) (λ b. refl) runs.rest_homes;
    typed = results_kept f g ty others value grows typed others_typed;
    firm = firm;
    housed = housed;
  }

  ends_in_zero : Runs c (zeroed f block param) s calls (zero_value f (value_at f param).ty ∷ others)
  ends_in_zero =
      let takes : TakesAway f (zeroed f block param) param block = zero_takes f block param runs.firm home.0 in
      ended (zeroed f block param) (zero_value f (value_at f param).ty) (zero_structured c.types c.own f s p ps block runs.firm runs.housed home.0 home.1 before)
      takes.others (grows_longer f (zeroed f block param) takes.longer)
      (zero_typed c.own.insts f block param ty runs.firm home.0 (needed_of c.types c.own f s (p ∷ ps) before) param_typed)
      (zeroed_leaves f block param runs.firm home.0).firm (zeroed_housed f block param runs.firm runs.housed home.0)

  ends_in_value : (value : ℕ) → OneComes f param value (reverse used) → Runs c (with_alias f param value) s calls (value ∷ others)
  ends_in_value value one =
      let g : Body = with_alias f param value in
      let came : HasType f one.comes.0 ty = used_typed one.comes.0 one.comes.1 in
      let exists : value < length f.values = omega (arith, resolved_inside f one.comes.0 runs.firm came.0, one.comes.2) in
      let ends : resolved f value ≡ value = ap (λ w. resolved f w) (sym one.comes.2) ∙ resolved_twice f runs.firm one.comes.0 ∙ one.comes.2 in
      let typed : (value_at f value).ty ≡ ty = ap (λ w. (value_at f w).ty) (sym one.comes.2) ∙ before.alias_types one.comes.0 ∙ came.1 in
      let can : CanAlias f param value block = drop_can f param value block runs.firm home.0 exists ends one.other in
      let takes : TakesAway f g param block = value_takes f block param value can in
      ended g value
      (dropped c.types c.own f g s p ps block runs.firm runs.housed home.0 home.1 takes
      (value_needed f block param value can c.own.insts (typed ∙ sym param_typed.1) (needed_of c.types c.own f s (p ∷ ps) before)) before)
      takes.others (grows_longer f g takes.longer) (typed_kept f g value ty (grows_longer f g takes.longer) (exists, typed))
      (drop_firm f param value block runs.firm home.0 exists ends one.other) (drop_housed f param value block runs.firm runs.housed home.0 exists ends one.other)

  ends_in_parameter : SeveralCome f param (reverse used) → Runs c (with_arguments f block (predecessors_of s block) (reverse used)) s calls (param ∷ others)
  ends_in_parameter several =
      let branches : List ℕ = predecessors_of s block in
      let values : List ℕ = reverse used in
      let g : Body = with_arguments f block branches values in
      let exist : AllExist f branches = λ i here. before.leading block i here in
      let passing : Passing block f g = arguments_pass branches values f block exist in
      let long : length values ≡ length branches = length-reverse used ∙ count in
      let two : 2 ≤ length branches =
      subst (λ n. 2 ≤ n) long (two_apart values several.first several.second several.first_comes several.second_comes (λ same. several.apart (ap (resolved f) same))) in
      let grows : Grows f g = record {
        more = omega (arith, ap (λ (h : Body). length h.values) passing.same);
        types = λ v here. ap (λ (h : Body). (value_at h v).ty) passing.same;
      } in
      let fills : Fills f g s block (value_at f param).ty = record {
        passing = passing;
        more = λ i k here leads.
            let one : Given f g i k values = given branches values f block i k exist (before.leading_once block) long here leads in
            (one.value, subst (λ t. HasType f one.value t) (sym param_typed.1) (used_typed one.value one.among), one.args);
        others = λ i k other. elsewhere branches values f block i k exist other;
      } in
      ended g param (filled c.types c.own f g s p ps block runs.firm home.0 home.1 two fills before)
      (λ u other. ap (λ (h : Body). param_home h u) passing.same) grows (typed_kept f g param ty grows param_typed)
      (filled_firm block f g passing runs.firm) (filled_housed block f g passing runs.housed)

same_some : {a b : ℕ} → ◌≡◌ {A = Option ℕ} (Some a) (Some b) → a ≡ b
same_some same = cc

none_some : {a : ℕ} → ◌≡◌ {A = Option ℕ} None (Some a) → ⊥
none_some same = cc

-- the look-up of a parameter ends
pub finishes : (c : Task) (f g : Body) (s : SsaState) (calls : List Call) (results used others zeros : List ℕ) (param block value : ℕ)
    → Runs c f s (FinishPredecessorsLookup param block ∷ calls) results → results ≡ used ++ others → length used ≡ length (predecessors_of s block)
    → IsNoParameter param f g value zeros ⊎ ((home : ℕ) × (param_home f param ≡ Some home) × EndsLookUp param home block (predecessors_of s block) (reverse used) f g value zeros)
    → Runs c g s calls (value ∷ others)
finishes c f g s calls results used others zeros param block value runs taken count (inl no_parameter) = absurd (none_some (sym no_parameter.gone ∙ runs.homes.0.0))
finishes c f g s calls results used others zeros param block value runs taken count (inr ends) =
    let at : ends.0 ≡ block = same_some (sym ends.1 ∙ runs.homes.0.0) in
    elim ends.2 [
      | inl zero ↦ turned (zeroed f block param) (zero_value f (value_at f param).ty) (zero.function ∙ ap (λ b. zeroed f b param) at) zero.answer (ends_in_zero c f s calls results used others param block runs taken count)
      | inr more ↦
          elim more [
            | inl one ↦ turned (with_alias f param value) value one.function refl (ends_in_value c f s calls results used others param block runs taken count value one.one)
            | inr several ↦
                turned (with_arguments f block (predecessors_of s block) (reverse used)) param several.function several.answer
                (ends_in_parameter c f s calls results used others param block runs taken count several.several)
          ]
    ]
  where
    turned : (h : Body) (v : ℕ) → g ≡ h → value ≡ v → Runs c h s calls (v ∷ others) → Runs c g s calls (value ∷ others)
    turned h v same_body same_value done =
        subst (λ k. Runs c k s calls (value ∷ others)) (sym same_body) (subst (λ w. Runs c h s calls (w ∷ others)) (sym same_value) done)

-- STAGES ----------------------------------------------------------------------------------------------------------

abbrev pub RunsAt : Task → Stage → Type 0
RunsAt c m = Runs c m.function m.state m.look_up.calls m.look_up.results

pub at_stage : (c : Task) (n : Stage) (g : Body) (s : SsaState) (calls : List Call) (results : List ℕ) → n.function ≡ g → n.state ≡ s → n.look_up.calls ≡ calls → n.look_up.results ≡ results
    → Runs c g s calls results → RunsAt c n
at_stage c n g s calls results same_body same_state same_calls same_results runs =
    subst (λ h. Runs c h n.state n.look_up.calls n.look_up.results) (sym same_body)
    (subst (λ t. Runs c g t n.look_up.calls n.look_up.results) (sym same_state)
    (subst (λ cs. Runs c g s cs n.look_up.results) (sym same_calls) (subst (λ rs. Runs c g s calls rs) (sym same_results) runs)))

abbrev calls_of : LookUpState → List Call
calls_of l = l.calls

abbrev results_of : LookUpState → List ℕ
results_of l = l.results

pub looks_up : (c : Task) (b : ℕ) (m n : Stage) → RunsAt c m → LooksUp c.variable (c.types c.variable) b m n → RunsAt c n
looks_up c b m n runs (inl found) =
    at_stage c n m.function n.state m.look_up.calls (found.value ∷ m.look_up.results) found.function refl (ap calls_of found.look_up) (ap results_of found.look_up)
    (finds c m.function m.state n.state m.look_up.calls m.look_up.results found.passed found.reached found.value runs found.is_recorded found.copies found.blocks found.predecessors)
looks_up c b m n runs (inr (inl waits)) =
    let blocks : List ℕ = before_first waits.reached waits.adds.passed in
    at_stage c n (with_param m.function waits.reached (c.types c.variable)) n.state m.look_up.calls (length m.function.values ∷ m.look_up.results) waits.adds.function refl
    (ap calls_of waits.look_up) (ap results_of waits.look_up)
    (runs_waits c m.function m.state n.state m.look_up.calls m.look_up.results waits.reached runs waits.adds.exists
    (written m.state n.state c.variable (length m.function.values) (λ d. stands_in d (waits.reached ∷ blocks)) waits.adds.copies)
    (copied_here m.state n.state c.variable (length m.function.values) waits.reached blocks waits.adds.copies) waits.adds.unrecorded waits.adds.predecessors
    waits.unsealed waits.blocks)
looks_up c b m n runs (inr (inr begins)) =
    let blocks : List ℕ = before_first begins.reached begins.adds.passed in
    at_stage c n (with_param m.function begins.reached (c.types c.variable)) n.state
    (calls_for (predecessors_of m.state begins.reached) (length m.function.values) begins.reached ++ m.look_up.calls) m.look_up.results begins.adds.function refl
    (ap calls_of begins.begins.look_up) (ap results_of begins.begins.look_up)
    (runs_begins c m.function m.state n.state m.look_up.calls m.look_up.results begins.reached runs begins.adds.exists
    (written m.state n.state c.variable (length m.function.values) (λ d. stands_in d (begins.reached ∷ blocks)) begins.adds.copies)
    (copied_here m.state n.state c.variable (length m.function.values) begins.reached blocks begins.adds.copies) begins.adds.unrecorded begins.adds.predecessors
    begins.is_sealed begins.blocks)

-- a call is made
pub makes_call : (c : Task) (m n : Stage) → RunsAt c m → MakesCall c.variable (c.types c.variable) m n → RunsAt c n
makes_call c m n runs (inl look) =
    let next : Runs c m.function m.state (UseVar look.branch ∷ look.calls) m.look_up.results = subst (λ cs. Runs c m.function m.state cs m.look_up.results) look.is_next runs in
    looks_up c (branch_block m.function look.branch) (with_calls m look.calls) n
    (record {
      structured = next.structured;
      recorded = next.recorded;
      homes = next.homes;
      rest_homes = next.rest_homes;
      typed = next.typed;
      firm = next.firm;
      housed = next.housed;
    })
    look.looks
makes_call c m n runs (inr finish) =
    let next : Runs c m.function m.state (FinishPredecessorsLookup finish.param finish.block ∷ finish.calls) m.look_up.results =
    subst (λ cs. Runs c m.function m.state cs m.look_up.results) finish.is_next runs in
    let end : FinishesLookUp finish.param finish.block (with_calls m finish.calls) n = finish.finishes in
    at_stage c n n.function m.state finish.calls (end.value ∷ end.others) refl end.state (ap calls_of end.look_up) (ap results_of end.look_up)
    (finishes c m.function n.function m.state finish.calls m.look_up.results end.results end.others end.zeros finish.param finish.block end.value next end.taken end.count end.ends)

pub makes_calls : (c : Task) {m n : Stage} → RunsAt c m → MakesCalls c.variable (c.types c.variable) m n → RunsAt c n
makes_calls c runs none_made = runs
makes_calls c runs (made {n = between} {k = last} first call) = makes_call c between last (makes_calls c runs first) call
