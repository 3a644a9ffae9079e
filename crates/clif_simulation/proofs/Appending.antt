-- Parameters of the caller's that are put at the end of those of a block, one after the other: the function, what the caller
-- made, and the tables.
use Rattle.std.proofs.Common.{◌≡◌, ◌≢◌, ◌⊎◌, ℕ, zero, suc, ◌+◌, ◌<◌, ◌≤◌, List, [], ◌∷◌, ◌++◌, length, map, inl, inr, refl, sym, ◌∙◌, ap, subst, arith, Some, append_assoc}
use Rattle.std.specs.Prelude.{slice_get}
use Rattle.std.proofs.Math.Decide.{ℕ_discrete}
use Rattle.std.proofs.Math.ListN.{get_or-append}
use Rattle.std.proofs.lemmas.Grind.{common_steps}
use Rattle.std.proofs.lemmas.List.{append-nil}
use Rattle.clif_types.specs.declared.types.«Type».{«Type»}
use Rattle.clif_nodes.specs.declared.nodes.InstNode.{InstNode}
use Rattle.clif_nodes.specs.declared.nodes.ValueNode.{ValueNode}
use Rattle.clif_ir.specs.Body.{Body, inst_at, block_at, value_at}
use Rattle.clif_nodes.specs.Nodes.{no_value}
use Rattle.clif_ir.specs.Changes.{with_param}
use Rattle.clif_paths.specs.Places.{Place}
use Rattle.clif_paths.specs.State.{Naming, fresh}
use Rattle.clif_paths.specs.Steps.{IsNewName}
use Rattle.clif_paths.specs.Blocks.{Blocks, front, state_of, with_born}
use Rattle.clif_paths.proofs.Tables.{updated-same, updated-other}
use Rattle.clif_ssa.specs.Constructs.{MayPassMore}
use Rattle.clif_ssa.specs.Own.{Own, with_own_param}
use Rattle.clif_ssa.specs.Ssa.{SsaState}
use Rattle.clif_ssa.specs.SoundLaws.{DescribesSoundly}
use Rattle.clif_ssa.specs.Structured.{HasType, Structured, VariableTypes}
use Rattle.clif_ssa.proofs.Bodies.{Firm}
use Rattle.clif_ssa.proofs.CallersParameters.{callers_described}
use Rattle.clif_ssa.proofs.Constructing.{more_none}
use Rattle.clif_ssa.proofs.Parameters.{param_count, param_firm, param_node, param_params}
use Rattle.clif_ssa.proofs.StructuredLaws.{parameter_structured}
use Rattle.clif_meaning.specs.Name.{Name, answer_of}
use Rattle.clif_meaning.specs.Program.{answers_from}
use Rattle.clif_simulation.specs.Tables.{code}
use Rattle.clif_simulation.specs.Carries.{with_params}
use Rattle.clif_simulation.proofs.Codes
use Rattle.clif_simulation.proofs.Finished.Giving.{In}
use Rattle.clif_simulation.proofs.Growing.{GoesOn, entries_same}

-- what the caller made then
abbrev pub own_after : Own → Body → ℕ → List «Type» → Own
own_after own f b [] = own
own_after own f b (ty ∷ types) = own_after (with_own_param own b (length f.values)) (with_param f b ty) b types

-- the tables then: the names are the answers of a call from this index on
abbrev pub tables_after : Blocks → Body → ℕ → ℕ → ℕ → List «Type» → Blocks
tables_after T f b place index [] = T
tables_after T f b place index (ty ∷ types) =
    tables_after (with_born T (front b) (code (answer_of place index)) (length f.values)) (with_param f b ty) b place (suc index) types

-- THE FUNCTION ----------------------------------------------------------------------------------------------------------

pub same_insts : (f : Body) (b : ℕ) (types : List «Type») → (with_params f b types).insts ≡ f.insts
same_insts f b [] = refl
same_insts f b (ty ∷ types) = same_insts (with_param f b ty) b types

pub same_layout : (f : Body) (b : ℕ) (types : List «Type») → (with_params f b types).layout ≡ f.layout
same_layout f b [] = refl
same_layout f b (ty ∷ types) = same_layout (with_param f b ty) b types

one_typed : (f : Body) (b : ℕ) (t : «Type») (v : ℕ) (ty : «Type») → HasType f v ty → HasType (with_param f b t) v ty
one_typed f b t v ty typed =
    (let more = param_count f b t in omega (arith, typed.0, more), ap (λ (n : ValueNode). n.ty) (get_or-append f.values (param_node t b ∷ []) no_value v typed.0) ∙ typed.1)

-- values keep their types
pub typed_still : (f : Body) (b : ℕ) (types : List «Type») (v : ℕ) (ty : «Type») → HasType f v ty → HasType (with_params f b types) v ty
typed_still f b [] v ty typed = typed
typed_still f b (t ∷ types) v ty typed = typed_still (with_param f b t) b types v ty (one_typed f b t v ty typed)

new_typed : (f : Body) (b : ℕ) (t : «Type») → HasType (with_param f b t) (length f.values) t
new_typed f b t = (let more = param_count f b t in omega (arith, more), ap (λ (n : ValueNode). n.ty) (at_end f.values))
  where
    at_end : (values : List ValueNode) → value_at (record f { values = values ++ param_node t b ∷ [] }) (length values) ≡ param_node t b
    at_end [] = refl
    at_end (n ∷ values) = at_end values

-- and the new ones have theirs
pub typed_now : (f : Body) (b : ℕ) (types : List «Type») (k : ℕ) (ty : «Type») → slice_get types k ≡ Some ty → HasType (with_params f b types) (length f.values + k) ty
typed_now f b [] zero ty is = cc
typed_now f b [] (suc k) ty is = cc
typed_now f b (t ∷ types) zero ty is =
    let same : t ≡ ty = cc in
    let first : length f.values ≡ length f.values + 0 = omega arith in
    subst (λ (v : ℕ). HasType (with_params (with_param f b t) b types) v ty) first
    (typed_still (with_param f b t) b types (length f.values) ty (subst (HasType (with_param f b t) (length f.values)) same (new_typed f b t)))
typed_now f b (t ∷ types) (suc k) ty is =
    let more = param_count f b t in
    let later : length (with_param f b t).values + k ≡ length f.values + suc k = omega (arith, more) in
    subst (λ (v : ℕ). HasType (with_params (with_param f b t) b types) v ty) later (typed_now (with_param f b t) b types k ty is)

more_values : (f : Body) (b : ℕ) (types : List «Type») → length f.values ≤ length (with_params f b types).values
more_values f b [] = omega arith
more_values f b (t ∷ types) = let rest = more_values (with_param f b t) b types in let more = param_count f b t in omega (arith, rest, more)

params_tables : (f : Body) (b : ℕ) (types : List «Type») → (with_params f b types).tables ≡ f.tables
params_tables f b [] = refl
params_tables f b (ty ∷ types) = params_tables (with_param f b ty) b types

pub goes_on-params : (f : Body) (b : ℕ) (types : List «Type») → GoesOn f (with_params f b types)
goes_on-params f b types = record {
  insts = λ i below.
      subst (λ (is : List InstNode). MayPassMore (inst_at f i) (inst_at (record f { insts = is }) i)) (sym (same_insts f b types)) (more_none (inst_at f i));
  types = λ v below. (typed_still f b types v (value_at f v).ty (below, refl)).1;
  more_insts = let same = ap (λ (is : List InstNode). length is) (same_insts f b types) in omega (arith, same);
  more_values = more_values f b types;
  entries = entries_same f.tables (with_params f b types).tables (params_tables f b types);
}

-- WHAT THE CALLER MADE --------------------------------------------------------------------------------------------------

pub own_insts : (own : Own) (f : Body) (b : ℕ) (types : List «Type») → (own_after own f b types).insts ≡ own.insts
own_insts own f b [] = refl
own_insts own f b (ty ∷ types) = own_insts (with_own_param own b (length f.values)) (with_param f b ty) b types

pub own_passed : (own : Own) (f : Body) (b : ℕ) (types : List «Type») → (own_after own f b types).passed ≡ own.passed
own_passed own f b [] = refl
own_passed own f b (ty ∷ types) = own_passed (with_own_param own b (length f.values)) (with_param f b ty) b types

pub own_elsewhere : (own : Own) (f : Body) (b : ℕ) (types : List «Type») (c : ℕ) → c ≢ b → (own_after own f b types).params c ≡ own.params c
own_elsewhere own f b [] c other = refl
own_elsewhere own f b (ty ∷ types) c other =
    own_elsewhere (with_own_param own b (length f.values)) (with_param f b ty) b types c other ∙ updated-other own.params b (own.params b ++ length f.values ∷ []) c other

-- the numbers of names from an index on
abbrev pub Numbered : ℕ → ℕ → List «Type» → ℕ → (Name → ℕ) → Type 0
Numbered place index types n number = (k : ℕ) → k < length types → number (answer_of place (index + k)) ≡ n + k

numbered_rest : (f : Body) (b : ℕ) (ty : «Type») (types : List «Type») (place index : ℕ) (number : Name → ℕ) → Numbered place index (ty ∷ types) (length f.values) number
    → Numbered place (suc index) types (length (with_param f b ty).values) number
numbered_rest f b ty types place index number all k below =
    let later : suc index + k ≡ index + suc k = omega arith in
    let more = param_count f b ty in
    let is : number (answer_of place (index + suc k)) ≡ length f.values + suc k = all (suc k) (omega (arith, below)) in
    ap (λ (i : ℕ). number (answer_of place i)) later ∙ is ∙ omega (arith, more)

number_first : (f : Body) (ty : «Type») (types : List «Type») (place index : ℕ) (number : Name → ℕ) → Numbered place index (ty ∷ types) (length f.values) number
    → number (answer_of place index) ≡ length f.values
number_first f ty types place index number all =
    let first : index ≡ index + 0 = omega arith in
    let none : length f.values + 0 ≡ length f.values = omega arith in
    ap (λ (i : ℕ). number (answer_of place i)) first ∙ all 0 (omega arith) ∙ none

pub own_here : (own : Own) (f : Body) (b : ℕ) (types : List «Type») (place index : ℕ) (number : Name → ℕ) → Numbered place index types (length f.values) number
    → (own_after own f b types).params b ≡ own.params b ++ map number (answers_from place index types)
own_here own f b [] place index number all = sym (append-nil (own.params b))
own_here own f b (ty ∷ types) place index number all =
    own_here (with_own_param own b (length f.values)) (with_param f b ty) b types place (suc index) number (numbered_rest f b ty types place index number all)
    ∙ ap (λ (ps : List ℕ). ps ++ map number (answers_from place (suc index) types)) (updated-same own.params b (own.params b ++ length f.values ∷ []) b refl)
    ∙ append_assoc (own.params b) (length f.values ∷ []) (map number (answers_from place (suc index) types))
    ∙ ap (λ (v : ℕ). own.params b ++ v ∷ map number (answers_from place (suc index) types)) (sym (number_first f ty types place index number all))

-- THE NAMES -------------------------------------------------------------------------------------------------------------

-- each has its place, and an index from this one on
pub among : (place index : ℕ) (types : List «Type») (x : Name) → In x (answers_from place index types) → (x.place ≡ place) × (index ≤ x.index)
among place index [] x there = absurd there
among place index (ty ∷ types) x (inl here) = (ap (λ (n : Name). n.place) here, let same : x.index ≡ index = ap (λ (n : Name). n.index) here in omega (arith, same))
among place index (ty ∷ types) x (inr there) = let later = among place (suc index) types x there in (later.0, omega (arith, later.1))

other_code : (place i k : ℕ) → i ≢ k → code (answer_of place i) ≢ code (answer_of place k)
other_code place i k apart same = apart (ap (λ (n : Name). n.index) (Codes.differ (answer_of place i) (answer_of place k) same))

-- a number is that of one of them, or of none
pub decide : (names : List Name) (m : ℕ) → ((x : Name) × In x names × (code x ≡ m)) ⊎ ((x : Name) → In x names → code x ≢ m)
decide [] m = inr (λ x there. absurd there)
decide (y ∷ names) m = by (ℕ_discrete (code y) m) (decide names m)
  where
    by : Dec (code y ≡ m) → ((x : Name) × In x names × (code x ≡ m)) ⊎ ((x : Name) → In x names → code x ≢ m)
        → ((x : Name) × In x (y ∷ names) × (code x ≡ m)) ⊎ ((x : Name) → In x (y ∷ names) → code x ≢ m)
    by (yes same) rest = inl (y, inl refl, same)
    by (no other) (inl found) = inl (found.0, inr found.1, found.2)
    by (no other) (inr none) = inr (λ x there. not_there x there)
      where
        not_there : (x : Name) → In x (y ∷ names) → code x ≢ m
        not_there x (inl here) same = other (ap code (sym here) ∙ same)
        not_there x (inr there) same = none x there same

-- THE TABLES ------------------------------------------------------------------------------------------------------------

module _ (b place : ℕ) where
  pub same_count : (T : Blocks) (f : Body) (index : ℕ) (types : List «Type») (c : ℕ) → (tables_after T f b place index types).count c ≡ T.count c
  same_count T f index [] c = refl
  same_count T f index (ty ∷ types) c = same_count (with_born T (front b) (code (answer_of place index)) (length f.values)) (with_param f b ty) (suc index) types c

  pub same_assigned : (T : Blocks) (f : Body) (index : ℕ) (types : List «Type») (p : Place) (x : ℕ) → (tables_after T f b place index types).assigned p x ≡ T.assigned p x
  same_assigned T f index [] p x = refl
  same_assigned T f index (ty ∷ types) p x = same_assigned (with_born T (front b) (code (answer_of place index)) (length f.values)) (with_param f b ty) (suc index) types p x

  -- other names are given as before
  pub others_same : (T : Blocks) (f : Body) (index : ℕ) (types : List «Type») (m : ℕ) → ((x : Name) → In x (answers_from place index types) → code x ≢ m)
      → ((tables_after T f b place index types).naming m ≡ T.naming m) × ((tables_after T f b place index types).answer m ≡ T.answer m)
  others_same T f index [] m none = (refl, refl)
  others_same T f index (ty ∷ types) m none =
      let n : ℕ = code (answer_of place index) in
      let rest = others_same (with_born T (front b) n (length f.values)) (with_param f b ty) (suc index) types m (λ x there. none x (inr there)) in
      let other : m ≢ n = λ same. none (answer_of place index) (inl refl) (sym same) in (
        rest.0 ∙ updated-other T.naming n (record { home = front b; origin = fresh }) m other,
        rest.1 ∙ updated-other T.answer n (length f.values) m other,
      )

  -- the new ones are given at the front, by their numbers
  pub new_given : (T : Blocks) (f : Body) (index : ℕ) (types : List «Type») (number : Name → ℕ) → Numbered place index types (length f.values) number
      → (x : Name) → In x (answers_from place index types)
      → ((tables_after T f b place index types).naming (code x) ≡ record { home = front b; origin = fresh }) × ((tables_after T f b place index types).answer (code x) ≡ number x)
  new_given T f index [] number all x there = absurd there
  new_given T f index (ty ∷ types) number all x (inr there) =
      new_given (with_born T (front b) (code (answer_of place index)) (length f.values)) (with_param f b ty) (suc index) types number
      (numbered_rest f b ty types place index number all) x there
  new_given T f index (ty ∷ types) number all x (inl here) =
      let n : ℕ = code (answer_of place index) in
      let T1 : Blocks = with_born T (front b) n (length f.values) in
      let later : (y : Name) → In y (answers_from place (suc index) types) → code y ≢ code x = λ y there same.
      (let far = (among place (suc index) types y there).1 in
      let one : y ≡ x = Codes.differ y x same in
      let same_index : y.index ≡ index = ap (λ (m : Name). m.index) (one ∙ here) in absurd (omega (arith, far, same_index))) in
      let rest = others_same T1 (with_param f b ty) (suc index) types (code x) later in (
        rest.0 ∙ updated-same T.naming n (record { home = front b; origin = fresh }) (code x) (ap code here),
        rest.1 ∙ updated-same T.answer n (length f.values) (code x) (ap code here) ∙ sym (ap number here ∙ number_first f ty types place index number all),
      )

  -- SOUNDNESS AND STRUCTURE ---------------------------------------------------------------------------------------------

  one_more_there : (f : Body) (ty : «Type») → b < length f.blocks → b < length (with_param f b ty).blocks
  one_more_there f ty there = grind (arith, common_steps)

  one_more_bare : (own : Own) (f : Body) (ty : «Type») → b < length f.blocks → (block_at f b).params ≡ own.params b
      → (block_at (with_param f b ty) b).params ≡ (with_own_param own b (length f.values)).params b
  one_more_bare own f ty there bare =
      by (param_params f b ty there b) ∙ sym (updated-same own.params b (own.params b ++ length f.values ∷ []) b refl)
    where
      by : ((b ≡ b) × ((block_at (with_param f b ty) b).params ≡ (block_at f b).params ++ length f.values ∷ []))
          ⊎ ((b ≢ b) × ((block_at (with_param f b ty) b).params ≡ (block_at f b).params))
          → (block_at (with_param f b ty) b).params ≡ own.params b ++ length f.values ∷ []
      by (inl here) = here.1 ∙ ap (λ (ps : List ℕ). ps ++ length f.values ∷ []) bare
      by (inr apart) = absurd (apart.0 refl)

  -- the block has no parameter of a variable then either, and the other blocks keep theirs
  pub bare_still : (own : Own) (f : Body) (types : List «Type») → b < length f.blocks → (block_at f b).params ≡ own.params b
      → (block_at (with_params f b types) b).params ≡ (own_after own f b types).params b
  bare_still own f [] there bare = bare
  bare_still own f (ty ∷ types) there bare =
      bare_still (with_own_param own b (length f.values)) (with_param f b ty) types (one_more_there f ty there) (one_more_bare own f ty there bare)

  pub params_elsewhere : (f : Body) (types : List «Type») (d : ℕ) → b < length f.blocks → d ≢ b → (block_at (with_params f b types) d).params ≡ (block_at f d).params
  params_elsewhere f [] d there other = refl
  params_elsewhere f (ty ∷ types) d there other =
      params_elsewhere (with_param f b ty) types d (one_more_there f ty there) other ∙ by (param_params f b ty there d)
    where
      by : ((d ≡ b) × ((block_at (with_param f b ty) d).params ≡ (block_at f d).params ++ length f.values ∷ []))
          ⊎ ((d ≢ b) × ((block_at (with_param f b ty) d).params ≡ (block_at f d).params))
          → (block_at (with_param f b ty) d).params ≡ (block_at f d).params
      by (inl here) = absurd (other here.0)
      by (inr apart) = apart.1

  pub params_soundly : (own : Own) (f : Body) (s : SsaState) (T : Blocks) (index : ℕ) (types : List «Type») → Firm f → b < length f.blocks → (block_at f b).params ≡ own.params b
      → ((k : ℕ) → index ≤ k → IsNewName (state_of T) (code (answer_of place k))) → DescribesSoundly own f s T
      → DescribesSoundly (own_after own f b types) (with_params f b types) s (tables_after T f b place index types)
  params_soundly own f s T index [] firm there bare new sound = sound
  params_soundly own f s T index (ty ∷ types) firm there bare new sound =
      let n : ℕ = code (answer_of place index) in
      let T1 : Blocks = with_born T (front b) n (length f.values) in
      params_soundly (with_own_param own b (length f.values)) (with_param f b ty) s T1 (suc index) types (param_firm f b ty firm there) (one_more_there f ty there) (one_more_bare own f ty there bare)
      (λ k later. let old = new k (omega (arith, later)) in record {
        new_name =
            ap (λ (m : Naming). m.home)
            (updated-other T.naming n (record { home = front b; origin = fresh }) (code (answer_of place k)) (other_code place k index (λ same. absurd (omega (arith, later, same)))))
            ∙ old.new_name;
        unassigned = old.unassigned;
      })
      (callers_described own f s T b n ty firm sound there bare (new index (omega arith)))

  pub params_structured : (declared : VariableTypes) (own : Own) (f : Body) (s : SsaState) (types : List «Type») → Firm f → b < length f.blocks → (block_at f b).params ≡ own.params b
      → Structured declared own f s [] → Structured declared (own_after own f b types) (with_params f b types) s []
  params_structured declared own f s [] firm there bare before = before
  params_structured declared own f s (ty ∷ types) firm there bare before =
      params_structured declared (with_own_param own b (length f.values)) (with_param f b ty) s types (param_firm f b ty firm there) (one_more_there f ty there)
      (one_more_bare own f ty there bare) (parameter_structured declared own f s b ty firm there bare before)
