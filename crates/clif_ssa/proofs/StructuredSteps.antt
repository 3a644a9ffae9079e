-- The structure that the construction keeps: a parameter comes to wait, and one that waits is taken away.
use Rattle.std.proofs.Common.{◌≡◌, ◌≢◌, ℕ, suc, ◌+◌, ◌<◌, ◌≤◌, true, List, [], ◌∷◌, ◌++◌, length, map, refl, ap, arith, sym, ◌∙◌, subst, ◌⊎◌, inl, inr}
use Rattle.std.specs.Prelude.{Some, None, Contains, slice_index, slice_index_or}
use Rattle.std.proofs.lemmas.Grind.{common_steps}
use Rattle.std.proofs.lemmas.Bool.{cases_eq}
use Rattle.std.proofs.lemmas.List.{append_assoc}
use Rattle.std.proofs.lemmas.List.Elements.{Contains-push_cases}
use Rattle.clif_types.specs.declared.types.«Type».{«Type»}
use Rattle.clif_ir.specs.Body.{Body, block_at}
use Rattle.clif_nodes.specs.Nodes.{no_value}
use Rattle.clif_ir.specs.Changes.{with_param}
use Rattle.clif_instructions.specs.Members.{Once, without}
use Rattle.clif_ir.specs.Reading.{param_home}
use Rattle.clif_instructions.proofs.Members.{Once-tail}
use Rattle.clif_nodes.specs.declared.nodes.ValueNode.{ValueNode}
use Rattle.clif_ssa.specs.Own.{Own}
use Rattle.clif_records.specs.declared.tables.Pending.{Pending}
use Rattle.clif_records.specs.Tables.{No, Sealed, Yes, is_yes}
use Rattle.clif_ssa.specs.Ssa.{SsaState, record_of, sealed_of, SamePredecessors}
use Rattle.clif_ssa.specs.Sound.{parameters_of}
use Rattle.clif_ssa.specs.Structured.{VariableTypes, HasType, EdgePasses, HasParameters, Structured, waiting_of, waiting_in}
use Rattle.clif_ssa.proofs.Bodies.{Firm}
use Rattle.clif_ssa.proofs.Housing.{Housed}
use Rattle.clif_ssa.proofs.Ordering.{contains_first, contains_more, contains_cons, entry_any, without_here, without_later, parameters_first, parameters_skip, is_parameter, is_parameter_elsewhere, parameters_contain}
use Rattle.clif_ssa.proofs.Parameters.{param_node, param_count, param_params}
use Rattle.clif_ssa.proofs.NeededZeros.{Longer, OnlyNeeded, param_longer, param_needed}
use Rattle.clif_ssa.proofs.Structuring.{Grows, Writes, SameEdge, grows_longer, typed_kept, edge_kept, complete_exist, edges_keep, same_edge, sealed_yes, waiting_homes, block_kept}

-- LISTS -----------------------------------------------------------------------------------------------------------

abbrev pub params_in : List Pending → List ℕ
params_in ps = map (λ (p : Pending). p.param) ps

params_pushed : (ps : List Pending) (p : Pending) → params_in (ps ++ p ∷ []) ≡ params_in ps ++ p.param ∷ []
params_pushed [] p = refl
params_pushed (q ∷ ps) p = ap (λ xs. q.param ∷ xs) (params_pushed ps p)

-- one more behind all
pub pushed_last : (own complete : List ℕ) (ps : List Pending) (p : Pending) → (own ++ (complete ++ params_in ps)) ++ p.param ∷ [] ≡ own ++ (complete ++ params_in (ps ++ p ∷ []))
pushed_last own complete ps p =
    append_assoc own (complete ++ params_in ps) (p.param ∷ []) ∙ ap (λ xs. own ++ xs) (append_assoc complete (params_in ps) (p.param ∷ []))
    ∙ ap (λ xs. own ++ (complete ++ xs)) (sym (params_pushed ps p))

pub in_params : (ps : List Pending) (p : Pending) → Contains ps p → Contains (params_in ps) p.param
in_params [] p here = absurd (omega (arith, here.1))
in_params (q ∷ ps) p here =
    elim (contains_cons q ps p here) [
      | inl same ↦ subst (λ (r : Pending). Contains (params_in (q ∷ ps)) r.param) same (contains_first q.param (params_in ps))
      | inr later ↦ contains_more q.param (params_in ps) p.param (in_params ps p later)
    ]

at_middle : (xs ys : List ℕ) (x : ℕ) → slice_index (xs ++ x ∷ ys) (length xs) ≡ x
at_middle [] ys x = refl
at_middle (z ∷ xs) ys x = at_middle xs ys x

-- what stands once is taken away from the middle
pub without_middle : (xs ys : List ℕ) (x : ℕ) → Once (xs ++ x ∷ ys) → without x (xs ++ x ∷ ys) ≡ xs ++ ys
without_middle [] ys x once = without_here x x ys refl
without_middle (z ∷ xs) ys x once =
    let long : length (xs ++ x ∷ ys) ≡ length xs + length (x ∷ ys) = grind (arith, common_steps) in
    let apart : z ≢ x = λ same. once 0 (suc (length xs)) (omega arith) (omega (arith, long)) (same ∙ sym (at_middle xs ys x)) in
    without_later x z (xs ++ x ∷ ys) apart ∙ ap (λ zs. z ∷ zs) (without_middle xs ys x (Once-tail z (xs ++ x ∷ ys) once))

-- and is none of those behind it
pub once_behind : (xs ys : List ℕ) (x y : ℕ) → Once (xs ++ x ∷ ys) → Contains ys y → x ≢ y
once_behind [] ys x y once here same =
    let at : slice_index ys here.0 ≡ y = entry_any ys here.0 0 y here.1 ∙ here.2 in
    once 0 (suc here.0) (omega arith) (omega (arith, here.1)) (same ∙ sym at)
once_behind (z ∷ xs) ys x y once here same = once_behind xs ys x y (Once-tail z (xs ++ x ∷ ys) once) here same

-- A PARAMETER COMES TO WAIT ---------------------------------------------------------------------------------------

abbrev pub new_pending : Body → ℕ → Pending
new_pending f x = record { variable = x; param = length f.values }

pub new_typed : (f : Body) (b : ℕ) (ty : «Type») → HasType (with_param f b ty) (length f.values) ty
new_typed f b ty = (omega (arith, param_count f b ty), last f.values)
  where
    last : (values : List ValueNode) → (slice_index_or (values ++ param_node ty b ∷ []) (length values) no_value).ty ≡ ty
    last [] = refl
    last (n ∷ values) = last values

pub added : (types : VariableTypes) (own : Own) (f : Body) (s t : SsaState) (ps qs : List Pending) (x reached : ℕ) → Firm f → reached < length f.blocks
    → Writes s t x (length f.values) → record_of t x reached ≢ None
    → waiting_in (with_param f reached (types x)) t qs reached ≡ waiting_in f s ps reached ++ new_pending f x ∷ []
    → ((b : ℕ) → b ≢ reached → waiting_in (with_param f reached (types x)) t qs b ≡ waiting_in f s ps b)
    → ((b : ℕ) → is_yes (sealed_of t b) ≡ is_yes (sealed_of s b)) → SamePredecessors s t
    → Structured types own f s ps → Structured types own (with_param f reached (types x)) t qs
added types own f s t ps qs x reached firm there writes recorded here elsewhere flags same_before before =
    let ty : «Type» = types x in
    let g : Body = with_param f reached ty in
    let n : ℕ = length f.values in
    let grows : Grows f g = grows_longer f g (param_longer f reached ty) in
    let needed : OnlyNeeded own.insts g = param_needed own.insts f reached ty firm there (record { alias_types = before.alias_types; zeros = before.zeros }) in
    record {
      parameters = λ b.
          let has : HasParameters own f s ps b = before.parameters b in
          elim (param_params f reached ty there b) [
            | inl at ↦ record {
              complete = has.complete;
              in_order = at.1 ∙ ap (λ xs. xs ++ n ∷ []) has.in_order
                  ∙ pushed_last (own.params b) has.complete (waiting_in f s ps b) (new_pending f x)
                  ∙ ap (λ ws. own.params b ++ (has.complete ++ params_in ws)) (sym (now b at.0));
              several = λ some. (flags b ∙ (has.several some).0, subst (λ xs. 2 ≤ length xs) (sym (same_before b)) (has.several some).1);
              edges = λ i k leads to.
                  edge_kept f g (own.passed i k) has.complete _ grows (complete_exist own f s ps b firm has)
                  (has.edges i k (subst (λ xs. Contains xs i) (same_before b) leads) to);
            }
            | inr apart ↦
                block_kept own f g s t ps qs b (edges_keep f g b grows firm) apart.1 (elsewhere b apart.0) (λ sealed. flags b ∙ sealed) (same_before b)
                (λ i k leads. same_edge f g b i k refl) has
          ];
      alias_types = needed.alias_types;
      zeros = needed.zeros;
      recorded = λ y b w is.
          elim (writes.old_or_new y b w is) [
            | inl old ↦ typed_kept f g w (types y) grows (before.recorded y b w old)
            | inr new ↦ subst (λ z. HasType g w (types z)) (sym new.0) (subst (λ u. HasType g u ty) (sym new.1) (new_typed f reached ty))
          ];
      waiting = λ b p inside.
          let kept : Contains (waiting_in f s ps b) p → HasType g p.param (types p.variable) × (record_of t p.variable b ≢ None) =
          λ old.
          let was : HasType f p.param (types p.variable) × (record_of s p.variable b ≢ None) = before.waiting b p old in
          (typed_kept f g p.param (types p.variable) grows was.0, writes.still p.variable b was.1) in
          elim (cases_eq b reached) [
            | inl same ↦
                elim (Contains-push_cases (waiting_in f s ps b) (new_pending f x) p (subst (λ ws. Contains ws p) (now b same) inside)) [
                  | inl old ↦ kept old
                  | inr new ↦
                      subst (λ (q : Pending). HasType g q.param (types q.variable) × (record_of t q.variable b ≢ None)) new
                      (new_typed f reached ty, subst (λ d. record_of t x d ≢ None) (sym same) recorded)
                ]
            | inr other ↦ kept (subst (λ ws. Contains ws p) (elsewhere b other) inside)
          ];
      leading = λ b i inside. before.leading b i (subst (λ xs. Contains xs i) (same_before b) inside);
      leading_once = λ b. subst Once (sym (same_before b)) (before.leading_once b);
    }
  where
    now : (b : ℕ) → b ≡ reached → waiting_in (with_param f reached (types x)) t qs b ≡ waiting_in f s ps b ++ new_pending f x ∷ []
    now b same =
        ap (λ d. waiting_in (with_param f reached (types x)) t qs d) same ∙ here
        ∙ ap (λ d. waiting_in f s ps d ++ new_pending f x ∷ []) (sym same)

-- A PARAMETER IS TAKEN AWAY ---------------------------------------------------------------------------------------

-- the first of those that are completed, where it is sealed
pub waiting_first : (f : Body) (s : SsaState) (p : Pending) (ps : List Pending) (b : ℕ) → param_home f p.param ≡ Some b → is_yes (sealed_of s b) ≡ true
    → waiting_in f s (p ∷ ps) b ≡ p ∷ waiting_in f s ps b
waiting_first f s p ps b home sealed =
    let is : sealed_of s b ≡ Yes = sealed_yes (sealed_of s b) sealed in
    ap (λ entry. waiting_of f entry (p ∷ ps) b) is ∙ parameters_first f b p ps (is_parameter f b p home) ∙ ap (λ entry. p ∷ waiting_of f entry ps b) (sym is)

pub waiting_elsewhere : (f : Body) (entry : Sealed) (p : Pending) (ps : List Pending) (b c : ℕ) → param_home f p.param ≡ Some b → c ≢ b
    → waiting_of f entry (p ∷ ps) c ≡ waiting_of f entry ps c
waiting_elsewhere f (No pending) p ps b c home apart = refl
waiting_elsewhere f Yes p ps b c home apart = parameters_skip f c p ps (is_parameter_elsewhere f c b p home (λ same. apart (sym same)))

-- the parameters of its block, in order
in_middle : (own complete : List ℕ) (p : Pending) (ws : List Pending) → own ++ (complete ++ params_in (p ∷ ws)) ≡ (own ++ complete) ++ p.param ∷ params_in ws
in_middle own complete p ws = sym (append_assoc own complete (params_in (p ∷ ws)))

pub middle_params : (own : Own) (f : Body) (s : SsaState) (p : Pending) (ps : List Pending) (b : ℕ) → param_home f p.param ≡ Some b → is_yes (sealed_of s b) ≡ true
    → (has : HasParameters own f s (p ∷ ps) b) → (block_at f b).params ≡ (own.params b ++ has.complete) ++ p.param ∷ params_in (waiting_in f s ps b)
middle_params own f s p ps b home sealed has =
    has.in_order ∙ ap (λ ws. own.params b ++ (has.complete ++ params_in ws)) (waiting_first f s p ps b home sealed)
    ∙ in_middle (own.params b) has.complete p (waiting_in f s ps b)

-- none of the others that are completed is the first
pub first_apart : (types : VariableTypes) (own : Own) (f : Body) (s : SsaState) (p : Pending) (ps : List Pending) (b : ℕ) → Housed f
    → param_home f p.param ≡ Some b → is_yes (sealed_of s b) ≡ true → Structured types own f s (p ∷ ps) → (q : Pending) → Contains ps q → q.param ≢ p.param
first_apart types own f s p ps b housed home sealed before q here same =
    let has : HasParameters own f s (p ∷ ps) b = before.parameters b in
    let listed : Contains (parameters_of f b ps) q = parameters_contain f b ps q (is_parameter f b q (ap (param_home f) same ∙ home)) here in
    let waits : Contains (waiting_in f s ps b) q = subst (λ entry. Contains (waiting_of f entry ps b) q) (sym (sealed_yes (sealed_of s b) sealed)) listed in
    let once : Once ((own.params b ++ has.complete) ++ p.param ∷ params_in (waiting_in f s ps b)) = subst Once (middle_params own f s p ps b home sealed has) (housed.once b) in
    once_behind (own.params b ++ has.complete) (params_in (waiting_in f s ps b)) p.param q.param once (in_params (waiting_in f s ps b) q waits) (sym same)

-- a parameter that was taken away from its block
pub record TakesAway (f g : Body) (v b : ℕ) : Type 0 where
  pub longer : Longer f g
  pub params : (c : ℕ) → ((c ≡ b) × ((block_at g c).params ≡ without v (block_at f c).params)) ⊎ ((c ≢ b) × ((block_at g c).params ≡ (block_at f c).params))
  pub others : (u : ℕ) → u ≢ v → param_home g u ≡ param_home f u

pub dropped : (types : VariableTypes) (own : Own) (f g : Body) (s : SsaState) (p : Pending) (ps : List Pending) (b : ℕ) → Firm f → Housed f
    → param_home f p.param ≡ Some b → is_yes (sealed_of s b) ≡ true → TakesAway f g p.param b → OnlyNeeded own.insts g
    → Structured types own f s (p ∷ ps) → Structured types own g s ps
dropped types own f g s p ps b firm housed home sealed takes needed before =
    let grows : Grows f g = grows_longer f g takes.longer in
    let apart : (q : Pending) → Contains ps q → q.param ≢ p.param = first_apart types own f s p ps b housed home sealed before in
    let same_homes : (c : ℕ) → waiting_in g s ps c ≡ waiting_in f s ps c =
    λ c. waiting_homes f g (sealed_of s c) ps c (λ q here. takes.others q.param (apart q here)) in
    record {
      parameters = λ c.
          let has : HasParameters own f s (p ∷ ps) c = before.parameters c in
          elim (takes.params c) [
            | inl at ↦
                let home_here : param_home f p.param ≡ Some c = home ∙ ap Some (sym at.0) in
                let sealed_here : is_yes (sealed_of s c) ≡ true = subst (λ d. is_yes (sealed_of s d) ≡ true) (sym at.0) sealed in
                let all : (block_at f c).params ≡ (own.params c ++ has.complete) ++ p.param ∷ params_in (waiting_in f s ps c) = middle_params own f s p ps c home_here sealed_here has in
                record {
                  complete = has.complete;
                  in_order = at.1 ∙ ap (without p.param) all
                      ∙ without_middle (own.params c ++ has.complete) (params_in (waiting_in f s ps c)) p.param (subst Once all (housed.once c))
                      ∙ append_assoc (own.params c) has.complete (params_in (waiting_in f s ps c))
                      ∙ ap (λ ws. own.params c ++ (has.complete ++ params_in ws)) (sym (same_homes c));
                  several = has.several;
                  edges = λ i k leads to.
                      let edge : SameEdge f g c i k = same_edge f g c i k (takes.longer.inst_same i (before.leading c i leads)) in
                      subst (λ args. EdgePasses g (own.passed i k) has.complete args) (sym (edge to).1)
                      (edge_kept f g (own.passed i k) has.complete _ grows (complete_exist own f s (p ∷ ps) c firm has) (has.edges i k leads (edge to).0));
                }
            | inr other ↦
                block_kept own f g s s (p ∷ ps) ps c (edges_keep f g c grows firm) other.1
                (same_homes c ∙ sym (waiting_elsewhere f (sealed_of s c) p ps b c home other.0)) (λ is. is) refl
                (λ i k leads. same_edge f g c i k (takes.longer.inst_same i (before.leading c i leads))) has
          ];
      alias_types = needed.alias_types;
      zeros = needed.zeros;
      recorded = λ y c w is. typed_kept f g w (types y) grows (before.recorded y c w is);
      waiting = λ c q here.
          let old : Contains (waiting_in f s ps c) q = subst (λ ws. Contains ws q) (same_homes c) here in
          let was : HasType f q.param (types q.variable) × (record_of s q.variable c ≢ None) = before.waiting c q (still c q old (cases_eq c b)) in
          (typed_kept f g q.param (types q.variable) grows was.0, was.1);
      leading = λ c i here. let old : i < length f.insts = before.leading c i here in omega (arith, old, takes.longer.insts_more);
      leading_once = before.leading_once;
    }
  where
    still : (c : ℕ) (q : Pending) → Contains (waiting_in f s ps c) q → (c ≡ b) ⊎ (c ≢ b) → Contains (waiting_in f s (p ∷ ps) c) q
    still c q here (inl same) =
        subst (λ ws. Contains ws q)
        (sym (waiting_first f s p ps c (home ∙ ap Some (sym same)) (subst (λ d. is_yes (sealed_of s d) ≡ true) (sym same) sealed)))
        (contains_more p (waiting_in f s ps c) q here)
    still c q here (inr other) = subst (λ ws. Contains ws q) (sym (waiting_elsewhere f (sealed_of s c) p ps b c home other)) here
