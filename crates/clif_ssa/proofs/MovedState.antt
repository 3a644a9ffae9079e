-- A branch is moved from one unsealed block to another: the tables describe what comes of it, and so does its structure.
use Rattle.std.proofs.Common.{◌≡◌, ◌≢◌, ℕ, ◌<◌, ◌≤◌, ◌+◌, ◌&&◌, Bool, true, false, List, [], ◌∷◌, ◌++◌, length, map, refl, ap, arith, sym, ◌∙◌, subst, ◌⊎◌, inl, inr}
use Rattle.std.specs.Prelude.{Some, None, Contains, slice_get, if◌then◌else◌}
use Rattle.std.specs.List.{AllByRecursion}
use Rattle.std.proofs.lemmas.Bool.{cases_eq}
use Rattle.std.proofs.lemmas.List.Elements.{Contains-push_cases}
use Rattle.clif_ir.specs.Body.{Body, block_at}
use Rattle.clif_ir.specs.Changes.{with_branch_target}
use Rattle.clif_ir.specs.Consistent.{IsConsistent}
use Rattle.clif_instructions.specs.Members.{Once, Stands, place_of, stands_in, without}
use Rattle.clif_instructions.proofs.Members.{if_true, if_false, Once-without, test-from_Stands}
use Rattle.clif_instructions.specs.declared.block_call.BlockArg.TheVariants.{Value}
use Rattle.clif_nodes.specs.declared.nodes.InstNode.{InstNode}
use Rattle.clif_paths.specs.Places.{Arm, start}
use Rattle.clif_paths.specs.Blocks.{Blocks, front, last_place}
use Rattle.clif_records.specs.Tables.{is_yes, record_at}
use Rattle.clif_ssa.specs.LookUp.{branch_block}
use Rattle.clif_ssa.specs.Moving.{MovesBranch, moved_leads, with_once}
use Rattle.clif_ssa.specs.Own.{Own}
use Rattle.clif_ssa.specs.Sound.{CountsArguments, Describes, IsCounted, IsEdgeInto, IsZero, PassesOwn, args_of, edge_target, edges_at, entry_of, has_entry, passed_count}
use Rattle.clif_ssa.specs.SoundLaws.{DescribesSoundly}
use Rattle.clif_ssa.specs.Ssa.{SsaState, SameBlocks, SameRecords, predecessors_of, record_of, sealed_of}
use Rattle.clif_ssa.specs.Structure.{IsNeededZero}
use Rattle.clif_ssa.specs.Structured.{AreFor, EdgePasses, HasParameters, HasType, Structured, VariableTypes, waiting_in, waiting_of}
use Rattle.clif_ssa.specs.Zeros.{ZeroAt}
use Rattle.clif_ssa.proofs.Bodies.{Firm, firm_from}
use Rattle.clif_ssa.proofs.Counting.{open_counts}
use Rattle.clif_ssa.proofs.Counts.{counts_kept}
use Rattle.clif_ssa.proofs.Describing.{Arms, complete_sealed, waiting_kept}
use Rattle.clif_ssa.proofs.Entering.{Waiting, both_true}
use Rattle.clif_ssa.proofs.Leading.{contains_map, contains_without, map_push, once_map_without, once_push}
use Rattle.clif_ssa.proofs.Moved.{Moving, moves, zero_moved}
use Rattle.clif_ssa.proofs.Ordering.{entry_any, map_same, none_contained}
use Rattle.clif_ssa.proofs.Structuring.{complete_among, edges_keep, same_structured, waiting_homes}
use Rattle.clif_ssa.proofs.StructuredLaws.{append_none, none_complete}
use Rattle.clif_ssa.proofs.StructuredSteps.{params_in}
use Rattle.clif_ssa.proofs.Walks.{once-further}
use Rattle.clif_ssa.proofs.Writing.{same_state, same_waiting}

true_false : true ≡ false → ⊥
true_false same = cc

-- Branch `i` leads no longer to block `a`, but to block `b`.
pub record MovedLeads (s t : SsaState) (i a b : ℕ) : Type 0 where
  pub left : predecessors_of t a ≡ without i (predecessors_of s a)
  pub reached : predecessors_of t b ≡ with_once i (predecessors_of s b)
  pub others : (c : ℕ) → c ≢ a → c ≢ b → predecessors_of t c ≡ predecessors_of s c

pub leads_moved : (s t : SsaState) (i a b : ℕ) → a ≢ b → ((c : ℕ) → predecessors_of t c ≡ moved_leads i a b c (predecessors_of s c)) → MovedLeads s t i a b
leads_moved s t i a b apart moved = record {
  left = moved a ∙ if_true a a _ _ refl;
  reached = moved b ∙ if_false b a _ _ (λ same. apart (sym same)) ∙ if_true b b _ _ refl;
  others = λ c not_a not_b. moved c ∙ if_false c a _ _ not_a ∙ if_false c b _ _ not_b;
}

pub in_once : (i : ℕ) (xs : List ℕ) (j : ℕ) → Contains (with_once i xs) j → Contains xs j ⊎ (j ≡ i)
in_once i xs j here = by (stands_in i xs) here
  where
    by : (test : Bool) → Contains (if test then xs else xs ++ i ∷ []) j → Contains xs j ⊎ (j ≡ i)
    by true there = inl there
    by false there =
        elim (Contains-push_cases xs i j there) [
          | inl old ↦ inl old
          | inr is ↦ inr (sym is)
        ]

-- what leads to a block led there before, or is the branch
pub led_before : (s t : SsaState) (i a b : ℕ) → MovedLeads s t i a b → (c j : ℕ) → Contains (predecessors_of t c) j → Contains (predecessors_of s c) j ⊎ ((c ≡ b) × (j ≡ i))
led_before s t i a b leads c j there =
    elim (cases_eq c b) [
      | inl at ↦
          elim (in_once i (predecessors_of s b) j (subst (λ xs. Contains xs j) (ap (predecessors_of t) at ∙ leads.reached) there)) [
            | inl old ↦ inl (subst (λ d. Contains (predecessors_of s d) j) (sym at) old)
            | inr is ↦ inr (at, is)
          ]
      | inr other ↦
          elim (cases_eq c a) [
            | inl at ↦
                inl (subst (λ d. Contains (predecessors_of s d) j) (sym at)
                (contains_without i (predecessors_of s a) j (subst (λ xs. Contains xs j) (ap (predecessors_of t) at ∙ leads.left) there)))
            | inr apart ↦ inl (subst (λ xs. Contains xs j) (leads.others c apart other) there)
          ]
    ]

nothing_for : (f : Body) (values complete : List ℕ) → complete ≡ [] → AreFor f values complete → values ≡ []
nothing_for f [] complete none are = refl
nothing_for f (v ∷ values) [] none are = absurd are
nothing_for f (v ∷ values) (p ∷ complete) none are = let no_way : ⊥ = cc in absurd no_way

-- an edge into an unsealed block passes what the caller passed
pub open_passes : (types : VariableTypes) (own : Own) (f : Body) (s : SsaState) → Structured types own f s [] → (a i k : ℕ) → is_yes (sealed_of s a) ≡ false
    → Contains (predecessors_of s a) i → edge_target f i k ≡ Some a → args_of (slice_get (edges_at f i) k) ≡ own.passed i k
open_passes types own f s before a i k open_a here to_a =
    let has : HasParameters own f s [] a = before.parameters a in
    let passes : EdgePasses f (own.passed i k) has.complete (args_of (slice_get (edges_at f i) k)) = has.edges i k here to_a in
    let nothing : passes.values ≡ [] = nothing_for f passes.values has.complete (none_complete own f s [] a has open_a) passes.are_for in
    passes.in_order ∙ ap (λ vs. own.passed i k ++ map Value vs) nothing ∙ append_none (own.passed i k)

not_there : (i : ℕ) (xs : List ℕ) → stands_in i xs ≡ false → Contains xs i → ⊥
not_there i xs out here = true_false (sym (test-from_Stands i xs (here.0, here.1, entry_any xs here.0 0 i here.1 ∙ here.2)) ∙ out)

once_once : (i : ℕ) (xs : List ℕ) → Once xs → Once (with_once i xs)
once_once i xs once = by (stands_in i xs) refl
  where
    by : (test : Bool) → stands_in i xs ≡ test → Once (if test then xs else xs ++ i ∷ [])
    by true is = once
    by false is = once-further xs i once (λ stands. true_false (sym (test-from_Stands i xs stands) ∙ is))

once_mapped : (h : ℕ → ℕ) (i : ℕ) (xs : List ℕ) → ((j : ℕ) → Contains xs j → j ≢ i → h j ≢ h i) → Once (map h xs) → Once (map h (with_once i xs))
once_mapped h i xs apart once = by (stands_in i xs) refl
  where
    by : (test : Bool) → stands_in i xs ≡ test → Once (map h (if test then xs else xs ++ i ∷ []))
    by true is = once
    by false is =
        subst Once (sym (map_push h xs i))
        (once_push (map h xs) (h i)
        (λ y stands one.
        let at : (j : ℕ) × Contains xs j × (h j ≡ y) = contains_map h xs y stands in
        apart at.0 at.1 (λ same. not_there i xs is (subst (Contains xs) same at.1)) (at.2 ∙ one)) once)

module _ (own : Own) (f : Body) (insts : List InstNode) (s t : SsaState) (i a b : ℕ) (moving : Moving f (record f { insts = insts }) i a b) (leads : MovedLeads s t i a b)
    (open_a : is_yes (sealed_of s a) ≡ false) (open_b : is_yes (sealed_of s b) ≡ false) (records : SameRecords s t) (same : SameBlocks s t)
    (here : Contains (predecessors_of s a) i) where
  abbrev g : Body
  g = record f { insts = insts }

  not_a : (c : ℕ) → is_yes (sealed_of s c) ≡ true → c ≢ a
  not_a c sealed is = true_false (sym sealed ∙ ap (λ d. is_yes (sealed_of s d)) is ∙ open_a)

  not_b : (c : ℕ) → is_yes (sealed_of s c) ≡ true → c ≢ b
  not_b c sealed is = true_false (sym sealed ∙ ap (λ d. is_yes (sealed_of s d)) is ∙ open_b)

  sealed_leads : (c : ℕ) → is_yes (sealed_of s c) ≡ true → predecessors_of t c ≡ predecessors_of s c
  sealed_leads c sealed = leads.others c (not_a c sealed) (not_b c sealed)

  old_or_moved : (c j : ℕ) → Contains (predecessors_of t c) j → Contains (predecessors_of s c) j ⊎ ((c ≡ b) × (j ≡ i))
  old_or_moved = led_before s t i a b leads

  -- an edge that leads to a block leads there from before, or is one of the branch, to `b`
  edge_cases : (P : ℕ → ℕ → Type 0) → ((k : ℕ) → edge_target f i k ≡ Some a → P i k) → ((k : ℕ) → edge_target f i k ≡ Some b → P i k)
      → (c j k : ℕ) → Contains (predecessors_of t c) j → edge_target g j k ≡ Some c
      → (Contains (predecessors_of s c) j × (edge_target f j k ≡ Some c)) ⊎ ((c ≡ b) × P j k)
  edge_cases P from_a from_b c j k there leads_to =
      elim (cases_eq c b) [
        | inl at ↦
            elim (moving.arrives j k (leads_to ∙ ap Some at)) [
              | inl was ↦
                  elim (old_or_moved c j there) [
                    | inl old ↦ inl (old, was ∙ ap Some (sym at))
                    | inr new ↦ inr (at, subst (λ n. P n k) (sym new.1) (from_b k (subst (λ n. edge_target f n k ≡ Some b) new.1 was)))
                  ]
              | inr moved ↦ inr (at, subst (λ n. P n k) (sym moved.0) (from_a k (subst (λ n. edge_target f n k ≡ Some a) moved.0 moved.1)))
            ]
        | inr other ↦
            elim (old_or_moved c j there) [
              | inl old ↦ inl (old, moving.back j k c other leads_to)
              | inr new ↦ absurd (other new.0)
            ]
      ]

  open_at : (c : ℕ) → c ≡ b → is_yes (sealed_of s c) ≡ false
  open_at c at = ap (λ d. is_yes (sealed_of s d)) at ∙ open_b

  -- THE TABLES ----------------------------------------------------------------------------------------------------

  module _ (blocks : Blocks) (before : Describes own f s [] blocks) (stand_apart : (j : ℕ) → Contains (predecessors_of s b) j → j ≢ i → branch_block f j ≢ branch_block f i) where
    forth : (c : ℕ) (arm : Arm) → is_yes (sealed_of s c) ≡ true → IsEdgeInto f s blocks c arm → IsEdgeInto g t blocks c arm
    forth c arm sealed edge = record {
      branch = edge.branch;
      leads = subst (λ xs. Contains xs edge.branch) (sym (sealed_leads c sealed)) edge.leads;
      from = edge.from ∙ ap (λ d. last_place blocks d) (sym (moving.block edge.branch));
      to = moving.forth edge.branch arm.edge c (not_a c sealed) edge.to;
    }

    abbrev back : (c : ℕ) (arm : Arm) → is_yes (sealed_of s c) ≡ true → IsEdgeInto g t blocks c arm → IsEdgeInto f s blocks c arm
    back c arm sealed edge = record {
      branch = edge.branch;
      leads = subst (λ xs. Contains xs edge.branch) (sealed_leads c sealed) edge.leads;
      from = edge.from ∙ ap (λ d. last_place blocks d) (moving.block edge.branch);
      to = moving.back edge.branch arm.edge c (not_b c sealed) edge.to;
    }

    apart_still : (c : ℕ) → Once (map (branch_block f) (predecessors_of t c))
    apart_still c =
        elim (cases_eq c b) [
          | inl at ↦
              subst (λ xs. Once (map (branch_block f) xs)) (sym (ap (predecessors_of t) at ∙ leads.reached))
              (once_mapped (branch_block f) i (predecessors_of s b) stand_apart (before.leading_apart b))
          | inr other ↦
              elim (cases_eq c a) [
                | inl at ↦
                    subst (λ xs. Once (map (branch_block f) xs)) (sym (ap (predecessors_of t) at ∙ leads.left))
                    (once_map_without (branch_block f) i (predecessors_of s a) (before.leading_apart a))
                | inr apart ↦ subst (λ xs. Once (map (branch_block f) xs)) (sym (leads.others c apart other)) (before.leading_apart c)
              ]
        ]

    exists : (j c : ℕ) → Contains (predecessors_of s c) j → (j < length insts) × (has_entry f.layout ≡ true)
    exists j c there = (subst (λ n. j < n) (sym moving.count) (before.leading c j there).0, (before.leading c j there).1)

    arms : Arms g t blocks
    arms = record {
      sealed = λ c. before.sealed c ∙ ap (λ r. is_yes r && has_entry f.layout) (sym (same c));
      joined = λ arm known.
          let there : (c : ℕ) × (arm.target ≡ front c) × (is_yes (sealed_of s c) ≡ true) × (((arm.source ≡ start) × (entry_of f ≡ Some c)) ⊎ IsEdgeInto f s blocks c arm) =
          before.joined arm known in (
            there.0,
            there.1,
            ap is_yes (same there.0) ∙ there.2,
            elim there.3 [
              | inl from_start ↦ inl from_start
              | inr edge ↦ inr (forth there.0 arm there.2 edge)
            ],
          );
      entered = before.entered;
      led = λ c arm sealed at edge.
          let was : is_yes (sealed_of s c) ≡ true = ap is_yes (sym (same c)) ∙ sealed in
          before.led c arm was at (back c arm was edge);
      leading = λ c j there.
          elim (old_or_moved c j there) [
            | inl old ↦ exists j c old
            | inr new ↦ subst (λ n. (n < length insts) × (has_entry f.layout ≡ true)) (sym new.1) (exists i a here)
          ];
      leading_apart = λ c. subst Once (sym (map_same (branch_block g) (branch_block f) (predecessors_of t c) (λ j there. moving.block j))) (apart_still c);
      entry_free = λ entry is sealed.
          let was : is_yes (sealed_of s entry) ≡ true = ap is_yes (sym (same entry)) ∙ sealed in
          sealed_leads entry was ∙ before.entry_free entry is was;
    }

    zero_still : (c : ℕ) (z : ZeroAt) → IsZero f blocks c z → IsZero g blocks c z
    zero_still c z put = record { variable = put.variable; stands = zero_moved f g i a b z moving put.stands; defined = put.defined; others = put.others }

    zeros_still : (c : ℕ) (zeros : List ZeroAt) → AllByRecursion (IsZero f blocks c) zeros → AllByRecursion (IsZero g blocks c) zeros
    zeros_still c [] all = tt
    zeros_still c (z ∷ zeros) all = (zero_still c z all.0, zeros_still c zeros all.1)

    waits : Waiting f t [] blocks
    waits = same_waiting own f s t blocks before same (λ c p there none. before.waiting_recorded c p there (sym (records p.variable c) ∙ none))

    pub moved_described : Describes own g t [] blocks
    moved_described = record {
      sealed = arms.sealed;
      joined = arms.joined;
      entered = arms.entered;
      led = arms.led;
      leading = arms.leading;
      leading_apart = arms.leading_apart;
      entry_free = arms.entry_free;
      resolves = before.resolves;
      recorded = λ c x. before.recorded c x ∙ sym (records x c);
      records_exist = λ c x v is. before.records_exist c x v (sym (records x c) ∙ is);
      unrecorded = λ c x none. before.unrecorded c x (sym (records x c) ∙ none);
      unwritten = before.unwritten;
      absent = before.absent;
      homes = before.homes;
      answered = before.answered;
      born_there = before.born_there;
      waiting = λ c p there. waiting_kept f g blocks blocks c p refl refl (waits.waiting c p there);
      completed = λ p there. absurd (none_contained p there);
      pends = waits.pends;
      waiting_recorded = waits.waiting_recorded;
      complete_there = before.complete_there;
      complete_first = before.complete_first;
      waiting_order = waits.waiting_order;
      completing_order = waits.completing_order;
      passes = λ c v arm edge is at j belongs.
          let yes : is_yes (sealed_of s c) ≡ true =
          (both_true (is_yes (sealed_of s c)) (has_entry f.layout) (sym (before.sealed c) ∙ complete_sealed own f s [] blocks c v before is)).0 in
          ap (λ xs. slice_get xs j) (moving.args edge.branch arm.edge) ∙ before.passes c v arm (back c arm yes edge) is at j belongs;
      instructions = λ c.
          let has = before.instructions c in
          record { zeros = has.zeros; in_order = has.in_order; are_zeros = zeros_still c has.zeros has.are_zeros };
    }

    -- the edges of the branch to both blocks pass what the caller passed
    module _ (counts : CountsArguments own f s blocks) (passes_a : PassesOwn own f a i) (passes_b : PassesOwn own f b i) where
      given : (c j k : ℕ) → Contains (predecessors_of t c) j → edge_target g j k ≡ Some c
          → (Contains (predecessors_of s c) j × (edge_target f j k ≡ Some c)) ⊎ ((c ≡ b) × (passed_count f j k ≡ length (own.passed j k)))
      given = edge_cases (λ j k. passed_count f j k ≡ length (own.passed j k)) passes_a passes_b

      count : (j k : ℕ) → passed_count g j k ≡ passed_count f j k
      count j k = ap length (moving.args j k)

      pub moved_counted : CountsArguments own g t blocks
      moved_counted = record {
        behind = counts.behind;
        callers = counts.callers;
        counted = λ c j k v there leads_to is.
            subst (λ n. IsCounted (blocks.function.definition v).kind (place_of v (block_at f c).params) (length (own.params c)) n (length (own.passed j k))) (sym (count j k))
            (elim (given c j k there leads_to) [
              | inl old ↦ counts.counted c j k v old.0 old.1 is
              | inr new ↦ open_counts own f s blocks c before counts (open_at c new.0) v (passed_count f j k) (length (own.passed j k)) new.1 is
            ]);
        no_fewer = λ c j k there leads_to.
            subst (λ n. length (own.passed j k) ≤ n) (sym (count j k))
            (elim (given c j k there leads_to) [
              | inl old ↦ counts.no_fewer c j k old.0 old.1
              | inr new ↦ let equal : passed_count f j k ≡ length (own.passed j k) = new.1 in omega (arith, equal)
            ]);
        no_more = λ c j k there leads_to.
            subst (λ n. n + length (own.params c) ≤ length (block_at f c).params + length (own.passed j k)) (sym (count j k))
            (elim (given c j k there leads_to) [
              | inl old ↦ counts.no_more c j k old.0 old.1
              | inr new ↦
                  let equal : passed_count f j k ≡ length (own.passed j k) = new.1 in
                  let fits : length (own.params c) ≤ length (block_at f c).params = counts.callers c in
                  omega (arith, equal, fits)
            ]);
      }

  -- THE STRUCTURE -------------------------------------------------------------------------------------------------

  needed_still : (zeros : List ZeroAt) → AllByRecursion (IsNeededZero f) zeros → AllByRecursion (IsNeededZero g) zeros
  needed_still [] all = tt
  needed_still (z ∷ zeros) all =
      let old : IsNeededZero f z = all.0 in (
        record { stands = zero_moved f g i a b z moving old.stands; no_parameter = old.no_parameter; alias = old.alias; another = old.another; stands_for = old.stands_for },
        needed_still zeros all.1,
      )

  pub moved_structured : (types : VariableTypes) → Firm f → ((k : ℕ) → edge_target f i k ≡ Some b → args_of (slice_get (edges_at f i) k) ≡ own.passed i k)
      → Structured types own f s [] → Structured types own g t []
  moved_structured types firm passes_b before = record {
    parameters = λ c.
        let has : HasParameters own f s [] c = before.parameters c in
        record {
          complete = has.complete;
          in_order = has.in_order ∙ ap (λ ws. own.params c ++ (has.complete ++ params_in ws)) (sym (waiting_still c));
          several = λ some.
              let was = has.several some in
              (ap is_yes (same c) ∙ was.0, subst (λ xs. 2 ≤ length xs) (sym (sealed_leads c was.0)) was.1);
          edges = λ j k there leads_to.
              subst (λ args. EdgePasses g (own.passed j k) has.complete args) (sym (moving.args j k))
              (elim (edge_cases (λ n m. args_of (slice_get (edges_at f n) m) ≡ own.passed n m) passes_a passes_b c j k there leads_to) [
                | inl old ↦
                    edges_keep f g c (record { more = omega arith; types = λ v inside. refl }) firm (own.passed j k) has.complete _ (complete_among own f s [] c has)
                    (has.edges j k old.0 old.1)
                | inr new ↦
                    subst (λ complete. EdgePasses g (own.passed j k) complete (args_of (slice_get (edges_at f j) k))) (sym (none_complete own f s [] c has (open_at c new.0)))
                    (record { values = []; in_order = new.1 ∙ sym (append_none (own.passed j k)); are_for = tt })
              ]);
        };
    alias_types = before.alias_types;
    zeros = λ c. let has = before.zeros c in record { zeros = has.zeros; in_order = has.in_order; needed = needed_still has.zeros has.needed };
    recorded = λ x c v is. before.recorded x c v (sym (records x c) ∙ is);
    waiting = λ c p there.
        let old : HasType f p.param (types p.variable) × (record_of s p.variable c ≢ None) = before.waiting c p (subst (λ ws. Contains ws p) (waiting_still c) there) in
        (old.0, λ none. old.1 (sym (records p.variable c) ∙ none));
    leading = λ c j there.
        elim (old_or_moved c j there) [
          | inl old ↦ subst (λ n. j < n) (sym moving.count) (before.leading c j old)
          | inr new ↦ subst (λ m. m < length insts) (sym new.1) (subst (λ n. i < n) (sym moving.count) (before.leading a i here))
        ];
    leading_once = λ c.
        elim (cases_eq c b) [
          | inl at ↦ subst Once (sym (ap (predecessors_of t) at ∙ leads.reached)) (once_once i (predecessors_of s b) (before.leading_once b))
          | inr other ↦
              elim (cases_eq c a) [
                | inl at ↦ subst Once (sym (ap (predecessors_of t) at ∙ leads.left)) (Once-without i (predecessors_of s a) (before.leading_once a))
                | inr apart ↦ subst Once (sym (leads.others c apart other)) (before.leading_once c)
              ]
        ];
  }
    where
      waiting_still : (c : ℕ) → waiting_in g t [] c ≡ waiting_in f s [] c
      waiting_still c = waiting_homes f g (sealed_of t c) [] c (λ q there. refl) ∙ ap (λ entry. waiting_of f entry [] c) (same c)

      passes_a : (k : ℕ) → edge_target f i k ≡ Some a → args_of (slice_get (edges_at f i) k) ≡ own.passed i k
      passes_a k to_a = open_passes types own f s before a i k open_a here to_a

-- THE CALL --------------------------------------------------------------------------------------------------------

-- the branch stands among those that lead to the first block
pub contained : (i : ℕ) (xs : List ℕ) → Stands i xs → Contains xs i
contained i xs stands = (stands.0, stands.1, entry_any xs stands.0 i 0 stands.1 ∙ stands.2)

module _ (f g : Body) (s t : SsaState) (i a b : ℕ) (moved : MovesBranch f s g t i a b) (records : t.records ≡ s.records) (within : i < length f.insts)
    (open_a : is_yes (sealed_of s a) ≡ false) (open_b : is_yes (sealed_of s b) ≡ false) (stands : Stands i (predecessors_of s a)) where
  same_records : SameRecords s t
  same_records v c = ap (λ rows. record_at rows v c) records

  -- both are one block
  unmoved_function : a ≡ b → f ≡ g
  unmoved_function same = sym (moved.function ∙ if_true a b _ _ same)

  unmoved_leads : a ≡ b → (c : ℕ) → predecessors_of t c ≡ predecessors_of s c
  unmoved_leads same c = moved.leads c ∙ if_true a b _ _ same

  moved_function : a ≢ b → with_branch_target f i a b ≡ g
  moved_function apart = sym (moved.function ∙ if_false a b _ _ apart)

  other_leads : a ≢ b → MovedLeads s t i a b
  other_leads apart = leads_moved s t i a b apart (λ c. moved.leads c ∙ if_false a b _ _ apart)

  pub branch_described : (own : Own) (tables : Blocks) → PassesOwn own f a i → PassesOwn own f b i
      → ((j : ℕ) → Contains (predecessors_of s b) j → j ≢ i → branch_block f j ≢ branch_block f i)
      → DescribesSoundly own f s tables → DescribesSoundly own g t tables
  branch_described own tables passes_a passes_b stand_apart before =
      elim (cases_eq a b) [
        | inl same ↦
            subst (λ h. DescribesSoundly own h t tables) (unmoved_function same) (
              same_state own f s t tables same_records moved.blocks (unmoved_leads same) before.0,
              before.1,
              counts_kept own f s t tables tables before.2 (unmoved_leads same) (λ v. refl),
            )
        | inr apart ↦
            subst (λ h. DescribesSoundly own h t tables) (moved_function apart) (
              moved_described own f (with_branch_target f i a b).insts s t i a b (moves f i a b within) (other_leads apart) open_a open_b same_records moved.blocks
                  (contained i (predecessors_of s a) stands) tables before.0 stand_apart,
              before.1,
              moved_counted own f (with_branch_target f i a b).insts s t i a b (moves f i a b within) (other_leads apart) open_a open_b same_records moved.blocks
                  (contained i (predecessors_of s a) stands) tables before.0 stand_apart before.2 passes_a passes_b,
            )
      ]

  pub branch_structured : (types : VariableTypes) (own : Own) → IsConsistent f
      → ((k : ℕ) → edge_target f i k ≡ Some b → args_of (slice_get (edges_at f i) k) ≡ own.passed i k)
      → Structured types own f s [] → Structured types own g t []
  branch_structured types own known passes_b before =
      elim (cases_eq a b) [
        | inl same ↦
            subst (λ h. Structured types own h t []) (unmoved_function same)
            (same_structured types own f s t [] same_records moved.blocks (unmoved_leads same) before)
        | inr apart ↦
            subst (λ h. Structured types own h t []) (moved_function apart)
            (moved_structured own f (with_branch_target f i a b).insts s t i a b (moves f i a b within) (other_leads apart) open_a open_b same_records moved.blocks
            (contained i (predecessors_of s a) stands) types (firm_from f known) passes_b before)
      ]
