-- A new branch is declared at the targets of its edges, at each once.
use Rattle.std.proofs.Common.{◌≡◌, ◌≢◌, ℕ, suc, ◌+◌, ◌-◌, ◌<◌, ◌==◌, if◌then◌else◌, Bool, true, false, List, [], ◌∷◌, ◌++◌, length, take, get_or, refl, sym, ◌∙◌, ap, subst, arith, ◌⊎◌, inl, inr}
use Rattle.std.specs.Prelude.{Option, Some, None, slice_get, Contains, ◌||◌}
use Rattle.std.proofs.lemmas.Bool.{cases_eq, eqb-true}
use Rattle.std.proofs.lemmas.Grind.{common_steps}
use Rattle.std.proofs.lemmas.Option.{slice_get_within, get_or_from_slice_get}
use Rattle.std.proofs.lemmas.List.{take_more, map_push}
use Rattle.std.proofs.lemmas.List.Elements.{Contains-push_cases}
use Rattle.std.proofs.lemmas.List.Folds.{list_any-append}
use Rattle.clif_ir.specs.Body.{Body}
use Rattle.clif_instructions.specs.Members.{Once, Stands, stands_in}
use Rattle.clif_instructions.specs.Edges.{targets}
use Rattle.clif_instructions.specs.declared.block_call.BlockCall.{BlockCall}
use Rattle.clif_ir.proofs.Keeps.{Once-outside}
use Rattle.clif_instructions.proofs.Members.{Once-tail, Stands-from_test, test-from_Stands}
use Rattle.clif_records.specs.Tables.{RecordMap, record_at, is_yes, pending_of}
use Rattle.clif_ssa.specs.Ssa.{SsaState, no_state, NamesExist, predecessors_of, sealed_of, Declares, SameBlocks, SamePredecessors, SameRecords}
use Rattle.clif_ssa.proofs.Local.{named-same}
use Rattle.clif_ssa.proofs.Naming.{has_more}
use Rattle.clif_ssa.proofs.Ordering.{none_contained}
use Rattle.clif_ssa.proofs.Passing.{some_pushed}
use Rattle.clif_records.proofs.RecordMaps.{record_at-empty}
use Rattle.clif_simulation.specs.Carries.{DeclaredAlong}
use Rattle.clif_builder.specs.Construction.{IsDeclared}
use Rattle.clif_builder.specs.Context.{ContextState, empty_context}

-- one more block at the end
along_last : (blocks : List ℕ) (s t u : SsaState) (inst b : ℕ) → DeclaredAlong s inst blocks t → SameRecords t u → SameBlocks t u → Declares t u b inst
    → DeclaredAlong s inst (blocks ++ b ∷ []) u
along_last [] s t u inst b done records blocks declares = (
  u,
  (λ v c. records v c ∙ done.0 v c),
  (λ c. blocks c ∙ done.1 c),
  (λ c. declares c ∙ ap (λ (is : List ℕ). if c == b then is ++ inst ∷ [] else is) (done.2 c)),
  ((λ v c. refl), (λ c. refl), λ c. refl),
)
along_last (x ∷ blocks) s t u inst b done records same declares =
    (done.0, done.1, done.2, done.3, along_last blocks done.0 t u inst b done.4 records same declares)

-- what stays
along_same : (blocks : List ℕ) (s t : SsaState) (inst : ℕ) → DeclaredAlong s inst blocks t → SameRecords s t × SameBlocks s t
along_same [] s t inst done = (done.0, done.1)
along_same (x ∷ blocks) s t inst done =
    let later : SameRecords done.0 t × SameBlocks done.0 t = along_same blocks done.0 t inst done.4 in
    ((λ v b. later.0 v b ∙ done.1 v b), λ b. later.1 b ∙ done.2 b)

-- the head of a list in which no number stands twice doesn't stand behind it
head_out : (x : ℕ) (xs : List ℕ) → Once (x ∷ xs) → stands_in x xs ≡ true → ⊥
head_out x xs once here =
    let at : Stands x xs = Stands-from_test x xs here in
    once 0 (suc at.0) (omega arith) (omega (arith, at.1)) (sym at.2)

eqb_turned : (x y : ℕ) → (x == y) ≡ (y == x)
eqb_turned x y = elim (cases_eq x y) [ inl same ↦ grind (arith, common_steps, same) | inr other ↦ grind (arith, common_steps, other) ]

abbrev with_branch : Bool → List ℕ → ℕ → List ℕ
with_branch test branches inst = if test then branches ++ inst ∷ [] else branches

two_tests : (here later : Bool) (branches : List ℕ) (inst : ℕ) → (here ≡ true → later ≡ true → ⊥)
    → with_branch later (with_branch here branches inst) inst ≡ with_branch (here || later) branches inst
two_tests true true branches inst apart = absurd (apart refl refl)
two_tests true false branches inst apart = refl
two_tests false later branches inst apart = refl

-- the branches that lead to each block then
along_leads : (blocks : List ℕ) (s t : SsaState) (inst : ℕ) → DeclaredAlong s inst blocks t → Once blocks
    → (b : ℕ) → predecessors_of t b ≡ with_branch (stands_in b blocks) (predecessors_of s b) inst
along_leads [] s t inst done once b = done.2 b
along_leads (x ∷ blocks) s t inst done once b =
    along_leads blocks done.0 t inst done.4 (Once-tail x blocks once) b
    ∙ ap (λ (is : List ℕ). with_branch (stands_in b blocks) is inst) (done.3 b ∙ ap (λ test. with_branch test (predecessors_of s b) inst) (eqb_turned b x))
    ∙ two_tests (x == b) (stands_in b blocks) (predecessors_of s b) inst
    (λ here later. head_out x blocks once (subst (λ y. stands_in y blocks ≡ true) (sym (eqb-true x b here)) later))

-- what a declaring makes of each block
pub declared_leads : (s : SsaState) (inst : ℕ) (goals : List ℕ) (t : SsaState) → IsDeclared s inst goals t
    → (b : ℕ) → predecessors_of t b ≡ (if stands_in b goals then predecessors_of s b ++ inst ∷ [] else predecessors_of s b)
declared_leads s inst goals t done b =
    along_leads done.told s t inst done.along done.once b ∙ ap (λ test. with_branch test (predecessors_of s b) inst) (done.each b)

pub declared_same : (s : SsaState) (inst : ℕ) (goals : List ℕ) (t : SsaState) → IsDeclared s inst goals t → SameRecords s t × SameBlocks s t
declared_same s inst goals t done = along_same done.told s t inst done.along

-- nothing is declared where no edge is
pub declared_none : (s : SsaState) (inst : ℕ) → IsDeclared s inst [] s
declared_none s inst = record {
  told = [];
  once = λ j k before inside. absurd (omega (arith, inside));
  each = λ b. refl;
  along = ((λ v b. refl), (λ b. refl), λ b. refl);
  tracking = refl;
}

-- ONE MORE EDGE ---------------------------------------------------------------------------------------------------------

targets_more : (edges : List BlockCall) (i : ℕ) (d edge : BlockCall) (b : ℕ) → i < length edges → edge ≡ get_or edges i d
    → stands_in b (targets (take (i + 1) edges)) ≡ (stands_in b (targets (take i edges)) || (edge.block == b))
targets_more edges i d edge b inside read =
    ap (λ (es : List BlockCall). stands_in b (targets es)) (take_more edges i d inside ∙ ap (λ (e : BlockCall). take i edges ++ e ∷ []) (sym read))
    ∙ ap (stands_in b) (map_push (λ (e : BlockCall). e.block) (take i edges) edge)
    ∙ push b edge.block (targets (take i edges))
  where
    or_none : (test : Bool) → (test || false) ≡ test
    or_none true = refl
    or_none false = refl

    push : (b y : ℕ) (xs : List ℕ) → stands_in b (xs ++ y ∷ []) ≡ (stands_in b xs || (y == b))
    push b y xs = list_any-append (λ z. z == b) xs (y ∷ []) ∙ ap (λ test. stands_in b xs || test) (or_none (y == b))

-- the last branch of a list
last_push : (xs : List ℕ) (x : ℕ) → slice_get (xs ++ x ∷ []) (length (xs ++ x ∷ []) - 1) ≡ Some x
last_push xs x = let long : length (xs ++ x ∷ []) - 1 ≡ length xs = grind (arith, common_steps) in ap (slice_get (xs ++ x ∷ [])) long ∙ some_pushed xs x

last_stands : (xs : List ℕ) (x : ℕ) → slice_get xs (length xs - 1) ≡ Some x → Contains xs x
last_stands xs x last = (length xs - 1, slice_get_within xs (length xs - 1) x last, get_or_from_slice_get xs (length xs - 1) x x last)

-- the branch is declared at a block where it was told, and nowhere else
told_last : (s : SsaState) (inst : ℕ) (goals : List ℕ) (t : SsaState) (done : IsDeclared s inst goals t) (b : ℕ) → stands_in b done.told ≡ true
    → slice_get (predecessors_of t b) (length (predecessors_of t b) - 1) ≡ Some inst
told_last s inst goals t done b told =
    subst (λ (is : List ℕ). slice_get is (length is - 1) ≡ Some inst)
    (sym (along_leads done.told s t inst done.along done.once b ∙ ap (λ test. with_branch test (predecessors_of s b) inst) told)) (last_push (predecessors_of s b) inst)

untold_not : (s : SsaState) (inst : ℕ) (goals : List ℕ) (t : SsaState) (done : IsDeclared s inst goals t) (b : ℕ) → (Contains (predecessors_of s b) inst → ⊥)
    → stands_in b done.told ≡ false → slice_get (predecessors_of t b) (length (predecessors_of t b) - 1) ≡ Some inst → ⊥
untold_not s inst goals t done b new untold last =
    new (subst (λ (is : List ℕ). Contains is inst) (along_leads done.told s t inst done.along done.once b ∙ ap (λ test. with_branch test (predecessors_of s b) inst) untold)
    (last_stands (predecessors_of t b) inst last))

-- the target was told already
pub declare_skipped : (s t : SsaState) (inst : ℕ) (edges : List BlockCall) (i : ℕ) (d edge : BlockCall) → i < length edges → edge ≡ get_or edges i d
    → ((b : ℕ) → Contains (predecessors_of s b) inst → ⊥) → IsDeclared s inst (targets (take i edges)) t
    → slice_get (predecessors_of t edge.block) (length (predecessors_of t edge.block) - 1) ≡ Some inst → IsDeclared s inst (targets (take (i + 1) edges)) t
declare_skipped s t inst edges i d edge inside read new done last = record {
  told = done.told;
  once = done.once;
  each = λ b. done.each b ∙ by b (cases_eq edge.block b) ∙ sym (targets_more edges i d edge b inside read);
  along = done.along;
  tracking = done.tracking;
}
  where
    stood : (test : Bool) → stands_in edge.block done.told ≡ test → stands_in edge.block done.told ≡ true
    stood true told = told
    stood false untold = absurd (untold_not s inst (targets (take i edges)) t done edge.block (new edge.block) untold last)

    by : (b : ℕ) → (edge.block ≡ b) ⊎ (edge.block ≢ b) → stands_in b (targets (take i edges)) ≡ (stands_in b (targets (take i edges)) || (edge.block == b))
    by b (inl same) =
        let here : stands_in b (targets (take i edges)) ≡ true = sym (done.each b) ∙ subst (λ c. stands_in c done.told ≡ true) same (stood (stands_in edge.block done.told) refl) in
        here ∙ sym (ap (λ test. test || (edge.block == b)) here)
    by b (inr other) = or_other (stands_in b (targets (take i edges))) (edge.block == b) (grind (arith, common_steps, other))
      where
        or_other : (first next : Bool) → next ≡ false → first ≡ (first || next)
        or_other true next fails = refl
        or_other false next fails = sym fails

-- it is told
pub declare_more : (s t u : SsaState) (inst : ℕ) (edges : List BlockCall) (i : ℕ) (d edge : BlockCall) → i < length edges → edge ≡ get_or edges i d
    → IsDeclared s inst (targets (take i edges)) t → (slice_get (predecessors_of t edge.block) (length (predecessors_of t edge.block) - 1) ≡ Some inst → ⊥)
    → u.records ≡ t.records → SameBlocks t u → u.tracking ≡ t.tracking → Declares t u edge.block inst → IsDeclared s inst (targets (take (i + 1) edges)) u
declare_more s t u inst edges i d edge inside read done not_last records blocks tracking declares = record {
  told = done.told ++ edge.block ∷ [];
  once = Once-outside done.told edge.block done.once (λ here. not_last (told_last s inst (targets (take i edges)) t done edge.block (test-from_Stands edge.block done.told here)));
  each = λ b. push b ∙ ap (λ test. test || (edge.block == b)) (done.each b) ∙ sym (targets_more edges i d edge b inside read);
  along = along_last done.told s t u inst edge.block done.along (λ v b. ap (λ (m : RecordMap). record_at m v b) records) blocks declares;
  tracking = tracking ∙ done.tracking;
}
  where
    or_none : (test : Bool) → (test || false) ≡ test
    or_none true = refl
    or_none false = refl

    push : (b : ℕ) → stands_in b (done.told ++ edge.block ∷ []) ≡ (stands_in b done.told || (edge.block == b))
    push b = list_any-append (λ z. z == b) done.told (edge.block ∷ []) ∙ ap (λ test. stands_in b done.told || test) (or_none (edge.block == b))

-- WHAT IS NAMED -----------------------------------------------------------------------------------------------------------

pub declared_unsealed : (s t : SsaState) (inst : ℕ) (edges : List BlockCall) (i : ℕ) (d edge : BlockCall) → i < length edges → edge ≡ get_or edges i d
    → ((b : ℕ) → Contains (targets edges) b → is_yes (sealed_of s b) ≡ false) → IsDeclared s inst (targets (take i edges)) t → is_yes (sealed_of t edge.block) ≡ false
declared_unsealed s t inst edges i d edge inside read unsealed done =
    ap is_yes ((declared_same s inst (targets (take i edges)) t done).1 edge.block) ∙ unsealed edge.block (i, omega (arith, inside, same_length), grind (arith, common_steps, read, inside))
  where
    same_length : length (targets edges) ≡ length edges
    same_length = grind (arith, common_steps)

pub names_more : (f : Body) (t u : SsaState) (inst b : ℕ) → inst < length f.insts → u.records ≡ t.records → SameBlocks t u → Declares t u b inst
    → NamesExist f t → NamesExist f u
names_more f t u inst b exists records blocks declares named = record {
  recorded = λ x c v is. named.recorded x c v (sym (ap (λ (m : RecordMap). record_at m x c) records) ∙ is);
  leading = λ c i here. by c i (subst (λ (is : List ℕ). Contains is i) (declares c) here);
  waiting = λ c p here. named.waiting c p (subst (λ entry. Contains (pending_of entry) p) (blocks c) here);
}
  where
    by_test : (c i : ℕ) (test : Bool) → Contains (with_branch test (predecessors_of t c) inst) i → i < length f.insts
    by_test c i false here = named.leading c i here
    by_test c i true here = elim (Contains-push_cases (predecessors_of t c) inst i here) [ inl old ↦ named.leading c i old | inr new ↦ omega (arith, new, exists) ]

    by : (c i : ℕ) → Contains (with_branch (c == b) (predecessors_of t c) inst) i → i < length f.insts
    by c i here = by_test c i (c == b) here

pub names_same : (f : Body) (t u : SsaState) → u.records ≡ t.records → SameBlocks t u → SamePredecessors t u → NamesExist f t → NamesExist f u
names_same f t u records blocks same named =
    named-same f f t u (has_more f) same (λ x c. ap (λ (m : RecordMap). record_at m x c) records) blocks named

-- nothing is named where nothing is known
pub names_none : (f : Body) → NamesExist f no_state
names_none f = record {
  recorded = λ x c v is. nothing (sym (record_at-empty x c) ∙ is);
  leading = λ c i here. absurd (none_contained i here);
  waiting = λ c p here. absurd (none_contained p here);
}
  where
    nothing : {A : Type 0} {v : ℕ} → ◌≡◌ {A = Option ℕ} None (Some v) → A
    nothing is = cc

pub names_nothing : (f : Body) (c : ContextState) → c ≡ empty_context → ∥ NamesExist f c.ssa ∥₁
names_nothing f c empty = ∣ subst (λ (d : ContextState). NamesExist f d.ssa) (sym empty) (names_none f) ∣₁

pub ruleset declare_rules = (declare_skipped, declare_more, declared_unsealed, names_more, names_same)
