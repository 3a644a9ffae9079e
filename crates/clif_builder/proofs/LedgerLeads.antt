-- A branch becomes a predecessor of its targets: by the ledger, and by the construction.
use Rattle.std.proofs.Common.{◌≡◌, ◌==◌, ℕ, suc, List, [], ◌∷◌, ◌++◌, refl, sym, ◌∙◌, ap, subst, arith, inl, inr}
use Rattle.std.specs.Prelude.{Bool, true, false, ◌||◌, if◌then◌else◌, fold, map, Some, Contains}
use Rattle.std.specs.List.{list_any}
use Rattle.std.proofs.lemmas.Bool.{cases_eq, eq-eqb, ne_eqb, or_left, or_right}
use Rattle.std.proofs.lemmas.Option.{same_Some}
use Rattle.clif_instructions.specs.Members.{Once, Stands, stands_in}
use Rattle.clif_instructions.specs.Edges.{targets}
use Rattle.clif_instructions.specs.declared.block_call.BlockCall.{BlockCall}
use Rattle.clif_instructions.proofs.Members.{Once-tail, Stands-from_test}
use Rattle.clif_meaning.specs.Name.{Name, same_name}
use Rattle.clif_meaning.specs.Instruction.{Edge}
use Rattle.clif_meaning.specs.Request.{AnsweredCall, number_of}
use Rattle.clif_meaning.specs.Ledger.{BlockState, Ledger, with_predecessor}
use Rattle.clif_ssa.specs.Ssa.{SsaState, predecessors_of, Declares, SameBlocks, SameRecords}
use Rattle.clif_ssa.proofs.Ordering.{contains_first, contains_more}
use Rattle.clif_simulation.specs.Carries.{DeclaredAlong}
use Rattle.clif_builder.specs.Ledger.{NamesEdges, block_name, ledger_of}
use Rattle.clif_builder.proofs.LedgerLists.{if-yes, if-no}
use Rattle.clif_builder.proofs.LedgerNames.{IsNumbered, by-number, named-block, same_name-refl, same_name-true}

-- THE CONSTRUCTION ------------------------------------------------------------------------------------------------

-- a block that stands once isn't in what follows it
once_ahead : (x : ℕ) (xs : List ℕ) → Once (x ∷ xs) → stands_in x xs ≡ true → ⊥
once_ahead x xs once there =
    let here : Stands x xs = Stands-from_test x xs there in
    once 0 (suc here.0) (omega arith) (omega (arith, here.1)) (sym here.2)

not_ahead : (x : ℕ) (xs : List ℕ) → Once (x ∷ xs) → stands_in x xs ≡ false
not_ahead x xs once = by (stands_in x xs) refl
  where
    by : (test : Bool) → stands_in x xs ≡ test → stands_in x xs ≡ false
    by true is = absurd (once_ahead x xs once is)
    by false is = is

-- the branches that lead to each block, where one was declared at these, once for each
pub leads-along : (blocks : List ℕ) (s t : SsaState) (inst : ℕ) → DeclaredAlong s inst blocks t → Once blocks
    → (b : ℕ) → predecessors_of t b ≡ (if stands_in b blocks then predecessors_of s b ++ inst ∷ [] else predecessors_of s b)
leads-along [] s t inst along once b = along.2 b
leads-along (x ∷ blocks) s t inst along once b =
    let u : SsaState = along.0 in
    let first : Declares s u x inst = along.3 in
    let rest : predecessors_of t b ≡ (if stands_in b blocks then predecessors_of u b ++ inst ∷ [] else predecessors_of u b) =
    leads-along blocks u t inst along.4 (Once-tail x blocks once) b in
    elim (cases_eq b x) [
      | inl same ↦
          let out : stands_in b blocks ≡ false = ap (λ (n : ℕ). stands_in n blocks) same ∙ not_ahead x blocks once in
          let there : stands_in b (x ∷ blocks) ≡ true = or_left (x == b) (stands_in b blocks) (eq-eqb x b (sym same)) in
          rest ∙ if-no (stands_in b blocks) (predecessors_of u b ++ inst ∷ []) (predecessors_of u b) out
          ∙ first b ∙ if-yes (b == x) (predecessors_of s b ++ inst ∷ []) (predecessors_of s b) (eq-eqb b x same)
          ∙ sym (if-yes (stands_in b (x ∷ blocks)) (predecessors_of s b ++ inst ∷ []) (predecessors_of s b) there)
      | inr other ↦
          let same_leads : predecessors_of u b ≡ predecessors_of s b = first b ∙ if-no (b == x) (predecessors_of s b ++ inst ∷ []) (predecessors_of s b) (ne_eqb b x other) in
          let same_test : stands_in b (x ∷ blocks) ≡ stands_in b blocks = ap (λ (t : Bool). t || stands_in b blocks) (ne_eqb x b (λ is. other (sym is))) in
          rest ∙ ap (λ (is : List ℕ). if stands_in b blocks then is ++ inst ∷ [] else is) same_leads
          ∙ ap (λ (t : Bool). if t then predecessors_of s b ++ inst ∷ [] else predecessors_of s b) (sym same_test)
    ]

-- each block is as sealed as before
pub blocks-along : (blocks : List ℕ) (s t : SsaState) (inst : ℕ) → DeclaredAlong s inst blocks t → SameBlocks s t
blocks-along [] s t inst along = along.1
blocks-along (x ∷ blocks) s t inst along = λ b. blocks-along blocks along.0 t inst along.4 b ∙ along.2 b

-- each record is as before
pub records-along : (blocks : List ℕ) (s t : SsaState) (inst : ℕ) → DeclaredAlong s inst blocks t → SameRecords s t
records-along [] s t inst along = along.0
records-along (x ∷ blocks) s t inst along = λ v b. records-along blocks along.0 t inst along.4 v b ∙ along.1 v b

-- THE LEDGER ------------------------------------------------------------------------------------------------------

-- the state of a block to which a branch leads
abbrev pub led : Name → BlockState → BlockState
led branch s = if list_any (same_name branch) s.predecessors then s else record s { predecessors = s.predecessors ++ branch ∷ [] }

-- one of these edges leads to a block
abbrev pub goes : List (Edge Name Name) → Name → Bool
goes edges name = list_any (λ (edge : Edge Name Name). same_name name edge.target) edges

pub led-block : (branch : Name) (s : BlockState) → (led branch s).block ≡ s.block
led-block branch s = by (list_any (same_name branch) s.predecessors)
  where
    by : (test : Bool) → (if test then s else record s { predecessors = s.predecessors ++ branch ∷ [] }).block ≡ s.block
    by true = refl
    by false = refl

heard_last : (branch : Name) (names : List Name) → list_any (same_name branch) (names ++ branch ∷ []) ≡ true
heard_last branch [] = or_left (same_name branch branch) false (same_name-refl branch)
heard_last branch (name ∷ names) = or_right (same_name branch name) (list_any (same_name branch) (names ++ branch ∷ [])) (heard_last branch names)

led_twice : (branch : Name) (s : BlockState) → led branch (led branch s) ≡ led branch s
led_twice branch s = by (list_any (same_name branch) s.predecessors) refl
  where
    by : (test : Bool) → list_any (same_name branch) s.predecessors ≡ test
        → led branch (if test then s else record s { predecessors = s.predecessors ++ branch ∷ [] }) ≡ (if test then s else record s { predecessors = s.predecessors ++ branch ∷ [] })
    by true is = if-yes (list_any (same_name branch) s.predecessors) s (record s { predecessors = s.predecessors ++ branch ∷ [] }) is
    by false is =
        if-yes (list_any (same_name branch) (s.predecessors ++ branch ∷ [])) (record s { predecessors = s.predecessors ++ branch ∷ [] })
        (record s { predecessors = (s.predecessors ++ branch ∷ []) ++ branch ∷ [] }) (heard_last branch s.predecessors)

-- one edge and then others
led_more : (branch : Name) (edge : Edge Name Name) (edges : List (Edge Name Name)) (states : List BlockState)
    → map (λ (s : BlockState). if goes edges s.block then led branch s else s) (map (λ (s : BlockState). if same_name s.block edge.target then led branch s else s) states)
    ≡ map (λ (s : BlockState). if goes (edge ∷ edges) s.block then led branch s else s) states
led_more branch edge edges [] = refl
led_more branch edge edges (s ∷ states) =
    let here = by (same_name s.block edge.target) in
    let rest = led_more branch edge edges states in
    cc
  where
    again : (test : Bool) → (if test then led branch (led branch s) else led branch s) ≡ led branch s
    again true = led_twice branch s
    again false = refl

    by : (test : Bool)
        → (if goes edges (if test then led branch s else s).block then led branch (if test then led branch s else s) else (if test then led branch s else s))
        ≡ (if test || goes edges s.block then led branch s else s)
    by true = again (goes edges (led branch s).block)
    by false = refl

-- the ledger after a branch was declared along its edges
pub record LedLedger (old new : Ledger) (branch : Name) (edges : List (Edge Name Name)) : Type 0 where
  pub answers : new.answers ≡ old.answers
  pub blocks : new.blocks ≡ map (λ (s : BlockState). if goes edges s.block then led branch s else s) old.blocks
  pub layout : new.layout ≡ old.layout
  pub current : new.current ≡ old.current
  pub variables : new.variables ≡ old.variables
  pub tables : new.tables ≡ old.tables

pub led-ledger : (branch : Name) (edges : List (Edge Name Name)) (ledger : Ledger) → LedLedger ledger (fold (with_predecessor branch) ledger edges) branch edges
led-ledger branch [] ledger = record { answers = refl; blocks = none ledger.blocks; layout = refl; current = refl; variables = refl; tables = refl }
  where
    none : (states : List BlockState) → states ≡ map (λ (s : BlockState). if goes [] s.block then led branch s else s) states
    none [] = refl
    none (s ∷ states) = ap (λ (rest : List BlockState). s ∷ rest) (none states)
led-ledger branch (edge ∷ edges) ledger =
    let rest = led-ledger branch edges (with_predecessor branch ledger edge) in
    record {
      answers = rest.answers;
      blocks = rest.blocks ∙ led_more branch edge edges ledger.blocks;
      layout = rest.layout;
      current = rest.current;
      variables = rest.variables;
      tables = rest.tables;
    }

-- NAMES AND NUMBERS -----------------------------------------------------------------------------------------------

-- each edge of the one list leads to the block of the ledger with the number that the other list has
abbrev pub LeadTo : Ledger → List (Edge Name Name) → List BlockCall → Type 0
LeadTo ledger [] [] = Unit {0}
LeadTo ledger (edge ∷ edges) (made ∷ others) = (block_name ledger made.block ≡ Some edge.target) × LeadTo ledger edges others
LeadTo ledger _ _ = ⊥

pub lead-to : (calls : List AnsweredCall) (edges : List (Edge Name Name)) (made : List BlockCall) → IsNumbered calls (ledger_of calls) → NamesEdges calls edges made
    → LeadTo (ledger_of calls) edges made
lead-to calls [] [] numbered names = tt
lead-to calls [] (call ∷ made) numbered names = absurd names
lead-to calls (edge ∷ edges) [] numbered names = absurd names
lead-to calls (edge ∷ edges) (call ∷ made) numbered names =
    (named-block calls numbered edge.target call.block names.0.target, lead-to calls edges made numbered names.1)

pub lead-still : (old new : Ledger) (edges : List (Edge Name Name)) (made : List BlockCall) → ((k : ℕ) (x : Name) → block_name old k ≡ Some x → block_name new k ≡ Some x)
    → LeadTo old edges made → LeadTo new edges made
lead-still old new [] [] names lead = tt
lead-still old new [] (call ∷ made) names lead = absurd lead
lead-still old new (edge ∷ edges) [] names lead = absurd lead
lead-still old new (edge ∷ edges) (call ∷ made) names lead = (names call.block edge.target lead.0, lead-still old new edges made names lead.1)

-- by names they lead where they lead by numbers
pub goes-to : (calls : List AnsweredCall) (ledger : Ledger) → IsNumbered calls ledger → (k : ℕ) (name : Name) → block_name ledger k ≡ Some name
    → (edges : List (Edge Name Name)) (made : List BlockCall) → LeadTo ledger edges made → goes edges name ≡ stands_in k (targets made)
goes-to calls ledger numbered k name named [] [] lead = refl
goes-to calls ledger numbered k name named [] (call ∷ made) lead = absurd lead
goes-to calls ledger numbered k name named (edge ∷ edges) [] lead = absurd lead
goes-to calls ledger numbered k name named (edge ∷ edges) (call ∷ made) lead =
    let here : same_name name edge.target ≡ (call.block == k) =
    by-number name edge.target call.block k
    (λ same. same_Some name edge.target (sym named ∙ ap (block_name ledger) (sym same) ∙ lead.0))
    (λ same. same_Some call.block k (sym (numbered call.block edge.target lead.0) ∙ ap (number_of calls) (sym same) ∙ numbered k name named)) in
    let rest : goes edges name ≡ stands_in k (targets made) = goes-to calls ledger numbered k name named edges made lead.1 in
    ap (λ (t : Bool). t || goes edges name) here ∙ ap (λ (t : Bool). (call.block == k) || t) rest

-- a name whose number isn't among those of other names isn't among them
pub unheard : (calls : List AnsweredCall) (branch : Name) (inst : ℕ) → number_of calls branch ≡ Some inst
    → (names : List Name) (numbers : List ℕ) → map (number_of calls) names ≡ map Some numbers → (Contains numbers inst → ⊥) → list_any (same_name branch) names ≡ false
unheard calls branch inst number [] numbers same out = refl
unheard calls branch inst number (name ∷ names) [] same out = let no_way : ⊥ = cc in absurd no_way
unheard calls branch inst number (name ∷ names) (n ∷ numbers) same out =
    let here : number_of calls name ≡ Some n = cc in
    let rest : map (number_of calls) names ≡ map Some numbers = cc in
    let others : list_any (same_name branch) names ≡ false = unheard calls branch inst number names numbers rest (λ there. out (contains_more n numbers inst there)) in
    by (same_name branch name) refl here others
  where
    by : (test : Bool) → same_name branch name ≡ test → number_of calls name ≡ Some n → list_any (same_name branch) names ≡ false
        → list_any (same_name branch) (name ∷ names) ≡ false
    by true holds here others =
        let same_number : inst ≡ n = same_Some inst n (sym number ∙ ap (number_of calls) (same_name-true branch name holds) ∙ here) in
        absurd (out (subst (λ (m : ℕ). Contains (n ∷ numbers) m) (sym same_number) (contains_first n numbers)))
    by false fails here others = ap (λ (t : Bool). t || list_any (same_name branch) names) fails ∙ others
