-- Recorded contexts of try calls.
use Rattle.std.proofs.Common.{◌≡◌, ◌≢◌, ◌+◌, ◌<◌, ◌⊎◌, ◌↔◌, ℕ, zero, suc, Bool, true, false, List, [], ◌∷◌, ◌++◌, length, get_or, take, set, replicate, refl, sym, ap, subst, ◌∙◌, arith, inl, inr, eqb, Some, None}
use Rattle.std.specs.Prelude.{Contains, if◌then◌else◌}
use Rattle.std.specs.List.{flat_map, list_any}
use Rattle.std.proofs.lemmas.List.{get_or-set_other, take_more}
use Rattle.std.proofs.lemmas.List.Elements.{Contains-append_cases, Contains-append_left, Contains-append_right, Contains-push, Contains-push_cases}
use Rattle.std.proofs.lemmas.Grind.{get_or-set_at}
use Rattle.std.proofs.lemmas.Bool.{false≢true}
use Rattle.std.proofs.lemmas.Bool.Decides.{eqb_tells}
use Rattle.clif_instructions.specs.declared.exception_table.ExceptionItem.{ExceptionItem}
use Rattle.clif_instructions.specs.declared.exception_table.ExceptionItem.TheVariants as item
use Rattle.clif_instructions.specs.declared.instructions.InstructionData.{InstructionData}
use Rattle.clif_instructions.specs.declared.instructions.InstructionData.TheVariants.{TryCall, TryCallIndirect}
use Rattle.clif_instructions.specs.ExceptionTables.{ExceptionShape, contexts_of, item_context}
use Rattle.clif_instructions.specs.Instruction.{contexts, exception_table}
use Rattle.clif_instructions.specs.Members.{stands_in}
use Rattle.clif_instructions.proofs.Members.{place_of-first}
use Rattle.clif_types.specs.EntitySet.{has}
use Rattle.clif_ir.specs.Body.{Body, block_at, inst_at, resolved}
use Rattle.clif_ir.specs.Consistent.{IsConsistent}
use Rattle.clif_ir.specs.Reading.{place_in_block}
use Rattle.clif_meaning.specs.Path.{IsReachable}
use Rattle.clif_meaning.specs.View.{view_of}
use Rattle.clif_meaning.specs.WellPlaced.{function_flow}
use Rattle.clif_safepoints.specs.Analysis.{IsReached, place_of_inst}
use Rattle.clif_safepoints.specs.Contexts.{item_is_tracked}
use Rattle.clif_number_sets.specs.Sets.{is_in}
use Rattle.clif_safepoints.specs.Transfer.{insts_of}
use Rattle.clif_safepoints.proofs.Paths.{block_reached, or_cases, or_left, or_right, reached_inside, size_is, stands_from, stands_to}
use Rattle.clif_safepoints.proofs.Concluding.{path_size}

-- the contexts of an instruction are those of its exception table
pub contexts_are : (shape : InstructionData) (table : ExceptionShape) → exception_table shape ≡ Some table → contexts shape ≡ contexts_of table
contexts_are (TryCall function args own) table is = let e : own ≡ table = cc in ap contexts_of e
contexts_are (TryCallIndirect args own) table is = let e : own ≡ table = cc in ap contexts_of e
contexts_are _ table is = cc

pub no_contexts : (shape : InstructionData) → exception_table shape ≡ None → contexts shape ≡ []
no_contexts (TryCall function args own) is = cc
no_contexts (TryCallIndirect args own) is = cc
no_contexts _ is = refl

-- a recorded value among the contexts of items
abbrev pub NamesTracked : Body → List ℕ → List ℕ → Type 0
NamesTracked f recorded values = (value : ℕ) × Contains values value × Contains recorded (resolved f value)

item_to : (f : Body) (recorded : List ℕ) (x : ExceptionItem) → item_is_tracked f recorded x ≡ true → NamesTracked f recorded (item_context x)
item_to f recorded (item.Context v) h = (v, (0, omega arith, refl), stands_to (resolved f v) recorded h)
item_to f recorded (item.Tag tag) h = cc
item_to f recorded item.Default h = cc

item_from : (f : Body) (recorded : List ℕ) (x : ExceptionItem) (v : ℕ) → Contains (item_context x) v → Contains recorded (resolved f v) → item_is_tracked f recorded x ≡ true
item_from f recorded (item.Context w) v member tracked = by (Contains-push_cases [] w v member)
  where
    by : Contains [] v ⊎ (w ≡ v) → has recorded (resolved f w) ≡ true
    by (inl none) = absurd (omega (arith, none.1))
    by (inr same) = stands_from (resolved f w) recorded (subst (λ x. Contains recorded (resolved f x)) (sym same) tracked)
item_from f recorded (item.Tag tag) v member tracked = absurd (omega (arith, member.1))
item_from f recorded item.Default v member tracked = absurd (omega (arith, member.1))

pub items_to : (f : Body) (recorded : List ℕ) (items : List ExceptionItem) → list_any (item_is_tracked f recorded) items ≡ true → NamesTracked f recorded (flat_map item_context items)
items_to f recorded [] h = cc
items_to f recorded (x ∷ items) h = by (items_to f recorded items) (or_cases (item_is_tracked f recorded x) (list_any (item_is_tracked f recorded) items) h)
  where
    by : (list_any (item_is_tracked f recorded) items ≡ true → NamesTracked f recorded (flat_map item_context items))
        → (item_is_tracked f recorded x ≡ true) ⊎ (list_any (item_is_tracked f recorded) items ≡ true) → NamesTracked f recorded (item_context x ++ flat_map item_context items)
    by rest (inl here) = let found = item_to f recorded x here in (found.0, Contains-append_left (item_context x) (flat_map item_context items) found.0 found.1, found.2)
    by rest (inr later) = let found = rest later in (found.0, Contains-append_right (item_context x) (flat_map item_context items) found.0 found.1, found.2)

pub items_from : (f : Body) (recorded : List ℕ) (items : List ExceptionItem) (v : ℕ) → Contains (flat_map item_context items) v → Contains recorded (resolved f v)
    → list_any (item_is_tracked f recorded) items ≡ true
items_from f recorded [] v member tracked = absurd (omega (arith, member.1))
items_from f recorded (x ∷ items) v member tracked =
    by (λ h. items_from f recorded items v h tracked) (Contains-append_cases (item_context x) (flat_map item_context items) v member)
  where
    by : (Contains (flat_map item_context items) v → list_any (item_is_tracked f recorded) items ≡ true) → Contains (item_context x) v ⊎ Contains (flat_map item_context items) v
        → list_any (item_is_tracked f recorded) (x ∷ items) ≡ true
    by rest (inl here) = or_left (item_is_tracked f recorded x) (list_any (item_is_tracked f recorded) items) (item_from f recorded x v here tracked)
    by rest (inr later) = or_right (item_is_tracked f recorded x) (list_any (item_is_tracked f recorded) items) (rest later)

-- an instruction of a block of the layout that is reached
pub inst_reachable : (f : Body) → IsConsistent f → (inst : ℕ) → inst < length f.insts → stands_in (inst_at f inst).block f.layout ≡ true → IsReached (view_of f) (inst_at f inst).block
    → IsReachable (function_flow (view_of f)) (place_of_inst f inst)
inst_reachable f kept inst exists stands reached =
    reached_inside f (inst_at f inst).block reached (place_in_block f inst) (subst (λ xs. place_in_block f inst < length xs) (sym own) inside)
  where
    own : insts_of f (inst_at f inst).block ≡ (block_at f (inst_at f inst).block).insts
    own = ap (λ (c : Bool). if c then (block_at f (inst_at f inst).block).insts else []) stands

    inside : place_in_block f inst < length (block_at f (inst_at f inst).block).insts
    inside =
        let there = (kept.insts_stand inst exists).1 in
        let e : place_in_block f inst ≡ there.0 = place_of-first (block_at f (inst_at f inst).block).insts there.0 inst there.1 there.2
        (λ j before same. kept.insts_once (inst_at f inst).block j there.0 before there.1 (same ∙ sym there.2)) in
        omega (arith, e, there.1)

-- and back
pub reachable_inst : (f : Body) (inst : ℕ) → IsReachable (function_flow (view_of f)) (place_of_inst f inst)
    → IsReached (view_of f) (inst_at f inst).block × (stands_in (inst_at f inst).block f.layout ≡ true)
reachable_inst f inst h = (block_reached f h.0 (place_of_inst f inst) h.1, by (stands_in (inst_at f inst).block f.layout) refl)
  where
    inside : place_in_block f inst < length (insts_of f (inst_at f inst).block)
    inside = subst (λ n. place_in_block f inst < n) (size_is f (inst_at f inst).block) (path_size f h.0 (place_of_inst f inst) h.1)

    by : (c : Bool) → stands_in (inst_at f inst).block f.layout ≡ c → stands_in (inst_at f inst).block f.layout ≡ true
    by true is = is
    by false is =
        absurd (let none : place_in_block f inst < length {A = ℕ} [] = subst (λ (c : Bool). place_in_block f inst < length (if c then (block_at f (inst_at f inst).block).insts else [])) is inside in omega (arith, none))

-- one more mark, for one more block of the order
pub marks_more : (marks : List Bool) (order : List ℕ) (i block number : ℕ) → i < length order → block ≡ get_or order i block → number ≡ block → number < length marks
    → ((b : ℕ) → (is_in marks b ≡ true) ↔ Contains (take i order) b) → (b : ℕ) → (is_in (set marks number true) b ≡ true) ↔ Contains (take (i + 1) order) b
marks_more marks order i block number inside is same within so_far b = (λ h. to (eqb_tells b number) h, λ h. from (eqb_tells b number) (Contains-push_cases (take i order) block b (subst (λ xs. Contains xs b) more h)))
  where
    more : take (i + 1) order ≡ take i order ++ block ∷ []
    more = take_more order i block inside ∙ ap (λ x. take i order ++ x ∷ []) (sym is)

    to : ((eqb b number ≡ true) × (b ≡ number)) ⊎ ((eqb b number ≡ false) × (b ≢ number)) → is_in (set marks number true) b ≡ true → Contains (take (i + 1) order) b
    to (inl e) h = subst (λ xs. Contains xs b) (sym more) (subst (λ x. Contains (take i order ++ block ∷ []) x) (sym (e.1 ∙ same)) (Contains-push (take i order) block))
    to (inr other) h =
        subst (λ xs. Contains xs b) (sym more) (Contains-append_left (take i order) (block ∷ []) b ((so_far b).0 (sym (get_or-set_other marks number b true false other.1) ∙ h)))

    from : ((eqb b number ≡ true) × (b ≡ number)) ⊎ ((eqb b number ≡ false) × (b ≢ number)) → Contains (take i order) b ⊎ (block ≡ b) → is_in (set marks number true) b ≡ true
    from (inl e) which = get_or-set_at marks number b true false e.1 within
    from (inr other) (inl old) = get_or-set_other marks number b true false other.1 ∙ (so_far b).1 old
    from (inr other) (inr here) = absurd (other.1 (sym (same ∙ here)))

no_mark : (n b : ℕ) → is_in (replicate n false) b ≡ false
no_mark zero b = refl
no_mark (suc n) zero = refl
no_mark (suc n) (suc b) = no_mark n b

pub marks_none : (n b : ℕ) → (is_in (replicate n false) b ≡ true) ↔ Contains [] b
marks_none n b = (λ h. absurd (false≢true (sym (no_mark n b) ∙ h)), λ h. absurd (omega (arith, h.1)))
