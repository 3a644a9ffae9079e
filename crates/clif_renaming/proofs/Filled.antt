-- Which blocks are filled doesn't depend on when they are sealed.
use Rattle.std.proofs.Common.{◌≡◌, ◌+◌, ℕ, suc, Bool, true, false, cond, not, List, [], ◌∷◌, ◌++◌, length, map, refl, sym, ◌∙◌, ap, ap₂, subst, arith, Option, Some, None}
use Rattle.std.specs.Prelude.{find, fold, if◌then◌else◌, option_map}
use Rattle.std.specs.List.{list_any}
use Rattle.std.proofs.lemmas.List.{length_push, map-append}
use Rattle.clif_meaning.specs.Instruction.{Edge, Operation}
use Rattle.clif_meaning.specs.Ledger.{BlockState, Ledger, answers_to, changed_by, empty_ledger, is_filled, is_inserted, is_terminator, ledger_after, ledger_with, left_by, new_block, next_answer, redirected_state, sealed, state_has, with_begun, with_begun_at, with_filled_at, with_predecessor, with_state, with_terminator}
use Rattle.clif_meaning.specs.Name.{Name, answer_of, same_name}
use Rattle.clif_meaning.specs.Request.{Request, Script}
use Rattle.clif_renaming.specs.Renaming.{KeepsApart, renamed_edge}
use Rattle.clif_renaming.specs.Sealing.{is_sealing, name_left, renamed_request, unsealed, without_seals}
use Rattle.clif_renaming.proofs.Places.{Follows, follows_at_first, follows_call, follows_here, follows_seal, names_apart}
use Rattle.clif_renaming.proofs.RenamedEffects.{BothAppend, BothBegin, BothChange, BothChangeJump, BothCreate, BothEnter, BothInsertAfter, BothList, BothMakeExceptionTable, BothMakeJumpTable, BothSeal, RenamedLedgerEffect, Seals, SealsAll, SealsOne, renamed_ledger_effect, sealing_is}
use Rattle.clif_renaming.proofs.RenamedNames.{same_renamed}

-- a block, and whether it is filled
record Mark : Type 0 where
  block : Name
  filled : Bool

abbrev mark_of : BlockState → Mark
mark_of state = record { block = state.block; filled = state.is_filled }

abbrev marks_of : List BlockState → List Mark
marks_of states = map mark_of states

abbrev renamed_mark : (Name → Name) → Mark → Mark
renamed_mark rename mark = record { block = rename mark.block; filled = mark.filled }

abbrev filled_mark : Name → Mark → Mark
filled_mark block mark = if same_name mark.block block then record { block = mark.block; filled = true } else mark

-- the block is marked as filled
abbrev filled_in : List Mark → Name → Bool
filled_in [] block = false
filled_in (mark ∷ marks) block = cond (same_name mark.block block) mark.filled (filled_in marks block)

-- ONE LEDGER ------------------------------------------------------------------------------------------------------------

-- the same blocks are filled, and the current block is the same
record Keeps (ledger other : Ledger) : Type 0 where
  marks : marks_of other.blocks ≡ marks_of ledger.blocks
  current : other.current ≡ ledger.current

keeps_then : (l m n : Ledger) → Keeps l m → Keeps m n → Keeps l n
keeps_then l m n first second = record { marks = second.marks ∙ first.marks; current = second.current ∙ first.current }

marks_kept : (change : BlockState → BlockState) → ((state : BlockState) → mark_of (change state) ≡ mark_of state) → (states : List BlockState) → marks_of (map change states) ≡ marks_of states
marks_kept change keeps [] = refl
marks_kept change keeps (state ∷ states) = ap₂ (λ (mark : Mark) (marks : List Mark). mark ∷ marks) (keeps state) (marks_kept change keeps states)

state_kept : (ledger : Ledger) (block : Name) (change : BlockState → BlockState) → ((state : BlockState) → mark_of (change state) ≡ mark_of state) → Keeps ledger (with_state ledger block change)
state_kept ledger block change keeps = record {
  marks = marks_kept (λ state. if same_name state.block block then change state else state) (λ state. by state (same_name state.block block)) ledger.blocks;
  current = refl;
}
  where
    by : (state : BlockState) (c : Bool) → mark_of (if c then change state else state) ≡ mark_of state
    by state true = keeps state
    by state false = refl

begun_kept : (ledger : Ledger) (o : Option Name) → Keeps ledger (with_begun_at ledger o)
begun_kept ledger None = record { marks = refl; current = refl }
begun_kept ledger (Some block) =
    let laid = by (is_inserted ledger block) in
    let begun = state_kept (if is_inserted ledger block then ledger else record ledger { layout = ledger.layout ++ block ∷ [] }) block (λ state. record state { is_pristine = false }) (λ state. refl) in
    record { marks = begun.marks ∙ laid.marks; current = begun.current ∙ laid.current }
  where
    by : (c : Bool) → Keeps ledger (if c then ledger else record ledger { layout = ledger.layout ++ block ∷ [] })
    by true = record { marks = refl; current = refl }
    by false = record { marks = refl; current = refl }

led_kept : (branch : Name) (ledger : Ledger) (edges : List (Edge Name Name)) → Keeps ledger (fold (with_predecessor branch) ledger edges)
led_kept branch ledger [] = record { marks = refl; current = refl }
led_kept branch ledger (edge ∷ edges) =
    keeps_then ledger (with_predecessor branch ledger edge) (fold (with_predecessor branch) (with_predecessor branch ledger edge) edges)
    (state_kept ledger edge.target (λ state. if list_any (same_name branch) state.predecessors then state else record state { predecessors = state.predecessors ++ branch ∷ [] })
    (λ state. by state (list_any (same_name branch) state.predecessors)))
    (led_kept branch (with_predecessor branch ledger edge) edges)
  where
    by : (state : BlockState) (c : Bool) → mark_of (if c then state else record state { predecessors = state.predecessors ++ branch ∷ [] }) ≡ mark_of state
    by state true = refl
    by state false = refl

redirected_kept : (ledger : Ledger) (branch from to : Name) → Keeps ledger (record ledger { blocks = map (redirected_state branch from to) ledger.blocks })
redirected_kept ledger branch from to = record {
  marks = marks_kept (redirected_state branch from to)
      (λ state. by state (same_name from to) (same_name state.block from) (same_name state.block to) (list_any (same_name branch) state.predecessors)) ledger.blocks;
  current = refl;
}
  where
    by : (state : BlockState) (same at_from at_to there : Bool)
        → mark_of (if same then state else (if at_from then left_by branch state
        else (if at_to then (if there then state else record state { predecessors = state.predecessors ++ branch ∷ [] }) else state))) ≡ mark_of state
    by state true at_from at_to there = refl
    by state false true at_to there = refl
    by state false false true true = refl
    by state false false true false = refl
    by state false false false there = refl

sealing_kept : (ledger : Ledger) (request : Request) → is_sealing request ≡ true → Keeps ledger (changed_by ledger request)
sealing_kept ledger request is = by (sealing_is request is)
  where
    by : Seals request → Keeps ledger (changed_by ledger request)
    by (SealsOne block same) = subst (λ (r : Request). Keeps ledger (changed_by ledger r)) (sym same) (state_kept ledger block sealed (λ state. refl))
    by (SealsAll same) =
        subst (λ (r : Request). Keeps ledger (changed_by ledger r)) (sym same) (record { marks = marks_kept sealed (λ state. refl) ledger.blocks; current = refl })

marks_filled : (states : List BlockState) (block : Name)
    → marks_of (map (λ (state : BlockState). if same_name state.block block then record state { is_filled = true } else state) states) ≡ map (filled_mark block) (marks_of states)
marks_filled [] block = refl
marks_filled (state ∷ states) block = ap₂ (λ (mark : Mark) (marks : List Mark). mark ∷ marks) (by (same_name state.block block)) (marks_filled states block)
  where
    by : (c : Bool) → mark_of (if c then record state { is_filled = true } else state) ≡ (if c then record { block = state.block; filled = true } else mark_of state)
    by true = refl
    by false = refl

filled_by_marks : (states : List BlockState) (block : Name) → state_has (λ state. state.is_filled) (find (λ state. same_name state.block block) states) ≡ filled_in (marks_of states) block
filled_by_marks [] block = refl
filled_by_marks (state ∷ states) block = by (same_name state.block block) (filled_by_marks states block)
  where
    by : (c : Bool) → state_has (λ state. state.is_filled) (find (λ state. same_name state.block block) states) ≡ filled_in (marks_of states) block
        → state_has (λ state. state.is_filled) (cond c (Some state) (find (λ state. same_name state.block block) states)) ≡ cond c state.is_filled (filled_in (marks_of states) block)
    by true later = refl
    by false later = later

-- TWO LEDGERS -----------------------------------------------------------------------------------------------------------

-- the renamed blocks are filled alike, and the current block is renamed
pub record SameFilled (rename : Name → Name) (l l' : Ledger) : Type 0 where
  pub marks : marks_of l'.blocks ≡ map (renamed_mark rename) (marks_of l.blocks)
  pub current : l'.current ≡ option_map rename l.current

module _ (rename : Name → Name) (apart : KeepsApart rename) where
  both_keep : (l l' m m' : Ledger) → SameFilled rename l l' → Keeps l m → Keeps l' m' → SameFilled rename m m'
  both_keep l l' m m' same kept kept' = record {
    marks = kept'.marks ∙ same.marks ∙ ap (map (renamed_mark rename)) (sym kept.marks);
    current = kept'.current ∙ same.current ∙ ap (λ (o : Option Name). option_map rename o) (sym kept.current);
  }

  mark_renamed : (block : Name) (marks : List Mark) → map (filled_mark (rename block)) (map (renamed_mark rename) marks) ≡ map (renamed_mark rename) (map (filled_mark block) marks)
  mark_renamed block [] = refl
  mark_renamed block (mark ∷ marks) =
      ap₂ (λ (first : Mark) (rest : List Mark). first ∷ rest)
      (ap (λ (test : Bool). if test then record { block = rename mark.block; filled = true } else renamed_mark rename mark) (same_renamed rename apart mark.block block)
      ∙ by (same_name mark.block block))
      (mark_renamed block marks)
    where
      by : (c : Bool) → (if c then record { block = rename mark.block; filled = true } else renamed_mark rename mark)
          ≡ renamed_mark rename (if c then record { block = mark.block; filled = true } else mark)
      by true = refl
      by false = refl

  filled_both : (l l' : Ledger) (o : Option Name) → SameFilled rename l l' → SameFilled rename (with_filled_at l o) (with_filled_at l' (option_map rename o))
  filled_both l l' None same = same
  filled_both l l' (Some block) same = record {
    marks = marks_filled l'.blocks (rename block) ∙ ap (map (filled_mark (rename block))) same.marks
        ∙ mark_renamed block (marks_of l.blocks) ∙ ap (map (renamed_mark rename)) (sym (marks_filled l.blocks block));
    current = same.current;
  }

  ended_both : (l l' : Ledger) (operation : Operation) → SameFilled rename l l' → SameFilled rename (with_terminator l operation) (with_terminator l' operation)
  ended_both l l' operation same = by (is_terminator operation)
    where
      by : (c : Bool) → SameFilled rename (if c then with_filled_at l l.current else l) (if c then with_filled_at l' l'.current else l')
      by true = subst (λ (o : Option Name). SameFilled rename (with_filled_at l l.current) (with_filled_at l' o)) (sym same.current) (filled_both l l' l.current same)
      by false = same

  begun_both : (l l' : Ledger) → SameFilled rename l l' → SameFilled rename (with_begun l) (with_begun l')
  begun_both l l' same = both_keep l l' (with_begun l) (with_begun l') same (begun_kept l l.current) (begun_kept l' l'.current)

  pub built_both : (l l' : Ledger) (branch branch' : Name) (operation : Operation) (edges edges' : List (Edge Name Name)) → SameFilled rename l l'
      → SameFilled rename (fold (with_predecessor branch) (with_terminator (with_begun l) operation) edges) (fold (with_predecessor branch') (with_terminator (with_begun l') operation) edges')
  built_both l l' branch branch' operation edges edges' same =
      both_keep (with_terminator (with_begun l) operation) (with_terminator (with_begun l') operation) _ _
      (ended_both (with_begun l) (with_begun l') operation (begun_both l l' same))
      (led_kept branch (with_terminator (with_begun l) operation) edges) (led_kept branch' (with_terminator (with_begun l') operation) edges')

  both_changed : (l l' : Ledger) (request : Request) → SameFilled rename l l' → rename (next_answer l) ≡ next_answer l' → SameFilled rename (changed_by l request) (changed_by l' (renamed_request rename request))
  both_changed l l' request same at = by (renamed_ledger_effect rename request)
    where
      -- both by what they do
      of_ledgers : (m m' : Ledger) → changed_by l request ≡ m → changed_by l' (renamed_request rename request) ≡ m' → SameFilled rename m m'
          → SameFilled rename (changed_by l request) (changed_by l' (renamed_request rename request))
      of_ledgers m m' here there both =
          subst (λ (other : Ledger). SameFilled rename other (changed_by l' (renamed_request rename request))) (sym here)
          (subst (λ (other : Ledger). SameFilled rename m other) (sym there) both)

      of_request : (other : Request) → request ≡ other → SameFilled rename (changed_by l other) (changed_by l' (renamed_request rename other))
          → SameFilled rename (changed_by l request) (changed_by l' (renamed_request rename request))
      of_request other is both = subst (λ (r : Request). SameFilled rename (changed_by l r) (changed_by l' (renamed_request rename r))) (sym is) both

      by : RenamedLedgerEffect rename request → SameFilled rename (changed_by l request) (changed_by l' (renamed_request rename request))
      by (BothList variables tables here there) = of_ledgers _ _ (here l) (there l') (record { marks = same.marks; current = same.current })
      by (BothChange block change renamed alike here there) =
          of_ledgers _ _ (here l) (there l') (both_keep l l' _ _ same
          (state_kept l block change (λ state i. record { block = alike.name state i; filled = alike.filled state i }))
          (state_kept l' (rename block) renamed (λ state i. record { block = alike.renamed_name state i; filled = alike.renamed_filled state i })))
      by (BothBegin variables here there) =
          let both = begun_both l l' same in of_ledgers _ _ (here l) (there l') (record { marks = both.marks; current = both.current })
      by (BothSeal seals renamed_seals) =
          both_keep l l' _ _ same (sealing_kept l request seals) (sealing_kept l' (renamed_request rename request) renamed_seals)
      by (BothCreate is) =
          of_request _ is (record {
            marks = map-append mark_of l'.blocks (new_block (next_answer l') ∷ [])
                ∙ ap₂ (λ (marks : List Mark) (block : Name). marks ++ record { block = block; filled = false } ∷ []) same.marks (sym at)
                ∙ sym (map-append (renamed_mark rename) (marks_of l.blocks) (mark_of (new_block (next_answer l)) ∷ []))
                ∙ ap (map (renamed_mark rename)) (sym (map-append mark_of l.blocks (new_block (next_answer l) ∷ [])));
            current = same.current;
          })
      by (BothEnter block is) = of_request _ is (record { marks = same.marks; current = refl })
      by (BothInsertAfter block after is) = of_request _ is (record { marks = same.marks; current = same.current })
      by (BothMakeJumpTable default entries is) = of_request _ is (record { marks = same.marks; current = same.current })
      by (BothMakeExceptionTable signature normal items is) = of_request _ is (record { marks = same.marks; current = same.current })
      by (BothAppend entries instruction is) =
          let both = built_both l l' (next_answer l) (next_answer l') instruction.operation instruction.edges (map (renamed_edge rename) instruction.edges) same in
          of_request _ is (record { marks = both.marks; current = both.current })
      by (BothChangeJump branch from to is) =
          of_request _ is (both_keep l l' _ _ same (redirected_kept l branch from to) (redirected_kept l' (rename branch) (rename from) (rename to)))

  -- after a call that seals, and after another one on both sides
  pub behind_seal : (l l' : Ledger) (request : Request) → is_sealing request ≡ true → SameFilled rename l l' → SameFilled rename (ledger_with l request) l'
  behind_seal l l' request seals same =
      let kept = sealing_kept l request seals in
      record { marks = same.marks ∙ ap (map (renamed_mark rename)) (sym kept.marks); current = same.current ∙ ap (λ (o : Option Name). option_map rename o) (sym kept.current) }

  pub both_after : (l l' : Ledger) (request : Request) → SameFilled rename l l' → rename (next_answer l) ≡ next_answer l' → SameFilled rename (ledger_with l request) (ledger_with l' (renamed_request rename request))
  both_after l l' request same at = let both = both_changed l l' request same at in record { marks = both.marks; current = both.current }

  -- a ledger with so many answers
  abbrev HasAnswers : Ledger → ℕ → Type 0
  HasAnswers ledger place = length ledger.answers ≡ place

  one_answer_more : (l : Ledger) (request : Request) (place : ℕ) → HasAnswers l place → HasAnswers (ledger_with l request) (suc place)
  one_answer_more l request place has =
      let more : length l.answers + 1 ≡ suc place = omega (arith, has) in length_push l.answers (answers_to l request) ∙ more

  abbrev KeepsFilled : Script → Type 0
  KeepsFilled script = (l l' : Ledger) (place place' : ℕ) → HasAnswers l place → HasAnswers l' place' → SameFilled rename l l' → Follows rename script place place'
      → SameFilled rename (fold ledger_with l script) (fold ledger_with l' (map (renamed_request rename) (without_seals script)))

  abbrev BothAfter : Request → Script → Ledger → Ledger → Bool → Type 0
  BothAfter request script l l' seals = SameFilled rename (fold ledger_with (ledger_with l request) script)
      (fold ledger_with l' (map (renamed_request rename) (cond (not seals) (request ∷ without_seals script) (without_seals script))))

  filled_along : (script : Script) → KeepsFilled script
  filled_along [] l l' place place' has has' same follows = same
  filled_along (request ∷ script) l l' place place' has has' same follows = by (filled_along script) (is_sealing request) refl
    where
      by : KeepsFilled script → (c : Bool) → is_sealing request ≡ c → BothAfter request script l l' (is_sealing request)
      by later true seals =
          subst (BothAfter request script l l') (sym seals)
          (later (ledger_with l request) l' (suc place) place' (one_answer_more l request place has) has' (behind_seal l l' request seals same)
          (follows_seal rename request script place place' follows seals))
      by later false stays =
          let at : rename (next_answer l) ≡ next_answer l' =
          ap (λ (n : ℕ). rename (answer_of n 0)) has ∙ follows_here rename request script place place' follows stays 0 ∙ ap (λ (n : ℕ). answer_of n 0) (sym has') in
          subst (BothAfter request script l l') (sym stays)
          (later (ledger_with l request) (ledger_with l' (renamed_request rename request)) (suc place) (suc place')
          (one_answer_more l request place has) (one_answer_more l' (renamed_request rename request) place' has') (both_after l l' request same at)
          (follows_call rename request script place place' follows stays))

  filled_renamed : (marks : List Mark) (block : Name) → filled_in (map (renamed_mark rename) marks) (rename block) ≡ filled_in marks block
  filled_renamed [] block = refl
  filled_renamed (mark ∷ marks) block =
      ap₂ (λ (test : Bool) (rest : Bool). cond test mark.filled rest) (same_renamed rename apart mark.block block) (filled_renamed marks block)

  -- so the renamed blocks are filled where the blocks are
  pub filled_alike : (l l' : Ledger) → SameFilled rename l l' → (block : Name) → is_filled l' (rename block) ≡ is_filled l block
  filled_alike l l' same block =
      filled_by_marks l'.blocks (rename block) ∙ ap (λ (marks : List Mark). filled_in marks (rename block)) same.marks
      ∙ filled_renamed (marks_of l.blocks) block ∙ sym (filled_by_marks l.blocks block)

pub unsealed_filled : (script : Script) (block : Name) → is_filled (ledger_after (unsealed script)) (name_left script block) ≡ is_filled (ledger_after script) block
unsealed_filled script block =
    filled_alike (name_left script) (names_apart script) (ledger_after script) (ledger_after (unsealed script))
    (filled_along (name_left script) (names_apart script) script empty_ledger empty_ledger 0 0 refl refl (record { marks = refl; current = refl }) (follows_at_first script)) block
