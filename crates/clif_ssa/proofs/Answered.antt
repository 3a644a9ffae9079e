-- A use leaves a record of its answer: the last call of its look-up is the end of the parameter that was recorded first.
use Rattle.std.proofs.Common.{◌≡◌, ℕ, ◌<◌, ◌==◌, ◌&&◌, ◌||◌, Bool, true, false, List, [], ◌∷◌, ◌++◌, length, map, refl, ap, arith, sym, ◌∙◌, subst, ◌⊎◌, inl, inr, append-nil, append_assoc}
use Rattle.std.specs.Prelude.{Some, if◌then◌else◌}
use Rattle.std.proofs.lemmas.Grind.{common_steps}
use Rattle.std.proofs.lemmas.Bool.{cases_eq}
use Rattle.clif_types.specs.declared.types.«Type».{«Type»}
use Rattle.clif_ir.specs.Body.{Body, resolved, value_at}
use Rattle.clif_ir.specs.Changes.{with_alias}
use Rattle.clif_ir.specs.Consistent.{IsConsistent}
use Rattle.clif_ir.specs.Reading.{param_home}
use Rattle.clif_instructions.specs.Members.{stands_in}
use Rattle.clif_records.specs.declared.look_up.Call.{Call}
use Rattle.clif_records.specs.declared.look_up.Call.TheVariants.{UseVar, FinishPredecessorsLookup}
use Rattle.clif_ssa.specs.Ssa.{SsaState, NamesExist, record_of, predecessors_of, zeroed, RecordsStay, zero_value}
use Rattle.clif_records.specs.Passed.{before_first}
use Rattle.clif_records.specs.Stacks.{LookUpState, no_look_up, calls_for}
use Rattle.clif_ssa.specs.LookUp.{Stage, IsWalk, Copies, LooksUp, FinishesLookUp, MakesCall, MakesCalls, none_made, made, with_calls}
use Rattle.clif_ssa.specs.Running.{stage, found, MakesAll}
use Rattle.clif_ssa.specs.Structure.{HasRecordOf}
use Rattle.clif_ssa.proofs.Bodies.{Firm, resolved_twice}
use Rattle.clif_ssa.proofs.Framing.{resolved_inside}
use Rattle.clif_ssa.proofs.Zeroing.{CanAlias, alias_ends}
use Rattle.clif_ssa.proofs.Alike.{unaliased_home, EndsIn, zeroed_ends}
use Rattle.clif_ssa.proofs.Alongside.{Sane, Stays, sane_first, looks_stay, call_stays, result_exists, known_next}

-- THE FIRST LOOK-UP -----------------------------------------------------------------------------------------------

-- a walk begins at its block
walk_start : (f : Body) (s : SsaState) (x block : ℕ) (passed : List ℕ) (reached : ℕ) → IsWalk f s x block passed reached → (block ≡ reached) ⊎ (stands_in block passed ≡ true)
walk_start f s x block [] reached walk = inl walk
walk_start f s x block (b ∷ passed) reached walk = inr (let same : b ≡ block = walk.0 in grind (arith, common_steps, same))

or_true : (test : Bool) → (test || true) ≡ true
or_true true = refl
or_true false = refl

-- and so it is one of the blocks in which a new parameter is recorded
start_stands : (f : Body) (s : SsaState) (x block : ℕ) (passed : List ℕ) (reached : ℕ) → IsWalk f s x block passed reached
    → stands_in block (reached ∷ before_first reached passed) ≡ true
start_stands f s x block [] reached walk = let same : reached ≡ block = sym walk in grind (arith, common_steps, same)
start_stands f s x block (b ∷ passed) reached walk =
    elim (cases_eq b reached) [
      | inl at ↦ let same : reached ≡ block = sym at ∙ walk.0 in grind (arith, common_steps, same)
      | inr apart ↦
          let same : b ≡ block = walk.0 in
          let first : before_first reached (b ∷ passed) ≡ b ∷ before_first reached passed = grind (arith, common_steps, apart) in
          let stands : stands_in block (b ∷ before_first reached passed) ≡ true = grind (arith, common_steps, same) in
          ap (λ t. (reached == block) || t) (ap (stands_in block) first ∙ stands) ∙ or_true (reached == block)
    ]

copied_here : (s t : SsaState) (x v b : ℕ) (blocks : List ℕ) → Copies s t x v blocks → stands_in b blocks ≡ true → record_of t x b ≡ Some v
copied_here s t x v b blocks copies stands =
    copies x b ∙ ap (λ test. if x == x && test then Some v else record_of s x b) stands ∙ grind (arith, common_steps)

copied_there : (s t : SsaState) (x v b : ℕ) (blocks : List ℕ) → Copies s t x v blocks → record_of s x b ≡ Some v → record_of t x b ≡ Some v
copied_there s t x v b blocks copies is = copies x b ∙ by (x == x && stands_in b blocks)
  where
    by : (test : Bool) → (if test then Some v else record_of s x b) ≡ Some v
    by true = refl
    by false = is

-- The end of the look-up of `v` is the last of the calls, or none is left and the last result stands for what `v` does.
pub data Awaits (v : ℕ) (m : Stage) : Type 0 where
  is_last : (calls : List Call) (b : ℕ) → m.look_up.calls ≡ calls ++ FinishPredecessorsLookup v b ∷ [] → Awaits v m
  is_over : (r : ℕ) (others : List ℕ) → m.look_up.calls ≡ [] → m.look_up.results ≡ r ∷ others → resolved m.function r ≡ resolved m.function v → Awaits v m

-- what the first look-up leaves
record Begun (x b : ℕ) (n : Stage) : Type 0 where
  value : ℕ
  recorded : record_of n.state x b ≡ Some value
  awaits : Awaits value n

begins : (x : ℕ) (ty : «Type») (b : ℕ) (m n : Stage) → m.look_up ≡ no_look_up → LooksUp x ty b m n → Begun x b n
begins x ty b m n nothing (inl finds) = record {
  value = finds.value;
  recorded = elim (walk_start m.function m.state x b finds.passed finds.reached (finds.walks).walk) [
    | inl same ↦ copied_there m.state n.state x finds.value b finds.passed finds.copies (ap (record_of m.state x) same ∙ finds.is_recorded)
    | inr stands ↦ copied_here m.state n.state x finds.value b finds.passed finds.copies stands
  ];
  awaits = is_over finds.value m.look_up.results
      (ap (λ (l : LookUpState). l.calls) finds.look_up ∙ ap (λ (l : LookUpState). l.calls) nothing)
      (ap (λ (l : LookUpState). l.results) finds.look_up) refl;
}
begins x ty b m n nothing (inr (inl waits)) = record {
  value = length m.function.values;
  recorded = copied_here m.state n.state x (length m.function.values) b (waits.reached ∷ before_first waits.reached (waits.adds).passed) (waits.adds).copies
      (start_stands m.function m.state x b (waits.adds).passed waits.reached ((waits.adds).walks).walk);
  awaits = is_over (length m.function.values) m.look_up.results
      (ap (λ (l : LookUpState). l.calls) waits.look_up ∙ ap (λ (l : LookUpState). l.calls) nothing)
      (ap (λ (l : LookUpState). l.results) waits.look_up) refl;
}
begins x ty b m n nothing (inr (inr begin)) = record {
  value = length m.function.values;
  recorded = copied_here m.state n.state x (length m.function.values) b (begin.reached ∷ before_first begin.reached (begin.adds).passed) (begin.adds).copies
      (start_stands m.function m.state x b (begin.adds).passed begin.reached ((begin.adds).walks).walk);
  awaits = is_last (map UseVar (predecessors_of m.state begin.reached)) begin.reached
      (ap (λ (l : LookUpState). l.calls) (begin.begins).look_up
      ∙ ap (λ (l : LookUpState). calls_for (predecessors_of m.state begin.reached) (length m.function.values) begin.reached ++ l.calls) nothing
      ∙ append-nil (calls_for (predecessors_of m.state begin.reached) (length m.function.values) begin.reached));
}

-- CALLS -----------------------------------------------------------------------------------------------------------

-- the answer of a look-up that ends stands for what the parameter does
alias_stands : (f g : Body) (v w b : ℕ) → CanAlias f v w b → g ≡ with_alias f v w → resolved g w ≡ resolved g v
alias_stands f g v w b can same =
    subst (λ h. resolved h w ≡ resolved h v) (sym same)
    (elim (alias_ends f v w b can w) [
      | inl moved ↦ absurd (can.apart (sym can.own_end ∙ moved.0))
      | inr stayed ↦
          elim (alias_ends f v w b can v) [
            | inl ends ↦ stayed.1 ∙ can.own_end ∙ sym ends.1
            | inr other ↦ absurd (other.0 (unaliased_home f v b can.parameter))
          ]
    ])

zero_stands : (f g : Body) (v w b : ℕ) → Firm f → param_home f v ≡ Some b → g ≡ zeroed f b v → w ≡ zero_value f (value_at f v).ty → resolved g w ≡ resolved g v
zero_stands f g v w b firm is same answer =
    let ends : EndsIn (zeroed f b v) v (zero_value f (value_at f v).ty) = zeroed_ends f b v firm is in
    subst (λ h. resolved h w ≡ resolved h v) (sym same) (ap (resolved (zeroed f b v)) answer ∙ ends.second ∙ sym ends.first)

finish_stands : (param block : ℕ) (m n : Stage) (finishes : FinishesLookUp param block m n) → Sane m → resolved n.function finishes.value ≡ resolved n.function param
finish_stands param block m n finishes sane =
    elim finishes.ends [
      | inl none ↦ ap (resolved n.function) none.answer
      | inr ends ↦
          elim ends.2 [
            | inl zero ↦ zero_stands m.function n.function param finishes.value ends.0 sane.firm ends.1 zero.function zero.answer
            | inr more ↦
                elim more [
                  | inl value ↦
                      let r : ℕ = value.one.comes.0 in
                      let inside : r < length m.function.values = result_exists param block m n finishes sane r value.one.comes.1 in
                      let is : resolved m.function r ≡ finishes.value = value.one.comes.2 in
                      let can : CanAlias m.function param finishes.value ends.0 = record {
                        firm = sane.firm;
                        parameter = ends.1;
                        own_end = ap (λ v. resolved m.function v) (sym is) ∙ resolved_twice m.function sane.firm r ∙ is;
                        exists = omega (arith, resolved_inside m.function r sane.firm inside, is);
                        apart = value.one.other;
                      } in
                      alias_stands m.function n.function param finishes.value ends.0 can value.function
                  | inr parameter ↦ ap (resolved n.function) parameter.answer
                ]
          ]
    ]

cons_nil : {c : Call} {cs : List Call} → ◌≡◌ {A = List Call} (c ∷ cs) [] → ⊥
cons_nil same = cc

look_finish : {i v b : ℕ} → ◌≡◌ {A = Call} (UseVar i) (FinishPredecessorsLookup v b) → ⊥
look_finish same = cc

finish_param : {u c v b : ℕ} → ◌≡◌ {A = Call} (FinishPredecessorsLookup u c) (FinishPredecessorsLookup v b) → u ≡ v
finish_param same = cc

-- the next call is the last one, or that one is among the others
next_or_later : (first last : Call) (calls rest : List Call) → first ∷ rest ≡ calls ++ last ∷ [] → ((first ≡ last) × (rest ≡ [])) ⊎ ((before : List Call) × (rest ≡ before ++ last ∷ []))
next_or_later first last [] rest same = inl (cc, cc)
next_or_later first last (call ∷ calls) rest same = inr (calls, cc)

nil_last : (calls : List Call) (last : Call) → [] ≡ calls ++ last ∷ [] → ⊥
nil_last [] last same = cc
nil_last (call ∷ calls) last same = cc

-- a look-up leaves the calls that were there below others
look_leaves : (x : ℕ) (ty : «Type») (b : ℕ) (m n : Stage) → LooksUp x ty b m n → (calls : List Call) × (n.look_up.calls ≡ calls ++ m.look_up.calls)
look_leaves x ty b m n (inl finds) = ([], ap (λ (l : LookUpState). l.calls) finds.look_up)
look_leaves x ty b m n (inr (inl waits)) = ([], ap (λ (l : LookUpState). l.calls) waits.look_up)
look_leaves x ty b m n (inr (inr begin)) =
    (calls_for (predecessors_of m.state begin.reached) (length m.function.values) begin.reached, ap (λ (l : LookUpState). l.calls) (begin.begins).look_up)

call_awaits : (x : ℕ) (ty : «Type») (v : ℕ) (m n : Stage) → MakesCall x ty m n → Sane m → Awaits v m → Awaits v n
call_awaits x ty v m n (inl look) sane (is_over r others ended results same) = absurd (cons_nil (sym look.is_next ∙ ended))
call_awaits x ty v m n (inr finish) sane (is_over r others ended results same) = absurd (cons_nil (sym finish.is_next ∙ ended))
call_awaits x ty v m n (inl look) sane (is_last calls b is) =
    let left : (cs : List Call) × (n.look_up.calls ≡ cs ++ look.calls) = look_leaves x ty _ (with_calls m look.calls) n look.looks in
    elim (next_or_later (UseVar look.branch) (FinishPredecessorsLookup v b) calls look.calls (sym look.is_next ∙ is)) [
      | inl next ↦ absurd (look_finish next.0)
      | inr later ↦
          is_last (left.0 ++ later.0) b
          (left.1 ∙ ap (λ cs. left.0 ++ cs) later.1 ∙ sym (append_assoc left.0 later.0 (FinishPredecessorsLookup v b ∷ [])))
    ]
call_awaits x ty v m n (inr finish) sane (is_last calls b is) =
    let done : FinishesLookUp finish.param finish.block (with_calls m finish.calls) n = finish.finishes in
    let after : Sane (with_calls m finish.calls) = known_next m finish.param finish.block finish.calls finish.is_next sane in
    elim (next_or_later (FinishPredecessorsLookup finish.param finish.block) (FinishPredecessorsLookup v b) calls finish.calls (sym finish.is_next ∙ is)) [
      | inl next ↦
          is_over done.value done.others (ap (λ (l : LookUpState). l.calls) done.look_up ∙ next.1) (ap (λ (l : LookUpState). l.results) done.look_up)
          (finish_stands finish.param finish.block (with_calls m finish.calls) n done after ∙ ap (resolved n.function) (finish_param next.0))
      | inr later ↦ is_last later.0 b (ap (λ (l : LookUpState). l.calls) done.look_up ∙ later.1)
    ]

calls_await : (x : ℕ) (ty : «Type») (v : ℕ) {m n : Stage} → MakesCalls x ty m n → Sane m → Awaits v m → Sane n × Awaits v n
calls_await x ty v none_made sane awaits = (sane, awaits)
calls_await x ty v (made {n = between} {k = last} first call) sane awaits =
    let before : Sane between × Awaits v between = calls_await x ty v first sane awaits in
    ((call_stays x ty between last call before.0).sane, call_awaits x ty v between last call before.0 before.1)

same_first : {u w : ℕ} {us ws : List ℕ} → ◌≡◌ {A = List ℕ} (u ∷ us) (w ∷ ws) → u ≡ w
same_first same = cc

-- where no call is left, the one result stands for what was recorded
awaited : (v value : ℕ) (n : Stage) (zeros : List ℕ) → Awaits v n → n.look_up ≡ found value zeros → resolved n.function v ≡ resolved n.function value
awaited v value n zeros (is_last calls b is) ended = absurd (nil_last calls (FinishPredecessorsLookup v b) (sym (ap (λ (l : LookUpState). l.calls) ended) ∙ is))
awaited v value n zeros (is_over r others none results same) ended =
    sym same ∙ ap (resolved n.function) (same_first (sym results ∙ ap (λ (l : LookUpState). l.results) ended))

-- A use that looks a variable up leaves a record of its answer.
pub use_recorded : (x : ℕ) (ty : «Type») (b : ℕ) (f h g : Body) (s r t : SsaState) (first begun last : LookUpState) (value : ℕ) → first ≡ no_look_up → IsConsistent f → NamesExist f s
    → LooksUp x ty b (stage f s first) (stage h r begun) → MakesAll x ty (stage h r begun) value (stage g t last) → RecordsStay r t → HasRecordOf g t x b value
use_recorded x ty b f h g s r t first begun last value nothing known named looks all stay =
    let looked : Stays (stage f s first) (stage h r begun) = looks_stay x ty b (stage f s first) (stage h r begun) looks (sane_first f s first nothing known named) in
    let start : Begun x b (stage h r begun) = begins x ty b (stage f s first) (stage h r begun) nothing looks in
    let done : Sane all.last × Awaits start.value all.last = calls_await x ty start.value all.made looked.sane start.awaits in (
      start.value,
      stay x b start.value start.recorded,
      subst (λ k. resolved k start.value ≡ resolved k value) (sym all.function) (awaited start.value value all.last last.zeros done.1 all.ended),
    )
