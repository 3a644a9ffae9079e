-- What the construction changes in a function, step by step.
use Rattle.std.proofs.Common.{◌≡◌, ℕ, suc, ◌+◌, ◌-◌, ◌≤◌, ◌&&◌, Bool, true, false, List, [], ◌∷◌, ◌++◌, length, refl, ap, arith, sym, ◌∙◌, subst, inl, inr}
use Rattle.std.specs.Prelude.{reverse, cond, slice_get, Some}
use Rattle.std.specs.List.{filter, AllByRecursion}
use Rattle.std.proofs.lemmas.List.{reverse-append, append_assoc, append-nil}
use Rattle.std.proofs.lemmas.List.Elements.{filter-append}
use Rattle.clif_ir.specs.Body.{Body, value_at, inst_at, block_at}
use Rattle.clif_instructions.specs.Instruction.{with_argument}
use Rattle.clif_nodes.specs.Nodes.{BlockNode}
use Rattle.clif_nodes.specs.declared.nodes.InstNode.{InstNode}
use Rattle.clif_nodes.specs.declared.nodes.ValueNode.{ValueNode}
use Rattle.clif_nodes.specs.declared.nodes.ValueOrigin.{ValueOrigin}
use Rattle.clif_nodes.specs.declared.nodes.ValueOrigin.TheVariants.{Param, Alias}
use Rattle.clif_instructions.specs.declared.instructions.InstructionData.{InstructionData}
use Rattle.clif_instructions.proofs.Lists.{below_or_not}
use Rattle.clif_ssa.specs.Constructs.{Rises, StaysOrNames, with_passed, in_turn, AreToldFrom, FitsZero, MayPassMore, IsNewStep, StandsWhole, ConstructsBlock, OnlyConstructs, TellsZeros, TellsMore}
use Rattle.clif_ssa.proofs.Pooled.{KeepsConstants, pools_keep, pools_none, pools_then, zeros_stay}
use Rattle.clif_ssa.proofs.ZeroTable.{plain_step, step_there}
use Rattle.clif_ssa.specs.Zeros.{zero_steps, ZeroAt, ZeroStep, IsStep}

-- NUMBERS THAT RISE -----------------------------------------------------------------------------------------------

rises_lower : (a b c : ℕ) (xs : List ℕ) → a ≤ b → Rises b c xs → Rises a c xs
rises_lower a b c [] below rises = omega (arith, below, rises)
rises_lower a b c (x ∷ xs) below rises = (omega (arith, below, rises.0), rises.1)

rises-append : (a b c : ℕ) (xs ys : List ℕ) → Rises a b xs → Rises b c ys → Rises a c (xs ++ ys)
rises-append a b c [] ys first second = rises_lower a b c ys first second
rises-append a b c (x ∷ xs) ys first second = (first.0, rises-append (suc x) b c xs ys first.1 second)

rises-filter : (a b : ℕ) (stays : ℕ → Bool) (xs : List ℕ) → Rises a b xs → Rises a b (filter stays xs)
rises-filter a b stays [] rises = rises
rises-filter a b stays (x ∷ xs) rises = by (rises-filter (suc x) b stays xs rises.1) (stays x)
  where
    by : Rises (suc x) b (filter stays xs) → (test : Bool) → Rises a b (cond test (x ∷ filter stays xs) (filter stays xs))
    by rest true = (rises.0, rest)
    by rest false = rises_lower a (suc x) b (filter stays xs) (omega (arith, rises.0)) rest

filter-both : (p q : ℕ → Bool) (xs : List ℕ) → filter q (filter p xs) ≡ filter (λ y. p y && q y) xs
filter-both p q [] = refl
filter-both p q (x ∷ xs) = by (filter-both p q xs) (p x)
  where
    by : filter q (filter p xs) ≡ filter (λ y. p y && q y) xs → (test : Bool)
        → filter q (cond test (x ∷ filter p xs) (filter p xs)) ≡ cond (test && q x) (x ∷ filter (λ y. p y && q y) xs) (filter (λ y. p y && q y) xs)
    by rest true = ap (λ ys. cond (q x) (x ∷ ys) ys) rest
    by rest false = rest

pub filter-all : (xs : List ℕ) → filter (λ x. true) xs ≡ xs
filter-all [] = refl
filter-all (x ∷ xs) = ap (λ ys. x ∷ ys) (filter-all xs)

-- PARTS -----------------------------------------------------------------------------------------------------------

stays_then : (a b c : ValueNode) → StaysOrNames a b → StaysOrNames b c → StaysOrNames a c
stays_then a b c (inl same) (inl still) = inl (still ∙ same)
stays_then a b c (inl same) (inr (home, original, was, is)) =
    inr (home, original, ap (λ (n : ValueNode). n.origin) (sym same) ∙ was, is ∙ ap (λ (n : ValueNode). record n { origin = Alias original }) same)
stays_then a b c (inr (home, original, was, is)) (inl still) = inr (home, original, was, still ∙ is)
stays_then a b c (inr (home, original, was, is)) (inr (home', original', was', is')) = absurd (clash (sym (ap (λ (n : ValueNode). n.origin) is) ∙ was'))
  where
    clash : {x y : ℕ} → ◌≡◌ {A = ValueOrigin} (Alias x) (Param y) → ⊥
    clash same = cc

passed-append : (xs ys : List (ℕ × ℕ)) (shape : InstructionData) → with_passed (xs ++ ys) shape ≡ with_passed ys (with_passed xs shape)
passed-append [] ys shape = refl
passed-append (x ∷ xs) ys shape = passed-append xs ys (with_argument x.0 x.1 shape)

pub passed_plain : (more : List (ℕ × ℕ)) (shape : InstructionData) → ((b v : ℕ) → with_argument b v shape ≡ shape) → with_passed more shape ≡ shape
passed_plain [] shape plain = refl
passed_plain (x ∷ more) shape plain = ap (with_passed more) (plain x.0 x.1) ∙ passed_plain more shape plain

pub more_none : (n : InstNode) → MayPassMore n n
more_none n = ([], refl)

pub more_then : (a b c : InstNode) → MayPassMore a b → MayPassMore b c → MayPassMore a c
more_then a b c first second = (
  first.0 ++ second.0,
  second.1 ∙ ap (λ (n : InstNode). record n { shape = with_passed second.0 n.shape }) first.1
      ∙ ap (λ shape. record a { shape = shape }) (sym (passed-append first.0 second.0 a.shape)),
)

step_then : (f g h : Body) (b c : InstNode) → KeepsConstants g h → IsNewStep f g b → MayPassMore b c → IsNewStep f h c
step_then f g h b c keeps is more = record {
  ty = is.ty;
  place = is.place;
  step = is.step;
  is_step = is.is_step;
  value = is.value;
  is_new = is.is_new;
  constant = is.constant;
  zeros = zeros_stay g h is.constant is.step.size keeps is.zeros;
  shape = ap (λ (n : InstNode). n.shape) more.1 ∙ ap (with_passed more.0) is.shape
      ∙ passed_plain more.0 (is.step.shape is.constant (is.value - 1)) (λ b v. (plain_step is.ty is.place is.step is.is_step).unchanged b v is.constant (is.value - 1));
  results = ap (λ (n : InstNode). n.results) more.1 ∙ is.results;
  srcloc = ap (λ (n : InstNode). n.srcloc) more.1 ∙ is.srcloc;
}

step_of_more : (f g h : Body) (n : InstNode) → length f.values ≤ length g.values → IsNewStep g h n → IsNewStep f h n
step_of_more f g h n more is = record {
  ty = is.ty;
  place = is.place;
  step = is.step;
  is_step = is.is_step;
  value = is.value;
  is_new = omega (arith, more, is.is_new);
  constant = is.constant;
  zeros = is.zeros;
  shape = is.shape;
  results = is.results;
  srcloc = is.srcloc;
}

in_turn-append : (xs ys : List (List ℕ)) → in_turn (xs ++ ys) ≡ in_turn xs ++ in_turn ys
in_turn-append [] ys = refl
in_turn-append (x ∷ xs) ys = ap (λ zs. x ++ zs) (in_turn-append xs ys) ∙ sym (append_assoc x (in_turn xs) (in_turn ys))

all-append : {X : Type 0} (Q : X → Type 0) (xs ys : List X) → AllByRecursion Q xs → AllByRecursion Q ys → AllByRecursion Q (xs ++ ys)
all-append Q [] ys first second = second
all-append Q (x ∷ xs) ys first second = (first.0, all-append Q xs ys first.1 second)

pub block_kept : (f g : Body) (n : BlockNode) → length f.values ≤ length g.values → length f.insts ≤ length g.insts → ConstructsBlock f g n n
block_kept f g n values insts = record {
  zeros = [];
  stays = λ v. true;
  added = [];
  node = ap (λ params. record n { params = params }) (sym (filter-all n.params) ∙ sym (append-nil (filter (λ v. true) n.params)));
  zeros_fit = tt;
  zeros_new = insts;
  added_new = values;
}

block_then : (f g h : Body) (a b c : BlockNode) → ConstructsBlock f g a b → ConstructsBlock g h b c → ConstructsBlock f h a c
block_then f g h a b c first second =
    let insts : in_turn (reverse second.zeros) ++ (in_turn (reverse first.zeros) ++ a.insts) ≡ in_turn (reverse (first.zeros ++ second.zeros)) ++ a.insts =
    sym (append_assoc (in_turn (reverse second.zeros)) (in_turn (reverse first.zeros)) a.insts)
    ∙ ap (λ xs. xs ++ a.insts) (sym (ap in_turn (reverse-append first.zeros second.zeros) ∙ in_turn-append (reverse second.zeros) (reverse first.zeros))) in
    let params : filter second.stays (filter first.stays a.params ++ first.added) ++ second.added
    ≡ filter (λ v. first.stays v && second.stays v) a.params ++ (filter second.stays first.added ++ second.added) =
    ap (λ xs. xs ++ second.added) (filter-append second.stays (filter first.stays a.params) first.added)
    ∙ append_assoc (filter second.stays (filter first.stays a.params)) (filter second.stays first.added) second.added
    ∙ ap (λ xs. xs ++ (filter second.stays first.added ++ second.added)) (filter-both first.stays second.stays a.params) in
    record {
      zeros = first.zeros ++ second.zeros;
      stays = λ v. first.stays v && second.stays v;
      added = filter second.stays first.added ++ second.added;
      node = second.node
          ∙ ap (λ (n : BlockNode). record n { params = filter second.stays n.params ++ second.added; insts = in_turn (reverse second.zeros) ++ n.insts }) first.node
          ∙ ap (λ ps. record a { params = ps; insts = in_turn (reverse second.zeros) ++ (in_turn (reverse first.zeros) ++ a.insts) }) params
          ∙ ap (λ is. record a { params = filter (λ v. first.stays v && second.stays v) a.params ++ (filter second.stays first.added ++ second.added); insts = is }) insts;
      zeros_fit = all-append FitsZero first.zeros second.zeros first.zeros_fit second.zeros_fit;
      zeros_new =
          subst (Rises (length f.insts) (length h.insts)) (sym (in_turn-append first.zeros second.zeros))
          (rises-append (length f.insts) (length g.insts) (length h.insts) (in_turn first.zeros) (in_turn second.zeros) first.zeros_new second.zeros_new);
      added_new = rises-append (length f.values) (length g.values) (length h.values) (filter second.stays first.added) second.added
          (rises-filter (length f.values) (length g.values) second.stays first.added first.added_new) second.added_new;
    }

-- NOTHING, AND ONE AFTER ANOTHER ----------------------------------------------------------------------------------

pub constructs_none : (f : Body) → OnlyConstructs f f
constructs_none f = record {
  same = refl;
  tables = pools_none f.tables;
  values = omega arith;
  same_values = λ v inside. inl refl;
  insts = omega arith;
  same_insts = λ i inside. more_none (inst_at f i);
  zeros = λ i from inside. absurd (omega (arith, from, inside));
  block_count = refl;
  blocks = λ b. block_kept f f (block_at f b) (omega arith) (omega arith);
  layout = ([], sym (append-nil f.layout));
}

pub constructs_then : (f g h : Body) → OnlyConstructs f g → OnlyConstructs g h → OnlyConstructs f h
constructs_then f g h first second = record {
  same = second.same ∙ ap (λ (k : Body). record k { values = h.values; insts = h.insts; blocks = h.blocks; layout = h.layout; tables = h.tables }) first.same;
  tables = pools_then f.tables g.tables h.tables first.tables second.tables;
  values = omega (arith, first.values, second.values);
  same_values = λ v inside.
      stays_then (value_at f v) (value_at g v) (value_at h v) (first.same_values v inside) (second.same_values v (omega (arith, inside, first.values)));
  insts = omega (arith, first.insts, second.insts);
  same_insts = λ i inside. more_then (inst_at f i) (inst_at g i) (inst_at h i) (first.same_insts i inside) (second.same_insts i (omega (arith, inside, first.insts)));
  zeros = λ i from inside.
      elim (below_or_not i (length g.insts)) [
        | inl old ↦ step_then f g h (inst_at g i) (inst_at h i) (pools_keep g h second.tables) (first.zeros i from old) (second.same_insts i old)
        | inr new ↦ step_of_more f g h (inst_at h i) first.values (second.zeros i new inside)
      ];
  block_count = second.block_count ∙ first.block_count;
  blocks = λ b. block_then f g h (block_at f b) (block_at g b) (block_at h b) (first.blocks b) (second.blocks b);
  layout = (first.layout.0 ++ second.layout.0, second.layout.1 ∙ ap (λ xs. xs ++ second.layout.0) first.layout.1 ∙ append_assoc f.layout first.layout.0 second.layout.0);
}

pub constructs_same : (f g : Body) → g ≡ f → OnlyConstructs f g
constructs_same f g same = subst (λ h. OnlyConstructs f h) (sym same) (constructs_none f)

-- WHAT IS TOLD ----------------------------------------------------------------------------------------------------

pub tells_none : (f g : Body) → length g.insts ≡ length f.insts → TellsZeros f g []
tells_none f g same = record { zeros = same }

-- what is told stays
whole_kept : (g h : Body) (b : ℕ) (z : ZeroAt) → OnlyConstructs g h → StandsWhole g b z → StandsWhole h b z
whole_kept g h b z next whole = record {
  stands = λ k step is.
      let old : IsStep g (z.inst + k) (z.value + k) step = whole.stands k step is in
      let more : MayPassMore (inst_at g (z.inst + k)) (inst_at h (z.inst + k)) = next.same_insts (z.inst + k) old.exists in
      record {
        exists = omega (arith, old.exists, next.insts);
        value_exists = omega (arith, old.value_exists, next.values);
        constant = old.constant;
        zeros = zeros_stay g h old.constant step.size (pools_keep g h next.tables) old.zeros;
        shape = ap (λ (n : InstNode). n.shape) more.1 ∙ ap (with_passed more.0) old.shape
            ∙ passed_plain more.0 (step.shape old.constant ((z.value + k) - 1)) (λ b v. (plain_step z.ty k step is).unchanged b v old.constant ((z.value + k) - 1));
        result = ap (λ (n : InstNode). n.results) more.1 ∙ old.result;
      };
  blocks = λ k inside.
      let step : (s : ZeroStep) × (slice_get (zero_steps z.ty) k ≡ Some s) = step_there z.ty k inside in
      ap (λ (n : InstNode). n.block) (next.same_insts (z.inst + k) (whole.stands k step.0 step.1).exists).1 ∙ whole.blocks k inside;
}

told_then : (g h : Body) (inst : ℕ) (told later : List ℕ) → OnlyConstructs g h → AreToldFrom g inst told → AreToldFrom h (length g.insts) later
    → AreToldFrom h inst (told ++ later)
told_then g h inst [] later next first second = subst (λ i. AreToldFrom h i later) first second
told_then g h inst (b ∷ told) later next first second = (
  first.0,
  first.1,
  whole_kept g h b first.0 next first.2,
  told_then g h (inst + length (zero_steps first.0.ty)) told later next first.3 second,
)

pub tells_then : (f g h : Body) (told later : List ℕ) → OnlyConstructs g h → TellsZeros f g told → TellsZeros g h later → TellsZeros f h (told ++ later)
tells_then f g h told later next first second = record { zeros = told_then g h (length f.insts) told later next first.zeros second.zeros }

pub tells_more_none : (f : Body) (before : List ℕ) → TellsMore f f before before
tells_more_none f before = ([], sym (append-nil before), tells_none f f refl)

pub tells_more_then : (f g h : Body) (a b c : List ℕ) → OnlyConstructs g h → TellsMore f g a b → TellsMore g h b c → TellsMore f h a c
tells_more_then f g h a b c next first second = (
  first.0 ++ second.0,
  second.1 ∙ ap (λ xs. xs ++ second.0) first.1 ∙ append_assoc a first.0 second.0,
  tells_then f g h first.0 second.0 next first.2 second.2,
)

-- what is told from nothing on
pub tells_all : (f g : Body) (before after : List ℕ) → before ≡ [] → TellsMore f g before after → TellsZeros f g after
tells_all f g before after nothing more = subst (λ told. TellsZeros f g told) (sym (more.1 ∙ ap (λ xs. xs ++ more.0) nothing)) more.2
