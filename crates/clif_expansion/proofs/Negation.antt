-- The worked example: a difference with zero performs a negation.
use Rattle.std.proofs.Common.{◌≡◌, inl, inr, ℕ, zero, suc, List, [], ◌∷◌, ◌++◌, refl, sym, ◌∙◌, ap, subst, arith}
use Rattle.std.specs.Prelude.{◌-◌, ◌%◌, pos, if◌then◌else◌}
use Rattle.clif_meaning.specs.Bits.{Bits}
use Rattle.clif_meaning.specs.Memory.{Memory}
use Rattle.clif_meaning.specs.Name.{Name, answer_of, same_name}
use Rattle.clif_opcodes.specs.declared.opcodes.BinaryOpcode.TheVariants.{Isub}
use Rattle.clif_meaning.specs.Examples.{i32}
use Rattle.clif_meaning.specs.Instruction.{Binary, Compute, Iconst}
use Rattle.clif_meaning.specs.Outcome.{Outcome, Gives, Goes, Returns, Traps, Calls, NoStep, outcome_of}
use Rattle.clif_meaning.specs.Program.{Item, Instruct}
use Rattle.clif_meaning.specs.Store.{assigned}
use Rattle.clif_meaning.specs.World.{World}
use Rattle.clif_expansion.specs.Code.{Does, Performs, PerformsIn}
use Rattle.clif_expansion.specs.Examples.{ExpansionExamples, all_32_bits, at_first, difference, of_32_bits, returning, negating, negation, of_items, reading, run_of, stands_at, subtracting}
use Rattle.clif_expansion.specs.Expansion.{AreCut, AreExpanded, IsExpandedRun}
use Rattle.clif_expansion.specs.Line.{Contents, RunsTo}
use Rattle.clif_expansion.specs.Reading.{Agree, IsOneToOne, ScriptName}
use Rattle.clif_expansion.proofs.Names.{assigned_elsewhere, same_script}

-- the bits of -x
abbrev negated : Bits → Bits
negated x = (4294967296 - x) % 4294967296

-- the constant's name, and that of the difference
abbrev constant : Name
constant = answer_of 2 1

abbrev result : Name
result = answer_of 3 1

does : (world : World) (plain names : Name → Bits) (memory : Memory) → Agree reading plain names
    → PerformsIn world reading all_32_bits negation (result ∷ []) (difference (pos 0)) plain names memory
does world plain names memory agree = record {
  values = negated (plain (answer_of 1 1)) ∷ [];
  after = record {
    names = assigned same_name (result ∷ []) (negated (plain (answer_of 1 1)) ∷ []) (assigned same_name (constant ∷ []) (0 ∷ []) plain);
    memory = memory;
  };
  outcome = ap (λ (x : Bits). Gives (negated x ∷ []) memory) (sym (agree (answer_of 1 1) (answer_of 1 1) refl));
  runs = (
    0 ∷ [],
    memory,
    record { gives = refl; safe = record { claims = tt; within = tt } },
    (negated (plain (answer_of 1 1)) ∷ [], memory, record { gives = refl; safe = record { claims = tt; within = tt } }, refl),
  );
  kept = λ x kept. ap (λ (rest : Bits). if same_name x result then negated (plain (answer_of 1 1)) else rest)
      (assigned_elsewhere reading (constant ∷ []) (0 ∷ []) plain x (refl, tt) kept);
}

pub performs : (world : World) → Performs world.pointer_width reading all_32_bits (difference (pos 0)) negation (answer_of 2 1 ∷ [])
performs world = record {
  begins = λ empty. cc;
  given = result ∷ [];
  named = (refl, tt);
  performs = λ other plain names memory width bytes agree sound. does other plain names memory agree;
}

-- A DIFFERENCE WITH ONE ---------------------------------------------------------------------------------------------------

-- the results that an outcome gives
given_values : Outcome → List Bits
given_values (Gives values memory) = values
given_values (Goes edge given memory) = []
given_values (Returns values) = []
given_values (Traps reason) = []
given_values (Calls callee call arguments) = []
given_values NoStep = []

pub same_values : (values others : List Bits) (memory after : Memory) → Gives values memory ≡ Gives others after → values ≡ others
unfolding given_values
same_values values others memory after same = ap given_values same

-- what holds where the difference is, if it is one
one_there : (world : World) (after : Contents) → RunsTo world all_32_bits.plain [] (difference (pos 1)) (record { names = λ x. 0; memory = world.memory }) after
    → after.names result ≡ 1
one_there world after (first, memory, gives, (second, later, more, is)) =
    ap (λ (contents : Contents). contents.names result) is
    ∙ ap (λ (values : List Bits). assigned same_name (result ∷ []) values (assigned same_name (constant ∷ []) first (λ x. 0)) result) (sym seconds)
  where
    firsts : 1 ∷ [] ≡ first
    firsts = same_values (1 ∷ []) first world.memory memory gives.gives

    seconds : 1 ∷ [] ≡ second
    seconds = same_values (1 ∷ []) second memory later
        (ap (λ (values : List Bits). outcome_of world (Compute (Binary Isub)) i32 (i32 ∷ i32 ∷ [])
        (assigned same_name (constant ∷ []) values (λ x. 0) constant ∷ assigned same_name (constant ∷ []) values (λ x. 0) (answer_of 1 1) ∷ []) memory) firsts
        ∙ more.gives)

pub wrong : (world : World) → PerformsIn world reading all_32_bits negation (result ∷ []) (difference (pos 1)) (λ x. 0) (λ x. 0) world.memory → ⊥
wrong world did = absurd (omega (arith, one_is_zero))
  where
    values : 0 ∷ [] ≡ did.values
    values = same_values (0 ∷ []) did.values world.memory did.after.memory did.outcome

    one_is_zero : suc zero ≡ zero
    one_is_zero =
        sym (one_there world did.after did.runs)
        ∙ did.kept result (λ is. cc)
        ∙ ap (λ (vs : List Bits). assigned same_name (result ∷ []) vs (λ x. 0) result) (sym values)

-- THE PROGRAMS ------------------------------------------------------------------------------------------------------------

differ : (a b : Name) → ScriptName a ≡ ScriptName b → (a.place ≡ b.place → ⊥) → ⊥
differ a b same other = other (ap (λ (n : Name). n.place) (same_script a b same))

apart : (p i q j : ℕ) (name : Name) → stands_at p i ≡ ScriptName name → stands_at q j ≡ ScriptName name → answer_of p i ≡ answer_of q j
apart zero i zero j name first second = same_script (answer_of 0 i) (answer_of 0 j) (first ∙ sym second)
apart zero i (suc zero) j name first second = absurd (differ (answer_of 0 i) (answer_of 1 j) (first ∙ sym second) (λ same. omega (arith, same)))
apart zero i (suc (suc zero)) j name first second = cc
apart zero i (suc (suc (suc q))) j name first second = absurd (differ (answer_of 0 i) (answer_of (suc (suc q)) j) (first ∙ sym second) (λ same. omega (arith, same)))
apart (suc zero) i zero j name first second = absurd (differ (answer_of 1 i) (answer_of 0 j) (first ∙ sym second) (λ same. omega (arith, same)))
apart (suc zero) i (suc zero) j name first second = same_script (answer_of 1 i) (answer_of 1 j) (first ∙ sym second)
apart (suc zero) i (suc (suc zero)) j name first second = cc
apart (suc zero) i (suc (suc (suc q))) j name first second = absurd (differ (answer_of 1 i) (answer_of (suc (suc q)) j) (first ∙ sym second) (λ same. omega (arith, same)))
apart (suc (suc zero)) i q j name first second = cc
apart (suc (suc (suc p))) i zero j name first second = absurd (differ (answer_of (suc (suc p)) i) (answer_of 0 j) (first ∙ sym second) (λ same. omega (arith, same)))
apart (suc (suc (suc p))) i (suc zero) j name first second = absurd (differ (answer_of (suc (suc p)) i) (answer_of 1 j) (first ∙ sym second) (λ same. omega (arith, same)))
apart (suc (suc (suc p))) i (suc (suc zero)) j name first second = cc
apart (suc (suc (suc p))) i (suc (suc (suc q))) j name first second =
    let same = same_script (answer_of (suc (suc p)) i) (answer_of (suc (suc q)) j) (first ∙ sym second) in
    ap (λ (n : Name). answer_of (suc n.place) n.index) same

pub one_to_one : IsOneToOne reading
one_to_one x y name first second = apart x.place x.index y.place y.index name first second

abbrev five : Item
five = Instruct 1 (of_32_bits (Compute (Iconst (pos 5))) []) (answer_of 1 1 ∷ [])

abbrev returns : Item
returns = Instruct 4 (returning (answer_of 3 1)) []

-- where the difference's items are cut for the negation's, each block's are
pub cut_at : (Stands : List Item → Item → Type 0) → AreCut Stands (subtracting (pos 0)) negating → (p i : ℕ) (block : Name) → stands_at p i ≡ ScriptName block
    → AreCut Stands (at_first p (subtracting (pos 0))) (at_first block.place negating)
cut_at Stands whole zero i block is =
    subst (λ (b : Name). AreCut Stands (subtracting (pos 0)) (at_first b.place negating)) (same_script (answer_of 0 i) block is) whole
cut_at Stands whole (suc zero) i block is =
    subst (λ (b : Name). AreCut Stands [] (at_first b.place negating)) (same_script (answer_of 1 i) block is) refl
cut_at Stands whole (suc (suc zero)) i block is = cc
cut_at Stands whole (suc (suc (suc p))) i block is =
    subst (λ (b : Name). AreCut Stands [] (at_first b.place negating)) (same_script (answer_of (suc (suc p)) i) block is) refl

module _ (world : World) where
  whole : AreExpanded world.pointer_width reading all_32_bits (of_items (subtracting (pos 0))) (subtracting (pos 0)) negating
  whole = (
    five ∷ [],
    difference (pos 0) ++ returns ∷ [],
    refl,
    inl (record { operation = refl; controlling = refl; operands = tt; contexts = tt; edges = tt }, (refl, tt)),
    (
      difference (pos 0),
      returns ∷ [],
      refl,
      inr (inl (performs world)),
      (returns ∷ [], [], refl, inl (record { operation = refl; controlling = refl; operands = (refl, tt); contexts = tt; edges = tt }, tt), refl),
    ),
  )

  expanded : IsExpandedRun reading (run_of (subtracting (pos 0)) world) (run_of negating world)
  expanded = record {
    one_to_one = one_to_one;
    program = record { entry = refl; parameters = λ x block is. tt; items = λ x block is. cut_at (Does world.pointer_width reading all_32_bits (of_items (subtracting (pos 0)))) whole x.place x.index block is };
    variable_type = λ variable. refl;
    name_type = λ x name is. refl;
    is_marked = λ variable. refl;
    is_tracked = λ x name is. refl;
    hidden = λ address. refl;
    world = refl;
  }

  pub examples : ExpansionExamples world
  examples = record {
    performs = performs world;
    wrong = wrong world;
    expanded = expanded;
    script_answers = refl;
    plain_answers = refl;
  }
