-- Calls that fill blocks one by one, and the program that they leave.
use Rattle.std.proofs.Common.{◌≡◌, ◌≢◌, ◌<◌, ◌≤◌, ℕ, suc, Bool, true, false, List, [], ◌∷◌, ◌++◌, refl, sym, ◌∙◌, ap, arith, append_assoc, append-nil, Some, Option}
use Rattle.std.specs.Prelude.{◌⊎◌, if◌then◌else◌, fold, Contains}
use Rattle.std.specs.List.{AllByRecursion}
use Rattle.clif_meaning.specs.Instruction.{Arithmetic, Compute, Edge, Instruction}
use Rattle.clif_meaning.specs.Ledger.{is_terminator}
use Rattle.clif_meaning.specs.Name.{Name, answer_of, same_name}
use Rattle.clif_meaning.specs.Program.{Item, Instruct, Program, result_names, with_call, with_inserted, with_item_at}
use Rattle.clif_meaning.specs.Request.{CreateBlock, SwitchToBlock, SealBlock, MakeEdge, MakeJumpTable, Build, GivenEntry, Script}
use Rattle.clif_expansion.specs.Switching.{IsDeciding, IsTableFrom}
use Rattle.clif_expansion.proofs.Names.{equal_names}
use Rattle.clif_switch_calls.proofs.Basics.{other_name}
use Rattle.clif_switch_calls.proofs.Codes.{Entered, code_of}

-- the instruction computes, and has no edges
pub record StaysHere (instruction : Instruction Name Name) : Type 0 where
  pub arithmetic : Arithmetic
  pub computes : instruction.operation ≡ Compute arithmetic
  pub no_contexts : instruction.contexts ≡ []
  pub no_edges : instruction.edges ≡ []
  pub goes_on : is_terminator instruction.operation ≡ false

-- an edge that passes nothing, to a block that waits or to one of these
pub record LeadsOn (targets waiting : List Name) (edge : Edge Name Name) : Type 0 where
  pub nothing : edge.arguments ≡ []
  pub there : Contains waiting edge.target ⊎ Contains targets edge.target

-- the instruction is a branch along such edges
pub record Branches (targets waiting : List Name) (instruction : Instruction Name Name) : Type 0 where
  pub deciding : IsDeciding instruction.operation
  pub no_contexts : instruction.contexts ≡ []
  pub ends : is_terminator instruction.operation ≡ true
  pub edges : AllByRecursion (LeadsOn targets waiting) instruction.edges

-- Calls from this place on, where these blocks wait to be entered, the next one first, and the current block is open or ended: each
-- block is entered once, computes and ends in a branch. It leads to blocks that wait and to these targets.
pub data Emits (base tables : ℕ) (targets : List Name) : (waiting : List Name) → (runs : Bool) → (current : Name) → (place : ℕ) → Script → Type 0 where
  Stops : (current : Name) (place : ℕ) → Emits base tables targets [] false current place []
  Enters : (block : Name) (waiting : List Name) (current : Name) (place : ℕ) (more : Script) → Emits base tables targets waiting true block (suc (suc place)) more
      → Emits base tables targets (block ∷ waiting) false current place (SealBlock block ∷ SwitchToBlock block ∷ more)
  Creates : (waiting : List Name) (current : Name) (place : ℕ) (more : Script) → Emits base tables targets (answer_of place 0 ∷ waiting) true current (suc place) more
      → Emits base tables targets waiting true current place (CreateBlock ∷ more)
  Links : (waiting : List Name) (current : Name) (place : ℕ) (edge : Edge Name Name) (more : Script) → LeadsOn targets [] edge → Emits base tables targets waiting true current (suc place) more
      → Emits base tables targets waiting true current place (MakeEdge edge ∷ more)
  Tables : (waiting : List Name) (current : Name) (place : ℕ) (default : Name) (entries : List Name) (more : Script)
      → base ≤ default.place → AllByRecursion (λ entry. base ≤ entry.place) entries → Emits base tables targets waiting true current (suc place) more
      → Emits base tables targets waiting true current place (MakeJumpTable default entries ∷ more)
  Computes : (waiting : List Name) (current : Name) (place : ℕ) (instruction : Instruction Name Name) (more : Script)
      → StaysHere instruction → Emits base tables targets waiting true current (suc place) more
      → Emits base tables targets waiting true current place (Build [] instruction ∷ more)
  Ends : (waiting : List Name) (current : Name) (place : ℕ) (entries : List GivenEntry) (instruction : Instruction Name Name) (more : Script)
      → Branches targets waiting instruction → AllByRecursion (IsTableFrom tables) entries → Emits base tables targets waiting false current (suc place) more
      → Emits base tables targets waiting true current place (Build entries instruction ∷ more)

-- each was made before those in front of it
abbrev pub FallNames : (bound : ℕ) → List Name → Type 0
FallNames bound [] = Unit {0}
FallNames bound (x ∷ names) = (x.place < bound) × FallNames x.place names

pub fall_names : (low high : ℕ) (names : List Name) → low ≤ high → FallNames low names → FallNames high names
fall_names low high [] more fall = tt
fall_names low high (x ∷ names) more fall = (omega (arith, fall.0, more), fall.1)

-- of other places than this one
abbrev pub Apart : ℕ → List Name → Type 0
Apart place names = AllByRecursion (λ x. x.place ≢ place) names

pub fall_apart : (bound : ℕ) (names : List Name) (place : ℕ) → FallNames bound names → bound ≤ place → Apart place names
fall_apart bound [] place fall above = tt
fall_apart bound (x ∷ names) place fall above = (λ same. omega (arith, same, fall.0, above), fall_apart x.place names place fall.1 (omega (arith, fall.0, above)))

-- ONE INSTRUCTION ---------------------------------------------------------------------------------------------------------

module _ (program : Program) (current : Name) (is : program.current ≡ Some current) (entries : List GivenEntry) (instruction : Instruction Name Name) where
  abbrev built : Item
  built = Instruct program.place instruction (result_names program.place instruction)

  abbrev after : Program
  after = with_call program (Build entries instruction)

  pub still_current : after.current ≡ Some current
  still_current = ap (λ (c : Option Name). (with_item_at (with_inserted program) c built).current) is ∙ is

  pub adds_item : (block : Name) → after.items block ≡ (if same_name block current then program.items block ++ built ∷ [] else program.items block)
  adds_item block = ap (λ (c : Option Name). (with_item_at (with_inserted program) c built).items block) is

  pub same_place : after.place ≡ suc program.place
  same_place = refl

  pub adds_elsewhere : (block : Name) → block.place ≢ current.place → after.items block ≡ program.items block
  adds_elsewhere block other = adds_item block ∙ ap (λ (c : Bool). if c then program.items block ++ built ∷ [] else program.items block) (other_name block current other)

  pub adds_here : after.items current ≡ program.items current ++ built ∷ []
  adds_here = adds_item current ∙ ap (λ (c : Bool). if c then program.items current ++ built ∷ [] else program.items current) (equal_names current current refl)

-- OTHER BLOCKS ------------------------------------------------------------------------------------------------------------

-- what neither is open nor waits nor comes later stays
module _ (base tables : ℕ) (targets : List Name) where
  pub others_stay : (waiting : List Name) (runs : Bool) (current : Name) (place : ℕ) (script : Script) → Emits base tables targets waiting runs current place script
      → (program : Program) → program.current ≡ Some current → (block : Name) → block.place < place → (runs ≡ true → block.place ≢ current.place) → Apart block.place waiting
      → (fold with_call program script).items block ≡ program.items block
  others_stay _ _ _ _ _ (Stops current place) program is block earlier not apart = refl
  others_stay _ _ _ _ _ (Enters entered waiting current place more emits) program is block earlier not apart =
      others_stay waiting true entered (suc (suc place)) more emits (with_call (with_call program (SealBlock entered)) (SwitchToBlock entered)) refl block (omega (arith, earlier))
      (λ runs same. apart.0 (sym same)) apart.1
  others_stay _ _ _ _ _ (Creates waiting current place more emits) program is block earlier not apart =
      others_stay (answer_of place 0 ∷ waiting) true current (suc place) more emits (with_call program CreateBlock) is block (omega (arith, earlier)) not ((λ same. omega (arith, same, earlier)), apart)
  others_stay _ _ _ _ _ (Links waiting current place edge more leads emits) program is block earlier not apart =
      others_stay waiting true current (suc place) more emits (with_call program (MakeEdge edge)) is block (omega (arith, earlier)) not apart
  others_stay _ _ _ _ _ (Tables waiting current place default entries more behind are emits) program is block earlier not apart =
      others_stay waiting true current (suc place) more emits (with_call program (MakeJumpTable default entries)) is block (omega (arith, earlier)) not apart
  others_stay _ _ _ _ _ (Computes waiting current place instruction more stays emits) program is block earlier not apart =
      others_stay waiting true current (suc place) more emits (with_call program (Build [] instruction)) (still_current program current is [] instruction) block (omega (arith, earlier)) not apart
      ∙ adds_elsewhere program current is [] instruction block (not refl)
  others_stay _ _ _ _ _ (Ends waiting current place entries instruction more branches given emits) program is block earlier not apart =
      others_stay waiting false current (suc place) more emits (with_call program (Build entries instruction)) (still_current program current is entries instruction) block (omega (arith, earlier))
      (λ runs. absurd (apart_bools runs)) apart
      ∙ adds_elsewhere program current is entries instruction block (not refl)
    where
      apart_bools : false ≡ true → ⊥
      apart_bools same = cc

-- THE WHOLE ---------------------------------------------------------------------------------------------------------------

-- the program before the calls
pub record Ready (program : Program) (waiting : List Name) (current : Name) (place : ℕ) : Type 0 where
  pub is : program.current ≡ Some current
  pub at : program.place ≡ place
  pub earlier : current.place < place
  pub fall : FallNames place waiting
  pub apart : Apart current.place waiting
  pub empty : AllByRecursion (λ x. program.items x ≡ []) waiting
  pub fresh : (x : Name) → place ≤ x.place → program.items x ≡ []

kept_empty : (program later : Program) (current : Name) (waiting : List Name) → ((x : Name) → x.place ≢ current.place → later.items x ≡ program.items x)
    → Apart current.place waiting → AllByRecursion (λ x. program.items x ≡ []) waiting → AllByRecursion (λ x. later.items x ≡ []) waiting
kept_empty program later current [] keeps apart empty = tt
kept_empty program later current (x ∷ waiting) keeps apart empty = (keeps x apart.0 ∙ empty.0, kept_empty program later current waiting keeps apart.1 empty.1)

ready_built : (program : Program) (waiting : List Name) (current : Name) (place : ℕ) (entries : List GivenEntry) (instruction : Instruction Name Name)
    → Ready program waiting current place → Ready (with_call program (Build entries instruction)) waiting current (suc place)
ready_built program waiting current place entries instruction ready = record {
  is = still_current program current ready.is entries instruction;
  at = same_place program current ready.is entries instruction ∙ ap suc ready.at;
  earlier = let before = ready.earlier in omega (arith, before);
  fall = fall_names place (suc place) waiting (omega arith) ready.fall;
  apart = ready.apart;
  empty = kept_empty program (with_call program (Build entries instruction)) current waiting (adds_elsewhere program current ready.is entries instruction) ready.apart ready.empty;
  fresh = λ x later.
      let before = ready.earlier in
      adds_elsewhere program current ready.is entries instruction x (λ same. omega (arith, same, before, later)) ∙ ready.fresh x (omega (arith, later));
}

-- Each block that is entered has what is built there, and the current block has more of it behind.
abbrev pub IsFilled : Program → (current : Name) → (place : ℕ) → (before : Program) → Script → Type 0
IsFilled program current place before script =
    Entered program place script × (program.items current ≡ before.items current ++ code_of place script)

built_filled : (program final : Program) (current : Name) (place : ℕ) (entries : List GivenEntry) (instruction : Instruction Name Name) (more : Script)
    → program.current ≡ Some current → program.place ≡ place → IsFilled final current (suc place) (with_call program (Build entries instruction)) more
    → IsFilled final current place program (Build entries instruction ∷ more)
built_filled program final current place entries instruction more is at filled = (
  filled.0,
  filled.1 ∙ ap (λ (items : List Item). items ++ code_of (suc place) more) (adds_here program current is entries instruction)
      ∙ append_assoc (program.items current) _ (code_of (suc place) more)
      ∙ ap (λ (p : ℕ). program.items current ++ Instruct p instruction (result_names p instruction) ∷ code_of (suc place) more) at,
)

module _ (base tables : ℕ) (targets : List Name) where
  pub emits_filled : (waiting : List Name) (runs : Bool) (current : Name) (place : ℕ) (script : Script) → Emits base tables targets waiting runs current place script
      → (program : Program) → Ready program waiting current place → IsFilled (fold with_call program script) current place program script
  emits_filled _ _ _ _ _ (Stops current place) program ready = (tt, sym (append-nil (program.items current)))
  emits_filled _ _ _ _ _ (Enters block waiting current place more emits) program ready =
      let next : Program = with_call (with_call program (SealBlock block)) (SwitchToBlock block) in
      let fall = ready.fall in
      let inner = emits_filled waiting true block (suc (suc place)) more emits next
      (record {
        is = refl;
        at = ap (λ (p : ℕ). suc (suc p)) ready.at;
        earlier = omega (arith, fall.0);
        fall = fall_names block.place (suc (suc place)) waiting (omega (arith, fall.0)) fall.1;
        apart = fall_apart block.place waiting block.place fall.1 (omega arith);
        empty = ready.empty.1;
        fresh = λ x later. ready.fresh x (omega (arith, later));
      }) in (
        (inner.1 ∙ ap (λ (items : List Item). items ++ code_of (suc (suc place)) more) ready.empty.0, inner.0),
        others_stay base tables targets (block ∷ waiting) false current place (SealBlock block ∷ SwitchToBlock block ∷ more) (Enters block waiting current place more emits) program ready.is current ready.earlier
            (λ runs. absurd (apart_bools runs)) ready.apart
            ∙ sym (append-nil (program.items current)),
      )
    where
      apart_bools : false ≡ true → ⊥
      apart_bools same = cc
  emits_filled _ _ _ _ _ (Creates waiting current place more emits) program ready =
      let before = ready.earlier in
      emits_filled (answer_of place 0 ∷ waiting) true current (suc place) more emits (with_call program CreateBlock)
      (record {
        is = ready.is;
        at = ap suc ready.at;
        earlier = omega (arith, before);
        fall = (omega arith, ready.fall);
        apart = ((λ same. omega (arith, same, before)), ready.apart);
        empty = (ready.fresh (answer_of place 0) (omega arith), ready.empty);
        fresh = λ x later. ready.fresh x (omega (arith, later));
      })
  emits_filled _ _ _ _ _ (Links waiting current place edge more leads emits) program ready =
      let before = ready.earlier in
      emits_filled waiting true current (suc place) more emits (with_call program (MakeEdge edge))
      (record {
        is = ready.is;
        at = ap suc ready.at;
        earlier = omega (arith, before);
        fall = fall_names place (suc place) waiting (omega arith) ready.fall;
        apart = ready.apart;
        empty = ready.empty;
        fresh = λ x later. ready.fresh x (omega (arith, later));
      })
  emits_filled _ _ _ _ _ (Tables waiting current place default entries more behind are emits) program ready =
      let before = ready.earlier in
      emits_filled waiting true current (suc place) more emits (with_call program (MakeJumpTable default entries))
      (record {
        is = ready.is;
        at = ap suc ready.at;
        earlier = omega (arith, before);
        fall = fall_names place (suc place) waiting (omega arith) ready.fall;
        apart = ready.apart;
        empty = ready.empty;
        fresh = λ x later. ready.fresh x (omega (arith, later));
      })
  emits_filled _ _ _ _ _ (Computes waiting current place instruction more stays emits) program ready =
      built_filled program (fold with_call (with_call program (Build [] instruction)) more) current place [] instruction more ready.is ready.at
      (emits_filled waiting true current (suc place) more emits (with_call program (Build [] instruction)) (ready_built program waiting current place [] instruction ready))
  emits_filled _ _ _ _ _ (Ends waiting current place entries instruction more branches given emits) program ready =
      built_filled program (fold with_call (with_call program (Build entries instruction)) more) current place entries instruction more ready.is ready.at
      (emits_filled waiting false current (suc place) more emits (with_call program (Build entries instruction)) (ready_built program waiting current place entries instruction ready))
