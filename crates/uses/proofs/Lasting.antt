-- What goes on holding of a builder's blocks and values while more calls are made.
use Rattle.std.proofs.Common.{◌≡◌, ◌≢◌, ℕ, ◌<◌, ◌≤◌, false, List, [], ◌∷◌, ◌++◌, length, refl, sym, ◌∙◌, ap, subst, arith}
use Rattle.std.specs.Prelude.{◌||◌, IfSome, IsTrue, Option, true, slice_index, slice_index_or, slice_get, Some, None, Ok, Err, OnOk, Result}
use Rattle.std.proofs.lemmas.Option.{slice_get_within}
use Rattle.clif_types.specs.declared.types.«Type».{«Type»}
use Rattle.clif_types.specs.declared.error.BuildError.{BuildError}
use Rattle.clif_tables.specs.Entries.{TableEntry}
use Rattle.clif_instructions.specs.Instruction.{is_terminator, result_type_of}
use Rattle.clif_instructions.specs.declared.instructions.InstructionData.{InstructionData}
use Rattle.clif_ir.specs.Body.{Body, value_at}
use Rattle.clif_records.specs.Tables.{is_yes}
use Rattle.clif_records.specs.Tracking.{Tracked}
use Rattle.clif_records.proofs.RecordMaps.{record_at-empty}
use Rattle.clif_ssa.proofs.Passing.{some_pushed}
use Rattle.clif_ssa.specs.Ssa.{SameBlocks, SealedStays, SsaState, no_state, record_of, sealed_of}
use Rattle.clif_builder.specs.declared.builder.FunctionBuilder.{FunctionBuilder}
use Rattle.clif_builder.specs.declared.context.BlockStatus.TheVariants.{Filled}
use Rattle.clif_builder.specs.Builder.{CanLead, HasCurrent, IsLeft, is_free, is_free_at, is_unreachable, may_be_left, with_position}
use Rattle.clif_builder.specs.declared.context.BlockStatus.{BlockStatus}
use Rattle.clif_builder.specs.Built.{Builds, BuildsValue}
use Rattle.clif_builder.specs.Calls.{IsCall}
use Rattle.clif_builder.specs.Construction.{SealsAtMost}
use Rattle.clif_builder.specs.Context.{ContextState, FillsNone, status_of}
use Rattle.clif_builder.specs.Entries.{MakesEntry}
use Rattle.clif_builder.specs.Growth.{Grows, TypesStay}
use Rattle.clif_builder.specs.Marks.{IsUnused, TracksFrom}
use Rattle.clif_builder.specs.Order.{IsUntouched}
use Rattle.clif_inst_builder.specs.Shapes.{edge_to}
use Rattle.clif_switch.specs.Emission.{MayLead}
use Rattle.uses.specs.Choosing.{Chooses}
use Rattle.uses.specs.Importing.{Imports}

-- CALLS -----------------------------------------------------------------------------------------------------------------

-- what calls keep that seal no block, end none and go to none
pub record Keeps {R : Type 0} (old new : FunctionBuilder R) : Type 0 where
  pub grows : Grows old.func.now new.func.now
  pub types : TypesStay old.func.now new.func.now
  pub seals : SealedStays old.ctx.now.parts.ssa new.ctx.now.parts.ssa
  pub fills : FillsNone old.ctx.now.parts new.ctx.now.parts
  pub variables : new.ctx.now.parts.variables ≡ old.ctx.now.parts.variables
  pub position : new.position ≡ old.position

pub grows_then : (first middle last : Body) → Grows first middle → Grows middle last → Grows first last
grows_then first middle last a b =
    (omega (arith, a.0, b.0), omega (arith, a.1, b.1), omega (arith, a.2, b.2), b.3 ∙ a.3, b.4 ∙ a.4, omega (arith, a.5, b.5), b.6 ∙ a.6, λ entry here. b.7 entry (a.7 entry here), b.8 ∙ a.8)

pub and_then : {R : Type 0} {first middle last : FunctionBuilder R} → Keeps first middle → Keeps middle last → Keeps first last
and_then {first} {middle} {last} a b = record {
  grows = grows_then first.func.now middle.func.now last.func.now a.grows b.grows;
  types = λ v here. b.types v (omega (arith, here, a.grows.0)) ∙ a.types v here;
  seals = λ k. b.seals k ∙ a.seals k;
  fills = λ k filled. a.fills k (b.fills k filled);
  variables = b.variables ∙ a.variables;
  position = b.position ∙ a.position;
}

pub called : {A : Type 0} {R : Type 0} {old new : FunctionBuilder R} {answer : A} → IsCall old new (Ok answer) → Grows old.func.now new.func.now
    → SealedStays old.ctx.now.parts.ssa new.ctx.now.parts.ssa → new.ctx.now.parts.variables ≡ old.ctx.now.parts.variables → Keeps old new
called call grows seals variables = record { grows = grows; types = call.types; seals = seals; fills = call.fills; variables = variables; position = call.position }

-- a block is made
pub created : {A : Type 0} {R : Type 0} {old new : FunctionBuilder R} {answer : A} → IsCall old new (Ok answer) → Grows old.func.now new.func.now
    → SameBlocks old.ctx.now.parts.ssa new.ctx.now.parts.ssa → new.ctx.now.parts.variables ≡ old.ctx.now.parts.variables → Keeps old new
created call grows same variables = called call grows (λ k. ap is_yes (same k)) variables

-- a call that leaves the context as it was
pub same_context : {A : Type 0} {R : Type 0} {old new : FunctionBuilder R} {answer : A} → IsCall old new (Ok answer) → Grows old.func.now new.func.now
    → new.ctx.now.parts ≡ old.ctx.now.parts → Keeps old new
same_context call grows same = called call grows (λ k. ap (λ (c : ContextState). is_yes (sealed_of c.ssa k)) same) (ap (λ (c : ContextState). c.variables) same)

-- an assignment
pub assigned : {A : Type 0} {R : Type 0} {old new : FunctionBuilder R} {answer : A} → IsCall old new (Ok answer) → Grows old.func.now new.func.now
    → new.ctx.now.parts.ssa.blocks ≡ old.ctx.now.parts.ssa.blocks → new.ctx.now.parts.variables ≡ old.ctx.now.parts.variables → Keeps old new
assigned call grows same variables = called call grows (λ k. rw same refl) variables

-- an instruction with a result, for which the builder was lent and came back
pub valued : {R : Type 0} {old lent built back : FunctionBuilder R} {shape : InstructionData} {ty : «Type»} {value : ℕ}
    → lent ≡ old → BuildsValue lent built shape ty (Ok value) → back ≡ built → Keeps old back
valued {old} {lent} {built} {back} {shape} {ty} {value} is built_is came =
    subst (λ (b : FunctionBuilder _). Keeps b back) is (subst (λ (b : FunctionBuilder _). Keeps lent b) (sym came) (record {
      grows = built_is.grows;
      types = built_is.types;
      seals = λ k. rw built_is.ssa refl;
      fills = built_is.fills;
      variables = built_is.variables;
      position = built_is.position;
    }))

unfilled_now : {R : Type 0} (lent built : FunctionBuilder R) → built.position ≡ lent.position → HasCurrent built → (k : ℕ) → lent.position ≡ Some k → status_of built.ctx.now.parts k ≢ Filled
unfilled_now lent built same current k here filled =
    current.3 (ap (λ (block : ℕ). status_of built.ctx.now.parts block) (other (sym current.1 ∙ same ∙ here)) ∙ filled)
  where
    other : {block : ℕ} → Some block ≡ Some k → block ≡ k
    other alike = cc

-- one without, which ends no block
pub appended : {R : Type 0} {old lent built back : FunctionBuilder R} {shape : InstructionData} {ty : «Type»} {inst : ℕ}
    → lent ≡ old → Builds lent built shape ty (Ok inst) → is_terminator shape ≡ false → back ≡ built → Keeps old back
appended {old} {lent} {built} {back} is built_is goes_on came =
    subst (λ (b : FunctionBuilder _). Keeps b back) is (subst (λ (b : FunctionBuilder _). Keeps lent b) (sym came) (record {
      grows = built_is.grows;
      types = built_is.types;
      seals = built_is.seals;
      fills = λ k filled. built_is.fills k (λ here. unfilled_now lent built built_is.position (built_is.current goes_on) k here filled) filled;
      variables = built_is.variables;
      position = built_is.position;
    }))

-- a variable or a value is marked
pub marked : {R : Type 0} {old new : FunctionBuilder R} {tracked : Tracked} → TracksFrom old new (Ok tt) tracked → Keeps old new
marked {old} {new} tracks =
    called tracks.call tracks.grows (λ k. rw tracks.context refl) (ap (λ (c : ContextState). c.variables) tracks.context)

-- a function is imported
pub imported : {R : Type 0} {old new : FunctionBuilder R} → Imports old new → Keeps old new
imported {old} {new} imports = record {
  grows = imports.grows;
  types = λ v here. rw imports.values refl;
  seals = λ k. rw imports.context refl;
  fills = λ k filled. ap (λ (c : ContextState). status_of c k) (sym imports.context) ∙ filled;
  variables = ap (λ (c : ContextState). c.variables) imports.context;
  position = imports.position;
}

-- its signature is one entry, and it another
pub imports_both : {R : Type 0} {signature : ℕ} {first second : TableEntry} {old middle new : FunctionBuilder R} (answer : Result ℕ BuildError)
    → MakesEntry first old middle (Ok signature) → MakesEntry second middle new answer → HasCurrent old → OnOk answer (Imports old new)
imports_both {old = old} {middle = middle} {new = new} (Ok function) one two current = record {
  position = two.call.position ∙ one.call.position;
  context = two.context ∙ one.context;
  values = ap (λ (f : Body). f.values) two.function ∙ ap (λ (f : Body). f.values) one.function;
  grows = grows_then old.func.now middle.func.now new.func.now one.grows two.grows;
  current = two.current (one.current current);
}
imports_both (Err error) one two current = tt

-- the builder is lent
pub lent_on : {R : Type 0} {first old lent : FunctionBuilder R} → Keeps first old → lent ≡ old → Keeps first lent
lent_on {first} kept is = subst (λ (b : FunctionBuilder _). Keeps first b) (sym is) kept

pub same : {R : Type 0} {old new : FunctionBuilder R} → new ≡ old → Keeps old new
same {old} is = subst (λ (b : FunctionBuilder _). Keeps old b) (sym is) (record {
  grows = (omega arith, omega arith, omega arith, refl, refl, omega arith, refl, λ entry here. here, refl);
  types = λ v here. refl;
  seals = λ k. refl;
  fills = λ k filled. filled;
  variables = refl;
  position = refl;
})

-- what every call keeps, once the variables are declared
pub record Carries {R : Type 0} (old new : FunctionBuilder R) : Type 0 where
  pub values : length old.func.now.values ≤ length new.func.now.values
  pub types : TypesStay old.func.now new.func.now
  pub variables : new.ctx.now.parts.variables ≡ old.ctx.now.parts.variables

pub carries_then : {R : Type 0} {first middle last : FunctionBuilder R} → Carries first middle → Carries middle last → Carries first last
carries_then a b = record {
  values = omega (arith, a.values, b.values);
  types = λ v here. b.types v (omega (arith, here, a.values)) ∙ a.types v here;
  variables = b.variables ∙ a.variables;
}

pub carries_kept : {R : Type 0} {old new : FunctionBuilder R} → Keeps old new → Carries old new
carries_kept kept = record { values = kept.grows.0; types = kept.types; variables = kept.variables }

pub carries_called : {A : Type 0} {R : Type 0} {old new : FunctionBuilder R} {answer : A} → IsCall old new (Ok answer) → Grows old.func.now new.func.now
    → new.ctx.now.parts.variables ≡ old.ctx.now.parts.variables → Carries old new
carries_called call grows variables = record { values = grows.0; types = call.types; variables = variables }

pub carries_ended : {R : Type 0} {lent built back : FunctionBuilder R} {shape : InstructionData} {ty : «Type»} {inst : ℕ}
    → Builds lent built shape ty (Ok inst) → back ≡ built → Carries lent back
carries_ended {lent} ends came =
    subst (λ (b : FunctionBuilder _). Carries lent b) (sym came) (record { values = ends.grows.0; types = ends.types; variables = ends.variables })

pub carries_moved : {R : Type 0} {old new : FunctionBuilder R} (to : ℕ) → new ≡ with_position old to → Carries old new
carries_moved {old} to is = subst (λ (b : FunctionBuilder _). Carries old b) (sym is) (record { values = omega arith; types = λ v here. refl; variables = refl })

pub carries_chosen : {R : Type 0} {old new : FunctionBuilder R} → Chooses old new → Carries old new
carries_chosen chooses = record { values = chooses.values; types = chooses.types; variables = chooses.variables }

-- BLOCKS ----------------------------------------------------------------------------------------------------------------

-- a block that a branch may lead to
pub record IsOpen {R : Type 0} (b : FunctionBuilder R) (block : ℕ) : Type 0 where
  pub exists : block < length b.func.now.blocks
  pub unsealed : is_yes (sealed_of b.ctx.now.parts.ssa block) ≡ false

-- a block without its terminator
pub record IsUnfilled {R : Type 0} (b : FunctionBuilder R) (block : ℕ) : Type 0 where
  pub unfilled : status_of b.ctx.now.parts block ≢ Filled

pub made_open : {R : Type 0} {b : FunctionBuilder R} {block : ℕ} → block < length b.func.now.blocks → IsUntouched b.ctx.now.parts block → IsOpen b block
made_open exists untouched = record { exists = exists; unsealed = untouched.unsealed }

pub made_unfilled : {R : Type 0} {b : FunctionBuilder R} {block : ℕ} → IsUntouched b.ctx.now.parts block → IsUnfilled b block
made_unfilled untouched = record { unfilled = λ filled. let e = sym untouched.pristine ∙ filled in cc }

pub open_kept : {R : Type 0} {old new : FunctionBuilder R} {block : ℕ} → Keeps old new → IsOpen old block → IsOpen new block
open_kept {old} {new} {block} kept was = record { exists = omega (arith, was.exists, kept.grows.2); unsealed = kept.seals block ∙ was.unsealed }

pub unfilled_kept : {R : Type 0} {old new : FunctionBuilder R} {block : ℕ} → Keeps old new → IsUnfilled old block → IsUnfilled new block
unfilled_kept {old} {new} {block} kept was = record { unfilled = λ filled. was.unfilled (kept.fills block filled) }

-- another block is sealed
pub open_sealed : {A : Type 0} {R : Type 0} {old new : FunctionBuilder R} {answer : A} {block : ℕ} (other : ℕ) → IsCall old new (Ok answer) → Grows old.func.now new.func.now
    → SealsAtMost old.ctx.now.parts.ssa new.ctx.now.parts.ssa other → block ≢ other → IsOpen old block → IsOpen new block
open_sealed {old = old} {new = new} {block = block} other call grows seals apart was = record { exists = omega (arith, was.exists, grows.2); unsealed = seals block apart ∙ was.unsealed }

pub unfilled_called : {A : Type 0} {R : Type 0} {old new : FunctionBuilder R} {answer : A} {block : ℕ} → IsCall old new (Ok answer) → IsUnfilled old block → IsUnfilled new block
unfilled_called {block = block} call was = record { unfilled = λ filled. was.unfilled (call.fills block filled) }

-- an instruction ends the current block, for which the builder was lent and came back
pub open_ended : {R : Type 0} {lent built back : FunctionBuilder R} {shape : InstructionData} {ty : «Type»} {inst block : ℕ}
    → Builds lent built shape ty (Ok inst) → back ≡ built → IsOpen lent block → IsOpen back block
open_ended {lent} {built} {back} {block = block} ends came was =
    subst (λ (b : FunctionBuilder _). IsOpen b block) (sym came) (record { exists = omega (arith, was.exists, ends.grows.2); unsealed = ends.seals block ∙ was.unsealed })

pub unfilled_ended : {R : Type 0} {lent built back : FunctionBuilder R} {shape : InstructionData} {ty : «Type»} {inst block : ℕ}
    → Builds lent built shape ty (Ok inst) → back ≡ built → (current : ℕ) → lent.position ≡ Some current → block ≢ current → IsUnfilled lent block → IsUnfilled back block
unfilled_ended {lent} {built} {back} {block = block} ends came current at apart was =
    subst (λ (b : FunctionBuilder _). IsUnfilled b block) (sym came) (record {
      unfilled = λ filled. was.unfilled (ends.fills block (λ here. apart (other (sym here ∙ at))) filled);
    })
  where
    other : Some block ≡ Some current → block ≡ current
    other same = cc

-- another block becomes the current one
pub open_moved : {R : Type 0} {old new : FunctionBuilder R} {block : ℕ} (to : ℕ) → new ≡ with_position old to → IsOpen old block → IsOpen new block
open_moved {old} {new} {block} to is was = subst (λ (b : FunctionBuilder _). IsOpen b block) (sym is) (record { exists = was.exists; unsealed = was.unsealed })

pub unfilled_moved : {R : Type 0} {old new : FunctionBuilder R} {block : ℕ} (to : ℕ) → new ≡ with_position old to → IsUnfilled old block → IsUnfilled new block
unfilled_moved {old} {new} {block} to is was = subst (λ (b : FunctionBuilder _). IsUnfilled b block) (sym is) (record { unfilled = was.unfilled })

-- a switch ends the current block
pub open_chosen : {R : Type 0} {old new : FunctionBuilder R} {block : ℕ} → Chooses old new → IsOpen old block → IsOpen new block
open_chosen {block = block} chooses was = record { exists = omega (arith, was.exists, chooses.blocks); unsealed = chooses.leaves.seals block was.exists ∙ was.unsealed }

pub unfilled_chosen : {R : Type 0} {old new : FunctionBuilder R} {block : ℕ} → Chooses old new → block < length old.func.now.blocks → (current : ℕ) → old.position ≡ Some current → block ≢ current
    → IsUnfilled old block → IsUnfilled new block
unfilled_chosen {block = block} chooses here current at apart was = record {
  unfilled = λ filled. was.unfilled (chooses.leaves.fills block here (λ now. apart (other (sym now ∙ at))) filled);
}
  where
    other : Some block ≡ Some current → block ≡ current
    other same = cc

-- WHAT CALLS ASK FOR ----------------------------------------------------------------------------------------------------

-- a branch may lead to an open block, with no arguments
pub leads : {R : Type 0} {b : FunctionBuilder R} {block : ℕ} → IsOpen b block → CanLead b (edge_to block [])
leads open_block = ((open_block.exists, λ k arg below. absurd (omega (arith, below))), open_block.unsealed)

-- so may a switch
pub switched : {R : Type 0} {b : FunctionBuilder R} {block : ℕ} → IsOpen b block → MayLead b block
switched open_block = record { exists = open_block.exists; unsealed = open_block.unsealed }

-- a block that was made earlier has a lower number
pub made_before : {count earlier later : ℕ} → earlier < count → later ≡ count → earlier < later
made_before below is = omega (arith, below, is)

pub not_above : {low high : ℕ} → low < high → low ≢ high
not_above below same = absurd (omega (arith, below, same))

pub not_below : {low high : ℕ} → low < high → high ≢ low
not_below below same = absurd (omega (arith, below, same))

-- a variable that was just declared, the first one, is neither used nor assigned
pub unused : (c : ContextState) (variable : ℕ) → c.ssa ≡ no_state → IsUnused c variable
unused c variable is block =
    subst (λ (s : SsaState). record_of s variable block ≡ None) (sym is) (record_at-empty variable block)

-- the one value of a list exists
pub one_exists : {value count : ℕ} → value < count → (k d : ℕ) → k < 1 → slice_index_or {A = ℕ} (value ∷ []) k d < count
one_exists {value} {count} here k d first = let e : k ≡ 0 = omega (arith, first) in subst (λ (j : ℕ). slice_index_or {A = ℕ} (value ∷ []) j d < count) (sym e) here

-- the first value of a list exists where each does
pub first_exists : {value bound : ℕ} (values : List ℕ) → value ≡ slice_index_or values 0 value → 0 < length values
    → ((k : ℕ) → k < length values → slice_index values k < bound) → value < bound
first_exists [] is some each = absurd (omega (arith, some))
first_exists {bound = bound} (v ∷ values) is some each = subst (λ (x : ℕ). x < bound) (sym is) (each 0 some)

-- a block that has its terminator now may be left
pub left_ended : {R : Type 0} {lent built back : FunctionBuilder R} {shape : InstructionData} {ty : «Type»} {inst : ℕ}
    → Builds lent built shape ty (Ok inst) → is_terminator shape ≡ true → back ≡ built → IsLeft back
left_ended ends last came = subst IsLeft (sym came) (ends.left last)

-- and one may be put into another block
pub free_left : {R : Type 0} (b : FunctionBuilder R) → IsLeft b → IsTrue (is_free b)
free_left b left = by b.position left.filled
  where
    by : (position : Option ℕ) → IfSome position (λ block. status_of b.ctx.now.parts block ≡ Filled) → IsTrue (is_free_at position b.func.now b.ctx.now.parts)
    by None filled = refl
    by (Some block) filled = ap (λ (status : BlockStatus). may_be_left status || is_unreachable b.func.now b.ctx.now.parts block) filled

-- a variable has the type of what was made at the type of its own value, with a result of that type
pub typed_alike : {R : Type 0} {read lent built back : FunctionBuilder R} {shape : InstructionData} {variables : List «Type»} {made : ℕ} (variable value : ℕ)
    → slice_get variables variable ≡ Some (value_at read.func.now value).ty → read.ctx.now.parts.variables ≡ variables → value < length read.func.now.values
    → Carries read lent → BuildsValue lent built shape (value_at lent.func.now value).ty (Ok made) → back ≡ built
    → result_type_of shape (value_at lent.func.now value).ty ≡ (value_at lent.func.now value).ty
    → slice_get back.ctx.now.parts.variables variable ≡ Some (value_at back.func.now made).ty
typed_alike {read} {lent} {built} {back} {shape} {variables} {made} variable value typed unchanged here kept built_is came alike =
    subst (λ (b : FunctionBuilder _). slice_get b.ctx.now.parts.variables variable ≡ Some (value_at b.func.now made).ty) (sym came)
    (ap (λ (types : List «Type»). slice_get types variable) (built_is.variables ∙ kept.variables ∙ unchanged) ∙ typed
    ∙ ap (λ (ty : «Type»). Some ty) (sym (built_is.typed ∙ alike ∙ kept.types value here)))

-- a variable has the type of what was made, where it has that which the table gives
pub typed_anew : {R : Type 0} {lent built back : FunctionBuilder R} {shape : InstructionData} {ty : «Type»} {variables : List «Type»} {made : ℕ} (variable : ℕ)
    → slice_get variables variable ≡ Some (result_type_of shape ty) → back.ctx.now.parts.variables ≡ variables
    → BuildsValue lent built shape ty (Ok made) → back ≡ built
    → slice_get back.ctx.now.parts.variables variable ≡ Some (value_at back.func.now made).ty
typed_anew {built = built} {back = back} {made = made} variable typed unchanged built_is came =
    ap (λ (types : List «Type»). slice_get types variable) unchanged ∙ typed
    ∙ sym (ap (λ (b : FunctionBuilder _). Some (value_at b.func.now made).ty) came ∙ ap (λ (ty : «Type»). Some ty) built_is.typed)

-- a variable that has a type is declared
pub declared : {now : List «Type»} (variables : List «Type») (variable : ℕ) (ty : «Type») → slice_get variables variable ≡ Some ty → now ≡ variables → variable < length now
declared variables variable ty typed same = subst (λ (types : List «Type»). variable < length types) (sym same) (slice_get_within variables variable ty typed)

-- the variable that was declared last has its type
pub last_declared : (variables : List «Type») (variable : ℕ) (ty : «Type») {now : List «Type»} → variable ≡ length variables → now ≡ variables ++ ty ∷ [] → slice_get now variable ≡ Some ty
last_declared variables variable ty number is =
    ap (λ (types : List «Type»). slice_get types variable) is ∙ ap (λ (k : ℕ). slice_get (variables ++ ty ∷ []) k) number ∙ some_pushed variables ty
