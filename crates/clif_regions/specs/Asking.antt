-- What a callback answers of accesses to stack slots: a chain of sets of regions, with a step for each access. Own.
use Rattle.std.specs.Prelude.{◌≡◌, ◌-◌, ℕ, List, [], ◌∷◌, Option, None, Some, length, option_map}
use Rattle.std.specs.Borrow.{MutBor}
use Rattle.std.specs.List.{FoldsTo, filter_map, range_with_len}
use Rattle.clif_opcodes.specs.declared.opcodes.StackOpcode.TheVariants.{StackAddr}
use Rattle.clif_types.specs.AliasRegions.{AliasRegionTable, MayRefuse}
use Rattle.clif_types.specs.declared.error.BuildError.{BuildError}
use Rattle.clif_types.specs.declared.types.«Type».{«Type»}
use Rattle.clif_instructions.specs.declared.instructions.InstructionData.{InstructionData}
use Rattle.clif_instructions.specs.declared.instructions.InstructionData.TheVariants.{Load, StackLoad, Store}
use Rattle.clif_ir.specs.Body.{Body, inst_at, resolved, value_at}
use Rattle.clif_ir.specs.Changes.{with_alias_region, with_tables}
use Rattle.clif_ir.specs.Reading.{def_of}
use Rattle.clif_ir.specs.declared.function.ValueDef.{ValueDef}
use Rattle.clif_ir.specs.declared.function.ValueDef.TheVariants as definition
use Rattle.clif_meaning.specs.View.{first_type}
use Rattle.clif_region_laws.specs.Regions.{AreAlikeButForRegions}

-- ACCESSES ----------------------------------------------------------------------------------------------------------------

-- the stack slot whose address the instruction gives
abbrev pub addressed_by : InstructionData → Option ℕ
addressed_by (StackLoad StackAddr slot offset) = Some slot
addressed_by _ = None

abbrev pub addressed_in : Body → ValueDef → Option ℕ
addressed_in f (definition.Result inst place) = addressed_by (inst_at f inst).shape
addressed_in f (definition.Param block place) = None

-- the stack slot whose address the value is
abbrev pub slot_at : Body → ℕ → Option ℕ
slot_at f value = addressed_in f (def_of f (resolved f value) (value_at f (resolved f value)).origin)

-- the type of what an instruction loads from a stack slot or stores in one, and the slot
abbrev pub touched : Body → InstructionData → (results : List ℕ) → Option («Type» × ℕ)
touched f (Load flags arg offset) results = option_map (λ slot. (first_type f results, slot)) (slot_at f arg)
touched f (Store flags (stored ∷ address ∷ []) offset) results = option_map (λ slot. ((value_at f stored).ty, slot)) (slot_at f address)
touched f _ results = None

abbrev pub touched_by : Body → (inst : ℕ) → Option («Type» × ℕ)
touched_by f inst = touched f (inst_at f inst).shape (inst_at f inst).results

-- the region that an access names
abbrev pub region_of_shape : InstructionData → Option ℕ
region_of_shape (Load flags arg offset) = flags.alias_region
region_of_shape (Store flags args offset) = flags.alias_region
region_of_shape _ = None

-- an access to a stack slot, with its region
pub record Access : Type 0 where
  pub ty : «Type»
  pub slot : ℕ
  pub region : Option ℕ

abbrev pub access_at : Body → (inst : ℕ) → Option Access
access_at f inst = option_map (λ place. record { ty = place.0; slot = place.1; region = region_of_shape (inst_at f inst).shape }) (touched_by f inst)

-- the accesses of so many instructions from this number on, in order
abbrev pub accesses : Body → (first count : ℕ) → List Access
accesses f first count = filter_map (access_at f) (range_with_len first count)

-- ANSWERS -----------------------------------------------------------------------------------------------------------------

-- what a callback's own contract says of a call: the set that it gets, the type, the slot, the offset, the answer, the set after
abbrev pub Asks : Type 1
Asks = MutBor AliasRegionTable → «Type» → ℕ → ℕ → Option ℕ → MutBor AliasRegionTable → Type 0

-- A call with this set, for this access, may answer its region and leave that set, which holds no refusal.
pub record MayAnswer (asks : Asks) (before : AliasRegionTable) (access : Access) (after : AliasRegionTable) : Type 0 where
  pub lent : MutBor AliasRegionTable
  pub back : MutBor AliasRegionTable
  pub is_lent : lent.now ≡ before
  pub is_back : back.now ≡ after
  pub answer : asks lent access.ty access.slot 0 access.region back
  pub held : after.refusal ≡ None

-- Each access from a number on names what the callback answered for it: there is a chain of sets, with a step for each.
abbrev pub AreAnswered : Asks → (first : ℕ) → (old new : Body) → Type 0
AreAnswered asks first old new =
    FoldsTo (MayAnswer asks) old.tables.alias_regions (accesses new first (length new.insts - first)) new.tables.alias_regions

-- The callback was asked for an instruction's region, and the instruction names it.
pub record IsAsked (asks : Asks) (inst : ℕ) (ty : «Type») (slot : ℕ) (old new : Body) : Type 0 where
  pub set : AliasRegionTable
  pub region : Option ℕ
  pub answered : MayAnswer asks old.tables.alias_regions (record { ty = ty; slot = slot; region = region }) set
  pub named : new ≡ with_alias_region (with_tables old (record old.tables { alias_regions = set })) inst region

-- It was asked for, if it is an access, of this type and to this slot; and nothing changed otherwise.
abbrev pub IsAskedIf : Asks → (place : Option («Type» × ℕ)) → (inst : ℕ) → (old new : Body) → Type 0
IsAskedIf asks None inst old new = new ≡ old
IsAskedIf asks (Some place) inst old new = IsAsked asks inst place.0 place.1 old new

-- The function's set of regions holds this refusal: memory, or, where there are 2^32 - 1 regions, that it is full.
pub record HoldsRefusal (f : Body) (error : BuildError) : Type 0 where
  pub held : f.tables.alias_regions.refusal ≡ Some error
  pub may : MayRefuse f.tables.alias_regions.regions (Some error)

-- The functions are alike but for regions, and each access from a number on names what the callback answered for it.
pub record CarriesAnswers (asks : Asks) (first : ℕ) (old new : Body) : Type 0 where
  pub alike : AreAlikeButForRegions old new
  pub answered : AreAnswered asks first old new

-- So it is where there is a callback, with this contract; without one nothing has changed.
abbrev pub CarriesAnswersOf : {C : Type 0} → (callback : Option C) → (asks_of : C → Asks) → (first : ℕ) → (old new : Body) → Type 0
CarriesAnswersOf None asks_of first old new = new ≡ old
CarriesAnswersOf (Some callback) asks_of first old new = CarriesAnswers (asks_of callback) first old new
