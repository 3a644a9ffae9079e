-- A function beside the one with stores and reloads of spilled values: the parts that are inserted. A spilled value has a stack
-- slot; it is stored there after it is given, and reloaded into a new value, a copy, before each use. After Cranelift's spiller
-- of safepoints.
use Rattle.std.specs.Prelude.{◌≡◌, ◌⊎◌, ◌≤◌, ℕ, pos, Bool, true, false, List, [], ◌∷◌, Option, Contains}
use Rattle.clif_opcodes.specs.declared.opcodes.StackOpcode.TheVariants.{StackAddr}
use Rattle.clif_types.specs.declared.types.«Type».{«Type»}
use Rattle.clif_types.specs.MemFlags.{MemFlagsShape}
use Rattle.clif_meaning.specs.FunctionView.{FunctionView, Placed}
use Rattle.clif_meaning.specs.Instruction.{Load, Operation, Stack, Store}

-- The function before, and the one with stores and reloads; how many values the first one has, what is spilled and to which slot,
-- and the type of pointers.
pub record Spilling : Type 0 where
  pub before : FunctionView
  pub after : FunctionView
  pub count : ℕ
  pub is_spilled : ℕ → Bool
  pub slot_of : ℕ → ℕ
  pub pointer : «Type»

-- ACCESSES --------------------------------------------------------------------------------------------------------------

-- an access to a spilled value's slot: the value, the new value that holds the slot's address, and the region of memory that the
-- access names
pub record SlotAccess : Type 0 where
  pub value : ℕ
  pub address : ℕ
  pub region : Option ℕ

-- an access that reads the slot into a copy
pub record Reload : Type 0 where
  pub access : SlotAccess
  pub copy : ℕ

-- accesses to slots can't trap, and are aligned
abbrev pub trusted : Option ℕ → MemFlagsShape
trusted region = record { notrap = true; aligned = true; alias_region = region }

-- an instruction without edges, contexts and stack map
abbrev pub plain_item : Operation → «Type» → (operands results : List ℕ) → Placed
plain_item operation ty operands results =
    record {
      instruction = record { operation = operation; controlling = ty; operands = operands; contexts = []; edges = [] };
      results = results;
      stack_map = [];
    }

-- `stack_addr`, which gives the slot's address; the `load` of a reload; and the `store`
abbrev pub address_item : Spilling → SlotAccess → Placed
address_item s a = plain_item (Stack StackAddr (s.slot_of a.value) (pos 0)) s.pointer [] (a.address ∷ [])

abbrev pub load_item : Spilling → Reload → Placed
load_item s x = plain_item (Load (trusted x.access.region) (pos 0)) (s.before.value_type x.access.value) (x.access.address ∷ []) (x.copy ∷ [])

abbrev pub store_item : Spilling → SlotAccess → Placed
store_item s a = plain_item (Store (trusted a.region) (pos 0)) (s.before.value_type a.value) (a.value ∷ a.address ∷ []) []

-- these reloads, and then the rest
abbrev pub reload_items : Spilling → List Reload → List Placed → List Placed
reload_items s [] rest = rest
reload_items s (x ∷ reloads) rest = address_item s x.access ∷ load_item s x ∷ reload_items s reloads rest

-- these stores, and then the rest
abbrev pub store_items : Spilling → List SlotAccess → List Placed → List Placed
store_items s [] rest = rest
store_items s (a ∷ stores) rest = address_item s a ∷ store_item s a ∷ store_items s stores rest

-- a new value, which the function before doesn't have, of this type, and no alias
pub record IsNew (s : Spilling) (ty : «Type») (value : ℕ) : Type 0 where
  pub beyond : s.count ≤ value
  pub typed : s.after.value_type value ≡ ty
  pub itself : s.after.resolved value ≡ value

-- RELOADS ---------------------------------------------------------------------------------------------------------------

-- a reload of a spilled value
pub record IsReload (s : Spilling) (x : Reload) : Type 0 where
  pub spilled : s.is_spilled x.access.value ≡ true
  pub address : IsNew s s.pointer x.access.address
  pub copy : IsNew s (s.before.value_type x.access.value) x.copy

-- no copy is overwritten by a later reload
abbrev pub IsKeptBy : List Reload → ℕ → Type 0
IsKeptBy reloads value = (y : Reload) → Contains reloads y → (value ≡ y.copy → ⊥) × (value ≡ y.access.address → ⊥)

abbrev pub AreReloads : Spilling → List Reload → Type 0
AreReloads s [] = Unit {0}
AreReloads s (x ∷ reloads) = IsReload s x × IsKeptBy reloads x.copy × AreReloads s reloads

-- STORES ----------------------------------------------------------------------------------------------------------------

-- a store of this value
pub record IsStore (s : Spilling) (v : ℕ) (a : SlotAccess) : Type 0 where
  pub value : a.value ≡ v
  pub address : IsNew s s.pointer a.address

-- the first one is so, and the others are
abbrev pub BeginsWith : (SlotAccess → Type 0) → (List SlotAccess → Type 0) → List SlotAccess → Type 0
BeginsWith Is Rest [] = ⊥
BeginsWith Is Rest (a ∷ stores) = Is a × Rest stores

-- A spilled value is stored first, or it isn't needed from there on; another one isn't stored.
abbrev pub IsStoredIf : Bool → (Unneeded : Type 0) → (SlotAccess → Type 0) → (List SlotAccess → Type 0) → List SlotAccess → Type 0
IsStoredIf true Unneeded Is Rest stores = BeginsWith Is Rest stores ⊎ (Unneeded × Rest stores)
IsStoredIf false Unneeded Is Rest stores = Rest stores

-- the stores of these values, which are just given, in order
abbrev pub AreStores : Spilling → (Needed : ℕ → Type 0) → List ℕ → List SlotAccess → Type 0
AreStores s Needed [] stores = stores ≡ []
AreStores s Needed (v ∷ values) stores =
    IsStoredIf (s.is_spilled v) (Needed v → ⊥) (IsStore s v) (AreStores s Needed values) stores
