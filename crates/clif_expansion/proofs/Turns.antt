-- What a step of a script is matched by in the plain program: a step of the same item, or some steps that show nothing new.
use Rattle.std.proofs.Common.{◌≡◌, ◌⊎◌, inl, inr, ℕ, suc, Bool, List, [], ◌∷◌, ◌++◌, length, map, refl, sym, ◌∙◌, ap, subst}
use Rattle.std.specs.List.{AllByRecursion}
use Rattle.clif_types.specs.declared.types.«Type».{«Type»}
use Rattle.clif_meaning.specs.Access.{Holds, claims_of, touched_ranges}
use Rattle.clif_meaning.specs.Instruction.{Instruction}
use Rattle.clif_meaning.specs.Machine.{Control, At, HasReturned, HasTrapped, IsStuck}
use Rattle.clif_meaning.specs.Memory.{Memory, Range}
use Rattle.clif_meaning.specs.Name.{Name, same_name}
use Rattle.clif_meaning.specs.Outcome.{Gives, Goes, outcome_of}
use Rattle.clif_meaning.specs.Premises.{ClaimsAreTrue, OfNextItem, SparesRange, SparesSpillSlots}
use Rattle.clif_meaning.specs.Program.{Program, Item, Instruct, Use, Assign}
use Rattle.clif_meaning.specs.ScriptMachine.{ScriptRun, ScriptState, script_step}
use Rattle.clif_meaning.specs.Store.{assigned}
use Rattle.clif_meaning.specs.World.{World}
use Rattle.clif_byte_laws.specs.Pieces.{HoldsBytes}
use Rattle.clif_expansion.specs.Code.{Decides, DecidesIn, Does, IsItself, NameTypes, Performs, PerformsIn}
use Rattle.clif_expansion.specs.Expansion.{IsExpandedProgram}
use Rattle.clif_expansion.specs.Laws.{TakesTyped, TakesValues}
use Rattle.clif_expansion.specs.Reading.{Agree, IsOneToOne, IsReadItem, Reading}
use Rattle.clif_expansion.proofs.Alike
use Rattle.clif_expansion.proofs.Alike.{Agrees, IsAlike, IsSamePlace, item_alike, same_operands}
use Rattle.clif_expansion.proofs.Lines.{line_passes, one_given, standing}
use Rattle.clif_expansion.proofs.Names.{assigned_read, not_generated}
use Rattle.clif_expansion.proofs.Steps.{Passes}
use Rattle.clif_expansion.proofs.Walks.{goes_along, walk_keeps, walk_passes}

-- what the next item of a run touches
abbrev pub next_ranges : ScriptRun → ScriptState → Control Item → List Range
next_ranges run state (At (Instruct place instruction results ∷ rest)) =
    touched_ranges run.world instruction.operation instruction.controlling (map run.name_type instruction.operands) (map state.names instruction.operands)
next_ranges run state _ = []

-- the next item of a run takes values of types that it takes, what it claims is true, and memory holds bytes
pub record IsSoundAt (run : ScriptRun) (state : ScriptState) (control : Control Item) : Type 0 where
  pub typed : OfNextItem (TakesTyped run state) control
  pub values : OfNextItem (TakesValues run state) control
  pub claims : OfNextItem (ClaimsAreTrue run state) control
  pub bytes : HoldsBytes state.memory

-- what the premises ask of the next item of the script's run they ask of the plain one's
pub record AsksTheSame (plain script : ScriptRun) (t s : ScriptState) : Type 0 where
  pub claims : OfNextItem (ClaimsAreTrue script s) s.control → OfNextItem (ClaimsAreTrue plain t) t.control
  pub spares : OfNextItem (SparesSpillSlots script s) s.control → OfNextItem (SparesSpillSlots plain t) t.control

module _ (reading : Reading) (one_to_one : IsOneToOne reading) (world : World) (hidden : ℕ → Bool) (variable_type : ℕ → «Type») (is_marked : ℕ → Bool)
    (program' program : Program) (type' type : Name → «Type») (tracked' tracked : Name → Bool)
    (expanded : IsExpandedProgram world.pointer_width reading (record { plain = type'; script = type }) program' program)
    (same_type : Agree reading type' type) (same_tracked : Agree reading tracked' tracked) where
  abbrev run : ScriptRun
  run = Alike.run reading one_to_one world hidden variable_type is_marked program' program type' type tracked' tracked expanded same_type same_tracked

  abbrev run' : ScriptRun
  run' = Alike.run' reading one_to_one world hidden variable_type is_marked program' program type' type tracked' tracked expanded same_type same_tracked

  abbrev types : NameTypes
  types = record { plain = type'; script = type }

  abbrev IsLike : ScriptState → ScriptState → Type 0
  IsLike t s = IsAlike world.pointer_width reading types program' t s

  -- the step of the same item, or some steps
  abbrev pub Turn : ScriptState → ScriptState → Type 0
  Turn t s =
      (IsLike (script_step run' t) (script_step run s) × AsksTheSame run' run t s)
      ⊎ ((n : ℕ) × (after : ScriptState) × Passes run' (next_ranges run s s.control) (suc n) t after × IsLike after (script_step run s))

  -- agreement doesn't depend on where the runs stand
  placed : (t s : ScriptState) (control' control : Control Item) → Agrees reading t s → Agrees reading (record t { control = control' }) (record s { control = control })
  placed t s control' control same = record { variables = same.variables; names = same.names; memory = same.memory; events = same.events }

  said_of_equals : {X : Type 0} (P : X → Type 0) (xs ys : List X) → xs ≡ ys → AllByRecursion P ys → AllByRecursion P xs
  said_of_equals {X} P xs ys same all = subst (λ (zs : List X). AllByRecursion P zs) (sym same) all

  asks_the_same : (t s : ScriptState) (plain item : Item) (rest' rest : List Item) → IsReadItem reading plain item → Agrees reading t s
      → AsksTheSame run' run (record t { control = At (plain ∷ rest') }) (record s { control = At (item ∷ rest) })
  asks_the_same t s (Instruct place plain results') (Instruct other instruction results) rest' rest is same = record {
    claims = λ claims. said_of_equals (Holds world) _ _
        (same_operands reading one_to_one world hidden variable_type is_marked program' program type' type tracked' tracked expanded same_type same_tracked
        (claims_of world) plain instruction t s is.0 same) claims;
    spares = λ spares. said_of_equals (SparesRange hidden) _ _
        (same_operands reading one_to_one world hidden variable_type is_marked program' program type' type tracked' tracked expanded same_type same_tracked
        (touched_ranges world) plain instruction t s is.0 same) spares;
  }
  asks_the_same t s (Instruct place plain results') (Use variable name) rest' rest is same = absurd is
  asks_the_same t s (Instruct place plain results') (Assign variable name) rest' rest is same = absurd is
  asks_the_same t s (Use variable x) item rest' rest is same = record { claims = λ asked. tt; spares = λ asked. tt }
  asks_the_same t s (Assign variable x) item rest' rest is same = record { claims = λ asked. tt; spares = λ asked. tt }

  itself : (t s : ScriptState) (code : List Item) (item : Item) (rest' rest : List Item) → IsItself reading code item
      → Alike.Left reading one_to_one world hidden variable_type is_marked program' program type' type tracked' tracked expanded same_type same_tracked rest' rest
      → Agrees reading t s → Turn (record t { control = At (code ++ rest') }) (record s { control = At (item ∷ rest) })
  itself t s [] item rest' rest is left same = absurd is
  itself t s (plain ∷ []) item rest' rest is left same = inl (
    item_alike reading one_to_one world hidden variable_type is_marked program' program type' type tracked' tracked expanded same_type same_tracked
        (record t { control = At (plain ∷ rest') }) (record s { control = At (item ∷ rest) }) plain item rest' rest is left
        (placed t s (At (plain ∷ rest')) (At (item ∷ rest)) same),
    asks_the_same t s plain item rest' rest is same,
  )
  itself t s (plain ∷ other ∷ code) item rest' rest is left same = absurd is

  -- behind code that performed the instruction the states are alike
  behind : (t s : ScriptState) (instruction : Instruction Name Name) (results : List Name) (code rest' rest : List Item)
      → (performs : Performs world.pointer_width reading types code instruction results)
      → (did : PerformsIn world reading types instruction performs.given code t.names s.names t.memory)
      → Alike.Left reading one_to_one world hidden variable_type is_marked program' program type' type tracked' tracked expanded same_type same_tracked rest' rest
      → Agrees reading t s
      → IsLike (standing t did.after rest') (standing s (record { names = assigned same_name results did.values s.names; memory = did.after.memory }) rest)
  behind t s instruction results code rest' rest performs did left same = record {
    agrees = record {
      variables = same.variables;
      names = λ x name is. did.kept x (not_generated reading x name is)
          ∙ assigned_read reading one_to_one performs.given results did.values t.names s.names performs.named same.names x name is;
      memory = refl;
      events = same.events;
    };
    place = left;
  }

  performed : (t s : ScriptState) (place : ℕ) (instruction : Instruction Name Name) (results : List Name) (code rest' rest : List Item)
      → Performs world.pointer_width reading types code instruction results
      → Alike.Left reading one_to_one world hidden variable_type is_marked program' program type' type tracked' tracked expanded same_type same_tracked rest' rest
      → IsSoundAt run s (At (Instruct place instruction results ∷ rest)) → Agrees reading t s
      → Turn (record t { control = At (code ++ rest') }) (record s { control = At (Instruct place instruction results ∷ rest) })
  performed t s place instruction results [] rest' rest performs left sound same = absurd (performs.begins refl)
  performed t s place instruction results (first ∷ code) rest' rest performs left sound same =
      let did = performs.performs world t.names s.names t.memory refl (subst HoldsBytes (sym same.memory) sound.bytes) same.names (record { typed = sound.typed; operands = sound.values; claims = sound.claims }) in
      let outcome : outcome_of world instruction.operation instruction.controlling (map type instruction.operands) (map s.names instruction.operands) s.memory ≡ Gives did.values did.after.memory =
      ap (λ (memory : Memory). outcome_of world instruction.operation instruction.controlling (map type instruction.operands) (map s.names instruction.operands) memory) (sym same.memory)
      ∙ did.outcome in
      let step = one_given run s (record { names = s.names; memory = s.memory }) place instruction results rest did.values did.after.memory outcome in
      inr (
        length code,
        standing t did.after rest',
        line_passes run' (next_ranges run s (At (Instruct place instruction results ∷ rest))) t rest' (first ∷ code) (record { names = t.names; memory = t.memory }) did.after did.runs,
        subst (λ (next : ScriptState). IsLike (standing t did.after rest') next) (sym step)
            (behind t s instruction results (first ∷ code) rest' rest performs did left same),
      )

  -- where control walked to, the states are alike
  walked : (t s : ScriptState) (instruction : Instruction Name Name) (code : List Item) (branches tables : ℕ)
      → (did : DecidesIn (record { world = world; reading = reading; types = type'; program = program' }) type code instruction t.names s.names t.memory branches tables)
      → Agrees reading t s
      → IsLike (standing t (record { names = did.after; memory = t.memory }) (program'.items did.block)) (standing s (record { names = s.names; memory = s.memory }) (program.items did.edge.target))
  walked t s instruction code branches tables did same = record {
    agrees = record {
      variables = same.variables;
      names = λ x name is.
          walk_keeps (record { world = world; reading = reading; types = type'; program = program' }) did.block code t.names did.after did.walked_branches did.walked_tables
          did.walk x (not_generated reading x name is)
          ∙ same.names x name is;
      memory = same.memory;
      events = same.events;
    };
    place = expanded.items did.block did.edge.target did.target;
  }

  decided : (t s : ScriptState) (place : ℕ) (instruction : Instruction Name Name) (results : List Name) (code rest' rest : List Item) (branches tables : ℕ)
      → Decides world.pointer_width reading types program' code instruction branches tables
      → IsSoundAt run s (At (Instruct place instruction results ∷ rest)) → Agrees reading t s
      → Turn (record t { control = At (code ++ rest') }) (record s { control = At (Instruct place instruction results ∷ rest) })
  decided t s place instruction results code rest' rest branches tables decides sound same =
      let did = decides.decides world t.names s.names t.memory refl same.names (record { typed = sound.typed; operands = sound.values; claims = sound.claims }) in
      let outcome : outcome_of world instruction.operation instruction.controlling (map type instruction.operands) (map s.names instruction.operands) s.memory ≡ Goes did.index [] s.memory =
      subst (λ (memory : Memory). outcome_of world instruction.operation instruction.controlling (map type instruction.operands) (map s.names instruction.operands) memory ≡ Goes did.index [] memory)
      same.memory did.outcome in
      let step = goes_along run s (record { names = s.names; memory = s.memory }) place instruction results rest did.index did.edge outcome did.there did.nothing in
      let passes = walk_passes run' reading (next_ranges run s (At (Instruct place instruction results ∷ rest))) t t.memory
      did.block code rest' t.names did.after did.walked_branches did.walked_tables did.walk in
      inr (
        passes.0,
        standing t (record { names = did.after; memory = t.memory }) (program'.items did.block),
        passes.1,
        subst (λ (next : ScriptState). IsLike (standing t (record { names = did.after; memory = t.memory }) (program'.items did.block)) next) (sym step)
            (walked t s instruction code branches tables did same),
      )

  does : (t s : ScriptState) (code : List Item) (item : Item) (rest' rest : List Item) → Does world.pointer_width reading types program' code item
      → Alike.Left reading one_to_one world hidden variable_type is_marked program' program type' type tracked' tracked expanded same_type same_tracked rest' rest
      → IsSoundAt run s (At (item ∷ rest)) → Agrees reading t s
      → Turn (record t { control = At (code ++ rest') }) (record s { control = At (item ∷ rest) })
  does t s code item rest' rest (inl is) left sound same = itself t s code item rest' rest is left same
  does t s code (Instruct place instruction results) rest' rest (inr (inl performs)) left sound same = performed t s place instruction results code rest' rest performs left sound same
  does t s code (Use variable name) rest' rest (inr (inl performs)) left sound same = absurd performs
  does t s code (Assign variable name) rest' rest (inr (inl performs)) left sound same = absurd performs
  does t s code (Instruct place instruction results) rest' rest (inr (inr (branches, tables, decides))) left sound same =
      decided t s place instruction results code rest' rest branches tables decides sound same
  does t s code (Use variable name) rest' rest (inr (inr decides)) left sound same = absurd decides
  does t s code (Assign variable name) rest' rest (inr (inr decides)) left sound same = absurd decides

  -- a run that stays as it is
  stays : (t s : ScriptState) (control' control : Control Item) → IsSamePlace world.pointer_width reading types program' control' control → Agrees reading t s
      → IsLike (record t { control = control' }) (record s { control = control })
  stays t s control' control is same = record { agrees = placed t s control' control same; place = is }

  turn_at : (t s : ScriptState) (control' control : Control Item) → IsSamePlace world.pointer_width reading types program' control' control
      → IsSoundAt run s control → Agrees reading t s → Turn (record t { control = control' }) (record s { control = control })
  turn_at t s (At plain) (At []) is sound same =
      subst (λ (items : List Item). Turn (record t { control = At items }) (record s { control = At [] })) (sym is)
      (inl (stays t s IsStuck IsStuck tt same, record { claims = λ asked. tt; spares = λ asked. tt }))
  turn_at t s (At plain) (At (item ∷ rest)) (code, rest', cut, what, left) sound same =
      subst (λ (items : List Item). Turn (record t { control = At items }) (record s { control = At (item ∷ rest) })) (sym cut)
      (does t s code item rest' rest what left sound same)
  turn_at t s (HasReturned values') (HasReturned values) is sound same =
      inl (stays t s (HasReturned values') (HasReturned values) is same, record { claims = λ asked. tt; spares = λ asked. tt })
  turn_at t s (HasTrapped reason') (HasTrapped reason) is sound same =
      inl (stays t s (HasTrapped reason') (HasTrapped reason) is same, record { claims = λ asked. tt; spares = λ asked. tt })
  turn_at t s IsStuck IsStuck is sound same = inl (stays t s IsStuck IsStuck tt same, record { claims = λ asked. tt; spares = λ asked. tt })
  turn_at t s (At plain) (HasReturned values) is sound same = absurd is
  turn_at t s (At plain) (HasTrapped reason) is sound same = absurd is
  turn_at t s (At plain) IsStuck is sound same = absurd is
  turn_at t s (HasReturned values') (At rest) is sound same = absurd is
  turn_at t s (HasReturned values') (HasTrapped reason) is sound same = absurd is
  turn_at t s (HasReturned values') IsStuck is sound same = absurd is
  turn_at t s (HasTrapped reason') (At rest) is sound same = absurd is
  turn_at t s (HasTrapped reason') (HasReturned values) is sound same = absurd is
  turn_at t s (HasTrapped reason') IsStuck is sound same = absurd is
  turn_at t s IsStuck (At rest) is sound same = absurd is
  turn_at t s IsStuck (HasReturned values) is sound same = absurd is
  turn_at t s IsStuck (HasTrapped reason) is sound same = absurd is

  pub turn : (t s : ScriptState) → IsLike t s → IsSoundAt run s s.control → Turn t s
  turn t s alike sound = turn_at t s t.control s.control alike.place sound alike.agrees
