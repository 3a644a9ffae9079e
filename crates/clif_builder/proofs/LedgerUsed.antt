-- A variable is used: the agreement with the ledger is kept.
use Rattle.std.proofs.Common.{◌≡◌, ◌≢◌, ◌<◌, ℕ, List, [], ◌∷◌, ◌++◌, length, refl, sym, ◌∙◌, ap, subst, arith}
use Rattle.std.specs.Prelude.{slice_get, Option, Some, option_map, false, IfOk, OnOk, Result, Ok, Err}
use Rattle.std.proofs.lemmas.Option.{slice_get-get_or, slice_get-map, slice_get_within}
use Rattle.std.proofs.lemmas.List.{length-map}
use Rattle.clif_types.specs.declared.types.«Type».{«Type»}
use Rattle.clif_nodes.specs.declared.nodes.ValueNode.{ValueNode}
use Rattle.clif_ir.specs.Body.{Body}
use Rattle.clif_nodes.specs.Nodes.{no_value}
use Rattle.clif_ir.specs.Changes.{inserted_in}
use Rattle.clif_ir.specs.Consistent.{IsConsistent}
use Rattle.clif_meaning.specs.Name.{Name}
use Rattle.clif_meaning.specs.Request.{AnsweredCall, UseVar}
use Rattle.clif_meaning.specs.Ledger.{AValue, Ledger, VariableState, or_invalid, variable_type, ledger_with, with_begun, touched_at}
use Rattle.clif_ssa.specs.Structured.{HasType, Structured, VariableTypes}
use Rattle.clif_ssa.proofs.StructuredLaws.{inserted_structured}
use Rattle.clif_builder.specs.declared.context.BlockStatus.{BlockStatus}
use Rattle.clif_builder.specs.declared.context.BlockStatus.TheVariants.{Empty, Partial, Filled}
use Rattle.clif_builder.specs.Context.{Begins, ContextState, SetsStatus, TouchesVariable, begun, status_of}
use Rattle.clif_builder.specs.Builder.{is_empty_status, is_filled_status}
use Rattle.clif_builder.specs.Construction.{IsUse}
use Rattle.clif_builder.specs.Ledger.{AreTypesOf, LedgerAgrees, VariablesAgree, block_name, value_type, ledger_of}
use Rattle.clif_builder.specs.Order.{IsInOrder}
use Rattle.clif_builder.proofs.BlockValues.{parameters_constructed, parameters_inserted, same_inserted}
use Rattle.clif_builder.proofs.Counted.{spends_used}
use Rattle.clif_builder.proofs.LedgerLists.{name-of-some}
use Rattle.clif_builder.proofs.LedgerKept.{Extends-inserted, Extends-then, answers-one, concluded, extends-constructs}
use Rattle.clif_builder.proofs.LedgerMade.{ChangeAgrees, MadeLedger, Makes, agrees-made, begun-ledger, begun-variables, unpristine}
use Rattle.clif_builder.proofs.Placed.{in_order, are_listed, listed_type, listed_types, records_exist, used_alone, used_branches, used_layout, used_status}
use Rattle.clif_builder.proofs.Touching.{agree_touched, type_touched, types_before}
use Rattle.clif_builder.proofs.Tracks.{keeps_made}

-- the ledger's type of a variable is the context's
pub ledger-type : (calls : List AnsweredCall) (ledger : Ledger) (f : Body) (c : ContextState) (p : Option ℕ) → LedgerAgrees calls ledger f c p
    → (variable : ℕ) → variable_type ledger variable ≡ slice_get c.variables variable
ledger-type calls ledger f c p agrees variable =
    sym (slice_get-map (λ (v : VariableState). v.ty) ledger.variables variable) ∙ ap (λ (types : List «Type»). slice_get types variable) agrees.variables.types

-- a block that is begun agrees with one in which something was made
pub begun-agrees : (s : BlockStatus) → ChangeAgrees unpristine s (begun s)
begun-agrees s =
    record {
      block = λ t. refl;
      is_sealed = λ t. refl;
      parameters = λ t. refl;
      is_cold = λ t. refl;
      predecessors = λ t. refl;
      is_pristine = λ t was. pristine s;
      is_filled = λ t was. was ∙ filled s;
    }
  where
    pristine : (s : BlockStatus) → false ≡ is_empty_status (begun s)
    pristine Empty = refl
    pristine Partial = refl
    pristine Filled = refl

    filled : (s : BlockStatus) → is_filled_status s ≡ is_filled_status (begun s)
    filled Empty = refl
    filled Partial = refl
    filled Filled = refl

pub begun-not-empty : (s : BlockStatus) → begun s ≢ Empty
begun-not-empty Empty same = cc
begun-not-empty Partial same = cc
begun-not-empty Filled same = cc

-- a value of this type
pub typed-value : (f : Body) (v : ℕ) (ty : «Type») → HasType f v ty → value_type f v ≡ Some ty
typed-value f v ty has = ap (option_map (λ (n : ValueNode). n.ty)) (slice_get-get_or f.values v no_value has.0) ∙ ap Some has.1

-- what a use answers has the type of the variable
pub used-typed : (f g : Body) (c d : ContextState) (variable : ℕ) (ty : «Type») (block value : ℕ) (told : List ℕ) → IsInOrder f c → slice_get c.variables variable ≡ Some ty
    → IsUse (inserted_in f block) c.ssa g d.ssa variable ty block value told → HasType g value ty
used-typed f g c d variable ty block value told order declared use_of =
    (use_of.structured (listed_types c.variables) order.own (sym (listed_type c.variables variable ty declared))
    (inserted_structured (listed_types c.variables) order.own f c.ssa block (order.structured (listed_types c.variables) (are_listed c)))).1

-- a use of a declared variable in the current block
module _ (f g : Body) (c d : ContextState) (variable : ℕ) (ty : «Type») (block value : ℕ) (told : List ℕ)
    (order : IsInOrder f c) (declared : slice_get c.variables variable ≡ Some ty)
    (use_of : IsUse (inserted_in f block) c.ssa g d.ssa variable ty block value told) (begins : Begins c d (block ∷ told)) (consistent : IsConsistent g)
    (touches : TouchesVariable c d variable) where
  -- the structure then
  pub used-structured : (types : VariableTypes) → AreTypesOf d types → Structured types order.own g d.ssa [] × HasType g value ty
  used-structured types are =
      use_of.structured types order.own (sym (type_touched c d variable ty types touches declared are))
      (inserted_structured types order.own f c.ssa block (order.structured types (types_before c d variable types touches are)))

  -- the types that are listed
  listed_after : AreTypesOf d (listed_types c.variables)
  listed_after x kind is touched = listed_type c.variables x kind (ap (λ (xs : List «Type»). slice_get xs x) (sym touches.0) ∙ is)

  -- what a use makes, and the type of its answer
  pub use-makes : Makes order.own f c g d block
  use-makes =
      record {
        extends = Extends-then f (inserted_in f block) g (Extends-inserted f block) (extends-constructs (inserted_in f block) g use_of.constructs);
        layout = used_layout f c order g d variable ty block value told use_of consistent;
        sealed = use_of.flags;
        predecessors = use_of.predecessors;
        tracks =
            keeps_made f.values (inserted_in f block).values g.values f c d (same_inserted f block)
            (λ v is. parameters_constructed (inserted_in f block) g use_of.constructs v (parameters_inserted f block v is))
            use_of.stay (records_exist order.own f c order.structured) use_of.tracks use_of.makes;
        own = order.own;
        structured = λ types are. (used-structured types are).0;
        callers = λ b. refl;
        callers_alone = λ b.
            used_alone f c order g d variable ty block value told use_of consistent begins order.own (listed_types c.variables)
            (used-structured (listed_types c.variables) listed_after).0 b (order.callers_alone b);
        branches = used_branches f c order g d variable ty block value told use_of consistent begins;
      }

  pub use-typed : value_type g value ≡ Some ty
  use-typed = typed-value g value ty (used-structured (listed_types c.variables) listed_after).1

-- the agreement then
module _ (calls : List AnsweredCall) (ledger : Ledger) (f g : Body) (c d : ContextState) (p : Option ℕ) (variable : ℕ) (ty : «Type») (block value : ℕ) (told : List ℕ)
    (agrees : LedgerAgrees calls ledger f c p) (declared : slice_get c.variables variable ≡ Some ty)
    (use_of : IsUse (inserted_in f block) c.ssa g d.ssa variable ty block value told) (begins : Begins c d (block ∷ told)) (consistent : IsConsistent g)
    (touches : TouchesVariable c d variable) where
  pub agrees-used : p ≡ Some block
      → LedgerAgrees (calls ++ record { request = UseVar variable; numbers = value ∷ [] } ∷ []) (ledger_with ledger (UseVar variable)) g d p
  agrees-used at =
      let call : AnsweredCall = record { request = UseVar variable; numbers = value ∷ [] } in
      let current = name-of-some (block_name ledger) ledger.current block (agrees.current ∙ ap (option_map (block_name ledger)) at) in
      let name : Name = current.0 in
      let begun_ledger = begun-ledger ledger name current.1 in
      let new : Ledger = ledger_with ledger (UseVar variable) in
      let changed : MadeLedger ledger new name unpristine =
      record {
        blocks = begun_ledger.blocks;
        layout = begun_ledger.layout;
        current = begun_ledger.current;
        tables = begun_ledger.tables;
      } in
      let typed : variable_type ledger variable ≡ Some ty = ledger-type calls ledger f c p agrees variable ∙ declared in
      let inside : variable < length ledger.variables =
      omega (arith, slice_get_within c.variables variable ty declared, ap (λ (xs : List «Type»). length xs) agrees.variables.types, length-map ledger.variables (λ (v : VariableState). v.ty)) in
      let variables : VariablesAgree (touched_at variable (with_begun ledger).variables) d =
      subst (λ (states : List VariableState). VariablesAgree (touched_at variable states) d) (sym (begun-variables ledger))
      (agree_touched ledger.variables c d variable inside touches agrees.variables) in
      let makes : Makes agrees.own f c g d block = use-makes f g c d variable ty block value told (in_order agrees) declared use_of begins consistent touches in
      agrees-made calls call ledger new f g c d p block name unpristine (begun (status_of c block)) (AValue ty ∷ []) agrees tt current.2
      (ap (λ (o : Option «Type»). ledger.answers ++ (AValue (or_invalid o) ∷ []) ∷ []) typed) changed variables
      (begun-agrees (status_of c block)) (used_status f c (in_order agrees) g d variable ty block value told use_of begins)
      makes (spends_used _ _ f c g d variable ty block value told declared use_of makes.extends.block_count touches.0)
      (answers-one new g (length calls) (AValue ty) value (use-typed f g c d variable ty block value told (in_order agrees) declared use_of begins consistent touches) tt)

-- what comes of a use
pub used : {E : Type 0} (calls : List AnsweredCall) (f g : Body) (c d : ContextState) (p : Option ℕ) (variable : ℕ) (ty : «Type») (block : ℕ) (r : Result ℕ E)
    → LedgerAgrees calls (ledger_of calls) f c p → p ≡ Some block → slice_get c.variables variable ≡ Some ty
    → IfOk r (λ value. (told : List ℕ) × IsUse (inserted_in f block) c.ssa g d.ssa variable ty block value told × Begins c d (block ∷ told))
    → IsConsistent g → OnOk r (TouchesVariable c d variable)
    → IfOk r (λ value. LedgerAgrees (calls ++ record { request = UseVar variable; numbers = value ∷ [] } ∷ []) (ledger_of (calls ++ record { request = UseVar variable; numbers = value ∷ [] } ∷ [])) g d p)
used calls f g c d p variable ty block (Err e) agrees at declared uses consistent touches = tt
used calls f g c d p variable ty block (Ok value) agrees at declared uses consistent touches =
    concluded calls (record { request = UseVar variable; numbers = value ∷ [] }) g d p
    (agrees-used calls (ledger_of calls) f g c d p variable ty block value uses.0 agrees declared uses.1 uses.2 consistent touches at)

-- the statuses after a use
pub used-statuses : {E : Type 0} (calls : List AnsweredCall) (f g : Body) (c d : ContextState) (p : Option ℕ) (variable : ℕ) (ty : «Type») (block : ℕ) (r : Result ℕ E)
    → LedgerAgrees calls (ledger_of calls) f c p
    → IfOk r (λ value. (told : List ℕ) × IsUse (inserted_in f block) c.ssa g d.ssa variable ty block value told × Begins c d (block ∷ told))
    → OnOk r (SetsStatus c d block (begun (status_of c block)))
used-statuses calls f g c d p variable ty block (Err e) agrees uses = tt
used-statuses calls f g c d p variable ty block (Ok value) agrees uses =
    used_status f c (in_order agrees) g d variable ty block value uses.0 uses.1 uses.2
