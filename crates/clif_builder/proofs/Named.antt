-- What the construction names exists: what calls of the builder keep of it.
use Rattle.std.specs.Coded.{Coded-set, coded_list, coded_option, coded_ℕ}
use Rattle.clif_types.specs.contracts.types.«Type» as value_type
use Rattle.clif_builder.specs.contracts.context.BlockStatus as block_status
use Rattle.std.proofs.Common.{◌≡◌, ℕ, ◌<◌, ◌==◌, ◌&&◌, if◌then◌else◌, Bool, true, false, List, length, sym, ◌∙◌, ap, subst, arith}
use Rattle.std.specs.Prelude.{Option, Some, ◌∷◌, Contains, Result, Ok, Err, IfOk, OnOk, OnErr, is_err, slice_get, unwrap_or}
use Rattle.clif_types.specs.declared.error.BuildError.{BuildError}
use mathlib.Core.Logic.{∥∥₁_elim, ∥∥₁_map, ∥∥₁_prop}
use denote.Struct.Props.{props}
use Rattle.clif_types.specs.declared.types.«Type».{«Type»}
use Rattle.clif_ir.specs.Body.{Body, value_at}
use Rattle.clif_ir.specs.Changes.{inserted_in, with_block, with_inst, with_param}
use Rattle.clif_instructions.specs.declared.insert_at.InsertAt.{InsertAt}
use Rattle.clif_instructions.specs.declared.instructions.InstructionData.{InstructionData}
use Rattle.clif_records.specs.Tables.{SsaBlock, pending_code, pending_of, predecessors_at, sealed_at}
use Rattle.clif_ssa.specs.Ssa.{SsaState, NamesExist, record_of, Records, SameRecords}
use Rattle.clif_builder.proofs.Fresh.{new_waits}
use Rattle.clif_builder.proofs.Growing.{Grows-inserted, Grows-with_block, Grows-with_inst, Grows-with_param}
use Rattle.clif_builder.specs.Construction.{IsUse}
use Rattle.clif_builder.specs.Context.{Begins, ContextState, is_untouched}
use Rattle.clif_builder.specs.Marks.{IsUnused}
use Rattle.clif_builder.proofs.Touching.{new_unused}
use Rattle.clif_builder.specs.Order.{IsInOrder, IsKept, IsUntouched}
use Rattle.clif_builder.specs.Tracking.{FitsMaps, RecordedFits}
use Rattle.clif_builder.proofs.Fitting.{asked_fits, contained_has, fits_asked}
use Rattle.clif_records.specs.Tracking.{recorded_of}
use Rattle.clif_builder.proofs.LedgerUsed.{used-typed}
use Rattle.clif_builder.specs.Growth.{Grows}
use Rattle.clif_builder.specs.declared.builder.FunctionBuilder.{FunctionBuilder}

-- what a builder keeps
pub opened : (f : Body) (c : ContextState) (failed : Bool) → ∥ IsKept f c failed ∥₁ → NamesExist f c.ssa
opened f c failed kept = record {
  recorded = λ x b v is. ∥∥₁_elim kept (search props) (λ k. k.names.recorded x b v is);
  leading = λ b i here. ∥∥₁_elim kept (search props) (λ k. k.names.leading b i here);
  waiting = λ b p here. ∥∥₁_elim kept (search props) (λ k. k.names.waiting b p here);
}

-- a call of a builder that hadn't failed keeps it
pub kept_by : {A : Type 0} (r : Result A BuildError) (f g : Body) (c d : ContextState) (was now : Bool) → was ≡ false → now ≡ is_err r
    → (NamesExist f c.ssa → NamesExist g d.ssa) → (IsInOrder f c → OnOk r (IsInOrder g d)) → (OnOk r (IsInOrder g d) → FitsMaps f c → OnOk r (FitsMaps g d))
    → ∥ IsKept f c was ∥₁ → ∥ IsKept g d now ∥₁
kept_by {A} r f g c d was now sound fails names order fits kept =
    ∥∥₁_map kept (λ k. record {
      names = names k.names;
      in_order = λ fine. by r (IsInOrder g d) (sym fails ∙ fine) (order (k.in_order sound));
      fits_maps = λ fine. asked_fits (by r (FitsMaps g d) (sym fails ∙ fine) (fits (order (k.in_order sound)) (fits_asked (k.fits_maps sound))));
    })
  where
    by : (r : Result A BuildError) (P : Type 0) → is_err r ≡ false → OnOk r P → P
    by (Ok a) P fine holds = holds
    by (Err e) P fine holds = let no_way : ⊥ = cc in absurd no_way

-- so does one that can't fail
pub kept_still : (f g : Body) (c d : ContextState) (failed : Bool) → (NamesExist f c.ssa → NamesExist g d.ssa) → (IsInOrder f c → IsInOrder g d) → (FitsMaps f c → FitsMaps g d)
    → ∥ IsKept f c failed ∥₁ → ∥ IsKept g d failed ∥₁
kept_still f g c d failed names order fits kept =
    ∥∥₁_map kept (λ k. record { names = names k.names; in_order = λ fine. order (k.in_order fine); fits_maps = λ fine. asked_fits (fits (fits_asked (k.fits_maps fine))) })

-- recorded values fit stack maps
pub kept_recorded : (f : Body) (c : ContextState) (failed : Bool) → failed ≡ false → ∥ IsKept f c failed ∥₁ → RecordedFits f (recorded_of c.ssa.tracking)
kept_recorded f c failed sound kept v here = record {
  exists = ∥∥₁_elim kept (search props) (λ k. ((fits_asked (k.fits_maps sound)).recorded v (contained_has (recorded_of c.ssa.tracking) v here)).exists);
  fits = record {
    some = ∥∥₁_elim kept (search props) (λ k. ((fits_asked (k.fits_maps sound)).recorded v (contained_has (recorded_of c.ssa.tracking) v here)).fits.some);
    fits = ∥∥₁_elim kept (search props) (λ k. ((fits_asked (k.fits_maps sound)).recorded v (contained_has (recorded_of c.ssa.tracking) v here)).fits.fits);
  };
}

-- a block that doesn't exist yet is untouched
pub kept_fresh : (f : Body) (c : ContextState) (failed : Bool) → failed ≡ false → ∥ IsKept f c failed ∥₁ → IsUntouched c (length f.blocks)
kept_fresh f c failed sound kept = record {
  unsealed = ∥∥₁_elim kept (search props) (λ k. ((k.in_order sound).fresh (length f.blocks) (omega arith)).0);
  pristine = ∥∥₁_elim kept (Coded-set (block_status.the_row).coded _ _) (λ k. ((k.in_order sound).fresh (length f.blocks) (omega arith)).1);
  alone = ∥∥₁_elim kept (search props) (λ k. ((k.in_order sound).fresh (length f.blocks) (omega arith)).2);
  none_waits = ∥∥₁_elim kept (Coded-set (coded_list pending_code) _ _) (λ k. new_waits f c (k.in_order sound));
}

-- a variable that is declared, and that no call used or assigned, has no record
pub kept_unused : (f : Body) (c : ContextState) (failed : Bool) (x : ℕ) → failed ≡ false → is_untouched c x ≡ true → ∥ IsKept f c failed ∥₁ → IsUnused c x
kept_unused f c failed x sound new kept block = ∥∥₁_elim kept (Coded-set (coded_option coded_ℕ) _ _) (λ k. new_unused f c x (k.in_order sound) new block)

-- a use of a variable answers a value of its type
pub kept_typed : {E : Type 0} (r : Result ℕ E) (f g : Body) (c d : ContextState) (failed : Bool) (variable : ℕ) (ty : «Type») (block : ℕ) → failed ≡ false → slice_get c.variables variable ≡ Some ty
    → IfOk r (λ value. (told : List ℕ) × IsUse (inserted_in f block) c.ssa g d.ssa variable ty block value told × Begins c d (block ∷ told)) → ∥ IsKept f c failed ∥₁
    → IfOk r (λ value. slice_get c.variables variable ≡ Some (value_at g value).ty)
kept_typed (Err e) f g c d failed variable ty block sound declared uses kept = tt
kept_typed (Ok value) f g c d failed variable ty block sound declared uses kept =
    let same : (value_at g value).ty ≡ ty = ∥∥₁_elim kept (Coded-set (value_type.the_row).coded _ _) (λ k. (used-typed f g c d variable ty block value uses.0 (k.in_order sound) declared uses.1).1) in
    declared ∙ ap Some (sym same)

-- the function grows
pub names_grow : (f g : Body) (s : SsaState) → Grows f g → NamesExist f s → NamesExist g s
names_grow f g s grows named = record {
  recorded = λ x b v is. omega (arith, named.recorded x b v is, grows.0);
  leading = λ b i here. omega (arith, named.leading b i here, grows.1);
  waiting = λ b p here. omega (arith, named.waiting b p here, grows.0);
}

pub names_inserted : {X Y : Type 0} (r : Result X Y) (f g : Body) (s : SsaState) (b : ℕ) → OnOk r (g ≡ inserted_in f b) → OnErr r (g ≡ f) → NamesExist f s → NamesExist g s
names_inserted (Ok x) f g s b is kept named = subst (λ h. NamesExist h s) (sym is) (names_grow f (inserted_in f b) s (Grows-inserted f b) named)
names_inserted (Err y) f g s b is kept named = subst (λ h. NamesExist h s) (sym kept) named

pub names_made : {X Y : Type 0} (r : Result X Y) (f g : Body) (s : SsaState) → OnOk r (g ≡ with_block f) → OnErr r (g ≡ f) → NamesExist f s → NamesExist g s
names_made (Ok x) f g s is kept named = subst (λ h. NamesExist h s) (sym is) (names_grow f (with_block f) s (Grows-with_block f) named)
names_made (Err y) f g s is kept named = subst (λ h. NamesExist h s) (sym kept) named

pub names_param : {X Y : Type 0} (r : Result X Y) (f g : Body) (s : SsaState) (b : ℕ) (ty : «Type») → OnOk r (g ≡ with_param f b ty) → OnErr r (g ≡ f) → NamesExist f s → NamesExist g s
names_param (Ok x) f g s b ty is kept named = subst (λ h. NamesExist h s) (sym is) (names_grow f (with_param f b ty) s (Grows-with_param f b ty) named)
names_param (Err y) f g s b ty is kept named = subst (λ h. NamesExist h s) (sym kept) named

pub names_appended : {X Y : Type 0} (r : Result X Y) (f g : Body) (s : SsaState) (b : ℕ) (at : InsertAt) (shape : InstructionData) (types : List «Type») (loc : ℕ)
    → OnOk r (g ≡ with_inst f b at shape types loc) → OnErr r (g ≡ f) → NamesExist f s → NamesExist g s
names_appended (Ok x) f g s b at shape types loc is kept named = subst (λ h. NamesExist h s) (sym is) (names_grow f (with_inst f b at shape types loc) s (Grows-with_inst f b at shape types loc) named)
names_appended (Err y) f g s b at shape types loc is kept named = subst (λ h. NamesExist h s) (sym kept) named

-- a value that exists is recorded, or nothing is
pub names_recorded : {X Y : Type 0} (r : Result X Y) (f : Body) (s t : SsaState) (variable block value : ℕ) → OnOk r (Records s t variable block value) → OnErr r (SameRecords s t) → t.blocks ≡ s.blocks
    → value < length f.values → NamesExist f s → NamesExist f t
names_recorded {X} {Y} r f s t variable block value records kept same exists named = record {
  recorded = λ x b v is. by r records kept x b v is;
  leading = λ b i here. named.leading b i (subst (λ (blocks : List SsaBlock). Contains (predecessors_at blocks b) i) same here);
  waiting = λ b p here. named.waiting b p (subst (λ (blocks : List SsaBlock). Contains (pending_of (sealed_at blocks b)) p) same here);
}
  where
    some_value : (x y : ℕ) → ◌≡◌ {A = Option ℕ} (Some y) (Some x) → y ≡ x
    some_value x y same = ap (λ (o : Option ℕ). unwrap_or o 0) same

    by_test : (x b v : ℕ) (test : Bool) → (if test then Some value else record_of s x b) ≡ Some v → v < length f.values
    by_test x b v true is = let here : value ≡ v = some_value v value is in omega (arith, exists, here)
    by_test x b v false is = named.recorded x b v is

    by : (r : Result X Y) → OnOk r (Records s t variable block value) → OnErr r (SameRecords s t) → (x b v : ℕ) → record_of t x b ≡ Some v → v < length f.values
    by (Ok u) records kept x b v is = by_test x b v (x == variable && b == block) (sym (records x b) ∙ is)
    by (Err e) records kept x b v is = named.recorded x b v (sym (kept x b) ∙ is)

pub ruleset names_rules = (names_inserted, names_made, names_recorded)

-- two builders that differ in no part that runs are one
pub same_builder : {R : Type 0} (b : FunctionBuilder R) (named : ∥ IsKept b.func.now b.ctx.now.parts b.failed ∥₁) → (record b { named = named }) ≡ b
same_builder b named = ap (λ (n : ∥ IsKept b.func.now b.ctx.now.parts b.failed ∥₁). record b { named = n }) (∥∥₁_prop named b.named)
