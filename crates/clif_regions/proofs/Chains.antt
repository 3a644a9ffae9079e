-- One access after the other gets its region.
use Rattle.std.proofs.Common.{◌≡◌, ◌≢◌, ◌⊎◌, inl, inr, ◌∙◌, ◌<◌, ◌≤◌, ◌+◌, ◌-◌, ℕ, zero, suc, List, [], ◌∷◌, ◌++◌, length, map, refl, sym, ap, subst, arith, Option, None, Some}
use Rattle.std.specs.Prelude.{option_map, slice_index_or, slice_set}
use Rattle.std.specs.List.{FoldsTo, cons_option}
use Rattle.std.proofs.lemmas.List.{get_or-set_other, get_or-set_same}
use Rattle.clif_types.specs.AliasRegions.{AliasRegionTable}
use Rattle.clif_types.specs.declared.types.«Type».{«Type»}
use Rattle.clif_instructions.specs.declared.instructions.InstructionData.{InstructionData}
use Rattle.clif_instructions.specs.declared.instructions.InstructionData.TheVariants.{Load, Store}
use Rattle.clif_nodes.specs.Nodes.{no_inst}
use Rattle.clif_nodes.specs.declared.nodes.InstNode.{InstNode}
use Rattle.clif_ir.specs.Body.{Body, inst_at}
use Rattle.clif_ir.specs.Changes.{in_region, with_alias_region, with_tables}
use Rattle.clif_region_laws.specs.Regions.{AreAlikeButForRegions, plain_body, plain_node, plain_shape}
use Rattle.clif_regions.specs.Asking.{Access, Asks, AreAnswered, IsAsked, IsAskedIf, MayAnswer, access_at, accesses, region_of_shape, touched, touched_by}
use Rattle.clif_regions.proofs.Plain.{touched_alike}

-- NAMING ------------------------------------------------------------------------------------------------------------------

-- one element of a list changes, and what is read of it doesn't
read_set : {X Y : Type 0} (h : X → Y) (xs : List X) (i : ℕ) (y d : X) → h y ≡ h (slice_index_or xs i d) → map h (slice_set xs i y) ≡ map h xs
read_set h [] i y d same = refl
read_set h (x ∷ xs) zero y d same = ap (λ z. z ∷ map h xs) same
read_set h (x ∷ xs) (suc i) y d same = ap (λ zs. h x ∷ zs) (read_set h xs i y d same)

plain_in_region : (region : Option ℕ) (shape : InstructionData) → plain_shape (in_region region shape) ≡ plain_shape shape
plain_in_region region (Load flags arg offset) = refl
plain_in_region region (Store flags args offset) = refl
plain_in_region region _ = refl

-- the function after one access names a region
abbrev named : Body → AliasRegionTable → (inst : ℕ) → Option ℕ → Body
named f set inst region = with_alias_region (with_tables f (record f.tables { alias_regions = set })) inst region

named_alike : (f : Body) (set : AliasRegionTable) (inst : ℕ) (region : Option ℕ) → AreAlikeButForRegions f (named f set inst region)
named_alike f set inst region =
    ap (λ (insts : List InstNode). record (plain_body f) { insts = insts })
    (sym (read_set plain_node f.insts inst (record (inst_at f inst) { shape = in_region region (inst_at f inst).shape }) no_inst
    (ap (λ (shape : InstructionData). record (inst_at f inst) { shape = shape }) (plain_in_region region (inst_at f inst).shape))))

asked_alike : (asks : Asks) (inst : ℕ) (ty : «Type») (slot : ℕ) (f g : Body) → IsAsked asks inst ty slot f g → AreAlikeButForRegions f g
asked_alike asks inst ty slot f g asked = named_alike f asked.set inst asked.region ∙ ap plain_body (sym asked.named)

-- what touches a slot is an access, and names the region then
region_named : (f : Body) (region : Option ℕ) (shape : InstructionData) (results : List ℕ) (place : «Type» × ℕ) → touched f shape results ≡ Some place
    → region_of_shape (in_region region shape) ≡ region
region_named f region (Load flags arg offset) results place is = refl
region_named f region (Store flags args offset) results place is = refl
region_named f region _ results place is = let no_way : ⊥ = cc in absurd no_way

-- the access that is there then
abbrev access_of : Option ℕ → «Type» × ℕ → Access
access_of region place = record { ty = place.0; slot = place.1; region = region }

access_named : (f g : Body) (set : AliasRegionTable) (inst : ℕ) (region : Option ℕ) (ty : «Type») (slot : ℕ) → inst < length f.insts → g ≡ named f set inst region
    → touched_by f inst ≡ Some (ty, slot) → access_at g inst ≡ Some (record { ty = ty; slot = slot; region = region })
access_named f g set inst region ty slot inside is there =
    ap (λ (h : Body). access_at h inst) is
    ∙ (λ i. option_map (access_of (region_of_shape (node i).shape)) (touched_alike f (named f set inst region) (named_alike f set inst region) inst i))
    ∙ (λ i. option_map (access_of (region_named f region (inst_at f inst).shape (inst_at f inst).results (ty, slot) there i)) (there i))
  where
    node : inst_at (named f set inst region) inst ≡ record (inst_at f inst) { shape = in_region region (inst_at f inst).shape }
    node = get_or-set_same f.insts inst _ no_inst inside

-- the others are as they were
access_stays : (f g : Body) (set : AliasRegionTable) (inst k : ℕ) (region : Option ℕ) → k ≢ inst → g ≡ named f set inst region → access_at g k ≡ access_at f k
access_stays f g set inst k region other is =
    ap (λ (h : Body). access_at h k) is
    ∙ (λ i. option_map (access_of (region_of_shape (node i).shape)) (touched_alike f (named f set inst region) (named_alike f set inst region) k i))
  where
    node : inst_at (named f set inst region) k ≡ inst_at f k
    node = get_or-set_other f.insts inst k _ no_inst other

-- LISTS OF ACCESSES -------------------------------------------------------------------------------------------------------

accesses_before : (f g : Body) (set : AliasRegionTable) (inst : ℕ) (region : Option ℕ) → g ≡ named f set inst region → (first count : ℕ) → first + count ≤ inst → accesses g first count ≡ accesses f first count
accesses_before f g set inst region is first zero inside = refl
accesses_before f g set inst region is first (suc count) inside =
    λ i. cons_option
    (access_stays f g set inst first region (λ (same : first ≡ inst). omega (arith, inside, same)) is i)
    (accesses_before f g set inst region is (first + 1) count (omega (arith, inside)) i)

-- one more access behind them
accesses_more : (f : Body) (first count : ℕ) → accesses f first (suc count) ≡ accesses f first count ++ cons_option (access_at f (first + count)) []
accesses_more f first zero = ap (λ (n : ℕ). cons_option (access_at f n) []) (omega arith)
accesses_more f first (suc count) =
    ap (cons_option (access_at f first)) (accesses_more f (first + 1) count)
    ∙ by (access_at f first)
    ∙ ap (λ (n : ℕ). accesses f first (suc count) ++ cons_option (access_at f n) []) (omega arith)
  where
    last : List Access
    last = cons_option (access_at f (first + 1 + count)) []

    by : (access : Option Access) → cons_option access (accesses f (first + 1) count ++ last) ≡ cons_option access (accesses f (first + 1) count) ++ last
    by None = refl
    by (Some access) = refl

-- CHAINS ------------------------------------------------------------------------------------------------------------------

chain_on : {P A : Type 0} (R : P → A → P → Type 0) (p : P) (xs : List A) (q : P) (ys : List A) (r : P) → FoldsTo R p xs q → FoldsTo R q ys r → FoldsTo R p (xs ++ ys) r
chain_on R p [] q ys r h k = subst (λ v. FoldsTo R v ys r) (sym h) k
chain_on R p (x ∷ xs) q ys r h k = (h.0, h.1, chain_on R h.0 xs q ys r h.2 k)

-- So far each access from a number on up to another one was asked for, and nothing else changed.
pub record IsAskedUpTo (asks : Asks) (first number : ℕ) (old f : Body) : Type 0 where
  pub alike : AreAlikeButForRegions old f
  pub chain : FoldsTo (MayAnswer asks) old.tables.alias_regions (accesses f first (number - first)) f.tables.alias_regions

-- as many instructions are there as before
same_count : (f g : Body) → AreAlikeButForRegions f g → length f.insts ≡ length g.insts
same_count f g alike = sym (all f.insts) ∙ ap (λ (h : Body). length h.insts) alike ∙ all g.insts
  where
    all : (nodes : List InstNode) → length (map plain_node nodes) ≡ length nodes
    all [] = refl
    all (node ∷ nodes) = ap suc (all nodes)

pub none_asked : (asks : Asks) (first : ℕ) (f : Body) → IsAskedUpTo asks first first f f
none_asked asks first f = record { alike = refl; chain = subst (λ (n : ℕ). FoldsTo (MayAnswer asks) f.tables.alias_regions (accesses f first n) f.tables.alias_regions) none refl }
  where
    none : 0 ≡ first - first
    none = omega arith

-- the number is one more behind an instruction
longer : (f : Body) (first number : ℕ) → first ≤ number → accesses f first (number + 1 - first) ≡ accesses f first (number - first) ++ cons_option (access_at f number) []
longer f first number from =
    let one_more : number + 1 - first ≡ suc (number - first) = omega (arith, from) in
    let here : first + (number - first) ≡ number = omega (arith, from) in
    ap (accesses f first) one_more ∙ accesses_more f first (number - first)
    ∙ ap (λ (n : ℕ). accesses f first (number - first) ++ cons_option (access_at f n) []) here

-- an instruction that isn't asked for
not_asked : (asks : Asks) (first number : ℕ) (old f : Body) → first ≤ number → touched_by f number ≡ None → IsAskedUpTo asks first number old f → IsAskedUpTo asks first (number + 1) old f
not_asked asks first number old f from none so_far = record {
  alike = so_far.alike;
  chain = subst (λ (list : List Access). FoldsTo (MayAnswer asks) old.tables.alias_regions list f.tables.alias_regions) (sym (longer f first number from ∙ nothing))
      (chain_on (MayAnswer asks) old.tables.alias_regions (accesses f first (number - first)) f.tables.alias_regions [] f.tables.alias_regions so_far.chain refl);
}
  where
    nothing : accesses f first (number - first) ++ cons_option (access_at f number) [] ≡ accesses f first (number - first) ++ []
    nothing = ap (λ (place : Option («Type» × ℕ)). accesses f first (number - first) ++ cons_option (option_map (access_of (region_of_shape (inst_at f number).shape)) place) []) none

-- one that is
one_asked : (asks : Asks) (first number : ℕ) (old f g : Body) (ty : «Type») (slot : ℕ) → first ≤ number → number < length f.insts → touched_by f number ≡ Some (ty, slot)
    → IsAskedUpTo asks first number old f → IsAsked asks number ty slot f g → IsAskedUpTo asks first (number + 1) old g
one_asked asks first number old f g ty slot from inside there so_far asked = record {
  alike = so_far.alike ∙ asked_alike asks number ty slot f g asked;
  chain = subst (λ (list : List Access). FoldsTo (MayAnswer asks) old.tables.alias_regions list g.tables.alias_regions) (sym list_is)
      (chain_on (MayAnswer asks) old.tables.alias_regions (accesses f first (number - first)) f.tables.alias_regions (access ∷ []) g.tables.alias_regions so_far.chain
      (g.tables.alias_regions, step, refl));
}
  where
    access : Access
    access = record { ty = ty; slot = slot; region = asked.region }

    set_is : asked.set ≡ g.tables.alias_regions
    set_is = sym (ap (λ (h : Body). h.tables.alias_regions) asked.named)

    step : MayAnswer asks f.tables.alias_regions access g.tables.alias_regions
    step = subst (λ (set : AliasRegionTable). MayAnswer asks f.tables.alias_regions access set) set_is asked.answered

    list_is : accesses g first (number + 1 - first) ≡ accesses f first (number - first) ++ access ∷ []
    list_is =
        longer g first number from
        ∙ ap (λ (found : Option Access). accesses g first (number - first) ++ cons_option found []) (access_named f g asked.set number asked.region ty slot inside asked.named there)
        ∙ ap (λ (list : List Access). list ++ access ∷ [])
        (accesses_before f g asked.set number asked.region asked.named first (number - first) (omega (arith, from)))

-- one that is or isn't
pub goes_on : (asks : Asks) (first number inst : ℕ) (old f g : Body) → inst ≡ number → first ≤ number → number < length f.insts → IsAskedUpTo asks first number old f
    → IsAskedIf asks (touched_by f inst) inst f g → IsAskedUpTo asks first (number + 1) old g
goes_on asks first number inst old f g is from inside so_far asked = by (touched_by f number) refl (subst (λ (k : ℕ). IsAskedIf asks (touched_by f k) k f g) is asked)
  where
    by : (place : Option («Type» × ℕ)) → touched_by f number ≡ place → IsAskedIf asks place number f g → IsAskedUpTo asks first (number + 1) old g
    by None none same = subst (IsAskedUpTo asks first (number + 1) old) (sym same) (not_asked asks first number old f from none so_far)
    by (Some place) there one = one_asked asks first number old f g place.0 place.1 from inside there so_far one

-- all were asked for
pub all_asked : (asks : Asks) (first number : ℕ) (old f : Body) → number - first ≡ length old.insts - first → IsAskedUpTo asks first number old f → AreAnswered asks first old f
all_asked asks first number old f end so_far =
    subst (λ (n : ℕ). FoldsTo (MayAnswer asks) old.tables.alias_regions (accesses f first n) f.tables.alias_regions) (end ∙ ap (λ (n : ℕ). n - first) (same_count old f so_far.alike)) so_far.chain

-- there are as many instructions as at first
pub still_inside : (asks : Asks) (first number : ℕ) (old f : Body) → number < length old.insts → IsAskedUpTo asks first number old f → number < length f.insts
still_inside asks first number old f inside so_far = let same = same_count old f so_far.alike in omega (arith, inside, same)

-- a walk from a number up to a count ends there, or doesn't begin
pub ended : (first number count : ℕ) → (number ≡ first) ⊎ (number ≤ count) → count ≤ number → number - first ≡ count - first
ended first number count (inl none) end = omega (arith, none, end)
ended first number count (inr inside) end = omega (arith, inside, end)
