-- Calls of functions of the C library: they run by their signatures where what they claim is true, and answer values of the
-- types that they give.
use Rattle.std.proofs.Common.{◌≡◌, ◌&&◌, ◌++◌, ◌^◌, ◌<◌, ℕ, zero, suc, Bool, true, false, if◌then◌else◌, List, [], ◌∷◌, map, refl, ◌∙◌, ap, arith}
use Rattle.std.specs.Prelude.{IsTrue}
use Rattle.std.specs.List.{AllByRecursion}
use Rattle.std.specs.declared.cmp.Ordering.{Ordering}
use Rattle.std.specs.declared.cmp.Ordering.TheVariants.{Less, Equal, Greater}
use Rattle.std.proofs.Math.Nat.{mod-lt}
use Rattle.std.proofs.lemmas.Bool.{and_parts}
use Rattle.clif_tables.specs.Callees.{types_of}
use Rattle.clif_types.specs.Signature.{SignatureShape}
use Rattle.clif_types.specs.declared.extname.ExternalName.TheVariants as name
use Rattle.clif_types.specs.declared.libcall.LibCall.{LibCall}
use Rattle.clif_types.specs.declared.libcall.LibCall.TheVariants.{Memcpy, Memmove, Memset, Memcmp}
use Rattle.clif_types.specs.declared.types.LaneType.TheVariants as lane
use Rattle.clif_types.specs.declared.types.«Type».{«Type»}
use Rattle.clif_types.specs.declared.types.«Type».TheVariants as type
use Rattle.clif_meaning.specs.Access.{Accessible, Claim, Holds, call_claims}
use Rattle.clif_meaning.specs.Bits.{Bits, AreValues, IsValue}
use Rattle.clif_meaning.specs.Library.{are_apart, bytes_at, has_library_types, library_answer, library_apart, library_memory, library_parameters, library_ranges, library_returns, pointer_of}
use Rattle.clif_meaning.specs.Memory.{Memory, Range, address_in, byte_order, bytes_in, lies_in}
use Rattle.clif_meaning.specs.Outcome.{Outcome, NoStep, are_accessible, library_outcome, library_runs, ranges_accessible}
use Rattle.clif_meaning.specs.Premises.{HasLibrarySignature}
use Rattle.clif_meaning.specs.SameType.{same_types}
use Rattle.clif_meaning.specs.World.{World, HasSignOf}
use Rattle.clif_meaning.proofs.Ranges.{lies_there}
use Rattle.clif_meaning.proofs.SameTypes.{types_are, same_types_refl}
use Rattle.clif_meaning.proofs.SampleWorld.{pow_pos}

-- THREE ARGUMENTS -------------------------------------------------------------------------------------------------------

three : (P : List Bits → Type 0) (t u v : «Type») (operands : List Bits) → AreValues (t ∷ u ∷ v ∷ []) operands
    → ((first second size : Bits) → IsValue t first → P (first ∷ second ∷ size ∷ [])) → P operands
three P t u v [] are it = absurd are
three P t u v (x ∷ []) are it = absurd are.1
three P t u v (x ∷ y ∷ []) are it = absurd are.1.1
three P t u v (x ∷ y ∷ z ∷ w ∷ operands) are it = absurd are.1.1.1
three P t u v (x ∷ y ∷ z ∷ []) are it = it x y z are.0

-- each function takes three arguments, the first a pointer
pub three_arguments : (P : List Bits → Type 0) (pointer : «Type») (callee : LibCall) (operands : List Bits) → AreValues (library_parameters pointer callee) operands
    → ((first second size : Bits) → IsValue pointer first → P (first ∷ second ∷ size ∷ [])) → P operands
three_arguments P pointer Memcpy operands are it = three P pointer pointer pointer operands are it
three_arguments P pointer Memmove operands are it = three P pointer pointer pointer operands are it
three_arguments P pointer Memset operands are it = three P pointer (type.Lane lane.I32) pointer operands are it
three_arguments P pointer Memcmp operands are it = three P pointer pointer pointer operands are it

pub first_fits : (pointer : «Type») (callee : LibCall) (first : Bits) (others : List Bits) → AreValues (library_parameters pointer callee) (first ∷ others)
    → IsValue pointer first
first_fits pointer Memcpy first others fit = fit.0
first_fits pointer Memmove first others fit = fit.0
first_fits pointer Memset first others fit = fit.0
first_fits pointer Memcmp first others fit = fit.0

-- WHAT IS ANSWERED --------------------------------------------------------------------------------------------------------

-- a number with the sign of an order has 32 bits
pub sign_fits : (order : Ordering) (bits : Bits) → HasSignOf order bits → bits < 2 ^ 32
sign_fits Less bits signed = signed.1
sign_fits Equal bits signed = let is : bits ≡ 0 = signed in omega (arith, is)
sign_fits Greater bits signed = let little = signed.1 in omega (arith, little)

pub answer_fits : (world : World) (pointer : «Type») (callee : LibCall) (first second size : Bits) (memory : Memory) → IsValue pointer first
    → AreValues (library_returns pointer callee) (library_answer world callee first second size memory ∷ [])
answer_fits world pointer Memcpy first second size memory fits = (fits, tt)
answer_fits world pointer Memmove first second size memory fits = (fits, tt)
answer_fits world pointer Memset first second size memory fits = (fits, tt)
answer_fits world pointer Memcmp first second size memory fits =
    let left : List ℕ = bytes_in memory (bytes_at world.pointer_width first size) in
    let right : List ℕ = bytes_in memory (bytes_at world.pointer_width second size) in
    (sign_fits (byte_order left right) (world.memcmp_number left right) (world.memcmp_sign left right), tt)

-- WHAT RUNS -----------------------------------------------------------------------------------------------------------------

-- the signature of a call that runs is the function's
pub record RunsAs (world : World) (callee : LibCall) (signature : SignatureShape) : Type 0 where
  pub parameters : types_of signature.params ≡ library_parameters (pointer_of world.pointer_width) callee
  pub returns : types_of signature.returns ≡ library_returns (pointer_of world.pointer_width) callee

pub runs_as : (world : World) (callee : LibCall) (signature : SignatureShape) (first second size : Bits)
    → library_runs world callee signature first second size ≡ true → RunsAs world callee signature
runs_as world callee signature first second size runs =
    let pointer : «Type» = pointer_of world.pointer_width in
    let may_touch : Bool = ranges_accessible world (library_ranges world.pointer_width callee first second size) in
    let apart : Bool = library_apart world.pointer_width callee first second size in
    let named = and_parts (has_library_types pointer callee signature) may_touch
    (and_parts (has_library_types pointer callee signature && may_touch) apart runs).0 in
    let types = and_parts (same_types (types_of signature.params) (library_parameters pointer callee))
    (same_types (types_of signature.returns) (library_returns pointer callee)) named.0 in
    record { parameters = types_are _ _ types.0; returns = types_are _ _ types.1 }

-- What holds of a call that has no step, and of each that runs, holds of every one.
pub library_cases : (P : List Bits → Outcome → Type 0) (world : World) (goes_on : List Bits → Memory → Outcome) (callee : LibCall) (signature : SignatureShape)
    (operands : List Bits) (memory : Memory) → ((xs : List Bits) → P xs NoStep)
    → ((first second size : Bits) → library_runs world callee signature first second size ≡ true
    → P (first ∷ second ∷ size ∷ [])
    (goes_on (library_answer world callee first second size memory ∷ []) (library_memory world.pointer_width callee first second size memory)))
    → P operands (library_outcome world goes_on callee signature operands memory)
library_cases P world goes_on callee signature [] memory none runs = none []
library_cases P world goes_on callee signature (x ∷ []) memory none runs = none (x ∷ [])
library_cases P world goes_on callee signature (x ∷ y ∷ []) memory none runs = none (x ∷ y ∷ [])
library_cases P world goes_on callee signature (x ∷ y ∷ z ∷ w ∷ operands) memory none runs = none (x ∷ y ∷ z ∷ w ∷ operands)
library_cases P world goes_on callee signature (x ∷ y ∷ z ∷ []) memory none runs = by (library_runs world callee signature x y z) (runs x y z)
  where
    by : (b : Bool)
        → (b ≡ true → P (x ∷ y ∷ z ∷ []) (goes_on (library_answer world callee x y z memory ∷ []) (library_memory world.pointer_width callee x y z memory)))
        → P (x ∷ y ∷ z ∷ []) (if b then goes_on (library_answer world callee x y z memory ∷ []) (library_memory world.pointer_width callee x y z memory) else NoStep)
    by true it = it refl
    by false it = none (x ∷ y ∷ z ∷ [])

-- bytes of which each may be touched are accessible
pub each_accessible : (world : World) (range : Range) (count : ℕ) → ((k : ℕ) → k < count → IsTrue (world.is_accessible (address_in range k)))
    → are_accessible world range count ≡ true
each_accessible world range zero each = refl
each_accessible world range (suc count) each =
    ap (λ (b : Bool). b && are_accessible world range count) (each count (omega arith))
    ∙ each_accessible world range count (λ k below. each k (omega (arith, below)))

pub claimed_accessible : (world : World) (ranges : List Range) (claims : List Claim) → AllByRecursion (Holds world) (map Accessible ranges ++ claims)
    → ranges_accessible world ranges ≡ true
claimed_accessible world [] claims hold = refl
claimed_accessible world (range ∷ ranges) claims hold =
    rw (each_accessible world range range.size hold.0, claimed_accessible world ranges claims hold.1) refl

-- no byte of ranges that are apart is in both
apart_to : (left right : Range) (count : ℕ) → ((k : ℕ) → k < count → lies_in right (address_in left k) ≡ false) → are_apart left right count ≡ true
apart_to left right zero each = refl
apart_to left right (suc count) each =
    rw (each count (omega arith), apart_to left right count (λ k below. each k (omega (arith, below)))) refl

not_second : (a b : Bool) → a ≡ true → (a && b) ≡ false → b ≡ false
not_second true b is none = none
not_second false b is none = let no_way : ⊥ = cc in absurd no_way

pub claimed_apart : (left right : Range) → left.start < 2 ^ left.width → ((address : ℕ) → (lies_in left address && lies_in right address) ≡ false)
    → are_apart left right left.size ≡ true
claimed_apart left right starts apart = apart_to left right left.size (λ k below.
    not_second (lies_in left (address_in left k)) (lies_in right (address_in left k)) (lies_there left k starts below) (apart (address_in left k)))

claimed_library_apart : (world : World) (callee : LibCall) (first second size : Bits) → AllByRecursion (Holds world) (call_claims world (name.LibCall callee) (first ∷ second ∷ size ∷ []))
    → library_apart world.pointer_width callee first second size ≡ true
claimed_library_apart world Memcpy first second size claims =
    claimed_apart (bytes_at world.pointer_width first size) (bytes_at world.pointer_width second size) (mod-lt first (pow_pos world.pointer_width)) claims.1.1.0
claimed_library_apart world Memmove first second size claims = refl
claimed_library_apart world Memset first second size claims = refl
claimed_library_apart world Memcmp first second size claims = refl

-- what is called by its signature, and claims what is true, runs
pub claimed_runs : (world : World) (callee : LibCall) (signature : SignatureShape) (first second size : Bits)
    → HasLibrarySignature (pointer_of world.pointer_width) (record { callee = callee; signature = signature })
    → AllByRecursion (Holds world) (call_claims world (name.LibCall callee) (first ∷ second ∷ size ∷ []))
    → library_runs world callee signature first second size ≡ true
claimed_runs world callee signature first second size has claims =
    let pointer : «Type» = pointer_of world.pointer_width in
    let parameters : same_types (types_of signature.params) (library_parameters pointer callee) ≡ true =
    ap (λ (types : List «Type»). same_types types (library_parameters pointer callee)) has.parameters ∙ same_types_refl (library_parameters pointer callee) in
    let returns : same_types (types_of signature.returns) (library_returns pointer callee) ≡ true =
    ap (λ (types : List «Type»). same_types types (library_returns pointer callee)) has.returns ∙ same_types_refl (library_returns pointer callee) in
    let accessible = claimed_accessible world (library_ranges world.pointer_width callee first second size) _ claims in
    rw (parameters, returns, accessible, claimed_library_apart world callee first second size claims) refl
