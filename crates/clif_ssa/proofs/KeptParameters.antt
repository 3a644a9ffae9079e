-- What calls keep of parameters: what a value is, and that new parameters are on record for their variables.
use Rattle.std.proofs.Common.{◌≡◌, ℕ, ◌==◌, ◌&&◌, Bool, true, false, List, [], ◌∷◌, refl, ap, sym, ◌∙◌, subst, ◌⊎◌, inl, inr, length, ◌≤◌, arith}
use Rattle.std.specs.Prelude.{Option, Some, if◌then◌else◌}
use Rattle.std.proofs.lemmas.Bool.{cases_eq, eqb-true}
use Rattle.clif_paths.specs.State.{Kind, Definition, unborn, born, pending, complete, zero_of}
use Rattle.clif_paths.specs.Steps.{updated}
use Rattle.clif_paths.specs.Places.{Edges}
use Rattle.clif_paths.specs.Blocks.{Blocks, front}
use Rattle.clif_paths.proofs.Tables.{updated-same, updated-other}
use Rattle.clif_instructions.specs.Members.{stands_in}
use Rattle.clif_ir.specs.Body.{Body}
use Rattle.clif_records.specs.declared.tables.Pending.{Pending}
use Rattle.clif_ssa.specs.Own.{Own}
use Rattle.clif_ssa.specs.Ssa.{SsaState, record_of, Records, RecordsStay, SameRecords}
use Rattle.clif_ssa.specs.LookUp.{Copies}
use Rattle.clif_ssa.specs.Sound.{Describes, KindStays, IsParameterFor, KeepsParameters}
use Rattle.clif_ssa.specs.SoundLaws.{with_entry, with_zeroed, with_seal}

-- KINDS -----------------------------------------------------------------------------------------------------------

abbrev IsFor : Kind → ℕ → Type 0
IsFor kind x = (kind ≡ pending x) ⊎ (kind ≡ complete x)

kind_stays : (a : Kind) → KindStays a a
kind_stays unborn = tt
kind_stays (born n) = refl
kind_stays (pending x) = inl refl
kind_stays (complete x) = refl
kind_stays (zero_of x) = refl

kind_stays_then : (a b c : Kind) → KindStays a b → KindStays b c → KindStays a c
kind_stays_then unborn b c first second = tt
kind_stays_then (born n) b c first second = subst (λ k. KindStays k c) first second
kind_stays_then (pending x) b c (inl same) second = subst (λ k. KindStays k c) same second
kind_stays_then (pending x) b c (inr done) second = inr (subst (λ k. KindStays k c) done second)
kind_stays_then (complete x) b c first second = subst (λ k. KindStays k c) first second
kind_stays_then (zero_of x) b c first second = subst (λ k. KindStays k c) first second

off_pending : {x y : ℕ} → ◌≡◌ {A = Kind} (complete x) (pending y) → ⊥
off_pending same = cc

off_complete : {x : ℕ} → ◌≡◌ {A = Kind} (complete x) unborn → ⊥
off_complete same = cc

same_complete : {x y : ℕ} → ◌≡◌ {A = Kind} (complete x) (complete y) → x ≡ y
same_complete same = cc

same_is : (b c : Kind) (x : ℕ) → c ≡ b → IsFor c x → IsFor b x
same_is b c x same is = subst (λ k. IsFor k x) same is

-- a parameter was not there before, or was one of its variable
was_parameter : (b c : Kind) (x : ℕ) → KindStays b c → IsFor c x → (b ≡ unborn) ⊎ IsFor b x
was_parameter unborn c x stays is = inl refl
was_parameter (born n) c x stays is = inr (same_is (born n) c x stays is)
was_parameter (pending y) c x (inl same) is = inr (same_is (pending y) c x same is)
was_parameter (pending y) c x (inr done) (inl waits) = absurd (off_pending (sym done ∙ waits))
was_parameter (pending y) c x (inr done) (inr is) = inr (inl (ap pending (same_complete (sym done ∙ is))))
was_parameter (complete y) c x stays is = inr (same_is (complete y) c x stays is)
was_parameter (zero_of y) c x stays is = inr (same_is (zero_of y) c x stays is)

stays_parameter : (b c : Kind) (x : ℕ) → KindStays b c → IsFor b x → IsFor c x
stays_parameter b c x stays (inl waits) = subst (λ k. KindStays k c) waits stays
stays_parameter b c x stays (inr done) = inr (subst (λ k. KindStays k c) done stays)

was_unborn : (a b : Kind) → KindStays a b → b ≡ unborn → a ≡ unborn
was_unborn unborn b stays is = refl
was_unborn (born n) b stays is = sym stays ∙ is
was_unborn (pending x) b (inl same) is = sym same ∙ is
was_unborn (pending x) b (inr done) is = absurd (off_complete (sym done ∙ is))
was_unborn (complete x) b stays is = sym stays ∙ is
was_unborn (zero_of x) b stays is = sym stays ∙ is

unborn_is_none : (a : Kind) (x : ℕ) → a ≡ unborn → IsFor a x → ⊥
unborn_is_none a x none (inl is) = absurd (clash (sym none ∙ is))
  where
    clash : {y : ℕ} → ◌≡◌ {A = Kind} unborn (pending y) → ⊥
    clash same = cc
unborn_is_none a x none (inr is) = absurd (off_complete (sym is ∙ none))

-- the tables have the records of the state
abbrev pub HasRecords : Blocks → SsaState → Type 0
HasRecords blocks s = (b x : ℕ) → blocks.recorded b x ≡ record_of s x b

-- STEPS IN TURN ---------------------------------------------------------------------------------------------------

-- the middle tables have the records of the middle state, and these stay
pub parameters_then : (first_tables between last_tables : Blocks) (s t : SsaState) → HasRecords between s → RecordsStay s t
    → KeepsParameters first_tables between s → KeepsParameters between last_tables t → KeepsParameters first_tables last_tables t
parameters_then a b c s t recorded stay first second = record {
  kinds = λ v. kind_stays_then (kind_in a v) (kind_in b v) (kind_in c v) (first.kinds v) (second.kinds v);
  on_record = λ v x new is.
      elim (was_parameter (kind_in b v) (kind_in c v) x (second.kinds v) is) [
        | inl newer ↦ second.on_record v x newer is
        | inr there ↦ let on : (d : ℕ) × (record_of s x d ≡ Some v) = first.on_record v x new there in (on.0, stay x on.0 v on.1)
      ];
  for_variable = λ v x d is.
      elim (second.for_variable v x d is) [
        | inl old ↦
            elim (first.for_variable v x old.0 (sym (recorded old.0 x) ∙ old.1)) [
              | inl older ↦ inl older
              | inr new ↦ inr (new.0, stays_parameter (kind_in b v) (kind_in c v) x (second.kinds v) new.1)
            ]
        | inr new ↦ inr (was_unborn (kind_in a v) (kind_in b v) (first.kinds v) new.0, new.1)
      ];
}
  where
    kind_in : Blocks → ℕ → Kind
    kind_in blocks v = (blocks.function.definition v).kind

-- NO NEW PARAMETER ------------------------------------------------------------------------------------------------

-- what is on record was so before
abbrev pub NoneNewOnRecord : Blocks → SsaState → Type 0
NoneNewOnRecord blocks t = (v x b : ℕ) → record_of t x b ≡ Some v → (c : ℕ) × (blocks.recorded c x ≡ Some v)

pub records_same : (blocks : Blocks) (s t : SsaState) → HasRecords blocks s → SameRecords s t → NoneNewOnRecord blocks t
records_same blocks s t recorded same v x b is = (b, recorded b x ∙ sym (same x b) ∙ is)

none_new : (blocks tables : Blocks) (t : SsaState) → NoneNewOnRecord blocks t
    → ((v : ℕ) → KindStays (blocks.function.definition v).kind (tables.function.definition v).kind)
    → ((v x : ℕ) → (blocks.function.definition v).kind ≡ unborn → IsParameterFor tables v x → ⊥) → KeepsParameters blocks tables t
none_new blocks tables t old kinds none = record {
  kinds = kinds;
  on_record = λ v x new is. absurd (none v x new is);
  for_variable = λ v x b is. inl (old v x b is);
}

-- the definitions are the same
pub same_parameters : (blocks tables : Blocks) (t : SsaState) → NoneNewOnRecord blocks t
    → ((v : ℕ) → tables.function.definition v ≡ blocks.function.definition v) → KeepsParameters blocks tables t
same_parameters blocks tables t old same =
    none_new blocks tables t old
    (λ v. subst (λ (d : Definition). KindStays (blocks.function.definition v).kind d.kind) (sym (same v)) (kind_stays (blocks.function.definition v).kind))
    (λ v x none is. unborn_is_none (tables.function.definition v).kind x (ap (λ (d : Definition). d.kind) (same v) ∙ none) is)

-- ONE DEFINITION --------------------------------------------------------------------------------------------------

kinds_updated : (old : ℕ → Definition) (z : ℕ) (d : Definition) → KindStays (old z).kind d.kind → (v : ℕ) → KindStays (old v).kind (updated old z d v).kind
kinds_updated old z d stays v =
    elim (cases_eq v z) [
      | inl same ↦
          subst (λ (e : Definition). KindStays (old v).kind e.kind) (sym (updated-same old z d v same))
          (subst (λ u. KindStays (old u).kind d.kind) (sym same) stays)
      | inr other ↦ subst (λ (e : Definition). KindStays (old v).kind e.kind) (sym (updated-other old z d v other)) (kind_stays (old v).kind)
    ]

-- what is a parameter behind one change, and was none before, is the changed one
new_is : (old : ℕ → Definition) (z : ℕ) (d : Definition) (v x : ℕ) → (old v).kind ≡ unborn → IsFor (updated old z d v).kind x → (v ≡ z) × IsFor d.kind x
new_is old z d v x new is =
    elim (cases_eq v z) [
      | inl same ↦ (same, subst (λ (e : Definition). IsFor e.kind x) (updated-same old z d v same) is)
      | inr other ↦ absurd (unborn_is_none (old v).kind x new (subst (λ (e : Definition). IsFor e.kind x) (updated-other old z d v other) is))
    ]

-- a parameter that waits is filled
pub filled_parameters : (blocks tables : Blocks) (t : SsaState) (x z : ℕ) → NoneNewOnRecord blocks t → (blocks.function.definition z).kind ≡ pending x
    → ((v : ℕ) → tables.function.definition v ≡
    updated blocks.function.definition z (record { home = (blocks.function.definition z).home; kind = complete x }) v)
    → KeepsParameters blocks tables t
filled_parameters blocks tables t x z old waits is =
    let d : Definition = record { home = (blocks.function.definition z).home; kind = complete x } in
    none_new blocks tables t old
    (λ v.
    subst (λ (e : Definition). KindStays (blocks.function.definition v).kind e.kind) (sym (is v))
    (kinds_updated blocks.function.definition z d (subst (λ k. KindStays k (complete x)) (sym waits) (inr refl)) v))
    (λ v y new param.
    let at : (v ≡ z) × IsFor d.kind y = new_is blocks.function.definition z d v y new (subst (λ (e : Definition). IsFor e.kind y) (is v) param) in
    clash (sym waits ∙ ap (λ u. (blocks.function.definition u).kind) (sym at.0) ∙ new))
  where
    clash : {y : ℕ} → ◌≡◌ {A = Kind} (pending y) unborn → ⊥
    clash same = cc

-- a zero is made
pub zero_parameters : (blocks tables : Blocks) (t : SsaState) (x z block : ℕ) → NoneNewOnRecord blocks t → (blocks.function.definition z).kind ≡ unborn
    → ((v : ℕ) → tables.function.definition v ≡ updated blocks.function.definition z (record { home = front block; kind = zero_of x }) v)
    → KeepsParameters blocks tables t
zero_parameters blocks tables t x z block old new is =
    let d : Definition = record { home = front block; kind = zero_of x } in
    none_new blocks tables t old
    (λ v.
    subst (λ (e : Definition). KindStays (blocks.function.definition v).kind e.kind) (sym (is v))
    (kinds_updated blocks.function.definition z d (subst (λ k. KindStays k (zero_of x)) (sym new) tt) v))
    (λ v y none param.
    let at : (v ≡ z) × IsFor d.kind y = new_is blocks.function.definition z d v y none (subst (λ (e : Definition). IsFor e.kind y) (is v) param) in
    clash y at.1)
  where
    waits : {y : ℕ} → ◌≡◌ {A = Kind} (zero_of x) (pending y) → ⊥
    waits same = cc

    done : {y : ℕ} → ◌≡◌ {A = Kind} (zero_of x) (complete y) → ⊥
    done same = cc

    clash : (y : ℕ) → IsFor (zero_of x) y → ⊥
    clash y (inl same) = waits same
    clash y (inr same) = done same

-- a parameter is added, and recorded for its variable and nowhere else
pub added_parameters : (blocks tables : Blocks) (t : SsaState) (x z block : ℕ) → (blocks.function.definition z).kind ≡ unborn
    → ((v : ℕ) → tables.function.definition v ≡ updated blocks.function.definition z (record { home = front block; kind = pending x }) v)
    → record_of t x block ≡ Some z
    → ((v y b : ℕ) → record_of t y b ≡ Some v → ((y ≡ x) × (v ≡ z)) ⊎ (blocks.recorded b y ≡ Some v))
    → KeepsParameters blocks tables t
added_parameters blocks tables t x z block new is recorded others =
    let d : Definition = record { home = front block; kind = pending x } in
    let defined : (v : ℕ) → v ≡ z → (tables.function.definition v).kind ≡ pending x =
    λ v same. ap (λ (e : Definition). e.kind) (is v ∙ updated-same blocks.function.definition z d v same) in
    record {
      kinds = λ v.
          subst (λ (e : Definition). KindStays (blocks.function.definition v).kind e.kind) (sym (is v))
          (kinds_updated blocks.function.definition z d (subst (λ k. KindStays k (pending x)) (sym new) tt) v);
      on_record = λ v y none param.
          let at : (v ≡ z) × IsFor d.kind y = new_is blocks.function.definition z d v y none (subst (λ (e : Definition). IsFor e.kind y) (is v) param) in
          (block, ap (λ u. record_of t u block) (sym (same_variable y at.1)) ∙ recorded ∙ ap Some (sym at.0));
      for_variable = λ v y b here.
          elim (others v y b here) [
            | inl at ↦ inr (ap (λ u. (blocks.function.definition u).kind) at.1 ∙ new, inl (defined v at.1 ∙ ap pending (sym at.0)))
            | inr old ↦ inl (b, old)
          ];
    }
  where
    same_pending : {y : ℕ} → ◌≡◌ {A = Kind} (pending x) (pending y) → x ≡ y
    same_pending same = cc

    clash : {y : ℕ} → ◌≡◌ {A = Kind} (pending x) (complete y) → ⊥
    clash same = cc

    same_variable : (y : ℕ) → IsFor (pending x) y → x ≡ y
    same_variable y (inl same) = same_pending same
    same_variable y (inr off) = absurd (clash off)

-- RECORDS ---------------------------------------------------------------------------------------------------------

same_some : {x y : ℕ} → ◌≡◌ {A = Option ℕ} (Some x) (Some y) → x ≡ y
same_some same = cc

-- what is on record behind a record, or copies of one, is that value or was on record
one_or_old : (x y z v : ℕ) (old : Option ℕ) (of here : Bool) → (of ≡ true → y ≡ x) → (if of && here then Some z else old) ≡ Some v
    → ((y ≡ x) × (v ≡ z)) ⊎ (old ≡ Some v)
one_or_old x y z v old true true at is = inl (at refl, sym (same_some is))
one_or_old x y z v old true false at is = inr is
one_or_old x y z v old false here at is = inr is

pub copies_or_old : (s t : SsaState) (x z : ℕ) (among : List ℕ) → Copies s t x z among → (v y b : ℕ) → record_of t y b ≡ Some v
    → ((y ≡ x) × (v ≡ z)) ⊎ (record_of s y b ≡ Some v)
copies_or_old s t x z among copies v y b is = one_or_old x y z v (record_of s y b) (y == x) (stands_in b among) (eqb-true y x) (sym (copies y b) ∙ is)

pub record_or_old : (s t : SsaState) (x block z : ℕ) → Records s t x block z → (v y b : ℕ) → record_of t y b ≡ Some v
    → ((y ≡ x) × (v ≡ z)) ⊎ (record_of s y b ≡ Some v)
record_or_old s t x block z records v y b is = one_or_old x y z v (record_of s y b) (y == x) (b == block) (eqb-true y x) (sym (records y b) ∙ is)

-- where the tables have the records of the state
pub in_tables : (blocks : Blocks) (s : SsaState) (x z v y b : ℕ) → HasRecords blocks s
    → ((y ≡ x) × (v ≡ z)) ⊎ (record_of s y b ≡ Some v) → ((y ≡ x) × (v ≡ z)) ⊎ (blocks.recorded b y ≡ Some v)
in_tables blocks s x z v y b recorded (inl at) = inl at
in_tables blocks s x z v y b recorded (inr old) = inr (recorded b y ∙ old)

-- a record is copied
pub copied_none_new : (blocks : Blocks) (s t : SsaState) (x z reached : ℕ) (among : List ℕ) → HasRecords blocks s
    → record_of s x reached ≡ Some z → Copies s t x z among → NoneNewOnRecord blocks t
copied_none_new blocks s t x z reached among recorded there copies v y b is =
    elim (copies_or_old s t x z among copies v y b is) [
      | inl at ↦ (reached, recorded reached y ∙ ap (λ u. record_of s u reached) at.0 ∙ there ∙ ap Some (sym at.1))
      | inr old ↦ (b, recorded b y ∙ old)
    ]

-- THE TABLES' CHANGES ---------------------------------------------------------------------------------------------

entered_definition : (layout : List ℕ) (s : SsaState) (b : ℕ) (blocks : Blocks) (v : ℕ)
    → (with_entry layout s b blocks).function.definition v ≡ blocks.function.definition v
entered_definition [] s b blocks v = refl
entered_definition (c ∷ layout) s b blocks v = refl

sealed_definition : (layout : List ℕ) (was : Bool) (b : ℕ) (into : Edges) (blocks : Blocks) (v : ℕ)
    → (with_seal layout was b into blocks).function.definition v ≡ blocks.function.definition v
sealed_definition [] was b into blocks v = refl
sealed_definition (c ∷ layout) true b into blocks v = refl
sealed_definition (c ∷ layout) false b into blocks v = refl

-- nothing is constructed
pub itself_parameters : (blocks : Blocks) (s t : SsaState) → HasRecords blocks s → SameRecords s t → KeepsParameters blocks blocks t
itself_parameters blocks s t recorded same = same_parameters blocks blocks t (records_same blocks s t recorded same) (λ v. refl)

pub entry_parameters : (layout : List ℕ) (s : SsaState) (b : ℕ) (blocks : Blocks) → HasRecords blocks s
    → KeepsParameters blocks (with_entry layout s b blocks) s
entry_parameters layout s b blocks recorded =
    same_parameters blocks (with_entry layout s b blocks) s (records_same blocks s s recorded (λ v d. refl)) (entered_definition layout s b blocks)

pub seal_parameters : (layout : List ℕ) (was : Bool) (b : ℕ) (into : Edges) (blocks : Blocks) (s t : SsaState) → HasRecords blocks s → SameRecords s t
    → KeepsParameters blocks (with_seal layout was b into blocks) t
seal_parameters layout was b into blocks s t recorded same =
    same_parameters blocks (with_seal layout was b into blocks) t (records_same blocks s t recorded same) (sealed_definition layout was b into blocks)

-- a parameter becomes a name of a new zero
pub zeroed_parameters : (layout : List ℕ) (s : SsaState) (b x v z : ℕ) (blocks : Blocks) → HasRecords blocks s
    → (blocks.function.definition z).kind ≡ unborn → KeepsParameters blocks (with_zeroed layout s b x v z blocks) s
zeroed_parameters layout s b x v z blocks recorded new =
    zero_parameters blocks (with_zeroed layout s b x v z blocks) s x z b (records_same blocks s s recorded (λ y d. refl)) new
    (λ u. zeroed_same u (entered_definition layout s b blocks u))
  where
    d : Definition
    d = record { home = front b; kind = zero_of x }

    zeroed_same : (u : ℕ) → (with_entry layout s b blocks).function.definition u ≡ blocks.function.definition u
        → updated (with_entry layout s b blocks).function.definition z d u ≡ updated blocks.function.definition z d u
    zeroed_same u same =
        elim (cases_eq u z) [
          | inl at ↦ updated-same (with_entry layout s b blocks).function.definition z d u at ∙ sym (updated-same blocks.function.definition z d u at)
          | inr other ↦
              updated-other (with_entry layout s b blocks).function.definition z d u other ∙ same
              ∙ sym (updated-other blocks.function.definition z d u other)
        ]

-- WHAT A CALL GIVES -----------------------------------------------------------------------------------------------

-- a value that the function didn't have is on record only for the variable for which it was made as a parameter
pub new_for_variable : (own : Own) (f : Body) (s t : SsaState) (ps : List Pending) (blocks tables : Blocks) (v x b : ℕ) → Describes own f s ps blocks
    → KeepsParameters blocks tables t → length f.values ≤ v → record_of t x b ≡ Some v → IsParameterFor tables v x
new_for_variable own f s t ps blocks tables v x b before kept new is =
    elim (kept.for_variable v x b is) [
      | inl old ↦ absurd (omega (arith, new, before.records_exist old.0 x v (sym (before.recorded old.0 x) ∙ old.1)))
      | inr made ↦ made.1
    ]

-- a parameter that the function didn't have is on record for its variable
pub new_on_record : (own : Own) (f : Body) (s t : SsaState) (ps : List Pending) (blocks tables : Blocks) (v x : ℕ) → Describes own f s ps blocks
    → KeepsParameters blocks tables t → length f.values ≤ v → IsParameterFor tables v x → (b : ℕ) × (record_of t x b ≡ Some v)
new_on_record own f s t ps blocks tables v x before kept new is = kept.on_record v x (ap (λ (d : Definition). d.kind) (before.absent v new)) is
