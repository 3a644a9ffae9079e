-- Into a block of an unfinished function: the caller's parameters get what is passed, name and value alike; the others of a sealed
-- block get the bits of what the arm gives them, and those of an unsealed one, which wait, their variables'. Into an unsealed block,
-- and into one with the caller's parameters alone, more may be passed than there are, or less.
use Rattle.std.proofs.Common.{◌≡◌, ◌≢◌, ◌⊎◌, inl, inr, ℕ, suc, ◌+◌, ◌<◌, ◌&&◌, if◌then◌else◌, Bool, true, false, List, [], ◌∷◌, ◌++◌, length, map, slice_get, Some, refl, sym, ◌∙◌, ap, subst, arith}
use Rattle.std.proofs.lemmas.List.{append-nil, length-append}
use Rattle.clif_ir.specs.Body.{Body, block_at, resolved}
use Rattle.clif_ir.specs.Consistent.{IsConsistent}
use Rattle.clif_ir.specs.Reading.{param_home}
use Rattle.clif_instructions.specs.Members.{place_of}
use Rattle.clif_instructions.specs.declared.block_call.BlockArg.{BlockArg}
use Rattle.clif_instructions.specs.declared.block_call.BlockArg.TheVariants.{Value}
use Rattle.clif_instructions.specs.declared.block_call.BlockCall.{BlockCall}
use Rattle.clif_paths.specs.Places.{Place, Arm, Path}
use Rattle.clif_paths.specs.State.{Definition, Program, Function, complete}
use Rattle.clif_paths.specs.Blocks.{front, sealed_at, state_of}
use Rattle.clif_records.specs.declared.tables.Pending.{Pending}
use Rattle.clif_ssa.specs.Ssa.{SsaState, sealed_of}
use Rattle.clif_ssa.specs.Structured.{AreFor, EdgePasses, HasParameters, waiting_in}
use Rattle.clif_records.specs.Tables.{is_yes, pending_of}
use Rattle.clif_ssa.specs.Sound.{IsBehind, IsEdgeInto, args_of, edges_at, has_entry}
use Rattle.clif_ssa.proofs.Ordering.{stands_place}
use Rattle.clif_ssa.proofs.Losing.{home_stands}
use Rattle.clif_meaning.specs.Name.{Name, same_name}
use Rattle.clif_meaning.specs.Request.{AnsweredCall}
use Rattle.clif_meaning.specs.Store.{assigned, argument_bits}
use Rattle.clif_meaning.specs.FunctionMachine.{same_value}
use Rattle.clif_meaning.specs.View.{argument_of}
use Rattle.clif_simulation.specs.Interrupted.{values_entering, variables_entering}
use Rattle.clif_simulation.specs.Tables.{answered, block_name, code, program_so_far}
use Rattle.clif_simulation.proofs.Finished.Agreement.{Agrees, ZerosAreZero, agrees_still, zeros_still}
use Rattle.clif_simulation.proofs.Finished.Entered.{EntersThere, Fit, entered_agrees, entered_zeros}
use Rattle.clif_simulation.proofs.Finished.Giving.{In, other_number}
use Rattle.clif_simulation.proofs.Finished.IntoBlock
use Rattle.clif_simulation.proofs.Finished.ItemsAt.{stands_for_itself}
use Rattle.clif_simulation.proofs.Labelling.Labels.{Labels, same_instance}
use Rattle.clif_simulation.proofs.Unfinished.OpenFront
use Rattle.clif_simulation.proofs.Unfinished.OpenWith.{OpensWith, opened_agrees, opened_zeros}
use Rattle.clif_simulation.proofs.Finished.Placing.{map_length}
use Rattle.clif_simulation.proofs.Finished.TwoParts.{in_map}
use Rattle.clif_simulation.proofs.Whole.{Whole, are_declared, declared_types, none_complete, sealed_none, waiting_pending}

not_both : (t : Bool) → t ≡ true → t ≡ false → ⊥
not_both t one other = cc

-- there is a value for each parameter
for_none : (f : Body) (values params : List ℕ) → AreFor f values params → params ≡ [] → values ≡ []
for_none f [] params are none = refl
for_none f (value ∷ values) [] are none = absurd are
for_none f (value ∷ values) (param ∷ params) are none = cc

-- nothing is in between
none_first : (xs ys zs : List ℕ) → length (xs ++ (ys ++ zs)) ≡ length xs → ys ≡ []
none_first xs [] zs same = refl
none_first xs (y ∷ ys) zs same =
    let whole : length (xs ++ (y ∷ (ys ++ zs))) ≡ length xs + suc (length (ys ++ zs)) = length-append xs (y ∷ (ys ++ zs)) in
    absurd (omega (arith, same, whole))

-- what isn't behind the first places gets nothing from behind them
others_leave : (places bits : List ℕ) (old : ℕ → ℕ) (v : ℕ) → (In v places → ⊥) → assigned same_value places bits old v ≡ old v
others_leave [] bits old v other = refl
others_leave (p ∷ places) [] old v other = refl
others_leave (p ∷ places) (m ∷ bits) old v other =
    rw (other_number v p (λ same. other (inl same))) (others_leave places bits old v (λ there. other (inr there)))

assigned_first : (xs ys bits : List ℕ) (old : ℕ → ℕ) (v : ℕ) → (In v ys → ⊥)
    → assigned same_value (xs ++ ys) bits old v ≡ assigned same_value xs bits old v
assigned_first [] ys bits old v other = others_leave ys bits old v other
assigned_first (x ∷ xs) ys [] old v other = refl
assigned_first (x ∷ xs) ys (m ∷ bits) old v other =
    ap (λ (rest : ℕ). if same_value v x then m else rest) (assigned_first xs ys bits old v other)

module _ (calls : List AnsweredCall) (f : Body) (s : SsaState) (consistent : IsConsistent f) (carries : Whole calls f s) where
  abbrev pub program : Program
  program = (state_of carries.tables).program

  abbrev pub function : Function
  function = carries.tables.function

  abbrev pub live : ℕ → Type 0
  live = stands_for_itself carries.tables

  -- whether places are sealed
  abbrev seals : Place → Bool
  seals place = sealed_at carries.tables.count carries.tables.sealed place

  module _ (b : ℕ) (B : Name) (named : block_name calls b ≡ Some B) where
    abbrev waiting : List Pending
    waiting = pending_of (sealed_of s b)

    abbrev pub parameters : List Name
    parameters = (program_so_far calls).parameters B

    -- At the block's front --------------------------------------------------------------------------------------------------

    -- Control comes along an arm with these values, of which the caller's parameters have these bits.
    module _ (labels : Labels program function) (source : Place) (number : ℕ) (path : Path) (old bits variables : ℕ → ℕ) (names : Name → ℕ)
        (agrees : Agrees live program function labels path variables names old) (zeros : ZerosAreZero program function path variables names old)
        (mine : List ℕ) (entering : ℕ → ℕ)
      where
        abbrev arm : Arm
        arm = record { source = source; target = front b; edge = number }

        abbrev after : Name → ℕ
        after = assigned same_name parameters mine names

        abbrev pub Goes : (ℕ → ℕ) → (ℕ → ℕ) → Type 0
        Goes held new = Agrees live program function labels (arm ∷ path) held after new × ZerosAreZero program function (arm ∷ path) held after new

        -- a parameter of the caller's and its answer have the same bits
        pub alike_before : (n : Name) → In n parameters → names n ≡ old (answered calls n)
        alike_before n there =
            agrees.of_name n (answered calls n)
            (carries.describes.resolves (answered calls n) ∙ IntoBlock.parameter_live calls f s consistent carries b B named n there)
            (labels.answers n (answered calls n) (front b) (IntoBlock.parameter_named calls f s consistent carries b B named n there)
            (IntoBlock.parameter_defined calls f s consistent carries b B named n there))
            (same_instance program function (code n) (answered calls n) (front b) (IntoBlock.parameter_named calls f s consistent carries b B named n there)
            (IntoBlock.parameter_defined calls f s consistent carries b B named n there) path)

        -- of an unsealed block only parameters that wait get anything else
        abbrev pub GoesOpen : Type 0
        GoesOpen = (w : ℕ) → ((p : Pending) → In p waiting → p.param ≢ w) → entering w ≡ assigned same_value (map (answered calls) parameters) mine old w

        into_unsealed : is_yes (sealed_of s b) ≡ false → GoesOpen → Goes bits (values_entering waiting bits entering)
        into_unsealed is alone =
            let unsealed : carries.tables.sealed b ≡ false = carries.describes.sealed b ∙ ap (λ (t : Bool). t && has_entry f.layout) is in
            let opens : OpensWith live program function arm parameters (answered calls) names after bits old (values_entering waiting bits entering) =
            OpenFront.opens_with calls f s consistent carries b B named unsealed arm refl bits old entering names mine alike_before alone in (
              opened_agrees live program function labels arm path parameters (answered calls) variables names after bits old (values_entering waiting bits entering) opens agrees zeros,
              opened_zeros live program function labels arm path parameters (answered calls) variables names after bits old (values_entering waiting bits entering) opens agrees zeros,
            )

        -- of a sealed one the others get theirs
        abbrev pub GoesSealed : Type 0
        GoesSealed =
            (new : ℕ → ℕ) × EntersThere live program function arm path parameters (answered calls) old new × Fit parameters (answered calls) mine names new
            × ((w : ℕ) → entering w ≡ assigned same_value (map (answered calls) parameters) mine new w)

        into_sealed : is_yes (sealed_of s b) ≡ true → GoesSealed → Goes variables (values_entering waiting bits entering)
        into_sealed is sealed =
            subst (λ (ps : List Pending). Goes variables (values_entering ps bits entering)) (sym (sealed_none (sealed_of s b) is)) (
              agrees_still live program function labels (arm ∷ path) variables after (assigned same_value (map (answered calls) parameters) mine sealed.0) entering sealed.3
                  (entered_agrees live program function labels arm path parameters (answered calls) old sealed.0 sealed.1 variables names agrees zeros mine sealed.2),
              zeros_still program function (arm ∷ path) variables after (assigned same_value (map (answered calls) parameters) mine sealed.0) entering sealed.3
                  (entered_zeros live program function labels arm path parameters (answered calls) old sealed.0 sealed.1 variables names agrees zeros mine sealed.2),
            )

        pub enters : (is_yes (sealed_of s b) ≡ false → GoesOpen) → (is_yes (sealed_of s b) ≡ true → GoesSealed)
            → Goes (variables_entering (is_yes (sealed_of s b)) bits variables) (values_entering waiting bits entering)
        enters alone sealed = by (is_yes (sealed_of s b)) refl
          where
            by : (t : Bool) → is_yes (sealed_of s b) ≡ t → Goes (variables_entering t bits variables) (values_entering waiting bits entering)
            by true is = into_sealed is (sealed is)
            by false is = into_unsealed is (alone is)

    -- From the start ----------------------------------------------------------------------------------------------------------

    module _ (source : Place) (number : ℕ) (starts_first : has_entry f.layout ≡ true) (is : is_yes (sealed_of s b) ≡ true) where
      sealed_here : carries.tables.sealed b ≡ true
      sealed_here = carries.describes.sealed b ∙ ap (λ (t : Bool). t && has_entry f.layout) is ∙ starts_first

      -- where nothing has bits yet
      pub enters_blank : EntersThere live program function (record { source = source; target = front b; edge = number }) [] parameters (answered calls) (λ w. 0) (λ w. 0)
      enters_blank =
          IntoBlock.enters_front calls f s consistent carries b (sealed_none (sealed_of s b) is) B named seals sealed_here source number [] (λ w. 0) (λ w. 0)
          (λ w defined. refl) (λ w elsewhere. refl) (λ w blank. refl) (λ w blank. refl)

    -- Along an edge -----------------------------------------------------------------------------------------------------------

    -- the block has the caller's parameters alone
    abbrev pub IsAlone : Type 0
    IsAlone = (block_at f b).params ≡ map (answered calls) parameters

    module _ (labels : Labels program function) (source : Place) (number : ℕ) (into : IsEdgeInto f s carries.tables b (record { source = source; target = front b; edge = number }))
        (call : BlockCall) (call_stands : slice_get (edges_at f into.branch) number ≡ Some call)
        (path : Path) (given : List ℕ) (old bits variables : ℕ → ℕ) (names : Name → ℕ)
        (agrees : Agrees live program function labels path variables names old) (zeros : ZerosAreZero program function path variables names old)
        (mine : List ℕ) (mine_is : mine ≡ map (argument_bits (λ (v : ℕ). old (resolved f v)) given) (map argument_of (carries.own.passed into.branch number)))
      where
        -- the bits of values as control enters the block
        abbrev pub entering : ℕ → ℕ
        entering = assigned same_value (block_at f b).params (map (argument_bits (λ (v : ℕ). old (resolved f v)) given) (map argument_of call.args)) old

        abbrev passed : List BlockArg
        passed = carries.own.passed into.branch number

        abbrev has : HasParameters carries.own f s [] b
        has = (carries.structured (declared_types calls) (are_declared calls)).parameters b

        passes : EdgePasses f passed has.complete (args_of (slice_get (edges_at f into.branch) number))
        passes = has.edges into.branch number into.leads into.to

        -- where no parameter is complete, the edge passes what the caller passed
        callers_args : has.complete ≡ [] → call.args ≡ passed
        callers_args none =
            ap args_of (sym call_stands) ∙ passes.in_order
            ∙ ap (λ (values : List ℕ). passed ++ map Value values) (for_none f passes.values has.complete passes.are_for none)
            ∙ append-nil passed

        callers_bits : has.complete ≡ [] → (w : ℕ) → entering w ≡ assigned same_value (block_at f b).params mine old w
        callers_bits none w =
            ap (λ (args : List BlockArg). assigned same_value (block_at f b).params (map (argument_bits (λ (v : ℕ). old (resolved f v)) given) (map argument_of args)) old w)
            (callers_args none)
            ∙ ap (λ (given_bits : List ℕ). assigned same_value (block_at f b).params given_bits old w) (sym mine_is)

        -- Into an unsealed block --------------------------------------------------------------------------------------------

        module _ (is : is_yes (sealed_of s b) ≡ false) where
          none_there : has.complete ≡ []
          none_there = none_complete has.complete (λ some. not_both (is_yes (sealed_of s b)) (has.several some).0 is)

          abbrev waits : List ℕ
          waits = map (λ (p : Pending). p.param) waiting

          params_are : (block_at f b).params ≡ map (answered calls) parameters ++ waits
          params_are =
              has.in_order
              ∙ ap (λ (complete : List ℕ). carries.own.params b ++ (complete ++ map (λ (p : Pending). p.param) (waiting_in f s [] b))) none_there
              ∙ ap (λ (ps : List Pending). carries.own.params b ++ map (λ (p : Pending). p.param) ps) (waiting_pending f (sealed_of s b) b)
              ∙ ap (λ (own : List ℕ). own ++ waits) (IntoBlock.own_parameters calls f s consistent carries b B named)

          other_waits : (w : ℕ) → ((p : Pending) → In p waiting → p.param ≢ w) → In w waits → ⊥
          other_waits w other there = let found = in_map (λ (p : Pending). p.param) waiting w there in other found.0 found.1 (sym found.2)

          goes_open : GoesOpen labels source number path old bits variables names agrees zeros mine entering
          goes_open w other =
              callers_bits none_there w
              ∙ ap (λ (params : List ℕ). assigned same_value params mine old w) params_are
              ∙ assigned_first (map (answered calls) parameters) waits mine old w (other_waits w other)

        -- Into a sealed one -------------------------------------------------------------------------------------------------

        module _ (is : is_yes (sealed_of s b) ≡ true) where
          sealed_there : carries.tables.sealed b ≡ true
          sealed_there = carries.describes.sealed b ∙ ap (λ (t : Bool). t && has_entry f.layout) is ∙ (carries.describes.leading b into.branch into.leads).1

          abbrev GoesThere : Type 0
          GoesThere = GoesSealed labels source number path old bits variables names agrees zeros mine entering

          -- that has as many parameters of the caller's as the edge passes
          module _ (passes_own : length passed ≡ length parameters) where
            as_many : length mine ≡ length parameters
            as_many =
                ap (λ (xs : List ℕ). length xs) mine_is
                ∙ map_length (argument_bits (λ (v : ℕ). old (resolved f v)) given) (map argument_of passed) ∙ map_length argument_of passed ∙ passes_own

            abbrev of_others : ℕ → ℕ
            of_others =
                IntoBlock.new calls f s consistent carries b (sealed_none (sealed_of s b) is) B named seals sealed_there source number into passes_own call call_stands path given
                old zeros.of_value

            goes_matching : GoesThere
            goes_matching = (
              of_others,
              IntoBlock.enters calls f s consistent carries b (sealed_none (sealed_of s b) is) B named seals sealed_there source number into passes_own call call_stands path given
                  old zeros.of_value,
              inl as_many,
              λ w.
                  IntoBlock.both_parts calls f s consistent carries b (sealed_none (sealed_of s b) is) B named seals sealed_there source number into passes_own call call_stands
                  path given old zeros.of_value w
                  ∙ ap (λ (given_bits : List ℕ). assigned same_value (map (answered calls) parameters) given_bits of_others w) (sym mine_is),
            )

          -- that has the caller's parameters alone: nothing else is passed
          module _ (alone : IsAlone) where
            as_callers : length (block_at f b).params ≡ length (carries.own.params b)
            as_callers = ap (λ (ps : List ℕ). length ps) (alone ∙ sym (IntoBlock.own_parameters calls f s consistent carries b B named))

            no_complete : has.complete ≡ []
            no_complete =
                none_first (carries.own.params b) has.complete (map (λ (p : Pending). p.param) (waiting_in f s [] b))
                (sym (ap (λ (ps : List ℕ). length ps) has.in_order) ∙ as_callers)

            not_there : (w x : ℕ) → function.definition w ≡ record { home = front b; kind = complete x } → ⊥
            not_there w x defined =
                let home : param_home f w ≡ Some b = carries.describes.complete_there b w defined in
                let past = subst (λ (d : Definition). IsBehind d.kind (place_of w (block_at f b).params) (length (carries.own.params b))) defined (carries.counts.behind b w home) in
                let within : place_of w (block_at f b).params < length (block_at f b).params = stands_place w (block_at f b).params (home_stands f consistent w b home) in
                absurd (omega (arith, past, within, as_callers))

            goes_alone : GoesThere
            goes_alone = (
              old,
              IntoBlock.enters_front calls f s consistent carries b (sealed_none (sealed_of s b) is) B named seals sealed_there source number path old old
                  (λ w (x, defined). absurd (not_there w x defined)) (λ w elsewhere. refl) (λ w blank. refl) zeros.of_value,
              inr (alike_before labels source number path old bits variables names agrees zeros mine entering),
              λ w. callers_bits no_complete w ∙ ap (λ (params : List ℕ). assigned same_value params mine old w) alone,
            )

        -- Into any ----------------------------------------------------------------------------------------------------------

        -- the edge passes as much as the block has parameters of the caller's, or the block is open
        abbrev pub MayPass : Type 0
        MayPass = (length passed ≡ length parameters) ⊎ ((is_yes (sealed_of s b) ≡ false) ⊎ IsAlone)

        goes_sealed : MayPass → is_yes (sealed_of s b) ≡ true → GoesSealed labels source number path old bits variables names agrees zeros mine entering
        goes_sealed (inl passes_own) is = goes_matching is passes_own
        goes_sealed (inr (inl unsealed)) is = absurd (not_both (is_yes (sealed_of s b)) is unsealed)
        goes_sealed (inr (inr alone)) is = goes_alone is alone

        pub goes : MayPass → Goes labels source number path old bits variables names agrees zeros mine entering
            (variables_entering (is_yes (sealed_of s b)) bits variables) (values_entering waiting bits entering)
        goes may = enters labels source number path old bits variables names agrees zeros mine entering goes_open (goes_sealed may)
