-- Into a block of a function that carries calls. Its parameters are the caller's and then the construction's; an edge to it
-- passes what the caller passed and then arguments for these. Where nothing waits in the block, each of the construction's gets
-- the bits of what the arm gives it, and what is no parameter keeps its own.
use Rattle.std.proofs.Common.{◌≡◌, ◌≢◌, ℕ, ◌+◌, ◌<◌, ◌≤◌, Bool, true, List, [], ◌++◌, length, map, slice_get, Option, Some, None, Contains, ◌⊎◌, inl, inr, refl, sym, ◌∙◌, ap, subst, arith}
use Rattle.std.proofs.lemmas.List.{append-nil, length-append, map-append}
use Rattle.clif_ir.specs.Body.{Body, block_at, resolved}
use Rattle.clif_ir.specs.Consistent.{IsConsistent}
use Rattle.clif_instructions.specs.Members.{Stands, place_of}
use Rattle.clif_ir.specs.Reading.{param_home}
use Rattle.clif_instructions.specs.declared.block_call.BlockArg.{BlockArg}
use Rattle.clif_instructions.specs.declared.block_call.BlockArg.TheVariants.{Value}
use Rattle.clif_instructions.specs.declared.block_call.BlockCall.{BlockCall}
use Rattle.clif_paths.specs.Places.{Place, Arm, Path}
use Rattle.clif_paths.specs.State.{Naming, Program, Kind, fresh, unborn, born, pending, complete, zero_of, Definition, Function}
use Rattle.clif_paths.specs.Blocks.{front, state_of}
use Rattle.clif_paths.proofs.PathLemmas.{dec_place}
use Rattle.clif_paths.proofs.Executing.{function_steps, denotes-past}
use Rattle.clif_records.specs.declared.tables.Pending.{Pending}
use Rattle.clif_ssa.specs.Ssa.{SsaState, sealed_of}
use Rattle.clif_records.specs.Tables.{pending_of}
use Rattle.clif_ssa.specs.Sound.{HomeFits, IsBehind, IsCounted, IsEdgeInto, IsWaiting, args_of, edges_at, passed_count}
use Rattle.clif_ssa.proofs.Alike.{unaliased_home}
use Rattle.clif_ssa.proofs.Ordering.{stands_place}
use Rattle.clif_ssa.proofs.Losing.{stands_home, home_stands}
use Rattle.clif_meaning.specs.Name.{Name}
use Rattle.clif_meaning.specs.Request.{AnsweredCall}
use Rattle.clif_meaning.specs.Store.{assigned, argument_bits}
use Rattle.clif_meaning.specs.FunctionMachine.{same_value}
use Rattle.clif_meaning.specs.View.{argument_of}
use Rattle.clif_meaning.proofs.StraightLine.{nothing_contained, none_of}
use Rattle.clif_simulation.specs.Tables.{answered, callers_parameters, code, program_so_far, block_name}
use Rattle.clif_simulation.proofs.Finished.Agreement.{IsBlank}
use Rattle.clif_simulation.proofs.Whole.{Whole}
use Rattle.clif_simulation.proofs.Codes
use Rattle.clif_simulation.proofs.Finished.Entered.{ComesAlong, EntersThere}
use Rattle.clif_simulation.proofs.Finished.Giving.{In, contained_in, in_contained}
use Rattle.clif_simulation.proofs.GivenNames.{given_at_front}
use Rattle.clif_simulation.proofs.Finished.TwoParts.{among_first, assigned_at, assigned_elsewhere, assigned_two, in_map, nothing_assigned, place_behind, stands_second}
use Rattle.clif_simulation.proofs.Finished.Entry.{resolved_twice}
use Rattle.clif_simulation.proofs.Finished.ItemsAt
use Rattle.clif_simulation.proofs.Finished.ItemsAt.{not_start, stands_for_itself}
use Rattle.clif_simulation.proofs.Finished.Placing.{at_second, map_at, map_length}
use Rattle.clif_simulation.proofs.Finished.Straight.{same_block}

some_is : {X : Type 0} (x y : X) → Some x ≡ Some y → x ≡ y
some_is x y e = cc

born_same : (m n : ℕ) → born m ≡ born n → m ≡ n
born_same m n h = cc

module _ (calls : List AnsweredCall) (f : Body) (s : SsaState) (consistent : IsConsistent f) (carries : Whole calls f s) (b : ℕ) where
  abbrev pub function : Function
  function = carries.tables.function

  abbrev pub live : ℕ → Type 0
  live = stands_for_itself carries.tables

  -- The block's parameters ------------------------------------------------------------------------------------------------

  -- the construction's parameters
  abbrev pub others : List ℕ
  others = (carries.parameters_first b).0

  params_are : (block_at f b).params ≡ carries.own.params b ++ others
  params_are = (carries.parameters_first b).1

  -- the place of a parameter among the others
  place_among : (v : ℕ) → param_home f v ≡ Some b → length (carries.own.params b) ≤ place_of v (block_at f b).params
      → (place_of v (block_at f b).params ≡ length (carries.own.params b) + place_of v others) × (place_of v others < length others)
  place_among v home past =
      let moved : place_of v (carries.own.params b ++ others) ≡ length (carries.own.params b) + place_of v others =
      place_behind (carries.own.params b) others v (subst (λ (ps : List ℕ). length (carries.own.params b) ≤ place_of v ps) params_are past) in
      let whole : place_of v (block_at f b).params ≡ length (carries.own.params b) + place_of v others = ap (place_of v) params_are ∙ moved in
      let within : place_of v (block_at f b).params < length (block_at f b).params = stands_place v (block_at f b).params (home_stands f consistent v b home) in
      let count : length (block_at f b).params ≡ length (carries.own.params b) + length others = ap (λ (xs : List ℕ). length xs) params_are ∙ length-append (carries.own.params b) others in
      (whole, omega (arith, whole, within, count))

  -- what stands among the others is a parameter of the block
  others_home : (v : ℕ) → Stands v others → param_home f v ≡ Some b
  others_home v there =
      stands_home f consistent v b (subst (Stands v) (sym params_are) (stands_second (carries.own.params b) others v there))

  -- a complete parameter of the block, whatever variable it was made for
  abbrev pub CompleteHere : ℕ → Type 0
  CompleteHere v = (x : ℕ) × (function.definition v ≡ record { home = front b; kind = complete x })

  -- no parameter of the block is a zero, or on the way to one
  parameter_no_blank : (v : ℕ) → param_home f v ≡ Some b → IsBlank (function.definition v).kind → ⊥
  parameter_no_blank v home blank = by (function.definition v).kind blank (carries.counts.behind b v home)
    where
      by : (k : Kind) → IsBlank k → IsBehind k (place_of v (block_at f b).params) (length (carries.own.params b)) → ⊥
      by unborn is behind = behind
      by (zero_of x) is behind = behind
      by (born n) is behind = is
      by (pending x) is behind = is
      by (complete x) is behind = is

  module _ (B : Name) (named : block_name calls b ≡ Some B) where
    abbrev pub parameters : List Name
    parameters = (program_so_far calls).parameters B

    -- the caller's answer those of the program's block
    pub own_parameters : carries.own.params b ≡ map (answered calls) parameters
    own_parameters = carries.parameters b ∙ ap (λ (o : Option Name). map (answered calls) (callers_parameters calls o)) named

    pub parameter_named : (x : Name) → In x parameters → carries.tables.naming (code x) ≡ record { home = front b; origin = fresh }
    parameter_named x there = (carries.program.parameter b B named x (in_contained parameters x there)).0

    pub parameter_defined : (x : Name) → In x parameters → function.definition (answered calls x) ≡ record { home = front b; kind = born (code x) }
    parameter_defined x there =
        ItemsAt.parameter_defined calls carries.own f s carries.tables carries.program carries.describes b B named x (in_contained parameters x there)

    -- such an answer is no alias, and different ones have different answers
    pub parameter_live : (x : Name) → In x parameters → resolved f (answered calls x) ≡ answered calls x
    parameter_live x there =
        let naming = parameter_named x there in
        let born = carries.describes.born_there (code x) (not_start (carries.tables.naming (code x)).home b 0 (ap (λ (m : Naming). m.home) naming))
        (ap (λ (m : Naming). m.origin) naming) in
        subst (λ (v : ℕ). resolved f v ≡ v) (carries.program.parameter b B named x (in_contained parameters x there)).1 born.1

    pub parameters_apart : (x y : Name) → In x parameters → In y parameters → answered calls x ≡ answered calls y → x ≡ y
    parameters_apart x y in_x in_y same =
        Codes.differ x y
        (born_same (code x) (code y)
        (ap (λ (d : Definition). d.kind) (sym (parameter_defined x in_x) ∙ ap function.definition same ∙ parameter_defined y in_y)))

    pub only_parameters : (x : Name) → (carries.tables.naming (code x)).home ≡ front b → In x parameters
    only_parameters x at =
        let found = given_at_front calls carries.tables carries.program (code x) b B named at in
        subst (λ (y : Name). In y parameters) (Codes.differ found.0 x found.1) (contained_in parameters found.0 found.2)

    -- what is born there answers one of them
    pub born_there : (w n : ℕ) → (function.definition w).home ≡ front b → HomeFits carries.tables w (born n) → (x : Name) × In x parameters × (w ≡ answered calls x)
    born_there w n at fits =
        let found = given_at_front calls carries.tables carries.program n b B named (ap (λ naming. naming.home) fits.0 ∙ at) in (
          found.0,
          contained_in parameters found.0 found.2,
          sym fits.1 ∙ ap carries.tables.answer (sym found.1) ∙ (carries.program.parameter b B named found.0 found.2).1,
        )

    -- a parameter that stands among the caller's is born there
    own_born : (v : ℕ) → place_of v (block_at f b).params < length (carries.own.params b) → (function.definition v).home ≡ front b
    own_born v below =
        let found = in_map (answered calls) parameters v (subst (In v) own_parameters
        (among_first (carries.own.params b) others v (subst (λ (ps : List ℕ). place_of v ps < length (carries.own.params b)) params_are below))) in
        ap (λ (w : ℕ). (function.definition w).home) found.2 ∙ ap (λ (d : Definition). d.home) (parameter_defined found.0 found.1)

    -- the values of the block's parameters, where the caller's get these bits and the others those
    in_two_parts : (mine rest : List ℕ) (old : ℕ → ℕ) (v : ℕ) → length mine ≡ length parameters
        → assigned same_value (block_at f b).params (mine ++ rest) old v ≡ assigned same_value (map (answered calls) parameters) mine (assigned same_value others rest old) v
    in_two_parts mine rest old v as_many =
        ap (λ (ps : List ℕ). assigned same_value ps (mine ++ rest) old v) (params_are ∙ ap (λ (ps : List ℕ). ps ++ others) own_parameters)
        ∙ assigned_two (map (answered calls) parameters) others mine rest old v (as_many ∙ sym (map_length (answered calls) parameters))

    -- and where the others get none
    pub callers_alone : (mine : List ℕ) (old : ℕ → ℕ) (v : ℕ) → length mine ≡ length parameters
        → assigned same_value (block_at f b).params mine old v ≡ assigned same_value (map (answered calls) parameters) mine old v
    callers_alone mine old v as_many =
        ap (λ (bits : List ℕ). assigned same_value (block_at f b).params bits old v) (sym (append-nil mine))
        ∙ in_two_parts mine [] old v as_many
        ∙ ap (λ (values : ℕ → ℕ). assigned same_value (map (answered calls) parameters) mine values v) (nothing_assigned same_value others old)

  -- only a block that has a name has parameters of the caller's
  own_named : (v : ℕ) → place_of v (block_at f b).params < length (carries.own.params b) → (o : Option Name) → block_name calls b ≡ o → (B : Name) × (block_name calls b ≡ Some B)
  own_named v below (Some B) named = (B, named)
  own_named v below None none =
      let bare = ap (λ (xs : List ℕ). length xs) (carries.parameters b ∙ ap (λ (o : Option Name). map (answered calls) (callers_parameters calls o)) none) in
      absurd (omega (arith, below, bare))

  -- Where some may wait -----------------------------------------------------------------------------------------------------

  module _ (v : ℕ) (home : param_home f v ≡ Some b) where
    abbrev place : ℕ
    place = place_of v (block_at f b).params

    abbrev callers : ℕ
    callers = length (carries.own.params b)

    -- a parameter that is complete is so as its block is entered
    of_complete : (x : ℕ) (fits : HomeFits carries.tables v (complete x)) → (function.definition v).kind ≡ complete x
        → function.definition v ≡ record { home = front b; kind = complete x }
    of_complete x fits kind =
        let defined : function.definition v ≡ record { home = front fits.0; kind = complete x } =
        ap (λ (k : Kind). record { home = (function.definition v).home; kind = k }) kind ∙ ap (λ (p : Place). record { home = p; kind = complete x }) fits.1 in
        let same : fits.0 ≡ b = some_is fits.0 b (sym (carries.describes.complete_there fits.0 v defined) ∙ home) in
        defined ∙ ap (λ (d : ℕ). record { home = front d; kind = complete x }) same

    -- one that waits is born there
    of_pending : (x : ℕ) → (function.definition v).kind ≡ pending x → (function.definition v).home ≡ front b
    of_pending x kind = by (carries.describes.pends v x (unaliased_home f v b home) kind)
      where
        by : ((c : ℕ) × Contains (pending_of (sealed_of s c)) (record { variable = x; param = v })) ⊎ Contains {X = Pending} [] (record { variable = x; param = v })
            → (function.definition v).home ≡ front b
        by (inl found) =
            let waits = carries.describes.waiting found.0 (record { variable = x; param = v }) found.1 in
            let same : found.0 ≡ b = some_is found.0 b (sym waits.parameter ∙ home) in
            ap (λ (d : Definition). d.home) waits.defined ∙ ap front same
        by (inr completes) = absurd (nothing_contained {X = Pending} (record { variable = x; param = v }) completes)

    of_kind : (kind : Kind) → (function.definition v).kind ≡ kind → HomeFits carries.tables v kind → IsBehind kind place callers → (function.definition v).home ≡ front b
    of_kind unborn kind fits behind = absurd behind
    of_kind (born n) kind fits behind = let name = own_named v behind (block_name calls b) refl in own_born name.0 name.1 v behind
    of_kind (pending x) kind fits behind = of_pending x kind
    of_kind (complete x) kind fits behind = ap (λ (d : Definition). d.home) (of_complete x fits kind)
    of_kind (zero_of x) kind fits behind = absurd behind

    -- each parameter of the block is born as the block is entered
    pub parameter_front : (function.definition v).home ≡ front b
    parameter_front = of_kind (function.definition v).kind refl (carries.describes.homes v) (carries.counts.behind b v home)

    -- An edge passes nothing to a parameter that waits.
    module _ (past : callers ≤ place) (i k : ℕ) (counted : IsCounted (function.definition v).kind place callers (passed_count f i k) (length (carries.own.passed i k)))
        (reached : place + length (carries.own.passed i k) < passed_count f i k + callers)
      where
        of_reached : (kind : Kind) → (function.definition v).kind ≡ kind → HomeFits carries.tables v kind → IsBehind kind place callers
            → IsCounted kind place callers (passed_count f i k) (length (carries.own.passed i k)) → CompleteHere v
        of_reached unborn kind fits behind passes = absurd behind
        of_reached (born n) kind fits behind passes = absurd (omega (arith, behind, past))
        of_reached (pending x) kind fits behind passes = absurd (omega (arith, passes, reached))
        of_reached (complete x) kind fits behind passes = (x, of_complete x fits kind)
        of_reached (zero_of x) kind fits behind passes = absurd behind

        pub passed_complete : CompleteHere v
        passed_complete = of_reached (function.definition v).kind refl (carries.describes.homes v) (carries.counts.behind b v home) counted

  -- Where nothing waits ---------------------------------------------------------------------------------------------------

  module _ (none_waits : pending_of (sealed_of s b) ≡ []) where
    none_pending : (v x : ℕ) → resolved f v ≡ v → (function.definition v).kind ≡ pending x
        → ((c : ℕ) → IsWaiting f carries.tables c (record { variable = x; param = v }) → c ≡ b) → ⊥
    none_pending v x itself kind here = by (carries.describes.pends v x itself kind)
      where
        by : ((c : ℕ) × Contains (pending_of (sealed_of s c)) (record { variable = x; param = v })) ⊎ Contains {X = Pending} [] (record { variable = x; param = v }) → ⊥
        by (inl found) =
            let same : found.0 ≡ b = here found.0 (carries.describes.waiting found.0 (record { variable = x; param = v }) found.1) in
            none_of (pending_of (sealed_of s found.0)) (record { variable = x; param = v }) (ap (λ (c : ℕ). pending_of (sealed_of s c)) same ∙ none_waits) found.1
        by (inr completes) = nothing_contained {X = Pending} (record { variable = x; param = v }) completes

    is_complete : (v : ℕ) → param_home f v ≡ Some b → length (carries.own.params b) ≤ place_of v (block_at f b).params
        → (kind : Kind) → (function.definition v).kind ≡ kind → HomeFits carries.tables v kind
        → IsBehind kind (place_of v (block_at f b).params) (length (carries.own.params b)) → CompleteHere v
    is_complete v home past unborn kind fits behind = absurd behind
    is_complete v home past (born n) kind fits behind = absurd (omega (arith, behind, past))
    is_complete v home past (pending x) kind fits behind =
        absurd (none_pending v x (unaliased_home f v b home) kind (λ c waits. some_is c b (sym waits.parameter ∙ home)))
    is_complete v home past (complete x) kind fits behind = (x, of_complete v home x fits kind)
    is_complete v home past (zero_of x) kind fits behind = absurd behind

    -- a parameter of the block that isn't a caller's is complete
    pub parameter_complete : (v : ℕ) → param_home f v ≡ Some b → length (carries.own.params b) ≤ place_of v (block_at f b).params → CompleteHere v
    parameter_complete v home past =
        is_complete v home past (function.definition v).kind refl (carries.describes.homes v) (carries.counts.behind b v home)

    no_blank : (v : ℕ) → IsBlank (function.definition v).kind → Stands v others → ⊥
    no_blank v blank there = parameter_no_blank v (others_home v there) blank

    not_elsewhere : (v : ℕ) → (function.definition v).home ≢ front b → Stands v others → ⊥
    not_elsewhere v elsewhere there = elsewhere (parameter_front v (others_home v there))

    -- As the block is entered -----------------------------------------------------------------------------------------------

    module _ (B : Name) (named : block_name calls b ≡ Some B) (seals : Place → Bool) (known : seals (front b) ≡ true) where
      -- the program of the tables, where these places are sealed
      abbrev pub program : Program
      program = record (state_of carries.tables).program { is_sealed = seals }

      -- Behind an arm to the block's front the caller's parameters have their bits; each of the others has those of what the arm
      -- gives it, and what is no parameter keeps its own.
      module _ (source : Place) (number : ℕ) (path : Path) (old new : ℕ → ℕ)
          (gets : (w : ℕ) → CompleteHere w → new w ≡ old (function.resolve (function.argument w (record { source = source; target = front b; edge = number }))))
          (keeps : (w : ℕ) → (function.definition w).home ≢ front b → new w ≡ old w)
          (stays : (w : ℕ) → IsBlank (function.definition w).kind → new w ≡ old w)
          (zeros : (w : ℕ) → IsBlank (function.definition w).kind → old w ≡ 0)
        where
          abbrev into_front : Arm
          into_front = record { source = source; target = front b; edge = number }

          complete_unborn : (w x n : ℕ) → (function.definition w).kind ≡ complete x → (function.definition w).kind ≢ born n
          complete_unborn w x n is other = absurd (apart (sym is ∙ other))
            where
              apart : complete x ≡ born n → ⊥
              apart h = cc

          at_front : (w : ℕ) → live w → (kind : Kind) → function.definition w ≡ record { home = front b; kind = kind }
              → HomeFits carries.tables w kind → ((x : Name) × In x (parameters B named) × (w ≡ answered calls x)) ⊎ ComesAlong live program function into_front path old new w
          at_front w is_live unborn defined fits = absurd (not_start (front b) b 0 refl (sym (ap (λ (d : Definition). d.home) defined) ∙ fits))
          at_front w is_live (born n) defined fits = inl (born_there B named w n (ap (λ (d : Definition). d.home) defined) fits)
          at_front w is_live (pending x) defined fits =
              absurd (none_pending w x (sym (carries.describes.resolves w) ∙ is_live) (ap (λ (d : Definition). d.kind) defined)
              (λ c waits. same_block (sym (ap (λ (d : Definition). d.home) waits.defined) ∙ ap (λ (d : Definition). d.home) defined)))
          at_front w is_live (complete x) defined fits =
              let u : ℕ = function.argument w into_front in
              inr (inl (
                function.resolve u,
                carries.describes.resolves (function.resolve u) ∙ ap (resolved f) (carries.describes.resolves u) ∙ resolved_twice f u consistent ∙ sym (carries.describes.resolves u),
                (function_steps program function into_front path).complete_here w x defined,
                gets w (x, defined),
                inr (λ n. complete_unborn w x n (ap (λ (d : Definition). d.kind) defined)),
              ))
          at_front w is_live (zero_of x) defined fits =
              let blank : IsBlank (function.definition w).kind = subst IsBlank (sym (ap (λ (d : Definition). d.kind) defined)) tt in
              inr (inr (x, (function_steps program function into_front path).zero_here w x defined, stays w blank ∙ zeros w blank))

          comes : (w : ℕ) → live w → Dec ((function.definition w).home ≡ front b)
              → ((x : Name) × In x (parameters B named) × (w ≡ answered calls x)) ⊎ ComesAlong live program function into_front path old new w
          comes w is_live (yes at) =
              at_front w is_live (function.definition w).kind (ap (λ (p : Place). record { home = p; kind = (function.definition w).kind }) at) (carries.describes.homes w)
          comes w is_live (no elsewhere) = inr (inl (w, is_live, denotes-past program function into_front path w elsewhere, keeps w elsewhere, inl refl))

          pub enters_front : EntersThere live program function (record { source = source; target = front b; edge = number }) path (parameters B named) (answered calls) old new
          enters_front = record {
            known = known;
            unassigned = λ x. carries.program.front_assigns_nothing b x;
            named = parameter_named B named;
            defined = parameter_defined B named;
            only_names = only_parameters B named;
            comes = λ w is_live. comes w is_live (dec_place (function.definition w).home (front b));
            zeros_stay = stays;
          }

      -- Along an edge of the function that passes as much of the caller's as the block has parameters of the caller's.
      module _ (source : Place) (number : ℕ) (into : IsEdgeInto f s carries.tables b (record { source = source; target = front b; edge = number }))
          (as_many : length (carries.own.passed into.branch number) ≡ length (parameters B named))
          (call : BlockCall) (call_stands : slice_get (edges_at f into.branch) number ≡ Some call)
          (path : Path) (given : List ℕ) (old : ℕ → ℕ) (zeros : (w : ℕ) → IsBlank (function.definition w).kind → old w ≡ 0)
        where
          abbrev pub arm : Arm
          arm = record { source = source; target = front b; edge = number }

          abbrev passed : List BlockArg
          passed = carries.own.passed into.branch number

          -- what the construction passes
          abbrev more : List BlockArg
          more = (carries.passes_first b into.branch number into.leads into.to).0

          args_are : call.args ≡ passed ++ more
          args_are = ap args_of (sym call_stands) ∙ (carries.passes_first b into.branch number into.leads into.to).1

          -- the bits that the caller's parameters get, those that the others get, and the bits of values where these have theirs
          abbrev pub mine : List ℕ
          mine = map (argument_bits (λ (v : ℕ). old (resolved f v)) given) (map argument_of passed)

          abbrev theirs : List ℕ
          theirs = map (argument_bits (λ (v : ℕ). old (resolved f v)) given) (map argument_of more)

          abbrev pub new : ℕ → ℕ
          new = assigned same_value others theirs old

          mine_count : length mine ≡ length (parameters B named)
          mine_count = map_length (argument_bits (λ (v : ℕ). old (resolved f v)) given) (map argument_of passed) ∙ map_length argument_of passed ∙ as_many

          -- the bits of values behind the edge
          pub both_parts : (v : ℕ) → assigned same_value (block_at f b).params (map (argument_bits (λ (u : ℕ). old (resolved f u)) given) (map argument_of call.args)) old v
              ≡ assigned same_value (map (answered calls) (parameters B named)) mine new v
          both_parts v =
              ap (λ (bits : List ℕ). assigned same_value (block_at f b).params bits old v)
              (ap (λ (args : List BlockArg). map (argument_bits (λ (u : ℕ). old (resolved f u)) given) (map argument_of args)) args_are
              ∙ ap (map (argument_bits (λ (u : ℕ). old (resolved f u)) given)) (map-append argument_of passed more)
              ∙ map-append (argument_bits (λ (u : ℕ). old (resolved f u)) given) (map argument_of passed) (map argument_of more))
              ∙ in_two_parts B named mine theirs old v mine_count

          -- each of the others takes the argument at its place
          takes : (v : ℕ) (home : param_home f v ≡ Some b) (past : length (carries.own.params b) ≤ place_of v (block_at f b).params)
              → slice_get more (place_of v others) ≡ Some (Value (function.argument v arm))
          takes v home past =
              let at : ℕ = place_of v others in
              let whole = (place_among v home past).0 in
              sym (at_second passed more (length passed + at) at refl)
              ∙ ap (λ (args : List BlockArg). slice_get args (length passed + at)) (sym (carries.passes_first b into.branch number into.leads into.to).1)
              ∙ carries.describes.passes b v arm into (parameter_complete v home past).1 refl (length passed + at) (omega (arith, whole))

          parameter_gets : (v : ℕ) → param_home f v ≡ Some b → length (carries.own.params b) ≤ place_of v (block_at f b).params → new v ≡ old (resolved f (function.argument v arm))
          parameter_gets v home past =
              assigned_at others theirs old v (old (resolved f (function.argument v arm))) (place_among v home past).1
              (map_at (argument_bits (λ (u : ℕ). old (resolved f u)) given) (map argument_of more) (place_of v others) (argument_of (Value (function.argument v arm)))
              (map_at argument_of more (place_of v others) (Value (function.argument v arm)) (takes v home past)))

          other_keeps : (v : ℕ) → (Stands v others → ⊥) → new v ≡ old v
          other_keeps v other = assigned_elsewhere others theirs old v other

          gets : (w : ℕ) → CompleteHere w → new w ≡ old (function.resolve (function.argument w arm))
          gets w (_, defined) =
              let home : param_home f w ≡ Some b = carries.describes.complete_there b w defined in
              parameter_gets w home
              (subst (λ (d : Definition). IsBehind d.kind (place_of w (block_at f b).params) (length (carries.own.params b))) defined (carries.counts.behind b w home))
              ∙ ap old (sym (carries.describes.resolves (function.argument w arm)))

          pub enters : EntersThere live program function arm path (parameters B named) (answered calls) old new
          enters =
              enters_front source number path old new gets (λ w elsewhere. other_keeps w (not_elsewhere w elsewhere))
              (λ w blank. other_keeps w (no_blank w blank)) zeros
