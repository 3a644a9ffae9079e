-- The structure that the construction keeps: the look-up of a parameter ends.
use Rattle.std.proofs.Common.{◌≡◌, ◌≢◌, ℕ, ◌<◌, ◌≤◌, Bool, true, false, List, [], ◌∷◌, ◌++◌, length, map, refl, ap, arith, sym, ◌∙◌, subst, ◌⊎◌, inl, inr, ◌+◌}
use Rattle.std.specs.Prelude.{Option, Some, None, Contains, cond, slice_get, slice_index_or}
use Rattle.std.specs.List.{AllByRecursion}
use Rattle.std.proofs.lemmas.Bool.{cases_eq}
use Rattle.std.proofs.lemmas.List.{append_assoc}
use Rattle.std.proofs.lemmas.List.Elements.{Contains-push_cases}
use Rattle.clif_types.specs.declared.types.«Type».{«Type»}
use Rattle.clif_ir.specs.Body.{Body, value_at, block_at, resolved}
use Rattle.clif_nodes.specs.Nodes.{no_value}
use Rattle.clif_ir.specs.Changes.{with_alias, with_layout, inserted_in, with_branch_argument}
use Rattle.clif_instructions.specs.Members.{Once, stands_in, without}
use Rattle.clif_instructions.specs.Instruction.{destinations}
use Rattle.clif_ir.specs.Reading.{param_home}
use Rattle.clif_instructions.specs.declared.block_call.BlockArg.{BlockArg}
use Rattle.clif_instructions.specs.declared.block_call.BlockArg.TheVariants.{Value}
use Rattle.clif_nodes.specs.declared.nodes.InstNode.{InstNode}
use Rattle.clif_nodes.specs.declared.nodes.ValueNode.{ValueNode}
use Rattle.clif_nodes.specs.declared.nodes.ValueOrigin.TheVariants.{Alias}
use Rattle.clif_instructions.proofs.Lists.{at_set}
use Rattle.clif_instructions.proofs.Members.{Once-tail}
use Rattle.clif_ssa.specs.Own.{Own}
use Rattle.clif_records.specs.declared.tables.Pending.{Pending}
use Rattle.clif_records.specs.Tables.{is_yes}
use Rattle.clif_ssa.specs.Ssa.{SsaState, sealed_of, predecessors_of, zeroed, zero_value}
use Rattle.clif_ssa.specs.LookUp.{with_arguments}
use Rattle.clif_ssa.specs.Sound.{edges_at, edge_target, args_of}
use Rattle.clif_ssa.specs.Structure.{IsNeededZero}
use Rattle.clif_ssa.specs.Structured.{VariableTypes, HasType, AreFor, EdgePasses, HasParameters, Structured, waiting_in}
use Rattle.clif_ssa.proofs.Alike.{can_zero}
use Rattle.clif_ssa.proofs.Bodies.{Firm, param_exists}
use Rattle.clif_ssa.proofs.Completing.{inserted_same, inserted_firm, inserted_param_home}
use Rattle.clif_ssa.proofs.Ordering.{contains_first, contains_more, contains_cons, entry_any}
use Rattle.clif_ssa.proofs.Passing.{zero_passed, Passing, AllExist, one_passes, args_more, args_same, inst_other, edges_here, others_stay, exist_then}
use Rattle.clif_ssa.proofs.Zeroing.{CanAlias, alias_ends, alias_insts, alias_params, alias_count_same, alias_home_other}
use Rattle.clif_ssa.proofs.NeededZeros.{Longer, OnlyNeeded, needed_kept, longer}
use Rattle.clif_ssa.proofs.Structuring.{Grows, edge_kept, complete_exist, edges_keep, waiting_homes, block_kept}
use Rattle.clif_ssa.proofs.StructuredSteps.{TakesAway, params_in, once_behind, waiting_first, waiting_elsewhere}
use Rattle.clif_ssa.proofs.ZeroSteps.{put_param_home, put_params, put_zero}
use Rattle.clif_ssa.specs.Zeros.{steps_before, ZeroAt}

none_some : {x : ℕ} → ◌≡◌ {A = Option ℕ} None (Some x) → ⊥
none_some same = cc

-- IN A ZERO -------------------------------------------------------------------------------------------------------

put_takes : (f : Body) (b v : ℕ) (ty : «Type») → Firm f → param_home f v ≡ Some b → ty ≡ (value_at f v).ty → TakesAway f (with_alias (put_zero f b ty) v (zero_value f ty)) v b
put_takes f b v ty firm is typed =
    let k : Body = put_zero f b ty in
    let can : CanAlias k v (zero_value f ty) b = can_zero f b v ty firm is in
    record {
      longer = longer f b v ty firm is typed;
      params = λ c.
          let same : (block_at k c).params ≡ (block_at f c).params = put_params f b ty c in
          elim (alias_params k v (zero_value f ty) b can c) [
            | inl here ↦ inl (here.0, here.1 ∙ ap (without v) same)
            | inr apart ↦ inr (apart.0, apart.1 ∙ same)
          ];
      others = λ u other. alias_home_other k v (zero_value f ty) u other ∙ put_param_home f b ty u;
    }

entered_takes : (f g : Body) (b v : ℕ) → TakesAway (inserted_in f b) g v b → TakesAway f g v b
entered_takes f g b v = by (stands_in b f.layout)
  where
    by : (test : Bool) → TakesAway (cond test f (with_layout f b)) g v b → TakesAway f g v b
    by true takes = takes
    by false takes = record {
      longer = record {
        values_more = takes.longer.values_more;
        insts_more = takes.longer.insts_more;
        inst_same = takes.longer.inst_same;
        constants_kept = takes.longer.constants_kept;
        types_same = takes.longer.types_same;
        home_same = takes.longer.home_same;
      };
      params = takes.params;
      others = takes.others;
    }

-- a parameter becomes a name of a zero
pub zero_takes : (f : Body) (b v : ℕ) → Firm f → param_home f v ≡ Some b → TakesAway f (zeroed f b v) v b
zero_takes f b v firm is =
    let h : Body = inserted_in f b in
    let count : length h.values ≡ length f.values = ap length (inserted_same f b).values in
    let same_type : (value_at f v).ty ≡ (value_at h v).ty = ap (λ values. (slice_index_or values v no_value).ty) (sym (inserted_same f b).values) in
    entered_takes f (zeroed f b v) b v
    (subst (λ n. TakesAway h (with_alias (put_zero h b (value_at f v).ty) v (n + steps_before (value_at f v).ty)) v b) count
    (put_takes h b v (value_at f v).ty (inserted_firm f b firm) (inserted_param_home f b v ∙ is) same_type))

-- IN A VALUE ------------------------------------------------------------------------------------------------------

module _ (f : Body) (b v w : ℕ) (can : CanAlias f v w b) where
  abbrev g : Body
  g = with_alias f v w

  alias_type : (u : ℕ) → (value_at g u).ty ≡ (value_at f u).ty
  alias_type u =
      at_set (λ (n : ValueNode). n.ty ≡ (value_at f u).ty) f.values v (record (value_at f v) { origin = Alias (resolved f w) }) u no_value
      (param_exists f v b can.parameter) (λ same. ap (λ t. (value_at f t).ty) (sym same)) (λ other. refl)

  alias_longer : Longer f g
  alias_longer = record {
    values_more = omega (arith, alias_count_same f v w);
    insts_more = omega arith;
    inst_same = λ i here. refl;
    constants_kept = λ constant bytes here. here;
    types_same = λ u here. alias_type u;
    home_same = λ u here none. alias_home_other f v w u (λ same. none_some (sym none ∙ ap (param_home f) same ∙ can.parameter)) ∙ none;
  }

  -- a parameter becomes a name of a value
  pub value_takes : TakesAway f g v b
  value_takes = record { longer = alias_longer; params = alias_params f v w b can; others = λ u other. alias_home_other f v w u other }

  alias_zeros : (zeros : List ZeroAt) → AllByRecursion (IsNeededZero f) zeros → AllByRecursion (IsNeededZero g) zeros
  alias_zeros [] all = tt
  alias_zeros (n ∷ zeros) all = (
    needed_kept f g n alias_longer all.0 (
        elim (alias_ends f v w b can all.0.alias) [
          | inl moved ↦ absurd (none_some (sym all.0.no_parameter ∙ ap (param_home f) (sym all.0.stands_for ∙ moved.0) ∙ can.parameter))
          | inr stayed ↦ stayed.1 ∙ all.0.stands_for
        ]
        ),
    alias_zeros zeros all.1,
  )

  -- where that has its type, no other type changes
  pub value_needed : (own : ℕ → List ℕ) → (value_at f w).ty ≡ (value_at f v).ty → OnlyNeeded own f → OnlyNeeded own g
  value_needed own typed before = record {
    alias_types = λ u.
        elim (alias_ends f v w b can u) [
          | inl moved ↦
              ap (λ t. (value_at g t).ty) moved.1 ∙ alias_type w ∙ typed ∙ ap (λ t. (value_at f t).ty) (sym moved.0) ∙ before.alias_types u ∙ sym (alias_type u)
          | inr stayed ↦ ap (λ t. (value_at g t).ty) stayed.1 ∙ alias_type (resolved f u) ∙ before.alias_types u ∙ sym (alias_type u)
        ];
    zeros = λ c. record {
      zeros = (before.zeros c).zeros;
      in_order = alias_insts f v w b can c ∙ (before.zeros c).in_order;
      needed = alias_zeros (before.zeros c).zeros (before.zeros c).needed;
    };
  }

-- IN A PARAMETER --------------------------------------------------------------------------------------------------

-- an edge of a branch passes one of the values more
pub record Given (f g : Body) (j k : ℕ) (values : List ℕ) : Type 0 where
  pub value : ℕ
  pub among : Contains values value
  pub args : args_of (slice_get (edges_at g j) k) ≡ args_of (slice_get (edges_at f j) k) ++ Value value ∷ []

pub given : (branches values : List ℕ) (f : Body) (b j k : ℕ) → AllExist f branches → Once branches → length values ≡ length branches → Contains branches j
    → edge_target f j k ≡ Some b → Given f (with_arguments f b branches values) j k values
given [] values f b j k exist once count here leads = absurd (omega (arith, here.1))
given (i ∷ branches) [] f b j k exist once count here leads = absurd (omega (arith, count))
given (i ∷ branches) (v ∷ values) f b j k exist once count here leads =
    let f' : Body = with_branch_argument f i b v in
    let within : i < length f.insts = exist i (contains_first i branches) in
    let first : Passing b f f' = one_passes f i b v within in
    let exist' : AllExist f' branches = exist_then f f' i branches first.count exist in
    let induction : Contains branches j → Given f' (with_arguments f' b branches values) j k values =
    λ there. given branches values f' b j k exist' (Once-tail i branches once) (omega (arith, count)) there (first.target j k ∙ leads) in
    elim (cases_eq j i) [
      | inl same ↦
          let new : args_of (slice_get (edges_at f' i) k) ≡ args_of (slice_get (edges_at f i) k) ++ Value v ∷ [] =
          ap (λ es. args_of (slice_get es k)) (edges_here f i b v within) ∙ args_more b v (edges_at f i) k (ap (λ n. edge_target f n k) (sym same) ∙ leads) in
          let now : args_of (slice_get (edges_at (with_arguments f' b branches values) i) k) ≡ args_of (slice_get (edges_at f' i) k) =
          ap (λ (n : InstNode). args_of (slice_get (destinations n.shape) k)) (others_stay branches values f' b i exist' (λ there. once_behind [] branches i i once there refl)) in
          record {
            value = v;
            among = contains_first v values;
            args = ap (λ n. args_of (slice_get (edges_at (with_arguments f' b branches values) n) k)) same ∙ now ∙ new
                ∙ ap (λ n. args_of (slice_get (edges_at f n) k) ++ Value v ∷ []) (sym same);
          }
      | inr other ↦
          let there : Contains branches j = elim (contains_cons i branches j here) [ inl same ↦ absurd (other (sym same)) | inr later ↦ later ] in
          let rest : Given f' (with_arguments f' b branches values) j k values = induction there in
          record {
            value = rest.value;
            among = contains_more v values rest.value rest.among;
            args = rest.args ∙ ap (λ (n : InstNode). args_of (slice_get (destinations n.shape) k) ++ Value rest.value ∷ []) (inst_other f i b v j within other);
          }
    ]

-- an edge to another block stays as it is
pub elsewhere : (branches values : List ℕ) (f : Body) (b j k : ℕ) → AllExist f branches → edge_target f j k ≢ Some b
    → args_of (slice_get (edges_at (with_arguments f b branches values) j) k) ≡ args_of (slice_get (edges_at f j) k)
elsewhere [] values f b j k exist apart = refl
elsewhere (i ∷ branches) [] f b j k exist apart = refl
elsewhere (i ∷ branches) (v ∷ values) f b j k exist apart =
    let f' : Body = with_branch_argument f i b v in
    let within : i < length f.insts = exist i (contains_first i branches) in
    let first : Passing b f f' = one_passes f i b v within in
    elsewhere branches values f' b j k (exist_then f f' i branches first.count exist) (λ leads. apart (sym (first.target j k) ∙ leads))
    ∙ elim (cases_eq j i) [
      | inl same ↦
          ap (λ n. args_of (slice_get (edges_at f' n) k)) same ∙ ap (λ es. args_of (slice_get es k)) (edges_here f i b v within)
          ∙ args_same b v (edges_at f i) k (λ leads. apart (ap (λ n. edge_target f n k) same ∙ leads))
          ∙ ap (λ n. args_of (slice_get (edges_at f n) k)) (sym same)
      | inr other ↦ ap (λ (n : InstNode). args_of (slice_get (destinations n.shape) k)) (inst_other f i b v j within other)
    ]

-- two values that differ are two at least
pub two_apart : (xs : List ℕ) (x y : ℕ) → Contains xs x → Contains xs y → x ≢ y → 2 ≤ length xs
two_apart xs x y first second apart =
    let places : first.0 ≢ second.0 =
    λ same. apart (sym first.2 ∙ ap (λ k. slice_index_or xs k x) same ∙ entry_any xs second.0 x y second.1 ∙ second.2) in
    omega (arith, first.1, second.1, places)

needed_with : (own : ℕ → List ℕ) (f : Body) (insts : List InstNode) (b : ℕ) → Passing b f (record f { insts = insts }) → OnlyNeeded own f → OnlyNeeded own (record f { insts = insts })
needed_with own f insts b passing before = record {
  alias_types = before.alias_types;
  zeros = λ c. record { zeros = (before.zeros c).zeros; in_order = (before.zeros c).in_order; needed = all (before.zeros c).zeros (before.zeros c).needed };
}
  where
    all : (zeros : List ZeroAt) → AllByRecursion (IsNeededZero f) zeros → AllByRecursion (IsNeededZero (record f { insts = insts })) zeros
    all [] needed = tt
    all (z ∷ zeros) needed = (
      record {
        stands = zero_passed b f (record f { insts = insts }) z passing needed.0.stands;
        no_parameter = needed.0.no_parameter;
        alias = needed.0.alias;
        another = needed.0.another;
        stands_for = needed.0.stands_for;
      },
      all zeros needed.1,
    )

are_for_pushed : (f : Body) (values params : List ℕ) (v p : ℕ) → AreFor f values params → HasType f v (value_at f p).ty → AreFor f (values ++ v ∷ []) (params ++ p ∷ [])
are_for_pushed f [] [] v p are typed = (typed, tt)
are_for_pushed f [] (q ∷ params) v p are typed = absurd are
are_for_pushed f (w ∷ values) [] v p are typed = absurd are
are_for_pushed f (w ∷ values) (q ∷ params) v p are typed = (are.0, are_for_pushed f values params v p are.1 typed)

passes_more : (f : Body) (made : List BlockArg) (params : List ℕ) (args args' : List BlockArg) (v p : ℕ) → EdgePasses f made params args → HasType f v (value_at f p).ty
    → args' ≡ args ++ Value v ∷ [] → EdgePasses f made (params ++ p ∷ []) args'
passes_more f made params args args' v p passes typed more = record {
  values = passes.values ++ v ∷ [];
  in_order = more ∙ ap (λ xs. xs ++ Value v ∷ []) passes.in_order ∙ append_assoc made (map Value passes.values) (Value v ∷ [])
      ∙ ap (λ xs. made ++ xs) (sym (pushed passes.values));
  are_for = are_for_pushed f passes.values params v p passes.are_for typed;
}
  where
    pushed : (values : List ℕ) → map Value (values ++ v ∷ []) ≡ map Value values ++ Value v ∷ []
    pushed [] = refl
    pushed (w ∷ values) = ap (λ xs. Value w ∷ xs) (pushed values)

-- each edge to the block, of a branch that leads there, passes one value more, of this type
pub record Fills (f g : Body) (s : SsaState) (b : ℕ) (ty : «Type») : Type 0 where
  pub passing : Passing b f g
  pub more : (i k : ℕ) → Contains (predecessors_of s b) i → edge_target f i k ≡ Some b
      → (v : ℕ) × HasType f v ty × (args_of (slice_get (edges_at g i) k) ≡ args_of (slice_get (edges_at f i) k) ++ Value v ∷ [])
  pub others : (i k : ℕ) → edge_target f i k ≢ Some b → args_of (slice_get (edges_at g i) k) ≡ args_of (slice_get (edges_at f i) k)

same_some : {x y : ℕ} → ◌≡◌ {A = Option ℕ} (Some x) (Some y) → x ≡ y
same_some same = cc

-- the first of those that are completed is complete
filled_with : (types : VariableTypes) (own : Own) (f : Body) (insts : List InstNode) (s : SsaState) (p : Pending) (ps : List Pending) (b : ℕ) → Firm f
    → param_home f p.param ≡ Some b → is_yes (sealed_of s b) ≡ true → 2 ≤ length (predecessors_of s b) → Fills f (record f { insts = insts }) s b (value_at f p.param).ty
    → Structured types own f s (p ∷ ps) → Structured types own (record f { insts = insts }) s ps
filled_with types own f insts s p ps b firm home sealed two fills before =
    let g : Body = record f { insts = insts } in
    let grows : Grows f g = record { more = omega arith; types = λ v here. refl } in
    let same_homes : (c : ℕ) → waiting_in g s ps c ≡ waiting_in f s ps c = λ c. waiting_homes f g (sealed_of s c) ps c (λ q here. refl) in
    let needed : OnlyNeeded own.insts g = needed_with own.insts f insts b fills.passing (record { alias_types = before.alias_types; zeros = before.zeros }) in
    record {
      parameters = λ c.
          let has : HasParameters own f s (p ∷ ps) c = before.parameters c in
          elim (cases_eq c b) [
            | inl at ↦
                let home_here : param_home f p.param ≡ Some c = home ∙ ap Some (sym at) in
                let sealed_here : is_yes (sealed_of s c) ≡ true = subst (λ d. is_yes (sealed_of s d) ≡ true) (sym at) sealed in
                record {
                  complete = has.complete ++ p.param ∷ [];
                  in_order = has.in_order ∙ ap (λ ws. own.params c ++ (has.complete ++ params_in ws)) (waiting_first f s p ps c home_here sealed_here)
                      ∙ ap (λ xs. own.params c ++ xs) (sym (append_assoc has.complete (p.param ∷ []) (params_in (waiting_in f s ps c))))
                      ∙ ap (λ ws. own.params c ++ ((has.complete ++ p.param ∷ []) ++ params_in ws)) (sym (same_homes c));
                  several = λ some. (sealed_here, subst (λ d. 2 ≤ length (predecessors_of s d)) (sym at) two);
                  edges = λ i k leads to.
                      let was : edge_target f i k ≡ Some c = sym (fills.passing.target i k) ∙ to in
                      let one = fills.more i k (subst (λ d. Contains (predecessors_of s d) i) at leads) (was ∙ ap Some at) in
                      edge_kept f g (own.passed i k) (has.complete ++ p.param ∷ []) _ grows
                      (λ q here.
                      elim (Contains-push_cases has.complete p.param q here) [
                        | inl old ↦ complete_exist own f s (p ∷ ps) c firm has q old
                        | inr new ↦ omega (arith, param_exists f p.param b home, new)
                      ])
                      (passes_more f (own.passed i k) has.complete _ _ one.0 p.param (has.edges i k leads was) one.1 one.2);
                }
            | inr apart ↦
                block_kept own f g s s (p ∷ ps) ps c (edges_keep f g c grows firm) refl
                (same_homes c ∙ sym (waiting_elsewhere f (sealed_of s c) p ps b c home apart)) (λ is. is) refl
                (λ i k leads to.
                let was : edge_target f i k ≡ Some c = sym (fills.passing.target i k) ∙ to in
                (was, fills.others i k (λ same. apart (same_some (sym was ∙ same)))))
                has
          ];
      alias_types = needed.alias_types;
      zeros = needed.zeros;
      recorded = before.recorded;
      waiting = λ c q here. before.waiting c q (still c q (subst (λ ws. Contains ws q) (same_homes c) here) (cases_eq c b));
      leading = λ c i here. let old : i < length f.insts = before.leading c i here in omega (arith, old, fills.passing.count);
      leading_once = before.leading_once;
    }
  where
    still : (c : ℕ) (q : Pending) → Contains (waiting_in f s ps c) q → (c ≡ b) ⊎ (c ≢ b) → Contains (waiting_in f s (p ∷ ps) c) q
    still c q here (inl same) =
        subst (λ ws. Contains ws q)
        (sym (waiting_first f s p ps c (home ∙ ap Some (sym same)) (subst (λ d. is_yes (sealed_of s d) ≡ true) (sym same) sealed)))
        (contains_more p (waiting_in f s ps c) q here)
    still c q here (inr other) = subst (λ ws. Contains ws q) (sym (waiting_elsewhere f (sealed_of s c) p ps b c home other)) here

pub filled : (types : VariableTypes) (own : Own) (f g : Body) (s : SsaState) (p : Pending) (ps : List Pending) (b : ℕ) → Firm f
    → param_home f p.param ≡ Some b → is_yes (sealed_of s b) ≡ true → 2 ≤ length (predecessors_of s b) → Fills f g s b (value_at f p.param).ty
    → Structured types own f s (p ∷ ps) → Structured types own g s ps
filled types own f g s p ps b firm home sealed two fills before =
    let same : g ≡ record f { insts = g.insts } = fills.passing.same in
    subst (λ h. Structured types own h s ps) (sym same)
    (filled_with types own f g.insts s p ps b firm home sealed two (subst (λ h. Fills f h s b (value_at f p.param).ty) same fills) before)
