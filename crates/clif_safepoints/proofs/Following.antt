-- The targets of an instruction's edges, in the order in which a search follows them.
use Rattle.std.proofs.Common.{◌≡◌, ◌+◌, ◌⊎◌, ℕ, zero, suc, List, [], ◌∷◌, ◌++◌, length, length-append, refl, subst, ◌∙◌, arith, inl, inr, Option, Some, None}
use Rattle.std.specs.Prelude.{Contains}
use Rattle.std.proofs.lemmas.List.Elements.{Contains-append_left, Contains-append_right, Contains-push_cases}
use Rattle.clif_instructions.specs.Edges.{targets}
use Rattle.clif_instructions.specs.ExceptionTables.{ExceptionShape}
use Rattle.clif_instructions.specs.Instruction.{destinations, exception_table}
use Rattle.clif_instructions.specs.declared.instructions.InstructionData.{InstructionData}
use Rattle.clif_safepoints.specs.Order.{first_to_back}
use Rattle.clif_safepoints.specs.Transfer.{in_order, targets_followed}

-- what an instruction has for its edges, in another order
to_back_alike : {X : Type 0} (xs : List X) (x : X) → Contains (first_to_back xs) x → Contains xs x
to_back_alike [] x h = h
to_back_alike (y ∷ xs) x h = by (Contains-push_cases xs y x h)
  where
    by : Contains xs x ⊎ (y ≡ x) → Contains (y ∷ xs) x
    by (inl rest) = (suc rest.0, (let inside = rest.1 in omega (arith, inside)), rest.2)
    by (inr first) = (0, omega arith, first)

alike_to_back : {X : Type 0} (xs : List X) (x : X) → Contains xs x → Contains (first_to_back xs) x
alike_to_back [] x h = h
alike_to_back (y ∷ xs) x (zero, inside, is) = subst (λ z. Contains (xs ++ y ∷ []) z) is (Contains-append_right xs (y ∷ []) y (0, omega arith, refl))
alike_to_back (y ∷ xs) x (suc k, inside, is) = Contains-append_left xs (y ∷ []) x (k, omega (arith, inside), is)

to_back_long : {X : Type 0} (xs : List X) → length (first_to_back xs) ≡ length xs
to_back_long [] = refl
to_back_long (x ∷ xs) = length-append xs (x ∷ []) ∙ (let e : length xs + 1 ≡ suc (length xs) = omega arith in e)

pub followed_to : (shape : InstructionData) (t : ℕ) → Contains (targets_followed shape) t → Contains (targets (destinations shape)) t
followed_to shape t = by (exception_table shape)
  where
    by : (table : Option ExceptionShape) → Contains (in_order table (targets (destinations shape))) t → Contains (targets (destinations shape)) t
    by None h = h
    by (Some table) h = to_back_alike (targets (destinations shape)) t h

pub followed_from : (shape : InstructionData) (t : ℕ) → Contains (targets (destinations shape)) t → Contains (targets_followed shape) t
followed_from shape t = by (exception_table shape)
  where
    by : (table : Option ExceptionShape) → Contains (targets (destinations shape)) t → Contains (in_order table (targets (destinations shape))) t
    by None h = h
    by (Some table) h = alike_to_back (targets (destinations shape)) t h

pub followed_long : (shape : InstructionData) → length (targets_followed shape) ≡ length (targets (destinations shape))
followed_long shape = by (exception_table shape)
  where
    by : (table : Option ExceptionShape) → length (in_order table (targets (destinations shape))) ≡ length (targets (destinations shape))
    by None = refl
    by (Some table) = to_back_long (targets (destinations shape))
