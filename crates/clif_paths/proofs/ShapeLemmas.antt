-- Lists of parameters and arguments.
use Rattle.std.proofs.Common.{◌≡◌, ◌≢◌, ℕ, suc, ◌+◌, ◌-◌, ◌≤◌, List, [], ◌∷◌, ◌++◌, length, ◌⊎◌, inl, inr, refl, sym, ◌∙◌, ap, arith}
use Rattle.std.specs.Prelude.{remove}
use Rattle.std.proofs.lemmas.List.Edits.{remove-append_right}
use Rattle.clif_paths.specs.Shape.{Types, Parameter, values_of, HasParameter, Apart, GivesEach, SameTypes}

pub values-append : (ps qs : List Parameter) → values_of (ps ++ qs) ≡ values_of ps ++ values_of qs
values-append [] qs = refl
values-append (p ∷ ps) qs = ap (λ vs. p.value ∷ vs) (values-append ps qs)

pub length-values : (ps : List Parameter) → length (values_of ps) ≡ length ps
length-values [] = refl
length-values (p ∷ ps) = ap suc (length-values ps)

pub append_nil : {A : Type 0} → (xs : List A) → xs ++ [] ≡ xs
append_nil [] = refl
append_nil (x ∷ xs) = ap (λ ys. x ∷ ys) (append_nil xs)

pub has_first : (ps qs : List Parameter) (p : Parameter) → HasParameter (ps ++ qs) p → HasParameter ps p ⊎ HasParameter qs p
has_first [] qs p has = inr has
has_first (r ∷ ps) qs p (inl e) = inl (inl e)
has_first (r ∷ ps) qs p (inr has) = deeper (has_first ps qs p has)
  where
    deeper : HasParameter ps p ⊎ HasParameter qs p → HasParameter (r ∷ ps) p ⊎ HasParameter qs p
    deeper (inl h) = inl (inr h)
    deeper (inr h) = inr h

-- one parameter more, of a variable that none of them is for
pub apart_more : (ps : List Parameter) (p : Parameter) → Apart ps → ((q : Parameter) → HasParameter ps q → q.variable ≢ p.variable) → Apart (ps ++ (p ∷ []))
apart_more [] p apart other = (λ q has. absurd has, tt)
apart_more (r ∷ ps) p apart other =
    (λ q has. apart_by q (has_first ps (p ∷ []) q has), apart_more ps p apart.1 (λ q has. other q (inr has)))
  where
    apart_by : (q : Parameter) → HasParameter ps q ⊎ HasParameter (p ∷ []) q → q.variable ≢ r.variable
    apart_by q (inl has) = apart.0 q has
    apart_by q (inr (inl e)) = λ same. other r (inl refl) (sym same ∙ ap (λ (k : Parameter). k.variable) e)
    apart_by q (inr (inr none)) = absurd none

pub gives_more :
    (types : Types) (ps : List Parameter) (as' : List ℕ) (p : Parameter) (a : ℕ) → GivesEach types ps as' →
    types.of_value a ≡ types.of_variable p.variable → GivesEach types (ps ++ (p ∷ [])) (as' ++ (a ∷ []))
gives_more types [] [] p a each typed = (typed, tt)
gives_more types [] (b ∷ bs) p a each typed = absurd each
gives_more types (q ∷ ps) [] p a each typed = absurd each
gives_more types (q ∷ ps) (b ∷ bs) p a each typed = (each.0, gives_more types ps bs p a each.1 typed)

-- without parameters no arguments
pub gives_none : (types : Types) (given : List ℕ) → GivesEach types [] given → given ≡ []
gives_none types [] each = refl
gives_none types (a ∷ given) each = absurd each

pub gives_types :
    (types : Types) (ps : List Parameter) (as' : List ℕ) → GivesEach types ps as' →
    ((p : Parameter) → HasParameter ps p → types.of_value p.value ≡ types.of_variable p.variable) → SameTypes types as' (values_of ps)
gives_types types [] [] each typed = tt
gives_types types [] (a ∷ as') each typed = absurd each
gives_types types (p ∷ ps) [] each typed = absurd each
gives_types types (p ∷ ps) (a ∷ as') each typed =
    (each.0 ∙ sym (typed p (inl refl)), gives_types types ps as' each.1 (λ q has. typed q (inr has)))

pub types_append :
    (types : Types) (vs ws vs' ws' : List ℕ) → SameTypes types vs ws → SameTypes types vs' ws' → SameTypes types (vs ++ vs') (ws ++ ws')
types_append types [] [] vs' ws' same more = more
types_append types [] (w ∷ ws) vs' ws' same more = absurd same
types_append types (v ∷ vs) [] vs' ws' same more = absurd same
types_append types (v ∷ vs) (w ∷ ws) vs' ws' same more = (same.0, types_append types vs ws vs' ws' same.1 more)

remove_head : (v : ℕ) (vs : List ℕ) (n : ℕ) → n ≡ 0 → remove (v ∷ vs) n ≡ vs
remove_head v vs n e = rw e refl

-- removing what stands behind two lists
pub remove_behind : (xs ys zs : List ℕ) (v n : ℕ) → length xs + length ys ≡ n → remove (xs ++ (ys ++ (v ∷ zs))) n ≡ xs ++ (ys ++ zs)
remove_behind xs ys zs v n e =
    let le : length xs ≤ n = omega arith in
    let le' : length ys ≤ n - length xs = omega arith in
    let none : n - length xs - length ys ≡ 0 = omega arith in
    remove-append_right xs (ys ++ (v ∷ zs)) (length xs) n refl le ∙
    ap (λ t. xs ++ t) (remove-append_right ys (v ∷ zs) (length ys) (n - length xs) refl le' ∙
    ap (λ t. ys ++ t) (remove_head v zs (n - length xs - length ys) none))
