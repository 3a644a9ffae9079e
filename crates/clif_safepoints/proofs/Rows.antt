-- Tables row by row, and walks along a list by what follows each entry.
use Rattle.std.proofs.Common.{◌≡◌, ◌+◌, ◌<◌, ◌≤◌, ◌⊎◌, ℕ, zero, suc, List, [], ◌∷◌, ◌++◌, length, get_or, take, refl, sym, ap, subst, ◌∙◌, arith, inl, inr, Option, Some, None, slice_index_or, slice_index, length-append}
use Rattle.std.specs.Prelude.{slice_get}
use Rattle.std.specs.List.{flat_map}
use Rattle.std.proofs.lemmas.List.{append-nil, take_more, take_all, get_or_append_left, get_or_default}
use Rattle.std.proofs.Math.Seq.{get_or-append_seam}
use Rattle.std.proofs.lemmas.Grind.{flat_map-append}
use Rattle.std.proofs.lemmas.Option.{slice_get_within, get_or_from_slice_get}
use Rattle.clif_instructions.specs.Members.{Once, next_in}
use Rattle.clif_instructions.proofs.Members.{next_in-at}
use Rattle.clif_safepoints.specs.Graph.{arcs, leads_to, sources_of}
use Rattle.clif_safepoints.specs.Tables.{AreRows}

pub rows_none : (row : ℕ → List ℕ) → AreRows 0 row []
rows_none row = record { size = refl; rows = λ k below. absurd (omega arith) }

pub rows_push : (n : ℕ) (row : ℕ → List ℕ) (table : List (List ℕ)) (x : List ℕ) → AreRows n row table → x ≡ row n → AreRows (n + 1) row (table ++ x ∷ [])
rows_push n row table x so_far is = record {
  size = length-append table (x ∷ []) ∙ ap (λ k. k + 1) so_far.size;
  rows = λ k below. by k (order k n below);
}
  where
    order : (k n : ℕ) → k < n + 1 → (k < n) ⊎ (k ≡ n)
    order k n below = grind arith

    by : (k : ℕ) → (k < n) ⊎ (k ≡ n) → get_or (table ++ x ∷ []) k [] ≡ row k
    by k (inl before) = get_or_append_left table (x ∷ []) [] k (subst (λ m. k < m) (sym so_far.size) before) ∙ so_far.rows k before
    by k (inr last) =
        ap (λ m. get_or (table ++ x ∷ []) m []) (last ∙ sym so_far.size) ∙ get_or-append_seam table x [] [] ∙ is ∙ ap row (sym last)

-- a walk along a list: what was passed, and what comes next
pub record Walking (xs done : List ℕ) (next : Option ℕ) : Type 0 where
  pub here : next ≡ slice_get xs (length done)
  pub passed : done ≡ take (length done) xs

pub walk_start : (xs : List ℕ) {next : Option ℕ} → next ≡ slice_get xs 0 → Walking xs [] next
walk_start xs first = record { here = first; passed = refl }

pub walk_inside : {xs done : List ℕ} {next : Option ℕ} {x : ℕ} → Walking xs done next → next ≡ Some x → (length done < length xs) × (slice_index xs (length done) ≡ x)
walk_inside {xs} {done} {next} {x} walk is =
    let at : slice_get xs (length done) ≡ Some x = sym walk.here ∙ is in
    (slice_get_within xs (length done) x at, get_or_from_slice_get xs (length done) x 0 at)

pub walk_step : {xs done done' : List ℕ} {next after : Option ℕ} {x : ℕ} → Walking xs done next → next ≡ Some x → Once xs → done' ≡ done ++ x ∷ [] → after ≡ next_in xs x
    → Walking xs done' after
walk_step {xs} {done} {done'} {next} {after} {x} walk is once more follows =
    let at = walk_inside walk is in
    let long : length done' ≡ length done + 1 = ap length more ∙ length-append done (x ∷ []) in
    record {
      here = follows ∙ next_in-at xs (length done) x once at.0 at.1 ∙ ap (slice_get xs) (sym long);
      passed = more ∙ ap (λ ys. ys ++ x ∷ []) walk.passed ∙ ap (λ y. take (length done) xs ++ y ∷ []) (sym at.1)
          ∙ sym (take_more xs (length done) 0 at.0) ∙ ap (λ n. take n xs) (sym long);
    }

past : (xs : List ℕ) (place : ℕ) → slice_get xs place ≡ None → length xs ≤ place
past [] place is = omega arith
past (x ∷ xs) zero is = cc
past (x ∷ xs) (suc place) is = let rest : length xs ≤ place = past xs place is in omega (arith, rest)

pub walk_end : {xs done : List ℕ} {next : Option ℕ} → Walking xs done next → next ≡ None → done ≡ xs
walk_end {xs} {done} walk is = walk.passed ∙ take_all (length done) xs (past xs (length done) (sym walk.here ∙ is))

-- one more piece of a list of pieces
pub flat_more : {X Y : Type 0} (f : X → List Y) (xs : List X) (i : ℕ) (x : X) → i < length xs → get_or xs i x ≡ x → flat_map f (take (i + 1) xs) ≡ flat_map f (take i xs) ++ f x
flat_more f xs i x inside is =
    ap (flat_map f) (take_more xs i x inside) ∙ flat_map-append f (take i xs) (get_or xs i x ∷ [])
    ∙ ap (λ ys. flat_map f (take i xs) ++ ys) (append-nil (f (get_or xs i x)) ∙ ap f is)

-- a row of a table, by the number that an index has
pub row_at : {X : Type 0} (rows : List X) (index number : ℕ) (row default : X) → row ≡ slice_index_or rows index row → index ≡ number → number < length rows
    → row ≡ slice_index_or rows number default
row_at rows index number row default is same inside =
    is ∙ ap (λ k. slice_index_or rows k row) same ∙ get_or_default rows number row default inside

-- the sources, with those of one more block
pub sources_more : (graph : List (List ℕ)) (order : List ℕ) (i block : ℕ) (before after : List (List ℕ)) → i < length order → block ≡ get_or order i block
    → AreRows (length graph) (sources_of graph (take i order)) before
    → AreRows (length before) (λ target. leads_to before target ++ arcs graph target block) after
    → AreRows (length graph) (sources_of graph (take (i + 1) order)) after
sources_more graph order i block before after inside is so_far now = record {
  size = now.size ∙ so_far.size;
  rows = λ target below.
      now.rows target (subst (λ n. target < n) (sym so_far.size) below) ∙ ap (λ xs. xs ++ arcs graph target block) (so_far.rows target below)
      ∙ sym (flat_more (arcs graph target) order i block inside (sym is));
}
