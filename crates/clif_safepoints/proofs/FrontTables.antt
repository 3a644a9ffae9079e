-- Tables of what is live at the fronts of blocks, row by row.
use Rattle.std.proofs.Common.{◌≡◌, ◌≢◌, ◌<◌, ◌≤◌, ◌⊎◌, ◌&&◌, ℕ, Bool, true, false, not, List, [], ◌∷◌, ◌++◌, length, refl, sym, ap, subst, ◌∙◌, arith, inl, inr, eqb, slice_index, slice_set}
use Rattle.std.specs.Prelude.{Contains}
use Rattle.std.proofs.lemmas.List.{get_or-set_other}
use Rattle.std.proofs.lemmas.List.Elements.{Contains-append_left, Contains-push, Contains-push_cases}
use Rattle.std.proofs.lemmas.Grind.{get_or-set_at}
use Rattle.std.proofs.lemmas.Bool.Decides.{eqb_tells}
use Rattle.std.proofs.Math.ListN.{get_or-eq_default, length-set}
use Rattle.clif_number_sets.specs.Sets.{IsSet, is_in}
use Rattle.clif_instructions.specs.Members.{stands_in}
use Rattle.clif_ir.specs.Body.{Body, block_at}
use Rattle.clif_safepoints.specs.FrontTables.{AreFronts, AreNoFronts, AreRowsOf, FrontTables, IsFrontPut, IsRowPut, before_params}
use Rattle.clif_safepoints.specs.LastPass.{IsRow, row_at}
use Rattle.clif_safepoints.specs.Sets.{in_set_of}
use Rattle.clif_safepoints.specs.Tables.{AreRows}
use Rattle.clif_safepoints.specs.Transfer.{insts_of, is_live_before}
use Rattle.clif_safepoints.proofs.Recording.{row_alike}

-- ONE ROW ---------------------------------------------------------------------------------------------------------------

pub row_put : (values : List ℕ) (test : ℕ → Bool) (block : ℕ) (old new : List (List ℕ)) (row : List ℕ) → block < length old → new ≡ slice_set old block row → IsRow values test row
    → IsRowPut values test block old new
row_put values test block old new row inside is row_is = record {
  size = ap length is ∙ length-set old block row;
  others = λ b other. ap (λ table. row_at table b) is ∙ get_or-set_other old block b row [] other;
  row = subst (λ r. IsRow values test r) (sym (ap (λ table. row_at table block) is ∙ get_or-set_at old block block row [] refl inside)) row_is;
}

-- what is live before the parameters, from the set without them
pub row_before : (f : Body) (values : List ℕ) (block : ℕ) (live new : List Bool) (row : List ℕ)
    → IsSet (length values) (λ k. not (stands_in (slice_index values k) (block_at f block).params) && is_in live k) new → IsRow values (is_in new) row
    → IsRow values (before_params f values (is_in live) block) row
row_before f values block live new row set row_is = row_alike values (is_in new) (before_params f values (is_in live) block) row set.members row_is

-- TABLES ----------------------------------------------------------------------------------------------------------------

rows_none : (values : List ℕ) (test : ℕ → ℕ → Bool) (count : ℕ) (rows : List (List ℕ)) → AreRows count (λ block. []) rows → AreRowsOf values test count [] rows
rows_none values test count rows empty = record {
  size = empty.size;
  each = λ b h. absurd (omega (arith, h.1));
  none = λ b h. by b (order b count);
}
  where
    order : (i j : ℕ) → (i < j) ⊎ (j ≤ i)
    order i j = grind arith

    by : (b : ℕ) → (b < count) ⊎ (count ≤ b) → row_at rows b ≡ []
    by b (inl inside) = empty.rows b inside
    by b (inr past) = get_or-eq_default rows [] (subst (λ n. n ≤ b) (sym empty.size) past)

rows_more : (values : List ℕ) (test : ℕ → ℕ → Bool) (own : ℕ → Bool) (count : ℕ) (blocks : List ℕ) (block : ℕ) (mid new : List (List ℕ))
    → ((k : ℕ) → k < length values → own k ≡ test block k) → AreRowsOf values test count blocks mid → IsRowPut values own block mid new
    → AreRowsOf values test count (blocks ++ block ∷ []) new
rows_more values test own count blocks block mid new same so_far put = record {
  size = put.size ∙ so_far.size;
  each = λ b h. by b (eqb_tells b block) (Contains-push_cases blocks block b h);
  none = λ b h. empty b h (eqb_tells b block);
}
  where
    by : (b : ℕ) → ((eqb b block ≡ true) × (b ≡ block)) ⊎ ((eqb b block ≡ false) × (b ≢ block)) → Contains blocks b ⊎ (block ≡ b) → IsRow values (test b) (row_at new b)
    by b (inl here) which =
        subst (λ x. IsRow values (test x) (row_at new x)) (sym here.1) (row_alike values own (test block) (row_at new block) same put.row)
    by b (inr apart) (inl old) = subst (λ row. IsRow values (test b) row) (sym (put.others b apart.1)) (so_far.each b old)
    by b (inr apart) (inr here) = absurd (apart.1 (sym here))

    empty : (b : ℕ) → (Contains (blocks ++ block ∷ []) b → ⊥) → ((eqb b block ≡ true) × (b ≡ block)) ⊎ ((eqb b block ≡ false) × (b ≢ block)) → row_at new b ≡ []
    empty b h (inl here) = absurd (h (subst (λ x. Contains (blocks ++ block ∷ []) x) (sym here.1) (Contains-push blocks block)))
    empty b h (inr apart) = put.others b apart.1 ∙ so_far.none b (λ m. h (Contains-append_left blocks (block ∷ []) b m))

pub fronts_none : (f : Body) (values : List ℕ) (sets : List (List Bool)) (count : ℕ) (tables : FrontTables) → count ≡ length f.blocks → AreNoFronts count tables
    → AreFronts f values sets [] tables
fronts_none f values sets count tables size none = record {
  live_in = rows_none values _ (length f.blocks) tables.live_in (subst (λ n. AreRows n (λ block. []) tables.live_in) size none.live_in);
  after_params = rows_none values _ (length f.blocks) tables.after_params (subst (λ n. AreRows n (λ block. []) tables.after_params) size none.after_params);
}

pub fronts_more : (f : Body) (values : List ℕ) (sets : List (List Bool)) (blocks : List ℕ) (block : ℕ) (live : List Bool) (mid new : FrontTables)
    → IsSet (length values) (λ k. is_live_before f (in_set_of sets k) (slice_index values k) (insts_of f block)) live
    → AreFronts f values sets blocks mid → IsFrontPut f values (is_in live) block mid new → AreFronts f values sets (blocks ++ block ∷ []) new
fronts_more f values sets blocks block live mid new set so_far put = record {
  live_in = rows_more values _ (before_params f values (is_in live) block) (length f.blocks) blocks block mid.live_in new.live_in
      (λ k below. ap (λ (b : Bool). not (stands_in (slice_index values k) (block_at f block).params) && b) (set.members k below)) so_far.live_in put.live_in;
  after_params = rows_more values _ (is_in live) (length f.blocks) blocks block mid.after_params new.after_params set.members so_far.after_params put.after_params;
}
