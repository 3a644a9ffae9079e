-- Which item of the program assigns, reads or gives what the tables have as assigned, read or given.
use Rattle.std.proofs.Common.{◌≡◌, ◌≢◌, ℕ, zero, suc, ◌==◌, if◌then◌else◌, Bool, true, false, List, [], ◌∷◌, Option, Some, None, Contains, ◌⊎◌, inl, inr, refl, sym, ◌∙◌, ap, subst}
use Rattle.std.proofs.lemmas.Bool.{eqb-true}
use Rattle.clif_paths.specs.Places.{Place, inside, start}
use Rattle.clif_paths.specs.State.{fresh, reads, Naming}
use Rattle.clif_paths.specs.Blocks.{Blocks}
use Rattle.clif_meaning.specs.Name.{Name}
use Rattle.clif_meaning.specs.Program.{Item, Instruct, Use, Assign}
use Rattle.clif_meaning.specs.Request.{AnsweredCall}
use Rattle.clif_meaning.specs.WellPlaced.{item_gives}
use Rattle.clif_meaning.proofs.StraightLine.{nothing_contained}
use Rattle.clif_simulation.specs.Reading.{IsGivenFresh}
use Rattle.clif_simulation.specs.Tables.{IsGiven, IsParameter, IsProgramOf, assigned_by, block_name, code, item_at, origin_of, program_so_far}
use Rattle.clif_simulation.proofs.Codes
use Rattle.clif_simulation.proofs.Finished.Giving.{contained_in}
use Rattle.clif_simulation.proofs.Finished.Placing.{contained}

none_some : (c : ℕ) → None ≡ Some c → ⊥
none_some c h = cc

some_is : (x y : ℕ) → Some x ≡ Some y → x ≡ y
some_is x y e = cc

fresh_no_read : (x : ℕ) → fresh ≡ reads x → ⊥
fresh_no_read x h = cc

reads_same : (x y : ℕ) → reads x ≡ reads y → x ≡ y
reads_same x y h = cc

alone : (x y : Name) → Contains (x ∷ []) y → y ≡ x
alone x y there = by (contained_in (x ∷ []) y there)
  where
    by : (y ≡ x) ⊎ ⊥ → y ≡ x
    by (inl same) = same
    by (inr none) = absurd none

-- an item of a block assigns the name with this number to the variable
pub record IsAssigned (calls : List AnsweredCall) (x c : ℕ) : Type 0 where
  pub from : Name
  pub coded : code from ≡ c
  pub block : Name
  pub index : ℕ
  pub stands : item_at calls block index ≡ Some (Assign x from)

-- an item of a block is a use of the variable that gives the name
pub record IsRead (calls : List AnsweredCall) (x : ℕ) (n : Name) : Type 0 where
  pub block : Name
  pub index : ℕ
  pub stands : item_at calls block index ≡ Some (Use x n)

module _ (calls : List AnsweredCall) (T : Blocks) (program : IsProgramOf calls T) where
  assigned_here : (block : Name) (k x c : ℕ) (item : Option Item) → item_at calls block k ≡ item → assigned_by item x ≡ Some c → IsAssigned calls x c
  assigned_here block k x c None stands is = absurd (none_some c is)
  assigned_here block k x c (Some (Instruct place instruction results)) stands is = absurd (none_some c is)
  assigned_here block k x c (Some (Use y used)) stands is = absurd (none_some c is)
  assigned_here block k x c (Some (Assign y from)) stands is = by (x == y) refl is
    where
      by : (test : Bool) → (x == y) ≡ test → (if test then Some (code from) else None) ≡ Some c → IsAssigned calls x c
      by true one is = record {
        from = from;
        coded = some_is (code from) c is;
        block = block;
        index = k;
        stands = stands ∙ ap (λ (z : ℕ). Some (Assign z from)) (sym (eqb-true x y one));
      }
      by false other none = absurd (none_some c none)

  assigned_in : (b k x c : ℕ) (o : Option Name) → block_name calls b ≡ o → T.assigned (inside b k) x ≡ Some c → IsAssigned calls x c
  assigned_in b k x c None named is = absurd (none_some c (sym (program.elsewhere_nothing b k x named) ∙ is))
  assigned_in b zero x c (Some B) named is = absurd (none_some c (sym (program.front_assigns_nothing b x) ∙ is))
  assigned_in b (suc k) x c (Some B) named is = assigned_here B k x c (item_at calls B k) refl (sym (program.assigned b k B named x) ∙ is)

  pub assigned_item : (place : Place) (x c : ℕ) → T.assigned place x ≡ Some c → IsAssigned calls x c
  assigned_item start x c is = absurd (none_some c (sym (program.start_assigns_nothing x) ∙ is))
  assigned_item (inside b k) x c is = assigned_in b k x c (block_name calls b) refl is

  module _ (n : Name) (begun : (T.naming (code n)).home ≢ start) where
    read_by : (x : ℕ) → (T.naming (code n)).origin ≡ reads x → (g : IsGiven calls T (code n)) (item : Item) → g.item ≡ item → IsRead calls x n
    read_by x is g (Instruct place instruction results) here =
        absurd (fresh_no_read x (sym (ap (λ (m : Naming). m.origin) g.naming ∙ ap origin_of here) ∙ is))
    read_by x is g (Use y used) here =
        let gives : Contains (used ∷ []) g.name = subst (λ (i : Item). Contains (item_gives (Some i)) g.name) here g.gives in
        let name : used ≡ n = sym (alone used g.name gives) ∙ Codes.differ g.name n g.coded in
        let variable : y ≡ x = reads_same y x (sym (ap (λ (m : Naming). m.origin) g.naming ∙ ap origin_of here) ∙ is) in
        record {
          block = g.block_is;
          index = g.index;
          stands = g.stands ∙ ap (λ (i : Item). Some i) here ∙ ap (λ (m : Name). Some (Use y m)) name ∙ ap (λ (z : ℕ). Some (Use z n)) variable;
        }
    read_by x is g (Assign y from) here = absurd (nothing_contained g.name (subst (λ (i : Item). Contains (item_gives (Some i)) g.name) here g.gives))

    -- a use gives what the tables have as read
    pub read_item : (x : ℕ) → (T.naming (code n)).origin ≡ reads x → IsRead calls x n
    read_item x is = by (program.given_only (code n) begun)
      where
        by : IsGiven calls T (code n) ⊎ IsParameter calls T (code n) → IsRead calls x n
        by (inl g) = read_by x is g g.item refl
        by (inr p) = absurd (fresh_no_read x (sym (ap (λ (m : Naming). m.origin) p.naming) ∙ is))

    fresh_by : (T.naming (code n)).origin ≡ fresh → (g : IsGiven calls T (code n)) (item : Item) → g.item ≡ item → IsGivenFresh (program_so_far calls) n
    fresh_by is g (Instruct place instruction results) here = inl (record {
      block = g.block_is;
      place = place;
      instruction = instruction;
      results = results;
      stands = contained ((program_so_far calls).items g.block_is) g.index (Instruct place instruction results) (g.stands ∙ ap (λ (i : Item). Some i) here);
      among = subst (λ (m : Name). Contains results m) (Codes.differ g.name n g.coded)
          (subst (λ (i : Item). Contains (item_gives (Some i)) g.name) here g.gives);
    })
    fresh_by is g (Use y used) here = absurd (fresh_no_read y (sym is ∙ ap (λ (m : Naming). m.origin) g.naming ∙ ap origin_of here))
    fresh_by is g (Assign y from) here = absurd (nothing_contained g.name (subst (λ (i : Item). Contains (item_gives (Some i)) g.name) here g.gives))

    -- what the tables have as given afresh an instruction gives, or a block's entry
    pub given_fresh : (T.naming (code n)).origin ≡ fresh → IsGivenFresh (program_so_far calls) n
    given_fresh is = by (program.given_only (code n) begun)
      where
        by : IsGiven calls T (code n) ⊎ IsParameter calls T (code n) → IsGivenFresh (program_so_far calls) n
        by (inl g) = fresh_by is g g.item refl
        by (inr p) = inr (p.block_is, subst (λ (m : Name). Contains ((program_so_far calls).parameters p.block_is) m) (Codes.differ p.name n p.coded) p.stands)
