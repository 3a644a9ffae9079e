-- The program behind calls that decide in blocks of their own.
use Rattle.std.proofs.Common.{◌≡◌, ◌⊎◌, inl, inr, ℕ, suc, Bool, true, false, List, [], ◌∷◌, ◌++◌, refl, sym, ◌∙◌, ap, subst, Option, Some, None, append_assoc}
use Rattle.std.specs.Prelude.{fold, if◌then◌else◌}
use Rattle.std.specs.List.{AllByRecursion}
use Rattle.clif_meaning.specs.Name.{Name, same_name}
use Rattle.clif_meaning.specs.Program.{Program, Item, Instruct, first_block, result_names, with_call, with_inserted, with_item_at}
use Rattle.clif_meaning.specs.Request.{CreateBlock, SwitchToBlock, SealBlock, MakeEdge, MakeJumpTable, Build, Script}
use Rattle.clif_expansion.specs.Switching.{BeginsHere, IsDecidingCall}
use Rattle.clif_expansion.proofs.Names.{names_equal}

-- it is said of each item that is built, from this place on
abbrev pub AllBuilt : (Item → Type 0) → (place : ℕ) → Script → Type 0
AllBuilt Q place [] = Unit {0}
AllBuilt Q place (Build entries instruction ∷ more) = Q (Instruct place instruction (result_names place instruction)) × AllBuilt Q (suc place) more
AllBuilt Q place (_ ∷ more) = AllBuilt Q (suc place) more

-- it is said of each block that becomes the current one
abbrev pub AllSwitched : (Name → Type 0) → Script → Type 0
AllSwitched New [] = Unit {0}
AllSwitched New (SwitchToBlock x ∷ more) = New x × AllSwitched New more
AllSwitched New (_ ∷ more) = AllSwitched New more

pub all_one : {X : Type 0} (P : X → Type 0) (xs : List X) (x : X) → AllByRecursion P xs → P x → AllByRecursion P (xs ++ x ∷ [])
all_one P [] x all is = (is, tt)
all_one P (y ∷ xs) x all is = (all.0, all_one P xs x all.1 is)

no_more : (xs : List Item) → xs ≡ xs ++ []
no_more [] = refl
no_more (x ∷ xs) = ap (λ (rest : List Item). x ∷ rest) (no_more xs)

module _ (Q : Item → Type 0) (New : Name → Type 0) (block : Name) (base tables : ℕ) (targets : List Name) (start : Program) where
  -- the items of a block, behind those at the start
  pub record GrownAt (now : Program) (x : Name) : Type 0 where
    pub new : List Item
    pub split : now.items x ≡ start.items x ++ new
    pub all : AllByRecursion Q new
    pub side : (new ≡ []) ⊎ (x ≡ block) ⊎ New x

  pub record Grown (now : Program) : Type 0 where
    pub parameters : (x : Name) → now.parameters x ≡ start.parameters x
    pub each : (x : Name) → GrownAt now x
    pub current : Name
    pub at : now.current ≡ Some current
    pub side : (current ≡ block) ⊎ New current

  pub starting : start.current ≡ Some block → Grown start
  starting at = record {
    parameters = λ x. refl;
    each = λ x. record { new = []; split = no_more (start.items x); all = tt; side = inl refl };
    current = block;
    at = at;
    side = inl refl;
  }

  same_items : (now after : Program) → (now.items ≡ after.items) → (now.parameters ≡ after.parameters) → (now.current ≡ after.current) → Grown now → Grown after
  same_items now after items parameters current grown = record {
    parameters = λ x. ap (λ (f : Name → List Name). f x) (sym parameters) ∙ grown.parameters x;
    each = λ x.
        let was = grown.each x in
        record { new = was.new; split = ap (λ (f : Name → List Item). f x) (sym items) ∙ was.split; all = was.all; side = was.side };
    current = grown.current;
    at = sym current ∙ grown.at;
    side = grown.side;
  }

  -- an item more
  built_at : (now : Program) (c : Name) (item : Item) → (c ≡ block) ⊎ New c → Q item → (x : Name) → GrownAt now x → GrownAt (with_item_at (with_inserted now) (Some c) item) x
  built_at now c item side is x was = by (same_name x c) refl
    where
      x_side : (c ≡ block) ⊎ New c → x ≡ c → (x ≡ block) ⊎ New x
      x_side (inl here) same = inl (same ∙ here)
      x_side (inr own) same = inr (subst New (sym same) own)

      by : (d : Bool) → same_name x c ≡ d → GrownAt (with_item_at (with_inserted now) (Some c) item) x
      by true same = record {
        new = was.new ++ item ∷ [];
        split = ap (λ (e : Bool). if e then now.items x ++ item ∷ [] else now.items x) same
            ∙ ap (λ (xs : List Item). xs ++ item ∷ []) was.split ∙ append_assoc (start.items x) was.new (item ∷ []);
        all = all_one Q was.new item was.all is;
        side = inr (x_side side (names_equal x c same));
      }
      by false same = record {
        new = was.new;
        split = ap (λ (e : Bool). if e then now.items x ++ item ∷ [] else now.items x) same ∙ was.split;
        all = was.all;
        side = was.side;
      }

  building : (now : Program) (item : Item) → Q item → Grown now → Grown (with_item_at (with_inserted now) now.current item)
  building now item is grown =
      subst (λ (c : Option Name). Grown (with_item_at (with_inserted now) c item)) (sym grown.at)
      (record {
        parameters = grown.parameters;
        each = λ x. built_at now grown.current item grown.side is x (grown.each x);
        current = grown.current;
        at = grown.at;
        side = grown.side;
      })

  pub grown_more : (more : Script) (now : Program) → AllByRecursion (IsDecidingCall base tables targets) more → AllBuilt Q now.place more → AllSwitched New more → Grown now
      → Grown (fold with_call now more)
  grown_more [] now deciding built switched grown = grown
  grown_more (CreateBlock ∷ more) now deciding built switched grown = grown_more more (with_call now CreateBlock) deciding.1 built switched (same_items now (with_call now CreateBlock) refl refl refl grown)
  grown_more (SwitchToBlock x ∷ more) now deciding built switched grown =
      grown_more more (with_call now (SwitchToBlock x)) deciding.1 built switched.1
      (record {
        parameters = grown.parameters;
        each = λ y. let was = grown.each y in record { new = was.new; split = was.split; all = was.all; side = was.side };
        current = x;
        at = refl;
        side = inr switched.0;
      })
  grown_more (SealBlock x ∷ more) now deciding built switched grown = grown_more more (with_call now (SealBlock x)) deciding.1 built switched (same_items now (with_call now (SealBlock x)) refl refl refl grown)
  grown_more (MakeEdge edge ∷ more) now deciding built switched grown = grown_more more (with_call now (MakeEdge edge)) deciding.1 built switched (same_items now (with_call now (MakeEdge edge)) refl refl refl grown)
  grown_more (MakeJumpTable default entries ∷ more) now deciding built switched grown =
      grown_more more (with_call now (MakeJumpTable default entries)) deciding.1 built switched (same_items now (with_call now (MakeJumpTable default entries)) refl refl refl grown)
  grown_more (Build entries instruction ∷ more) now deciding built switched grown =
      let item : Item = Instruct now.place instruction (result_names now.place instruction) in
      grown_more more (with_call now (Build entries instruction)) deciding.1 built.1 switched
      (same_items (with_item_at (with_inserted now) now.current item) (with_call now (Build entries instruction)) refl refl refl (building now item built.0 grown))
  grown_more (_ ∷ more) now deciding built switched grown = absurd deciding.0

-- THE ENTRY ---------------------------------------------------------------------------------------------------------------

first_again : (entry : Option Name) (block : Name) (current : Option Name) → first_block (first_block entry (Some block)) current ≡ first_block entry (Some block)
first_again None block current = refl
first_again (Some e) block current = refl

item_entry : (program : Program) (current : Option Name) (item : Item) → (with_item_at program current item).entry ≡ program.entry
item_entry program None item = refl
item_entry program (Some block) item = refl

entry_behind : (base tables : ℕ) (targets : List Name) (block : Name) (entry : Option Name) (more : Script) (now : Program) → AllByRecursion (IsDecidingCall base tables targets) more
    → now.entry ≡ first_block entry (Some block) → (fold with_call now more).entry ≡ first_block entry (Some block)
entry_behind base tables targets block entry [] now deciding is = is
entry_behind base tables targets block entry (CreateBlock ∷ more) now deciding is = entry_behind base tables targets block entry more (with_call now CreateBlock) deciding.1 is
entry_behind base tables targets block entry (SwitchToBlock x ∷ more) now deciding is = entry_behind base tables targets block entry more (with_call now (SwitchToBlock x)) deciding.1 is
entry_behind base tables targets block entry (SealBlock x ∷ more) now deciding is = entry_behind base tables targets block entry more (with_call now (SealBlock x)) deciding.1 is
entry_behind base tables targets block entry (MakeEdge edge ∷ more) now deciding is = entry_behind base tables targets block entry more (with_call now (MakeEdge edge)) deciding.1 is
entry_behind base tables targets block entry (MakeJumpTable default entries ∷ more) now deciding is =
    entry_behind base tables targets block entry more (with_call now (MakeJumpTable default entries)) deciding.1 is
entry_behind base tables targets block entry (Build entries instruction ∷ more) now deciding is =
    entry_behind base tables targets block entry more (with_call now (Build entries instruction)) deciding.1
    (item_entry (with_inserted now) now.current (Instruct now.place instruction (result_names now.place instruction))
    ∙ ap (λ (e : Option Name). first_block e now.current) is ∙ first_again entry block now.current)
entry_behind base tables targets block entry (_ ∷ more) now deciding is = absurd deciding.0

pub entry_of : (base tables : ℕ) (targets : List Name) (block : Name) (more : Script) (now : Program) → AllByRecursion (IsDecidingCall base tables targets) more → BeginsHere more
    → now.current ≡ Some block → (fold with_call now more).entry ≡ first_block now.entry (Some block)
entry_of base tables targets block [] now deciding begins at = absurd begins
entry_of base tables targets block (CreateBlock ∷ more) now deciding begins at = entry_of base tables targets block more (with_call now CreateBlock) deciding.1 begins.1 at
entry_of base tables targets block (MakeEdge edge ∷ more) now deciding begins at = entry_of base tables targets block more (with_call now (MakeEdge edge)) deciding.1 begins.1 at
entry_of base tables targets block (MakeJumpTable default entries ∷ more) now deciding begins at =
    entry_of base tables targets block more (with_call now (MakeJumpTable default entries)) deciding.1 begins.1 at
entry_of base tables targets block (Build entries instruction ∷ more) now deciding begins at =
    entry_behind base tables targets block now.entry more (with_call now (Build entries instruction)) deciding.1
    (item_entry (with_inserted now) now.current (Instruct now.place instruction (result_names now.place instruction)) ∙ ap (first_block now.entry) at)
entry_of base tables targets block (_ ∷ more) now deciding begins at = absurd begins.0

-- CANCELLED ---------------------------------------------------------------------------------------------------------------

tail_of : List Item → List Item
tail_of [] = []
tail_of (x ∷ xs) = xs

pub cancelled : (front xs ys : List Item) → front ++ xs ≡ front ++ ys → xs ≡ ys
unfolding tail_of
cancelled [] xs ys same = same
cancelled (x ∷ front) xs ys same = cancelled front xs ys (ap tail_of same)
