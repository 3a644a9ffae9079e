-- Moves whose tests pass keep a sheet sound.
use Rattle.std.proofs.Common.{◌≡◌, ◌≢◌, ℕ, suc, Bool, true, cond, ◌==◌, ◌&&◌, ◌||◌, Option, None, Some, List, [], ◌∷◌, ◌++◌, ◌⊎◌, inl, inr, refl, sym, ◌∙◌, ap}
use Rattle.clif_paths.specs.Places.{Place, start, inside, same_place, Arm, Edges}
use Rattle.clif_paths.specs.State.{unborn, born, pending, complete, zero_of, Definition}
use Rattle.clif_paths.specs.Steps.{updated, aliased}
use Rattle.clif_paths.specs.Blocks.{Blocks, front, last_place, CanAppend, Carries, KnownSomewhere, WaitsIn}
use Rattle.clif_paths.specs.BlockLaws.{BlocksSound}
use Rattle.clif_paths.specs.Moves.{Write, Sheet, blank, Move, seal_with, go_on, give_name, read_variable, write_variable, copy_record, add_parameter, fill_parameter, drop_parameter, add_zero, undefine_parameter, listed, each_arm, some_arm, differs, is_none_at, says, is_zero, assigns_not, carries_from, each_into, is_new_name, is_new_value, waits_in, allows, after, after_all, allows_all}
use Rattle.clif_paths.proofs.Tables.{updated_cases, aliased_cases, record_cases}
use Rattle.clif_paths.proofs.PathLemmas.{same_place-true, same_place-equal, same_place-other, dec_place}
use Rattle.clif_paths.proofs.BlockSteps.{first_sound, seal_block_keeps, item_keeps, born_keeps, read_keeps, write_keeps, copy_keeps, parameter_keeps, filled_keeps, dropped_keeps, zero_in_keeps, undefined_keeps}
use Rattle.clif_paths.proofs.Checked.{first_of_and, second_of_and, of_or, differs_false, differs_place, number_true, says_some, none_at, zero_kind, same_definition, each_listed, some_passes, listed_first, listed_second, HasWrite, each_has, HasValue, SheetFits, assigns_not_told, carries_told, into_told, new_name_told, new_value_home, new_value_end, waits_told}

-- a sheet that fits, with sound tables
pub record SheetSound (sheet : Sheet) : Type 0 where
  pub tables : BlocksSound sheet.blocks
  pub fits : SheetFits sheet

-- Fitting ---------------------------------------------------------------------------------------------------------

joined_by :
    (into joins : Edges) (p : Place) (arms more : List Arm) (arm : Arm) → Dec (arm.target ≡ p) →
    ((arm : Arm) → joins arm ≡ true → listed more arm ≡ true) → ((arm : Arm) → into arm ≡ true → listed arms arm ≡ true) →
    cond (same_place arm.target p) (into arm) (joins arm) ≡ true → listed (arms ++ more) arm ≡ true
joined_by into joins p arms more arm (yes at) old new e =
    listed_first arms more arm (new arm (rw (same_place-equal arm.target p at) at e))
joined_by into joins p arms more arm (no ne) old new e =
    listed_second arms more arm (old arm (rw (same_place-other arm.target p ne) at e))

fits_sealed : (sheet : Sheet) (b : ℕ) (arms : List Arm) → SheetFits sheet → SheetFits (after sheet (seal_with b arms))
unfolding after
fits_sealed sheet b arms fits = record {
  arms = λ arm e.
      joined_by (listed arms) sheet.blocks.joins (front b) arms sheet.arms arm (dec_place arm.target (front b)) fits.arms (λ a h. h) e;
  writes = fits.writes;
  values = fits.values;
  ends = fits.ends;
}

write_told :
    (writes : List Write) (place : Place) (x n : ℕ) (p : Place) (y m : ℕ) (assigned : Place → ℕ → Option ℕ) →
    ((p : Place) (x n : ℕ) → assigned p x ≡ Some n → HasWrite writes (record { place = p; name = n })) →
    ((p ≡ place) × (y ≡ x) × (n ≡ m)) ⊎ ((p ≡ place → y ≢ x) × (assigned p y ≡ Some m)) →
    HasWrite (record { place = place; name = n } ∷ writes) (record { place = p; name = m })
write_told writes place x n p y m assigned old (inl new) = inl (λ i. record { place = new.0 i; name = sym new.2 i })
write_told writes place x n p y m assigned old (inr kept) = inr (old p y m kept.1)

pub fits_written : (sheet : Sheet) (b x n : ℕ) → SheetFits sheet → SheetFits (after sheet (write_variable b x n))
unfolding after
fits_written sheet b x n fits = record {
  arms = fits.arms;
  writes = λ p y m e.
      write_told sheet.writes (last_place sheet.blocks b) x n p y m sheet.blocks.assigned fits.writes
      (record_cases sheet.blocks.assigned (last_place sheet.blocks b) x n p y m e);
  values = fits.values;
  ends = fits.ends;
}

value_told :
    (values : List ℕ) (definition : ℕ → Definition) (v : ℕ) (new : Definition) (u : ℕ) →
    HasValue values u ⊎ ((definition u).kind ≡ unborn) →
    ((u ≡ v) × (updated definition v new u ≡ new)) ⊎ ((u ≢ v) × (updated definition v new u ≡ definition u)) →
    HasValue (v ∷ values) u ⊎ ((updated definition v new u).kind ≡ unborn)
value_told values definition v new u old (inl c) = inl (inl c.0)
value_told values definition v new u (inl has) (inr c) = inl (inr has)
value_told values definition v new u (inr none) (inr c) = inr (ap (λ (d : Definition). d.kind) c.1 ∙ none)

-- a new value is listed
fits_new :
    (sheet : Sheet) (v : ℕ) (new : Definition) → SheetFits sheet →
    (u : ℕ) → HasValue (v ∷ sheet.values) u ⊎ ((updated sheet.blocks.function.definition v new u).kind ≡ unborn)
fits_new sheet v new fits u =
    value_told sheet.values sheet.blocks.function.definition v new u (fits.values u) (updated_cases sheet.blocks.function.definition v new u)

refilled :
    (values : List ℕ) (definition : ℕ → Definition) (v : ℕ) (new : Definition) (x : ℕ) → (definition v).kind ≡ pending x → (u : ℕ) →
    HasValue values u ⊎ ((definition u).kind ≡ unborn) →
    ((u ≡ v) × (updated definition v new u ≡ new)) ⊎ ((u ≢ v) × (updated definition v new u ≡ definition u)) →
    HasValue values u ⊎ ((updated definition v new u).kind ≡ unborn)
refilled values definition v new x waiting u (inl has) c = inl has
refilled values definition v new x waiting u (inr none) (inl c) =
    let here : (definition v).kind ≡ unborn = ap (λ w. (definition w).kind) (sym c.0) ∙ none in
    let clash : pending x ≡ unborn = sym waiting ∙ here in
    absurd cc
refilled values definition v new x waiting u (inr none) (inr c) = inr (ap (λ (d : Definition). d.kind) c.1 ∙ none)

ends_by :
    (resolve : ℕ → ℕ) (v target u : ℕ) → resolve target ≡ target → resolve (resolve u) ≡ resolve u →
    ((resolve u ≡ v) × (aliased resolve v target u ≡ target)) ⊎ ((resolve u ≢ v) × (aliased resolve v target u ≡ resolve u)) →
    ((resolve (aliased resolve v target u) ≡ v) × (aliased resolve v target (aliased resolve v target u) ≡ target)) ⊎
    ((resolve (aliased resolve v target u) ≢ v) × (aliased resolve v target (aliased resolve v target u) ≡ resolve (aliased resolve v target u))) →
    aliased resolve v target (aliased resolve v target u) ≡ aliased resolve v target u
ends_by resolve v target u root ends (inl c) (inl d) = d.1 ∙ sym c.1
ends_by resolve v target u root ends (inl c) (inr d) = d.1 ∙ ap resolve c.1 ∙ root ∙ sym c.1
ends_by resolve v target u root ends (inr c) (inl d) = absurd (c.0 (sym ends ∙ ap resolve (sym c.1) ∙ d.0))
ends_by resolve v target u root ends (inr c) (inr d) = d.1 ∙ ap resolve c.1 ∙ ends ∙ sym c.1

-- aliases keep their ends
fits_aliased :
    (sheet : Sheet) (v target : ℕ) → sheet.blocks.function.resolve target ≡ target → SheetFits sheet → (u : ℕ) →
    aliased sheet.blocks.function.resolve v target (aliased sheet.blocks.function.resolve v target u) ≡ aliased sheet.blocks.function.resolve v target u
fits_aliased sheet v target root fits u =
    let resolve : ℕ → ℕ = sheet.blocks.function.resolve in
    ends_by resolve v target u root (fits.ends u) (aliased_cases resolve v target u) (aliased_cases resolve v target (aliased resolve v target u))

-- Moves -----------------------------------------------------------------------------------------------------------

move_seal : (sheet : Sheet) (b : ℕ) (arms : List Arm) → allows sheet (seal_with b arms) ≡ true → SheetSound sheet → SheetSound (after sheet (seal_with b arms))
unfolding allows after
move_seal sheet b arms e before = record {
  tables = seal_block_keeps sheet.blocks b (listed arms) (differs_false (sheet.blocks.sealed b) e) before.tables;
  fits = fits_sealed sheet b arms before.fits;
}

append_told : (sheet : Sheet) (b : ℕ) → SheetFits sheet → allows sheet (go_on b) ≡ true → CanAppend sheet.blocks b
unfolding allows
append_told sheet b fits e = record {
  unassigned = λ x. unassigned_by x (sheet.blocks.assigned (inside b (suc (sheet.blocks.count b))) x) refl;
}
  where
    unassigned_by : (x : ℕ) (o : Option ℕ) → sheet.blocks.assigned (inside b (suc (sheet.blocks.count b))) x ≡ o → sheet.blocks.assigned (inside b (suc (sheet.blocks.count b))) x ≡ None
    unassigned_by x None here = here
    unassigned_by x (Some n) here =
        absurd (differs_place (inside b (suc (sheet.blocks.count b))) (inside b (suc (sheet.blocks.count b)))
        (each_has (λ w. differs (same_place w.place (inside b (suc (sheet.blocks.count b))))) sheet.writes
        (record { place = inside b (suc (sheet.blocks.count b)); name = n }) e
        (fits.writes (inside b (suc (sheet.blocks.count b))) x n here))
        refl)

move_on : (sheet : Sheet) (b : ℕ) → allows sheet (go_on b) ≡ true → SheetSound sheet → SheetSound (after sheet (go_on b))
unfolding after
move_on sheet b e before = record {
  tables = item_keeps sheet.blocks b (append_told sheet b before.fits e) before.tables;
  fits = record { arms = before.fits.arms; writes = before.fits.writes; values = before.fits.values; ends = before.fits.ends };
}

inside_written : (b k : ℕ) → inside b k ≢ start
inside_written b k e = cc

move_give : (sheet : Sheet) (b n v : ℕ) → allows sheet (give_name b n v) ≡ true → SheetSound sheet → SheetSound (after sheet (give_name b n v))
unfolding allows after
move_give sheet b n v e before =
    let is_value : is_new_value sheet v ≡ true = second_of_and (is_new_name sheet n) (is_new_value sheet v) e in
    record {
      tables = born_keeps sheet.blocks (last_place sheet.blocks b) n v
          (record {
            written = inside_written b (sheet.blocks.count b);
            name = new_name_told sheet n before.fits (first_of_and (is_new_name sheet n) (is_new_value sheet v) e);
            new_value = new_value_home sheet v is_value;
            no_alias = new_value_end sheet v is_value;
          }) before.tables;
      fits = record {
        arms = before.fits.arms;
        writes = before.fits.writes;
        values = fits_new sheet v (record { home = last_place sheet.blocks b; kind = born n }) before.fits;
        ends = before.fits.ends;
      };
    }

move_read : (sheet : Sheet) (b n x v : ℕ) → allows sheet (read_variable b n x v) ≡ true → SheetSound sheet → SheetSound (after sheet (read_variable b n x v))
unfolding allows after
move_read sheet b n x v e before =
    let none : Bool = is_none_at (sheet.blocks.assigned (last_place sheet.blocks b) x) in
    let rest : (none && says (sheet.blocks.recorded b x) v) ≡ true = second_of_and (is_new_name sheet n) (none && says (sheet.blocks.recorded b x) v) e in
    record {
      tables = read_keeps sheet.blocks b n x v
          (record {
            name = new_name_told sheet n before.fits (first_of_and (is_new_name sheet n) (none && says (sheet.blocks.recorded b x) v) e);
            unassigned = none_at (sheet.blocks.assigned (last_place sheet.blocks b) x) (first_of_and none (says (sheet.blocks.recorded b x) v) rest);
            known = record {
              value = v;
              is_recorded = says_some (sheet.blocks.recorded b x) v (second_of_and none (says (sheet.blocks.recorded b x) v) rest);
              resolves = refl;
            };
          }) before.tables;
      fits = record { arms = before.fits.arms; writes = before.fits.writes; values = before.fits.values; ends = before.fits.ends };
    }

move_write : (sheet : Sheet) (b x n : ℕ) → allows sheet (write_variable b x n) ≡ true → SheetSound sheet → SheetSound (after sheet (write_variable b x n))
unfolding allows after
move_write sheet b x n e before =
    let place : Place = last_place sheet.blocks b in
    let none : Bool = is_none_at (sheet.blocks.assigned place x) in
    let given : Bool = differs (same_place (sheet.blocks.naming n).home start) in
    let leaves : Arm → Bool = λ arm. differs (same_place arm.source place) in
    let rest : (given && each_arm leaves sheet.arms) ≡ true = second_of_and none (given && each_arm leaves sheet.arms) e in
    record {
      tables = write_keeps sheet.blocks b x n
          (record {
            unassigned = none_at (sheet.blocks.assigned place x) (first_of_and none (given && each_arm leaves sheet.arms) e);
            is_given = differs_place (sheet.blocks.naming n).home start (first_of_and given (each_arm leaves sheet.arms) rest);
            open_block = λ arm joined.
                differs_place arm.source place
                (each_listed leaves sheet.arms arm (second_of_and given (each_arm leaves sheet.arms) rest) (before.fits.arms arm joined));
          }) before.tables;
      fits = fits_written sheet b x n before.fits;
    }

-- what an arm carries is known somewhere
known_somewhere : (blocks : Blocks) (arm : Arm) (x v w : ℕ) → blocks.function.resolve v ≡ w → Carries blocks arm x w → KnownSomewhere blocks x v
known_somewhere blocks arm x v w ends carries = record {
  block = carries.from;
  known = record { value = carries.value; is_recorded = carries.is_recorded; resolves = carries.resolves ∙ sym ends };
}

move_copy : (sheet : Sheet) (b x v : ℕ) → allows sheet (copy_record b x v) ≡ true → SheetSound sheet → SheetSound (after sheet (copy_record b x v))
unfolding allows after
move_copy sheet b x v e before =
    let test : Arm → Bool = λ arm. carries_from sheet.blocks arm.source x (sheet.blocks.function.resolve v) in
    let both : Bool = each_into sheet b test && some_arm test sheet.arms in
    let rest : (assigns_not sheet.blocks b x && both) ≡ true = second_of_and (sheet.blocks.sealed b) (assigns_not sheet.blocks b x && both) e in
    let told : both ≡ true = second_of_and (assigns_not sheet.blocks b x) both rest in
    let (arm, brings) = some_passes test sheet.arms (second_of_and (each_into sheet b test) (some_arm test sheet.arms) told) in
    record {
      tables = copy_keeps sheet.blocks b x v
          (record {
            is_sealed = first_of_and (sheet.blocks.sealed b) (assigns_not sheet.blocks b x && both) e;
            assigns_not = assigns_not_told sheet.blocks b x (first_of_and (assigns_not sheet.blocks b x) both rest);
            along = λ arm joined at.
                carries_told sheet.blocks arm x (sheet.blocks.function.resolve v)
                (into_told sheet b test before.fits (first_of_and (each_into sheet b test) (some_arm test sheet.arms) told) arm joined at);
            somewhere =
                known_somewhere sheet.blocks arm x v (sheet.blocks.function.resolve v) refl
                (carries_told sheet.blocks arm x (sheet.blocks.function.resolve v) brings);
          }) before.tables;
      fits = record { arms = before.fits.arms; writes = before.fits.writes; values = before.fits.values; ends = before.fits.ends };
    }

move_parameter : (sheet : Sheet) (b x v : ℕ) → allows sheet (add_parameter b x v) ≡ true → SheetSound sheet → SheetSound (after sheet (add_parameter b x v))
unfolding allows after
move_parameter sheet b x v e before =
    let is_value : is_new_value sheet v ≡ true = second_of_and (assigns_not sheet.blocks b x) (is_new_value sheet v) e in
    record {
      tables = parameter_keeps sheet.blocks b x v
          (record {
            assigns_not = assigns_not_told sheet.blocks b x (first_of_and (assigns_not sheet.blocks b x) (is_new_value sheet v) e);
            new_value = new_value_home sheet v is_value;
            no_alias = new_value_end sheet v is_value;
          }) before.tables;
      fits = record {
        arms = before.fits.arms;
        writes = before.fits.writes;
        values = fits_new sheet v (record { home = front b; kind = pending x }) before.fits;
        ends = before.fits.ends;
      };
    }

waiting_kind : (blocks : Blocks) (b x v : ℕ) → WaitsIn blocks b x v → (blocks.function.definition v).kind ≡ pending x
waiting_kind blocks b x v waits = ap (λ (d : Definition). d.kind) waits.is_parameter

move_fill : (sheet : Sheet) (b x v : ℕ) (given : Arm → ℕ) → allows sheet (fill_parameter b x v given) ≡ true → SheetSound sheet → SheetSound (after sheet (fill_parameter b x v given))
unfolding allows after
move_fill sheet b x v given e before =
    let test : Arm → Bool = λ arm. carries_from sheet.blocks arm.source x (sheet.blocks.function.resolve (given arm)) in
    let waits : WaitsIn sheet.blocks b x v = waits_told sheet b x v (first_of_and (waits_in sheet b x v) (each_into sheet b test) e) in
    let new : Definition = record { home = (sheet.blocks.function.definition v).home; kind = complete x } in
    record {
      tables = filled_keeps sheet.blocks b x v given
          (record {
            waits = waits;
            along = λ arm joined at.
                carries_told sheet.blocks arm x (sheet.blocks.function.resolve (given arm))
                (into_told sheet b test before.fits (second_of_and (waits_in sheet b x v) (each_into sheet b test) e) arm joined at);
          }) before.tables;
      fits = record {
        arms = before.fits.arms;
        writes = before.fits.writes;
        values = λ u.
            refilled sheet.values sheet.blocks.function.definition v new x (waiting_kind sheet.blocks b x v waits) u
            (before.fits.values u) (updated_cases sheet.blocks.function.definition v new u);
        ends = before.fits.ends;
      };
    }

either_told :
    (blocks : Blocks) (arm : Arm) (x v target : ℕ) → (carries_from blocks arm.source x target ≡ true) ⊎ (carries_from blocks arm.source x v ≡ true) →
    Carries blocks arm x target ⊎ Carries blocks arm x v
either_told blocks arm x v target (inl e) = inl (carries_told blocks arm x target e)
either_told blocks arm x v target (inr e) = inr (carries_told blocks arm x v e)

move_drop : (sheet : Sheet) (b x v target : ℕ) → allows sheet (drop_parameter b x v target) ≡ true → SheetSound sheet → SheetSound (after sheet (drop_parameter b x v target))
unfolding allows after
move_drop sheet b x v target e before =
    let test : Arm → Bool = λ arm. carries_from sheet.blocks arm.source x target || carries_from sheet.blocks arm.source x v in
    let root : Bool = sheet.blocks.function.resolve target == target in
    let brings : Arm → Bool = λ arm. carries_from sheet.blocks arm.source x target in
    let both : Bool = each_into sheet b test && some_arm brings sheet.arms in
    let rest : (root && both) ≡ true = second_of_and (waits_in sheet b x v) (root && both) e in
    let told : both ≡ true = second_of_and root both rest in
    let (arm, brought) = some_passes brings sheet.arms (second_of_and (each_into sheet b test) (some_arm brings sheet.arms) told) in
    let no_alias : sheet.blocks.function.resolve target ≡ target =
    number_true (sheet.blocks.function.resolve target) target (first_of_and root both rest) in
    record {
      tables = dropped_keeps sheet.blocks b x v target
          (record {
            waits = waits_told sheet b x v (first_of_and (waits_in sheet b x v) (root && both) e);
            no_alias = no_alias;
            somewhere = known_somewhere sheet.blocks arm x target target no_alias (carries_told sheet.blocks arm x target brought);
            along = λ arm joined at.
                either_told sheet.blocks arm x v target
                (of_or (carries_from sheet.blocks arm.source x target) (carries_from sheet.blocks arm.source x v)
                (into_told sheet b test before.fits (first_of_and (each_into sheet b test) (some_arm brings sheet.arms) told) arm joined at));
          }) before.tables;
      fits = record {
        arms = before.fits.arms;
        writes = before.fits.writes;
        values = before.fits.values;
        ends = fits_aliased sheet v target no_alias before.fits;
      };
    }

move_zero : (sheet : Sheet) (b x z : ℕ) → allows sheet (add_zero b x z) ≡ true → SheetSound sheet → SheetSound (after sheet (add_zero b x z))
unfolding allows after
move_zero sheet b x z e before = record {
  tables = zero_in_keeps sheet.blocks b x z (new_value_home sheet z e) before.tables;
  fits = record {
    arms = before.fits.arms;
    writes = before.fits.writes;
    values = fits_new sheet z (record { home = front b; kind = zero_of x }) before.fits;
    ends = before.fits.ends;
  };
}

start_told :
    (blocks : Blocks) (arm : Arm) (x v : ℕ) → (same_place arm.source start ≡ true) ⊎ (carries_from blocks arm.source x v ≡ true) →
    (arm.source ≡ start) ⊎ Carries blocks arm x v
start_told blocks arm x v (inl e) = inl (same_place-true arm.source start e)
start_told blocks arm x v (inr e) = inr (carries_told blocks arm x v e)

move_undefine : (sheet : Sheet) (b x v z : ℕ) → allows sheet (undefine_parameter b x v z) ≡ true → SheetSound sheet → SheetSound (after sheet (undefine_parameter b x v z))
unfolding allows after
move_undefine sheet b x v z e before =
    let test : Arm → Bool = λ arm. same_place arm.source start || carries_from sheet.blocks arm.source x v in
    let zero_definition : Definition = sheet.blocks.function.definition z in
    let root : Bool = sheet.blocks.function.resolve z == z in
    let home : Bool = same_place zero_definition.home (front b) in
    let kind : Bool = is_zero zero_definition.kind x in
    let rest : (root && (home && (kind && each_into sheet b test))) ≡ true =
    second_of_and (waits_in sheet b x v) (root && (home && (kind && each_into sheet b test))) e in
    let rest_home : (home && (kind && each_into sheet b test)) ≡ true = second_of_and root (home && (kind && each_into sheet b test)) rest in
    let rest_kind : (kind && each_into sheet b test) ≡ true = second_of_and home (kind && each_into sheet b test) rest_home in
    let no_alias : sheet.blocks.function.resolve z ≡ z =
    number_true (sheet.blocks.function.resolve z) z (first_of_and root (home && (kind && each_into sheet b test)) rest) in
    record {
      tables = undefined_keeps sheet.blocks b x v z
          (record {
            waits = waits_told sheet b x v (first_of_and (waits_in sheet b x v) (root && (home && (kind && each_into sheet b test))) e);
            no_alias = no_alias;
            is_zero =
                same_definition zero_definition (front b) (zero_of x)
                (same_place-true zero_definition.home (front b) (first_of_and home (kind && each_into sheet b test) rest_home))
                (zero_kind zero_definition.kind x (first_of_and kind (each_into sheet b test) rest_kind));
            along = λ arm joined at.
                start_told sheet.blocks arm x v
                (of_or (same_place arm.source start) (carries_from sheet.blocks arm.source x v)
                (into_told sheet b test before.fits (second_of_and kind (each_into sheet b test) rest_kind) arm joined at));
          }) before.tables;
      fits = record {
        arms = before.fits.arms;
        writes = before.fits.writes;
        values = before.fits.values;
        ends = fits_aliased sheet v z no_alias before.fits;
      };
    }

-- a move whose test passes keeps a sheet sound
pub move_keeps : (sheet : Sheet) (move : Move) → allows sheet move ≡ true → SheetSound sheet → SheetSound (after sheet move)
move_keeps sheet (seal_with b arms) e before = move_seal sheet b arms e before
move_keeps sheet (go_on b) e before = move_on sheet b e before
move_keeps sheet (give_name b n v) e before = move_give sheet b n v e before
move_keeps sheet (read_variable b n x v) e before = move_read sheet b n x v e before
move_keeps sheet (write_variable b x n) e before = move_write sheet b x n e before
move_keeps sheet (copy_record b x v) e before = move_copy sheet b x v e before
move_keeps sheet (add_parameter b x v) e before = move_parameter sheet b x v e before
move_keeps sheet (fill_parameter b x v given) e before = move_fill sheet b x v given e before
move_keeps sheet (drop_parameter b x v target) e before = move_drop sheet b x v target e before
move_keeps sheet (add_zero b x z) e before = move_zero sheet b x z e before
move_keeps sheet (undefine_parameter b x v z) e before = move_undefine sheet b x v z e before

pub moves_keep : (sheet : Sheet) (moves : List Move) → allows_all sheet moves ≡ true → SheetSound sheet → SheetSound (after_all sheet moves)
unfolding allows_all after_all
moves_keep sheet [] e before = before
moves_keep sheet (move ∷ moves) e before =
    moves_keep (after sheet move) moves (second_of_and (allows sheet move) (allows_all (after sheet move) moves) e)
    (move_keeps sheet move (first_of_and (allows sheet move) (allows_all (after sheet move) moves) e) before)

pub blank_sound : SheetSound blank
blank_sound = record {
  tables = first_sound;
  fits = record {
    arms = λ arm e. absurd cc;
    writes = λ p x n e. absurd cc;
    values = λ v. inr refl;
    ends = λ u. refl;
  };
}

-- moves from the blank sheet, each of whose tests passes in its turn, make a sound sheet
pub allowed_moves : (moves : List Move) → allows_all blank moves ≡ true → SheetSound (after_all blank moves)
allowed_moves moves e = moves_keep blank moves e blank_sound
