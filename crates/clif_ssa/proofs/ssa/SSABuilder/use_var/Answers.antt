use Rattle.std.proofs.Common.{rules, length, ◌≡◌, ◌≢◌, Some, None, true, [], refl, ap, sym, subst, arith, inl}
use Rattle.std.proofs.lemmas.Grind.{common_steps}
use Rattle.std.proofs.lemmas.Result.{err_from_is_err_and}
use Rattle.clif_records.proofs.RecordLaws.{on_ok}
use Rattle.clif_records.specs.Tables.{is_yes}
use Rattle.clif_records.specs.Stacks.{LookUpState}
use Rattle.clif_ssa.specs.Constructs.{TellsZeros}
use Rattle.clif_ssa.specs.Ssa.{record_of, sealed_of, predecessors_of, NamesExist}
use Rattle.clif_ssa.specs.Running.{stage}
use Rattle.clif_ssa.specs.Structured.{HasType}
use Rattle.clif_ssa.proofs.Alongside.{use_alike, local_remembers, local_leaves}
use Rattle.clif_ssa.proofs.Answered.{use_recorded}
use Rattle.clif_ssa.proofs.Calling.{look-fits}
use Rattle.clif_ssa.proofs.Constructing.{tells_all, tells_more_then, tells_none}
use Rattle.clif_ssa.proofs.CountedLooks.{use_begins}
use Rattle.clif_ssa.proofs.CountedSteps.{counts_any, counts_as, counts_made, counts_next, counts_none, counts_stopped, counts_then}
use Rattle.clif_ssa.proofs.Losing.{same_remembers}
use Rattle.clif_ssa.proofs.Pooling.{pool_one, pool_then}
use Rattle.clif_ssa.proofs.Public.{something_leads, popped_nothing, known_use, local_use, machine_use, uses_machine}
use Rattle.clif_ssa.proofs.Recorded.{used_exists, local_recorded}
use Rattle.clif_ssa.proofs.Steps.{ends_as, ends_ok, keeps_none, keeps_then}
use Rattle.clif_ssa.proofs.StructuredPublic.{local_structured, machine_structured}
use Rattle.clif_ssa.proofs.Tracks.{local_tracks, machine_tracks, tracks_none}
use Rattle.clif_ssa.proofs.Uses.{gives_if, leaves_of, makes_found, makes_known, makes_local, makes_none}
use Rattle.clif_ssa.proofs.WithinUses.{leads_of, same_within, local_within, machine_within}
use Rattle.clif_ssa.proofs.ssa.SSABuilder.use_var.Goals as goal

pub look_up_in-requires-clause-named : goal.look_up_in-requires-clause-named
look_up_in-requires-clause-named c =
    let some : predecessors_of c.args.self.now c.args.block ≢ [] = rw (← c.self.view_is) ((c.if-is_local.ensures.no refl).1) in
    rw (c.self.view_is) (c.requires.named (something_leads c.args.self.now c.args.block some))

pub make_calls-requires-clause-named : goal.make_calls-requires-clause-named
make_calls-requires-clause-named c =
    let some : predecessors_of c.args.self.now c.args.block ≢ [] = rw (← c.self.view_is) ((c.if-is_local.ensures.no refl).1) in
    let named : NamesExist c.args.func.now c.self.inside.tables = rw (c.self.view_is) (c.requires.named (something_leads c.args.self.now c.args.block some)) in
    c.look_up_in.ensures.keeps.names named

pub make_calls-requires-clause-calls_fit : goal.make_calls-requires-clause-calls_fit
make_calls-requires-clause-calls_fit c =
    let some : predecessors_of c.args.self.now c.args.block ≢ [] = rw (← c.self.view_is) ((c.if-is_local.ensures.no refl).1) in
    let named : NamesExist c.args.func.now c.self.inside.tables = rw (c.self.view_is) (c.requires.named (something_leads c.args.self.now c.args.block some)) in
    look-fits c.args.variable c.args.ty c.args.block (stage c.args.func.now c.self.inside.tables c.clear.new.self) (stage c.look_up_in.new.func c.look_up_in.new.self c.look_up_in.new.look_up)
    c.in_ok-look_up_in.ensures.looks named c.look_up_in.ensures.keeps.more c.look_up_in.ensures.keeps.pools.typed c.look_up_in.ensures.keeps.predecessors
    (popped_nothing c.args.ty c.args.func.now c.self.inside.tables c.clear.new.self c.clear.ensures)

-- WHAT IS MADE ----------------------------------------------------------------------------------------------------

pub returns-in-Some-clause-makes : goal.returns-in-Some-clause-makes
returns-in-Some-clause-makes c =
    let is : record_of c.args.self.now c.args.variable c.args.block ≡ Some c.in-Some.value = search rules in
    makes_known c.args.variable c.args.ty c.args.block c.args.func.now c.args.self.now c.in-Some.value _ is (first_of (search rules, grind (arith, common_steps)))

pub returns-then-is_local-clause-makes : goal.returns-then-is_local-clause-makes
returns-then-is_local-clause-makes c =
    let none : record_of c.self.inside.tables c.args.variable c.args.block ≡ None = search rules in
    let used = c.use_locally.ensures.used in
    rw (← c.self.view_is)
    (makes_local c.args.variable c.args.ty c.args.block c.args.func.now c.self.inside.tables none c.use_locally.new.func c.use_locally.new.self c.use_locally.result
    (c.if-is_local.ensures.yes refl)
    (λ sealed b.
    on_ok c.use_locally.result _ _ (λ params. params b)
    (local_leaves c.args.func.now c.use_locally.new.func c.self.inside.tables c.use_locally.new.self c.args.variable c.args.ty c.args.block c.use_locally.result
    c.law_consistent.ensures c.requires.exists none sealed used.zero))
    used)

pub returns-in_err-look_up_in-clause-makes : goal.returns-in_err-look_up_in-clause-makes
returns-in_err-look_up_in-clause-makes c =
    let p = err_from_is_err_and c.from_residual.result c.from_residual.ensures.1 in
    let none : record_of c.self.inside.tables c.args.variable c.args.block ≡ None = search rules in
    let here = c.if-is_local.ensures.no refl in
    rw (p.1, ← c.self.view_is) (makes_none c.args.variable c.args.ty c.args.block c.args.func.now c.self.inside.tables none here.0 here.1 c.look_up_in.new.func c.look_up_in.new.self p.0)

pub returns-in_err-value-clause-makes : goal.returns-in_err-value-clause-makes
returns-in_err-value-clause-makes c =
    let p = err_from_is_err_and c.from_residual-in_err-value.result c.from_residual-in_err-value.ensures.1 in
    let none : record_of c.self.inside.tables c.args.variable c.args.block ≡ None = search rules in
    let here = c.if-is_local.ensures.no refl in
    rw (p.1, ← c.self.view_is) (makes_none c.args.variable c.args.ty c.args.block c.args.func.now c.self.inside.tables none here.0 here.1 c.make_calls.new.func c.make_calls.new.self p.0)

pub returns-clause-makes : goal.returns-clause-makes
returns-clause-makes c =
    let none : record_of c.self.inside.tables c.args.variable c.args.block ≡ None = search rules in
    let here = c.if-is_local.ensures.no refl in
    let told : c.take_zeros-instructions_added_to_blocks.result.items ≡ c.make_calls.new.look_up.zeros = first_of (search rules, grind (arith, common_steps)) in
    rw (← c.self.view_is)
    (makes_found c.args.variable c.args.ty c.args.block c.args.func.now c.self.inside.tables none here.0 here.1 c.make_calls.new.func c.make_calls.new.self c.in_ok-value.value _
    (uses_machine c.args.variable c.args.ty c.args.block c.args.func.now c.look_up_in.new.func c.make_calls.new.func c.self.inside.tables c.look_up_in.new.self c.make_calls.new.self
    _ c.look_up_in.new.look_up c.make_calls.new.look_up c.in_ok-value.value _ c.clear.ensures c.in_ok-look_up_in.ensures.looks c.in_ok-value.ensures.made told))

-- WHAT IS ANSWERED ------------------------------------------------------------------------------------------------

pub returns-in-Some-clause-gives : goal.returns-in-Some-clause-gives
returns-in-Some-clause-gives c =
    let is : record_of c.args.self.now c.args.variable c.args.block ≡ Some c.in-Some.value = search rules in
    let none : c.new.result.instructions_added_to_blocks.items ≡ [] = first_of (search rules, grind (arith, common_steps)) in
    let f = c.args.func.now in
    let s = c.args.self.now in
    record {
      keeps = λ own tables both. known_use own f s tables c.args.variable c.args.block c.in-Some.value both is;
      recorded = (c.in-Some.value, is, refl);
      remembers = λ x b. same_remembers x b f s s refl;
      structured = λ types own same before. (before, subst (λ t. HasType f c.in-Some.value t) (sym same) (before.recorded c.args.variable c.args.block c.in-Some.value is));
      tells = subst (λ told. TellsZeros f f told) (sym none) (tells_none f f refl);
      tracks = λ named. tracks_none (length f.values) s named.recorded;
      within = λ holds branches held. same_within holds f _ (first_of (search rules, grind (arith, common_steps)));
      exists = λ named. named.recorded c.args.variable c.args.block c.in-Some.value is;
    }

pub returns-then-is_local-clause-gives : goal.returns-then-is_local-clause-gives
returns-then-is_local-clause-gives c =
    let none : record_of c.self.inside.tables c.args.variable c.args.block ≡ None = search rules in
    let alone : is_yes (sealed_of c.self.inside.tables c.args.block) ≡ true → predecessors_of c.self.inside.tables c.args.block ≡ [] = c.if-is_local.ensures.yes refl in
    let used = c.use_locally.ensures.used in
    let keeps = c.use_locally.ensures.keeps in
    let f = c.args.func.now in
    let g = c.use_locally.new.func in
    let s = c.self.inside.tables in
    let t = c.use_locally.new.self in
    let answer = c.use_locally.result in
    rw (← c.self.view_is)
    (gives_if c.args.variable c.args.ty c.args.block f s g t answer
    (λ own tables both. local_use own f g s t tables c.args.variable c.args.ty c.args.block answer c.law_consistent.ensures both c.requires.exists none alone keeps.predecessors used.waits used.zero)
    (local_recorded f g s t c.args.variable c.args.ty c.args.block answer c.law_consistent.ensures c.requires.exists none used.waits used.zero)
    (λ x b. local_remembers f g s t c.args.variable c.args.ty c.args.block x b answer c.law_consistent.ensures c.requires.exists none used.waits used.zero)
    (λ types own same before. local_structured types own f g s t c.args.variable c.args.ty c.args.block answer c.law_consistent.ensures same before c.requires.exists none keeps.predecessors used.waits used.zero)
    used.tells
    (λ named. local_tracks f g s t c.args.variable c.args.ty c.args.block answer named none used.waits used.zero)
    (λ holds branches held. local_within holds f g s t c.args.variable c.args.ty c.args.block answer held used.waits used.zero)
    (λ named. used_exists c.args.variable c.args.ty c.args.block f s g t answer used))

pub returns-in_err-look_up_in-clause-gives : goal.returns-in_err-look_up_in-clause-gives
returns-in_err-look_up_in-clause-gives c =
    let p = err_from_is_err_and c.from_residual.result c.from_residual.ensures.1 in
    rw p.1 tt

pub returns-in_err-value-clause-gives : goal.returns-in_err-value-clause-gives
returns-in_err-value-clause-gives c =
    let p = err_from_is_err_and c.from_residual-in_err-value.result c.from_residual-in_err-value.ensures.1 in
    rw p.1 tt

pub returns-clause-gives : goal.returns-clause-gives
returns-clause-gives c =
    let some : predecessors_of c.args.self.now c.args.block ≢ [] = rw (← c.self.view_is) ((c.if-is_local.ensures.no refl).1) in
    let named : NamesExist c.args.func.now c.self.inside.tables = rw (c.self.view_is) (c.requires.named (something_leads c.args.self.now c.args.block some)) in
    let told : c.take_zeros-instructions_added_to_blocks.result.items ≡ c.make_calls.new.look_up.zeros = first_of (search rules, grind (arith, common_steps)) in
    let looks = c.in_ok-look_up_in.ensures.looks in
    let made = c.in_ok-value.ensures.made in
    rw (← c.self.view_is)
    (record {
      keeps = λ own tables both.
          machine_use own c.args.func.now c.look_up_in.new.func c.make_calls.new.func c.self.inside.tables c.look_up_in.new.self c.make_calls.new.self tables
          c.args.variable c.args.ty c.args.block _ c.look_up_in.new.look_up c.make_calls.new.look_up c.in_ok-value.value c.clear.ensures
          c.law_consistent.ensures both c.requires.exists looks made;
      recorded =
          use_recorded c.args.variable c.args.ty c.args.block c.args.func.now c.look_up_in.new.func c.make_calls.new.func c.self.inside.tables c.look_up_in.new.self c.make_calls.new.self
          _ c.look_up_in.new.look_up c.make_calls.new.look_up c.in_ok-value.value c.clear.ensures
          c.law_consistent.ensures named looks made c.make_calls.ensures.keeps.stay;
      remembers = λ x b. record {
        recorded = λ v is. c.make_calls.ensures.keeps.stay x b v (c.look_up_in.ensures.keeps.stay x b v is);
        alike =
            use_alike c.args.variable c.args.ty c.args.block c.args.func.now c.look_up_in.new.func c.make_calls.new.func c.self.inside.tables c.look_up_in.new.self c.make_calls.new.self
            _ c.look_up_in.new.look_up c.make_calls.new.look_up c.in_ok-value.value c.clear.ensures
            c.law_consistent.ensures named looks made;
      };
      structured = λ types own same before.
          machine_structured types own c.args.func.now c.look_up_in.new.func c.make_calls.new.func c.self.inside.tables c.look_up_in.new.self c.make_calls.new.self
          c.args.variable c.args.ty c.args.block _ c.look_up_in.new.look_up c.make_calls.new.look_up c.in_ok-value.value c.clear.ensures
          c.law_consistent.ensures same before looks made;
      tells =
          subst (λ zeros. TellsZeros c.args.func.now c.make_calls.new.func zeros) (sym told)
          (tells_all c.args.func.now c.make_calls.new.func _ _ (ap (λ (l : LookUpState). l.zeros) c.clear.ensures)
          (tells_more_then c.args.func.now c.look_up_in.new.func c.make_calls.new.func _ _ _ c.make_calls.ensures.keeps.constructs c.in_ok-look_up_in.ensures.tells c.in_ok-value.ensures.tells));
      tracks = λ names.
          machine_tracks c.args.func.now c.look_up_in.new.func c.make_calls.new.func c.self.inside.tables c.look_up_in.new.self c.make_calls.new.self
          c.args.variable c.args.ty c.args.block _ c.look_up_in.new.look_up c.make_calls.new.look_up c.in_ok-value.value names looks made;
      within = λ holds branches held.
          machine_within holds c.args.func.now c.look_up_in.new.func c.make_calls.new.func c.self.inside.tables c.look_up_in.new.self c.make_calls.new.self
          c.args.variable c.args.ty c.args.block _ c.look_up_in.new.look_up c.make_calls.new.look_up c.in_ok-value.value _ c.clear.ensures
          (leads_of holds c.args.func.now c.self.inside.tables (λ leads. named) branches) held looks made told;
      exists = λ names. c.in_ok-value.ensures.exists;
    })

-- WHAT IS LEFT ----------------------------------------------------------------------------------------------------

pub returns-in-Some-clause-leaves : goal.returns-in-Some-clause-leaves
returns-in-Some-clause-leaves c = leaves_of (keeps_none {ty = c.args.ty} c.args.variable c.args.func.now c.args.self.now)

pub returns-then-is_local-clause-leaves : goal.returns-then-is_local-clause-leaves
returns-then-is_local-clause-leaves c = rw (← c.self.view_is) (leaves_of c.use_locally.ensures.keeps)

pub returns-in_err-look_up_in-clause-leaves : goal.returns-in_err-look_up_in-clause-leaves
returns-in_err-look_up_in-clause-leaves c = rw (← c.self.view_is) (leaves_of c.look_up_in.ensures.keeps)

pub returns-in_err-value-clause-leaves : goal.returns-in_err-value-clause-leaves
returns-in_err-value-clause-leaves c =
    rw (← c.self.view_is)
    (leaves_of
    (keeps_then c.args.variable c.args.func.now c.self.inside.tables c.look_up_in.new.func c.look_up_in.new.self c.make_calls.new.func c.make_calls.new.self c.look_up_in.ensures.keeps c.make_calls.ensures.keeps))

pub returns-clause-leaves : goal.returns-clause-leaves
returns-clause-leaves c =
    rw (← c.self.view_is)
    (leaves_of
    (keeps_then c.args.variable c.args.func.now c.self.inside.tables c.look_up_in.new.func c.look_up_in.new.self c.make_calls.new.func c.make_calls.new.self c.look_up_in.ensures.keeps c.make_calls.ensures.keeps))

pub returns-then-is_local-clause-looks_once : goal.returns-then-is_local-clause-looks_once
returns-then-is_local-clause-looks_once c = rw (← c.self.view_is) (c.use_locally.ensures.keeps.once.looks_once)

pub returns-in_err-look_up_in-clause-looks_once : goal.returns-in_err-look_up_in-clause-looks_once
returns-in_err-look_up_in-clause-looks_once c = rw (← c.self.view_is) (c.look_up_in.ensures.keeps.once.looks_once)

pub returns-in_err-value-clause-looks_once : goal.returns-in_err-value-clause-looks_once
returns-in_err-value-clause-looks_once c =
    rw (← c.self.view_is) (λ once. c.make_calls.ensures.keeps.once.looks_once (c.look_up_in.ensures.keeps.once.looks_once once))

pub returns-clause-looks_once : goal.returns-clause-looks_once
returns-clause-looks_once c =
    rw (← c.self.view_is) (λ once. c.make_calls.ensures.keeps.once.looks_once (c.look_up_in.ensures.keeps.once.looks_once once))

-- WHICH CONSTANTS -------------------------------------------------------------------------------------------------

pub returns-in-Some-clause-pools : goal.returns-in-Some-clause-pools
returns-in-Some-clause-pools c = inl refl

pub returns-then-is_local-clause-pools : goal.returns-then-is_local-clause-pools
returns-then-is_local-clause-pools c =
    pool_one c.args.ty c.args.func.now.tables c.use_locally.new.func.tables c.use_locally.ensures.keeps.pools.tables

pub returns-in_err-look_up_in-clause-pools : goal.returns-in_err-look_up_in-clause-pools
returns-in_err-look_up_in-clause-pools c =
    pool_one c.args.ty c.args.func.now.tables c.look_up_in.new.func.tables c.look_up_in.ensures.keeps.pools.tables

pub returns-in_err-value-clause-pools : goal.returns-in_err-value-clause-pools
returns-in_err-value-clause-pools c =
    pool_then c.args.ty c.args.func.now.tables c.look_up_in.new.func.tables c.make_calls.new.func.tables
    (pool_one c.args.ty c.args.func.now.tables c.look_up_in.new.func.tables c.look_up_in.ensures.keeps.pools.tables)
    (pool_one c.args.ty c.look_up_in.new.func.tables c.make_calls.new.func.tables c.make_calls.ensures.keeps.pools.tables)

pub returns-clause-pools : goal.returns-clause-pools
returns-clause-pools c =
    pool_then c.args.ty c.args.func.now.tables c.look_up_in.new.func.tables c.make_calls.new.func.tables
    (pool_one c.args.ty c.args.func.now.tables c.look_up_in.new.func.tables c.look_up_in.ensures.keeps.pools.tables)
    (pool_one c.args.ty c.look_up_in.new.func.tables c.make_calls.new.func.tables c.make_calls.ensures.keeps.pools.tables)

-- HOW IT ENDS -----------------------------------------------------------------------------------------------------

pub returns-in-Some-clause-ends : goal.returns-in-Some-clause-ends
returns-in-Some-clause-ends c = ends_ok c.args.func.now _

pub returns-then-is_local-clause-ends : goal.returns-then-is_local-clause-ends
returns-then-is_local-clause-ends c = c.use_locally.ensures.ends

pub returns-in_err-look_up_in-clause-ends : goal.returns-in_err-look_up_in-clause-ends
returns-in_err-look_up_in-clause-ends c =
    let p = err_from_is_err_and c.from_residual.result c.from_residual.ensures.1 in
    rw (p.1, p.2) (ends_as c.look_up_in.new.func c.in_err-look_up_in.field-0.0 c.in_err-look_up_in.ensures.ends)

pub returns-in_err-value-clause-ends : goal.returns-in_err-value-clause-ends
returns-in_err-value-clause-ends c =
    let p = err_from_is_err_and c.from_residual-in_err-value.result c.from_residual-in_err-value.ensures.1 in
    rw (p.1, p.2) (ends_as c.make_calls.new.func c.in_err-value.field-0.0 c.in_err-value.ensures.ends)

pub returns-clause-ends : goal.returns-clause-ends
returns-clause-ends c = ends_ok c.make_calls.new.func _

-- HOW MUCH IT MAKES -----------------------------------------------------------------------------------------------

pub returns-in-Some-clause-counts : goal.returns-in-Some-clause-counts
returns-in-Some-clause-counts c = counts_any (counts_none 0 c.args.func.now c.args.self.now)

pub returns-then-is_local-clause-counts : goal.returns-then-is_local-clause-counts
returns-then-is_local-clause-counts c = rw (← c.self.view_is) c.use_locally.ensures.counts

pub returns-in_err-look_up_in-clause-counts : goal.returns-in_err-look_up_in-clause-counts
returns-in_err-look_up_in-clause-counts c =
    let p = err_from_is_err_and c.from_residual.result c.from_residual.ensures.1 in
    rw (p.1, p.2, ← c.self.view_is)
    (counts_stopped 0 c.look_up_in.new.func c.look_up_in.new.self c.in_err-look_up_in.field-0.0 (omega arith) refl (counts_none 0 c.args.func.now c.self.inside.tables)
    c.in_err-look_up_in.ensures.stops)

pub returns-in_err-value-clause-counts : goal.returns-in_err-value-clause-counts
returns-in_err-value-clause-counts c =
    let p = err_from_is_err_and c.from_residual-in_err-value.result c.from_residual-in_err-value.ensures.1 in
    rw (p.1, p.2, ← c.self.view_is)
    (counts_as (counts_next (λ variables fits waits. fits) (search rules)
    (use_begins c.args.variable c.args.ty c.args.block c.args.func.now c.look_up_in.new.func c.self.inside.tables c.look_up_in.new.self _ c.look_up_in.new.look_up c.clear.ensures
    c.in_ok-look_up_in.ensures.looks)
    c.in_err-value.ensures.counts))

pub returns-clause-counts : goal.returns-clause-counts
returns-clause-counts c =
    rw (← c.self.view_is)
    (counts_any (counts_then (λ variables fits waits. fits) (search rules)
    (use_begins c.args.variable c.args.ty c.args.block c.args.func.now c.look_up_in.new.func c.self.inside.tables c.look_up_in.new.self _ c.look_up_in.new.look_up c.clear.ensures
    c.in_ok-look_up_in.ensures.looks)
    (counts_made c.in_ok-value.ensures.counts)))
