-- The laws of the unfinished function of a builder that stands for a list of calls, as the contracts of this crate's law
-- functions state them. Own.
use Rattle.std.specs.Prelude.{ℕ, ◌⊎◌, Bool, List, Option}
use Rattle.clif_types.specs.Signature.{SignatureShape}
use Rattle.clif_ir.specs.Body.{Body}
use Rattle.clif_ir.specs.Consistent.{IsConsistent}
use Rattle.clif_meaning.specs.FunctionMachine.{Collector}
use Rattle.clif_meaning.specs.Name.{Name}
use Rattle.clif_meaning.specs.Request.{AnsweredCall}
use Rattle.clif_meaning.specs.View.{view_of}
use Rattle.clif_meaning.specs.WellPlaced.{program_code, IsWellPlaced, Records, RecordsWellPlaced, WellPlaced}
use Rattle.clif_simulation.specs.Tables.{program_so_far}
use Rattle.clif_simulation.specs.Carries.{NothingLeads}
use Rattle.clif_ssa.specs.Sound.{EntryIsFree}
use Rattle.clif_simulation.specs.Structure.{AreRecords}
use Rattle.clif_simulation.specs.Reading.{may_grow, MovesNothing, MovesTracked, ReadsRightFromAnywhere}
use Rattle.clif_simulation.specs.Interrupted.{ReadsRight}
use Rattle.clif_simulation.specs.Coming.{Coming, MayCome, ReadsRightComing, function_coming}
use Rattle.clif_builder.specs.Context.{ContextState}
use Rattle.clif_builder.specs.StandsFor.{StandsIn}
use Rattle.clif_standing_laws.specs.Marked.{MovesAsMarked, ReadsRightMarked, ReadsRightMarkedComing, ReadsRightMarkedFromAnywhere, ReadsRightRecorded, ReadsRightRecordedComing, ReadsRightRecordedFromAnywhere}

-- Where the parts of a builder stand for a list of calls, they read right on runs and bits, with any branches and parameters of
-- the caller's: beside a run of the list's program that is interrupted at unsealed blocks, a run of the unfinished function has
-- the bits of the names and, at a block's end so far, of the variables. Edges into unsealed or pristine blocks need not match
-- yet. Each function is consistent (`Function::law_consistent`).
abbrev pub StandingReadsRight : Type 0
StandingReadsRight =
    (declared : SignatureShape) (calls : List AnsweredCall) (f : Body) (c : ContextState) (position : Option ℕ)
    → IsConsistent f → StandsIn declared calls f c position → ReadsRight calls declared f c.ssa

-- They do so along edges that may still come, too: beside runs that go, from a block's end so far, along any edge of a set into
-- unsealed blocks, with any memory, any events and any bits of the target's parameters, alike on both sides. What a name is given
-- before is asked whichever of these edges come. So a block that only a coming branch will reach is read as well.
abbrev pub StandingReadsRightComing : Type 0
StandingReadsRightComing =
    (declared : SignatureShape) (calls : List AnsweredCall) (f : Body) (c : ContextState) (position : Option ℕ)
    → IsConsistent f → StandsIn declared calls f c position → ReadsRightComing (may_grow calls) calls declared f c.ssa

-- Where no branch was made, they do so from every pair of states at the front of an unsealed entry.
abbrev pub StandingReadsRightFromAnywhere : Type 0
StandingReadsRightFromAnywhere =
    (declared : SignatureShape) (calls : List AnsweredCall) (f : Body) (c : ContextState) (position : Option ℕ)
    → IsConsistent f → StandsIn declared calls f c position → NothingLeads c.ssa → ReadsRightFromAnywhere calls declared f c.ssa

-- Where the names of the list's program are given before they are named, and the entry is free (a branch may name it while it
-- is unsealed), the unfinished function's values are defined before they are named.
abbrev pub StandingIsWellPlaced : Type 0
StandingIsWellPlaced =
    (declared : SignatureShape) (calls : List AnsweredCall) (f : Body) (c : ContextState) (position : Option ℕ)
    → IsConsistent f → StandsIn declared calls f c position → EntryIsFree f c.ssa → IsWellPlaced (program_code (program_so_far calls))
    → WellPlaced (view_of f)

-- They stay so when edges come that may still come, whichever of a set into unsealed blocks: on each path that goes along these, too,
-- from the ends of blocks so far.
abbrev pub StandingIsWellPlacedComing : Type 0
StandingIsWellPlacedComing =
    (declared : SignatureShape) (calls : List AnsweredCall) (f : Body) (c : ContextState) (position : Option ℕ) (coming : Coming)
    → IsConsistent f → StandsIn declared calls f c position → EntryIsFree f c.ssa → MayCome coming calls c.ssa
    → IsWellPlaced (function_coming coming calls f)

-- As it is, what the builder recorded is defined before the ends of its blocks, and what answered uses before these.
abbrev pub StandingRecordsAreWellPlaced : Type 0
StandingRecordsAreWellPlaced =
    (declared : SignatureShape) (calls : List AnsweredCall) (f : Body) (c : ContextState) (position : Option ℕ) (records : Records)
    → IsConsistent f → StandsIn declared calls f c position → EntryIsFree f c.ssa → IsWellPlaced (program_code (program_so_far calls))
    → AreRecords calls f c.ssa records → RecordsWellPlaced (view_of f) records

-- Under marks: where what moves at outside calls agrees with the marks of the calls, they read right across such calls as well. So
-- of a list with marked variables that are used and assigned, too.
abbrev pub StandingReadsRightMarked : Type 0
StandingReadsRightMarked =
    (declared : SignatureShape) (calls : List AnsweredCall) (f : Body) (c : ContextState) (position : Option ℕ)
    → IsConsistent f → (stands : StandsIn declared calls f c position)
    → ReadsRightMarked (may_grow calls) calls stands.carries.own declared f c.ssa

abbrev pub StandingReadsRightMarkedComing : Type 0
StandingReadsRightMarkedComing =
    (declared : SignatureShape) (calls : List AnsweredCall) (f : Body) (c : ContextState) (position : Option ℕ)
    → IsConsistent f → (stands : StandsIn declared calls f c position)
    → ReadsRightMarkedComing (may_grow calls) calls stands.carries.own declared f c.ssa

abbrev pub StandingReadsRightMarkedFromAnywhere : Type 0
StandingReadsRightMarkedFromAnywhere =
    (declared : SignatureShape) (calls : List AnsweredCall) (f : Body) (c : ContextState) (position : Option ℕ)
    → IsConsistent f → (stands : StandsIn declared calls f c position) → NothingLeads c.ssa
    → ReadsRightMarkedFromAnywhere calls stands.carries.own declared f c.ssa

-- What moves where no variable is marked agrees with the marks of the calls: nothing, or tracked names that are apart from variables,
-- and exactly the values that answered them. So the laws under marks cover each outside call that the laws without them do.
abbrev pub StandingUnmarkedAgrees : Type 0
StandingUnmarkedAgrees =
    (declared : SignatureShape) (calls : List AnsweredCall) (f : Body) (c : ContextState) (position : Option ℕ)
    → IsConsistent f → (stands : StandsIn declared calls f c position) → EntryIsFree f c.ssa
    → (tracked : Name → Bool) (collector : Collector) → MovesNothing calls tracked collector ⊎ MovesTracked calls tracked collector
    → MovesAsMarked calls stands.carries.own f c.ssa tracked collector

-- What is recorded so far agrees with the marks of the calls. So under a collector over exactly that they read right, whatever calls
-- ask stack maps for.
abbrev pub StandingReadsRightRecorded : Type 0
StandingReadsRightRecorded =
    (declared : SignatureShape) (calls : List AnsweredCall) (f : Body) (c : ContextState) (position : Option ℕ)
    → IsConsistent f → StandsIn declared calls f c position → ReadsRightRecorded (may_grow calls) calls declared f c.ssa

abbrev pub StandingReadsRightRecordedComing : Type 0
StandingReadsRightRecordedComing =
    (declared : SignatureShape) (calls : List AnsweredCall) (f : Body) (c : ContextState) (position : Option ℕ)
    → IsConsistent f → StandsIn declared calls f c position → ReadsRightRecordedComing (may_grow calls) calls declared f c.ssa

abbrev pub StandingReadsRightRecordedFromAnywhere : Type 0
StandingReadsRightRecordedFromAnywhere =
    (declared : SignatureShape) (calls : List AnsweredCall) (f : Body) (c : ContextState) (position : Option ℕ)
    → IsConsistent f → StandsIn declared calls f c position → NothingLeads c.ssa → ReadsRightRecordedFromAnywhere calls declared f c.ssa
