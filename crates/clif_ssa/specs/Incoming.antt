-- What comes to a parameter, as the code tells it.
-- Source: Braun et al. 2013 (a parameter is trivial where nothing but itself and one other value comes to it).
use Rattle.std.specs.Prelude.{◌≡◌, ◌<◌, ℕ, List, length, Option, None, Some}
use Rattle.clif_ir.specs.Body.{Body, resolved}
use Rattle.clif_ssa.specs.declared.ending.Incoming.{Incoming}
use Rattle.clif_ssa.specs.declared.ending.Incoming.TheVariants.{Nothing, One, Several}
use Rattle.clif_ssa.specs.LookUp.{NothingComes, OneComes, SeveralCome}

abbrev pub IsIncoming : Body → ℕ → List ℕ → Incoming → Type 0
IsIncoming f param results Nothing = NothingComes f param results
IsIncoming f param results (One value) = OneComes f param value results
IsIncoming f param results Several = SeveralCome f param results

-- the same while results are read: nothing came so far, or one value
abbrev pub ComesSoFar : Body → ℕ → List ℕ → Option ℕ → Type 0
ComesSoFar f param results None = NothingComes f param results
ComesSoFar f param results (Some value) = OneComes f param value results

-- what comes alone exists and is no alias
abbrev pub IncomingExists : Body → Incoming → Type 0
IncomingExists f Nothing = Unit {0}
IncomingExists f (One value) = (value < length f.values) × (resolved f value ≡ value)
IncomingExists f Several = Unit {0}

abbrev pub ExistsSoFar : Body → Option ℕ → Type 0
ExistsSoFar f None = Unit {0}
ExistsSoFar f (Some value) = (value < length f.values) × (resolved f value ≡ value)
