-- An unfinished function that carries calls reads right: without branches, and beside interrupted runs with any.
pub mod SoFar
mod Opened
pub mod Ended
pub mod Counted
pub mod Reaching
pub mod AlongCalls
mod Alongside
mod Setting
pub mod RightReading
mod Interrupting
mod OpenWith
pub mod OpenArms
pub mod OpenFlow
pub mod ComingCode
mod OpenFront
pub mod OpenEdges
pub mod OpenCalls
mod OpenStanding
mod ComingStep
mod OpenStepping
pub mod OpenReading
