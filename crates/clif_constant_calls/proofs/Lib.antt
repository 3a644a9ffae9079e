pub mod Standing
mod StandingForCalls
