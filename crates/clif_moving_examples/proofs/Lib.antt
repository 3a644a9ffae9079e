mod Memory
mod Worlds
mod Premises
mod Refusals
mod Showing
mod Across
mod Join
mod Sparing
