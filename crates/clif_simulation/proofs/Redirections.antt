-- A branch leads elsewhere.
pub mod EachRedirected
mod Redirected
mod RedirectedEdges
pub mod Redirecting
pub mod Predecessors
