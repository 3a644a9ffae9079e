-- Proofs, in the order in which they build on one another.
-- Paths, tables and the engine.
pub mod PathLemmas
pub mod Tables
pub mod Executing
pub mod Remembering
pub mod Keep
pub mod Refine
-- The steps.
pub mod Born
pub mod Fill
pub mod Alias
pub mod Recording
pub mod Naming
pub mod Assigning
pub mod Sealing
pub mod Restating
pub mod Concluding
pub mod Taking
-- Tables by block, links and look-ups.
pub mod BlockTables
pub mod Labelled
pub mod BlockSteps
pub mod Checked
pub mod BlockRestating
pub mod Links
pub mod LookingUp
-- Labels and structure.
pub mod Labelling
pub mod Running
pub mod LabelsAlong
pub mod ShapeLemmas
pub mod ShapeSteps
-- Examples and failures.
pub mod Moving
pub mod Finishing
pub mod ExampleProofs
pub mod LabelExamples
pub mod FailureProofs
pub mod LookUpExample
pub mod ShapeExample
