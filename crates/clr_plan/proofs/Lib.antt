pub mod Pins
pub mod Trying
pub mod Searching
pub mod Settling
pub mod GrowingRuns
pub mod Scanning
pub mod Looking
pub mod Counting
pub mod CountingParts
pub mod CountedHeaps
pub mod PartPlan
pub mod Raising
pub mod Reaching
pub mod Beginning
pub mod Alike
pub mod WholePlan
pub mod OlderPlan
mod Takes
pub mod RaisingTo
pub mod YoungPlan
pub mod SplitScans
pub mod AppendedPlugs
pub mod HeapSurvivors
pub mod ChosenPlugs
pub mod MarkedPins
pub mod LargePlugs
pub mod YoungParts
pub mod HeapPlugs
pub mod Compacting
pub mod Ready
pub mod BehindTheWalk
mod Waiting
mod Saving
mod Writing
mod Laying
mod LaidLists
mod Seen
mod Laid
mod LaidSegment
mod KeptPlans
mod PushCount
mod Covering
mod Ages
mod LaidBelow
mod WholeLaid
mod SmallWholes
mod Lower
mod EphemeralPart
mod EphemeralLaid
mod Homes
mod GenerationHomes
mod MarkedRuns
mod Telling
mod PartFacts
mod Assembled
mod ToldGaps
mod Whole
mod LargeWholes
mod Fitting
