pub mod KeptClauses
pub mod StepLaws
pub mod StepTests
pub mod StepEnds
pub mod StepNamed
pub mod RightLaws
