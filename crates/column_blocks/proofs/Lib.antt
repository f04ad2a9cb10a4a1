-- Laws of what bytes beside a byte tell of its character.
pub mod ContinuationRun
pub mod TwoBeside
