-- Working forms of soundness of the alignments; soundness itself is defined in `note`.
pub mod Judged
pub mod MisalignedBits
pub mod IsStarting
