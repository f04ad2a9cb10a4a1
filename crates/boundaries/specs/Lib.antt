-- Working forms of soundness of the alignments: each beside the one before it, and none that cuts a character.
pub mod Monotone
pub mod Spanning
