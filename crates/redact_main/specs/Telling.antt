-- When the result may be written, and what is known of the columns that are told.
use Rattle.std.specs.Prelude.{ℕ, ◌/◌, ◌≤◌, ◌≡◌, Bool, true, ◌&&◌, List, eqb, length}
use Rattle.word_pairs.specs.Words.{even_words}
use Rattle.redact_all.specs.declared.Report.{Report}

-- RULES 14.9: each literal was found, none can still be read, no filler was in the note already
abbrev pub is_clean : Report → Bool
is_clean r = (eqb r.not_found 0 && eqb r.left 0) && eqb r.fillers_found 0

-- pairs that were judged, and a count for each
pub record Counted (words sizes blanked : List ℕ) : Type 0 where
  pub even : even_words words sizes ≡ true
  pub counts_long : length sizes / 2 ≤ length blanked
