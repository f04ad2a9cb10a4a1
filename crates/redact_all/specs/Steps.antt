-- RULES 15.10: what several literals leave of a note, each blanked in what the one before left, and how often.
use Rattle.std.specs.Prelude.{ℕ, Bool, true, ◌&&◌, List, [], ◌∷◌, leb, length}
use Rattle.note.specs.Notes.{Note}
use Rattle.find.specs.Matching.{found_places}
use Rattle.redact_note.specs.Redacting.{match_count}
use Rattle.redact_note.specs.Chain.{Pair, left_by, step_of}
use Rattle.word_pairs.specs.declared.Word.TheVariants.{Literal, Filler}
use Rattle.word_pairs.specs.Counts.{word_counts}

-- the note that is left after all of them
unfoldable pub published_by : List Pair → Note → Note
published_by [] n = n
published_by (p ∷ ps) n = published_by ps (left_by (step_of p n) n)

-- after each of them the text is within a limit
unfoldable pub steps_fit : ℕ → List Pair → Note → Bool
steps_fit most [] n = true
steps_fit most (p ∷ ps) n =
    leb (length (left_by (step_of p n) n).normalized) most && steps_fit most ps (left_by (step_of p n) n)

-- for each literal: how many matches gave way
unfoldable pub blanked_counts : List Pair → Note → List ℕ
blanked_counts [] n = []
blanked_counts (p ∷ ps) n =
    match_count (found_places n.normalized p.literal) ∷ blanked_counts ps (left_by (step_of p n) n)

-- how many matches it has in what is published
abbrev pub left_counts : List Pair → Note → List ℕ
left_counts ps n = word_counts Literal (published_by ps n).normalized ps

-- and how many its filler has in the note as it was passed
abbrev pub filler_counts : List Pair → Note → List ℕ
filler_counts ps n = word_counts Filler n.normalized ps
