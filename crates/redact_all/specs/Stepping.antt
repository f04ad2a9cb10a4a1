-- What the contracts of the inner functions are said with.
use Rattle.std.specs.Prelude.{ℕ, ◌*◌, ◌/◌, ◌≤◌, ◌≡◌, true, false, List, length, Option, Some, None}
use Rattle.buffers.specs.Splice.{overlay}
use Rattle.note.specs.Refusals.{verdict, Accepted}
use Rattle.note.specs.Notes.{Note, limit}
use Rattle.note.specs.Faults.{note_faults}
use Rattle.redact_in_place.specs.InPlace.{Held, held}
use Rattle.word_pairs.specs.declared.Word.TheVariants.{Literal, Filler}
use Rattle.word_pairs.specs.Words.{words_of, pairs_of, even_words, all_formed}
use Rattle.word_pairs.specs.Counts.{word_counts, zero_count, some_count}
use Rattle.redact_all.specs.declared.Report.{Report}
use Rattle.redact_all.specs.Steps.{published_by, steps_fit, blanked_counts}
use Rattle.redact_all.specs.RedactAll.{AllBuffers}

-- what is known once the inputs are accepted
pub record Checked (n : Note) (bytes sizes : List ℕ) : Type 0 where
  pub noted : verdict (note_faults limit n) ≡ Accepted
  pub few : length sizes ≤ 2 * limit
  pub even : even_words bytes sizes ≡ true
  pub formed : all_formed (words_of bytes sizes) ≡ true

-- buffers of the limit's length
pub record LimitLong (text starts ends counts : List ℕ) : Type 0 where
  pub text_long : limit ≡ length text
  pub starts_long : limit ≡ length starts
  pub ends_long : limit ≡ length ends
  pub counts_long : limit ≡ length counts

-- pairs that were judged, a note that was judged and is held, and room for a count for each pair
pub record StepsReady (original : List ℕ) (shift size : ℕ) (bytes sizes text starts ends counts : List ℕ) : Type 0 where
  pub is_held : Held size text starts ends
  pub noted : verdict (note_faults limit (held original shift size text starts ends)) ≡ Accepted
  pub even : even_words bytes sizes ≡ true
  pub formed : all_formed (words_of bytes sizes) ≡ true
  pub counts_room : length sizes / 2 ≤ length counts

-- each step fits: what all of them leave is held, and how often each literal was blanked is counted
pub record AllStepped (n : Note) (original : List ℕ) (shift size : ℕ) (bytes sizes counts₀ text starts ends counts : List ℕ)
    : Type 0 where
  pub is_held : Held size text starts ends
  pub fit : steps_fit limit (pairs_of bytes sizes) n ≡ true
  pub left_is : held original shift size text starts ends ≡ published_by (pairs_of bytes sizes) n
  pub counts_are : counts ≡ overlay (blanked_counts (pairs_of bytes sizes) n) counts₀

-- or one does not
unfoldable pub StepsTaken : Note → List ℕ → ℕ → List ℕ → List ℕ → List ℕ
    → Option ℕ → List ℕ → List ℕ → List ℕ → List ℕ → Type 0
StepsTaken n original shift bytes sizes counts₀ (Some size) text starts ends counts =
    AllStepped n original shift size bytes sizes counts₀ text starts ends counts
StepsTaken n original shift bytes sizes counts₀ None text starts ends counts =
    steps_fit limit (pairs_of bytes sizes) n ≡ false

-- what is left and counted, and room for it
pub record Tellable (normalized bytes sizes text starts ends counts out starts₀ ends₀ blanked left fillers : List ℕ)
    : Type 0 where
  pub normalized_short : length normalized ≤ limit
  pub text_short : length text ≤ limit
  pub even : even_words bytes sizes ≡ true
  pub starts_long : length starts ≡ length text
  pub ends_long : length ends ≡ length text
  pub counts_long : length counts ≡ length sizes / 2
  pub out_room : length text ≤ length out
  pub starts_room : length text ≤ length starts₀
  pub ends_room : length text ≤ length ends₀
  pub blanked_room : length sizes / 2 ≤ length blanked
  pub left_room : length sizes / 2 ≤ length left
  pub fillers_room : length sizes / 2 ≤ length fillers

-- the report of it
abbrev pub reported : List ℕ → List ℕ → List ℕ → List ℕ → List ℕ → Report
reported normalized bytes sizes text counts =
    record {
      len = length text;
      not_found = zero_count counts;
      left = some_count (word_counts Literal text (pairs_of bytes sizes));
      fillers_found = some_count (word_counts Filler normalized (pairs_of bytes sizes));
    }

-- and everything in front of the passed buffers
pub record Told (normalized bytes sizes text starts ends counts : List ℕ) (b₀ : AllBuffers) (r : Report) (b : AllBuffers)
    : Type 0 where
  pub reports : r ≡ reported normalized bytes sizes text counts
  pub text_is : b.out ≡ overlay text b₀.out
  pub starts_are : b.starts ≡ overlay starts b₀.starts
  pub ends_are : b.ends ≡ overlay ends b₀.ends
  pub blanked_are : b.blanked ≡ overlay counts b₀.blanked
  pub left_are : b.left ≡ overlay (word_counts Literal text (pairs_of bytes sizes)) b₀.left
  pub fillers_are : b.fillers ≡ overlay (word_counts Filler normalized (pairs_of bytes sizes)) b₀.fillers
