-- RULES 15.10: blanking several literals in a note: when that is refused, and the call.
use Rattle.std.specs.Prelude.{ℕ, ◌<◌, ◌≡◌, Bool, false, not, List, [], ◌∷◌, length, take, Result, Ok, Err}
use Rattle.note.specs.declared.Refusal.{Refusal}
use Rattle.note.specs.declared.Refusal.TheVariants.{NoRoom}
use Rattle.note.specs.Refusals.{none, meets, also, least, verdict, after, unless_refused, Verdict}
use Rattle.note.specs.Notes.{Note, limit}
use Rattle.note.specs.Faults.{note_faults, room_faults}
use Rattle.find.specs.Matching.{occurs_at}
use Rattle.replace.specs.Replacing.{resulting}
use Rattle.replace.specs.Blanking.{published}
use Rattle.redact_note.specs.Chain.{Pair, Chain, steps_of}
use Rattle.word_pairs.specs.Words.{pairs_of, word_faults}
use Rattle.word_pairs.specs.Counts.{zero_count, some_count}
use Rattle.redact_all.specs.declared.Report.{Report}
use Rattle.redact_all.specs.Steps.{published_by, steps_fit, blanked_counts, left_counts, filler_counts}

-- the six passed buffers: what is published, and a column for each of the three counts
pub record AllBuffers : Type 0 where
  pub out : List ℕ
  pub starts : List ℕ
  pub ends : List ℕ
  pub blanked : List ℕ
  pub left : List ℕ
  pub fillers : List ℕ

abbrev pub buffers : List ℕ → List ℕ → List ℕ → List ℕ → List ℕ → List ℕ → AllBuffers
buffers out starts ends blanked left fillers =
    record { out = out; starts = starts; ends = ends; blanked = blanked; left = left; fillers = fillers }

-- the refusals of the inputs: the note's, the pairs'
abbrev pub all_input_faults : ℕ → Note → List ℕ → List ℕ → Refusal → Bool
all_input_faults most n bytes sizes = also (note_faults most n) (word_faults most bytes sizes)

-- those of the results: a step over the limit, no room for what is published, no room for the counts
abbrev pub result_faults : ℕ → Note → List Pair → ℕ → ℕ → Refusal → Bool
result_faults most n ps result columns =
    also (meets NoRoom (not (steps_fit most ps n)) none)
    (also (room_faults (length (published_by ps n).normalized) result) (room_faults (length ps) columns))

abbrev pub all_faults : ℕ → Note → List ℕ → List ℕ → AllBuffers → Refusal → Bool
all_faults most n bytes sizes b =
    also (all_input_faults most n bytes sizes)
    (result_faults most n (pairs_of bytes sizes)
    (least (length b.out) (length b.starts) (length b.ends))
    (least (length b.blanked) (length b.left) (length b.fillers)))

-- what the call answers: the published size; how many literals were not found, how many can still be read, and how many
-- fillers the note had already
abbrev pub report_of : Note → List Pair → Report
report_of n ps =
    record {
      len = length (published_by ps n).normalized;
      not_found = zero_count (blanked_counts ps n);
      left = some_count (left_counts ps n);
      fillers_found = some_count (filler_counts ps n);
    }

-- THE CALL: limit, note, words and sizes, the passed buffers before, the answer, the passed buffers after
pub record AllRedacted (most : ℕ) (n : Note) (bytes sizes : List ℕ) (b₀ : AllBuffers) (r : Result Report Refusal) (b : AllBuffers)
    : Type 0 where
  pub says : Verdict
  pub says_is : says ≡ verdict (all_faults most n bytes sizes b₀)
  pub answer : r ≡ unless_refused Err says (Ok (report_of n (pairs_of bytes sizes)))
  pub text_is : b.out ≡ after says (published_by (pairs_of bytes sizes) n).normalized b₀.out
  pub starts_are : b.starts ≡ after says (published_by (pairs_of bytes sizes) n).starts b₀.starts
  pub ends_are : b.ends ≡ after says (published_by (pairs_of bytes sizes) n).ends b₀.ends
  pub blanked_are : b.blanked ≡ after says (blanked_counts (pairs_of bytes sizes) n) b₀.blanked
  pub left_are : b.left ≡ after says (left_counts (pairs_of bytes sizes) n) b₀.left
  pub fillers_are : b.fillers ≡ after says (filler_counts (pairs_of bytes sizes) n) b₀.fillers

-- a literal with a byte occurs at no position of a text
abbrev pub Unreadable : List ℕ → Pair → Type 0
Unreadable text p = 0 < length p.literal → (i : ℕ) → occurs_at text p.literal i ≡ false

-- so it is with each of the pairs
unfoldable pub EachUnreadable : List ℕ → List Pair → Type 0
EachUnreadable text [] = Unit {0}
EachUnreadable text (p ∷ ps) = Unreadable text p × EachUnreadable text ps

-- CLAIM: the call says that nothing is left exactly when none of the literals occurs anywhere in the published text.
abbrev pub NothingLeft : Type 0
NothingLeft =
    (most : ℕ) (n : Note) (bytes sizes : List ℕ) (b₀ : AllBuffers) (report : Report) (b : AllBuffers)
    → AllRedacted most n bytes sizes b₀ (Ok report) b
    → (report.left ≡ 0 → EachUnreadable (take report.len b.out) (pairs_of bytes sizes))
    × (EachUnreadable (take report.len b.out) (pairs_of bytes sizes) → report.left ≡ 0)

-- CLAIM: a call that publishes is a chain of calls of `replace`, one for each pair, by the list of its literal's matches
-- in what the one before left. So `ChainBlanking` and `HiddenStays` speak of it.
abbrev pub ChainedCall : Type 0
ChainedCall =
    (n : Note) (bytes sizes : List ℕ) (b₀ : AllBuffers) (report : Report) (b : AllBuffers)
    → AllRedacted limit n bytes sizes b₀ (Ok report) b
    → Chain limit n (steps_of (pairs_of bytes sizes) n)
    (resulting n (published report.len b.out b.starts b.ends))
