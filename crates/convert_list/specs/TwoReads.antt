-- Working forms: the ranges that are answered by two reads, and what the loop over a list asks and leaves.
use Rattle.std.specs.Prelude.{ℕ, ◌+◌, ◌-◌, ◌≤◌, ◌<◌, ◌≡◌, Bool, true, ◌&&◌, List, leb, ltb, length, get_or, Result}
use Rattle.buffers.specs.Columns.{column, Filled}
use Rattle.buffers.specs.Splice.{overlay}
use Rattle.convert.specs.declared.OffsetReferential.{OffsetReferential}
use Rattle.convert.specs.declared.OffsetReferential.TheVariants.{Original, Normalized}
use Rattle.convert.specs.Converting.{start_in, end_in, number_in}
use Rattle.convert.specs.declared.Range.{Range}
use Rattle.note.specs.declared.Refusal.{Refusal}

-- of n bytes of the cleaned text, those in which a range can be answered by two reads: none where ranges are of the
-- transcript
unfoldable pub expandable : OffsetReferential → ℕ → ℕ
expandable Original n = 0
expandable Normalized n = n

-- a range that has a byte and ends within n
unfoldable pub expands : ℕ → ℕ → ℕ → Bool
expands a b n = ltb a b && leb b n

-- each range of a block is one
pub record Expanding (from to : List ℕ) (n : ℕ) : Type 0 where
  pub each : (k : ℕ) → k < length from → expands (get_or from k 0) (get_or to k 0) n ≡ true

-- as many ends as starts in the list, and room for as many answers
pub record AnswerRoom (from to numbers starts ends : List ℕ) : Type 0 where
  pub same : length from ≡ length to
  pub of_numbers : length from ≤ length numbers
  pub of_starts : length from ≤ length starts
  pub of_ends : length from ≤ length ends

-- a block of such ranges, and room for its answers from `at` on
pub record Readable (starts ends from to : List ℕ) (at : ℕ) (s₀ e₀ : List ℕ) : Type 0 where
  pub paired : length starts ≡ length ends
  pub same : length from ≡ length to
  pub expanding : Expanding from to (length ends)
  pub of_starts : at + length from ≤ length s₀
  pub of_ends : at + length from ≤ length e₀

-- the two columns, before and after the block is read
pub record BlockRead (starts ends from to : List ℕ) (at : ℕ) (s₀ e₀ s e : List ℕ) : Type 0 where
  pub starts_are : Filled (λ k. get_or starts (get_or from (k - at) 0) 0) s₀ at (at + length from) s
  pub ends_are : Filled (λ k. get_or ends (get_or to (k - at) 0 - 1) 0) e₀ at (at + length from) e

-- ranges from `at` up to `past` of a list that has room, whose numbers are 0 so far
pub record RangesBetween (from to : List ℕ) (at past : ℕ) (numbers starts ends : List ℕ) : Type 0 where
  pub onward : at ≤ past
  pub inside : past ≤ length from
  pub room : AnswerRoom from to numbers starts ends
  pub zeros : (k : ℕ) → at ≤ k → k < past → get_or numbers k 0 ≡ 0

-- the three columns, before and after their answers are written
pub record AnsweredBetween (answers : ℕ → Result Range Refusal) (at past : ℕ) (numbers₀ starts₀ ends₀ numbers starts ends : List ℕ)
    : Type 0 where
  pub numbers_are : Filled (λ k. number_in (answers k)) numbers₀ at past numbers
  pub starts_are : Filled (λ k. start_in (answers k)) starts₀ at past starts
  pub ends_are : Filled (λ k. end_in (answers k)) ends₀ at past ends

-- the three passed columns, before and after n answers are written
pub record AnswersWritten (answers : ℕ → Result Range Refusal) (n : ℕ) (numbers₀ starts₀ ends₀ numbers starts ends : List ℕ)
    : Type 0 where
  pub numbers_are : numbers ≡ overlay (column n (λ i. number_in (answers i))) numbers₀
  pub starts_are : starts ≡ overlay (column n (λ i. start_in (answers i))) starts₀
  pub ends_are : ends ≡ overlay (column n (λ i. end_in (answers i))) ends₀
