-- RULES 12 (Rust: `BytesToCharOffsetConverter::convert`): a pair of bytes of a text as a pair of characters.
use Rattle.std.specs.Prelude.{ℕ, zero, suc, ◌+◌, ◌-◌, ◌≤◌, ◌<◌, ◌≡◌, Bool, true, cond, not, List, ltb, length, get_or, take, Result, Ok, Err}
use Rattle.buffers.specs.Columns.{column}
use Rattle.utf8.specs.Formed.{well_formed, continues}
use Rattle.utf8.specs.Chars.{chars, leads}
use Rattle.note.specs.declared.Refusal.{Refusal}
use Rattle.note.specs.declared.Refusal.TheVariants.{Missing}
use Rattle.note.specs.Refusals.{number_of, none, meets, also, verdict, unless_refused, least, after, Verdict}
use Rattle.note.specs.Faults.{text_faults, room_faults, length_faults}
use Rattle.utf8.specs.CharRanges.{char_start}
use Rattle.note.specs.declared.CharIndex.{CharIndex}

-- RULES 12.1: the index of a byte; a position past the text has none
unfoldable pub index_of : List ℕ → ℕ → ℕ
index_of s zero = 0
index_of s (suc b) = cond (continues (get_or s (suc b) 0)) (index_of s b) (index_of s b + 1)

abbrev pub is_mapped : List ℕ → ℕ → Bool
is_mapped s b = ltb b (length s)

abbrev pub char_pair : ℕ → ℕ → Result (CharIndex × CharIndex) Refusal
char_pair a e = Ok (record { 0 = a }, record { 0 = e })

-- RULES 12.3: the end's index, or the one before it plus 1, or the start's plus 2
unfoldable pub end_index : List ℕ → ℕ → ℕ → ℕ
end_index s a e =
    cond (is_mapped s e) (index_of s e) (cond (is_mapped s (e - 1)) (index_of s (e - 1) + 1) (index_of s a + 2))

unfoldable pub pair_of : List ℕ → ℕ → ℕ → Result (CharIndex × CharIndex) Refusal
pair_of s a e = cond (is_mapped s a) (char_pair (index_of s a) (end_index s a e)) (Err Missing)

-- RULES 12.2: one pair
unfoldable pub char_offsets : ℕ → List ℕ → ℕ → ℕ → Result (CharIndex × CharIndex) Refusal
char_offsets most s a e =
    unless_refused Err (verdict (also (text_faults most s) (meets Missing (not (is_mapped s a)) none))) (pair_of s a e)

-- RULES 15.4: a list of pairs, each answered in three columns: 0 and the two characters, or the refusal's number, 0
-- and 0
abbrev pub of_pair : {A : Type 0} → (ℕ → ℕ → A) → (Refusal → A) → Result (CharIndex × CharIndex) Refusal → A
of_pair some none (Ok (a, e)) = some a.0 e.0
of_pair some none (Err k) = none k

abbrev pub pair_number : Result (CharIndex × CharIndex) Refusal → ℕ
pair_number pair = of_pair (λ a e. 0) number_of pair

abbrev pub pair_start : Result (CharIndex × CharIndex) Refusal → ℕ
pair_start pair = of_pair (λ a e. a) (λ k. 0) pair

abbrev pub pair_end : Result (CharIndex × CharIndex) Refusal → ℕ
pair_end pair = of_pair (λ a e. e) (λ k. 0) pair

abbrev pub pair_at : List ℕ → List ℕ → List ℕ → ℕ → Result (CharIndex × CharIndex) Refusal
pair_at s starts ends i = pair_of s (get_or starts i 0) (get_or ends i 0)

-- the text's refusals, beside them a list that has not as many ends as starts; then the room for one answer a pair
-- the text, the pairs, the passed columns before, the answer, the passed columns after
pub record CharOffsetsList (most : ℕ) (s starts ends n₀ a₀ e₀ : List ℕ) (r : Verdict) (n₁ a₁ e₁ : List ℕ) : Type 0 where
  pub answer : r ≡ verdict (also (also (text_faults most s) (length_faults starts ends))
      (room_faults (length starts) (least (length n₀) (length a₀) (length e₀))))
  pub numbers_are : n₁ ≡ after r (column (length starts) (λ i. pair_number (pair_at s starts ends i))) n₀
  pub starts_are : a₁ ≡ after r (column (length starts) (λ i. pair_start (pair_at s starts ends i))) a₀
  pub ends_are : e₁ ≡ after r (column (length starts) (λ i. pair_end (pair_at s starts ends i))) e₀

-- CLAIM: a byte's index is the number of characters before the one that it belongs to.
abbrev pub IndexIsChars : Type 0
IndexIsChars =
    (s : List ℕ) (b : ℕ) → well_formed s ≡ true → b < length s → index_of s b ≡ chars (take (char_start s b) s)

-- CLAIM: a start that is answered is below the number of characters, an end at most one more than it.
abbrev pub PositionsBounded : Type 0
PositionsBounded =
    (s : List ℕ) (a e i j : ℕ) → well_formed s ≡ true → pair_of s a e ≡ char_pair i j → (i < leads s) × (j ≤ leads s + 1)
