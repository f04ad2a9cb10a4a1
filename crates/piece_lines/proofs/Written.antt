-- Laws of the lines that are laid: a word and a number, a line, and the lines of spans one after the other.
use Prim.Native.Nat.{ℕ, ◌+◌, ◌≤◌, ◌<◌}
use mathlib.Core.Path.{◌≡◌, ◌∙◌, ap, refl, sym}
use mathlib.Core.List.{List, [], ◌∷◌, ◌++◌}
use native.Mathlib.Numerals.{add-one}
use native.Mathlib.Omega.{arith}
use lib.ListN.{length, get_or, drop, length-append, drop_of_length-le}
use lib.Seq.{drop-cons}
use Rattle.buffers.specs.Splice.{part, splice, Laid}
use Rattle.buffers.proofs.Splice.{splice-nil, splice-splice, laid-length, laid-after}
use Rattle.numbers.specs.Decimal.{field}
use Rattle.piece_lines.specs.Spans.{line, span_lines, pieces_word, spans_text}

-- a run that was copied or filled in
pub copied : {p d d₁ : List ℕ} {at : ℕ} → d₁ ≡ splice d at p → Laid p d at (at + length p) d₁
copied e = record { reach = refl; holds = e }

-- a word, and a number after it
module _ (word : List ℕ) (n : ℕ) (d : List ℕ) (room : length (word ++ field n 0x0A) ≤ length d) where
  pub word_room : 0 + length word ≤ length d
  word_room = omega (arith, length-append word (field n 0x0A))

  module _ {d₁ : List ℕ} (e : d₁ ≡ splice d 0 word) where
    worded : Laid word d 0 (length word) d₁
    worded = record { reach = omega arith; holds = e }

    pub number-room : length word + length (field n 0x0A) ≤ length d₁
    number-room = omega (arith, length-append word (field n 0x0A), laid-length worded word_room)

    pub headline-laid : {d₂ : List ℕ} {r : ℕ} → Laid (field n 0x0A) d₁ (length word) r d₂ → Laid (word ++ field n 0x0A) d 0 r d₂
    headline-laid l = laid-after worded l (omega arith)

-- a line: room for each part, and all four
pub length-line : (a e : ℕ) (bytes : List ℕ) → length (line a e bytes) ≡ length (field a 0x20) + (length (field e 0x20) + (length bytes + 1))
unfolding line
length-line a e bytes = simp length-append (omega arith)

module _ (a e : ℕ) (bytes d : List ℕ) (at : ℕ) (room : at + length (line a e bytes) ≤ length d) where
  pub start-room : at + length (field a 0x20) ≤ length d
  start-room = omega (arith, length-line a e bytes)

  module _ {d₁ : List ℕ} {r₁ : ℕ} (l₁ : Laid (field a 0x20) d at r₁ d₁) where
    pub end-room : r₁ + length (field e 0x20) ≤ length d₁
    end-room = omega (arith, l₁.reach, length-line a e bytes, laid-length l₁ start-room)

    module _ {d₂ : List ℕ} {r₂ : ℕ} (l₂ : Laid (field e 0x20) d₁ r₁ r₂ d₂) where
      pub bytes-room : r₂ + length bytes ≤ length d₂
      bytes-room = omega (arith, l₁.reach, l₂.reach, length-line a e bytes, laid-length l₁ start-room, laid-length l₂ end-room)

      module _ {d₃ : List ℕ} (e₃ : d₃ ≡ splice d₂ r₂ bytes) where
        pub ending-room : r₂ + length bytes + 1 ≤ length d₃
        ending-room =
            omega (arith, l₁.reach, l₂.reach, length-line a e bytes, laid-length l₁ start-room, laid-length l₂ end-room, laid-length (copied e₃) bytes-room)

        pub line-laid : {d₄ : List ℕ} → d₄ ≡ splice d₃ (r₂ + length bytes) (0x0A ∷ []) → Laid (line a e bytes) d at (r₂ + length bytes + 1) d₄
        unfolding line
        line-laid e₄ =
            let here : at ≤ length d = omega arith in
            laid-after (laid-after (laid-after l₁ l₂ here) (copied e₃) here) (copied e₄) here

-- the lines of spans: none yet, one more, all
spans-cons : (text starts ends : List ℕ) (i : ℕ) → length starts ≡ length ends → i < length starts → span_lines text (drop i starts) (drop i ends) ≡ line (get_or starts i 0) (get_or ends i 0) (part text (get_or starts i 0) (get_or ends i 0)) ++ span_lines text (drop (i + 1) starts) (drop (i + 1) ends)
unfolding span_lines
spans-cons text starts ends i alike h =
    let k : i < length ends = omega arith in
    rw (drop-cons starts i 0 h, drop-cons ends i 0 k, add-one i)

pub record Lined (text starts ends d₀ : List ℕ) (from : ℕ) (d : List ℕ) (reach i : ℕ) : Type 0 where
  pub rest : splice d reach (span_lines text (drop i starts) (drop i ends)) ≡ splice d₀ from (span_lines text starts ends)
  pub onward : reach + length (span_lines text (drop i starts) (drop i ends)) ≡ from + length (span_lines text starts ends)
  pub inside : i ≤ length starts
  pub same : length d ≡ length d₀

pub no_line : {text starts ends d : List ℕ} {from : ℕ} → Lined text starts ends d from d from 0
no_line = record { rest = refl; onward = refl; inside = omega arith; same = refl }

module _ {text starts ends d₀ : List ℕ} {from : ℕ} {d : List ℕ} {reach i : ℕ} (w : Lined text starts ends d₀ from d reach i) (room : from + length (span_lines text starts ends) ≤ length d₀) where
  module _ (alike : length starts ≡ length ends) (h : i < length starts) where
    step : span_lines text (drop i starts) (drop i ends) ≡ line (get_or starts i 0) (get_or ends i 0) (part text (get_or starts i 0) (get_or ends i 0)) ++ span_lines text (drop (i + 1) starts) (drop (i + 1) ends)
    step = spans-cons text starts ends i alike h

    pub line-room : reach + length (line (get_or starts i 0) (get_or ends i 0) (part text (get_or starts i 0) (get_or ends i 0))) ≤ length d
    line-room =
        omega (arith, w.onward, w.same, ap length step ∙ length-append (line (get_or starts i 0) (get_or ends i 0) (part text (get_or starts i 0) (get_or ends i 0))) (span_lines text (drop (i + 1) starts) (drop (i + 1) ends)))

    pub one_line : {d₁ : List ℕ} {r : ℕ} → Laid (line (get_or starts i 0) (get_or ends i 0) (part text (get_or starts i 0) (get_or ends i 0))) d reach r d₁ → Lined text starts ends d₀ from d₁ r (i + 1)
    one_line l =
        let first = line (get_or starts i 0) (get_or ends i 0) (part text (get_or starts i 0) (get_or ends i 0)) in
        let others = span_lines text (drop (i + 1) starts) (drop (i + 1) ends) in
        record {
          rest = rw (l.holds, l.reach) (splice-splice d first others reach (omega (arith, line-room)) ∙ sym (ap (splice d reach) step) ∙ w.rest);
          onward = omega (arith, l.reach, w.onward, ap length step ∙ length-append first others);
          inside = omega arith;
          same = laid-length l line-room ∙ w.same;
        }

  pub every-line : length starts ≤ i → Laid (span_lines text starts ends) d₀ from reach d
  unfolding span_lines
  every-line h =
      let none : span_lines text (drop i starts) (drop i ends) ≡ [] = rw (drop_of_length-le starts h) in
      record { reach = omega (arith, w.onward, ap length none); holds = sym (splice-nil d reach) ∙ (rw none at w.rest) }

-- the line in front, and the lines of all spans
module _ (text starts ends d : List ℕ) (room : length (spans_text text starts ends) ≤ length d) where
  long : length (spans_text text starts ends) ≡ length (pieces_word ++ field (length starts) 0x0A) + length (span_lines text starts ends)
  unfolding spans_text
  long = length-append (pieces_word ++ field (length starts) 0x0A) (span_lines text starts ends)

  pub front-room : length (pieces_word ++ field (length starts) 0x0A) ≤ length d
  front-room = omega (arith, long)

  module _ {d₁ : List ℕ} {r : ℕ} (l : Laid (pieces_word ++ field (length starts) 0x0A) d 0 r d₁) where
    pub lines-room : r + length (span_lines text starts ends) ≤ length d₁
    lines-room = omega (arith, long, l.reach, laid-length l (omega (arith, front-room)))

    pub spans-laid : {d₂ : List ℕ} {r₂ : ℕ} → Laid (span_lines text starts ends) d₁ r r₂ d₂ → Laid (spans_text text starts ends) d 0 r₂ d₂
    unfolding spans_text
    spans-laid m = laid-after l m (omega arith)
