-- Laws of `line_of` and `lines_of`: lines are laid one after the other, each within `longestLine` bytes.
use Prim.Native.Nat.{ℕ, zero, suc, ◌+◌, ◌*◌, ◌≤◌, ◌<◌}
use mathlib.Core.Path.{◌≡◌, ◌∙◌, ap, refl, sym}
use mathlib.Core.List.{List, [], ◌∷◌, ◌++◌}
use native.Mathlib.Nat.{add-zero}
use native.Mathlib.Numerals.{add-one}
use native.Mathlib.Omega.{arith}
use lib.ListN.{length, get_or, drop, length-append, drop_of_length-le}
use lib.Seq.{drop-cons, drop-drop}
use Rattle.buffers.specs.Splice.{splice, overlay, Laid}
use Rattle.buffers.proofs.Splice.{splice-nil, splice-splice, splice-overlay, overlay-long, laid-length, laid-after}
use Rattle.numbers.specs.Decimal.{field}
use Rattle.numbers.proofs.Decimal.{field-bounded-5}
use Rattle.note.specs.Notes.{limit}
use Rattle.alignment_lines.specs.Lines.{run_of, line_of, lines_from, lines_of, longest_line, LineBounded}
use Rattle.alignment_lines.proofs.Runs.{run-first, run-within}

-- a line: room for each field, and all four
pub length-line : (first count start end : ℕ) → length (line_of first count start end) ≡ length (field first 0x09) + (length (field count 0x09) + (length (field start 0x09) + length (field end 0x0A)))
unfolding line_of
length-line first count start end = simp length-append (omega arith)

module _ (first count start end : ℕ) (d : List ℕ) (at : ℕ) (room : at + length (line_of first count start end) ≤ length d) where
  pub first-room : at + length (field first 0x09) ≤ length d
  first-room = omega (arith, length-line first count start end)

  module _ {d₁ : List ℕ} {r₁ : ℕ} (l₁ : Laid (field first 0x09) d at r₁ d₁) where
    pub second-room : r₁ + length (field count 0x09) ≤ length d₁
    second-room = omega (arith, l₁.reach, length-line first count start end, laid-length l₁ first-room)

    module _ {d₂ : List ℕ} {r₂ : ℕ} (l₂ : Laid (field count 0x09) d₁ r₁ r₂ d₂) where
      pub third-room : r₂ + length (field start 0x09) ≤ length d₂
      third-room = omega (arith, l₁.reach, l₂.reach, length-line first count start end, laid-length l₁ first-room, laid-length l₂ second-room)

      module _ {d₃ : List ℕ} {r₃ : ℕ} (l₃ : Laid (field start 0x09) d₂ r₂ r₃ d₃) where
        pub fourth-room : r₃ + length (field end 0x0A) ≤ length d₃
        fourth-room =
            omega (arith, l₁.reach, l₂.reach, l₃.reach, length-line first count start end, laid-length l₁ first-room, laid-length l₂ second-room, laid-length l₃ third-room)

        pub line-laid : {d₄ : List ℕ} {r₄ : ℕ} → Laid (field end 0x0A) d₃ r₃ r₄ d₄ → Laid (line_of first count start end) d at r₄ d₄
        unfolding line_of
        line-laid l₄ =
            let here : at ≤ length d = omega arith in
            laid-after (laid-after (laid-after l₁ l₂ here) l₃ here) l₄ here

pub line-bounded : LineBounded
line-bounded first count start end a b c e =
    omega (arith, length-line first count start end, field-bounded-5 first 0x09 (omega arith), field-bounded-5 count 0x09 (omega arith), field-bounded-5 start 0x09 (omega arith), field-bounded-5 end 0x0A (omega arith))

-- bytes of a run whose line is laid are passed over
no-ends : (at k : ℕ) (ss : List ℕ) → lines_from at k ss [] ≡ []
unfolding lines_from
no-ends at k [] = refl
no-ends at k (s ∷ ss) = refl

passed : (k at : ℕ) (ss es : List ℕ) → lines_from at k ss es ≡ lines_from (at + k) 0 (drop k ss) (drop k es)
unfolding lines_from
passed zero at ss es = rw (add-zero at)
passed (suc k) at [] es = refl
passed (suc k) at (s ∷ ss) [] = sym (no-ends (at + suc k) 0 (drop k ss))
passed (suc k) at (s ∷ ss) (e ∷ es) =
    let far : suc at + k ≡ at + suc k = omega arith in
    passed k (suc at) ss es ∙ ap (λ (a : ℕ). lines_from a 0 (drop k ss) (drop k es)) far

lines_cons : (at s e : ℕ) (ss es : List ℕ) → lines_from at 0 (s ∷ ss) (e ∷ es) ≡ line_of at (suc (run_of s e ss es)) s e ++ lines_from (suc at) (run_of s e ss es) ss es
unfolding lines_from
lines_cons at s e ss es = refl

lines_none : (at : ℕ) (es : List ℕ) → lines_from at 0 [] es ≡ []
unfolding lines_from
lines_none at es = refl

lines_step : (starts ends : List ℕ) (at r : ℕ) → length starts ≡ length ends → at < length starts
    → r ≡ run_of (get_or starts at 0) (get_or ends at 0) (drop at starts) (drop at ends)
    → lines_from at 0 (drop at starts) (drop at ends)
    ≡ line_of at r (get_or starts at 0) (get_or ends at 0) ++ lines_from (at + r) 0 (drop (at + r) starts) (drop (at + r) ends)
lines_step starts ends at r alike h is =
    let k : at < length ends = omega arith in
    let first = rw (add-one at) at (run-first starts ends at r alike h is) in
    let far : suc at + run_of (get_or starts at 0) (get_or ends at 0) (drop (suc at) starts) (drop (suc at) ends) ≡ at + r = omega arith in
    rw (drop-cons starts at 0 h, drop-cons ends at 0 k, lines_cons, ← first)
    (ap (◌++◌ (line_of at r (get_or starts at 0) (get_or ends at 0)))
    (passed _ (suc at) (drop (suc at) starts) (drop (suc at) ends) ∙ rw (drop-drop _ (suc at) starts, drop-drop _ (suc at) ends, far)))

-- the lines of all runs: none yet, one more, all
pub record Lining (starts ends d₀ d : List ℕ) (at to : ℕ) : Type 0 where
  pub rest : splice d to (lines_from at 0 (drop at starts) (drop at ends)) ≡ splice d₀ 0 (lines_of starts ends)
  pub reach : to + length (lines_from at 0 (drop at starts) (drop at ends)) ≡ length (lines_of starts ends)
  pub inside : at ≤ length starts
  pub short : to ≤ longest_line * at
  pub same : length d ≡ length d₀

pub no_line : {starts ends d : List ℕ} → Lining starts ends d d 0 0
unfolding lines_of
no_line = record { rest = refl; reach = omega arith; inside = omega arith; short = omega arith; same = refl }

module _ {starts ends d₀ d : List ℕ} {at to : ℕ} (l : Lining starts ends d₀ d at to) where
  module _ {r : ℕ} (alike : length starts ≡ length ends) (few : length starts ≤ limit) (room : longest_line * length starts ≤ length d₀)
      (h : at < length starts) (is : r ≡ run_of (get_or starts at 0) (get_or ends at 0) (drop at starts) (drop at ends)) where
    -- for the line of any alignment there is room
    pub line-room : (s e : ℕ) → s ≤ limit → e ≤ limit → to + length (line_of at r s e) ≤ length d
    line-room s e start end =
        let within = run-within starts ends at r alike h is in
        omega (arith, l.short, l.same, line-bounded at r s e (omega arith) (omega (arith, within)) start end)

    pub one_line : {d₁ : List ℕ} {to₁ : ℕ} → get_or starts at 0 ≤ limit → get_or ends at 0 ≤ limit
        → Laid (line_of at r (get_or starts at 0) (get_or ends at 0)) d to to₁ d₁
        → Lining starts ends d₀ d₁ (at + r) to₁
    one_line start end laid =
        let within = run-within starts ends at r alike h is in
        let room-there = line-room (get_or starts at 0) (get_or ends at 0) start end in
        let most = line-bounded at r (get_or starts at 0) (get_or ends at 0) (omega arith) (omega (arith, within)) start end in
        let step = lines_step starts ends at r alike h is in
        record {
          rest = rw (laid.holds, laid.reach) (splice-splice d _ _ to (omega (arith, room-there))) ∙ ap (splice d to) (sym step) ∙ l.rest;
          reach = omega (arith, laid.reach, l.reach, ap length step, length-append (line_of at r (get_or starts at 0) (get_or ends at 0)) (lines_from (at + r) 0 (drop (at + r) starts) (drop (at + r) ends)));
          inside = omega (arith, within);
          short = omega (arith, laid.reach, l.short, within);
          same = laid-length laid room-there ∙ l.same;
        }

  pub every-line : length starts ≤ at → (to ≡ length (lines_of starts ends)) × (d ≡ overlay (lines_of starts ends) d₀)
  every-line past =
      let none : lines_from at 0 (drop at starts) (drop at ends) ≡ [] = rw (drop_of_length-le starts past) (lines_none at _) in
      let all : splice d to [] ≡ splice d₀ 0 (lines_of starts ends) = rw none at l.rest in
      (omega (arith, l.reach, ap length none), sym (splice-nil d to) ∙ all ∙ splice-overlay d₀ _)

-- lines that are written stand in the buffer
pub lines_fit : (starts ends d₀ : List ℕ) {d : List ℕ} {r : ℕ} → (r ≡ length (lines_of starts ends)) × (d ≡ overlay (lines_of starts ends) d₀) → r ≤ length d
lines_fit starts ends d₀ h = rw (h.1, h.0) (overlay-long _ _)
