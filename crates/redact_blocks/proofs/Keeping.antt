-- Laws of stretches of a starting note: one byte, a block and its front, and a content in a match's place.
use Prim.Native.Nat.{ℕ, suc, ◌+◌, ◌-◌, ◌≤◌, ◌<◌}
use mathlib.Core.Path.{◌≡◌, ◌∙◌, ap, refl, sym}
use mathlib.Core.Bool.{true, false}
use mathlib.Core.List.{List, [], ◌∷◌, ◌++◌, append-nil}
use native.Mathlib.Omega.{arith}
use lib.ListN.{length, get_or, set, take, drop, replicate, length-append, length-drop, length-replicate, length-set, get_or-append}
use lib.Seq.{take-suc-set, drop-set-lt, drop-cons, get_or-take, get_or-drop, get_or-append-add, ext_get_or, length-take-le}
use Rattle.buffers.specs.Splice.{part, splice}
use Rattle.buffers.specs.Columns.{column, Filled}
use Rattle.buffers.specs.Over.{Over}
use Rattle.buffers.proofs.Cases.{le-or-lt}
use Rattle.buffers.proofs.Splice.{length_part, part-index, part-front}
use Rattle.buffers.proofs.Columns.{length-column, getD-column, filled-as}
use Rattle.buffers.proofs.Over.{over-exact, over-front}
use borrow.Author.Tests.{lt-leb}
use Rattle.utf8.specs.Table.{within}
use Rattle.utf8.specs.Formed.{well_formed, continues}
use Rattle.validity_blocks.specs.Extremes.{largest}
use Rattle.validity_blocks.proofs.Largest.{largest-at}
use Rattle.column_blocks.specs.ContinuationRun.{continuation_run}
use Rattle.column_blocks.proofs.ContinuationRun.{end-ahead}
use Rattle.note.specs.Notes.{limit}
use Rattle.utf8.proofs.CharRanges.{Ranged, ranged, char_start-begins}
use Rattle.utf8.specs.CharRanges.{char_start, char_end}
use Rattle.note.specs.Starting.{starting}
use Rattle.note.proofs.Starting.{length-starting-starts, length-starting-ends}
use Rattle.note.proofs.BeforeEnd.{before-some}
use Rattle.replace.proofs.Columns.{content-alone}
use Rattle.redact_blocks.specs.Keeping.{StretchRoom, Stretch, ContentRoom, ContentLaid}

-- less is told with a larger bound
over_below : {r d₀ d : List ℕ} {at until : ℕ} (more : ℕ) → until ≤ more → Over r d₀ at until d → Over r d₀ at more d
over_below more h o = record { front = o.front; beyond = λ k past below. o.beyond k past (omega arith); same = o.same }

-- one element of a column
pub over-one : (xs d : List ℕ) (i at until : ℕ) {x : ℕ} → i < length xs → at < length d → x ≡ get_or xs i 0 → Over (part xs i (i + 1)) d at until (set d at x)
over-one xs d i at until {x} h room is =
    let one : i + 1 - i ≡ 1 = omega arith in
    let run : part xs i (i + 1) ≡ x ∷ [] = rw (one, drop-cons xs i 0 h, is) in
    record {
      front = rw run (let next : at + 1 ≡ suc at = omega arith in rw next (take-suc-set d at x room));
      beyond = λ k past below. drop-set-lt k d at x (let long : length (part xs i (i + 1)) ≡ 1 = ap length run in omega arith);
      same = simp length-set;
    }

-- a run of a column, by index
module _ (n : ℕ) (f : ℕ → ℕ) (i c : ℕ) (d₀ : List ℕ) (at until : ℕ) {d : List ℕ} (w : Filled (λ k. f (i + (k - at))) d₀ at (at + c) d) (inside : i + c ≤ n) (room : at + c ≤ length d₀) where
  long : length (part (column n f) i (i + c)) ≡ c
  long = let all : length (column n f) ≡ n = length-column n f in omega (arith, length_part (column n f) i (i + c) (omega arith))

  start : length (take at d₀) ≡ at
  start = length-take-le at d₀ (omega arith)

  front_at : (k : ℕ) → k < at + c → get_or (take (at + c) d) k 0 ≡ get_or (take at d₀ ++ part (column n f) i (i + c)) k 0
  front_at k h =
      get_or-take (at + c) d k 0 h
      ∙ le-or-lt at k
      (λ from.
      let here : at + (k - at) ≡ k = omega arith in
      w.within k from h
      ∙ sym (rw here at (rw start at (get_or-append-add (take at d₀) (part (column n f) i (i + c)) (k - at) 0))
      ∙ part-index (column n f) i (i + c) (k - at) (omega arith)
      ∙ getD-column n f (i + (k - at)) (omega arith)))
      (λ below.
      w.before k below
      ∙ sym (get_or-append (take at d₀) (part (column n f) i (i + c)) 0 k (omega (arith, start)) ∙ get_or-take at d₀ k 0 below))

  pub filled-over : Over (part (column n f) i (i + c)) d₀ at until d
  filled-over =
      record {
        front = rw long (ext_get_or 0 (take (at + c) d) (take at d₀ ++ part (column n f) i (i + c))
            (length-take-le (at + c) d (omega (arith, w.same)) ∙ sym (length-append (take at d₀) (part (column n f) i (i + c)) ∙ omega (arith, start, long)))
            (λ k h. front_at k (omega (arith, length-take-le (at + c) d (omega (arith, w.same))))));
        beyond = λ k past below. ext_get_or 0 (drop k d) (drop k d₀) (simp length-drop (omega (arith, w.same)))
            (λ j h. get_or-drop k d j 0 ∙ w.beyond (k + j) (omega (arith, long)) ∙ sym (get_or-drop k d₀ j 0));
        same = w.same;
      }

-- a byte with its alignment, and a block
module _ {text : List ℕ} {i : ℕ} {out starts ends : List ℕ} {at : ℕ} where
  pub byte-laid : StretchRoom text i (i + 1) out starts ends at → {x y z : ℕ} → x ≡ get_or text i 0 → y ≡ char_start text i → z ≡ char_end text i → Stretch text i (i + 1) out starts ends at 0 (set out at x) (set starts at y) (set ends at z)
  unfolding starting
  byte-laid r b s e =
      let here : i < length text = omega (arith, r.inside) in
      record {
        text_over = over-one text out i at 0 here (omega (arith, r.text_room)) b;
        starts_over = over-one (column (length text) (char_start text)) starts i at 0 (rw (length-column (length text) (char_start text)) here) (omega (arith, r.starts_room)) (s ∙ sym (getD-column (length text) (char_start text) i here));
        ends_over = over-one (column (length text) (char_end text)) ends i at 0 (rw (length-column (length text) (char_end text)) here) (omega (arith, r.ends_room)) (e ∙ sym (getD-column (length text) (char_end text) i here));
      }

  pub block-laid : StretchRoom text i (i + 64) out starts ends at → {out₁ starts₁ ends₁ : List ℕ} → out₁ ≡ splice out at (part text i (i + 64))
      → Filled (λ k. char_start text (i + (k - at))) starts at (at + 64) starts₁ → Filled (λ k. char_end text (i + (k - at))) ends at (at + 64) ends₁
      → Stretch text i (i + 64) out starts ends at 0 out₁ starts₁ ends₁
  unfolding starting
  block-laid r b s e =
      record {
        text_over = over-exact (part text i (i + 64)) out at 0 (omega (arith, r.text_room, length_part text i (i + 64) r.inside)) b;
        starts_over = filled-over (length text) (char_start text) i 64 starts at 0 s r.inside (omega (arith, r.starts_room));
        ends_over = filled-over (length text) (char_end text) i 64 ends at 0 e r.inside (omega (arith, r.ends_room));
      }

-- of a text of bytes below 80 the numbers count up
module _ (s : List ℕ) (e : largest s < 0x80) where
  no-continues : (k : ℕ) → continues (get_or s k 0) ≡ false
  unfolding continues within
  no-continues k = rw (lt-leb 0x80 (get_or s k 0) (omega (arith, largest-at s k)))

  plain_end : (k : ℕ) → well_formed s ≡ true → k < length s → char_end s k ≡ k + 1
  unfolding continuation_run
  plain_end k p h = end-ahead s k p h ∙ rw (no-continues (k + 1)) (omega arith)

  pub plain-laid : {i : ℕ} {out starts ends : List ℕ} {at : ℕ} → StretchRoom s i (i + 64) out starts ends at → {out₁ starts₁ ends₁ : List ℕ}
      → out₁ ≡ splice out at (part s i (i + 64)) → Filled (λ k. i + (k - at)) starts at (at + 64) starts₁
      → Filled (λ k. i + 1 + (k - at)) ends at (at + 64) ends₁
      → Stretch s i (i + 64) out starts ends at 0 out₁ starts₁ ends₁
  plain-laid {i} {at = at} r b up next =
      block-laid r b
      (filled-as _ _ _ _ _ _ up (λ k from to. sym (char_start-begins s (i + (k - at)) (no-continues (i + (k - at))))))
      (filled-as _ _ _ _ _ _ next (λ k from to. omega (arith, plain_end (i + (k - at)) r.formed (omega (arith, r.inside)))))

-- a range of a text within the limit
pub range_small : (text : List ℕ) (i : ℕ) {a b : ℕ} → well_formed text ≡ true → i < length text → length text ≤ limit → a ≡ char_start text i → b ≡ char_end text i → (a ≤ limit) × (b ≤ limit)
range_small text i p h short s e = let r : Ranged text i = ranged text i p h in (omega (arith, r.from), omega (arith, r.most))

pub byte_small : {text : List ℕ} {i : ℕ} {out starts ends : List ℕ} {at a b : ℕ} → StretchRoom text i (i + 1) out starts ends at → a ≡ char_start text i → b ≡ char_end text i → (a ≤ limit) × (b ≤ limit)
byte_small {text} {i} r = range_small text i r.formed (omega (arith, r.inside)) r.short

pub padded-first : {text : List ℕ} {end : ℕ} {padded : List ℕ} {content_len until : ℕ} {out starts ends : List ℕ} {at a : ℕ} → ContentRoom text end padded content_len until out starts ends at → a ≡ char_start text (end - 1) → a ≤ limit
padded-first {text} {end} r is = (range_small text (end - 1) r.formed (omega (arith, r.some, r.inside)) r.short is refl).0

pub padded-small : {text : List ℕ} {end : ℕ} {padded : List ℕ} {content_len until : ℕ} {out starts ends : List ℕ} {at a b : ℕ} → ContentRoom text end padded content_len until out starts ends at → a ≡ char_start text (end - 1) → b ≡ char_end text (end - 1) → (a ≤ limit) × (b ≤ limit)
padded-small {text} {end} r = range_small text (end - 1) r.formed (omega (arith, r.some, r.inside)) r.short

-- nothing yet, and the front of a block
over_none : (xs d : List ℕ) (from at until : ℕ) → Over (part xs from from) d at until d
over_none xs d from at until =
    let none : from - from ≡ 0 = omega arith in
    let z : at + 0 ≡ at = omega arith in
    rw none (record { front = rw z (sym (append-nil (take at d))); beyond = λ k past below. refl; same = refl })

pub stretch-none : {text : List ℕ} {i : ℕ} {out starts ends : List ℕ} {at until : ℕ} → Stretch text i (i + 0) out starts ends at until out starts ends
stretch-none {text} {i} {out} {starts} {ends} {at} {until} =
    let z : i + 0 ≡ i = omega arith in
    rw z
    (record {
      text_over = over_none text out i at until;
      starts_over = over_none (starting text).starts starts i at until;
      ends_over = over_none (starting text).ends ends i at until;
    })

over-part : (xs : List ℕ) (i n k : ℕ) {d₀ d : List ℕ} {at : ℕ} → k ≤ n → i + n ≤ length xs → at ≤ length d₀ → Over (part xs i (i + n)) d₀ at 0 d → Over (part xs i (i + k)) d₀ at (at + n) d
over-part xs i n k {d₀} {d} {at} few inside room o =
    let long : length (part xs i (i + n)) ≡ i + n - i = length_part xs i (i + n) inside in
    let is : i + k - i ≡ k = omega arith in
    rw (part-front xs i (i + k) (i + n) (omega arith)) at
    (over-front (i + k - i) (over_below (at + n) (omega arith) o) (omega arith) room (omega arith))

pub stretch-front : {text : List ℕ} {i : ℕ} {out₀ starts₀ ends₀ : List ℕ} {at : ℕ} {out starts ends : List ℕ} (k : ℕ) → k ≤ 64
    → StretchRoom text i (i + 64) out₀ starts₀ ends₀ at → Stretch text i (i + 64) out₀ starts₀ ends₀ at 0 out starts ends
    → Stretch text i (i + k) out₀ starts₀ ends₀ at (at + 64) out starts ends
stretch-front {text} {i} k few r s =
    record {
      text_over = over-part text i 64 k few r.inside (omega (arith, r.text_room)) s.text_over;
      starts_over = over-part (starting text).starts i 64 k few (rw (length-starting-starts text) r.inside) (omega (arith, r.starts_room)) s.starts_over;
      ends_over = over-part (starting text).ends i 64 k few (rw (length-starting-ends text) r.inside) (omega (arith, r.ends_room)) s.ends_over;
    }

-- a content, each byte of which carries the range of the byte before the match's end
pub padded-laid : {text : List ℕ} {end : ℕ} {padded : List ℕ} {content_len until : ℕ} {out starts ends : List ℕ} {at : ℕ}
    → ContentRoom text end padded content_len until out starts ends at → {x y : ℕ} {out₁ starts₁ ends₁ : List ℕ} → x ≡ char_start text (end - 1)
    → y ≡ char_end text (end - 1) → Over (part padded 0 content_len) out at until out₁ → Over (replicate content_len x) starts at until starts₁
    → Over (replicate content_len y) ends at until ends₁
    → ContentLaid text end padded content_len out starts ends at until out₁ starts₁ ends₁
unfolding starting
padded-laid {text} {end} r p q t s e =
    let last : end - 1 < length text = omega (arith, r.some, r.inside) in
    record {
      text_over = t;
      starts_over = rw (before-some (column (length text) (char_start text)) end r.some, getD-column (length text) (char_start text) (end - 1) last) (rw p at s);
      ends_over = rw (before-some (column (length text) (char_end text)) end r.some, getD-column (length text) (char_end text) (end - 1) last) (rw q at e);
    }

pub padded-exact : {text : List ℕ} {end : ℕ} {content : List ℕ} {out starts ends : List ℕ} {at : ℕ}
    → ContentRoom text end content (length content) 0 out starts ends at → {x y : ℕ} {out₁ starts₁ ends₁ : List ℕ} → x ≡ char_start text (end - 1)
    → y ≡ char_end text (end - 1) → out₁ ≡ splice out at content → starts₁ ≡ splice starts at (replicate (length content) x)
    → ends₁ ≡ splice ends at (replicate (length content) y)
    → ContentLaid text end content (length content) out starts ends at 0 out₁ starts₁ ends₁
padded-exact {content = content} {out} {starts} {ends} {at} r {x} {y} p q t s e =
    padded-laid r p q
    (rw (content-alone content) (over-exact content out at 0 r.text_room t))
    (over-exact (replicate (length content) x) starts at 0 (omega (arith, r.starts_room, length-replicate (length content) x)) s)
    (over-exact (replicate (length content) y) ends at 0 (omega (arith, r.ends_room, length-replicate (length content) y)) e)
