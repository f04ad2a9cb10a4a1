-- Laws of `begunAfterFirst`, `Marked` and `countAt`: the marks one after the other, and a look-up.
use Rattle.std.proofs.Common.{◌≡◌, ℕ, ◌+◌, ◌-◌, ◌*◌, ◌/◌, ◌%◌, ◌<◌, ◌≤◌, Bool, not, List, length, get_or, take, drop, set, sym, refl, ◌∙◌, arith, length-drop, length-set, length-take, get_or-drop, get_or-set_other, get_or-set_same, drop-drop}
use mir.Val.{bool_byte}
use Rattle.buffers.specs.Splice.{part}
use Rattle.buffers.proofs.Cases.{le-or-lt}
use Rattle.utf8.specs.Formed.{continues}
use Rattle.utf8.specs.Chars.{leads}
use Rattle.utf8.specs.Counting.{Counted}
use Rattle.utf8.proofs.Chars.{flag-counted, leads-le-length, leads-take-add}
use Rattle.char_counts.specs.Counts.{begun_after_first, count_at, LookedUp, CountsLent}

pub begun-zero : (s : List ℕ) → begun_after_first s 0 ≡ 0
unfolding begun_after_first leads
begun-zero s = refl

pub begun-most : (s : List ℕ) (b : ℕ) → begun_after_first s b ≤ b
unfolding begun_after_first
begun-most s b = omega (arith, leads-le-length (take b (drop 1 s)), length-take b (drop 1 s))

-- k bytes on: as many more as begin there
pub begun-add : (s : List ℕ) (b k : ℕ) → begun_after_first s (b + k) ≡ begun_after_first s b + leads (part s (b + 1) (b + 1 + k))
unfolding begun_after_first
begun-add s b k =
    let gap : b + 1 + k - (b + 1) ≡ k = omega arith in
    let turn : 1 + b ≡ b + 1 = omega arith in
    rw (gap, leads-take-add (drop 1 s) b k, drop-drop b 1 s, turn)

pub begun-next : (s : List ℕ) (b : ℕ) {t : Bool} → b + 1 < length s → t ≡ continues (get_or s (b + 1) 0) → begun_after_first s (b + 1) ≡ begun_after_first s b + bool_byte (not t)
unfolding begun_after_first
begun-next s b {t} h e =
    let turn : 1 + b ≡ b + 1 = omega arith in
    let long : b < length (drop 1 s) = simp length-drop (omega arith) in
    let here : Counted (drop 1 s) (leads (take b (drop 1 s))) b = record { so_far = refl; most = omega arith } in
    let same : t ≡ continues (get_or (drop 1 s) b 0) = rw (get_or-drop 1 s b 0, turn) e in
    sym (flag-counted here long same).so_far

-- the first k marks are written
pub record Marking (s d₀ d : List ℕ) (count k : ℕ) : Type 0 where
  pub count_is : count ≡ begun_after_first s ((k - 1) * 128)
  pub same : length d ≡ length d₀
  pub room : length s ≤ 128 * length d
  pub so_far : (j : ℕ) → j < k → get_or d j 0 ≡ begun_after_first s (j * 128)

pub first-mark : {s : List ℕ} (d : List ℕ) → 1 ≤ length d → length s ≤ 128 * length d → Marking s (set d 0 0) (set d 0 0) 0 1
first-mark {s} d some enough =
    record {
      count_is = sym (begun-zero s);
      same = refl;
      room = simp length-set enough;
      so_far = λ j h. let z : j ≡ 0 = omega arith in rw z (get_or-set_same d 0 0 0 some ∙ sym (begun-zero s));
    }

pub next-mark : {s d₀ d : List ℕ} {count k r : ℕ} → Marking s d₀ d count k → 1 ≤ k → k * 128 < length s → r ≡ leads (part s (k * 128 - 127) (k * 128 + 1)) → Marking s d₀ (set d k (count + r)) (count + r) (k + 1)
next-mark {s} {d₀} {d} {count} {k} {r} w some more is =
    let start : (k - 1) * 128 + 1 ≡ k * 128 - 127 = omega arith in
    let end : k * 128 - 127 + 128 ≡ k * 128 + 1 = omega arith in
    let next : (k - 1) * 128 + 128 ≡ k * 128 = omega arith in
    let same : k + 1 - 1 ≡ k = omega arith in
    let on : count + r ≡ begun_after_first s (k * 128) = rw (w.count_is, is) (sym (rw (start, end, next) at (begun-add s ((k - 1) * 128) 128))) in
    record {
      count_is = rw same on;
      same = simp length-set w.same;
      room = simp length-set w.room;
      so_far =
          λ j h. le-or-lt k j
          (λ last. let z : j ≡ k = omega arith in rw (z, get_or-set_same d k (count + r) 0 (omega (arith, w.room))) on)
          (λ before. get_or-set_other d k j (count + r) 0 (λ e. omega (arith, e)) ∙ w.so_far j before);
    }

-- a look-up
pub looked-up : (marks lows : List ℕ) (b : ℕ) {r : ℕ} → (r + get_or marks (b / 128) 0 % 256) % 256 ≡ get_or lows b 0 → r < 256 → get_or lows b 0 < 256 → get_or marks (b / 128) 0 + r ≡ count_at marks lows b
unfolding count_at
looked-up marks lows b {r} is small low = omega arith

module _ {most : ℕ} {s marks lows : List ℕ} (b : ℕ) (lent : CountsLent most s marks lows) (below : b < length s) where
  pub can-look : LookedUp marks lows b
  can-look = record { mark = omega (arith, lent.marks_are.enough); low = omega (arith, lent.long) }

  pub count-begun : count_at marks lows b ≡ begun_after_first s b
  unfolding count_at
  count-begun =
      let mark : get_or marks (b / 128) 0 ≡ begun_after_first s (128 * (b / 128)) = lent.marks_are.marked (b / 128) (omega arith) in
      let low : get_or lows b 0 ≡ begun_after_first s b % 256 = lent.lows_are b below in
      let whole : 128 * (b / 128) + b % 128 ≡ b = omega arith in
      let on : begun_after_first s b ≡ begun_after_first s (128 * (b / 128)) + leads (part s (128 * (b / 128) + 1) (128 * (b / 128) + 1 + b % 128)) = rw whole at (begun-add s (128 * (b / 128)) (b % 128)) in
      let few : leads (part s (128 * (b / 128) + 1) (128 * (b / 128) + 1 + b % 128)) ≤ b % 128 =
      omega (arith, leads-le-length (part s (128 * (b / 128) + 1) (128 * (b / 128) + 1 + b % 128)), length-take (128 * (b / 128) + 1 + b % 128 - (128 * (b / 128) + 1)) (drop (128 * (b / 128) + 1) s)) in
      rw (mark, low) (omega arith)
