-- Laws of `fourAt`, `sixteenAt` and `LowsTo`: low bytes one at a time and 16 bytes on.
use Rattle.std.proofs.Common.{◌≡◌, ℕ, ◌+◌, ◌-◌, ◌%◌, ◌<◌, ◌≤◌, Bool, not, List, length, get_or, drop, set, sym, refl, ap, ◌∙◌, arith, length-set, length-take, get_or-set_other, get_or-set_same}
use mir.Val.{bool_byte}
use lib.ListN.{get_or-eq_default}
use Rattle.buffers.specs.Splice.{part}
use Rattle.buffers.specs.Columns.{Filled}
use Rattle.buffers.proofs.Cases.{le-or-lt}
use Rattle.buffers.proofs.Splice.{length_part, part-index, part-append}
use Rattle.utf8.specs.Formed.{continues}
use Rattle.utf8.specs.Chars.{leads}
use Rattle.utf8.specs.Counting.{Counted}
use Rattle.utf8.proofs.Chars.{none-counted, flag-counted, all-counted, leads-append, leads-le-length}
use Rattle.char_counts.specs.Counts.{begun_after_first}
use Rattle.char_counts.specs.Lows.{four_at, sixteen_at, LowsTo, EachReady}
use Rattle.char_counts.proofs.Counts.{begun-zero, begun-add, begun-next}

-- four bytes, counted one after the other
module _ (s : List ℕ) (from k : ℕ) (inside : from + k + 4 ≤ length s) where
  abbrev four : List ℕ
  four = part s (from + k) (from + k + 4)

  long : length four ≡ 4
  long = length_part s (from + k) (from + k + 4) inside ∙ omega arith

  one_more : {n j : ℕ} {t : Bool} → Counted four n j → j < 4 → t ≡ continues (get_or s (from + k + j) 0) → Counted four (n + bool_byte (not t)) (j + 1)
  one_more {j = j} w h e =
      flag-counted w (omega (arith, long)) (e ∙ ap continues (sym (part-index s (from + k) (from + k + 4) j (omega arith))))

  module _ {t0 t1 : Bool} (p0 : t0 ≡ continues (get_or s (from + k) 0)) (p1 : t1 ≡ continues (get_or s (from + k + 1) 0)) where
    two : Counted four (0 + bool_byte (not t0) + bool_byte (not t1)) 2
    two =
        let zero : from + k + 0 ≡ from + k = omega arith in
        one_more (one_more {t = t0} none-counted (omega arith) (rw zero p0)) (omega arith) p1

    module _ {t2 : Bool} (p2 : t2 ≡ continues (get_or s (from + k + 2) 0)) where
      three : Counted four (0 + bool_byte (not t0) + bool_byte (not t1) + bool_byte (not t2)) 3
      three = one_more two (omega arith) p2

      pub four-flags : {t3 : Bool} → t3 ≡ continues (get_or s (from + k + 3) 0) → bool_byte (not t0) + bool_byte (not t1) + bool_byte (not t2) + bool_byte (not t3) ≡ four_at s from k
      unfolding four_at
      four-flags p3 = omega (arith, all-counted (one_more three (omega arith) p3) (omega (arith, long)))

pub four-small : (s : List ℕ) (from k : ℕ) → four_at s from k ≤ 4
unfolding four_at
four-small s from k =
    omega (arith, leads-le-length (part s (from + k) (from + k + 4)), length-take (from + k + 4 - (from + k)) (drop (from + k) s))

-- 16 bytes by four fours
leads-parts : (s : List ℕ) (a b c : ℕ) → a ≤ b → b ≤ c → leads (part s a b) + leads (part s b c) ≡ leads (part s a c)
leads-parts s a b c low high = sym (leads-append (part s a b) (part s b c)) ∙ ap leads (part-append s a b c low high)

four-at : (s : List ℕ) (from j : ℕ) → four_at s from j ≡ leads (part s (from + j) (from + j + 4))
unfolding four_at
four-at s from j = refl

four-from : (s : List ℕ) (from j k : ℕ) → four_at s from (j + k) ≡ leads (part s (from + j + k) (from + j + k + 4))
unfolding four_at
four-from s from j k = let sum : from + (j + k) ≡ from + j + k = omega arith in rw sum

module _ (s : List ℕ) (from : ℕ) {f₀ fours : List ℕ} (fs : Filled (four_at s from) f₀ 0 140 fours) where
  pub fours-small : length f₀ ≡ 140 → (k : ℕ) → get_or fours k 0 ≤ 4
  fours-small long k =
      le-or-lt 140 k
      (λ past. let none : get_or fours k 0 ≡ 0 = get_or-eq_default fours 0 (omega (arith, fs.same)) in omega arith)
      (λ below. rw (fs.within k (omega arith) below) (four-small s from k))

  sixteen-leads : {g₀ sixteens : List ℕ} → Filled (sixteen_at fours) g₀ 0 128 sixteens → (j : ℕ) → j < 128 → get_or sixteens j 0 ≡ leads (part s (from + j) (from + j + 16))
  unfolding sixteen_at
  sixteen-leads gs j h =
      let a : ℕ = from + j in
      let at : (k m : ℕ) → k ≤ 12 → a + k + 4 ≡ m → get_or fours (j + k) 0 ≡ leads (part s (a + k) m) = λ k m le e. rw (← e) (fs.within (j + k) (omega arith) (omega arith) ∙ four-from s from j k) in
      let first : get_or fours j 0 ≡ leads (part s a (a + 4)) = fs.within j (omega arith) (omega arith) ∙ four-at s from j in
      let join : (b c : ℕ) → a ≤ b → b ≤ c → leads (part s a b) + leads (part s b c) ≡ leads (part s a c) = leads-parts s a in
      gs.within j (omega arith) h
      ∙ omega (
        arith,
        first,
        at 4 (a + 8) (omega arith) (omega arith),
        at 8 (a + 12) (omega arith) (omega arith),
        at 12 (a + 16) (omega arith) (omega arith),
        join (a + 4) (a + 8) (omega arith) (omega arith),
        join (a + 8) (a + 12) (omega arith) (omega arith),
        join (a + 12) (a + 16) (omega arith) (omega arith),
      )

-- the low bytes so far
pub first-low : (s d : List ℕ) → 1 ≤ length d → LowsTo s d 1 (set d 0 0)
first-low s d some =
    record {
      same = simp length-set;
      lows = λ k h. let z : k ≡ 0 = omega arith in rw (z, get_or-set_same d 0 0 0 some, begun-zero s);
    }

module _ {s d₀ d : List ℕ} {n : ℕ} (w : LowsTo s d₀ n d) where
  pub one-low : {x : ℕ} → n < length d₀ → x ≡ begun_after_first s n % 256 → LowsTo s d₀ (n + 1) (set d n x)
  one-low {x} room is =
      record {
        same = simp length-set w.same;
        lows =
            λ k h. le-or-lt n k
            (λ last. let z : k ≡ n = omega arith in rw (z, get_or-set_same d n x 0 (omega (arith, w.same))) is)
            (λ before. get_or-set_other d n k x 0 (λ e. omega (arith, e)) ∙ w.lows k before);
      }

  pub lows-less : (m : ℕ) → m ≤ n → LowsTo s d₀ m d
  lows-less m few = record { same = w.same; lows = λ k h. w.lows k (omega arith) }

  pub each-ready : (to : ℕ) → 1 ≤ n → to ≤ length s → length s ≤ length d₀ → EachReady s n to d
  each-ready to some inside room =
      record { some = some; inside = inside; room = omega (arith, w.same); so_far = record { same = refl; lows = w.lows } }

  -- one byte on
  pub next_low : {t : Bool} {r : ℕ} → 1 ≤ n → n < length s → t ≡ continues (get_or s n 0) → r ≡ (get_or d (n - 1) 0 + bool_byte (not t)) % 256 → r ≡ begun_after_first s n % 256
  next_low {t} {r} some inside e is =
      let back : n - 1 + 1 ≡ n = omega arith in
      let on : begun_after_first s n ≡ begun_after_first s (n - 1) + bool_byte (not t) = rw back at (begun-next s (n - 1) {t = t} (omega arith) (rw back e)) in
      is ∙ omega (arith, w.lows (n - 1) (omega arith))

-- 16 bytes on
pub far-low : {s d₀ d f₀ fours g₀ sixteens : List ℕ} (i j : ℕ) {r : ℕ} → LowsTo s d₀ (i + 16 + j) d → Filled (four_at s (i + 1)) f₀ 0 140 fours → Filled (sixteen_at fours) g₀ 0 128 sixteens → j < 128 → r ≡ (get_or d (i + j) 0 + get_or sixteens j 0) % 256 → r ≡ begun_after_first s (i + 16 + j) % 256
far-low {s} {sixteens = sixteens} i j w fs gs h is =
    let turn : i + 1 + j ≡ i + j + 1 = omega arith in
    let sum : i + j + 16 ≡ i + 16 + j = omega arith in
    let more : get_or sixteens j 0 ≡ leads (part s (i + j + 1) (i + j + 1 + 16)) = rw turn at (sixteen-leads s (i + 1) fs gs j h) in
    let on : begun_after_first s (i + 16 + j) ≡ begun_after_first s (i + j) + leads (part s (i + j + 1) (i + j + 1 + 16)) = rw sum at (begun-add s (i + j) 16) in
    is ∙ omega (arith, w.lows (i + j) (omega arith))
