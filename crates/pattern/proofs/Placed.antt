-- Laws of blocks of places: where each byte of a block can be beside the others, and its ends are on boundaries, its 16 places fit one after the other.
use Prim.Native.Nat.{ℕ, zero, suc, ◌+◌, ◌-◌, ◌*◌, ◌%◌, ◌≤◌, ◌<◌}
use mathlib.Core.Path.{◌≡◌, ◌∙◌, ap, refl, sym}
use mathlib.Core.Bool.{Bool, true, false, ◌&&◌, ◌||◌, not}
use mathlib.Mathlib.Data.Bool.Basic.{and_elim_left, and_elim_right}
use mathlib.Core.List.{List}
use native.Mathlib.Omega.{arith}
use lib.Dec.{leb, ltb, eqb}
use lib.ListN.{length, get_or}
use borrow.Author.Tests.{le-leb, lt-leb, lt-ltb, le-ltb, eq-eqb, ne_eqb, eqb-true, leb-true, not-true, not-false}
use Rattle.std.specs.Prelude.{Option, Some, None}
use Rattle.buffers.specs.Every.{every_below}
use Rattle.buffers.proofs.Booleans.{and-false-l, and_false_r}
use Rattle.buffers.proofs.Cases.{le-or-lt, true-or-false}
use Rattle.buffers.proofs.Every.{every-suc, every-at}
use Rattle.utf8.specs.Formed.{boundary}
use Rattle.buffers.specs.Splice.{part}
use Rattle.numbers.specs.LittleEndian.{value_of}
use Rattle.numbers.proofs.LittleEndian.{value-at}
use Rattle.pattern.specs.declared.Place.{Place}
use Rattle.pattern.specs.declared.blocks.Judged.{Judged}
use Rattle.pattern.specs.Entries.{position_at, place_at, entry_at}
use Rattle.pattern.specs.Places.{fits_at}
use Rattle.pattern.specs.Placed.{placed_at, placed_byte, end_stands, block_fits, blocks_end, judged_to, judged_after, judged_blocks, Covering, JudgedCover}
use Rattle.pattern.proofs.Entries.{told, entry_known}
use Rattle.pattern.proofs.Places.{fits_on, none-covered, next-covered}

or_right : (a b : Bool) → a ≡ false → (a || b) ≡ true → b ≡ true
or_right a b f e = rw f at e

-- what is said of a byte by where it is in its place
module _ (j before a b c d : ℕ) (e : placed_at j before a b c d ≡ true) where
  command-known : j % 5 ≡ 0 → (eqb a 11 || eqb a 12) ≡ true
  unfolding placed_at
  command-known h =
      or_right (not (eqb (j % 5) 0)) _ (rw (eq-eqb (j % 5) 0 h))
      (and_elim_left _ ((not (eqb (j % 5) 1) && not (eqb (j % 5) 2)) || eqb a before) (and_elim_left _ (not (eqb (j % 5) 1) || leb (a + b * 256) (c + d * 256)) e))

  start-byte : ((not (eqb (j % 5) 1) && not (eqb (j % 5) 2)) || eqb a before) ≡ true
  unfolding placed_at
  start-byte =
      and_elim_right (not (eqb (j % 5) 0) || (eqb a 11 || eqb a 12)) _
      (and_elim_left _ (not (eqb (j % 5) 1) || leb (a + b * 256) (c + d * 256)) e)

  start-low : j % 5 ≡ 1 → a ≡ before
  start-low h = eqb-true a before (or_right (not (eqb (j % 5) 1) && not (eqb (j % 5) 2)) _ (rw (eq-eqb (j % 5) 1 h)) start-byte)

  start-high : j % 5 ≡ 2 → a ≡ before
  start-high h =
      eqb-true a before
      (or_right (not (eqb (j % 5) 1) && not (eqb (j % 5) 2)) _ (rw (eq-eqb (j % 5) 2 h, ne_eqb (j % 5) 1 (λ is. absurd (omega arith)))) start-byte)

  ordered : j % 5 ≡ 1 → a + b * 256 ≤ c + d * 256
  unfolding placed_at
  ordered h =
      leb-true (a + b * 256) (c + d * 256)
      (or_right (not (eqb (j % 5) 1)) _ (rw (eq-eqb (j % 5) 1 h))
      (and_elim_right ((not (eqb (j % 5) 0) || (eqb a 11 || eqb a 12)) && ((not (eqb (j % 5) 1) && not (eqb (j % 5) 2)) || eqb a before)) _ e))

-- the order of two numbers, by their bytes
by_bytes : (a b c d : ℕ) → a < 256 → c < 256 → (ltb b d || (eqb b d && leb a c)) ≡ leb (a + b * 256) (c + d * 256)
by_bytes a b c d small little =
    let s : ℕ = a + b * 256 in
    let e : ℕ = c + d * 256 in
    le-or-lt d b
    (λ no. le-or-lt b d
    (λ same.
    let is : b ≡ d = omega arith in
    rw (le-ltb b d no, eq-eqb b d is)
    (le-or-lt a c (λ k. le-leb a c k ∙ sym (le-leb s e (omega arith))) (λ k. lt-leb a c k ∙ sym (lt-leb s e (omega arith)))))
    (λ above. rw (le-ltb b d no, ne_eqb b d (λ is. absurd (omega arith))) (sym (lt-leb s e (omega arith)))))
    (λ below. rw (lt-ltb b d below) (sym (le-leb s e (omega arith))))

pub placed_by : (j before a b c d : ℕ) → a < 256 → c < 256 → ((not (eqb (j % 5) 0) || (eqb a 11 || eqb a 12)) && ((not (eqb (j % 5) 1) && not (eqb (j % 5) 2)) || eqb a before) && (not (eqb (j % 5) 1) || (ltb b d || (eqb b d && leb a c)))) ≡ placed_at j before a b c d
unfolding placed_at
placed_by j before a b c d small little = rw (by_bytes a b c d small little)

-- a block that was judged
pub record Fits (text l : List ℕ) (i : ℕ) : Type 0 where
  pub after_five : 5 ≤ i
  pub inside : i + 80 ≤ length l
  pub placed_all : every_below 80 (placed_byte l i) ≡ true
  pub stand_all : every_below 16 (end_stands text l i) ≡ true

module _ {text l : List ℕ} {i : ℕ} (f : Fits text l i) where
  -- its place k
  module _ (k : ℕ) (h : k < 16) where
    at_byte : (j q : ℕ) → j < 80 → i - 3 + j ≡ q → placed_at j (get_or l q 0) (get_or l (q + 3) 0) (get_or l (q + 4) 0) (get_or l (q + 5) 0) (get_or l (q + 6) 0) ≡ true
    unfolding placed_byte
    at_byte j q low is = rw is at (every-at 80 (placed_byte l i) f.placed_all j low)

    place-known : (eqb (get_or l (i + 5 * k) 0) 11 || eqb (get_or l (i + 5 * k) 0) 12) ≡ true
    place-known =
        let q : ℕ = i - 3 + 5 * k in
        let is : q + 3 ≡ i + 5 * k = omega (arith, f.after_five) in
        rw (← is) (command-known (5 * k) _ _ _ _ _ (at_byte (5 * k) q (omega arith) refl) (omega arith))

    start-same : (position_at l (i + 5 * k + 1)).0 ≡ (position_at l (i + 5 * k - 2)).0
    unfolding position_at
    start-same =
        let q : ℕ = i + 5 * k - 2 in
        let low : get_or l (q + 3) 0 ≡ get_or l q 0 = start-low (5 * k + 1) _ _ _ _ _ (at_byte (5 * k + 1) q (omega arith) (omega (arith, f.after_five))) (omega arith) in
        let high : get_or l (q + 1 + 3) 0 ≡ get_or l (q + 1) 0 = start-high (5 * k + 2) _ _ _ _ _ (at_byte (5 * k + 2) (q + 1) (omega arith) (omega (arith, f.after_five))) (omega arith) in
        let first : q + 3 ≡ i + 5 * k + 1 = omega (arith, f.after_five) in
        let second : q + 1 + 3 ≡ i + 5 * k + 1 + 1 = omega (arith, f.after_five) in
        omega (arith, value-at l (i + 5 * k + 1), value-at l q, rw first at low, rw second at high)

    start-most : (position_at l (i + 5 * k + 1)).0 ≤ (position_at l (i + 5 * k + 3)).0
    unfolding position_at
    start-most =
        let q : ℕ = i + 5 * k - 2 in
        let first : q + 3 ≡ i + 5 * k + 1 = omega (arith, f.after_five) in
        let second : q + 4 ≡ i + 5 * k + 1 + 1 = omega (arith, f.after_five) in
        let third : q + 5 ≡ i + 5 * k + 3 = omega (arith, f.after_five) in
        let fourth : q + 6 ≡ i + 5 * k + 3 + 1 = omega (arith, f.after_five) in
        let below = ordered (5 * k + 1) _ _ _ _ _ (at_byte (5 * k + 1) q (omega arith) (omega (arith, f.after_five))) (omega arith) in
        omega (arith, value-at l (i + 5 * k + 1), value-at l (i + 5 * k + 3), rw (first, second, third, fourth) at below)

    place-fits : true ≡ fits_at text (position_at l (i + 5 * k - 2)).0 (place_at l (i + 5 * k))
    unfolding place_at end_stands
    place-fits = fits_on text _ _ start-same start-most (sym (every-at 16 (end_stands text l i) f.stand_all k h))

    next_place : Covering text l (position_at l (i + 5 * k - 2)).0 (i + 5 * k) → Covering text l (position_at l (i + 5 * suc k - 2)).0 (i + 5 * suc k)
    unfolding place_at
    next_place j =
        let known : entry_at l (i + 5 * k) ≡ Some (place_at l (i + 5 * k), i + 5 * k + 5) = entry_known l (i + 5 * k) (omega (arith, f.inside)) place-known in
        let here : i + 5 * suc k ≡ i + 5 * k + 5 = omega arith in
        let end : i + 5 * k + 5 - 2 ≡ i + 5 * k + 3 = omega arith in
        rw (here, end) (next-covered j refl known place-fits refl)

  first-places : (n : ℕ) → n ≤ 16 → Covering text l (position_at l (i - 2)).0 i → Covering text l (position_at l (i + 5 * n - 2)).0 (i + 5 * n)
  first-places zero h j = let z : i + 5 * 0 ≡ i = omega arith in rw z j
  first-places (suc n) h j = next_place n (omega arith) (first-places n (omega arith) j)

  pub block-covered : Covering text l (position_at l (i - 2)).0 i → Covering text l (position_at l (i + 80 - 2)).0 (i + 80)
  block-covered j = first-places 16 (omega arith) j

-- tests that are put together one after the other
pub every-none : (f : ℕ → Bool) → true ≡ every_below 0 f
unfolding every_below
every-none f = refl

pub every_more : (f : ℕ → Bool) {j : ℕ} {ok t : Bool} → ok ≡ every_below j f → t ≡ f j → (ok && t) ≡ every_below (j + 1) f
every_more f {j} e is = rw (e, is) (sym (every-suc j f))

pub stands_by : (text l : List ℕ) (i k : ℕ) {end : ℕ} {t : Bool} → end ≡ value_of (part l (i + 5 * k + 3) (i + 5 * k + 3 + 2)) → t ≡ boundary text end → t ≡ end_stands text l i k
unfolding end_stands position_at
stands_by text l i k is e = e ∙ rw is

-- THE JUDGED BLOCKS: all before them is covered, block by block
blocks-cover : (text l : List ℕ) (n i : ℕ) → 5 ≤ i → Covering text l (position_at l (i - 2)).0 i → Covering text l (position_at l (blocks_end text l n i - 2)).0 (blocks_end text l n i)
unfolding blocks_end block_fits
blocks-cover text l zero i low j = j
blocks-cover text l (suc n) i low j =
    true-or-false (leb (i + 83) (length l) && (every_below 80 (placed_byte l i) && every_below 16 (end_stands text l i)))
    (λ t.
    let long : i + 83 ≤ length l = leb-true _ _ (and_elim_left _ (every_below 80 (placed_byte l i) && every_below 16 (end_stands text l i)) t) in
    let fits : (every_below 80 (placed_byte l i) && every_below 16 (end_stands text l i)) ≡ true = and_elim_right (leb (i + 83) (length l)) _ t in
    let block : Fits text l i = record {
      after_five = low;
      inside = omega arith;
      placed_all = and_elim_left _ (every_below 16 (end_stands text l i)) fits;
      stand_all = and_elim_right (every_below 80 (placed_byte l i)) _ fits;
    } in
    rw t (blocks-cover text l n (i + 80) (omega arith) (block-covered block j)))
    (λ f. rw f j)

first-cover : (text l : List ℕ) {p : Place} {next : ℕ} → entry_at l 0 ≡ Some (p, next) → fits_at text 0 p ≡ true → (5 ≤ next) × Covering text l (position_at l (next - 2)).0 next
unfolding place_at
first-cover text l {p} {next} there fit =
    let known = told l 0 there in
    let end : p.end ≡ position_at l 3 = ap (λ (x : Place). x.end) (sym known.1.0) in
    let far : next - 2 ≡ 3 = omega (arith, known.1.1) in
    (omega (arith, known.1.1), rw (far, ← end) (next-covered (none-covered text l) refl there (sym fit) refl))

after-cover : (text l : List ℕ) (e : Option (Place × ℕ)) → entry_at l 0 ≡ e → Covering text l (judged_after text l e).at (judged_after text l e).next
unfolding judged_after judged_to
after-cover text l (Some (p, next)) is =
    true-or-false (fits_at text 0 p)
    (λ t. let first = first-cover text l is t in rw t (blocks-cover text l (length l) next first.0 first.1))
    (λ f. rw f (none-covered text l))
after-cover text l None is = none-covered text l

pub judged-cover : JudgedCover
unfolding judged_blocks
judged-cover text l = after-cover text l (entry_at l 0) refl

pub judged-covered : {text l : List ℕ} {r : Judged} → r ≡ judged_blocks text l → Covering text l r.at r.next
judged-covered {text} {l} is = rw is (judged-cover text l)

-- the loop: from i on the blocks end where they do from the second place on
pub record Going (text l : List ℕ) (second i : ℕ) : Type 0 where
  pub after_five : 5 ≤ i
  pub most : i ≤ length l
  pub left : ℕ
  pub enough : length l ≤ i + left
  pub so_far : blocks_end text l (length l) second ≡ blocks_end text l left i

module _ (text l : List ℕ) {e : Option (Place × ℕ)} (is : e ≡ entry_at l 0) where
  pub broken-first : e ≡ None → record { at = 0; next = 0 } ≡ judged_blocks text l
  unfolding judged_blocks judged_after
  broken-first b = rw (sym is ∙ b)

  module _ {p : Place} {next : ℕ} {t : Bool} (there : e ≡ Some (p, next)) (fit : t ≡ fits_at text 0 p) where
    pub unfit-first : not t ≡ true → record { at = 0; next = 0 } ≡ judged_blocks text l
    unfolding judged_blocks judged_after
    unfit-first bad = rw (sym is ∙ there, ← fit, not-true t bad)

    pub first-going : not t ≡ false → Going text l next next
    first-going ok =
        let first = first-cover text l (sym is ∙ there) (sym fit ∙ not-false t ok) in
        record { after_five = first.0; most = first.1.most; left = length l; enough = omega arith; so_far = refl }

    pub blocks-judged : {i : ℕ} {r : Judged} → not t ≡ false → blocks_end text l (length l) next ≡ i → r ≡ judged_to l i → r ≡ judged_blocks text l
    unfolding judged_blocks judged_after
    blocks-judged ok ends judged = rw (sym is ∙ there, ← fit, not-false t ok, ends) judged

module _ {text l : List ℕ} {second i : ℕ} (g : Going text l second i) where
  next-block : (n : ℕ) → g.left ≡ n → i + 83 ≤ length l → block_fits text l i ≡ true → Going text l second (i + 80)
  unfolding blocks_end
  next-block zero none long fits = absurd (omega (arith, g.enough))
  next-block (suc n) some long fits =
      record {
        after_five = omega arith;
        most = omega arith;
        left = n;
        enough = omega (arith, g.enough);
        so_far = g.so_far ∙ rw (some, le-leb (i + 83) (length l) long, fits);
      }

  pub block-going : {t : Bool} → i + 83 ≤ length l → t ≡ block_fits text l i → not t ≡ false → Going text l second (i + 80)
  block-going {t} long is ok = next-block g.left refl long (sym is ∙ not-false t ok)

  block-ends : (n : ℕ) → (leb (i + 83) (length l) && block_fits text l i) ≡ false → blocks_end text l n i ≡ i
  unfolding blocks_end
  block-ends zero f = refl
  block-ends (suc n) f = rw f

  pub block-unfit : {t : Bool} → t ≡ block_fits text l i → not t ≡ true → blocks_end text l (length l) second ≡ i
  block-unfit {t} is bad = g.so_far ∙ block-ends g.left (and_false_r (leb (i + 83) (length l)) _ (sym is ∙ not-true t bad))

  pub blocks-short : length l < i + 83 → blocks_end text l (length l) second ≡ i
  blocks-short short = g.so_far ∙ block-ends g.left (and-false-l _ (block_fits text l i) (lt-leb (i + 83) (length l) short))

-- the places before i, and the tests of a block, as they are read
pub to-judged : (l : List ℕ) {i v : ℕ} → v ≡ value_of (part l (i - 2) (i - 2 + 2)) → record { at = v; next = i } ≡ judged_to l i
unfolding judged_to position_at
to-judged l is = rw is

module _ (text l : List ℕ) (i : ℕ) {r : Bool} (is : r ≡ every_below 80 (placed_byte l i)) where
  pub unplaced : not r ≡ true → false ≡ block_fits text l i
  unfolding block_fits
  unplaced bad = sym (and-false-l _ (every_below 16 (end_stands text l i)) (sym is ∙ not-true r bad))

  pub by-ends : {t : Bool} → not r ≡ false → t ≡ every_below 16 (end_stands text l i) → t ≡ block_fits text l i
  unfolding block_fits
  by-ends ok stand = stand ∙ rw (sym is ∙ not-false r ok)
