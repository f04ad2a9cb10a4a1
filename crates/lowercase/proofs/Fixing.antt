-- Laws of a block whose bytes are laid each alone, and whose characters of two bytes are then laid in their places.
use Prim.Native.Nat.{ℕ, zero, suc, ◌+◌, ◌-◌, ◌≤◌, ◌<◌}
use mathlib.Core.Path.{◌≡◌, ◌∙◌, ap, refl, sym}
use mathlib.Core.Bool.{Bool, true, false, cond}
use mathlib.Core.List.{List, [], ◌∷◌, ◌++◌, append_assoc, append-nil}
use native.Mathlib.Numerals.{add-one}
use native.Mathlib.Omega.{arith}
use mir.Val.{bool_byte}
use lib.Dec.{eqb}
use lib.ListN.{length, get_or, set, take, drop, length-append, length-drop, length-set, drop_of_length-le}
use lib.Seq.{drop-cons, drop-drop, get_or-drop, get_or-take, take_at, drop_at, drop-append-le, drop-append-add, length-take-le, take-suc-set, take-set-le}
use Rattle.buffers.specs.Splice.{part, splice}
use Rattle.buffers.proofs.Cases.{le-or-lt, true-or-false}
use Rattle.buffers.proofs.Splice.{length_part, part-index, part-append, length-splice, splice-splice}
use Rattle.utf8.specs.Formed.{well_formed, continues}
use Rattle.utf8.proofs.Formed.{continues-low, continues-high}
use Rattle.utf8.proofs.LenUtf8.{bool-most}
use Rattle.map_columns.specs.declared.Reached.{Reached}
use Rattle.lowercase.specs.Images.{dotted_i}
use Rattle.lowercase.specs.Laying.{begins_latin, pair_code, lowered_each, bytes_for, passed_by, lowered_bytes, latin_places, PlacesFound, given_at, laid_again, LatinRoom, LatinLaid, LowerRoom, WalkLaid}
use Rattle.lowercase.proofs.Images.{images-length}
use Rattle.lowercase.proofs.Bytes.{two-wide, lowered-at, lowered-alone, latin-both, below-latin, latin-next, bytes-latin, bytes-alone, passed-one, passed-two, length-each, each_append, each-drop}

-- A RUN LAID OVER ANOTHER ONE
again-over : (e x y : List ℕ) (a : ℕ) → a ≤ length e → splice (splice e a x) a y ≡ splice e a (y ++ drop (length y) x)
unfolding splice
again-over e x y a h =
    let front : length (take a e) ≡ a = length-take-le a e h in
    let tail : List ℕ = drop (a + length x) e in
    let whole : take a e ++ x ++ drop (a + length x) e ≡ take a e ++ (x ++ drop (a + length x) e) = append_assoc (take a e) x tail in
    let first : take a (take a e ++ (x ++ drop (a + length x) e)) ≡ take a e = take_at (take a e) (x ++ tail) a front in
    let rest : drop (a + length y) (take a e ++ (x ++ drop (a + length x) e)) ≡ drop (length y) (x ++ drop (a + length x) e) =
    sym (drop-drop (length y) a (take a e ++ (x ++ tail))) ∙ ap (drop (length y)) (drop_at (take a e) (x ++ tail) a front) in
    let long : length (y ++ drop (length y) x) ≡ length y + (length x - length y) = length-append y (drop (length y) x) ∙ rw (length-drop (length y) x) in
    let last : drop (length y) (x ++ drop (a + length x) e) ≡ drop (length y) x ++ drop (a + length (y ++ drop (length y) x)) e =
    le-or-lt (length y) (length x)
    (λ fits. let z : a + length (y ++ drop (length y) x) ≡ a + length x = omega (arith, long) in rw z (drop-append-le (length y) x tail fits))
    (λ past.
    let z : a + length (y ++ drop (length y) x) ≡ a + length x + (length y - length x) = omega (arith, long) in
    let w : length x + (length y - length x) ≡ length y = omega arith in
    let short : length x ≤ length y = omega arith in
    let none : drop (length y) x ≡ [] = drop_of_length-le x short in
    rw (z, none) ((rw w at (drop-append-add x tail (length y - length x))) ∙ drop-drop (length y - length x) (a + length x) e)) in
    rw (whole, first, rest, last)
    (sym (append_assoc (take a e ++ y) (drop (length y) x) (drop (a + length (y ++ drop (length y) x)) e)) ∙ rw (append_assoc (take a e) y (drop (length y) x)))

splice-over : (d g x y : List ℕ) (at : ℕ) → at + length g ≤ length d → splice (splice d at (g ++ x)) (at + length g) y ≡ splice d at (g ++ (y ++ drop (length y) x))
splice-over d g x y at h =
    let cut : splice d at (g ++ x) ≡ splice (splice d at g) (at + length g) x = sym (splice-splice d g x at (omega arith)) in
    let long : length (splice d at g) ≡ length d = length-splice d at g h in
    ap (λ (l : List ℕ). splice l (at + length g) y) cut
    ∙ again-over (splice d at g) x y (at + length g) (omega arith)
    ∙ splice-splice d g (y ++ drop (length y) x) at (omega arith)

-- A TEXT GIVES AT LEAST AS MANY BYTES AS IT HAS, from any place on
code-within : (s : List ℕ) (i : ℕ) → well_formed s ≡ true → i < length s → begins_latin (get_or s i 0) ≡ true → (0x80 ≤ pair_code (get_or s i 0) (get_or s (i + 1) 0)) × (pair_code (get_or s i 0) (get_or s (i + 1) 0) < 384)
code-within s i formed h is =
    let both = latin-both (get_or s i 0) is in
    let goes = (latin-next s i formed h is).1 in
    let low = continues-low (get_or s (i + 1) 0) goes in
    let high = continues-high (get_or s (i + 1) 0) goes in
    (omega (arith, both.0, low), omega (arith, both.1, low, high))

given-two : (s : List ℕ) (i : ℕ) → well_formed s ≡ true → i < length s → begins_latin (get_or s i 0) ≡ true → 2 ≤ length (given_at s i)
given-two s i formed h is =
    let c : ℕ = pair_code (get_or s i 0) (get_or s (i + 1) 0) in
    let k = code-within s i formed h is in
    omega (arith, images-length c, two-wide c k.0 k.1)

least : (fuel : ℕ) (s : List ℕ) (p : ℕ) → well_formed s ≡ true → length s ≤ p + fuel → length s - p ≤ length (lowered_bytes (drop p s))
least zero s p formed h = omega arith
least (suc fuel) s p formed h =
    le-or-lt (length s) p
    (λ done. omega arith)
    (λ more.
    let b : ℕ = get_or s p 0 in
    let whole = ap length (lowered-at s p more) ∙ length-append (bytes_for b (get_or s (p + 1) 0)) (lowered_bytes (drop (p + passed_by b) s)) in
    true-or-false (begins_latin b)
    (λ is.
    let two = passed-two b is in
    omega (arith, whole, two, ap length (bytes-latin b (get_or s (p + 1) 0) is), given-two s p formed more is, least fuel s (p + passed_by b) formed (omega (arith, two))))
    (λ other.
    let one = passed-one b other in
    omega (arith, whole, one, ap length (bytes-alone b (get_or s (p + 1) 0) other), least fuel s (p + passed_by b) formed (omega (arith, one)))))

lowered-least : (s : List ℕ) (p : ℕ) → well_formed s ≡ true → length s - p ≤ length (lowered_bytes (drop p s))
lowered-least s p formed = least (length s) s p formed (omega arith)

trail-not-latin : (b : ℕ) → continues b ≡ true → begins_latin b ≡ false
trail-not-latin b goes = below-latin b (omega (arith, continues-high b goes))

-- THE PLACES of the bytes that begin a character of two bytes
no-places : (k : ℕ) → latin_places k [] ≡ []
unfolding latin_places
no-places k = refl

places-at : (k : ℕ) (s : List ℕ) (i : ℕ) → i < length s → latin_places (k + i) (drop i s) ≡ cond (begins_latin (get_or s i 0)) ((k + i) ∷ latin_places (k + (i + 1)) (drop (i + 1) s)) (latin_places (k + (i + 1)) (drop (i + 1) s))
unfolding latin_places
places-at k s i h = let z : suc (k + i) ≡ k + (i + 1) = omega arith in rw (drop-cons s i 0 h, z, add-one i)

-- found one by one
pub record Placing (block places₀ places : List ℕ) (n i : ℕ) : Type 0 where
  pub most : i ≤ length block
  pub few : n ≤ i
  pub so_far : take n places ++ latin_places i (drop i block) ≡ latin_places 0 block
  pub same : length places ≡ length places₀

pub none-placed : {block places : List ℕ} → Placing block places places 0 0
none-placed = record { most = omega arith; few = omega arith; so_far = refl; same = refl }

pub one_placed : {block places₀ places : List ℕ} {n i x : ℕ} {t : Bool} → Placing block places₀ places n i → length block ≤ length places₀ → i < length block → t ≡ begins_latin (get_or block i 0) → x ≡ i
    → Placing block places₀ (set places n x) (n + bool_byte t) (i + 1)
one_placed {block} {places₀} {places} {n} {i} {x} {t} k room h is at =
    let wide : n < length places = omega (arith, k.few, k.same, room) in
    let y : 0 + i ≡ i = omega arith in
    let z : 0 + (i + 1) ≡ i + 1 = omega arith in
    let here = rw (y, z) at (places-at 0 block i h) in
    record {
      most = omega arith;
      few = omega (arith, k.few, bool-most t);
      so_far =
          true-or-false t
          (λ yes.
          let step : latin_places i (drop i block) ≡ i ∷ latin_places (i + 1) (drop (i + 1) block) = here ∙ rw (sym is ∙ yes) in
          let one : n + 1 ≡ suc n = omega arith in
          rw (yes, one, at, take-suc-set places n i wide, append_assoc (take n places) (i ∷ []) (latin_places (i + 1) (drop (i + 1) block)), ← step) k.so_far)
          (λ no.
          let step : latin_places i (drop i block) ≡ latin_places (i + 1) (drop (i + 1) block) = here ∙ rw (sym is ∙ no) in
          let stays : n + 0 ≡ n = omega arith in
          rw (no, stays, take-set-le n places n x (omega arith), ← step) k.so_far);
      same = simp length-set k.same;
    }

pub all_placed : {block places₀ places : List ℕ} {n i : ℕ} → Placing block places₀ places n i → length block ≤ i → length block ≤ length places₀ → PlacesFound block places₀ n places
all_placed {block} {places = places} {n} {i} k done room =
    let all : take n places ≡ latin_places 0 block = sym (append-nil (take n places)) ∙ rw (← no-places i, ← drop_of_length-le block done) k.so_far in
    record { counted = sym (length-take-le n places (omega (arith, k.few, k.most, k.same, room))) ∙ ap length all; front = all; same = k.same }

places-most : (k : ℕ) (s : List ℕ) → length (latin_places k s) ≤ length s
unfolding latin_places
places-most k [] = omega arith
places-most k (b ∷ s) = true-or-false (begins_latin b) (λ t. rw t (omega (arith, places-most (suc k) s))) (λ f. rw f (omega (arith, places-most (suc k) s)))

pub places-few : {block places₀ places : List ℕ} {r : ℕ} → PlacesFound block places₀ r places → r ≤ length block
places-few {block} k = omega (arith, k.counted, places-most 0 block)

-- the first of them: no byte before it is one
pub record First (k : ℕ) (t : List ℕ) (j : ℕ) (rest : List ℕ) : Type 0 where
  pub onward : k ≤ j
  pub inside : j - k < length t
  pub none_before : (x : ℕ) → x < j - k → begins_latin (get_or t x 0) ≡ false
  pub is_latin : begins_latin (get_or t (j - k) 0) ≡ true
  pub others : rest ≡ latin_places (suc j) (drop (suc (j - k)) t)

first-place : (k : ℕ) (t : List ℕ) (j : ℕ) (rest : List ℕ) → latin_places k t ≡ j ∷ rest → First k t j rest
unfolding latin_places
first-place k [] j rest e = absurd (omega (arith, ap length e))
first-place k (b ∷ t) j rest e =
    true-or-false (begins_latin b)
    (λ yes.
    let here : k ∷ latin_places (suc k) t ≡ j ∷ rest = rw yes at e in
    let is : k ≡ j = ap (λ (l : List ℕ). get_or l 0 0) here in
    let z : j - k ≡ 0 = omega (arith, is) in
    record {
      onward = omega (arith, is);
      inside = omega (arith, z);
      none_before = λ x h. absurd (omega (arith, z, h));
      is_latin = rw z yes;
      others = sym (ap (drop 1) here) ∙ rw (z, is);
    })
    (λ not-here.
    let later = first-place (suc k) t j rest (rw not-here at e) in
    let z : j - k ≡ suc (j - suc k) = omega (arith, later.onward) in
    record {
      onward = omega (arith, later.onward);
      inside = rw z (omega (arith, later.inside));
      none_before = rw z (before (j - suc k) not-here later.none_before);
      is_latin = rw z later.is_latin;
      others = rw z later.others;
    })
  where
    before : (m : ℕ) → begins_latin b ≡ false → ((x : ℕ) → x < m → begins_latin (get_or t x 0) ≡ false) → (x : ℕ) → x < suc m → begins_latin (get_or (b ∷ t) x 0) ≡ false
    before m not-here none zero h = not-here
    before m not-here none (suc x) h = none x (omega arith)

none_left : (k : ℕ) (t : List ℕ) → latin_places k t ≡ [] → (x : ℕ) → x < length t → begins_latin (get_or t x 0) ≡ false
unfolding latin_places
none_left k [] e x h = absurd (omega arith)
none_left k (b ∷ t) e x h =
    true-or-false (begins_latin b)
    (λ here. absurd (omega (arith, ap length (rw here at e))))
    (λ not-here. at-index x h not-here (none_left (suc k) t (rw not-here at e)))
  where
    at-index : (y : ℕ) → y < length (b ∷ t) → begins_latin b ≡ false → ((z : ℕ) → z < length t → begins_latin (get_or t z 0) ≡ false) → begins_latin (get_or (b ∷ t) y 0) ≡ false
    at-index zero h not-here rest = not-here
    at-index (suc y) h not-here rest = rest y (omega arith)

-- a place that holds no such byte may be passed
pass-one : (k : ℕ) (s : List ℕ) (i : ℕ) → (i < length s → begins_latin (get_or s i 0) ≡ false) → latin_places (k + i) (drop i s) ≡ latin_places (k + (i + 1)) (drop (i + 1) s)
pass-one k s i none =
    le-or-lt (length s) i
    (λ done.
    let far : length s ≤ i + 1 = omega arith in
    rw (drop_of_length-le s done, drop_of_length-le s far) (no-places (k + i) ∙ sym (no-places (k + (i + 1)))))
    (λ more. places-at k s i more ∙ rw (none more))

-- A BLOCK from `from` up to `to`: the characters before i are laid as they must be, the bytes from there on each alone
drop-part : (s : List ℕ) (a m e : ℕ) → drop m (part s a e) ≡ part s (a + m) e
drop-part s a m e =
    let z : e - a - m ≡ e - (a + m) = omega arith in
    drop-take m (e - a) (drop a s) ∙ rw (drop-drop m a s, z)
  where
    drop-take : (m n : ℕ) (l : List ℕ) → drop m (take n l) ≡ take (n - m) (drop m l)
    drop-take zero n l = let z : n - 0 ≡ n = omega arith in rw z
    drop-take (suc m) zero l = let z : 0 - suc m ≡ 0 = omega arith in rw z
    drop-take (suc m) (suc n) [] = no-take (suc n - suc m)
      where
        no-take : (k : ℕ) → ◌≡◌ {A = List ℕ} [] (take k [])
        no-take zero = refl
        no-take (suc k) = refl
    drop-take (suc m) (suc n) (x ∷ l) = let z : suc n - suc m ≡ n - m = omega arith in rw z (drop-take m n l)

pub record Fixing (s : List ℕ) (from to : ℕ) (out₀ : List ℕ) (start : ℕ) (out : List ℕ) (q i at : ℕ) : Type 0 where
  pub given : List ℕ
  pub cut : lowered_bytes (drop from s) ≡ given ++ lowered_bytes (drop i s)
  pub reach : at ≡ start + length given
  pub least : i - from ≤ length given
  pub holds : out ≡ splice out₀ start (given ++ lowered_each (part s i to))
  pub onward : from ≤ i
  pub inside : i ≤ length s
  pub left : drop q (latin_places 0 (part s from to)) ≡ latin_places (i - from) (drop (i - from) (part s from to))

-- the whole block, and that it gives no fewer bytes than it has
record Fixed (s : List ℕ) (from to : ℕ) (out₀ : List ℕ) (start : ℕ) (reached : Reached) (out : List ℕ) : Type 0 where
  walked : WalkLaid s from to out₀ start reached out
  least : to - from ≤ length walked.given

none-fixing : {s : List ℕ} {from to : ℕ} {out₀ : List ℕ} {start : ℕ} {out : List ℕ} → from ≤ length s → out ≡ splice out₀ start (lowered_each (part s from to)) → Fixing s from to out₀ start out 0 from start
none-fixing {from = from} h is =
    let z : from - from ≡ 0 = omega arith in
    record { given = []; cut = refl; reach = omega arith; least = omega arith; holds = is; onward = omega arith; inside = h; left = rw z }

module _ {s : List ℕ} {from to : ℕ} {table out₀ : List ℕ} {start : ℕ} (r : LowerRoom s from table out₀ start) (onward : from ≤ to) (inside : to ≤ length s)
    {out : List ℕ} {q i at : ℕ} (k : Fixing s from to out₀ start out q i at) where
  abbrev block : List ℕ
  block = part s from to

  abbrev places : List ℕ
  places = latin_places 0 (part s from to)

  wide : length (part s from to) ≡ to - from
  wide = length_part s from to inside

  rest : length (lowered_each (part s i to)) ≡ to - i
  rest = length-each (part s i to) ∙ length_part s i to inside

  total : length (lowered_bytes (drop from s)) ≡ length k.given + length (lowered_bytes (drop i s))
  total = ap length k.cut ∙ length-append k.given (lowered_bytes (drop i s))

  fixing-same : length out ≡ length out₀
  fixing-same =
      let long = length-append k.given (lowered_each (part s i to)) in
      ap length k.holds ∙ length-splice out₀ start (k.given ++ lowered_each (part s i to)) (omega (arith, r.room, total, rest, long, lowered-least s i r.formed))

  byte_at : (x : ℕ) → i + x < to → get_or (drop (i - from) (part s from to)) x 0 ≡ get_or s (i + x) 0
  byte_at x h =
      let z : from + (i - from + x) ≡ i + x = omega (arith, k.onward) in
      get_or-drop (i - from) block x 0 ∙ part-index s from to (i - from + x) (omega (arith, k.onward)) ∙ rw z

  module _ (h : q < length (latin_places 0 (part s from to))) where
    abbrev j : ℕ
    j = from + get_or (latin_places 0 (part s from to)) q 0

    first : First (i - from) (drop (i - from) (part s from to)) (get_or (latin_places 0 (part s from to)) q 0) (drop (suc q) (latin_places 0 (part s from to)))
    first = first-place (i - from) (drop (i - from) block) (get_or places q 0) (drop (suc q) places) (sym k.left ∙ drop-cons places q 0 h)

    far : i + (get_or (latin_places 0 (part s from to)) q 0 - (i - from)) ≡ j
    far = omega (arith, first.onward, k.onward)

    place-within : (i ≤ j) × (j < to)
    place-within = (omega (arith, first.onward, k.onward), omega (arith, first.onward, first.inside, k.onward, length-drop (i - from) block, wide))

    latin-there : begins_latin (get_or s j 0) ≡ true
    latin-there = rw far at (sym (ap begins_latin (byte_at (get_or places q 0 - (i - from)) (omega (arith, far, place-within.1)))) ∙ first.is_latin)

    gap : lowered_bytes (drop i s) ≡ lowered_each (part s i j) ++ lowered_bytes (drop j s)
    gap =
        let z : i + (j - i) ≡ j = omega (arith, place-within.0) in
        rw z at (lowered-alone s (j - i) i (omega (arith, place-within.0, place-within.1))
        (λ y a b.
        let w : i + (y - i) ≡ y = omega arith in
        rw w at (sym (ap begins_latin (byte_at (y - i) (omega (arith, place-within.1)))) ∙ first.none_before (y - i) (omega (arith, far)))))

    step : lowered_bytes (drop j s) ≡ given_at s j ++ lowered_bytes (drop (j + 2) s)
    step =
        lowered-at s j (omega (arith, place-within.1))
        ∙ rw (bytes-latin (get_or s j 0) (get_or s (j + 1) 0) latin-there, passed-two (get_or s j 0) latin-there)

    -- how long all that is
    between : length (lowered_each (part s i j)) ≡ j - i
    between = length-each (part s i j) ∙ length_part s i j (omega (arith, place-within.1))

    lengths : length (lowered_bytes (drop i s)) ≡ (j - i) + (length (given_at s j) + length (lowered_bytes (drop (j + 2) s)))
    lengths =
        ap length gap ∙ length-append (lowered_each (part s i j)) (lowered_bytes (drop j s))
        ∙ omega (arith, between, ap length step, length-append (given_at s j) (lowered_bytes (drop (j + 2) s)))

    again-short : length (laid_again s j to) ≤ to - (j + 2)
    unfolding laid_again
    again-short =
        true-or-false (eqb (pair_code (get_or s j 0) (get_or s (j + 1) 0)) dotted_i)
        (λ t. rw t (omega (arith, length-each (part s (j + 2) to), length_part s (j + 2) to inside)))
        (λ f. rw f (omega arith))

    room-there : at + (j - i) + length (given_at s j ++ laid_again s j to) ≤ length out
    room-there =
        omega (arith, length-append (given_at s j) (laid_again s j to), again-short, fixing-same, r.room, total, k.reach, lengths, lowered-least s (j + 2) r.formed)

    pair-ready : LatinRoom s j to table out (at + (j - i))
    pair-ready =
        record {
          formed = r.formed;
          more = omega (arith, place-within.1);
          latin = latin-there;
          to_inside = inside;
          tabled = r.tabled;
          room = room-there;
        }

    -- what is laid then: the character, and after it the bytes of the block each alone
    after : (given_at s j ++ laid_again s j to) ++ drop (length (given_at s j ++ laid_again s j to)) (lowered_each (part s j to)) ≡ given_at s j ++ lowered_each (part s (j + 2) to)
    unfolding laid_again
    after =
        let c : ℕ = pair_code (get_or s j 0) (get_or s (j + 1) 0) in
        let k = code-within s j r.formed (omega (arith, place-within.1)) latin-there in
        let two = two-wide c k.0 k.1 in
        true-or-false (eqb c dotted_i)
        (λ t.
        let three : length (given_at s j) ≡ 3 = images-length c ∙ rw (t, two) in
        let past : length (lowered_each (part s j to)) ≤ length (given_at s j ++ lowered_each (part s (j + 2) to)) =
        omega (arith, length-append (given_at s j) (lowered_each (part s (j + 2) to)), three, length-each (part s j to), length_part s j to inside, length-each (part s (j + 2) to), length_part s (j + 2) to inside) in
        rw (t, drop_of_length-le (lowered_each (part s j to)) past) (append-nil (given_at s j ++ lowered_each (part s (j + 2) to))))
        (λ f.
        let pair : length (given_at s j) ≡ 2 = images-length c ∙ rw (f, two) in
        rw (f, append-nil (given_at s j), pair, each-drop 2 (part s j to), drop-part s j 2 to))

    one-fixing : {end : ℕ} {out₁ : List ℕ} → LatinLaid s j to out (at + (j - i)) end out₁ → Fixing s from to out₀ start out₁ (q + 1) (j + 2) end
    one-fixing {end} {out₁} l =
        let before : List ℕ = k.given ++ lowered_each (part s i j) in
        let long : length (k.given ++ lowered_each (part s i j)) ≡ length k.given + (j - i) = length-append k.given (lowered_each (part s i j)) ∙ rw between in
        let there : at + (j - i) ≡ start + length (k.given ++ lowered_each (part s i j)) = omega (arith, long, k.reach) in
        let parts : lowered_each (part s i to) ≡ lowered_each (part s i j) ++ lowered_each (part s j to) =
        ap lowered_each (sym (part-append s i j to place-within.0 (omega (arith, place-within.1)))) ∙ each_append (part s i j) (part s j to) in
        let was : out ≡ splice out₀ start (k.given ++ lowered_each (part s i j) ++ lowered_each (part s j to)) =
        k.holds ∙ rw parts (ap (splice out₀ start) (sym (append_assoc k.given (lowered_each (part s i j)) (lowered_each (part s j to))))) in
        let fits : start + length (k.given ++ lowered_each (part s i j)) ≤ length out₀ = omega (arith, there, fixing-same, room-there) in
        let next : get_or places q 0 + 1 < length block → begins_latin (get_or block (get_or places q 0 + 1) 0) ≡ false =
        λ h₁.
        let z : from + (get_or places q 0 + 1) ≡ j + 1 = omega arith in
        rw (part-index s from to (get_or places q 0 + 1) (omega (arith, wide)), z) (trail-not-latin (get_or s (j + 1) 0) (latin-next s j r.formed (omega (arith, place-within.1)) latin-there).1) in
        let skips : i - from + suc (get_or places q 0 - (i - from)) ≡ get_or places q 0 + 1 = omega (arith, first.onward) in
        let one : q + 1 ≡ suc q = omega arith in
        let this : suc (get_or places q 0) ≡ 0 + (get_or places q 0 + 1) = omega arith in
        let two : j + 2 - from ≡ get_or places q 0 + 1 + 1 = omega arith in
        let zero : 0 + (get_or places q 0 + 1 + 1) ≡ get_or places q 0 + 1 + 1 = omega arith in
        let others : drop (suc q) places ≡ latin_places (0 + (get_or places q 0 + 1)) (drop (get_or places q 0 + 1) block) =
        first.others ∙ rw (drop-drop (suc (get_or places q 0 - (i - from))) (i - from) block, skips, this) in
        record {
          given = k.given ++ lowered_each (part s i j) ++ given_at s j;
          cut =
              k.cut ∙ rw (gap, step)
              (sym (append_assoc k.given (lowered_each (part s i j)) (given_at s j ++ lowered_bytes (drop (j + 2) s)))
              ∙ sym (append_assoc (k.given ++ lowered_each (part s i j)) (given_at s j) (lowered_bytes (drop (j + 2) s))));
          reach = omega (arith, l.reach, k.reach, length-append (k.given ++ lowered_each (part s i j)) (given_at s j), long);
          least =
              omega (arith, length-append (k.given ++ lowered_each (part s i j)) (given_at s j), long, k.least, k.onward, place-within.0, given-two s j r.formed (omega (arith, place-within.1)) latin-there);
          holds =
              l.holds ∙ ap (λ (x : List ℕ). splice x (at + (j - i)) (given_at s j ++ laid_again s j to)) was
              ∙ rw there (splice-over out₀ before (lowered_each (part s j to)) (given_at s j ++ laid_again s j to) start fits
              ∙ rw after (ap (splice out₀ start) (sym (append_assoc before (given_at s j) (lowered_each (part s (j + 2) to))))));
          onward = omega (arith, place-within.0, k.onward);
          inside = omega (arith, (latin-next s j r.formed (omega (arith, place-within.1)) latin-there).0);
          left = rw (one, two) (others ∙ pass-one 0 block (get_or places q 0 + 1) next ∙ rw zero);
        }

  -- all places are passed: no byte that is left begins such a character
  module _ (h : length (latin_places 0 (part s from to)) ≤ q) where
    no_more : (x : ℕ) → i + x < to → begins_latin (get_or s (i + x) 0) ≡ false
    no_more x inside-block =
        let none : latin_places (i - from) (drop (i - from) block) ≡ [] = sym k.left ∙ drop_of_length-le places h in
        sym (ap begins_latin (byte_at x inside-block)) ∙ none_left (i - from) (drop (i - from) block) none x (omega (arith, length-drop (i - from) block, wide, k.onward))

    fixed-all : i < to → Fixed s from to out₀ start (record { position = to; written = at + (to - i) }) out
    fixed-all more =
        let z : i + (to - i) ≡ to = omega arith in
        let alone : lowered_bytes (drop i s) ≡ lowered_each (part s i to) ++ lowered_bytes (drop to s) =
        rw z at (lowered-alone s (to - i) i (omega arith) (λ y a b. let w : i + (y - i) ≡ y = omega arith in rw w at (no_more (y - i) (omega arith)))) in
        let long = length-append k.given (lowered_each (part s i to)) in
        record {
          walked = record {
            given = k.given ++ lowered_each (part s i to);
            cut = k.cut ∙ rw alone (sym (append_assoc k.given (lowered_each (part s i to)) (lowered_bytes (drop to s))));
            laid = record { reach = omega (arith, k.reach, long, rest); holds = k.holds };
            onward = omega arith;
            inside = inside;
          };
          least = omega (arith, long, rest, k.least, k.onward);
        }

    fixed-past : to ≤ i → Fixed s from to out₀ start (record { position = i; written = at }) out
    unfolding lowered_each
    fixed-past past =
        let z : to - i ≡ 0 = omega arith in
        let none : k.given ++ lowered_each (part s i to) ≡ k.given = rw z (append-nil k.given) in
        record {
          walked = record {
            given = k.given;
            cut = k.cut;
            laid = record { reach = k.reach; holds = k.holds ∙ ap (splice out₀ start) none };
            onward = past;
            inside = k.inside;
          };
          least = omega (arith, k.least, k.onward);
        }

-- AS THE CODE GOES: first the bytes of the block, each alone; then the places; then one after the other
module _ {s : List ℕ} {from to : ℕ} {table out₀ : List ℕ} {start : ℕ} (r : LowerRoom s from table out₀ start) (onward : from ≤ to) (inside : to ≤ length s) where
  pub block-fits : start + length (part s from to) ≤ length out₀
  block-fits = omega (arith, length_part s from to inside, r.room, lowered-least s from r.formed)

  pub places-room : to ≤ from + 64 → (length (part s from to) ≤ 64) × (length (part s from to) ≤ 64)
  places-room near = let wide = length_part s from to inside in (omega (arith, wide), omega (arith, wide))

  module _ {laid : List ℕ} (is : laid ≡ splice out₀ start (lowered_each (part s from to))) where
    laid_same : length laid ≡ length out₀
    laid_same = ap length is ∙ length-splice out₀ start (lowered_each (part s from to)) (omega (arith, block-fits, length-each (part s from to)))

    room : LowerRoom s from table laid start
    room = record { formed = r.formed; inside = r.inside; tabled = r.tabled; room = omega (arith, r.room, laid_same) }

    pub begun : Fixing s from to laid start laid 0 from start
    begun =
        let e : List ℕ = lowered_each (part s from to) in
        let all : length e ≤ length e = omega arith in
        let none : drop (length e) e ≡ [] = drop_of_length-le e all in
        none-fixing r.inside
        (sym (ap (λ (x : List ℕ). splice x start e) is ∙ again-over out₀ e e start (omega (arith, block-fits)) ∙ rw (none, append-nil e) (sym is)))

    module _ {p₀ p : List ℕ} {count : ℕ} (found : PlacesFound (part s from to) p₀ count p) {out : List ℕ} {q i at : ℕ} (k : Fixing s from to laid start out q i at) where
      pub out-same : length out ≡ length out₀
      out-same = fixing-same room onward inside k ∙ laid_same

      pub end-room : at + (to - i) ≤ length out₀
      end-room =
          let long = ap length k.cut ∙ length-append k.given (lowered_bytes (drop i s)) in
          omega (arith, k.reach, r.room, long, lowered-least s i r.formed)

      module _ (more : q < count) where
        counted : q < length (latin_places 0 (part s from to))
        counted = omega (arith, found.counted, more)

        place : get_or p q 0 ≡ get_or (latin_places 0 (part s from to)) q 0
        place = sym (get_or-take count p q 0 more) ∙ ap (λ (l : List ℕ). get_or l q 0) found.front

        pub place_inside : (i ≤ from + get_or p q 0) × (from + get_or p q 0 < to)
        place_inside = rw place (place-within room onward inside k counted)

        pub place-ready : LatinRoom s (from + get_or p q 0) to table out (at + (from + get_or p q 0 - i))
        place-ready = rw place (pair-ready room onward inside k counted)

        pub place-fixed : {end : ℕ} {out₁ : List ℕ} → LatinLaid s (from + get_or p q 0) to out (at + (from + get_or p q 0 - i)) end out₁ → Fixing s from to laid start out₁ (q + 1) (from + get_or p q 0 + 2) end
        place-fixed l = rw place (one-fixing room onward inside k counted (rw place at l))

      -- the block over what was there before it
      over : {reached : Reached} → Fixed s from to laid start reached out → WalkLaid s from to out₀ start reached out
      over w =
          let e : List ℕ = lowered_each (part s from to) in
          let given : List ℕ = w.walked.given in
          let short : length e ≤ length given = omega (arith, w.least, length-each (part s from to), length_part s from to inside) in
          record {
            given = given;
            cut = w.walked.cut;
            laid = record {
              reach = w.walked.laid.reach;
              holds = w.walked.laid.holds ∙ ap (λ (x : List ℕ). splice x start given) is
                  ∙ again-over out₀ e given start (omega (arith, block-fits)) ∙ rw (drop_of_length-le e short, append-nil given);
            };
            onward = w.walked.onward;
            inside = w.walked.inside;
          }

      module _ (done : count ≤ q) where
        pub all-inside : i < to → WalkLaid s from to out₀ start (record { position = to; written = at + (to - i) }) out
        all-inside h = over (fixed-all room onward inside k (omega (arith, found.counted, done)) h)

        pub all_past : to ≤ i → WalkLaid s from to out₀ start (record { position = i; written = at }) out
        all_past h = over (fixed-past room onward inside k (omega (arith, found.counted, done)) h)
