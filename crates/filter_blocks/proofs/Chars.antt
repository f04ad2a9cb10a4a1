-- Laws of filtering character by character: four characters are still to come, so that four bytes of any can be laid.
use Prim.Native.Nat.{ℕ, zero, suc, ◌+◌, ◌-◌, ◌≤◌, ◌<◌}
use mathlib.Core.Path.{◌≡◌, ◌∙◌, ap, refl, sym}
use mathlib.Core.Bool.{true, cond, not}
use mathlib.Core.List.{List, [], ◌++◌}
use native.Mathlib.Numerals.{add-one}
use native.Mathlib.Omega.{arith}
use mir.Val.{bool_byte}
use lib.Dec.{eqb}
use lib.ListN.{length, get_or, take, drop, drop_of_length-le, length-append, length-drop, take-append-drop}
use lib.Seq.{drop-cons}
use borrow.Author.Tests.{eq-eqb, ne_eqb}
use Rattle.buffers.specs.Splice.{part, splice, overlay}
use Rattle.buffers.specs.Over.{Over, Reaching}
use Rattle.buffers.proofs.Cases.{le-or-lt, true-or-false}
use Rattle.buffers.proofs.Splice.{length_part, part-front}
use Rattle.buffers.proofs.Over.{over-exact, over-front, reaching-size, run-reached}
use Rattle.utf8.specs.Formed.{announced, boundary}
use Rattle.utf8.specs.Chars.{leads}
use Rattle.utf8.specs.Lengths.{lead_len}
use Rattle.utf8.proofs.LeadLen.{lead-len-right}
use Rattle.utf8.proofs.Boundaries.{CharAt, char-at, boundary-zero}
use Rattle.utf8.proofs.Formed.{announced-one, announced-none, announced-two, announced-three, announced-four, announced-past}
use Rattle.utf8.specs.Counting.{Counted}
use Rattle.utf8.proofs.Chars.{none-counted, leads-append, chars-leads}
use Rattle.map_columns.proofs.Chars.{leads-at}
use Rattle.filter_blocks.specs.declared.Filtered.{Filtered}
use Rattle.filter_blocks.specs.Chosen.{chosen, FlagEach, KeptColumnRoom, KeptRoom, KeptLaid}
use Rattle.filter_blocks.specs.Counting.{kept_count, kept_len, BeforeFour, KeptSoFar, KeptBetween, KeptCharsRoom, CharsKept}
use Rattle.filter_blocks.proofs.Chosen.{chosen-long, chosen-most, char-chosen, none_kept, rest-past, rest-first}

-- the flag at i, and those after it
kept-drop : (flags : List ℕ) (i : ℕ) → i < length flags → kept_count (drop i flags) ≡ cond (eqb (get_or flags i 0) 0) 0 1 + kept_count (drop (i + 1) flags)
unfolding kept_count
kept-drop flags i h = rw (drop-cons flags i 0 h, add-one i)

kept_more : (flags : List ℕ) (k i : ℕ) → kept_count (drop (i + k) flags) ≤ kept_count (drop i flags)
unfolding kept_count
kept_more flags zero i = let z : i + 0 ≡ i = omega arith in rw z (omega arith)
kept_more flags (suc k) i =
    le-or-lt (length flags) i
    (λ past. let far : length flags ≤ i + suc k = omega arith in rw (drop_of_length-le flags past, drop_of_length-le flags far) (omega arith))
    (λ more. let z : i + 1 + k ≡ i + suc k = omega arith in omega (arith, kept-drop flags i more, rw z at (kept_more flags k (i + 1))))

-- four counted from the end
pub record Back (flags : List ℕ) (n i : ℕ) : Type 0 where
  pub counted : n ≡ kept_count (drop i flags)
  pub small : n + i ≤ length flags

pub none-back : (flags : List ℕ) → Back flags 0 (length flags)
unfolding kept_count
none-back flags = let past : length flags ≤ length flags = omega arith in record { counted = rw (drop_of_length-le flags past); small = omega arith }

pub one-back : {flags : List ℕ} {n i : ℕ} → Back flags n i → 0 < i → Back flags (n + bool_byte (not (eqb (get_or flags (i - 1) 0) 0))) (i - 1)
one-back {flags} {n} {i} k more =
    let z : i - 1 + 1 ≡ i = omega arith in
    let step = rw z at (kept-drop flags (i - 1) (omega (arith, k.small))) in
    true-or-false (eqb (get_or flags (i - 1) 0) 0)
    (λ t. let same = rw t at step in rw t (record { counted = omega (arith, k.counted, same); small = omega (arith, k.small) }))
    (λ u. let same = rw u at step in rw u (record { counted = omega (arith, k.counted, same); small = omega (arith, k.small) }))

pub four-back : {flags : List ℕ} {n i : ℕ} → Back flags n i → n ≡ 4 → BeforeFour flags i
four-back k four = record { most = omega (arith, k.small); many = λ some. omega (arith, k.counted, four) }

pub size-dropped : (flag wide : ℕ) → flag ≡ 0 → 0 ≡ kept_len flag wide
unfolding kept_len
size-dropped flag wide is = rw (eq-eqb flag 0 is)

pub size-kept : (flag wide : ℕ) → (flag ≡ 0 → ⊥) → wide ≡ kept_len flag wide
unfolding kept_len
size-kept flag wide not_so = rw (ne_eqb flag 0 not_so)

-- how long a character is
module _ (b : ℕ) where
  pub wide-most : announced b ≤ 4
  wide-most =
      le-or-lt 0x80 b
      (λ l. le-or-lt 0xC2 b
      (λ m. le-or-lt 0xE0 b (λ n. le-or-lt 0xF0 b (λ p. le-or-lt 0xF5 b (λ q. omega (arith, announced-past b q)) (λ h. omega (arith, announced-four b p h))) (λ h. omega (arith, announced-three b n h))) (λ h. omega (arith, announced-two b m h)))
      (λ h. omega (arith, announced-none b l h)))
      (λ h. omega (arith, announced-one b h))

-- a character on
module _ {s flags : List ℕ} (f : FlagEach s flags) where
  leads-split : (q : ℕ) → leads s ≡ leads (take q s) + leads (drop q s)
  leads-split q = ap leads (sym (take-append-drop q s)) ∙ leads-append (take q s) (drop q s)

  module _ {i q : ℕ} (c : Counted s i q) (b : boundary s q ≡ true) where
    pub more-text : i < length flags → q < length s
    unfolding leads
    more-text h =
        le-or-lt (length s) q
        (λ past. let none : leads (drop q s) ≡ 0 = rw (drop_of_length-le s past) in absurd (omega (arith, leads-split q, none, c.so_far, f.counted, chars-leads s f.formed)))
        (λ below. below)

    module _ (h : q < length s) where
      here : CharAt s q (announced (get_or s q 0))
      here = char-at s q f.formed b h

      next-counted : Counted s (i + 1) (q + announced (get_or s q 0))
      next-counted =
          record { so_far = omega (arith, c.so_far, leads-split q, leads-split (q + announced (get_or s q 0)), leads-at s s refl q f.formed b h); most = here.inside }

  -- as many bytes are kept as characters, or more
  count-chosen : (k : ℕ) {i q : ℕ} → i + k ≡ length flags → Counted s i q → boundary s q ≡ true → kept_count (drop i flags) ≤ length (chosen flags i (drop q s) (drop q s))
  unfolding kept_count
  count-chosen zero {i} all c b = let past : length flags ≤ i = omega arith in rw (drop_of_length-le flags past) (omega arith)
  count-chosen (suc k) {i} {q} all c b =
      let h : i < length flags = omega arith in
      let more = more-text c b h in
      let w : ℕ = announced (get_or s q 0) in
      let char : CharAt s q w = here c b more in
      let rest = count-chosen k {i = i + 1} {q = q + w} (omega arith) (next-counted c b more) char.ends in
      let step = kept-drop flags i h in
      let long : length (part s q (q + w)) ≡ q + w - q = length_part s q (q + w) char.inside in
      let cut = ap length (char-chosen s s flags refl q i f.formed b more) in
      true-or-false (eqb (get_or flags i 0) 0)
      (λ t. let one = rw t at step in let two = rw t at cut in omega (arith, one, two, rest))
      (λ u.
      let one = rw u at step in
      let two = (rw u at cut) ∙ length-append (part s q (q + w)) (chosen flags (i + 1) (drop (q + w) s) (drop (q + w) s)) in
      omega (arith, one, two, rest, long, char.positive))

  four-left : {i q stop : ℕ} → BeforeFour flags stop → Counted s i q → boundary s q ≡ true → i ≤ stop → 0 < stop → 4 ≤ length (chosen flags i (drop q s) (drop q s))
  four-left {i} {q} {stop} four c b few some =
      let z : i + (stop - i) ≡ stop = omega arith in
      omega (arith, four.many some, rw z at (kept_more flags (stop - i) i), count-chosen (length flags - i) {i = i} {q = q} (omega (arith, four.most)) c b)

  pub four_bytes : {i q stop : ℕ} → BeforeFour flags stop → Counted s i q → boundary s q ≡ true → i < stop → (4 ≤ length (chosen flags i (drop q s) (drop q s))) × (q + 4 ≤ length s)
  four_bytes {i} {q} {stop} four c b h =
      let left = four-left four c b (omega arith) (omega arith) in
      (left, omega (arith, left, chosen-most flags i (drop q s), length-drop q s))

-- one column, a character on
module _ {s xs flags d₀ : List ℕ} (ready : KeptColumnRoom s xs flags d₀) (f : FlagEach s flags) {i q at : ℕ} {d : List ℕ} (c : Counted s i q)
    (b : boundary s q ≡ true) (l : Reaching (chosen flags 0 s xs) (chosen flags i (drop q s) (drop q xs)) d₀ at d)
    (left : (4 ≤ length (chosen flags i (drop q s) (drop q s))) × (q + 4 ≤ length s)) where
  same_left : 4 ≤ length (chosen flags i (drop q s) (drop q xs))
  same_left = omega (arith, left.0, chosen-long flags i (drop q s) (drop q xs) (drop q s) (length-drop q xs ∙ rw ready.one_each (sym (length-drop q s))) refl)

  pub four-room : (q + 4 ≤ length xs) × (at + 4 ≤ length d)
  four-room = (omega (arith, left.1, ready.one_each), omega (arith, same_left, l.room))

  pub char-kept : {w size : ℕ} {d₁ : List ℕ} → w ≡ announced (get_or s q 0) → size ≡ kept_len (get_or flags i 0) w → d₁ ≡ splice d at (part xs q (q + 4)) → Reaching (chosen flags 0 s xs) (chosen flags (i + 1) (drop (q + w) s) (drop (q + w) xs)) d₀ (at + size) d₁
  unfolding kept_len
  char-kept {w} {size} {d₁} wide sized stored =
      let W : List ℕ = chosen flags 0 s xs in
      let more : q < length s = omega (arith, left.1) in
      let few : w ≤ 4 = omega (arith, wide, wide-most (get_or s q 0)) in
      let next : List ℕ = chosen flags (i + 1) (drop (q + w) s) (drop (q + w) xs) in
      let long : length (part xs q (q + 4)) ≡ q + 4 - q = length_part xs q (q + 4) four-room.0 in
      let size_is = reaching-size l in
      let all : Over (part xs q (q + 4)) d at (length W) d₁ = over-exact (part xs q (q + 4)) d at (length W) (omega (arith, long, four-room.1)) stored in
      let cut : chosen flags i (drop q s) (drop q xs) ≡ cond (eqb (get_or flags i 0) 0) [] (part xs q (q + w)) ++ next = rw (← wide) at (char-chosen s xs flags ready.one_each q i f.formed b more) in
      true-or-false (eqb (get_or flags i 0) 0)
      (λ t.
      let none : size ≡ 0 = sized ∙ rw t in
      rw none
      (run-reached [] next {until = length W} (rw (cut, t) at l) (omega arith) refl (over-front 0 all (omega arith) (omega (arith, four-room.1)) (omega (arith, long, same_left)))))
      (λ u.
      let some : size ≡ w = sized ∙ rw u in
      let n : q + w - q ≡ w = omega arith in
      let front : take w (part xs q (q + 4)) ≡ part xs q (q + w) = ap (λ (m : ℕ). take m (part xs q (q + 4))) (sym n) ∙ part-front xs q (q + w) (q + 4) (omega arith) in
      let short : length (part xs q (q + w)) ≡ q + w - q = length_part xs q (q + w) (omega (arith, four-room.0)) in
      rw some
      (run-reached (part xs q (q + w)) next {until = length W} (rw (cut, u) at l) (omega arith) (omega (arith, short)) (rw front at (over-front w all (omega (arith, long)) (omega (arith, four-room.1)) (omega (arith, long, same_left))))))

-- all three
module _ {s starts ends flags : List ℕ} {stop : ℕ} {out₀ starts₀ ends₀ : List ℕ} (r : KeptCharsRoom s starts ends flags stop out₀ starts₀ ends₀) where
  pub none-between-chars : KeptBetween s starts ends flags out₀ starts₀ ends₀ 0 0 0 out₀ starts₀ ends₀
  none-between-chars =
      record {
        laid = record { counted = none-counted; text = none_kept r.text_ready; starts_so_far = none_kept r.starts_ready; ends_so_far = none_kept r.ends_ready };
        stands = boundary-zero s r.flagged.formed;
      }

  module _ {q i at : ℕ} {out starts₁ ends₁ : List ℕ} (k : KeptBetween s starts ends flags out₀ starts₀ ends₀ q i at out starts₁ ends₁) where
    module _ (h : i < stop) where
      left : (4 ≤ length (chosen flags i (drop q s) (drop q s))) × (q + 4 ≤ length s)
      left = four_bytes r.flagged r.four k.laid.counted k.stands h

      pub char-there : (q < length s) × (i < length flags)
      char-there = (omega (arith, left.1), omega (arith, r.four.most))

      pub char-wide : {w : ℕ} → w ≡ lead_len (get_or s q 0) → w ≡ announced (get_or s q 0)
      char-wide told = told ∙ lead-len-right (get_or s q 0) (here r.flagged k.laid.counted k.stands char-there.0).positive

      pub char-inside : {w : ℕ} → w ≡ lead_len (get_or s q 0) → q + w ≤ length s
      char-inside told = omega (arith, char-wide told, (here r.flagged k.laid.counted k.stands char-there.0).inside)

      pub text-four : (q + 4 ≤ length s) × (at + 4 ≤ length out)
      text-four = four-room r.text_ready r.flagged k.laid.counted k.stands k.laid.text left

      pub starts-four : (q + 4 ≤ length starts) × (at + 4 ≤ length starts₁)
      starts-four = four-room r.starts_ready r.flagged k.laid.counted k.stands k.laid.starts_so_far left

      pub ends-four : (q + 4 ≤ length ends) × (at + 4 ≤ length ends₁)
      ends-four = four-room r.ends_ready r.flagged k.laid.counted k.stands k.laid.ends_so_far left

      pub one-between-chars : {w size : ℕ} {out₂ starts₂ ends₂ : List ℕ} → w ≡ lead_len (get_or s q 0) → out₂ ≡ splice out at (part s q (q + 4))
          → starts₂ ≡ splice starts₁ at (part starts q (q + 4)) → ends₂ ≡ splice ends₁ at (part ends q (q + 4)) → size ≡ kept_len (get_or flags i 0) w
          → KeptBetween s starts ends flags out₀ starts₀ ends₀ (q + w) (i + 1) (at + size) out₂ starts₂ ends₂
      one-between-chars {w} told o st en sized =
          let wide : w ≡ announced (get_or s q 0) = char-wide told in
          let char = here r.flagged k.laid.counted k.stands char-there.0 in
          record {
            laid =
                record {
                  counted = rw wide (next-counted r.flagged k.laid.counted k.stands char-there.0);
                  text = char-kept r.text_ready r.flagged k.laid.counted k.stands k.laid.text left wide sized o;
                  starts_so_far = char-kept r.starts_ready r.flagged k.laid.counted k.stands k.laid.starts_so_far left wide sized st;
                  ends_so_far = char-kept r.ends_ready r.flagged k.laid.counted k.stands k.laid.ends_so_far left wide sized en;
                };
            stands = rw wide char.ends;
          }

    pub all-between-chars : stop ≤ i → i ≤ stop → CharsKept s starts ends flags stop out₀ starts₀ ends₀ (record { read = q; flag = stop; written = at }) out starts₁ ends₁
    all-between-chars past most = let end : i ≡ stop = omega arith in record { flag_is = refl; between-chars = rw end at k }

-- what is left, byte by byte
again : {W rest d₀ : List ℕ} {at : ℕ} {d : List ℕ} → Reaching W rest d₀ at d → Reaching W rest d at d
again l = record { so_far = l.so_far; beyond = refl; room = l.room; same = refl }

still : {W rest d₀ : List ℕ} {at : ℕ} {d d₁ : List ℕ} → Reaching W rest d₀ at d → d₁ ≡ overlay W d → d₁ ≡ overlay W d₀
unfolding overlay
still l is = is ∙ rw l.beyond

module _ {s starts ends flags : List ℕ} {e : ℕ} {out₀ starts₀ ends₀ : List ℕ} (r : KeptRoom s starts ends flags e out₀ starts₀ ends₀) where
  pub chars_room : {stop : ℕ} → BeforeFour flags stop → KeptCharsRoom s starts ends flags stop out₀ starts₀ ends₀
  chars_room four = record { flagged = r.flagged; four = four; text_ready = r.text_ready; starts_ready = r.starts_ready; ends_ready = r.ends_ready }

  module _ {stop : ℕ} (four : BeforeFour flags stop) {m : Filtered} {out starts₁ ends₁ : List ℕ} (k : CharsKept s starts ends flags stop out₀ starts₀ ends₀ m out starts₁ ends₁) where
    column_again : {xs d₀ d : List ℕ} → KeptColumnRoom s xs flags d₀ → length d ≡ length d₀ → KeptColumnRoom s xs flags d
    column_again ready same = record { one_each = ready.one_each; room = omega (arith, ready.room, same) }

    before-end : m.read ≤ e
    before-end =
        le-or-lt m.read e (λ fine. fine)
        (λ past.
        le-or-lt stop 0
        (λ none.
        let first : m.flag ≡ 0 = omega (arith, k.flag_is) in
        absurd (omega (arith, rest-first r.flagged k.between-chars.laid.counted first)))
        (λ some.
        absurd (omega (arith, four-left r.flagged four k.between-chars.laid.counted k.between-chars.stands (omega (arith, k.flag_is)) some, rest-past r.flagged r.kept s refl k.between-chars.laid.counted (omega arith)))))

    pub rest-room : KeptRoom s starts ends flags e out starts₁ ends₁ × KeptSoFar s starts ends flags e out starts₁ ends₁ m.read m.flag m.written out starts₁ ends₁
    rest-room =
        let laid = k.between-chars.laid in (
          record {
            flagged = r.flagged;
            kept = r.kept;
            text_ready = column_again r.text_ready laid.text.same;
            starts_ready = column_again r.starts_ready laid.starts_so_far.same;
            ends_ready = column_again r.ends_ready laid.ends_so_far.same;
          },
          record {
            below = before-end;
            laid = record { counted = laid.counted; text = again laid.text; starts_so_far = again laid.starts_so_far; ends_so_far = again laid.ends_so_far };
          },
        )

    pub rest-kept : {n : ℕ} {out₂ starts₂ ends₂ : List ℕ} → KeptLaid s starts ends flags out starts₁ ends₁ n out₂ starts₂ ends₂ → KeptLaid s starts ends flags out₀ starts₀ ends₀ n out₂ starts₂ ends₂
    rest-kept l =
        let laid = k.between-chars.laid in
        record { reached = l.reached; text_is = still laid.text l.text_is; starts_are = still laid.starts_so_far l.starts_are; ends_are = still laid.ends_so_far l.ends_are }
