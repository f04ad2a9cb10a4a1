-- Laws of `chosen`: byte by byte, by the flag of each byte's character.
use Prim.Native.Nat.{ℕ, zero, suc, ◌+◌, ◌-◌, ◌≤◌, ◌<◌}
use mathlib.Core.Path.{◌≡◌, ◌∙◌, ap, refl, sym}
use mathlib.Core.Bool.{Bool, true, false, cond, not}
use mathlib.Core.List.{List, [], ◌∷◌, ◌++◌, append_assoc}
use native.Mathlib.Numerals.{add-one}
use native.Mathlib.Omega.{arith}
use mir.Val.{bool_byte}
use lib.Dec.{eqb}
use lib.ListN.{length, get_or, take, drop, set, drop_of_length-le, length-append, take-append-drop}
use lib.Seq.{drop-cons, length-take-le, take_all}
use borrow.Author.Tests.{ne_eqb}
use Rattle.buffers.specs.Splice.{part, splice, overlay}
use Rattle.buffers.proofs.Cases.{le-or-lt, true-or-false}
use Rattle.buffers.proofs.Splice.{part-append, store-one}
use Rattle.buffers.specs.Over.{Reaching}
use Rattle.buffers.proofs.Over.{none-reached, over-exact, over-front, reaching-size, run-reached, all-reached}
use Rattle.utf8.specs.Formed.{announced, well_formed, continues, boundary}
use Rattle.utf8.specs.Chars.{lead_at, leads}
use Rattle.utf8.proofs.Boundaries.{char-at, boundary-begins, boundary-zero}
use Rattle.utf8.specs.Counting.{Counted}
use Rattle.utf8.proofs.Chars.{counted-le, lead-one, lead_zero, flag-counted, leads-append, leads-take, leads-take-add, chars-leads}
use Rattle.filter_blocks.specs.Counting.{KeptSoFar}
use Rattle.filter_blocks.specs.Chosen.{chosen, FlagEach, KeptEnd, KeptColumnRoom, KeptRoom, KeptLaid}

-- 1 for a flag that keeps, as the code adds it
abbrev pub keeps : ℕ → ℕ
keeps k = bool_byte (not (eqb k 0))

pub keeps-most : (k : ℕ) → keeps k ≤ 1
keeps-most k = true-or-false (eqb k 0) (λ t. rw t (omega arith)) (λ f. rw f (omega arith))

module _ (flags : List ℕ) (i : ℕ) where
  cons : (b x : ℕ) (s xs : List ℕ) → chosen flags i (b ∷ s) (x ∷ xs) ≡ take (keeps (get_or flags (i + lead_at b - 1) 0)) (x ∷ []) ++ chosen flags (i + lead_at b) s xs
  unfolding chosen
  cons b x s xs = true-or-false (eqb (get_or flags (i + lead_at b - 1) 0) 0) (λ t. rw t) (λ f. rw f)

  none : (xs : List ℕ) → chosen flags i [] xs ≡ []
  unfolding chosen
  none xs = refl

  pub chosen-end : (s xs : List ℕ) (q : ℕ) → length s ≤ q → chosen flags i (drop q s) (drop q xs) ≡ []
  chosen-end s xs q past = rw (drop_of_length-le s past) (none (drop q xs))

  pub chosen-step : (s xs : List ℕ) (q : ℕ) → length xs ≡ length s → q < length s → chosen flags i (drop q s) (drop q xs) ≡ take (keeps (get_or flags (i + lead_at (get_or s q 0) - 1) 0)) (get_or xs q 0 ∷ []) ++ chosen flags (i + lead_at (get_or s q 0)) (drop (q + 1) s) (drop (q + 1) xs)
  chosen-step s xs q same h =
      rw (drop-cons s q 0 h, drop-cons xs q 0 (omega arith), add-one q) (cons (get_or s q 0) (get_or xs q 0) (drop (suc q) s) (drop (suc q) xs))

length_run : (k x : ℕ) → length (take (keeps k) (x ∷ [])) ≡ keeps k
length_run k x = length-take-le (keeps k) (x ∷ []) (omega (arith, keeps-most k))

-- as many of any column as there are bytes that are kept, and no more than the text has
pub chosen-long : (flags : List ℕ) (i : ℕ) (s xs ys : List ℕ) → length xs ≡ length s → length ys ≡ length s → length (chosen flags i s xs) ≡ length (chosen flags i s ys)
chosen-long flags i [] xs ys p q = rw (none flags i xs, none flags i ys)
chosen-long flags i (b ∷ s) [] ys p q = absurd (omega arith)
chosen-long flags i (b ∷ s) (x ∷ xs) [] p q = absurd (omega arith)
chosen-long flags i (b ∷ s) (x ∷ xs) (y ∷ ys) p q =
    let k : ℕ = get_or flags (i + lead_at b - 1) 0 in
    rw (cons flags i b x s xs, cons flags i b y s ys, length-append, length-append, length_run k x, length_run k y)
    (ap (◌+◌ (keeps k)) (chosen-long flags (i + lead_at b) s xs ys (omega arith) (omega arith)))

pub chosen-most : (flags : List ℕ) (i : ℕ) (s : List ℕ) → length (chosen flags i s s) ≤ length s
chosen-most flags i [] = rw (none flags i []) (omega arith)
chosen-most flags i (b ∷ s) =
    let k : ℕ = get_or flags (i + lead_at b - 1) 0 in
    rw (cons flags i b b s s, length-append, length_run k b) (omega (arith, keeps-most k, chosen-most flags (i + lead_at b) s))

-- the character of a byte has a flag
module _ {s flags : List ℕ} (f : FlagEach s flags) where
  pub leads-low : (q : ℕ) → 0 < q → q ≤ length s → 1 ≤ leads (take q s)
  leads-low q some most =
      let first : lead_at (get_or s 0 0) ≡ 1 = lead-one (get_or s 0 0) (boundary-begins s 0 (boundary-zero s f.formed)) in
      let one = leads-take s 0 (omega arith) in
      let split = leads-take-add s 1 (q - 1) in
      let is : 1 + (q - 1) ≡ q = omega arith in
      let at : 0 + 1 ≡ 1 = omega arith in
      omega (arith, rw is at split, rw at at one, first)

  pub leads-high : (q : ℕ) → leads (take q s) ≤ length flags
  leads-high q =
      let split : leads s ≡ leads (take q s) + leads (drop q s) = ap leads (sym (take-append-drop q s)) ∙ leads-append (take q s) (drop q s) in
      omega (arith, split, f.counted, chars-leads s f.formed)

  -- the byte at q goes by
  module _ {i q : ℕ} (c : Counted s i q) (h : q < length s) {t : Bool} (is : t ≡ continues (get_or s q 0)) where
    pub counted_next : Counted s (i + bool_byte (not t)) (q + 1)
    counted_next = flag-counted c h is

    pub index-low : 1 ≤ i + bool_byte (not t)
    index-low = omega (arith, counted_next.so_far, leads-low (q + 1) (omega arith) (omega arith))

    pub index-high : i + bool_byte (not t) ≤ length flags
    index-high = omega (arith, counted_next.so_far, leads-high (q + 1))

    lead_is : i + lead_at (get_or s q 0) ≡ i + bool_byte (not t)
    lead_is = omega (arith, counted_next.so_far, c.so_far, leads-take s q h)

    pub step-at : (xs : List ℕ) → length xs ≡ length s → chosen flags i (drop q s) (drop q xs) ≡ take (keeps (get_or flags (i + bool_byte (not t) - 1) 0)) (get_or xs q 0 ∷ []) ++ chosen flags (i + bool_byte (not t)) (drop (q + 1) s) (drop (q + 1) xs)
    step-at xs same = chosen-step flags i s xs q same h ∙ rw lead_is

-- THE END, from the text's end back
pub record Ending (s flags : List ℕ) (q i : ℕ) : Type 0 where
  pub counted : Counted s i q
  pub behind : (xs : List ℕ) → length xs ≡ length s → chosen flags i (drop q s) (drop q xs) ≡ []

module _ {s flags : List ℕ} (f : FlagEach s flags) where
  pub none-ending : Ending s flags (length s) (length flags)
  none-ending =
      record {
        counted = record { so_far = f.counted ∙ chars-leads s f.formed ∙ rw (take_all (length s) s (omega arith)); most = omega arith };
        behind = λ xs same. chosen-end flags (length flags) s xs (length s) (omega arith);
      }

  module _ {q i : ℕ} (k : Ending s flags q i) where
    pub some_left : 0 < i → 0 < q
    some_left more = omega (arith, counted-le k.counted)

    pub flag-there : i ≤ length flags
    flag-there = omega (arith, k.counted.so_far, leads-high f q)

    module _ {t : Bool} (more : 0 < i) (is : t ≡ continues (get_or s (q - 1) 0)) where
      before : Counted s (leads (take (q - 1) s)) (q - 1)
      before = record { so_far = refl; most = omega (arith, k.counted.most) }

      on : q - 1 + 1 ≡ q
      on = omega (arith, some_left more)

      inside : q - 1 < length s
      inside = omega (arith, some_left more, k.counted.most)

      index : leads (take (q - 1) s) + bool_byte (not t) ≡ i
      index = rw on at (counted_next f before inside is).so_far ∙ sym k.counted.so_far

      pub back_low : bool_byte (not t) ≤ i
      back_low = omega (arith, index)

      pub one-back : get_or flags (i - 1) 0 ≡ 0 → Ending s flags (q - 1) (i - bool_byte (not t))
      one-back drops =
          let less : i - bool_byte (not t) ≡ leads (take (q - 1) s) = omega (arith, index) in
          record {
            counted = rw less before;
            behind = λ xs same. rw less (step-at f before inside is xs same ∙ rw (index, on, drops) (k.behind xs same));
          }

    pub all_back : i ≤ 0 → KeptEnd s flags q
    all_back gone =
        let zero : q ≤ 0 = le-or-lt q 0 (λ z. z) (λ some. absurd (omega (arith, k.counted.so_far, leads-low f q some k.counted.most))) in
        record {
          most = k.counted.most;
          behind = λ xs same. rw (← k.counted.so_far) (k.behind xs same);
          before = λ some. absurd (omega arith);
        }

    pub kept_back : 0 < i → (get_or flags (i - 1) 0 ≡ 0 → ⊥) → KeptEnd s flags q
    kept_back more found =
        record {
          most = k.counted.most;
          behind = λ xs same. rw (← k.counted.so_far) (k.behind xs same);
          before = λ some. rw (← k.counted.so_far) (ne_eqb (get_or flags (i - 1) 0) 0 found);
        }

pub rest-first : {s flags : List ℕ} (f : FlagEach s flags) {i q : ℕ} → Counted s i q → i ≡ 0 → q ≤ 0
rest-first f {i} {q} c none = le-or-lt q 0 (λ z. z) (λ some. absurd (omega (arith, c.so_far, leads-low f q some c.most)))

-- THE LAYING: up to the end a kept byte is still to come
module _ {s flags : List ℕ} (f : FlagEach s flags) {e : ℕ} (end : KeptEnd s flags e) (xs : List ℕ) (same : length xs ≡ length s) where
  step-long : (q : ℕ) → q < length s → length (chosen flags (leads (take q s)) (drop q s) (drop q xs)) ≡ keeps (get_or flags (leads (take (q + 1) s) - 1) 0) + length (chosen flags (leads (take (q + 1) s)) (drop (q + 1) s) (drop (q + 1) xs))
  step-long q h =
      let i : ℕ = leads (take q s) in
      rw (leads-take s q h)
      (ap length (chosen-step flags i s xs q same h)
      ∙ length-append (take (keeps (get_or flags (i + lead_at (get_or s q 0) - 1) 0)) (get_or xs q 0 ∷ [])) (chosen flags (i + lead_at (get_or s q 0)) (drop (q + 1) s) (drop (q + 1) xs))
      ∙ rw (length_run (get_or flags (i + lead_at (get_or s q 0) - 1) 0) (get_or xs q 0)))

  to-come : (k q : ℕ) → q + k + 1 ≡ e → 1 ≤ length (chosen flags (leads (take q s)) (drop q s) (drop q xs))
  to-come zero q is =
      let last : q + 1 ≡ e = omega arith in
      let one : keeps (get_or flags (leads (take (q + 1) s) - 1) 0) ≡ 1 = rw last (rw (end.before (omega arith))) in
      omega (arith, step-long q (omega (arith, end.most)), one)
  to-come (suc k) q is = omega (arith, step-long q (omega (arith, end.most)), to-come k (q + 1) (omega arith))

  pub rest_some : {i q : ℕ} → Counted s i q → q < e → 1 ≤ length (chosen flags i (drop q s) (drop q xs))
  rest_some {i} {q} c h = rw c.so_far (to-come (e - q - 1) q (omega arith))

  pub rest-none : {i q : ℕ} → Counted s i q → e ≤ q → q ≤ e → chosen flags i (drop q s) (drop q xs) ≡ []
  rest-none {i} {q} c past most = let is : q ≡ e = omega arith in rw (c.so_far, is) (end.behind xs same)

  past-none : (k q : ℕ) → q ≡ e + k → q ≤ length s → length (chosen flags (leads (take q s)) (drop q s) (drop q xs)) ≤ 0
  past-none zero q is most = let here : q ≡ e = omega arith in rw here (rw (end.behind xs same) (omega arith))
  past-none (suc k) q is most =
      let before : q - 1 + 1 ≡ q = omega arith in
      omega (arith, past-none k (q - 1) (omega arith) (omega arith), rw before at (step-long (q - 1) (omega arith)))

  pub rest-past : {i q : ℕ} → Counted s i q → e ≤ q → length (chosen flags i (drop q s) (drop q xs)) ≤ 0
  rest-past {i} {q} c past = rw c.so_far (past-none (q - e) q (omega arith) c.most)

-- one column
module _ {s xs flags d₀ : List ℕ} (ready : KeptColumnRoom s xs flags d₀) where
  pub long-chosen : length (chosen flags 0 s xs) ≡ length (chosen flags 0 s s)
  long-chosen = chosen-long flags 0 s xs s ready.one_each refl

  pub none_kept : Reaching (chosen flags 0 s xs) (chosen flags 0 s xs) d₀ 0 d₀
  none_kept = none-reached (chosen flags 0 s xs) d₀ (omega (arith, ready.room, long-chosen))

  module _ (f : FlagEach s flags) {e : ℕ} (end : KeptEnd s flags e) {i q at : ℕ} {d : List ℕ} (c : Counted s i q) (l : Reaching (chosen flags 0 s xs) (chosen flags i (drop q s) (drop q xs)) d₀ at d) where
    pub at_room : q < e → at < length d
    at_room h = omega (arith, rest_some f end xs ready.one_each c h, l.room)

    pub one_kept : {t : Bool} {x : ℕ} → q < e → t ≡ continues (get_or s q 0) → x ≡ get_or xs q 0 → Reaching (chosen flags 0 s xs) (chosen flags (i + bool_byte (not t)) (drop (q + 1) s) (drop (q + 1) xs)) d₀ (at + keeps (get_or flags (i + bool_byte (not t) - 1) 0)) (set d at x)
    one_kept {t} {x} h is value =
        let k : ℕ = get_or flags (i + bool_byte (not t) - 1) 0 in
        let low : q < length s = omega (arith, end.most) in
        let some = rest_some f end xs ready.one_each c h in
        let size = reaching-size l in
        let step = step-at f c low is xs ready.one_each in
        let stored : set d at x ≡ splice d at (x ∷ []) = store-one d at x (omega (arith, l.room)) in
        let over = over-front (keeps k) (over-exact (x ∷ []) d at (length (chosen flags 0 s xs)) (omega (arith, l.room)) stored) (omega (arith, keeps-most k)) (omega (arith, l.room)) (omega arith) in
        run-reached (take (keeps k) (get_or xs q 0 ∷ [])) (chosen flags (i + bool_byte (not t)) (drop (q + 1) s) (drop (q + 1) xs))
        {until = length (chosen flags 0 s xs)} (rw step at l) (omega arith) (rw (length_run k (get_or xs q 0))) (rw (← value) over)

    pub all-kept : e ≤ q → q ≤ e → (d ≡ overlay (chosen flags 0 s xs) d₀) × (at ≡ length (chosen flags 0 s s))
    all-kept past most =
        let done = rest-none f end xs ready.one_each c past most in
        let size = reaching-size l in
        (all-reached (rw done at l), omega (arith, size, ap length done, long-chosen))

-- the three of them
module _ {s starts ends flags : List ℕ} {e : ℕ} {out₀ starts₀ ends₀ : List ℕ} (r : KeptRoom s starts ends flags e out₀ starts₀ ends₀) where
  module _ {q i at : ℕ} {out starts₁ ends₁ : List ℕ} (k : KeptSoFar s starts ends flags e out₀ starts₀ ends₀ q i at out starts₁ ends₁) where
    pub rooms : q < e → (at < length out) × ((at < length starts₁) × (at < length ends₁))
    rooms h = (
      at_room r.text_ready r.flagged r.kept k.laid.counted k.laid.text h,
      (at_room r.starts_ready r.flagged r.kept k.laid.counted k.laid.starts_so_far h, at_room r.ends_ready r.flagged r.kept k.laid.counted k.laid.ends_so_far h),
    )

    pub reads : q < e → (q < length s) × ((q < length starts) × (q < length ends))
    reads h =
        (omega (arith, r.kept.most), (omega (arith, r.kept.most, r.starts_ready.one_each), omega (arith, r.kept.most, r.ends_ready.one_each)))

    pub flag-index : {t : Bool} → q < e → t ≡ continues (get_or s q 0) → (1 ≤ i + bool_byte (not t)) × (i + bool_byte (not t) ≤ length flags)
    flag-index h is = (index-low r.flagged k.laid.counted (reads h).0 is, index-high r.flagged k.laid.counted (reads h).0 is)

    pub one-so-far : {t : Bool} → q < e → t ≡ continues (get_or s q 0) → KeptSoFar s starts ends flags e out₀ starts₀ ends₀ (q + 1) (i + bool_byte (not t)) (at + keeps (get_or flags (i + bool_byte (not t) - 1) 0)) (set out at (get_or s q 0)) (set starts₁ at (get_or starts q 0)) (set ends₁ at (get_or ends q 0))
    one-so-far h is =
        record {
          below = omega arith;
          laid = record {
            counted = counted_next r.flagged k.laid.counted (reads h).0 is;
            text = one_kept r.text_ready r.flagged r.kept k.laid.counted k.laid.text h is refl;
            starts_so_far = one_kept r.starts_ready r.flagged r.kept k.laid.counted k.laid.starts_so_far h is refl;
            ends_so_far = one_kept r.ends_ready r.flagged r.kept k.laid.counted k.laid.ends_so_far h is refl;
          };
        }

    pub all-so-far : e ≤ q → KeptLaid s starts ends flags out₀ starts₀ ends₀ at out starts₁ ends₁
    all-so-far past =
        let text = all-kept r.text_ready r.flagged r.kept k.laid.counted k.laid.text past k.below in
        record {
          reached = text.1;
          text_is = text.0;
          starts_are = (all-kept r.starts_ready r.flagged r.kept k.laid.counted k.laid.starts_so_far past k.below).0;
          ends_are = (all-kept r.ends_ready r.flagged r.kept k.laid.counted k.laid.ends_so_far past k.below).0;
        }

-- CHARACTER BY CHARACTER
run_is : (k x : ℕ) → take (keeps k) (x ∷ []) ≡ cond (eqb k 0) [] (x ∷ [])
run_is k x = true-or-false (eqb k 0) (λ t. rw t) (λ f. rw f)

glue : (t : Bool) (a b r : List ℕ) → cond t [] a ++ (cond t [] b ++ r) ≡ cond t [] (a ++ b) ++ r
glue true a b r = refl
glue false a b r = sym (append_assoc a b r)

one-part : (xs : List ℕ) (q e : ℕ) → q < length xs → q + 1 ≤ e → (get_or xs q 0 ∷ []) ++ part xs (q + 1) e ≡ part xs q e
one-part xs q e h more =
    let first : part xs q (q + 1) ≡ get_or xs q 0 ∷ [] = let z : q + 1 - q ≡ 1 = omega arith in rw (z, drop-cons xs q 0 h) in
    rw first at (part-append xs q (q + 1) e (omega arith) more)

module _ (s xs flags : List ℕ) (same : length xs ≡ length s) where
  -- bytes that continue a character, whose flag is at i
  rest-run : (k q i : ℕ) → q + k ≤ length s → ((j : ℕ) → q ≤ j → j < q + k → continues (get_or s j 0) ≡ true) → chosen flags (i + 1) (drop q s) (drop q xs) ≡ cond (eqb (get_or flags i 0) 0) [] (part xs q (q + k)) ++ chosen flags (i + 1) (drop (q + k) s) (drop (q + k) xs)
  rest-run zero q i h goes =
      let z : q + 0 ≡ q = omega arith in
      let none : q - q ≡ 0 = omega arith in
      rw (z, none) (true-or-false (eqb (get_or flags i 0) 0) (λ t. rw t) (λ f. rw f))
  rest-run (suc k) q i h goes =
      let z : q + suc k ≡ q + 1 + k = omega arith in
      let idle : lead_at (get_or s q 0) ≡ 0 = lead_zero (get_or s q 0) (goes q (omega arith) (omega arith)) in
      let stays : i + 1 + lead_at (get_or s q 0) ≡ i + 1 = omega arith in
      let back : i + 1 - 1 ≡ i = omega arith in
      let rest = rest-run k (q + 1) i (omega arith) (λ j a b. goes j (omega arith) (omega arith)) in
      chosen-step flags (i + 1) s xs q same (omega arith)
      ∙ rw (stays, back, rest, z, run_is (get_or flags i 0) (get_or xs q 0))
      (glue (eqb (get_or flags i 0) 0) (get_or xs q 0 ∷ []) (part xs (q + 1) (q + 1 + k)) (chosen flags (i + 1) (drop (q + 1 + k) s) (drop (q + 1 + k) xs))
      ∙ rw (one-part xs q (q + 1 + k) (omega arith) (omega arith)))

  pub char-chosen : (q i : ℕ) → well_formed s ≡ true → boundary s q ≡ true → q < length s
      → chosen flags i (drop q s) (drop q xs) ≡ cond (eqb (get_or flags i 0) 0) [] (part xs q (q + announced (get_or s q 0))) ++ chosen flags (i + 1) (drop (q + announced (get_or s q 0)) s) (drop (q + announced (get_or s q 0)) xs)
  char-chosen q i formed here h =
      let w : ℕ = announced (get_or s q 0) in
      let char = char-at s q formed here h in
      let new : lead_at (get_or s q 0) ≡ 1 = lead-one (get_or s q 0) (boundary-begins s q here) in
      let back : i + 1 - 1 ≡ i = omega arith in
      let z : q + 1 + (w - 1) ≡ q + w = omega (arith, char.positive) in
      let rest = rw z at (rest-run (w - 1) (q + 1) i (omega (arith, char.inside, char.positive)) (λ j a b. char.rest j (omega arith) (omega (arith, char.positive)))) in
      chosen-step flags i s xs q same h
      ∙ rw (new, back, rest, run_is (get_or flags i 0) (get_or xs q 0))
      (glue (eqb (get_or flags i 0) 0) (get_or xs q 0 ∷ []) (part xs (q + 1) (q + w)) (chosen flags (i + 1) (drop (q + w) s) (drop (q + w) xs))
      ∙ rw (one-part xs q (q + w) (omega arith) (omega (arith, char.positive))))
