-- A note that is built of stretches of a sound one: each can stand between the alignment before one place and that before another, and what is
-- built of stretches is aligned. Slices, pieces, replacements and edits are built so.
use Prim.Native.Nat.{ℕ, zero, suc, ◌+◌, ◌-◌, ◌≤◌, ◌<◌}
use mathlib.Core.Path.{◌≡◌, ◌∙◌, refl, sym}
use mathlib.Core.Bool.{true, false}
use mathlib.Core.List.{List, [], ◌++◌}
use native.Mathlib.Omega.{arith}
use lib.ListN.{length, get_or, replicate, length-append, length-replicate, get_or-replicate, get_or-append}
use lib.Seq.{get_or-append-add}
use Rattle.buffers.specs.Splice.{part}
use Rattle.buffers.proofs.Cases.{le-or-lt, clash}
use Rattle.buffers.proofs.Splice.{length_part, part-index}
use Rattle.utf8.specs.Formed.{well_formed, formed, continues, boundary}
use Rattle.utf8.proofs.Boundaries.{boundary-zero, boundary-begins, formed-part}
use Rattle.utf8.proofs.Formed.{formed-append}
use Rattle.note.specs.Notes.{Note, start_at, end_at, before_end, aligned, lent, Sound}
use Rattle.note.proofs.BeforeEnd.{before-none, before-some}
use Rattle.note.proofs.Sound.{length-starts, length-ends, original_formed, normalized-formed, inside-at, boundaries-at, shared_at, forward-at, aligned-from}

-- an alignment that can stand between those before lo and before hi
pub record Fit (n : Note) (lo hi x y : ℕ) : Type 0 where
  pub in_order : x ≤ y
  pub most : y ≤ length n.original
  pub start_stands : boundary n.original x ≡ true
  pub end_stands : boundary n.original y ≡ true
  pub low_start : before_end n.starts lo ≤ x
  pub low_end : before_end n.ends lo ≤ y
  pub high_start : x ≤ before_end n.starts hi
  pub high_end : y ≤ before_end n.ends hi

-- an alignment, and the next one, of the byte t
pub record Follow (t x y x₁ y₁ : ℕ) : Type 0 where
  pub shares : continues t ≡ true → (x ≡ x₁) × (y ≡ y₁)
  pub start_on : x ≤ x₁
  pub end_on : y ≤ y₁

pub record Stretch (n : Note) (lo hi : ℕ) (t xs ys : List ℕ) : Type 0 where
  pub is_formed : well_formed t ≡ true
  pub one_start : length xs ≡ length t
  pub one_end : length ys ≡ length t
  pub each : (i : ℕ) → i < length t → Fit n lo hi (get_or xs i 0) (get_or ys i 0)
  pub next : (i : ℕ) → suc i < length t → Follow (get_or t (suc i) 0) (get_or xs i 0) (get_or ys i 0) (get_or xs (suc i) 0) (get_or ys (suc i) 0)

-- a well-formed text does not begin with a byte that continues a character
first-begins : (t : List ℕ) → well_formed t ≡ true → continues (get_or t 0 0) ≡ false
first-begins t p = boundary-begins t 0 (boundary-zero t p)

-- elements of two runs in one
front : (s t : List ℕ) (i : ℕ) → i < length s → get_or (s ++ t) i 0 ≡ get_or s i 0
front s t i h = get_or-append s t 0 i h

back : (s t : List ℕ) (m i : ℕ) → length s ≡ m → m ≤ i → get_or (s ++ t) i 0 ≡ get_or t (i - m) 0
back s t m i is h =
    let at : length s + (i - m) ≡ i = omega arith in
    rw at at (get_or-append-add s t (i - m) 0)

module _ (n : Note) (lo mid hi : ℕ) (t xs ys u vs ws : List ℕ) (a : Stretch n lo mid t xs ys) (b : Stretch n mid hi u vs ws)
    (ls : before_end n.starts lo ≤ before_end n.starts mid) (le : before_end n.ends lo ≤ before_end n.ends mid)
    (hs : before_end n.starts mid ≤ before_end n.starts hi) (he : before_end n.ends mid ≤ before_end n.ends hi) where
  each-joined : (i : ℕ) → i < length (t ++ u) → Fit n lo hi (get_or (xs ++ vs) i 0) (get_or (ys ++ ws) i 0)
  each-joined i h =
      let long : length (t ++ u) ≡ length t + length u = length-append t u in
      le-or-lt (length t) i
      (λ far.
      let f : Fit n mid hi (get_or vs (i - length t) 0) (get_or ws (i - length t) 0) = b.each (i - length t) (omega arith) in
      rw (back xs vs (length t) i a.one_start far, back ys ws (length t) i a.one_end far)
      (record {
        in_order = f.in_order;
        most = f.most;
        start_stands = f.start_stands;
        end_stands = f.end_stands;
        low_start = omega arith;
        low_end = omega arith;
        high_start = f.high_start;
        high_end = f.high_end;
      }))
      (λ near.
      let f : Fit n lo mid (get_or xs i 0) (get_or ys i 0) = a.each i near in
      rw (front xs vs i (omega (arith, a.one_start)), front ys ws i (omega (arith, a.one_end)))
      (record {
        in_order = f.in_order;
        most = f.most;
        start_stands = f.start_stands;
        end_stands = f.end_stands;
        low_start = f.low_start;
        low_end = f.low_end;
        high_start = omega arith;
        high_end = omega arith;
      }))

  next-joined : (i : ℕ) → suc i < length (t ++ u) → Follow (get_or (t ++ u) (suc i) 0) (get_or (xs ++ vs) i 0) (get_or (ys ++ ws) i 0) (get_or (xs ++ vs) (suc i) 0) (get_or (ys ++ ws) (suc i) 0)
  next-joined i h =
      let long : length (t ++ u) ≡ length t + length u = length-append t u in
      le-or-lt (length t) i
      (λ far.
      let j : suc i - length t ≡ suc (i - length t) = omega arith in
      rw (
        back t u (length t) (suc i) refl (omega arith),
        back xs vs (length t) i a.one_start far,
        back ys ws (length t) i a.one_end far,
        back xs vs (length t) (suc i) a.one_start (omega arith),
        back ys ws (length t) (suc i) a.one_end (omega arith),
        j,
      )
      (b.next (i - length t) (omega arith)))
      (λ near. le-or-lt (length t) (suc i)
      (λ seam.
      let z : suc i - length t ≡ 0 = omega arith in
      let f : Fit n lo mid (get_or xs i 0) (get_or ys i 0) = a.each i near in
      let g : Fit n mid hi (get_or vs 0 0) (get_or ws 0 0) = b.each 0 (omega arith) in
      rw (
        back t u (length t) (suc i) refl seam,
        front xs vs i (omega (arith, a.one_start)),
        front ys ws i (omega (arith, a.one_end)),
        back xs vs (length t) (suc i) a.one_start seam,
        back ys ws (length t) (suc i) a.one_end seam,
        z,
      )
      (record { shares = λ c. clash (continues (get_or u 0 0)) c (first-begins u b.is_formed); start_on = omega arith; end_on = omega arith }))
      (λ here.
      rw (
        front t u (suc i) here,
        front xs vs i (omega (arith, a.one_start)),
        front ys ws i (omega (arith, a.one_end)),
        front xs vs (suc i) (omega (arith, a.one_start)),
        front ys ws (suc i) (omega (arith, a.one_end)),
      )
      (a.next i here)))

  pub joined : Stretch n lo hi (t ++ u) (xs ++ vs) (ys ++ ws)
  joined =
      record {
        is_formed = formed-append [] t u a.is_formed b.is_formed;
        one_start = simp length-append (omega (arith, a.one_start, b.one_start));
        one_end = simp length-append (omega (arith, a.one_end, b.one_end));
        each = each-joined;
        next = next-joined;
      }

-- the stretches that a sound note gives: what a new text carries, and a part of its own
module _ (n : Note) (sound : Sound n) where
  pub before-le : (a b : ℕ) → a ≤ b → b ≤ length n.normalized → (before_end n.starts a ≤ before_end n.starts b) × (before_end n.ends a ≤ before_end n.ends b)
  unfolding before_end
  before-le zero b h most = (omega arith, omega arith)
  before-le (suc a) zero h most = absurd (omega arith)
  before-le (suc a) (suc b) h most =
      le-or-lt b a
      (λ top. let is : a ≡ b = omega arith in rw is (omega arith, omega arith))
      (λ below.
      let so_far : (before_end n.starts (suc a) ≤ before_end n.starts b) × (before_end n.ends (suc a) ≤ before_end n.ends b) = before-le (suc a) b below (omega arith) in
      let k : suc (b - 1) ≡ b = omega arith in
      let on : (start_at n (b - 1) ≤ start_at n b) × (end_at n (b - 1) ≤ end_at n b) = rw k at (forward-at n sound (b - 1) (omega arith)) in
      let last : suc b - 1 ≡ b = omega arith in
      rw (before-some n.starts (suc b) (omega arith), before-some n.ends (suc b) (omega arith), last)
      (omega (arith, so_far.0, on.0, before-some n.starts b (omega arith)), omega (arith, so_far.1, on.1, before-some n.ends b (omega arith))))

  -- the alignment before a place's end, as the filler carries it
  before-fit : (lo e : ℕ) → lo ≤ e → e ≤ length n.normalized → Fit n lo e (before_end n.starts e) (before_end n.ends e)
  before-fit lo e h most =
      let low : (before_end n.starts lo ≤ before_end n.starts e) × (before_end n.ends lo ≤ before_end n.ends e) = before-le lo e h most in
      le-or-lt e 0
      (λ zero-end.
      let z : e ≡ 0 = omega arith in
      let s : before_end n.starts e ≡ 0 = before-none n.starts e z in
      let t : before_end n.ends e ≡ 0 = before-none n.ends e z in
      record {
        in_order = omega arith;
        most = omega arith;
        start_stands = rw s (boundary-zero n.original (original_formed n sound));
        end_stands = rw t (boundary-zero n.original (original_formed n sound));
        low_start = low.0;
        low_end = low.1;
        high_start = omega arith;
        high_end = omega arith;
      })
      (λ some.
      let s : before_end n.starts e ≡ start_at n (e - 1) = before-some n.starts e some in
      let t : before_end n.ends e ≡ end_at n (e - 1) = before-some n.ends e some in
      record {
        in_order = omega (arith, (inside-at n sound (e - 1) (omega arith)).0);
        most = omega (arith, (inside-at n sound (e - 1) (omega arith)).1);
        start_stands = rw s (boundaries-at n sound (e - 1) (omega arith)).0;
        end_stands = rw t (boundaries-at n sound (e - 1) (omega arith)).1;
        low_start = low.0;
        low_end = low.1;
        high_start = omega arith;
        high_end = omega arith;
      })

  pub carried-stretch : (text : List ℕ) (lo e : ℕ) → well_formed text ≡ true → lo ≤ e → e ≤ length n.normalized → Stretch n lo e text (replicate (length text) (before_end n.starts e)) (replicate (length text) (before_end n.ends e))
  carried-stretch text lo e p h most =
      let w : ℕ = length text in
      let x : ℕ = before_end n.starts e in
      let y : ℕ = before_end n.ends e in
      record {
        is_formed = p;
        one_start = length-replicate w x;
        one_end = length-replicate w y;
        each = λ i k. rw (get_or-replicate w i x 0 k, get_or-replicate w i y 0 k) (before-fit lo e h most);
        next = λ i k.
            let k₀ : i < w = omega arith in
            rw (get_or-replicate w i x 0 k₀, get_or-replicate w i y 0 k₀, get_or-replicate w (suc i) x 0 k, get_or-replicate w (suc i) y 0 k)
            (record { shares = λ c. (refl, refl); start_on = omega arith; end_on = omega arith });
      }

  byte-fit : (lo e k : ℕ) → lo ≤ k → k < e → e ≤ length n.normalized → Fit n lo e (start_at n k) (end_at n k)
  byte-fit lo e k h below most =
      let last : suc k - 1 ≡ k = omega arith in
      let s : before_end n.starts (suc k) ≡ start_at n k = rw last at (before-some n.starts (suc k) (omega arith)) in
      let t : before_end n.ends (suc k) ≡ end_at n k = rw last at (before-some n.ends (suc k) (omega arith)) in
      record {
        in_order = (inside-at n sound k (omega arith)).0;
        most = (inside-at n sound k (omega arith)).1;
        start_stands = (boundaries-at n sound k (omega arith)).0;
        end_stands = (boundaries-at n sound k (omega arith)).1;
        low_start = omega (arith, (before-le lo (suc k) (omega arith) (omega arith)).0);
        low_end = omega (arith, (before-le lo (suc k) (omega arith) (omega arith)).1);
        high_start = omega (arith, (before-le (suc k) e (omega arith) most).0);
        high_end = omega (arith, (before-le (suc k) e (omega arith) most).1);
      }

  pub kept-stretch : (s e : ℕ) → s ≤ e → boundary n.normalized s ≡ true → boundary n.normalized e ≡ true → e ≤ length n.normalized → Stretch n s e (part n.normalized s e) (part n.starts s e) (part n.ends s e)
  kept-stretch s e h bs be most =
      let size : length (part n.normalized s e) ≡ e - s = length_part n.normalized s e most in
      let ls : length (part n.starts s e) ≡ e - s = length_part n.starts s e (omega (arith, length-starts n sound)) in
      let le : length (part n.ends s e) ≡ e - s = length_part n.ends s e (omega (arith, length-ends n sound)) in
      record {
        is_formed = formed-part n.normalized s e (normalized-formed n sound) bs be h;
        one_start = ls ∙ sym size;
        one_end = le ∙ sym size;
        each = λ i k.
            rw (part-index n.starts s e i (omega arith), part-index n.ends s e i (omega arith)) (byte-fit s e (s + i) (omega arith) (omega arith) most);
        next = λ i k.
            let j : s + suc i ≡ suc (s + i) = omega arith in
            let on : (start_at n (s + i) ≤ start_at n (suc (s + i))) × (end_at n (s + i) ≤ end_at n (suc (s + i))) = forward-at n sound (s + i) (omega arith) in
            rw (
              part-index n.normalized s e (suc i) (omega arith),
              part-index n.starts s e i (omega arith),
              part-index n.ends s e i (omega arith),
              part-index n.starts s e (suc i) (omega arith),
              part-index n.ends s e (suc i) (omega arith),
              j,
            )
            (record { shares = λ c. shared_at n sound (s + i) (omega arith) c; start_on = on.0; end_on = on.1 });
      }

-- no stretch at all
pub empty-stretch : (n : Note) (lo hi : ℕ) → Stretch n lo hi [] [] []
unfolding formed
empty-stretch n lo hi =
    record { is_formed = refl; one_start = refl; one_end = refl; each = λ i h. absurd (omega arith); next = λ i h. absurd (omega arith) }

-- a note of one transcript and such a stretch is aligned
pub stretch-aligned : (n : Note) (lo hi : ℕ) (t xs ys : List ℕ) (shift : ℕ) → Stretch n lo hi t xs ys → aligned (lent n.original t xs ys shift) ≡ true
stretch-aligned n lo hi t xs ys shift s =
    aligned-from (lent n.original t xs ys shift)
    (record {
      in_order = λ i h. (s.each i h).in_order;
      most = λ i h. (s.each i h).most;
      start_stands = λ i h. (s.each i h).start_stands;
      end_stands = λ i h. (s.each i h).end_stands;
      shares = λ i h. (s.next i h).shares;
      starts_on = λ i h. (s.next i h).start_on;
      ends_on = λ i h. (s.next i h).end_on;
    })
