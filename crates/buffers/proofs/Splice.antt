-- Laws of `part`, `splice` and `overlay`: lengths, elements, one run after another; and a buffer that is being written,
-- element by element (`Written`) or piece by piece (`Laying`): none yet, one more, all of it.
use Prim.Native.Nat.{ℕ, zero, suc, ◌+◌, ◌-◌, ◌≤◌, ◌<◌}
use mathlib.Core.Path.{◌≡◌, ◌∙◌, ap, refl, sym}
use mathlib.Core.List.{List, [], ◌∷◌, ◌++◌, append_assoc, append-nil}
use native.Mathlib.Numerals.{add-one}
use native.Mathlib.Omega.{arith}
use lib.ListN.{length, get_or, set, take, drop, replicate, length-append, length-take, length-drop, length-set, length-replicate, get_or-replicate, take-append-drop, drop_of_length-le, get_or-append}
use lib.Seq.{take_at, drop_at, drop-drop, drop-cons, length-take-le, take-length, get_or-take, get_or-drop, ext_get_or, set_split, take-set-le, take-take, take-add, set_at, take-append_seam, drop-append_seam, take_all, paste, paste-zero, paste-suc}
use borrow.Rule.Slice.PartMut.{put_mid, Post-is}
use Rattle.buffers.specs.Splice.{part, splice, overlay, Laid}

-- lists in two pieces, and one value many times
pub append-cut : {A : Type 0} (a b c d : List A) → length a ≡ length b → a ++ c ≡ b ++ d → (a ≡ b) × (c ≡ d)
append-cut a b c d l e = (
  sym (take_at a c (length a) refl) ∙ ap (take (length a)) e ∙ take_at b d (length a) (sym l),
  sym (drop_at a c (length a) refl) ∙ ap (drop (length a)) e ∙ drop_at b d (length a) (sym l),
)

pub replicate-same : (k a b : ℕ) → (0 < k → a ≡ b) → replicate k a ≡ replicate k b
replicate-same zero a b h = refl
replicate-same (suc k) a b h = ap (replicate (suc k)) (h (omega arith))

pub replicate-front : {A : Type 0} (n m : ℕ) (v : A) → n ≤ m → take n (replicate m v) ≡ replicate n v
replicate-front zero m v h = refl
replicate-front (suc n) zero v h = absurd (omega arith)
replicate-front (suc n) (suc m) v h = ap (◌∷◌ v) (replicate-front n m v (omega arith))

pub replicate-value : (k a b : ℕ) → 0 < k → replicate k a ≡ replicate k b → a ≡ b
replicate-value zero a b h e = absurd (omega arith)
replicate-value (suc k) a b h e = ap (λ (l : List ℕ). get_or l 0 0) e

-- parts: by an index of the part, and by one of the list
pub length_part : {A : Type 0} (xs : List A) (s e : ℕ) → e ≤ length xs → length (part xs s e) ≡ e - s
length_part xs s e h = simp (length-take, length-drop) (omega arith)

pub part-index : (xs : List ℕ) (s e i : ℕ) → i < e - s → get_or (part xs s e) i 0 ≡ get_or xs (s + i) 0
part-index xs s e i h = get_or-take (e - s) (drop s xs) i 0 h ∙ get_or-drop s xs i 0

pub part_at : (xs : List ℕ) (s e p : ℕ) → s ≤ p → p < e → get_or (part xs s e) (p - s) 0 ≡ get_or xs p 0
part_at xs s e p h k =
    let z : s + (p - s) ≡ p = omega arith in
    part-index xs s e (p - s) (omega arith) ∙ ap (λ (i : ℕ). get_or xs i 0) z

pub part_same : (xs ys : List ℕ) (s e : ℕ) → e ≤ length xs → e ≤ length ys → ((p : ℕ) → s ≤ p → p < e → get_or xs p 0 ≡ get_or ys p 0) → part xs s e ≡ part ys s e
part_same xs ys s e hx hy same =
    ext_get_or 0 (part xs s e) (part ys s e) (length_part xs s e hx ∙ sym (length_part ys s e hy))
    (λ i h.
    let below : i < e - s = omega (arith, length_part xs s e hx) in
    part-index xs s e i below ∙ same (s + i) (omega arith) (omega arith) ∙ sym (part-index ys s e i below))

pub part-append : {A : Type 0} (xs : List A) (a b c : ℕ) → a ≤ b → b ≤ c → part xs a b ++ part xs b c ≡ part xs a c
part-append xs a b c h k =
    let all : (b - a) + (c - b) ≡ c - a = omega arith in
    let on : a + (b - a) ≡ b = omega arith in
    sym (rw (all, drop-drop (b - a) a xs, on) at (take-add (b - a) (c - b) (drop a xs)))

pub part-front : {A : Type 0} (xs : List A) (a b c : ℕ) → b ≤ c → take (b - a) (part xs a c) ≡ part xs a b
part-front xs a b c h = take-take (b - a) (c - a) (drop a xs) (omega arith)

pub part_end : {A : Type 0} (xs : List A) (s : ℕ) → part xs s (length xs) ≡ drop s xs
part_end xs s = rw (← length-drop s xs) (take-length (drop s xs))

-- a run in its place
pub length-splice : {A : Type 0} (d : List A) (at : ℕ) (r : List A) → at + length r ≤ length d → length (splice d at r) ≡ length d
unfolding splice
length-splice d at r h = simp (length-append, length-take, length-drop) (omega arith)

pub length_front : {A : Type 0} (d r : List A) (at : ℕ) → at ≤ length d → length (take at d ++ r) ≡ at + length r
length_front d r at h = length-append (take at d) r ∙ rw (length-take-le at d h)

-- a part that is written through `&mut d[at..end]`
pub splice-part : {A : Type 0} (d r : List A) (at : ℕ) {end : ℕ} {p : List A} → end ≡ at + length r → p ≡ r → put_mid at (end - at) d p ≡ splice d at r
unfolding splice
splice-part d r at reach is =
    rw (reach, is, Post-is at (at + length r) d (omega arith)) (sym (append_assoc (take at d) r (drop (at + length r) d)))

pub splice-nil : {A : Type 0} (d : List A) (at : ℕ) → splice d at [] ≡ d
unfolding splice
splice-nil d at = let z : at + 0 ≡ at = omega arith in rw (z, append-nil (take at d)) (take-append-drop at d)

pub splice-splice : {A : Type 0} (d p q : List A) (at : ℕ) → at ≤ length d → splice (splice d at p) (at + length p) q ≡ splice d at (p ++ q)
unfolding splice
splice-splice d p q at h =
    let front = length_front d p at h in
    let far : at + length (p ++ q) ≡ at + length p + length q = omega (arith, length-append p q) in
    rw (
      far,
      take_at (take at d ++ p) (drop (at + length p) d) (at + length p) front,
      ← drop-drop (length q) (at + length p) (take at d ++ p ++ drop (at + length p) d),
      drop_at (take at d ++ p) (drop (at + length p) d) (at + length p) front,
      drop-drop (length q) (at + length p) d,
      append_assoc (take at d) p q,
    )

-- a run with one element more, which is stored where the run ends: before the run is laid, and after
splice-snoc : (d p : List ℕ) (at b : ℕ) → splice d at (p ++ (b ∷ [])) ≡ take at d ++ p ++ (b ∷ drop (suc (at + length p)) d)
unfolding splice
splice-snoc d p at b =
    let more : at + length (p ++ (b ∷ [])) ≡ suc (at + length p) = omega (arith, length-append p (b ∷ [])) in
    rw (more, ← append_assoc (take at d) p (b ∷ [])) (append_assoc (take at d ++ p) (b ∷ []) _)

pub store-before : (d p : List ℕ) (at b : ℕ) → at + length p < length d → splice (set d (at + length p) b) at p ≡ splice d at (p ++ (b ∷ []))
unfolding splice
store-before d p at b h =
    rw (splice-snoc d p at b, take-set-le at d (at + length p) b (omega arith), set_split d (at + length p) b h)
    (ap (◌++◌ (take at d ++ p)) (drop_at (take (at + length p) d) _ (at + length p) (length-take-le (at + length p) d (omega arith))))

pub store-after : (d p : List ℕ) (at b : ℕ) → at + length p < length d → set (splice d at p) (at + length p) b ≡ splice d at (p ++ (b ∷ []))
unfolding splice
store-after d p at b h =
    rw (splice-snoc d p at b, drop-cons d (at + length p) 0 h)
    (set_at (take at d ++ p) _ _ b (at + length p) (length_front d p at (omega arith)))

-- one element stored
pub store-one : (d : List ℕ) (at x : ℕ) → at < length d → set d at x ≡ splice d at (x ∷ [])
store-one d at x h =
    let z : at + 0 ≡ at = omega arith in
    (rw (splice-nil d at, z) at (store-after d [] at x (omega arith)))

-- a run in front
pub splice-overlay : {A : Type 0} (d r : List A) → splice d 0 r ≡ overlay r d
unfolding splice overlay
splice-overlay d r = let z : 0 + length r ≡ length r = omega arith in rw z

pub splice-whole : {A : Type 0} (d r : List A) → length r ≡ length d → splice d 0 r ≡ r
unfolding overlay
splice-whole d r e = splice-overlay d r ∙ rw (drop_of_length-le d {i = length r} (omega arith)) (append-nil r)

pub take-overlay : {A : Type 0} (r d : List A) → take (length r) (overlay r d) ≡ r
unfolding overlay
take-overlay r d = take-append_seam r (drop (length r) d)

pub getD-overlay : (r d : List ℕ) (k : ℕ) → k < length r → get_or (overlay r d) k 0 ≡ get_or r k 0
unfolding overlay
getD-overlay r d k h = get_or-append r (drop (length r) d) 0 k h

pub length-overlay : {A : Type 0} (r d : List A) → length r ≤ length d → length (overlay r d) ≡ length d
unfolding overlay
length-overlay r d h = simp (length-append, length-drop) (omega arith)

pub overlay-long : {A : Type 0} (r d : List A) → length r ≤ length (overlay r d)
unfolding overlay
overlay-long r d = simp length-append (omega arith)

pub overlay-overlay : {A : Type 0} (r p d : List A) → length r ≡ length p → overlay r (overlay p d) ≡ overlay r d
unfolding overlay
overlay-overlay r p d e = rw e (ap (◌++◌ r) (drop-append_seam p (drop (length p) d)))

-- a run that is laid, and one after it
pub laid-length : {A : Type 0} {r d₀ d : List A} {at end : ℕ} → Laid r d₀ at end d → at + length r ≤ length d₀ → length d ≡ length d₀
laid-length {r = r} {d₀ = d₀} {at = at} l h = ap length l.holds ∙ length-splice d₀ at r h

pub laid-after : {A : Type 0} {p q d₀ d₁ d₂ : List A} {at mid end : ℕ} → Laid p d₀ at mid d₁ → Laid q d₁ mid end d₂ → at ≤ length d₀ → Laid (p ++ q) d₀ at end d₂
laid-after {p = p} {q = q} {d₀ = d₀} {at = at} l m h =
    record {
      reach = omega (arith, l.reach, m.reach, length-append p q);
      holds = m.holds ∙ rw (l.holds, l.reach) (splice-splice d₀ p q at h);
    }

-- j elements of s stand in d₀ from `at` on, and this is d
pub record Written (s d₀ : List ℕ) (at : ℕ) (d : List ℕ) (j : ℕ) : Type 0 where
  pub now_is : d ≡ paste d₀ at s j
  pub same : length d ≡ length d₀
  pub most : j ≤ length s

pub none_yet : {s d : List ℕ} {at : ℕ} → Written s d at d 0
none_yet {s = s} {d = d} {at = at} = record { now_is = paste-zero d at s; same = refl; most = omega arith }

pub one_more : {s d₀ d : List ℕ} {at j x : ℕ} → Written s d₀ at d j → at + length s ≤ length d₀ → j < length s → x ≡ get_or s j 0 → Written s d₀ at (set d (at + j) x) (j + 1)
one_more {s = s} {d₀ = d₀} {at = at} {j = j} w room more is =
    record {
      now_is = rw (w.now_is, is, add-one j) (paste-suc d₀ at s j 0 (omega arith) more);
      same = simp length-set w.same;
      most = omega arith;
    }

pub all-written : {s d₀ d : List ℕ} {at j : ℕ} → Written s d₀ at d j → length s ≤ j → d ≡ splice d₀ at s
unfolding splice
all-written {s = s} {j = j} w done =
    let full : j ≡ length s = omega (arith, w.most) in
    w.now_is ∙ rw (full, take-length s)

-- a run of one value, n times
pub one_same : (n v : ℕ) {d₀ d : List ℕ} {at j : ℕ} → Written (replicate n v) d₀ at d j → at + n ≤ length d₀ → j < n → Written (replicate n v) d₀ at (set d (at + j) v) (j + 1)
one_same n v {j = j} w room more =
    one_more w (simp length-replicate room) (simp length-replicate more) (sym (get_or-replicate n j v 0 more))

pub all_same : (n v : ℕ) {d₀ d : List ℕ} {at j : ℕ} → Written (replicate n v) d₀ at d j → n ≤ j → d ≡ splice d₀ at (replicate n v)
all_same n v w done = all-written w (simp length-replicate done)

-- one value at each index
pub each_same : {A : Type 0} (xs : List A) (i : ℕ) (v : A) → take i xs ≡ replicate i v → (n : ℕ) → length xs ≡ n → n ≤ i → xs ≡ replicate n v
each_same xs i v so_far n long done =
    let whole : xs ≡ replicate i v = sym (take_all i xs (omega arith)) ∙ so_far in
    let reach : i ≡ n = sym (length-replicate i v) ∙ sym (ap length whole) ∙ long in
    rw reach at whole

-- of `whole`, all but `rest` is in d up to `at`; from there on d is d₀
pub record Laying {A : Type 0} (whole rest d₀ : List A) (at : ℕ) (d : List A) : Type 0 where
  pub so_far : take at d ++ rest ≡ whole
  pub beyond : drop at d ≡ drop at d₀
  pub room : at + length rest ≤ length d
  pub same : length d ≡ length d₀

pub none-laid : {A : Type 0} (whole d₀ : List A) → length whole ≤ length d₀ → Laying whole whole d₀ 0 d₀
none-laid whole d₀ h = record { so_far = refl; beyond = refl; room = omega arith; same = refl }

pub piece-laid : {A : Type 0} (whole piece rest d₀ : List A) (at : ℕ) (d : List A) → Laying whole (piece ++ rest) d₀ at d → (at₁ : ℕ) (d₁ : List A) → at₁ ≡ at + length piece → d₁ ≡ splice d at piece → Laying whole rest d₀ at₁ d₁
unfolding splice
piece-laid whole piece rest d₀ at d l at₁ d₁ here is =
    let long : at + (length piece + length rest) ≤ length d = rw length-append at l.room in
    let front = length_front d piece at (omega arith) in
    let all : length d₁ ≡ length d = ap length is ∙ length-splice d at piece (omega arith) in
    record {
      so_far = rw (is, here, take_at (take at d ++ piece) (drop (at + length piece) d) (at + length piece) front)
          (append_assoc (take at d) piece rest ∙ l.so_far);
      beyond = rw (is, here, drop_at (take at d ++ piece) (drop (at + length piece) d) (at + length piece) front)
          (sym (drop-drop (length piece) at d) ∙ ap (drop (length piece)) l.beyond ∙ drop-drop (length piece) at d₀);
      room = omega arith;
      same = all ∙ l.same;
    }

pub laying-size : {A : Type 0} (whole rest d₀ : List A) (at : ℕ) (d : List A) → Laying whole rest d₀ at d → at + length rest ≡ length whole
laying-size whole rest d₀ at d l =
    sym (length_front d rest at (omega (arith, l.room))) ∙ ap length l.so_far

-- an element of what is not written yet
pub unwritten : {whole rest d₀ : List ℕ} {k : ℕ} {d : List ℕ} → Laying whole rest d₀ k d → get_or d k 0 ≡ get_or d₀ k 0
unwritten {d₀ = d₀} {k = k} {d = d} l =
    let here : k + 0 ≡ k = omega arith in
    ap (λ (i : ℕ). get_or d i 0) (sym here) ∙ sym (get_or-drop k d 0 0) ∙ ap (λ (xs : List ℕ). get_or xs 0 0) l.beyond ∙ get_or-drop k d₀ 0 0 ∙ ap (λ (i : ℕ). get_or d₀ i 0) here

pub all_laid : {A : Type 0} (whole d₀ : List A) (at : ℕ) (d : List A) → Laying whole [] d₀ at d → d ≡ overlay whole d₀
unfolding overlay
all_laid whole d₀ at d l =
    let is : take at d ≡ whole = sym (append-nil (take at d)) ∙ l.so_far in
    let end : length whole ≡ at = sym (ap length is) ∙ length-take-le at d (omega (arith, l.room)) in
    sym (take-append-drop at d) ∙ rw (is, l.beyond, end)
