-- Laws of `Over`: a run laid exactly, or as the front of a longer one; a block more; and a result that is laid run by run
-- (`Reaching`): none yet, one more, all of it.
use Prim.Native.Nat.{ℕ, ◌+◌, ◌*◌, ◌-◌, ◌≤◌, ◌<◌}
use mathlib.Core.Path.{◌≡◌, ◌∙◌, ap, refl, sym}
use mathlib.Core.List.{List, [], ◌++◌, append_assoc, append-nil}
use native.Mathlib.Omega.{arith}
use lib.ListN.{length, take, drop, replicate, length-append, length-replicate, take-append-drop}
use lib.Seq.{take_at, drop_at, drop-drop, take-take, take-append-add, length-take-le}
use Rattle.buffers.specs.Splice.{part, splice, overlay}
use Rattle.buffers.specs.Over.{Over, Source, Reaching}
use Rattle.buffers.proofs.Splice.{length-splice, length_part, length_front, part-append, part-front, replicate-front, splice-whole}

-- what a splice has after its run
drop-splice : {A : Type 0} (d r : List A) (at k : ℕ) → at ≤ length d → at + length r ≤ k → drop k (splice d at r) ≡ drop k d
unfolding splice
drop-splice d r at k h far =
    let front = length_front d r at h in
    let on : (at + length r) + (k - (at + length r)) ≡ k = omega arith in
    rw (
      ← on,
      ← drop-drop (k - (at + length r)) (at + length r) (take at d ++ r ++ drop (at + length r) d),
      drop_at (take at d ++ r) (drop (at + length r) d) (at + length r) front,
    )
    (drop-drop (k - (at + length r)) (at + length r) d)

-- a run laid exactly
pub over-exact : {A : Type 0} (r d : List A) (at until : ℕ) {d₁ : List A} → at + length r ≤ length d → d₁ ≡ splice d at r → Over r d at until d₁
unfolding splice
over-exact r d at until room is =
    record {
      front = rw is (take_at (take at d ++ r) (drop (at + length r) d) (at + length r) (length_front d r at (omega arith)));
      beyond = λ k far past. rw is (drop-splice d r at k (omega arith) far);
      same = ap length is ∙ length-splice d at r room;
    }

-- one run after another; and the front of a longer run
pub over-after : {A : Type 0} {p q d₀ d₁ d₂ : List A} {at until : ℕ} → Over p d₀ at until d₁ → Over q d₁ (at + length p) until d₂ → Over (p ++ q) d₀ at until d₂
over-after {p = p} {q = q} {d₀ = d₀} {at = at} o l =
    let far : at + length (p ++ q) ≡ at + length p + length q = omega (arith, length-append p q) in
    record {
      front = rw far (l.front ∙ rw o.front (append_assoc (take at d₀) p q));
      beyond = λ k past below. l.beyond k (omega arith) below ∙ o.beyond k (omega arith) below;
      same = l.same ∙ o.same;
    }

pub over-front : {A : Type 0} (n : ℕ) {r d₀ d : List A} {at until : ℕ} → Over r d₀ at until d → n ≤ length r → at ≤ length d₀ → at + length r ≤ until → Over (take n r) d₀ at until d
over-front n {r = r} {d₀ = d₀} {d = d} {at = at} o few room below =
    let long : length (take n r) ≡ n = length-take-le n r few in
    let start : length (take at d₀) ≡ at = length-take-le at d₀ room in
    record {
      front = rw long (sym (take-take (at + n) (at + length r) d (omega arith)) ∙ rw o.front (rw start at (take-append-add (take at d₀) r n)));
      beyond = λ k past far. o.beyond k (omega arith) far;
      same = o.same;
    }

pub over-same : {A : Type 0} (n m : ℕ) (v : A) {d₀ d : List A} (at until : ℕ) → n ≤ m → at + m ≤ until → until ≤ length d₀ → d ≡ splice d₀ at (replicate m v) → Over (replicate n v) d₀ at until d
over-same n m v {d₀} {d} at until few below room is =
    let long : length (replicate m v) ≡ m = length-replicate m v in
    rw (replicate-front n m v few) at
    (over-front n (over-exact (replicate m v) d₀ at until (omega arith) is) (omega arith) (omega arith) (omega arith))

-- a block through a local array
pub through : {A : Type 0} (r d : List A) (at : ℕ) (b₀ : List A) {b d₁ : List A} → length r ≡ length b₀ → b ≡ splice b₀ 0 r → d₁ ≡ splice d at b → d₁ ≡ splice d at r
through r d at b₀ long local is = is ∙ ap (splice d at) (local ∙ splice-whole b₀ r long)

-- a run of a source, laid exactly
pub source-exact : {A : Type 0} {src : List A} {from to : ℕ} {d : List A} {at until : ℕ} → Source src from to d at until → {d₁ : List A} → d₁ ≡ splice d at (part src from to) → Over (part src from to) d at until d₁
source-exact {src} {from} {to} {d} {at} {until} s is =
    over-exact (part src from to) d at until (omega (arith, s.room, length_part src from to s.inside)) is

-- of a run of src, from `from` up to `to`, as much is in d as k blocks have laid
pub record Blocks {A : Type 0} (src : List A) (from to : ℕ) (d₀ : List A) (at until : ℕ) (d : List A) (k : ℕ) : Type 0 where
  pub most : 64 * k < to - from + 64
  pub laid : Over (part src from (from + 64 * k)) d₀ at until d

module _ {A : Type 0} {src : List A} {from to : ℕ} {d₀ : List A} {at until : ℕ} {d : List A} {k : ℕ} (b : Blocks src from to d₀ at until d k) (onward : from ≤ to) (in_src : to + 64 ≤ length src) (below : at + (to - from) + 64 ≤ until) (room : until ≤ length d₀) where
  so_far : length (part src from (from + 64 * k)) ≡ 64 * k
  so_far = omega (arith, b.most, length_part src from (from + 64 * k))

  pub one_block : {d₁ : List A} → 64 * k < to - from → d₁ ≡ splice d (at + 64 * k) (part src (from + 64 * k) (from + 64 * k + 64)) → Blocks src from to d₀ at until d₁ (k + 1)
  one_block {d₁} more is =
      let long = length_part src (from + 64 * k) (from + 64 * k + 64) (omega arith) in
      let next : from + 64 * k + 64 ≡ from + 64 * (k + 1) = omega arith in
      record {
        most = omega arith;
        laid = rw (part-append src from (from + 64 * k) (from + 64 * k + 64) (omega arith) (omega arith), next) at
            (over-after {d₂ = d₁} b.laid (over-exact (part src (from + 64 * k) (from + 64 * k + 64)) d (at + length (part src from (from + 64 * k))) until (omega (arith, b.laid.same, so_far)) (rw so_far is)));
      }

  pub all_blocks : to ≤ from + 64 * k → Over (part src from to) d₀ at until d
  all_blocks past =
      rw (part-front src from to (from + 64 * k) past) at
      (over-front (to - from) b.laid (omega (arith, so_far)) (omega arith) (omega (arith, b.most, so_far)))

-- none yet, one more, all of it
pub none-reached : {A : Type 0} (whole d₀ : List A) → length whole ≤ length d₀ → Reaching whole whole d₀ 0 d₀
none-reached whole d₀ h = record { so_far = refl; beyond = refl; room = omega arith; same = refl }

pub reaching-size : {A : Type 0} {whole rest d₀ : List A} {at : ℕ} {d : List A} → Reaching whole rest d₀ at d → at + length rest ≡ length whole
reaching-size {rest = rest} {at = at} {d = d} l =
    sym (length_front d rest at (omega (arith, l.room))) ∙ ap length l.so_far

pub run-reached : {A : Type 0} {whole : List A} (run rest : List A) {d₀ : List A} {at until at₁ : ℕ} {d d₁ : List A} → Reaching whole (run ++ rest) d₀ at d → until ≤ length whole → at₁ ≡ at + length run → Over run d at until d₁ → Reaching whole rest d₀ at₁ d₁
run-reached {whole} run rest {d₀} {at} {until} {at₁} {d} {d₁} l below here o =
    let size = reaching-size l in
    let long : length (run ++ rest) ≡ length run + length rest = length-append run rest in
    record {
      so_far = rw here (rw o.front (append_assoc (take at d) run rest ∙ l.so_far));
      beyond = o.beyond (length whole) (omega arith) below ∙ l.beyond;
      room = omega (arith, l.room, o.same);
      same = o.same ∙ l.same;
    }

pub all-reached : {A : Type 0} {whole d₀ : List A} {at : ℕ} {d : List A} → Reaching whole [] d₀ at d → d ≡ overlay whole d₀
unfolding overlay
all-reached {whole} {d₀} {at} {d} l =
    let is : take at d ≡ whole = sym (append-nil (take at d)) ∙ l.so_far in
    let end : length whole ≡ at = sym (ap length is) ∙ length-take-le at d (omega (arith, l.room)) in
    sym (take-append-drop at d) ∙ rw (is, ← end, l.beyond)

-- a run in one block
pub short-block :
    {A : Type 0} {src : List A} {from to : ℕ} {d : List A} {at until : ℕ} → Source src from to d at until → to - from ≤ 64 → to + 64 ≤ length src
    → at + (to - from) + 64 ≤ until → {d₁ : List A} → d₁ ≡ splice d at (part src from (from + 64)) → Over (part src from to) d at until d₁
short-block {src = src} {from = from} {to = to} {d = d} {at = at} {until = until} s few long below is =
    let onward = s.onward in
    let all : length (part src from (from + 64)) ≡ 64 = omega (arith, length_part src from (from + 64) (omega (arith, onward))) in
    rw (part-front src from to (from + 64) (omega arith)) at
    (over-front (to - from) (over-exact (part src from (from + 64)) d at until (omega (arith, s.until_room)) is) (omega arith) (omega (arith, s.until_room)) (omega arith))

-- the front of a block
pub front-block : {A : Type 0} {src : List A} {count : ℕ} {d : List A} {at until : ℕ} → Source src 0 count d at until → count ≤ 16 → 16 ≤ length src → at + 16 ≤ until → {d₁ : List A} → d₁ ≡ splice d at (part src 0 16) → Over (part src 0 count) d at until d₁
front-block {src = src} {count = count} {d = d} {at = at} {until = until} s few long below is =
    let all : length (part src 0 16) ≡ 16 = omega (arith, length_part src 0 16 long) in
    rw (part-front src 0 count 16 few) at
    (over-front (count - 0) (over-exact (part src 0 16) d at until (omega (arith, s.until_room)) is) (omega arith) (omega (arith, s.until_room)) (omega arith))
