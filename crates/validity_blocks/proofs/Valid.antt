-- Laws of `valid` and `validFirst`: a byte of a block by the four read there, and the loops over a block's bytes.
use Rattle.std.proofs.Common.{◌≡◌, ℕ, ◌+◌, ◌-◌, ◌<◌, ◌≤◌, Bool, true, false, not, ◌||◌, List, length, get_or, drop, refl, ap, ◌∙◌, add-zero, add_comm, arith, length-drop, length-take, get_or-drop}
use mathlib.Core.Bool.{not-not}
use lib.Seq.{take-length}
use Rattle.buffers.specs.Every.{every_below}
use Rattle.buffers.specs.Splice.{part}
use Rattle.buffers.proofs.Booleans.{de-morgan}
use Rattle.buffers.proofs.Every.{every-suc, every-all}
use Rattle.validity_blocks.specs.Extremes.{largest, least_lead, LeadBetween}
use Rattle.validity_blocks.specs.Valid.{invalid, valid, valid_first, AtEach}
use Rattle.validity_blocks.proofs.Largest.{largest-at}
use Rattle.validity_blocks.proofs.LeastLead.{least_at}
use Rattle.validity_blocks.proofs.Invalid.{valid-ascii}

-- by the four bytes read there
pub valid-read : (s : List ℕ) (i : ℕ) {f : Bool} → f ≡ invalid (get_or s i 0) (get_or s (i + 1) 0) (get_or s (i + 2) 0) (get_or s (i + 3) 0) → not f ≡ valid (drop i s)
unfolding valid
valid-read s i e = rw (e, get_or-drop i s 0 0, get_or-drop i s 1 0, get_or-drop i s 2 0, get_or-drop i s 3 0, add-zero i)

-- a byte of what is left from k on
pub rest_at : (s : List ℕ) (k j : ℕ) → get_or (part s k (length s)) j 0 ≡ get_or s (j + k) 0
rest_at s k j = rw (← length-drop k s, take-length (drop k s), get_or-drop k s j 0, add_comm k j)

-- each of four bytes is
abbrev pub FourBetween : ℕ → ℕ → ℕ → ℕ → ℕ → ℕ → Type 0
FourBetween least most b3 b2 b1 b0 =
    LeadBetween least most b3 × LeadBetween least most b2 × LeadBetween least most b1 × LeadBetween least most b0

between_at : (s : List ℕ) {l n : ℕ} (i : ℕ) → largest s < n → l ≤ least_lead s → LeadBetween l n (get_or s i 0)
between_at s i low far = record { far = omega (arith, least_at s i); low = omega (arith, largest-at s i) }

pub each_between : (s : List ℕ) {l n : ℕ} → largest s < n → l ≤ least_lead s → AtEach (FourBetween l n) s
each_between s low far j inside =
    (between_at s j low far, between_at s (j + 1) low far, between_at s (j + 2) low far, between_at s (j + 3) low far)

-- a block of bytes below 80
pub block-ascii : (s : List ℕ) (n : ℕ) → largest s < 0x80 → valid_first s n ≡ true
unfolding valid_first valid
block-ascii s n h =
    every-all n _
    (λ i below.
    rw (get_or-drop i s 0 0, get_or-drop i s 1 0, get_or-drop i s 2 0, get_or-drop i s 3 0)
    (valid-ascii _ _ _ _ (omega (arith, largest-at s (i + 2))) (omega (arith, largest-at s (i + 1))) (omega (arith, largest-at s (i + 0))) (omega (arith, largest-at s (i + 3)))))

-- the loops over a block: `bad` says whether one of its first j bytes is invalid
pub record InvalidSoFar (s : List ℕ) (bad : Bool) (j : ℕ) : Type 0 where
  pub most : j ≤ length s - 3
  pub says : bad ≡ not (valid_first s j)

pub invalid-none : {s : List ℕ} → InvalidSoFar s false 0
unfolding valid_first every_below
invalid-none = record { most = omega arith; says = refl }

pub invalid-more : {s : List ℕ} {j : ℕ} {bad : Bool} (f : Bool) → InvalidSoFar s bad j → j < length (part s 3 (length s)) → not f ≡ valid (drop j s) → InvalidSoFar s (bad || f) (j + 1)
unfolding valid_first
invalid-more {s} {j} f k h q =
    record {
      most = omega (arith, simp (length-take, length-drop) at h);
      says = rw (every-suc j (λ (i : ℕ). valid (drop i s)), k.says, ← q) (de-morgan (every_below j (λ (i : ℕ). valid (drop i s))) f);
    }

pub invalid-done : {s : List ℕ} {j : ℕ} {bad : Bool} → InvalidSoFar s bad j → length (part s 3 (length s)) ≤ j → not bad ≡ valid_first s (length s - 3)
invalid-done {s} {j} k h =
    let full : j ≡ length s - 3 = omega (arith, k.most, simp (length-take, length-drop) at h) in
    ap not k.says ∙ not-not (valid_first s j) ∙ ap (valid_first s) full
