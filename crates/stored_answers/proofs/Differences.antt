-- Laws of `summed`: its length, and an element more.
use Prim.Native.Nat.{ℕ, zero, suc, ◌+◌, ◌*◌, ◌-◌, ◌/◌, ◌%◌, ◌^◌, ◌≤◌, ◌<◌, min}
use mathlib.Core.Path.{◌≡◌, ◌∙◌, ap, refl, sym}
use mathlib.Core.Bool.{Bool}
use mathlib.Core.List.{List, [], ◌∷◌}
use native.Mathlib.Omega.{arith}
use lib.ListN.{length, take, drop, set, replicate}
use lib.Seq.{drop-drop}
use Rattle.buffers.specs.Same.{same}
use Rattle.buffers.specs.Splice.{Laid}
use Rattle.stored_answers.specs.Counts.{IsPrefixLen}
use Rattle.note.specs.Notes.{limit}
use Rattle.stored_answers.specs.Framing.{leading_number}
use Rattle.stored_answers.specs.Differences.{summed, number_column, offset_column, numbers_of}
use Rattle.stored_answers.proofs.Splice.{LayingFrom, none-laid, element-laid, all_laid, counted, take-laid}

length-summed : (width n last : ℕ) (s : List ℕ) → length (summed width n last s) ≡ n
unfolding summed
length-summed width zero last s = refl
length-summed width (suc n) last s = ap suc (length-summed width n ((last + leading_number s) % width) (drop 4 s))

summed-more : (width n last : ℕ) (s : List ℕ) → summed width (suc n) last s ≡ ((last + leading_number s) % width) ∷ summed width n ((last + leading_number s) % width) (drop 4 s)
unfolding summed
summed-more width n last s = refl

summed-none : (width last : ℕ) (s : List ℕ) → summed width 0 last s ≡ []
unfolding summed
summed-none width last s = refl

-- i of n elements stand in d
pub record Summing (width : ℕ) (s d₀ : List ℕ) (n : ℕ) (d : List ℕ) (last i : ℕ) : Type 0 where
  pub laying : LayingFrom (summed width n 0 s) d₀ 0 (summed width (n - i) last (drop (i * 4) s)) d i
  pub below : last < width
  pub most : i ≤ n
  pub room : n ≤ length d
  pub there : n * 4 ≤ length s

pub none-summed : (width : ℕ) (s d : List ℕ) (n : ℕ) → 0 < width → n ≡ min (length s / 4) (length d) → Summing width s d n d 0 0
none-summed width s d n w is =
    let all : n - 0 ≡ n = omega arith in
    let long : length (summed width n 0 s) ≡ n = length-summed width n 0 s in
    record { laying = rw all (none-laid (omega arith)); below = w; most = omega arith; room = omega arith; there = omega arith }

module _ {width : ℕ} {s d₀ : List ℕ} {n : ℕ} {d : List ℕ} {last i : ℕ} (m : Summing width s d₀ n d last i) where
  pub one-summed : {k x : ℕ} → i < n → k ≡ leading_number (drop (i * 4) s) → x ≡ (last + k) % width → x < width → Summing width s d₀ n (set d i x) x (i + 1)
  one-summed {k} {x} h is now below =
      let step : n - i ≡ suc (n - (i + 1)) = omega arith in
      let next : i * 4 + 4 ≡ (i + 1) * 4 = omega arith in
      let more : summed width (n - i) last (drop (i * 4) s) ≡ x ∷ summed width (n - (i + 1)) x (drop ((i + 1) * 4) s) =
      rw (step, now, is, ← next, ← drop-drop 4 (i * 4) s) (summed-more width (n - (i + 1)) last (drop (i * 4) s)) in
      let after : LayingFrom (summed width n 0 s) d₀ 0 (summed width (n - (i + 1)) x (drop ((i + 1) * 4) s)) (set d i x) (i + 1) = element-laid m.laying x _ more in
      record { laying = after; below = below; most = omega arith; room = omega (arith, m.room, m.laying.same, after.same); there = m.there }

  pub all-summed : {field : List ℕ} → n ≤ i → n ≡ min (length s / 4) (length d₀) → s ≡ field → IsPrefixLen n d × Laid (number_column width (length d₀) field) d₀ 0 n d
  unfolding number_column
  all-summed h is here =
      let none : n - i ≡ 0 = omega arith in
      let end : i ≡ n = omega (arith, m.most) in
      let all : Laid (summed width n 0 s) d₀ 0 i d = all_laid m.laying (rw none (summed-none width last (drop (i * 4) s))) in
      (counted n d m.room, rw (← here, ← is) (rw end at all))

-- a buffer that is filled from a field, up to where it is filled
pub filled : (width room : ℕ) (field : List ℕ) {d₀ d : List ℕ} {end : ℕ} → Laid (number_column width (length d₀) field) d₀ 0 end d → length d₀ ≡ room → take end d ≡ number_column width room field
filled width room field l long = take-laid l ∙ ap (λ k. number_column width k field) long

-- a passed buffer beside the column of a field
pub same-column : (width room : ℕ) (column field : List ℕ) {d₀ d : List ℕ} {end : ℕ} {r : Bool} → r ≡ same column (take end d) → Laid (number_column width (length d₀) field) d₀ 0 end d → length d₀ ≡ room → r ≡ same column (number_column width room field)
same-column width room column field is l long = is ∙ ap (same column) (filled width room field l long)

-- buffers that are filled from a field, up to where they are filled
pub offsets-filled : (field : List ℕ) {d₀ d : List ℕ} {end : ℕ} → Laid (number_column (limit + 1) (length d₀) field) d₀ 0 end d → limit + 1 ≡ length d₀ → take end d ≡ offset_column limit field
offsets-filled field l long = filled (limit + 1) (limit + 1) field l (sym long)

pub numbers-filled : (field : List ℕ) {d : List ℕ} {end : ℕ} → Laid (number_column (256 ^ 4) 256 field) (replicate 256 0) 0 end d → take end d ≡ numbers_of field
numbers-filled field l = take-laid l
