-- Laws of `times` and `parts`: they fit the room, and a unit or a part more.
use Prim.Native.Nat.{ℕ, zero, suc, ◌+◌, ◌-◌, ◌/◌, ◌≤◌, ◌<◌, min}
use mathlib.Core.Path.{◌≡◌, ◌∙◌, ap, refl}
use mathlib.Core.List.{List, [], ◌++◌}
use native.Mathlib.Omega.{arith}
use native.Mathlib.Decide.{dec_le}
use native.Mathlib.Nat.{lt_of_not-le}
use lib.ListN.{length, take, drop, length-append, length-drop}
use lib.Seq.{take_all}
use borrow.Author.Tests.{le-leb, lt-leb}
use Rattle.buffers.specs.Splice.{splice, Laid}
use Rattle.buffers.proofs.Splice.{length-splice, laid-length}
use Rattle.stored_answers.specs.Framing.{leading_number, field_of}
use Rattle.stored_answers.specs.Packing.{times, part_laid, parts, unpacked}
use Rattle.stored_answers.proofs.Framing.{drop_min}
use Rattle.stored_answers.proofs.Splice.{LayingFrom, none-laid, piece-laid, all_laid}

-- a unit that fits, one that does not, and none
times_more : (n : ℕ) (unit : List ℕ) (room : ℕ) → length unit ≤ room → times (suc n) unit room ≡ unit ++ times n unit (room - length unit)
unfolding times
times_more n unit room h = rw (le-leb (length unit) room h)

times-full : (n : ℕ) (unit : List ℕ) (room : ℕ) → room < length unit → times n unit room ≡ []
unfolding times
times-full zero unit room h = refl
times-full (suc n) unit room h = rw (lt-leb (length unit) room h)

times_none : (unit : List ℕ) (room : ℕ) → times 0 unit room ≡ []
unfolding times
times_none unit room = refl

times-fits : (n : ℕ) (unit : List ℕ) (room : ℕ) → length (times n unit room) ≤ room
times-fits zero unit room = rw (times_none unit room) (omega arith)
times-fits (suc n) unit room =
    elim (dec_le (length unit) room) [
      | yes h ↦ let more : length (times n unit (room - length unit)) ≤ room - length unit = times-fits n unit (room - length unit) in
          rw (times_more n unit room h, length-append unit (times n unit (room - length unit))) (omega arith)
      | no h ↦ rw (times-full (suc n) unit room (lt_of_not-le h)) (omega arith)
    ]

-- the unit of a part, as the part's own part
unit-of : (part : List ℕ) (from : ℕ) → from ≡ min (0 + 4) (length part) → take (length part - from) (drop from part) ≡ drop 4 part
unit-of part from is =
    let long : length (drop from part) ≡ length part - from = length-drop from part in
    take_all (length part - from) (drop from part) (omega arith) ∙ ap (λ k. drop k part) is ∙ drop_min part 4

-- k units of a part were laid, or there is no room for one more
pub record Repeating (part d₀ : List ℕ) (at n : ℕ) (unit d : List ℕ) (end k : ℕ) : Type 0 where
  pub laying : LayingFrom (part_laid part (length d₀ - at)) d₀ at (times (n - k) unit (length d - end)) d end
  pub within : end ≤ length d
  pub most : k ≤ n

pub none-repeated : (part d : List ℕ) (at n from : ℕ) → n ≡ leading_number part → from ≡ min (0 + 4) (length part) → at ≤ length d → Repeating part d at n (take (length part - from) (drop from part)) d at 0
unfolding part_laid
none-repeated part d at n from is f h =
    let all : n - 0 ≡ leading_number part = omega arith in
    let fits : length (times (leading_number part) (drop 4 part) (length d - at)) ≤ length d - at = times-fits (leading_number part) (drop 4 part) (length d - at) in
    record { laying = rw (all, unit-of part from f) (none-laid (omega arith)); within = h; most = omega arith }

module _ {part d₀ : List ℕ} {at n : ℕ} {unit d : List ℕ} {end k : ℕ} (r : Repeating part d₀ at n unit d end k) where
  pub one-repeated : {d₁ : List ℕ} → k < n → length unit ≤ length d - end → d₁ ≡ splice d end unit → Repeating part d₀ at n unit d₁ (end + length unit) (k + 1)
  one-repeated {d₁} h fits is =
      let long : length d₁ ≡ length d = ap length is ∙ length-splice d end unit (omega (arith, r.within)) in
      let step : n - k ≡ suc (n - (k + 1)) = omega arith in
      let room : length d - end - length unit ≡ length d₁ - (end + length unit) = omega arith in
      let more : times (n - k) unit (length d - end) ≡ unit ++ times (n - (k + 1)) unit (length d₁ - (end + length unit)) =
      rw (step, ← room) (times_more (n - (k + 1)) unit (length d - end) fits) in
      record { laying = piece-laid r.laying unit _ d₁ (end + length unit) more is refl; within = omega (arith, r.within); most = omega arith }

  pub no_room : length d - end < length unit → Laid (part_laid part (length d₀ - at)) d₀ at end d
  no_room h = all_laid r.laying (times-full (n - k) unit (length d - end) h)

  pub all-repeated : n ≤ k → Laid (part_laid part (length d₀ - at)) d₀ at end d
  all-repeated h =
      let none : n - k ≡ 0 = omega arith in
      all_laid r.laying (rw none (times_none unit (length d - end)))

-- a part more
parts_more : (n k : ℕ) (packed : List ℕ) (room : ℕ) → parts (suc n) k packed room ≡ part_laid (field_of k packed) room ++ parts n (k + 1) packed (room - length (part_laid (field_of k packed) room))
unfolding parts
parts_more n k packed room = refl

parts_none : (k : ℕ) (packed : List ℕ) (room : ℕ) → parts 0 k packed room ≡ []
unfolding parts
parts_none k packed room = refl

laid-fits : (part : List ℕ) (room : ℕ) → length (part_laid part room) ≤ room
unfolding part_laid
laid-fits part room = times-fits (leading_number part) (drop 4 part) room

parts-fit : (n k : ℕ) (packed : List ℕ) (room : ℕ) → length (parts n k packed room) ≤ room
parts-fit zero k packed room = rw (parts_none k packed room) (omega arith)
parts-fit (suc n) k packed room =
    let one : length (part_laid (field_of k packed) room) ≤ room = laid-fits (field_of k packed) room in
    let more : length (parts n (k + 1) packed (room - length (part_laid (field_of k packed) room))) ≤ room - length (part_laid (field_of k packed) room) =
    parts-fit n (k + 1) packed (room - length (part_laid (field_of k packed) room)) in
    rw (parts_more n k packed room, length-append (part_laid (field_of k packed) room) (parts n (k + 1) packed (room - length (part_laid (field_of k packed) room)))) (omega arith)

-- k of n parts were laid
pub record Unpacking (packed d₀ : List ℕ) (n : ℕ) (d : List ℕ) (end k : ℕ) : Type 0 where
  pub laying : LayingFrom (parts n 0 packed (length d₀)) d₀ 0 (parts (n - k) k packed (length d - end)) d end
  pub within : end ≤ length d
  pub most : k ≤ n

pub none-unpacked : (packed d : List ℕ) (n : ℕ) → Unpacking packed d n d 0 0
none-unpacked packed d n =
    let all : n - 0 ≡ n = omega arith in
    let room : length d - 0 ≡ length d = omega arith in
    let fits : length (parts n 0 packed (length d)) ≤ length d = parts-fit n 0 packed (length d) in
    record { laying = rw (all, room) (none-laid (omega arith)); within = omega arith; most = omega arith }

module _ {packed d₀ : List ℕ} {n : ℕ} {d : List ℕ} {end k : ℕ} (u : Unpacking packed d₀ n d end k) where
  pub one-unpacked : {part d₁ : List ℕ} {end₁ : ℕ} → k < n → part ≡ field_of k packed → Laid (part_laid part (length d - end)) d end end₁ d₁ → Unpacking packed d₀ n d₁ end₁ (k + 1)
  one-unpacked {part} {d₁} {end₁} h is l =
      let step : n - k ≡ suc (n - (k + 1)) = omega arith in
      let fits : length (part_laid part (length d - end)) ≤ length d - end = laid-fits part (length d - end) in
      let long : length d₁ ≡ length d = laid-length l (omega (arith, u.within)) in
      let room : length d - end - length (part_laid part (length d - end)) ≡ length d₁ - end₁ = omega (arith, l.reach) in
      let more : parts (n - k) k packed (length d - end) ≡ part_laid part (length d - end) ++ parts (n - (k + 1)) (k + 1) packed (length d₁ - end₁) =
      rw (step, ← room, is) (parts_more (n - (k + 1)) k packed (length d - end)) in
      record { laying = piece-laid u.laying (part_laid part (length d - end)) _ d₁ end₁ more l.holds l.reach; within = omega (arith, u.within, l.reach); most = omega arith }

  pub all-unpacked : n ≤ k → n ≡ length packed / 8 → Laid (unpacked packed (length d₀)) d₀ 0 end d
  unfolding unpacked
  all-unpacked h is =
      let none : n - k ≡ 0 = omega arith in
      rw (← is) (all_laid u.laying (rw none (parts_none k packed (length d - end))))

-- a case that is unpacked leaves the buffer as long as it was
pub unpacked-length : (packed : List ℕ) {d₀ d : List ℕ} {end : ℕ} → Laid (unpacked packed (length d₀)) d₀ 0 end d → length d ≡ length d₀
unfolding unpacked
unpacked-length packed {d₀ = d₀} l = laid-length l (omega (arith, parts-fit (length packed / 8) 0 packed (length d₀)))
