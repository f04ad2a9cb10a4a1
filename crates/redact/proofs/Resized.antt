-- Laws of `Resized`: each match makes a text longer, or shorter, by as much, so that its size tells how many there were.
use Prim.Native.Nat.{ℕ, ◌+◌, ◌*◌, ◌-◌, ◌/◌, ◌≤◌, ◌<◌}
use mathlib.Core.Path.{◌≡◌, ◌∙◌, ap, refl, sym}
use mathlib.Core.List.{List}
use native.Mathlib.Nat.{mul-sub, mul-div_cancel, mul-le-mul_left}
use native.Mathlib.Omega.{arith}
use lib.ListN.{length}
use Rattle.find.specs.Matching.{found_places}
use Rattle.redact_note.specs.Redacting.{match_count}
use Rattle.redact_note.specs.Blanks.{blanked_size}
use Rattle.redact_note.proofs.MatchCount.{found-size, found-matched}
use Rattle.redact.specs.Blanks.{Resized}

-- so many times a difference, divided by it
shares : (count a b x : ℕ) → a < b → x ≡ count * b - count * a → x / (b - a) ≡ count
shares count a b x less is =
    let some : 0 < b - a = omega arith in
    ap (λ (y : ℕ). y / (b - a)) (is ∙ sym (mul-sub count b a)) ∙ mul-div_cancel count some

module _ {text literal : List ℕ} {first content_len size : ℕ} (z : Resized text literal first content_len size) where
  abbrev count : ℕ
  count = match_count (found_places text literal)

  sizes : size + count * length literal ≡ length text + count * content_len
  unfolding blanked_size
  sizes = omega (arith, z.size_is, found-size text literal content_len refl, (found-matched text literal z.short refl).inside)

  module _ (less : length literal < content_len) where
    pub longer : length text ≤ size
    longer = omega (arith, sizes, mul-le-mul_left {m = length literal} {n = content_len} count (omega arith))

    pub longer-count : (size - length text) / (content_len - length literal) ≡ count
    longer-count = shares count (length literal) content_len (size - length text) less (omega (arith, sizes, mul-le-mul_left {m = length literal} {n = content_len} count (omega arith)))

  module _ (less : content_len < length literal) where
    pub shorter : size ≤ length text
    shorter = omega (arith, sizes, mul-le-mul_left {m = content_len} {n = length literal} count (omega arith))

    pub shorter-count : (length text - size) / (length literal - content_len) ≡ count
    shorter-count = shares count content_len (length literal) (length text - size) less (omega (arith, sizes, mul-le-mul_left {m = content_len} {n = length literal} count (omega arith)))
