-- The largest byte of a text and its least lead byte: they say which test its bytes are judged by.
use Rattle.std.specs.Prelude.{ℕ, ◌+◌, ◌%◌, ◌<◌, ◌≤◌, min, max, List, [], ◌∷◌}

-- the largest byte, or 0
unfoldable pub largest : List ℕ → ℕ
largest [] = 0
largest (b ∷ s) = max b (largest s)

-- a byte counted from C0 on, around past FF: C0 is 0, E1 is 21, FF is 3F; the bytes below C0 are 40 and more
unfoldable pub from_lead : ℕ → ℕ
from_lead b = (b + 0x40) % 256

-- the least byte so counted, or 40
unfoldable pub least_lead : List ℕ → ℕ
least_lead [] = 0x40
least_lead (b ∷ s) = min (from_lead b) (least_lead s)

-- a byte below `most` that leads nothing or counts `least` or more: 2 is C2, the first that leads a character; 21 is
-- E1, and up to EC the second byte is then any of 80..BF in Table 3-7
pub record LeadBetween (least most b : ℕ) : Type 0 where
  pub far : least ≤ from_lead b
  pub low : b < most
