-- Laws of a scalar value's bytes: what they are by the size of the value, that they are one well-formed character, and
-- that they tell the value. Each case is one row of Table 3-7.
use Prim.Native.Nat.{ℕ, zero, suc, ◌+◌, ◌-◌, ◌*◌, ◌/◌, ◌≤◌, ◌<◌}
use mathlib.Core.Path.{◌≡◌, ◌∙◌, ap, refl, sym}
use mathlib.Core.Bool.{true, false, ◌&&◌, not, or-true}
use mathlib.Core.List.{List, [], ◌∷◌}
use mathlib.Mathlib.Data.Bool.Basic.{and_elim_left, and_elim_right}
use native.Mathlib.Omega.{arith}
use lib.Dec.{leb}
use lib.ListN.{length, get_or}
use borrow.Author.Tests.{lt-ltb, le-ltb, le-leb, leb-true, leb-false, not-true}
use Rattle.buffers.proofs.Cases.{le-or-lt}
use Rattle.utf8.specs.Table.{Bytes, bytes, within, trail, rows, of_row, of_some}
use Rattle.utf8.specs.Formed.{well_formed}
use Rattle.utf8.specs.Scalar.{scalar, six_bits, encoded, bytes_of, ScalarSequence, ScalarDistinct}
use Rattle.utf8.proofs.Table.{sequence-formed}

pub encoded-one : (c : ℕ) → c < 0x80 → encoded c ≡ (c ∷ [])
unfolding encoded
encoded-one c h = simp (lt-ltb c 0x80 h)

pub encoded-two : (c : ℕ) → 0x80 ≤ c → c < 0x800 → encoded c ≡ ((0xC0 + c / 64) ∷ six_bits c ∷ [])
unfolding encoded
encoded-two c a h = simp (le-ltb c 0x80 a, lt-ltb c 0x800 h)

pub encoded-three : (c : ℕ) → 0x800 ≤ c → c < 0x10000 → encoded c ≡ ((0xE0 + c / 4096) ∷ six_bits (c / 64) ∷ six_bits c ∷ [])
unfolding encoded
encoded-three c a h = simp (le-ltb c 0x80 (omega arith), le-ltb c 0x800 a, lt-ltb c 0x10000 h)

pub encoded-four : (c : ℕ) → 0x10000 ≤ c → encoded c ≡ ((0xF0 + c / 262144) ∷ six_bits (c / 4096) ∷ six_bits (c / 64) ∷ six_bits c ∷ [])
unfolding encoded
encoded-four c a = simp (le-ltb c 0x80 (omega arith), le-ltb c 0x800 (omega arith), le-ltb c 0x10000 a)

pub scalar-most : (c : ℕ) → scalar c ≡ true → c ≤ 0x10FFFF
unfolding scalar
scalar-most c s = leb-true c 0x10FFFF (and_elim_left _ (not (leb 0xD800 c && leb c 0xDFFF)) s)

-- the surrogates are left out
pub scalar-gap : (c : ℕ) → scalar c ≡ true → 0xD800 ≤ c → 0xDFFF < c
unfolding scalar
scalar-gap c s low =
    leb-false c 0xDFFF (rw (le-leb 0xD800 c low) at (not-true (leb 0xD800 c && leb c 0xDFFF) (and_elim_right (leb c 0x10FFFF) _ s)))

pub bytes_of-scalar : (c : ℕ) → scalar c ≡ true → bytes_of c ≡ encoded c
unfolding bytes_of
bytes_of-scalar c s = rw s

pub bytes_of-other : (c : ℕ) → scalar c ≡ false → bytes_of c ≡ []
unfolding bytes_of
bytes_of-other c s = rw s

-- a row, column by column
column : {low high b : ℕ} (cs : List Bytes) (s : List ℕ) → low ≤ b → b ≤ high → of_row cs s ≡ true → of_row (bytes low high ∷ cs) (b ∷ s) ≡ true
unfolding of_row within
column {low} {high} {b} cs s l h p = simp (le-leb low b l, le-leb b high h) p

end : of_row [] [] ≡ true
unfolding of_row
end = refl

-- a row of one column, of two, of three and of four
one : {a b : ℕ} (c : ℕ) → (c < 0x80) × (a ≤ c) × (c ≤ b) → of_row (bytes a b ∷ []) (encoded c) ≡ true
one c h = rw (encoded-one c h.0) (column _ _ h.1 h.2 end)

two : {a b : ℕ} (c : ℕ) → (0x80 ≤ c) × (c < 0x800) × (a ≤ 0xC0 + c / 64) × (0xC0 + c / 64 ≤ b) → of_row (bytes a b ∷ trail ∷ []) (encoded c) ≡ true
two c h =
    rw (encoded-two c h.0 h.1) (column _ _ h.2 h.3 (column _ _ (omega arith) (omega arith) end))

three : {a b d e : ℕ} (c : ℕ) → (0x800 ≤ c) × (c < 0x10000) × (a ≤ 0xE0 + c / 4096) × (0xE0 + c / 4096 ≤ b) × (d ≤ six_bits (c / 64)) × (six_bits (c / 64) ≤ e) → of_row (bytes a b ∷ bytes d e ∷ trail ∷ []) (encoded c) ≡ true
three c h =
    rw (encoded-three c h.0 h.1)
    (column _ _ h.2 h.3 (column _ _ h.4 h.5 (column _ _ (omega arith) (omega arith) end)))

four : {a b d e : ℕ} (c : ℕ) → (0x10000 ≤ c) × (a ≤ 0xF0 + c / 262144) × (0xF0 + c / 262144 ≤ b) × (d ≤ six_bits (c / 4096)) × (six_bits (c / 4096) ≤ e) → of_row (bytes a b ∷ bytes d e ∷ trail ∷ trail ∷ []) (encoded c) ≡ true
four c h =
    rw (encoded-four c h.0)
    (column _ _ h.1 h.2 (column _ _ h.3 h.4 (column _ _ (omega arith) (omega arith) (column _ _ (omega arith) (omega arith) end))))

-- a sequence of the row at k
of_row_lem : (rs : List (List Bytes)) (s : List ℕ) (k : ℕ) → k < length rs → of_row (get_or rs k []) s ≡ true → of_some rs s ≡ true
unfolding of_some
of_row_lem [] s k h p = absurd (omega arith)
of_row_lem (r ∷ rs) s zero h p = rw p
of_row_lem (r ∷ rs) s (suc k) h p = rw (of_row_lem rs s k (omega arith) p) (or-true (of_row r s))

pub encoded-sequence : (c : ℕ) → scalar c ≡ true → of_some rows (encoded c) ≡ true
unfolding rows
encoded-sequence c s =
    let at : (k : ℕ) → k < 9 → of_row (get_or rows k []) (encoded c) ≡ true → of_some rows (encoded c) ≡ true = of_row_lem rows (encoded c) in
    le-or-lt c 0x7F (λ h. at 0 (omega arith) (one c (omega arith)))
    (λ a. le-or-lt c 0x7FF (λ h. at 1 (omega arith) (two c (omega arith)))
    (λ a. le-or-lt c 0xFFF (λ h. at 2 (omega arith) (three c (omega arith)))
    (λ a. le-or-lt c 0xCFFF (λ h. at 3 (omega arith) (three c (omega arith)))
    (λ a. le-or-lt c 0xD7FF (λ h. at 4 (omega arith) (three c (omega arith)))
    (λ a. let past = scalar-gap c s a in
    le-or-lt c 0xFFFF (λ h. at 5 (omega arith) (three c (omega arith)))
    (λ a. le-or-lt c 0x3FFFF (λ h. at 6 (omega arith) (four c (omega arith)))
    (λ a. le-or-lt c 0xFFFFF (λ h. at 7 (omega arith) (four c (omega arith)))
    (λ a. let most = scalar-most c s in at 8 (omega arith) (four c (omega arith))))))))))

pub scalar-sequence : ScalarSequence
scalar-sequence c s = rw (bytes_of-scalar c s) (encoded-sequence c s)

pub encoded-formed : (c : ℕ) → scalar c ≡ true → well_formed (encoded c) ≡ true
encoded-formed c s = sequence-formed (encoded c) (encoded-sequence c s)

-- one byte to four
pub length-encoded : (c : ℕ) → (1 ≤ length (encoded c)) × (length (encoded c) ≤ 4)
length-encoded c =
    le-or-lt 0x80 c
    (λ a. le-or-lt 0x800 c
    (λ b. le-or-lt 0x10000 c
    (λ d. rw (encoded-four c d) (omega arith, omega arith))
    (λ h. rw (encoded-three c b h) (omega arith, omega arith)))
    (λ h. rw (encoded-two c a h) (omega arith, omega arith)))
    (λ h. rw (encoded-one c h) (omega arith, omega arith))

-- the number that one to four bytes tell
unfoldable decoded : List ℕ → ℕ
decoded [] = 0
decoded (a ∷ []) = a
decoded (a ∷ b ∷ []) = (a - 0xC0) * 64 + (b - 0x80)
decoded (a ∷ b ∷ d ∷ []) = (a - 0xE0) * 4096 + (b - 0x80) * 64 + (d - 0x80)
decoded (a ∷ b ∷ d ∷ e ∷ s) = (a - 0xF0) * 262144 + (b - 0x80) * 4096 + (d - 0x80) * 64 + (e - 0x80)

decoded-encoded : (c : ℕ) → decoded (encoded c) ≡ c
unfolding decoded
decoded-encoded c =
    le-or-lt 0x80 c
    (λ a. le-or-lt 0x800 c
    (λ b. le-or-lt 0x10000 c
    (λ d.
    let low : c / 4096 ≡ c / 64 / 64 = omega arith in
    let high : c / 262144 ≡ c / 4096 / 64 = omega arith in
    rw (encoded-four c d) (omega (arith, low, high)))
    (λ h. rw (encoded-three c b h) (omega arith)))
    (λ h. rw (encoded-two c a h) (omega arith)))
    (λ h. rw (encoded-one c h))

pub scalar-distinct : ScalarDistinct
scalar-distinct c d s t e =
    let same : encoded c ≡ encoded d = sym (bytes_of-scalar c s) ∙ e ∙ bytes_of-scalar d t in
    sym (decoded-encoded c) ∙ ap decoded same ∙ decoded-encoded d
