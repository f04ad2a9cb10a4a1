-- Laws of `code_of`, by how many bytes a character has; and of `visibleBytes`, character by character.
use Prim.Native.Nat.{ℕ, zero, suc, ◌+◌, ◌-◌, ◌*◌, ◌/◌, ◌%◌, ◌≤◌, ◌<◌, min}
use mathlib.Core.Path.{◌≡◌, ◌∙◌, ap, refl, sym}
use mathlib.Core.Bool.{Bool, true, false, cond}
use mathlib.Core.List.{List, [], ◌∷◌, ◌++◌, append_assoc}
use native.Mathlib.Omega.{arith}
use lib.ListN.{length, get_or, drop, length-append, length-drop, drop_of_length-le, get_or-eq_default}
use lib.Seq.{drop-cons, drop-drop, get_or-drop, get_or-append-add, drop-append_seam}
use borrow.Author.Tests.{lt-ltb, le-ltb}
use Rattle.buffers.proofs.Cases.{le-or-lt}
use Rattle.utf8.specs.Lengths.{lead_len}
use Rattle.utf8.specs.Scalar.{encoded, len_utf8}
use Rattle.utf8.proofs.Scalar.{encoded-one, encoded-two, encoded-three, encoded-four, bytes_of-scalar, scalar-most}
use Rattle.utf8.proofs.LeadLen.{lead-len-one, lead-len-two, lead-len-three, lead-len-four}
use Rattle.invisible.specs.Ranges.{is_invisible}
use Rattle.invisible.specs.Characters.{code_of, code_at, CodeOfBytes, visible_bytes, first_invisible, CharacterPassed}

module _ (a b c d : ℕ) where
  pub code_one : a < 0xC0 → a ≡ code_of a b c d
  unfolding code_of
  code_one h = simp (lt-ltb a 0xC0 h)

  pub code-two : 0xC0 ≤ a → a < 0xE0 → a % 32 * 64 + b % 64 ≡ code_of a b c d
  unfolding code_of
  code-two l h = simp (le-ltb a 0xC0 l, lt-ltb a 0xE0 h)

  pub code-three : 0xE0 ≤ a → a < 0xF0 → a % 16 * 4096 + b % 64 * 64 + c % 64 ≡ code_of a b c d
  unfolding code_of
  code-three l h = simp (le-ltb a 0xC0 (omega arith), le-ltb a 0xE0 l, lt-ltb a 0xF0 h)

  pub code-four : 0xF0 ≤ a → a % 8 * 262144 + b % 64 * 4096 + c % 64 * 64 + d % 64 ≡ code_of a b c d
  unfolding code_of
  code-four l = simp (le-ltb a 0xC0 (omega arith), le-ltb a 0xE0 (omega arith), le-ltb a 0xF0 l)

-- past the text, and within it
pub code-past : (s : List ℕ) (i : ℕ) → length s ≤ i → 0 ≡ code_at s i
unfolding code_at code_of
code-past s i h = rw (get_or-eq_default s 0 h)

pub code_read : (s : List ℕ) (i : ℕ) {r b c d : ℕ} → r ≡ code_of (get_or s i 0) b c d → b ≡ get_or s (i + 1) 0 → c ≡ get_or s (i + 2) 0 → d ≡ get_or s (i + 3) 0 → r ≡ code_at s i
unfolding code_at
code_read s i is second third fourth = is ∙ rw (second, third, fourth)

-- the bytes of a scalar value, and any after them
code-shift : (before t : List ℕ) → code_at (before ++ t) (length before) ≡ code_at t 0
unfolding code_at
code-shift before t =
    let here : length before ≡ length before + 0 = omega arith in
    let first : get_or (before ++ t) (length before) 0 ≡ get_or t 0 0 = ap (λ (i : ℕ). get_or (before ++ t) i 0) here ∙ get_or-append-add before t 0 0 in
    rw (first, get_or-append-add before t 1 0, get_or-append-add before t 2 0, get_or-append-add before t 3 0)

six-bits : (n : ℕ) → (0x80 + n % 64) % 64 ≡ n % 64
six-bits n = omega arith

digits : (c : ℕ) → c / 64 / 64 / 64 * 262144 + c / 64 / 64 % 64 * 4096 + c / 64 % 64 * 64 + c % 64 ≡ c
digits c = omega arith

four-parts : (c : ℕ) → c ≤ 0x10FFFF → (0xF0 + c / 262144) % 8 * 262144 + c / 4096 % 64 * 4096 + c / 64 % 64 * 64 + c % 64 ≡ c
four-parts c most =
    let low : c / 4096 ≡ c / 64 / 64 = omega arith in
    let high : c / 262144 ≡ c / 4096 / 64 = omega arith in
    let lead : (0xF0 + c / 262144) % 8 ≡ c / 262144 = omega arith in
    rw (lead, high, low) (digits c)

code-front : (c : ℕ) (after : List ℕ) → c ≤ 0x10FFFF → code_at (encoded c ++ after) 0 ≡ c
unfolding code_at
code-front c after most =
    le-or-lt 0x80 c
    (λ a. le-or-lt 0x800 c
    (λ b. le-or-lt 0x10000 c
    (λ d. rw (encoded-four c d) (sym (code-four (0xF0 + c / 262144) (0x80 + c / 4096 % 64) (0x80 + c / 64 % 64) (0x80 + c % 64) (omega arith)) ∙ rw (six-bits (c / 4096), six-bits (c / 64), six-bits c) (four-parts c most)))
    (λ h. rw (encoded-three c b h) (sym (code-three (0xE0 + c / 4096) (0x80 + c / 64 % 64) (0x80 + c % 64) _ (omega arith) (omega arith)) ∙ omega arith)))
    (λ h. rw (encoded-two c a h) (sym (code-two (0xC0 + c / 64) (0x80 + c % 64) _ _ (omega arith) (omega arith)) ∙ omega arith)))
    (λ h. rw (encoded-one c h) (sym (code_one c _ _ _ (omega arith))))

pub code-of-bytes : CodeOfBytes
code-of-bytes c before after s =
    rw (bytes_of-scalar c s, append_assoc before (encoded c) after)
    (code-shift before (encoded c ++ after) ∙ code-front c after (scalar-most c s))

-- character by character
code-drop : (s : List ℕ) (i : ℕ) → code_at (drop i s) 0 ≡ code_at s i
unfolding code_at
code-drop s i =
    let here : i + 0 ≡ i = omega arith in
    rw (get_or-drop i s 0 0, get_or-drop i s 1 0, get_or-drop i s 2 0, get_or-drop i s 3 0, here)

lead-size : (b : ℕ) → (1 ≤ lead_len b) × (lead_len b ≤ 4)
unfolding lead_len
lead-size b =
    le-or-lt 0xC0 b
    (λ c. le-or-lt 0xE0 b
    (λ e. le-or-lt 0xF0 b
    (λ f. simp (le-ltb b 0xC0 c, le-ltb b 0xE0 e, le-ltb b 0xF0 f) (omega arith, omega arith))
    (λ f. simp (le-ltb b 0xC0 c, le-ltb b 0xE0 e, lt-ltb b 0xF0 f) (omega arith, omega arith)))
    (λ e. simp (le-ltb b 0xC0 c, lt-ltb b 0xE0 e) (omega arith, omega arith)))
    (λ c. simp (lt-ltb b 0xC0 c) (omega arith, omega arith))

pub lead-step : (b : ℕ) {w : ℕ} → w ≡ lead_len b → (1 ≤ w) × (w ≤ 4)
lead-step b is = rw is (lead-size b)

visible-skip : (k : ℕ) (s : List ℕ) → visible_bytes k s ≡ min k (length s) + visible_bytes 0 (drop k s)
unfolding visible_bytes
visible-skip zero s = omega arith
visible-skip (suc k) [] = omega arith
visible-skip (suc k) (b ∷ s) = omega (arith, visible-skip k s)

visible-cons : (b : ℕ) (s : List ℕ) → visible_bytes 0 (b ∷ s) ≡ cond (is_invisible (code_at (b ∷ s) 0)) 0 (suc (visible_bytes (lead_len b - 1) s))
unfolding visible_bytes
visible-cons b s = refl

visible-nil : visible_bytes 0 [] ≡ 0
unfolding visible_bytes
visible-nil = refl

visible-at : (s : List ℕ) (i : ℕ) → i < length s → visible_bytes 0 (drop i s) ≡ cond (is_invisible (code_at s i)) 0 (suc (visible_bytes (lead_len (get_or s i 0) - 1) (drop (suc i) s)))
visible-at s i h =
    let cut = drop-cons s i 0 h in
    ap (visible_bytes 0) cut ∙ visible-cons (get_or s i 0) (drop (suc i) s) ∙ rw (← cut, code-drop s i)

-- one character, by how many bytes it has
passed-front : (c b : ℕ) (bytes after : List ℕ) → code_at (encoded c ++ after) 0 ≡ c → encoded c ≡ b ∷ bytes → suc (length bytes) ≡ lead_len b → visible_bytes 0 (encoded c ++ after) ≡ cond (is_invisible c) 0 (length (encoded c) + visible_bytes 0 after)
passed-front c b bytes after read is long =
    let wide : lead_len b - 1 ≡ length bytes = omega (arith, long) in
    let rest : suc (visible_bytes (lead_len b - 1) (bytes ++ after)) ≡ suc (length bytes) + visible_bytes 0 after =
    rw (wide, visible-skip (length bytes) (bytes ++ after), length-append bytes after, drop-append_seam bytes after) (omega arith) in
    let here : code_at (b ∷ (bytes ++ after)) 0 ≡ c = rw is at read in
    rw is (visible-cons b (bytes ++ after) ∙ rw (here, rest))

pub character-passed : CharacterPassed
unfolding first_invisible len_utf8
character-passed c after s =
    let read = code-front c after (scalar-most c s) in
    let most = scalar-most c s in
    rw (bytes_of-scalar c s)
    (le-or-lt 0x80 c
    (λ a. le-or-lt 0x800 c
    (λ b. le-or-lt 0x10000 c
    (λ d. passed-front c _ _ after read (encoded-four c d) (lead-len-four _ (omega arith)))
    (λ h. passed-front c _ _ after read (encoded-three c b h) (lead-len-three _ (omega arith) (omega arith))))
    (λ h. passed-front c _ _ after read (encoded-two c a h) (lead-len-two _ (omega arith) (omega arith))))
    (λ h. passed-front c _ _ after read (encoded-one c h) (lead-len-one c (omega arith))))

-- no character before i is invisible; i may be past the end, where the last character is cut short
pub record Visible (s : List ℕ) (i : ℕ) : Type 0 where
  pub so_far : min i (length s) + visible_bytes 0 (drop i s) ≡ first_invisible s

pub none_passed : (s : List ℕ) → Visible s 0
unfolding first_invisible
none_passed s = record { so_far = omega arith }

module _ {s : List ℕ} {i : ℕ} (v : Visible s i) where
  module _ (h : i < length s) {code : ℕ} {t : Bool} (read : code ≡ code_at s i) (told : t ≡ is_invisible code) where
    test-is : is_invisible (code_at s i) ≡ t
    test-is = sym (told ∙ ap is_invisible read)

    pub found : t ≡ true → i ≡ first_invisible s
    found e =
        let none : visible_bytes 0 (drop i s) ≡ 0 = visible-at s i h ∙ rw (test-is, e) in
        omega (arith, v.so_far, none)

    pub passed : {w : ℕ} → t ≡ false → w ≡ lead_len (get_or s i 0) → Visible s (i + w)
    passed {w} e is =
        let some : 1 ≤ w = (lead-step (get_or s i 0) is).0 in
        let on : suc i + (w - 1) ≡ i + w = omega arith in
        let here : visible_bytes 0 (drop i s) ≡ suc (visible_bytes (w - 1) (drop (suc i) s)) = visible-at s i h ∙ rw (test-is, e, is) in
        let rest : visible_bytes (w - 1) (drop (suc i) s) ≡ min (w - 1) (length s - suc i) + visible_bytes 0 (drop (i + w) s) =
        visible-skip (w - 1) (drop (suc i) s) ∙ rw (length-drop (suc i) s, drop-drop (w - 1) (suc i) s, on) in
        record { so_far = omega (arith, v.so_far, here, rest, some) }

  pub all-passed : length s ≤ i → length s ≡ first_invisible s
  all-passed h = omega (arith, v.so_far, ap (visible_bytes 0) (drop_of_length-le s h) ∙ visible-nil)
