-- Laws of `code_at` and `codes_of`: a code point's bytes are the character that it was read of.
use Prim.Native.Nat.{ℕ, zero, suc, ◌+◌, ◌-◌, ◌*◌, ◌/◌, ◌%◌, ◌≤◌, ◌<◌}
use mathlib.Core.Path.{◌≡◌, ◌∙◌, ap, refl, sym}
use mathlib.Core.Bool.{true, false}
use mathlib.Core.List.{List, [], ◌∷◌}
use mathlib.Mathlib.Data.Bool.Basic.{and_elim_left, and_elim_right}
use native.Mathlib.Omega.{arith}
use lib.Dec.{leb, eqb}
use lib.ListN.{length, get_or, take, drop, length-drop, drop_of_length-le, take-append-drop}
use lib.Seq.{drop-cons, drop-drop, get_or-drop}
use borrow.Author.Tests.{le-leb, lt-leb, leb-true, ltb-true, eq-eqb, eqb-true}
use Rattle.buffers.proofs.Cases.{true-or-false, le-or-lt, clash}
use Rattle.buffers.proofs.Booleans.{and_false_r}
use Rattle.utf8.specs.Table.{Bytes, bytes, within, trail}
use Rattle.utf8.specs.Formed.{announced, second_low, second_high, second, asked, formed, well_formed, boundary}
use Rattle.utf8.specs.Scalar.{scalar, bytes_of}
use Rattle.utf8.proofs.Formed.{announced-one, announced-none, announced-two, announced-three, announced-four, announced-past, asked-two, asked-three, asked-four, formed-lead, formed-rest}
use Rattle.utf8.proofs.Boundaries.{formed-drop, char-at, boundary-zero}
use Rattle.utf8.proofs.Scalar.{encoded-one, encoded-two, encoded-three, encoded-four, bytes_of-scalar}
use Rattle.edits.specs.Characters.{code_at, codes_from, codes_of, CodeBytes, CodesText}
use Rattle.code_point_blocks.specs.Codes.{text_of}

-- a byte between two others
within_both : {low high b : ℕ} → within (bytes low high) b ≡ true → (low ≤ b) × (b ≤ high)
unfolding within
within_both {low} {high} {b} e = (leb-true low b (and_elim_left _ (leb b high) e), leb-true b high (and_elim_right (leb low b) _ e))

trail-both : {b : ℕ} → within trail b ≡ true → (0x80 ≤ b) × (b ≤ 0xBF)
trail-both e = within_both {low = 0x80} {high = 0xBF} e

second-both : (a : ℕ) {b : ℕ} → within (second a) b ≡ true → (second_low a ≤ b) × (b ≤ second_high a)
unfolding second
second-both a e = within_both {low = second_low a} {high = second_high a} e

-- columns that are asked, one after the other
first-column : (r : Bytes) (rs : List Bytes) (t : List ℕ) → formed (r ∷ rs) t ≡ true → (within r (get_or t 0 0) ≡ true) × (formed rs (drop 1 t) ≡ true)
unfolding formed
first-column r rs [] e = clash false e refl
first-column r rs (b ∷ t) e = (and_elim_left (within r b) _ e, and_elim_right (within r b) _ e)

-- the second byte, by its lead byte
second-low : (a : ℕ) → (0x80 ≤ second_low a) × ((a ≡ 0xE0 → second_low a ≡ 0xA0) × (a ≡ 0xF0 → second_low a ≡ 0x90))
second-low a =
    true-or-false (eqb a 0xE0)
    (λ t. (rw t (omega arith), ((λ e. rw t), (λ e. absurd (omega (arith, eqb-true a 0xE0 t))))))
    (λ u. true-or-false (eqb a 0xF0)
    (λ t. (rw (u, t) (omega arith), ((λ e. clash (eqb a 0xE0) (eq-eqb a 0xE0 e) u), (λ e. rw (u, t)))))
    (λ v. (rw (u, v) (omega arith), ((λ e. clash (eqb a 0xE0) (eq-eqb a 0xE0 e) u), (λ e. clash (eqb a 0xF0) (eq-eqb a 0xF0 e) v)))))

second-high : (a : ℕ) → (second_high a ≤ 0xBF) × ((a ≡ 0xED → second_high a ≡ 0x9F) × (a ≡ 0xF4 → second_high a ≡ 0x8F))
second-high a =
    true-or-false (eqb a 0xED)
    (λ t. (rw t (omega arith), ((λ e. rw t), (λ e. absurd (omega (arith, eqb-true a 0xED t))))))
    (λ u. true-or-false (eqb a 0xF4)
    (λ t. (rw (u, t) (omega arith), ((λ e. clash (eqb a 0xED) (eq-eqb a 0xED e) u), (λ e. rw (u, t)))))
    (λ v. (rw (u, v) (omega arith), ((λ e. clash (eqb a 0xED) (eq-eqb a 0xED e) u), (λ e. clash (eqb a 0xF4) (eq-eqb a 0xF4 e) v)))))

scalar-low : (c : ℕ) → c < 0xD800 → scalar c ≡ true
unfolding scalar
scalar-low c h = rw (le-leb c 0x10FFFF (omega arith), lt-leb 0xD800 c h)

scalar-high : (c : ℕ) → 0xDFFF < c → c ≤ 0x10FFFF → scalar c ≡ true
unfolding scalar
scalar-high c l h = rw (le-leb c 0x10FFFF h, and_false_r (leb 0xD800 c) _ (lt-leb c 0xDFFF l))

-- the front of a list, by its first elements
front-one : (s : List ℕ) → 1 ≤ length s → take 1 s ≡ get_or s 0 0 ∷ []
front-one [] h = absurd (omega arith)
front-one (a ∷ s) h = refl

front-two : (s : List ℕ) → 2 ≤ length s → take 2 s ≡ get_or s 0 0 ∷ get_or s 1 0 ∷ []
front-two [] h = absurd (omega arith)
front-two (a ∷ []) h = absurd (omega arith)
front-two (a ∷ b ∷ s) h = refl

front-three : (s : List ℕ) → 3 ≤ length s → take 3 s ≡ get_or s 0 0 ∷ get_or s 1 0 ∷ get_or s 2 0 ∷ []
front-three [] h = absurd (omega arith)
front-three (a ∷ []) h = absurd (omega arith)
front-three (a ∷ b ∷ []) h = absurd (omega arith)
front-three (a ∷ b ∷ d ∷ s) h = refl

front-four : (s : List ℕ) → 4 ≤ length s → take 4 s ≡ get_or s 0 0 ∷ get_or s 1 0 ∷ get_or s 2 0 ∷ get_or s 3 0 ∷ []
front-four [] h = absurd (omega arith)
front-four (a ∷ []) h = absurd (omega arith)
front-four (a ∷ b ∷ []) h = absurd (omega arith)
front-four (a ∷ b ∷ d ∷ []) h = absurd (omega arith)
front-four (a ∷ b ∷ d ∷ e ∷ s) h = refl

-- a character of each length, from its bytes
module _ (a b d e : ℕ) where
  two_bytes : 0xC2 ≤ a → a < 0xE0 → (0x80 ≤ b) × (b ≤ 0xBF) → bytes_of ((a - 0xC0) * 64 + (b - 0x80)) ≡ a ∷ b ∷ []
  two_bytes l h r =
      let c : ℕ = (a - 0xC0) * 64 + (b - 0x80) in
      let first : 0xC0 + c / 64 ≡ a = omega (arith, r.0, r.1) in
      let last : 0x80 + c % 64 ≡ b = omega (arith, r.0, r.1) in
      bytes_of-scalar c (scalar-low c (omega (arith, r.0, r.1))) ∙ encoded-two c (omega (arith, r.0, r.1)) (omega (arith, r.0, r.1)) ∙ rw (first, last)

  three-bytes : 0xE0 ≤ a → a < 0xF0 → (second_low a ≤ b) × (b ≤ second_high a) → (0x80 ≤ d) × (d ≤ 0xBF) → bytes_of ((a - 0xE0) * 4096 + (b - 0x80) * 64 + (d - 0x80)) ≡ a ∷ b ∷ d ∷ []
  three-bytes l h r q =
      let c : ℕ = (a - 0xE0) * 4096 + (b - 0x80) * 64 + (d - 0x80) in
      let low = second-low a in
      let high = second-high a in
      let first : 0xE0 + c / 4096 ≡ a = omega (arith, r.0, r.1, q.0, q.1, low.0, high.0) in
      let upper : c / 64 ≡ (a - 0xE0) * 64 + (b - 0x80) = omega (arith, q.0, q.1) in
      let middle : 0x80 + c / 64 % 64 ≡ b = rw upper (omega (arith, r.0, r.1, low.0, high.0)) in
      let last : 0x80 + c % 64 ≡ d = omega (arith, r.0, r.1, q.0, q.1, low.0, high.0) in
      let large : 0x800 ≤ c = le-or-lt a 0xE0
      (λ is. let z : a ≡ 0xE0 = omega arith in omega (arith, r.0, low.1.0 z))
      (λ more. omega (arith, r.0, low.0)) in
      let fine : scalar c ≡ true = le-or-lt a 0xEC
      (λ below. scalar-low c (omega (arith, r.0, r.1, q.0, q.1, low.0, high.0)))
      (λ above. le-or-lt a 0xED
      (λ is. let z : a ≡ 0xED = omega arith in scalar-low c (omega (arith, r.0, r.1, q.0, q.1, low.0, high.1.0 z)))
      (λ more. scalar-high c (omega (arith, r.0, r.1, q.0, q.1, low.0, high.0)) (omega (arith, r.0, r.1, q.0, q.1, low.0, high.0)))) in
      bytes_of-scalar c fine ∙ encoded-three c large (omega (arith, r.0, r.1, q.0, q.1, low.0, high.0)) ∙ rw (first, middle, last)

  four_bytes : 0xF0 ≤ a → a < 0xF5 → (second_low a ≤ b) × (b ≤ second_high a) → (0x80 ≤ d) × (d ≤ 0xBF) → (0x80 ≤ e) × (e ≤ 0xBF) → bytes_of ((a - 0xF0) * 262144 + (b - 0x80) * 4096 + (d - 0x80) * 64 + (e - 0x80)) ≡ a ∷ b ∷ d ∷ e ∷ []
  four_bytes l h r q u =
      let c : ℕ = (a - 0xF0) * 262144 + (b - 0x80) * 4096 + (d - 0x80) * 64 + (e - 0x80) in
      let low = second-low a in
      let high = second-high a in
      let first : 0xF0 + c / 262144 ≡ a = omega (arith, r.0, r.1, q.0, q.1, u.0, u.1, low.0, high.0) in
      let upper : c / 4096 ≡ (a - 0xF0) * 64 + (b - 0x80) = omega (arith, q.0, q.1, u.0, u.1) in
      let second_is : 0x80 + c / 4096 % 64 ≡ b = rw upper (omega (arith, r.0, r.1, low.0, high.0)) in
      let lower : c / 64 ≡ ((a - 0xF0) * 64 + (b - 0x80)) * 64 + (d - 0x80) = omega (arith, u.0, u.1) in
      let third : 0x80 + c / 64 % 64 ≡ d = rw lower (omega (arith, q.0, q.1)) in
      let last : 0x80 + c % 64 ≡ e = omega (arith, r.0, r.1, q.0, q.1, u.0, u.1, low.0, high.0) in
      let large : 0x10000 ≤ c = le-or-lt a 0xF0
      (λ is. let z : a ≡ 0xF0 = omega arith in omega (arith, r.0, low.1.1 z))
      (λ more. omega (arith, r.0, low.0)) in
      let small : c ≤ 0x10FFFF = le-or-lt a 0xF3
      (λ below. omega (arith, r.1, q.1, u.1, high.0))
      (λ top. let z : a ≡ 0xF4 = omega arith in omega (arith, r.1, q.1, u.1, high.1.1 z)) in
      bytes_of-scalar c (scalar-high c (omega arith) small) ∙ encoded-four c large ∙ rw (first, second_is, third, last)

-- the code point at a text's front
module _ (t : List ℕ) (w : well_formed t ≡ true) (some : 0 < length t) where
  cons : t ≡ get_or t 0 0 ∷ drop 1 t
  cons = drop-cons t 0 0 some

  asks : (0 < announced (get_or t 0 0)) × (formed (asked (get_or t 0 0)) (drop 1 t) ≡ true)
  asks =
      let here : well_formed (get_or t 0 0 ∷ drop 1 t) ≡ true = rw cons at w in
      (ltb-true 0 _ (formed-lead (get_or t 0 0) (drop 1 t) here), formed-rest (get_or t 0 0) (drop 1 t) here)

  second_at : get_or (drop 1 t) 0 0 ≡ get_or t 1 0
  second_at = get_or-drop 1 t 0 0

  third_at : get_or (drop 1 (drop 1 t)) 0 0 ≡ get_or t 2 0
  third_at = get_or-drop 1 (drop 1 t) 0 0 ∙ get_or-drop 1 t 1 0

  fourth-at : get_or (drop 1 (drop 1 (drop 1 t))) 0 0 ≡ get_or t 3 0
  fourth-at = get_or-drop 1 (drop 1 (drop 1 t)) 0 0 ∙ get_or-drop 1 (drop 1 t) 1 0 ∙ get_or-drop 1 t 2 0

  front_bytes : bytes_of (code_at t 0) ≡ take (announced (get_or t 0 0)) t
  unfolding code_at
  front_bytes =
      let a : ℕ = get_or t 0 0 in
      let long = (char-at t 0 w (boundary-zero t w) some).inside in
      le-or-lt 0x80 a
      (λ high. le-or-lt 0xC2 a
      (λ two. le-or-lt 0xE0 a
      (λ three. le-or-lt 0xF0 a
      (λ four. le-or-lt 0xF5 a
      (λ past. absurd (omega (arith, asks.0, announced-past a past)))
      (λ below.
      let is = announced-four a four below in
      let e = rw (asked-four a four below) at asks.1 in
      let x = first-column (second a) (trail ∷ trail ∷ []) (drop 1 t) e in
      let y = first-column trail (trail ∷ []) (drop 1 (drop 1 t)) x.1 in
      let z = first-column trail [] (drop 1 (drop 1 (drop 1 t))) y.1 in
      rw is (four_bytes a (get_or t 1 0) (get_or t 2 0) (get_or t 3 0) four below (second-both a (rw second_at at x.0)) (trail-both (rw third_at at y.0)) (trail-both (rw fourth-at at z.0)) ∙ sym (front-four t (omega (arith, long, is))))))
      (λ below.
      let is = announced-three a three below in
      let e = rw (asked-three a three below) at asks.1 in
      let x = first-column (second a) (trail ∷ []) (drop 1 t) e in
      let y = first-column trail [] (drop 1 (drop 1 t)) x.1 in
      rw is (three-bytes a (get_or t 1 0) (get_or t 2 0) 0 three below (second-both a (rw second_at at x.0)) (trail-both (rw third_at at y.0)) ∙ sym (front-three t (omega (arith, long, is))))))
      (λ below.
      let is = announced-two a two below in
      let e = rw (asked-two a two below) at asks.1 in
      let x = first-column (second a) [] (drop 1 t) e in
      let r = second-both a (rw second_at at x.0) in
      rw is (two_bytes a (get_or t 1 0) 0 0 two below (omega (arith, r.0, (second-low a).0), omega (arith, r.1, (second-high a).0)) ∙ sym (front-two t (omega (arith, long, is))))))
      (λ none. absurd (omega (arith, asks.0, announced-none a high none))))
      (λ low.
      let is = announced-one a low in
      rw is (bytes_of-scalar a (scalar-low a (omega arith)) ∙ encoded-one a low ∙ sym (front-one t (omega arith))))

-- what is at p is the front of what is from p on
code-drop : (s : List ℕ) (p : ℕ) → code_at (drop p s) 0 ≡ code_at s p
unfolding code_at
code-drop s p =
    let z : p + 0 ≡ p = omega arith in
    rw (get_or-drop p s 0 0, get_or-drop p s (0 + 1) 0, get_or-drop p s (0 + 2) 0, get_or-drop p s (0 + 3) 0, z)

pub code-bytes : CodeBytes
code-bytes s p w e h =
    let long : length (drop p s) ≡ length s - p = length-drop p s in
    let z : p + 0 ≡ p = omega arith in
    let wide : p + announced (get_or s p 0) - p ≡ announced (get_or s p 0) = omega arith in
    sym (ap bytes_of (code-drop s p)) ∙ front_bytes (drop p s) (formed-drop s p w e) (omega arith) ∙ rw (get_or-drop p s 0 0, z, wide)

codes-skip : (k : ℕ) (s : List ℕ) → codes_from k s ≡ codes_of (drop k s)
unfolding codes_from codes_of
codes-skip zero s = refl
codes-skip (suc k) [] = refl
codes-skip (suc k) (b ∷ s) = codes-skip k s

-- a text's code points, one after the other
unrolled : (b : ℕ) (t : List ℕ) → codes_of (b ∷ t) ≡ code_at (b ∷ t) 0 ∷ codes_from (announced b - 1) t
unfolding codes_from codes_of
unrolled b t = refl

pub codes-none : codes_of [] ≡ []
unfolding codes_from codes_of
codes-none = refl

pub codes-cons : (s : List ℕ) (p : ℕ) → well_formed s ≡ true → boundary s p ≡ true → p < length s → codes_of (drop p s) ≡ code_at s p ∷ codes_of (drop (p + announced (get_or s p 0)) s)
codes-cons s p w e h =
    let first : codes_of (get_or s p 0 ∷ drop (suc p) s) ≡ code_at (get_or s p 0 ∷ drop (suc p) s) 0 ∷ codes_from (announced (get_or s p 0) - 1) (drop (suc p) s) = unrolled (get_or s p 0) (drop (suc p) s) in
    let far : suc p + (announced (get_or s p 0) - 1) ≡ p + announced (get_or s p 0) = omega (arith, (char-at s p w e h).positive) in
    ap codes_of (drop-cons s p 0 h) ∙ first
    ∙ rw (← drop-cons s p 0 h, code-drop s p, codes-skip (announced (get_or s p 0) - 1) (drop (suc p) s), drop-drop (announced (get_or s p 0) - 1) (suc p) s, far)

-- by fuel: the characters from p on
texts : (fuel : ℕ) (s : List ℕ) (p : ℕ) → well_formed s ≡ true → boundary s p ≡ true → length s ≤ p + fuel → text_of (codes_of (drop p s)) ≡ drop p s
unfolding text_of
texts zero s p w e h = let past : length s ≤ p = omega arith in rw (drop_of_length-le s past, codes-none)
texts (suc fuel) s p w e h =
    le-or-lt (length s) p
    (λ done. rw (drop_of_length-le s done, codes-none))
    (λ more.
    let here = char-at s p w e more in
    let wide : p + announced (get_or s p 0) - p ≡ announced (get_or s p 0) = omega arith in
    let rest : text_of (codes_of (drop (p + announced (get_or s p 0)) s)) ≡ drop (p + announced (get_or s p 0)) s = texts fuel s (p + announced (get_or s p 0)) w here.ends (omega (arith, here.positive)) in
    rw (codes-cons s p w e more, code-bytes s p w e more, rest, wide, ← drop-drop (announced (get_or s p 0)) p s)
    (take-append-drop (announced (get_or s p 0)) (drop p s)))

pub codes-text : CodesText
codes-text s w = texts (length s) s 0 w (boundary-zero s w) (omega arith)
