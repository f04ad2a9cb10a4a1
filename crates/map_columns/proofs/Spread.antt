-- Laws of `spread`: what code points carry of a column, byte by byte of the text, and where the column is copied.
use Prim.Native.Nat.{ℕ, zero, suc, ◌+◌, ◌-◌, ◌≤◌, ◌<◌}
use mathlib.Core.Path.{◌≡◌, ◌∙◌, ap, refl, sym}
use mathlib.Core.Bool.{Bool, true, false, cond, not}
use mathlib.Core.List.{List, [], ◌∷◌, ◌++◌}
use mathlib.Mathlib.Data.Bool.Basic.{and_elim_left, and_elim_right}
use native.Mathlib.Numerals.{add-one}
use native.Mathlib.Omega.{arith}
use mir.Val.{bool_byte}
use lib.ListN.{length, get_or, drop, replicate, length-append, length-replicate, get_or-replicate, drop_of_length-le, get_or-append}
use lib.Seq.{drop-cons, ext_get_or, get_or-append-add}
use Rattle.buffers.specs.Splice.{part}
use Rattle.buffers.specs.Over.{Over}
use Rattle.buffers.proofs.Cases.{le-or-lt, true-or-false}
use Rattle.buffers.proofs.Splice.{length_part, part-index, part-append}
use Rattle.utf8.specs.Formed.{continues}
use Rattle.utf8.specs.Chars.{leads}
use Rattle.utf8.specs.Scalar.{scalar, bytes_of}
use Rattle.utf8.proofs.Chars.{lead-one, lead_zero, leads-drop}
use Rattle.utf8.specs.Scalar.{len_utf8}
use Rattle.utf8.proofs.LenUtf8.{size_most, bool-most}
use Rattle.code_point_blocks.specs.Codes.{text_of, all_scalar}
use Rattle.code_point_blocks.proofs.Parts.{Parts, parts-size, one-part, all-parts}
use Rattle.map_columns.specs.Spreading.{of_chars, spread}
use Rattle.map_columns.specs.Laying.{Steady, SpreadRoom, CharsRoom, CharsLaid}
use Rattle.map_columns.proofs.Bytes.{Character, character}
use Rattle.map_columns.proofs.Chars.{new-char, old-char, char_of, leads-of}

pub spread-on : (c x : ℕ) (cs xs : List ℕ) {r : List ℕ} → r ≡ spread cs xs → replicate (len_utf8 c) x ++ r ≡ spread (c ∷ cs) (x ∷ xs)
unfolding spread
spread-on c x cs xs e = ap (◌++◌ (replicate (len_utf8 c) x)) e

-- no more than the code points have bytes
pub spread-most : (cs xs : List ℕ) → length (spread cs xs) ≤ length (text_of cs)
unfolding spread text_of len_utf8
spread-most [] xs = omega arith
spread-most (c ∷ cs) [] = omega arith
spread-most (c ∷ cs) (x ∷ xs) =
    omega (arith, length-append (replicate (length (bytes_of c)) x) (spread cs xs), length-replicate (length (bytes_of c)) x, length-append (bytes_of c) (text_of cs), spread-most cs xs)

-- and as many, where there is a value for each
pub spread-all : (cs xs : List ℕ) → length cs ≤ length xs → length (spread cs xs) ≡ length (text_of cs)
unfolding spread text_of len_utf8
spread-all [] xs h = refl
spread-all (c ∷ cs) [] h = absurd (omega arith)
spread-all (c ∷ cs) (x ∷ xs) h =
    omega (arith, length-append (replicate (length (bytes_of c)) x) (spread cs xs), length-replicate (length (bytes_of c)) x, length-append (bytes_of c) (text_of cs), spread-all cs xs (omega arith))

pub spread_end : (cs : List ℕ) {i : ℕ} (xs : List ℕ) → length cs ≤ i → spread (drop i cs) xs ≡ []
unfolding spread
spread_end cs xs h = rw (drop_of_length-le cs h)

-- one byte of the text: it begins the next code point's character, or it does not
module _ (s xs : List ℕ) (same : length xs ≡ length s) (cs : List ℕ) (i q : ℕ) (h : i < length cs) (more : q < length s) where
  abbrev left : ℕ → ℕ → List ℕ
  left j r = spread (drop j cs) (of_chars (drop r s) (drop r xs))

  begins : continues (get_or s q 0) ≡ false → left i q ≡ replicate (len_utf8 (get_or cs i 0)) (get_or xs q 0) ++ left (i + 1) (q + 1)
  unfolding spread
  begins new =
      rw (drop-cons cs i 0 h, drop-cons s q 0 more, drop-cons xs q 0 (omega arith), new-char (get_or s q 0) (get_or xs q 0) (drop (suc q) s) (drop (suc q) xs) new, add-one i, add-one q)

  goes_on : continues (get_or s q 0) ≡ true → left i q ≡ left i (q + 1)
  goes_on old =
      rw (drop-cons s q 0 more, drop-cons xs q 0 (omega arith), old-char (get_or s q 0) (get_or xs q 0) (drop (suc q) s) (drop (suc q) xs) old, add-one q)

  pub byte_left : {t : Bool} {wide size : ℕ} → t ≡ continues (get_or s q 0) → wide ≡ len_utf8 (get_or cs i 0) → size ≡ cond (not t) wide 0 → left i q ≡ replicate size (get_or xs q 0) ++ left (i + bool_byte (not t)) (q + 1)
  byte_left {t} {wide} {size} is w z =
      true-or-false t
      (λ e.
      let none : size ≡ 0 = z ∙ rw e in
      let stays : i + 0 ≡ i = omega arith in
      rw (none, e, stays) (goes_on (sym is ∙ e)))
      (λ e.
      let all : size ≡ len_utf8 (get_or cs i 0) = z ∙ rw (e, w) in
      rw (all, e) (begins (sym is ∙ e)))

  pub byte-counted : {t : Bool} → t ≡ continues (get_or s q 0) → leads (drop q s) ≡ bool_byte (not t) + leads (drop (q + 1) s)
  byte-counted {t} is =
      leads-drop s q more ∙ true-or-false t (λ e. rw (lead_zero (get_or s q 0) (sym is ∙ e), e)) (λ e. rw (lead-one (get_or s q 0) (sym is ∙ e), e))

-- the code points before i carry what they do
pub record Carried (s xs : List ℕ) (p : ℕ) (cs d₀ : List ℕ) (from until : ℕ) (d : List ℕ) (q at i : ℕ) : Type 0 where
  pub parts : Parts (spread cs (of_chars (drop p s) (drop p xs))) (spread (drop i cs) (of_chars (drop q s) (drop q xs))) d₀ from until at d

module _ {s xs : List ℕ} {p : ℕ} {cs d₀ : List ℕ} {from until : ℕ} (r : SpreadRoom s xs cs d₀ from until) {d : List ℕ} {q at i : ℕ}
    (k : Carried s xs p cs d₀ from until d q at i) (h : i < length cs) (more : q < length s) {t : Bool} (is : t ≡ continues (get_or s q 0))
    {wide size : ℕ} (w : wide ≡ len_utf8 (get_or cs i 0)) (z : size ≡ cond (not t) wide 0) where
  step : spread (drop i cs) (of_chars (drop q s) (drop q xs)) ≡ replicate size (get_or xs q 0) ++ spread (drop (i + bool_byte (not t)) cs) (of_chars (drop (q + 1) s) (drop (q + 1) xs))
  step = byte_left s xs r.one_each cs i q h more is w z

  few : size ≤ 4
  few = true-or-false t (λ e. let none : size ≡ 0 = z ∙ rw e in omega arith) (λ e. let all : size ≡ len_utf8 (get_or cs i 0) = z ∙ rw (e, w) in omega (arith, size_most (get_or cs i 0)))

  pub char-room : (at + size ≤ length d) × ((until ≤ length d) × (size ≤ 4))
  char-room =
      let rest : List ℕ = spread (drop (i + bool_byte (not t)) cs) (of_chars (drop (q + 1) s) (drop (q + 1) xs)) in
      let long : length (spread (drop i cs) (of_chars (drop q s) (drop q xs))) ≡ size + length rest = ap length step ∙ length-append (replicate size (get_or xs q 0)) rest ∙ rw (length-replicate size (get_or xs q 0)) in
      (omega (arith, parts-size k.parts, long, spread-most cs (of_chars (drop p s) (drop p xs)), r.room, k.parts.over.same), (omega (arith, r.bounded, k.parts.over.same), few))

  pub char-laid : {d₁ : List ℕ} → Over (replicate size (get_or xs q 0)) d at until d₁ → Carried s xs p cs d₀ from until d₁ (q + 1) (at + size) (i + bool_byte (not t))
  char-laid o =
      record { parts = one-part k.parts (replicate size (get_or xs q 0)) (spread (drop (i + bool_byte (not t)) cs) (of_chars (drop (q + 1) s) (drop (q + 1) xs))) step (rw (length-replicate size (get_or xs q 0))) o }

pub all-carried : {s xs : List ℕ} {p : ℕ} {cs d₀ : List ℕ} {from until : ℕ} {d : List ℕ} {q at i : ℕ} → Carried s xs p cs d₀ from until d q at i → length cs ≤ i → Over (spread cs (of_chars (drop p s) (drop p xs))) d₀ from until d
all-carried {s} {xs} {cs = cs} {q = q} k h = (all-parts k.parts (spread_end cs (of_chars (drop q s) (drop q xs)) h)).1

-- both columns
pub record Spreading (s starts ends : List ℕ) (p : ℕ) (cs starts₀ ends₀ : List ℕ) (from until : ℕ) (starts₁ ends₁ : List ℕ) (q at i : ℕ) : Type 0 where
  pub most : i ≤ length cs
  pub inside : q ≤ length s
  pub counted : leads (drop p s) ≡ i + leads (drop q s)
  pub starts_carried : Carried s starts p cs starts₀ from until starts₁ q at i
  pub ends_carried : Carried s ends p cs ends₀ from until ends₁ q at i

module _ {s starts ends : List ℕ} {p : ℕ} {cs starts₀ ends₀ : List ℕ} {from until : ℕ} (r : CharsRoom s starts ends p cs starts₀ ends₀ from until) {starts₁ ends₁ : List ℕ} {q at i : ℕ} (k : Spreading s starts ends p cs starts₀ ends₀ from until starts₁ ends₁ q at i) where
  pub more-text : i < length cs → q < length s
  unfolding leads
  more-text h =
      le-or-lt (length s) q
      (λ past. let none : leads (drop q s) ≡ 0 = rw (drop_of_length-le s past) in absurd (omega (arith, k.counted, r.enough, none)))
      (λ below. below)

  pub one-spread : (h : i < length cs) {t : Bool} → t ≡ continues (get_or s q 0) → {wide size : ℕ} → wide ≡ len_utf8 (get_or cs i 0)
      → size ≡ cond (not t) wide 0 → {starts₂ ends₂ : List ℕ} → Over (replicate size (get_or starts q 0)) starts₁ at until starts₂
      → Over (replicate size (get_or ends q 0)) ends₁ at until ends₂
      → Spreading s starts ends p cs starts₀ ends₀ from until starts₂ ends₂ (q + 1) (at + size) (i + bool_byte (not t))
  one-spread h {t} is w z o e =
      record {
        most = omega (arith, bool-most (not t));
        inside = omega (arith, more-text h);
        counted = omega (arith, k.counted, byte-counted s starts r.starts_room.one_each cs i q h (more-text h) is);
        starts_carried = char-laid r.starts_room k.starts_carried h (more-text h) is w z o;
        ends_carried = char-laid r.ends_room k.ends_carried h (more-text h) is w z e;
      }

  pub all-spread : length cs ≤ i → CharsLaid s starts ends p cs starts₀ ends₀ from until q starts₁ ends₁
  all-spread h =
      record {
        passed = record { most = k.inside; counted = omega (arith, k.counted, k.most) };
        starts_over = all-carried k.starts_carried h;
        ends_over = all-carried k.ends_carried h;
      }

-- a text whose characters begin where those of the code points do
steady-run : (s xs : List ℕ) → Steady s xs → (p w : ℕ) → 0 < w → p + w ≤ length s → length xs ≡ length s → ((i : ℕ) → p < i → i < p + w → continues (get_or s i 0) ≡ true) → replicate w (get_or xs p 0) ≡ part xs p (p + w)
steady-run s xs steady p w some h same goes =
    let wide : length (part xs p (p + w)) ≡ p + w - p = length_part xs p (p + w) (omega arith) in
    ext_get_or 0 (replicate w (get_or xs p 0)) (part xs p (p + w))
    (length-replicate w (get_or xs p 0) ∙ omega (arith, wide))
    (λ i k.
    let below : i < w = rw (length-replicate w (get_or xs p 0)) at k in
    get_or-replicate w i (get_or xs p 0) 0 below ∙ sym (part-index xs p (p + w) i (omega arith) ∙ sym (alike i below)))
  where
    alike : (i : ℕ) → i < w → get_or xs p 0 ≡ get_or xs (p + i) 0
    alike zero k = let z : p + 0 ≡ p = omega arith in rw z
    alike (suc i) k =
        let z : p + suc i ≡ suc (p + i) = omega arith in
        rw z (alike i (omega arith) ∙ steady (p + i) (omega arith) (goes (suc (p + i)) (omega arith) (omega arith)))

module _ (s xs : List ℕ) (same : length xs ≡ length s) (steady : Steady s xs) where
  pub copied : (cs : List ℕ) (p : ℕ) → all_scalar cs ≡ true → p + length (text_of cs) ≤ length s
      → ((i : ℕ) → i < length (text_of cs) → continues (get_or s (p + i) 0) ≡ continues (get_or (text_of cs) i 0))
      → (spread cs (of_chars (drop p s) (drop p xs)) ≡ part xs p (p + length (text_of cs))) × (leads (drop p s) ≡ length cs + leads (drop (p + length (text_of cs)) s))
  unfolding spread text_of all_scalar len_utf8
  copied [] p ok h alike =
      let z : p + 0 ≡ p = omega arith in
      let y : p - p ≡ 0 = omega arith in
      (rw (z, y), rw z (omega arith))
  copied (c ∷ cs) p ok h alike =
      let scalars = and_elim_right (scalar c) (all_scalar cs) ok in
      let here : Character (bytes_of c) = character c (and_elim_left (scalar c) (all_scalar cs) ok) in
      let w : ℕ = length (bytes_of c) in
      let n : ℕ = length (text_of cs) in
      let both : length (bytes_of c ++ text_of cs) ≡ w + n = length-append (bytes_of c) (text_of cs) in
      let fits : p + w ≤ length s = omega (arith, both) in
      let new : continues (get_or s p 0) ≡ false =
      let z : p + 0 ≡ p = omega arith in
      (rw z at (alike 0 (omega (arith, both, here.some)))) ∙ rw (get_or-append (bytes_of c) (text_of cs) 0 0 here.some) here.begins in
      let goes : (i : ℕ) → p < i → i < p + w → continues (get_or s i 0) ≡ true =
      λ i a b.
      let z : p + suc (i - p - 1) ≡ i = omega arith in
      (rw z at (alike (suc (i - p - 1)) (omega (arith, both)))) ∙ rw (get_or-append (bytes_of c) (text_of cs) 0 (suc (i - p - 1)) (omega arith)) (here.goes_on (i - p - 1) (omega arith)) in
      let rest = copied cs (p + w) scalars (omega (arith, both)) (λ i k.
      let z : p + w + i ≡ p + (w + i) = omega arith in
      rw z (alike (w + i) (omega (arith, both)) ∙ rw (get_or-append-add (bytes_of c) (text_of cs) i 0))) in
      let far : p + w + n ≡ p + length (bytes_of c ++ text_of cs) = omega (arith, both) in (
        rw (char_of s xs same w p here.some fits new goes, rest.0, far, steady-run s xs steady p w here.some fits same goes) (part-append xs p (p + w) (p + length (bytes_of c ++ text_of cs)) (omega arith) (omega (arith, both))),
        omega (arith, leads-of s xs same w p here.some fits new goes, rw far at rest.1),
      )
