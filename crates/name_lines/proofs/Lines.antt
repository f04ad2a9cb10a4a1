-- Laws of `lines_of`: where the first line ends, and that the others follow it.
use Prim.Native.Nat.{ℕ, suc, ◌+◌, ◌-◌, ◌≤◌, ◌<◌}
use mathlib.Core.Path.{◌≡◌, ◌∙◌, ap, refl, sym}
use mathlib.Core.Bool.{true, false, cond, ◌&&◌}
use mathlib.Core.List.{List, [], ◌∷◌}
use mathlib.Mathlib.Data.Bool.Basic.{and_elim_right}
use native.Mathlib.Omega.{arith}
use native.Mathlib.Numerals.{add-one}
use lib.Dec.{eqb}
use lib.ListN.{length, take, drop, get_or, length-drop, drop_of_length-le, get_or-eq_default}
use lib.Seq.{drop-cons, drop-drop, get_or-drop}
use borrow.Author.Tests.{eq-eqb, ne_eqb}
use Rattle.buffers.specs.Splice.{part}
use Rattle.buffers.proofs.Cases.{true-or-false, clash}
use Rattle.buffers.proofs.Booleans.{and_false_r}
use Rattle.name_lines.specs.Lines.{lines_of, in_front}
use Rattle.name_lines.specs.Reading.{end_len, line_len}

-- what ends a line at i
end-drop : (s : List ℕ) (i : ℕ) → end_len (drop i s) 0 ≡ end_len s i
unfolding end_len
end-drop s i = let here : i + 0 ≡ i = omega arith in rw (get_or-drop i s 0 0, get_or-drop i s 1 0, here)

module _ (s : List ℕ) (i : ℕ) where
  pub end-past : length s ≤ i → 0 ≡ end_len s i
  unfolding end_len
  end-past h = rw (get_or-eq_default s 0 h)

  pub end-feed : get_or s i 0 ≡ 0x0A → 1 ≡ end_len s i
  unfolding end_len
  end-feed is = rw (eq-eqb _ _ is)

  module _ (other : get_or s i 0 ≡ 0x0A → ⊥) where
    pub end-last : length s - i < 2 → 0 ≡ end_len s i
    unfolding end_len
    end-last h =
        rw (ne_eqb _ _ other, get_or-eq_default s 0 {n = i + 1} (omega arith), and_false_r (eqb (get_or s i 0) 0x0D) false refl)

    pub end-return : (eqb (get_or s i 0) 0x0D && eqb (get_or s (i + 1) 0) 0x0A) ≡ true → 2 ≡ end_len s i
    unfolding end_len
    end-return is = rw (ne_eqb _ _ other, is)

    pub end_none : (eqb (get_or s i 0) 0x0D && eqb (get_or s (i + 1) 0) 0x0A) ≡ false → 0 ≡ end_len s i
    unfolding end_len
    end_none is = rw (ne_eqb _ _ other, is)

end-front : (s : List ℕ) → end_len s 0 ≤ length s
unfolding end_len
end-front [] = omega arith
end-front (b ∷ []) =
    true-or-false (eqb b 0x0A)
    (λ t. rw t (omega arith))
    (λ f. rw (f, and_false_r (eqb b 0x0D) false refl) (omega arith))
end-front (b ∷ c ∷ s) =
    true-or-false (eqb b 0x0A)
    (λ t. rw t (omega arith))
    (λ f. true-or-false (eqb b 0x0D && eqb c 0x0A) (λ u. rw (f, u) (omega arith)) (λ u. rw (f, u) (omega arith)))

end-most : (s : List ℕ) (i : ℕ) → end_len s i ≤ length s - i
end-most s i = rw (end-drop s i, length-drop i s) at (end-front (drop i s))

-- where the first line ends, byte by byte
len-cons : (b : ℕ) (s : List ℕ) → line_len (b ∷ s) ≡ cond (eqb (end_len (b ∷ s) 0) 0) (suc (line_len s)) 0
unfolding line_len
len-cons b s = refl

len-nil : line_len [] ≡ 0
unfolding line_len
len-nil = refl

len-most : (s : List ℕ) → line_len s ≤ length s
len-most [] = omega (arith, len-nil)
len-most (b ∷ s) =
    true-or-false (eqb (end_len (b ∷ s) 0) 0)
    (λ t. rw (len-cons b s, t) (omega (arith, len-most s)))
    (λ f. rw (len-cons b s, f) (omega arith))

len-at : (s : List ℕ) (i : ℕ) → i < length s → line_len (drop i s) ≡ cond (eqb (end_len s i) 0) (suc (line_len (drop (i + 1) s))) 0
len-at s i h =
    let cut = drop-cons s i 0 h in
    ap line_len cut ∙ len-cons (get_or s i 0) (drop (suc i) s) ∙ rw (← cut, add-one i, end-drop s i)

-- the line that begins at start goes on to i
pub record Within (s : List ℕ) (start i : ℕ) : Type 0 where
  pub most : i ≤ length s
  pub so_far : i + line_len (drop i s) ≡ start + line_len (drop start s)

pub none_within : {s : List ℕ} {start : ℕ} → start ≤ length s → Within s start start
none_within h = record { most = h; so_far = refl }

module _ {s : List ℕ} {start i : ℕ} (w : Within s start i) where
  module _ (h : i < length s) {r : ℕ} (told : r ≡ end_len s i) where
    pub byte-within : r ≡ 0 → Within s start (i + 1)
    byte-within none =
        let here : line_len (drop i s) ≡ suc (line_len (drop (i + 1) s)) = len-at s i h ∙ rw (← told, none) in
        record { most = omega arith; so_far = omega (arith, w.so_far, here) }

    pub line-ends : (r ≡ 0 → ⊥) → i ≡ start + line_len (drop start s)
    line-ends some =
        let here : line_len (drop i s) ≡ 0 = len-at s i h ∙ rw (← told, ne_eqb r 0 some) in
        omega (arith, w.so_far, here)

  pub text-ends : length s ≤ i → i ≡ start + line_len (drop start s)
  text-ends h = omega (arith, w.so_far, ap line_len (drop_of_length-le s h) ∙ len-nil)

-- the first line, and the others
pub lines-nil : lines_of [] ≡ []
unfolding lines_of
lines-nil = refl

lines_cons : (b : ℕ) (s : List ℕ) → lines_of (b ∷ s) ≡ cond (eqb b 0x0A) ([] ∷ lines_of s) (cond (eqb b 0x0D && eqb (get_or s 0 0) 0x0A) (lines_of s) (in_front b (lines_of s)))
unfolding lines_of
lines_cons b s = refl

end-cons : (b : ℕ) (s : List ℕ) → end_len (b ∷ s) 0 ≡ cond (eqb b 0x0A) 1 (cond (eqb b 0x0D && eqb (get_or s 0 0) 0x0A) 2 0)
unfolding end_len
end-cons b s = refl

-- the first line of s has n bytes, and e bytes end it
pub record First (s : List ℕ) (n e : ℕ) : Type 0 where
  pub long : line_len s ≡ n
  pub ended : end_len s n ≡ e
  pub some : 0 < n + e
  pub lines_are : lines_of s ≡ take n s ∷ lines_of (drop (n + e) s)

feed-front : (s : List ℕ) → eqb (get_or s 0 0) 0x0A ≡ true → lines_of s ≡ [] ∷ lines_of (drop 1 s)
feed-front [] e = clash false e refl
feed-front (b ∷ s) e = lines_cons b s ∙ rw e

module _ (b : ℕ) (s : List ℕ) where
  first-feed : eqb b 0x0A ≡ true → First (b ∷ s) 0 1
  first-feed e =
      let ends : end_len (b ∷ s) 0 ≡ 1 = end-cons b s ∙ rw e in
      record { long = len-cons b s ∙ rw ends; ended = ends; some = omega arith; lines_are = lines_cons b s ∙ rw e }

  module _ (other : eqb b 0x0A ≡ false) where
    first-return : (eqb b 0x0D && eqb (get_or s 0 0) 0x0A) ≡ true → First (b ∷ s) 0 2
    first-return e =
        let ends : end_len (b ∷ s) 0 ≡ 2 = end-cons b s ∙ rw (other, e) in
        record {
          long = len-cons b s ∙ rw ends;
          ended = ends;
          some = omega arith;
          lines_are = lines_cons b s ∙ rw (other, e) (feed-front s (and_elim_right (eqb b 0x0D) _ e));
        }

    module _ (none : (eqb b 0x0D && eqb (get_or s 0 0) 0x0A) ≡ false) where
      more : line_len (b ∷ s) ≡ suc (line_len s)
      more = let ends : end_len (b ∷ s) 0 ≡ 0 = end-cons b s ∙ rw (other, none) in len-cons b s ∙ rw ends

      end-byte : (n : ℕ) → end_len (b ∷ s) (suc n) ≡ end_len s n
      end-byte n = sym (end-drop (b ∷ s) (suc n)) ∙ end-drop s n

      first_byte : {n e : ℕ} → First s n e → First (b ∷ s) (suc n) e
      first_byte {n} {e} rest =
          let on : suc n + e ≡ suc (n + e) = omega arith in
          record {
            long = more ∙ ap suc rest.long;
            ended = end-byte n ∙ rest.ended;
            some = omega arith;
            lines_are = lines_cons b s ∙ rw (other, none, rest.lines_are, on);
          }

first-last : (b : ℕ) → eqb b 0x0A ≡ false → First (b ∷ []) 1 0
first-last b other =
    let none : (eqb b 0x0D && eqb (get_or {A = ℕ} [] 0 0) 0x0A) ≡ false = and_false_r (eqb b 0x0D) false refl in
    record {
      long = more b [] other none ∙ rw len-nil;
      ended = sym (end-past (b ∷ []) 1 (omega arith));
      some = omega arith;
      lines_are = lines_cons b [] ∙ rw (other, none, lines-nil);
    }

-- some first line
pub record SomeFirst (s : List ℕ) : Type 0 where
  pub n : ℕ
  pub e : ℕ
  pub first : First s n e

lines-first : (s : List ℕ) → 0 < length s → SomeFirst s
lines-first [] h = absurd (omega arith)
lines-first (b ∷ []) h =
    true-or-false (eqb b 0x0A)
    (λ t. record { n = 0; e = 1; first = first-feed b [] t })
    (λ f. record { n = 1; e = 0; first = first-last b f })
lines-first (b ∷ c ∷ s) h =
    let rest : SomeFirst (c ∷ s) = lines-first (c ∷ s) (omega arith) in
    true-or-false (eqb b 0x0A)
    (λ t. record { n = 0; e = 1; first = first-feed b (c ∷ s) t })
    (λ f. true-or-false (eqb b 0x0D && eqb c 0x0A)
    (λ t. record { n = 0; e = 2; first = first-return b (c ∷ s) f t })
    (λ g. record { n = suc rest.n; e = rest.e; first = first_byte b (c ∷ s) f g rest.first }))

-- the line that begins at `start`, ends at `end`, and is followed by the one at `next`
pub record LineAt (text : List ℕ) (start end next : ℕ) : Type 0 where
  pub onward : start ≤ end
  pub inside : end ≤ next
  pub past : start < next
  pub most : next ≤ length text
  pub lines_are : lines_of (drop start text) ≡ part text start end ∷ lines_of (drop next text)

module _ (text : List ℕ) (start : ℕ) {end : ℕ} (is : end ≡ start + line_len (drop start text)) where
  pub line-inside : start ≤ length text → (start ≤ end) × (end ≤ length text)
  line-inside h =
      let most : line_len (drop start text) ≤ length text - start = rw (length-drop start text) at (len-most (drop start text)) in
      (omega arith, omega arith)

  end_later : (n : ℕ) → end_len (drop start text) n ≡ end_len text (start + n)
  end_later n = sym (end-drop (drop start text) n) ∙ rw (drop-drop n start text) (end-drop text (start + n))

  pub line_at : {e : ℕ} → start < length text → e ≡ end_len text end → LineAt text start end (end + e)
  line_at {e} h ends =
      let inside = line-inside (omega arith) in
      let some : SomeFirst (drop start text) = lines-first (drop start text) (rw (length-drop start text) (omega arith)) in
      let f = some.first in
      let long : some.n ≡ end - start = omega (arith, f.long) in
      let on : start + some.n ≡ end = omega (arith, f.long) in
      let ended : some.e ≡ e = sym f.ended ∙ end_later some.n ∙ rw (on, ← ends) in
      let far : start + (some.n + some.e) ≡ end + e = omega arith in
      let most : e ≤ length text - end = rw ends (end-most text end) in
      record {
        onward = inside.0;
        inside = omega arith;
        past = omega (arith, f.some);
        most = omega arith;
        lines_are = f.lines_are ∙ rw (drop-drop (some.n + some.e) start text, far, long);
      }
