-- Laws of `boundary`: well-formed texts joined there, and cut there; what is between a boundary and the next one.
use Prim.Native.Nat.{ℕ, suc, ◌+◌, ◌-◌, ◌≤◌, ◌<◌}
use mathlib.Core.Path.{◌≡◌, ◌∙◌, refl, sym}
use mathlib.Core.Bool.{Bool, true, false, not, ◌&&◌}
use mathlib.Core.List.{List, [], ◌∷◌}
use mathlib.Mathlib.Data.Bool.Basic.{and_intro, and_elim_left, and_elim_right}
use native.Mathlib.Omega.{arith}
use lib.Dec.{leb, eqb}
use lib.ListN.{length, get_or, take, drop, length-drop, get_or-eq_default}
use lib.Seq.{drop-cons, get_or-drop}
use borrow.Author.Tests.{ltb-true, leb-true, le-leb, lt-leb, eq-eqb, ne_eqb, not-true}
use Rattle.buffers.specs.Splice.{part}
use Rattle.buffers.proofs.Cases.{le-or-lt}
use Rattle.buffers.proofs.Booleans.{and-false-l}
use Rattle.utf8.specs.Table.{within}
use Rattle.utf8.specs.Formed.{announced, asked, formed, well_formed, continues, boundary, char_range, BoundaryCuts}
use Rattle.utf8.specs.Lengths.{CharLen}
use Rattle.utf8.proofs.Formed.{none, announced-small, length-asked, asked-later, formed-lead, formed-rest, formed-cut, begins-after, asked-inside, asked-continue, asked-end}

pub boundary-most : (s : List ℕ) (i : ℕ) → boundary s i ≡ true → i ≤ length s
unfolding boundary
boundary-most s i e = leb-true i (length s) (and_elim_left (leb i (length s)) _ e)

pub boundary-begins : (s : List ℕ) (i : ℕ) → boundary s i ≡ true → continues (get_or s i 0) ≡ false
unfolding boundary
boundary-begins s i e = not-true (continues (get_or s i 0)) (and_elim_right (leb i (length s)) _ e)

pub boundary-at : (s : List ℕ) (i : ℕ) → i ≤ length s → continues (get_or s i 0) ≡ false → boundary s i ≡ true
unfolding boundary
boundary-at s i h e = and_intro (le-leb i (length s) h) (rw e)

pub boundary-length : (s : List ℕ) → boundary s (length s) ≡ true
unfolding continues within
boundary-length s = boundary-at s (length s) (omega arith) (rw (get_or-eq_default s 0 {n = length s} (omega arith)))

pub boundary-past : (s : List ℕ) (i : ℕ) → length s < i → boundary s i ≡ false
unfolding boundary
boundary-past s i h = and-false-l (leb i (length s)) _ (lt-leb i (length s) h)

-- the test that the code makes, before the end and from there on
pub boundary-lt : (s : List ℕ) (i : ℕ) {t : Bool} → i < length s → t ≡ continues (get_or s i 0) → not t ≡ boundary s i
unfolding boundary
boundary-lt s i h e = rw (e, le-leb i (length s) (omega arith))

pub boundary-ge : (s : List ℕ) (i : ℕ) → length s ≤ i → eqb i (length s) ≡ boundary s i
boundary-ge s i h =
    le-or-lt i (length s)
    (λ most. let end : i ≡ length s = omega arith in rw end (eq-eqb (length s) (length s) refl ∙ sym (boundary-length s)))
    (λ past. ne_eqb i (length s) (λ e. omega arith) ∙ sym (boundary-past s i past))

pub formed-take : (s : List ℕ) (i : ℕ) → well_formed s ≡ true → boundary s i ≡ true → well_formed (take i s) ≡ true
formed-take s i p e = (formed-cut [] s i none p (boundary-begins s i e)).0

pub formed-drop : (s : List ℕ) (i : ℕ) → well_formed s ≡ true → boundary s i ≡ true → well_formed (drop i s) ≡ true
formed-drop s i p e = (formed-cut [] s i none p (boundary-begins s i e)).1

pub boundary-of-take : (s : List ℕ) (i : ℕ) → well_formed s ≡ true → i ≤ length s → well_formed (take i s) ≡ true → boundary s i ≡ true
boundary-of-take s i p h q = boundary-at s i h (begins-after [] s i p q)

pub boundary-cuts : BoundaryCuts
boundary-cuts s i p h = ((λ e. (formed-take s i p e, formed-drop s i p e)), boundary-of-take s i p h)

pub boundary-zero : (s : List ℕ) → well_formed s ≡ true → boundary s 0 ≡ true
unfolding formed
boundary-zero s p = boundary-of-take s 0 p (omega arith) refl

pub formed-part : (s : List ℕ) (a e : ℕ) → well_formed s ≡ true → boundary s a ≡ true → boundary s e ≡ true → a ≤ e → well_formed (part s a e) ≡ true
formed-part s a e p q r h =
    let at : a + (e - a) ≡ e = omega arith in
    (formed-cut [] (drop a s) (e - a) none (formed-drop s a p q) (rw (get_or-drop a s (e - a) 0, at) (boundary-begins s e r))).0

-- w bytes from a on: one that begins a character, and those that continue it
pub record CharAt (s : List ℕ) (a w : ℕ) : Type 0 where
  pub positive : 1 ≤ w
  pub small : w ≤ 4
  pub inside : a + w ≤ length s
  pub rest : (k : ℕ) → a < k → k < a + w → continues (get_or s k 0) ≡ true
  pub ends : boundary s (a + w) ≡ true

pub char-at : (s : List ℕ) (a : ℕ) → well_formed s ≡ true → boundary s a ≡ true → a < length s → CharAt s a (announced (get_or s a 0))
char-at s a p e h =
    let b : ℕ = get_or s a 0 in
    let t : List ℕ = drop (suc a) s in
    let here : well_formed (b ∷ t) ≡ true = rw (drop-cons s a 0 h) at (formed-drop s a p e) in
    let more : formed (asked b) t ≡ true = formed-rest b t here in
    let some : 0 < announced b = ltb-true 0 (announced b) (formed-lead b t here) in
    let long : length (asked b) ≡ announced b - 1 = length-asked b in
    let fits : length (asked b) ≤ length s - suc a = rw (length-drop (suc a) s) at (asked-inside (asked b) t more) in
    let past : suc a + length (asked b) ≡ a + announced b = omega arith in
    record {
      positive = omega arith;
      small = announced-small b;
      inside = omega arith;
      rest = λ k from to.
          let place : suc a + (k - suc a) ≡ k = omega arith in
          rw (get_or-drop (suc a) s (k - suc a) 0, place) at (asked-continue (asked b) t (asked-later b) more (k - suc a) (omega arith));
      ends =
          boundary-at s (a + announced b) (omega arith)
          (rw (get_or-drop (suc a) s (length (asked b)) 0, past) at (asked-end (asked b) t more));
    }

pub char-len : {s : List ℕ} {i r : ℕ} → well_formed s ≡ true → boundary s i ≡ true → i < length s → r ≡ announced (get_or s i 0) → CharLen s i r
char-len {s} {i} p e h is =
    let here = char-at s i p e h in record { long = is; inside = rw is here.inside; ends = rw is here.ends }

-- a range from a boundary to a boundary
pub char-range-reversed : (s : List ℕ) (a e : ℕ) → e < a → false ≡ char_range s a e
unfolding char_range
char-range-reversed s a e h = rw (lt-leb a e h)

pub char-range-both : (s : List ℕ) (a e : ℕ) {x y : Bool} → a ≤ e → x ≡ boundary s a → y ≡ boundary s e → (x && y) ≡ char_range s a e
unfolding char_range
char-range-both s a e h p q = rw (p, q, le-leb a e h)

-- what a range from a boundary to a boundary has
pub record Between (s : List ℕ) (a e : ℕ) : Type 0 where
  pub onward : a ≤ e
  pub inside : e ≤ length s
  pub from_boundary : boundary s a ≡ true
  pub to_boundary : boundary s e ≡ true

pub char-range-between : (s : List ℕ) (a e : ℕ) → char_range s a e ≡ true → Between s a e
unfolding char_range
char-range-between s a e r =
    let two : (leb a e && boundary s a) ≡ true = and_elim_left _ (boundary s e) r in
    let end : boundary s e ≡ true = and_elim_right (leb a e && boundary s a) _ r in
    record {
      onward = leb-true a e (and_elim_left _ (boundary s a) two);
      inside = boundary-most s e end;
      from_boundary = and_elim_right (leb a e) _ two;
      to_boundary = end;
    }

pub between-char-range : (s : List ℕ) (a e : ℕ) → a ≤ e → boundary s a ≡ true → boundary s e ≡ true → char_range s a e ≡ true
between-char-range s a e h p q = sym (char-range-both s a e h (sym p) (sym q))
