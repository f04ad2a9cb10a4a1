-- The slice as a note: it is sound, it is in its note where its numbers say, and a slice of it is one of the note.
use Prim.Native.Nat.{ℕ, suc, ◌+◌, ◌-◌, ◌≤◌, ◌<◌}
use mathlib.Core.Path.{◌≡◌, ◌∙◌, ap, refl, sym}
use mathlib.Core.Bool.{true}
use mathlib.Core.List.{List}
use mathlib.Mathlib.Data.Bool.Basic.{and_intro, and_elim_right}
use native.Mathlib.Omega.{arith}
use lib.ListN.{length, get_or, length-take}
use lib.Seq.{ext_get_or}
use borrow.Author.Tests.{eq-eqb, le-leb}
use Rattle.std.specs.Prelude.{Ok}
use Rattle.buffers.specs.Splice.{part}
use Rattle.buffers.proofs.Cases.{le-or-lt}
use Rattle.buffers.proofs.Splice.{length_part, part-index, part_at}
use Rattle.utf8.specs.Formed.{boundary}
use Rattle.utf8.proofs.Boundaries.{boundary-most, boundary-begins, boundary-at, boundary-length, Between}
use Rattle.note.specs.Notes.{Note, lent, paired, texts_formed, start_at, end_at, Sound}
use Rattle.note.proofs.Sound.{length-starts, length-ends, inside-at, boundaries-at, shared_at, forward-at, aligned-from}
use Rattle.convert.specs.declared.Range.{Range}
use Rattle.convert.specs.Converting.{in_original, in_normalized}
use Rattle.convert.proofs.Conversions.{expanded-inside}
use Rattle.slice.specs.Slicing.{valid_range, slice_of, sliced, lowered, sliced_column, slice_note, SliceSound}
use Rattle.slice.specs.Bytes.{Stands, SliceStands, normalized_slice, SliceOfSlice}
use Rattle.slice.proofs.Lowered.{length-lowered, getD-lowered, part-lowered, lowered-lowered}
use Rattle.slice.proofs.Cutting.{Cutting, alignments-on, original-found, normalized-own}
use Rattle.slice.proofs.Judged.{sliced-is, accepted-note, accepted-valid, accepted-cutting}

part-most : (s : List ℕ) (a b : ℕ) → length (part s a b) ≤ b - a
part-most s a b = simp length-take (omega arith)

-- the note of the transcript's bytes a..b and the cleaned text's c..d
abbrev note_at : Note → ℕ → ℕ → ℕ → ℕ → Note
note_at n a b c d =
    lent (part n.original a b) (part n.normalized c d) (lowered a (part n.starts c d)) (lowered a (part n.ends c d)) (n.original_shift + a)

module _ (n : Note) (range : Range) (k : Cutting n range) where
  slice-note : slice_note n (sliced n range) ≡ note_at n k.a k.b k.c k.d
  unfolding slice_note sliced_column slice_of
  slice-note = rw (sliced-is n range k)

-- a boundary of a text between two others is one of the part between them
boundary-part : (s : List ℕ) (a b p : ℕ) → b ≤ length s → a ≤ p → p ≤ b → boundary s p ≡ true → boundary (part s a b) (p - a) ≡ true
boundary-part s a b p most from to e =
    let long : length (part s a b) ≡ b - a = length_part s a b most in
    le-or-lt b p
    (λ end. let at : p - a ≡ length (part s a b) = omega arith in rw at (boundary-length (part s a b)))
    (λ before. boundary-at (part s a b) (p - a) (omega arith) (rw (part_at s a b p from before) (boundary-begins s p e)))

module _ (n : Note) (sound : Sound n) (range : Range) (k : Cutting n range) where
  abbrev m : Note
  m = note_at n k.a k.b k.c k.d

  long : length m.normalized ≡ k.d - k.c
  long = length_part n.normalized k.c k.d k.inside

  starts_long : length m.starts ≡ k.d - k.c
  starts_long = length-lowered k.a (part n.starts k.c k.d) ∙ length_part n.starts k.c k.d (omega (arith, k.inside, length-starts n sound))

  ends_long : length m.ends ≡ k.d - k.c
  ends_long = length-lowered k.a (part n.ends k.c k.d) ∙ length_part n.ends k.c k.d (omega (arith, k.inside, length-ends n sound))

  start_is : (i : ℕ) → i < length m.normalized → start_at m i ≡ start_at n (k.c + i) - k.a
  start_is i h =
      getD-lowered k.a (part n.starts k.c k.d) i
      ∙ ap (λ (x : ℕ). x - k.a) (part-index n.starts k.c k.d i (omega (arith, long)))

  end_is : (i : ℕ) → i < length m.normalized → end_at m i ≡ end_at n (k.c + i) - k.a
  end_is i h =
      getD-lowered k.a (part n.ends k.c k.d) i
      ∙ ap (λ (x : ℕ). x - k.a) (part-index n.ends k.c k.d i (omega (arith, long)))

  -- the alignment that a byte of the slice has in the note
  pub record Here (i : ℕ) : Type 0 where
    pub inside : k.c + i < length n.normalized
    pub above : k.a ≤ start_at n (k.c + i)
    pub in_order : start_at n (k.c + i) ≤ end_at n (k.c + i)
    pub below : end_at n (k.c + i) ≤ k.b
    pub lies : Between n.original k.a k.b

  here : (i : ℕ) → i < length m.normalized → Here i
  here i h =
      let at : k.c + i < k.d = omega (arith, long) in
      let in_text : k.c + i < length n.normalized = omega (arith, k.inside) in
      record {
        inside = in_text;
        above = k.above (k.c + i) (omega arith) at;
        in_order = (inside-at n sound (k.c + i) in_text).0;
        below = k.below (k.c + i) (omega arith) at;
        lies = k.original_lies (omega arith);
      }

  pub cut-sound : Sound (note_at n k.a k.b k.c k.d)
  unfolding paired texts_formed
  cut-sound =
      record {
        has_pairs = and_intro (eq-eqb _ _ (starts_long ∙ sym long)) (eq-eqb _ _ (ends_long ∙ sym long));
        has_texts = and_intro k.original_part k.normalized_part;
        has_alignments =
            aligned-from m
            (record {
              in_order = λ i h. rw (start_is i h, end_is i h) (omega (arith, (here i h).in_order));
              most = λ i h. rw (end_is i h) (omega (arith, (here i h).below, length_part n.original k.a k.b (here i h).lies.inside));
              start_stands = λ i h.
                  let w : Here i = here i h in
                  rw (start_is i h) (boundary-part n.original k.a k.b (start_at n (k.c + i)) w.lies.inside w.above (omega (arith, w.in_order, w.below)) (boundaries-at n sound (k.c + i) w.inside).0);
              end_stands = λ i h.
                  let w : Here i = here i h in
                  rw (end_is i h) (boundary-part n.original k.a k.b (end_at n (k.c + i)) w.lies.inside (omega (arith, w.in_order, w.above)) w.below (boundaries-at n sound (k.c + i) w.inside).1);
              shares = λ i h more.
                  let j : k.c + suc i ≡ suc (k.c + i) = omega arith in
                  let w : Here (suc i) = here (suc i) h in
                  let byte : get_or m.normalized (suc i) 0 ≡ get_or n.normalized (suc (k.c + i)) 0 = part-index n.normalized k.c k.d (suc i) (omega (arith, long)) ∙ ap (λ (x : ℕ). get_or n.normalized x 0) j in
                  let same : (start_at n (k.c + i) ≡ start_at n (suc (k.c + i))) × (end_at n (k.c + i) ≡ end_at n (suc (k.c + i))) = shared_at n sound (k.c + i) (omega (arith, w.inside)) (rw byte at more) in
                  rw (start_is i (omega arith), end_is i (omega arith), start_is (suc i) h, end_is (suc i) h, j) (ap (λ (x : ℕ). x - k.a) same.0, ap (λ (x : ℕ). x - k.a) same.1);
              starts_on = λ i h.
                  let j : k.c + suc i ≡ suc (k.c + i) = omega arith in
                  rw (start_is i (omega arith), start_is (suc i) h, j) (omega (arith, (forward-at n sound (k.c + i) (omega (arith, (here (suc i) h).inside))).0));
              ends_on = λ i h.
                  let j : k.c + suc i ≡ suc (k.c + i) = omega arith in
                  rw (end_is i (omega arith), end_is (suc i) h, j) (omega (arith, (forward-at n sound (k.c + i) (omega (arith, (here (suc i) h).inside))).1));
            });
      }

  cut_stands : Stands (note_at n k.a k.b k.c k.d) n k.a k.c
  cut_stands =
      record {
        original_byte = λ i h. part-index n.original k.a k.b i (omega (arith, part-most n.original k.a k.b));
        normalized_byte = λ i h. part-index n.normalized k.c k.d i (omega (arith, long));
        start = λ i h. rw (start_is i h) (omega (arith, (here i h).above));
        end = λ i h. rw (end_is i h) (omega (arith, (here i h).above, (here i h).in_order));
        shift = refl;
      }

pub slice-sound : SliceSound
slice-sound most n range room e =
    let k = accepted-cutting most n range room e in
    rw (slice-note n range k) (cut-sound n (accepted-note most n range room e).0 range k)

pub slice-stands : SliceStands
unfolding slice_of
slice-stands most n range room e =
    let k = accepted-cutting most n range room e in
    rw (slice-note n range k, sliced-is n range k) (cut_stands n (accepted-note most n range room e).0 range k)

-- A SLICE OF A SLICE
same_size : (a x y : ℕ) → y - x ≡ a + y - (a + x)
same_size a x y = omega arith

part-inside : (s : List ℕ) (a b x y : ℕ) → b ≤ length s → y ≤ b - a → length (part s (a + x) (a + y)) ≡ a + y - (a + x)
part-inside s a b x y inside most =
    le-or-lt a b
    (λ h. length_part s (a + x) (a + y) (omega arith))
    (λ none.
    let zero-end : y ≡ 0 = omega arith in
    let short = part-most s (a + x) (a + y) in
    omega arith)

part-part : (s : List ℕ) (a b x y : ℕ) → b ≤ length s → y ≤ b - a → part (part s a b) x y ≡ part s (a + x) (a + y)
part-part s a b x y inside most =
    let inner : length (part (part s a b) x y) ≡ y - x = length_part (part s a b) x y (omega (arith, length_part s a b inside)) in
    let outer : length (part s (a + x) (a + y)) ≡ a + y - (a + x) = part-inside s a b x y inside most in
    ext_get_or 0 (part (part s a b) x y) (part s (a + x) (a + y)) (inner ∙ same_size a x y ∙ sym outer)
    (λ i h.
    let at : a + (x + i) ≡ a + x + i = omega arith in
    let below : i < y - x = omega (arith, part-most (part s a b) x y) in
    part-index (part s a b) x y i below ∙ part-index s a b (x + i) (omega arith)
    ∙ ap (λ (j : ℕ). get_or s j 0) at ∙ sym (part-index s (a + x) (a + y) i (omega arith)))

boundary-of-part : (s : List ℕ) (c d e : ℕ) → boundary s d ≡ true → c ≤ d → e ≤ d - c → boundary (part s c d) e ≡ boundary s (c + e)
unfolding boundary
boundary-of-part s c d e stands h most =
    let inside : d ≤ length s = boundary-most s d stands in
    let long : length (part s c d) ≡ d - c = length_part s c d inside in
    le-or-lt (d - c) e
    (λ end.
    let last : e ≡ length (part s c d) = omega arith in
    let at : c + e ≡ d = omega arith in
    ◌∙◌ {b = true} (rw last (boundary-length (part s c d))) (sym (rw at stands)))
    (λ before. rw (part-index s c d e before, le-leb e (length (part s c d)) (omega arith), le-leb (c + e) (length s) (omega arith)))

-- a range of the cleaned text that has a byte
module _ (n : Note) (c d : ℕ) (some : c < d) (most : d ≤ length n.ends) where
  pub normalized-sliced : sliced n (in_normalized c d) ≡ slice_of (Ok (in_original (start_at n c) (end_at n (d - 1)))) (Ok (in_normalized c d)) n.original_shift
  unfolding sliced
  normalized-sliced = rw (original-found n.starts n.ends c d some most, ← expanded-inside n.starts n.ends c d most, normalized-own n.starts n.ends c d)

  normalized-note : normalized_slice n c d ≡ note_at n (start_at n c) (end_at n (d - 1)) c d
  unfolding slice_note sliced_column slice_of
  normalized-note = rw normalized-sliced

note-same : {o n s e o₁ n₁ s₁ e₁ : List ℕ} {shift shift₁ : ℕ} → o ≡ o₁ → n ≡ n₁ → s ≡ s₁ → e ≡ e₁ → shift ≡ shift₁ → lent o n s e shift ≡ lent o₁ n₁ s₁ e₁ shift₁
note-same p q r t u = rw (p, q, r, t, u)

column_again : (xs : List ℕ) (a b c d e f s : ℕ) → d ≤ length xs → f ≤ d - c → a ≤ s → b ≡ s - a → lowered b (part (lowered a (part xs c d)) e f) ≡ lowered s (part xs (c + e) (c + f))
column_again xs a b c d e f s inside most h is =
    let at : a + b ≡ s = omega arith in
    ap (lowered b) (part-lowered a (part xs c d) e f)
    ∙ lowered-lowered b a (part (part xs c d) e f)
    ∙ rw (at, part-part xs c d e f inside most)

module _ (n : Note) (sound : Sound n) (c d e f : ℕ) (some : c < d) (less : e < f) (most : f ≤ d - c) (in_text : d ≤ length n.normalized) where
  abbrev a : ℕ
  a = start_at n c

  abbrev b : ℕ
  b = end_at n (d - 1)

  abbrev outer : Note
  outer = note_at n a b c d

  start-in : start_at outer e ≡ start_at n (c + e) - a
  start-in = getD-lowered a (part n.starts c d) e ∙ ap (λ (x : ℕ). x - a) (part-index n.starts c d e (omega arith))

  end-in : end_at outer (f - 1) ≡ end_at n (c + (f - 1)) - a
  end-in = getD-lowered a (part n.ends c d) (f - 1) ∙ ap (λ (x : ℕ). x - a) (part-index n.ends c d (f - 1) (omega arith))

  slice-again : note_at outer (start_at outer e) (end_at outer (f - 1)) e f ≡ note_at n (start_at n (c + e)) (end_at n (c + f - 1)) (c + e) (c + f)
  slice-again =
      let last : c + (f - 1) ≡ c + f - 1 = omega arith in
      let s : ℕ = start_at n (c + e) in
      let t : ℕ = end_at n (c + (f - 1)) in
      let above : a ≤ s = (alignments-on n sound c (c + e) (omega arith) (omega arith)).0 in
      let on : s ≤ start_at n (c + (f - 1)) = (alignments-on n sound (c + e) (c + (f - 1)) (omega arith) (omega arith)).0 in
      let order : start_at n (c + (f - 1)) ≤ t = (inside-at n sound (c + (f - 1)) (omega arith)).0 in
      let below : t ≤ b = (alignments-on n sound (c + (f - 1)) (d - 1) (omega arith) (omega arith)).1 in
      let from : a + start_at outer e ≡ s = omega (arith, start-in) in
      let to : a + end_at outer (f - 1) ≡ t = omega (arith, end-in) in
      rw (← last)
      (note-same
      (part-part n.original a b (start_at outer e) (end_at outer (f - 1)) (inside-at n sound (d - 1) (omega arith)).1 (omega (arith, end-in)) ∙ rw (from, to))
      (part-part n.normalized c d e f in_text most)
      (column_again n.starts a (start_at outer e) c d e f s (omega (arith, length-starts n sound)) most above start-in)
      (column_again n.ends a (start_at outer e) c d e f s (omega (arith, length-ends n sound)) most above start-in)
      (omega (arith, from)))

pub slice-of-slice : SliceOfSlice
unfolding valid_range
slice-of-slice most n c d e f room ok some less fits =
    let sound : Sound n = (accepted-note most n (in_normalized c d) room ok).0 in
    let both = accepted-valid most n (in_normalized c d) room ok in
    let bd : boundary n.normalized d ≡ true = and_elim_right (boundary n.normalized c) _ both in
    let in_text : d ≤ length n.normalized = boundary-most n.normalized d bd in
    let in_ends : d ≤ length n.ends = omega (arith, length-ends n sound) in
    let outer : Note = note_at n (start_at n c) (end_at n (d - 1)) c d in
    let is : normalized_slice n c d ≡ outer = normalized-note n c d some in_ends in
    let long : length outer.ends ≡ d - c = length-lowered (start_at n c) (part n.ends c d) ∙ length_part n.ends c d in_ends in
    rw is (
      rw (boundary-of-part n.normalized c d e bd (omega arith) (omega arith), boundary-of-part n.normalized c d f bd (omega arith) fits),
      normalized-note outer e f less (omega (arith, long))
          ∙ slice-again n sound c d e f some less fits in_text
          ∙ sym (normalized-note n (c + e) (c + f) (omega arith) (omega arith)),
    )
