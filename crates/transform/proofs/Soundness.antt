-- An accepted edit leaves a sound note: it is built of stretches of the note.
use Prim.Native.Nat.{ℕ, suc, ◌-◌, ◌≤◌}
use mathlib.Core.Path.{◌≡◌, refl, sym}
use mathlib.Core.Bool.{true, false, ◌&&◌}
use mathlib.Mathlib.Data.Bool.Basic.{and_intro, and_elim_left, and_elim_right}
use mathlib.Core.List.{List, [], ◌∷◌}
use native.Mathlib.Omega.{arith}
use lib.Dec.{leb}
use lib.ListN.{length, get_or, drop, replicate}
use borrow.Author.Tests.{eq-eqb, le-leb}
use Rattle.buffers.specs.Splice.{part}
use Rattle.buffers.proofs.Cases.{true-or-false}
use Rattle.buffers.proofs.Splice.{part_end}
use Rattle.utf8.specs.Scalar.{bytes_of}
use Rattle.utf8.proofs.Boundaries.{char-at, boundary-zero, boundary-most, boundary-length}
use Rattle.note.specs.Notes.{Note, fits, paired, texts_formed, before_end, Sound}
use Rattle.note.proofs.BeforeEnd.{before-some}
use Rattle.note.proofs.Sound.{length-starts, length-ends, original_formed, normalized-formed}
use Rattle.note.proofs.Faults.{accepted-sound}
use Rattle.note.proofs.Stretch.{Stretch, joined, before-le, carried-stretch, kept-stretch, empty-stretch, stretch-aligned}
use Rattle.script.specs.declared.Command.{Command}
use Rattle.utf8.specs.Scalar.{len_utf8}
use Rattle.utf8.proofs.LenUtf8.{bytes-formed}
use Rattle.utf8.specs.Formed.{char_range}
use Rattle.edit_steps.specs.Edits.{starves, moved, starved, carried_value, characters, carried_values, produced, Edit, first_position, relaid, edited, transformed}
use Rattle.transform.specs.Transforming.{TransformedSound}
use Rattle.edit_steps.specs.Walking.{Standing}
use Rattle.edit_steps.proofs.Positions.{feeds, standing-next, standing-skipped, standing-moved, skipped-on, moved-added, moved-replacing}
use Rattle.edit_steps.proofs.Given.{fed}
use Rattle.transform.proofs.Verdicts.{placed-from, placed-standing, accepted-placed, accepted-fed, accepted-size}

part-all : (xs : List ℕ) (b : ℕ) {m : ℕ} → length xs ≡ m → part xs b m ≡ drop b xs
part-all xs b e = rw (sym e) (part_end xs b)

module _ (n : Note) (sound : Sound n) where
  -- a stretch is between any two places further out
  widened : {lo hi : ℕ} {t xs ys : List ℕ} (lo₁ hi₁ : ℕ) → Stretch n lo hi t xs ys → lo₁ ≤ lo → lo ≤ length n.normalized → hi ≤ hi₁ → hi₁ ≤ length n.normalized → Stretch n lo₁ hi₁ t xs ys
  widened {lo} {hi} lo₁ hi₁ s below most above top =
      let low = before-le n sound lo₁ lo below most in
      let high = before-le n sound hi hi₁ above top in
      record {
        is_formed = s.is_formed;
        one_start = s.one_start;
        one_end = s.one_end;
        each = λ i h.
            let f = s.each i h in
            record {
              in_order = f.in_order;
              most = f.most;
              start_stands = f.start_stands;
              end_stands = f.end_stands;
              low_start = omega (arith, low.0, f.low_start);
              low_end = omega (arith, low.1, f.low_end);
              high_start = omega (arith, high.0, f.high_start);
              high_end = omega (arith, high.1, f.high_end);
            };
        next = s.next;
      }

  -- what one command gives is between its position and the next one's
  module _ {b p : ℕ} (c : Command) (at : Standing n.normalized b p) (f : starves b p c ≡ false) where
    before_here : (xs : List ℕ) → before_end xs (suc p) ≡ get_or xs p 0
    before_here xs = let last : suc p - 1 ≡ p = omega arith in rw last at (before-some xs (suc p) (omega arith))

    onward : c.added ≡ false → suc p ≤ moved n.normalized b p c
    onward u =
        let s : List ℕ = n.normalized in
        let less = feeds b p c f u in
        let here = char-at s p at.formed at.stands (omega (arith, boundary-most s b at.ends)) in
        let rest = (standing-skipped c.removed (standing-next at less)).1 in
        omega (arith, here.positive, rest, moved-replacing s b p c u, skipped-on s b c.removed p less)

    added-carries : (xs : List ℕ) → c.added ≡ true → carried_values xs p c ≡ replicate (length (bytes_of c.character)) (before_end xs p)
    unfolding carried_value len_utf8
    added-carries xs t = rw t

    replacing-carries : (xs : List ℕ) → c.added ≡ false → carried_values xs p c ≡ replicate (length (bytes_of c.character)) (before_end xs (suc p))
    unfolding carried_value len_utf8
    replacing-carries xs u = rw (u, before_here xs)

    piece-stretch : Stretch n p (moved n.normalized b p c) (characters p c) (carried_values n.starts p c) (carried_values n.ends p c)
    piece-stretch =
        let inside = boundary-most n.normalized b at.ends in
        let on = standing-moved c at in
        true-or-false c.added
        (λ t.
        rw (moved-added n.normalized b p c t, added-carries n.starts t, added-carries n.ends t)
        (carried-stretch n sound (bytes_of c.character) p p (bytes-formed c.character) (omega arith) (omega (arith, at.most))))
        (λ u.
        let less = feeds b p c f u in
        rw (replacing-carries n.starts u, replacing-carries n.ends u)
        (widened p (moved n.normalized b p c)
        (carried-stretch n sound (bytes_of c.character) p (suc p) (bytes-formed c.character) (omega arith) (omega arith))
        (omega arith) (omega arith) (onward u) (omega (arith, on.0.most))))

  stretches : {b p : ℕ} (cs : List Command) → Standing n.normalized b p → starved n.normalized b p cs ≡ false → Stretch n p b (produced characters n.normalized b p cs) (produced (carried_values n.starts) n.normalized b p cs) (produced (carried_values n.ends) n.normalized b p cs)
  unfolding produced
  stretches {b} {p} [] at e = empty-stretch n p b
  stretches {b} {p} (c ∷ cs) at e =
      let both = fed n.normalized b p c cs e in
      let on = standing-moved c at in
      let inside = boundary-most n.normalized b at.ends in
      let q : ℕ = moved n.normalized b p c in
      let low = before-le n sound p q on.1 (omega (arith, on.0.most)) in
      let high = before-le n sound q b on.0.most inside in
      joined n p q b _ _ _ _ _ _ (piece-stretch c at both.0) (stretches {p = q} cs on.0 both.1) low.0 low.1 high.0 high.1

  -- what is before the range, what the commands give, what is after
  whole-stretch : (e : Edit) → char_range n.normalized e.from e.to ≡ true → starved n.normalized e.to (first_position n.normalized e) e.commands ≡ false
      → Stretch n 0 (length n.normalized) (edited characters n.normalized e n.normalized) (edited (carried_values n.starts) n.normalized e n.starts) (edited (carried_values n.ends) n.normalized e n.ends)
  unfolding edited relaid first_position
  whole-stretch e p f =
      let s : List ℕ = n.normalized in
      let formed = normalized-formed n sound in
      let from : Standing s e.to e.from = placed-from e formed p in
      let at = placed-standing e formed p in
      let inside = boundary-most s e.to from.ends in
      let none : e.from - 0 ≡ e.from = omega arith in
      let front = rw none at (kept-stretch n sound 0 e.from (omega arith) (boundary-zero s formed) from.stands (omega (arith, from.most))) in
      let middle = widened e.from e.to (stretches e.commands at f) (standing-skipped e.skip from).1 (omega (arith, at.most)) (omega arith) inside in
      let back = rw (part-all s e.to refl, part-all n.starts e.to (length-starts n sound), part-all n.ends e.to (length-ends n sound)) at (kept-stretch n sound e.to (length s) inside from.ends (boundary-length s) (omega arith)) in
      let zero-from = before-le n sound 0 e.from (omega arith) (omega (arith, from.most)) in
      let from-to = before-le n sound e.from e.to from.most inside in
      let to_end = before-le n sound e.to (length s) inside (omega arith) in
      let from_end = before-le n sound e.from (length s) (omega (arith, from.most)) (omega arith) in
      joined n 0 e.from (length s) _ _ _ _ _ _ front
      (joined n e.from e.to (length s) _ _ _ _ _ _ middle back from-to.0 from-to.1 to_end.0 to_end.1)
      zero-from.0 zero-from.1 from_end.0 from_end.1

pub transformed-sound : TransformedSound
unfolding transformed paired texts_formed fits
transformed-sound most n e room noted accepted =
    let sound : Sound n = (accepted-sound most n noted).0 in
    let within : fits most n ≡ true = (accepted-sound most n noted).1 in
    let near : (leb (length n.original) most && leb (length n.normalized) most) ≡ true = and_elim_left _ _ within in
    let s = whole-stretch n sound e (accepted-placed most n.normalized e room accepted) (accepted-fed most n.normalized e room accepted) in (
      record {
        has_pairs = and_intro (eq-eqb _ _ s.one_start) (eq-eqb _ _ s.one_end);
        has_texts = and_intro (original_formed n sound) s.is_formed;
        has_alignments = stretch-aligned n 0 (length n.normalized) _ _ _ n.original_shift s;
      },
      and_intro
          (and_intro (and_elim_left (leb (length n.original) most) _ near) (le-leb _ most (omega (arith, accepted-size most n.normalized e room accepted))))
          (and_elim_right (leb (length n.original) most && leb (length n.normalized) most) _ within),
    )
