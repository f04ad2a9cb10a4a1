-- An accepted replacement leaves a sound note: it is built of stretches of the note.
use Prim.Native.Nat.{ℕ}
use mathlib.Core.Path.{◌≡◌}
use mathlib.Core.Bool.{true, ◌&&◌}
use mathlib.Mathlib.Data.Bool.Basic.{and_intro, and_elim_left, and_elim_right}
use mathlib.Core.List.{List, [], ◌∷◌}
use native.Mathlib.Omega.{arith}
use lib.Dec.{leb}
use lib.ListN.{length}
use borrow.Author.Tests.{eq-eqb, le-leb}
use Rattle.buffers.proofs.Cases.{true-or-false}
use Rattle.utf8.specs.Formed.{well_formed, boundary}
use Rattle.utf8.proofs.Boundaries.{boundary-zero}
use Rattle.note.specs.Notes.{Note, fits, paired, texts_formed, Sound}
use Rattle.note.proofs.Sound.{original_formed, normalized-formed}
use Rattle.note.proofs.Stretch.{Stretch, joined, before-le, carried-stretch, kept-stretch, empty-stretch, stretch-aligned}
use Rattle.pattern.specs.declared.Place.{Place}
use Rattle.pattern.specs.Entries.{places_of}
use Rattle.pattern.specs.Places.{covers_from}
use Rattle.pattern.proofs.Places.{Span, covers-span, covers-rest}
use Rattle.replace.specs.Replacing.{piece, laid, carried, replaced, ReplacedSound}
use Rattle.replace.proofs.Laid.{piece-matched, piece-unmatched}
use Rattle.replace.proofs.Faults.{accepted-note, accepted-content, accepted-taken, accepted-room}

module _ (n : Note) (sound : Sound n) (content : List ℕ) (well : well_formed content ≡ true) where
  abbrev PieceStretch : ℕ → ℕ → Place → Type 0
  PieceStretch lo hi p =
      Stretch n lo hi (piece (λ end. content) p n.normalized) (piece (carried (length content) n.starts) p n.starts) (piece (carried (length content) n.ends) p n.ends)

  piece-stretch : (at : ℕ) (p : Place) → Span n.normalized at p → boundary n.normalized at ≡ true → PieceStretch at p.end.0 p
  piece-stretch at p span b =
      true-or-false p.matched
      (λ t.
      rw (piece-matched (λ end. content) p n.normalized t, piece-matched (carried (length content) n.starts) p n.starts t, piece-matched (carried (length content) n.ends) p n.ends t)
      (carried-stretch n sound content at p.end.0 well span.onward span.inside))
      (λ u.
      rw (piece-unmatched (λ end. content) p n.normalized u, piece-unmatched (carried (length content) n.starts) p n.starts u, piece-unmatched (carried (length content) n.ends) p n.ends u, span.from)
      (kept-stretch n sound at p.end.0 span.onward b span.stands span.inside))

  stretches : (at : ℕ) (ps : List Place) → covers_from n.normalized at ps ≡ true → boundary n.normalized at ≡ true
      → Stretch n at (length n.normalized) (laid (λ end. content) ps n.normalized) (laid (carried (length content) n.starts) ps n.starts) (laid (carried (length content) n.ends) ps n.ends)
  unfolding laid
  stretches at [] c b = empty-stretch n at (length n.normalized)
  stretches at (p ∷ ps) c b =
      let span : Span n.normalized at p = covers-span n.normalized at p ps c in
      let size : ℕ = length n.normalized in
      let low = before-le n sound at p.end.0 span.onward span.inside in
      let high = before-le n sound p.end.0 size span.inside (omega arith) in
      joined n at p.end.0 size _ _ _ _ _ _ (piece-stretch at p span b) (stretches p.end.0 ps (covers-rest n.normalized at p ps c) span.stands) low.0 low.1 high.0 high.1

pub replaced-sound : ReplacedSound
unfolding replaced paired texts_formed fits
replaced-sound most n list content room e =
    let sound : Sound n = (accepted-note most n list content room e).0 in
    let within : fits most n ≡ true = (accepted-note most n list content room e).1 in
    let near : (leb (length n.original) most && leb (length n.normalized) most) ≡ true = and_elim_left _ _ within in
    let s = stretches n sound content (accepted-content most n list content room e) 0 (places_of list) (accepted-taken most n list content room e).covered (boundary-zero n.normalized (normalized-formed n sound)) in (
      record {
        has_pairs = and_intro (eq-eqb _ _ s.one_start) (eq-eqb _ _ s.one_end);
        has_texts = and_intro (original_formed n sound) s.is_formed;
        has_alignments = stretch-aligned n 0 (length n.normalized) _ _ _ n.original_shift s;
      },
      and_intro
          (and_intro (and_elim_left (leb (length n.original) most) _ near) (le-leb _ most (omega (arith, accepted-room most n list content room e))))
          (and_elim_right (leb (length n.original) most && leb (length n.normalized) most) _ within),
    )
