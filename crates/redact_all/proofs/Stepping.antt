-- Laws of the steps of all pairs: none yet, one more, all; or one that does not fit.
use Prim.Native.Nat.{ℕ, ◌+◌, ◌*◌, ◌/◌, ◌≤◌, ◌<◌}
use mathlib.Core.Path.{◌≡◌, ◌∙◌, ap, refl, sym}
use mathlib.Core.Bool.{Bool, true, false, ◌&&◌}
use mathlib.Core.List.{List, [], ◌∷◌}
use mathlib.Mathlib.Data.Bool.Basic.{and_elim_left, and_elim_right}
use native.Mathlib.Omega.{arith}
use lib.Dec.{leb}
use lib.ListN.{length, take, drop, get_or, set}
use lib.Seq.{length-take-le}
use borrow.Author.Tests.{le-leb}
use Rattle.std.specs.Prelude.{Result, Ok, Err, Some, None}
use Rattle.buffers.specs.Splice.{part}
use Rattle.buffers.proofs.Splice.{Laying, none-laid, piece-laid, all_laid, store-one}
use Rattle.utf8.specs.Formed.{well_formed}
use Rattle.note.specs.declared.Refusal.{Refusal}
use Rattle.note.specs.Refusals.{verdict, Accepted}
use Rattle.note.specs.Notes.{Note, limit}
use Rattle.note.specs.Faults.{note_faults}
use Rattle.find.specs.Matching.{found_places}
use Rattle.redact_note.specs.Redacting.{match_count}
use Rattle.redact_note.specs.Chain.{Pair, left_by, step_of}
use Rattle.redact_note.proofs.MatchCount.{found-matched}
use Rattle.redact_note.proofs.Moved.{call_fits}
use Rattle.redact_in_place.specs.InPlace.{Held, held, InPlace}
use Rattle.redact_in_place.proofs.Holding.{left-held}
use Rattle.word_pairs.specs.Words.{words_of, pairs_of, pair_cut, all_formed}
use Rattle.word_pairs.proofs.Judging.{formed-cons}
use Rattle.word_pairs.proofs.Words.{At, even-at, next-at, pairs-at, pairs_end, words-at, both_read, length_pairs}
use Rattle.redact_all.specs.Steps.{published_by, steps_fit, blanked_counts}
use Rattle.redact_all.specs.Stepping.{StepsReady, StepsTaken}
use Rattle.redact_all.proofs.OneStep.{next-accepted, place-left, place-counted, place_short}

pub length-blanked : (ps : List Pair) (n : Note) → length (blanked_counts ps n) ≡ length ps
unfolding blanked_counts
length-blanked [] n = refl
length-blanked (p ∷ ps) n = omega (arith, length-blanked ps (left_by (step_of p n) n))

-- what the definitions say of the first of several pairs
module _ (p : Pair) (ps : List Pair) (n : Note) where
  abbrev next : Note
  next = left_by (step_of p n) n

  published-cons : published_by (p ∷ ps) n ≡ published_by ps next
  unfolding published_by
  published-cons = refl

  fit-cons : length next.normalized ≤ limit → steps_fit limit (p ∷ ps) n ≡ steps_fit limit ps next
  unfolding steps_fit
  fit-cons h = rw (le-leb (length next.normalized) limit h)

  pub short-cons : leb (length next.normalized) limit ≡ false → steps_fit limit (p ∷ ps) n ≡ false
  unfolding steps_fit
  short-cons h = rw h

  counts-cons : blanked_counts (p ∷ ps) n ≡ match_count (found_places n.normalized p.literal) ∷ blanked_counts ps next
  unfolding blanked_counts
  counts-cons = refl

nothing-published : (n : Note) → published_by [] n ≡ n
unfolding published_by
nothing-published n = refl

nothing-short : (n : Note) → steps_fit limit [] n ≡ true
unfolding steps_fit
nothing-short n = refl

nothing-counted : (n : Note) → blanked_counts [] n ≡ []
unfolding blanked_counts
nothing-counted n = refl

-- k pairs are done: what is left of the others, in the note that is held, is all that is said of the note at the start
pub record Stepping (n : Note) (original : List ℕ) (shift : ℕ) (bytes sizes counts₀ text starts ends counts : List ℕ) (size at k : ℕ) : Type 0 where
  pub read : At bytes sizes k at
  pub is_held : Held size text starts ends
  pub noted : verdict (note_faults limit (held original shift size text starts ends)) ≡ Accepted
  pub formed : all_formed (words_of (drop at bytes) (drop (2 * k) sizes)) ≡ true
  pub fit : steps_fit limit (pairs_of (drop at bytes) (drop (2 * k) sizes)) (held original shift size text starts ends) ≡ steps_fit limit (pairs_of bytes sizes) n
  pub left : published_by (pairs_of (drop at bytes) (drop (2 * k) sizes)) (held original shift size text starts ends) ≡ published_by (pairs_of bytes sizes) n
  pub laid : Laying (blanked_counts (pairs_of bytes sizes) n) (blanked_counts (pairs_of (drop at bytes) (drop (2 * k) sizes)) (held original shift size text starts ends)) counts₀ k counts

pub none-stepped : {original : List ℕ} {shift size : ℕ} {bytes sizes text starts ends counts : List ℕ} → StepsReady original shift size bytes sizes text starts ends counts
    → Stepping (held original shift size text starts ends) original shift bytes sizes counts text starts ends counts size 0 0
none-stepped {original} {shift} {size} {bytes} {sizes} {text} {starts} {ends} {counts} r =
    record {
      read = even-at bytes sizes r.even;
      is_held = r.is_held;
      noted = r.noted;
      formed = r.formed;
      fit = refl;
      left = refl;
      laid = none-laid (blanked_counts (pairs_of bytes sizes) (held original shift size text starts ends)) counts
          (omega (arith, length-blanked (pairs_of bytes sizes) (held original shift size text starts ends), length_pairs bytes sizes, r.counts_room));
    }

module _ {n : Note} {original : List ℕ} {shift : ℕ} {bytes sizes counts₀ text starts ends counts : List ℕ} {size at k : ℕ} (s : Stepping n original shift bytes sizes counts₀ text starts ends counts size at k) where
  module _ (h : k < length sizes / 2) where
    abbrev middle : ℕ
    middle = at + get_or sizes (2 * k) 0

    abbrev end : ℕ
    end = middle + get_or sizes (2 * k + 1) 0

    abbrev here : Pair
    here = pair_cut bytes at middle end

    abbrev more : List Pair
    more = pairs_of (drop end bytes) (drop (2 * (k + 1)) sizes)

    abbrev before : Note
    before = held original shift size text starts ends

    words-both : words_of (drop at bytes) (drop (2 * k) sizes) ≡ part bytes at middle ∷ (part bytes middle end ∷ words_of (drop end bytes) (drop (2 * (k + 1)) sizes))
    words-both =
        let second : (2 * k + 1) + 1 ≡ 2 * (k + 1) = omega arith in
        words-at bytes sizes at (2 * k) (both_read s.read h).0
        ∙ ap (λ (ws : List (List ℕ)). part bytes at middle ∷ ws) (words-at bytes sizes middle (2 * k + 1) (both_read s.read h).1 ∙ rw second)

    both-formed : (well_formed (part bytes at middle) && (well_formed (part bytes middle end) && all_formed (words_of (drop end bytes) (drop (2 * (k + 1)) sizes)))) ≡ true
    both-formed =
        let rest : List (List ℕ) = words_of (drop end bytes) (drop (2 * (k + 1)) sizes) in
        ap (λ (b : Bool). well_formed (part bytes at middle) && b) (sym (formed-cons (part bytes middle end) rest))
        ∙ sym (formed-cons (part bytes at middle) (part bytes middle end ∷ rest)) ∙ ap all_formed (sym words-both) ∙ s.formed

    literal_formed : well_formed (part bytes at middle) ≡ true
    literal_formed = and_elim_left (well_formed (part bytes at middle)) _ both-formed

    content_formed : well_formed (part bytes middle end) ≡ true
    content_formed = and_elim_left (well_formed (part bytes middle end)) _ (and_elim_right (well_formed (part bytes at middle)) _ both-formed)

    more-formed : all_formed (words_of (drop end bytes) (drop (2 * (k + 1)) sizes)) ≡ true
    more-formed = and_elim_right (well_formed (part bytes middle end)) _ (and_elim_right (well_formed (part bytes at middle)) _ both-formed)

    counts-first : blanked_counts (pairs_of (drop at bytes) (drop (2 * k) sizes)) before ≡ match_count (found_places (take size text) (part bytes at middle)) ∷ blanked_counts more (left_by (step_of here before) before)
    counts-first = ap (λ (ps : List Pair). blanked_counts ps before) (pairs-at s.read h) ∙ counts-cons here more before

    pub counts_room : k < length counts
    counts_room = omega (arith, s.laid.room, ap length counts-first)

    module _ {r : Result (ℕ × ℕ) Refusal} {text₁ starts₁ ends₁ : List ℕ} (place : InPlace original shift size (part bytes at middle) (part bytes middle end) text starts ends r text₁ starts₁ ends₁) where
      module _ {m count : ℕ} (is : r ≡ Ok (m, count)) where
        pub count_small : count ≤ limit
        count_small =
            let short = length-take-le size text (omega (arith, s.is_held.size_most, s.is_held.text_long)) in
            omega (arith, short, s.is_held.size_most, (found-matched (take size text) (part bytes at middle) (omega (arith, short, s.is_held.size_most)) (place-counted place is)).few)

        now_is : held original shift m text₁ starts₁ ends₁ ≡ left_by (step_of here before) before
        now_is = place-left place is

        fits-now : length (left_by (step_of here before) before).normalized ≤ limit
        fits-now =
            let f = call_fits place.call is in
            omega (arith, ap (λ (x : Note). length x.normalized) now_is, length-take-le m text₁ f.text_fits, f.within)

        pub one-stepped : length text₁ ≡ length text → length starts₁ ≡ length starts → length ends₁ ≡ length ends
            → Stepping n original shift bytes sizes counts₀ text₁ starts₁ ends₁ (set counts k count) m end (k + 1)
        one-stepped t st e =
            record {
              read = next-at s.read h;
              is_held = left-held s.is_held place is t st e;
              noted = ap (λ (x : Note). verdict (note_faults limit x)) now_is ∙ next-accepted before here s.noted literal_formed content_formed fits-now;
              formed = more-formed;
              fit = ap (steps_fit limit more) now_is ∙ sym (fit-cons here more before fits-now) ∙ ap (λ (ps : List Pair). steps_fit limit ps before) (sym (pairs-at s.read h)) ∙ s.fit;
              left = ap (published_by more) now_is ∙ sym (published-cons here more before) ∙ ap (λ (ps : List Pair). published_by ps before) (sym (pairs-at s.read h)) ∙ s.left;
              laid = piece-laid (blanked_counts (pairs_of bytes sizes) n) (count ∷ []) (blanked_counts more (held original shift m text₁ starts₁ ends₁)) counts₀ k counts
                  (rw (counts-first ∙ λ i. sym (place-counted place is) i ∷ blanked_counts more (sym now_is i)) at s.laid)
                  (k + 1) (set counts k count) refl (store-one counts k count counts_room);
            }

      pub short-stepped : {j : Refusal} (text₂ starts₂ ends₂ counts₂ : List ℕ) → r ≡ Err j → StepsTaken n original shift bytes sizes counts₀ None text₂ starts₂ ends₂ counts₂
      unfolding StepsTaken
      short-stepped text₂ starts₂ ends₂ counts₂ is =
          sym s.fit ∙ ap (λ (ps : List Pair). steps_fit limit ps before) (pairs-at s.read h)
          ∙ short-cons here more before (place_short place is s.noted literal_formed content_formed s.is_held.text_long s.is_held.starts_long s.is_held.ends_long)

  pub all-stepped : length sizes / 2 ≤ k → StepsTaken n original shift bytes sizes counts₀ (Some size) text starts ends counts
  unfolding StepsTaken
  all-stepped h =
      let done : pairs_of (drop at bytes) (drop (2 * k) sizes) ≡ [] = pairs_end s.read h in
      let before : Note = held original shift size text starts ends in
      record {
        is_held = s.is_held;
        fit = sym s.fit ∙ ap (λ (ps : List Pair). steps_fit limit ps before) done ∙ nothing-short before;
        left_is = sym (ap (λ (ps : List Pair). published_by ps before) done ∙ nothing-published before) ∙ s.left;
        counts_are = all_laid (blanked_counts (pairs_of bytes sizes) n) counts₀ k counts (rw (ap (λ (ps : List Pair). blanked_counts ps before) done ∙ nothing-counted before) at s.laid);
      }
