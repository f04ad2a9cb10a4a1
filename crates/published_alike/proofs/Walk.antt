-- Laws of the walk: what each test says, how far the walk has come, and that it compares what is published.
use Prim.Native.Nat.{ℕ, ◌≤◌, ◌<◌}
use mathlib.Core.Path.{◌≡◌, ◌∙◌, refl, sym}
use mathlib.Core.Bool.{Bool, true, false, not, ◌&&◌}
use mathlib.Core.List.{List, [], ◌∷◌}
use native.Mathlib.Omega.{arith}
use lib.Dec.{eqb}
use lib.ListN.{length, drop}
use borrow.Author.Tests.{ne_eqb, not-true, not-false}
use Rattle.std.specs.Prelude.{Option, Some, None}
use Rattle.buffers.specs.Same.{same}
use Rattle.buffers.proofs.Cases.{true-or-false}
use Rattle.buffers.proofs.Booleans.{and-false-l, and_false_r}
use Rattle.buffers.proofs.Same.{same_refl, same-append, same-replicate}
use Rattle.note.specs.Notes.{before_end}
use Rattle.pattern.specs.declared.Place.{Place}
use Rattle.pattern.specs.Entries.{entry_at, places_of}
use Rattle.pattern.specs.Places.{fits_at, covers_from}
use Rattle.pattern.proofs.Entries.{Stepped, entry-step, entry-broken, entries-end}
use Rattle.pattern.proofs.Places.{Span, fits-span, covers-first, covers-rest}
use Rattle.replace.specs.Replacing.{piece, laid, carried}
use Rattle.replace.proofs.Sizes.{length-piece}
use Rattle.replace.proofs.Laid.{piece-matched, piece-unmatched}
use Rattle.published_alike.specs.Walk.{same_part, text_alike, column_alike, every_place, all_alike, Lying, BothCovered}

-- a place lies inside both lists
pub record InsideBoth (xs ys : List ℕ) (p : Place) : Type 0 where
  pub onward : p.start.0 ≤ p.end.0
  pub in_one : p.end.0 ≤ length xs
  pub in_other : p.end.0 ≤ length ys

pub within : {xs ys : List ℕ} {p : Place} → Lying xs ys p → InsideBoth xs ys p
within {xs} {ys} {p} l =
    let here : Span l.text l.from p = fits-span l.text l.from p l.fits in
    record {
      onward = omega (arith, here.from, here.onward);
      in_one = omega (arith, here.inside, l.one);
      in_other = omega (arith, here.inside, l.other);
    }

-- what each way out answers
module _ (xs ys : List ℕ) (p : Place) where
  pub text-matched : p.matched ≡ true → true ≡ text_alike xs ys p
  unfolding text_alike
  text-matched t = rw t

  pub text-unmatched : {r : Bool} → p.matched ≡ false → r ≡ same_part xs ys p → r ≡ text_alike xs ys p
  unfolding text_alike
  text-unmatched u e = rw u e

  pub column-empty : (content_len : ℕ) → p.matched ≡ true → content_len ≡ 0 → true ≡ column_alike content_len xs ys p
  unfolding column_alike
  column-empty content_len t z = rw (t, z)

  pub column-matched : (content_len : ℕ) {a b : ℕ} → p.matched ≡ true → (content_len ≡ 0 → ⊥) → a ≡ before_end xs p.end.0 → b ≡ before_end ys p.end.0 → eqb a b ≡ column_alike content_len xs ys p
  unfolding column_alike
  column-matched content_len t some ea eb = rw (t, ne_eqb content_len 0 some, ea, eb)

  pub column-unmatched : (content_len : ℕ) {r : Bool} → p.matched ≡ false → r ≡ same_part xs ys p → r ≡ column_alike content_len xs ys p
  unfolding column_alike
  column-unmatched content_len u e = rw u e

-- the walk has come to i
pub record WalkedTo (f : Place → Bool) (xs ys list : List ℕ) (i : ℕ) : Type 0 where
  pub so_far : every_place f (places_of list) ≡ every_place f (places_of (drop i list))
  pub text : List ℕ
  pub from : ℕ
  pub covered : covers_from text from (places_of (drop i list)) ≡ true
  pub one : length xs ≡ length text
  pub other : length ys ≡ length text
  pub most : i ≤ length list

pub none-walked : (f : Place → Bool) {xs ys list : List ℕ} → BothCovered xs ys list → WalkedTo f xs ys list 0
none-walked f c =
    record { so_far = refl; text = c.text; from = 0; covered = c.covered; one = c.one; other = c.other; most = omega arith }

module _ {f : Place → Bool} {xs ys list : List ℕ} {i : ℕ} (w : WalkedTo f xs ys list i) where
  module _ {entry : Option (Place × ℕ)} {p : Place} {next : ℕ} (is : entry ≡ entry_at list i) (there : entry ≡ Some (p, next)) where
    step : Stepped list i p next
    step = entry-step list is there

    covered-there : covers_from w.text w.from (p ∷ places_of (drop next list)) ≡ true
    covered-there = rw step.places at w.covered

    pub lying : Lying xs ys p
    lying =
        record { text = w.text; from = w.from; fits = covers-first w.text w.from p (places_of (drop next list)) covered-there; one = w.one; other = w.other }

    module _ {r : Bool} (e : r ≡ f p) where
      walked_step : every_place f (places_of list) ≡ (r && every_place f (places_of (drop next list)))
      unfolding every_place
      walked_step = w.so_far ∙ rw (step.places, ← e)

      pub one-walked : not r ≡ false → WalkedTo f xs ys list next
      one-walked t =
          record {
            so_far = walked_step ∙ rw (not-false r t);
            text = w.text;
            from = p.end.0;
            covered = covers-rest w.text w.from p (places_of (drop next list)) covered-there;
            one = w.one;
            other = w.other;
            most = step.most;
          }

      pub one-unlike : not r ≡ true → false ≡ every_place f (places_of list)
      one-unlike t = sym (walked_step ∙ and-false-l r _ (not-true r t))

  none_left : places_of (drop i list) ≡ [] → true ≡ every_place f (places_of list)
  unfolding every_place
  none_left none = sym (w.so_far ∙ rw none)

  pub broken-walked : {entry : Option (Place × ℕ)} → i < length list → entry ≡ entry_at list i → entry ≡ None → true ≡ every_place f (places_of list)
  broken-walked h is e = none_left (entry-broken list h is e).0

  pub all-walked : length list ≤ i → true ≡ every_place f (places_of list)
  all-walked h = none_left (entries-end list h).0

-- the three walks, one after the other
module _ (t xs ys u vs ws : List ℕ) (content_len : ℕ) (ps : List Place) where
  pub unlike-texts : {a : Bool} → a ≡ every_place (text_alike t u) ps → not a ≡ true → false ≡ all_alike t xs ys u vs ws content_len ps
  unfolding all_alike
  unlike-texts {a} e n = sym (and-false-l _ _ (and-false-l _ _ (sym e ∙ not-true a n)))

  pub unlike-starts : {b : Bool} → b ≡ every_place (column_alike content_len xs vs) ps → not b ≡ true → false ≡ all_alike t xs ys u vs ws content_len ps
  unfolding all_alike
  unlike-starts {b} e n = sym (and-false-l _ _ (and_false_r (every_place (text_alike t u) ps) _ (sym e ∙ not-true b n)))

  pub like-so-far : {a b r : Bool} → a ≡ every_place (text_alike t u) ps → not a ≡ false → b ≡ every_place (column_alike content_len xs vs) ps → not b ≡ false → r ≡ every_place (column_alike content_len ys ws) ps → r ≡ all_alike t xs ys u vs ws content_len ps
  unfolding all_alike
  like-so-far {a} {b} e n f k g = rw (sym e ∙ not-false a n, sym f ∙ not-false b k) g

-- the walk compares what would be laid down
module _ (text xs ys : List ℕ) (f g : ℕ → List ℕ) (content_len : ℕ) (t : Place → Bool) (lx : length xs ≡ length text) (ly : length ys ≡ length text)
    (wf : (e : ℕ) → length (f e) ≡ content_len) (wg : (e : ℕ) → length (g e) ≡ content_len) (each : (p : Place) → t p ≡ same (piece f p xs) (piece g p ys)) where
  pub every-same : (at : ℕ) (ps : List Place) → covers_from text at ps ≡ true → every_place t ps ≡ same (laid f ps xs) (laid g ps ys)
  unfolding every_place laid
  every-same at [] c = refl
  every-same at (p ∷ ps) c =
      let h : fits_at text at p ≡ true = covers-first text at p ps c in
      rw (each p, every-same p.end.0 ps (covers-rest text at p ps c))
      (sym (same-append (piece f p xs) (piece g p ys) (laid f ps xs) (laid g ps ys)
      (length-piece text xs f content_len at p lx wf h ∙ sym (length-piece text ys g content_len at p ly wg h))))

pub text-each : (content xs ys : List ℕ) (p : Place) → text_alike xs ys p ≡ same (piece (λ end. content) p xs) (piece (λ end. content) p ys)
text-each content xs ys p =
    true-or-false p.matched
    (λ t. sym (text-matched xs ys p t) ∙ sym (rw (piece-matched (λ end. content) p xs t, piece-matched (λ end. content) p ys t) (same_refl content)))
    (λ u. sym (text-unmatched xs ys p u refl) ∙ sym (rw (piece-unmatched (λ end. content) p xs u, piece-unmatched (λ end. content) p ys u)))

pub column-each : (content_len : ℕ) (xs ys : List ℕ) (p : Place) → column_alike content_len xs ys p ≡ same (piece (carried content_len xs) p xs) (piece (carried content_len ys) p ys)
unfolding column_alike
column-each content_len xs ys p =
    true-or-false p.matched
    (λ t. rw (piece-matched (carried content_len xs) p xs t, piece-matched (carried content_len ys) p ys t, t) (same-replicate content_len (before_end xs p.end.0) (before_end ys p.end.0)))
    (λ u. rw (piece-unmatched (carried content_len xs) p xs u, piece-unmatched (carried content_len ys) p ys u, u))
