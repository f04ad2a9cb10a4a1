-- Laws of blanking: how much of the result is left by what is left of the text; and what is found, laid by blocks or as
-- a whole.
use Prim.Native.Nat.{ℕ, zero, suc, ◌+◌, ◌-◌, ◌*◌, ◌/◌, ◌≤◌, ◌<◌, min}
use mathlib.Core.Path.{◌≡◌, ◌∙◌, ap, refl, sym}
use mathlib.Core.List.{List, [], ◌∷◌, append-nil}
use native.Mathlib.Nat.{mul-add, mul_comm, mul-le-mul_left, lt_of_mul-lt-mul_left, le-div_iff_mul-le}
use native.Mathlib.Omega.{arith}
use lib.ListN.{length, get_or}
use lib.Seq.{take-length}
use Rattle.buffers.specs.Splice.{part, splice, overlay}
use Rattle.buffers.proofs.Cases.{le-or-lt}
use Rattle.buffers.proofs.Splice.{length-splice, splice-overlay}
use Rattle.validity_blocks.specs.Extremes.{largest}
use Rattle.note.specs.Notes.{limit}
use Rattle.note.specs.Starting.{starting}
use Rattle.note.proofs.Starting.{length-starting-starts, length-starting-ends}
use Rattle.find.specs.Matching.{FirstMatch, matches_from, found_places}
use Rattle.find.proofs.MatchesFrom.{Searched, first-there, match-inside, searched-more}
use Rattle.find.proofs.FoundPlaces.{found-whole, searched-first, found_from}
use Rattle.replace.specs.Replacing.{piece, laid, carried}
use Rattle.replace.specs.Sizes.{places_size}
use Rattle.replace.proofs.Columns.{content-padded, content-alone}
use Rattle.redact_blocks.specs.Blanks.{result_from, Blankable, Bounded, AllBlanked}
use Rattle.redact.specs.Blanks.{Margin, Fitting, WholeRoom, WholeLaid, FoundLaid}
use Rattle.redact.proofs.BlankedSize.{sizes-more, sizes-end, sizes-unmatched}

-- what is left of the result, by what is left of the text
share-bound : (g m content_len r t n : ℕ) → g ≤ content_len → g ≤ m → g * n ≤ m * t → g * (m + (r + n)) ≤ m * (content_len + (r + t))
share-bound g m content_len r t n h k result_from =
    omega (arith, mul-add g m (r + n), mul-add g r n, mul-add m content_len (r + t), mul-add m r t, mul_comm g m, mul_comm g r, mul_comm m r, mul-le-mul_left m h, mul-le-mul_left r k, result_from)

module _ (text literal : List ℕ) (content_len : ℕ) where
  sizes-share : (n i p : ℕ) → length text - i < n → Searched text literal i p → min content_len (length literal) * (length text - i) ≤ length literal * places_size content_len (matches_from text literal i)
  sizes-share zero i p few s = absurd (omega arith)
  sizes-share (suc n) i p few s =
      let f : FirstMatch text literal i p = first-there s in
      let g : ℕ = min content_len (length literal) in
      le-or-lt (length text) p
      (λ end.
      let left : length text - i ≡ p - i = omega (arith, f.most) in
      let least : g ≤ length literal = omega arith in
      rw (left, sizes-end content_len s end)
      (omega (arith, mul_comm g (p - i), mul_comm (length literal) (p - i), mul-le-mul_left (p - i) least)))
      (λ more.
      let inside = match-inside s more in
      let left : length text - i ≡ length literal + ((p - i) + (length text - (p + length literal))) = omega (arith, f.from) in
      let size : places_size content_len (matches_from text literal i) ≡ content_len + ((p - i) + places_size content_len (matches_from text literal (p + length literal))) = omega (arith, sizes-more content_len s more) in
      rw (left, size)
      (share-bound g (length literal) content_len (p - i) _ _ (omega arith) (omega arith)
      (sizes-share n (p + length literal) _ (omega (arith, s.some, f.from)) (searched-more s more refl))))

  -- where the margin is left, a block is within the result
  block-left : {margin i : ℕ} → Margin (length text) (length literal) content_len margin → 0 < length literal → i ≤ length text → margin ≤ length text - i → 80 ≤ places_size content_len (matches_from text literal i)
  block-left {i = i} w some inside room =
      let enough = w.enough (length text - i) room (omega arith) in
      let long = sizes-share (suc (length text)) i _ (omega arith) (record { some = some; most = inside; next = refl }) in
      let more : 80 < places_size content_len (matches_from text literal i) = lt_of_mul-lt-mul_left (length literal) (omega (arith, enough, long, mul_comm 80 (length literal))) in
      omega arith

-- the margin that is reckoned
pub no-margin : (size literal content_len : ℕ) → Margin size literal content_len (size + 1)
no-margin size literal content_len = record { enough = λ k h few. absurd (omega arith) }

pub margin-share : (size literal content_len : ℕ) {share : ℕ} → share ≡ min content_len literal → 0 < share → Margin size literal content_len (80 * literal / share + 1)
margin-share size literal content_len {share} is some =
    record {
      enough = λ k h few. rw (← is)
          (le-or-lt (share * k) (80 * literal)
          (λ small. absurd (omega (arith, (le-div_iff_mul-le some).1 (rw (mul_comm share k) at small))))
          (λ more. more));
    }

-- the literal is nowhere: the starting note as it is
module _ {text literal content : List ℕ} {first : ℕ} {out starts ends : List ℕ} (f : Fitting text literal content first out starts ends) (none : first ≡ length text) where
  found-one : places_size (length content) (found_places text literal) ≡ length text
  found-one = ap (places_size (length content)) (found-whole text literal (sym f.first_is ∙ none)) ∙ sizes-unmatched (length content) 0 (length text) ∙ omega arith

  pub whole_room : WholeRoom text out starts ends
  whole_room =
      record {
        formed = f.formed;
        short = f.short;
        text_room = omega (arith, found-one, f.text_room);
        starts_room = omega (arith, found-one, f.starts_room);
        ends_room = omega (arith, found-one, f.ends_room);
      }

  laid-whole : (fill : ℕ → List ℕ) (xs : List ℕ) → length xs ≡ length text → laid fill (found_places text literal) xs ≡ xs
  unfolding laid piece
  laid-whole fill xs long =
      let z : length text - 0 ≡ length xs = omega arith in
      rw (found-whole text literal (sym f.first_is ∙ none), z, append-nil) (take-length xs)

  pub whole-found : {out₁ starts₁ ends₁ : List ℕ} → WholeLaid text out starts ends out₁ starts₁ ends₁ → FoundLaid text literal content out starts ends first out₁ starts₁ ends₁
  whole-found w =
      record {
        reached = none ∙ ap length (sym (laid-whole (λ end. content) text refl));
        text_is = w.text_is ∙ rw (laid-whole (λ end. content) text refl);
        starts_are = w.starts_are ∙ rw (laid-whole (carried (length content) (starting text).starts) (starting text).starts (length-starting-starts text));
        ends_are = w.ends_are ∙ rw (laid-whole (carried (length content) (starting text).ends) (starting text).ends (length-starting-ends text));
      }

pub whole-laid : {text out starts ends : List ℕ} → WholeRoom text out starts ends → {out₁ starts₁ ends₁ : List ℕ} → out₁ ≡ splice out 0 text → starts₁ ≡ overlay (starting text).starts starts → ends₁ ≡ overlay (starting text).ends ends → WholeLaid text out starts ends out₁ starts₁ ends₁
whole-laid r t s e = record { text_is = t ∙ splice-overlay _ _; starts_are = s; ends_are = e }

-- it is somewhere
module _ {text literal content : List ℕ} {first : ℕ} {out starts ends : List ℕ} (f : Fitting text literal content first out starts ends) (met : first ≡ length text → ⊥) where
  from_start : Searched text literal 0 first
  from_start = searched-first text literal f.first_is met

  found-sizes : places_size (length content) (found_places text literal) ≡ 0 + places_size (length content) (matches_from text literal 0)
  found-sizes = ap (places_size (length content)) (found_from text literal f.first_is met) ∙ omega arith

  pub blankable : Blankable text literal content 0 0 out starts ends
  blankable =
      record {
        formed = f.formed;
        literal_formed = f.literal_formed;
        short = f.short;
        some = from_start.some;
        inside = omega arith;
        within = omega (arith, found-sizes, f.within);
        text_room = omega (arith, found-sizes, f.text_room);
        starts_room = omega (arith, found-sizes, f.starts_room);
        ends_room = omega (arith, found-sizes, f.ends_room);
      }

  pub literal-short : length literal ≤ limit
  literal-short = omega (arith, (first-there from_start).most, match-inside from_start (le-or-lt (length text) first (λ h. absurd (met (omega (arith, (first-there from_start).most)))) (λ h. h)), f.short)

  module _ {most : ℕ} {share margin until : ℕ} (known : largest text ≤ most) (w : Margin (length text) (length literal) (length content) share)
      (content_len : (length literal + 80 ≤ margin) × (share ≤ 1024 → share ≤ margin))
      (below : 1024 < share → until ≤ places_size (length content) (found_places text literal)) where
    bounded : (padded : List ℕ) → part padded 0 (length content) ≡ content → length content ≤ length padded → Bounded text most literal content padded 0 0 margin until
    bounded padded front long =
        record {
          most_is = known;
          padded_is = front;
          padded_long = long;
          window = content_len.0;
          enough = λ j b inside left fits is. le-or-lt share 1024
              (λ soon. let h = content_len.1 soon in omega (arith, block-left text literal (length content) w from_start.some inside (omega arith)))
              (λ late. omega (arith, below late, found-sizes));
        }

    pub bounded-alone : Bounded text most literal content content 0 0 margin until
    bounded-alone = bounded content (content-alone content) (omega arith)

    pub bounded-padded : (zeros : List ℕ) {padded : List ℕ} → length content ≤ length zeros → padded ≡ splice zeros 0 content → Bounded text most literal content padded 0 0 margin until
    bounded-padded zeros {padded} room is = bounded padded (content-padded content zeros is) (omega (arith, ap length is ∙ length-splice zeros 0 content (omega arith)))

  pub all_found : {r : ℕ} {out₁ starts₁ ends₁ : List ℕ} → AllBlanked text literal content out starts ends r out₁ starts₁ ends₁ → FoundLaid text literal content out starts ends r out₁ starts₁ ends₁
  unfolding result_from
  all_found l =
      let is = found_from text literal f.first_is met in
      record {
        reached = l.reached ∙ rw is;
        text_is = l.text_is ∙ rw is;
        starts_are = l.starts_are ∙ rw is;
        ends_are = l.ends_are ∙ rw is;
      }

-- no byte is larger than FF
pub bytes_most : (s : List ℕ) → ((k : ℕ) → get_or s k 0 ≤ 0xFF) → largest s ≤ 0xFF
unfolding largest
bytes_most [] each = omega arith
bytes_most (b ∷ s) each = omega (arith, each 0, bytes_most s (λ k. each (suc k)))
