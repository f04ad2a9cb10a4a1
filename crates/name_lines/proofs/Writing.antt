-- Laws of writing: the words of one line and their sizes, and those of all lines.
use Prim.Native.Nat.{ℕ, ◌+◌, ◌-◌, ◌≤◌, ◌<◌}
use mathlib.Core.Path.{◌≡◌, ◌∙◌, ap, refl, sym}
use mathlib.Core.Bool.{true}
use mathlib.Core.List.{List, [], ◌∷◌, ◌++◌}
use mathlib.Mathlib.Data.Bool.Basic.{and_elim_left, and_elim_right}
use native.Mathlib.Omega.{arith}
use Rattle.std.proofs.Common.{is_ok}
use lib.ListN.{length, take, drop, set, length-append, drop_of_length-le}
use lib.Seq.{length-take-le}
use Rattle.buffers.specs.Splice.{part, splice, overlay}
use Rattle.buffers.proofs.Splice.{length_part, part_end, length-splice, splice-splice, store-one, store-after, Laying, none-laid, piece-laid, all_laid}
use Rattle.name_lines.specs.Lines.{lines_of}
use Rattle.name_lines.specs.Names.{tab_at, literal_of, filler_of, line_judged, pairs_in, names_of, words_in, sizes_in}
use Rattle.name_lines.specs.Reading.{end_len, line_len, all_good, LineRoom, LinePut, Writable}
use Rattle.name_lines.proofs.Lines.{LineAt, line-inside, line_at, lines-nil}
use Rattle.name_lines.proofs.Tabs.{good-tab, length-literal, length-filler, length_both}
use Rattle.name_lines.proofs.Judging.{words-line, sizes-line, no_words, no-sizes}

-- the words of one line, whose tab is at t
module _ {line words : List ℕ} {at : ℕ} {sizes : List ℕ} {k : ℕ} (room : LineRoom line words at sizes k) {t : ℕ} (found : t ≡ tab_at line) where
  literal-is : take t line ≡ literal_of line
  unfolding literal_of
  literal-is = rw found

  filler-is : part line (t + 1) (length line) ≡ filler_of line
  unfolding filler_of
  filler-is = part_end line (t + 1) ∙ rw found

  pub literal-long : t ≡ length (take t line)
  literal-long = sym (length-take-le t line (omega (arith, room.tab)))

  both_long : at + (length line - 1) ≤ length words
  both_long = rw (length_both line room.tab) at room.room

  pub literal-fits : at + length (take t line) ≤ length words
  literal-fits = omega (arith, literal-long, both_long, room.tab)

  module _ {words₁ : List ℕ} (first : words₁ ≡ splice words at (take t line)) where
    pub filler-fits : at + t + length (part line (t + 1) (length line)) ≤ length words₁
    filler-fits =
        let same : length words₁ ≡ length words = ap length first ∙ length-splice words at (take t line) literal-fits in
        omega (arith, same, both_long, room.tab, length_part line (t + 1) (length line) (omega arith))

    pub line-put : {words₂ : List ℕ} → words₂ ≡ splice words₁ (at + t) (part line (t + 1) (length line)) → LinePut line words at sizes k (at + length line - 1) words₂ (set (set sizes k t) (k + 1) (length line - (t + 1)))
    line-put {words₂} second =
        let lit = length-literal line room.tab in
        let fil = length-filler line room.tab in
        let t-is : t ≡ length (literal_of line) = found ∙ sym lit in
        let u-is : length line - (t + 1) ≡ length (filler_of line) = omega arith in
        record {
          laid = record {
            reach = omega (arith, room.tab, length_both line room.tab);
            holds = second ∙ rw (first, literal-is, filler-is, t-is) (splice-splice words (literal_of line) (filler_of line) at (omega (arith, both_long)));
          };
          sizes_laid = rw (store-one sizes k t (omega (arith, room.sizes_room)), ← u-is, ← t-is)
              (store-after sizes (t ∷ []) k (length line - (t + 1)) (omega (arith, room.sizes_room)));
        }

-- lines that are good
good-cons : (l : List ℕ) (ls : List (List ℕ)) → all_good (l ∷ ls) ≡ true → (is_ok (line_judged l) ≡ true) × (all_good ls ≡ true)
unfolding all_good
good-cons l ls h = (and_elim_left (is_ok (line_judged l)) _ h, and_elim_right (is_ok (line_judged l)) _ h)

-- the words of the lines before `start` are laid
pub record Writing (text words₀ sizes₀ words sizes : List ℕ) (start at k : ℕ) : Type 0 where
  pub most : start ≤ length text
  pub short : length text < 0x100000000
  pub good : all_good (lines_of (drop start text)) ≡ true
  pub words_laid : Laying (words_in (names_of text)) (words_in (pairs_in (lines_of (drop start text)))) words₀ at words
  pub sizes_laid : Laying (sizes_in (names_of text)) (sizes_in (pairs_in (lines_of (drop start text)))) sizes₀ k sizes

pub none_written : {text words sizes : List ℕ} → Writable text words sizes → Writing text words sizes words sizes 0 0 0
unfolding names_of
none_written {text} {words} {sizes} w =
    record {
      most = omega arith;
      short = w.short;
      good = w.good;
      words_laid = none-laid (words_in (names_of text)) words w.words_fit;
      sizes_laid = none-laid (sizes_in (names_of text)) sizes w.sizes_fit;
    }

module _ {text words₀ sizes₀ words sizes : List ℕ} {start at k : ℕ} (w : Writing text words₀ sizes₀ words sizes start at k) where
  pub writing-inside : {end : ℕ} → end ≡ start + line_len (drop start text) → (start ≤ end) × (end ≤ length text)
  writing-inside is = line-inside text start is w.most

  module _ (h : start < length text) {end : ℕ} (is : end ≡ start + line_len (drop start text)) where
    module _ {e : ℕ} (ends : e ≡ end_len text end) where
      pub at-line : LineAt text start end (end + e)
      at-line = line_at text start is h ends

      goods : (is_ok (line_judged (part text start end)) ≡ true) × (all_good (lines_of (drop (end + e) text)) ≡ true)
      goods = good-cons (part text start end) (lines_of (drop (end + e) text)) (rw at-line.lines_are at w.good)

      words-from : Laying (words_in (names_of text)) (literal_of (part text start end) ++ filler_of (part text start end) ++ words_in (pairs_in (lines_of (drop (end + e) text)))) words₀ at words
      words-from = rw (at-line.lines_are, words-line (part text start end) (lines_of (drop (end + e) text))) at w.words_laid

      sizes-from : Laying (sizes_in (names_of text)) (length (literal_of (part text start end)) ∷ length (filler_of (part text start end)) ∷ sizes_in (pairs_in (lines_of (drop (end + e) text)))) sizes₀ k sizes
      sizes-from = rw (at-line.lines_are, sizes-line (part text start end) (lines_of (drop (end + e) text))) at w.sizes_laid

      pub line-written : {r : ℕ} {words₁ sizes₁ : List ℕ} → LinePut (part text start end) words at sizes k r words₁ sizes₁ → Writing text words₀ sizes₀ words₁ sizes₁ (end + e) r (k + 2)
      line-written {r} {words₁} {sizes₁} put =
          let both : List ℕ = literal_of (part text start end) ++ filler_of (part text start end) in
          let two : List ℕ = length (literal_of (part text start end)) ∷ length (filler_of (part text start end)) ∷ [] in
          record {
            most = at-line.most;
            short = w.short;
            good = goods.1;
            words_laid = piece-laid (words_in (names_of text)) both (words_in (pairs_in (lines_of (drop (end + e) text)))) words₀ at words words-from r words₁ put.laid.reach put.laid.holds;
            sizes_laid = piece-laid (sizes_in (names_of text)) two (sizes_in (pairs_in (lines_of (drop (end + e) text)))) sizes₀ k sizes sizes-from (k + 2) sizes₁ refl put.sizes_laid;
          }

    pub line-room : LineRoom (part text start end) words at sizes k
    line-room =
        let here = at-line refl in
        let long : length (part text start end) ≡ end - start = length_part text start end (omega (arith, here.inside, here.most)) in
        record {
          tab = (good-tab (part text start end) (goods refl).0).1;
          short = omega (arith, long, here.inside, here.most, w.short);
          room = omega (arith, (words-from refl).room, length-append (literal_of (part text start end) ++ filler_of (part text start end)) (words_in (pairs_in (lines_of (drop (end + end_len text end) text)))));
          sizes_room = omega (arith, (sizes-from refl).room);
        }

  pub all-written : length text ≤ start → (words ≡ overlay (words_in (names_of text)) words₀) × (sizes ≡ overlay (sizes_in (names_of text)) sizes₀)
  all-written h =
      let none : lines_of (drop start text) ≡ [] = ap lines_of (drop_of_length-le text h) ∙ lines-nil in (
        all_laid (words_in (names_of text)) words₀ at words (rw (none, no_words) at w.words_laid),
        all_laid (sizes_in (names_of text)) sizes₀ k sizes (rw (none, no-sizes) at w.sizes_laid),
      )
