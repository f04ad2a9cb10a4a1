-- Laws of `namesAnswer`: line by line, as far as the first bad one.
use Prim.Native.Nat.{ℕ, ◌+◌, ◌*◌, ◌-◌, ◌≤◌, ◌<◌}
use mathlib.Core.Path.{◌≡◌, ◌∙◌, ap, refl, sym}
use mathlib.Core.List.{List, [], ◌∷◌, ◌++◌}
use native.Mathlib.Omega.{arith}
use lib.ListN.{length, drop, length-append, drop_of_length-le}
use Rattle.buffers.specs.Splice.{part}
use Rattle.buffers.proofs.Splice.{length_part}
use Rattle.std.proofs.Common.{Result, Ok, Err, is_ok}
use Rattle.std.specs.Bool.{⊤}
use Rattle.name_lines.specs.declared.LineFault.{LineFault}
use Rattle.name_lines.specs.declared.BadLine.{BadLine}
use Rattle.name_lines.specs.declared.Names.{Names}
use Rattle.name_lines.specs.Lines.{lines_of}
use Rattle.name_lines.specs.Names.{literal_of, filler_of, line_judged, pairs_in, names_of, words_in, sizes_in, unless_faulty, first_bad, names_answer}
use Rattle.name_lines.specs.Reading.{end_len, line_len, Judged}
use Rattle.name_lines.proofs.Lines.{line-inside, line_at, lines-nil}
use Rattle.name_lines.proofs.Tabs.{good-tab, length_both}

-- one line more
pub words-line : (l : List ℕ) (ls : List (List ℕ)) → words_in (pairs_in (l ∷ ls)) ≡ literal_of l ++ filler_of l ++ words_in (pairs_in ls)
unfolding words_in pairs_in
words-line l ls = refl

pub sizes-line : (l : List ℕ) (ls : List (List ℕ)) → sizes_in (pairs_in (l ∷ ls)) ≡ length (literal_of l) ∷ length (filler_of l) ∷ sizes_in (pairs_in ls)
unfolding sizes_in pairs_in
sizes-line l ls = refl

pub no_words : words_in (pairs_in []) ≡ []
unfolding words_in pairs_in
no_words = refl

pub no-sizes : sizes_in (pairs_in []) ≡ []
unfolding sizes_in pairs_in
no-sizes = refl

bad-line : (l : List ℕ) (ls : List (List ℕ)) (n : ℕ) (others : Result Names BadLine) → first_bad (l ∷ ls) n others ≡ unless_faulty (line_judged l) n (first_bad ls (n + 1) others)
unfolding first_bad
bad-line l ls n others = refl

-- what is said from some lines on, after so many bytes and so many lines
unfoldable pub rest_answer : List (List ℕ) → ℕ → ℕ → Result Names BadLine
rest_answer ls bytes lines =
    first_bad ls (lines + 1)
    (Ok (record { bytes = bytes + length (words_in (pairs_in ls)); sizes = 2 * lines + length (sizes_in (pairs_in ls)) }))

pub record Judging (text : List ℕ) (start bytes lines : ℕ) : Type 0 where
  pub most : start ≤ length text
  pub short : bytes ≤ start
  pub few : 2 * lines ≤ start
  pub so_far : rest_answer (lines_of (drop start text)) bytes lines ≡ names_answer text

pub none-judged : (text : List ℕ) → Judging text 0 0 0
unfolding rest_answer names_answer names_of
none-judged text =
    let m : 0 + length (words_in (pairs_in (lines_of text))) ≡ length (words_in (pairs_in (lines_of text))) = omega arith in
    let k : 0 + length (sizes_in (pairs_in (lines_of text))) ≡ length (sizes_in (pairs_in (lines_of text))) = omega arith in
    record { most = omega arith; short = omega arith; few = omega arith; so_far = rw (m, k) }

rest-good : (l : List ℕ) (ls : List (List ℕ)) (bytes lines : ℕ) → line_judged l ≡ Ok tt → rest_answer (l ∷ ls) bytes lines ≡ rest_answer ls (bytes + (length l - 1)) (lines + 1)
unfolding rest_answer
rest-good l ls bytes lines good =
    let tab = good-tab l (ap is_ok good) in
    let m : bytes + length (words_in (pairs_in (l ∷ ls))) ≡ bytes + (length l - 1) + length (words_in (pairs_in ls)) =
    rw (words-line l ls, length-append (literal_of l ++ filler_of l) (words_in (pairs_in ls)), length_both l tab.1) (omega arith) in
    let k : 2 * lines + length (sizes_in (pairs_in (l ∷ ls))) ≡ 2 * (lines + 1) + length (sizes_in (pairs_in ls)) = rw (sizes-line l ls) (omega arith) in
    bad-line l ls (lines + 1) _ ∙ rw (good, m, k)

rest-faulty : (l : List ℕ) (ls : List (List ℕ)) (bytes lines : ℕ) {k : LineFault} → line_judged l ≡ Err k → rest_answer (l ∷ ls) bytes lines ≡ Err (record { number = lines + 1; fault = k })
unfolding rest_answer
rest-faulty l ls bytes lines bad = bad-line l ls (lines + 1) _ ∙ rw bad

rest-none : (bytes lines : ℕ) → rest_answer [] bytes lines ≡ Ok (record { bytes = bytes; sizes = 2 * lines })
unfolding rest_answer first_bad
rest-none bytes lines =
    let m : bytes + 0 ≡ bytes = omega arith in
    let k : 2 * lines + 0 ≡ 2 * lines = omega arith in
    rw (no_words, no-sizes, m, k)

module _ {text : List ℕ} {start bytes lines : ℕ} (j : Judging text start bytes lines) where
  pub judging-inside : {end : ℕ} → end ≡ start + line_len (drop start text) → (start ≤ end) × (end ≤ length text)
  judging-inside is = line-inside text start is j.most

  module _ (h : start < length text) {end : ℕ} (is : end ≡ start + line_len (drop start text)) {r : Result ⊤ LineFault} (told : r ≡ line_judged (part text start end)) where
    pub good-long : r ≡ Ok tt → 2 ≤ end - start
    good-long good =
        let at = line_at text start is h refl in
        let tab = good-tab (part text start end) (ap is_ok (sym told ∙ good)) in
        omega (arith, tab, length_part text start end (omega (arith, at.inside, at.most)))

    pub good-judged : {e : ℕ} → r ≡ Ok tt → e ≡ end_len text end → Judging text (end + e) (bytes + (end - start - 1)) (lines + 1)
    good-judged {e} good ends =
        let at = line_at text start is h ends in
        let long = good-long good in
        let wide : length (part text start end) ≡ end - start = length_part text start end (omega (arith, at.inside, at.most)) in
        let one : length (part text start end) - 1 ≡ end - start - 1 = omega arith in
        record {
          most = at.most;
          short = omega (arith, j.short, at.inside);
          few = omega (arith, j.few, at.inside);
          so_far =
              sym (ap (λ (ls : List (List ℕ)). rest_answer ls bytes lines) at.lines_are
              ∙ rest-good (part text start end) (lines_of (drop (end + e) text)) bytes lines (sym told ∙ good) ∙ rw one)
              ∙ j.so_far;
        }

    pub bad-judged : {k : LineFault} → r ≡ Err k → Judged text (Err (record { number = lines + 1; fault = k }))
    bad-judged {k} bad =
        let at = line_at text start is h refl in
        record {
          answer =
              sym (ap (λ (ls : List (List ℕ)). rest_answer ls bytes lines) at.lines_are
              ∙ rest-faulty (part text start end) _ bytes lines (sym told ∙ bad))
              ∙ j.so_far;
          few = tt;
        }

  pub all-judged : length text ≤ start → Judged text (Ok (record { bytes = bytes; sizes = 2 * lines }))
  all-judged h =
      record {
        answer =
            sym (ap (λ (s : List ℕ). rest_answer (lines_of s) bytes lines) (drop_of_length-le text h) ∙ rw lines-nil (rest-none bytes lines))
            ∙ j.so_far;
        few = (omega (arith, j.most, j.short), omega (arith, j.most, j.few));
      }
