-- Laws of a names file without a bad line: what is said of it, what is written, and that these are its pairs.
use Prim.Native.Nat.{ℕ, ◌+◌, ◌*◌, ◌%◌, ◌≤◌, ◌<◌}
use mathlib.Core.Path.{◌≡◌, ◌∙◌, ap, refl, sym}
use mathlib.Core.Bool.{true}
use mathlib.Core.List.{List, [], ◌∷◌, ◌++◌, append_assoc}
use mathlib.Mathlib.Data.Bool.Basic.{and_intro}
use native.Mathlib.Omega.{arith}
use lib.ListN.{length, take, length-append}
use lib.Seq.{take-append_seam, drop-append_seam}
use borrow.Author.Tests.{eq-eqb}
use Rattle.buffers.specs.Splice.{overlay}
use Rattle.buffers.proofs.Splice.{take-overlay, overlay-long}
use Rattle.redact_note.specs.Chain.{Pair}
use Rattle.word_pairs.specs.Words.{words_of, in_pairs, pairs_of, total, even_words}
use Rattle.std.proofs.Common.{Result, Ok, Err, is_ok}
use Rattle.std.specs.Bool.{⊤}
use Rattle.name_lines.specs.declared.LineFault.{LineFault}
use Rattle.name_lines.specs.declared.BadLine.{BadLine}
use Rattle.name_lines.specs.declared.Names.{Names}
use Rattle.name_lines.specs.Lines.{lines_of}
use Rattle.name_lines.specs.Names.{line_judged, names_of, words_in, sizes_in, unless_faulty, first_bad, names_answer, NamesRead, NamesArePairs}
use Rattle.name_lines.specs.Reading.{all_good, Judged, Writable}

-- no line is bad
unless-read : (v : Result ⊤ LineFault) (n : ℕ) (others : Result Names BadLine) {x : Names} → unless_faulty v n others ≡ Ok x → (is_ok v ≡ true) × (others ≡ Ok x)
unless-read (Ok u) n others e = (refl, e)
unless-read (Err f) n others e = (cc, cc)

first_read : (ls : List (List ℕ)) (n : ℕ) (others : Result Names BadLine) {x : Names} → first_bad ls n others ≡ Ok x → (all_good ls ≡ true) × (others ≡ Ok x)
unfolding first_bad all_good
first_read [] n others e = (refl, e)
first_read (l ∷ ls) n others e =
    let here = unless-read (line_judged l) n (first_bad ls (n + 1) others) e in
    let rest = first_read ls (n + 1) others here.1 in
    (and_intro here.0 rest.0, rest.1)

record Told (text : List ℕ) (x : Names) : Type 0 where
  good : all_good (lines_of text) ≡ true
  bytes_are : length (words_in (names_of text)) ≡ x.bytes
  sizes_are : length (sizes_in (names_of text)) ≡ x.sizes

told : (text : List ℕ) {x : Names} → names_answer text ≡ Ok x → Told text x
unfolding names_answer
told text {x} e =
    let all = first_read (lines_of text) 1 _ e in
    let both : record { bytes = length (words_in (names_of text)); sizes = length (sizes_in (names_of text)) } ≡ x = cc (all.1) in
    record { good = all.0; bytes_are = ap (λ (n : Names). n.bytes) both; sizes_are = ap (λ (n : Names). n.sizes) both }

-- such a file is written
module _ {text : List ℕ} {r : Result Names BadLine} {x : Names} (j : Judged text r) (is : r ≡ Ok x) where
  pub writable : (words sizes : List ℕ) → length text ≤ length words → length text ≤ length sizes → length text < 0x100000000 → Writable text words sizes
  writable words sizes words-room sizes_room short =
      let t = told text (sym j.answer ∙ is) in
      let few : (x.bytes ≤ length text) × (x.sizes ≤ length text) = rw is at j.few in
      record {
        good = t.good;
        short = short;
        words_fit = omega (arith, t.bytes_are, few.0);
        sizes_fit = omega (arith, t.sizes_are, few.1);
      }

  pub names-read : {words₀ sizes₀ words sizes : List ℕ} → (words ≡ overlay (words_in (names_of text)) words₀) × (sizes ≡ overlay (sizes_in (names_of text)) sizes₀) → NamesRead text words₀ sizes₀ r words sizes
  names-read written = record { answer = j.answer; words_are = rw is written.0; sizes_are = rw is written.1 }

-- a file with a bad line leaves the buffers
pub bad-read : {text words₀ sizes₀ : List ℕ} {bad : BadLine} → Judged text (Err bad) → NamesRead text words₀ sizes₀ (Err bad) words₀ sizes₀
bad-read j = record { answer = j.answer; words_are = refl; sizes_are = refl }

-- words and sizes of pairs are those pairs
pairs-again : (ps : List Pair) → pairs_of (words_in ps) (sizes_in ps) ≡ ps
unfolding words_in sizes_in words_of in_pairs
pairs-again [] = refl
pairs-again (p ∷ ps) =
    let rest : List ℕ = p.content ++ words_in ps in
    rw (
      append_assoc p.literal p.content (words_in ps),
      take-append_seam p.literal rest,
      drop-append_seam p.literal rest,
      take-append_seam p.content (words_in ps),
      drop-append_seam p.content (words_in ps),
      pairs-again ps,
    )

sizes-even : (ps : List Pair) → length (sizes_in ps) ≡ 2 * length ps
unfolding sizes_in
sizes-even [] = refl
sizes-even (p ∷ ps) = omega (arith, sizes-even ps)

sizes-total : (ps : List Pair) → total (sizes_in ps) ≡ length (words_in ps)
unfolding sizes_in words_in total
sizes-total [] = refl
sizes-total (p ∷ ps) =
    let both = length-append (p.literal ++ p.content) (words_in ps) in
    omega (arith, both, length-append p.literal p.content, sizes-total ps)

even-again : (ps : List Pair) → even_words (words_in ps) (sizes_in ps) ≡ true
unfolding even_words
even-again ps = and_intro (eq-eqb (length (sizes_in ps) % 2) 0 (omega (arith, sizes-even ps))) (eq-eqb _ _ (sizes-total ps))

pub names-are-pairs : NamesArePairs
names-are-pairs text words₀ sizes₀ m k words sizes n =
    let t = told text (sym n.answer) in
    let front : take m words ≡ words_in (names_of text) = rw (n.words_are, ← t.bytes_are) (take-overlay (words_in (names_of text)) words₀) in
    let sized : take k sizes ≡ sizes_in (names_of text) = rw (n.sizes_are, ← t.sizes_are) (take-overlay (sizes_in (names_of text)) sizes₀) in
    rw (front, sized) (pairs-again (names_of text), even-again (names_of text))

-- what is written fits the buffers
pub names-within : {text words₀ sizes₀ : List ℕ} {r : Result Names BadLine} {words sizes : List ℕ} {x : Names} → NamesRead text words₀ sizes₀ r words sizes → r ≡ Ok x → (x.bytes ≤ length words) × (x.sizes ≤ length sizes)
names-within {text} {words₀} {sizes₀} {r} {words} {sizes} {x} given is =
    let n : NamesRead text words₀ sizes₀ (Ok x) words sizes = rw is at given in
    let t = told text (sym n.answer) in (
      omega (arith, t.bytes_are, ap length n.words_are, overlay-long (words_in (names_of text)) words₀),
      omega (arith, t.sizes_are, ap length n.sizes_are, overlay-long (sizes_in (names_of text)) sizes₀),
    )
