-- Laws of `wordsJudged`: word by word, and beside the conditions of the number of sizes.
use Prim.Native.Nat.{ℕ, ◌+◌, ◌*◌, ◌-◌, ◌%◌, ◌≤◌, ◌<◌}
use mathlib.Core.Path.{◌≡◌, ◌∙◌, ap, refl, sym}
use mathlib.Core.Bool.{Bool, true, false, cond, not, ◌&&◌}
use mathlib.Core.List.{List, ◌∷◌}
use native.Mathlib.Omega.{arith}
use lib.Dec.{eqb}
use lib.ListN.{length, drop, get_or, drop_of_length-le}
use borrow.Author.Tests.{eq-eqb, ne_eqb, le-leb, lt-leb}
use Rattle.std.specs.Prelude.{Err}
use Rattle.buffers.specs.Splice.{part}
use Rattle.utf8.specs.Formed.{well_formed}
use Rattle.note.specs.Notes.{limit}
use Rattle.note.specs.Refusals.{verdict, Verdict, Accepted}
use Rattle.note.specs.declared.Refusal.TheVariants.{IllFormed, TooLong, LengthMismatch}
use Rattle.word_pairs.specs.Words.{words_of, total, even_words, all_formed, word_faults}
use Rattle.word_pairs.specs.Judging.{words_judged}
use Rattle.word_pairs.proofs.Words.{words-at, total-at}

pub record Judging (bytes sizes : List ℕ) (formed : Bool) (at i : ℕ) : Type 0 where
  pub most : at ≤ length bytes
  pub total_is : at + total (drop i sizes) ≡ total sizes
  pub formed_is : (formed && all_formed (words_of (drop at bytes) (drop i sizes))) ≡ all_formed (words_of bytes sizes)

pub none-judged : (bytes sizes : List ℕ) → Judging bytes sizes true 0 0
none-judged bytes sizes = record { most = omega arith; total_is = omega arith; formed_is = refl }

and_again : (a b c : Bool) → ((a && b) && c) ≡ (a && (b && c))
and_again true b c = refl
and_again false b c = refl

pub formed-cons : (word : List ℕ) (words : List (List ℕ)) → all_formed (word ∷ words) ≡ (well_formed word && all_formed words)
unfolding all_formed
formed-cons word words = refl

module _ {bytes sizes : List ℕ} {formed : Bool} {at i : ℕ} (j : Judging bytes sizes formed at i) (h : i < length sizes) where
  pub word-judged : {b : Bool} → at + get_or sizes i 0 ≤ length bytes → b ≡ well_formed (part bytes at (at + get_or sizes i 0)) → Judging bytes sizes (formed && b) (at + get_or sizes i 0) (i + 1)
  word-judged {b} inside is =
      let more : List (List ℕ) = words_of (drop (at + get_or sizes i 0) bytes) (drop (i + 1) sizes) in
      record {
        most = inside;
        total_is = omega (arith, j.total_is, total-at bytes sizes at i h);
        formed_is =
            and_again formed b (all_formed more)
            ∙ ap (λ (x : Bool). formed && x) (ap (λ (x : Bool). x && all_formed more) is ∙ sym (formed-cons (part bytes at (at + get_or sizes i 0)) more) ∙ ap all_formed (sym (words-at bytes sizes at i h)))
            ∙ j.formed_is;
      }

  pub words-short : length bytes - at < get_or sizes i 0 → Err LengthMismatch ≡ words_judged bytes sizes
  unfolding words_judged
  words-short less = rw (ne_eqb (total sizes) (length bytes) (λ e. absurd (omega (arith, j.most, j.total_is, total-at bytes sizes at i h, e))))

module _ {bytes sizes : List ℕ} {formed : Bool} {at i : ℕ} (j : Judging bytes sizes formed at i) (h : length sizes ≤ i) where
  all-total : total sizes ≡ at
  unfolding total
  all-total = omega (arith, j.total_is, ap total (drop_of_length-le sizes h))

  and-true : (a : Bool) → (a && true) ≡ a
  and-true true = refl
  and-true false = refl

  all-formed : formed ≡ all_formed (words_of bytes sizes)
  unfolding all_formed words_of
  all-formed = sym (and-true formed) ∙ ap (λ (ss : List ℕ). formed && all_formed (words_of (drop at bytes) ss)) (sym (drop_of_length-le sizes h)) ∙ j.formed_is

  pub words_long : at < length bytes → Err LengthMismatch ≡ words_judged bytes sizes
  unfolding words_judged
  words_long more = rw (ne_eqb (total sizes) (length bytes) (λ e. absurd (omega (arith, all-total, e))))

  module _ (all : length bytes ≤ at) where
    whole : eqb (total sizes) (length bytes) ≡ true
    whole = eq-eqb (total sizes) (length bytes) (omega (arith, all-total, j.most))

    pub words-torn : formed ≡ false → Err IllFormed ≡ words_judged bytes sizes
    unfolding words_judged
    words-torn is = rw (whole, ← all-formed, is)

    pub words-formed : formed ≡ true → Accepted ≡ words_judged bytes sizes
    unfolding words_judged
    words-formed is = rw (whole, ← all-formed, is)

both-judged : (x y : Bool) → cond x (cond y Accepted (Err IllFormed)) (Err LengthMismatch) ≡ cond (not x) (Err LengthMismatch) (cond (not y) (Err IllFormed) Accepted)
both-judged true true = refl
both-judged true false = refl
both-judged false y = refl

-- the number of sizes, judged before
module _ (bytes sizes : List ℕ) where
  pub many-refused : 2 * limit < length sizes → Err TooLong ≡ verdict (word_faults limit bytes sizes)
  unfolding verdict
  many-refused h = rw (lt-leb (length sizes) (2 * limit) h)

  module _ (few : length sizes ≤ 2 * limit) where
    pub odd_refused : (length sizes % 2 ≡ 0 → ⊥) → Err LengthMismatch ≡ verdict (word_faults limit bytes sizes)
    unfolding verdict even_words
    odd_refused h = rw (le-leb (length sizes) (2 * limit) few, ne_eqb (length sizes % 2) 0 h)

    pub even-judged : length sizes % 2 ≡ 0 → {r : Verdict} → r ≡ words_judged bytes sizes → r ≡ verdict (word_faults limit bytes sizes)
    unfolding verdict even_words words_judged
    even-judged h {r} is =
        is ∙ rw (le-leb (length sizes) (2 * limit) few, eq-eqb (length sizes % 2) 0 h)
        (both-judged (eqb (total sizes) (length bytes)) (all_formed (words_of bytes sizes)))
