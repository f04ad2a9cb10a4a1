-- Laws of what is told in the end: laid in front of the passed buffers, and counted there.
use Prim.Native.Nat.{ℕ, ◌/◌, ◌≤◌}
use mathlib.Core.Path.{◌≡◌, ◌∙◌, ap, sym}
use mathlib.Core.List.{List}
use native.Mathlib.Omega.{arith}
use lib.ListN.{length, take}
use Rattle.buffers.specs.Splice.{splice, overlay}
use Rattle.buffers.proofs.Splice.{splice-overlay, take-overlay, overlay-long}
use Rattle.word_pairs.specs.declared.Word.{Word}
use Rattle.word_pairs.specs.declared.Word.TheVariants.{Literal, Filler}
use Rattle.word_pairs.specs.Words.{pairs_of}
use Rattle.word_pairs.specs.Counts.{word_counts, zero_count, some_count}
use Rattle.word_pairs.proofs.Words.{length_pairs}
use Rattle.word_pairs.proofs.Counts.{length-counts}
use Rattle.redact_all.specs.RedactAll.{AllBuffers}
use Rattle.redact_all.specs.Stepping.{Told}

-- a column of counts: as long as there are pairs, and the front of its buffer
module _ (which : Word) (text bytes sizes column₀ : List ℕ) {column : List ℕ} (is : column ≡ overlay (word_counts which text (pairs_of bytes sizes)) column₀) {pairs : ℕ} (all : pairs ≡ length sizes / 2) where
  as_many : length (word_counts which text (pairs_of bytes sizes)) ≡ pairs
  as_many = length-counts which text (pairs_of bytes sizes) ∙ length_pairs bytes sizes ∙ sym all

  pub counts_long : pairs ≤ length column
  counts_long = omega (arith, as_many, ap length is, overlay-long (word_counts which text (pairs_of bytes sizes)) column₀)

  pub counts-front : take pairs column ≡ word_counts which text (pairs_of bytes sizes)
  counts-front = ap (take pairs) is ∙ rw (← as_many) (take-overlay (word_counts which text (pairs_of bytes sizes)) column₀)

-- all that is told
module _ {normalized bytes sizes text starts ends counts : List ℕ} {b₀ b : AllBuffers} {zero some other : ℕ} where
  pub all_told :
      b.out ≡ splice b₀.out 0 text → b.starts ≡ splice b₀.starts 0 starts → b.ends ≡ splice b₀.ends 0 ends
      → b.blanked ≡ overlay counts b₀.blanked
      → b.left ≡ overlay (word_counts Literal text (pairs_of bytes sizes)) b₀.left
      → b.fillers ≡ overlay (word_counts Filler normalized (pairs_of bytes sizes)) b₀.fillers
      → length counts ≡ length sizes / 2
      → zero ≡ zero_count counts → some ≡ some_count (take (length counts) b.left) → other ≡ some_count (take (length counts) b.fillers)
      → Told normalized bytes sizes text starts ends counts b₀ (record { len = length text; not_found = zero; left = some; fillers_found = other }) b
  all_told t s e c l f pairs z x y =
      record {
        reports = λ i. record {
          len = length text;
          not_found = z i;
          left = (x ∙ ap some_count (counts-front Literal text bytes sizes b₀.left l pairs)) i;
          fillers_found = (y ∙ ap some_count (counts-front Filler normalized bytes sizes b₀.fillers f pairs)) i;
        };
        text_is = t ∙ splice-overlay b₀.out text;
        starts_are = s ∙ splice-overlay b₀.starts starts;
        ends_are = e ∙ splice-overlay b₀.ends ends;
        blanked_are = c;
        left_are = l;
        fillers_are = f;
      }
