-- The claim that nothing is left: no match is counted exactly where the literal occurs nowhere.
use Prim.Native.Nat.{ℕ, ◌+◌, ◌≤◌, ◌<◌}
use mathlib.Core.Path.{◌≡◌, ◌∙◌, ap, refl, sym}
use mathlib.Core.Bool.{false}
use mathlib.Core.List.{List, [], ◌∷◌}
use native.Mathlib.Omega.{arith}
use lib.Dec.{eqb}
use lib.ListN.{length, take}
use borrow.Author.Tests.{eq-eqb, eqb-true}
use Rattle.buffers.proofs.Splice.{take-overlay}
use Rattle.buffers.proofs.Cases.{le-or-lt, true-or-false, clash}
use Rattle.note.specs.Refusals.{after, Verdict}
use Rattle.find.specs.Matching.{occurs_at, first_from, found_places, FirstMatch}
use Rattle.find.specs.Searching.{first_match}
use Rattle.find.proofs.Occurs.{occurs-inside}
use Rattle.find.proofs.FirstFrom.{first-leftmost, first-of-none, first-of-some}
use Rattle.redact_note.specs.Redacting.{match_count}
use Rattle.redact_note.specs.Chain.{Pair}
use Rattle.redact_note.proofs.MatchCount.{none-counted, next-counted}
use Rattle.word_pairs.specs.declared.Word.TheVariants.{Literal}
use Rattle.word_pairs.specs.Words.{pairs_of}
use Rattle.word_pairs.specs.Counts.{word_counts, zero_count, some_count}
use Rattle.word_pairs.proofs.Counts.{counts-cons, counts-nil, zeros-cons, zeros-few}
use Rattle.redact_all.specs.declared.Report.{Report}
use Rattle.redact_all.specs.Steps.{published_by, left_counts}
use Rattle.redact_all.specs.RedactAll.{EachUnreadable, NothingLeft, report_of}
use Rattle.redact_all.proofs.Chained.{says-report}

-- one literal
module _ (text literal : List ℕ) where
  counted-some : first_match text literal < length text → match_count (found_places text literal) ≡ 0 → ⊥
  counted-some h none =
      let more = next-counted (none-counted {text = text} {literal = literal} refl) h refl in
      le-or-lt (length text) (first_from text literal (first_match text literal + length literal)) (λ end. absurd (omega (arith, more.done end, none))) (λ inside. absurd (omega (arith, more.total inside, none)))

  module _ (some : 0 < length literal) where
    leftmost : FirstMatch text literal 0 (first_match text literal)
    leftmost = rw (first-of-some text literal some) (first-leftmost text literal 0 (omega arith))

    past_end : (i : ℕ) → length text ≤ i → occurs_at text literal i ≡ false
    past_end i h = true-or-false (occurs_at text literal i) (λ t. absurd (omega (arith, occurs-inside text literal i some t))) (λ f. f)

    none_read : match_count (found_places text literal) ≡ 0 → (i : ℕ) → occurs_at text literal i ≡ false
    none_read none i =
        le-or-lt (length text) i (past_end i)
        (λ inside. le-or-lt (length text) (first_match text literal) (λ far. leftmost.before i (omega arith) (omega arith)) (λ near. absurd (counted-some near none)))

  unread-none : ((some : 0 < length literal) (i : ℕ) → occurs_at text literal i ≡ false) → match_count (found_places text literal) ≡ 0
  unread-none unread =
      let none = none-counted {text = text} {literal = literal} refl in
      le-or-lt (length literal) 0
      (λ empty. sym (none.done (omega (arith, first-of-none text literal (omega arith)))))
      (λ some.
      le-or-lt (length text) (first_match text literal)
      (λ far. sym (none.done far))
      (λ near. clash (occurs_at text literal (first_match text literal)) ((leftmost some).occurs near) (unread some (first_match text literal))))

-- all of them
module _ (text : List ℕ) where
  some_first : (x : ℕ) (xs : List ℕ) → some_count (x ∷ xs) ≡ 0 → (x ≡ 0) × (some_count xs ≡ 0)
  some_first x xs none =
      true-or-false (eqb x 0)
      (λ t. let z : zero_count (x ∷ xs) ≡ 1 + zero_count xs = zeros-cons x xs ∙ rw t refl in (eqb-true x 0 t, omega (arith, none, z, zeros-few xs)))
      (λ f. let z : zero_count (x ∷ xs) ≡ 0 + zero_count xs = zeros-cons x xs ∙ rw f refl in absurd (omega (arith, none, z, zeros-few xs)))

  some-none : (x : ℕ) (xs : List ℕ) → x ≡ 0 → some_count xs ≡ 0 → some_count (x ∷ xs) ≡ 0
  some-none x xs is none =
      let z : zero_count (x ∷ xs) ≡ 1 + zero_count xs = zeros-cons x xs ∙ rw (eq-eqb x 0 is) refl in
      omega (arith, none, z, zeros-few xs)

  each-unread : (ps : List Pair) → some_count (word_counts Literal text ps) ≡ 0 → EachUnreadable text ps
  unfolding EachUnreadable
  each-unread [] none = tt
  each-unread (p ∷ ps) none =
      let both = some_first (match_count (found_places text p.literal)) (word_counts Literal text ps) (sym (ap some_count (counts-cons Literal text p ps)) ∙ none) in
      ((λ some i. none_read text p.literal some both.0 i), each-unread ps both.1)

  none_each : (ps : List Pair) → EachUnreadable text ps → some_count (word_counts Literal text ps) ≡ 0
  unfolding EachUnreadable
  none_each [] unread = ap some_count (counts-nil Literal text)
  none_each (p ∷ ps) unread =
      ap some_count (counts-cons Literal text p ps) ∙ some-none (match_count (found_places text p.literal)) (word_counts Literal text ps) (unread-none text p.literal unread.0) (none_each ps unread.1)

pub nothing_left : NothingLeft
nothing_left most n bytes sizes b₀ report b call =
    let said = says-report call.says report (report_of n (pairs_of bytes sizes)) call.answer in
    let text : List ℕ = (published_by (pairs_of bytes sizes) n).normalized in
    let front : take report.len b.out ≡ text =
    ap (λ (r : ℕ). take r b.out) (ap (λ (x : Report). x.len) said.1)
    ∙ ap (take (length text)) (call.text_is ∙ ap (λ (v : Verdict). after v text b₀.out) said.0) ∙ take-overlay text b₀.out in
    let left : report.left ≡ some_count (left_counts (pairs_of bytes sizes) n) = ap (λ (x : Report). x.left) said.1 in (
      (λ none. rw front (each-unread text (pairs_of bytes sizes) (sym left ∙ none))),
      (λ unread. left ∙ none_each text (pairs_of bytes sizes) (rw front at unread)),
    )
