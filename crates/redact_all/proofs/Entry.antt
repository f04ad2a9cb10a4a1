-- Laws of the call: inputs that are accepted, the note copied to where the steps are taken, and what is refused and published.
use Prim.Native.Nat.{ℕ, ◌*◌, ◌/◌, ◌≤◌, ◌<◌}
use mathlib.Core.Path.{◌≡◌, ◌∙◌, ap, refl, sym}
use mathlib.Core.Bool.{Bool, true, false, cond, not, ◌&&◌}
use mathlib.Core.List.{List}
use native.Mathlib.Omega.{arith}
use lib.Dec.{leb}
use lib.ListN.{length, take}
use lib.Seq.{length-take-le}
use borrow.Author.Tests.{leb-true, le-leb, lt-leb, not-false}
use Rattle.std.specs.Prelude.{Ok, Err, Option, Some, None}
use Rattle.buffers.specs.Splice.{splice, overlay}
use Rattle.buffers.proofs.Splice.{splice-overlay, take-overlay, length-overlay, overlay-long}
use Rattle.note.specs.declared.Refusal.{Refusal}
use Rattle.note.specs.declared.Refusal.TheVariants.{TooLong, LengthMismatch, IllFormed, Misaligned, NoRoom}
use Rattle.note.specs.Refusals.{none, meets, also, least, verdict, Verdict, Accepted}
use Rattle.note.specs.Rank.{up_to}
use Rattle.note.specs.Notes.{Note, lent, limit}
use Rattle.note.specs.Faults.{note_faults}
use Rattle.note.proofs.FirstMet.{accepted-meets, accepted-first, accepted-second, refused-then, accepted-then}
use Rattle.note.proofs.Faults.{accepted-sound, normalized_short}
use Rattle.note.proofs.Sound.{length-starts, length-ends}
use Rattle.redact_in_place.specs.InPlace.{held}
use Rattle.redact_in_place.proofs.Holding.{text-within, starts-within, ends-within}
use Rattle.word_pairs.specs.declared.Word.TheVariants.{Literal}
use Rattle.word_pairs.specs.Counts.{word_counts}
use Rattle.word_pairs.specs.Words.{words_of, pairs_of, even_words, all_formed, word_faults}
use Rattle.word_pairs.proofs.Words.{length_pairs}
use Rattle.redact_all.specs.declared.Report.{Report}
use Rattle.redact_all.specs.Steps.{published_by, steps_fit, blanked_counts}
use Rattle.redact_all.specs.RedactAll.{AllBuffers, all_input_faults, result_faults, all_faults, AllRedacted}
use Rattle.redact_all.specs.Stepping.{Checked, LimitLong, StepsReady, AllStepped, StepsTaken, Tellable, Told, reported}
use Rattle.redact_all.proofs.Stepping.{length-blanked}

pub inputs-checked : (n : Note) (bytes sizes : List ℕ) {v : Verdict} → v ≡ verdict (all_input_faults limit n bytes sizes) → v ≡ Accepted → Checked n bytes sizes
inputs-checked n bytes sizes said is =
    let ok : verdict (all_input_faults limit n bytes sizes) ≡ Accepted = sym said ∙ is in
    let words = accepted-second (note_faults limit n) (word_faults limit bytes sizes) ok in
    record {
      noted = accepted-first (note_faults limit n) (word_faults limit bytes sizes) ok;
      few = leb-true (length sizes) (2 * limit) (not-false (leb (length sizes) (2 * limit)) (accepted-meets (word_faults limit bytes sizes) words TooLong));
      even = not-false (even_words bytes sizes) (accepted-meets (word_faults limit bytes sizes) words LengthMismatch);
      formed = not-false (all_formed (words_of bytes sizes)) (accepted-meets (word_faults limit bytes sizes) words IllFormed);
    }

-- a note that was judged: its text is within the limit, and it has a start and an end for each byte
module _ {n : Note} {bytes sizes : List ℕ} (k : Checked n bytes sizes) where
  pub checked-short : length n.normalized ≤ limit
  checked-short = normalized_short limit n (accepted-sound limit n k.noted).1

  pub checked-starts : length n.starts ≡ length n.normalized
  checked-starts = length-starts n (accepted-sound limit n k.noted).0

  pub checked-ends : length n.ends ≡ length n.normalized
  checked-ends = length-ends n (accepted-sound limit n k.noted).0

-- a list copied to the front of a buffer
module _ (s d₀ : List ℕ) {d : List ℕ} (is : d ≡ splice d₀ 0 s) where
  front_is : take (length s) d ≡ s
  front_is = ap (take (length s)) (is ∙ splice-overlay d₀ s) ∙ take-overlay s d₀

  still-long : length s ≤ length d₀ → length d ≡ length d₀
  still-long h = ap length (is ∙ splice-overlay d₀ s) ∙ length-overlay s d₀ h

-- the note, copied to where the steps are taken
module _ {original normalized starts ends : List ℕ} {shift : ℕ} {bytes sizes : List ℕ} (k : Checked (lent original normalized starts ends shift) bytes sizes)
    {text₀ starts₀ ends₀ counts text starts₁ ends₁ : List ℕ} (long : LimitLong text₀ starts₀ ends₀ counts)
    (t : text ≡ splice text₀ 0 normalized) (s : starts₁ ≡ splice starts₀ 0 starts) (e : ends₁ ≡ splice ends₀ 0 ends) where
  copied-note : held original shift (length normalized) text starts₁ ends₁ ≡ lent original normalized starts ends shift
  copied-note =
      let st : take (length normalized) starts₁ ≡ starts = ap (λ (m : ℕ). take m starts₁) (sym (checked-starts k)) ∙ front_is starts starts₀ s in
      let en : take (length normalized) ends₁ ≡ ends = ap (λ (m : ℕ). take m ends₁) (sym (checked-ends k)) ∙ front_is ends ends₀ e in
      λ i. record { original = original; normalized = front_is normalized text₀ t i; starts = st i; ends = en i; original_shift = shift }

  pub copied-ready : StepsReady original shift (length normalized) bytes sizes text starts₁ ends₁ counts
  copied-ready =
      let short = checked-short k in
      record {
        is_held = record {
          size_most = short;
          text_long = still-long normalized text₀ t (omega (arith, short, long.text_long)) ∙ sym long.text_long;
          starts_long = still-long starts starts₀ s (omega (arith, short, checked-starts k, long.starts_long)) ∙ sym long.starts_long;
          ends_long = still-long ends ends₀ e (omega (arith, short, checked-ends k, long.ends_long)) ∙ sym long.ends_long;
        };
        noted = ap (λ (m : Note). verdict (note_faults limit m)) copied-note ∙ k.noted;
        even = k.even;
        formed = k.formed;
        counts_room = omega (arith, k.few, long.counts_long);
      }

  pub copied-taken : (r : Option ℕ) (text₂ starts₂ ends₂ counts₂ : List ℕ) → StepsTaken (held original shift (length normalized) text starts₁ ends₁) original shift bytes sizes counts r text₂ starts₂ ends₂ counts₂
      → StepsTaken (lent original normalized starts ends shift) original shift bytes sizes counts r text₂ starts₂ ends₂ counts₂
  copied-taken r text₂ starts₂ ends₂ counts₂ taken = rw copied-note at taken

-- what the steps say
module _ (n : Note) (original : List ℕ) (shift : ℕ) (bytes sizes counts₀ text starts ends counts : List ℕ) {r : Option ℕ} (taken : StepsTaken n original shift bytes sizes counts₀ r text starts ends counts) where
  pub steps-left : {size : ℕ} → r ≡ Some size → AllStepped n original shift size bytes sizes counts₀ text starts ends counts
  unfolding StepsTaken
  steps-left is = rw is at taken

  pub steps-short : r ≡ None → steps_fit limit (pairs_of bytes sizes) n ≡ false
  unfolding StepsTaken
  steps-short is = rw is at taken

-- the counts of all steps are the front of their buffer
module _ {n : Note} {original : List ℕ} {shift size : ℕ} {bytes sizes counts₀ text starts ends counts : List ℕ} (left : AllStepped n original shift size bytes sizes counts₀ text starts ends counts) where
  counts-as-many : length (blanked_counts (pairs_of bytes sizes) n) ≡ length sizes / 2
  counts-as-many = length-blanked (pairs_of bytes sizes) n ∙ length_pairs bytes sizes

  pub counts-within : length sizes / 2 ≤ length counts
  counts-within = omega (arith, counts-as-many, ap length left.counts_are, overlay-long (blanked_counts (pairs_of bytes sizes) n) counts₀)

  counts-front : take (length sizes / 2) counts ≡ blanked_counts (pairs_of bytes sizes) n
  counts-front = ap (take (length sizes / 2)) left.counts_are ∙ rw (← counts-as-many) (take-overlay (blanked_counts (pairs_of bytes sizes) n) counts₀)

results-said : (x y z : Bool) → verdict (also (meets NoRoom (not x) none) (also (meets NoRoom (not y) none) (meets NoRoom (not z) none))) ≡ cond (x && (y && z)) Accepted (Err NoRoom)
unfolding verdict
results-said true true true = refl
results-said true true false = refl
results-said true false z = refl
results-said false y z = refl

-- the call's verdict
module _ (n : Note) (bytes sizes : List ℕ) (b₀ : AllBuffers) {v : Verdict} (said : v ≡ verdict (all_input_faults limit n bytes sizes)) where
  abbrev room : ℕ
  room = least (length b₀.out) (length b₀.starts) (length b₀.ends)

  abbrev columns : ℕ
  columns = least (length b₀.blanked) (length b₀.left) (length b₀.fillers)

  refused_all : {j : Refusal} → Err j ≡ verdict (all_faults limit n bytes sizes b₀) → AllRedacted limit n bytes sizes b₀ (Err j) b₀
  refused_all {j} is =
      record {
        says = Err j;
        says_is = is;
        answer = refl;
        text_is = refl;
        starts_are = refl;
        ends_are = refl;
        blanked_are = refl;
        left_are = refl;
        fillers_are = refl;
      }

  pub refused-input : {j : Refusal} → v ≡ Err j → AllRedacted limit n bytes sizes b₀ (Err j) b₀
  refused-input is = refused_all (refused-then (up_to Misaligned) (all_input_faults limit n bytes sizes) (result_faults limit n (pairs_of bytes sizes) room columns) refl refl said is)

  module _ (is : v ≡ Accepted) where
    then-results : {w : Verdict} → w ≡ verdict (result_faults limit n (pairs_of bytes sizes) room columns) → w ≡ verdict (all_faults limit n bytes sizes b₀)
    then-results w = accepted-then (up_to Misaligned) (all_input_faults limit n bytes sizes) (result_faults limit n (pairs_of bytes sizes) room columns) refl refl said is w

    results : verdict (result_faults limit n (pairs_of bytes sizes) room columns)
        ≡ cond (steps_fit limit (pairs_of bytes sizes) n && (leb (length (published_by (pairs_of bytes sizes) n).normalized) room && leb (length (pairs_of bytes sizes)) columns)) Accepted (Err NoRoom)
    results = results-said (steps_fit limit (pairs_of bytes sizes) n) (leb (length (published_by (pairs_of bytes sizes) n).normalized) room) (leb (length (pairs_of bytes sizes)) columns)

    pub refused-steps : steps_fit limit (pairs_of bytes sizes) n ≡ false → AllRedacted limit n bytes sizes b₀ (Err NoRoom) b₀
    refused-steps short = refused_all (then-results (sym (results ∙ rw short)))

    module _ {original : List ℕ} {shift size : ℕ} {counts₀ text starts ends counts : List ℕ} (left : AllStepped n original shift size bytes sizes counts₀ text starts ends counts) where
      size_is : length (published_by (pairs_of bytes sizes) n).normalized ≡ size
      size_is = sym (ap (λ (m : Note). length m.normalized) left.left_is) ∙ length-take-le size text (omega (arith, left.is_held.size_most, left.is_held.text_long))

      pub refused-text : room < size → AllRedacted limit n bytes sizes b₀ (Err NoRoom) b₀
      refused-text less = refused_all (then-results (sym (results ∙ rw (left.fit, lt-leb (length (published_by (pairs_of bytes sizes) n).normalized) room (omega (arith, size_is))))))

      module _ (fits : size ≤ room) where
        pub refused-columns : columns < length sizes / 2 → AllRedacted limit n bytes sizes b₀ (Err NoRoom) b₀
        refused-columns less =
            refused_all (then-results (sym (results ∙ rw (left.fit, le-leb (length (published_by (pairs_of bytes sizes) n).normalized) room (omega (arith, size_is)), lt-leb (length (pairs_of bytes sizes)) columns (omega (arith, length_pairs bytes sizes))))))

        module _ (enough : length sizes / 2 ≤ columns) where
          accepted : Accepted ≡ verdict (all_faults limit n bytes sizes b₀)
          accepted = then-results (sym (results ∙ rw (left.fit, le-leb (length (published_by (pairs_of bytes sizes) n).normalized) room (omega (arith, size_is)), le-leb (length (pairs_of bytes sizes)) columns (omega (arith, length_pairs bytes sizes)))))

          pub all-tellable : Checked n bytes sizes
              → Tellable n.normalized bytes sizes (take size text) (take size starts) (take size ends) (take (length sizes / 2) counts) b₀.out b₀.starts b₀.ends b₀.blanked b₀.left b₀.fillers
          all-tellable k =
              let t = length-take-le size text (text-within left.is_held) in
              let s = length-take-le size starts (starts-within left.is_held) in
              let e = length-take-le size ends (ends-within left.is_held) in
              record {
                normalized_short = checked-short k;
                text_short = omega (arith, t, left.is_held.size_most);
                even = k.even;
                starts_long = s ∙ sym t;
                ends_long = e ∙ sym t;
                counts_long = length-take-le (length sizes / 2) counts (counts-within left);
                out_room = omega (arith, t);
                starts_room = omega (arith, t);
                ends_room = omega (arith, t);
                blanked_room = omega arith;
                left_room = omega arith;
                fillers_room = omega arith;
              }

          pub all-published : {report : Report} {b : AllBuffers} → Told n.normalized bytes sizes (take size text) (take size starts) (take size ends) (take (length sizes / 2) counts) b₀ report b
              → AllRedacted limit n bytes sizes b₀ (Ok report) b
          all-published {report} {b} told =
              let text_left : take size text ≡ (published_by (pairs_of bytes sizes) n).normalized = ap (λ (m : Note). m.normalized) left.left_is in
              record {
                says = Accepted;
                says_is = accepted;
                answer = ap Ok (told.reports ∙ ap (λ (x : List ℕ). reported n.normalized bytes sizes x (take (length sizes / 2) counts)) text_left ∙ ap (reported n.normalized bytes sizes (published_by (pairs_of bytes sizes) n).normalized) (counts-front left));
                text_is = told.text_is ∙ ap (λ (x : List ℕ). overlay x b₀.out) text_left;
                starts_are = told.starts_are ∙ ap (λ (m : Note). overlay m.starts b₀.starts) left.left_is;
                ends_are = told.ends_are ∙ ap (λ (m : Note). overlay m.ends b₀.ends) left.left_is;
                blanked_are = told.blanked_are ∙ ap (λ (x : List ℕ). overlay x b₀.blanked) (counts-front left);
                left_are = told.left_are ∙ ap (λ (x : List ℕ). overlay (word_counts Literal x (pairs_of bytes sizes)) b₀.left) text_left;
                fillers_are = told.fillers_are;
              }
