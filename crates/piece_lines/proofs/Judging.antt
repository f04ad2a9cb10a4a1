-- Laws of the search for a literal in a note, neither of them too long: its verdict is that of the two lines, and the
-- list that it writes cuts the note.
use Prim.Native.Nat.{ℕ, ◌+◌, ◌*◌, ◌≤◌}
use mathlib.Core.Path.{◌≡◌, ◌∙◌, ap, refl, sym}
use mathlib.Core.List.{List}
use native.Mathlib.Nat.{div-le_self}
use native.Mathlib.Omega.{arith}
use lib.ListN.{length, take}
use borrow.Author.Tests.{le-leb}
use Rattle.std.specs.Prelude.{Result, Ok, Err}
use Rattle.buffers.specs.Splice.{overlay}
use Rattle.buffers.proofs.Cases.{true-or-false}
use Rattle.buffers.proofs.Splice.{take-overlay, overlay-long}
use Rattle.utf8.specs.Formed.{well_formed}
use Rattle.note.specs.declared.Refusal.{Refusal}
use Rattle.note.specs.Notes.{limit}
use Rattle.note.specs.Refusals.{verdict, unless_refused, Verdict, Accepted}
use Rattle.note.specs.Faults.{text_faults}
use Rattle.note.specs.Starting.{starting}
use Rattle.note.proofs.Faults.{text_short, text_formed}
use Rattle.note.proofs.FirstMet.{accepted-first, accepted-second}
use Rattle.pattern.specs.Entries.{places_of}
use Rattle.pattern.specs.Encoding.{room_for}
use Rattle.pattern.proofs.Encoding.{room-enough}
use Rattle.find.specs.Matching.{found_places}
use Rattle.find.specs.Finding.{found_bytes, find_faults, Finding}
use Rattle.find.proofs.FoundPlaces.{found-cases, found-covers, found-read, count-longest}
use Rattle.behaviors.specs.declared.SplitDelimiterBehavior.{SplitDelimiterBehavior}
use Rattle.behaviors.specs.declared.EmptyPieces.TheVariants.{Kept}
use Rattle.behaviors.specs.Runs.{list_pieces}
use Rattle.piece_lines.specs.Input.{longest, lines_verdict}
use Rattle.piece_lines.specs.Spans.{Cuttable}
use Rattle.piece_lines.specs.Printing.{refusal, told, pieces_text}

matches-refused : (v : Verdict) (n : ℕ) (k : Refusal) → Err k ≡ unless_refused Err v (Ok n) → v ≡ Err k
matches-refused (Ok tt) n k e = let z : ◌≡◌ {A = ℕ} 0 1 = cc in absurd (omega arith)
matches-refused (Err j) n k e = cc

matches-written : (v : Verdict) (n m : ℕ) → Ok m ≡ unless_refused Err v (Ok n) → (v ≡ Accepted) × (m ≡ n)
matches-written (Ok tt) n m e = (refl, cc)
matches-written (Err j) n m e = let z : ◌≡◌ {A = ℕ} 0 1 = cc in absurd (omega arith)

-- how many places there are, and bytes of their list
pub places-few : (text literal : List ℕ) → length (found_places text literal) ≤ 2 * length text + 1
places-few text literal =
    found-cases text literal
    (λ one. omega (arith, ap length one))
    (λ some all. omega (arith, count-longest text literal some, div-le_self (length text) (length literal)))

-- a list that is found cuts the note
pub found-cuttable : (literal note : List ℕ) → lines_verdict literal note ≡ Accepted → Cuttable (found_bytes note literal) note
found-cuttable literal note e =
    let first = accepted-first (text_faults longest literal) (text_faults longest note) e in
    let second = accepted-second (text_faults longest literal) (text_faults longest note) e in
    let brief : length note ≤ longest = text_short longest note second in
    let formed = text_formed longest note second in
    let read = found-read note literal (omega arith) in
    record {
      brief = brief;
      formed = formed;
      covered = found-covers note literal formed (text_formed longest literal first) (omega arith);
      few = rw read (omega (arith, places-few note literal));
    }

module _ {literal text list₀ : List ℕ} {r : Result ℕ Refusal} {list : List ℕ} (f : Finding limit text literal list₀ r list) (short : length literal ≤ longest) (brief : length text ≤ longest) (room : room_for (2 * longest + 1) ≡ length list₀) where
  list-fits : length (found_bytes text literal) ≤ length list₀
  unfolding found_bytes
  list-fits = rw (← room) (room-enough (found_places text literal) (2 * longest + 1) (omega (arith, places-few text literal)))

  same-verdict : verdict (find_faults limit text literal (length list₀)) ≡ lines_verdict literal text
  unfolding verdict
  same-verdict =
      rw (le-leb (length text) limit (omega arith), le-leb (length text) longest brief, le-leb (length literal) longest short, le-leb (length (found_bytes text literal)) (length list₀) list-fits)
      (true-or-false (well_formed text)
      (λ t. true-or-false (well_formed literal) (λ u. rw (t, u)) (λ u. rw (t, u)))
      (λ t. true-or-false (well_formed literal) (λ u. rw (t, u)) (λ u. rw (t, u))))

  pub refusal-told : (behavior : SplitDelimiterBehavior) {k : Refusal} → r ≡ Err k → told literal behavior text ≡ refusal k
  unfolding told
  refusal-told behavior {k} is =
      let v : lines_verdict literal text ≡ Err k = sym same-verdict ∙ matches-refused _ _ k (sym is ∙ f.answer) in rw v

  module _ {size : ℕ} (is : r ≡ Ok size) where
    says : (verdict (find_faults limit text literal (length list₀)) ≡ Accepted) × (size ≡ length (found_bytes text literal))
    says = matches-written _ _ size (sym is ∙ f.answer)

    list_is : list ≡ overlay (found_bytes text literal) list₀
    list_is = f.list ∙ rw says.0

    pub list-long : size ≤ length list
    list-long = rw (says.1, list_is) (overlay-long (found_bytes text literal) list₀)

    list-front : take size list ≡ found_bytes text literal
    list-front = rw (says.1, list_is) (take-overlay (found_bytes text literal) list₀)

    accepted : lines_verdict literal text ≡ Accepted
    accepted = sym same-verdict ∙ says.0

    pub cuttable : Cuttable (take size list) text
    cuttable = rw list-front (found-cuttable literal text accepted)

    places-read : places_of (take size list) ≡ found_places text literal
    places-read = ap places_of list-front ∙ found-read text literal (omega arith)

    pub cut-told : (behavior : SplitDelimiterBehavior) → told literal behavior text ≡ pieces_text (starting text) (list_pieces behavior Kept (take size list))
    unfolding told
    cut-told behavior = rw (accepted, places-read)
