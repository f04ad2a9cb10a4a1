-- What a call that has published leaves fits its buffers, and its pairs were judged.
use Prim.Native.Nat.{ℕ, ◌/◌, ◌≤◌}
use mathlib.Core.Path.{◌≡◌, ◌∙◌, ap, sym}
use mathlib.Core.Bool.{true}
use mathlib.Core.List.{List}
use native.Mathlib.Omega.{arith}
use lib.ListN.{length}
use Rattle.std.specs.Prelude.{Result, Ok}
use Rattle.buffers.proofs.Splice.{overlay-long}
use Rattle.note.specs.Refusals.{after, Verdict, Accepted}
use Rattle.note.specs.Notes.{Note, limit}
use Rattle.note.proofs.Sound.{length-starts, length-ends}
use Rattle.note.proofs.Faults.{accepted-sound, normalized_short}
use Rattle.word_pairs.specs.declared.Word.TheVariants.{Literal, Filler}
use Rattle.word_pairs.specs.Words.{pairs_of, even_words}
use Rattle.word_pairs.proofs.Words.{length_pairs}
use Rattle.word_pairs.proofs.Counts.{length-counts}
use Rattle.redact_all.specs.declared.Report.{Report}
use Rattle.redact_all.specs.Steps.{published_by, blanked_counts, left_counts, filler_counts}
use Rattle.redact_all.specs.RedactAll.{AllBuffers, AllRedacted, report_of}
use Rattle.redact_all.proofs.Stepping.{length-blanked}
use Rattle.redact_all.proofs.Chained.{says-report, call-checked, call-chained}
use Rattle.note.specs.declared.Refusal.{Refusal}

pub record ReportFits (bytes sizes : List ℕ) (report : Report) (b : AllBuffers) : Type 0 where
  pub even : even_words bytes sizes ≡ true
  pub short : report.len ≤ limit
  pub text_long : report.len ≤ length b.out
  pub starts_long : report.len ≤ length b.starts
  pub ends_long : report.len ≤ length b.ends
  pub blanked_long : length sizes / 2 ≤ length b.blanked
  pub left_long : length sizes / 2 ≤ length b.left
  pub fillers_long : length sizes / 2 ≤ length b.fillers

over-long : (says : Verdict) (m : ℕ) (x d o : List ℕ) → says ≡ Accepted → m ≡ length x → o ≡ after says x d → m ≤ length o
over-long says m x d o ok size is =
    let there : o ≡ after Accepted x d = is ∙ ap (λ (v : Verdict). after v x d) ok in
    omega (arith, size, ap length there, overlay-long x d)

pub report-fits : (n : Note) (bytes sizes : List ℕ) (b₀ : AllBuffers) {r : Result Report Refusal} {report : Report} {b : AllBuffers} → AllRedacted limit n bytes sizes b₀ r b → r ≡ Ok report → ReportFits bytes sizes report b
report-fits n bytes sizes b₀ {r} {report} {b} given is =
    let call : AllRedacted limit n bytes sizes b₀ (Ok report) b = rw is at given in
    let said = says-report call.says report (report_of n (pairs_of bytes sizes)) call.answer in
    let left : Note = published_by (pairs_of bytes sizes) n in
    let sound = accepted-sound limit left (call-chained n bytes sizes b₀ report b call).accepted in
    let size : report.len ≡ length left.normalized = ap (λ (x : Report). x.len) said.1 in
    let pairs = length_pairs bytes sizes in
    record {
      even = (call-checked n bytes sizes b₀ report b call).even;
      short = omega (arith, size, normalized_short limit left sound.1);
      text_long = over-long call.says report.len left.normalized b₀.out b.out said.0 size call.text_is;
      starts_long = over-long call.says report.len left.starts b₀.starts b.starts said.0 (size ∙ sym (length-starts left sound.0)) call.starts_are;
      ends_long = over-long call.says report.len left.ends b₀.ends b.ends said.0 (size ∙ sym (length-ends left sound.0)) call.ends_are;
      blanked_long = over-long call.says (length sizes / 2) (blanked_counts (pairs_of bytes sizes) n) b₀.blanked b.blanked said.0 (sym (length-blanked (pairs_of bytes sizes) n ∙ pairs)) call.blanked_are;
      left_long = over-long call.says (length sizes / 2) (left_counts (pairs_of bytes sizes) n) b₀.left b.left said.0 (sym (length-counts Literal left.normalized (pairs_of bytes sizes) ∙ pairs)) call.left_are;
      fillers_long = over-long call.says (length sizes / 2) (filler_counts (pairs_of bytes sizes) n) b₀.fillers b.fillers said.0 (sym (length-counts Filler n.normalized (pairs_of bytes sizes) ∙ pairs)) call.fillers_are;
    }
