-- The claim that a call is a chain of replacements.
use Prim.Native.Nat.{ℕ, ◌≤◌}
use mathlib.Core.Path.{◌≡◌, ◌∙◌, ap, refl, sym}
use mathlib.Core.Bool.{Bool, true, not, ◌&&◌}
use mathlib.Core.List.{List, [], ◌∷◌}
use mathlib.Mathlib.Data.Bool.Basic.{and_intro, and_elim_left, and_elim_right}
use native.Mathlib.Omega.{arith}
use lib.Dec.{leb}
use lib.ListN.{length, take, replicate, length-replicate}
use borrow.Author.Tests.{leb-true, not-false}
use Rattle.std.specs.Prelude.{Ok, Err}
use Rattle.buffers.specs.Splice.{overlay}
use Rattle.buffers.proofs.Splice.{take-overlay}
use Rattle.utf8.specs.Formed.{well_formed}
use Rattle.note.specs.declared.Refusal.TheVariants.{NoRoom}
use Rattle.note.specs.Refusals.{none, meets, least, verdict, after, unless_refused, Verdict, Accepted}
use Rattle.note.specs.Notes.{Note, limit}
use Rattle.note.specs.Faults.{note_faults}
use Rattle.note.proofs.FirstMet.{accepted-meets, accepted-first, accepted-second}
use Rattle.note.proofs.Faults.{accepted-sound}
use Rattle.note.proofs.Sound.{length-starts, length-ends}
use Rattle.find.specs.Finding.{found_bytes}
use Rattle.replace.specs.Replacing.{replace_faults, resulting}
use Rattle.replace.specs.Blanking.{published}
use Rattle.redact_note.specs.Chain.{Pair, StepCall, Chain, left_by, step_of, steps_of}
use Rattle.word_pairs.specs.Words.{words_of, in_pairs, pairs_of, all_formed}
use Rattle.redact_all.specs.declared.Report.{Report}
use Rattle.redact_all.specs.Steps.{published_by, steps_fit}
use Rattle.redact_all.specs.RedactAll.{AllBuffers, AllRedacted, ChainedCall, all_input_faults, result_faults, all_faults, report_of}
use Rattle.redact_all.specs.Stepping.{Checked}
use Rattle.redact_all.proofs.OneStep.{step-replaces, next-accepted}
use Rattle.redact_all.proofs.Entry.{inputs-checked}

unfoldable formed_pairs : List Pair → Bool
formed_pairs [] = true
formed_pairs (p ∷ ps) = well_formed p.literal && (well_formed p.content && formed_pairs ps)

pairs-formed : (words : List (List ℕ)) → all_formed words ≡ true → formed_pairs (in_pairs words) ≡ true
unfolding formed_pairs in_pairs all_formed
pairs-formed [] h = refl
pairs-formed (word ∷ []) h = refl
pairs-formed (literal ∷ content ∷ words) h =
    let more = and_elim_right (well_formed literal) _ h in
    and_intro (and_elim_left (well_formed literal) _ h)
    (and_intro (and_elim_left (well_formed content) _ more) (pairs-formed words (and_elim_right (well_formed content) _ more)))

-- one step, whatever buffer of the limit's length it is given
module _ (d : List ℕ) (long : length d ≡ limit) (n : Note) (p : Pair) (noted : verdict (note_faults limit n) ≡ Accepted) (l : well_formed p.literal ≡ true) (c : well_formed p.content ≡ true) (fit : length (left_by (step_of p n) n).normalized ≤ limit) where
  abbrev next : Note
  next = left_by (step_of p n) n

  step_call : StepCall limit n (step_of p n) next
  step_call =
      let sound = (accepted-sound limit next (next-accepted n p noted l c fit)).0 in
      let room : limit ≡ least (length d) (length d) (length d) = omega (arith, long) in
      let starts : take (length next.normalized) (overlay next.starts d) ≡ next.starts = rw (← length-starts next sound) (take-overlay next.starts d) in
      let ends : take (length next.normalized) (overlay next.ends d) ≡ next.ends = rw (← length-ends next sound) (take-overlay next.ends d) in
      record {
        out₀ = d;
        starts₀ = d;
        ends₀ = d;
        size = length next.normalized;
        out = overlay next.normalized d;
        starts = overlay next.starts d;
        ends = overlay next.ends d;
        replacing = record {
          says = Accepted;
          says_is = sym (step-replaces n p noted l c fit) ∙ ap (λ (r : ℕ). verdict (replace_faults limit n (found_bytes n.normalized p.literal) p.content r)) room;
          answer = refl;
          text_is = refl;
          starts_are = refl;
          ends_are = refl;
        };
        leaves = λ i. record { original = n.original; normalized = sym (take-overlay next.normalized d) i; starts = sym starts i; ends = sym ends i; original_shift = n.original_shift };
      }

-- all steps: the chain, and that what it leaves can be judged, with the transcript and the shift of the note
pub record Chained (n : Note) (ps : List Pair) : Type 0 where
  pub chain : Chain limit n (steps_of ps n) (published_by ps n)
  pub accepted : verdict (note_faults limit (published_by ps n)) ≡ Accepted
  pub same_original : (published_by ps n).original ≡ n.original
  pub same_shift : (published_by ps n).original_shift ≡ n.original_shift

all-chained : (d : List ℕ) → length d ≡ limit → (ps : List Pair) (n : Note) → verdict (note_faults limit n) ≡ Accepted → formed_pairs ps ≡ true → steps_fit limit ps n ≡ true → Chained n ps
unfolding Chain steps_of published_by formed_pairs steps_fit
all-chained d long [] n noted formed fit = record { chain = refl; accepted = noted; same_original = refl; same_shift = refl }
all-chained d long (p ∷ ps) n noted formed fit =
    let l = and_elim_left (well_formed p.literal) _ formed in
    let others = and_elim_right (well_formed p.literal) _ formed in
    let c = and_elim_left (well_formed p.content) _ others in
    let next : Note = left_by (step_of p n) n in
    let within : length next.normalized ≤ limit = leb-true (length next.normalized) limit (and_elim_left (leb (length next.normalized) limit) _ fit) in
    let rest = all-chained d long ps next (next-accepted n p noted l c within) (and_elim_right (well_formed p.content) _ others) (and_elim_right (leb (length next.normalized) limit) _ fit) in
    record { chain = (next, (step_call d long n p noted l c within, rest.chain)); accepted = rest.accepted; same_original = rest.same_original; same_shift = rest.same_shift }

-- a call that has published
pub says-report : (v : Verdict) (report told : Report) → Ok report ≡ unless_refused Err v (Ok told) → (v ≡ Accepted) × (report ≡ told)
says-report (Ok tt) report told e = (refl, cc)
says-report (Err j) report told e = let z : ◌≡◌ {A = ℕ} 0 1 = cc in absurd (omega arith)

-- the front of a buffer that a list was laid in
front_of : (says : Verdict) (m : ℕ) (x d o : List ℕ) → says ≡ Accepted → m ≡ length x → o ≡ after says x d → take m o ≡ x
front_of says m x d o ok size is = rw (is, ok, size) (take-overlay x d)

-- its inputs were accepted, and so was each step
module _ (n : Note) (bytes sizes : List ℕ) (b₀ : AllBuffers) (report : Report) (b : AllBuffers) (call : AllRedacted limit n bytes sizes b₀ (Ok report) b) where
  all-accepted : verdict (all_faults limit n bytes sizes b₀) ≡ Accepted
  all-accepted = sym call.says_is ∙ (says-report call.says report (report_of n (pairs_of bytes sizes)) call.answer).0

  pub call-checked : Checked n bytes sizes
  call-checked = inputs-checked n bytes sizes {v = Accepted} (sym (accepted-first (all_input_faults limit n bytes sizes) (result_faults limit n (pairs_of bytes sizes) _ _) all-accepted)) refl

  steps-fit : steps_fit limit (pairs_of bytes sizes) n ≡ true
  steps-fit =
      let step = meets NoRoom (not (steps_fit limit (pairs_of bytes sizes) n)) none in
      not-false (steps_fit limit (pairs_of bytes sizes) n)
      (accepted-meets step (accepted-first step _ (accepted-second (all_input_faults limit n bytes sizes) (result_faults limit n (pairs_of bytes sizes) _ _) all-accepted)) NoRoom)

  pub call-chained : Chained n (pairs_of bytes sizes)
  call-chained = all-chained (replicate limit 0) (length-replicate {A = ℕ} limit 0) (pairs_of bytes sizes) n call-checked.noted (pairs-formed (words_of bytes sizes) call-checked.formed) steps-fit

pub chained-call : ChainedCall
chained-call n bytes sizes b₀ report b call =
    let said = says-report call.says report (report_of n (pairs_of bytes sizes)) call.answer in
    let all = call-chained n bytes sizes b₀ report b call in
    let left : Note = published_by (pairs_of bytes sizes) n in
    let sound = (accepted-sound limit left all.accepted).0 in
    let size : report.len ≡ length left.normalized = ap (λ (x : Report). x.len) said.1 in
    let text = front_of call.says report.len left.normalized b₀.out b.out said.0 size call.text_is in
    let starts = front_of call.says report.len left.starts b₀.starts b.starts said.0 (size ∙ sym (length-starts left sound)) call.starts_are in
    let ends = front_of call.says report.len left.ends b₀.ends b.ends said.0 (size ∙ sym (length-ends left sound)) call.ends_are in
    let is : left ≡ resulting n (published report.len b.out b.starts b.ends) =
    λ i. record { original = all.same_original i; normalized = sym text i; starts = sym starts i; ends = sym ends i; original_shift = all.same_shift i } in
    rw (← is) all.chain
