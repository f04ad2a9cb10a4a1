-- What a call has published, cut from its buffers, and the same call on other buffers that it is copied to.
use Prim.Native.Nat.{ℕ, ◌≤◌}
use mathlib.Core.Path.{◌≡◌, ◌∙◌, ap, sym}
use mathlib.Core.List.{List}
use native.Mathlib.Omega.{arith}
use lib.ListN.{length, take}
use Rattle.std.specs.Prelude.{Result, Ok, Err}
use Rattle.buffers.specs.Splice.{splice}
use Rattle.buffers.proofs.Splice.{splice-overlay, overlay-long}
use Rattle.note.specs.declared.Refusal.{Refusal}
use Rattle.note.specs.Refusals.{after, unless_refused, Verdict, Accepted}
use Rattle.note.specs.Notes.{Note, limit}
use Rattle.note.proofs.Sound.{length-starts, length-ends}
use Rattle.find.specs.Matching.{found_places}
use Rattle.find.specs.Finding.{found_bytes}
use Rattle.replace.specs.Replacing.{Replacing, resulting}
use Rattle.replace.specs.Blanking.{Equal, published}
use Rattle.replace.proofs.Faults.{published-says, published-size, published-short}
use Rattle.replace.proofs.Replaced.{replaced-sound}
use Rattle.replace.proofs.Blanking.{published-is}
use Rattle.redact_note.specs.Redacting.{blanked_note, match_count, NoteRedacted}
use Rattle.redact_note.proofs.Redacting.{blanked-call, says-published}

pub says-refused : (v : Verdict) {k : Refusal} (size count : ℕ) → ◌≡◌ {A = Result (ℕ × ℕ) Refusal} (Err k) (unless_refused Err v (Ok (size, count))) → v ≡ Err k
says-refused (Ok tt) size count e = let z : ◌≡◌ {A = ℕ} 0 1 = cc in absurd (omega arith)
says-refused (Err j) size count e = ap Err (sym cc)

-- what was published fits
pub record Fits (m : ℕ) (out starts ends : List ℕ) : Type 0 where
  pub within : m ≤ limit
  pub text_fits : m ≤ length out
  pub starts_fit : m ≤ length starts
  pub ends_fit : m ≤ length ends

-- a call that has published so many bytes
module _ {n : Note} {literal content list₀ out₀ starts₀ ends₀ : List ℕ} {r : Result (ℕ × ℕ) Refusal} {list out starts ends : List ℕ} {m count : ℕ} (known : NoteRedacted limit n literal content list₀ out₀ starts₀ ends₀ r list out starts ends) (is : r ≡ Ok (m, count)) where
  pub says-accepted : known.says ≡ Accepted
  says-accepted = (says-published known.says m count _ _ (sym is ∙ known.answer)).0

  pub counted : count ≡ match_count (found_places n.normalized literal)
  counted = (says-published known.says m count _ _ (sym is ∙ known.answer)).2

  replacing : Replacing limit n (found_bytes n.normalized literal) content out₀ starts₀ ends₀ (Ok m) out starts ends
  replacing = blanked-call n literal content list₀ out₀ starts₀ ends₀ m count list out starts ends (rw is at known)

  pub parts : Equal (published m out starts ends) (blanked_note n literal content)
  parts = published-is replacing

  over-long : (r d : List ℕ) {o : List ℕ} → m ≡ length r → o ≡ after known.says r d → m ≤ length o
  over-long r d {o} size e =
      let there : o ≡ after Accepted r d = e ∙ ap (λ (v : Verdict). after v r d) says-accepted in
      omega (arith, size, ap length there, overlay-long r d)

  pub call_fits : Fits m out starts ends
  call_fits =
      let sound = (replaced-sound limit n (found_bytes n.normalized literal) content _ (sym replacing.says_is ∙ published-says replacing)).0 in
      let size = published-size replacing in
      record {
        within = published-short replacing;
        text_fits = over-long (blanked_note n literal content).text _ size known.text_is;
        starts_fit = over-long (blanked_note n literal content).starts _ (size ∙ sym (length-starts (resulting n (blanked_note n literal content)) sound)) known.starts_are;
        ends_fit = over-long (blanked_note n literal content).ends _ (size ∙ sym (length-ends (resulting n (blanked_note n literal content)) sound)) known.ends_are;
      }

-- the same call on other buffers of the same lengths
module _ {n : Note} {literal content list₀ out₀ starts₀ ends₀ : List ℕ} {r : Result (ℕ × ℕ) Refusal} {list out starts ends : List ℕ}
    (known : NoteRedacted limit n literal content list₀ out₀ starts₀ ends₀ r list out starts ends) (text₁ starts₁ ends₁ : List ℕ)
    (t : length out₀ ≡ length text₁) (s : length starts₀ ≡ length starts₁) (e : length ends₀ ≡ length ends₁) where
  moved : {text₂ starts₂ ends₂ : List ℕ} → text₂ ≡ after known.says (blanked_note n literal content).text text₁
      → starts₂ ≡ after known.says (blanked_note n literal content).starts starts₁
      → ends₂ ≡ after known.says (blanked_note n literal content).ends ends₁
      → NoteRedacted limit n literal content list₀ text₁ starts₁ ends₁ r list text₂ starts₂ ends₂
  moved ts ss es =
      record {
        says = known.says;
        says_is = known.says_is ∙ rw (t, s, e);
        answer = known.answer;
        list_is = known.list_is;
        text_is = ts;
        starts_are = ss;
        ends_are = es;
      }

  pub moved-refused : {k : Refusal} → r ≡ Err k → NoteRedacted limit n literal content list₀ text₁ starts₁ ends₁ (Err k) list text₁ starts₁ ends₁
  moved-refused {k} is =
      let kept : (x d : List ℕ) → d ≡ after known.says x d = λ x d. sym (ap (λ (v : Verdict). after v x d) (says-refused known.says {k = k} _ _ (sym is ∙ known.answer))) in
      rw (← is) (moved (kept (blanked_note n literal content).text text₁) (kept (blanked_note n literal content).starts starts₁) (kept (blanked_note n literal content).ends ends₁))

  pub moved-published : {m count : ℕ} {text₂ starts₂ ends₂ : List ℕ} → r ≡ Ok (m, count) → text₂ ≡ splice text₁ 0 (take m out)
      → starts₂ ≡ splice starts₁ 0 (take m starts) → ends₂ ≡ splice ends₁ 0 (take m ends)
      → NoteRedacted limit n literal content list₀ text₁ starts₁ ends₁ (Ok (m, count)) list text₂ starts₂ ends₂
  moved-published {m} {count} is ts ss es =
      let cut = parts known is in
      let copied : (x o d f : List ℕ) → f ≡ splice d 0 o → o ≡ x → f ≡ after known.says x d =
      λ x o d f there same. there ∙ ap (splice d 0) same ∙ splice-overlay d x ∙ sym (ap (λ (v : Verdict). after v x d) (says-accepted known is)) in
      rw (← is)
      (moved
      (copied (blanked_note n literal content).text (take m out) text₁ _ ts cut.same_text)
      (copied (blanked_note n literal content).starts (take m starts) starts₁ _ ss cut.same_starts)
      (copied (blanked_note n literal content).ends (take m ends) ends₁ _ es cut.same_ends))
