-- Laws of `map`: the head, the room, and the code points laid down.
use Prim.Native.Nat.{ℕ, suc, ◌≤◌, ◌<◌, min}
use mathlib.Core.Path.{◌≡◌, ◌∙◌, ap, refl, sym}
use mathlib.Core.Bool.{Bool, true, false, not}
use mathlib.Core.List.{List, [], ◌∷◌}
use native.Mathlib.Omega.{arith}
use lib.Dec.{ltb, eqb}
use lib.ListN.{length, get_or}
use borrow.Author.Tests.{not-false, lt-ltb}
use Rattle.std.specs.Prelude.{Result, Ok, Err}
use Rattle.buffers.specs.Splice.{overlay}
use Rattle.buffers.specs.Over.{Over}
use Rattle.buffers.proofs.Cases.{true-or-false}
use Rattle.buffers.proofs.Splice.{splice-overlay}
use Rattle.utf8.specs.Chars.{chars, leads}
use Rattle.utf8.proofs.Chars.{chars-leads}
use Rattle.note.specs.declared.Refusal.TheVariants.{Exhausted, NoRoom}
use Rattle.note.specs.Refusals.{least, also, verdict, Verdict, Accepted}
use Rattle.note.specs.Notes.{Note, Sound}
use Rattle.note.specs.Faults.{note_faults}
use Rattle.note.proofs.Sound.{length-starts, length-ends, normalized-formed, shared_at}
use Rattle.note.proofs.Faults.{accepted-sound}
use Rattle.code_point_blocks.specs.Codes.{text_of}
use Rattle.code_points.specs.declared.Judged.{Judged}
use Rattle.code_points.specs.Laying.{JudgedAs}
use Rattle.code_point_blocks.proofs.Parts.{over-splice}
use Rattle.map_columns.specs.declared.Reached.{Reached}
use Rattle.map_columns.specs.Spreading.{of_chars, spread}
use Rattle.map_columns.specs.Laying.{SpreadRoom, CodesRoom, CodesLaid}
use Rattle.map_columns.proofs.Chars.{length-chars}
use Rattle.map_columns.proofs.Spread.{spread-all}
use Rattle.edit_steps.specs.Edits.{characters, edited, transformed}
use Rattle.transform.specs.Transforming.{call_faults, Rewritten}
use Rattle.transform.proofs.Verdicts.{inputs-accepted, starving, too_large, small-enough, refused-rewritten, accepted-rewritten}
use Rattle.edits.specs.Whole.{codes_faults, map_edit}
use Rattle.edits.specs.Plain.{MakesUnless, widthless, head_bytes, head_chars, mapped}
use Rattle.edits.proofs.Head.{whole-behind}
use Rattle.edits.proofs.Inputs.{well-counted}
use Rattle.edits.proofs.Sifted.{head-told, mapped-closed}
use Rattle.note.specs.declared.Refusal.{Refusal}

-- the head, by the first alignment
pub no-head : (starts ends : List ℕ) → length starts ≡ 0 → false ≡ ltb 0 (widthless starts ends)
unfolding widthless
no-head [] ends none = refl
no-head (s ∷ starts) ends none = absurd (omega arith)

pub first_head : (starts ends : List ℕ) → length starts ≡ length ends → (length starts ≡ 0 → ⊥) → eqb (get_or starts 0 0) (get_or ends 0 0) ≡ ltb 0 (widthless starts ends)
unfolding widthless
first_head [] ends even some = absurd (some refl)
first_head (s ∷ starts) [] even some = absurd (omega arith)
first_head (s ∷ starts) (e ∷ ends) even some =
    true-or-false (eqb s e) (λ t. rw t (sym (lt-ltb 0 (suc (widthless starts ends)) (omega arith)))) (λ u. rw u)

-- the call, after the note's check and the code points'
module _ (most : ℕ) (n : Note) (codes out₀ starts₀ ends₀ : List ℕ) {v : Verdict} (noted : v ≡ verdict (note_faults most n)) (ok : v ≡ Accepted) {j : Judged} (judged : JudgedAs codes j) (scalars : not j.scalar ≡ false) {m : ℕ} (counted : m ≡ leads n.normalized) (each : length codes ≡ m) where
  abbrev Mapped : Result ℕ Refusal → List ℕ → List ℕ → List ℕ → Type 0
  Mapped r out starts ends =
      Rewritten (verdict (call_faults most n (codes_faults n.normalized codes) (map_edit n codes) (least (length out₀) (length starts₀) (length ends₀)))) (transformed n (map_edit n codes)) out₀ starts₀ ends₀ r out starts ends

  sound : Sound n
  sound = (accepted-sound most n (sym noted ∙ ok)).0

  coded : length codes ≡ chars n.normalized
  coded = each ∙ counted ∙ sym (chars-leads n.normalized (normalized-formed n sound))

  inputs : Accepted ≡ verdict (also (note_faults most n) (codes_faults n.normalized codes))
  inputs = well-counted most n codes noted ok judged.scalar_is scalars counted each

  makes : MakesUnless n (map_edit n codes) (ltb 0 (head_chars (head_bytes n) n)) (mapped n codes)
  makes = mapped-closed n codes sound coded

  module _ {t : Bool} (head : t ≡ ltb 0 (widthless n.starts n.ends)) where
    told : t ≡ ltb 0 (head_chars (head_bytes n) n)
    told = head ∙ sym (head-told n sound (whole-behind n sound) codes coded)

    pub head-refused : t ≡ true → Mapped (Err Exhausted) out₀ starts₀ ends₀
    head-refused e =
        inputs-accepted most n (also (note_faults most n) (codes_faults n.normalized codes)) refl (map_edit n codes) out₀ starts₀ ends₀ inputs refl refl
        (refused-rewritten (starving most n.normalized (map_edit n codes) (least (length out₀) (length starts₀) (length ends₀)) makes.lies (makes.exhausts ∙ sym told ∙ e)))

    module _ (none : t ≡ false) {low room : ℕ} (lowest : low ≡ least (length out₀) (length starts₀) (length ends₀)) (r : room ≡ min most low) where
      headless : ltb 0 (head_chars (head_bytes n) n) ≡ false
      headless = sym told ∙ none

      size : length (edited characters n.normalized (map_edit n codes) n.normalized) ≡ j.size
      unfolding transformed mapped
      size = ap (λ (x : Note). length x.normalized) (makes.leaves headless) ∙ sym judged.size_is

      pub map-large : room < j.size → Mapped (Err NoRoom) out₀ starts₀ ends₀
      map-large h =
          inputs-accepted most n (also (note_faults most n) (codes_faults n.normalized codes)) refl (map_edit n codes) out₀ starts₀ ends₀ inputs refl refl
          (refused-rewritten (too_large most n.normalized (map_edit n codes) (least (length out₀) (length starts₀) (length ends₀)) makes.lies (makes.exhausts ∙ headless) (omega (arith, size, lowest, r))))

      module _ (h : j.size ≤ room) where
        column-room : (xs d : List ℕ) → length xs ≡ length n.normalized → room ≤ length d → SpreadRoom n.normalized xs codes d 0 j.size
        column-room xs d one long = record { one_each = one; room = omega (arith, judged.size_is); bounded = omega arith }

        pub map-room : CodesRoom n.normalized n.starts n.ends 0 codes out₀ starts₀ ends₀ 0 j.size
        map-room =
            record {
              chars_room =
                  record {
                    inside = omega arith;
                    enough = omega (arith, each, counted);
                    starts_room = column-room n.starts starts₀ (length-starts n sound) (omega (arith, lowest, r));
                    ends_room = column-room n.ends ends₀ (length-ends n sound) (omega (arith, lowest, r));
                  };
              scalars = sym judged.scalar_is ∙ not-false j.scalar scalars;
              steady_starts = λ q inside goes. (shared_at n sound q inside goes).0;
              steady_ends = λ q inside goes. (shared_at n sound q inside goes).1;
              room = omega (arith, judged.size_is, lowest, r);
              bounded = omega (arith, lowest, r);
            }

        column-made : (xs d₀ d : List ℕ) → length xs ≡ length n.normalized → Over (spread codes (of_chars n.normalized xs)) d₀ 0 j.size d → d ≡ overlay (spread codes (of_chars n.normalized xs)) d₀
        column-made xs d₀ d one o =
            let long : length (spread codes (of_chars n.normalized xs)) ≡ length (text_of codes) = spread-all codes (of_chars n.normalized xs) (omega (arith, length-chars n.normalized xs one, each, counted)) in
            over-splice o (omega (arith, judged.size_is, long)) ∙ splice-overlay d₀ (spread codes (of_chars n.normalized xs))

        pub map-made : {l : Reached} {out starts ends : List ℕ} → CodesLaid n.normalized n.starts n.ends 0 codes out₀ starts₀ ends₀ 0 j.size l out starts ends → Mapped (Ok l.written) out starts ends
        unfolding transformed mapped
        map-made {out = out} {starts} {ends} l =
            inputs-accepted most n (also (note_faults most n) (codes_faults n.normalized codes)) refl (map_edit n codes) out₀ starts₀ ends₀ inputs refl refl
            (accepted-rewritten (small-enough most n.normalized (map_edit n codes) (least (length out₀) (length starts₀) (length ends₀)) makes.lies (makes.exhausts ∙ headless) (omega (arith, size, lowest, r)))
            (omega (arith, l.written_is, size, judged.size_is))
            (over-splice l.text_over (omega (arith, judged.size_is)) ∙ splice-overlay out₀ (text_of codes) ∙ ap (λ (x : Note). overlay x.normalized out₀) (sym (makes.leaves headless)))
            (column-made n.starts starts₀ starts (length-starts n sound) l.chars_laid.starts_over ∙ ap (λ (x : Note). overlay x.starts starts₀) (sym (makes.leaves headless)))
            (column-made n.ends ends₀ ends (length-ends n sound) l.chars_laid.ends_over ∙ ap (λ (x : Note). overlay x.ends ends₀) (sym (makes.leaves headless))))
