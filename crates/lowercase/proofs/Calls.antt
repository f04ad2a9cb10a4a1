-- Laws of `LowercaseCall`: what the call answers and leaves, by the checks that were made.
use Prim.Native.Nat.{ℕ, ◌+◌, ◌≤◌, ◌<◌, min}
use mathlib.Core.Path.{◌≡◌, ◌∙◌, ap, refl, sym}
use mathlib.Core.Bool.{Bool, true, false}
use mathlib.Core.List.{List}
use native.Mathlib.Omega.{arith}
use lib.Dec.{ltb}
use lib.ListN.{length}
use Rattle.std.specs.Prelude.{Result, Ok, Err}
use Rattle.buffers.specs.Splice.{overlay}
use Rattle.note.specs.declared.Refusal.{Refusal}
use Rattle.note.specs.declared.Refusal.TheVariants.{Exhausted, NoRoom, Misaligned}
use Rattle.note.specs.Refusals.{none, least, also, verdict, Verdict, Accepted}
use Rattle.note.specs.Notes.{Note, Sound}
use Rattle.note.specs.Faults.{note_faults}
use Rattle.note.specs.Rank.{up_to}
use Rattle.note.proofs.FirstMet.{refused-then, accepted-then}
use Rattle.note.proofs.Sound.{length-starts, length-ends, normalized-formed, shared_at}
use Rattle.note.proofs.Faults.{accepted-sound}
use Rattle.code_point_blocks.specs.Codes.{text_of}
use Rattle.map_columns.specs.Spreading.{of_chars}
use Rattle.map_columns.specs.Laying.{Steady}
use Rattle.edit_steps.specs.Edits.{characters, edited, transformed}
use Rattle.transform.specs.Transforming.{Rewritten}
use Rattle.transform.proofs.Verdicts.{inputs-refused, inputs-accepted, starving, too_large, small-enough, refused-rewritten, accepted-rewritten}
use Rattle.edits.specs.Characters.{codes_of}
use Rattle.edits.specs.Plain.{MakesUnless, widthless, head_bytes, head_chars}
use Rattle.edits.proofs.Head.{whole-behind}
use Rattle.edits.proofs.Sifted.{codes-chars, head-told}
use Rattle.lowercase.specs.Images.{lowercase_table}
use Rattle.lowercase.specs.Lowering.{lowercase_edit, lowercase_faults, all_images, carried_by_images, lowercased}
use Rattle.lowercase.specs.Laying.{lowered_bytes, dotted_pairs, grown, LowerRoom, ColumnRoom}
use Rattle.lowercase.proofs.Bytes.{lowered-text}
use Rattle.lowercase.proofs.Grown.{grown-carried, grown-size}
use Rattle.lowercase.proofs.Lowering.{lowercased-closed}

module _ (most : ℕ) (n : Note) (out₀ starts₀ ends₀ : List ℕ) {v : Verdict} (noted : v ≡ verdict (note_faults most n)) where
  abbrev Called : Result ℕ Refusal → List ℕ → List ℕ → List ℕ → Type 0
  Called r out starts ends =
      Rewritten (verdict (lowercase_faults most n (least (length out₀) (length starts₀) (length ends₀)))) (transformed n (lowercase_edit n)) out₀ starts₀ ends₀ r out starts ends

  abbrev inputs : Refusal → Bool
  inputs = also (note_faults most n) none

  pub note-refused : {k : Refusal} → v ≡ Err k → Called (Err k) out₀ starts₀ ends₀
  note-refused is =
      inputs-refused most n inputs refl (lowercase_edit n) out₀ starts₀ ends₀ (refused-then (up_to Misaligned) (note_faults most n) none refl refl noted is) refl

  module _ (ok : v ≡ Accepted) where
    sound : Sound n
    sound = (accepted-sound most n (sym noted ∙ ok)).0

    pub columns-even : length n.starts ≡ length n.ends
    columns-even = length-starts n sound ∙ sym (length-ends n sound)

    no_more : Accepted ≡ verdict none
    unfolding verdict
    no_more = refl

    accepted : Accepted ≡ verdict inputs
    accepted = accepted-then (up_to Misaligned) (note_faults most n) none refl refl noted ok no_more

    makes : MakesUnless n (lowercase_edit n) (ltb 0 (head_chars (head_bytes n) n)) (lowercased n)
    makes = lowercased-closed n sound

    module _ {t : Bool} (head : t ≡ ltb 0 (widthless n.starts n.ends)) where
      told : t ≡ ltb 0 (head_chars (head_bytes n) n)
      told = head ∙ sym (head-told n sound (whole-behind n sound) (codes_of n.normalized) (codes-chars n.normalized))

      pub head-refused : t ≡ true → Called (Err Exhausted) out₀ starts₀ ends₀
      head-refused e =
          inputs-accepted most n inputs refl (lowercase_edit n) out₀ starts₀ ends₀ accepted refl refl
          (refused-rewritten (starving most n.normalized (lowercase_edit n) (least (length out₀) (length starts₀) (length ends₀)) makes.lies (makes.exhausts ∙ sym told ∙ e)))

      module _ (headless : t ≡ false) {d : ℕ} (counted : d ≡ dotted_pairs n.normalized) {low room : ℕ} (lowest : low ≡ least (length out₀) (length starts₀) (length ends₀)) (r : room ≡ min most low) where
        unheaded : ltb 0 (head_chars (head_bytes n) n) ≡ false
        unheaded = sym told ∙ headless

        steady_starts : Steady n.normalized n.starts
        steady_starts = λ q inside goes. (shared_at n sound q inside goes).0

        steady_ends : Steady n.normalized n.ends
        steady_ends = λ q inside goes. (shared_at n sound q inside goes).1

        size : length (text_of (all_images (codes_of n.normalized))) ≡ length n.normalized + d
        size = omega (arith, counted, grown-size n.normalized n.starts (length-starts n sound) steady_starts (normalized-formed n sound))

        result : length (edited characters n.normalized (lowercase_edit n) n.normalized) ≡ length n.normalized + d
        unfolding transformed lowercased
        result = ap (λ (x : Note). length x.normalized) (makes.leaves unheaded) ∙ size

        pub lower-large : room < length n.normalized + d → Called (Err NoRoom) out₀ starts₀ ends₀
        lower-large h =
            inputs-accepted most n inputs refl (lowercase_edit n) out₀ starts₀ ends₀ accepted refl refl
            (refused-rewritten (too_large most n.normalized (lowercase_edit n) (least (length out₀) (length starts₀) (length ends₀)) makes.lies (makes.exhausts ∙ unheaded) (omega (arith, result, lowest, r))))

        module _ (h : length n.normalized + d ≤ room) where
          text : lowered_bytes n.normalized ≡ text_of (all_images (codes_of n.normalized))
          text = lowered-text n.normalized (normalized-formed n sound)

          pub text_room : {table : List ℕ} → table ≡ lowercase_table → LowerRoom n.normalized 0 table out₀ 0
          text_room tabled = record { formed = normalized-formed n sound; inside = omega arith; tabled = tabled; room = omega (arith, ap length text, size, lowest, r) }

          column-room : (xs buffer : List ℕ) → length xs ≡ length n.normalized → room ≤ length buffer → ColumnRoom n.normalized xs (length n.normalized + d) buffer
          column-room xs buffer one long = record { one_each = one; counted = omega (arith, counted); room = omega arith }

          pub starts_room : ColumnRoom n.normalized n.starts (length n.normalized + d) starts₀
          starts_room = column-room n.starts starts₀ (length-starts n sound) (omega (arith, lowest, r))

          pub ends_room : ColumnRoom n.normalized n.ends (length n.normalized + d) ends₀
          ends_room = column-room n.ends ends₀ (length-ends n sound) (omega (arith, lowest, r))

          column-made : (xs buffer : List ℕ) {now : List ℕ} → length xs ≡ length n.normalized → Steady n.normalized xs → now ≡ overlay (grown n.normalized xs) buffer
              → now ≡ overlay (carried_by_images (codes_of n.normalized) (of_chars n.normalized xs)) buffer
          column-made xs buffer one steady is =
              is ∙ ap (λ (l : List ℕ). overlay l buffer) (grown-carried n.normalized xs one steady (normalized-formed n sound))

          pub lower-made : {out starts ends : List ℕ} → out ≡ overlay (lowered_bytes n.normalized) out₀ → starts ≡ overlay (grown n.normalized n.starts) starts₀
              → ends ≡ overlay (grown n.normalized n.ends) ends₀ → Called (Ok (length n.normalized + d)) out starts ends
          unfolding transformed lowercased
          lower-made o s e =
              let leaves = sym (makes.leaves unheaded) in
              inputs-accepted most n inputs refl (lowercase_edit n) out₀ starts₀ ends₀ accepted refl refl
              (accepted-rewritten (small-enough most n.normalized (lowercase_edit n) (least (length out₀) (length starts₀) (length ends₀)) makes.lies (makes.exhausts ∙ unheaded) (omega (arith, result, lowest, r)))
              (sym result)
              (o ∙ ap (λ (l : List ℕ). overlay l out₀) text ∙ ap (λ (x : Note). overlay x.normalized out₀) leaves)
              (column-made n.starts starts₀ (length-starts n sound) steady_starts s ∙ ap (λ (x : Note). overlay x.starts starts₀) leaves)
              (column-made n.ends ends₀ (length-ends n sound) steady_ends e ∙ ap (λ (x : Note). overlay x.ends ends₀) leaves))
