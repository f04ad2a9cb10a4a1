-- Laws of `placeEdit`: all characters of the range are skipped, so that the content is added at its end.
use Prim.Native.Nat.{ℕ, zero, suc, ◌+◌, ◌≤◌}
use mathlib.Core.Path.{◌≡◌, ◌∙◌, ap, refl, sym}
use mathlib.Core.Bool.{true}
use mathlib.Core.List.{List, ◌++◌}
use native.Mathlib.Omega.{arith}
use lib.ListN.{length, get_or, take, drop, replicate}
use Rattle.buffers.specs.Splice.{part}
use Rattle.buffers.proofs.Cases.{le-or-lt}
use Rattle.utf8.specs.Formed.{announced, well_formed, char_range}
use Rattle.utf8.specs.Chars.{chars, leads}
use Rattle.utf8.proofs.Chars.{chars-leads, leads-append}
use Rattle.utf8.proofs.Boundaries.{Between, char-range-between, formed-part, boundary-most}
use Rattle.note.specs.Notes.{Note, lent, before_end}
use Rattle.map_columns.proofs.Chars.{leads-at}
use Rattle.edit_steps.specs.Edits.{skipped, first_position, relaid, edited, transformed}
use Rattle.edit_steps.specs.Walking.{Standing}
use Rattle.edit_steps.specs.Laying.{Editable}
use Rattle.edit_steps.proofs.Positions.{standing-next, skipped-on, skipped-none}
use Rattle.edits.specs.Characters.{codes_of}
use Rattle.edits.specs.Plain.{Makes}
use Rattle.edits.proofs.Characters.{codes-text}
use Rattle.append_prepend.proofs.Adding.{adding-text, adding-fed, adding-column}
use Rattle.replace_by_edits.specs.Road.{place_edit}
use Rattle.replace_by_edits.proofs.Parts.{drop-parts}

-- characters up to b, and those after it
leads-between : (s : List ℕ) (p b : ℕ) → p ≤ b → leads (drop p s) ≡ leads (part s p b) + leads (drop b s)
leads-between s p b h = ap leads (drop-parts s p b h) ∙ leads-append (part s p b) (drop b s)

skipped-leads : (s : List ℕ) (b k p : ℕ) → Standing s b p → leads (drop p s) ≡ k + leads (drop b s) → skipped s b k p ≡ b
skipped-leads s b zero p at few =
    le-or-lt b p
    (λ past. skipped-none s b p ∙ omega (arith, at.most))
    (λ more.
    let inside = boundary-most s b at.ends in
    let one = leads-at s s refl p at.formed at.stands (omega arith) in
    absurd (omega (arith, one, few, leads-between s (p + announced (get_or s p 0)) b (standing-next at more).most)))
skipped-leads s b (suc k) p at few =
    le-or-lt b p
    (λ past. let here : p ≡ b = omega (arith, at.most) in absurd (omega (arith, rw here at few)))
    (λ more.
    let inside = boundary-most s b at.ends in
    let one = leads-at s s refl p at.formed at.stands (omega arith) in
    skipped-on s b k p more ∙ skipped-leads s b k (p + announced (get_or s p 0)) (standing-next at more) (omega (arith, one, few)))

module _ (s : List ℕ) (a b : ℕ) (formed : well_formed s ≡ true) (r : char_range s a b ≡ true) where
  pub from-standing : Standing s b a
  from-standing =
      let between : Between s a b = char-range-between s a b r in
      record { formed = formed; ends = between.to_boundary; stands = between.from_boundary; most = between.onward }

  pub to-standing : Standing s b b
  to-standing =
      let between : Between s a b = char-range-between s a b r in
      record { formed = formed; ends = between.to_boundary; stands = between.to_boundary; most = omega arith }

  pub all-skipped : skipped s b (chars (part s a b)) a ≡ b
  all-skipped =
      let between : Between s a b = char-range-between s a b r in
      let counted : chars (part s a b) ≡ leads (part s a b) = chars-leads (part s a b) (formed-part s a b formed between.from_boundary between.to_boundary between.onward) in
      skipped-leads s b (chars (part s a b)) a from-standing (leads-between s a b between.onward ∙ ap (λ (k : ℕ). k + leads (drop b s)) (sym counted))

  pub first-at-end : (content : List ℕ) → first_position s (place_edit content a b s) ≡ b
  unfolding first_position place_edit
  first-at-end content = all-skipped

-- a column of which a..b give way to what `fill` makes of what is before b
unfoldable pub swapped : (ℕ → List ℕ) → ℕ → ℕ → List ℕ → List ℕ
swapped fill a b xs = take a xs ++ (fill (before_end xs b) ++ drop b xs)

abbrev pub swapped_note : List ℕ → ℕ → ℕ → Note → Note
swapped_note content a b n =
    lent n.original (swapped (λ v. content) a b n.normalized) (swapped (replicate (length content)) a b n.starts)
    (swapped (replicate (length content)) a b n.ends) n.original_shift

-- THE EDIT in plain words: neither 5 nor 7, and the content takes the place of the range
module _ (n : Note) (content : List ℕ) (a b : ℕ) (e : Editable n.normalized n.starts n.ends) (r : char_range n.normalized a b ≡ true) (well : well_formed content ≡ true) where
  pub place-makes : Makes n (place_edit content a b n.normalized) (swapped_note content a b n)
  unfolding place_edit transformed edited relaid swapped
  place-makes =
      let s : List ℕ = n.normalized in
      let first : first_position s (place_edit content a b s) ≡ b = first-at-end s a b e.formed r content in
      record {
        lies = r;
        feeds = adding-fed s b (first_position s (place_edit content a b s)) (codes_of content);
        leaves = rw (
          first,
          adding-text s b b (codes_of content),
          adding-column s b b n.starts (codes_of content),
          adding-column s b b n.ends (codes_of content),
          codes-text content well,
        );
      }
