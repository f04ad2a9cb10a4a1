-- The whole text filtered byte by byte is what the commands of the flags make of it.
use Prim.Native.Nat.{ℕ, ◌≤◌}
use mathlib.Core.Path.{◌≡◌, ◌∙◌, ap, refl, sym}
use mathlib.Core.Bool.{Bool, true, false, ◌&&◌}
use mathlib.Mathlib.Data.Bool.Basic.{and_elim_left, and_elim_right}
use mathlib.Core.List.{List, [], append-nil}
use native.Mathlib.Omega.{arith}
use lib.Dec.{leb, eqb}
use lib.ListN.{length, drop, drop_of_length-le}
use borrow.Author.Tests.{eqb-true, leb-true}
use Rattle.std.specs.Prelude.{Ok}
use Rattle.buffers.specs.Splice.{part, splice, overlay}
use Rattle.buffers.proofs.Splice.{part_end, splice-overlay}
use Rattle.utf8.specs.Chars.{chars, leads}
use Rattle.utf8.proofs.Chars.{chars-leads}
use Rattle.utf8.proofs.Boundaries.{boundary-zero, boundary-length}
use Rattle.note.specs.Refusals.{least, verdict, Verdict, Accepted}
use Rattle.note.specs.Notes.{Note, lent, Sound}
use Rattle.note.specs.Faults.{note_faults}
use Rattle.note.proofs.Faults.{accepted-sound}
use Rattle.utf8.specs.Formed.{char_range}
use Rattle.edit_steps.specs.Edits.{skipped, characters, carried_values, starved, Edit, first_position, relaid, edited, transformed}
use Rattle.buffers.specs.Keeping.{KeepRoom, PartKept}
use Rattle.edit_steps.specs.Walking.{Standing}
use Rattle.transform.specs.Transforming.{edit_faults, Rewritten, TextCall}
use Rattle.transform.proofs.Verdicts.{small-enough, accepted-rewritten, note-editable}
use Rattle.code_point_blocks.specs.Codes.{text_of}
use Rattle.map_columns.specs.Spreading.{of_chars, spread}
use Rattle.edits.specs.Characters.{codes_of}
use Rattle.edits.specs.Whole.{dropped_ahead, any_kept}
use Rattle.edits.specs.Plain.{sifted}
use Rattle.edits.proofs.Head.{is-placed}
use Rattle.edits.proofs.Shares.{starts-part, ends-part}
use Rattle.edits.proofs.Sifted.{given-sifted, starved-sifted, column-sifted, codes-chars}
use Rattle.filters.specs.Flags.{first_kept, flag_commands, flag_edit, OneValue, RangeReady}
use Rattle.filter_blocks.specs.Chosen.{chosen, all_kept, FlagEach, KeptEnd, KeptRoom, KeptLaid, is_whole}
use Rattle.filters.proofs.Kept.{begun-starved, begun-given}
use Rattle.filter_blocks.proofs.Chosen.{chosen-most}
use Rattle.filter_blocks.proofs.Whole.{all-chosen}
use Rattle.filters.proofs.Sifted.{both-chosen}

-- what an accepted note gives
pub range-ready : (most : ℕ) (n : Note) (flags : List ℕ) {v : Verdict} → v ≡ verdict (note_faults most n) → v ≡ Accepted → length flags ≡ chars n.normalized → RangeReady n.normalized n.starts n.ends flags
range-ready most n flags noted ok counted =
    let sound : Sound n = (accepted-sound most n (sym noted ∙ ok)).0 in
    record {
      editable = note-editable most n noted ok;
      counted = counted;
      one_start = λ q here h. starts-part n sound q here h;
      one_end = λ q here h. ends-part n sound q here h;
    }

module _ {s starts ends flags : List ℕ} (r : RangeReady s starts ends flags) where
  pub flag-each : FlagEach s flags
  flag-each = record { formed = r.editable.formed; counted = r.counted }

  e : Edit
  e = flag_edit s 0 (length s) flags

  standing : Standing s (length s) 0
  standing = record { formed = r.editable.formed; ends = boundary-length s; stands = boundary-zero s r.editable.formed; most = omega arith }

  coded : length (codes_of s) ≡ length flags
  coded = codes-chars s ∙ sym r.counted

  unkept : any_kept (drop (leads (drop 0 s)) flags) ≡ false
  unfolding any_kept
  unkept =
      let past : length flags ≤ leads (drop 0 s) = omega (arith, r.counted, chars-leads s r.editable.formed) in
      rw (drop_of_length-le flags past)

  is-fed : starved s (length s) (first_position s e) (flag_commands s flags) ≡ false
  unfolding e first_position first_kept flag_commands
  is-fed = begun-starved s (length s) 0 flags ∙ starved-sifted s (codes_of s) flags 0 standing coded ∙ unkept

  lies : char_range s 0 (length s) ≡ true
  lies = is-placed s 0 (length s) (omega arith) (boundary-zero s r.editable.formed) (boundary-length s)

  text-made : edited characters s e s ≡ chosen flags 0 s s
  unfolding e edited relaid first_position first_kept flag_commands
  text-made =
      let past : length s ≤ length s = omega arith in
      rw (begun-given s (length s) 0 flags characters, given-sifted s (length s) (skipped s (length s) (dropped_ahead flags) 0) (codes_of s) flags, drop_of_length-le s past, append-nil (text_of (sifted flags (codes_of s))))
      (both-chosen flag-each starts r.editable.one_start r.one_start).0

  column-made : (xs : List ℕ) → length xs ≡ length s → OneValue s xs → edited (carried_values xs) s e xs ≡ chosen flags 0 s xs
  unfolding e edited relaid first_position first_kept flag_commands
  column-made xs same one =
      let past : length xs ≤ length s = omega arith in
      rw (begun-given s (length s) 0 flags (carried_values xs), column-sifted s xs same (codes_of s) flags 0 standing coded unkept, drop_of_length-le xs past, append-nil (spread (sifted flags (codes_of s)) (sifted flags (of_chars s xs))))
      (both-chosen flag-each xs same one).1

  module _ (most : ℕ) (from to : ℕ) (out₀ starts₀ ends₀ : List ℕ) {low : ℕ} (lowest : low ≡ least (length out₀) (length starts₀) (length ends₀)) {t : Bool} (is : t ≡ is_whole most from to (length s) low) (yes : t ≡ true) where
    all : (eqb from 0 && eqb to (length s) && leb (length s) most && leb (length s) low) ≡ true
    unfolding is_whole
    all = sym is ∙ yes

    three : (eqb from 0 && eqb to (length s) && leb (length s) most) ≡ true
    three = and_elim_left (eqb from 0 && eqb to (length s) && leb (length s) most) (leb (length s) low) all

    two : (eqb from 0 && eqb to (length s)) ≡ true
    two = and_elim_left (eqb from 0 && eqb to (length s)) (leb (length s) most) three

    first : from ≡ 0
    first = eqb-true from 0 (and_elim_left (eqb from 0) (eqb to (length s)) two)

    last : to ≡ length s
    last = eqb-true to (length s) (and_elim_right (eqb from 0) (eqb to (length s)) two)

    short : (length s ≤ most) × (length s ≤ low)
    short = (
      leb-true (length s) most (and_elim_right (eqb from 0 && eqb to (length s)) (leb (length s) most) three),
      leb-true (length s) low (and_elim_right (eqb from 0 && eqb to (length s) && leb (length s) most) (leb (length s) low) all),
    )

    pub spanned-room : {end : ℕ} → KeptEnd s flags end → KeptRoom s starts ends flags end out₀ starts₀ ends₀
    spanned-room k =
        record {
          flagged = flag-each;
          kept = k;
          text_ready = record { one_each = refl; room = omega (arith, short, chosen-most flags 0 s, lowest) };
          starts_ready = record { one_each = r.editable.one_start; room = omega (arith, short, chosen-most flags 0 s, lowest) };
          ends_ready = record { one_each = r.editable.one_end; room = omega (arith, short, chosen-most flags 0 s, lowest) };
        }

    pub copied-room : KeepRoom s starts ends 0 (length s) out₀ starts₀ ends₀ 0
    copied-room =
        record {
          onward = omega arith;
          in_text = omega arith;
          in_starts = omega (arith, r.editable.one_start);
          in_ends = omega (arith, r.editable.one_end);
          text_room = omega (arith, short, lowest);
          starts_room = omega (arith, short, lowest);
          ends_room = omega (arith, short, lowest);
        }

    made : {k : ℕ} {out starts₁ ends₁ : List ℕ} → KeptLaid s starts ends flags out₀ starts₀ ends₀ k out starts₁ ends₁
        → Rewritten (verdict (edit_faults most s e (least (length out₀) (length starts₀) (length ends₀)))) (transformed (lent [] s starts ends 0) e) out₀ starts₀ ends₀ (Ok k) out starts₁ ends₁
    unfolding transformed e
    made l =
        accepted-rewritten (small-enough most s e (least (length out₀) (length starts₀) (length ends₀)) lies is-fed (omega (arith, ap length text-made, short, chosen-most flags 0 s, lowest)))
        (l.reached ∙ ap length (sym text-made))
        (l.text_is ∙ ap (λ (x : List ℕ). overlay x out₀) (sym text-made))
        (l.starts_are ∙ ap (λ (x : List ℕ). overlay x starts₀) (sym (column-made starts r.editable.one_start r.one_start)))
        (l.ends_are ∙ ap (λ (x : List ℕ). overlay x ends₀) (sym (column-made ends r.editable.one_end r.one_end)))

    pub spanned-made : {k : ℕ} {out starts₁ ends₁ : List ℕ} → KeptLaid s starts ends flags out₀ starts₀ ends₀ k out starts₁ ends₁ → TextCall most s starts ends (flag_edit s from to flags) out₀ starts₀ ends₀ (Ok k) out starts₁ ends₁
    unfolding e
    spanned-made l = rw (first, last) (made l)

-- a filter that keeps all copies all
module _ {s flags : List ℕ} (f : FlagEach s flags) (all : all_kept flags ≡ true) where
  module _ {starts ends out₀ starts₀ ends₀ out starts₁ ends₁ : List ℕ} (one_start : length starts ≡ length s) (one_end : length ends ≡ length s) (k : PartKept s starts ends 0 (length s) out₀ starts₀ ends₀ 0 out starts₁ ends₁) where
    column-copied : (xs d₀ d : List ℕ) → length xs ≡ length s → d ≡ splice d₀ 0 (part xs 0 (length s)) → d ≡ overlay (chosen flags 0 s xs) d₀
    column-copied xs d₀ d same is = is ∙ rw (← same, part_end xs 0) (splice-overlay d₀ xs) ∙ ap (λ (x : List ℕ). overlay x d₀) (sym (all-chosen f all xs same))

    pub all-copied : KeptLaid s starts ends flags out₀ starts₀ ends₀ (length s) out starts₁ ends₁
    all-copied =
        record {
          reached = ap length (sym (all-chosen f all s refl));
          text_is = column-copied s out₀ out refl k.text_is;
          starts_are = column-copied starts starts₀ starts₁ one_start k.starts_are;
          ends_are = column-copied ends ends₀ ends₁ one_end k.ends_are;
        }
