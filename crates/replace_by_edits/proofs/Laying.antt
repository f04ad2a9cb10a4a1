-- One place edited in buffers: what is before it, the content, what is after it; and that this is the edit by commands.
use Prim.Native.Nat.{ℕ, ◌+◌, ◌-◌}
use mathlib.Core.Path.{◌≡◌, ◌∙◌, ap, sym}
use mathlib.Core.Bool.{true}
use mathlib.Core.List.{List}
use native.Mathlib.Omega.{arith}
use lib.ListN.{length, replicate}
use Rattle.buffers.specs.Splice.{splice}
use Rattle.buffers.specs.Keeping.{KeepRoom, PartKept}
use Rattle.utf8.specs.Formed.{well_formed}
use Rattle.utf8.proofs.Boundaries.{Between, char-range-between}
use Rattle.note.specs.Notes.{Note, before_end}
use Rattle.pattern.specs.declared.Place.{Place}
use Rattle.script.specs.declared.Command.{Command}
use Rattle.edit_steps.specs.Edits.{characters, carried_values, produced, edited, transformed}
use Rattle.edit_steps.specs.Walking.{commands_size}
use Rattle.edit_steps.specs.Laying.{CommandsLaid, CommandsRoom, EditRoom, EditLaid}
use Rattle.edit_steps.proofs.Given.{length-given, characters-wide, front-room, middle-room, back-room, edit-laid}
use Rattle.edits.specs.Characters.{codes_of}
use Rattle.edits.specs.Whole.{all_adding}
use Rattle.edits.proofs.Characters.{codes-text}
use Rattle.append_prepend.proofs.Adding.{adding-text, adding-fed, adding-column}
use Rattle.replace_by_edits.specs.Road.{place_edit, edited_place}
use Rattle.replace_by_edits.specs.Stepping.{AddedRoom, AddedLaid, PlaceEditRoom, NoteLaid}
use Rattle.replace_by_edits.proofs.PlaceEdit.{to-standing, first-at-end}

-- the content is what its commands give
module _ (s content : List ℕ) (b : ℕ) (well : well_formed content ≡ true) where
  abbrev pub commands : List Command
  commands = all_adding (codes_of content)

  pub adds-content : produced characters s b b commands ≡ content
  adds-content = adding-text s b b (codes_of content) ∙ codes-text content well

  pub adds-column : (xs : List ℕ) → produced (carried_values xs) s b b commands ≡ replicate (length content) (before_end xs b)
  adds-column xs = adding-column s b b xs (codes_of content) ∙ rw (codes-text content well)

  pub adds-size : commands_size commands ≡ length content
  adds-size = sym (length-given characters characters-wide s b b commands) ∙ ap length adds-content

module _ {n : Note} {p : Place} {content out₀ starts₀ ends₀ : List ℕ} (r : PlaceEditRoom n p content out₀ starts₀ ends₀) where
  abbrev s : List ℕ
  s = n.normalized

  abbrev a : ℕ
  a = p.start.0

  abbrev b : ℕ
  b = p.end.0

  pub edit-room : EditRoom s n.starts n.ends a b b (commands s content b r.ready.formed) out₀ starts₀ ends₀
  edit-room =
      let between : Between s a b = char-range-between s a b r.ready.lies in
      let size = adds-size s content b r.ready.formed in
      record {
        one_start = r.ready.editable.one_start;
        one_end = r.ready.editable.one_end;
        standing = to-standing s a b r.ready.editable.formed r.ready.lies;
        forward = between.onward;
        inside = between.inside;
        feeds = adding-fed s b b (codes_of content);
        text_room = omega (arith, size, r.text_room);
        starts_room = omega (arith, size, r.starts_room);
        ends_room = omega (arith, size, r.ends_room);
      }

  pub front-keeps : KeepRoom s n.starts n.ends 0 a out₀ starts₀ ends₀ 0
  front-keeps = front-room edit-room

  module _ {out₁ starts₁ ends₁ : List ℕ} (k : PartKept s n.starts n.ends 0 a out₀ starts₀ ends₀ 0 out₁ starts₁ ends₁) where
    pub content-room : AddedRoom n.starts n.ends b content out₁ starts₁ ends₁ a
    content-room =
        let room : CommandsRoom s n.starts n.ends b b (commands s content b r.ready.formed) out₁ starts₁ ends₁ a = middle-room edit-room k in
        let size = adds-size s content b r.ready.formed in
        record {
          onward = edit-room.forward;
          in_starts = omega (arith, edit-room.inside, r.ready.editable.one_start);
          in_ends = omega (arith, edit-room.inside, r.ready.editable.one_end);
          text_room = omega (arith, size, room.text_room);
          starts_room = omega (arith, size, room.starts_room);
          ends_room = omega (arith, size, room.ends_room);
        }

    module _ {out₂ starts₂ ends₂ : List ℕ} (m : AddedLaid n.starts n.ends b content out₁ starts₁ ends₁ a out₂ starts₂ ends₂) where
      added : CommandsLaid s n.starts n.ends b b (commands s content b r.ready.formed) out₁ starts₁ ends₁ a (a + length content) out₂ starts₂ ends₂
      added =
          record {
            reached = omega (arith, adds-size s content b r.ready.formed);
            text_is = m.text_is ∙ ap (splice out₁ a) (sym (adds-content s content b r.ready.formed));
            starts_are = m.starts_are ∙ ap (splice starts₁ a) (sym (adds-column s content b r.ready.formed n.starts));
            ends_are = m.ends_are ∙ ap (splice ends₁ a) (sym (adds-column s content b r.ready.formed n.ends));
          }

      pub back-keeps : KeepRoom s n.starts n.ends b (length s) out₂ starts₂ ends₂ (a + length content)
      back-keeps = back-room edit-room k added

      pub place-laid : {out₃ starts₃ ends₃ : List ℕ} → PartKept s n.starts n.ends b (length s) out₂ starts₂ ends₂ (a + length content) out₃ starts₃ ends₃
          → NoteLaid (edited_place content a b n) out₀ starts₀ ends₀ (a + length content + (length s - b)) out₃ starts₃ ends₃
      unfolding transformed edited place_edit
      place-laid j =
          let laid : EditLaid s n.starts n.ends a b b (commands s content b r.ready.formed) out₀ starts₀ ends₀ _ _ _ _ = edit-laid edit-room k added j in
          let first = first-at-end s a b r.ready.editable.formed r.ready.lies content in
          record { reached = rw first laid.reached; text_is = rw first laid.text_is; starts_are = rw first laid.starts_are; ends_are = rw first laid.ends_are }

-- the content, and what it carries
pub all-content : {starts ends content out₀ starts₀ ends₀ out starts₁ ends₁ : List ℕ} {to at x y : ℕ} → out ≡ splice out₀ at content
    → x ≡ before_end starts to → starts₁ ≡ splice starts₀ at (replicate (length content) x) → y ≡ before_end ends to → ends₁ ≡ splice ends₀ at (replicate (length content) y)
    → AddedLaid starts ends to content out₀ starts₀ ends₀ at out starts₁ ends₁
all-content o x s y e = record { text_is = o; starts_are = rw x at s; ends_are = rw y at e }
