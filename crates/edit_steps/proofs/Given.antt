-- Laws of `produced` and `relaid`: what commands give is as long as their characters, and it is laid down command by command.
use Prim.Native.Nat.{ℕ, ◌+◌, ◌-◌, ◌^◌, ◌≤◌, ◌<◌}
use mathlib.Core.Path.{◌≡◌, ◌∙◌, ap, refl, sym}
use mathlib.Core.Bool.{true, false}
use mathlib.Core.List.{List, [], ◌∷◌, ◌++◌, append_assoc}
use native.Mathlib.Omega.{arith}
use lib.ListN.{length, get_or, take, drop, replicate, length-append, length-drop, length-replicate}
use lib.Seq.{length-take-le}
use Rattle.buffers.specs.Splice.{part, splice, overlay}
use Rattle.buffers.specs.Over.{Over, Reaching}
use Rattle.buffers.proofs.Cases.{true-or-false, clash}
use Rattle.buffers.proofs.Splice.{length-splice, splice-splice, splice-overlay, length_part, part_end}
use Rattle.buffers.proofs.Over.{run-reached, all-reached, reaching-size, over-exact}
use Rattle.utf8.specs.Scalar.{bytes_of}
use Rattle.utf8.proofs.Boundaries.{boundary-most}
use Rattle.note.specs.Notes.{before_end}
use Rattle.script.specs.declared.Command.{Command}
use Rattle.utf8.specs.Scalar.{len_utf8}
use Rattle.edit_steps.specs.declared.walking.Progress.{Progress}
use Rattle.edit_steps.specs.Edits.{skipped, starves, moved, starved, carried_value, characters, carried_values, produced, first_position, relaid, edited, transformed, Unchanged}
use Rattle.edit_steps.specs.Walking.{Standing, Counting, commands_size, progress_after}
use Rattle.buffers.specs.Keeping.{KeepRoom, PartKept}
use Rattle.edit_steps.specs.Laying.{Reached, Room, CommandLaid, Below, CommandOver, CommandsRoom, CommandsLaid, EditRoom, EditLaid}
use Rattle.edit_steps.proofs.Positions.{feeds, standing-moved, stepped-fed}

-- what a command carries
pub carries-added : (xs : List ℕ) (p : ℕ) (c : Command) {v : ℕ} → c.added ≡ true → v ≡ before_end xs p → v ≡ carried_value xs p c
unfolding carried_value
carries-added xs p c e is = is ∙ rw e

pub carries-replacing : (xs : List ℕ) (p : ℕ) (c : Command) → c.added ≡ false → get_or xs p 0 ≡ carried_value xs p c
unfolding carried_value
carries-replacing xs p c e = rw e

pub characters-wide : (p : ℕ) (c : Command) → length (characters p c) ≡ len_utf8 c.character
unfolding len_utf8
characters-wide p c = refl

pub carried-wide : (xs : List ℕ) (p : ℕ) (c : Command) → length (carried_values xs p c) ≡ len_utf8 c.character
carried-wide xs p c = length-replicate (len_utf8 c.character) (carried_value xs p c)

-- one command, laid down
module _ (starts ends : List ℕ) (g : Progress) (c : Command) {size x y : ℕ} (wide : size ≡ len_utf8 c.character) where
  pub command-over : (until : ℕ) {out₀ starts₀ ends₀ out starts₁ ends₁ : List ℕ} → Over (bytes_of c.character) out₀ g.written until out
      → x ≡ carried_value starts g.position.0 c → y ≡ carried_value ends g.position.0 c
      → Over (replicate size x) starts₀ g.written until starts₁ → Over (replicate size y) ends₀ g.written until ends₁
      → CommandOver starts ends g c out₀ starts₀ ends₀ until out starts₁ ends₁
  command-over until l sx sy ps pe = record { text_over = l; starts_over = rw (wide, sx) at ps; ends_over = rw (wide, sy) at pe }

-- all commands
module _ (piece : ℕ → Command → List ℕ) (wide : (p : ℕ) (c : Command) → length (piece p c) ≡ len_utf8 c.character) (s : List ℕ) (b : ℕ) where
  pub length-given : (p : ℕ) (cs : List Command) → length (produced piece s b p cs) ≡ commands_size cs
  unfolding produced commands_size
  length-given p [] = refl
  length-given p (c ∷ cs) = rw (length-append, wide p c, length-given (moved s b p c) cs)

  pub length-relaid : (a p : ℕ) (cs : List Command) (xs : List ℕ) → a ≤ length xs → length (relaid piece s a b p cs xs) ≡ a + commands_size cs + (length xs - b)
  unfolding relaid
  length-relaid a p cs xs h =
      length-append (take a xs) _ ∙ rw (length-take-le a xs h, length-append, length-given p cs, length-drop b xs) (omega arith)

-- no command starves: not the first one, and none after it
module _ (s : List ℕ) (b p : ℕ) (c : Command) (cs : List Command) (e : starved s b p (c ∷ cs) ≡ false) where
  first-fed : starves b p c ≡ false
  unfolding starved
  first-fed = true-or-false (starves b p c) (λ t. clash true refl (rw t at e)) (λ u. u)

  rest-fed : starved s b (moved s b p c) cs ≡ false
  unfolding starved
  rest-fed = rw first-fed at e

  pub fed : (starves b p c ≡ false) × (starved s b (moved s b p c) cs ≡ false)
  fed = (first-fed, rest-fed)

pub reached : {s xs : List ℕ} {b p : ℕ} {c : Command} → length xs ≡ length s → Standing s b p → starves b p c ≡ false → Reached xs p c
reached {s} {xs} {b} {p} {c} same at f =
    record {
      inside = omega (arith, at.most, boundary-most s b at.ends);
      found = λ u. omega (arith, feeds b p c f u, boundary-most s b at.ends);
    }

-- what commands have laid of a column into d, up to the commands that are left
abbrev Column : (ℕ → Command → List ℕ) → List ℕ → ℕ → ℕ → List Command → ℕ → Progress → List Command → List ℕ → List ℕ → Type 0
Column piece s b p all at g rest d₀ d =
    Reaching (take at d₀ ++ produced piece s b p all) (produced piece s b g.position.0 rest) d₀ g.written d

module _ (piece : ℕ → Command → List ℕ) (wide : (p : ℕ) (c : Command) → length (piece p c) ≡ len_utf8 c.character) (s : List ℕ) (b p : ℕ) (all : List Command) (at : ℕ) where
  column-none : {d₀ : List ℕ} → at + commands_size all ≤ length d₀ → Column piece s b p all at (record { position = record { 0 = p }; written = at; starved = false }) all d₀ d₀
  column-none h = record { so_far = refl; beyond = refl; room = omega (arith, length-given piece wide s b p all); same = refl }

  module _ (g : Progress) (rest : List Command) {d₀ d : List ℕ} (k : Column piece s b p all at g rest d₀ d) where
    module _ {c : Command} {others : List Command} (next : rest ≡ c ∷ others) where
      column-room : g.written + len_utf8 c.character ≤ length d
      unfolding produced
      column-room =
          let room : g.written + length (piece g.position.0 c ++ produced piece s b (moved s b g.position.0 c) others) ≤ length d = rw next at k.room in
          omega (arith, length-append (piece g.position.0 c) (produced piece s b (moved s b g.position.0 c) others), wide g.position.0 c)

      column-next : {d₁ : List ℕ} {until : ℕ} → at ≤ length d₀ → until ≤ at + commands_size all
          → Over (piece g.position.0 c) d g.written until d₁
          → Column piece s b p all at (record { position = record { 0 = moved s b g.position.0 c }; written = g.written + len_utf8 c.character; starved = false }) others d₀ d₁
      unfolding produced
      column-next h below o =
          let made : List ℕ = produced piece s b p all in
          let long : length (take at d₀ ++ made) ≡ at + length made = length-append (take at d₀) made ∙ rw (length-take-le at d₀ h) in
          run-reached (piece g.position.0 c) (produced piece s b (moved s b g.position.0 c) others) (rw next at k) (omega (arith, length-given piece wide s b p all)) (rw (wide g.position.0 c)) o

    column-done : rest ≡ [] → at ≤ length d₀ → (g.written ≡ at + commands_size all) × (d ≡ splice d₀ at (produced piece s b p all))
    unfolding produced splice overlay
    column-done none h =
        let made : List ℕ = produced piece s b p all in
        let done : Reaching (take at d₀ ++ made) [] d₀ g.written d = rw none at k in
        let long : length (take at d₀ ++ made) ≡ at + length made = length-append (take at d₀) made ∙ rw (length-take-le at d₀ h) in (
          omega (arith, reaching-size done, long, length-given piece wide s b p all),
          all-reached done ∙ rw long,
        )

-- some commands are laid down
pub record Going (s starts ends : List ℕ) (b p : ℕ) (all : List Command) (out₀ starts₀ ends₀ : List ℕ) (at : ℕ) (g : Progress) (rest : List Command) (out starts₁ ends₁ : List ℕ) : Type 0 where
  pub standing : Standing s b g.position.0
  pub feeding : starved s b g.position.0 rest ≡ false
  pub text_laid : Column characters s b p all at g rest out₀ out
  pub starts_laid : Column (carried_values starts) s b p all at g rest starts₀ starts₁
  pub ends_laid : Column (carried_values ends) s b p all at g rest ends₀ ends₁

module _ {s starts ends : List ℕ} {b p : ℕ} {all : List Command} {out₀ starts₀ ends₀ : List ℕ} {at : ℕ} (r : CommandsRoom s starts ends b p all out₀ starts₀ ends₀ at) where
  pub none_going : Going s starts ends b p all out₀ starts₀ ends₀ at (record { position = record { 0 = p }; written = at; starved = false }) all out₀ starts₀ ends₀
  none_going =
      record {
        standing = r.standing;
        feeding = r.feeds;
        text_laid = column-none characters characters-wide s b p all at r.text_room;
        starts_laid = column-none (carried_values starts) (carried-wide starts) s b p all at r.starts_room;
        ends_laid = column-none (carried_values ends) (carried-wide ends) s b p all at r.ends_room;
      }

  module _ {g : Progress} {rest : List Command} {out starts₁ ends₁ : List ℕ} (k : Going s starts ends b p all out₀ starts₀ ends₀ at g rest out starts₁ ends₁) where
    module _ {c : Command} {others : List Command} (next : rest ≡ c ∷ others) where
      both-fed : (starves b g.position.0 c ≡ false) × (starved s b (moved s b g.position.0 c) others ≡ false)
      both-fed = fed s b g.position.0 c others (rw next at k.feeding)

      pub command-room : Room starts ends g c out starts₁ ends₁
      command-room =
          record {
            in_starts = reached r.one_start k.standing both-fed.0;
            in_ends = reached r.one_end k.standing both-fed.0;
            text_room = column-room characters characters-wide s b p all at g rest k.text_laid next;
            starts_room = column-room (carried_values starts) (carried-wide starts) s b p all at g rest k.starts_laid next;
            ends_room = column-room (carried_values ends) (carried-wide ends) s b p all at g rest k.ends_laid next;
          }

      pub counting : length out₀ < 2 ^ 64 → Counting s b g c
      counting long =
          record {
            standing = k.standing;
            counts = omega (arith, column-room characters characters-wide s b p all at g rest k.text_laid next, k.text_laid.same);
          }

      module _ {h : Progress} {until : ℕ} {out₂ starts₂ ends₂ : List ℕ} (m : CommandOver starts ends g c out starts₁ ends₁ until out₂ starts₂ ends₂) (below : until ≤ at + commands_size all) (on : h ≡ progress_after s b g c) where
        pub going-over : Going s starts ends b p all out₀ starts₀ ends₀ at h others out₂ starts₂ ends₂
        going-over =
            let now : h ≡ record { position = record { 0 = moved s b g.position.0 c }; written = g.written + len_utf8 c.character; starved = false } = on ∙ stepped-fed s b g c (sym both-fed.0) refl in
            rw now
            (record {
              standing = (standing-moved c k.standing).0;
              feeding = both-fed.1;
              text_laid = column-next characters characters-wide s b p all at g rest k.text_laid next (omega (arith, r.text_room)) below m.text_over;
              starts_laid = column-next (carried_values starts) (carried-wide starts) s b p all at g rest k.starts_laid next (omega (arith, r.starts_room)) below m.starts_over;
              ends_laid = column-next (carried_values ends) (carried-wide ends) s b p all at g rest k.ends_laid next (omega (arith, r.ends_room)) below m.ends_over;
            })

      pub going_on : {h : Progress} {out₂ starts₂ ends₂ : List ℕ} → CommandLaid starts ends g c out starts₁ ends₁ out₂ starts₂ ends₂ → h ≡ progress_after s b g c → Going s starts ends b p all out₀ starts₀ ends₀ at h others out₂ starts₂ ends₂
      going_on m on =
          let room = command-room in
          going-over
          (record {
            text_over = over-exact (characters g.position.0 c) out g.written 0 (omega (arith, room.text_room, characters-wide g.position.0 c)) m.text_is;
            starts_over = over-exact (carried_values starts g.position.0 c) starts₁ g.written 0 (omega (arith, room.starts_room, carried-wide starts g.position.0 c)) m.starts_are;
            ends_over = over-exact (carried_values ends g.position.0 c) ends₁ g.written 0 (omega (arith, room.ends_room, carried-wide ends g.position.0 c)) m.ends_are;
          })
          (omega arith)
          on

    -- what may be written up to where the commands reach
    pub below_all : {until : ℕ} → until ≤ at + commands_size all → Below until out starts₁ ends₁
    below_all h =
        record {
          text_below = omega (arith, r.text_room, k.text_laid.same);
          starts_below = omega (arith, r.starts_room, k.starts_laid.same);
          ends_below = omega (arith, r.ends_room, k.ends_laid.same);
        }

    pub gone : rest ≡ [] → CommandsLaid s starts ends b p all out₀ starts₀ ends₀ at g.written out starts₁ ends₁
    gone none =
        let text = column-done characters characters-wide s b p all at g rest k.text_laid none (omega (arith, r.text_room)) in
        record {
          reached = text.0;
          text_is = text.1;
          starts_are = (column-done (carried_values starts) (carried-wide starts) s b p all at g rest k.starts_laid none (omega (arith, r.starts_room))).1;
          ends_are = (column-done (carried_values ends) (carried-wide ends) s b p all at g rest k.ends_laid none (omega (arith, r.ends_room))).1;
        }

-- a list in three pieces: what is before the range, what the commands give, what is after
module _ (piece : ℕ → Command → List ℕ) (wide : (p : ℕ) (c : Command) → length (piece p c) ≡ len_utf8 c.character) (s xs : List ℕ) (a b p m : ℕ) (cs : List Command) (d₀ : List ℕ) (long : length xs ≡ m) (forward : a ≤ b) (inside : b ≤ m) where
  front : part xs 0 a ≡ take a xs
  front = let none : a - 0 ≡ a = omega arith in rw none

  back : part xs b m ≡ drop b xs
  back = rw (← long) (part_end xs b)

  pub pieces_room : a + commands_size cs + (m - b) ≤ length d₀ → {d₁ d₂ : List ℕ} → d₁ ≡ splice d₀ 0 (part xs 0 a) → d₂ ≡ splice d₁ a (produced piece s b p cs) → (length d₁ ≡ length d₀) × (length d₂ ≡ length d₀)
  pieces_room room first second =
      let before : length (part xs 0 a) ≡ a - 0 = length_part xs 0 a (omega arith) in
      let one = ap length first ∙ length-splice d₀ 0 (part xs 0 a) (omega arith) in
      let size = length-given piece wide s b p cs in
      (one, ap length second ∙ length-splice _ a (produced piece s b p cs) (omega arith) ∙ one)

  pub pieces-laid : {d₁ d₂ d₃ : List ℕ} {at : ℕ} → d₁ ≡ splice d₀ 0 (part xs 0 a) → d₂ ≡ splice d₁ a (produced piece s b p cs) → at ≡ a + commands_size cs → d₃ ≡ splice d₂ at (part xs b m) → d₃ ≡ overlay (relaid piece s a b p cs xs) d₀
  unfolding relaid
  pieces-laid {d₂ = d₂} first second reach third =
      let made : List ℕ = produced piece s b p cs in
      let near : 0 + length (take a xs) ≡ a = omega (arith, length-take-le a xs (omega arith)) in
      let two : d₂ ≡ splice d₀ 0 (take a xs ++ made) = second ∙ rw (first, front) (rw near at (splice-splice d₀ (take a xs) made 0 (omega arith))) in
      let far : 0 + length (take a xs ++ made) ≡ a + commands_size cs = omega (arith, length-append (take a xs) made, near, length-given piece wide s b p cs) in
      let all : splice (splice d₀ 0 (take a xs ++ made)) (a + commands_size cs) (drop b xs) ≡ splice d₀ 0 (take a xs ++ made ++ drop b xs) = rw far at (splice-splice d₀ (take a xs ++ made) (drop b xs) 0 (omega arith)) in
      let same : take a xs ++ made ++ drop b xs ≡ take a xs ++ (made ++ drop b xs) = append_assoc (take a xs) made (drop b xs) in
      third ∙ rw (two, reach, back, all, same) (splice-overlay d₀ (take a xs ++ (made ++ drop b xs)))

-- the whole edit
module _ {s starts ends : List ℕ} {a b p : ℕ} {cs : List Command} {out₀ starts₀ ends₀ : List ℕ} (r : EditRoom s starts ends a b p cs out₀ starts₀ ends₀) where
  pub front-room : KeepRoom s starts ends 0 a out₀ starts₀ ends₀ 0
  front-room =
      record {
        onward = omega arith;
        in_text = omega (arith, r.forward, r.inside);
        in_starts = omega (arith, r.forward, r.inside, r.one_start);
        in_ends = omega (arith, r.forward, r.inside, r.one_end);
        text_room = omega (arith, r.text_room);
        starts_room = omega (arith, r.starts_room);
        ends_room = omega (arith, r.ends_room);
      }

  module _ {out₁ starts₁ ends₁ : List ℕ} (k : PartKept s starts ends 0 a out₀ starts₀ ends₀ 0 out₁ starts₁ ends₁) where
    pub middle-room : CommandsRoom s starts ends b p cs out₁ starts₁ ends₁ a
    middle-room =
        let text = pieces_room characters characters-wide s s a b p (length s) cs out₀ refl r.forward r.inside r.text_room k.text_is refl in
        let first = pieces_room (carried_values starts) (carried-wide starts) s starts a b p (length s) cs starts₀ r.one_start r.forward r.inside r.starts_room k.starts_are refl in
        let last = pieces_room (carried_values ends) (carried-wide ends) s ends a b p (length s) cs ends₀ r.one_end r.forward r.inside r.ends_room k.ends_are refl in
        record {
          one_start = r.one_start;
          one_end = r.one_end;
          standing = r.standing;
          feeds = r.feeds;
          text_room = omega (arith, text.0, r.text_room);
          starts_room = omega (arith, first.0, r.starts_room);
          ends_room = omega (arith, last.0, r.ends_room);
        }

    module _ {at : ℕ} {out₂ starts₂ ends₂ : List ℕ} (m : CommandsLaid s starts ends b p cs out₁ starts₁ ends₁ a at out₂ starts₂ ends₂) where
      pub back-room : KeepRoom s starts ends b (length s) out₂ starts₂ ends₂ at
      back-room =
          let text = pieces_room characters characters-wide s s a b p (length s) cs out₀ refl r.forward r.inside r.text_room k.text_is m.text_is in
          let first = pieces_room (carried_values starts) (carried-wide starts) s starts a b p (length s) cs starts₀ r.one_start r.forward r.inside r.starts_room k.starts_are m.starts_are in
          let last = pieces_room (carried_values ends) (carried-wide ends) s ends a b p (length s) cs ends₀ r.one_end r.forward r.inside r.ends_room k.ends_are m.ends_are in
          record {
            onward = r.inside;
            in_text = omega arith;
            in_starts = omega (arith, r.one_start);
            in_ends = omega (arith, r.one_end);
            text_room = omega (arith, text.1, r.text_room, m.reached);
            starts_room = omega (arith, first.1, r.starts_room, m.reached);
            ends_room = omega (arith, last.1, r.ends_room, m.reached);
          }

      pub edit-laid : {out₃ starts₃ ends₃ : List ℕ} → PartKept s starts ends b (length s) out₂ starts₂ ends₂ at out₃ starts₃ ends₃ → EditLaid s starts ends a b p cs out₀ starts₀ ends₀ (at + (length s - b)) out₃ starts₃ ends₃
      edit-laid j =
          record {
            reached = omega (arith, length-relaid characters characters-wide s b a p cs s (omega (arith, r.forward, r.inside)), m.reached);
            text_is = pieces-laid characters characters-wide s s a b p (length s) cs out₀ refl r.forward r.inside k.text_is m.text_is m.reached j.text_is;
            starts_are = pieces-laid (carried_values starts) (carried-wide starts) s starts a b p (length s) cs starts₀ r.one_start r.forward r.inside k.starts_are m.starts_are m.reached j.starts_are;
            ends_are = pieces-laid (carried_values ends) (carried-wide ends) s ends a b p (length s) cs ends₀ r.one_end r.forward r.inside k.ends_are m.ends_are m.reached j.ends_are;
          }

pub unchanged : Unchanged
unfolding transformed edited relaid produced first_position skipped
unchanged n = refl
