-- What the flags keep, laid down character by character.
use Prim.Native.Nat.{ℕ, ◌+◌, ◌≤◌, ◌<◌}
use mathlib.Core.Path.{◌≡◌, ◌∙◌, ap, refl, sym}
use mathlib.Core.Bool.{true, false, cond}
use mathlib.Core.List.{List}
use native.Mathlib.Omega.{arith}
use lib.Dec.{eqb}
use lib.ListN.{length, get_or, drop, replicate}
use borrow.Author.Tests.{eq-eqb, ne_eqb}
use Rattle.buffers.specs.Splice.{part, splice}
use Rattle.buffers.proofs.Cases.{true-or-false, clash}
use Rattle.buffers.proofs.Splice.{splice-nil}
use Rattle.buffers.specs.Over.{Reaching}
use Rattle.utf8.specs.Formed.{announced}
use Rattle.utf8.specs.Scalar.{bytes_of}
use Rattle.utf8.specs.Lengths.{CharLen}
use Rattle.script.specs.declared.Command.{Command}
use Rattle.utf8.specs.Scalar.{len_utf8}
use Rattle.edit_steps.specs.declared.walking.Progress.{Progress}
use Rattle.edit_steps.specs.Edits.{skipped, starves, carried_value, characters, carried_values}
use Rattle.edit_steps.specs.Walking.{progress_after}
use Rattle.edit_steps.specs.Laying.{Room, CommandLaid, CommandsLaid}
use Rattle.edit_steps.proofs.Positions.{standing-skipped, stepped-fed}
use Rattle.edit_steps.proofs.Given.{Going, none_going, command-room, going_on, gone, fed}
use Rattle.edits.specs.Characters.{code_at}
use Rattle.edits.specs.Whole.{replacing, dropped_ahead}
use Rattle.edits.proofs.Characters.{code-bytes}
use Rattle.filter_blocks.specs.Counting.{kept_len}
use Rattle.filters.specs.Flags.{first_kept, flag_commands, FlagRoom, FlagLaid, FlagsRoom}
use Rattle.filters.proofs.Kept.{begun-starved, begun-given, Beside, ahead, rest_at, none_beside, next-beside, inside, dropped-rest, dropped-ahead, kept-rest, kept_here, kept-moves, code-wide, rest-none}

-- one flag
module _ {flag : ℕ} {s starts ends : List ℕ} {q wide p : ℕ} {out₀ starts₀ ends₀ : List ℕ} {at : ℕ} where
  pub flag-dropped : flag ≡ 0 → FlagLaid flag s starts ends q wide p out₀ starts₀ ends₀ at at out₀ starts₀ ends₀
  unfolding kept_len
  flag-dropped z =
      let e : eqb flag 0 ≡ true = eq-eqb flag 0 z in
      record {
        reached = rw e (omega arith);
        text_is = rw e (sym (splice-nil out₀ at));
        starts_are = rw e (sym (splice-nil starts₀ at));
        ends_are = rw e (sym (splice-nil ends₀ at));
      }

  pub flag-kept : {out starts₁ ends₁ : List ℕ} → (flag ≡ 0 → ⊥) → out ≡ splice out₀ at (part s q (q + wide))
      → starts₁ ≡ splice starts₀ at (replicate wide (get_or starts p 0)) → ends₁ ≡ splice ends₀ at (replicate wide (get_or ends p 0))
      → FlagLaid flag s starts ends q wide p out₀ starts₀ ends₀ at (at + wide) out starts₁ ends₁
  unfolding kept_len
  flag-kept h o st en =
      let e : eqb flag 0 ≡ false = ne_eqb flag 0 h in
      record { reached = rw e; text_is = rw e o; starts_are = rw e st; ends_are = rw e en }

  pub kept-room : FlagRoom flag s starts ends q wide p out₀ starts₀ ends₀ at → (flag ≡ 0 → ⊥) → (at + wide ≤ length out₀) × ((at + wide ≤ length starts₀) × (at + wide ≤ length ends₀))
  unfolding kept_len
  kept-room r h =
      let e : cond (eqb flag 0) 0 wide ≡ wide = rw (ne_eqb flag 0 h) in
      (omega (arith, r.text_room, e), (omega (arith, r.starts_room, e), omega (arith, r.ends_room, e)))

-- a rest said in other words
laying-as : {whole rest others d₀ d : List ℕ} {at : ℕ} → rest ≡ others → Reaching whole rest d₀ at d → Reaching whole others d₀ at d
laying-as e l = rw e at l

-- the flags before i are laid down
pub record Flagged (s starts ends : List ℕ) (b from : ℕ) (flags out₀ starts₀ ends₀ : List ℕ) (at q p written i : ℕ) (out starts₁ ends₁ : List ℕ) : Type 0 where
  pub beside : Beside s b flags q p i
  pub going : Going s starts ends b (first_kept s b from flags) (flag_commands s flags) out₀ starts₀ ends₀ at (ahead s b flags p i written) (rest_at s flags q i) out starts₁ ends₁

module _ {s starts ends : List ℕ} {b from : ℕ} {flags out₀ starts₀ ends₀ : List ℕ} {at : ℕ} (r : FlagsRoom s starts ends b from flags out₀ starts₀ ends₀ at) where
  pub none-flagged : Flagged s starts ends b from flags out₀ starts₀ ends₀ at 0 from at 0 out₀ starts₀ ends₀
  unfolding flag_commands
  none-flagged =
      let start = none_going r.rooms in
      record {
        beside = none_beside r.ready;
        going = record {
          standing = (standing-skipped (dropped_ahead flags) r.ready.standing).0;
          feeding = sym (begun-starved s b from flags) ∙ r.rooms.feeds;
          text_laid = laying-as (begun-given s b from flags characters) start.text_laid;
          starts_laid = laying-as (begun-given s b from flags (carried_values starts)) start.starts_laid;
          ends_laid = laying-as (begun-given s b from flags (carried_values ends)) start.ends_laid;
        };
      }

  module _ {q p written i : ℕ} {out starts₁ ends₁ : List ℕ} (f : Flagged s starts ends b from flags out₀ starts₀ ends₀ at q p written i out starts₁ ends₁) where
    module _ (h : i < length flags) {w : ℕ} (len : CharLen s q w) where
      k : Beside s b flags q p i
      k = f.beside

      c : Command
      c = replacing (dropped_ahead (drop (i + 1) flags)) (code_at s q)

      module _ (keeps : eqb (get_or flags i 0) 0 ≡ false) where
        room : Room starts ends (ahead s b flags p i written) c out starts₁ ends₁
        unfolding c
        room = command-room r.rooms f.going (kept-rest k h keeps)

        fits : len_utf8 (code_at s q) ≡ w
        fits = code-wide k h ∙ sym len.long

        found : (p < length starts) × (p < length ends)
        unfolding c
        found =
            let here = kept_here k h keeps in
            (omega (arith, here, room.in_starts.found refl), omega (arith, here, room.in_ends.found refl))

      pub flag-room : FlagRoom (get_or flags i 0) s starts ends q w p out starts₁ ends₁ written
      unfolding kept_len c
      flag-room =
          true-or-false (eqb (get_or flags i 0) 0)
          (λ drops.
          record {
            inside = len.inside;
            start_found = λ keeps. clash (eqb (get_or flags i 0) 0) drops keeps;
            end_found = λ keeps. clash (eqb (get_or flags i 0) 0) drops keeps;
            text_room = rw drops (omega (arith, f.going.text_laid.room));
            starts_room = rw drops (omega (arith, f.going.starts_laid.room));
            ends_room = rw drops (omega (arith, f.going.ends_laid.room));
          })
          (λ keeps.
          record {
            inside = len.inside;
            start_found = λ _. (found keeps).0;
            end_found = λ _. (found keeps).1;
            text_room = rw keeps (omega (arith, fits keeps, (room keeps).text_room));
            starts_room = rw keeps (omega (arith, fits keeps, (room keeps).starts_room));
            ends_room = rw keeps (omega (arith, fits keeps, (room keeps).ends_room));
          })

      module _ {n m : ℕ} {out₂ starts₂ ends₂ : List ℕ} (l : FlagLaid (get_or flags i 0) s starts ends q w p out starts₁ ends₁ written n out₂ starts₂ ends₂) (on : m ≡ skipped s b 1 p) where
        dropped-flagged : eqb (get_or flags i 0) 0 ≡ true → Flagged s starts ends b from flags out₀ starts₀ ends₀ at (q + w) m n (i + 1) out₂ starts₂ ends₂
        unfolding kept_len
        dropped-flagged drops =
            let zero : n ≡ written = (rw drops at l.reached) ∙ omega arith in
            let text : out₂ ≡ out = (rw drops at l.text_is) ∙ splice-nil out written in
            let first : starts₂ ≡ starts₁ = (rw drops at l.starts_are) ∙ splice-nil starts₁ written in
            let last : ends₂ ≡ ends₁ = (rw drops at l.ends_are) ∙ splice-nil ends₁ written in
            record {
              beside = next-beside k h len on;
              going = rw (zero, text, first, last, on, len.long) (rw (dropped-rest k h drops, dropped-ahead k h drops) at f.going);
            }

        kept-laid : eqb (get_or flags i 0) 0 ≡ false → CommandLaid starts ends (ahead s b flags p i written) c out starts₁ ends₁ out₂ starts₂ ends₂
        unfolding c carried_value
        kept-laid keeps =
            let bytes : part s q (q + w) ≡ bytes_of (code_at s q) = rw len.long (sym (code-bytes s q k.standing.formed k.begins (inside k h))) in
            record {
              text_is = rw bytes at (rw keeps at l.text_is);
              starts_are = rw (fits keeps, kept_here k h keeps) (rw keeps at l.starts_are);
              ends_are = rw (fits keeps, kept_here k h keeps) (rw keeps at l.ends_are);
            }

        kept-flagged : eqb (get_or flags i 0) 0 ≡ false → Flagged s starts ends b from flags out₀ starts₀ ends₀ at (q + w) m n (i + 1) out₂ starts₂ ends₂
        unfolding kept_len c
        kept-flagged keeps =
            let g : Progress = ahead s b flags p i written in
            let first : starves b g.position.0 c ≡ false = (fed s b g.position.0 c (rest_at s flags (q + announced (get_or s q 0)) (i + 1)) (rw (kept-rest k h keeps) at f.going.feeding)).0 in
            let many : n ≡ written + announced (get_or s q 0) = (rw keeps at l.reached) ∙ ap (◌+◌ written) len.long in
            let now : ahead s b flags m (i + 1) n ≡ progress_after s b g c = sym (stepped-fed s b g c (sym first) refl ∙ rw (kept_here k h keeps, kept-moves k h keeps, code-wide k h, on, many)) in
            record {
              beside = next-beside k h len on;
              going = rw len.long (going_on r.rooms f.going (kept-rest k h keeps) (kept-laid keeps) now);
            }

        pub next-flagged : Flagged s starts ends b from flags out₀ starts₀ ends₀ at (q + w) m n (i + 1) out₂ starts₂ ends₂
        next-flagged = true-or-false (eqb (get_or flags i 0) 0) dropped-flagged kept-flagged

    pub all-flagged : length flags ≤ i → CommandsLaid s starts ends b (first_kept s b from flags) (flag_commands s flags) out₀ starts₀ ends₀ at written out starts₁ ends₁
    all-flagged done = gone r.rooms f.going (rest-none s flags q done)
