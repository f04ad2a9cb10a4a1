-- Laws of `partFaults` and `part_of`: what the reader's plain call answers, and the part that it hands back.
use Prim.Native.Nat.{ℕ, ◌-◌, ◌≤◌}
use mathlib.Core.Path.{◌≡◌, ◌∙◌, refl, sym}
use mathlib.Core.Bool.{Bool, true, cond, not}
use mathlib.Core.List.{List, []}
use lib.ListN.{length, take, drop}
use borrow.Author.Tests.{not-false}
use Rattle.std.specs.Prelude.{Err}
use Rattle.note.specs.declared.Refusal.{Refusal}
use Rattle.note.specs.declared.Refusal.TheVariants.{Missing, IllFormed}
use Rattle.note.specs.Refusals.{none, meets, also, verdict, Verdict, Accepted}
use Rattle.note.specs.Rank.{earlier}
use Rattle.note.specs.Faults.{text_faults}
use Rattle.note.specs.Rank.{up_to}
use Rattle.note.proofs.FirstMet.{accepted-meets, refused-then, accepted-then, earlier-of}
use Rattle.convert.specs.declared.Range.{Range}
use Rattle.convert.specs.Converting.{start_of, end_of}
use Rattle.utf8.specs.Formed.{char_range}
use Rattle.get_range.specs.Reading.{named_text, part_faults, part_of}
use Rattle.utf8.proofs.Boundaries.{Between, char-range-between}

-- the reader's own condition
abbrev read_faults : List ℕ → ℕ → ℕ → Refusal → Bool
read_faults s a e = meets Missing (not (char_range s a e)) none

read-verdict : (s : List ℕ) (a e : ℕ) → cond (not (char_range s a e)) (Err Missing) Accepted ≡ verdict (read_faults s a e)
unfolding verdict
read-verdict s a e = refl

module _ (most : ℕ) (o n : List ℕ) (range : Range) where
  abbrev texts : Refusal → Bool
  texts = also (text_faults most o) (text_faults most n)

  abbrev reads : Refusal → Bool
  reads = read_faults (named_text o n range) (start_of range) (end_of range)

  module _ {v w u : Verdict} (p : v ≡ verdict (text_faults most o)) (q : w ≡ verdict (text_faults most n)) (both : u ≡ earlier v w) where
    pub part-refused : {k : Refusal} → u ≡ Err k → Err k ≡ verdict (part_faults most o n range)
    unfolding part_faults
    part-refused is = refused-then (up_to IllFormed) texts reads refl refl (earlier-of (text_faults most o) (text_faults most n) p q both) is

    pub part-judged : {s : List ℕ} {a e : ℕ} {t : Bool} {r : Verdict} → u ≡ Accepted → s ≡ named_text o n range → a ≡ start_of range → e ≡ end_of range → t ≡ char_range s a e → r ≡ cond (not t) (Err Missing) Accepted → r ≡ verdict (part_faults most o n range)
    unfolding part_faults
    part-judged {s} {a} {e} ok at-s at_a at-e is last =
        accepted-then (up_to IllFormed) texts reads refl refl (earlier-of (text_faults most o) (text_faults most n) p q both) ok
        (last ∙ rw (is, ← at-s, ← at_a, ← at-e) (read-verdict s a e))

  module _ {v : Verdict} (so : v ≡ verdict (part_faults most o n range)) where
    pub part_of-refused : {k : Refusal} → v ≡ Err k → [] ≡ part_of most o n range
    unfolding part_of
    part_of-refused is = rw (← so, is)

    module _ {s : List ℕ} {a e : ℕ} (ok : v ≡ Accepted) (p : s ≡ named_text o n range) (q : a ≡ start_of range) (r : e ≡ end_of range) where
      pub part_of-accepted : take (e - a) (drop a s) ≡ part_of most o n range
      unfolding part_of
      part_of-accepted = rw (← so, ok, p, q, r)

      pub accepted-inside : (a ≤ e) × (e ≤ length s)
      unfolding part_faults
      accepted-inside =
          let text : List ℕ = named_text o n range in
          let is : char_range text (start_of range) (end_of range) ≡ true = not-false _ (accepted-meets (part_faults most o n range) (sym so ∙ ok) Missing) in
          let range : Between text (start_of range) (end_of range) = char-range-between _ _ _ is in
          rw (p, q, r) (range.onward, range.inside)
