-- Laws of `skipped` and `moved`: the position goes from boundary to boundary, never back, and never past the range.
use Prim.Native.Nat.{ℕ, zero, suc, ◌+◌, ◌-◌, ◌≤◌, ◌<◌}
use mathlib.Core.Path.{◌≡◌, ◌∙◌, refl, sym}
use mathlib.Core.Bool.{Bool, true, false}
use mathlib.Core.List.{List}
use native.Mathlib.Omega.{arith}
use lib.Dec.{leb}
use lib.ListN.{get_or}
use borrow.Author.Tests.{lt-ltb, le-ltb, leb-false}
use Rattle.buffers.proofs.Cases.{le-or-lt, true-or-false, clash}
use Rattle.utf8.specs.Formed.{announced, continues}
use Rattle.utf8.specs.Lengths.{CharBegins, CharLen}
use Rattle.utf8.proofs.Boundaries.{CharAt, char-at, boundary-begins, boundary-most}
use Rattle.script.specs.declared.Command.{Command}
use Rattle.utf8.specs.Scalar.{len_utf8}
use Rattle.edit_steps.specs.declared.walking.Progress.{Progress}
use Rattle.edit_steps.specs.Edits.{skipped, starves, moved}
use Rattle.edit_steps.specs.Walking.{Standing, progress_after}

-- one character on
pub standing-next : {s : List ℕ} {b p : ℕ} → Standing s b p → p < b → Standing s b (p + announced (get_or s p 0))
standing-next {s} {b} {p} at h =
    let here : CharAt s p (announced (get_or s p 0)) = char-at s p at.formed at.stands (omega (arith, boundary-most s b at.ends)) in
    record {
      formed = at.formed;
      ends = at.ends;
      stands = here.ends;
      most =
          le-or-lt (p + announced (get_or s p 0)) b (λ most. most)
          (λ over. clash (continues (get_or s b 0)) (here.rest b h over) (boundary-begins s b at.ends));
    }

pub char-begins : {s : List ℕ} {b p : ℕ} → Standing s b p → p < b → CharBegins s p
char-begins {s} {b} at h = record { formed = at.formed; begins = at.stands; more = omega (arith, boundary-most s b at.ends) }

pub skipped-past : (s : List ℕ) (b k p : ℕ) → b ≤ p → skipped s b k p ≡ p
unfolding skipped
skipped-past s b zero p h = refl
skipped-past s b (suc k) p h = rw (le-ltb p b h)

pub skipped-on : (s : List ℕ) (b k p : ℕ) → p < b → skipped s b (suc k) p ≡ skipped s b k (p + announced (get_or s p 0))
unfolding skipped
skipped-on s b k p h = rw (lt-ltb p b h)

pub skipped-none : (s : List ℕ) (b p : ℕ) → skipped s b 0 p ≡ p
unfolding skipped
skipped-none s b p = refl

-- any number of characters on
pub standing-skipped : {s : List ℕ} {b p : ℕ} (k : ℕ) → Standing s b p → Standing s b (skipped s b k p) × (p ≤ skipped s b k p)
standing-skipped {s} {b} {p} zero at = rw (skipped-none s b p) (at, omega arith)
standing-skipped {s} {b} {p} (suc k) at =
    le-or-lt b p
    (λ past. rw (skipped-past s b (suc k) p past) (at, omega arith))
    (λ more.
    let rest : Standing s b (skipped s b k (p + announced (get_or s p 0))) × (p + announced (get_or s p 0) ≤ skipped s b k (p + announced (get_or s p 0))) =
    standing-skipped {p = p + announced (get_or s p 0)} k (standing-next at more) in
    rw (skipped-on s b k p more) (rest.0, omega (arith, rest.1)))

-- a command's step
pub starves-added : (b p : ℕ) (c : Command) → c.added ≡ true → starves b p c ≡ false
unfolding starves
starves-added b p c e = rw e

pub starves-replacing : (b p : ℕ) (c : Command) → c.added ≡ false → starves b p c ≡ leb b p
unfolding starves
starves-replacing b p c e = rw e

-- a replacing command that does not starve has a character before it
pub feeds : (b p : ℕ) (c : Command) → starves b p c ≡ false → c.added ≡ false → p < b
feeds b p c f e = leb-false b p (sym (starves-replacing b p c e) ∙ f)

pub moved-added : (s : List ℕ) (b p : ℕ) (c : Command) → c.added ≡ true → moved s b p c ≡ p
unfolding moved
moved-added s b p c e = rw e

pub moved-replacing : (s : List ℕ) (b p : ℕ) (c : Command) → c.added ≡ false → moved s b p c ≡ skipped s b (suc c.removed) p
unfolding moved
moved-replacing s b p c e = rw e

pub standing-moved : {s : List ℕ} {b p : ℕ} (c : Command) → Standing s b p → Standing s b (moved s b p c) × (p ≤ moved s b p c)
standing-moved {s} {b} {p} c at =
    true-or-false c.added
    (λ t. rw (moved-added s b p c t) (at, omega arith))
    (λ u. rw (moved-replacing s b p c u) (standing-skipped (suc c.removed) at))

-- the loop that skips: k of `count` characters are passed
pub record Skipping (s : List ℕ) (b count from k p : ℕ) : Type 0 where
  pub same : skipped s b count from ≡ skipped s b (count - k) p
  pub standing : Standing s b p
  pub most : k ≤ count

pub none-skipped : {s : List ℕ} {b count from : ℕ} → Standing s b from → Skipping s b count from 0 from
none-skipped {count = count} at = let all : count - 0 ≡ count = omega arith in record { same = rw all; standing = at; most = omega arith }

module _ {s : List ℕ} {b count from k p : ℕ} (g : Skipping s b count from k p) where
  pub one-skipped : {w : ℕ} → k < count → p < b → CharLen s p w → Skipping s b count from (k + 1) (p + w)
  one-skipped {w} more inside len =
      let left : count - k ≡ suc (count - (k + 1)) = omega arith in
      record {
        same = g.same ∙ rw (left, skipped-on s b (count - (k + 1)) p inside, len.long);
        standing = rw len.long (standing-next g.standing inside);
        most = omega arith;
      }

  pub range-ends : b ≤ p → p ≡ skipped s b count from
  range-ends past = sym (g.same ∙ skipped-past s b (count - k) p past)

  pub all-skipped : count ≤ k → p ≡ skipped s b count from
  all-skipped done = let none : count - k ≡ 0 = omega arith in sym (g.same ∙ rw (none, skipped-none s b p))

-- how far an edit is
module _ (s : List ℕ) (b : ℕ) (g : Progress) (c : Command) {t : Bool} (is : t ≡ starves b g.position.0 c) where
  pub stepped-starves : t ≡ true → record { position = g.position; written = g.written; starved = true } ≡ progress_after s b g c
  unfolding progress_after
  stepped-starves e = rw (sym is ∙ e)

  module _ (e : t ≡ false) {size : ℕ} (wide : size ≡ len_utf8 c.character) where
    step-on : {p : ℕ} → p ≡ moved s b g.position.0 c → record { position = record { 0 = p }; written = g.written + size; starved = false } ≡ progress_after s b g c
    unfolding progress_after
    step-on at = rw (sym is ∙ e, at, wide)

    pub stepped-added : c.added ≡ true → record { position = g.position; written = g.written + size; starved = false } ≡ progress_after s b g c
    stepped-added a = step-on (sym (moved-added s b g.position.0 c a))

    pub stepped-replacing : {p : ℕ} → c.added ≡ false → p ≡ skipped s b (c.removed + 1) g.position.0 → record { position = record { 0 = p }; written = g.written + size; starved = false } ≡ progress_after s b g c
    stepped-replacing a at =
        let one : c.removed + 1 ≡ suc c.removed = omega arith in
        step-on ((rw one at at) ∙ sym (moved-replacing s b g.position.0 c a))

  pub stepped-fed : t ≡ false → progress_after s b g c ≡ record { position = record { 0 = moved s b g.position.0 c }; written = g.written + len_utf8 c.character; starved = false }
  unfolding progress_after
  stepped-fed e = rw (sym is ∙ e)

  -- the record says whether the command starved
  pub stepped-told : (progress_after s b g c).starved ≡ t
  unfolding progress_after
  stepped-told = true-or-false t (λ e. rw (sym is ∙ e, e)) (λ e. rw (sym is ∙ e, e))
