-- RULES 15: the blanking claim as a call. Given two notes, a list and a content, it answers whether the published notes
-- are equal, and so whether the notes agree; or the first refusal that replacing would give to either, were the buffers
-- as long as a text can be.
use Rattle.std.specs.Prelude.{ℕ, ◌≡◌, Bool, true, false, ◌&&◌, List, Result, Ok, Err}
use Rattle.buffers.specs.Same.{same}
use Rattle.note.specs.declared.Refusal.{Refusal}
use Rattle.note.specs.Refusals.{also, verdict, unless_refused}
use Rattle.note.specs.Notes.{Note}
use Rattle.pattern.specs.Entries.{places_of}
use Rattle.replace.specs.Replacing.{PublishedNote, replaced, replace_faults}
use Rattle.replace.specs.Blanking.{Equal, Agree}

-- text and alignments are the same
unfoldable pub same_published : PublishedNote → PublishedNote → Bool
same_published a b = same a.text b.text && same a.starts b.starts && same a.ends b.ends

-- the refusals of both notes together
abbrev pub compare_faults : ℕ → Note → Note → List ℕ → List ℕ → Refusal → Bool
compare_faults most n m list content =
    also (replace_faults most n list content most) (replace_faults most m list content most)

-- the answer: whether both publish the same, or the refusal
unfoldable pub alike_answer : ℕ → Note → Note → List ℕ → List ℕ → Result Bool Refusal
alike_answer most n m list content =
    unless_refused Err (verdict (compare_faults most n m list content))
    (Ok (same_published (replaced (places_of list) content n) (replaced (places_of list) content m)))

-- the call: its answer, and both readings of it
pub record PublishedAlike (most : ℕ) (n m : Note) (list content : List ℕ) (r : Result Bool Refusal) : Type 0 where
  pub answer : r ≡ alike_answer most n m list content
  pub alike :
      r ≡ Ok true
      → Equal (replaced (places_of list) content n) (replaced (places_of list) content m)
      × Agree n m (places_of list) content
  pub unlike :
      r ≡ Ok false
      → (Equal (replaced (places_of list) content n) (replaced (places_of list) content m) → ⊥)
      × (Agree n m (places_of list) content → ⊥)

-- CLAIM: the answer has both readings.
abbrev pub Readings : Type 0
Readings =
    (most : ℕ) (n m : Note) (list content : List ℕ) (r : Result Bool Refusal)
    → r ≡ alike_answer most n m list content → PublishedAlike most n m list content r
