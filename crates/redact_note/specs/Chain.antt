-- RULES 15.9: what can still be told where one replacement follows another, each in what the one before left, as
-- `redact` does with several literals.
use Rattle.std.specs.Prelude.{ℕ, ◌≡◌, ◌⊎◌, List, [], ◌∷◌, Ok}
use Rattle.note.specs.Notes.{Note}
use Rattle.pattern.specs.Entries.{places_of}
use Rattle.find.specs.Finding.{found_bytes}
use Rattle.replace.specs.Replacing.{replaced, Replacing, resulting}
use Rattle.replace.specs.Blanking.{Equal, Agree, published}

-- what a replacement is given beside a note
pub record Step : Type 0 where
  pub list : List ℕ
  pub content : List ℕ

-- the note that it leaves: the transcript stays
abbrev pub left_by : Step → Note → Note
left_by s n = resulting n (replaced (places_of s.list) s.content n)

-- a call of `replace` that publishes, whatever buffers it is passed, and the note that is put together from what it has
-- published and the transcript
pub record StepCall (most : ℕ) (n : Note) (s : Step) (left : Note) : Type 0 where
  pub out₀ : List ℕ
  pub starts₀ : List ℕ
  pub ends₀ : List ℕ
  pub size : ℕ
  pub out : List ℕ
  pub starts : List ℕ
  pub ends : List ℕ
  pub replacing : Replacing most n s.list s.content out₀ starts₀ ends₀ (Ok size) out starts ends
  pub leaves : left ≡ resulting n (published size out starts ends)

-- a chain of such calls, each on the note that the one before left
unfoldable pub Chain : ℕ → Note → List Step → Note → Type 0
Chain most n [] left = left ≡ n
Chain most n (s ∷ ss) left = (next : Note) × (StepCall most n s next × Chain most next ss left)

-- two notes would be published alike: the same text with the same alignments, whatever the transcripts
abbrev pub Alike : Note → Note → Type 0
Alike n m =
    Equal (record { text = n.normalized; starts = n.starts; ends = n.ends })
    (record { text = m.normalized; starts = m.starts; ends = m.ends })

-- at one of the steps two notes agree, as they stand before it, in the sense of the blanking claim
unfoldable pub AgreeOnce : List Step → Note → Note → Type 0
AgreeOnce [] n m = ⊥
AgreeOnce (s ∷ ss) n m = Agree n m (places_of s.list) s.content ⊎ AgreeOnce ss (left_by s n) (left_by s m)

-- CLAIM: two notes, one chain of lists and contents, replacing accepts both at each step: what is published at the end
-- is the same exactly when the notes agree at one of the steps. So a chain hides whatever one of its steps hides, and
-- no later step brings it back.
abbrev pub ChainBlanking : Type 0
ChainBlanking =
    (most : ℕ) (n m : Note) (s : Step) (ss : List Step) (nʹ mʹ : Note)
    → Chain most n (s ∷ ss) nʹ → Chain most m (s ∷ ss) mʹ
    → (Alike nʹ mʹ → AgreeOnce (s ∷ ss) n m) × (AgreeOnce (s ∷ ss) n m → Alike nʹ mʹ)

-- a literal and its content, the filler
pub record Pair : Type 0 where
  pub literal : List ℕ
  pub content : List ℕ

-- the step that they are of a note: by the list of the literal's matches in it
abbrev pub step_of : Pair → Note → Step
step_of p n = record { list = found_bytes n.normalized p.literal; content = p.content }

-- the steps of several: each literal is searched for in what the one before left
unfoldable pub steps_of : List Pair → Note → List Step
steps_of [] n = []
steps_of (p ∷ ps) n = step_of p n ∷ steps_of ps (left_by (step_of p n) n)

-- CLAIM: two notes that would be published alike take the same steps by the same literals, and are published alike at
-- the end. So where two notes are published alike after one of several literals, the literals that follow tell nothing
-- of what was hidden.
abbrev pub HiddenStays : Type 0
HiddenStays =
    (most : ℕ) (n m : Note) (ps : List Pair) (nʹ mʹ : Note)
    → Alike n m → Chain most n (steps_of ps n) nʹ → Chain most m (steps_of ps m) mʹ
    → (steps_of ps n ≡ steps_of ps m) × Alike nʹ mʹ
