-- What gathering answers: no more bytes and words than the buffers have.
use Rattle.std.specs.Prelude.{ℕ, ◌≤◌, List, length}
use Rattle.redact_main.specs.declared.gathering.Gathered.{Gathered}

-- the most bytes of all words together; `ROOM` in the code
abbrev pub room : ℕ
room = 262144

abbrev pub GatheredWithin : Gathered → List ℕ → List ℕ → Type 0
GatheredWithin g words sizes = (g.bytes ≤ length words) × (g.words ≤ length sizes)
