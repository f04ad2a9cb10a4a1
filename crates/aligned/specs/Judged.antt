-- What is known where the alignments are judged.
use Rattle.std.specs.Prelude.{ℕ, ◌≤◌, ◌≡◌, Bool, true, List, length}
use Rattle.utf8.specs.Formed.{well_formed}
use Rattle.validity.specs.Texts.{ascii}

-- lengths and texts were judged; one flag tells whether the transcript is ASCII, and one is set only where the two
-- texts are the same
pub record Judged (most : ℕ) (original normalized starts ends : List ℕ) (plain same : Bool) : Type 0 where
  pub short : length original ≤ most
  pub normalized_short : length normalized ≤ most
  pub starts_paired : length starts ≡ length normalized
  pub ends_paired : length ends ≡ length normalized
  pub original_formed : well_formed original ≡ true
  pub formed : well_formed normalized ≡ true
  pub kind : plain ≡ ascii original
  pub alike : same ≡ true → original ≡ normalized
