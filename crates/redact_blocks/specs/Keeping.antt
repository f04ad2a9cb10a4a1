-- What the functions that lay stretches of a starting note, and a content between them, are told and say.
use Rattle.std.specs.Prelude.{ℕ, ◌+◌, ◌-◌, ◌≤◌, ◌<◌, ◌≡◌, true, List, length}
use Rattle.buffers.specs.Splice.{part}
use Rattle.buffers.specs.Over.{Over}
use Rattle.utf8.specs.Formed.{well_formed}
use Rattle.note.specs.Notes.{limit}
use Rattle.note.specs.Starting.{starting}
use Rattle.replace.specs.Replacing.{carried}

-- a stretch of a text, and room for it in three buffers from `at` on
pub record StretchRoom (text : List ℕ) (from to : ℕ) (out starts ends : List ℕ) (at : ℕ) : Type 0 where
  pub formed : well_formed text ≡ true
  pub short : length text ≤ limit
  pub onward : from ≤ to
  pub inside : to ≤ length text
  pub text_room : at + (to - from) ≤ length out
  pub starts_room : at + (to - from) ≤ length starts
  pub ends_room : at + (to - from) ≤ length ends

-- it is laid there; after it, and from `until` on, the buffers are as they were
pub record Stretch (text : List ℕ) (from to : ℕ) (out₀ starts₀ ends₀ : List ℕ) (at until : ℕ)
    (out starts ends : List ℕ) : Type 0 where
  pub text_over : Over (part text from to) out₀ at until out
  pub starts_over : Over (part (starting text).starts from to) starts₀ at until starts
  pub ends_over : Over (part (starting text).ends from to) ends₀ at until ends

-- a content of `contentLen` bytes in the place of a match that ends at `end`, and room for it
pub record ContentRoom (text : List ℕ) (end : ℕ) (padded : List ℕ) (content_len until : ℕ) (out starts ends : List ℕ)
    (at : ℕ) : Type 0 where
  pub formed : well_formed text ≡ true
  pub short : length text ≤ limit
  pub some : 0 < end
  pub inside : end ≤ length text
  pub long : content_len ≤ length padded
  pub text_room : at + content_len ≤ length out
  pub starts_room : at + content_len ≤ length starts
  pub ends_room : at + content_len ≤ length ends
  pub text_until : until ≤ length out
  pub starts_until : until ≤ length starts
  pub ends_until : until ≤ length ends

pub record ContentLaid (text : List ℕ) (end : ℕ) (padded : List ℕ) (content_len : ℕ) (out₀ starts₀ ends₀ : List ℕ)
    (at until : ℕ) (out starts ends : List ℕ) : Type 0 where
  pub text_over : Over (part padded 0 content_len) out₀ at until out
  pub starts_over : Over (carried content_len (starting text).starts end) starts₀ at until starts
  pub ends_over : Over (carried content_len (starting text).ends end) ends₀ at until ends
