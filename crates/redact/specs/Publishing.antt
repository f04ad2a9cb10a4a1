-- What `redact` publishes is what `replace` publishes, so that what is proved of replacing holds of it.
use Rattle.std.specs.Prelude.{ℕ, List, Ok}
use Rattle.note.specs.Notes.{limit}
use Rattle.note.specs.Starting.{starting}
use Rattle.find.specs.Finding.{found_bytes}
use Rattle.replace.specs.Replacing.{Replacing}
use Rattle.redact.specs.Redacting.{Redacted}

-- CLAIM: a call that publishes is a call of `replace` on the starting note of the text, by the list of the literal's
-- matches.
abbrev pub PublishedCall : Type 0
PublishedCall =
    (text literal content out₀ starts₀ ends₀ : List ℕ) (m count : ℕ) (out starts ends : List ℕ)
    → Redacted limit text literal content out₀ starts₀ ends₀ (Ok (m, count)) out starts ends
    → Replacing limit (starting text) (found_bytes text literal) content out₀ starts₀ ends₀ (Ok m)
    out starts ends
