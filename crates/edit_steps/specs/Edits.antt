-- RULES 7: what commands make of a range of the cleaned text (Rust: the closure of `transform_range`). One number goes
-- through the range, from character to character: the running position.
use Rattle.std.specs.Prelude.{ℕ, zero, suc, ◌+◌, ◌≡◌, Bool, false, cond, ◌&&◌, ◌||◌, not, List, [], ◌∷◌, ◌++◌, leb, ltb, get_or, take, drop, replicate}
use Rattle.utf8.specs.Formed.{announced}
use Rattle.utf8.specs.Scalar.{bytes_of}
use Rattle.note.specs.Notes.{Note, lent, before_end}
use Rattle.script.specs.declared.Command.{Command}
use Rattle.utf8.specs.Scalar.{len_utf8}

-- k characters on from p, or up to b where fewer are left
unfoldable pub skipped : List ℕ → ℕ → ℕ → ℕ → ℕ
skipped s b zero p = p
skipped s b (suc k) p = cond (ltb p b) (skipped s b k (p + announced (get_or s p 0))) p

-- a replacing command comes where no character is left before b
unfoldable pub starves : ℕ → ℕ → Command → Bool
starves b p c = not c.added && leb b p

-- where a command leaves the position: an added character moves nothing, a replacing one takes one character and as
-- many more as it removes
unfoldable pub moved : List ℕ → ℕ → ℕ → Command → ℕ
moved s b p c = cond c.added p (skipped s b (suc c.removed) p)

-- some command starves
unfoldable pub starved : List ℕ → ℕ → ℕ → List Command → Bool
starved s b p [] = false
starved s b p (c ∷ cs) = starves b p c || starved s b (moved s b p c) cs

-- what a command at a position carries of a column: an added character what is before the position, 0 at the text's
-- beginning; a replacing one what is at the position
unfoldable pub carried_value : List ℕ → ℕ → Command → ℕ
carried_value xs p c = cond c.added (before_end xs p) (get_or xs p 0)

-- what a command gives: its character's bytes, to the text; and what it carries, once for each of these, to a column
abbrev pub characters : ℕ → Command → List ℕ
characters p c = bytes_of c.character

abbrev pub carried_values : List ℕ → ℕ → Command → List ℕ
carried_values xs p c = replicate (len_utf8 c.character) (carried_value xs p c)

-- what all commands give, one after the other, from position p on
unfoldable pub produced : (ℕ → Command → List ℕ) → List ℕ → ℕ → ℕ → List Command → List ℕ
produced piece s b p [] = []
produced piece s b p (c ∷ cs) = piece p c ++ produced piece s b (moved s b p c) cs

-- an edit: a range of the cleaned text, how many of its characters are skipped at first, and the commands
pub record Edit : Type 0 where
  pub from : ℕ
  pub to : ℕ
  pub skip : ℕ
  pub commands : List Command

-- an edit by its numbers and commands
abbrev pub edit : ℕ → ℕ → ℕ → List Command → Edit
edit from to skip cs = record { from = from; to = to; skip = skip; commands = cs }

-- where the first command is
unfoldable pub first_position : List ℕ → Edit → ℕ
first_position s e = skipped s e.to e.skip e.from

-- a list of which the elements a..b give way to what the commands give from position p on
unfoldable pub relaid : (ℕ → Command → List ℕ) → List ℕ → ℕ → ℕ → ℕ → List Command → List ℕ → List ℕ
relaid piece s a b p cs xs = take a xs ++ (produced piece s b p cs ++ drop b xs)

unfoldable pub edited : (ℕ → Command → List ℕ) → List ℕ → Edit → List ℕ → List ℕ
edited piece s e xs = relaid piece s e.from e.to (first_position s e) e.commands xs

-- the note that an edit leaves: transcript and shift stay
unfoldable pub transformed : Note → Edit → Note
transformed n e =
    lent n.original
    (edited characters n.normalized e n.normalized)
    (edited (carried_values n.starts) n.normalized e n.starts)
    (edited (carried_values n.ends) n.normalized e n.ends)
    n.original_shift

-- the edit that leaves a note as it is: nothing gives way to nothing
abbrev pub unchanging : Edit
unchanging = edit 0 0 0 []

-- CLAIM: so it does.
abbrev pub Unchanged : Type 0
Unchanged = (n : Note) → transformed n unchanging ≡ n
