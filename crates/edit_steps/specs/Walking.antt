-- What the inner functions are told and say: a position in the range, the record that goes through a script, the script
-- measured, and what has been laid into the passed buffers.
use Rattle.std.specs.Prelude.{ℕ, ◌+◌, ◌^◌, ◌≤◌, ◌<◌, ◌≡◌, true, false, cond, List, [], ◌∷◌, Option, Some, None}
use Rattle.utf8.specs.Formed.{well_formed, boundary}
use Rattle.script.specs.declared.Command.{Command}
use Rattle.utf8.specs.Scalar.{len_utf8}
use Rattle.edit_steps.specs.declared.walking.Progress.{Progress}
use Rattle.edit_steps.specs.Edits.{starves, moved, starved}

-- a position of a well-formed text, at a boundary before another one or there
pub record Standing (s : List ℕ) (b p : ℕ) : Type 0 where
  pub formed : well_formed s ≡ true
  pub ends : boundary s b ≡ true
  pub stands : boundary s p ≡ true
  pub most : p ≤ b

-- how many bytes commands give
unfoldable pub commands_size : List Command → ℕ
commands_size [] = 0
commands_size (c ∷ cs) = len_utf8 c.character + commands_size cs

-- a command goes by: the position moves, the bytes are counted; a command that starves says so, and leaves both
unfoldable pub progress_after : List ℕ → ℕ → Progress → Command → Progress
progress_after s b g c =
    cond (starves b g.position.0 c) (record { position = g.position; written = g.written; starved = true })
    (record {
      position = record { 0 = moved s b g.position.0 c };
      written = g.written + len_utf8 c.character;
      starved = false;
    })

-- what a step is told: the text, the range's end, how far the edit is, and that the count does not run over
pub record Counting (s : List ℕ) (b : ℕ) (g : Progress) (c : Command) : Type 0 where
  pub standing : Standing s b g.position.0
  pub counts : g.written + len_utf8 c.character < 2 ^ 64

-- a script measured from a position on
unfoldable pub measured : List ℕ → ℕ → ℕ → List Command → Option ℕ
measured s b p cs = cond (starved s b p cs) None (Some (commands_size cs))
