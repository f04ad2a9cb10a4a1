-- What the inner functions that write are told and say: one command laid down, all of them, the whole edit.
use Rattle.std.specs.Prelude.{ℕ, ◌+◌, ◌-◌, ◌≤◌, ◌≡◌, true, false, List, length}
use Rattle.buffers.specs.Splice.{splice, overlay}
use Rattle.buffers.specs.Over.{Over}
use Rattle.utf8.specs.Formed.{well_formed}
use Rattle.script.specs.declared.Command.{Command}
use Rattle.utf8.specs.Scalar.{len_utf8}
use Rattle.edit_steps.specs.declared.walking.Progress.{Progress}
use Rattle.edit_steps.specs.Edits.{starved, characters, carried_values, produced, relaid}
use Rattle.edit_steps.specs.Walking.{Standing, commands_size}

-- what an edit is told of the note
pub record Editable (s starts ends : List ℕ) : Type 0 where
  pub formed : well_formed s ≡ true
  pub one_start : length starts ≡ length s
  pub one_end : length ends ≡ length s

-- a position of a column that a command finds something at
pub record Reached (xs : List ℕ) (p : ℕ) (c : Command) : Type 0 where
  pub inside : p ≤ length xs
  pub found : c.added ≡ false → p + 1 ≤ length xs

-- a command that does not starve, and room for what it gives
pub record Room (starts ends : List ℕ) (g : Progress) (c : Command) (out starts₀ ends₀ : List ℕ) : Type 0 where
  pub in_starts : Reached starts g.position.0 c
  pub in_ends : Reached ends g.position.0 c
  pub text_room : g.written + len_utf8 c.character ≤ length out
  pub starts_room : g.written + len_utf8 c.character ≤ length starts₀
  pub ends_room : g.written + len_utf8 c.character ≤ length ends₀

pub record CommandLaid (starts ends : List ℕ) (g : Progress) (c : Command) (out₀ starts₀ ends₀ : List ℕ)
    (out starts₁ ends₁ : List ℕ) : Type 0 where
  pub text_is : out ≡ splice out₀ g.written (characters g.position.0 c)
  pub starts_are : starts₁ ≡ splice starts₀ g.written (carried_values starts g.position.0 c)
  pub ends_are : ends₁ ≡ splice ends₀ g.written (carried_values ends g.position.0 c)

-- a bound up to which the buffers may be written
pub record Below (until : ℕ) (out starts₀ ends₀ : List ℕ) : Type 0 where
  pub text_below : until ≤ length out
  pub starts_below : until ≤ length starts₀
  pub ends_below : until ≤ length ends₀

-- one command laid, where after it the buffers are told from a bound on only
pub record CommandOver (starts ends : List ℕ) (g : Progress) (c : Command) (out₀ starts₀ ends₀ : List ℕ) (until : ℕ)
    (out starts₁ ends₁ : List ℕ) : Type 0 where
  pub text_over : Over (characters g.position.0 c) out₀ g.written until out
  pub starts_over : Over (carried_values starts g.position.0 c) starts₀ g.written until starts₁
  pub ends_over : Over (carried_values ends g.position.0 c) ends₀ g.written until ends₁

-- commands of which none starves, and room for what they give from `at` on
pub record CommandsRoom (s starts ends : List ℕ) (b p : ℕ) (cs : List Command) (out starts₀ ends₀ : List ℕ)
    (at : ℕ) : Type 0 where
  pub one_start : length starts ≡ length s
  pub one_end : length ends ≡ length s
  pub standing : Standing s b p
  pub feeds : starved s b p cs ≡ false
  pub text_room : at + commands_size cs ≤ length out
  pub starts_room : at + commands_size cs ≤ length starts₀
  pub ends_room : at + commands_size cs ≤ length ends₀

pub record CommandsLaid (s starts ends : List ℕ) (b p : ℕ) (cs : List Command) (out₀ starts₀ ends₀ : List ℕ) (at r : ℕ)
    (out starts₁ ends₁ : List ℕ) : Type 0 where
  pub reached : r ≡ at + commands_size cs
  pub text_is : out ≡ splice out₀ at (produced characters s b p cs)
  pub starts_are : starts₁ ≡ splice starts₀ at (produced (carried_values starts) s b p cs)
  pub ends_are : ends₁ ≡ splice ends₀ at (produced (carried_values ends) s b p cs)

-- the range a..b, and room for the whole result
pub record EditRoom (s starts ends : List ℕ) (a b p : ℕ) (cs : List Command) (out starts₀ ends₀ : List ℕ)
    : Type 0 where
  pub one_start : length starts ≡ length s
  pub one_end : length ends ≡ length s
  pub standing : Standing s b p
  pub forward : a ≤ b
  pub inside : b ≤ length s
  pub feeds : starved s b p cs ≡ false
  pub text_room : a + commands_size cs + (length s - b) ≤ length out
  pub starts_room : a + commands_size cs + (length s - b) ≤ length starts₀
  pub ends_room : a + commands_size cs + (length s - b) ≤ length ends₀

-- the whole result is in front
pub record EditLaid (s starts ends : List ℕ) (a b p : ℕ) (cs : List Command) (out₀ starts₀ ends₀ : List ℕ) (r : ℕ)
    (out starts₁ ends₁ : List ℕ) : Type 0 where
  pub reached : r ≡ length (relaid characters s a b p cs s)
  pub text_is : out ≡ overlay (relaid characters s a b p cs s) out₀
  pub starts_are : starts₁ ≡ overlay (relaid (carried_values starts) s a b p cs starts) starts₀
  pub ends_are : ends₁ ≡ overlay (relaid (carried_values ends) s a b p cs ends) ends₀
