-- Laws of `lowercaseEdit`: its closed form, its length, and `map` beside it.
use Prim.Native.Nat.{ℕ, ◌+◌, ◌-◌, ◌≤◌, ◌<◌}
use mathlib.Core.Path.{◌≡◌, ◌∙◌, ap, refl, sym}
use mathlib.Core.Bool.{true, false}
use mathlib.Core.List.{List, [], ◌∷◌, ◌++◌, append_assoc, append-nil}
use native.Mathlib.Omega.{arith}
use lib.Dec.{ltb, eqb}
use lib.ListN.{length, get_or, drop, replicate, length-append, drop_of_length-le}
use borrow.Author.Tests.{ltb-false, ne_eqb}
use Rattle.std.specs.Prelude.{Result, Ok, Err}
use Rattle.buffers.proofs.Cases.{true-or-false}
use Rattle.utf8.specs.Formed.{announced, well_formed, boundary, char_range}
use Rattle.utf8.specs.Scalar.{scalar, encoded, bytes_of, len_utf8}
use Rattle.utf8.proofs.Boundaries.{char-at}
use Rattle.note.specs.Notes.{Note, before_end, Sound}
use Rattle.note.proofs.Sound.{length-starts, length-ends, normalized-formed, shared_at}
use Rattle.convert.specs.Converting.{as_normalized}
use Rattle.script.specs.declared.Command.{Command}
use Rattle.code_point_blocks.specs.Codes.{text_of}
use Rattle.code_point_blocks.proofs.Codes.{text-append}
use Rattle.map_columns.specs.Spreading.{of_chars}
use Rattle.map_columns.specs.Laying.{Steady}
use Rattle.map_columns.proofs.Chars.{of-chars-at}
use Rattle.edit_steps.specs.Edits.{starves, moved, starved, carried_value, characters, carried_values, produced, first_position, relaid, edited, transformed}
use Rattle.edit_steps.proofs.Positions.{skipped-on, skipped-none, moved-replacing}
use Rattle.edit_steps.proofs.Given.{unchanged}
use Rattle.transform.specs.Transforming.{edit_of}
use Rattle.edits.specs.Characters.{code_at, codes_of}
use Rattle.edits.specs.Whole.{whole_range, replacing, adding, all_replacing, all_adding, map_edit}
use Rattle.edits.specs.Plain.{head_bytes, head_chars}
use Rattle.edits.proofs.Characters.{codes-none, codes-cons, codes-text}
use Rattle.edits.proofs.Head.{none_of, whole-behind}
use Rattle.edits.proofs.Sifted.{codes-chars, head-told, mapped-closed}
use Rattle.lowercase.specs.Images.{lower_image, dotted_i, dot, images}
use Rattle.lowercase.specs.Lowering.{lower_commands, lowercase_edit, all_images, carried_by_images, lowercased, LowercasedClosed, occurrences, LowercasedLength, LowercasedMapped}
use Rattle.lowercase.proofs.Images.{images-one, images-dotted, images-length, text-one, one-wide, dotted-text}
use Rattle.lowercase.proofs.Bytes.{by-chars}
use Rattle.lowercase.proofs.Grown.{value}
use Rattle.convert.specs.declared.Range.{Range}
use Rattle.note.specs.declared.Refusal.{Refusal}

-- a character's commands
lower-one : (c : ℕ) (cs : List ℕ) → eqb c dotted_i ≡ false → lower_commands (c ∷ cs) ≡ replacing 0 (lower_image c) ∷ lower_commands cs
unfolding lower_commands all_adding
lower-one c cs other = rw (images-one c other)

lower-dotted : (c : ℕ) (cs : List ℕ) → eqb c dotted_i ≡ true → lower_commands (c ∷ cs) ≡ replacing 0 0x69 ∷ adding dot ∷ lower_commands cs
unfolding lower_commands all_adding
lower-dotted c cs is = rw (images-dotted c is)

-- they starve where `map`'s do
starved-alike : (s : List ℕ) (b : ℕ) (cs : List ℕ) (p : ℕ) → starved s b p (lower_commands cs) ≡ starved s b p (all_replacing cs)
unfolding starved starves moved all_replacing lower_commands
starved-alike s b [] p = refl
starved-alike s b (c ∷ cs) p =
    true-or-false (eqb c dotted_i)
    (λ is. rw (lower-dotted c cs is, starved-alike s b cs))
    (λ other. rw (lower-one c cs other, starved-alike s b cs))

-- edits of one range whose commands starve alike
module _ (s : List ℕ) (cs ds : List Command) (alike : (b p : ℕ) → starved s b p cs ≡ starved s b p ds) where
  range-starved : (x : Result Range Refusal) → starved s (edit_of x 0 cs).to (first_position s (edit_of x 0 cs)) (edit_of x 0 cs).commands ≡ starved s (edit_of x 0 ds).to (first_position s (edit_of x 0 ds)) (edit_of x 0 ds).commands
  unfolding first_position
  range-starved (Ok r) = alike _ _
  range-starved (Err k) = refl

  range-placed : (x : Result Range Refusal) → char_range s (edit_of x 0 cs).from (edit_of x 0 cs).to ≡ char_range s (edit_of x 0 ds).from (edit_of x 0 ds).to
  range-placed (Ok r) = refl
  range-placed (Err k) = refl

-- what the commands give, to the text
lower-text : (s : List ℕ) (b : ℕ) (cs : List ℕ) (p : ℕ) → produced characters s b p (lower_commands cs) ≡ text_of (all_images cs)
unfolding produced lower_commands all_images text_of
lower-text s b [] p = refl
lower-text s b (c ∷ cs) p =
    true-or-false (eqb c dotted_i)
    (λ is.
    rw (lower-dotted c cs is, text-append (images c) (all_images cs), images-dotted c is, lower-text s b cs)
    (dotted-run (text_of (all_images cs))))
    (λ other. rw (lower-one c cs other, text-append (images c) (all_images cs), images-one c other, text-one (lower_image c), lower-text s b cs))
  where
    dotted-run : (l : List ℕ) → bytes_of 0x69 ++ (bytes_of dot ++ l) ≡ text_of (0x69 ∷ dot ∷ []) ++ l
    dotted-run l = rw (append-nil (bytes_of dot)) (sym (append_assoc (bytes_of 0x69) (bytes_of dot) l))

-- and to a column: each character's value for all that is in its place
module _ (s xs : List ℕ) (same : length xs ≡ length s) (steady : Steady s xs) (formed : well_formed s ≡ true) where
  abbrev given : ℕ → List Command → List ℕ
  given p cs = produced (carried_values xs) s (length s) p cs

  given-replacing : (p c : ℕ) (cs : List Command) → p < length s → given p (replacing 0 c ∷ cs) ≡ replicate (len_utf8 c) (get_or xs p 0) ++ given (p + announced (get_or s p 0)) cs
  unfolding produced carried_value
  given-replacing p c cs h =
      rw (moved-replacing s (length s) p (replacing 0 c) refl, skipped-on s (length s) 0 p h, skipped-none s (length s) (p + announced (get_or s p 0)))

  given-adding : (p c : ℕ) (cs : List Command) → given p (adding c ∷ cs) ≡ replicate (len_utf8 c) (before_end xs p) ++ given p cs
  unfolding produced carried_value moved
  given-adding p c cs = refl

  wide-i : len_utf8 0x69 ≡ 1
  unfolding len_utf8 bytes_of encoded scalar
  wide-i = refl

  wide-dot : len_utf8 dot ≡ 2
  unfolding len_utf8 bytes_of encoded scalar
  wide-dot = refl

  module _ (p : ℕ) (here : boundary s p ≡ true) (more : p < length s) where
    abbrev q : ℕ
    q = p + announced (get_or s p 0)

    -- what is just before the next character is this one's
    before-next : before_end xs q ≡ get_or xs p 0
    unfolding before_end
    before-next =
        let char = char-at s p formed here more in
        let some : eqb q 0 ≡ false = ne_eqb q 0 (λ is. absurd (omega (arith, char.positive, is))) in
        rw some (value s xs same steady formed p here more (q - 1) (omega (arith, char.positive)) (omega (arith, char.positive)))

    given-char : (c : ℕ) (cs : List ℕ) → given p (lower_commands (c ∷ cs)) ≡ replicate (length (text_of (images c))) (get_or xs p 0) ++ given q (lower_commands cs)
    given-char c cs =
        let x : ℕ = get_or xs p 0 in
        true-or-false (eqb c dotted_i)
        (λ is.
        let three : length (text_of (images c)) ≡ 1 + 2 = ap (λ (l : List ℕ). length (text_of l)) (images-dotted c is) ∙ ap length dotted-text in
        rw (lower-dotted c cs is, given-replacing p 0x69 (adding dot ∷ lower_commands cs) more, given-adding q dot (lower_commands cs), before-next, three, wide-i, wide-dot)
        (sym (append_assoc (replicate 1 x) (replicate 2 x) (given q (lower_commands cs)))))
        (λ other.
        let one : length (text_of (images c)) ≡ len_utf8 (lower_image c) = ap (λ (l : List ℕ). length (text_of l)) (images-one c other) ∙ one-wide (lower_image c) in
        rw (lower-one c cs other, given-replacing p (lower_image c) (lower_commands cs) more, one))

  none-given : (p : ℕ) (ys : List ℕ) → given p (lower_commands []) ≡ carried_by_images [] ys
  unfolding produced lower_commands carried_by_images
  none-given p ys = refl

  carried_on : (c x : ℕ) (cs ys : List ℕ) {r : List ℕ} → r ≡ carried_by_images cs ys → replicate (length (text_of (images c))) x ++ r ≡ carried_by_images (c ∷ cs) (x ∷ ys)
  unfolding carried_by_images
  carried_on c x cs ys e = ap (◌++◌ (replicate (length (text_of (images c))) x)) e

  lower-column : given 0 (lower_commands (codes_of s)) ≡ carried_by_images (codes_of s) (of_chars s xs)
  lower-column =
      by-chars s formed (λ p. given p (lower_commands (codes_of (drop p s))) ≡ carried_by_images (codes_of (drop p s)) (of_chars (drop p s) (drop p xs)))
      (λ p past. rw (drop_of_length-le s past, codes-none) (none-given p (of_chars [] (drop p xs))))
      (λ p here more rest.
      let q : ℕ = p + announced (get_or s p 0) in
      rw (codes-cons s p formed here more, of-chars-at s xs same p formed here more)
      (given-char p here more (code_at s p) (codes_of (drop q s))
      ∙ carried_on (code_at s p) (get_or xs p 0) (codes_of (drop q s)) (of_chars (drop q s) (drop q xs)) rest))

-- THE NOTE
module _ (n : Note) (sound : Sound n) where
  abbrev s : List ℕ
  s = n.normalized

  abbrev commands : List Command
  commands = lower_commands (codes_of n.normalized)

  formed : well_formed s ≡ true
  formed = normalized-formed n sound

  column-made : (xs : List ℕ) → length xs ≡ length s → Steady s xs → produced (carried_values xs) s (length s) 0 commands ++ drop (length s) xs ≡ carried_by_images (codes_of s) (of_chars s xs)
  column-made xs same steady =
      let past : length xs ≤ length s = omega arith in
      rw (drop_of_length-le xs past, append-nil (produced (carried_values xs) s (length s) 0 commands)) (lower-column s xs same steady formed)

  text-made : produced characters s (length s) 0 commands ++ drop (length s) s ≡ text_of (all_images (codes_of s))
  text-made =
      let past : length s ≤ length s = omega arith in
      rw (drop_of_length-le s past, append-nil (produced characters s (length s) 0 commands)) (lower-text s (length s) (codes_of s) 0)

  all_made : (h : ℕ) → h ≡ 0 → transformed n (record { from = h; to = length n.normalized; skip = 0; commands = lower_commands (codes_of n.normalized) }) ≡ lowercased n
  unfolding transformed edited relaid first_position lowercased
  all_made h none =
      rw (none, skipped-none s (length s) 0, text-made, column-made n.starts (length-starts n sound) (λ k inside goes. (shared_at n sound k inside goes).0), column-made n.ends (length-ends n sound) (λ k inside goes. (shared_at n sound k inside goes).1))

  -- no cleaned text: nothing is made of it
  none_made : length n.normalized ≡ 0 → lowercased n ≡ n
  unfolding lowercased all_images text_of carried_by_images
  none_made none =
      let codes : codes_of n.normalized ≡ [] = rw (none_of n.normalized none, codes-none) in
      let text : text_of (all_images (codes_of n.normalized)) ≡ n.normalized = rw codes (sym (none_of n.normalized none)) in
      let first : carried_by_images (codes_of n.normalized) (of_chars n.normalized n.starts) ≡ n.starts = rw codes (sym (none_of n.starts (length-starts n sound ∙ none))) in
      let last : carried_by_images (codes_of n.normalized) (of_chars n.normalized n.ends) ≡ n.ends = rw codes (sym (none_of n.ends (length-ends n sound ∙ none))) in
      λ i. record { original = n.original; normalized = text i; starts = first i; ends = last i; original_shift = n.original_shift }

  no-commands : length n.normalized ≡ 0 → lower_commands (codes_of n.normalized) ≡ []
  unfolding lower_commands
  no-commands none = rw (none_of n.normalized none, codes-none)

  empty-made : length n.normalized ≡ 0 → transformed n (record { from = 0; to = 0; skip = 0; commands = lower_commands (codes_of n.normalized) }) ≡ lowercased n
  empty-made none = rw (no-commands none) (unchanged n ∙ sym (none_made none))

  headless : ltb 0 (head_chars (head_bytes n) n) ≡ false → head_bytes n ≡ 0
  headless fed =
      let none = ltb-false 0 (head_bytes n) (sym (head-told n sound (whole-behind n sound) (codes_of s) (codes-chars s)) ∙ fed) in
      omega (arith, none)

  made : head_bytes n ≡ 0 → transformed n (lowercase_edit n) ≡ lowercased n
  unfolding lowercase_edit
  made none =
      (whole-behind n sound).cases 0 (lower_commands (codes_of n.normalized)) (λ e. transformed n e ≡ lowercased n)
      (all_made (head_bytes n) none)
      (λ all. empty-made (sym all ∙ none))
      (λ empty. unchanged n ∙ sym (none_made empty))

pub lowercased-closed : LowercasedClosed
unfolding lowercase_edit map_edit
lowercased-closed n sound =
    let codes : List ℕ = codes_of n.normalized in
    let x : Result Range Refusal = as_normalized n.starts n.ends (whole_range n) in
    let alike : (b p : ℕ) → starved n.normalized b p (lower_commands codes) ≡ starved n.normalized b p (all_replacing codes) = λ b p. starved-alike n.normalized b codes p in
    let m = mapped-closed n codes sound (codes-chars n.normalized) in
    record {
      lies = range-placed n.normalized (lower_commands codes) (all_replacing codes) alike x ∙ m.lies;
      exhausts = range-starved n.normalized (lower_commands codes) (all_replacing codes) alike x ∙ m.exhausts;
      leaves = λ fed. made n sound (headless n sound fed);
    }

-- HOW LONG IT IS
length-images : (cs : List ℕ) → length (text_of (all_images cs)) ≡ length (text_of cs) + occurrences dotted_i cs
unfolding all_images text_of occurrences len_utf8
length-images [] = refl
length-images (c ∷ cs) =
    omega (arith, ap length (text-append (images c) (all_images cs)), length-append (text_of (images c)) (text_of (all_images cs)), images-length c, length-append (bytes_of c) (text_of cs), length-images cs)

pub lowercased-length : LowercasedLength
unfolding lowercased
lowercased-length n sound =
    length-images (codes_of n.normalized) ∙ rw (codes-text n.normalized (normalized-formed n sound))

-- WITHOUT U+0130
undotted : (c : ℕ) (cs : List ℕ) → occurrences dotted_i (c ∷ cs) ≡ 0 → (eqb c dotted_i ≡ false) × (occurrences dotted_i cs ≡ 0)
unfolding occurrences
undotted c cs none =
    true-or-false (eqb c dotted_i)
    (λ is. absurd (omega (arith, rw is at none)))
    (λ other. (other, omega arith))

mapped-commands : (cs : List ℕ) → occurrences dotted_i cs ≡ 0 → lower_commands cs ≡ all_replacing (all_images cs)
unfolding lower_commands all_replacing all_images
mapped-commands [] none = refl
mapped-commands (c ∷ cs) none =
    let both = undotted c cs none in
    rw (lower-one c cs both.0, images-one c both.0) (ap (◌∷◌ (replacing 0 (lower_image c))) (mapped-commands cs both.1))

pub lowercased-mapped : LowercasedMapped
unfolding lowercase_edit map_edit
lowercased-mapped n none = rw (mapped-commands (codes_of n.normalized) none)
