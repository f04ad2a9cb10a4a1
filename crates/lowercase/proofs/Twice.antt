-- Why lowercasing once more changes nothing: code points are read back from their bytes, and each image is its own.
use Prim.Native.Nat.{ℕ, suc, ◌+◌, ◌-◌, ◌≤◌, ◌<◌, min}
use mathlib.Core.Path.{◌≡◌, ◌∙◌, ap, refl, sym}
use mathlib.Core.Bool.{Bool, true, false}
use mathlib.Core.List.{List, [], ◌∷◌, ◌++◌}
use mathlib.Mathlib.Data.Bool.Basic.{and_elim_left, and_elim_right}
use native.Mathlib.Omega.{arith}
use lib.Dec.{ltb, eqb}
use lib.ListN.{length, get_or, drop, length-append, drop_of_length-le, get_or-append}
use lib.Seq.{take_at, drop_at, take-length}
use Rattle.buffers.proofs.Cases.{le-or-lt, true-or-false, clash}
use Rattle.utf8.specs.Formed.{announced, formed, continues, well_formed, boundary}
use Rattle.utf8.specs.Scalar.{scalar, bytes_of}
use Rattle.utf8.proofs.Formed.{formed-append}
use Rattle.utf8.proofs.Boundaries.{CharAt, char-at, boundary-zero, boundary-begins, boundary-of-take}
use Rattle.utf8.proofs.Scalar.{scalar-distinct}
use Rattle.utf8.proofs.LenUtf8.{size-some, bytes-formed}
use Rattle.note.specs.declared.Refusal.{Refusal}
use Rattle.note.specs.Refusals.{none, also, verdict, Accepted}
use Rattle.note.specs.Notes.{Note, fits, Sound}
use Rattle.note.specs.Faults.{note_faults}
use Rattle.note.proofs.FirstMet.{accepted-first, accepted-second, both-accepted}
use Rattle.note.proofs.Sound.{length-starts, length-ends, normalized-formed, shared_at}
use Rattle.note.proofs.Faults.{accepted-sound, sound-accepted}
use Rattle.code_point_blocks.specs.Codes.{text_of, all_scalar}
use Rattle.map_columns.specs.Spreading.{of_chars, spread}
use Rattle.map_columns.specs.Laying.{Steady}
use Rattle.map_columns.proofs.Bytes.{Character, character}
use Rattle.map_columns.proofs.Spread.{copied}
use Rattle.edit_steps.specs.Edits.{characters, edited, transformed}
use Rattle.transform.specs.Transforming.{edit_faults}
use Rattle.transform.proofs.Verdicts.{accepted-fed, accepted-size, small-enough}
use Rattle.transform.proofs.Soundness.{transformed-sound}
use Rattle.edits.specs.Characters.{code_at, codes_of}
use Rattle.edits.specs.Whole.{map_edit}
use Rattle.edits.specs.Plain.{widthless, head_bytes, head_chars, mapped}
use Rattle.edits.proofs.Characters.{code-bytes, codes-none, codes-cons, codes-text}
use Rattle.edits.proofs.Head.{whole-behind}
use Rattle.edits.proofs.Mapped.{no-head, first_head}
use Rattle.edits.proofs.Sifted.{code-size, codes-chars, head-told, mapped-closed}
use Rattle.lowercase.specs.Images.{lower_image, dotted_i, dot, images}
use Rattle.lowercase.specs.Lowering.{lowercase_edit, lowercase_faults, all_images, lowercased, occurrences, StaysLowercase, LowercasedTwice}
use Rattle.lowercase.specs.Laying.{grown_after, grown}
use Rattle.lowercase.proofs.Images.{lowered-past, lowered-scalar, lowered-stays, lowered-undotted}
use Rattle.lowercase.proofs.Bytes.{by-chars}
use Rattle.lowercase.proofs.Grown.{other-first, length-grown, dotted-few, grown-carried}
use Rattle.lowercase.proofs.Lowering.{lowercased-closed, lowercased-mapped}

-- THE CODE POINTS OF A TEXT THAT IS MADE OF THEM
module _ (c : ℕ) (ok : scalar c ≡ true) (rest : List ℕ) (well : well_formed rest ≡ true) where
  abbrev t : List ℕ
  t = bytes_of c ++ rest

  abbrev k : ℕ
  k = length (bytes_of c)

  bytes : Character (bytes_of c)
  bytes = character c ok

  well-made : well_formed t ≡ true
  well-made = formed-append [] (bytes_of c) rest (bytes-formed c) well

  long : k ≤ length t
  long = omega (arith, length-append (bytes_of c) rest)

  some : 0 < length t
  some = omega (arith, bytes.some, long)

  ends : boundary t k ≡ true
  ends = boundary-of-take t k well-made long (rw (take_at (bytes_of c) rest k refl) (bytes-formed c))

  first : CharAt t 0 (announced (get_or t 0 0))
  first = char-at t 0 well-made (boundary-zero t well-made) some

  -- the first character's bytes are those of c: both end where the next character begins
  wide : announced (get_or t 0 0) ≡ k
  wide =
      let w : ℕ = announced (get_or t 0 0) in
      let z : 0 + w ≡ w = omega arith in
      le-or-lt w k
      (λ at_most. le-or-lt k w
      (λ at_least_lem. omega arith)
      (λ less.
      let y : suc (w - 1) ≡ w = omega (arith, first.positive) in
      let goes : continues (get_or t w 0) ≡ true = rw (get_or-append (bytes_of c) rest 0 w less) (rw y at (bytes.goes_on (w - 1) (omega (arith, y)))) in
      clash (continues (get_or t w 0)) goes (boundary-begins t w (rw z at first.ends))))
      (λ more. clash (continues (get_or t k 0)) (first.rest k bytes.some (omega arith)) (boundary-begins t k ends))

  code : code_at t 0 ≡ c
  code =
      let size = code-size t 0 well-made (boundary-zero t well-made) some in
      let z : 0 + announced (get_or t 0 0) - 0 ≡ k = omega (arith, wide) in
      scalar-distinct (code_at t 0) c (size-some (code_at t 0) (λ is. absurd (omega (arith, size, first.positive, is)))) ok
      (code-bytes t 0 well-made (boundary-zero t well-made) some ∙ rw z (take_at (bytes_of c) rest k refl))

  codes-first : codes_of t ≡ c ∷ codes_of rest
  codes-first =
      let z : 0 + announced (get_or t 0 0) ≡ k = omega (arith, wide) in
      codes-cons t 0 well-made (boundary-zero t well-made) some ∙ rw (code, z, drop_at (bytes_of c) rest k refl)

text_codes : (cs : List ℕ) → all_scalar cs ≡ true → (well_formed (text_of cs) ≡ true) × (codes_of (text_of cs) ≡ cs)
unfolding text_of all_scalar formed
text_codes [] ok = (refl, codes-none)
text_codes (c ∷ cs) ok =
    let here = and_elim_left (scalar c) (all_scalar cs) ok in
    let rest = text_codes cs (and_elim_right (scalar c) (all_scalar cs) ok) in
    (well-made c here (text_of cs) rest.0, codes-first c here (text_of cs) rest.0 ∙ ap (◌∷◌ c) rest.1)

-- every code point of a text is a scalar value
code-scalar : (s : List ℕ) (p : ℕ) → well_formed s ≡ true → boundary s p ≡ true → p < length s → scalar (code_at s p) ≡ true
code-scalar s p w here more =
    size-some (code_at s p) (λ is. absurd (omega (arith, code-size s p w here more, (char-at s p w here more).positive, is)))

codes-scalar : (s : List ℕ) → well_formed s ≡ true → all_scalar (codes_of s) ≡ true
unfolding all_scalar
codes-scalar s w =
    by-chars s w (λ p. all_scalar (codes_of (drop p s)) ≡ true)
    (λ p past. rw (drop_of_length-le s past, codes-none))
    (λ p here more rest. rw (codes-cons s p w here more, code-scalar s p w here more) rest)

-- THE IMAGES of code points: scalar values, none of them U+0130, each its own image
dot-past : lower_image dot ≡ dot
dot-past = lowered-past dot (omega arith)

dot-scalar : scalar dot ≡ true
unfolding scalar
dot-scalar = refl

-- a code point, and what comes after it, by whether it is U+0130
images-cases : (c : ℕ) (P : List ℕ → Type 0) → P (lower_image c ∷ []) → P (lower_image c ∷ dot ∷ []) → P (images c)
unfolding images
images-cases c P one two = true-or-false (eqb c dotted_i) (λ t. rw t two) (λ f. rw f one)

all-scalar : (cs : List ℕ) → all_scalar cs ≡ true → all_scalar (all_images cs) ≡ true
unfolding all_scalar all_images
all-scalar [] ok = refl
all-scalar (c ∷ cs) ok =
    let first = lowered-scalar c (and_elim_left (scalar c) (all_scalar cs) ok) in
    let rest = all-scalar cs (and_elim_right (scalar c) (all_scalar cs) ok) in
    images-cases c (λ l. all_scalar (l ++ all_images cs) ≡ true) (rw first rest) (rw (first, dot-scalar) rest)

none-dotted : (cs : List ℕ) → occurrences dotted_i (all_images cs) ≡ 0
unfolding occurrences all_images
none-dotted [] = refl
none-dotted (c ∷ cs) =
    let rest = none-dotted cs in
    images-cases c (λ l. occurrences dotted_i (l ++ all_images cs) ≡ 0) (rw (lowered-undotted c) (omega (arith, rest))) (rw (lowered-undotted c) (omega (arith, rest)))

own-images : (cs : List ℕ) → all_images (all_images cs) ≡ all_images cs
unfolding all_images images
own-images [] = refl
own-images (c ∷ cs) =
    let rest = own-images cs in
    let stays = lowered-stays c in
    let plain = lowered-undotted c in
    images-cases c (λ l. all_images (l ++ all_images cs) ≡ l ++ all_images cs) (rw (plain, stays) (ap (◌∷◌ (lower_image c)) rest)) (rw (plain, stays, dot-past) (ap (λ (l : List ℕ). lower_image c ∷ dot ∷ l) rest))

-- A SOUND NOTE, each of whose characters takes its own place with its own alignment, is as it was
module _ (n : Note) (sound : Sound n) where
  abbrev s : List ℕ
  s = n.normalized

  text-own : text_of (codes_of n.normalized) ≡ n.normalized
  text-own = codes-text n.normalized (normalized-formed n sound)

  column-own : (xs : List ℕ) → length xs ≡ length n.normalized → Steady n.normalized xs → spread (codes_of n.normalized) (of_chars n.normalized xs) ≡ xs
  column-own xs same steady =
      let far : 0 + length (text_of (codes_of s)) ≤ length s = rw text-own (omega arith) in
      let all : 0 + length (text_of (codes_of s)) - 0 ≡ length xs = rw text-own (omega arith) in
      let alike : (i : ℕ) → i < length (text_of (codes_of s)) → continues (get_or s (0 + i) 0) ≡ continues (get_or (text_of (codes_of s)) i 0) =
      λ i h. let z : 0 + i ≡ i = omega arith in rw (z, text-own) in
      (copied s xs same steady (codes_of s) 0 (codes-scalar s (normalized-formed n sound)) far alike).0 ∙ rw all (take-length xs)

  mapped-own : mapped n (codes_of n.normalized) ≡ n
  unfolding mapped
  mapped-own =
      let first = column-own n.starts (length-starts n sound) (λ q inside goes. (shared_at n sound q inside goes).0) in
      let last = column-own n.ends (length-ends n sound) (λ q inside goes. (shared_at n sound q inside goes).1) in
      λ i. record { original = n.original; normalized = text-own i; starts = first i; ends = last i; original_shift = n.original_shift }

-- the first alignment stays the first
grown-first : (s xs : List ℕ) → length xs ≡ length s → get_or (grown s xs) 0 0 ≡ get_or xs 0 0
unfolding grown_after
grown-first [] [] same = refl
grown-first [] (x ∷ xs) same = absurd (omega arith)
grown-first (b ∷ s) [] same = absurd (omega arith)
grown-first (b ∷ s) (x ∷ xs) same = rw (other-first 0 b (λ is. absurd (omega arith)))

-- so where there was no head there is none
grown-headless : (s starts ends : List ℕ) → length starts ≡ length s → length ends ≡ length s → ltb 0 (widthless starts ends) ≡ false → ltb 0 (widthless (grown s starts) (grown s ends)) ≡ false
grown-headless s starts ends one two none =
    let a = length-grown 0 s starts one in
    let b = length-grown 0 s ends two in
    le-or-lt (length s) 0
    (λ empty. sym (no-head (grown s starts) (grown s ends) (omega (arith, a, dotted-few 0 s))))
    (λ some.
    sym (first_head (grown s starts) (grown s ends) (omega (arith, a, b)) (λ is. absurd (omega (arith, a, is))))
    ∙ rw (grown-first s starts one, grown-first s ends two) (first_head starts ends (omega arith) (λ is. absurd (omega (arith, is))) ∙ none))

-- A NOTE WITHOUT A HEAD whose code points are their own images
module _ (most : ℕ) (m : Note) (room : ℕ) (sound : Sound m) (within : fits most m ≡ true) (headless : ltb 0 (widthless m.starts m.ends) ≡ false)
    (undotted : occurrences dotted_i (codes_of m.normalized) ≡ 0) (own : all_images (codes_of m.normalized) ≡ codes_of m.normalized) (small : length m.normalized ≤ min most room) where
  same-edit : lowercase_edit m ≡ map_edit m (codes_of m.normalized)
  same-edit = lowercased-mapped m undotted ∙ ap (map_edit m) own

  unheaded : ltb 0 (head_chars (head_bytes m) m) ≡ false
  unheaded = head-told m sound (whole-behind m sound) (codes_of m.normalized) (codes-chars m.normalized) ∙ headless

  stays : transformed m (lowercase_edit m) ≡ m
  stays =
      ap (transformed m) same-edit ∙ (mapped-closed m (codes_of m.normalized) sound (codes-chars m.normalized)).leaves unheaded
      ∙ mapped-own m sound

  as_long : length (edited characters m.normalized (lowercase_edit m) m.normalized) ≡ length m.normalized
  unfolding transformed
  as_long = ap (λ (x : Note). length x.normalized) stays

  no_more : verdict none ≡ Accepted
  unfolding verdict
  no_more = refl

  stays-lowercase : StaysLowercase most m room
  stays-lowercase =
      let closed = lowercased-closed m sound in
      record {
        accepts =
            both-accepted (also (note_faults most m) none) (edit_faults most m.normalized (lowercase_edit m) room)
            (both-accepted (note_faults most m) none (sound-accepted most m sound within) no_more)
            (sym (small-enough most m.normalized (lowercase_edit m) room closed.lies (closed.exhausts ∙ unheaded) (omega (arith, as_long, small))));
        leaves = stays;
      }

module _ (most : ℕ) (n : Note) (room : ℕ) (ok : verdict (lowercase_faults most n room) ≡ Accepted) where
  abbrev faults : Refusal → Bool
  faults = edit_faults most n.normalized (lowercase_edit n) room

  noted : verdict (note_faults most n) ≡ Accepted
  noted = accepted-first (note_faults most n) none (accepted-first (also (note_faults most n) none) faults ok)

  judged : verdict (edit_faults most n.normalized (lowercase_edit n) room) ≡ Accepted
  judged = accepted-second (also (note_faults most n) none) faults ok

  sound : Sound n
  sound = (accepted-sound most n noted).0

  fed : ltb 0 (head_chars (head_bytes n) n) ≡ false
  fed = sym (lowercased-closed n sound).exhausts ∙ accepted-fed most n.normalized (lowercase_edit n) room judged

  made : transformed n (lowercase_edit n) ≡ lowercased n
  made = (lowercased-closed n sound).leaves fed

  codes-made : codes_of (transformed n (lowercase_edit n)).normalized ≡ all_images (codes_of n.normalized)
  unfolding lowercased
  codes-made =
      ap (λ (x : Note). codes_of x.normalized) made
      ∙ (text_codes (all_images (codes_of n.normalized)) (all-scalar (codes_of n.normalized) (codes-scalar n.normalized (normalized-formed n sound)))).1

  no-head-before : ltb 0 (widthless n.starts n.ends) ≡ false
  no-head-before = sym (head-told n sound (whole-behind n sound) (codes_of n.normalized) (codes-chars n.normalized)) ∙ fed

  no-head-after : ltb 0 (widthless (transformed n (lowercase_edit n)).starts (transformed n (lowercase_edit n)).ends) ≡ false
  unfolding lowercased
  no-head-after =
      let formed = normalized-formed n sound in
      let first = grown-carried n.normalized n.starts (length-starts n sound) (λ q inside goes. (shared_at n sound q inside goes).0) formed in
      let last = grown-carried n.normalized n.ends (length-ends n sound) (λ q inside goes. (shared_at n sound q inside goes).1) formed in
      ap (λ (x : Note). ltb 0 (widthless x.starts x.ends)) made
      ∙ rw (← first, ← last) (grown-headless n.normalized n.starts n.ends (length-starts n sound) (length-ends n sound) no-head-before)

  small : length (transformed n (lowercase_edit n)).normalized ≤ min most room
  unfolding transformed
  small = accepted-size most n.normalized (lowercase_edit n) room judged

  twice : StaysLowercase most (transformed n (lowercase_edit n)) room
  twice =
      let after = transformed-sound most n (lowercase_edit n) room noted judged in
      stays-lowercase most (transformed n (lowercase_edit n)) room after.0 after.1 no-head-after
      (rw codes-made (none-dotted (codes_of n.normalized)))
      (rw codes-made (own-images (codes_of n.normalized)))
      small

pub lowercased-twice : LowercasedTwice
lowercased-twice = twice
