-- `append` and `prepend` by their commands are what their plain words say.
use Prim.Native.Nat.{ℕ, ◌+◌, ◌-◌, ◌≤◌, ◌<◌}
use mathlib.Core.Path.{◌≡◌, ◌∙◌, ap, refl, sym}
use mathlib.Core.Bool.{true, false}
use mathlib.Core.List.{List, [], ◌∷◌, ◌++◌, append_assoc, append-nil}
use native.Mathlib.Omega.{arith}
use lib.ListN.{length, get_or, take, drop, replicate, length-append, drop_of_length-le, take-append-drop}
use borrow.Author.Tests.{lt-leb, eq-eqb, ne_eqb}
use Rattle.buffers.specs.Splice.{part}
use Rattle.buffers.proofs.Cases.{le-or-lt}
use Rattle.buffers.proofs.Splice.{length_part, part_end}
use Rattle.utf8.specs.Formed.{announced, well_formed, boundary}
use Rattle.utf8.specs.Scalar.{bytes_of}
use Rattle.utf8.proofs.Boundaries.{char-at, boundary-zero, boundary-length}
use Rattle.note.specs.Notes.{Note, lent, before_end, Sound}
use Rattle.utf8.specs.CharRanges.{char_start, char_end}
use Rattle.utf8.proofs.CharRanges.{Ranged, ranged}
use Rattle.note.proofs.BeforeEnd.{before-none}
use Rattle.note.proofs.Sound.{length-starts, length-ends, normalized-formed}
use Rattle.script.specs.declared.Command.{Command}
use Rattle.utf8.specs.Scalar.{len_utf8}
use Rattle.utf8.specs.Formed.{char_range}
use Rattle.edit_steps.specs.Edits.{skipped, starves, moved, starved, carried_value, characters, carried_values, produced, first_position, relaid, edited, transformed, unchanging}
use Rattle.edit_steps.proofs.Positions.{skipped-none, skipped-on, moved-replacing, starves-replacing}
use Rattle.edit_steps.proofs.Given.{unchanged}
use Rattle.code_point_blocks.specs.Codes.{text_of}
use Rattle.edits.specs.Characters.{code_at, codes_of}
use Rattle.edits.specs.Whole.{replacing, adding, all_adding, replacing_first, append_edit, prepend_edit}
use Rattle.edits.proofs.Characters.{code-bytes, codes-none, codes-cons, codes-text}
use Rattle.append_prepend.specs.Joining.{appended, AppendedClosed, front_of, prepended, PrependedClosed}
use Rattle.edits.proofs.Shares.{starts-part, ends-part, last-shares}
use Rattle.edits.specs.Plain.{Makes}
use Rattle.edits.proofs.Head.{none_of, is-placed}
use Rattle.append_prepend.proofs.Adding.{replicate-add, adding-text, adding-fed, adding-column}

-- one character of a sound note replaced by itself: its bytes, its alignments, and where the position is then
module _ (n : Note) (sound : Sound n) (p : ℕ) (e : boundary n.normalized p ≡ true) (h : p < length n.normalized) where
  abbrev after : ℕ
  after = p + announced (get_or n.normalized p 0)

  width : len_utf8 (code_at n.normalized p) ≡ announced (get_or n.normalized p 0)
  unfolding len_utf8
  width =
      let here = char-at n.normalized p (normalized-formed n sound) e h in
      ap length (code-bytes n.normalized p (normalized-formed n sound) e h)
      ∙ (length_part n.normalized p after here.inside ∙ omega arith)

  takes : (c b : ℕ) → p < b → moved n.normalized b p (replacing 0 c) ≡ after
  takes c b less = moved-replacing n.normalized b p (replacing 0 c) refl ∙ skipped-on n.normalized b 0 p less ∙ skipped-none n.normalized b after

  feeds : (c b : ℕ) → p < b → starves b p (replacing 0 c) ≡ false
  feeds c b less = starves-replacing b p (replacing 0 c) refl ∙ lt-leb b p less

-- APPEND
module _ (n : Note) (string : List ℕ) (sound : Sound n) (well : well_formed string ≡ true) where
  abbrev s : List ℕ
  s = n.normalized

  added : text_of (codes_of string) ≡ string
  added = codes-text string well

  module _ (none : length n.normalized ≡ 0) where
    empty-edit : append_edit n string ≡ record { from = 0; to = 0; skip = 0; commands = all_adding (codes_of string) }
    unfolding append_edit
    empty-edit = rw (eq-eqb (length n.normalized) 0 none)

    empty-column : (xs : List ℕ) → length xs ≡ length n.normalized → replicate (length string) (before_end xs 0) ++ xs ≡ xs ++ replicate (length string) (before_end xs (length n.normalized))
    empty-column xs long = rw (none, none_of xs (long ∙ none)) (append-nil (replicate (length string) (before_end [] 0)))

    empty-makes : Makes n (record { from = 0; to = 0; skip = 0; commands = all_adding (codes_of string) }) (appended n string)
    unfolding first_position skipped transformed edited relaid appended
    empty-makes =
        record {
          lies = is-placed n.normalized 0 0 (omega arith) (boundary-zero n.normalized (normalized-formed n sound)) (boundary-zero n.normalized (normalized-formed n sound));
          feeds = adding-fed n.normalized 0 0 (codes_of string);
          leaves = rw (
            adding-text n.normalized 0 0 (codes_of string),
            adding-column n.normalized 0 0 n.starts (codes_of string),
            adding-column n.normalized 0 0 n.ends (codes_of string),
            added,
            empty-column n.starts (length-starts n sound),
            empty-column n.ends (length-ends n sound),
            none_of n.normalized none,
            append-nil string,
          );
        }

  module _ (some : 0 < length n.normalized) where
    abbrev q : ℕ
    q = char_start n.normalized (length n.normalized - 1)

    range : Ranged n.normalized (length n.normalized - 1)
    range = ranged n.normalized (length n.normalized - 1) (normalized-formed n sound) (omega arith)

    reach : q + announced (get_or n.normalized q 0) ≡ length n.normalized
    unfolding char_end
    reach = omega (arith, range.past, range.most)

    low : q < length n.normalized
    low = omega (arith, range.from)

    some-edit : append_edit n string ≡ record { from = q; to = length n.normalized; skip = 0; commands = replacing 0 (code_at n.normalized q) ∷ all_adding (codes_of string) }
    unfolding append_edit
    some-edit = rw (ne_eqb (length n.normalized) 0 (λ z. absurd (omega arith)))

    tail : (xs : List ℕ) → length xs ≡ length n.normalized → part xs q (q + announced (get_or n.normalized q 0)) ≡ drop q xs
    tail xs long = let z : q + announced (get_or n.normalized q 0) ≡ length xs = reach ∙ sym long in rw z (part_end xs q)

    together : (xs r : List ℕ) → length xs ≡ length n.normalized → take q xs ++ ((drop q xs ++ r) ++ drop (length n.normalized) xs) ≡ xs ++ r
    together xs r long =
        let past : length xs ≤ length n.normalized = omega arith in
        rw (drop_of_length-le xs past, append-nil (drop q xs ++ r)) (sym (append_assoc (take q xs) (drop q xs) r) ∙ rw (take-append-drop q xs))

    given-text : produced characters n.normalized (length n.normalized) q (replacing 0 (code_at n.normalized q) ∷ all_adding (codes_of string)) ≡ drop q n.normalized ++ string
    unfolding produced
    given-text =
        rw (
          code-bytes n.normalized q (normalized-formed n sound) range.begins low,
          tail n.normalized refl,
          adding-text n.normalized (length n.normalized) (moved n.normalized (length n.normalized) q (replacing 0 (code_at n.normalized q))) (codes_of string),
          added,
        )

    given-column : (xs : List ℕ) → length xs ≡ length n.normalized
        → replicate (announced (get_or n.normalized q 0)) (get_or xs q 0) ≡ part xs q (q + announced (get_or n.normalized q 0))
        → produced (carried_values xs) n.normalized (length n.normalized) q (replacing 0 (code_at n.normalized q) ∷ all_adding (codes_of string)) ≡ drop q xs ++ replicate (length string) (before_end xs (length n.normalized))
    unfolding produced carried_value
    given-column xs long shared =
        rw (
          width n sound q range.begins low,
          shared,
          tail xs long,
          takes n sound q range.begins low (code_at n.normalized q) (length n.normalized) low,
          reach,
          adding-column n.normalized (length n.normalized) (length n.normalized) xs (codes_of string),
          added,
        )

    some-makes : Makes n (record { from = q; to = length n.normalized; skip = 0; commands = replacing 0 (code_at n.normalized q) ∷ all_adding (codes_of string) }) (appended n string)
    unfolding first_position skipped transformed edited relaid appended starved
    some-makes =
        record {
          lies = is-placed n.normalized q (length n.normalized) (omega (arith, low)) range.begins (boundary-length n.normalized);
          feeds = rw (feeds n sound q range.begins low (code_at n.normalized q) (length n.normalized) low) (adding-fed n.normalized (length n.normalized) _ (codes_of string));
          leaves = rw (
            given-text,
            given-column n.starts (length-starts n sound) (starts-part n sound q range.begins low),
            given-column n.ends (length-ends n sound) (ends-part n sound q range.begins low),
            together n.normalized string refl,
            together n.starts (replicate (length string) (before_end n.starts (length n.normalized))) (length-starts n sound),
            together n.ends (replicate (length string) (before_end n.ends (length n.normalized))) (length-ends n sound),
          );
        }

pub appended-closed : AppendedClosed
appended-closed n string sound well =
    le-or-lt (length n.normalized) 0
    (λ none. let z : length n.normalized ≡ 0 = omega arith in rw (empty-edit n string sound well z) (empty-makes n string sound well z))
    (λ some. rw (some-edit n string sound well some) (some-makes n string sound well some))

-- PREPEND
adding-snoc : (cs : List ℕ) (x : ℕ) → all_adding cs ++ (adding x ∷ []) ≡ all_adding (cs ++ (x ∷ []))
unfolding all_adding
adding-snoc [] x = refl
adding-snoc (c ∷ cs) x = ap (◌∷◌ (adding c)) (adding-snoc cs x)

one-adding : (x : ℕ) → all_adding (x ∷ []) ≡ adding x ∷ []
unfolding all_adding
one-adding x = refl

text-snoc : (cs : List ℕ) (x : ℕ) → text_of (cs ++ (x ∷ [])) ≡ text_of cs ++ bytes_of x
unfolding text_of
text-snoc [] x = append-nil (bytes_of x)
text-snoc (c ∷ cs) x = rw (text-snoc cs x) (sym (append_assoc (bytes_of c) (text_of cs) (bytes_of x)))

module _ (n : Note) (string : List ℕ) (sound : Sound n) (well : well_formed string ≡ true) (some : 0 < length n.normalized) where
  abbrev wide : ℕ
  wide = announced (get_or n.normalized 0 0)

  begins-here : boundary n.normalized 0 ≡ true
  begins-here = boundary-zero n.normalized (normalized-formed n sound)

  near : 0 + wide ≡ wide
  near = omega arith

  less : 0 < wide
  less = omega (arith, (char-at n.normalized 0 (normalized-formed n sound) begins-here some).positive)

  ends-here : boundary n.normalized wide ≡ true
  ends-here = rw near at (char-at n.normalized 0 (normalized-formed n sound) begins-here some).ends

  first-bytes : bytes_of (code_at n.normalized 0) ≡ take wide n.normalized
  first-bytes =
      let z : wide - 0 ≡ wide = omega arith in
      code-bytes n.normalized 0 (normalized-formed n sound) begins-here some ∙ rw (near, z)

  first-wide : length (bytes_of (code_at n.normalized 0)) ≡ wide
  unfolding len_utf8
  first-wide = width n sound 0 begins-here some

  some-prepend : prepend_edit n string ≡ record { from = 0; to = wide; skip = 0; commands = replacing_first (codes_of string) ++ (adding (code_at n.normalized 0) ∷ []) }
  unfolding prepend_edit
  some-prepend = rw (ne_eqb (length n.normalized) 0 (λ z. absurd (omega arith)))

  some-made : prepended n string ≡ lent n.original (string ++ n.normalized) (replicate (length string + wide) (front_of string n.starts) ++ drop wide n.starts) (replicate (length string + wide) (front_of string n.ends) ++ drop wide n.ends) n.original_shift
  unfolding prepended
  some-made = rw (ne_eqb (length n.normalized) 0 (λ z. absurd (omega arith)))

  abbrev Goal : List Command → Type 0
  Goal cs =
      Makes n (record { from = 0; to = wide; skip = 0; commands = cs })
      (lent n.original (string ++ n.normalized) (replicate (length string + wide) (front_of string n.starts) ++ drop wide n.starts) (replicate (length string + wide) (front_of string n.ends) ++ drop wide n.ends) n.original_shift)

  lies-here : char_range n.normalized 0 wide ≡ true
  lies-here = is-placed n.normalized 0 wide (omega arith) begins-here ends-here

  module _ (none : string ≡ []) where
    none-column : (xs : List ℕ) → produced (carried_values xs) n.normalized wide 0 (all_adding (code_at n.normalized 0 ∷ [])) ≡ replicate (length string + wide) (front_of string xs)
    unfolding text_of front_of
    none-column xs =
        adding-column n.normalized wide 0 xs (code_at n.normalized 0 ∷ [])
        ∙ rw (append-nil (bytes_of (code_at n.normalized 0)), first-wide, before-none xs 0 refl, none, near)

    none-goal : Goal (all_adding (code_at n.normalized 0 ∷ []))
    unfolding first_position skipped transformed edited relaid text_of
    none-goal =
        record {
          lies = lies-here;
          feeds = adding-fed n.normalized wide 0 (code_at n.normalized 0 ∷ []);
          leaves = rw (
            adding-text n.normalized wide 0 (code_at n.normalized 0 ∷ []),
            append-nil (bytes_of (code_at n.normalized 0)),
            first-bytes,
            none-column n.starts,
            none-column n.ends,
            take-append-drop wide n.normalized,
            none,
          );
        }

  module _ (c : ℕ) (cs : List ℕ) (are : codes_of string ≡ c ∷ cs) (long : 0 < length string) where
    whole-text : bytes_of c ++ text_of cs ≡ string
    unfolding text_of
    whole-text = (rw are at (codes-text string well))

    join-text : produced characters n.normalized wide 0 (replacing 0 c ∷ all_adding (cs ++ (code_at n.normalized 0 ∷ []))) ≡ string ++ take wide n.normalized
    unfolding produced
    join-text =
        rw (
          adding-text n.normalized wide (moved n.normalized wide 0 (replacing 0 c)) (cs ++ (code_at n.normalized 0 ∷ [])),
          text-snoc cs (code_at n.normalized 0),
          first-bytes,
        )
        (sym (append_assoc (bytes_of c) (text_of cs) (take wide n.normalized)) ∙ rw whole-text)

    join-column : (xs : List ℕ) → before_end xs (0 + wide) ≡ get_or xs 0 0 → produced (carried_values xs) n.normalized wide 0 (replacing 0 c ∷ all_adding (cs ++ (code_at n.normalized 0 ∷ []))) ≡ replicate (length string + wide) (front_of string xs)
    unfolding produced carried_value len_utf8 front_of
    join-column xs same =
        let total : length (bytes_of c) + length (text_of cs ++ bytes_of (code_at n.normalized 0)) ≡ length string + wide =
        omega (arith, length-append (text_of cs) (bytes_of (code_at n.normalized 0)), first-wide, length-append (bytes_of c) (text_of cs), ap length whole-text) in
        rw (
          takes n sound 0 begins-here some c wide less,
          adding-column n.normalized wide (0 + wide) xs (cs ++ (code_at n.normalized 0 ∷ [])),
          text-snoc cs (code_at n.normalized 0),
          same,
          ne_eqb (length string) 0 (λ z. absurd (omega arith)),
        )
        (sym (replicate-add (length (bytes_of c)) (length (text_of cs ++ bytes_of (code_at n.normalized 0))) (get_or xs 0 0)) ∙ rw total)

    join-goal : Goal (replacing 0 c ∷ all_adding (cs ++ (code_at n.normalized 0 ∷ [])))
    unfolding first_position skipped transformed edited relaid starved
    join-goal =
        record {
          lies = lies-here;
          feeds = rw (feeds n sound 0 begins-here some c wide less) (adding-fed n.normalized wide _ (cs ++ (code_at n.normalized 0 ∷ [])));
          leaves = rw (
            join-text,
            join-column n.starts (last-shares n sound 0 begins-here some).0,
            join-column n.ends (last-shares n sound 0 begins-here some).1,
            append_assoc string (take wide n.normalized) (drop wide n.normalized),
            take-append-drop wide n.normalized,
          );
        }

  pub prepend-some : Makes n (prepend_edit n string) (prepended n string)
  prepend-some =
      rw (some-prepend, some-made)
      (le-or-lt (length string) 0
      (λ none.
      let z : string ≡ [] = none_of string (omega arith) in
      let no-codes : codes_of string ≡ [] = ap codes_of z ∙ codes-none in
      rw no-codes (rw (one-adding (code_at n.normalized 0)) at (none-goal z)))
      (λ long.
      let are : codes_of string ≡ code_at string 0 ∷ codes_of (drop (0 + announced (get_or string 0 0)) string) = codes-cons string 0 well (boundary-zero string well) long in
      rw (are, adding-snoc (codes_of (drop (0 + announced (get_or string 0 0)) string)) (code_at n.normalized 0)) (join-goal _ _ are long)))

module _ (n : Note) (string : List ℕ) (sound : Sound n) (none : length n.normalized ≡ 0) where
  none-edit : prepend_edit n string ≡ unchanging
  unfolding prepend_edit
  none-edit = rw (eq-eqb (length n.normalized) 0 none)

  none_made : prepended n string ≡ n
  unfolding prepended
  none_made = rw (eq-eqb (length n.normalized) 0 none)

  unchanging-makes : Makes n unchanging n
  unfolding first_position skipped starved
  unchanging-makes =
      record {
        lies = is-placed n.normalized 0 0 (omega arith) (boundary-zero n.normalized (normalized-formed n sound)) (boundary-zero n.normalized (normalized-formed n sound));
        feeds = refl;
        leaves = unchanged n;
      }

  prepend-none : Makes n (prepend_edit n string) (prepended n string)
  prepend-none = rw (none-edit, none_made) unchanging-makes

pub prepended-closed : PrependedClosed
prepended-closed n string sound well =
    le-or-lt (length n.normalized) 0
    (λ none. prepend-none n string sound (omega arith))
    (λ some. prepend-some n string sound well some)
