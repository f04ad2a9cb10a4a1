-- `map` and `filter` by their commands are what their plain words say: flag by flag, a code point and a character of the
-- range go by.
use Prim.Native.Nat.{ℕ, zero, suc, ◌+◌, ◌-◌, ◌≤◌, ◌<◌}
use mathlib.Core.Path.{◌≡◌, ◌∙◌, ap, refl, sym}
use mathlib.Core.Bool.{true, false, cond}
use mathlib.Core.List.{List, [], ◌∷◌, ◌++◌, append-nil}
use native.Mathlib.Omega.{arith}
use lib.Dec.{ltb, eqb}
use lib.ListN.{length, get_or, take, drop, replicate, drop_of_length-le, length-replicate, take-append-drop}
use lib.Seq.{length-take-le}
use borrow.Author.Tests.{le-leb, lt-leb, lt-ltb, le-ltb, ltb-false}
use Rattle.buffers.proofs.Cases.{le-or-lt, true-or-false, clash}
use Rattle.buffers.proofs.Splice.{length_part}
use Rattle.utf8.specs.Formed.{announced, well_formed, boundary}
use Rattle.utf8.specs.Scalar.{bytes_of}
use Rattle.utf8.specs.Chars.{chars_from, chars, leads}
use Rattle.utf8.proofs.Boundaries.{char-at, boundary-zero, boundary-length, formed-take}
use Rattle.utf8.proofs.Chars.{chars-leads, leads-append, leads-le-length}
use Rattle.note.specs.Notes.{Note, Sound}
use Rattle.note.proofs.Sound.{length-starts, length-ends, normalized-formed}
use Rattle.script.specs.declared.Command.{Command}
use Rattle.utf8.specs.Scalar.{len_utf8}
use Rattle.edit_steps.specs.Edits.{skipped, starves, moved, starved, carried_value, characters, carried_values, produced, first_position, relaid, edited, transformed, unchanging}
use Rattle.edit_steps.specs.Walking.{Standing}
use Rattle.edit_steps.proofs.Positions.{standing-next, skipped-none, skipped-past, skipped-on, starves-replacing, moved-replacing}
use Rattle.convert.specs.declared.Range.{Range}
use Rattle.transform.specs.Transforming.{range_edit}
use Rattle.edits.specs.Characters.{code_at, codes_from, codes_of}
use Rattle.code_point_blocks.specs.Codes.{text_of}
use Rattle.map_columns.specs.Spreading.{of_chars, spread}
use Rattle.map_columns.proofs.Chars.{chars-drop, length-chars, of-chars-at, leads-at}
use Rattle.map_columns.proofs.Spread.{spread-on}
use Rattle.edits.specs.Whole.{replacing, all_replacing, map_edit, dropped_ahead, any_kept, kept_commands, filter_edit}
use Rattle.edits.specs.Plain.{MakesUnless, head_chars, mapped, MappedClosed, sifted, cleared, sieved, tail_kept, FilteredClosed}
use Rattle.edits.proofs.Characters.{code-bytes}
use Rattle.edits.proofs.Head.{none_of, Behind, whole-behind, behind-most, behind-placed, head-is-all, zero-placed}

-- characters skipped one by one
pub skipped-suc : (s : List ℕ) (b d p : ℕ) → skipped s b (suc d) p ≡ skipped s b d (skipped s b 1 p)
skipped-suc s b d p =
    le-or-lt b p
    (λ past. skipped-past s b (suc d) p past ∙ sym (rw (skipped-past s b 1 p past) (skipped-past s b d p past)))
    (λ more. skipped-on s b d p more ∙ sym (rw (skipped-on s b 0 p more, skipped-none s b (p + announced (get_or s p 0)))))

-- the commands of code points and flags
drops-command : (c k : ℕ) (cs ks : List ℕ) → eqb k 0 ≡ true → kept_commands (c ∷ cs) (k ∷ ks) ≡ kept_commands cs ks
unfolding kept_commands
drops-command c k cs ks e = rw e

keeps-command : (c k : ℕ) (cs ks : List ℕ) → eqb k 0 ≡ false → kept_commands (c ∷ cs) (k ∷ ks) ≡ replacing (dropped_ahead ks) c ∷ kept_commands cs ks
unfolding kept_commands
keeps-command c k cs ks e = rw e

-- what they give to the text, wherever they stand
pub given-sifted : (s : List ℕ) (b p : ℕ) (cs ks : List ℕ) → produced characters s b p (kept_commands cs ks) ≡ text_of (sifted ks cs)
unfolding kept_commands produced sifted text_of
given-sifted s b p [] [] = refl
given-sifted s b p [] (k ∷ ks) = refl
given-sifted s b p (c ∷ cs) [] = refl
given-sifted s b p (c ∷ cs) (k ∷ ks) =
    true-or-false (eqb k 0)
    (λ drops. rw drops (given-sifted s b p cs ks))
    (λ keeps. rw keeps (ap (◌++◌ (bytes_of c)) (given-sifted s b (moved s b p (replacing (dropped_ahead ks) c)) cs ks)))

-- past the range's end each command starves
starved-past : (s : List ℕ) (b p : ℕ) (cs ks : List ℕ) → b ≤ p → length cs ≡ length ks → starved s b p (kept_commands cs ks) ≡ any_kept ks
unfolding kept_commands starved any_kept starves
starved-past s b p [] [] past same = refl
starved-past s b p [] (k ∷ ks) past same = absurd (omega arith)
starved-past s b p (c ∷ cs) [] past same = absurd (omega arith)
starved-past s b p (c ∷ cs) (k ∷ ks) past same =
    true-or-false (eqb k 0)
    (λ drops. rw drops (starved-past s b p cs ks past (omega arith)))
    (λ keeps. rw (keeps, le-leb b p past))

pub sifts-out : (k x : ℕ) (xs ks : List ℕ) → eqb k 0 ≡ true → sifted (k ∷ ks) (x ∷ xs) ≡ sifted ks xs
unfolding sifted
sifts-out k x xs ks e = rw e

pub sifts-in : (k x : ℕ) (xs ks : List ℕ) → eqb k 0 ≡ false → sifted (k ∷ ks) (x ∷ xs) ≡ x ∷ sifted ks xs
unfolding sifted
sifts-in k x xs ks e = rw e

-- where nothing is kept
pub none-sifted : (ks xs : List ℕ) → any_kept ks ≡ false → sifted ks xs ≡ []
unfolding any_kept sifted
none-sifted [] xs e = refl
none-sifted (k ∷ ks) [] e = refl
none-sifted (k ∷ ks) (x ∷ xs) e =
    true-or-false (eqb k 0)
    (λ drops. rw drops (none-sifted ks xs (rw drops at e)))
    (λ keeps. clash true refl (rw keeps at e))

pub none-commands : (cs ks : List ℕ) → any_kept ks ≡ false → kept_commands cs ks ≡ []
unfolding any_kept kept_commands
none-commands [] ks e = refl
none-commands (c ∷ cs) [] e = refl
none-commands (c ∷ cs) (k ∷ ks) e =
    true-or-false (eqb k 0)
    (λ drops. rw drops (none-commands cs ks (rw drops at e)))
    (λ keeps. clash true refl (rw keeps at e))

module _ (s : List ℕ) where
  abbrev end : ℕ
  end = length s

  -- where the next command is
  abbrev next : List ℕ → ℕ → ℕ
  next ks p = skipped s (length s) (dropped_ahead ks) p

  next-dropped : (k : ℕ) (ks : List ℕ) (p : ℕ) → eqb k 0 ≡ true → next (k ∷ ks) p ≡ next ks (skipped s end 1 p)
  unfolding dropped_ahead
  next-dropped k ks p e = rw e (skipped-suc s end (dropped_ahead ks) p)

  next-kept : (k : ℕ) (ks : List ℕ) (p : ℕ) → eqb k 0 ≡ false → next (k ∷ ks) p ≡ p
  unfolding dropped_ahead
  next-kept k ks p e = rw e (skipped-none s end p)

  after_kept : (c : ℕ) (ks : List ℕ) (p : ℕ) → moved s end p (replacing (dropped_ahead ks) c) ≡ next ks (skipped s end 1 p)
  after_kept c ks p = moved-replacing s end p (replacing (dropped_ahead ks) c) refl ∙ skipped-suc s end (dropped_ahead ks) p

  one_on : (p : ℕ) → p < end → skipped s end 1 p ≡ p + announced (get_or s p 0)
  one_on p more = skipped-on s end 0 p more ∙ skipped-none s end (p + announced (get_or s p 0))

  starved-cons : (p : ℕ) (c : Command) (cs : List Command) → c.added ≡ false → p < end → starved s end p (c ∷ cs) ≡ starved s end (moved s end p c) cs
  unfolding starved
  starved-cons p c cs replaces more = rw (starves-replacing end p c replaces, lt-leb end p more)

  pub no-leads : (p : ℕ) → end ≤ p → leads (drop p s) ≡ 0
  unfolding leads
  no-leads p past = rw (drop_of_length-le s past)

  no-command : (p : ℕ) → starved s end (next [] p) (kept_commands [] []) ≡ any_kept (drop (leads (drop p s)) [])
  unfolding starved kept_commands any_kept
  no-command p = let past : length {A = ℕ} [] ≤ leads (drop p s) = omega arith in rw (drop_of_length-le [] past)

  -- a command starves where its character is past those that the range has left
  pub starved-sifted : (cs ks : List ℕ) (p : ℕ) → Standing s end p → length cs ≡ length ks → starved s end (next ks p) (kept_commands cs ks) ≡ any_kept (drop (leads (drop p s)) ks)
  starved-sifted [] [] p at same = no-command p
  starved-sifted [] (k ∷ ks) p at same = absurd (omega arith)
  starved-sifted (c ∷ cs) [] p at same = absurd (omega arith)
  starved-sifted (c ∷ cs) (k ∷ ks) p at same =
      le-or-lt end p
      (λ past. rw (skipped-past s end (dropped_ahead (k ∷ ks)) p past, no-leads p past) (starved-past s end p (c ∷ cs) (k ∷ ks) past same))
      (λ more.
      let rest : starved s end (next ks (p + announced (get_or s p 0))) (kept_commands cs ks) ≡ any_kept (drop (leads (drop (p + announced (get_or s p 0)) s)) ks) = starved-sifted cs ks (p + announced (get_or s p 0)) (standing-next at more) (omega arith) in
      rw (leads-at s s refl p at.formed at.stands more)
      (true-or-false (eqb k 0)
      (λ drops. rw (drops-command c k cs ks drops, next-dropped k ks p drops, one_on p more) rest)
      (λ keeps. rw (keeps-command c k cs ks keeps, next-kept k ks p keeps) (starved-cons p (replacing (dropped_ahead ks) c) (kept_commands cs ks) refl more ∙ rw (after_kept c ks p, one_on p more) rest))))

  module _ (xs : List ℕ) (long : length xs ≡ length s) where
    given-cons : (p c r : ℕ) (cs : List Command) → produced (carried_values xs) s end p (replacing r c ∷ cs) ≡ replicate (len_utf8 c) (get_or xs p 0) ++ produced (carried_values xs) s end (moved s end p (replacing r c)) cs
    unfolding produced carried_value
    given-cons p c r cs = refl

    nothing : (p : ℕ) (ys : List ℕ) → produced (carried_values xs) s end p [] ≡ spread [] ys
    unfolding produced spread
    nothing p ys = refl

    no-given : (p : ℕ) → produced (carried_values xs) s end (next [] p) (kept_commands [] []) ≡ spread (sifted [] []) (sifted [] (of_chars (drop p s) (drop p xs)))
    unfolding produced spread sifted kept_commands
    no-given p = refl

    -- and none does: each carries what the column has for its character
    pub column-sifted : (cs ks : List ℕ) (p : ℕ) → Standing s end p → length cs ≡ length ks → any_kept (drop (leads (drop p s)) ks) ≡ false → produced (carried_values xs) s end (next ks p) (kept_commands cs ks) ≡ spread (sifted ks cs) (sifted ks (of_chars (drop p s) (drop p xs)))
    column-sifted [] [] p at same fed = no-given p
    column-sifted [] (k ∷ ks) p at same fed = absurd (omega arith)
    column-sifted (c ∷ cs) [] p at same fed = absurd (omega arith)
    column-sifted (c ∷ cs) (k ∷ ks) p at same fed =
        le-or-lt end p
        (λ past.
        let none : any_kept (k ∷ ks) ≡ false = rw (no-leads p past) at fed in
        rw (none-sifted (k ∷ ks) (c ∷ cs) none, none-commands (c ∷ cs) (k ∷ ks) none) (nothing (next (k ∷ ks) p) (sifted (k ∷ ks) (of_chars (drop p s) (drop p xs)))))
        (λ more.
        let q : ℕ = p + announced (get_or s p 0) in
        let rest : produced (carried_values xs) s end (next ks q) (kept_commands cs ks) ≡ spread (sifted ks cs) (sifted ks (of_chars (drop q s) (drop q xs))) = column-sifted cs ks q (standing-next at more) (omega arith) (rw (leads-at s s refl p at.formed at.stands more) at fed) in
        rw (of-chars-at s xs long p at.formed at.stands more)
        (true-or-false (eqb k 0)
        (λ drops. rw (drops-command c k cs ks drops, next-dropped k ks p drops, one_on p more, sifts-out k c cs ks drops, sifts-out k (get_or xs p 0) (of_chars (drop q s) (drop q xs)) ks drops) rest)
        (λ keeps.
        rw (
          keeps-command c k cs ks keeps,
          next-kept k ks p keeps,
          sifts-in k c cs ks keeps,
          sifts-in k (get_or xs p 0) (of_chars (drop q s) (drop q xs)) ks keeps,
          given-cons p c (dropped_ahead ks) (kept_commands cs ks),
          after_kept c ks p,
          one_on p more,
        )
        (spread-on c (get_or xs p 0) (sifted ks cs) (sifted ks (of_chars (drop q s) (drop q xs))) rest))))

-- ALL BEHIND A HEAD, by code points and flags, one for each character
module _ (n : Note) (sound : Sound n) {range : Range} {h : ℕ} (k : Behind n range h) (codes flags : List ℕ) (coded : length codes ≡ length flags) (flagged : length flags ≡ chars n.normalized) where
  abbrev skips : ℕ
  skips = cond (any_kept flags) (dropped_ahead flags) 0

  head-leads : head_chars h n ≡ leads (take h n.normalized)
  unfolding head_chars
  head-leads = chars-leads _ (formed-take n.normalized h (normalized-formed n sound) k.stands)

  split-chars : chars n.normalized ≡ head_chars h n + leads (drop h n.normalized)
  split-chars =
      chars-leads n.normalized (normalized-formed n sound) ∙ ap leads (sym (take-append-drop h n.normalized))
      ∙ leads-append (take h n.normalized) (drop h n.normalized)
      ∙ ap (λ (k : ℕ). k + leads (drop h n.normalized)) (sym head-leads)

  tail-is : tail_kept h n flags ≡ any_kept (drop (leads (drop h n.normalized)) flags)
  unfolding tail_kept
  tail-is =
      let left : chars n.normalized - head_chars h n ≡ leads (drop h n.normalized) = omega (arith, split-chars) in
      rw left

  head-standing : Standing n.normalized (length n.normalized) h
  head-standing =
      record {
        formed = normalized-formed n sound;
        ends = boundary-length n.normalized;
        stands = k.stands;
        most = behind-most n sound k;
      }

  -- where nothing is kept, it is the same where the commands begin
  abbrev begun : ℕ → ℕ
  begun b = skipped n.normalized b skips h

  begun-starved : starved n.normalized (length n.normalized) (begun (length n.normalized)) (kept_commands codes flags) ≡ starved n.normalized (length n.normalized) (next n.normalized flags h) (kept_commands codes flags)
  unfolding starved
  begun-starved = true-or-false (any_kept flags) (λ t. rw t) (λ u. rw (none-commands codes flags u))

  begun-given : (piece : ℕ → Command → List ℕ) → produced piece n.normalized (length n.normalized) (begun (length n.normalized)) (kept_commands codes flags) ≡ produced piece n.normalized (length n.normalized) (next n.normalized flags h) (kept_commands codes flags)
  unfolding produced
  begun-given piece = true-or-false (any_kept flags) (λ t. rw t) (λ u. rw (none-commands codes flags u))

  -- nothing kept: the head alone
  sieved-none : sifted flags codes ≡ [] → sieved h n codes flags ≡ cleared h n
  unfolding sieved cleared text_of spread
  sieved-none none =
      rw (none, append-nil (take h n.normalized), append-nil (take h n.starts), append-nil (take h n.ends))

  column : (xs : List ℕ) → length xs ≡ length n.normalized → tail_kept h n flags ≡ false
      → take h xs ++ (produced (carried_values xs) n.normalized (length n.normalized) (begun (length n.normalized)) (kept_commands codes flags) ++ drop (length n.normalized) xs) ≡ take h xs ++ spread (sifted flags codes) (sifted flags (drop (head_chars h n) (of_chars n.normalized xs)))
  column xs long fed =
      let past : length xs ≤ length n.normalized = omega arith in
      rw (
        drop_of_length-le xs past,
        begun-given (carried_values xs),
        column-sifted n.normalized xs long codes flags h head-standing coded (sym tail-is ∙ fed),
        append-nil (spread (sifted flags codes) (sifted flags (of_chars (drop h n.normalized) (drop h xs)))),
        chars-drop h n.normalized xs long,
        ← head-leads,
      )

  all-sieved : MakesUnless n (record { from = h; to = length n.normalized; skip = skips; commands = kept_commands codes flags }) (tail_kept h n flags) (sieved h n codes flags)
  unfolding transformed edited relaid first_position sieved
  all-sieved =
      let past : length n.normalized ≤ length n.normalized = omega arith in
      record {
        lies = behind-placed n sound k;
        exhausts = begun-starved ∙ starved-sifted n.normalized codes flags h head-standing coded ∙ sym tail-is;
        leaves = λ fed. rw (
          drop_of_length-le n.normalized past,
          begun-given characters,
          given-sifted n.normalized (length n.normalized) (next n.normalized flags h) codes flags,
          append-nil (text_of (sifted flags codes)),
          column n.starts (length-starts n sound) fed,
          column n.ends (length-ends n sound) fed,
        );
      }

  no-edit : (skip : ℕ) → transformed n (record { from = 0; to = 0; skip = skip; commands = [] }) ≡ n
  unfolding transformed edited relaid produced
  no-edit skip = refl

  start-sieved : h ≡ length n.normalized → MakesUnless n (record { from = 0; to = 0; skip = skips; commands = kept_commands codes flags }) (tail_kept h n flags) (sieved h n codes flags)
  unfolding first_position
  start-sieved all =
      let far : length n.normalized ≤ h = omega arith in
      let is : tail_kept h n flags ≡ any_kept flags = tail-is ∙ rw (no-leads n.normalized h far) in
      record {
        lies = zero-placed n sound;
        exhausts = rw (skipped-past n.normalized 0 skips 0 (omega arith)) (starved-past n.normalized 0 0 codes flags (omega arith) coded) ∙ sym is;
        leaves = λ fed.
            let none : any_kept flags ≡ false = sym is ∙ fed in
            rw (none-commands codes flags none) (no-edit skips ∙ sym (sieved-none (none-sifted flags codes none) ∙ head-is-all n sound k all));
      }

  nothing-sieved : length n.normalized ≡ 0 → MakesUnless n unchanging (tail_kept h n flags) (sieved h n codes flags)
  unfolding starved any_kept
  nothing-sieved none =
      let empty : flags ≡ [] = none_of flags (flagged ∙ omega (arith, chars-leads n.normalized (normalized-formed n sound), leads-le-length n.normalized)) in
      let past : length flags ≤ leads (drop h n.normalized) = rw empty (omega arith) in
      let unkept : any_kept flags ≡ false = rw empty in
      record {
        lies = zero-placed n sound;
        exhausts = sym (tail-is ∙ rw (drop_of_length-le flags past));
        leaves = λ _. no-edit 0 ∙ sym (sieved-none (none-sifted flags codes unkept) ∙ head-is-all n sound k (omega (arith, behind-most n sound k)));
      }

  pub sieved-behind : MakesUnless n (range_edit n range skips (kept_commands codes flags)) (tail_kept h n flags) (sieved h n codes flags)
  sieved-behind =
      k.cases skips (kept_commands codes flags) (λ e. MakesUnless n e (tail_kept h n flags) (sieved h n codes flags))
      all-sieved start-sieved nothing-sieved

-- FILTER
-- a code point's width
pub code-size : (s : List ℕ) (q : ℕ) → well_formed s ≡ true → boundary s q ≡ true → q < length s → len_utf8 (code_at s q) ≡ announced (get_or s q 0)
unfolding len_utf8
code-size s q w e h =
    let here = char-at s q w e h in
    ap length (code-bytes s q w e h) ∙ (length_part s q (q + announced (get_or s q 0)) here.inside ∙ omega arith)

length-codes : (k : ℕ) (s : List ℕ) → length (codes_from k s) ≡ chars_from k s
unfolding codes_from chars_from
length-codes k [] = refl
length-codes zero (b ∷ s) = ap suc (length-codes (announced b - 1) s)
length-codes (suc k) (b ∷ s) = length-codes k s

pub codes-chars : (s : List ℕ) → length (codes_of s) ≡ chars s
unfolding codes_of chars
codes-chars s = length-codes 0 s

pub filtered-closed : FilteredClosed
unfolding filter_edit
filtered-closed n flags sound flagged =
    sieved-behind n sound (whole-behind n sound) (codes_of n.normalized) flags (codes-chars n.normalized ∙ sym flagged) flagged

-- MAP: each flag keeps
abbrev ones : ℕ → List ℕ
ones m = replicate m 1

none_dropped : (m : ℕ) → dropped_ahead (ones m) ≡ 0
unfolding dropped_ahead
none_dropped zero = refl
none_dropped (suc m) = refl

all-commands : (cs : List ℕ) → kept_commands cs (ones (length cs)) ≡ all_replacing cs
unfolding kept_commands all_replacing
all-commands [] = refl
all-commands (c ∷ cs) = rw (none_dropped (length cs)) (ap (◌∷◌ (replacing 0 c)) (all-commands cs))

any-ones : (m : ℕ) → any_kept (ones m) ≡ ltb 0 m
unfolding any_kept
any-ones zero = refl
any-ones (suc m) = sym (lt-ltb 0 (suc m) (omega arith))

drop-ones : (k m : ℕ) → drop k (ones m) ≡ ones (m - k)
drop-ones zero m = let z : m - 0 ≡ m = omega arith in rw z
drop-ones (suc k) zero = let z : 0 - suc k ≡ 0 = omega arith in rw z
drop-ones (suc k) (suc m) = let z : suc m - suc k ≡ m - k = omega arith in rw z (drop-ones k m)

all-sifted : (m : ℕ) (xs : List ℕ) → length xs ≤ m → sifted (ones m) xs ≡ xs
unfolding sifted
all-sifted zero xs h = sym (none_of xs (omega arith))
all-sifted (suc m) [] h = refl
all-sifted (suc m) (x ∷ xs) h = ap (◌∷◌ x) (all-sifted m xs (omega arith))

module _ (n : Note) (sound : Sound n) {range : Range} {h : ℕ} (k : Behind n range h) (codes : List ℕ) (coded : length codes ≡ chars n.normalized) where
  abbrev flags : List ℕ
  flags = ones (length codes)

  one_each : length codes ≡ length flags
  one_each = sym (length-replicate (length codes) 1)

  closed : MakesUnless n (range_edit n range (cond (any_kept flags) (dropped_ahead flags) 0) (kept_commands codes flags)) (tail_kept h n flags) (sieved h n codes flags)
  closed = sieved-behind n sound k codes flags one_each (sym one_each ∙ coded)

  same-edit : range_edit n range (cond (any_kept flags) (dropped_ahead flags) 0) (kept_commands codes flags) ≡ range_edit n range 0 (all_replacing codes)
  same-edit =
      let none : ◌≡◌ {A = ℕ} (cond (any_kept flags) 0 0) 0 = true-or-false (any_kept flags) (λ t. rw t) (λ u. rw u) in
      rw (none_dropped (length codes), none, all-commands codes)

  same-tail : tail_kept h n flags ≡ ltb 0 (head_chars h n)
  unfolding tail_kept
  same-tail =
      let left : length codes - (chars n.normalized - head_chars h n) ≡ head_chars h n = omega (arith, split-chars n sound k codes flags one_each (sym one_each ∙ coded)) in
      rw (drop-ones (chars n.normalized - head_chars h n) (length codes), left) (any-ones (head_chars h n))

  no-head : ltb 0 (head_chars h n) ≡ false → (head_chars h n ≡ 0) × (h ≡ 0)
  no-head none =
      let charless : head_chars h n ≡ 0 = omega (arith, ltb-false 0 (head_chars h n) none) in (
        charless,
        le-or-lt h 0
            (λ is. omega arith)
            (λ some.
            let formed = formed-take n.normalized h (normalized-formed n sound) k.stands in
            let long : length (take h n.normalized) ≡ h = length-take-le h n.normalized (behind-most n sound k) in
            let first = leads-at (take h n.normalized) (take h n.normalized) refl 0 formed (boundary-zero _ formed) (omega arith) in
            absurd (omega (arith, first, charless, head-leads n sound k codes flags one_each (sym one_each ∙ coded)))),
      )

  -- a head that has bytes has characters
  pub head-told : ltb 0 (head_chars h n) ≡ ltb 0 h
  unfolding head_chars chars_from chars
  head-told =
      true-or-false (ltb 0 (head_chars h n))
      (λ t.
      t ∙ sym (lt-ltb 0 h
      (le-or-lt h 0
      (λ none. let zero : h ≡ 0 = omega arith in let z : ltb 0 (head_chars h n) ≡ false = rw zero in clash (ltb 0 (head_chars h n)) t z)
      (λ some. some))))
      (λ u. u ∙ sym (le-ltb 0 h (omega (arith, (no-head u).1))))

  column-mapped : (xs : List ℕ) → length xs ≡ length n.normalized → sifted flags (of_chars n.normalized xs) ≡ of_chars n.normalized xs
  column-mapped xs long =
      all-sifted (length codes) (of_chars n.normalized xs) (omega (arith, length-chars n.normalized xs long, chars-leads n.normalized (normalized-formed n sound)))

  same-note : ltb 0 (head_chars h n) ≡ false → sieved h n codes flags ≡ mapped n codes
  unfolding sieved mapped
  same-note none =
      let zero = no-head none in
      rw (zero.0, zero.1, all-sifted (length codes) codes (omega arith), column-mapped n.starts (length-starts n sound), column-mapped n.ends (length-ends n sound))

  mapped-behind : MakesUnless n (range_edit n range 0 (all_replacing codes)) (ltb 0 (head_chars h n)) (mapped n codes)
  mapped-behind =
      let made = rw (same-edit, same-tail) at closed in
      record { lies = made.lies; exhausts = made.exhausts; leaves = λ fed. made.leaves fed ∙ same-note fed }

pub mapped-closed : MappedClosed
unfolding map_edit
mapped-closed n codes sound coded = mapped-behind n sound (whole-behind n sound) codes coded
