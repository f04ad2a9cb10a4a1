-- Laws of `widthless`: what the whole transcript converts to, and the edits of a whole note by it.
use Prim.Native.Nat.{ℕ, zero, suc, ◌+◌, ◌-◌, ◌≤◌, ◌<◌}
use mathlib.Core.Path.{◌≡◌, ◌∙◌, refl, sym}
use mathlib.Core.Bool.{Bool, true, false, not}
use mathlib.Core.List.{List, [], ◌∷◌, ◌++◌, append-nil}
use native.Mathlib.Numerals.{add-one}
use native.Mathlib.Omega.{arith}
use lib.Dec.{eqb}
use lib.ListN.{length, get_or, take, drop, drop_of_length-le, take-append-drop}
use lib.Seq.{take-length, drop-cons, drop-drop}
use borrow.Author.Tests.{le-leb, eq-eqb, ne_eqb, eqb-true, eqb-false, not-false}
use Rattle.std.specs.Prelude.{Result, Ok, Err}
use Rattle.buffers.specs.Splice.{part}
use Rattle.buffers.specs.Same.{same}
use Rattle.buffers.proofs.Cases.{le-or-lt, true-or-false}
use Rattle.buffers.proofs.Same.{same-equal}
use Rattle.buffers.proofs.Splice.{length_part}
use Rattle.utf8.specs.Formed.{continues, boundary}
use Rattle.utf8.proofs.Boundaries.{boundary-at, boundary-zero, boundary-length, boundary-most}
use Rattle.note.specs.declared.Refusal.TheVariants.{Missing}
use Rattle.note.specs.Notes.{Note, start_at, end_at, Sound}
use Rattle.note.proofs.Sound.{length-starts, length-ends, normalized-formed, inside-at, shared_at}
use Rattle.convert.specs.declared.Range.{Range}
use Rattle.convert.specs.Converting.{in_original, in_normalized, to_normalized, converted, as_normalized}
use Rattle.convert.specs.Leading.{leading, First}
use Rattle.convert.proofs.Leading.{leading-most, leading-past, converted-by-leading}
use Rattle.script.specs.declared.Command.{Command}
use Rattle.utf8.specs.Formed.{char_range}
use Rattle.edit_steps.specs.Edits.{starved, produced, Edit, relaid, edited, transformed, unchanging}
use Rattle.transform.specs.Transforming.{edit_of, range_edit}
use Rattle.edits.specs.Whole.{whole_range, clear_edit}
use Rattle.edits.specs.Plain.{Makes, WholePlaced, widthless, head_bytes, HeadWhole, cleared, ClearedClosed}
use Rattle.edits.specs.Laying.{HeadPassed}
use Rattle.note.specs.declared.Refusal.{Refusal}

pub none_of : (xs : List ℕ) → length xs ≡ 0 → xs ≡ []
none_of [] e = refl
none_of (x ∷ xs) e = absurd (omega arith)

pub is-placed : (s : List ℕ) (a b : ℕ) → a ≤ b → boundary s a ≡ true → boundary s b ≡ true → char_range s a b ≡ true
unfolding char_range
is-placed s a b h p q = rw (le-leb a b h, p, q)

pub widthless-most : (starts ends : List ℕ) → widthless starts ends ≤ length starts
unfolding widthless
widthless-most [] ends = omega arith
widthless-most (s ∷ starts) [] = omega arith
widthless-most (s ∷ starts) (e ∷ ends) =
    true-or-false (eqb s e) (λ t. rw t (omega (arith, widthless-most starts ends))) (λ f. rw f (omega arith))

-- the alignments that are counted have no width, and the next one has
widthless-within : (starts ends : List ℕ) (i : ℕ) → i < widthless starts ends → get_or starts i 0 ≡ get_or ends i 0
unfolding widthless
widthless-within [] ends i h = absurd (omega arith)
widthless-within (s ∷ starts) [] i h = absurd (omega arith)
widthless-within (s ∷ starts) (e ∷ ends) zero h =
    true-or-false (eqb s e) (λ t. eqb-true s e t) (λ f. absurd (omega (arith, rw f at h)))
widthless-within (s ∷ starts) (e ∷ ends) (suc i) h =
    true-or-false (eqb s e)
    (λ t. widthless-within starts ends i (omega (arith, rw t at h)))
    (λ f. absurd (omega (arith, rw f at h)))

widthless-past : (starts ends : List ℕ) → length starts ≡ length ends → widthless starts ends < length starts → get_or starts (widthless starts ends) 0 ≡ get_or ends (widthless starts ends) 0 → ⊥
unfolding widthless
widthless-past [] ends same h = absurd (omega arith)
widthless-past (s ∷ starts) [] same h = absurd (omega arith)
widthless-past (s ∷ starts) (e ∷ ends) same h =
    true-or-false (eqb s e)
    (λ t. rw t (widthless-past starts ends (omega arith) (omega (arith, rw t at h))))
    (λ f. rw f (eqb-false s e f))

-- counted from the front on, one by one and in blocks
widthless-cons : (s e : ℕ) (starts ends : List ℕ) → s ≡ e → widthless (s ∷ starts) (e ∷ ends) ≡ suc (widthless starts ends)
unfolding widthless
widthless-cons s e starts ends same = rw (eq-eqb s e same)

widthless-stop : (s e : ℕ) (starts ends : List ℕ) → (s ≡ e → ⊥) → widthless (s ∷ starts) (e ∷ ends) ≡ 0
unfolding widthless
widthless-stop s e starts ends differ = rw (ne_eqb s e differ)

none_left : (ends : List ℕ) → widthless [] ends ≡ 0
unfolding widthless
none_left ends = refl

widthless-both : (a x y : List ℕ) → widthless (a ++ x) (a ++ y) ≡ length a + widthless x y
widthless-both [] x y = omega arith
widthless-both (s ∷ a) x y = widthless-cons s s (a ++ x) (a ++ y) refl ∙ rw (widthless-both a x y) (omega arith)

widthless-append : (a b x y : List ℕ) → a ≡ b → widthless (a ++ x) (b ++ y) ≡ length a + widthless x y
widthless-append a b x y e = rw (← e) (widthless-both a x y)

block-cut : (xs : List ℕ) (i : ℕ) → part xs i (i + 64) ++ drop (i + 64) xs ≡ drop i xs
block-cut xs i = let z : i + 64 - i ≡ 64 = omega arith in rw (z, ← drop-drop 64 i xs) (take-append-drop 64 (drop i xs))

module _ {starts ends : List ℕ} {i : ℕ} (k : HeadPassed starts ends i) (even : length starts ≡ length ends) where
  pub one-passed : i < length starts → get_or starts i 0 ≡ get_or ends i 0 → HeadPassed starts ends (i + 1)
  one-passed h is =
      let here : widthless (drop i starts) (drop i ends) ≡ suc (widthless (drop (i + 1) starts) (drop (i + 1) ends)) = rw (drop-cons starts i 0 h, drop-cons ends i 0 (omega arith), add-one i) (widthless-cons (get_or starts i 0) (get_or ends i 0) (drop (suc i) starts) (drop (suc i) ends) is) in
      record { most = omega arith; same = omega (arith, k.same, here) }

  pub block-passed : {t : Bool} → i + 64 ≤ length starts → t ≡ same (part starts i (i + 64)) (part ends i (i + 64)) → not t ≡ false → HeadPassed starts ends (i + 64)
  block-passed {t} h is fine =
      let alike : part starts i (i + 64) ≡ part ends i (i + 64) = same-equal _ _ (sym is ∙ not-false t fine) in
      let long : length (part starts i (i + 64)) ≡ i + 64 - i = length_part starts i (i + 64) h in
      let cut = rw (block-cut starts i, block-cut ends i) at (widthless-append (part starts i (i + 64)) (part ends i (i + 64)) (drop (i + 64) starts) (drop (i + 64) ends) alike) in
      let here : widthless (drop i starts) (drop i ends) ≡ 64 + widthless (drop (i + 64) starts) (drop (i + 64) ends) = omega (arith, cut, long) in
      record { most = omega arith; same = omega (arith, k.same, here) }

  pub stop-passed : i < length starts → (get_or starts i 0 ≡ get_or ends i 0 → ⊥) → i ≡ widthless starts ends
  stop-passed h differ =
      let here : widthless (drop i starts) (drop i ends) ≡ 0 = rw (drop-cons starts i 0 h, drop-cons ends i 0 (omega arith)) (widthless-stop (get_or starts i 0) (get_or ends i 0) (drop (suc i) starts) (drop (suc i) ends) differ) in
      omega (arith, k.same, here)

  pub all-passed : length starts ≤ i → i ≡ widthless starts ends
  all-passed past =
      let here : widthless (drop i starts) (drop i ends) ≡ 0 = rw (drop_of_length-le starts past) (none_left (drop i ends)) in
      omega (arith, k.same, here)

module _ (n : Note) (sound : Sound n) where
  abbrev N : ℕ
  N = length n.normalized

  abbrev H : ℕ
  H = widthless n.starts n.ends

  pub head-most : H ≤ N
  head-most = omega (arith, widthless-most n.starts n.ends, length-starts n sound)

  -- a byte that continues a character has the width of the byte before it
  head-begins : (h : ℕ) → h ≡ H → h < N → boundary n.normalized h ≡ true
  head-begins zero is more = boundary-zero n.normalized (normalized-formed n sound)
  head-begins (suc i) is more =
      boundary-at n.normalized (suc i) (omega arith)
      (true-or-false (continues (get_or n.normalized (suc i) 0))
      (λ goes.
      let same = shared_at n sound i more goes in
      let none : start_at n i ≡ end_at n i = widthless-within n.starts n.ends i (omega arith) in
      let wide : start_at n (suc i) ≡ end_at n (suc i) → ⊥ = rw (← is) at (widthless-past n.starts n.ends (length-starts n sound ∙ sym (length-ends n sound)) (omega (arith, length-starts n sound))) in
      absurd (wide (sym same.0 ∙ none ∙ same.1)))
      (λ new. new))

  pub head-stands : boundary n.normalized H ≡ true
  head-stands =
      le-or-lt N H
      (λ all. let end : H ≡ N = omega (arith, head-most) in rw end (boundary-length n.normalized))
      (λ more. head-begins H refl more)

  -- every alignment ends inside the transcript
  all-lead : leading n.ends (length n.original) ≡ N
  all-lead =
      le-or-lt N (leading n.ends (length n.original))
      (λ all. omega (arith, leading-most n.ends (length n.original), length-ends n sound))
      (λ less.
      absurd (omega (arith, leading-past n.ends (length n.original) (omega (arith, length-ends n sound)), (inside-at n sound (leading n.ends (length n.original)) less).1)))

  -- no transcript: no alignment has width
  none-wide : length n.original ≡ 0 → H ≡ N
  none-wide none =
      le-or-lt N H
      (λ all. omega (arith, head-most))
      (λ more.
      let inside = inside-at n sound H more in
      let same : start_at n H ≡ end_at n H = omega (arith, inside.0, inside.1) in
      absurd (widthless-past n.starts n.ends (length-starts n sound ∙ sym (length-ends n sound)) (omega (arith, length-starts n sound)) same))

  head_first : H < N → First n.starts n.ends 0 N H
  head_first more =
      record {
        below = more;
        qualifies = (omega arith, widthless-past n.starts n.ends (length-starts n sound ∙ sym (length-ends n sound)) (omega (arith, length-starts n sound)));
        none_before = λ j less q. q.1 (widthless-within n.starts n.ends j less);
      }

  -- what the whole transcript converts to: nothing where there is no cleaned text; its beginning where there is no
  -- transcript; else all after the head
  whole-converted : (P : Result Range Refusal → Type 0) → P (Ok (in_normalized H N)) → (H ≡ N → P (Ok (in_normalized 0 0))) → (N ≡ 0 → P (Err Missing)) → P (converted n.starts n.ends (in_original 0 (length n.original)))
  unfolding converted to_normalized
  whole-converted P behind start nothing =
      le-or-lt (length n.original) 0
      (λ none.
      let z : length n.original ≡ 0 = omega arith in
      rw (eq-eqb 0 (length n.original) (sym z), z) (start (none-wide z)))
      (λ some.
      let by = rw all-lead at (converted-by-leading n.starts n.ends 0 (length n.original) (length-starts n sound ∙ sym (length-ends n sound)) some) in
      le-or-lt N 0
      (λ empty. let z : N ≡ 0 = omega arith in rw (by.none_leads z) (nothing z))
      (λ text.
      le-or-lt N H
      (λ all.
      let end : H ≡ N = omega (arith, head-most) in
      rw (by.no_first text (λ i less q. q.1 (widthless-within n.starts n.ends i (omega arith)))) (rw end at behind))
      (λ more. rw (by.from_first H (head_first more)) behind)))

  -- so an edit of the whole transcript is one of these
  whole-cases : (skip : ℕ) (cs : List Command) (P : Edit → Type 0) → P (record { from = H; to = N; skip = skip; commands = cs }) → (H ≡ N → P (record { from = 0; to = 0; skip = skip; commands = cs })) → (N ≡ 0 → P unchanging) → P (range_edit n (whole_range n) skip cs)
  unfolding as_normalized
  whole-cases skip cs P behind start nothing = whole-converted (λ x. P (edit_of x skip cs)) behind start nothing

  pub zero-placed : char_range n.normalized 0 0 ≡ true
  zero-placed =
      let here = boundary-zero n.normalized (normalized-formed n sound) in
      is-placed n.normalized 0 0 (omega arith) here here

-- A RANGE WHOSE EDIT IS ONE OF ALL BEHIND A HEAD of h bytes, which ends between two characters
pub record Behind (n : Note) (range : Range) (h : ℕ) : Type 1 where
  pub stands : boundary n.normalized h ≡ true
  pub cases : (skip : ℕ) (cs : List Command) (P : Edit → Type 0)
      → P (record { from = h; to = length n.normalized; skip = skip; commands = cs })
      → (h ≡ length n.normalized → P (record { from = 0; to = 0; skip = skip; commands = cs }))
      → (length n.normalized ≡ 0 → P unchanging)
      → P (range_edit n range skip cs)

pub whole-behind : (n : Note) → Sound n → Behind n (whole_range n) (head_bytes n)
whole-behind n sound = record { stands = head-stands n sound; cases = whole-cases n sound }

module _ (n : Note) (sound : Sound n) {range : Range} {h : ℕ} (k : Behind n range h) where
  pub behind-most : h ≤ length n.normalized
  behind-most = boundary-most n.normalized h k.stands

  pub behind-placed : char_range n.normalized h (length n.normalized) ≡ true
  behind-placed = is-placed n.normalized h (length n.normalized) behind-most k.stands (boundary-length n.normalized)

  range-placed : (skip : ℕ) (cs : List Command) → char_range n.normalized (range_edit n range skip cs).from (range_edit n range skip cs).to ≡ true
  range-placed skip cs =
      k.cases skip cs (λ e. char_range n.normalized e.from e.to ≡ true) behind-placed (λ _. zero-placed n sound) (λ _. zero-placed n sound)

  -- CLEAR
  all-column : (xs : List ℕ) → length xs ≡ length n.normalized → take (length n.normalized) xs ≡ xs
  all-column xs long = rw (← long) (take-length xs)

  kept-column : (xs : List ℕ) → length xs ≡ length n.normalized → take h xs ++ drop (length n.normalized) xs ≡ take h xs
  kept-column xs long =
      let past : length xs ≤ length n.normalized = omega arith in
      rw (drop_of_length-le xs past) (append-nil (take h xs))

  -- where all of the text is head, nothing is taken away
  pub head-is-all : h ≡ length n.normalized → cleared h n ≡ n
  unfolding cleared
  head-is-all all =
      rw (all, all-column n.normalized refl, all-column n.starts (length-starts n sound), all-column n.ends (length-ends n sound))

  behind-cleared : (skip : ℕ) → Makes n (record { from = h; to = length n.normalized; skip = skip; commands = [] }) (cleared h n)
  unfolding cleared transformed edited relaid produced starved
  behind-cleared skip =
      record {
        lies = behind-placed;
        feeds = refl;
        leaves = rw (kept-column n.normalized refl, kept-column n.starts (length-starts n sound), kept-column n.ends (length-ends n sound));
      }

  start-cleared : (skip : ℕ) → h ≡ length n.normalized → Makes n (record { from = 0; to = 0; skip = skip; commands = [] }) (cleared h n)
  unfolding transformed edited relaid produced starved
  start-cleared skip all = record { lies = zero-placed n sound; feeds = refl; leaves = sym (head-is-all all) }

  cleared-behind : (skip : ℕ) → Makes n (range_edit n range skip []) (cleared h n)
  cleared-behind skip =
      k.cases skip [] (λ e. Makes n e (cleared h n)) (behind-cleared skip) (start-cleared skip)
      (λ none. start-cleared 0 (omega (arith, behind-most)))

pub whole-placed : WholePlaced
whole-placed n skip cs sound = range-placed n sound (whole-behind n sound) skip cs

pub head-whole : HeadWhole
head-whole n sound = head-stands n sound

pub cleared-closed : ClearedClosed
unfolding clear_edit
cleared-closed n sound = cleared-behind n sound (whole-behind n sound) (length n.normalized)
