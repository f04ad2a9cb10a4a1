-- Laws of `seenAfter` and `scanned`: bytes that come in chunks, and what the scan of a whole input says of its runs.
use Prim.Native.Nat.{ℕ, suc, ◌+◌, ◌≤◌, ◌<◌}
use mathlib.Core.Path.{◌≡◌, ◌∙◌, ap, refl, sym}
use mathlib.Core.Bool.{Bool, true, false, cond, ◌&&◌, and-false}
use mathlib.Core.List.{List, [], ◌∷◌}
use native.Mathlib.Nat.{add-zero}
use native.Mathlib.Numerals.{add-one}
use native.Mathlib.Omega.{arith}
use lib.Dec.{leb, eqb}
use lib.ListN.{length, get_or, drop, drop_of_length-le}
use lib.Seq.{drop-cons}
use borrow.Author.Tests.{eqb-true, ne_eqb, le-leb, lt-leb}
use Rattle.buffers.proofs.Cases.{true-or-false}
use Rattle.piece_lines.specs.declared.input.Seen.{Seen}
use Rattle.piece_lines.specs.declared.input.Seen.TheVariants.{Literal, Behavior, Chosen, Note, Whole, Shapeless}
use Rattle.piece_lines.specs.Input.{runs, line_at, literal_of, behavior_line, note_of, choice, shaped}
use Rattle.piece_lines.specs.Scanning.{counted, seen_after, scanned, ScannedOn}
use Rattle.piece_lines.proofs.Runs.{first_run}

pub scanned-on : ScannedOn
unfolding scanned
scanned-on s [] b = refl
scanned-on s (x ∷ a) b = scanned-on (seen_after s x) a b

-- one more byte, by cases of the code
module _ {s : Seen} {n b : ℕ} where
  pub literal-ends : s ≡ Literal n → b ≡ 0x0A → Behavior n ≡ seen_after s b
  unfolding seen_after
  literal-ends is e = rw (is, e)

  pub literal-grows : {k : ℕ} → s ≡ Literal n → (b ≡ 0x0A → ⊥) → k ≡ counted (n + 1) → Literal k ≡ seen_after s b
  unfolding seen_after
  literal-grows is e more = rw (is, ne_eqb b 0x0A e, more)

  pub behavior-low : s ≡ Behavior n → b < 0x31 → Shapeless ≡ seen_after s b
  unfolding seen_after
  behavior-low is h = rw (is, lt-leb 0x31 b h)

  pub behavior-high : s ≡ Behavior n → 0x35 < b → Shapeless ≡ seen_after s b
  unfolding seen_after
  behavior-high is h = rw (is, lt-leb b 0x35 h, and-false (leb 0x31 b))

  pub behavior-chosen : s ≡ Behavior n → 0x31 ≤ b → b ≤ 0x35 → Chosen n b ≡ seen_after s b
  unfolding seen_after
  behavior-chosen is low high = rw (is, le-leb 0x31 b low, le-leb b 0x35 high)

  pub chosen-ends : {d : ℕ} → s ≡ Chosen n d → b ≡ 0x0A → Note n d 0 ≡ seen_after s b
  unfolding seen_after
  chosen-ends is e = rw (is, e)

  pub chosen-longer : {d : ℕ} → s ≡ Chosen n d → (b ≡ 0x0A → ⊥) → Shapeless ≡ seen_after s b
  unfolding seen_after
  chosen-longer is e = rw (is, ne_eqb b 0x0A e)

  pub note-ends : {d m : ℕ} → s ≡ Note n d m → b ≡ 0x0A → Whole n d m ≡ seen_after s b
  unfolding seen_after
  note-ends is e = rw (is, e)

  pub note-grows : {d m k : ℕ} → s ≡ Note n d m → (b ≡ 0x0A → ⊥) → k ≡ counted (m + 1) → Note n d k ≡ seen_after s b
  unfolding seen_after
  note-grows is e more = rw (is, ne_eqb b 0x0A e, more)

pub whole-longer : {s : Seen} {n d m : ℕ} (b : ℕ) → s ≡ Whole n d m → Shapeless ≡ seen_after s b
unfolding seen_after
whole-longer b is = rw is

pub shapeless-longer : {s : Seen} (b : ℕ) → s ≡ Shapeless → Shapeless ≡ seen_after s b
unfolding seen_after
shapeless-longer b is = rw is

-- the bytes of a slice, from the first: none yet, one more, all
pub record Scanning (s₀ : Seen) (bytes : List ℕ) (s : Seen) (i : ℕ) : Type 0 where
  pub inside : i ≤ length bytes
  pub rest : scanned s (drop i bytes) ≡ scanned s₀ bytes

pub none-scanned : {s : Seen} {bytes : List ℕ} → Scanning s bytes s 0
none-scanned = record { inside = omega arith; rest = refl }

module _ {s₀ s : Seen} {bytes : List ℕ} {i : ℕ} (w : Scanning s₀ bytes s i) where
  pub one-scanned : {s₁ : Seen} → i < length bytes → s₁ ≡ seen_after s (get_or bytes i 0) → Scanning s₀ bytes s₁ (i + 1)
  unfolding scanned
  one-scanned h is =
      record { inside = omega arith; rest = rw (is, add-one i) (rw (drop-cons bytes i 0 h) at w.rest) }

  pub all-scanned : length bytes ≤ i → s ≡ scanned s₀ bytes
  unfolding scanned
  all-scanned h = rw (drop_of_length-le bytes h) at w.rest

-- what the scan says of the runs that follow what was seen
unfoldable whole_then : Seen → List (List ℕ) → Seen
whole_then w [] = Shapeless
whole_then w ([] ∷ []) = w
whole_then w ([] ∷ k ∷ ls) = Shapeless
whole_then w ((b ∷ l) ∷ ls) = Shapeless

unfoldable note_then : ℕ → ℕ → ℕ → List (List ℕ) → Seen
note_then n d m [] = Shapeless
note_then n d m (l ∷ []) = Note n d (counted (m + length l))
note_then n d m (l ∷ k ∷ ls) = whole_then (Whole n d (counted (m + length l))) (k ∷ ls)

unfoldable chosen_then : ℕ → ℕ → List (List ℕ) → Seen
chosen_then n d [] = Shapeless
chosen_then n d ([] ∷ []) = Chosen n d
chosen_then n d ([] ∷ k ∷ ls) = note_then n d 0 (k ∷ ls)
chosen_then n d ((b ∷ l) ∷ ls) = Shapeless

unfoldable behavior_then : ℕ → List (List ℕ) → Seen
behavior_then n [] = Shapeless
behavior_then n ([] ∷ []) = Behavior n
behavior_then n ([] ∷ k ∷ ls) = Shapeless
behavior_then n ((b ∷ l) ∷ ls) = cond (choice b) (chosen_then n b (l ∷ ls)) Shapeless

unfoldable literal_then : ℕ → List (List ℕ) → Seen
literal_then m [] = Shapeless
literal_then m (l ∷ []) = Literal (counted (m + length l))
literal_then m (l ∷ k ∷ ls) = behavior_then (counted (m + length l)) (k ∷ ls)

scanned-shapeless : (s : List ℕ) → scanned Shapeless s ≡ Shapeless
unfolding scanned seen_after
scanned-shapeless [] = refl
scanned-shapeless (b ∷ bs) = scanned-shapeless bs

whole-runs : (n d m : ℕ) (s : List ℕ) → scanned (Whole n d m) s ≡ whole_then (Whole n d m) (runs s)
unfolding scanned seen_after runs whole_then
whole-runs n d m [] = refl
whole-runs n d m (b ∷ bs) =
    let r = first_run bs in
    scanned-shapeless bs
    ∙ true-or-false (eqb b 0x0A)
    (λ t. rw (t, r.is))
    (λ f. rw (f, r.is))

counted-more : (m : ℕ) → counted (counted m + 1) ≡ counted (m + 1)
counted-more m = omega arith

note-one : (n d m b : ℕ) (l : List ℕ) (ls : List (List ℕ)) → note_then n d (m + 1) (l ∷ ls) ≡ note_then n d m ((b ∷ l) ∷ ls)
unfolding note_then
note-one n d m b l [] = let far : m + 1 + length l ≡ m + suc (length l) = omega arith in rw far
note-one n d m b l (k ∷ ls) = let far : m + 1 + length l ≡ m + suc (length l) = omega arith in rw far

note-runs : (n d m : ℕ) (s : List ℕ) → scanned (Note n d (counted m)) s ≡ note_then n d m (runs s)
unfolding scanned seen_after runs note_then
note-runs n d m [] = rw (add-zero m)
note-runs n d m (b ∷ bs) =
    let r = first_run bs in
    true-or-false (eqb b 0x0A)
    (λ t. rw (t, whole-runs n d (counted m) bs, r.is, add-zero m))
    (λ f. rw (f, counted-more m, note-runs n d (m + 1) bs, r.is) (note-one n d m b r.first r.others))

chosen-runs : (n d : ℕ) (s : List ℕ) → scanned (Chosen n d) s ≡ chosen_then n d (runs s)
unfolding scanned seen_after runs chosen_then
chosen-runs n d [] = refl
chosen-runs n d (b ∷ bs) =
    let r = first_run bs in
    true-or-false (eqb b 0x0A)
    (λ t. rw (t, note-runs n d 0 bs, r.is))
    (λ f. rw (f, r.is) (scanned-shapeless bs))

behavior-runs : (n : ℕ) (s : List ℕ) → scanned (Behavior n) s ≡ behavior_then n (runs s)
unfolding scanned seen_after runs behavior_then
behavior-runs n [] = refl
behavior-runs n (b ∷ bs) =
    let r = first_run bs in
    true-or-false (eqb b 0x0A)
    (λ t. let is : b ≡ 0x0A = eqb-true b 0x0A t in rw (is, r.is) (scanned-shapeless bs))
    (λ f. true-or-false (choice b)
    (λ c. rw (f, c, chosen-runs n b bs, r.is, c))
    (λ c. rw (f, c, r.is, c) (scanned-shapeless bs)))

literal-one : (m b : ℕ) (l : List ℕ) (ls : List (List ℕ)) → literal_then (m + 1) (l ∷ ls) ≡ literal_then m ((b ∷ l) ∷ ls)
unfolding literal_then
literal-one m b l [] = let far : m + 1 + length l ≡ m + suc (length l) = omega arith in rw far
literal-one m b l (k ∷ ls) = let far : m + 1 + length l ≡ m + suc (length l) = omega arith in rw far

literal-runs : (m : ℕ) (s : List ℕ) → scanned (Literal (counted m)) s ≡ literal_then m (runs s)
unfolding scanned seen_after runs literal_then
literal-runs m [] = rw (add-zero m)
literal-runs m (b ∷ bs) =
    let r = first_run bs in
    true-or-false (eqb b 0x0A)
    (λ t. rw (t, behavior-runs (counted m) bs, r.is, add-zero m))
    (λ f. rw (f, counted-more m, literal-runs (m + 1) bs, r.is) (literal-one m b r.first r.others))

-- the whole input: three lines exactly where the scan has seen them
abbrev pub is_whole : Seen → Bool
is_whole (Literal n) = false
is_whole (Behavior n) = false
is_whole (Chosen n d) = false
is_whole (Note n d m) = false
is_whole (Whole n d m) = true
is_whole Shapeless = false

-- three lines, by their runs
abbrev three_lines : List (List ℕ) → Bool
three_lines ls =
    eqb (length ls) 4 && eqb (length (get_or ls 3 [])) 0
    && eqb (length (get_or ls 1 [])) 1 && choice (get_or (get_or ls 1 []) 0 0)

abbrev Told : Bool → List (List ℕ) → Seen → Type 0
Told true ls s = s ≡ Whole (counted (length (get_or ls 0 []))) (get_or (get_or ls 1 []) 0 0) (counted (length (get_or ls 2 [])))
Told false ls s = is_whole s ≡ false

-- another number of LFs, bytes after the last, more or fewer than one byte in the second line
module _ (ls : List (List ℕ)) (s : Seen) (other : is_whole s ≡ false) where
  untold : three_lines ls ≡ false → Told (three_lines ls) ls s
  untold e = rw e other

  wrong-count : (length ls ≡ 4 → ⊥) → Told (three_lines ls) ls s
  wrong-count h = untold (rw (ne_eqb (length ls) 4 h))

  wrong-end : (length (get_or ls 3 []) ≡ 0 → ⊥) → Told (three_lines ls) ls s
  wrong-end h = untold (rw (ne_eqb (length (get_or ls 3 [])) 0 h, and-false (eqb (length ls) 4)))

  wrong-choice : (length (get_or ls 1 []) ≡ 1 → ⊥) → Told (three_lines ls) ls s
  wrong-choice h =
      untold (rw (ne_eqb (length (get_or ls 1 [])) 1 h, and-false (eqb (length ls) 4 && eqb (length (get_or ls 3 [])) 0)))

neither : (t : Bool) (p q : Seen) → is_whole p ≡ false → is_whole q ≡ false → is_whole (cond t p q) ≡ false
neither true p q h k = h
neither false p q h k = k

chosen : (t : Bool) (ls : List (List ℕ)) {s : Seen} → s ≡ Whole (counted (length (get_or ls 0 []))) (get_or (get_or ls 1 []) 0 0) (counted (length (get_or ls 2 []))) → Told t ls (cond t s Shapeless)
chosen true ls e = e
chosen false ls e = refl

told : (ls : List (List ℕ)) → Told (three_lines ls) ls (literal_then 0 ls)
unfolding literal_then behavior_then chosen_then note_then whole_then
told [] = refl
told (a ∷ []) = refl
told (a ∷ [] ∷ []) = refl
told (a ∷ [] ∷ k ∷ ls) = wrong-choice (a ∷ [] ∷ k ∷ ls) _ refl (λ e. absurd (omega arith))
told (a ∷ (x ∷ []) ∷ []) = neither (choice x) _ _ refl refl
told (a ∷ (x ∷ []) ∷ c ∷ []) = neither (choice x) _ _ refl refl
told (a ∷ (x ∷ []) ∷ c ∷ [] ∷ []) =
    let first : 0 + length a ≡ length a = omega arith in
    let third : 0 + length c ≡ length c = omega arith in
    chosen (choice x) (a ∷ (x ∷ []) ∷ c ∷ [] ∷ []) (rw (first, third))
told (a ∷ (x ∷ []) ∷ c ∷ [] ∷ e ∷ ls) = wrong-count (a ∷ (x ∷ []) ∷ c ∷ [] ∷ e ∷ ls) _ (neither (choice x) _ _ refl refl) (λ e. absurd (omega arith))
told (a ∷ (x ∷ []) ∷ c ∷ (y ∷ l) ∷ ls) = wrong-end (a ∷ (x ∷ []) ∷ c ∷ (y ∷ l) ∷ ls) _ (neither (choice x) _ _ refl refl) (λ e. absurd (omega arith))
told (a ∷ (x ∷ z ∷ b) ∷ ls) = wrong-choice (a ∷ (x ∷ z ∷ b) ∷ ls) _ (neither (choice x) _ _ refl refl) (λ e. absurd (omega arith))

-- of an input
module _ (input : List ℕ) {seen : Seen} (is : seen ≡ scanned (Literal 0) input) where
  seen-runs : seen ≡ literal_then 0 (runs input)
  seen-runs = is ∙ literal-runs 0 input

  pub whole-seen : shaped input ≡ true → seen ≡ Whole (counted (length (literal_of input))) (get_or (behavior_line input) 0 0) (counted (length (note_of input)))
  unfolding shaped line_at
  whole-seen e = let t : Told true (runs input) (literal_then 0 (runs input)) = rw e at (told (runs input)) in seen-runs ∙ t

  pub shape-seen : shaped input ≡ is_whole seen
  unfolding shaped line_at
  shape-seen =
      true-or-false (shaped input)
      (λ t. t ∙ sym (ap is_whole (whole-seen t)))
      (λ f. let u : Told false (runs input) (literal_then 0 (runs input)) = rw f at (told (runs input)) in f ∙ sym (ap is_whole seen-runs ∙ u))
