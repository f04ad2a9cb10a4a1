-- Laws of `index_of`: one byte on, several bytes on, and as a number of characters.
use Prim.Native.Nat.{ℕ, zero, suc, ◌+◌, ◌-◌, ◌≤◌, ◌<◌}
use mathlib.Core.Path.{◌≡◌, ◌∙◌, ap, refl, sym}
use mathlib.Core.Bool.{true}
use mathlib.Core.List.{List}
use borrow.Author.Tests.{lt-ltb, le-ltb}
use native.Mathlib.Nat.{add-zero, add-suc, zero-add}
use native.Mathlib.Numerals.{add-one}
use native.Mathlib.Omega.{arith}
use lib.ListN.{length, get_or, take, drop, length-drop, take-append-drop}
use lib.Seq.{get_or-drop}
use Rattle.std.specs.Prelude.{Err}
use Rattle.buffers.proofs.Cases.{le-or-lt, true-or-false}
use Rattle.utf8.specs.Formed.{well_formed, continues}
use Rattle.utf8.specs.Chars.{leads, lead_at}
use Rattle.utf8.proofs.Boundaries.{boundary-zero, boundary-begins, formed-part}
use Rattle.utf8.proofs.Chars.{lead-one, lead_zero, leads-take, leads-append, chars-leads}
use Rattle.note.specs.declared.Refusal.TheVariants.{Missing}
use Rattle.utf8.specs.CharRanges.{char_start}
use Rattle.utf8.proofs.CharRanges.{ranged}
use Rattle.char_counts.specs.Counts.{begun_after_first, count_at, CountsLent}
use Rattle.char_counts.proofs.Counts.{count-begun}
use Rattle.char_offsets.specs.Positions.{index_of, char_pair, end_index, pair_of, pair_start, pair_end, IndexIsChars, PositionsBounded}

pub index-most : (s : List ℕ) (b : ℕ) → index_of s b ≤ b
unfolding index_of
index-most s zero = omega arith
index-most s (suc b) =
    true-or-false (continues (get_or s (suc b) 0)) (λ c. rw c (omega (arith, index-most s b))) (λ c. rw c (omega (arith, index-most s b)))

-- one byte on
index-suc : (s : List ℕ) (b : ℕ) → index_of s (suc b) ≡ index_of s b + lead_at (get_or s (suc b) 0)
unfolding index_of
index-suc s b =
    true-or-false (continues (get_or s (suc b) 0))
    (λ c. rw (c, lead_zero (get_or s (suc b) 0) c) (omega arith))
    (λ c. rw (c, lead-one (get_or s (suc b) 0) c))

-- k bytes on: as many characters as begin there
pub index-add : (s : List ℕ) (a k : ℕ) → a + k < length s → index_of s (a + k) ≡ index_of s a + leads (take k (drop (a + 1) s))
unfolding leads
index-add s a zero h = rw (add-zero a) (omega arith)
index-add s a (suc k) h =
    let less : k < length (drop (a + 1) s) = simp length-drop (omega arith) in
    let here : a + 1 + k ≡ suc (a + k) = omega arith in
    let one : suc k ≡ k + 1 = omega arith in
    rw (add-suc a k, index-suc s (a + k), index-add s a k (omega arith), one, leads-take (drop (a + 1) s) k less, get_or-drop (a + 1) s k 0, here) (omega arith)

-- by the counts of a text that are kept
pub count_index : {most : ℕ} {s marks lows : List ℕ} {b r : ℕ} → CountsLent most s marks lows → b < length s → r ≡ count_at marks lows b → r ≡ index_of s b
unfolding index_of begun_after_first
count_index {s = s} {b = b} lent below e =
    e ∙ count-begun b lent below ∙ sym (rw (zero-add b, zero-add 1) at (index-add s 0 b (omega arith)) ∙ zero-add (leads (take b (drop 1 s))))

leads-split : (n : ℕ) (t : List ℕ) → leads t ≡ leads (take n t) + leads (drop n t)
leads-split n t = ap leads (sym (take-append-drop n t)) ∙ leads-append (take n t) (drop n t)

-- a byte's character is one of the text's
index-less : (s : List ℕ) (b : ℕ) → well_formed s ≡ true → b < length s → index_of s b < leads s
unfolding index_of leads
index-less s b formed h =
    let begin : lead_at (get_or s 0 0) ≡ 1 = lead-one (get_or s 0 0) (boundary-begins s 0 (boundary-zero s formed)) in
    let index : index_of s b ≡ 0 + leads (take b (drop 1 s)) = rw (zero-add b) at (index-add s 0 b (omega arith)) in
    omega (arith, leads-split 1 s, leads-split b (drop 1 s), leads-take s 0 (omega arith))

end-most : (s : List ℕ) (a e : ℕ) → well_formed s ≡ true → a < length s → end_index s a e ≤ leads s + 1
unfolding end_index
end-most s a e formed h =
    le-or-lt (length s) e
    (λ past. le-or-lt (length s) (e - 1)
    (λ past1. rw (le-ltb e (length s) past, le-ltb (e - 1) (length s) past1) (omega (arith, index-less s a formed h)))
    (λ in1. rw (le-ltb e (length s) past, lt-ltb (e - 1) (length s) in1) (omega (arith, index-less s (e - 1) formed in1))))
    (λ in0. rw (lt-ltb e (length s) in0) (omega (arith, index-less s e formed in0)))

-- the characters that begin up to a byte, and before its character
index-leads : (s : List ℕ) (b : ℕ) → well_formed s ≡ true → b < length s → leads (take (b + 1) s) ≡ index_of s b + 1
unfolding index_of leads
index-leads s zero formed h =
    leads-take s 0 h ∙ rw (lead-one (get_or s 0 0) (boundary-begins s 0 (boundary-zero s formed))) (omega arith)
index-leads s (suc b) formed h =
    let before : leads (take (suc b) s) ≡ index_of s b + 1 = rw (add-one b) at (index-leads s b formed (omega arith)) in
    leads-take s (suc b) h ∙ omega (arith, before, index-suc s b)

index-start : (s : List ℕ) (b : ℕ) → well_formed s ≡ true → b < length s → leads (take (char_start s b) s) ≡ index_of s b
unfolding char_start index_of leads
index-start s zero formed h = refl
index-start s (suc b) formed h =
    true-or-false (continues (get_or s (suc b) 0))
    (λ more. rw more (index-start s b formed (omega arith)))
    (λ new. rw new (rw (add-one b) at (index-leads s b formed (omega arith))))

pub index-is-chars : IndexIsChars
index-is-chars s b formed h =
    let c : ℕ = char_start s b in
    let here : c - 0 ≡ c = omega arith in
    let whole : well_formed (take (c - 0) (drop 0 s)) ≡ true = formed-part s 0 c formed (boundary-zero s formed) (ranged s b formed h).begins (omega arith) in
    sym (chars-leads (take c s) (rw here at whole) ∙ index-start s b formed h)

pub positions-bounded : PositionsBounded
unfolding pair_of
positions-bounded s a e i j formed p =
    le-or-lt (length s) a
    (λ past. let none : Err Missing ≡ char_pair i j = rw (le-ltb a (length s) past) at p in let z : ◌≡◌ {A = ℕ} 0 1 = cc in absurd (omega arith))
    (λ below.
    let is : char_pair (index_of s a) (end_index s a e) ≡ char_pair i j = rw (lt-ltb a (length s) below) at p in
    let first : index_of s a ≡ i = ap pair_start is in
    let last : end_index s a e ≡ j = ap pair_end is in
    (omega (arith, index-less s a formed below), omega (arith, end-most s a e formed below)))
