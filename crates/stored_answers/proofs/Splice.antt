-- A run that is laid into a buffer from any place on, piece by piece: none yet, one more, all of it.
use Prim.Native.Nat.{ℕ, suc, ◌+◌, ◌≤◌, ◌<◌, min}
use mathlib.Core.Path.{◌≡◌, ◌∙◌, ap, refl, sym}
use mathlib.Core.List.{List, [], ◌∷◌, ◌++◌}
use native.Mathlib.Numerals.{add-one}
use native.Mathlib.Decide.{dec_le}
use native.Mathlib.Nat.{lt_of_not-le}
use native.Mathlib.Omega.{arith}
use lib.ListN.{length, take, drop, set, length-append}
use lib.Seq.{take_at, length-take-le, set_split, append_snoc, take_all}
use Rattle.buffers.specs.Splice.{splice, Laid}
use Rattle.buffers.proofs.Splice.{splice-nil, length-splice, splice-splice}
use Rattle.stored_answers.specs.Counts.{IsPrefixLen}

-- of `whole`, all but `left` is in d up to `end`
pub record LayingFrom (whole d₀ : List ℕ) (at : ℕ) (left d : List ℕ) (end : ℕ) : Type 0 where
  pub so_far : splice d end left ≡ splice d₀ at whole
  pub ends : end + length left ≡ at + length whole
  pub room : end + length left ≤ length d
  pub same : length d ≡ length d₀

pub none-laid : {whole d : List ℕ} {at : ℕ} → at + length whole ≤ length d → LayingFrom whole d at whole d at
none-laid h = record { so_far = refl; ends = refl; room = h; same = refl }

pub piece-laid : {whole d₀ : List ℕ} {at : ℕ} {left d : List ℕ} {end : ℕ} → LayingFrom whole d₀ at left d end → (piece after d₁ : List ℕ) (end₁ : ℕ) → left ≡ piece ++ after → d₁ ≡ splice d end piece → end₁ ≡ end + length piece → LayingFrom whole d₀ at after d₁ end₁
piece-laid {whole} {d₀} {at} {left} {d} {end} l piece after d₁ end₁ is here next =
    let long : length left ≡ length piece + length after = ap length is ∙ length-append piece after in
    let fits : end + length piece ≤ length d = omega (arith, l.room) in
    let all : length d₁ ≡ length d = ap length here ∙ length-splice d end piece fits in
    record {
      so_far = rw (here, next, splice-splice d piece after end (omega (arith, l.room)), ← is) l.so_far;
      ends = omega (arith, l.ends);
      room = omega (arith, l.room);
      same = all ∙ l.same;
    }

-- one element
pub element-laid : {whole d₀ : List ℕ} {at : ℕ} {left d : List ℕ} {end : ℕ} → LayingFrom whole d₀ at left d end → (x : ℕ) (after : List ℕ) → left ≡ x ∷ after → LayingFrom whole d₀ at after (set d end x) (end + 1)
unfolding splice
element-laid {d = d} {end = end} l x after is =
    let fits : end < length d = omega (arith, l.room, ap length is) in
    piece-laid l (x ∷ []) after _ _ is (set_split d end x fits ∙ rw (add-one end) (sym (append_snoc (take end d) x (drop (suc end) d)))) refl

pub all_laid : {whole d₀ : List ℕ} {at : ℕ} {left d : List ℕ} {end : ℕ} → LayingFrom whole d₀ at left d end → left ≡ [] → Laid whole d₀ at end d
all_laid {d = d} {end = end} l is =
    record { reach = omega (arith, l.ends, ap length is); holds = sym (splice-nil d end) ∙ sym (ap (splice d end) is) ∙ l.so_far }

-- a place within the buffer, as `&d[..end]` asks for it
pub counted : (end : ℕ) (d : List ℕ) → end ≤ length d → IsPrefixLen end d
counted end d h = (h, sym (length-take-le end d h))

-- what is up to the end is the run
pub take-laid : {run d₀ d : List ℕ} {end : ℕ} → Laid run d₀ 0 end d → take end d ≡ run
unfolding splice
take-laid {run} {d₀} {d} {end} l =
    let here : end ≡ length run = omega (arith, l.reach) in
    rw (l.holds, here) (take_at run (drop (0 + length run) d₀) (length run) refl)

take-least : (run : List ℕ) (room n : ℕ) → n ≡ min (length run) room → take n run ≡ take room run
take-least run room n is =
    elim (dec_le room (length run)) [
      | yes h ↦ let e : n ≡ room = omega arith in rw e refl
      | no h ↦ let past : length run < room = lt_of_not-le h in
          take_all n run (omega arith) ∙ sym (take_all room run (omega arith))
    ]

-- the first of a run, as many as there is room for
pub first-laid : (run d₀ d : List ℕ) (n : ℕ) {field : List ℕ} → n ≡ min (length run) (length d₀) → d ≡ splice d₀ 0 (take n run) → run ≡ field → IsPrefixLen n d × Laid (take (length d₀) field) d₀ 0 n d
first-laid run d₀ d n is here of =
    let size : length (take n run) ≡ n = length-take-le n run (omega arith) in
    let same : length d ≡ length d₀ = ap length here ∙ length-splice d₀ 0 (take n run) (omega arith) in
    let all : take n run ≡ take (length d₀) run = take-least run (length d₀) n is in
    (counted n d (omega arith), rw (← of) record { reach = rw (← all) (omega arith); holds = rw (← all) here })
