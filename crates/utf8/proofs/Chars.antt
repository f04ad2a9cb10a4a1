-- Laws of `chars` and `leads`: the characters of a well-formed text are counted by the bytes that begin one.
use Prim.Native.Nat.{ℕ, ◌+◌, ◌-◌, ◌≤◌, ◌<◌}
use mathlib.Core.Path.{◌≡◌, ◌∙◌, refl, sym}
use mathlib.Core.Bool.{Bool, true, false, cond, not}
use mathlib.Core.List.{List, [], ◌∷◌, ◌++◌}
use mathlib.Mathlib.Data.Bool.Basic.{and_elim_left, and_elim_right}
use native.Mathlib.Numerals.{add-one}
use native.Mathlib.Omega.{arith}
use mir.Val.{bool_byte}
use lib.ListN.{length, get_or, take, drop, length-take}
use lib.Seq.{drop-cons, take-suc, take-add, take_all}
use Rattle.buffers.specs.Splice.{part}
use Rattle.utf8.specs.Table.{Bytes, within}
use Rattle.utf8.specs.Formed.{asked, formed, continues}
use Rattle.utf8.specs.Chars.{chars_from, chars, lead_at, leads, CharsLeads}
use Rattle.utf8.specs.Counting.{Counted}
use Rattle.utf8.proofs.Formed.{Later, none, asked-later, length-asked, lead-begins, later-continues, later-rest, formed-lead, formed-rest}

pub lead-one : (b : ℕ) → continues b ≡ false → lead_at b ≡ 1
unfolding lead_at
lead-one b e = rw e

pub lead_zero : (b : ℕ) → continues b ≡ true → lead_at b ≡ 0
unfolding lead_at
lead_zero b e = rw e

-- from a place on at which the columns r are still asked
chars-leads-from : (r : List Bytes) (s : List ℕ) → Later r → formed r s ≡ true → chars_from (length r) s ≡ leads s
unfolding formed chars_from leads
chars-leads-from [] [] l p = refl
chars-leads-from (c ∷ r) [] l p = refl
chars-leads-from [] (b ∷ s) l p =
    let more : chars_from (length (asked b)) s ≡ leads s = chars-leads-from (asked b) s (asked-later b) (formed-rest b s p) in
    rw (← length-asked b, more, lead-one b (lead-begins b (formed-lead b s p))) (omega arith)
chars-leads-from (c ∷ r) (b ∷ s) l p =
    rw (lead_zero b (later-continues b l (and_elim_left (within c b) _ p)), chars-leads-from r s (later-rest l) (and_elim_right (within c b) _ p)) (omega arith)

pub chars-leads : CharsLeads
unfolding chars
chars-leads s p = chars-leads-from [] s none p

pub lead-le-one : (b : ℕ) → lead_at b ≤ 1
unfolding lead_at
lead-le-one b = elim (continues b) as (λ t. cond t 0 1 ≤ 1) [ true ↦ omega arith | false ↦ omega arith ]

pub leads-le-length : (s : List ℕ) → leads s ≤ length s
unfolding leads
leads-le-length [] = omega arith
leads-le-length (b ∷ s) = omega (arith, lead-le-one b, leads-le-length s)

pub leads-append : (s t : List ℕ) → leads (s ++ t) ≡ leads s + leads t
unfolding leads
leads-append [] t = omega arith
leads-append (b ∷ s) t = rw (leads-append s t) (omega arith)

-- one more byte
pub leads-take : (s : List ℕ) (i : ℕ) → i < length s → leads (take (i + 1) s) ≡ leads (take i s) + lead_at (get_or s i 0)
unfolding leads
leads-take s i h = rw (add-one i, take-suc s i 0 h, leads-append (take i s) (get_or s i 0 ∷ [])) (omega arith)

-- one byte less
pub leads-drop : (s : List ℕ) (i : ℕ) → i < length s → leads (drop i s) ≡ lead_at (get_or s i 0) + leads (drop (i + 1) s)
unfolding leads
leads-drop s i h = rw (drop-cons s i 0 h, add-one i)

-- one more stretch
pub leads-take-add : (s : List ℕ) (i m : ℕ) → leads (take (i + m) s) ≡ leads (take i s) + leads (take m (drop i s))
leads-take-add s i m = rw (take-add i m s) (leads-append (take i s) (take m (drop i s)))

pub none-counted : {s : List ℕ} → Counted s 0 0
unfolding leads
none-counted = record { so_far = refl; most = omega arith }

-- the code adds a flag as a number
flag-lead : (b : ℕ) (t : Bool) → t ≡ continues b → bool_byte (not t) ≡ lead_at b
unfolding lead_at
flag-lead b t e = rw (← e) (elim t as (λ t. bool_byte (not t) ≡ cond t 0 1) [ true ↦ refl | false ↦ refl ])

pub flag-counted : {s : List ℕ} {n i : ℕ} {t : Bool} → Counted s n i → i < length s → t ≡ continues (get_or s i 0) → Counted s (n + bool_byte (not t)) (i + 1)
flag-counted {s} {i = i} {t} k h e =
    record { so_far = rw (flag-lead (get_or s i 0) t e, k.so_far) (sym (leads-take s i h)); most = omega arith }

-- r are counted from i to e
pub block-counted : {s : List ℕ} {n i e r : ℕ} → Counted s n i → i ≤ e → e ≤ length s → r ≡ leads (part s i e) → Counted s (n + r) e
block-counted {s} {i = i} {e} k h top is =
    let whole : i + (e - i) ≡ e = omega arith in
    record { so_far = rw (k.so_far, is, ← leads-take-add s i (e - i), whole); most = top }

pub counted-le : {s : List ℕ} {n i : ℕ} → Counted s n i → n ≤ i
counted-le {s} {i = i} k = omega (arith, k.so_far, leads-le-length (take i s), length-take i s)

pub all-counted : {s : List ℕ} {n i : ℕ} → Counted s n i → length s ≤ i → n ≡ leads s
all-counted {s} {i = i} k h = k.so_far ∙ rw (take_all i s h)
