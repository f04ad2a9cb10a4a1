-- Laws of `verdict`: what it says of the conditions, and how the conditions of two inputs are judged together, one after the other or
-- both at once. Nothing above goes by cases over all refusals.
use Prim.Native.Nat.{ℕ, suc}
use mathlib.Core.Path.{◌≡◌, ◌∙◌, ap, refl, sym}
use mathlib.Core.Bool.{Bool, true, false, cond, ◌&&◌, ◌||◌, not, or-false, or-true}
use mathlib.Core.List.Memᴰ
use mathlib.Core.List.{List, [], ◌∷◌, ◌++◌, Memᴰ}
use mathlib.Core.Logic.{⊎_elim}
use mathlib.Mathlib.Data.Bool.Basic.{and_elim_left, and_elim_right}
use native.Mathlib.Omega.{arith}
use lib.Dec.{eqb, ltb}
use lib.ListN.{take, drop, take-append-drop}
use borrow.Author.Tests.{eqb-true, eq-eqb, not-true, lt-ltb, le-ltb, ltb-true, ltb-false}
use Rattle.std.specs.Prelude.{Ok, Err}
use Rattle.buffers.proofs.Cases.{clash, true-or-false}
use Rattle.note.specs.declared.Refusal.{Refusal}
use Rattle.note.specs.declared.Refusal.TheVariants.{IllFormed, TooLong, LengthMismatch, Misaligned, NotBoundary, BadScript, Exhausted, BadMatches, NoRoom, Missing, CountMismatch}
use Rattle.note.specs.Refusals.{number_of, order, first_met, verdict, also, Verdict, Accepted}
use Rattle.note.specs.Rank.{rank_in, rank, says, earlier}

-- every refusal has its turn, and its own number
within-order : (k : Refusal) → Memᴰ k order
within-order TooLong = Memᴰ.head refl
within-order LengthMismatch = Memᴰ.tail (Memᴰ.head refl)
within-order IllFormed = Memᴰ.tail (Memᴰ.tail (Memᴰ.head refl))
within-order Misaligned = Memᴰ.tail (Memᴰ.tail (Memᴰ.tail (Memᴰ.head refl)))
within-order BadScript = Memᴰ.tail (Memᴰ.tail (Memᴰ.tail (Memᴰ.tail (Memᴰ.head refl))))
within-order BadMatches = Memᴰ.tail (Memᴰ.tail (Memᴰ.tail (Memᴰ.tail (Memᴰ.tail (Memᴰ.head refl)))))
within-order CountMismatch = Memᴰ.tail (Memᴰ.tail (Memᴰ.tail (Memᴰ.tail (Memᴰ.tail (Memᴰ.tail (Memᴰ.head refl))))))
within-order NotBoundary = Memᴰ.tail (Memᴰ.tail (Memᴰ.tail (Memᴰ.tail (Memᴰ.tail (Memᴰ.tail (Memᴰ.tail (Memᴰ.head refl)))))))
within-order Missing = Memᴰ.tail (Memᴰ.tail (Memᴰ.tail (Memᴰ.tail (Memᴰ.tail (Memᴰ.tail (Memᴰ.tail (Memᴰ.tail (Memᴰ.head refl))))))))
within-order Exhausted = Memᴰ.tail (Memᴰ.tail (Memᴰ.tail (Memᴰ.tail (Memᴰ.tail (Memᴰ.tail (Memᴰ.tail (Memᴰ.tail (Memᴰ.tail (Memᴰ.head refl)))))))))
within-order NoRoom = Memᴰ.tail (Memᴰ.tail (Memᴰ.tail (Memᴰ.tail (Memᴰ.tail (Memᴰ.tail (Memᴰ.tail (Memᴰ.tail (Memᴰ.tail (Memᴰ.tail (Memᴰ.head refl))))))))))

of_number : ℕ → Refusal
of_number n =
    cond (eqb n 1) IllFormed (cond (eqb n 2) TooLong (cond (eqb n 3) LengthMismatch (cond (eqb n 4) Misaligned (cond (eqb n 5) NotBoundary (cond (eqb n 6) BadScript (cond (eqb n 7) Exhausted (cond (eqb n 8) BadMatches (cond (eqb n 9) NoRoom (cond (eqb n 10) Missing CountMismatch)))))))))

of_number_lem : (k : Refusal) → of_number (number_of k) ≡ k
unfolding of_number
of_number_lem IllFormed = refl
of_number_lem TooLong = refl
of_number_lem LengthMismatch = refl
of_number_lem Misaligned = refl
of_number_lem NotBoundary = refl
of_number_lem BadScript = refl
of_number_lem Exhausted = refl
of_number_lem BadMatches = refl
of_number_lem NoRoom = refl
of_number_lem Missing = refl
of_number_lem CountMismatch = refl

same_number : (j k : Refusal) → eqb (number_of j) (number_of k) ≡ true → j ≡ k
same_number j k e = sym (of_number_lem j) ∙ ap of_number (eqb-true (number_of j) (number_of k) e) ∙ of_number_lem k

-- an accepted input meets no condition, and one that meets none is accepted
not-met : (t : Bool) (k : Refusal) (v : Verdict) → cond t (Err k) v ≡ Accepted → (t ≡ false) × (v ≡ Accepted)
not-met true k v e = let z : ◌≡◌ {A = ℕ} 0 1 = cc in absurd (omega arith)
not-met false k v e = (refl, e)

none-met : (ks : List Refusal) (f : Refusal → Bool) → first_met ks f ≡ Accepted → (k : Refusal) → Memᴰ k ks → f k ≡ false
none-met [] f e k m = absurd (Memᴰ.not-nil m)
none-met (j ∷ ks) f e k m =
    let both : (f j ≡ false) × (first_met ks f ≡ Accepted) = not-met (f j) j (first_met ks f) e in
    ⊎_elim (λ is. rw is both.0) (λ more. none-met ks f both.1 k more) (Memᴰ.cases_cons m)

pub accepted-meets : (f : Refusal → Bool) → verdict f ≡ Accepted → (k : Refusal) → f k ≡ false
unfolding verdict
accepted-meets f e k = none-met order f e k (within-order k)

met-none : (ks : List Refusal) (f : Refusal → Bool) → ((k : Refusal) → f k ≡ false) → first_met ks f ≡ Accepted
met-none [] f h = refl
met-none (k ∷ ks) f h = rw (h k) (met-none ks f h)

or_left : (a b : Bool) → (a || b) ≡ false → a ≡ false
or_left true b e = e
or_left false b e = refl

or_right : (a b : Bool) → (a || b) ≡ false → b ≡ false
or_right true b e = clash true refl e
or_right false b e = e

-- two inputs judged together are accepted where each is
module _ (f g : Refusal → Bool) (e : verdict (also f g) ≡ Accepted) where
  pub accepted-first : verdict f ≡ Accepted
  unfolding verdict
  accepted-first = met-none order f (λ k. or_left (f k) (g k) (accepted-meets (also f g) e k))

  pub accepted-second : verdict g ≡ Accepted
  unfolding verdict
  accepted-second = met-none order g (λ k. or_right (f k) (g k) (accepted-meets (also f g) e k))

-- ONE AFTER THE OTHER: the second input is judged where the first is accepted
abbrev pub then : Verdict → Verdict → Verdict
then (Ok tt) w = w
then (Err k) w = Err k

-- none of these conditions is met; it computes for the conditions that a call names
abbrev pub unmet : List Refusal → (Refusal → Bool) → Bool
unmet [] f = true
unmet (k ∷ ks) f = not (f k) && unmet ks f

met-append : (xs ys : List Refusal) (f : Refusal → Bool) → first_met (xs ++ ys) f ≡ then (first_met xs f) (first_met ys f)
met-append [] ys f = refl
met-append (k ∷ xs) ys f = true-or-false (f k) (λ t. rw t) (λ u. rw u (met-append xs ys f))

met-unmet : (ks : List Refusal) (f : Refusal → Bool) → unmet ks f ≡ true → first_met ks f ≡ Accepted
met-unmet [] f u = refl
met-unmet (k ∷ ks) f u = rw (not-true (f k) (and_elim_left (not (f k)) (unmet ks f) u)) (met-unmet ks f (and_elim_right (not (f k)) _ u))

met-first : (ks : List Refusal) (f g : Refusal → Bool) → unmet ks g ≡ true → first_met ks (also f g) ≡ first_met ks f
met-first [] f g u = refl
met-first (k ∷ ks) f g u =
    rw (not-true (g k) (and_elim_left (not (g k)) (unmet ks g) u), or-false (f k), met-first ks f g (and_elim_right (not (g k)) _ u))

met-second : (ks : List Refusal) (f g : Refusal → Bool) → unmet ks f ≡ true → first_met ks (also f g) ≡ first_met ks g
met-second [] f g u = refl
met-second (k ∷ ks) f g u = rw (not-true (f k) (and_elim_left (not (f k)) (unmet ks f) u), met-second ks f g (and_elim_right (not (f k)) _ u))

pub then-accepted : (v : Verdict) → then v Accepted ≡ v
then-accepted (Ok tt) = refl
then-accepted (Err k) = refl

-- the first input meets none but the first r conditions of the order, the second none of these
module _ (r : ℕ) (f g : Refusal → Bool) (low : unmet (drop r order) f ≡ true) (high : unmet (take r order) g ≡ true) where
  cut-verdict : (h : Refusal → Bool) → verdict h ≡ then (first_met (take r order) h) (first_met (drop r order) h)
  unfolding verdict
  cut-verdict h = ap (λ (ks : List Refusal). first_met ks h) (sym (take-append-drop r order)) ∙ met-append (take r order) (drop r order) h

  pub verdict-then : verdict (also f g) ≡ then (verdict f) (verdict g)
  verdict-then =
      cut-verdict (also f g)
      ∙ rw (met-first (take r order) f g high, met-second (drop r order) f g low)
      (sym (rw (cut-verdict f, cut-verdict g, met-unmet (drop r order) f low, met-unmet (take r order) g high, then-accepted (first_met (take r order) f))))

  -- as an entry point meets it: the first verdict refuses, or it accepts and the second one is given
  pub refused-then : {v : Verdict} {k : Refusal} → v ≡ verdict f → v ≡ Err k → Err k ≡ verdict (also f g)
  refused-then e is = sym (verdict-then ∙ rw (← e, is))

  pub accepted-then : {v w : Verdict} → v ≡ verdict f → v ≡ Accepted → w ≡ verdict g → w ≡ verdict (also f g)
  accepted-then e is w = w ∙ sym (verdict-then ∙ rw (← e, is))

-- one more condition of the last refusal, which the first input may meet as well
then-then : (u v w : Verdict) → then (then u v) w ≡ then u (then v w)
then-then (Ok tt) v w = refl
then-then (Err k) v w = refl

pub last_then : (f g : Refusal → Bool) → unmet (take (rank NoRoom) order) g ≡ true → verdict (also f g) ≡ then (verdict f) (verdict g)
unfolding verdict
last_then f g high =
    let front : List Refusal = take (rank NoRoom) order in
    let last : first_met (NoRoom ∷ []) (also f g) ≡ then (first_met (NoRoom ∷ []) f) (first_met (NoRoom ∷ []) g) =
    true-or-false (f NoRoom) (λ t. rw t) (λ u. rw u) in
    let cut : (h : Refusal → Bool) → first_met order h ≡ then (first_met front h) (first_met (NoRoom ∷ []) h) = λ h. met-append front (NoRoom ∷ []) h in
    cut (also f g)
    ∙ rw (met-first front f g high, last)
    (sym (rw (cut f, cut g, met-unmet front g high) (then-then (first_met front f) (first_met (NoRoom ∷ []) f) (first_met (NoRoom ∷ []) g))))

-- BOTH AT ONCE: the earlier refusal of two verdicts
said-met : (ks : List Refusal) (f : Refusal → Bool) (k : Refusal) → says (first_met ks f) k ≡ true → f k ≡ true
said-met [] f k e = clash true refl (sym e)
said-met (j ∷ ks) f k e =
    true-or-false (f j)
    (λ t. let same : eqb (number_of j) (number_of k) ≡ true = rw t at e in rw (← same_number j k same) t)
    (λ u. said-met ks f k (rw u at e))

said-not : (ks : List Refusal) (f : Refusal → Bool) (k : Refusal) → f k ≡ false → says (first_met ks f) k ≡ false
said-not ks f k u = true-or-false (says (first_met ks f) k) (λ t. clash (f k) (said-met ks f k t) u) (λ n. n)

met-said : (ks : List Refusal) (f g : Refusal → Bool) → first_met ks (also f g) ≡ first_met ks (also (says (first_met ks f)) (says (first_met ks g)))
met-said [] f g = refl
met-said (j ∷ ks) f g =
    true-or-false (f j)
    (λ t. rw (t, eq-eqb (number_of j) (number_of j) refl))
    (λ u. true-or-false (g j)
    (λ t. rw (u, t, eq-eqb (number_of j) (number_of j) refl, or-true (says (first_met ks f) j)))
    (λ w. rw (u, w, said-not ks f j u, said-not ks g j w) (met-said ks f g)))

pub earlier-of : (f g : Refusal → Bool) {v w r : Verdict} → v ≡ verdict f → w ≡ verdict g → r ≡ earlier v w → r ≡ verdict (also f g)
unfolding verdict earlier
earlier-of f g e d is = is ∙ rw (e, d) (sym (met-said order f g))

-- by the ranks of two refusals
next-turn : (j k : Refusal) (ks : List Refusal) → eqb (number_of j) (number_of k) ≡ false → Memᴰ j (k ∷ ks) → Memᴰ j ks
next-turn j k ks u m =
    ⊎_elim (λ is. clash (eqb (number_of j) (number_of k)) (eq-eqb _ _ (ap number_of is)) u) (λ more. more) (Memᴰ.cases_cons m)

met-one : (ks : List Refusal) (k : Refusal) → Memᴰ k ks → first_met ks (says (Err k)) ≡ Err k
met-one [] k m = absurd (Memᴰ.not-nil m)
met-one (j ∷ ks) k m =
    true-or-false (eqb (number_of k) (number_of j))
    (λ t. rw t (ap Err (sym (same_number k j t))))
    (λ u. rw u (met-one ks k (next-turn k j ks u m)))

met-two : (ks : List Refusal) (j k : Refusal) → Memᴰ j ks → first_met ks (also (says (Err j)) (says (Err k))) ≡ Err (cond (ltb (rank_in ks k) (rank_in ks j)) k j)
met-two [] j k m = absurd (Memᴰ.not-nil m)
met-two (i ∷ ks) j k m =
    true-or-false (eqb (number_of j) (number_of i))
    (λ t. rw (t, le-ltb (rank_in (i ∷ ks) k) 0 (omega arith)) (ap Err (sym (same_number j i t))))
    (λ u. true-or-false (eqb (number_of k) (number_of i))
    (λ t. rw (u, t, lt-ltb 0 (suc (rank_in ks j)) (omega arith)) (ap Err (sym (same_number k i t))))
    (λ w. rw (u, w, ltb-suc (rank_in ks k) (rank_in ks j)) (met-two ks j k (next-turn j i ks u m))))
  where
    ltb-suc : (a b : ℕ) → ltb (suc a) (suc b) ≡ ltb a b
    ltb-suc a b = true-or-false (ltb a b) (λ t. lt-ltb (suc a) (suc b) (omega (arith, ltb-true a b t)) ∙ sym t) (λ f. le-ltb (suc a) (suc b) (omega (arith, ltb-false a b f)) ∙ sym f)

-- the cases of the code
said-alone : (v : Verdict) → first_met order (says v) ≡ v
said-alone (Ok tt) = refl
said-alone (Err k) = met-one order k (within-order k)

pub earlier-first : {v w : Verdict} → v ≡ Accepted → w ≡ earlier v w
unfolding verdict earlier
earlier-first {v} {w} e = sym (rw e (said-alone w))

pub earlier-second : {v w : Verdict} {j : Refusal} → v ≡ Err j → w ≡ Accepted → Err j ≡ earlier v w
unfolding verdict earlier
earlier-second {v} {w} {j} e d = sym (rw (e, d) (met-first order (says (Err j)) (says Accepted) refl ∙ said-alone (Err j)))

pub earlier-both : {v w : Verdict} {i j k : Refusal} → v ≡ Err j → w ≡ Err k → i ≡ cond (ltb (rank k) (rank j)) k j → Err i ≡ earlier v w
unfolding verdict earlier
earlier-both {j = j} {k = k} e d is = ap Err is ∙ sym (rw (e, d) (met-two order j k (within-order j)))

-- the verdict of one condition
pub refused-when : {met : Bool} {k : Refusal} → met ≡ true → Err k ≡ cond met (Err k) Accepted
refused-when e = rw e

-- two inputs that are accepted are accepted together
pub both-accepted : (f g : Refusal → Bool) → verdict f ≡ Accepted → verdict g ≡ Accepted → verdict (also f g) ≡ Accepted
both-accepted f g a b = sym (earlier-of f g {v = Accepted} {w = Accepted} (sym a) (sym b) (earlier-first refl))
