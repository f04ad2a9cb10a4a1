-- The blanking claim for fresh texts: where two texts agree in bytes, their starting notes agree in alignments. Each place ends on a boundary, so the
-- character of a byte outside is outside up to that byte, with the same bytes in both texts.
use Prim.Native.Nat.{ℕ, zero, suc, ◌+◌, ◌-◌, ◌≤◌, ◌<◌}
use mathlib.Core.Path.{◌≡◌, ◌∙◌, ap, sym}
use mathlib.Core.Bool.{true, false}
use mathlib.Core.List.Memᴰ
use mathlib.Core.List.{List, [], ◌∷◌, Memᴰ}
use mathlib.Core.Logic.{⊎_elim}
use native.Mathlib.Omega.{arith}
use lib.ListN.{length, get_or}
use Rattle.std.specs.Prelude.{Ok}
use Rattle.buffers.proofs.Cases.{le-or-lt, clash}
use Rattle.utf8.specs.Formed.{well_formed, continues, announced, boundary}
use Rattle.utf8.proofs.Boundaries.{boundary-begins, boundary-most}
use Rattle.note.specs.Refusals.{least}
use Rattle.utf8.specs.CharRanges.{char_start, char_end}
use Rattle.note.specs.Starting.{starting}
use Rattle.note.proofs.Sound.{normalized-formed}
use Rattle.utf8.proofs.CharRanges.{ranged, char_start-begins, char_start-continues}
use Rattle.note.proofs.Starting.{starting-start, starting-end}
use Rattle.pattern.specs.declared.Place.{Place}
use Rattle.pattern.specs.Entries.{places_of}
use Rattle.pattern.specs.Places.{covers_from}
use Rattle.pattern.proofs.Places.{covers-span, covers-rest, covers-length}
use Rattle.replace.specs.Replacing.{Replacing}
use Rattle.replace.specs.Blanking.{Outside, Agree}
use Rattle.replace.specs.Fresh.{FreshAgree, FreshBlanking}
use Rattle.replace.proofs.Blanking.{blanking}
use Rattle.replace.proofs.Faults.{accepted-note, published-says, taken}

-- each place of a list that covers a text ends on a boundary of it
place-ends : (text : List ℕ) (at : ℕ) (ps : List Place) → covers_from text at ps ≡ true → (q : Place) → Memᴰ q ps → boundary text q.end.0 ≡ true
place-ends text at [] c q m = absurd (Memᴰ.not-nil m)
place-ends text at (p ∷ ps) c q m =
    ⊎_elim
    (λ is. ap (λ (x : Place). boundary text x.end.0) is ∙ (covers-span text at p ps c).stands)
    (place-ends text p.end.0 ps (covers-rest text at p ps c) q)
    (Memᴰ.cases_cons m)

-- a byte that begins a character, and those that continue it
run-start : (s : List ℕ) (a k : ℕ) → continues (get_or s a 0) ≡ false → ((j : ℕ) → a < j → j ≤ a + k → continues (get_or s j 0) ≡ true) → char_start s (a + k) ≡ a
run-start s a zero new more = let z : a + 0 ≡ a = omega arith in rw z (char_start-begins s a new)
run-start s a (suc k) new more =
    let next : a + suc k ≡ suc (a + k) = omega arith in
    rw next (char_start-continues s (a + k) (more (suc (a + k)) (omega arith) (omega arith)) ∙ run-start s a k new (λ j from to. more j from (omega arith)))

-- a text that is well-formed, and that places cover: what an accepted starting note tells
record Covered (s : List ℕ) (ps : List Place) : Type 0 where
  formed : well_formed s ≡ true
  covered : covers_from s 0 ps ≡ true

fresh-covered : {most : ℕ} (s : List ℕ) {list content out₀ starts₀ ends₀ out starts ends : List ℕ} {a : ℕ} → Replacing most (starting s) list content out₀ starts₀ ends₀ (Ok a) out starts ends → Covered s (places_of list)
unfolding starting
fresh-covered {most} s {list} {content} {out₀} {starts₀} {ends₀} call =
    record {
      formed =
          normalized-formed (starting s)
          (accepted-note most (starting s) list content (least (length out₀) (length starts₀) (length ends₀)) (sym call.says_is ∙ published-says call)).0;
      covered = (taken call).covered;
    }

module _ {s : List ℕ} {ps : List Place} (c : Covered s ps) where
  ends_on : (q : Place) → Memᴰ q ps → boundary s q.end.0 ≡ true
  ends_on = place-ends s 0 ps c.covered

  ends_in : (q : Place) → Memᴰ q ps → q.end.0 ≤ length s
  ends_in q m = boundary-most s q.end.0 (ends_on q m)

  -- the character before a place's end ends there
  end_before : (q : Place) → Memᴰ q ps → 0 < q.end.0 → char_end s (q.end.0 - 1) ≡ q.end.0
  end_before q m some =
      let r = ranged s (q.end.0 - 1) c.formed (omega (arith, ends_in q m)) in
      le-or-lt (char_end s (q.end.0 - 1)) q.end.0
      (λ most. omega (arith, r.past))
      (λ past. clash (continues (get_or s q.end.0 0)) (r.rest q.end.0 (omega (arith, r.from)) past) (boundary-begins s q.end.0 (ends_on q m)))

  -- the bytes of a character up to one that is outside are outside
  outside-from : (i k : ℕ) → i < length s → Outside ps i → char_start s i ≤ k → k ≤ i → Outside ps k
  outside-from i k h o low high q m t from to =
      let r = ranged s i c.formed h in
      le-or-lt q.end.0 i
      (λ before.
      clash (continues (get_or s q.end.0 0)) (r.rest q.end.0 (omega arith) (omega (arith, r.past))) (boundary-begins s q.end.0 (ends_on q m)))
      (λ holds. o q m t (omega arith) holds)

  -- so the same range in a text that has the same bytes outside
  module _ (t : List ℕ) (same : (i : ℕ) → i < length s → Outside ps i → get_or s i 0 ≡ get_or t i 0) (i : ℕ) (h : i < length s) (o : Outside ps i) where
    byte-same : (k : ℕ) → char_start s i ≤ k → k ≤ i → get_or s k 0 ≡ get_or t k 0
    byte-same k low high = same k (omega arith) (outside-from i k h o low high)

    start-same : char_start s i ≡ char_start t i
    start-same =
        let r = ranged s i c.formed h in
        let here : char_start s i + (i - char_start s i) ≡ i = omega (arith, r.from) in
        sym
        (rw here
        at
        (run-start t (char_start s i) (i - char_start s i)
        (ap continues (sym (byte-same (char_start s i) (omega arith) r.from)) ∙ boundary-begins s (char_start s i) r.begins)
        (λ j from to. ap continues (sym (byte-same j (omega arith) (omega arith))) ∙ r.rest j from (omega (arith, r.past)))))

    end_same : char_end s i ≡ char_end t i
    unfolding char_end
    end_same =
        let r = ranged s i c.formed h in
        rw (← start-same) (ap (λ (b : ℕ). char_start s i + announced b) (byte-same (char_start s i) (omega arith) r.from))

-- both ways, from the starting notes
module _ {s t : List ℕ} {ps : List Place} (c : Covered s ps) (d : Covered t ps) (content : List ℕ) where
  long : length s ≡ length t
  long = covers-length s t 0 ps c.covered d.covered

  fresh-agree : Agree (starting s) (starting t) ps content → FreshAgree s t ps content
  unfolding starting
  fresh-agree a =
      record {
        outside = λ i h o. (a.outside i h o).0;
        last-character = λ some q m k past.
            sym (starting-start s (q.end.0 - 1) (omega (arith, ends_in c q m)))
            ∙ (a.before-end some q m k past).0
            ∙ starting-start t (q.end.0 - 1) (omega (arith, ends_in d q m));
      }

  agree_fresh : FreshAgree s t ps content → Agree (starting s) (starting t) ps content
  unfolding starting
  agree_fresh a =
      record {
        outside = λ i h o. (
          a.outside i h o,
          (
            starting-start s i h ∙ start-same c t a.outside i h o ∙ sym (starting-start t i (omega (arith, long))),
            starting-end s i h ∙ end_same c t a.outside i h o ∙ sym (starting-end t i (omega (arith, long))),
          ),
        );
        before-end = λ some q m k past.
            let in-s : q.end.0 - 1 < length s = omega (arith, ends_in c q m) in
            let in-t : q.end.0 - 1 < length t = omega (arith, ends_in d q m) in (
              starting-start s _ in-s ∙ a.last-character some q m k past ∙ sym (starting-start t _ in-t),
              starting-end s _ in-s ∙ end_before c q m past ∙ sym (end_before d q m past) ∙ sym (starting-end t _ in-t),
            );
      }

pub fresh-blanking : FreshBlanking
fresh-blanking most s t list content a b outₛ₀ startsₛ₀ endsₛ₀ outₛ startsₛ endsₛ outₜ₀ startsₜ₀ endsₜ₀ outₜ startsₜ endsₜ first second =
    let both = blanking most (starting s) (starting t) list content a b outₛ₀ startsₛ₀ endsₛ₀ outₛ startsₛ endsₛ outₜ₀ startsₜ₀ endsₜ₀ outₜ startsₜ endsₜ first second in (
      (λ e. fresh-agree (fresh-covered s first) (fresh-covered t second) content (both.0 e)),
      (λ g. both.1 (agree_fresh (fresh-covered s first) (fresh-covered t second) content g)),
    )
