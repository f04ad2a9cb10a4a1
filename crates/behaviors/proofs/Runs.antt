-- A list that is read place by place: the run that is open after a place, and what has been counted by then.
use Prim.Native.Nat.{ℕ, ◌+◌, ◌^◌, ◌≤◌, ◌<◌}
use mathlib.Core.Path.{◌≡◌, ◌∙◌, ap, refl}
use mathlib.Core.Bool.{Bool, true, false}
use mathlib.Core.List.{List, [], ◌∷◌, ◌++◌}
use native.Mathlib.Omega.{arith}
use lib.ListN.{length, drop, length-append}
use Rattle.std.specs.Prelude.{Option, Some, None}
use Rattle.buffers.proofs.Cases.{true-or-false}
use Rattle.pattern.specs.declared.Place.{Place}
use Rattle.pattern.specs.Entries.{entry_at, places_of}
use Rattle.pattern.specs.Places.{covers_from}
use Rattle.pattern.proofs.Entries.{Stepped, entry-step, entry-broken, entries-end}
use Rattle.pattern.proofs.Places.{Span, covers-span, covers-rest}
use Rattle.behaviors.specs.declared.SplitDelimiterBehavior.{SplitDelimiterBehavior}
use Rattle.behaviors.specs.declared.EmptyPieces.{EmptyPieces}
use Rattle.behaviors.specs.declared.Sizes.{Sizes}
use Rattle.behaviors.specs.Splits.{unremoved, pieces}
use Rattle.behaviors.specs.Joining.{joins}
use Rattle.behaviors.specs.Runs.{onward_if, extended_run, is_kept_run, over, piece_if, runs_from, total_length, sizes_with, list_pieces, Listed, Addable}
use Rattle.behaviors.proofs.Gathered.{runs-pieces, pieces_none}

-- the places of a list from i on follow an open run
pub record Open (most : ℕ) (list : List ℕ) (run : Place) (i : ℕ) : Type 0 where
  pub text : List ℕ
  pub short : length text ≤ most
  pub forward : run.start.0 ≤ run.end.0
  pub inside : run.end.0 ≤ length text
  pub covered : covers_from text run.end.0 (places_of (drop i list)) ≡ true
  pub most_i : i ≤ length list

module _ {most : ℕ} {list : List ℕ} (l : Listed most list) {entry : Option (Place × ℕ)} (is : entry ≡ entry_at list 0) where
  module _ {p : Place} {next : ℕ} (there : entry ≡ Some (p, next)) where
    first_step : Stepped list 0 p next
    first_step = entry-step list is there

    pub first-places : places_of list ≡ p ∷ places_of (drop next list)
    first-places = first_step.places

    pub first-open : Open most list p next
    first-open =
        let c : covers_from l.text 0 (p ∷ places_of (drop next list)) ≡ true = rw first-places at l.covered in
        let span : Span l.text 0 p = covers-span l.text 0 p (places_of (drop next list)) c in
        record {
          text = l.text;
          short = l.short;
          forward = omega (arith, span.from, span.onward);
          inside = span.inside;
          covered = covers-rest l.text 0 p (places_of (drop next list)) c;
          most_i = first_step.most;
        }

    pub first_pieces : (b : SplitDelimiterBehavior) (e : EmptyPieces) → runs_from b e p (places_of (drop next list)) ≡ list_pieces b e list
    first_pieces b e = runs-pieces b e p (places_of (drop next list)) ∙ rw first-places

-- a list without a place
pub none-listed : (list : List ℕ) {entry : Option (Place × ℕ)} → entry ≡ entry_at list 0 → entry ≡ None → (b : SplitDelimiterBehavior) (e : EmptyPieces) → list_pieces b e list ≡ []
none-listed [] is there b e = rw (entries-end [] {i = 0} (omega arith)).0 (pieces_none b e)
none-listed (x ∷ list) is there b e = rw (entry-broken (x ∷ list) {i = 0} (omega arith) is there).0 (pieces_none b e)

-- the next place joins the run or begins one
module _ {most : ℕ} {list : List ℕ} {run : Place} {i : ℕ} (o : Open most list run i) {entry : Option (Place × ℕ)} {p : Place} {next : ℕ} (is : entry ≡ entry_at list i) (there : entry ≡ Some (p, next)) where
  step : Stepped list i p next
  step = entry-step list is there

  on : covers_from o.text run.end.0 (p ∷ places_of (drop next list)) ≡ true
  on = rw step.places at o.covered

  span : Span o.text run.end.0 p
  span = covers-span o.text run.end.0 p (places_of (drop next list)) on

  open-from : (r : Place) → r.start.0 ≤ p.end.0 → r.end ≡ p.end → Open most list r next
  open-from r low end =
      record {
        text = o.text;
        short = o.short;
        forward = rw end low;
        inside = rw end span.inside;
        covered = rw end (covers-rest o.text run.end.0 p (places_of (drop next list)) on);
        most_i = step.most;
      }

  pub next-open : (b : SplitDelimiterBehavior) {r : Place} → r ≡ extended_run b run p → Open most list r next
  unfolding extended_run onward_if
  next-open b e =
      true-or-false (joins b run.matched p.matched)
      (λ t. rw (e, t) (open-from _ (omega (arith, o.forward, span.onward)) refl))
      (λ f. rw (e, f) (open-from p (omega (arith, span.from, span.onward)) refl))

-- AS MANY PIECES AS PLACES
given-few : (t : Bool) (run : Place) → length (piece_if t run) ≤ 1
unfolding piece_if
given-few true run = omega arith
given-few false run = omega arith

runs-few : (b : SplitDelimiterBehavior) (e : EmptyPieces) (run : Place) (ps : List Place) → length (runs_from b e run ps) ≤ length ps + 1
unfolding runs_from
runs-few b e run [] = omega (arith, given-few (is_kept_run b e run) run)
runs-few b e run (p ∷ ps) =
    omega (arith, length-append (piece_if (over b e run p) run) (runs_from b e (extended_run b run p) ps), given-few (over b e run p) run, runs-few b e (extended_run b run p) ps)

pub pieces-few : (b : SplitDelimiterBehavior) (e : EmptyPieces) (ps : List Place) → length (pieces b e ps) ≤ length ps
pieces-few b e [] = rw (pieces_none b e) (omega arith)
pieces-few b e (p ∷ ps) = rw (← runs-pieces b e p ps) (omega (arith, runs-few b e p ps))

-- THE SIZES
bytes-append : (xs ys : List Place) → total_length (xs ++ ys) ≡ total_length xs + total_length ys
unfolding total_length
bytes-append [] ys = omega arith
bytes-append (x ∷ xs) ys = rw (bytes-append xs ys) (omega arith)

sizes-append : (s : Sizes) (xs ys : List Place) → sizes_with (sizes_with s xs) ys ≡ sizes_with s (xs ++ ys)
unfolding sizes_with
sizes-append s xs ys =
    let a : s.pieces + length xs + length ys ≡ s.pieces + length (xs ++ ys) = omega (arith, length-append xs ys) in
    let z : s.bytes + total_length xs + total_length ys ≡ s.bytes + total_length (xs ++ ys) = omega (arith, bytes-append xs ys) in
    λ i. record { pieces = a i; bytes = z i }

-- a new run begins after the bytes that were counted
begins-behind : (b : SplitDelimiterBehavior) (e : EmptyPieces) (run p : Place) (bytes : ℕ) → bytes ≤ run.start.0 → run.start.0 ≤ run.end.0 → p.start.0 ≡ run.end.0 → bytes + total_length (piece_if (over b e run p) run) ≤ (extended_run b run p).start.0
unfolding over extended_run onward_if piece_if total_length unremoved
begins-behind b e run p bytes low forward from =
    true-or-false (joins b run.matched p.matched)
    (λ t. rw t (omega arith))
    (λ f. true-or-false (is_kept_run b e run) (λ t. rw (f, t) (omega arith)) (λ u. rw (f, u) (omega arith)))

abbrev none : Sizes
none = record { pieces = 0; bytes = 0 }

pub none-measured : (list : List ℕ) {entry : Option (Place × ℕ)} → entry ≡ entry_at list 0 → entry ≡ None → (b : SplitDelimiterBehavior) (e : EmptyPieces) → none ≡ sizes_with none (list_pieces b e list)
unfolding sizes_with total_length
none-measured list is there b e = rw (none-listed list is there b e)

-- what has been counted, and the run that is open
pub record Counting (most : ℕ) (list : List ℕ) (b : SplitDelimiterBehavior) (e : EmptyPieces) (s : Sizes) (run : Place) (i : ℕ) : Type 0 where
  pub opened : Open most list run i
  pub few : s.pieces + 1 ≤ i
  pub small : s.bytes ≤ run.start.0
  pub total : sizes_with s (runs_from b e run (places_of (drop i list))) ≡ sizes_with none (list_pieces b e list)

pub none-counting : {most : ℕ} {list : List ℕ} (b : SplitDelimiterBehavior) (e : EmptyPieces) → Listed most list → {entry : Option (Place × ℕ)} {p : Place} {next : ℕ} → entry ≡ entry_at list 0 → entry ≡ Some (p, next) → Counting most list b e none p next
none-counting {list = list} b e l is there =
    record {
      opened = first-open l is there;
      few = omega (arith, (entry-step list is there).onward);
      small = omega arith;
      total = rw (first_pieces l is there b e);
    }

module _ {most : ℕ} {list : List ℕ} {b : SplitDelimiterBehavior} {e : EmptyPieces} {s : Sizes} {run : Place} {i : ℕ} (k : Counting most list b e s run i) where
  pub addable : most + most < 2 ^ 64 → length list < 2 ^ 64 → Addable s run
  addable low few =
      record {
        onward = k.opened.forward;
        few = omega (arith, k.few, k.opened.most_i);
        short = omega (arith, k.small, k.opened.forward, k.opened.inside, k.opened.short);
      }

  pub next-counted : {entry : Option (Place × ℕ)} {p : Place} {next : ℕ} → entry ≡ entry_at list i → entry ≡ Some (p, next) → {t : Bool} {s₁ : Sizes} {r : Place} → t ≡ over b e run p → s₁ ≡ sizes_with s (piece_if t run) → r ≡ extended_run b run p → Counting most list b e s₁ r next
  unfolding runs_from sizes_with
  next-counted {p = p} {next = next} is there {t = t} {s₁ = s₁} {r = r} met sum after =
      let st : Stepped list i p next = entry-step list is there in
      let size : s₁.pieces ≡ s.pieces + length (piece_if t run) = ap (λ (x : Sizes). x.pieces) sum in
      let long : s₁.bytes ≡ s.bytes + total_length (piece_if t run) = ap (λ (x : Sizes). x.bytes) sum in
      let rest : List Place = places_of (drop next list) in
      record {
        opened = next-open k.opened is there b after;
        few = omega (arith, size, given-few t run, k.few, st.onward);
        small = rw (long, met, after) (begins-behind b e run p s.bytes k.small k.opened.forward (span k.opened is there).from);
        total =
            rw (sum, met, after) (sizes-append s (piece_if (over b e run p) run) (runs_from b e (extended_run b run p) rest))
            ∙ (rw st.places at k.total);
      }

  pub all-counted : places_of (drop i list) ≡ [] → {t : Bool} {s₁ : Sizes} → t ≡ is_kept_run b e run → s₁ ≡ sizes_with s (piece_if t run) → s₁ ≡ sizes_with none (list_pieces b e list)
  unfolding runs_from
  all-counted done met sum = sum ∙ rw met ((rw done at k.total))

-- the two ways after the last place
pub done-broken : (list : List ℕ) {i : ℕ} {entry : Option (Place × ℕ)} → i < length list → entry ≡ entry_at list i → entry ≡ None → places_of (drop i list) ≡ []
done-broken list h is there = (entry-broken list h is there).0

pub done-past : (list : List ℕ) {i : ℕ} → length list ≤ i → places_of (drop i list) ≡ []
done-past list h = (entries-end list h).0
