-- Pieces that are written one after the other: the places of a list by index, or the run that is open after a place.
use Prim.Native.Nat.{ℕ, ◌+◌, ◌*◌, ◌≤◌, ◌<◌}
use mathlib.Core.Path.{◌≡◌, ◌∙◌, ap, refl, sym}
use mathlib.Core.Bool.{Bool, true, false, not}
use mathlib.Core.List.{List, [], ◌∷◌, ◌++◌, append-nil, map}
use native.Mathlib.Omega.{arith}
use lib.ListN.{length, set, drop, length-append, length-map, drop_of_length-le}
use Rattle.std.specs.Prelude.{Option, Some}
use Rattle.buffers.specs.Splice.{splice}
use Rattle.buffers.proofs.Splice.{Laying, none-laid, piece-laid, all_laid, laying-size, splice-nil, store-one}
use Rattle.pattern.specs.declared.Place.{Place}
use Rattle.pattern.specs.Entries.{entry_at, places_of}
use Rattle.pattern.specs.Places.{covers_from}
use Rattle.pattern.proofs.Entries.{entry-step}
use Rattle.pattern.proofs.Places.{Span, covers-span, covers-rest}
use Rattle.behaviors.specs.declared.SplitDelimiterBehavior.{SplitDelimiterBehavior}
use Rattle.behaviors.specs.declared.SplitDelimiterBehavior.TheVariants.{Isolated}
use Rattle.behaviors.specs.declared.EmptyPieces.{EmptyPieces}
use Rattle.behaviors.specs.Splits.{unremoved, splits, is_dropped, remaining, pieces}
use Rattle.behaviors.specs.Runs.{extended_run, is_kept_run, over, piece_if, runs_from, list_pieces}
use Rattle.behaviors.proofs.Gathered.{first-remains}
use Rattle.behaviors.proofs.Runs.{Open, first-open, first_pieces, next-open}
use Rattle.spans.specs.Packing.{base, packed_span, packed_of, RunRoom, RunLaid, PackedRoom, PackedLaid}
use Rattle.spans.proofs.Packing.{pieces-back}

-- A RUN that is written, or passed over
module _ {most : ℕ} {met : Bool} {run : Place} {spans : List ℕ} {at : ℕ} (r : RunRoom most met run spans at) where
  pub run_room : met ≡ true → at < length spans
  unfolding piece_if
  run_room t = let a : at + 1 ≤ length spans = rw t at r.room in omega arith

  pub run-laid : met ≡ true → RunLaid met run spans at (at + 1) (set spans at (run.start.0 + run.end.0 * base))
  unfolding piece_if unremoved packed_span
  run-laid t = record { reach = rw t; spans_are = rw t (store-one spans at (run.start.0 + run.end.0 * base) (run_room t)) }

pub run-passed : {met : Bool} {run : Place} {spans : List ℕ} {at : ℕ} → met ≡ false → RunLaid met run spans at at spans
unfolding piece_if
run-passed {spans = spans} {at = at} f = record { reach = rw f (omega arith); spans_are = rw f (sym (splice-nil spans at)) }

-- what a run gives, and what is left
map-append : (f : Place → ℕ) (xs ys : List Place) → map f (xs ++ ys) ≡ map f xs ++ map f ys
map-append f [] ys = refl
map-append f (x ∷ xs) ys = ap (◌∷◌ (f x)) (map-append f xs ys)

module _ (whole q rest : List Place) {d₀ : List ℕ} {at : ℕ} {d : List ℕ} (l : Laying (packed_of whole) (packed_of (q ++ rest)) d₀ at d) where
  column-room : at + length q ≤ length d
  column-room =
      let room : at + length (packed_of q ++ packed_of rest) ≤ length d = rw (map-append packed_span q rest) at l.room in
      omega (arith, length-append (packed_of q) (packed_of rest), length-map q packed_span)

  column-next : {at₁ : ℕ} {d₁ : List ℕ} → at₁ ≡ at + length q → d₁ ≡ splice d at (packed_of q) → Laying (packed_of whole) (packed_of rest) d₀ at₁ d₁
  column-next here is = piece-laid (packed_of whole) (packed_of q) (packed_of rest) d₀ at d (rw (map-append packed_span q rest) at l) _ _ (here ∙ rw (length-map q packed_span)) is

module _ {most : ℕ} {list : List ℕ} {b : SplitDelimiterBehavior} {e : EmptyPieces} {spans₀ : List ℕ} (l : PackedRoom most list b e spans₀) where
  fits : length (packed_of (list_pieces b e list)) ≤ length spans₀
  fits = rw (length-map (list_pieces b e list) packed_span) l.room

  pub all-packed : most < base → {at : ℕ} {spans : List ℕ} → Laying (packed_of (list_pieces b e list)) [] spans₀ at spans → PackedLaid (list_pieces b e list) spans₀ at spans
  all-packed low laid =
      let back = pieces-back l.listed low b e in
      record {
        reach = omega (arith, laying-size _ [] _ _ _ laid, length-map (list_pieces b e list) packed_span);
        spans_are = all_laid _ _ _ _ laid;
        starts_in = back.0;
        ends_in = back.1;
      }

-- EACH PLACE A PIECE: the places from k on are to be written
pub record Listing (most : ℕ) (list : List ℕ) (e : EmptyPieces) (spans₀ : List ℕ) (k at : ℕ) (spans : List ℕ) : Type 0 where
  pub text : List ℕ
  pub from : ℕ
  pub short : length text ≤ most
  pub few : k ≤ length (places_of list)
  pub covered : covers_from text from (drop k (places_of list)) ≡ true
  pub laid : Laying (packed_of (list_pieces Isolated e list)) (packed_of (remaining e (map unremoved (drop k (places_of list))))) spans₀ at spans

module _ {most : ℕ} {list : List ℕ} {e : EmptyPieces} {spans₀ : List ℕ} (r : PackedRoom most list Isolated e spans₀) where
  pub none-listed : Listing most list e spans₀ 0 0 spans₀
  unfolding pieces splits
  none-listed =
      record {
        text = r.listed.text;
        from = 0;
        short = r.listed.short;
        few = omega arith;
        covered = r.listed.covered;
        laid = none-laid _ _ (fits r);
      }

  module _ {k at : ℕ} {spans : List ℕ} (j : Listing most list e spans₀ k at spans) where
    pub all_listed : most < base → length (places_of list) ≤ k → PackedLaid (list_pieces Isolated e list) spans₀ at spans
    unfolding remaining
    all_listed low done =
        let none : drop k (places_of list) ≡ [] = drop_of_length-le (places_of list) {i = k} done in
        all-packed r low (rw none at j.laid)

    module _ {p : Place} (here : drop k (places_of list) ≡ p ∷ drop (k + 1) (places_of list)) (more : k < length (places_of list)) where
      on : covers_from j.text j.from (p ∷ drop (k + 1) (places_of list)) ≡ true
      on = rw here at j.covered

      span : Span j.text j.from p
      span = covers-span j.text j.from p _ on

      module _ {g : Bool} (is : g ≡ is_dropped e p) where
        rest-is : remaining e (map unremoved (drop k (places_of list))) ≡ piece_if (not g) p ++ remaining e (map unremoved (drop (k + 1) (places_of list)))
        rest-is = rw (here, is) (first-remains e p (map unremoved (drop (k + 1) (places_of list))))

        pub place-room : RunRoom most (not g) p spans at
        place-room =
            record {
              onward = omega (arith, span.from, span.onward);
              inside = omega (arith, span.inside, j.short);
              room = column-room (list_pieces Isolated e list) (piece_if (not g) p) _ (rw rest-is at j.laid);
            }

        pub one-listed : {at₁ : ℕ} {spans₁ : List ℕ} → RunLaid (not g) p spans at at₁ spans₁ → Listing most list e spans₀ (k + 1) at₁ spans₁
        one-listed run =
            record {
              text = j.text;
              from = p.end.0;
              short = j.short;
              few = omega arith;
              covered = covers-rest j.text j.from p _ on;
              laid = column-next (list_pieces Isolated e list) (piece_if (not g) p) _ (rw rest-is at j.laid) run.reach run.spans_are;
            }

-- RUNS: what has been written, and the run that is open
pub record Placing (most : ℕ) (list : List ℕ) (b : SplitDelimiterBehavior) (e : EmptyPieces) (spans₀ : List ℕ) (run : Place) (i at : ℕ) (spans : List ℕ) : Type 0 where
  pub opened : Open most list run i
  pub laid : Laying (packed_of (list_pieces b e list)) (packed_of (runs_from b e run (places_of (drop i list)))) spans₀ at spans

module _ {most : ℕ} {list : List ℕ} {b : SplitDelimiterBehavior} {e : EmptyPieces} {spans₀ : List ℕ} (l : PackedRoom most list b e spans₀) where
  pub none-placed : {entry : Option (Place × ℕ)} {p : Place} {next : ℕ} → entry ≡ entry_at list 0 → entry ≡ Some (p, next) → Placing most list b e spans₀ p next 0 spans₀
  none-placed is there =
      record {
        opened = first-open l.listed is there;
        laid = rw (first_pieces l.listed is there b e) (none-laid _ _ (fits l));
      }

  pub nothing_placed : most < base → list_pieces b e list ≡ [] → PackedLaid (list_pieces b e list) spans₀ 0 spans₀
  nothing_placed low none = all-packed l low (rw none (none-laid [] spans₀ (omega arith)))

module _ {most : ℕ} {list : List ℕ} {b : SplitDelimiterBehavior} {e : EmptyPieces} {spans₀ : List ℕ} {run : Place} {i at : ℕ} {spans : List ℕ} (k : Placing most list b e spans₀ run i at spans) where
  -- before a place
  module _ {entry : Option (Place × ℕ)} {p : Place} {next : ℕ} (is : entry ≡ entry_at list i) (there : entry ≡ Some (p, next)) {t : Bool} (met : t ≡ over b e run p) where
    abbrev rest : List Place
    rest = runs_from b e (extended_run b run p) (places_of (drop next list))

    stepped-runs : runs_from b e run (places_of (drop i list)) ≡ piece_if t run ++ rest
    unfolding runs_from
    stepped-runs = rw ((entry-step list is there).places, met)

    pub next-room : RunRoom most t run spans at
    next-room =
        record {
          onward = k.opened.forward;
          inside = omega (arith, k.opened.inside, k.opened.short);
          room = column-room (list_pieces b e list) (piece_if t run) rest (rw stepped-runs at k.laid);
        }

    pub next-placed : {at₁ : ℕ} {spans₁ : List ℕ} {r : Place} → RunLaid t run spans at at₁ spans₁ → r ≡ extended_run b run p → Placing most list b e spans₀ r next at₁ spans₁
    next-placed written after =
        record {
          opened = next-open k.opened is there b after;
          laid = rw after (column-next (list_pieces b e list) (piece_if t run) rest (rw stepped-runs at k.laid) written.reach written.spans_are);
        }

  -- after the last place
  module _ (done : places_of (drop i list) ≡ []) {t : Bool} (met : t ≡ is_kept_run b e run) where
    last-run : runs_from b e run (places_of (drop i list)) ≡ piece_if t run ++ []
    unfolding runs_from
    last-run = rw (done, met, append-nil (piece_if (is_kept_run b e run) run))

    pub last-room : RunRoom most t run spans at
    last-room =
        record {
          onward = k.opened.forward;
          inside = omega (arith, k.opened.inside, k.opened.short);
          room = column-room (list_pieces b e list) (piece_if t run) [] (rw last-run at k.laid);
        }

    pub all_placed : PackedRoom most list b e spans₀ → most < base → {at₁ : ℕ} {spans₁ : List ℕ} → RunLaid t run spans at at₁ spans₁ → PackedLaid (list_pieces b e list) spans₀ at₁ spans₁
    all_placed l low written =
        all-packed l low (column-next (list_pieces b e list) (piece_if t run) [] (rw last-run at k.laid) written.reach written.spans_are)
