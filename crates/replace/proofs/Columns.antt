-- Places laid into a buffer: what one place needs and gives, and a list that has been laid down up to a place.
use Prim.Native.Nat.{ℕ, ◌+◌, ◌-◌, ◌≤◌, ◌<◌}
use mathlib.Core.Path.{◌≡◌, ◌∙◌, refl}
use mathlib.Core.Bool.{true, false}
use mathlib.Core.List.{List, [], ◌∷◌, ◌++◌}
use native.Mathlib.Omega.{arith}
use lib.ListN.{length, replicate, drop, length-append, length-replicate}
use lib.Seq.{take-length}
use Rattle.std.specs.Prelude.{Option, Some, None}
use Rattle.buffers.specs.Splice.{part, splice}
use Rattle.buffers.specs.Over.{Over, Source, Reaching}
use Rattle.buffers.proofs.Splice.{length_part, splice-overlay, take-overlay}
use Rattle.buffers.proofs.Over.{none-reached, run-reached, all-reached, reaching-size}
use Rattle.note.specs.Notes.{before_end}
use Rattle.pattern.specs.declared.Place.{Place}
use Rattle.pattern.specs.Entries.{entry_at, places_of}
use Rattle.pattern.specs.Places.{covers_from}
use Rattle.pattern.proofs.Entries.{Stepped, entry-step, entry-broken, entries-end}
use Rattle.pattern.proofs.Places.{Span, covers-first, covers-rest, covers-span}
use Rattle.replace.specs.Replacing.{piece, laid, carried}
use Rattle.replace.specs.Sizes.{place_size, places_size}
use Rattle.replace.specs.Laying.{PlaceRoom, PlaceLaid, ColumnReady, ColumnLaid, Ready}
use Rattle.replace.proofs.Sizes.{size-matched, size-unmatched, length-piece, length-laid}
use Rattle.replace.proofs.Laid.{piece-matched, piece-unmatched}

-- one place: its elements where it is unmatched, and what is in its place where it is matched
module _ {column : List ℕ} {content_len : ℕ} {p : Place} {until : ℕ} {d : List ℕ} {at : ℕ} (r : PlaceRoom column content_len p until d at) where
  pub place-source : p.matched ≡ false → Source column p.start.0 p.end.0 d at until
  place-source u =
      record {
        onward = r.onward;
        inside = r.inside;
        room = omega (arith, r.room, size-unmatched p content_len u);
        until_room = r.until_room;
      }

  pub content-source : (padded : List ℕ) → p.matched ≡ true → content_len ≤ length padded → Source padded 0 content_len d at until
  content-source padded t h =
      record { onward = omega arith; inside = h; room = omega (arith, r.room, size-matched p content_len t); until_room = r.until_room }

  pub content-room : p.matched ≡ true → (at + content_len ≤ length d) × (until ≤ length d)
  content-room t = (omega (arith, r.room, size-matched p content_len t), r.until_room)

module _ (fill : ℕ → List ℕ) (column : List ℕ) (content_len : ℕ) (p : Place) {until : ℕ} {d₀ : List ℕ} {at : ℕ} {d : List ℕ} where
  pub place_kept : p.matched ≡ false → Over (part column p.start.0 p.end.0) d₀ at until d → PlaceLaid fill column content_len p until d₀ at (at + (p.end.0 - p.start.0)) d
  place_kept u o = record { reached = rw (size-unmatched p content_len u); holds = rw (piece-unmatched fill p column u) o }

  pub place-filled : p.matched ≡ true → Over (fill p.end.0) d₀ at until d → PlaceLaid fill column content_len p until d₀ at (at + content_len) d
  place-filled t o = record { reached = rw (size-matched p content_len t); holds = rw (piece-matched fill p column t) o }

-- a place that is filled by the number that the column has before its end
pub carried-filled : (column : List ℕ) (content_len : ℕ) (p : Place) {until : ℕ} {d₀ : List ℕ} {at : ℕ} {d : List ℕ} {x : ℕ} → p.matched ≡ true
    → x ≡ before_end column p.end.0 → Over (replicate content_len x) d₀ at until d
    → PlaceLaid (carried content_len column) column content_len p until d₀ at (at + content_len) d
carried-filled column content_len p t is o = place-filled (carried content_len column) column content_len p t (rw is at o)

-- of a column the places before i are laid down, up to `at`
pub record Going (fill : ℕ → List ℕ) (column list : List ℕ) (content_len until : ℕ) (d₀ : List ℕ) (at i : ℕ) (d : List ℕ) : Type 0 where
  pub text : List ℕ
  pub long : length column ≡ length text
  pub wides : (e : ℕ) → length (fill e) ≡ content_len
  pub below : until ≤ length (laid fill (places_of list) column)
  pub from : ℕ
  pub covered : covers_from text from (places_of (drop i list)) ≡ true
  pub inside : i ≤ length list
  pub reaching : Reaching (laid fill (places_of list) column) (laid fill (places_of (drop i list)) column) d₀ at d

pub none_going : (fill : ℕ → List ℕ) {column list : List ℕ} {content_len until : ℕ} {d : List ℕ} → ((e : ℕ) → length (fill e) ≡ content_len) → ColumnReady column list content_len until d → Going fill column list content_len until d 0 0 d
none_going fill {column} {list} {content_len} wides r =
    let size : length (laid fill (places_of list) column) ≡ places_size content_len (places_of list) = length-laid r.text column fill content_len 0 (places_of list) r.long wides r.covered in
    record {
      text = r.text;
      long = r.long;
      wides = wides;
      below = omega (arith, r.below);
      from = 0;
      covered = r.covered;
      inside = omega arith;
      reaching = none-reached _ _ (omega (arith, r.room));
    }

module _ {fill : ℕ → List ℕ} {column list : List ℕ} {content_len until : ℕ} {d₀ : List ℕ} {at i : ℕ} {d : List ℕ} (g : Going fill column list content_len until d₀ at i d) where
  module _ {entry : Option (Place × ℕ)} {p : Place} {next : ℕ} (is : entry ≡ entry_at list i) (there : entry ≡ Some (p, next)) where
    step : Stepped list i p next
    step = entry-step list is there

    covered-here : covers_from g.text g.from (p ∷ places_of (drop next list)) ≡ true
    covered-here = rw step.places at g.covered

    size : length (piece fill p column) ≡ place_size content_len p
    size = length-piece g.text column fill content_len g.from p g.long g.wides (covers-first g.text g.from p (places_of (drop next list)) covered-here)

    here : Reaching (laid fill (places_of list) column) (piece fill p column ++ laid fill (places_of (drop next list)) column) d₀ at d
    unfolding laid
    here = rw step.places at g.reaching

    pub place-room : PlaceRoom column content_len p until d at
    place-room =
        let span : Span g.text g.from p = covers-span g.text g.from p (places_of (drop next list)) covered-here in
        record {
          onward = omega (arith, span.from, span.onward);
          inside = omega (arith, span.inside, g.long);
          room = omega (arith, here.room, size, length-append (piece fill p column) (laid fill (places_of (drop next list)) column));
          until_room = omega (arith, g.below, here.room, reaching-size here);
        }

    pub going_on : {at₁ : ℕ} {d₁ : List ℕ} → PlaceLaid fill column content_len p until d at at₁ d₁ → Going fill column list content_len until d₀ at₁ next d₁
    going_on l =
        record {
          text = g.text;
          long = g.long;
          wides = g.wides;
          below = g.below;
          from = p.end.0;
          covered = covers-rest g.text g.from p (places_of (drop next list)) covered-here;
          inside = step.most;
          reaching = run-reached (piece fill p column) _ here g.below (l.reached ∙ rw size) l.holds;
        }

    pub going_less : length list - next < length list - i
    going_less = omega (arith, step.onward, step.most)

  gone : places_of (drop i list) ≡ [] → ColumnLaid fill column list d₀ at d
  unfolding laid
  gone none =
      let all : Reaching (laid fill (places_of list) column) [] d₀ at d = rw none at g.reaching in
      record { reached = omega (arith, reaching-size all); holds = all-reached all }

  pub broken-gone : {entry : Option (Place × ℕ)} → i < length list → entry ≡ entry_at list i → entry ≡ None → ColumnLaid fill column list d₀ at d
  broken-gone h is e = gone (entry-broken list h is e).0

  pub all-gone : length list ≤ i → ColumnLaid fill column list d₀ at d
  all-gone h = gone (entries-end list h).0

-- as many elements for each place
pub carried-wide : (k : ℕ) (xs : List ℕ) (e : ℕ) → length (carried k xs e) ≡ k
carried-wide k xs e = length-replicate k (before_end xs e)

pub padded-wide : (padded : List ℕ) (content_len : ℕ) → content_len ≤ length padded → (e : ℕ) → length (part padded 0 content_len) ≡ content_len
padded-wide padded content_len h e = omega (arith, length_part padded 0 content_len h)

-- a content that is in front of its padding, or alone
pub content-padded : (content zeros : List ℕ) {padded : List ℕ} → padded ≡ splice zeros 0 content → part padded 0 (length content) ≡ content
content-padded content zeros is =
    let all : length content - 0 ≡ length content = omega arith in
    rw (is, all, splice-overlay zeros content) (take-overlay content zeros)

pub content-alone : (content : List ℕ) → part content 0 (length content) ≡ content
content-alone content = let all : length content - 0 ≡ length content = omega arith in rw all (take-length content)

pub filled-by : (text list d₀ : List ℕ) {a content : List ℕ} {r : ℕ} {d : List ℕ} → a ≡ content → ColumnLaid (λ end. a) text list d₀ r d → ColumnLaid (λ end. content) text list d₀ r d
filled-by text list d₀ is l = rw is at l

-- the three columns, one after the other, below a size
module _ {text starts ends list content out₀ starts₀ ends₀ : List ℕ} (r : Ready text starts ends list content out₀ starts₀ ends₀) {until : ℕ} (low : until ≤ places_size (length content) (places_of list)) where
  pub text_ready : ColumnReady text list (length content) until out₀
  text_ready = record { text = text; long = refl; covered = r.covered; room = r.text_room; below = low }

  pub starts_ready : ColumnReady starts list (length content) until starts₀
  starts_ready = record { text = text; long = r.one_start; covered = r.covered; room = r.starts_room; below = low }

  pub ends_ready : ColumnReady ends list (length content) until ends₀
  ends_ready = record { text = text; long = r.one_end; covered = r.covered; room = r.ends_room; below = low }
