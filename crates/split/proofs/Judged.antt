-- Laws of `splitFaults`: what the call says by the checks that were made, what an accepted call tells, and the call.
use Prim.Native.Nat.{ℕ, ◌+◌, ◌≤◌, ◌<◌, min}
use mathlib.Core.Path.{◌≡◌, ◌∙◌, ap, refl, sym}
use mathlib.Core.Bool.{Bool, true, false, not}
use mathlib.Core.List.{List}
use native.Mathlib.Omega.{arith}
use lib.ListN.{length, take, length-map}
use borrow.Author.Tests.{not-true, not-false, le-leb, lt-leb}
use Rattle.std.specs.Prelude.{Result, Ok, Err}
use Rattle.buffers.proofs.Cases.{ok-parts}
use Rattle.buffers.proofs.Splice.{take-overlay, overlay-long, length-overlay, overlay-overlay}
use Rattle.note.specs.declared.Refusal.{Refusal}
use Rattle.note.specs.declared.Refusal.TheVariants.{BadMatches, NoRoom, Misaligned}
use Rattle.note.specs.Refusals.{also, verdict, unless_refused, Verdict, Accepted}
use Rattle.note.specs.Notes.{Note, fits, Sound}
use Rattle.note.specs.Faults.{note_faults, room_faults}
use Rattle.note.specs.Rank.{up_to}
use Rattle.note.proofs.FirstMet.{accepted-first, accepted-second, accepted-meets, refused-then, accepted-then}
use Rattle.note.proofs.Faults.{accepted-sound, room-enough}
use Rattle.note.proofs.Sound.{length-starts, length-ends}
use Rattle.pattern.specs.declared.Place.{Place}
use Rattle.pattern.specs.Entries.{places_of, whole_list as unbroken}
use Rattle.pattern.specs.Places.{covers_from, covers, list_faults}
use Rattle.pattern.proofs.Places.{covers-places, covers-whole}
use Rattle.slice.proofs.Judged.{Short, accepted-short}
use Rattle.behaviors.specs.declared.SplitDelimiterBehavior.{SplitDelimiterBehavior}
use Rattle.behaviors.specs.declared.EmptyPieces.{EmptyPieces}
use Rattle.behaviors.specs.declared.Sizes.{Sizes}
use Rattle.behaviors.specs.Joining.{starts_of, ends_of}
use Rattle.behaviors.specs.Runs.{total_length, sizes_with, list_pieces, Listed}
use Rattle.behaviors.proofs.Runs.{pieces-few}
use Rattle.spans.specs.Packing.{packed_span, packed_of, SpansRoom, SpansLaid}
use Rattle.split.specs.Splitting.{PieceColumns, cut_by, split_faults, cut_sizes, piece_room, alignment_room, Splitting}
use Rattle.split.specs.PieceSlices.{bytes_before}
use Rattle.split.specs.Writing.{PieceSpans, ColumnsRoom, ColumnsLaid, Countable, CutInto}
use Rattle.split.proofs.Cuts.{pieces-spans, pieces-short, bytes_counted, in_order, starts-above, ends_above, shifts_are, lengths_are, alignment-starts-are, alignment-ends-are, starts_long, ends_long, alignments-long, starts_are, ends_are, pieces-long, shifts-long}

-- the list, then the two rooms
module _ (text list : List ℕ) (pieces alignments for_pieces for_alignments : ℕ) where
  abbrev results : Refusal → Bool
  results = also (list_faults text list) (also (room_faults pieces for_pieces) (room_faults alignments for_alignments))

  bad-list : covers text list ≡ false → Err BadMatches ≡ verdict results
  unfolding verdict
  bad-list c = rw c

  module _ (c : covers text list ≡ true) where
    bad-pieces : for_pieces < pieces → Err NoRoom ≡ verdict results
    unfolding verdict
    bad-pieces h = rw (c, lt-leb pieces for_pieces h)

    bad-alignments : pieces ≤ for_pieces → for_alignments < alignments → Err NoRoom ≡ verdict results
    unfolding verdict
    bad-alignments fits h = rw (c, le-leb pieces for_pieces fits, lt-leb alignments for_alignments h)

    good-rooms : pieces ≤ for_pieces → alignments ≤ for_alignments → Accepted ≡ verdict results
    unfolding verdict
    good-rooms fits h = rw (c, le-leb pieces for_pieces fits, le-leb alignments for_alignments h)

-- a list that was judged can be measured
pub measurable : (most : ℕ) (n : Note) (list : List ℕ) {v : Verdict} → v ≡ verdict (note_faults most n) → v ≡ Accepted → {t : Bool} → t ≡ covers n.normalized list → not t ≡ false → Listed most list
measurable most n list noted ok {t = t} covering is =
    record {
      text = n.normalized;
      short = (accepted-short most n (accepted-sound most n (sym noted ∙ ok)).1).normalized_short;
      covered = covers-places n.normalized list (sym covering ∙ not-false t is);
    }

-- THE CHECKS, one after the other
module _ (most : ℕ) (n : Note) (list : List ℕ) (b : SplitDelimiterBehavior) (e : EmptyPieces) (for_pieces for_alignments : ℕ) {v : Verdict} (noted : v ≡ verdict (note_faults most n)) where
  abbrev listed : Refusal → Bool
  listed = results n.normalized list (length (cut_by n list b e).starts) (length (cut_by n list b e).alignment_starts) for_pieces for_alignments

  abbrev said : Verdict
  said = verdict (split_faults most n list b e for_pieces for_alignments)

  pub note-refused : {k : Refusal} → v ≡ Err k → Err k ≡ said
  note-refused is = refused-then (up_to Misaligned) (note_faults most n) listed refl refl noted is

  module _ (ok : v ≡ Accepted) {t : Bool} (covering : t ≡ covers n.normalized list) where
    by-list : (u : Verdict) → u ≡ verdict listed → u ≡ said
    by-list u w = accepted-then (up_to Misaligned) (note_faults most n) listed refl refl noted ok w

    pub list-refused : not t ≡ true → Err BadMatches ≡ said
    list-refused is = by-list (Err BadMatches) (bad-list n.normalized list _ _ for_pieces for_alignments (sym covering ∙ not-true t is))

    module _ (is : not t ≡ false) where
      covers-it : covers n.normalized list ≡ true
      covers-it = sym covering ∙ not-false t is

      sound : Sound n
      sound = (accepted-sound most n (sym noted ∙ ok)).0

      bytes-long : length (cut_by n list b e).alignment_starts ≡ total_length (list_pieces b e list)
      bytes-long = alignments-long n sound (list_pieces b e list) (pieces-spans n.normalized b e (places_of list) (covers-places n.normalized list covers-it))

      -- as many pieces as places, and no more bytes than the text has
      pub roomy-accepted : {places : ℕ} → length (places_of list) ≤ places → places ≤ for_pieces → length n.normalized ≤ for_alignments → Accepted ≡ said
      roomy-accepted few fits short =
          by-list Accepted
          (good-rooms n.normalized list _ _ for_pieces for_alignments covers-it (omega (arith, pieces-long n (list_pieces b e list), pieces-few b e (places_of list)))
          (omega (arith, bytes-long, pieces-short n.normalized b e (places_of list) (covers-places n.normalized list covers-it))))

      module _ {s : Sizes} (sizes : s ≡ sizes_with (record { pieces = 0; bytes = 0 }) (list_pieces b e list)) where
        count_is : s.pieces ≡ length (cut_by n list b e).starts
        unfolding sizes_with
        count_is =
            let z : s.pieces ≡ 0 + length (list_pieces b e list) = ap (λ (x : Sizes). x.pieces) sizes in
            omega (arith, z, pieces-long n (list_pieces b e list))

        bytes_are : s.bytes ≡ length (cut_by n list b e).alignment_starts
        unfolding sizes_with
        bytes_are =
            let z : s.bytes ≡ 0 + total_length (list_pieces b e list) = ap (λ (x : Sizes). x.bytes) sizes in
            omega (arith, z, bytes-long)

        pub no-piece-room : for_pieces < s.pieces → Err NoRoom ≡ said
        no-piece-room h = by-list (Err NoRoom) (bad-pieces n.normalized list _ _ for_pieces for_alignments covers-it (omega (arith, count_is)))

        pub no-alignment-room : s.pieces ≤ for_pieces → for_alignments < s.bytes → Err NoRoom ≡ said
        no-alignment-room fits h =
            by-list (Err NoRoom) (bad-alignments n.normalized list _ _ for_pieces for_alignments covers-it (omega (arith, count_is)) (omega (arith, bytes_are)))

        pub all-accepted : s.pieces ≤ for_pieces → s.bytes ≤ for_alignments → Accepted ≡ said
        all-accepted fits short =
            by-list Accepted (good-rooms n.normalized list _ _ for_pieces for_alignments covers-it (omega (arith, count_is)) (omega (arith, bytes_are)))

-- AN ACCEPTED CALL
module _ (most : ℕ) (n : Note) (list : List ℕ) (b : SplitDelimiterBehavior) (e : EmptyPieces) (for_pieces for_alignments : ℕ) (ok : verdict (split_faults most n list b e for_pieces for_alignments) ≡ Accepted) where
  abbrev rooms : Refusal → Bool
  rooms = also (room_faults (length (cut_by n list b e).starts) for_pieces) (room_faults (length (cut_by n list b e).alignment_starts) for_alignments)

  note-ok : verdict (note_faults most n) ≡ Accepted
  note-ok = accepted-first (note_faults most n) (also (list_faults n.normalized list) rooms) ok

  pub cut-sound : Sound n
  cut-sound = (accepted-sound most n note-ok).0

  pub cut_short : Short most n
  cut_short = accepted-short most n (accepted-sound most n note-ok).1

  rest_ok : verdict (also (list_faults n.normalized list) rooms) ≡ Accepted
  rest_ok = accepted-second (note_faults most n) (also (list_faults n.normalized list) rooms) ok

  covers-list : covers n.normalized list ≡ true
  covers-list =
      not-false (covers n.normalized list)
      (accepted-meets (list_faults n.normalized list) (accepted-first (list_faults n.normalized list) rooms rest_ok) BadMatches)

  pub cut-covered : covers_from n.normalized 0 (places_of list) ≡ true
  cut-covered = covers-places n.normalized list covers-list

  pub cut-unbroken : unbroken list ≡ true
  cut-unbroken = covers-whole n.normalized list covers-list

  rooms-ok : verdict rooms ≡ Accepted
  rooms-ok = accepted-second (list_faults n.normalized list) rooms rest_ok

  pub cut-spans : PieceSpans (length n.normalized) (starts_of (list_pieces b e list)) (ends_of (list_pieces b e list))
  cut-spans = pieces-spans n.normalized b e (places_of list) cut-covered

  pub pieces-fit : length (list_pieces b e list) ≤ for_pieces
  pieces-fit =
      let size : ℕ = length (cut_by n list b e).starts in
      let first = accepted-first (room_faults size for_pieces) (room_faults (length (cut_by n list b e).alignment_starts) for_alignments) rooms-ok in
      omega (arith, pieces-long n (list_pieces b e list), room-enough size for_pieces first)

  pub alignments-fit : total_length (list_pieces b e list) ≤ for_alignments
  alignments-fit =
      let size : ℕ = length (cut_by n list b e).alignment_starts in
      let second = accepted-second (room_faults (length (cut_by n list b e).starts) for_pieces) (room_faults size for_alignments) rooms-ok in
      omega (arith, alignments-long n cut-sound (list_pieces b e list) cut-spans, room-enough size for_alignments second)

module _ (most : ℕ) (n : Note) (list : List ℕ) (b : SplitDelimiterBehavior) (e : EmptyPieces) (c : PieceColumns) (ok : verdict (split_faults most n list b e (piece_room c) (alignment_room c)) ≡ Accepted) where
  abbrev ps : List Place
  ps = list_pieces b e list

  fit : length ps ≤ piece_room c
  fit = pieces-fit most n list b e (piece_room c) (alignment_room c) ok

  long : total_length ps ≤ alignment_room c
  long = alignments-fit most n list b e (piece_room c) (alignment_room c) ok

  good : Sound n
  good = cut-sound most n list b e (piece_room c) (alignment_room c) ok

  inside : PieceSpans (length n.normalized) (starts_of ps) (ends_of ps)
  inside = cut-spans most n list b e (piece_room c) (alignment_room c) ok

  pub spans-room : SpansRoom most list b e c.shifts c.starts c.ends
  spans-room =
      record {
        packed_room = record {
          listed = record { text = n.normalized; short = (cut_short most n list b e (piece_room c) (alignment_room c) ok).normalized_short; covered = cut-covered most n list b e (piece_room c) (alignment_room c) ok };
          unbroken = cut-unbroken most n list b e (piece_room c) (alignment_room c) ok;
          room = omega (arith, fit);
        };
        starts_room = omega (arith, fit);
        ends_room = omega (arith, fit);
      }

  module _ {count : ℕ} {packings starts ends : List ℕ} (l : SpansLaid ps c.shifts c.starts c.ends count packings starts ends) where
    packings-long : length packings ≡ length c.shifts
    packings-long = rw l.spans_are (length-overlay (packed_of ps) c.shifts (rw (length-map ps packed_span) (omega (arith, fit))))

    starts-count : length (starts_of ps) ≡ count
    starts-count = length-map ps (λ (p : Place). p.start.0) ∙ sym l.reach

    ends-count : length (ends_of ps) ≡ count
    ends-count = length-map ps (λ (p : Place). p.end.0) ∙ sym l.reach

    pub from-long : count ≤ length starts
    from-long = rw l.starts_are (omega (arith, starts-count, overlay-long (starts_of ps) c.starts))

    pub to-long : count ≤ length ends
    to-long = rw l.ends_are (omega (arith, ends-count, overlay-long (ends_of ps) c.ends))

    from_is : take count starts ≡ starts_of ps
    from_is = rw (l.starts_are, ← starts-count) (take-overlay (starts_of ps) c.starts)

    to_is : take count ends ≡ ends_of ps
    to_is = rw (l.ends_are, ← ends-count) (take-overlay (ends_of ps) c.ends)

    spans-of : PieceSpans (length n.starts) (starts_of ps) (ends_of ps)
    spans-of = rw (length-starts n good) inside

    pub countable : Countable most (take count starts) (take count ends)
    countable =
        rw (from_is, to_is)
        (record {
          paired = inside.paired;
          forward = λ k h. (inside.each k h).forward;
          few = rw (length-map ps (λ (p : Place). p.start.0)) (omega (arith, bytes_counted ps, pieces-short n.normalized b e (places_of list) (cut-covered most n list b e (piece_room c) (alignment_room c) ok), (cut_short most n list b e (piece_room c) (alignment_room c) ok).normalized_short));
        })

    module _ {alignments : ℕ} (total : alignments ≡ bytes_before (take count starts) (take count ends) (length (take count starts))) where
      total_is : alignments ≡ total_length ps
      total_is = total ∙ rw (from_is, to_is, length-map ps (λ (p : Place). p.start.0)) (bytes_counted ps)

      pub columns-room : ColumnsRoom most n.starts n.ends (take count starts) (take count ends) n.original_shift alignments packings c.lengths c.alignment_starts c.alignment_ends
      columns-room =
          rw (from_is, to_is)
          (record {
            shifts_room = record {
              spans = spans-of;
              low = (cut_short most n list b e (piece_room c) (alignment_room c) ok).shift_low;
              room = omega (arith, fit, starts-count, l.reach, packings-long);
            };
            lengths_room = record {
              spans = spans-of;
              one_end = length-ends n good ∙ sym (length-starts n good);
              ordered = λ k h. in_order n good _ _ (inside.each k h);
              room = omega (arith, fit, starts-count, l.reach);
            };
            starts_room = record {
              spans = spans-of;
              one_each = refl;
              above = λ k i h some low high. starts-above n good _ _ (inside.each k h) some i low (omega (arith, length-starts n good));
              below = omega (arith, total_is, starts_long n good ps inside);
              room = omega (arith, long, starts_long n good ps inside);
            };
            ends_room = record {
              spans = spans-of;
              one_each = length-ends n good ∙ sym (length-starts n good);
              above = λ k i h some low high. ends_above n good _ _ (inside.each k h) some i low (omega (arith, length-ends n good));
              below = omega (arith, total_is, ends_long n good ps inside);
              room = omega (arith, long, ends_long n good ps inside);
            };
          })

      pub all-cut : {shifts lengths alignment_starts alignment_ends : List ℕ}
          → ColumnsLaid n.starts n.ends (take count starts) (take count ends) n.original_shift packings c.lengths c.alignment_starts c.alignment_ends shifts lengths alignment_starts alignment_ends
          → CutInto n list b e c (Ok (count, alignments)) (record { starts = starts; ends = ends; shifts = shifts; lengths = lengths; alignment_starts = alignment_starts; alignment_ends = alignment_ends })
      all-cut w =
          let counts : count ≡ length (cut_by n list b e).starts = l.reach ∙ sym (pieces-long n ps) in
          let bytes : alignments ≡ length (cut_by n list b e).alignment_starts = total_is ∙ sym (alignments-long n good ps inside) in
          record {
            answer = λ i. Ok (counts i, bytes i);
            starts_are = l.starts_are ∙ rw (starts_are n ps);
            ends_are = l.ends_are ∙ rw (ends_are n ps);
            shifts_are = w.shifts_are ∙ rw (from_is, to_is, shifts_are n good ps inside, l.spans_are) (overlay-overlay _ (packed_of ps) c.shifts (ap length (sym (shifts_are n good ps inside)) ∙ shifts-long n ps packed_span));
            lengths_are = w.lengths_are ∙ rw (from_is, to_is, lengths_are n good ps inside);
            alignment-starts-are = w.starts_are ∙ rw (from_is, to_is, alignment-starts-are n good ps inside);
            alignment-ends-are = w.ends_are ∙ rw (from_is, to_is, alignment-ends-are n good ps inside);
          }

-- THE CALL
pub cut-told : (v : Verdict) (c : PieceColumns) {x y : ℕ} → ◌≡◌ {A = Result (ℕ × ℕ) Refusal} (Ok (x, y)) (unless_refused Err v (cut_sizes c)) → v ≡ Accepted
cut-told (Ok tt) c e = refl
cut-told (Err k) c e = let z : ◌≡◌ {A = ℕ} 0 1 = cc in absurd (omega arith)

pub count-told : {v : Verdict} (c : PieceColumns) {x y : ℕ} → v ≡ Accepted → ◌≡◌ {A = Result (ℕ × ℕ) Refusal} (Ok (x, y)) (unless_refused Err v (cut_sizes c)) → x ≡ length c.starts
count-told c {x = x} {y = y} a e = let z : ◌≡◌ {A = Result (ℕ × ℕ) Refusal} (Ok (x, y)) (Ok (length c.starts, length c.alignment_starts)) = rw a at e in (ok-parts z).0

module _ (most : ℕ) (n : Note) (list : List ℕ) (b : SplitDelimiterBehavior) (e : EmptyPieces) (c : PieceColumns) {v : Verdict} {spans numbers for_pieces for_alignments : ℕ}
    (first : spans ≡ min (length c.starts) (length c.ends)) (second : numbers ≡ min (length c.shifts) (length c.lengths)) (third : for_pieces ≡ min spans numbers) (fourth : for_alignments ≡ alignment_room c)
    (says : v ≡ verdict (split_faults most n list b e for_pieces for_alignments)) where
  whole : v ≡ verdict (split_faults most n list b e (piece_room c) (alignment_room c))
  whole = says ∙ rw (third, first, second, fourth)

  pub split-refused : {k : Refusal} → v ≡ Err k → Splitting most n list b e c (Err k) c
  split-refused {k} is =
      record {
        says = Err k;
        says_is = sym is ∙ whole;
        answer = refl;
        starts_are = refl;
        ends_are = refl;
        shifts_are = refl;
        lengths_are = refl;
        alignment-starts-are = refl;
        alignment-ends-are = refl;
      }

  module _ (is : v ≡ Accepted) where
    pub split-accepted : verdict (split_faults most n list b e (piece_room c) (alignment_room c)) ≡ Accepted
    split-accepted = sym whole ∙ is

    pub split-cut : {r : Result (ℕ × ℕ) Refusal} {c₁ : PieceColumns} → CutInto n list b e c r c₁ → Splitting most n list b e c r c₁
    split-cut w =
        record {
          says = Accepted;
          says_is = sym split-accepted;
          answer = w.answer;
          starts_are = w.starts_are;
          ends_are = w.ends_are;
          shifts_are = w.shifts_are;
          lengths_are = w.lengths_are;
          alignment-starts-are = w.alignment-starts-are;
          alignment-ends-are = w.alignment-ends-are;
        }
