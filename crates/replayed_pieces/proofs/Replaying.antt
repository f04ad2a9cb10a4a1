-- A call that was passed what its case's fields hold, and buffers that hold their fields' columns.
use Prim.Native.Nat.{ℕ}
use mathlib.Core.Path.{◌≡◌, ◌∙◌, ap}
use mathlib.Core.Bool.{Bool, ◌&&◌}
use mathlib.Core.List.{List}
use lib.Dec.{eqb}
use lib.ListN.{take}
use Rattle.buffers.specs.Same.{same}
use Rattle.buffers.specs.Splice.{Laid}
use Rattle.note.specs.Notes.{lent, limit}
use Rattle.convert.specs.Converting.{range_of}
use Rattle.split.specs.Splitting.{PieceColumns, columns}
use Rattle.piece_lines.specs.Printing.{printed}
use Rattle.stored_answers.specs.declared.calls.PairsCall.{PairsCall}
use Rattle.stored_answers.specs.declared.calls.PairsCall.TheVariants.{CharOffsetsAll, ConvertAll}
use Rattle.stored_answers.specs.Framing.{field_of}
use Rattle.stored_answers.specs.Differences.{offset_column}
use Rattle.stored_answers.specs.Lending.{number_at}
use Rattle.stored_answers.proofs.Framing.{both}
use Rattle.stored_answers.proofs.Splice.{take-laid}
use Rattle.zulmyren.specs.declared.answers.Cut.{Cut}
use Rattle.zulmyren.specs.declared.answers.Written.{Written}
use Rattle.zulmyren.specs.declared.answers.Slice.{Slice}
use Rattle.zulmyren.specs.Calls.{side_of, behavior_of, empty_of, unit_of}
use Rattle.zulmyren.specs.Promised.{CharOffsetsAllCall, ConvertAllCall, GetSplitsCall, SliceCall, SplitCall}
use Rattle.replayed_pieces.specs.Stored.{pairs_stored, slice_stored, pieces_stored, splits_stored}
use Rattle.replayed_pieces.specs.Replaying.{PairsReplayed, PairsTold, SliceReplayed, SplitReplayed, SplitsReplayed}

-- what was read of the note
module _ {case starts ends original normalized : List ℕ} {shift : ℕ} (o : original ≡ field_of 0 case) (n : normalized ≡ field_of 1 case) (k : shift ≡ number_at case 4) where
  pub slice-replayed :
      {side start end : ℕ} {s₀ e₀ s e : List ℕ} {a : Slice} {told first last : Bool} → side ≡ number_at case 5 → start ≡ number_at case 6
      → end ≡ number_at case 7 → SliceCall (lent original normalized starts ends shift) (range_of (side_of (eqb side 1)) start end) s₀ e₀ a s e
      → told ≡ slice_stored case 10 a → first ≡ same s (offset_column limit (field_of 16 case))
      → last ≡ same e (offset_column limit (field_of 17 case)) → SliceReplayed case starts ends s₀ e₀ ((told && first) && last)
  slice-replayed {s₀ = s₀} {e₀ = e₀} {s = s} {e = e} {a = a} f from to call t p q =
      record {
        answer = a;
        out_starts = s;
        out_ends = e;
        met = coe 0 1 (i. SliceCall (lent (o i) (n i) starts ends (k i)) (range_of (side_of (eqb (f i) 1)) (from i) (to i)) s₀ e₀ a s e) call;
        says = both (both t p) q;
      }

  module _ {list : List ℕ} {behavior : ℕ} (l : list ≡ field_of 5 case) (b : behavior ≡ number_at case 6) where
    pub split-replayed :
        {dropped : ℕ} {c₀ c : PieceColumns} {a : Cut} {told first last : Bool} → dropped ≡ number_at case 7
        → SplitCall (lent original normalized starts ends shift) list (behavior_of behavior) (empty_of (eqb dropped 1)) c₀ a c
        → told ≡ pieces_stored case 14 a c.starts c.ends c.shifts c.lengths
        → first ≡ same c.alignment_starts (offset_column limit (field_of 21 case))
        → last ≡ same c.alignment_ends (offset_column limit (field_of 22 case))
        → SplitReplayed case starts ends c₀ ((told && first) && last)
    split-replayed {c₀ = c₀} {c = c} {a = a} d call t p q =
        record {
          answer = a;
          out = c;
          met = coe 0 1 (i. SplitCall (lent (o i) (n i) starts ends (k i)) (l i) (behavior_of (b i)) (empty_of (eqb (d i) 1)) c₀ a c) call;
          says = both (both t p) q;
        }

    pub splits-replayed :
        {side unit : ℕ} {s₀ e₀ s e : List ℕ} {a : Written} {r : Bool} → side ≡ number_at case 7 → unit ≡ number_at case 8
        → GetSplitsCall (lent original normalized starts ends shift) list (behavior_of behavior) (side_of (eqb side 1)) (unit_of (eqb unit 1)) s₀ e₀ a s e
        → r ≡ splits_stored case 11 a s e → SplitsReplayed case starts ends s₀ e₀ r
    splits-replayed {s₀ = s₀} {e₀ = e₀} {s = s} {e = e} {a = a} f u call t =
        record {
          answer = a;
          out_starts = s;
          out_ends = e;
          met = coe 0 1 (i. GetSplitsCall (lent (o i) (n i) starts ends (k i)) (l i) (behavior_of (b i)) (side_of (eqb (f i) 1)) (unit_of (eqb (u i) 1)) s₀ e₀ a s e) call;
          says = t;
        }

-- a call on a list of pairs
module _ {call : PairsCall} {case starts ends from to n₀ s₀ e₀ : List ℕ} {a : ℕ} {n s e : List ℕ} where
  pub chars-told : {text : List ℕ} → call ≡ CharOffsetsAll → text ≡ field_of 0 case → CharOffsetsAllCall text from to n₀ s₀ e₀ a n s e → PairsTold call case starts ends from to n₀ s₀ e₀ a n s e
  chars-told is t call = record { met = rw is (coe 0 1 (i. CharOffsetsAllCall (t i) from to n₀ s₀ e₀ a n s e) call) }

  pub ranges-told :
      {original normalized : List ℕ} {shift side : ℕ} → call ≡ ConvertAll → original ≡ field_of 0 case
      → normalized ≡ field_of 1 case → shift ≡ number_at case 4 → side ≡ number_at case 5
      → ConvertAllCall (lent original normalized starts ends shift) (side_of (eqb side 1)) from to n₀ s₀ e₀ a n s e
      → PairsTold call case starts ends from to n₀ s₀ e₀ a n s e
  ranges-told is o t k f met = record { met = rw is (coe 0 1 (i. ConvertAllCall (lent (o i) (t i) starts ends (k i)) (side_of (eqb (f i) 1)) from to n₀ s₀ e₀ a n s e) met) }

  pub pairs-replayed : {index : ℕ} {r : Bool} → PairsTold call case starts ends from to n₀ s₀ e₀ a n s e → r ≡ pairs_stored case index a n s e → PairsReplayed call case index starts ends from to n₀ s₀ e₀ r
  pairs-replayed met told = record { answer = a; numbers = n; out_starts = s; out_ends = e; met = met; says = told }

-- passed buffers by what they hold
module _ {call : PairsCall} {case : List ℕ} {index : ℕ} {starts ends : List ℕ} {r : Bool} where
  pub answers-lent : {from to n₀ s₀ e₀ n s e : List ℕ} → n₀ ≡ n → s₀ ≡ s → e₀ ≡ e → PairsReplayed call case index starts ends from to n₀ s₀ e₀ r → PairsReplayed call case index starts ends from to n s e r
  answers-lent {from} {to} o p q w = coe 0 1 (i. PairsReplayed call case index starts ends from to (o i) (p i) (q i) r) w

  pub pairs-lent : {from₀ to₀ from to n s e : List ℕ} → from₀ ≡ from → to₀ ≡ to → PairsReplayed call case index starts ends from₀ to₀ n s e r → PairsReplayed call case index starts ends from to n s e r
  pairs-lent {n = n} {s = s} {e = e} p q w = coe 0 1 (i. PairsReplayed call case index starts ends (p i) (q i) n s e r) w

pub slice-lent : {case starts ends s₀ e₀ s e : List ℕ} {r : Bool} → s₀ ≡ s → e₀ ≡ e → SliceReplayed case starts ends s₀ e₀ r → SliceReplayed case starts ends s e r
slice-lent {case} {starts} {ends} {r = r} p q w = coe 0 1 (i. SliceReplayed case starts ends (p i) (q i) r) w

pub splits-lent : {case starts ends s₀ e₀ s e : List ℕ} {r : Bool} → s₀ ≡ s → e₀ ≡ e → SplitsReplayed case starts ends s₀ e₀ r → SplitsReplayed case starts ends s e r
splits-lent {case} {starts} {ends} {r = r} p q w = coe 0 1 (i. SplitsReplayed case starts ends (p i) (q i) r) w

module _ {case starts ends : List ℕ} {r : Bool} where
  pub alignments-lent : {a b c d s₀ e₀ s e : List ℕ} → s₀ ≡ s → e₀ ≡ e → SplitReplayed case starts ends (columns a b c d s₀ e₀) r → SplitReplayed case starts ends (columns a b c d s e) r
  alignments-lent {a} {b} {c} {d} p q w = coe 0 1 (i. SplitReplayed case starts ends (columns a b c d (p i) (q i)) r) w

  pub sizes-lent : {a b c d s₀ e₀ s e : List ℕ} → s₀ ≡ s → e₀ ≡ e → SplitReplayed case starts ends (columns a b s₀ e₀ c d) r → SplitReplayed case starts ends (columns a b s e c d) r
  sizes-lent {a} {b} {c} {d} p q w = coe 0 1 (i. SplitReplayed case starts ends (columns a b (p i) (q i) c d) r) w

  pub spans-lent : {a b c d s₀ e₀ s e : List ℕ} → s₀ ≡ s → e₀ ≡ e → SplitReplayed case starts ends (columns s₀ e₀ a b c d) r → SplitReplayed case starts ends (columns s e a b c d) r
  spans-lent {a} {b} {c} {d} p q w = coe 0 1 (i. SplitReplayed case starts ends (columns (p i) (q i) a b c d) r) w

-- what is printed of an input that was read, beside what the case stores
pub is-printed : (case : List ℕ) {input d₀ d : List ℕ} {end : ℕ} {r : Bool} → input ≡ field_of 0 case → Laid (printed input) d₀ 0 end d → r ≡ same (field_of 1 case) (take end d) → r ≡ same (field_of 1 case) (printed (field_of 0 case))
is-printed case is l e = e ∙ ap (same (field_of 1 case)) (take-laid l ∙ ap printed is)
