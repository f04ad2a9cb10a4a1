-- Laws of a text laid block by block: what has been laid, from a byte on.
use Prim.Native.Nat.{ℕ, ◌+◌, ◌-◌, ◌≤◌, ◌<◌}
use mathlib.Core.Path.{◌≡◌, ◌∙◌, ap, refl, sym}
use mathlib.Core.Bool.{Bool, true, false, ◌&&◌, not}
use mathlib.Core.List.{List, [], ◌++◌, append_assoc, append-nil}
use native.Mathlib.Omega.{arith}
use lib.ListN.{length, get_or, drop, length-append, drop_of_length-le}
use borrow.Author.Tests.{not-true}
use Rattle.buffers.specs.Every.{every_below}
use Rattle.buffers.specs.Splice.{part, splice, overlay, Laid}
use Rattle.buffers.proofs.Every.{every-suc, every-at}
use Rattle.buffers.proofs.Splice.{length_part, part-index, laid-length, laid-after, splice-nil, splice-overlay}
use Rattle.map_columns.specs.declared.Reached.{Reached}
use Rattle.lowercase.specs.Laying.{begins_latin, lowered_each, none_latin, lowered_bytes, LowerRoom, WalkLaid}
use Rattle.lowercase.proofs.Bytes.{lowered_none, lowered-alone, length-each}

-- the bytes from `from` up to i, and what is in the buffer up to `at`
pub record Running (s : List ℕ) (from : ℕ) (out₀ : List ℕ) (start : ℕ) (out : List ℕ) (i at : ℕ) : Type 0 where
  pub given : List ℕ
  pub cut : lowered_bytes (drop from s) ≡ given ++ lowered_bytes (drop i s)
  pub laid : Laid given out₀ start at out
  pub inside : i ≤ length s

pub none-run : {s : List ℕ} {from : ℕ} {out₀ : List ℕ} {start : ℕ} → from ≤ length s → Running s from out₀ start out₀ from start
none-run {out₀ = out₀} {start} h =
    record { given = []; cut = refl; laid = record { reach = omega arith; holds = sym (splice-nil out₀ start) }; inside = h }

module _ {s : List ℕ} {from : ℕ} {table out₀ : List ℕ} {start : ℕ} (r : LowerRoom s from table out₀ start) {out : List ℕ} {i at : ℕ} (k : Running s from out₀ start out i at) where
  cut-length : length (lowered_bytes (drop from s)) ≡ length k.given + length (lowered_bytes (drop i s))
  cut-length = ap length k.cut ∙ length-append k.given (lowered_bytes (drop i s))

  pub same-room : length out ≡ length out₀
  same-room = laid-length k.laid (omega (arith, r.room, cut-length))

  -- the room that is left
  pub run_room : LowerRoom s i table out at
  run_room = record { formed = r.formed; inside = k.inside; tabled = r.tabled; room = omega (arith, r.room, cut-length, same-room, k.laid.reach) }

  -- one piece more
  pub run_on : (piece : List ℕ) {j at₁ : ℕ} {out₁ : List ℕ} → lowered_bytes (drop i s) ≡ piece ++ lowered_bytes (drop j s) → Laid piece out at at₁ out₁ → j ≤ length s → Running s from out₀ start out₁ j at₁
  run_on piece {j} here more h =
      record {
        given = k.given ++ piece;
        cut = k.cut ∙ rw here (sym (append_assoc k.given piece (lowered_bytes (drop j s))));
        laid = laid-after k.laid more (omega (arith, r.room));
        inside = h;
      }

  pub run-after : {to : ℕ} {reached : Reached} {out₁ : List ℕ} → WalkLaid s i to out at reached out₁ → Running s from out₀ start out₁ reached.position reached.written
  run-after l = run_on l.given l.cut l.laid l.inside

-- the whole text
pub run-all : {s table out₀ : List ℕ} → LowerRoom s 0 table out₀ 0 → {out : List ℕ} {i at : ℕ} → Running s 0 out₀ 0 out i at → length s ≤ i → out ≡ overlay (lowered_bytes s) out₀
run-all {s} {out₀ = out₀} r {i = i} k done =
    let all : lowered_bytes s ≡ k.given = k.cut ∙ rw (drop_of_length-le s done, lowered_none) (append-nil k.given) in
    k.laid.holds ∙ splice-overlay out₀ k.given ∙ rw all

-- A BLOCK of bytes that each give one: the test of it, byte by byte
pub record Tested (s : List ℕ) (none : Bool) (i : ℕ) : Type 0 where
  pub most : i ≤ length s
  pub so_far : none ≡ every_below i (λ k. not (begins_latin (get_or s k 0)))

pub none-tested : {s : List ℕ} → Tested s true 0
unfolding every_below
none-tested = record { most = omega arith; so_far = refl }

pub one-tested : {s : List ℕ} {none t : Bool} {i : ℕ} → Tested s none i → i < length s → t ≡ begins_latin (get_or s i 0) → Tested s (none && not t) (i + 1)
one-tested {s} {i = i} k h is =
    record { most = omega arith; so_far = rw (k.so_far, is) (sym (every-suc i (λ j. not (begins_latin (get_or s j 0))))) }

pub all_tested : {s : List ℕ} {none : Bool} {i : ℕ} → Tested s none i → length s ≤ i → none ≡ none_latin s
unfolding none_latin
all_tested {s} {i = i} k past = let end : i ≡ length s = omega (arith, k.most) in rw end at k.so_far

none-at : (s : List ℕ) → none_latin s ≡ true → (i : ℕ) → i < length s → begins_latin (get_or s i 0) ≡ false
unfolding none_latin
none-at s all i h = not-true (begins_latin (get_or s i 0)) (every-at (length s) (λ k. not (begins_latin (get_or s k 0))) all i h)

pub block-given : (s : List ℕ) (i e : ℕ) → i ≤ e → e ≤ length s → none_latin (part s i e) ≡ true → lowered_bytes (drop i s) ≡ lowered_each (part s i e) ++ lowered_bytes (drop e s)
block-given s i e onward inside none =
    let long : length (part s i e) ≡ e - i = length_part s i e inside in
    let z : i + (e - i) ≡ e = omega arith in
    rw z at (lowered-alone s (e - i) i (omega arith) (λ k a b. let y : i + (k - i) ≡ k = omega arith in rw (part-index s i e (k - i) (omega arith), y) at (none-at (part s i e) none (k - i) (omega arith))))

module _ {s : List ℕ} {from : ℕ} {table out₀ : List ℕ} {start : ℕ} (r : LowerRoom s from table out₀ start) {out : List ℕ} {i at : ℕ} (k : Running s from out₀ start out i at)
    (e : ℕ) (onward : i ≤ e) (inside : e ≤ length s) {t : Bool} (is : t ≡ none_latin (part s i e)) (none : t ≡ true) where
  block : lowered_bytes (drop i s) ≡ lowered_each (part s i e) ++ lowered_bytes (drop e s)
  block = block-given s i e onward inside (sym is ∙ none)

  long : length (lowered_each (part s i e)) ≡ e - i
  long = length-each (part s i e) ∙ length_part s i e inside

  pub block_room : at + length (part s i e) ≤ length out
  block_room =
      omega (arith, (run_room r k).room, ap length block, length-append (lowered_each (part s i e)) (lowered_bytes (drop e s)), length-each (part s i e))

  pub run-block : {at₁ : ℕ} {out₁ : List ℕ} → at₁ ≡ at + (e - i) → out₁ ≡ splice out at (lowered_each (part s i e)) → Running s from out₀ start out₁ e at₁
  run-block far now = run_on r k (lowered_each (part s i e)) block (record { reach = omega (arith, far, long); holds = now }) inside
