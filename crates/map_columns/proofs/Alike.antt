-- Laws of `sameLeads`: compared byte by byte; and where it holds, the columns are copied.
use Prim.Native.Nat.{ℕ, ◌+◌, ◌-◌, ◌≤◌, ◌<◌}
use mathlib.Core.Path.{◌≡◌, refl, sym}
use mathlib.Core.Bool.{Bool, true, ◌&&◌, beq}
use mathlib.Core.List.{List}
use native.Mathlib.Omega.{arith}
use lib.ListN.{length, get_or}
use Rattle.buffers.specs.Every.{every_below}
use Rattle.buffers.specs.Splice.{part, splice}
use Rattle.buffers.proofs.Booleans.{beq_same}
use Rattle.buffers.proofs.Every.{every-suc, every-at}
use Rattle.buffers.proofs.Splice.{length_part, part-index}
use Rattle.buffers.proofs.Over.{over-exact}
use Rattle.utf8.specs.Formed.{continues}
use Rattle.code_point_blocks.specs.Codes.{text_of}
use Rattle.code_point_blocks.specs.Laying.{TextLaid}
use Rattle.code_point_blocks.proofs.Parts.{over-run}
use Rattle.map_columns.specs.Laying.{same_leads, CodesRoom, CodesLaid}
use Rattle.map_columns.proofs.Spread.{copied}

-- the bytes before i
pub record Alike (a b : List ℕ) (ok : Bool) (i : ℕ) : Type 0 where
  pub most : i ≤ length a
  pub so_far : ok ≡ every_below i (λ k. beq (continues (get_or a k 0)) (continues (get_or b k 0)))

pub none_alike : {a b : List ℕ} → Alike a b true 0
unfolding every_below
none_alike = record { most = omega arith; so_far = refl }

pub one_alike : {a b : List ℕ} {ok : Bool} {i : ℕ} → Alike a b ok i → i < length a → {t u : Bool} → t ≡ continues (get_or a i 0) → u ≡ continues (get_or b i 0) → Alike a b (ok && beq t u) (i + 1)
one_alike {a} {b} {ok} {i} k h is also =
    record { most = omega arith; so_far = rw (k.so_far, is, also) (sym (every-suc i (λ j. beq (continues (get_or a j 0)) (continues (get_or b j 0))))) }

pub all_alike : {a b : List ℕ} {ok : Bool} {i : ℕ} → Alike a b ok i → length a ≤ i → ok ≡ same_leads a b
unfolding same_leads
all_alike {a} {i = i} k past = let end : i ≡ length a = omega (arith, k.most) in rw end at k.so_far

same_at : (a b : List ℕ) → same_leads a b ≡ true → (i : ℕ) → i < length a → continues (get_or a i 0) ≡ continues (get_or b i 0)
unfolding same_leads
same_at a b all i h = beq_same (continues (get_or a i 0)) (continues (get_or b i 0)) (every-at (length a) (λ k. beq (continues (get_or a k 0)) (continues (get_or b k 0))) all i h)

module _ {s starts ends : List ℕ} {p : ℕ} {codes out₀ starts₀ ends₀ : List ℕ} {from until : ℕ} (r : CodesRoom s starts ends p codes out₀ starts₀ ends₀ from until) {written : ℕ} {out starts₁ ends₁ : List ℕ} (l : TextLaid codes out₀ from until written out) where
  pub columns-copied : written - from ≤ length s - p → same_leads (part s p (p + (written - from))) (part out from written) ≡ true
      → starts₁ ≡ splice starts₀ from (part starts p (p + (written - from))) → ends₁ ≡ splice ends₀ from (part ends p (p + (written - from)))
      → CodesLaid s starts ends p codes out₀ starts₀ ends₀ from until (record { position = p + (written - from); written = written }) out starts₁ ends₁
  columns-copied fits same st en =
      let n : ℕ = length (text_of codes) in
      let size : written - from ≡ n = omega (arith, l.reached) in
      let inside : p + n ≤ length s = omega (arith, r.chars_room.inside) in
      let bytes : part out from written ≡ text_of codes = rw l.reached (over-run l.over (omega (arith, r.room))) in
      let alike : (i : ℕ) → i < n → continues (get_or s (p + i) 0) ≡ continues (get_or (text_of codes) i 0) =
      λ i h.
      let long : length (part s p (p + (written - from))) ≡ p + (written - from) - p = length_part s p (p + (written - from)) (omega arith) in
      rw (part-index s p (p + (written - from)) i (omega arith), bytes) at (same_at (part s p (p + (written - from))) (part out from written) same i (omega arith)) in
      let first = copied s starts r.chars_room.starts_room.one_each r.steady_starts codes p r.scalars inside alike in
      let last = copied s ends r.chars_room.ends_room.one_each r.steady_ends codes p r.scalars inside alike in
      let wide-starts : length (part starts p (p + n)) ≡ p + n - p = length_part starts p (p + n) (omega (arith, r.chars_room.starts_room.one_each)) in
      let wide-ends : length (part ends p (p + n)) ≡ p + n - p = length_part ends p (p + n) (omega (arith, r.chars_room.ends_room.one_each)) in
      record {
        written_is = l.reached;
        text_over = l.over;
        chars_laid =
            record {
              passed = record { most = omega arith; counted = rw size first.1 };
              starts_over = rw first.0 (over-exact (part starts p (p + n)) starts₀ from until (omega (arith, r.chars_room.starts_room.room)) (rw size at st));
              ends_over = rw last.0 (over-exact (part ends p (p + n)) ends₀ from until (omega (arith, r.chars_room.ends_room.room)) (rw size at en));
            };
      }
