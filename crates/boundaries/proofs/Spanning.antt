-- Laws of `leadLen`, `leadsBelow`, `spansBelow` and `StartsInside`: an alignment that is one whole character cuts none.
use Prim.Native.Nat.{ℕ, zero, suc, ◌+◌, ◌-◌, ◌≤◌, ◌<◌}
use mathlib.Core.Path.{◌≡◌, ◌∙◌, ap, refl, sym}
use mathlib.Core.Bool.{Bool, true, false, ◌&&◌, ◌||◌, not}
use mathlib.Core.List.{List}
use mathlib.Mathlib.Data.Bool.Basic.{and_intro, and_elim_left, and_elim_right}
use borrow.Author.Tests.{leb-true, eqb-true, not-true, not-false}
use native.Mathlib.Omega.{arith}
use lib.Dec.{leb, eqb}
use lib.ListN.{length, get_or, length-take, length-drop}
use lib.Bits.{bit_or, bit_xor}
use Rattle.buffers.specs.Every.{every_below}
use Rattle.buffers.specs.Splice.{part}
use Rattle.buffers.specs.Columns.{Filled}
use Rattle.buffers.proofs.Booleans.{and-false-l}
use Rattle.buffers.proofs.Every.{every-suc, every-add, every-at, every-all, every-ext}
use Rattle.buffers.proofs.Splice.{part-index}
use Rattle.utf8.specs.Formed.{announced, continues, well_formed}
use Rattle.utf8.proofs.Boundaries.{boundary-at, boundary-begins, char-at}
use Rattle.boundaries.specs.Monotone.{follows, monotone_at, monotone, uncut, uncut_below}
use Rattle.utf8.specs.Lengths.{lead_len}
use Rattle.utf8.proofs.LeadLen.{lead-len-right}
use Rattle.boundaries.specs.Spanning.{leads_below, spans_below, StartsInside}
use Rattle.boundaries.proofs.Zeros.{or-none, xor-none}

spans-uncut : (original : List ℕ) (s e : ℕ) {w : ℕ} → well_formed original ≡ true → s < length original → continues (get_or original s 0) ≡ false → w ≡ lead_len (get_or original s 0) → eqb (e - s) w ≡ true → (uncut original s && uncut original e) ≡ true
unfolding uncut
spans-uncut original s e {w} formed h leads is spans =
    let long : e - s ≡ w = eqb-true (e - s) w spans in
    let here = char-at original s formed (boundary-at original s (omega arith) leads) h in
    let wide : w ≡ announced (get_or original s 0) = is ∙ lead-len-right _ here.positive in
    let end : s + announced (get_or original s 0) ≡ e = omega (arith, here.positive) in
    and_intro (ap not leads) (ap not (boundary-begins original e (rw end at here.ends)))

-- the loops over a block
module _ (bytes : List ℕ) where
  pub leads-none : true ≡ leads_below bytes 0
  unfolding leads_below every_below
  leads-none = refl

  pub leads-more : (j : ℕ) {ok more : Bool} → ok ≡ leads_below bytes j → more ≡ continues (get_or bytes j 0) → (ok && not more) ≡ leads_below bytes (j + 1)
  unfolding leads_below
  leads-more j is here = rw (is, here, every-suc j (λ k. not (continues (get_or bytes k 0))))

module _ (widths starts ends : List ℕ) where
  pub spans-none : eqb 0 0 ≡ spans_below widths starts ends 0
  unfolding spans_below every_below
  spans-none = refl

  pub spans-more : (j apart : ℕ) {r : ℕ} → eqb apart 0 ≡ spans_below widths starts ends j → r ≡ get_or ends j 0 - get_or starts j 0 → eqb (bit_or apart (bit_xor r (get_or widths j 0))) 0 ≡ spans_below widths starts ends (j + 1)
  unfolding spans_below
  spans-more j apart {r} is far =
      rw (or-none apart (bit_xor r (get_or widths j 0)), xor-none r (get_or widths j 0), is, far, every-suc j (λ k. eqb (get_or ends k 0 - get_or starts k 0) (get_or widths k 0)))

pub all-spans : {original starts bytes₀ bytes widths₀ widths : List ℕ} (ends : List ℕ) → StartsInside original starts → length starts ≡ 64
    → length bytes₀ ≡ 64 → length widths₀ ≡ 64 → Filled (λ k. get_or original (get_or starts k 0) 0) bytes₀ 0 (length bytes₀) bytes
    → Filled (λ k. lead_len (get_or bytes k 0)) widths₀ 0 (length widths₀) widths → leads_below bytes (length bytes) ≡ true
    → spans_below widths starts ends (length widths) ≡ true → uncut_below original starts ends 64 ≡ true
unfolding uncut_below leads_below spans_below
all-spans {original} {starts} {bytes = bytes} {widths = widths} ends known long n m read wide leads spans =
    let size : length widths ≡ 64 = wide.same ∙ m in
    let full : length bytes ≡ 64 = read.same ∙ n in
    every-all 64 _
    (λ k h.
    spans-uncut original (get_or starts k 0) (get_or ends k 0) known.formed (known.below k (omega arith))
    (ap continues (sym (read.within k (omega arith) (omega arith))) ∙ not-true _ (every-at (length bytes) (λ (i : ℕ). not (continues (get_or bytes i 0))) leads k (omega arith)))
    (wide.within k (omega arith) (omega arith) ∙ ap lead_len (read.within k (omega arith) (omega arith)))
    (every-at (length widths) (λ (i : ℕ). eqb (get_or ends i 0 - get_or starts i 0) (get_or widths i 0)) spans k (omega arith)))

-- alignments in two parts
pub uncut-parts : (o s e : List ℕ) (i n : ℕ) → uncut_below o s e (i + n) ≡ (uncut_below o s e i && uncut_below o (part s i (i + n)) (part e i (i + n)) n)
unfolding uncut_below
uncut-parts o s e i n =
    every-add i n (λ k. uncut o (get_or s k 0) && uncut o (get_or e k 0))
    ∙ ap (λ (r : Bool). every_below i (λ k. uncut o (get_or s k 0) && uncut o (get_or e k 0)) && r)
    (every-ext n _ _ (λ k h. rw (part-index s i (i + n) k (omega arith), part-index e i (i + n) k (omega arith))))

module _ (o s e : List ℕ) (i : ℕ) {r : Bool} where
  -- the next block, of which r was told
  block_read : (n : ℕ) → uncut_below o s e i ≡ true → r ≡ uncut_below o (part s i (i + n)) (part e i (i + n)) n → uncut_below o s e (i + n) ≡ r
  block_read n so_far is = uncut-parts o s e i n ∙ rw (so_far, ← is)

  pub blocks_more : uncut_below o s e i ≡ true → r ≡ uncut_below o (part s i (i + 64)) (part e i (i + 64)) 64 → not r ≡ false → uncut_below o s e (i + 64) ≡ true
  blocks_more so_far is t = block_read 64 so_far is ∙ not-false r t

  pub blocks-cut : uncut_below o s e i ≡ true → r ≡ uncut_below o (part s i (i + 64)) (part e i (i + 64)) 64 → not r ≡ true → i + 64 ≤ length s → false ≡ uncut_below o s e (length s)
  blocks-cut so_far is f h =
      let whole : i + 64 + (length s - (i + 64)) ≡ length s = omega arith in
      sym (rw whole at (uncut-parts o s e (i + 64) (length s - (i + 64)) ∙ and-false-l _ _ (block_read 64 so_far is ∙ not-true r f)))

  pub blocks-rest : i ≤ length s → length e ≡ length s → uncut_below o s e i ≡ true → r ≡ uncut_below o (part s i (length s)) (part e i (length e)) (length (part s i (length s))) → r ≡ uncut_below o s e (length s)
  blocks-rest h same so_far is =
      let whole : i + (length s - i) ≡ length s = omega arith in
      let left : length (part s i (length s)) ≡ length s - i = simp (length-take, length-drop) (omega arith) in
      is ∙ rw (left, same) (sym (rw (so_far, whole) at (uncut-parts o s e i (length s - i))))

pub inside-part : {o s : List ℕ} (i : ℕ) → StartsInside o s → i + 64 ≤ length s → StartsInside o (part s i (i + 64))
inside-part {o} {s} i known h =
    record {
      formed = known.formed;
      below = λ k b.
          let low : k < 64 = omega (arith, simp (length-take, length-drop) at b) in
          rw (part-index s i (i + 64) k (omega arith)) (known.below (i + k) (omega arith));
    }

-- starts that never go back are all inside where the last one is
module _ (text starts ends : List ℕ) (size n : ℕ) (e : monotone text starts ends size n ≡ true) where
  start-next : (k : ℕ) → suc k < n → get_or starts k 0 ≤ get_or starts (suc k) 0
  unfolding monotone monotone_at follows
  start-next k h =
      let here = every-at n (monotone_at text starts ends size) e (suc k) h in
      let rest = and_elim_left _ (leb (get_or ends k 0) (get_or ends (suc k) 0)) here in
      let within : Bool = leb (get_or starts (suc k) 0) (get_or ends (suc k) 0) && leb (get_or ends (suc k) 0) size in
      let same : Bool = eqb (get_or starts k 0) (get_or starts (suc k) 0) && eqb (get_or ends k 0) (get_or ends (suc k) 0) in
      leb-true _ _ (and_elim_right (within && (not (continues (get_or text (suc k) 0)) || same)) (leb (get_or starts k 0) (get_or starts (suc k) 0)) rest)

  starts-rise : (i d : ℕ) → i + d < n → get_or starts i 0 ≤ get_or starts (i + d) 0
  starts-rise i zero h = let z : i + 0 ≡ i = omega arith in rw z (omega arith)
  starts-rise i (suc d) h =
      let next : i + suc d ≡ suc (i + d) = omega arith in
      rw next (omega (arith, starts-rise i d (omega arith), start-next (i + d) (omega arith)))

  pub starts-inside : {o : List ℕ} → well_formed o ≡ true → length starts ≡ n → get_or starts (length starts - 1) 0 < length o → StartsInside o starts
  starts-inside formed long last =
      record {
        formed = formed;
        below = λ k h.
            let top : k + (n - 1 - k) ≡ length starts - 1 = omega arith in
            let rise = rw top at (starts-rise k (n - 1 - k) (omega arith)) in
            omega arith;
      }
