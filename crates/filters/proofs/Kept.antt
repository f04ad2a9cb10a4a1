-- Laws of `flagCommands` and `firstKept`: flag by flag, a character of the text and one of the range go by.
use Prim.Native.Nat.{ℕ, suc, ◌+◌, ◌≤◌, ◌<◌}
use mathlib.Core.Path.{◌≡◌, ◌∙◌, refl, sym}
use mathlib.Core.Bool.{Bool, true, false, cond}
use mathlib.Core.List.{List, [], ◌∷◌}
use native.Mathlib.Numerals.{add-one}
use native.Mathlib.Omega.{arith}
use lib.Dec.{leb, eqb}
use lib.ListN.{length, get_or, drop, drop_of_length-le}
use lib.Seq.{drop-cons}
use borrow.Author.Tests.{eq-eqb, ne_eqb}
use Rattle.std.specs.Prelude.{Some, None}
use Rattle.buffers.proofs.Cases.{le-or-lt, true-or-false, clash}
use Rattle.utf8.specs.Formed.{announced, well_formed, boundary}
use Rattle.utf8.specs.Lengths.{CharBegins, CharLen}
use Rattle.utf8.proofs.Boundaries.{boundary-zero}
use Rattle.script.specs.declared.Command.{Command}
use Rattle.utf8.specs.Scalar.{len_utf8}
use Rattle.edit_steps.specs.declared.walking.Progress.{Progress}
use Rattle.edit_steps.specs.Edits.{skipped, starves, moved, starved, produced}
use Rattle.edit_steps.specs.Walking.{Standing, progress_after, measured}
use Rattle.edit_steps.proofs.Positions.{skipped-none, standing-skipped, starves-replacing, moved-replacing, stepped-fed}
use Rattle.edit_steps.proofs.Measured.{Passed, starves-here, one-passed, all-passed}
use Rattle.edits.specs.Characters.{code_at, codes_of}
use Rattle.edits.specs.Whole.{replacing, dropped_ahead, any_kept, kept_commands}
use Rattle.edits.proofs.Characters.{codes-none, codes-cons}
use Rattle.edits.proofs.Sifted.{skipped-suc, none-commands, code-size, codes-chars}
use Rattle.filter_blocks.specs.Counting.{kept_len}
use Rattle.filters.specs.Flags.{skips, first_kept, flag_commands, flag_starves, FlagsReady}

no-flags : (cs : List ℕ) → kept_commands cs [] ≡ []
unfolding kept_commands
no-flags [] = refl
no-flags (c ∷ cs) = refl

-- so the first command may stand after all that is dropped before it
module _ (s : List ℕ) (b from : ℕ) (flags : List ℕ) where
  begun_kept : any_kept flags ≡ true → first_kept s b from flags ≡ skipped s b (dropped_ahead flags) from
  unfolding first_kept skips
  begun_kept e = rw e

  pub begun-starved : starved s b (first_kept s b from flags) (flag_commands s flags) ≡ starved s b (skipped s b (dropped_ahead flags) from) (flag_commands s flags)
  unfolding flag_commands starved
  begun-starved =
      true-or-false (any_kept flags)
      (λ t. rw (begun_kept t))
      (λ u. rw (none-commands (codes_of s) flags u))

  pub begun-given : (piece : ℕ → Command → List ℕ) → produced piece s b (first_kept s b from flags) (flag_commands s flags) ≡ produced piece s b (skipped s b (dropped_ahead flags) from) (flag_commands s flags)
  unfolding flag_commands produced
  begun-given piece =
      true-or-false (any_kept flags)
      (λ t. rw (begun_kept t))
      (λ u. rw (none-commands (codes_of s) flags u))

-- the tests of the code
module _ (flag b p : ℕ) where
  pub wants-dropped : flag ≡ 0 → false ≡ flag_starves flag b p
  unfolding flag_starves
  wants-dropped e = rw (eq-eqb flag 0 e)

  pub wants-kept : (flag ≡ 0 → ⊥) → leb b p ≡ flag_starves flag b p
  unfolding flag_starves
  wants-kept h = rw (ne_eqb flag 0 h)

-- the characters from q on beside the flags from i on, and a position of the range
pub record Beside (s : List ℕ) (b : ℕ) (flags : List ℕ) (q p i : ℕ) : Type 0 where
  pub begins : boundary s q ≡ true
  pub left : length (codes_of (drop q s)) + i ≡ length flags
  pub standing : Standing s b p

abbrev pub ahead : List ℕ → ℕ → List ℕ → ℕ → ℕ → ℕ → Progress
ahead s b flags p i written = record { position = record { 0 = skipped s b (dropped_ahead (drop i flags)) p }; written = written; starved = false }

abbrev pub rest_at : List ℕ → List ℕ → ℕ → ℕ → List Command
rest_at s flags q i = kept_commands (codes_of (drop q s)) (drop i flags)

pub none_beside : {s : List ℕ} {b from : ℕ} {flags : List ℕ} → FlagsReady s b from flags → Beside s b flags 0 from 0
none_beside {s} r =
    record {
      begins = boundary-zero s r.standing.formed;
      left = omega (arith, codes-chars s, r.counted);
      standing = r.standing;
    }

module _ {s : List ℕ} {b : ℕ} {flags : List ℕ} {q p i : ℕ} (k : Beside s b flags q p i) (h : i < length flags) where
  formed : well_formed s ≡ true
  formed = k.standing.formed

  pub inside : q < length s
  inside =
      le-or-lt (length s) q
      (λ past.
      let none : length (codes_of (drop q s)) ≡ 0 = rw (drop_of_length-le s past, codes-none) in
      absurd (omega (arith, k.left)))
      (λ less. less)

  pub char-there : CharBegins s q
  char-there = record { formed = formed; begins = k.begins; more = inside }

  codes : codes_of (drop q s) ≡ code_at s q ∷ codes_of (drop (q + announced (get_or s q 0)) s)
  codes = codes-cons s q formed k.begins inside

  flags-cons : drop i flags ≡ get_or flags i 0 ∷ drop (i + 1) flags
  flags-cons = rw (add-one i) (drop-cons flags i 0 h)

  pub next-beside : {w m : ℕ} → CharLen s q w → m ≡ skipped s b 1 p → Beside s b flags (q + w) m (i + 1)
  next-beside {w} len is =
      let less : length (codes_of (drop q s)) ≡ suc (length (codes_of (drop (q + announced (get_or s q 0)) s))) = rw codes in
      record {
        begins = len.ends;
        left = rw len.long (omega (arith, k.left, less));
        standing = rw is (standing-skipped 1 k.standing).0;
      }

  -- a flag that drops: the commands are the same, and so is where the next one is
  module _ (drops : eqb (get_or flags i 0) 0 ≡ true) where
    pub dropped-rest : rest_at s flags q i ≡ rest_at s flags (q + announced (get_or s q 0)) (i + 1)
    unfolding kept_commands
    dropped-rest = rw (codes, flags-cons, drops)

    pub dropped-ahead : skipped s b (dropped_ahead (drop i flags)) p ≡ skipped s b (dropped_ahead (drop (i + 1) flags)) (skipped s b 1 p)
    unfolding dropped_ahead
    dropped-ahead = rw (flags-cons, drops) (skipped-suc s b (dropped_ahead (drop (i + 1) flags)) p)

  -- a flag that keeps: a command more, which is at the position
  module _ (keeps : eqb (get_or flags i 0) 0 ≡ false) where
    pub kept-rest : rest_at s flags q i ≡ replacing (dropped_ahead (drop (i + 1) flags)) (code_at s q) ∷ rest_at s flags (q + announced (get_or s q 0)) (i + 1)
    unfolding kept_commands
    kept-rest = rw (codes, flags-cons, keeps)

    pub kept_here : skipped s b (dropped_ahead (drop i flags)) p ≡ p
    unfolding dropped_ahead
    kept_here = rw (flags-cons, keeps) (skipped-none s b p)

    pub kept-moves : moved s b p (replacing (dropped_ahead (drop (i + 1) flags)) (code_at s q)) ≡ skipped s b (dropped_ahead (drop (i + 1) flags)) (skipped s b 1 p)
    kept-moves =
        moved-replacing s b p (replacing (dropped_ahead (drop (i + 1) flags)) (code_at s q)) refl
        ∙ skipped-suc s b (dropped_ahead (drop (i + 1) flags)) p

  pub code-wide : len_utf8 (code_at s q) ≡ announced (get_or s q 0)
  code-wide = code-size s q formed k.begins inside

pub rest-none : (s flags : List ℕ) (q : ℕ) {i : ℕ} → length flags ≤ i → rest_at s flags q i ≡ []
rest-none s flags q past = rw (drop_of_length-le flags past) (no-flags (codes_of (drop q s)))

-- the flags before i have gone by
pub record Filtering (s : List ℕ) (b from : ℕ) (flags : List ℕ) (q p written i : ℕ) : Type 0 where
  pub beside : Beside s b flags q p i
  pub passed : Passed s b (first_kept s b from flags) (flag_commands s flags) (rest_at s flags q i) (ahead s b flags p i written)
  pub small : written ≤ q

pub none-filtered : {s : List ℕ} {b from : ℕ} {flags : List ℕ} → FlagsReady s b from flags → Filtering s b from flags 0 from 0 0
unfolding flag_commands
none-filtered {s} {b} {from} {flags} r =
    record {
      beside = none_beside r;
      passed = record {
        starving = begun-starved s b from flags;
        counted = omega arith;
        standing = (standing-skipped (dropped_ahead flags) r.standing).0;
      };
      small = omega arith;
    }

module _ {s : List ℕ} {b from : ℕ} {flags : List ℕ} {q p written i : ℕ} (f : Filtering s b from flags q p written i) where
  module _ (h : i < length flags) {w : ℕ} (len : CharLen s q w) {t : Bool} (is : t ≡ flag_starves (get_or flags i 0) b p) where
    k : Beside s b flags q p i
    k = f.beside

    -- a kept one
    module _ (keeps : eqb (get_or flags i 0) 0 ≡ false) where
      c : Command
      c = replacing (dropped_ahead (drop (i + 1) flags)) (code_at s q)

      test : t ≡ starves b (skipped s b (dropped_ahead (drop i flags)) p) c
      unfolding flag_starves c
      test = is ∙ rw (keeps, kept_here k h keeps) (sym (starves-replacing b p c refl))

      kept-starves : t ≡ true → None ≡ measured s b (first_kept s b from flags) (flag_commands s flags)
      unfolding c
      kept-starves e = starves-here f.passed (kept-rest k h keeps) test e

      kept-passed : {m : ℕ} → t ≡ false → m ≡ skipped s b 1 p → Passed s b (first_kept s b from flags) (flag_commands s flags) (rest_at s flags (q + announced (get_or s q 0)) (i + 1)) (ahead s b flags m (i + 1) (written + announced (get_or s q 0)))
      unfolding c
      kept-passed {m} e at =
          let g : Progress = ahead s b flags p i written in
          let fed = stepped-fed s b g c test e in
          let now : record { position = record { 0 = skipped s b (dropped_ahead (drop (i + 1) flags)) m }; written = written + announced (get_or s q 0); starved = false } ≡ progress_after s b g c =
          sym (fed ∙ rw (kept_here k h keeps, kept-moves k h keeps, code-wide k h, at)) in
          one-passed f.passed (kept-rest k h keeps) test e now

    pub flag-starves : t ≡ true → None ≡ measured s b (first_kept s b from flags) (flag_commands s flags)
    unfolding flag_starves
    flag-starves e =
        true-or-false (eqb (get_or flags i 0) 0)
        (λ drops. clash t e (is ∙ rw drops))
        (λ keeps. kept-starves keeps e)

    pub next-filtered : {m n : ℕ} → t ≡ false → n ≡ kept_len (get_or flags i 0) w → m ≡ skipped s b 1 p → Filtering s b from flags (q + w) m (written + n) (i + 1)
    unfolding kept_len
    next-filtered {m} {n} e count at =
        true-or-false (eqb (get_or flags i 0) 0)
        (λ drops.
        let z : n ≡ 0 = count ∙ rw drops in
        let zero : written + n ≡ written = omega arith in
        record {
          beside = next-beside k h len at;
          passed = rw (zero, at, len.long) (rw (dropped-rest k h drops, dropped-ahead k h drops) at f.passed);
          small = omega (arith, f.small);
        })
        (λ keeps.
        let z : n ≡ w = count ∙ rw keeps in
        record {
          beside = next-beside k h len at;
          passed = rw (z, len.long) (kept-passed keeps e at);
          small = omega (arith, f.small);
        })

  pub all-filtered : length flags ≤ i → Some written ≡ measured s b (first_kept s b from flags) (flag_commands s flags)
  all-filtered done = all-passed f.passed (rest-none s flags q done)

pub counts-most : (flag wide : ℕ) {n : ℕ} → n ≡ kept_len flag wide → n ≤ wide
unfolding kept_len
counts-most flag wide is =
    true-or-false (eqb flag 0)
    (λ t. let z : cond (eqb flag 0) 0 wide ≡ 0 = rw t in omega (arith, is, z))
    (λ u. let z : cond (eqb flag 0) 0 wide ≡ wide = rw u in omega (arith, is, z))
