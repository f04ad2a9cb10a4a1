-- Laws of `commandAt`, `commandsOf` and `whole`: a script is read command by command, and nobody needs to know how long one
-- is.
use Prim.Native.Nat.{ℕ, ◌+◌, ◌-◌, ◌≤◌, ◌<◌}
use mathlib.Core.Path.{◌≡◌, ◌∙◌, refl, sym}
use mathlib.Core.Bool.{Bool, true, false, cond, ◌&&◌, ◌||◌, or-true}
use mathlib.Mathlib.Data.Bool.Basic.{and_elim_left, and_elim_right}
use mathlib.Core.List.{List, [], ◌∷◌}
use native.Mathlib.Omega.{arith}
use lib.Dec.{leb, ltb, eqb}
use lib.ListN.{length, get_or, drop, length-drop, get_or-eq_default}
use lib.Seq.{drop-drop, get_or-drop}
use borrow.Author.Tests.{le-leb, lt-leb, leb-true, lt-ltb, le-ltb, ltb-true, eq-eqb, ne_eqb, eqb-true}
use Rattle.std.specs.Prelude.{Option, Some, None}
use Rattle.buffers.specs.Splice.{part}
use Rattle.buffers.proofs.Cases.{le-or-lt, true-or-false, none-some, some-parts}
use Rattle.buffers.proofs.Booleans.{and-false-l, and_false_r}
use Rattle.numbers.specs.LittleEndian.{value_of}
use Rattle.numbers.proofs.Entries.{read_step, read-end}
use Rattle.utf8.specs.Scalar.{scalar}
use Rattle.utf8.proofs.LenUtf8.{size_none, size-some, size_most}
use Rattle.script.specs.declared.Command.{Command}
use Rattle.utf8.specs.Scalar.{len_utf8}
use Rattle.script.specs.Scripts.{command_size, character_at, removed_at, removal_at, command_at, of_command, front_size, commands_of, whole}

-- a command's bytes, by its number
module _ (b : ℕ) where
  pub width-replace : b ≡ 1 → 5 ≡ command_size b
  unfolding command_size
  width-replace e = rw (eq-eqb b 1 e)

  pub width-add : b ≡ 2 → 5 ≡ command_size b
  unfolding command_size
  width-add e = rw (eq-eqb b 2 e, or-true (eqb b 1))

  pub width-remove : b ≡ 3 → 7 ≡ command_size b
  unfolding command_size
  width-remove e = rw (ne_eqb b 1 (λ z. absurd (omega arith)), ne_eqb b 2 (λ z. absurd (omega arith)), eq-eqb b 3 e)

  pub width-unknown : (b ≡ 1 → ⊥) → (b ≡ 2 → ⊥) → (b ≡ 3 → ⊥) → 0 ≡ command_size b
  unfolding command_size
  width-unknown not-1 not-2 not-3 = rw (ne_eqb b 1 not-1, ne_eqb b 2 not-2, ne_eqb b 3 not-3)

  -- seven bytes are a removal's, else a known command has five
  width-seven : command_size b ≡ 7 → eqb b 3 ≡ true
  unfolding command_size
  width-seven e =
      true-or-false (eqb b 3) (λ t. t)
      (λ u. true-or-false (eqb b 1 || eqb b 2)
      (λ t. let z : ◌≡◌ {A = ℕ} 5 7 = rw t at e in absurd (omega arith))
      (λ o. let z : ◌≡◌ {A = ℕ} 0 7 = rw (o, u) at e in absurd (omega arith)))

  width_three : eqb b 3 ≡ true → command_size b ≡ 7
  width_three e = sym (width-remove (eqb-true b 3 e))

  width-five : 0 < command_size b → eqb b 3 ≡ false → command_size b ≡ 5
  unfolding command_size
  width-five h u =
      true-or-false (eqb b 1 || eqb b 2)
      (λ t. rw t)
      (λ o. let z : 0 < 0 = rw (o, u) at h in absurd (omega arith))

  pub width-least : {w : ℕ} → w ≡ command_size b → (w ≡ 0 → ⊥) → 5 ≤ w
  width-least is h =
      true-or-false (eqb b 3)
      (λ t. omega (arith, is, width_three t))
      (λ u. le-or-lt (command_size b) 0 (λ z. absurd (h (omega (arith, is)))) (λ some. omega (arith, is, width-five some u)))

-- whether the entry at i is a command, unless it is a removal of 0
abbrev test : List ℕ → ℕ → Bool
test l i = ltb 0 (command_size (get_or l i 0)) && leb (i + command_size (get_or l i 0)) (length l) && scalar (character_at l i)

-- what it then says, the next one being counted from `at`
abbrev body : List ℕ → ℕ → ℕ → Option (Command × ℕ)
body l i at =
    cond (eqb (get_or l i 0) 3)
    (cond (eqb (removed_at l i) 0) None (Some (record { character = character_at l i; added = false; removed = removed_at l i }, at + 7)))
    (Some (record { character = character_at l i; added = eqb (get_or l i 0) 2; removed = 0 }, at + 5))

entry-body : (l : List ℕ) (i : ℕ) → command_at l i ≡ cond (test l i) (body l i i) None
unfolding command_at removal_at
entry-body l i = refl

-- by what the code tests
module _ (l : List ℕ) (i : ℕ) where
  unknown : command_size (get_or l i 0) ≡ 0 → None ≡ command_at l i
  unfolding command_at
  unknown e = rw (le-ltb 0 (command_size (get_or l i 0)) (omega arith))

  pub entry_past : length l ≤ i → None ≡ command_at l i
  unfolding command_size
  entry_past h = unknown (rw (get_or-eq_default l 0 h))

  module _ {w : ℕ} (is : w ≡ command_size (get_or l i 0)) where
    pub entry-unknown : w ≡ 0 → None ≡ command_at l i
    entry-unknown e = unknown (sym is ∙ e)

    pub entry-cut : length l < i + w → None ≡ command_at l i
    entry-cut h =
        let over : length l < i + command_size (get_or l i 0) = rw is at h in
        sym (entry-body l i
        ∙ rw (and-false-l (ltb 0 (command_size (get_or l i 0)) && leb (i + command_size (get_or l i 0)) (length l)) (scalar (character_at l i)) (and_false_r (ltb 0 (command_size (get_or l i 0))) _ (lt-leb _ _ over))))

    module _ {c size : ℕ} (read : c ≡ character_at l i) (wide : size ≡ len_utf8 c) where
      pub entry-no-character : size ≡ 0 → None ≡ command_at l i
      entry-no-character z =
          let none : scalar (character_at l i) ≡ false = rw (← read) (size_none c (sym wide ∙ z)) in
          sym (entry-body l i ∙ rw (and_false_r (ltb 0 (command_size (get_or l i 0)) && leb (i + command_size (get_or l i 0)) (length l)) _ none))

      module _ (some : size ≡ 0 → ⊥) (known : w ≡ 0 → ⊥) (fits : i + w ≤ length l) where
        tested : test l i ≡ true
        tested =
            let wide_enough : 0 < command_size (get_or l i 0) = omega (arith, is, known) in
            let inside : i + command_size (get_or l i 0) ≤ length l = rw is at fits in
            let character : scalar (character_at l i) ≡ true = rw (← read) (size-some c (λ z. some (wide ∙ z))) in
            rw (lt-ltb _ _ wide_enough, le-leb _ _ inside, character)

        pub entry-removal : w ≡ 7 → {r : Option (Command × ℕ)} → r ≡ removal_at l i c → r ≡ command_at l i
        unfolding removal_at
        entry-removal e at =
            let three : eqb (get_or l i 0) 3 ≡ true = width-seven (get_or l i 0) (sym is ∙ e) in
            at ∙ sym (entry-body l i ∙ rw (tested, three, ← read))

        pub entry-command : (w ≡ 7 → ⊥) → Some (record { character = c; added = eqb (get_or l i 0) 2; removed = 0 }, i + 5) ≡ command_at l i
        entry-command e =
            let other : eqb (get_or l i 0) 3 ≡ false = true-or-false (eqb (get_or l i 0) 3) (λ t. absurd (e (is ∙ width_three (get_or l i 0) t))) (λ u. u) in
            sym (entry-body l i ∙ rw (tested, other, ← read))

  -- the two operands as they are read
  pub character-read : {c : ℕ} → c ≡ value_of (part l (i + 1) (i + 1 + 4)) → c ≡ character_at l i
  unfolding character_at
  character-read e = let end : i + 1 + 4 ≡ i + 5 = omega arith in rw end at e

  module _ (c : ℕ) {removed : ℕ} (read : removed ≡ value_of (part l (i + 5) (i + 5 + 2))) where
    count : removed ≡ removed_at l i
    unfolding removed_at
    count = let end : i + 5 + 2 ≡ i + 7 = omega arith in rw end at read

    pub removal-none : removed ≡ 0 → None ≡ removal_at l i c
    unfolding removal_at
    removal-none z = rw (eq-eqb (removed_at l i) 0 (sym count ∙ z))

    pub removal-some : (removed ≡ 0 → ⊥) → Some (record { character = c; added = false; removed = removed }, i + 7) ≡ removal_at l i c
    unfolding removal_at
    removal-some some = rw (ne_eqb (removed_at l i) 0 (λ z. some (count ∙ z)), count)

-- what an entry tells: the command's width, and the same command at the front of what is from there on
part-drop : (l : List ℕ) (i a b : ℕ) → part (drop i l) a b ≡ part l (i + a) (i + b)
part-drop l i a b =
    let wide : i + b - (i + a) ≡ b - a = omega arith in
    rw (drop-drop a i l, wide)

entry-drop : (l : List ℕ) (i : ℕ) → command_at (drop i l) 0 ≡ cond (test l i) (body l i 0) None
unfolding character_at removed_at
entry-drop l i =
    let z : i + 0 ≡ i = omega arith in
    let long : length (drop i l) ≡ length l - i = length-drop i l in
    entry-body (drop i l) 0
    ∙ rw (get_or-drop i l 0 0, part-drop l i (0 + 1) (0 + 5), part-drop l i (0 + 5) (0 + 7), z)
    (le-or-lt (i + command_size (get_or l i 0)) (length l)
    (λ k. rw (le-leb (i + command_size (get_or l i 0)) (length l) k, le-leb (0 + command_size (get_or l i 0)) (length (drop i l)) (omega arith)))
    (λ k. rw (lt-leb (i + command_size (get_or l i 0)) (length l) k)
    (le-or-lt (command_size (get_or l i 0)) 0
    (λ none. rw (le-ltb 0 (command_size (get_or l i 0)) none))
    (λ some. rw (lt-leb (0 + command_size (get_or l i 0)) (length (drop i l)) (omega arith))))))

-- what the entry at the front of a script puts before what is read after it
abbrev before : List ℕ → List Command → List Command
before l cs = of_command [] (λ c next. c ∷ cs) (command_at l 0)

abbrev too : List ℕ → Bool → Bool
too l rest = of_command false (λ c next. rest) (command_at l 0)

-- the width of a command that is at i, and that command at the front of what is from i on
record Told (l : List ℕ) (i : ℕ) (c : Command) (next : ℕ) : Type 0 where
  width : ℕ
  wide : 5 ≤ width
  ends : next ≡ i + width
  inside : i + width ≤ length l
  front : command_at (drop i l) 0 ≡ Some (c, width)

module _ (l : List ℕ) (i : ℕ) where
  module _ {c : Command} {next : ℕ} (e : command_at l i ≡ Some (c, next)) (t : test l i ≡ true) where
    both : (ltb 0 (command_size (get_or l i 0)) && leb (i + command_size (get_or l i 0)) (length l)) ≡ true
    both = and_elim_left _ (scalar (character_at l i)) t

    inside : i + command_size (get_or l i 0) ≤ length l
    inside = leb-true _ _ (and_elim_right (ltb 0 (command_size (get_or l i 0))) _ both)

    told-other : eqb (get_or l i 0) 3 ≡ false → Told l i c next
    told-other u =
        let five : command_size (get_or l i 0) ≡ 5 = width-five (get_or l i 0) (ltb-true 0 _ (and_elim_left _ (leb (i + command_size (get_or l i 0)) (length l)) both)) u in
        let at : Some (record { character = character_at l i; added = eqb (get_or l i 0) 2; removed = 0 }, i + 5) ≡ Some (c, next) = rw (t, u) at (sym (entry-body l i) ∙ e) in
        let is : record { character = character_at l i; added = eqb (get_or l i 0) 2; removed = 0 } ≡ c = (some-parts at).0 in
        let ends : i + 5 ≡ next = (some-parts at).1 in
        record { width = 5; wide = omega arith; ends = sym ends; inside = omega (arith, five, inside); front = entry-drop l i ∙ rw (t, u, is) }

    told-three : eqb (get_or l i 0) 3 ≡ true → eqb (removed_at l i) 0 ≡ false → Told l i c next
    told-three three some =
        let seven : command_size (get_or l i 0) ≡ 7 = width_three (get_or l i 0) three in
        let at : Some (record { character = character_at l i; added = false; removed = removed_at l i }, i + 7) ≡ Some (c, next) = rw (t, three, some) at (sym (entry-body l i) ∙ e) in
        let is : record { character = character_at l i; added = false; removed = removed_at l i } ≡ c = (some-parts at).0 in
        let ends : i + 7 ≡ next = (some-parts at).1 in
        record { width = 7; wide = omega arith; ends = sym ends; inside = omega (arith, seven, inside); front = entry-drop l i ∙ rw (t, three, some, is) }

  told : {c : Command} {next : ℕ} → command_at l i ≡ Some (c, next) → Told l i c next
  told {c} {next} e =
      true-or-false (test l i)
      (λ t. true-or-false (eqb (get_or l i 0) 3)
      (λ three. true-or-false (eqb (removed_at l i) 0)
      (λ zero. none-some (rw (t, three, zero) at (sym (entry-body l i) ∙ e)))
      (told-three e t three))
      (told-other e t))
      (λ f. none-some (rw f at (sym (entry-body l i) ∙ e)))

  told-broken : command_at l i ≡ None → command_at (drop i l) 0 ≡ None
  told-broken e =
      true-or-false (test l i)
      (λ t. true-or-false (eqb (get_or l i 0) 3)
      (λ three. true-or-false (eqb (removed_at l i) 0)
      (λ zero. entry-drop l i ∙ rw (t, three, zero))
      (λ some. none-some (rw (t, three, some) at (sym e ∙ entry-body l i))))
      (λ u. none-some (rw (t, u) at (sym e ∙ entry-body l i))))
      (λ f. entry-drop l i ∙ rw f)

-- THE STEP: from the command at i to where the next one begins, which is further on than the command's character is long
pub record Stepped (l : List ℕ) (i : ℕ) (c : Command) (next : ℕ) : Type 0 where
  pub onward : i + len_utf8 c.character < next
  pub most : next ≤ length l
  pub commands : commands_of (drop i l) ≡ c ∷ commands_of (drop next l)
  pub wholes : whole (drop i l) ≡ whole (drop next l)

pub entry-step : (l : List ℕ) {i : ℕ} {e : Option (Command × ℕ)} {c : Command} {next : ℕ} → e ≡ command_at l i → e ≡ Some (c, next) → Stepped l i c next
unfolding commands_of whole
entry-step l {i} {e} {c} {next} is at =
    let t : Told l i c next = told l i (sym is ∙ at) in
    let long : front_size (drop i l) ≡ t.width = rw t.front in
    let here : i < length l = omega (arith, t.wide, t.inside) in
    record {
      onward = omega (arith, t.wide, t.ends, size_most c.character);
      most = omega (arith, t.ends, t.inside);
      commands = read_step front_size before [] l here long (omega (arith, t.wide)) t.ends ∙ rw t.front;
      wholes = read_step front_size too true l here long (omega (arith, t.wide)) t.ends ∙ rw t.front;
    }

-- an entry that is no command
pub entry-broken : (l : List ℕ) {i : ℕ} {e : Option (Command × ℕ)} → i < length l → e ≡ command_at l i → e ≡ None → (commands_of (drop i l) ≡ []) × (whole (drop i l) ≡ false)
unfolding commands_of whole
entry-broken l {i} h is at =
    let first : command_at (drop i l) 0 ≡ None = told-broken l i (sym is ∙ at) in
    let one : front_size (drop i l) ≡ 1 = rw first in
    (read_step front_size before [] l h one (omega arith) refl ∙ rw first, read_step front_size too true l h one (omega arith) refl ∙ rw first)

-- the script's end
pub entries-end : (l : List ℕ) {i : ℕ} → length l ≤ i → (commands_of (drop i l) ≡ []) × (whole (drop i l) ≡ true)
unfolding commands_of whole
entries-end l h = (read-end front_size before [] l h, read-end front_size too true l h)

-- the commands before i are whole, so the script is where the others are
pub record Judged (l : List ℕ) (i : ℕ) : Type 0 where
  pub same : whole l ≡ whole (drop i l)
  pub most : i ≤ length l

pub none-judged : {l : List ℕ} → Judged l 0
none-judged = record { same = refl; most = omega arith }

module _ {l : List ℕ} {i : ℕ} (j : Judged l i) where
  pub next-judged : {e : Option (Command × ℕ)} {c : Command} {next : ℕ} → e ≡ command_at l i → e ≡ Some (c, next) → Judged l next
  next-judged is at = let s = entry-step l is at in record { same = j.same ∙ s.wholes; most = s.most }

  pub broken-judged : {e : Option (Command × ℕ)} → i < length l → e ≡ command_at l i → e ≡ None → false ≡ whole l
  broken-judged h is at = sym (j.same ∙ (entry-broken l h is at).1)

  pub all-judged : length l ≤ i → true ≡ whole l
  all-judged h = sym (j.same ∙ (entries-end l h).1)
