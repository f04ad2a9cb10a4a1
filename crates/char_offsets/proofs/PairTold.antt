-- Laws of `IndexKnown`, `EndTold` and `PairTold`: from one byte's character to another's, and one pair.
use Prim.Native.Nat.{ℕ, ◌+◌, ◌-◌, ◌≤◌, ◌<◌}
use mathlib.Core.Path.{◌≡◌, refl, sym}
use mathlib.Core.List.{List}
use borrow.Author.Tests.{lt-ltb, le-ltb}
use native.Mathlib.Omega.{arith}
use lib.ListN.{length, take, drop}
use Rattle.buffers.specs.Splice.{part}
use Rattle.utf8.specs.Chars.{leads}
use Rattle.char_offsets.specs.Positions.{index_of, end_index, pair_of}
use Rattle.char_offsets.specs.declared.EndByte.{EndByte}
use Rattle.char_offsets.specs.Steps.{IndexKnown, EndTold, PairTold}
use Rattle.char_offsets.proofs.IndexOf.{index-add}

module _ {most : ℕ} {s : List ℕ} {at index : ℕ} (to : ℕ) {r : ℕ} (k : IndexKnown most s at index) where
  pub moved_on : at ≤ to → to < length s → r ≡ leads (part s (at + 1) (to + 1)) → index + r ≡ index_of s to
  moved_on low below e =
      let gap : to + 1 - (at + 1) ≡ to - at = omega arith in
      let sum : at + (to - at) ≡ to = omega arith in
      let r-is : r ≡ leads (take (to - at) (drop (at + 1) s)) = rw gap at e in
      rw (k.so_far, r-is) (sym (rw sum at (index-add s at (to - at) (omega arith))))

  pub moved_back : to < at → r ≡ leads (part s (to + 1) (at + 1)) → index ≡ index_of s to + r
  moved_back below e =
      let gap : at + 1 - (to + 1) ≡ at - to = omega arith in
      let sum : to + (at - to) ≡ at = omega arith in
      let r-is : r ≡ leads (take (at - to) (drop (to + 1) s)) = rw gap at e in
      rw (k.so_far, r-is) (rw sum at (index-add s to (at - to) (omega (arith, k.inside))))

module _ (s : List ℕ) (a e : ℕ) where
  pub told-missing : length s ≤ a → PairTold s a e (record { number = 10; start = 0; end = 0 })
  unfolding pair_of
  told-missing past =
      record {
        number_is = rw (le-ltb a (length s) past);
        start_is = rw (le-ltb a (length s) past);
        end_is = rw (le-ltb a (length s) past);
      }

  -- a start inside the text, and the byte by which its end is told
  pub told-chars : {first last : ℕ} {r : EndByte} → a < length s → first ≡ index_of s a → EndTold (length s) a e r → last ≡ index_of s r.byte.0 → PairTold s a e (record { number = 0; start = first; end = last + r.more })
  unfolding pair_of
  told-chars {r = r} below f t l =
      record {
        number_is = rw (lt-ltb a (length s) below);
        start_is = rw (lt-ltb a (length s) below) f;
        end_is = rw (lt-ltb a (length s) below, t.right s refl, l);
      }

module _ {size : ℕ} (a e : ℕ) (some : a < size) where
  pub end-inside : e < size → EndTold size a e (record { byte = record { 0 = e }; more = 0 })
  unfolding end_index
  end-inside below = record { inside = below; right = λ s n. rw (n, lt-ltb e size below) (omega arith); little = omega arith }

  pub end-last : e ≡ size → EndTold size a e (record { byte = record { 0 = e - 1 }; more = 1 })
  unfolding end_index
  end-last same =
      record {
        inside = omega arith;
        right = λ s n. rw (n, le-ltb e size (omega arith), lt-ltb (e - 1) size (omega arith));
        little = omega arith;
      }

  pub end-past : size < e → EndTold size a e (record { byte = record { 0 = a }; more = 2 })
  unfolding end_index
  end-past past =
      record {
        inside = some;
        right = λ s n. rw (n, le-ltb e size (omega arith), le-ltb (e - 1) size (omega arith));
        little = omega arith;
      }
