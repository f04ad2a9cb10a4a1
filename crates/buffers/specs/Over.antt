-- A run that is laid in blocks: what is after it is told only from a bound on.
use Rattle.std.specs.Prelude.{ℕ, ◌+◌, ◌-◌, ◌≤◌, ◌≡◌, List, ◌++◌, length, take, drop}

-- d is d₀ with r laid into it from `at` on; after r, and from `until` on, it is d₀
pub record Over {A : Type 0} (r d₀ : List A) (at until : ℕ) (d : List A) : Type 0 where
  pub front : take (at + length r) d ≡ take at d₀ ++ r
  pub beyond : (k : ℕ) → at + length r ≤ k → until ≤ k → drop k d ≡ drop k d₀
  pub same : length d ≡ length d₀

-- a run of src from `from` up to `to`, and room for it in d from `at` on
pub record Source {A : Type 0} (src : List A) (from to : ℕ) (d : List A) (at until : ℕ) : Type 0 where
  pub onward : from ≤ to
  pub inside : to ≤ length src
  pub room : at + (to - from) ≤ length d
  pub until_room : until ≤ length d

-- a result that is laid run by run: all but `rest` is in d up to `at`; after the whole of it d is d₀
pub record Reaching {A : Type 0} (whole rest d₀ : List A) (at : ℕ) (d : List A) : Type 0 where
  pub so_far : take at d ++ rest ≡ whole
  pub beyond : drop (length whole) d ≡ drop (length whole) d₀
  pub room : at + length rest ≤ length d
  pub same : length d ≡ length d₀
