-- Laws of `charRange`, `got`, `getRange` and `getRangeOriginal`, case by case as the code comes to them.
use Prim.Native.Nat.{ℕ}
use mathlib.Core.Path.{◌≡◌, ◌∙◌, ap, refl}
use mathlib.Core.Bool.{Bool, true, false}
use mathlib.Core.List.{List}
use Rattle.std.specs.Prelude.{Result, Ok, Err}
use Rattle.note.specs.declared.Refusal.{Refusal}
use Rattle.note.specs.declared.Refusal.TheVariants.{Missing}
use Rattle.note.specs.Refusals.{verdict, Verdict, Accepted}
use Rattle.note.specs.Notes.{Note}
use Rattle.note.specs.Faults.{note_faults}
use Rattle.convert.specs.declared.Range.{Range}
use Rattle.convert.specs.declared.Range.TheVariants.{Original, Normalized}
use Rattle.convert.specs.Converting.{start_of, end_of}
use Rattle.convert.proofs.Answered.{MissingOnly, found-or-missing, converted-missing, answered-refused, answered-accepted}
use Rattle.convert.specs.Converting.{as_normalized, as_original}
use Rattle.utf8.specs.Formed.{char_range}
use Rattle.get_range.specs.Reading.{got, get_range, get_range_original}

module _ (s : List ℕ) {answer : Result Range Refusal} where
  module _ {range : Range} {a e : ℕ} {t : Bool} (is : answer ≡ Ok range) (p : a ≡ start_of range) (q : e ≡ end_of range) (r : t ≡ char_range s a e) where
    pub got-found : t ≡ true → Ok range ≡ got s answer
    unfolding got
    got-found y = rw (is, ← p, ← q, ← r, y)

    pub got-unread : t ≡ false → Err Missing ≡ got s answer
    unfolding got
    got-unread y = rw (is, ← p, ← q, ← r, y)

  pub got-refused : {k : Refusal} → answer ≡ Err k → Err k ≡ got s answer
  unfolding got
  got-refused is = rw is

-- no refusal but `Missing`
got-missing : (s : List ℕ) (answer : Result Range Refusal) → MissingOnly answer → MissingOnly (got s answer)
unfolding got
got-missing s (Ok range) only = found-or-missing (char_range s (start_of range) (end_of range)) range
got-missing s (Err k) only = only

pub as_normalized-missing : (starts ends : List ℕ) (range : Range) → MissingOnly (as_normalized starts ends range)
unfolding as_normalized
as_normalized-missing starts ends (Original a b) = converted-missing starts ends (Original a b)
as_normalized-missing starts ends (Normalized a b) = refl

pub as_original-missing : (starts ends : List ℕ) (range : Range) → MissingOnly (as_original starts ends range)
unfolding as_original
as_original-missing starts ends (Original a b) = refl
as_original-missing starts ends (Normalized a b) = converted-missing starts ends (Normalized a b)

-- the two calls, by what the check of the note says
module _ (most : ℕ) (n : Note) (range : Range) {v : Verdict} (e : v ≡ verdict (note_faults most n)) where
  pub get_range-refused : {k : Refusal} → v ≡ Err k → Err k ≡ get_range most n range
  unfolding get_range
  get_range-refused is = answered-refused most n _ e is

  pub get_range_original-refused : {k : Refusal} → v ≡ Err k → Err k ≡ get_range_original most n range
  unfolding get_range_original
  get_range_original-refused is = answered-refused most n _ e is

  module _ (ok : v ≡ Accepted) {answer r : Result Range Refusal} where
    pub get_range-got : answer ≡ as_normalized n.starts n.ends range → r ≡ got n.normalized answer → r ≡ get_range most n range
    unfolding get_range
    get_range-got is q =
        q ∙ ap (got n.normalized) is
        ∙ answered-accepted most n (got n.normalized (as_normalized n.starts n.ends range)) e ok (got-missing _ _ (as_normalized-missing n.starts n.ends range))

    pub get_range_original-got : answer ≡ as_original n.starts n.ends range → r ≡ got n.original answer → r ≡ get_range_original most n range
    unfolding get_range_original
    get_range_original-got is q =
        q ∙ ap (got n.original) is
        ∙ answered-accepted most n (got n.original (as_original n.starts n.ends range)) e ok (got-missing _ _ (as_original-missing n.starts n.ends range))
