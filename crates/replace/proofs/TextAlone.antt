-- The claims about the published text alone: `laid` of the texts, by its laws for one list, by `keptParts` for two.
use Prim.Native.Nat.{ℕ}
use mathlib.Core.Path.{◌≡◌, ◌∙◌, ap, refl, sym}
use mathlib.Core.Bool.{Bool, cond}
use mathlib.Core.List.{List, [], ◌∷◌, ◌++◌}
use native.Mathlib.Omega.{arith}
use Rattle.buffers.proofs.Cases.{true-or-false}
use Rattle.note.specs.Notes.{Note}
use Rattle.pattern.specs.declared.Place.{Place}
use Rattle.pattern.specs.Entries.{places_of}
use Rattle.replace.specs.Replacing.{piece, laid, replaced}
use Rattle.replace.specs.TextAlone.{SameOutside, kept_parts, TextAlone, TextAloneTwoLists}
use Rattle.replace.proofs.Laid.{agree-laid, laid-agree}
use Rattle.replace.proofs.Blanking.{published-is}
use Rattle.replace.proofs.Faults.{Taken, taken, taken-length}

-- one list, for what the definition makes of the two notes
module _ (n m : Note) (list content : List ℕ) (tn : Taken n list) (tm : Taken m list) where
  outside-text : SameOutside n m (places_of list) → (replaced (places_of list) content n).text ≡ (replaced (places_of list) content m).text
  unfolding replaced
  outside-text o =
      agree-laid n.normalized n.normalized m.normalized (λ e. content) (λ e. content) refl (taken-length n m list tn tm) (λ e. refl) 0 (places_of list) tn.covered
      (record { outside = λ p from. o p; filled = λ q h t. refl })

  text-outside : (replaced (places_of list) content n).text ≡ (replaced (places_of list) content m).text → SameOutside n m (places_of list)
  unfolding replaced
  text-outside e p =
      (laid-agree n.normalized n.normalized m.normalized (λ e. content) (λ e. content) refl (taken-length n m list tn tm) (λ e. refl) 0 (places_of list) tn.covered e
      ).outside p (omega arith)

pub text-alone : TextAlone
text-alone most n m list content a b outₙ₀ startsₙ₀ endsₙ₀ outₙ startsₙ endsₙ outₘ₀ startsₘ₀ endsₘ₀ outₘ startsₘ endsₘ first second =
    let is = (published-is first).same_text in
    let as-well = (published-is second).same_text in (
      (λ e. text-outside n m list content (taken first) (taken second) (sym is ∙ e ∙ as-well)),
      (λ o. is ∙ outside-text n m list content (taken first) (taken second) o ∙ sym as-well),
    )

-- what is laid of a text is made of what the places leave of it
filled : List ℕ → List (Bool × List ℕ) → List ℕ
filled content [] = []
filled content (k ∷ ks) = cond k.0 content k.1 ++ filled content ks

laid_kept : (content : List ℕ) (ps : List Place) (xs : List ℕ) → laid (λ end. content) ps xs ≡ filled content (kept_parts ps xs)
unfolding laid kept_parts piece filled
laid_kept content [] xs = refl
laid_kept content (p ∷ ps) xs = true-or-false p.matched (λ t. rw (t, laid_kept content ps xs)) (λ u. rw (u, laid_kept content ps xs))

pub text-alone-two-lists : TextAloneTwoLists
unfolding replaced
text-alone-two-lists most n m listₙ listₘ content a b outₙ₀ startsₙ₀ endsₙ₀ outₙ startsₙ endsₙ outₘ₀ startsₘ₀ endsₘ₀ outₘ startsₘ endsₘ first second same =
    (published-is first).same_text
    ∙ laid_kept content (places_of listₙ) n.normalized
    ∙ ap (filled content) same
    ∙ sym (laid_kept content (places_of listₘ) m.normalized)
    ∙ sym (published-is second).same_text
