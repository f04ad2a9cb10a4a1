-- The blanking claim: both ways for what the definition makes of two notes, then of two calls.
use Prim.Native.Nat.{ℕ, zero, suc, ◌-◌, ◌<◌}
use mathlib.Core.Path.{◌≡◌, ◌∙◌, ap, refl, sym}
use mathlib.Core.Bool.{true}
use mathlib.Core.List.{List}
use native.Mathlib.Omega.{arith}
use lib.ListN.{length, get_or, take, length-replicate}
use Rattle.std.specs.Prelude.{Ok}
use Rattle.buffers.proofs.Splice.{take-overlay, replicate-same, replicate-value}
use Rattle.note.specs.Refusals.{after}
use Rattle.note.specs.Notes.{Note, before_end}
use Rattle.note.proofs.BeforeEnd.{before-some}
use Rattle.pattern.specs.declared.Place.{Place}
use Rattle.pattern.specs.Entries.{places_of}
use Rattle.pattern.specs.Places.{covers_from}
use Rattle.replace.specs.Replacing.{PublishedNote, laid, carried, replaced, Replacing}
use Rattle.replace.specs.Blanking.{Equal, Agree, published, Blanking}
use Rattle.replace.proofs.Sizes.{length-laid}
use Rattle.replace.proofs.Laid.{SameColumn, agree-laid, laid-agree}
use Rattle.replace.proofs.Faults.{Taken, taken, published-says, published-size, taken-length}

-- what the content carries in one column
carried_same : (k : ℕ) (xs ys : List ℕ) (e : ℕ) → (0 < k → 0 < e → get_or xs (e - 1) 0 ≡ get_or ys (e - 1) 0) → carried k xs e ≡ carried k ys e
unfolding before_end
carried_same k xs ys zero h = refl
carried_same k xs ys (suc e) h =
    replicate-same k _ _ (λ some. before-some xs (suc e) (omega arith) ∙ h some (omega arith) ∙ sym (before-some ys (suc e) (omega arith)))

carried-value : (k : ℕ) (xs ys : List ℕ) (e : ℕ) → carried k xs e ≡ carried k ys e → 0 < k → 0 < e → get_or xs (e - 1) 0 ≡ get_or ys (e - 1) 0
carried-value k xs ys e eq some end = sym (before-some xs e end) ∙ replicate-value k _ _ some eq ∙ before-some ys e end

carried-length : (k : ℕ) (xs ys : List ℕ) (e : ℕ) → length (carried k xs e) ≡ length (carried k ys e)
carried-length k xs ys e = length-replicate k _ ∙ sym (length-replicate k _)

-- one column of two notes
module _ (t xs ys : List ℕ) (content_len : ℕ) (ps : List Place) (c : covers_from t 0 ps ≡ true) (lx : length xs ≡ length t) (ly : length ys ≡ length t) where
  column-laid : SameColumn (carried content_len xs) (carried content_len ys) 0 ps xs ys → laid (carried content_len xs) ps xs ≡ laid (carried content_len ys) ps ys
  column-laid = agree-laid t xs ys (carried content_len xs) (carried content_len ys) lx ly (carried-length content_len xs ys) 0 ps c

  column-agree : laid (carried content_len xs) ps xs ≡ laid (carried content_len ys) ps ys → SameColumn (carried content_len xs) (carried content_len ys) 0 ps xs ys
  column-agree = laid-agree t xs ys (carried content_len xs) (carried content_len ys) lx ly (carried-length content_len xs ys) 0 ps c

-- both ways, for what the definition makes of the two notes
module _ (n m : Note) (list content : List ℕ) (tn : Taken n list) (tm : Taken m list) where
  content_len : ℕ
  content_len = length content

  starts_long : length m.starts ≡ length n.normalized
  starts_long = tm.one_start ∙ (taken-length n m list tn tm)

  ends_long : length m.ends ≡ length n.normalized
  ends_long = tm.one_end ∙ (taken-length n m list tn tm)

  pub agree-replaced : Agree n m (places_of list) content → Equal (replaced (places_of list) content n) (replaced (places_of list) content m)
  unfolding replaced
  agree-replaced a =
      record {
        same_text = agree-laid n.normalized n.normalized m.normalized (λ e. content) (λ e. content) refl (taken-length n m list tn tm) (λ e. refl) 0 (places_of list) tn.covered
            (record { outside = λ p from to o. (a.outside p to o).0; filled = λ q h t. refl });
        same_starts = column-laid n.normalized n.starts m.starts (length content) (places_of list) tn.covered tn.one_start starts_long
            (record {
              outside = λ p from to o. (a.outside p (omega (arith, tn.one_start)) o).1.0;
              filled = λ q h t. carried_same (length content) n.starts m.starts q.end.0 (λ some past. (a.before-end some q h t past).0);
            });
        same_ends = column-laid n.normalized n.ends m.ends (length content) (places_of list) tn.covered tn.one_end ends_long
            (record {
              outside = λ p from to o. (a.outside p (omega (arith, tn.one_end)) o).1.1;
              filled = λ q h t. carried_same (length content) n.ends m.ends q.end.0 (λ some past. (a.before-end some q h t past).1);
            });
      }

  pub replaced-agree : Equal (replaced (places_of list) content n) (replaced (places_of list) content m) → Agree n m (places_of list) content
  unfolding replaced
  replaced-agree q =
      let t = laid-agree n.normalized n.normalized m.normalized (λ e. content) (λ e. content) refl (taken-length n m list tn tm) (λ e. refl) 0 (places_of list) tn.covered q.same_text in
      let s = column-agree n.normalized n.starts m.starts (length content) (places_of list) tn.covered tn.one_start starts_long q.same_starts in
      let e = column-agree n.normalized n.ends m.ends (length content) (places_of list) tn.covered tn.one_end ends_long q.same_ends in
      record {
        outside = λ p to o. (
          t.outside p (omega arith) to o,
          (s.outside p (omega arith) (omega (arith, tn.one_start)) o, e.outside p (omega arith) (omega (arith, tn.one_end)) o),
        );
        before-end = λ some p h k past. (
          carried-value (length content) n.starts m.starts p.end.0 (s.filled p h k) some past,
          carried-value (length content) n.ends m.ends p.end.0 (e.filled p h k) some past,
        );
      }

-- what a call has published is what the definition makes of the note
module _ {most : ℕ} {n : Note} {list content out₀ starts₀ ends₀ out starts ends : List ℕ} {a : ℕ} (call : Replacing most n list content out₀ starts₀ ends₀ (Ok a) out starts ends) where
  cut : (r d o : List ℕ) → o ≡ after call.says r d → a ≡ length r → take a o ≡ r
  cut r d o e l = rw l (ap (take (length r)) (e ∙ ap (λ v. after v r d) (published-says call)) ∙ take-overlay r d)

  pub published-is : Equal (published a out starts ends) (replaced (places_of list) content n)
  unfolding replaced
  published-is =
      let t : Taken n list = taken call in
      let size : a ≡ length (replaced (places_of list) content n).text = published-size call in
      let text = length-laid n.normalized n.normalized (λ e. content) (length content) 0 (places_of list) refl (λ e. refl) t.covered in
      let starts_long = length-laid n.normalized n.starts (carried (length content) n.starts) (length content) 0 (places_of list) t.one_start (λ e. length-replicate (length content) _) t.covered in
      let ends_long = length-laid n.normalized n.ends (carried (length content) n.ends) (length content) 0 (places_of list) t.one_end (λ e. length-replicate (length content) _) t.covered in
      record {
        same_text = cut _ _ _ call.text_is size;
        same_starts = cut _ _ _ call.starts_are (size ∙ text ∙ sym starts_long);
        same_ends = cut _ _ _ call.ends_are (size ∙ text ∙ sym ends_long);
      }

equal-along : {a b c d : PublishedNote} → Equal a b → Equal c d → Equal a c → Equal b d
equal-along p q e =
    record {
      same_text = sym p.same_text ∙ e.same_text ∙ q.same_text;
      same_starts = sym p.same_starts ∙ e.same_starts ∙ q.same_starts;
      same_ends = sym p.same_ends ∙ e.same_ends ∙ q.same_ends;
    }

equal-back : {a b : PublishedNote} → Equal a b → Equal b a
equal-back e = record { same_text = sym e.same_text; same_starts = sym e.same_starts; same_ends = sym e.same_ends }

-- THE THEOREM
pub blanking : Blanking
blanking most n m list content a b outₙ₀ startsₙ₀ endsₙ₀ outₙ startsₙ endsₙ outₘ₀ startsₘ₀ endsₘ₀ outₘ startsₘ endsₘ first second = (
  (λ e. replaced-agree n m list content (taken first) (taken second) (equal-along (published-is first) (published-is second) e)),
  (λ g.
      equal-along (equal-back (published-is first)) (equal-back (published-is second))
      (agree-replaced n m list content (taken first) (taken second) g)),
)
