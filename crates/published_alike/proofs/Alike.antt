-- What `published_alike` answers: the walk over both notes compares what they publish, and the answer has both readings.
use Prim.Native.Nat.{ℕ}
use mathlib.Core.Path.{◌≡◌, ◌∙◌, ap, refl, sym}
use mathlib.Core.Bool.{Bool, true, false, ◌&&◌}
use mathlib.Mathlib.Data.Bool.Basic.{and_elim_left, and_elim_right}
use mathlib.Core.List.{List}
use native.Mathlib.Omega.{arith}
use lib.ListN.{length, length-replicate}
use Rattle.std.specs.Prelude.{Ok, Err}
use Rattle.buffers.specs.Same.{same}
use Rattle.buffers.proofs.Cases.{clash}
use Rattle.buffers.proofs.Same.{same_refl, same-equal}
use Rattle.note.specs.declared.Refusal.{Refusal}
use Rattle.note.specs.Refusals.{verdict, unless_refused, Verdict, Accepted}
use Rattle.note.specs.Rank.{earlier}
use Rattle.note.specs.Notes.{Note}
use Rattle.note.proofs.FirstMet.{accepted-first, accepted-second, earlier-of}
use Rattle.pattern.specs.Entries.{places_of}
use Rattle.replace.specs.Replacing.{PublishedNote, carried, replaced, replace_faults}
use Rattle.replace.specs.Blanking.{Equal}
use Rattle.replace.proofs.Faults.{Taken, accepted-taken, taken-length}
use Rattle.replace.proofs.Blanking.{agree-replaced, replaced-agree}
use Rattle.published_alike.specs.Walk.{text_alike, column_alike, all_alike, BothCovered}
use Rattle.published_alike.specs.Alike.{same_published, compare_faults, alike_answer, PublishedAlike, Readings}
use Rattle.published_alike.proofs.Walk.{every-same, text-each, column-each}

-- the test is equality
published-equal : (a b : PublishedNote) → same_published a b ≡ true → Equal a b
unfolding same_published
published-equal a b e =
    let two : (same a.text b.text && same a.starts b.starts) ≡ true = and_elim_left _ (same a.ends b.ends) e in
    record {
      same_text = same-equal _ _ (and_elim_left (same a.text b.text) _ two);
      same_starts = same-equal _ _ (and_elim_right (same a.text b.text) _ two);
      same_ends = same-equal _ _ (and_elim_right (same a.text b.text && same a.starts b.starts) _ e);
    }

equal-published : (a b : PublishedNote) → Equal a b → same_published a b ≡ true
unfolding same_published
equal-published a b e =
    rw (e.same_text, e.same_starts, e.same_ends, same_refl b.text, same_refl b.starts, same_refl b.ends)

-- both notes accepted
module _ (most : ℕ) (n m : Note) (list content : List ℕ) (ok : verdict (compare_faults most n m list content) ≡ Accepted) where
  first_taken : Taken n list
  first_taken = accepted-taken most n list content most (accepted-first (replace_faults most n list content most) (replace_faults most m list content most) ok)

  second-taken : Taken m list
  second-taken = accepted-taken most m list content most (accepted-second (replace_faults most n list content most) (replace_faults most m list content most) ok)

  walk_same : all_alike n.normalized n.starts n.ends m.normalized m.starts m.ends (length content) (places_of list) ≡ same_published (replaced (places_of list) content n) (replaced (places_of list) content m)
  unfolding all_alike same_published replaced
  walk_same =
      let content_len : ℕ = length content in
      let tn : Taken n list = first_taken in
      let tm : Taken m list = second-taken in
      rw (
        every-same n.normalized n.normalized m.normalized (λ end. content) (λ end. content) content_len (text_alike n.normalized m.normalized) refl (taken-length n m list first_taken second-taken) (λ e. refl) (λ e. refl)
            (text-each content n.normalized m.normalized) 0 (places_of list) tn.covered,
        every-same n.normalized n.starts m.starts (carried content_len n.starts) (carried content_len m.starts) content_len (column_alike content_len n.starts m.starts) tn.one_start (tm.one_start ∙ (taken-length n m list first_taken second-taken))
            (λ e. length-replicate content_len _) (λ e. length-replicate content_len _) (column-each content_len n.starts m.starts) 0 (places_of list) tn.covered,
        every-same n.normalized n.ends m.ends (carried content_len n.ends) (carried content_len m.ends) content_len (column_alike content_len n.ends m.ends) tn.one_end (tm.one_end ∙ (taken-length n m list first_taken second-taken))
            (λ e. length-replicate content_len _) (λ e. length-replicate content_len _) (column-each content_len n.ends m.ends) 0 (places_of list) tn.covered,
      )

  coverings : BothCovered n.normalized m.normalized list × (BothCovered n.starts m.starts list × BothCovered n.ends m.ends list)
  coverings = (
    record { text = n.normalized; covered = first_taken.covered; one = refl; other = (taken-length n m list first_taken second-taken) },
    (
      record { text = n.normalized; covered = first_taken.covered; one = first_taken.one_start; other = second-taken.one_start ∙ (taken-length n m list first_taken second-taken) },
      record { text = n.normalized; covered = first_taken.covered; one = first_taken.one_end; other = second-taken.one_end ∙ (taken-length n m list first_taken second-taken) },
    ),
  )

compared-both : (v : Verdict) (t u : Bool) → unless_refused Err v (Ok t) ≡ Ok u → (v ≡ Accepted) × (t ≡ u)
compared-both (Err k) t u e = let z : ◌≡◌ {A = ℕ} 0 1 = cc in absurd (omega arith)
compared-both (Ok tt) t u e = (refl, cc)

pub readings : Readings
unfolding alike_answer
readings most n m list content r e =
    let a : PublishedNote = replaced (places_of list) content n in
    let b : PublishedNote = replaced (places_of list) content m in
    let v : Verdict = verdict (compare_faults most n m list content) in
    let made : (u : Bool) → r ≡ Ok u → (v ≡ Accepted) × (same_published a b ≡ u) = λ u is. compared-both v (same_published a b) u (sym e ∙ is) in
    record {
      answer = e;
      alike = λ is.
          let q : Equal a b = published-equal a b (made true is).1 in
          let ok = (made true is).0 in
          (q, replaced-agree n m list content (first_taken most n m list content ok) (second-taken most n m list content ok) q);
      unlike = λ is. (
        (λ q. clash (same_published a b) (equal-published a b q) (made false is).1),
        (λ g.
            let ok = (made false is).0 in
            clash (same_published a b) (equal-published a b (agree-replaced n m list content (first_taken most n m list content ok) (second-taken most n m list content ok) g)) (made false is).1),
      );
    }

-- the call
module _ (most : ℕ) (n m : Note) (list content : List ℕ) {v w r : Verdict} (one : v ≡ verdict (replace_faults most n list content most)) (two : w ≡ verdict (replace_faults most m list content most)) (first : r ≡ earlier v w) where
  both : r ≡ verdict (compare_faults most n m list content)
  both = earlier-of (replace_faults most n list content most) (replace_faults most m list content most) one two first

  pub refused : {k : Refusal} → r ≡ Err k → PublishedAlike most n m list content (Err k)
  unfolding alike_answer
  refused {k} e = readings most n m list content (Err k) (sym (rw (sym both ∙ e)))

  pub covering : r ≡ Accepted → BothCovered n.normalized m.normalized list × (BothCovered n.starts m.starts list × BothCovered n.ends m.ends list)
  covering e = coverings most n m list content (sym both ∙ e)

  pub compared : r ≡ Accepted → {t : Bool} → t ≡ all_alike n.normalized n.starts n.ends m.normalized m.starts m.ends (length content) (places_of list) → PublishedAlike most n m list content (Ok t)
  unfolding alike_answer
  compared e {t} l =
      readings most n m list content (Ok t)
      (ap Ok (l ∙ walk_same most n m list content (sym both ∙ e)) ∙ sym (rw (sym both ∙ e)))
