-- Which bytes an accepted slice has.
use Prim.Native.Nat.{◌≤◌, ◌<◌}
use mathlib.Core.Path.{◌≡◌, ◌∙◌, ap, refl, sym}
use native.Mathlib.Omega.{arith}
use Rattle.buffers.proofs.Cases.{le-or-lt, clash}
use Rattle.note.specs.Notes.{Note, Sound}
use Rattle.note.proofs.Sound.{length-ends}
use Rattle.convert.specs.declared.Range.{Range}
use Rattle.convert.specs.declared.Range.TheVariants.{Original, Normalized}
use Rattle.convert.specs.Converting.{start_of, end_of, start_in, end_in, missing}
use Rattle.convert.specs.Converting.{as_original, as_normalized}
use Rattle.slice.specs.Slicing.{slice_of, sliced}
use Rattle.slice.specs.Bytes.{Has, HasBytes, SliceBytes}
use Rattle.slice.proofs.Cutting.{Cutting, original-empty, normalized-own, original-own, normalized-empty, normalized-found, reversed-original, reversed-normalized}
use Rattle.slice.proofs.Judged.{accepted-note, accepted-cutting}
use Rattle.slice.proofs.SliceNotes.{normalized-sliced}

module _ (n : Note) where
  bytes-forward : (range : Range) → Cutting n range → start_of range ≤ end_of range
  bytes-forward (Normalized x y) k =
      le-or-lt x.0 y.0 (λ h. h)
      (λ reversed. clash (missing (as_original n.starts n.ends (Normalized x y))) (reversed-original n.starts n.ends x.0 y.0 reversed) (ap missing k.original_is))
  bytes-forward (Original x y) k =
      le-or-lt x.0 y.0 (λ h. h)
      (λ reversed. clash (missing (as_normalized n.starts n.ends (Original x y))) (reversed-normalized n.starts n.ends x.0 y.0 reversed) (ap missing k.normalized_is))

  bytes-empty : (range : Range) → start_of range ≡ end_of range → Has (sliced n range) (start_of range) (end_of range) (start_of range) (end_of range)
  unfolding sliced slice_of
  bytes-empty (Normalized x y) e =
      record {
        original_from = ap start_in (original-empty n.starts n.ends x.0 y.0 e);
        original_to = ap end_in (original-empty n.starts n.ends x.0 y.0 e);
        normalized_from = ap start_in (normalized-own n.starts n.ends x.0 y.0);
        normalized_to = ap end_in (normalized-own n.starts n.ends x.0 y.0);
      }
  bytes-empty (Original x y) e =
      record {
        original_from = ap start_in (original-own n.starts n.ends x.0 y.0);
        original_to = ap end_in (original-own n.starts n.ends x.0 y.0);
        normalized_from = ap start_in (normalized-empty n.starts n.ends x.0 y.0 e);
        normalized_to = ap end_in (normalized-empty n.starts n.ends x.0 y.0 e);
      }

  bytes-some : Sound n → (range : Range) → Cutting n range → start_of range < end_of range → HasBytes n range (sliced n range)
  unfolding sliced slice_of
  bytes-some sound (Normalized x y) k h =
      let end : y.0 ≡ k.d = ap end_in (sym (normalized-own n.starts n.ends x.0 y.0) ∙ k.normalized_is) in
      let is = normalized-sliced n x.0 y.0 h (omega (arith, k.inside, length-ends n sound)) in
      rw is (record { original_from = refl; original_to = refl; normalized_from = refl; normalized_to = refl })
  bytes-some sound (Original x y) k h = (
    record {
      original_from = ap start_in (original-own n.starts n.ends x.0 y.0);
      original_to = ap end_in (original-own n.starts n.ends x.0 y.0);
      normalized_from = refl;
      normalized_to = refl;
    },
    sym (normalized-found n.starts n.ends x.0 y.0) ∙ rw k.normalized_is,
  )

pub slice-bytes : SliceBytes
slice-bytes most n range room e =
    let k = accepted-cutting most n range room e in
    (bytes-forward n range k, bytes-empty n range, bytes-some n (accepted-note most n range room e).0 range k)
