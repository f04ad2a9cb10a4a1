-- Laws of `Behind`: chunk after chunk, and what is kept of an input that was read so.
use Prim.Native.Nat.{ℕ, ◌≤◌, ◌<◌}
use mathlib.Core.Path.{◌≡◌, ◌∙◌, refl, sym}
use mathlib.Core.List.{List, [], ◌++◌}
use native.Mathlib.Omega.{arith}
use lib.ListN.{length, take, length-take}
use lib.Seq.{take_at, length-take-le}
use Rattle.piece_lines.specs.declared.input.Seen.{Seen}
use Rattle.piece_lines.specs.declared.input.Seen.TheVariants.{Literal}
use Rattle.piece_lines.specs.Scanning.{scanned, head_size, Keeps}
use Rattle.piece_lines.proofs.Scanning.{scanned-on}
use Rattle.piece_lines.proofs.Answering.{kept_whole}
use Rattle.pieces_main.specs.Reading.{Behind}

pub nothing-behind : {s : Seen} → Behind s s
unfolding scanned
nothing-behind = record { bytes = []; is = refl }

pub chunk-behind : {s t : Seen} (bytes : List ℕ) → t ≡ scanned s bytes → Behind s t
chunk-behind bytes e = record { bytes = bytes; is = e }

pub behind-on : {s t u : Seen} → Behind s t → Behind t u → Behind s u
behind-on {s} {t} {u} a b =
    record { bytes = a.bytes ++ b.bytes; is = b.is ∙ rw a.is (sym (scanned-on s a.bytes b.bytes)) }

-- an input that ended before the buffer was full, and one that went on
pub short-kept : (head : List ℕ) (n : ℕ) {seen : Seen} → n < head_size → seen ≡ scanned (Literal 0) (take n head) → Keeps (take n head) seen
short-kept head n few e =
    record { input = take n head; is_kept = kept_whole (take n head) (omega (arith, length-take n head)) e }

pub long_kept : (head : List ℕ) (n : ℕ) {seen last : Seen} → head_size ≤ n → n ≤ length head → length head ≡ head_size → seen ≡ scanned (Literal 0) (take n head) → Behind seen last → Keeps (take n head) last
long_kept head n full within same e b =
    let long : length (take n head) ≡ head_size = length-take-le n head within ∙ omega arith in
    record {
      input = take n head ++ b.bytes;
      is_kept = record {
        head_is = sym (take_at (take n head) b.bytes head_size long);
        seen_is = b.is ∙ rw e (sym (scanned-on (Literal 0) (take n head) b.bytes));
      };
    }
