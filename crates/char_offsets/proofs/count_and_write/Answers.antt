-- The counts, then the answers by them.
use native.Mathlib.Omega.{arith}
use Rattle.char_offsets.proofs.count_and_write.Goals as goal

pub write_pairs-requires : goal.write_pairs-requires
write_pairs-requires c =
    record {
      counts_lent = record {
        short = c.requires.text_len_bound;
        marks_are = c.write_marks.ensures;
        long = omega (arith, c.write_lows.ensures.same, c.requires.text_len_bound, c.zeroed_lows-lows.ensures);
        lows_are = c.write_lows.ensures.lows;
      };
      pair_room = c.requires.pair_room;
    }
