-- RULES 13.3: what stands for a pair of bytes of a text, where bytes are asked and where characters are.
use Rattle.std.specs.Prelude.{ℕ, List}
use Rattle.char_offsets.specs.Positions.{of_pair, pair_of}
use Rattle.char_columns.specs.declared.OffsetType.{OffsetType}
use Rattle.char_columns.specs.declared.OffsetType.TheVariants.{Byte, Char}

-- RULES 13.3: what stands for two bytes a and e, by what the converter of the transcript says of them (12): the two
-- characters, or the bytes themselves
unfoldable pub start_number : List ℕ → OffsetType → ℕ → ℕ → ℕ
start_number original Byte a e = a
start_number original Char a e = of_pair (λ i j. i) (λ k. a) (pair_of original a e)

unfoldable pub end_number : List ℕ → OffsetType → ℕ → ℕ → ℕ
end_number original Byte a e = e
end_number original Char a e = of_pair (λ i j. j) (λ k. e) (pair_of original a e)
