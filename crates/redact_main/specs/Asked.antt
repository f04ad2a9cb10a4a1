-- What the program was asked for: with how many arguments the pairs can come.
use Rattle.std.specs.Prelude.{ℕ, ◌<◌, ◌≡◌, ◌%◌}
use Rattle.redact_main.specs.declared.arguments.Source.{Source}
use Rattle.redact_main.specs.declared.arguments.Source.TheVariants.{Pairs, Names}

-- the program's own name and three words come first; then a literal and a filler for each pair, or one file
abbrev pub CountFits : Source → ℕ → Type 0
CountFits Pairs count = (5 < count) × (count % 2 ≡ 0)
CountFits Names count = count ≡ 5
