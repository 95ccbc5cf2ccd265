-- Which numbers a line shows.
use Rattle.std.specs.Prelude.{Bool, true, false}
use Rattle.value_text.specs.declared.line.Shown.{Shown}
use Rattle.value_text.specs.declared.line.Shown.TheVariants.{Single, Pair}

abbrev pub shows_side : Shown → Bool
shows_side Single = false
shows_side Pair = true
