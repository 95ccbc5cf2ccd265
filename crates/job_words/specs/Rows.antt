-- The tables of the code, row by row as the definition has them.
use Rattle.std.specs.Prelude.{map}
use Rattle.job_words.specs.declared.tables.PositionEntry.{PositionEntry}
use Rattle.job_words.specs.declared.tables.OptionEntry.{OptionEntry}
use Rattle.job_words.specs.declared.tables.FlagEntry.{FlagEntry}
use Rattle.job_words.specs.Names.{name_of}
use Rattle.job_words.specs.Tables.{PositionRow, OptionRow, FlagRow}

abbrev pub position_of : PositionEntry → PositionRow
position_of entry = record { name = entry.name.now; commands = map name_of entry.commands.now }

abbrev pub option_of : OptionEntry → OptionRow
option_of entry = record {
  name = entry.name.now;
  least = entry.least;
  greatest = entry.greatest;
  default = entry.default;
  commands = map name_of entry.commands.now;
}

abbrev pub flag_of : FlagEntry → FlagRow
flag_of entry = record { name = entry.name.now; commands = map name_of entry.commands.now }
