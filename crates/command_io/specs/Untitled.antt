-- Tables whose titles are not kept.
use Rattle.fca_model.specs.Tables.{NamedContext}
use Rattle.context_table.specs.Table.{untitled_context}
use Rattle.command_io.specs.Readings.{Reading, then}
use Rattle.command_io.specs.Readings.Reading.{Read}

-- what was read, without its title
abbrev pub untitled_reading : Reading NamedContext → Reading NamedContext
untitled_reading reading = then reading (λ t. Read (untitled_context t))
