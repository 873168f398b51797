-- Files whose titles are not kept.
use Rattle.std.specs.Prelude.{Result, Ok, Err}
use Rattle.fca_model.specs.Tables.{NamedContext}
use Rattle.context_table.specs.Table.{untitled_context}
use Rattle.cxt_format.specs.declared.CxtFault.{CxtFault}

-- the table without its title, or the fault
abbrev pub untitled_form : Result NamedContext CxtFault → Result NamedContext CxtFault
untitled_form (Ok t) = Ok (untitled_context t)
untitled_form (Err e) = Err e
