use Rattle.std.proofs.Common.{◌≡◌, ◌+◌, drop}
use Rattle.explore_command.proofs.NameLemmas.{NamesOn}
use Rattle.explore_command.proofs.names.names_by_files.Given as goal

abbrev pub invariant-loop-file : goal.invariant-loop-file
invariant-loop-file l = (l.expert ≡ l.file-index + 1) × NamesOn l.expert (drop l.file-index l.files) l.files l.list
