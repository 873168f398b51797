use Rattle.std.proofs.Common.{subst}
use Rattle.csv.specs.Records.{AllText}
use Rattle.csv_context.proofs.read.read_line.Goals as goal

pub name_of-requires : goal.name_of-requires
unfolding AllText
name_of-requires c = (subst AllText c.next_field.ensures c.requires.text).0
