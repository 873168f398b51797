use Rattle.basis_report.proofs.NameLemmas.{name_more}
use Rattle.basis_report.proofs.names.look_at_objects.Goals as goal

pub loop-object-preserved : goal.loop-object-preserved
loop-object-preserved c = name_more c.args.table.now.objects c.loop-object.object c.object.result.now c.object.ensures
    c.bytes-name.ensures.name c.loop-object.invariant
