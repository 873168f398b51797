use Rattle.basis_report.proofs.NameLemmas.{names_more}
use Rattle.basis_report.proofs.names.look_at_attributes.Goals as goal

pub loop-attribute-preserved : goal.loop-attribute-preserved
loop-attribute-preserved c = names_more c.args.table.now.attributes c.loop-attribute.attribute c.attribute_name.result.now
    c.attribute_name.ensures c.bytes-name.ensures.name c.loop-attribute.invariant
