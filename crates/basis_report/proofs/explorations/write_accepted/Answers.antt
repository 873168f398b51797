use Rattle.std.proofs.Common.{length}
use Rattle.basis_report.proofs.ExplorationLemmas.{accepted_section-begun}
use Rattle.basis_report.proofs.explorations.write_accepted.Goals as goal

pub loop-place-init : goal.loop-place-init
loop-place-init c = accepted_section-begun c.args.table.now.attributes
    (length c.args.known.now) c.args.accepted.now c.args.draft.now c.write_count_line.new.draft c.in_ok-write_count_line.ensures
