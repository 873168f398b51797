use Rattle.std.proofs.Common.{◌≡◌, ◌++◌, ◌+◌, codes, drop, length}
use Rattle.std.specs.List.{flat_map, enumerate_from}
use Rattle.expert_wire.specs.Texts.{line_end}
use Rattle.expert_wire.specs.Replies.{numbered_rule}
use Rattle.basis_report.specs.Explorations.{accepted_section}
use Rattle.basis_report.proofs.explorations.write_accepted.Given as goal

abbrev pub invariant-loop-place : goal.invariant-loop-place
invariant-loop-place l =
    l.draft ++ flat_map (λ x. (codes "# " ++ numbered_rule l.table.attributes x.0 x.1) ++ line_end)
    (enumerate_from (length l.known + l.place) (drop l.place l.accepted))
    ≡ l.fn.draft ++ accepted_section l.table.attributes (length l.known) l.accepted
