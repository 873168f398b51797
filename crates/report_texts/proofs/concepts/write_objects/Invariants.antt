use Rattle.std.proofs.Common.{◌≡◌, ◌++◌, codes, drop}
use Rattle.expert_wire.specs.Texts.{names_in_braces}
use Rattle.expert_wire.proofs.ListedLemmas.{bridged}
use Rattle.report_texts.specs.Reports.{names_at}
use Rattle.report_texts.proofs.concepts.write_objects.Given as goal

abbrev pub invariant-loop-place : goal.invariant-loop-place
invariant-loop-place l =
    l.draft ++ (bridged l.between (names_at l.table.objects (drop l.place-index l.places)) ++ codes "}") ≡ l.fn.draft ++ names_in_braces
    (names_at l.table.objects l.places)
