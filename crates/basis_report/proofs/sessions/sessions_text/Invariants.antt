use Rattle.std.proofs.Common.{◌≡◌, ◌++◌, map, drop, length, codes}
use Rattle.std.specs.List.{flat_map, enumerate_from}
use Rattle.report_texts.specs.Reports.{count_line}
use Rattle.basis_report.specs.Sessions.{session_line}
use Rattle.basis_report.proofs.sessions.sessions_text.Given as goal

abbrev pub invariant-loop-place : goal.invariant-loop-place
invariant-loop-place l =
    l.draft ++ flat_map (λ x. session_line x.0 x.1) (enumerate_from l.place (map (λ words. words.now) (drop l.place l.endings)))
    ≡ count_line (codes "# sessions ") (length (map (λ words. words.now) l.endings))
    ++ flat_map (λ x. session_line x.0 x.1) (enumerate_from 0 (map (λ words. words.now) l.endings))
