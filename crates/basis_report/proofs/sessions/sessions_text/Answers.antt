use Rattle.std.proofs.Common.{◌≡◌, ◌≤◌, ◌++◌, length, map, sym, ap, ◌∙◌, subst, append-nil, arith}
use Rattle.std.specs.List.{flat_map, enumerate_from}
use Rattle.std.proofs.Math.ListN.{drop_of_length-le}
use Rattle.basis_report.specs.Comments.{AreComments}
use Rattle.basis_report.specs.Sessions.{session_line, sessions_text}
use Rattle.basis_report.proofs.CommentLemmas.{sessions-comments}
use Rattle.basis_report.proofs.sessions.sessions_text.Goals as goal

pub returns-clause-skipped : goal.returns-clause-skipped
returns-clause-skipped c = λ whole.
    let endings = c.args.endings.now in
    let k = c.loop-place.place in
    let over : length endings ≤ k = omega arith in
    let text : c.into_bytes.result.items ≡ sessions_text (map (λ words. words.now) endings) =
    c.into_bytes.ensures ∙ sym (append-nil c.loop-place.draft)
    ∙ ap (λ ws. c.loop-place.draft ++ flat_map (λ x. session_line x.0 x.1) (enumerate_from k (map (λ words. words.now) ws)))
    (sym (drop_of_length-le endings over))
    ∙ c.loop-place.invariant in
    subst AreComments (sym text) (sessions-comments (map (λ words. words.now) endings) whole)
