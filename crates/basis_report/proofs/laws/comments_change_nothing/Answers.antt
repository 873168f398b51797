use Rattle.expert_scripts.proofs.TranscriptLemmas.{are_names}
use Rattle.basis_report.specs.Conflicts.{conflicts_text}
use Rattle.basis_report.specs.Sessions.{sessions_text}
use Rattle.basis_report.proofs.SpelledLemmas.{spelled-more}
use Rattle.basis_report.proofs.CommentLemmas.{spelled-comments, Skips-conflicts_text, Skips-sessions_text}
use Rattle.basis_report.proofs.laws.comments_change_nothing.Goals as goal

pub returns : goal.returns
returns c = record {
  any = spelled-comments;
  conflicts = λ t settings H accepted oracles names can named legal objects. spelled-more t settings H
      (conflicts_text t.attributes accepted oracles) names can named legal
      (Skips-conflicts_text t.attributes accepted oracles (are_names t.attributes names) objects);
  sessions = λ t settings H endings names can named legal lines. spelled-more t settings H (sessions_text endings) names can named legal
      (Skips-sessions_text endings lines);
}
