use Rattle.std.proofs.Common.{◌∙◌, ap, lit<, ℕ, List, Bor}
use Rattle.std.proofs.lemmas.Str.Pattern.{strip_suffix_char}
use Rattle.text_pieces.proofs.LineLemmas.{strip-stripped}
use Rattle.text_pieces.proofs.lines.without_return.Goals as goal

pub returns : goal.returns
returns c =
    let stripped = strip_suffix_char 13 c.args.piece.now c.strip_suffix.result c.strip_suffix.ensures.cases (lit< tt) in
    ap (λ (x : Bor (List ℕ)). x.now) c.unwrap_or.ensures ∙ strip-stripped c.args.piece c.strip_suffix.result stripped
