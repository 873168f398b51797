use Rattle.std.proofs.Common.{rules, ◌≡◌, ◌∙◌, ℕ, Vec, Global, ap}
use Rattle.std.specs.List.{flat_map}
use Rattle.basis_report.specs.Explorations.{transcript_of, sections_before_basis, basis_section_of}
use Rattle.basis_report.proofs.ExplorationLemmas.{joined-three, explore_text-pieces}
use Rattle.basis_report.proofs.pieces.make_pieces.Goals as goal

pub returns : goal.returns
returns g c =
    let h = c.args.explore.now in
    let transcript : c.in_ok-transcript.transcript.items ≡ transcript_of h = search rules in
    let lists : c.in_ok-lists.lists.items ≡ sections_before_basis h = search rules in
    let basis : c.in_ok-lists.basis.items ≡ basis_section_of h = search rules in
    ap (flat_map (λ (piece : Vec ℕ Global). piece.items)) c.in_ok-vec.ensures.items ∙ joined-three _ _ _ _ _ _ transcript lists basis
    ∙ explore_text-pieces h
