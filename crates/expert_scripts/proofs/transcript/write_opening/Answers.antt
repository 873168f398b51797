use Rattle.std.proofs.Common.{◌++◌, sym, ap, ◌∙◌, append_assoc}
use Rattle.std.proofs.lemmas.Result.{on_ok_weaker}
use Rattle.std.proofs.lemmas.Bool.{false≢true}
use Rattle.exploration_terms.specs.Settings.{settings_of}
use Rattle.expert_wire.specs.Texts.{line_end}
use Rattle.expert_scripts.specs.Scripts.{second_heading}
use Rattle.expert_scripts.specs.Transcripts.{opening_text, settings_text}
use Rattle.expert_scripts.proofs.TranscriptLemmas.{opening_text-other}
use Rattle.expert_scripts.proofs.DraftLemmas.{Drafting-start, Drafting-equal, Drafting-more, Drafting-fault, Drafting-last}
use Rattle.expert_scripts.proofs.transcript.write_opening.Goals as goal

pub returns-clause-whole : goal.returns-clause-whole
returns-clause-whole c =
    let s = settings_of c.args.settings.now in
    let attributes = c.args.table.now.attributes in
    let other = opening_text-other attributes s (λ plain. false≢true (sym c.if-is_plain.false ∙ c.is_plain.ensures.1 plain)) in
    let text = settings_text attributes s in
    on_ok_weaker c.write_settings.result (λ written.
    written ∙ ap (λ t. t ++ text) c.in_ok-append_parts.ensures.whole ∙ append_assoc c.args.draft.now (second_heading ++ line_end) text
    ∙ ap (λ t. c.args.draft.now ++ t) (sym other)) c.write_settings.ensures.whole

pub returns-in_err-append_parts-clause-front : goal.returns-in_err-append_parts-clause-front
returns-in_err-append_parts-clause-front c =
    let s = settings_of c.args.settings.now in
    let attributes = c.args.table.now.attributes in
    let other = opening_text-other attributes s (λ plain. false≢true (sym c.if-is_plain.false ∙ c.is_plain.ensures.1 plain)) in
    Drafting-fault (second_heading ++ line_end) (settings_text attributes s)
    (Drafting-equal other (Drafting-start c.args.draft.now (opening_text attributes s))) c.in_err-append_parts.ensures.front

pub returns-clause-front : goal.returns-clause-front
returns-clause-front c =
    let s = settings_of c.args.settings.now in
    let attributes = c.args.table.now.attributes in
    let other = opening_text-other attributes s (λ plain. false≢true (sym c.if-is_plain.false ∙ c.is_plain.ensures.1 plain)) in
    Drafting-last (settings_text attributes s)
    (Drafting-more (second_heading ++ line_end) (settings_text attributes s)
    (Drafting-equal other (Drafting-start c.args.draft.now (opening_text attributes s))) c.in_ok-append_parts.ensures.whole)
    c.write_settings.ensures.front
