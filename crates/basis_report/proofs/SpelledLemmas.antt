-- The text of an exploration spells its settings and its history. Each line of the sections begins with `#` and is skipped, so the
-- settings and the events of the transcript are what is read. A legal history is the journal of its events.
use Rattle.std.proofs.Common.{◌≡◌, ℕ, ◌+◌, true, false, List, [], ◌∷◌, ◌++◌, length, filter, Ok, refl, sym, ap, ◌∙◌, subst, append_assoc}
use Rattle.std.proofs.Common.{append-nil}
use Rattle.std.specs.Prelude.{codes, decimal, is_none}
use Rattle.std.specs.List.{list_any, list_all, flat_map, enumerate_from}
use Rattle.std.proofs.lemmas.Bool.{and_parts}
use Rattle.fca_model.specs.Names.{is_line_break}
use Rattle.fca_model.specs.Tables.{Text, NamedContext}
use Rattle.fca_model.specs.Implications.{Rule}
use Rattle.fca_model.specs.Exploration.{State, Settings, SetEvent, SetReply, SetEntry, IsLegal, opening, open_in, journal_of}
use Rattle.fca_model.specs.Exploration.{expert_of, has_row_of_width, is_expert}
use Rattle.fca_model.specs.declared.Event.TheVariants.{Row}
use Rattle.fca_model.specs.declared.Reply.TheVariants.{Taken}
use Rattle.expert_wire.specs.Texts.{line_end, ordinal, pattern, arrow_text, full_text}
use Rattle.expert_wire.specs.Replies.{numbered_rule}
use Rattle.expert_wire.specs.Patterns.{is_name}
use Rattle.expert_wire.proofs.ReadLemmas.{pattern_no_break}
use Rattle.expert_wire.proofs.SkipLemmas.{Skips, Skips-nil, Skips-append, Skips-comment, Skips-flat_map, no_break-append}
use Rattle.expert_wire.proofs.SkipLemmas.{no_break-decimal, no_break-name, no_break-arrow, no_break-full, no_break-rule}
use Rattle.expert_scripts.specs.Scripts.{EachEventCanBeWritten, HasRowName, script_form}
use Rattle.text_pieces.specs.Lists.{EachName}
use Rattle.expert_scripts.specs.Transcripts.{SettingsCanBeWritten, transcript}
use Rattle.expert_scripts.proofs.TranscriptLemmas.{are_names, script_form-transcript}
use Rattle.report_texts.specs.Reports.{count_line, implication_line, implication_lines}
use Rattle.basis_report.specs.Explorations.{records_row, recorded_line, recorded_section, accepted_section, open_section, in_lectic_order}
use Rattle.basis_report.specs.Explorations.{basis_section, sections, state_of_history, explore_text, content_or_plain, Spells, EachNamed}

-- ---- each section is skipped

pub Skips-count_line : (words : Text) (n : ℕ) → list_any is_line_break words ≡ false → Skips (count_line (codes "# " ++ words) n)
Skips-count_line words n h =
    subst Skips (ap (λ t. codes "# " ++ t) (append_assoc words (decimal n) line_end))
    (Skips-comment (words ++ decimal n) (no_break-append words (decimal n) h (no_break-decimal n)))

grouped : (a b c : Text) → codes "# " ++ ((a ++ (codes " " ++ (b ++ (codes " " ++ c)))) ++ line_end)
    ≡ codes "# " ++ (a ++ (codes " " ++ (b ++ (codes " " ++ (c ++ line_end)))))
grouped a b c = simp append_assoc

Skips-recorded : (event : SetEvent) (reply : SetReply) → HasRowName event → Skips (recorded_line event reply)
Skips-recorded (Row e name r) (Taken place) h =
    subst Skips (grouped (ordinal place) (pattern r) name)
    (Skips-comment (ordinal place ++ (codes " " ++ (pattern r ++ (codes " " ++ name))))
    (no_break-append (ordinal place) (codes " " ++ (pattern r ++ (codes " " ++ name))) (no_break-decimal (place + 1))
    (no_break-append (pattern r) (codes " " ++ name) (pattern_no_break r) (no_break-name name (ap is_none h.faultless)))))
Skips-recorded event reply h = Skips-nil

Skips-recorded_lines : (H : List SetEntry) → EachNamed H → Skips (flat_map (λ entry. recorded_line entry.event entry.reply) H)
Skips-recorded_lines [] h = Skips-nil
Skips-recorded_lines (entry ∷ H) h =
    Skips-append (recorded_line entry.event entry.reply) (flat_map (λ e. recorded_line e.event e.reply) H)
    (Skips-recorded entry.event entry.reply h.0) (Skips-recorded_lines H h.1)

Skips-recorded_section : (H : List SetEntry) → EachNamed H → Skips (recorded_section H)
Skips-recorded_section H h =
    let n = length (filter (λ entry. records_row entry.event entry.reply) H) in
    Skips-append (count_line (codes "# recorded ") n) (flat_map (λ entry. recorded_line entry.event entry.reply) H)
    (Skips-count_line (codes "recorded ") n refl) (Skips-recorded_lines H h)

Skips-accepted_section : (attributes : List Text) (k : ℕ) (acc : List Rule) → list_all is_name attributes ≡ true
    → Skips (accepted_section attributes k acc)
Skips-accepted_section attributes k acc h =
    Skips-append (count_line (codes "# accepted ") (length acc))
    (flat_map (λ x. (codes "# " ++ numbered_rule attributes x.0 x.1) ++ line_end) (enumerate_from k acc))
    (Skips-count_line (codes "accepted ") (length acc) refl)
    (Skips-flat_map (λ x. (codes "# " ++ numbered_rule attributes x.0 x.1) ++ line_end) (enumerate_from k acc)
    (λ x. Skips-comment (numbered_rule attributes x.0 x.1) (no_break-rule attributes x.0 x.1 h)))

Skips-open_section : (attributes : List Text) (J : List Rule) → list_all is_name attributes ≡ true → Skips (open_section attributes J)
Skips-open_section attributes J h =
    Skips-append (count_line (codes "# open ") (length J)) (flat_map (λ i. (codes "# " ++ full_text attributes i) ++ line_end) J)
    (Skips-count_line (codes "open ") (length J) refl)
    (Skips-flat_map (λ i. (codes "# " ++ full_text attributes i) ++ line_end) J
    (λ i. Skips-comment (full_text attributes i) (no_break-full attributes i h)))

Skips-arrow : (attributes : List Text) (place : ℕ) (i : Rule) → list_all is_name attributes ≡ true
    → Skips (implication_line (codes "# ") attributes place i)
Skips-arrow attributes place i h =
    subst Skips (regroup (ordinal place) (arrow_text attributes i))
    (Skips-comment (ordinal place ++ (codes " " ++ arrow_text attributes i))
    (no_break-append (ordinal place) (codes " " ++ arrow_text attributes i) (no_break-decimal (place + 1)) (no_break-arrow attributes i h)))
  where
    regroup : (a b : Text) → codes "# " ++ ((a ++ (codes " " ++ b)) ++ line_end) ≡ codes "# " ++ (a ++ (codes " " ++ (b ++ line_end)))
    regroup a b = simp append_assoc

Skips-basis_section : (attributes : List Text) (acc J : List Rule) → list_all is_name attributes ≡ true
    → Skips (basis_section attributes acc J)
Skips-basis_section attributes acc (q ∷ J) h = Skips-nil
Skips-basis_section attributes acc [] h =
    Skips-append (count_line (codes "# basis ") (length acc)) (implication_lines (codes "# ") attributes (in_lectic_order acc))
    (Skips-count_line (codes "basis ") (length acc) refl)
    (Skips-flat_map (λ x. implication_line (codes "# ") attributes x.0 x.1) (enumerate_from 0 (in_lectic_order acc))
    (λ x. Skips-arrow attributes x.0 x.1 h))

pub Skips-sections : (attributes : List Text) (H : List SetEntry) (s : State) → list_all is_name attributes ≡ true → EachNamed H
    → Skips (sections attributes H s)
Skips-sections attributes H s names named =
    let accepted = accepted_section attributes (length s.settings.known) s.accepted in
    let open_ = open_section attributes (open_in s) in
    let found = basis_section attributes s.accepted (open_in s) in
    Skips-append (recorded_section H) (accepted ++ (open_ ++ found)) (Skips-recorded_section H named)
    (Skips-append accepted (open_ ++ found) (Skips-accepted_section attributes (length s.settings.known) s.accepted names)
    (Skips-append open_ found (Skips-open_section attributes (open_in s) names)
    (Skips-basis_section attributes s.accepted (open_in s) names)))

-- ---- the events are those of the history

pub each_said : (n : ℕ) (H : List SetEntry) → list_all (λ entry. is_expert (expert_of entry.event)) H ≡ true
    → list_all (λ entry. has_row_of_width n entry.event) H ≡ true → EachNamed H → EachEventCanBeWritten n H
each_said n [] experts widths named = tt
each_said n (entry ∷ H) experts widths named =
    let e = and_parts (is_expert (expert_of entry.event)) (list_all (λ x. is_expert (expert_of x.event)) H) experts in
    let w = and_parts (has_row_of_width n entry.event) (list_all (λ x. has_row_of_width n x.event) H) widths in
    (record { expert = e.0; wide = w.0; named = named.0 }, each_said n H e.1 w.1 named.1)

-- ---- the whole

-- skipped lines may follow the text
pub spelled-more : (t : NamedContext) (settings : Settings) (H : List SetEntry) (more : Text) → EachName t.attributes
    → SettingsCanBeWritten t.context.width settings → EachNamed H
    → IsLegal (opening t.context t.objects settings) H → Skips more → Spells t settings H (explore_text t settings H ++ more)
unfolding explore_text
spelled-more t settings H more names can named legal skips =
    let n = t.context.width in
    let found = sections t.attributes H (state_of_history t settings H) in
    let behind = Skips-append found more (Skips-sections t.attributes H (state_of_history t settings H) (are_names t.attributes names) named)
    skips in
    let said = ap (λ text. script_form text n) (append_assoc (transcript t.attributes settings H) found more)
    ∙ script_form-transcript n t.attributes settings H (found ++ more) names can (each_said n H legal.experts legal.widths named) behind in
    record {
      script = said ∙ ap (λ r. Ok (content_or_plain r)) (sym said);
      history = ap (λ r. journal_of (opening t.context t.objects (content_or_plain r).settings) (content_or_plain r).events) said
          ∙ legal.replayed;
      settings = ap (λ r. (content_or_plain r).settings) said;
    }

pub spelled-explore_text : (t : NamedContext) (settings : Settings) (H : List SetEntry) → EachName t.attributes
    → SettingsCanBeWritten t.context.width settings → EachNamed H
    → IsLegal (opening t.context t.objects settings) H → Spells t settings H (explore_text t settings H)
spelled-explore_text t settings H names can named legal =
    subst (Spells t settings H) (append-nil (explore_text t settings H)) (spelled-more t settings H [] names can named legal Skips-nil)
