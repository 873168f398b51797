-- Lines that begin with `#` after the text of an exploration are skipped like those of its sections. So the whole spells the same
-- history.
use Rattle.std.proofs.Common.{◌≡◌, ℕ, zero, suc, ◌+◌, Bool, true, false, not, Option, Some, None, List, [], ◌∷◌, ◌++◌, length, map}
use Rattle.std.proofs.Common.{get_or, refl, sym, ap, ap₂, ◌∙◌, append_assoc}
use Rattle.std.specs.Prelude.{codes, decimal, unwrap_or, slice_get, slice_index_or}
use Rattle.std.specs.List.{list_any, list_all, flat_map, enumerate_from}
use Rattle.std.proofs.lemmas.Bool.{and_parts, and_from, not-true}
use Rattle.std.proofs.lemmas.List.Folds.{list_all-append}
use Rattle.std.proofs.lemmas.Option.{unwrap_or-slice_get}
use Rattle.fca_model.specs.Names.{is_line_break}
use Rattle.fca_model.specs.Tables.{Text, NamedContext}
use Rattle.fca_model.specs.Implications.{Rule, rule}
use Rattle.fca_model.specs.Exploration.{Settings, SetEntry, IsLegal, opening}
use Rattle.expert_wire.specs.Texts.{line_end, ordinal, pattern}
use Rattle.expert_wire.specs.Replies.{numbered_rule}
use Rattle.expert_wire.specs.Patterns.{is_name}
use Rattle.expert_wire.proofs.ReadLemmas.{pattern_no_break}
use Rattle.expert_wire.proofs.SkipLemmas.{Skips, Skips-nil, Skips-append, Skips-comment, no_break-append, no_break-decimal, no_break-name}
use Rattle.expert_wire.proofs.SkipLemmas.{no_break-rule}
use Rattle.text_pieces.specs.Lists.{EachName}
use Rattle.expert_scripts.specs.Transcripts.{SettingsCanBeWritten}
use Rattle.oracle_expert.specs.Oracles.{Conflicts}
use Rattle.report_texts.specs.Reports.{count_line}
use Rattle.basis_report.specs.Comments.{comment_line, comments, are_lines, AreComments}
use Rattle.basis_report.specs.Conflicts.{DroppedRow, dropped_rows_at, dropped_rows_of, dropped_rows_from, conflict_words, conflict_line}
use Rattle.basis_report.specs.Conflicts.{conflicts_text}
use Rattle.basis_report.specs.Sessions.{session_line, sessions_text}
use Rattle.basis_report.specs.Explorations.{EachNamed, explore_text, Spells}
use Rattle.basis_report.proofs.SpelledLemmas.{Skips-count_line, spelled-more}

Skips-comments : (lines : List Text) → are_lines lines ≡ true → Skips (comments lines)
Skips-comments [] h = Skips-nil
Skips-comments (words ∷ lines) h =
    let parts = and_parts (not (list_any is_line_break words)) (are_lines lines) h in
    Skips-append (comment_line words) (comments lines) (Skips-comment words (not-true (list_any is_line_break words) parts.0))
    (Skips-comments lines parts.1)

pub spelled-comments : (t : NamedContext) (settings : Settings) (H : List SetEntry) (lines : List Text) → EachName t.attributes
    → SettingsCanBeWritten t.context.width settings → EachNamed H
    → IsLegal (opening t.context t.objects settings) H → are_lines lines ≡ true
    → Spells t settings H (explore_text t settings H ++ comments lines)
spelled-comments t settings H lines names can named legal h =
    spelled-more t settings H (comments lines) names can named legal (Skips-comments lines h)

-- ---- conflicts

-- the name of the row has no line break
abbrev has_line_name : DroppedRow → Bool
has_line_name d = not (list_any is_line_break d.name)

abbrev have_names : List (NamedContext × Conflicts) → Bool
have_names oracles = list_all (λ o. list_all is_name o.0.objects) oracles

no_break-at : (names : List Text) (i : ℕ) → list_all is_name names ≡ true → list_any is_line_break (get_or names i []) ≡ false
no_break-at [] i h = refl
no_break-at (name ∷ names) zero h = no_break-name name (and_parts (is_name name) (list_all is_name names) h).0
no_break-at (name ∷ names) (suc i) h = no_break-at names i (and_parts (is_name name) (list_all is_name names) h).1

named_at : (e : ℕ) (D : NamedContext) (place : ℕ) (o : Option ℕ) → list_all is_name D.objects ≡ true
    → list_all has_line_name (dropped_rows_at e D place o) ≡ true
named_at e D place None h = refl
named_at e D place (Some k) h =
    let none : list_any is_line_break (unwrap_or (slice_get D.objects place) []) ≡ false =
    ap (list_any is_line_break) (unwrap_or-slice_get D.objects place []) ∙ no_break-at D.objects place h in
    and_from (not (list_any is_line_break (unwrap_or (slice_get D.objects place) []))) true (ap not none) refl

named_of : (e : ℕ) (D : NamedContext) (xs : List (ℕ × Option ℕ)) → list_all is_name D.objects ≡ true
    → list_all has_line_name (flat_map (λ x. dropped_rows_at e D x.0 x.1) xs) ≡ true
named_of e D [] h = refl
named_of e D (x ∷ xs) h =
    let later = flat_map (λ x. dropped_rows_at e D x.0 x.1) xs in
    list_all-append has_line_name (dropped_rows_at e D x.0 x.1) later
    ∙ and_from (list_all has_line_name (dropped_rows_at e D x.0 x.1)) (list_all has_line_name later) (named_at e D x.0 x.1 h)
    (named_of e D xs h)

named_from : (e : ℕ) (oracles : List (NamedContext × Conflicts)) → have_names oracles ≡ true
    → list_all has_line_name (dropped_rows_from e oracles) ≡ true
named_from e [] h = refl
named_from e (o ∷ os) h =
    let parts = and_parts (list_all is_name o.0.objects) (have_names os) h in
    list_all-append has_line_name (dropped_rows_of e o.0 o.1) (dropped_rows_from (e + 1) os)
    ∙ and_from (list_all has_line_name (dropped_rows_of e o.0 o.1)) (list_all has_line_name (dropped_rows_from (e + 1) os))
    (named_of e o.0 (enumerate_from 0 o.1) parts.0) (named_from (e + 1) os parts.1)

no_break-conflict : (attributes : List Text) (accepted : List Rule) (d : DroppedRow) → list_all is_name attributes ≡ true
    → has_line_name d ≡ true
    → list_any is_line_break (conflict_words attributes accepted d) ≡ false
no_break-conflict attributes accepted d names named =
    let told = numbered_rule attributes d.broken (slice_index_or accepted d.broken (rule [] [])) in
    let from_name = d.name ++ (codes " " ++ told) in
    let from_row = pattern d.row ++ (codes " " ++ from_name) in
    let from_place = ordinal d.place ++ (codes " " ++ from_row) in
    no_break-append (ordinal d.oracle_place) (codes " " ++ from_place) (no_break-decimal (d.oracle_place + 1))
    (no_break-append (ordinal d.place) (codes " " ++ from_row) (no_break-decimal (d.place + 1))
    (no_break-append (pattern d.row) (codes " " ++ from_name) (pattern_no_break d.row)
    (no_break-append d.name (codes " " ++ told) (not-true (list_any is_line_break d.name) named)
    (no_break-rule attributes d.broken (slice_index_or accepted d.broken (rule [] [])) names))))

Skips-dropped : (attributes : List Text) (accepted : List Rule) (ds : List DroppedRow) → list_all is_name attributes ≡ true
    → list_all has_line_name ds ≡ true
    → Skips (flat_map (conflict_line attributes accepted) ds)
Skips-dropped attributes accepted [] names h = Skips-nil
Skips-dropped attributes accepted (d ∷ ds) names h =
    let parts = and_parts (has_line_name d) (list_all has_line_name ds) h in
    Skips-append (conflict_line attributes accepted d) (flat_map (conflict_line attributes accepted) ds)
    (Skips-comment (conflict_words attributes accepted d) (no_break-conflict attributes accepted d names parts.0))
    (Skips-dropped attributes accepted ds names parts.1)

pub Skips-conflicts_text : (attributes : List Text) (accepted : List Rule) (oracles : List (NamedContext × Conflicts))
    → list_all is_name attributes ≡ true → list_all (λ o. list_all is_name o.0.objects) oracles ≡ true
    → Skips (conflicts_text attributes accepted oracles)
unfolding conflicts_text
Skips-conflicts_text attributes accepted oracles names h =
    let ds = dropped_rows_from 0 oracles in
    Skips-append (count_line (codes "# conflicts ") (length ds)) (flat_map (conflict_line attributes accepted) ds)
    (Skips-count_line (codes "conflicts ") (length ds) refl) (Skips-dropped attributes accepted ds names (named_from 0 oracles h))

-- ---- sessions

Skips-endings : (k : ℕ) (endings : List Text) → are_lines endings ≡ true
    → Skips (flat_map (λ x. session_line x.0 x.1) (enumerate_from k endings))
Skips-endings k [] h = Skips-nil
Skips-endings k (words ∷ endings) h =
    let parts = and_parts (not (list_any is_line_break words)) (are_lines endings) h in
    Skips-append (session_line k words) (flat_map (λ x. session_line x.0 x.1) (enumerate_from (k + 1) endings))
    (Skips-comment (ordinal k ++ (codes " " ++ words))
    (no_break-append (ordinal k) (codes " " ++ words) (no_break-decimal (k + 1)) (not-true (list_any is_line_break words) parts.0)))
    (Skips-endings (k + 1) endings parts.1)

pub Skips-sessions_text : (endings : List Text) → are_lines endings ≡ true → Skips (sessions_text endings)
Skips-sessions_text endings h =
    Skips-append (count_line (codes "# sessions ") (length endings)) (flat_map (λ x. session_line x.0 x.1) (enumerate_from 0 endings))
    (Skips-count_line (codes "sessions ") (length endings) refl) (Skips-endings 0 endings h)

-- ---- both texts consist of such lines

lines-map : {X : Type 0} (words : X → Text) (xs : List X) → flat_map (λ x. comment_line (words x)) xs ≡ comments (map words xs)
lines-map words [] = refl
lines-map words (x ∷ xs) = ap (λ t. comment_line (words x) ++ t) (lines-map words xs)

conflict_lines : (attributes : List Text) (accepted : List Rule) (ds : List DroppedRow) → list_all is_name attributes ≡ true
    → list_all has_line_name ds ≡ true → are_lines (map (conflict_words attributes accepted) ds) ≡ true
conflict_lines attributes accepted [] names h = refl
conflict_lines attributes accepted (d ∷ ds) names h =
    let parts = and_parts (has_line_name d) (list_all has_line_name ds) h in
    and_from (not (list_any is_line_break (conflict_words attributes accepted d))) (are_lines (map (conflict_words attributes accepted) ds))
    (ap not (no_break-conflict attributes accepted d names parts.0)) (conflict_lines attributes accepted ds names parts.1)

pub conflicts-comments : (attributes : List Text) (accepted : List Rule) (oracles : List (NamedContext × Conflicts))
    → list_all is_name attributes ≡ true → list_all (λ o. list_all is_name o.0.objects) oracles ≡ true
    → AreComments (conflicts_text attributes accepted oracles)
unfolding conflicts_text
conflicts-comments attributes accepted oracles names h =
    let ds = dropped_rows_from 0 oracles in
    let head = codes "conflicts " ++ decimal (length ds) in
    let later = map (conflict_words attributes accepted) ds in record {
      lines = head ∷ later;
      whole = and_from (not (list_any is_line_break head)) (are_lines later)
          (ap not (no_break-append (codes "conflicts ") (decimal (length ds)) refl (no_break-decimal (length ds))))
          (conflict_lines attributes accepted ds names (named_from 0 oracles h));
      text_is = ap₂ (λ a b. codes "# " ++ a ++ b) (sym (append_assoc (codes "conflicts ") (decimal (length ds)) line_end))
          (lines-map (conflict_words attributes accepted) ds);
    }

abbrev session_words : ℕ × Text → Text
session_words x = ordinal x.0 ++ (codes " " ++ x.1)

ending_lines : (k : ℕ) (endings : List Text) → are_lines endings ≡ true → are_lines (map session_words (enumerate_from k endings)) ≡ true
ending_lines k [] h = refl
ending_lines k (words ∷ endings) h =
    let parts = and_parts (not (list_any is_line_break words)) (are_lines endings) h in
    and_from (not (list_any is_line_break (ordinal k ++ (codes " " ++ words))))
    (are_lines (map session_words (enumerate_from (k + 1) endings)))
    (ap not (no_break-append (ordinal k) (codes " " ++ words) (no_break-decimal (k + 1))
    (not-true (list_any is_line_break words) parts.0))) (ending_lines (k + 1) endings parts.1)

pub sessions-comments : (endings : List Text) → are_lines endings ≡ true → AreComments (sessions_text endings)
sessions-comments endings h =
    let head = codes "sessions " ++ decimal (length endings) in
    let later = map session_words (enumerate_from 0 endings) in record {
      lines = head ∷ later;
      whole = and_from (not (list_any is_line_break head)) (are_lines later)
          (ap not (no_break-append (codes "sessions ") (decimal (length endings)) refl (no_break-decimal (length endings))))
          (ending_lines 0 endings h);
      text_is = ap₂ (λ a b. codes "# " ++ a ++ b) (sym (append_assoc (codes "sessions ") (decimal (length endings)) line_end))
          (lines-map session_words (enumerate_from 0 endings));
    }
