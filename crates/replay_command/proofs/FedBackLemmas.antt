-- A text that spells an exploration is read as a script of its settings and its history, and every row of the table respects what these
-- settings say is known; so its replay has the same journal.
use Rattle.std.proofs.Common.{◌≡◌, ◌∙◌, ◌+◌, ◌≤◌, [], ◌∷◌, ℕ, List, Option, Some, None, Bool, true, false, not, cond, Ok, length, get_or}
use Rattle.std.proofs.Common.{nat_le, le-leb, refl, sym, ap, subst}
use Rattle.std.specs.List.{list_all}
use Rattle.std.proofs.lemmas.Bool.{and_parts}
use Rattle.std.proofs.lemmas.List.Quantifiers.{position-Some}
use Rattle.std.proofs.lemmas.List.Sums.{AllPass-from_list_all}
use Rattle.fca_model.specs.Sets.{Set}
use Rattle.fca_model.specs.Context.{Context}
use Rattle.fca_model.specs.Tables.{Text, NamedContext}
use Rattle.fca_model.specs.Implications.{Rule, rule, respects, respects_all}
use Rattle.fca_model.specs.Invariant.{rows_respect}
use Rattle.fca_model.specs.Exploration.{State, Settings, SetEntry, opening, state_after, journal_of}
use Rattle.fca_model.specs.declared.TheConstants.{FILE_BYTES, MAX_EXPERTS}
use Rattle.fca_io.specs.Shelves.{Told}
use Rattle.explore_state.specs.Faults.{broken_by, break_at, first_break}
use Rattle.expert_scripts.specs.Scripts.{ScriptContent, script_form}
use Rattle.basis_report.specs.Explorations.{content_of_text, Spells}
use Rattle.command_io.specs.Readings.{Reading, then, formed}
use Rattle.command_io.specs.Readings.Reading.{Refused, Read}
use Rattle.command_io.specs.Forms.{table_read, script_read}
use Rattle.command_io.specs.Known.{Start, known_read}
use Rattle.command_io.specs.Endings.{Output}
use Rattle.command_io.specs.Explorations.{Exploration, opening_of, state_at, IsOnCourse, IsExplored}
use Rattle.command_io.proofs.KnownLemmas.{if_respected-unbroken}
use Rattle.replay_command.specs.Replayed.{settings_read, exploration_by, exploration_read, exploration_output, IsFedBack}

-- ---- rows that break nothing

none-broken : (row : Set) (S : List Rule) → respects_all S row ≡ true → broken_by S row ≡ None
none-broken row S all = go (broken_by S row) refl
  where
    not_not : (b : Bool) → b ≡ true → not b ≡ true → ⊥
    not_not true is isnt = cc
    not_not false is isnt = cc

    go : (o : Option ℕ) → broken_by S row ≡ o → o ≡ None
    go None at = refl
    go (Some i) at =
        let other : Rule = rule [] [] in
        let there = position-Some (λ j. not (respects row j)) S i other at in
        absurd (not_not (respects row (get_or S i other)) (AllPass-from_list_all (respects row) S all i other there.0) there.1)

unbroken : (S : List Rule) (k : ℕ) (rows : List Set) → list_all (respects_all S) rows ≡ true → first_break S k rows ≡ None
unbroken S k [] all = refl
unbroken S k (row ∷ rows) all =
    let parts = and_parts (respects_all S row) (list_all (respects_all S) rows) all in
    ap (λ m. break_at k m (first_break S (k + 1) rows)) (none-broken row S parts.0) ∙ unbroken S (k + 1) rows parts.1

-- the rows of the table respect what is known, since they do at the first moment
pub opened-respecting : (r : Exploration) → IsExplored r → rows_respect r.opening.settings.known r.opening.table.context ≡ true
unfolding state_after
opened-respecting r explored = (explored.moments [] r.journal refl).valid.known

-- ---- what is read

-- a text that is not too long is read as what it says
script-read : (n : ℕ) (text : Text) (said : ScriptContent) → length text ≤ FILE_BYTES → script_form text n ≡ Ok said
    → script_read n (Some text) ≡ Read said
script-read n text said short is = ap (λ b. cond b (formed (script_form text n)) Refused) (le-leb (length text) FILE_BYTES short)
    ∙ ap formed is

settings-read : (t : NamedContext) (said : ScriptContent) → rows_respect said.settings.known t.context ≡ true
    → settings_read None [] t said ≡ Read said.settings
settings-read t said respecting =
    ap (λ (R : Reading (List Rule)). then R (λ _. Read said.settings))
    (if_respected-unbroken t said.settings.known (unbroken said.settings.known 0 t.context.rows respecting))

-- the exploration by a text that says this
explored-said : (t : NamedContext) (text : Text) (said : ScriptContent) → length text ≤ FILE_BYTES → script_form text t.context.width ≡ Ok said
    → rows_respect said.settings.known t.context ≡ true
    → exploration_read None (Some text) (record { table = t; known = [] }) ≡ Read (exploration_by t said.settings said.events)
explored-said t text said short is respecting =
    ap (λ (R : Reading ScriptContent). then R (λ x. then (settings_read None [] t x) (λ settings. Read (exploration_by t settings x.events))))
    (script-read t.context.width text said short is)
    ∙ ap (λ (R : Reading Settings). then R (λ settings. Read (exploration_by t settings said.events))) (settings-read t said respecting)

-- ---- what comes of it

-- the text of the table's exploration under the settings that has this history
abbrev told : NamedContext → Settings → List SetEntry → Output
told t settings H = exploration_output (record { opening = opening_of t MAX_EXPERTS settings; journal = H })

told-said : (t : NamedContext) (settings : Settings) (H : List SetEntry) (text : Text) → Spells t settings H text
    → exploration_output (exploration_by t (content_of_text t text).settings (content_of_text t text).events) ≡ told t settings H
told-said t settings H text spells = ap (told t (content_of_text t text).settings) spells.history
    ∙ ap (λ (s : Settings). told t s H) spells.settings

pub fed_back : (r : Exploration) (text : Text) → IsExplored r → Spells r.opening.table r.opening.settings r.journal text
    → length text ≤ FILE_BYTES → IsFedBack r text
fed_back r text explored spells short = λ file files read.
    let t : NamedContext = r.opening.table in
    let said : ScriptContent = content_of_text t text in
    let Respecting : Settings → Type 0 = λ s. rows_respect s.known t.context ≡ true in
    let respecting = subst Respecting (sym spells.settings) (opened-respecting r explored) in
    let From : Reading NamedContext → Reading Output = λ R.
    then (then (then R (λ table. then (known_read None table files) (λ S. Read (record { table = table; known = S }))))
    (exploration_read None (Some text))) (λ x. Read (exploration_output x)) in
    ap From read
    ∙ ap (λ (R : Reading Exploration). then R (λ x. Read (exploration_output x))) (explored-said t text said short spells.script respecting)
    ∙ ap Read (told-said t r.opening.settings r.journal text spells)
