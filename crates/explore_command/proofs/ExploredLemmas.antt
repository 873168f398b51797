-- The text of an exploration by oracles: the conflicts that the oracles have are those of their entries, lines of conflicts change nothing
-- of what the text spells, and what is promised of the oracles is said of the tables of the experts.
use Rattle.std.proofs.Common.{◌≡◌, ◌↔◌, ◌⊎◌, ◌≤◌, ◌<◌, ◌∙◌, ◌+◌, ◌++◌, ◌∷◌, [], ℕ, suc, List, Vec, Global, Bool, true, false, All, map}
use Rattle.std.proofs.Common.{length, append_assoc, append-nil, Option, Some, None, Result, Ok, Err, inl, inr, refl, sym, ap, subst, arith}
use Rattle.std.proofs.Common.{leb-true, le-leb}
use Rattle.std.specs.Prelude.{◌^◌, nat_le, slice_get, option_map, IfOk}
use Rattle.std.specs.List.{flat_map, enumerate_from}
use Rattle.std.proofs.lemmas.Grind.{flat_map-append}
use Rattle.std.proofs.lemmas.Bool.{and_parts, and_from}
use Rattle.std.proofs.lemmas.Option.{slice_get-map, slice_get_within}
use Rattle.std.proofs.lemmas.List.{length-map}
use Rattle.std.proofs.lemmas.List.Elements.{All-head, All-tail}
use Rattle.fca_model.specs.Sets.{Set}
use Rattle.fca_model.specs.Context.{Context}
use Rattle.fca_model.specs.Tables.{Text, NamedContext}
use Rattle.fca_model.specs.Implications.{Rule}
use Rattle.fca_model.specs.Questions.{open_questions}
use Rattle.fca_model.specs.Pseudo.{basis_known}
use Rattle.fca_model.specs.Invariant.{rows_respect}
use Rattle.fca_model.specs.declared.Event.TheVariants.{Draw}
use Rattle.fca_model.specs.declared.TheConstants.{MAX_EXPERTS, MAX_SURVEYED, MAX_TURNS}
use Rattle.fca_model.specs.Exploration.{Settings, SetEntry, own, rules_of, opening, open_in, state_after, events_of, is_expert, IsLegal}
use Rattle.fca_model.proofs.CourseLemmas.{run_settings}
use Rattle.fca_model.proofs.RunLemmas.{own-append, legal_events}
use Rattle.fca_model.proofs.ValidLemmas.{opening_valid}
use Rattle.oracle_expert.specs.Counts.{answers_recorded_in}
use Rattle.oracle_expert.specs.Intents.{HasIntentsOf, are_intents}
use Rattle.oracle_expert.specs.Oracles.{Recall, Conflicts, no_conflict}
use Rattle.oracle_expert.specs.Runs.{OracleMoment, start, moment_after, moment_at, OracleRunsFrom, IsOracleFront, ends_done, conflicts_of}
use Rattle.oracle_expert.proofs.CountLemmas.{oracle_turns}
use Rattle.oracle_expert.proofs.DrawLemmas.{recorded_between, runs_on}
use Rattle.fca_model.specs.declared.Memory.{Memory}
use Rattle.expert_panel.specs.declared.explored.ExplorationByOracles.{ExplorationByOracles}
use Rattle.expert_panel.specs.Explorations.{IsOraclesShare, EachNumbered, HasAgreed}
use Rattle.explore_state.specs.History.{Opening, ExploreModel, opening_state, state_of, open_of}
use Rattle.basis_report.specs.Comments.{comments as comments_of, are_lines, AreComments}
use Rattle.expert_scripts.specs.Transcripts.{SettingsCanBeWritten, transcript}
use Rattle.basis_report.specs.Explorations.{recorded_section, accepted_section, open_section, basis_lines, state_of_history, explore_text}
use Rattle.basis_report.specs.Explorations.{text_before_basis, Spells, SpellsBefore}
use Rattle.basis_report.specs.Conflicts.{dropped_rows_at, dropped_rows_of, dropped_rows_from, conflicts_section, conflicts_text}
use Rattle.basis_report.proofs.OrderLemmas.{finished_text}
use Rattle.command_io.specs.Endings.{Output}
use Rattle.command_io.specs.Readings.{Reading, MayRead}
use Rattle.command_io.specs.Readings.Reading.{Read}
use Rattle.command_io.specs.Explorations.{opening_of, last_open}
use Rattle.command_io.proofs.CourseLemmas.{legal-course}
use Rattle.explore_command.specs.Starts.{ExploreStart, MayOpen}
use Rattle.explore_command.specs.Explored.{IsShare, dropped_in, exploration_of_start, explored_text, recorded_text, basis_alone, IsExploredText}
use Rattle.explore_command.specs.Explored.{with_conflicts, text_with_conflicts, HasExplored, explored_ending, MayExplore}

dropped-oracles : (H : List SetEntry) (e : ℕ) (oracles : List Recall)
    → ((k : ℕ) (oracle : Recall) → slice_get oracles k ≡ Some oracle → oracle.conflicts ≡ conflicts_of oracle.table (own H (k + e)))
    → map with_conflicts oracles ≡ dropped_in H e (map (λ oracle. oracle.table) oracles)
dropped-oracles H e [] h = refl
dropped-oracles H e (oracle ∷ oracles) h =
    let P : ℕ → Type 0 = λ n. oracle.conflicts ≡ conflicts_of oracle.table (own H n) in
    let zero_more : 0 + e ≡ e = omega arith in
    let here : oracle.conflicts ≡ conflicts_of oracle.table (own H e) = subst P zero_more (h 0 oracle refl) in
    let rest = dropped-oracles H (e + 1) oracles (λ k other at.
    let Q : ℕ → Type 0 = λ n. other.conflicts ≡ conflicts_of other.table (own H n) in
    let behind : suc k + e ≡ k + (e + 1) = omega arith in
    subst Q behind (h (suc k) other at)) in
    ap (λ c. (oracle.table, c) ∷ map with_conflicts oracles) here ∙ ap (λ l. (oracle.table, conflicts_of oracle.table (own H e)) ∷ l) rest

-- the part of an oracle is one of its table
part-by : (H : List SetEntry) (k : ℕ) (D : NamedContext) (found : Option Recall)
    → ((oracle : Recall) → found ≡ Some oracle → IsOraclesShare MAX_TURNS H (k + 1) oracle)
    → option_map (λ (oracle : Recall). oracle.table) found ≡ Some D
    → IsOracleFront D (k + 1) (own H (k + 1)) × ((ends_done (own H (k + 1)) ≡ true)
    ⊎ ((ends_done (own H (k + 1)) ≡ false) × (length (own H (k + 1)) ≡ MAX_TURNS)))
part-by H k D None h e = cc
part-by H k D (Some oracle) h e =
    let same : oracle.table ≡ D = cc in
    let share = h oracle refl in
    (subst (λ T. IsOracleFront T (k + 1) (own H (k + 1))) same share.front, share.end)

-- an expert's number is one
is_number : {X : Type 0} (experts : List X) → is_expert (length experts) ≡ true → (k : ℕ) (x : X) → slice_get experts k ≡ Some x
    → is_expert (k + 1) ≡ true
is_number experts few k x at =
    let most = leb-true (length experts) MAX_EXPERTS (and_parts (nat_le 1 (length experts)) (nat_le (length experts) MAX_EXPERTS) few).1 in
    let within = slice_get_within experts k x at in
    and_from (nat_le 1 (k + 1)) (nat_le (k + 1) MAX_EXPERTS) (le-leb 1 (k + 1) (omega arith)) (le-leb (k + 1) MAX_EXPERTS (omega arith))

-- of a legal history from the table under these settings, where all experts may hold one question
module _ (T : NamedContext) (G : Settings) (H : List SetEntry) (respecting : rows_respect G.known T.context ≡ true)
    (most : G.holders ≡ MAX_EXPERTS) (legal : IsLegal (opening T.context T.objects G) H) where
  drawn-apart : (D : NamedContext) (e : ℕ) → is_expert e ≡ true → IsOracleFront D e (own H e)
      → (before between after : List SetEntry) (first second : SetEntry)
      → H ≡ before ++ (first ∷ between ++ second ∷ after) → first.event ≡ Draw e → second.event ≡ Draw e → 1 ≤ answers_recorded_in between
  drawn-apart D e expert front before between after first second cut draw again =
      let from : List SetEntry = first ∷ between ++ second ∷ after in
      let parted : own H e ≡ own before e ++ own from e = ap (λ J. own J e) cut ∙ own-append before from e in
      let on = runs_on D e (start D) (own before e) (own from e) (subst (OracleRunsFrom D e (start D)) parted front) in
      recorded_between D e expert (events_of H) (opening T.context T.objects G) (opening_valid T.context T.objects G respecting) most
      (legal_events (opening T.context T.objects G) H legal).0
      (moment_at D (start D) (own before e)) before between after first second (legal.replayed ∙ cut) draw again on

  shares-tables : (oracles : List Recall) → is_expert (length oracles) ≡ true → EachNumbered (IsOraclesShare MAX_TURNS H) oracles
      → EachNumbered (IsShare H) (map (λ oracle. oracle.table) oracles)
  shares-tables oracles few h = λ k D at.
      let tables : List NamedContext = map (λ (oracle : Recall). oracle.table) oracles in
      let expert : is_expert (k + 1) ≡ true = is_number tables
      (ap is_expert (length-map oracles (λ (oracle : Recall). oracle.table)) ∙ few) k D at in
      let part = part-by H k D (slice_get oracles k) (λ oracle there. h k oracle there)
      (sym (slice_get-map (λ (oracle : Recall). oracle.table) oracles k) ∙ at) in
      record {
        front = part.0;
        end = part.1;
        within = oracle_turns T.context T.objects G H respecting most legal D (k + 1) expert [] (own H (k + 1)) refl part.0;
        apart = drawn-apart D (k + 1) expert part.0;
      }

-- what its settings are can be told
pub writable-explored : (p : ExploreStart) (explore : ExploreModel) (oracles : List Recall) (spent : Bool) → HasExplored p explore oracles spent
    → SettingsCanBeWritten explore.opening.table.context.width explore.opening.settings
writable-explored p explore oracles spent explored =
    let Tells : Opening → Type 0 = λ o. SettingsCanBeWritten o.table.context.width o.settings in
    subst Tells (sym explored.opening) explored.may.writable

-- there are as many oracles as experts
pub length-explored : (p : ExploreStart) (explore : ExploreModel) (oracles : List Recall) (spent : Bool) → HasExplored p explore oracles spent
    → length oracles ≡ explore.opening.experts
length-explored p explore oracles spent explored =
    sym (length-map oracles (λ (oracle : Recall). oracle.table)) ∙ ap length explored.tables
    ∙ sym (ap (λ (o : Opening). o.experts) explored.opening)

-- what came of the oracles of the experts' tables, opened so
pub explored-oracles : (p : ExploreStart) (o : Opening) (n : ℕ) (output : Result ExplorationByOracles Memory) → MayOpen p.table p.settings
    → o ≡ opening_of p.table n p.settings → n ≡ length p.expert_tables
    → IfOk output (λ r. r.explore.opening ≡ o)
    → IfOk output (λ r. IsLegal (opening_state r.explore.opening) r.explore.journal)
    → IfOk output (λ r. map (λ oracle. oracle.table) r.oracles.items ≡ p.expert_tables)
    → IfOk output (λ r. EachNumbered (IsOraclesShare MAX_TURNS r.explore.journal) r.oracles.items)
    → IfOk output (λ r. (e : ℕ) → (e ≡ 0) ⊎ (n < e) → own r.explore.journal e ≡ [])
    → IfOk output (λ r. (r.spent ≡ true) ↔ ((e : ℕ) × (1 ≤ e) × (e ≤ n) × (ends_done (own r.explore.journal e) ≡ false)))
    → IfOk output (λ r. r.spent ≡ false → open_of r.explore ≡ [])
    → IfOk output (λ r. MAX_TURNS ≡ 2 ^ 48 → o.table.context.width ≤ MAX_SURVEYED → r.spent ≡ false)
    → IfOk output (λ r. (C : Context) → All (λ expert. HasIntentsOf C expert.context) p.expert_tables → are_intents C o.table.context.rows ≡ true
    → rows_respect o.settings.known C ≡ true
    → HasAgreed C r.explore r.oracles.items r.spent)
    → IfOk output (λ r. HasExplored p r.explore r.oracles.items r.spent)
explored-oracles p o n (Err memory) may opened count opening legal tables shares others unfinished finished unspent agreed = tt
explored-oracles p o n (Ok r) may opened count opening legal tables shares others unfinished finished unspent agreed =
    let H = r.explore.journal in
    let Others : ℕ → Type 0 = λ m. (e : ℕ) → (e ≡ 0) ⊎ (m < e) → own H e ≡ [] in
    let Unfinished : ℕ → Type 0 = λ m. (r.spent ≡ true) ↔ ((e : ℕ) × (1 ≤ e) × (e ≤ m) × (ends_done (own H e) ≡ false)) in
    let Few : Opening → Type 0 = λ x. x.table.context.width ≤ MAX_SURVEYED in
    record {
      may = may;
      opening = opening ∙ opened ∙ ap (λ m. opening_of p.table m p.settings) count;
      legal = legal;
      tables = tables;
      shares = shares;
      others = subst Others count others;
      spent = subst Unfinished count unfinished;
      finished = finished;
      unspent = λ few. unspent refl (subst Few (sym opened) few);
      agreed = λ C same part respected. agreed C same
          (let Part : Opening → Type 0 = λ x. are_intents C x.table.context.rows ≡ true in subst Part (sym opened) part)
          (let Respected : Opening → Type 0 = λ x. rows_respect x.settings.known C ≡ true in subst Respected (sym opened) respected);
    }

-- conflicts are lines that change nothing of what the text spells
pub spelled-conflicts : (explore : ExploreModel) (conflicts text : Text) → SettingsCanBeWritten explore.opening.table.context.width explore.opening.settings
    → ((lines : List Text) → are_lines lines ≡ true → SettingsCanBeWritten explore.opening.table.context.width explore.opening.settings
    → SpellsBefore explore.opening.table explore.opening.settings explore.journal lines)
    → AreComments conflicts → text ≡ explore_text explore.opening.table explore.opening.settings explore.journal ++ conflicts
    → Spells explore.opening.table explore.opening.settings explore.journal text
spelled-conflicts explore conflicts text told spells comments joined =
    let first = explore_text explore.opening.table explore.opening.settings explore.journal in
    let commented : text ≡ first ++ comments_of comments.lines = joined ∙ ap (λ l. first ++ l) comments.text_is in
    subst (Spells explore.opening.table explore.opening.settings explore.journal) (sym commented)
    (spells comments.lines comments.whole told)

-- one piece more stands behind the others
pub pieces-more : (pieces grown : List (Vec ℕ Global)) (piece : Vec ℕ Global) (text : Text) → grown ≡ pieces ++ piece ∷ []
    → flat_map (λ (p : Vec ℕ Global). p.items) pieces ≡ text
    → flat_map (λ (p : Vec ℕ Global). p.items) grown ≡ text ++ piece.items
pieces-more pieces grown piece text more told =
    let f : Vec ℕ Global → Text = λ p. p.items in
    ap (flat_map f) more ∙ flat_map-append f pieces (piece ∷ []) ∙ ap (λ z. z ++ (piece.items ++ [])) told
    ∙ ap (λ z. text ++ z) (append-nil piece.items)

-- ---- oracles who know one table

-- no row of a table was dropped
none_dropped-of : (e : ℕ) (D : NamedContext) (k : ℕ) (rows : List Set)
    → flat_map (λ x. dropped_rows_at e D x.0 x.1) (enumerate_from k (map (λ _. None) rows)) ≡ []
none_dropped-of e D k [] = refl
none_dropped-of e D k (row ∷ rows) = none_dropped-of e D (k + 1) rows

none_dropped-from : (e : ℕ) (oracles : List Recall) → All (λ (oracle : Recall). oracle.conflicts ≡ no_conflict oracle.table) oracles
    → dropped_rows_from e (map with_conflicts oracles) ≡ []
none_dropped-from e [] kept = refl
none_dropped-from e (oracle ∷ oracles) kept =
    let Kept : Recall → Type 0 = λ o. o.conflicts ≡ no_conflict o.table in
    let here : dropped_rows_of e oracle.table oracle.conflicts ≡ [] = ap (dropped_rows_of e oracle.table) (All-head Kept oracle oracles kept)
    ∙ none_dropped-of e oracle.table 0 oracle.table.context.rows in
    ap (λ l. l ++ dropped_rows_from (e + 1) (map with_conflicts oracles)) here
    ∙ none_dropped-from (e + 1) oracles (All-tail Kept oracle oracles kept)

no_conflicts : (attributes : List Text) (J L : List Rule) (oracles : List Recall)
    → All (λ (oracle : Recall). oracle.conflicts ≡ no_conflict oracle.table) oracles
    → conflicts_text attributes J (map with_conflicts oracles) ≡ conflicts_section attributes L []
unfolding conflicts_text
no_conflicts attributes J L oracles kept = ap (conflicts_section attributes J) (none_dropped-from 0 oracles kept)

regrouped : (t r a o b c : Text) → ((t ++ (r ++ (a ++ o))) ++ b) ++ c ≡ (t ++ (r ++ a)) ++ (o ++ (b ++ c))
regrouped t r a o b c = simp append_assoc

-- the text of an exploration at whose end no question is open, before such conflicts
agreed_text : (T : NamedContext) (G : Settings) (H : List SetEntry) (C : Context) (conflicts : Text) → rows_respect G.known T.context ≡ true
    → IsLegal (opening T.context T.objects G) H
    → open_questions G.known (state_of_history T G H).context (state_of_history T G H).accepted ≡ []
    → basis_known G.known (state_of_history T G H).context ≡ basis_known G.known C
    → explore_text T G H ++ conflicts
    ≡ (transcript T.attributes G H ++ (recorded_section H ++ accepted_section T.attributes (length G.known) (state_of_history T G H).accepted))
    ++ (open_section T.attributes [] ++ (basis_lines T.attributes (basis_known G.known C) ++ conflicts))
agreed_text T G H C conflicts respected legal done same =
    let s = state_of_history T G H in
    let settled : s.settings.known ≡ G.known = ap (λ (x : Settings). x.known)
    (run_settings (opening T.context T.objects G) (events_of H)) in
    let none : open_in s ≡ [] = ap (λ K. open_questions K s.context s.accepted) settled ∙ done in
    ap (λ l. l ++ conflicts) (finished_text T G H respected legal none
    ∙ ap (λ (J : List Rule). text_before_basis T G H ++ basis_lines T.attributes J) same)
    ∙ regrouped (transcript T.attributes G H) (recorded_section H) (accepted_section T.attributes (length G.known) s.accepted)
    (open_section T.attributes [])
    (basis_lines T.attributes (basis_known G.known C)) conflicts

explored_text-explored : (p : ExploreStart) (explore : ExploreModel) (oracles : List Recall) (spent : Bool) → HasExplored p explore oracles spent
    → text_with_conflicts explore oracles ≡ explored_text p explore.journal
explored_text-explored p explore oracles spent explored =
    let H = explore.journal in
    let text : Opening → List (NamedContext × Conflicts) → Text = λ o dropped.
    explore_text o.table o.settings H ++ conflicts_text o.table.attributes
    (rules_of (state_after (opening_state o) (events_of H))) dropped in
    let dropped = dropped-oracles H 1 oracles (λ k oracle at. (explored.shares k oracle at).conflicts) in
    ap (λ o. text o (map with_conflicts oracles)) explored.opening
    ∙ ap (text (opening_of p.table (length p.expert_tables) p.settings)) (dropped ∙ ap (dropped_in H 1) explored.tables)

agreed-explored : (p : ExploreStart) (explore : ExploreModel) (oracles : List Recall) (spent : Bool) (text : Text)
    → HasExplored p explore oracles spent → text ≡ text_with_conflicts explore oracles
    → (C : Context) → All (λ (D : NamedContext). HasIntentsOf C D.context) p.expert_tables → are_intents C p.table.context.rows ≡ true
    → rows_respect p.settings.known C ≡ true → spent ≡ false
    → text ≡ recorded_text p explore.journal ++ basis_alone p.table.attributes (basis_known p.settings.known C)
agreed-explored p explore oracles spent text explored whole C same part respected unspent =
    let H = explore.journal in
    let o : Opening = opening_of p.table (length p.expert_tables) p.settings in
    let agreed = explored.agreed C same part respected in
    let B = basis_known p.settings.known C in
    let legal : IsLegal (opening_state o) H = subst (λ (x : Opening). IsLegal (opening_state x) H) explored.opening explored.legal in
    let done : last_open (exploration_of_start p H) ≡ [] = subst
    (λ (x : Opening). open_of (record { opening = x; journal = H; spare = 0 }) ≡ []) explored.opening (explored.finished unspent) in
    let same_basis : basis_known p.settings.known (state_of_history p.table p.settings H).context ≡ B =
    subst (λ (x : Opening). basis_known x.settings.known (state_after (opening_state x) (events_of H)).context
    ≡ basis_known x.settings.known C) explored.opening (agreed.basis unspent) in
    let J = rules_of (state_of explore) in
    let text_of : Opening → Text → Text = λ x conflicts. explore_text x.table x.settings H ++ conflicts in
    let conflicts_of_all : Opening → Text = λ x. conflicts_text x.table.attributes J (map with_conflicts oracles) in
    let none : conflicts_of_all explore.opening ≡ conflicts_section p.table.attributes B [] =
    ap conflicts_of_all explored.opening ∙ no_conflicts p.table.attributes J B oracles agreed.kept in
    whole ∙ ap (text_of explore.opening) none ∙ ap (λ x. text_of x (conflicts_section p.table.attributes B [])) explored.opening
    ∙ agreed_text p.table p.settings H C (conflicts_section p.table.attributes B []) explored.may.respected legal done same_basis

IsExploredText-explored : (p : ExploreStart) (explore : ExploreModel) (oracles : List Recall) (spent : Bool) (text : Text)
    → is_expert (length p.expert_tables) ≡ true
    → HasExplored p explore oracles spent → text ≡ text_with_conflicts explore oracles
    → Spells explore.opening.table explore.opening.settings explore.journal text → IsExploredText p text spent
IsExploredText-explored p explore oracles spent text expert explored whole spelled =
    let H = explore.journal in
    let o : Opening = opening_of p.table (length p.expert_tables) p.settings in
    let legal : IsLegal (opening_state o) H = let P : Opening → Type 0 = λ x. IsLegal (opening_state x) H in
    subst P explored.opening explored.legal in
    let SpellsText : Opening → Type 0 = λ x. Spells x.table x.settings H text in
    let Open : Opening → Type 0 = λ x. (spent ≡ false → open_of (record { opening = x; journal = H; spare = 0 }) ≡ []) in
    let spells : Spells p.table p.settings H text = subst SpellsText explored.opening spelled in
    record {
      history = H;
      whole = whole ∙ explored_text-explored p explore oracles spent explored;
      spells = spells;
      explored = legal-course p.table (length p.expert_tables) p.settings H expert explored.may.respected explored.may.writable.known legal;
      shares = (let P : List NamedContext → Type 0 = EachNumbered (IsShare H) in
          let few : is_expert (length oracles) ≡ true =
          ap is_expert (sym (length-map oracles (λ (oracle : Recall). oracle.table)) ∙ ap length explored.tables) ∙ expert in
          subst P explored.tables
          (shares-tables p.table p.settings H explored.may.respected explored.may.free legal oracles few explored.shares));
      others = explored.others;
      spent = explored.spent;
      finished = subst Open explored.opening explored.finished;
      unspent = explored.unspent;
      agreed = agreed-explored p explore oracles spent text explored whole;
    }

-- ---- the output

-- an output that tells of the exploration
pub MayExplore-explored : (p : ExploreStart) (explore : ExploreModel) (oracles : List Recall) (spent : Bool) (output : Result Output Memory)
    → is_expert (length p.expert_tables) ≡ true
    → HasExplored p explore oracles spent
    → IfOk output (λ output. output.text ≡ text_with_conflicts explore oracles)
    → IfOk output (λ output. Spells explore.opening.table explore.opening.settings explore.journal output.text)
    → IfOk output (λ output. output.ending ≡ explored_ending spent)
    → IfOk output (MayExplore (Read p))
MayExplore-explored p explore oracles spent (Err memory) expert explored whole spelled ending = tt
MayExplore-explored p explore oracles spent (Ok output) expert explored whole spelled ending = record {
  start = p;
  read = refl;
  spent = spent;
  is = IsExploredText-explored p explore oracles spent output.text expert explored whole spelled;
  ending = ending;
}

pub MayExplore-read : (reading : Reading ExploreStart) (p : ExploreStart) (output : Output) → MayRead reading p → MayExplore (Read p) output
    → MayExplore reading output
MayExplore-read reading p output may explored = record {
  start = explored.start;
  read = (let Reads : ExploreStart → Type 0 = MayRead reading in subst Reads (sym explored.read) may);
  spent = explored.spent;
  is = explored.is;
  ending = explored.ending;
}
