-- The text of sessions: the words for endings stand in one line each, so they change nothing of what the text spells; and what is promised
-- of the sessions is said of the text.
use Rattle.std.proofs.Common.{◌≡◌, ◌⊎◌, ◌<◌, ◌∙◌, ◌++◌, ◌∷◌, [], ℕ, suc, List, Option, true, map, length, inl, inr, refl, sym, ap, subst}
use Rattle.std.proofs.Common.{arith}
use Rattle.fca_model.specs.Tables.{Text, NamedContext}
use Rattle.fca_model.specs.Exploration.{SetEntry, own, is_expert, IsLegal}
use Rattle.fca_model.specs.Invariant.{rows_respect}
use Rattle.fca_model.specs.declared.TheConstants.{MAX_LINES}
use Rattle.fca_io.specs.Links.{Ends}
use Rattle.expert_gate.specs.Histories.{IsHistory}
use Rattle.expert_sessions.specs.Serving.{EachTalks}
use Rattle.expert_sessions.specs.declared.ended.Ended.{Ended}
use Rattle.expert_sessions.specs.declared.ended.Ended.TheVariants.{Quit, EndOfInput, ReadFault, WriteFault, LongLine, Limit, Spent, Memory}
use Rattle.explore_state.specs.History.{Opening, ExploreModel, opening_state, open_of}
use Rattle.basis_report.specs.Comments.{are_lines, AreComments}
use Rattle.basis_report.specs.Explorations.{explore_text, Spells, SpellsBefore}
use Rattle.basis_report.specs.Sessions.{sessions_text}
use Rattle.command_io.specs.Endings.{Output, ending_of}
use Rattle.command_io.specs.declared.output.Ending.{Ending}
use Rattle.implication_closure.specs.Closing.{HaveWidth}
use Rattle.expert_scripts.specs.Transcripts.{SettingsCanBeWritten}
use Rattle.command_io.specs.Known.{Start}
use Rattle.command_io.proofs.CourseLemmas.{legal-course}
use Rattle.serve_command.specs.Accepted.{GaveBack, HasRoomFor}
use Rattle.serve_command.specs.Openings.{opening_by, IsNew}
use Rattle.serve_command.specs.Served.{ended_words, IsServedText, HasServedAll, HasReturnedEnds}

-- ---- words

pub words_are_lines : (ended : List Ended) → are_lines (map ended_words ended) ≡ true
words_are_lines [] = refl
words_are_lines (Quit ∷ ended) = words_are_lines ended
words_are_lines (EndOfInput ∷ ended) = words_are_lines ended
words_are_lines (ReadFault ∷ ended) = words_are_lines ended
words_are_lines (WriteFault ∷ ended) = words_are_lines ended
words_are_lines (LongLine ∷ ended) = words_are_lines ended
words_are_lines (Limit ∷ ended) = words_are_lines ended
words_are_lines (Spent ∷ ended) = words_are_lines ended
words_are_lines (Memory ∷ ended) = words_are_lines ended

-- lines behind the text of an exploration change nothing of what it spells
pub spelled-sessions : (sessions text : Text) (explore : ExploreModel) → SettingsCanBeWritten explore.opening.table.context.width explore.opening.settings
    → ((more : List Text) → are_lines more ≡ true → SettingsCanBeWritten explore.opening.table.context.width explore.opening.settings
    → SpellsBefore explore.opening.table explore.opening.settings explore.journal more)
    → AreComments sessions → text ≡ explore_text explore.opening.table explore.opening.settings explore.journal ++ sessions
    → Spells explore.opening.table explore.opening.settings explore.journal text
spelled-sessions sessions text explore told spells skipped joined =
    let first = explore_text explore.opening.table explore.opening.settings explore.journal in
    subst (Spells explore.opening.table explore.opening.settings explore.journal) (sym (joined ∙ ap (λ l. first ++ l) skipped.text_is))
    (spells skipped.lines skipped.whole told)

-- ---- openings

-- an exploration that was opened so is new
pub new-opened : (experts holders : ℕ) (start : Start) (h : ExploreModel) → h.opening ≡ opening_by experts holders start → h.journal ≡ []
    → is_expert experts ≡ true → is_expert holders ≡ true
    → rows_respect start.known start.table.context ≡ true → HaveWidth start.table.context.width start.known → IsNew h
new-opened experts holders start h is none expert most respecting even = record {
  none = none;
  experts = ap (λ (o : Opening). is_expert o.experts) is ∙ expert;
  respecting = ap (λ (o : Opening). rows_respect o.settings.known o.table.context) is ∙ respecting;
  writable = subst (λ (o : Opening). SettingsCanBeWritten o.table.context.width o.settings) (sym is) (record { holders = most; known = even; names = tt });
}

-- ---- sessions

module _ {E : Type 0} (left held : E → Option Text) (reads : E → Option ℕ) (read_faults write_faults : E → ℕ) where
  -- as many ends come back as went in
  pub talks-long : (table : NamedContext) (n : ℕ) (H : List SetEntry) (k : ℕ) (before after : List E) (ended : List Ended)
      → EachTalks left held reads read_faults write_faults table n H k before after ended → length after ≡ length before
  talks-long table n H k [] [] [] talks = refl
  talks-long table n H k [] [] (e ∷ ended) talks = absurd talks
  talks-long table n H k [] (b ∷ after) [] talks = absurd talks
  talks-long table n H k [] (b ∷ after) (e ∷ ended) talks = absurd talks
  talks-long table n H k (a ∷ before) [] [] talks = absurd talks
  talks-long table n H k (a ∷ before) [] (e ∷ ended) talks = absurd talks
  talks-long table n H k (a ∷ before) (b ∷ after) [] talks = absurd talks
  talks-long table n H k (a ∷ before) (b ∷ after) (e ∷ ended) talks =
      let rest = talks-long table n H (suc k) before after ended talks.2 in omega arith

  -- what sessions come to
  pub record IsOver (o : Opening) (before after : List E) (explore : ExploreModel) (ended : List Ended) : Type 0 where
    pub opening : explore.opening ≡ o
    pub history : IsHistory explore.opening explore.journal
    pub talks : EachTalks left held reads read_faults write_faults o.table MAX_LINES explore.journal 1 before after ended
    pub others : (e : ℕ) → (e ≡ 0) ⊎ (length before < e) → own explore.journal e ≡ []

  -- the text that was made of it
  pub record IsTextOf (explore : ExploreModel) (ended : List Ended) (text : Text) (end : Ending) : Type 0 where
    pub joined : text ≡ explore_text explore.opening.table explore.opening.settings explore.journal
        ++ sessions_text (map ended_words ended)
    pub spells : Spells explore.opening.table explore.opening.settings explore.journal text
    pub ending : end ≡ ending_of (open_of explore)

  pub served-text : (o : Opening) (before after : List E) (explore : ExploreModel) (ended : List Ended) (text : Text) (ending : Ending)
      → is_expert o.experts ≡ true → rows_respect o.settings.known o.table.context ≡ true → HaveWidth o.table.context.width o.settings.known
      → IsOver o before after explore ended → IsTextOf explore ended text ending
      → IsServedText left held reads read_faults write_faults o before after text ending
  served-text o before after explore ended text ending expert known even over made =
      let H = explore.journal in
      let legal : IsLegal (opening_state o) H = let P : Opening → Type 0 = λ x. IsLegal (opening_state x) H in
      subst P over.opening over.history.legal in
      let Joined : Opening → Type 0 = λ x. text ≡ explore_text x.table x.settings H ++ sessions_text (map ended_words ended) in
      let Spelled : Opening → Type 0 = λ x. Spells x.table x.settings H text in
      let EndsSo : Opening → Type 0 = λ x. ending ≡ ending_of (open_of (record { opening = x; journal = H; spare = 0 })) in
      record {
        history = H;
        ended = ended;
        text = subst Joined over.opening made.joined;
        spells = subst Spelled over.opening made.spells;
        explored = legal-course o.table o.experts o.settings H expert known even legal;
        talks = over.talks;
        others = over.others;
        ending = subst EndsSo over.opening made.ending;
      }

  pub has-served-all : (o : Opening) (before after : List E) (old new : Option (Ends E)) (explore : ExploreModel) (ended : List Ended)
      (output : Output)
      → is_expert o.experts ≡ true → rows_respect o.settings.known o.table.context ≡ true → HaveWidth o.table.context.width o.settings.known
      → IsOver o before after explore ended
      → (HasRoomFor old (length after) → GaveBack old new after) → IsTextOf explore ended output.text output.ending
      → HasServedAll left held reads read_faults write_faults o before old new output
  has-served-all o before after old new explore ended output expert known even over gave made =
      let long = talks-long o.table MAX_LINES explore.journal 1 before after ended over.talks in
      record {
        after = after;
        gave = gave;
        long = long;
        is = served-text o before after explore ended output.text output.ending expert known even over made;
      }

  pub returned-talks : (table : NamedContext) (H : List SetEntry) (before after : List E) (old new : Option (Ends E)) (ended : List Ended)
      → EachTalks left held reads read_faults write_faults table MAX_LINES H 1 before after ended
      → (HasRoomFor old (length after) → GaveBack old new after)
      → HasReturnedEnds left held reads read_faults write_faults before old new
  returned-talks table H before after old new ended talks gave =
      let long = talks-long table MAX_LINES H 1 before after ended talks in
      record { after = after; gave = gave; long = long; talked = inr (table, H, ended, talks) }

  pub returned-same : (before after : List E) (old new : Option (Ends E)) → after ≡ before
      → (HasRoomFor old (length after) → GaveBack old new after) → HasReturnedEnds left held reads read_faults write_faults before old new
  returned-same before after old new same gave = record { after = after; gave = gave; long = ap length same; talked = inl same }
