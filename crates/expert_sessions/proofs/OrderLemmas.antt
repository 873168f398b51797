-- Readings join on: what is not read, what is read once more, and what is read for one line behind the lines that were answered.
use Rattle.std.proofs.Common.{◌≡◌, ℕ, Option, Result, List, [], ◌∷◌, ◌++◌, refl, ap, ◌∙◌, subst, append_assoc, append-nil}
use Rattle.std.specs.Option.{option_map}
use Rattle.std.proofs.KnownBytes.{Consumes-nil, Consumes-trans}
use Rattle.fca_io.specs.Faults.{one_more}
use Rattle.fca_io.specs.declared.outside.Put.{Put}
use Rattle.fca_model.specs.Tables.{Text, NamedContext}
use Rattle.expert_wire.specs.Greetings.{greeting}
use Rattle.expert_sessions.specs.Lines.{HasNoFeed, lines_of, answers_text}
use Rattle.expert_sessions.specs.Moves.{DeskProgress}
use Rattle.expert_sessions.specs.Courses.{SendsText, ReadsOn, Goes}
use Rattle.expert_sessions.specs.Order.{OneRead, end_state, ReadsNothing, ReadsOnce, AreReadings, ReadsOnlyWhere, AwaitsLine, ReadsForLine}
use Rattle.expert_sessions.specs.Order.{IsAnswered, ReadsWhereAnswered}
use Rattle.expert_sessions.proofs.MoveLemmas.{Moves-trans, Moves-equal}

module _ {E : Type 0} (left held : E → Option Text) (reads : E → Option ℕ) (read_faults write_faults : E → ℕ) where
  ReadsNothing-nil : (a : E) → ReadsNothing left held reads read_faults write_faults a a
  ReadsNothing-nil a = record { kept = Consumes-nil (left a); uncounted = refl; quiet = refl }

  ReadsNothing-trans : (a b c : E) → ReadsNothing left held reads read_faults write_faults a b
      → ReadsNothing left held reads read_faults write_faults b c
      → ReadsNothing left held reads read_faults write_faults a c
  ReadsNothing-trans a b c x y = record {
    kept = Consumes-trans (left a) (left b) (left c) [] [] x.kept y.kept;
    uncounted = y.uncounted ∙ x.uncounted;
    quiet = y.quiet ∙ x.quiet;
  }

  written : (P : E → Type 0) (a b : E) (text : Text) (result : Result (Unit {0}) Put)
      → SendsText (end_state left held reads read_faults write_faults a) (end_state left held reads read_faults write_faults b) text result
      → reads b ≡ reads a
      → ReadsOnlyWhere left held reads read_faults write_faults P a b
  written P a b text result w same = ([], record { kept = w.moves.lost; uncounted = same; quiet = w.read_faults })

  module _ (P Q : E → Type 0) (weaker : (a : E) → Q a → P a) where
    weaken : (now last : E) (rs : List (OneRead E)) → AreReadings left held reads read_faults write_faults Q now last rs
        → AreReadings left held reads read_faults write_faults P now last rs
    weaken now last [] x = x
    weaken now last (r ∷ rs) x = (x.0, weaker r.before x.1, x.2, weaken r.after last rs x.3)

    after_nothing : (now a last : E) (rs : List (OneRead E)) → ReadsNothing left held reads read_faults write_faults now a
        → AreReadings left held reads read_faults write_faults Q a last rs
        → AreReadings left held reads read_faults write_faults P now last rs
    after_nothing now a last [] x y = ReadsNothing-trans now a last x y
    after_nothing now a last (r ∷ rs) x y = (ReadsNothing-trans now a r.before x y.0, weaker r.before y.1, y.2, weaken r.after last rs y.3)

    AreReadings-join : (now a last : E) (rs qs : List (OneRead E)) → AreReadings left held reads read_faults write_faults P now a rs
        → AreReadings left held reads read_faults write_faults Q a last qs
        → AreReadings left held reads read_faults write_faults P now last (rs ++ qs)
    AreReadings-join now a last [] qs x y = after_nothing now a last qs x y
    AreReadings-join now a last (r ∷ rs) qs x y = (x.0, x.1, x.2, AreReadings-join r.after a last rs qs x.3 y)

    join : (a b c : E) → ReadsOnlyWhere left held reads read_faults write_faults P a b
        → ReadsOnlyWhere left held reads read_faults write_faults Q b c
        → ReadsOnlyWhere left held reads read_faults write_faults P a c
    join a b c x y = (x.0 ++ y.0, AreReadings-join a b c x.0 y.0 x.1 y.1)

  joined : (P : E → Type 0) (a b c : E) → ReadsOnlyWhere left held reads read_faults write_faults P a b
      → ReadsOnlyWhere left held reads read_faults write_faults P b c
      → ReadsOnlyWhere left held reads read_faults write_faults P a c
  joined P a b c x y = join P P (λ _ p. p) a b c x y

  -- ---- for one line

  pub unread : (ahead : Text) (a : E) → ReadsForLine left held reads read_faults write_faults ahead a a
  unread ahead a = ([], ReadsNothing-nil a)

  pub read_on : (ahead grown grown' : Text) (first a b : E) → ReadsForLine left held reads read_faults write_faults ahead first a
      → ReadsOn (end_state left held reads read_faults write_faults first)
      (end_state left held reads read_faults write_faults a) ahead grown → HasNoFeed grown
      → ReadsOn (end_state left held reads read_faults write_faults a) (end_state left held reads read_faults write_faults b) grown grown'
      → reads b ≡ option_map one_more (reads a)
      → ReadsForLine left held reads read_faults write_faults ahead first b
  read_on ahead grown grown' first a b x r none next counted =
      let awaits : AwaitsLine left held reads read_faults write_faults ahead first a =
      record { taken = r.taken; moves = r.moves; unbroken = subst HasNoFeed r.joined none } in
      let once : ReadsOnce left held reads read_faults write_faults a b =
      record { kept = next.moves.gained; counted = counted; quiet = next.write_faults } in
      joined (AwaitsLine left held reads read_faults write_faults ahead first) first a b x
      (record { before = a; after = b } ∷ [], (ReadsNothing-nil a, awaits, once, ReadsNothing-nil b))

  -- the line was answered
  pub answered : (ahead : Text) (first a b : E) → ReadsForLine left held reads read_faults write_faults ahead first a
      → (text : Text) (result : Result (Unit {0}) Put)
      → SendsText (end_state left held reads read_faults write_faults a) (end_state left held reads read_faults write_faults b) text result
      → reads b ≡ reads a
      → ReadsForLine left held reads read_faults write_faults ahead first b
  answered ahead first a b x text result w same =
      joined (AwaitsLine left held reads read_faults write_faults ahead first) first a b x
      (written (AwaitsLine left held reads read_faults write_faults ahead first) a b text result w same)

  -- ---- for a session

  pub nothing-in_turn : (t : NamedContext) (e : ℕ) (a : E) → ReadsWhereAnswered left held reads read_faults write_faults t e a a
  nothing-in_turn t e a = ([], ReadsNothing-nil a)

  pub greeted-first : (t : NamedContext) (e : ℕ) (a b : E) (text : Text) (result : Result (Unit {0}) Put)
      → SendsText (end_state left held reads read_faults write_faults a) (end_state left held reads read_faults write_faults b) text result
      → reads b ≡ reads a
      → ReadsWhereAnswered left held reads read_faults write_faults t e a b
  greeted-first t e a b text result w same = written (IsAnswered left held reads read_faults write_faults t e a) a b text result w same

  -- behind lines that were answered, the end was read for one line
  pub line-in_turn : (t : NamedContext) (e : ℕ) (first a b : E) (c d : DeskProgress) (ahead : Text) (k : ℕ)
      → ReadsWhereAnswered left held reads read_faults write_faults t e first a
      → Goes t e (end_state left held reads read_faults write_faults first)
      (end_state left held reads read_faults write_faults a) c d ahead k
      → ReadsForLine left held reads read_faults write_faults ahead a b
      → ReadsWhereAnswered left held reads read_faults write_faults t e first b
  line-in_turn t e first a b c d ahead k x goes y =
      join (IsAnswered left held reads read_faults write_faults t e first)
      (AwaitsLine left held reads read_faults write_faults ahead a) line-awaited first a b x y
    where
      line-awaited : (now : E) → AwaitsLine left held reads read_faults write_faults ahead a now
          → IsAnswered left held reads read_faults write_faults t e first now
      line-awaited now w = record {
        served = goes.served;
        rest = ahead ++ w.taken;
        each = goes.each;
        unbroken = w.unbroken;
        moves = Moves-equal (ap (λ z. z ++ w.taken) goes.read ∙ append_assoc (lines_of goes.served) ahead w.taken)
            (append-nil (greeting t e ++ answers_text t.attributes goes.served))
            (Moves-trans goes.moves w.moves);
      }
