-- A session that reads on although a whole line lies ready is not in turn. Its end gives the line `x` in its first read and `y` in its
-- second, and the line is answered then; the end counts its reads.
use Rattle.std.proofs.Common.{◌≡◌, ◌≤◌, ◌+◌, ℕ, Option, Some, List, [], ◌∷◌, ◌++◌, length, sym, ap, ◌∙◌, subst, append-nil, length-append}
use Rattle.std.proofs.Common.{arith}
use Rattle.std.proofs.lemmas.List.{append_cancel_left, append_cancel_right}
use Rattle.std.specs.Option.{option_map}
use Rattle.fca_io.specs.Faults.{one_more}
use Rattle.fca_model.specs.Tables.{Text, NamedContext}
use Rattle.expert_wire.specs.Texts.{line_end}
use Rattle.expert_wire.specs.Greetings.{greeting}
use Rattle.expert_wire.specs.Replies.{reply_text}
use Rattle.expert_sessions.specs.declared.said.Said.{Said}
use Rattle.expert_sessions.specs.declared.said.Said.TheVariants.{Replied, Bye, BadLine, BadWidth, NoMemory}
use Rattle.expert_sessions.specs.Lines.{HasNoFeed, Exchange, lines_of, answers_text, said_line}
use Rattle.expert_sessions.specs.Order.{OneRead, IsAnswered, AreReadings, ReadsWhereAnswered}

data State : Type 0 where
  New : State
  Greeted : State
  Ready : State
  Past : State
  Answered : State

-- each answer has a byte
some_said : (attributes : List Text) (said : Said) → 1 ≤ length (said_line attributes said)
some_said attributes (Replied reply) = let all = length-append (reply_text attributes reply) line_end in omega arith
some_said attributes Bye = omega arith
some_said attributes BadLine = omega arith
some_said attributes BadWidth = omega arith
some_said attributes NoMemory = omega arith

module _ (t : NamedContext) (e : ℕ) (answer : Text) where
  abbrev left : State → Option Text
  left New = Some (120 ∷ 10 ∷ 121 ∷ [])
  left Greeted = Some (120 ∷ 10 ∷ 121 ∷ [])
  left Ready = Some (121 ∷ [])
  left Past = Some []
  left Answered = Some []

  abbrev held : State → Option Text
  held New = Some []
  held Greeted = Some (greeting t e)
  held Ready = Some (greeting t e)
  held Past = Some (greeting t e)
  held Answered = Some (greeting t e ++ answer)

  abbrev reads : State → Option ℕ
  reads New = Some 0
  reads Greeted = Some 0
  reads Ready = Some 1
  reads Past = Some 2
  reads Answered = Some 2

  abbrev faults : State → ℕ
  faults _ = 0

  abbrev WasAnswered : State → Type 0
  WasAnswered now = IsAnswered left held reads faults faults t e New now

  unanswered : (served : List Exchange) (rest : Text) → [] ≡ answers_text t.attributes served → HasNoFeed rest
      → 120 ∷ 10 ∷ 121 ∷ [] ≡ (lines_of served ++ rest) ++ 121 ∷ [] → ⊥
  unanswered [] rest none unbroken taken =
      let all : 120 ∷ 10 ∷ [] ≡ rest = append_cancel_right (120 ∷ 10 ∷ []) rest (121 ∷ []) taken in
      let feed = subst HasNoFeed (sym all) unbroken in
      cc
  unanswered (x ∷ xs) rest none unbroken taken =
      let some = some_said t.attributes x.said in
      let long = length-append (said_line t.attributes x.said) (answers_text t.attributes xs) in
      let nothing = ap length none in
      absurd (omega arith)

  -- where the second read comes, a whole line was not answered
  not_ready : (now : State) → reads now ≡ Some 1 → WasAnswered now → ⊥
  not_ready New one a = cc
  not_ready Greeted one a = cc
  not_ready Ready one a = unanswered a.served a.rest
      (append_cancel_left (greeting t e) [] (answers_text t.attributes a.served) (append-nil (greeting t e) ∙ a.moves.gained)) a.unbroken
      a.moves.lost
  not_ready Past one a = cc
  not_ready Answered one a = cc

  second : (now : State) (rs : List (OneRead State)) → reads now ≡ Some 1
      → AreReadings left held reads faults faults WasAnswered now Answered rs → ⊥
  second now [] one x = let two : Some 2 ≡ Some 1 = x.uncounted ∙ one in cc
  second now (r ∷ rs) one x = not_ready r.before (x.0.uncounted ∙ one) x.1

  reads_on : ReadsWhereAnswered left held reads faults faults t e New Answered → ⊥
  reads_on x = at x.0 x.1
    where
      at : (rs : List (OneRead State)) → AreReadings left held reads faults faults WasAnswered New Answered rs → ⊥
      at [] x = let two : Some 2 ≡ Some 0 = x.uncounted in cc
      at (r ∷ rs) x = second r.after rs (x.2.counted ∙ ap (option_map one_more) x.0.uncounted) x.3
