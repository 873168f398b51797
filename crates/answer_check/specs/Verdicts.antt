-- The verdict on an answer: which case of the step it is, and the place that the case names.
use Rattle.std.specs.Prelude.{ℕ, ◌+◌, ◌<◌, Bool, true, false, not, Option, Some, None, List, [], length, position, slice_index_or, ⊤}
use Rattle.answer_check.specs.declared.Verdict.{Verdict}
use Rattle.answer_check.specs.declared.Verdict.TheVariants as verdict
use Rattle.fca_model.specs.declared.Reply.TheVariants.{Accepted, Taken, Misses, Keeps, Breaks, Refuted, SupersededRow, SupersededBy}
use Rattle.fca_model.specs.Sets.{Set, within, same}
use Rattle.fca_model.specs.Implications.{Rule, rule, respects, refutes}
use Rattle.fca_model.specs.Exploration.{State, SetReply, rules_of, first_missing}

-- ---- what a verdict means

-- the implication at place i, and the row at place i
abbrev pub rule_at : List Rule → ℕ → Rule
rule_at J i = slice_index_or J i (rule [] [])

abbrev pub row_at : List Set → ℕ → Set
row_at rows i = slice_index_or rows i []

-- the reply that the verdict stands for in the state; `recorded` is the reply to an answer that is recorded
abbrev pub reply_of : State → SetReply → Verdict → SetReply
reply_of s recorded verdict.Take = recorded
reply_of s recorded (verdict.Misses a) = Misses a
reply_of s recorded verdict.Keeps = Keeps
reply_of s recorded (verdict.Breaks i) = Breaks i (rule_at (rules_of s) i)
reply_of s recorded (verdict.Refuted i) = Refuted i (row_at s.context.rows i)
reply_of s recorded (verdict.SupersededRow i) = SupersededRow i (row_at s.context.rows i)
reply_of s recorded (verdict.SupersededBy i) = SupersededBy (length s.settings.known + i) (rule_at s.accepted i)

-- the reply that the verdict on a row stands for
abbrev pub row_reply_for : State → Verdict → SetReply
row_reply_for s v = reply_of s (Taken (length s.context.rows)) v

-- the reply that the verdict on a confirmation stands for
abbrev pub confirm_reply_for : State → Verdict → SetReply
confirm_reply_for s v = reply_of s (Accepted (length (rules_of s))) v

-- ---- which verdicts come, and where

-- a row may get the verdict, whose place is in the rows or the rules
abbrev pub IsOnRow : List Set → List Rule → Verdict → Type 0
IsOnRow rows rules (verdict.Breaks i) = i < length rules
IsOnRow rows rules (verdict.SupersededRow i) = i < length rows
IsOnRow rows rules (verdict.Refuted i) = ⊥
IsOnRow rows rules (verdict.SupersededBy i) = ⊥
IsOnRow rows rules v = ⊤

-- a confirmation may get the verdict, whose place is in the rows or the accepted implications
abbrev pub IsOnConfirmation : List Set → List Rule → Verdict → Type 0
IsOnConfirmation rows accepted verdict.Take = ⊤
IsOnConfirmation rows accepted (verdict.Refuted i) = i < length rows
IsOnConfirmation rows accepted (verdict.SupersededBy i) = i < length accepted
IsOnConfirmation rows accepted v = ⊥

-- ---- the verdicts, case by case

abbrev pub row_new : Option ℕ → Verdict
row_new None = verdict.Take
row_new (Some i) = verdict.SupersededRow i

abbrev pub row_unbroken : List Set → Rule → Option ℕ → Verdict
row_unbroken rows q None = row_new (position (λ r. refutes r q) rows)
row_unbroken rows q (Some i) = verdict.Breaks i

abbrev pub row_refuting : List Set → List Rule → Rule → Set → Bool → Verdict
row_refuting rows rules q r true = verdict.Keeps
row_refuting rows rules q r false = row_unbroken rows q (position (λ i. not (respects r i)) rules)

abbrev pub row_fitting : List Set → List Rule → Rule → Set → Option ℕ → Verdict
row_fitting rows rules q r None = row_refuting rows rules q r (within q.conclusion r)
row_fitting rows rules q r (Some a) = verdict.Misses a

-- on the row r, given to the question q
abbrev pub row_verdict : List Set → List Rule → Rule → Set → Verdict
row_verdict rows rules q r = row_fitting rows rules q r (first_missing 0 q.premise r)

abbrev pub confirm_unheard : Option ℕ → Verdict
confirm_unheard None = verdict.Take
confirm_unheard (Some i) = verdict.SupersededBy i

abbrev pub confirm_unrefuted : List Rule → Rule → Option ℕ → Verdict
confirm_unrefuted accepted q None = confirm_unheard (position (λ i. same i.premise q.premise) accepted)
confirm_unrefuted accepted q (Some i) = verdict.Refuted i

-- on a confirmation of the question q
abbrev pub confirm_verdict : List Set → List Rule → Rule → Verdict
confirm_verdict rows accepted q = confirm_unrefuted accepted q (position (λ r. refutes r q) rows)
