-- The run of one expert. What is known between two turns is the way on: whatever run goes on from here makes, behind the entries so far,
-- a run from the start. A turn moves this by one entry, and a run that stops here is the whole one.
use Rattle.std.proofs.Common.{◌≡◌, ℕ, ◌+◌, ◌<◌, true, false, Option, Some, None, IfSome, List, [], ◌∷◌, ◌++◌, length, append_assoc, inl}
use Rattle.std.proofs.Common.{inr, sym, ap, ◌∙◌, refl, subst, arith, length-append}
use Rattle.std.proofs.lemmas.List.{append-nil}
use Rattle.std.specs.Prelude.{Result, Ok, Err, IfOk, IfErr}
use Rattle.fca_model.specs.declared.Event.TheVariants.{Draw}
use Rattle.fca_model.specs.declared.Reply.TheVariants.{Ask, Done, Breaks}
use Rattle.fca_model.specs.Implications.{Rule}
use Rattle.fca_model.specs.Exploration.{SetEvent, SetReply, SetEntry}
use Rattle.fca_model.specs.Widths.{IsWide, HasWideReply}
use Rattle.explore_state.specs.History.{Opening}
use Rattle.turn_lock.specs.Passes.{Lock, PassModel, Badge, badge}
use Rattle.turn_lock.specs.declared.fault.TurnFault.{TurnFault}
use Rattle.turn_lock.specs.declared.fault.TurnFault.TheVariants.{Spent as NoTurn, Memory as NoTurnMemory}
use Rattle.turn_lock.specs.declared.fault.TurnFault.TheVariants as fault
use Rattle.expert_gate.specs.Turns.{MakesTurn}
use Rattle.oracle_expert.specs.declared.expert.Answer.{Answer}
use Rattle.oracle_expert.specs.Runs.{RunsFrom, RunsTo, IsDueEntry, Stops, IsUnanswered, StopsAtDone, question_after, is_done, ends_done}
use Rattle.expert_panel.specs.declared.end.SeatEnd.TheVariants as end
use Rattle.expert_panel.specs.Passes.{HasMade, TookTurns}
use Rattle.expert_panel.specs.Turns.{IsPlayed, IsRefusedTurn, IsStopped}
use Rattle.expert_panel.specs.Seats.{HasAttended}
use Rattle.expert_panel.proofs.PassLemmas.{HasMade-none, HasMade-entry, HasMade-look}

-- ---- replies

due_wide : (n : ℕ) (due : Option Rule) (reply : SetReply) → IfSome due (IsWide n) → HasWideReply n reply
    → IfSome (question_after due reply) (IsWide n)
due_wide n due (Ask q) was wide = wide
due_wide n due (Breaks k i) was wide = was
due_wide n due _ was wide = tt

stops_unfinished : (reply : SetReply) (rest : List SetEntry) → is_done reply ≡ false → StopsAtDone reply rest
stops_unfinished Done rest h = cc
stops_unfinished _ rest h = tt

stops_last : (reply : SetReply) → StopsAtDone reply []
stops_last Done = refl
stops_last _ = tt

pub ends_done-push : (entries : List SetEntry) (entry : SetEntry) → ends_done (entries ++ entry ∷ []) ≡ is_done entry.reply
ends_done-push [] entry = refl
ends_done-push (x ∷ []) entry = refl
ends_done-push (x ∷ y ∷ entries) entry = ends_done-push (y ∷ entries) entry

length-push : (entries : List SetEntry) (entry : SetEntry) → length (entries ++ entry ∷ []) ≡ length entries + 1
length-push entries entry = length-append entries (entry ∷ [])

-- ---- a turn at the gate

-- why it came to no reply
pub turn_refused : (gate : Lock Opening) (event : SetEvent) (p q : PassModel Opening SetEntry) (result : Result SetReply TurnFault)
    → MakesTurn gate event p result q
    → IfErr result (λ fault. IsRefusedTurn gate.base fault p q)
turn_refused gate event p q (Ok reply) t = tt
turn_refused gate event p q (Err NoTurn) t = (t.unchanged refl, t.spent.0 refl)
turn_refused gate event p q (Err NoTurnMemory) t = t.memory refl

-- a draw is played where a draw is due
module _ {M : Type 0} (Answering : M → Rule → Answer → M → Type 0) (Learning : M → SetReply → M → Type 0) (gate : Lock Opening)
    (p q : PassModel Opening SetEntry) (m : M) where
  pub draw_played : (result : Result SetReply TurnFault) → MakesTurn gate (Draw p.number) p result q
      → IfOk result (λ reply. IsPlayed Answering Learning gate.base None p m reply q m)
  draw_played (Ok reply) t = record { event = Draw p.number; turn = t.entry; entry = (refl, refl) }
  draw_played (Err e) t = tt

  pub draw_stopped : (result : Result SetReply TurnFault) → MakesTurn gate (Draw p.number) p result q
      → IfErr result (λ fault. IsStopped Answering Learning gate.base None p m fault q m)
  draw_stopped (Ok reply) t = tt
  draw_stopped (Err e) t = record { refused = inl (turn_refused gate (Draw p.number) p q (Err e) t); stops = refl }

-- ---- a run

spent_is_no_memory : fault.Spent ≡ fault.Memory → ⊥
spent_is_no_memory h = cc

module _ {X M : Type 0} (width_of : X → ℕ) (memory_of : X → M) (Answering : M → Rule → Answer → M → Type 0)
    (Learning : M → SetReply → M → Type 0) (o : Opening) (p : PassModel Opening SetEntry) (old : X) where
  -- the run that stops at a question to which the expert gave no answer
  abbrev Silent : Option Rule → M → List SetEntry → M → Type 0
  Silent = RunsTo Answering Learning p.number (IsUnanswered Answering Learning p.number)

  -- what is known between two turns
  pub record IsAttending (due : Option Rule) (q : PassModel Opening SetEntry) (expert : X) : Type 0 where
    pub entries : List SetEntry
    pub going : (rest : List SetEntry) (m : M) → RunsFrom Answering Learning p.number due (memory_of expert) rest m
        → RunsFrom Answering Learning p.number None (memory_of old) (entries ++ rest) m
    pub falling_silent : (rest : List SetEntry) (m : M) → Silent due (memory_of expert) rest m
        → Silent None (memory_of old) (entries ++ rest) m
    pub pass : HasMade o p entries q
    pub made : TookTurns p entries q
    pub unfinished : ends_done entries ≡ false
    pub width : width_of expert ≡ width_of old
    pub question : IfSome due (IsWide o.table.context.width)

  pub begins : IsAttending None p old
  begins = record {
    entries = [];
    going = λ rest m h. h;
    falling_silent = λ rest m h. h;
    pass = HasMade-none o p;
    made = omega arith;
    unfinished = refl;
    width = refl;
    question = tt;
  }

  stops_here : (e : ℕ) (due : Option Rule) (m : M) → Stops Answering Learning e due m m
  stops_here e None m = refl
  stops_here e (Some q) m = inl refl

  module _ (due : Option Rule) (q r : PassModel Opening SetEntry) (expert next : X) (a : IsAttending due q expert) (same : badge r ≡ badge q)
      (kept : width_of next ≡ width_of expert) where
    module _ (reply : SetReply) (played : IsPlayed Answering Learning o due q (memory_of expert) reply r (memory_of next)) where
      abbrev entry : SetEntry
      entry = record { event = played.event; reply = reply }

      its_turn : IsDueEntry Answering Learning p.number due (memory_of expert) entry (memory_of next)
      its_turn = subst (λ (n : ℕ). IsDueEntry Answering Learning n due (memory_of expert) entry (memory_of next))
          (ap (λ (b : Badge Opening). b.number) a.pass.same) played.entry

      one_more : TookTurns p (a.entries ++ entry ∷ []) r
      one_more =
          let longer = length-push a.entries entry in
          let now = played.turn.made in
          let before = a.made in
          omega arith

      pub goes_on : HasWideReply o.table.context.width reply → is_done reply ≡ false → IsAttending (question_after due reply) r next
      goes_on wide unfinished = record {
        entries = a.entries ++ entry ∷ [];
        going = λ rest m h.
            subst (λ xs. RunsFrom Answering Learning p.number None (memory_of old) xs m) (sym (append_assoc a.entries (entry ∷ []) rest))
            (a.going (entry ∷ rest) m (memory_of next, its_turn, stops_unfinished reply rest unfinished, h));
        falling_silent = λ rest m h.
            subst (λ xs. Silent None (memory_of old) xs m) (sym (append_assoc a.entries (entry ∷ []) rest))
            (a.falling_silent (entry ∷ rest) m (memory_of next, its_turn, stops_unfinished reply rest unfinished, h));
        pass = HasMade-entry o p a.entries q r played.event reply a.pass played.turn same;
        made = one_more;
        unfinished = ends_done-push a.entries entry ∙ unfinished;
        width = kept ∙ a.width;
        question = due_wide o.table.context.width due reply a.question wide;
      }

      pub finishes : is_done reply ≡ true → HasAttended width_of memory_of Answering Learning o p old end.Done r next
      finishes done = record {
        entries = a.entries ++ entry ∷ [];
        run = a.going (entry ∷ []) (memory_of next) (
          memory_of next,
          its_turn,
          stops_last reply,
          stops_here p.number (question_after due reply) (memory_of next),
        );
        pass = HasMade-entry o p a.entries q r played.event reply a.pass played.turn same;
        end = (ends_done-push a.entries entry ∙ done, one_more);
        silent = λ h _. cc;
        width = kept ∙ a.width;
      }

    -- the run that stops here
    its_run : Stops Answering Learning p.number due (memory_of expert) (memory_of next)
        → RunsFrom Answering Learning p.number None (memory_of old) a.entries (memory_of next)
    its_run stops = subst (λ xs. RunsFrom Answering Learning p.number None (memory_of old) xs (memory_of next)) (append-nil a.entries)
        (a.going [] (memory_of next) stops)

    unchanged : r ≡ q → HasMade o p a.entries r × TookTurns p a.entries r
    unchanged e = (subst (HasMade o p a.entries) (sym e) a.pass, ap (λ (k : PassModel Opening SetEntry). k.made) e ∙ a.made)

    pub ended_spent : IsStopped Answering Learning o due q (memory_of expert) fault.Spent r (memory_of next)
        → HasAttended width_of memory_of Answering Learning o p old end.Spent r next
    ended_spent stopped = elim stopped.refused [
      | inl refused ↦
          let at_rest = unchanged refused.0 in
          record {
            entries = a.entries;
            run = its_run stopped.stops;
            pass = at_rest.0;
            end = (
              a.unfinished,
              at_rest.1,
              ap (λ (k : PassModel Opening SetEntry). k.made) refused.0 ∙ refused.1
                  ∙ sym (ap (λ (k : PassModel Opening SetEntry). k.turns) refused.0),
            );
            silent = λ h _. cc;
            width = kept ∙ a.width;
          }
      | inr other ↦ absurd (spent_is_no_memory other.0)
    ]

    pub is_refused_memory : IsStopped Answering Learning o due q (memory_of expert) fault.Memory r (memory_of next)
        → HasAttended width_of memory_of Answering Learning o p old end.Memory r next
    is_refused_memory stopped = elim stopped.refused [
      | inl look ↦
          let before = a.made in
          let now = look.made in
          record {
            entries = a.entries;
            run = its_run stopped.stops;
            pass = HasMade-look o p a.entries q r a.pass look same;
            end = (a.unfinished, inr (omega arith));
            silent = λ _ took. absurd (omega (arith, took, before, now));
            width = kept ∙ a.width;
          }
      | inr none ↦
          let at_rest = unchanged none.1 in
          let number = ap (λ (b : Badge Opening). b.number) a.pass.same in
          let unanswered = subst (λ (n : ℕ). IsUnanswered Answering Learning n due (memory_of expert) (memory_of next)) number none.3 in
          let left : r.made < r.turns = subst (λ (k : PassModel Opening SetEntry). k.made < k.turns) (sym none.1) none.2 in
          record {
            entries = a.entries;
            run = its_run stopped.stops;
            pass = at_rest.0;
            end = (a.unfinished, inl (at_rest.1, left));
            silent = λ _ _. subst (λ xs. Silent None (memory_of old) xs (memory_of next)) (append-nil a.entries)
                (a.falling_silent [] (memory_of next) unanswered);
            width = kept ∙ a.width;
          }
    ]
