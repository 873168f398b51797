-- A session whose lines are served leaves its desk. With the leave, or without it if memory or turns run out, what was taken,
-- made and sent is a talk.
use Rattle.std.proofs.Common.{◌≡◌, ◌≢◌, ◌≤◌, ℕ, ◌+◌, List, [], ◌∷◌, ◌++◌, Some, None, refl, sym, ap, ◌∙◌, subst, append-nil, inl, inr}
use Rattle.std.proofs.Common.{arith}
use Rattle.fca_model.specs.Tables.{Text, NamedContext}
use Rattle.fca_model.specs.declared.Event.TheVariants.{Leave}
use Rattle.fca_model.specs.Exploration.{SetReply, SetEntry}
use Rattle.expert_sessions.specs.declared.ended.Ended.{Ended}
use Rattle.expert_sessions.specs.declared.ended.Ended.TheVariants.{Quit, EndOfInput, ReadFault, WriteFault, LongLine, Limit, Spent, Memory}
use Rattle.expert_sessions.specs.Lines.{Exchange, entries_of, turns_of}
use Rattle.expert_sessions.specs.Talks.{Stops, EndsTalk, AndLeaves, Makes, Talk, HasTalked}
use Rattle.expert_sessions.specs.Moves.{DuplexState, DeskProgress, Enters, TakesTurns, TakesTurnsAtMost}
use Rattle.expert_sessions.specs.Courses.{Closes, HasServed}
use Rattle.expert_sessions.proofs.MoveLemmas.{Moves-nil, IsQuiet-nil, Enters-nil, TakesTurns-few, Enters-trans, Enters-equal}
use Rattle.expert_sessions.proofs.LineLemmas.{turns_of-few}

-- there was no room for a line
pub refused : (t : NamedContext) (e lines : ℕ) (a : DuplexState) (c : DeskProgress) → HasTalked t e lines a a c c Memory
refused t e lines a c = record {
  taken = [];
  made = [];
  turns = 0;
  sent = [];
  moves = Moves-nil a;
  enters = Enters-nil c;
  talk = inl (record {
    nothing_taken = refl;
    nothing_made = refl;
    no_turn = refl;
    nothing_sent = refl;
    quiet = IsQuiet-nil a;
    ending = refl;
  });
}

-- no turn was left for a line
pub spent_early : (t : NamedContext) (e lines : ℕ) (a b : DuplexState) (c d : DeskProgress) (ended : Ended) → HasServed t e lines a b c d ended
    → ended ≡ Spent → HasTalked t e lines a b c d Spent
spent_early t e lines a b c d ended y is = let x : HasServed t e lines a b c d Spent = subst (λ z. HasServed t e lines a b c d z) is y in
    record {
      taken = x.taken;
      made = entries_of x.lines_served.served;
      turns = turns_of x.lines_served.served;
      sent = x.sent;
      moves = x.moves;
      enters = x.enters;
      talk = inr (record {
        lines_served = x.lines_served;
        entries = (refl, refl);
        ending = (x.closes.0, inl (x.closes.1, x.closes.2, x.closes.3, x.closes.4));
      });
    }

-- a line takes one turn at most
pub served-few : {t : NamedContext} {e lines : ℕ} {a b : DuplexState} {c d : DeskProgress} {ended : Ended} (k : ℕ) → lines ≤ k
    → HasServed t e lines a b c d ended → TakesTurnsAtMost k c.left d.left
served-few {t} {e} {lines} {a} {b} {c} {d} k h x =
    let each = turns_of-few t.context.width e x.lines_served.served x.lines_served.each in
    let few = x.lines_served.few in
    TakesTurns-few (turns_of x.lines_served.served) k c.left d.left x.enters.turns (omega arith)

-- the reason lies not in the desk
stops : (t : NamedContext) (e lines : ℕ) (a b : DuplexState) (d : DeskProgress) (ended : Ended) (served : List Exchange) (rest sent unsent : Text)
    → ended ≢ Spent
    → Closes t e lines a b d ended served rest sent unsent → Stops t e lines a b ended served rest sent unsent
stops t e lines a b d Quit served rest sent unsent n h = h
stops t e lines a b d EndOfInput served rest sent unsent n h = h
stops t e lines a b d ReadFault served rest sent unsent n h = h
stops t e lines a b d WriteFault served rest sent unsent n h = h
stops t e lines a b d LongLine served rest sent unsent n h = h
stops t e lines a b d Limit served rest sent unsent n h = h
stops t e lines a b d Spent served rest sent unsent n h = absurd (n refl)
stops t e lines a b d Memory served rest sent unsent n h = h

module _ (t : NamedContext) (e lines : ℕ) (a b : DuplexState) where
  ends : (d : DeskProgress) (ended : Ended) (served : List Exchange) (rest sent unsent : Text)
      → Stops t e lines a b ended served rest sent unsent
      → EndsTalk t e lines a b d ended served rest sent unsent
  ends d Quit served rest sent unsent h = h
  ends d EndOfInput served rest sent unsent h = h
  ends d ReadFault served rest sent unsent h = h
  ends d WriteFault served rest sent unsent h = h
  ends d LongLine served rest sent unsent h = h
  ends d Limit served rest sent unsent h = h
  ends d Spent served rest sent unsent h = absurd h
  ends d Memory served rest sent unsent h = absurd h

  makes : (ended : Ended) (served : List Exchange) (rest sent unsent : Text) (entries made : List SetEntry) (k : ℕ)
      → Stops t e lines a b ended served rest sent unsent
      → AndLeaves e entries made → Makes e ended entries k made (k + 1)
  makes Quit served rest sent unsent entries made k h l = (l, refl)
  makes EndOfInput served rest sent unsent entries made k h l = (l, refl)
  makes ReadFault served rest sent unsent entries made k h l = (l, refl)
  makes WriteFault served rest sent unsent entries made k h l = (l, refl)
  makes LongLine served rest sent unsent entries made k h l = (l, refl)
  makes Limit served rest sent unsent entries made k h l = (l, refl)
  makes Spent served rest sent unsent entries made k h l = absurd h
  makes Memory served rest sent unsent entries made k h l = absurd h

-- the expert left
pub left : (t : NamedContext) (e lines : ℕ) (a b : DuplexState) (c d d' : DeskProgress) (ended : Ended) (reply : SetReply) (n : ℕ) → n ≡ e
    → HasServed t e lines a b c d ended → ended ≢ Spent
    → d'.entries ≡ d.entries ++ record { event = Leave n; reply = reply } ∷ [] → TakesTurns 1 d.left d'.left
    → HasTalked t e lines a b c d' ended
left t e lines a b c d d' ended reply n same x unspent added' turn =
    let entries = entries_of x.lines_served.served in
    let why = stops t e lines a b d ended x.lines_served.served x.lines_served.rest x.sent x.lines_served.unsent unspent x.closes in
    let leave : SetEntry = record { event = Leave e; reply = reply } in
    let added : d'.entries ≡ d.entries ++ leave ∷ [] = added'
    ∙ ap (λ (m : ℕ). d.entries ++ record { event = Leave m; reply = reply } ∷ []) same in
    let leaves : Enters d d' (leave ∷ []) 1 = record { added = added; turns = turn } in
    record {
      taken = x.taken;
      made = entries ++ leave ∷ [];
      turns = turns_of x.lines_served.served + 1;
      sent = x.sent;
      moves = x.moves;
      enters = Enters-trans x.enters leaves;
      talk = inr (record {
        lines_served = x.lines_served;
        entries = makes t e lines a b ended x.lines_served.served x.lines_served.rest x.sent x.lines_served.unsent entries (entries ++ leave ∷ [])
            (turns_of x.lines_served.served) why (reply, refl);
        ending = ends t e lines a b d' ended x.lines_served.served x.lines_served.rest x.sent x.lines_served.unsent why;
      });
    }

-- no turn was left to leave
pub spent_late : (t : NamedContext) (e lines : ℕ) (a b : DuplexState) (c d d' : DeskProgress) (ended : Ended) → HasServed t e lines a b c d ended
    → ended ≢ Spent → d'.entries ≡ d.entries
    → (d'.left ≡ Some 0) × TakesTurns 0 d.left d'.left → HasTalked t e lines a b c d' Spent
spent_late t e lines a b c d d' ended x unspent same none =
    let nothing : Enters d d' [] 0 = record { added = same ∙ sym (append-nil d.entries); turns = none.1 } in
    record {
      taken = x.taken;
      made = entries_of x.lines_served.served;
      turns = turns_of x.lines_served.served;
      sent = x.sent;
      moves = x.moves;
      enters = Enters-equal (append-nil (entries_of x.lines_served.served)) (omega arith) (Enters-trans x.enters nothing);
      talk = inr (record {
        lines_served = x.lines_served;
        entries = (refl, refl);
        ending = (none.0, inr (ended, stops t e lines a b d ended x.lines_served.served x.lines_served.rest x.sent x.lines_served.unsent unspent x.closes));
      });
    }

-- there was no memory to leave
pub unremembered : (t : NamedContext) (e lines : ℕ) (a b : DuplexState) (c d d' : DeskProgress) (ended : Ended)
    → HasServed t e lines a b c d ended
    → ended ≢ Spent → d'.entries ≡ d.entries
    → TakesTurns 1 d.left d'.left → HasTalked t e lines a b c d' Memory
unremembered t e lines a b c d d' ended x unspent same turn =
    let nothing : Enters d d' [] 1 = record { added = same ∙ sym (append-nil d.entries); turns = turn } in
    record {
      taken = x.taken;
      made = entries_of x.lines_served.served;
      turns = turns_of x.lines_served.served + 1;
      sent = x.sent;
      moves = x.moves;
      enters = Enters-equal (append-nil (entries_of x.lines_served.served)) refl (Enters-trans x.enters nothing);
      talk = inr (record {
        lines_served = x.lines_served;
        entries = (refl, refl);
        ending = (ended, stops t e lines a b d ended x.lines_served.served x.lines_served.rest x.sent x.lines_served.unsent unspent x.closes);
      });
    }

-- if turns are not shown, and never ran out, no talk ends because of them
pub untold : (t : NamedContext) (e lines : ℕ) (a b : DuplexState) (c d : DeskProgress) (ended : Ended) → HasTalked t e lines a b c d ended
    → (d.left ≡ Some 0 → ⊥)
    → HasTalked t e lines a b (record { entries = c.entries; left = None }) (record { entries = d.entries; left = None }) ended
untold t e lines a b c d ended x never = record {
  taken = x.taken;
  made = x.made;
  turns = x.turns;
  sent = x.sent;
  moves = x.moves;
  enters = record { added = x.enters.added; turns = refl };
  talk = elim x.talk as (λ _. Talk t e lines a b (record { entries = d.entries; left = None }) x.taken x.made x.turns x.sent ended) [
    | inl none ↦ inl none
    | inr served ↦ inr (record {
      lines_served = served.lines_served;
      entries = served.entries;
      ending = kept ended served.lines_served.served served.lines_served.rest x.sent served.lines_served.unsent served.ending;
    })
  ];
}
  where
    kept : (ended : Ended) (served : List Exchange) (rest sent unsent : Text) → EndsTalk t e lines a b d ended served rest sent unsent
        → EndsTalk t e lines a b (record { entries = d.entries; left = None }) ended served rest sent unsent
    kept Quit served rest sent unsent h = h
    kept EndOfInput served rest sent unsent h = h
    kept ReadFault served rest sent unsent h = h
    kept WriteFault served rest sent unsent h = h
    kept LongLine served rest sent unsent h = h
    kept Limit served rest sent unsent h = h
    kept Spent served rest sent unsent h = absurd (never h.0)
    kept Memory served rest sent unsent h = h
