-- What a call of a desk comes to: behind a gate it is a turn of the pass, and alone it is a step of the exploration.
use Rattle.std.proofs.Common.{◌≡◌, ◌≢◌, ◌<◌, ◌≤◌, ℕ, ◌+◌, ◌-◌, ◌⊎◌, List, [], ◌∷◌, ◌++◌, All, Option, Some, None, Result, Ok, Err, inl, inr}
use Rattle.std.proofs.Common.{refl, sym, ap, ◌∙◌, subst, append_assoc, arith}
use Rattle.std.proofs.lemmas.List.{append-nil}
use Rattle.std.specs.Prelude.{◌↔◌, IfOk, OnErr, IsErrOf}
use Rattle.std.specs.Borrow.{GName}
use Rattle.fca_model.specs.Exploration.{SetEvent, SetReply, SetEntry, expert_of, own, IsLegal}
use Rattle.fca_model.specs.Widths.{HasWideReply}
use Rattle.explore_state.specs.History.{Opening, ExploreModel, opening_state, IsStep, IsSame}
use Rattle.turn_lock.specs.Histories.{StartsWith}
use Rattle.turn_lock.specs.Passes.{Lock, PassModel, Badge, badge}
use Rattle.turn_lock.specs.Passes.{TakesTurn}
use Rattle.turn_lock.specs.declared.fault.TurnFault.{TurnFault}
use Rattle.turn_lock.specs.declared.fault.TurnFault.TheVariants.{Spent, Memory}
use Rattle.turn_lock.proofs.HistoryLemmas.{starts_trans, starts_itself, own_of-append, own_of-one}
use Rattle.expert_gate.specs.Histories.{by_expert, IsWideEntry, IsHistory}
use Rattle.expert_gate.specs.Turns.{RepliesTo, Looks, MakesTurn}
use Rattle.expert_gate.specs.Desks.{DeskState, at_gate, alone_at, one_less, IsSameDesk, KnowsHistory, GoesOnTo, Plays, Works}
use Rattle.expert_gate.proofs.ReplyLemmas.{answer_wide, step_wide}

-- ---- behind a gate

-- a turn of the lock, whose replies have the width of the table
pub makes_turn : (gate : Lock Opening) (event : SetEvent) (p q : PassModel Opening SetEntry) (result : Result SetReply TurnFault)
    → TakesTurn IsHistory by_expert gate.base (λ (reply : SetReply). record { event = event; reply = reply }) p result q
    → MakesTurn gate event p result q
makes_turn gate event p q result t = record {
  same = t.same;
  entry = t.entry;
  wide = answer_wide gate.base p q event result t.entry;
  memory = t.memory;
  spent = t.spent;
  unchanged = t.unchanged;
  within = t.within;
}

module _ (gate : Lock Opening) (event : SetEvent) (p q : PassModel Opening SetEntry) (at : GName) where
  same_pass : badge q ≡ badge p → IsSameDesk (at_gate gate p at) (at_gate gate q at)
  same_pass same = record { number = ap (λ (b : Badge Opening). b.number) same; lock = ap Some same; opening = refl; place = refl }

  -- no turn is left exactly where all turns were made
  none_left : p.made ≤ p.turns → Some (p.turns - p.made) ≡ Some 0 → p.made ≡ p.turns
  none_left within none = let zero_left : p.turns - p.made ≡ 0 = cc in omega arith

  all_made : p.made ≡ p.turns → Some (p.turns - p.made) ≡ Some 0
  all_made made = let zero_left : p.turns - p.made ≡ 0 = omega arith in ap Some zero_left

  one_turn : badge q ≡ badge p → q.made ≡ p.made + 1 → Some (q.turns - q.made) ≡ one_less (Some (p.turns - p.made))
  one_turn same made =
      let turns : q.turns ≡ p.turns = ap (λ (b : Badge Opening). b.turns) same in
      let fewer : q.turns - q.made ≡ p.turns - p.made - 1 = omega arith in
      ap Some fewer

  pub gate_plays : (result : Result SetReply TurnFault) → MakesTurn gate event p result q
      → Plays gate.base.table.context.width event (at_gate gate p at) result (at_gate gate q at)
  gate_plays (Ok reply) t = record {
    same = same_pass t.same;
    entry = t.entry.own;
    seen = (t.entry.between, t.entry.seen);
    wide = t.wide;
    err = tt;
    looked = tt;
    known = inr (record { is_legal = t.entry.is_legal; own = t.entry.in_it });
    spent = (λ h. cc, λ none. let made = t.spent.1 (none_left t.within none) in cc);
    unchanged = λ h. cc;
    left = one_turn t.same t.entry.made;
  }
  gate_plays (Err Spent) t =
      let still : q ≡ p = t.unchanged refl in
      let made : p.made ≡ p.turns = t.spent.0 refl in
      record {
        same = same_pass t.same;
        entry = tt;
        seen = tt;
        wide = tt;
        err = ap (λ (k : PassModel Opening SetEntry). k.own) still;
        looked = subst (λ (k : PassModel Opening SetEntry). StartsWith k.seen p.seen) (sym still) (starts_itself p.seen);
        known = inl refl;
        spent = (λ _. all_made made, λ _. refl);
        unchanged = λ _. ap (λ (k : PassModel Opening SetEntry). at_gate gate k at) still;
        left = ap (λ (k : PassModel Opening SetEntry). Some (k.turns - k.made)) still ∙ all_made made ∙ ap one_less (sym (all_made made));
      }
  gate_plays (Err Memory) t =
      let look : Looks gate.base p q = t.memory refl in record {
        same = same_pass t.same;
        entry = tt;
        seen = tt;
        wide = tt;
        err = look.own;
        looked = look.seen;
        known = inr (record { is_legal = look.is_legal; own = look.in_it });
        spent = (λ h. cc, λ none. let made = t.spent.1 (none_left t.within none) in cc);
        unchanged = λ h. cc;
        left = one_turn t.same look.made;
      }

-- ---- alone

module _ (old new : ExploreModel) (e : ℕ) (at : GName) (event : SetEvent) (H : List SetEntry) (is_journal : H ≡ new.journal)
    (legal : IsLegal (opening_state new.opening) H)
    (wide : All (λ (entry : SetEntry). HasWideReply new.opening.table.context.width entry.reply) new.journal) where
  knows : KnowsHistory (alone_at new e at)
  knows = record { is_legal = record { legal = subst (IsLegal (opening_state new.opening)) is_journal legal; wide = wide }; own = refl }

  pub alone_replied : (reply : SetReply) → IsStep old new event reply → expert_of event ≡ e
      → Plays old.opening.table.context.width event (alone_at old e at) (Ok reply) (alone_at new e at)
  alone_replied reply step is =
      let entry : SetEntry = record { event = event; reply = reply } in record {
        same = record { number = refl; lock = refl; opening = step.opening; place = refl };
        entry = ap (λ (H : List SetEntry). own H e) step.journal ∙ own_of-append by_expert e old.journal (entry ∷ [])
            ∙ ap (λ (H : List SetEntry). own old.journal e ++ H) (own_of-one by_expert e entry is);
        seen = ([], step.journal ∙ ap (λ (H : List SetEntry). H ++ entry ∷ []) (sym (append-nil old.journal)));
        wide = step_wide old new event reply step wide;
        err = tt;
        looked = tt;
        known = inr knows;
        spent = (λ h. cc, λ h. cc);
        unchanged = λ h. cc;
        left = refl;
      }

  pub alone_unheard : IsSame old new → Plays old.opening.table.context.width event (alone_at old e at) (Err Memory) (alone_at new e at)
  alone_unheard same = record {
    same = record { number = refl; lock = refl; opening = same.opening; place = refl };
    entry = tt;
    seen = tt;
    wide = tt;
    err = ap (λ (H : List SetEntry). own H e) same.journal;
    looked = subst (λ (H : List SetEntry). StartsWith H old.journal) (sym same.journal) (starts_itself old.journal);
    known = inr knows;
    spent = (λ h. cc, λ h. cc);
    unchanged = λ h. cc;
    left = refl;
  }

-- ---- some calls

pub Works-nil : (desk : DeskState) → Works desk desk
Works-nil desk = record {
  same = record { number = refl; lock = refl; opening = refl; place = refl };
  seen = starts_itself desk.seen;
  known = inl refl;
}

pub Works-trans : {a b c : DeskState} → Works a b → Works b c → Works a c
Works-trans {a} {b} {c} x y = record {
  same = record {
    number = y.same.number ∙ x.same.number;
    lock = y.same.lock ∙ x.same.lock;
    opening = y.same.opening ∙ x.same.opening;
    place = y.same.place ∙ x.same.place;
  };
  seen = starts_trans a.seen b.seen c.seen y.seen x.seen;
  known = elim y.known as (λ _. (c ≡ a) ⊎ KnowsHistory c) [
    | inl still ↦ elim x.known as (λ _. (c ≡ a) ⊎ KnowsHistory c) [
      | inl before ↦ inl (still ∙ before)
      | inr knows ↦ inr (subst KnowsHistory (sym still) knows)
    ]
    | inr knows ↦ inr knows
  ];
}

pub plays-works : (width : ℕ) (event : SetEvent) (old new : DeskState) (result : Result SetReply TurnFault)
    → Plays width event old result new → Works old new
plays-works width event old new result p = record {
  same = p.same;
  seen = seen result p.seen p.looked;
  known = elim p.known as (λ _. (new ≡ old) ⊎ KnowsHistory new) [
    | inl none ↦ inl (p.unchanged none)
    | inr knows ↦ inr knows
  ];
}
  where
    seen : (result : Result SetReply TurnFault) → IfOk result
        (λ reply. GoesOnTo old.seen (record { event = event; reply = reply }) new.seen) → OnErr result (StartsWith new.seen old.seen)
        → StartsWith new.seen old.seen
    seen (Ok reply) on looked = (
      on.0 ++ record { event = event; reply = reply } ∷ [],
      on.1 ∙ append_assoc old.seen on.0 (record { event = event; reply = reply } ∷ []),
    )
    seen (Err e) on looked = looked
