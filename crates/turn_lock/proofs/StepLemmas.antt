-- Each step keeps the rule.
-- The rule's parts go step by step through the lemmas on tickets, counts and numbers. What is left is the slot: a view takes
-- the turn where the value is at home, for no other has the ticket that word 1 shows, and while it is out no other view's
-- turn is its own.
use Rattle.std.proofs.Common.{◌≡◌, ◌≢◌, ℕ, ◌+◌, ◌*◌, ◌%◌, ◌^◌, ◌<◌, ◌≤◌, ◌⊎◌, true, false, List, [], ◌∷◌, ◌++◌, get_or, set, sym, refl, ap}
use Rattle.std.proofs.Common.{◌∙◌, subst, inl, inr, ⊎_elim, arith, get_or-set_other, get_or-set_same, length-set, mod-eq_of_lt}
use Rattle.std.proofs.Common.{Some, None}
use Rattle.std.proofs.lemmas.Bool.{cases_Bool}
use Rattle.std.proofs.lemmas.List.{append-nil}
use mathlib.Core.Option.{Option as Home, some, none}
use lib.ListN.{get_elem?}
use lib.Seq.{set-get_or}
use Rattle.atomic_table.specs.Table.{State, Me, step, keeps, takes, gives, stepped, opening, Allows, Splits, Joins}
use Rattle.atomic_table.proofs.Lists.{set_again, set_here, set_else, at_longer}
use Rattle.fca_model.specs.declared.TheConstants.{MAX_TURNS}
use Rattle.turn_lock.specs.declared.view.View.{View}
use Rattle.turn_lock.specs.declared.view.JoinedPass.{JoinedPass}
use Rattle.turn_lock.specs.Histories.{StartsWith, own_of, IsOneOf}
use Rattle.turn_lock.specs.Turns.{Tickets, HasTicket, Numbers, Slot, Turned}
use Rattle.turn_lock.specs.Steps.{Drew, Came, Ended, Grew, first_view, one_more, newcomer, joined_with, joined_away, ended_view}
use Rattle.turn_lock.proofs.ValueLemmas.{value_at}
use Rattle.turn_lock.proofs.ViewLemmas.{inside, same_at, after, after_end, only, total_two}
use Rattle.turn_lock.proofs.HistoryLemmas.{starts_trans, starts_itself, longer_either, among_append}
use Rattle.turn_lock.proofs.TicketLemmas.{same_some, is_turn, Tickets-kept, Tickets-drawn, Tickets-ended, Tickets-longer, Tickets-first}
use Rattle.turn_lock.proofs.CountLemmas.{few_drawn, Counts-set, Counts-longer, Counts-joined, Counts-first}
use Rattle.turn_lock.proofs.NumberLemmas.{First-kept, Numbers-kept, Numbers-grown, Numbers-longer, Numbers-left, Numbers-first}

module _ {V B E : Type 0} (base_of : V → B) (history_of : V → List E) (legal : B → List E → Type 0) (by : E → ℕ) where
  abbrev W : Type 0
  W = View B E

  abbrev S : Type 0
  S = State V W

  abbrev Rule : B → ℕ → S → Type 0
  Rule = Turned base_of history_of legal by

  -- ---- the slot, where a view out of its turn changes or comes

  Slot-kept : (b : B) (log : List E) (homes : List (Home V)) (vs : List W) (id : ℕ) (v w : W) → get_elem? vs id ≡ some v → v.mine ≡ false
      → w.mine ≡ false
      → Slot base_of history_of b log homes vs → Slot base_of history_of b log homes (set vs id w)
  Slot-kept b log homes vs id v w at idle_v idle_w slot = ⊎_elim
      (λ p. inl (p.0, p.1, p.2, p.3, after (λ i (u : W). u.mine ≡ false) vs id w idle_w (λ j u other there. p.4 j u there)))
      (λ p. inr (
        p.0,
        p.1,
        p.2,
        set_else vs id p.1 w (λ e. cc
            (sym idle_v ∙ (ap (λ (u : W). u.mine) (same_at vs id p.1 v p.2 at p.3 (sym e)) ∙ p.4))) ∙ p.3,
        p.4,
        p.5,
      ))
      slot

  Slot-longer : (b : B) (log : List E) (homes : List (Home V)) (vs : List W) (w : W) → w.mine ≡ false
      → Slot base_of history_of b log homes vs → Slot base_of history_of b log homes (vs ++ w ∷ [])
  Slot-longer b log homes vs w idle slot = ⊎_elim
      (λ p. inl (p.0, p.1, p.2, p.3, after_end (λ i (u : W). u.mine ≡ false) vs w idle (λ j u there. p.4 j u there)))
      (λ p. inr (p.0, p.1, p.2, at_longer vs (w ∷ []) p.1 p.2 p.3, p.4, p.5))
      slot

  -- ---- the table is made

  pub opens : (b : B) (turns : ℕ) (value : V) → turns ≤ MAX_TURNS → base_of value ≡ b → history_of value ≡ [] → legal b (history_of value)
      → Rule b turns (opening (0 ∷ 0 ∷ []) (value ∷ []) (first_view b turns))
  opens b turns value few based new lawful =
      let w : W = first_view b turns in record {
        log = [];
        passes = 1;
        gone = [];
        histories = [];
        first = (w, refl, refl, refl, refl, refl);
        words = refl;
        tickets = Tickets-first w refl;
        counts = Counts-first turns w refl refl few;
        turn = only (λ i (v : W). HasTicket 0 v) w (λ e. cc e);
        slot = inl (value, refl, based, new, only (λ i (v : W). v.mine ≡ false) w refl);
        is_legal = subst (legal b) new lawful;
        seen = only (λ i (v : W). StartsWith [] v.seen) w (starts_itself []);
        joined_seen = λ h am. absurd am;
        numbers = Numbers-first by b turns w refl refl refl (omega arith) refl;
      }

  -- ---- a ticket is drawn

  pub draws : (b : B) (turns id : ℕ) (m : Me V W) → 0 < m.0.number → m.0.ticket ≡ None → m.0.mine ≡ false
      → m.0.drawn < m.0.turns * m.0.stands
      → Allows (Rule b turns) 1 id m 0 (λ n. (n + 1) % 2 ^ 64) (Drew (step 1 0 1 0 none) m)
  draws b turns id m pos free idle left s r one at small =
      let n : ℕ = get_or s.words 0 0 in
      let w : W = record m.0 { drawn = m.0.drawn + 1; ticket = Some n } in
      let fits = few_drawn turns r.passes n s.views r.counts in
      let next : (n + 1) % 2 ^ 64 ≡ n + 1 = mod-eq_of_lt (omega arith) in
      let ws : List ℕ = set s.words 0 ((n + 1) % 2 ^ 64) in
      let two = r.words in
      let first : get_or ws 0 0 ≡ n + 1 = get_or-set_same s.words 0 ((n + 1) % 2 ^ 64) 0 (omega arith) ∙ next in
      let second : get_or ws 1 0 ≡ get_or s.words 1 0 = get_or-set_other s.words 0 1 ((n + 1) % 2 ^ 64) 0 (λ e. cc e) in
      let knows = r.numbers.own id m.0 at pos in (
        w,
        keeps,
        tt,
        record {
          log = r.log;
          passes = r.passes;
          gone = r.gone;
          histories = r.histories;
          first = First-kept r.passes r.gone r.histories s.views id m.0 w at refl refl refl refl r.first;
          words = length-set s.words 0 ((n + 1) % 2 ^ 64) ∙ r.words;
          tickets = subst (λ (z : ℕ × ℕ). Tickets z.0 z.1 (set s.views id w)) (λ i. (sym second i, sym first i))
              (Tickets-drawn (get_or s.words 1 0) n s.views id m.0 w at free refl r.tickets);
          counts = Counts-set turns r.passes n (get_or ws 0 0) 1 s.views id m.0 w at first refl refl
              (subst (λ (k : ℕ). m.0.drawn + 1 ≤ k * m.0.stands) knows.1 (omega (arith, left))) r.counts;
          turn = subst (λ (k : ℕ). (i : ℕ) (v : W) → get_elem? (set s.views id w) i ≡ some v → HasTicket k v) (sym second)
              (after (λ i (v : W). HasTicket (get_or s.words 1 0) v) s.views id w (λ e. cc (sym idle ∙ e))
              (λ j v other there. r.turn j v there));
          slot = Slot-kept b r.log s.homes s.views id m.0 w at idle idle r.slot;
          is_legal = r.is_legal;
          seen = after (λ i (v : W). StartsWith r.log v.seen) s.views id w (r.seen id m.0 at) (λ j v other there. r.seen j v there);
          joined_seen = r.joined_seen;
          numbers = Numbers-kept by b turns r.passes r.log r.gone s.views id m.0 w at pos refl refl refl knows.2 refl r.numbers;
        },
        (refl, refl),
      )

  -- ---- a pass looks whether its turn has come

  -- the turn is taken, with the value at home
  takes_turn : (b : B) (turns id : ℕ) (m : Me V W) (s : S) (r : Rule b turns s) → 0 < m.0.number → get_elem? s.views id ≡ some m.0
      → m.0.ticket ≡ Some (get_or s.words 1 0)
      → (value : V) → s.homes ≡ some value ∷ [] → history_of value ≡ r.log
      → Rule b turns record {
        words = set s.words 1 (get_or s.words 1 0);
        homes = set s.homes 0 none;
        views = set s.views id record m.0 { mine = true; seen = history_of value };
      }
  takes_turn b turns id m s r pos at now value home log =
      let w : W = record m.0 { mine = true; seen = history_of value } in
      let n : ℕ = get_or s.words 0 0 in
      let most = r.counts.most id m.0 at in
      subst (λ (ws : List ℕ). Rule b turns record { words = ws; homes = set s.homes 0 none; views = set s.views id w })
      (sym (set-get_or s.words 1 0)) record {
        log = r.log;
        passes = r.passes;
        gone = r.gone;
        histories = r.histories;
        first = First-kept r.passes r.gone r.histories s.views id m.0 w at refl refl refl refl r.first;
        words = r.words;
        tickets = Tickets-kept (get_or s.words 1 0) n s.views id m.0 w at refl r.tickets;
        counts = Counts-set turns r.passes n n 0 s.views id m.0 w at (omega arith) (omega arith) refl (omega (arith, most)) r.counts;
        turn = after (λ i (v : W). HasTicket (get_or s.words 1 0) v) s.views id w (λ _. (pos, now)) (λ j v other there. r.turn j v there);
        slot = inr (ap (λ (h : List _). set h 0 none) home, id, w, set_here s.views id w (inside s.views id m.0 at), refl, log);
        is_legal = r.is_legal;
        seen = after (λ i (v : W). StartsWith r.log v.seen) s.views id w ([], sym log ∙ sym (append-nil (history_of value)))
            (λ j v other there. r.seen j v there);
        joined_seen = r.joined_seen;
        numbers = Numbers-kept by b turns r.passes r.log r.gone s.views id m.0 w at pos refl refl refl
            (r.numbers.own id m.0 at pos).2 refl r.numbers;
      }

  pub comes : (b : B) (turns id : ℕ) (m : Me V W) → 0 < m.0.number → m.0.mine ≡ false
      → Allows (Rule b turns) 1 id m 1 (λ n. n) (Came base_of history_of legal by (step 1 1 0 0 none) m)
  comes b turns id m pos idle s r one at small = ⊎_elim
      (λ now. ⊎_elim
      (λ p.
      let value : V = p.0 in
      let knows = r.numbers.own id m.0 at pos in
      let seen = r.seen id m.0 at in (
        record m.0 { mine = true; seen = history_of value },
        takes 0 value,
        ap (λ (h : List _). get_elem? h 0) p.1,
        takes_turn b turns id m s r pos at now value p.1 p.3,
        inl (
          now,
          (
            value,
            refl,
            (
              knows.0 ∙ ap Some (sym p.2),
              subst (λ (z : B × List E). legal z.0 z.1) (λ i. (sym p.2 i, sym p.3 i)) r.is_legal,
              (seen.0, p.3 ∙ seen.1),
              knows.4 ∙ ap (own_of by m.0.number) (sym p.3),
              refl,
            ),
          ),
        ),
      ))
      (λ p. let e = r.tickets.apart id p.1 m.0 p.2 _ at p.3 now (r.turn p.1 p.2 p.3 p.4).1 in
      cc (sym idle ∙ (ap (λ (v : W). v.mine) (same_at s.views id p.1 m.0 p.2 at p.3 e) ∙ p.4)))
      r.slot)
      (λ other. (
        m.0,
        keeps,
        tt,
        subst (λ (z : List ℕ × List W). Rule b turns record { words = z.0; homes = s.homes; views = z.1 })
            (λ i. (sym (set-get_or s.words 1 0) i, sym (set_again s.views id m.0 at) i)) r,
        inr (other, refl),
      ))
      (is_turn m.0.ticket (get_or s.words 1 0))

  -- ---- a turn ends

  -- while a view's turn is its own, the slot is out, and no other view's is
  is_out : (b : B) (turns id : ℕ) (v : W) (s : S) (r : Rule b turns s) → get_elem? s.views id ≡ some v → v.mine ≡ true
      → (s.homes ≡ none ∷ []) × (v.seen ≡ r.log)
  is_out b turns id v s r at mine = ⊎_elim
      (λ p. cc (sym mine ∙ p.4 id v at))
      (λ p. let e = r.tickets.apart id p.1 v p.2 (get_or s.words 1 0) at p.3 (r.turn id v at mine).1 (r.turn p.1 p.2 p.3 p.4).1 in
      (p.0, ap (λ (v : W). v.seen) (same_at s.views id p.1 v p.2 at p.3 e) ∙ p.5))
      r.slot

  is_alone : (b : B) (turns id : ℕ) (v : W) (s : S) (r : Rule b turns s) → get_elem? s.views id ≡ some v → v.mine ≡ true → (j : ℕ) (u : W)
      → j ≢ id → get_elem? s.views j ≡ some u → u.mine ≡ false
  is_alone b turns id v s r at mine j u other there = elim (cases_Bool u.mine) [
    | inl is ↦ absurd (other (sym (r.tickets.apart id j v u (get_or s.words 1 0) at there (r.turn id v at mine).1 (r.turn j u there is).1)))
    | inr not_it ↦ not_it
  ]

  pub ends : (b : B) (turns id : ℕ) (m : Me V W) (value : V) → 0 < m.0.number → m.1 ≡ (0, value) ∷ [] → m.0.mine ≡ true
      → m.0.base ≡ Some (base_of value)
      → legal (base_of value) (history_of value) → Grew by m.0.number m.0.seen (history_of value)
      → Allows (Rule b turns) 1 id m 1 (λ n. (n + 1) % 2 ^ 64) (Ended history_of by (step 1 1 1 0 none) m)
  ends b turns id m value pos holds mine based lawful grew s r one at small =
      let n : ℕ = get_or s.words 1 0 in
      let log : List E = history_of value in
      let w : W = ended_view by log m.0 in
      let now : m.0.ticket ≡ Some n = (r.turn id m.0 at mine).1 in
      let knows = r.numbers.own id m.0 at pos in
      let is_base : base_of value ≡ b = same_some (base_of value) b (sym based ∙ knows.0) in
      let few = few_drawn turns r.passes (get_or s.words 0 0) s.views r.counts in
      let below = (r.tickets.held id m.0 n at now).1 in
      let most = r.counts.most id m.0 at in
      let next : (n + 1) % 2 ^ 64 ≡ n + 1 = mod-eq_of_lt (omega arith) in
      let ws : List ℕ = set s.words 1 ((n + 1) % 2 ^ 64) in
      let two = r.words in
      let second : get_or ws 1 0 ≡ n + 1 = get_or-set_same s.words 1 ((n + 1) % 2 ^ 64) 0 (omega arith) ∙ next in
      let first : get_or ws 0 0 ≡ get_or s.words 0 0 = get_or-set_other s.words 1 0 ((n + 1) % 2 ^ 64) 0 (λ e. cc e) in
      let away = is_out b turns id m.0 s r at mine in
      let alone = is_alone b turns id m.0 s r at mine in
      let es : List E = grew.0 in
      let is : log ≡ r.log ++ es = grew.1 ∙ ap (λ (l : List E). l ++ es) away.1 in (
        w,
        gives,
        tt,
        subst (λ (cs : List (ℕ × V)). Rule b turns (stepped s 1 ((n + 1) % 2 ^ 64) id cs w gives)) (sym holds) record {
          log = log;
          passes = r.passes;
          gone = r.gone;
          histories = r.histories;
          first = First-kept r.passes r.gone r.histories s.views id m.0 w at refl refl refl refl r.first;
          words = length-set s.words 1 ((n + 1) % 2 ^ 64) ∙ r.words;
          tickets = subst (λ (z : ℕ × ℕ). Tickets z.0 z.1 (set s.views id w)) (λ i. (sym second i, sym first i))
              (Tickets-ended n (get_or s.words 0 0) s.views id m.0 w at now refl r.tickets);
          counts = Counts-set turns r.passes (get_or s.words 0 0) (get_or ws 0 0) 0 s.views id m.0 w at (omega (arith, first))
              (omega arith) refl (omega (arith, most)) r.counts;
          turn = after (λ i (v : W). HasTicket (get_or ws 1 0) v) s.views id w (λ e. cc e)
              (λ j v other there e. cc (sym (alone j v other there) ∙ e));
          slot = inl (
            value,
            ap (λ (h : List _). set h 0 (some value)) away.0,
            is_base,
            refl,
            after (λ i (v : W). v.mine ≡ false) s.views id w refl alone,
          );
          is_legal = subst (λ b. legal b log) is_base lawful;
          seen = after (λ i (v : W). StartsWith log v.seen) s.views id w (starts_itself log)
              (λ j v other there. starts_trans v.seen r.log log (es, is) (r.seen j v there));
          joined_seen = λ h am. starts_trans h r.log log (es, is) (r.joined_seen h am);
          numbers = subst (λ (l : List E). Numbers by b turns r.passes l r.gone (set s.views id w)) (sym is)
              (Numbers-grown by b turns r.passes r.log es r.gone s.views id m.0 w at pos refl refl refl knows.2
              (ap (own_of by m.0.number) is) grew.2 r.numbers);
        },
        λ x there. (
          rw holds refl,
          ap (λ (h : List E). ended_view by h m.0) (ap history_of (value_at m.1 value x holds there)),
        ),
      )

  -- ---- one more pass is made

  -- the view of pass 1 stands at 0
  one_is : (b : B) (turns : ℕ) (s : S) (r : Rule b turns s) (id : ℕ) (v : W) → get_elem? s.views id ≡ some v → v.number ≡ 1
      → (id ≡ 0) × (v.passes ≡ r.passes) × (v.joined ≡ r.gone) × (v.joined_seen ≡ r.histories)
  one_is b turns s r id v at is =
      let f = r.first in
      let pos : 0 < v.number = omega arith in
      let here : id ≡ 0 = r.numbers.differ id 0 v f.0 at f.1 pos (is ∙ sym f.2) in
      let same : v ≡ f.0 = same_at s.views id 0 v f.0 at f.1 here in
      (here, ap (λ (u : W). u.passes) same ∙ f.3, ap (λ (u : W). u.joined) same ∙ f.4, ap (λ (u : W). u.joined_seen) same ∙ f.5)

  pub splits : (b : B) (turns id : ℕ) (v : W) → v.number ≡ 1 → v.mine ≡ false → v.passes < 64
      → Splits (Rule b turns) id v (one_more v) (newcomer v)
  splits b turns id v is idle few s r at =
      let w : W = one_more v in
      let x : W = newcomer v in
      let pos : 0 < v.number = omega arith in
      let k = r.numbers.own id v at pos in
      let at_one = one_is b turns s r id v at is in
      let passes : v.passes ≡ r.passes = at_one.1 in
      let most = r.counts.most id v at in
      let ended : ℕ = get_or s.words 1 0 in
      let drawn : ℕ = get_or s.words 0 0 in
      let vs : List W = set s.views id w in
      let here : get_elem? vs 0 ≡ some w = subst (λ (i : ℕ). get_elem? (set s.views id w) i ≡ some w) at_one.0
      (set_here s.views id w (inside s.views id v at)) in
      record {
        log = r.log;
        passes = r.passes + 1;
        gone = r.gone;
        histories = r.histories;
        first = (w, at_longer vs (x ∷ []) 0 w here, is, ap (λ (n : ℕ). n + 1) passes, at_one.2, at_one.3);
        words = r.words;
        tickets = Tickets-longer ended drawn vs x refl (Tickets-kept ended drawn s.views id v w at refl r.tickets);
        counts = Counts-longer turns r.passes drawn vs x refl refl (omega arith)
            (Counts-set turns r.passes drawn drawn 0 s.views id v w at (omega arith) (omega arith) refl (omega (arith, most)) r.counts);
        turn = after_end (λ i (u : W). HasTicket ended u) vs x (λ e. cc e)
            (after (λ i (u : W). HasTicket ended u) s.views id w (λ e. cc (sym idle ∙ e)) (λ j u other there. r.turn j u there));
        slot = Slot-longer b r.log s.homes vs x refl (Slot-kept b r.log s.homes s.views id v w at idle idle r.slot);
        is_legal = r.is_legal;
        seen = after_end (λ i (u : W). StartsWith r.log u.seen) vs x (r.seen id v at)
            (after (λ i (u : W). StartsWith r.log u.seen) s.views id w (r.seen id v at) (λ j u other there. r.seen j u there));
        joined_seen = r.joined_seen;
        numbers = Numbers-longer by b turns r.passes r.log r.gone vs x (ap (λ (n : ℕ). n + 1) passes) k.0 k.1 (omega arith) refl
            (Numbers-kept by b turns r.passes r.log r.gone s.views id v w at pos refl refl refl k.2 refl r.numbers);
      }

  -- ---- a pass at rest is joined to pass 1, which is at rest too

  pub joins : (b : B) (turns id : ℕ) (v : W) (other : ℕ) (w : W) → v.number ≡ 1 → v.mine ≡ false → 0 < w.number → w.ticket ≡ None
      → w.mine ≡ false
      → Joins (Rule b turns) id v other w (joined_with v w) joined_away
  joins b turns id v other w is idle_v pos_w free idle_w s r at ne there_w =
      let v' : W = joined_with v w in
      let x : W = joined_away in
      let vs : List W = set s.views id v' in
      let at_w : get_elem? s.views other ≡ some w = sym (set_else s.views id other v' ne) ∙ there_w in
      let pos : 0 < v.number = omega arith in
      let stands = (r.numbers.own id v at pos).2 in
      let at_one = one_is b turns s r id v at is in
      let ended : ℕ = get_or s.words 1 0 in
      let drawn : ℕ = get_or s.words 0 0 in
      let here : get_elem? (set vs other x) id ≡ some v' = set_else vs other id x (λ e. ne (sym e))
      ∙ set_here s.views id v' (inside s.views id v at) in
      let left : JoinedPass E = record { number = w.number; own = w.own } in
      record {
        log = r.log;
        passes = r.passes;
        gone = r.gone ++ left ∷ [];
        histories = r.histories ++ v.seen ∷ w.seen ∷ [];
        first = (
          v',
          subst (λ (i : ℕ). get_elem? (set vs other x) i ≡ some v') at_one.0 here,
          is,
          at_one.1,
          ap (λ l. l ++ left ∷ []) at_one.2,
          ap (λ l. l ++ v.seen ∷ w.seen ∷ []) at_one.3,
        );
        words = r.words;
        tickets = Tickets-kept ended drawn vs other w x there_w (sym free) (Tickets-kept ended drawn s.views id v v' at refl r.tickets);
        counts = Counts-joined turns r.passes drawn s.views id v v' other w x ne at at_w there_w refl refl refl refl r.counts;
        turn = after (λ i (u : W). HasTicket ended u) vs other x (λ e. cc e)
            (λ j u o there. after (λ i (u : W). HasTicket ended u) s.views id v' (λ e. cc (sym idle_v ∙ e))
            (λ j u o2 there. r.turn j u there) j u there);
        slot = Slot-kept b r.log s.homes vs other w x there_w idle_w refl
            (Slot-kept b r.log s.homes s.views id v v' at idle_v idle_v r.slot);
        is_legal = r.is_legal;
        seen = after (λ i (u : W). StartsWith r.log u.seen) vs other x (r.log, refl)
            (λ j u o there. after (λ i (u : W). StartsWith r.log u.seen) s.views id v'
            (longer_either (StartsWith r.log) v.seen w.seen (r.seen id v at) (r.seen other w at_w))
            (λ j u o2 there. r.seen j u there) j u there);
        joined_seen = λ h am. ⊎_elim (λ old. r.joined_seen h old)
            (λ new. ⊎_elim (λ e. subst (StartsWith r.log) e (r.seen id v at))
            (λ more. ⊎_elim (λ e. subst (StartsWith r.log) e (r.seen other w at_w)) (λ no. absurd no) more) new)
            (among_append r.histories (v.seen ∷ w.seen ∷ []) h am);
        numbers = Numbers-left by b turns r.passes r.log r.gone vs other w x there_w pos_w refl
            (Numbers-kept by b turns r.passes r.log r.gone s.views id v v' at pos refl refl refl (omega arith) refl r.numbers);
      }

  -- ---- the last state, where the view of pass 1 stands for all

  pub closes : (b : B) (turns id : ℕ) (v : W) (s : S) → Rule b turns s → get_elem? s.views id ≡ some v → v.number ≡ 1 → v.stands ≡ v.passes
      → v.mine ≡ false
      → (value : V) × (s.homes ≡ some value ∷ []) × (base_of value ≡ b) × legal b (history_of value) × StartsWith (history_of value) v.seen
      × ((h : List E) → IsOneOf v.joined_seen h → StartsWith (history_of value) h)
      × (v.own ≡ own_of by 1 (history_of value))
      × ((left : JoinedPass E) → IsOneOf v.joined left → left.own ≡ own_of by left.number (history_of value))
      × ((n : ℕ) → (n ≡ 0) ⊎ (v.passes < n) → own_of by n (history_of value) ≡ [])
  closes b turns id v s r at is all idle =
      let pos : 0 < v.number = omega arith in
      let k = r.numbers.own id v at pos in
      let at_one = one_is b turns s r id v at is in
      let passes = at_one.1 in
      let stand = r.counts.stand in
      ⊎_elim
      (λ p.
      let same : history_of p.0 ≡ r.log = p.3 in (
        p.0,
        p.1,
        p.2,
        subst (legal b) (sym same) r.is_legal,
        subst (λ (l : List E). StartsWith l v.seen) (sym same) (r.seen id v at),
        (λ h am. subst (λ (l : List E). StartsWith l h) (sym same) (r.joined_seen h (subst (λ l. IsOneOf l h) at_one.3 am))),
        k.4 ∙ (ap (λ (n : ℕ). own_of by n r.log) is ∙ ap (own_of by 1) (sym same)),
        (λ left am. (r.numbers.kept left (subst (λ l. IsOneOf l left) at_one.2 am)).2 ∙ ap (own_of by left.number) (sym same)),
        (λ n h. ap (own_of by n) same ∙ r.numbers.strange n (⊎_elim (λ z. inl z) (λ z. inr (omega arith)) h)),
      ))
      (λ p.
      let pos_i = (r.turn p.1 p.2 p.3 p.4).0 in
      let stands_i = (r.numbers.own p.1 p.2 p.3 pos_i).2 in
      let ne : id ≢ p.1 = λ e. cc (sym idle ∙ (ap (λ (u : W). u.mine) (same_at s.views id p.1 v p.2 at p.3 e) ∙ p.4)) in
      let two = total_two (λ (u : W). u.stands) s.views id p.1 v p.2 ne at p.3 in
      absurd (omega arith))
      r.slot
