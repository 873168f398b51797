-- Many sessions. A pass that has made no turn has more of them than a session takes, so its talk is never short of them. Two halves
-- of sessions are one list. The passes are numbered in their order, so once the gate is closed, each talk is that of the entries
-- which the one history has of its expert.
use Rattle.std.proofs.Common.{inl, inr, ◌≡◌, ◌≤◌, ◌<◌, ℕ, zero, suc, ◌+◌, ◌-◌, ◌⊎◌, List, [], ◌∷◌, length, map, Option, Some, refl, sym, ap}
use Rattle.std.proofs.Common.{◌∙◌, subst, arith}
use Rattle.std.specs.Prelude.{All}
use Rattle.std.proofs.lemmas.List.Elements.{All-nil, All-cons, All-head, All-tail}
use Rattle.std.proofs.lemmas.List.{length-map}
use Rattle.fca_model.specs.Tables.{Text, NamedContext}
use Rattle.fca_model.specs.Exploration.{SetEntry, own}
use Rattle.explore_state.specs.History.{Opening}
use Rattle.turn_lock.specs.Passes.{PassModel, Badge, Lock, Belongs, IsFresh, TableId, badge, badges, roll}
use Rattle.turn_lock.proofs.ClosingLemmas.{length-roll}
use Rattle.expert_gate.specs.Turns.{HasClosed}
use Rattle.expert_gate.proofs.SeatLemmas.{EachSeat-length}
use Rattle.expert_sessions.specs.declared.ended.Ended.{Ended}
use Rattle.expert_sessions.specs.Moves.{DuplexState, TakesTurnsAtMost, end_state_of}
use Rattle.expert_sessions.specs.Order.{ReadsWhereAnswered}
use Rattle.expert_sessions.specs.Talks.{HasTalked}
use Rattle.expert_gate.specs.Seats.{EachSeat}
use Rattle.expert_sessions.specs.Serving.{IsReady, HasSat, EachTalks, entries_alone}
use Rattle.expert_sessions.specs.declared.seats.SessionSeat.{SessionSeat}
use Rattle.expert_sessions.proofs.TalkLemmas.{untold}

-- ---- one session

-- the pass has the badge that it had
pub same_badge : (p q r : PassModel Opening SetEntry) → Some (badge q) ≡ Some (badge p) → r ≡ q → badge r ≡ badge p
same_badge p q r same is = let badges : badge q ≡ badge p = cc in ap badge is ∙ badges

-- what holds of the desk's number holds of the pass's afterwards
pub at_number : (P : ℕ → Type 0) (e : ℕ) (p q r : PassModel Opening SetEntry) → P e → Some (badge q) ≡ Some (badge p) → e ≡ p.number → r ≡ q
    → P r.number
at_number P e p q r holds same number is =
    let badges : badge q ≡ badge p = cc in
    subst P (number ∙ sym (ap (λ (k : Badge Opening). k.number) badges) ∙ sym (ap (λ (k : PassModel Opening SetEntry). k.number) is)) holds

pub at_pass : (t : NamedContext) (e lines : ℕ) (a b : DuplexState) (p q r : PassModel Opening SetEntry) (gate : Lock Opening) (ended : Ended)
    → HasTalked t e lines a b (record { entries = p.own; left = Some (p.turns - p.made) })
    (record { entries = q.own; left = Some (q.turns - q.made) }) ended
    → TakesTurnsAtMost (lines + 1) (Some (p.turns - p.made)) (Some (q.turns - q.made))
    → Belongs gate p → IsFresh p → Some (badge q) ≡ Some (badge p) → e ≡ p.number → lines + 1 < gate.turns → r ≡ q
    → HasTalked t r.number lines a b (entries_alone []) (entries_alone r.own) ended
at_pass t e lines a b p q r gate ended x taken belongs fresh same number few is =
    let number_is : e ≡ r.number = at_number (λ n. e ≡ n) e p q r refl same number is in
    let own_is : q.own ≡ r.own = sym (ap (λ (k : PassModel Opening SetEntry). k.own) is) in
    let none : p.own ≡ [] = fresh.1 in
    let y : HasTalked t e lines a b (entries_alone p.own) (entries_alone q.own) ended =
    untold t e lines a b (record { entries = p.own; left = Some (p.turns - p.made) })
    (record { entries = q.own; left = Some (q.turns - q.made) }) ended x
    (λ spent.
    let left : taken.0 ≡ 0 = (let was = taken.1 in cc) in
    let turns = belongs.turns in
    let made = fresh.2 in
    let most = taken.2 in
    absurd (omega arith)) in
    subst (λ n. HasTalked t n lines a b (entries_alone []) (entries_alone r.own) ended) number_is
    (subst (λ es. HasTalked t e lines a b (entries_alone es) (entries_alone r.own) ended) none
    (subst (λ es. HasTalked t e lines a b (entries_alone p.own) (entries_alone es) ended) own_is y))

-- ---- all sessions

-- the passes from the number n on
abbrev HasNumbers : ℕ → List (PassModel Opening SetEntry) → Type 0
HasNumbers n [] = Unit {0}
HasNumbers n (p ∷ ps) = (p.number ≡ n) × HasNumbers (suc n) ps

badges-numbers : (id : TableId) (base : Option Opening) (turns n k : ℕ) (ps : List (PassModel Opening SetEntry))
    → map badge ps ≡ badges id base turns n k → HasNumbers n ps
badges-numbers id base turns n k [] e = tt
badges-numbers id base turns n zero (p ∷ ps) e = cc
badges-numbers id base turns n (suc k) (p ∷ ps) e =
    let head : badge p ≡ record { lock = id; number = n; base = base; turns = turns; passes = 0 } = cc in
    let tail : map badge ps ≡ badges id base turns (suc n) k = cc in
    (ap (λ (b : Badge Opening). b.number) head, badges-numbers id base turns (suc n) k ps tail)

roll-numbers : (gate : Lock Opening) (ps : List (PassModel Opening SetEntry)) → map badge ps ≡ roll gate → HasNumbers 1 ps
roll-numbers gate [] e = cc
roll-numbers gate (p ∷ ps) e =
    let head : badge p ≡ record { lock = gate.id; number = 1; base = Some gate.base; turns = gate.turns; passes = gate.passes } = cc in
    let tail : map badge ps ≡ badges gate.id (Some gate.base) gate.turns 2 (gate.passes - 1) = cc in
    (ap (λ (b : Badge Opening). b.number) head, badges-numbers gate.id (Some gate.base) gate.turns 2 (gate.passes - 1) ps tail)

module _ {E : Type 0} (left held : E → Option Text) (reads : E → Option ℕ) (read_faults write_faults : E → ℕ) (t : NamedContext)
    (lines : ℕ) where
  abbrev pub passes : List (SessionSeat E) → List (PassModel Opening SetEntry)
  passes seats = map (λ seat. seat.pass) seats

  abbrev pub ends : List (SessionSeat E) → List E
  ends seats = map (λ seat. seat.end) seats

  abbrev pub all_ended : List (SessionSeat E) → List Ended
  all_ended seats = map (λ seat. seat.ended) seats

  abbrev end_state : E → DuplexState
  end_state end = end_state_of left held read_faults write_faults end

  -- no session changes a badge
  pub badges_kept : (olds news : List (SessionSeat E)) → EachSeat (HasSat left held reads read_faults write_faults t lines) olds news
      → map badge (passes news) ≡ map badge (passes olds)
  badges_kept [] [] h = refl
  badges_kept [] (new ∷ news) h = absurd h
  badges_kept (old ∷ olds) [] h = absurd h
  badges_kept (old ∷ olds) (new ∷ news) h =
      ap (λ (b : Badge Opening). b ∷ map badge (passes news)) h.0.same
      ∙ ap (λ (bs : List (Badge Opening)). badge old.pass ∷ bs) (badges_kept olds news h.1)

  each_talks : (H : List SetEntry) (k : ℕ) (olds news : List (SessionSeat E)) → HasNumbers k (passes news)
      → All (λ p. own H p.number ≡ p.own) (passes news)
      → EachSeat (HasSat left held reads read_faults write_faults t lines) olds news
      → EachTalks left held reads read_faults write_faults t lines H k (ends olds) (ends news) (all_ended news)
  each_talks H k [] [] numbers own_is h = tt
  each_talks H k [] (new ∷ news) numbers own_is h = absurd h
  each_talks H k (old ∷ olds) [] numbers own_is h = absurd h
  each_talks H k (old ∷ olds) (new ∷ news) numbers own_is h =
      let entries : new.pass.own ≡ own H k = sym (All-head (λ p. own H p.number ≡ p.own) new.pass (passes news) own_is)
      ∙ ap (own H) numbers.0 in (
        subst (λ es. HasTalked t k lines (end_state old.end) (end_state new.end) (entries_alone []) (entries_alone es) new.ended) entries
            (subst (λ n. HasTalked t n lines (end_state old.end) (end_state new.end) (entries_alone [])
            (entries_alone new.pass.own) new.ended) numbers.0
            h.0.talk),
        subst (λ n. ReadsWhereAnswered left held reads read_faults write_faults t n old.end new.end) numbers.0 h.0.order,
        each_talks H (suc k) olds news numbers.1 (All-tail (λ p. own H p.number ≡ p.own) new.pass (passes news) own_is) h.1,
      )

  -- the gate was closed
  pub talks : (gate : Lock Opening) (H : List SetEntry) (olds news : List (SessionSeat E)) → map badge (passes olds) ≡ roll gate
      → HasClosed gate.base H (passes news)
      → EachSeat (HasSat left held reads read_faults write_faults t lines) olds news
      → EachTalks left held reads read_faults write_faults t lines H 1 (ends olds) (ends news) (all_ended news)
  talks gate H olds news e closed h = each_talks H 1 olds news (roll-numbers gate (passes news) (badges_kept olds news h ∙ e)) closed.own h

  -- the seats of passes that have made no turn
  pub seats_ready : (gate : Lock Opening) (seats : List (SessionSeat E)) → All (Belongs gate) (passes seats) → All IsFresh (passes seats)
      → All (IsReady gate) seats
  seats_ready gate [] belong fresh = All-nil (IsReady gate)
  seats_ready gate (seat ∷ seats) belong fresh =
      All-cons (IsReady gate) seat seats (
        All-head (Belongs gate) seat.pass (passes seats) belong,
        All-head IsFresh seat.pass (passes seats) fresh,
      )
      (seats_ready gate seats (All-tail (Belongs gate) seat.pass (passes seats) belong) (All-tail IsFresh seat.pass (passes seats) fresh))

-- ---- the passes of a gate

module _ {E : Type 0} (left held : E → Option Text) (reads : E → Option ℕ) (read_faults write_faults : E → ℕ) (t t' : NamedContext)
    (lines lines' : ℕ)
    (gate : Lock Opening) (ps qs : List (PassModel Opening SetEntry)) (olds news : List (SessionSeat E))
    (some : 1 ≤ gate.passes) (roll_is : map badge ps ≡ roll gate) (fill_seats : map (λ (seat : SessionSeat E). seat.pass) olds ≡ ps)
    (split_into : qs ≡ map (λ (seat : SessionSeat E). seat.pass) news)
    (sat : EachSeat (HasSat left held reads read_faults write_faults t' lines') olds news) where
  -- there are as many seats as passes, before and afterwards
  pub length-news : length news ≡ gate.passes
  length-news = EachSeat-length (HasSat left held reads read_faults write_faults t' lines') olds news sat
      ∙ sym (length-map olds (λ (seat : SessionSeat E). seat.pass)) ∙ ap length fill_seats ∙ length-roll gate ps some roll_is

  -- the passes come back with their badges
  pub roll_kept : map badge qs ≡ roll gate
  roll_kept = ap (map badge) split_into ∙ badges_kept left held reads read_faults write_faults t' lines' olds news sat
      ∙ ap (map badge) fill_seats
      ∙ roll_is

  -- what the closed gate shows
  module _ (H : List SetEntry) (closed : HasClosed gate.base H qs) where
    pub talks_told : (before after : List E) (all_ended : List Ended) → t' ≡ t → lines' ≡ lines
        → map (λ (seat : SessionSeat E). seat.end) olds ≡ before → after ≡ map (λ (seat : SessionSeat E). seat.end) news
        → all_ended ≡ map (λ (seat : SessionSeat E). seat.ended) news
        → EachTalks left held reads read_faults write_faults t lines H 1 before after all_ended
    talks_told before after all_ended table few ends_before ends_after ended =
        let all = talks left held reads read_faults write_faults t' lines' gate H olds news (ap (map badge) fill_seats ∙ roll_is)
        (subst (HasClosed gate.base H) split_into closed) sat in
        subst (λ z. EachTalks left held reads read_faults write_faults z lines H 1 before after all_ended) table
        (subst (λ z. EachTalks left held reads read_faults write_faults t' z H 1 before after all_ended) few
        (subst (λ z. EachTalks left held reads read_faults write_faults t' lines' H 1 z after all_ended) ends_before
        (subst (λ z. EachTalks left held reads read_faults write_faults t' lines' H 1
        (map (λ (seat : SessionSeat E). seat.end) olds) z all_ended)
        (sym ends_after)
        (subst (λ z. EachTalks left held reads read_faults write_faults t' lines' H 1 (map (λ (seat : SessionSeat E). seat.end) olds)
        (map (λ (seat : SessionSeat E). seat.end) news) z) (sym ended) all))))

    pub others_told : (e : ℕ) → (e ≡ 0) ⊎ (gate.passes < e) → own H e ≡ []
    others_told e h = closed.others e (elim h as (λ _. (e ≡ 0) ⊎ (length qs < e)) [
      | inl none ↦ inl none
      | inr more ↦ inr (
          let many = length-news in
          let same : length qs ≡ length news = ap length split_into ∙ length-map news (λ (seat : SessionSeat E). seat.pass) in
          omega arith)
    ])
