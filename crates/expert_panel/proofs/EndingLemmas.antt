-- What is left of an exploration by oracles once its gate is closed. The badges of the passes stay, so the seats stand in the order of
-- their numbers, and what each seat shows of itself becomes a share in the one history. Where none is spent the first was done, and from
-- then on no question was open.
use Rattle.std.proofs.Common.{◌≡◌, ℕ, zero, suc, ◌<◌, ◌≤◌, ◌⊎◌, Bool, true, false, List, [], ◌∷◌, ◌++◌, length, map, take, All, Result, Ok}
use Rattle.std.proofs.Common.{Err, IfOk, inl, inr, refl, sym, ap, ◌∙◌, subst, arith}
use Rattle.std.proofs.lemmas.Bool.{cases_Bool, false≢true}
use Rattle.std.proofs.Math.Seq.{take-append_seam}
use Rattle.std.proofs.lemmas.List.{length-map}
use Rattle.std.proofs.lemmas.List.Elements.{All-nil, All-cons, All-head, All-tail}
use Rattle.std.specs.List.{list_any}
use Rattle.fca_model.specs.Tables.{NamedContext}
use Rattle.fca_model.specs.Questions.{open_questions}
use Rattle.fca_model.specs.Invariant.{rows_respect}
use Rattle.fca_model.specs.Exploration.{State, Settings, SetEntry, state_after, events_of, own}
use Rattle.fca_model.proofs.CourseLemmas.{run_settings}
use Rattle.fca_model.proofs.ValidLemmas.{opening_valid}
use Rattle.explore_state.specs.History.{Opening, ExploreModel, opening_state, open_of}
use Rattle.turn_lock.specs.Passes.{PassModel, Badge, Lock, Belongs, IsFresh, badge, roll}
use Rattle.turn_lock.proofs.ClosingLemmas.{roll-belongs, length-roll}
use Rattle.expert_gate.specs.Turns.{HasClosed}
use Rattle.oracle_expert.specs.Oracles.{Recall, no_conflict, untold}
use Rattle.oracle_expert.specs.Runs.{ends_done}
use Rattle.expert_panel.specs.declared.seat.Seat.{Seat}
use Rattle.expert_gate.specs.Seats.{EachSeat}
use Rattle.expert_panel.specs.Seats.{IsSeatOf}
use Rattle.expert_panel.specs.Explorations.{IsOraclesShare, EachNumbered, HasEnded, ended_spent, is_out_of_memory}
use Rattle.expert_panel.proofs.DoneLemmas.{done_leaves_none}
use Rattle.expert_panel.proofs.ShareLemmas.{count_from, roll-numbers, EachFrom, Tells, each_numbered, Run, passes, experts, tells_all}
use Rattle.expert_panel.proofs.ShareLemmas.{shares, some_spent, spent_among}

length-count_from : (n k : ℕ) → length (count_from n k) ≡ k
length-count_from n zero = refl
length-count_from n (suc k) = ap suc (length-count_from (suc n) k)

suc_of : (n : ℕ) → 1 ≤ n → (k : ℕ) × (n ≡ suc k)
suc_of zero h = absurd (omega arith)
suc_of (suc k) h = (k, refl)

-- what was written through a slice of the whole list
pub written_back : {X : Type 0} (n : ℕ) (news rest : List X) → n ≡ length news → take n (news ++ rest) ≡ news
written_back n news rest e = ap (λ k. take k (news ++ rest)) e ∙ take-append_seam news rest

-- ---- passes by their badges

pub badges_kept : (o : Opening) (olds news : List (Seat Recall)) → EachSeat (Run o) olds news
    → map badge (passes news) ≡ map badge (passes olds)
badges_kept o [] [] each = refl
badges_kept o [] (new ∷ news) each = absurd each
badges_kept o (old ∷ olds) [] each = absurd each
badges_kept o (old ∷ olds) (new ∷ news) each =
    ap (λ (b : Badge Opening). b ∷ map badge (passes news)) each.0.attended.pass.same
    ∙ ap (λ (bs : List (Badge Opening)). badge old.pass ∷ bs) (badges_kept o olds news each.1)

pub seats_of : {X : Type 0} (width : X → ℕ) (gate : Lock Opening) (seats : List (Seat X))
    → All (Belongs gate) (map (λ seat. seat.pass) seats)
    → All (λ x. width x ≡ gate.base.table.context.width) (map (λ seat. seat.expert) seats) → All (IsSeatOf width gate) seats
seats_of width gate [] belong fit = All-nil (IsSeatOf width gate)
seats_of width gate (seat ∷ seats) belong fit =
    All-cons (IsSeatOf width gate) seat seats
    (record {
      pass = All-head (Belongs gate) seat.pass (map (λ seat. seat.pass) seats) belong;
      expert = All-head (λ x. width x ≡ gate.base.table.context.width) seat.expert (map (λ seat. seat.expert) seats) fit;
    })
    (seats_of width gate seats (All-tail (Belongs gate) seat.pass (map (λ seat. seat.pass) seats) belong)
    (All-tail (λ x. width x ≡ gate.base.table.context.width) seat.expert (map (λ seat. seat.expert) seats) fit))

-- ---- the end

module _ (gate : Lock Opening) (ps : List (PassModel Opening SetEntry)) (before : List Recall) (olds news : List (Seat Recall))
    (explore : ExploreModel) (closed : HasClosed gate.base explore.journal (passes news))
    (some : 1 ≤ gate.passes) (roll_is : map badge ps ≡ roll gate) (fresh : All IsFresh ps) (count : length before ≡ gate.passes)
    (free : All (λ (r : Recall). r.conflicts ≡ no_conflict r.table) before) (seated_passes : passes olds ≡ ps)
    (seated_experts : experts olds ≡ before)
    (ran : EachSeat (Run gate.base) olds news) (unrefused : list_any (λ seat. is_out_of_memory seat.ended) news ≡ false) where
  abbrev H : List SetEntry
  H = explore.journal

  pub roll_stays : map badge (passes news) ≡ roll gate
  roll_stays = badges_kept gate.base olds news ran ∙ ap (map badge) seated_passes ∙ roll_is

  length-news : length news ≡ gate.passes
  length-news = sym (length-map news (λ seat. seat.pass)) ∙ length-roll gate (passes news) some roll_stays

  numbers : map (λ (b : Badge Opening). b.number) (map badge (passes news)) ≡ count_from 1 (length news)
  numbers =
      let n = suc_of gate.passes some in
      ap (map (λ (b : Badge Opening). b.number)) roll_stays ∙ roll-numbers gate n.0 n.1 ∙ ap (count_from 1) (sym (length-news ∙ n.1))

  told : EachFrom (Tells gate.turns H) 1 news × (map (λ (r : Recall). r.table) (experts news) ≡ map (λ (r : Recall). r.table)
      (experts olds))
  told =
      let belongs : All (Belongs gate) (passes news) = roll-belongs gate (passes news) (omega arith) roll_stays in
      tells_all gate.base gate.turns H 1 olds news ran (subst (All IsFresh) (sym seated_passes) fresh)
      (subst (All (λ (r : Recall). r.conflicts ≡ no_conflict r.table)) (sym seated_experts) free)
      numbers (λ k d h. (belongs k d h).turns) closed.own unrefused

  beyond : (e : ℕ) → (e ≡ 0) ⊎ (length before < e) → (e ≡ 0) ⊎ (length (passes news) < e)
  beyond e (inl none) = inl none
  beyond e (inr more) =
      let news_many = length-news in
      let seats = length-map news (λ seat. seat.pass) in
      inr (omega arith)

  -- where no seat is spent the first was done
  module _ (respecting : rows_respect gate.base.settings.known gate.base.table.context ≡ true) (opened : explore.opening ≡ gate.base) where
    done_at_last : ends_done (own H 1) ≡ true → open_of explore ≡ []
    done_at_last done =
        let s : State = opening_state gate.base in
        let none = done_leaves_none s H 1 (opening_valid gate.base.table.context gate.base.table.objects gate.base.settings respecting)
        closed.is_legal.legal done in
        subst (λ (o : Opening). open_questions o.settings.known (state_after (opening_state o) (events_of H)).context
        (state_after (opening_state o) (events_of H)).accepted ≡ []) (sym opened)
        (ap (λ (S : Settings). open_questions S.known (state_after s (events_of H)).context (state_after s (events_of H)).accepted)
        (sym (run_settings s (events_of H))) ∙ none)

    none_spent : list_any (λ seat. ended_spent seat.ended) news ≡ false → open_of explore ≡ []
    none_spent h = elim (cases_Bool (ends_done (own H 1))) [
      | inl t ↦ done_at_last t
      | inr f ↦
          let many = length-news in
          absurd (false≢true (sym h ∙ spent_among gate.base gate.turns H 1 news told.0 1 (omega arith) (omega arith) f))
    ]

    pub ended : (oracles : List Recall) (spent : Bool) → oracles ≡ experts news → spent ≡ list_any (λ seat. ended_spent seat.ended) news
        → HasEnded gate before explore oracles spent
    ended oracles spent oracles_are spent_is =
        let many : length news ≡ length before = length-news ∙ sym count in
        record {
          opening = opened;
          is_legal = closed.is_legal.legal;
          tables = ap (map (λ (r : Recall). r.table)) oracles_are ∙ told.1 ∙ ap (map (λ (r : Recall). r.table)) seated_experts;
          shares = subst (EachNumbered (IsOraclesShare gate.turns H)) (sym oracles_are)
              (each_numbered (IsOraclesShare gate.turns H) (experts news) (shares gate.base gate.turns H 1 news told.0));
          others = λ e h. closed.others e (beyond e h);
          spent = (
            λ h.
                let e = some_spent gate.base gate.turns H 1 news told.0 (sym spent_is ∙ h) in
                let from = e.1 in
                let to = e.2 in
                (e.0, omega arith, omega arith, e.3),
            λ e.
                let from = e.1 in
                let to = e.2 in
                spent_is ∙ spent_among gate.base gate.turns H 1 news told.0 e.0 (omega arith) (omega arith) e.3,
          );
          finished = λ h. none_spent (sym spent_is ∙ h);
        }

-- ---- the oracles of tables

pub untold_all : (P : NamedContext → Type 0) (Ds : List NamedContext) → All P Ds → All (λ (r : Recall). P r.table) (map untold Ds)
untold_all P [] all = All-nil (λ (r : Recall). P r.table)
untold_all P (D ∷ Ds) all = All-cons (λ (r : Recall). P r.table) (untold D) (map untold Ds) (All-head P D Ds all)
    (untold_all P Ds (All-tail P D Ds all))

-- oracles of the same tables
pub tables_all : (P : NamedContext → Type 0) (oracles before : List Recall)
    → map (λ (r : Recall). r.table) oracles ≡ map (λ (r : Recall). r.table) before → All (λ (r : Recall). P r.table) before
    → All (λ (r : Recall). P r.table) oracles
tables_all P [] before e all = All-nil (λ (r : Recall). P r.table)
tables_all P (oracle ∷ oracles) [] e all = cc
tables_all P (oracle ∷ oracles) (old ∷ before) e all =
    let Q : Recall → Type 0 = λ r. P r.table in
    let here : oracle.table ≡ old.table = cc in
    let rest : map (λ (r : Recall). r.table) oracles ≡ map (λ (r : Recall). r.table) before = cc in
    All-cons Q oracle oracles (subst P (sym here) (All-head Q old before all))
    (tables_all P oracles before rest (All-tail Q old before all))

pub untold_tables : (Ds : List NamedContext) → map (λ (r : Recall). r.table) (map untold Ds) ≡ Ds
untold_tables [] = refl
untold_tables (D ∷ Ds) = ap (λ (Ks : List NamedContext). D ∷ Ks) (untold_tables Ds)

pub IfOk-mono : {X F : Type 0} (P Q : X → Type 0) (result : Result X F) → ((x : X) → P x → Q x) → IfOk result P → IfOk result Q
IfOk-mono P Q (Ok x) on h = on x h
IfOk-mono P Q (Err e) on h = tt
