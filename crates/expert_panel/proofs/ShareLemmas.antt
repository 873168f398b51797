-- What a seat with an oracle did, in the words of the one history. Its pass was new, so the entries that it made are all that it has; and
-- the clauses of `close` say that these are the entries of its number in the history. The passes stand in the order of their numbers.
use Rattle.std.proofs.Common.{◌≡◌, ℕ, zero, suc, ◌+◌, ◌-◌, ◌<◌, ◌≤◌, ◌⊎◌, Bool, true, false, not, ◌||◌, Option, Some, None, List, [], ◌∷◌}
use Rattle.std.proofs.Common.{◌++◌}
use Rattle.std.proofs.Common.{length, map, get_or, All, inl, inr, refl, sym, ap, ◌∙◌, subst, arith}
use Rattle.std.proofs.lemmas.Bool.{cases_Bool, cases_lt, or_left, or_right, false≢true}
use Rattle.std.proofs.lemmas.List.Elements.{All-nil, All-cons, All-head, All-tail}
use Rattle.std.proofs.lemmas.Option.{get_or_from_slice_get, slice_get_within}
use Rattle.std.specs.List.{list_any}
use Rattle.fca_model.specs.Tables.{NamedContext}
use Rattle.fca_model.specs.Exploration.{SetEntry, own}
use Rattle.explore_state.specs.History.{Opening}
use Rattle.turn_lock.specs.Histories.{own_of}
use Rattle.turn_lock.specs.Passes.{PassModel, Badge, Lock, IsFresh, badge, badges, roll, TableId}
use Rattle.expert_gate.specs.Histories.{by_expert}
use Rattle.oracle_expert.specs.Oracles.{Recall, Answers, Learns, no_conflict, untold}
use Rattle.oracle_expert.specs.Runs.{IsOracleFront, ends_done, conflicts_of}
use Rattle.oracle_expert.proofs.RunLemmas.{IsOracles, oracle_runs}
use Rattle.expert_panel.specs.declared.seat.Seat.{Seat}
use Rattle.expert_panel.specs.declared.end.SeatEnd.{SeatEnd}
use Rattle.expert_panel.specs.declared.end.SeatEnd.TheVariants.{Done, Spent, Memory}
use Rattle.expert_gate.specs.Seats.{EachSeat}
use Rattle.expert_panel.specs.Seats.{HasRunSeat, IsEnd}
use Rattle.expert_panel.specs.Explorations.{IsOraclesShare, EachNumbered, ended_spent, is_out_of_memory}

-- ---- numbers

-- k numbers from n on
abbrev pub count_from : ℕ → ℕ → List ℕ
count_from n zero = []
count_from n (suc k) = n ∷ count_from (suc n) k

badges-numbers : (id : TableId) (base : Option Opening) (turns n k : ℕ)
    → map (λ (b : Badge Opening). b.number) (badges id base turns n k) ≡ count_from n k
badges-numbers id base turns n zero = refl
badges-numbers id base turns n (suc k) = ap (λ ns. n ∷ ns) (badges-numbers id base turns (suc n) k)

pub roll-numbers : (l : Lock Opening) (k : ℕ) → l.passes ≡ suc k → map (λ (b : Badge Opening). b.number) (roll l) ≡ count_from 1 (suc k)
roll-numbers l k e =
    let others : l.passes - 1 ≡ k = omega arith in
    ap (λ ns. 1 ∷ ns) (badges-numbers l.id (Some l.base) l.turns 2 (l.passes - 1) ∙ ap (count_from 2) others)

-- P holds of each, numbered from n on
abbrev pub EachFrom : {X : Type 0} → (ℕ → X → Type 0) → ℕ → List X → Type 0
EachFrom P n [] = Unit {0}
EachFrom P n (x ∷ xs) = P n x × EachFrom P (suc n) xs

each_at : {X : Type 0} (P : ℕ → X → Type 0) (n : ℕ) (xs : List X) → EachFrom P n xs → (k : ℕ) (d : X) → k < length xs
    → P (k + n) (get_or xs k d)
each_at P n [] each k d h = absurd (omega arith)
each_at P n (x ∷ xs) each zero d h = let e : n ≡ 0 + n = omega arith in subst (λ m. P m x) e each.0
each_at P n (x ∷ xs) each (suc k) d h = let e : k + suc n ≡ suc k + n = omega arith in
    subst (λ m. P m (get_or xs k d)) e (each_at P (suc n) xs each.1 k d (omega arith))

pub each_numbered : {X : Type 0} (P : ℕ → X → Type 0) (xs : List X) → EachFrom P 1 xs → EachNumbered P xs
each_numbered P xs each k x e = subst (P (k + 1)) (get_or_from_slice_get xs k x x e) (each_at P 1 xs each k x (slice_get_within xs k x e))

-- ---- one seat

-- the seat's share in the history; it is spent exactly where its last reply is not Done
pub record Tells (turns : ℕ) (H : List SetEntry) (n : ℕ) (seat : Seat Recall) : Type 0 where
  pub share : IsOraclesShare turns H n seat.expert
  pub spent : ended_spent seat.ended ≡ not (ends_done (own H n))

-- a seat of an oracle ran
abbrev pub Run : Opening → Seat Recall → Seat Recall → Type 0
Run o = HasRunSeat (λ (r : Recall). r.table.context.width) (λ (r : Recall). r) Answers Learns o

abbrev pub passes : List (Seat Recall) → List (PassModel Opening SetEntry)
passes seats = map (λ seat. seat.pass) seats

abbrev pub experts : List (Seat Recall) → List Recall
experts seats = map (λ seat. seat.expert) seats

module _ (o : Opening) (turns : ℕ) (H : List SetEntry) where
  ending : (end : SeatEnd) (p q : PassModel Opening SetEntry) (entries : List SetEntry) (ended : Option SeatEnd) → ended ≡ Some end
      → is_out_of_memory ended ≡ false → IsEnd end p entries q → p.made ≡ 0 → q.turns ≡ turns
      → ((ends_done entries ≡ true) ⊎ ((ends_done entries ≡ false) × (length entries ≡ turns))) × (ended_spent ended ≡ not (ends_done entries))
  ending Done p q entries ended e free end fresh all = (inl end.0, ap ended_spent e ∙ ap not (sym end.0))
  ending Spent p q entries ended e free end fresh all =
      let took = end.1 in
      let whole = end.2 in
      (inr (end.0, omega arith), ap ended_spent e ∙ ap not (sym end.0))
  ending Memory p q entries ended e free end fresh all = absurd (false≢true (sym free ∙ ap is_out_of_memory e))

  module _ (n : ℕ) (old new : Seat Recall) (run : Run o old new) (fresh : IsFresh old.pass)
      (free : old.expert.conflicts ≡ no_conflict old.expert.table) (number : new.pass.number ≡ n) where
    abbrev D : NamedContext
    D = old.expert.table

    abbrev entries : List SetEntry
    entries = run.attended.entries

    oracles : IsOracles D old.pass.number (record { due = None; conflicts = no_conflict D }) entries new.expert
    oracles = oracle_runs D old.pass.number None (no_conflict D) old.expert entries new.expert refl free run.attended.run

    pub table_stays : new.expert.table ≡ old.expert.table
    table_stays = oracles.table

    same_number : old.pass.number ≡ n
    same_number = sym (ap (λ (b : Badge Opening). b.number) run.attended.pass.same) ∙ number

    pub tells : new.pass.turns ≡ turns → own_of by_expert new.pass.number H ≡ new.pass.own → is_out_of_memory new.ended ≡ false
        → Tells turns H n new
    tells all owns unrefused =
        let own_is : own H n ≡ entries = ap (own H) (sym number) ∙ owns ∙ run.attended.pass.own ∙ ap (λ xs. xs ++ entries) fresh.1 in
        let end = ending run.end old.pass new.pass entries new.ended run.ended unrefused run.attended.end fresh.2 all in
        record {
          share = record {
            front = subst (λ K. IsOracleFront K n (own H n)) (sym oracles.table)
                (subst (λ k. IsOracleFront D k (own H n)) same_number (subst (IsOracleFront D old.pass.number) (sym own_is) oracles.run));
            conflicts = oracles.conflicts ∙ ap (conflicts_of D) (sym own_is) ∙ ap (λ K. conflicts_of K (own H n)) (sym oracles.table);
            end = subst (λ xs. (ends_done xs ≡ true) ⊎ ((ends_done xs ≡ false) × (length xs ≡ turns))) (sym own_is) end.0;
          };
          spent = end.1 ∙ ap (λ xs. not (ends_done xs)) (sym own_is);
        }

  -- ---- all seats

  pub tells_all : (n : ℕ) (olds news : List (Seat Recall)) → EachSeat (Run o) olds news → All IsFresh (passes olds)
      → All (λ (r : Recall). r.conflicts ≡ no_conflict r.table) (experts olds)
      → map (λ (b : Badge Opening). b.number) (map badge (passes news)) ≡ count_from n (length news)
      → All (λ (p : PassModel Opening SetEntry). p.turns ≡ turns) (passes news)
      → All (λ (p : PassModel Opening SetEntry). own_of by_expert p.number H ≡ p.own) (passes news)
      → list_any (λ seat. is_out_of_memory seat.ended) news ≡ false
      → EachFrom (Tells turns H) n news × (map (λ (r : Recall). r.table) (experts news) ≡ map (λ (r : Recall). r.table) (experts olds))
  tells_all n [] [] each fresh free numbers all owns unrefused = (tt, refl)
  tells_all n [] (new ∷ news) each fresh free numbers all owns unrefused = absurd each
  tells_all n (old ∷ olds) [] each fresh free numbers all owns unrefused = absurd each
  tells_all n (old ∷ olds) (new ∷ news) each fresh free numbers all owns unrefused =
      let Turns : PassModel Opening SetEntry → Type 0 = λ p. p.turns ≡ turns in
      let Owns : PassModel Opening SetEntry → Type 0 = λ p. own_of by_expert p.number H ≡ p.own in
      let Free : Recall → Type 0 = λ r. r.conflicts ≡ no_conflict r.table in
      let fresh_here = All-head IsFresh old.pass (passes olds) fresh in
      let free_here = All-head Free old.expert (experts olds) free in
      let number : new.pass.number ≡ n = cc in
      let numbers_on : map (λ (b : Badge Opening). b.number) (map badge (passes news)) ≡ count_from (suc n) (length news) = cc in
      let refused = or_none (is_out_of_memory new.ended) (list_any (λ seat. is_out_of_memory seat.ended) news) unrefused in
      let here = tells n old new each.0 fresh_here free_here number (All-head Turns new.pass (passes news) all)
      (All-head Owns new.pass (passes news) owns) refused.0 in
      let more = tells_all (suc n) olds news each.1 (All-tail IsFresh old.pass (passes olds) fresh)
      (All-tail Free old.expert (experts olds) free) numbers_on
      (All-tail Turns new.pass (passes news) all) (All-tail Owns new.pass (passes news) owns) refused.1 in (
        (here, more.0),
        ap (λ (D : NamedContext). D ∷ map (λ (r : Recall). r.table) (experts news))
            (table_stays n old new each.0 fresh_here free_here number) ∙ ap (λ (Ds : List NamedContext). old.expert.table ∷ Ds) more.1,
      )
    where
      or_none : (a b : Bool) → (a || b) ≡ false → (a ≡ false) × (b ≡ false)
      or_none true b h = cc
      or_none false b h = (refl, h)

  -- the oracles' shares
  pub shares : (n : ℕ) (seats : List (Seat Recall)) → EachFrom (Tells turns H) n seats → EachFrom (IsOraclesShare turns H) n (experts seats)
  shares n [] each = tt
  shares n (seat ∷ seats) each = (each.0.share, shares (suc n) seats each.1)

  -- a seat is spent exactly where one of the numbers was not answered Done last
  pub some_spent : (n : ℕ) (seats : List (Seat Recall)) → EachFrom (Tells turns H) n seats
      → list_any (λ seat. ended_spent seat.ended) seats ≡ true
      → (e : ℕ) × (n ≤ e) × (e < n + length seats) × (ends_done (own H e) ≡ false)
  some_spent n [] each h = absurd (false≢true h)
  some_spent n (seat ∷ seats) each h = elim (cases_Bool (ended_spent seat.ended)) [
    | inl t ↦ (n, omega arith, omega arith, not_back (ends_done (own H n)) (sym each.0.spent ∙ t))
    | inr f ↦
        let more = some_spent (suc n) seats each.1 (subst (λ b. (b || list_any (λ seat. ended_spent seat.ended) seats) ≡ true) f h) in
        let from = more.1 in
        let to = more.2 in
        (more.0, omega arith, omega arith, more.3)
  ]
    where
      not_back : (b : Bool) → not b ≡ true → b ≡ false
      not_back true h = cc
      not_back false h = refl

  pub spent_among : (n : ℕ) (seats : List (Seat Recall)) → EachFrom (Tells turns H) n seats → (e : ℕ) → n ≤ e → e < n + length seats
      → ends_done (own H e) ≡ false
      → list_any (λ seat. ended_spent seat.ended) seats ≡ true
  spent_among n [] each e from to h = absurd (omega arith)
  spent_among n (seat ∷ seats) each e from to h = elim (cases_lt n e) [
    | inr ge ↦
        let same : n ≡ e = omega arith in
        or_left (ended_spent seat.ended) (list_any (λ seat. ended_spent seat.ended) seats)
        (each.0.spent ∙ ap not (ap (λ k. ends_done (own H k)) same ∙ h))
    | inl lt ↦ or_right (ended_spent seat.ended) (list_any (λ seat. ended_spent seat.ended) seats)
        (spent_among (suc n) seats each.1 e (omega arith) (omega arith) h)
  ]

pub untold_free : (Ds : List NamedContext) → All (λ (r : Recall). r.conflicts ≡ no_conflict r.table) (map untold Ds)
untold_free [] = All-nil (λ (r : Recall). r.conflicts ≡ no_conflict r.table)
untold_free (D ∷ Ds) = All-cons (λ (r : Recall). r.conflicts ≡ no_conflict r.table) (untold D) (map untold Ds) refl (untold_free Ds)
