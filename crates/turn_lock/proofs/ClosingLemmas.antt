-- What is left once all passes are joined.
-- The view of pass 1 stands for all passes then, so no other view has the turn, and the value is at home. Its history has the
-- entries that were kept of each pass, and goes on from what each has seen.
use Rattle.std.proofs.Common.{◌≡◌, ℕ, ◌+◌, ◌-◌, ◌<◌, ◌≤◌, ◌⊎◌, false, zero, suc, List, [], ◌∷◌, ◌++◌, length, get_or, take, drop, map, All}
use Rattle.std.proofs.Common.{sym, refl, ap, ◌∙◌, subst, inl, inr, ⊎_elim, arith}
use Rattle.std.proofs.Common.{Option, Some, Result, Ok, Err, IfOk}
use Rattle.std.proofs.lemmas.List.{length-map}
use mathlib.Core.Option.{some, some-injective}
use lib.ListN.{get_elem?}
use Rattle.atomic_table.specs.Seated.{TableId}
use Rattle.atomic_table.specs.Table.{State, Me, Final, Seen}
use Rattle.atomic_table.specs.declared.shared.Seat.{Seat}
use Rattle.turn_lock.specs.declared.view.View.{View}
use Rattle.turn_lock.specs.Histories.{StartsWith, IsOneOf, own_of}
use Rattle.turn_lock.specs.Turns.{Turned}
use Rattle.turn_lock.specs.Passes.{Lock, PassModel, badge, badges, roll, Belongs, ClosesWith}
use Rattle.turn_lock.specs.Seats.{pass_of, all_gathered}
use Rattle.turn_lock.proofs.StepLemmas.{closes}
use Rattle.turn_lock.proofs.HistoryLemmas.{All-among}
use Rattle.turn_lock.proofs.MakingLemmas.{length-badges, stays_one, has_joined, keeps_seen, has_seen}

module _ {X : Type 0} where
  heads : (x y : X) (xs ys : List X) → x ∷ xs ≡ y ∷ ys → x ≡ y
  heads x y xs ys e = ap (λ l. get_or l 0 x) e

  tails : (x y : X) (xs ys : List X) → x ∷ xs ≡ y ∷ ys → xs ≡ ys
  tails x y xs ys e = ap (drop 1) e

  -- what `remove(0)` takes and leaves
  front : (xs : List X) (x : X) → 0 < length xs → x ≡ get_or xs 0 x → x ∷ (take 0 xs ++ drop 1 xs) ≡ xs
  front [] x l e = absurd (omega arith)
  front (y ∷ xs) x l e = λ i. e i ∷ xs

pub if_ok_both : {T F : Type 0} (P P' Q : T → Type 0) (r : Result T F) → ((x : T) → P x → P' x → Q x) → IfOk r P → IfOk r P' → IfOk r Q
if_ok_both P P' Q (Ok x) f h h' = f x h h'
if_ok_both P P' Q (Err e) f h h' = tt

module _ {B E : Type 0} where
  -- each pass on the list has the lock, the base and the turns, and a number from n on
  on_list : (id : TableId) (b : Option B) (turns n k : ℕ) (ps : List (PassModel B E)) → map badge ps ≡ badges id b turns n k
      → All (λ p. (p.lock ≡ id) × (p.base ≡ b) × (p.turns ≡ turns) × (n ≤ p.number) × (p.number < n + k)) ps
  on_list id b turns n k [] e i d l = absurd (omega arith)
  on_list id b turns n zero (p ∷ ps) e i d l = let h = ap length e in absurd (omega arith)
  on_list id b turns n (suc k) (p ∷ ps) e zero d l =
      let h = heads (badge p) _ (map badge ps) (badges id b turns (suc n) k) e in
      let number : p.number ≡ n = ap (λ x. x.number) h in
      (ap (λ x. x.lock) h, ap (λ x. x.base) h, ap (λ x. x.turns) h, omega arith, omega arith)
  on_list id b turns n (suc k) (p ∷ ps) e (suc i) d l =
      let h = on_list id b turns (suc n) k ps (tails (badge p) _ (map badge ps) (badges id b turns (suc n) k) e) i d (omega arith) in
      let least = h.3 in
      let most = h.4 in
      (h.0, h.1, h.2, omega arith, omega arith)

  one_lock : (id : TableId) (b : Option B) (turns n k : ℕ) (ps : List (PassModel B E)) → map badge ps ≡ badges id b turns n k
      → All (λ p. p.lock ≡ id) ps
  one_lock id b turns n k ps e i d l = (on_list id b turns n k ps e i d l).0

  -- each pass on the roll belongs to the lock
  pub roll-belongs : (l : Lock B) (ps : List (PassModel B E)) → 0 < l.passes → map badge ps ≡ roll l → All (Belongs l) ps
  roll-belongs l [] some_passes e i d near = absurd (omega arith)
  roll-belongs l (p ∷ ps) some_passes e zero d near =
      let h = heads (badge p) _ (map badge ps) (badges l.id (Some l.base) l.turns 2 (l.passes - 1)) e in
      let number : p.number ≡ 1 = ap (λ x. x.number) h in
      record { lock = ap (λ x. x.lock) h; base = ap (λ x. x.base) h; turns = ap (λ x. x.turns) h; number = (omega arith, omega arith) }
  roll-belongs l (p ∷ ps) some_passes e (suc i) d near =
      let h = on_list l.id (Some l.base) l.turns 2 (l.passes - 1) ps
      (tails (badge p) _ (map badge ps) (badges l.id (Some l.base) l.turns 2 (l.passes - 1)) e) i d (omega arith) in
      let least = h.3 in
      let most = h.4 in
      record { lock = h.0; base = h.1; turns = h.2; number = (omega arith, omega arith) }

  -- there are as many passes on the roll as the lock was made with
  pub length-roll : (l : Lock B) (ps : List (PassModel B E)) → 1 ≤ l.passes → map badge ps ≡ roll l → length ps ≡ l.passes
  length-roll l ps some_passes e =
      let long = length-badges l.id (Some l.base) l.turns 2 (l.passes - 1) in
      let all : length (map badge ps) ≡ suc (length (badges l.id (Some l.base) l.turns 2 (l.passes - 1))) = ap length e in
      let same : length (map badge ps) ≡ length ps = length-map ps badge in
      omega arith

  has_first : (l : Lock B) (ps : List (PassModel B E)) → map badge ps ≡ roll l → 0 < length ps
  has_first l [] e = let h = ap length e in absurd (omega arith)
  has_first l (p ∷ ps) e = omega arith

module _ {V B E : Type 0} where
  -- pass 1, as it was taken off the list, and the rest are all
  pub whole : (l : Lock B) (all rest : List (PassModel B E)) (p : PassModel B E) (t : Seat V (View B E)) → map badge all ≡ roll l
      → p ≡ get_or all 0 p → rest ≡ take 0 all ++ drop 1 all → pass_of t ≡ p → pass_of t ∷ rest ≡ all
  whole l all rest p t passes first left is = ap (λ (p : PassModel B E). p ∷ rest) is
      ∙ (ap (λ ps. p ∷ ps) left ∙ front all p (has_first l all passes) first)

  -- the rest are of its lock
  pub rest_of_lock : (l : Lock B) (t : Seat V (View B E)) (rest all : List (PassModel B E)) → pass_of t ∷ rest ≡ all → map badge all ≡ roll l
      → All (λ p. p.lock ≡ t.table_id) rest
  rest_of_lock l t rest all these passes =
      let are = ap (map badge) these ∙ passes in
      let others = badges l.id (Some l.base) l.turns 2 (l.passes - 1) in
      let first = heads (badge (pass_of t)) _ (map badge rest) others are in
      subst (λ id. All (λ p. p.lock ≡ id) rest) (sym (ap (λ x. x.lock) first))
      (one_lock l.id (Some l.base) l.turns 2 (l.passes - 1) rest (tails (badge (pass_of t)) _ (map badge rest) others are))

module _ {V B E : Type 0} (base_of : V → B) (history_of : V → List E) (legal : B → List E → Type 0) (by : E → ℕ) where
  closing : (b : B) (turns id : ℕ) (l : Lock B) (t : Seat V (View B E)) (ps : List (PassModel B E)) (s : State V (View B E))
      → Turned base_of history_of legal by b turns s
      → get_elem? s.views id ≡ some (all_gathered t.me.0 ps) → t.me.0.mine ≡ false → t.me.0.stands ≡ 1 → map badge (pass_of t ∷ ps) ≡ roll l
      → 0 < l.passes
      → (value : V) × (s.homes ≡ some value ∷ []) × (base_of value ≡ b) × ClosesWith legal by b (history_of value) (pass_of t ∷ ps)
  closing b turns id l t ps s r at idle one are some_passes =
      let v : View B E = all_gathered t.me.0 ps in
      let stays = stays_one t.me.0 ps in
      let head = heads (badge (pass_of t)) _ (map badge ps) (badges l.id (Some l.base) l.turns 2 (l.passes - 1)) are in
      let is_one : t.me.0.number ≡ 1 = ap (λ x. x.number) head in
      let passes : t.me.0.passes ≡ l.passes = ap (λ x. x.passes) head in
      let long : length (map badge ps) ≡ length (badges l.id (Some l.base) l.turns 2 (l.passes - 1)) =
      ap length (tails (badge (pass_of t)) _ (map badge ps) (badges l.id (Some l.base) l.turns 2 (l.passes - 1)) are) in
      let long' : length ps ≡ l.passes - 1 = sym (length-map ps badge)
      ∙ (long ∙ length-badges l.id (Some l.base) l.turns 2 (l.passes - 1)) in
      let stands = stays.4 in
      let made = stays.2 in
      let q = closes base_of history_of legal by b turns id v s r at (stays.0 ∙ is_one) (omega arith) (stays.1 ∙ idle) in
      let log : List E = history_of q.0 in
      let sees : (h : List E) → ((v.seen ≡ h) ⊎ IsOneOf v.joined_seen h)
      → StartsWith log h = λ h has. ⊎_elim (λ e. subst (StartsWith log) e q.4) (λ m. q.5 h m) has in (
        q.0,
        q.1,
        q.2,
        record {
          is_legal = subst (λ b. legal b log) refl q.3;
          seen = All-among (λ p. StartsWith log p.seen) (pass_of t ∷ ps) (λ p am. ⊎_elim
              (λ e. sees p.seen (keeps_seen t.me.0 ps p.seen (inl (ap (λ (p : PassModel B E). p.seen) e))))
              (λ m. sees p.seen (has_seen t.me.0 ps p m)) am);
          own = All-among (λ p. own_of by p.number log ≡ p.own) (pass_of t ∷ ps) (λ p am. ⊎_elim
              (λ e. ap (λ (n : ℕ). own_of by n log) (sym (ap (λ (p : PassModel B E). p.number) e) ∙ is_one)
              ∙ (sym q.6 ∙ (stays.3 ∙ ap (λ (p : PassModel B E). p.own) e)))
              (λ m. sym (q.7 (record { number = p.number; own = p.own }) (has_joined t.me.0 ps p m))) am);
          others = λ n h. q.8 n (⊎_elim (λ z. inl z) (λ z. inr (omega arith)) h);
        },
      )

  -- the same of the value that is taken from the closed table, and of all passes
  pub settled : (b : B) (turns id : ℕ) (l : Lock B) (t : Seat V (View B E)) (ps all : List (PassModel B E)) (m : Me V (View B E)) (ws : List ℕ)
      (xs : List V) (taken : V)
      → Final (Seen (Turned base_of history_of legal by b turns) id m.0) ws xs → m ≡ (all_gathered t.me.0 ps, [])
      → get_elem? xs 0 ≡ some taken
      → t.me.0.mine ≡ false → t.me.0.stands ≡ 1 → pass_of t ∷ ps ≡ all → map badge all ≡ roll l → 0 < l.passes → b ≡ l.base
      → (base_of taken ≡ l.base) × ClosesWith legal by l.base (history_of taken) all
  settled b turns id l t ps all m ws xs taken final is there idle one these are some_passes based =
      let q = closing b turns id l t ps final.0 final.1.0 (final.1.1 ∙ ap (λ (z : Me V (View B E)). some z.0) is) idle one
      (ap (map badge) these ∙ are) some_passes in
      let at = final.4 0 q.0 (ap (λ h. get_elem? h 0) q.1) in
      let same : q.0 ≡ taken = some-injective q.0 taken (sym at ∙ there) in
      subst (λ (v : V). (base_of v ≡ l.base) × ClosesWith legal by l.base (history_of v) all) same
      (q.2 ∙ based, subst (λ (z : B × List (PassModel B E)). ClosesWith legal by z.0 (history_of q.0) z.1) (λ i. (based i, these i)) q.3)
