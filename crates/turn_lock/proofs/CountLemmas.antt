-- Counts: how many tickets were drawn, and how many can be.
-- Each view has drawn at most as many as the passes that it stands for may make, and all together stand for at most 64
-- passes. So word 0 stays below 2^54, and never wraps.
use Rattle.std.proofs.Common.{◌≡◌, ◌≢◌, ℕ, ◌+◌, ◌*◌, ◌^◌, ◌<◌, ◌≤◌, List, [], ◌∷◌, ◌++◌, set, arith, mul-add, mul-le-mul_left}
use mathlib.Core.Option.{some}
use lib.ListN.{get_elem?}
use Rattle.fca_model.specs.declared.TheConstants.{MAX_TURNS}
use Rattle.turn_lock.specs.declared.view.View.{View}
use Rattle.turn_lock.specs.Histories.{total}
use Rattle.turn_lock.specs.Turns.{Counts}
use Rattle.turn_lock.proofs.ViewLemmas.{after, after_end, only, total-set, total-push, total_below}

module _ {B E : Type 0} where
  pub few_drawn : (turns passes drawn : ℕ) (vs : List (View B E)) → Counts turns passes drawn vs → drawn ≤ 2 ^ 54
  few_drawn turns passes drawn vs r =
      let all = total_below (λ (v : View B E). v.drawn) (λ v. v.stands) turns vs r.most in
      let stand = r.stand in
      let few = r.few.0 in
      let most : turns * total (λ (v : View B E). v.stands) vs ≤ turns * 64 = mul-le-mul_left turns (omega arith) in
      let sum = r.sum in
      let short = r.few.1 in
      omega arith

  -- a view draws k tickets
  pub Counts-set : (turns passes drawn drawn' k : ℕ) (vs : List (View B E)) (id : ℕ) (v w : View B E) → get_elem? vs id ≡ some v
      → drawn' ≡ drawn + k → w.drawn ≡ v.drawn + k → w.stands ≡ v.stands → v.drawn + k ≤ turns * v.stands
      → Counts turns passes drawn vs → Counts turns passes drawn' (set vs id w)
  Counts-set turns passes drawn drawn' k vs id v w at more new same room r =
      let drew = total-set (λ (v : View B E). v.drawn) vs id v w at in
      let stood = total-set (λ (v : View B E). v.stands) vs id v w at in
      let sum = r.sum in
      let stand = r.stand in record {
        sum = omega arith;
        most = after (λ i (u : View B E). u.drawn ≤ turns * u.stands) vs id w (rw (new, same) room) (λ j u other there. r.most j u there);
        stand = omega arith;
        few = r.few;
      }

  -- one more pass is made
  pub Counts-longer : (turns passes drawn : ℕ) (vs : List (View B E)) (w : View B E) → w.drawn ≡ 0 → w.stands ≡ 1 → passes < 64
      → Counts turns passes drawn vs → Counts turns (passes + 1) drawn (vs ++ w ∷ [])
  Counts-longer turns passes drawn vs w none one few r =
      let drew = total-push (λ (v : View B E). v.drawn) vs w in
      let stood = total-push (λ (v : View B E). v.stands) vs w in
      let sum = r.sum in
      let stand = r.stand in record {
        sum = omega arith;
        most = after_end (λ i (u : View B E). u.drawn ≤ turns * u.stands) vs w (rw none (omega arith)) (λ j u there. r.most j u there);
        stand = omega arith;
        few = (omega arith, r.few.1);
      }

  -- one view takes in what another has drawn and stands for
  pub Counts-joined : (turns passes drawn : ℕ) (vs : List (View B E)) (id : ℕ) (v v' : View B E) (other : ℕ) (w x : View B E) → other ≢ id
      → get_elem? vs id ≡ some v → get_elem? vs other ≡ some w → get_elem? (set vs id v') other ≡ some w
      → v'.drawn ≡ v.drawn + w.drawn → v'.stands ≡ v.stands + w.stands → x.drawn ≡ 0 → x.stands ≡ 0
      → Counts turns passes drawn vs → Counts turns passes drawn (set (set vs id v') other x)
  Counts-joined turns passes drawn vs id v v' other w x ne at at_w there_w drawn_v stands_v drawn_x stands_x r =
      let drew = total-set (λ (v : View B E). v.drawn) vs id v v' at in
      let stood = total-set (λ (v : View B E). v.stands) vs id v v' at in
      let drew' = total-set (λ (v : View B E). v.drawn) (set vs id v') other w x there_w in
      let stood' = total-set (λ (v : View B E). v.stands) (set vs id v') other w x there_w in
      let sum = r.sum in
      let stand = r.stand in
      let most_v = r.most id v at in
      let most_w = r.most other w at_w in record {
        sum = omega arith;
        most = after (λ i (u : View B E). u.drawn ≤ turns * u.stands) (set vs id v') other x (rw drawn_x (omega arith))
            (λ j u o there. after (λ j (u : View B E). u.drawn ≤ turns * u.stands) vs id v'
            (rw (drawn_v, stands_v) (omega (arith, mul-add turns v.stands w.stands))) (λ j u o2 there. r.most j u there) j u there);
        stand = omega arith;
        few = r.few;
      }

  pub Counts-first : (turns : ℕ) (w : View B E) → w.drawn ≡ 0 → w.stands ≡ 1 → turns ≤ MAX_TURNS → Counts turns 1 0 (w ∷ [])
  Counts-first turns w none one few = record {
    sum = omega arith;
    most = only (λ i (u : View B E). u.drawn ≤ turns * u.stands) w (rw none (omega arith));
    stand = omega arith;
    few = (omega arith, few);
  }
