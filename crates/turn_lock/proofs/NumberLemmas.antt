-- Numbers: whose entries are in the history.
-- Where the history grows by entries of one pass, the own entries of all others stay as they were. A new pass has a number
-- that no entry is of yet, and what is kept of a pass that was joined away is what its view had.
use Rattle.std.proofs.Common.{◌≡◌, ◌≢◌, ℕ, ◌+◌, ◌<◌, List, [], ◌∷◌, ◌++◌, length, set, sym, refl, ap, ◌∙◌, subst, inl, inr, ⊎_elim, arith}
use Rattle.std.proofs.Common.{Some}
use Rattle.std.proofs.lemmas.List.{append-nil}
use mathlib.Core.Logic.{dite}
use mathlib.Core.Option.{some}
use native.Mathlib.Decide.{ℕ_discrete}
use lib.ListN.{get_elem?}
use Rattle.atomic_table.proofs.Lists.{set_here, set_else}
use Rattle.turn_lock.specs.declared.view.View.{View}
use Rattle.turn_lock.specs.declared.view.JoinedPass.{JoinedPass}
use Rattle.turn_lock.specs.Histories.{own_of}
use Rattle.turn_lock.specs.Turns.{First, Knows, Keeps, Numbers}
use Rattle.turn_lock.proofs.ViewLemmas.{inside, same_at, after, after_end, only}
use Rattle.turn_lock.proofs.HistoryLemmas.{own_of-others, among_append}

module _ {B E : Type 0} where
  -- the view of pass 1, after a view changes in its turn or its tickets
  pub First-kept : (passes : ℕ) (gone : List (JoinedPass E)) (histories : List (List E)) (vs : List (View B E)) (id : ℕ) (v w : View B E)
      → get_elem? vs id ≡ some v
      → w.number ≡ v.number → w.passes ≡ v.passes → w.joined ≡ v.joined → w.joined_seen ≡ v.joined_seen → First passes gone histories vs
      → First passes gone histories (set vs id w)
  First-kept passes gone histories vs id v w at n p j h f = dite (ℕ_discrete 0 id)
      (λ e. let is = same_at vs 0 id f.0 v f.1 at e in (
        w,
        subst (λ (i : ℕ). get_elem? (set vs id w) i ≡ some w) (sym e) (set_here vs id w (inside vs id v at)),
        n ∙ (sym (ap (λ (u : View B E). u.number) is) ∙ f.2),
        p ∙ (sym (ap (λ (u : View B E). u.passes) is) ∙ f.3),
        j ∙ (sym (ap (λ (u : View B E). u.joined) is) ∙ f.4),
        h ∙ (sym (ap (λ (u : View B E). u.joined_seen) is) ∙ f.5),
      ))
      (λ ne. (f.0, set_else vs id 0 w ne ∙ f.1, f.2, f.3, f.4, f.5))

module _ {B E : Type 0} (by : E → ℕ) where
  -- the history grows by entries of one pass
  pub Numbers-grown : (b : B) (turns passes : ℕ) (log es : List E) (gone : List (JoinedPass E)) (vs : List (View B E)) (id : ℕ) (v w : View B E)
      → get_elem? vs id ≡ some v → 0 < v.number
      → w.number ≡ v.number → w.base ≡ v.base → w.turns ≡ v.turns → 0 < w.stands → w.own ≡ own_of by v.number (log ++ es)
      → ((k : ℕ) → k ≢ v.number → own_of by k es ≡ [])
      → Numbers by b turns passes log gone vs → Numbers by b turns passes (log ++ es) gone (set vs id w)
  Numbers-grown b turns passes log es gone vs id v w at pos n bs ts st ow quiet r =
      let k = r.own id v at pos in
      let below = k.3 in
      let pos' : 0 < w.number = omega arith in
      record {
        own = after (λ i (u : View B E). 0 < u.number → Knows by b turns passes (log ++ es) u) vs id w
            (λ _. (bs ∙ k.0, ts ∙ k.1, st, omega arith, ow ∙ ap (λ (i : ℕ). own_of by i (log ++ es)) (sym n)))
            (λ j u other there pos_u. let q = r.own j u there pos_u in (
              q.0,
              q.1,
              q.2,
              q.3,
              q.4 ∙ sym (own_of-others by u.number log es
                  (quiet u.number (λ e. other (r.differ j id u v there at pos_u e)))),
            ));
        kept = λ left am. let q = r.kept left am in (
          q.0,
          q.1,
          q.2 ∙ sym (own_of-others by left.number log es (quiet left.number (λ e. q.3 id v at (sym e)))),
          after (λ i (u : View B E). u.number ≢ left.number) vs id w (λ e. q.3 id v at (sym n ∙ e)) (λ j u other there. q.3 j u there),
        );
        differ = λ i j u x ai aj pu e. after (λ i (u : View B E). 0 < u.number → u.number ≡ x.number → i ≡ j) vs id w
            (λ _ e. after (λ j (x : View B E). x.number ≡ v.number → id ≡ j) vs id w (λ _. refl)
            (λ j x o there e. r.differ id j v x at there pos (sym e)) j x aj (sym e ∙ n))
            (λ i u oi there pu e. after (λ j (x : View B E). u.number ≡ x.number → i ≡ j) vs id w
            (λ e. r.differ i id u v there at pu (e ∙ n))
            (λ j x oj there2 e. r.differ i j u x there there2 pu e) j x aj e) i u ai pu e;
        strange = λ i h. own_of-others by i log es (quiet i (λ e. ⊎_elim (λ z. absurd (omega arith)) (λ z. absurd (omega arith)) h))
            ∙ r.strange i h;
      }

  -- a view changes, and the history does not
  pub Numbers-kept : (b : B) (turns passes : ℕ) (log : List E) (gone : List (JoinedPass E)) (vs : List (View B E)) (id : ℕ) (v w : View B E)
      → get_elem? vs id ≡ some v → 0 < v.number
      → w.number ≡ v.number → w.base ≡ v.base → w.turns ≡ v.turns → 0 < w.stands → w.own ≡ v.own
      → Numbers by b turns passes log gone vs → Numbers by b turns passes log gone (set vs id w)
  Numbers-kept b turns passes log gone vs id v w at pos n bs ts st ow r =
      subst (λ (l : List E). Numbers by b turns passes l gone (set vs id w)) (append-nil log)
      (Numbers-grown b turns passes log [] gone vs id v w at pos n bs ts st
      (ow ∙ ((r.own id v at pos).4 ∙ ap (own_of by v.number) (sym (append-nil log)))) (λ k _. refl) r)

  -- one more pass is made
  pub Numbers-longer : (b : B) (turns passes : ℕ) (log : List E) (gone : List (JoinedPass E)) (vs : List (View B E)) (w : View B E)
      → w.number ≡ passes + 1 → w.base ≡ Some b → w.turns ≡ turns → 0 < w.stands → w.own ≡ []
      → Numbers by b turns passes log gone vs → Numbers by b turns (passes + 1) log gone (vs ++ w ∷ [])
  Numbers-longer b turns passes log gone vs w n bs ts st ow r = record {
    own = after_end (λ i (u : View B E). 0 < u.number → Knows by b turns (passes + 1) log u) vs w
        (λ _. (bs, ts, st, omega arith, ow ∙ sym (r.strange w.number (inr (omega arith)))))
        (λ j u there p. let q = r.own j u there p in let a = q.3 in (q.0, q.1, q.2, omega arith, q.4));
    kept = λ left am. let q = r.kept left am in let a = q.1 in (
      q.0,
      omega arith,
      q.2,
      after_end (λ i (u : View B E). u.number ≢ left.number) vs w (λ e. absurd (omega arith))
          (λ j u there. q.3 j u there),
    );
    differ = λ i j u x ai aj pu e. after_end (λ i (u : View B E). 0 < u.number → u.number ≡ x.number → i ≡ j) vs w
        (λ _ e. after_end (λ j (x : View B E). w.number ≡ x.number → length vs ≡ j) vs w (λ _. refl)
        (λ j x there e. let a = (r.own j x there (omega arith)).3 in absurd (omega arith)) j x aj e)
        (λ i u there pu e. after_end (λ j (x : View B E). u.number ≡ x.number → i ≡ j) vs w
        (λ e. let a = (r.own i u there pu).3 in absurd (omega arith))
        (λ j x there2 e. r.differ i j u x there there2 pu e) j x aj e) i u ai pu e;
    strange = λ n h. r.strange n (⊎_elim (λ z. inl z) (λ z. inr (omega arith)) h);
  }

  -- a pass is joined away
  pub Numbers-left : (b : B) (turns passes : ℕ) (log : List E) (gone : List (JoinedPass E)) (vs : List (View B E)) (id : ℕ) (w x : View B E)
      → get_elem? vs id ≡ some w → 0 < w.number → x.number ≡ 0
      → Numbers by b turns passes log gone vs → Numbers by b turns passes log (gone ++ record { number = w.number; own = w.own } ∷ [])
      (set vs id x)
  Numbers-left b turns passes log gone vs id w x at pos zero_x r =
      let k = r.own id w at pos in record {
        own = after (λ i (u : View B E). 0 < u.number → Knows by b turns passes log u) vs id x (λ p. absurd (omega arith))
            (λ j u o there p. r.own j u there p);
        kept = λ left am. ⊎_elim
            (λ old. let q = r.kept left old in let a = q.0 in (
              q.0,
              q.1,
              q.2,
              after (λ i (u : View B E). u.number ≢ left.number) vs id x (λ e. absurd (omega arith))
                  (λ j u o there. q.3 j u there),
            ))
            (λ new. ⊎_elim (λ e. subst (λ (left : JoinedPass E). Keeps by passes log (set vs id x) left) e (
              pos,
              k.3,
              k.4,
              after (λ i (u : View B E). u.number ≢ w.number) vs id x (λ e. absurd (omega arith))
                  (λ j u o there e. o (r.differ j id u w there at (omega arith) e)),
            )) (λ no. absurd no) new)
            (among_append gone (record { number = w.number; own = w.own } ∷ []) left am);
        differ = λ i j u y ai aj pu e. after (λ i (u : View B E). 0 < u.number → u.number ≡ y.number → i ≡ j) vs id x
            (λ p e. absurd (omega arith))
            (λ i u o there pu e. after (λ j (y : View B E). u.number ≡ y.number → i ≡ j) vs id x (λ e. absurd (omega arith))
            (λ j y o2 there2 e. r.differ i j u y there there2 pu e) j y aj e) i u ai pu e;
        strange = r.strange;
      }

  pub Numbers-first : (b : B) (turns : ℕ) (w : View B E) → w.number ≡ 1 → w.base ≡ Some b → w.turns ≡ turns → 0 < w.stands → w.own ≡ []
      → Numbers by b turns 1 [] [] (w ∷ [])
  Numbers-first b turns w one bs ts st ow = record {
    own = only (λ i (u : View B E). 0 < u.number → Knows by b turns 1 [] u) w (λ _. (bs, ts, st, omega arith, ow));
    kept = λ left am. absurd am;
    differ = λ i j u x ai aj. only (λ i (u : View B E). 0 < u.number → u.number ≡ x.number → i ≡ j) w
        (only (λ j (x : View B E). 0 < w.number → w.number ≡ x.number → 0 ≡ j) w (λ _ _. refl) j x aj) i u ai;
    strange = λ n h. refl;
  }
