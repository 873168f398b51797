use Rattle.std.proofs.Common.{◌∙◌, ◌+◌, [], ap, sym, subst, take, eqb, eqb-true, not}
use Rattle.std.proofs.lemmas.List.Sums.{AllPass-from_list_all}
use Rattle.fca_model.specs.Sets.{Set, size}
use Rattle.pseudo_levels.specs.Search.{judged, IsSettled, Grows}
use Rattle.pseudo_levels.proofs.CandidateLemmas.{grows_trans}
use Rattle.pseudo_levels.proofs.ReachLemmas.{answer_at, none_from, settled_set, settled_member}
use Rattle.pseudo_levels.proofs.settling.settle_all.Goals as goal
use Rattle.pseudo_levels.proofs.settling.settle_all.Goals.{then-is_none+in_ok-settle, else-is_none}

pub loop-i-preserved : goal.loop-i-preserved
loop-i-preserved c =
    let found = c.args.found.now.members in
    let n = c.args.found.now.width in
    let Xs = c.args.sets.now in
    let i = c.loop-i.i in
    elim c.if-is_none.branch [
      | then-is_none+in_ok-settle w ↦
          let X = w.index-sets-i.result in
          let at_size = eqb-true (size X) c.args.k (ap (λ (Y : Set). eqb (size Y) c.args.k) w.index-sets-i.is
          ∙ AllPass-from_list_all (λ (Y : Set). eqb (size Y) c.args.k) Xs c.requires.sizes i X c.loop-i-test.true) in
          record {
            settled = λ K e a.
                let none = sym (answer_at (judged [] K found) Xs c.args.answers.now i X c.index-answers-i.result a c.loop-i-test.true
                w.index-sets-i.is c.index-answers-i.is)
                ∙ none_from c.index-answers-i.result (c.is_none.ensures ∙ ap not w.if-is_none.true) in
                subst (λ Zs. IsSettled [] K c.args.k found (take (i + 1) Xs) Zs) (sym w.candidates-is)
                (settled_set [] K c.args.k i found Xs c.loop-i.candidates w.settle.new.candidates X c.loop-i-test.true w.index-sets-i.is
                at_size (subst (λ m. Grows m c.loop-i.candidates w.settle.new.candidates) (sym e) w.settle.ensures.grows)
                (c.loop-i.invariant.settled K e a) (w.in_ok-settle.ensures.settled K e none));
            grows = subst (λ Zs. Grows n c.args.candidates.now Zs) (sym w.candidates-is)
                (grows_trans n c.args.candidates.now c.loop-i.candidates w.settle.new.candidates c.loop-i.invariant.grows
                w.settle.ensures.grows);
          }
      | else-is_none w ↦ record {
        settled = λ K e a. subst (λ Zs. IsSettled [] K c.args.k found (take (i + 1) Xs) Zs) (sym w.candidates-is)
            (settled_member [] K c.args.k i found Xs c.loop-i.candidates c.args.answers.now c.index-answers-i.result c.loop-i-test.true a
            c.index-answers-i.is
            (c.is_none.ensures ∙ ap not w.if-is_none.false) (c.loop-i.invariant.settled K e a));
        grows = subst (λ Zs. Grows n c.args.candidates.now Zs) (sym w.candidates-is) c.loop-i.invariant.grows;
      }
    ]
