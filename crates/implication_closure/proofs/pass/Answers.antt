use Rattle.std.proofs.Common.{◌≡◌, ◌≢◌, ℕ, ◌+◌, ◌<◌, List, length, set, take_all, sym, ap, ◌∙◌, subst, arith, get_or-set_same}
use Rattle.fca_model.specs.Sets.{Set, size}
use Rattle.fca_model.specs.Implications.{Rule}
use Rattle.attr_bits.specs.Difference.{minus}
use Rattle.implication_closure.specs.Closing.{IsPass}
use Rattle.implication_closure.proofs.ClosingLemmas.{IsSwept, pass_none, sweep_skips, sweep_counts, sweep_joins}
use Rattle.implication_closure.proofs.pass.Goals as goal
use Rattle.implication_closure.proofs.pass.Goals.{then-left-k-ne0+then-left-k-eq0, then-left-k-ne0+else-left-k-eq0, else-left-k-ne0}

swept_same : (left new : List ℕ) (J : List Rule) (A C D : Set) (k : ℕ) → new ≡ left → D ≡ C → IsSwept left J A k C → IsSwept new J A k D
swept_same left new J A C D k l d w = subst (λ X. IsSwept X J A k D) (sym l) (subst (λ X. IsSwept left J A k X) (sym d) w)

pub loop-k-init : goal.loop-k-init
loop-k-init g c = record { pass = pass_none c.args.x.now; fired = c.requires.fired; room = c.requires.room }

pub loop-k-preserved : goal.loop-k-preserved
loop-k-preserved g c =
    let J : List Rule = c.args.members.now in
    let A : Set = c.args.x.now in
    let C : Set = c.loop-k.closed in
    let k : ℕ = c.loop-k.k in
    let left : List ℕ = c.loop-k.left in
    let i : Rule = c.index-members-k.result in
    let inside : k < length left = omega (arith, c.loop-k-test.true, c.loop-k.invariant.room) in
    elim c.if-left-k-ne0.branch [
      | then-left-k-ne0+then-left-k-eq0 w ↦
          let v : ℕ = w.size.result in
          let counted : v ≡ size (minus i.premise C) = w.size.ensures.size ∙ ap size w.minus.ensures in
          let none : v ≡ 0 = sym (get_or-set_same left k v 0 inside) ∙ w.if-left-k-eq0.true in
          swept_same (set left k v) c.if-left-k-ne0.left J A w.join-closed.result c.if-left-k-ne0.closed (k + 1) w.left-is w.closed-is
          (sweep_joins left J A C k i c.loop-k-test.true c.index-members-k.is c.loop-k.invariant v w.join-closed.result c.requires.wide
          counted none w.join-closed.ensures)
      | then-left-k-ne0+else-left-k-eq0 w ↦
          let v : ℕ = w.size.result in
          let counted : v ≡ size (minus i.premise C) = w.size.ensures.size ∙ ap size w.minus.ensures in
          let some : v ≢ 0 = λ z. w.if-left-k-eq0.false (get_or-set_same left k v 0 inside ∙ z) in
          swept_same (set left k v) c.if-left-k-ne0.left J A C c.if-left-k-ne0.closed (k + 1) w.left-is w.closed-is
          (sweep_counts left J A C k i c.loop-k-test.true c.index-members-k.is c.loop-k.invariant v counted some)
      | else-left-k-ne0 w ↦
          swept_same left c.if-left-k-ne0.left J A C c.if-left-k-ne0.closed (k + 1) w.left-is w.closed-is
          (sweep_skips left J A C k i c.loop-k-test.true c.index-members-k.is c.loop-k.invariant w.if-left-k-ne0.false)
    ]

pub returns : goal.returns
returns g c = record {
  pass = subst (λ Zs. IsPass Zs c.args.x.now c.loop-k.closed)
      (take_all c.loop-k.k c.args.members.now c.loop-k-test.false) c.loop-k.invariant.pass;
  room = c.loop-k.auto.left;
  fired = c.loop-k.invariant.fired;
}
