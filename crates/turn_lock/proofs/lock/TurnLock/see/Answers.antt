use Rattle.std.proofs.Common.{◌∙◌, ap, sym, ◌+◌, ℕ, arith}
use Rattle.turn_lock.proofs.lock.TurnLock.see.Goals as goal

pub invariant_of-pass : goal.invariant_of-pass
invariant_of-pass g c =
    let i = c.pass.invariant in
    let p = c.see-seen.ensures in
    let least = i.4 in (
      p.idle,
      i.1 ∙ sym (ap (λ b. b.number) p.same),
      ap (λ (n : ℕ). n + 1) i.2 ∙ sym p.made,
      i.3 ∙ sym (ap (λ b. b.turns) p.same),
      omega (arith, c.if-pass.false),
    )

pub returns-clause-looked : goal.returns-clause-looked
returns-clause-looked g c =
    let based = ap (λ k. k.base) c.pass.view_is ∙ c.requires.lock.base in
    (rw (sym c.pass.view_is) (c.see-seen.ensures.looked c.args.self.now.base based), c.see-seen.ensures.shown c.args.self.now.base based)
