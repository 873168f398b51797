use Rattle.std.proofs.Common.{◌∙◌, ap, sym, ◌+◌, ℕ, arith, rules}
use Rattle.turn_lock.proofs.lock.TurnLock.with_turn_by.Goals as goal
use Rattle.turn_lock.proofs.lock.TurnLock.with_turn_by.Goals.{in-Ok, in-Err}

pub invariant_of-pass : goal.invariant_of-pass
invariant_of-pass g c =
    let i = c.pass.invariant in
    let p = c.run_turn-reply.ensures in
    let least = i.4 in (
      p.idle,
      i.1 ∙ sym (ap (λ b. b.number) p.same),
      ap (λ (n : ℕ). n + 1) i.2 ∙ sym p.made,
      i.3 ∙ sym (ap (λ b. b.turns) p.same),
      omega (arith, c.if-pass.false),
    )

pub returns : goal.returns
returns g c = record {
  same = search rules;
  entry = search rules;
  memory = elim c.match-reply.branch [
    | in-Ok w ↦ λ h. cc (sym w.result-is ∙ h)
    | in-Err w ↦ λ h. rw (sym c.pass.view_is) (w.in-Err.ensures.memory c.args.self.now.base
        (ap (λ k. k.base) c.pass.view_is ∙ c.requires.lock.base))
  ];
  spent = search rules;
  unchanged = search rules;
  within = search rules;
}
