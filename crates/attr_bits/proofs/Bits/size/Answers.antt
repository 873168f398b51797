use Rattle.std.proofs.Common.{arith, add-one, ◌∙◌, ◌≡◌, ℕ, suc, List}
use Rattle.fca_model.specs.Sets.{size}
use Rattle.fca_model.proofs.SetLemmas.{size_le}
use Rattle.attr_bits.proofs.PlaceLemmas.{shown, width_is}
use Rattle.attr_bits.proofs.SizeLemmas.{ones_in_more, ones_in_mono, size_reached}
use Rattle.attr_bits.proofs.Bits.size.Goals as goal

pub overflow_add-members : goal.overflow_add-members
overflow_add-members g c =
    let k : ℕ = c.loop-k.k in
    let r : ℕ = c.words_reached-k-end.result in
    let a : List ℕ = c.self.inside.words in
    let w = shown c.self.invariant c.self.view_is in
    omega (
      arith,
      ones_in_more a k (omega (arith, c.self.invariant.count, c.words_reached-k-end.ensures.inside)),
      ones_in_mono (suc k) r a (omega arith),
      size_reached w r c.words_reached-k-end.ensures.inside (omega (arith, width_is w, c.words_reached-k-end.ensures.reached)),
      size_le c.args.self.now,
      width_is w,
    )

pub loop-k-preserved : goal.loop-k-preserved
loop-k-preserved g c = rw add-one (omega (
  arith,
  ones_in_more c.self.inside.words c.loop-k.k (omega (arith, c.self.invariant.count, c.words_reached-k-end.ensures.inside)),
))

pub returns : goal.returns
returns g c =
    let w = shown c.self.invariant c.self.view_is in
    let counted : c.loop-k.members ≡ size c.args.self.now =
    c.loop-k.invariant ∙ size_reached w c.loop-k.k (omega (arith, c.words_reached-k-end.ensures.inside))
    (omega (arith, width_is w, c.words_reached-k-end.ensures.reached)) in
    record { size = counted; at_most = omega (arith, size_le c.args.self.now) }
