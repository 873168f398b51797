use Rattle.std.proofs.Common.{◌≡◌, ◌∙◌, ◌++◌, ◌∷◌, [], List, map, arith}
use Rattle.fca_model.specs.Sets.{Set}
use Rattle.pseudo_levels.proofs.BySizeLemmas.{more_lists, more_by_size, more_same}
use Rattle.pseudo_levels.proofs.candidates.make_room.Goals as goal

pub loop-preserved : goal.loop-preserved
loop-preserved c =
    let before = c.loop.invariant in
    let Bs : List (List Set) = map (λ sets. sets.keys) c.loop.by_size.items in
    let Cs : List (List Set) = map (λ sets. sets.keys) c.push.new.self.items in
    let more : Cs ≡ Bs ++ [] ∷ [] = more_lists (λ sets. sets.keys) c.loop.by_size.items c.push.new.self.items c.new.result
    c.in_ok-push.ensures.items c.new.ensures.empty in
    record {
      room = omega (arith, before.room, c.in_ok-push.ensures.len);
      by_size = λ by. more_by_size Bs Cs more (before.by_size by);
      same = more_same Bs Cs more ∙ before.same;
    }
