use Rattle.std.proofs.Common.{◌≡◌, ◌∙◌, ◌<◌, ◌≤◌, ◌+◌, ◌++◌, ◌∷◌, [], ℕ, Bool, false, List, cond, drop, get_or-drop, length, length-drop}
use Rattle.std.proofs.Common.{length-set, set, take, sym, ap, refl, arith}
use Rattle.std.proofs.lemmas.List.{take_more}
use Rattle.fca_model.specs.Sets.{Set}
use Rattle.csv_context.specs.Written.{cells_text}
use Rattle.csv_context.proofs.WriteLemmas.{cells-more, cells_text-none}
use Rattle.csv_context.proofs.write.cells_of.Goals as goal
use Rattle.csv_context.proofs.write.cells_of.Goals.{then-has, else-has}

pub loop-j-init : goal.loop-j-init
loop-j-init c = record { cells = sym cells_text-none; few = omega arith; room = refl }

pub loop-j-preserved : goal.loop-j-preserved
loop-j-preserved c =
    let loop = c.loop-j in
    let from : ℕ = c.args.from in
    let row : Set = c.args.row.now in
    let part : Set = drop from row in
    let cross : Bool = c.has.result in
    let below : loop.j < length part = omega (arith, length-drop from row, c.requires.inside, c.loop-j-test.true) in
    let room : loop.size + 1 < length loop.cells =
    omega (arith, loop.invariant.few, loop.invariant.room, c.requires.few, c.loop-j-test.true) in
    let next : take (loop.j + 1) part ≡ take loop.j part ++ cross ∷ [] =
    take_more part loop.j false below ∙ ap (λ (m : Bool). take loop.j part ++ m ∷ [])
    (get_or-drop from row loop.j false ∙ sym c.has.ensures) in
    let sized : c.if-has.size ≡ cond cross 2 1 = elim c.if-has.branch [
      | then-has w ↦ w.size-is ∙ ap (λ (m : Bool). cond m 2 1) (sym w.if-has.true)
      | else-has w ↦ w.size-is ∙ ap (λ (m : Bool). cond m 2 1) (sym w.if-has.false)
    ] in
    let small : c.if-has.size ≤ 2 = elim c.if-has.branch [
      | then-has w ↦ omega (arith, w.size-is)
      | else-has w ↦ omega (arith, w.size-is)
    ] in
    let cells : List ℕ = set (set loop.cells loop.size 44) (loop.size + 1) 88 in
    record {
      cells =
          ap (λ (n : ℕ). take (loop.size + n) cells) sized
          ∙ cells-more (take loop.j part) loop.cells loop.size cross loop.invariant.cells room
          ∙ ap cells_text (sym next);
      few = omega (arith, small, loop.invariant.few);
      room = length-set (set loop.cells loop.size 44) (loop.size + 1) 88 ∙ length-set loop.cells loop.size 44 ∙ loop.invariant.room;
    }
