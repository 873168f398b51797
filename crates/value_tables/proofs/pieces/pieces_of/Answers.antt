use Rattle.std.proofs.Common.{◌≡◌, ◌∙◌, ◌<◌, ◌+◌, ◌-◌, ◌++◌, ◌∷◌, [], ℕ, List, suc, length, length-set, take, get_or, subst, arith, eq-eqb}
use Rattle.std.proofs.lemmas.Bool.{ne_eqb}
use Rattle.std.proofs.lemmas.List.{length-take-le, take_all}
use Rattle.std.proofs.Math.Seq.{take-suc}
use Rattle.value_tables.proofs.PieceLemmas.{SoFar, SoFar-comma, SoFar-other, pieces-ended, pieces-sum}
use Rattle.value_tables.proofs.pieces.pieces_of.Goals as goal
use Rattle.value_tables.proofs.pieces.pieces_of.Goals.{then-byte-eq44, else-byte-eq44}

pub loop-byte-preserved : goal.loop-byte-preserved
loop-byte-preserved c =
    let loop = c.loop-byte in
    let line : List ℕ = c.args.line.now in
    let i : ℕ = loop.byte-index in
    let b : ℕ = get_or line i 0 in
    let below : i < length line = c.loop-byte-test.true in
    let size : length (take i line) ≡ i = length-take-le i line (omega (arith, below)) in
    let short : length (take i line) < 256 = omega (arith, size, below, c.requires) in
    let one : suc i ≡ i + 1 = omega arith in
    let P : ℕ → Type 0 = λ n. take n line ≡ take i line ++ b ∷ [] in
    let more : take (i + 1) line ≡ take i line ++ b ∷ [] = subst P one (take-suc line i 0 below) in
    record {
      so_far = elim c.if-byte-eq44.branch [
        | then-byte-eq44 w ↦
            rw (w.count-is, w.start-is, w.end-is, more)
            (SoFar-comma (take i line) loop.text loop.lengths loop.count loop.start loop.end loop.invariant.so_far short loop.invariant.room
            loop.invariant.places b (eq-eqb _ _ w.if-byte-eq44.true))
        | else-byte-eq44 w ↦
            rw (w.count-is, w.start-is, w.end-is, more)
            (SoFar-other (take i line) loop.text loop.lengths loop.count loop.start loop.end loop.invariant.so_far short loop.invariant.room
            loop.invariant.places b (ne_eqb b 44 w.if-byte-eq44.false))
      ];
      room = length-set loop.text loop.end b ∙ loop.invariant.room;
      places = length-set loop.lengths loop.count (loop.end - loop.start) ∙ loop.invariant.places;
    }

pub returns : goal.returns
returns c =
    let loop = c.loop-byte in
    let line : List ℕ = c.args.line.now in
    let P : List ℕ → Type 0 = λ xs. SoFar xs loop.text loop.lengths loop.count loop.start loop.end in
    let whole = subst P (take_all loop.byte-index line (omega (arith, c.loop-byte-test.false))) loop.invariant.so_far in
    let short : length line < 256 = omega (arith, c.requires) in
    record {
      fields = pieces-ended line loop.text loop.lengths loop.count loop.start loop.end whole short loop.invariant.room
          loop.invariant.places;
      whole = pieces-sum line loop.text loop.lengths loop.count loop.start loop.end whole short loop.invariant.room loop.invariant.places;
      within = omega (arith, whole.within, short);
      some = omega arith;
      few = omega (arith, whole.few, short);
    }
