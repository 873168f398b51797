use Rattle.std.proofs.Common.{◌≡◌, ◌∙◌, ℕ, List, true, false, length, take, get_or, ap, eq-eqb, arith}
use Rattle.std.proofs.lemmas.Bool.{ne_eqb}
use Rattle.std.proofs.lemmas.List.{take_all}
use Rattle.csv_context.specs.Lines.{fields_in, is_comma}
use Rattle.csv_context.proofs.LineLemmas.{fields_in-more}
use Rattle.csv_context.proofs.lines.commas_in.Goals as goal
use Rattle.csv_context.proofs.lines.commas_in.Goals.{then-byte-eq44, else-byte-eq44}

pub loop-byte-preserved : goal.loop-byte-preserved
loop-byte-preserved c =
    let line : List ℕ = c.args.line.now in
    let i : ℕ = c.loop-byte.byte-index in
    let b : ℕ = get_or line i 0 in
    let few = c.loop-byte.invariant.few in
    let more = fields_in-more line i c.loop-byte.commas c.loop-byte-test.true c.loop-byte.invariant.count in
    record {
      count = elim c.if-byte-eq44.branch [
        | then-byte-eq44 w ↦
            let comma : is_comma b ≡ true = eq-eqb b 44 w.if-byte-eq44.true in
            let next = rw comma at more in
            rw w.commas-is next
        | else-byte-eq44 w ↦
            let other : is_comma b ≡ false = ne_eqb b 44 w.if-byte-eq44.false in
            let next = rw other at more in
            rw w.commas-is (omega (arith, next))
      ];
      few = elim c.if-byte-eq44.branch [
        | then-byte-eq44 w ↦ rw w.commas-is (omega (arith, few))
        | else-byte-eq44 w ↦ rw w.commas-is (omega (arith, few))
      ];
    }

pub returns : goal.returns
returns c =
    let line : List ℕ = c.args.line.now in
    let all : take c.loop-byte.byte-index line ≡ line = take_all c.loop-byte.byte-index line (omega (arith, c.loop-byte-test.false)) in
    c.loop-byte.invariant.count ∙ ap (λ (xs : List ℕ). length (fields_in xs)) all
