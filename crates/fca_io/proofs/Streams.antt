-- What a loop of reads, or of writes, has done so far to a stream that may tell what it holds. One more read or write joins
-- on behind what was moved before, and counts that one call leaves as they were are left so by many.
use Rattle.std.proofs.Common.{◌≡◌, ◌≤◌, ◌<◌, ◌+◌, ◌-◌, ◌++◌, ℕ, List, [], length, take, drop, sym, ap, ◌∙◌, append_assoc, take-append-drop}
use Rattle.std.proofs.Common.{length-append, length-take, length-drop, ◌≢◌, subst, refl, arith}
use Rattle.std.proofs.lemmas.List.{take_all}
use Rattle.std.proofs.lemmas.Bool.{ne_eqb, eq-eqb}
use Rattle.std.specs.Prelude.{cond, ◌==◌, Option, Result, Err, IsErrAnd}
use Rattle.std.specs.Option.{option_map}
use Rattle.std.specs.Io.KnownBytes.{Keeps}
use Rattle.fca_io.specs.Faults.{one_more}
use Rattle.fca_io.specs.declared.outside.Taken.{Taken}
use Rattle.fca_io.specs.declared.outside.Taken.TheVariants.{Long, Memory}

-- what stands beside a stream, and both counts, after some calls that succeeded
pub record Settled {A : Type 0} (faults faults' : ℕ) (other other' : Option (List ℕ)) (aside aside' : A) : Type 0 where
  pub quiet : faults' ≡ faults
  pub beside : Keeps other other'
  pub same_beside : aside' ≡ aside

-- a text is what was moved of it, then the first bytes of the rest, and then the rest of the rest
pub split-front : (text front rest : List ℕ) (count total : ℕ) → text ≡ front ++ rest → total ≡ length rest → count ≤ length rest
    → text ≡ (front ++ take count rest) ++ take (total - count) (drop count rest)
split-front text front rest count total whole all fits =
    let enough : length (drop count rest) ≤ total - count = rw length-drop (omega arith) in
    whole ∙ ap (λ l. front ++ l) (sym (take-append-drop count rest)) ∙ sym (append_assoc front (take count rest) (drop count rest))
    ∙ ap (λ l. (front ++ take count rest) ++ l) (sym (take_all (total - count) (drop count rest) enough))

-- a text with a byte in its rest is not empty
pub not-empty : {A : Type 0} (text front rest : List ℕ) → text ≡ front ++ rest → 0 < length rest → text ≡ [] → A
not-empty text front rest whole some none =
    let short : length (front ++ rest) ≡ 0 = ap length (sym whole ∙ none) in
    let parts : length (front ++ rest) ≡ length front + length rest = length-append front rest in
    absurd (omega arith)

pub length-joined : (items moved : List ℕ) (len count : ℕ) → len ≡ length items → count ≡ length moved
    → length (items ++ moved) ≡ len + count
length-joined items moved len count all some = length-append items moved ∙ cc

-- a write that left a rest was not taken whole
pub part-uncounted : (rest : List ℕ) (count total : ℕ) (before after : Option ℕ) → 0 < length (take (total - count) (drop count rest))
    → after ≡ cond (count == length rest) (option_map one_more before) before → after ≡ before
part-uncounted rest count total before after more counted =
    let some : count ≢ length rest = λ all. absurd
    (omega (arith, all, more, length-take (total - count) (drop count rest), length-drop count rest)) in
    counted ∙ rw (ne_eqb count (length rest) some) refl

-- a write that left none was
pub whole-counted : (rest : List ℕ) (count total : ℕ) (before after : Option ℕ) → total ≡ length rest → count ≤ length rest
    → take (total - count) (drop count rest) ≡ []
    → after ≡ cond (count == length rest) (option_map one_more before) before → after ≡ option_map one_more before
whole-counted rest count total before after long fits none counted =
    let parts = length-take (total - count) (drop count rest) in
    let all : count ≡ length rest = omega (arith, long, fits, parts, length-drop count rest, ap (λ (l : List ℕ). length l) none) in
    counted ∙ rw (eq-eqb count (length rest) all) refl

-- want of memory is not that there was too much
pub memory-not-long : {T : Type 0} (r : Result T Taken) → IsErrAnd r (λ t. t ≡ Memory) → r ≡ Err Long → ⊥
memory-not-long {T} r memory long = let P : Result T Taken → Type 0 = λ x. IsErrAnd x (λ t. t ≡ Memory) in
    let same : Long ≡ Memory = subst P long memory in cc
