-- How a known file is read line by line. `after` puts the implications found so far before those to come. A skipped line changes only the
-- number, and each other line adds its implication or is the first fault. The line of an implication is read back as it.
use Rattle.std.proofs.Common.{◌≡◌, ℕ, ◌+◌, ◌&&◌, true, false, cond, List, [], ◌∷◌, ◌++◌, map, length, Result, Ok, Err, eq-eqb, refl, ap}
use Rattle.std.proofs.Common.{ap₂, sym, ◌∙◌, append_assoc, append-nil}
use Rattle.std.specs.Prelude.{codes}
use Rattle.fca_model.specs.Tables.{Text}
use Rattle.fca_model.specs.Implications.{Rule}
use Rattle.expert_wire.specs.Texts.{pattern, arrow_text, full_text}
use Rattle.text_pieces.specs.Words.{is_space, first_word, later_words}
use Rattle.expert_wire.specs.Patterns.{set_of_pattern}
use Rattle.text_pieces.specs.Lines.{lines}
use Rattle.expert_wire.specs.Lines.{is_skipped}
use Rattle.expert_wire.proofs.LineLemmas.{later_lines, numbered_lines-skipped, numbered_lines-kept}
use Rattle.text_pieces.proofs.WordLemmas.{before_first-at, after_first-at}
use Rattle.expert_wire.proofs.ReadLemmas.{pattern_no_space, set_of_pattern-pattern}
use Rattle.expert_scripts.specs.declared.known_fault.KnownFault.{KnownFault}
use Rattle.expert_scripts.specs.declared.known_fault.KnownFault.TheVariants.{BadWidth}
use Rattle.expert_scripts.specs.Known.{rule_of_width, known_rule, with_first, all_ok, known_from, known_form}

-- ---- what is still to come

-- the values found so far, before those to come
abbrev pub after : {X E : Type 0} → List X → Result (List X) E → Result (List X) E
after xs (Ok more) = Ok (xs ++ more)
after xs (Err fault) = Err fault

after-nil : {X E : Type 0} (r : Result (List X) E) → after [] r ≡ r
after-nil (Ok more) = refl
after-nil (Err fault) = refl

after-with_first : {X E : Type 0} (xs : List X) (x : X) (r : Result (List X) E) → after xs (with_first x r) ≡ after (xs ++ x ∷ []) r
after-with_first xs x (Ok more) = ap Ok (sym (append_assoc xs (x ∷ []) more))
after-with_first xs x (Err fault) = refl

pub known_form-from : (bytes : Text) (n : ℕ) → after [] (known_from n 1 (lines bytes)) ≡ known_form bytes n
unfolding known_form
known_form-from bytes n = after-nil (known_from n 1 (lines bytes))

pub known_from-skipped : (n k : ℕ) (x : Text) (ls : List Text) → is_skipped x ≡ true → known_from n k (x ∷ ls) ≡ known_from n (k + 1) ls
known_from-skipped n k x ls skip = ap (λ said. all_ok (map (λ l. known_rule n l.0 l.1) said)) (numbered_lines-skipped k x ls skip)

known_from-kept : (n k : ℕ) (x : Text) (ls : List Text) → is_skipped x ≡ false
    → known_from n k (x ∷ ls) ≡ all_ok (known_rule n k x ∷ map (λ l. known_rule n l.0 l.1) (later_lines k ls))
known_from-kept n k x ls kept = ap (λ said. all_ok (map (λ l. known_rule n l.0 l.1) said)) (numbered_lines-kept k x ls kept)

pub known_from-rule : (n k : ℕ) (x : Text) (ls : List Text) → is_skipped x ≡ false → (found : List Rule) (i : Rule)
    → known_rule n k x ≡ Ok i
    → after found (known_from n k (x ∷ ls)) ≡ after (found ++ i ∷ []) (known_from n (k + 1) ls)
known_from-rule n k x ls kept found i e =
    ap (after found) (known_from-kept n k x ls kept)
    ∙ ap (λ r. after found (all_ok (r ∷ map (λ l. known_rule n l.0 l.1) (later_lines k ls)))) e
    ∙ after-with_first found i (known_from n (k + 1) ls)

pub known_from-fault : (n k : ℕ) (x : Text) (ls : List Text) → is_skipped x ≡ false → (found : List Rule) (fault : KnownFault)
    → known_rule n k x ≡ Err fault
    → after found (known_from n k (x ∷ ls)) ≡ Err fault
known_from-fault n k x ls kept found fault e =
    ap (after found) (known_from-kept n k x ls kept)
    ∙ ap (λ r. after found (all_ok (r ∷ map (λ l. known_rule n l.0 l.1) (later_lines k ls)))) e

pub known_from-end : (n k : ℕ) (found : List Rule) → after found (known_from n k []) ≡ Ok found
known_from-end n k found = ap Ok (append-nil found)

-- ---- the line of an implication

pub full_text-read : (n k : ℕ) (attributes : List Text) (i : Rule) → length i.premise ≡ n → length i.conclusion ≡ n
    → known_rule n k (full_text attributes i) ≡ Ok i
full_text-read n k attributes i p c =
    let behind = pattern i.conclusion ++ (codes " " ++ arrow_text attributes i) in
    let first : first_word (full_text attributes i) ≡ pattern i.premise =
    before_first-at is_space (pattern i.premise) 32 behind (pattern_no_space i.premise) refl in
    let later : later_words (full_text attributes i) ≡ behind =
    after_first-at is_space (pattern i.premise) 32 behind (pattern_no_space i.premise) refl in
    let second : first_word behind ≡ pattern i.conclusion =
    before_first-at is_space (pattern i.conclusion) 32 (arrow_text attributes i) (pattern_no_space i.conclusion) refl in
    ap₂ (rule_of_width n k) (ap set_of_pattern first ∙ set_of_pattern-pattern i.premise)
    (ap set_of_pattern (ap first_word later ∙ second) ∙ set_of_pattern-pattern i.conclusion)
    ∙ ap₂ (λ a b. cond (a && b) (Ok i) (Err (BadWidth k))) (eq-eqb (length i.premise) n p) (eq-eqb (length i.conclusion) n c)
