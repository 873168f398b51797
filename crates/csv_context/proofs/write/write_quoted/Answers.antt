use Rattle.std.proofs.Common.{◌∙◌, ◌++◌, ◌∷◌, [], ℕ, List, get_or, take, sym, ap, append_assoc}
use Rattle.std.proofs.lemmas.List.{take_all}
use Rattle.csv.proofs.WriteFacts.{quoted-step}
use Rattle.csv.specs.Writing.{default_writer, escaped}
use Rattle.csv_context.proofs.WriteLemmas.{escaped-none}
use Rattle.csv_context.proofs.write.write_quoted.Goals as goal

pub loop-byte-init : goal.loop-byte-init
loop-byte-init c = c.in_ok-push.ensures.items ∙ ap (λ (xs : List ℕ). c.args.text.now.items ++ 34 ∷ xs) (sym escaped-none)

pub loop-byte-preserved : goal.loop-byte-preserved
loop-byte-preserved c =
    let field : List ℕ = c.args.field.now in
    let old : List ℕ = c.args.text.now.items in
    let i : ℕ = c.loop-byte.byte-index in
    let byte : List ℕ = escaped default_writer (get_or field i 0 ∷ []) in
    c.in_ok-write_escaped.ensures
    ∙ ap (λ (text : List ℕ). text ++ byte) c.loop-byte.invariant
    ∙ append_assoc old (34 ∷ escaped default_writer (take i field)) byte
    ∙ ap (λ (text : List ℕ). old ++ text) (quoted-step default_writer 34 field i c.loop-byte-test.true)

pub returns : goal.returns
returns c =
    let field : List ℕ = c.args.field.now in
    let old : List ℕ = c.args.text.now.items in
    c.in_ok-push-2.ensures.items
    ∙ ap (λ (text : List ℕ). text ++ 34 ∷ []) (c.loop-byte.invariant
    ∙ ap (λ (bytes : List ℕ). old ++ 34 ∷ escaped default_writer bytes) (take_all c.loop-byte.byte-index field c.loop-byte-test.false))
    ∙ append_assoc old (34 ∷ escaped default_writer field) (34 ∷ [])
