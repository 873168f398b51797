use Rattle.std.proofs.Common.{◌≡◌, ◌∙◌, ◌==◌, cond, sym, ap, map}
use Rattle.std.proofs.lemmas.List.{length-map}
use Rattle.text_pieces.specs.Marks.{is_cross}
use Rattle.expert_wire.specs.declared.requests.RequestFault.TheVariants.{Width, Memory}
use Rattle.expert_wire.proofs.WordLemmas.{is_name-faultless, unnamed_row, unnamed_only_row}
use Rattle.expert_wire.proofs.words.read_row.Goals as goal

pub returns-in-Err-Memory-clause-refused : goal.returns-in-Err-Memory-clause-refused
returns-in-Err-Memory-clause-refused c =
    let told = c.in-Err-Memory.ensures in
    unnamed_row c.args.n c.args.text.now c.as_bytes.result.now c.split_word.result.1.now (map is_cross c.in-Some.marks.now)
    (c.as_bytes.ensures.value ∙ c.split_word.ensures.first) c.split_word.ensures.later c.in-Some.ensures
    (is_name-faultless c.split_word.result.1.now (λ e. let x = told.empty.1 e in cc) (λ e. let x = told.long.1 e in cc)
    (λ e. let x = told.line.1 e in cc))
    c.fault_without_memory.result (c.fault_without_memory.ensures
    ∙ ap (λ k. cond (k == c.args.n) Memory Width) (sym (length-map c.in-Some.marks.now is_cross)))

pub returns-in-Err-Memory-clause-memory : goal.returns-in-Err-Memory-clause-memory
returns-in-Err-Memory-clause-memory c is =
    let told = c.in-Err-Memory.ensures in
    let none : c.fault_without_memory.result ≡ Memory = cc is in
    unnamed_only_row c.args.n c.args.text.now c.as_bytes.result.now c.split_word.result.1.now (map is_cross c.in-Some.marks.now)
    (c.as_bytes.ensures.value ∙ c.split_word.ensures.first) c.split_word.ensures.later c.in-Some.ensures
    (is_name-faultless c.split_word.result.1.now (λ e. let x = told.empty.1 e in cc) (λ e. let x = told.long.1 e in cc)
    (λ e. let x = told.line.1 e in cc))
    c.fault_without_memory.result (c.fault_without_memory.ensures
    ∙ ap (λ k. cond (k == c.args.n) Memory Width) (sym (length-map c.in-Some.marks.now is_cross))) none
