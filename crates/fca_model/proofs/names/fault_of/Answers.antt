use Rattle.std.proofs.Common.{◌≡◌, true, false, length, refl, sym, ◌∙◌, ltb, eqb}
use Rattle.std.specs.List.{list_any}
use Rattle.fca_model.specs.Names.{is_line_break, name_fault}
use Rattle.fca_model.specs.declared.TheConstants.{MAX_NAME_BYTES}
use Rattle.fca_model.proofs.names.fault_of.Goals as goal

pub returns-then-is_empty : goal.returns-then-is_empty
unfolding name_fault
returns-then-is_empty c =
    let none : eqb (length c.args.bytes.now) 0 ≡ true = sym c.is_empty.ensures ∙ c.if-is_empty.true in
    rw none refl

pub returns-then-is_long : goal.returns-then-is_long
unfolding name_fault
returns-then-is_long c =
    let some : eqb (length c.args.bytes.now) 0 ≡ false = sym c.is_empty.ensures ∙ c.if-is_empty.false in
    let long : ltb MAX_NAME_BYTES (length c.args.bytes.now) ≡ true = sym c.is_long.ensures ∙ c.if-is_long.true in
    rw (some, long) refl

pub returns-then-has_line_break : goal.returns-then-has_line_break
unfolding name_fault
returns-then-has_line_break c =
    let some : eqb (length c.args.bytes.now) 0 ≡ false = sym c.is_empty.ensures ∙ c.if-is_empty.false in
    let short : ltb MAX_NAME_BYTES (length c.args.bytes.now) ≡ false = sym c.is_long.ensures ∙ c.if-is_long.false in
    let line : list_any is_line_break c.args.bytes.now ≡ true = sym c.has_line_break.ensures ∙ c.if-has_line_break.true in
    rw (some, short, line) refl

pub returns-else-has_line_break : goal.returns-else-has_line_break
unfolding name_fault
returns-else-has_line_break c =
    let some : eqb (length c.args.bytes.now) 0 ≡ false = sym c.is_empty.ensures ∙ c.if-is_empty.false in
    let short : ltb MAX_NAME_BYTES (length c.args.bytes.now) ≡ false = sym c.is_long.ensures ∙ c.if-is_long.false in
    let line : list_any is_line_break c.args.bytes.now ≡ false = sym c.has_line_break.ensures ∙ c.if-has_line_break.false in
    rw (some, short, line) refl
