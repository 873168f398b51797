-- No text within a line has a line break. `Skips` holds of a text whose lines are all skipped: before another text it changes only the
-- numbers of the lines.
use Rattle.std.proofs.Common.{◌≡◌, ℕ, zero, suc, ◌+◌, true, false, List, [], ◌∷◌, ◌++◌, Option, Some, None, refl, ap, ◌∙◌, append_assoc}
use Rattle.std.specs.Prelude.{codes, is_none}
use Rattle.std.specs.List.{list_any, list_all, flat_map}
use Rattle.std.proofs.lemmas.Bool.{false≢true, and_parts, and_from}
use Rattle.fca_model.specs.Sets.{Set}
use Rattle.fca_model.specs.Tables.{Text}
use Rattle.fca_model.specs.Names.{name_fault, is_line_break}
use Rattle.fca_model.specs.declared.names.NameFault.{NameFault}
use Rattle.fca_model.specs.Implications.{Rule}
use Rattle.fca_model.specs.Exploration.{SetReply}
use Rattle.fca_model.specs.declared.Reply.TheVariants.{Ask, Done, AllHeld, Accepted, Taken, Left, NotHeld, Misses, Keeps, Breaks, Refuted}
use Rattle.fca_model.specs.declared.Reply.TheVariants.{SupersededRow, SupersededBy}
use Rattle.attr_bits.specs.Difference.{minus}
use Rattle.text_pieces.specs.Lines.{lines}
pub use Rattle.text_pieces.proofs.LineLemmas.{no_break-append}
pub use Rattle.text_pieces.proofs.NumeralLemmas.{no_break-decimal}
use Rattle.text_pieces.proofs.LineLemmas.{lines-line, no_break-faultless}
use Rattle.expert_wire.specs.Texts.{line_end, ordinal, pattern, names_of, comma_tail, names_in_braces, braces_text, arrow_text, full_text}
use Rattle.expert_wire.specs.Replies.{attribute_text, numbered_row, numbered_rule, reply_text}
use Rattle.expert_wire.specs.Patterns.{is_name}
use Rattle.expert_wire.specs.Lines.{numbered_lines}
use Rattle.expert_wire.proofs.LineLemmas.{numbered_lines-skipped}
use Rattle.expert_wire.proofs.ReadLemmas.{pattern_no_break}

-- ---- texts without a line break

pub no_fault : (fault : Option NameFault) → is_none fault ≡ true → fault ≡ None
no_fault None h = refl
no_fault (Some fault) h = absurd (false≢true h)

pub no_break-name : (name : Text) → is_name name ≡ true → list_any is_line_break name ≡ false
no_break-name name h = no_break-faultless name (no_fault (name_fault name) h)

no_break-names_of : (attributes : List Text) (A : Set) → list_all is_name attributes ≡ true
    → list_all is_name (names_of attributes A) ≡ true
no_break-names_of [] A h = refl
no_break-names_of (name ∷ names) [] h = refl
no_break-names_of (name ∷ names) (true ∷ A) h = let parts = and_parts (is_name name) (list_all is_name names) h in
    and_from (is_name name) (list_all is_name (names_of names A)) parts.0 (no_break-names_of names A parts.1)
no_break-names_of (name ∷ names) (false ∷ A) h = no_break-names_of names A (and_parts (is_name name) (list_all is_name names) h).1

no_break-comma_tail : (names : List Text) → list_all is_name names ≡ true → list_any is_line_break (comma_tail names) ≡ false
no_break-comma_tail [] h = refl
no_break-comma_tail (name ∷ names) h =
    let parts = and_parts (is_name name) (list_all is_name names) h in
    no_break-append name (comma_tail names) (no_break-name name parts.0) (no_break-comma_tail names parts.1)

pub no_break-names_in_braces : (names : List Text) → list_all is_name names ≡ true → list_any is_line_break (names_in_braces names) ≡ false
no_break-names_in_braces [] h = refl
no_break-names_in_braces (name ∷ names) h =
    let parts = and_parts (is_name name) (list_all is_name names) h in
    no_break-append (name ++ comma_tail names) (codes "}")
    (no_break-append name (comma_tail names) (no_break-name name parts.0) (no_break-comma_tail names parts.1)) refl

pub no_break-arrow : (attributes : List Text) (i : Rule) → list_all is_name attributes ≡ true
    → list_any is_line_break (arrow_text attributes i) ≡ false
no_break-arrow attributes i h =
    no_break-append (braces_text attributes i.premise) (codes " -> " ++ braces_text attributes (minus i.conclusion i.premise))
    (no_break-names_in_braces (names_of attributes i.premise) (no_break-names_of attributes i.premise h))
    (no_break-names_in_braces (names_of attributes (minus i.conclusion i.premise))
    (no_break-names_of attributes (minus i.conclusion i.premise) h))

pub no_break-full : (attributes : List Text) (i : Rule) → list_all is_name attributes ≡ true
    → list_any is_line_break (full_text attributes i) ≡ false
no_break-full attributes i h =
    no_break-append (pattern i.premise) (codes " " ++ (pattern i.conclusion ++ (codes " " ++ arrow_text attributes i)))
    (pattern_no_break i.premise)
    (no_break-append (pattern i.conclusion) (codes " " ++ arrow_text attributes i) (pattern_no_break i.conclusion)
    (no_break-arrow attributes i h))

no_break-row : (place : ℕ) (r : Set) → list_any is_line_break (numbered_row place r) ≡ false
no_break-row place r = no_break-append (ordinal place) (codes " " ++ pattern r) (no_break-decimal (place + 1)) (pattern_no_break r)

pub no_break-rule : (attributes : List Text) (place : ℕ) (i : Rule) → list_all is_name attributes ≡ true
    → list_any is_line_break (numbered_rule attributes place i) ≡ false
no_break-rule attributes place i h =
    no_break-append (ordinal place) (codes " " ++ full_text attributes i) (no_break-decimal (place + 1)) (no_break-full attributes i h)

no_break-attribute : (attributes : List Text) (m : ℕ) → list_all is_name attributes ≡ true
    → list_any is_line_break (attribute_text attributes m) ≡ false
no_break-attribute [] m h = refl
no_break-attribute (name ∷ names) zero h = no_break-name name (and_parts (is_name name) (list_all is_name names) h).0
no_break-attribute (name ∷ names) (suc m) h = no_break-attribute names m (and_parts (is_name name) (list_all is_name names) h).1

pub no_break-reply : (attributes : List Text) (reply : SetReply) → list_all is_name attributes ≡ true
    → list_any is_line_break (reply_text attributes reply) ≡ false
no_break-reply attributes (Ask q) h = no_break-full attributes q h
no_break-reply attributes Done h = refl
no_break-reply attributes AllHeld h = refl
no_break-reply attributes (Accepted place) h = no_break-decimal (place + 1)
no_break-reply attributes (Taken place) h = no_break-decimal (place + 1)
no_break-reply attributes Left h = refl
no_break-reply attributes NotHeld h = refl
no_break-reply attributes (Misses m) h =
    no_break-append (ordinal m) (codes " " ++ attribute_text attributes m) (no_break-decimal (m + 1)) (no_break-attribute attributes m h)
no_break-reply attributes Keeps h = refl
no_break-reply attributes (Breaks place i) h = no_break-rule attributes place i h
no_break-reply attributes (Refuted place r) h = no_break-row place r
no_break-reply attributes (SupersededRow place r) h = no_break-row place r
no_break-reply attributes (SupersededBy place i) h = no_break-rule attributes place i h

-- ---- skipped lines

abbrev pub Skips : Text → Type 0
Skips text = (k : ℕ) (rest : Text) → (m : ℕ) × (numbered_lines k (lines (text ++ rest)) ≡ numbered_lines m (lines rest))

pub Skips-nil : Skips []
Skips-nil k rest = (k, refl)

pub Skips-append : (a b : Text) → Skips a → Skips b → Skips (a ++ b)
Skips-append a b f g k rest =
    let x = f k (b ++ rest) in
    let y = g x.0 rest in
    (y.0, ap (λ t. numbered_lines k (lines t)) (append_assoc a b rest) ∙ x.1 ∙ y.1)

pub Skips-comment : (body : Text) → list_any is_line_break body ≡ false → Skips (codes "# " ++ (body ++ line_end))
Skips-comment body h k rest =
    let line = codes "# " ++ body in (
      k + 1,
      ap (λ t. numbered_lines k (lines (codes "# " ++ t))) (append_assoc body line_end rest)
          ∙ ap (numbered_lines k) (lines-line line rest h)
          ∙ numbered_lines-skipped k line (lines rest) refl,
    )

pub Skips-flat_map : {X : Type 0} (f : X → Text) (xs : List X) → ((x : X) → Skips (f x)) → Skips (flat_map f xs)
Skips-flat_map f [] h = Skips-nil
Skips-flat_map f (x ∷ xs) h = Skips-append (f x) (flat_map f xs) (h x) (Skips-flat_map f xs h)
