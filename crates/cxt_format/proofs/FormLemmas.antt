-- One turn of a loop that parses one thing after the other, and the byte order mark.
use Rattle.std.proofs.Common.{◌≡◌, ◌≢◌, ◌∙◌, ◌<◌, ◌+◌, ◌-◌, ◌==◌, ◌&&◌, ◌++◌, ◌∷◌, [], ℕ, suc, List, Option, Some, None, Ok, Err, Result}
use Rattle.std.proofs.Common.{IsErr, IsErrAnd, ◌⊎◌, bytes_eq, cond, MatchOption, Bor, length, drop, refl, sym, ap, inl, inr, arith}
use Rattle.std.proofs.lemmas.Bool.{cases_Bool, eqb-true, and_parts}
use Rattle.std.specs.Option.{unwrap_or}
use Rattle.std.specs.Str.Pattern.{FindsCharPrefix}
use Rattle.std.specs.List.{list_any}
use Rattle.fca_model.specs.Tables.{Text}
use Rattle.text_pieces.specs.RemainingLines.{RemainingLines}
use Rattle.text_pieces.specs.Lines.{Line}
use Rattle.cxt_format.specs.LineForms.{name_form, new_name, attribute_form}
use Rattle.text_pieces.specs.Telling.{then}
use Rattle.cxt_format.specs.Form.{Parsed, Parses, more, next, next_of, without_bom}
use Rattle.cxt_format.specs.declared.CxtFault.{CxtFault}
use Rattle.cxt_format.specs.declared.CxtFault.TheVariants as fault
use lib.Utf8.{encode}

module _ {X : Type 0} (parse : List X → RemainingLines → Parsed X) (xs : List X) (n i : ℕ) (left : RemainingLines) where
  pub more-Ok : (x : X) (rest : RemainingLines) → i < n → parse xs left ≡ Ok (x, rest)
      → more parse xs (n - i) left ≡ more parse (xs ++ x ∷ []) (n - (i + 1)) rest
  more-Ok x rest below is =
      let one : n - i ≡ suc (n - (i + 1)) = omega arith in
      rw (one, is) refl

  pub more-Err : (e : CxtFault) → i < n → parse xs left ≡ Err e → more parse xs (n - i) left ≡ Err e
  more-Err e below is =
      let one : n - i ≡ suc (n - (i + 1)) = omega arith in
      rw (one, is) refl

-- what is made of a name that was parsed: a fault if it stands among those seen
abbrev pub looked_up : List Text → ℕ → Text × RemainingLines → Parsed Text
looked_up seen k p = cond (list_any (bytes_eq p.0) seen) (Err (fault.DuplicateAttribute k)) (Ok p)

attribute-then : (seen : List Text) (k : ℕ) (rest : RemainingLines) (told : Result Text CxtFault)
    → then {Y = Text × RemainingLines} (new_name seen k told) (λ x. Ok (x, rest)) ≡ then {X = Text × RemainingLines}
    (then {Y = Text × RemainingLines} told (λ x. Ok (x, rest))) (looked_up seen k)
attribute-then seen k rest (Err e) = refl
attribute-then seen k rest (Ok name) = elim (cases_Bool (list_any (bytes_eq name) seen)) [
  | inl is ↦ rw is refl
  | inr isnt ↦ rw isnt refl
]

attribute-next_of : (seen : List Text) (k : ℕ) (lines : List Line)
    → next_of (attribute_form seen) k lines ≡ then (next_of name_form k lines) (looked_up seen k)
attribute-next_of seen k [] = refl
attribute-next_of seen k (line ∷ lines) = attribute-then seen k (record { number = k + 1; lines = lines }) (name_form k line)

-- the name of an attribute is a name, which is then looked up among those before
pub next-attribute_form : (seen : List Text) (left : RemainingLines)
    → next (attribute_form seen) left ≡ then (next name_form left) (looked_up seen left.number)
next-attribute_form seen left = attribute-next_of seen left.number left.lines

without_bom-other : (s : List ℕ) → ((rest : List ℕ) → s ≢ 239 ∷ 187 ∷ 191 ∷ rest) → without_bom s ≡ s
without_bom-other [] h = refl
without_bom-other (a ∷ []) h = refl
without_bom-other (a ∷ b ∷ []) h = refl
without_bom-other (a ∷ b ∷ c ∷ s) h = elim (cases_Bool ((a == 239) && (b == 187) && (c == 191))) [
  | inl is ↦
      let both = and_parts ((a == 239) && (b == 187)) (c == 191) is in
      let first = and_parts (a == 239) (b == 187) both.0 in
      absurd (h s (λ i. eqb-true a 239 first.0 i ∷ eqb-true b 187 first.1 i ∷ eqb-true c 191 both.1 i ∷ s))
  | inr isnt ↦ rw isnt refl
]

-- what is left after the mark was looked for at the front, and taken off if it was found
pub without_bom-stripped : (text : Bor (List ℕ)) (r : Option (Bor (List ℕ)))
    → MatchOption r (FindsCharPrefix 65279 text.now None)
    (λ x. (n : ℕ) × FindsCharPrefix 65279 text.now (Some n) × (x.now ≡ drop n text.now) × (length x.now + n ≡ length text.now))
    → (unwrap_or r text).now ≡ without_bom text.now
unfolding encode
without_bom-stripped text None h = sym (without_bom-other text.now h)
without_bom-stripped text (Some x) h =
    let marked : text.now ≡ 239 ∷ 187 ∷ 191 ∷ x.now = h.1.split ∙ ap (λ rest. 239 ∷ 187 ∷ 191 ∷ rest) (sym h.2) in
    rw marked refl

-- a fault that is passed on as it is
pub Parses-passed : {X Y : Type 0} (view : X → Y) (told : Result X CxtFault) (form : Parsed Y) (left : RemainingLines) (e : CxtFault)
    → IsErr told × IsErrAnd told (λ passed. passed ≡ e) → (e ≡ fault.Memory) ⊎ (form ≡ Err e) → Parses view told form left
Parses-passed view (Ok x) form left e passed why = cc passed.0
Parses-passed view (Err f) form left e passed why = rw passed.1 why
