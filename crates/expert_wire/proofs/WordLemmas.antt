-- Bytes that are UTF-8, numbers of experts, and rows with valid names.
use Rattle.std.proofs.Common.{◌≡◌, ◌≢◌, ◌≤◌, ◌^◌, ◌∙◌, ◌==◌, ℕ, Bool, true, false, cond, length, nat_lt, List, Some, None, Result, Ok}
use Rattle.std.proofs.Common.{Err, refl, sym, ap, ap₂, subst, inl, inr, arith, nat_le}
use Rattle.std.proofs.lemmas.Bool.{and_parts, cases_Bool, leb-true}
use Rattle.std.specs.Borrow.{Bor}
use Rattle.std.specs.Prelude.{MatchResult, MatchOption, IsUtf8, is_none, IsOk, ◌⊎◌}
use Rattle.std.specs.List.{list_any}
use Rattle.std.specs.Result.{result_ok}
use Rattle.std.specs.Str.{is_utf8}
use Rattle.std.proofs.lemmas.Str.{is_utf8-from_IsUtf8, IsUtf8-from_is_utf8}
use Rattle.fca_model.specs.declared.TheConstants.{MAX_EXPERTS, MAX_NAME_BYTES}
use Rattle.fca_model.specs.declared.names.NameFault.TheVariants as name
use Rattle.fca_model.specs.Names.{is_line_break, name_fault}
use Rattle.fca_model.specs.Sets.{Set}
use Rattle.fca_model.specs.Tables.{Text}
use Rattle.fca_model.specs.Exploration.{is_expert}
use Rattle.text_pieces.specs.Words.{first_word, later_words}
use Rattle.expert_wire.specs.declared.requests.RequestFault.{RequestFault}
use Rattle.expert_wire.specs.declared.requests.RequestFault.TheVariants.{Line, Width, Memory}
use Rattle.expert_wire.specs.Patterns.{is_name, named_row, row_of_width, set_of_pattern}

-- a number of more than 64 bits is no expert's
pub no_expert : (n : ℕ) → 2 ^ 64 ≤ n → None ≡ cond (is_expert n) (Some n) None
no_expert n large = elim (cases_Bool (is_expert n)) [
  | inl t ↦
      let bounds = and_parts (nat_le 1 n) (nat_le n MAX_EXPERTS) t in
      let few : n ≤ MAX_EXPERTS = leb-true n MAX_EXPERTS bounds.1 in
      absurd (omega arith)
  | inr f ↦ rw f refl
]

-- the answer of `from_utf8` as a test
pub utf8_ok : {E : Type 0} (Q : E → Type 0) (bs : List ℕ) (r : Result (Bor (List ℕ)) E)
    → MatchResult r (λ s. (s.now ≡ bs) × IsUtf8 bs) (λ e. ¬ (IsUtf8 bs) × Q e)
    → MatchOption (result_ok r) (is_utf8 bs ≡ false) (λ s. (s.now ≡ bs) × (is_utf8 bs ≡ true))
utf8_ok Q bs (Ok s) h = (h.0, is_utf8-from_IsUtf8 bs h.1)
utf8_ok Q bs (Err e) h = elim (cases_Bool (is_utf8 bs)) [
  | inl t ↦ absurd (h.0 (IsUtf8-from_is_utf8 bs t))
  | inr f ↦ f
]

-- ---- rows

-- a text without a fault is a name
pub is_name-faultless : (text : Text) → name_fault text ≢ Some name.Empty → name_fault text ≢ Some name.Long
    → name_fault text ≢ Some name.Line → is_name text ≡ true
unfolding name_fault
is_name-faultless text = by (length text == 0) (nat_lt MAX_NAME_BYTES (length text)) (list_any is_line_break text)
  where
    by : (a b c : Bool) → cond a (Some name.Empty) (cond b (Some name.Long) (cond c (Some name.Line) None)) ≢ Some name.Empty
        → cond a (Some name.Empty) (cond b (Some name.Long) (cond c (Some name.Line) None)) ≢ Some name.Long
        → cond a (Some name.Empty) (cond b (Some name.Long) (cond c (Some name.Line) None)) ≢ Some name.Line
        → is_none (cond a (Some name.Empty) (cond b (Some name.Long) (cond c (Some name.Line) None))) ≡ true
    by true b c some few unbroken = absurd (some refl)
    by false true c some few unbroken = absurd (few refl)
    by false false true some few unbroken = absurd (unbroken refl)
    by false false false some few unbroken = refl

-- marks and then a name are a row, if the marks have the width
module _ (n : ℕ) (text word later : Text) (r : Set) (first : word ≡ first_word text) (behind : later ≡ later_words text)
    (marked : set_of_pattern word ≡ Some r)
    (named : is_name later ≡ true) (fault : RequestFault) (said : fault ≡ cond (length r == n) Memory Width) where
  shaped : named_row n text ≡ cond (length r == n) (Ok (later, r)) (Err Width)
  shaped =
      ap₂ (λ w t. cond (is_name t) (row_of_width n t (set_of_pattern w)) (Err Line)) (sym first) (sym behind)
      ∙ ap₂ (λ b m. cond b (row_of_width n later m) (Err Line)) named marked

  -- without memory for the name, the fault is out of memory or that of the row
  pub unnamed_row : (fault ≡ Memory) ⊎ (named_row n text ≡ Err fault)
  unnamed_row = elim (cases_Bool (length r == n)) [
    | inl wide ↦ inl (said ∙ ap (λ b. cond b Memory Width) wide)
    | inr other ↦
        let is : fault ≡ Width = said ∙ ap (λ b. cond b Memory Width) other in
        inr (shaped ∙ ap (λ b. cond b (Ok (later, r)) (Err Width)) other ∙ ap (λ f. Err f) (sym is))
  ]

  -- out of memory comes only for a row
  pub unnamed_only_row : fault ≡ Memory → IsOk (named_row n text)
  unnamed_only_row none = elim (cases_Bool (length r == n)) [
    | inl wide ↦ subst IsOk (sym (shaped ∙ ap (λ b. cond b (Ok (later, r)) (Err Width)) wide)) refl
    | inr other ↦ let is : Width ≡ Memory = sym (said ∙ ap (λ b. cond b Memory Width) other) ∙ none in cc is
  ]
