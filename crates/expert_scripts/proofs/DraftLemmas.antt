-- Texts that are appended to a draft, one after the other. `Drafting` says how far a text is appended: the done part was appended, and
-- with the rest it is the whole. If a call fails, what it appended is a front of the whole.
use Rattle.std.proofs.Common.{◌≡◌, ◌≤◌, ◌<◌, ℕ, suc, List, [], ◌∷◌, ◌++◌, length, drop, get_or, Some, refl, sym, ap, ◌∙◌, append_assoc}
use Rattle.std.proofs.Common.{append-nil, subst}
use Rattle.std.proofs.Math.Seq.{drop-cons}
use Rattle.std.proofs.Math.ListN.{drop_of_length-le}
use Rattle.fca_io.specs.Transfers.{AppendsFront}
use Rattle.fca_model.specs.Tables.{Text}
use Rattle.fca_model.specs.Exploration.{SetEntry}
use Rattle.expert_scripts.specs.Transcripts.{entry_lines, entries_text}

pub record Drafting (old new whole rest : Text) : Type 0 where
  pub done : Text
  pub added : new ≡ old ++ done
  pub split : done ++ rest ≡ whole

pub Drafting-start : (d whole : Text) → Drafting d d whole whole
Drafting-start d whole = record { done = []; added = sym (append-nil d); split = refl }

pub Drafting-equal : {a b whole rest rest' : Text} → rest ≡ rest' → Drafting a b whole rest → Drafting a b whole rest'
Drafting-equal {a} {b} {whole} e x = subst (Drafting a b whole) e x

pub Drafting-more : {a b c whole : Text} (s rest : Text) → Drafting a b whole (s ++ rest) → c ≡ b ++ s → Drafting a c whole rest
Drafting-more {a} s rest x e = record {
  done = x.done ++ s;
  added = e ∙ ap (λ z. z ++ s) x.added ∙ append_assoc a x.done s;
  split = append_assoc x.done s rest ∙ x.split;
}

pub Drafting-fault : {a b c whole : Text} (s rest : Text) → Drafting a b whole (s ++ rest) → AppendsFront (Some b) (Some c) s
    → AppendsFront (Some a) (Some c) whole
Drafting-fault {a} s rest x y = record {
  front = x.done ++ y.front;
  rest = y.rest ++ rest;
  whole = sym x.split ∙ ap (λ z. x.done ++ (z ++ rest)) y.whole ∙ ap (λ z. x.done ++ z) (append_assoc y.front y.rest rest)
      ∙ sym (append_assoc x.done y.front (y.rest ++ rest));
  gained = y.gained ∙ ap (λ z. z ++ y.front) x.added ∙ append_assoc a x.done y.front;
}

pub Drafting-end : {a b whole : Text} → Drafting a b whole [] → b ≡ a ++ whole
Drafting-end {a} x = x.added ∙ ap (λ z. a ++ z) (sym (append-nil x.done) ∙ x.split)

-- what is appended last
pub Drafting-last : {a b c whole : Text} (s : Text) → Drafting a b whole s → AppendsFront (Some b) (Some c) s
    → AppendsFront (Some a) (Some c) whole
Drafting-last s x y = Drafting-fault s [] (Drafting-equal (sym (append-nil s)) x) y

-- a text that was appended
pub front-whole : {a b : Text} (s : Text) → b ≡ a ++ s → AppendsFront (Some a) (Some b) s
front-whole s e = record { front = s; rest = []; whole = sym (append-nil s); gained = e }

-- ---- one entry after the other

pub entries_text-drop : (attributes : List Text) (H : List SetEntry) (i : ℕ) (entry : SetEntry) → i < length H → entry ≡ get_or H i entry
    → entries_text attributes (drop i H) ≡ entry_lines attributes entry ++ entries_text attributes (drop (suc i) H)
entries_text-drop attributes H i entry h e = ap (entries_text attributes) (drop-cons H i entry h ∙ ap (λ x. x ∷ drop (suc i) H) (sym e))

pub entries_text-past : (attributes : List Text) (H : List SetEntry) (i : ℕ) → length H ≤ i → entries_text attributes (drop i H) ≡ []
entries_text-past attributes H i h = ap (entries_text attributes) (drop_of_length-le H h)
