-- Texts that are written through a buffer, part by part.
use Rattle.std.proofs.Common.{◌≡◌, ℕ, [], ◌++◌, Option, Ok, Err, sym, ap, ◌∙◌, append_assoc, append-nil}
use Rattle.fca_io.specs.Faults.{ReadCounts}
use Rattle.fca_io.specs.declared.outside.Put.{Put}
use Rattle.fca_model.specs.Tables.{Text}
use Rattle.expert_wire.specs.Parts.{Writes}
use Rattle.expert_wire.proofs.WriteLemmas.{Writes-nothing, Writes-then, Writes-front, Writes-equal}
use Rattle.packed_concepts.specs.Passing.{HasPassed}

-- behind what waited before, a front of the text was written, but for what waits now, and this is the rest
pub record IsPassing (h h' : Option Text) (f f' : ℕ) (o o' : Option Text) (a a' : ReadCounts) (waits waits' text rest : Text) : Type 0 where
  pub gone : Text
  pub written : Writes h h' f f' o o' a a' gone (Ok tt)
  pub split : gone ++ (waits' ++ rest) ≡ waits ++ text

pub IsPassing-start : (h : Option Text) (f : ℕ) (o : Option Text) (a : ReadCounts) (waits text rest : Text) → rest ≡ text
    → IsPassing h h f f o o a a waits waits text rest
IsPassing-start h f o a waits text rest is = record { gone = []; written = Writes-nothing h f o a; split = ap (λ z. waits ++ z) is }

pub IsPassing-more : {h h1 h' : Option Text} {f f1 f' : ℕ} {o o1 o' : Option Text} {a a1 a' : ReadCounts}
    (waits waits1 waits' text line left rest : Text) → left ≡ line ++ rest
    → IsPassing h h1 f f1 o o1 a a1 waits waits1 text left → HasPassed h1 h' f1 f' o1 o' a1 a' waits1 waits' line
    → IsPassing h h' f f' o o' a a' waits waits' text rest
IsPassing-more waits waits1 waits' text line left rest is x y = record {
  gone = x.gone ++ y.gone;
  written = Writes-then (Ok tt) x.written y.written;
  split = regroup x.gone y.gone waits' rest ∙ ap (λ z. x.gone ++ (z ++ rest)) y.split
      ∙ ap (λ z. x.gone ++ z) (append_assoc waits1 line rest ∙ ap (λ z. waits1 ++ z) (sym is)) ∙ x.split;
}
  where
    regroup : (g k w r : Text) → (g ++ k) ++ (w ++ r) ≡ g ++ ((k ++ w) ++ r)
    regroup g k w r = simp append_assoc

pub IsPassing-fault : {h h1 h' : Option Text} {f f1 f' : ℕ} {o o1 o' : Option Text} {a a1 a' : ReadCounts}
    (waits waits1 text part left rest : Text) (e : Put) → left ≡ part ++ rest
    → IsPassing h h1 f f1 o o1 a a1 waits waits1 text left → Writes h1 h' f1 f' o1 o' a1 a' (waits1 ++ part) (Err e)
    → Writes h h' f f' o o' a a' (waits ++ text) (Err e)
IsPassing-fault {h} {h1} {h'} {f} {f1} {f'} {o} {o1} {o'} {a} {a1} {a'} waits waits1 text part left rest e is x y =
    Writes-equal {r = Err e} (regroup x.gone waits1 part rest ∙ ap (λ z. x.gone ++ (waits1 ++ z)) (sym is) ∙ x.split)
    (Writes-front rest e (Writes-then (Err e) x.written y))
  where
    regroup : (g w p r : Text) → (g ++ (w ++ p)) ++ r ≡ g ++ (w ++ (p ++ r))
    regroup g w p r = simp append_assoc

pub IsPassing-end : {h h' : Option Text} {f f' : ℕ} {o o' : Option Text} {a a' : ReadCounts} (waits waits' text rest : Text) → rest ≡ []
    → IsPassing h h' f f' o o' a a' waits waits' text rest → HasPassed h h' f f' o o' a a' waits waits' text
IsPassing-end waits waits' text rest none x = record {
  gone = x.gone;
  written = x.written;
  split = ap (λ z. x.gone ++ z) (sym (append-nil waits') ∙ ap (λ z. waits' ++ z) (sym none)) ∙ x.split;
}
