-- Calls that write, one after the other. If the first wrote its whole text, both together write the one text and then the other. A call
-- that failed wrote a front, also of every longer text. `Underway` says how far a text is written: the done part was written, and with
-- the rest it is the whole.
use Rattle.std.proofs.Common.{◌≡◌, ◌≤◌, ℕ, ◌+◌, ◌-◌, ◌^◌, List, [], ◌∷◌, ◌++◌, Option, Result, Ok, Err, refl, sym, ap, ◌∙◌, append_assoc}
use Rattle.std.proofs.Common.{append-nil, arith, subst, ◌<◌, suc, length, get_or, drop}
use Rattle.std.specs.List.{flat_map}
use Rattle.std.proofs.Math.Seq.{drop-cons}
use Rattle.std.proofs.Math.ListN.{drop_of_length-le}
use Rattle.std.specs.Prelude.{OnOk, OnErr}
use Rattle.std.specs.Io.KnownBytes.{Appends}
use Rattle.std.proofs.KnownBytes.{Appends-nil, Appends-trans, Keeps-refl, Keeps-trans}
use Rattle.std.proofs.Math.Nat.{min-le_left, min-le_right, le-min}
use Rattle.fca_io.specs.Faults.{Rose, ReadCounts, one_more}
use Rattle.fca_io.specs.declared.outside.Put.{Put}
use Rattle.fca_model.specs.Tables.{Text}
use Rattle.expert_wire.specs.Parts.{Writes}

pub Writes-nothing : (held : Option Text) (faults : ℕ) (other : Option Text) (aside : ReadCounts)
    → Writes held held faults faults other other aside aside [] (Ok tt)
Writes-nothing held faults other aside = record {
  whole = Appends-nil held;
  front = record { front = []; rest = []; whole = refl; gained = Appends-nil held };
  quiet = refl;
  failed = tt;
  only_rise = omega arith;
  beside = Keeps-refl other;
  same_beside = refl;
}

pub Rose-later : (a b c : ℕ) → a ≤ b → Rose b c → Rose a c
Rose-later a b c h r =
    let low = min-le_left (a + 1) (2 ^ 64 - 1) in
    let high = min-le_right (a + 1) (2 ^ 64 - 1) in
    let both : one_more a ≤ one_more b = le-min (omega arith) high in
    omega arith

pub Writes-then : {h0 h1 h2 : Option Text} {f0 f1 f2 : ℕ} {o0 o1 o2 : Option Text} {a0 a1 a2 : ReadCounts} {s t : Text}
    (r : Result (Unit {0}) Put)
    → Writes h0 h1 f0 f1 o0 o1 a0 a1 s (Ok tt) → Writes h1 h2 f1 f2 o1 o2 a1 a2 t r → Writes h0 h2 f0 f2 o0 o2 a0 a2 (s ++ t) r
Writes-then {h0} {h1} {h2} {f0} {f1} {f2} {o0} {o1} {o2} {a0} {a1} {a2} {s} {t} r x y = record {
  whole = whole r y.whole;
  front = record {
    front = s ++ y.front.front;
    rest = y.front.rest;
    whole = ap (λ z. s ++ z) y.front.whole ∙ sym (append_assoc s y.front.front y.front.rest);
    gained = Appends-trans _ _ _ _ _ x.whole y.front.gained;
  };
  quiet = quiet r y.quiet;
  failed = failed r y.failed;
  only_rise = let p = x.only_rise in let q = y.only_rise in omega arith;
  beside = Keeps-trans _ _ _ x.beside y.beside;
  same_beside = y.same_beside ∙ x.same_beside;
}
  where
    whole : (r : Result (Unit {0}) Put) → OnOk r (Appends h1 h2 t) → OnOk r (Appends h0 h2 (s ++ t))
    whole (Ok u) h = Appends-trans _ _ _ _ _ x.whole h
    whole (Err e) h = tt

    quiet : (r : Result (Unit {0}) Put) → OnOk r (f2 ≡ f1) → OnOk r (f2 ≡ f0)
    quiet (Ok u) h = h ∙ x.quiet
    quiet (Err e) h = tt

    failed : (r : Result (Unit {0}) Put) → OnErr r (Rose f1 f2) → OnErr r (Rose f0 f2)
    failed (Ok u) h = tt
    failed (Err e) h = Rose-later f0 f1 f2 x.only_rise h

pub Writes-front : {h0 h1 : Option Text} {f0 f1 : ℕ} {o0 o1 : Option Text} {a0 a1 : ReadCounts} {s : Text} (t : Text) (e : Put)
    → Writes h0 h1 f0 f1 o0 o1 a0 a1 s (Err e) → Writes h0 h1 f0 f1 o0 o1 a0 a1 (s ++ t) (Err e)
Writes-front {s = s} t e x = record {
  whole = tt;
  front = record {
    front = x.front.front;
    rest = x.front.rest ++ t;
    whole = ap (λ z. z ++ t) x.front.whole ∙ append_assoc x.front.front x.front.rest t;
    gained = x.front.gained;
  };
  quiet = tt;
  failed = x.failed;
  only_rise = x.only_rise;
  beside = x.beside;
  same_beside = x.same_beside;
}

pub Writes-equal : {h h' : Option Text} {f f' : ℕ} {o o' : Option Text} {a a' : ReadCounts} {s t : Text} {r : Result (Unit {0}) Put}
    → s ≡ t → Writes h h' f f' o o' a a' s r → Writes h h' f f' o o' a a' t r
Writes-equal {h} {h'} {f} {f'} {o} {o'} {a} {a'} {r = r} e x = subst (λ z. Writes h h' f f' o o' a a' z r) e x

-- ---- a text that is written by several calls

pub record Underway (h h' : Option Text) (f f' : ℕ) (o o' : Option Text) (a a' : ReadCounts) (whole rest : Text) : Type 0 where
  pub done : Text
  pub written : Writes h h' f f' o o' a a' done (Ok tt)
  pub split : done ++ rest ≡ whole

pub Underway-start : (h : Option Text) (f : ℕ) (o : Option Text) (a : ReadCounts) (whole : Text) → Underway h h f f o o a a whole whole
Underway-start h f o a whole = record { done = []; written = Writes-nothing h f o a; split = refl }

pub Underway-equal : {h h' : Option Text} {f f' : ℕ} {o o' : Option Text} {a a' : ReadCounts} {whole rest rest' : Text}
    → rest ≡ rest' → Underway h h' f f' o o' a a' whole rest → Underway h h' f f' o o' a a' whole rest'
Underway-equal {whole = whole} e x = record { done = x.done; written = x.written; split = subst (λ z. x.done ++ z ≡ whole) e x.split }

pub Underway-more : {h h1 h' : Option Text} {f f1 f' : ℕ} {o o1 o' : Option Text} {a a1 a' : ReadCounts} {whole : Text} (s rest : Text)
    → Underway h h1 f f1 o o1 a a1 whole (s ++ rest) → Writes h1 h' f1 f' o1 o' a1 a' s (Ok tt) → Underway h h' f f' o o' a a' whole rest
Underway-more s rest x y = record {
  done = x.done ++ s;
  written = Writes-then (Ok tt) x.written y;
  split = append_assoc x.done s rest ∙ x.split;
}

pub Underway-fault : {h h1 h' : Option Text} {f f1 f' : ℕ} {o o1 o' : Option Text} {a a1 a' : ReadCounts} {whole : Text} (s rest : Text)
    (e : Put)
    → Underway h h1 f f1 o o1 a a1 whole (s ++ rest) → Writes h1 h' f1 f' o1 o' a1 a' s (Err e) → Writes h h' f f' o o' a a' whole (Err e)
Underway-fault {h} {h1} {h'} {f} {f1} {f'} {o} {o1} {o'} {a} {a1} {a'} {whole} s rest e x y =
    subst (λ z. Writes h h' f f' o o' a a' z (Err e)) (append_assoc x.done s rest ∙ x.split)
    (Writes-front rest e (Writes-then (Err e) x.written y))

pub Underway-last : {h h1 h' : Option Text} {f f1 f' : ℕ} {o o1 o' : Option Text} {a a1 a' : ReadCounts} {whole s : Text}
    (r : Result (Unit {0}) Put)
    → Underway h h1 f f1 o o1 a a1 whole s → Writes h1 h' f1 f' o1 o' a1 a' s r → Writes h h' f f' o o' a a' whole r
Underway-last {h} {h1} {h'} {f} {f1} {f'} {o} {o1} {o'} {a} {a1} {a'} r x y =
    subst (λ z. Writes h h' f f' o o' a a' z r) x.split (Writes-then r x.written y)

pub Underway-end : {h h' : Option Text} {f f' : ℕ} {o o' : Option Text} {a a' : ReadCounts} {whole : Text}
    → Underway h h' f f' o o' a a' whole [] → Writes h h' f f' o o' a a' whole (Ok tt)
Underway-end {h} {h'} {f} {f'} {o} {o'} {a} {a'} x =
    subst (λ z. Writes h h' f f' o o' a a' z (Ok tt)) (sym (append-nil x.done) ∙ x.split) x.written

-- ---- one text after the other

pub flat_map-drop : {X : Type 0} (f : X → Text) (xs : List X) (i : ℕ) (x : X) → i < length xs → x ≡ get_or xs i x
    → flat_map f (drop i xs) ≡ f x ++ flat_map f (drop (suc i) xs)
flat_map-drop f xs i x h e = ap (flat_map f) (drop-cons xs i x h ∙ ap (λ y. y ∷ drop (suc i) xs) (sym e))

pub flat_map-past : {X : Type 0} (f : X → Text) (xs : List X) (i : ℕ) → length xs ≤ i → flat_map f (drop i xs) ≡ []
flat_map-past f xs i h = ap (flat_map f) (drop_of_length-le xs h)
