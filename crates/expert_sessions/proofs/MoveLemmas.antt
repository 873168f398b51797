-- Moves join on: what two calls took is the one behind the other, and so is what they sent; counts that never fall in one call
-- never fall in two, and those that one call leaves as they were two calls leave so; and the turns that two parts take are both
-- numbers together.
use Rattle.std.proofs.Common.{◌≡◌, ◌≢◌, ◌≤◌, ℕ, zero, suc, ◌+◌, ◌-◌, ◌^◌, List, [], ◌++◌, Option, Some, None, refl, sym, ap, ◌∙◌, subst}
use Rattle.std.proofs.Common.{append_assoc, append-nil, arith}
use Rattle.std.proofs.Math.Nat.{min-le_left, min-le_right, le-min}
use Rattle.std.proofs.KnownBytes.{Appends-nil, Appends-trans, Consumes-nil, Consumes-trans}
use Rattle.fca_io.specs.Faults.{Rose, one_more}
use Rattle.fca_model.specs.Tables.{Text}
use Rattle.fca_model.specs.Exploration.{SetEntry}
use Rattle.expert_gate.specs.Desks.{one_less}
use Rattle.expert_sessions.specs.Moves.{DuplexState, Moves, IsQuiet, DeskProgress, Enters, TakesTurns, TakesTurnsAtMost}
use Rattle.expert_sessions.specs.Courses.{ReadsOn}

pub Moves-nil : (a : DuplexState) → Moves a a [] []
Moves-nil a = record { lost = Consumes-nil a.left; gained = Appends-nil a.held; read_faults = omega arith; write_faults = omega arith }

pub Moves-trans : {a b c : DuplexState} {t t' s s' : Text} → Moves a b t s → Moves b c t' s' → Moves a c (t ++ t') (s ++ s')
Moves-trans x y = record {
  lost = Consumes-trans _ _ _ _ _ x.lost y.lost;
  gained = Appends-trans _ _ _ _ _ x.gained y.gained;
  read_faults = let p = x.read_faults in let q = y.read_faults in omega arith;
  write_faults = let p = x.write_faults in let q = y.write_faults in omega arith;
}

pub Moves-equal : {a b : DuplexState} {t t' s s' : Text} → t ≡ t' → s ≡ s' → Moves a b t s → Moves a b t' s'
Moves-equal {a} {b} {t} {t'} {s} {s'} p q x = subst (λ z. Moves a b t' z) q (subst (λ z. Moves a b z s) p x)

pub IsQuiet-nil : (a : DuplexState) → IsQuiet a a
IsQuiet-nil a = record { read_faults = refl; write_faults = refl }

pub IsQuiet-trans : {a b c : DuplexState} → IsQuiet a b → IsQuiet b c → IsQuiet a c
IsQuiet-trans x y = record { read_faults = y.read_faults ∙ x.read_faults; write_faults = y.write_faults ∙ x.write_faults }

-- what two calls read stands one behind the other
pub ReadsOn-nil : (a : DuplexState) (ahead : Text) → ReadsOn a a ahead ahead
ReadsOn-nil a ahead = record { taken = []; moves = Moves-nil a; joined = sym (append-nil ahead); write_faults = refl }

pub ReadsOn-trans : {a b c : DuplexState} {ahead ahead' ahead'' : Text} → ReadsOn a b ahead ahead' → ReadsOn b c ahead' ahead''
    → ReadsOn a c ahead ahead''
ReadsOn-trans {a} {b} {c} {ahead} x y = record {
  taken = x.taken ++ y.taken;
  moves = Moves-trans x.moves y.moves;
  joined = y.joined ∙ ap (λ z. z ++ y.taken) x.joined ∙ append_assoc ahead x.taken y.taken;
  write_faults = y.write_faults ∙ x.write_faults;
}

-- ---- turns

pub TakesTurns-nil : (x : Option ℕ) → TakesTurns 0 x x
TakesTurns-nil None = refl
TakesTurns-nil (Some n) = (n, refl, omega arith)

pub TakesTurns-trans : (k l : ℕ) (x y z : Option ℕ) → TakesTurns k x y → TakesTurns l y z → TakesTurns (k + l) x z
TakesTurns-trans k l None y z p q = subst (λ o. TakesTurns l o z) p q
TakesTurns-trans k l (Some n) y z p q =
    let r : TakesTurns l (Some p.0) z = subst (λ o. TakesTurns l o z) p.1 q in
    let first = p.2 in
    let second = r.2 in
    (r.0, r.1, omega arith)

pub TakesTurns-few : (k l : ℕ) (x y : Option ℕ) → TakesTurns k x y → k ≤ l → TakesTurnsAtMost l x y
TakesTurns-few k l None y p h = p
TakesTurns-few k l (Some n) y p h = let all = p.2 in (p.0, p.1, omega arith)

-- a turn that was left
pub one_less-taken : (x y : Option ℕ) → y ≡ one_less x → x ≢ Some 0 → TakesTurns 1 x y
one_less-taken None y e some = e
one_less-taken (Some zero) y e some = absurd (some refl)
one_less-taken (Some (suc n)) y e some = let one : suc n - 1 ≡ n = omega arith in (n, e ∙ ap Some one, omega arith)

-- where none was left
pub one_less-none : (x y : Option ℕ) → y ≡ one_less x → x ≡ Some 0 → (y ≡ Some 0) × TakesTurns 0 x y
one_less-none x y e none =
    let still : y ≡ Some 0 = e ∙ ap one_less none in
    (still, subst (λ o. TakesTurns 0 x o) (none ∙ sym still) (TakesTurns-nil x))

-- a call more takes at most one more
pub leave-few : (x y z : Option ℕ) (k : ℕ) → TakesTurnsAtMost k x y → z ≡ one_less y → TakesTurnsAtMost (k + 1) x z
leave-few None y z k p e = e ∙ ap one_less p
leave-few (Some n) y z k p e =
    let bound = p.2 in
    (p.0 - 1, e ∙ ap one_less p.1, omega arith)

pub Enters-nil : (c : DeskProgress) → Enters c c [] 0
Enters-nil c = record { added = sym (append-nil c.entries); turns = TakesTurns-nil c.left }

pub Enters-trans : {c d f : DeskProgress} {m m' : List SetEntry} {k l : ℕ} → Enters c d m k → Enters d f m' l → Enters c f (m ++ m') (k + l)
Enters-trans {c} {d} {f} {m} {m'} {k} {l} x y = record {
  added = y.added ∙ ap (λ z. z ++ m') x.added ∙ append_assoc c.entries m m';
  turns = TakesTurns-trans k l c.left d.left f.left x.turns y.turns;
}

pub Enters-equal : {c d : DeskProgress} {m m' : List SetEntry} {k l : ℕ} → m ≡ m' → k ≡ l → Enters c d m k → Enters c d m' l
Enters-equal {c} {d} {m} {m'} {k} {l} e h x = subst (Enters c d m') h (subst (λ z. Enters c d z k) e x)
