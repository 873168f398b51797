-- Seats one after the other: two lists of them, and what they hold, put into lists of its own.
use Rattle.std.proofs.Common.{◌≡◌, List, [], ◌∷◌, ◌++◌, length, map, sym, ap, ◌∙◌, suc, append_assoc, refl}
use Rattle.expert_gate.specs.Seats.{EachSeat}

pub EachSeat-append : {S : Type 0} (P : S → S → Type 0) (olds others news more : List S) → EachSeat P olds news → EachSeat P others more
    → EachSeat P (olds ++ others) (news ++ more)
EachSeat-append P [] others [] more h k = k
EachSeat-append P [] others (new ∷ news) more h k = absurd h
EachSeat-append P (old ∷ olds) others [] more h k = absurd h
EachSeat-append P (old ∷ olds) others (new ∷ news) more h k = (h.0, EachSeat-append P olds others news more h.1 k)

pub EachSeat-length : {S : Type 0} (P : S → S → Type 0) (olds news : List S) → EachSeat P olds news → length news ≡ length olds
EachSeat-length P [] [] h = refl
EachSeat-length P [] (new ∷ news) h = absurd h
EachSeat-length P (old ∷ olds) [] h = absurd h
EachSeat-length P (old ∷ olds) (new ∷ news) h = ap suc (EachSeat-length P olds news h.1)

-- what was put, and what the seats still to come hold, is what all hold
pub part-put : {S P : Type 0} (part : S → P) (before after all : List P) (seat : S) (rest rest' : List S) → before ++ map part rest ≡ all
    → rest ≡ seat ∷ rest' → after ≡ before ++ part seat ∷ [] → after ++ map part rest' ≡ all
part-put part before after all seat rest rest' held steps added =
    ap (λ z. z ++ map part rest') added ∙ append_assoc before (part seat ∷ []) (map part rest') ∙ ap (λ z. before ++ map part z) (sym steps)
    ∙ held
