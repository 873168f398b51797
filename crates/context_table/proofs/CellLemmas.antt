-- A row that is drawn block by block. Before a block from cell j on the row has the cells that were drawn below place j, and no member
-- from j on. The bits of the block go to their places. At the end the row is the list of all its cells. Steps add up, so a block begins
-- with the state after all cells before it.
use Rattle.std.proofs.Common.{◌≡◌, ℕ, zero, suc, ◌+◌, ◌-◌, ◌*◌, ◌^◌, ◌<◌, ◌≤◌, Bool, true, false, ◌&&◌, ◌||◌, cond, eqb, nat_le, List, map}
use Rattle.std.proofs.Common.{length, get_or, replicate, refl, ap, ap₂, ◌∙◌, arith, inl, inr, min, add-one}
use Rattle.std.specs.List.{range_with_len}
use Rattle.std.specs.Int.{bit_at}
use Rattle.std.proofs.Math.Bool.{or-false, and-false}
use Rattle.std.proofs.lemmas.Bool.{cases_lt, le-leb, lt-leb}
use Rattle.std.proofs.lemmas.List.{get_or-replicate, length-replicate}
use Rattle.std.proofs.lemmas.List.FromFn.{fill_by_all}
use Rattle.std.proofs.lemmas.Nat.Bits.{bit_at_above}
use Rattle.attr_bits.specs.Words.{number_of}
use Rattle.attr_bits.specs.WordLaws.{number_of_small, bit_at-number_of}
use Rattle.context_table.specs.Generated.{next_state, state_after}

-- of the n cells those below j are drawn, and the others are empty
pub record HasCells (cell : ℕ → Bool) (n j : ℕ) (row : List Bool) : Type 0 where
  pub wide : length row ≡ n
  pub drawn : (k : ℕ) → k < j → get_or row k false ≡ cell k
  pub empty : (k : ℕ) → j ≤ k → k < n → get_or row k false ≡ false

pub HasCells-none : (cell : ℕ → Bool) (n : ℕ) → HasCells cell n 0 (replicate n false)
HasCells-none cell n = record {
  wide = length-replicate n false;
  drawn = λ k lt. absurd (omega arith);
  empty = λ k le lt. get_or-replicate n k false false lt;
}

pub HasCells-block : (cell drawn : ℕ → Bool) (n j count bits : ℕ) (row new : List Bool) → HasCells cell n j row → j < n
    → count ≡ min (n - j) 64
    → bits ≡ number_of drawn count → ((i : ℕ) → i < count → drawn i ≡ cell (j + i)) → length new ≡ length row
    → ((i : ℕ) → i < length row → get_or new i false ≡ (get_or row i false || (nat_le j i && eqb (bit_at bits (i - j)) 1)))
    → HasCells cell n (j + count) new
HasCells-block cell drawn n j count bits row new h lt few is same wide put = record {
  wide = wide ∙ h.wide;
  drawn = λ k below. put k (omega (arith, h.wide)) ∙ elim (cases_lt k j) [
    | inl before ↦ ap₂ (λ x y. x || (y && eqb (bit_at bits (k - j)) 1)) (h.drawn k before) (lt-leb j k before) ∙ or-false (cell k)
    | inr later ↦
        let back : j + (k - j) ≡ k = omega arith in
        ap₂ (λ x y. x || (y && eqb (bit_at bits (k - j)) 1)) (h.empty k later (omega arith)) (le-leb j k later)
        ∙ ap (λ x. eqb (bit_at x (k - j)) 1) is ∙ ap (λ x. eqb x 1) (bit_at-number_of drawn count (k - j) (omega arith))
        ∙ one (drawn (k - j))
        ∙ same (k - j) (omega arith) ∙ ap cell back
  ];
  empty = λ k le inside. put k (omega (arith, h.wide))
      ∙ ap₂ (λ x y. x || (nat_le j k && eqb y 1)) (h.empty k (omega arith) inside)
      (ap (λ x. bit_at x (k - j)) is ∙ bit_at_above (number_of drawn count) count (k - j) (number_of_small drawn count) (omega arith))
      ∙ and-false (nat_le j k);
}
  where
    one : (b : Bool) → eqb (cond b 1 0) 1 ≡ b
    one true = refl
    one false = refl

pub number_of-more : (f : ℕ → Bool) (m : ℕ) → number_of f (m + 1) ≡ number_of f m + cond (f m) (2 ^ m) 0
unfolding number_of
number_of-more f m = ap (number_of f) (add-one m)

pub map-cells : (cell : ℕ → Bool) (n : ℕ) (row : List Bool) → HasCells cell n n row → row ≡ map cell (range_with_len 0 n)
map-cells cell n row h = fill_by_all cell row n false h.wide h.drawn

pub state_after-more : (steps x : ℕ) → state_after (steps + 1) x ≡ next_state (state_after steps x)
unfolding state_after
state_after-more steps x = ap (λ k. state_after k x) (add-one steps)

pub state_after-add : (more steps x : ℕ) → state_after more (state_after steps x) ≡ state_after (more + steps) x
unfolding state_after
state_after-add zero steps x = let e : steps ≡ 0 + steps = omega arith in ap (λ k. state_after k x) e
state_after-add (suc more) steps x =
    let e : suc (more + steps) ≡ suc more + steps = omega arith in
    ap next_state (state_after-add more steps x) ∙ ap (λ k. state_after k x) e

-- after i rows of n cells and n cells more
pub state_after-row : (i n x : ℕ) → state_after n (state_after (i * n) x) ≡ state_after ((i + 1) * n) x
state_after-row i n x =
    let e : n + i * n ≡ (i + 1) * n = omega arith in
    state_after-add n (i * n) x ∙ ap (λ k. state_after k x) e
