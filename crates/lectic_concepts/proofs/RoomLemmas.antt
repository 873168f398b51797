-- The room of a list of steps, of which the last goes on. A step stands between two attributes.
use Rattle.std.proofs.Common.{◌≡◌, ◌<◌, ◌≤◌, ◌+◌, ℕ, List, [], ◌∷◌, ◌++◌, ap, ap₂, ◌∙◌, arith}
use Rattle.std.specs.List.{sum_by}
use Rattle.std.proofs.lemmas.List.Sums.{sum_by_push}
use Rattle.fca_model.specs.StepBounds.{steps_bound}
use Rattle.fca_model.proofs.RoomLemmas.{room_less, room_below}

-- the room of all of them
abbrev pub rooms : ℕ → {S : Type 0} → (S → ℕ) → (S → ℕ) → List S → ℕ
rooms n from end steps = sum_by (λ step. steps_bound n (from step) (end step)) steps

module _ (n : ℕ) {S : Type 0} (from end : S → ℕ) {olds : List S} (steps : List S) (step : S) (is : olds ≡ steps ++ step ∷ []) where
  all_rooms : rooms n from end olds ≡ rooms n from end steps + steps_bound n (from step) (end step)
  all_rooms = ap (rooms n from end) is ∙ sum_by_push (λ (s : S). steps_bound n (from s) (end s)) steps step

  -- it is done
  pub rooms_done : rooms n from end steps < rooms n from end olds
  rooms_done = omega (arith, all_rooms)

  -- it tried an attribute, and stands before it now
  module _ {news : List S} (new : S) {i : ℕ} (on : news ≡ steps ++ new ∷ []) (same : from new ≡ from step) (at : end new ≡ i)
      (low : from step ≤ i) (less : i < end step) (inside : end step ≤ n) where
    new_rooms : rooms n from end news ≡ rooms n from end steps + steps_bound n (from step) i
    new_rooms = ap (rooms n from end) on ∙ sum_by_push (λ (s : S). steps_bound n (from s) (end s)) steps new
        ∙ ap₂ (λ f e. rooms n from end steps + steps_bound n f e) same at

    pub rooms_tried : rooms n from end news < rooms n from end olds
    rooms_tried = omega (arith, all_rooms, new_rooms, room_less n (from step) i (end step) low less inside)

    -- and another step begins behind that attribute
    pub rooms_deeper : {lasts : List S} (below : S) → lasts ≡ news ++ below ∷ [] → from below ≡ i + 1
        → rooms n from end lasts < rooms n from end olds
    rooms_deeper {lasts = lasts} below deeper next =
        let last : rooms n from end lasts ≡ rooms n from end news + steps_bound n (i + 1) (end below) =
        ap (rooms n from end) deeper ∙ sum_by_push (λ (s : S). steps_bound n (from s) (end s)) news below
        ∙ ap (λ f. rooms n from end news + steps_bound n f (end below)) next in
        omega (arith, all_rooms, new_rooms, last, room_below n (from step) i (end step) (end below) low less inside)
