use Rattle.std.proofs.Common.{◌≡◌, ◌∙◌, ◌++◌, ◌∷◌, ℕ, List, [], All, map, length, take, drop, refl, sym, ap, subst, arith}
use Rattle.fca_model.specs.Implications.{Rule}
use Rattle.fca_model.specs.Exploration.{SetReply, SetEntry}
use Rattle.explore_state.specs.History.{Opening}
use Rattle.turn_lock.specs.Passes.{Belongs, PassModel, Badge, badge}
use Rattle.oracle_expert.specs.declared.expert.Answer.{Answer}
use Rattle.expert_panel.specs.declared.seat.Seat.{Seat}
use Rattle.expert_gate.specs.Seats.{EachSeat}
use Rattle.expert_panel.specs.Seats.{IsSeatOf, HasRunSeat}
use Rattle.expert_panel.proofs.EndingLemmas.{written_back, seats_of}
use Rattle.exploration_tests.specs.declared.expert_panel_tests.Silent.{Silent}
use Rattle.exploration_tests.proofs.expert_panel_tests.two_draws.Goals as goal

abbrev two : Silent → ℕ
two expert = 2

abbrev passes : {X : Type 0} → List (Seat X) → List (PassModel Opening SetEntry)
passes seats = map (λ seat. seat.pass) seats

-- a run changes no badge
module _ {X M : Type 0} (width : X → ℕ) (memory : X → M) (A : M → Rule → Answer → M → Type 0) (L : M → SetReply → M → Type 0)
    (o : Opening) where
  badges_kept : (olds news : List (Seat X)) → EachSeat (HasRunSeat width memory A L o) olds news
      → map badge (passes news) ≡ map badge (passes olds)
  badges_kept [] [] each = refl
  badges_kept [] (new ∷ news) each = absurd each
  badges_kept (old ∷ olds) [] each = absurd each
  badges_kept (old ∷ olds) (new ∷ news) each =
      ap (λ (b : Badge Opening). b ∷ map badge (passes news)) each.0.attended.pass.same
      ∙ ap (λ (bs : List (Badge Opening)). badge old.pass ∷ bs) (badges_kept olds news each.1)

pub run_panel-requires-after_bounds : goal.run_panel-requires-after_bounds
run_panel-requires-after_bounds g c κs within =
    let gate = c.in_ok-gate.gate in
    let wide : 2 ≡ gate.base.table.context.width =
    sym (ap (λ (o : Opening). o.table.context.width) c.in_ok-gate.ensures.opening ∙ c.in_ok-opened.ensures.width) in
    subst (All (IsSeatOf two gate)) (sym c.as_mut_slice.ensures.value)
    (seats_of two gate c.in_ok-seats.seats.items (subst (All (Belongs gate)) (sym c.in_ok-seats.ensures.passes) c.in_ok-gate.ensures.belong)
    (λ k d h. wide))

pub close-requires : goal.close-requires
close-requires g c =
    let news : List (Seat Silent) = c.run_panel.new.seats in
    let kept = c.run_panel.auto.seats in
    let was = c.as_mut_slice.ensures.len in
    let len : c.in_ok-seats.seats.len ≡ length news = omega arith in
    let back : take c.in_ok-seats.seats.len (news ++ drop (length news) c.in_ok-seats.seats.items) ≡ news =
    written_back c.in_ok-seats.seats.len news (drop (length news) c.in_ok-seats.seats.items) len in
    record {
      passes = ap (map badge) (c.in_ok-passes.ensures ∙ ap passes back)
          ∙ badges_kept _ _ _ _ c.in_ok-gate.gate.base c.as_mut_slice.result.now news c.run_panel.ensures
          ∙ ap (λ (seats : List (Seat Silent)). map badge (passes seats)) c.as_mut_slice.ensures.value
          ∙ ap (map badge) c.in_ok-seats.ensures.passes ∙ c.in_ok-gate.ensures.passes;
    }
