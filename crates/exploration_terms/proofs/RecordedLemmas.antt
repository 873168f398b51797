-- No draw and no leave records an answer.
use Rattle.std.proofs.Common.{◌≡◌, ℕ, Bool, true, false, cond, Option, Some, None, List, [], ◌∷◌, refl}
use Rattle.fca_model.specs.declared.Event.TheVariants.{Draw, Leave}
use Rattle.fca_model.specs.declared.Reply.TheVariants.{AllHeld}
use Rattle.fca_model.specs.Implications.{Rule}
use Rattle.fca_model.specs.Exploration.{State, SetHold, open_in, given_back, draw_reply, all_held, least_held, asked, reply_to}
use Rattle.exploration_terms.specs.Recorded.{is_recorded}

pub draw_not_recorded : (s : State) (e : ℕ) → is_recorded (reply_to s (Draw e)) ≡ false
unfolding reply_to
draw_not_recorded s e = go s.settings.holders (given_back e s.held) (open_in s)
  where
    choice : (b : Bool) (o : Option Rule) → is_recorded (cond b AllHeld (asked o)) ≡ false
    choice true o = refl
    choice false None = refl
    choice false (Some q) = refl

    go : (most : ℕ) (hs : List SetHold) (J : List Rule) → is_recorded (draw_reply most hs J) ≡ false
    go most hs [] = refl
    go most hs (i ∷ J) = choice (all_held most hs (i ∷ J)) (least_held hs (i ∷ J))

pub leave_not_recorded : (s : State) (e : ℕ) → is_recorded (reply_to s (Leave e)) ≡ false
unfolding reply_to
leave_not_recorded s e = refl
