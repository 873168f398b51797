-- One turn of an oracle, by cases. It draws and is asked an open question, or learns that none is open. Or it holds the question that is
-- due. Then it confirms where no row of its table is left to refute it: the question is accepted, or it is stale. Or it gives a row that
-- refutes it: the row is recorded, or the question is stale, or the row breaks a rule and is dropped. A question is stale where a
-- recorded row refutes it or its premise was accepted.
use Rattle.std.proofs.Common.{◌≡◌, ℕ, ◌+◌, Bool, true, false, not, ◌&&◌, ◌||◌, cond, Option, Some, None, List, [], ◌∷◌, ◌++◌, length, refl}
use Rattle.std.proofs.Common.{sym, ap, ◌∙◌, subst}
use Rattle.std.proofs.lemmas.Bool.{or_left, or_right, false≢true}
use Rattle.std.specs.List.{list_all, list_any}
use Rattle.fca_model.specs.declared.Event.TheVariants.{Draw, Confirm, Row}
use Rattle.fca_model.specs.declared.Reply.TheVariants.{Ask, Done, AllHeld, Accepted, Taken, Breaks}
use Rattle.fca_model.specs.declared.TheConstants.{MAX_EXPERTS}
use Rattle.fca_model.specs.Sets.{Set, within, same}
use Rattle.fca_model.specs.Tables.{NamedContext}
use Rattle.fca_model.specs.Implications.{Rule, respects, respects_all, refutes}
use Rattle.fca_model.specs.Questions.{has_premise}
use Rattle.fca_model.specs.Invariant.{Among, IsValid}
use Rattle.fca_model.specs.Exploration.{State, SetHold, SetReply, RowName, rules_of, open_in, held_by, given_back, least_held, all_held}
use Rattle.fca_model.specs.Exploration.{asked}
use Rattle.fca_model.specs.Exploration.{draw_reply, first_with, first_missing, confirm_unheard, confirm_unrefuted, confirm_reply, row_new}
use Rattle.fca_model.specs.Exploration.{row_unbroken, row_refuting, row_fitting, row_reply, reply_to, release, accept, record_row}
use Rattle.fca_model.specs.Exploration.{after_draw}
use Rattle.fca_model.specs.Exploration.{after_confirm, after_row, after, next, is_expert}
use Rattle.fca_model.proofs.ListLemmas.{list_any-not}
use Rattle.fca_model.proofs.StepLemmas.{first_with_none, draw_asks}
use Rattle.fca_model.proofs.ListLemmas.{list_all-from_none}
use Rattle.fca_model.proofs.ValidLemmas.{never_all_held}
use Rattle.oracle_expert.specs.Oracles.{Conflicts, counterexample, drop_given}
use Rattle.oracle_expert.specs.Runs.{OracleMoment, moment_after}

-- ---- searches

first_with_some : {X : Type 0} (p : X → Bool) (k : ℕ) (xs : List X) (found : ℕ × X) → first_with p k xs ≡ Some found → list_any p xs ≡ true
first_with_some p k [] found h = absurd (cc)
first_with_some p k (x ∷ xs) found h = go (p x) h (first_with_some p (k + 1) xs found)
  where
    go : (b : Bool) → cond b (Some (k, x)) (first_with p (k + 1) xs) ≡ Some found
        → (first_with p (k + 1) xs ≡ Some found → list_any p xs ≡ true) → (b || list_any p xs) ≡ true
    go true h rest = refl
    go false h rest = rest h

within_none_missing : (k : ℕ) (P r : Set) → within P r ≡ true → first_missing k P r ≡ None
within_none_missing k [] r h = refl
within_none_missing k (true ∷ P) [] h = absurd (false≢true h)
within_none_missing k (false ∷ P) [] h = within_none_missing (k + 1) P [] h
within_none_missing k (true ∷ P) (true ∷ r) h = within_none_missing (k + 1) P r h
within_none_missing k (true ∷ P) (false ∷ r) h = absurd (false≢true h)
within_none_missing k (false ∷ P) (b ∷ r) h = within_none_missing (k + 1) P r h

-- ---- replies to draws

abbrev is_drawn : SetReply → Bool
is_drawn (Ask q) = true
is_drawn Done = true
is_drawn AllHeld = true
is_drawn _ = false

drawn : (most : ℕ) (hs : List SetHold) (J : List Rule) → is_drawn (draw_reply most hs J) ≡ true
drawn most hs [] = refl
drawn most hs (i ∷ J) = go (all_held most hs (i ∷ J)) (least_held hs (i ∷ J))
  where
    go : (b : Bool) (o : Option Rule) → is_drawn (cond b AllHeld (asked o)) ≡ true
    go true o = refl
    go false None = refl
    go false (Some q) = refl

-- ---- the cases

-- a recorded row refutes the question, or its premise was accepted
abbrev pub is_stale : State → Rule → Bool
is_stale s q = list_any (λ r. refutes r q) s.context.rows || has_premise s.accepted q.premise

-- e holds q and nothing else
abbrev pub holding : ℕ → Rule → State → State
holding e q s = record s { held = given_back e s.held ++ record { expert = e; question = q } ∷ [] }

abbrev pub moment : Option Rule → Conflicts → OracleMoment
moment due conflicts = record { due = due; conflicts = conflicts }

module _ (s : State) (D : NamedContext) (e : ℕ) (conflicts : Conflicts) (Goal : State → OracleMoment → SetReply → Type 0) where
  pub draws : IsValid s → s.settings.holders ≡ MAX_EXPERTS → is_expert e ≡ true
      → ((q : Rule) → Among (open_in s) q → Goal (holding e q s) (moment (Some q) conflicts) (Ask q))
      → Goal (release e s) (moment None conflicts) Done
      → Goal (next s (Draw e)) (moment_after D (moment None conflicts) (reply_to s (Draw e))) (reply_to s (Draw e))
  unfolding after reply_to
  draws v holders i ask done = go (draw_reply s.settings.holders (given_back e s.held) (open_in s)) refl
    where
      none_other : (r : SetReply) → draw_reply s.settings.holders (given_back e s.held) (open_in s) ≡ r → is_drawn r ≡ false → ⊥
      none_other r h f = false≢true (sym (ap is_drawn h ∙ f) ∙ drawn s.settings.holders (given_back e s.held) (open_in s))

      go : (r : SetReply) → draw_reply s.settings.holders (given_back e s.held) (open_in s) ≡ r
          → Goal (after_draw e s r) (moment_after D (moment None conflicts) r) r
      go (Ask q) h = ask q (draw_asks s.settings.holders (given_back e s.held) (open_in s) q h)
      go Done h = done
      go AllHeld h = absurd (never_all_held s v holders e i h)
      go r h = absurd (none_other r h refl)

  module _ (q : Rule) (held : held_by e s.held ≡ Some q) where
    pub confirms : (list_any (λ r. refutes r q) s.context.rows ≡ false → has_premise s.accepted q.premise ≡ false → (k : ℕ)
        → Goal (release e (accept (Some q) s)) (moment None conflicts) (Accepted k))
        → (is_stale s q ≡ true → (reply : SetReply) → Goal (release e s) (moment None conflicts) reply)
        → Goal (next s (Confirm e)) (moment_after D (moment (Some q) conflicts) (reply_to s (Confirm e))) (reply_to s (Confirm e))
    unfolding after reply_to
    confirms accepted stale =
        subst (λ o. Goal (after_confirm e s (confirm_reply s o)) (moment_after D (moment (Some q) conflicts) (confirm_reply s o))
        (confirm_reply s o)) (sym held)
        (unrefuted (first_with (λ r. refutes r q) 0 s.context.rows) refl)
      where
        unheard : list_any (λ r. refutes r q) s.context.rows ≡ false → (o : Option (ℕ × Rule))
            → first_with (λ i. same i.premise q.premise) (length s.settings.known) s.accepted ≡ o
            → Goal (after_confirm e s (confirm_unheard s o)) (moment_after D (moment (Some q) conflicts) (confirm_unheard s o))
            (confirm_unheard s o)
        unheard free (Some found) h = stale (or_right (list_any (λ r. refutes r q) s.context.rows) (has_premise s.accepted q.premise)
            (first_with_some (λ i. same i.premise q.premise) (length s.settings.known) s.accepted found h)) (confirm_unheard s (Some found))
        unheard free None h =
            subst (λ o. Goal (release e (accept o s)) (moment None conflicts) (Accepted (length (rules_of s)))) (sym held)
            (accepted free (first_with_none (λ i. same i.premise q.premise) (length s.settings.known) s.accepted h) (length (rules_of s)))

        unrefuted : (o : Option (ℕ × Set)) → first_with (λ r. refutes r q) 0 s.context.rows ≡ o
            → Goal (after_confirm e s (confirm_unrefuted s q o)) (moment_after D (moment (Some q) conflicts) (confirm_unrefuted s q o))
            (confirm_unrefuted s q o)
        unrefuted (Some found) h = stale (or_left (list_any (λ r. refutes r q) s.context.rows) (has_premise s.accepted q.premise)
            (first_with_some (λ r. refutes r q) 0 s.context.rows found h)) (confirm_unrefuted s q (Some found))
        unrefuted None h = unheard (first_with_none (λ r. refutes r q) 0 s.context.rows h)
            (first_with (λ i. same i.premise q.premise) (length s.settings.known) s.accepted) refl

    abbrev At : RowName → Set → SetReply → Type 0
    At name r reply = Goal (after_row e name r s reply) (moment_after D (moment (Some q) conflicts) reply) reply

    pub gives : (name : RowName) (r : Set) → within q.premise r ≡ true → within q.conclusion r ≡ false
        → (list_any (λ r. refutes r q) s.context.rows ≡ false → respects_all (rules_of s) r ≡ true → (k : ℕ)
        → Goal (release e (record_row name r s)) (moment None conflicts) (Taken k))
        → (is_stale s q ≡ true → (reply : SetReply) → Goal (release e s) (moment None conflicts) reply)
        → (respects_all (rules_of s) r ≡ false → (k : ℕ) (j : Rule)
        → Goal s (moment (Some q) (drop_given conflicts (counterexample D conflicts q) k)) (Breaks k j))
        → Goal (next s (Row e name r)) (moment_after D (moment (Some q) conflicts) (reply_to s (Row e name r))) (reply_to s (Row e name r))
    unfolding after reply_to
    gives name r has lacks recorded stale broken =
        subst (λ o. At name r (row_reply s o r)) (sym held)
        (subst (λ o. At name r (row_fitting s q r o)) (sym (within_none_missing 0 q.premise r has))
        (subst (λ b. At name r (row_refuting s q r b)) (sym lacks) (unbroken (first_with (λ i. not (respects r i)) 0 (rules_of s)) refl)))
      where
        new : respects_all (rules_of s) r ≡ true → (o : Option (ℕ × Set)) → first_with (λ r. refutes r q) 0 s.context.rows ≡ o
            → At name r (row_new s o)
        new kept (Some found) h = stale (or_left (list_any (λ r. refutes r q) s.context.rows) (has_premise s.accepted q.premise)
            (first_with_some (λ r. refutes r q) 0 s.context.rows found h)) (row_new s (Some found))
        new kept None h = recorded (first_with_none (λ r. refutes r q) 0 s.context.rows h) kept (length s.context.rows)

        breaks : list_any (λ i. not (respects r i)) (rules_of s) ≡ true → respects_all (rules_of s) r ≡ false
        breaks h = not_back (respects_all (rules_of s) r)
            (λ t. false≢true (sym (list_any-not (λ i. not (respects r i)) (rules_of s) ∙ ap not (all_twice (rules_of s) t)) ∙ h))
          where
            not_back : (b : Bool) → (b ≡ true → ⊥) → b ≡ false
            not_back true h = absurd (h refl)
            not_back false h = refl

            twice : (b : Bool) → not (not b) ≡ b
            twice true = refl
            twice false = refl

            all_twice : (J : List Rule) → respects_all J r ≡ true → list_all (λ i. not (not (respects r i))) J ≡ true
            all_twice [] t = refl
            all_twice (i ∷ J) t = subst (λ b. (b && list_all (λ i. not (not (respects r i))) J) ≡ true) (sym (twice (respects r i)))
                (rest (respects r i) (all_twice J) t)
              where
                rest : (b : Bool) → (respects_all J r ≡ true → list_all (λ i. not (not (respects r i))) J ≡ true)
                    → (b && respects_all J r) ≡ true → (b && list_all (λ i. not (not (respects r i))) J) ≡ true
                rest true more t = more t
                rest false more t = t

        unbroken : (o : Option (ℕ × Rule)) → first_with (λ i. not (respects r i)) 0 (rules_of s) ≡ o → At name r (row_unbroken s q o)
        unbroken (Some found) h = broken (breaks (first_with_some (λ i. not (respects r i)) 0 (rules_of s) found h)) found.0 found.1
        unbroken None h = new (list_all-from_none (respects r) (rules_of s) (first_with_none (λ i. not (respects r i)) 0 (rules_of s) h))
            (first_with (λ r. refutes r q) 0 s.context.rows) refl
