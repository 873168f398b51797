-- The last implication of a list, as it is taken away.
use Rattle.std.proofs.Common.{◌≡◌, ◌≢◌, ℕ, true, List, [], ◌∷◌, ◌++◌, length, eqb, eqb-true, refl, sym, ap, ◌∙◌, arith}
use Rattle.std.proofs.lemmas.List.{append_assoc}
use Rattle.fca_model.specs.Implications.{Rule}
use Rattle.implication_closure.specs.Closing.{RuleList}
use Rattle.level_queue.specs.Rules.{RuleParts, AreTogether}

abbrev three : ℕ → List Rule → List Rule → RuleParts
three n known accepted = record { width = n; known = known; accepted = accepted }

-- a list that is not empty has a last member
pub split_last : (xs : List Rule) → xs ≢ [] → (ys : List Rule) × (y : Rule) × (xs ≡ ys ++ y ∷ [])
split_last [] ne = absurd (ne refl)
split_last (x ∷ xs) ne = at xs (split_last xs)
  where
    at : (zs : List Rule) → (zs ≢ [] → (ys : List Rule) × (y : Rule) × (zs ≡ ys ++ y ∷ []))
        → (ys : List Rule) × (y : Rule) × (x ∷ zs ≡ ys ++ y ∷ [])
    at [] rest = ([], x, refl)
    at (z ∷ zs) rest = let r = rest (λ e. cc) in (x ∷ r.0, r.1, ap (λ ws. x ∷ ws) r.2)

-- one implication more
abbrev more_by : RuleList → Rule → RuleList
more_by J i = record { width = J.width; members = J.members ++ i ∷ [] }

-- what is known, and the list behind it
abbrev behind : List Rule → RuleList → RuleList
behind known J = record { width = J.width; members = known ++ J.members }

-- a list of no length
pub no_length : (xs : List Rule) → eqb (length xs) 0 ≡ true → xs ≡ []
no_length [] h = refl
no_length (x ∷ xs) h = absurd (let e : length (x ∷ xs) ≡ 0 = eqb-true (length (x ∷ xs)) 0 h in omega (arith, e))

still_alone : (known old all new more : RuleList) → AreTogether known old all → known.members ≡ [] → new.width ≡ old.width
    → AreTogether known new more
still_alone known old all new more t none w = record { wide = t.wide ∙ sym w; together = λ ne. absurd (ne none) }

-- taken from the accepted ones, and from all where anything is known
module _ (known old all new : RuleList) (t : AreTogether known old all)
    (first : (J : RuleList) (i : Rule) → old ≡ more_by J i → new ≡ J) where
  without : (r : List Rule) (i : Rule) → old.members ≡ r ++ i ∷ [] → new ≡ record { width = old.width; members = r }
  without r i e = first (record { width = old.width; members = r }) i (ap (λ Zs. record { width = old.width; members = Zs }) e)

  pub popped : (more : RuleList) → old.members ≢ [] → ((J : RuleList) (i : Rule) → all ≡ more_by J i → more ≡ J)
      → AreTogether known new more
  popped more some second =
      let r = split_last old.members some in
      let new_is = without r.0 r.1 r.2 in
      record {
        wide = t.wide ∙ sym (ap (λ (J : RuleList). J.width) new_is);
        together = λ ne. second (record { width = old.width; members = known.members ++ r.0 }) r.1
            (t.together ne ∙ ap (λ Zs. record { width = old.width; members = Zs })
            (ap (λ Zs. known.members ++ Zs) r.2 ∙ sym (append_assoc known.members r.0 (r.1 ∷ []))))
            ∙ ap (behind known.members) (sym new_is);
      }

  pub popped_alone : known.members ≡ [] → old.members ≢ [] → AreTogether known new all
  popped_alone none some =
      let r = split_last old.members some in
      still_alone known old all new all t none (ap (λ (J : RuleList). J.width) (without r.0 r.1 r.2))

  pub popped_is : (parts : RuleParts) (i : Rule)
      → three old.width known.members old.members ≡ three parts.width parts.known (parts.accepted ++ i ∷ [])
      → three new.width known.members new.members ≡ parts
  popped_is parts i e =
      let new_is = without parts.accepted i (ap (λ (p : RuleParts). p.accepted) e) in
      ap (λ (J : RuleList). three J.width known.members J.members) new_is
      ∙ ap (λ w. three w known.members parts.accepted) (ap (λ (p : RuleParts). p.width) e)
      ∙ ap (λ Zs. three parts.width Zs parts.accepted) (ap (λ (p : RuleParts). p.known) e)
