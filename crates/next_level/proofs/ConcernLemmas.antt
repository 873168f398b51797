-- What concerns the sets that agree with the least one before an attribute is enough for these.
use Rattle.std.proofs.Common.{◌≡◌, ℕ, Bool, true, false, not, ◌&&◌, ◌||◌, List, Option, None, Some, filter, replicate, refl, sym, ◌∙◌}
use Rattle.std.proofs.Common.{subst, inl, inr}
use Rattle.std.proofs.lemmas.Bool.{false≢true, and_parts, and_from, cases_lt, le-leb}
use Rattle.fca_model.specs.Sets.{Set, within, meet, agree_before}
use Rattle.fca_model.specs.Context.{Context}
use Rattle.fca_model.specs.Implications.{Rule, respects, respects_all}
use Rattle.fca_model.specs.Exploration.{first_missing}
use Rattle.fca_model.proofs.SetLemmas.{within-meet, within_at_place, agree_at, agree_refl}
use Rattle.fca_model.proofs.ListLemmas.{bool_iff, implies_at, list_all-mono, list_all-mono₂, list_all-filter, list_all-filter_kept}
use Rattle.fca_model.proofs.ClosureLemmas.{respects_at, respects_from}
use Rattle.attr_bits.proofs.DifferenceLemmas.{first_missing-parts}
use Rattle.implication_closure.specs.Closing.{RuleList}
use Rattle.implication_closure.specs.Concerns.{not_before, concerns, concerning}
use Rattle.lectic_basis.proofs.TreeLemmas.{root_least}
use Rattle.next_level.specs.NextLevel.{open_where}
use Rattle.next_level.specs.Among.{AllAmong, AreAmong}
use Rattle.next_level.specs.Branches.{IsRoot}
use Rattle.next_level.proofs.NextLevelLemmas.{other_where}

module _ (A : Set) (i : ℕ) where
  -- a premise within such a set
  premise_concerns : (r : Rule) (X : Set) → agree_before i A X ≡ true → within r.premise X ≡ true → concerns i A r ≡ true
  premise_concerns r X agree up = go (first_missing 0 r.premise A) refl
    where
      go : (m : Option ℕ) → first_missing 0 r.premise A ≡ m → not_before i m ≡ true
      go None e = refl
      go (Some w) e =
          let at = first_missing-parts r.premise A w e in
          elim (cases_lt w i) [
            | inl lt ↦ absurd (false≢true (sym at.1 ∙ agree_at i A X agree w lt ∙ within_at_place r.premise X up w at.0))
            | inr ge ↦ le-leb i w ge
          ]

  -- a set that agrees with A before i respects all members where it respects those that concern it
  concerning_enough : (J : List Rule) (X : Set) → agree_before i A X ≡ true → respects_all (filter (concerns i A) J) X ≡ true
      → respects_all J X ≡ true
  concerning_enough J X agree h = list_all-mono (λ r. not (concerns i A r) || respects X r) (respects X)
      (λ r t. respects_from X r (λ p. respects_at X r (implies_at (concerns i A r) (respects X r) t (premise_concerns r X agree p)) p))
      J (sym (list_all-filter (respects X) (concerns i A) J) ∙ h)

  -- what respects all members respects these
  concerning_fewer : (J : List Rule) (X : Set) → respects_all J X ≡ true → respects_all (filter (concerns i A) J) X ≡ true
  concerning_fewer J X h = list_all-filter_kept (respects X) (concerns i A) J h

  -- what A and a set that respects these have in common respects all
  common_respects : (J : List Rule) (T : Set) → respects_all J A ≡ true → respects_all (filter (concerns i A) J) T ≡ true
      → respects_all J (meet A T) ≡ true
  common_respects J T a t = list_all-mono₂ (respects A) (λ r. not (concerns i A r) || respects T r) (respects (meet A T)) each
      J a (sym (list_all-filter (respects T) (concerns i A) J) ∙ t)
    where
      each : (r : Rule) → respects A r ≡ true → (not (concerns i A r) || respects T r) ≡ true → respects (meet A T) r ≡ true
      each r in_a in_t = respects_from (meet A T) r (λ p.
          let both = and_parts (within r.premise A) (within r.premise T) (sym (within-meet r.premise A T) ∙ p) in
          within-meet r.conclusion A T ∙ and_from (within r.conclusion A) (within r.conclusion T) (respects_at A r in_a both.0)
          (respects_at T r (implies_at (concerns i A r) (respects T r) in_t (premise_concerns r A (agree_refl i A) both.0)) both.1))

module _ {K : Context} {L : RuleList} {A : Set} (root : IsRoot K L A) (i : ℕ) where
  abbrev I : List Rule
  I = filter (concerns i A) L.members

  -- the least set is the same
  pub concerning_root : IsRoot K (concerning i A L) A
  concerning_root = record {
    width = root.width;
    closure = record {
      wide = root.closure.wide;
      above = root.closure.above;
      respecting = concerning_fewer A i L.members A root.closure.respecting;
      least = λ T up h.
          let nothing : Set = replicate K.width false in
          (and_parts (within A A) (within A T) (sym (within-meet A A T)
          ∙ root.closure.least (meet A T) (within-meet nothing A T ∙ and_from (within nothing A) (within nothing T) root.closure.above up)
          (common_respects A i L.members T root.closure.respecting h))).1;
    };
  }

  -- and so are the open sets that agree with it before i
  pub concerning_listed : (p : Set → Bool) → ((X : Set) → within A X ≡ true → p X ≡ true → agree_before i A X ≡ true)
      → (M : RuleList) → M ≡ concerning i A L → (c : ℕ) (Ls : List Rule) → Ls ≡ open_where M.members K c p → Ls ≡ open_where L.members K c p
  concerning_listed p agree M same_list c Ls l = other_where I L.members K c p p Ls
      (λ X e. bool_iff (respects_all I X && p X) (respects_all L.members X && p X)
      (λ h.
      let both = and_parts (respects_all I X) (p X) h in
      let up = root_least I K A concerning_root.closure X both.0 in
      and_from (respects_all L.members X) (p X) (concerning_enough A i L.members X (agree X up both.1) both.0) both.1)
      (λ h.
      let both = and_parts (respects_all L.members X) (p X) h in
      and_from (respects_all I X) (p X) (concerning_fewer A i L.members X both.0) both.1))
      (subst (λ (N : RuleList). Ls ≡ open_where N.members K c p) same_list l)

  pub concerning_among : (M : RuleList) → M ≡ concerning i A L → (whole : Bool) (sets : List Set) → AllAmong L.members K whole sets
      → AreAmong M.members K A i whole sets
  concerning_among M same_list whole sets all = subst (λ (N : RuleList). AreAmong N.members K A i whole sets) (sym same_list)
      (λ X x. all X (record {
        wide = x.wide;
        respecting = concerning_enough A i L.members X x.passes x.respecting;
        not_closed = x.not_closed;
        passes = refl;
      }))
