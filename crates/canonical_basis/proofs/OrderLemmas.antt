-- Premises in lectic order. A list in lectic order that has the premises of the members of the basis gives, with the closures, the
-- basis.
use Rattle.std.proofs.Common.{◌≡◌, ℕ, ◌+◌, ◌<◌, Bool, true, false, ◌||◌, List, [], ◌∷◌, ◌++◌, map, length, filter, get_or, take, refl, sym}
use Rattle.std.proofs.Common.{ap, ap₂}
use Rattle.std.proofs.Common.{◌∙◌, subst, inl, inr, Ordering, Less, Equal, Greater, eqb, eqb-true, eq-eqb}
use Rattle.std.proofs.lemmas.Bool.{false≢true, and_from, or_cases, or_left, or_right}
use Rattle.std.proofs.lemmas.List.{take_more}
use Rattle.std.proofs.lemmas.List.Folds.{list_all-map, list_any-append}
use Rattle.std.proofs.lemmas.List.Sums.{AllPass-from_list_all}
use Rattle.std.specs.List.{list_all, list_any}
use Rattle.std.specs.Ordering.{match_ordering}
use Rattle.std.specs.BTreeSet.{insert_key}
use Rattle.fca_model.specs.Sets.{Set, same, all_sets, increasing, lectic_cmp}
use Rattle.fca_model.specs.Context.{Context, closure}
use Rattle.fca_model.specs.Implications.{Rule, rule, premises}
use Rattle.fca_model.specs.Pseudo.{pseudo_known, basis_known}
use Rattle.fca_model.specs.Invariant.{SameMembers}
use Rattle.fca_model.proofs.ListLemmas.{bool_iff, list_any-map}
use Rattle.fca_model.proofs.SetLemmas.{same_refl}
use Rattle.fca_model.proofs.SortedLemmas.{at_member}
use Rattle.fca_model.proofs.PseudoLemmas.{basis_all}
use Rattle.fca_model.proofs.DoneLemmas.{sorted_is_basis}
use Rattle.implication_closure.specs.Closing.{RuleList}
use Rattle.pseudo_levels.specs.Search.{AreWide, Has}
use Rattle.pseudo_levels.specs.LeastBasis.{IsLeastBasis}
use Rattle.pseudo_levels.proofs.LeastLemmas.{least_from_members}
use Rattle.pseudo_levels.proofs.CandidateLemmas.{grows_by_key, has_by_key, any_has}

-- ---- the keys of a tree

of_insert_key : (p : Set → Bool) (B : Set) (Xs : List Set) → list_any p (insert_key lectic_cmp Xs B) ≡ true → (list_any p Xs || p B) ≡ true
of_insert_key p B [] h = elim (or_cases (p B) false h) [ inl t ↦ t | inr f ↦ absurd (false≢true f) ]
of_insert_key p B (X ∷ Xs) h = go (lectic_cmp B X) (of_insert_key p B Xs) h
  where
    go : (o : Ordering) → (list_any p (insert_key lectic_cmp Xs B) ≡ true → (list_any p Xs || p B) ≡ true)
        → list_any p (match_ordering o (B ∷ X ∷ Xs) (X ∷ Xs) (X ∷ insert_key lectic_cmp Xs B)) ≡ true
        → ((p X || list_any p Xs) || p B) ≡ true
    go Less next h = elim (or_cases (p B) (p X || list_any p Xs) h)
        [ inl t ↦ or_right (p X || list_any p Xs) (p B) t | inr r ↦ or_left (p X || list_any p Xs) (p B) r ]
    go Equal next h = or_left (p X || list_any p Xs) (p B) h
    go Greater next h = elim (or_cases (p X) (list_any p (insert_key lectic_cmp Xs B)) h) [
      | inl t ↦ or_left (p X || list_any p Xs) (p B) (or_left (p X) (list_any p Xs) t)
      | inr r ↦ elim (or_cases (list_any p Xs) (p B) (next r)) [
        | inl t ↦ or_left (p X || list_any p Xs) (p B) (or_right (p X) (list_any p Xs) t)
        | inr b ↦ or_right (p X || list_any p Xs) (p B) b
      ]
    ]

-- one premise more was put into the tree
pub gathered_more : (members : List Rule) (k : ℕ) (i : Rule) (old new : List Set) (A : Set) → k < length members → i ≡ get_or members k i
    → new ≡ insert_key lectic_cmp old i.premise
    → list_any (same A) old ≡ list_any (same A) (premises (take k members))
    → list_any (same A) new ≡ list_any (same A) (premises (take (k + 1) members))
gathered_more members k i old new A l is e before =
    let B = i.premise in
    let inserted : list_any (same A) new ≡ (list_any (same A) old || same A B) =
    bool_iff (list_any (same A) new) (list_any (same A) old || same A B)
    (λ h. of_insert_key (same A) B old (subst (λ Zs. list_any (same A) Zs ≡ true) e h))
    (λ h. elim (or_cases (list_any (same A) old) (same A B) h)
    [ inl there ↦ (grows_by_key old new B e).kept (same A) there | inr here ↦ any_has (same A) B new (has_by_key old new B e) here ]) in
    let split : list_any (same A) (premises (take (k + 1) members))
    ≡ (list_any (same A) (premises (take k members)) || (same A B || false)) =
    ap (λ js. list_any (same A) (premises js)) (take_more members k i l ∙ ap (λ j. take k members ++ j ∷ []) (sym is))
    ∙ list_any-map (same A) (λ (j : Rule). j.premise) (take k members ++ i ∷ [])
    ∙ list_any-append (λ (j : Rule). same A j.premise) (take k members) (i ∷ [])
    ∙ ap (λ b. b || (same A B || false)) (sym (list_any-map (same A) (λ (j : Rule). j.premise) (take k members))) in
    inserted ∙ ap (λ b. b || same A B) before ∙ ap (λ b. list_any (same A) (premises (take k members)) || b) (sym (or_false (same A B)))
    ∙ sym split
  where
    or_false : (b : Bool) → (b || false) ≡ b
    or_false true = refl
    or_false false = refl

-- ---- the same sets

all_from_has : (q : Set → Bool) (Xs : List Set) → ((A : Set) → Has A Xs → q A ≡ true) → list_all q Xs ≡ true
all_from_has q [] h = refl
all_from_has q (X ∷ Xs) h = and_from (q X) (list_all q Xs) (h X (or_left (same X X) (list_any (same X) Xs) (same_refl X)))
    (all_from_has q Xs (λ A t. h A (or_right (same A X) (list_any (same A) Xs) t)))

-- lists that have the same sets pass the same tests
pub same_tests : (q : Set → Bool) (Xs Ys : List Set) → ((A : Set) → list_any (same A) Xs ≡ list_any (same A) Ys)
    → list_all q Xs ≡ list_all q Ys
same_tests q Xs Ys h = bool_iff (list_all q Xs) (list_all q Ys)
    (λ a. all_from_has q Ys (λ A t. at_member q A Xs (h A ∙ t) a))
    (λ b. all_from_has q Xs (λ A t. at_member q A Ys (sym (h A) ∙ t) b))

module _ (K : Context) (J : List Rule) (Ps : List Set) (h : SameMembers J (basis_known [] K)) (up : increasing Ps ≡ true)
    (all_there : (A : Set) → list_any (same A) Ps ≡ list_any (same A) (premises J)) where
  closed_members : SameMembers (map (λ P. rule P (closure K P)) Ps) (basis_known [] K)
  unfolding basis_known
  closed_members p =
      let f : Set → Rule = λ P. rule P (closure K P) in
      let N = filter (pseudo_known [] K) (all_sets K.width) in
      list_all-map p f Ps ∙ same_tests (λ P. p (f P)) Ps (premises J) all_there ∙ list_all-map (λ P. p (f P)) (λ (i : Rule). i.premise) J
      ∙ h (λ i. p (f i.premise))
      ∙ list_all-map (λ i. p (f i.premise)) f N ∙ sym (list_all-map p f N)

  -- in order, with their closures, they are the basis
  pub in_order_is_basis : map (λ P. rule P (closure K P)) Ps ≡ basis_known [] K
  in_order_is_basis = sorted_is_basis [] K (map (λ P. rule P (closure K P)) Ps) closed_members (ap increasing (map_back Ps) ∙ up)
    where
      map_back : (Xs : List Set) → premises (map (λ P. rule P (closure K P)) Xs) ≡ Xs
      map_back [] = refl
      map_back (X ∷ Xs) = ap (λ Ys. X ∷ Ys) (map_back Xs)

  pub in_order_wide : AreWide K.width Ps
  in_order_wide = same_tests (λ P. eqb (length P) K.width) Ps (premises J) all_there
      ∙ list_all-map (λ P. eqb (length P) K.width) (λ (i : Rule). i.premise) J ∙ h (λ i. eqb (length i.premise) K.width)
      ∙ basis_all [] K (λ i. eqb (length i.premise) K.width) (λ P e q. eq-eqb (length P) K.width e)

-- ---- closures one after the other

pub closed_more : (f : Set → Rule) (Xs : List Set) (k : ℕ) (X : Set) (old new : List Rule) (i : Rule) → k < length Xs → X ≡ get_or Xs k X
    → old ≡ map f (take k Xs) → i ≡ f X → new ≡ old ++ i ∷ [] → new ≡ map f (take (k + 1) Xs)
closed_more f Xs k X old new i l is o fi n = n ∙ ap₂ (λ js j. js ++ j ∷ []) o fi ∙ sym (map_push (take k Xs))
    ∙ ap (map f) (sym (take_more Xs k X l ∙ ap (λ Y. take k Xs ++ Y ∷ []) (sym is)))
  where
    map_push : (Ys : List Set) → map f (Ys ++ X ∷ []) ≡ map f Ys ++ f X ∷ []
    map_push [] = refl
    map_push (Y ∷ Ys) = ap (λ js. f Y ∷ js) (map_push Ys)

pub set_at : (n k : ℕ) (Xs : List Set) (X : Set) → AreWide n Xs → k < length Xs → X ≡ get_or Xs k X → length X ≡ n
set_at n k Xs X w l is = eqb-true (length X) n
    (ap (λ (Y : Set). eqb (length Y) n) is ∙ AllPass-from_list_all (λ (Y : Set). eqb (length Y) n) Xs w k X l)

-- ---- as the code has it

abbrev pub rule_list : ℕ → List Rule → RuleList
rule_list n ms = record { width = n; members = ms }

module _ (K : Context) (J Js : List Rule) (Ps Qs : List Set) (h : SameMembers J (basis_known [] K)) (slice : Js ≡ J) (copy : Qs ≡ Ps)
    (up : increasing Ps ≡ true) (there : (A : Set) → list_any (same A) Ps ≡ list_any (same A) (premises Js)) where
  all_there : (A : Set) → list_any (same A) Ps ≡ list_any (same A) (premises J)
  all_there A = there A ∙ ap (λ js. list_any (same A) (premises js)) slice

  pub closing_wide : AreWide K.width Qs
  closing_wide = subst (λ Zs. AreWide K.width Zs) (sym copy) (in_order_wide K J Ps h up all_there)

  pub closing_is : (list : RuleList) → list ≡ rule_list K.width (map (λ P. rule P (closure K P)) Qs)
      → list ≡ rule_list K.width (basis_known [] K)
  closing_is list e = e ∙ ap (rule_list K.width) (ap (map (λ P. rule P (closure K P))) copy ∙ in_order_is_basis K J Ps h up all_there)

-- beside nothing
pub of_nothing : (K : Context) (list nothing : RuleList) → nothing ≡ rule_list K.width []
    → list ≡ rule_list K.width (nothing.members ++ basis_known nothing.members K) → list ≡ rule_list K.width (basis_known [] K)
of_nothing K list nothing n e = e ∙ ap (λ (L : RuleList). rule_list K.width (L.members ++ basis_known L.members K)) n

-- the basis is a least basis
pub basis_is_least : (K : Context) (list : RuleList) → list ≡ rule_list K.width (basis_known [] K) → IsLeastBasis K list.members
basis_is_least K list e = subst (λ ms. IsLeastBasis K ms) (sym (ap (λ (l : RuleList). l.members) e))
    (least_from_members K (basis_known [] K) (λ p. refl) refl)
