-- Ends are taken and given back one by one: each end taken is the first to come behind those taken before, and each end given back
-- stands behind those given back before, since there is room for as many as were taken.
use Rattle.std.proofs.Common.{◌≡◌, ◌∙◌, ◌<◌, ◌≤◌, ◌+◌, ◌++◌, ◌∷◌, [], ℕ, List, Option, Some, None, inl, inr, length, length-append, refl}
use Rattle.std.proofs.Common.{sym, ap, subst, append_assoc, append-nil, arith}
use Rattle.std.specs.Prelude.{option_map}
use Rattle.std.proofs.lemmas.Bool.{lt-ltb}
use Rattle.fca_io.specs.Links.{Ends, AcceptsFirst, with_given, IsWithinRoom}
use Rattle.command_io.specs.declared.stop.Stop.{Stop}
use Rattle.command_io.specs.declared.stop.Stop.TheVariants.{ListenerFault, Memory}
use Rattle.serve_command.specs.Accepted.{TookFirst, GaveBack, TookAndGave, HasRoomFor, FallsShort}

module _ {E : Type 0} where
  pub TookFirst-none : (a : Option (Ends E)) → TookFirst a a []
  TookFirst-none None = tt
  TookFirst-none (Some old) = (old.to_come, refl, refl)

  pub TookFirst-more : (a b c : Option (Ends E)) (taken : List E) (end : E) → TookFirst a b taken → AcceptsFirst b c end
      → TookFirst a c (taken ++ end ∷ [])
  TookFirst-more None b c taken end took gives = tt
  TookFirst-more (Some old) b c taken end took gives =
      let P : Option (Ends E) → Type 0 = λ x. AcceptsFirst x c end in
      let next = subst P took.2 gives in
      (next.0, took.1 ∙ ap (λ l. taken ++ l) next.1 ∙ sym (append_assoc taken (end ∷ []) next.0), next.2)

  pub GaveBack-none : (a : Option (Ends E)) → GaveBack a a []
  GaveBack-none None = tt
  GaveBack-none (Some old) = ap (λ l. Some (record old { given = l })) (sym (append-nil old.given))

  with_given-room : (end : E) (ends : Ends E) → length ends.given + length ends.to_come < ends.room
      → with_given end ends ≡ record ends { given = ends.given ++ end ∷ [] }
  with_given-room end ends room = rw (lt-ltb _ _ room) refl

  pub GaveBack-more : (a b c : Option (Ends E)) (given : List E) (end : E) (n : ℕ) → HasRoomFor a n → length given < n → GaveBack a b given
      → c ≡ option_map (with_given end) b → GaveBack a c (given ++ end ∷ [])
  GaveBack-more None b c given end n room fewer gave is = tt
  GaveBack-more (Some old) b c given end n room fewer gave is =
      let now : Ends E = record old { given = old.given ++ given } in
      let long = length-append old.given given in
      let fits : length now.given + length now.to_come < now.room = omega (arith, long) in
      is ∙ ap (option_map (with_given end)) gave ∙ ap Some (with_given-room end now fits)
      ∙ ap (λ l. Some (record old { given = l })) (append_assoc old.given given (end ∷ []))

  pub TookAndGave-both : (a b c : Option (Ends E)) (taken given : List E) → IsWithinRoom a → length given ≡ length taken
      → TookFirst a b taken
      → (HasRoomFor b (length given) → GaveBack b c given) → TookAndGave a c taken given
  TookAndGave-both None b c taken given within same took gave = tt
  TookAndGave-both (Some old) b c taken given within same took gave =
      let P : Option (Ends E) → Type 0 = λ x. (HasRoomFor x (length given) → GaveBack x c given) in
      let all = ap length took.1 ∙ length-append taken took.0 in
      let fits : length old.given + length took.0 + length given ≤ old.room = omega (arith, within, all) in
      (took.0, took.1, subst P took.2 gave fits)

  pub TookAndGave-none : (a : Option (Ends E)) → TookAndGave a a [] []
  TookAndGave-none None = tt
  TookAndGave-none (Some old) = (old.to_come, refl, ap (λ l. Some (record old { given = l })) (sym (append-nil old.given)))

  -- ---- too few ends

  pub short-memory : (count : ℕ) (a : Option (Ends E)) (rose : Type 0) (s : Stop) → s ≡ Memory → FallsShort count a a rose s
  short-memory count a rose s memory = record {
    taken = [];
    ends = TookAndGave-none a;
    few = omega arith;
    fewer = λ listener. cc;
    fault = λ listener. cc;
    cause = inr memory;
  }

  pub short-some : (count : ℕ) (a c : Option (Ends E)) (taken : List E) (rose : Type 0) (s : Stop) → TookAndGave a c taken taken
      → length taken < count → rose → s ≡ ListenerFault
      → FallsShort count a c rose s
  short-some count a c taken rose s served fewer risen listener = record {
    taken = taken;
    ends = served;
    few = omega arith;
    fewer = λ _. fewer;
    fault = λ _. risen;
    cause = inl listener;
  }

  pub short-none : (count : ℕ) (a b : Option (Ends E)) (rose : Type 0) (s : Stop) → b ≡ a → 1 ≤ count → rose → s ≡ ListenerFault
      → FallsShort count a b rose s
  short-none count a b rose s same some risen listener =
      let P : Option (Ends E) → Type 0 = λ x. TookAndGave a x [] [] in
      short-some count a b [] rose s (subst P (sym same) (TookAndGave-none a)) (omega arith) risen listener

  -- another fault rose where this one did, and nothing changed before
  pub short-behind : (count : ℕ) (a b c : Option (Ends E)) (rose rose' : Type 0) (s : Stop) → b ≡ a → (rose → rose')
      → FallsShort count b c rose s → FallsShort count a c rose' s
  short-behind count a b c rose rose' s same more short =
      let P : Option (Ends E) → Type 0 = λ x. TookAndGave x c short.taken short.taken in
      record {
        taken = short.taken;
        ends = subst P same short.ends;
        few = short.few;
        fewer = short.fewer;
        fault = λ listener. more (short.fault listener);
        cause = short.cause;
      }
