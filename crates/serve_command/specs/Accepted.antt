-- The ends that a listener gave and those that it took back.
use Rattle.std.specs.Prelude.{◌≡◌, ◌≤◌, ◌<◌, ◌+◌, ◌⊎◌, ⊤, ℕ, length, Option, None, Some, List, ◌++◌}
use Rattle.fca_io.specs.Links.{Ends}
use Rattle.command_io.specs.declared.stop.Stop.{Stop}
use Rattle.command_io.specs.declared.stop.Stop.TheVariants.{ListenerFault, Memory}

module _ {E : Type 0} where
  -- these were the first ends to come, and nothing else changed
  abbrev pub TookFirst : Option (Ends E) → Option (Ends E) → List E → Type 0
  TookFirst None new taken = ⊤
  TookFirst (Some old) new taken = (later : List E) × (old.to_come ≡ taken ++ later) × (new ≡ Some (record old { to_come = later }))

  -- there is room for so many more ends to be given back
  abbrev pub HasRoomFor : Option (Ends E) → ℕ → Type 0
  HasRoomFor None n = ⊤
  HasRoomFor (Some ends) n = length ends.given + length ends.to_come + n ≤ ends.room

  -- these ends were given back after those before, and nothing else changed
  abbrev pub GaveBack : Option (Ends E) → Option (Ends E) → List E → Type 0
  GaveBack None new given = ⊤
  GaveBack (Some old) new given = new ≡ Some (record old { given = old.given ++ given })

  -- the first ends to come were taken, and given back in their order as they are now
  abbrev pub TookAndGave : Option (Ends E) → Option (Ends E) → List E → List E → Type 0
  TookAndGave None new taken given = ⊤
  TookAndGave (Some old) new taken given =
      (later : List E) × (old.to_come ≡ taken ++ later)
      × (new ≡ Some (record { to_come = later; given = old.given ++ given; room = old.room }))

  -- fewer ends came than the count: those that came were given back as they were, and the listener failed or memory ran out
  pub record FallsShort (count : ℕ) (old new : Option (Ends E)) (rose : Type 0) (stop : Stop) : Type 0 where
    pub taken : List E
    pub ends : TookAndGave old new taken taken
    pub few : length taken ≤ count
    pub fewer : stop ≡ ListenerFault → length taken < count
    pub fault : stop ≡ ListenerFault → rose
    pub cause : (stop ≡ ListenerFault) ⊎ (stop ≡ Memory)
