-- Branches of the tree of intents, and the gatherings that have their concepts.
use Rattle.std.specs.Prelude.{◌≡◌, ◌<◌, ◌≤◌, ℕ, true, List, length, slice_index_or}
use Rattle.std.specs.List.{flat_map}
use denote.Ref.{Bor}
use Rattle.fca_model.specs.Sets.{Set}
use Rattle.fca_model.specs.Context.{Context, extent, is_closed}
use Rattle.lectic_concepts.specs.Branches.{branch, AreWitnesses}
use Rattle.concept_walk.specs.Gatherings.{IsGathering}
use Rattle.concept_walk.specs.declared.gathering.Gathering.{Gathering}
use Rattle.table_texts.specs.declared.tops.Top.{Top}

-- what a walk of the branch begins with
pub record IsTop (K : Context) {W : ℕ} (top : Top W) : Type 0 where
  pub wide : length top.intent ≡ K.width
  pub closed : is_closed K top.intent ≡ true
  pub inside : top.from ≤ K.width
  pub places : top.places.items ≡ extent K top.intent
  pub witnesses : AreWitnesses K top.intent top.witnesses.items

-- the intents of the branches, one branch behind the other
abbrev pub branches : Context → {W : ℕ} → List (Top W) → List Set
branches K tops = flat_map (λ top. branch K top.intent top.from) tops

-- the intents of the branches of all jobs, one job behind the other
abbrev pub all_branches : Context → {W : ℕ} → List (Bor (List (Top W))) → List Set
all_branches K jobs = flat_map (λ job. branches K job.now) jobs

-- the gathering has the concepts of the branches, unless one is missing
abbrev pub HasGathered : Context → {W : ℕ} → Gathering W → List (Top W) → Type 0
HasGathered K gathering job = gathering.whole ≡ true → IsGathering K gathering (branches K job)

-- each gathering has those of the job at its place
abbrev pub EachGathered : Context → {W : ℕ} → List (Gathering W) → List (Bor (List (Top W))) → Type 0
EachGathered K gatherings jobs = (i : ℕ) (p : _) (j : _) → i < length jobs → HasGathered K (slice_index_or gatherings i p) (slice_index_or jobs i j).now
