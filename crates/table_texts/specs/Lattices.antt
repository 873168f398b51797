-- The concepts of a context and their covers.
use Rattle.std.specs.Prelude.{◌≡◌, map}
use Rattle.fca_model.specs.Context.{Context}
use Rattle.fca_model.specs.Pseudo.{covers, intents}
use Rattle.packed_concepts.specs.Pages.{concepts_on}
use Rattle.concept_walk.specs.Gatherings.{concept_at}
use Rattle.table_texts.specs.declared.lattice.Lattice.{Lattice}

-- the pages have the concepts, and the list the covers
pub record IsLattice (K : Context) (lattice : Lattice) : Type 0 where
  pub pages : concepts_on lattice.pages ≡ map (concept_at K) (intents K)
  pub pairs : lattice.covers.items ≡ covers K
