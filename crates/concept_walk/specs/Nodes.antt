-- Nodes of the tree of intents, and the attributes from which a child may come.
use Rattle.std.specs.Prelude.{◌≡◌, ◌≤◌, ℕ, true, length}
use Rattle.fca_model.specs.Sets.{Set}
use Rattle.fca_model.specs.Context.{Context, extent, is_closed}
use Rattle.lectic_concepts.specs.Branches.{AreWitnesses}
use Rattle.extent_places.specs.Few.{AreFew}
use Rattle.extent_places.specs.Tries.{AreAttributesToTry}
use Rattle.extent_places.specs.declared.few.FewObjects.{FewObjects}
use Rattle.concept_walk.specs.declared.node.Node.{Node}
use Rattle.concept_walk.specs.declared.node.Candidates.{Candidates}
use Rattle.concept_walk.specs.declared.few_branch.FewNode.{FewNode}

-- the node is at an intent, with the places of its objects
pub record IsNode (K : Context) {W : ℕ} (node : Node W) : Type 0 where
  pub wide : length node.intent.now ≡ K.width
  pub closed : is_closed K node.intent.now ≡ true
  pub places : node.places.now ≡ extent K node.intent.now
  pub inside : node.from ≤ K.width
  pub witnesses : AreWitnesses K node.intent.now node.witnesses.now

-- the node is at an intent, whose objects are some of few
pub record IsFewNode (K : Context) {W : ℕ} (few : FewObjects W) (node : FewNode W) : Type 0 where
  pub wide : length node.intent.now ≡ K.width
  pub closed : is_closed K node.intent.now ≡ true
  pub objects : AreFew K node.intent.now few node.objects.now
  pub inside : node.from ≤ K.width
  pub witnesses : AreWitnesses K node.intent.now node.witnesses.now

-- a child of A comes from one of these attributes
pub record AreCandidates (K : Context) {W : ℕ} (A : Set) (candidates : Candidates W) : Type 0 where
  pub wide : length candidates.tries ≡ K.width
  pub tries : AreAttributesToTry K A candidates.tries
  pub inside : candidates.end ≤ K.width
