-- What is recorded of a table, and what the accepted implications are when no question is open.
use Rattle.std.specs.Prelude.{◌≡◌, ◌≤◌, ◌+◌, ◌^◌, true, List, [], ◌++◌, length}
use Rattle.fca_model.specs.Sets.{Set, increasing}
use Rattle.fca_model.specs.Context.{Context}
use Rattle.fca_model.specs.Implications.{Rule, premises, holds, follows, equivalent}
use Rattle.fca_model.specs.Pseudo.{basis_known, intents}
use Rattle.fca_model.specs.Invariant.{SameMembers}

-- Where S is known, the list is the basis beside S but for its order: it has the same members, each once, and in lectic order it is
-- that basis. Just what holds follows from S and the list, and no list that is equivalent beside S has fewer members.
pub record IsBasisBeside (S : List Rule) (K : Context) (J : List Rule) : Type 0 where
  pub members : SameMembers J (basis_known S K)
  pub once : length J ≡ length (basis_known S K)
  pub sorted : (L : List Rule) → SameMembers L J → increasing (premises L) ≡ true → L ≡ basis_known S K
  pub complete : (i : Rule) → length i.premise ≡ K.width → length i.conclusion ≡ K.width
      → holds K i ≡ follows K.width (S ++ J) i
  pub least : (L : List Rule) → equivalent K.width (S ++ L) (S ++ J) ≡ true → length J ≤ length L

-- the list is a basis: nothing is known beside it
abbrev pub IsBasis : Context → List Rule → Type 0
IsBasis K J = IsBasisBeside [] K J

-- The rows of K are those of the table and then the recorded ones. The concepts of the table, the recorded rows and the accepted
-- implications are together no more than there are sets.
pub record HasRecordedRows (table K : Context) (acc : List Rule) : Type 0 where
  pub recorded : List Set
  pub rows : K.rows ≡ table.rows ++ recorded
  pub width : K.width ≡ table.width
  pub count : length (intents table) + length recorded + length acc ≤ 2 ^ table.width
