-- The number of every relation.
use Rattle.std.specs.Prelude.{ℕ, cond, List, [], ◌∷◌, Some, None, Option, ◌==◌}
use Rattle.sheet.specs.declared.atom.Relation.{Relation}
use Rattle.sheet.specs.declared.atom.Relation.TheVariants.{Less, AtMost, Equal, AtLeast, Greater}

abbrev pub number_of : Relation → ℕ
number_of Less = 0
number_of AtMost = 1
number_of Equal = 2
number_of AtLeast = 3
number_of Greater = 4

abbrev pub all_relations : List Relation
all_relations = Less ∷ AtMost ∷ Equal ∷ AtLeast ∷ Greater ∷ []

-- the first of some relations that has number n
abbrev pub relation_among : ℕ → List Relation → Option Relation
relation_among n [] = None
relation_among n (r ∷ rs) = cond (n == number_of r) (Some r) (relation_among n rs)

-- the relation that has number n
abbrev pub relation_of : ℕ → Option Relation
relation_of n = relation_among n all_relations
