-- Runs of a timed automaton in ticks, and how often they visit accepting locations.
use Rattle.std.specs.Prelude.{◌≡◌, ℕ, ◌+◌, ◌*◌, ◌<◌, ◌≤◌, cond, List, [], ◌∷◌, length, ◌==◌}
use Rattle.std.specs.List.{ContainsAt, AllByRecursion}
use Rattle.sheet.specs.Automata.{Automaton, Edge, location}
use Rattle.sheet.specs.declared.atom.Atom.{Atom}
use Rattle.sheet.specs.declared.atom.Relation.{Relation}
use Rattle.sheet.specs.declared.atom.Relation.TheVariants.{Less, AtMost, Equal, AtLeast, Greater}

-- the number of ticks that each clock shows
abbrev pub Valuation : Type 0
Valuation = ℕ → ℕ

-- every clock at zero
abbrev pub origin : Valuation
origin = λ x. 0

-- every clock after a wait of d ticks
abbrev pub waited : Valuation → ℕ → Valuation
waited v d = λ x. v x + d

-- clock y set to zero
abbrev pub zeroed : Valuation → ℕ → Valuation
zeroed v y = λ x. cond (x == y) 0 (v x)

-- the clocks ys set to zero
abbrev pub all_zeroed : Valuation → List ℕ → Valuation
all_zeroed v [] = v
all_zeroed v (y ∷ ys) = all_zeroed (zeroed v y) ys

-- n compares with c by the relation
abbrev pub Compares : Relation → ℕ → ℕ → Type 0
Compares Less n c = n < c
Compares AtMost n c = n ≤ c
Compares Equal n c = n ≡ c
Compares AtLeast n c = c ≤ n
Compares Greater n c = c < n

-- the atom holds of v at k ticks to the unit
abbrev pub Holds : ℕ → Valuation → Atom → Type 0
Holds k v atom = Compares atom.relation (v atom.clock) (k * atom.constant)

-- 1 at an accepting location, else 0
abbrev pub visit : Automaton → ℕ → ℕ
visit a l = cond (location a l).accepting 1 0

-- a run at k ticks to the unit that has come to location l with valuation v, and its visits so far
pub data Run (a : Automaton) (k : ℕ) : ℕ → Valuation → ℕ → Type 0 where
  starts : a.start < length a.locations → Run a k a.start origin (visit a a.start)
  -- waits d ticks and takes the edge e
  steps : {l n : ℕ} {v : Valuation} (d : ℕ) (e : Edge) → Run a k l v n → ContainsAt a.edges e → e.source ≡ l
      → AllByRecursion (Holds k (waited v d)) (location a l).limit
      → AllByRecursion (Holds k (waited v d)) e.guard
      → AllByRecursion (Holds k (all_zeroed (waited v d) e.resets)) (location a e.target).limit
      → Run a k e.target (all_zeroed (waited v d) e.resets) (n + visit a e.target)

-- no run visits accepting locations more than n times, whatever its length, waits and ticks to the unit
abbrev pub AtMostVisits : Automaton → ℕ → Type 0
AtMostVisits a n = (k l visits : ℕ) (v : Valuation) → 0 < k → Run a k l v visits → visits ≤ n
