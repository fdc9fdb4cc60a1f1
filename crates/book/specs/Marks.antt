-- Places by their fields alone, whatever the kind of zone.
use Rattle.std.specs.Prelude.{◌≡◌, ℕ, ◌<◌, Bool, true, false, cond, List, length, take, replicate, slice_index_or}
use Rattle.book.specs.declared.place.Place.{Place}

-- leaning on no place
abbrev pub none : List Bool
none = replicate 64 false

module _ {Row : Type 0} where
  -- p is place i of the first 64
  pub record IsPlace (ps : List (Place Row)) (i : ℕ) (p : Place Row) : Type 0 where
    pub within : i < length (take 64 ps)
    pub is : (d : Place Row) → p ≡ slice_index_or (take 64 ps) i d

  -- a node as it is put: no mark and no leans
  abbrev pub fresh : ℕ → ℕ → Row → Place Row
  fresh location number zone = record { standing = true; marked = false; leans = none; location = location; number = number; zone = zone }

  abbrev pub vacant_with : Row → Place Row
  vacant_with zone = record { standing = false; marked = false; leans = none; location = 0; number = 0; zone = zone }

  abbrev pub with_marks : Bool → List Bool → Place Row → Place Row
  with_marks marked leans p = record { standing = p.standing; marked = marked; leans = leans; location = p.location; number = p.number; zone = p.zone }

  -- without mark and leans, if it leans on place i
  abbrev pub unleaned : ℕ → Place Row → Place Row
  unleaned i p = cond (slice_index_or p.leans i false) (with_marks false none p) p
