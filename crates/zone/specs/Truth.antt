-- Tests that are true.
use Rattle.std.specs.Prelude.{◌≡◌, Bool, true, false, T, refl}
use Rattle.std.proofs.Common.{sym, subst}

pub so : (t : Bool) → t ≡ true → T t
so t e = subst T (sym e) tt

pub is_true : (t : Bool) → T t → t ≡ true
is_true true h = refl
is_true false h = absurd h
