-- The order and the sum of bounds, and what they say of readings.
use Rattle.std.specs.Prelude.{◌≡◌, ℕ, zero, suc, ◌+◌, ◌*◌, ◌<◌, ◌≤◌, true, false, T, ℤ, pos, negsuc, ◌+ℤ◌, int_le, int_lt, refl}
use Rattle.std.proofs.Common.{ap, arith, mul-le-mul_left}
use Rattle.std.proofs.lemmas.Int.{ints}
use Rattle.std.proofs.lemmas.Bool.{true≢false, cond_both}
use borrow.Author.Differences.{up, down, sum_is_lem}
use Rattle.zone.specs.declared.bound.Bound.{Bound}
use Rattle.zone.specs.declared.bound.Bound.TheVariants.{Free, AtMost, Below}
use Rattle.zone.specs.Bounds.{implies, tighter, plus, Obeys}
use Rattle.zone.specs.Valuations.{Bounded}
use Rattle.zone.specs.Truth.{so}

pub implies_refl : (a : Bound) → T (implies a a)
implies_refl Free = tt
implies_refl (AtMost c) = omega (arith, ints)
implies_refl (Below c) = omega (arith, ints)

pub implies_trans : (a b c : Bound) → T (implies a b) → T (implies b c) → T (implies a c)
implies_trans a b Free h k = tt
implies_trans a Free (AtMost e) h k = absurd k
implies_trans Free (AtMost d) (AtMost e) h k = absurd h
implies_trans (AtMost c) (AtMost d) (AtMost e) h k = omega (arith, ints)
implies_trans (Below c) (AtMost d) (AtMost e) h k = omega (arith, ints)
implies_trans Free (Below d) (AtMost e) h k = absurd h
implies_trans (AtMost c) (Below d) (AtMost e) h k = omega (arith, ints)
implies_trans (Below c) (Below d) (AtMost e) h k = omega (arith, ints)
implies_trans a Free (Below e) h k = absurd k
implies_trans Free (AtMost d) (Below e) h k = absurd h
implies_trans (AtMost c) (AtMost d) (Below e) h k = omega (arith, ints)
implies_trans (Below c) (AtMost d) (Below e) h k = omega (arith, ints)
implies_trans Free (Below d) (Below e) h k = absurd h
implies_trans (AtMost c) (Below d) (Below e) h k = omega (arith, ints)
implies_trans (Below c) (Below d) (Below e) h k = omega (arith, ints)

pub implies_else : (a b : Bound) → implies a b ≡ false → T (implies b a)
implies_else a Free e = absurd (true≢false e)
implies_else Free (AtMost d) e = tt
implies_else (AtMost c) (AtMost d) e = omega (arith, ints)
implies_else (Below c) (AtMost d) e = omega (arith, ints)
implies_else Free (Below d) e = tt
implies_else (AtMost c) (Below d) e = omega (arith, ints)
implies_else (Below c) (Below d) e = omega (arith, ints)

pub implies_both : (a b : Bound) → T (implies a b) → T (implies b a) → a ≡ b
implies_both Free Free h k = refl
implies_both (AtMost c) Free h k = absurd k
implies_both (Below c) Free h k = absurd k
implies_both Free (AtMost d) h k = absurd h
implies_both (AtMost c) (AtMost d) h k = ap AtMost (omega (arith, ints))
implies_both (Below c) (AtMost d) h k = absurd (omega (arith, ints))
implies_both Free (Below d) h k = absurd h
implies_both (AtMost c) (Below d) h k = absurd (omega (arith, ints))
implies_both (Below c) (Below d) h k = ap Below (omega (arith, ints))

pub plus_more : (a b c d : Bound) → T (implies a c) → T (implies b d) → T (implies (plus a b) (plus c d))
plus_more a b Free d h k = tt
plus_more a b (AtMost m) Free h k = tt
plus_more Free b (AtMost m) (AtMost n) h k = absurd h
plus_more (AtMost i) Free (AtMost m) (AtMost n) h k = absurd k
plus_more (AtMost i) (AtMost j) (AtMost m) (AtMost n) h k = omega (arith, ints)
plus_more (AtMost i) (Below j) (AtMost m) (AtMost n) h k = omega (arith, ints)
plus_more (Below i) Free (AtMost m) (AtMost n) h k = absurd k
plus_more (Below i) (AtMost j) (AtMost m) (AtMost n) h k = omega (arith, ints)
plus_more (Below i) (Below j) (AtMost m) (AtMost n) h k = omega (arith, ints)
plus_more Free b (AtMost m) (Below n) h k = absurd h
plus_more (AtMost i) Free (AtMost m) (Below n) h k = absurd k
plus_more (AtMost i) (AtMost j) (AtMost m) (Below n) h k = omega (arith, ints)
plus_more (AtMost i) (Below j) (AtMost m) (Below n) h k = omega (arith, ints)
plus_more (Below i) Free (AtMost m) (Below n) h k = absurd k
plus_more (Below i) (AtMost j) (AtMost m) (Below n) h k = omega (arith, ints)
plus_more (Below i) (Below j) (AtMost m) (Below n) h k = omega (arith, ints)
plus_more a b (Below m) Free h k = tt
plus_more Free b (Below m) (AtMost n) h k = absurd h
plus_more (AtMost i) Free (Below m) (AtMost n) h k = absurd k
plus_more (AtMost i) (AtMost j) (Below m) (AtMost n) h k = omega (arith, ints)
plus_more (AtMost i) (Below j) (Below m) (AtMost n) h k = omega (arith, ints)
plus_more (Below i) Free (Below m) (AtMost n) h k = absurd k
plus_more (Below i) (AtMost j) (Below m) (AtMost n) h k = omega (arith, ints)
plus_more (Below i) (Below j) (Below m) (AtMost n) h k = omega (arith, ints)
plus_more Free b (Below m) (Below n) h k = absurd h
plus_more (AtMost i) Free (Below m) (Below n) h k = absurd k
plus_more (AtMost i) (AtMost j) (Below m) (Below n) h k = omega (arith, ints)
plus_more (AtMost i) (Below j) (Below m) (Below n) h k = omega (arith, ints)
plus_more (Below i) Free (Below m) (Below n) h k = absurd k
plus_more (Below i) (AtMost j) (Below m) (Below n) h k = omega (arith, ints)
plus_more (Below i) (Below j) (Below m) (Below n) h k = omega (arith, ints)

pub plus_assoc : (a b c : Bound) → plus (plus a b) c ≡ plus a (plus b c)
plus_assoc Free b c = refl
plus_assoc (AtMost i) Free c = refl
plus_assoc (AtMost i) (AtMost j) Free = refl
plus_assoc (AtMost i) (AtMost j) (AtMost k) = ap AtMost (omega (arith, ints))
plus_assoc (AtMost i) (AtMost j) (Below k) = ap Below (omega (arith, ints))
plus_assoc (AtMost i) (Below j) Free = refl
plus_assoc (AtMost i) (Below j) (AtMost k) = ap Below (omega (arith, ints))
plus_assoc (AtMost i) (Below j) (Below k) = ap Below (omega (arith, ints))
plus_assoc (Below i) Free c = refl
plus_assoc (Below i) (AtMost j) Free = refl
plus_assoc (Below i) (AtMost j) (AtMost k) = ap Below (omega (arith, ints))
plus_assoc (Below i) (AtMost j) (Below k) = ap Below (omega (arith, ints))
plus_assoc (Below i) (Below j) Free = refl
plus_assoc (Below i) (Below j) (AtMost k) = ap Below (omega (arith, ints))
plus_assoc (Below i) (Below j) (Below k) = ap Below (omega (arith, ints))

pub plus_comm : (a b : Bound) → plus a b ≡ plus b a
plus_comm Free Free = refl
plus_comm Free (AtMost j) = refl
plus_comm Free (Below j) = refl
plus_comm (AtMost i) Free = refl
plus_comm (AtMost i) (AtMost j) = ap AtMost (omega (arith, ints))
plus_comm (AtMost i) (Below j) = ap Below (omega (arith, ints))
plus_comm (Below i) Free = refl
plus_comm (Below i) (AtMost j) = ap Below (omega (arith, ints))
plus_comm (Below i) (Below j) = ap Below (omega (arith, ints))

pub plus_zero : (a : Bound) → plus a (AtMost (pos 0)) ≡ a
plus_zero Free = refl
plus_zero (AtMost c) = ap AtMost (omega (arith, ints))
plus_zero (Below c) = ap Below (omega (arith, ints))

pub zero_plus : (a : Bound) → plus (AtMost (pos 0)) a ≡ a
zero_plus Free = refl
zero_plus (AtMost c) = ap AtMost (omega (arith, ints))
zero_plus (Below c) = ap Below (omega (arith, ints))

pub plus_free : (a : Bound) → plus a Free ≡ Free
plus_free Free = refl
plus_free (AtMost c) = refl
plus_free (Below c) = refl

pub tighter_of : (P : Bound → Type 0) (a b : Bound) → P a → P b → P (tighter a b)
tighter_of P a b h k = cond_both (implies a b) a b P (λ _. h) (λ _. k)

pub tighter_left : (a b : Bound) → T (implies (tighter a b) a)
tighter_left a b = cond_both (implies a b) a b (λ x. T (implies x a)) (λ _. implies_refl a) (λ e. implies_else a b e)

pub tighter_right : (a b : Bound) → T (implies (tighter a b) b)
tighter_right a b = cond_both (implies a b) a b (λ x. T (implies x b)) (λ e. so (implies a b) e) (λ _. implies_refl b)

-- ---- readings

least_out : (k : ℕ) (c : ℤ) (x y : ℕ) → Bounded k false c x y → x + k * down c ≤ y + k * up c
least_out k (pos c) x y h = omega arith
least_out k (negsuc c) x y h = omega arith

pub least_in : (k : ℕ) (c : ℤ) (x y : ℕ) → x + k * down c ≤ y + k * up c → Bounded k false c x y
least_in k (pos c) x y h = omega arith
least_in k (negsuc c) x y h = omega arith

strict_out : (k : ℕ) (c : ℤ) (x y : ℕ) → Bounded k true c x y → x + k * down c < y + k * up c
strict_out k (pos c) x y h = omega arith
strict_out k (negsuc c) x y h = omega arith

pub strict_in : (k : ℕ) (c : ℤ) (x y : ℕ) → x + k * down c < y + k * up c → Bounded k true c x y
strict_in k (pos c) x y h = omega arith
strict_in k (negsuc c) x y h = omega arith

sum_times : (k : ℕ) (c d : ℤ) → k * up (c +ℤ d) + k * down c + k * down d ≡ k * down (c +ℤ d) + k * up c + k * up d
sum_times k c d = omega (arith, ap (λ t. k * t) (sum_is_lem c d))

pub obeys_plus : (k : ℕ) (a b : Bound) (x y z : ℕ) → Obeys k a x y → Obeys k b y z → Obeys k (plus a b) x z
obeys_plus k Free b x y z h i = tt
obeys_plus k (AtMost c) Free x y z h i = tt
obeys_plus k (AtMost c) (AtMost d) x y z h i = least_in k (c +ℤ d) x z (omega (arith, least_out k c x y h, least_out k d y z i, sum_times k c d))
obeys_plus k (AtMost c) (Below d) x y z h i = strict_in k (c +ℤ d) x z (omega (arith, least_out k c x y h, strict_out k d y z i, sum_times k c d))
obeys_plus k (Below c) Free x y z h i = tt
obeys_plus k (Below c) (AtMost d) x y z h i = strict_in k (c +ℤ d) x z (omega (arith, strict_out k c x y h, least_out k d y z i, sum_times k c d))
obeys_plus k (Below c) (Below d) x y z h i = strict_in k (c +ℤ d) x z (omega (arith, strict_out k c x y h, strict_out k d y z i, sum_times k c d))

le_times : (k : ℕ) (c d : ℤ) → T (int_le c d) → k * up c + k * down d ≤ k * up d + k * down c
le_times k c d h = let e : up c + down d ≤ up d + down c = omega (arith, ints) in omega (arith, mul-le-mul_left k e)

lt_times : (k : ℕ) (c d : ℤ) → T (int_lt c d) → k * up c + k * down d + k ≤ k * up d + k * down c
lt_times k c d h = let e : up c + down d + 1 ≤ up d + down c = omega (arith, ints) in omega (arith, mul-le-mul_left k e)

pub obeys_weaker : (k : ℕ) (a b : Bound) (x y : ℕ) → 0 < k → T (implies a b) → Obeys k a x y → Obeys k b x y
obeys_weaker k a Free x y p i h = tt
obeys_weaker k Free (AtMost d) x y p i h = absurd i
obeys_weaker k (AtMost c) (AtMost d) x y p i h = least_in k d x y (omega (arith, least_out k c x y h, le_times k c d i))
obeys_weaker k (Below c) (AtMost d) x y p i h = least_in k d x y (omega (arith, strict_out k c x y h, le_times k c d i))
obeys_weaker k Free (Below d) x y p i h = absurd i
obeys_weaker k (AtMost c) (Below d) x y p i h = strict_in k d x y (omega (arith, least_out k c x y h, lt_times k c d i))
obeys_weaker k (Below c) (Below d) x y p i h = strict_in k d x y (omega (arith, strict_out k c x y h, le_times k c d i))

-- no reading differs from itself by less than 0
pub obeys_itself : (k : ℕ) (a : Bound) (x : ℕ) → 0 < k → Obeys k a x x → T (implies (AtMost (pos 0)) a)
obeys_itself k Free x p h = tt
obeys_itself k (AtMost (pos c)) x p h = omega (arith, ints)
obeys_itself k (AtMost (negsuc c)) x p h = absurd (omega arith)
obeys_itself k (Below (pos zero)) x p h = absurd (omega arith)
obeys_itself k (Below (pos (suc c))) x p h = omega (arith, ints)
obeys_itself k (Below (negsuc c)) x p h = absurd (omega arith)

pub obeys_zero : (k : ℕ) (a : Bound) (x : ℕ) → 0 < k → T (implies (AtMost (pos 0)) a) → Obeys k a x x
obeys_zero k a x p i = obeys_weaker k (AtMost (pos 0)) a x x p i (omega arith)

-- the same wait on both sides, and on the second alone
pub obeys_waited : (k : ℕ) (a : Bound) (x y d : ℕ) → Obeys k a x y → Obeys k a (x + d) (y + d)
obeys_waited k Free x y d h = tt
obeys_waited k (AtMost (pos c)) x y d h = omega arith
obeys_waited k (AtMost (negsuc c)) x y d h = omega arith
obeys_waited k (Below (pos c)) x y d h = omega arith
obeys_waited k (Below (negsuc c)) x y d h = omega arith

pub obeys_later : (k : ℕ) (a : Bound) (x y d : ℕ) → Obeys k a x y → Obeys k a x (y + d)
obeys_later k Free x y d h = tt
obeys_later k (AtMost (pos c)) x y d h = omega arith
obeys_later k (AtMost (negsuc c)) x y d h = omega arith
obeys_later k (Below (pos c)) x y d h = omega arith
obeys_later k (Below (negsuc c)) x y d h = omega arith
