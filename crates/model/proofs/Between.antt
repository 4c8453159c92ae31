-- Where a signed number lies: from one number to another, both ends included. Sums add the ends; a multiple keeps or turns them by
-- the factor's sign; a division rounded down keeps them; logarithm keeps them. A number near one that lies between two lies there but
-- for the bound. Assumes nothing.
use Prim.Native.Nat.{ℕ, ◌+◌, ◌*◌, ◌≤◌, ◌<◌}
use mathlib.Core.Path.{◌≡◌, ap, ◌∙◌}
use native.Mathlib.Omega.{arith}
use native.Mathlib.Nat.{le_refl, mul-le-mul_left, mul-add, add-mul, zero-mul, le_of_mul-le-mul_right, mul-zero, zero-div}
use lib.IntN.{ℤ, pos, negsuc, ◌+ℤ◌, ◌*ℤ◌, ◌-ℤ◌}
use lib.Signed.{shr_z}
use Rattle.exact.specs.Near.{up, dn, NearZ}
use Rattle.exact.proofs.Signed.{by_sign, add_parts, mul-up, mul-dn, same_parts, sub_is}
use Rattle.exact.proofs.Quotients.{div-le}
use Rattle.exact.proofs.LnExact.{ln_e_mono}
use Rattle.exact.specs.Exact.{ln_e}
use Rattle.model.specs.FineNear.{Between}

-- a number lies at itself
pub between_self : (a : ℤ) → Between a a a
between_self a = record { low = le_refl (up a + dn a); high = le_refl (up a + dn a) }

-- wider ends
pub between_wide :
    {lo hi a : ℤ} (lo' hi' : ℤ) → up lo' + dn lo ≤ up lo + dn lo' → up hi + dn hi' ≤ up hi' + dn hi → Between lo hi a
    → Between lo' hi' a
between_wide lo' hi' l h b = record { low = omega (arith, b.low, l); high = omega (arith, b.high, h) }

-- nothing lies between a number that is not positive and one that is not negative
pub around : (lo hi : ℤ) → up lo ≡ 0 → dn hi ≡ 0 → Between lo hi (pos 0)
around lo hi l h = record { low = omega arith; high = omega arith }

-- one end moved away from nothing
pub between_below : {hi a : ℤ} (lo : ℤ) → up lo ≡ 0 → Between (pos 0) hi a → Between lo hi a
between_below lo l b = record { low = omega (arith, b.low); high = b.high }

pub between_above : {lo a : ℤ} (hi : ℤ) → dn hi ≡ 0 → Between lo (pos 0) a → Between lo hi a
between_above hi h b = record { low = b.low; high = omega (arith, b.high) }

-- the ends of a sum
pub between_add : {lo hi lo' hi' a b : ℤ} → Between lo hi a → Between lo' hi' b → Between (lo +ℤ lo') (hi +ℤ hi') (a +ℤ b)
between_add {lo} {hi} {lo'} {hi'} {a} {b} p q =
    record {
      low = omega (arith, p.low, q.low, add_parts a b, add_parts lo lo');
      high = omega (arith, p.high, q.high, add_parts a b, add_parts hi hi');
    }

-- and of a difference
pub between_sub : {lo hi lo' hi' a b : ℤ} → Between lo hi a → Between lo' hi' b → Between (lo -ℤ hi') (hi -ℤ lo') (a -ℤ b)
between_sub {lo} {hi} {lo'} {hi'} {a} {b} p q =
    record {
      low = omega (arith, p.low, q.high, sub_is a b, sub_is lo hi');
      high = omega (arith, p.high, q.low, sub_is a b, sub_is hi lo');
    }

-- ---- products and quotients keep the order
mul-order : (k : ℕ) (a b : ℤ) → up a + dn b ≤ up b + dn a → k * up a + k * dn b ≤ k * up b + k * dn a
mul-order k a b h = omega (arith, mul-le-mul_left k h, mul-add k (up a) (dn b), mul-add k (up b) (dn a))

-- by a factor that is not negative
pub mul-up-order : (c a b : ℤ) → dn c ≡ 0 → up a + dn b ≤ up b + dn a → up (c *ℤ a) + dn (c *ℤ b) ≤ up (c *ℤ b) + dn (c *ℤ a)
mul-up-order c a b z h =
    rw (mul-up c a, mul-dn c b, mul-up c b, mul-dn c a, z)
    (omega (arith, mul-order (up c) a b h, zero-mul (dn a), zero-mul (up b), zero-mul (dn b), zero-mul (up a)))

-- by one that is not positive
pub mul-dn-order : (c a b : ℤ) → up c ≡ 0 → up a + dn b ≤ up b + dn a → up (c *ℤ b) + dn (c *ℤ a) ≤ up (c *ℤ a) + dn (c *ℤ b)
mul-dn-order c a b z h =
    rw (mul-up c a, mul-dn c b, mul-up c b, mul-dn c a, z)
    (omega (arith, mul-order (dn c) a b h, zero-mul (dn a), zero-mul (up b), zero-mul (dn b), zero-mul (up a)))

-- rounded down
pub floor_order : (a b : ℤ) (D : ℕ) → up a + dn b ≤ up b + dn a → up (shr_z a D) + dn (shr_z b D) ≤ up (shr_z b D) + dn (shr_z a D)
floor_order (pos a) (pos b) D h =
    let k : a ≤ b = omega arith in
    omega (arith, div-le D k)
floor_order (pos a) (negsuc b) D h = absurd (omega arith)
floor_order (negsuc a) (pos b) D h = omega arith
floor_order (negsuc a) (negsuc b) D h =
    let k : b ≤ a = omega arith in
    omega (arith, div-le D k)

-- a coefficient's share, the coefficient not negative, and not positive
pub between_share :
    {lo hi a : ℤ} (D : ℕ) (c : ℤ) → dn c ≡ 0 → Between lo hi a → Between (shr_z (c *ℤ lo) D) (shr_z (c *ℤ hi) D) (shr_z (c *ℤ a) D)
between_share {lo} {hi} {a} D c z b =
    record {
      low = floor_order (c *ℤ lo) (c *ℤ a) D (mul-up-order c lo a z b.low);
      high = floor_order (c *ℤ a) (c *ℤ hi) D (mul-up-order c a hi z b.high);
    }

pub between_turned :
    {lo hi a : ℤ} (D : ℕ) (c : ℤ) → up c ≡ 0 → Between lo hi a → Between (shr_z (c *ℤ hi) D) (shr_z (c *ℤ lo) D) (shr_z (c *ℤ a) D)
between_turned {lo} {hi} {a} D c z b =
    record {
      low = floor_order (c *ℤ hi) (c *ℤ a) D (mul-dn-order c a hi z b.high);
      high = floor_order (c *ℤ a) (c *ℤ lo) D (mul-dn-order c lo a z b.low);
    }

-- a multiple of nothing is nothing, and so is a share
pub mul-nothing : (c : ℤ) → c *ℤ pos 0 ≡ pos 0
mul-nothing c =
    same_parts (c *ℤ pos 0) (pos 0)
    (omega (arith, mul-up c (pos 0), mul-zero (up c), mul-zero (dn c)))
    (omega (arith, mul-dn c (pos 0), mul-zero (up c), mul-zero (dn c)))

pub share_nothing : (D : ℕ) (c : ℤ) → shr_z (c *ℤ pos 0) D ≡ pos 0
share_nothing D c = ap (λ (z : ℤ). shr_z z D) (mul-nothing c) ∙ ap pos (zero-div D)

-- the logarithm grows
pub between_ln : (x y z : ℕ) → 0 < x → x ≤ y → y ≤ z → Between (ln_e x) (ln_e z) (ln_e y)
between_ln x y z hx h k = record { low = ln_e_mono x y hx h; high = ln_e_mono y z (omega arith) k }

-- ---- the parts of a number between two
pub between_dn : {lo hi a : ℤ} → Between lo hi a → dn a ≤ dn lo
between_dn {lo} {hi} {a} b = by_sign a (λ z. omega arith) (λ z. omega (arith, b.low))

pub between_up : {lo hi a : ℤ} → Between lo hi a → up a ≤ up hi
between_up {lo} {hi} {a} b = by_sign a (λ z. omega (arith, b.high)) (λ z. omega arith)

-- a number near one that lies between two: L and H are the ends in coarse units
pub near_between :
    {K e : ℕ} {lo hi a b : ℤ} (L H : ℕ) → 0 < K → dn lo ≤ L * K → up hi ≤ H * K → Between lo hi b → NearZ K e a b
    → (dn a ≤ L + e) × (up a ≤ H + e)
near_between {K} {e} {lo} {hi} {a} {b} L H h_k l h m n =
    by_sign a
    (λ z. (omega arith, cancel (up a) (H + e) (omega (arith, n.low, between_up m, add-mul H e K, gone (dn a) z))))
    (λ z. (cancel (dn a) (L + e) (omega (arith, n.high, between_dn m, add-mul L e K, gone (up a) z)), omega arith))
  where
    gone : (t : ℕ) → t ≡ 0 → t * K ≡ 0
    gone t z = rw z (zero-mul K)

    cancel : (p q : ℕ) → p * K ≤ q * K → p ≤ q
    cancel p q g = le_of_mul-le-mul_right g h_k
