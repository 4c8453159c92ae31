-- What nearness of signed numbers means, and how it is widened and chained. Assumes nothing.
use Prim.Native.Nat.{ℕ, ◌+◌, ◌*◌, ◌≤◌}
use native.Mathlib.Omega.{arith}
use native.Mathlib.Nat.{mul-le-mul_right, add-mul}
use lib.IntN.{ℤ, pos, nat_abs, ◌-ℤ◌, ◌*ℤ◌}
use Rattle.exact.specs.Near.{NearZ, Within}
use Rattle.exact.proofs.Signed.{by_sign, abs-parts, sub_is, scaled_up, scaled_dn}

-- ---- the relations say what their names say
pub within→ : (e : ℕ) (a b : ℤ) → Within e a b → nat_abs (a -ℤ b) ≤ e
within→ e a b w =
    by_sign (a -ℤ b)
    (λ z. omega (arith, sub_is a b, abs-parts (a -ℤ b), w.low, w.high))
    (λ z. omega (arith, sub_is a b, abs-parts (a -ℤ b), w.low, w.high))

pub within← : (e : ℕ) (a b : ℤ) → nat_abs (a -ℤ b) ≤ e → Within e a b
within← e a b h =
    by_sign (a -ℤ b)
    (λ z. record { low = omega (arith, sub_is a b, abs-parts (a -ℤ b)); high = omega (arith, sub_is a b, abs-parts (a -ℤ b)) })
    (λ z. record { low = omega (arith, sub_is a b, abs-parts (a -ℤ b)); high = omega (arith, sub_is a b, abs-parts (a -ℤ b)) })

-- a coarse number near a fine one is, brought to the fine scale, within as many fine units of it
pub near→within : (K e : ℕ) (a b : ℤ) → NearZ K e a b → Within (e * K) (a *ℤ pos K) b
near→within K e a b n =
    record {
      low = omega (arith, scaled_up a K, scaled_dn a K, n.low);
      high = omega (arith, scaled_up a K, scaled_dn a K, n.high);
    }

pub within→near : (K e : ℕ) (a b : ℤ) → Within (e * K) (a *ℤ pos K) b → NearZ K e a b
within→near K e a b w =
    record {
      low = omega (arith, scaled_up a K, scaled_dn a K, w.low);
      high = omega (arith, scaled_up a K, scaled_dn a K, w.high);
    }

pub near→ : (K e : ℕ) (a b : ℤ) → NearZ K e a b → nat_abs (a *ℤ pos K -ℤ b) ≤ e * K
near→ K e a b n = within→ (e * K) (a *ℤ pos K) b (near→within K e a b n)

pub near← : (K e : ℕ) (a b : ℤ) → nat_abs (a *ℤ pos K -ℤ b) ≤ e * K → NearZ K e a b
near← K e a b h = within→near K e a b (within← (e * K) (a *ℤ pos K) b h)

-- ---- wider bounds, and chains
pub near_wide : (K e e' : ℕ) (a b : ℤ) → e ≤ e' → NearZ K e a b → NearZ K e' a b
near_wide K e e' a b h n =
    record { low = omega (arith, n.low, mul-le-mul_right K h); high = omega (arith, n.high, mul-le-mul_right K h) }

pub near_within : (K e f : ℕ) (a b c : ℤ) → NearZ K e a b → Within (f * K) b c → NearZ K (e + f) a c
near_within K e f a b c n w =
    record { low = omega (arith, n.low, w.low, add-mul e f K); high = omega (arith, n.high, w.high, add-mul e f K) }

pub within_sym : (e : ℕ) (a b : ℤ) → Within e a b → Within e b a
within_sym e a b w = record { low = w.high; high = w.low }
