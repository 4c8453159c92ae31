-- Lengths and sines at the program's scale (dashed) and at the exact one. k exact units are a unit of the sines, 10^-9; K are a tenth
-- of a millimetre and S a metre. The three stay variables here. Assumes nothing.
use Prim.Native.Nat.{ℕ, ◌+◌, ◌*◌, ◌/◌, ◌≤◌, ◌<◌}
use mathlib.Core.Path.{◌≡◌, sym, ap, ◌∙◌}
use native.Mathlib.Omega.{arith}
use native.Mathlib.Nat.{le_trans, le_of_eq, mul_assoc, mul_left_comm, mul-mul-mul_comm, mul-le-mul_left, mul-le-mul_right, div-mul-le_self}
use Rattle.exact.proofs.Quotients.{cancel, over_quot}

pub record Scale (S K k : ℕ) : Type 0 where
  pub S-is : S ≡ 1000000000 * k
  pub K-is : K ≡ 100000 * k
  pub big : 1000000000000000000000 ≤ k

-- a units of M are b, but for e of them
pub record Near (M e a b : ℕ) : Type 0 where
  pub low : a * M ≤ b + e * M
  pub high : b ≤ a * M + e * M

pub widen : {M e a b : ℕ} (f : ℕ) → e ≤ f → Near M e a b → Near M f a b
widen {M} {e} f h n =
    let l : e * M ≤ f * M = mul-le-mul_right M h in
    record { low = omega arith; high = omega arith }

module _ {S K k : ℕ} (scale : Scale S K k) where
  pub S_pos : 0 < S
  S_pos = omega arith

  pub K-pos : 0 < K
  K-pos = omega arith

  pub tenths : S ≡ 10000 * K
  tenths = omega arith

  -- a few exact units of area for each unit of length are less than the square of a tenth of a millimetre
  pub speck : 1000000000000000 * S ≤ K * K
  speck = omega (arith, mul-le-mul_right (10000000000 * k) scale.big, squared, scale.S-is)
    where
      squared : K * K ≡ k * (10000000000 * k)
      squared =
          ap (λ (t : ℕ). t * t) scale.K-is ∙ mul-mul-mul_comm 100000 k 100000 k ∙ mul_left_comm 10000000000 k k

  -- whole metres in tenths of a millimetre
  pub metres : (n : ℕ) → 10000 * n * K ≡ n * S
  metres n = mul_assoc 10000 n K ∙ mul_left_comm 10000 n K ∙ ap (λ (t : ℕ). n * t) (sym tenths)

  pub metres-near : (n : ℕ) → Near K 0 (10000 * n) (n * S)
  metres-near n = record { low = omega (arith, metres n); high = omega (arith, metres n) }

  -- K k is a tenth of a millimetre times a unit of the sines
  pub sine_unit : K * S ≡ 1000000000 * (K * k)
  sine_unit = ap (λ (t : ℕ). K * t) scale.S-is ∙ mul_left_comm K 1000000000 k

  sine_units : (n : ℕ) → n * K * S ≡ n * 1000000000 * (K * k)
  sine_units n = ap (λ (t : ℕ). n * K * t) scale.S-is ∙ sym (mul-mul-mul_comm n 1000000000 K k)

  -- a length times a sine, not yet divided: the length off by e, the sine by 2, the length at most g half billions
  pub product-near : {e x' s' x s : ℕ} (g : ℕ) → Near K e x' x → Near k 2 s' s → s ≤ S → 2 * x' ≤ g * 1000000000
      → Near (K * k) ((e + g) * 1000000000) (x' * s') (x * s)
  product-near {e} {x'} {s'} {x} {s} g nx ns hs hg =
      let sine : x' * K * (2 * k) ≤ g * 1000000000 * (K * k) =
      le_trans (le_of_eq (mul-mul-mul_comm x' K 2 k)) (mul-le-mul_right (K * k) (omega arith)) in
      let length : e * K * s ≤ e * 1000000000 * (K * k) = le_trans (mul-le-mul_left (e * K) hs) (le_of_eq (sine_units e)) in
      record {
        low =
            omega (arith, mul-le-mul_left (x' * K) ns.low, mul-le-mul_right s nx.low);
        high =
            omega (arith, mul-le-mul_left (x' * K) ns.high, mul-le-mul_right s nx.high);
      }

  -- few exact units are less than a tenth of a millimetre
  pub few : (m : ℕ) → m ≤ 100000000 → m ≤ K
  few m h = omega arith

  -- and divided, rounded down at both scales: q is x s / S but for m exact units
  pub mul-near : {e x' s' x s q : ℕ} (g m : ℕ) → Near K e x' x → Near k 2 s' s → s ≤ S → 2 * x' ≤ g * 1000000000
      → q * S ≤ x * s → x * s ≤ (q + m) * S → m ≤ 100000000 → Near K (e + g + 1) (x' * s' / 1000000000) q
  mul-near {e} {x'} {s'} {x} {s} {q} g m nx ns hs hg under over hm =
      let p : Near (K * k) ((e + g) * 1000000000) (x' * s') (x * s) = product-near g nx ns hs hg in
      let q' : ℕ = x' * s' / 1000000000 in
      let f : ℕ = e + g in
      let low : q' * K ≤ q + m + f * K =
      cancel S (q' * K) (q + m + f * K) S_pos
      (omega (arith, sine_units q', sine_units f, mul-le-mul_right (K * k) (div-mul-le_self (x' * s') 1000000000))) in
      let high : q ≤ (q' + 1) * K + f * K =
      cancel S q ((q' + 1) * K + f * K) S_pos
      (omega (arith, mul-le-mul_right (K * k) (over_quot (x' * s') 1000000000 (omega arith)), sine_units (q' + 1), sine_units f)) in
      record { low = omega arith; high = omega arith }

  -- h = W cos(dip)
  pub width-near : {cd' cd : ℕ} (w : ℕ) → w ≤ 100000 → Near k 2 cd' cd → Near K 3 (w * cd' / 100000) (w * cd)
  width-near {cd'} {cd} w hw n =
      let q : ℕ = w * cd' / 100000 in
      let two : w * (2 * k) ≤ 100000 * (2 * k) = mul-le-mul_right (2 * k) hw in
      let unit : (m : ℕ) → m * K ≡ m * 100000 * k = λ m. ap (λ (t : ℕ). m * t) scale.K-is ∙ sym (mul_assoc m 100000 k) in
      let under : q * 100000 * k ≤ w * cd' * k = mul-le-mul_right k (div-mul-le_self (w * cd') 100000) in
      let over : w * cd' * k ≤ (q + 1) * 100000 * k = mul-le-mul_right k (over_quot (w * cd') 100000 (omega arith)) in
      record {
        low = omega (arith, unit q, mul-le-mul_left w n.low);
        high =
            omega (arith, unit (q + 1), mul-le-mul_left w n.high);
      }
