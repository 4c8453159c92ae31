-- At short periods no median is below PGA's. Of two numbers and of their exact ones the larger are as near as each is; so the bounds of a
-- measure by itself are those of a measure. What is reported does not fall as ln median grows, so no reported median of a short period
-- is below PGA's either. Assumes nothing.
use Prim.Native.Nat.{ℕ, zero, suc, ◌+◌, ◌*◌, ◌≤◌, ◌<◌, zero-le, suc-le-suc}
use mathlib.Core.Path.{◌≡◌, refl, sym, ap₂, subst, ◌∙◌}
use mathlib.Core.Bool.{Bool, true, false, ◌&&◌}
use mathlib.Core.List.{◌++◌}
use mathlib.Core.Logic.{◌⊎◌, inl, inr}
use native.Mathlib.Omega.{arith}
use native.Mathlib.Nat.{le_refl, le_trans, le_of_lt, mul-le-mul_right, add-mul}
use lib.Dec.{T, ltb, lit<, leb-suc-suc}
use lib.IntN.{ℤ, pos}
use lib.ListN.{get_or, replicate}
use lib.Signed.{lt_z, ◌≤ℤ◌}
use borrow.Author.Tests.{lt-ltb, le-ltb}
use Rattle.exact.specs.Near.{up, dn, NearZ}
use Rattle.exact.specs.Exact.{E30}
use Rattle.exact.proofs.Signed.{lt-parts, nlt_parts, le_true}
use Rattle.fixed.specs.Fixed.{K21, exp_fixed}
use Rattle.fixed.proofs.Growing.{exp_fixed_mono, nearest_mono}
use Rattle.tables.specs.Tables.{PGA}
use Rattle.model.specs.declared.Scenario.{Scenario}
use Rattle.model.specs.declared.Fine.{Fine}
use Rattle.model.specs.Equations.{most, is_short, not_below_pga, ln_own, ln_median}
use Rattle.model.specs.Accuracy.{InRange}
use Rattle.model.specs.FineNear.{Between, minus_fifteen}
use Rattle.model.specs.Fixed.{ln_own_fixed, own_fixed, raised, fine_fixed, report, row_fixed}
use Rattle.model.proofs.Median.{ln_own-near, ln_own_between, ln_own-size}
use Rattle.model.proofs.WallNear.{most_by}

-- ---- which periods are short
past : (m i : ℕ) → get_or (replicate m false) i false ≡ false
past zero i = refl
past (suc m) zero = refl
past (suc m) (suc i) = past m i

first : (n m i : ℕ) → get_or (replicate n true ++ replicate m false) i false ≡ ltb i n
first zero m i = past m i ∙ sym (le-ltb i 0 zero-le)
first (suc n) m zero = sym (lt-ltb 0 (suc n) (suc-le-suc zero-le))
first (suc n) m (suc i) = first n m i ∙ sym (leb-suc-suc (suc i) n)

-- those of measures 0 to 8
pub short_are : (i : ℕ) → is_short i ≡ ltb i 9
unfolding is_short
short_are i = first 9 12 i

-- ---- the larger of two
-- what holds of both holds of it
pub not_below_by : (P : ℤ → Type 0) (i : ℕ) (a b : ℤ) → P a → P b → P (not_below_pga i a b)
not_below_by P i a b p q = go (is_short i && lt_z a b)
  where
    go : (t : Bool) → P (elim t [ true ↦ b | false ↦ a ])
    go true = q
    go false = p

-- at a short period it is not below PGA
pub not_below : (i : ℕ) (a b : ℤ) → is_short i ≡ true → up b + dn (not_below_pga i a b) ≤ up (not_below_pga i a b) + dn b
unfolding is_short
not_below i a b s = rw s (go (lt_z a b) refl)
  where
    go : (t : Bool) → lt_z a b ≡ t → up b + dn (elim t [ true ↦ b | false ↦ a ]) ≤ up (elim t [ true ↦ b | false ↦ a ]) + dn b
    go true e = le_refl (up b + dn b)
    go false e = nlt_parts a b e

-- nor is it ever below the measure's own
not_below_own : (i : ℕ) (a b : ℤ) → up a + dn (not_below_pga i a b) ≤ up (not_below_pga i a b) + dn a
not_below_own i a b = go (is_short i) (lt_z a b) refl
  where
    go :
        (s t : Bool) → lt_z a b ≡ t
        → up a + dn (elim (s && t) [ true ↦ b | false ↦ a ]) ≤ up (elim (s && t) [ true ↦ b | false ↦ a ]) + dn a
    go true true e = le_of_lt (lt-parts a b e)
    go true false e = le_refl (up a + dn a)
    go false t e = le_refl (up a + dn a)

-- as near as both are
pub not_below_near : (i K e : ℕ) (a b c d : ℤ) → NearZ K e a c → NearZ K e b d → NearZ K e (not_below_pga i a b) (not_below_pga i c d)
not_below_near i K e a b c d n m = short (is_short i)
  where
    scaled : (p q r s : ℕ) → p + q ≤ r + s → p * K + q * K ≤ r * K + s * K
    scaled p q r s h = omega (arith, mul-le-mul_right K h, add-mul p q K, add-mul r s K)

    go : (s t : Bool) → lt_z a b ≡ s → lt_z c d ≡ t → NearZ K e (elim s [ true ↦ b | false ↦ a ]) (elim t [ true ↦ d | false ↦ c ])
    go true true p q = m
    go false false p q = n
    go true false p q =
        let l = scaled (up a) (dn b) (up b) (dn a) (le_of_lt (lt-parts a b p)) in
        record { low = omega (arith, m.low, nlt_parts c d q); high = omega (arith, n.high, l) }
    go false true p q =
        let l = scaled (up b) (dn a) (up a) (dn b) (nlt_parts a b p) in
        record { low = omega (arith, n.low, lt-parts c d q); high = omega (arith, m.high, l) }

    short :
        (t : Bool)
        → NearZ K e (elim (t && lt_z a b) [ true ↦ b | false ↦ a ]) (elim (t && lt_z c d) [ true ↦ d | false ↦ c ])
    short true = go (lt_z a b) (lt_z c d) refl refl
    short false = n

-- ---- the median of a measure
ordered : (a b : ℤ) → up a + dn b ≤ up b + dn a → a ≤ℤ b
ordered a b h = record { le = subst T (sym (le_true a b h)) tt }

-- at a short period the larger of its own and PGA's
pub median-larger :
    (i : ℕ) (x : Scenario) → is_short i ≡ true
    → (ln_own i x ≤ℤ ln_median i x) × (ln_own PGA x ≤ℤ ln_median i x) × ((ln_median i x ≡ ln_own i x) ⊎ (ln_median i x ≡ ln_own PGA x))
unfolding ln_median
median-larger i x s = (
  ordered (ln_own i x) (ln_median i x) (not_below_own i (ln_own i x) (ln_own PGA x)),
  ordered (ln_own PGA x) (ln_median i x) (not_below i (ln_own i x) (ln_own PGA x) s),
  not_below_by (λ (z : ℤ). (z ≡ ln_own i x) ⊎ (z ≡ ln_own PGA x)) i (ln_own i x) (ln_own PGA x) (inl refl) (inr refl),
)

-- elsewhere its own
pub median-itself : (i : ℕ) (x : Scenario) → is_short i ≡ false → ln_median i x ≡ ln_own i x
unfolding ln_median
median-itself i x s = rw s

module _ (i : ℕ) (x : Scenario) (h : i < 24) (r : InRange x) where
  pub ln_median-near : NearZ K21 400 (not_below_pga i (ln_own_fixed i x) (ln_own_fixed PGA x)) (ln_median i x)
  unfolding ln_median
  ln_median-near = not_below_near i K21 400 _ _ _ _ (ln_own-near i x h r) (ln_own-near PGA x (lit< tt) r)

  pub ln_median_between : Between minus_fifteen (pos (13 * E30)) (ln_median i x)
  unfolding ln_median
  ln_median_between =
      not_below_by (Between minus_fifteen (pos (13 * E30))) i _ _ (ln_own_between i x h r) (ln_own_between PGA x (lit< tt) r)

  pub ln_median-size :
      (dn (not_below_pga i (ln_own_fixed i x) (ln_own_fixed PGA x)) ≤ 15000000400)
      × (up (not_below_pga i (ln_own_fixed i x) (ln_own_fixed PGA x)) ≤ 13000000400)
  ln_median-size =
      not_below_by (λ (z : ℤ). (dn z ≤ 15000000400) × (up z ≤ 13000000400)) i (ln_own_fixed i x) (ln_own_fixed PGA x)
      (ln_own-size i x h r)
      (ln_own-size PGA x (lit< tt) r)

-- ---- a fine row
-- that of a longer period is its own
pub raised_long : (i : ℕ) (own pga : Fine) → is_short i ≡ false → raised i own pga ≡ own
unfolding raised
raised_long i own pga s = rw s

pub fine-long : (i : ℕ) (x : Scenario) {own : Fine} → is_short i ≡ false → own ≡ own_fixed i x → own ≡ fine_fixed i x
unfolding fine_fixed
fine-long i x s e = e ∙ sym (raised_long i (own_fixed i x) (own_fixed PGA x) s)

-- and so is PGA's, which has no period
pub fine_pga : (x : Scenario) {own : Fine} → own ≡ own_fixed PGA x → own ≡ fine_fixed PGA x
unfolding is_short
fine_pga x e = fine-long PGA x refl e

-- any, from its own and PGA's
pub fine-raised :
    (i : ℕ) (x : Scenario) {own pga : Fine} → own ≡ own_fixed i x → pga ≡ own_fixed PGA x → raised i own pga ≡ fine_fixed i x
unfolding fine_fixed
fine-raised i x e p = ap₂ (raised i) e p

-- ---- what is reported
most_mono : (n a b : ℕ) → a ≤ b → most n a ≤ most n b
most_mono n a b h =
    most_by (λ (t : ℕ). t ≤ most n b) n a (λ k. most_by (λ (t : ℕ). n ≤ t) n b (λ j. le_refl n) (λ j. j))
    (λ k. most_by (λ (t : ℕ). a ≤ t) n b (λ j. le_trans h j) (λ j. h))

-- it does not fall as ln median grows
report_mono :
    (f g : Fine) → up f.ln + dn g.ln ≤ up g.ln + dn f.ln
    → ((report f).ln ≤ℤ (report g).ln) × ((report f).median ≤ (report g).median)
unfolding report
report_mono f g h = (
  ordered (report f).ln (report g).ln (nearest_mono _ f.ln g.ln h),
  most_mono 1 (exp_fixed f.ln) (exp_fixed g.ln) (exp_fixed_mono f.ln g.ln h),
)

pub row_not_below :
    (i : ℕ) (x : Scenario) → is_short i ≡ true
    → ((row_fixed PGA x).ln ≤ℤ (row_fixed i x).ln) × ((row_fixed PGA x).median ≤ (row_fixed i x).median)
unfolding row_fixed fine_fixed raised
row_not_below i x s = report_mono (fine_fixed PGA x) (fine_fixed i x) (not_below i (own_fixed i x).ln (own_fixed PGA x).ln s)
