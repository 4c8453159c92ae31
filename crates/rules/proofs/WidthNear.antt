-- The program's W lies from 1 to 100000 m and within 2 m of equation 2: one test, computed at every magnitude from 4.00 to 8.50 of
-- every style, with ln 10 reckoned once for all. Assumes nothing.
use Prim.Native.Nat.{ℕ, ◌*◌, ◌≤◌}
use mathlib.Core.Path.{◌≡◌, refl, sym, ap, subst}
use mathlib.Core.Bool.{Bool}
use native.Mathlib.Omega.{arith}
use lib.Dec.{T}
use lib.IntN.{ℤ, pos}
use Rattle.exact.specs.Exact.{E30, ln_e, exp_e, mul_e}
use Rattle.exact.proofs.Computed.{run, run-from}
use Rattle.request.specs.declared.Style.{Style}
use Rattle.request.specs.declared.Style.TheVariants.{StrikeSlip, Reverse, Normal}
use Rattle.rules.specs.Rules.{log_width_e, width_e}
use Rattle.rules.specs.Fixed.{width_fixed}
use Rattle.rules.proofs.Figures.{Figure, figured, figure}

-- ln 10 in units of 10^-30
abbrev ln10 : ℤ
ln10 = pos 2302585092994045684017991454582

ln10-is : ln_e (10 * E30) ≡ ln10
unfolding ln_e
ln10-is = refl

-- W by that number
by_ln10 : Style → ℕ → ℕ
unfolding exp_e mul_e log_width_e
by_ln10 s m = 1000 * exp_e (mul_e (log_width_e s m) ln10)

width_is : (s : Style) (m : ℕ) → by_ln10 s m ≡ width_e s m
unfolding by_ln10 width_e
width_is s m = ap (λ (l : ℤ). 1000 * exp_e (mul_e (log_width_e s m) l)) (sym ln10-is)

test : Style → ℕ → Bool
unfolding figured width_fixed by_ln10
test s m = figured 1 100000 (width_fixed s m) (by_ln10 s m)

all : (s : Style) → T (run (test s) 400 451)
unfolding test
all StrikeSlip = tt
all Reverse = tt
all Normal = tt

pub width_fixed-near : (s : Style) (m : ℕ) → 400 ≤ m → m ≤ 850 → Figure 1 100000 (width_fixed s m) (width_e s m)
unfolding test
width_fixed-near s m l h =
    subst (λ (w : ℕ). Figure 1 100000 (width_fixed s m) w) (width_is s m)
    (figure 1 100000 (width_fixed s m) (by_ln10 s m) (run-from (test s) 400 451 (all s) m l (omega arith)))
