-- How near a fine row, what is reckoned of a measure before it is rounded for the report, lies to exact values. Any fine row that near is
-- `Accurate` once it is reported. Definitions only.
use Rattle.std.specs.Prelude.{ℕ, ◌+◌, ◌*◌, ◌≤◌, ◌≡◌, ℤ, pos, negsuc}
use Rattle.exact.specs.Near.{up, dn, NearZ}
use Rattle.exact.specs.Exact.{E30, exp_e, root_e}
use Rattle.fixed.specs.Fixed.{K21}
use Rattle.model.specs.declared.Fine.{Fine}
use Rattle.model.specs.Equations.{E27}
use Rattle.model.specs.Accuracy.{Exact}

-- a lies from lo to hi
pub record Between (lo hi a : ℤ) : Type 0 where
  pub low : up lo + dn a ≤ up a + dn lo
  pub high : up a + dn hi ≤ up hi + dn a

-- -15
abbrev pub minus_fifteen : ℤ
minus_fifteen = negsuc 14_999999_999999_999999_999999_999999

-- v is at least 0.089999 and within 290 units of a number of which s is the exact root
pub record RootNear (v s : ℕ) : Type 0 where
  pub under : ℕ
  pub is : s ≡ root_e under
  pub near : NearZ K21 290 (pos v) (pos under)
  pub least : 89999000 ≤ v

-- ln median within 400 units of 10^-9, the exact one from -15 to 13; the variances within 290
pub record FineNear (e : Exact) (f : Fine) : Type 0 where
  pub ln_near : NearZ K21 400 f.ln e.ln
  pub ln_between : Between minus_fifteen (pos (13 * E30)) e.ln
  pub median-is : e.median ≡ exp_e e.ln
  pub intra : RootNear f.intra e.intra
  pub inter-is : e.inter ≡ f.t * E27
  pub total : RootNear f.total e.total
  pub arbitrary : RootNear f.arbitrary e.arbitrary
