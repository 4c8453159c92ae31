-- How large the figures of a reported row are, and of what a sheet shows of it. Definitions only.
use Rattle.std.specs.Prelude.{◌≤◌, ◌<◌, nat_abs}
use Rattle.model.specs.declared.Row.{Row}
use Rattle.model.specs.declared.Shown.{Shown}

-- ln median at most 15 and a millionth, the median below 2^53, a sigma at most 1.55
pub record Small (r : Row) : Type 0 where
  pub ln : nat_abs r.ln ≤ 15000001
  pub median : r.median < 9007199254740992
  pub intra : r.intra ≤ 1550000
  pub inter : r.inter ≤ 1550000
  pub total : r.total ≤ 1550000
  pub arbitrary : r.arbitrary ≤ 1550000

pub record ShownSmall (s : Shown) : Type 0 where
  pub ln : nat_abs s.ln ≤ 15000001
  pub median : s.median < 9007199254740992
  pub sigma : s.sigma ≤ 1550000
