-- `reckon::sine::alternate`: the rest of the series is at most the present term, so no difference is negative. Assumes nothing.
use Prim.Native.Nat.{ℕ, zero-le}
use mathlib.Core.Path.{◌≡◌, sym, ap, ◌∙◌}
use native.Mathlib.Nat.{le_trans, sub-le}
use native.Mathlib.Omega.{arith}
use lib.IntN.{ℤ, pos, ◌-ℤ◌}
use Rattle.exact.specs.Series.{alternating}
use Rattle.reckon.proofs.SineTerms.{sine_term, term_falls, minus}
use Rattle.reckon.proofs.sine.+alternate.Goals as goal

none : (S w t d n : ℕ) → n ≡ 0 → pos 0 ≡ alternating S w t d n
unfolding alternating
none S w t d n e = sym (ap (λ (j : ℕ). alternating S w t d j) e)

pub returns-then-n-eq0 : goal.returns-then-n-eq0
returns-then-n-eq0 t c = (none _ _ _ _ _ (omega arith), zero-le)

pub returns : goal.returns
returns t c =
    let pre = c.requires in (
      minus _ _ (le_trans c.alternate.ensures.1 (term_falls _ _ _ _ _ pre.0 pre.2 (omega arith)))
          ∙ ap (λ (z : ℤ). pos c.args.t -ℤ z) c.alternate.ensures.0
          ∙ sym (sine_term _ _ _ _ _ (omega arith)),
      sub-le _ _,
    )
