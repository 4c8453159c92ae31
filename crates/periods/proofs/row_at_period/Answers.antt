-- The period stands at a tabulated one, or between it and the next. Assumes nothing.
use Rattle.std.proofs.Common.{arith, ◌≡◌, ◌≤◌, ◌<◌, ℕ, ◌+◌, false, sym, ap, ap₂, subst, subst₂, ◌∙◌}
use native.Mathlib.Nat.{le_trans, le_of_lt}
use lib.Dec.{eqb, lit≤}
use borrow.Author.Tests.{ne_eqb}
use Rattle.tables.specs.Tables.{period_at}
use Rattle.model.specs.declared.Fine.{Fine}
use Rattle.model.specs.Fixed.{FineInRange}
use Rattle.model.proofs.Demand.{fine_in_range}
use Rattle.between.specs.Periods.{last_up_to}
use Rattle.between.specs.Fixed.{Gap, weight_fixed, drawn_fixed, drawn_report, DrawnInRange}
use Rattle.between.proofs.Gaps.{Placed, placed, gap_at}
use Rattle.between.proofs.Sizes.{drawn_in_range}
use Rattle.between.proofs.Tabulated.{row_at_lem, row_between}
use Rattle.periods.proofs.row_at_period.Goals as goal

-- the measure found
found : (t i : ℕ) → 10 ≤ t → t ≤ 10000 → i ≡ last_up_to t → Placed t i
found t i l h e = subst (Placed t) (sym e) (placed t l h)

-- where t is not the measure's own
apart : (t i p : ℕ) → p ≡ period_at i → (p ≡ t → ⊥) → eqb (period_at i) t ≡ false
apart t i p e n = ne_eqb (period_at i) t (λ q. n (e ∙ q))

-- it and the next are tabulated
next : (t i p : ℕ) → 10 ≤ t → t ≤ 10000 → i ≡ last_up_to t → p ≡ period_at i → (p ≡ t → ⊥) → i + 1 < 21
next t i p l h e f n =
    let k = (found t i l h e).next-below (apart t i p f n) in
    omega (arith, k)

pub period_at-t1-requires : goal.period_at-t1-requires
period_at-t1-requires c = (found c.args.t c.last_up_to-i.result c.requires.0 c.requires.1 c.last_up_to-i.ensures).below

pub row_at-requires : goal.row_at-requires
row_at-requires c =
    let f = found c.args.t c.last_up_to-i.result c.requires.0 c.requires.1 c.last_up_to-i.ensures in
    (le_trans f.below (lit≤ tt), c.requires.2)

pub returns-then-t1-t : goal.returns-then-t1-t
returns-then-t1-t c =
    c.row_at.ensures ∙ row_at_lem c.args.t c.last_up_to-i.result c.args.x c.last_up_to-i.ensures (sym c.period_at-t1.ensures ∙ c.if-t1-t.true)

pub overflow_add-i : goal.overflow_add-i
overflow_add-i c =
    let n = next c.args.t c.last_up_to-i.result c.period_at-t1.result c.requires.0 c.requires.1 c.last_up_to-i.ensures c.period_at-t1.ensures c.if-t1-t.false in
    record { fits = omega (arith, n) }

pub period_at-t2-requires : goal.period_at-t2-requires
period_at-t2-requires c =
    next c.args.t c.last_up_to-i.result c.period_at-t1.result c.requires.0 c.requires.1 c.last_up_to-i.ensures c.period_at-t1.ensures c.if-t1-t.false

pub of-w-requires : goal.of-w-requires
of-w-requires c =
    let p = found c.args.t c.last_up_to-i.result c.requires.0 c.requires.1 c.last_up_to-i.ensures in
    let a = apart c.args.t c.last_up_to-i.result c.period_at-t1.result c.period_at-t1.ensures c.if-t1-t.false in
    let r1 = sym c.period_at-t1.ensures in
    let r2 = sym c.period_at-t2.ensures in (
      subst₂ Gap r1 r2 (gap_at c.last_up_to-i.result (p.next-below a)),
      subst (λ (k : ℕ). k ≤ c.args.t) r1 p.low,
      subst (λ (k : ℕ). c.args.t ≤ k) r2 (le_of_lt (p.high a)),
    )

pub fine_at-requires : goal.fine_at-requires
fine_at-requires c =
    let f = found c.args.t c.last_up_to-i.result c.requires.0 c.requires.1 c.last_up_to-i.ensures in
    (le_trans f.below (lit≤ tt), c.requires.2)

pub overflow_add-i-2 : goal.overflow_add-i-2
overflow_add-i-2 c =
    let n = next c.args.t c.last_up_to-i.result c.period_at-t1.result c.requires.0 c.requires.1 c.last_up_to-i.ensures c.period_at-t1.ensures c.if-t1-t.false in
    record { fits = omega (arith, n) }

pub fine_at-requires-2 : goal.fine_at-requires-2
fine_at-requires-2 c =
    let n = next c.args.t c.last_up_to-i.result c.period_at-t1.result c.requires.0 c.requires.1 c.last_up_to-i.ensures c.period_at-t1.ensures c.if-t1-t.false in
    (omega (arith, n), c.requires.2)

pub drawn_between-requires : goal.drawn_between-requires
drawn_between-requires c =
    let n = next c.args.t c.last_up_to-i.result c.period_at-t1.result c.requires.0 c.requires.1 c.last_up_to-i.ensures c.period_at-t1.ensures c.if-t1-t.false in
    let i = c.last_up_to-i.result in (
      subst FineInRange (sym c.fine_at.ensures) (fine_in_range i c.args.x (omega (arith, n)) c.requires.2),
      subst FineInRange (sym c.fine_at-2.ensures) (fine_in_range (i + 1) c.args.x (omega (arith, n)) c.requires.2),
    )

pub drawn_report-requires : goal.drawn_report-requires
drawn_report-requires c =
    let n = next c.args.t c.last_up_to-i.result c.period_at-t1.result c.requires.0 c.requires.1 c.last_up_to-i.ensures c.period_at-t1.ensures c.if-t1-t.false in
    let i = c.last_up_to-i.result in
    let f = subst FineInRange (sym c.fine_at.ensures) (fine_in_range i c.args.x (omega (arith, n)) c.requires.2) in
    let g = subst FineInRange (sym c.fine_at-2.ensures) (fine_in_range (i + 1) c.args.x (omega (arith, n)) c.requires.2) in
    subst DrawnInRange (sym c.drawn_between.ensures) (drawn_in_range c.of-w.result.w c.of-w.result.at_most_one c.fine_at.result c.fine_at-2.result f g)

pub returns : goal.returns
returns c =
    let i = c.last_up_to-i.result in
    let t = c.args.t in
    let weight = c.of-w.ensures ∙ ap₂ (λ (a b : ℕ). weight_fixed t a b) c.period_at-t1.ensures c.period_at-t2.ensures in
    c.drawn_report.ensures
    ∙ ap drawn_report
    (c.drawn_between.ensures
    ∙ ap (λ (k : ℕ). drawn_fixed k c.fine_at.result c.fine_at-2.result) weight
    ∙ ap₂ (λ (a b : Fine). drawn_fixed (weight_fixed t (period_at i) (period_at (i + 1))) a b) c.fine_at.ensures c.fine_at-2.ensures)
    ∙ row_between t i c.args.x c.last_up_to-i.ensures (apart t i c.period_at-t1.result c.period_at-t1.ensures c.if-t1-t.false)
