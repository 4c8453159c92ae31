-- `rupture::section::Section::rrup`: its three sides are below 400 km. Assumes nothing.
use Prim.Native.Nat.{ℕ, ◌+◌, ◌*◌, ◌/◌, ◌≤◌}
use mathlib.Core.Path.{ap, ◌∙◌}
use native.Mathlib.Omega.{arith}
use native.Mathlib.Nat.{mul-le-mul}
use Rattle.exact.specs.Root.{root}
use Rattle.geometry.specs.Fixed.{off_plane_fixed, rrup_fixed}
use Rattle.geometry.proofs.Lengths.{root-le}
use Rattle.rupture.specs.declared.section.Section.{Section}
use Rattle.rupture.proofs.section.Section.rrup.Goals as goal

square : (s : ℕ) → s ≤ 400000000 → s * s ≤ 160000000000000000
square s h = mul-le-mul h h

abbrev v_of : Section → ℕ → ℕ
v_of s x = off_plane_fixed s.dip.sin s.dip.cos (10000 * s.ztor) x

v_le : (s : Section) (x : ℕ) → x ≤ 3500000000 → v_of s x ≤ 400000000
v_le s x h =
    let z : 10000 * s.ztor ≤ 150000000 = omega (arith, s.ztor_most) in
    omega (arith, mul-le-mul h s.dip.sin_most, mul-le-mul z s.dip.cos_most)

sum-le :
    (s : Section) (x y e : ℕ) → x ≤ 3500000000 → y ≤ 3500000000 → e ≤ 400000000
    → v_of s x * v_of s x + e * e + y / 10 * (y / 10) ≤ 480000000000000000
sum-le s x y e h k l = omega (arith, square (v_of s x) (v_le s x h), square e l, square (y / 10) (omega arith))

pub overflow_add-v-2 : goal.overflow_add-v-2
overflow_add-v-2 c = omega (arith, sum-le c.args.self _ _ c.off_edges-e.result c.requires.0 c.requires.1 c.off_edges-e.ensures.1)

pub overflow_add-v-3 : goal.overflow_add-v-3
overflow_add-v-3 c = omega (arith, sum-le c.args.self _ _ c.off_edges-e.result c.requires.0 c.requires.1 c.off_edges-e.ensures.1)

pub returns : goal.returns
unfolding rrup_fixed
returns c =
    let s = c.args.self in
    let x = c.args.site.x in
    let y = c.args.site.y in
    let e = c.off_edges-e.result in (
      c.whole_root.ensures ∙ ap (λ (t : ℕ). root (v_of s x * v_of s x + t * t + y / 10 * (y / 10))) c.off_edges-e.ensures.0,
      omega (
        arith,
        c.whole_root.ensures,
        root-le (v_of s x * v_of s x + e * e + y / 10 * (y / 10)) 1000000000
            (omega (arith, sum-le s x y e c.requires.0 c.requires.1 c.off_edges-e.ensures.1)),
      ),
    )
