-- Twenty values of the definitions, each equal to the last digit to what second/exact.py, document 01's paragraph written anew, gives;
-- a negative number -n is written `negsuc (n - 1)`. Assumes nothing.
use mathlib.Core.Bool.{Bool, true, ◌&&◌}
use mathlib.Core.List.{List, [], ◌∷◌}
use lib.Dec.{T, leb}
use lib.IntN.{ℤ, pos, negsuc, nat_abs, ◌-ℤ◌}
use Rattle.exact.specs.Exact.{ln_e, exp_e, pow_e, ten_e, sin_e, cos_e, root_e}

same : List (ℤ × ℤ) → Bool
same [] = true
same (p ∷ ps) = leb (nat_abs (p.0 -ℤ p.1)) 0 && same ps

values : List (ℤ × ℤ)
unfolding ln_e exp_e pow_e ten_e sin_e cos_e root_e
values =
    (ln_e 2000000000000000000000000000000, pos 693147180559945309417232121428) ∷
    (ln_e 10000000000000000000000000000000, pos 2302585092994045684017991454582) ∷
    (ln_e 500000000000000000000000000000, negsuc 693147180559945309417232121427) ∷
    (ln_e 123456789012345678901234567890, negsuc 2091864070678393122962989744105) ∷
    (ln_e 40008157921000000000000000000000000, pos 10596838660326502197304333379978) ∷
    (pos (exp_e (pos 0)), pos 1000000000000000000000000000000) ∷
    (pos (exp_e (pos 1000000000000000000000000000000)), pos 2718281828459045235360287471414) ∷
    (pos (exp_e (negsuc 999999999999999999999999999999)), pos 367879441171442321595523770136) ∷
    (pos (exp_e (pos 9226000000000000000000000000000)), pos 10157828825315296036158558746877952) ∷
    (pos (exp_e (negsuc 15499999999999999999999999999999)), pos 185539136261597824071710) ∷
    (pos (pow_e 400000000000000000000000000000 (pos 1180000000000000000000000000000)), pos 339180432609231553197173717692) ∷
    (pos (ten_e (negsuc 759999999999999999999999999999)), pos 173780082874937546699959956167) ∷
    (sin_e (pos 1), pos 17452406437283512819418978515) ∷
    (sin_e (negsuc 44), negsuc 707106781186547524400844362103) ∷
    (sin_e (pos 90), pos 1000000000000000000000000000001) ∷
    (sin_e (pos 180), pos 1) ∷
    (cos_e (pos 60), pos 500000000000000000000000000000) ∷
    (cos_e (pos 90), pos 1) ∷
    (cos_e (negsuc 134), negsuc 707106781186547524400844362102) ∷
    (pos (root_e 2000000000000000000000000000000), pos 1414213562373095048801688724209) ∷
    []

known : T (same values)
unfolding same values
known = tt
