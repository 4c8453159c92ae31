-- Tables 2 and 3 of Campbell and Bozorgnia 2008 (003), as printed: a row a measure, the columns in the paper's order.
-- Definitions only. Each number is in thousandths, with `_` in the place of the paper's point: -1.715 is `neg 1_715`, and c6 of
-- 5.60 is `5_600`. Only k1, in m/s, is the whole number itself. A column with no minus sign at any measure is written without `pos`.
use Rattle.std.specs.Prelude.{ℕ, zero, suc, List, [], ◌∷◌, ℤ, pos, negsuc, get_or}
use Rattle.tables.specs.declared.Coefficients.{Coefficients}
use Rattle.tables.specs.declared.Deviations.{Deviations}

-- how many measures there are: the 21 periods, PGA, PGV, PGD
abbrev pub measures : ℕ
measures = 24

-- PGA's number among them
abbrev pub PGA : ℕ
PGA = 21

-- T, the periods of measures 0 to 20 in seconds
abbrev pub periods : List ℕ
periods =
    0_010 ∷ 0_020 ∷ 0_030 ∷ 0_050 ∷ 0_075 ∷ 0_100 ∷ 0_150 ∷ 0_200 ∷ 0_250 ∷ 0_300 ∷ 0_400 ∷ 0_500 ∷ 0_750 ∷ 1_000 ∷ 1_500 ∷ 2_000 ∷ 3_000
    ∷ 4_000 ∷ 5_000 ∷ 7_500 ∷ 10_000 ∷ []

-- a number printed with a minus sign
abbrev pub neg : ℕ → ℤ
neg zero = pos 0
neg (suc n) = negsuc n

-- a row of Table 2, its numbers in the paper's order
abbrev pub row2 : ℤ → ℕ → ℤ → ℤ → ℤ → ℕ → ℕ → ℕ → ℤ → ℕ → ℤ → ℕ → ℕ → ℕ → ℤ → ℕ → Coefficients
row2 c0 c1 c2 c3 c4 c5 c6 c7 c8 c9 c10 c11 c12 k1 k2 k3 = record {
  c0 = c0;
  c1 = pos c1;
  c2 = c2;
  c3 = c3;
  c4 = c4;
  c5 = pos c5;
  c6 = c6;
  c7 = pos c7;
  c8 = c8;
  c9 = pos c9;
  c10 = c10;
  c11 = pos c11;
  c12 = pos c12;
  k1 = k1;
  k2 = k2;
  k3 = pos k3;
}

-- a row of Table 3: the intra-event, inter-event, component, total and arbitrary-component deviation, and the correlation
abbrev pub row3 : ℕ → ℕ → ℕ → ℕ → ℕ → ℕ → Deviations
row3 s t sC sT sArb rho = record { s = s; t = t; sC = sC; sT = sT; sArb = sArb; rho = rho }

-- Table 2, measure 0 first: the coefficients of the median
unfoldable pub table2 : List Coefficients
table2 =
    --        c0     c1         c2          c3          c4     c5    c6    c7         c8     c9         c10    c11   c12   k1       k2     k3
    row2 (neg 1_715) 0_500 (neg 0_530) (neg 0_262) (neg 2_118) 0_170 5_600 0_280 (neg 0_120) 0_490 (pos 1_058) 0_040 0_610 865 (neg 1_186) 1_839 ∷  -- 0.010 s
    row2 (neg 1_680) 0_500 (neg 0_530) (neg 0_262) (neg 2_123) 0_170 5_600 0_280 (neg 0_120) 0_490 (pos 1_102) 0_040 0_610 865 (neg 1_219) 1_840 ∷  -- 0.020 s
    row2 (neg 1_552) 0_500 (neg 0_530) (neg 0_262) (neg 2_145) 0_170 5_600 0_280 (neg 0_120) 0_490 (pos 1_174) 0_040 0_610 908 (neg 1_273) 1_841 ∷  -- 0.030 s
    row2 (neg 1_209) 0_500 (neg 0_530) (neg 0_267) (neg 2_199) 0_170 5_740 0_280 (neg 0_120) 0_490 (pos 1_272) 0_040 0_610 1054 (neg 1_346) 1_843 ∷  -- 0.050 s
    row2 (neg 0_657) 0_500 (neg 0_530) (neg 0_302) (neg 2_277) 0_170 7_090 0_280 (neg 0_120) 0_490 (pos 1_438) 0_040 0_610 1086 (neg 1_471) 1_845 ∷  -- 0.075 s
    row2 (neg 0_314) 0_500 (neg 0_530) (neg 0_324) (neg 2_318) 0_170 8_050 0_280 (neg 0_099) 0_490 (pos 1_604) 0_040 0_610 1032 (neg 1_624) 1_847 ∷  -- 0.10 s
    row2 (neg 0_133) 0_500 (neg 0_530) (neg 0_339) (neg 2_309) 0_170 8_790 0_280 (neg 0_048) 0_490 (pos 1_928) 0_040 0_610 878 (neg 1_931) 1_852 ∷  -- 0.15 s
    row2 (neg 0_486) 0_500 (neg 0_446) (neg 0_398) (neg 2_220) 0_170 7_600 0_280 (neg 0_012) 0_490 (pos 2_194) 0_040 0_610 748 (neg 2_188) 1_856 ∷  -- 0.20 s
    row2 (neg 0_890) 0_500 (neg 0_362) (neg 0_458) (neg 2_146) 0_170 6_580 0_280 (pos 0_000) 0_490 (pos 2_351) 0_040 0_700 654 (neg 2_381) 1_861 ∷  -- 0.25 s
    row2 (neg 1_171) 0_500 (neg 0_294) (neg 0_511) (neg 2_095) 0_170 6_040 0_280 (pos 0_000) 0_490 (pos 2_460) 0_040 0_750 587 (neg 2_518) 1_865 ∷  -- 0.30 s
    row2 (neg 1_466) 0_500 (neg 0_186) (neg 0_592) (neg 2_066) 0_170 5_300 0_280 (pos 0_000) 0_490 (pos 2_587) 0_040 0_850 503 (neg 2_657) 1_874 ∷  -- 0.40 s
    row2 (neg 2_569) 0_656 (neg 0_304) (neg 0_536) (neg 2_041) 0_170 4_730 0_280 (pos 0_000) 0_490 (pos 2_544) 0_040 0_883 457 (neg 2_669) 1_883 ∷  -- 0.50 s
    row2 (neg 4_844) 0_972 (neg 0_578) (neg 0_406) (neg 2_000) 0_170 4_000 0_280 (pos 0_000) 0_490 (pos 2_133) 0_077 1_000 410 (neg 2_401) 1_906 ∷  -- 0.75 s
    row2 (neg 6_406) 1_196 (neg 0_772) (neg 0_314) (neg 2_000) 0_170 4_000 0_255 (pos 0_000) 0_490 (pos 1_571) 0_150 1_000 400 (neg 1_955) 1_929 ∷  -- 1.0 s
    row2 (neg 8_692) 1_513 (neg 1_046) (neg 0_185) (neg 2_000) 0_170 4_000 0_161 (pos 0_000) 0_490 (pos 0_406) 0_253 1_000 400 (neg 1_025) 1_974 ∷  -- 1.5 s
    row2 (neg 9_701) 1_600 (neg 0_978) (neg 0_236) (neg 2_000) 0_170 4_000 0_094 (pos 0_000) 0_371 (neg 0_456) 0_300 1_000 400 (neg 0_299) 2_019 ∷  -- 2.0 s
    row2 (neg 10_556) 1_600 (neg 0_638) (neg 0_491) (neg 2_000) 0_170 4_000 0_000 (pos 0_000) 0_154 (neg 0_820) 0_300 1_000 400 (pos 0_000) 2_110 ∷  -- 3.0 s
    row2 (neg 11_212) 1_600 (neg 0_316) (neg 0_770) (neg 2_000) 0_170 4_000 0_000 (pos 0_000) 0_000 (neg 0_820) 0_300 1_000 400 (pos 0_000) 2_200 ∷  -- 4.0 s
    row2 (neg 11_684) 1_600 (neg 0_070) (neg 0_986) (neg 2_000) 0_170 4_000 0_000 (pos 0_000) 0_000 (neg 0_820) 0_300 1_000 400 (pos 0_000) 2_291 ∷  -- 5.0 s
    row2 (neg 12_505) 1_600 (neg 0_070) (neg 0_656) (neg 2_000) 0_170 4_000 0_000 (pos 0_000) 0_000 (neg 0_820) 0_300 1_000 400 (pos 0_000) 2_517 ∷  -- 7.5 s
    row2 (neg 13_087) 1_600 (neg 0_070) (neg 0_422) (neg 2_000) 0_170 4_000 0_000 (pos 0_000) 0_000 (neg 0_820) 0_300 1_000 400 (pos 0_000) 2_744 ∷  -- 10.0 s
    row2 (neg 1_715) 0_500 (neg 0_530) (neg 0_262) (neg 2_118) 0_170 5_600 0_280 (neg 0_120) 0_490 (pos 1_058) 0_040 0_610 865 (neg 1_186) 1_839 ∷  -- PGA
    row2 (pos 0_954) 0_696 (neg 0_309) (neg 0_019) (neg 2_016) 0_170 4_000 0_245 (pos 0_000) 0_358 (pos 1_694) 0_092 1_000 400 (neg 1_955) 1_929 ∷  -- PGV
    row2 (neg 5_270) 1_600 (neg 0_070) (pos 0_000) (neg 2_000) 0_170 4_000 0_000 (pos 0_000) 0_000 (neg 0_820) 0_300 1_000 400 (pos 0_000) 2_744 ∷  -- PGD
    []

-- Table 3, measure 0 first: the standard deviations and the correlation
unfoldable pub table3 : List Deviations
table3 =
    --   s     t     sC    sT    sArb  rho
    row3 0_478 0_219 0_166 0_526 0_551 1_000 ∷  -- 0.010 s
    row3 0_480 0_219 0_166 0_528 0_553 0_999 ∷  -- 0.020 s
    row3 0_489 0_235 0_165 0_543 0_567 0_989 ∷  -- 0.030 s
    row3 0_510 0_258 0_162 0_572 0_594 0_963 ∷  -- 0.050 s
    row3 0_520 0_292 0_158 0_596 0_617 0_922 ∷  -- 0.075 s
    row3 0_531 0_286 0_170 0_603 0_627 0_898 ∷  -- 0.10 s
    row3 0_532 0_280 0_180 0_601 0_628 0_890 ∷  -- 0.15 s
    row3 0_534 0_249 0_186 0_589 0_618 0_871 ∷  -- 0.20 s
    row3 0_534 0_240 0_191 0_585 0_616 0_852 ∷  -- 0.25 s
    row3 0_544 0_215 0_198 0_585 0_618 0_831 ∷  -- 0.30 s
    row3 0_541 0_217 0_206 0_583 0_618 0_785 ∷  -- 0.40 s
    row3 0_550 0_214 0_208 0_590 0_626 0_735 ∷  -- 0.50 s
    row3 0_568 0_227 0_221 0_612 0_650 0_628 ∷  -- 0.75 s
    row3 0_568 0_255 0_225 0_623 0_662 0_534 ∷  -- 1.0 s
    row3 0_564 0_296 0_222 0_637 0_675 0_411 ∷  -- 1.5 s
    row3 0_571 0_296 0_226 0_643 0_682 0_331 ∷  -- 2.0 s
    row3 0_558 0_326 0_229 0_646 0_686 0_289 ∷  -- 3.0 s
    row3 0_576 0_297 0_237 0_648 0_690 0_261 ∷  -- 4.0 s
    row3 0_601 0_359 0_237 0_700 0_739 0_200 ∷  -- 5.0 s
    row3 0_628 0_428 0_271 0_760 0_807 0_174 ∷  -- 7.5 s
    row3 0_667 0_485 0_290 0_825 0_874 0_174 ∷  -- 10.0 s
    row3 0_478 0_219 0_166 0_526 0_551 1_000 ∷  -- PGA
    row3 0_484 0_203 0_190 0_525 0_558 0_691 ∷  -- PGV
    row3 0_667 0_485 0_290 0_825 0_874 0_174 ∷  -- PGD
    []

-- past the end of Table 2: zeros
abbrev pub no_coefficients : Coefficients
no_coefficients = row2 (pos 0) 0 (pos 0) (pos 0) (pos 0) 0 0 0 (pos 0) 0 (pos 0) 0 0 0 (pos 0) 0

-- past the end of Table 3: zeros
abbrev pub no_deviations : Deviations
no_deviations = row3 0 0 0 0 0 0

-- the period of a measure
abbrev pub period_at : ℕ → ℕ
period_at i = get_or periods i 0

-- the coefficients of a measure
unfoldable pub coefficients_at : ℕ → Coefficients
coefficients_at i = get_or table2 i no_coefficients

-- the deviations of a measure
unfoldable pub deviations_at : ℕ → Deviations
deviations_at i = get_or table3 i no_deviations
