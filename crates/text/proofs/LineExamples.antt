-- Lines that the grammar takes, with what they say, and lines that it does not, worked out by the definition. Assumes nothing.
use Prim.Native.Nat.{ℕ}
use Prim.Native.String.{String}
use mathlib.Core.Path.{◌≡◌, refl}
use mathlib.Core.Bool.{Bool, true, ◌&&◌}
use mathlib.Core.List.{List, [], ◌∷◌}
use lib.IntN.{pos, negsuc}
use lib.ListN.{length}
use Rattle.std.specs.Prelude.{Some}
use Rattle.std.specs.Option.{is_none}
use Rattle.request.specs.declared.Field.TheVariants.{Measured, Inferred, Blank}
use Rattle.request.specs.declared.Request.{Request}
use Rattle.numerals.specs.Plain.{is_digit, digits_of}
use Rattle.text.specs.Grammar.{unsigned_of, negative, signed_of, field_of, space_at, signed_at, in_front, fields_of, request_of, line_of}
use Rattle.numerals.specs.Render.{ascii}

-- document 01's first line
abbrev first : Request
first =
    record {
      m = Measured (pos 650);
      rake = Measured (pos 0);
      vs30 = Measured (pos 760);
      dip = Blank;
      w = Measured (pos 10000);
      zhyp = Blank;
      ztor = Measured (pos 3000);
      rjb = Measured (pos 4000);
      azimuth = Measured (pos 30);
      rrup = Blank;
      z10 = Blank;
      z15 = Blank;
      z25 = Measured (pos 2000);
    }

-- a minus sign in rake and azimuth, and blanks that a later test refuses
abbrev signs : Request
signs =
    record {
      m = Blank;
      rake = Measured (negsuc 179);
      vs30 = Blank;
      dip = Measured (pos 0);
      w = Measured (pos 999999);
      zhyp = Measured (pos 1);
      ztor = Blank;
      rjb = Blank;
      azimuth = Measured (negsuc 0);
      rrup = Blank;
      z10 = Blank;
      z15 = Blank;
      z25 = Blank;
    }

-- every field inferred
abbrev inferred : Request
inferred =
    record {
      m = Inferred (pos 650);
      rake = Inferred (negsuc 89);
      vs30 = Inferred (pos 760);
      dip = Inferred (pos 40);
      w = Inferred (pos 10000);
      zhyp = Inferred (pos 0);
      ztor = Inferred (pos 3000);
      rjb = Inferred (pos 4000);
      azimuth = Inferred (pos 30);
      rrup = Inferred (pos 5000);
      z10 = Inferred (pos 100);
      z15 = Inferred (pos 200);
      z25 = Inferred (pos 2000);
    }

-- every field inferred with six digits, and a minus sign in both that may have one: 105 bytes
abbrev most : Request
most =
    record {
      m = Inferred (pos 999999);
      rake = Inferred (negsuc 999998);
      vs30 = Inferred (pos 999999);
      dip = Inferred (pos 999999);
      w = Inferred (pos 999999);
      zhyp = Inferred (pos 999999);
      ztor = Inferred (pos 999999);
      rjb = Inferred (pos 999999);
      azimuth = Inferred (negsuc 999998);
      rrup = Inferred (pos 999999);
      z10 = Inferred (pos 999999);
      z15 = Inferred (pos 999999);
      z25 = Inferred (pos 999999);
    }

abbrev most_text : List ℕ
most_text = ascii "~999999 ~-999999 ~999999 ~999999 ~999999 ~999999 ~999999 ~999999 ~-999999 ~999999 ~999999 ~999999 ~999999"

abbrev all_malformed : List String → Bool
all_malformed [] = true
all_malformed (t ∷ ts) = is_none (line_of (ascii t)) && all_malformed ts

examples :
    (line_of (ascii "650 0 760 - 10000 - 3000 4000 30 - - - 2000") ≡ Some first)
    × (line_of (ascii "- -180 - 0 999999 1 - - -1 - - - -") ≡ Some signs)
    × (line_of (ascii "~650 ~-90 ~760 ~40 ~10000 ~0 ~3000 ~4000 ~30 ~5000 ~100 ~200 ~2000") ≡ Some inferred)
    × (length most_text ≡ 105)
    × (line_of most_text ≡ Some most)
    × (all_malformed (
    -- no byte
    ""
    -- a space in front, behind, or two together
    ∷ " 650 0 760 - 10000 - 3000 4000 30 - - - 2000"
    ∷ "650 0 760 - 10000 - 3000 4000 30 - - - 2000 "
    ∷ "650 0  760 - 10000 - 3000 4000 30 - - - 2000"
    -- twelve fields, and fourteen
    ∷ "650 0 760 - 10000 - 3000 4000 30 - - -"
    ∷ "650 0 760 - 10000 - 3000 4000 30 - - - 2000 -"
    -- a leading zero, also after a minus sign
    ∷ "650 00 760 - 10000 - 3000 4000 30 - - - 2000"
    ∷ "650 -01 760 - 10000 - 3000 4000 30 - - - 2000"
    -- seven digits
    ∷ "650 0 760 - 1000000 - 3000 4000 30 - - - 2000"
    -- "-0", two minus signs, a plus sign
    ∷ "650 -0 760 - 10000 - 3000 4000 30 - - - 2000"
    ∷ "650 --1 760 - 10000 - 3000 4000 30 - - - 2000"
    ∷ "650 +1 760 - 10000 - 3000 4000 30 - - - 2000"
    -- a minus sign in a field other than rake and azimuth
    ∷ "-650 0 760 - 10000 - 3000 4000 30 - - - 2000"
    ∷ "650 0 760 - 10000 - 3000 -4000 30 - - - 2000"
    ∷ "650 0 ~-760 - 10000 - 3000 4000 30 - - - 2000"
    -- a "~" with nothing after it, before a space and at the end
    ∷ "650 ~ 760 - 10000 - 3000 4000 30 - - - 2000"
    ∷ "650 0 760 - 10000 - 3000 4000 30 - - - ~"
    -- a "~" before a blank, with and without a minus sign allowed
    ∷ "650 ~- 760 - 10000 - 3000 4000 30 - - - 2000"
    ∷ "650 0 760 ~- 10000 - 3000 4000 30 - - - 2000"
    -- two of them, one after the minus sign, one after the figure
    ∷ "650 ~~5 760 - 10000 - 3000 4000 30 - - - 2000"
    ∷ "650 -~5 760 - 10000 - 3000 4000 30 - - - 2000"
    ∷ "650 5~ 760 - 10000 - 3000 4000 30 - - - 2000"
    -- "-0" and a leading zero after one
    ∷ "650 ~-0 760 - 10000 - 3000 4000 30 - - - 2000"
    ∷ "650 ~05 760 - 10000 - 3000 4000 30 - - - 2000"
    -- seven digits after one
    ∷ "650 0 760 - ~1000000 - 3000 4000 30 - - - 2000"
    -- another byte among the digits
    ∷ "6.5 0 760 - 10000 - 3000 4000 30 - - - 2000"
    ∷ "650 0 760 - 10000 - 3000 4000 30 - - - 2000\r"
    ∷ [])
    ≡ true)
unfolding is_digit digits_of unsigned_of negative signed_of field_of space_at signed_at in_front fields_of request_of line_of ascii
examples = (refl, refl, refl, refl, refl, refl)
