-- An inferred figure is put after its "~", and nothing of an estimated one.
use Rattle.std.proofs.Common.{◌≡◌, [], ◌∷◌, ◌++◌, ap, sym, ℤ, w64, rules, arith}
use mir.Val.{SFits, to_z, of_z}
use mir.Facts.{to_z-of_z}
use Rattle.lent.proofs.PutLaws.{put-nothing, then}
use Rattle.numerals.specs.Render.{render_signed}
use Rattle.text.specs.Grammar.{tilde}
use Rattle.request.specs.declared.Field.{Field}
use Rattle.request.specs.declared.Field.TheVariants.{Inferred}
use Rattle.request_lines.specs.RequestText.{field_text}
use Rattle.request_lines.proofs.put_field.Goals as goal

inferred : (f : Field) (v : ℤ) → SFits w64 v → f ≡ Inferred v → field_text f ≡ (tilde ∷ []) ++ render_signed (to_z w64 (of_z w64 v))
unfolding field_text
inferred f v h e = rw e (ap (λ (z : ℤ). tilde ∷ render_signed z) (sym (to_z-of_z h)))

pub returns-in-Inferred : goal.returns-in-Inferred
returns-in-Inferred c =
    let v = c.in-Inferred.v in
    let fits : SFits w64 v = search rules in
    let e = inferred c.args.f v fits c.in-Inferred.is in
    rw e (then c.put_byte-p.ensures (render_signed (to_z w64 (of_z w64 v))) (rw e at c.requires) c.put_signed-in-Inferred.ensures)

pub returns-in-Estimated : goal.returns-in-Estimated
unfolding field_text
returns-in-Estimated c = rw c.in-Estimated.is (record { place = omega arith; became = put-nothing _ _ })
