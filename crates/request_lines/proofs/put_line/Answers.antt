-- The first field is put, then a space and a field as long as one is left, and the LF.
use Rattle.std.proofs.Common.{◌≡◌, ℕ, ◌+◌, ◌<◌, List, [], ◌∷◌, ◌++◌, length, arith}
use Rattle.lent.specs.Lent.{Written}
use Rattle.lent.proofs.PutLaws.{shorter, room_after, then}
use Rattle.lent.proofs.LeftLaws.{Left, all_left, less-left, none_left}
use Rattle.numerals.specs.Render.{lf, space}
use Rattle.request.specs.declared.Field.{Field}
use Rattle.text.specs.Grammar.{field_at}
use Rattle.request_lines.specs.RequestText.{field_text}
use Rattle.request_lines.proofs.RestLaws.{rest, behind, rest-field, rest-lf, line-behind, length-behind}
use Rattle.request_lines.proofs.put_line.Goals as goal

-- ---- the first field
pub put_field-p-requires : goal.put_field-p-requires
put_field-p-requires c =
    let f = c.fields_of-fields in
    shorter c.args.at (field_text (field_at f.result 0)) (rest (behind f.result) 0) (rw (line-behind c.args.r f.result f.ensures) at c.requires)

pub loop-f-init : goal.loop-f-init
loop-f-init c =
    let f = c.fields_of-fields in
    let w = c.put_field-p in (
      w.auto.b,
      all_left w.new.b w.result (rest (behind f.result) 0)
          (room_after w.ensures (rest (behind f.result) 0) (rw (line-behind c.args.r f.result f.ensures) at c.requires)),
    )

-- ---- a field more
-- a space is next
module _ {b : List ℕ} {p : ℕ} {s : List ℕ} {b₁ : List ℕ} {q : ℕ} (f : List Field) (k : ℕ) (inside : k < length f) (l : Left b p s b₁ q (rest f k)) where
  next : Left b p s b₁ q ((space ∷ []) ++ (field_text (field_at f k) ++ rest f (k + 1)))
  next = rw (rest-field f k inside) at l

  -- and then the field
  spaced : {r : ℕ} {b₂ : List ℕ} → Written b₁ q (space ∷ []) r b₂ → Left b p s b₂ r (field_text (field_at f k) ++ rest f (k + 1))
  spaced w = less-left (space ∷ []) (field_text (field_at f k) ++ rest f (k + 1)) next w

pub put_field-p-requires-in-loop-f : goal.put_field-p-requires-in-loop-f
put_field-p-requires-in-loop-f c =
    let f = behind c.fields_of-fields.result in
    let n : length f ≡ 12 = length-behind c.args.r c.fields_of-fields.result c.fields_of-fields.ensures in
    let k = c.loop-f.f-index in
    shorter c.put_byte-p.result (field_text (field_at f k)) (rest f (k + 1)) (spaced f k (omega arith) c.loop-f.invariant.1 c.put_byte-p.ensures).room

pub loop-f-preserved : goal.loop-f-preserved
loop-f-preserved c =
    let f = behind c.fields_of-fields.result in
    let n : length f ≡ 12 = length-behind c.args.r c.fields_of-fields.result c.fields_of-fields.ensures in
    let k = c.loop-f.f-index in
    let v = c.put_field-p-in-loop-f in (
      omega (arith, v.auto.b, c.put_byte-p.auto.b, c.loop-f.invariant.0),
      less-left (field_text (field_at f k)) (rest f (k + 1)) (spaced f k (omega arith) c.loop-f.invariant.1 c.put_byte-p.ensures) v.ensures,
    )

-- ---- the LF
pub returns : goal.returns
returns c =
    let f = c.fields_of-fields in
    let n : length (behind f.result) ≡ 12 = length-behind c.args.r f.result f.ensures in
    let e = rest-lf (behind f.result) c.loop-f.f-index (omega arith) in
    rw (line-behind c.args.r f.result f.ensures)
    (then c.put_field-p.ensures (rest (behind f.result) 0) (rw (line-behind c.args.r f.result f.ensures) at c.requires)
    (none_left (lf ∷ []) (rw e at c.loop-f.invariant.1) c.put_byte.ensures))
