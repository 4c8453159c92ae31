-- The measure number is put, ln median, the median and the total sigma, with the byte after each. Assumes nothing.
use Rattle.std.proofs.Common.{rules, ℕ, List, [], ◌∷◌, ◌++◌, ◌+◌, ◌≤◌, length, w64}
use mir.Val.{SFits}
use mir.Facts.{to_z-of_z}
use Rattle.model.specs.declared.Shown.{Shown}
use Rattle.lent.specs.Lent.{Written}
use Rattle.lent.proofs.PutLaws.{shorter, room_after, then}
use Rattle.numerals.specs.Render.{lf, space, render_signed, ended}
use Rattle.answer.specs.RowLines.{row_line}
use Rattle.answer.proofs.rows.put_row.Goals as goal

-- the texts that grow
module _ (k : ℕ) (r : Shown) where
  abbrev text0 : List ℕ
  text0 = ended k space

  abbrev text1 : List ℕ
  text1 = text0 ++ render_signed r.ln

  abbrev text2 : List ℕ
  text2 = text1 ++ (space ∷ [])

  abbrev text3 : List ℕ
  text3 = text2 ++ ended r.median space

-- each fits where the line does
module _ (at k : ℕ) (r : Shown) (n : ℕ) (h : at + length (row_line k r) ≤ n) where
  room4 : at + length (text3 k r ++ ended r.sigma lf) ≤ n
  unfolding row_line
  room4 = h

  room3 : at + length (text2 k r ++ ended r.median space) ≤ n
  room3 = shorter at (text3 k r) (ended r.sigma lf) room4

  room2 : at + length (text1 k r ++ (space ∷ [])) ≤ n
  room2 = shorter at (text2 k r) (ended r.median space) room3

  room1 : at + length (text0 k r ++ render_signed r.ln) ≤ n
  room1 = shorter at (text1 k r) (space ∷ []) room2

  room0 : at + length (text0 k r) ≤ n
  room0 = shorter at (text0 k r) (render_signed r.ln) room1

pub put_ended-at-requires : goal.put_ended-at-requires
put_ended-at-requires c = room0 c.args.at c.args.k c.args.row (length c.args.out.now) c.requires

pub put_signed-at-requires : goal.put_signed-at-requires
put_signed-at-requires c =
    let fits : SFits w64 c.args.row.ln = search rules in
    simp (to_z-of_z fits)
    (room_after c.put_ended-at.ensures (render_signed c.args.row.ln) (room1 c.args.at c.args.k c.args.row (length c.args.out.now) c.requires))

-- what is written after each call
module _ {b : List ℕ} {at : ℕ} (k : ℕ) (r : Shown) (h : at + length (row_line k r) ≤ length b) where
  module _ {p₀ p₁ : ℕ} {b₀ b₁ : List ℕ} (w₀ : Written b at (text0 k r) p₀ b₀) (w₁ : Written b₀ p₀ (render_signed r.ln) p₁ b₁) where
    put1 : Written b at (text1 k r) p₁ b₁
    put1 = then w₀ (render_signed r.ln) (room1 at k r (length b) h) w₁

    module _ {p₂ : ℕ} {b₂ : List ℕ} (w₂ : Written b₁ p₁ (space ∷ []) p₂ b₂) where
      put2 : Written b at (text2 k r) p₂ b₂
      put2 = then put1 (space ∷ []) (room2 at k r (length b) h) w₂

      module _ {p₃ : ℕ} {b₃ : List ℕ} (w₃ : Written b₂ p₂ (ended r.median space) p₃ b₃) where
        put3 : Written b at (text3 k r) p₃ b₃
        put3 = then put2 (ended r.median space) (room3 at k r (length b) h) w₃

pub put_byte-at-requires : goal.put_byte-at-requires
put_byte-at-requires c =
    let fits : SFits w64 c.args.row.ln = search rules in
    room_after (put1 c.args.k c.args.row c.requires c.put_ended-at.ensures (simp (to_z-of_z fits) at c.put_signed-at.ensures)) (space ∷ [])
    (room2 c.args.at c.args.k c.args.row (length c.args.out.now) c.requires)

pub put_ended-at-requires-2 : goal.put_ended-at-requires-2
put_ended-at-requires-2 c =
    let fits : SFits w64 c.args.row.ln = search rules in
    room_after (put2 c.args.k c.args.row c.requires c.put_ended-at.ensures (simp (to_z-of_z fits) at c.put_signed-at.ensures) c.put_byte-at.ensures)
    (ended c.args.row.median space) (room3 c.args.at c.args.k c.args.row (length c.args.out.now) c.requires)

pub put_ended-requires : goal.put_ended-requires
put_ended-requires c =
    let fits : SFits w64 c.args.row.ln = search rules in
    room_after
    (put3 c.args.k c.args.row c.requires c.put_ended-at.ensures (simp (to_z-of_z fits) at c.put_signed-at.ensures) c.put_byte-at.ensures c.put_ended-at-2.ensures)
    (ended c.args.row.sigma lf) (room4 c.args.at c.args.k c.args.row (length c.args.out.now) c.requires)

pub returns : goal.returns
unfolding row_line
returns c =
    let fits : SFits w64 c.args.row.ln = search rules in
    then
    (put3 c.args.k c.args.row c.requires c.put_ended-at.ensures (simp (to_z-of_z fits) at c.put_signed-at.ensures) c.put_byte-at.ensures c.put_ended-at-2.ensures)
    (ended c.args.row.sigma lf) (room4 c.args.at c.args.k c.args.row (length c.args.out.now) c.requires)
    c.put_ended.ensures
