-- The folder is put, the middle, the process's number with a minus sign, and the number of the try: each has room where the name has.
use Rattle.std.proofs.Common.{◌≡◌, ◌≤◌, ◌<◌, ◌+◌, length, ℕ, List, ◌++◌}
use mathlib.Core.Path.{ap}
use native.Mathlib.Omega.{arith}
use lib.ListN.{take}
use Rattle.cuts.specs.Cuts.{up_to}
use Rattle.lent.specs.Lent.{Written}
use Rattle.lent.proofs.PutLaws.{length-put, shorter, room_after, then}
use Rattle.numerals.specs.Render.{ascii, minus, render, ended}
use Rattle.whole_files.specs.Names.{longest_path, name_room, slash, name_of}
use Rattle.whole_files.proofs.NameLaws.{name_fits}
use Rattle.whole_files.proofs.put_name.Goals as goal

-- the texts that grow: the folder, and one part more in each
module _ (t : List ℕ) where
  abbrev text0 : List ℕ
  text0 = take (up_to slash t) t

  abbrev text1 : List ℕ
  text1 = text0 ++ ascii ".xanhupive-"

  abbrev text2 : ℕ → List ℕ
  text2 process = text1 ++ ended process minus

-- each fits where the name does
module _ (b t : List ℕ) {process attempt : ℕ}
    (room : (length t ≤ longest_path) × (name_room ≤ length b))
    (hp : process < 18446744073709551616)
    (ht : attempt < 18446744073709551616) where
  room3 : 0 + length (text2 t process ++ render attempt) ≤ length b
  unfolding name_of
  room3 = omega (arith, name_fits t process attempt room.0 (omega (arith, hp)) (omega (arith, ht)), room.1)

  room2 : 0 + length (text1 t ++ ended process minus) ≤ length b
  room2 = shorter 0 (text2 t process) (render attempt) room3

  room1 : 0 + length (text0 t ++ ascii ".xanhupive-") ≤ length b
  room1 = shorter 0 (text1 t) (ended process minus) room2

  -- what is written after each call
  module _ {n p q : ℕ} {b₁ b₂ : List ℕ} (found : n ≡ up_to 47 t) (w : Written b 0 (take n t) p b₁) (v : Written b₁ p (ascii ".xanhupive-") q b₂) where
    w0 : Written b 0 (text0 t) p b₁
    w0 = rw (← ap (λ (m : ℕ). take m t) found) w

    w1 : Written b 0 (text1 t) q b₂
    w1 = then w0 (ascii ".xanhupive-") room1 v

    for_process : q + length (ended process minus) ≤ length b₂
    for_process = room_after w1 (ended process minus) room2

    module _ {r : ℕ} {b₃ : List ℕ} (u : Written b₂ q (ended process minus) r b₃) where
      w2 : Written b 0 (text2 t process) r b₃
      w2 = then w1 (ended process minus) room2 u

      for_attempt : r + length (render attempt) ≤ length b₃
      for_attempt = room_after w2 (render attempt) room3

      whole : {s : ℕ} {b₄ : List ℕ} → Written b₃ r (render attempt) s b₄ → Written b 0 (name_of t process attempt) s b₄
      unfolding name_of
      whole x = then w2 (render attempt) room3 x

pub put_ended-r-requires : goal.put_ended-r-requires
unfolding ascii
put_ended-r-requires c =
    for_process c.args.name.now c.args.target.now c.requires c.ranges.process.fits c.ranges.attempt.fits c.up_to_last-n.ensures.0 c.put_slice-p.ensures c.put_slice-q.ensures

pub put_number-requires : goal.put_number-requires
unfolding ascii
put_number-requires c =
    for_attempt c.args.name.now c.args.target.now c.requires c.ranges.process.fits c.ranges.attempt.fits c.up_to_last-n.ensures.0 c.put_slice-p.ensures c.put_slice-q.ensures c.put_ended-r.ensures

pub returns : goal.returns
unfolding ascii
returns c =
    let name = c.args.name.now in
    let target = c.args.target.now in
    let w : Written name 0 (name_of target c.args.process c.args.attempt) c.put_number.result c.put_number.new.b =
    whole name target c.requires c.ranges.process.fits c.ranges.attempt.fits c.up_to_last-n.ensures.0 c.put_slice-p.ensures c.put_slice-q.ensures c.put_ended-r.ensures c.put_number.ensures
    in
    let k = name_fits target c.args.process c.args.attempt c.requires.0 (omega (arith, c.ranges.process.fits)) (omega (arith, c.ranges.attempt.fits)) in
    record {
      written = w;
      within =
          omega (arith, w.place, ap length w.became, length-put name 0 (name_of target c.args.process c.args.attempt) (omega (arith, k, c.requires.1)), k, c.requires.1);
    }
