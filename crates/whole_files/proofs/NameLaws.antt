-- There is room for any name: a folder's path, 11 bytes, two numbers of at most 20 digits each and a minus sign. Assumes nothing.
use Prim.Native.Nat.{ℕ, ◌≤◌, ◌<◌, ◌^◌}
use mathlib.Core.List.{List, ◌++◌}
use native.Mathlib.Omega.{arith}
use lib.ListN.{length, take, length-append, length-take}
use Rattle.cuts.specs.Cuts.{up_to}
use Rattle.numerals.specs.Render.{ascii, minus, render, ended}
use Rattle.numerals.proofs.RenderLaws.{length-render, length-ended}
use Rattle.whole_files.specs.Names.{longest_path, name_room, slash, name_of}

pub name_fits :
    (target : List ℕ) (process try : ℕ)
    → length target ≤ longest_path
    → process < 10 ^ 20
    → try < 10 ^ 20
    → length (name_of target process try) ≤ name_room
unfolding name_of ascii
name_fits target process try h hp ht =
    let folder = take (up_to slash target) target in
    let middle = folder ++ ascii ".xanhupive-" in
    omega (
      arith,
      length-append (middle ++ ended process minus) (render try),
      length-append middle (ended process minus),
      length-append folder (ascii ".xanhupive-"),
      length-take (up_to slash target) target,
      length-ended process minus,
      length-render 19 process hp,
      length-render 19 try ht,
    )
