-- The name under which a file is made until it is whole: beside its target, and another for each process and try. Definitions only.
use Rattle.std.specs.Prelude.{ℕ, List, ◌++◌, take}
use Rattle.cuts.specs.Cuts.{up_to}
use Rattle.numerals.specs.Render.{ascii, minus, render, ended}

-- how many bytes hold any path, with the 0 that ends it for the system
abbrev pub longest_path : ℕ
longest_path = 4096

-- how many hold any name: a path, and what is put behind its folder
abbrev pub name_room : ℕ
name_room = 4160

-- the byte "/"
abbrev pub slash : ℕ
slash = 47

-- in the target's folder, which its bytes up to the last slash name, by the process's number and how often it was tried
unfoldable pub name_of : List ℕ → ℕ → ℕ → List ℕ
unfolding up_to ascii render ended
name_of target process try = take (up_to slash target) target ++ ascii ".xanhupive-" ++ ended process minus ++ render try
