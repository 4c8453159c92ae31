-- A reader in lent bytes: those of its unfinished line, and then how many these are. Definitions only.
use Rattle.std.specs.Prelude.{ℕ, ◌+◌, List, [], ◌∷◌, ◌++◌, get_or, take}
use Rattle.text.specs.Grammar.{longest}
use Rattle.lists.specs.declared.Reader.{Reader}

-- how many they are
abbrev pub reader_size : ℕ
reader_size = longest + 1

-- the bytes of a reader
unfoldable pub reader_bytes : Reader → List ℕ
reader_bytes r = r.held ++ (r.count ∷ [])

-- the reader in some bytes, whatever they are
unfoldable pub reader_in : List ℕ → Reader
reader_in b = record { held = take longest b; count = get_or b longest 0 }
