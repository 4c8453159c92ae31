-- Bytes cut behind the last of a kind. Definitions only.
use Rattle.std.specs.Prelude.{ℕ, suc, cond, List, [], ◌∷◌, eqb}

-- how many bytes stand up to the last that is b, itself counted
unfoldable pub up_to : ℕ → List ℕ → ℕ
up_to b [] = 0
up_to b (c ∷ cs) = cond (eqb (up_to b cs) 0) (cond (eqb c b) 1 0) (suc (up_to b cs))
