-- Any two answers that a contract permits are equal: each is the one that its definition gives. Assumes nothing.
use mathlib.Core.Path.{◌≡◌, sym, ◌∙◌}
use Rattle.std.specs.Prelude.{Result}
use Rattle.request.specs.declared.Request.{Request}
use Rattle.refusals.specs.declared.Refusal.{Refusal}
use Rattle.outcome.specs.Answers.{completion_of}

pub one_answer : {A : Type 0} {x a b : A} → a ≡ x → b ≡ x → a ≡ b
one_answer p q = p ∙ sym q

pub one_completion : (r : Request) (a b : Result Request Refusal) → a ≡ completion_of r → b ≡ completion_of r → a ≡ b
one_completion r a b p q = one_answer p q
