-- An answer whose given figures no longer say which were measured and which inferred. Definitions only.
use Rattle.std.specs.Prelude.{Result, Ok, Err}
use Rattle.request.specs.declared.Request.{Request}
use Rattle.request.specs.Origins.{forget}
use Rattle.refusals.specs.declared.Refusal.{Refusal}

unfoldable pub forgotten : Result Request Refusal → Result Request Refusal
unfolding forget
forgotten (Ok c) = Ok (forget c)
forgotten (Err n) = Err n
