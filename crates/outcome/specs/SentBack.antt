-- A completed request sent again, what we estimated in it marked as inferred. Definitions only.
use Rattle.request.specs.declared.Request.{Request}
use Rattle.request.specs.Origins.{each, as_inferred}
use Rattle.outcome.specs.Answers.{completed}

unfoldable pub sent_back : Request → Request
unfolding each as_inferred completed
sent_back r = each as_inferred (completed r)
