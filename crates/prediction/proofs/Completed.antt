-- The completed figures of an accepted request lie in the ranges of which the model's laws speak. Assumes nothing.
use mathlib.Core.Path.{◌≡◌, sym, subst}
use Rattle.std.specs.Prelude.{None, Ok}
use Rattle.request.specs.declared.Request.{Request}
use Rattle.outcome.specs.Refusals.{refusal}
use Rattle.outcome.specs.Answers.{completed, completion_of}
use Rattle.outcome.proofs.ExactlyWhen.{stages, answered_with}
use Rattle.outcome.proofs.Ranges.{source_range, source_given_lem, top_range, path_range, path_given_lem}
use Rattle.outcome.proofs.SentBackWhole.{rrup-high, long-enough, site_rows_lem}
use Rattle.model.specs.Accuracy.{InRange}
use Rattle.prediction.specs.Spectra.{scenario_of}

pub accepted : (r c : Request) → completion_of r ≡ Ok c → refusal r ≡ None
unfolding completion_of
accepted r c e = (answered_with (refusal r) (completed r) c e).0

-- the figures of an accepted request
pub completed-is : (r c : Request) → completion_of r ≡ Ok c → completed r ≡ c
unfolding completion_of
completed-is r c e = sym (answered_with (refusal r) (completed r) c e).1

pub in_range_by : (r : Request) → refusal r ≡ None → InRange (scenario_of (completed r))
unfolding scenario_of completed
in_range_by r e =
    let t = stages r e in
    let s = source_range r (source_given_lem r t.source) in
    let p = path_range r (path_given_lem r t.path) in
    record {
      m_low = s.m_low;
      m_high = s.m_high;
      vs30-low = s.vs30-low;
      vs30-high = s.vs30-high;
      dip-high = s.dip-high;
      ztor-high = top_range r t.source;
      rjb-high = p.rjb-high;
      rrup-high = rrup-high r e;
      z25-high = (site_rows_lem r e).3;
      apart = long-enough r e;
    }

pub in_range : (r c : Request) → completion_of r ≡ Ok c → InRange (scenario_of c)
in_range r c e = subst (λ (d : Request). InRange (scenario_of d)) (completed-is r c e) (in_range_by r (accepted r c e))
