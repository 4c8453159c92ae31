-- The head with its count has room. Of the system it is assumed that each call returns.
use native.Mathlib.Omega.{arith}
use Rattle.site_files.proofs.HeadBack.{length_head}
use Rattle.file_streams.proofs.EndLaws.{within, stands}
use Rattle.file_streams.proofs.pack.end_pack.Goals as goal

pub shared_ref_as_front-put_count : goal.shared_ref_as_front-put_count
shared_ref_as_front-put_count g c = omega (arith, within (omega (arith, length_head c.args.count)) c.put_head-p.ensures)

pub put_count-requires : goal.put_count-requires
put_count-requires g c = stands (omega (arith, length_head c.args.count)) c.put_head-p.ensures
