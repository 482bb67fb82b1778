-- `path::draw::put` meets its contract: the three places hold the point's coordinates.
use Rattle.path.proofs.Turns.{point_put}
use Rattle.path.proofs.draw.put.Goals as goal

pub returns : goal.returns
returns c = point_put _ _ c.requires
