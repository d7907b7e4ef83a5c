use Rattle.feedback.proofs.Syncs.{syncs}
use Rattle.feedback.proofs.sync.synchronize.Goals as goal

pub synchronize-requires : goal.synchronize-requires
synchronize-requires c = search syncs

pub returns : goal.returns
returns c = search syncs
